-- How long a line and its parts get, and that the lines of the report are those of what is told.
use Prim.Native.Nat.{ℕ, ◌^◌, ◌≤◌, ◌<◌}
use native.Mathlib.Omega.{arith}
use mathlib.Core.Path.{◌≡◌, refl}
use mathlib.Core.Bool.{Bool, true, false}
use mathlib.Core.List.{List}
use lib.ListN.{length, length-append}
use borrow.Author.Tests.{lt-ltb, le-ltb}
use Rattle.wire.specs.Packet.{header_length, read_header}
use Rattle.text.specs.Decimal.{decimal}
use Rattle.text.specs.Letters.{letters}
use Rattle.text.proofs.Decimals.{decimal_most, most_ten}
use Rattle.report.specs.declared.Told.{Told}
use Rattle.report.specs.Rows.{sid_digits, sid_text, bad_text, frame_row, end_row}
use Rattle.report.specs.Lines.{line_limit, row_limit, last_limit, line_of, told_row, line_row}

pub most_three : (n : ℕ) → n < 256 → length (decimal n) ≤ 3
most_three n h = decimal_most 2 n (omega arith)

pub most_five : (n : ℕ) → n ≤ line_limit → length (decimal n) ≤ 5
most_five n h = decimal_most 4 n (omega arith)

pub bad_length : (n : ℕ) → n ≤ line_limit → length (bad_text n) ≤ row_limit
unfolding bad_text
bad_length n h = let i = most_five n h in simp length-append (omega arith)

pub row_length : (n : ℕ) (t : Told) → length (decimal n) ≤ 5 → length (decimal t.answer) ≤ 3 → length t.sid ≡ 4 → length (decimal t.unread) ≤ 10
    → length (told_row n t) ≤ row_limit
row_length n t h i j k = simp length-append (omega arith)

pub told_length : (n : ℕ) (t : Told) → n ≤ line_limit → t.answer < 256 → length t.sid ≡ 4 → t.unread < 2 ^ 32 → length (told_row n t) ≤ row_limit
told_length n t h a s u = row_length n t (most_five n h) (most_three t.answer a) s (most_ten t.unread u)

pub last_length : (up : Bool) (held : ℕ) → length (decimal held) ≤ 10 → length (end_row up held) ≤ last_limit
unfolding end_row
last_length true held h = simp length-append (omega arith)
last_length false held h = simp length-append (omega arith)

-- ---- the SID

pub sid_short : (frame : List ℕ) → length frame < header_length → sid_text frame ≡ letters "----"
unfolding sid_text
sid_short frame h = rw (lt-ltb (length frame) header_length h)

pub sid_long : (frame : List ℕ) → header_length ≤ length frame → sid_text frame ≡ sid_digits (read_header frame).sid
unfolding sid_text
sid_long frame h = rw (le-ltb (length frame) header_length h)

-- the rows of the report are those of its lines
pub frame_line : (n answer : ℕ) (frame : List ℕ) (unread : ℕ) → line_row n (line_of answer frame unread) ≡ frame_row n answer frame unread
unfolding frame_row
frame_line n answer frame unread = refl
