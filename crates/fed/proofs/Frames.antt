-- Laws of one frame and one line.
use Prim.Native.Nat.{ℕ, ◌*◌, ◌≤◌}
use mathlib.Core.Path.{◌≡◌, refl, sym, ap, ◌∙◌}
use mathlib.Core.Bool.{Bool, true, false}
use mathlib.Core.List.{List}
use lib.ListN.{length, take, drop}
use lib.Seq.{take_at}
use lib.Dec.{leb}
use borrow.Author.Tests.{leb-true}
use Rattle.buffer.specs.Onto.{onto}
use Rattle.cases.specs.Cases.{if}
use Rattle.cases.proofs.Tests.{and_split}
use Rattle.text.specs.Hex.{is_hex, from_hex}
use Rattle.report.specs.declared.Line.{Line}
use Rattle.report.specs.declared.Line.TheVariants.{Bad}
use Rattle.table.specs.Limits.{base}
use Rattle.take.specs.Take.{take_storage}
use Rattle.report.specs.Rows.{bad_text}
use Rattle.report.specs.Lines.{line_row}
use Rattle.report.proofs.Rows.{frame_line}
use Rattle.table.specs.declared.end.End.{End}
use Rattle.fed.specs.Line.{frame_limit, is_frame, taken, end_taken, end_after, unread_after, frame_text, line_text}
use Rattle.fed.specs.Parts.{frame_told, line_told, line_storage}

pub frame_length : (line : List ℕ) → is_frame line ≡ true → length line ≤ 2 * frame_limit
frame_length line p = leb-true (length line) (2 * frame_limit) (and_split (is_hex line) (leb (length line) (2 * frame_limit)) p).1

-- what was decoded stands at the front of a buffer
pub decoded : (line b b' : List ℕ) (k : ℕ) → b' ≡ onto (from_hex line) b → k ≡ length (from_hex line) → take k b' ≡ from_hex line
decoded line b b' k o q = let f : List ℕ = from_hex line in ap (take k) o ∙ take_at f (drop (length f) b) k (sym q)

-- what a take of the decoded frame gives and leaves is what the line does
pub fed_frame : (e : End) (line : List ℕ) → is_frame line ≡ true → (b b' : List ℕ) (k : ℕ) (r : Line) (e' : End) (lent exit : List ℕ)
    → b' ≡ onto (from_hex line) b → k ≡ length (from_hex line)
    → (r ≡ frame_told e (take k b')) × (e' ≡ end_taken e (take k b')) × (exit ≡ take_storage base e (take k b') lent)
    → (r ≡ line_told e line) × (e' ≡ end_after e line) × (exit ≡ line_storage e line lent)
unfolding line_told end_after line_storage
fed_frame e line p b b' k r e' lent exit o q g =
    let l = decoded line b b' k o q in (
      g.0 ∙ ap (frame_told e) l ∙ sym (rw p refl),
      g.1 ∙ ap (end_taken e) l ∙ sym (rw p refl),
      g.2 ∙ ap (λ (f : List ℕ). take_storage base e f lent) l ∙ sym (rw p refl),
    )

-- the report's line is that of the definition
line_step : (b : Bool) (n : ℕ) (e : End) (f : List ℕ) → line_row n (if b (frame_told e f) Bad) ≡ if b (frame_text n e f) (bad_text n)
line_step true n e f = frame_line n (taken e f).number f (unread_after e f)
line_step false n e f = refl

pub line_fed : (n : ℕ) (e : End) (line : List ℕ) → line_row n (line_told e line) ≡ line_text n e line
unfolding line_told line_text
line_fed n e line = line_step (is_frame line) n e (from_hex line)
