-- One line of the input of the line program (document 01, "The line program"): what is a frame, what take answers to it, and what the report says of
-- it. How a line of the report reads is in crate report.
use Rattle.std.specs.Prelude.{ℕ, ◌*◌, Bool, ◌&&◌, List, length, leb}
use Rattle.cases.specs.Cases.{if}
use Rattle.wire.specs.Packet.{read_header}
use Rattle.text.specs.Hex.{is_hex, from_hex}
use Rattle.report.specs.Rows.{is_short, frame_row, bad_text}
use Rattle.session.specs.Record.{payload_limit}
use Rattle.table.specs.declared.end.End.{End}
use Rattle.table.specs.Slots.{unread_of}
use Rattle.table.specs.End.{slot_count}
use Rattle.table.specs.Limits.{base}
use Rattle.table.specs.Storage.{storage_length}
use Rattle.take.specs.Take.{TakeAnswer}
use Rattle.take.specs.Take.{take_of}

-- ---- lower-case hexadecimal, one frame a line

-- a frame has at most 528 bytes
abbrev pub frame_limit : ℕ
frame_limit = 528

-- no odd count of digits, no other character, not over 528 bytes; an empty line is a frame of no bytes
abbrev pub is_frame : List ℕ → Bool
is_frame line = is_hex line && leb (length line) (2 * frame_limit)

-- ---- each frame goes once to take of one fresh server; bytes after the first packet are dropped

-- take's answer depends on the storage's length alone, and the storage has 32,768 bytes
abbrev pub taken : End → List ℕ → TakeAnswer
taken e frame = take_of base e frame (storage_length payload_limit slot_count)

-- the server after a frame's take
abbrev pub end_taken : End → List ℕ → End
end_taken e frame = (taken e frame).end

-- the unread packets of the frame's session (0 where there is no session), after the take
unfoldable pub unread_for : End → List ℕ → ℕ
unread_for e frame = if (is_short frame) 0 (unread_of (read_header frame).sid e.slots)

abbrev pub unread_after : End → List ℕ → ℕ
unread_after e frame = unread_for (end_taken e frame) frame

-- ---- it prints the line number, take's answer, the frame's SID and that session's unread packets

abbrev pub frame_text : ℕ → End → List ℕ → List ℕ
frame_text n e frame = frame_row n (taken e frame).number frame (unread_after e frame)

-- or the line number and `bad`, and feeds nothing
unfoldable pub line_text : ℕ → End → List ℕ → List ℕ
line_text n e line = if (is_frame line) (frame_text n e (from_hex line)) (bad_text n)

unfoldable pub end_after : End → List ℕ → End
end_after e line = if (is_frame line) (end_taken e (from_hex line)) e
