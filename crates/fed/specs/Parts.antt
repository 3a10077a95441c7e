-- What the code makes of a line, and of the storage. No contract of `feed` cites this file.
use Rattle.std.specs.Prelude.{ℕ, List, Option, Some, None}
use Rattle.cases.specs.Cases.{if}
use Rattle.text.specs.Hex.{from_hex}
use Rattle.report.specs.declared.Line.{Line}
use Rattle.report.specs.declared.Line.TheVariants.{Bad}
use Rattle.report.specs.Lines.{line_of}
use Rattle.table.specs.declared.end.End.{End}
use Rattle.table.specs.Limits.{base}
use Rattle.take.specs.Take.{take_storage}
use Rattle.fed.specs.Line.{is_frame, taken, unread_after}

-- the frame that a line is
abbrev pub frame_of : List ℕ → Option (List ℕ)
frame_of line = if (is_frame line) (Some (from_hex line)) None

-- what the report tells of a frame
abbrev pub frame_told : End → List ℕ → Line
frame_told e frame = line_of (taken e frame).number frame (unread_after e frame)

-- the same of a line
unfoldable pub line_told : End → List ℕ → Line
line_told e line = if (is_frame line) (frame_told e (from_hex line)) Bad

-- and the storage after it
unfoldable pub line_storage : End → List ℕ → List ℕ → List ℕ
line_storage e line lent = if (is_frame line) (take_storage base e (from_hex line) lent) lent
