-- The line program (document 01, "The line program"): from the input's bytes to the report's bytes, in the document's order. What is made of one line
-- is in crate fed, how a line of the report reads in crate report.
use Rattle.std.specs.Prelude.{ℕ, suc, List, [], ◌∷◌, ◌++◌, take}
use Rattle.text.specs.Lines.{lines}
use Rattle.report.specs.Rows.{end_row}
use Rattle.table.specs.declared.end.Role.TheVariants.{Server}
use Rattle.table.specs.declared.end.End.{End}
use Rattle.table.specs.Slots.{held_count}
use Rattle.table.specs.End.{start_of}
use Rattle.fed.specs.Line.{line_text, end_after}

-- ---- standard input, at most 65,536 bytes (more is dropped), as lines of lower-case hexadecimal, one frame a line

abbrev pub input_limit : ℕ
input_limit = 65536

-- ---- each line is told of, and fed if it is a frame (fed/specs/Line.antt)

-- last comes `end`, `up` or `down`, and the sessions held
abbrev pub end_text : End → List ℕ
end_text e = end_row e.up (held_count e.slots)

-- every line counts
unfoldable pub report : ℕ → End → List (List ℕ) → List ℕ
report n e [] = end_text e
report n e (line ∷ more) = line_text n e line ++ report (suc n) (end_after e line) more

unfoldable pub feed_text : List ℕ → List ℕ
feed_text input = report 1 (start_of Server) (lines (take input_limit input))
