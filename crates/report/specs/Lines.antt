-- A line as the code has it, the parts that it writes, and how long a line gets. No definition of a row cites this file.
use Rattle.std.specs.Prelude.{ℕ, List, [], ◌∷◌}
use Rattle.text.specs.Decimal.{decimal}
use Rattle.report.specs.declared.Told.{Told}
use Rattle.report.specs.declared.Line.{Line}
use Rattle.report.specs.declared.Line.TheVariants.{Bad, Frame}
use Rattle.report.specs.Rows.{space, row, sid_text, bad_text}

-- a line's number has at most five digits
abbrev pub line_limit : ℕ
line_limit = 99999

-- no line but the last is longer: 5 digits for the line, 3 for the answer, 4 for the SID, 10 for any number of 32 bits, three spaces and LF
abbrev pub row_limit : ℕ
row_limit = 26

-- nor is the last line longer: 3 letters, 4 letters, 10 digits, two spaces and LF
abbrev pub last_limit : ℕ
last_limit = 20

-- what is told of a frame
abbrev pub line_of : ℕ → List ℕ → ℕ → Line
line_of answer frame unread = Frame record { answer = answer; sid = sid_text frame; unread = unread }

-- a row from what is told
abbrev pub told_row : ℕ → Told → List ℕ
told_row n t = row (decimal n ∷ decimal t.answer ∷ t.sid ∷ decimal t.unread ∷ [])

-- a line of the report: `bad`, or what is told of a frame
abbrev pub line_row : ℕ → Line → List ℕ
line_row n Bad = bad_text n
line_row n (Frame t) = told_row n t

-- a space and a number
abbrev pub number_word : ℕ → List ℕ
number_word n = space ∷ decimal n
