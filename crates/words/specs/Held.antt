-- The line that isn't ended yet: its characters so far, and nothing where it is too long.
use Rattle.std.specs.Prelude.{ℕ, ◌+◌, Bool, false, List, ◌++◌, length, eqb, leb, Option, Some, None}
use Rattle.cases.specs.Cases.{if}

abbrev pub longest_line : ℕ
longest_line = 16384

-- the line with some characters more; one that was too long stays too long
abbrev pub joined : Option (List ℕ) → List ℕ → Option (List ℕ)
joined None part = None
joined (Some line) part = if (leb (length line + length part) longest_line) (Some (line ++ part)) None

-- no character came; a line that is too long isn't empty
abbrev pub is_empty : Option (List ℕ) → Bool
is_empty None = false
is_empty (Some line) = eqb (length line) 0
