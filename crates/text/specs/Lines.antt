-- Lines (document 01, "The line program"): "ended by LF; a last line without LF counts if not empty".
use Rattle.std.specs.Prelude.{ℕ, List, [], ◌∷◌, ◌++◌, eqb}
use Rattle.cases.specs.Cases.{if}

abbrev pub lf : ℕ
lf = 10

-- one more character before a first line; where there is no line, it makes one
abbrev pub grow : ℕ → List (List ℕ) → List (List ℕ)
grow c [] = (c ∷ []) ∷ []
grow c (l ∷ ls) = (c ∷ l) ∷ ls

unfoldable pub lines : List ℕ → List (List ℕ)
lines [] = []
lines (c ∷ cs) = if (eqb c lf) ([] ∷ lines cs) (grow c (lines cs))

-- the characters before the first that is `stop`
unfoldable pub until : ℕ → List ℕ → List ℕ
until stop [] = []
until stop (c ∷ cs) = if (eqb c stop) [] (c ∷ until stop cs)

-- the characters before the first LF
abbrev pub first_line : List ℕ → List ℕ
first_line text = until lf text

-- ---- the text from its lines

-- each line with its LF
unfoldable pub joined : List (List ℕ) → List ℕ
joined [] = []
joined (l ∷ ls) = l ++ (lf ∷ joined ls)

-- the text with an LF at its end, where it isn't empty and has none there
unfoldable pub ended : List ℕ → List ℕ
ended [] = []
ended (c ∷ []) = if (eqb c lf) (c ∷ []) (c ∷ lf ∷ [])
ended (c ∷ d ∷ ds) = c ∷ ended (d ∷ ds)
