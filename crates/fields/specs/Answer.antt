-- The answer line: what is put behind the characters that stand in it. What there is no room for is left out.
use Rattle.std.specs.Prelude.{ℕ, ◌+◌, ◌*◌, List, [], ◌∷◌, ◌++◌, length, eqb, leb}
use Rattle.std.specs.List.{fold}
use Rattle.cases.specs.Cases.{if}
use Rattle.text.specs.Decimal.{decimal}
use Rattle.text.specs.Hex.{to_hex}

-- the most characters that a line has
abbrev pub longest : ℕ
longest = 32832

-- a text behind a line in which so many places are free
abbrev pub behind : ℕ → List ℕ → List ℕ → List ℕ
behind places text line = if (leb (length line + places) longest) (line ++ text) line

-- a space, before every field but the first
abbrev pub spaced : List ℕ → List ℕ
spaced line = if (eqb (length line) 0) line (behind 1 (32 ∷ []) line)

-- a field of characters
abbrev pub word : List ℕ → List ℕ → List ℕ
word chars line = behind (length chars) chars (spaced line)

-- decimal digits, for which ten places are free
abbrev pub digits : ℕ → List ℕ → List ℕ
digits n line = behind 10 (decimal n) line

-- a field of decimal digits
abbrev pub number : ℕ → List ℕ → List ℕ
number n line = digits n (spaced line)

-- numbers, each behind a mark
abbrev pub each : ℕ → List ℕ → List ℕ → List ℕ
each mark numbers line = fold (λ so_far n. digits n (behind 1 (mark ∷ []) so_far)) line numbers

-- a field of bytes, two hexadecimal digits each; 45 is `-`, for none
abbrev pub bytes : List ℕ → List ℕ → List ℕ
bytes b line = if (eqb (length b) 0) (behind 1 (45 ∷ []) (spaced line)) (behind (2 * length b) (to_hex b) (spaced line))
