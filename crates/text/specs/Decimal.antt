-- Decimal numbers: the fewest digits of a number; 0 is `0`.
use Rattle.std.specs.Prelude.{ℕ, zero, suc, ◌+◌, ◌*◌, ◌/◌, ◌%◌, List, [], ◌∷◌, ◌++◌, ltb}
use Rattle.cases.specs.Cases.{if}
use Rattle.text.specs.Hex.{glyph, digit_value}

-- at most so many digits, the last one behind those of n / 10
unfoldable pub digits : ℕ → ℕ → List ℕ
digits zero n = []
digits (suc most) n = if (ltb n 10) (glyph n ∷ []) (digits most (n / 10) ++ (glyph (n % 10) ∷ []))

-- a number n has at most n + 1 digits, so this leaves none out
unfoldable pub decimal : ℕ → List ℕ
decimal n = digits (suc n) n

-- what digits say, read from the front, behind those that said v
unfoldable pub said : ℕ → List ℕ → ℕ
said v [] = v
said v (c ∷ cs) = said (v * 10 + digit_value c) cs
