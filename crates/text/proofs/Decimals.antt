-- Laws of decimal numbers: digit by digit, as the code goes; how many digits there are; that they say the number, with no zero in front.
use Prim.Native.Nat.{ℕ, zero, suc, ◌+◌, ◌*◌, ◌/◌, ◌%◌, ◌^◌, ◌<◌, ◌≤◌}
use native.Mathlib.Omega.{arith}
use native.Mathlib.Nat.{not-suc-le-zero, div-lt_iff_lt-mul}
use mathlib.Core.Path.{◌≡◌, refl, ap}
use mathlib.Core.Bool.{Bool, true, false}
use mathlib.Core.List.{List, [], ◌∷◌, ◌++◌}
use lib.ListN.{length, get_or, length-append}
use lib.Dec.{ltb}
use borrow.Author.Tests.{lt-ltb, le-ltb, ltb-true, ltb-false}
use Rattle.cases.specs.Cases.{if}
use Rattle.text.specs.Hex.{glyph, digit_value}
use Rattle.text.specs.Decimal.{digits, decimal, said}
use Rattle.text.proofs.Digits.{glyph_value, glyph_low}

-- any bound over the number will do
enough_step : (b : Bool) (n : ℕ) (x y : List ℕ) → (b ≡ false → x ≡ y) → if b (glyph n ∷ []) (x ++ (glyph (n % 10) ∷ [])) ≡ if b (glyph n ∷ [])
    (y ++ (glyph (n % 10) ∷ []))
enough_step true n x y p = refl
enough_step false n x y p = rw (p refl)

enough : (f g n : ℕ) → n < f → n < g → digits f n ≡ digits g n
unfolding digits
enough zero g n h k = absurd (not-suc-le-zero h)
enough (suc f) zero n h k = absurd (not-suc-le-zero k)
enough (suc f) (suc g) n h k = enough_step (ltb n 10) n (digits f (n / 10)) (digits g (n / 10))
    (λ e. let l : 10 ≤ n = ltb-false n 10 e in enough f g (n / 10) (omega arith) (omega arith))

-- ---- digit by digit

pub decimal_low : (n : ℕ) → n < 10 → decimal n ≡ glyph n ∷ []
unfolding decimal digits
decimal_low n h = rw (lt-ltb n 10 h)

pub decimal_high : (n : ℕ) → 10 ≤ n → decimal n ≡ decimal (n / 10) ++ (glyph (n % 10) ∷ [])
unfolding decimal digits
decimal_high n h = rw (le-ltb n 10 h) (ap (λ (l : List ℕ). l ++ (glyph (n % 10) ∷ [])) (enough n (suc (n / 10)) (n / 10) (omega arith) (omega arith)))

-- a number below ten, or its higher digits with one more
pub data Spelled (n : ℕ) : Type 0 where
  low : n < 10 → Spelled n
  high : 10 ≤ n → Spelled n

pub spelled : (n : ℕ) → Spelled n
spelled n = by (ltb n 10) refl
  where
    by : (b : Bool) → ltb n 10 ≡ b → Spelled n
    by true e = low (ltb-true n 10 e)
    by false e = high (ltb-false n 10 e)

-- ---- how many the code writes

pub length_low : (n : ℕ) → n < 10 → length (decimal n) ≡ 1
length_low n h = rw (decimal_low n h)

pub length_high : (n : ℕ) → 10 ≤ n → length (decimal n) ≡ length (decimal (n / 10)) + 1
length_high n h = rw (decimal_high n h, length-append)

-- ---- how many digits

-- a number below ten times a power has one digit more than one below the power
pub decimal_most : (k n : ℕ) → n < 10 ^ suc k → length (decimal n) ≤ suc k
decimal_most zero n h = rw (decimal_low n h) (omega arith)
decimal_most (suc k) n h = by (spelled n) (decimal_most k (n / 10) ((div-lt_iff_lt-mul {k = 10} {x = n} {y = 10 ^ suc k} (omega arith)).1 (omega arith)))
  where
    by : Spelled n → length (decimal (n / 10)) ≤ suc k → length (decimal n) ≤ suc (suc k)
    by (low l) p = rw (decimal_low n l) (omega arith)
    by (high l) p = rw (decimal_high n l, length-append) (omega arith)

-- a number of 32 bits has ten at most
pub most_ten : (n : ℕ) → n < 2 ^ 32 → length (decimal n) ≤ 10
most_ten n h = decimal_most 9 n (omega arith)

-- ---- the digits say the number

said_append : (v : ℕ) (a b : List ℕ) → said v (a ++ b) ≡ said (said v a) b
unfolding said
said_append v [] b = refl
said_append v (c ∷ cs) b = said_append (v * 10 + digit_value c) cs b

said_most : (most n : ℕ) → n < most → said 0 (decimal n) ≡ n
unfolding said
said_most zero n h = absurd (not-suc-le-zero h)
said_most (suc most) n h = by (spelled n) (said_most most (n / 10))
  where
    by : Spelled n → (n / 10 < most → said 0 (decimal (n / 10)) ≡ n / 10) → said 0 (decimal n) ≡ n
    by (low l) f = rw (decimal_low n l, glyph_value n (omega arith)) (omega arith)
    by (high l) f = rw (decimal_high n l, said_append, f (omega arith), glyph_value (n % 10) (omega arith)) (omega arith)

pub decimal_says : (n : ℕ) → said 0 (decimal n) ≡ n
decimal_says n = said_most (suc n) n (omega arith)

-- ---- no zero in front, but for 0 itself; so there is no shorter way to say the number

first_of : (a b : List ℕ) → 0 < length a → get_or (a ++ b) 0 0 ≡ get_or a 0 0
first_of [] b h = absurd (not-suc-le-zero h)
first_of (x ∷ a) b h = refl

some : (n : ℕ) → 0 < length (decimal n)
some n = by (spelled n)
  where
    by : Spelled n → 0 < length (decimal n)
    by (low l) = rw (decimal_low n l) (omega arith)
    by (high l) = rw (decimal_high n l, length-append) (omega arith)

first_most : (most n : ℕ) → n < most → 0 < n → 48 < get_or (decimal n) 0 0
first_most zero n h p = absurd (not-suc-le-zero h)
first_most (suc most) n h p = by (spelled n) (first_most most (n / 10))
  where
    by : Spelled n → (n / 10 < most → 0 < n / 10 → 48 < get_or (decimal (n / 10)) 0 0) → 48 < get_or (decimal n) 0 0
    by (low l) f = rw (decimal_low n l, glyph_low n l) (omega arith)
    by (high l) f = rw (decimal_high n l, first_of (decimal (n / 10)) (glyph (n % 10) ∷ []) (some (n / 10))) (f (omega arith) (omega arith))

pub no_zero_in_front : (n : ℕ) → 0 < n → 48 < get_or (decimal n) 0 0
no_zero_in_front n = first_most (suc n) n (omega arith)
