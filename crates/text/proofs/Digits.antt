-- Laws of one digit: what the code finds by comparing, and that a digit and its character determine each other.
use Prim.Native.Nat.{ℕ, ◌+◌, ◌-◌, ◌<◌, ◌≤◌}
use native.Mathlib.Omega.{arith}
use mathlib.Core.Path.{◌≡◌, refl, ◌∙◌}
use mathlib.Core.Bool.{Bool, true, false}
use lib.Dec.{ltb, leb}
use borrow.Author.Tests.{lt-ltb, le-ltb, le-leb, lt-leb, leb-true, leb-false, ltb-true, ltb-false, eqb-false, not-true}
use Rattle.text.specs.Hex.{glyph, digit_value, is_digit}

module _ (c : ℕ) where
  pub value_below : c < 48 → digit_value c ≡ 16
  unfolding digit_value
  value_below h = rw (lt-leb 48 c h, lt-leb 97 c (omega arith))

  pub value_number : 48 ≤ c → c ≤ 57 → digit_value c ≡ c - 48
  unfolding digit_value
  value_number h k = rw (le-leb 48 c h, le-leb c 57 k)

  pub value_between : 57 < c → c < 97 → digit_value c ≡ 16
  unfolding digit_value
  value_between h k = rw (le-leb 48 c (omega arith), lt-leb c 57 h, lt-leb 97 c k)

  pub value_letter : 97 ≤ c → c ≤ 102 → digit_value c ≡ c - 87
  unfolding digit_value
  value_letter h k = rw (le-leb 48 c (omega arith), lt-leb c 57 (omega arith), le-leb 97 c h, le-leb c 102 k)

  pub value_above : 102 < c → digit_value c ≡ 16
  unfolding digit_value
  value_above h = rw (le-leb 48 c (omega arith), lt-leb c 57 (omega arith), le-leb 97 c (omega arith), lt-leb c 102 h)

-- a character is a number, a letter, or no digit
pub data Read (c : ℕ) : Type 0 where
  number : 48 ≤ c → c ≤ 57 → Read c
  letter : 97 ≤ c → c ≤ 102 → Read c
  other : digit_value c ≡ 16 → Read c

pub read : (c : ℕ) → Read c
read c = by (ltb c 48) refl (leb c 57) refl (ltb c 97) refl (leb c 102) refl
  where
    by : (p : Bool) → ltb c 48 ≡ p → (q : Bool) → leb c 57 ≡ q → (r : Bool) → ltb c 97 ≡ r → (s : Bool) → leb c 102 ≡ s → Read c
    by true e q f r g s h = other (value_below c (ltb-true c 48 e))
    by false e true f r g s h = number (ltb-false c 48 e) (leb-true c 57 f)
    by false e false f true g s h = other (value_between c (leb-false c 57 f) (ltb-true c 97 g))
    by false e false f false g true h = letter (ltb-false c 97 g) (leb-true c 102 h)
    by false e false f false g false h = other (value_above c (leb-false c 102 h))

pub value_most : (c : ℕ) → digit_value c ≤ 16
value_most c = by (read c)
  where
    by : Read c → digit_value c ≤ 16
    by (number h k) = omega (arith, value_number c h k)
    by (letter h k) = omega (arith, value_letter c h k)
    by (other e) = omega arith

pub glyph_low : (d : ℕ) → d < 10 → glyph d ≡ 48 + d
glyph_low d h = rw (lt-ltb d 10 h)

pub glyph_high : (d : ℕ) → 10 ≤ d → glyph d ≡ 87 + d
glyph_high d h = rw (le-ltb d 10 h)

-- a digit from its character
pub glyph_value : (d : ℕ) → d < 16 → digit_value (glyph d) ≡ d
glyph_value d h = by (ltb d 10) refl
  where
    by : (b : Bool) → ltb d 10 ≡ b → digit_value (glyph d) ≡ d
    by true e = rw (glyph_low d (ltb-true d 10 e)) (value_number (48 + d) (omega arith) (omega (arith, ltb-true)) ∙ omega arith)
    by false e = rw (glyph_high d (ltb-false d 10 e)) (value_letter (87 + d) (omega (arith, ltb-false)) (omega arith) ∙ omega arith)

-- a digit's character from its value
pub value_glyph : (c : ℕ) → is_digit c ≡ true → (glyph (digit_value c) ≡ c) × (digit_value c < 16)
value_glyph c p = by (read c)
  where
    by : Read c → (glyph (digit_value c) ≡ c) × (digit_value c < 16)
    by (number h k) =
        let e : digit_value c ≡ c - 48 = value_number c h k in
        (glyph_low (digit_value c) (omega arith) ∙ omega arith, omega arith)
    by (letter h k) =
        let e : digit_value c ≡ c - 87 = value_letter c h k in
        (glyph_high (digit_value c) (omega arith) ∙ omega arith, omega arith)
    by (other e) = absurd (eqb-false (digit_value c) 16 (not-true _ p) e)
