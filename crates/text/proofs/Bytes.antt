-- Laws of bytes as text: where each digit and each byte stands, and that text and bytes determine each other.
use Prim.Native.Nat.{ℕ, zero, suc, ◌+◌, ◌*◌, ◌/◌, ◌%◌, ◌<◌, ◌≤◌}
use native.Mathlib.Omega.{arith}
use native.Mathlib.Numerals.{add-one}
use native.Mathlib.Nat.{not-suc-le-zero, le_of_suc-le-suc}
use mathlib.Core.Path.{◌≡◌, refl, ap, ◌∙◌}
use mathlib.Core.Bool.{Bool, true, false, ◌&&◌}
use mathlib.Core.List.{List, [], ◌∷◌, ◌++◌}
use lib.ListN.{length, get_or, take}
use lib.Seq.{length-take-le}
use lib.Dec.{eqb}
use borrow.Author.Tests.{eq-eqb, eqb-true}
use Rattle.std.specs.Prelude.{Some, None, is_some}
use Rattle.cases.specs.Cases.{if}
use Rattle.cases.proofs.Tests.{and_split, never}
use Rattle.text.specs.Hex.{glyph, digit_value, is_digit, digit_of, all_digits, is_hex, byte_digits, hex_byte, from_hex, to_hex}
use Rattle.text.proofs.Digits.{glyph_value, value_glyph}

-- ---- each a digit

some_step : (b : Bool) (n : ℕ) → is_some (if b (Some n) None) ≡ b
some_step true n = refl
some_step false n = refl

pub digit_found : (c : ℕ) → is_some (digit_of c) ≡ is_digit c
digit_found c = some_step (is_digit c) (digit_value c)

-- ---- two digits a byte

pub length_to : (bs : List ℕ) → length (to_hex bs) ≡ 2 * length bs
unfolding to_hex
length_to [] = refl
length_to (b ∷ bs) = omega (arith, length_to bs)

pub length_from : (t : List ℕ) → length (from_hex t) ≡ length t / 2
unfolding from_hex
length_from [] = refl
length_from (a ∷ []) = refl
length_from (a ∷ b ∷ t) = omega (arith, length_from t)

-- one byte more has two digits more
pub to_push : (bs : List ℕ) (i : ℕ) → i < length bs → to_hex (take (i + 1) bs) ≡ to_hex (take i bs) ++ byte_digits (get_or bs i 0)
unfolding to_hex
to_push [] i h = absurd (not-suc-le-zero h)
to_push (b ∷ bs) zero h = refl
to_push (b ∷ bs) (suc i) h = rw (add-one (suc i)) (ap (λ (l : List ℕ). glyph (b / 16) ∷ glyph (b % 16) ∷ l) (rw add-one at (to_push bs i (le_of_suc-le-suc h))))

pub length_taken : (bs : List ℕ) (i : ℕ) → i ≤ length bs → length (to_hex (take i bs)) ≡ 2 * i
length_taken bs i h = length_to (take i bs) ∙ ap (λ (n : ℕ). 2 * n) (length-take-le i bs h)

-- ---- bytes from their text

whole : (b : ℕ) → b < 256 → hex_byte (glyph (b / 16)) (glyph (b % 16)) ≡ b
whole b h = rw (glyph_value (b / 16) (omega arith), glyph_value (b % 16) (omega arith)) (omega arith)

pub from_to : (bs : List ℕ) → ((i : ℕ) → i < length bs → get_or bs i 0 < 256) → from_hex (to_hex bs) ≡ bs
unfolding from_hex to_hex
from_to [] h = refl
from_to (b ∷ bs) h = rw (whole b (h 0 (omega arith)), from_to bs (λ i k. h (suc i) (omega arith)))

-- ---- text from its bytes

halves : (a b : ℕ) → is_digit a ≡ true → is_digit b ≡ true → (glyph (hex_byte a b / 16) ≡ a) × (glyph (hex_byte a b % 16) ≡ b)
halves a b p q =
    let va = value_glyph a p in
    let vb = value_glyph b q in
    let la : digit_value a < 16 = va.1 in
    let lb : digit_value b < 16 = vb.1 in
    let high : hex_byte a b / 16 ≡ digit_value a = omega arith in
    let low : hex_byte a b % 16 ≡ digit_value b = omega arith in
    (ap glyph high ∙ va.0, ap glyph low ∙ vb.0)

pub to_from : (t : List ℕ) → is_hex t ≡ true → to_hex (from_hex t) ≡ t
unfolding from_hex to_hex
to_from [] p = refl
to_from (a ∷ []) p = never p
to_from (a ∷ b ∷ t) p =
    let s = and_split (eqb (length (a ∷ b ∷ t) % 2) 0) (is_digit a && (is_digit b && all_digits t)) p in
    let even : suc (suc (length t)) % 2 ≡ 0 = eqb-true (suc (suc (length t)) % 2) 0 s.0 in
    let u = and_split (is_digit a) (is_digit b && all_digits t) s.1 in
    let v = and_split (is_digit b) (all_digits t) u.1 in
    let w = halves a b u.0 v.0 in
    let rest : is_hex t ≡ true = rw (eq-eqb (length t % 2) 0 (omega arith)) v.1 in
    rw (w.0, w.1, to_from t rest)
