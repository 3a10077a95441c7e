-- Laws of bytes read from their text, two characters a byte, and what the code's loop keeps.
use Prim.Native.Nat.{ℕ, ◌+◌, ◌*◌, ◌≤◌, ◌<◌}
use native.Mathlib.Omega.{arith}
use mathlib.Core.Path.{◌≡◌, refl, sym, ap, ◌∙◌}
use mathlib.Core.List.{List, [], ◌∷◌, ◌++◌, append_assoc, append-nil}
use lib.ListN.{length, get_or, length-append}
use Rattle.text.specs.declared.writer.Writer.{Writer}
use Rattle.text.specs.Hex.{hex_byte, from_hex}
use Rattle.text.specs.Writing.{Written}
use Rattle.text.proofs.Bytes.{length_from}
use Rattle.text.proofs.Writing.{nothing, then}

from_pair : (p rest : List ℕ) → length p ≡ 2 → from_hex (p ++ rest) ≡ hex_byte (get_or p 0 0) (get_or p 1 0) ∷ from_hex rest
unfolding from_hex
from_pair [] rest h = absurd (omega arith)
from_pair (a ∷ []) rest h = absurd (omega arith)
from_pair (a ∷ b ∷ []) rest h = refl
from_pair (a ∷ b ∷ c ∷ cs) rest h = absurd (omega arith)

from_rest : (t : List ℕ) → length t < 2 → from_hex t ≡ []
unfolding from_hex
from_rest [] h = refl
from_rest (a ∷ []) h = refl
from_rest (a ∷ b ∷ t) h = absurd (omega arith)

-- what the loop over pairs keeps: what is written and what is to come make the whole
pub record Decoding (text : List ℕ) (w₀ w : Writer) (rest : List ℕ) (size : ℕ) : Type 0 where
  pub same : w.out.ghost_name ≡ w₀.out.ghost_name
  pub done : List ℕ
  pub written : Written w₀ done w
  pub whole : done ++ from_hex rest ≡ from_hex text
  pub pairs : size ≡ 2

pub decode_first : (text : List ℕ) (w : Writer) (rest : List ℕ) (size : ℕ) → rest ≡ text → size ≡ 2 → Decoding text w w rest size
decode_first text w rest size e h = record { same = refl; done = []; written = nothing w; whole = ap from_hex e; pairs = h }

module _ {text : List ℕ} {w₀ w : Writer} {rest : List ℕ} {size : ℕ} where
  -- one byte more, for which there is room
  pub decode_on : {more : List ℕ} {size' b : ℕ} {w' : Writer} (p : List ℕ) → Decoding text w₀ w rest size → size' ≡ size → rest ≡ p ++ more → length p ≡ size
      → b ≡ hex_byte (get_or p 0 0) (get_or p 1 0) → Written w (b ∷ []) w' → Decoding text w₀ w' more size'
  decode_on {more} {size'} {b} {w'} p g z s l e u =
      let o : b ∷ from_hex more ≡ from_hex rest =
      ap (λ (x : ℕ). x ∷ from_hex more) e ∙ sym (from_pair p more (l ∙ g.pairs)) ∙ ap from_hex (sym s) in
      record {
        same = u.same ∙ g.same;
        done = g.done ++ (b ∷ []);
        written = then g.written u;
        whole = append_assoc g.done (b ∷ []) (from_hex more) ∙ ap (λ (x : List ℕ). g.done ++ x) o ∙ g.whole;
        pairs = z ∙ g.pairs;
      }

  pub decode_room : (p more : List ℕ) → Decoding text w₀ w rest size → w₀.at ≡ 0 → length text ≤ 2 * length w₀.out.now → rest ≡ p ++ more
      → length p ≡ size → w.at < length w.out.now
  decode_room p more g z h s l =
      let n : length g.done + length (from_hex rest) ≡ length (from_hex text) = sym (length-append g.done (from_hex rest)) ∙ ap length g.whole in
      let k : length rest ≡ length p + length more = ap length s ∙ length-append p more in
      omega (arith, n, k, l, g.pairs, length_from rest, length_from text, g.written.wrote.behind, g.written.long)

  pub decode_last : Decoding text w₀ w rest size → length rest < size → Written w₀ (from_hex text) w
  decode_last g h =
      let k : length rest < 2 = omega (arith, g.pairs) in
      let e : g.done ≡ from_hex text = sym (append-nil g.done) ∙ ap (λ (x : List ℕ). g.done ++ x) (sym (from_rest rest k)) ∙ g.whole in
      rw e at g.written
