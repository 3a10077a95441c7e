-- Laws of the words: slots and words put one by one, as the code goes, are those of the definitions.
use Prim.Native.Nat.{ℕ, zero, suc, ◌+◌, ◌<◌, ◌≤◌}
use native.Mathlib.Omega.{arith}
use native.Mathlib.Numerals.{add-one}
use native.Mathlib.Nat.{add-suc}
use native.Mathlib.Decide.{dec_lt}
use mathlib.Core.Path.{◌≡◌, refl, sym, ap, subst, ◌∙◌}
use mathlib.Core.List.{List, [], ◌∷◌, ◌++◌, map}
use lib.ListN.{length, get_or, drop, set, drop_of_length-le}
use lib.Seq.{sets, drop-cons, set_out}
use Rattle.std.specs.Array.{IsFromFnResult, IsFromFnResultFrom}
use Rattle.std.specs.List.{range_with_len}
use Rattle.std.proofs.lemmas.List.FromFn.{fill_by_all}
use denote.Param.Members.{Mut, Called}
use Rattle.session.specs.declared.record.Session.{Session}
use Rattle.session.proofs.Past.{past}
use Rattle.table.specs.declared.end.End.{End}
use Rattle.crossing.specs.Crossing.{slot_at, slot_words, session_from, slots_from, role_word, up_word, session_words, slots_words, words_of, over}

-- ---- slots from words

slots_range : (w : List ℕ) (i n : ℕ) → slots_from w i n ≡ map (session_from w) (range_with_len i n)
unfolding slots_from
slots_range w i zero = refl
slots_range w i (suc n) = rw (slots_range w (suc i) n, add-one)

-- a closure that changes nothing gives each slot from its words
module _ {F : Type 0} (g : Mut F (ℕ × Unit {0}) Session) (f : F) (w : List ℕ) (xs : List Session) (n : ℕ)
    (each : (i : ℕ) (x : Session) (f' : F) → i < n → Called g f (i, tt) x f' → (f' ≡ f) × (x ≡ session_from w i)) where
  slot_made : (i more : ℕ) → i + more ≡ n → IsFromFnResultFrom g f xs i more → (k : ℕ) → i ≤ k → k < n → get_or xs k past ≡ session_from w k
  slot_made i zero e m k l h = absurd (omega arith)
  slot_made i (suc more) e (f', x, is, call, rest) k l h =
      let now = each i x f' (omega arith) call in
      elim (dec_lt i k) as (λ _. get_or xs k past ≡ session_from w k) [
        | yes later ↦ slot_made (i + 1) more (omega arith) (subst (λ (q : F). IsFromFnResultFrom g q xs (i + 1) more) now.0 rest) k (omega arith) h
        | no here ↦ let q : k ≡ i = omega arith in rw q (is.1 past ∙ now.1)
      ]

  pub slots_made : IsFromFnResult g f xs n → xs ≡ slots_from w 0 n
  slots_made m =
      fill_by_all (session_from w) xs n past m.long (λ k h. slot_made 0 n (omega arith) m.each k (omega arith) h) ∙ sym (slots_range w 0 n)

-- ---- words put one by one

sets_cons : (y : ℕ) (w : List ℕ) (i : ℕ) (vs : List ℕ) → sets (y ∷ w) (suc i) vs ≡ y ∷ sets w i vs
sets_cons y w i [] = refl
sets_cons y w i (a ∷ vs) = sets_cons y (set w i a) (suc i) vs

sets_nil : (i : ℕ) (vs : List ℕ) → sets [] i vs ≡ []
sets_nil i [] = refl
sets_nil i (a ∷ vs) = sets_nil (suc i) vs

sets_over : (vs w : List ℕ) → sets w 0 vs ≡ over vs w
unfolding over
sets_over vs [] = sets_nil 0 vs
sets_over [] (y ∷ w) = refl
sets_over (a ∷ vs) (y ∷ w) = sets_cons a w 0 vs ∙ ap (λ (r : List ℕ). a ∷ r) (sets_over vs w)

sets_append : (w : List ℕ) (i : ℕ) (a b : List ℕ) → sets (sets w i a) (i + length a) b ≡ sets w i (a ++ b)
sets_append w i [] b = ap (λ (k : ℕ). sets w k b) (omega arith)
sets_append w i (x ∷ a) b =
    ap (λ (k : ℕ). sets (sets (set w i x) (suc i) a) k b) (omega arith) ∙ sets_append (set w i x) (suc i) a b

-- a word is put, and the rest from the next on
pub sets_on : (a w : List ℕ) (at k : ℕ) → k < length a
    → sets w (at + k) (drop k a) ≡ sets (set w (at + k) (get_or a k 0)) (at + (k + 1)) (drop (k + 1) a)
sets_on a w at k h = rw (drop-cons a k 0 h, add-one, add-suc)

-- past the last word nothing is put
pub put_past : (w : List ℕ) (i x : ℕ) → length w ≤ i → set w i x ≡ w
put_past = set_out

pub sets_end : (a w : List ℕ) (at k : ℕ) → length a ≤ k → sets w at (drop k a) ≡ w
sets_end a w at k h = rw (drop_of_length-le a h)

-- ---- and slots

pub slots_on : (xs : List Session) (w : List ℕ) (i : ℕ) → i < length xs
    → sets w (slot_at i) (slots_words (drop i xs))
    ≡ sets (sets w (slot_at i) (session_words (get_or xs i past))) (slot_at (i + 1)) (slots_words (drop (i + 1) xs))
unfolding slots_words session_words
slots_on xs w i h =
    let x = get_or xs i past in
    let n : slot_at i + slot_words ≡ slot_at (i + 1) = omega arith in
    rw (drop-cons xs i past h, ← sets_append w (slot_at i) (session_words x) (slots_words (drop (suc i) xs)), n, add-one)

pub slots_end : (xs : List Session) (w : List ℕ) (i : ℕ) → length xs ≤ i → sets w (slot_at i) (slots_words (drop i xs)) ≡ w
unfolding slots_words
slots_end xs w i h = rw (drop_of_length-le xs h)

-- role and up come first
pub end_words : (e : End) (w v : List ℕ) (r u : ℕ) → r ≡ role_word e.role → u ≡ up_word e.up → v ≡ sets w 0 (r ∷ u ∷ [])
    → sets v 2 (slots_words e.slots) ≡ over (words_of e) w
unfolding words_of
end_words e w v r u p q a = rw (a, p, q) (sets_over (words_of e) w)
