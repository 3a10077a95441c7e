-- Laws of the first case that applies.
use Prim.Native.Nat.{ℕ, ◌<◌}
use native.Mathlib.Omega.{arith}
use mathlib.Core.Path.{◌≡◌, refl, sym, ap, ◌∙◌}
use mathlib.Core.Bool.{Bool, true, false, not, ◌&&◌}
use mathlib.Core.List.{List, [], ◌∷◌, ◌++◌}
use lib.ListN.{length}
use lib.Dec.{eqb}
use borrow.Author.Tests.{eq-eqb, ne_eqb, eqb-true, eqb-false, not-true}
use Rattle.cases.proofs.Tests.{and_split}
use Rattle.cases.specs.Cases.{Case, ◌⇒◌, if, first, done}

-- ---- a list read, for the proofs of code: a case skipped, the case that applies, the end

pub data Says : List Case → ℕ → Type 0 where
  skip : {b : Bool} {m n : ℕ} {cs : List Case} → b ≡ false → Says cs n → Says (b ⇒ m ∷ cs) n
  here : {b : Bool} {m : ℕ} {cs : List Case} → b ≡ true → Says (b ⇒ m ∷ cs) m
  nothing : Says [] 0

pub says : {cs : List Case} {n : ℕ} → Says cs n → first cs ≡ n
unfolding first
says nothing = refl
says (here p) = rw p
says (skip p q) = rw p (says q)

-- ---- what is done

pub done_0 : {A : Type 0} (n : ℕ) (a b : A) → n ≡ 0 → done n a b ≡ a
done_0 n a b p = rw (eq-eqb n 0 p)

pub done_not : {A : Type 0} (n : ℕ) (a b : A) → 0 < n → done n a b ≡ b
done_not n a b h = rw (ne_eqb n 0 (λ p. omega arith))

-- a call that is done emits as many bytes as its answer says, and a refused call none
pub done_length : {A : Type 0} (len : A → ℕ) (n : ℕ) (a b : A) (bytes : List ℕ) → (n ≡ 0 → length bytes ≡ len a) → len b ≡ 0
    → length (done n bytes []) ≡ len (done n a b)
done_length len n a b bytes p q = by (eqb n 0) refl
  where
    by : (t : Bool) → eqb n 0 ≡ t → length (if t bytes []) ≡ len (if t a b)
    by true e = p (eqb-true n 0 e)
    by false e = sym q

-- ---- two lists in a row

-- every case has a number that isn't 0
unfoldable pub numbered : List Case → Bool
numbered [] = true
numbered ((b ⇒ m) ∷ cs) = not (eqb m 0) && numbered cs

append_step : (b : Bool) (m k : ℕ) (cs : Bool) (n l : ℕ) → not (eqb m 0) && cs ≡ true → (cs ≡ true → k ≡ done n l n) → if b m k ≡ done (if b m n) l (if b m n)
append_step true m k cs n l p f = sym (done_not m l m (omega (arith, eqb-false m 0 (not-true _ (and_split (not (eqb m 0)) cs p).0))))
append_step false m k cs n l p f = f (and_split (not (eqb m 0)) cs p).1

-- the first of two lists is the first of their numbers
pub first_append : (us vs : List Case) → numbered us ≡ true → first (us ++ vs) ≡ done (first us) (first vs) (first us)
unfolding first numbered
first_append [] vs p = refl
first_append ((b ⇒ m) ∷ us) vs p = append_step b m (first (us ++ vs)) (numbered us) (first us) (first vs) p (first_append us vs)

-- so for code that asked two functions
pub in_order_lem : (us vs : List Case) {a b r : ℕ} → numbered us ≡ true → a ≡ first us → b ≡ first vs → r ≡ done a b a → r ≡ first (us ++ vs)
in_order_lem us vs {a} {b} p q s t = t ∙ ap (λ (n : ℕ). done n b n) q ∙ ap (λ (m : ℕ). done (first us) m (first us)) s ∙ sym (first_append us vs p)

-- ---- a case by its number

-- the test of the case with number n
unfoldable pub test : List Case → ℕ → Bool
test [] n = false
test ((b ⇒ m) ∷ cs) n = if (eqb m n) b (test cs n)

clear_step : (b e : Bool) (m k : ℕ) (t : Bool) → (m ≡ 0 → ⊥) → if b m k ≡ 0 → (k ≡ 0 → t ≡ false) → if e b t ≡ false
clear_step true e m k t d p f = absurd (d p)
clear_step false true m k t d p f = refl
clear_step false false m k t d p f = f p

-- where the number is 0, no case's test holds
pub clear : (cs : List Case) (n : ℕ) → numbered cs ≡ true → first cs ≡ 0 → test cs n ≡ false
unfolding first test numbered
clear [] n d p = refl
clear ((b ⇒ m) ∷ cs) n d p =
    let s = and_split (not (eqb m 0)) (numbered cs) d in
    clear_step b (eqb m n) m (first cs) (test cs n) (eqb-false m 0 (not-true _ s.0)) p (clear cs n s.1)
