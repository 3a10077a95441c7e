-- From a list of tests to the same list in plain words: where each test is its plain case, the first that applies is the same in both.
use Prim.Native.Nat.{ℕ, ◌<◌, ◌≤◌}
use native.Mathlib.Omega.{arith}
use mathlib.Core.Path.{◌≡◌, refl, sym, ◌∙◌, subst}
use mathlib.Core.Bool.{Bool, true, false, not}
use mathlib.Core.List.{List, [], ◌∷◌}
use lib.Dec.{eqb, ltb}
use borrow.Author.Tests.{ltb-true, ltb-false, eqb-true, eqb-false, not-true, not-false}
use Rattle.cases.specs.Cases.{Case, ◌⇒◌, if, first}
use Rattle.cases.proofs.Tests.{never}
use Rattle.laws.specs.When.{When, when, Applies, here, later, Clear, none, past, Exactly}

-- the test b is the plain case w, both ways
pub record Is (b : Bool) (w : When) : Type 0 where
  pub yes : b ≡ true → w.applies
  pub no : b ≡ false → w.passes
  pub yes_back : w.applies → b ≡ true
  pub no_back : w.passes → b ≡ false

pub data Match : List Case → List When → Type 1 where
  ends : Match [] []
  goes : {b : Bool} {m : ℕ} {cs : List Case} {w : When} {ws : List When} → m ≡ w.number → (m ≡ 0 → ⊥) → Is b w → Match cs ws → Match (b ⇒ m ∷ cs) (w ∷ ws)

-- ---- each number exactly in its case

only : {cs : List Case} {ws : List When} → Match cs ws → (n : ℕ) → first cs ≡ n → (n ≡ 0 → ⊥) → Applies ws n
unfolding first
only ends n p z = absurd (z (sym p))
only (goes {b = b} {m = m} {cs = cs} {w = w} {ws = ws} q d i k) n p z = by b i p (only k n)
  where
    by : (t : Bool) → Is t w → if t m (first cs) ≡ n → (first cs ≡ n → (n ≡ 0 → ⊥) → Applies ws n) → Applies (w ∷ ws) n
    by true i p f = subst (Applies (w ∷ ws)) (sym q ∙ p) (here (i.yes refl))
    by false i p f = later (i.no refl) (f p z)

taken : (t : Bool) (m k : ℕ) → t ≡ true → if t m k ≡ m
taken t m k p = rw p

passed : (t : Bool) (m k : ℕ) → t ≡ false → if t m k ≡ k
passed t m k p = rw p

always : {cs : List Case} {ws : List When} {n : ℕ} → Applies ws n → Match cs ws → first cs ≡ n
unfolding first
always (here a) (goes {b = b} {m = m} {cs = cs} q d i k) = taken b m (first cs) (i.yes_back a) ∙ q
always (later p r) (goes {b = b} {m = m} {cs = cs} q d i k) = passed b m (first cs) (i.no_back p) ∙ always r k

only_0 : {cs : List Case} {ws : List When} → Match cs ws → first cs ≡ 0 → Clear ws
unfolding first
only_0 ends p = none
only_0 (goes {b = b} {m = m} {cs = cs} {w = w} {ws = ws} q d i k) p = by b i p (only_0 k)
  where
    by : (t : Bool) → Is t w → if t m (first cs) ≡ 0 → (first cs ≡ 0 → Clear ws) → Clear (w ∷ ws)
    by true i p f = absurd (d p)
    by false i p f = past (i.no refl) (f p)

always_0 : {cs : List Case} {ws : List When} → Clear ws → Match cs ws → first cs ≡ 0
unfolding first
always_0 none ends = refl
always_0 (past p r) (goes {b = b} {m = m} {cs = cs} q d i k) = passed b m (first cs) (i.no_back p) ∙ always_0 r k

pub exactly : {cs : List Case} {ws : List When} {given : ℕ} → Match cs ws → given ≡ first cs → Exactly given ws
exactly m p = record {
  only = λ n q z. only m n (sym p ∙ q) z;
  always = λ n a. p ∙ always a m;
  only_0 = λ q. only_0 m (sym p ∙ q);
  always_0 = λ c. p ∙ always_0 c m;
}

-- ---- tests and their plain words

-- a test by its two answers
pub is : (b : Bool) {n : ℕ} {A P : Type 0} → (b ≡ true → A) → (b ≡ false → P) → (A → P → ⊥) → Is b (when n A P)
is b {n} {A} {P} f g apart = record { yes = f; no = g; yes_back = by b f g; no_back = by' b f g }
  where
    by : (t : Bool) → (t ≡ true → A) → (t ≡ false → P) → A → t ≡ true
    by true y q a = refl
    by false y q a = absurd (apart a (q refl))

    by' : (t : Bool) → (t ≡ true → A) → (t ≡ false → P) → P → t ≡ false
    by' true y q p = absurd (apart (y refl) p)
    by' false y q p = refl

-- the same where the test's negation is asked
pub isnt : (b : Bool) {n : ℕ} {A P : Type 0} → (b ≡ false → A) → (b ≡ true → P) → (A → P → ⊥) → Is (not b) (when n A P)
isnt b f g apart = is (not b) (λ p. f (not-true b p)) (λ p. g (not-false b p)) apart

-- a test said as it stands
pub plainly : (b : Bool) {n : ℕ} → Is (not b) (when n (b ≡ false) (b ≡ true))
plainly b = isnt b (λ p. p) (λ p. p) (λ p q. never (sym p ∙ q))

pub below : (a b : ℕ) {n : ℕ} → Is (ltb a b) (when n (a < b) (b ≤ a))
below a b = is (ltb a b) (ltb-true a b) (ltb-false a b) (λ p q. omega arith)

pub equal : (a b : ℕ) {n : ℕ} → Is (eqb a b) (when n (a ≡ b) (a ≡ b → ⊥))
equal a b = is (eqb a b) (eqb-true a b) (eqb-false a b) (λ p q. q p)
