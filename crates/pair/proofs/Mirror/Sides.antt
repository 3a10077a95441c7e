-- The two sides: what holds at one side and at the other holds at both; and a step replaces both.
use mathlib.Core.Path.{◌≡◌, refl}
use Rattle.pair.specs.Side.{Side, client, server, other}
use Rattle.pair.specs.World.{with}

pub sides : (P : Side → Type 0) (k : Side) → P k → P (other k) → (j : Side) → P j
sides P client p q client = p
sides P client p q server = q
sides P server p q client = q
sides P server p q server = p

module _ {A : Type 0} (k : Side) (a b : A) (f : Side → A) where
  pub with_own : with k a (with (other k) b f) k ≡ a
  with_own = by k
    where
      by : (k : Side) → with k a (with (other k) b f) k ≡ a
      by client = refl
      by server = refl

  pub with_other : with k a (with (other k) b f) (other k) ≡ b
  with_other = by k
    where
      by : (k : Side) → with k a (with (other k) b f) (other k) ≡ b
      by client = refl
      by server = refl

-- so what holds of what they become holds of both
pub with_sides : {A B : Type 0} (P : Side → A → B → Type 0) (f : Side → A) (g : Side → B) (k : Side) {a a' : A} {b b' : B} → P k a b → P (other k) a' b'
    → (j : Side) → P j (with k a (with (other k) a' f) j) (with k b (with (other k) b' g) j)
with_sides P f g client p q client = p
with_sides P f g client p q server = q
with_sides P f g server p q client = q
with_sides P f g server p q server = p
