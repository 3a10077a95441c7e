-- Means of proof. What a call of a half comes to: a refusal that harms nobody, from 4 on, in the state that it was in, or what the call gives
-- when it is done. The cases of each call are gone through here once: what holds of each outcome holds of the call.
use Prim.Native.Nat.{ℕ, ◌<◌}
use native.Mathlib.Omega.{arith}
use mathlib.Core.Path.{◌≡◌, refl, ◌∙◌}
use mathlib.Core.Bool.{Bool, true, false, not, cond, ◌&&◌, ◌||◌}
use mathlib.Core.List.{List, [], ◌∷◌}
use lib.Dec.{T, leb, ltb, eqb, leb→le, not_T}
use Rattle.pair.proofs.Lane.Half.{Bytes, St, est, fs, fr, gone, Body, s_of, Out, Room, refuse, unless_all, unless_past, shut, tight, goes, send}
use Rattle.pair.proofs.Lane.Half.{cramped, later, due, noticed, quiet, read_one, read_last, read_e, read_r, read, ending, close}

-- numbers that harm nobody: no fault, not 1 (the end is down), not 12 (it is ill made)
abbrev pub harmless : ℕ → Bool
harmless n = ltb n 20 && (not (eqb n 1) && not (eqb n 12))

module _ (P : Out → Type 0) (B : Body) where
  -- it holds of every refusal in state s
  abbrev pub Refusals : St → Type 0
  Refusals s = (n : ℕ) → T (leb 4 n) → T (harmless n) → P (refuse n s B)

  pub send_all : (p : Bytes) (R : Room) (s : St) → Refusals s → (s ≡ est → T (not R.big) → T (not (shut B)) → P (goes B p)) → P (send p R s B)
  send_all p R est ref y =
      unless_all P R.big 6 est B _ (ref 6 tt tt) λ (b : T (not R.big)).
      unless_all P (shut B) 7 est B _ (ref 7 tt tt) λ (h : T (not (shut B))).
      unless_all P (tight R p) 9 est B _ (ref 9 tt tt) λ (_ : T (not (tight R p))). y refl b h
  send_all p R fs ref y = ref 5 tt tt
  send_all p R fr ref y = ref 5 tt tt
  send_all p R gone ref y = ref 4 tt tt

  -- of a read in ESTABLISHED, by the half after it: with an ACK, where one is due, and in silence, where none is
  pub one_all : (A : Body) (p : Bytes) → (T (due A) → P (noticed A p)) → (T (not (due A)) → P (quiet A p)) → P (read_one A p)
  one_all A p x y = by (due A) x y
    where
      by : (b : Bool) → (T b → P (noticed A p)) → (T (not b) → P (quiet A p)) → P (cond b (noticed A p) (quiet A p))
      by true x y = x tt
      by false x y = y tt

  pub read_all : (R : Room) (s : St) → Refusals s
      → (s ≡ est → (p : Bytes) (u : List Bytes) → B.unread ≡ p ∷ u → T (due (later B p u)) → P (noticed (later B p u) p))
      → (s ≡ est → (p : Bytes) (u : List Bytes) → B.unread ≡ p ∷ u → T (not (due (later B p u))) → P (quiet (later B p u) p))
      → (s ≡ fr → (p : Bytes) (u : List Bytes) → B.unread ≡ p ∷ u → P (read_last (later B p u) p)) → P (read R s B)
  read_all R est ref x y z = by B.unread refl
    where
      by : (u : List Bytes) → B.unread ≡ u → P (read_e u R B)
      by [] e = ref 8 tt tt
      by (p ∷ u) e = unless_all P (cramped R p || (due (later B p u) && ltb R.buf 16)) 9 est B _ (ref 9 tt tt)
          (λ _. one_all (later B p u) p (x refl p u e) (y refl p u e))
  read_all R fs ref x y z = ref 5 tt tt
  read_all R fr ref x y z = by B.unread refl
    where
      by : (u : List Bytes) → B.unread ≡ u → P (read_r u R B)
      by [] e = ref 11 tt tt
      by (p ∷ u) e = unless_all P (cramped R p) 9 fr B _ (ref 9 tt tt) (λ _. z refl p u e)
  read_all R gone ref x y z = ref 4 tt tt

  pub close_all : (R : Room) (s : St) → Refusals s → (s ≡ est → P (ending fs B)) → (s ≡ fr → P (ending gone B)) → P (close R s B)
  close_all R est ref y z = unless_all P (ltb R.buf 16) 9 est B _ (ref 9 tt tt) (λ _. y refl)
  close_all R fs ref y z = ref 5 tt tt
  close_all R fr ref y z = unless_all P (ltb R.buf 16) 9 fr B _ (ref 9 tt tt) (λ _. z refl)
  close_all R gone ref y z = ref 4 tt tt

-- ---- a call that is done

-- with the window open, a payload within the limit and room for its packet
pub send_goes : (p : Bytes) (R : Room) (B : Body) → T (not R.big) → s_of B < B.high → T (not (tight R p)) → send p R est B ≡ goes B p
send_goes p R B b h r =
    unless_past R.big 6 est B _ b
    ∙ unless_past (shut B) 7 est B _ (not_T (shut B) (λ (t : T (shut B)). omega (arith, leb→le B.high (s_of B) t)))
    ∙ unless_past (tight R p) 9 est B _ r
