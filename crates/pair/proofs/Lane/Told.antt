-- Means of proof. What a read that answers 11 tells: the writer has ended, and all that it had accepted was read. And it comes: in
-- FIN RECEIVED with nothing unread a read answers 11, and nothing is unread once all was read.
use Prim.Native.Nat.{ℕ}
use native.Mathlib.Omega.{arith}
use mathlib.Core.Path.{◌≡◌, refl, sym, ap, ◌∙◌}
use mathlib.Core.Logic.{◌⊎◌, inl, inr}
use mathlib.Core.Bool.{Bool, not, ◌||◌, ◌&&◌}
use mathlib.Core.List.{List, [], ◌∷◌, ◌++◌, append_assoc, append-nil, append_cancel_left}
use lib.Dec.{T, ltb}
use Rattle.pair.specs.Side.{Side, client, server, other}
use Rattle.pair.proofs.Lane.Half.{Bytes, Packet, St, est, fs, fr, gone, Body, acc_of, Out, Room, unless, unless_all, cramped, read}
use Rattle.pair.proofs.Lane.Half.{read_e, read_r, read_one, read_last, later, due}
use Rattle.pair.proofs.Lane.Outcomes.{one_all}
use Rattle.pair.proofs.Lane.Lane.{Call, put, get, shut, deliver, Lane, begin, st_of, half, toward, moved, land, Event, Step, next, final, trace}
use Rattle.pair.proofs.Lane.Lane.{accepted, reads}
use Rattle.pair.proofs.Lane.Inv.{pays, closes, Inv, Good, start}
use Rattle.pair.proofs.Lane.Story.{seen, moved_fine, step_good, got_step, first_part, accepted_is, reads_is}

-- a list that is its own first part twice over has no rest
no_rest : (a b c : List Bytes) → a ≡ a ++ b ++ c → b ≡ []
no_rest a b c e = by b (append_cancel_left a (b ++ c) [] (sym (append_assoc a b c) ∙ sym e ∙ sym (append-nil a)))
  where
    by : (b : List Bytes) → b ++ c ≡ [] → b ≡ []
    by [] f = refl
    by (x ∷ b) f = let z : ◌≡◌ {A = ℕ} 0 1 = cc in absurd (omega arith)

-- ---- 11 comes

pub told_eleven : (L : Lane) (k : Side) (R : Room) → st_of k L ≡ fr → (half k L).unread ≡ [] → (moved k (get R) L).out.ans ≡ 11
told_eleven L k R s e = rw s (rw e)

pub all_read : (L : Lane) → Good L → (k : Side) → (half k L).got ≡ acc_of (half (other k) L) → (half k L).unread ≡ []
all_read L i k e = let d = (seen L i k).bwd in no_rest (half k L).got (half k L).unread (d.lost ++ pays (toward k L)) (e ∙ d.whole ∙ simp append_assoc)

-- ---- 11 is true: the writer (sx, X) has closed, and the reader has all that it had accepted

pub record Told (sx : St) (X Y : Body) : Type 0 where
  pub closed : T (closes sx)
  pub all : acc_of X ≡ Y.got

abbrev pub ToldAt : Side → Lane → Type 0
ToldAt k L = Told (st_of (other k) L) (half (other k) L) (half k L)

not_eleven : (b : Bool) (s : St) (B : Body) (o : Out) → o.ans ≡ 0 → (unless b 9 s B o).ans ≡ 11 → ⊥
not_eleven b s B o e = unless_all (λ (o : Out). o.ans ≡ 11 → ⊥) b 9 s B o (λ (h : 9 ≡ 11). omega arith) (λ (_ : T (not b)) (h : o.ans ≡ 11). omega arith)

told_e : (u : List Bytes) (R : Room) (Y : Body) → (read_e u R Y).ans ≡ 11 → ⊥
told_e [] R Y a = omega arith
told_e (p ∷ u) R Y a = not_eleven (cramped R p || (due (later Y p u) && ltb R.buf 16)) est Y (read_one (later Y p u) p)
    (one_all (λ (o : Out). o.ans ≡ 0) (later Y p u) (later Y p u) p (λ _. refl) (λ _. refl)) a

module _ {sx : St} {X : Body} {xy yx : List Packet} where
  told_r : (u : List Bytes) (R : Room) (Y : Body) → Y.unread ≡ u → Inv fr Y sx X yx xy → (read_r u R Y).ans ≡ 11 → Told sx X Y
  told_r [] R Y e i a = let d = i.bwd in record { closed = d.flow.0; all = d.whole ∙ simp (e, d.kept.0, d.flow.1, append-nil) }
  told_r (p ∷ u) R Y e i a = absurd (not_eleven (cramped R p) fr Y (read_last (later Y p u) p) refl a)

  told_now : (R : Room) (s : St) (Y : Body) → Inv s Y sx X yx xy → (read R s Y).ans ≡ 11 → Told sx X Y
  told_now R est Y i a = absurd (told_e Y.unread R Y a)
  told_now R fs Y i a = absurd (omega arith)
  told_now R fr Y i a = told_r Y.unread R Y refl i a
  told_now R gone Y i a = absurd (omega arith)

-- ---- and stays true: the writer accepts no more, and what was read stays a first part of it

pub closed_step : (L : Lane) → Good L → (k j : Side) (c : Call) → T (closes (st_of k L))
    → T (closes (st_of k (land j L (moved j c L)))) × (acc_of (half k (land j L (moved j c L))) ≡ acc_of (half k L))
closed_step L i client client c t = (moved_fine L i client c).shut t
closed_step L i client server c t = (t, refl)
closed_step L i server client c t = (t, refl)
closed_step L i server server c t = (moved_fine L i server c).shut t

told_step : (L : Lane) → Good L → (k j : Side) (c : Call) → ToldAt k L → ToldAt k (land j L (moved j c L))
told_step L i k j c t =
    let m = closed_step L i (other k) j c t.closed in
    let a : acc_of (half (other k) (land j L (moved j c L))) ≡ (half k L).got = m.1 ∙ t.all in
    let g = got_step L i k j c in
    let f = first_part (land j L (moved j c L)) (step_good L i j c) k in
    let z = no_rest (half k L).got _ f.rest (sym a ∙ f.eq ∙ ap (λ (x : List Bytes). x ++ f.rest) g) in
    record { closed = m.0; all = a ∙ sym (g ∙ ap (λ (x : List Bytes). (half k L).got ++ x) z ∙ append-nil _) }

told_final : (L : Lane) → Good L → (k : Side) (h : List Step) → ToldAt k L → ToldAt k (final L h)
told_final L i k [] t = t
told_final L i k (s ∷ h) t = told_final (next L s) (step_good L i s.side s.call) k h (told_step L i k s.side s.call t)

-- ---- histories

abbrev pub IsGet : Call → Type 0
IsGet (put p R) = ⊥
IsGet (get R) = Unit
IsGet (shut R) = ⊥
IsGet deliver = ⊥

-- a read at side k that answers 11
abbrev pub Tells : Side → Event → Type 0
Tells k e = (e.side ≡ k) × IsGet e.call × (e.ans ≡ 11)

abbrev pub Some : (Event → Type 0) → List Event → Type 0
Some P [] = ⊥
Some P (e ∷ t) = P e ⊎ Some P t

pub told_at : (L : Lane) → Good L → (k : Side) (c : Call) → IsGet c → (moved k c L).out.ans ≡ 11 → ToldAt k L
told_at L i k (get R) g a = told_now R (st_of k L) (half k L) (seen L i k) a
told_at L i k (put p R) g a = absurd g
told_at L i k (shut R) g a = absurd g
told_at L i k deliver g a = absurd g

told_all : (L : Lane) → Good L → (k : Side) (h : List Step) → Some (Tells k) (trace L h) → ToldAt k (final L h)
told_all L i k [] q = absurd q
told_all L i k (s ∷ h) (inl q) = told_final L i k (s ∷ h) (told_at L i k s.call q.1 (rw q.0 at q.2))
told_all L i k (s ∷ h) (inr q) = told_all (next L s) (step_good L i s.side s.call) k h q

-- THEOREM: once told 11, a side has read all that the other's sends had accepted
pub told_whole : (h : List Step) (k : Side) → Some (Tells k) (trace begin h) → reads k (trace begin h) ≡ accepted (other k) (trace begin h)
told_whole h k q = sym (reads_is k h) ∙ sym (told_all begin start k h q).all ∙ accepted_is (other k) h
