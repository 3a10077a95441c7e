-- A session's own entries in a run of the pair, and the events of its lane: the same payloads are accepted and handed over, a read is told 11
-- where the lane's read is, and a close is done where the lane's is. The open and the take of the SYN are entries without an event, and show no payload.
-- So what was received in a session is a first part of what was accepted, all of it once told 11, and both are just what its lane's halves hold.
use Prim.Native.Nat.{ℕ, zero, suc}
use native.Mathlib.Omega.{arith}
use mathlib.Core.Path.{◌≡◌, refl, sym, ap, ap₂, ◌∙◌, subst}
use mathlib.Core.Logic.{inl, inr, ⊎_elim}
use mathlib.Core.Bool.{Bool, true, false, cond}
use mathlib.Core.List.{List, [], ◌∷◌, ◌++◌}
use mathlib.Core.Option.{none, some}
use lib.Dec.{T, eqb, leb→le}
use Rattle.cases.specs.Cases.{if, done}
use Rattle.cases.proofs.First.{done_not}
use Rattle.table.specs.Limits.{Limits}
use Rattle.pair.specs.Side.{Side, client, server, other}
use Rattle.pair.proofs.Lane.Half.{Bytes, acc_of, Out}
use Rattle.pair.proofs.Lane.Outcomes.{send_all, read_all, close_all}
use Rattle.pair.proofs.Lane.Lane as lane
use Rattle.pair.proofs.Lane.Lane.{begin, moved, st_of, half, Event, event, took_if, took, gave, only_at, reads, Lane}
use Rattle.pair.proofs.Lane.Inv.{closes, start}
use Rattle.pair.proofs.Lane.Closed.{Closes, closed_history, closed_all}
use Rattle.pair.proofs.Lane.Story.{head_taken, reads_is, accepted_is}
use Rattle.pair.proofs.Lane.Told as lane-told
use Rattle.pair.proofs.Lane.Told.{Tells}
use Rattle.pair.proofs.Lane.World.{World, dawn}
use Rattle.pair.proofs.Lane.Acts.{Act, dial, greet, turn, act, owner, events_of, ends, steps_of}
use Rattle.pair.proofs.Lane.Heads.{packet_toward}
use Rattle.pair.proofs.Lane.Apart.{isolated, isolated_lane, events_first_part, events_told_whole}
use Rattle.pair.specs.Step.{Step, Reply}
use Rattle.pair.specs.History.{Scene, Entry, entry, history}
use Rattle.pair.specs.Claims.{own, only, sent, got, accepted, received, Some, Told, Ended, FirstPart}
use Rattle.pair.proofs.Bytes.Encoded.{handed}
use Rattle.pair.proofs.Mirror.Scene.{Mirror}
use Rattle.pair.proofs.Steps.Performs.{Performs, opening, greeting, taking, sending, reading, closing, Acted, send_room, close_room}
use Rattle.pair.proofs.History.Along.{Along, over, rests, acts}

-- ---- whose an entry is

pub own_none : (n : ℕ) (e : Entry) (h : List Entry) → e.whose ≡ none → own n (e ∷ h) ≡ own n h
unfolding own
own_none n e h w = rw w

pub own_some : (n m : ℕ) (e : Entry) (h : List Entry) → e.whose ≡ some m → own n (e ∷ h) ≡ if (eqb m n) (e ∷ own n h) (own n h)
unfolding own
own_some n m e h w = rw w

-- ---- one entry

only_none : (k j : Side) → only k j [] ≡ []
only_none client client = refl
only_none client server = refl
only_none server client = refl
only_none server server = refl

only_is : (k j : Side) (l : List Bytes) → only k j l ≡ only_at k j l
only_is client client l = refl
only_is client server l = refl
only_is server client l = refl
only_is server server l = refl

-- an entry and an event show the same
record Shows (e : Entry) (v : Event) : Type 0 where
  side : e.step.side ≡ v.side
  sent : sent e.step.call e.reply ≡ took v.call v.ans
  got : got e.step.call e.reply ≡ gave v.pay
  told : (k : Side) → Told k e → Tells k v
  ends : (k : Side) → Ended k e → Closes k v
  ended : (k : Side) → Closes k v → Ended k e

-- an entry shows nothing
record Quiet (e : Entry) : Type 0 where
  sent : sent e.step.call e.reply ≡ []
  got : got e.step.call e.reply ≡ []
  told : (k : Side) → Told k e → ⊥
  ends : (k : Side) → Ended k e → ⊥

took_is : (n : ℕ) (p : Bytes) → done n (p ∷ []) [] ≡ took_if n p
took_is zero p = refl
took_is (suc n) p = done_not (suc n) (p ∷ []) [] (omega arith)

module _ {slots : ℕ} {lim : Limits} {x : Scene} {W : World} where
  -- what the lane's step hands over
  event_of : (s : Step) (k : Side) (n : ℕ) (c : lane.Call) → Mirror slots lim x W → Performs slots lim x W s (turn k n c)
      → Acted slots lim x W s (turn k n c)
      → Shows (entry lim x s) (event (W.lanes n) (record { side = k; call = c }))
  event_of s k n c m (taking {p = p} {l = l} e g) d = record {
    side = refl;
    sent = refl;
    got = ap gave (sym (head_taken (W.lanes n) (m.inv.good n) k p _ (packet_toward m.inv k n p l e)).dry);
    told = λ j t. absurd t.read;
    ends = λ j t. absurd t.close;
    ended = λ j t. absurd t.1;
  }
  event_of s k n c m (sending {room = room} {p = p} i) d = record {
    side = refl;
    sent = ap (λ (r : Reply). done r.number (p ∷ []) []) d.reply ∙ took_is (moved k c (W.lanes n)).out.ans p;
    got = sym (send_all (λ (o : Out). gave o.pay ≡ []) (half k (W.lanes n)) p (send_room lim p room) (st_of k (W.lanes n)) (λ a t u. refl) (λ e t u. refl));
    told = λ j t. absurd t.read;
    ends = λ j t. absurd t.close;
    ended = λ j t. absurd t.1;
  }
  event_of s k n c m (reading i) d = record {
    side = refl;
    sent = refl;
    got =
        ap (λ (r : Reply). done r.number (r.payload ∷ []) []) d.reply
        ∙ read_all (λ (o : Out). done o.ans (handed o.pay ∷ []) [] ≡ gave o.pay) (half k (W.lanes n)) _ (st_of k (W.lanes n))
        (λ a t u. done_not a _ _ (omega (arith, leb→le 4 a t))) (λ e p u q d. refl) (λ e p u q d. refl) (λ e p u q. refl);
    told = λ j t. (t.side, tt, sym (ap (λ (r : Reply). r.number) d.reply) ∙ t.number);
    ends = λ j t. absurd t.close;
    ended = λ j t. absurd t.1;
  }
  event_of s k n c m (closing {room = room} i) d = record {
    side = refl;
    sent = refl;
    got = sym (close_all (λ (o : Out). gave o.pay ≡ []) (half k (W.lanes n)) (close_room room) (st_of k (W.lanes n)) (λ a t u. refl) (λ e. refl) (λ e. refl));
    told = λ j t. absurd t.read;
    ends = λ j t. (t.side, tt, sym (ap (λ (r : Reply). r.number) d.reply) ∙ t.number);
    ended = λ j t. record { side = t.0; close = tt; number = ap (λ (r : Reply). r.number) d.reply ∙ t.2 };
  }

  -- an open, or the take of a SYN
  quiet_dial : (s : Step) (y : ℕ) → Performs slots lim x W s (dial y) → Quiet (entry lim x s)
  quiet_dial s y (opening h r) = record { sent = refl; got = refl; told = λ k t. t.read; ends = λ k t. t.close }

  quiet_greet : (s : Step) → Performs slots lim x W s greet → Quiet (entry lim x s)
  quiet_greet s (greeting e g) = record { sent = refl; got = refl; told = λ k t. t.read; ends = λ k t. t.close }

-- ---- all of them

pub record Agrees (h : List Entry) (t : List Event) : Type 0 where
  pub accepted : (k : Side) → accepted k h ≡ lane.accepted k t
  pub received : (k : Side) → received k h ≡ reads k t
  pub told : (k : Side) → Some (Told k) h → lane-told.Some (Tells k) t
  pub ends : (k : Side) → Some (Ended k) h → lane-told.Some (Closes k) t
  pub ended : (k : Side) → lane-told.Some (Closes k) t → Some (Ended k) h

agrees_none : Agrees [] []
unfolding accepted received
agrees_none = record { accepted = λ k. refl; received = λ k. refl; told = λ k t. absurd t; ends = λ k t. absurd t; ended = λ k t. absurd t }

agrees_show : {e : Entry} {v : Event} {h : List Entry} {t : List Event} → Shows e v → Agrees h t → Agrees (e ∷ h) (v ∷ t)
unfolding accepted received
agrees_show {e} {v} {h} {t} s a = record {
  accepted = λ k. ap₂ ◌++◌ (same k s.sent) (a.accepted k);
  received = λ k. ap₂ ◌++◌ (same k s.got) (a.received k);
  told = λ k. ⊎_elim (λ u. inl (s.told k u)) (λ u. inr (a.told k u));
  ends = λ k. ⊎_elim (λ u. inl (s.ends k u)) (λ u. inr (a.ends k u));
  ended = λ k. ⊎_elim (λ u. inl (s.ended k u)) (λ u. inr (a.ended k u));
}
  where
    same : {p q : List Bytes} (k : Side) → p ≡ q → only k e.step.side p ≡ only_at k v.side q
    same {p} {q} k u = only_is k e.step.side p ∙ ap₂ (only_at k) s.side u

agrees_quiet : {e : Entry} {h : List Entry} {t : List Event} → Quiet e → Agrees h t → Agrees (e ∷ h) t
unfolding accepted received
agrees_quiet {e} {h} {t} q a = record {
  accepted = λ k. nothing k q.sent (accepted k h) ∙ a.accepted k;
  received = λ k. nothing k q.got (received k h) ∙ a.received k;
  told = λ k. ⊎_elim (λ u. absurd (q.told k u)) (a.told k);
  ends = λ k. ⊎_elim (λ u. absurd (q.ends k u)) (a.ends k);
  ended = λ k u. inr (a.ended k u);
}
  where
    nothing : {p : List Bytes} (k : Side) → p ≡ [] → (l : List Bytes) → only k e.step.side p ++ l ≡ l
    nothing {p} k u l = ap (λ (p : List Bytes). only k e.step.side p ++ l) u ∙ ap (λ (p : List Bytes). p ++ l) (only_none k e.step.side)

either_quiet : (b : Bool) {e : Entry} {h : List Entry} {t : List Event} → Quiet e → Agrees h t → Agrees (if b (e ∷ h) h) t
either_quiet true q a = agrees_quiet q a
either_quiet false q a = a

both_show : (b : Bool) {e : Entry} {v : Event} {h : List Entry} {t : List Event} → Shows e v → Agrees h t → Agrees (if b (e ∷ h) h) (cond b (v ∷ t) t)
both_show true s a = agrees_show s a
both_show false s a = a

module _ {slots : ℕ} {lim : Limits} (n : ℕ) where
  act_agrees : {x : Scene} {W : World} {s : Step} {h : List Entry} (t : List Act) (a : Act) → Mirror slots lim x W → Performs slots lim x W s a
      → Acted slots lim x W s a
      → Agrees h (events_of n (act a W) t) → Agrees (if (eqb (owner W a) n) (entry lim x s ∷ h) h) (events_of n W (a ∷ t))
  act_agrees {W = W} {s = s} t (dial y) m p d g = either_quiet (eqb W.born n) (quiet_dial s y p) g
  act_agrees {W = W} {s = s} t greet m p d g = either_quiet (eqb W.known n) (quiet_greet s p) g
  act_agrees {s = s} t (turn k j c) m p d g = both_show (eqb j n) (event_of s k j c m p d) g

  -- THEOREM: a session's own entries agree with its lane's events
  run_agrees : {x : Scene} {W : World} {ss : List Step} {t : List Act} → Along slots lim x W ss t
      → Agrees (own n (history lim x ss)) (events_of n W t)
  unfolding history own
  run_agrees (over m) = agrees_none
  run_agrees {x} {W} {ss = s ∷ ss} {t} (rests m r l) =
      subst (λ (o : List Entry). Agrees o (events_of n W t))
      (sym (own_none n (entry lim x s) (history lim (entry lim x s).after ss) r.whose)) (run_agrees l)
  run_agrees {x} {W} {ss = s ∷ ss} {t = a ∷ t} (acts m p d l) =
      subst (λ (o : List Entry). Agrees o (events_of n W (a ∷ t)))
      (sym (own_some n (owner W a) (entry lim x s) (history lim (entry lim x s).after ss) d.whose))
      (act_agrees t a m p d (run_agrees l))

-- ---- from the fresh pair on

module _ {slots : ℕ} {lim : Limits} {x : Scene} {ss : List Step} {t : List Act} (l : Along slots lim x dawn ss t) (n : ℕ) (k : Side) where
  pub run_first_part : FirstPart (received k (own n (history lim x ss))) (accepted (other k) (own n (history lim x ss)))
  run_first_part =
      let a = run_agrees n l in
      let f = events_first_part n t k in
      record { more = f.rest; whole = a.accepted (other k) ∙ f.eq ∙ ap (λ (r : List Bytes). r ++ f.rest) (sym (a.received k)) }

  pub run_told_whole : Some (Told k) (own n (history lim x ss))
      → received k (own n (history lim x ss)) ≡ accepted (other k) (own n (history lim x ss))
  run_told_whole s = let a = run_agrees n l in a.received k ∙ events_told_whole n t k (a.told k s) ∙ sym (a.accepted (other k))

  pub half_received : (half k ((ends dawn t).lanes n)).got ≡ received k (own n (history lim x ss))
  half_received =
      ap (λ (L : Lane). (half k L).got) (isolated_lane n t dawn)
      ∙ reads_is k (steps_of n t)
      ∙ ap (reads k) (sym (isolated n t dawn))
      ∙ sym ((run_agrees n l).received k)

  pub half_accepted : acc_of (half k ((ends dawn t).lanes n)) ≡ accepted k (own n (history lim x ss))
  half_accepted =
      ap (λ (L : Lane). acc_of (half k L)) (isolated_lane n t dawn)
      ∙ accepted_is k (steps_of n t)
      ∙ ap (lane.accepted k) (sym (isolated n t dawn))
      ∙ sym ((run_agrees n l).accepted k)

  -- the half has closed exactly if a close of the session at that side answered 0
  pub half_closed : Some (Ended k) (own n (history lim x ss)) → T (closes (st_of k ((ends dawn t).lanes n)))
  half_closed s = rw (isolated_lane n t dawn) (closed_all begin start k (steps_of n t) (rw (isolated n t dawn) at ((run_agrees n l).ends k s)))

  pub closed_half : T (closes (st_of k ((ends dawn t).lanes n))) → Some (Ended k) (own n (history lim x ss))
  closed_half c = (run_agrees n l).ended k (rw (isolated n t dawn) (closed_history (steps_of n t) k (rw (isolated_lane n t dawn) at c)))
