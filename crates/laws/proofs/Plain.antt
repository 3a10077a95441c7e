-- The tests of the crates below are their plain words, both ways.
use Rattle.std.specs.Prelude.{None, Option, Some}
use Prim.Native.Nat.{ℕ, ◌+◌, ◌≤◌}
use native.Mathlib.Omega.{arith}
use mathlib.Core.Path.{◌≡◌, refl, sym, ap, ◌∙◌}
use mathlib.Core.Bool.{Bool, true, false, not, ◌&&◌}
use lib.Dec.{eqb, leb}
use borrow.Author.Tests.{eqb-true, eq-eqb, eqb-false, ne_eqb, leb-true, le-leb, not-true}
use Rattle.cases.specs.Cases.{if}
use Rattle.cases.proofs.Tests.{never, and_split, and_both, false_not}
use Rattle.wire.specs.declared.kind.Kind.{Kind}
use Rattle.wire.specs.declared.kind.Kind.TheVariants.{Syn, Ack, Fin, Data}
use Rattle.wire.specs.Packet.{header_length, flags_value, flags_of, length_fits}
use Rattle.wire.proofs.Flags.{flags_named, value_of_flags}
use Rattle.session.specs.declared.record.State.{State}
use Rattle.session.specs.declared.record.State.TheVariants.{Closed, Established, FinSent, FinReceived}
use Rattle.session.specs.declared.record.Session.{Session}
use Rattle.session.specs.Counter.{minus, plus}
use Rattle.session.specs.Record.{least, highest, payload_limit, established}
use Rattle.session.specs.Notice.{due}
use Rattle.effect.specs.Taken.{window_in_range, grant_in_range, seqnum_in_range}
use Rattle.table.specs.declared.end.End.{End}
use Rattle.table.specs.Slots.{holds, slot_of, lowest_free, full}
use Rattle.table.proofs.Made.{slot_holds}
use Rattle.table.proofs.SlotAt.{held_within, held_used, held_named}
use Rattle.table.proofs.Lowest.{lowest_within, lowest_unused, full_used}
use Rattle.laws.specs.Plain.{Held, Full, LengthRight, InWindow, MayGrant, Within, InSequence, Due}

-- a test true exactly where something holds
pub record Tells (b : Bool) (P : Type 0) : Type 0 where
  pub to : b ≡ true → P
  pub back : P → b ≡ true

-- two bounds
both_at_most : (a b c d : ℕ) → Tells (leb a b && leb c d) ((a ≤ b) × (c ≤ d))
both_at_most a b c d = record {
  to = λ p. let s = and_split (leb a b) (leb c d) p in (leb-true a b s.0, leb-true c d s.1);
  back = λ s. and_both (leb a b) (leb c d) (le-leb a b s.0) (le-leb c d s.1);
}

-- ---- a session with that SID

pub held : (sid : ℕ) (e : End) → Tells (holds sid e.slots) (Held sid e)
held sid e = record {
  to = λ p. (slot_of sid e.slots, held_within sid e.slots p, held_used sid e.slots p, held_named sid e.slots p);
  back = λ s. slot_holds sid e.slots s.0 s.1 s.2 s.3;
}

-- ---- no free slot

pub fully : (e : End) → Tells (full e.slots) (Full e)
fully e = record { to = full_used e.slots; back = λ f. by f (full e.slots) refl }
  where
    by : Full e → (b : Bool) → full e.slots ≡ b → b ≡ true
    by f true p = refl
    by f false p = never (sym (lowest_unused e.slots p) ∙ f (lowest_free e.slots) (lowest_within e.slots p))

-- ---- LENGTH, for the kind that FLAGS names

right : (k : Kind) (n : ℕ) → Tells (length_fits payload_limit (Some k) n) (LengthRight k n)
right Syn n = record { to = eqb-true n header_length; back = eq-eqb n header_length }
right Ack n = record { to = eqb-true n header_length; back = eq-eqb n header_length }
right Fin n = record { to = eqb-true n header_length; back = eq-eqb n header_length }
right Data n = both_at_most header_length n n (header_length + payload_limit)

pub sized : (f n : ℕ) → Tells (length_fits payload_limit (flags_of f) n) ((k : Kind) × (f ≡ flags_value k) × LengthRight k n)
sized f n = by (flags_of f) refl
  where
    by : (g : Option Kind) → flags_of f ≡ g → Tells (length_fits payload_limit g n) ((k : Kind) × (f ≡ flags_value k) × LengthRight k n)
    by (Some k) e = record {
      to = λ p. (k, value_of_flags f k e, (right k n).to p);
      back = λ s. let q : flags_of f ≡ Some s.0 = flags_named f s.0 s.1 in let same : s.0 ≡ k = cc in (right k n).back (rw same at s.2);
    }
    by None e = record {
      to = λ p. never p;
      back = λ s. let q : flags_of f ≡ Some s.0 = flags_named f s.0 s.1 in let z : ◌≡◌ {A = ℕ} 0 1 = cc in absurd (omega arith);
    }

-- ---- the ranges

pub windowed : (x : Session) (w : ℕ) → Tells (window_in_range highest x w) (InWindow x w)
unfolding window_in_range
windowed x w = both_at_most (minus x.h x.s) (minus w x.s) (minus w x.s) highest

pub granted : (w : ℕ) → Tells (grant_in_range highest w) (MayGrant w)
granted w = both_at_most least w w highest

within : (x : Session) (q : ℕ) → Tells (leb (minus q x.r) (minus x.g x.r)) (Within x q)
within x q = record { to = leb-true _ _; back = le-leb _ _ }

next : (x : Session) (q : ℕ) → Tells (eqb q (plus x.r 1) && not (eqb x.r x.g)) ((q ≡ plus x.r 1) × (x.r ≡ x.g → ⊥))
next x q = record {
  to = λ p. let s = and_split (eqb q (plus x.r 1)) (not (eqb x.r x.g)) p in (eqb-true _ _ s.0, eqb-false _ _ (not-true _ s.1));
  back = λ s. and_both (eqb q (plus x.r 1)) (not (eqb x.r x.g)) (eq-eqb _ _ s.0) (false_not _ (ne_eqb _ _ s.1));
}

pub in_established : (s : State) → established s ≡ true → s ≡ Established
in_established Closed p = never p
in_established Established p = refl
in_established FinSent p = never p
in_established FinReceived p = never p

by_state : (x : Session) (q : ℕ) (t : Bool) → established x.state ≡ t
    → Tells (if t (eqb q (plus x.r 1) && not (eqb x.r x.g)) (leb (minus q x.r) (minus x.g x.r))) (InSequence x Data q)
by_state x q true e = record {
  to = λ p. ((λ _. (next x q).to p), (λ f. absurd (f (in_established x.state e))));
  back = λ s. (next x q).back (s.0 (in_established x.state e));
}
by_state x q false e = record {
  to = λ p. ((λ f. never (sym e ∙ ap established f)), (λ _. (within x q).to p));
  back = λ s. (within x q).back (s.1 (λ f. never (sym e ∙ ap established f)));
}

pub sequenced : (x : Session) (k : Kind) (q : ℕ) → Tells (seqnum_in_range x k q) (InSequence x k q)
unfolding seqnum_in_range
sequenced x Data q = by_state x q (established x.state) refl
sequenced x Syn q = within x q
sequenced x Ack q = within x q
sequenced x Fin q = within x q

-- ---- an ACK due

pub noticed : (x : Session) → Tells (due x) (Due x)
unfolding due
noticed x = record {
  to = λ p. let a = and_split (established x.state) _ p in (in_established x.state a.0, leb-true _ _ a.1);
  back = λ d. and_both _ _ (ap established d.0) (le-leb _ _ d.1);
}
