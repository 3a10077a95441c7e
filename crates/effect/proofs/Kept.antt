-- What a packet whose WNDW and SEQNUM are in range makes of a record in order is in order (session's Kept has each change by itself).
use Prim.Native.Nat.{ℕ, ◌^◌, ◌≤◌, ◌<◌}
use mathlib.Core.Path.{◌≡◌, refl}
use mathlib.Core.Bool.{true, not, ◌&&◌}
use lib.Dec.{eqb, leb}
use borrow.Author.Tests.{leb-true, eqb-true, eqb-false, not-true}
use Rattle.cases.proofs.Tests.{and_split}
use Rattle.wire.specs.declared.kind.Kind.{Kind}
use Rattle.wire.specs.declared.kind.Kind.TheVariants.{Syn, Ack, Fin, Data}
use Rattle.session.specs.declared.record.State.{State}
use Rattle.session.specs.declared.record.State.TheVariants.{Closed, Established, FinSent, FinReceived}
use Rattle.session.specs.declared.record.Session.{Session}
use Rattle.session.specs.Counter.{minus, plus}
use Rattle.session.specs.Record.{least, in_use, Fits}
use Rattle.session.specs.Well.{InOrder}
use Rattle.session.proofs.Kept.{Keeps, free_keeps, same_keeps, granted_in, stored_keeps}
use Rattle.effect.specs.Taken.{window_in_range, grant_in_range, seqnum_in_range, cell_of, becomes}

-- WNDW in range is at most the highest window past S
pub highest : (most : ℕ) (x : Session) (wndw : ℕ) → window_in_range most x wndw ≡ true → minus wndw x.s ≤ most
unfolding window_in_range
highest most x wndw p = leb-true _ _ (and_split (leb (minus x.h x.s) (minus wndw x.s)) (leb (minus wndw x.s) most) p).1

-- what a SYN may grant is at most the highest window
pub granted_most : (most wndw : ℕ) → grant_in_range most wndw ≡ true → wndw ≤ most
granted_most most wndw p = leb-true _ _ (and_split (leb least wndw) (leb wndw most) p).1

module _ {most limit : ℕ} {x : Session} (o : InOrder most limit x) (f : Fits x) (u : in_use x.state ≡ true)
    (seqnum wndw n : ℕ) (hs : seqnum < 2 ^ 32) (hw : wndw < 2 ^ 32) (hn : n ≤ limit) (ranged : window_in_range most x wndw ≡ true) where
  high : minus wndw x.s ≤ most
  high = highest most x wndw ranged

  pub becomes_keeps : (k : Kind) → seqnum_in_range x k seqnum ≡ true → Keeps most limit x (becomes (cell_of x.state k) seqnum wndw n x)
  unfolding seqnum_in_range
  becomes_keeps k q = by x.state refl k q
    where
      by : (st : State) → x.state ≡ st → (k : Kind) → seqnum_in_range x k seqnum ≡ true → Keeps most limit x (becomes (cell_of st k) seqnum wndw n x)
      by Established e Data q =
          let r : eqb seqnum (plus x.r 1) && not (eqb x.r x.g) ≡ true = rw e at q in
          let p = and_split (eqb seqnum (plus x.r 1)) (not (eqb x.r x.g)) r in
          stored_keeps o f u seqnum wndw n hs hw hn high (eqb-true _ _ p.0) (eqb-false _ _ (not-true _ p.1))
      by Established e Ack q = granted_in o f u seqnum wndw n hs hw hn high x.state u
      by Established e Fin q = granted_in o f u seqnum wndw n hs hw hn high FinReceived refl
      by Established e Syn q = same_keeps o f u
      by FinSent e Data q = same_keeps o f u
      by FinSent e Ack q = same_keeps o f u
      by FinSent e Fin q = free_keeps most limit x
      by FinSent e Syn q = same_keeps o f u
      by FinReceived e Data q = same_keeps o f u
      by FinReceived e Ack q = same_keeps o f u
      by FinReceived e Fin q = same_keeps o f u
      by FinReceived e Syn q = same_keeps o f u
      by Closed e k q = same_keeps o f u
