-- Take's cases under two highest windows: where one test of a list is met less often, only that test's number can change.
use Rattle.std.specs.Prelude.{None, Option, Some}
use Prim.Native.Nat.{ℕ, ◌≤◌}
use native.Mathlib.Omega.{arith}
use mathlib.Core.Path.{◌≡◌, refl, sym, ap, ◌∙◌}
use mathlib.Core.Logic.{◌≢◌}
use mathlib.Core.Bool.{Bool, true, false, not, ◌&&◌}
use mathlib.Core.List.{List, [], ◌∷◌, ◌++◌}
use lib.Dec.{eqb, ltb, leb}
use borrow.Author.Tests.{leb-true, le-leb}
use Rattle.cases.specs.Cases.{Case, ◌⇒◌, first}
use Rattle.cases.proofs.Tests.{never, and_split, and_both}
use Rattle.wire.specs.declared.header.Header.{Header}
use Rattle.wire.specs.declared.kind.Kind.{Kind}
use Rattle.wire.specs.declared.kind.Kind.TheVariants.{Syn, Ack, Fin, Data}
use Rattle.wire.specs.Packet.{header_cases}
use Rattle.session.specs.declared.record.Session.{Session}
use Rattle.session.specs.Counter.{minus}
use Rattle.session.specs.Record.{window, least, fin_received}
use Rattle.session.specs.Well.{InOrder}
use Rattle.effect.specs.Taken.{window_in_range, grant_in_range, seqnum_in_range}
use Rattle.table.specs.declared.end.Role.{Role}
use Rattle.table.specs.declared.end.End.{End}
use Rattle.table.specs.Limits.{Limits}
use Rattle.table.specs.Well.{well_made}
use Rattle.table.proofs.Made.{made, tested}
use Rattle.judge.specs.Number.{is_client, take_cases, other_cases, kind_cases}
use Rattle.wider.specs.Narrow.{narrow, Unwidened}

-- ---- one test of a list met less often

-- c is met only where b is
narrower : (us : List Case) (b c : Bool) (m : ℕ) (vs : List Case) → (c ≡ true → b ≡ true) → first (us ++ (b ⇒ m ∷ vs)) ≢ m
    → first (us ++ (c ⇒ m ∷ vs)) ≡ first (us ++ (b ⇒ m ∷ vs))
unfolding first
narrower [] true c m vs f d = absurd (d refl)
narrower [] false true m vs f d = never (f refl)
narrower [] false false m vs f d = refl
narrower ((true ⇒ k) ∷ us) b c m vs f d = refl
narrower ((false ⇒ k) ∷ us) b c m vs f d = narrower us b c m vs f d

-- what passes under the narrower range passes under the wider
refused : (b c : Bool) → (b ≡ true → c ≡ true) → not c ≡ true → not b ≡ true
refused true c f p = never (sym (ap not (f refl)) ∙ p)
refused false c f p = refl

-- ---- the tests, under one highest window and under a higher one

module _ (most more : ℕ) (low : most ≤ more) where
  two : (a b c : ℕ) → leb a b && leb c most ≡ true → leb a b && leb c more ≡ true
  two a b c p =
      let s = and_split (leb a b) (leb c most) p in
      and_both (leb a b) (leb c more) s.0 (le-leb c more (omega (arith, leb-true c most s.1)))

  wider_window : (x : Session) (wndw : ℕ) → window_in_range most x wndw ≡ true → window_in_range more x wndw ≡ true
  unfolding window_in_range
  wider_window x wndw = two (minus x.h x.s) (minus wndw x.s) (minus wndw x.s)

  wider_syn : (q wndw : ℕ) → eqb q 0 && grant_in_range most wndw ≡ true → eqb q 0 && grant_in_range more wndw ≡ true
  wider_syn q wndw p =
      let s = and_split (eqb q 0) (grant_in_range most wndw) p in
      and_both (eqb q 0) (grant_in_range more wndw) s.0 (two least wndw wndw s.1)

module _ (lim : Limits) (low : window ≤ lim.window) where
  four : (narrow lim).window ≤ lim.window
  four = omega arith

  -- well made under our own window, and so under a higher one
  wider_order : {x : Session} → InOrder (narrow lim).window (narrow lim).place x → InOrder lim.window lim.place x
  wider_order o = record {
    used = λ u. let v = o.used u in record { send = omega (arith, v.send); receive = v.receive; notice = v.notice; lengths = v.lengths };
    free = o.free;
  }

  pub wider_made : (e : End) → well_made (narrow lim) e ≡ true → well_made lim e ≡ true
  wider_made e w =
      let m = made (narrow lim) e w in
      tested lim e (record { each = λ i h. wider_order (m.each i h); apart = m.apart; down = m.down })

  -- ---- the packet's cases, behind those that come before it

  module _ (up short : Bool) (role : Role) (held none : Bool) (x : Session) (h : Header) (given : ℕ) where
    abbrev behind : List Case → List Case
    behind cs = take_cases true up short given ++ (header_cases lim.place h ++ (ltb given h.length ⇒ 10 ∷ cs))

    abbrev number : Limits → Option Kind → ℕ
    number l f = first (behind (kind_cases l f role held none x h))

    abbrev wndw : Limits → Bool
    wndw l = window_in_range l.window x h.wndw

    abbrev fresh : Limits → Bool
    fresh l = eqb h.seqnum 0 && grant_in_range l.window h.wndw

    other : (k : Kind) → first (behind (other_cases (narrow lim) k held x h)) ≢ 28
        → first (behind (other_cases lim k held x h)) ≡ first (behind (other_cases (narrow lim) k held x h))
    other k =
        narrower (behind (not held ⇒ 23 ∷ fin_received x.state ⇒ 30 ∷ [])) (not (wndw (narrow lim))) (not (wndw lim)) 28
        (not (seqnum_in_range x k h.seqnum) ⇒ 29 ∷ [])
        (refused _ _ (wider_window (narrow lim).window lim.window four x h.wndw))

    pub same_kind : (f : Option Kind) → Unwidened (number (narrow lim) f) → number lim f ≡ number (narrow lim) f
    same_kind (Some Syn) u =
        narrower (behind (is_client role ⇒ 24 ∷ held ⇒ 25 ∷ none ⇒ 26 ∷ [])) (not (fresh (narrow lim))) (not (fresh lim)) 27 []
        (refused _ _ (wider_syn (narrow lim).window lim.window four h.seqnum h.wndw)) u.syn
    same_kind (Some Ack) u = other Ack u.wndw
    same_kind (Some Fin) u = other Fin u.wndw
    same_kind (Some Data) u = other Data u.wndw
    same_kind None u = refl
