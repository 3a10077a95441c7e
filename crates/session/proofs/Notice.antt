-- Notices of the window (document 02, (i)): what is known of L.
use Rattle.std.proofs.Common.{◌≡◌, ℕ, ◌^◌, ◌<◌, ◌≤◌, Bool, true, false, ◌&&◌, ◌||◌, leb, sym, refl, arith, leb-false}
use Rattle.cases.specs.Cases.{if}
use Rattle.cases.proofs.Tests.{never, or_split}
use Rattle.session.specs.declared.record.State.{State}
use Rattle.session.specs.declared.record.State.TheVariants.{Closed, Established, FinSent, FinReceived}
use Rattle.session.specs.declared.record.Session.{Session}
use Rattle.session.specs.Counter.{minus, plus}
use Rattle.session.specs.Record.{established, fin_received, unread, unread_in, Fits}
use Rattle.session.specs.Notice.{new_g, due}
use Rattle.session.specs.Changes.{last_on}
use Rattle.session.specs.Well.{Used}

-- ---- counters

module _ (x y : ℕ) (hx : x < 2 ^ 32) (hy : y < 2 ^ 32) where
  one_past : minus x y ≤ 1 → (1 ≤ minus (plus x 1) y) × (minus (plus x 1) y ≤ 2)
  one_past h = (omega arith, omega arith)

less_one : {n : ℕ} → n < 2 → n ≤ 1
less_one h = omega arith

-- ---- one record

-- from a record in order the new G is 1 or 2 past L: never more than one packet's window goes unannounced
pub one_or_two : {most limit : ℕ} {x : Session} → Fits x → Used most limit x → (1 ≤ minus (new_g x) x.l) × (minus (new_g x) x.l ≤ 2)
one_or_two {x = x} f w = one_past x.g x.l f.g f.l w.notice

module _ {x : Session} (f : Fits x) where
  pub last_fits : last_on x < 2 ^ 32
  last_fits = by (due x || fin_received x.state)
    where
      by : (b : Bool) → if b (new_g x) x.l < 2 ^ 32
      by true = omega arith
      by false = f.l

  -- a read that announces nothing leaves the new G less than 2 past L
  unsaid : (st : State) → (unread_in st x ≡ 0 → ⊥) → ((established st && leb 2 (minus (new_g x) x.l)) || fin_received st) ≡ false
      → leb 2 (minus (new_g x) x.l) ≡ false
  unsaid Established d p = (or_split _ _ p).0
  unsaid FinReceived d p = never (sym p)
  unsaid FinSent d p = absurd (d refl)
  unsaid Closed d p = absurd (d refl)

  pub read_notice : (unread x ≡ 0 → ⊥) → minus (new_g x) (last_on x) ≤ 1
  unfolding due
  read_notice d = by (due x || fin_received x.state) refl
    where
      by : (b : Bool) → due x || fin_received x.state ≡ b → minus (new_g x) (if b (new_g x) x.l) ≤ 1
      by true p = omega arith
      by false p = let less : minus (new_g x) x.l < 2 = leb-false 2 _ (unsaid x.state d p) in less_one less
