-- Open, which names no SID: from what the code found to its promise.
use Rattle.std.proofs.Common.{ℕ, ◌≤◌, ◌≡◌, Bool, true, false, List, length, refl, sym, ap, ◌∙◌, Option, Some, None, Result, Ok, Err, IsErr, is_none, arith}
use borrow.Author.Tests.{ltb-false}
use Rattle.cases.specs.declared.refusal.Refusal.{Refusal}
use Rattle.cases.specs.Cases.{if, first, refusal_number, number_in}
use Rattle.cases.proofs.First.{here, says, numbered, test, clear}
use Rattle.cases.proofs.Tests.{never}
use Rattle.wire.specs.declared.header.Header.{Header}
use Rattle.wire.specs.Packet.{header_length, header_bytes}
use Rattle.session.specs.declared.record.Session.{Session}
use Rattle.buffer.specs.Onto.{onto}
use Rattle.session.specs.Record.{fresh_of}
use Rattle.table.specs.declared.end.Role.{Role}
use Rattle.table.specs.declared.end.End.{End}
use Rattle.table.specs.Slots.{lowest_free, full, smallest_sid}
use Rattle.table.specs.End.{put_of}
use Rattle.table.specs.Limits.{base}
use Rattle.table.specs.Well.{well_made}
use Rattle.scan.specs.declared.Look.{Look}
use Rattle.scan.specs.Look.{free_in, look_of}
use Rattle.calling.proofs.Looked.{looked, unlooked}
use Rattle.calling.proofs.Told.{refused, untouched, answered, filled}
use Rattle.open.specs.declared.Opened.{Opened}
use Rattle.open.specs.Open.{open_cases, open_number, syn_header, opened_end, open_done, open_refused, open_of, open_packet, open_says, OpenPromise}

-- for the packet buffer b
module _ (e : End) (b : List ℕ) where
  refusal : (r : Refusal) → refusal_number r ≡ open_number base e (length b) → OpenPromise e b (open_says (Err r) e) b
  unfolding open_of open_packet
  refusal r q = record { answer = refused r q _ (λ (k : ℕ). open_refused k e); packet = untouched r q _ b }

  -- the end isn't well made
  ill_made : well_made base e ≡ false → 12 ≡ open_number base e (length b)
  unfolding open_number
  ill_made w = by (well_made base e) w
    where
      by : (t : Bool) → t ≡ false → 12 ≡ first (open_cases t e.up e.role (full e.slots) (length b))
      by t p = sym (says (here (rw p)))

  -- the look was refused
  pub refused_look : {k : Refusal} → Err k ≡ look_of base e 0 → (s : Result Opened Refusal) → IsErr s → number_in s ≡ refusal_number k
      → OpenPromise e b (open_says s e) b
  refused_look q (Ok o) i p = never i
  refused_look q (Err r) i p = let l = unlooked base e 0 q in refusal r (p ∙ ap refusal_number l.1 ∙ ill_made l.0)

  module _ {l : Look} (look : Ok l ≡ look_of base e 0) where
    made : well_made base e ≡ true
    made = (looked base e 0 look).0

    free : l.free ≡ free_in e.slots
    free = ap (λ (k : Look). k.free) (looked base e 0 look).1

    number_is : {n : ℕ} → n ≡ first (open_cases true e.up e.role (is_none l.free) (length b)) → n ≡ open_number base e (length b)
    unfolding open_number
    number_is q =
        q
        ∙ ap (λ (f : Option ℕ). first (open_cases true e.up e.role (is_none f) (length b))) free
        ∙ ap (λ (f : Bool). first (open_cases true e.up e.role f (length b))) (by (full e.slots))
        ∙ ap (λ (g : Bool). first (open_cases g e.up e.role (full e.slots) (length b))) (sym made)
      where
        by : (t : Bool) → is_none (if t None (Some (lowest_free e.slots))) ≡ t
        by true = refl
        by false = refl

    pub unopened : (s : Result Opened Refusal) → IsErr s → number_in s ≡ first (open_cases true e.up e.role (is_none l.free) (length b)) → OpenPromise e b (open_says s e) b
    unopened (Ok o) i q = never i
    unopened (Err r) i q = refusal r (number_is q)

    lowest : {i : ℕ} → free_in e.slots ≡ Some i → i ≡ lowest_free e.slots
    lowest {i} = by (full e.slots)
      where
        by : (t : Bool) → if t None (Some (lowest_free e.slots)) ≡ Some i → i ≡ lowest_free e.slots
        by true q = let z : ◌≡◌ {A = ℕ} 0 1 = cc in absurd (omega arith)
        by false q = cc

    pub opened : 0 ≡ first (open_cases true e.up e.role (is_none l.free) (length b)) → {i sid : ℕ} {h : Header} {y : Session} {d : End} {b' : List ℕ}
        → l.free ≡ Some i → sid ≡ smallest_sid e.slots → h ≡ syn_header sid → y ≡ fresh_of sid → d ≡ put_of i y e → b' ≡ onto (header_bytes h) b
        → OpenPromise e b (open_done sid d) b'
    unfolding open_of open_packet
    opened z {i} {sid} {h} {y} {d} {b'} pf ps ph py pd pb = record {
      answer =
          ap (open_done sid) (pd ∙ ap (λ (x : Session). put_of i x e) py ∙ ap (λ (k : ℕ). put_of k (fresh_of sid) e) (lowest (sym free ∙ pf)))
          ∙ ap (λ (k : ℕ). open_done k (opened_end k e)) ps
          ∙ answered (number_is z) _ _;
      packet = pb ∙ ap (λ (g : Header). onto (header_bytes g) b) (ph ∙ ap syn_header ps) ∙ filled (number_is z) _ b;
    }

-- where no case applies there is room
pub long : (made up : Bool) (role : Role) (none : Bool) (room : ℕ) → 0 ≡ first (open_cases made up role none room) → header_length ≤ room
unfolding test numbered
long made up role none room z = ltb-false _ _ (clear (open_cases made up role none room) 9 refl (sym z))
