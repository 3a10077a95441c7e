-- Close: from what the code found to its promise.
use Rattle.std.proofs.Common.{ℕ, ◌≤◌, ◌≡◌, List, length, refl, sym, ap, ◌∙◌, Result, Ok, Err, IsErr}
use borrow.Author.Tests.{ltb-false}
use Rattle.cases.specs.declared.refusal.Refusal.{Refusal}
use Rattle.cases.specs.Cases.{first, refusal_number, number_in}
use Rattle.cases.proofs.First.{numbered, test, clear}
use Rattle.cases.proofs.Tests.{never}
use Rattle.cases.proofs.Refused.{positive, stops, passes}
use Rattle.wire.specs.declared.header.Header.{Header}
use Rattle.wire.specs.Packet.{header_length, header_bytes}
use Rattle.buffer.specs.Onto.{onto}
use Rattle.session.specs.declared.record.Session.{Session}
use Rattle.session.specs.Changes.{closed_on}
use Rattle.table.specs.declared.end.End.{End}
use Rattle.table.specs.Slots.{session_of}
use Rattle.table.specs.End.{put_of}
use Rattle.table.specs.Limits.{base}
use Rattle.scan.specs.declared.Found.{Found}
use Rattle.calling.specs.Calling.{calling, IsThat}
use Rattle.calling.proofs.Looked.{put_back}
use Rattle.calling.proofs.Told.{refused, untouched, answered, filled}
use Rattle.close.specs.Close.{close_cases, close_number, fin_header, close_done, close_refused, close_of, close_packet, close_says, ClosePromise}

-- for the packet buffer b
module _ (e : End) (sid : ℕ) (b : List ℕ) where
  refusal : (r : Refusal) → refusal_number r ≡ close_number base e sid (length b) → ClosePromise e sid b (close_says (Err r) e) b
  unfolding close_of close_packet
  refusal r q = record { answer = refused r q _ (λ (k : ℕ). close_refused k e); packet = untouched r q _ b }

  -- the session isn't found
  pub unfound : (s : Result ℕ Refusal) → IsErr s → number_in s ≡ first (calling base e sid) → ClosePromise e sid b (close_says s e) b
  unfolding close_number numbered
  unfound (Ok n) i q = never i
  unfound (Err r) i q = refusal r (stops (calling base e sid) (close_cases (session_of sid e.slots) (length b)) refl (positive r) q)

  module _ {f : Found} (that : IsThat f e sid) (zero : 0 ≡ first (calling base e sid)) where
    number_is : {n : ℕ} → n ≡ first (close_cases f.session (length b)) → n ≡ close_number base e sid (length b)
    unfolding close_number numbered
    number_is q =
        passes (calling base e sid) (close_cases (session_of sid e.slots) (length b)) refl zero
        (q ∙ ap (λ (x : Session). first (close_cases x (length b))) that.session)

    -- it is found, and refuses
    pub unclosed : (s : Result ℕ Refusal) → IsErr s → number_in s ≡ first (close_cases f.session (length b)) → ClosePromise e sid b (close_says s e) b
    unclosed (Ok n) i q = never i
    unclosed (Err r) i q = refusal r (number_is q)

    pub closed : 0 ≡ first (close_cases f.session (length b)) → {h : Header} {y : Session} {d : End} {b' : List ℕ}
        → h ≡ fin_header f.session → y ≡ closed_on f.session → d ≡ put_of f.slot y e → b' ≡ onto (header_bytes h) b
        → ClosePromise e sid b (close_done d) b'
    unfolding close_of close_packet
    closed z {h} {y} {d} {b'} ph py pd pb = record {
      answer = ap close_done (pd ∙ ap (λ (x : Session). put_of f.slot x e) py ∙ put_back that closed_on) ∙ answered (number_is z) _ _;
      packet = pb ∙ ap (λ (g : Header). onto (header_bytes g) b) (ph ∙ ap fin_header that.session) ∙ filled (number_is z) _ b;
    }

-- where no case applies there is room
pub long : (x : Session) (room : ℕ) → 0 ≡ first (close_cases x room) → header_length ≤ room
unfolding test numbered
long x room z = ltb-false _ _ (clear (close_cases x room) 9 refl (sym z))
