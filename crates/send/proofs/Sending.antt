-- Send: from what the code found to its promise.
use Rattle.std.proofs.Common.{ℕ, ◌+◌, ◌≤◌, ◌≡◌, List, length, refl, sym, ap, ◌∙◌, Result, Ok, Err, IsErr}
use borrow.Author.Tests.{ltb-false}
use Rattle.cases.specs.declared.refusal.Refusal.{Refusal}
use Rattle.cases.specs.Cases.{first, refusal_number, number_in}
use Rattle.cases.proofs.First.{numbered, test, clear}
use Rattle.cases.proofs.Tests.{never}
use Rattle.cases.proofs.Refused.{positive, stops, passes}
use Rattle.wire.specs.declared.header.Header.{Header}
use Rattle.wire.specs.Packet.{header_length, packet_bytes}
use Rattle.wire.proofs.Headers.{packet_length_lem}
use Rattle.buffer.specs.Onto.{onto, Front}
use Rattle.buffer.proofs.Onto.{onto_front}
use Rattle.session.specs.declared.record.Session.{Session}
use Rattle.session.specs.Record.{payload_limit}
use Rattle.session.specs.Changes.{sent_on}
use Rattle.table.specs.declared.end.End.{End}
use Rattle.table.specs.Slots.{session_of}
use Rattle.table.specs.End.{put_of}
use Rattle.table.specs.Limits.{base}
use Rattle.scan.specs.declared.Found.{Found}
use Rattle.calling.specs.Calling.{calling, IsThat}
use Rattle.calling.proofs.Looked.{put_back}
use Rattle.calling.proofs.Told.{refused, untouched, answered, filled}
use Rattle.send.specs.Send.{send_cases, send_number, data_header, send_done, send_refused, send_of, send_packet, send_says, SendPromise}

-- for the payload p and the packet buffer b
module _ (e : End) (sid : ℕ) (p b : List ℕ) where
  refusal : (r : Refusal) → refusal_number r ≡ send_number base e sid (length p) (length b) → SendPromise e sid p b (send_says (Err r) e) b
  unfolding send_of send_packet
  refusal r q = record { answer = refused r q _ (λ (k : ℕ). send_refused k e); packet = untouched r q _ b }

  -- the session isn't found
  pub unfound : (s : Result ℕ Refusal) → IsErr s → number_in s ≡ first (calling base e sid) → SendPromise e sid p b (send_says s e) b
  unfolding send_number numbered
  unfound (Ok n) i q = never i
  unfound (Err r) i q = refusal r (stops (calling base e sid) (send_cases base (session_of sid e.slots) (length p) (length b)) refl (positive r) q)

  module _ {f : Found} (that : IsThat f e sid) (zero : 0 ≡ first (calling base e sid)) where
    number_is : {n : ℕ} → n ≡ first (send_cases base f.session (length p) (length b)) → n ≡ send_number base e sid (length p) (length b)
    unfolding send_number numbered
    number_is q =
        passes (calling base e sid) (send_cases base (session_of sid e.slots) (length p) (length b)) refl zero
        (q ∙ ap (λ (x : Session). first (send_cases base x (length p) (length b))) that.session)

    -- it is found, and refuses
    pub unsent : (s : Result ℕ Refusal) → IsErr s → number_in s ≡ first (send_cases base f.session (length p) (length b)) → SendPromise e sid p b (send_says s e) b
    unsent (Ok n) i q = never i
    unsent (Err r) i q = refusal r (number_is q)

    pub sent : 0 ≡ first (send_cases base f.session (length p) (length b)) → {h : Header} {y : Session} {d : End} {b' : List ℕ}
        → h ≡ data_header f.session (length p) → y ≡ sent_on f.session → d ≡ put_of f.slot y e → b' ≡ onto (packet_bytes h p) b
        → SendPromise e sid p b (send_done (header_length + length p) d) b'
    unfolding send_of send_packet
    sent z {h} {y} {d} {b'} ph py pd pb = record {
      answer =
          ap (send_done (header_length + length p)) (pd ∙ ap (λ (x : Session). put_of f.slot x e) py ∙ put_back that sent_on)
          ∙ answered (number_is z) _ _;
      packet =
          pb
          ∙ ap (λ (g : Header). onto (packet_bytes g p) b) (ph ∙ ap (λ (x : Session). data_header x (length p)) that.session)
          ∙ filled (number_is z) _ b;
    }

-- where no case applies, the payload is within the limit and there is room
module _ (x : Session) (n room : ℕ) (z : 0 ≡ first (send_cases base x n room)) where
  pub limit : n ≤ payload_limit
  unfolding test numbered
  limit = ltb-false _ _ (clear (send_cases base x n room) 6 refl (sym z))

  pub long : header_length + n ≤ room
  unfolding test numbered
  long = ltb-false _ _ (clear (send_cases base x n room) 9 refl (sym z))

-- so the packet is at the front of the buffer
pub front : (x : Session) (p b : List ℕ) → 0 ≡ first (send_cases base x (length p) (length b)) → (h : Header) {b' : List ℕ} → b' ≡ onto (packet_bytes h p) b
    → Front (header_length + length p) b'
front x p b z h q = onto_front (packet_bytes h p) b q (packet_length_lem h p)
