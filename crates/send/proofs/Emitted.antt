-- Send emits as many bytes as its answer says, over any limits.
use Prim.Native.Nat.{ℕ, ◌+◌}
use mathlib.Core.Path.{◌≡◌, refl, sym, ap, ◌∙◌}
use mathlib.Core.List.{List}
use lib.ListN.{length}
use Rattle.buffer.specs.Onto.{Front}
use Rattle.buffer.proofs.Onto.{onto_front}
use Rattle.cases.proofs.First.{done_length}
use Rattle.wire.specs.Packet.{header_length, packet_bytes}
use Rattle.wire.proofs.Headers.{packet_length_lem}
use Rattle.session.specs.Changes.{sent_on}
use Rattle.table.specs.declared.end.End.{End}
use Rattle.table.specs.Slots.{session_of}
use Rattle.table.specs.End.{changed_of}
use Rattle.table.specs.Limits.{Limits, base}
use Rattle.send.specs.Send.{SendAnswer}
use Rattle.send.specs.Send.{send_number, data_header, send_done, send_refused, send_of, send_packet, SendPromise}

pub send_long : (lim : Limits) (e : End) (sid : ℕ) (payload : List ℕ) (room : ℕ)
    → length (send_packet lim e sid payload room) ≡ (send_of lim e sid payload room).length
unfolding send_packet send_of
send_long lim e sid payload room =
    let h = data_header (session_of sid e.slots) (length payload) in
    let n = send_number lim e sid (length payload) room in
    done_length (λ (a : SendAnswer). a.length) n (send_done (header_length + length payload) (changed_of sid sent_on e)) (send_refused n e)
    (packet_bytes h payload) (λ z. packet_length_lem h payload) refl

-- so they are at the front of the buffer, whatever number comes back
pub send_counts : {e : End} {sid : ℕ} {payload lent exit : List ℕ} {r : SendAnswer} → SendPromise e sid payload lent r exit → Front r.length exit
send_counts {e} {sid} {payload} {lent} q =
    onto_front (send_packet base e sid payload (length lent)) lent q.packet
    (send_long base e sid payload (length lent) ∙ ap (λ (a : SendAnswer). a.length) (sym q.answer))
