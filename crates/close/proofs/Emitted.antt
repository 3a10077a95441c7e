-- Close emits as many bytes as its answer says, over any limits.
use Prim.Native.Nat.{ℕ}
use mathlib.Core.Path.{◌≡◌, refl, sym, ap, ◌∙◌}
use mathlib.Core.List.{List}
use lib.ListN.{length}
use Rattle.buffer.specs.Onto.{Front}
use Rattle.buffer.proofs.Onto.{onto_front}
use Rattle.cases.proofs.First.{done_length}
use Rattle.wire.specs.Packet.{header_bytes}
use Rattle.wire.proofs.Headers.{header_length_lem}
use Rattle.session.specs.Changes.{closed_on}
use Rattle.table.specs.declared.end.End.{End}
use Rattle.table.specs.Slots.{session_of}
use Rattle.table.specs.End.{changed_of}
use Rattle.table.specs.Limits.{Limits, base}
use Rattle.close.specs.Close.{CloseAnswer}
use Rattle.close.specs.Close.{close_number, fin_header, close_done, close_refused, close_of, close_packet, ClosePromise}

pub close_long : (lim : Limits) (e : End) (sid room : ℕ) → length (close_packet lim e sid room) ≡ (close_of lim e sid room).length
unfolding close_packet close_of
close_long lim e sid room =
    let h = fin_header (session_of sid e.slots) in
    let n = close_number lim e sid room in
    done_length (λ (a : CloseAnswer). a.length) n (close_done (changed_of sid closed_on e)) (close_refused n e) (header_bytes h) (λ z. header_length_lem h) refl

-- so they are at the front of the buffer, whatever number comes back
pub close_counts : {e : End} {sid : ℕ} {lent exit : List ℕ} {r : CloseAnswer} → ClosePromise e sid lent r exit → Front r.length exit
close_counts {e} {sid} {lent} q =
    onto_front (close_packet base e sid (length lent)) lent q.packet
    (close_long base e sid (length lent) ∙ ap (λ (a : CloseAnswer). a.length) (sym q.answer))
