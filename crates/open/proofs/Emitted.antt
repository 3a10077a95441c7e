-- Open emits as many bytes as its answer says, over any limits.
use Prim.Native.Nat.{ℕ}
use mathlib.Core.Path.{◌≡◌, refl, sym, ap, ◌∙◌}
use mathlib.Core.List.{List}
use lib.ListN.{length}
use Rattle.buffer.specs.Onto.{Front}
use Rattle.buffer.proofs.Onto.{onto_front}
use Rattle.cases.proofs.First.{done_length}
use Rattle.wire.specs.Packet.{header_bytes}
use Rattle.wire.proofs.Headers.{header_length_lem}
use Rattle.table.specs.declared.end.End.{End}
use Rattle.table.specs.Slots.{smallest_sid}
use Rattle.table.specs.Limits.{Limits, base}
use Rattle.open.specs.Open.{OpenAnswer}
use Rattle.open.specs.Open.{open_number, syn_header, opened_end, open_done, open_refused, open_of, open_packet, OpenPromise}

pub open_long : (lim : Limits) (e : End) (room : ℕ) → length (open_packet lim e room) ≡ (open_of lim e room).length
unfolding open_packet open_of
open_long lim e room =
    let sid = smallest_sid e.slots in
    done_length (λ (a : OpenAnswer). a.length) (open_number lim e room) (open_done sid (opened_end sid e)) (open_refused (open_number lim e room) e)
    (header_bytes (syn_header sid)) (λ z. header_length_lem (syn_header sid)) refl

-- so they are at the front of the buffer, whatever number comes back
pub open_counts : {e : End} {lent exit : List ℕ} {r : OpenAnswer} → OpenPromise e lent r exit → Front r.length exit
open_counts {e} {lent} q =
    onto_front (open_packet base e (length lent)) lent q.packet (open_long base e (length lent) ∙ ap (λ (a : OpenAnswer). a.length) (sym q.answer))
