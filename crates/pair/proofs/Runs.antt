-- The short runs of specs/Runs.antt, evaluated by the checker.
use mathlib.Core.Path.{refl}
use Rattle.cases.specs.Cases.{first}
use Rattle.wire.specs.Packet.{number, bytes, read_header, header_bytes, flags_of}
use Rattle.session.specs.Notice.{due}
use Rattle.session.specs.Well.{in_order}
use Rattle.effect.specs.Taken.{window_in_range, seqnum_in_range}
use Rattle.table.specs.Slots.{holds, session_of, slot_of, changed, lowest_free, smallest_from, full, held_count}
use Rattle.table.specs.Well.{every, sids_differ}
use Rattle.open.specs.Open.{open_of, open_packet, open_number}
use Rattle.send.specs.Send.{send_of, send_packet, send_number}
use Rattle.read.specs.Read.{read_of, read_payload, read_ack, read_number}
use Rattle.close.specs.Close.{close_of, close_packet, close_number}
use Rattle.take.specs.Take.{take_of, take_storage}
use Rattle.judge.specs.Number.{take_number}
use Rattle.pair.specs.History.{history, final}
use Rattle.pair.specs.Claims.{own, accepted, received}
use Rattle.pair.specs.Runs.{taken_in, Shown}

pub runs : Shown
unfolding history final own accepted received open_of open_packet open_number send_of send_packet send_number read_of read_number read_payload read_ack close_of
    close_packet close_number take_of take_number take_storage first number bytes read_header header_bytes flags_of in_order window_in_range seqnum_in_range holds
    session_of slot_of changed lowest_free smallest_from every sids_differ full held_count taken_in due
runs = (
  ((refl, refl), refl, refl, refl, (refl, refl)),
  ((refl, refl), refl, refl, refl, (refl, refl)),
  ((refl, refl), refl, refl, refl, (refl, refl), refl, refl),
  ((refl, refl), refl, refl, refl),
  ((refl, refl), refl, refl, refl),
  ((refl, refl), refl, refl, refl, refl, refl, (refl, refl)),
  ((refl, refl), refl, (refl, refl)),
  ((refl, refl), refl, refl, refl, (refl, refl)),
  (refl, refl, refl, refl, refl),
)
