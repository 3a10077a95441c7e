-- The bench values of document 01: one claim about the whole list of laws/specs/Bench.antt, by computation.
use lib.Dec.{T}
use Rattle.cases.specs.Cases.{first}
use Rattle.wire.specs.Packet.{number, bytes, read_header, header_bytes, flags_of}
use Rattle.session.specs.Well.{in_order}
use Rattle.effect.specs.Taken.{window_in_range, seqnum_in_range}
use Rattle.table.specs.Slots.{holds, session_of, full}
use Rattle.table.specs.Well.{every, sids_differ}
use Rattle.send.specs.Send.{send_number, send_of, send_packet}
use Rattle.judge.specs.Number.{take_number}
use Rattle.take.specs.Take.{take_of}
use Rattle.laws.specs.Bench.{all, rows}

pub values : T (all rows)
unfolding take_of take_number send_of send_number send_packet first number bytes read_header header_bytes flags_of in_order window_in_range seqnum_in_range holds session_of
    every sids_differ full
values = tt
