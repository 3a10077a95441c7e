-- A peer that grants more than four (document 02, (ii)): one claim about the whole list of laws/specs/Grants.antt, by computation.
use lib.Dec.{T}
use Rattle.cases.specs.Cases.{first}
use Rattle.wire.specs.Packet.{number, bytes, read_header, header_bytes, flags_of}
use Rattle.session.specs.Well.{in_order}
use Rattle.effect.specs.Taken.{window_in_range, seqnum_in_range}
use Rattle.table.specs.Slots.{holds, session_of, changed, lowest_free, smallest_from, full}
use Rattle.table.specs.Well.{every, sids_differ}
use Rattle.open.specs.Open.{open_number, open_of, open_packet}
use Rattle.send.specs.Send.{send_number, send_of, send_packet}
use Rattle.judge.specs.Number.{take_number}
use Rattle.take.specs.Take.{take_of}
use Rattle.laws.specs.Bench.{all}
use Rattle.laws.specs.Grants.{after, rows}

pub values : T (all rows)
unfolding take_of take_number open_of open_number open_packet send_of send_number send_packet after first number bytes read_header header_bytes flags_of in_order
    window_in_range seqnum_in_range holds session_of changed lowest_free smallest_from every sids_differ full
values = tt
