-- The worked reports, document 01's listing first: one claim about the list, by computation.
use mathlib.Core.Path.{◌≡◌, refl}
use mathlib.Core.List.{map}
use Rattle.cases.specs.Cases.{first}
use Rattle.wire.specs.Packet.{number, read_header, flags_of}
use Rattle.session.specs.Well.{in_order}
use Rattle.effect.specs.Taken.{window_in_range, seqnum_in_range}
use Rattle.table.specs.Slots.{holds, session_of, changed, lowest_free, full, held_count}
use Rattle.table.specs.Well.{every, sids_differ}
use Rattle.judge.specs.Number.{take_number}
use Rattle.take.specs.Take.{take_of}
use Rattle.text.specs.Hex.{digit_value, from_hex, to_hex}
use Rattle.text.specs.Decimal.{digits, decimal}
use Rattle.text.specs.Lines.{lines}
use Rattle.report.specs.Rows.{sid_text, frame_row, bad_text, end_row}
use Rattle.fed.specs.Line.{unread_for, line_text, end_after}
use Rattle.capture.specs.Feed.{report, feed_text}
use Rattle.capture.specs.Worked.{Example, examples}

pub reported : map (λ (x : Example). feed_text x.input) examples ≡ map (λ (x : Example). x.report) examples
unfolding feed_text report end_row end_after line_text bad_text frame_row unread_for sid_text lines decimal digits to_hex from_hex digit_value take_of take_number
    first number read_header flags_of in_order window_in_range seqnum_in_range holds session_of changed lowest_free full held_count every sids_differ
reported = refl
