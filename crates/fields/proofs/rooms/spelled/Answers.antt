-- The room was all zeros before.
use Rattle.std.proofs.Common.{ap, ◌∙◌}
use Rattle.buffer.specs.Onto.{onto}
use Rattle.fields.specs.Rooms.{bytes_of}
use Rattle.fields.proofs.rooms.spelled.Goals as goal

pub returns-clause-bytes : goal.returns-clause-bytes
returns-clause-bytes c = c.spell.ensures.bytes ∙ ap (onto (bytes_of c.args.chars.now)) c.filled-room.ensures.bytes
