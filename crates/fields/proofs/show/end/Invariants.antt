-- What the line becomes is still to be seen from the next slot on.
use Rattle.std.proofs.Common.{◌≡◌, drop}
use Rattle.fields.specs.Show.{slots}
use Rattle.fields.proofs.show.end.Given as goal

abbrev pub invariant-loop-i : goal.invariant-loop-i
invariant-loop-i l = slots 0 l.x-items l.initial.answer ≡ slots l.i (drop l.i l.x-items) l.answer
