-- With the words of the slots that are left put, all are put.
use Rattle.std.proofs.Common.{◌≡◌, drop}
use Rattle.std.proofs.lemmas.List.Edits.{sets}
use Rattle.crossing.specs.Crossing.{slot_at, slots_words}
use Rattle.crossing.proofs.put_end.Given as goal

abbrev pub invariant-loop-i : goal.invariant-loop-i
invariant-loop-i l = sets l.w (slot_at l.i) (slots_words (drop l.i l.fn.e.slots)) ≡ sets l.initial.w 2 (slots_words l.fn.e.slots)
