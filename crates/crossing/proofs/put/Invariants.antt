-- With the words that are left put, all are put.
use Rattle.std.proofs.Common.{◌+◌, ◌≡◌, drop}
use Rattle.std.proofs.lemmas.List.Edits.{sets}
use Rattle.crossing.proofs.put.Given as goal

abbrev pub invariant-loop-k : goal.invariant-loop-k
invariant-loop-k l = sets l.w (l.at + l.k) (drop l.k l.words) ≡ sets l.initial.w l.at l.words
