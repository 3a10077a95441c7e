-- The SIDs in use differ where those of the slots not yet seen do.
use Rattle.std.proofs.Common.{◌≡◌, length}
use Rattle.table.specs.Well.{sids_differ}
use Rattle.sids.proofs.sids_differ.Given as goal

abbrev pub invariant-loop-x : goal.invariant-loop-x
invariant-loop-x l = sids_differ l.e.slots ≡ sids_differ l.slots

abbrev pub decreases-loop-x : goal.decreases-loop-x
decreases-loop-x l = length l.slots
