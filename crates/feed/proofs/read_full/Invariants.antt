-- What has come stands within the buffer, and each read that goes on fills more of it.
use Rattle.std.proofs.Common.{length, ◌-◌, ◌≤◌}
use Rattle.feed.proofs.read_full.Given as goal

abbrev pub invariant-loop-n : goal.invariant-loop-n
invariant-loop-n l = l.n ≤ length l.input

abbrev pub decreases-loop-n : goal.decreases-loop-n
decreases-loop-n l = length l.input - l.n
