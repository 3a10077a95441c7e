-- What is left of the slots, and what was seen of those behind.
use Rattle.std.specs.Iterator.Adapters.{enumerate_source, enumerate_count, rev_source}
use Rattle.std.specs.Slice.Iter.{iter_rest}
use Rattle.table.specs.Limits.{base}
use Rattle.scan.proofs.Seen.{Going}
use Rattle.scan.proofs.scan.Given as goal

abbrev pub invariant-loop-i : goal.invariant-loop-i
invariant-loop-i l =
    Going base l.e.up l.e.slots l.sid l.slot l.free l.marks l.twice (enumerate_count (rev_source l.i-iterator)) (iter_rest (enumerate_source (rev_source l.i-iterator)))
