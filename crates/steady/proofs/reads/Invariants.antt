-- The reads that are left give what all of them give.
use Rattle.std.proofs.Common.{◌≡◌}
use Rattle.steady.specs.Steady.{reads_of}
use Rattle.steady.proofs.Loops.{reads_left}
use Rattle.steady.proofs.reads.Given as goal

abbrev pub invariant-loop-sid : goal.invariant-loop-sid
invariant-loop-sid l =
    reads_left l.storage l.sid-iterator l.answer l.payload l.ack
    ≡ reads_of l.fn.first l.fn.turns.sid l.storage l.fn.payload l.fn.ack l.count l.fn.turns.last l.fn.turns.step
