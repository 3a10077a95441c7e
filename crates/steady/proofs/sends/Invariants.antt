-- The sends that are left give what all of them give.
use Rattle.std.proofs.Common.{◌≡◌}
use Rattle.steady.specs.Steady.{sends_of}
use Rattle.steady.proofs.Loops.{sends_left}
use Rattle.steady.proofs.sends.Given as goal

abbrev pub invariant-loop-sid : goal.invariant-loop-sid
invariant-loop-sid l =
    sends_left l.payload l.sid-iterator l.answer l.packet
    ≡ sends_of l.fn.first l.fn.turns.sid l.payload l.fn.packet l.count l.fn.turns.last l.fn.turns.step
