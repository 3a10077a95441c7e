-- The line has the numbers so far.
use Rattle.std.proofs.Common.{◌≡◌, take}
use Rattle.fields.specs.Answer.{each}
use Rattle.fields.proofs.answer.Answer.each.Given as goal

abbrev pub invariant-loop-n : goal.invariant-loop-n
invariant-loop-n l = l.self ≡ each l.mark (take l.n-index l.numbers) l.initial.self
