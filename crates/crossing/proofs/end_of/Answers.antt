-- Each slot is made by a call on its words.
use Rattle.std.proofs.Common.{rules}
use Rattle.crossing.specs.Crossing.{end_from}
use Rattle.crossing.proofs.Words.{slots_made}
use Rattle.crossing.proofs.end_of.Goals as goal

pub returns : goal.returns
unfolding end_from
returns c = rw (slots_made _ _ c.args.w.now c.from_fn.result 16 (λ i x f' h k. search rules) c.from_fn.ensures.items) (search rules)
