-- Judge answers what decide answers for what was seen.
use Rattle.judge.proofs.Judging.{judged}
use Rattle.judge.proofs.judge.Goals as goal

pub returns-clause-judged : goal.returns-clause-judged
returns-clause-judged c =
    judged _ _ _ _ c.sid_in.ensures c.in_ok-look.ensures c.is_short-short.ensures.value c.is_short-short.ensures.sixteen c.decide.ensures.decided
