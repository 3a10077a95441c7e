-- What was found and asked, handed to the law for a refusal, or for a close that is done.
use Rattle.std.proofs.Common.{rules}
use Rattle.close.proofs.Closing.{unfound, unclosed, closed}
use Rattle.close.proofs.close.Goals as goal

pub returns-in_err-found-clause-close_promise : goal.returns-in_err-found-clause-close_promise
returns-in_err-found-clause-close_promise c =
    let a = c.args in
    unfound a.e.now a.sid a.packet.now c.from_residual.result c.from_residual.ensures.0 (search rules)

pub returns-in_err-may_close-clause-close_promise : goal.returns-in_err-may_close-clause-close_promise
returns-in_err-may_close-clause-close_promise c =
    let a = c.args in
    unclosed a.e.now a.sid a.packet.now c.in_ok-found.ensures.found c.in_ok-found.ensures.number c.from_residual-in_err-may_close.result
    c.from_residual-in_err-may_close.ensures.0 (search rules)

pub returns-clause-close_promise : goal.returns-clause-close_promise
returns-clause-close_promise c =
    let a = c.args in
    closed a.e.now a.sid a.packet.now c.in_ok-found.ensures.found c.in_ok-found.ensures.number c.in_ok-may_close.ensures c.fin_header.ensures c.closed.ensures
    c.put.ensures c.header.ensures
