-- What was found and asked, handed to the law for a refusal, or for a send that is done.
use Rattle.std.proofs.Common.{rules}
use Rattle.send.proofs.Sending.{unfound, unsent, sent}
use Rattle.send.proofs.send.Goals as goal

pub returns-in_err-found-clause-send_promise : goal.returns-in_err-found-clause-send_promise
returns-in_err-found-clause-send_promise c =
    let a = c.args in
    unfound a.e.now a.sid a.payload.now a.packet.now c.from_residual.result c.from_residual.ensures.0 (search rules)

pub returns-in_err-may_send-clause-send_promise : goal.returns-in_err-may_send-clause-send_promise
returns-in_err-may_send-clause-send_promise c =
    let a = c.args in
    unsent a.e.now a.sid a.payload.now a.packet.now c.in_ok-found.ensures.found c.in_ok-found.ensures.number c.from_residual-in_err-may_send.result
    c.from_residual-in_err-may_send.ensures.0 (search rules)

pub returns-clause-send_promise : goal.returns-clause-send_promise
returns-clause-send_promise c =
    let a = c.args in
    sent a.e.now a.sid a.payload.now a.packet.now c.in_ok-found.ensures.found c.in_ok-found.ensures.number c.in_ok-may_send.ensures c.data_header.ensures
    c.sent.ensures c.put.ensures c.packet.ensures
