-- What was seen and asked, handed to the law for a refusal, or for an open that is done.
use Rattle.std.proofs.Common.{rules}
use Rattle.open.proofs.Opening.{refused_look, unopened, opened}
use Rattle.open.proofs.open.Goals as goal

pub returns-in_err-look-clause-open_promise : goal.returns-in_err-look-clause-open_promise
returns-in_err-look-clause-open_promise c =
    let a = c.args in
    refused_look a.e.now a.packet.now c.in_err-look.ensures c.from_residual.result c.from_residual.ensures.0 (search rules)

pub returns-in_err-slot-clause-open_promise : goal.returns-in_err-slot-clause-open_promise
returns-in_err-slot-clause-open_promise c =
    let a = c.args in
    unopened a.e.now a.packet.now c.in_ok-look.ensures c.from_residual-in_err-slot.result c.from_residual-in_err-slot.ensures.0 (search rules)

pub returns-clause-open_promise : goal.returns-clause-open_promise
returns-clause-open_promise c =
    let a = c.args in
    opened a.e.now a.packet.now c.in_ok-look.ensures c.in_ok-slot.ensures.number c.in_ok-slot.ensures.slot c.smallest_sid-sid.ensures c.syn_header.ensures
    c.fresh.ensures c.put.ensures c.header.ensures
