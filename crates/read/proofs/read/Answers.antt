-- What was found and asked, handed to the law for a refusal, or for a read that is done.
use Rattle.std.proofs.Common.{rules, arith}
use Rattle.read.proofs.Emitted.{read_counts}
use Rattle.read.proofs.Reading.{unfound, unread_lem, fits, read_lem}
use Rattle.read.proofs.read.Goals as goal

pub returns-in_err-found-clause-read_promise : goal.returns-in_err-found-clause-read_promise
returns-in_err-found-clause-read_promise c =
    let a = c.args in
    unfound a.e.now a.sid a.storage.now a.payload.now a.ack.now c.from_residual.result c.from_residual.ensures.0 (search rules)

pub returns-in_err-may_read-clause-read_promise : goal.returns-in_err-may_read-clause-read_promise
returns-in_err-may_read-clause-read_promise c =
    let a = c.args in
    unread_lem a.e.now a.sid a.storage.now a.payload.now a.ack.now c.is_short-short.ensures.sixteen c.is_short-short.ensures.value c.in_ok-found.ensures.found c.in_ok-found.ensures.number
    c.from_residual-in_err-may_read.result c.from_residual-in_err-may_read.ensures.0 (search rules)

pub hand_over-requires : goal.hand_over-requires
hand_over-requires c =
    let a = c.args in
    let f =
    fits a.e.now a.sid a.storage.now a.payload.now a.ack.now c.is_short-short.ensures.sixteen c.is_short-short.ensures.value c.in_ok-found.ensures.found c.in_ok-found.ensures.number c.in_ok-may_read.ensures in
    (f.within, omega (arith, f.short, c.oldest_length-payload_length.ensures), omega (arith, f.room, c.oldest_length-payload_length.ensures), f.storage)

pub write_ack-ack_length-requires : goal.write_ack-ack_length-requires
write_ack-ack_length-requires c =
    let a = c.args in
    (fits a.e.now a.sid a.storage.now a.payload.now a.ack.now c.is_short-short.ensures.sixteen c.is_short-short.ensures.value c.in_ok-found.ensures.found c.in_ok-found.ensures.number c.in_ok-may_read.ensures).ack

pub returns-clause-read_promise : goal.returns-clause-read_promise
returns-clause-read_promise c =
    let a = c.args in
    read_lem a.e.now a.sid a.storage.now a.payload.now a.ack.now c.is_short-short.ensures.sixteen c.is_short-short.ensures.value c.in_ok-found.ensures.found c.in_ok-found.ensures.number c.in_ok-may_read.ensures
    c.oldest_length-payload_length.ensures c.oldest.ensures c.hand_over.ensures c.write_ack-ack_length.ensures.value c.write_ack-ack_length.ensures.ack_after
    c.read.ensures c.put.ensures

pub returns-clause-front : goal.returns-clause-front
returns-clause-front c =
    let a = c.args in
    read_counts
    (read_lem a.e.now a.sid a.storage.now a.payload.now a.ack.now c.is_short-short.ensures.sixteen c.is_short-short.ensures.value c.in_ok-found.ensures.found c.in_ok-found.ensures.number c.in_ok-may_read.ensures
    c.oldest_length-payload_length.ensures c.oldest.ensures c.hand_over.ensures c.write_ack-ack_length.ensures.value c.write_ack-ack_length.ensures.ack_after
    c.read.ensures c.put.ensures)
