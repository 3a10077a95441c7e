-- An ACK that is due has sixteen bytes.
use Rattle.std.proofs.Common.{sym, ap, ◌∙◌, not}
use Rattle.read.proofs.Reading.{ack_some}
use Rattle.read.proofs.write_ack.Goals as goal

pub returns-clause-value : goal.returns-clause-value
returns-clause-value c =
    (ack_some c.args.x c.args.ack.now (ap not (sym c.due.ensures ∙ c.if-not-due.false)) c.ack_header.ensures c.header.ensures).0
