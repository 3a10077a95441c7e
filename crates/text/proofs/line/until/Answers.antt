-- The law says by the first `stop` where a text ends.
use Rattle.text.proofs.Lines.{found_from}
use Rattle.text.proofs.line.until.Goals as goal

pub returns : goal.returns
returns c = let a = c.args in found_from a.stop a.text.now a.from c.position.result c.unwrap_or.result c.position.ensures c.unwrap_or.ensures
