-- Five texts, one behind the other.
use Rattle.text.proofs.Writing.{then}
use Rattle.report.proofs.told_row.Goals as goal

pub returns-clause-wrote : goal.returns-clause-wrote
returns-clause-wrote c = then c.number.ensures (then c.number-2.ensures (then c.put.ensures (then c.number-3.ensures c.byte.ensures)))
