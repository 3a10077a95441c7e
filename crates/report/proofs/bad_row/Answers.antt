-- The number, `bad`, and LF behind it.
use Rattle.text.proofs.Writing.{then}
use Rattle.report.specs.Rows.{bad_text}
use Rattle.report.proofs.bad_row.Goals as goal

pub returns-clause-wrote : goal.returns-clause-wrote
unfolding bad_text
returns-clause-wrote c = then c.number.ensures (then c.put.ensures c.byte.ensures)
