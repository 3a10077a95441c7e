-- A space, and the word behind it.
use Rattle.text.proofs.Writing.{then}
use Rattle.report.proofs.word.put.Goals as goal

pub returns : goal.returns
returns c = then c.byte.ensures c.bytes.ensures
