-- `end`, its state, the number, and LF behind it.
use Rattle.std.proofs.Common.{List, ℕ, ◌∷◌, subst}
use Rattle.text.proofs.Writing.{then}
use Rattle.text.specs.Writing.{Written}
use Rattle.report.specs.Rows.{space, end_row}
use Rattle.report.proofs.last_row.Goals as goal

pub returns-clause-wrote : goal.returns-clause-wrote
unfolding end_row
returns-clause-wrote c =
    let word = subst (λ (t : List ℕ). Written c.bytes.new.self (space ∷ t) c.put.new.w) c.state.ensures c.put.ensures in
    then c.bytes.ensures (then word (then c.number.ensures c.byte.ensures))
