-- Document 01's highest window beside that of document 02, (ii): the same limits but for the highest window, which is our own, four.
use Rattle.std.specs.Prelude.{ℕ, ◌≢◌}
use Rattle.session.specs.Record as record'
use Rattle.table.specs.Limits.{Limits}

abbrev pub narrow : Limits → Limits
narrow lim = record { window = record'.window; place = lim.place }

-- neither 27 nor 28, whose ranges the request widens
pub record Unwidened (number : ℕ) : Type 0 where
  pub syn : number ≢ 27
  pub wndw : number ≢ 28
