-- What `any` found by each record is what is held.
use Rattle.std.proofs.Common.{rules, tests, ◌∙◌, sym}
use Rattle.std.proofs.lemmas.Iterator.{YieldsList-from_slice}
use Rattle.std.proofs.lemmas.Iterator.Search.{any_from_yields_List}
use Rattle.table.specs.Slots.{is_of}
use Rattle.table.proofs.Slots.{holds_any}
use Rattle.table.proofs.end.holds.Goals as goal

pub returns : goal.returns
returns c =
    any_from_yields_List (is_of c.args.sid) _ _ _ c.any.ensures.ran (YieldsList-from_slice c.args.slots.now cc) (λ x b q k. search (rules, tests))
    ∙ sym (holds_any c.args.sid c.args.slots.now)
