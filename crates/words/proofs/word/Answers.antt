-- The k-th of the parts between spaces.
use Rattle.std.proofs.Common.{◌≡◌, Option, Some, None, [], Bor, refl, ap, ◌∙◌, rules}
use borrow.Author.Tests.{tests}
use Rattle.std.specs.Option.{unwrap_or, option_map}
use Rattle.std.proofs.lemmas.Iterator.Consumers.{nth_from_yields_List}
use Rattle.std.proofs.lemmas.Iterator.Splits.{YieldsList-from_slice_split}
use Rattle.words.specs.Words.{is_space}
use Rattle.words.proofs.word.Goals as goal

-- what stands behind the reference that was found, or behind the other
now_or : {A : Type 0} (r : Option (Bor A)) (d : Bor A) → (unwrap_or r d).now ≡ unwrap_or (option_map (λ x. x.now) r) d.now
now_or None d = refl
now_or (Some x) d = refl

pub returns : goal.returns
returns c =
    let found = nth_from_yields_List c.nth.result c.nth.new.self c.args.k c.nth.ensures.ran
    (YieldsList-from_slice_split _ is_space c.args.line.now c.split.ensures.rest c.split.ensures.done c.split.ensures.closure
    (λ x b q k. search (rules, tests))) in
    rw c.unwrap_or.ensures (now_or c.nth.result _ ∙ ap (λ o. unwrap_or o []) found)
