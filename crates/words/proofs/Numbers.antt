-- A number within its limit, or 0, is what `value` answers.
use Rattle.std.proofs.Common.{ℕ, ◌<◌, ◌≡◌, Option, Some, None, sym, ltb, inl, inr}
use Rattle.std.specs.Option.{unwrap_or}
use borrow.Author.Tests.{lt-ltb, le-ltb, le-leb, lt-leb}
use Rattle.std.proofs.lemmas.Bool.{cases_lt}
use Rattle.cases.specs.Cases.{if}
use Rattle.words.specs.Words.{within, no_number}

pub within_or : (most : ℕ) (x : Option ℕ) → most < no_number
    → unwrap_or (within most x) 0 ≡ if (ltb most (unwrap_or x no_number)) 0 (unwrap_or x no_number)
within_or most None h = sym (rw (lt-ltb most no_number h))
within_or most (Some n) h =
    elim (cases_lt most n) [
      | inl p ↦ rw (lt-leb n most p, lt-ltb most n p)
      | inr p ↦ rw (le-leb n most p, le-ltb most n p)
    ]
