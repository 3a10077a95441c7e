-- Bytes written into a lent buffer from a place on, as one promise: what code that writes a text part by part says of each part.
use Rattle.std.specs.Prelude.{ℕ, ◌+◌, ◌≤◌, ◌≡◌, List, length}
use Rattle.std.proofs.Math.Seq.{paste}

-- the buffer d with the text in it from `at` on, no other byte changed, and the place behind the text
pub record Wrote (d : List ℕ) (at : ℕ) (text : List ℕ) (d' : List ℕ) (at' : ℕ) : Type 0 where
  pub written : d' ≡ paste d at text (length text)
  pub behind : at' ≡ at + length text
  pub room : at + length text ≤ length d
