-- Ranges of a list of bytes, from an index on: what lies outside one, and two lists that agree in one.
use Rattle.std.specs.Prelude.{ℕ, ◌+◌, ◌≤◌, ◌<◌, ◌≡◌, List, length, get_or}

-- the index k lies outside the n from index `from`
pub data Outside (from n k : ℕ) : Type 0 where
  below : k < from → Outside from n k
  above : from + n ≤ k → Outside from n k

-- two lists of one length agree in the n from index `from`
pub record Agree (from n : ℕ) (l l' : List ℕ) : Type 0 where
  pub long : length l ≡ length l'
  pub same : (k : ℕ) → from ≤ k → k < from + n → get_or l k 0 ≡ get_or l' k 0
