-- The numbers that each call can answer with, 0 apart: document 01's lists.
use Rattle.std.specs.Prelude.{ℕ, ◌≡◌, List, [], ◌∷◌}

pub data Among (n : ℕ) : List ℕ → Type 0 where
  first : {m : ℕ} {l : List ℕ} → n ≡ m → Among n (m ∷ l)
  further : {m : ℕ} {l : List ℕ} → Among n l → Among n (m ∷ l)

abbrev pub open_list : List ℕ
open_list = 12 ∷ 1 ∷ 2 ∷ 3 ∷ 9 ∷ []

abbrev pub send_list : List ℕ
send_list = 12 ∷ 1 ∷ 4 ∷ 5 ∷ 6 ∷ 7 ∷ 9 ∷ []

abbrev pub read_list : List ℕ
read_list = 12 ∷ 1 ∷ 4 ∷ 5 ∷ 8 ∷ 11 ∷ 9 ∷ []

abbrev pub close_list : List ℕ
close_list = 12 ∷ 1 ∷ 4 ∷ 5 ∷ 9 ∷ []

abbrev pub shutdown_list : List ℕ
shutdown_list = 12 ∷ 1 ∷ []

-- for SYN 24, 25, 26, 27, for others 23, 30, 28, 29
abbrev pub take_list : List ℕ
take_list = 12 ∷ 1 ∷ 9 ∷ 10 ∷ 20 ∷ 21 ∷ 22 ∷ 10 ∷ 24 ∷ 25 ∷ 26 ∷ 27 ∷ 23 ∷ 30 ∷ 28 ∷ 29 ∷ []
