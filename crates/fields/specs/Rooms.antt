-- The rooms that calls get for packets and payloads: how much of one is asked for, and whether a call wrote where it mustn't.
use Rattle.std.specs.Prelude.{ℕ, ◌*◌, Bool, not, ◌&&◌, ◌==◌, List, [], length, take, drop, leb}
use Rattle.std.specs.List.{list_all}
use Rattle.cases.specs.Cases.{if, done}
use Rattle.words.specs.Words.{room_length}
use Rattle.text.specs.Hex.{is_hex, from_hex}

-- an array of which calls are lent so many bytes, from the front on
pub record Part : Type 0 where
  pub bytes : List ℕ
  pub count : ℕ

-- the bytes that are lent
abbrev pub lent_of : Part → List ℕ
lent_of p = take p.count p.bytes

-- the byte that rooms are filled with
abbrev pub fill : ℕ
fill = 165

-- the bytes that a word spells: none where it is no hexadecimal, or longer than a room in digits
abbrev pub bytes_of : List ℕ → List ℕ
bytes_of chars = if (is_hex chars && leb (length chars) (2 * room_length)) (from_hex chars) []

-- each byte is that one
abbrev pub is_filled : List ℕ → Bool
is_filled room = list_all (λ b. b == fill) room

-- a call with this number wrote behind its front, or anywhere if it refused
abbrev pub is_touched : ℕ → ℕ → List ℕ → Bool
is_touched n front room = not (is_filled (drop (done n front 0) room))
