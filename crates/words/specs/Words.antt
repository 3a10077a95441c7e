-- The words of a line and what they spell. Words are what stands between spaces: a leading, double or trailing space makes an empty word.
use Rattle.std.specs.Prelude.{ℕ, ◌+◌, ◌-◌, ◌*◌, Bool, not, ◌&&◌, ◌||◌, List, [], ◌∷◌, length, slice_get, count_by, eqb, ltb, leb}
use Rattle.std.specs.Prelude.{Option, Some, None, unwrap_or, is_some, codes}
use Rattle.std.specs.List.{slice_split}
use Rattle.std.specs.Str.{bytes_eq}
use Rattle.cases.specs.Cases.{if}
use Rattle.table.specs.declared.end.Role.{Role}
use Rattle.text.specs.Hex.{is_between, is_hex}

-- ---- words

-- words stand between spaces
abbrev pub is_space : ℕ → Bool
is_space c = eqb c 32

-- how many words follow the first
abbrev pub spaces : List ℕ → ℕ
spaces line = count_by is_space line

-- word k, counted from 0; empty where there are fewer
abbrev pub word_of : ℕ → List ℕ → List ℕ
word_of k line = unwrap_or (slice_get (slice_split is_space line) k) []

-- ---- numbers

-- the number that decimal digits spell behind those that spell n
unfoldable pub digits_from : ℕ → List ℕ → Option ℕ
digits_from n [] = Some n
digits_from n (c ∷ cs) = if (is_between 48 57 c) (digits_from (10 * n + (c - 48)) cs) None

-- the number that one to ten digits spell
abbrev pub spelled : List ℕ → Option ℕ
spelled chars = if (eqb (length chars) 0 || ltb 10 (length chars)) None (digits_from 0 chars)

-- the number that word k spells
abbrev pub spelled_at : List ℕ → ℕ → Option ℕ
spelled_at line k = spelled (word_of k line)

-- a number, unless it is over the limit
abbrev pub within : ℕ → Option ℕ → Option ℕ
within most None = None
within most (Some n) = if (leb n most) (Some n) None

-- what a word that is no number counts as: it is over every limit
abbrev pub no_number : ℕ
no_number = 18446744073709551615

-- the number, where it has to be one
abbrev pub number_of : List ℕ → ℕ
number_of chars = unwrap_or (spelled chars) no_number

-- the same of word k
abbrev pub number_at : List ℕ → ℕ → ℕ
number_at line k = number_of (word_of k line)

-- the same, and 0 where it is over the limit
abbrev pub value_of : List ℕ → ℕ → ℕ → ℕ
value_of line k most = if (ltb most (number_at line k)) 0 (number_at line k)

-- ---- bytes and roles

-- lower-case hexadecimal, or `-` for none
abbrev pub is_bytes : List ℕ → Bool
is_bytes chars = not (eqb (length chars) 0) && (bytes_eq chars (codes "-") || is_hex chars)

-- the role of that name
abbrev pub role_in : List ℕ → Option Role
role_in chars = if (bytes_eq (codes "client") chars) (Some Role.Client) (if (bytes_eq (codes "server") chars) (Some Role.Server) None)

abbrev pub is_role : List ℕ → Bool
is_role chars = is_some (role_in chars)

-- the same, and the client's where there is none
abbrev pub role_of : List ℕ → Role
role_of chars = unwrap_or (role_in chars) Role.Client

-- ---- the largest numbers

-- a SID or a length, and a counter
abbrev pub short : ℕ
short = 65535

abbrev pub counter : ℕ
counter = 4294967295

-- a room
abbrev pub room_length : ℕ
room_length = 8192

-- a part of the storage, and the most of it that one line shows
abbrev pub storage_length : ℕ
storage_length = 32768

abbrev pub peek_limit : ℕ
peek_limit = 4096

-- the last slot and the last state
abbrev pub last_slot : ℕ
last_slot = 15

abbrev pub last_state : ℕ
last_state = 3
