-- An end as words: role, up, then eleven words for each slot: state, SID, S, H, R, G, L and the four lengths.
use Rattle.std.specs.Prelude.{ℕ, zero, suc, ◌+◌, ◌*◌, ◌%◌, Bool, not, List, [], ◌∷◌, ◌++◌, get_or, eqb}
use Rattle.cases.specs.Cases.{if}
use Rattle.session.specs.declared.record.State.{State}
use Rattle.session.specs.declared.record.State.TheVariants.{Closed, Established, FinSent, FinReceived}
use Rattle.session.specs.declared.record.Session.{Session}
use Rattle.session.specs.Record.{record_of}
use Rattle.table.specs.declared.end.Role.{Role}
use Rattle.table.specs.declared.end.Role.TheVariants.{Client, Server}
use Rattle.table.specs.declared.end.End.{End}
use Rattle.table.specs.End.{slot_count}

-- ---- the end that some words hold

-- a word that isn't there is 0
abbrev pub word_at : List ℕ → ℕ → ℕ
word_at w i = get_or w i 0

-- a word too wide for its field is cut
abbrev pub short_of : ℕ → ℕ
short_of x = x % 65536

abbrev pub role_of : ℕ → Role
role_of x = if (eqb x 0) Client Server

abbrev pub state_of : ℕ → State
state_of x = if (eqb x 0) Closed (if (eqb x 1) Established (if (eqb x 2) FinSent FinReceived))

-- four lengths from a word on
abbrev pub lens_at : List ℕ → ℕ → List ℕ
lens_at w at = short_of (word_at w at) ∷ short_of (word_at w (at + 1)) ∷ short_of (word_at w (at + 2)) ∷ short_of (word_at w (at + 3)) ∷ []

-- how many words a slot has, and where they begin
abbrev pub slot_words : ℕ
slot_words = 11

abbrev pub slot_at : ℕ → ℕ
slot_at i = 2 + slot_words * i

-- the record in the words from there on
abbrev pub record_at : List ℕ → ℕ → Session
record_at w at =
    record_of (state_of (word_at w at)) (short_of (word_at w (at + 1))) (word_at w (at + 2)) (word_at w (at + 3)) (word_at w (at + 4)) (word_at w (at + 5))
    (word_at w (at + 6)) (lens_at w (at + 7))

unfoldable pub session_from : List ℕ → ℕ → Session
session_from w i = record_at w (slot_at i)

-- so many slots, from slot i on
unfoldable pub slots_from : List ℕ → ℕ → ℕ → List Session
slots_from w i zero = []
slots_from w i (suc more) = session_from w i ∷ slots_from w (suc i) more

unfoldable pub end_from : List ℕ → End
end_from w = record { role = role_of (word_at w 0); up = not (eqb (word_at w 1) 0); slots = slots_from w 0 slot_count }

-- ---- an end's words

abbrev pub role_word : Role → ℕ
role_word Client = 0
role_word Server = 1

abbrev pub up_word : Bool → ℕ
up_word up = if up 1 0

abbrev pub state_word : State → ℕ
state_word Closed = 0
state_word Established = 1
state_word FinSent = 2
state_word FinReceived = 3

unfoldable pub session_words : Session → List ℕ
session_words x =
    state_word x.state ∷ x.sid ∷ x.s ∷ x.h ∷ x.r ∷ x.g ∷ x.l
    ∷ get_or x.lens 0 0 ∷ get_or x.lens 1 0 ∷ get_or x.lens 2 0 ∷ get_or x.lens 3 0 ∷ []

unfoldable pub slots_words : List Session → List ℕ
slots_words [] = []
slots_words (x ∷ xs) = session_words x ++ slots_words xs

unfoldable pub words_of : End → List ℕ
words_of e = role_word e.role ∷ up_word e.up ∷ slots_words e.slots

-- ---- words put into a slice: as far as it goes, and later words untouched

unfoldable pub over : List ℕ → List ℕ → List ℕ
over xs [] = []
over [] (y ∷ ys) = y ∷ ys
over (x ∷ xs) (y ∷ ys) = x ∷ over xs ys
