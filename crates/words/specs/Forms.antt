-- What the words behind a line's first have to be, for each line.
use Rattle.std.specs.Prelude.{ℕ, ◌+◌, Bool, ◌&&◌, List, [], ◌∷◌, length, eqb, is_some, Option, Some, None, find, codes}
use Rattle.std.specs.List.{list_all, enumerate_from}
use Rattle.std.specs.Option.{option_map}
use Rattle.std.specs.Str.{bytes_eq}
use Rattle.cases.specs.Cases.{if}
use Rattle.words.specs.declared.forms.Ask.{Ask}
use Rattle.words.specs.declared.forms.Ask.TheVariants.{Number, Bytes, Role}
use Rattle.words.specs.declared.forms.Form.{Form}
use Rattle.words.specs.declared.forms.Form.TheVariants.{Start, Open, Send, Read, Close, Shutdown, Take, Lend, Record, End, Show, Peek}
use Rattle.words.specs.Words.{short, counter, room_length, storage_length, peek_limit, last_slot, last_state}
use Rattle.words.specs.Words.{spaces, word_of, spelled, within, is_bytes, is_role}

-- what a line asks of its words behind the first, in their order
abbrev pub asked : Form → List Ask
asked Start = Role ∷ []
asked Open = Number room_length ∷ []
asked Send = Number short ∷ Bytes ∷ Number room_length ∷ []
asked Read = Number short ∷ Number room_length ∷ Number room_length ∷ []
asked Close = Number short ∷ Number room_length ∷ []
asked Shutdown = []
asked Take = Bytes ∷ []
asked Lend = Number storage_length ∷ []
asked Record =
    Number last_slot ∷ Number last_state ∷ Number short ∷ Number counter ∷ Number counter ∷ Number counter ∷ Number counter ∷ Number counter
    ∷ Number short ∷ Number short ∷ Number short ∷ Number short ∷ []
asked End = Role ∷ Number 1 ∷ []
asked Show = []
asked Peek = Number storage_length ∷ Number peek_limit ∷ []

-- a word is as asked
abbrev pub meets : Ask → List ℕ → Bool
meets (Number most) chars = is_some (within most (spelled chars))
meets Bytes chars = is_bytes chars
meets Role chars = is_role chars

-- each word behind the first is as asked in its place
abbrev pub all_meet : List ℕ → List Ask → Bool
all_meet line asks = list_all (λ (p : ℕ × Ask). meets p.1 (word_of (p.0 + 1) line)) (enumerate_from 0 asks)

-- the words behind the first are as many as asked, and each as asked
abbrev pub is_right : List ℕ → Form → Bool
is_right line form = eqb (spaces line) (length (asked form)) && all_meet line (asked form)

-- ---- names

-- the names of the lines
abbrev pub names : List (List ℕ × Form)
names =
    (codes "start", Start) ∷ (codes "open", Open) ∷ (codes "send", Send) ∷ (codes "read", Read) ∷ (codes "close", Close)
    ∷ (codes "shutdown", Shutdown) ∷ (codes "take", Take) ∷ (codes "lend", Lend) ∷ (codes "record", Record) ∷ (codes "end", End)
    ∷ (codes "show", Show) ∷ (codes "peek", Peek) ∷ []

-- the form that a name names
abbrev pub named : List ℕ → Option Form
named name = option_map (λ (p : List ℕ × Form). p.1) (find (λ (p : List ℕ × Form). bytes_eq p.0 name) names)

-- the form that the first word names, if the others are as it asks
abbrev pub right_or : List ℕ → Option Form → Option Form
right_or line None = None
right_or line (Some form) = if (is_right line form) (Some form) None

abbrev pub form_of : List ℕ → Option Form
form_of line = right_or line (named (word_of 0 line))
