-- What the answer line of show puts behind a line: an end and its slots.
use Rattle.std.specs.Prelude.{ℕ, ◌+◌, ◌==◌, Bool, List, [], ◌∷◌, slice_index}
use Rattle.std.specs.List.{list_all}
use Rattle.cases.specs.Cases.{if}
use Rattle.text.specs.Letters.{letters}
use Rattle.session.specs.declared.record.State.{State}
use Rattle.session.specs.declared.record.State.TheVariants.{Closed, Established, FinSent, FinReceived}
use Rattle.session.specs.declared.record.Session.{Session}
use Rattle.table.specs.declared.end.Role.{Role}
use Rattle.table.specs.declared.end.Role.TheVariants.{Client, Server}
use Rattle.table.specs.declared.end.End.{End}
use Rattle.fields.specs.Answer.{word, number, each}

-- a role's name
abbrev pub name_of : Role → List ℕ
name_of Client = letters "client"
name_of Server = letters "server"

-- a state's number
abbrev pub number_of : State → ℕ
number_of Closed = 0
number_of Established = 1
number_of FinSent = 2
number_of FinReceived = 3

-- STATE SID S H R G L L0 L1 L2 L3
unfoldable pub parts_of : Session → List ℕ
parts_of x =
    number_of x.state ∷ x.sid ∷ x.s ∷ x.h ∷ x.r ∷ x.g ∷ x.l
    ∷ slice_index x.lens 0 ∷ slice_index x.lens 1 ∷ slice_index x.lens 2 ∷ slice_index x.lens 3 ∷ []

-- no number but 0
abbrev pub all_zeros : List ℕ → Bool
all_zeros parts = list_all (λ n. n == 0) parts

-- SLOT and its parts, and nothing for a slot that is all zeros; 58 is `:`
abbrev pub slot : ℕ → Session → List ℕ → List ℕ
slot i x line = if (all_zeros (parts_of x)) line (each 58 (parts_of x) (number i line))

-- the slots of a list, the first of which is slot i
abbrev pub slots : ℕ → List Session → List ℕ → List ℕ
slots i [] line = line
slots i (x ∷ xs) line = slots (i + 1) xs (slot i x line)

-- ROLE UP and the slots
abbrev pub end : End → List ℕ → List ℕ
end e line = slots 0 e.slots (number (if e.up 1 0) (word (name_of e.role) line))
