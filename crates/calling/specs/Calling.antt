-- What the calls share: the refusals that most of them begin with.
use Rattle.std.specs.Prelude.{ℕ, ◌≡◌, Bool, true, not, List, [], ◌∷◌, length, ltb}
use Rattle.cases.specs.Cases.{Case, ◌⇒◌}
use Rattle.table.specs.declared.end.End.{End}
use Rattle.table.specs.Slots.{holds, session_of, slot_of}
use Rattle.table.specs.Limits.{Limits}
use Rattle.table.specs.Well.{well_made}
use Rattle.table.specs.Storage.{storage_length}
use Rattle.scan.specs.declared.Found.{Found}

-- the storage is too short for this end's slots
abbrev pub short_storage : Limits → End → ℕ → Bool
short_storage lim e storage = ltb storage (storage_length lim.place (length e.slots))

-- 12, 1, 4: the record is well made, the end is up, there is a session with that SID
abbrev pub called : Bool → Bool → Bool → List Case
called made up held = not made ⇒ 12 ∷ not up ⇒ 1 ∷ not held ⇒ 4 ∷ []

abbrev pub calling : Limits → End → ℕ → List Case
calling lim e sid = called (well_made lim e) e.up (holds sid e.slots)

-- the session with that SID, and its slot
pub record IsThat (f : Found) (e : End) (sid : ℕ) : Type 0 where
  pub slot : f.slot ≡ slot_of sid e.slots
  pub session : f.session ≡ session_of sid e.slots
  pub held : holds sid e.slots ≡ true
