-- What a call asks of the table, in one look.
use Rattle.std.specs.Prelude.{ℕ, List, Option, Some, None, Result, Ok, Err}
use Rattle.cases.specs.declared.refusal.Refusal.{Refusal}
use Rattle.cases.specs.declared.refusal.Refusal.TheVariants.{IllMade}
use Rattle.cases.specs.Cases.{if}
use Rattle.session.specs.declared.record.Session.{Session}
use Rattle.table.specs.declared.end.End.{End}
use Rattle.table.specs.Limits.{Limits}
use Rattle.table.specs.Slots.{holds, session_of, slot_of, full, lowest_free}
use Rattle.table.specs.Well.{well_made}
use Rattle.scan.specs.declared.Found.{Found}
use Rattle.scan.specs.declared.Look.{Look}

-- the session with that SID and its slot, where there is one
abbrev pub found_in : ℕ → List Session → Option Found
found_in sid xs = if (holds sid xs) (Some (record { slot = slot_of sid xs; session = session_of sid xs })) None

-- the lowest free slot, where there is one
abbrev pub free_in : List Session → Option ℕ
free_in xs = if (full xs) None (Some (lowest_free xs))

abbrev pub seen : End → ℕ → Look
seen e sid = record { found = found_in sid e.slots; free = free_in e.slots }

-- nothing of a record that isn't well made
unfoldable pub look_of : Limits → End → ℕ → Result Look Refusal
look_of lim e sid = if (well_made lim e) (Ok (seen e sid)) (Err IllMade)
