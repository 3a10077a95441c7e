-- What the theorems on one session beside others speak of: which slots a call may change, and what two ends must agree on for it to answer alike.
use Rattle.std.specs.Prelude.{ℕ, ◌≡◌, true, false, List, [], ◌∷◌, get_or, Option, Some, None}
use Rattle.wire.specs.declared.header.Header.{Header}
use Rattle.wire.specs.declared.kind.Kind.{Kind}
use Rattle.wire.specs.declared.kind.Kind.TheVariants.{Syn, Ack, Fin, Data}
use Rattle.session.specs.Record.{free}
use Rattle.table.specs.declared.end.End.{End}
use Rattle.table.specs.Slots.{is_of, session_of, slot_of, lowest_free}
use Rattle.table.specs.Limits.{base}
use Rattle.table.specs.Well.{well_made}
use Rattle.take.specs.Take.{TakeAnswer}

-- ---- only its own slot

-- role and up stay, and so does every slot that doesn't hold the SID
pub record Others (sid : ℕ) (e d : End) : Type 0 where
  pub role : d.role ≡ e.role
  pub up : d.up ≡ e.up
  pub slots : (j : ℕ) → is_of sid (get_or e.slots j free) ≡ false → get_or d.slots j free ≡ get_or e.slots j free

-- slot j is the packet's: it holds the packet's session; for a SYN it is the lowest free one
abbrev pub its : Option Kind → Header → End → ℕ → Type 0
its (Some Syn) h e j = j ≡ lowest_free e.slots
its (Some Ack) h e j = is_of h.sid (get_or e.slots j free) ≡ true
its (Some Fin) h e j = is_of h.sid (get_or e.slots j free) ≡ true
its (Some Data) h e j = is_of h.sid (get_or e.slots j free) ≡ true
its None h e j = ⊥

-- ---- the same answer

-- the two ends agree on what a call for that SID may see
pub record Alike (sid : ℕ) (e e' : End) : Type 0 where
  pub made : well_made base e ≡ well_made base e'
  pub up : e.up ≡ e'.up
  pub session : session_of sid e.slots ≡ session_of sid e'.slots

-- what take answers, the record apart
abbrev pub values : TakeAnswer → List ℕ
values r = r.number ∷ r.used ∷ r.kind ∷ r.sid ∷ r.missing ∷ []

-- the slot where a packet is filed
abbrev pub filed_in : Option Kind → Header → End → ℕ
filed_in (Some Syn) h e = lowest_free e.slots
filed_in (Some Ack) h e = slot_of h.sid e.slots
filed_in (Some Fin) h e = slot_of h.sid e.slots
filed_in (Some Data) h e = slot_of h.sid e.slots
filed_in None h e = slot_of h.sid e.slots
