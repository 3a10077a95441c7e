-- Whose step it is. "A session begins with its open. Its own steps are that open, each take that answers 0 for one of its packets, and each
-- call naming its number at an end whose table holds the session then, refusals included. Other calls belong to no session" (document 01).
-- Beside the world, and without any influence on it, a book is kept. A packet is its sender's: nothing here says where its receiver files it.
use Rattle.std.specs.Prelude.{ℕ, suc, ◌&&◌, ◌||◌, List, [], ◌∷◌, ◌++◌, eqb}
use Rattle.std.proofs.Math.Option.{Option, none, some}
use Rattle.cases.specs.Cases.{if, done}
use Rattle.wire.specs.declared.kind.Kind.TheVariants.{Syn}
use Rattle.wire.specs.Packet.{flags_value}
use Rattle.table.specs.Slots.{holds, slot_of, lowest_free}
use Rattle.pair.specs.Side.{Side, other}
use Rattle.pair.specs.World.{Party, World, with}
use Rattle.pair.specs.Step.{Call, shape, Step, Reply}

-- a packet in a channel, and the session whose end emitted it
pub record Marked : Type 0 where
  pub session : ℕ
  pub bytes : List ℕ

-- at one side: the packets on their way to it, and the session that each slot holds, or held last
pub record Notes : Type 0 where
  pub coming : List Marked
  pub owner : ℕ → ℕ

-- sessions are numbered by their opens, from 0 on
pub record Book : Type 0 where
  pub opened : ℕ
  pub notes : Side → Notes

abbrev pub empty : Book
empty = record { opened = 0; notes = λ k. record { coming = []; owner = λ i. 0 } }

-- the session that the table holds under the SID that a call names
abbrev pub named : Option ℕ → Party → Notes → Option ℕ
named none p b = none
named (some sid) p b = if (holds sid p.end.slots) (some (b.owner (slot_of sid p.end.slots))) none

-- the session of the first packet on its way
abbrev pub sender : List Marked → Option ℕ
sender [] = none
sender (m ∷ ms) = some m.session

-- whose step a call is that got this reply
abbrev pub whose : Call → Party → Book → Notes → Reply → Option ℕ
whose c p book b r =
    if (shape c).opens (done r.number (some book.opened) none)
    (if (shape c).takes (done r.number (sender b.coming) none)
    (named (shape c).names p b))

-- ---- how the book is kept

-- what a step of that session emitted
abbrev pub marked : Option ℕ → List ℕ → List Marked
marked who [] = []
marked none (b ∷ bs) = []
marked (some n) (b ∷ bs) = record { session = n; bytes = b ∷ bs } ∷ []

abbrev pub rest : List Marked → List Marked
rest [] = []
rest (m ∷ ms) = ms

-- a packet that was taken leaves
abbrev pub left : Call → Reply → List Marked → List Marked
left c r ms = if (shape c).takes (done r.number (rest ms) ms) ms

abbrev pub given : ℕ → Option ℕ → (ℕ → ℕ) → ℕ → ℕ
given i none owner j = owner j
given i (some n) owner j = if (eqb j i) n (owner j)

-- a slot gets its session from the open, or from the mark of the SYN that was taken
abbrev pub owners : Call → Party → Option ℕ → Reply → (ℕ → ℕ) → ℕ → ℕ
owners c p who r owner =
    if ((shape c).opens || ((shape c).takes && eqb r.kind (flags_value Syn)))
    (done r.number (given (lowest_free p.end.slots) who owner) owner) owner

abbrev pub counted : Call → Reply → ℕ → ℕ
counted c r n = if (shape c).opens (done r.number (suc n) n) n

-- the book after a step of that session, from a world w, that got this reply
abbrev pub noted : Step → World → Option ℕ → Reply → Book → Book
noted s w who r book =
    let mine = book.notes s.side in
    let theirs = book.notes (other s.side) in
    record {
      opened = counted s.call r book.opened;
      notes = with s.side (record {
        coming = left s.call r mine.coming;
        owner = owners s.call (w s.side) who r mine.owner;
      }) (with (other s.side) (record { coming = theirs.coming ++ marked who r.packet; owner = theirs.owner }) book.notes);
    }
