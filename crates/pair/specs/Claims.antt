-- What the theorems of demand 3 speak of: a session's own entries in a history, what was accepted and received, the session alone.
use Rattle.std.specs.Prelude.{ℕ, suc, ◌*◌, ◌-◌, ◌<◌, ◌≤◌, ◌≡◌, ◌≢◌, ◌⊎◌, Bool, true, false, not, ◌&&◌, List, [], ◌∷◌, ◌++◌, length, take, drop, get_or, T, eqb, ltb}
use Rattle.std.proofs.Math.Option.{Option, none, some}
use Rattle.cases.specs.Cases.{if, done}
use Rattle.wire.specs.declared.kind.Kind.TheVariants.{Syn, Fin}
use Rattle.wire.specs.Packet.{header_length, field, flags_value}
use Rattle.session.specs.declared.record.Session.{Session}
use Rattle.session.specs.Record.{free, fresh_of, in_use, fin_sent}
use Rattle.table.specs.Limits.{Limits}
use Rattle.table.specs.Storage.{storage_length}
use Rattle.pair.specs.Side.{Side, client, server}
use Rattle.pair.specs.Step.{Call, Open, Send, Read, Close, Take, shape, Step, Reply}
use Rattle.pair.specs.Whose.{Marked}
use Rattle.pair.specs.History.{Scene, Entry}

-- ---- every entry, some entry

abbrev pub Every : (Entry → Type 0) → List Entry → Type 0
Every P [] = Unit
Every P (e ∷ h) = P e × Every P h

abbrev pub Some : (Entry → Type 0) → List Entry → Type 0
Some P [] = ⊥
Some P (e ∷ h) = P e ⊎ Some P h

-- ---- a session's own entries

abbrev pub is_of : ℕ → Option ℕ → Bool
is_of n none = false
is_of n (some m) = eqb m n

unfoldable pub own : ℕ → List Entry → List Entry
own n [] = []
own n (e ∷ h) = if (is_of n e.whose) (e ∷ own n h) (own n h)

-- ---- payloads: a list of them, not of their bytes; empty ones count

abbrev pub only : Side → Side → List (List ℕ) → List (List ℕ)
only client client ps = ps
only client server ps = []
only server client ps = []
only server server ps = ps

abbrev pub offered : Option (List ℕ) → Reply → List (List ℕ)
offered none r = []
offered (some payload) r = done r.number (payload ∷ []) []

abbrev pub sent : Call → Reply → List (List ℕ)
sent c r = offered (shape c).offers r

abbrev pub got : Call → Reply → List (List ℕ)
got c r = if (shape c).reads (done r.number (r.payload ∷ []) []) []

-- what the sends at a side were accepted with, in order
unfoldable pub accepted : Side → List Entry → List (List ℕ)
accepted k [] = []
accepted k (e ∷ h) = only k e.step.side (sent e.step.call e.reply) ++ accepted k h

-- what the reads at a side handed over, in order
unfoldable pub received : Side → List Entry → List (List ℕ)
received k [] = []
received k (e ∷ h) = only k e.step.side (got e.step.call e.reply) ++ received k h

-- a is a first part of b
pub record FirstPart (a b : List (List ℕ)) : Type 0 where
  pub more : List (List ℕ)
  pub whole : b ≡ a ++ more

-- ---- kinds of entries

abbrev pub IsRead : Call → Type 0
IsRead c = T (shape c).reads

abbrev pub IsClose : Call → Type 0
IsClose c = T (shape c).closes

abbrev pub IsTake : Call → Type 0
IsTake c = T (shape c).takes

abbrev pub IsOpen : Call → Type 0
IsOpen c = T (shape c).opens

-- a read at that side answered 11
pub record Told (k : Side) (e : Entry) : Type 0 where
  pub side : e.step.side ≡ k
  pub read : IsRead e.step.call
  pub number : e.reply.number ≡ 11

-- a close at that side answered 0
pub record Ended (k : Side) (e : Entry) : Type 0 where
  pub side : e.step.side ≡ k
  pub close : IsClose e.step.call
  pub number : e.reply.number ≡ 0

-- that side took a FIN of session n
pub record FinTaken (k : Side) (n : ℕ) (e : Entry) : Type 0 where
  pub side : e.step.side ≡ k
  pub take : IsTake e.step.call
  pub number : e.reply.number ≡ 0
  pub kind : e.reply.kind ≡ flags_value Fin
  pub whose : e.whose ≡ some n

-- session n was opened, and the answer gave it that SID
pub record OpenedAs (n x : ℕ) (e : Entry) : Type 0 where
  pub call : IsOpen e.step.call
  pub number : e.reply.number ≡ 0
  pub whose : e.whose ≡ some n
  pub sid : e.reply.sid ≡ x

-- ---- slots of a scene

abbrev pub slot_at : Scene → Side → ℕ → Session
slot_at x k i = get_or (x.world k).end.slots i free

-- slot i at that side holds session n
pub record Holds (x : Scene) (k : Side) (i n : ℕ) : Type 0 where
  pub slot : i < length (x.world k).end.slots
  pub used : in_use (slot_at x k i).state ≡ true
  pub owner : (x.book.notes k).owner i ≡ n

-- what is lent of a side's storage is long enough
abbrev pub Enough : Limits → Scene → Side → ℕ → Type 0
Enough lim x k lent = storage_length lim.place (length (x.world k).end.slots) ≤ length (take lent (x.world k).storage)

-- ---- what a step may do

-- neither a fault, nor 1, nor 12
pub record Fine (e : Entry) : Type 0 where
  pub below : e.reply.number < 20
  pub up : e.reply.number ≢ 1
  pub made : e.reply.number ≢ 12

-- a packet taken with 0 is filed with the session that sent it: in one slot of the end, and in that slot's four places. A SYN finds the slot free
-- and leaves a fresh session there, under the SID that take answers. Any other packet finds a session there under that SID. The slot stays in use
-- but after a FIN in FIN SENT, and any other packet leaves a session in FIN SENT as it was.
pub record OwnSlot (place : ℕ) (e : Entry) : Type 0 where
  pub slot : ℕ
  pub within : slot < length (e.before.world e.step.side).end.slots
  pub session : e.whose ≡ some ((e.after.book.notes e.step.side).owner slot)
  pub found : in_use (slot_at e.before e.step.side slot).state ≡ not (eqb e.reply.kind (flags_value Syn))
  pub fresh : e.reply.kind ≡ flags_value Syn → slot_at e.after e.step.side slot ≡ fresh_of e.reply.sid
  pub number : e.reply.kind ≢ flags_value Syn → e.reply.sid ≡ (slot_at e.before e.step.side slot).sid
  pub stays : in_use (slot_at e.after e.step.side slot).state
      ≡ not (fin_sent (slot_at e.before e.step.side slot).state && eqb e.reply.kind (flags_value Fin))
  pub ignored : fin_sent (slot_at e.before e.step.side slot).state ≡ true → e.reply.kind ≢ flags_value Fin
      → slot_at e.after e.step.side slot ≡ slot_at e.before e.step.side slot
  pub others : (j : ℕ) → j ≢ slot → slot_at e.after e.step.side j ≡ slot_at e.before e.step.side j
  pub bytes : (o : ℕ) → (o < 4 * place * slot) ⊎ (4 * place * suc slot ≤ o)
      → get_or (e.after.world e.step.side).storage o 0 ≡ get_or (e.before.world e.step.side).storage o 0

-- what a take tells of the packet m at the head, where so many bytes were given: with 0 its kind and its length; with 10 how many bytes are missing,
-- of sixteen where fewer are given, else of the packet
pub record OfHead (m : Marked) (given : ℕ) (r : Reply) : Type 0 where
  pub kind : r.number ≡ 0 → r.kind ≡ field 1 1 m.bytes
  pub used : r.number ≡ 0 → r.used ≡ length m.bytes
  pub missing : r.number ≡ 10 → r.missing ≡ if (ltb given header_length) (header_length - given) (length m.bytes - given)

-- ---- the session alone: "the same steps come in the same order with the same payloads and the same lengths of buffers and storage, each
-- take given just its packet; slot and number may differ"

abbrev pub alone_call : Call → Reply → Call
alone_call (Open room) r = Open room
alone_call (Send sid payload room) r = Send 0 payload room
alone_call (Read sid room ack lent) r = Read 0 room ack lent
alone_call (Close sid room) r = Close 0 room
alone_call (Take given lent) r = Take r.used lent

abbrev pub alone_step : Entry → Step
alone_step e = record { side = e.step.side; call = alone_call e.step.call e.reply }

-- a packet with its SID, bytes 2 and 3, set to 0
abbrev pub numberless : List ℕ → List ℕ
numberless [] = []
numberless (b ∷ bs) = take 2 (b ∷ bs) ++ (0 ∷ 0 ∷ drop 4 (b ∷ bs))

-- a reply but for the SID, in the answer and in the packet
abbrev pub plain_reply : Entry → Reply
plain_reply e = record {
  number = e.reply.number;
  sid = 0;
  used = e.reply.used;
  kind = e.reply.kind;
  missing = e.reply.missing;
  payload_length = e.reply.payload_length;
  payload = e.reply.payload;
  packet_length = e.reply.packet_length;
  packet = numberless e.reply.packet;
}
