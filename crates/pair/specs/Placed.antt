-- Where the payloads are that were accepted and not yet received: unread in the reader's slot, or on their way. They are read off the bytes: those
-- in the places of the storage, and those of the marked packets in the channel.
use Rattle.std.specs.Prelude.{ℕ, zero, suc, List, [], ◌∷◌, ◌++◌, take, drop, eqb}
use Rattle.cases.specs.Cases.{if}
use Rattle.wire.specs.declared.kind.Kind.TheVariants.{Data}
use Rattle.wire.specs.Packet.{header_length, field, flags_value}
use Rattle.session.specs.declared.record.Session.{Session}
use Rattle.session.specs.Counter.{plus}
use Rattle.session.specs.Record.{unread, oldest, length_at}
use Rattle.table.specs.Storage.{place_start}
use Rattle.pair.specs.Side.{Side}
use Rattle.pair.specs.Whose.{Marked}
use Rattle.pair.specs.History.{Scene}
use Rattle.pair.specs.Claims.{slot_at}

-- the payload of a packet, if it is DATA
abbrev pub data_of : List ℕ → List (List ℕ)
data_of b = if (eqb (field 1 1 b) (flags_value Data)) (drop header_length b ∷ []) []

unfoldable pub carried : ℕ → List Marked → List (List ℕ)
carried n [] = []
carried n (m ∷ ms) = if (eqb m.session n) (data_of m.bytes) [] ++ carried n ms

-- the payloads of session n on their way to a side
abbrev pub on_way : Scene → Side → ℕ → List (List ℕ)
on_way x k n = carried n (x.book.notes k).coming

-- so many payloads in the places of slot i, from a SEQNUM on
unfoldable pub queued : ℕ → ℕ → Session → List ℕ → ℕ → ℕ → List (List ℕ)
queued place i x storage zero q = []
queued place i x storage (suc more) q = take (length_at q x) (drop (place_start place i q) storage) ∷ queued place i x storage more (plus q 1)

-- the payloads unread in slot i of a side, the oldest first
abbrev pub unread_in : ℕ → Scene → Side → ℕ → List (List ℕ)
unread_in place x k i = queued place i (slot_at x k i) (x.world k).storage (unread (slot_at x k i)) (oldest (slot_at x k i))
