-- What the answer line of each call, and of the program's own lines, puts behind a line.
use Rattle.std.specs.Prelude.{ℕ, ◌+◌, ◌||◌, Bool, List, [], ◌∷◌, length, take, leb, slice_range}
use Rattle.cases.specs.Cases.{if}
use Rattle.text.specs.Letters.{letters}
use Rattle.words.specs.Words.{value_of, storage_length, peek_limit}
use Rattle.fields.specs.Answer.{word, number, each, bytes}
use Rattle.fields.specs.Rooms.{is_touched}

-- the last field, where a room was touched
abbrev pub marked : Bool → List ℕ → List ℕ
marked touched line = if touched (word (letters "touched") line) line

-- PACKET: the first bytes of the room that a call was lent
abbrev pub packet : ℕ → ℕ → List ℕ → List ℕ → List ℕ
packet n length room line = marked (is_touched n length room) (bytes (take length room) line)

-- send and close: NUMBER PACKET
abbrev pub sent : ℕ → ℕ → List ℕ → List ℕ → List ℕ
sent n length room line = packet n length room (number n line)

-- open: NUMBER SID PACKET
abbrev pub opened : ℕ → ℕ → ℕ → List ℕ → List ℕ → List ℕ
opened n sid length room line = packet n length room (number sid (number n line))

-- read: NUMBER PAYLOAD ACK
abbrev pub got : ℕ → ℕ → List ℕ → ℕ → List ℕ → List ℕ → List ℕ
got n length room second ack line =
    marked (is_touched n length room || is_touched n second ack) (bytes (take second ack) (bytes (take length room) (number n line)))

-- a count of bytes as 32 bits. It is never over 2^32 - 1; a larger one would be 0
abbrev pub few : ℕ → ℕ
few n = if (leb n 4294967295) n 0

-- take: NUMBER USED KIND SID MISSING
abbrev pub taken : ℕ → ℕ → ℕ → ℕ → ℕ → List ℕ → List ℕ
taken n used kind sid missing line = each 32 (few used ∷ kind ∷ sid ∷ few missing ∷ []) (number n line)

-- lend, record and end
abbrev pub ok : List ℕ → List ℕ
ok line = word (letters "ok") line

-- any other line
abbrev pub bad : List ℕ → List ℕ
bad line = word (letters "bad") line

-- peek: N bytes of the storage from AT on
abbrev pub part : ℕ → ℕ → List ℕ → List ℕ → List ℕ
part at n storage line = if (leb (at + n) (length storage)) (bytes (slice_range storage at (at + n)) line) (bad line)

-- peek, with what its words ask for
abbrev pub peeked : List ℕ → List ℕ → List ℕ → List ℕ
peeked words storage line = part (value_of words 1 storage_length) (value_of words 2 peek_limit) storage line
