-- One call many times over, each on the record that the call before returned. A call is what its own contract says.
use Rattle.std.specs.Prelude.{ℕ, zero, suc, ◌+◌, ◌%◌, ◌^◌, min, List, [], ◌∷◌, length, drop, ◌==◌}
use Rattle.cases.specs.Cases.{if}
use Rattle.buffer.specs.Onto.{onto}
use Rattle.table.specs.declared.end.End.{End}
use Rattle.table.specs.Limits.{base}
use Rattle.send.specs.Send.{SendAnswer}
use Rattle.send.specs.Send.{send_of, send_packet}
use Rattle.read.specs.Read.{ReadAnswer}
use Rattle.read.specs.Read.{read_of, read_payload, read_ack}
use Rattle.take.specs.Take.{TakeAnswer}
use Rattle.take.specs.Take.{take_of, take_storage}
use Rattle.steady.specs.declared.answer.Answer.{Answer}
use Rattle.steady.specs.declared.turns.Turns.{Turns}

-- ---- what comes back

abbrev pub answer_of : ℕ → List ℕ → ℕ → End → Answer
answer_of number values sum e = record { number = number; values = values; sum = sum; end = e }

abbrev pub zeros : List ℕ
zeros = 0 ∷ 0 ∷ 0 ∷ 0 ∷ []

-- of no call
abbrev pub none_of : End → Answer
none_of e = answer_of 0 zeros 0 e

-- the sum of all numbers and lengths, modulo 2^64
abbrev pub tally_of : ℕ → ℕ → ℕ → ℕ
tally_of sum number n = ((sum + number) % 2 ^ 64 + n) % 2 ^ 64

-- ---- between two calls

-- past the bytes used, and never past the last
abbrev pub past_of : ℕ → ℕ → ℕ → ℕ
past_of at used n = min (at + used) n

-- the sessions in turn: 0, step, 2 step, and so on to the last
abbrev pub next_sid : ℕ → ℕ → ℕ → ℕ
next_sid sid last step = if (sid == last) 0 ((sid + step) % 2 ^ 16)

-- the turns behind the next
abbrev pub after_turn : Turns → Turns
after_turn t = record { sid = next_sid t.sid t.last t.step; last = t.last; step = t.step }

-- a step taken n times
unfoldable pub times : {A : Type 0} → ℕ → (A → A) → A → A
times zero step a = a
times (suc n) step a = times n step (step a)

-- ---- sends: one payload, on each session in turn

pub record Sending : Type 0 where
  pub answer : Answer
  pub sid : ℕ
  pub packet : List ℕ

abbrev pub sending_of : Answer → ℕ → List ℕ → Sending
sending_of a sid packet = record { answer = a; sid = sid; packet = packet }

-- the last answer, and the sum with it
abbrev pub sent_answer : ℕ → SendAnswer → Answer
sent_answer sum s = answer_of s.number (s.length ∷ 0 ∷ 0 ∷ 0 ∷ []) (tally_of sum s.number s.length) s.end

unfoldable pub send_step : List ℕ → ℕ → ℕ → Sending → Sending
send_step payload last step g =
    sending_of (sent_answer g.answer.sum (send_of base g.answer.end g.sid payload (length g.packet))) (next_sid g.sid last step)
    (onto (send_packet base g.answer.end g.sid payload (length g.packet)) g.packet)

unfoldable pub sends_of : End → ℕ → List ℕ → List ℕ → ℕ → ℕ → ℕ → Sending
sends_of e sid payload packet count last step = times count (send_step payload last step) (sending_of (none_of e) sid packet)

-- ---- reads: payloads from each session in turn

pub record Reading : Type 0 where
  pub answer : Answer
  pub sid : ℕ
  pub payload : List ℕ
  pub ack : List ℕ

abbrev pub reading_of : Answer → ℕ → List ℕ → List ℕ → Reading
reading_of a sid payload ack = record { answer = a; sid = sid; payload = payload; ack = ack }

abbrev pub got_answer : ℕ → ReadAnswer → Answer
got_answer sum r =
    answer_of r.number (r.payload_length ∷ r.ack_length ∷ 0 ∷ 0 ∷ []) (tally_of sum r.number r.payload_length) r.end

unfoldable pub read_step : List ℕ → ℕ → ℕ → Reading → Reading
read_step storage last step g =
    reading_of
    (got_answer g.answer.sum (read_of base g.answer.end g.sid (length g.payload) (length g.ack) (length storage)))
    (next_sid g.sid last step)
    (onto (read_payload base g.answer.end g.sid (length g.payload) (length g.ack) storage) g.payload)
    (onto (read_ack base g.answer.end g.sid (length g.payload) (length g.ack) (length storage)) g.ack)

unfoldable pub reads_of : End → ℕ → List ℕ → List ℕ → List ℕ → ℕ → ℕ → ℕ → Reading
reads_of e sid storage payload ack count last step = times count (read_step storage last step) (reading_of (none_of e) sid payload ack)

-- ---- takes: the packets of a stream, from a byte of it on

pub record Taking : Type 0 where
  pub answer : Answer
  pub at : ℕ
  pub storage : List ℕ

abbrev pub taking_of : Answer → ℕ → List ℕ → Taking
taking_of a at storage = record { answer = a; at = at; storage = storage }

abbrev pub taken_answer : ℕ → TakeAnswer → Answer
taken_answer sum t =
    answer_of t.number (t.used ∷ t.kind ∷ t.sid ∷ t.missing ∷ []) (tally_of sum t.number t.used) t.end

-- what is left of the stream
abbrev pub left_of : List ℕ → Taking → List ℕ
left_of bytes g = drop g.at bytes

abbrev pub taken_by : List ℕ → Taking → TakeAnswer
taken_by bytes g = take_of base g.answer.end (left_of bytes g) (length g.storage)

unfoldable pub take_step : List ℕ → Taking → Taking
take_step bytes g =
    taking_of (taken_answer g.answer.sum (taken_by bytes g)) (past_of g.at (taken_by bytes g).used (length bytes))
    (take_storage base g.answer.end (left_of bytes g) g.storage)

unfoldable pub takes_of : End → List ℕ → List ℕ → ℕ → Taking
takes_of e bytes storage count = times count (take_step bytes) (taking_of (none_of e) 0 storage)
