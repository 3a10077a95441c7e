-- Any call on any record: what bench/ calls from C.
use Rattle.std.specs.Prelude.{ℕ, ◌≡◌, List, [], ◌∷◌, length, get_or}
use Rattle.buffer.specs.Onto.{onto}
use Rattle.table.specs.declared.end.End.{End}
use Rattle.table.specs.Limits.{base}
use Rattle.start.specs.Start.{StartAnswer}
use Rattle.start.specs.Start.{start_of}
use Rattle.open.specs.Open.{OpenAnswer}
use Rattle.open.specs.Open.{open_of, open_packet}
use Rattle.close.specs.Close.{CloseAnswer}
use Rattle.close.specs.Close.{close_of, close_packet}
use Rattle.shutdown.specs.Shutdown.{ShutdownAnswer}
use Rattle.shutdown.specs.Shutdown.{shutdown_of}
use Rattle.steady.specs.declared.answer.Answer.{Answer}
use Rattle.crossing.specs.Crossing.{end_from, words_of, over}
use Rattle.steady.specs.Steady.{answer_of, zeros, Sending, sends_of, Reading, reads_of, Taking, takes_of}

-- ---- the answers of the calls that are made once; their sum is 0

abbrev pub start_answer : StartAnswer → Answer
start_answer r = answer_of r.number zeros 0 r.end

abbrev pub open_answer : OpenAnswer → Answer
open_answer r = answer_of r.number (r.sid ∷ r.length ∷ 0 ∷ 0 ∷ []) 0 r.end

abbrev pub close_answer : CloseAnswer → Answer
close_answer r = answer_of r.number (r.length ∷ 0 ∷ 0 ∷ 0 ∷ []) 0 r.end

abbrev pub shutdown_answer : ShutdownAnswer → Answer
shutdown_answer r = answer_of r.number zeros 0 r.end

-- ---- what a call leaves: an answer, and the three buffers

pub record Left : Type 0 where
  pub answer : Answer
  pub storage : List ℕ
  pub out : List ℕ
  pub ack : List ℕ

abbrev pub leaves : Answer → List ℕ → List ℕ → List ℕ → Left
leaves a storage out ack = record { answer = a; storage = storage; out = out; ack = ack }

abbrev pub sends_leave : Sending → List ℕ → List ℕ → Left
sends_leave g storage ack = leaves g.answer storage g.packet ack

abbrev pub reads_leave : Reading → List ℕ → Left
reads_leave g storage = leaves g.answer storage g.payload g.ack

abbrev pub takes_leave : Taking → List ℕ → List ℕ → Left
takes_leave g out ack = leaves g.answer g.storage out ack

-- start 0, open 1, send 2, read 3, close 4, shutdown 5, take 6 and above; send, read and take are made count times
unfoldable pub left_by : ℕ → End → ℕ → List ℕ → List ℕ → List ℕ → List ℕ → ℕ → ℕ → ℕ → Left
left_by call e sid bytes storage out ack count last step =
    get_or
    (leaves (start_answer (start_of e.role)) storage out ack
    ∷ leaves (open_answer (open_of base e (length out))) storage (onto (open_packet base e (length out)) out) ack
    ∷ sends_leave (sends_of e sid bytes out count last step) storage ack
    ∷ reads_leave (reads_of e sid storage out ack count last step) storage
    ∷ leaves (close_answer (close_of base e sid (length out))) storage (onto (close_packet base e sid (length out)) out) ack
    ∷ leaves (shutdown_answer (shutdown_of base e)) storage out ack
    ∷ []) call
    (takes_leave (takes_of e bytes storage count) out ack)

-- ---- the same on the end that the record's words hold

unfoldable pub bench_of : ℕ → ℕ → List ℕ → List ℕ → List ℕ → List ℕ → List ℕ → ℕ → ℕ → ℕ → Left
bench_of call sid words bytes storage out ack count last step = left_by call (end_from words) sid bytes storage out ack count last step

-- for the record's words as they were lent: the sum that comes back, and at exit the five values, the words and the three buffers
pub record BenchPromise (left : Left) (lent : List ℕ) (r : ℕ) (values' words' storage' out' ack' : List ℕ) : Type 0 where
  pub sum : r ≡ left.answer.sum
  pub values : values' ≡ left.answer.number ∷ left.answer.values
  pub words : words' ≡ over (words_of left.answer.end) lent
  pub storage : storage' ≡ left.storage
  pub out : out' ≡ left.out
  pub ack : ack' ≡ left.ack
