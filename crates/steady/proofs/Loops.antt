-- Laws of the loops: what a turn found is one step of the definition, and the steps that are left give what all of them give.
use Rattle.std.proofs.Common.{◌≡◌, ℕ, suc, ◌+◌, ◌-◌, ◌<◌, ◌≤◌, List, length, take, drop, min, length-drop, take_all, Option, Some, None, subst, arith}
use native.Mathlib.Decide.{dec_lt}
use Rattle.std.specs.declared.iter.Take.{Take}
use Rattle.std.specs.Iterator.Adapters.{take_source, take_count}
use Rattle.table.specs.declared.end.End.{End}
use Rattle.send.specs.Send.{SendAnswer, SendPromise}
use Rattle.read.specs.Read.{ReadAnswer, ReadPromise}
use Rattle.take.specs.Take.{TakeAnswer, TakePromise}
use Rattle.steady.specs.declared.answer.Answer.{Answer}
use Rattle.steady.specs.declared.turns.Turns.{Turns}
use Rattle.steady.specs.Steady.{none_of, sent_answer, got_answer, taken_answer, after_turn, times}
use Rattle.steady.specs.Steady.{Sending, sending_of, send_step, sends_of}
use Rattle.steady.specs.Steady.{Reading, reading_of, read_step, reads_of}
use Rattle.steady.specs.Steady.{Taking, taking_of, take_step, takes_of}

-- ---- any loop

times_on : {A : Type 0} (f : A → A) (n m : ℕ) (a : A) → n + 1 ≡ m → times n f (f a) ≡ times m f a
unfolding times
times_on f n m a e = let k : m ≡ suc n = omega arith in rw k

times_stop : {A : Type 0} (f : A → A) (n : ℕ) (a : A) → n ≡ 0 → times n f a ≡ a
unfolding times
times_stop f n a e = rw e

-- the sessions in turn: `next` gives the one whose turn it is, and it gives one as long as turns are left
abbrev pub OneTurn : Take Turns → ℕ → Take Turns → Type 0
OneTurn it k it' =
    ((Some k ≡ Some (take_source it).sid) × (take_source it' ≡ after_turn (take_source it))) × (take_count it' + 1 ≡ take_count it)

abbrev pub NoTurn : Take Turns → Take Turns → Type 0
NoTurn it it' = 0 < take_count it → (◌≡◌ {A = Option ℕ} None (Some (take_source it).sid)) × (take_source it' ≡ after_turn (take_source it))

no_turn : (it it' : Take Turns) → NoTurn it it' → take_count it ≡ 0
no_turn it it' f = by (dec_lt 0 (take_count it))
  where
    by : Dec (0 < take_count it) → take_count it ≡ 0
    by (yes h) = let e = (f h).0 in cc
    by (no h) = omega arith

-- ---- sends

module _ (payload : List ℕ) where
  -- what the sends that are left give
  abbrev pub sends_left : Take Turns → Answer → List ℕ → Sending
  sends_left it a p =
      times (take_count it) (send_step payload (take_source it).last (take_source it).step) (sending_of a (take_source it).sid p)

  pub sends_first : (e : End) (turns : Turns) (packet : List ℕ) (count : ℕ) (it : Take Turns) (a : Answer)
      → take_source it ≡ turns → take_count it ≡ count → a ≡ none_of e
      → sends_left it a packet ≡ sends_of e turns.sid payload packet count turns.last turns.step
  unfolding sends_of
  sends_first e turns packet count it a p q r = rw (p, q, r)

  pub sends_on : (it it' : Take Turns) (a a' : Answer) (k : ℕ) (p p' : List ℕ) (s : SendAnswer) → OneTurn it k it'
      → SendPromise a.end k payload p s p' → a' ≡ sent_answer a.sum s → sends_left it' a' p' ≡ sends_left it a p
  unfolding send_step
  sends_on it it' a a' k p p' s ((f, g), n) made b =
      let t = take_source it in
      let same : k ≡ t.sid = cc in
      rw (g, b, made.packet, made.answer, same) (times_on (send_step payload t.last t.step) (take_count it') (take_count it) (sending_of a t.sid p) n)

  pub sends_stop : (it it' : Take Turns) (a : Answer) (p : List ℕ) → NoTurn it it' → sends_left it a p ≡ sending_of a (take_source it).sid p
  sends_stop it it' a p f = times_stop (send_step payload (take_source it).last (take_source it).step) (take_count it) _ (no_turn it it' f)

-- ---- reads

module _ (storage : List ℕ) where
  -- what the reads that are left give
  abbrev pub reads_left : Take Turns → Answer → List ℕ → List ℕ → Reading
  reads_left it a p q =
      times (take_count it) (read_step storage (take_source it).last (take_source it).step) (reading_of a (take_source it).sid p q)

  pub reads_first : (e : End) (turns : Turns) (payload ack : List ℕ) (count : ℕ) (it : Take Turns) (a : Answer)
      → take_source it ≡ turns → take_count it ≡ count → a ≡ none_of e
      → reads_left it a payload ack ≡ reads_of e turns.sid storage payload ack count turns.last turns.step
  unfolding reads_of
  reads_first e turns payload ack count it a p q r = rw (p, q, r)

  pub reads_on : (it it' : Take Turns) (a a' : Answer) (k : ℕ) (p p' q q' : List ℕ) (r : ReadAnswer) → OneTurn it k it'
      → ReadPromise a.end k storage p q r p' q' → a' ≡ got_answer a.sum r → reads_left it' a' p' q' ≡ reads_left it a p q
  unfolding read_step
  reads_on it it' a a' k p p' q q' r ((f, g), n) made b =
      let t = take_source it in
      let same : k ≡ t.sid = cc in
      rw (g, b, made.payload, made.ack, made.answer, same)
      (times_on (read_step storage t.last t.step) (take_count it') (take_count it) (reading_of a t.sid p q) n)

  pub reads_stop : (it it' : Take Turns) (a : Answer) (p q : List ℕ) → NoTurn it it' → reads_left it a p q ≡ reading_of a (take_source it).sid p q
  reads_stop it it' a p q f = times_stop (read_step storage (take_source it).last (take_source it).step) (take_count it) _ (no_turn it it' f)

-- ---- takes

module _ (bytes : List ℕ) where
  -- what so many takes give, from a byte on
  abbrev pub takes_left : ℕ → Answer → ℕ → List ℕ → Taking
  takes_left n a at storage = times n (take_step bytes) (taking_of a at storage)

  pub takes_first : (e : End) (storage : List ℕ) (count : ℕ) (a : Answer) → a ≡ none_of e → takes_left (count - 0) a 0 storage ≡ takes_of e bytes storage count
  unfolding takes_of
  takes_first e storage count a p = let k : count - 0 ≡ count = omega arith in rw (k, p)

  -- the code names what is left by its length too
  pub takes_on : (n count m : ℕ) (a a' : Answer) (at : ℕ) (storage storage' : List ℕ) (t : TakeAnswer) → n < count → m ≡ length bytes - at
      → TakePromise a.end (take m (drop at bytes)) storage t storage' → a' ≡ taken_answer a.sum t → at + t.used ≤ length bytes
      → takes_left (count - (n + 1)) a' (at + t.used) storage' ≡ takes_left (count - n) a at storage
  unfolding take_step
  takes_on n count m a a' at storage storage' t h k made b u =
      let all : take m (drop at bytes) ≡ drop at bytes = take_all m (drop at bytes) (omega (arith, length-drop at bytes)) in
      let same = subst (λ (l : List ℕ). TakePromise a.end l storage t storage') all made in
      let past : min (at + t.used) (length bytes) ≡ at + t.used = omega arith in
      let step : take_step bytes (taking_of a at storage) ≡ taking_of a' (at + t.used) storage' = rw (b, same.storage, ← same.answer, past) in
      rw (← step) (times_on (take_step bytes) (count - (n + 1)) (count - n) (taking_of a at storage) (omega arith))

  pub takes_stop : (n count : ℕ) (a : Answer) (at : ℕ) (storage : List ℕ) → count ≤ n → takes_left (count - n) a at storage ≡ taking_of a at storage
  takes_stop n count a at storage h = times_stop (take_step bytes) (count - n) (taking_of a at storage) (omega arith)
