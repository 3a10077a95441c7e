-- Demand 1, call by call, with the call's own promise as the hypothesis. The number is 0 or one of the call's list. A number from 1 to 12
-- returns the record as lent, every buffer unchanged, all other results zero but for 10's count. A number from 20 to 30 returns the end down,
-- role kept, every slot free, nothing used, every buffer unchanged, all other results zero.
use Rattle.std.specs.Prelude.{None, Option, Some}
use Prim.Native.Nat.{ℕ, ◌≤◌, ◌<◌}
use native.Mathlib.Omega.{arith}
use mathlib.Core.Path.{◌≡◌, refl, sym, ap, ◌∙◌}
use mathlib.Core.Logic.{◌⊎◌, inl, inr, ⊎_elim}
use mathlib.Core.Bool.{Bool, true, false}
use mathlib.Core.List.{List, [], ◌∷◌, ◌++◌}
use lib.ListN.{length, get_or, length-replicate, get_or-replicate}
use lib.Dec.{eqb}
use borrow.Author.Tests.{eqb-false, ne_eqb, lt-ltb, le-ltb}
use Rattle.cases.specs.Cases.{if, done}
use Rattle.wire.specs.declared.header.Header.{Header}
use Rattle.wire.specs.declared.kind.Kind.{Kind}
use Rattle.wire.specs.declared.kind.Kind.TheVariants.{Syn, Ack, Fin, Data}
use Rattle.wire.specs.Packet.{read_header, flags_of}
use Rattle.buffer.specs.Onto.{onto}
use Rattle.session.specs.Record.{free}
use Rattle.table.specs.declared.end.Role.{Role}
use Rattle.table.specs.declared.end.End.{End}
use Rattle.start.specs.Start.{StartAnswer}
use Rattle.open.specs.Open.{OpenAnswer}
use Rattle.send.specs.Send.{SendAnswer}
use Rattle.read.specs.Read.{ReadAnswer}
use Rattle.close.specs.Close.{CloseAnswer}
use Rattle.shutdown.specs.Shutdown.{ShutdownAnswer}
use Rattle.take.specs.Take.{TakeAnswer}
use Rattle.table.specs.Limits.{base}
use Rattle.start.specs.Start.{StartPromise}
use Rattle.open.specs.Open.{open_number, open_of, open_packet, OpenPromise}
use Rattle.send.specs.Send.{send_number, send_of, send_packet, SendPromise}
use Rattle.read.specs.Read.{read_number, read_of, read_payload, read_ack, ReadPromise}
use Rattle.close.specs.Close.{close_number, close_of, close_packet, ClosePromise}
use Rattle.shutdown.specs.Shutdown.{shutdown_number, shutdown_of, ShutdownPromise}
use Rattle.judge.specs.Number.{take_number, missing}
use Rattle.take.specs.Take.{take_refused, take_fault, take_of, take_storage, TakePromise}
use Rattle.take.proofs.Answered.{take_told}
use Rattle.laws.specs.When.{When, Applies, here, later, Exactly}
use Rattle.laws.specs.Whens.{kind_whens, take_whens}
use Rattle.laws.specs.Lists.{Among, first, further, open_list, send_list, read_list, close_list, shutdown_list, take_list}
use Rattle.laws.proofs.Exact.{open_exact, send_exact, read_exact, close_exact, shutdown_exact, take_exact}

-- ---- the number is 0 or one of the call's list

abbrev pub numbers : List When → List ℕ
numbers [] = []
numbers (w ∷ ws) = w.number ∷ numbers ws

pub among : {ws : List When} {n : ℕ} → Applies ws n → Among n (numbers ws)
among (here a) = first refl
among (later p a) = further (among a)

listed : {n : ℕ} {ws : List When} → Exactly n ws → (n ≡ 0) ⊎ Among n (numbers ws)
listed {n} {ws} x = by (eqb n 0) refl
  where
    by : (t : Bool) → eqb n 0 ≡ t → (n ≡ 0) ⊎ Among n (numbers ws)
    by true p = inl (borrow.Author.Tests.eqb-true n 0 p)
    by false p = inr (among (x.only n refl (eqb-false n 0 p)))

-- ---- a call that gives d, emits p and answers 0, or else gives r and answers its number m

module _ {A : Type 0} (number : A → ℕ) (m : ℕ) (d r : A) where
  refusal : {a : A} → a ≡ done m d r → number d ≡ 0 → (number a ≡ 0 → ⊥) → (a ≡ r) × (m ≡ 0 → ⊥)
  refusal {a} p z n = by (eqb m 0) refl p
    where
      by : (t : Bool) → eqb m 0 ≡ t → a ≡ if t d r → (a ≡ r) × (m ≡ 0 → ⊥)
      by true q p = absurd (n (ap number p ∙ z))
      by false q p = (p, eqb-false m 0 q)

untouched : (m : ℕ) (p b : List ℕ) {exit : List ℕ} → exit ≡ onto (done m p []) b → (m ≡ 0 → ⊥) → exit ≡ b
untouched m p b q n = q ∙ rw (ne_eqb m 0 n)

-- ---- start

pub start_done : {role : Role} {r : StartAnswer} → StartPromise role r → r.number ≡ 0
start_done p = ap (λ (r : StartAnswer). r.number) p.answer

-- ---- open

module _ {e : End} {lent exit : List ℕ} {r : OpenAnswer} (p : OpenPromise e lent r exit) where
  pub open_listed : (r.number ≡ 0) ⊎ Among r.number open_list
  open_listed = listed (open_exact p)

  pub open_refused_lem : (r.number ≡ 0 → ⊥) → (r.end ≡ e) × (r.sid ≡ 0) × (r.length ≡ 0) × (exit ≡ lent)
  unfolding open_of open_packet
  open_refused_lem n =
      let s = refusal (λ (a : OpenAnswer). a.number) (open_number base e (length lent)) _ _ p.answer refl n in (
        ap (λ (a : OpenAnswer). a.end) s.0,
        ap (λ (a : OpenAnswer). a.sid) s.0,
        ap (λ (a : OpenAnswer). a.length) s.0,
        untouched _ _ lent p.packet s.1,
      )

-- ---- send

module _ {e : End} {sid : ℕ} {payload lent exit : List ℕ} {r : SendAnswer} (p : SendPromise e sid payload lent r exit) where
  pub send_listed : (r.number ≡ 0) ⊎ Among r.number send_list
  send_listed = listed (send_exact p)

  pub send_refused_lem : (r.number ≡ 0 → ⊥) → (r.end ≡ e) × (r.length ≡ 0) × (exit ≡ lent)
  unfolding send_of send_packet
  send_refused_lem n =
      let s = refusal (λ (a : SendAnswer). a.number) (send_number base e sid (length payload) (length lent)) _ _ p.answer refl n in
      (ap (λ (a : SendAnswer). a.end) s.0, ap (λ (a : SendAnswer). a.length) s.0, untouched _ _ lent p.packet s.1)

-- ---- read

module _ {e : End} {sid : ℕ} {storage lent lentAck exit exitAck : List ℕ} {r : ReadAnswer} (p : ReadPromise e sid storage lent lentAck r exit exitAck) where
  pub read_listed : (r.number ≡ 0) ⊎ Among r.number read_list
  read_listed = listed (read_exact p)

  pub read_refused_lem : (r.number ≡ 0 → ⊥) → (r.end ≡ e) × (r.payload_length ≡ 0) × (r.ack_length ≡ 0) × (exit ≡ lent) × (exitAck ≡ lentAck)
  unfolding read_of read_payload read_ack
  read_refused_lem n =
      let s = refusal (λ (a : ReadAnswer). a.number) (read_number base e sid (length lent) (length lentAck) (length storage)) _ _ p.answer refl n in (
        ap (λ (a : ReadAnswer). a.end) s.0,
        ap (λ (a : ReadAnswer). a.payload_length) s.0,
        ap (λ (a : ReadAnswer). a.ack_length) s.0,
        untouched _ _ lent p.payload s.1,
        untouched _ _ lentAck p.ack s.1,
      )

-- ---- close

module _ {e : End} {sid : ℕ} {lent exit : List ℕ} {r : CloseAnswer} (p : ClosePromise e sid lent r exit) where
  pub close_listed : (r.number ≡ 0) ⊎ Among r.number close_list
  close_listed = listed (close_exact p)

  pub close_refused_lem : (r.number ≡ 0 → ⊥) → (r.end ≡ e) × (r.length ≡ 0) × (exit ≡ lent)
  unfolding close_of close_packet
  close_refused_lem n =
      let s = refusal (λ (a : CloseAnswer). a.number) (close_number base e sid (length lent)) _ _ p.answer refl n in
      (ap (λ (a : CloseAnswer). a.end) s.0, ap (λ (a : CloseAnswer). a.length) s.0, untouched _ _ lent p.packet s.1)

-- ---- shutdown

module _ {e : End} {r : ShutdownAnswer} (p : ShutdownPromise e r) where
  pub shutdown_listed : (r.number ≡ 0) ⊎ Among r.number shutdown_list
  shutdown_listed = listed (shutdown_exact p)

  pub shutdown_refused : (r.number ≡ 0 → ⊥) → r.end ≡ e
  unfolding shutdown_of
  shutdown_refused n = ap (λ (a : ShutdownAnswer). a.end) (refusal (λ (a : ShutdownAnswer). a.number) (shutdown_number base e) _ _ p.answer refl n).0

-- ---- take

left : {n : ℕ} {l : List ℕ} (m : List ℕ) → Among n l → Among n (l ++ m)
left m (first p) = first p
left m (further a) = further (left m a)

right : {n : ℕ} {m : List ℕ} (l : List ℕ) → Among n m → Among n (l ++ m)
right [] a = a
right (k ∷ l) a = further (right l a)

behind : {n : ℕ} (l k m : List ℕ) → (Among n k → Among n m) → Among n (l ++ k) → Among n (l ++ m)
behind [] k m f a = f a
behind (x ∷ l) k m f (first p) = first p
behind (x ∷ l) k m f (further a) = further (behind l k m f a)

no_number_lem : {n : ℕ} {l : List ℕ} → Among n [] → Among n l
no_number_lem a = elim a [ ]

abbrev syn_list : List ℕ
syn_list = 24 ∷ 25 ∷ 26 ∷ 27 ∷ []

abbrev other_list : List ℕ
other_list = 23 ∷ 30 ∷ 28 ∷ 29 ∷ []

-- the last cases go by kind
by_kind : (f : Option Kind) (e : End) (h : Header) {n : ℕ} → Among n (numbers (kind_whens f e h)) → Among n (syn_list ++ other_list)
by_kind (Some Syn) e h a = left other_list a
by_kind (Some Ack) e h a = right syn_list a
by_kind (Some Fin) e h a = right syn_list a
by_kind (Some Data) e h a = right syn_list a
by_kind None e h a = no_number_lem a

take_among : (e : End) (bytes : List ℕ) (storage : ℕ) {n : ℕ} → Among n (numbers (take_whens e bytes storage)) → Among n take_list
take_among e bytes storage {n} a =
    behind (12 ∷ 1 ∷ 9 ∷ 10 ∷ 20 ∷ 21 ∷ 22 ∷ 10 ∷ []) (numbers (kind_whens (flags_of (read_header bytes).flags) e (read_header bytes))) (syn_list ++ other_list)
    (by_kind (flags_of (read_header bytes).flags) e (read_header bytes)) a

module _ {e : End} {bytes lent exit : List ℕ} {r : TakeAnswer} (p : TakePromise e bytes lent r exit) where
  pub take_listed : (r.number ≡ 0) ⊎ Among r.number take_list
  take_listed = ⊎_elim inl (λ a. inr (take_among e bytes (length lent) a)) (listed (take_exact p))

  -- the number that the answer gives
  number : r.number ≡ take_number base e bytes (length lent)
  unfolding take_of
  number = ap (λ (a : TakeAnswer). a.number) p.answer ∙ take_told _ bytes e

  kept : (r.number ≡ 0 → ⊥) → exit ≡ lent
  unfolding take_storage
  kept n = p.storage ∙ rw (ne_eqb (take_number base e bytes (length lent)) 0 (λ q. n (number ∙ q)))

  pub take_refused_lem : (r.number ≡ 0 → ⊥) → r.number < 20 → (r.end ≡ e) × (r.used ≡ 0) × (r.kind ≡ 0) × (r.sid ≡ 0)
      × (r.missing ≡ if (eqb r.number 10) (missing bytes) 0) × (exit ≡ lent)
  unfolding take_of
  take_refused_lem n l =
      let m = take_number base e bytes (length lent) in
      let s : r ≡ take_refused m (missing bytes) e = p.answer ∙ rw (ne_eqb m 0 (λ q. n (number ∙ q)), lt-ltb m 20 (omega (arith, number))) in (
        ap (λ (a : TakeAnswer). a.end) s,
        ap (λ (a : TakeAnswer). a.used) s,
        ap (λ (a : TakeAnswer). a.kind) s,
        ap (λ (a : TakeAnswer). a.sid) s,
        ap (λ (a : TakeAnswer). a.missing) s ∙ ap (λ (k : ℕ). if (eqb k 10) (missing bytes) 0) (sym number),
        kept n,
      )

  pub take_fault_lem : 20 ≤ r.number → (r.end.up ≡ false) × (r.end.role ≡ e.role) × (length r.end.slots ≡ length e.slots)
      × ((i : ℕ) → i < length e.slots → get_or r.end.slots i free ≡ free)
      × (r.used ≡ 0) × (r.kind ≡ 0) × (r.sid ≡ 0) × (r.missing ≡ 0) × (exit ≡ lent)
  unfolding take_of
  take_fault_lem l =
      let m = take_number base e bytes (length lent) in
      let s : r ≡ take_fault m e = p.answer ∙ rw (ne_eqb m 0 (λ q. omega (arith, number)), le-ltb m 20 (omega (arith, number))) in (
        ap (λ (a : TakeAnswer). a.end.up) s,
        ap (λ (a : TakeAnswer). a.end.role) s,
        ap (λ (a : TakeAnswer). length a.end.slots) s ∙ length-replicate (length e.slots) free,
        (λ i h. ap (λ (a : TakeAnswer). get_or a.end.slots i free) s ∙ get_or-replicate (length e.slots) i free free h),
        ap (λ (a : TakeAnswer). a.used) s,
        ap (λ (a : TakeAnswer). a.kind) s,
        ap (λ (a : TakeAnswer). a.sid) s,
        ap (λ (a : TakeAnswer). a.missing) s,
        kept (λ q. omega arith),
      )
