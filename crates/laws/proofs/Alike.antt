-- A call's answer depends on no other slot: two ends that agree on well made, up and the session with the SID answer alike, emit the same
-- bytes, and have the same session afterwards. A read's payload and a stored payload lie where the session's slot is, so they ask the same slot too.
-- Send, read and close are stated where the table holds the session: else they answer 4, or 12 or 1 before it, as laws/proofs/Exact.antt has it.
-- Open and take ask for role and whether a slot is free, open also for the smallest SID that isn't held; what they leave in their own slot is
-- said where they answer 0 (else the record is as lent, or down, as laws/proofs/Demand1.antt has it).
use Rattle.std.specs.Prelude.{None, Option, Some}
use Prim.Native.Nat.{ℕ, ◌+◌, ◌≤◌, ◌<◌}
use native.Mathlib.Omega.{arith}
use mathlib.Core.Path.{◌≡◌, refl, sym, ap, ◌∙◌}
use mathlib.Core.Logic.{◌⊎◌, inl, inr}
use mathlib.Core.Bool.{Bool, true, false}
use mathlib.Core.List.{List, [], ◌++◌}
use lib.ListN.{length, get_or, set, get_or-eq_default}
use lib.Seq.{get_or-set_same, set_out}
use lib.Dec.{eqb, ltb}
use borrow.Author.Tests.{eqb-true}
use Rattle.cases.specs.Cases.{Case, if, first, done}
use Rattle.cases.proofs.First.{done_0}
use Rattle.wire.specs.declared.header.Header.{Header}
use Rattle.wire.specs.declared.kind.Kind.{Kind}
use Rattle.wire.specs.declared.kind.Kind.TheVariants.{Syn, Ack, Fin, Data}
use Rattle.wire.specs.Packet.{header_length, read_header, flags_of, packet_bytes, header_bytes}
use Rattle.buffer.specs.Onto.{onto}
use Rattle.session.specs.declared.record.Session.{Session}
use Rattle.session.specs.Record.{payload_limit, in_use, free, fresh_of}
use Rattle.session.specs.Changes.{sent_on, read_on, closed_on}
use Rattle.effect.specs.Taken.{cell_of}
use Rattle.table.specs.declared.end.Role.{Role}
use Rattle.table.specs.declared.end.End.{End}
use Rattle.table.specs.Slots.{holds, session_of, slot_of, lowest_free, full, smallest_sid}
use Rattle.table.specs.Storage.{storage_length}
use Rattle.table.specs.End.{changed_of}
use Rattle.table.proofs.Slots.{held, within, absent, session_at, changed_at}
use Rattle.table.proofs.Lowest.{full_lowest, lowest_within}
use Rattle.open.specs.Open.{OpenAnswer}
use Rattle.send.specs.Send.{SendAnswer}
use Rattle.read.specs.Read.{ReadAnswer}
use Rattle.close.specs.Close.{CloseAnswer}
use Rattle.take.specs.Take.{TakeAnswer}
use Rattle.table.specs.Limits.{base}
use Rattle.table.specs.Well.{well_made}
use Rattle.calling.specs.Calling.{called, calling, short_storage}
use Rattle.open.specs.Open.{open_number, open_cases, opened_end, open_done, open_refused, syn_header, open_of, open_packet, OpenPromise}
use Rattle.send.specs.Send.{send_number, send_cases, data_header, send_done, send_refused, send_of, send_packet, SendPromise}
use Rattle.read.specs.Read.{read_number, read_cases, oldest_length, oldest_in, ack_on, read_done, read_refused, read_of, read_payload, read_ack, ReadPromise}
use Rattle.close.specs.Close.{close_number, close_cases, fin_header, close_done, close_refused, close_of, close_packet, ClosePromise}
use Rattle.judge.specs.Number.{take_number, take_cases, packet_cases, missing}
use Rattle.take.specs.Take.{taken_on, taken_end, take_done, take_refused, take_fault, take_answer, kept, taken_storage, take_of, take_storage, TakePromise}
use Rattle.take.proofs.Answered.{take_told}
use Rattle.laws.specs.Apart.{Alike, values, filed_in}
use Rattle.laws.proofs.Own.{taken_same}

-- ---- parts of an answer

-- a part of the answer given is that part of the one or the other
part : {A B : Type 0} (f : A → B) (n : ℕ) (a b : A) {r : A} → r ≡ done n a b → f r ≡ done n (f a) (f b)
part f n a b p = ap f p ∙ by (eqb n 0)
  where
    by : (t : Bool) → f (if t a b) ≡ if t (f a) (f b)
    by true = refl
    by false = refl

zero_or : (n : ℕ) → done n 0 n ≡ n
zero_or n = by (eqb n 0) refl
  where
    by : (t : Bool) → eqb n 0 ≡ t → if t 0 n ≡ n
    by true q = sym (eqb-true n 0 q)
    by false q = refl

-- equal parts of equal numbers
equal : {B : Type 0} {x x' : B} (n n' : ℕ) (a a' b b' : B) → x ≡ done n a b → x' ≡ done n' a' b' → n ≡ n' → a ≡ a' → b ≡ b' → x ≡ x'
equal n n' a a' b b' p p' q s t = p ∙ ap (λ m. done m a b) q ∙ ap (λ c. done n' c b) s ∙ ap (λ c. done n' a' c) t ∙ sym p'

-- ---- the session's own slot afterwards

own : (sid : ℕ) (f : Session → Session) (e : End) → holds sid e.slots ≡ true
    → get_or (changed_of sid f e).slots (slot_of sid e.slots) free ≡ f (session_of sid e.slots)
own sid f e h =
    ap (λ (l : List Session). get_or l (slot_of sid e.slots) free) (changed_at sid f e.slots)
    ∙ get_or-set_same e.slots (slot_of sid e.slots) (f (session_of sid e.slots)) free (within sid e.slots h)

-- ---- two slots that were written

abbrev Both : List Session → ℕ → List Session → ℕ → Type 0
Both l i l' i' = ((i < length l) × (i' < length l')) ⊎ ((length l ≤ i) × (length l' ≤ i'))

written : (l l' : List Session) (i i' : ℕ) {x x' : Session} → Both l i l' i' → x ≡ x' → get_or (set l i x) i free ≡ get_or (set l' i' x') i' free
written l l' i i' {x} {x'} (inl p) q = get_or-set_same l i x free p.0 ∙ q ∙ sym (get_or-set_same l' i' x' free p.1)
written l l' i i' {x} {x'} (inr p) q = gone l i x p.0 ∙ sym (gone l' i' x' p.1)
  where
    gone : (m : List Session) (j : ℕ) (y : Session) → length m ≤ j → get_or (set m j y) j free ≡ free
    gone m j y h = ap (λ (l : List Session). get_or l j free) (set_out m j y h) ∙ get_or-eq_default m free h

both_held : (sid : ℕ) (l l' : List Session) → holds sid l ≡ holds sid l' → Both l (slot_of sid l) l' (slot_of sid l')
both_held sid l l' p = by (holds sid l) refl
  where
    by : (b : Bool) → holds sid l ≡ b → Both l (slot_of sid l) l' (slot_of sid l')
    by true q = inl (within sid l q, within sid l' (sym p ∙ q))
    by false q = inr (omega (arith, absent sid l q), omega (arith, absent sid l' (sym p ∙ q)))

both_new : (l l' : List Session) → full l ≡ full l' → Both l (lowest_free l) l' (lowest_free l')
both_new l l' p = by (full l) refl
  where
    last : (m : List Session) → full m ≡ true → lowest_free m ≡ length m
    last m q = eqb-true _ _ (sym (full_lowest m) ∙ q)

    by : (b : Bool) → full l ≡ b → Both l (lowest_free l) l' (lowest_free l')
    by true q = inr (omega (arith, last l q), omega (arith, last l' (sym p ∙ q)))
    by false q = inl (lowest_within l q, lowest_within l' (sym p ∙ q))

module _ {sid : ℕ} {e e' : End} (same : Alike sid e e') where
  holds_alike : holds sid e.slots ≡ holds sid e'.slots
  holds_alike = sym (held sid e.slots) ∙ ap (λ (x : Session). in_use x.state) same.session ∙ held sid e'.slots

  -- the number, for any cases on one session
  number_alike : (cs : Session → List Case)
      → first (calling base e sid ++ cs (session_of sid e.slots)) ≡ first (calling base e' sid ++ cs (session_of sid e'.slots))
  number_alike cs =
      ap (λ (g : Bool). first (called g e.up (holds sid e.slots) ++ cs (session_of sid e.slots))) same.made
      ∙ ap (λ (u : Bool). first (called (well_made base e') u (holds sid e.slots) ++ cs (session_of sid e.slots))) same.up
      ∙ ap (λ (h : Bool). first (called (well_made base e') e'.up h ++ cs (session_of sid e.slots))) holds_alike
      ∙ ap (λ (x : Session). first (calling base e' sid ++ cs x)) same.session

  -- the slot afterwards, where the session is held
  after : {A : Type 0} (end : A → End) (f : Session → Session) (n n' : ℕ) (a b a' b' : A) {r r' : A} → r ≡ done n a b → r' ≡ done n' a' b' → n ≡ n'
      → end a ≡ changed_of sid f e → end b ≡ e → end a' ≡ changed_of sid f e' → end b' ≡ e' → holds sid e.slots ≡ true
      → get_or (end r).slots (slot_of sid e.slots) free ≡ get_or (end r').slots (slot_of sid e'.slots) free
  after end f n n' a b a' b' p p' q x y x' y' h =
      equal n n' _ _ _ _
      (part (λ r. get_or (end r).slots (slot_of sid e.slots) free) n a b p) (part (λ r. get_or (end r).slots (slot_of sid e'.slots) free) n' a' b' p') q
      (ap (λ d. get_or d.slots (slot_of sid e.slots) free) x ∙ own sid f e h ∙ ap f same.session
      ∙ sym (ap (λ d. get_or d.slots (slot_of sid e'.slots) free) x' ∙ own sid f e' (sym holds_alike ∙ h)))
      (ap (λ d. get_or d.slots (slot_of sid e.slots) free) y ∙ sym (session_at sid e.slots) ∙ same.session
      ∙ session_at sid e'.slots ∙ sym (ap (λ d. get_or d.slots (slot_of sid e'.slots) free) y'))

  pub send_alike : {payload lent exit exit' : List ℕ} {r r' : SendAnswer} → SendPromise e sid payload lent r exit → SendPromise e' sid payload lent r' exit'
      → holds sid e.slots ≡ true
      → (r.number ≡ r'.number) × (r.length ≡ r'.length) × (exit ≡ exit')
      × (get_or r.end.slots (slot_of sid e.slots) free ≡ get_or r'.end.slots (slot_of sid e'.slots) free)
  unfolding send_of send_packet send_number
  send_alike {payload} {lent} p p' h =
      let len = length payload in
      let n = send_number base e sid len (length lent) in
      let n' = send_number base e' sid len (length lent) in
      let q : n ≡ n' = number_alike (λ x. send_cases base x len (length lent)) in
      let a = send_done (header_length + len) (changed_of sid sent_on e) in
      let a' = send_done (header_length + len) (changed_of sid sent_on e') in
      let b = send_refused n e in
      let b' = send_refused n' e' in (
        equal n n' 0 0 n n' (part (λ (r : SendAnswer). r.number) n a b p.answer) (part (λ (r : SendAnswer). r.number) n' a' b' p'.answer) q refl q,
        equal n n' (header_length + len) (header_length + len) 0 0 (part (λ (r : SendAnswer). r.length) n a b p.answer)
            (part (λ (r : SendAnswer). r.length) n' a' b' p'.answer) q refl refl,
        p.packet
            ∙ ap (λ o. onto o lent) (equal n n' _ _ [] [] refl refl q (ap (λ x. packet_bytes (data_header x len) payload) same.session) refl)
            ∙ sym p'.packet,
        after (λ (r : SendAnswer). r.end) sent_on n n' a b a' b' p.answer p'.answer q refl refl refl refl h,
      )

  pub close_alike : {lent exit exit' : List ℕ} {r r' : CloseAnswer} → ClosePromise e sid lent r exit → ClosePromise e' sid lent r' exit'
      → holds sid e.slots ≡ true
      → (r.number ≡ r'.number) × (r.length ≡ r'.length) × (exit ≡ exit')
      × (get_or r.end.slots (slot_of sid e.slots) free ≡ get_or r'.end.slots (slot_of sid e'.slots) free)
  unfolding close_of close_packet close_number
  close_alike {lent} p p' h =
      let n = close_number base e sid (length lent) in
      let n' = close_number base e' sid (length lent) in
      let q : n ≡ n' = number_alike (λ x. close_cases x (length lent)) in
      let a = close_done (changed_of sid closed_on e) in
      let a' = close_done (changed_of sid closed_on e') in
      let b = close_refused n e in
      let b' = close_refused n' e' in (
        equal n n' 0 0 n n' (part (λ (r : CloseAnswer). r.number) n a b p.answer) (part (λ (r : CloseAnswer). r.number) n' a' b' p'.answer) q refl q,
        equal n n' header_length header_length 0 0 (part (λ (r : CloseAnswer). r.length) n a b p.answer)
            (part (λ (r : CloseAnswer). r.length) n' a' b' p'.answer) q refl refl,
        p.packet ∙ ap (λ o. onto o lent) (equal n n' _ _ [] [] refl refl q (ap (λ x. header_bytes (fin_header x)) same.session) refl) ∙ sym p'.packet,
        after (λ (r : CloseAnswer). r.end) closed_on n n' a b a' b' p.answer p'.answer q refl refl refl refl h,
      )

  pub read_alike : {storage lent lentAck exit exitAck exit' exitAck' : List ℕ} {r r' : ReadAnswer} → ReadPromise e sid storage lent lentAck r exit exitAck
      → ReadPromise e' sid storage lent lentAck r' exit' exitAck' → holds sid e.slots ≡ true → length e.slots ≡ length e'.slots
      → slot_of sid e.slots ≡ slot_of sid e'.slots
      → (r.number ≡ r'.number) × (r.payload_length ≡ r'.payload_length) × (r.ack_length ≡ r'.ack_length) × (exit ≡ exit') × (exitAck ≡ exitAck')
      × (get_or r.end.slots (slot_of sid e.slots) free ≡ get_or r'.end.slots (slot_of sid e'.slots) free)
  unfolding read_of read_payload read_ack read_number
  read_alike {storage} {lent} {lentAck} p p' h long slot =
      let n = read_number base e sid (length lent) (length lentAck) (length storage) in
      let n' = read_number base e' sid (length lent) (length lentAck) (length storage) in
      let x = session_of sid e.slots in
      let x' = session_of sid e'.slots in
      let s : short_storage base e (length storage) ≡ short_storage base e' (length storage) =
      ap (λ k. ltb (length storage) (storage_length payload_limit k)) long in
      let q : n ≡ n' =
      number_alike (λ y. read_cases y (length lent) (length lentAck) (short_storage base e (length storage)))
      ∙ ap (λ t. first (calling base e' sid ++ read_cases x' (length lent) (length lentAck) t)) s in
      let a = read_done (oldest_length x) (length (ack_on x)) (changed_of sid read_on e) in
      let a' = read_done (oldest_length x') (length (ack_on x')) (changed_of sid read_on e') in
      let b = read_refused n e in
      let b' = read_refused n' e' in (
        equal n n' 0 0 n n' (part (λ (r : ReadAnswer). r.number) n a b p.answer) (part (λ (r : ReadAnswer). r.number) n' a' b' p'.answer) q refl q,
        equal n n' _ _ 0 0 (part (λ (r : ReadAnswer). r.payload_length) n a b p.answer) (part (λ (r : ReadAnswer). r.payload_length) n' a' b' p'.answer) q
            (ap oldest_length same.session) refl,
        equal n n' _ _ 0 0 (part (λ (r : ReadAnswer). r.ack_length) n a b p.answer) (part (λ (r : ReadAnswer). r.ack_length) n' a' b' p'.answer) q
            (ap (λ y. length (ack_on y)) same.session) refl,
        p.payload
            ∙ ap (λ o. onto o lent) (equal n n' _ _ [] [] refl refl q (ap (λ i. oldest_in base i x storage) slot
            ∙ ap (λ y. oldest_in base (slot_of sid e'.slots) y storage) same.session) refl)
            ∙ sym p'.payload,
        p.ack ∙ ap (λ o. onto o lentAck) (equal n n' _ _ [] [] refl refl q (ap ack_on same.session) refl) ∙ sym p'.ack,
        after (λ (r : ReadAnswer). r.end) read_on n n' a b a' b' p.answer p'.answer q refl refl refl refl h,
      )

-- ---- open: role, whether a slot is free, and the smallest SID not in the table

pub open_alike : {e e' : End} {lent exit exit' : List ℕ} {r r' : OpenAnswer} → OpenPromise e lent r exit → OpenPromise e' lent r' exit'
    → well_made base e ≡ well_made base e' → e.up ≡ e'.up → e.role ≡ e'.role → full e.slots ≡ full e'.slots
    → smallest_sid e.slots ≡ smallest_sid e'.slots
    → (r.number ≡ r'.number) × (r.sid ≡ r'.sid) × (r.length ≡ r'.length) × (exit ≡ exit')
    × (r.number ≡ 0 → get_or r.end.slots (lowest_free e.slots) free ≡ get_or r'.end.slots (lowest_free e'.slots) free)
unfolding open_of open_packet open_number
open_alike {e} {e'} {lent} {exit} {exit'} {r} {r'} p p' g u ρ f s =
    let n = open_number base e (length lent) in
    let n' = open_number base e' (length lent) in
    let q : n ≡ n' =
    ap (λ t. first (open_cases t e.up e.role (full e.slots) (length lent))) g
    ∙ ap (λ t. first (open_cases (well_made base e') t e.role (full e.slots) (length lent))) u
    ∙ ap (λ t. first (open_cases (well_made base e') e'.up t (full e.slots) (length lent))) ρ
    ∙ ap (λ t. first (open_cases (well_made base e') e'.up e'.role t (length lent))) f in
    let a = open_done (smallest_sid e.slots) (opened_end (smallest_sid e.slots) e) in
    let a' = open_done (smallest_sid e'.slots) (opened_end (smallest_sid e'.slots) e') in
    let b = open_refused n e in
    let b' = open_refused n' e' in
    let told : r.number ≡ n = part (λ (r : OpenAnswer). r.number) n a b p.answer ∙ zero_or n in (
      equal n n' 0 0 n n' (part (λ (r : OpenAnswer). r.number) n a b p.answer) (part (λ (r : OpenAnswer). r.number) n' a' b' p'.answer) q refl q,
      equal n n' _ _ 0 0 (part (λ (r : OpenAnswer). r.sid) n a b p.answer) (part (λ (r : OpenAnswer). r.sid) n' a' b' p'.answer) q s refl,
      equal n n' header_length header_length 0 0 (part (λ (r : OpenAnswer). r.length) n a b p.answer)
          (part (λ (r : OpenAnswer). r.length) n' a' b' p'.answer) q refl refl,
      p.packet ∙ ap (λ o. onto o lent) (equal n n' _ _ [] [] refl refl q (ap (λ k. header_bytes (syn_header k)) s) refl) ∙ sym p'.packet,
      (λ z. ap (λ (r : OpenAnswer). get_or r.end.slots (lowest_free e.slots) free) (p.answer ∙ done_0 n a b (sym told ∙ z))
          ∙ written e.slots e'.slots _ _ (both_new e.slots e'.slots f) (ap fresh_of s)
          ∙ sym (ap (λ (r : OpenAnswer). get_or r.end.slots (lowest_free e'.slots) free) (p'.answer ∙ done_0 n' a' b' (sym q ∙ sym told ∙ z)))),
    )

-- ---- take: the session with the packet's SID; role and whether a slot is free, which a SYN asks for; and for a stored payload the slot

-- it doesn't go by the end
shown : (n : ℕ) (bytes : List ℕ) (e e' : End) → values (take_answer n bytes e) ≡ values (take_answer n bytes e')
shown n bytes e e' = by (eqb n 0) (ltb n 20)
  where
    by : (t u : Bool)
        → values (if t (take_done (read_header bytes) (taken_end (flags_of (read_header bytes).flags) (read_header bytes) e))
        (if u (take_refused n (missing bytes) e) (take_fault n e)))
        ≡ values (if t (take_done (read_header bytes) (taken_end (flags_of (read_header bytes).flags) (read_header bytes) e'))
        (if u (take_refused n (missing bytes) e') (take_fault n e')))
    by true u = refl
    by false true = refl
    by false false = refl

-- what is stored goes by the session and its slot
stored : (f : Option Kind) (e e' : End) (h : Header) (bytes storage : List ℕ) → session_of h.sid e.slots ≡ session_of h.sid e'.slots
    → slot_of h.sid e.slots ≡ slot_of h.sid e'.slots → taken_storage base f e h bytes storage ≡ taken_storage base f e' h bytes storage
stored (Some k) e e' h bytes storage p q =
    ap (λ (x : Session). kept base (cell_of x.state k) (slot_of h.sid e.slots) h bytes storage) p
    ∙ ap (λ (i : ℕ). kept base (cell_of (session_of h.sid e'.slots).state k) i h bytes storage) q
stored None e e' h bytes storage p q = refl

-- the record: role stays, a fault takes the end down, and what is filed goes by the session, or is fresh
abbrev up_after : ℕ → Bool → Bool
up_after n up = if (eqb n 0) up (if (ltb n 20) up false)

role_kept : (n : ℕ) (bytes : List ℕ) (e : End) → (take_answer n bytes e).end.role ≡ e.role
role_kept n bytes e = by (eqb n 0) (ltb n 20)
  where
    h : Header
    h = read_header bytes

    by : (t u : Bool) → (if t (take_done h (taken_end (flags_of h.flags) h e)) (if u (take_refused n (missing bytes) e) (take_fault n e))).end.role ≡ e.role
    by true u = (taken_same (flags_of h.flags) h e).0
    by false true = refl
    by false false = refl

up_after_lem : (n : ℕ) (bytes : List ℕ) (e : End) → (take_answer n bytes e).end.up ≡ up_after n e.up
up_after_lem n bytes e = by (eqb n 0) (ltb n 20)
  where
    h : Header
    h = read_header bytes

    by : (t u : Bool) → (if t (take_done h (taken_end (flags_of h.flags) h e)) (if u (take_refused n (missing bytes) e) (take_fault n e))).end.up
        ≡ if t e.up (if u e.up false)
    by true u = (taken_same (flags_of h.flags) h e).1
    by false true = refl
    by false false = refl

module _ {e e' : End} (h : Header) (same : Alike h.sid e e') where
  moved : (f : Session → Session)
      → get_or (changed_of h.sid f e).slots (slot_of h.sid e.slots) free ≡ get_or (changed_of h.sid f e').slots (slot_of h.sid e'.slots) free
  moved f =
      ap (λ (l : List Session). get_or l (slot_of h.sid e.slots) free) (changed_at h.sid f e.slots)
      ∙ written e.slots e'.slots _ _ (both_held h.sid e.slots e'.slots (holds_alike same)) (ap f same.session)
      ∙ sym (ap (λ (l : List Session). get_or l (slot_of h.sid e'.slots) free) (changed_at h.sid f e'.slots))

  filed : (g : Option Kind) → full e.slots ≡ full e'.slots
      → get_or (taken_end g h e).slots (filed_in g h e) free ≡ get_or (taken_end g h e').slots (filed_in g h e') free
  filed (Some Syn) f = written e.slots e'.slots _ _ (both_new e.slots e'.slots f) refl
  filed (Some Ack) f = moved (taken_on Ack h)
  filed (Some Fin) f = moved (taken_on Fin h)
  filed (Some Data) f = moved (taken_on Data h)
  filed None f = sym (session_at h.sid e.slots) ∙ same.session ∙ session_at h.sid e'.slots

pub take_alike : {e e' : End} {bytes lent exit exit' : List ℕ} {r r' : TakeAnswer} → Alike (read_header bytes).sid e e' → TakePromise e bytes lent r exit
    → TakePromise e' bytes lent r' exit'
    → e.role ≡ e'.role → full e.slots ≡ full e'.slots → length e.slots ≡ length e'.slots
    → slot_of (read_header bytes).sid e.slots ≡ slot_of (read_header bytes).sid e'.slots
    → (values r ≡ values r') × (exit ≡ exit') × (r.end.role ≡ r'.end.role) × (r.end.up ≡ r'.end.up)
    × (r.number ≡ 0 → get_or r.end.slots (filed_in (flags_of (read_header bytes).flags) (read_header bytes) e) free
    ≡ get_or r'.end.slots (filed_in (flags_of (read_header bytes).flags) (read_header bytes) e') free)
unfolding take_of take_storage take_number
take_alike {e} {e'} {bytes} {lent} {exit} {exit'} {r} {r'} same p p' ρ f long slot =
    let h = read_header bytes in
    let g = flags_of h.flags in
    let n = take_number base e bytes (length lent) in
    let n' = take_number base e' bytes (length lent) in
    let x = session_of h.sid e.slots in
    let cs : Bool → Bool → Bool → Role → Bool → Bool → Session → ℕ =
    λ g u s ρ d k y. first (take_cases g u s (length bytes) ++ packet_cases base ρ d k y h (length bytes)) in
    let q : n ≡ n' =
    ap (λ g. cs g e.up (short_storage base e (length lent)) e.role (holds h.sid e.slots) (full e.slots) x) same.made
    ∙ ap (λ u. cs (well_made base e') u (short_storage base e (length lent)) e.role (holds h.sid e.slots) (full e.slots) x) same.up
    ∙ ap (λ k. cs (well_made base e') e'.up (ltb (length lent) (storage_length payload_limit k)) e.role (holds h.sid e.slots) (full e.slots) x) long
    ∙ ap (λ t. cs (well_made base e') e'.up (short_storage base e' (length lent)) t (holds h.sid e.slots) (full e.slots) x) ρ
    ∙ ap (λ d. cs (well_made base e') e'.up (short_storage base e' (length lent)) e'.role d (full e.slots) x) (holds_alike same)
    ∙ ap (λ k. cs (well_made base e') e'.up (short_storage base e' (length lent)) e'.role (holds h.sid e'.slots) k x) f
    ∙ ap (λ y. cs (well_made base e') e'.up (short_storage base e' (length lent)) e'.role (holds h.sid e'.slots) (full e'.slots) y)
    same.session in (
      ap values p.answer ∙ shown n bytes e e' ∙ ap (λ k. values (take_answer k bytes e')) q ∙ sym (ap values p'.answer),
      p.storage ∙ equal n n' _ _ lent lent refl refl q (stored g e e' h bytes lent same.session slot) refl ∙ sym p'.storage,
      ap (λ (r : TakeAnswer). r.end.role) p.answer ∙ role_kept n bytes e ∙ ρ ∙ sym (ap (λ (r : TakeAnswer). r.end.role) p'.answer ∙ role_kept n' bytes e'),
      ap (λ (r : TakeAnswer). r.end.up) p.answer ∙ up_after_lem n bytes e ∙ ap (λ k. up_after k e.up) q ∙ ap (up_after n') same.up
          ∙ sym (ap (λ (r : TakeAnswer). r.end.up) p'.answer ∙ up_after_lem n' bytes e'),
      (λ z. let m : n ≡ 0 = sym (ap (λ (r : TakeAnswer). r.number) p.answer ∙ take_told n bytes e) ∙ z in
          ap (λ (r : TakeAnswer). get_or r.end.slots (filed_in g h e) free) (p.answer ∙ done_0 n _ _ m)
          ∙ filed h same g f
          ∙ sym (ap (λ (r : TakeAnswer). get_or r.end.slots (filed_in g h e') free) (p'.answer ∙ done_0 n' _ _ (sym q ∙ m)))),
    )
