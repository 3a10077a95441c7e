-- Only its own slot. A call that names a SID, or a packet that does, leaves role, up and every other slot as they were; open and a SYN leave
-- all but the lowest free slot. A fault is apart: it takes the whole end down.
use Rattle.std.specs.Prelude.{None, Option, Some}
use Prim.Native.Nat.{ℕ, zero, suc, ◌+◌, ◌<◌}
use native.Mathlib.Omega.{arith}
use mathlib.Core.Path.{◌≡◌, refl, sym, ap, ◌∙◌}
use mathlib.Core.Bool.{Bool, true, false}
use mathlib.Core.List.{List, [], ◌∷◌}
use lib.ListN.{length, get_or}
use lib.Seq.{get_or-set_other}
use lib.Dec.{eqb}
use borrow.Author.Tests.{lt-ltb}
use Rattle.cases.specs.Cases.{if, done}
use Rattle.cases.proofs.Tests.{never, is_false}
use Rattle.wire.specs.declared.header.Header.{Header}
use Rattle.wire.specs.declared.kind.Kind.{Kind}
use Rattle.wire.specs.declared.kind.Kind.TheVariants.{Syn, Ack, Fin, Data}
use Rattle.wire.specs.Packet.{header_length, read_header, flags_of}
use Rattle.session.specs.declared.record.Session.{Session}
use Rattle.session.specs.Record.{free}
use Rattle.session.specs.Changes.{sent_on, read_on, closed_on}
use Rattle.table.specs.declared.end.End.{End}
use Rattle.table.specs.Slots.{is_of, session_of, changed, lowest_free, smallest_sid}
use Rattle.table.specs.End.{changed_of}
use Rattle.open.specs.Open.{OpenAnswer}
use Rattle.send.specs.Send.{SendAnswer}
use Rattle.read.specs.Read.{ReadAnswer}
use Rattle.close.specs.Close.{CloseAnswer}
use Rattle.take.specs.Take.{TakeAnswer}
use Rattle.table.specs.Limits.{base}
use Rattle.open.specs.Open.{open_number, opened_end, open_done, open_refused, open_of, OpenPromise}
use Rattle.send.specs.Send.{send_number, send_done, send_refused, send_of, SendPromise}
use Rattle.read.specs.Read.{read_number, oldest_length, ack_on, read_done, read_refused, read_of, ReadPromise}
use Rattle.close.specs.Close.{close_number, close_done, close_refused, close_of, ClosePromise}
use Rattle.judge.specs.Number.{take_number, missing}
use Rattle.take.specs.Take.{taken_on, taken_end, take_done, take_refused, take_of, TakePromise}
use Rattle.take.proofs.Answered.{take_told}
use Rattle.laws.specs.Apart.{Others, its}

-- ---- slots

stays_step : (b : Bool) (f : Session → Session) (x : Session) (xs ys : List Session) (j sid : ℕ) → is_of sid x ≡ b → is_of sid (get_or (x ∷ xs) j free) ≡ false
    → ((k : ℕ) → is_of sid (get_or xs k free) ≡ false → get_or ys k free ≡ get_or xs k free) → get_or (if b (f x ∷ xs) (x ∷ ys)) j free ≡ get_or (x ∷ xs) j free
stays_step true f x xs ys zero sid e h r = never (sym h ∙ e)
stays_step true f x xs ys (suc j) sid e h r = refl
stays_step false f x xs ys zero sid e h r = refl
stays_step false f x xs ys (suc j) sid e h r = r j h

-- a slot that doesn't hold the SID stays
stays : (sid : ℕ) (f : Session → Session) (xs : List Session) (j : ℕ) → is_of sid (get_or xs j free) ≡ false → get_or (changed sid f xs) j free ≡ get_or xs j free
unfolding changed
stays sid f [] j h = refl
stays sid f (x ∷ xs) j h = stays_step (is_of sid x) f x xs (changed sid f xs) j sid refl h (stays sid f xs)

-- what holds of both answers holds of the one given
either : {A B : Type 0} (f : A → B) (n : ℕ) (a b : A) (c : B) → f a ≡ c → f b ≡ c → f (done n a b) ≡ c
either f n a b c p q = by (eqb n 0)
  where
    by : (t : Bool) → f (if t a b) ≡ c
    by true = p
    by false = q

kept : (sid : ℕ) (e : End) → Others sid e e
kept sid e = record { role = refl; up = refl; slots = λ j h. refl }

changes : (sid : ℕ) (f : Session → Session) (e : End) → Others sid e (changed_of sid f e)
changes sid f e = record { role = refl; up = refl; slots = stays sid f e.slots }

given : {A : Type 0} (end : A → End) (sid n : ℕ) (e : End) (a b : A) {r : A} → r ≡ done n a b → Others sid e (end a) → Others sid e (end b)
    → Others sid e (end r)
given end sid n e a b p x y = record {
  role = ap (λ r. (end r).role) p ∙ either (λ r. (end r).role) n a b e.role x.role y.role;
  up = ap (λ r. (end r).up) p ∙ either (λ r. (end r).up) n a b e.up x.up y.up;
  slots = λ j h. ap (λ r. get_or (end r).slots j free) p ∙ either (λ r. get_or (end r).slots j free) n a b _ (x.slots j h) (y.slots j h);
}

pub send_others : {e : End} {sid : ℕ} {payload lent exit : List ℕ} {r : SendAnswer} → SendPromise e sid payload lent r exit → Others sid e r.end
unfolding send_of
send_others {e} {sid} {payload} {lent} p =
    let n = send_number base e sid (length payload) (length lent) in
    given (λ (r : SendAnswer). r.end) sid n e (send_done (header_length + length payload) (changed_of sid sent_on e)) (send_refused n e) p.answer
    (changes sid sent_on e) (kept sid e)

pub read_others : {e : End} {sid : ℕ} {storage lent lentAck exit exitAck : List ℕ} {r : ReadAnswer} → ReadPromise e sid storage lent lentAck r exit exitAck
    → Others sid e r.end
unfolding read_of
read_others {e} {sid} {storage} {lent} {lentAck} p =
    let n = read_number base e sid (length lent) (length lentAck) (length storage) in
    let x = session_of sid e.slots in
    given (λ (r : ReadAnswer). r.end) sid n e (read_done (oldest_length x) (length (ack_on x)) (changed_of sid read_on e)) (read_refused n e) p.answer
    (changes sid read_on e) (kept sid e)

pub close_others : {e : End} {sid : ℕ} {lent exit : List ℕ} {r : CloseAnswer} → ClosePromise e sid lent r exit → Others sid e r.end
unfolding close_of
close_others {e} {sid} {lent} p =
    let n = close_number base e sid (length lent) in
    given (λ (r : CloseAnswer). r.end) sid n e (close_done (changed_of sid closed_on e)) (close_refused n e) p.answer (changes sid closed_on e) (kept sid e)

-- open leaves every slot but the lowest free one
pub open_others : {e : End} {lent exit : List ℕ} {r : OpenAnswer} → OpenPromise e lent r exit
    → (r.end.role ≡ e.role) × (r.end.up ≡ e.up) × ((j : ℕ) → (j ≡ lowest_free e.slots → ⊥) → get_or r.end.slots j free ≡ get_or e.slots j free)
unfolding open_of
open_others {e} {lent} p =
    let n = open_number base e (length lent) in
    let a = open_done (smallest_sid e.slots) (opened_end (smallest_sid e.slots) e) in
    let b = open_refused n e in (
      ap (λ (r : OpenAnswer). r.end.role) p.answer ∙ either (λ (r : OpenAnswer). r.end.role) n a b _ refl refl,
      ap (λ (r : OpenAnswer). r.end.up) p.answer ∙ either (λ (r : OpenAnswer). r.end.up) n a b _ refl refl,
      (λ j d. ap (λ (r : OpenAnswer). get_or r.end.slots j free) p.answer
          ∙ either (λ (r : OpenAnswer). get_or r.end.slots j free) n a b _ (get_or-set_other e.slots (lowest_free e.slots) j _ free d) refl),
    )

taken_slots : (f : Option Kind) (h : Header) (e : End) (j : ℕ) → (its f h e j → ⊥) → get_or (taken_end f h e).slots j free ≡ get_or e.slots j free
taken_slots (Some Syn) h e j d = get_or-set_other e.slots (lowest_free e.slots) j _ free d
taken_slots (Some Ack) h e j d = stays h.sid (taken_on Ack h) e.slots j (is_false _ d)
taken_slots (Some Fin) h e j d = stays h.sid (taken_on Fin h) e.slots j (is_false _ d)
taken_slots (Some Data) h e j d = stays h.sid (taken_on Data h) e.slots j (is_false _ d)
taken_slots None h e j d = refl

pub taken_same : (f : Option Kind) (h : Header) (e : End) → ((taken_end f h e).role ≡ e.role) × ((taken_end f h e).up ≡ e.up)
taken_same (Some Syn) h e = (refl, refl)
taken_same (Some Ack) h e = (refl, refl)
taken_same (Some Fin) h e = (refl, refl)
taken_same (Some Data) h e = (refl, refl)
taken_same None h e = (refl, refl)

-- a packet leaves every slot but its own; a number below 20
pub take_others : {e : End} {bytes lent exit : List ℕ} {r : TakeAnswer} → TakePromise e bytes lent r exit → r.number < 20
    → (r.end.role ≡ e.role) × (r.end.up ≡ e.up)
    × ((j : ℕ) → (its (flags_of (read_header bytes).flags) (read_header bytes) e j → ⊥) → get_or r.end.slots j free ≡ get_or e.slots j free)
unfolding take_of
take_others {e} {bytes} {lent} {exit} {r} p l =
    let h = read_header bytes in
    let n = take_number base e bytes (length lent) in
    let m : r.number ≡ n = ap (λ (a : TakeAnswer). a.number) p.answer ∙ take_told n bytes e in
    let a = take_done h (taken_end (flags_of h.flags) h e) in
    let b = take_refused n (missing bytes) e in
    let s : r ≡ done n a b = p.answer ∙ rw (lt-ltb n 20 (omega arith)) in
    let t = taken_same (flags_of h.flags) h e in (
      ap (λ (q : TakeAnswer). q.end.role) s ∙ either (λ (q : TakeAnswer). q.end.role) n a b _ t.0 refl,
      ap (λ (q : TakeAnswer). q.end.up) s ∙ either (λ (q : TakeAnswer). q.end.up) n a b _ t.1 refl,
      (λ j d. ap (λ (q : TakeAnswer). get_or q.end.slots j free) s
          ∙ either (λ (q : TakeAnswer). get_or q.end.slots j free) n a b _ (taken_slots (flags_of h.flags) h e j d) refl),
    )
