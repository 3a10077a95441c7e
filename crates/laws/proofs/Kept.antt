-- Well made is kept: a call that is lent a well-made record returns a well-made one, whether it did what was asked, refused or met
-- a fault, and start makes one. As 12 comes only for a record that isn't well made, a caller who lends each call the record that the
-- call before returned never sees 12. Theorems know no types, so that every field is a value of its type is a hypothesis, which every
-- record in the code meets and every call keeps. Nothing is said here of a record that the caller changed, or of the storage.
use Rattle.std.specs.Prelude.{None, Option, Some}
use Prim.Native.Nat.{ℕ, ◌-◌, ◌≤◌}
use native.Mathlib.Omega.{arith}
use mathlib.Core.Path.{◌≡◌, refl, sym}
use mathlib.Core.Bool.{Bool, true, false, ◌&&◌}
use mathlib.Core.List.{List, ◌∷◌, ◌++◌}
use lib.ListN.{length}
use lib.Dec.{eqb, ltb}
use borrow.Author.Tests.{eqb-true, eqb-false, ltb-false, not-false}
use Rattle.cases.specs.Cases.{Case, ◌⇒◌, if, first, done}
use Rattle.cases.proofs.Tests.{never, and_split}
use Rattle.cases.proofs.First.{numbered, test, clear}
use Rattle.wire.specs.declared.header.Header.{Header}
use Rattle.wire.specs.declared.kind.Kind.{Kind}
use Rattle.wire.specs.declared.kind.Kind.TheVariants.{Syn, Ack, Fin, Data}
use Rattle.wire.specs.Packet as packet
use Rattle.wire.specs.Packet.{AreBytes, header_length, read_header, flags_of, length_fits, SoundHeader, header_cases}
use Rattle.wire.proofs.Headers.{read_fits}
use Rattle.wire.proofs.Shapes as shapes
use Rattle.session.specs.declared.record.State.{State}
use Rattle.session.specs.declared.record.State.TheVariants as state
use Rattle.session.specs.declared.record.Session.{Session}
use Rattle.session.specs.Record as record'
use Rattle.session.specs.Record.{window, fresh_of, in_use, established, fin_sent, fin_received, unread}
use Rattle.session.specs.Well.{InOrder}
use Rattle.session.specs.Changes.{sent_on, read_on, closed_on, granted_on}
use Rattle.session.proofs.Kept.{Keeps, sent_keeps, read_keeps, closed_keeps}
use Rattle.effect.proofs.Kept.{granted_most, becomes_keeps}
use Rattle.table.specs.declared.end.Role.{Role}
use Rattle.table.specs.declared.end.End.{End}
use Rattle.table.specs.Slots.{holds, session_of, lowest_free, full, smallest_sid}
use Rattle.table.specs.End as table
use Rattle.table.specs.Well.{Fits, well_made}
use Rattle.table.proofs.Smallest.{smallest_new, smallest_within}
use Rattle.table.proofs.Kept.{Sound, start_sound, down_sound, changed_sound, begun_sound, found_used, found_order, found_fits}
use Rattle.table.specs.Limits.{Limits, base}
use Rattle.calling.specs.Calling.{calling, short_storage}
use Rattle.start.specs.Start.{StartAnswer}
use Rattle.start.specs.Start.{StartPromise}
use Rattle.open.specs.Open.{OpenAnswer}
use Rattle.open.specs.Open.{open_cases, open_number, open_of, OpenPromise}
use Rattle.send.specs.Send.{SendAnswer}
use Rattle.send.specs.Send.{send_cases, send_number, send_of, SendPromise}
use Rattle.read.specs.Read.{ReadAnswer}
use Rattle.read.specs.Read.{read_cases, read_number, read_of, ReadPromise}
use Rattle.close.specs.Close.{CloseAnswer}
use Rattle.close.specs.Close.{close_cases, close_number, close_of, ClosePromise}
use Rattle.shutdown.specs.Shutdown.{ShutdownAnswer}
use Rattle.shutdown.specs.Shutdown.{shutdown_number, shutdown_of, ShutdownPromise}
use Rattle.take.specs.Take.{TakeAnswer}
use Rattle.judge.specs.Number.{take_cases, syn_cases, other_cases, kind_cases, take_number, missing}
use Rattle.take.specs.Take.{take_refused, take_fault, taken_on, taken_end, take_of, TakePromise}

-- ---- over the limits

-- what holds of the answer done, where the number is 0, and of the one refused
either : {A : Type 0} (P : A → Type 0) (n : ℕ) (a b : A) → (n ≡ 0 → P a) → P b → P (done n a b)
either P n a b p q = by (eqb n 0) refl
  where
    by : (t : Bool) → eqb n 0 ≡ t → P (if t a b)
    by true e = p (eqb-true n 0 e)
    by false e = q

-- where read meets neither 5, 8 nor 11, a packet is unread
some_unread : (x : Session) → in_use x.state ≡ true → fin_sent x.state ≡ false → established x.state && eqb (unread x) 0 ≡ false
    → fin_received x.state && eqb (unread x) 0 ≡ false → unread x ≡ 0 → ⊥
some_unread x u p q r = eqb-false _ _ (by x.state (eqb (unread x) 0) u p q r)
  where
    by : (st : State) (z : Bool) → in_use st ≡ true → fin_sent st ≡ false → established st && z ≡ false → fin_received st && z ≡ false → z ≡ false
    by state.Established z u p q r = q
    by state.FinReceived z u p q r = r
    by state.FinSent z u p q r = never (sym p)
    by state.Closed z u p q r = never u

module _ (lim : Limits) {e : End} (s : Sound lim e) where
  open_held : window ≤ lim.window → (room : ℕ) → Sound lim (open_of lim e room).end
  unfolding open_of open_number numbered test
  open_held low room = either (λ (r : OpenAnswer). Sound lim r.end) (open_number lim e room) _ _ go s
    where
      cases : List Case
      cases = open_cases (well_made lim e) e.up e.role (full e.slots) room

      go : first cases ≡ 0 → Sound lim (table.put_of (lowest_free e.slots) (fresh_of (smallest_sid e.slots)) e)
      go p =
          begun_sound s window (omega arith) low (not-false _ (clear cases 1 refl p)) (clear cases 3 refl p) (smallest_sid e.slots)
          (omega (arith, s.fits.few, smallest_within e.slots)) (smallest_new e.slots)

  -- a call that names a session: it is held, and the record that was found for it makes way for one that keeps what is asked
  module _ (sid : ℕ) where
    abbrev x : Session
    x = session_of sid e.slots

    change : (f : Session → Session) → holds sid e.slots ≡ true
        → (InOrder lim.window lim.place x → record'.Fits x → in_use x.state ≡ true → Keeps lim.window lim.place x (f x))
        → Sound lim (table.changed_of sid f e)
    change f h k = changed_sound s sid h f (k (found_order s sid h) (found_fits s sid h) (found_used s sid h))

    send_held : (payload : List ℕ) (room : ℕ) → Sound lim (send_of lim e sid payload room).end
    unfolding send_of send_number numbered test
    send_held payload room = either (λ (r : SendAnswer). Sound lim r.end) (send_number lim e sid (length payload) room) _ _ go s
      where
        cases : List Case
        cases = calling lim e sid ++ send_cases lim x (length payload) room

        go : first cases ≡ 0 → Sound lim (table.changed_of sid sent_on e)
        go p = change sent_on (not-false _ (clear cases 4 refl p)) (λ o f u. sent_keeps o f u (eqb-false _ _ (clear cases 7 refl p)))

    read_held : (room ack storage : ℕ) → Sound lim (read_of lim e sid room ack storage).end
    unfolding read_of read_number numbered test
    read_held room ack storage = either (λ (r : ReadAnswer). Sound lim r.end) (read_number lim e sid room ack storage) _ _ go s
      where
        cases : List Case
        cases = calling lim e sid ++ read_cases x room ack (short_storage lim e storage)

        go : first cases ≡ 0 → Sound lim (table.changed_of sid read_on e)
        go p =
            change read_on (not-false _ (clear cases 4 refl p))
            (λ o f u. read_keeps o f u (some_unread x u (clear cases 5 refl p) (clear cases 8 refl p) (clear cases 11 refl p)))

    close_held : (room : ℕ) → Sound lim (close_of lim e sid room).end
    unfolding close_of close_number numbered test
    close_held room = either (λ (r : CloseAnswer). Sound lim r.end) (close_number lim e sid room) _ _ go s
      where
        cases : List Case
        cases = calling lim e sid ++ close_cases x room

        go : first cases ≡ 0 → Sound lim (table.changed_of sid closed_on e)
        go p = change closed_on (not-false _ (clear cases 4 refl p)) closed_keeps

  shutdown_held : Sound lim (shutdown_of lim e).end
  unfolding shutdown_of
  shutdown_held = either (λ (r : ShutdownAnswer). Sound lim r.end) (shutdown_number lim e) _ _ (λ _. down_sound s) s

  -- ---- take: of any header whose fields fit where the bytes for it are there

  module _ (h : Header) (given storage : ℕ) (fits : header_length ≤ given → packet.Fits h) where
    abbrev known : Bool
    known = holds h.sid e.slots

    abbrev found : Session
    found = session_of h.sid e.slots

    -- the cases up to the packet's kind, then those of its kind
    abbrev cases : List Case → List Case
    cases rest =
        take_cases (well_made lim e) e.up (short_storage lim e storage) given
        ++ (header_cases lim.place h ++ (ltb given h.length ⇒ 10 ∷ rest))

    all_fit : (rest : List Case) → numbered rest ≡ true → first (cases rest) ≡ 0 → packet.Fits h
    unfolding numbered test
    all_fit rest d p = fits (ltb-false _ _ (clear (cases rest) 10 d p))

    -- a SYN begins a session
    syn_held : first (cases (syn_cases lim e.role known (full e.slots) h)) ≡ 0
        → Sound lim (table.put_of (lowest_free e.slots) (granted_on h.wndw (fresh_of h.sid)) e)
    unfolding numbered test
    syn_held p =
        begun_sound s h.wndw (omega (arith, (all_fit rest refl p).wndw)) high (not-false _ (clear (cases rest) 1 refl p)) (clear (cases rest) 26 refl p)
        h.sid (omega (arith, (all_fit rest refl p).sid)) (clear (cases rest) 25 refl p)
      where
        rest : List Case
        rest = syn_cases lim e.role known (full e.slots) h

        high : h.wndw ≤ lim.window
        high = granted_most lim.window h.wndw (and_split (eqb h.seqnum 0) _ (not-false _ (clear (cases rest) 27 refl p))).1

    -- any other packet makes of its session what the table says
    other_held : (k : Kind) → flags_of h.flags ≡ Some k → first (cases (other_cases lim k known found h)) ≡ 0
        → Sound lim (table.changed_of h.sid (taken_on k h) e)
    unfolding numbered test
    other_held k q p =
        change h.sid (taken_on k h) (not-false _ (clear (cases rest) 23 refl p))
        (λ o f u. becomes_keeps o f u h.seqnum h.wndw (h.length - header_length)
        (omega (arith, fit.seqnum)) (omega (arith, fit.wndw)) (omega (arith, sound.high))
        (not-false _ (clear (cases rest) 28 refl p)) k (not-false _ (clear (cases rest) 29 refl p)))
      where
        rest : List Case
        rest = other_cases lim k known found h

        fit : packet.Fits h
        fit = all_fit rest refl p

        whole : length_fits lim.place (flags_of h.flags) h.length ≡ true
        whole = not-false _ (clear (cases rest) 22 refl p)

        sound : SoundHeader lim.place h k
        sound = shapes.made lim.place h k (eqb-true _ _ (not-false _ (clear (cases rest) 20 refl p))) q (rw q at whole)

    taken_held : (f : Option Kind) → flags_of h.flags ≡ f
        → first (cases (kind_cases lim f e.role known (full e.slots) found h)) ≡ 0 → Sound lim (taken_end f h e)
    taken_held (Some Syn) q p = syn_held p
    taken_held (Some Ack) q p = other_held Ack q p
    taken_held (Some Fin) q p = other_held Fin q p
    taken_held (Some Data) q p = other_held Data q p
    taken_held None q p = s

  -- a refusal returns the record as lent, a fault the end down
  take_held : (bytes : List ℕ) → AreBytes bytes → (storage : ℕ) → Sound lim (take_of lim e bytes storage).end
  unfolding take_of take_number
  take_held bytes all storage = either (λ (r : TakeAnswer). Sound lim r.end) n _ _ go (by (ltb n 20))
    where
      h : Header
      h = read_header bytes

      n : ℕ
      n = take_number lim e bytes storage

      go : n ≡ 0 → Sound lim (taken_end (flags_of h.flags) h e)
      go = taken_held h (length bytes) storage (λ long. read_fits bytes long all) (flags_of h.flags) refl

      by : (b : Bool) → Sound lim (if b (take_refused n (missing bytes) e) (take_fault n e)).end
      by true = s
      by false = down_sound s

-- ---- the calls

pub fresh_made : (role : Role) → well_made base (table.start_of role) ≡ true
fresh_made role = (start_sound base role).well

pub fresh_fits : (role : Role) → Fits (table.start_of role)
fresh_fits role = (start_sound base role).fits

pub start_kept : {role : Role} {r : StartAnswer} → StartPromise role r → (well_made base r.end ≡ true) × Fits r.end
start_kept {role} p = rw p.answer (fresh_made role, fresh_fits role)

-- from the law over the limits to the pair that a caller has and gets
kept : {e e' : End} → (Sound base e → Sound base e') → well_made base e ≡ true → Fits e → (well_made base e' ≡ true) × Fits e'
kept f w t = let s = f (record { well = w; fits = t }) in (s.well, s.fits)

pub open_kept : {e : End} {lent exit : List ℕ} {r : OpenAnswer} → OpenPromise e lent r exit
    → well_made base e ≡ true → Fits e → (well_made base r.end ≡ true) × Fits r.end
open_kept {lent = lent} p = rw p.answer (kept (λ s. open_held base s (omega arith) (length lent)))

pub send_kept : {e : End} {sid : ℕ} {payload lent exit : List ℕ} {r : SendAnswer} → SendPromise e sid payload lent r exit
    → well_made base e ≡ true → Fits e → (well_made base r.end ≡ true) × Fits r.end
send_kept {sid = sid} {payload} {lent} p = rw p.answer (kept (λ s. send_held base s sid payload (length lent)))

pub read_kept : {e : End} {sid : ℕ} {storage lent lentAck exit exitAck : List ℕ} {r : ReadAnswer} → ReadPromise e sid storage lent lentAck r exit exitAck
    → well_made base e ≡ true → Fits e → (well_made base r.end ≡ true) × Fits r.end
read_kept {sid = sid} {storage} {lent} {lentAck} p =
    rw p.answer (kept (λ s. read_held base s sid (length lent) (length lentAck) (length storage)))

pub close_kept : {e : End} {sid : ℕ} {lent exit : List ℕ} {r : CloseAnswer} → ClosePromise e sid lent r exit
    → well_made base e ≡ true → Fits e → (well_made base r.end ≡ true) × Fits r.end
close_kept {sid = sid} {lent} p = rw p.answer (kept (λ s. close_held base s sid (length lent)))

pub shutdown_kept : {e : End} {r : ShutdownAnswer} → ShutdownPromise e r
    → well_made base e ≡ true → Fits e → (well_made base r.end ≡ true) × Fits r.end
shutdown_kept p = rw p.answer (kept (λ s. shutdown_held base s))

-- the bytes given are bytes, so the header's fields fit
pub take_kept : {e : End} {bytes lent exit : List ℕ} {r : TakeAnswer} → TakePromise e bytes lent r exit → AreBytes bytes
    → well_made base e ≡ true → Fits e → (well_made base r.end ≡ true) × Fits r.end
take_kept {bytes = bytes} {lent} p all = rw p.answer (kept (λ s. take_held base s bytes all (length lent)))
