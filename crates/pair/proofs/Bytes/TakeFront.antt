-- What take makes of a front part of a channel: nothing there, or a packet cut short, gives 9 or 10 and changes nothing; a whole packet
-- meets its own cases, whatever follows it. One law for every packet, then for a lane's packet and for a SYN.
use Rattle.std.specs.Prelude.{Some}
use Prim.Native.Nat.{ℕ, ◌+◌, ◌^◌, ◌≤◌, ◌<◌, ◌-◌}
use native.Mathlib.Omega.{arith}
use native.Mathlib.Decide.{dec_lt}
use mathlib.Core.Path.{◌≡◌, refl, sym, ap, ◌∙◌}
use mathlib.Core.Bool.{Bool, true, false}
use mathlib.Core.List.{List, [], ◌++◌, append-nil}
use lib.ListN.{length, take, drop}
use lib.Seq.{take-nil, paste, take-append-le}
use Rattle.cases.specs.Cases.{if, first}
use Rattle.wire.specs.declared.header.Header.{Header}
use Rattle.wire.specs.declared.kind.Kind.{Kind}
use Rattle.wire.specs.declared.kind.Kind.TheVariants.{Syn}
use Rattle.wire.specs.Packet.{header_length, read_header, packet_bytes}
use Rattle.wire.proofs.Whole.{Whole, whole_flags, front_header, cut_length, whole_there, payload_front, whole_front}
use Rattle.session.specs.declared.record.Session.{Session}
use Rattle.effect.specs.declared.cell.Cell.{Cell}
use Rattle.effect.specs.declared.cell.Cell.TheVariants as cell
use Rattle.session.specs.Record.{fresh_of}
use Rattle.effect.specs.Taken.{cell_of}
use Rattle.table.specs.declared.end.Role.{Role}
use Rattle.table.specs.declared.end.End.{End}
use Rattle.table.specs.Slots.{holds, session_of, slot_of, lowest_free, full}
use Rattle.table.specs.Storage.{place_start}
use Rattle.table.specs.End.{put_of, changed_of}
use Rattle.table.specs.Limits.{Limits}
use Rattle.table.specs.Well.{well_made}
use Rattle.calling.specs.Calling.{short_storage}
use Rattle.open.specs.Open.{syn_header}
use Rattle.judge.specs.Number.{syn_cases, other_cases, kind_cases, take_number, missing}
use Rattle.take.specs.Take.{taken_on, taken_end, take_done, take_refused, take_of, kept, taken_storage, take_storage}
use Rattle.take.proofs.SynKeeps.{syn_keeps}
use Rattle.pair.proofs.Lane.Half.{Packet, dat, ack, fin}
use Rattle.pair.proofs.Bytes.Encoded.{kind_of, payload_of, header_for, packet_for, syn_for, packet_whole, syn_whole, syn_bytes, packet_size, syn_size}
use Rattle.pair.proofs.Bytes.TakeGate.{number_under, number_cut, number_whole, answer_refused, storage_refused, answer_done, storage_done}

-- ---- 9 or 10: used 0, kind 0, SID 0, the end and the storage as they were

waits_number : (short : Bool) → (0 < if short 9 10) × (if short 9 10 < 20)
waits_number true = (omega arith, omega arith)
waits_number false = (omega arith, omega arith)

pub waits_answer : (lim : Limits) (e : End) (bytes : List ℕ) (st : ℕ) (short : Bool) → take_number lim e bytes st ≡ if short 9 10
    → take_of lim e bytes st ≡ take_refused (if short 9 10) (missing bytes) e
waits_answer lim e bytes st short n = answer_refused lim e bytes st (if short 9 10) n (waits_number short).0 (waits_number short).1

pub waits_storage : (lim : Limits) (e : End) (bytes lent : List ℕ) (short : Bool) → take_number lim e bytes (length lent) ≡ if short 9 10
    → take_storage lim e bytes lent ≡ lent
waits_storage lim e bytes lent short n = storage_refused lim e bytes lent (if short 9 10) n (waits_number short).0

-- ---- what is stored of a packet: its payload, at its place; what stands behind the packet isn't stored

module _ {place : ℕ} {h : Header} {k : Kind} {v : List ℕ} (w : Whole place h k v) (lim : Limits) (i : ℕ) (storage : List ℕ) where
  kept_payload : (more : List ℕ) → kept lim cell.Store i h (packet_bytes h v ++ more) storage ≡ paste storage (place_start lim.place i h.seqnum) v
      (length v)
  kept_payload more =
      let at = place_start lim.place i h.seqnum in
      let m : h.length - header_length ≡ length v = omega (arith, w.long) in
      ap (λ (b : List ℕ). paste storage at b (h.length - header_length)) (payload_front h v more)
      ∙ ap (paste storage at (v ++ more)) m
      ∙ ap (λ (b : List ℕ). take at storage ++ b ++ drop (at + length v) storage) (take-append-le (length v) v more (omega arith))

  kept_front : (c : Cell) (rest : List ℕ) (n : ℕ) → h.length ≤ n → kept lim c i h (take n (packet_bytes h v ++ rest)) storage ≡ kept lim c i h
      (packet_bytes h v) storage
  kept_front cell.Store rest n l =
      ap (λ (b : List ℕ). kept lim cell.Store i h b storage) (whole_front w rest n l)
      ∙ kept_payload (take (n - h.length) rest)
      ∙ sym (ap (λ (b : List ℕ). kept lim cell.Store i h b storage) (sym (append-nil (packet_bytes h v))) ∙ kept_payload [])
  kept_front cell.Grant rest n l = refl
  kept_front cell.End rest n l = refl
  kept_front cell.Ignore rest n l = refl
  kept_front cell.Free rest n l = refl
  kept_front cell.Fault rest n l = refl

-- ---- at an end that is well made and up

module _ (lim : Limits) (e : End) (g : well_made lim e ≡ true) (u : e.up ≡ true) where
  -- the channel is empty
  pub nothing_number : (n st : ℕ) → take_number lim e (take n []) st ≡ if (short_storage lim e st) 9 10
  nothing_number n st = number_under lim e g u (take n []) st (omega (arith, ap (length {A = ℕ}) (take-nil n)))

  -- ---- any packet

  module _ {h : Header} {k : Kind} {v : List ℕ} (w : Whole lim.place h k v) (rest : List ℕ) (n : ℕ) where
    abbrev bytes : List ℕ
    bytes = take n (packet_bytes h v ++ rest)

    cut_number : n < h.length → (st : ℕ) → take_number lim e (take n (packet_bytes h v ++ rest)) st ≡ if (short_storage lim e st) 9 10
    cut_number c st = by (dec_lt n header_length)
      where
        long : length bytes ≡ n
        long = cut_length w rest n c

        by : Dec (n < header_length) → take_number lim e bytes st ≡ if (short_storage lim e st) 9 10
        by (yes l) = number_under lim e g u bytes st (omega (arith, long))
        by (no l) = number_cut lim e g u bytes st h k (front_header w rest n (omega arith)) w.sound (omega (arith, long)) (omega (arith, long))

    module _ (l : h.length ≤ n) where
      is : read_header bytes ≡ h
      is = front_header w rest n (omega (arith, w.sound.low))

      whole_number : (st : ℕ) → take_number lim e (take n (packet_bytes h v ++ rest)) st
          ≡ if (short_storage lim e st) 9 (first (kind_cases lim (Some k) e.role (holds h.sid e.slots) (full e.slots)
          (session_of h.sid e.slots) h))
      whole_number st = number_whole lim e g u bytes st h k is w.sound (whole_there w rest n l)

      whole_answer : (st : ℕ) → take_number lim e (take n (packet_bytes h v ++ rest)) st ≡ 0
          → take_of lim e (take n (packet_bytes h v ++ rest)) st ≡ take_done h (taken_end (Some k) h e)
      whole_answer st z = answer_done lim e bytes h k is (whole_flags w) st z

      whole_storage : (lent : List ℕ) → take_number lim e (take n (packet_bytes h v ++ rest)) (length lent) ≡ 0
          → take_storage lim e (take n (packet_bytes h v ++ rest)) lent ≡ taken_storage lim (Some k) e h (packet_bytes h v) lent
      whole_storage lent z =
          storage_done lim e bytes h k is (whole_flags w) lent z
          ∙ kept_front w lim (slot_of h.sid e.slots) lent (cell_of (session_of h.sid e.slots).state k) rest n l

-- ---- a lane's packet: no SYN

other_kind : (lim : Limits) (p : Packet) (role : Role) (held none : Bool) (x : Session) (h : Header)
    → first (kind_cases lim (Some (kind_of p)) role held none x h) ≡ first (other_cases lim (kind_of p) held x h)
other_kind lim (dat q v b) role held none x h = refl
other_kind lim (ack q v) role held none x h = refl
other_kind lim (fin q v) role held none x h = refl

other_end : (p : Packet) (h : Header) (e : End) → taken_end (Some (kind_of p)) h e ≡ changed_of h.sid (taken_on (kind_of p) h) e
other_end (dat q v b) h e = refl
other_end (ack q v) h e = refl
other_end (fin q v) h e = refl

module _ (lim : Limits) (small : header_length + lim.place < 2 ^ 32) (e : End) (g : well_made lim e ≡ true) (u : e.up ≡ true) (sid : ℕ) (low : sid < 2 ^ 16)
    (p : Packet) (fits : length (payload_of p) ≤ lim.place) (rest : List ℕ) (n : ℕ) where
  w : Whole lim.place (header_for sid p) (kind_of p) (payload_of p)
  w = packet_whole lim.place small sid low p fits

  pub packet_cut : n < length (packet_for sid p) → (st : ℕ) → take_number lim e (take n (packet_for sid p ++ rest)) st ≡ if (short_storage lim e st) 9 10
  packet_cut c st = cut_number lim e g u w rest n (omega (arith, packet_size sid p)) st

  module _ (l : length (packet_for sid p) ≤ n) where
    all : (header_for sid p).length ≤ n
    all = omega (arith, packet_size sid p)

    pub packet_number : (st : ℕ) → take_number lim e (take n (packet_for sid p ++ rest)) st
        ≡ if (short_storage lim e st) 9 (first (other_cases lim (kind_of p) (holds sid e.slots) (session_of sid e.slots) (header_for sid p)))
    packet_number st =
        whole_number lim e g u w rest n all st
        ∙ ap (λ (m : ℕ). if (short_storage lim e st) 9 m)
        (other_kind lim p e.role (holds sid e.slots) (full e.slots) (session_of sid e.slots) (header_for sid p))

    pub packet_answer : (st : ℕ) → take_number lim e (take n (packet_for sid p ++ rest)) st ≡ 0
        → take_of lim e (take n (packet_for sid p ++ rest)) st ≡ take_done (header_for sid p) (changed_of sid (taken_on (kind_of p) (header_for sid p)) e)
    packet_answer st z = whole_answer lim e g u w rest n all st z ∙ ap (take_done (header_for sid p)) (other_end p (header_for sid p) e)

    pub packet_storage : (lent : List ℕ) → take_number lim e (take n (packet_for sid p ++ rest)) (length lent) ≡ 0
        → take_storage lim e (take n (packet_for sid p ++ rest)) lent
        ≡ kept lim (cell_of (session_of sid e.slots).state (kind_of p)) (slot_of sid e.slots) (header_for sid p) (packet_for sid p) lent
    packet_storage lent z = whole_storage lim e g u w rest n all lent z

-- ---- a SYN: it changes no stored byte

module _ (lim : Limits) (small : header_length + lim.place < 2 ^ 32) (e : End) (g : well_made lim e ≡ true) (u : e.up ≡ true) (sid : ℕ) (low : sid < 2 ^ 16)
    (rest : List ℕ) (n : ℕ) where
  s : Whole lim.place (syn_header sid) Syn []
  s = syn_whole lim.place small sid low

  bytes_are : take n (syn_for sid ++ rest) ≡ take n (packet_bytes (syn_header sid) [] ++ rest)
  bytes_are = ap (λ (b : List ℕ). take n (b ++ rest)) (syn_bytes sid)

  number_is : (st : ℕ) → take_number lim e (take n (syn_for sid ++ rest)) st ≡ take_number lim e (take n (packet_bytes (syn_header sid) [] ++ rest)) st
  number_is st = ap (λ (b : List ℕ). take_number lim e b st) bytes_are

  pub syn_cut : n < length (syn_for sid) → (st : ℕ) → take_number lim e (take n (syn_for sid ++ rest)) st ≡ if (short_storage lim e st) 9 10
  syn_cut c st = number_is st ∙ cut_number lim e g u s rest n (omega (arith, syn_size sid)) st

  module _ (l : length (syn_for sid) ≤ n) where
    syn_all : header_length ≤ n
    syn_all = omega (arith, syn_size sid)

    pub syn_number : (st : ℕ) → take_number lim e (take n (syn_for sid ++ rest)) st
        ≡ if (short_storage lim e st) 9 (first (syn_cases lim e.role (holds sid e.slots) (full e.slots) (syn_header sid)))
    syn_number st = number_is st ∙ whole_number lim e g u s rest n syn_all st

    pub syn_answer : (st : ℕ) → take_number lim e (take n (syn_for sid ++ rest)) st ≡ 0
        → take_of lim e (take n (syn_for sid ++ rest)) st ≡ take_done (syn_header sid) (put_of (lowest_free e.slots) (fresh_of sid) e)
    syn_answer st z = ap (λ (b : List ℕ). take_of lim e b st) bytes_are ∙ whole_answer lim e g u s rest n syn_all st (sym (number_is st) ∙ z)

    pub syn_storage : (lent : List ℕ) → take_number lim e (take n (syn_for sid ++ rest)) (length lent) ≡ 0
        → take_storage lim e (take n (syn_for sid ++ rest)) lent ≡ lent
    syn_storage lent z =
        ap (λ (b : List ℕ). take_storage lim e b lent) bytes_are
        ∙ whole_storage lim e g u s rest n syn_all lent (sym (number_is (length lent)) ∙ z)
        ∙ syn_keeps lim (session_of sid e.slots).state (slot_of sid e.slots) (syn_header sid) (packet_bytes (syn_header sid) []) lent
