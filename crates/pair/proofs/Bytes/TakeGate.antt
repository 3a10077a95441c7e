-- Take's number for any bytes given, at an end that is well made and up: what comes before the packet's own cases (9, 10, 20 to 22, 10 again).
-- And its answer and the storage from that number.
use Rattle.std.specs.Prelude.{Some}
use Prim.Native.Nat.{ℕ, ◌≤◌, ◌<◌}
use native.Mathlib.Omega.{arith}
use mathlib.Core.Path.{◌≡◌, refl, ap, ◌∙◌}
use mathlib.Core.Bool.{Bool, true}
use mathlib.Core.List.{List, ◌∷◌, ◌++◌}
use lib.ListN.{length}
use lib.Dec.{ltb}
use borrow.Author.Tests.{ne_eqb, lt-ltb, le-ltb}
use Rattle.cases.specs.Cases.{◌⇒◌, if, first}
use Rattle.cases.proofs.First.{done_0, done_not, numbered, first_append}
use Rattle.wire.specs.declared.header.Header.{Header}
use Rattle.wire.specs.declared.kind.Kind.{Kind}
use Rattle.wire.specs.Packet.{header_length, read_header, flags_of, SoundHeader, header_cases, header_number}
use Rattle.wire.proofs.Flags.{flags_named}
use Rattle.wire.proofs.Shapes.{is_0}
use Rattle.session.specs.declared.record.Session.{Session}
use Rattle.table.specs.declared.end.Role.{Role}
use Rattle.table.specs.declared.end.End.{End}
use Rattle.table.specs.Slots.{holds, session_of, full}
use Rattle.table.specs.Limits.{Limits}
use Rattle.table.specs.Well.{well_made}
use Rattle.calling.specs.Calling.{short_storage}
use Rattle.judge.specs.Number.{kind_cases, packet_cases, take_cases, take_number, missing}
use Rattle.take.specs.Take.{taken_end, take_done, take_refused, take_of, taken_storage, take_storage}

-- ---- the number

-- a header without fault
sound_cases : (lim : Limits) (k : Kind) (role : Role) (held none : Bool) (x : Session) (h : Header) (given : ℕ) → SoundHeader lim.place h k
    → first (packet_cases lim role held none x h given) ≡ if (ltb given h.length) 10 (first (kind_cases lim (Some k) role held none x h))
unfolding header_number numbered first
sound_cases lim k role held none x h given s =
    let f : flags_of h.flags ≡ Some k = flags_named h.flags k s.flags in
    let after = ltb given h.length ⇒ 10 ∷ kind_cases lim (flags_of h.flags) role held none x h in
    first_append (header_cases lim.place h) after refl
    ∙ done_0 (header_number lim.place h) (first after) (header_number lim.place h) (is_0 lim.place h s.smid k f s.fits)
    ∙ ap (λ t. if (ltb given h.length) 10 (first (kind_cases lim t role held none x h))) f

module _ (lim : Limits) (e : End) (g : well_made lim e ≡ true) (u : e.up ≡ true) (bytes : List ℕ) (st : ℕ) where
  -- the number by the cases of a packet with that header
  abbrev own : Header → ℕ
  own h = first (packet_cases lim e.role (holds h.sid e.slots) (full e.slots) (session_of h.sid e.slots) h (length bytes))

  -- the first four cases, then those
  gate : take_number lim e bytes st ≡ if (short_storage lim e st) 9 (if (ltb (length bytes) header_length) 10 (own (read_header bytes)))
  unfolding take_number first
  gate =
      let cs = packet_cases lim e.role (holds (read_header bytes).sid e.slots) (full e.slots) (session_of (read_header bytes).sid e.slots)
      (read_header bytes)
      (length bytes) in
      ap (λ (b : Bool). first (take_cases b e.up (short_storage lim e st) (length bytes) ++ cs)) g
      ∙ ap (λ (b : Bool). first (take_cases true b (short_storage lim e st) (length bytes) ++ cs)) u

  -- no whole header
  pub number_under : length bytes < header_length → take_number lim e bytes st ≡ if (short_storage lim e st) 9 10
  number_under l = gate ∙ rw (lt-ltb (length bytes) header_length l)

  module _ (h : Header) (k : Kind) (is : read_header bytes ≡ h) (s : SoundHeader lim.place h k) where
    beyond : header_length ≤ length bytes → take_number lim e bytes st
        ≡ if (short_storage lim e st) 9 (if (ltb (length bytes) h.length) 10
        (first (kind_cases lim (Some k) e.role (holds h.sid e.slots) (full e.slots) (session_of h.sid e.slots) h)))
    beyond l =
        gate
        ∙ ap (λ (t : Bool). if (short_storage lim e st) 9 (if t 10 (own (read_header bytes)))) (le-ltb (length bytes) header_length l)
        ∙ ap (λ (j : Header). if (short_storage lim e st) 9 (own j)) is
        ∙ ap (λ (m : ℕ). if (short_storage lim e st) 9 m)
        (sound_cases lim k e.role (holds h.sid e.slots) (full e.slots) (session_of h.sid e.slots) h (length bytes) s)

    -- a header, and not the whole packet
    pub number_cut : header_length ≤ length bytes → length bytes < h.length → take_number lim e bytes st ≡ if (short_storage lim e st) 9 10
    number_cut l c = beyond l ∙ rw (lt-ltb (length bytes) h.length c)

    -- a whole packet: its own cases
    pub number_whole : h.length ≤ length bytes → take_number lim e bytes st
        ≡ if (short_storage lim e st) 9 (first (kind_cases lim (Some k) e.role (holds h.sid e.slots) (full e.slots) (session_of h.sid e.slots) h))
    number_whole l = beyond (omega (arith, s.low)) ∙ rw (le-ltb (length bytes) h.length l)

-- ---- the answer

module _ (lim : Limits) (e : End) (bytes : List ℕ) where
  module _ (st m : ℕ) (n : take_number lim e bytes st ≡ m) where
    pub answer_refused : 0 < m → m < 20 → take_of lim e bytes st ≡ take_refused m (missing bytes) e
    unfolding take_of
    answer_refused p l = rw (n, ne_eqb m 0 (λ z. omega arith), lt-ltb m 20 l)

  pub storage_refused : (lent : List ℕ) (m : ℕ) → take_number lim e bytes (length lent) ≡ m → 0 < m → take_storage lim e bytes lent ≡ lent
  unfolding take_storage
  storage_refused lent m n p = rw n (done_not m (taken_storage lim (flags_of (read_header bytes).flags) e (read_header bytes) bytes lent) lent p)

  module _ (h : Header) (k : Kind) (is : read_header bytes ≡ h) (f : flags_of h.flags ≡ Some k) where
    pub answer_done : (st : ℕ) → take_number lim e bytes st ≡ 0 → take_of lim e bytes st ≡ take_done h (taken_end (Some k) h e)
    unfolding take_of
    answer_done st n = rw (n, is, f)

    pub storage_done : (lent : List ℕ) → take_number lim e bytes (length lent) ≡ 0 → take_storage lim e bytes lent ≡ taken_storage lim (Some k) e h bytes lent
    unfolding take_storage
    storage_done lent n = rw (n, is, f)
