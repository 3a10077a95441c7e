-- A packet on a record is that packet on the half that the record stands for, where the half takes it: the record takes it too, and what
-- becomes of the record, with the payload stored, stands for what becomes of the half.
use Prim.Native.Nat.{ℕ, suc, ◌+◌, ◌-◌, ◌%◌, ◌^◌, ◌≤◌, ◌<◌}
use native.Mathlib.Omega.{arith}
use native.Mathlib.Decide.{dec_lt}
use mathlib.Core.Path.{◌≡◌, refl, sym, ap, ◌∙◌, subst}
use mathlib.Core.Logic.{◌≢◌}
use mathlib.Core.Bool.{Bool, true, false, not, ◌&&◌}
use mathlib.Core.List.{List, [], ◌∷◌, ◌++◌}
use lib.ListN.{length, get_or, set, drop, length-append, length-set, get_or-append}
use lib.ListN as list
use lib.Seq.{paste, get_or-set_same, get_or-set_other, get_or-append_seam, drop_at, take-length}
use lib.Dec.{leb, eqb}
use borrow.Author.Tests.{leb-true, le-leb, lt-leb, eqb-true, eqb-false, eq-eqb, not-true}
use Rattle.cases.specs.Cases.{if, first}
use Rattle.cases.proofs.Tests.{and_split, and_both, true_not, false_not}
use Rattle.cases.proofs.First.{skip, nothing, says}
use Rattle.wire.specs.declared.header.Header.{Header}
use Rattle.wire.specs.declared.kind.Kind.{Kind}
use Rattle.wire.specs.declared.kind.Kind.TheVariants.{Data}
use Rattle.wire.specs.Packet.{header_length, header_bytes}
use Rattle.wire.proofs.Headers.{header_length_lem}
use Rattle.session.specs.declared.record.State.{State}
use Rattle.session.specs.declared.record.State.TheVariants.{Established, FinSent}
use Rattle.session.specs.declared.record.Session.{Session}
use Rattle.session.specs.Counter.{minus, plus}
use Rattle.session.specs.Record.{window, established, fin_received, place}
use Rattle.effect.specs.Taken.{window_in_range, seqnum_in_range, is_data, cell_of, becomes}
use Rattle.session.specs.Changes.{stored_on, granted_on}
use Rattle.session.proofs.Wrap.{minus_counts, plus_counts, place_counts, same_counts}
use Rattle.table.specs.Storage.{storage_length, place_start}
use Rattle.table.specs.Limits.{Limits}
use Rattle.judge.specs.Number.{other_cases}
use Rattle.take.specs.Take.{taken_on, kept}
use Rattle.pair.proofs.Lane.Half.{Bytes, St, est, fs, fr, gone, Packet, dat, ack, fin, Body, s_of, g_of, r_of, Out, win_ok, next_ok, seq_ok, checked, plain}
use Rattle.pair.proofs.Lane.Half.{stored, raised, take, seqnum_of, wndw_of}
use Rattle.pair.proofs.Lane.Inv.{Ranges}
use Rattle.pair.proofs.Bytes.Encoded.{kind_of, payload_of, header_for, packet_for, packet_size}
use Rattle.pair.proofs.Record.Stands.{state_of, Stands, s_is, r_is, g_is, h_becomes, r_becomes, turned_stands, window_counts, room_counts, Lies}
use Rattle.pair.proofs.Record.Stands.{lies_place, unread_bound}
use Rattle.pair.proofs.Record.Places.{Lent, lies_stored, lies_kept}
use Rattle.pair.proofs.Record.Does.{After, stands, freed}

-- ---- the half's answer 0 says that both its checks passed

passed : (b c : Bool) (B : Body) (o : Out) → (checked b c B o).ans ≡ 0 → (b ≡ true) × (c ≡ true)
passed true true B o z = (refl, refl)
passed true false B o z = absurd (omega arith)
passed false c B o z = absurd (omega arith)

-- and what became of the half is what comes after them
after_checks : (P : Out → Type 0) (b c : Bool) (B : Body) (o : Out) → (checked b c B o).ans ≡ 0 → P o → P (checked b c B o)
after_checks P true true B o z p = p
after_checks P true false B o z p = absurd (omega arith)
after_checks P false c B o z p = absurd (omega arith)

-- DATA that ESTABLISHED takes has the next SEQNUM, and there is room for it
record Next (B : Body) (q : ℕ) : Type 0 where
  next : q ≡ suc (r_of B)
  room : r_of B < g_of B

next_is : (B : Body) (q : ℕ) → Ranges B → next_ok B q ≡ true → Next B q
next_is B q b p =
    let both = and_split (eqb q (suc (r_of B))) (not (eqb (r_of B) (g_of B))) p in
    let differ = eqb-false (r_of B) (g_of B) (not-true _ both.1) in
    record { next = eqb-true q (suc (r_of B)) both.0; room = below (λ e. differ e) b.room }
  where
    below : r_of B ≢ g_of B → r_of B ≤ g_of B → r_of B < g_of B
    below d l = omega arith

-- ---- the record's two ranges pass where the half's do

module _ {lim : Limits} {i : ℕ} {storage : List ℕ} {x : Session} {sid : ℕ} {B : Body} where
  module _ {s : St} (a : Stands lim i storage x sid s B) (b : Ranges B) where
    wndw_passes : window ≤ lim.window → (v : ℕ) → win_ok B v ≡ true → window_in_range lim.window x (v % 2 ^ 32) ≡ true
    unfolding window_in_range
    wndw_passes wide v p =
        let both = and_split (leb B.high v) (leb v (s_of B + 4)) p in
        let low : B.high ≤ v = leb-true B.high v both.0 in
        let top : v ≤ s_of B + 4 = leb-true v (s_of B + 4) both.1 in
        let now = window_counts a b in
        let new : minus (v % 2 ^ 32) x.s ≡ v - s_of B = rw (s_is a) (minus_counts (s_of B) v (omega (arith, b.fit)) (omega arith)) in
        and_both _ _
        (le-leb (minus x.h x.s) (minus (v % 2 ^ 32) x.s) (omega arith))
        (le-leb (minus (v % 2 ^ 32) x.s) lim.window (omega arith))

    seqnum_passes : (k : Kind) (q : ℕ) → is_data k && established (state_of s) ≡ false → seq_ok B q ≡ true → seqnum_in_range x k (q % 2 ^ 32) ≡ true
    unfolding seqnum_in_range
    seqnum_passes k q f p =
        let both = and_split (leb (r_of B) q) (leb q (g_of B)) p in
        let low : r_of B ≤ q = leb-true (r_of B) q both.0 in
        let top : q ≤ g_of B = leb-true q (g_of B) both.1 in
        let room = room_counts a b in
        let ahead : minus (q % 2 ^ 32) x.r ≡ q - r_of B = rw (r_is a) (minus_counts (r_of B) q low (omega arith)) in
        ap (λ (t : Bool). if t (eqb (q % 2 ^ 32) (plus x.r 1) && not (eqb x.r x.g)) (leb (minus (q % 2 ^ 32) x.r) (minus x.g x.r)))
        (ap (λ (t : State). is_data k && established t) a.state ∙ f)
        ∙ le-leb (minus (q % 2 ^ 32) x.r) (minus x.g x.r) (omega arith)

    -- the number, for a packet of any kind in range
    number : (k : Kind) (h : Header) → fin_received (state_of s) ≡ false → window_in_range lim.window x h.wndw ≡ true → seqnum_in_range x k h.seqnum ≡ true
        → first (other_cases lim k true x h) ≡ 0
    number k h f w q = says (skip refl (skip (ap fin_received a.state ∙ f) (skip (true_not _ w) (skip (true_not _ q) nothing))))

  data_passes : Stands lim i storage x sid est B → Ranges B → (q : ℕ) → Next B q → seqnum_in_range x Data (q % 2 ^ 32) ≡ true
  unfolding seqnum_in_range
  data_passes a b q n =
      let next : q % 2 ^ 32 ≡ plus x.r 1 = rw (r_is a, n.next, plus_counts (r_of B) 1) (ap (λ (m : ℕ). m % 2 ^ 32) (omega arith)) in
      let room : eqb x.r x.g ≡ false = rw (r_is a, g_is a) (same_counts (r_of B) (g_of B) b.room (omega arith) ∙ lt-leb (g_of B) (r_of B) n.room) in
      ap (λ (t : State). if (established t) (eqb (q % 2 ^ 32) (plus x.r 1) && not (eqb x.r x.g))
      (leb (minus (q % 2 ^ 32) x.r) (minus x.g x.r)))
      a.state
      ∙ and_both (eqb (q % 2 ^ 32) (plus x.r 1)) (not (eqb x.r x.g)) (eq-eqb (q % 2 ^ 32) (plus x.r 1) next) (false_not (eqb x.r x.g) room)

  -- all but DATA in ESTABLISHED
  ranged_number : window ≤ lim.window → {s : St} (pk : Packet) (o : Out) → Stands lim i storage x sid s B → Ranges B → fin_received (state_of s) ≡ false
      → is_data (kind_of pk) && established (state_of s) ≡ false → (checked (win_ok B (wndw_of pk)) (seq_ok B (seqnum_of pk)) B o).ans ≡ 0
      → first (other_cases lim (kind_of pk) true x (header_for sid pk)) ≡ 0
  ranged_number wide pk o a b f d z =
      let c = passed (win_ok B (wndw_of pk)) (seq_ok B (seqnum_of pk)) B o z in
      number a b (kind_of pk) (header_for sid pk) f (wndw_passes a b wide (wndw_of pk) c.0) (seqnum_passes a b (kind_of pk) (seqnum_of pk) d c.1)

  -- a packet that the half takes, the record takes
  pub take_number_lem : window ≤ lim.window → (s : St) (pk : Packet) → Stands lim i storage x sid s B → Ranges B → (take s pk B).ans ≡ 0
      → first (other_cases lim (kind_of pk) true x (header_for sid pk)) ≡ 0
  take_number_lem wide est (dat q v p) a b z =
      let c = passed (win_ok B v) (next_ok B q) B (plain est (stored B v p)) z in
      number a b Data (header_for sid (dat q v p)) refl (wndw_passes a b wide v c.0) (data_passes a b q (next_is B q b c.1))
  take_number_lem wide est (ack q v) a b z = ranged_number wide (ack q v) (plain est (raised B v)) a b refl refl z
  take_number_lem wide est (fin q v) a b z = ranged_number wide (fin q v) (plain fr (raised B v)) a b refl refl z
  take_number_lem wide fs (dat q v p) a b z = ranged_number wide (dat q v p) (plain fs B) a b refl refl z
  take_number_lem wide fs (ack q v) a b z = ranged_number wide (ack q v) (plain fs B) a b refl refl z
  take_number_lem wide fs (fin q v) a b z = ranged_number wide (fin q v) (plain gone B) a b refl refl z
  take_number_lem wide fr pk a b z = absurd (omega arith)
  take_number_lem wide gone pk a b z = absurd (omega arith)

-- ---- what becomes of the record stands for what becomes of the half

-- within a window of four, the next packet's place is none of those unread
places_differ : (got n j : ℕ) → j < n → n < 4 → place (got + 1 + j) ≢ place (suc (got + n))
places_differ got n j l h = omega arith

-- the record and the storage after a packet, by the cell of a state, stand for what became of the half
abbrev Makes : Limits → ℕ → List ℕ → Session → ℕ → Packet → State → Out → Type 0
Makes lim i storage x sid pk t o =
    After lim i (kept lim (cell_of t (kind_of pk)) i (header_for sid pk) (packet_for sid pk) storage)
    (becomes (cell_of t (kind_of pk)) (seqnum_of pk % 2 ^ 32) (wndw_of pk % 2 ^ 32) (header_length + length (payload_of pk) - header_length) x) sid o.st o.body

module _ {lim : Limits} {i : ℕ} {storage : List ℕ} {x : Session} {sid : ℕ} {B : Body} where
  raised_stands : Stands lim i storage x sid est B → (v : ℕ) → Stands lim i storage (granted_on (v % 2 ^ 32) x) sid est (raised B v)
  raised_stands a v = record { sid = a.sid; state = a.state; counts = h_becomes refl a.counts; lengths = a.lengths; ring = a.ring }

  -- a payload p of n bytes, at the front of b, stored at the place of the next SEQNUM
  stored_stands : Stands lim i storage x sid est B → (q v : ℕ) (p : Bytes) → Next B q → (slots : ℕ) → i < slots
      → storage_length lim.place slots ≤ length storage
      → (b : List ℕ) (n : ℕ) → n ≡ length p → n ≤ lim.place → n ≤ length b → list.take n b ≡ p
      → Stands lim i (paste storage (place_start lim.place i (q % 2 ^ 32)) b n) (stored_on (q % 2 ^ 32) (v % 2 ^ 32) n x) sid est (stored B v p)
  stored_stands a q v p nx slots slot long b n e limit enough f = record {
    sid = a.sid;
    state = a.state;
    counts = r_becomes new_r (h_becomes refl a.counts);
    lengths = record { four = length-set x.lens (place w) n ∙ a.lengths.four; small = small };
    ring = λ (j : ℕ) (h : j < length (B.unread ++ (p ∷ []))). ring j h (dec_lt j (length B.unread));
  }
    where
      -- the SEQNUM in the packet
      w : ℕ
      w = q % 2 ^ 32

      new_r : w ≡ r_of (stored B v p) % 2 ^ 32
      new_r = ap (λ (m : ℕ). m % 2 ^ 32) (omega (arith, nx.next, length-append B.unread (p ∷ [])))

      small : (k : ℕ) → k < 4 → get_or (set x.lens (place w) n) k 0 ≤ lim.place
      small k h = by (eqb k (place w)) refl
        where
          by : (t : Bool) → eqb k (place w) ≡ t → get_or (set x.lens (place w) n) k 0 ≤ lim.place
          by true t = rw (eqb-true k (place w) t, get_or-set_same x.lens (place w) n 0 (omega (arith, a.lengths.four))) limit
          by false t = rw (get_or-set_other x.lens (place w) k n 0 (eqb-false k (place w) t)) (a.lengths.small k h)

      ring : (j : ℕ) → j < length (B.unread ++ (p ∷ [])) → Dec (j < length B.unread)
          → Lies lim i (paste storage (place_start lim.place i w) b n) (set x.lens (place w) n) (length B.got + 1 + j)
          (get_or (B.unread ++ (p ∷ [])) j [])
      ring j h (yes l) =
          let d : place (length B.got + 1 + j) ≢ place (suc (r_of B)) = places_differ (length B.got) (length B.unread) j l (omega (arith, nx.room)) in
          rw (get_or-append B.unread (p ∷ []) [] j l)
          (lies_kept lim slots i w storage b n slot long limit enough (length B.got + 1 + j) (get_or B.unread j []) x.lens
          (λ m. d (m ∙ place_counts q ∙ ap place nx.next)) (unread_bound a j l) (a.ring j l))
      ring j h (no l) =
          let last : j ≡ length B.unread = omega (arith, length-append B.unread (p ∷ [])) in
          let here : get_or (B.unread ++ (p ∷ [])) j [] ≡ p = rw last (get_or-append_seam B.unread p [] []) in
          rw here
          (lies_place (length B.got + 1 + j) w (ap place (omega (arith, nx.next)) ∙ sym (place_counts q))
          (lies_stored lim slots i w storage b n slot long limit enough p x.lens a.lengths.four e f))

  -- DATA in ESTABLISHED, as its bytes come
  stored_taken : Stands lim i storage x sid est B → (q v : ℕ) (p : Bytes) {slots : ℕ}
      → Lent lim slots i (header_for sid (dat q v p)) (packet_for sid (dat q v p)) storage → Next B q
      → Makes lim i storage x sid (dat q v p) Established (plain est (stored B v p))
  stored_taken a q v p {slots} l nx =
      let h : Header = header_for sid (dat q v p) in
      let b : List ℕ = drop header_length (packet_for sid (dat q v p)) in
      let front : b ≡ p = drop_at (header_bytes h) p header_length (header_length_lem h) in
      let n : header_length + length p - header_length ≡ length p = omega arith in
      stands refl (stored_stands a q v p nx slots l.slot l.long b (header_length + length p - header_length) n l.payload (omega (arith, ap length front))
      (ap (λ (m : ℕ). list.take m b) n ∙ ap (list.take (length p)) front ∙ take-length p))

  -- a packet that the half takes makes of the record what it makes of the half
  pub take_after : (s : St) (pk : Packet) {slots : ℕ} → Stands lim i storage x sid s B → Ranges B → (take s pk B).ans ≡ 0
      → Lent lim slots i (header_for sid pk) (packet_for sid pk) storage
      → After lim i (kept lim (cell_of x.state (kind_of pk)) i (header_for sid pk) (packet_for sid pk) storage)
      (taken_on (kind_of pk) (header_for sid pk) x) sid (take s pk B).st (take s pk B).body
  take_after s pk {slots} a b z l = subst (λ (t : State). Makes lim i storage x sid pk t (take s pk B)) (sym a.state) (by s pk a z l)
    where
      by : (s : St) (pk : Packet) → Stands lim i storage x sid s B → (take s pk B).ans ≡ 0
          → Lent lim slots i (header_for sid pk) (packet_for sid pk) storage → Makes lim i storage x sid pk (state_of s) (take s pk B)
      by est (dat q v p) a z l =
          after_checks (Makes lim i storage x sid (dat q v p) Established) (win_ok B v) (next_ok B q) B (plain est (stored B v p)) z
          (stored_taken a q v p l (next_is B q b (passed (win_ok B v) (next_ok B q) B (plain est (stored B v p)) z).1))
      by est (ack q v) a z l =
          after_checks (Makes lim i storage x sid (ack q v) Established) (win_ok B v) (seq_ok B q) B (plain est (raised B v)) z (stands refl (raised_stands a v))
      by est (fin q v) a z l =
          after_checks (Makes lim i storage x sid (fin q v) Established) (win_ok B v) (seq_ok B q) B (plain fr (raised B v)) z
          (stands refl (turned_stands fr (raised_stands a v)))
      by fs (dat q v p) a z l = after_checks (Makes lim i storage x sid (dat q v p) FinSent) (win_ok B v) (seq_ok B q) B (plain fs B) z (stands refl a)
      by fs (ack q v) a z l = after_checks (Makes lim i storage x sid (ack q v) FinSent) (win_ok B v) (seq_ok B q) B (plain fs B) z (stands refl a)
      by fs (fin q v) a z l = after_checks (Makes lim i storage x sid (fin q v) FinSent) (win_ok B v) (seq_ok B q) B (plain gone B) z (freed refl refl)
      by fr pk a z l = absurd (omega arith)
      by gone pk a z l = absurd (omega arith)

-- the bytes of a packet are lent whole, where its payload is within the limit
pub packet_lent : {lim : Limits} {slots i : ℕ} {storage : List ℕ} (sid : ℕ) (pk : Packet) → i < slots → storage_length lim.place slots ≤ length storage
    → length (payload_of pk) ≤ lim.place → Lent lim slots i (header_for sid pk) (packet_for sid pk) storage
packet_lent sid pk slot long limit = record { slot = slot; long = long; payload = omega arith; whole = omega (arith, packet_size sid pk) }
