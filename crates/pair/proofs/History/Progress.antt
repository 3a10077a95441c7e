-- A call that may go on does, one step at a time: with room and storage enough a take of what is on its way, a read of what is unread, a close, an
-- open and a send answer 0, and the send's packet has its payload.
use Prim.Native.Nat.{ℕ, suc, ◌+◌, ◌≤◌}
use native.Mathlib.Omega.{arith}
use mathlib.Core.Path.{◌≡◌, refl, sym, ap, ◌∙◌}
use mathlib.Core.Logic.{◌≢◌}
use mathlib.Core.Bool.{Bool, true, false, ◌&&◌}
use mathlib.Core.List.{List, [], ◌∷◌, map}
use lib.ListN.{length, length-append, get_or}
use lib.Dec.{ltb}
use borrow.Author.Tests.{le-ltb, ne_eqb}
use Rattle.cases.proofs.Tests.{never}
use Rattle.wire.specs.Packet.{header_length}
use Rattle.session.specs.declared.record.State.TheVariants.{Established}
use Rattle.session.specs.Record.{established, fin_sent, in_use, unread}
use Rattle.session.specs.Notice as notice
use Rattle.session.proofs.Wrap.{same_counts}
use Rattle.table.specs.Slots.{full}
use Rattle.table.specs.Limits.{Limits}
use Rattle.pair.specs.Side.{Side, client, server}
use Rattle.pair.proofs.Lane.Half.{Packet, dat, Bytes, St, est, fs, fr, gone, Body, Out, Room, s_of, g_of, shut, cramped, later, due, goes, send}
use Rattle.pair.proofs.Lane.Half.{read, close}
use Rattle.pair.proofs.Lane.Outcomes.{one_all}
use Rattle.pair.proofs.Lane.Lane.{st_of, half}
use Rattle.pair.proofs.Lane.World.{Item, syn, pkt, World}
use Rattle.pair.proofs.Lane.Heads.{no_syn_lem, packet_toward}
use Rattle.pair.specs.Step.{Take, Open, Send, Read, Close, Reply, reply_to}
use Rattle.pair.specs.Claims.{slot_at, Holds, Enough}
use Rattle.pair.specs.Placed.{data_of}
use Rattle.pair.specs.Whose.{Marked}
use Rattle.pair.specs.History.{Scene}
use Rattle.pair.proofs.Mirror.Scene.{mark_of, Mirror}
use Rattle.pair.proofs.Mirror.Channels.{bytes_of, front_bytes}
use Rattle.pair.proofs.Record.Stands.{state_of, s_is, h_is, unread_counts, unread_bound}
use Rattle.pair.proofs.Record.Calls.{due_is}
use Rattle.pair.proofs.Mirror.Facts.{too_short, ranges_of, room_full, short_is}
use Rattle.pair.proofs.Steps.Performs.{Given, opening, greeting, taking, head_reply, send_room, read_room, close_room}
use Rattle.pair.proofs.Steps.Classify.{performs_acts}
use Rattle.pair.proofs.Steps.Sending.{acted_sending}
use Rattle.pair.proofs.Steps.Reading.{acted_reading}
use Rattle.pair.proofs.Steps.Closing.{acted_closing}
use Rattle.pair.proofs.Bytes.Encoded.{emitted}
use Rattle.pair.proofs.History.Holding.{held, held_state}
use Rattle.pair.proofs.History.Placed.{packet_data}

module _ {slots : ℕ} {lim : Limits} {x : Scene} {W : World} (m : Mirror slots lim x W) where
  -- what is lent of the storage is long enough, as a lane sees it
  pub lent_long : (k : Side) (lent : ℕ) → Enough lim x k lent → too_short slots lim lent (length (x.world k).storage) ≡ false
  lent_long k lent e = sym (short_is m k lent) ∙ le-ltb _ _ e

  -- all that is on its way is given, and so the packet at the head
  pub given_whole : (k : Side) (given lent : ℕ) {i : Item} {l : List Item} → W.chan k ≡ i ∷ l → length (x.world k).coming ≤ given → Enough lim x k lent
      → Given slots lim (x.world k) (mark_of W.sid i).bytes given lent
  given_whole k given lent {i} {l} e all enough = record {
    whole = omega (arith, ap length (front_bytes (m.at k) e), length-append (mark_of W.sid i).bytes (bytes_of W l));
    long = lent_long k lent enough;
  }

  pub take_goes : (k : Side) (given lent : ℕ) (p : Marked) (ps : List Marked) → (x.book.notes k).coming ≡ p ∷ ps → length p.bytes ≤ given
      → Enough lim x k lent → (reply_to lim (record { side = k; call = Take given lent }) x.world).number ≡ 0
  take_goes k given lent p ps e some enough = by k (W.chan k) refl e enough
    where
      whole : (k : Side) {i : Item} {l : List Item} → W.chan k ≡ i ∷ l → (x.book.notes k).coming ≡ p ∷ ps → Enough lim x k lent
          → Given slots lim (x.world k) (mark_of W.sid i).bytes given lent
      whole k {i} {l} f e enough =
          let q : p ≡ mark_of W.sid i = ap (λ (l : List Marked). get_or l 0 p) (sym e ∙ (m.at k).marks ∙ ap (map (mark_of W.sid)) f) in
          record { whole = omega (arith, ap (λ (a : Marked). length a.bytes) q); long = lent_long k lent enough }

      by : (k : Side) (l : List Item) → W.chan k ≡ l → (x.book.notes k).coming ≡ p ∷ ps → Enough lim x k lent
          → (reply_to lim (record { side = k; call = Take given lent }) x.world).number ≡ 0
      by k [] f e enough = absurd (omega (arith, ap length (sym e ∙ (m.at k).marks ∙ ap (map (mark_of W.sid)) f)))
      by client (syn n ∷ l) f e enough = absurd (no_syn_lem m.inv n l f)
      by server (syn n ∷ l) f e enough = ap (λ (r : Reply). r.number) (performs_acts m (greeting f (whole server f e enough))).reply
      by k (pkt n q ∷ l) f e enough =
          ap (λ (r : Reply). r.number) (performs_acts m (taking f (whole k f e enough))).reply
          ∙ ap (λ (t : List Packet). (head_reply (W.sid n) t).number) (packet_toward m.inv k n q l f)

-- ---- halves

-- a read with room enough for the payload, and for an ACK where one is due, hands over the oldest, in the state that it was in
pub record Handed (s : St) (u : List Bytes) (o : Out) : Type 0 where
  pub zero : o.ans ≡ 0
  pub state : o.st ≡ s
  pub left : o.body.unread ≡ u

pub read_hands : (s : St) (R : Room) (B : Body) (p : Bytes) (u : List Bytes) → fin_sent (state_of s) ≡ false → in_use (state_of s) ≡ true → B.unread ≡ p ∷ u
    → cramped R p ≡ false → (established (state_of s) && due (later B p u)) && ltb R.buf 16 ≡ false → Handed s u (read R s B)
read_hands est R B p u f v e c b =
    rw (e, c, b)
    (one_all (Handed est u) B (later B p u) p (λ t. record { zero = refl; state = refl; left = refl }) (λ t. record { zero = refl; state = refl; left = refl }))
read_hands fr R B p u f v e c b = rw (e, c) (record { zero = refl; state = refl; left = refl })
read_hands fs R B p u f v e c b = never (sym f)
read_hands gone R B p u f v e c b = never v

close_zero : (s : St) (R : Room) (B : Body) → fin_sent (state_of s) ≡ false → in_use (state_of s) ≡ true → ltb R.buf 16 ≡ false → (close R s B).ans ≡ 0
close_zero est R B f v b = rw b
close_zero fr R B f v b = rw b
close_zero fs R B f v b = never (sym f)
close_zero gone R B f v b = never v

module _ {slots : ℕ} {lim : Limits} {x : Scene} {W : World} (m : Mirror slots lim x W) where
  pub open_goes : (room : ℕ) → header_length ≤ room → full (x.world client).end.slots ≡ false
      → (reply_to lim (record { side = client; call = Open room }) x.world).number ≡ 0
  open_goes room r f = ap (λ (r : Reply). r.number) (performs_acts m (opening {room = room} r (room_full m client f))).reply

  module _ (k : Side) (i n : ℕ) (h : Holds x k i n) (f : fin_sent (slot_at x k i).state ≡ false) where
    open_half : fin_sent (state_of (st_of k (W.lanes n))) ≡ false
    open_half = ap fin_sent (sym (held m k i n h).stands.state) ∙ f

    used_half : in_use (state_of (st_of k (W.lanes n))) ≡ true
    used_half = ap in_use (sym (held m k i n h).stands.state) ∙ h.used

    pub close_goes : (room : ℕ) → header_length ≤ room → (reply_to lim (record { side = k; call = Close (slot_at x k i).sid room }) x.world).number ≡ 0
    close_goes room r =
        let a = held m k i n h in
        ap (λ (r : Reply). r.number) (acted_closing m (record { listed = a.listed; name = sym a.stands.sid }) room).reply
        ∙ close_zero (st_of k (W.lanes n)) (close_room room) (half k (W.lanes n)) open_half used_half (le-ltb room 16 r)

    -- the payload that is read is no longer than a place, so that a room of that size is enough
    pub read_fits : (room ack lent : ℕ) → lim.place ≤ room → Enough lim x k lent → (p : Bytes) (q : List Bytes) → (half k (W.lanes n)).unread ≡ p ∷ q
        → cramped (read_room slots lim room ack lent (length (x.world k).storage)) p ≡ false
    read_fits room ack lent r s p q e =
        let first : get_or (half k (W.lanes n)).unread 0 [] ≡ p = ap (λ (l : List Bytes). get_or l 0 []) e in
        let small = unread_bound (held m k i n h).stands 0 (omega (arith, ap length e)) in
        rw (le-ltb room (length p) (omega (arith, small, ap length first)), lent_long m k lent s)

    pub read_goes : unread (slot_at x k i) ≢ 0 → (room ack lent : ℕ) → lim.place ≤ room → (notice.due (slot_at x k i) ≡ true → header_length ≤ ack)
        → Enough lim x k lent
        → (reply_to lim (record { side = k; call = Read (slot_at x k i).sid room ack lent }) x.world).number ≡ 0
    read_goes u room ack lent r a s =
        let b = held m k i n h in
        ap (λ (r : Reply). r.number) (acted_reading m (record { listed = b.listed; name = sym b.stands.sid }) room ack lent).reply
        ∙ by (half k (W.lanes n)).unread refl
      where
        -- where an ACK is due there is room for it
        heard : (t : Bool) → notice.due (slot_at x k i) ≡ t → t && ltb ack 16 ≡ false
        heard true d = le-ltb ack 16 (a d)
        heard false d = refl

        by : (q : List Bytes) → (half k (W.lanes n)).unread ≡ q
            → (read (read_room slots lim room ack lent (length (x.world k).storage)) (st_of k (W.lanes n)) (half k (W.lanes n))).ans ≡ 0
        by [] e = absurd (u (unread_counts (held m k i n h).stands (ranges_of m k n) open_half used_half ∙ ap length e))
        by (p ∷ q) e =
            (read_hands (st_of k (W.lanes n)) _ (half k (W.lanes n)) p q open_half used_half e (read_fits room ack lent r s p q e)
            (ap (λ (t : Bool). t && ltb ack 16) (sym (due_is (held m k i n h).stands p q e (ranges_of m k n))) ∙ heard _ refl)).zero

  -- in ESTABLISHED, the window open
  pub send_goes : (k : Side) (i n : ℕ) → Holds x k i n → (slot_at x k i).state ≡ Established → (slot_at x k i).s ≢ (slot_at x k i).h → (payload : List ℕ) (room : ℕ)
      → length payload ≤ lim.place → header_length + length payload ≤ room
      → ((reply_to lim (record { side = k; call = Send (slot_at x k i).sid payload room }) x.world).number ≡ 0)
      × (data_of (reply_to lim (record { side = k; call = Send (slot_at x k i).sid payload room }) x.world).packet ≡ payload ∷ [])
  send_goes k i n h e d payload room f g =
      let a = held m k i n h in
      let B = half k (W.lanes n) in
      let b = ranges_of m k n in
      let unshut : shut B ≡ false = sym (same_counts (s_of B) B.high b.fit b.high)
      ∙ ne_eqb _ _ (λ q. d (s_is a.stands ∙ q ∙ sym (h_is a.stands))) in
      let out : send payload (send_room lim payload room) (st_of k (W.lanes n)) B ≡ goes B payload
      = ap (λ (s : St). send payload (send_room lim payload room) s B) (held_state m k i n h est e)
      ∙ rw (le-ltb lim.place (length payload) f, unshut, le-ltb room (header_length + length payload) g) in
      let r = (acted_sending m (record { listed = a.listed; name = sym a.stands.sid }) payload room).reply in (
        ap (λ (r : Reply). r.number) r ∙ ap (λ (o : Out). o.ans) out,
        ap (λ (r : Reply). data_of r.packet) r ∙ ap (λ (o : Out). data_of (emitted (W.sid n) o.emit)) out
            ∙ packet_data (W.sid n) (dat (suc (s_of B)) (g_of B) payload),
      )
