-- What a slot that holds a session says of its lane, at a mirrored scene: a read in FIN RECEIVED with nothing unread is told 11; and where
-- both halves are ESTABLISHED, nothing is on its way and the other side has read all, the window is 3 or 4, and a send is accepted.
use Prim.Native.Nat.{ℕ, ◌+◌, ◌≤◌}
use native.Mathlib.Omega.{arith}
use mathlib.Core.Path.{◌≡◌, refl, sym, ap, ◌∙◌, subst}
use mathlib.Core.Bool.{true, false}
use mathlib.Core.List.{List, [], ◌∷◌}
use lib.ListN.{length}
use lib.Dec.{T}
use borrow.Author.Tests.{le-ltb}
use Rattle.wire.specs.Packet.{header_length}
use Rattle.session.specs.declared.record.State.TheVariants.{Established}
use Rattle.session.specs.Counter.{minus}
use Rattle.session.specs.Record.{window, fin_sent, in_use, unread}
use Rattle.table.specs.Limits.{Limits}
use Rattle.pair.specs.Side.{Side, other}
use Rattle.pair.proofs.Lane.Half.{St, est, fr, Out}
use Rattle.pair.proofs.Lane.Lane.{get, st_of, half, toward}
use Rattle.pair.proofs.Lane.Inv.{closes}
use Rattle.pair.proofs.Lane.Story.{window_opens, window_sends}
use Rattle.pair.proofs.Lane.Told.{told_eleven, told_at}
use Rattle.pair.proofs.Lane.World.{pick, World}
use Rattle.pair.specs.Step.{Send, Read, Reply, reply_to}
use Rattle.pair.specs.History.{Scene}
use Rattle.pair.specs.Claims.{slot_at, Holds}
use Rattle.pair.proofs.Record.Stands.{state_of, opened_window, unread_counts, state_one}
use Rattle.pair.proofs.Mirror.Scene.{Filled, Mirror}
use Rattle.pair.proofs.Mirror.Facts.{ranges_of}
use Rattle.pair.proofs.Mirror.Channels.{no_items}
use Rattle.pair.proofs.Steps.Performs.{send_room, read_room}
use Rattle.pair.proofs.Steps.Sending.{acted_sending}
use Rattle.pair.proofs.Steps.Reading.{acted_reading}

pub none_left : {A : Type 0} (l : List A) → length l ≡ 0 → l ≡ []
none_left [] e = refl
none_left (a ∷ l) e = absurd (omega arith)

module _ {slots : ℕ} {lim : Limits} {x : Scene} {W : World} (m : Mirror slots lim x W) where
  module _ (k : Side) (i n : ℕ) (h : Holds x k i n) where
    -- the slot stands for its lane
    pub held : Filled lim W k (x.world k) i n
    held = subst (Filled lim W k (x.world k) i) h.owner ((m.at k).filled i (omega (arith, h.slot, (m.at k).many)) h.used)

    pub held_state : (s : St) → (slot_at x k i).state ≡ state_of s → st_of k (W.lanes n) ≡ s
    held_state s e = state_one (st_of k (W.lanes n)) s (sym held.stands.state ∙ e)

    -- nothing is unread
    pub held_read : (s : St) → st_of k (W.lanes n) ≡ s → fin_sent (state_of s) ≡ false → in_use (state_of s) ≡ true → unread (slot_at x k i) ≡ 0
        → (half k (W.lanes n)).unread ≡ []
    held_read s e f u z =
        none_left (half k (W.lanes n)).unread
        (sym (unread_counts held.stands (ranges_of m k n) (ap (λ (t : St). fin_sent (state_of t)) e ∙ f) (ap (λ (t : St). in_use (state_of t)) e ∙ u)) ∙ z)

    pub read_told : st_of k (W.lanes n) ≡ fr → (half k (W.lanes n)).unread ≡ [] → (room ack lent : ℕ)
        → (reply_to lim (record { side = k; call = Read (slot_at x k i).sid room ack lent }) x.world).number ≡ 11
    read_told e u room ack lent =
        ap (λ (r : Reply). r.number) (acted_reading m (record { listed = held.listed; name = sym held.stands.sid }) room ack lent).reply
        ∙ told_eleven (W.lanes n) k (read_room slots lim room ack lent (length (x.world k).storage)) e u

    -- a read that answers 11 tells that the other half has closed
    pub read_eleven : (room ack lent : ℕ) → (reply_to lim (record { side = k; call = Read (slot_at x k i).sid room ack lent }) x.world).number ≡ 11
        → T (closes (st_of (other k) (W.lanes n)))
    read_eleven room ack lent e =
        let r = (acted_reading m (record { listed = held.listed; name = sym held.stands.sid }) room ack lent).reply in
        (told_at (W.lanes n) (m.inv.good n) k (get (read_room slots lim room ack lent (length (x.world k).storage))) tt
        (sym (ap (λ (r : Reply). r.number) r) ∙ e)).closed

  -- both halves ESTABLISHED, nothing on its way, all read at the other side
  module _ (n : ℕ) (i : Side → ℕ) (h : (k : Side) → Holds x k (i k) n) (e : (k : Side) → (slot_at x k (i k)).state ≡ Established)
      (c : (k : Side) → (x.world k).coming ≡ []) (k : Side) (z : unread (slot_at x (other k) (i (other k))) ≡ 0) where
    both : (k : Side) → st_of k (W.lanes n) ≡ est
    both k = held_state k (i k) n (h k) est (e k)

    nothing : (k : Side) → toward k (W.lanes n) ≡ []
    nothing k = sym (m.inv.queue k n) ∙ ap (pick n) (no_items m k (c k))

    all_read : (half (other k) (W.lanes n)).unread ≡ []
    all_read = held_read (other k) (i (other k)) n (h (other k)) est (both (other k)) refl refl z

    pub window_open : (3 ≤ minus (slot_at x k (i k)).h (slot_at x k (i k)).s) × (minus (slot_at x k (i k)).h (slot_at x k (i k)).s ≤ window)
    window_open = opened_window (held k (i k) n (h k)).stands (ranges_of m k n) (window_opens (W.lanes n) (m.inv.good n) both nothing k all_read)

    pub send_accepted : (payload : List ℕ) (room : ℕ) → length payload ≤ lim.place → header_length + length payload ≤ room
        → (reply_to lim (record { side = k; call = Send (slot_at x k (i k)).sid payload room }) x.world).number ≡ 0
    send_accepted payload room f g =
        let a = held k (i k) n (h k) in
        ap (λ (r : Reply). r.number) (acted_sending m (record { listed = a.listed; name = sym a.stands.sid }) payload room).reply
        ∙ ap (λ (o : Out). o.ans) (window_sends (W.lanes n) (m.inv.good n) both nothing k all_read payload (send_room lim payload room)
        (rw (le-ltb lim.place (length payload) f) tt) (rw (le-ltb room (header_length + length payload) g) tt))
