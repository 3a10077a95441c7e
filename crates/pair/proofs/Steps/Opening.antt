-- An open that is done at a client is the act `dial`: a new lane under the smallest SID that the table doesn't hold, and its SYN on its way.
use Prim.Native.Nat.{ℕ, suc, ◌^◌, ◌≤◌, ◌<◌}
use native.Mathlib.Omega.{arith}
use mathlib.Core.Path.{◌≡◌, refl, sym, ap, ap₂, ◌∙◌}
use mathlib.Core.Bool.{false}
use mathlib.Core.List.{List, [], ◌∷◌, ◌++◌, map, map-append}
use mathlib.Core.Option.{some}
use lib.ListN.{length}
use lib.Dec.{eqb}
use borrow.Author.Tests.{le-ltb}
use Rattle.cases.specs.Cases.{first}
use Rattle.cases.proofs.First.{skip, nothing, says, done_0}
use Rattle.wire.specs.Packet.{header_length}
use Rattle.session.specs.Record.{fresh_of}
use Rattle.table.specs.declared.end.End.{End}
use Rattle.table.specs.Slots.{lowest_free, full, smallest_sid}
use Rattle.table.specs.End.{put_of}
use Rattle.table.specs.Limits.{Limits}
use Rattle.table.proofs.Smallest.{smallest_new, smallest_low}
use Rattle.open.specs.Open.{is_server, open_done, open_of, open_packet}
use Rattle.pair.specs.Side.{Side, client, server}
use Rattle.pair.proofs.Lane.Lane.{begin, half, st_of}
use Rattle.pair.proofs.Lane.Tables.{has, false_T, Eq?, same, differ, eq?}
use Rattle.pair.proofs.Lane.World.{syn, World, opened}
use Rattle.pair.proofs.Lane.Acts.{dial}
use Rattle.pair.proofs.Lane.Rows.{set_num_same, set_num_other}
use Rattle.pair.proofs.Lane.Heads.{items_below, listed_born}
use Rattle.pair.proofs.Lane.Sides.{Kept}
use Rattle.pair.proofs.Lane.Begin.{opened_inv}
use Rattle.pair.specs.Step.{Open}
use Rattle.pair.specs.Whose.{Marked, given}
use Rattle.pair.specs.History.{Scene, entry}
use Rattle.pair.proofs.Bytes.Encoded.{syn_for, syn_size}
use Rattle.pair.proofs.Bytes.CallAt.{open_on, open_answer_lem, open_packet_lem}
use Rattle.pair.proofs.Mirror.Scene.{mark_of, MirrorAt, Mirror}
use Rattle.pair.proofs.Mirror.Facts.{made_at, none_held, full_room}
use Rattle.pair.proofs.Mirror.Channels.{stream_tail, marked_one, marks_same, small_append, Channel}
use Rattle.pair.proofs.Mirror.NewLane.{stays_at, new_at}
use Rattle.pair.proofs.Steps.Performs.{Lengths, Acted}

module _ {slots : ℕ} {lim : Limits} {x : Scene} {W : World} (m : Mirror slots lim x W) (room : ℕ)
    (long : header_length ≤ room) (few : length (W.table client) < slots) where
  abbrev e : End
  e = (x.world client).end

  -- its SID, and the world after it
  abbrev sid : ℕ
  sid = smallest_sid e.slots

  abbrev W' : World
  W' = opened W sid

  free' : full e.slots ≡ false
  free' = full_room m client few

  number : first (open_on e.role (full e.slots) room) ≡ 0
  number = says (skip (ap is_server (m.at client).role) (skip free' (skip (le-ltb room header_length long) nothing)))

  answer : open_of lim e room ≡ open_done sid (put_of (lowest_free e.slots) (fresh_of sid) e)
  answer = open_answer_lem lim e (made_at m client) (m.at client).up room ∙ done_0 _ _ _ number

  packet : open_packet lim e room ≡ syn_for sid
  packet = open_packet_lem lim e (made_at m client) (m.at client).up room ∙ done_0 _ _ _ number

  -- ---- the lanes and the channels

  sid_stays : (j : ℕ) → j < W.born → W.sid j ≡ W'.sid j
  sid_stays j h = sym (set_num_other W.born sid W.sid j (omega arith))

  kept : (k : Side) (j : ℕ) → j < W.born → Kept W W' k j
  kept k j h = record { sid = sym (sid_stays j h); st = refl; body = refl }

  marks : (k : Side) → (x.book.notes k).coming ≡ map (mark_of W'.sid) (W.chan k)
  marks k = (m.at k).marks ∙ marks_same W.sid W'.sid W.born sid_stays (W.chan k) (items_below m.inv k)

  -- the SYN's mark
  abbrev sent : Marked
  sent = record { session = x.book.opened; bytes = syn_for sid }

  sent_is : sent ≡ mark_of W'.sid (syn W.born)
  sent_is = ap₂ (λ (n y : ℕ). record { session = n; bytes = syn_for y }) m.opened (sym (set_num_same W.born sid W.sid))

  to_server : Channel lim W' server ((x.world server).coming ++ syn_for sid) ((x.book.notes server).coming ++ (sent ∷ []))
  to_server = record {
    marks = ap₂ (λ (l : List Marked) (y : Marked). l ++ (y ∷ [])) (marks server) sent_is
        ∙ sym (map-append (mark_of W'.sid) (W.chan server) (syn W.born ∷ []));
    bytes = ap (λ (l : List ℕ). l ++ syn_for sid) (m.at server).bytes ∙ sym (stream_tail (λ (y : Marked). y.bytes) (x.book.notes server).coming sent);
    small = small_append lim (W.chan server) (syn W.born ∷ []) (m.at server).small tt;
  }

  to_client : Channel lim W' client (x.world client).coming (x.book.notes client).coming
  to_client = record { marks = marks client; bytes = (m.at client).bytes; small = (m.at client).small }

  -- ---- the step

  fresh' : W.lanes W.born ≡ begin
  fresh' = m.inv.unborn W.born (omega arith)

  at_client : MirrorAt slots lim W' client
      (record { end = put_of (lowest_free e.slots) (fresh_of sid) e; storage = (x.world client).storage; coming = (x.world client).coming })
      (record { coming = (x.book.notes client).coming; owner = given (lowest_free e.slots) (some W.born) (x.book.notes client).owner })
  at_client =
      new_at (m.at client) W' (λ j t. kept client j (listed_born m.inv client j t)) to_client (set_num_same W.born sid W.sid) free'
      (false_T (has W.born (W.table client)) (λ t. omega (arith, listed_born m.inv client W.born t))) refl (ap (st_of client) fresh')
      (ap (half client) fresh')

  at_server : MirrorAt slots lim W' server
      (record { end = (x.world server).end; storage = (x.world server).storage; coming = (x.world server).coming ++ syn_for sid })
      (record { coming = (x.book.notes server).coming ++ (sent ∷ []); owner = (x.book.notes server).owner })
  at_server = stays_at (m.at server) W' (λ j t. kept server j (listed_born m.inv server j t)) to_server refl

  abbrev scene : Scene
  scene = (entry lim x (record { side = client; call = Open room })).after

  at_side : (k : Side) → MirrorAt slots lim W' k (scene.world k) (scene.book.notes k)
  at_side client = rw (answer, m.opened) at_client
  at_side server = rw (answer, packet, marked_one x.book.opened (syn_for sid) (omega (arith, syn_size sid))) at_server

  lengths : Lengths x scene
  lengths client = refl
  lengths server = refl

  low : (n : ℕ) → n < suc W.born → W'.sid n < 2 ^ 16
  low n h = by (eq? n W.born)
    where
      by : Eq? n W.born (eqb n W.born) → W'.sid n < 2 ^ 16
      by (same q e') = rw e' (smallest_low e.slots free' (rw (m.at client).many m.sizes.few))
      by (differ q e') = rw e' (m.low n (omega arith))

  pub acted_opening : Acted slots lim x W (record { side = client; call = Open room }) (dial sid)
  acted_opening = record {
    mirror = record {
      sizes = m.sizes;
      inv = opened_inv m.inv sid few (none_held m client sid (smallest_new e.slots));
      at = at_side;
      opened = rw answer (ap suc m.opened);
      low = low;
    };
    whose = rw answer (ap some m.opened);
    reply = rw (answer, packet);
    lengths = lengths;
  }
