-- A take of the SYN at the head of the server's channel is the act `greet`: the lane that the client opened comes into the server's table.
use Prim.Native.Nat.{ℕ, ◌^◌, ◌<◌}
use native.Mathlib.Omega.{arith}
use mathlib.Core.Path.{◌≡◌, refl, ap, ◌∙◌}
use mathlib.Core.Bool.{false}
use mathlib.Core.List.{List, ◌∷◌, ◌++◌, append-nil}
use mathlib.Core.Option.{some}
use lib.ListN.{length, take, drop, take-append-drop}
use Rattle.wire.specs.Packet.{header_length}
use Rattle.session.specs.Record.{fresh_of}
use Rattle.table.specs.declared.end.End.{End}
use Rattle.table.specs.Slots.{holds, lowest_free, full}
use Rattle.table.specs.End.{put_of}
use Rattle.table.specs.Limits.{Limits}
use Rattle.calling.specs.Calling.{short_storage}
use Rattle.open.specs.Open.{syn_header}
use Rattle.take.specs.Take.{take_done, take_of, take_storage}
use Rattle.pair.specs.Side.{Side, client, server}
use Rattle.pair.proofs.Lane.Tables.{has, false_T}
use Rattle.pair.proofs.Lane.World.{Item, syn, World, welcomed}
use Rattle.pair.proofs.Lane.Acts.{greet}
use Rattle.pair.proofs.Lane.Heads.{syn_born, syn_new, syn_room}
use Rattle.pair.proofs.Lane.Sides.{Kept}
use Rattle.pair.proofs.Lane.Begin.{welcomed_inv}
use Rattle.pair.specs.Step.{Take, Step}
use Rattle.pair.specs.Whose.{given}
use Rattle.pair.specs.History.{Scene, entry}
use Rattle.pair.proofs.Bytes.Encoded.{syn_for, syn_size}
use Rattle.pair.proofs.Bytes.TakeAt.{begun_answer, begun_storage}
use Rattle.pair.proofs.Mirror.Scene.{MirrorAt, Mirror}
use Rattle.pair.proofs.Mirror.Facts.{made_at, none_listed, full_room, short_is}
use Rattle.pair.proofs.Mirror.Channels.{Channel, marks_of, bytes_of, front_sender, front_rest, front_bytes, front_leaves}
use Rattle.pair.proofs.Mirror.NewLane.{stays_at, new_at}
use Rattle.pair.proofs.Steps.Performs.{Given, Lengths, Acted}

module _ {slots : ℕ} {lim : Limits} {x : Scene} {W : World} (m : Mirror slots lim x W) (given' lent : ℕ) {l : List Item}
    (head : W.chan server ≡ syn W.known ∷ l) (g : Given slots lim (x.world server) (syn_for (W.sid W.known)) given' lent) where
  abbrev e : End
  e = (x.world server).end

  abbrev sid : ℕ
  sid = W.sid W.known

  abbrev storage : List ℕ
  storage = (x.world server).storage

  low : sid < 2 ^ 16
  low = m.low W.known (syn_born m.inv W.known l head)

  new : holds sid e.slots ≡ false
  new = none_listed m server sid (syn_new m.inv W.known l head)

  pub greeting_room : full (x.world server).end.slots ≡ false
  greeting_room = full_room m server (syn_room m.inv W.known l head)

  long : short_storage lim e (length (take lent storage)) ≡ false
  long = short_is m server lent ∙ g.long

  pub greeting_answer : take_of lim (x.world server).end (take given' (x.world server).coming) (length (take lent (x.world server).storage))
      ≡ take_done (syn_header (W.sid W.known)) (put_of (lowest_free (x.world server).end.slots) (fresh_of (W.sid W.known)) (x.world server).end)
  greeting_answer =
      ap (λ (b : List ℕ). take_of lim e (take given' b) (length (take lent storage))) (front_bytes (m.at server) head)
      ∙ begun_answer lim m.sizes.fits e (made_at m server) (m.at server).up sid low (bytes_of W l) given' g.whole m.sizes.wide
      (m.at server).role new greeting_room
      (length (take lent storage)) long

  pub greeting_storage : take_storage lim (x.world server).end (take given' (x.world server).coming) (take lent (x.world server).storage)
      ++ drop lent (x.world server).storage ≡ (x.world server).storage
  greeting_storage =
      ap (λ (b : List ℕ). take_storage lim e (take given' b) (take lent storage) ++ drop lent storage) (front_bytes (m.at server) head)
      ∙ ap (λ (s : List ℕ). s ++ drop lent storage)
      (begun_storage lim m.sizes.fits e (made_at m server) (m.at server).up sid low (bytes_of W l) given' g.whole m.sizes.wide
      (m.at server).role new greeting_room
      (take lent storage) long)
      ∙ take-append-drop lent storage

  -- ---- the lanes and the channels

  kept : (k : Side) (j : ℕ) → Kept W (welcomed W) k j
  kept k j = record { sid = refl; st = refl; body = refl }

  to_server : Channel lim (welcomed W) server (bytes_of W l) (marks_of W l)
  to_server = record { marks = rw head; bytes = refl; small = rw head (rw head at (m.at server).small) }

  at_server : MirrorAt slots lim (welcomed W) server
      (record { end = put_of (lowest_free e.slots) (fresh_of sid) e; storage = storage; coming = bytes_of W l })
      (record { coming = marks_of W l; owner = given (lowest_free e.slots) (some W.known) (x.book.notes server).owner })
  at_server =
      new_at (m.at server) (welcomed W) (λ j t. kept server j) to_server refl greeting_room
      (false_T (has W.known (W.table server)) (λ t. omega (arith, (m.inv.tables server).below W.known t))) refl
      (m.inv.unknown W.known (omega arith)).0 (m.inv.unknown W.known (omega arith)).1

  at_client : MirrorAt slots lim (welcomed W) client (x.world client) (x.book.notes client)
  at_client = stays_at (m.at client) (welcomed W) (λ j t. kept client j)
      (record { marks = (m.at client).marks; bytes = (m.at client).bytes; small = (m.at client).small }) refl

  -- ---- the step

  abbrev step : Step
  step = record { side = server; call = Take given' lent }

  abbrev scene : Scene
  scene = (entry lim x step).after

  at_side : (k : Side) → MirrorAt slots lim (welcomed W) k (scene.world k) (scene.book.notes k)
  at_side client = simp append-nil at_client
  at_side server = rw (
    greeting_answer,
    greeting_storage,
    front_leaves (m.at server) head header_length (syn_size sid),
    front_rest (m.at server) head,
    front_sender (m.at server) head,
  ) at_server

  lengths : Lengths x scene
  lengths client = refl
  lengths server = ap length greeting_storage

  pub acted_greeting : Acted slots lim x W step greet
  acted_greeting = record {
    mirror = record { sizes = m.sizes; inv = welcomed_inv m.inv W.known l head; at = at_side; opened = m.opened; low = m.low };
    whose = rw greeting_answer (front_sender (m.at server) head);
    reply = rw greeting_answer;
    lengths = lengths;
  }
