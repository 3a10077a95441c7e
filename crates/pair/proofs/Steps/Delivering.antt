-- A take of a lane's packet that stands whole at the head of a channel is the act `turn k n deliver`: the slot of that lane takes it, and
-- no other slot and no other slot's places change.
use Prim.Native.Nat.{ℕ, ◌+◌, ◌≤◌, min}
use native.Mathlib.Omega.{arith}
use mathlib.Core.Path.{◌≡◌, refl, sym, ap, ◌∙◌}
use mathlib.Core.Bool.{false}
use mathlib.Core.List.{List, [], ◌∷◌, ◌++◌, flat_map}
use mathlib.Core.Option.{none}
use lib.ListN.{length, take, drop, take-append-drop, length-take, length-append}
use lib.Dec.{T}
use borrow.Author.Tests.{ltb-false}
use Rattle.cases.specs.Cases.{first}
use Rattle.wire.specs.Packet.{header_length}
use Rattle.session.specs.declared.record.Session.{Session}
use Rattle.effect.specs.Taken.{cell_of}
use Rattle.table.specs.declared.end.End.{End}
use Rattle.table.specs.Storage.{storage_length}
use Rattle.table.specs.End.{put_of}
use Rattle.table.specs.Limits.{Limits}
use Rattle.calling.specs.Calling.{short_storage}
use Rattle.take.specs.Take.{taken_on, take_done, take_of, kept, take_storage}
use Rattle.pair.specs.Side.{Side}
use Rattle.pair.proofs.Lane.Half.{Packet, Out}
use Rattle.pair.proofs.Lane.Half as half'
use Rattle.pair.proofs.Lane.Lane.{Lane, deliver, deliver_to, half, st_of, moved}
use Rattle.pair.proofs.Lane.Story.{head_taken}
use Rattle.pair.proofs.Lane.Tables.{has}
use Rattle.pair.proofs.Lane.World.{Item, pkt, pick, World}
use Rattle.pair.proofs.Lane.Acts.{turn}
use Rattle.pair.proofs.Lane.Heads.{packet_toward, packet_zero, packet_held}
use Rattle.pair.specs.Step.{Take, Step, did, acted}
use Rattle.pair.specs.Whose.{Marked, left, owners}
use Rattle.pair.specs.History.{Scene, whose_in}
use Rattle.pair.proofs.Bytes.Encoded.{kind_of, payload_of, header_for, packet_for, packet_size, not_syn}
use Rattle.pair.proofs.Bytes.TakeAt.{held_cases, take_on, taken_answer_lem, taken_storage_lem}
use Rattle.pair.proofs.Record.Stands.{Stands}
use Rattle.pair.proofs.Record.Places.{Lent, kept_length, kept_others, kept_lent}
use Rattle.pair.proofs.Record.Does.{After}
use Rattle.pair.proofs.Record.Taking.{take_number_lem, take_after, packet_lent}
use Rattle.pair.proofs.Mirror.Scene.{slot, SlotFor, Mirror}
use Rattle.pair.proofs.Mirror.Facts.{made_at, lane_at, lane_stands, ranges_of, short_is}
use Rattle.pair.proofs.Mirror.Channels.{bytes_of, front_sender, front_rest, front_bytes, front_leaves, packet_low, packet_small}
use Rattle.pair.proofs.Mirror.OwnStep.{OwnStep}
use Rattle.pair.proofs.Steps.Performs.{Given, Acted}
use Rattle.pair.proofs.Steps.OwnCall.{acted_own}

module _ {slots : ℕ} {lim : Limits} {x : Scene} {W : World} (m : Mirror slots lim x W) {k : Side} {n : ℕ} {p : Packet} {l : List Item}
    (head : W.chan k ≡ pkt n p ∷ l) (given lent : ℕ) (g : Given slots lim (x.world k) (packet_for (W.sid n) p) given lent) where
  abbrev e : End
  e = (x.world k).end

  abbrev storage : List ℕ
  storage = (x.world k).storage

  abbrev sid : ℕ
  sid = W.sid n

  -- ---- the half takes it

  abbrev L : Lane
  L = W.lanes n

  out_is : (moved k deliver L).out ≡ half'.take (st_of k L) p (half k L)
  out_is = ap (λ (q : List Packet). (deliver_to q (st_of k L) (half k L)).out) (packet_toward m.inv k n p l head)

  zero' : (half'.take (st_of k L) p (half k L)).ans ≡ 0
  zero' = ap (λ (o : Out). o.ans) (sym out_is) ∙ packet_zero m.inv k n p l head

  -- ---- its slot

  pub taking_listed : T (has n (W.table k))
  taking_listed = packet_held m.inv k n p l head

  abbrev pub taking_slot : SlotFor slots (x.world k) (x.book.notes k) n
  taking_slot = (m.at k).found n taking_listed

  abbrev i : ℕ
  i = taking_slot.index

  abbrev y : Session
  y = slot (x.world k) i

  stands : Stands lim i storage y sid (st_of k L) (half k L)
  stands = lane_stands m k n taking_slot

  clear : first (take_on lim (kind_of p) y (header_for sid p)) ≡ 0
  clear = sym (held_cases lim (kind_of p) y (header_for sid p)) ∙ take_number_lem m.sizes.wide (st_of k L) p stands (ranges_of m k n) zero'

  -- ---- what take answers

  short : short_storage lim e (length (take lent storage)) ≡ false
  short = short_is m k lent ∙ g.long

  pub taking_answer : take_of lim (x.world k).end (take given (x.world k).coming) (length (take lent (x.world k).storage))
      ≡ take_done (header_for (W.sid n) p)
      (put_of taking_slot.index (taken_on (kind_of p) (header_for (W.sid n) p) (slot (x.world k) taking_slot.index)) (x.world k).end)
  taking_answer =
      ap (λ (b : List ℕ). take_of lim e (take given b) (length (take lent storage))) (front_bytes (m.at k) head)
      ∙ taken_answer_lem lim m.sizes.fits e (made_at m k) (m.at k).up sid (packet_low m head) p (packet_small m head) (bytes_of W l) given g.whole i
      (lane_at m k n taking_listed taking_slot) clear (length (take lent storage)) short

  enough : storage_length lim.place slots ≤ length (take lent storage)
  enough = rw length-take (ltb-false (min lent (length storage)) (storage_length lim.place slots) g.long)

  lent_in : (s : List ℕ) → storage_length lim.place slots ≤ length s → Lent lim slots i (header_for sid p) (packet_for sid p) s
  lent_in s h = packet_lent sid p taking_slot.within h (packet_small m head)

  pub taking_lent : Lent lim slots taking_slot.index (header_for (W.sid n) p) (packet_for (W.sid n) p) (x.world k).storage
  taking_lent = lent_in storage (omega (arith, enough, ap length (take-append-drop lent storage), length-append (take lent storage) (drop lent storage)))

  -- the storage with the payload in its place
  abbrev pub taking_kept : List ℕ
  taking_kept = kept lim (cell_of (slot (x.world k) taking_slot.index).state (kind_of p)) taking_slot.index (header_for (W.sid n) p)
      (packet_for (W.sid n) p) (x.world k).storage

  pub taking_storage : take_storage lim (x.world k).end (take given (x.world k).coming) (take lent (x.world k).storage)
      ++ drop lent (x.world k).storage ≡ taking_kept
  taking_storage =
      let c = cell_of y.state (kind_of p) in
      ap (λ (b : List ℕ). take_storage lim e (take given b) (take lent storage) ++ drop lent storage) (front_bytes (m.at k) head)
      ∙ ap (λ (s : List ℕ). s ++ drop lent storage)
      (taken_storage_lem lim m.sizes.fits e (made_at m k) (m.at k).up sid (packet_low m head) p (packet_small m head) (bytes_of W l) given g.whole i
      (lane_at m k n taking_listed taking_slot) clear (take lent storage) short)
      ∙ kept_lent c (take lent storage) (drop lent storage) (lent_in (take lent storage) enough)
      ∙ ap (kept lim c i (header_for sid p) (packet_for sid p)) (take-append-drop lent storage)

  -- ---- the step

  become : After lim i taking_kept (taken_on (kind_of p) (header_for sid p) y) sid (moved k deliver L).out.st (moved k deliver L).out.body
  become = rw out_is (take_after (st_of k L) p stands (ranges_of m k n) zero' taking_lent)

  quiet : (moved k deliver L).out.emit ≡ none
  quiet = (head_taken L (m.inv.good n) k p (pick n l) (packet_toward m.inv k n p l head)).quiet

  abbrev step : Step
  step = record { side = k; call = Take given lent }

  own_step : OwnStep lim x W k n deliver i (acted (did lim (Take given lent) (x.world k)) (x.world k)) (record {
    coming = left (Take given lent) (did lim (Take given lent) (x.world k)).reply (x.book.notes k).coming;
    owner = owners (Take given lent) (x.world k) (whose_in lim x step) (did lim (Take given lent) (x.world k)).reply
        (x.book.notes k).owner;
  }) (whose_in lim x step) []
  own_step = record {
    session = taken_on (kind_of p) (header_for sid p) y;
    end = rw taking_answer;
    others = λ j d. rw taking_storage (kept_others (cell_of y.state (kind_of p)) taking_lent j d);
    become = rw taking_storage become;
    owner = rw (taking_answer, not_syn p);
    marks = rw taking_answer (front_rest (m.at k) head ∙ rw head);
    bytes = rw taking_answer (front_leaves (m.at k) head (header_length + length (payload_of p)) (packet_size sid p)
        ∙ ap (flat_map (λ (a : Marked). a.bytes)) (sym (front_rest (m.at k) head)));
    whose = rw taking_answer (front_sender (m.at k) head);
    packet = rw quiet;
    small = rw quiet tt;
  }

  pub acted_taking : Acted slots lim x W (record { side = k; call = Take given lent }) (turn k n deliver)
  acted_taking =
      acted_own m taking_listed (record { packet = p; tail = l; eq = head }) taking_slot (Take given lent) own_step refl
      (rw (taking_answer, packet_toward m.inv k n p l head, packet_size sid p))
      (ap length taking_storage ∙ kept_length (cell_of y.state (kind_of p)) taking_lent)
