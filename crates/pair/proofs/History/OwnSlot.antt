-- A packet that is taken with 0 is filed with the session that sent it: in its slot and that slot's four places, and nowhere else. A SYN goes
-- into the lowest free slot, and stores nothing. The slot stays in use, but after a FIN in FIN SENT.
use Prim.Native.Nat.{ℕ, suc, ◌*◌, ◌≤◌, ◌<◌}
use native.Mathlib.Omega.{arith}
use native.Mathlib.Nat.{mul-suc}
use mathlib.Core.Path.{◌≡◌, refl, sym, ap, ◌∙◌, subst}
use mathlib.Core.Logic.{◌≢◌, ◌⊎◌, inl, inr}
use mathlib.Core.Bool.{Bool, true, false, not, ◌&&◌}
use mathlib.Core.List.{List, [], ◌∷◌}
use mathlib.Core.Option.{some}
use lib.ListN.{length, get_or, take}
use lib.Seq.{get_or-set_same, get_or-set_other}
use lib.Dec.{T, eqb}
use borrow.Author.Tests.{eq-eqb}
use Rattle.cases.proofs.Tests.{never}
use Rattle.buffer.specs.Ranges.{Outside, below, above}
use Rattle.wire.specs.declared.header.Header.{Header}
use Rattle.wire.specs.declared.kind.Kind.TheVariants.{Syn, Fin}
use Rattle.wire.specs.Packet.{flags_value}
use Rattle.session.specs.declared.record.State.{State}
use Rattle.session.specs.declared.record.State.TheVariants.{Closed, Established, FinSent, FinReceived}
use Rattle.session.specs.declared.record.Session.{Session}
use Rattle.session.specs.Record.{free, in_use, fresh_of, fin_sent, fin_received}
use Rattle.effect.specs.Taken.{cell_of}
use Rattle.table.specs.Slots.{lowest_free}
use Rattle.table.specs.End.{put_of}
use Rattle.table.specs.Limits.{Limits}
use Rattle.table.proofs.Lowest.{lowest_unused, lowest_within}
use Rattle.take.specs.Take.{TakeAnswer}
use Rattle.open.specs.Open.{syn_header}
use Rattle.take.specs.Take.{taken_on, take_done, take_of}
use Rattle.pair.specs.Side.{Side, other, server}
use Rattle.pair.proofs.Lane.Half.{Packet, dat, ack, fin, St, est, fs, fr, gone}
use Rattle.pair.proofs.Lane.Lane.{st_of}
use Rattle.pair.proofs.Lane.Inv.{ended}
use Rattle.pair.proofs.Lane.Story.{head_in_range}
use Rattle.pair.proofs.Lane.World.{Item, syn, pkt, pick, World}
use Rattle.pair.proofs.Lane.Acts.{Act, greet}
use Rattle.pair.proofs.Lane.Heads.{syn_known, packet_toward}
use Rattle.pair.specs.World.{Party}
use Rattle.pair.specs.Step.{Take, Step, did, acted, reached}
use Rattle.pair.specs.Whose.{Notes, owners}
use Rattle.pair.specs.History.{Scene, Entry, entry, history}
use Rattle.pair.specs.Claims.{Every, IsTake, slot_at, OwnSlot}
use Rattle.pair.proofs.Bytes.Encoded.{kind_of, header_for, syn_for, not_syn}
use Rattle.pair.proofs.Record.Places.{kept_outside}
use Rattle.pair.proofs.Record.Stands.{state_of}
use Rattle.pair.proofs.Mirror.Scene.{slot, SlotFor, Mirror}
use Rattle.pair.proofs.Mirror.Facts.{lane_stands}
use Rattle.pair.proofs.Mirror.Sides.{with_own}
use Rattle.pair.proofs.Mirror.Channels.{front_sender}
use Rattle.pair.proofs.Steps.Performs.{Given, Performs, opening, greeting, taking, sending, reading, closing, Acted}
use Rattle.pair.proofs.Steps.Greeting.{greeting_room, greeting_answer, greeting_storage}
use Rattle.pair.proofs.Steps.Delivering.{taking_slot, taking_answer, taking_lent, taking_storage}
use Rattle.pair.proofs.History.Along.{Along, over, rests, acts}

-- ---- a take that puts the record y into slot i

module _ (lim : Limits) (x : Scene) (k : Side) (given lent : ℕ) where
  abbrev step : Step
  step = record { side = k; call = Take given lent }

  abbrev made : Entry
  made = entry lim x step

  abbrev p : Party
  p = x.world k

  party : made.after.world k ≡ acted (did lim (Take given lent) p) p
  party = with_own k (acted (did lim (Take given lent) p) p) (reached [] (x.world (other k))) x.world

  filed : (i : ℕ) (y : Session) (h : Header) → take_of lim p.end (take given p.coming) (length (take lent p.storage)) ≡ take_done h
      (put_of i y p.end)
      → i < length p.end.slots → (h.flags ≡ flags_value Syn → y ≡ fresh_of h.sid) → (h.flags ≢ flags_value Syn → h.sid ≡ (slot_at x k i).sid)
      → in_use y.state ≡ not (fin_sent (slot_at x k i).state && eqb h.flags (flags_value Fin))
      → (fin_sent (slot_at x k i).state ≡ true → h.flags ≢ flags_value Fin → y ≡ slot_at x k i)
      → (n : ℕ) → made.whose ≡ some n → owners (Take given lent) p made.whose made.reply (x.book.notes k).owner i ≡ n
      → in_use (slot_at x k i).state ≡ not (eqb h.flags (flags_value Syn))
      → ((o : ℕ) → Outside (4 * lim.place * i) (4 * lim.place) o → get_or (did lim (Take given lent) p).storage o 0 ≡ get_or p.storage o 0)
      → OwnSlot lim.place made
  filed i y h answer inside fresh number stays ignored n whose owner found bytes = record {
    slot = i;
    within = inside;
    fresh = λ e. after ∙ fresh (sym kind ∙ e) ∙ ap fresh_of (sym sid);
    number = λ d. sid ∙ number (λ e. d (kind ∙ e));
    stays = ap (λ (s : Session). in_use s.state) after ∙ stays
        ∙ ap (λ (v : ℕ). not (fin_sent (slot_at x k i).state && eqb v (flags_value Fin))) (sym kind);
    ignored = λ f d. after ∙ ignored f (λ e. d (kind ∙ e));
    session = whose ∙ ap some (sym (ap (λ (b : Notes). b.owner i) (with_own k _ _ x.book.notes) ∙ owner));
    found = found ∙ ap (λ (r : TakeAnswer). not (eqb r.kind (flags_value Syn))) (sym answer);
    others = λ j d. ap (λ (q : Party). get_or q.end.slots j free) party ∙ ap (λ (r : TakeAnswer). get_or r.end.slots j free) answer
        ∙ get_or-set_other p.end.slots i j y free d;
    bytes = λ o u. ap (λ (q : Party). get_or q.storage o 0) party ∙ bytes o (outside o u);
  }
    where
      kind : made.reply.kind ≡ h.flags
      kind = ap (λ (r : TakeAnswer). r.kind) answer

      sid : made.reply.sid ≡ h.sid
      sid = ap (λ (r : TakeAnswer). r.sid) answer

      -- what stands in the slot afterwards
      after : slot_at made.after k i ≡ y
      after = ap (λ (q : Party). get_or q.end.slots i free) party ∙ ap (λ (r : TakeAnswer). get_or r.end.slots i free) answer
          ∙ get_or-set_same p.end.slots i y free inside

      outside : (o : ℕ) → (o < 4 * lim.place * i) ⊎ (4 * lim.place * suc i ≤ o) → Outside (4 * lim.place * i) (4 * lim.place) o
      outside o (inl u) = below u
      outside o (inr u) = above (omega (arith, mul-suc (4 * lim.place) i))

-- ---- what stands in the slot after a packet

not_sent : (st : State) → in_use st ≡ false → fin_sent st ≡ false
not_sent Closed u = refl
not_sent Established u = never (sym u)
not_sent FinSent u = never (sym u)
not_sent FinReceived u = never (sym u)

-- a packet that is taken leaves its slot in use, but for a FIN in FIN SENT
taken_stays : (p : Packet) (h : Header) (y : Session) (st : State) → y.state ≡ st → in_use st ≡ true → fin_received st ≡ false
    → in_use (taken_on (kind_of p) h y).state ≡ not (fin_sent st && eqb (flags_value (kind_of p)) (flags_value Fin))
taken_stays p h y Closed e u r = never u
taken_stays p h y FinReceived e u r = never (sym r)
taken_stays (dat q v b) h y Established e u r = rw e
taken_stays (ack q v) h y Established e u r = rw e
taken_stays (fin q v) h y Established e u r = rw e
taken_stays (dat q v b) h y FinSent e u r = rw e
taken_stays (ack q v) h y FinSent e u r = rw e
taken_stays (fin q v) h y FinSent e u r = rw e

-- in FIN SENT any other packet is ignored
taken_ignored : (p : Packet) (h : Header) (y : Session) (st : State) → y.state ≡ st → fin_sent st ≡ true → flags_value (kind_of p) ≢ flags_value Fin
    → taken_on (kind_of p) h y ≡ y
taken_ignored p h y Closed e f d = never f
taken_ignored p h y Established e f d = never f
taken_ignored p h y FinReceived e f d = never f
taken_ignored (dat q v b) h y FinSent e f d = rw e
taken_ignored (ack q v) h y FinSent e f d = rw e
taken_ignored (fin q v) h y FinSent e f d = absurd (d refl)

-- the half that takes a packet has not ended
not_fr : (s : St) → T (not (ended s)) → fin_received (state_of s) ≡ false
not_fr est t = refl
not_fr fs t = refl
not_fr fr t = absurd t
not_fr gone t = refl

other_kind : (p : Packet) → flags_value (kind_of p) ≡ flags_value Syn → ⊥
other_kind (dat q v b) e = omega arith
other_kind (ack q v) e = omega arith
other_kind (fin q v) e = omega arith

-- ---- a run

module _ {slots : ℕ} {lim : Limits} where
  greet_filed : {x : Scene} {W : World} {l : List Item} (m : Mirror slots lim x W) (given lent : ℕ) → W.chan server ≡ syn W.known ∷ l
      → Given slots lim (x.world server) (syn_for (W.sid W.known)) given lent
      → Acted slots lim x W (record { side = server; call = Take given lent }) greet
      → OwnSlot lim.place (entry lim x (record { side = server; call = Take given lent }))
  greet_filed {x} {W} m given lent e g d =
      let i = lowest_free (x.world server).end.slots in
      let answer = greeting_answer m given lent e g in
      let free-there = lowest_unused (x.world server).end.slots (greeting_room m given lent e g) in
      filed lim x server given lent i (fresh_of (W.sid W.known)) (syn_header (W.sid W.known)) answer
      (lowest_within (x.world server).end.slots (greeting_room m given lent e g)) (λ _. refl) (λ no. absurd (no refl))
      (sym (ap (λ (b : Bool). not (b && false)) (not_sent (slot_at x server i).state free-there)))
      (λ f _. never (sym (not_sent (slot_at x server i).state free-there) ∙ f)) W.known d.whose
      (rw (answer, front_sender (m.at server) e, eq-eqb i i refl)) free-there
      (λ o u. ap (λ (b : List ℕ). get_or b o 0) (greeting_storage m given lent e g))

  live : {x : Scene} {W : World} (m : Mirror slots lim x W) {k : Side} {n : ℕ} {p : Packet} {l : List Item} → W.chan k ≡ pkt n p ∷ l
      → (f : SlotFor slots (x.world k) (x.book.notes k) n) → fin_received (slot (x.world k) f.index).state ≡ false
  live {x} {W} m {k} {n} {p} {l} e f =
      ap fin_received (lane_stands m k n f).state
      ∙ not_fr (st_of k (W.lanes n)) (head_in_range (W.lanes n) (m.inv.good n) k p (pick n l) (packet_toward m.inv k n p l e)).0

  act_filed : {x : Scene} {W : World} {s : Step} {a : Act} → Mirror slots lim x W → Performs slots lim x W s a → Acted slots lim x W s a
      → IsTake s.call → OwnSlot lim.place (entry lim x s)
  act_filed m (opening h r) d t = absurd t
  act_filed m (sending i) d t = absurd t
  act_filed m (reading i) d t = absurd t
  act_filed m (closing i) d t = absurd t
  act_filed {x} {W} m (greeting {given} {lent} {n} {l} e g) d t =
      let q = syn_known m.inv n l e in
      greet_filed m given lent (e ∙ ap (λ (j : ℕ). syn j ∷ l) q) (subst (λ (j : ℕ). Given slots lim (x.world server) (syn_for (W.sid j)) given lent) q g) d
  act_filed {x} {W} m (taking {k} {given} {lent} {n} {p} e g) d t =
      let f = taking_slot m e given lent g in
      filed lim x k given lent f.index (taken_on (kind_of p) (header_for (W.sid n) p) (slot (x.world k) f.index)) (header_for (W.sid n) p)
      (taking_answer m e given lent g) (omega (arith, f.within, (m.at k).many)) (λ e. absurd (other_kind p e)) (λ _. sym (lane_stands m k n f).sid)
      (taken_stays p (header_for (W.sid n) p) (slot (x.world k) f.index) (slot (x.world k) f.index).state refl f.used (live m e f))
      (taken_ignored p (header_for (W.sid n) p) (slot (x.world k) f.index) (slot (x.world k) f.index).state refl) n d.whose
      (rw (taking_answer m e given lent g, not_syn p) f.owner) (rw (not_syn p) f.used)
      (λ o u. ap (λ (b : List ℕ). get_or b o 0) (taking_storage m e given lent g)
      ∙ kept_outside (cell_of (slot (x.world k) f.index).state (kind_of p)) (taking_lent m e given lent g) o u)

  pub run_filed : {x : Scene} {W : World} {ss : List Step} {t : List Act} → Along slots lim x W ss t
      → Every (λ (e : Entry). IsTake e.step.call → e.reply.number ≡ 0 → OwnSlot lim.place e) (history lim x ss)
  unfolding history
  run_filed (over m) = tt
  run_filed (rests m r l) = (λ t n. absurd (r.refused t n), run_filed l)
  run_filed (acts m p d l) = (λ t n. act_filed m p d t, run_filed l)
