-- A session among others and alone: each of its own steps, made alone, performs the same act there and gets the same reply but for the SID.
-- The two pairs go along lane's simulation of a session by itself; of the storages only the lengths count.
use Prim.Native.Nat.{ℕ, ◌+◌, ◌%◌, ◌^◌}
use native.Mathlib.Omega.{arith}
use mathlib.Core.Path.{◌≡◌, refl, sym, ap, ◌∙◌, ap₂, subst}
use mathlib.Core.Logic.{◌≢◌}
use mathlib.Core.List.{List, [], ◌∷◌, map}
use mathlib.Core.Option.{Option, none, some}
use lib.ListN.{length}
use lib.Dec.{eqb}
use Rattle.cases.specs.Cases.{if}
use Rattle.wire.specs.declared.kind.Kind.{Kind}
use Rattle.wire.specs.declared.kind.Kind.TheVariants.{Syn}
use Rattle.wire.specs.Packet.{header_length, bytes, header_bytes, header_of, packet_bytes, flags_value}
use Rattle.table.specs.Slots.{smallest_sid}
use Rattle.table.specs.Limits.{Limits}
use Rattle.table.proofs.Slots.{smallest_here}
use Rattle.table.proofs.Smallest.{smallest_new}
use Rattle.open.specs.Open.{syn_header}
use Rattle.pair.specs.Side.{Side, client, server}
use Rattle.pair.proofs.Lane.Half.{Packet, Out, seqnum_of, wndw_of}
use Rattle.pair.proofs.Lane.Lane as lane
use Rattle.pair.proofs.Lane.Lane.{put, get, shut, deliver, Lane, moved, toward}
use Rattle.pair.proofs.Lane.Tables.{Eq?, same, differ, eq?}
use Rattle.pair.proofs.Lane.World.{syn, World}
use Rattle.pair.proofs.Lane.Acts.{Act, dial, greet, turn, act, owner, Fit, again}
use Rattle.pair.proofs.Lane.Heads.{syn_known, packet_toward, packet_held}
use Rattle.pair.proofs.Lane.Alone.{Sim, sim_past, sim_act, alone_syn, alone_packet, Follows}
use Rattle.pair.specs.World.{Party}
use Rattle.pair.specs.Step.{Reply, Open, Read, Step, emitting}
use Rattle.pair.specs.History.{Scene, Entry, entry, history}
use Rattle.pair.specs.Claims.{numberless, own, alone_step, plain_reply}
use Rattle.pair.proofs.Bytes.Encoded.{kind_of, payload_of, syn_for, syn_bytes, packet_size, emitted, packet_for, syn_size}
use Rattle.pair.proofs.Mirror.Scene.{Mirror}
use Rattle.pair.proofs.Mirror.Facts.{none_held, none_listed, too_short}
use Rattle.pair.proofs.Steps.Performs.{out_reply, head_reply, turn_reply, read_room, Given, Performs, opening, greeting, taking, sending, reading}
use Rattle.pair.proofs.Steps.Performs.{closing, taking_reply, act_reply, Lengths, Acted}
use Rattle.pair.proofs.Steps.Classify.{performs_acts}
use Rattle.pair.proofs.History.Along.{Along, over, rests, acts}
use Rattle.pair.proofs.History.Events.{own_none, own_some}

-- ---- replies but for the SID: a packet with its SID set to 0 is the packet under the SID 0

header_numberless : (k : Kind) (sid n q w : ℕ) (v : List ℕ) → numberless (packet_bytes (header_of k sid n q w) v) ≡ packet_bytes (header_of k 0 n q w) v
unfolding header_bytes bytes
header_numberless k sid n q w v = refl

syn_numberless : (sid : ℕ) → numberless (syn_for sid) ≡ syn_for 0
syn_numberless sid = ap numberless (syn_bytes sid) ∙ header_numberless Syn sid header_length 0 (syn_header sid).wndw [] ∙ sym (syn_bytes 0)

emitted_numberless : (sid : ℕ) (e : Option Packet) → numberless (emitted sid e) ≡ emitted 0 e
emitted_numberless sid none = refl
emitted_numberless sid (some p) = header_numberless (kind_of p) sid (header_length + length (payload_of p)) (seqnum_of p % 2 ^ 32) (wndw_of p % 2 ^ 32) (payload_of p)

emitted_size : (sid : ℕ) (e : Option Packet) → length (emitted sid e) ≡ length (emitted 0 e)
emitted_size sid none = refl
emitted_size sid (some p) = packet_size sid p ∙ sym (packet_size 0 p)

-- what plain_reply shows of a reply
abbrev pub plain : Reply → Reply
plain r = record {
  number = r.number;
  sid = 0;
  used = r.used;
  kind = r.kind;
  missing = r.missing;
  payload_length = r.payload_length;
  payload = r.payload;
  packet_length = r.packet_length;
  packet = numberless r.packet;
}

out_plain : (sid : ℕ) (o : Out) → plain (out_reply sid o) ≡ out_reply 0 o
out_plain sid o = rw (emitted_numberless sid o.emit, emitted_size sid o.emit)

head_plain : (sid : ℕ) (l : List Packet) → plain (head_reply sid l) ≡ head_reply 0 l
head_plain sid [] = refl
head_plain sid (p ∷ l) = rw (packet_size sid p, packet_size 0 p)

turn_plain : (sid : ℕ) (c : lane.Call) (o : Out) (l : List Packet) → plain (turn_reply sid c o l) ≡ turn_reply 0 c o l
turn_plain sid (put p R) o l = out_plain sid o
turn_plain sid (get R) o l = out_plain sid o
turn_plain sid (shut R) o l = out_plain sid o
turn_plain sid deliver o l = head_plain sid l

-- ---- what a step performs fits, and the two pairs side by side

performs_fits : {slots : ℕ} {lim : Limits} {x : Scene} {W : World} {s : Step} {a : Act} → Mirror slots lim x W → Performs slots lim x W s a → Fit slots W a
performs_fits {x = x} m (opening h r) = (r, none_held m client (smallest_sid (x.world client).end.slots) (smallest_new (x.world client).end.slots))
performs_fits m (greeting e g) = record { lane = _; tail = _; eq = e }
performs_fits m (taking e g) = (packet_held m.inv _ _ _ _ e, record { packet = _; tail = _; eq = e })
performs_fits m (sending i) = (i.listed, tt)
performs_fits m (reading i) = (i.listed, tt)
performs_fits m (closing i) = (i.listed, tt)

-- y with A is the session n of x with W, alone
pub record Beside (slots : ℕ) (lim : Limits) (n : ℕ) (x : Scene) (W : World) (y : Scene) (A : World) : Type 0 where
  pub mirror : Mirror slots lim y A
  pub sim : Sim slots n W A
  pub long : Lengths x y

-- ---- one step of the session

-- given just its packet, of the same length
alone_given : {slots : ℕ} {lim : Limits} {n given lent : ℕ} (p q : Party) (bytes bytes' : List ℕ) → length q.storage ≡ length p.storage
    → length bytes' ≡ length bytes
    → n ≡ length bytes
    → Given slots lim p bytes given lent → Given slots lim q bytes' n lent
alone_given {slots} {lim} {lent = lent} p q bytes bytes' long e f g = record { whole = omega arith; long = ap (too_short slots lim lent) long ∙ g.long }

turn_alone : {slots : ℕ} {W A : World} (k : Side) (n : ℕ) (c : lane.Call) → Sim slots n W A → plain (act_reply W (turn k n c)) ≡ act_reply A (turn k 0 c)
turn_alone {W = W} k n c s =
    turn_plain (W.sid n) c (moved k c (W.lanes n)).out (toward k (W.lanes n))
    ∙ ap₂ (λ (sid : ℕ) (L : Lane). turn_reply sid c (moved k c L).out (toward k L)) (sym s.sid) s.lane

module _ {slots : ℕ} {lim : Limits} {x : Scene} {W : World} {y : Scene} {A : World} where
  follows : {s : Step} {a : Act} → Mirror slots lim x W → Performs slots lim x W s a → Beside slots lim (owner W a) x W y A
      → Follows slots (owner W a) W A a
  follows {a = a} m p b = sim_act m.inv b.sim a (performs_fits m p) refl

  -- alone it performs the same act
  alone_performs : {s : Step} {a : Act} → Mirror slots lim x W → (p : Performs slots lim x W s a) → Acted slots lim x W s a
      → Beside slots lim (owner W a) x W y A → Follows slots (owner W a) W A a
      → Performs slots lim y A (alone_step (entry lim x s)) (again a)
  alone_performs m (opening {room} h r) d b f =
      let xs = (y.world client).end.slots in
      subst (λ (sid : ℕ). Performs slots lim y A (record { side = client; call = Open room }) (dial sid))
      (smallest_here (length xs) 0 xs (none_listed b.mirror client 0 f.fit.1))
      (opening h f.fit.0)
  alone_performs m (greeting {n = n} e g) d b f =
      let same_size = syn_size (A.sid f.fit.lane) ∙ sym (syn_size (W.sid n)) in
      greeting f.fit.eq (alone_given (x.world server) (y.world server) (syn_for (W.sid n)) (syn_for (A.sid f.fit.lane)) (b.long server) same_size
      (ap (λ (r : Reply). r.used) d.reply ∙ sym (syn_size (W.sid n))) g)
  alone_performs m (taking {k} {n = n} {p = p} {l = l} e g) d b f =
      let h = alone_packet m.inv b.sim k p l e in
      let used = ap (λ (r : Reply). r.used) d.reply ∙ ap (λ (q : List Packet). (head_reply (W.sid n) q).used) (packet_toward m.inv k n p l e) in
      taking h.1 (alone_given (x.world k) (y.world k) (packet_for (W.sid n) p) (packet_for (A.sid 0) p) (b.long k)
      (packet_size (A.sid 0) p ∙ sym (packet_size (W.sid n) p)) used g)
  alone_performs m (sending i) d b f = sending (record { listed = f.fit.0; name = b.sim.sid })
  alone_performs m (reading {k} {room = room} {ack = ack} {lent = lent} i) d b f =
      subst (λ (all : ℕ). Performs slots lim y A (record { side = k; call = Read 0 room ack lent }) (turn k 0 (get (read_room slots lim room ack lent all))))
      (b.long k)
      (reading (record { listed = f.fit.0; name = b.sim.sid }))
  alone_performs m (closing i) d b f = closing (record { listed = f.fit.0; name = b.sim.sid })

  -- and gets the same reply but for the SID
  alone_reply : (a : Act) → Mirror slots lim x W → Fit slots W a → Beside slots lim (owner W a) x W y A → plain (act_reply W a) ≡ act_reply A (again a)
  alone_reply (dial sid) m f b = ap (emitting 0 0 header_length) (syn_numberless sid)
  alone_reply greet m f b =
      let e : W.chan server ≡ syn W.known ∷ f.tail = f.eq ∙ ap (λ (n : ℕ). syn n ∷ f.tail) (syn_known m.inv f.lane f.tail f.eq) in
      let h = alone_syn m.inv b.sim f.tail e in
      ap (taking_reply header_length (flags_value Syn)) (sym (ap A.sid (sym (syn_known b.sim.inv 0 h.0 h.1)) ∙ b.sim.sid))
  alone_reply (turn k n c) m f b = turn_alone k n c b.sim

-- ---- all of them

-- the same replies, alone from y
abbrev Same : Limits → Scene → List Entry → Type 0
Same lim y h = map plain_reply h ≡ map (λ (e : Entry). e.reply) (history lim y (map alone_step h))

module _ {slots : ℕ} {lim : Limits} (n : ℕ) where
  module _ {x : Scene} {W : World} {s : Step} (h : List Entry) (y : Scene) (A : World) (a : Act) (m : Mirror slots lim x W) (p : Performs slots lim x W s a)
      (d : Acted slots lim x W s a) (on : (v : Scene) (B : World) → Beside slots lim n (entry lim x s).after (act a W) v B → Same lim v h) where
    mine : Beside slots lim (owner W a) x W y A → owner W a ≡ n → Same lim y (entry lim x s ∷ h)
    unfolding history
    mine b q =
        let e = alone_step (entry lim x s) in
        let c = performs_acts b.mirror (alone_performs m p d b (follows m p b)) in
        ap₂ ◌∷◌ (ap plain d.reply ∙ alone_reply a m (performs_fits m p) b ∙ sym c.reply)
        (on (entry lim y e).after (act (again a) A) (record {
          mirror = c.mirror;
          sim = subst (λ (j : ℕ). Sim slots j (act a W) (act (again a) A)) q (follows m p b).sim;
          long = λ k. c.lengths k ∙ b.long k ∙ sym (d.lengths k);
        }))

    another : Beside slots lim n x W y A → owner W a ≢ n → Same lim y h
    another b q = on y A (record { mirror = b.mirror; sim = sim_past b.sim a q; long = λ k. b.long k ∙ sym (d.lengths k) })

    either : Beside slots lim n x W y A → Eq? (owner W a) n (eqb (owner W a) n) → Same lim y (if (eqb (owner W a) n) (entry lim x s ∷ h) h)
    either b (same q e) = rw e (mine (subst (λ (j : ℕ). Beside slots lim j x W y A) (sym q) b) q)
    either b (differ q e) = rw e (another b q)

  -- THEOREM
  pub run_alone : {x : Scene} {W : World} {ss : List Step} {t : List Act} → Along slots lim x W ss t → (y : Scene) (A : World) → Beside slots lim n x W y A
      → Same lim y (own n (history lim x ss))
  unfolding history own
  run_alone (over m) y A b = refl
  run_alone {x} {W} {ss = s ∷ ss} (rests m r l) y A b =
      subst (Same lim y) (sym (own_none n (entry lim x s) (history lim (entry lim x s).after ss) r.whose))
      (run_alone l y A (record { mirror = b.mirror; sim = b.sim; long = λ k. b.long k ∙ sym (r.lengths k) }))
  run_alone {x} {W} {ss = s ∷ ss} {t = a ∷ t} (acts m p d l) y A b =
      subst (Same lim y) (sym (own_some n (owner W a) (entry lim x s) (history lim (entry lim x s).after ss) d.whose))
      (either (own n (history lim (entry lim x s).after ss)) y A a m p d (run_alone l) b (eq? (owner W a) n))
