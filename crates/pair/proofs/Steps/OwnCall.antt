-- A step of the pair that is a session's own, and does to its scene what OwnStep asks, performs the act on its lane. So does a call that names a
-- lane's SID (send, read, close), refused or not, where the call on the record of its slot does what the lane's half does.
use Prim.Native.Nat.{ℕ, ◌<◌}
use native.Mathlib.Omega.{arith}
use native.Mathlib.Decide.{dec_lt}
use mathlib.Core.Path.{◌≡◌, ap, ◌∙◌, refl, sym, subst}
use mathlib.Core.Bool.{true}
use mathlib.Core.List.{List, map, flat_map}
use mathlib.Core.Option.{some}
use lib.ListN.{length, drop}
use lib.Dec.{T}
use Rattle.cases.specs.Cases.{Case, first}
use Rattle.session.specs.declared.record.Session.{Session}
use Rattle.session.specs.Record.{in_use}
use Rattle.table.specs.End.{put_of}
use Rattle.table.specs.Limits.{Limits}
use Rattle.pair.specs.Side.{Side}
use Rattle.pair.proofs.Lane.Half.{St, Body, Out, refuse}
use Rattle.pair.proofs.Lane.Lane.{Call, moved, toward}
use Rattle.pair.proofs.Lane.Tables.{has}
use Rattle.pair.proofs.Lane.World.{World, after}
use Rattle.pair.proofs.Lane.Acts.{Ready, turn}
use Rattle.table.proofs.Slots.{put_same}
use Rattle.pair.specs.World.{Party}
use Rattle.pair.specs.Step as step
use Rattle.pair.specs.Step.{did, acted, Reply}
use Rattle.pair.specs.Whose.{left, owners, counted, Marked}
use Rattle.pair.specs.History.{Scene, whose_in, entry}
use Rattle.pair.proofs.Bytes.Encoded.{handed}
use Rattle.pair.proofs.Record.Stands.{state_of, Stands}
use Rattle.pair.proofs.Record.Does.{After, stands, Done, Does}
use Rattle.pair.proofs.Mirror.Scene.{SlotFor, Mirror, slot, mark_of}
use Rattle.pair.proofs.Mirror.Sides.{sides, with_own, with_other}
use Rattle.pair.proofs.Mirror.Channels.{FitsIn}
use Rattle.pair.proofs.Mirror.OwnStep.{OwnStep, own_mirror}
use Rattle.pair.proofs.Steps.Performs.{act_reply, Acted, out_reply, turn_reply, answered}
use Rattle.pair.proofs.Steps.Resting.{refused}

-- the step s at its side: its call does d, and is that session's
pub acted_own : {slots : ℕ} {lim : Limits} {x : Scene} {W : World} (m : Mirror slots lim x W) {k : Side} {n : ℕ} {c : Call} (t : T (has n (W.table k)))
    (r : Ready c n (W.chan k))
    (f : SlotFor slots (x.world k) (x.book.notes k) n) (call : step.Call)
    → (let s : step.Step = record { side = k; call = call } in let d : step.Done = did lim call (x.world k) in
    OwnStep lim x W k n c f.index (acted d (x.world k)) (record {
      coming = left call d.reply (x.book.notes k).coming;
      owner = owners call (x.world k) (whose_in lim x s) d.reply (x.book.notes k).owner;
    }) (whose_in lim x s) d.reply.packet
    → counted call d.reply x.book.opened ≡ x.book.opened → d.reply ≡ act_reply W (turn k n c) → length d.storage ≡ length (x.world k).storage
    → Acted slots lim x W s (turn k n c))
acted_own {lim = lim} {x = x} m {k} t r f call s counts reply long = record {
  mirror = let a = own_mirror m t r f s in record { sizes = a.sizes; inv = a.inv; at = a.at; opened = counts ∙ a.opened; low = a.low };
  whose = s.whose;
  reply = reply;
  lengths = sides (λ j. length ((entry lim x (record { side = k; call = call })).after.world j).storage ≡ length (x.world j).storage) k
      (ap (λ (p : Party). length p.storage) (with_own k _ _ x.world) ∙ long)
      (ap (λ (p : Party). length p.storage) (with_other k _ _ x.world));
}

-- ---- a call that names a SID

-- what a call on slot i does at its side, where the half's step is o
pub record Outcome (lim : Limits) (i : ℕ) (p : Party) (sid : ℕ) (o : Out) (d : step.Done) : Type 0 where
  pub session : Session
  pub end : d.end ≡ put_of i session p.end
  pub become : After lim i p.storage session sid o.st o.body
  pub reply : d.reply ≡ out_reply sid o
  pub storage : d.storage ≡ p.storage

-- ---- done or refused

module _ {lim : Limits} {i : ℕ} {p : Party} {sid : ℕ} {st : St} {B : Body} (a : Stands lim i p.storage (slot p i) sid st B)
    (u : in_use (state_of st) ≡ true) where
  refused_outcome : (n : ℕ) → Outcome lim i p sid (refuse n st B) (refused n 0 p)
  refused_outcome n = record {
    session = slot p i;
    end = sym (put_same i p.end);
    become = stands u a;
    reply = refl;
    storage = refl;
  }

  pub outcome : {D : Out → Type 0} {cases : List Case} {o : Out} {y : Session} {sent read : List ℕ} (d : step.Done) → Does D st B cases o
      → (D o → Done lim i p.storage y sid sent read o)
      → (first cases ≡ 0 → D o → d ≡ record { reply = answered 0 read sent; end = put_of i y p.end; storage = p.storage })
      → (0 < first cases → d ≡ refused (first cases) 0 p) → Outcome lim i p sid o d
  outcome {cases = cases} {o} {y} {sent} {read} d does done zero other = by (dec_lt 0 (first cases))
    where
      by : Dec (0 < first cases) → Outcome lim i p sid o d
      by (yes h) =
          subst (λ (q : Out). Outcome lim i p sid q d) (sym (does.refused (λ z. omega arith)))
          (subst (Outcome lim i p sid (refuse (first cases) st B)) (sym (other h)) (refused_outcome (first cases)))
      by (no h) =
          let z : first cases ≡ 0 = omega arith in
          let f = done (does.done z) in
          subst (Outcome lim i p sid o) (sym (zero z (does.done z))) (record {
            session = y;
            end = refl;
            become = f.after;
            reply = ap (λ (n : ℕ). answered n read sent) (sym z ∙ does.answer)
                ∙ ap (λ (l : List ℕ). answered o.ans l sent) f.payload
                ∙ ap (answered o.ans (handed o.pay)) f.packet;
            storage = refl;
          })

-- ---- the step

-- a call that leaves the book's count, its side's channel and its owners, as the lane's call does: each of these is refl
pub acted_call : {slots : ℕ} {lim : Limits} {x : Scene} {W : World} (m : Mirror slots lim x W) {k : Side} {n : ℕ} (t : T (has n (W.table k)))
    (f : SlotFor slots (x.world k) (x.book.notes k) n) (call : step.Call) (c : Call)
    → (let d = did lim call (x.world k) in let who = whose_in lim x (record { side = k; call = call }) in let o =
    (moved k c (W.lanes n)).out in
    Ready c n (W.chan k) → after c (W.chan k) ≡ W.chan k → turn_reply (W.sid n) c o (toward k (W.lanes n)) ≡ out_reply (W.sid n) o
    → left call d.reply (x.book.notes k).coming ≡ (x.book.notes k).coming
    → owners call (x.world k) who d.reply (x.book.notes k).owner ≡ (x.book.notes k).owner
    → counted call d.reply x.book.opened ≡ x.book.opened
    → who ≡ some n → Outcome lim f.index (x.world k) (W.sid n) o d → FitsIn lim o.emit
    → Acted slots lim x W (record { side = k; call = call }) (turn k n c))
acted_call {lim = lim} {x} {W} m {k} {n} t f call c ready stays shown left owners counts who out fits =
    acted_own m t ready f call (record {
      session = out.session;
      end = out.end;
      others = λ j h. rw out.storage (record { long = refl; same = λ o a b. refl });
      become = rw out.storage out.become;
      owner = owners;
      marks = left ∙ (m.at k).marks ∙ ap (map (mark_of W.sid)) (sym stays);
      bytes = ap (λ (r : Reply). drop r.used (x.world k).coming) out.reply ∙ (m.at k).bytes ∙ ap (flat_map (λ (m : Marked). m.bytes)) (sym left);
      whose = who;
      packet = ap (λ (r : Reply). r.packet) out.reply;
      small = fits;
    }) counts (out.reply ∙ sym shown) (ap length out.storage)
