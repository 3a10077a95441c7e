-- What a take tells of the packet at the head of its channel: its kind and length, or how many bytes are missing of it.
use Prim.Native.Nat.{ℕ, ◌-◌, ◌≤◌}
use native.Mathlib.Omega.{arith}
use mathlib.Core.Path.{◌≡◌, refl, sym, ap, ◌∙◌, subst}
use mathlib.Core.Logic.{◌⊎◌, inl, inr}
use mathlib.Core.Bool.{Bool, true, false}
use mathlib.Core.List.{List, [], ◌∷◌, ◌++◌, map}
use lib.ListN.{length, get_or, take, length-take}
use lib.Seq.{take-nil}
use lib.Dec.{ltb}
use borrow.Author.Tests.{ltb-false}
use Rattle.cases.specs.Cases.{if}
use Rattle.wire.specs.declared.header.Header.{Header}
use Rattle.wire.specs.declared.kind.Kind.{Kind}
use Rattle.wire.specs.declared.kind.Kind.TheVariants.{Syn}
use Rattle.wire.specs.Packet.{header_length, read_header, bytes, number, header_bytes, packet_bytes, field, flags_value}
use Rattle.wire.proofs.Whole.{Whole, front_header, whole_length}
use Rattle.table.specs.declared.end.End.{End}
use Rattle.table.specs.Limits.{Limits}
use Rattle.judge.specs.Number.{take_number, missing}
use Rattle.take.specs.Take.{TakeAnswer}
use Rattle.take.specs.Take.{take_of}
use Rattle.take.proofs.Answered.{take_told}
use Rattle.pair.specs.Side.{Side, client, server}
use Rattle.pair.proofs.Lane.Half.{Packet, dat, ack, fin}
use Rattle.pair.proofs.Lane.World.{Item, syn, pkt, World}
use Rattle.pair.proofs.Lane.Acts.{Act}
use Rattle.pair.proofs.Lane.Heads.{no_syn_lem, syn_born, syn_known, packet_toward}
use Rattle.pair.specs.Step.{Take, Reply, reply_to}
use Rattle.pair.specs.Whose.{Marked}
use Rattle.pair.specs.History.{Scene}
use Rattle.pair.specs.Claims.{OfHead}
use Rattle.pair.proofs.Bytes.Encoded.{kind_of, packet_for, syn_for, packet_whole, syn_whole, syn_bytes, syn_size}
use Rattle.pair.proofs.Bytes.TakeGate.{answer_refused}
use Rattle.pair.proofs.Mirror.Scene.{mark_of, Mirror}
use Rattle.pair.proofs.Mirror.Channels.{bytes_of, front_bytes, packet_low, packet_small}
use Rattle.pair.proofs.Steps.Performs.{Performs, greeting, taking, head_reply, Rested}
use Rattle.pair.proofs.Steps.Classify.{performs_acts, classify}

-- ---- 10's count is that of what was given

given_number : (lim : Limits) (e : End) (bytes : List ℕ) (st : ℕ) → (take_of lim e bytes st).number ≡ take_number lim e bytes st
unfolding take_of
given_number lim e bytes st = take_told (take_number lim e bytes st) bytes e

counts : (lim : Limits) (e : End) (bytes : List ℕ) (st : ℕ) → (take_of lim e bytes st).number ≡ 10 → (take_of lim e bytes st).missing ≡ missing bytes
counts lim e bytes st q = ap (λ (r : TakeAnswer). r.missing) (answer_refused lim e bytes st 10 (sym (given_number lim e bytes st) ∙ q) (omega arith) (omega arith))

-- of a packet's front, given in part
missing_head : {place : ℕ} {h : Header} {k : Kind} {v : List ℕ} → Whole place h k v → (rest : List ℕ) (n : ℕ)
    → missing (take n (packet_bytes h v ++ rest))
    ≡ if (ltb (length (take n (packet_bytes h v ++ rest))) header_length) (header_length - length (take n (packet_bytes h v ++ rest)))
    (length (packet_bytes h v) - length (take n (packet_bytes h v ++ rest)))
missing_head {place} {h} {k} {v} w rest n = by (ltb (length b) header_length) refl
  where
    b : List ℕ
    b = take n (packet_bytes h v ++ rest)

    by : (t : Bool) → ltb (length b) header_length ≡ t
        → if t (header_length - length b) ((read_header b).length - length b) ≡ if t (header_length - length b) (length (packet_bytes h v) - length b)
    by true q = refl
    by false q =
        let enough : header_length ≤ n = omega (arith, ltb-false (length b) header_length q, length-take n (packet_bytes h v ++ rest)) in
        ap (λ (g : Header). g.length - length b) (front_header w rest n enough) ∙ ap (λ (m : ℕ). m - length b) (sym (whole_length w))

-- ---- the kind of a packet stands in its second byte

syn_kind : (sid : ℕ) → field 1 1 (syn_for sid) ≡ flags_value Syn
unfolding header_bytes bytes number
syn_kind sid = refl

packet_kind : (sid : ℕ) (p : Packet) → field 1 1 (packet_for sid p) ≡ flags_value (kind_of p)
unfolding header_bytes bytes number
packet_kind sid (dat q v b) = refl
packet_kind sid (ack q v) = refl
packet_kind sid (fin q v) = refl

module _ {slots : ℕ} {lim : Limits} {x : Scene} {W : World} (m : Mirror slots lim x W) where
  abbrev reply : Side → ℕ → ℕ → Reply
  reply k given lent = reply_to lim (record { side = k; call = Take given lent }) x.world

  abbrev Tells : Side → ℕ → ℕ → Item → Type 0
  Tells k given lent i = ((reply k given lent).kind ≡ field 1 1 (mark_of W.sid i).bytes) × ((reply k given lent).used ≡ length (mark_of W.sid i).bytes)

  -- with 0 it performed an act, whose reply is that of the item at the head
  done_head : (k : Side) (given lent : ℕ) (i : Item) (l : List Item) → W.chan k ≡ i ∷ l → (reply k given lent).number ≡ 0 → Tells k given lent i
  done_head k given lent i l e z = by (classify m (record { side = k; call = Take given lent })) i l e z
    where
      by : {k : Side} {given lent : ℕ} → Rested slots lim x W (record { side = k; call = Take given lent })
          ⊎ ((a : Act) × Performs slots lim x W (record { side = k; call = Take given lent }) a)
          → (i : Item) (l : List Item) → W.chan k ≡ i ∷ l → (reply k given lent).number ≡ 0 → Tells k given lent i
      by (inl r) i l e z = absurd (r.refused tt z)
      by {k} {given} {lent} (inr (a, greeting {n = n} {l = t} f g)) i l e z =
          let r = (performs_acts m (greeting f g)).reply in
          let known = syn_known m.inv n t f in
          subst (Tells server given lent) (ap (λ (l : List Item). get_or l 0 i) (sym f ∙ e))
          (ap (λ (r : Reply). r.kind) r ∙ sym (syn_kind (W.sid n)), ap (λ (r : Reply). r.used) r ∙ sym (syn_size (W.sid n)))
      by {k} {given} {lent} (inr (a, taking {n = n} {p = p} {l = t} f g)) i l e z =
          let r = (performs_acts m (taking f g)).reply ∙ ap (head_reply (W.sid n)) (packet_toward m.inv k n p t f) in
          subst (Tells k given lent) (ap (λ (l : List Item). get_or l 0 i) (sym f ∙ e))
          (ap (λ (r : Reply). r.kind) r ∙ sym (packet_kind (W.sid n) p), ap (λ (r : Reply). r.used) r)

  -- with 10 its count is that of the bytes of the item
  missing_at : (k : Side) (given : ℕ) (i : Item) (l : List Item) → W.chan k ≡ i ∷ l
      → let b = take given (x.world k).coming in
      missing b ≡ if (ltb (length b) header_length) (header_length - length b) (length (mark_of W.sid i).bytes - length b)
  missing_at server given (syn n) l e =
      let w = syn_whole lim.place m.sizes.fits (W.sid n) (m.low n (syn_born m.inv n l e)) in
      let q : (mark_of W.sid (syn n)).bytes ≡ _ = syn_bytes (W.sid n) in
      rw (front_bytes (m.at server) e, q) (missing_head w (bytes_of W l) given)
  missing_at client given (syn n) l e = absurd (no_syn_lem m.inv n l e)
  missing_at k given (pkt n p) l e =
      rw (front_bytes (m.at k) e)
      (missing_head (packet_whole lim.place m.sizes.fits (W.sid n) (packet_low m e) p (packet_small m e)) (bytes_of W l) given)

  -- THEOREM
  pub of_head : (k : Side) (given lent : ℕ) (p : Marked) (ps : List Marked) → (x.book.notes k).coming ≡ p ∷ ps
      → OfHead p (length (take given (x.world k).coming)) (reply k given lent)
  of_head k given lent p ps e = by (W.chan k) refl
    where
      by : (l : List Item) → W.chan k ≡ l → OfHead p (length (take given (x.world k).coming)) (reply k given lent)
      by [] f = absurd (omega (arith, ap length (sym e ∙ (m.at k).marks ∙ ap (map (mark_of W.sid)) f)))
      by (i ∷ l) f =
          let q : mark_of W.sid i ≡ p = ap (λ (l : List Marked). get_or l 0 p) (sym ((m.at k).marks ∙ ap (map (mark_of W.sid)) f) ∙ e) in
          subst (λ (p : Marked). OfHead p (length (take given (x.world k).coming)) (reply k given lent)) q (record {
            kind = λ z. (done_head k given lent i l f z).0;
            used = λ z. (done_head k given lent i l f z).1;
            missing = λ z. counts lim (x.world k).end (take given (x.world k).coming) (length (take lent (x.world k).storage)) z
                ∙ missing_at k given i l f;
          })

  -- and where nothing is on its way
  pub nothing_there : (k : Side) (given lent : ℕ) → (x.world k).coming ≡ [] → (reply k given lent).number ≡ 10 → (reply k given lent).missing ≡ header_length
  nothing_there k given lent e z =
      counts lim (x.world k).end (take given (x.world k).coming) (length (take lent (x.world k).storage)) z
      ∙ ap missing (ap (take given) e ∙ take-nil given)
