-- An end is judged by what was seen of it.
use Rattle.std.specs.Prelude.{ℕ, ◌≤◌, ◌<◌, ◌≡◌, Bool, true, false, List, length, ltb, Some, None, Result, Ok, Err, IfOk}
use Rattle.std.proofs.Common.{refl, sym, ap, ap₂, ◌∙◌, arith}
use borrow.Author.Tests.{ltb-false, le-ltb}
use Rattle.cases.specs.declared.refusal.Refusal.{Refusal}
use Rattle.cases.specs.Cases.{if, first, refusal_number}
use Rattle.cases.proofs.First.{done_not}
use Rattle.wire.specs.declared.header.Header.{Header}
use Rattle.wire.specs.declared.kind.Kind.{Kind}
use Rattle.wire.specs.declared.kind.Kind.TheVariants.{Syn, Ack, Fin, Data}
use Rattle.wire.specs.Packet.{read_header, flags_of}
use Rattle.session.specs.declared.record.Session.{Session}
use Rattle.session.specs.Record.{payload_limit}
use Rattle.effect.specs.declared.cell.Cell.{Cell}
use Rattle.effect.specs.Taken.{cell_of}
use Rattle.table.specs.declared.end.End.{End}
use Rattle.table.specs.End.{slot_count}
use Rattle.table.specs.Limits.{base}
use Rattle.table.specs.Slots.{holds, full, session_of, slot_of, lowest_free}
use Rattle.table.specs.Storage.{storage_length}
use Rattle.table.proofs.Slots.{within}
use Rattle.scan.specs.declared.Found.{Found}
use Rattle.scan.specs.declared.Look.{Look}
use Rattle.scan.specs.Look.{found_in, free_in, seen, look_of}
use Rattle.calling.specs.Calling.{short_storage, IsThat}
use Rattle.calling.proofs.Looked.{looked, unlooked}
use Rattle.judge.specs.declared.Act.{Act}
use Rattle.judge.specs.declared.Act.TheVariants.{Begin, Do}
use Rattle.judge.specs.declared.Judged.{Judged}
use Rattle.judge.specs.declared.stop.Stop.{Stop}
use Rattle.judge.specs.Number.{take_number}
use Rattle.judge.specs.Act.{does, act_of, IsJudged}
use Rattle.judge.specs.Seen.{seen_number, ActAt, Decided}
use Rattle.judge.specs.Parts.{sid_in, seen_gate_number, seen_kind_number}
use Rattle.judge.proofs.Numbers.{seen_is, take_is, parts}

-- nothing more is asked of an end that isn't well made
pub ill_made : (e : End) (bytes : List ℕ) (storage sid : ℕ) {r : Refusal} → Err r ≡ look_of base e sid → refusal_number r ≡ take_number base e bytes storage
unfolding take_number first
ill_made e bytes storage sid q = let u = unlooked base e sid q in rw (u.0, u.1)

-- ---- the number

-- under sixteen bytes the gate has one
few : (up short : Bool) (n : ℕ) → ltb n 16 ≡ true → 0 < seen_gate_number up short n
unfolding seen_gate_number first
few false short n p = omega arith
few true true n p = omega arith
few true false n p = rw p (omega arith)

-- and it is the first
stopped : (g : ℕ) (bytes : List ℕ) (k l : ℕ) → 0 < g → parts g bytes k ≡ parts g bytes l
stopped g bytes k l h = done_not g _ g h ∙ sym (done_not g _ g h)

-- so what is asked of a look matters where it looked for the header's SID
same_parts : (up short : Bool) (bytes : List ℕ) (ask : ℕ → ℕ)
    → parts (seen_gate_number up short (length bytes)) bytes (ask (sid_in bytes))
    ≡ parts (seen_gate_number up short (length bytes)) bytes (ask (read_header bytes).sid)
same_parts up short bytes ask = by (ltb (length bytes) 16) refl
  where
    by : (t : Bool) → ltb (length bytes) 16 ≡ t
        → parts (seen_gate_number up short (length bytes)) bytes (ask (if t 0 (read_header bytes).sid))
        ≡ parts (seen_gate_number up short (length bytes)) bytes (ask (read_header bytes).sid)
    by true p = stopped (seen_gate_number up short (length bytes)) bytes _ _ (few up short (length bytes) p)
    by false p = refl

pub as_seen : (e : End) (bytes : List ℕ) (storage : ℕ) {look : Look} → Ok look ≡ look_of base e (sid_in bytes)
    → seen_number base look e.up e.role (short_storage base e storage) bytes ≡ take_number base e bytes storage
unfolding seen_gate_number
as_seen e bytes storage {look} q =
    let u = looked base e (sid_in bytes) q in
    let h = read_header bytes in
    let short = short_storage base e storage in
    rw (u.1, seen_is)
    (same_parts e.up short bytes (λ (sid : ℕ). seen_kind_number (flags_of h.flags) (seen e sid) e.role h)
    ∙ rw (take_is, u.0))

-- ---- what is to be done

module _ (e : End) (h : Header) where
  begins : {i : ℕ} → free_in e.slots ≡ Some i → i ≡ lowest_free e.slots
  begins {i} p = by (full e.slots) p
    where
      by : (t : Bool) → if t None (Some (lowest_free e.slots)) ≡ Some i → i ≡ lowest_free e.slots
      by true q = absurd cc
      by false q = cc

  moves : {f : Found} → found_in h.sid e.slots ≡ Some f → IsThat f e h.sid
  moves {f} p = by (holds h.sid e.slots) refl p
    where
      by : (t : Bool) → holds h.sid e.slots ≡ t
          → if t (Some (record { slot = slot_of h.sid e.slots; session = session_of h.sid e.slots })) None ≡ Some f → IsThat f e h.sid
      by true t q = record { slot = cc; session = cc; held = t }
      by false t q = absurd cc

  -- what the table says of the session found
  told : {f : Found} {c : Cell} (k : Kind) → IsThat f e h.sid → c ≡ cell_of f.session.state k → Do f c ≡ does k h e
  told {f} k t q =
      ap (λ (d : Cell). Do f d) q
      ∙ ap₂ (λ (i : ℕ) (x : Session). Do (record { slot = i; session = x }) (cell_of x.state k)) t.slot t.session

  act_at : (a : Act) (k : Kind) → ActAt a k (seen e h.sid) → a ≡ act_of k h e
  act_at (Begin i) k p = rw p.0 (ap Begin (begins p.1))
  act_at (Do f c) Syn p = absurd (p.0 refl)
  act_at (Do f c) Ack p = told Ack (moves p.1.0) p.1.1
  act_at (Do f c) Fin p = told Fin (moves p.1.0) p.1.1
  act_at (Do f c) Data p = told Data (moves p.1.0) p.1.1

  held_at : (a : Act) (k : Kind) → ActAt a k (seen e h.sid) → (k ≡ Syn → ⊥) → holds h.sid e.slots ≡ true
  held_at (Begin i) k p n = absurd (n p.0)
  held_at (Do f c) k p n = (moves p.1.0).held

-- sixteen bytes are there, so the look was for the header's SID
of_header : (bytes : List ℕ) → 16 ≤ length bytes → sid_in bytes ≡ (read_header bytes).sid
of_header bytes h = rw (le-ltb (length bytes) 16 h)

judged_at : (e : End) (bytes : List ℕ) (storage : ℕ) {look : Look} (j : Judged) {short : Bool} → Ok look ≡ look_of base e (sid_in bytes)
    → short ≡ short_storage base e storage → length e.slots ≡ slot_count → Decided j look short bytes → IsJudged j e bytes storage
judged_at e bytes storage {look} j q s n d =
    let sid : sid_in bytes ≡ j.header.sid = of_header bytes (omega (arith, d.low, d.there)) ∙ ap (λ (h : Header). h.sid) (sym d.header) in
    let seen_it : look ≡ seen e j.header.sid = (looked base e (sid_in bytes) q).1 ∙ ap (λ (i : ℕ). seen e i) sid in
    let act : ActAt j.act j.kind (seen e j.header.sid) = rw seen_it at d.act in
    record {
      header = d.header;
      kind = d.kind;
      act = act_at e j.header j.act j.kind act;
      low = d.low;
      high = d.high;
      there = d.there;
      room = rw n at (ltb-false storage (storage_length payload_limit (length e.slots)) (sym s ∙ d.room));
      within = λ other. rw n at (within j.header.sid e.slots (held_at e j.header j.act j.kind act other));
    }

pub judged : (e : End) (bytes : List ℕ) (storage : ℕ) {look : Look} (r : Result Judged Stop) {short : Bool} {sid : ℕ} → sid ≡ sid_in bytes
    → Ok look ≡ look_of base e sid → short ≡ short_storage base e storage → length e.slots ≡ slot_count
    → IfOk r (λ j. Decided j look short bytes) → IfOk r (λ j. IsJudged j e bytes storage)
judged e bytes storage (Ok j) p q s n d = judged_at e bytes storage j (rw p at q) s n d
judged e bytes storage (Err w) p q s n d = d
