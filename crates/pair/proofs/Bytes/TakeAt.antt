-- Take of a whole packet, by the slot that it concerns: a lane's packet goes to the slot that holds its SID, and a SYN to the lowest free one.
use Prim.Native.Nat.{ℕ, ◌+◌, ◌^◌, ◌≤◌, ◌<◌}
use mathlib.Core.Path.{◌≡◌, refl, ap, ◌∙◌}
use mathlib.Core.Bool.{Bool, true, false, not}
use mathlib.Core.List.{List, [], ◌∷◌, ◌++◌}
use lib.ListN.{length, take, get_or}
use borrow.Author.Tests.{le-leb}
use Rattle.cases.specs.Cases.{Case, ◌⇒◌, if, first}
use Rattle.wire.specs.declared.header.Header.{Header}
use Rattle.wire.specs.declared.kind.Kind.{Kind}
use Rattle.wire.specs.Packet.{header_length}
use Rattle.session.specs.declared.record.Session.{Session}
use Rattle.session.specs.Record.{window, free, fresh_of, fin_received}
use Rattle.effect.specs.Taken.{window_in_range, seqnum_in_range, cell_of}
use Rattle.table.specs.declared.end.Role.{Role}
use Rattle.table.specs.declared.end.Role.TheVariants.{Server}
use Rattle.table.specs.declared.end.End.{End}
use Rattle.table.specs.Slots.{holds, session_of, slot_of, lowest_free, full}
use Rattle.table.specs.End.{put_of}
use Rattle.table.proofs.SlotAt.{At, at_holds, at_slot, at_session, at_end}
use Rattle.table.specs.Limits.{Limits}
use Rattle.table.specs.Well.{well_made}
use Rattle.calling.specs.Calling.{short_storage}
use Rattle.open.specs.Open.{syn_header}
use Rattle.judge.specs.Number.{syn_cases, other_cases, take_number}
use Rattle.take.specs.Take.{taken_on, take_done, take_of, kept, take_storage}
use Rattle.pair.proofs.Lane.Half.{Packet}
use Rattle.pair.proofs.Bytes.Encoded.{kind_of, payload_of, header_for, packet_for, syn_for}
use Rattle.pair.proofs.Bytes.TakeFront.{packet_number, packet_answer, packet_storage, syn_number, syn_answer, syn_storage}

-- what a packet other than SYN asks of its session
abbrev pub take_on : Limits → Kind → Session → Header → List Case
take_on lim k x h = fin_received x.state ⇒ 30 ∷ not (window_in_range lim.window x h.wndw) ⇒ 28 ∷ not (seqnum_in_range x k h.seqnum) ⇒ 29 ∷ []

pub held_cases : (lim : Limits) (k : Kind) (x : Session) (h : Header) → first (other_cases lim k true x h) ≡ first (take_on lim k x h)
unfolding first
held_cases lim k x h = refl

module _ (lim : Limits) (small : header_length + lim.place < 2 ^ 32) (e : End) (g : well_made lim e ≡ true) (u : e.up ≡ true) (sid : ℕ) (low : sid < 2 ^ 16)
    (p : Packet) (fits : length (payload_of p) ≤ lim.place) (rest : List ℕ) (n : ℕ) (l : length (packet_for sid p) ≤ n) where
  -- slot i holds it
  module _ (i : ℕ) (a : At sid i e.slots) where
    taken_number : (st : ℕ) → take_number lim e (take n (packet_for sid p ++ rest)) st
        ≡ if (short_storage lim e st) 9 (first (take_on lim (kind_of p) (get_or e.slots i free) (header_for sid p)))
    taken_number st =
        packet_number lim small e g u sid low p fits rest n l st
        ∙ ap (λ (b : Bool). if (short_storage lim e st) 9 (first (other_cases lim (kind_of p) b (session_of sid e.slots) (header_for sid p)))) (at_holds a)
        ∙ ap (λ (x : Session). if (short_storage lim e st) 9 (first (other_cases lim (kind_of p) true x (header_for sid p)))) (at_session a)
        ∙ ap (λ (m : ℕ). if (short_storage lim e st) 9 m) (held_cases lim (kind_of p) (get_or e.slots i free) (header_for sid p))

    -- the storage is long enough and no case applies
    module _ (clear : first (take_on lim (kind_of p) (get_or e.slots i free) (header_for sid p)) ≡ 0) where
      taken_zero : (st : ℕ) → short_storage lim e st ≡ false → take_number lim e (take n (packet_for sid p ++ rest)) st ≡ 0
      taken_zero st s = taken_number st ∙ ap (λ (b : Bool). if b 9 (first (take_on lim (kind_of p) (get_or e.slots i free) (header_for sid p)))) s ∙ clear

      pub taken_answer_lem : (st : ℕ) → short_storage lim e st ≡ false → take_of lim e (take n (packet_for sid p ++ rest)) st
          ≡ take_done (header_for sid p) (put_of i (taken_on (kind_of p) (header_for sid p) (get_or e.slots i free)) e)
      taken_answer_lem st s =
          packet_answer lim small e g u sid low p fits rest n l st (taken_zero st s)
          ∙ ap (take_done (header_for sid p)) (at_end a (taken_on (kind_of p) (header_for sid p)))

      pub taken_storage_lem : (lent : List ℕ) → short_storage lim e (length lent) ≡ false → take_storage lim e (take n (packet_for sid p ++ rest)) lent
          ≡ kept lim (cell_of (get_or e.slots i free).state (kind_of p)) i (header_for sid p) (packet_for sid p) lent
      taken_storage_lem lent s =
          packet_storage lim small e g u sid low p fits rest n l lent (taken_zero (length lent) s)
          ∙ ap (λ (x : Session). kept lim (cell_of x.state (kind_of p)) (slot_of sid e.slots) (header_for sid p) (packet_for sid p) lent) (at_session a)
          ∙ ap (λ (j : ℕ). kept lim (cell_of (get_or e.slots i free).state (kind_of p)) j (header_for sid p) (packet_for sid p) lent) (at_slot a)

-- a SYN at a server with a free slot, under a SID that isn't in the table: what ends emit never meets 27
syn_clear : (lim : Limits) → window ≤ lim.window → (sid : ℕ) → first (syn_cases lim Server false false (syn_header sid)) ≡ 0
unfolding first
syn_clear lim wide sid = rw (le-leb window lim.window wide)

module _ (lim : Limits) (small : header_length + lim.place < 2 ^ 32) (e : End) (g : well_made lim e ≡ true) (u : e.up ≡ true) (sid : ℕ) (low : sid < 2 ^ 16)
    (rest : List ℕ) (n : ℕ) (l : length (syn_for sid) ≤ n) (wide : window ≤ lim.window) (server : e.role ≡ Server) (new : holds sid e.slots ≡ false)
    (room : full e.slots ≡ false) where
  begun_number : (st : ℕ) → take_number lim e (take n (syn_for sid ++ rest)) st ≡ if (short_storage lim e st) 9 0
  begun_number st =
      syn_number lim small e g u sid low rest n l st
      ∙ ap (λ (ρ : Role). if (short_storage lim e st) 9 (first (syn_cases lim ρ (holds sid e.slots) (full e.slots) (syn_header sid)))) server
      ∙ ap (λ (b : Bool). if (short_storage lim e st) 9 (first (syn_cases lim Server b (full e.slots) (syn_header sid)))) new
      ∙ ap (λ (b : Bool). if (short_storage lim e st) 9 (first (syn_cases lim Server false b (syn_header sid)))) room
      ∙ ap (λ (m : ℕ). if (short_storage lim e st) 9 m) (syn_clear lim wide sid)

  begun_zero : (st : ℕ) → short_storage lim e st ≡ false → take_number lim e (take n (syn_for sid ++ rest)) st ≡ 0
  begun_zero st s = begun_number st ∙ ap (λ (b : Bool). if b 9 0) s

  pub begun_answer : (st : ℕ) → short_storage lim e st ≡ false
      → take_of lim e (take n (syn_for sid ++ rest)) st ≡ take_done (syn_header sid) (put_of (lowest_free e.slots) (fresh_of sid) e)
  begun_answer st s = syn_answer lim small e g u sid low rest n l st (begun_zero st s)

  pub begun_storage : (lent : List ℕ) → short_storage lim e (length lent) ≡ false → take_storage lim e (take n (syn_for sid ++ rest)) lent ≡ lent
  begun_storage lent s = syn_storage lim small e g u sid low rest n l lent (begun_zero (length lent) s)
