-- One call at one end, whatever bytes come: where the record is well made under document 01's highest window, the call does the same under a higher
-- one, unless it is a take that gave 27 or 28. (Start knows no limits.)
use Rattle.std.specs.Prelude.{None, Option, Some}
use Prim.Native.Nat.{ℕ, ◌≤◌}
use mathlib.Core.Path.{◌≡◌, refl, sym, ap, ap₂, ◌∙◌, subst}
use mathlib.Core.Bool.{Bool, true}
use mathlib.Core.List.{List, ◌++◌}
use lib.ListN.{length, take, drop}
use Rattle.cases.specs.Cases.{Case, first, done}
use Rattle.wire.specs.declared.header.Header.{Header}
use Rattle.wire.specs.declared.kind.Kind.{Kind}
use Rattle.wire.specs.Packet.{read_header, flags_of}
use Rattle.session.specs.Record.{window}
use Rattle.effect.specs.declared.cell.Cell.{Cell}
use Rattle.effect.specs.declared.cell.Cell.TheVariants as cell
use Rattle.effect.specs.Taken.{cell_of}
use Rattle.table.specs.declared.end.End.{End}
use Rattle.table.specs.Slots.{holds, session_of, slot_of, full}
use Rattle.table.specs.Limits.{Limits}
use Rattle.table.specs.Well.{well_made}
use Rattle.table.specs.End.{down_of}
use Rattle.calling.specs.Calling.{called, calling, short_storage}
use Rattle.open.specs.Open.{open_cases, open_number, open_of, open_packet}
use Rattle.send.specs.Send.{send_cases, send_number, send_of, send_packet}
use Rattle.read.specs.Read.{read_cases, read_number, read_of, read_payload, read_ack}
use Rattle.close.specs.Close.{close_cases, close_number, close_of, close_packet}
use Rattle.shutdown.specs.Shutdown.{shutdown_cases, shutdown_number, shutdown_answer, shutdown_of}
use Rattle.judge.specs.Number.{take_cases, packet_cases, take_number}
use Rattle.take.specs.Take.{take_answer, take_of, kept, taken_storage, take_storage}
use Rattle.take.proofs.Answered.{take_told}
use Rattle.pair.specs.World.{Party}
use Rattle.pair.specs.Step.{Call, Open, Send, Read, Close, Take, Done, taking, did}
use Rattle.wider.specs.Narrow.{narrow, Unwidened}
use Rattle.wider.proofs.TakeCases.{wider_made, same_kind}

module _ (lim : Limits) (low : window ≤ lim.window) (p : Party) (w : well_made (narrow lim) p.end ≡ true) where
  abbrev e : End
  e = p.end

  -- the tests that a call begins with, by whether the record is well made
  same_made : well_made lim e ≡ well_made (narrow lim) e
  same_made = wider_made lim low e w ∙ sym w

  open_number_lem : (room : ℕ) → open_number lim e room ≡ open_number (narrow lim) e room
  unfolding open_number
  open_number_lem room = ap (λ (b : Bool). first (open_cases b e.up e.role (full e.slots) room)) same_made

  same_open : (room : ℕ) → did lim (Open room) p ≡ did (narrow lim) (Open room) p
  unfolding open_of open_packet
  same_open room = rw (open_number_lem room)

  module _ (sid : ℕ) where
    -- 12, 1, 4, then the call's own cases, which ask for no window
    same_number : (cs : List Case) → first (calling lim e sid ++ cs) ≡ first (calling (narrow lim) e sid ++ cs)
    same_number cs = ap (λ (b : Bool). first (called b e.up (holds sid e.slots) ++ cs)) same_made

    send_number_lem : (n room : ℕ) → send_number lim e sid n room ≡ send_number (narrow lim) e sid n room
    unfolding send_number
    send_number_lem n room = same_number (send_cases lim (session_of sid e.slots) n room)

    same_send : (payload : List ℕ) (room : ℕ) → did lim (Send sid payload room) p ≡ did (narrow lim) (Send sid payload room) p
    unfolding send_of send_packet
    same_send payload room = rw (send_number_lem (length payload) room)

    read_number_lem : (room ack n : ℕ) → read_number lim e sid room ack n ≡ read_number (narrow lim) e sid room ack n
    unfolding read_number
    read_number_lem room ack n = same_number (read_cases (session_of sid e.slots) room ack (short_storage lim e n))

    same_read : (room ack lent : ℕ) → did lim (Read sid room ack lent) p ≡ did (narrow lim) (Read sid room ack lent) p
    unfolding read_of read_payload read_ack
    same_read room ack lent = rw (read_number_lem room ack (length (take lent p.storage)))

    close_number_lem : (room : ℕ) → close_number lim e sid room ≡ close_number (narrow lim) e sid room
    unfolding close_number
    close_number_lem room = same_number (close_cases (session_of sid e.slots) room)

    same_close : (room : ℕ) → did lim (Close sid room) p ≡ did (narrow lim) (Close sid room) p
    unfolding close_of close_packet
    same_close room = rw (close_number_lem room)

  module _ (given lent : ℕ) where
    abbrev bytes : List ℕ
    bytes = take given p.coming

    abbrev storage : List ℕ
    storage = take lent p.storage

    abbrev h : Header
    h = read_header bytes

    abbrev number : Limits → ℕ
    number l = take_number l e bytes (length storage)

    same_take_number : Unwidened (number (narrow lim)) → number lim ≡ number (narrow lim)
    unfolding take_number
    same_take_number u =
        let x = session_of h.sid e.slots in
        let held = holds h.sid e.slots in
        let short = short_storage lim e (length storage) in
        let cases : Bool → Limits → List Case = λ (b : Bool) (l : Limits).
        take_cases b e.up short (length bytes) ++ packet_cases l e.role held (full e.slots) x h (length bytes) in
        ap (λ (b : Bool). first (cases b lim)) (wider_made lim low e w)
        ∙ same_kind lim low e.up short e.role held (full e.slots) x h (length bytes) (flags_of h.flags)
        (subst Unwidened (ap (λ (b : Bool). first (cases b (narrow lim))) w) u)
        ∙ sym (ap (λ (b : Bool). first (cases b (narrow lim))) w)

    same_kept : (c : Cell) (i : ℕ) → kept lim c i h bytes storage ≡ kept (narrow lim) c i h bytes storage
    same_kept cell.Store i = refl
    same_kept cell.Grant i = refl
    same_kept cell.End i = refl
    same_kept cell.Ignore i = refl
    same_kept cell.Free i = refl
    same_kept cell.Fault i = refl

    same_storage : (f : Option Kind) → taken_storage lim f e h bytes storage ≡ taken_storage (narrow lim) f e h bytes storage
    same_storage (Some k) = same_kept (cell_of (session_of h.sid e.slots).state k) (slot_of h.sid e.slots)
    same_storage None = refl

    -- the answer and the storage from the number
    abbrev result : ℕ → List ℕ → Done
    result n stored =
        let r = take_answer n bytes e in record {
          reply = taking r.number r.used r.kind r.sid r.missing;
          end = r.end;
          storage = done n stored storage ++ drop lent p.storage;
        }

    same_take : Unwidened (number (narrow lim)) → did lim (Take given lent) p ≡ did (narrow lim) (Take given lent) p
    unfolding take_of take_storage
    same_take u = ap₂ result (same_take_number u) (same_storage (flags_of h.flags))

  -- take's number is its reply's
  reply_number : (given lent : ℕ) → (did (narrow lim) (Take given lent) p).reply.number ≡ number given lent (narrow lim)
  unfolding take_of
  reply_number given lent = take_told (number given lent (narrow lim)) (bytes given lent) e

  pub same_call : (c : Call) → Unwidened (did (narrow lim) c p).reply.number → did lim c p ≡ did (narrow lim) c p
  same_call (Open room) u = same_open room
  same_call (Send sid payload room) u = same_send sid payload room
  same_call (Read sid room ack lent) u = same_read sid room ack lent
  same_call (Close sid room) u = same_close sid room
  same_call (Take given lent) u = same_take given lent (subst Unwidened (reply_number given lent) u)

  pub same_shutdown : shutdown_of lim p.end ≡ shutdown_of (narrow lim) p.end
  unfolding shutdown_of shutdown_number
  same_shutdown =
      ap (λ (b : Bool). let n = first (shutdown_cases b e.up) in done n (shutdown_answer 0 (down_of e)) (shutdown_answer n e)) same_made
