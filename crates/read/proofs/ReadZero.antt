-- Where read's number is 0, for any limits: no case applies, so the end is well made and holds the SID, no stored length is over the limit, and
-- buffers and storage are long enough.
use Prim.Native.Nat.{ℕ, ◌≤◌}
use native.Mathlib.Omega.{arith}
use native.Mathlib.Nat.{mod-lt}
use mathlib.Core.Path.{◌≡◌, refl, sym, ap, ◌∙◌, subst}
use mathlib.Core.Bool.{true, false, ◌&&◌}
use mathlib.Core.List.{◌++◌}
use lib.ListN.{length}
use lib.Dec.{ltb}
use borrow.Author.Tests.{ltb-false, not-false}
use Rattle.cases.proofs.Tests.{or_split}
use Rattle.cases.proofs.First.{numbered, test, clear}
use Rattle.wire.specs.Packet.{header_length}
use Rattle.session.specs.declared.record.Session.{Session}
use Rattle.session.specs.Record.{in_use}
use Rattle.session.specs.Notice.{due}
use Rattle.table.specs.declared.end.End.{End}
use Rattle.table.specs.Slots.{holds, session_of, slot_of}
use Rattle.table.specs.Storage.{storage_length}
use Rattle.table.proofs.Slots.{session_at, held, within}
use Rattle.table.proofs.Made.{made}
use Rattle.table.specs.Limits.{Limits}
use Rattle.table.specs.Well.{well_made}
use Rattle.calling.specs.Calling.{calling, short_storage}
use Rattle.read.specs.Read.{oldest_length, read_cases, read_number}

module _ (lim : Limits) (e : End) (sid room ack st : ℕ) (z : read_number lim e sid room ack st ≡ 0) where
  none : (k : ℕ) → test (calling lim e sid ++ read_cases (session_of sid e.slots) room ack (short_storage lim e st)) k ≡ false
  unfolding read_number numbered
  none k = clear _ k refl z

  pub zero_made : well_made lim e ≡ true
  unfolding test
  zero_made = not-false _ (none 12)

  pub zero_held : holds sid e.slots ≡ true
  unfolding test
  zero_held = not-false _ (none 4)

  pub zero_limit : oldest_length (session_of sid e.slots) ≤ lim.place
  zero_limit =
      let x : session_of sid e.slots ≡ _ = session_at sid e.slots in
      let order = (made lim e zero_made).each (slot_of sid e.slots) (within sid e.slots zero_held) in
      let in_use_lem = ap (λ (y : Session). in_use y.state) (sym x) ∙ held sid e.slots ∙ zero_held in
      subst (λ (y : Session). oldest_length y ≤ lim.place) (sym x) ((order.used in_use_lem).lengths _ (mod-lt _ (omega arith)))

  pub zero_room : (oldest_length (session_of sid e.slots) ≤ room) × (due (session_of sid e.slots) && ltb ack header_length ≡ false)
      × (storage_length lim.place (length e.slots) ≤ st)
  unfolding test
  zero_room =
      let nine = or_split _ _ (none 9) in
      let more = or_split (due (session_of sid e.slots) && ltb ack header_length) (short_storage lim e st) nine.1 in
      (ltb-false _ _ nine.0, more.0, ltb-false _ _ more.1)
