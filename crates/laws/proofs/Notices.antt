-- Notices of the window (document 02, (i)), over the definitions that the calls' promises cite: what each call makes of L.
use Prim.Native.Nat.{ℕ}
use mathlib.Core.Path.{◌≡◌, refl}
use mathlib.Core.Bool.{true, false}
use mathlib.Core.List.{[], ◌∷◌}
use Rattle.session.specs.declared.record.State.TheVariants.{Established, FinReceived}
use Rattle.session.specs.declared.record.Session.{Session}
use Rattle.session.specs.Record.{record_of, fresh_of}
use Rattle.session.specs.Notice.{new_g, due}
use Rattle.session.specs.Changes.{sent_on, read_on, closed_on}
use Rattle.open.specs.Open.{syn_header}
use Rattle.send.specs.Send.{data_header}
use Rattle.read.specs.Read.{ack_header, ack_on}
use Rattle.close.specs.Close.{fin_header}

-- ---- every emitted packet sets L to its WNDW

pub syn_says : (sid : ℕ) → (fresh_of sid).l ≡ (syn_header sid).wndw
syn_says sid = refl

pub data_says : (x : Session) (n : ℕ) → (sent_on x).l ≡ (data_header x n).wndw
data_says x n = refl

pub ack_says : (x : Session) → due x ≡ true → (read_on x).l ≡ (ack_header x).wndw
ack_says x d = rw d

pub fin_says : (x : Session) → x.state ≡ Established → (closed_on x).l ≡ (fin_header x).wndw
fin_says x e = rw e

-- ---- a read that emits none leaves L; in FIN RECEIVED it sets L to the new G

pub quiet_leaves : (x : Session) → x.state ≡ Established → due x ≡ false → ((read_on x).l ≡ x.l) × (ack_on x ≡ [])
quiet_leaves x e d = (rw (d, e), rw d)

pub last_sets : (x : Session) → x.state ≡ FinReceived → ((read_on x).l ≡ new_g x) × (ack_on x ≡ [])
unfolding due
last_sets x e = (rw e, rw e)

-- ---- evaluated, before the wrap and across it: an ACK at 2 past L and none at 1

abbrev at : ℕ → ℕ → Session
at g l = record_of Established 5 0 4 g g l (0 ∷ 0 ∷ 0 ∷ 0 ∷ [])

pub at_2 : due (at 5 4) ≡ true
unfolding due
at_2 = refl

pub at_1 : due (at 4 4) ≡ false
unfolding due
at_1 = refl

pub at_2_wrapped : due (at 0xffffffff 0xfffffffe) ≡ true
unfolding due
at_2_wrapped = refl

pub at_2_behind : due (at 0 0xffffffff) ≡ true
unfolding due
at_2_behind = refl

pub at_1_wrapped : due (at 0xffffffff 0xffffffff) ≡ false
unfolding due
at_1_wrapped = refl
