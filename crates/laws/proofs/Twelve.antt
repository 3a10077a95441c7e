-- 12 comes only for a record that isn't well made. With laws/proofs/Kept.antt: a caller who lends each call the record that the call before
-- returned never sees 12.
use Rattle.std.specs.Prelude.{None, Option, Some}
use Prim.Native.Nat.{ℕ}
use mathlib.Core.Path.{◌≡◌, refl}
use mathlib.Core.Bool.{Bool, true, not, ◌&&◌}
use mathlib.Core.List.{List, [], ◌∷◌}
use native.Mathlib.Omega.{arith}
use lib.Dec.{eqb}
use borrow.Author.Tests.{eqb-false, not-true}
use Rattle.cases.proofs.Tests.{and_split}
use Rattle.wire.specs.declared.header.Header.{Header}
use Rattle.wire.specs.declared.kind.Kind.{Kind}
use Rattle.wire.specs.declared.kind.Kind.TheVariants.{Syn, Ack, Fin, Data}
use Rattle.wire.specs.Packet.{flags_of, read_header}
use Rattle.table.specs.declared.end.End.{End}
use Rattle.table.proofs.Made.{made}
use Rattle.open.specs.Open.{OpenAnswer}
use Rattle.send.specs.Send.{SendAnswer}
use Rattle.read.specs.Read.{ReadAnswer}
use Rattle.close.specs.Close.{CloseAnswer}
use Rattle.shutdown.specs.Shutdown.{ShutdownAnswer}
use Rattle.take.specs.Take.{TakeAnswer}
use Rattle.table.specs.Limits.{base}
use Rattle.table.specs.Well.{well_made}
use Rattle.open.specs.Open.{OpenPromise}
use Rattle.send.specs.Send.{SendPromise}
use Rattle.read.specs.Read.{ReadPromise}
use Rattle.close.specs.Close.{ClosePromise}
use Rattle.shutdown.specs.Shutdown.{ShutdownPromise}
use Rattle.take.specs.Take.{TakePromise}
use Rattle.laws.specs.When.{When, Applies, here, later, Exactly}
use Rattle.laws.specs.Whens.{is_well, kind_whens}
use Rattle.laws.specs.Lists.{Among, first, further}
use Rattle.laws.proofs.Exact.{open_exact, send_exact, read_exact, close_exact, shutdown_exact, take_exact}
use Rattle.laws.proofs.Demand1.{numbers, among}

-- n isn't in a list of numbers
abbrev absent : ℕ → List ℕ → Bool
absent n [] = true
absent n (m ∷ l) = not (eqb n m) && absent n l

not_among : {n : ℕ} {l : List ℕ} → Among n l → absent n l ≡ true → ⊥
not_among {n} (first {m = m} {l = l} p) a = eqb-false n m (not-true _ (and_split (not (eqb n m)) (absent n l) a).0) p
not_among {n} (further {m = m} {l = l} q) a = not_among q (and_split (not (eqb n m)) (absent n l) a).1

-- where the first case is 12 and no other has that number
only_12 : {n : ℕ} {e : End} {ws : List When} → Exactly n (is_well e ∷ ws) → absent 12 (numbers ws) ≡ true → well_made base e ≡ true → n ≡ 12 → ⊥
only_12 {n} {e} {ws} x a g p = by (x.only 12 p (λ q. omega arith))
  where
    by : Applies (is_well e ∷ ws) 12 → ⊥
    by (here f) = f (made base e g)
    by (later q r) = not_among (among r) a

kinds : (f : Option Kind) (e : End) (h : Header) → absent 12 (numbers (kind_whens f e h)) ≡ true
kinds (Some Syn) e h = refl
kinds (Some Ack) e h = refl
kinds (Some Fin) e h = refl
kinds (Some Data) e h = refl
kinds None e h = refl

pub open_12 : {e : End} {lent exit : List ℕ} {r : OpenAnswer} → OpenPromise e lent r exit → well_made base e ≡ true → r.number ≡ 12 → ⊥
open_12 p = only_12 (open_exact p) refl

pub send_12 : {e : End} {sid : ℕ} {payload lent exit : List ℕ} {r : SendAnswer} → SendPromise e sid payload lent r exit → well_made base e ≡ true → r.number ≡ 12 → ⊥
send_12 p = only_12 (send_exact p) refl

pub read_12 : {e : End} {sid : ℕ} {storage lent lentAck exit exitAck : List ℕ} {r : ReadAnswer} → ReadPromise e sid storage lent lentAck r exit exitAck
    → well_made base e ≡ true → r.number ≡ 12 → ⊥
read_12 p = only_12 (read_exact p) refl

pub close_12 : {e : End} {sid : ℕ} {lent exit : List ℕ} {r : CloseAnswer} → ClosePromise e sid lent r exit → well_made base e ≡ true → r.number ≡ 12 → ⊥
close_12 p = only_12 (close_exact p) refl

pub shutdown_12 : {e : End} {r : ShutdownAnswer} → ShutdownPromise e r → well_made base e ≡ true → r.number ≡ 12 → ⊥
shutdown_12 p = only_12 (shutdown_exact p) refl

pub take_12 : {e : End} {bytes lent exit : List ℕ} {r : TakeAnswer} → TakePromise e bytes lent r exit → well_made base e ≡ true → r.number ≡ 12 → ⊥
take_12 {e} {bytes} p = only_12 (take_exact p) (kinds (flags_of (read_header bytes).flags) e (read_header bytes))
