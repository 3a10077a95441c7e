-- A turn writes the digits of one more byte.
use Rattle.std.proofs.Common.{subst, sym, List, ℕ}
use Rattle.text.specs.Writing.{Written}
use Rattle.text.proofs.Bytes.{to_push}
use Rattle.text.proofs.Writing.{then}
use Rattle.text.proofs.hex.put.Goals as goal

pub loop-b-preserved : goal.loop-b-preserved
loop-b-preserved c =
    let l = c.loop-b in
    subst (λ (t : List ℕ). Written c.from-w.result t c.byte.new.w) (sym (to_push c.args.bytes.now l.b-index c.loop-b-test.true))
    (then l.invariant c.byte.ensures)
