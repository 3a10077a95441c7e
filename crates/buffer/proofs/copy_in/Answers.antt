-- A turn puts one more byte of src in its place.
use Rattle.std.proofs.Common.{arith}
use Rattle.std.proofs.lemmas.List.Edits.{paste_more}
use Rattle.buffer.proofs.copy_in.Goals as goal

pub loop-i-preserved : goal.loop-i-preserved
loop-i-preserved c =
    rw c.loop-i.invariant (paste_more c.args.dst.now c.args.at c.args.src.now c.loop-i.i 0 (omega arith) (omega arith))
