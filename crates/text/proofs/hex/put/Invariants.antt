-- The digits of the bytes so far are written.
use Rattle.std.proofs.Common.{take}
use Rattle.text.specs.Hex.{to_hex}
use Rattle.text.specs.Writing.{Written}
use Rattle.text.proofs.hex.put.Given as goal

abbrev pub invariant-loop-b : goal.invariant-loop-b
invariant-loop-b l = Written l.initial.w (to_hex (take l.b-index l.bytes)) l.w
