-- What is written, with the bytes of the pairs still to come, are the bytes of the text.
use Rattle.text.proofs.Decoding.{Decoding}
use Rattle.text.proofs.hex.decode.Given as goal

abbrev pub invariant-loop-pair : goal.invariant-loop-pair
invariant-loop-pair l = Decoding l.text l.initial.w l.w l.pair-iterator.rest.now l.pair-iterator.size
