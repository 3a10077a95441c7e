-- What is written, with the report on the lines still to come, is the whole report. There are no more lines than bytes, and there is room for each.
use Rattle.text.specs.Lines.{lines}
use Rattle.capture.proofs.Reports.{Going, reported}
use Rattle.capture.proofs.feed_lines.Given as goal

abbrev pub invariant-loop-i : goal.invariant-loop-i
invariant-loop-i l = Going (reported l.text) l.initial.w l.w l.e l.i-iterator.count (lines l.i-iterator.iter.rest.now)
