-- A turn tells of one line more; behind the last one comes the end's own line.
use Rattle.std.proofs.Common.{◌≡◌, ◌∙◌, ap, rules}
use Rattle.buffer.specs.Onto.{onto}
use Rattle.text.specs.Lines.{lines}
use Rattle.capture.proofs.Reports.{reported, go_first, go_on, go_last}
use Rattle.capture.proofs.feed_lines.Goals as goal

pub loop-i-init : goal.loop-i-init
loop-i-init c =
    let i = c.into_iter-i-iterator.result in
    let z : i.count ≡ 0 = search rules in
    let m : lines i.iter.rest.now ≡ lines c.args.text.now = search rules in
    go_first c.args.text.now c.requires c.from-w.ensures.place c.start-e.ensures z m

pub loop-i-preserved : goal.loop-i-preserved
loop-i-preserved c =
    let l = c.one_line-l.ensures in
    let r = c.line_row.ensures in
    let s = c.in-Some.ensures.steps in
    go_on c.loop-i.invariant s.0 s.1 s.2 l.told l.end_after r.wrote r.l_len_bound

pub returns-clause-out_after : goal.returns-clause-out_after
returns-clause-out_after c =
    let s = c.in-None.ensures.steps in
    (go_last c.loop-i.invariant s.0.0 c.from-w.ensures.place c.held.ensures c.last_row.ensures.wrote).0
    ∙ ap (onto (reported c.args.text.now)) c.from-w.ensures.bytes

pub returns-clause-value : goal.returns-clause-value
returns-clause-value c =
    let s = c.in-None.ensures.steps in
    c.place.ensures ∙ (go_last c.loop-i.invariant s.0.0 c.from-w.ensures.place c.held.ensures c.last_row.ensures.wrote).1
