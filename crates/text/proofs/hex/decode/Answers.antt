-- A turn writes one more byte of the text.
use Rattle.std.proofs.Common.{◌≡◌, ◌∙◌, ◌*◌, ◌≤◌, ap, length, rules}
use Rattle.buffer.specs.Onto.{onto}
use Rattle.text.specs.Hex.{from_hex}
use Rattle.text.proofs.Decoding.{decode_first, decode_on, decode_room, decode_last}
use Rattle.text.proofs.Writing.{front}
use Rattle.text.proofs.hex.decode.Goals as goal

pub loop-pair-init : goal.loop-pair-init
loop-pair-init c =
    let i = c.into_iter-pair-iterator.result in
    let e : i.rest.now ≡ c.args.text.now = search rules in
    let h : i.size ≡ 2 = search rules in
    decode_first c.args.text.now c.from-w.result i.rest.now i.size e h

pub byte-requires : goal.byte-requires
byte-requires c =
    let s = c.in-Some.ensures.steps in
    let h : length c.args.text.now ≤ 2 * length c.from-w.result.out.now = search rules in
    decode_room c.in-Some.pair.now c.next.new.self.rest.now c.loop-pair.invariant c.from-w.ensures.place h s.1.0 s.1.1

pub loop-pair-preserved : goal.loop-pair-preserved
loop-pair-preserved c =
    let s = c.in-Some.ensures.steps in
    decode_on c.in-Some.pair.now c.loop-pair.invariant s.0 s.1.0 s.1.1 c.byte_of.ensures c.byte.ensures

pub returns-clause-out_after : goal.returns-clause-out_after
returns-clause-out_after c =
    let d = decode_last c.loop-pair.invariant c.in-None.ensures.steps.1.0 in
    let e : c.loop-pair.w.out.now ≡ onto (from_hex c.args.text.now) c.args.out.now =
    (front d c.from-w.ensures.place).0 ∙ ap (onto (from_hex c.args.text.now)) c.from-w.ensures.bytes in
    search (rules, e)

pub returns-clause-value : goal.returns-clause-value
returns-clause-value c =
    let d = decode_last c.loop-pair.invariant c.in-None.ensures.steps.1.0 in
    c.place.ensures ∙ (front d c.from-w.ensures.place).1
