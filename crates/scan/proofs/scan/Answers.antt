-- Slot by slot what was seen grows by the slot. Where no mark was met twice SIDs differ; else `sids_differ` said so.
use Rattle.std.proofs.Common.{arith, ◌<◌, length, refl, rules}
use Rattle.table.specs.Limits.{base}
use Rattle.scan.proofs.Seen.{going_none, going_that, going_other, going_free, slot_within, look_made, look_ill}
use Rattle.scan.proofs.scan.Goals as goal

pub loop-i-init : goal.loop-i-init
loop-i-init c = going_none base c.args.e.now.up c.args.e.now.slots c.args.sid _ refl (cc) (cc)

pub returns-then-not-may_stand : goal.returns-then-not-may_stand
returns-then-not-may_stand c = look_ill base c.args.e.now c.args.sid c.loop-i.invariant _ _ c.in-Some.ensures.steps.1.0 (cc)

pub loop-i-preserved-then-x-sid : goal.loop-i-preserved-then-x-sid
loop-i-preserved-then-x-sid c =
    let p = c.in-Some.ensures.steps in going_that c.loop-i.invariant _ _ p.1.0 p.0 p.1.1 (cc) (cc) (cc) (cc)

pub loop-i-preserved-else-x-sid : goal.loop-i-preserved-else-x-sid
loop-i-preserved-else-x-sid c =
    let p = c.in-Some.ensures.steps in going_other c.loop-i.invariant _ _ p.1.0 p.0 p.1.1 (cc) (cc) (cc) c.if-x-sid.false

pub loop-i-preserved : goal.loop-i-preserved
loop-i-preserved c =
    let p = c.in-Some.ensures.steps in going_free c.loop-i.invariant _ _ p.1.0 p.0 p.1.1 (cc) (cc)

pub map-found-requires : goal.map-found-requires
map-found-requires c x p =
    let b : x < length c.args.e.now.slots = slot_within c.loop-i.invariant.seen p in (λ _ _ _ _ _. omega arith, λ _ _ _ _ _. b)

pub returns : goal.returns
returns c = look_made base c.args.e.now c.args.sid c.loop-i.invariant c.in-None.ensures.steps.1.0 (λ t. grind arith) (search rules)
