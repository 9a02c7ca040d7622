use Rattle.std.proofs.Common.{ap, ltb, ◌+◌, ◌∙◌}
use Rattle.std.proofs.lemmas.List.{get_or_default}
use Rattle.log_check.specs.Kept.{is_accepted}
use Rattle.log_check.proofs.Found.{part_begins, part_goes_on, part_stops, part_ends}
use Rattle.log_check.proofs.parts.first_bad.Goals as goal

pub loop-offset-init : goal.loop-offset-init
loop-offset-init c = part_begins c.args.work.now.proof.now c.args.work.now.calendar c.args.start c.args.part.now

pub loop-offset-preserved : goal.loop-offset-preserved
loop-offset-preserved c =
    part_goes_on c.args.work.now.proof.now c.args.work.now.calendar c.args.start c.args.part.now c.loop-offset.offset _ _ c.loop-offset-test.true (get_or_default c.args.part.now c.loop-offset.offset _ _ c.loop-offset-test.true) c.loop-offset.invariant (λ live keeps. c.in_ok-is_valid.ensures live keeps ∙ ap (λ line. is_accepted (ltb (c.args.start + c.loop-offset.offset) c.args.work.now.calendar.ordered) live line) c.line-line.ensures) c.if-not-branch.false

pub returns-then-not-branch : goal.returns-then-not-branch
returns-then-not-branch c =
    part_stops c.args.work.now.proof.now c.args.work.now.calendar c.args.start c.args.part.now c.loop-offset.offset _ _ c.loop-offset-test.true (get_or_default c.args.part.now c.loop-offset.offset _ _ c.loop-offset-test.true) c.loop-offset.invariant (λ live keeps. c.in_ok-is_valid.ensures live keeps ∙ ap (λ line. is_accepted (ltb (c.args.start + c.loop-offset.offset) c.args.work.now.calendar.ordered) live line) c.line-line.ensures) c.if-not-branch.true

pub returns : goal.returns
returns c = part_ends c.args.work.now.proof.now c.args.work.now.calendar c.args.start c.args.part.now c.loop-offset.offset c.loop-offset-test.false c.loop-offset.invariant
