use Rattle.std.proofs.Common.{◌∙◌, ◌+◌, ap, sym, refl, map, drop}
use Rattle.std.proofs.Math.ListN.{drop_of_length-le}
use Rattle.ep_tree.specs.SolutionTexts.{is_find}
use Rattle.ep_types_rules.proofs.RuleSteps.{next_is}
use Rattle.ep_instance_parts.specs.Instances.{find_of}
use Rattle.ep_instance.proofs.ShapingSteps.{find_here, find_later, find_nowhere}
use Rattle.ep_instance.proofs.solutions.is_find.Goals as goal

pub loop-find-init : goal.loop-find-init
loop-find-init c = refl

pub loop-find-preserved : goal.loop-find-preserved
loop-find-preserved c =
    let k = c.loop-find.find-index in
    let finds = c.args.finds.now in
    let cut = ap (λ fs. is_find (map find_of fs) c.args.name.now) (next_is finds k c.find-item.result c.loop-find-test.true c.find-item.is) in
    c.loop-find.invariant ∙ cut ∙ find_later (find_of c.find-item.result) (map find_of (drop (k + 1) finds)) c.args.name.now (sym c.eq.ensures ∙ c.if-eq.false)

pub returns-then-eq : goal.returns-then-eq
returns-then-eq c =
    let k = c.loop-find.find-index in
    let finds = c.args.finds.now in
    let cut = ap (λ fs. is_find (map find_of fs) c.args.name.now) (next_is finds k c.find-item.result c.loop-find-test.true c.find-item.is) in
    sym (c.loop-find.invariant ∙ cut ∙ find_here (find_of c.find-item.result) (map find_of (drop (k + 1) finds)) c.args.name.now (sym c.eq.ensures ∙ c.if-eq.true))

pub returns : goal.returns
returns c =
    sym
    (c.loop-find.invariant
    ∙ ap (λ fs. is_find (map find_of fs) c.args.name.now) (drop_of_length-le c.args.finds.now c.loop-find-test.false)
    ∙ find_nowhere c.args.name.now)
