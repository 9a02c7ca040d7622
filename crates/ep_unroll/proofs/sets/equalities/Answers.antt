use Rattle.ep_unroll.proofs.Words.{length, subst, sym, ◌<◌}
use Rattle.ep_ground.specs.Nodes.{parts_of}
use Rattle.ep_unroll.proofs.FormSteps.{two_known}
use Rattle.ep_unroll.proofs.FormValues.{grows_long}
use Rattle.ep_unroll.proofs.SetSteps.{equalities_all, equalities_begin, equalities_more}
use Rattle.ep_unroll.proofs.sets.equalities.Goals as goal

pub loop-term-init : goal.loop-term-init
loop-term-init c = equalities_begin c.args.arena.now c.args.part c.args.terms.now c.new-tests.result.items c.new-tests.ensures.items

pub put-requires : goal.put-requires
unfolding parts_of
put-requires c =
    let g = c.loop-term.invariant.grows in
    two_known c.args.part c.term-item.result (length c.loop-term.arena) (grows_long c.args.arena.now c.loop-term.arena c.args.part g c.requires.part)
    (grows_long c.args.arena.now c.loop-term.arena c.term-item.result g
    (subst (λ t. t < length c.args.arena.now) (sym c.term-item.is) (c.requires.terms c.loop-term.term-index _ c.loop-term-test.true)))

pub loop-term-preserved : goal.loop-term-preserved
loop-term-preserved c =
    equalities_more c.args.arena.now c.loop-term.arena c.put.new.arena c.args.part c.args.terms.now c.loop-term.term-index c.term-item.result _ c.in_ok-test.test c.loop-term.tests.items c.push.new.self.items
    c.requires.part c.requires.terms c.loop-term-test.true c.term-item.is c.loop-term.invariant c.in_ok-test.ensures c.in_ok-push.ensures.items

pub returns : goal.returns
returns c = equalities_all c.args.arena.now c.loop-term.arena c.args.part c.args.terms.now c.loop-term.term-index c.loop-term.tests.items c.loop-term-test.false c.loop-term.invariant
