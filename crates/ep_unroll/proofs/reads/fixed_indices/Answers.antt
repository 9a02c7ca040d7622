use Rattle.ep_unroll.proofs.Words.{Option, ap, subst, sym, ◌∙◌, All-get_or, option_map, env_in, mode_in, decisions_in, Expr, IsFreeIndex, index_in}
use Rattle.ep_unroll.proofs.PartSteps.{indices_all, indices_begin, indices_more, indices_none}
use Rattle.ep_unroll.proofs.reads.fixed_indices.Goals as goal

pub fixed_index-requires : goal.fixed_index-requires
fixed_index-requires c =
    subst {A = Option Expr} (IsFreeIndex (decisions_in (env_in c.args.scope))) (sym c.index-item.is)
    (All-get_or {X = Option Expr} (IsFreeIndex (decisions_in (env_in c.args.scope))) c.args.indices.now c.loop-index.index-index c.index-item.result c.loop-index-test.true c.requires)

pub loop-index-init : goal.loop-index-init
loop-index-init c n r = indices_begin (mode_in c.args.scope) r.values c.args.indices.now c.new-numbers.result.items c.new-numbers.ensures.items

pub loop-index-preserved : goal.loop-index-preserved
loop-index-preserved c n r =
    indices_more (mode_in c.args.scope) r.values c.args.indices.now c.loop-index.index-index c.index-item.result _ c.in-Some.number c.loop-index.numbers.items c.push.new.self.items c.loop-index-test.true c.index-item.is
    (c.loop-index.invariant n r) (c.in_ok-one.ensures n r ∙ ap (option_map index_in) c.in-Some.is) c.in_ok-push-in-Some.ensures.items

pub returns-in-None : goal.returns-in-None
returns-in-None c n r =
    indices_none (mode_in c.args.scope) r.values c.args.indices.now c.loop-index.index-index c.index-item.result _ c.loop-index.numbers.items c.loop-index-test.true c.index-item.is (c.loop-index.invariant n r)
    (c.in_ok-one.ensures n r ∙ ap (option_map index_in) c.in-None.is)

pub returns : goal.returns
returns c n r = indices_all (mode_in c.args.scope) r.values c.args.indices.now c.loop-index.index-index c.loop-index.numbers.items c.loop-index-test.false (c.loop-index.invariant n r)
