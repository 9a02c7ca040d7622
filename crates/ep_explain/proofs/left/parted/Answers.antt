use Rattle.std.proofs.Common.{◌∙◌, ap, sym, not, arith}
use Rattle.std.specs.Prelude.{filter}
use Rattle.std.proofs.lemmas.List.{take_all}
use Rattle.ep_explain.specs.Narrowing.{is_in_block, left_numbers}
use Rattle.ep_explain.specs.declared.left.Left.{Left}
use Rattle.ep_explain.proofs.Turns.{filter_pass, filter_turn, is_inside, is_outside}
use Rattle.ep_explain.proofs.left.parted.Goals as goal

pub loop-one-preserved-then-contains : goal.loop-one-preserved-then-contains
loop-one-preserved-then-contains c = record {
  own = c.in_ok-push.ensures.items
      ∙ filter_turn (λ (one : Left). one.clause) (is_in_block c.args.block.now) c.loop-one.inside.items c.args.left.now c.loop-one.one-index c.one-item.result
      c.loop-one-test.true (sym c.contains.ensures.value ∙ c.if-contains.true) c.loop-one.invariant.own c.one-item.is;
  others = filter_pass (λ (one : Left). one.clause) (λ n. not (is_in_block c.args.block.now n)) c.loop-one.outside.items c.args.left.now c.loop-one.one-index c.one-item.result
      c.loop-one-test.true (is_inside c.args.block.now c.one-item.result.clause _ c.contains.ensures.value c.if-contains.true) c.loop-one.invariant.others c.one-item.is;
}

pub loop-one-preserved : goal.loop-one-preserved
loop-one-preserved c = record {
  own = filter_pass (λ (one : Left). one.clause) (is_in_block c.args.block.now) c.loop-one.inside.items c.args.left.now c.loop-one.one-index c.one-item.result
      c.loop-one-test.true (sym c.contains.ensures.value ∙ c.if-contains.false) c.loop-one.invariant.own c.one-item.is;
  others = c.in_ok-push-2.ensures.items
      ∙ filter_turn (λ (one : Left). one.clause) (λ n. not (is_in_block c.args.block.now n)) c.loop-one.outside.items c.args.left.now c.loop-one.one-index c.one-item.result
      c.loop-one-test.true (is_outside c.args.block.now c.one-item.result.clause _ c.contains.ensures.value c.if-contains.false) c.loop-one.invariant.others c.one-item.is;
}

pub returns-clause-inside : goal.returns-clause-inside
returns-clause-inside c =
    c.loop-one.invariant.own
    ∙ ap (λ ls. filter (is_in_block c.args.block.now) (left_numbers ls)) (take_all c.loop-one.one-index c.args.left.now (omega (arith, c.loop-one-test.false)))

pub returns-clause-outside : goal.returns-clause-outside
returns-clause-outside c =
    c.loop-one.invariant.others
    ∙ ap (λ ls. filter (λ n. not (is_in_block c.args.block.now n)) (left_numbers ls)) (take_all c.loop-one.one-index c.args.left.now (omega (arith, c.loop-one-test.false)))
