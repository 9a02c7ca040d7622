use Rattle.std.proofs.Common.{refl, sym, ◌∙◌}
use Rattle.std.proofs.lemmas.Result.{err_from_is_err_and}
use Rattle.ep_parse_below.proofs.ChainTurns.{chain_ends, chain_fails, chain_goes, chain_smaller}
use Rattle.ep_parse_below.proofs.WordFacts.{infix_behind, right_is}
use Rattle.ep_parse_trees.proofs.operators.chain.Goals as goal

pub loop-op-init : goal.loop-op-init
loop-op-init g c = record { measured = c.requires.first; whole = refl }

pub another_part-requires : goal.another_part-requires
another_part-requires g c =
    record { ready = c.requires.ready; not_called = infix_behind c.args.chain _ _ _ (sym c.in-Some.ensures.next); left = c.loop-op.invariant.measured }

pub returns-in_err-left : goal.returns-in_err-left
returns-in_err-left g c =
    let p = err_from_is_err_and c.from_residual.result c.from_residual.ensures.1 in
    record {
      read = rw (p.1, p.2) (chain_fails _ _ _ (right_is c.args.chain) _ _ _ _ _ c.in-Some.op c.in_err-left.field-0.0 c.loop-op.invariant.whole (sym c.in-Some.ensures.next) c.in_err-left.ensures.read);
    }

pub loop-op-smaller : goal.loop-op-smaller
loop-op-smaller g c = chain_smaller _ _ _ (right_is c.args.chain) _ _ _ _ c.in-Some.op (sym c.in-Some.ensures.next) c.in_ok-left.ensures.read.0

pub loop-op-preserved : goal.loop-op-preserved
loop-op-preserved g c =
    record {
      measured = c.in_ok-left.ensures.read.1;
      whole = chain_goes _ _ _ (right_is c.args.chain) _ _ _ _ _ _ c.in-Some.op c.loop-op.invariant.whole (sym c.in-Some.ensures.next) c.in_ok-left.ensures.read.0;
    }

pub returns : goal.returns
returns g c =
    record { read = (chain_ends _ _ _ (right_is c.args.chain) _ _ _ _ c.loop-op.invariant.whole (sym c.in_default.ensures.next), c.loop-op.invariant.measured) }
