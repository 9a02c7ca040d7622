use Rattle.ep_size.proofs.Words.{◌∷◌, ◌++◌, [], ◌+◌, pos, ℕ, map, sym, ap, ◌∙◌, arith, ints, counting, counting_more, grid_of}
use Rattle.ep_size.proofs.ListNodes.{list_all, list_more}
use Rattle.ep_size.proofs.lists.list_of.Goals as goal

pub loop-i-init : goal.loop-i-init
unfolding counting
loop-i-init c = record { indices = c.in_ok-indices.ensures.items; parts = ap (map grid_of) c.in_ok-parts.ensures.items }

pub loop-i-preserved : goal.loop-i-preserved
loop-i-preserved c =
    let i : ℕ = c.loop-i.i in
    record {
      indices =
          c.in_ok-push.ensures.items ∙ ap (λ m. c.loop-i.indices.items ++ m ∷ []) (omega (arith, ints))
          ∙ ap (λ l. l ++ pos (i + 1) ∷ []) c.loop-i.invariant.indices ∙ sym (counting_more i);
      parts =
          list_more c.args.spans.now i _ c.loop-i.parts.items _ c.loop-i-test.true c.in_ok-push-2.ensures.items c.loop-i.invariant.parts;
    }

pub returns : goal.returns
returns c = (
  list_all c.args.spans.now c.loop-i.i c.loop-i.indices c.loop-i.parts c.loop-i-test.false c.loop-i.auto.i-end c.loop-i.invariant.indices c.loop-i.invariant.parts,
  tt,
)
