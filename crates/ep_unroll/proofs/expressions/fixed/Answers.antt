use Rattle.ep_unroll.proofs.Words.{ap, refl, sym, ◌∙◌, evaluate, expr_tree, AreTerms, worth}
use Rattle.ep_unroll.proofs.MeaningSteps.{grows_none}
use Rattle.ep_unroll.proofs.expressions.fixed.Goals as goal

pub returns : goal.returns
unfolding worth AreTerms
returns c n nodes mode = record {
  grows = grows_none nodes nodes refl;
  known = tt;
  value = λ r. sym (ap (λ m. evaluate m r.values (expr_tree c.args.e.now)) mode ∙ c.in_ok-seen.ensures n r);
}
