use Rattle.ep_unroll.proofs.Words.{◌∙◌, length, refl, None, mode_in, undefined, node_value, quantified_value, QuantOp}
use Rattle.ep_ground.specs.Nodes.{parts_of}
use Rattle.ep_unroll.proofs.FormSteps.{none_known}
use Rattle.ep_unroll.proofs.FormValues.{if_ok}
use Rattle.ep_unroll.proofs.SumValues.{nothing_is, nothing_told}
use Rattle.ep_unroll.proofs.quantifiers.without_domain.Goals as goal

pub put-requires : goal.put-requires
unfolding parts_of
put-requires c = none_known (length c.args.arena.now)

pub returns-in-ForAll : goal.returns-in-ForAll
unfolding quantified_value
returns-in-ForAll c n cells p q name rest is mode domain =
    if_ok c.no_truth.result _ _
    (λ t own. nothing_told n cells c.args.arena.now c.no_truth.new.arena p q QuantOp.ForAll name rest (mode_in c.args.scope) t (is ∙ c.in-ForAll.is) mode refl domain own) c.no_truth.ensures

pub returns-in-Exists : goal.returns-in-Exists
unfolding quantified_value
returns-in-Exists c n cells p q name rest is mode domain =
    if_ok c.no_truth-in-Exists.result _ _
    (λ t own. nothing_told n cells c.args.arena.now c.no_truth-in-Exists.new.arena p q QuantOp.Exists name rest (mode_in c.args.scope) t (is ∙ c.in-Exists.is) mode refl domain own) c.no_truth-in-Exists.ensures

pub returns-in-Sum : goal.returns-in-Sum
unfolding quantified_value node_value
returns-in-Sum c n cells p q name rest is mode domain =
    if_ok c.put.result _ _
    (λ t put. nothing_is n cells c.args.arena.now c.put.new.arena p q QuantOp.Sum name rest t undefined None (is ∙ c.in-Sum.is) refl (λ numbers value. refl) domain put) c.put.ensures
