use Rattle.ep_eval.proofs.Words.{Some, ap, subst, ◌∙◌, arith, Ok, w128, ints, to_z-of_z, number_value, truth_in, single, Gives}
use Rattle.ep_eval.proofs.FoldGiven.{gives_and, gives_max, gives_min, gives_or, gives_product, gives_sum}
use Rattle.ep_eval.proofs.folds.of_parts.Goals as goal

pub returns-in-Sum : goal.returns-in-Sum
returns-in-Sum c =
    gives_sum c.args.mode c.args.parts.now c.args.op c.number_seen.result c.in-Sum.is
    (subst (λ n. Gives c.number_seen.result (Some (single n))) (to_z-of_z w128 c.sum.result (omega (arith, ints)) ∙ c.sum.ensures) c.number_seen.ensures)

pub returns-in-Product : goal.returns-in-Product
returns-in-Product c = gives_product c.args.mode c.args.parts.now c.args.op c.product.result c.in-Product.is c.product.ensures

pub returns-in-And : goal.returns-in-And
returns-in-And c =
    gives_and c.args.mode c.args.parts.now c.args.op (Ok c.truth_value.result) c.in-And.is
    (c.truth_value.ensures ∙ ap (λ b. truth_in c.args.mode (Some b)) c.all_true.ensures)

pub returns-in-Or : goal.returns-in-Or
returns-in-Or c =
    gives_or c.args.mode c.args.parts.now c.args.op (Ok c.truth_value-in-Or.result) c.in-Or.is
    (c.truth_value-in-Or.ensures ∙ ap (λ b. truth_in c.args.mode (Some b)) c.any_true.ensures)

pub returns-in-Min : goal.returns-in-Min
returns-in-Min c =
    gives_min c.args.mode c.args.parts.now c.args.op c.some_word.result c.in-Min.is
    (subst (λ n. Gives c.some_word.result (number_value n)) c.least.ensures c.some_word.ensures)

pub returns-in-Max : goal.returns-in-Max
returns-in-Max c =
    gives_max c.args.mode c.args.parts.now c.args.op c.some_word-in-Max.result c.in-Max.is
    (subst (λ n. Gives c.some_word-in-Max.result (number_value n)) c.greatest.ensures c.some_word-in-Max.ensures)
