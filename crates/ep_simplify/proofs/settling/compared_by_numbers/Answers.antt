use Rattle.std.proofs.Common.{◌∙◌, rules, sym, w64}
use Rattle.std.proofs.lemmas.Int.{to_z-of_z}
use Rattle.ep_base.specs.Numbers.{compare_holds}
use Rattle.ep_simplify.proofs.Forms.{is_none, numbers_say}
use Rattle.ep_simplify.proofs.settling.compared_by_numbers.Goals as goal

pub returns-in_default-clause-undecided : goal.returns-in_default-clause-undecided
returns-in_default-clause-undecided c = λ none one other. is_none _ (sym c.in_default.ensures) one

pub returns-in_default-number_in-clause-undecided : goal.returns-in_default-number_in-clause-undecided
returns-in_default-number_in-clause-undecided c = λ none one other. is_none _ (sym c.in_default-number_in.ensures) other

pub returns-clause-says : goal.returns-clause-says
returns-clause-says c = λ cells h. numbers_say cells c.args.news.now c.args.op c.args.a c.args.b c.in-Some.x c.in-Some-number_in.y c.holds.result c.requires.a c.requires.b
    (sym c.in-Some.ensures) (sym c.in-Some-number_in.ensures)
    (c.holds.ensures ∙ (λ i. compare_holds c.args.op (to_z-of_z w64 c.in-Some.x (search rules) i) (to_z-of_z w64 c.in-Some-number_in.y (search rules) i))) h
