use Rattle.std.proofs.Common.{◌∙◌, ap, rules, sym, true, w64}
use Rattle.std.proofs.lemmas.Int.{to_z-of_z}
use Rattle.ep_base.specs.Numbers.{is_one}
use Rattle.ep_base.specs.Reads.{same_bool}
use Rattle.ep_simplify.proofs.Forms.{is_none, itself_equivalent, numbers_equivalent}
use Rattle.ep_simplify.proofs.settling.equivalent.Goals as goal

pub returns-then-number-clause-says : goal.returns-then-number-clause-says
returns-then-number-clause-says c = λ cells h. itself_equivalent cells c.args.news.now c.args.a c.args.b c.requires.a c.requires.b (sym c.number.ensures ∙ c.if-number.true ∙ c.number-2.ensures) h

pub returns-in_default-clause-undecided : goal.returns-in_default-clause-undecided
returns-in_default-clause-undecided c = λ none. (
  λ same. c.if-number.false (c.number.ensures ∙ same ∙ sym c.number-2.ensures),
  λ one other. is_none _ (sym c.in_default.ensures) one,
)

pub returns-in_default-number_in-clause-undecided : goal.returns-in_default-number_in-clause-undecided
returns-in_default-number_in-clause-undecided c = λ none. (
  λ same. c.if-number.false (c.number.ensures ∙ same ∙ sym c.number-2.ensures),
  λ one other. is_none _ (sym c.in_default-number_in.ensures) other,
)

pub returns-clause-says : goal.returns-clause-says
returns-clause-says c = λ cells h. numbers_equivalent cells c.args.news.now c.args.a c.args.b c.in-Some.x c.in-Some-number_in.y c.is_said.result c.is_said-2.result c.requires.a c.requires.b
    (sym c.in-Some.ensures) (sym c.in-Some-number_in.ensures)
    (c.is_said.ensures ∙ ap (λ n. same_bool true (is_one n)) (to_z-of_z w64 c.in-Some.x (search rules)))
    (c.is_said-2.ensures ∙ ap (λ n. same_bool c.is_said.result (is_one n)) (to_z-of_z w64 c.in-Some-number_in.y (search rules))) h
