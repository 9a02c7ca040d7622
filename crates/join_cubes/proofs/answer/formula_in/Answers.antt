use Rattle.sat_text.specs.Words.{most_text_bytes}
use Rattle.join_cubes.proofs.Proving.{not_long}
use Rattle.join_cubes.proofs.answer.formula_in.Goals as goal

pub returns-in-Ok : goal.returns-in-Ok
returns-in-Ok c = record {
  within = not_long most_text_bytes c.args.text.now _ c.in-Ok.ensures.too_long (λ no. let f : ⊥ = cc no in f);
  vars = c.in-Ok.content.formula.vars;
  spelled = c.in-Ok.ensures.spelled;
}
