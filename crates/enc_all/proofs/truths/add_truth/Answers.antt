use Rattle.std.proofs.Common.{◌∙◌}
use Rattle.std.proofs.lemmas.Result.{on_ok_weaker}
use Rattle.enc_all.proofs.Telling.{adds_truth, two_atoms}
use Rattle.enc_all.proofs.truths.add_truth.Goals as goal

pub returns : goal.returns
returns c =
    on_ok_weaker c.add_clause.result
    (λ h. adds_truth c.args.layout.now c.args.f.now c.add_clause.new.f c.as_slice.result.now c.args.t c.requires.is_layout
    (c.as_slice.ensures.value ∙ c.in_ok-atoms.ensures.items ∙ two_atoms c.is.result c.is-2.result _ _ c.is.ensures c.is-2.ensures) h) c.add_clause.ensures
