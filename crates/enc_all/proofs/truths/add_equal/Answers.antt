use Rattle.std.proofs.Common.{◌∙◌, ap, ◌++◌, ◌∷◌, []}
use Rattle.std.proofs.lemmas.Result.{on_ok_weaker}
use Rattle.enc_all.proofs.Telling.{adds_equal}
use Rattle.enc_all.proofs.truths.add_equal.Goals as goal
use Rattle.enc_all.specs.Parts.{other_part}

pub returns : goal.returns
returns c =
    on_ok_weaker c.add_parts.result
    (λ h. adds_equal c.args.layout.now c.args.f.now c.add_needed.new.f c.add_parts.new.f c.args.said c.args.parts.now c.as_slice.result.now c.requires.is_layout
    (c.as_slice.ensures.value ∙ c.in_ok-push.ensures.items ∙ ap (λ xs. xs ++ other_part c.args.said ∷ []) c.in_ok-one_is.ensures.items) c.in_ok-add_needed.ensures h) c.add_parts.ensures
