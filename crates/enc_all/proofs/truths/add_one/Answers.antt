use Rattle.std.proofs.Common.{◌∙◌}
use Rattle.std.proofs.lemmas.Result.{on_ok_weaker}
use Rattle.enc_all.proofs.Telling.{adds_one}
use Rattle.enc_all.proofs.truths.add_one.Goals as goal

pub returns : goal.returns
returns c =
    on_ok_weaker c.add_parts.result
    (λ h. adds_one c.args.layout.now c.args.f.now c.add_parts.new.f c.args.a c.as_slice.result.now c.requires.is_layout (c.as_slice.ensures.value ∙ c.in_ok-parts.ensures.items) h) c.add_parts.ensures
