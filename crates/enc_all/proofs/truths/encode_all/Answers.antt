use Rattle.std.proofs.Common.{◌<◌, ◌∙◌, length}
use Rattle.std.proofs.lemmas.Result.{on_ok_weaker}
use Rattle.enc_all.proofs.Telling.{all_told, all_untold, names_of_untrue, names_rest}
use Rattle.enc_all.proofs.truths.encode_all.Goals as goal

pub add_equal-requires-clause-names : goal.add_equal-requires-clause-names
add_equal-requires-clause-names c =
    names_of_untrue (λ x. x < length c.args.layout.now) c.args.xs.now c.as_slice.result.now (c.as_slice.ensures.value ∙ c.in_ok-others-in-Some.ensures)
    (names_rest (λ x. x < length c.args.layout.now) c.args.truth c.args.xs.now c.requires.names)

pub returns-in-None : goal.returns-in-None
returns-in-None c = on_ok_weaker c.add_each.result (λ h. all_untold c.args.layout.now c.args.f.now c.add_each.new.f c.args.truth c.args.xs.now c.requires.is_layout c.in-None.is h) c.add_each.ensures

pub returns-in_ok-others-in-Some : goal.returns-in_ok-others-in-Some
returns-in_ok-others-in-Some c =
    on_ok_weaker c.add_equal.result
    (λ h. all_told c.args.layout.now c.args.f.now c.add_truth.new.f c.add_equal.new.f c.args.truth c.in-Some.t c.args.xs.now c.as_slice.result.now c.requires.is_layout c.in-Some.is (c.as_slice.ensures.value ∙ c.in_ok-others-in-Some.ensures)
    c.in_ok-add_truth-in-Some.ensures h) c.add_equal.ensures
