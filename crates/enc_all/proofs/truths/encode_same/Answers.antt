use Rattle.std.proofs.lemmas.Result.{on_ok_weaker}
use Rattle.enc_all.proofs.Telling.{same_told, same_untold}
use Rattle.enc_all.proofs.truths.encode_same.Goals as goal

pub returns-in_ok-add_pair-in-None : goal.returns-in_ok-add_pair-in-None
returns-in_ok-add_pair-in-None c =
    on_ok_weaker c.add_pair-in-None.result
    (λ h. same_untold c.args.layout.now c.args.f.now c.add_pair.new.f c.add_pair-in-None.new.f c.args.truth c.args.x c.args.y c.requires.is_layout c.in-None.is c.in_ok-add_pair-in-None.ensures h) c.add_pair-in-None.ensures

pub returns-in_ok-add_truth-in-Some : goal.returns-in_ok-add_truth-in-Some
returns-in_ok-add_truth-in-Some c =
    on_ok_weaker c.add_same.result
    (λ h. same_told c.args.layout.now c.args.f.now c.add_truth.new.f c.add_same.new.f c.args.truth c.in-Some.t c.args.x c.args.y c.requires.is_layout c.in-Some.is c.in_ok-add_truth-in-Some.ensures h) c.add_same.ensures
