use Rattle.std.proofs.lemmas.Result.{on_ok_weaker}
use Rattle.enc_all.proofs.Telling.{adds_same}
use Rattle.enc_all.proofs.truths.add_same.Goals as goal

pub returns : goal.returns
returns c =
    on_ok_weaker c.add_triple-4.result
    (λ h. adds_same c.args.layout.now c.args.f.now c.add_triple.new.f c.add_triple-2.new.f c.add_triple-3.new.f c.add_triple-4.new.f c.args.t c.args.x c.args.y c.requires.is_layout
    c.in_ok-add_triple.ensures c.in_ok-add_triple-2.ensures c.in_ok-add_triple-3.ensures h) c.add_triple-4.ensures
