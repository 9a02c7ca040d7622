use Rattle.std.proofs.lemmas.Result.{on_ok_weaker}
use Rattle.enc_count.proofs.Counting.{all_whole}
use Rattle.enc_count.proofs.counts.add_all_told.Goals as goal

pub returns : goal.returns
returns c =
    on_ok_weaker c.add_some_untold.result
    (all_whole c.args.layout.now c.args.f.now c.add_decided.new.f c.add_each_told.new.f c.add_some_untold.new.f c.args.truth c.args.told.now c.requires.ready.is_layout c.in_ok-add_decided.ensures c.in_ok-add_each_told.ensures)
    c.add_some_untold.ensures
