use Rattle.std.proofs.lemmas.Result.{on_ok_weaker}
use Rattle.enc_atoms.proofs.Meanings.{not_false}
use Rattle.enc_table.proofs.Links.{end_bad, end_good}
use Rattle.enc_table.proofs.orders.add_end.Goals as goal

pub returns-then-ends_badly : goal.returns-then-ends_badly
returns-then-ends_badly c =
    on_ok_weaker c.add_broken.result
    (end_bad c.args.layout.now c.args.f.now c.add_broken.new.f c.args.strict c.args.first c.args.second c.args.last c.requires.ready.is_layout (c.ends_badly.ensures.0 c.if-ends_badly.true))
    c.add_broken.ensures

pub returns : goal.returns
returns c =
    end_good c.args.layout.now c.args.f.now c.args.strict c.args.first c.args.second c.args.last c.requires.ready.is_layout c.requires.ready.from_new
    (λ bad. not_false c.ends_badly.result (c.ends_badly.ensures.1 bad) c.if-ends_badly.false)
