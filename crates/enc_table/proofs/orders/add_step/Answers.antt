use Rattle.std.proofs.Common.{[], ◌∷◌, ap}
use Rattle.std.proofs.lemmas.Result.{on_ok_weaker}
use Rattle.enc_table.proofs.Links.{step_whole}
use Rattle.enc_table.proofs.orders.add_step.Goals as goal

pub returns : goal.returns
returns c =
    on_ok_weaker c.add_nexts.result
    (step_whole c.args.layout.now c.args.f.now c.add_at_most.new.f c.add_nexts.new.f (c.is_not.result ∷ []) c.args.link c.args.x c.args.y c.args.next c.requires.ready.is_layout
    (ap (λ a. a ∷ []) c.is_not.ensures) c.in_ok-add_at_most.ensures)
    c.add_nexts.ensures
