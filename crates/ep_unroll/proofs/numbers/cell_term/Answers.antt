use Rattle.ep_unroll.proofs.Words.{length, no_runs, number_in, cells_value}
use Rattle.ep_ground.specs.Nodes.{parts_of}
use Rattle.ep_unroll.proofs.FormSteps.{none_known}
use Rattle.ep_unroll.proofs.FormValues.{if_ok}
use Rattle.ep_unroll.proofs.NumberSteps.{cell_number, cells_none, undefined_number}
use Rattle.ep_unroll.proofs.numbers.cell_term.Goals as goal

pub put-requires : goal.put-requires
unfolding parts_of
put-requires c = none_known (length c.args.arena.now)

pub put-requires-in-None : goal.put-requires-in-None
unfolding parts_of
put-requires-in-None c = none_known (length c.args.arena.now)

pub returns-in-Some : goal.returns-in-Some
returns-in-Some c =
    if_ok c.put.result _ _
    (λ t put. undefined_number c.args.arena.now c.put.new.arena (λ numbers. number_in (cells_value numbers c.args.indices.now c.args.first)) t
    (λ numbers. cells_none numbers c.args.indices.now _ _ c.args.first c.in-Some.ensures.cases.0) put) c.put.ensures

pub returns-in-None : goal.returns-in-None
returns-in-None c =
    if_ok c.put-in-None.result _ _
    (λ t put. cell_number c.args.arena.now c.put-in-None.new.arena c.args.first c.args.indices.now t (no_runs c.args.indices.now c.in-None.ensures.cases) put) c.put-in-None.ensures
