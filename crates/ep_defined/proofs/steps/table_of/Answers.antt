use Rattle.std.proofs.Common.{ℕ, ℤ, List, ◌<◌, ◌==◌, ap, length, subst, sym, ◌∙◌}
use Rattle.std.specs.Prelude.{filter}
use Rattle.std.specs.List.{All}
use Rattle.ep_defined.specs.Growing.{IsNodeAt}
use Rattle.ep_ground.specs.Nodes.{GroundNode, parts_of, table}
use Rattle.ep_defined.proofs.Growth.{table_safe, totals_stand}
use Rattle.ep_defined.proofs.steps.table_of.Goals as goal

pub taken-requires-clause-parts : goal.taken-requires-clause-parts
unfolding parts_of
taken-requires-clause-parts c =
    subst (All (λ (t : ℕ). t < length c.args.arena.now)) (sym c.in_ok-columns.ensures) (totals_stand c.args.arena.now c.args.images.now c.args.indices.now c.requires.stand c.requires.indices)

pub returns-clause-is : goal.returns-clause-is
returns-clause-is c =
    subst (λ (n : GroundNode). IsNodeAt c.taken.new.arena c.in_ok-own.own n) (λ i. table (c.in_ok-columns.ensures i) ((c.in_ok-rows.ensures ∙ ap (filter (λ (key : List ℤ). length key == length c.args.indices.now)) c.first_keys.ensures) i)) c.in_ok-own.ensures.term

pub returns-clause-grows : goal.returns-clause-grows
returns-clause-grows c =
    λ asker. c.in_ok-own.ensures.grows asker (λ cells stands. table_safe c.in_ok-columns.columns.items c.in_ok-rows.rows.items cells)
