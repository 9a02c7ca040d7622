use Rattle.std.proofs.Common.{◌≡◌, ◌++◌, [], ◌∷◌, map}
use Rattle.std.proofs.lemmas.List.{map_push}
use Rattle.std.proofs.lemmas.Result.{err_from_is_err_and}
use Rattle.ep_parse_model.proofs.CommaTurns.{ends, fails, goes, smaller}
use Rattle.ep_parse_model.proofs.Shrinking.{group_shrinks}
use Rattle.ep_parse_model.proofs.groups.groups.Goals as goal
use Rattle.ep_parse_model.specs.TextReaders.{full, group_from, groups_from}
use Rattle.ep_tree.specs.Views.{group_of}

pub returns-in_err-group : goal.returns-in_err-group
unfolding groups_from
returns-in_err-group c =
    let p = err_from_is_err_and c.from_residual.result c.from_residual.ensures.1 in
    record { read = rw (p.1, p.2) (fails (group_from full) group_shrinks _ _ _ _ c.in_err-group.field-0.0 c.loop-groups.invariant c.in_err-group.ensures.read) }

pub returns-then-not-passes : goal.returns-then-not-passes
unfolding groups_from
returns-then-not-passes c =
    let e : map group_of c.push.new.self.items ≡ map group_of c.loop-groups.groups.items ++ group_of c.in_ok-group.group ∷ [] = rw c.in_ok-push.ensures.items (map_push _ c.loop-groups.groups.items c.in_ok-group.group) in
    record { read = rw e (ends (group_from full) group_shrinks _ _ _ _ _ _ c.loop-groups.invariant c.in_ok-group.ensures.read c.if-not-passes.ensures.passed) }

pub loop-groups-smaller : goal.loop-groups-smaller
loop-groups-smaller c = smaller (group_from full) group_shrinks _ _ _ _ c.in_ok-group.ensures.read c.if-not-passes.ensures.passed

pub loop-groups-preserved : goal.loop-groups-preserved
unfolding groups_from
loop-groups-preserved c =
    let e : map group_of c.push.new.self.items ≡ map group_of c.loop-groups.groups.items ++ group_of c.in_ok-group.group ∷ [] = rw c.in_ok-push.ensures.items (map_push _ c.loop-groups.groups.items c.in_ok-group.group) in
    rw e (goes (group_from full) group_shrinks _ _ _ _ _ _ c.loop-groups.invariant c.in_ok-group.ensures.read c.if-not-passes.ensures.passed)
