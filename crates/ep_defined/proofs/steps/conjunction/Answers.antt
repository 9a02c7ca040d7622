use Rattle.std.proofs.Common.{ap, rules, length, arith}
use Rattle.ep_defined.proofs.Growth.{all_of_safe, conjunction_more, conjunction_none, conjunction_one, grows_not}
use Rattle.ep_ground.specs.Nodes.{parts_of}
use Rattle.ep_defined.proofs.steps.conjunction.Goals as goal

pub taken-requires-clause-parts : goal.taken-requires-clause-parts
unfolding parts_of
taken-requires-clause-parts c = c.requires.guards

pub returns-in-empty-clause-is : goal.returns-in-empty-clause-is
returns-in-empty-clause-is c = conjunction_none c.args.arena.now c.args.guards.items (omega (arith, c.in-empty.len_below, ap length c.as_slice.ensures.value))

pub returns-in-empty-clause-grows : goal.returns-in-empty-clause-grows
returns-in-empty-clause-grows c = λ asker. grows_not asker 1 c.args.arena.now

pub returns-in-len1-clause-is : goal.returns-in-len1-clause-is
returns-in-len1-clause-is c =
    conjunction_one c.args.arena.now c.args.guards.items c.guard-item.result (omega (arith, c.in-len1.len_at_least, ap length c.as_slice.ensures.value)) (omega (arith, c.in-len1.len_below, ap length c.as_slice.ensures.value)) (search rules)

pub returns-in-len1-clause-grows : goal.returns-in-len1-clause-grows
returns-in-len1-clause-grows c = λ asker. grows_not asker 1 c.args.arena.now

pub returns-in_ok-taken-in_default-clause-is : goal.returns-in_ok-taken-in_default-clause-is
returns-in_ok-taken-in_default-clause-is c =
    conjunction_more c.taken.new.arena c.args.guards.items c.in_ok-taken-in_default.field-0 (omega (arith, c.in_default.len_at_least, ap length c.as_slice.ensures.value)) c.in_ok-taken-in_default.ensures.term

pub returns-in_ok-taken-in_default-clause-grows : goal.returns-in_ok-taken-in_default-clause-grows
returns-in_ok-taken-in_default-clause-grows c = λ asker. c.in_ok-taken-in_default.ensures.grows asker (λ cells stands. all_of_safe c.args.guards.items cells)
