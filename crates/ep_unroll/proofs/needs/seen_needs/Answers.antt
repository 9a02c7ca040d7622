use Rattle.ep_unroll.proofs.Words.{length}
use Rattle.ep_ground.specs.Nodes.{parts_of}
use Rattle.ep_unroll.proofs.FormSteps.{none_known}
use Rattle.ep_unroll.proofs.NeedSteps.{none_needed, seen_needed}
use Rattle.ep_unroll.proofs.needs.seen_needs.Goals as goal

pub put-requires : goal.put-requires
unfolding parts_of
put-requires c = none_known (length c.args.arena.now)

pub returns-in-Some : goal.returns-in-Some
returns-in-Some c = seen_needed c.args.arena.now c.args.count c.args.seen.now c.in-Some.field-0 c.new-terms.result.items c.in-Some.is c.new-terms.ensures.items

pub returns-in_ok-push-in-None : goal.returns-in_ok-push-in-None
returns-in_ok-push-in-None c =
    none_needed c.args.arena.now c.put.new.arena c.args.count c.args.seen.now c.push.new.self.items c.new-terms.result.items c.in_ok-none-in-None.none c.in-None.is c.new-terms.ensures.items
    c.in_ok-push-in-None.ensures.items c.in_ok-none-in-None.ensures
