use Rattle.std.proofs.Common.{◌≡◌, ◌<◌, ◌-◌, ◌+◌, ◌/◌, get_or, sym, ap, ◌∙◌, subst, arith}
use Rattle.std.proofs.lemmas.List.{get_or_default}
use Rattle.sat_state.specs.Listed.{Listed}
use Rattle.sat_state.specs.Watching.{IsNext}
use Rattle.sat_state.specs.WatchesInside.{no_watch, watch_in}
use Rattle.sat_state.proofs.Listing.{list_read}
use Rattle.sat_state.proofs.Walking.{watch_of, walked_list, next_in, walk_known, next_fits, next_seen}
use Rattle.sat_state.proofs.watches.Watches.current.Goals as goal

pub overflow_add-self-inside : goal.overflow_add-self-inside
overflow_add-self-inside c =
    let some : 0 < c.self.inside.left = omega (arith, c.if-self-eq0.false) in
    omega (arith, next_fits c.self.inside c.args.self.now c.self.view_is c.self.invariant some)

pub returns-else-self-eq0-clause-some : goal.returns-else-self-eq0-clause-some
returns-else-self-eq0-clause-some c =
    let a = c.self.inside in
    let now = c.args.self.now in
    let is = c.self.view_is in
    let inv = c.self.invariant in
    let some : 0 < a.left = omega (arith, c.if-self-eq0.false) in
    let place = a.low + (a.left - 1) in
    let list = walked_list a now is inv some in
    let read : c.index.result.now ≡ list = list_read a.lists.items (a.walked / 2) c.index.result.now (walk_known a now is inv some) c.index.ensures in
    let at : c.at-watch.result ≡ watch_in list place
    = c.at-watch.ensures ∙ ap (λ (l : Listed). get_or l.watches place c.at-watch.result) read ∙ get_or_default list.watches place c.at-watch.result no_watch (next_in a now is inv some) in
    let parts : record { entry = c.entry.result; pair = c.is_pair.result; blocker = c.blocker.result } ≡ c.at-watch.result
    = watch_of c.at-watch.result c.entry.result c.is_pair.result c.blocker.result c.entry.ensures.value c.is_pair.ensures c.blocker.ensures in
    subst (IsNext now) (sym (parts ∙ at)) (next_seen a now is inv some)
