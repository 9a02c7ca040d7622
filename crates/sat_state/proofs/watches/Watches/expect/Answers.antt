use Rattle.std.proofs.Common.{◌≡◌, ◌<◌, ◌∙◌, length, get_or, ap, arith}
use Rattle.sat_state.specs.Listed.{Listed}
use Rattle.sat_state.specs.Watching.{listed_at}
use Rattle.sat_state.specs.WatchesInside.{no_watch}
use Rattle.sat_state.proofs.Listing.{list_read, same_entries, listed_set}
use Rattle.sat_state.proofs.Walking.{lists_seen}
use Rattle.sat_state.proofs.watches.Watches.expect.Goals as goal

pub invariant_of-self : goal.invariant_of-self
invariant_of-self c =
    let a = c.self.inside in
    let code = c.args.code in
    let known : code < length a.lists.items = omega (arith, c.requires, lists_seen a c.args.self.now c.self.view_is) in
    let read : c.index_mut.result.now ≡ listed_at a.lists.items code = list_read a.lists.items code c.index_mut.result.now known c.index_mut.ensures.value in
    let is : c.expect.new.self ≡ listed_at a.lists.items code = c.expect.ensures ∙ read in
    record {
      listed = listed_set a.names.items a.lists.items code c.expect.new.self c.self.invariant.listed known
          (same_entries a.names.items code (listed_at a.lists.items code) c.expect.new.self (c.self.invariant.listed.each code) (ap (λ (l : Listed). length l.watches) is) (ap (λ (l : Listed). l.nears) is)
          (λ k lt. ap (λ (l : Listed). (get_or l.watches k no_watch).entry) is));
      walk = λ some. absurd (omega (arith, some));
    }
