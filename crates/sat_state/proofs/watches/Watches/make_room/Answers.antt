use Rattle.std.proofs.Common.{◌≡◌, ◌<◌, ◌∙◌, List, length, get_or, ap, arith}
use Rattle.sat_state.specs.Watched.{Watched}
use Rattle.sat_state.specs.Listed.{Listed}
use Rattle.sat_state.specs.Watching.{listed_at}
use Rattle.sat_state.specs.WatchesInside.{no_watch}
use Rattle.sat_state.proofs.Listing.{list_read, same_entries, listed_set}
use Rattle.sat_state.proofs.Walking.{lists_seen}
use Rattle.sat_state.proofs.watches.Watches.make_room.Goals as goal

pub invariant_of-self : goal.invariant_of-self
invariant_of-self c =
    let a = c.self.inside in
    let code = c.code.result in
    let known : code < length a.lists.items = omega (arith, c.requires.known, c.code.ensures.value, lists_seen a c.args.self.now c.self.view_is) in
    let read : c.index_mut.result.now ≡ listed_at a.lists.items code = list_read a.lists.items code c.index_mut.result.now known c.index_mut.ensures.value in
    let watches : c.make_room.new.self.watches ≡ (listed_at a.lists.items code).watches = c.make_room.ensures.watches ∙ ap (λ (l : Listed). l.watches) read in
    record {
      listed = listed_set a.names.items a.lists.items code c.make_room.new.self c.self.invariant.listed known
          (same_entries a.names.items code (listed_at a.lists.items code) c.make_room.new.self (c.self.invariant.listed.each code) (ap length watches) (c.make_room.ensures.nears ∙ ap (λ (l : Listed). l.nears) read)
          (λ k lt. ap (λ (ws : List Watched). (get_or ws k no_watch).entry) watches));
      walk = λ some. absurd (omega (arith, some));
    }

pub invariant_of-self-2 : goal.invariant_of-self-2
invariant_of-self-2 c =
    let a = c.self.inside in
    let code = c.code.result in
    let known : code < length a.lists.items = omega (arith, c.requires.known, c.code.ensures.value, lists_seen a c.args.self.now c.self.view_is) in
    let read : c.index_mut.result.now ≡ listed_at a.lists.items code = list_read a.lists.items code c.index_mut.result.now known c.index_mut.ensures.value in
    let watches : c.make_room.new.self.watches ≡ (listed_at a.lists.items code).watches = c.make_room.ensures.watches ∙ ap (λ (l : Listed). l.watches) read in
    record {
      listed = listed_set a.names.items a.lists.items code c.make_room.new.self c.self.invariant.listed known
          (same_entries a.names.items code (listed_at a.lists.items code) c.make_room.new.self (c.self.invariant.listed.each code) (ap length watches) (c.make_room.ensures.nears ∙ ap (λ (l : Listed). l.nears) read)
          (λ k lt. ap (λ (ws : List Watched). (get_or ws k no_watch).entry) watches));
      walk = λ some. absurd (omega (arith, some));
    }
