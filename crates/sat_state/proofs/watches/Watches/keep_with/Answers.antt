use Rattle.std.proofs.Common.{◌≡◌, ◌-◌, ◌+◌, ◌/◌, ◌∙◌, ℕ, false, List, length, get_or, set, Contains, sym, ap, subst, inl, inr, ⊎_elim, arith}
use Rattle.std.proofs.lemmas.List.{length-set}
use Rattle.sat_state.specs.Listed.{Listed}
use Rattle.sat_state.specs.Watching.{listed_at, IsInSomeList}
use Rattle.sat_state.specs.WatchesInside.{no_watch, watch_in}
use Rattle.sat_state.proofs.Listing.{same_entries, listed_set, at_same, entry_blocked, stood_blocked}
use Rattle.sat_state.proofs.Walking.{some_left, next_in, walk_known, next_fits, next_first, rest_seen, walk_on, walks_as, stands_set, stands_seen, entries_same, blocked_watches, blocked_nears, blocked_length}
use Rattle.sat_state.proofs.watches.Watches.keep_with.Goals as goal

pub overflow_add-self-inside : goal.overflow_add-self-inside
overflow_add-self-inside c =
    let some = some_left c.self.inside c.args.self.now c.self.view_is c.requires in
    omega (arith, next_fits c.self.inside c.args.self.now c.self.view_is c.self.invariant some)

pub invariant_of-self : goal.invariant_of-self
invariant_of-self c =
    let a = c.self.inside in
    let now = c.args.self.now in
    let some = some_left a now c.self.view_is c.requires in
    let code = a.walked / 2 in
    let known = walk_known a now c.self.view_is c.self.invariant some in
    let list = listed_at a.lists.items code in
    let new = c.block.new.self in
    let at : listed_at (set a.lists.items code new) code ≡ new = at_same a.lists.items code new known in
    record {
      listed = listed_set a.names.items a.lists.items code new c.self.invariant.listed known
          (same_entries a.names.items code list new (c.self.invariant.listed.each code) (blocked_length a now c.self.view_is c.self.invariant some c.index_mut.result.now c.block.new.self c.args.blocker c.index_mut.ensures.value c.block.ensures.watches c.block.ensures.nears) (blocked_nears a now c.self.view_is c.self.invariant some c.index_mut.result.now c.block.new.self c.args.blocker c.index_mut.ensures.value c.block.ensures.watches c.block.ensures.nears)
          (λ k lt. entry_blocked list.watches new.watches (a.low + (a.left - 1)) c.args.blocker (next_in a now c.self.view_is c.self.invariant some) (blocked_watches a now c.self.view_is c.self.invariant some c.index_mut.result.now c.block.new.self c.args.blocker c.index_mut.ensures.value c.block.ensures.watches c.block.ensures.nears) k));
      walk = λ more. walks_as a.lists.items (set a.lists.items code new) a.walked a.low (a.left - 1) (walk_on a now c.self.view_is c.self.invariant some) (length-set a.lists.items code new)
          (ap (λ (l : Listed). l.nears) at ∙ blocked_nears a now c.self.view_is c.self.invariant some c.index_mut.result.now c.block.new.self c.args.blocker c.index_mut.ensures.value c.block.ensures.watches c.block.ensures.nears) (ap (λ (l : Listed). length l.watches) at ∙ blocked_length a now c.self.view_is c.self.invariant some c.index_mut.result.now c.block.new.self c.args.blocker c.index_mut.ensures.value c.block.ensures.watches c.block.ensures.nears);
    }

pub returns-clause-stands : goal.returns-clause-stands
returns-clause-stands c = λ w s.
    let a = c.self.inside in
    let now = c.args.self.now in
    let some = some_left a now c.self.view_is c.requires in
    let code = a.walked / 2 in
    let place = a.low + (a.left - 1) in
    let known = walk_known a now c.self.view_is c.self.invariant some in
    let list = listed_at a.lists.items code in
    let new = c.block.new.self in
    ⊎_elim
    (λ (in_it : Contains new.watches w). ⊎_elim
    (λ (stood : Contains list.watches w).
    let was : IsInSomeList a.lists.items w = record { code = code; there = stood } in
    inl (subst (λ (ls : List Listed). IsInSomeList ls w) (stands_seen a now c.self.view_is) was))
    (λ (is : w ≡ record { entry = (watch_in list place).entry; pair = false; blocker = c.args.blocker }).
    inr (is ∙ ap (λ (n : ℕ). record { entry = n; pair = false; blocker = c.args.blocker }) (sym (next_first a now c.self.view_is c.self.invariant some))))
    (stood_blocked list.watches new.watches place c.args.blocker w (next_in a now c.self.view_is c.self.invariant some) (blocked_watches a now c.self.view_is c.self.invariant some c.index_mut.result.now c.block.new.self c.args.blocker c.index_mut.ensures.value c.block.ensures.watches c.block.ensures.nears) in_it))
    (λ (was : IsInSomeList a.lists.items w). inl (subst (λ (ls : List Listed). IsInSomeList ls w) (stands_seen a now c.self.view_is) was))
    (stands_set a.lists.items code new w known s)

pub returns-clause-waiting : goal.returns-clause-waiting
returns-clause-waiting c =
    let a = c.self.inside in
    let now = c.args.self.now in
    let some = some_left a now c.self.view_is c.requires in
    let code = a.walked / 2 in
    let place = a.low + (a.left - 1) in
    let list = listed_at a.lists.items code in
    let new = c.block.new.self in
    let there = next_in a now c.self.view_is c.self.invariant some in
    entries_same list.watches (listed_at (set a.lists.items code new) code).watches a.low (a.left - 1)
    (λ k lt. ap (λ (l : Listed). (get_or l.watches k no_watch).entry) (at_same a.lists.items code new (walk_known a now c.self.view_is c.self.invariant some))
    ∙ entry_blocked list.watches new.watches place c.args.blocker there (blocked_watches a now c.self.view_is c.self.invariant some c.index_mut.result.now c.block.new.self c.args.blocker c.index_mut.ensures.value c.block.ensures.watches c.block.ensures.nears) k)
    ∙ rest_seen a now c.self.view_is c.self.invariant some
