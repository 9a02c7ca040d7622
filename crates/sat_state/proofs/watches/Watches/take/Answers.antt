use Rattle.std.proofs.Common.{◌≡◌, ◌<◌, ◌≤◌, ◌∙◌, ◌/◌, ◌+◌, ◌-◌, ℕ, Bool, true, false, length, get_or, refl, sym, ap, subst, arith}
use Rattle.sat_state.specs.Listed.{Listed}
use Rattle.sat_state.specs.Watching.{Watching, no_lit}
use Rattle.sat_state.proofs.Listing.{list_read, listed_out}
use Rattle.sat_state.proofs.Walking.{some_left, next_in, walk_known, next_fits, next_first, entry_there, low_far, within_near, is_far, is_near, lits_set, fars_set, taken, taken_stands, taken_waiting, walks_out, read_next}
use Rattle.sat_state.proofs.watches.Watches.take.Goals as goal

pub overflow_add-place : goal.overflow_add-place
overflow_add-place c =
    let some = some_left c.self.inside c.args.self.now c.self.view_is c.requires in
    omega (arith, next_fits c.self.inside c.args.self.now c.self.view_is c.self.invariant some)

pub index_mut-requires : goal.index_mut-requires
index_mut-requires c =
    let a = c.self.inside in
    let now = c.args.self.now in
    let some = some_left a now c.self.view_is c.requires in
    omega (arith, c.entry.ensures.value, read_next a now c.self.view_is c.self.invariant some c.index.result.now c.at-watch.result c.index.ensures c.at-watch.ensures, entry_there a now c.self.view_is c.self.invariant some, a.names.ok.0)

-- a far one

pub remove_far-requires-clause-far : goal.remove_far-requires-clause-far
remove_far-requires-clause-far c =
    let a = c.self.inside in
    let now = c.args.self.now in
    let some = some_left a now c.self.view_is c.requires in
    let cell = c.index_mut-then-self-eq1.result.now in
    let read = list_read a.lists.items (a.walked / 2) cell (walk_known a now c.self.view_is c.self.invariant some) c.index_mut-then-self-eq1.ensures.value in
    omega (arith, low_far a.lists.items a.walked a.low a.left (c.self.invariant.walk some) (is_far a.walked c.if-self-eq1.true), ap (λ (l : Listed). l.nears) read)

pub remove_far-requires-clause-there : goal.remove_far-requires-clause-there
remove_far-requires-clause-there c =
    let a = c.self.inside in
    let now = c.args.self.now in
    let some = some_left a now c.self.view_is c.requires in
    let cell = c.index_mut-then-self-eq1.result.now in
    let read = list_read a.lists.items (a.walked / 2) cell (walk_known a now c.self.view_is c.self.invariant some) c.index_mut-then-self-eq1.ensures.value in
    omega (arith, next_in a now c.self.view_is c.self.invariant some, ap (λ (l : Listed). length l.watches) read)

pub invariant_of-self : goal.invariant_of-self
invariant_of-self c =
    let a = c.self.inside in
    let now = c.args.self.now in
    let is = c.self.view_is in
    let inv = c.self.invariant in
    let some = some_left a now is c.requires in
    let cell = c.index_mut-then-self-eq1.result.now in
    let read = list_read a.lists.items (a.walked / 2) cell (walk_known a now is inv some) c.index_mut-then-self-eq1.ensures.value in
    let out = taken a now is inv some cell c.remove_far.new.self true read c.remove_far.ensures.rest in
    record {
      listed = listed_out a.names.items a.lists.items (a.walked / 2) c.entry.result (a.low + (a.left - 1)) true c.remove_far.new.self inv.listed (walk_known a now is inv some) out (sym (c.entry.ensures.value ∙ read_next a now c.self.view_is c.self.invariant some c.index.result.now c.at-watch.result c.index.ensures c.at-watch.ensures));
      walk = λ more. walks_out a.lists.items a.walked a.low a.left (a.low + (a.left - 1)) true c.remove_far.new.self (inv.walk some) some (is_far a.walked c.if-self-eq1.true) out;
    }

pub returns-then-self-eq1-clause-lits : goal.returns-then-self-eq1-clause-lits
returns-then-self-eq1-clause-lits c =
    let a = c.self.inside in
    let now = c.args.self.now in
    let some = some_left a now c.self.view_is c.requires in
    lits_set a.names.items now.lits c.entry.result 0 no_lit (ap (λ (w : Watching). w.lits) c.self.view_is) refl
    ∙ ap (λ (n : ℕ). Rattle.std.proofs.Common.set now.lits n no_lit) (c.entry.ensures.value ∙ read_next a now c.self.view_is c.self.invariant some c.index.result.now c.at-watch.result c.index.ensures c.at-watch.ensures ∙ sym (next_first a now c.self.view_is c.self.invariant some))

pub returns-then-self-eq1-clause-fars : goal.returns-then-self-eq1-clause-fars
returns-then-self-eq1-clause-fars c =
    let a = c.self.inside in
    let now = c.args.self.now in
    let some = some_left a now c.self.view_is c.requires in
    fars_set a.names.items now.fars c.entry.result 0 false (ap (λ (w : Watching). w.fars) c.self.view_is) refl
    ∙ ap (λ (n : ℕ). Rattle.std.proofs.Common.set now.fars n false) (c.entry.ensures.value ∙ read_next a now c.self.view_is c.self.invariant some c.index.result.now c.at-watch.result c.index.ensures c.at-watch.ensures ∙ sym (next_first a now c.self.view_is c.self.invariant some))

pub returns-then-self-eq1-clause-stands : goal.returns-then-self-eq1-clause-stands
returns-then-self-eq1-clause-stands c =
    let a = c.self.inside in
    let now = c.args.self.now in
    let some = some_left a now c.self.view_is c.requires in
    let cell = c.index_mut-then-self-eq1.result.now in
    let read = list_read a.lists.items (a.walked / 2) cell (walk_known a now c.self.view_is c.self.invariant some) c.index_mut-then-self-eq1.ensures.value in
    taken_stands a now c.self.view_is c.self.invariant some cell c.remove_far.new.self true read c.remove_far.ensures.rest

pub returns-then-self-eq1-clause-waiting : goal.returns-then-self-eq1-clause-waiting
returns-then-self-eq1-clause-waiting c =
    let a = c.self.inside in
    let now = c.args.self.now in
    let some = some_left a now c.self.view_is c.requires in
    let cell = c.index_mut-then-self-eq1.result.now in
    let read = list_read a.lists.items (a.walked / 2) cell (walk_known a now c.self.view_is c.self.invariant some) c.index_mut-then-self-eq1.ensures.value in
    taken_waiting a now c.self.view_is c.self.invariant some cell c.remove_far.new.self true read c.remove_far.ensures.rest c.remove_far.ensures.before

-- a near one

pub remove_near-requires : goal.remove_near-requires
remove_near-requires c =
    let a = c.self.inside in
    let now = c.args.self.now in
    let some = some_left a now c.self.view_is c.requires in
    let cell = c.index_mut-else-self-eq1.result.now in
    let read = list_read a.lists.items (a.walked / 2) cell (walk_known a now c.self.view_is c.self.invariant some) c.index_mut-else-self-eq1.ensures.value in
    omega (arith, some, within_near a.lists.items a.walked a.low a.left (c.self.invariant.walk some) (is_near a.walked c.if-self-eq1.false), ap (λ (l : Listed). l.nears) read)

pub invariant_of-self-else-self-eq1 : goal.invariant_of-self-else-self-eq1
invariant_of-self-else-self-eq1 c =
    let a = c.self.inside in
    let now = c.args.self.now in
    let is = c.self.view_is in
    let inv = c.self.invariant in
    let some = some_left a now is c.requires in
    let cell = c.index_mut-else-self-eq1.result.now in
    let read = list_read a.lists.items (a.walked / 2) cell (walk_known a now is inv some) c.index_mut-else-self-eq1.ensures.value in
    let out = taken a now is inv some cell c.remove_near.new.self false read c.remove_near.ensures.rest in
    record {
      listed = listed_out a.names.items a.lists.items (a.walked / 2) c.entry.result (a.low + (a.left - 1)) false c.remove_near.new.self inv.listed (walk_known a now is inv some) out (sym (c.entry.ensures.value ∙ read_next a now c.self.view_is c.self.invariant some c.index.result.now c.at-watch.result c.index.ensures c.at-watch.ensures));
      walk = λ more. walks_out a.lists.items a.walked a.low a.left (a.low + (a.left - 1)) false c.remove_near.new.self (inv.walk some) some (is_near a.walked c.if-self-eq1.false) out;
    }

pub returns-else-self-eq1-clause-lits : goal.returns-else-self-eq1-clause-lits
returns-else-self-eq1-clause-lits c =
    let a = c.self.inside in
    let now = c.args.self.now in
    let some = some_left a now c.self.view_is c.requires in
    lits_set a.names.items now.lits c.entry.result 0 no_lit (ap (λ (w : Watching). w.lits) c.self.view_is) refl
    ∙ ap (λ (n : ℕ). Rattle.std.proofs.Common.set now.lits n no_lit) (c.entry.ensures.value ∙ read_next a now c.self.view_is c.self.invariant some c.index.result.now c.at-watch.result c.index.ensures c.at-watch.ensures ∙ sym (next_first a now c.self.view_is c.self.invariant some))

pub returns-else-self-eq1-clause-fars : goal.returns-else-self-eq1-clause-fars
returns-else-self-eq1-clause-fars c =
    let a = c.self.inside in
    let now = c.args.self.now in
    let some = some_left a now c.self.view_is c.requires in
    fars_set a.names.items now.fars c.entry.result 0 false (ap (λ (w : Watching). w.fars) c.self.view_is) refl
    ∙ ap (λ (n : ℕ). Rattle.std.proofs.Common.set now.fars n false) (c.entry.ensures.value ∙ read_next a now c.self.view_is c.self.invariant some c.index.result.now c.at-watch.result c.index.ensures c.at-watch.ensures ∙ sym (next_first a now c.self.view_is c.self.invariant some))

pub returns-else-self-eq1-clause-stands : goal.returns-else-self-eq1-clause-stands
returns-else-self-eq1-clause-stands c =
    let a = c.self.inside in
    let now = c.args.self.now in
    let some = some_left a now c.self.view_is c.requires in
    let cell = c.index_mut-else-self-eq1.result.now in
    let read = list_read a.lists.items (a.walked / 2) cell (walk_known a now c.self.view_is c.self.invariant some) c.index_mut-else-self-eq1.ensures.value in
    taken_stands a now c.self.view_is c.self.invariant some cell c.remove_near.new.self false read c.remove_near.ensures.rest

pub returns-else-self-eq1-clause-waiting : goal.returns-else-self-eq1-clause-waiting
returns-else-self-eq1-clause-waiting c =
    let a = c.self.inside in
    let now = c.args.self.now in
    let some = some_left a now c.self.view_is c.requires in
    let cell = c.index_mut-else-self-eq1.result.now in
    let read = list_read a.lists.items (a.walked / 2) cell (walk_known a now c.self.view_is c.self.invariant some) c.index_mut-else-self-eq1.ensures.value in
    taken_waiting a now c.self.view_is c.self.invariant some cell c.remove_near.new.self false read c.remove_near.ensures.rest c.remove_near.ensures.before
