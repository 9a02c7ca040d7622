use Rattle.std.proofs.Common.{◌≡◌, ◌∙◌, ◌+◌, ◌*◌, Bool, true, false, cond, ltb, length, refl, ap, arith}
use Rattle.std.proofs.lemmas.Bool.Decides.{nat_tests}
use Rattle.sat_state.specs.Watched.{Watched}
use Rattle.sat_state.specs.Watching.{Watching}
use Rattle.sat_state.specs.WatchesInside.{literal_at}
use Rattle.sat_state.proofs.Codes.{literal_again}
use Rattle.sat_state.proofs.Listing.{list_read}
use Rattle.sat_state.proofs.Walking.{half_name, far_of_name, length_seen, lits_set, fars_set, code_known, room_left, linked_in, linked_walk, linked_stands, linked_waiting}
use Rattle.sat_state.proofs.watches.Watches.link.Goals as goal

pub overflow_cast-entry : goal.overflow_cast-entry
overflow_cast-entry c = omega (arith, c.requires.there, length_seen c.self.inside c.args.self.now c.self.view_is, c.self.invariant.listed.few)

pub name-requires : goal.name-requires
name-requires c =
    omega (
      arith,
      code_known c.self.inside c.args.self.now c.self.view_is c.self.invariant c.code-code.result c.args.lit c.code-code.ensures.value c.code-code.ensures.some c.requires.known,
      c.self.invariant.listed.few_lists,
    )

pub push_far-requires : goal.push_far-requires
push_far-requires c =
    let a = c.self.inside in
    let now = c.args.self.now in
    let code = c.code-code.result in
    let known = code_known a now c.self.view_is c.self.invariant code c.args.lit c.code-code.ensures.value c.code-code.ensures.some c.requires.known in
    let read = list_read a.lists.items code c.index_mut-then-far.result.now known c.index_mut-then-far.ensures.value in
    room_left a now c.self.view_is c.self.invariant code c.args.lit c.code-code.ensures.value c.code-code.ensures.some c.requires.known c.index_mut-then-far.result.now read c.requires.room

pub push_near-requires : goal.push_near-requires
push_near-requires c =
    let a = c.self.inside in
    let now = c.args.self.now in
    let code = c.code-code.result in
    let known = code_known a now c.self.view_is c.self.invariant code c.args.lit c.code-code.ensures.value c.code-code.ensures.some c.requires.known in
    let read = list_read a.lists.items code c.index_mut-else-far.result.now known c.index_mut-else-far.ensures.value in
    room_left a now c.self.view_is c.self.invariant code c.args.lit c.code-code.ensures.value c.code-code.ensures.some c.requires.known c.index_mut-else-far.result.now read c.requires.room

pub invariant_of-self : goal.invariant_of-self
invariant_of-self c =
    let a = c.self.inside in
    let now = c.args.self.now in
    let code = c.code-code.result in
    let known = code_known a now c.self.view_is c.self.invariant code c.args.lit c.code-code.ensures.value c.code-code.ensures.some c.requires.known in
    let cell = c.index_mut-then-far.result.now in
    let read = list_read a.lists.items code cell known c.index_mut-then-far.ensures.value in
    let x : Watched = record { entry = c.args.entry; pair = c.args.pair; blocker = c.args.blocker } in
    let named : c.name.result ≡ 2 * code + cond true 1 0 = c.name.ensures ∙ ap (λ (b : Bool). 2 * code + cond b 1 0) c.if-far.true in
    let behind : ltb (length cell.watches) c.push_far.new.self.nears ≡ false = let le = c.push_far.ensures.behind in grind (arith, nat_tests) in
    record {
      listed = linked_in a now c.self.view_is c.self.invariant code c.args.lit c.code-code.ensures.value c.code-code.ensures.some c.requires.known
          c.args.entry c.name.result (length cell.watches) true cell c.push_far.new.self x read c.push_far.ensures.rest (λ d. c.push_far.ensures.there d ∙ c.new-watch.ensures) named refl c.requires.there c.requires.none
          (ap (λ (b : Bool). cond b 0 1) behind);
      walk = linked_walk a now c.self.view_is c.self.invariant code c.args.lit c.code-code.ensures.value c.code-code.ensures.some c.requires.known
          c.args.entry c.name.result (length cell.watches) true cell c.push_far.new.self x read c.push_far.ensures.rest (λ d. c.push_far.ensures.there d ∙ c.new-watch.ensures) named c.requires.other;
    }

pub invariant_of-self-else-far : goal.invariant_of-self-else-far
invariant_of-self-else-far c =
    let a = c.self.inside in
    let now = c.args.self.now in
    let code = c.code-code.result in
    let known = code_known a now c.self.view_is c.self.invariant code c.args.lit c.code-code.ensures.value c.code-code.ensures.some c.requires.known in
    let cell = c.index_mut-else-far.result.now in
    let read = list_read a.lists.items code cell known c.index_mut-else-far.ensures.value in
    let x : Watched = record { entry = c.args.entry; pair = c.args.pair; blocker = c.args.blocker } in
    let named : c.name.result ≡ 2 * code + cond false 1 0 = c.name.ensures ∙ ap (λ (b : Bool). 2 * code + cond b 1 0) c.if-far.false in
    let before : ltb cell.nears c.push_near.new.self.nears ≡ true = let more = c.push_near.ensures.rest.nears in grind (arith, nat_tests) in
    record {
      listed = linked_in a now c.self.view_is c.self.invariant code c.args.lit c.code-code.ensures.value c.code-code.ensures.some c.requires.known
          c.args.entry c.name.result cell.nears false cell c.push_near.new.self x read c.push_near.ensures.rest (λ d. c.push_near.ensures.there d ∙ c.new-watch.ensures) named refl c.requires.there c.requires.none
          (ap (λ (b : Bool). cond b 0 1) before);
      walk = linked_walk a now c.self.view_is c.self.invariant code c.args.lit c.code-code.ensures.value c.code-code.ensures.some c.requires.known
          c.args.entry c.name.result cell.nears false cell c.push_near.new.self x read c.push_near.ensures.rest (λ d. c.push_near.ensures.there d ∙ c.new-watch.ensures) named c.requires.other;
    }

pub returns-then-far-clause-lits : goal.returns-then-far-clause-lits
returns-then-far-clause-lits c =
    let a = c.self.inside in
    let half = half_name c.name.result c.code-code.result c.args.far c.name.ensures in
    lits_set a.names.items c.args.self.now.lits c.args.entry c.name.result c.args.lit (ap (λ (w : Watching). w.lits) c.self.view_is) (ap literal_at (half ∙ c.code-code.ensures.value) ∙ literal_again c.args.lit)

pub returns-else-far-clause-lits : goal.returns-else-far-clause-lits
returns-else-far-clause-lits c =
    let a = c.self.inside in
    let half = half_name c.name.result c.code-code.result c.args.far c.name.ensures in
    lits_set a.names.items c.args.self.now.lits c.args.entry c.name.result c.args.lit (ap (λ (w : Watching). w.lits) c.self.view_is) (ap literal_at (half ∙ c.code-code.ensures.value) ∙ literal_again c.args.lit)

pub returns-then-far-clause-fars : goal.returns-then-far-clause-fars
returns-then-far-clause-fars c =
    fars_set c.self.inside.names.items c.args.self.now.fars c.args.entry c.name.result c.args.far (ap (λ (w : Watching). w.fars) c.self.view_is) (far_of_name c.name.result c.code-code.result c.args.far c.name.ensures)

pub returns-else-far-clause-fars : goal.returns-else-far-clause-fars
returns-else-far-clause-fars c =
    fars_set c.self.inside.names.items c.args.self.now.fars c.args.entry c.name.result c.args.far (ap (λ (w : Watching). w.fars) c.self.view_is) (far_of_name c.name.result c.code-code.result c.args.far c.name.ensures)

pub returns-then-far-clause-stands : goal.returns-then-far-clause-stands
returns-then-far-clause-stands c =
    let a = c.self.inside in
    let now = c.args.self.now in
    let code = c.code-code.result in
    let known = code_known a now c.self.view_is c.self.invariant code c.args.lit c.code-code.ensures.value c.code-code.ensures.some c.requires.known in
    let cell = c.index_mut-then-far.result.now in
    let read = list_read a.lists.items code cell known c.index_mut-then-far.ensures.value in
    let named : c.name.result ≡ 2 * code + cond true 1 0 = c.name.ensures ∙ ap (λ (b : Bool). 2 * code + cond b 1 0) c.if-far.true in
    linked_stands a now c.self.view_is c.self.invariant code c.args.lit c.code-code.ensures.value c.code-code.ensures.some c.requires.known
    c.args.entry c.name.result (length cell.watches) true cell c.push_far.new.self (record { entry = c.args.entry; pair = c.args.pair; blocker = c.args.blocker }) read c.push_far.ensures.rest (λ d. c.push_far.ensures.there d ∙ c.new-watch.ensures) named

pub returns-else-far-clause-stands : goal.returns-else-far-clause-stands
returns-else-far-clause-stands c =
    let a = c.self.inside in
    let now = c.args.self.now in
    let code = c.code-code.result in
    let known = code_known a now c.self.view_is c.self.invariant code c.args.lit c.code-code.ensures.value c.code-code.ensures.some c.requires.known in
    let cell = c.index_mut-else-far.result.now in
    let read = list_read a.lists.items code cell known c.index_mut-else-far.ensures.value in
    let named : c.name.result ≡ 2 * code + cond false 1 0 = c.name.ensures ∙ ap (λ (b : Bool). 2 * code + cond b 1 0) c.if-far.false in
    linked_stands a now c.self.view_is c.self.invariant code c.args.lit c.code-code.ensures.value c.code-code.ensures.some c.requires.known
    c.args.entry c.name.result cell.nears false cell c.push_near.new.self (record { entry = c.args.entry; pair = c.args.pair; blocker = c.args.blocker }) read c.push_near.ensures.rest (λ d. c.push_near.ensures.there d ∙ c.new-watch.ensures) named

pub returns-then-far-clause-waiting : goal.returns-then-far-clause-waiting
returns-then-far-clause-waiting c =
    let a = c.self.inside in
    let now = c.args.self.now in
    let code = c.code-code.result in
    let known = code_known a now c.self.view_is c.self.invariant code c.args.lit c.code-code.ensures.value c.code-code.ensures.some c.requires.known in
    let cell = c.index_mut-then-far.result.now in
    let read = list_read a.lists.items code cell known c.index_mut-then-far.ensures.value in
    let named : c.name.result ≡ 2 * code + cond true 1 0 = c.name.ensures ∙ ap (λ (b : Bool). 2 * code + cond b 1 0) c.if-far.true in
    linked_waiting a now c.self.view_is c.self.invariant code c.args.lit c.code-code.ensures.value c.code-code.ensures.some c.requires.known
    c.args.entry c.name.result (length cell.watches) true cell c.push_far.new.self (record { entry = c.args.entry; pair = c.args.pair; blocker = c.args.blocker }) read c.push_far.ensures.rest (λ d. c.push_far.ensures.there d ∙ c.new-watch.ensures) named c.requires.other

pub returns-else-far-clause-waiting : goal.returns-else-far-clause-waiting
returns-else-far-clause-waiting c =
    let a = c.self.inside in
    let now = c.args.self.now in
    let code = c.code-code.result in
    let known = code_known a now c.self.view_is c.self.invariant code c.args.lit c.code-code.ensures.value c.code-code.ensures.some c.requires.known in
    let cell = c.index_mut-else-far.result.now in
    let read = list_read a.lists.items code cell known c.index_mut-else-far.ensures.value in
    let named : c.name.result ≡ 2 * code + cond false 1 0 = c.name.ensures ∙ ap (λ (b : Bool). 2 * code + cond b 1 0) c.if-far.false in
    linked_waiting a now c.self.view_is c.self.invariant code c.args.lit c.code-code.ensures.value c.code-code.ensures.some c.requires.known
    c.args.entry c.name.result cell.nears false cell c.push_near.new.self (record { entry = c.args.entry; pair = c.args.pair; blocker = c.args.blocker }) read c.push_near.ensures.rest (λ d. c.push_near.ensures.there d ∙ c.new-watch.ensures) named c.requires.other
