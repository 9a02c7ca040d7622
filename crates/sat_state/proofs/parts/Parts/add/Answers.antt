use Rattle.std.proofs.Common.{◌≡◌, ◌≤◌, ◌+◌, ◌*◌, ◌∙◌, ◌++◌, ◌∷◌, [], ℕ, List, All, get_or, refl, sym, subst, arith}
use Rattle.cnf_core.specs.Literal.{Literal}
use Rattle.sat_state.specs.Stored.{Stored}
use Rattle.sat_state.specs.Watching.{listed_at}
use Rattle.sat_state.specs.Joined.{uses}
use Rattle.sat_state.proofs.Going.{no_fewer, joined_same, joined_grown, stands_still, room_still, code_most, most_within}
use Rattle.sat_state.proofs.parts.Parts.add.Goals as goal

pub returns-in_err-reserve-clause-joined : goal.returns-in_err-reserve-clause-joined
returns-in_err-reserve-clause-joined c =
    let old = c.args.self.now in
    joined_same old _ c.requires.joined c.reserve.ensures.lists refl refl (no_fewer _ _ refl) (stands_still _ _ _ _ refl) (room_still _ _ refl) refl refl

pub returns-in_err-reserve-2-clause-joined : goal.returns-in_err-reserve-2-clause-joined
returns-in_err-reserve-2-clause-joined c =
    let old = c.args.self.now in
    joined_same old _ c.requires.joined c.reserve.ensures.lists c.reserve-2.ensures.lits c.reserve-2.ensures.fars (no_fewer _ _ c.reserve-2.ensures.lists) (stands_still _ _ _ _ c.reserve-2.ensures.stands) (room_still _ _ c.reserve-2.ensures.stands) refl refl

pub make_lists-requires : goal.make_lists-requires
make_lists-requires c =
    let old = c.args.self.now in
    joined_same old _ c.requires.joined c.reserve.ensures.lists c.reserve-2.ensures.lits c.reserve-2.ensures.fars (no_fewer _ _ c.reserve-2.ensures.lists) (stands_still _ _ _ _ c.reserve-2.ensures.stands) (room_still _ _ c.reserve-2.ensures.stands) refl refl

pub make_room-requires-clause-known : goal.make_room-requires-clause-known
make_room-requires-clause-known c = λ k d lt.
    let l = get_or c.lits.result.now k d in
    let known = subst (λ (ls : List Literal). All (λ x. x.var ≤ c.greatest_variable-vars.result) ls) (sym c.lits.ensures.value) c.greatest_variable-vars.ensures.none_above k d lt in
    omega (arith, known, code_most l, c.in_ok-make_lists.ensures.lists)

pub append-requires-clause-joined : goal.append-requires-clause-joined
append-requires-clause-joined c =
    let made = c.make_room.new.self in
    let same : made.assigned ≡ c.args.self.now.assigned = c.make_room.ensures.assigned ∙ c.make_lists.ensures.assigned in
    let vars = c.in_ok-grow.ensures.vars in
    joined_grown made _ c.make_room.ensures.joined refl refl refl c.grow.ensures.trail (omega (arith, vars))
    (subst (λ (n : ℕ). 2 * n + 2 ≤ made.watches.lists) (sym vars)
    (most_within made.assigned.vars c.greatest_variable-vars.result made.watches.lists c.make_room.ensures.joined.lists (omega (arith, c.in_ok-make_lists.ensures.lists, c.make_room.ensures.lists))))

pub append-requires-clause-list_room : goal.append-requires-clause-list_room
append-requires-clause-list_room c = λ k.
    let room = (listed_at c.make_room.new.self.watches.stands k).room in
    subst (λ (s : Stored). uses (s.lists ++ c.args.clause ∷ []) k ≤ room) (sym c.make_room.ensures.clauses)
    (subst (λ (ls : List Literal). uses (c.make_lists.new.self.clauses.lists ++ ls ∷ []) k ≤ room) c.lits.ensures.value (c.in_ok-make_room.ensures.more k))
