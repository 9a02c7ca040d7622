use Rattle.std.proofs.Common.{◌≡◌, ◌+◌, ◌≤◌, ◌∷◌, [], ◌++◌, ◌∙◌, ℕ, List, cond, take, refl, sym, ap, subst, arith}
use Rattle.std.proofs.lemmas.List.{take_more, take_all}
use Rattle.cnf_core.specs.Literal.{Literal, code_of}
use Rattle.sat_state.specs.Watching.{listed_at}
use Rattle.sat_state.specs.Joined.{has_code}
use Rattle.sat_state.proofs.Going.{joined_same, stands_alike}
use Rattle.sat_state.proofs.Used.{room_push, uses_more}
use Rattle.sat_state.proofs.parts.Parts.make_room.Goals as goal

pub make_room-requires : goal.make_room-requires
make_room-requires c =
    let l = c.loop-lit in
    omega (arith, l.invariant.lists, ap code_of c.lit-item.is, c.requires.known l.lit-index c.lit-item.result c.loop-lit-test.true)

pub loop-lit-preserved : goal.loop-lit-preserved
loop-lit-preserved c =
    let l = c.loop-lit in
    let lits = c.args.lits.now in
    let x = c.lit-item.result in
    let made = c.make_room.ensures in
    let next : take (l.lit-index + 1) lits ≡ take l.lit-index lits ++ x ∷ []
    = take_more lits l.lit-index x c.loop-lit-test.true ∙ ap (λ (y : Literal). take l.lit-index lits ++ y ∷ []) (sym c.lit-item.is) in
    record {
      joined = joined_same l.self _ l.invariant.joined refl made.lits made.fars (omega (arith, made.lists)) (stands_alike _ _ _ _ made.watches) (record { each = made.kept }) refl refl;
      clauses = l.invariant.clauses;
      assigned = l.invariant.assigned;
      queue = l.invariant.queue;
      room = made.room ∙ l.invariant.room;
      lits = made.lits ∙ l.invariant.lits;
      lists = made.lists ∙ l.invariant.lists;
      more = λ code.
          let was = (listed_at c.args.self.now.watches.stands code).room in
          let before = (listed_at l.self.watches.stands code).room in
          let now = (listed_at c.make_room.new.self.stands code).room in
          subst (λ (ls : List Literal). was + cond (has_code ls code) 1 0 ≤ now) (sym next)
          (room_push (take l.lit-index lits) x code was before now (l.invariant.more code) (made.kept code)
          (λ is. subst (λ (k : ℕ). (listed_at c.make_room.new.self.stands k).room ≡ (listed_at l.self.watches.stands k).room + 1) is c.in_ok-make_room.ensures.more));
    }

pub returns-clause-more : goal.returns-clause-more
returns-clause-more c = λ code.
    let l = c.loop-lit in
    let lits = c.args.lits.now in
    let all : take l.lit-index lits ≡ lits = take_all l.lit-index lits (omega (arith, c.loop-lit-test.false)) in
    let more = subst (λ (ls : List Literal). (listed_at c.args.self.now.watches.stands code).room + cond (has_code ls code) 1 0 ≤ (listed_at l.self.watches.stands code).room) all (l.invariant.more code) in
    omega (arith, uses_more c.args.self.now.clauses.lists lits code, c.requires.joined.rooms code, more)

pub returns-in_err-make_room-clause-joined : goal.returns-in_err-make_room-clause-joined
returns-in_err-make_room-clause-joined c =
    let l = c.loop-lit in
    let made = c.make_room.ensures in
    joined_same l.self _ l.invariant.joined refl made.lits made.fars (omega (arith, made.lists)) (stands_alike _ _ _ _ made.watches) (record { each = made.kept }) refl refl
