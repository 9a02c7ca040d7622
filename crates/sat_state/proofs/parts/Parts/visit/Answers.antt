use Rattle.std.proofs.Common.{◌≡◌, ◌≢◌, ◌+◌, ◌/◌, ◌<◌, ◌≤◌, ◌⊎◌, ◌∷◌, [], ◌++◌, ℕ, Bool, false, List, Some, length, get_or, set, Contains, refl, sym, ap, ◌∙◌, subst, inl, inr, ⊎_elim, arith}
use Rattle.std.proofs.lemmas.List.{get_or_append_left, length_push}
use Rattle.cnf_core.specs.Literal.{Literal, is_among}
use Rattle.cnf_core.specs.Steps.{HasTrueLiteral}
use Rattle.sat_state.specs.Trail.{Entry, literals, next_level, Gives}
use Rattle.sat_state.specs.Stored.{Stored, clause_at}
use Rattle.sat_state.specs.Watched.{Watched}
use Rattle.sat_state.specs.Watching.{Watching}
use Rattle.sat_state.specs.Guards.{is_false}
use Rattle.sat_state.specs.Joined.{some_entry, place_in_queue}
use Rattle.sat_state.proofs.Literals.{Contains-from_among}
use Rattle.sat_state.proofs.Guarded.{literals_grow}
use Rattle.sat_state.proofs.Going.{free_literal, no_fewer, stands_still, room_still, goes_same, goes_again, entry_clause, blocker_in, gives_pair, walking_kept, pushed_true}
use Rattle.sat_state.proofs.parts.Parts.visit.Goals as goal

-- the literal beside the entry is true

pub returns-then-is_short_true-clause-walking : goal.returns-then-is_short_true-clause-walking
returns-then-is_short_true-clause-walking c = λ e.
    let old = c.args.self.now in
    let v : Watched = record { entry = c.args.entry; pair = c.args.pair; blocker = c.args.blocker } in
    let trues = literals old.assigned.trail in
    let is_true : HasTrueLiteral trues (clause_at old.clauses.lists (v.entry / 2))
    = (v.blocker, blocker_in old c.requires.joined c.requires.walking v c.requires.next, Contains-from_among trues v.blocker (sym c.is_short_true.ensures ∙ c.if-is_short_true.true)) in
    walking_kept old c.requires.joined c.requires.walking v c.requires.next _ is_true (λ l h. h) refl (omega arith) refl refl c.keep.ensures.lits c.keep.ensures.fars c.keep.ensures.walked c.keep.ensures.walks_far c.keep.ensures.waiting

pub returns-then-is_short_true-clause-goes : goal.returns-then-is_short_true-clause-goes
returns-then-is_short_true-clause-goes c =
    let old = c.args.self.now in
    goes_same old _ c.requires.joined refl c.keep.ensures.lits c.keep.ensures.fars (no_fewer _ _ c.keep.ensures.lists) (stands_still _ _ _ _ c.keep.ensures.stands) (room_still _ _ c.keep.ensures.stands) refl refl

-- the clause is read

pub read-requires-clause-next : goal.read-requires-clause-next
read-requires-clause-next c = record { pair = c.args.pair; blocker = c.args.blocker; next = c.requires.next }

-- it is the other one of two, and is forced

pub force-requires-clause-there : goal.force-requires-clause-there
force-requires-clause-there c = entry_clause c.args.self.now c.requires.joined c.requires.walking (record { entry = c.args.entry; pair = c.args.pair; blocker = c.args.blocker }) c.requires.next

pub force-requires-clause-gives : goal.force-requires-clause-gives
force-requires-clause-gives c =
    let old = c.args.self.now in
    let v : Watched = record { entry = c.args.entry; pair = c.args.pair; blocker = c.args.blocker } in
    let trues = literals old.assigned.trail in
    let not_false : is_false trues v.blocker ≡ false = ap (is_among trues) (sym c.negated.ensures) ∙ sym c.is_short_true-2.ensures ∙ c.if-is_short_true-2.false in
    subst (λ (l : Literal). Gives trues (clause_at old.clauses.lists (v.entry / 2)) l) (sym c.lit.ensures)
    (gives_pair old c.requires.joined c.requires.walking v c.requires.next c.if-not-pair.false not_false)

pub force-requires-clause-free : goal.force-requires-clause-free
force-requires-clause-free c =
    let trues = literals c.args.self.now.assigned.trail in
    let not_true : is_among trues c.lit.result ≡ false = ap (is_among trues) c.lit.ensures ∙ sym c.is_short_true.ensures ∙ c.if-is_short_true.false in
    let not_false : is_false trues c.lit.result ≡ false
    = ap (is_false trues) c.lit.ensures ∙ ap (is_among trues) (sym c.negated.ensures) ∙ sym c.is_short_true-2.ensures ∙ c.if-is_short_true-2.false in
    free_literal trues c.lit.result not_true not_false

pub returns-clause-walking : goal.returns-clause-walking
returns-clause-walking c = λ e.
    let old = c.args.self.now in
    let v : Watched = record { entry = c.args.entry; pair = c.args.pair; blocker = c.args.blocker } in
    let n = v.entry / 2 in
    let trail = old.assigned.trail in
    let x : Entry = record { literal = c.lit.result; level = next_level trail (Some n); reason = Some n } in
    let more : c.force.new.self.assigned.trail ≡ trail ++ x ∷ [] = c.force.ensures.trail in
    let now = literals c.force.new.self.assigned.trail in
    let is_true : HasTrueLiteral now (clause_at old.clauses.lists n)
    = (
      c.lit.result,
      subst (λ (l : Literal). Contains (clause_at old.clauses.lists n) l) (sym c.lit.ensures) (blocker_in old c.requires.joined c.requires.walking v c.requires.next),
      subst (λ (es : List Entry). Contains (literals es) c.lit.result) (sym more) (pushed_true trail x),
    ) in
    walking_kept old c.requires.joined c.requires.walking v c.requires.next _ is_true
    (λ l h. subst (λ (es : List Entry). Contains (literals es) l) (sym more) (literals_grow trail x l h))
    (rw more (get_or_append_left trail (x ∷ []) some_entry (place_in_queue old.queue old.watches.walks_far) c.requires.walking.more))
    (rw more (omega (arith, length_push trail x)))
    (ap (λ (s : Stored). s.lists) c.force.ensures.clauses) c.force.ensures.queue
    (c.keep-2.ensures.lits ∙ ap (λ (t : Watching). t.lits) c.force.ensures.watches) (c.keep-2.ensures.fars ∙ ap (λ (t : Watching). t.fars) c.force.ensures.watches)
    (c.keep-2.ensures.walked ∙ ap (λ (t : Watching). t.walked) c.force.ensures.watches) (c.keep-2.ensures.walks_far ∙ ap (λ (t : Watching). t.walks_far) c.force.ensures.watches)
    (c.keep-2.ensures.waiting ∙ ap (λ (t : Watching). Rattle.std.proofs.Common.drop 1 t.waiting) c.force.ensures.watches)

pub returns-clause-goes : goal.returns-clause-goes
returns-clause-goes c =
    let forced = c.force.new.self in
    goes_again c.args.self.now forced _ c.force.ensures.goes
    (goes_same forced _ c.force.ensures.goes.joined refl c.keep-2.ensures.lits c.keep-2.ensures.fars (no_fewer _ _ c.keep-2.ensures.lists) (stands_still _ _ _ _ c.keep-2.ensures.stands) (room_still _ _ c.keep-2.ensures.stands) refl refl)
