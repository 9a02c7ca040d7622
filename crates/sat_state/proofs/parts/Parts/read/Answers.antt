use Rattle.std.proofs.Common.{◌≡◌, ◌≢◌, ◌+◌, ◌/◌, ◌<◌, ◌≤◌, ◌⊎◌, ◌∷◌, [], ◌++◌, ℕ, Bool, false, List, Some, length, get_or, set, Contains, refl, sym, ap, ◌∙◌, subst, inl, inr, ⊎_elim, arith}
use Rattle.std.proofs.lemmas.List.{get_or_append_left, length_push}
use Rattle.cnf_core.specs.Literal.{Literal, is_among, code_of}
use Rattle.cnf_core.specs.Steps.{HasTrueLiteral}
use Rattle.sat_state.specs.Trail.{Entry, literals, next_level, Gives, IsFalsified}
use Rattle.sat_state.specs.Stored.{Stored, clause_at}
use Rattle.sat_state.specs.Watched.{Watched}
use Rattle.sat_state.specs.Watching.{Watching, no_lit, lit_at, IsInSomeList, links}
use Rattle.sat_state.specs.Guards.{is_false}
use Rattle.sat_state.specs.Joined.{some_entry, place_in_queue}
use Rattle.sat_state.proofs.Literals.{Contains-from_among}
use Rattle.sat_state.proofs.Guarded.{literals_grow}
use Rattle.sat_state.proofs.Going.{no_fewer, stands_still, room_still, joined_same, goes_same, entry_clause, entry_long, other_there, other_pair, other_var, beside_other, open_not_walked, first_is, walking_kept, goes_moved, walking_moved, moved_links, gives_by, falsified_by, pushed_true}
use Rattle.sat_state.proofs.parts.Parts.read.Goals as goal

pub lit-other-requires-clause-some : goal.lit-other-requires-clause-some
lit-other-requires-clause-some c = other_var c.args.self.now c.requires.joined c.requires.walking (record { entry = c.args.entry; pair = c.requires.next.pair; blocker = c.requires.next.blocker }) c.requires.next.next c.partner.result c.partner.ensures

pub lit-other-requires-clause-there : goal.lit-other-requires-clause-there
lit-other-requires-clause-there c = other_there c.args.self.now c.requires.joined c.requires.walking (record { entry = c.args.entry; pair = c.requires.next.pair; blocker = c.requires.next.blocker }) c.requires.next.next c.partner.result c.partner.ensures

-- the other literal is true

pub returns-then-is_short_true-clause-walking : goal.returns-then-is_short_true-clause-walking
returns-then-is_short_true-clause-walking c = λ e.
    let old = c.args.self.now in
    let v : Watched = record { entry = c.args.entry; pair = c.requires.next.pair; blocker = c.requires.next.blocker } in
    let trues = literals old.assigned.trail in
    let pair = other_pair old c.requires.joined c.requires.walking v c.requires.next.next c.partner.result c.partner.ensures in
    let is_true : HasTrueLiteral trues (clause_at old.clauses.lists (v.entry / 2))
    = (
      lit_at old.watches.lits c.partner.result,
      pair.in_clause,
      subst (λ (l : Literal). Contains trues l) c.lit-other.ensures (Contains-from_among trues c.lit-other.result (sym c.is_short_true.ensures ∙ c.if-is_short_true.true)),
    ) in
    walking_kept old c.requires.joined c.requires.walking v c.requires.next.next _ is_true (λ l h. h) refl (omega arith) refl refl c.keep_with.ensures.lits c.keep_with.ensures.fars c.keep_with.ensures.walked c.keep_with.ensures.walks_far c.keep_with.ensures.waiting

pub returns-then-is_short_true-clause-goes : goal.returns-then-is_short_true-clause-goes
returns-then-is_short_true-clause-goes c =
    let old = c.args.self.now in
    let v : Watched = record { entry = c.args.entry; pair = c.requires.next.pair; blocker = c.requires.next.blocker } in
    let first = first_is old.watches.waiting v.entry c.requires.next.next.first in
    goes_same old _ c.requires.joined refl c.keep_with.ensures.lits c.keep_with.ensures.fars (no_fewer _ _ c.keep_with.ensures.lists)
    (record {
      each = λ x s. ⊎_elim
          (λ (stood : IsInSomeList old.watches.stands x). inl stood)
          (λ (is : x ≡ record { entry = get_or old.watches.waiting 0 0; pair = false; blocker = c.lit-other.result }).
          inr (beside_other old c.requires.joined c.requires.walking v c.requires.next.next c.partner.result c.partner.ensures x
          (is ∙ ap (λ (n : ℕ). record { entry = n; pair = false; blocker = c.lit-other.result }) first ∙ ap (λ (l : Literal). record { entry = v.entry; pair = false; blocker = l }) c.lit-other.ensures)))
          (c.keep_with.ensures.stands x s);
    })
    (record { each = λ k. omega (arith, c.keep_with.ensures.kept k) }) refl refl

-- the entry moves

pub link-requires-clause-other : goal.link-requires-clause-other
link-requires-clause-other c =
    let old = c.args.self.now in
    inr (λ same. open_not_walked old c.requires.joined c.requires.walking (record { entry = c.args.entry; pair = c.requires.next.pair; blocker = c.requires.next.blocker }) c.requires.next.next c.partner.result c.partner.ensures c.in-Some.lit c.in-Some.ensures.open (same ∙ c.take.ensures.walked))

pub link-requires-clause-room : goal.link-requires-clause-room
link-requires-clause-room c =
    let old = c.args.self.now in
    let v : Watched = record { entry = c.args.entry; pair = c.requires.next.pair; blocker = c.requires.next.blocker } in
    let l = c.in-Some.lit in
    let w = c.requires.walking in
    let next = c.requires.next.next in
    let not_other : l ≢ lit_at old.watches.lits c.partner.result = λ same. c.in-Some.ensures.other (same ∙ sym (c.lit-found.ensures ∙ c.lit-other.ensures)) in
    let lits : c.take.new.self.lits ≡ set old.watches.lits v.entry no_lit
    = c.take.ensures.lits ∙ ap (λ (k : ℕ). set old.watches.lits k no_lit) (first_is old.watches.waiting v.entry next.first) in
    let few = moved_links old c.requires.joined w v next l (entry_long old c.requires.joined w v next w.some) c.in-Some.ensures.in_clause c.in-Some.ensures.open c.partner.result c.partner.ensures not_other in
    omega (arith, ap (λ (ls : List Literal). links ls (code_of l)) lits, few, c.requires.joined.rooms (code_of l), c.take.ensures.kept (code_of l))

pub returns-in-Some-clause-goes : goal.returns-in-Some-clause-goes
returns-in-Some-clause-goes c =
    let old = c.args.self.now in
    let v : Watched = record { entry = c.args.entry; pair = c.requires.next.pair; blocker = c.requires.next.blocker } in
    let e = v.entry in
    let w = c.requires.walking in
    let next = c.requires.next.next in
    let not_other : c.in-Some.lit ≢ lit_at old.watches.lits c.partner.result = λ same. c.in-Some.ensures.other (same ∙ sym (c.lit-found.ensures ∙ c.lit-other.ensures)) in
    let lits : c.link.new.self.lits ≡ set (set old.watches.lits e no_lit) e c.in-Some.lit
    = c.link.ensures.lits ∙ ap (λ (ls : List Literal). set ls e c.in-Some.lit) (c.take.ensures.lits ∙ ap (λ (k : ℕ). set old.watches.lits k no_lit) (first_is old.watches.waiting e next.first)) in
    let fars : c.link.new.self.fars ≡ set (set old.watches.fars e false) e c.is_far-far.result
    = c.link.ensures.fars ∙ ap (λ (fs : List Bool). set fs e c.is_far-far.result) (c.take.ensures.fars ∙ ap (λ (k : ℕ). set old.watches.fars k false) (first_is old.watches.waiting e next.first)) in
    goes_moved old c.requires.joined w v next c.in-Some.lit (entry_long old c.requires.joined w v next w.some) c.in-Some.ensures.in_clause c.in-Some.ensures.open c.partner.result c.partner.ensures not_other _
    refl c.other_open.ensures.clauses refl (no_fewer _ _ (c.link.ensures.lists ∙ c.take.ensures.lists)) (c.link.ensures.walked ∙ c.take.ensures.walked) (c.link.ensures.walks_far ∙ c.take.ensures.walks_far) (c.link.ensures.waiting ∙ c.take.ensures.waiting) lits
    c.is_far-far.result fars
    (record {
      each = λ x s. ⊎_elim
          (λ (stood : IsInSomeList c.take.new.self.stands x). inl (c.take.ensures.stands x stood))
          (λ (is : x ≡ record { entry = e; pair = false; blocker = c.lit-other.result }).
          inr (beside_other old c.requires.joined w v next c.partner.result c.partner.ensures x (is ∙ ap (λ (l : Literal). record { entry = e; pair = false; blocker = l }) c.lit-other.ensures)))
          (c.link.ensures.stands x s);
    })
    (record { each = λ k. omega (arith, c.link.ensures.kept k, c.take.ensures.kept k) })

pub returns-in-Some-clause-walking : goal.returns-in-Some-clause-walking
returns-in-Some-clause-walking c = λ yes'.
    let old = c.args.self.now in
    let v : Watched = record { entry = c.args.entry; pair = c.requires.next.pair; blocker = c.requires.next.blocker } in
    let e = v.entry in
    let w = c.requires.walking in
    let next = c.requires.next.next in
    let not_other : c.in-Some.lit ≢ lit_at old.watches.lits c.partner.result = λ same. c.in-Some.ensures.other (same ∙ sym (c.lit-found.ensures ∙ c.lit-other.ensures)) in
    let lits : c.link.new.self.lits ≡ set (set old.watches.lits e no_lit) e c.in-Some.lit
    = c.link.ensures.lits ∙ ap (λ (ls : List Literal). set ls e c.in-Some.lit) (c.take.ensures.lits ∙ ap (λ (k : ℕ). set old.watches.lits k no_lit) (first_is old.watches.waiting e next.first)) in
    let fars : c.link.new.self.fars ≡ set (set old.watches.fars e false) e c.is_far-far.result
    = c.link.ensures.fars ∙ ap (λ (fs : List Bool). set fs e c.is_far-far.result) (c.take.ensures.fars ∙ ap (λ (k : ℕ). set old.watches.fars k false) (first_is old.watches.waiting e next.first)) in
    walking_moved old c.requires.joined w v next c.in-Some.lit (entry_long old c.requires.joined w v next w.some) c.in-Some.ensures.in_clause c.in-Some.ensures.open c.partner.result c.partner.ensures not_other _
    refl c.other_open.ensures.clauses refl (no_fewer _ _ (c.link.ensures.lists ∙ c.take.ensures.lists)) (c.link.ensures.walked ∙ c.take.ensures.walked) (c.link.ensures.walks_far ∙ c.take.ensures.walks_far) (c.link.ensures.waiting ∙ c.take.ensures.waiting) lits
    c.is_far-far.result fars
    (record {
      each = λ x s. ⊎_elim
          (λ (stood : IsInSomeList c.take.new.self.stands x). inl (c.take.ensures.stands x stood))
          (λ (is : x ≡ record { entry = e; pair = false; blocker = c.lit-other.result }).
          inr (beside_other old c.requires.joined w v next c.partner.result c.partner.ensures x (is ∙ ap (λ (l : Literal). record { entry = e; pair = false; blocker = l }) c.lit-other.ensures)))
          (c.link.ensures.stands x s);
    })
    (record { each = λ k. omega (arith, c.link.ensures.kept k, c.take.ensures.kept k) })

-- the clause is falsified

pub returns-then-is_short_true-2-clause-goes : goal.returns-then-is_short_true-2-clause-goes
returns-then-is_short_true-2-clause-goes c =
    let old = c.args.self.now in
    goes_same old _ c.requires.joined c.other_open.ensures.clauses refl refl (no_fewer _ _ refl) (stands_still _ _ _ _ refl) (room_still _ _ refl) refl refl

pub returns-then-is_short_true-2-clause-falsified : goal.returns-then-is_short_true-2-clause-falsified
returns-then-is_short_true-2-clause-falsified c = λ e.
    let old = c.args.self.now in
    let v : Watched = record { entry = c.args.entry; pair = c.requires.next.pair; blocker = c.requires.next.blocker } in
    let trues = literals old.assigned.trail in
    let n = v.entry / 2 in
    let clause = clause_at old.clauses.lists n in
    let falsified : is_false trues c.lit-found.result ≡ Rattle.std.proofs.Common.true
    = ap (is_false trues) c.lit-found.ensures ∙ ap (is_among trues) (sym c.negated.ensures) ∙ sym c.is_short_true-2.ensures ∙ c.if-is_short_true-2.true in
    record {
      there = rw c.other_open.ensures.clauses (entry_clause old c.requires.joined c.requires.walking v c.requires.next.next);
      falsified = subst (λ (cs : List (List Literal)). IsFalsified trues (clause_at cs n)) (sym c.other_open.ensures.clauses)
          (falsified_by trues clause c.lit-found.result falsified (c.other_open.ensures.none (ap Rattle.std.proofs.Common.is_some c.in_default.is)));
    }

-- the other literal is forced

pub force-requires-clause-joined : goal.force-requires-clause-joined
force-requires-clause-joined c =
    let old = c.args.self.now in
    joined_same old _ c.requires.joined c.other_open.ensures.clauses refl refl (no_fewer _ _ refl) (stands_still _ _ _ _ refl) (room_still _ _ refl) refl refl

pub force-requires-clause-gives : goal.force-requires-clause-gives
force-requires-clause-gives c =
    let old = c.args.self.now in
    let v : Watched = record { entry = c.args.entry; pair = c.requires.next.pair; blocker = c.requires.next.blocker } in
    let trues = literals old.assigned.trail in
    let n = v.entry / 2 in
    let clause = clause_at old.clauses.lists n in
    let pair = other_pair old c.requires.joined c.requires.walking v c.requires.next.next c.partner.result c.partner.ensures in
    subst (λ (cs : List (List Literal)). Gives trues (clause_at cs n) c.lit-found.result) (sym c.other_open.ensures.clauses)
    (gives_by trues clause c.lit-found.result (subst (λ (l : Literal). Contains clause l) (sym (c.lit-found.ensures ∙ c.lit-other.ensures)) pair.in_clause) (c.other_open.ensures.none (ap Rattle.std.proofs.Common.is_some c.in_default.is)))

pub returns-clause-walking : goal.returns-clause-walking
returns-clause-walking c = λ e.
    let old = c.args.self.now in
    let v : Watched = record { entry = c.args.entry; pair = c.requires.next.pair; blocker = c.requires.next.blocker } in
    let n = v.entry / 2 in
    let trail = old.assigned.trail in
    let x : Entry = record { literal = c.lit-found.result; level = next_level trail (Some n); reason = Some n } in
    let more : c.force.new.self.assigned.trail ≡ trail ++ x ∷ [] = c.force.ensures.trail in
    let now = literals c.force.new.self.assigned.trail in
    let pair = other_pair old c.requires.joined c.requires.walking v c.requires.next.next c.partner.result c.partner.ensures in
    let is_true : HasTrueLiteral now (clause_at old.clauses.lists n)
    = (
      c.lit-found.result,
      subst (λ (l : Literal). Contains (clause_at old.clauses.lists n) l) (sym (c.lit-found.ensures ∙ c.lit-other.ensures)) pair.in_clause,
      subst (λ (es : List Entry). Contains (literals es) c.lit-found.result) (sym more) (pushed_true trail x),
    ) in
    walking_kept old c.requires.joined c.requires.walking v c.requires.next.next _ is_true
    (λ l h. subst (λ (es : List Entry). Contains (literals es) l) (sym more) (literals_grow trail x l h))
    (rw more (get_or_append_left trail (x ∷ []) some_entry (place_in_queue old.queue old.watches.walks_far) c.requires.walking.more))
    (rw more (omega (arith, length_push trail x)))
    (ap (λ (s : Stored). s.lists) c.force.ensures.clauses ∙ c.other_open.ensures.clauses) c.force.ensures.queue
    (c.keep.ensures.lits ∙ ap (λ (t : Watching). t.lits) c.force.ensures.watches) (c.keep.ensures.fars ∙ ap (λ (t : Watching). t.fars) c.force.ensures.watches)
    (c.keep.ensures.walked ∙ ap (λ (t : Watching). t.walked) c.force.ensures.watches) (c.keep.ensures.walks_far ∙ ap (λ (t : Watching). t.walks_far) c.force.ensures.watches)
    (c.keep.ensures.waiting ∙ ap (λ (t : Watching). Rattle.std.proofs.Common.drop 1 t.waiting) c.force.ensures.watches)

pub returns-clause-goes : goal.returns-clause-goes
returns-clause-goes c =
    let forced = c.force.new.self in
    Rattle.sat_state.proofs.Going.goes_again c.args.self.now forced _
    (Rattle.sat_state.proofs.Going.goes_again c.args.self.now _ forced
    (goes_same c.args.self.now _ c.requires.joined c.other_open.ensures.clauses refl refl (no_fewer _ _ refl) (stands_still _ _ _ _ refl) (room_still _ _ refl) refl refl) c.force.ensures.goes)
    (goes_same forced _ c.force.ensures.goes.joined refl c.keep.ensures.lits c.keep.ensures.fars (no_fewer _ _ c.keep.ensures.lists) (stands_still _ _ _ _ c.keep.ensures.stands) (room_still _ _ c.keep.ensures.stands) refl refl)

pub is_far-far-requires : goal.is_far-far-requires
is_far-far-requires c = rw c.other_open.ensures.clauses (entry_clause c.args.self.now c.requires.joined c.requires.walking (record { entry = c.args.entry; pair = c.requires.next.pair; blocker = c.requires.next.blocker }) c.requires.next.next)
