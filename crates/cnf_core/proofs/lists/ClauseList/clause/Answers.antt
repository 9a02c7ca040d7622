use Rattle.std.proofs.Common.{◌≡◌, ◌<◌, ℕ, List, [], length, slice_index, sym, ap, subst, ◌∙◌, arith}
use Rattle.std.specs.Prelude.{slice_index_or}
use Rattle.cnf_core.specs.Literal.{Literal, IsClause}
use Rattle.cnf_core.specs.ClauseListInside.{clauses_in}
use Rattle.cnf_core.specs.Pieces.{part_of, start_of}
use Rattle.cnf_core.specs.declared.lists.ClauseList.TheInside.{Inside}
use Rattle.cnf_core.proofs.Pieces.{list_there, lists_length}
use Rattle.cnf_core.proofs.lists.ClauseList.clause.Goals as goal

-- as many places as ends
within : (i : Inside) (lists : List (List Literal)) (place : ℕ) → clauses_in i ≡ lists → place < length lists → place < length i.ends.items
within i lists place is lt =
    let size : length lists ≡ length i.ends.items = sym (ap length is) ∙ lists_length i.literals.items 0 i.ends.items in
    omega (arith, size, lt)

-- the part that is read is the clause of the place
there : (i : Inside) (place : ℕ) (literals piece : List Literal) (ends : List ℕ) → literals ≡ i.literals.items → ends ≡ i.ends.items → place < length i.ends.items
    → piece ≡ part_of literals (start_of 0 ends place) (slice_index ends place) → piece ≡ slice_index_or (clauses_in i) place []
there i place literals piece ends l e lt is =
    is ∙ ap (λ (ls : List Literal). part_of ls (start_of 0 ends place) (slice_index ends place)) l
    ∙ ap (λ (es : List ℕ). part_of i.literals.items (start_of 0 es place) (slice_index es place)) e
    ∙ sym (list_there i.literals.items 0 i.ends.items place lt)

pub piece-requires : goal.piece-requires
piece-requires c =
    subst (λ (es : List ℕ). c.args.place < length es) (sym c.as_slice-ends.ensures.value) (within c.self.inside c.args.self.now c.args.place c.self.view_is c.requires)

pub returns-clause-value : goal.returns-clause-value
returns-clause-value c =
    there c.self.inside c.args.place _ _ _ c.as_slice-literals.ensures.value c.as_slice-ends.ensures.value (within c.self.inside c.args.self.now c.args.place c.self.view_is c.requires) c.piece.ensures
    ∙ ap (λ (cs : List (List Literal)). slice_index_or cs c.args.place []) c.self.view_is

pub returns-clause-clause : goal.returns-clause-clause
returns-clause-clause c =
    let inside : c.args.place < length (clauses_in c.self.inside) = subst (λ (cs : List (List Literal)). c.args.place < length cs) (sym c.self.view_is) c.requires in
    subst IsClause (sym (there c.self.inside c.args.place _ _ _ c.as_slice-literals.ensures.value c.as_slice-ends.ensures.value (within c.self.inside c.args.self.now c.args.place c.self.view_is c.requires) c.piece.ensures))
    (c.self.invariant.clauses c.args.place [] inside)
