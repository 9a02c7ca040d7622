use Rattle.std.proofs.Common.{◌≡◌, List, [], ◌∷◌, ◌++◌, subst, sym}
use Rattle.std.proofs.lemmas.Result.{on_ok_weaker}
use Rattle.cnf_core.specs.Literal.{IsOrdered, Literal, VariablesUpTo}
use Rattle.cnf_core.proofs.Keeping.{same_variables}
use Rattle.enc_atoms.proofs.Gathering.{says_added, says_always}
use Rattle.enc_atoms.proofs.clauses.add_literals.Goals as goal

pub has_contraries-requires : goal.has_contraries-requires
has_contraries-requires c = subst IsOrdered (sym c.deref.ensures.value) c.in_order-ordered.ensures.ordered

pub returns-then-has_contraries : goal.returns-then-has_contraries
returns-then-has_contraries c =
    says_always c.args.f.now c.in_order-ordered.result.items c.deref.result.now c.args.literals.items c.deref.ensures.value c.in_order-ordered.ensures.same
    (c.has_contraries.ensures.found c.if-has_contraries.true)

pub add_ordered-requires : goal.add_ordered-requires
add_ordered-requires c =
    record {
      ordered = subst IsOrdered (sym c.deref-2.ensures.value) c.in_order-ordered.ensures.ordered;
      names = subst (VariablesUpTo c.args.f.now.vars) (sym c.deref-2.ensures.value) (same_variables c.args.f.now.vars c.in_order-ordered.result.items c.args.literals.items c.in_order-ordered.ensures.same c.requires);
    }

pub returns : goal.returns
returns c =
    on_ok_weaker c.add_ordered.result
    (λ h. says_added c.args.f.now c.add_ordered.new.self c.in_order-ordered.result.items c.deref.result.now c.args.literals.items c.deref.ensures.value c.in_order-ordered.ensures.same
    (c.has_contraries.ensures.none c.if-has_contraries.false) (subst (λ (ls : List Literal). c.add_ordered.new.self ≡ record c.args.f.now { clauses = c.args.f.now.clauses ++ ls ∷ [] }) c.deref-2.ensures.value h)) c.add_ordered.ensures.ok
