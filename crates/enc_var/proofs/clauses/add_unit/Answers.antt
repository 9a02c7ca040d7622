use Rattle.std.proofs.Common.{[], ◌∷◌, subst}
use Rattle.std.proofs.lemmas.Result.{on_ok_weaker}
use Rattle.cnf_core.proofs.Keeping.{same_variables}
use Rattle.cnf_core.specs.Clauses.{IsTrueUnder, SatisfiesClause}
use Rattle.cnf_core.specs.Literal.{HaveSameLiterals}
use Rattle.enc_var.proofs.Growing.{one_named, one_stands}
use Rattle.enc_var.proofs.Saying.{one_consistent, one_says, says_clause, says_like}
use Rattle.enc_var.proofs.clauses.add_unit.Goals as goal

pub add-requires : goal.add-requires
add-requires c =
    let same = subst (HaveSameLiterals c.in_ok-clause.clause) c.in_ok-literals.ensures.items c.in_ok-clause.ensures.same in
    same_variables c.args.f.now.vars c.in_ok-clause.clause (c.args.literal ∷ []) same (one_named c.args.f.now.vars c.args.literal c.requires)

pub returns-clause-says : goal.returns-clause-says
returns-clause-says c =
    let same = subst (HaveSameLiterals c.in_ok-clause.clause) c.in_ok-literals.ensures.items c.in_ok-clause.ensures.same in
    on_ok_weaker c.add.result
    (λ is. says_like c.args.f.now c.add.new.self (λ s. SatisfiesClause s (c.args.literal ∷ [])) (λ s. IsTrueUnder s c.args.literal)
    (says_clause c.args.f.now c.add.new.self c.in_ok-clause.clause (c.args.literal ∷ []) same (one_consistent c.args.literal) is)
    (λ s. one_says s c.args.literal)) c.add.ensures.ok

pub returns-clause-stands : goal.returns-clause-stands
returns-clause-stands c =
    let same = subst (HaveSameLiterals c.in_ok-clause.clause) c.in_ok-literals.ensures.items c.in_ok-clause.ensures.same in
    on_ok_weaker c.add.result
    (λ is. one_stands c.args.f.now c.add.new.self c.in_ok-clause.clause c.args.literal c.in_ok-clause.ensures.ordered same is) c.add.ensures.ok
