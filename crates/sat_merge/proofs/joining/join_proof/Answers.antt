use Rattle.std.proofs.Common.{◌≡◌, ◌∙◌, List, ℕ, ap, arith, length, refl, subst, sym}
use Rattle.std.specs.Prelude.{All}
use Rattle.cnf_core.specs.Events.{clauses_of}
use Rattle.cnf_core.specs.Literal.{Literal, VariablesUpTo}
use Rattle.log_check.specs.Verdict.{verdict_of}
use Rattle.log_check.specs.declared.Verdict.TheVariants as verdicts
use Rattle.sat_merge.specs.Proofs.{IsProved, cube_clauses}
use Rattle.sat_merge.proofs.Named.{begun_as, begun_gives, may_join, named_within, own_are}
use Rattle.sat_merge.proofs.joining.join_proof.Goals as goal
use Rattle.sat_merge.proofs.joining.join_proof.Goals.{In_ok-begun, In_ok-own}
use Rattle.sat_proof.specs.Lines.{proof_lines}
use Rattle.sat_split.specs.Cubes.{cube_literals, cube_log}

begun : (c : In_ok-begun) → c.in_ok-begun.begun ≡ cube_log c.args.formula.now.clauses (cube_literals (length c.args.ends.now.items) c.args.vars.now)
begun c = begun_as c.args.formula.now.clauses c.args.vars.now (length c.args.ends.now.items) c.len.result c.in_ok-literals.literals.items c.deref.result.now c.in_ok-begun.begun (omega (arith, c.len.ensures, c.args.ends.now.ok.0)) c.in_ok-literals.ensures c.deref.ensures.value c.in_ok-begun.ensures

own : (c : In_ok-own) → c.in_ok-own.own.clauses ≡ cube_clauses c.args.formula.now.clauses c.args.vars.now (length c.args.ends.now.items)
own c = own_are c.args.formula.now.clauses c.args.vars.now (length c.args.ends.now.items) c.in_ok-begun.begun c.in_ok-own.own.clauses (begun_as c.args.formula.now.clauses c.args.vars.now (length c.args.ends.now.items) c.len.result c.in_ok-literals.literals.items c.deref.result.now c.in_ok-begun.begun (omega (arith, c.len.ensures, c.args.ends.now.ok.0)) c.in_ok-literals.ensures c.deref.ensures.value c.in_ok-begun.ensures)
    c.in_ok-own.ensures

verdict : (c : In_ok-own) → verdict_of (cube_clauses c.args.formula.now.clauses c.args.vars.now (length c.args.ends.now.items)) (proof_lines c.args.proof.now) ≡ verdict_of c.in_ok-own.own.clauses (proof_lines c.args.proof.now)
verdict c = ap (λ (cs : List (List Literal)). verdict_of cs (proof_lines c.args.proof.now)) (sym (own c))

pub formula_of-requires-clause-named : goal.formula_of-requires-clause-named
formula_of-requires-clause-named c =
    let f = c.args.formula.now in
    let vars = c.args.vars.now in
    let cube = length c.args.ends.now.items in
    let are : clauses_of c.in_ok-begun.begun.events ≡ cube_clauses f.clauses vars cube = own_are f.clauses vars cube c.in_ok-begun.begun (clauses_of c.in_ok-begun.begun.events) (begun (goal.at.formula_of-requires-clause-named c).In_ok-begun) refl in
    subst (λ (cs : List (List Literal)). All (VariablesUpTo c.vars.result) cs) (sym are)
    (subst (λ (most : ℕ). All (VariablesUpTo most) (cube_clauses f.clauses vars cube)) (sym c.vars.ensures.value) (named_within f vars cube c.clauses-clauses.ensures.names c.requires.divides))

pub log_of_proof-requires-clause-begun : goal.log_of_proof-requires-clause-begun
log_of_proof-requires-clause-begun c =
    let o = (goal.at.log_of_proof-requires-clause-begun c).In_ok-own in
    begun_gives c.args.formula.now.clauses c.args.vars.now (length c.args.ends.now.items) c.in_ok-begun.begun c.in_ok-own.own.clauses (begun (goal.at.log_of_proof-requires-clause-begun c).In_ok-begun) (own o)

pub log_of_proof-requires-clause-verified : goal.log_of_proof-requires-clause-verified
log_of_proof-requires-clause-verified c = sym c.in_ok-check_log.ensures ∙ c.in-Verified.is

pub join_cube-requires : goal.join_cube-requires
join_cube-requires c =
    let clauses = c.args.formula.now.clauses in
    let vars = c.args.vars.now in
    let ends = c.args.ends.now.items in
    let log = c.in_ok-log-in-Verified.log.events in
    may_join clauses vars ends (length ends) log c.args.joined.now.events c.requires.divides c.requires.is_cube refl c.requires.joint
    (subst (λ (cs : List (List Literal)). IsProved cs log) (own (goal.at.join_cube-requires c).In_ok-own) c.in_ok-log-in-Verified.ensures)

pub returns-in-Verified-clause-verified : goal.returns-in-Verified-clause-verified
returns-in-Verified-clause-verified c = verdict (goal.at.returns-in-Verified-clause-verified c).In_ok-own ∙ sym c.in_ok-check_log.ensures ∙ c.in-Verified.is

pub returns-in-BadStep-clause-bad : goal.returns-in-BadStep-clause-bad
returns-in-BadStep-clause-bad c = λ line e.
    let same : c.in-BadStep.line ≡ line = cc e in (
      verdict (goal.at.returns-in-BadStep-clause-bad c).In_ok-own ∙ sym c.in_ok-check_log.ensures ∙ c.in-BadStep.is ∙ ap (λ (n : ℕ). verdicts.BadStep n) same,
      refl,
      refl,
    )

pub returns-clause-open : goal.returns-clause-open
returns-clause-open c = λ e. (verdict (goal.at.returns-clause-open c).In_ok-own ∙ sym c.in_ok-check_log.ensures ∙ c.in-NoEmptyClause.is, refl, refl)
