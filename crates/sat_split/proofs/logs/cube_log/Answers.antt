use Rattle.std.proofs.Common.{◌∷◌, ◌++◌, [], take, ap, ◌∙◌, sym, arith}
use Rattle.std.proofs.lemmas.List.{take_more, take_all}
use Rattle.cnf_core.specs.Literal.{Literal}
use Rattle.cnf_core.specs.Events.{LogState}
use Rattle.sat_split.specs.Cubes.{cube_log}
use Rattle.sat_split.proofs.Units.{cube_log_none, cube_log_more, with_given}
use Rattle.sat_split.proofs.logs.cube_log.Goals as goal

pub loop-lit-init : goal.loop-lit-init
loop-lit-init c = c.in_ok-log.ensures ∙ cube_log_none c.args.formula.now.clauses

pub loop-lit-preserved : goal.loop-lit-preserved
loop-lit-preserved c =
    let clauses = c.args.formula.now.clauses in
    let literals = c.args.literals.now in
    let i = c.loop-lit.lit-index in
    let l = c.lit-item.result in
    c.in_ok-give_unit.ensures
    ∙ ap (λ (log : LogState). with_given log (l ∷ [])) c.loop-lit.invariant
    ∙ cube_log_more clauses (take i literals) l
    ∙ ap (cube_log clauses) (ap (λ (x : Literal). take i literals ++ x ∷ []) c.lit-item.is ∙ sym (take_more literals i l c.loop-lit-test.true))

pub returns : goal.returns
returns c = c.loop-lit.invariant ∙ ap (cube_log c.args.formula.now.clauses) (take_all c.loop-lit.lit-index c.args.literals.now (omega (arith, c.loop-lit-test.false)))
