use Rattle.std.proofs.lemmas.Result.{err_from_is_err_and}
use Rattle.std.proofs.Common.{◌++◌, Err}
use Rattle.ep_base.proofs.PutSteps.{rose_later}
use Rattle.ep_base.specs.Outside.{Rose}
use Rattle.ep_outputs.specs.Outputs.{a_formula, an_answer, named, steps}
use Rattle.ep_driver.specs.Outputs.{outputs_in_order}
use Rattle.ep_outputs.proofs.Telling.{told-before, told-behind}
use Rattle.ep_driver.proofs.writing.write_outputs.Goals as goal

pub returns-in_err-write_formula-clause-tells : goal.returns-in_err-write_formula-clause-tells
unfolding outputs_in_order
returns-in_err-write_formula-clause-tells g c =
    let p = err_from_is_err_and c.from_residual.result c.from_residual.ensures.1 in
    let log = c.args.log.now in
    let answer = c.args.answer.now in
    let o = c.args.outputs in
    let rose = Rose (g.F.Files.faults c.args.files.now) (g.F.Files.faults c.write_formula.new.files) in
    rw (p.1, p.2)
    (told-before (Unit {0}) (Unit {0}) log answer (named a_formula o.formula) (named steps o.log ++ named an_answer o.solution) (g.F.Files.held c.args.files.now) (g.F.Files.held c.write_formula.new.files) rose rose c.in_err-write_formula.field-0.0 (λ up. up) (c.in_err-write_formula.ensures.tells answer))

pub returns-in_err-write_steps-clause-tells : goal.returns-in_err-write_steps-clause-tells
unfolding outputs_in_order
returns-in_err-write_steps-clause-tells g c =
    let p = err_from_is_err_and c.from_residual-in_err-write_steps.result c.from_residual-in_err-write_steps.ensures.1 in
    let log = c.args.log.now in
    let answer = c.args.answer.now in
    let o = c.args.outputs in
    let first = g.F.Files.faults c.args.files.now in
    let next = g.F.Files.faults c.write_formula.new.files in
    let last = g.F.Files.faults c.write_steps.new.files in
    let a = g.F.Files.held c.args.files.now in
    let b = g.F.Files.held c.write_formula.new.files in
    let d = g.F.Files.held c.write_steps.new.files in
    rw (p.1, p.2)
    (told-behind {V = Unit {0}} log answer (named a_formula o.formula) (named steps o.log ++ named an_answer o.solution) a b d (Rose first last) (Rose next last) (Err c.in_err-write_steps.field-0.0) (rose_later first next last c.in_ok-write_formula.ensures.faults) (c.in_ok-write_formula.ensures.tells answer)
    (told-before (Unit {0}) (Unit {0}) log answer (named steps o.log) (named an_answer o.solution) b d (Rose next last) (Rose next last) c.in_err-write_steps.field-0.0 (λ up. up) (c.in_err-write_steps.ensures.tells answer)))

pub returns-clause-tells : goal.returns-clause-tells
unfolding outputs_in_order
returns-clause-tells g c =
    let log = c.args.log.now in
    let answer = c.args.answer.now in
    let o = c.args.outputs in
    let first = g.F.Files.faults c.args.files.now in
    let second = g.F.Files.faults c.write_formula.new.files in
    let third = g.F.Files.faults c.write_steps.new.files in
    let last = g.F.Files.faults c.write_answer.new.files in
    let a = g.F.Files.held c.args.files.now in
    let b = g.F.Files.held c.write_formula.new.files in
    let d = g.F.Files.held c.write_steps.new.files in
    let e = g.F.Files.held c.write_answer.new.files in
    told-behind log answer (named a_formula o.formula) (named steps o.log ++ named an_answer o.solution) a b e (Rose first last) (Rose second last) c.write_answer.result (rose_later first second last c.in_ok-write_formula.ensures.faults) (c.in_ok-write_formula.ensures.tells answer)
    (told-behind log answer (named steps o.log) (named an_answer o.solution) b d e (Rose second last) (Rose third last) c.write_answer.result (rose_later second third last c.in_ok-write_steps.ensures.faults) (c.in_ok-write_steps.ensures.tells answer) c.write_answer.ensures.tells)
