use Rattle.std.proofs.Common.{rules, [], get_or, ◌≡◌, ◌<◌, ◌+◌, ◌*◌, ◌/◌, ◌%◌, min, max, List, length, ap, sym, subst, ◌∙◌, arith}
use Rattle.cnf_core.specs.Literal.{Literal}
use Rattle.sat_proof.specs.Lines.{proof_lines, row_lines}
use Rattle.sat_proof.specs.declared.proof.Row.{Row}
use Rattle.log_check.specs.Parts.{TellsLives, first_found}
use Rattle.log_check.specs.Verdict.{first_bad, verdict_of}
use Rattle.log_check.proofs.Found.{found_in_all, in_chunk, verdict_is}
use Rattle.log_check.proofs.check_log_parallel.Goals as goal

pub returns : goal.returns
returns g c =
    let formula = c.clauses-clauses.result.now in
    let proof = c.args.p.now in
    let rows = c.rows-rows.result.now in
    let calendar = c.in_ok-new.field-0 in
    let bad = c.in_ok-bad.bad in
    let size = c.max-size.result in
    let found = c.in_ok-found.found.items in
    let positive : 0 < size = (let most : size ≡ max c.div_ceil.result 1 = c.max-size.ensures in omega (arith, most)) in
    let count : length found ≡ length rows / size + min 1 (length rows % size) = sym (ap length c.deref.ensures.value) ∙ c.deref.ensures.len ∙ c.in_ok-found.ensures.len in
    let given : TellsLives calendar formula (proof_lines proof) = c.in_ok-new.ensures in
    let tells : TellsLives calendar formula (row_lines proof rows) = subst (λ (rs : List Row). TellsLives calendar formula (row_lines proof rs)) (sym c.rows-rows.ensures) given in
    c.verdict_after.ensures
    ∙ verdict_is proof formula proof.rows bad
    (subst (λ (rs : List Row). bad ≡ first_bad formula [] (row_lines proof rs)) c.rows-rows.ensures
    (found_in_all proof calendar formula rows size found bad tells positive count
    (λ i d l. let k = (c.in_ok-found.ensures.each i d l).1 in let h = k.call in in_chunk proof calendar rows k.argument.now size (i * size) (get_or found i d) k.argument_is (search rules))
    (c.in_ok-bad.ensures ∙ ap first_found c.deref.ensures.value)))
    ∙ ap (λ (f : List (List Literal)). verdict_of f (proof_lines proof)) c.clauses-clauses.ensures.value
