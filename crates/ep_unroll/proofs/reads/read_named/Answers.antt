use Rattle.ep_unroll.proofs.Words.{None, Some, ap, length, refl, sym, ◌∙◌, option_map, env_in, mode_in, indices_in, read_value, expr_tree, indices_of, IsWorth, numbering_of, AreTerms, worth}
use Rattle.ep_unroll.proofs.PartSteps.{read_done}
use Rattle.ep_unroll.proofs.reads.read_named.Goals as goal

pub returns-in_ok-left-in-Some : goal.returns-in_ok-left-in-Some
unfolding worth AreTerms
returns-in_ok-left-in-Some c nodes p q tree =
    let n = numbering_of (mode_in c.args.scope) c.args.table.now in
    let block = c.in_ok-block.block in
    let is = c.deref.result.now in
    read_done n (env_in c.args.scope) nodes p q c.args.name.now (indices_of c.args.indices.now) (expr_tree c.args.e.now) block.first block.domains.now (Some (indices_in is)) c.in_ok-ty.ty c.finish_read.result
    c.in_ok-block.ensures tree c.in_ok-ty.ensures
    (λ r. c.in_ok-numbers.ensures n r ∙ ap (option_map (λ v. indices_in v.items)) c.in-Some.is ∙ ap (λ l. Some (indices_in l)) (sym c.deref.ensures.value))
    (λ numbers v e. c.finish_read.ensures.worth nodes numbers (read_value (indices_in is) v) (c.in_ok-left-in-Some.ensures.worth nodes numbers v e))
    (c.finish_read.ensures.terms (length nodes) (c.in_ok-left-in-Some.ensures.terms (length nodes) tt))

pub returns-in-None : goal.returns-in-None
unfolding AreTerms IsWorth
returns-in-None c nodes p q tree =
    let n = numbering_of (mode_in c.args.scope) c.args.table.now in
    let block = c.in_ok-block.block in
    read_done n (env_in c.args.scope) nodes p q c.args.name.now (indices_of c.args.indices.now) (expr_tree c.args.e.now) block.first block.domains.now None c.in_ok-ty.ty c.finish_read-in-None.result
    c.in_ok-block.ensures tree c.in_ok-ty.ensures
    (λ r. c.in_ok-numbers.ensures n r ∙ ap (option_map (λ v. indices_in v.items)) c.in-None.is)
    (λ numbers v e. c.finish_read-in-None.ensures.worth nodes numbers None refl)
    (c.finish_read-in-None.ensures.terms (length nodes) tt)
