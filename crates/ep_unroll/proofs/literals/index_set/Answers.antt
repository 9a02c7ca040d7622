use Rattle.ep_unroll.proofs.Words.{Some, ap, sym, ◌∙◌, index_values-none, index_values-some, domain_values, domain_tree, mode_in}
use Rattle.ep_unroll.proofs.literals.index_set.Goals as goal

pub returns-in_ok-set-in-Some : goal.returns-in_ok-set-in-Some
returns-in_ok-set-in-Some c n r =
    sym (index_values-some (mode_in c.args.scope) r.values c.args.domain.now c.in-Some.stated c.args.count c.in-Some.is)
    ∙ ap (λ d. domain_values (mode_in c.args.scope) r.values (domain_tree d)) (sym c.deref.ensures) ∙ c.in_ok-set-in-Some.ensures.kept n r

pub returns-in_ok-set-in-None : goal.returns-in_ok-set-in-None
returns-in_ok-set-in-None c n r =
    sym (ap Some c.in_ok-set-in-None.ensures ∙ index_values-none (mode_in c.args.scope) r.values c.args.domain.now c.args.count c.in-None.is)
