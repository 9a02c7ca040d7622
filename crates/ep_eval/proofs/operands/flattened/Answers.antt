use Rattle.ep_eval.proofs.Words.{Some, sym, ap, ◌∙◌, option_map, list_value, held_value}
use Rattle.ep_eval.proofs.operands.flattened.Goals as goal

pub returns-in_ok-list-in-Some : goal.returns-in_ok-list-in-Some
unfolding held_value
returns-in_ok-list-in-Some c =
    ap Some (c.in_ok-list-in-Some.ensures ∙ ap list_value c.deref.ensures.value)
    ∙ ap (option_map list_value) (ap (option_map (λ v. v.items)) (sym c.in-Some.is) ∙ c.in_ok-parts.ensures)
