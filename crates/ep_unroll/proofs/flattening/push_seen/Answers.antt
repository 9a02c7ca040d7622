use Rattle.ep_unroll.proofs.Words.{Some, [], ap, sym, ◌∙◌, option_map}
use Rattle.ep_unroll.proofs.FlatSteps.{flat_nothing, flat_same, on_ok}
use Rattle.ep_unroll.proofs.flattening.push_seen.Goals as goal

pub returns-in-Some : goal.returns-in-Some
returns-in-Some c =
    on_ok c.push_numbers.result _ _
    (flat_same c.args.parts.now.items c.push_numbers.new.parts.items [] _ _
    (λ nodes numbers. ap Some c.deref.ensures.value ∙ ap (option_map (λ v. v.items)) (sym c.in-Some.is) ∙ c.in_ok-list.ensures)) c.push_numbers.ensures

pub returns-in_ok-push-in-None : goal.returns-in_ok-push-in-None
returns-in_ok-push-in-None c =
    flat_same c.args.parts.now.items c.push.new.self.items [] _ _ (λ nodes numbers. ap (option_map (λ v. v.items)) (sym c.in-None.is) ∙ c.in_ok-list.ensures)
    (flat_nothing c.args.parts.now.items c.push.new.self.items c.in_ok-push-in-None.ensures.items)
