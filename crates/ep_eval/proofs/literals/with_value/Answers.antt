use Rattle.ep_eval.proofs.Words.{◌≡◌, ◌∷◌, ◌++◌, [], List, Some, ap, sym, ◌∙◌, map, map-append, map_both, ValueTree, value_tree, Value, seen_held, listed_in}
use Rattle.ep_eval.proofs.literals.with_value.Goals as goal

-- a list with one more behind
abbrev behind : List ValueTree → ValueTree → List ValueTree
behind all one = all ++ one ∷ []

pub returns-in_default : goal.returns-in_default
unfolding map_both
returns-in_default c = sym (ap (λ o. map_both behind (listed_in o) (seen_held c.args.seen)) c.in_default.is)

pub returns-in_default-seen : goal.returns-in_default-seen
unfolding map_both
returns-in_default-seen c =
    let others : List ValueTree = map value_tree c.in-Some.others.items in
    sym (ap (λ o. map_both behind (listed_in o) (seen_held c.args.seen)) c.in-Some.is ∙ ap (λ o. map_both behind (Some others) (seen_held o)) c.in_default-seen.is)

pub returns : goal.returns
unfolding map_both
returns c =
    let old : List Value = c.in-Some.others.items in
    let others : List ValueTree = map value_tree old in
    let more : c.push.new.self.items ≡ old ++ c.in_ok-value.value ∷ [] = c.in_ok-push.ensures.items in
    ap Some
    (ap (map value_tree) more ∙ map-append value_tree old (c.in_ok-value.value ∷ []) ∙ ap (λ (v : ValueTree). others ++ v ∷ []) c.in_ok-value.ensures)
    ∙ sym
    (ap (λ o. map_both behind (listed_in o) (seen_held c.args.seen)) c.in-Some.is ∙ ap (λ o. map_both behind (Some others) (seen_held o)) c.in-Some-seen.is)
