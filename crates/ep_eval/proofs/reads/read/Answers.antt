use Rattle.ep_eval.proofs.Words.{Some, ap, sym, ◌∙◌, option_map, on_both, indices_in, read_value, held_value, seen_held}
use Rattle.ep_eval.proofs.ReadSteps.{given, no_value}
use Rattle.ep_eval.proofs.reads.read.Goals as goal

pub returns-in-Some-indices : goal.returns-in-Some-indices
unfolding on_both
returns-in-Some-indices c =
    given c.read_held.result _ _ c.read_held.ensures
    (λ found h. h ∙ ap (λ l. read_value (indices_in l) (held_value c.in-Some.held)) c.deref.ensures.value
    ∙ sym (ap (λ o. on_both (option_map (λ v. indices_in v.items) o) (seen_held c.args.seen) read_value) c.in-Some-indices.is
    ∙ ap (λ o. on_both (Some (indices_in c.in-Some-indices.indices.items)) (seen_held o) read_value) c.in-Some.is))

pub returns-in-Some : goal.returns-in-Some
unfolding on_both
returns-in-Some c = sym (ap (λ o. on_both (option_map (λ v. indices_in v.items) o) (seen_held c.args.seen) read_value) c.in-None-indices.is)

pub returns : goal.returns
returns c =
    sym (ap (λ o. on_both (option_map (λ v. indices_in v.items) c.args.indices) (seen_held o) read_value) c.in-None.is
    ∙ no_value (option_map (λ v. indices_in v.items) c.args.indices) read_value)
