use Rattle.ep_eval.proofs.Words.{◌≡◌, ◌∷◌, length, Some, ap, sym, subst, ◌∙◌, arith, w64, option_map, option_and_then, ints, to_z-of_z, indices_in, read_value, value_tree, IsStatedFirst, part_under}
use Rattle.ep_eval.proofs.ReadSteps.{stated_first}
use Rattle.ep_eval.proofs.reads.+descend.Goals as goal

pub descend-requires : goal.descend-requires
unfolding IsStatedFirst
descend-requires t c =
    let cut : c.args.indices.now ≡ Some c.in-Some.index ∷ c.in-Some.rest.now =
    subst (λ r. IsStatedFirst c.args.indices.now (option_map (λ x. (x.0, x.1.now)) r)) c.in-Some.is c.first_stated.ensures in
    let longer = ap length cut in
    (omega (arith, longer, c.decreases), tt)

pub returns-in-Some-part_in : goal.returns-in-Some-part_in
unfolding IsStatedFirst
returns-in-Some-part_in t c =
    let cut : c.args.indices.now ≡ Some c.in-Some.index ∷ c.in-Some.rest.now =
    subst (λ r. IsStatedFirst c.args.indices.now (option_map (λ x. (x.0, x.1.now)) r)) c.in-Some.is c.first_stated.ensures in
    let v = value_tree c.args.value.now in
    let rest = c.in-Some.rest.now in
    let same = to_z-of_z w64 c.in-Some.index (omega (arith, ints)) in
    stated_first c.args.indices.now rest c.in-Some.index v cut
    ∙ ap (λ i. option_and_then (read_value (indices_in rest)) (part_under v i)) (sym same)
    ∙ ap (option_and_then (read_value (indices_in rest))) (sym c.part_in.ensures ∙ ap (option_map (λ part. value_tree part.now)) c.in-Some-part_in.is)
    ∙ c.descend.ensures

pub returns-in-None-part_in : goal.returns-in-None-part_in
unfolding IsStatedFirst
returns-in-None-part_in t c =
    let cut : c.args.indices.now ≡ Some c.in-Some.index ∷ c.in-Some.rest.now =
    subst (λ r. IsStatedFirst c.args.indices.now (option_map (λ x. (x.0, x.1.now)) r)) c.in-Some.is c.first_stated.ensures in
    let v = value_tree c.args.value.now in
    let rest = c.in-Some.rest.now in
    let same = to_z-of_z w64 c.in-Some.index (omega (arith, ints)) in
    stated_first c.args.indices.now rest c.in-Some.index v cut
    ∙ ap (λ i. option_and_then (read_value (indices_in rest)) (part_under v i)) (sym same)
    ∙ ap (option_and_then (read_value (indices_in rest))) (sym c.part_in.ensures ∙ ap (option_map (λ part. value_tree part.now)) c.in-None-part_in.is)
