use Rattle.ep_size.proofs.Words.{◌≡◌, ◌∷◌, rules, ap, sym, ◌∙◌, w64, to_z, of_z, flat_map, option_map, option_to_list, to_z-of_z, parts_left, value_tree, part_under, fixed_grid, measured_of, Stated}
use Rattle.ep_size.proofs.RemainingSteps.{left_stated, left_undefined, mapped_twice}
use Rattle.ep_size.proofs.remaining.part_left.Goals as goal

pub returns-in-Some : goal.returns-in-Some
unfolding measured_of
returns-in-Some c is h =
    let v = value_tree c.args.value.now in
    let n = c.in-Some.stated in
    let word : to_z w64 (of_z w64 n) ≡ n = to_z-of_z w64 n (search rules) in
    ap (λ j. parts_left (measured_of j ∷ is) (fixed_grid v)) (c.in-Stated.is ∙ ap Stated c.in-Some.is) ∙ left_stated n is v
    ∙ ap (λ o. flat_map (parts_left is) (option_to_list (option_map fixed_grid o))) (ap (part_under v) (sym word) ∙ sym c.part_under.ensures)
    ∙ ap (λ o. flat_map (parts_left is) (option_to_list o)) (mapped_twice fixed_grid (λ part. value_tree part.now) c.part_under.result)

pub returns-in-None : goal.returns-in-None
unfolding measured_of
returns-in-None c is h =
    let v = value_tree c.args.value.now in
    ap (λ j. parts_left (measured_of j ∷ is) (fixed_grid v)) (c.in-Stated.is ∙ ap Stated c.in-None.is) ∙ left_undefined is v
