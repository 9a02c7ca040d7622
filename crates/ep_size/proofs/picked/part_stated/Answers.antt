use Rattle.ep_size.proofs.Words.{◌≡◌, ◌∷◌, rules, ap, sym, ◌∙◌, w64, to_z, of_z, flat_map, option_to_list, to_z-of_z, parts_left, matrix, part_at, grids_from, measured_of, Stated}
use Rattle.ep_size.proofs.KnownParts.{known_stated, known_undefined}
use Rattle.ep_size.proofs.picked.part_stated.Goals as goal

pub returns-in-Some : goal.returns-in-Some
unfolding measured_of
returns-in-Some c is h =
    let own = c.args.own.now in
    let parts = c.args.parts.now in
    let n = c.in-Some.stated in
    let word : to_z w64 (of_z w64 n) ≡ n = to_z-of_z w64 n (search rules) in
    ap (λ j. parts_left (measured_of j ∷ is) (matrix own (grids_from parts))) (c.in-Stated.is ∙ ap Stated c.in-Some.is) ∙ known_stated n is own parts
    ∙ ap (λ o. flat_map (parts_left is) (option_to_list o)) (ap (part_at own (grids_from parts)) (sym word) ∙ sym c.part_with.ensures)

pub returns-in-None : goal.returns-in-None
unfolding measured_of
returns-in-None c is h =
    let own = c.args.own.now in
    let parts = c.args.parts.now in
    ap (λ j. parts_left (measured_of j ∷ is) (matrix own (grids_from parts))) (c.in-Stated.is ∙ ap Stated c.in-None.is) ∙ known_undefined is own parts
