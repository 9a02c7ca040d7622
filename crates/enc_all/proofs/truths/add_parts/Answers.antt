use Rattle.std.proofs.Common.{◌≡◌, ◌<◌, ◌∙◌, ap, length, map, take}
use Rattle.std.proofs.lemmas.List.{take_all}
use Rattle.std.proofs.lemmas.Result.{on_ok_weaker}
use Rattle.enc_all.proofs.Telling.{adds_parts, names_of_atoms}
use Rattle.enc_all.proofs.truths.add_parts.Goals as goal
use Rattle.enc_all.proofs.truths.add_parts.Goals.{After-as_slice}
use Rattle.enc_all.specs.Parts.{part_atom}

made : (c : After-as_slice) → c.as_slice.result.now ≡ map part_atom c.args.parts.now
made c = c.as_slice.ensures.value ∙ c.loop-part.invariant ∙ ap (map part_atom) (take_all c.loop-part.part-index c.args.parts.now c.loop-part-test.false)

pub returns : goal.returns
returns c =
    on_ok_weaker c.add_clause.result
    (λ h. adds_parts c.args.layout.now c.args.f.now c.add_clause.new.f c.as_slice.result.now c.args.parts.now c.requires.is_layout (made (goal.at.returns c).After-as_slice) h) c.add_clause.ensures

pub add_clause-requires-clause-names : goal.add_clause-requires-clause-names
add_clause-requires-clause-names c = names_of_atoms (λ x. x < length c.args.layout.now) c.args.parts.now c.as_slice.result.now (made c) c.requires.names
