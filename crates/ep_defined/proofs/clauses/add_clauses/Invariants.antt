use Rattle.std.proofs.Common.{◌≡◌, ◌++◌, take}
use Rattle.std.specs.List.{flat_map}
use Rattle.ep_defined.specs.Images.{image_at}
use Rattle.ep_defined.specs.Translations.{clause_terms}
use Rattle.ep_defined.proofs.clauses.add_clauses.Given as goal

abbrev pub invariant-loop-term : goal.invariant-loop-term
invariant-loop-term l = l.clauses.items ≡ l.fn.clauses.items ++ flat_map (λ t. clause_terms (image_at l.images t)) (take l.term-index l.terms)
