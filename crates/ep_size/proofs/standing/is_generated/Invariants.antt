use Rattle.ep_size.proofs.Words.{◌≡◌, drop, bytes_eq, list_any, generator_names, generators_of}
use Rattle.ep_size.proofs.standing.is_generated.Given as goal

abbrev pub invariant-loop-generator : goal.invariant-loop-generator
invariant-loop-generator l =
    list_any (bytes_eq l.name) (generator_names (generators_of (drop l.generator-index l.generators)))
    ≡ list_any (bytes_eq l.name) (generator_names (generators_of l.generators))
