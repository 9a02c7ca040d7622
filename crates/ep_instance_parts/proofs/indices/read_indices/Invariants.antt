use Rattle.std.proofs.Common.{drop, option_map}
use Rattle.ep_eval.specs.Known.{env_of}
use Rattle.ep_instance_parts.proofs.IndexSteps.{IndicesSoFar}
use Rattle.ep_instance_parts.proofs.indices.read_indices.Given as goal

abbrev pub invariant-loop-domain : goal.invariant-loop-domain
invariant-loop-domain l =
    IndicesSoFar l.env.mode (env_of l.env) l.before l.domains (drop l.domain-index l.domains) (option_map (λ v. v.items) l.sets) l.count
