use Rattle.ep_size.proofs.Words.{◌≡◌, drop, bytes_eq, list_any}
use Rattle.ep_size.proofs.standing.is_one_of.Given as goal

abbrev pub invariant-loop-own : goal.invariant-loop-own
invariant-loop-own l = list_any (bytes_eq l.name) (drop l.own-index l.names) ≡ list_any (bytes_eq l.name) l.names
