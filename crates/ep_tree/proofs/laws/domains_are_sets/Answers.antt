use Rattle.ep_tree.proofs.DomainLaws.{between-has, set_values-has}
use Rattle.ep_tree.proofs.ClosedDomains.{elements_pass-values}
use Rattle.ep_tree.proofs.SortedDomains.{domain_values-ascend}
use Rattle.ep_tree.proofs.laws.domains_are_sets.Goals as goal

pub returns-clause-ranges : goal.returns-clause-ranges
returns-clause-ranges c x first last = between-has x first last

pub returns-clause-operations : goal.returns-clause-operations
returns-clause-operations c op xs ys x = set_values-has op xs ys x

pub returns-clause-closed : goal.returns-clause-closed
returns-clause-closed c mode env x d values e = elements_pass-values mode env x d values e

pub returns-clause-sorted : goal.returns-clause-sorted
returns-clause-sorted c = domain_values-ascend
