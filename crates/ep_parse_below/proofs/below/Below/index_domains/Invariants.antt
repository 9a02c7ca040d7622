-- What was read so far, and what is still read, are all that is read.
use Rattle.std.proofs.Common.{◌≡◌, length, map}
use Rattle.ep_parse_parts.proofs.NameTurns.{continued}
use Rattle.ep_parse_below.proofs.below.Below.index_domains.Given as goal
use Rattle.ep_parse_parts.specs.Founds.{lower}
use Rattle.ep_parse_parts.specs.Gathered.{DomainsCount, index_domains_from}
use Rattle.ep_tree.specs.Views.{domain_tree}

abbrev pub invariant-more : goal.invariant-more
invariant-more g l =
    (continued (map domain_tree l.domains.items.items) (index_domains_from (lower l.fn.self.most) l.cursor) ≡ index_domains_from (lower l.fn.self.most) l.fn.cursor)
    × DomainsCount l.domains

abbrev pub decreases-more : goal.decreases-more
decreases-more g l = length l.cursor
