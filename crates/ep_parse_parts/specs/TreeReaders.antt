-- Reading expressions and domains from left to right, with a height that may not be passed.
use Rattle.std.specs.Prelude.{ℕ, zero, suc}
use Rattle.ep_parse_parts.specs.DomainReaders.{domain_at_level}
use Rattle.ep_parse_parts.specs.OperandReaders.{domain_next, expression_next, none_low}
use Rattle.ep_parse_parts.specs.OperatorReaders.{at_level}
use Rattle.ep_parse_parts.specs.Readers.{Reader}
use Rattle.ep_tree.specs.Spelling.{DomainLevel, Level}
use Rattle.ep_tree.specs.Trees.{DomainTree, ExprTree}

unfoldable mutual
  -- An expression of at most a height that stands where a level is asked for, as far as one goes on.
  pub expr_from : ℕ → Level → Reader ExprTree
  expr_from zero level ls = none_low (expression_next ls) ls
  expr_from (suc less) level ls =
      at_level (suc less) (record { expr = expr_from less; domain = some_domain_from less }) level ls

  -- A domain of at most a height that stands where a level is asked for, as far as one goes on.
  pub some_domain_from : ℕ → DomainLevel → Reader DomainTree
  some_domain_from zero level ls = none_low (domain_next level ls) ls
  some_domain_from (suc less) level ls =
      domain_at_level (suc less) (record { expr = expr_from less; domain = some_domain_from less }) level ls
