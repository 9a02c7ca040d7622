-- What a tree keeps when it is cleared of its places.
use Rattle.std.proofs.Common.{◌≡◌, ℕ, ◌+◌, max, cond, List, [], ◌∷◌, map, Option, Some, None, refl, ap, ap₂, ◌∙◌}
use Rattle.std.specs.Option.{option_map}
use Rattle.ep_tree.specs.Heights.{domain_height, end_height, height, highest, highest_domain, highest_generator, highest_index, highest_range, highest_term, index_height}
use Rattle.ep_tree.specs.Placeless.{placeless, placeless_domain, placeless_domains, placeless_end, placeless_generators, placeless_group, placeless_index, placeless_indices, placeless_ranges, placeless_statement, placeless_terms, placeless_trees}
use Rattle.ep_tree.specs.Spelling.{ends_open, has_every, has_terms, has_trees, own_domain_level, own_level, takes_own_group, terms_end_open, trees_end_open}
use Rattle.ep_tree.specs.StatementSpelling.{is_letting, is_objective}
use Rattle.ep_tree.specs.Statements.{Group, StatementTree, TextTree, branching, constraints, decided, domain_letting, given, heuristic, highest_group, highest_of, letting, objective, requirements, stated_height, statement_height, text_height}
use Rattle.ep_tree.specs.Trees.{DomainTree, Domains, End, ExprTree, ExprTrees, Generators, IndexDomain, Indices, Ranges, Terms, absolute, all_different, all_of, any_of, at_least, at_most, binary, bool, chain, compare, comprehension, domain_and, end_at, every_and, factorial, flatten, folded, gcc, generator_and, group, group_domain, in_domain, in_set, index_and, int, lex, literal, matrix_domain, minus, named, named_domain, negation, no_domains, no_end, no_generators, no_indices, no_ranges, no_terms, no_trees, number, one_and, over, quantified, ranges, read, set_domain, span_and, table, term_and, to_int, tree_and, truth, unstated}
use Rattle.ep_tree.specs.declared.syntax.BinaryOp.{BinaryOp}

-- ---- what spelling asks of a tree

pub level_cleared : (e : ExprTree) → own_level (placeless e) ≡ own_level e
unfolding own_level placeless
level_cleared (number p n) = refl
level_cleared _ = refl

pub domain_level_cleared : (d : DomainTree) → own_domain_level (placeless_domain d) ≡ own_domain_level d
unfolding own_domain_level placeless
domain_level_cleared (bool p) = refl
domain_level_cleared _ = refl

pub has_terms_cleared : (terms : Terms) → has_terms (placeless_terms terms) ≡ has_terms terms
unfolding has_terms placeless
has_terms_cleared no_terms = refl
has_terms_cleared (term_and plus e terms) = refl

pub has_trees_cleared : (es : ExprTrees) → has_trees (placeless_trees es) ≡ has_trees es
unfolding has_trees placeless
has_trees_cleared no_trees = refl
has_trees_cleared (tree_and e es) = refl

pub has_every_cleared : (among : Indices) → has_every (placeless_indices among) ≡ has_every among
unfolding has_every placeless
has_every_cleared no_indices = refl
has_every_cleared (every_and among) = refl
has_every_cleared (index_and e among) = has_every_cleared among

pub own_group_cleared : (e : ExprTree) → takes_own_group (placeless e) ≡ takes_own_group e
unfolding takes_own_group placeless
own_group_cleared (read p m among) = has_every_cleared among
own_group_cleared _ = refl

mutual
  unfolding ends_open placeless

  pub ends_cleared : (e : ExprTree) → ends_open (placeless e) ≡ ends_open e
  ends_cleared (negation p e) = ends_cleared e
  ends_cleared (minus p e) = ends_cleared e
  ends_cleared (chain p terms) = terms_end_cleared terms
  ends_cleared (binary p BinaryOp.Min a b) = refl
  ends_cleared (binary p BinaryOp.Max a b) = refl
  ends_cleared (binary p _ a b) = ends_cleared b
  ends_cleared (compare p op a b) = ends_cleared b
  ends_cleared (lex p op a b) = ends_cleared b
  ends_cleared (all_of p parts) = trees_end_cleared parts
  ends_cleared (any_of p parts) = trees_end_cleared parts
  ends_cleared _ = refl

  pub terms_end_cleared : (terms : Terms) → terms_end_open (placeless_terms terms) ≡ terms_end_open terms
  terms_end_cleared no_terms = refl
  terms_end_cleared (term_and plus e terms) =
      ap (λ b. cond b (terms_end_open (placeless_terms terms)) (ends_open (placeless e))) (has_terms_cleared terms)
      ∙ ap₂ (λ x y. cond (has_terms terms) x y) (terms_end_cleared terms) (ends_cleared e)

  pub trees_end_cleared : (es : ExprTrees) → trees_end_open (placeless_trees es) ≡ trees_end_open es
  trees_end_cleared no_trees = refl
  trees_end_cleared (tree_and e es) =
      ap (λ b. cond b (trees_end_open (placeless_trees es)) (ends_open (placeless e))) (has_trees_cleared es)
      ∙ ap₂ (λ x y. cond (has_trees es) x y) (trees_end_cleared es) (ends_cleared e)

-- ---- heights

one_more : (m n : ℕ) → m ≡ n → 1 + m ≡ 1 + n
one_more m n e = ap (λ h. 1 + h) e

mutual
  unfolding height placeless

  pub height_cleared : (e : ExprTree) → height (placeless e) ≡ height e
  height_cleared (number p n) = refl
  height_cleared (truth p b) = refl
  height_cleared (named p x) = refl
  height_cleared (group p e) = one_more _ _ (height_cleared e)
  height_cleared (negation p e) = one_more _ _ (height_cleared e)
  height_cleared (minus p e) = one_more _ _ (height_cleared e)
  height_cleared (absolute p e) = one_more _ _ (height_cleared e)
  height_cleared (to_int p e) = one_more _ _ (height_cleared e)
  height_cleared (factorial p e) = one_more _ _ (height_cleared e)
  height_cleared (flatten p m) = one_more _ _ (height_cleared m)
  height_cleared (chain p terms) = one_more _ _ (terms_cleared terms)
  height_cleared (binary p op a b) = one_more _ _ (ap₂ max (height_cleared a) (height_cleared b))
  height_cleared (compare p op a b) = one_more _ _ (ap₂ max (height_cleared a) (height_cleared b))
  height_cleared (lex p op a b) = one_more _ _ (ap₂ max (height_cleared a) (height_cleared b))
  height_cleared (in_domain p e d) = one_more _ _ (ap₂ max (height_cleared e) (domain_cleared d))
  height_cleared (in_set p e m) = one_more _ _ (ap₂ max (height_cleared e) (height_cleared m))
  height_cleared (all_of p parts) = one_more _ _ (trees_cleared parts)
  height_cleared (any_of p parts) = one_more _ _ (trees_cleared parts)
  height_cleared (quantified p op names d e) = one_more _ _ (ap₂ max (domain_cleared d) (height_cleared e))
  height_cleared (literal p parts d) = one_more _ _ (ap₂ max (trees_cleared parts) (index_cleared d))
  height_cleared (comprehension p e gens conditions d) =
      one_more _ _ (ap₂ max (ap₂ max (height_cleared e) (generators_cleared gens)) (ap₂ max (trees_cleared conditions) (index_cleared d)))
  height_cleared (read p m among) = one_more _ _ (ap₂ max (height_cleared m) (indices_cleared among))
  height_cleared (folded p op m) = one_more _ _ (height_cleared m)
  height_cleared (all_different p m) = one_more _ _ (height_cleared m)
  height_cleared (gcc p a b c) = one_more _ _ (ap₂ max (height_cleared a) (ap₂ max (height_cleared b) (height_cleared c)))
  height_cleared (at_least p a b c) = one_more _ _ (ap₂ max (height_cleared a) (ap₂ max (height_cleared b) (height_cleared c)))
  height_cleared (at_most p a b c) = one_more _ _ (ap₂ max (height_cleared a) (ap₂ max (height_cleared b) (height_cleared c)))
  height_cleared (table p a b) = one_more _ _ (ap₂ max (height_cleared a) (height_cleared b))

  pub domain_cleared : (d : DomainTree) → domain_height (placeless_domain d) ≡ domain_height d
  domain_cleared (bool p) = refl
  domain_cleared (int p) = refl
  domain_cleared (ranges p rs) = one_more _ _ (ranges_cleared rs)
  domain_cleared (named_domain p x) = refl
  domain_cleared (group_domain p d) = one_more _ _ (domain_cleared d)
  domain_cleared (set_domain p op c d) = one_more _ _ (ap₂ max (domain_cleared c) (domain_cleared d))
  domain_cleared (matrix_domain p ds d) = one_more _ _ (ap₂ max (domains_cleared ds) (domain_cleared d))

  pub trees_cleared : (es : ExprTrees) → highest (placeless_trees es) ≡ highest es
  trees_cleared no_trees = refl
  trees_cleared (tree_and e es) = ap₂ max (height_cleared e) (trees_cleared es)

  pub terms_cleared : (terms : Terms) → highest_term (placeless_terms terms) ≡ highest_term terms
  terms_cleared no_terms = refl
  terms_cleared (term_and plus e terms) = ap₂ max (height_cleared e) (terms_cleared terms)

  pub indices_cleared : (indices : Indices) → highest_index (placeless_indices indices) ≡ highest_index indices
  indices_cleared no_indices = refl
  indices_cleared (every_and indices) = indices_cleared indices
  indices_cleared (index_and e indices) = ap₂ max (height_cleared e) (indices_cleared indices)

  pub ranges_cleared : (rs : Ranges) → highest_range (placeless_ranges rs) ≡ highest_range rs
  ranges_cleared no_ranges = refl
  ranges_cleared (one_and e rs) = ap₂ max (height_cleared e) (ranges_cleared rs)
  ranges_cleared (span_and a b rs) = ap₂ max (ap₂ max (end_cleared a) (end_cleared b)) (ranges_cleared rs)

  pub end_cleared : (end : End) → end_height (placeless_end end) ≡ end_height end
  end_cleared no_end = refl
  end_cleared (end_at e) = height_cleared e

  pub domains_cleared : (ds : Domains) → highest_domain (placeless_domains ds) ≡ highest_domain ds
  domains_cleared no_domains = refl
  domains_cleared (domain_and d ds) = ap₂ max (domain_cleared d) (domains_cleared ds)

  pub generators_cleared : (gens : Generators) → highest_generator (placeless_generators gens) ≡ highest_generator gens
  generators_cleared no_generators = refl
  generators_cleared (generator_and names d gens) = ap₂ max (domain_cleared d) (generators_cleared gens)

  pub index_cleared : (d : IndexDomain) → index_height (placeless_index d) ≡ index_height d
  index_cleared unstated = refl
  index_cleared (over d) = domain_cleared d

-- ---- statements

groups_cleared : (groups : List Group) → highest_group (map placeless_group groups) ≡ highest_group groups
unfolding highest_group placeless_group
groups_cleared [] = refl
groups_cleared (g ∷ groups) = ap₂ max (domain_cleared g.domain) (groups_cleared groups)

clauses_cleared : (es : List ExprTree) → highest_of (map placeless es) ≡ highest_of es
unfolding highest_of
clauses_cleared [] = refl
clauses_cleared (e ∷ es) = ap₂ max (height_cleared e) (clauses_cleared es)

stated_cleared : (d : Option DomainTree) → stated_height (option_map placeless_domain d) ≡ stated_height d
unfolding stated_height
stated_cleared None = refl
stated_cleared (Some d) = domain_cleared d

statement_cleared : (s : StatementTree) → statement_height (placeless_statement s) ≡ statement_height s
unfolding statement_height placeless_statement
statement_cleared (given p groups) = groups_cleared groups
statement_cleared (decided p groups) = groups_cleared groups
statement_cleared (letting p name at d e) = ap₂ max (stated_cleared d) (height_cleared e)
statement_cleared (domain_letting p name at d) = domain_cleared d
statement_cleared (requirements p es) = clauses_cleared es
statement_cleared (constraints p es) = clauses_cleared es
statement_cleared (objective p sense e) = height_cleared e
statement_cleared (branching p names) = refl
statement_cleared (heuristic p name) = refl

pub text_cleared : (text : TextTree) → text_height (map placeless_statement text) ≡ text_height text
unfolding text_height
text_cleared [] = refl
text_cleared (s ∷ text) = ap₂ max (statement_cleared s) (text_cleared text)

pub objective_cleared : (s : StatementTree) → is_objective (placeless_statement s) ≡ is_objective s
unfolding is_objective placeless_statement
objective_cleared (given p groups) = refl
objective_cleared _ = refl

pub letting_cleared : (s : StatementTree) → is_letting (placeless_statement s) ≡ is_letting s
unfolding is_letting placeless_statement
letting_cleared (given p groups) = refl
letting_cleared _ = refl
