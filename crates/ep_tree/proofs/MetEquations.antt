-- One equation for each case of the nodes that an expression meets.
use Rattle.std.specs.Prelude.{Bool, ◌≡◌, List, [], ◌∷◌, ◌++◌, ℤ, flat_map, refl}
use Rattle.ep_base.specs.declared.names.Name.{Name}
use Rattle.ep_base.specs.declared.operators.CompareOp.{CompareOp}
use Rattle.ep_base.specs.declared.operators.LexOp.{LexOp}
use Rattle.ep_base.specs.declared.places.Place.{Place}
use Rattle.ep_tree.specs.Environments.{Env}
use Rattle.ep_tree.specs.Evaluation.{chosen, numbered, reached}
use Rattle.ep_tree.specs.Measures.{a_generator, a_node, met, met_all, met_domain, met_domains, met_end, met_generators, met_index, met_indices, met_names, met_ranges, met_terms}
use Rattle.ep_tree.specs.Trees.{DomainTree, Domains, End, ExprTree, ExprTrees, Generators, IndexDomain, Indices, Ranges, Terms, absolute, all_different, all_of, any_of, at_least, at_most, binary, bool, chain, compare, comprehension, domain_and, end_at, every_and, factorial, flatten, folded, gcc, generator_and, group, group_domain, in_domain, in_set, index_and, int, lex, literal, matrix_domain, minus, named, named_domain, negation, no_domains, no_end, no_generators, no_indices, no_ranges, no_terms, no_trees, number, one_and, over, quantified, ranges, read, set_domain, span_and, table, term_and, to_int, tree_and, truth, unstated}
use Rattle.ep_tree.specs.declared.syntax.BinaryOp.{BinaryOp}
use Rattle.ep_tree.specs.declared.syntax.FoldOp.{FoldOp}
use Rattle.ep_tree.specs.declared.syntax.QuantOp.{QuantOp}
use Rattle.ep_tree.specs.declared.syntax.SetOp.{SetOp}
use Rattle.ep_tree.specs.declared.values.Mode.{Mode}

pub met-number : (mode : Mode) (env : Env) (p : Place) (n : ℤ) → met mode env (number p n) ≡ a_node env (number p n) ∷ []
unfolding met
met-number _ _ _ _ = refl

pub met-truth : (mode : Mode) (env : Env) (p : Place) (b : Bool) → met mode env (truth p b) ≡ a_node env (truth p b) ∷ []
unfolding met
met-truth _ _ _ _ = refl

pub met-named : (mode : Mode) (env : Env) (p : Place) (name : Name) → met mode env (named p name) ≡ a_node env (named p name) ∷ []
unfolding met
met-named _ _ _ _ = refl

pub met-group : (mode : Mode) (env : Env) (p : Place) (e : ExprTree) → met mode env (group p e) ≡ a_node env (group p e) ∷ met mode env e
unfolding met
met-group _ _ _ _ = refl

pub met-negation : (mode : Mode) (env : Env) (p : Place) (e : ExprTree) → met mode env (negation p e) ≡ a_node env (negation p e) ∷ met mode env e
unfolding met
met-negation _ _ _ _ = refl

pub met-minus : (mode : Mode) (env : Env) (p : Place) (e : ExprTree) → met mode env (minus p e) ≡ a_node env (minus p e) ∷ met mode env e
unfolding met
met-minus _ _ _ _ = refl

pub met-absolute : (mode : Mode) (env : Env) (p : Place) (e : ExprTree) → met mode env (absolute p e) ≡ a_node env (absolute p e) ∷ met mode env e
unfolding met
met-absolute _ _ _ _ = refl

pub met-to_int : (mode : Mode) (env : Env) (p : Place) (e : ExprTree) → met mode env (to_int p e) ≡ a_node env (to_int p e) ∷ met mode env e
unfolding met
met-to_int _ _ _ _ = refl

pub met-factorial : (mode : Mode) (env : Env) (p : Place) (e : ExprTree) → met mode env (factorial p e) ≡ a_node env (factorial p e) ∷ met mode env e
unfolding met
met-factorial _ _ _ _ = refl

pub met-flatten : (mode : Mode) (env : Env) (p : Place) (m : ExprTree) → met mode env (flatten p m) ≡ a_node env (flatten p m) ∷ met mode env m
unfolding met
met-flatten _ _ _ _ = refl

pub met-chain : (mode : Mode) (env : Env) (p : Place) (terms : Terms) → met mode env (chain p terms) ≡ a_node env (chain p terms) ∷ met_terms mode env terms
unfolding met
met-chain _ _ _ _ = refl

pub met-binary : (mode : Mode) (env : Env) (p : Place) (op : BinaryOp) (a : ExprTree) (b : ExprTree) → met mode env (binary p op a b) ≡ a_node env (binary p op a b) ∷ met mode env a ++ met mode env b
unfolding met
met-binary _ _ _ _ _ _ = refl

pub met-compare : (mode : Mode) (env : Env) (p : Place) (op : CompareOp) (a : ExprTree) (b : ExprTree) → met mode env (compare p op a b) ≡ a_node env (compare p op a b) ∷ met mode env a ++ met mode env b
unfolding met
met-compare _ _ _ _ _ _ = refl

pub met-lex : (mode : Mode) (env : Env) (p : Place) (op : LexOp) (a : ExprTree) (b : ExprTree) → met mode env (lex p op a b) ≡ a_node env (lex p op a b) ∷ met mode env a ++ met mode env b
unfolding met
met-lex _ _ _ _ _ _ = refl

pub met-in_domain : (mode : Mode) (env : Env) (p : Place) (e : ExprTree) (d : DomainTree) → met mode env (in_domain p e d) ≡ a_node env (in_domain p e d) ∷ met mode env e ++ met_domain mode env d
unfolding met
met-in_domain _ _ _ _ _ = refl

pub met-in_set : (mode : Mode) (env : Env) (p : Place) (e : ExprTree) (m : ExprTree) → met mode env (in_set p e m) ≡ a_node env (in_set p e m) ∷ met mode env e ++ met mode env m
unfolding met
met-in_set _ _ _ _ _ = refl

pub met-all_of : (mode : Mode) (env : Env) (p : Place) (parts : ExprTrees) → met mode env (all_of p parts) ≡ a_node env (all_of p parts) ∷ met_all mode env parts
unfolding met
met-all_of _ _ _ _ = refl

pub met-any_of : (mode : Mode) (env : Env) (p : Place) (parts : ExprTrees) → met mode env (any_of p parts) ≡ a_node env (any_of p parts) ∷ met_all mode env parts
unfolding met
met-any_of _ _ _ _ = refl

pub met-quantified : (mode : Mode) (env : Env) (p : Place) (op : QuantOp) (names : List Name) (d : DomainTree) (e : ExprTree) → met mode env (quantified p op names d e) ≡ met_names (λ left inner. a_node inner (quantified p op left d e) ∷ met_domain mode inner d) (numbered mode d) (λ inner. met mode inner e) names env
unfolding met
met-quantified _ _ _ _ _ _ _ = refl

pub met-literal : (mode : Mode) (env : Env) (p : Place) (parts : ExprTrees) (d : IndexDomain) → met mode env (literal p parts d) ≡ a_node env (literal p parts d) ∷ met_all mode env parts ++ met_index mode env d
unfolding met
met-literal _ _ _ _ _ = refl

pub met-comprehension : (mode : Mode) (env : Env) (p : Place) (e : ExprTree) (gens : Generators) (conditions : ExprTrees) (d : IndexDomain) → met mode env (comprehension p e gens conditions d) ≡ a_node env (comprehension p e gens conditions d) ∷ met_generators mode env gens ++ flat_map (λ inner. met_all mode inner conditions) (reached mode env gens) ++ flat_map (λ inner. met mode inner e) (chosen mode env gens conditions) ++ met_index mode env d
unfolding met
met-comprehension _ _ _ _ _ _ _ = refl

pub met-read : (mode : Mode) (env : Env) (p : Place) (m : ExprTree) (indices : Indices) → met mode env (read p m indices) ≡ a_node env (read p m indices) ∷ met mode env m ++ met_indices mode env indices
unfolding met
met-read _ _ _ _ _ = refl

pub met-folded : (mode : Mode) (env : Env) (p : Place) (op : FoldOp) (m : ExprTree) → met mode env (folded p op m) ≡ a_node env (folded p op m) ∷ met mode env m
unfolding met
met-folded _ _ _ _ _ = refl

pub met-all_different : (mode : Mode) (env : Env) (p : Place) (m : ExprTree) → met mode env (all_different p m) ≡ a_node env (all_different p m) ∷ met mode env m
unfolding met
met-all_different _ _ _ _ = refl

pub met-gcc : (mode : Mode) (env : Env) (p : Place) (m : ExprTree) (values : ExprTree) (counts : ExprTree) → met mode env (gcc p m values counts) ≡ a_node env (gcc p m values counts) ∷ met mode env m ++ met mode env values ++ met mode env counts
unfolding met
met-gcc _ _ _ _ _ _ = refl

pub met-at_least : (mode : Mode) (env : Env) (p : Place) (m : ExprTree) (counts : ExprTree) (values : ExprTree) → met mode env (at_least p m counts values) ≡ a_node env (at_least p m counts values) ∷ met mode env m ++ met mode env counts ++ met mode env values
unfolding met
met-at_least _ _ _ _ _ _ = refl

pub met-at_most : (mode : Mode) (env : Env) (p : Place) (m : ExprTree) (counts : ExprTree) (values : ExprTree) → met mode env (at_most p m counts values) ≡ a_node env (at_most p m counts values) ∷ met mode env m ++ met mode env counts ++ met mode env values
unfolding met
met-at_most _ _ _ _ _ _ = refl

pub met-table : (mode : Mode) (env : Env) (p : Place) (row : ExprTree) (rows : ExprTree) → met mode env (table p row rows) ≡ a_node env (table p row rows) ∷ met mode env row ++ met mode env rows
unfolding met
met-table _ _ _ _ _ = refl

pub met_domain-bool : (mode : Mode) (env : Env) (place : Place) → met_domain mode env (bool place) ≡ []
unfolding met_domain
met_domain-bool _ _ _ = refl

pub met_domain-int : (mode : Mode) (env : Env) (place : Place) → met_domain mode env (int place) ≡ []
unfolding met_domain
met_domain-int _ _ _ = refl

pub met_domain-ranges : (mode : Mode) (env : Env) (place : Place) (rs : Ranges) → met_domain mode env (ranges place rs) ≡ met_ranges mode env rs
unfolding met_domain
met_domain-ranges _ _ _ _ = refl

pub met_domain-named_domain : (mode : Mode) (env : Env) (place : Place) (name : Name) → met_domain mode env (named_domain place name) ≡ []
unfolding met_domain
met_domain-named_domain _ _ _ _ = refl

pub met_domain-group_domain : (mode : Mode) (env : Env) (place : Place) (d : DomainTree) → met_domain mode env (group_domain place d) ≡ met_domain mode env d
unfolding met_domain
met_domain-group_domain _ _ _ _ = refl

pub met_domain-set_domain : (mode : Mode) (env : Env) (place : Place) (op : SetOp) (c : DomainTree) (d : DomainTree) → met_domain mode env (set_domain place op c d) ≡ met_domain mode env c ++ met_domain mode env d
unfolding met_domain
met_domain-set_domain _ _ _ _ _ _ = refl

pub met_domain-matrix_domain : (mode : Mode) (env : Env) (place : Place) (ds : Domains) (d : DomainTree) → met_domain mode env (matrix_domain place ds d) ≡ met_domains mode env ds ++ met_domain mode env d
unfolding met_domain
met_domain-matrix_domain _ _ _ _ _ = refl

pub met_all-no_trees : (mode : Mode) (env : Env) → met_all mode env no_trees ≡ []
unfolding met_all
met_all-no_trees _ _ = refl

pub met_all-tree_and : (mode : Mode) (env : Env) (e : ExprTree) (es : ExprTrees) → met_all mode env (tree_and e es) ≡ met mode env e ++ met_all mode env es
unfolding met_all
met_all-tree_and _ _ _ _ = refl

pub met_terms-no_terms : (mode : Mode) (env : Env) → met_terms mode env no_terms ≡ []
unfolding met_terms
met_terms-no_terms _ _ = refl

pub met_terms-term_and : (mode : Mode) (env : Env) (b : Bool) (e : ExprTree) (terms : Terms) → met_terms mode env (term_and b e terms) ≡ met mode env e ++ met_terms mode env terms
unfolding met_terms
met_terms-term_and _ _ _ _ _ = refl

pub met_indices-no_indices : (mode : Mode) (env : Env) → met_indices mode env no_indices ≡ []
unfolding met_indices
met_indices-no_indices _ _ = refl

pub met_indices-every_and : (mode : Mode) (env : Env) (indices : Indices) → met_indices mode env (every_and indices) ≡ met_indices mode env indices
unfolding met_indices
met_indices-every_and _ _ _ = refl

pub met_indices-index_and : (mode : Mode) (env : Env) (e : ExprTree) (indices : Indices) → met_indices mode env (index_and e indices) ≡ met mode env e ++ met_indices mode env indices
unfolding met_indices
met_indices-index_and _ _ _ _ = refl

pub met_ranges-no_ranges : (mode : Mode) (env : Env) → met_ranges mode env no_ranges ≡ []
unfolding met_ranges
met_ranges-no_ranges _ _ = refl

pub met_ranges-one_and : (mode : Mode) (env : Env) (e : ExprTree) (rs : Ranges) → met_ranges mode env (one_and e rs) ≡ met mode env e ++ met_ranges mode env rs
unfolding met_ranges
met_ranges-one_and _ _ _ _ = refl

pub met_ranges-span_and : (mode : Mode) (env : Env) (a : End) (b : End) (rs : Ranges) → met_ranges mode env (span_and a b rs) ≡ met_end mode env a ++ met_end mode env b ++ met_ranges mode env rs
unfolding met_ranges
met_ranges-span_and _ _ _ _ _ = refl

pub met_end-no_end : (mode : Mode) (env : Env) → met_end mode env no_end ≡ []
unfolding met_end
met_end-no_end _ _ = refl

pub met_end-end_at : (mode : Mode) (env : Env) (e : ExprTree) → met_end mode env (end_at e) ≡ met mode env e
unfolding met_end
met_end-end_at _ _ _ = refl

pub met_domains-no_domains : (mode : Mode) (env : Env) → met_domains mode env no_domains ≡ []
unfolding met_domains
met_domains-no_domains _ _ = refl

pub met_domains-domain_and : (mode : Mode) (env : Env) (d : DomainTree) (ds : Domains) → met_domains mode env (domain_and d ds) ≡ met_domain mode env d ++ met_domains mode env ds
unfolding met_domains
met_domains-domain_and _ _ _ _ = refl

pub met_index-unstated : (mode : Mode) (env : Env) → met_index mode env unstated ≡ []
unfolding met_index
met_index-unstated _ _ = refl

pub met_index-over : (mode : Mode) (env : Env) (d : DomainTree) → met_index mode env (over d) ≡ met_domain mode env d
unfolding met_index
met_index-over _ _ _ = refl

pub met_generators-no_generators : (mode : Mode) (env : Env) → met_generators mode env no_generators ≡ []
unfolding met_generators
met_generators-no_generators _ _ = refl

pub met_generators-generator_and : (mode : Mode) (env : Env) (names : List Name) (d : DomainTree) (gens : Generators) → met_generators mode env (generator_and names d gens) ≡ met_names (λ left inner. a_generator ∷ met_domain mode inner d) (numbered mode d) (λ inner. met_generators mode inner gens) names env
unfolding met_generators
met_generators-generator_and _ _ _ _ _ = refl
