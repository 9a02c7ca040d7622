-- One equation for each case of the faults of expressions and domains.
use Rattle.std.specs.Prelude.{◌≡◌, Bool, false, not, ◌&&◌, ◌||◌, List, [], ◌++◌, ℤ, flat_map, refl}
use Rattle.ep_base.specs.declared.names.Name.{Name}
use Rattle.ep_base.specs.declared.operators.CompareOp.{CompareOp}
use Rattle.ep_base.specs.declared.operators.LexOp.{LexOp}
use Rattle.ep_base.specs.declared.places.Place.{Place}
use Rattle.ep_tree.specs.Faults.{domain_faults, domain_name_faults, end_faults, entry_count, faults, faults_of_all, faults_of_domains, faults_of_generators, faults_of_indices, faults_of_ranges, faults_of_terms, has_open_range, index_faults, is_power, leaves_matrix, name_faults, open_domain, type_fault, unless}
use Rattle.ep_tree.specs.Trees.{DomainTree, Domains, End, ExprTree, ExprTrees, Generators, IndexDomain, Indices, Ranges, Terms, absolute, all_different, all_of, any_of, at_least, at_most, binary, bool, chain, compare, comprehension, domain_and, end_at, every_and, factorial, flatten, folded, gcc, generator_and, group, group_domain, in_domain, in_set, index_and, int, lex, literal, matrix_domain, minus, named, named_domain, negation, no_domains, no_end, no_generators, no_indices, no_ranges, no_terms, no_trees, number, one_and, over, quantified, ranges, read, set_domain, span_and, table, term_and, to_int, tree_and, truth, unstated}
use Rattle.ep_tree.specs.Types.{Context, inside, inside_all, judge, judge_domain, reading_contexts, slice_count}
use Rattle.ep_tree.specs.declared.syntax.BinaryOp.{BinaryOp}
use Rattle.ep_tree.specs.declared.syntax.FoldOp.{FoldOp}
use Rattle.ep_tree.specs.declared.syntax.QuantOp.{QuantOp}
use Rattle.ep_tree.specs.declared.syntax.SetOp.{SetOp}

pub faults-number : (context : Context) (decisions : Bool) (place : Place) (op : ℤ) → faults context decisions (number place op) ≡ []
unfolding faults
faults-number _ _ _ _ = refl

pub faults-truth : (context : Context) (decisions : Bool) (place : Place) (op : Bool) → faults context decisions (truth place op) ≡ []
unfolding faults
faults-truth _ _ _ _ = refl

pub faults-named : (context : Context) (decisions : Bool) (p : Place) (name : Name) → faults context decisions (named p name) ≡ name_faults decisions p name (context name)
unfolding faults
faults-named _ _ _ _ = refl

pub faults-group : (context : Context) (decisions : Bool) (place : Place) (e : ExprTree) → faults context decisions (group place e) ≡ faults context decisions e
unfolding faults
faults-group _ _ _ _ = refl

pub faults-negation : (context : Context) (decisions : Bool) (p : Place) (e : ExprTree) → faults context decisions (negation p e) ≡ type_fault p (judge context (negation p e)) ++ faults context decisions e
unfolding faults
faults-negation _ _ _ _ = refl

pub faults-minus : (context : Context) (decisions : Bool) (p : Place) (e : ExprTree) → faults context decisions (minus p e) ≡ type_fault p (judge context (minus p e)) ++ faults context decisions e
unfolding faults
faults-minus _ _ _ _ = refl

pub faults-absolute : (context : Context) (decisions : Bool) (p : Place) (e : ExprTree) → faults context decisions (absolute p e) ≡ type_fault p (judge context (absolute p e)) ++ faults context decisions e
unfolding faults
faults-absolute _ _ _ _ = refl

pub faults-to_int : (context : Context) (decisions : Bool) (p : Place) (e : ExprTree) → faults context decisions (to_int p e) ≡ type_fault p (judge context (to_int p e)) ++ faults context decisions e
unfolding faults
faults-to_int _ _ _ _ = refl

pub faults-factorial : (context : Context) (decisions : Bool) (p : Place) (e : ExprTree) → faults context decisions (factorial p e) ≡ type_fault p (judge context (factorial p e)) ++ faults context false e
unfolding faults
faults-factorial _ _ _ _ = refl

pub faults-flatten : (context : Context) (decisions : Bool) (p : Place) (m : ExprTree) → faults context decisions (flatten p m) ≡ type_fault p (judge context (flatten p m)) ++ faults context decisions m
unfolding faults
faults-flatten _ _ _ _ = refl

pub faults-chain : (context : Context) (decisions : Bool) (p : Place) (terms : Terms) → faults context decisions (chain p terms) ≡ type_fault p (judge context (chain p terms)) ++ faults_of_terms context decisions terms
unfolding faults
faults-chain _ _ _ _ = refl

pub faults-binary : (context : Context) (decisions : Bool) (p : Place) (op : BinaryOp) (a : ExprTree) (b : ExprTree) → faults context decisions (binary p op a b) ≡ type_fault p (judge context (binary p op a b)) ++ faults context decisions a ++ faults context (decisions && not (is_power op)) b
unfolding faults
faults-binary _ _ _ _ _ _ = refl

pub faults-compare : (context : Context) (decisions : Bool) (p : Place) (op : CompareOp) (a : ExprTree) (b : ExprTree) → faults context decisions (compare p op a b) ≡ type_fault p (judge context (compare p op a b)) ++ faults context decisions a ++ faults context decisions b
unfolding faults
faults-compare _ _ _ _ _ _ = refl

pub faults-lex : (context : Context) (decisions : Bool) (p : Place) (op : LexOp) (a : ExprTree) (b : ExprTree) → faults context decisions (lex p op a b) ≡ type_fault p (judge context (lex p op a b)) ++ faults context decisions a ++ faults context decisions b
unfolding faults
faults-lex _ _ _ _ _ _ = refl

pub faults-in_domain : (context : Context) (decisions : Bool) (p : Place) (e : ExprTree) (d : DomainTree) → faults context decisions (in_domain p e d) ≡ type_fault p (judge context (in_domain p e d)) ++ faults context decisions e ++ domain_faults context false d
unfolding faults
faults-in_domain _ _ _ _ _ = refl

pub faults-in_set : (context : Context) (decisions : Bool) (p : Place) (e : ExprTree) (m : ExprTree) → faults context decisions (in_set p e m) ≡ type_fault p (judge context (in_set p e m)) ++ faults context decisions e ++ faults context decisions m
unfolding faults
faults-in_set _ _ _ _ _ = refl

pub faults-all_of : (context : Context) (decisions : Bool) (p : Place) (parts : ExprTrees) → faults context decisions (all_of p parts) ≡ type_fault p (judge context (all_of p parts)) ++ faults_of_all context decisions parts
unfolding faults
faults-all_of _ _ _ _ = refl

pub faults-any_of : (context : Context) (decisions : Bool) (p : Place) (parts : ExprTrees) → faults context decisions (any_of p parts) ≡ type_fault p (judge context (any_of p parts)) ++ faults_of_all context decisions parts
unfolding faults
faults-any_of _ _ _ _ = refl

pub faults-quantified : (context : Context) (decisions : Bool) (p : Place) (op : QuantOp) (names : List Name) (d : DomainTree) (e : ExprTree) → faults context decisions (quantified p op names d e) ≡ type_fault p (judge context (quantified p op names d e)) ++ flat_map (λ c. domain_faults c false d) (reading_contexts names (λ c. judge_domain c d) context) ++ faults (inside names (λ c. judge_domain c d) context) decisions e
unfolding faults
faults-quantified _ _ _ _ _ _ _ = refl

pub faults-literal : (context : Context) (decisions : Bool) (p : Place) (parts : ExprTrees) (d : IndexDomain) → faults context decisions (literal p parts d) ≡ type_fault p (judge context (literal p parts d)) ++ faults_of_all context decisions parts ++ index_faults context d
unfolding faults
faults-literal _ _ _ _ _ = refl

pub faults-comprehension : (context : Context) (decisions : Bool) (p : Place) (e : ExprTree) (gens : Generators) (conditions : ExprTrees) (d : IndexDomain) → faults context decisions (comprehension p e gens conditions d) ≡ type_fault p (judge context (comprehension p e gens conditions d)) ++ index_faults context d ++ faults_of_generators context gens ++ faults_of_all (inside_all gens context) false conditions ++ faults (inside_all gens context) decisions e
unfolding faults
faults-comprehension _ _ _ _ _ _ _ = refl

pub faults-read : (context : Context) (decisions : Bool) (p : Place) (m : ExprTree) (indices : Indices) → faults context decisions (read p m indices) ≡ type_fault p (judge context (read p m indices)) ++ faults context decisions m ++ faults_of_indices context (decisions && not (leaves_matrix (judge context m) (entry_count indices) (slice_count indices))) indices
unfolding faults
faults-read _ _ _ _ _ = refl

pub faults-folded : (context : Context) (decisions : Bool) (p : Place) (op : FoldOp) (m : ExprTree) → faults context decisions (folded p op m) ≡ type_fault p (judge context (folded p op m)) ++ faults context decisions m
unfolding faults
faults-folded _ _ _ _ _ = refl

pub faults-all_different : (context : Context) (decisions : Bool) (p : Place) (m : ExprTree) → faults context decisions (all_different p m) ≡ type_fault p (judge context (all_different p m)) ++ faults context decisions m
unfolding faults
faults-all_different _ _ _ _ = refl

pub faults-gcc : (context : Context) (decisions : Bool) (p : Place) (m : ExprTree) (values : ExprTree) (counts : ExprTree) → faults context decisions (gcc p m values counts) ≡ type_fault p (judge context (gcc p m values counts)) ++ faults context decisions m ++ faults context false values ++ faults context decisions counts
unfolding faults
faults-gcc _ _ _ _ _ _ = refl

pub faults-at_least : (context : Context) (decisions : Bool) (p : Place) (m : ExprTree) (counts : ExprTree) (values : ExprTree) → faults context decisions (at_least p m counts values) ≡ type_fault p (judge context (at_least p m counts values)) ++ faults context decisions m ++ faults context false counts ++ faults context false values
unfolding faults
faults-at_least _ _ _ _ _ _ = refl

pub faults-at_most : (context : Context) (decisions : Bool) (p : Place) (m : ExprTree) (counts : ExprTree) (values : ExprTree) → faults context decisions (at_most p m counts values) ≡ type_fault p (judge context (at_most p m counts values)) ++ faults context decisions m ++ faults context false counts ++ faults context false values
unfolding faults
faults-at_most _ _ _ _ _ _ = refl

pub faults-table : (context : Context) (decisions : Bool) (p : Place) (row : ExprTree) (rows : ExprTree) → faults context decisions (table p row rows) ≡ type_fault p (judge context (table p row rows)) ++ faults context decisions row ++ faults context false rows
unfolding faults
faults-table _ _ _ _ _ = refl

pub domain_faults-bool : (context : Context) (may_open : Bool) (place : Place) → domain_faults context may_open (bool place) ≡ []
unfolding domain_faults
domain_faults-bool _ _ _ = refl

pub domain_faults-int : (context : Context) (may_open : Bool) (p : Place) → domain_faults context may_open (int p) ≡ unless may_open (open_domain p)
unfolding domain_faults
domain_faults-int _ _ _ = refl

pub domain_faults-ranges : (context : Context) (may_open : Bool) (p : Place) (rs : Ranges) → domain_faults context may_open (ranges p rs) ≡ unless (may_open || not (has_open_range rs)) (open_domain p) ++ type_fault p (judge_domain context (ranges p rs)) ++ faults_of_ranges context rs
unfolding domain_faults
domain_faults-ranges _ _ _ _ = refl

pub domain_faults-named_domain : (context : Context) (may_open : Bool) (p : Place) (name : Name) → domain_faults context may_open (named_domain p name) ≡ domain_name_faults p name (context name)
unfolding domain_faults
domain_faults-named_domain _ _ _ _ = refl

pub domain_faults-group_domain : (context : Context) (may_open : Bool) (place : Place) (d : DomainTree) → domain_faults context may_open (group_domain place d) ≡ domain_faults context may_open d
unfolding domain_faults
domain_faults-group_domain _ _ _ _ = refl

pub domain_faults-set_domain : (context : Context) (may_open : Bool) (p : Place) (op : SetOp) (c : DomainTree) (d : DomainTree) → domain_faults context may_open (set_domain p op c d) ≡ type_fault p (judge_domain context (set_domain p op c d)) ++ domain_faults context may_open c ++ domain_faults context may_open d
unfolding domain_faults
domain_faults-set_domain _ _ _ _ _ _ = refl

pub domain_faults-matrix_domain : (context : Context) (may_open : Bool) (p : Place) (ds : Domains) (d : DomainTree) → domain_faults context may_open (matrix_domain p ds d) ≡ type_fault p (judge_domain context (matrix_domain p ds d)) ++ faults_of_domains context ds ++ domain_faults context may_open d
unfolding domain_faults
domain_faults-matrix_domain _ _ _ _ _ = refl

pub faults_of_all-no_trees : (context : Context) (decisions : Bool) → faults_of_all context decisions no_trees ≡ []
unfolding faults_of_all
faults_of_all-no_trees _ _ = refl

pub faults_of_all-tree_and : (context : Context) (decisions : Bool) (e : ExprTree) (es : ExprTrees) → faults_of_all context decisions (tree_and e es) ≡ faults context decisions e ++ faults_of_all context decisions es
unfolding faults_of_all
faults_of_all-tree_and _ _ _ _ = refl

pub faults_of_terms-no_terms : (context : Context) (decisions : Bool) → faults_of_terms context decisions no_terms ≡ []
unfolding faults_of_terms
faults_of_terms-no_terms _ _ = refl

pub faults_of_terms-term_and : (context : Context) (decisions : Bool) (place : Bool) (e : ExprTree) (terms : Terms) → faults_of_terms context decisions (term_and place e terms) ≡ faults context decisions e ++ faults_of_terms context decisions terms
unfolding faults_of_terms
faults_of_terms-term_and _ _ _ _ _ = refl

pub faults_of_indices-no_indices : (context : Context) (decisions : Bool) → faults_of_indices context decisions no_indices ≡ []
unfolding faults_of_indices
faults_of_indices-no_indices _ _ = refl

pub faults_of_indices-every_and : (context : Context) (decisions : Bool) (indices : Indices) → faults_of_indices context decisions (every_and indices) ≡ faults_of_indices context decisions indices
unfolding faults_of_indices
faults_of_indices-every_and _ _ _ = refl

pub faults_of_indices-index_and : (context : Context) (decisions : Bool) (e : ExprTree) (indices : Indices) → faults_of_indices context decisions (index_and e indices) ≡ faults context decisions e ++ faults_of_indices context decisions indices
unfolding faults_of_indices
faults_of_indices-index_and _ _ _ _ = refl

pub faults_of_ranges-no_ranges : (context : Context) → faults_of_ranges context no_ranges ≡ []
unfolding faults_of_ranges
faults_of_ranges-no_ranges _ = refl

pub faults_of_ranges-one_and : (context : Context) (e : ExprTree) (rs : Ranges) → faults_of_ranges context (one_and e rs) ≡ faults context false e ++ faults_of_ranges context rs
unfolding faults_of_ranges
faults_of_ranges-one_and _ _ _ = refl

pub faults_of_ranges-span_and : (context : Context) (a : End) (b : End) (rs : Ranges) → faults_of_ranges context (span_and a b rs) ≡ end_faults context a ++ end_faults context b ++ faults_of_ranges context rs
unfolding faults_of_ranges
faults_of_ranges-span_and _ _ _ _ = refl

pub end_faults-no_end : (context : Context) → end_faults context no_end ≡ []
unfolding end_faults
end_faults-no_end _ = refl

pub end_faults-end_at : (context : Context) (e : ExprTree) → end_faults context (end_at e) ≡ faults context false e
unfolding end_faults
end_faults-end_at _ _ = refl

pub faults_of_domains-no_domains : (context : Context) → faults_of_domains context no_domains ≡ []
unfolding faults_of_domains
faults_of_domains-no_domains _ = refl

pub faults_of_domains-domain_and : (context : Context) (d : DomainTree) (ds : Domains) → faults_of_domains context (domain_and d ds) ≡ domain_faults context false d ++ faults_of_domains context ds
unfolding faults_of_domains
faults_of_domains-domain_and _ _ _ = refl

pub index_faults-unstated : (context : Context) → index_faults context unstated ≡ []
unfolding index_faults
index_faults-unstated _ = refl

pub index_faults-over : (context : Context) (d : DomainTree) → index_faults context (over d) ≡ domain_faults context false d
unfolding index_faults
index_faults-over _ _ = refl

pub faults_of_generators-no_generators : (context : Context) → faults_of_generators context no_generators ≡ []
unfolding faults_of_generators
faults_of_generators-no_generators _ = refl

pub faults_of_generators-generator_and : (context : Context) (names : List Name) (d : DomainTree) (gens : Generators) → faults_of_generators context (generator_and names d gens) ≡ flat_map (λ c. domain_faults c false d) (reading_contexts names (λ c. judge_domain c d) context) ++ faults_of_generators (inside names (λ c. judge_domain c d) context) gens
unfolding faults_of_generators
faults_of_generators-generator_and _ _ _ _ = refl
