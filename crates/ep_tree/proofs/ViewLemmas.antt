-- How the code's trees are read: the rows of children as lists, and one equation for each kind.
use Rattle.std.specs.Prelude.{◌≡◌, Bool, ℤ, Option, Some, None, refl}
use Rattle.std.proofs.Common.{ap, ◌∙◌}
use Rattle.std.specs.declared.vec.Vec.{Vec}
use Rattle.std.specs.declared.boxed.Box.{Box}
use Rattle.std.specs.declared.alloc.Global.{Global}
use Rattle.ep_base.specs.declared.names.Name.{Name}
use Rattle.ep_base.specs.declared.places.Place.{Place}
use Rattle.ep_base.specs.declared.operators.CompareOp.{CompareOp}
use Rattle.ep_base.specs.declared.operators.LexOp.{LexOp}
use Rattle.ep_tree.specs.declared.syntax.BinaryOp.{BinaryOp}
use Rattle.ep_tree.specs.declared.syntax.FoldOp.{FoldOp}
use Rattle.ep_tree.specs.declared.syntax.QuantOp.{QuantOp}
use Rattle.ep_tree.specs.declared.syntax.SetOp.{SetOp}
use Rattle.ep_tree.specs.declared.syntax.Expr.{Expr}
use Rattle.ep_tree.specs.declared.syntax.Domain.{Domain}
use Rattle.ep_tree.specs.declared.syntax.Generator.{Generator}
use Rattle.ep_tree.specs.declared.syntax.Range.{Range}
use Rattle.ep_tree.specs.declared.syntax.Kind.{Number, Truth, Named as NamedExpr, Group as GroupExpr, Not, Neg, Abs, ToInt, Factorial, Flatten, Add, Binary, Compare, Lex, InDomain, InSet, And, Or, Quant, Literal, Comprehension, Read, Fold, AllDiff, Gcc, AtLeast, AtMost, Table, Row_of-Expr, end_of-Expr, more_of-Expr, items-the_row-Expr, items_hidden-the_row-Expr-3, Row_of-Kind-Add-0-2, end_of-Kind-Add-0-2, more_of-Kind-Add-0-2, items-the_row-Kind-Add-0-2, items_hidden-the_row-Kind-Add-0-2-2, Row_of-Generator, end_of-Generator, more_of-Generator, items-the_row-Generator, items_hidden-the_row-Generator-4, Row_of-Kind-Read-1-1, end_of-Kind-Read-1-1, more_of-Kind-Read-1-1, items-the_row-Kind-Read-1-1, items_hidden-the_row-Kind-Read-1-1-5, Kind-Read-1-1-None', Kind-Read-1-1-Some', back-Kind-Literal-1}
use Rattle.ep_tree.specs.declared.syntax.DomainKind.{Bool as BoolDomain, Int as IntDomain, Ranges as RangesDomain, Named as NamedDomain, Group as GroupDomain, Set, Matrix, Row_of-Range, end_of-Range, more_of-Range, items-the_row-Range, items_hidden-the_row-Range-0, Row_of-Domain, end_of-Domain, more_of-Domain, items-the_row-Domain, items_hidden-the_row-Domain-1}
use Rattle.ep_tree.specs.declared.syntax.Range.{One, Span}
use Rattle.ep_tree.specs.declared.syntax.DomainKind.TheBlock.{hidden-the_row-Expr-3, hidden-the_row-Kind-Add-0-2-2, hidden-the_row-Generator-4, hidden-the_row-Kind-Read-1-1-5, hidden-the_row-Range-0, hidden-the_row-Domain-1}
use Rattle.ep_tree.specs.declared.values.Value.{Value, Number as NumberValue, Matrix as MatrixValue, Row_of-Value, end_of-Value, more_of-Value, items-the_row-Value, items_hidden-the_row-Value-0}
use Rattle.ep_tree.specs.declared.values.Value.TheBlock.{hidden-the_row-Value-0}
use Rattle.ep_tree.specs.Trees.{number, truth, named, group, negation, minus, absolute, to_int, factorial, flatten, chain, binary, compare, lex, in_domain, in_set, all_of, any_of, quantified, literal, comprehension, read, folded, all_different, gcc, at_least, at_most, table, bool, int, ranges, named_domain, group_domain, set_domain, matrix_domain, tree_and, term_and, every_and, index_and, one_and, span_and, domain_and, generator_and, IndexDomain, unstated, over}
use Rattle.ep_tree.specs.Values.{single, matrix, value_and}
use Rattle.ep_tree.specs.Views.{kind_tree, domain_kind_tree, row_trees, row_terms, row_indices, row_generators, held_index, row_ranges, with_range, row_domains, expr_tree, domain_tree, expr_trees, terms_of, indices_of, generators_of, domains_of, end_of, ranges_of, value_tree, row_values, values_from}

-- ---- rows as lists

pub row_trees-items : {n : _} (row : Row_of-Expr n) → row_trees row ≡ expr_trees (items-the_row-Expr _ row)
unfolding row_trees expr_trees
row_trees-items end_of-Expr = refl
row_trees-items (more_of-Expr p e rest) = ap (λ es. tree_and (kind_tree p e) es) (row_trees-items rest)

pub row_trees-vec : (v : Vec Expr Global) → row_trees (hidden-the_row-Expr-3 v) ≡ expr_trees v.items
row_trees-vec v = row_trees-items (hidden-the_row-Expr-3 v) ∙ ap expr_trees (items_hidden-the_row-Expr-3 v)

pub row_terms-items : {n : _} (row : Row_of-Kind-Add-0-2 n) → row_terms row ≡ terms_of (items-the_row-Kind-Add-0-2 _ row)
unfolding row_terms terms_of
row_terms-items end_of-Kind-Add-0-2 = refl
row_terms-items (more_of-Kind-Add-0-2 plus p e rest) = ap (λ es. term_and plus (kind_tree p e) es) (row_terms-items rest)

pub row_terms-vec : (v : Vec (Bool × Expr) Global) → row_terms (hidden-the_row-Kind-Add-0-2-2 v) ≡ terms_of v.items
row_terms-vec v = row_terms-items (hidden-the_row-Kind-Add-0-2-2 v) ∙ ap terms_of (items_hidden-the_row-Kind-Add-0-2-2 v)

pub row_generators-items : {n : _} (row : Row_of-Generator n) → row_generators row ≡ generators_of (items-the_row-Generator _ row)
unfolding row_generators generators_of
row_generators-items end_of-Generator = refl
row_generators-items (more_of-Generator names p d rest) = ap (λ gens. generator_and names.items (domain_kind_tree p d) gens) (row_generators-items rest)

pub row_generators-vec : (v : Vec Generator Global) → row_generators (hidden-the_row-Generator-4 v) ≡ generators_of v.items
row_generators-vec v = row_generators-items (hidden-the_row-Generator-4 v) ∙ ap generators_of (items_hidden-the_row-Generator-4 v)

pub row_domains-items : {n : _} (row : Row_of-Domain n) → row_domains row ≡ domains_of (items-the_row-Domain _ row)
unfolding row_domains domains_of
row_domains-items end_of-Domain = refl
row_domains-items (more_of-Domain p d rest) = ap (λ ds. domain_and (domain_kind_tree p d) ds) (row_domains-items rest)

pub row_domains-vec : (v : Vec Domain Global) → row_domains (hidden-the_row-Domain-1 v) ≡ domains_of v.items
row_domains-vec v = row_domains-items (hidden-the_row-Domain-1 v) ∙ ap domains_of (items_hidden-the_row-Domain-1 v)

pub row_ranges-items : {n : _} (row : Row_of-Range n) → row_ranges row ≡ ranges_of (items-the_row-Range _ row)
unfolding row_ranges ranges_of
row_ranges-items end_of-Range = refl
row_ranges-items (more_of-Range r rest) = ap (λ rs. with_range r rs) (row_ranges-items rest)

pub row_ranges-vec : (v : Vec Range Global) → row_ranges (hidden-the_row-Range-0 v) ≡ ranges_of v.items
row_ranges-vec v = row_ranges-items (hidden-the_row-Range-0 v) ∙ ap ranges_of (items_hidden-the_row-Range-0 v)

pub row_values-items : {n : _} (row : Row_of-Value n) → row_values row ≡ values_from (items-the_row-Value _ row)
unfolding row_values values_from
row_values-items end_of-Value = refl
row_values-items (more_of-Value v rest) = ap (λ vs. value_and (value_tree v) vs) (row_values-items rest)

pub row_values-vec : (v : Vec Value Global) → row_values (hidden-the_row-Value-0 v) ≡ values_from v.items
row_values-vec v = row_values-items (hidden-the_row-Value-0 v) ∙ ap values_from (items_hidden-the_row-Value-0 v)

pub row_indices-items : {n : _} (row : Row_of-Kind-Read-1-1 n) → row_indices row ≡ indices_of (items-the_row-Kind-Read-1-1 _ row)
unfolding row_indices indices_of
row_indices-items end_of-Kind-Read-1-1 = refl
row_indices-items (more_of-Kind-Read-1-1 Kind-Read-1-1-None' rest) = ap every_and (row_indices-items rest)
row_indices-items (more_of-Kind-Read-1-1 (Kind-Read-1-1-Some' p e) rest) = ap (λ is. index_and (kind_tree p e) is) (row_indices-items rest)

pub row_indices-vec : (v : Vec (Option Expr) Global) → row_indices (hidden-the_row-Kind-Read-1-1-5 v) ≡ indices_of v.items
row_indices-vec v = row_indices-items (hidden-the_row-Kind-Read-1-1-5 v) ∙ ap indices_of (items_hidden-the_row-Kind-Read-1-1-5 v)

-- ---- one equation for each kind of expression

pub kind_tree-number : (p : Place) (n : ℤ) → kind_tree p (Number n) ≡ number p n
unfolding kind_tree
kind_tree-number p n = refl

pub kind_tree-truth : (p : Place) (b : Bool) → kind_tree p (Truth b) ≡ truth p b
unfolding kind_tree
kind_tree-truth p b = refl

pub kind_tree-named : (p : Place) (name : Name) → kind_tree p (NamedExpr name) ≡ named p name
unfolding kind_tree
kind_tree-named p name = refl

pub kind_tree-group : (p : Place) (e : Box Expr Global) → kind_tree p (GroupExpr e) ≡ group p (expr_tree e.value)
unfolding kind_tree
kind_tree-group p e = refl

pub kind_tree-negation : (p : Place) (e : Box Expr Global) → kind_tree p (Not e) ≡ negation p (expr_tree e.value)
unfolding kind_tree
kind_tree-negation p e = refl

pub kind_tree-minus : (p : Place) (e : Box Expr Global) → kind_tree p (Neg e) ≡ minus p (expr_tree e.value)
unfolding kind_tree
kind_tree-minus p e = refl

pub kind_tree-absolute : (p : Place) (e : Box Expr Global) → kind_tree p (Abs e) ≡ absolute p (expr_tree e.value)
unfolding kind_tree
kind_tree-absolute p e = refl

pub kind_tree-to_int : (p : Place) (e : Box Expr Global) → kind_tree p (ToInt e) ≡ to_int p (expr_tree e.value)
unfolding kind_tree
kind_tree-to_int p e = refl

pub kind_tree-factorial : (p : Place) (e : Box Expr Global) → kind_tree p (Factorial e) ≡ factorial p (expr_tree e.value)
unfolding kind_tree
kind_tree-factorial p e = refl

pub kind_tree-flatten : (p : Place) (e : Box Expr Global) → kind_tree p (Flatten e) ≡ flatten p (expr_tree e.value)
unfolding kind_tree
kind_tree-flatten p e = refl

pub kind_tree-all_different : (p : Place) (e : Box Expr Global) → kind_tree p (AllDiff e) ≡ all_different p (expr_tree e.value)
unfolding kind_tree
kind_tree-all_different p e = refl

pub kind_tree-chain : (p : Place) (v : Vec (Bool × Expr) Global) → kind_tree p (Add v) ≡ chain p (terms_of v.items)
unfolding kind_tree
kind_tree-chain p v = ap (chain p) (row_terms-vec v)

pub kind_tree-binary : (p : Place) (op : BinaryOp) (a b : Box Expr Global) → kind_tree p (Binary op a b) ≡ binary p op (expr_tree a.value) (expr_tree b.value)
unfolding kind_tree
kind_tree-binary p op a b = refl

pub kind_tree-compare : (p : Place) (op : CompareOp) (a b : Box Expr Global) → kind_tree p (Compare op a b) ≡ compare p op (expr_tree a.value) (expr_tree b.value)
unfolding kind_tree
kind_tree-compare p op a b = refl

pub kind_tree-lex : (p : Place) (op : LexOp) (a b : Box Expr Global) → kind_tree p (Lex op a b) ≡ lex p op (expr_tree a.value) (expr_tree b.value)
unfolding kind_tree
kind_tree-lex p op a b = refl

pub kind_tree-in_domain : (p : Place) (e : Box Expr Global) (d : Box Domain Global) → kind_tree p (InDomain e d) ≡ in_domain p (expr_tree e.value) (domain_tree d.value)
unfolding kind_tree
kind_tree-in_domain p e d = refl

pub kind_tree-in_set : (p : Place) (e m : Box Expr Global) → kind_tree p (InSet e m) ≡ in_set p (expr_tree e.value) (expr_tree m.value)
unfolding kind_tree
kind_tree-in_set p e m = refl

pub kind_tree-all_of : (p : Place) (v : Vec Expr Global) → kind_tree p (And v) ≡ all_of p (expr_trees v.items)
unfolding kind_tree
kind_tree-all_of p v = ap (all_of p) (row_trees-vec v)

pub kind_tree-any_of : (p : Place) (v : Vec Expr Global) → kind_tree p (Or v) ≡ any_of p (expr_trees v.items)
unfolding kind_tree
kind_tree-any_of p v = ap (any_of p) (row_trees-vec v)

pub kind_tree-quantified : (p : Place) (op : QuantOp) (names : Vec Name Global) (d : Box Domain Global) (e : Box Expr Global) → kind_tree p (Quant op names d e) ≡ quantified p op names.items (domain_tree d.value) (expr_tree e.value)
unfolding kind_tree
kind_tree-quantified p op names d e = refl

-- the domain of indices, where one is written
unfoldable pub index_of : Option (Box Domain Global) → IndexDomain
index_of None = unstated
index_of (Some d) = over (domain_tree d.value)

pub held_index-back : (d : Option (Box Domain Global)) → held_index (back-Kind-Literal-1 d) ≡ index_of d
unfolding kind_tree index_of
held_index-back None = refl
held_index-back (Some d) = refl

pub kind_tree-literal : (p : Place) (v : Vec Expr Global) (d : Option (Box Domain Global)) → kind_tree p (Literal v d) ≡ literal p (expr_trees v.items) (index_of d)
unfolding kind_tree
kind_tree-literal p v d = ap (λ es. literal p es (held_index (back-Kind-Literal-1 d))) (row_trees-vec v) ∙ ap (λ i. literal p (expr_trees v.items) i) (held_index-back d)

pub kind_tree-comprehension : (p : Place) (e : Box Expr Global) (gens : Vec Generator Global) (v : Vec Expr Global) (d : Option (Box Domain Global)) → kind_tree p (Comprehension e gens v d) ≡ comprehension p (expr_tree e.value) (generators_of gens.items) (expr_trees v.items) (index_of d)
unfolding kind_tree
kind_tree-comprehension p e gens v d = ap (λ gs. comprehension p (expr_tree e.value) gs (row_trees (hidden-the_row-Expr-3 v)) (held_index (back-Kind-Literal-1 d))) (row_generators-vec gens)
    ∙ ap (λ es. comprehension p (expr_tree e.value) (generators_of gens.items) es (held_index (back-Kind-Literal-1 d))) (row_trees-vec v)
    ∙ ap (λ i. comprehension p (expr_tree e.value) (generators_of gens.items) (expr_trees v.items) i) (held_index-back d)

pub kind_tree-read : (p : Place) (m : Box Expr Global) (v : Vec (Option Expr) Global) → kind_tree p (Read m v) ≡ read p (expr_tree m.value) (indices_of v.items)
unfolding kind_tree
kind_tree-read p m v = ap (read p (expr_tree m.value)) (row_indices-vec v)

pub kind_tree-folded : (p : Place) (op : FoldOp) (m : Box Expr Global) → kind_tree p (Fold op m) ≡ folded p op (expr_tree m.value)
unfolding kind_tree
kind_tree-folded p op m = refl

pub kind_tree-gcc : (p : Place) (a b c : Box Expr Global) → kind_tree p (Gcc a b c) ≡ gcc p (expr_tree a.value) (expr_tree b.value) (expr_tree c.value)
unfolding kind_tree
kind_tree-gcc p a b c = refl

pub kind_tree-at_least : (p : Place) (a b c : Box Expr Global) → kind_tree p (AtLeast a b c) ≡ at_least p (expr_tree a.value) (expr_tree b.value) (expr_tree c.value)
unfolding kind_tree
kind_tree-at_least p a b c = refl

pub kind_tree-at_most : (p : Place) (a b c : Box Expr Global) → kind_tree p (AtMost a b c) ≡ at_most p (expr_tree a.value) (expr_tree b.value) (expr_tree c.value)
unfolding kind_tree
kind_tree-at_most p a b c = refl

pub kind_tree-table : (p : Place) (a b : Box Expr Global) → kind_tree p (Table a b) ≡ table p (expr_tree a.value) (expr_tree b.value)
unfolding kind_tree
kind_tree-table p a b = refl

-- ---- one equation for each kind of domain

pub domain_kind_tree-bool : (p : Place) → domain_kind_tree p BoolDomain ≡ bool p
unfolding domain_kind_tree
domain_kind_tree-bool p = refl

pub domain_kind_tree-int : (p : Place) → domain_kind_tree p IntDomain ≡ int p
unfolding domain_kind_tree
domain_kind_tree-int p = refl

pub domain_kind_tree-ranges : (p : Place) (v : Vec Range Global) → domain_kind_tree p (RangesDomain v) ≡ ranges p (ranges_of v.items)
unfolding domain_kind_tree
domain_kind_tree-ranges p v = ap (ranges p) (row_ranges-vec v)

pub domain_kind_tree-named : (p : Place) (name : Name) → domain_kind_tree p (NamedDomain name) ≡ named_domain p name
unfolding domain_kind_tree
domain_kind_tree-named p name = refl

pub domain_kind_tree-group : (p : Place) (d : Box Domain Global) → domain_kind_tree p (GroupDomain d) ≡ group_domain p (domain_tree d.value)
unfolding domain_kind_tree
domain_kind_tree-group p d = refl

pub domain_kind_tree-set : (p : Place) (op : SetOp) (c d : Box Domain Global) → domain_kind_tree p (Set op c d) ≡ set_domain p op (domain_tree c.value) (domain_tree d.value)
unfolding domain_kind_tree
domain_kind_tree-set p op c d = refl

pub domain_kind_tree-matrix : (p : Place) (v : Vec Domain Global) (d : Box Domain Global) → domain_kind_tree p (Matrix v d) ≡ matrix_domain p (domains_of v.items) (domain_tree d.value)
unfolding domain_kind_tree
domain_kind_tree-matrix p v d = ap (λ ds. matrix_domain p ds (domain_tree d.value)) (row_domains-vec v)

pub with_range-one : (e : Expr) (rs : _) → with_range (One e) rs ≡ one_and (expr_tree e) rs
unfolding with_range
with_range-one e rs = refl

pub with_range-span : (a b : Option Expr) (rs : _) → with_range (Span a b) rs ≡ span_and (end_of a) (end_of b) rs
unfolding with_range end_of
with_range-span None None rs = refl
with_range-span None (Some b) rs = refl
with_range-span (Some a) None rs = refl
with_range-span (Some a) (Some b) rs = refl

-- ---- values

pub value_tree-number : (n : ℤ) → value_tree (NumberValue n) ≡ single n
unfolding value_tree
value_tree-number n = refl

pub value_tree-matrix : (is : Vec ℤ Global) (v : Vec Value Global) → value_tree (MatrixValue is v) ≡ matrix is.items (values_from v.items)
unfolding value_tree
value_tree-matrix is v = ap (matrix is.items) (row_values-vec v)
