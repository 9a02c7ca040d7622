-- Trees of one kind whose parts are the same.
use Rattle.std.proofs.Common.{◌≡◌, Bool, refl, sym, ap, ◌∙◌}
use Rattle.std.proofs.Math.Path.{fun_ext}
use Rattle.std.specs.Prelude.{Option, None, Some, option_map}
use Rattle.std.specs.declared.vec.Vec.{Vec}
use Rattle.std.specs.declared.boxed.Box.{Box}
use Rattle.std.specs.declared.alloc.Global.{Global}
use Rattle.ep_base.specs.declared.names.Name.{Name}
use Rattle.ep_base.specs.declared.places.Place.{Place}
use Rattle.ep_base.specs.declared.operators.CompareOp.{CompareOp}
use Rattle.ep_base.specs.declared.operators.LexOp.{LexOp}
use Rattle.ep_tree.specs.declared.syntax.BinaryOp.{BinaryOp}
use Rattle.ep_tree.specs.declared.syntax.FoldOp.{FoldOp}
use Rattle.ep_tree.specs.declared.syntax.QuantOp.{QuantOp}
use Rattle.ep_tree.specs.declared.syntax.SetOp.{SetOp}
use Rattle.ep_tree.specs.declared.syntax.Expr.{Expr}
use Rattle.ep_tree.specs.declared.syntax.Domain.{Domain}
use Rattle.ep_tree.specs.declared.syntax.Generator.{Generator}
use Rattle.ep_tree.specs.declared.syntax.Range.{Range}
use Rattle.ep_tree.specs.declared.syntax.Kind.{Kind, Named as NamedExpr, Group as GroupExpr, Not, Neg, Abs, ToInt, Factorial, Flatten, Add, Binary, Compare, Lex, InDomain, InSet, And, Or, Quant, Literal, Comprehension, Read, Fold, AllDiff, Gcc, AtLeast, AtMost, Table}
use Rattle.ep_tree.specs.declared.syntax.DomainKind.{DomainKind, Ranges as RangesDomain, Named as NamedDomain, Group as GroupDomain, Set, Matrix}
use Rattle.ep_tree.specs.declared.syntax.Range.{One, Span}
use Rattle.ep_tree.proofs.ViewLemmas.{domain_kind_tree-group, domain_kind_tree-matrix, domain_kind_tree-ranges, domain_kind_tree-set, index_of, kind_tree-absolute, kind_tree-all_different, kind_tree-all_of, kind_tree-any_of, kind_tree-at_least, kind_tree-at_most, kind_tree-binary, kind_tree-chain, kind_tree-compare, kind_tree-comprehension, kind_tree-factorial, kind_tree-flatten, kind_tree-folded, kind_tree-gcc, kind_tree-group, kind_tree-in_domain, kind_tree-in_set, kind_tree-lex, kind_tree-literal, kind_tree-minus, kind_tree-negation, kind_tree-quantified, kind_tree-read, kind_tree-table, kind_tree-to_int, with_range-one, with_range-span}
use Rattle.ep_tree.specs.Trees.{DomainTree, IndexDomain, absolute, all_different, all_of, any_of, at_least, at_most, binary, chain, compare, comprehension, factorial, flatten, folded, gcc, group, group_domain, in_domain, in_set, lex, literal, matrix_domain, minus, negation, one_and, over, quantified, ranges, read, set_domain, span_and, table, to_int, unstated}
use Rattle.ep_tree.specs.Views.{domain_kind_tree, domain_tree, domains_of, end_of, expr_tree, expr_trees, generators_of, indices_of, kind_tree, ranges_of, terms_of, with_range}
use Rattle.ep_copies.proofs.Lists.{end_same}

pub same_group : (p : Place) (kind : Kind) (part made : Box Expr Global) → kind ≡ GroupExpr part → expr_tree made.value ≡ expr_tree part.value
    → kind_tree p (GroupExpr made) ≡ kind_tree p kind
same_group p kind part made is same = kind_tree-group p made ∙ ap (group p) same ∙ sym (ap (kind_tree p) is ∙ kind_tree-group p part)

pub same_negation : (p : Place) (kind : Kind) (part made : Box Expr Global) → kind ≡ Not part → expr_tree made.value ≡ expr_tree part.value
    → kind_tree p (Not made) ≡ kind_tree p kind
same_negation p kind part made is same = kind_tree-negation p made ∙ ap (negation p) same ∙ sym (ap (kind_tree p) is ∙ kind_tree-negation p part)

pub same_minus : (p : Place) (kind : Kind) (part made : Box Expr Global) → kind ≡ Neg part → expr_tree made.value ≡ expr_tree part.value
    → kind_tree p (Neg made) ≡ kind_tree p kind
same_minus p kind part made is same = kind_tree-minus p made ∙ ap (minus p) same ∙ sym (ap (kind_tree p) is ∙ kind_tree-minus p part)

pub same_absolute : (p : Place) (kind : Kind) (part made : Box Expr Global) → kind ≡ Abs part → expr_tree made.value ≡ expr_tree part.value
    → kind_tree p (Abs made) ≡ kind_tree p kind
same_absolute p kind part made is same = kind_tree-absolute p made ∙ ap (absolute p) same ∙ sym (ap (kind_tree p) is ∙ kind_tree-absolute p part)

pub same_to_int : (p : Place) (kind : Kind) (part made : Box Expr Global) → kind ≡ ToInt part → expr_tree made.value ≡ expr_tree part.value
    → kind_tree p (ToInt made) ≡ kind_tree p kind
same_to_int p kind part made is same = kind_tree-to_int p made ∙ ap (to_int p) same ∙ sym (ap (kind_tree p) is ∙ kind_tree-to_int p part)

pub same_factorial : (p : Place) (kind : Kind) (part made : Box Expr Global) → kind ≡ Factorial part → expr_tree made.value ≡ expr_tree part.value
    → kind_tree p (Factorial made) ≡ kind_tree p kind
same_factorial p kind part made is same = kind_tree-factorial p made ∙ ap (factorial p) same ∙ sym (ap (kind_tree p) is ∙ kind_tree-factorial p part)

pub same_flatten : (p : Place) (kind : Kind) (part made : Box Expr Global) → kind ≡ Flatten part → expr_tree made.value ≡ expr_tree part.value
    → kind_tree p (Flatten made) ≡ kind_tree p kind
same_flatten p kind part made is same = kind_tree-flatten p made ∙ ap (flatten p) same ∙ sym (ap (kind_tree p) is ∙ kind_tree-flatten p part)

pub same_all_different : (p : Place) (kind : Kind) (part made : Box Expr Global) → kind ≡ AllDiff part → expr_tree made.value ≡ expr_tree part.value
    → kind_tree p (AllDiff made) ≡ kind_tree p kind
same_all_different p kind part made is same = kind_tree-all_different p made ∙ ap (all_different p) same ∙ sym (ap (kind_tree p) is ∙ kind_tree-all_different p part)

pub same_folded : (p : Place) (kind : Kind) (op : FoldOp) (part made : Box Expr Global) → kind ≡ Fold op part → expr_tree made.value ≡ expr_tree part.value
    → kind_tree p (Fold op made) ≡ kind_tree p kind
same_folded p kind op part made is same = kind_tree-folded p op made ∙ ap (folded p op) same ∙ sym (ap (kind_tree p) is ∙ kind_tree-folded p op part)

pub same_in_set : (p : Place) (kind : Kind) (a b c d : Box Expr Global) → kind ≡ InSet a b → expr_tree c.value ≡ expr_tree a.value → expr_tree d.value ≡ expr_tree b.value
    → kind_tree p (InSet c d) ≡ kind_tree p kind
same_in_set p kind a b c d is one other =
    kind_tree-in_set p c d ∙ ap (λ x. in_set p x (expr_tree d.value)) one ∙ ap (in_set p (expr_tree a.value)) other ∙ sym (ap (kind_tree p) is ∙ kind_tree-in_set p a b)

pub same_table : (p : Place) (kind : Kind) (a b c d : Box Expr Global) → kind ≡ Table a b → expr_tree c.value ≡ expr_tree a.value → expr_tree d.value ≡ expr_tree b.value
    → kind_tree p (Table c d) ≡ kind_tree p kind
same_table p kind a b c d is one other =
    kind_tree-table p c d ∙ ap (λ x. table p x (expr_tree d.value)) one ∙ ap (table p (expr_tree a.value)) other ∙ sym (ap (kind_tree p) is ∙ kind_tree-table p a b)

pub same_binary : (p : Place) (kind : Kind) (op : BinaryOp) (a b c d : Box Expr Global) → kind ≡ Binary op a b → expr_tree c.value ≡ expr_tree a.value → expr_tree d.value ≡ expr_tree b.value
    → kind_tree p (Binary op c d) ≡ kind_tree p kind
same_binary p kind op a b c d is one other =
    kind_tree-binary p op c d ∙ ap (λ x. binary p op x (expr_tree d.value)) one ∙ ap (binary p op (expr_tree a.value)) other ∙ sym (ap (kind_tree p) is ∙ kind_tree-binary p op a b)

pub same_compare : (p : Place) (kind : Kind) (op : CompareOp) (a b c d : Box Expr Global) → kind ≡ Compare op a b → expr_tree c.value ≡ expr_tree a.value → expr_tree d.value ≡ expr_tree b.value
    → kind_tree p (Compare op c d) ≡ kind_tree p kind
same_compare p kind op a b c d is one other =
    kind_tree-compare p op c d ∙ ap (λ x. compare p op x (expr_tree d.value)) one ∙ ap (compare p op (expr_tree a.value)) other ∙ sym (ap (kind_tree p) is ∙ kind_tree-compare p op a b)

pub same_lex : (p : Place) (kind : Kind) (op : LexOp) (a b c d : Box Expr Global) → kind ≡ Lex op a b → expr_tree c.value ≡ expr_tree a.value → expr_tree d.value ≡ expr_tree b.value
    → kind_tree p (Lex op c d) ≡ kind_tree p kind
same_lex p kind op a b c d is one other =
    kind_tree-lex p op c d ∙ ap (λ x. lex p op x (expr_tree d.value)) one ∙ ap (lex p op (expr_tree a.value)) other ∙ sym (ap (kind_tree p) is ∙ kind_tree-lex p op a b)

pub same_in_domain : (p : Place) (kind : Kind) (a c : Box Expr Global) (b d : Box Domain Global) → kind ≡ InDomain a b → expr_tree c.value ≡ expr_tree a.value → domain_tree d.value ≡ domain_tree b.value
    → kind_tree p (InDomain c d) ≡ kind_tree p kind
same_in_domain p kind a c b d is one other =
    kind_tree-in_domain p c d ∙ ap (λ x. in_domain p x (domain_tree d.value)) one ∙ ap (in_domain p (expr_tree a.value)) other ∙ sym (ap (kind_tree p) is ∙ kind_tree-in_domain p a b)

pub same_gcc : (p : Place) (kind : Kind) (a b c d e f : Box Expr Global) → kind ≡ Gcc a b c → expr_tree d.value ≡ expr_tree a.value → expr_tree e.value ≡ expr_tree b.value
    → expr_tree f.value ≡ expr_tree c.value → kind_tree p (Gcc d e f) ≡ kind_tree p kind
same_gcc p kind a b c d e f is one two three =
    kind_tree-gcc p d e f ∙ ap (λ x. gcc p x (expr_tree e.value) (expr_tree f.value)) one ∙ ap (λ x. gcc p (expr_tree a.value) x (expr_tree f.value)) two
    ∙ ap (gcc p (expr_tree a.value) (expr_tree b.value)) three ∙ sym (ap (kind_tree p) is ∙ kind_tree-gcc p a b c)

pub same_at_least : (p : Place) (kind : Kind) (a b c d e f : Box Expr Global) → kind ≡ AtLeast a b c → expr_tree d.value ≡ expr_tree a.value → expr_tree e.value ≡ expr_tree b.value
    → expr_tree f.value ≡ expr_tree c.value → kind_tree p (AtLeast d e f) ≡ kind_tree p kind
same_at_least p kind a b c d e f is one two three =
    kind_tree-at_least p d e f ∙ ap (λ x. at_least p x (expr_tree e.value) (expr_tree f.value)) one ∙ ap (λ x. at_least p (expr_tree a.value) x (expr_tree f.value)) two
    ∙ ap (at_least p (expr_tree a.value) (expr_tree b.value)) three ∙ sym (ap (kind_tree p) is ∙ kind_tree-at_least p a b c)

pub same_at_most : (p : Place) (kind : Kind) (a b c d e f : Box Expr Global) → kind ≡ AtMost a b c → expr_tree d.value ≡ expr_tree a.value → expr_tree e.value ≡ expr_tree b.value
    → expr_tree f.value ≡ expr_tree c.value → kind_tree p (AtMost d e f) ≡ kind_tree p kind
same_at_most p kind a b c d e f is one two three =
    kind_tree-at_most p d e f ∙ ap (λ x. at_most p x (expr_tree e.value) (expr_tree f.value)) one ∙ ap (λ x. at_most p (expr_tree a.value) x (expr_tree f.value)) two
    ∙ ap (at_most p (expr_tree a.value) (expr_tree b.value)) three ∙ sym (ap (kind_tree p) is ∙ kind_tree-at_most p a b c)

pub same_chain : (p : Place) (kind : Kind) (parts made : Vec (Bool × Expr) Global) → kind ≡ Add parts → terms_of made.items ≡ terms_of parts.items
    → kind_tree p (Add made) ≡ kind_tree p kind
same_chain p kind parts made is same = kind_tree-chain p made ∙ ap (chain p) same ∙ sym (ap (kind_tree p) is ∙ kind_tree-chain p parts)

pub same_all_of : (p : Place) (kind : Kind) (parts made : Vec (Expr) Global) → kind ≡ And parts → expr_trees made.items ≡ expr_trees parts.items
    → kind_tree p (And made) ≡ kind_tree p kind
same_all_of p kind parts made is same = kind_tree-all_of p made ∙ ap (all_of p) same ∙ sym (ap (kind_tree p) is ∙ kind_tree-all_of p parts)

pub same_any_of : (p : Place) (kind : Kind) (parts made : Vec (Expr) Global) → kind ≡ Or parts → expr_trees made.items ≡ expr_trees parts.items
    → kind_tree p (Or made) ≡ kind_tree p kind
same_any_of p kind parts made is same = kind_tree-any_of p made ∙ ap (any_of p) same ∙ sym (ap (kind_tree p) is ∙ kind_tree-any_of p parts)

pub same_named : (p : Place) (kind : Kind) (name made : Name) → kind ≡ NamedExpr name → made ≡ name → kind_tree p (NamedExpr made) ≡ kind_tree p kind
same_named p kind name made is same = ap (λ n. kind_tree p (NamedExpr n)) same ∙ sym (ap (kind_tree p) is)

pub same_quantified : (p : Place) (kind : Kind) (op : QuantOp) (names made : Vec Name Global) (d f : Box Domain Global) (e g : Box Expr Global)
    → kind ≡ Quant op names d e → made.items ≡ names.items → domain_tree f.value ≡ domain_tree d.value → expr_tree g.value ≡ expr_tree e.value
    → kind_tree p (Quant op made f g) ≡ kind_tree p kind
same_quantified p kind op names made d f e g is one two three =
    kind_tree-quantified p op made f g ∙ ap (λ x. quantified p op x (domain_tree f.value) (expr_tree g.value)) one
    ∙ ap (λ x. quantified p op names.items x (expr_tree g.value)) two ∙ ap (quantified p op names.items (domain_tree d.value)) three
    ∙ sym (ap (kind_tree p) is ∙ kind_tree-quantified p op names d e)

index_from : Option DomainTree → IndexDomain
index_from None = unstated
index_from (Some d) = over d

index_seen : (d : Option (Box Domain Global)) → index_of d ≡ index_from (option_map (λ one. domain_tree one.value) d)
unfolding index_of index_from
index_seen None = refl
index_seen (Some d) = refl

index_same : (a b : Option (Box Domain Global)) → option_map (λ one. domain_tree one.value) a ≡ option_map (λ one. domain_tree one.value) b → index_of a ≡ index_of b
index_same a b same = index_seen a ∙ ap index_from same ∙ sym (index_seen b)

pub same_literal : (p : Place) (kind : Kind) (parts made : Vec Expr Global) (d f : Option (Box Domain Global)) → kind ≡ Literal parts d
    → expr_trees made.items ≡ expr_trees parts.items → option_map (λ one. domain_tree one.value) f ≡ option_map (λ one. domain_tree one.value) d
    → kind_tree p (Literal made f) ≡ kind_tree p kind
same_literal p kind parts made d f is one other =
    kind_tree-literal p made f ∙ ap (λ x. literal p x (index_of f)) one ∙ ap (literal p (expr_trees parts.items)) (index_same f d other)
    ∙ sym (ap (kind_tree p) is ∙ kind_tree-literal p parts d)

pub same_comprehension : (p : Place) (kind : Kind) (e g : Box Expr Global) (gens made : Vec Generator Global) (conditions others : Vec Expr Global) (d f : Option (Box Domain Global))
    → kind ≡ Comprehension e gens conditions d → expr_tree g.value ≡ expr_tree e.value → generators_of made.items ≡ generators_of gens.items
    → expr_trees others.items ≡ expr_trees conditions.items → option_map (λ one. domain_tree one.value) f ≡ option_map (λ one. domain_tree one.value) d
    → kind_tree p (Comprehension g made others f) ≡ kind_tree p kind
same_comprehension p kind e g gens made conditions others d f is one two three four =
    kind_tree-comprehension p g made others f
    ∙ ap (λ x. comprehension p x (generators_of made.items) (expr_trees others.items) (index_of f)) one
    ∙ ap (λ x. comprehension p (expr_tree e.value) x (expr_trees others.items) (index_of f)) two
    ∙ ap (λ x. comprehension p (expr_tree e.value) (generators_of gens.items) x (index_of f)) three
    ∙ ap (comprehension p (expr_tree e.value) (generators_of gens.items) (expr_trees conditions.items)) (index_same f d four)
    ∙ sym (ap (kind_tree p) is ∙ kind_tree-comprehension p e gens conditions d)

pub same_read : (p : Place) (kind : Kind) (m made : Box Expr Global) (indices others : Vec (Option Expr) Global) → kind ≡ Read m indices
    → expr_tree made.value ≡ expr_tree m.value → indices_of others.items ≡ indices_of indices.items
    → kind_tree p (Read made others) ≡ kind_tree p kind
same_read p kind m made indices others is one other =
    kind_tree-read p made others ∙ ap (λ x. read p x (indices_of others.items)) one ∙ ap (read p (expr_tree m.value)) other
    ∙ sym (ap (kind_tree p) is ∙ kind_tree-read p m indices)

-- ---- domains

pub same_ranges : (p : Place) (kind : DomainKind) (rs made : Vec Range Global) → kind ≡ RangesDomain rs → ranges_of made.items ≡ ranges_of rs.items
    → domain_kind_tree p (RangesDomain made) ≡ domain_kind_tree p kind
same_ranges p kind rs made is same = domain_kind_tree-ranges p made ∙ ap (ranges p) same ∙ sym (ap (domain_kind_tree p) is ∙ domain_kind_tree-ranges p rs)

pub same_named_domain : (p : Place) (kind : DomainKind) (name made : Name) → kind ≡ NamedDomain name → made ≡ name → domain_kind_tree p (NamedDomain made) ≡ domain_kind_tree p kind
same_named_domain p kind name made is same = ap (λ n. domain_kind_tree p (NamedDomain n)) same ∙ sym (ap (domain_kind_tree p) is)

pub same_group_domain : (p : Place) (kind : DomainKind) (part made : Box Domain Global) → kind ≡ GroupDomain part → domain_tree made.value ≡ domain_tree part.value
    → domain_kind_tree p (GroupDomain made) ≡ domain_kind_tree p kind
same_group_domain p kind part made is same = domain_kind_tree-group p made ∙ ap (group_domain p) same ∙ sym (ap (domain_kind_tree p) is ∙ domain_kind_tree-group p part)

pub same_set : (p : Place) (kind : DomainKind) (op : SetOp) (a b c d : Box Domain Global) → kind ≡ Set op a b → domain_tree c.value ≡ domain_tree a.value → domain_tree d.value ≡ domain_tree b.value
    → domain_kind_tree p (Set op c d) ≡ domain_kind_tree p kind
same_set p kind op a b c d is one other =
    domain_kind_tree-set p op c d ∙ ap (λ x. set_domain p op x (domain_tree d.value)) one ∙ ap (set_domain p op (domain_tree a.value)) other
    ∙ sym (ap (domain_kind_tree p) is ∙ domain_kind_tree-set p op a b)

pub same_matrix : (p : Place) (kind : DomainKind) (ds made : Vec Domain Global) (d f : Box Domain Global) → kind ≡ Matrix ds d → domains_of made.items ≡ domains_of ds.items
    → domain_tree f.value ≡ domain_tree d.value → domain_kind_tree p (Matrix made f) ≡ domain_kind_tree p kind
same_matrix p kind ds made d f is one other =
    domain_kind_tree-matrix p made f ∙ ap (λ x. matrix_domain p x (domain_tree f.value)) one ∙ ap (matrix_domain p (domains_of ds.items)) other
    ∙ sym (ap (domain_kind_tree p) is ∙ domain_kind_tree-matrix p ds d)

pub same_one : (range : Range) (e made : Expr) → range ≡ One e → expr_tree made ≡ expr_tree e → with_range (One made) ≡ with_range range
same_one range e made is same =
    fun_ext (λ rs. with_range-one made rs ∙ ap (λ x. one_and x rs) same ∙ sym (with_range-one e rs)) ∙ ap with_range (sym is)

pub same_span : (range : Range) (a b c d : Option Expr) → range ≡ Span a b → option_map expr_tree c ≡ option_map expr_tree a → option_map expr_tree d ≡ option_map expr_tree b
    → with_range (Span c d) ≡ with_range range
same_span range a b c d is one other =
    fun_ext (λ rs. with_range-span c d rs ∙ ap (λ x. span_and x (end_of d) rs) (end_same c a one) ∙ ap (λ x. span_and (end_of a) x rs) (end_same d b other)
    ∙ sym (with_range-span a b rs)) ∙ ap with_range (sym is)
