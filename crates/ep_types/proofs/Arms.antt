-- What checking does at the forms with lists of parts, domains or quantified names, as the code's trees have them.
use Rattle.std.proofs.Common.{◌≡◌, ℕ, ◌+◌, ◌<◌, ◌≤◌, Bool, true, false, not, ◌&&◌, ◌||◌, List, [], ◌∷◌, length, drop, get_or, Some, None, Ok, Option, refl, sym, ap, ◌∙◌}
use Rattle.std.proofs.Math.ListN.{drop_of_length-le}
use Rattle.std.specs.List.{list_all}
use Rattle.std.specs.declared.boxed.Box.{Box}
use Rattle.std.specs.declared.alloc.Global.{Global}
use Rattle.std.specs.declared.vec.Vec.{Vec}
use Rattle.ep_base.specs.declared.names.Name.{Name}
use Rattle.ep_base.specs.declared.places.Place.{Place}
use Rattle.ep_tree.specs.Faults.{entry_count, has_open_range, leaves_matrix, open_domain}
use Rattle.ep_tree.specs.Names.{put}
use Rattle.ep_tree.specs.Types.{Context, gives, is_boolean, is_integer, list_type, matrix_type, quantified_name, quantified_type, read_type, slice_count, typed}
use Rattle.ep_tree.specs.Views.{domain_kind_tree, domain_tree, domains_of, expr_tree, expr_trees, generators_of, indices_of, kind_tree, ranges_of, terms_of}
use Rattle.ep_tree.specs.declared.syntax.Domain.{Domain}
use Rattle.ep_tree.specs.declared.syntax.DomainKind.{DomainKind, Matrix, Ranges}
use Rattle.ep_tree.specs.declared.syntax.Expr.{Expr}
use Rattle.ep_tree.specs.declared.syntax.Generator.{Generator}
use Rattle.ep_tree.specs.declared.syntax.Kind.{Kind, Add, And, Comprehension, Literal, Or, Quant, Read}
use Rattle.ep_tree.specs.declared.syntax.QuantOp.{QuantOp}
use Rattle.ep_tree.specs.declared.syntax.Range.{Range}
use Rattle.ep_tree.specs.declared.values.ValueType.{ValueType}
use Rattle.ep_tree.proofs.ViewLemmas.{domain_kind_tree-matrix, domain_kind_tree-ranges, index_of, kind_tree-all_of, kind_tree-any_of, kind_tree-chain, kind_tree-comprehension, kind_tree-literal, kind_tree-quantified, kind_tree-read}
use Rattle.ep_types_rules.proofs.RuleSteps.{next_is}
use Rattle.ep_types_rules.specs.Concluding.{Checked, conclude, quantified_over, unless_fault, ◌>>=◌}
use Rattle.ep_types.proofs.Walks.{Walks, behind_all}
use Rattle.ep_types.specs.Reading.{stated_index}
use Rattle.ep_types.specs.Checking.{check, check_all, check_domain, check_domains, check_generators, check_index, check_indices, check_ranges, check_readings, check_terms}

-- ---- expressions

index_is : (dom : Option (Box Domain Global)) → index_of dom ≡ stated_index dom
unfolding index_of stated_index
index_is None = refl
index_is (Some dom) = refl

module _ (c : Context) (d : Bool) (p : Place) (k : Kind) where
  pub chain_parts : (terms : Vec (Bool × Expr) Global) (s : List (Bool × Expr)) → k ≡ Add terms → s ≡ terms.items
      → check c d (kind_tree p k) ≡ (check_terms c d (terms_of s) >>= λ ts. conclude p (gives ValueType.Int (list_all is_integer ts)))
  unfolding check
  chain_parts terms s is at =
      ap (λ x. check c d (kind_tree p x)) is ∙ ap (check c d) (kind_tree-chain p terms)
      ∙ ap (λ x. check_terms c d (terms_of x) >>= λ ts. conclude p (gives ValueType.Int (list_all is_integer ts))) (sym at)

  pub all_of_parts : (parts : Vec Expr Global) (s : List Expr) → k ≡ And parts → s ≡ parts.items
      → check c d (kind_tree p k) ≡ (check_all c d (expr_trees s) >>= λ ts. conclude p (gives ValueType.Bool (list_all is_boolean ts)))
  unfolding check
  all_of_parts parts s is at =
      ap (λ x. check c d (kind_tree p x)) is ∙ ap (check c d) (kind_tree-all_of p parts)
      ∙ ap (λ x. check_all c d (expr_trees x) >>= λ ts. conclude p (gives ValueType.Bool (list_all is_boolean ts))) (sym at)

  pub any_of_parts : (parts : Vec Expr Global) (s : List Expr) → k ≡ Or parts → s ≡ parts.items
      → check c d (kind_tree p k) ≡ (check_all c d (expr_trees s) >>= λ ts. conclude p (gives ValueType.Bool (list_all is_boolean ts)))
  unfolding check
  any_of_parts parts s is at =
      ap (λ x. check c d (kind_tree p x)) is ∙ ap (check c d) (kind_tree-any_of p parts)
      ∙ ap (λ x. check_all c d (expr_trees x) >>= λ ts. conclude p (gives ValueType.Bool (list_all is_boolean ts))) (sym at)

  pub quantified_parts : (op : QuantOp) (names : Vec Name Global) (dom : Box Domain Global) (e : Box Expr Global) (s : List Name) (x : Domain) (y : Expr) → k ≡ Quant op names dom e → s ≡ names.items → x ≡ dom.value → y ≡ e.value
      → check c d (kind_tree p k) ≡ (check_readings s (λ z. check_domain z false (domain_tree x)) c >>= λ read. check read.1 d (expr_tree y) >>= λ t. conclude p (quantified_over read.0 (quantified_type op [] t)))
  unfolding check
  quantified_parts op names dom e s x y is at dx dy =
      ap (λ z. check c d (kind_tree p z)) is ∙ ap (check c d) (kind_tree-quantified p op names dom e)
      ∙ rw (sym at) (rw (sym dx) (rw (sym dy) refl))

  pub literal_parts : (parts : Vec Expr Global) (dom : Option (Box Domain Global)) (s : List Expr) → k ≡ Literal parts dom → s ≡ parts.items
      → check c d (kind_tree p k) ≡ (check_all c d (expr_trees s) >>= λ ts. check_index c (stated_index dom) >>= λ scalar. conclude p (quantified_over scalar (list_type ts)))
  unfolding check
  literal_parts parts dom s is at =
      ap (λ x. check c d (kind_tree p x)) is ∙ ap (check c d) (kind_tree-literal p parts dom)
      ∙ ap (λ x. check_all c d (expr_trees x) >>= λ ts. check_index c (index_of dom) >>= λ scalar. conclude p (quantified_over scalar (list_type ts))) (sym at)
      ∙ ap (λ x. check_all c d (expr_trees s) >>= λ ts. check_index c x >>= λ scalar. conclude p (quantified_over scalar (list_type ts))) (index_is dom)

  pub comprehension_parts : (e : Box Expr Global) (gens : Vec Generator Global) (conditions : Vec Expr Global) (dom : Option (Box Domain Global)) (gs : List Generator) (s : List Expr) (y : Expr)
      → k ≡ Comprehension e gens conditions dom → gs ≡ gens.items → s ≡ conditions.items → y ≡ e.value
      → check c d (kind_tree p k) ≡ (check_index c (stated_index dom) >>= λ index. check_generators c (generators_of gs) >>= λ behind.
      check_all behind.1 false (expr_trees s) >>= λ truths.
      check behind.1 d (expr_tree y) >>= λ t.
      conclude p (quantified_over (index && behind.0 && list_all is_boolean truths) (list_type (t ∷ []))))
  unfolding check
  comprehension_parts e gens conditions dom gs s y is ag at dy =
      ap (λ z. check c d (kind_tree p z)) is ∙ ap (check c d) (kind_tree-comprehension p e gens conditions dom)
      ∙ rw (sym ag) (rw (sym at) (rw (sym dy) (rw (index_is dom) refl)))

  pub read_parts : (m : Box Expr Global) (indices : Vec (Option Expr) Global) (s : List (Option Expr)) (y : Expr) → k ≡ Read m indices → s ≡ indices.items → y ≡ m.value
      → check c d (kind_tree p k) ≡ (check c d (expr_tree y) >>= λ t.
      check_indices c (d && not (leaves_matrix (typed t) (entry_count (indices_of s)) (slice_count (indices_of s)))) (indices_of s) >>= λ ts.
      conclude p (read_type t ts (slice_count (indices_of s))))
  unfolding check
  read_parts m indices s y is at dy =
      ap (λ z. check c d (kind_tree p z)) is ∙ ap (check c d) (kind_tree-read p m indices)
      ∙ rw (sym at) (rw (sym dy) refl)

-- ---- domains

module _ (c : Context) (open' : Bool) (p : Place) (k : DomainKind) where
  pub ranges_parts : (rs : Vec Range Global) (s : List Range) → k ≡ Ranges rs → s ≡ rs.items
      → check_domain c open' (domain_kind_tree p k) ≡ (unless_fault (open' || not (has_open_range (ranges_of s))) (open_domain p) >>= λ _.
      check_ranges c (ranges_of s) >>= λ ts. conclude p (gives ValueType.Int (list_all is_integer ts)))
  unfolding check
  ranges_parts rs s is at =
      ap (λ z. check_domain c open' (domain_kind_tree p z)) is ∙ ap (check_domain c open') (domain_kind_tree-ranges p rs)
      ∙ rw (sym at) refl

  pub matrix_parts : (ds : Vec Domain Global) (dom : Box Domain Global) (s : List Domain) (x : Domain) → k ≡ Matrix ds dom → s ≡ ds.items → x ≡ dom.value
      → check_domain c open' (domain_kind_tree p k) ≡ (check_domains c (domains_of s) >>= λ ts. check_domain c open' (domain_tree x) >>= λ t. conclude p (matrix_type ts t))
  unfolding check
  matrix_parts ds dom s x is at dx =
      ap (λ z. check_domain c open' (domain_kind_tree p z)) is ∙ ap (check_domain c open') (domain_kind_tree-matrix p ds dom)
      ∙ rw (sym at) (rw (sym dx) refl)

-- ---- lists of parts

pub all_walks : (c : Context) (d : Bool) → Walks (λ (xs : List Expr). check_all c d (expr_trees xs)) (λ x. check c d (expr_tree x))
unfolding check expr_trees
all_walks c d = record { none = refl; more = λ x xs. refl }

pub terms_walk : (c : Context) (d : Bool) → Walks (λ (xs : List (Bool × Expr)). check_terms c d (terms_of xs)) (λ x. check c d (expr_tree x.1))
unfolding check terms_of
terms_walk c d = record { none = refl; more = λ x xs. refl }

pub domains_walk : (c : Context) → Walks (λ (xs : List Domain). check_domains c (domains_of xs)) (λ x. check_domain c false (domain_tree x))
unfolding check domains_of
domains_walk c = record { none = refl; more = λ x xs. refl }

-- ---- indices

module _ (c : Context) (d : Bool) (xs : List (Option Expr)) (i : ℕ) (x : Option Expr) (lt : i < length xs) (at : x ≡ get_or xs i x) where
  pub every_index : x ≡ None → check_indices c d (indices_of (drop i xs)) ≡ check_indices c d (indices_of (drop (i + 1) xs))
  unfolding check indices_of
  every_index is = ap (λ l. check_indices c d (indices_of l)) (next_is xs i x lt at) ∙ ap (λ y. check_indices c d (indices_of (y ∷ drop (i + 1) xs))) is

  pub one_index : (e : Expr) → x ≡ Some e → check_indices c d (indices_of (drop i xs)) ≡ (check c d (expr_tree e) >>= λ t. check_indices c d (indices_of (drop (i + 1) xs)) >>= λ ts. Ok (t ∷ ts))
  unfolding check indices_of
  one_index e is = ap (λ l. check_indices c d (indices_of l)) (next_is xs i x lt at) ∙ ap (λ y. check_indices c d (indices_of (y ∷ drop (i + 1) xs))) is

pub no_index : (c : Context) (d : Bool) (xs : List (Option Expr)) (i : ℕ) → length xs ≤ i → check_indices c d (indices_of (drop i xs)) ≡ Ok []
unfolding check indices_of
no_index c d xs i le = ap (λ l. check_indices c d (indices_of l)) (drop_of_length-le xs le)

-- ---- ranges

pub no_range : (c : Context) (xs : List Range) (i : ℕ) → length xs ≤ i → check_ranges c (ranges_of (drop i xs)) ≡ Ok []
unfolding check ranges_of
no_range c xs i le = ap (λ l. check_ranges c (ranges_of l)) (drop_of_length-le xs le)

-- ---- readings

pub next_reading : (f : Context → Checked ValueType) (c : Context) (xs : List Name) (i : ℕ) (x : Name) → i < length xs → x ≡ get_or xs i x
    → check_readings (drop i xs) f c ≡ (f c >>= λ t. check_readings (drop (i + 1) xs) f (put x (quantified_name (typed t)) c) >>= behind_all (is_integer t))
unfolding check_readings
next_reading f c xs i x lt at = ap (λ l. check_readings l f c) (next_is xs i x lt at)

pub no_reading : (f : Context → Checked ValueType) (c : Context) (xs : List Name) (i : ℕ) → length xs ≤ i → check_readings (drop i xs) f c ≡ Ok (true, c)
unfolding check_readings
no_reading f c xs i le = ap (λ l. check_readings l f c) (drop_of_length-le xs le)

pub next_generator : (c : Context) (xs : List Generator) (i : ℕ) (x : Generator) → i < length xs → x ≡ get_or xs i x
    → check_generators c (generators_of (drop i xs)) ≡ (check_readings x.names.items (λ z. check_domain z false (domain_tree x.domain)) c >>= λ read. check_generators read.1 (generators_of (drop (i + 1) xs)) >>= behind_all read.0)
unfolding check generators_of
next_generator c xs i x lt at = ap (λ l. check_generators c (generators_of l)) (next_is xs i x lt at)

pub no_generator : (c : Context) (xs : List Generator) (i : ℕ) → length xs ≤ i → check_generators c (generators_of (drop i xs)) ≡ Ok (true, c)
unfolding check generators_of
no_generator c xs i le = ap (λ l. check_generators c (generators_of l)) (drop_of_length-le xs le)
