-- The words of a value's expression spell it.
use Rattle.std.proofs.Common.{◌≡◌, suc, ◌^◌, Bool, true, false, cond, ◌&&◌, List, [], ◌∷◌, ◌++◌, codes, ℤ, pos, negsuc, ◌+ℤ◌, refl, sym, ap, ap₂, ◌∙◌, append_assoc}
use Rattle.std.specs.Fmt.{decimal}
use Rattle.std.specs.List.{list_all}
use Rattle.std.specs.Ordering.{int_eq}
use Rattle.std.proofs.lemmas.Bool.{and_from, and_parts, ltb-true}
use Rattle.ep_tree.specs.Phrases.{a_number}
use Rattle.ep_tree.specs.Placeless.{placeless, placeless_domain, placeless_ranges, placeless_trees, somewhere}
use Rattle.ep_tree.specs.Spelling.{Spells, SpellsDomain, SpellsList, SpellsMore, SpellsMoreRanges, SpellsNode, SpellsRanges, domain_rank, implications, own_domain_level, own_level, rank, set_operations, truth_word, unaries}
use Rattle.ep_tree.specs.Trees.{DomainTree, ExprTree, ExprTrees, Ranges, end_at, literal, minus, no_ranges, no_trees, number, one_and, over, place_of, place_of_domain, ranges, span_and, tree_and, truth}
use Rattle.ep_tree.specs.Values.{ValueTree, ValueTrees, matrix, no_values, single, value_and}
use Rattle.ep_tree.specs.declared.values.Scalar.{Scalar}
use Rattle.ep_print.specs.Joining.{with_between}
use Rattle.ep_print.specs.Values.{Stretch, runs_of, stretch_from}
use Rattle.ep_print.specs.Words.{all_words, domain_words, expr_words, parted, range_words, word}
use Rattle.ep_print_laws.specs.Answered.{are_short_values, has_few_digits, indices_domain, is_short_value, number_expr, run_and, run_ranges, scalar_expr, value_expr, value_exprs}
use Rattle.ep_print_laws.proofs.Literals as literals
use Rattle.ep_print_laws.proofs.Literals.{truth_literal}
use Rattle.ep_print_laws.proofs.Pieces.{behind, joined_behind, respelled_at, respelled_domain_at, respelled_domain_node, respelled_node}
use Rattle.ep_print_laws.proofs.Respelled.{Respelled, Twin, respelled_as, respelled_is, respelled_none, respelled_then, respelled_word, respelled_words}
use Rattle.ep_print_laws.proofs.Said.{numbered}

-- the words of an expression spell it, wherever any expression may stand
abbrev pub SpellsWhole : ExprTree → Type 0
SpellsWhole e = Respelled (λ (x : Twin placeless e). Spells implications x.tree) (expr_words e)

-- whether both ends of a run have few digits
abbrev pub has_few : Stretch → Bool
has_few s = has_few_digits s.first && has_few_digits s.last

either_few : (b : Bool) (n : ℤ) (s : Stretch) (others : List Stretch) → has_few_digits n ≡ true → has_few s ≡ true → list_all has_few others ≡ true
    → list_all has_few (cond b (record { first = n; last = s.last } ∷ others) (record { first = n; last = n } ∷ s ∷ others)) ≡ true
either_few true n s others e f g = and_from _ _ (and_from _ _ e (and_parts (has_few_digits s.first) _ f).1) g
either_few false n s others e f g = and_from _ _ (and_from _ _ e e) (and_from _ _ f g)

stretched_few : (n : ℤ) (ss : List Stretch) → has_few_digits n ≡ true → list_all has_few ss ≡ true → list_all has_few (stretch_from n ss) ≡ true
unfolding stretch_from
stretched_few n [] e f = and_from _ _ (and_from _ _ e e) refl
stretched_few n (s ∷ ss) e f =
    let parts = and_parts (has_few s) _ f in
    either_few (int_eq (n +ℤ pos 1) s.first) n s ss e parts.0 parts.1

-- the ends of the runs of some numbers are among these
pub runs_few : (ns : List ℤ) → list_all has_few_digits ns ≡ true → list_all has_few (runs_of ns) ≡ true
unfolding runs_of
runs_few [] e = refl
runs_few (n ∷ ns) e = let parts = and_parts (has_few_digits n) _ e in stretched_few n (runs_of ns) parts.0 (runs_few ns parts.1)

-- ---- numbers

pub number_spelled : (z : ℤ) → has_few_digits z ≡ true → SpellsWhole (number_expr z)
unfolding SpellsNode expr_words placeless place_of own_level rank number_expr has_few_digits
number_spelled (pos n) few =
    let d = numbered n (ltb-true n (10 ^ 18) few) in
    respelled_at implications (number somewhere (pos n)) refl refl
    (respelled_node (number somewhere (pos n)) (respelled_is (a_number (pos n)) (decimal n) d.written d.says) (λ u p. number p (pos n)) (λ u p. refl) (λ u p. refl) (λ u p ts h. h))
number_spelled (negsuc n) few =
    let d = numbered (suc n) (ltb-true (suc n) (10 ^ 18) few) in
    let m = number somewhere (pos (suc n)) in
    respelled_at implications (minus somewhere m) refl refl
    (respelled_node (minus somewhere m)
    (respelled_then (respelled_word "-" literals.dash)
    (respelled_at unaries m refl refl
    (respelled_node m (respelled_is (a_number (pos (suc n))) (decimal (suc n)) d.written d.says) (λ u p. number p (pos (suc n))) (λ u p. refl) (λ u p. refl) (λ u p ts h. h))))
    (λ x p. minus p x.1.tree) (λ x p. ap (minus somewhere) x.1.same) (λ x p. refl) (λ x p ts h. h))

-- ---- index domains

span_words : (first last : ExprTree) (rs : Ranges) → expr_words first ++ (word ".." ++ (expr_words last ++ behind (word ",") (range_words rs))) ≡ (expr_words first ++ (word ".." ++ expr_words last)) ++ behind (word ",") (range_words rs)
span_words first last rs = sym (append_assoc (expr_words first) (word ".." ++ expr_words last) (behind (word ",") (range_words rs)))

-- a run and further ranges
more_with : (b : Bool) (first last : ExprTree) (rs : Ranges) → SpellsWhole first → SpellsWhole last → Respelled (λ (x : Twin placeless_ranges rs). SpellsMoreRanges x.tree) (behind (word ",") (range_words rs))
    → Respelled (λ (x : Twin placeless_ranges (cond b (one_and first rs) (span_and (end_at first) (end_at last) rs))). SpellsMoreRanges x.tree) (behind (word ",") (range_words (cond b (one_and first rs) (span_and (end_at first) (end_at last) rs))))
unfolding SpellsNode expr_words placeless
more_with true first last rs f l more =
    respelled_as (respelled_then (respelled_word "," literals.comma) (respelled_then f more))
    (λ x. record { tree = one_and x.1.0.tree x.1.1.tree; same = ap₂ one_and x.1.0.same x.1.1.same }) (λ x ts h. h)
more_with false first last rs f l more =
    respelled_words _ (ap (λ ws. codes "," ∷ ws) (span_words first last rs))
    (respelled_as (respelled_then (respelled_word "," literals.comma) (respelled_then f (respelled_then (respelled_word ".." literals.dots) (respelled_then l more))))
    (λ x. record { tree = span_and (end_at x.1.0.tree) (end_at x.1.1.1.0.tree) x.1.1.1.1.tree; same = ap₂ (λ u v. span_and (end_at u) (end_at v) (placeless_ranges x.1.1.1.1.tree)) x.1.0.same x.1.1.1.0.same ∙ ap (span_and (end_at (placeless first)) (end_at (placeless last))) x.1.1.1.1.same }) (λ x ts h. h))

first_with : (b : Bool) (first last : ExprTree) (rs : Ranges) → SpellsWhole first → SpellsWhole last → Respelled (λ (x : Twin placeless_ranges rs). SpellsMoreRanges x.tree) (behind (word ",") (range_words rs))
    → Respelled (λ (x : Twin placeless_ranges (cond b (one_and first rs) (span_and (end_at first) (end_at last) rs))). SpellsRanges x.tree) (parted "," (range_words (cond b (one_and first rs) (span_and (end_at first) (end_at last) rs))))
unfolding SpellsNode expr_words placeless
first_with true first last rs f l more =
    respelled_words _ (joined_behind (word ",") (expr_words first) (range_words rs))
    (respelled_as (respelled_then f more) (λ x. record { tree = one_and x.0.tree x.1.tree; same = ap₂ one_and x.0.same x.1.same }) (λ x ts h. h))
first_with false first last rs f l more =
    respelled_words _ (span_words first last rs ∙ joined_behind (word ",") (expr_words first ++ (word ".." ++ expr_words last)) (range_words rs))
    (respelled_as (respelled_then f (respelled_then (respelled_word ".." literals.dots) (respelled_then l more)))
    (λ x. record { tree = span_and (end_at x.0.tree) (end_at x.1.1.0.tree) x.1.1.1.tree; same = ap₂ (λ u v. span_and (end_at u) (end_at v) (placeless_ranges x.1.1.1.tree)) x.0.same x.1.1.0.same ∙ ap (span_and (end_at (placeless first)) (end_at (placeless last))) x.1.1.1.same }) (λ x ts h. h))

runs_spelled : (ss : List Stretch) → list_all has_few ss ≡ true → Respelled (λ (x : Twin placeless_ranges (run_ranges ss)). SpellsMoreRanges x.tree) (behind (word ",") (range_words (run_ranges ss)))
unfolding run_ranges run_and SpellsNode expr_words placeless
runs_spelled [] few = respelled_as respelled_none (λ u. record { tree = no_ranges; same = refl }) (λ u ts h. h)
runs_spelled (s ∷ ss) few =
    let parts = and_parts (has_few s) _ few in
    let ends = and_parts (has_few_digits s.first) (has_few_digits s.last) parts.0 in
    more_with (int_eq s.first s.last) (number_expr s.first) (number_expr s.last) (run_ranges ss) (number_spelled s.first ends.0) (number_spelled s.last ends.1) (runs_spelled ss parts.1)

some_runs_spelled : (s : Stretch) (ss : List Stretch) → list_all has_few (s ∷ ss) ≡ true → Respelled (λ (x : Twin placeless_ranges (run_ranges (s ∷ ss))). SpellsRanges x.tree) (parted "," (range_words (run_ranges (s ∷ ss))))
unfolding run_ranges run_and
some_runs_spelled s ss few =
    let parts = and_parts (has_few s) _ few in
    let ends = and_parts (has_few_digits s.first) (has_few_digits s.last) parts.0 in
    first_with (int_eq s.first s.last) (number_expr s.first) (number_expr s.last) (run_ranges ss) (number_spelled s.first ends.0) (number_spelled s.last ends.1) (runs_spelled ss parts.1)

ranges_spelled : (rs : Ranges) → Respelled (λ (x : Twin placeless_ranges rs). SpellsRanges x.tree) (parted "," (range_words rs)) → Respelled (λ (x : Twin placeless_domain (ranges somewhere rs)). SpellsDomain set_operations x.tree) (domain_words (ranges somewhere rs))
unfolding SpellsNode expr_words placeless place_of_domain own_domain_level domain_rank
ranges_spelled rs r =
    respelled_domain_at set_operations (ranges somewhere rs) refl refl
    (respelled_domain_node (ranges somewhere rs)
    (respelled_then (respelled_word "int" literals.int) (respelled_then (respelled_word "(" literals.open_round) (respelled_then r (respelled_word ")" literals.close_round))))
    (λ x p. ranges p x.1.1.0.tree) (λ x p. ap (ranges somewhere) x.1.1.0.same) (λ x p. refl) (λ x p ts h. h))

either_some : (b : Bool) (r s : Stretch) (rs ss : List Stretch) → cond b (r ∷ rs) (s ∷ ss) ≡ [] → ⊥
either_some true r s rs ss e = absurd cc
either_some false r s rs ss e = absurd cc

stretch_some : (n : ℤ) (ss : List Stretch) → stretch_from n ss ≡ [] → ⊥
unfolding stretch_from
stretch_some n [] e = absurd cc
stretch_some n (s ∷ ss) e = either_some (int_eq (n +ℤ pos 1) s.first) _ _ _ _ e

-- the runs of some numbers, of which there is one
some_runs : (ss : List Stretch) → (ss ≡ [] → ⊥) → list_all has_few ss ≡ true → Respelled (λ (x : Twin placeless_ranges (run_ranges ss)). SpellsRanges x.tree) (parted "," (range_words (run_ranges ss)))
some_runs [] some few = absurd (some refl)
some_runs (s ∷ ss) some few = some_runs_spelled s ss few

pub indices_spelled : (indices : List ℤ) → list_all has_few_digits indices ≡ true → Respelled (λ (x : Twin placeless_domain (indices_domain indices)). SpellsDomain set_operations x.tree) (domain_words (indices_domain indices))
unfolding indices_domain run_ranges run_and number_expr has_few_digits runs_of
indices_spelled [] few = ranges_spelled _ (some_runs_spelled (record { first = pos 1; last = pos 0 }) [] refl)
indices_spelled (n ∷ ns) few = ranges_spelled (run_ranges (runs_of (n ∷ ns))) (some_runs (runs_of (n ∷ ns)) (stretch_some n (runs_of ns)) (runs_few (n ∷ ns) few))

-- ---- values

scalar_spelled : (s : Scalar) (n : ℤ) → has_few_digits n ≡ true → SpellsWhole (scalar_expr s n)
unfolding SpellsNode expr_words placeless place_of own_level rank scalar_expr
scalar_spelled Scalar.Bool n few =
    let b = int_eq n (pos 1) in
    respelled_at implications (truth somewhere b) refl refl
    (respelled_node (truth somewhere b) (respelled_word (truth_word b) (truth_literal b)) (λ u p. truth p b) (λ u p. refl) (λ u p. refl) (λ u p ts h. h))
scalar_spelled Scalar.Int n few = number_spelled n few

-- a list with an index domain
listed : (es : ExprTrees) (d : DomainTree) → Respelled (λ (x : Twin placeless_trees es). SpellsList x.tree) (parted "," (all_words es)) → Respelled (λ (x : Twin placeless_domain d). SpellsDomain set_operations x.tree) (domain_words d)
    → SpellsWhole (literal somewhere es (over d))
unfolding SpellsNode expr_words placeless place_of own_level rank
listed es d parts domain =
    respelled_at implications (literal somewhere es (over d)) refl refl
    (respelled_node (literal somewhere es (over d))
    (respelled_then (respelled_word "[" literals.open_square) (respelled_then parts (respelled_then (respelled_then (respelled_word ";" literals.semicolon) domain) (respelled_word "]" literals.close_square))))
    (λ x p. literal p x.1.0.tree (over x.1.1.0.1.tree)) (λ x p. ap₂ (λ ps c. literal somewhere ps (over c)) x.1.0.same x.1.1.0.1.same) (λ x p. refl) (λ x p ts h. h))

mutual
  unfolding value_expr is_short_value SpellsNode expr_words placeless with_between

  pub value_spelled : (s : Scalar) (v : ValueTree) → is_short_value v ≡ true → SpellsWhole (value_expr s v)
  value_spelled s (single n) short = scalar_spelled s n short
  value_spelled s (matrix indices no_values) short =
      listed no_trees (indices_domain []) (respelled_as respelled_none (λ u. record { tree = no_trees; same = refl }) (λ u ts h. h)) (indices_spelled [] refl)
  value_spelled s (matrix indices (value_and v vs)) short =
      let parts = and_parts (list_all has_few_digits indices) _ short in
      let both = and_parts (is_short_value v) (are_short_values vs) parts.1 in
      listed (tree_and (value_expr s v) (value_exprs s vs)) (indices_domain indices)
      (respelled_words _ (joined_behind (word ",") (expr_words (value_expr s v)) (all_words (value_exprs s vs)))
      (respelled_as (respelled_then (value_spelled s v both.0) (values_spelled s vs both.1))
      (λ x. record { tree = tree_and x.0.tree x.1.tree; same = ap₂ tree_and x.0.same x.1.same }) (λ x ts h. h)))
      (indices_spelled indices parts.0)

  values_spelled : (s : Scalar) (vs : ValueTrees) → are_short_values vs ≡ true → Respelled (λ (x : Twin placeless_trees (value_exprs s vs)). SpellsMore x.tree) (behind (word ",") (all_words (value_exprs s vs)))
  values_spelled s no_values short = respelled_as respelled_none (λ u. record { tree = no_trees; same = refl }) (λ u ts h. h)
  values_spelled s (value_and v vs) short =
      let both = and_parts (is_short_value v) (are_short_values vs) short in
      respelled_as (respelled_then (respelled_word "," literals.comma) (respelled_then (value_spelled s v both.0) (values_spelled s vs both.1)))
      (λ x. record { tree = tree_and x.1.0.tree x.1.1.tree; same = ap₂ tree_and x.1.0.same x.1.1.same }) (λ x ts h. h)
