-- ListsTerms of parts: those of a literal, and those of a comprehension, one after another.
use Rattle.ep_unroll.proofs.Words.{◌≡◌, ℕ, suc, ◌+◌, ◌<◌, ◌≤◌, true, ℤ, List, [], ◌∷◌, ◌++◌, length, drop, get_or, Some, None, Ok, Err, refl, sym, ap, subst, ◌∙◌, rules, vec_len, append_assoc, ◌&&◌, ◌==◌, IfOk, Option, Result, if◌then◌else◌, map, option_map, append-nil, at_drop_all, at_drop_more, length-map, map-append, all_one, is_one, map_both, on_both, Name, Place, comprehension_is, lost_behind, none_before, none_behind, regrouped, values_name, indices_differ, indices_match, how_many, generated_values, lists_joined, part_value, part_where, some_joined, GroundNode, evaluate-literal, Env, scalar_in, with_number, all_true, domain_values, evaluate, index_values, matrix_value, number_in, truth_of, values_of, DomainTree, ExprTree, ExprTrees, Generators, IndexDomain, comprehension, generator_and, literal, is_number_of, ValueTree, all_defined, as_parts, matrix, with_indices, expr_tree, expr_trees, Expr, Mode, Scalar, Grows, AreTerms, Means, worth, ArePartsOf, HaveTerms, ListsTerms, MayHaveTerms, listed_worths, worths, Numbering, Reading, Unrolled}
use Rattle.std.specs.declared.alloc.Global.{Global}
use Rattle.std.specs.declared.vec.Vec.{Vec}
use Rattle.ep_unroll.proofs.CycleSteps.{within}
use Rattle.ep_unroll.proofs.FormValues.{grows_on}
use Rattle.ep_unroll.proofs.FreeValues.{scalar_kept}
use Rattle.ep_unroll.proofs.GrownParts.{have_both, have_kept, have_one, worths_kept}
use Rattle.ep_unroll.proofs.MeaningSteps.{grows_none}

-- ---- expressions one after another

-- parts so far, of expressions of which those behind a place are left
pub record KnownSoFar (n : Numbering) (cells : Env) (old mid : List GroundNode) (all : List Expr) (k : ℕ) (xs : List Unrolled) : Type 0 where
  pub grows : Grows old mid
  pub known : HaveTerms (length mid) xs
  pub values : (r : Reading n cells)
      → worths mid r.numbers xs ++ values_of n.mode r.values (expr_trees (drop k all)) ≡ values_of n.mode r.values (expr_trees all)

pub known_begin : (n : Numbering) (cells : Env) (old : List GroundNode) (all : List Expr) (xs : List Unrolled) → xs ≡ [] → KnownSoFar n cells old old all 0 xs
unfolding HaveTerms
known_begin n cells old all xs none = record {
  grows = grows_none old old refl;
  known = subst (HaveTerms (length old)) (sym none) tt;
  values = λ r. ap (λ ys. worths old r.numbers ys ++ values_of n.mode r.values (expr_trees all)) none;
}

values_cut : (mode : Mode) (env : Env) (x : Expr) (rest : List Expr) → values_of mode env (expr_trees (x ∷ rest)) ≡ evaluate mode env (expr_tree x) ∷ values_of mode env (expr_trees rest)
unfolding values_of expr_trees
values_cut mode env x rest = refl

values_end : (mode : Mode) (env : Env) → values_of mode env (expr_trees []) ≡ []
unfolding values_of expr_trees
values_end mode env = refl

pub known_more : (n : Numbering) (cells : Env) (old mid new : List GroundNode) (all : List Expr) (k : ℕ) (x d : Expr) (own : Unrolled) (xs ys : List Unrolled) → k < length all → x ≡ get_or all k d
    → KnownSoFar n cells old mid all k xs → Means n cells mid new (expr_tree x) own → ys ≡ xs ++ own ∷ [] → KnownSoFar n cells old new all (k + 1) ys
known_more n cells old mid new all k x d own xs ys less same so one pushed = record {
  grows = grows_on old mid new so.grows one.grows;
  known = subst (HaveTerms (length new)) (sym pushed) (have_both (length new) xs (own ∷ []) (have_kept mid new xs one.grows so.known) (have_one (length new) own one.known));
  values = λ r.
      let rest : List (Option ValueTree) = values_of n.mode r.values (expr_trees (drop (k + 1) all)) in
      let before : List (Option ValueTree) = worths mid r.numbers xs in
      ap (λ zs. worths new r.numbers zs ++ rest) pushed
      ∙ ap (λ zs. zs ++ rest) (map-append (worth new r.numbers) xs (own ∷ []) ∙ ap (λ zs. zs ++ worth new r.numbers own ∷ []) (worths_kept mid new r.numbers xs one.grows so.known))
      ∙ append_assoc before (worth new r.numbers own ∷ []) rest
      ∙ ap (λ v. before ++ v ∷ rest) (one.value r ∙ ap (λ y. evaluate n.mode r.values (expr_tree y)) same)
      ∙ ap (λ zs. before ++ zs) (sym (at_drop_more (λ zs. values_of n.mode r.values (expr_trees zs)) all k d less ∙ values_cut n.mode r.values (get_or all k d) (drop (k + 1) all)))
      ∙ so.values r;
}

pub known_all : (n : Numbering) (cells : Env) (old mid : List GroundNode) (all : List Expr) (k : ℕ) (xs : List Unrolled) → length all ≤ k → KnownSoFar n cells old mid all k xs
    → ArePartsOf n cells old mid (expr_trees all) xs
known_all n cells old mid all k xs less so = record {
  grows = so.grows;
  known = so.known;
  values = λ r.
      sym (append-nil (worths mid r.numbers xs))
      ∙ ap (λ zs. worths mid r.numbers xs ++ zs) (sym (at_drop_all (λ zs. values_of n.mode r.values (expr_trees zs)) all k less ∙ values_end n.mode r.values))
      ∙ so.values r;
}

-- ---- a matrix of its parts

pub if_both : {A E : Type 0} (r : Result A E) (P Q R : A → Type 0) → ((x : A) → P x → Q x → R x) → IfOk r P → IfOk r Q → IfOk r R
if_both (Ok x) P Q R f h k = f x h k
if_both (Err e) P Q R f h k = h

no_list : {A B : Type 0} (o : Option A) (f : A → B → Option ValueTree) → on_both o None f ≡ None
unfolding on_both
no_list None f = refl
no_list (Some x) f = refl

pub no_indices : {A B : Type 0} (o : Option B) (f : A → B → Option ValueTree) → on_both None o f ≡ None
unfolding on_both
no_indices o f = refl

long_of : {A : Type 0} → Option (List A) → ℕ
long_of None = 0
long_of (Some us) = length us

pub defined_long : {A : Type 0} (vs : List (Option A)) (ws : List A) → all_defined vs ≡ Some ws → length ws ≡ length vs
unfolding all_defined long_of
defined_long [] ws h = sym (ap long_of h)
defined_long (None ∷ vs) ws h = absurd cc
defined_long {A} (Some v ∷ vs) ws h = by (all_defined vs) refl h (defined_long vs)
  where
    by : (o : Option (List A)) → all_defined vs ≡ o → option_map (λ us. v ∷ us) o ≡ Some ws
        → ((us : List A) → all_defined vs ≡ Some us → length us ≡ length vs) → length ws ≡ suc (length vs)
    by None e k next = absurd cc
    by (Some us) e k next = sym (ap long_of k) ∙ ap suc (next us e)

pub matrix_made : (set own : List ℤ) (vs : List (Option ValueTree)) (count : ℕ) → count ≡ length vs → Some own ≡ (if length set == count then Some set else None)
    → option_map (λ ws. matrix own (as_parts ws)) (all_defined vs) ≡ on_both (Some set) (all_defined vs) with_indices
unfolding on_both
matrix_made set own vs count many told = by (all_defined vs) refl
  where
    by : (o : Option (List ValueTree)) → all_defined vs ≡ o → option_map (λ ws. matrix own (as_parts ws)) o ≡ on_both (Some set) o with_indices
    by None e = refl
    by (Some ws) e = indices_match set ws own count (many ∙ sym (defined_long vs ws e)) told

pub matrix_lost : (set : List ℤ) (vs : List (Option ValueTree)) (count : ℕ) → count ≡ length vs → None ≡ (if length set == count then Some set else None)
    → None ≡ on_both (Some set) (all_defined vs) with_indices
unfolding on_both
matrix_lost set vs count many told = by (all_defined vs) refl
  where
    by : (o : Option (List ValueTree)) → all_defined vs ≡ o → None ≡ on_both (Some set) o with_indices
    by None e = refl
    by (Some ws) e = indices_differ set ws count (many ∙ sym (defined_long vs ws e)) told

pub parts_counted : (v : Vec Unrolled Global) → vec_len v ≡ length v.items
parts_counted v = search rules

-- a list of expressions
pub literal_means : (n : Numbering) (env : Env) (old new : List GroundNode) (p : Place) (es : ExprTrees) (d : IndexDomain) (xs : List Unrolled) (x : Unrolled)
    → ArePartsOf n env old new es xs
    → ((r : Reading n env) → worth new r.numbers x ≡ on_both (index_values n.mode r.values d (length xs)) (all_defined (worths new r.numbers xs)) with_indices)
    → AreTerms (length new) x → Means n env old new (literal p es d) x
unfolding matrix_value
literal_means n env old new p es d xs x h is known = record {
  grows = h.grows;
  known = known;
  value = λ r.
      is r
      ∙ ap (λ k. on_both (index_values n.mode r.values d k) (all_defined (worths new r.numbers xs)) with_indices) (sym (length-map xs (worth new r.numbers)))
      ∙ ap (λ vs. on_both (index_values n.mode r.values d (length vs)) (all_defined vs) with_indices) (h.values r)
      ∙ sym (evaluate-literal n.mode r.values p es d);
}

-- ---- the parts of a comprehension

-- what other parts there are
pub lists_same : (n : Numbering) (cells : Env) (old new : List GroundNode) (before after : Option (List Unrolled)) (values other : Env → Option (List ValueTree))
    → ((r : Reading n cells) → values r.values ≡ other r.values) → ListsTerms n cells old new before after values → ListsTerms n cells old new before after other
lists_same n cells old new before after values other same h = record {
  grows = h.grows;
  known = h.known;
  values = λ known r. h.values known r ∙ ap (map_both ◌++◌ (listed_worths old r.numbers before)) (same r);
}

-- no parts more
pub lists_none : (n : Numbering) (cells : Env) (old : List GroundNode) (before after : Option (List Unrolled)) (values : Env → Option (List ValueTree)) → after ≡ before
    → ((r : Reading n cells) → values r.values ≡ Some []) → ListsTerms n cells old old before after values
lists_none n cells old before after values same none = record {
  grows = grows_none old old refl;
  known = λ known. subst (MayHaveTerms (length old)) (sym same) known;
  values = λ known r.
      ap (listed_worths old r.numbers) same ∙ sym (none_behind (listed_worths old r.numbers before)) ∙ ap (map_both ◌++◌ (listed_worths old r.numbers before)) (sym (none r));
}

-- no parts at all
pub lists_lost : (n : Numbering) (cells : Env) (old : List GroundNode) (before after : Option (List Unrolled)) (values : Env → Option (List ValueTree)) → after ≡ None
    → ((r : Reading n cells) → values r.values ≡ None) → ListsTerms n cells old old before after values
unfolding MayHaveTerms listed_worths
lists_lost n cells old before after values same none = record {
  grows = grows_none old old refl;
  known = λ known. subst (MayHaveTerms (length old)) (sym same) tt;
  values = λ known r.
      ap (listed_worths old r.numbers) same ∙ lost_behind (listed_worths old r.numbers before) ∙ ap (map_both ◌++◌ (listed_worths old r.numbers before)) (sym (none r));
}

defined_cut : (vs : List (Option ValueTree)) (v : Option ValueTree) → all_defined (vs ++ v ∷ []) ≡ map_both ◌++◌ (all_defined vs) (option_map (λ x. x ∷ []) v)
unfolding all_defined map_both
defined_cut [] None = refl
defined_cut [] (Some x) = refl
defined_cut (None ∷ vs) v = refl
defined_cut (Some w ∷ vs) v = ap (option_map (λ ys. w ∷ ys)) (defined_cut vs v) ∙ by (all_defined vs) (option_map (λ x. x ∷ []) v)
  where
    by : (a b : Option (List ValueTree)) → option_map (λ ys. w ∷ ys) (map_both ◌++◌ a b) ≡ map_both ◌++◌ (option_map (λ ys. w ∷ ys) a) b
    by None b = refl
    by (Some xs) None = refl
    by (Some xs) (Some ys) = refl

-- one part more
pub lists_one : (n : Numbering) (cells : Env) (old new : List GroundNode) (before after : Option (List Unrolled)) (e : ExprTree) (x : Unrolled) (values : Env → Option (List ValueTree))
    → Means n cells old new e x → after ≡ option_map (λ all. all ++ x ∷ []) before
    → ((r : Reading n cells) → values r.values ≡ option_map (λ v. v ∷ []) (evaluate n.mode r.values e)) → ListsTerms n cells old new before after values
unfolding MayHaveTerms listed_worths map_both
lists_one n cells old new before after e x values h pushed own = record {
  grows = h.grows;
  known = λ known. subst (MayHaveTerms (length new)) (sym pushed) (more before known);
  values = λ known r. ap (listed_worths new r.numbers) pushed ∙ whole r before known ∙ ap (map_both ◌++◌ (listed_worths old r.numbers before)) (sym (own r));
}
  where
    more : (o : Option (List Unrolled)) → MayHaveTerms (length old) o → MayHaveTerms (length new) (option_map (λ all. all ++ x ∷ []) o)
    more None known = tt
    more (Some xs) known = have_both (length new) xs (x ∷ []) (have_kept old new xs h.grows known) (have_one (length new) x h.known)

    whole : (r : Reading n cells) (o : Option (List Unrolled)) → MayHaveTerms (length old) o
        → listed_worths new r.numbers (option_map (λ all. all ++ x ∷ []) o) ≡ map_both ◌++◌ (listed_worths old r.numbers o) (option_map (λ v. v ∷ []) (evaluate n.mode r.values e))
    whole r None known = refl
    whole r (Some xs) known =
        ap all_defined (map-append (worth new r.numbers) xs (x ∷ []) ∙ ap (λ vs. vs ++ worth new r.numbers x ∷ []) (worths_kept old new r.numbers xs h.grows known))
        ∙ defined_cut (worths old r.numbers xs) (worth new r.numbers x)
        ∙ ap (λ v. map_both ◌++◌ (all_defined (worths old r.numbers xs)) (option_map (λ y. y ∷ []) v)) (h.value r)

-- the part where conditions hold
pub lists_where : (n : Numbering) (cells : Env) (old new : List GroundNode) (before after : Option (List Unrolled)) (e : ExprTree) (conditions : ExprTrees) (x : Unrolled)
    → Means n cells old new e x → after ≡ option_map (λ all. all ++ x ∷ []) before
    → ((r : Reading n cells) → all_true (values_of n.mode r.values conditions) ≡ Some true) → ListsTerms n cells old new before after (part_value n.mode e conditions)
unfolding part_value part_where
lists_where n cells old new before after e conditions x h pushed hold =
    lists_one n cells old new before after e x (part_value n.mode e conditions) h pushed (λ r. ap (λ o. part_where o (evaluate n.mode r.values e)) (hold r))

-- ---- one number after another

-- parts for some numbers, of which others are left
pub record ListsSoFar (n : Numbering) (cells : Env) (old mid : List GroundNode) (first now : Option (List Unrolled)) (at : Env → ℤ → Option (List ValueTree)) (numbers left : List ℤ) : Type 0 where
  pub grows : Grows old mid
  pub known : MayHaveTerms (length old) first → MayHaveTerms (length mid) now
  pub values : MayHaveTerms (length old) first → (r : Reading n cells)
      → map_both ◌++◌ (listed_worths mid r.numbers now) (lists_joined (map (at r.values) left)) ≡ map_both ◌++◌ (listed_worths old r.numbers first) (lists_joined (map (at r.values) numbers))

pub lists_begin : (n : Numbering) (cells : Env) (old : List GroundNode) (first : Option (List Unrolled)) (at : Env → ℤ → Option (List ValueTree)) (numbers left : List ℤ) → left ≡ numbers
    → ListsSoFar n cells old old first first at numbers left
lists_begin n cells old first at numbers left same = record {
  grows = grows_none old old refl;
  known = λ known. known;
  values = λ known r. ap (λ l. map_both ◌++◌ (listed_worths old r.numbers first) (lists_joined (map (at r.values) l))) same;
}

pub lists_more : (n : Numbering) (cells : Env) (old mid new : List GroundNode) (first now after : Option (List Unrolled)) (at : Env → ℤ → Option (List ValueTree)) (numbers left behind : List ℤ)
    (name : Name) (s : Scalar) (d : DomainTree) (k : ℤ) (own : Env → Option (List ValueTree))
    → ListsSoFar n cells old mid first now at numbers left → left ≡ k ∷ behind → s ≡ scalar_in cells d → (Reading n cells → is_number_of s k ≡ true)
    → ListsTerms n (with_number name s k cells) mid new now after own
    → ((env : Env) → at env k ≡ own (with_number name (scalar_in env d) k env))
    → ListsSoFar n cells old new first after at numbers behind
unfolding lists_joined within
lists_more n cells old mid new first now after at numbers left behind name s d k own so cut scalar typed one is = record {
  grows = grows_on old mid new so.grows one.grows;
  known = λ known. one.known (so.known known);
  values = λ known r.
      let rest : Option (List ValueTree) = lists_joined (map (at r.values) behind) in
      let inner : Reading n (with_number name s k cells) = within n cells name s k (typed r) r in
      ap (λ o. map_both ◌++◌ o rest) (one.values (so.known known) inner)
      ∙ ap (λ x. map_both ◌++◌ (map_both ◌++◌ (listed_worths mid r.numbers now) (own (with_number name x k r.values))) rest) (scalar ∙ scalar_kept cells r.values d r.reads.agree)
      ∙ ap (λ o. map_both ◌++◌ (map_both ◌++◌ (listed_worths mid r.numbers now) o) rest) (sym (is r.values))
      ∙ sym (regrouped (listed_worths mid r.numbers now) (at r.values k) rest)
      ∙ ap (λ l. map_both ◌++◌ (listed_worths mid r.numbers now) (lists_joined (map (at r.values) l))) (sym cut)
      ∙ so.values known r;
}

pub lists_all : (n : Numbering) (cells : Env) (old mid : List GroundNode) (first now : Option (List Unrolled)) (at : Env → ℤ → Option (List ValueTree)) (numbers left : List ℤ)
    → ListsSoFar n cells old mid first now at numbers left → left ≡ [] → ListsTerms n cells old mid first now (λ env. lists_joined (map (at env) numbers))
unfolding lists_joined
lists_all n cells old mid first now at numbers left so none = record {
  grows = so.grows;
  known = so.known;
  values = λ known r.
      sym (ap (λ l. map_both ◌++◌ (listed_worths mid r.numbers now) (lists_joined (map (at r.values) l))) none ∙ none_behind (listed_worths mid r.numbers now))
      ∙ so.values known r;
}

-- ---- the comprehension

listed_is : (n : Numbering) (cells : Env) (old new : List GroundNode) (after : Option (List Unrolled)) (values : Env → Option (List ValueTree)) → ListsTerms n cells old new (Some []) after values
    → (r : Reading n cells) → listed_worths new r.numbers after ≡ values r.values
unfolding MayHaveTerms HaveTerms listed_worths all_defined
listed_is n cells old new after values h r = h.values tt r ∙ sym (none_before (values r.values))

counted_values : (mode : Mode) (env : Env) (p : Place) (e : ExprTree) (gens : Generators) (conditions : ExprTrees) (d : IndexDomain) (vs : List (Option ValueTree)) (count : ℕ) → count ≡ length vs
    → all_defined vs ≡ generated_values mode e conditions gens env
    → on_both (index_values mode env d count) (all_defined vs) with_indices ≡ evaluate mode env (comprehension p e gens conditions d)
unfolding how_many
counted_values mode env p e gens conditions d vs count many told = by (all_defined vs) refl
  where
    by : (o : Option (List ValueTree)) → all_defined vs ≡ o → on_both (index_values mode env d count) (all_defined vs) with_indices ≡ evaluate mode env (comprehension p e gens conditions d)
    by None is =
        ap (λ x. on_both (index_values mode env d count) x with_indices) is ∙ no_list (index_values mode env d count) with_indices ∙ sym (no_list (index_values mode env d 0) with_indices)
        ∙ sym (comprehension_is mode env p e gens conditions d (index_values mode env d 0) None 0 (sym is ∙ told) refl refl)
    by (Some ws) is =
        ap (λ x. on_both (index_values mode env d count) x with_indices) is
        ∙ sym (comprehension_is mode env p e gens conditions d (index_values mode env d count) (Some ws) count (sym is ∙ told) (many ∙ sym (defined_long vs ws is)) refl)

pub comprehension_some : (n : Numbering) (env : Env) (old new : List GroundNode) (p : Place) (e : ExprTree) (gens : Generators) (conditions : ExprTrees) (d : IndexDomain) (after : Option (List Unrolled)) (xs : List Unrolled) (x : Unrolled)
    → ListsTerms n env old new (Some []) after (λ values. generated_values n.mode e conditions gens values) → after ≡ Some xs
    → ((r : Reading n env) → worth new r.numbers x ≡ on_both (index_values n.mode r.values d (length xs)) (all_defined (worths new r.numbers xs)) with_indices)
    → (HaveTerms (length new) xs → AreTerms (length new) x) → Means n env old new (comprehension p e gens conditions d) x
unfolding MayHaveTerms HaveTerms listed_worths
comprehension_some n env old new p e gens conditions d after xs x h some is terms = record {
  grows = h.grows;
  known = terms (subst (MayHaveTerms (length new)) some (h.known tt));
  value = λ r.
      is r
      ∙ counted_values n.mode r.values p e gens conditions d (worths new r.numbers xs) (length xs) (sym (length-map xs (worth new r.numbers)))
      (ap (listed_worths new r.numbers) (sym some) ∙ listed_is n env old new after (λ values. generated_values n.mode e conditions gens values) h r);
}

pub comprehension_none : (n : Numbering) (env : Env) (old new : List GroundNode) (p : Place) (e : ExprTree) (gens : Generators) (conditions : ExprTrees) (d : IndexDomain) (after : Option (List Unrolled)) (x : Unrolled)
    → ListsTerms n env old new (Some []) after (λ values. generated_values n.mode e conditions gens values) → after ≡ None
    → ((numbers : List ℤ) → worth new numbers x ≡ None) → AreTerms (length new) x → Means n env old new (comprehension p e gens conditions d) x
unfolding how_many listed_worths
comprehension_none n env old new p e gens conditions d after x h none is known = record {
  grows = h.grows;
  known = known;
  value = λ r.
      is r.numbers ∙ sym (no_list (index_values n.mode r.values d 0) with_indices)
      ∙ sym (comprehension_is n.mode r.values p e gens conditions d (index_values n.mode r.values d 0) None 0
      (ap (listed_worths new r.numbers) (sym none) ∙ listed_is n env old new after (λ values. generated_values n.mode e conditions gens values) h r) refl refl);
}

-- ---- conditions

truth_cut : (o : Option ℤ) (os : List (Option ℤ)) → option_map all_one (all_defined (o ∷ os)) ≡ map_both ◌&&◌ (option_map is_one o) (option_map all_one (all_defined os))
unfolding all_defined map_both all_one
truth_cut None os = refl
truth_cut (Some x) os = by (all_defined os)
  where
    by : (l : Option (List ℤ)) → option_map all_one (option_map (λ ys. x ∷ ys) l) ≡ map_both ◌&&◌ (Some (is_one x)) (option_map all_one l)
    by None = refl
    by (Some xs) = refl

-- whether a condition and others are all true
pub truths_cut : (mode : Mode) (env : Env) (all : List Expr) (x : Expr) (rest : List Expr) → all ≡ x ∷ rest
    → all_true (values_of mode env (expr_trees all)) ≡ map_both ◌&&◌ (truth_of (evaluate mode env (expr_tree x))) (all_true (values_of mode env (expr_trees rest)))
unfolding all_true
truths_cut mode env all x rest cut =
    ap (λ xs. all_true (values_of mode env (expr_trees xs))) cut ∙ ap all_true (values_cut mode env x rest)
    ∙ truth_cut (number_in (evaluate mode env (expr_tree x))) (map number_in (values_of mode env (expr_trees rest)))

pub no_truths : (mode : Mode) (env : Env) (all : List Expr) → all ≡ [] → all_true (values_of mode env (expr_trees all)) ≡ Some true
unfolding all_true all_defined all_one
no_truths mode env all none = ap (λ xs. all_true (values_of mode env (expr_trees xs))) none ∙ ap all_true (values_end mode env)

-- ---- a name over a domain

abbrev ranged : Mode → ExprTree → ExprTrees → Name → List Name → DomainTree → Generators → Env → ℤ → Option (List ValueTree)
ranged mode e conditions name names d gens env n = generated_values mode e conditions (generator_and names d gens) (with_number name (scalar_in env d) n env)

-- its parts, where the domain has values
pub values_some :
    (mode : Mode) (e : ExprTree) (conditions : ExprTrees) (name : Name) (names : List Name) (d : DomainTree) (gens : Generators) (env : Env) (ns : List ℤ)
    → domain_values mode env d ≡ Some ns
    → generated_values mode e conditions (generator_and (name ∷ names) d gens) env
    ≡ lists_joined (map (λ n. generated_values mode e conditions (generator_and names d gens) (with_number name (scalar_in env d) n env)) ns)
unfolding some_joined
values_some mode e conditions name names d gens env ns h =
    values_name mode e conditions name names d gens env ∙ ap (λ o. some_joined (option_map (map (ranged mode e conditions name names d gens env)) o)) h

-- none, where it has none
pub values_none : (mode : Mode) (e : ExprTree) (conditions : ExprTrees) (name : Name) (names : List Name) (d : DomainTree) (gens : Generators) (env : Env)
    → domain_values mode env d ≡ None → generated_values mode e conditions (generator_and (name ∷ names) d gens) env ≡ None
unfolding some_joined
values_none mode e conditions name names d gens env h =
    values_name mode e conditions name names d gens env ∙ ap (λ o. some_joined (option_map (map (ranged mode e conditions name names d gens env)) o)) h
