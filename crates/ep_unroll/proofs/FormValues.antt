-- The terms of forms whose parts are numbers.
use Rattle.ep_unroll.proofs.Words.{◌≡◌, ℕ, suc, ◌+◌, ◌<◌, ◌≤◌, Bool, true, false, ℤ, pos, negsuc, List, [], ◌∷◌, ◌++◌, length, Some, None, refl, sym, ap, subst, ◌∙◌, arith, Ok, Err, append_assoc, Option, Result, IfOk, IsSome, is_some, map, not, ◌||◌, ◌*ℤ◌, ◌+ℤ◌, neg_ℤ, option_map, option_and_then, All, ints, length-append, absolute_of, all_one, any_one, compare_holds, greatest_of, has_number, is_one, least_of, of_bool, sum_of, map_both, on_both, all_there, weighted_sum, CompareOp, Place, value_more, GroundNode, evaluate-absolute, evaluate-all_of, evaluate-any_of, evaluate-binary, evaluate-compare, evaluate-in_domain, evaluate-minus, evaluate-negation, Env, all_numbers, all_true, any_true, binary_number, binary_value, domain_values, joins_truths, undefined_truth, evaluate, number_in, number_value, truth_in, values_of, DomainTree, ExprTree, ExprTrees, absolute, binary, compare, in_domain, minus, negation, ValueTree, all_defined, single, BinaryOp, Mode, Grows, Puts, AreNumbersOf, IsNumberOf, IsTermOf, ArePartial, HasNumber, numbers_of_terms, only_where, Numbering, Reading, IsJudged, needed_in}
use Rattle.ep_base.specs.Numbers as numbers
use Rattle.ep_ground.specs.Nodes as node
use Rattle.ep_ground.specs.Terms as ground
use Rattle.ep_ground.specs.Terms.{node_value, term_value, weighed, truth as ground_truth}
use Rattle.ep_tree.specs.Trees.{all_of, any_of}
use Rattle.ep_unroll.proofs.TruthSteps.{IsToldBy, list_there, one_there, told_both, told_value, two_there, untold}

-- ---- nodes that grow

pub grows_on : (a b c : List GroundNode) → Grows a b → Grows b c → Grows a c
grows_on a b c g h = record { more = g.more ++ h.more; whole = h.whole ∙ ap (λ xs. xs ++ h.more) g.whole ∙ append_assoc a g.more h.more }

pub grows_long : (a b : List GroundNode) (t : ℕ) → Grows a b → t < length a → t < length b
grows_long a b t g h =
    let e : length b ≡ length a + length g.more = ap length g.whole ∙ length-append a g.more in omega (arith, e, h)

-- a term keeps its value
pub grown_value : (a b : List GroundNode) (numbers : List ℤ) (t : ℕ) → Grows a b → t < length a → term_value b numbers t ≡ term_value a numbers t
grown_value a b numbers t g h = ap (λ ns. term_value ns numbers t) g.whole ∙ value_more a g.more numbers t h

pub if_ok : {A E : Type 0} (r : Result A E) (P Q : A → Type 0) → ((x : A) → P x → Q x) → IfOk r P → IfOk r Q
if_ok (Ok x) P Q f h = f x h
if_ok (Err e) P Q f h = h

pub if_both : {A E : Type 0} (r : Result A E) (P Q R : A → Type 0) → ((x : A) → P x → Q x → R x) → IfOk r P → IfOk r Q → IfOk r R
if_both (Err e) P Q R h p q = p
if_both (Ok x) P Q R h p q = h x p q

-- the term of a part, with more nodes
pub number_grown : (n : Numbering) (cells : Env) (nodes mid new : List GroundNode) (e : ExprTree) (t : ℕ)
    → Grows mid new → IsNumberOf n cells nodes mid e t → IsNumberOf n cells nodes new e t
number_grown n cells nodes mid new e t g h = record {
  grows = grows_on nodes mid new h.grows g;
  known = grows_long mid new t g h.known;
  number = λ r. grown_value mid new r.numbers t g h.known ∙ h.number r;
}

pub values_stay : (mid new : List GroundNode) (numbers : List ℤ) (us : List ℕ) → Grows mid new → All (λ t. t < length mid) us
    → map (term_value new numbers) us ≡ map (term_value mid numbers) us
values_stay mid new numbers [] g known = refl
values_stay mid new numbers (u ∷ us) g known =
    ap (λ x. x ∷ map (term_value new numbers) us) (grown_value mid new numbers u g (known 0 u (omega arith)))
    ∙ ap (λ xs. term_value mid numbers u ∷ xs) (values_stay mid new numbers us g (λ k d less. known (suc k) d (omega (arith, less))))

pub numbers_grown : (n : Numbering) (cells : Env) (nodes mid new : List GroundNode) (es : ExprTrees) (ts : List ℕ)
    → Grows mid new → AreNumbersOf n cells nodes mid es ts → AreNumbersOf n cells nodes new es ts
numbers_grown n cells nodes mid new es ts g h = record {
  grows = grows_on nodes mid new h.grows g;
  known = λ k d less. grows_long mid new _ g (h.known k d less);
  numbers = λ r. values_stay mid new r.numbers ts g h.known ∙ h.numbers r;
}

-- ---- truth values

-- what a node that says a truth value makes of it, where the parts that it needs have values
pub truth_told : (n : Numbering) (cells : Env) (nodes mid new : List GroundNode) (tree : ExprTree) (ts us : List ℕ) (t : ℕ) (own : GroundNode) (f : Reading n cells → Option Bool)
    → Grows nodes mid → ArePartial mid n.count (needed_in n.mode ts) us → (j : IsJudged mid new own us t)
    → ((r : Reading n cells) → evaluate n.mode r.values tree ≡ truth_in n.mode (f r))
    → ((r : Reading n cells) → IsToldBy n.mode (f r) (term_value j.between r.numbers j.own))
    → ((r : Reading n cells) → is_some (all_there (map (term_value mid r.numbers) ts)) ≡ is_some (f r))
    → IsTermOf n cells nodes new tree t
truth_told n cells nodes mid new tree ts us t own f g needed j one told there = record {
  grows = grows_on nodes mid new g (grows_on mid j.between new j.puts.grows j.whole.grows);
  known = j.whole.known;
  value = λ r.
      one r
      ∙ told_value n.mode (term_value mid r.numbers) ts (f r) (term_value j.between r.numbers j.own) (numbers_of_terms mid r.numbers us)
      (needed.values r.numbers r.reads.long) (told r) (there r)
      ∙ ap (λ l. option_map single (only_where l (term_value j.between r.numbers j.own))) (sym (ap all_there (values_stay mid j.between r.numbers us j.puts.grows needed.known)))
      ∙ ap (option_map single) (sym (j.whole.value r.numbers));
}

-- what its parts need, in the mode and with the number of cells that a reading has
pub asked : (n : Numbering) (nodes : List GroundNode) (count : ℕ) (mode : Mode) (ts us : List ℕ) → n.mode ≡ mode → n.count ≡ count
    → ArePartial nodes count (needed_in mode ts) us → ArePartial nodes n.count (needed_in n.mode ts) us
asked n nodes count mode ts us is counted h =
    subst (λ k. ArePartial nodes k (needed_in n.mode ts) us) (sym counted) (subst (λ m. ArePartial nodes count (needed_in m ts) us) (sym is) h)

-- the same of parts that are equal
pub asked_of : (n : Numbering) (nodes : List GroundNode) (count : ℕ) (mode : Mode) (ts' ts us : List ℕ) → ts' ≡ ts → n.mode ≡ mode → n.count ≡ count
    → ArePartial nodes count (needed_in mode ts') us → ArePartial nodes n.count (needed_in n.mode ts) us
asked_of n nodes count mode ts' ts us same is counted h = asked n nodes count mode ts us is counted (subst (λ l. ArePartial nodes count (needed_in mode l) us) same h)

-- what has no truth value
pub untold_is : (n : Numbering) (cells : Env) (nodes mid new : List GroundNode) (tree : ExprTree) (mode : Mode) (t : ℕ) → n.mode ≡ mode → Grows nodes mid
    → ((r : Reading n cells) → evaluate n.mode r.values tree ≡ truth_in n.mode None) → HasNumber mid new (λ numbers. number_in (undefined_truth mode)) t
    → IsTermOf n cells nodes new tree t
untold_is n cells nodes mid new tree mode t is g none own = record {
  grows = grows_on nodes mid new g own.grows;
  known = own.known;
  value = λ r. none r ∙ untold n.mode ∙ ap (λ m. option_map single (number_in (undefined_truth m))) is ∙ ap (option_map single) (sym (own.value r.numbers));
}

-- a truth value told of one part's number
pub one_truth : (n : Numbering) (cells : Env) (nodes mid new : List GroundNode) (e tree : ExprTree) (a t : ℕ) (us : List ℕ) (own : GroundNode) (k : ℤ → Bool)
    → ((r : Reading n cells) → evaluate n.mode r.values tree ≡ truth_in n.mode (option_map k (number_in (evaluate n.mode r.values e))))
    → ((numbers : List ℤ) (value : ℕ → Option ℤ) → node_value numbers value own ≡ ground_truth (option_map k (value a)))
    → IsNumberOf n cells nodes mid e a → ArePartial mid n.count (needed_in n.mode (a ∷ [])) us → IsJudged mid new own us t → IsTermOf n cells nodes new tree t
one_truth n cells nodes mid new e tree a t us own k one other h needed j =
    truth_told n cells nodes mid new tree (a ∷ []) us t own (λ r. option_map k (number_in (evaluate n.mode r.values e))) h.grows needed j one
    (λ r. told_both n.mode (option_map k (number_in (evaluate n.mode r.values e))) (term_value j.between r.numbers j.own)
    (j.puts.value r.numbers ∙ other r.numbers (term_value j.between r.numbers)
    ∙ ap (λ o. ground_truth (option_map k o)) ((number_grown n cells nodes mid j.between e a j.puts.grows h).number r)))
    (λ r. one_there k (term_value mid r.numbers a) ∙ ap (λ o. is_some (option_map k o)) (h.number r))

pub both_same : {A B C : Type 0} (f : A → B → C) (a : Option A) (b : Option B) → map_both f a b ≡ on_both a b (λ x y. Some (f x y))
unfolding map_both on_both
both_same f None b = refl
both_same f (Some x) None = refl
both_same f (Some x) (Some y) = refl

-- and of those of two
pub two_truth : (n : Numbering) (cells : Env) (nodes mid new : List GroundNode) (e e' tree : ExprTree) (a b t : ℕ) (us : List ℕ) (own : GroundNode) (k : ℤ → ℤ → Bool)
    → ((r : Reading n cells) → evaluate n.mode r.values tree ≡ truth_in n.mode (map_both k (number_in (evaluate n.mode r.values e)) (number_in (evaluate n.mode r.values e'))))
    → ((numbers : List ℤ) (value : ℕ → Option ℤ) → node_value numbers value own ≡ ground_truth (on_both (value a) (value b) (λ x y. Some (k x y))))
    → IsNumberOf n cells nodes mid e a → IsNumberOf n cells nodes mid e' b → ArePartial mid n.count (needed_in n.mode (a ∷ b ∷ [])) us → IsJudged mid new own us t
    → IsTermOf n cells nodes new tree t
two_truth n cells nodes mid new e e' tree a b t us own k one other h h' needed j =
    truth_told n cells nodes mid new tree (a ∷ b ∷ []) us t own (λ r. map_both k (number_in (evaluate n.mode r.values e)) (number_in (evaluate n.mode r.values e'))) h.grows needed j one
    (λ r. told_both n.mode (map_both k (number_in (evaluate n.mode r.values e)) (number_in (evaluate n.mode r.values e'))) (term_value j.between r.numbers j.own)
    (j.puts.value r.numbers ∙ other r.numbers (term_value j.between r.numbers)
    ∙ ap (λ o. ground_truth (on_both o (term_value j.between r.numbers b) (λ x y. Some (k x y)))) ((number_grown n cells nodes mid j.between e a j.puts.grows h).number r)
    ∙ ap (λ o. ground_truth (on_both (number_in (evaluate n.mode r.values e)) o (λ x y. Some (k x y)))) ((number_grown n cells nodes mid j.between e' b j.puts.grows h').number r)
    ∙ ap ground_truth (sym (both_same k (number_in (evaluate n.mode r.values e)) (number_in (evaluate n.mode r.values e'))))))
    (λ r. two_there k (term_value mid r.numbers a) (term_value mid r.numbers b)
    ∙ ap (λ o. is_some (map_both k o (term_value mid r.numbers b))) (h.number r) ∙ ap (λ o. is_some (map_both k (number_in (evaluate n.mode r.values e)) o)) (h'.number r))

-- ---- one part

-- a node of one part, by what it is of the part's number
pub one_form : (n : Numbering) (cells : Env) (nodes mid new : List GroundNode) (e tree : ExprTree) (a t : ℕ) (own : GroundNode) (f : Option ℤ → Option ValueTree) (g : Option ℤ → Option ℤ)
    → ((values : Env) → evaluate n.mode values tree ≡ f (number_in (evaluate n.mode values e)))
    → ((numbers : List ℤ) (value : ℕ → Option ℤ) → node_value numbers value own ≡ g (value a))
    → ((o : Option ℤ) → f o ≡ option_map single (g o))
    → IsNumberOf n cells nodes mid e a → Puts mid new own t → IsTermOf n cells nodes new tree t
one_form n cells nodes mid new e tree a t own f g one other same h put = record {
  grows = grows_on nodes mid new h.grows put.grows;
  known = put.known;
  value = λ r.
      one r.values ∙ same (number_in (evaluate n.mode r.values e))
      ∙ ap (λ o. option_map single (g o)) (sym ((number_grown n cells nodes mid new e a put.grows h).number r))
      ∙ ap (option_map single) (sym (put.value r.numbers ∙ other r.numbers (term_value new r.numbers)));
}

not_mapped : (o : Option ℤ) → option_map not (option_map is_one o) ≡ option_map (λ x. not (is_one x)) o
not_mapped None = refl
not_mapped (Some x) = refl

pub not_term : (n : Numbering) (cells : Env) (nodes mid new : List GroundNode) (p : Place) (e : ExprTree) (a t : ℕ) (us : List ℕ)
    → IsNumberOf n cells nodes mid e a → ArePartial mid n.count (needed_in n.mode (a ∷ [])) us → IsJudged mid new (node.negation a) us t → IsTermOf n cells nodes new (negation p e) t
unfolding node_value
not_term n cells nodes mid new p e a t us =
    one_truth n cells nodes mid new e (negation p e) a t us (node.negation a) (λ x. not (is_one x))
    (λ r. evaluate-negation n.mode r.values p e ∙ ap (truth_in n.mode) (not_mapped (number_in (evaluate n.mode r.values e)))) (λ numbers value. refl)

pub absolute_term : (n : Numbering) (cells : Env) (nodes mid new : List GroundNode) (p : Place) (e : ExprTree) (a t : ℕ)
    → IsNumberOf n cells nodes mid e a → Puts mid new (node.absolute a) t → IsTermOf n cells nodes new (absolute p e) t
unfolding node_value
absolute_term n cells nodes mid new p e a t =
    one_form n cells nodes mid new e (absolute p e) a t (node.absolute a) (λ o. number_value (option_map absolute_of o)) (option_map absolute_of)
    (λ values. evaluate-absolute n.mode values p e) (λ numbers value. refl) (λ o. refl)

same_minus : (o : Option ℤ)
    → number_value (option_map neg_ℤ o)
    ≡ option_map single (option_map (λ ps. pos 0 +ℤ weighted_sum ps) (on_both o (Some []) (λ x rest. Some ((negsuc 0, x) ∷ rest))))
unfolding on_both weighted_sum sum_of
same_minus None = refl
same_minus (Some x) = ap (λ y. Some (single y)) (minus_one x)
  where
    minus_one : (y : ℤ) → neg_ℤ y ≡ pos 0 +ℤ ((negsuc 0 *ℤ y) +ℤ pos 0)
    minus_one y = omega (arith, ints)

pub minus_term : (n : Numbering) (cells : Env) (nodes mid new : List GroundNode) (p : Place) (e : ExprTree) (a t : ℕ)
    → IsNumberOf n cells nodes mid e a → Puts mid new (node.sum (pos 0) ((negsuc 0, a) ∷ [])) t → IsTermOf n cells nodes new (minus p e) t
unfolding node_value weighed
minus_term n cells nodes mid new p e a t =
    one_form n cells nodes mid new e (minus p e) a t (node.sum (pos 0) ((negsuc 0, a) ∷ [])) (λ o. number_value (option_map neg_ℤ o))
    (λ o. option_map (λ ps. pos 0 +ℤ weighted_sum ps) (on_both o (Some []) (λ x rest. Some ((negsuc 0, x) ∷ rest))))
    (λ values. evaluate-minus n.mode values p e) (λ numbers value. refl) same_minus

-- ---- two parts

-- a node of two parts, by what it is of the parts' numbers
pub two_form : (n : Numbering) (cells : Env) (nodes mid new : List GroundNode) (e e' tree : ExprTree) (a b t : ℕ) (own : GroundNode)
    (f : Option ℤ → Option ℤ → Option ValueTree) (g : Option ℤ → Option ℤ → Option ℤ)
    → ((values : Env) → evaluate n.mode values tree ≡ f (number_in (evaluate n.mode values e)) (number_in (evaluate n.mode values e')))
    → ((numbers : List ℤ) (value : ℕ → Option ℤ) → node_value numbers value own ≡ g (value a) (value b))
    → ((o o' : Option ℤ) → f o o' ≡ option_map single (g o o'))
    → IsNumberOf n cells nodes mid e a → IsNumberOf n cells nodes mid e' b → Puts mid new own t → IsTermOf n cells nodes new tree t
two_form n cells nodes mid new e e' tree a b t own f g one other same h h' put = record {
  grows = grows_on nodes mid new h.grows put.grows;
  known = put.known;
  value = λ r.
      one r.values ∙ same (number_in (evaluate n.mode r.values e)) (number_in (evaluate n.mode r.values e'))
      ∙ ap (λ o. option_map single (g o (number_in (evaluate n.mode r.values e')))) (sym ((number_grown n cells nodes mid new e a put.grows h).number r))
      ∙ ap (λ o. option_map single (g (term_value new r.numbers a) o)) (sym ((number_grown n cells nodes mid new e' b put.grows h').number r))
      ∙ ap (option_map single) (sym (put.value r.numbers ∙ other r.numbers (term_value new r.numbers)));
}

pub compare_term : (n : Numbering) (cells : Env) (nodes mid new : List GroundNode) (p : Place) (op : CompareOp) (e e' : ExprTree) (a b t : ℕ) (us : List ℕ)
    → IsNumberOf n cells nodes mid e a → IsNumberOf n cells nodes mid e' b → ArePartial mid n.count (needed_in n.mode (a ∷ b ∷ [])) us → IsJudged mid new (node.compare op a b) us t
    → IsTermOf n cells nodes new (compare p op e e') t
unfolding node_value
compare_term n cells nodes mid new p op e e' a b t us =
    two_truth n cells nodes mid new e e' (compare p op e e') a b t us (node.compare op a b) (compare_holds op) (λ r. evaluate-compare n.mode r.values p op e e') (λ numbers value. refl)

again : (b : Bool) → is_one (of_bool b) ≡ b
unfolding of_bool is_one
again true = refl
again false = refl

iff_truth : (mode : Mode) (o o' : Option ℤ) → binary_value mode BinaryOp.Iff o o' ≡ truth_in mode (map_both (compare_holds CompareOp.Equal) o o')
unfolding binary_value binary_number joins_truths on_both map_both
iff_truth mode None o' = refl
iff_truth mode (Some x) None = refl
iff_truth mode (Some x) (Some y) = ap (λ b. truth_in mode (Some b)) (again (compare_holds CompareOp.Equal x y))

pub iff_term : (n : Numbering) (cells : Env) (nodes mid new : List GroundNode) (p : Place) (e e' : ExprTree) (a b t : ℕ) (us : List ℕ)
    → IsNumberOf n cells nodes mid e a → IsNumberOf n cells nodes mid e' b → ArePartial mid n.count (needed_in n.mode (a ∷ b ∷ [])) us
    → IsJudged mid new (node.compare CompareOp.Equal a b) us t → IsTermOf n cells nodes new (binary p BinaryOp.Iff e e') t
unfolding node_value
iff_term n cells nodes mid new p e e' a b t us =
    two_truth n cells nodes mid new e e' (binary p BinaryOp.Iff e e') a b t us (node.compare CompareOp.Equal a b) (compare_holds CompareOp.Equal)
    (λ r. evaluate-binary n.mode r.values p BinaryOp.Iff e e' ∙ iff_truth n.mode (number_in (evaluate n.mode r.values e)) (number_in (evaluate n.mode r.values e')))
    (λ numbers value. refl)

pub product_term : (n : Numbering) (cells : Env) (nodes mid new : List GroundNode) (p : Place) (e e' : ExprTree) (a b t : ℕ)
    → IsNumberOf n cells nodes mid e a → IsNumberOf n cells nodes mid e' b → Puts mid new (node.product a b) t
    → IsTermOf n cells nodes new (binary p BinaryOp.Mul e e') t
unfolding node_value binary_value binary_number joins_truths
product_term n cells nodes mid new p e e' a b t =
    two_form n cells nodes mid new e e' (binary p BinaryOp.Mul e e') a b t (node.product a b) (binary_value n.mode BinaryOp.Mul)
    (λ o o'. on_both o o' (λ x y. Some (x *ℤ y))) (λ values. evaluate-binary n.mode values p BinaryOp.Mul e e') (λ numbers value. refl) (λ o o'. refl)

pub quotient_term : (n : Numbering) (cells : Env) (nodes mid new : List GroundNode) (p : Place) (e e' : ExprTree) (a b t : ℕ)
    → IsNumberOf n cells nodes mid e a → IsNumberOf n cells nodes mid e' b → Puts mid new (node.quotient a b) t
    → IsTermOf n cells nodes new (binary p BinaryOp.Div e e') t
unfolding node_value binary_value binary_number joins_truths
quotient_term n cells nodes mid new p e e' a b t =
    two_form n cells nodes mid new e e' (binary p BinaryOp.Div e e') a b t (node.quotient a b) (binary_value n.mode BinaryOp.Div)
    (λ o o'. on_both o o' numbers.quotient) (λ values. evaluate-binary n.mode values p BinaryOp.Div e e') (λ numbers value. refl) (λ o o'. refl)

pub remainder_term : (n : Numbering) (cells : Env) (nodes mid new : List GroundNode) (p : Place) (e e' : ExprTree) (a b t : ℕ)
    → IsNumberOf n cells nodes mid e a → IsNumberOf n cells nodes mid e' b → Puts mid new (node.remainder a b) t
    → IsTermOf n cells nodes new (binary p BinaryOp.Mod e e') t
unfolding node_value binary_value binary_number joins_truths
remainder_term n cells nodes mid new p e e' a b t =
    two_form n cells nodes mid new e e' (binary p BinaryOp.Mod e e') a b t (node.remainder a b) (binary_value n.mode BinaryOp.Mod)
    (λ o o'. on_both o o' numbers.remainder) (λ values. evaluate-binary n.mode values p BinaryOp.Mod e e') (λ numbers value. refl) (λ o o'. refl)

-- ---- the less and the greater of two

same_least : (mode : Mode) (o o' : Option ℤ) → binary_value mode BinaryOp.Min o o' ≡ option_map single (option_and_then least_of (all_there (o ∷ o' ∷ [])))
unfolding binary_value binary_number joins_truths on_both least_of all_there
same_least mode None o' = refl
same_least mode (Some x) None = refl
same_least mode (Some x) (Some y) = refl

pub least_term : (n : Numbering) (cells : Env) (nodes mid new : List GroundNode) (p : Place) (e e' : ExprTree) (a b t : ℕ)
    → IsNumberOf n cells nodes mid e a → IsNumberOf n cells nodes mid e' b → Puts mid new (node.least (a ∷ b ∷ [])) t
    → IsTermOf n cells nodes new (binary p BinaryOp.Min e e') t
unfolding node_value ground.term_values_of
least_term n cells nodes mid new p e e' a b t =
    two_form n cells nodes mid new e e' (binary p BinaryOp.Min e e') a b t (node.least (a ∷ b ∷ [])) (binary_value n.mode BinaryOp.Min)
    (λ o o'. option_and_then least_of (all_there (o ∷ o' ∷ []))) (λ values. evaluate-binary n.mode values p BinaryOp.Min e e') (λ numbers value. refl) (same_least n.mode)

same_greatest : (mode : Mode) (o o' : Option ℤ) → binary_value mode BinaryOp.Max o o' ≡ option_map single (option_and_then greatest_of (all_there (o ∷ o' ∷ [])))
unfolding binary_value binary_number joins_truths on_both greatest_of all_there
same_greatest mode None o' = refl
same_greatest mode (Some x) None = refl
same_greatest mode (Some x) (Some y) = refl

pub greatest_term : (n : Numbering) (cells : Env) (nodes mid new : List GroundNode) (p : Place) (e e' : ExprTree) (a b t : ℕ)
    → IsNumberOf n cells nodes mid e a → IsNumberOf n cells nodes mid e' b → Puts mid new (node.greatest (a ∷ b ∷ [])) t
    → IsTermOf n cells nodes new (binary p BinaryOp.Max e e') t
unfolding node_value ground.term_values_of
greatest_term n cells nodes mid new p e e' a b t =
    two_form n cells nodes mid new e e' (binary p BinaryOp.Max e e') a b t (node.greatest (a ∷ b ∷ [])) (binary_value n.mode BinaryOp.Max)
    (λ o o'. option_and_then greatest_of (all_there (o ∷ o' ∷ []))) (λ values. evaluate-binary n.mode values p BinaryOp.Max e e') (λ numbers value. refl) (same_greatest n.mode)

-- ---- connectives

pub there_defined : (os : List (Option ℤ)) → all_there os ≡ all_defined os
unfolding all_there all_defined
there_defined [] = refl
there_defined (None ∷ os) = refl
there_defined (Some x ∷ os) = ap (option_map (λ ys. x ∷ ys)) (there_defined os)

-- a truth told of all parts' numbers
truths_term : (n : Numbering) (cells : Env) (nodes mid new : List GroundNode) (es : ExprTrees) (tree : ExprTree) (ts us : List ℕ) (t : ℕ) (own : GroundNode) (k : List ℤ → Bool)
    → ((r : Reading n cells) → evaluate n.mode r.values tree ≡ truth_in n.mode (option_map k (all_numbers (values_of n.mode r.values es))))
    → ((numbers : List ℤ) (value : ℕ → Option ℤ) → node_value numbers value own ≡ ground_truth (option_map k (all_there (map value ts))))
    → AreNumbersOf n cells nodes mid es ts → ArePartial mid n.count (needed_in n.mode ts) us → IsJudged mid new own us t → IsTermOf n cells nodes new tree t
truths_term n cells nodes mid new es tree ts us t own k one other h needed j =
    truth_told n cells nodes mid new tree ts us t own (λ r. option_map k (all_numbers (values_of n.mode r.values es))) h.grows needed j one
    (λ r. told_both n.mode (option_map k (all_numbers (values_of n.mode r.values es))) (term_value j.between r.numbers j.own)
    (j.puts.value r.numbers ∙ other r.numbers (term_value j.between r.numbers)
    ∙ ap (λ o. ground_truth (option_map k o))
    (ap all_there ((numbers_grown n cells nodes mid j.between es ts j.puts.grows h).numbers r) ∙ there_defined (map number_in (values_of n.mode r.values es)))))
    (λ r. ap (λ os. is_some (all_there os)) (h.numbers r) ∙ ap is_some (there_defined (map number_in (values_of n.mode r.values es)))
    ∙ list_there k (all_numbers (values_of n.mode r.values es)))

pub and_term : (n : Numbering) (cells : Env) (nodes mid new : List GroundNode) (p : Place) (es : ExprTrees) (ts us : List ℕ) (t : ℕ)
    → AreNumbersOf n cells nodes mid es ts → ArePartial mid n.count (needed_in n.mode ts) us → IsJudged mid new (node.all_of ts) us t → IsTermOf n cells nodes new (all_of p es) t
unfolding node_value ground.term_values_of all_true
and_term n cells nodes mid new p es ts us t =
    truths_term n cells nodes mid new es (all_of p es) ts us t (node.all_of ts) all_one (λ r. evaluate-all_of n.mode r.values p es) (λ numbers value. refl)

pub or_term : (n : Numbering) (cells : Env) (nodes mid new : List GroundNode) (p : Place) (es : ExprTrees) (ts us : List ℕ) (t : ℕ)
    → AreNumbersOf n cells nodes mid es ts → ArePartial mid n.count (needed_in n.mode ts) us → IsJudged mid new (node.any_of ts) us t → IsTermOf n cells nodes new (any_of p es) t
unfolding node_value ground.term_values_of any_true
or_term n cells nodes mid new p es ts us t =
    truths_term n cells nodes mid new es (any_of p es) ts us t (node.any_of ts) any_one (λ r. evaluate-any_of n.mode r.values p es) (λ numbers value. refl)

-- ---- an implication

-- whether one truth value implies another
unfoldable pub implied : ℤ → ℤ → Bool
implied x y = not (is_one x) || is_one y

implies_truth : (mode : Mode) (o o' : Option ℤ) → binary_value mode BinaryOp.Implies o o' ≡ truth_in mode (map_both implied o o')
unfolding binary_value binary_number joins_truths on_both map_both implied
implies_truth mode None o' = refl
implies_truth mode (Some x) None = refl
implies_truth mode (Some x) (Some y) = ap (λ b. truth_in mode (Some b)) (again (not (is_one x) || is_one y))

truth_or : (b c : Bool) → Some (of_bool (is_one (of_bool b) || (c || false))) ≡ Some (of_bool (b || c))
unfolding of_bool is_one
truth_or true c = refl
truth_or false true = refl
truth_or false false = refl

none_is : IsSome {T = ℤ} None → ⊥
none_is h = cc

told_implies : (mode : Mode) (o o' v : Option ℤ) → (mode ≡ Mode.Relational → IsSome o × IsSome o')
    → v ≡ ground_truth (option_map any_one (all_there (ground_truth (option_map (λ x. not (is_one x)) o) ∷ o' ∷ []))) → IsToldBy mode (map_both implied o o') v
unfolding IsToldBy map_both implied ground_truth all_there any_one
told_implies Mode.Relational None o' v total e = absurd (none_is (total refl).0)
told_implies Mode.Relational (Some x) None v total e = absurd (none_is (total refl).1)
told_implies Mode.Relational (Some x) (Some y) v total e = e ∙ truth_or (not (is_one x)) (is_one y)
told_implies Mode.Strict None o' v total e = tt
told_implies Mode.Strict (Some x) None v total e = tt
told_implies Mode.Strict (Some x) (Some y) v total e = e ∙ truth_or (not (is_one x)) (is_one y)

-- both have values in the relational mode
pub implies_term : (n : Numbering) (cells : Env) (nodes mid not_in new : List GroundNode) (p : Place) (e e' : ExprTree) (a b c t : ℕ) (us : List ℕ)
    → (n.mode ≡ Mode.Relational → (numbers : List ℤ) → n.count ≤ length numbers → IsSome (term_value mid numbers a) × IsSome (term_value mid numbers b))
    → IsNumberOf n cells nodes mid e a → IsNumberOf n cells nodes mid e' b → ArePartial mid n.count (needed_in n.mode (a ∷ b ∷ [])) us
    → Puts mid not_in (node.negation a) c → IsJudged not_in new (node.any_of (c ∷ b ∷ [])) us t → IsTermOf n cells nodes new (binary p BinaryOp.Implies e e') t
unfolding node_value ground.term_values_of
implies_term n cells nodes mid not_in new p e e' a b c t us total h h' needed negated judged =
    let g : Grows mid judged.between = grows_on mid not_in judged.between negated.grows judged.puts.grows in
    let j : IsJudged mid new (node.any_of (c ∷ b ∷ [])) us t = record {
      between = judged.between;
      own = judged.own;
      puts = record { grows = g; known = judged.puts.known; value = judged.puts.value };
      whole = judged.whole;
    } in
    truth_told n cells nodes mid new (binary p BinaryOp.Implies e e') (a ∷ b ∷ []) us t (node.any_of (c ∷ b ∷ []))
    (λ r. map_both implied (number_in (evaluate n.mode r.values e)) (number_in (evaluate n.mode r.values e'))) h.grows needed j
    (λ r. evaluate-binary n.mode r.values p BinaryOp.Implies e e' ∙ implies_truth n.mode (number_in (evaluate n.mode r.values e)) (number_in (evaluate n.mode r.values e')))
    (λ r. subst (λ o. IsToldBy n.mode (map_both implied o (number_in (evaluate n.mode r.values e'))) (term_value judged.between r.numbers judged.own)) (h.number r)
    (subst (λ o. IsToldBy n.mode (map_both implied (term_value mid r.numbers a) o) (term_value judged.between r.numbers judged.own)) (h'.number r)
    (told_implies n.mode (term_value mid r.numbers a) (term_value mid r.numbers b) (term_value judged.between r.numbers judged.own) (λ is. total is r.numbers r.reads.long)
    (judged.puts.value r.numbers
    ∙ ap (λ o. ground_truth (option_map any_one (all_there (o ∷ term_value judged.between r.numbers b ∷ []))))
    (grown_value not_in judged.between r.numbers c judged.puts.grows negated.known ∙ negated.value r.numbers
    ∙ ap (λ o. ground_truth (option_map (λ x. not (is_one x)) o)) (grown_value mid not_in r.numbers a negated.grows h.known))
    ∙ ap (λ o. ground_truth (option_map any_one (all_there (ground_truth (option_map (λ x. not (is_one x)) (term_value mid r.numbers a)) ∷ o ∷ []))))
    (grown_value mid judged.between r.numbers b g h'.known)))))
    (λ r. two_there implied (term_value mid r.numbers a) (term_value mid r.numbers b)
    ∙ ap (λ o. is_some (map_both implied o (term_value mid r.numbers b))) (h.number r) ∙ ap (λ o. is_some (map_both implied (number_in (evaluate n.mode r.values e)) o)) (h'.number r))

-- ---- membership in a domain

pub member_is : (n : Numbering) (cells : Env) (nodes mid new : List GroundNode) (p : Place) (e : ExprTree) (d : DomainTree) (ns : List ℤ) (a t : ℕ) (us : List ℕ)
    → ((r : Reading n cells) → domain_values n.mode r.values d ≡ Some ns) → IsNumberOf n cells nodes mid e a → ArePartial mid n.count (needed_in n.mode (a ∷ [])) us
    → IsJudged mid new (node.member a ns) us t → IsTermOf n cells nodes new (in_domain p e d) t
unfolding node_value map_both
member_is n cells nodes mid new p e d ns a t us domain =
    one_truth n cells nodes mid new e (in_domain p e d) a t us (node.member a ns) (has_number ns)
    (λ r. evaluate-in_domain n.mode r.values p e d ∙ ap (λ o. truth_in n.mode (map_both has_number o (number_in (evaluate n.mode r.values e)))) (domain r))
    (λ numbers value. refl)

pub member_none : (n : Numbering) (cells : Env) (nodes mid new : List GroundNode) (p : Place) (e : ExprTree) (d : DomainTree) (mode : Mode) (a t : ℕ)
    → n.mode ≡ mode → ((r : Reading n cells) → domain_values n.mode r.values d ≡ None) → IsNumberOf n cells nodes mid e a
    → HasNumber mid new (λ numbers. number_in (undefined_truth mode)) t → IsTermOf n cells nodes new (in_domain p e d) t
unfolding map_both
member_none n cells nodes mid new p e d mode a t is domain h =
    untold_is n cells nodes mid new (in_domain p e d) mode t is h.grows
    (λ r. evaluate-in_domain n.mode r.values p e d ∙ ap (λ o. truth_in n.mode (map_both has_number o (number_in (evaluate n.mode r.values e)))) (domain r))
