-- Steps of unrolling: brackets, parts one after another, and the instances of a quantifier.
use Rattle.ep_unroll.proofs.Words.{◌≡◌, ℕ, ◌+◌, ◌<◌, ◌≤◌, Bool, true, false, ℤ, List, [], ◌∷◌, ◌++◌, length, drop, get_or, Some, None, refl, sym, ap, ◌∙◌, arith, Option, map, bytes_eq, if◌then◌else◌, ◌*ℤ◌, option_map, pos, negsuc, neg_ℤ, ints, at_drop_all, at_drop_more, Name, Place, GroundNode, term_value, evaluate-group, evaluate-to_int, Env, has_value, scalar_in, with_number, evaluate, number_in, signed, term_values, values_of, ExprTree, group, to_int, is_number_of, of_scalar, single, domain_tree, expr_tree, expr_trees, terms_of, Expr, Scalar, quantified_bare, instance_value, quantified_tree, Quantifier, Grows, AreInstancesOf, AreNumbersOf, IsNumberOf, Means, Numbering, Reading, ReadsName, AreSigned, sign_number, Unrolled}
use Rattle.ep_unroll.proofs.FormValues.{grows_on}
use Rattle.ep_unroll.proofs.FreeValues.{agreed_put, scalar_kept}
use Rattle.ep_unroll.proofs.MeaningSteps.{Listing, listing_begins, listing_ends, listing_more}
use Rattle.ep_unroll.proofs.TypedReadings.{number_typed}

-- brackets change nothing
pub group_means : (n : Numbering) (cells : Env) (old new : List GroundNode) (p : Place) (e : ExprTree) (x : Unrolled) → Means n cells old new e x → Means n cells old new (group p e) x
group_means n cells old new p e x h = record { grows = h.grows; known = h.known; value = λ r. h.value r ∙ sym (evaluate-group n.mode r.values p e) }

-- nor does `toInt`
pub to_int_means : (n : Numbering) (cells : Env) (old new : List GroundNode) (p : Place) (e : ExprTree) (x : Unrolled) → Means n cells old new e x → Means n cells old new (to_int p e) x
to_int_means n cells old new p e x h = record { grows = h.grows; known = h.known; value = λ r. h.value r ∙ sym (evaluate-to_int n.mode r.values p e) }

-- a quantifier without names is its body
pub bare_means : (n : Numbering) (cells : Env) (old new : List GroundNode) (p : Place) (q : Quantifier) (x : Unrolled)
    → Means n cells old new (expr_tree q.body.now) x → Means n cells old new (quantified_tree p q []) x
bare_means n cells old new p q x h = record {
  grows = h.grows;
  known = h.known;
  value = λ r. h.value r ∙ sym (quantified_bare n.mode r.values p q.op (domain_tree q.domain.now) (expr_tree q.body.now));
}

-- the same term behind fewer nodes
pub number_from : (n : Numbering) (cells : Env) (nodes old new : List GroundNode) (e : ExprTree) (t : ℕ) → Grows nodes old → IsNumberOf n cells old new e t → IsNumberOf n cells nodes new e t
number_from n cells nodes old new e t g h = record { grows = grows_on nodes old new g h.grows; known = h.known; number = h.number }

-- ---- expressions one after another

-- terms so far, of some expressions of which those behind a place are left
abbrev pub TermsSoFar : Numbering → Env → List GroundNode → List GroundNode → List Expr → ℕ → List ℕ → Type 0
TermsSoFar n env old new xs k ts =
    Listing {R = Reading n env} {X = ℕ} (λ r. r.numbers) (λ t. t) (λ t o. o) old new
    (λ r. map number_in (values_of n.mode r.values (expr_trees xs))) (λ r. map number_in (values_of n.mode r.values (expr_trees (drop k xs)))) ts

pub terms_begin : (n : Numbering) (env : Env) (old : List GroundNode) (xs : List Expr) (ts : List ℕ) → ts ≡ [] → TermsSoFar n env old old xs 0 ts
terms_begin n env old xs ts none = listing_begins {R = Reading n env} {X = ℕ} (λ r. r.numbers) (λ t. t) (λ t o. o) old old _ _ ts refl none (λ r. refl)

pub terms_more : (n : Numbering) (env : Env) (old mid new : List GroundNode) (xs : List Expr) (k : ℕ) (x d : Expr) (t : ℕ) (ts us : List ℕ) → k < length xs → x ≡ get_or xs k d
    → TermsSoFar n env old mid xs k ts → IsNumberOf n env mid new (expr_tree x) t → us ≡ ts ++ t ∷ [] → TermsSoFar n env old new xs (k + 1) us
unfolding expr_trees values_of
terms_more n env old mid new xs k x d t ts us h same so one pushed =
    listing_more {R = Reading n env} {X = ℕ} (λ r. r.numbers) (λ t. t) (λ t o. o) old mid new _ _ (λ r. map number_in (values_of n.mode r.values (expr_trees (drop (k + 1) xs))))
    (λ r. number_in (evaluate n.mode r.values (expr_tree x))) ts us t so
    (λ r. at_drop_more (λ ys. map number_in (values_of n.mode r.values (expr_trees ys))) xs k d h
    ∙ ap (λ y. number_in (evaluate n.mode r.values (expr_tree y)) ∷ map number_in (values_of n.mode r.values (expr_trees (drop (k + 1) xs)))) (sym same))
    one.grows one.known one.number pushed

pub terms_all : (n : Numbering) (env : Env) (old new : List GroundNode) (xs : List Expr) (k : ℕ) (ts : List ℕ) → length xs ≤ k → TermsSoFar n env old new xs k ts
    → AreNumbersOf n env old new (expr_trees xs) ts
unfolding expr_trees values_of
terms_all n env old new xs k ts h so = record {
  grows = so.grows;
  known = so.known;
  numbers = listing_ends {R = Reading n env} {X = ℕ} (λ r. r.numbers) (λ t. t) (λ t o. o) old new _ _ ts so
      (λ r. at_drop_all (λ ys. map number_in (values_of n.mode r.values (expr_trees ys))) xs k h);
}

-- ---- the terms of a chain one after another

abbrev pub SignedSoFar : Numbering → Env → List GroundNode → List GroundNode → List (Bool × Expr) → ℕ → List (ℤ × ℕ) → Type 0
SignedSoFar n env old new xs k ps =
    Listing {R = Reading n env} {X = ℤ × ℕ} (λ r. r.numbers) (λ part. part.1) (λ part o. option_map (λ x. part.0 *ℤ x) o) old new
    (λ r. term_values n.mode r.values (terms_of xs)) (λ r. term_values n.mode r.values (terms_of (drop k xs))) ps

pub signed_begin : (n : Numbering) (env : Env) (old : List GroundNode) (xs : List (Bool × Expr)) (ps : List (ℤ × ℕ)) → ps ≡ [] → SignedSoFar n env old old xs 0 ps
signed_begin n env old xs ps none =
    listing_begins {R = Reading n env} {X = ℤ × ℕ} (λ r. r.numbers) (λ part. part.1) (λ part o. option_map (λ x. part.0 *ℤ x) o) old old _ _ ps refl none (λ r. refl)

sign_times : (b : Bool) (o : Option ℤ) → option_map (λ x. sign_number b *ℤ x) o ≡ option_map (signed b) o
unfolding sign_number signed
sign_times b None = refl
sign_times true (Some x) = ap Some (one_times x)
  where
    one_times : (y : ℤ) → pos 1 *ℤ y ≡ y
    one_times y = omega (arith, ints)
sign_times false (Some x) = ap Some (minus_times x)
  where
    minus_times : (y : ℤ) → negsuc 0 *ℤ y ≡ neg_ℤ y
    minus_times y = omega (arith, ints)

pub signed_more : (n : Numbering) (env : Env) (old mid new : List GroundNode) (xs : List (Bool × Expr)) (k : ℕ) (x d : Bool × Expr) (s : ℤ) (t : ℕ) (ps qs : List (ℤ × ℕ)) → k < length xs → x ≡ get_or xs k d
    → SignedSoFar n env old mid xs k ps → IsNumberOf n env mid new (expr_tree x.1) t → s ≡ sign_number x.0 → qs ≡ ps ++ (s, t) ∷ [] → SignedSoFar n env old new xs (k + 1) qs
unfolding terms_of term_values
signed_more n env old mid new xs k x d s t ps qs h same so one sign pushed =
    listing_more {R = Reading n env} {X = ℤ × ℕ} (λ r. r.numbers) (λ part. part.1) (λ part o. option_map (λ y. part.0 *ℤ y) o) old mid new _ _ (λ r. term_values n.mode r.values (terms_of (drop (k + 1) xs)))
    (λ r. option_map (signed x.0) (number_in (evaluate n.mode r.values (expr_tree x.1)))) ps qs (s, t) so
    (λ r. at_drop_more (λ ys. term_values n.mode r.values (terms_of ys)) xs k d h
    ∙ ap (λ y. option_map (signed y.0) (number_in (evaluate n.mode r.values (expr_tree y.1))) ∷ term_values n.mode r.values (terms_of (drop (k + 1) xs))) (sym same))
    one.grows one.known
    (λ r. ap (λ c. option_map (λ y. c *ℤ y) (term_value new r.numbers t)) sign ∙ sign_times x.0 (term_value new r.numbers t) ∙ ap (option_map (signed x.0)) (one.number r)) pushed

pub signed_all : (n : Numbering) (env : Env) (old new : List GroundNode) (xs : List (Bool × Expr)) (k : ℕ) (ps : List (ℤ × ℕ)) → length xs ≤ k → SignedSoFar n env old new xs k ps
    → AreSigned n env old new (terms_of xs) ps
unfolding terms_of term_values
signed_all n env old new xs k ps h so = record {
  grows = so.grows;
  known = so.known;
  numbers = listing_ends {R = Reading n env} {X = ℤ × ℕ} (λ r. r.numbers) (λ part. part.1) (λ part o. option_map (λ x. part.0 *ℤ x) o) old new _ _ ps so
      (λ r. at_drop_all (λ ys. term_values n.mode r.values (terms_of ys)) xs k h);
}

-- ---- the instances of a quantifier one after another

pub names_within : (n : Numbering) (numbers : List ℤ) (cells values : Env) (name : Name) (s : Scalar) (k : ℤ)
    → ((x : Name) → ReadsName (n.first x) numbers (cells x) (values x)) → (x : Name) → ReadsName (n.first x) numbers (with_number name s k cells x) (with_number name s k values x)
unfolding with_number ReadsName
names_within n numbers cells values name s k h x = go (bytes_eq x name)
  where
    go : (b : Bool) → ReadsName (n.first x) numbers (if b then Some (has_value (of_scalar s) (single k)) else cells x) (if b then Some (has_value (of_scalar s) (single k)) else values x)
    go true = tt
    go false = h x

-- a reading in which a name stands for a number
unfoldable pub within : (n : Numbering) (cells : Env) (name : Name) (s : Scalar) (k : ℤ) → is_number_of s k ≡ true → Reading n cells → Reading n (with_number name s k cells)
within n cells name s k is r = record {
  numbers = r.numbers;
  values = with_number name s k r.values;
  reads = record {
    agree = agreed_put cells r.values name s k r.reads.agree;
    typed = number_typed r.values name s k r.reads.typed is;
    names = names_within n r.numbers cells r.values name s k r.reads.names;
    long = r.reads.long;
  };
}

abbrev pub InstancesSoFar : Numbering → Env → List GroundNode → List GroundNode → Place → Quantifier → Name → List Name → List ℤ → List ℤ → List ℕ → Type 0
InstancesSoFar n env old new p q name rest ns left ts =
    Listing {R = Reading n env} {X = ℕ} (λ r. r.numbers) (λ t. t) (λ t o. o) old new
    (λ r. map (λ k. number_in (instance_value n.mode r.values p q name rest k)) ns)
    (λ r. map (λ k. number_in (instance_value n.mode r.values p q name rest k)) left) ts

pub instances_begin : (n : Numbering) (env : Env) (old : List GroundNode) (p : Place) (q : Quantifier) (name : Name) (rest : List Name) (ns left : List ℤ) (ts : List ℕ) → left ≡ ns → ts ≡ []
    → InstancesSoFar n env old old p q name rest ns left ts
instances_begin n env old p q name rest ns left ts same none =
    listing_begins {R = Reading n env} {X = ℕ} (λ r. r.numbers) (λ t. t) (λ t o. o) old old _ _ ts refl none
    (λ r. ap (map (λ k. number_in (instance_value n.mode r.values p q name rest k))) same)

pub instances_more : (n : Numbering) (env : Env) (old mid new : List GroundNode) (p : Place) (q : Quantifier) (name : Name) (rest : List Name) (ns left behind : List ℤ) (s : Scalar) (k : ℤ) (t : ℕ) (ts us : List ℕ)
    → InstancesSoFar n env old mid p q name rest ns left ts → left ≡ k ∷ behind → s ≡ scalar_in env (domain_tree q.domain.now)
    → (Reading n env → is_number_of s k ≡ true) → IsNumberOf n (with_number name s k env) mid new (quantified_tree p q rest) t → us ≡ ts ++ t ∷ []
    → InstancesSoFar n env old new p q name rest ns behind us
unfolding within with_number
instances_more n env old mid new p q name rest ns left behind s k t ts us so cut scalar is one pushed =
    listing_more {R = Reading n env} {X = ℕ} (λ r. r.numbers) (λ t. t) (λ t o. o) old mid new _ _ (λ r. map (λ j. number_in (instance_value n.mode r.values p q name rest j)) behind)
    (λ r. number_in (instance_value n.mode r.values p q name rest k)) ts us t so
    (λ r. ap (map (λ j. number_in (instance_value n.mode r.values p q name rest j))) cut) one.grows one.known
    (λ r. one.number (within n env name s k (is r) r)
    ∙ ap (λ x. number_in (evaluate n.mode (with_number name x k r.values) (quantified_tree p q rest)))
    (scalar ∙ scalar_kept env r.values (domain_tree q.domain.now) r.reads.agree))
    pushed

pub instances_all : (n : Numbering) (env : Env) (old new : List GroundNode) (p : Place) (q : Quantifier) (name : Name) (rest : List Name) (ns left : List ℤ) (ts : List ℕ) → left ≡ []
    → InstancesSoFar n env old new p q name rest ns left ts → AreInstancesOf n env old new p q name rest ns ts
instances_all n env old new p q name rest ns left ts none so = record {
  grows = so.grows;
  known = so.known;
  numbers = listing_ends {R = Reading n env} {X = ℕ} (λ r. r.numbers) (λ t. t) (λ t o. o) old new _ _ ts so
      (λ r. ap (map (λ k. number_in (instance_value n.mode r.values p q name rest k))) none);
}
