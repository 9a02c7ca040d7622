-- Forms by what is known of their parts: what each is, and what it weighs.
use Rattle.ep_size.proofs.Words.{◌≡◌, ℕ, suc, ◌+◌, length, Bool, true, false, List, [], ◌∷◌, ◌∙◌, refl, sym, ap, subst, arith, if◌then◌else◌, absolute_interval, width, sum_by-cons, CompareOp, Place, extent-absolute, extent-all_of, extent-any_of, extent-binary, extent-compare, extent-in_domain, extent-minus, extent-negation, extent-to_int, truths_node, Env, evaluate, number_in, type_in, a_node, binary_weight, decided_weight, number_reach, reaches_at, weight_at, widths, binary_span, decisions_in, extent, extents_of, fixed_extent, holds_decision, measured, negated_span, span_of, truth_span, wide_span, DomainTree, ExprTree, absolute, all_of, any_of, binary, compare, in_domain, minus, negation, to_int, single, expr_trees, BinaryOp, Expr, Mode, IsNumberNode}
use Rattle.ep_tree.specs.Reach.{Extent, Span}

-- what is known of a node that holds one
pub measured_decided : (mode : Mode) (env : Env) (e : ExprTree) (x : Extent) → holds_decision (decisions_in env) e ≡ true → measured mode env e x ≡ x
unfolding measured
measured_decided mode env e x h = ap (λ b. if b then x else fixed_extent (type_in env e) (evaluate mode env e)) h

-- the weight of a node that holds one
pub own_weight : (mode : Mode) (env : Env) (e : ExprTree) (w : ℕ) → holds_decision (decisions_in env) e ≡ true → decided_weight mode env e ≡ w
    → weight_at mode (a_node env e) ≡ w
unfolding weight_at
own_weight mode env e w h k = ap (λ b. if b then decided_weight mode env e else 0) h ∙ k

-- a node that is a number
pub number_node : (mode : Mode) (env : Env) (e : ExprTree) (w : ℕ) (s : Span) → holds_decision (decisions_in env) e ≡ true
    → reaches_at mode (a_node env e) ≡ number_reach (extent mode env e) → extent mode env e ≡ measured mode env e (single s)
    → decided_weight mode env e ≡ w → IsNumberNode mode env e w s
number_node mode env e w s holds plain value weight = record {
  plain = plain;
  value = value ∙ measured_decided mode env e (single s) holds;
  holds = holds;
  weight = own_weight mode env e w holds weight;
}

-- ---- one part

-- a node with one part, by what is known of the part
pub one_number : (mode : Mode) (env : Env) (e : ExprTree) (x : Extent) (shape : ExprTree → ExprTree) (w : Extent → ℕ) (s : Extent → Span)
    → holds_decision (decisions_in env) (shape e) ≡ true → extent mode env e ≡ x
    → reaches_at mode (a_node env (shape e)) ≡ number_reach (extent mode env (shape e))
    → extent mode env (shape e) ≡ measured mode env (shape e) (single (s (extent mode env e)))
    → decided_weight mode env (shape e) ≡ w (extent mode env e)
    → IsNumberNode mode env (shape e) (w x) (s x)
one_number mode env e x shape w s holds known plain value weight =
    subst (λ y. IsNumberNode mode env (shape e) (w y) (s y)) known (number_node mode env (shape e) (w (extent mode env e)) (s (extent mode env e)) holds plain value weight)

pub negation_number : (mode : Mode) (env : Env) (p : Place) (e : ExprTree) → holds_decision (decisions_in env) (negation p e) ≡ true
    → IsNumberNode mode env (negation p e) 2 truth_span
unfolding reaches_at decided_weight
negation_number mode env p e holds = one_number mode env e (extent mode env e) (negation p) (λ _. 2) (λ _. truth_span) holds refl refl (extent-negation mode env p e) refl

pub to_int_number : (mode : Mode) (env : Env) (p : Place) (e : ExprTree) → holds_decision (decisions_in env) (to_int p e) ≡ true
    → IsNumberNode mode env (to_int p e) 0 truth_span
unfolding reaches_at decided_weight
to_int_number mode env p e holds = one_number mode env e (extent mode env e) (to_int p) (λ _. 0) (λ _. truth_span) holds refl refl (extent-to_int mode env p e) refl

pub minus_number : (mode : Mode) (env : Env) (p : Place) (e : ExprTree) (x : Extent) → holds_decision (decisions_in env) (minus p e) ≡ true
    → extent mode env e ≡ x → IsNumberNode mode env (minus p e) (span_of x).spread (negated_span (span_of x))
unfolding reaches_at decided_weight
minus_number mode env p e x holds known =
    one_number mode env e x (minus p) (λ y. (span_of y).spread) (λ y. negated_span (span_of y)) holds known refl (extent-minus mode env p e) refl

pub absolute_number : (mode : Mode) (env : Env) (p : Place) (e : ExprTree) (x : Extent) → holds_decision (decisions_in env) (absolute p e) ≡ true
    → extent mode env e ≡ x → IsNumberNode mode env (absolute p e) (span_of x).spread (wide_span (absolute_interval (span_of x).reach))
unfolding reaches_at decided_weight
absolute_number mode env p e x holds known =
    one_number mode env e x (absolute p) (λ y. (span_of y).spread) (λ y. wide_span (absolute_interval (span_of y).reach)) holds known refl (extent-absolute mode env p e) refl

-- ---- two parts

pub two_number : (mode : Mode) (env : Env) (e f : ExprTree) (x y : Extent) (shape : ExprTree → ExprTree → ExprTree) (w : Extent → Extent → ℕ)
    (s : Extent → Extent → Span)
    → holds_decision (decisions_in env) (shape e f) ≡ true → extent mode env e ≡ x → extent mode env f ≡ y
    → reaches_at mode (a_node env (shape e f)) ≡ number_reach (extent mode env (shape e f))
    → extent mode env (shape e f) ≡ measured mode env (shape e f) (single (s (extent mode env e) (extent mode env f)))
    → decided_weight mode env (shape e f) ≡ w (extent mode env e) (extent mode env f)
    → IsNumberNode mode env (shape e f) (w x y) (s x y)
two_number mode env e f x y shape w s holds known told plain value weight =
    let z = extent mode env e in
    let v = extent mode env f in
    subst (λ a. IsNumberNode mode env (shape e f) (w a y) (s a y)) known
    (subst (λ b. IsNumberNode mode env (shape e f) (w z b) (s z b)) told (number_node mode env (shape e f) (w z v) (s z v) holds plain value weight))

pub compare_number : (mode : Mode) (env : Env) (p : Place) (op : CompareOp) (e f : ExprTree) (x y : Extent)
    → holds_decision (decisions_in env) (compare p op e f) ≡ true → extent mode env e ≡ x → extent mode env f ≡ y
    → IsNumberNode mode env (compare p op e f) (widths (span_of x ∷ span_of y ∷ [])) truth_span
unfolding reaches_at decided_weight
compare_number mode env p op e f x y holds known told =
    two_number mode env e f x y (compare p op) (λ a b. widths (span_of a ∷ span_of b ∷ [])) (λ a b. truth_span) holds known told refl (extent-compare mode env p op e f) refl

pub binary_number : (mode : Mode) (env : Env) (p : Place) (op : BinaryOp) (e f : ExprTree) (x y : Extent)
    → holds_decision (decisions_in env) (binary p op e f) ≡ true → extent mode env e ≡ x → extent mode env f ≡ y
    → IsNumberNode mode env (binary p op e f) (binary_weight op (span_of x) (span_of y)) (binary_span op (span_of x) (span_of y) (number_in (evaluate mode env f)))
unfolding reaches_at decided_weight
binary_number mode env p op e f x y holds known told =
    two_number mode env e f x y (binary p op) (λ a b. binary_weight op (span_of a) (span_of b))
    (λ a b. binary_span op (span_of a) (span_of b) (number_in (evaluate mode env f))) holds known told refl (extent-binary mode env p op e f) refl

-- ---- connectives

pub extents_count : (mode : Mode) (env : Env) (xs : List Expr) → length (extents_of mode env (expr_trees xs)) ≡ length xs
unfolding extents_of expr_trees
extents_count mode env [] = refl
extents_count mode env (x ∷ xs) = ap suc (extents_count mode env xs)

pub truths_number : (mode : Mode) (env : Env) (p : Place) (every : Bool) (xs : List Expr) → holds_decision (decisions_in env) (truths_node p every (expr_trees xs)) ≡ true
    → IsNumberNode mode env (truths_node p every (expr_trees xs)) (length xs + 1) truth_span
unfolding reaches_at decided_weight truths_node
truths_number mode env p true xs holds =
    number_node mode env (all_of p (expr_trees xs)) (length xs + 1) truth_span holds refl (extent-all_of mode env p (expr_trees xs)) (ap (λ n. n + 1) (extents_count mode env xs))
truths_number mode env p false xs holds =
    number_node mode env (any_of p (expr_trees xs)) (length xs + 1) truth_span holds refl (extent-any_of mode env p (expr_trees xs)) (ap (λ n. n + 1) (extents_count mode env xs))

-- ---- membership in a domain

pub one_width : (s : Span) → width s.reach ≡ widths (s ∷ [])
one_width s = let cut = sum_by-cons (λ x. width x.reach) s [] in omega (arith, cut)

pub in_domain_number : (mode : Mode) (env : Env) (p : Place) (d : DomainTree) (e : ExprTree) (x : Extent)
    → holds_decision (decisions_in env) (in_domain p e d) ≡ true → extent mode env e ≡ x → IsNumberNode mode env (in_domain p e d) (widths (span_of x ∷ [])) truth_span
unfolding reaches_at decided_weight
in_domain_number mode env p d e x holds known =
    one_number mode env e x (λ f. in_domain p f d) (λ y. widths (span_of y ∷ [])) (λ _. truth_span) holds known refl (extent-in_domain mode env p e d) refl
