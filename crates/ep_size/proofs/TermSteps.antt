-- The terms of a chain, one after another.
use Rattle.ep_size.proofs.Words.{◌≡◌, ℕ, suc, ◌+◌, ◌<◌, ◌≤◌, ◌^◌, Bool, true, List, [], ◌∷◌, ◌++◌, length, take, drop, get_or, refl, sym, ap, subst, ◌∙◌, arith, drop_all, drop_more, length-take, take_all, take_more, Place, extent-chain, Env, Met, decided_weight, met, met_terms, reaches_at, sum_weight, decisions_in, extent, holds_decision, signed_span, span_of, sum_span, term_spans, chain, expr_tree, terms_of, Expr, Mode, IsKnownExtent, grid_of, IsNumberNode, Going, Told, Sums, Summed, Totals}
use Rattle.ep_tree.specs.Reach.{Span}
use Rattle.ep_size.proofs.FormSteps.{number_node}
use Rattle.ep_size.proofs.MeterSteps.{going_begins, going_ends, going_more}
use Rattle.ep_size.specs.declared.extents.Extent.{Extent}

-- what some terms meet
abbrev pub met_by : Mode → Env → List (Bool × Expr) → List Met
met_by mode env xs = met_terms mode env (terms_of xs)

-- what is known of each of them
abbrev pub spans_of : Mode → Env → List (Bool × Expr) → List Span
spans_of mode env xs = term_spans mode env (terms_of xs)

met_first : (mode : Mode) (env : Env) (x : Bool × Expr) (xs : List (Bool × Expr)) → met_by mode env (x ∷ xs) ≡ met mode env (expr_tree x.1) ++ met_by mode env xs
unfolding met_terms terms_of
met_first mode env x xs = refl

-- ---- what is known of them

spans_append : (mode : Mode) (env : Env) (xs ys : List (Bool × Expr)) → spans_of mode env (xs ++ ys) ≡ spans_of mode env xs ++ spans_of mode env ys
unfolding term_spans terms_of
spans_append mode env [] ys = refl
spans_append mode env (x ∷ xs) ys = ap (λ ss. signed_span x.0 (span_of (extent mode env (expr_tree x.1))) ∷ ss) (spans_append mode env xs ys)

spans_alone : (mode : Mode) (env : Env) (x : Bool × Expr) → spans_of mode env (x ∷ []) ≡ signed_span x.0 (span_of (extent mode env (expr_tree x.1))) ∷ []
unfolding term_spans terms_of
spans_alone mode env x = refl

spans_count : (mode : Mode) (env : Env) (xs : List (Bool × Expr)) → length (spans_of mode env xs) ≡ length xs
unfolding term_spans terms_of
spans_count mode env [] = refl
spans_count mode env (x ∷ xs) = ap suc (spans_count mode env xs)

-- the first terms are no more than there are
pub spans_few : (mode : Mode) (env : Env) (xs : List (Bool × Expr)) (k : ℕ) → k < length xs → length xs < 2 ^ 64 → length (spans_of mode env (take k xs)) + 1 < 2 ^ 64
spans_few mode env xs k h few =
    let a = spans_count mode env (take k xs) in
    let b = length-take k xs in
    omega (arith, a, b, h, few)

-- one term more is known
pub spans_more : (mode : Mode) (env : Env) (xs : List (Bool × Expr)) (k : ℕ) (x d : Bool × Expr) (s : Span) → k < length xs → x ≡ get_or xs k d
    → s ≡ span_of (extent mode env (expr_tree x.1))
    → spans_of mode env (take k xs) ++ signed_span x.0 s ∷ [] ≡ spans_of mode env (take (k + 1) xs)
spans_more mode env xs k x d s h same is =
    ap (λ t. spans_of mode env (take k xs) ++ signed_span x.0 t ∷ []) is
    ∙ ap (λ ss. spans_of mode env (take k xs) ++ ss) (sym (spans_alone mode env x))
    ∙ sym (spans_append mode env (take k xs) (x ∷ []))
    ∙ ap (spans_of mode env) (sym (take_more xs k d h ∙ ap (λ y. take k xs ++ y ∷ []) (sym same)))

-- so many terms are measured and added
abbrev pub TermsSoFar : Mode → Env → Totals → Totals → List (Bool × Expr) → ℕ → Summed → Type 0
TermsSoFar mode env start now xs k sum = Going mode start now (met_by mode env xs) (met_by mode env (drop k xs)) (Sums sum (spans_of mode env (take k xs)))

no_spans : (mode : Mode) (env : Env) (xs : List (Bool × Expr)) → spans_of mode env (take 0 xs) ≡ []
unfolding term_spans terms_of
no_spans mode env xs = refl

pub terms_begin : (mode : Mode) (env : Env) (start : Totals) (xs : List (Bool × Expr)) (sum : Summed) → Sums sum [] → TermsSoFar mode env start start xs 0 sum
terms_begin mode env start xs sum h = going_begins mode start _ _ refl (subst (Sums sum) (sym (no_spans mode env xs)) h)

pub terms_more : (mode : Mode) (env : Env) (start now after : Totals) (xs : List (Bool × Expr)) (k : ℕ) (x d : Bool × Expr) (sum more : Summed) (y : Extent) (s : Span)
    → k < length xs → x ≡ get_or xs k d → length xs < 2 ^ 64 → TermsSoFar mode env start now xs k sum
    → Told mode now after (met mode env (expr_tree x.1)) (IsKnownExtent mode env (expr_tree x.1) y) → s ≡ span_of (grid_of y)
    → ((spans : List Span) → length spans + 1 < 2 ^ 64 → Sums sum spans → Sums more (spans ++ signed_span x.0 s ∷ []))
    → TermsSoFar mode env start after xs (k + 1) more
terms_more mode env start now after xs k x d sum more y s within same few g told is adds =
    going_more mode start now after _ _ (met mode env (expr_tree x.1)) _ g
    (ap (met_by mode env) (drop_more xs k d within ∙ ap (λ z. z ∷ drop (k + 1) xs) (sym same)) ∙ met_first mode env x (drop (k + 1) xs)) told
    (λ sums known.
    subst (Sums more) (spans_more mode env xs k x d s within same (is ∙ ap span_of (sym known.extent)))
    (adds (spans_of mode env (take k xs)) (spans_few mode env xs k within few) sums))

none_met : (mode : Mode) (env : Env) → met_by mode env [] ≡ []
unfolding met_terms terms_of
none_met mode env = refl

pub terms_end : (mode : Mode) (env : Env) (start now : Totals) (xs : List (Bool × Expr)) (k : ℕ) (sum : Summed) → length xs ≤ k → TermsSoFar mode env start now xs k sum
    → Told mode start now (met_by mode env xs) (Sums sum (spans_of mode env xs))
terms_end mode env start now xs k sum past g =
    going_ends mode start now _ _ g (ap (met_by mode env) (drop_all k xs past) ∙ none_met mode env)
    (λ sums. subst (λ l. Sums sum (spans_of mode env l)) (take_all k xs past) sums)

-- ---- the whole chain

pub chain_number : (mode : Mode) (env : Env) (p : Place) (xs : List (Bool × Expr)) → holds_decision (decisions_in env) (chain p (terms_of xs)) ≡ true
    → IsNumberNode mode env (chain p (terms_of xs)) (sum_weight (spans_of mode env xs)) (sum_span (spans_of mode env xs))
unfolding reaches_at decided_weight
chain_number mode env p xs holds =
    number_node mode env (chain p (terms_of xs)) (sum_weight (spans_of mode env xs)) (sum_span (spans_of mode env xs)) holds refl (extent-chain mode env p (terms_of xs)) refl
