-- Quantifiers that hold a decision variable, by their instances one after another.
use Rattle.ep_size.proofs.Words.{◌≡◌, ℕ, ◌+◌, ◌≤◌, ◌<◌, ◌^◌, Bool, true, false, List, [], ◌∷◌, ◌++◌, length, ℤ, refl, sym, ap, subst, ◌∙◌, arith, Option, Some, None, ◌&&◌, ◌||◌, not, if◌then◌else◌, bytes_eq, flat_map, map, option_map, unwrap_or, list_any, fun_ext, append-nil, length-append, length-map, map-append, Name, Place, extent-quantified, holds_decision-quantified, Bound, Env, has_value, scalar_in, with_number, domain_values, numbered, over_names, standing_for, Met, a_node, decided_weight, met, met_domain, quantified_weight, reaches_at, decisions_in, extent, hiding, holds_decision, instance_span, is_decision, quantified_span, span_of, DomainTree, ExprTree, quantified, of_scalar, single, QuantOp, Mode, Scalar, met_quantified, Meter, IsNumberNode, Going, Told, HasInstances, Instances, Totals}
use Rattle.ep_size.proofs.SliceParts.{append_again}
use Rattle.ep_tree.specs.Reach.{Span}
use Rattle.ep_size.proofs.FormSteps.{measured_decided, number_node}
use Rattle.ep_size.proofs.MeterSteps.{going_begins, going_ends, going_more_at}

-- ---- names that stand for numbers are no decision variables

hidden_within : (env : Env) (name : Name) (s : Scalar) (n : ℤ) (names : List Name)
    → hiding names (decisions_in (with_number name s n env)) ≡ hiding (name ∷ names) (decisions_in env)
unfolding hiding with_number is_decision
hidden_within env name s n names = fun_ext (λ other. go (bytes_eq other name) (list_any (bytes_eq other) names) (env other))
  where
    go : (a b : Bool) (o : Option Bound)
        → (not b && is_decision (if a then Some (has_value (of_scalar s) (single n)) else o)) ≡ (not (a || b) && is_decision o)
    go true true o = refl
    go true false o = refl
    go false true o = refl
    go false false o = refl

-- what holds one where a name is hidden holds one where it stands for a number
pub held_within : (env : Env) (name : Name) (s : Scalar) (n : ℤ) (names : List Name) (e : ExprTree)
    → holds_decision (hiding (name ∷ names) (decisions_in env)) e ≡ true → holds_decision (hiding names (decisions_in (with_number name s n env))) e ≡ true
held_within env name s n names e h = ap (λ f. holds_decision f e) (hidden_within env name s n names) ∙ h

-- ---- a quantifier by its instances

pub quantified_holds : (env : Env) (p : Place) (op : QuantOp) (names : List Name) (d : DomainTree) (e : ExprTree)
    → holds_decision (hiding names (decisions_in env)) e ≡ true → holds_decision (decisions_in env) (quantified p op names d e) ≡ true
quantified_holds env p op names d e h = holds_decision-quantified (decisions_in env) p op names d e ∙ h

-- what is known of a quantifier that holds a decision variable
pub quantified_is : (mode : Mode) (env : Env) (p : Place) (op : QuantOp) (names : List Name) (d : DomainTree) (e : ExprTree)
    → holds_decision (hiding names (decisions_in env)) e ≡ true → extent mode env (quantified p op names d e) ≡ single (instance_span mode op d e names env)
quantified_is mode env p op names d e h =
    extent-quantified mode env p op names d e
    ∙ measured_decided mode env (quantified p op names d e) (single (instance_span mode op d e names env)) (quantified_holds env p op names d e h)

-- without names it is its body
pub bare_is : (mode : Mode) (env : Env) (p : Place) (op : QuantOp) (d : DomainTree) (e : ExprTree)
    → holds_decision (hiding [] (decisions_in env)) e ≡ true → extent mode env (quantified p op [] d e) ≡ single (span_of (extent mode env e))
unfolding over_names
bare_is mode env p op d e h = quantified_is mode env p op [] d e h

instance_is : (mode : Mode) (env : Env) (p : Place) (op : QuantOp) (names : List Name) (d : DomainTree) (e : ExprTree)
    → holds_decision (hiding names (decisions_in env)) e ≡ true → instance_span mode op d e names env ≡ span_of (extent mode env (quantified p op names d e))
unfolding span_of
instance_is mode env p op names d e h = sym (ap span_of (quantified_is mode env p op names d e h))

-- what is known of the instances, one for each number
abbrev pub spans_at : Mode → Env → Place → QuantOp → Name → List Name → DomainTree → ExprTree → List ℤ → List Span
spans_at mode env p op name names d e ns = map (λ n. span_of (extent mode (with_number name (scalar_in env d) n env) (quantified p op names d e))) ns

each_instance : (mode : Mode) (env : Env) (p : Place) (op : QuantOp) (name : Name) (names : List Name) (d : DomainTree) (e : ExprTree)
    → holds_decision (hiding (name ∷ names) (decisions_in env)) e ≡ true → (ns : List ℤ)
    → map (instance_span mode op d e names) (map (λ n. with_number name (scalar_in env d) n env) ns) ≡ spans_at mode env p op name names d e ns
each_instance mode env p op name names d e h [] = refl
each_instance mode env p op name names d e h (n ∷ ns) =
    let s : Scalar = scalar_in env d in
    ap (λ x. x ∷ map (instance_span mode op d e names) (map (λ m. with_number name s m env) ns))
    (instance_is mode (with_number name s n env) p op names d e (held_within env name s n names e h))
    ∙ ap (λ xs. span_of (extent mode (with_number name s n env) (quantified p op names d e)) ∷ xs) (each_instance mode env p op name names d e h ns)

instances_are : (mode : Mode) (env : Env) (p : Place) (op : QuantOp) (name : Name) (names : List Name) (d : DomainTree) (e : ExprTree) (o : Option (List ℤ))
    → holds_decision (hiding (name ∷ names) (decisions_in env)) e ≡ true → domain_values mode env d ≡ o
    → option_map (map (instance_span mode op d e names)) (numbered mode d name env) ≡ option_map (spans_at mode env p op name names d e) o
unfolding standing_for
instances_are mode env p op name names d e o h is =
    ap (λ x. option_map (map (instance_span mode op d e names)) (option_map (map (λ n. with_number name (scalar_in env d) n env)) x)) is ∙ by o
  where
    by : (x : Option (List ℤ))
        → option_map (map (instance_span mode op d e names)) (option_map (map (λ n. with_number name (scalar_in env d) n env)) x)
        ≡ option_map (spans_at mode env p op name names d e) x
    by None = refl
    by (Some ns) = ap Some (each_instance mode env p op name names d e h ns)

mapped_or : {A B : Type 0} (f : A → B) (o : Option (List A)) → map f (unwrap_or o []) ≡ unwrap_or (option_map (map f) o) []
mapped_or f None = refl
mapped_or f (Some xs) = refl

-- a quantifier with a name in front is a number, by what is known of its instances
pub quantified_number : (mode : Mode) (env : Env) (p : Place) (op : QuantOp) (name : Name) (names : List Name) (d : DomainTree) (e : ExprTree) (o : Option (List ℤ))
    → holds_decision (hiding (name ∷ names) (decisions_in env)) e ≡ true → domain_values mode env d ≡ o
    → IsNumberNode mode env (quantified p op (name ∷ names) d e) (quantified_weight op (unwrap_or (option_map (spans_at mode env p op name names d e) o) []))
    (quantified_span op (option_map (spans_at mode env p op name names d e) o))
unfolding reaches_at decided_weight over_names
quantified_number mode env p op name names d e o h is =
    let own = option_map (map (instance_span mode op d e names)) (numbered mode d name env) in
    subst (λ x. IsNumberNode mode env (quantified p op (name ∷ names) d e) (quantified_weight op (unwrap_or x [])) (quantified_span op x))
    (instances_are mode env p op name names d e o h is)
    (number_node mode env (quantified p op (name ∷ names) d e) (quantified_weight op (unwrap_or own [])) (quantified_span op own)
    (quantified_holds env p op (name ∷ names) d e h) refl (extent-quantified mode env p op (name ∷ names) d e)
    (ap (quantified_weight op) (mapped_or (instance_span mode op d e names) (numbered mode d name env))))

-- what a quantifier with a name in front meets, where its domain has these numbers
pub meets_quantified : (mode : Mode) (env : Env) (p : Place) (op : QuantOp) (name : Name) (names : List Name) (d : DomainTree) (e : ExprTree) (o : Option (List ℤ)) → o ≡ domain_values mode env d
    → met mode env (quantified p op (name ∷ names) d e)
    ≡ a_node env (quantified p op (name ∷ names) d e)
    ∷ (met_domain mode env d ++ flat_map (λ n. met mode (with_number name (scalar_in env d) n env) (quantified p op names d e)) (unwrap_or o []))
meets_quantified mode env p op name names d e o is =
    met_quantified mode env p op name names d e
    ∙ ap (λ v. a_node env (quantified p op (name ∷ names) d e) ∷ (met_domain mode env d ++ flat_map (λ n. met mode (with_number name (scalar_in env d) n env) (quantified p op names d e)) (unwrap_or v []))) (sym is)

-- what is known of the instances, as the walk tells it
pub spans_told : (mode : Mode) (env : Env) (p : Place) (op : QuantOp) (name : Name) (names : List Name) (d : DomainTree) (e : ExprTree) (o : Option (List ℤ))
    → map (λ n. span_of (extent mode (with_number name (scalar_in env d) n env) (quantified p op names d e))) (unwrap_or o [])
    ≡ unwrap_or (option_map (spans_at mode env p op name names d e) o) []
spans_told mode env p op name names d e o = mapped_or (λ n. span_of (extent mode (with_number name (scalar_in env d) n env) (quantified p op names d e))) o

-- ---- instances one after another

-- what is known of some instances, and for these numbers they are left
pub record Instanced (span_at : ℤ → Span) (now : Meter) (numbers left : List ℤ) (known : Instances) : Type 0 where
  pub done : List ℤ
  pub cut : numbers ≡ done ++ left
  pub told : HasInstances known (map span_at done)
  pub few : length done ≤ now.size

-- the instances of some numbers are measured
abbrev pub Instancing : Mode → (ℤ → Span) → (ℤ → List Met) → Totals → Totals → List ℤ → List ℤ → Instances → Type 0
Instancing mode span_at nodes_at start now numbers left known =
    Going mode start now (flat_map nodes_at numbers) (flat_map nodes_at left) (Instanced span_at now.meter numbers left known)

pub instancing_begins : (mode : Mode) (span_at : ℤ → Span) (nodes_at : ℤ → List Met) (start : Totals) (numbers left : List ℤ) (known : Instances)
    → left ≡ numbers → HasInstances known [] → Instancing mode span_at nodes_at start start numbers left known
instancing_begins mode span_at nodes_at start numbers left known same none =
    going_begins mode start _ _ (ap (flat_map nodes_at) same) (record { done = []; cut = sym same; told = none; few = omega arith })

pub instancing_goes_on : (mode : Mode) (span_at : ℤ → Span) (nodes_at : ℤ → List Met) (start now after : Totals) (numbers left rest : List ℤ) (known more : Instances) (n : ℤ) (s : Span)
    → Instancing mode span_at nodes_at start now numbers left known → left ≡ n ∷ rest → Told mode now after (nodes_at n) (s ≡ span_at n) → 1 ≤ length (nodes_at n)
    → ((spans : List Span) → length spans < 2 ^ 62 → HasInstances known spans → HasInstances more (spans ++ s ∷ []))
    → Instancing mode span_at nodes_at start after numbers rest more
instancing_goes_on mode span_at nodes_at start now after numbers left rest known more n s g cut told some adds =
    going_more_at {R = Instanced span_at after.meter numbers rest more} mode start now after _ _ (nodes_at n) _ g (ap (flat_map nodes_at) cut) told
    (λ went h is.
    let count = went.count in
    let small = went.small some in
    let before = h.few in
    record {
      done = h.done ++ n ∷ [];
      cut = h.cut ∙ ap (λ l. h.done ++ l) cut ∙ append_again h.done n rest;
      told =
          subst (λ xs. HasInstances more xs) (ap (λ x. map span_at h.done ++ x ∷ []) is ∙ sym (map-append span_at h.done (n ∷ [])))
          (adds (map span_at h.done) (let long = length-map h.done span_at in omega (arith, long, before, count, small)) h.told);
      few = let long = length-append h.done (n ∷ []) in omega (arith, long, before, count, some);
    })

pub instancing_ends : (mode : Mode) (span_at : ℤ → Span) (nodes_at : ℤ → List Met) (start now : Totals) (numbers left : List ℤ) (known : Instances)
    → Instancing mode span_at nodes_at start now numbers left known → left ≡ [] → Told mode start now (flat_map nodes_at numbers) (HasInstances known (map span_at numbers))
instancing_ends mode span_at nodes_at start now numbers left known g none =
    going_ends mode start now _ _ g (ap (flat_map nodes_at) none)
    (λ h. subst (λ l. HasInstances known (map span_at l)) (sym (h.cut ∙ ap (λ l. h.done ++ l) none ∙ append-nil h.done)) h.told)
