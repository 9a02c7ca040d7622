-- A statement without a fault keeps an instance closed, and the faults of what follows stand in the context behind it.
use Rattle.std.proofs.Common.{◌≡◌, ◌∙◌, ℤ, Bool, true, false, List, [], ◌∷◌, ◌++◌, Option, Some, None, refl, sym, ap, subst, IsTrue, append_assoc}
use Rattle.std.specs.Prelude.{Result, Ok, is_none, option_and_then, unwrap_or}
use Rattle.std.specs.List.{list_all}
use Rattle.std.proofs.lemmas.List.{append-nil}
use Rattle.ep_base.specs.Options.{on_both}
use Rattle.ep_base.specs.declared.names.Name.{Name}
use Rattle.ep_base.specs.declared.places.Place.{Place}
use Rattle.ep_tree_laws.proofs.Bindings.{bound_typed, fit_typed}
use Rattle.ep_tree_laws.proofs.Deciding.{domain_kept, expression_kept, lacking, left_none, right_none}
use Rattle.ep_tree_laws.proofs.Shapes.{shape_lists, shape_typed}
use Rattle.ep_tree_laws.proofs.Typing.{context_typed, domain_typed, expression_typed}
use Rattle.ep_tree.proofs.TypedParts.{map_is, some_is, then_is}
use Rattle.ep_tree.specs.Binding.{Find, Instance, Progress, Refusal, Shape, TextName, and_next, bind_givens, bind_letting, bind_names, bind_statement, bound_finds, first_false, group_finds, in_env, letting_bound, limits_met, met_groups, met_in, model_text, now_with, or_refuse, outside_domain, shape_bound, shape_of, undefined_at, with_clauses, with_finds, with_goal, fitted_into, met_stated}
use Rattle.ep_tree.specs.Environments.{Bound, Env, context_of, has_domain, has_value, meaning_in, shape_type}
use Rattle.ep_tree.specs.Evaluation.{evaluate, type_in}
use Rattle.ep_tree.specs.Faults.{Fault, after_group, after_groups, after_statement, declaration_faults, declare, domain_faults, domain_meaning, faults, group_faults, group_meaning, letting_meaning, redeclared, stated_faults, statement_faults, unless}
use Rattle.ep_tree.specs.Measures.{met, met_domain}
use Rattle.ep_tree.specs.Names.{put}
use Rattle.ep_tree.specs.Reach.{is_decision}
use Rattle.ep_tree.specs.Statements.{Group, StatementTree, branching, constraints, decided, domain_letting, given, heuristic, letting, objective, requirements}
use Rattle.ep_tree.specs.Trees.{DomainTree, ExprTree}
use Rattle.ep_tree.specs.TypedValues.{IsOf, IsTypedBound, is_number_of}
use Rattle.ep_tree.specs.Types.{Context, Meaning, a_domain, a_value, judge, judge_domain, type_from}
use Rattle.ep_tree.specs.Values.{ValueTree}
use Rattle.ep_tree.specs.declared.values.Mode.{Mode}
use Rattle.ep_tree.specs.declared.values.ValueType.{ValueType}
use Rattle.ep_instance_parts.proofs.ShapeSteps.{given_is}
use Rattle.ep_instance.specs.Steps.{group_said, name_said}
use Rattle.ep_instance.proofs.BindSteps.{both_ok, group_is, group_parts, meaning_of_shape, named_put, next_group, next_name, unless_ok, value_is_typed}
use Rattle.ep_instance.proofs.ReadySteps.{Ready, clauses_ready, find_ready, goal_ready, put_ready, ready_lacks}

ok_is : {A B : Type 0} {y z : A} → ◌≡◌ {A = Result A B} (Ok y) (Ok z) → y ≡ z
ok_is q = cc

undeclared : {A : Type 0} (o : Option A) (fault : Fault) → unless (is_none o) fault ≡ [] → o ≡ None
unfolding unless
undeclared None fault h = refl
undeclared (Some x) fault h = absurd cc

pub first_undeclared : (m : Meaning) (c : Context) (x : Name × Place) (xs : List (Name × Place)) → declaration_faults m c (x ∷ xs) ≡ [] → (c x.0 ≡ None) × (declaration_faults m (put x.0 m c) xs ≡ [])
unfolding declaration_faults
first_undeclared m c x xs h =
    let fs : List Fault = unless (is_none (c x.0)) (redeclared x.1 x.0) in
    (undeclared (c x.0) (redeclared x.1 x.0) (left_none fs (declaration_faults m (put x.0 m c) xs) h), right_none fs (declaration_faults m (put x.0 m c) xs) h)

-- ---- parameters

names_ready : (params : Env) (shape : Shape) → ((own : ValueType) (v fit : ValueTree) → fitted_into shape own v ≡ Some fit → IsOf (shape_type shape.scalar shape.indices) fit)
    → (xs : List (Name × Place)) (c : Context) (i : Instance) (next : Env) → Ready c i → declaration_faults (meaning_of_shape shape) c xs ≡ [] → bind_names params shape xs i.env ≡ Ok next
    → Ready (declare (meaning_of_shape shape) c xs) (in_env i next)
unfolding bind_names declare in_env meaning_in is_decision IsTypedBound
names_ready params shape sound [] c i next r d h = subst (λ e. Ready c (in_env i e)) (ok_is h) r
names_ready params shape sound (x ∷ xs) c i next r d h =
    let b : _ = both_ok (name_said params shape x.0 i.env) (λ e. bind_names params shape xs e) next (sym (next_name params shape x xs i.env) ∙ h) in
    let p : _ = named_put params shape x.0 i.env b.0 b.1 in
    let u : _ = first_undeclared (meaning_of_shape shape) c x xs d in
    let one : Ready (put x.0 (meaning_of_shape shape) c) (in_env i (put x.0 (has_value (shape_type shape.scalar shape.indices) p.2) i.env)) =
    put_value_ready p.2 (sound p.0 p.1 p.2 p.3) u.0 in
    names_ready params shape sound xs (put x.0 (meaning_of_shape shape) c) (in_env i b.0) next
    (subst (λ e. Ready (put x.0 (meaning_of_shape shape) c) (in_env i e)) p.4 one) u.1 b.2
  where
    put_value_ready : (fit : ValueTree) → IsOf (shape_type shape.scalar shape.indices) fit → c x.0 ≡ None
        → Ready (put x.0 (meaning_of_shape shape) c) (in_env i (put x.0 (has_value (shape_type shape.scalar shape.indices) fit) i.env))
    put_value_ready fit k u = put_ready c i x.0 (has_value (shape_type shape.scalar shape.indices) fit) r u refl k

-- what the context of an environment says of a domain, that of the text says too
own_domain : (c : Context) (i : Instance) → Ready c i → (o : Bool) (d : DomainTree) → domain_faults c o d ≡ []
    → (judge_domain (context_of i.env) d ≡ judge_domain c d) × (domain_faults (context_of i.env) o d ≡ [])
own_domain c i r o d h = domain_kept c (context_of i.env) (lacking c (context_of i.env) (ready_lacks c i r)) o d h

own_expression : (c : Context) (i : Instance) → Ready c i → (e : ExprTree) → faults c false e ≡ []
    → (judge (context_of i.env) e ≡ judge c e) × (faults (context_of i.env) false e ≡ [])
own_expression c i r e h = expression_kept c (context_of i.env) false false (lacking c (context_of i.env) (ready_lacks c i r)) e h

own_meaning : (c : Context) (i : Instance) (mode : Mode) → Ready c i → (decisions o : Bool) (g : Group) (shape : Shape) → domain_faults c o g.domain ≡ [] → shape_of mode i.env g.domain ≡ Some shape
    → a_value (Some (shape_type shape.scalar shape.indices)) decisions ≡ group_meaning c decisions g
unfolding group_meaning
own_meaning c i mode r decisions o g shape h e =
    let q : _ = own_domain c i r o g.domain h in
    group_is mode i.env decisions o g shape q.1 e ∙ ap (λ j. a_value (type_from j) decisions) q.0

pub groups_ready : (mode : Mode) (p : Place) (params : Env) (gs : List Group) (c : Context) (i : Instance) (next : Env) → Ready c i → group_faults c false true gs ≡ []
    → bind_givens mode p params gs i.env ≡ Ok next → Ready (after_groups c false gs) (in_env i next)
unfolding bind_givens after_groups in_env group_faults after_group shape_type IsTypedBound
groups_ready mode p params [] c i next r h e = subst (λ x. Ready c (in_env i x)) (ok_is e) r
groups_ready mode p params (g ∷ gs) c i next r h e =
    let own : _ = declaration_faults (group_meaning c false g) c g.names in
    let here : _ = left_none (domain_faults c true g.domain ++ own) (group_faults (after_group c false g) false true gs) h in
    let dom : _ = left_none (domain_faults c true g.domain) own here in
    let names : _ = right_none (domain_faults c true g.domain) own here in
    let b : _ = both_ok (group_said mode p params g i.env) (λ x. bind_givens mode p params gs x) next (sym (next_group mode p params g gs i.env) ∙ e) in
    let s : _ = group_parts mode p params g i.env b.0 b.1 in
    let same : meaning_of_shape s.0 ≡ group_meaning c false g = own_meaning c i mode r false true g s.0 dom s.1 in
    let t : _ = domain_typed (context_of i.env) (context_typed i.env) true g.domain (own_domain c i r true g.domain dom).1 in
    let one : Ready (declare (meaning_of_shape s.0) c g.names) (in_env i b.0) =
    names_ready params s.0 (λ own v fit q. fit_typed mode i.env r.closed.of_types g.domain t.0 t.1 s.0 s.1 own v fit q) g.names c i b.0 r
    (subst (λ m. declaration_faults m c g.names ≡ []) (sym same) names) s.2 in
    groups_ready mode p params gs (after_group c false g) (in_env i b.0) next
    (subst (λ m. Ready (declare m c g.names) (in_env i b.0)) same one)
    (right_none (domain_faults c true g.domain ++ own) (group_faults (after_group c false g) false true gs) h) b.2

-- ---- decision variables

abbrev decision_of_shape : Shape → Meaning
decision_of_shape shape = a_value (Some (shape_type shape.scalar shape.indices)) true

finds_joined : (i : Instance) (fs gs : List Find) → with_finds (with_finds i fs) gs ≡ with_finds i (fs ++ gs)
unfolding with_finds
finds_joined i fs gs = ap (λ xs. record i { finds = xs }) (append_assoc i.finds fs gs)

finds_none : (i : Instance) → with_finds i [] ≡ i
unfolding with_finds
finds_none i = ap (λ xs. record i { finds = xs }) (append-nil i.finds)

group_finds_ready : (shape : Shape) (values : List ℤ) → IsTrue (list_all (is_number_of shape.scalar) values) → (xs : List (Name × Place)) (c : Context) (i : Instance) → Ready c i
    → declaration_faults (decision_of_shape shape) c xs ≡ [] → Ready (declare (decision_of_shape shape) c xs) (with_finds i (group_finds shape values xs))
unfolding declare group_finds
group_finds_ready shape values t [] c i r h = subst (λ j. Ready c j) (sym (finds_none i)) r
group_finds_ready shape values t (x ∷ xs) c i r h =
    let u : _ = first_undeclared (decision_of_shape shape) c x xs h in
    let f : Find = record { name = x.0; scalar = shape.scalar; indices = shape.indices; values = values } in
    subst (λ j. Ready (declare (decision_of_shape shape) (put x.0 (decision_of_shape shape) c) xs) j) (finds_joined i (f ∷ []) (group_finds shape values xs))
    (group_finds_ready shape values t xs (put x.0 (decision_of_shape shape) c) (with_finds i (f ∷ [])) (find_ready c i f r u.0 t) u.1)

-- decision variables of a group, and those of the groups behind it
next_finds : (mode : Mode) (env : Env) (g : Group) (gs : List Group) (fs : List Find) → bound_finds mode env (g ∷ gs) ≡ Some fs
    → (shape : Shape) × (values : List ℤ) × (rest : List Find) × (shape_of mode env g.domain ≡ Some shape) × (shape.values ≡ Some values) × (bound_finds mode env gs ≡ Some rest)
    × (group_finds shape values g.names ++ rest ≡ fs)
unfolding bound_finds on_both
next_finds mode env g gs fs h = go (shape_of mode env g.domain) (bound_finds mode env gs) refl refl h
  where
    go : (s : Option Shape) (o : Option (List Find)) → shape_of mode env g.domain ≡ s → bound_finds mode env gs ≡ o
        → option_and_then (λ shape. on_both shape.values o (λ values rest. Some (group_finds shape values g.names ++ rest))) s ≡ Some fs
        → (shape : Shape) × (values : List ℤ) × (rest : List Find) × (shape_of mode env g.domain ≡ Some shape) × (shape.values ≡ Some values) × (bound_finds mode env gs ≡ Some rest)
        × (group_finds shape values g.names ++ rest ≡ fs)
    go None o p q e = absurd cc
    go (Some shape) o p q e = inner shape.values o refl q e
      where
        inner : (v : Option (List ℤ)) (o : Option (List Find)) → shape.values ≡ v → bound_finds mode env gs ≡ o
            → on_both v o (λ values rest. Some (group_finds shape values g.names ++ rest)) ≡ Some fs
            → (shape : Shape) × (values : List ℤ) × (rest : List Find) × (shape_of mode env g.domain ≡ Some shape) × (shape.values ≡ Some values) × (bound_finds mode env gs ≡ Some rest)
            × (group_finds shape values g.names ++ rest ≡ fs)
        inner None o v q e = absurd cc
        inner (Some values) None v q e = absurd cc
        inner (Some values) (Some rest) v q e = (shape, values, rest, p, v, q, some_is e)

pub finds_ready : (mode : Mode) (gs : List Group) (c : Context) (i : Instance) (fs : List Find) → Ready c i → group_faults c true false gs ≡ [] → bound_finds mode i.env gs ≡ Some fs
    → Ready (after_groups c true gs) (with_finds i fs)
unfolding after_groups group_faults after_group bound_finds with_finds
finds_ready mode [] c i fs r h e = subst (λ j. Ready c j) (sym (finds_none i) ∙ ap (with_finds i) (no_group_is mode i.env fs e)) r
  where
    no_group_is : (mode : Mode) (env : Env) (fs : List Find) → bound_finds mode env [] ≡ Some fs → [] ≡ fs
    no_group_is mode env fs e = some_is e
finds_ready mode (g ∷ gs) c i fs r h e =
    let own : _ = declaration_faults (group_meaning c true g) c g.names in
    let here : _ = left_none (domain_faults c false g.domain ++ own) (group_faults (after_group c true g) true false gs) h in
    let dom : _ = left_none (domain_faults c false g.domain) own here in
    let names : _ = right_none (domain_faults c false g.domain) own here in
    let n : _ = next_finds mode i.env g gs fs e in
    let same : decision_of_shape n.0 ≡ group_meaning c true g = own_meaning c i mode r true false g n.0 dom n.3 in
    let t : _ = domain_typed (context_of i.env) (context_typed i.env) false g.domain (own_domain c i r false g.domain dom).1 in
    let numbers : IsTrue (list_all (is_number_of n.0.scalar) n.1) = shape_lists mode i.env r.closed.of_types g.domain t.0 t.1 n.0 n.3 n.1 n.4 in
    let one : Ready (declare (decision_of_shape n.0) c g.names) (with_finds i (group_finds n.0 n.1 g.names)) =
    group_finds_ready n.0 n.1 numbers g.names c i r (subst (λ m. declaration_faults m c g.names ≡ []) (sym same) names) in
    subst (λ j. Ready (after_groups (after_group c true g) true gs) j) (finds_joined i (group_finds n.0 n.1 g.names) n.2 ∙ ap (with_finds i) n.6)
    (finds_ready mode gs (after_group c true g) (with_finds i (group_finds n.0 n.1 g.names)) n.2
    (subst (λ m. Ready (declare m c g.names) (with_finds i (group_finds n.0 n.1 g.names))) same one)
    (right_none (domain_faults c false g.domain ++ own) (group_faults (after_group c true g) true false gs) h)
    (in_same_env (group_finds n.0 n.1 g.names) n.2 n.5))
  where
    in_same_env : (own rest : List Find) → bound_finds mode i.env gs ≡ Some rest → bound_finds mode (with_finds i own).env gs ≡ Some rest
    in_same_env own rest q = q

-- ---- lettings

value_letting_ready : (c : Context) (i : Instance) (name : Name) (m : Meaning) (b : Bound) → Ready c i → c name ≡ None → is_decision (Some b) ≡ false → IsTypedBound (Some b) → meaning_in b ≡ m
    → Ready (put name m c) (in_env i (put name b i.env))
value_letting_ready c i name m b r u d t e = subst (λ x. Ready (put name x c) (in_env i (put name b i.env))) e (put_ready c i name b r u d t)

-- what a letting of a value puts for its name
letting_is : (mode : Mode) (text : TextName) (env : Env) (p at : Place) (name : Name) (d : Option DomainTree) (e : ExprTree) (next : Env)
    → bind_letting mode text env (letting p name at d e) ≡ Ok next
    → (v : ValueTree) × (b : Bound) × (evaluate mode env e ≡ Some v) × (letting_bound mode env (undefined_at text p) name d e v ≡ Ok b) × (put name b env ≡ next)
unfolding bind_letting
letting_is mode text env p at name d e next h =
    let a : _ = both_ok (or_refuse (undefined_at text p) (evaluate mode env e)) (λ v. and_next (letting_bound mode env (undefined_at text p) name d e v) (λ b. Ok (put name b env))) next
    (unless_ok (limits_met mode (met_stated mode env d ++ met mode env e)) _ next h) in
    let b : _ = both_ok (letting_bound mode env (undefined_at text p) name d e a.0) (λ b. Ok (put name b env)) next a.2 in
    (a.0, b.0, given_is (undefined_at text p) (evaluate mode env e) a.0 a.1, b.1, ok_is b.2)

-- the value that stands for it is of its type, and the rules say the same
record Bindable (c : Context) (m : Meaning) (b : Bound) : Type 0 where
  pub whole : is_decision (Some b) ≡ false
  pub typed : IsTypedBound (Some b)
  pub same : meaning_in b ≡ m

plain_bindable : (mode : Mode) (c : Context) (i : Instance) (r : Refusal) (name : Name) (e : ExprTree) (v : ValueTree) (b : Bound) → Ready c i → faults c false e ≡ [] → evaluate mode i.env e ≡ Some v
    → letting_bound mode i.env r name None e v ≡ Ok b → Bindable c (letting_meaning c None e) b
unfolding letting_bound letting_meaning meaning_in is_decision IsTypedBound type_in type_from
plain_bindable mode c i r name e v b ready h q l = subst (λ x. Bindable c (letting_meaning c None e) x) (ok_is l) made
  where
    made : Bindable c (letting_meaning c None e) (has_value (type_in i.env e) v)
    made =
        let own : _ = own_expression c i ready e h in
        let t : _ = expression_typed (context_of i.env) (context_typed i.env) false e own.1 in
        record {
          whole = refl;
          typed = value_is_typed mode i.env e v ready.closed.of_types own.1 q;
          same =
              ap (λ j. a_value (Some (unwrap_or (type_from j) ValueType.Int)) false) t.1
              ∙ sym (ap (λ j. a_value (type_from j) false) (sym own.0 ∙ t.1));
        }

stated_bindable : (mode : Mode) (c : Context) (i : Instance) (r : Refusal) (name : Name) (d : DomainTree) (e : ExprTree) (v : ValueTree) (b : Bound) → Ready c i → domain_faults c false d ≡ []
    → letting_bound mode i.env r name (Some d) e v ≡ Ok b → Bindable c (letting_meaning c (Some d) e) b
unfolding letting_bound letting_meaning meaning_in is_decision IsTypedBound type_from
stated_bindable mode c i r name d e v b ready h l =
    let s : _ = both_ok (or_refuse r (shape_of mode i.env d)) (λ shape. and_next (or_refuse (outside_domain name) (fitted_into shape (type_in i.env e) v)) (λ fit. Ok (has_value (shape_type shape.scalar shape.indices) fit))) b l in
    let f : _ = both_ok (or_refuse (outside_domain name) (fitted_into s.0 (type_in i.env e) v)) (λ fit. Ok (has_value (shape_type s.0.scalar s.0.indices) fit)) b s.2 in
    subst (λ x. Bindable c (letting_meaning c (Some d) e) x) (ok_is f.2)
    (made s.0 f.0 (given_is r (shape_of mode i.env d) s.0 s.1) (given_is (outside_domain name) (fitted_into s.0 (type_in i.env e) v) f.0 f.1))
  where
    made : (shape : Shape) (fit : ValueTree) → shape_of mode i.env d ≡ Some shape → fitted_into shape (type_in i.env e) v ≡ Some fit
        → Bindable c (letting_meaning c (Some d) e) (has_value (shape_type shape.scalar shape.indices) fit)
    made shape fit p q =
        let own : _ = own_domain c i ready false d h in
        let t : _ = domain_typed (context_of i.env) (context_typed i.env) false d own.1 in
        record {
          whole = refl;
          typed = fit_typed mode i.env ready.closed.of_types d t.0 t.1 shape p (type_in i.env e) v fit q;
          same =
              ap (λ u. a_value (Some u) false) (shape_typed mode i.env d t.0 t.1 shape p)
              ∙ sym (ap (λ j. a_value (type_from j) false) (sym own.0 ∙ t.1));
        }

domain_bindable : (mode : Mode) (c : Context) (i : Instance) (d : DomainTree) (b : Bound) → Ready c i → domain_faults c false d ≡ [] → option_and_then shape_bound (shape_of mode i.env d) ≡ Some b
    → Bindable c (domain_meaning c d) b
unfolding domain_meaning meaning_in is_decision type_from shape_bound
domain_bindable mode c i d b ready h q =
    let s : _ = then_is shape_bound (shape_of mode i.env d) b q in
    made s.0 s.1 s.2
  where
    made : (shape : Shape) → shape_of mode i.env d ≡ Some shape → shape_bound shape ≡ Some b → Bindable c (domain_meaning c d) b
    made shape p w =
        let own : _ = own_domain c i ready false d h in
        let t : _ = domain_typed (context_of i.env) (context_typed i.env) false d own.1 in
        let k : _ = map_is (has_domain shape.scalar shape.indices) shape.values b w in
        record {
          whole = ap (λ x. is_decision (Some x)) (sym k.2);
          typed = bound_typed mode i.env ready.closed.of_types d t.0 t.1 shape p b w;
          same =
              ap meaning_in (sym k.2)
              ∙ ap (λ u. a_domain (Some u)) (shape_typed mode i.env d t.0 t.1 shape p)
              ∙ sym (ap (λ j. a_domain (type_from j)) (sym own.0 ∙ t.1));
        }

bound_ready : (c : Context) (i : Instance) (name : Name) (m : Meaning) (b : Bound) (next : Env) → Ready c i → c name ≡ None → Bindable c m b → put name b i.env ≡ next
    → Ready (put name m c) (in_env i next)
bound_ready c i name m b next r u k e =
    subst (λ x. Ready (put name m c) (in_env i x)) e (value_letting_ready c i name m b r u k.whole k.typed k.same)

pub letting_ready : (mode : Mode) (text : TextName) (c : Context) (i : Instance) (p at : Place) (name : Name) (d : Option DomainTree) (e : ExprTree) (next : Env) → Ready c i
    → statement_faults c (letting p name at d e) ≡ [] → bind_letting mode text i.env (letting p name at d e) ≡ Ok next → Ready (after_statement c (letting p name at d e)) (in_env i next)
unfolding statement_faults after_statement stated_faults
letting_ready mode text c i p at name d e next r h q =
    let m : Meaning = letting_meaning c d e in
    let both : _ = left_none (stated_faults c d ++ faults c false e) (declaration_faults m c ((name, at) ∷ [])) h in
    let l : _ = letting_is mode text i.env p at name d e next q in
    let u : _ = first_undeclared m c (name, at) [] (right_none (stated_faults c d ++ faults c false e) (declaration_faults m c ((name, at) ∷ [])) h) in
    bound_ready c i name m l.1 next r u.0
    (go d (left_none (stated_faults c d) (faults c false e) both) (right_none (stated_faults c d) (faults c false e) both) l.0 l.1 l.2 l.3) l.4
  where
    go : (d : Option DomainTree) → stated_faults c d ≡ [] → faults c false e ≡ [] → (v : ValueTree) (b : Bound) → evaluate mode i.env e ≡ Some v
        → letting_bound mode i.env (undefined_at text p) name d e v ≡ Ok b → Bindable c (letting_meaning c d e) b
    go None s f v b q l = plain_bindable mode c i (undefined_at text p) name e v b r f q l
    go (Some d) s f v b q l = stated_bindable mode c i (undefined_at text p) name d e v b r s l

pub domain_letting_ready : (mode : Mode) (text : TextName) (c : Context) (i : Instance) (p at : Place) (name : Name) (d : DomainTree) (next : Env) → Ready c i
    → statement_faults c (domain_letting p name at d) ≡ [] → bind_letting mode text i.env (domain_letting p name at d) ≡ Ok next → Ready (after_statement c (domain_letting p name at d)) (in_env i next)
unfolding statement_faults after_statement bind_letting
domain_letting_ready mode text c i p at name d next r h q =
    let m : Meaning = domain_meaning c d in
    let u : _ = first_undeclared m c (name, at) [] (right_none (domain_faults c false d) (declaration_faults m c ((name, at) ∷ [])) h) in
    let b : _ = both_ok (or_refuse (undefined_at text p) (option_and_then shape_bound (shape_of mode i.env d))) (λ b. Ok (put name b i.env)) next
    (unless_ok (limits_met mode (met_domain mode i.env d)) _ next q) in
    bound_ready c i name m b.0 next r u.0
    (domain_bindable mode c i d b.0 r (left_none (domain_faults c false d) (declaration_faults m c ((name, at) ∷ [])) h) (given_is (undefined_at text p) _ b.0 b.1)) (ok_is b.2)

-- ---- statements

pub statement_ready : (mode : Mode) (params : Env) (c : Context) (at next : Progress) (s : StatementTree) → Ready c at.instance → statement_faults c s ≡ [] → bind_statement mode params at s ≡ Ok next
    → Ready (after_statement c s) next.instance
unfolding bind_statement now_with statement_faults after_statement
statement_ready mode params c at next (given p groups) r h e =
    let b : _ = both_ok (bind_givens mode p params groups at.instance.env) (λ env. Ok (now_with at (in_env at.instance env))) next e in
    subst (λ (x : Progress). Ready (after_statement c (given p groups)) x.instance) (ok_is b.2) (made b.0 b.1)
  where
    made : (env : Env) → bind_givens mode p params groups at.instance.env ≡ Ok env → Ready (after_statement c (given p groups)) (in_env at.instance env)
    made env q = groups_ready mode p params groups c at.instance env r h q
statement_ready mode params c at next (decided p groups) r h e =
    let b : _ = both_ok (or_refuse (undefined_at model_text p) (bound_finds mode at.instance.env groups)) (λ fs. Ok (now_with at (with_finds at.instance fs))) next
    (unless_ok (limits_met mode (met_groups mode at.instance.env groups)) _ next e) in
    subst (λ (x : Progress). Ready (after_statement c (decided p groups)) x.instance) (ok_is b.2) (made b.0 (given_is (undefined_at model_text p) _ b.0 b.1))
  where
    made : (fs : List Find) → bound_finds mode at.instance.env groups ≡ Some fs → Ready (after_statement c (decided p groups)) (with_finds at.instance fs)
    made fs q = finds_ready mode groups c at.instance fs r h q
statement_ready mode params c at next (letting p name q d x) r h e =
    let b : _ = both_ok (bind_letting mode model_text at.instance.env (letting p name q d x)) (λ env. Ok (now_with at (in_env at.instance env))) next e in
    subst (λ (y : Progress). Ready (after_statement c (letting p name q d x)) y.instance) (ok_is b.2) (letting_ready mode model_text c at.instance p q name d x b.0 r h b.1)
statement_ready mode params c at next (domain_letting p name q d) r h e =
    let b : _ = both_ok (bind_letting mode model_text at.instance.env (domain_letting p name q d)) (λ env. Ok (now_with at (in_env at.instance env))) next e in
    subst (λ (y : Progress). Ready (after_statement c (domain_letting p name q d)) y.instance) (ok_is b.2) (domain_letting_ready mode model_text c at.instance p q name d b.0 r h b.1)
statement_ready mode params c at next (requirements p es) r h e =
    subst (λ (y : Progress). Ready (after_statement c (requirements p es)) y.instance)
    (ok_is (unless_ok (first_false mode at.instance.env at.next_where es) _ next (unless_ok (limits_met mode (met_in mode at.instance.env es)) _ next e))) made
  where
    made : Ready (after_statement c (requirements p es)) at.instance
    made = r
statement_ready mode params c at next (constraints p es) r h e = subst (λ (y : Progress). Ready (after_statement c (constraints p es)) y.instance) (ok_is e) made
  where
    made : Ready (after_statement c (constraints p es)) (with_clauses at.instance es)
    made = clauses_ready c at.instance es r h
statement_ready mode params c at next (objective p sense x) r h e = subst (λ (y : Progress). Ready (after_statement c (objective p sense x)) y.instance) (ok_is e) made
  where
    made : Ready (after_statement c (objective p sense x)) (with_goal at.instance sense x)
    made = goal_ready c at.instance sense x r h
statement_ready mode params c at next (branching p names) r h e = subst (λ (y : Progress). Ready (after_statement c (branching p names)) y.instance) (ok_is e) made
  where
    made : Ready (after_statement c (branching p names)) at.instance
    made = r
statement_ready mode params c at next (heuristic p name) r h e = subst (λ (y : Progress). Ready (after_statement c (heuristic p name)) y.instance) (ok_is e) made
  where
    made : Ready (after_statement c (heuristic p name)) at.instance
    made = r
