-- The values of decision variables are small: their domains' ends are numbers of nodes that no limit refuses.
use Rattle.std.proofs.Common.{◌≡◌, ◌∙◌, Bool, true, false, ◌||◌, ◌&&◌, ℤ, pos, negsuc, List, [], ◌∷◌, ◌++◌, Option, Some, None, refl, sym, ap, subst, map, arith, bytes_eq, int_le, if◌then◌else◌, All}
use Rattle.std.specs.Prelude.{IfOk, Result, Ok, Err, flat_map, option_and_then, option_to_list}
use Rattle.std.specs.List.{list_any}
use Rattle.std.specs.Ordering.{int_eq}
use Rattle.std.proofs.lemmas.Int.{ints}
use Rattle.std.proofs.lemmas.Grind.{flat_map-append}
use Rattle.std.proofs.lemmas.List.Elements.{All-append, All-cons, All-head, All-nil, All-tail}
use Rattle.ep_base.specs.Numbers.{absolute_of, has_number}
use Rattle.ep_base.specs.Options.{map_both, on_both}
use Rattle.ep_base.specs.Reads.{IsWithinNumbers, is_too_far}
use Rattle.ep_base.specs.declared.names.Name.{Name}
use Rattle.ep_base.specs.declared.operators.Limit.{Limit}
use Rattle.ep_base.specs.declared.places.Place.{Place}
use Rattle.ep_tree_laws.proofs.Shapes.{shape_parts}
use Rattle.ep_tree.proofs.DomainLaws.{between-has, put_in-has, set_values-has, united-has}
use Rattle.ep_tree.proofs.TypedParts.{map_is, no_some, some_is, then_is}
use Rattle.ep_tree.specs.Binding.{Find, Instance, Progress, Refusal, Shape, TextName, and_next, bind, bind_givens, bind_letting, bind_names, bind_params, bind_statement, bind_statements, bound_finds, element_values, first_false, fitted_into, group_finds, in_env, letting_bound, limits_met, met_groups, met_in, met_stated, model_text, nothing_bound, now_with, numbers_bound, or_refuse, outside_domain, over_limit, parameter_text, shape_bound, shape_of, undefined_at, unless_any, with_clauses, with_finds, with_goal}
use Rattle.ep_tree.specs.Domains.{between, put_in, set_has, set_values, truth_values, united}
use Rattle.ep_tree.specs.Environments.{Bound, Env, has_cells, has_domain, has_value, domain_bound, shape_type}
use Rattle.ep_tree.specs.Evaluation.{domain_values, end_value, evaluate, number_in, over_names, range_values, type_in}
use Rattle.ep_tree.specs.Faults.{lettings_of}
use Rattle.ep_tree.specs.Limits.{limits_of_values, numbers_at}
use Rattle.ep_tree.specs.Measures.{Met, met, met_domain, met_domains, met_end, met_names, met_ranges}
use Rattle.ep_tree.specs.Names.{nothing_known, put}
use Rattle.ep_tree.specs.Statements.{Group, StatementTree, TextTree, branching, constraints, decided, domain_letting, given, heuristic, letting, objective, requirements}
use Rattle.ep_tree.specs.Trees.{DomainTree, End, ExprTree, Ranges, absolute, all_different, all_of, any_of, at_least, at_most, binary, bool, chain, compare, comprehension, end_at, factorial, flatten, folded, gcc, group, group_domain, in_domain, in_set, int, lex, literal, matrix_domain, minus, named, named_domain, negation, no_end, no_ranges, number, one_and, quantified, ranges, read, set_domain, span_and, table, to_int, truth}
use Rattle.ep_tree.specs.Values.{ValueTree}
use Rattle.ep_tree.specs.declared.syntax.FoldOp.{FoldOp}
use Rattle.ep_tree.specs.declared.syntax.QuantOp.{QuantOp}
use Rattle.ep_tree.specs.declared.syntax.SetOp.{SetOp}
use Rattle.ep_tree.specs.declared.values.Mode.{Mode}
use Rattle.ep_tree.specs.declared.values.ValueType.{ValueType}
use Rattle.ep_instance_parts.proofs.ShapeSteps.{given_is}
use Rattle.ep_instance_parts.specs.Refusals.{BindsTo}
use Rattle.ep_instance_parts.specs.declared.errors.BindError.{BindError}
use Rattle.ep_instance.specs.Steps.{group_said, named_said}
use Rattle.ep_instance.proofs.BindSteps.{both_ok, group_parts, named_put, next_group, next_name, unless_ok}
use Rattle.ep_instance.proofs.ParamSteps.{named_at}
use Rattle.ep_instance.proofs.ProgressSteps.{bind_is}

-- ---- numbers

both_are : (a b : Bool) → (a || b) ≡ false → (a ≡ false) × (b ≡ false)
both_are false b h = (refl, h)
both_are true b h = absurd cc

-- a number that is not too far is within the numbers
near_number : (n : ℤ) → is_too_far n ≡ false → IsWithinNumbers n
unfolding is_too_far absolute_of
near_number (pos k) h = (grind (arith, ints), grind (arith, ints))
near_number (negsuc k) h = (grind (arith, ints), grind (arith, ints))

-- each number of a list is within the numbers
abbrev AreSmall : List ℤ → Type 0
AreSmall xs = (x : ℤ) → has_number xs x ≡ true → IsWithinNumbers x

-- the nodes have no number that is too far
abbrev AreNear : Mode → List Met → Type 0
AreNear mode ms = list_any is_too_far (flat_map (numbers_at mode) ms) ≡ false

any_append : (f : ℤ → Bool) (xs ys : List ℤ) → list_any f (xs ++ ys) ≡ (list_any f xs || list_any f ys)
any_append f [] ys = refl
any_append f (x ∷ xs) ys = ap (λ b. f x || b) (any_append f xs ys) ∙ group_or (f x) (list_any f xs) (list_any f ys)
  where
    group_or : (a b c : Bool) → (a || (b || c)) ≡ ((a || b) || c)
    group_or true b c = refl
    group_or false b c = refl

near_parts : (mode : Mode) (ms ns : List Met) → AreNear mode (ms ++ ns) → AreNear mode ms × AreNear mode ns
near_parts mode ms ns h =
    both_are (list_any is_too_far (flat_map (numbers_at mode) ms)) (list_any is_too_far (flat_map (numbers_at mode) ns))
    (sym (ap (list_any is_too_far) (flat_map-append (numbers_at mode) ms ns) ∙ any_append is_too_far (flat_map (numbers_at mode) ms) (flat_map (numbers_at mode) ns)) ∙ h)

-- ---- the number of a node

first_number : (o : Option ℤ) (n : ℤ) (more : List ℤ) → o ≡ Some n → list_any is_too_far (option_to_list o ++ more) ≡ false → is_too_far n ≡ false
first_number o n more h far =
    (both_are (is_too_far n) (list_any is_too_far more) (sym (ap (λ x. list_any is_too_far (option_to_list x ++ more)) h) ∙ far)).0

product_number : (o : Option ℤ) (n : ℤ) (products more : List ℤ) → o ≡ Some n → list_any is_too_far ((option_to_list o ++ products) ++ more) ≡ false → is_too_far n ≡ false
product_number o n products more h far =
    (both_are (is_too_far n) (list_any is_too_far (products ++ more)) (sym (ap (λ x. list_any is_too_far ((option_to_list x ++ products) ++ more)) h) ∙ far)).0

quantified_none : (mode : Mode) (env : Env) (p : Place) (op : QuantOp) (d : DomainTree) (e : ExprTree) (n : ℤ) → number_in (evaluate mode env (quantified p op [] d e)) ≡ Some n → number_in (evaluate mode env e) ≡ Some n
unfolding evaluate over_names
quantified_none mode env p op d e n h = h

-- the number of an expression is that of its own node
own_number : (mode : Mode) (env : Env) (e : ExprTree) (n : ℤ) → number_in (evaluate mode env e) ≡ Some n → AreNear mode (met mode env e) → is_too_far n ≡ false
unfolding met met_names numbers_at
own_number mode env (number p k) n h near = first_number (number_in (evaluate mode env (number p k))) n _ h near
own_number mode env (truth p b) n h near = first_number (number_in (evaluate mode env (truth p b))) n _ h near
own_number mode env (named p name) n h near = first_number (number_in (evaluate mode env (named p name))) n _ h near
own_number mode env (group p e) n h near = first_number (number_in (evaluate mode env (group p e))) n _ h near
own_number mode env (negation p e) n h near = first_number (number_in (evaluate mode env (negation p e))) n _ h near
own_number mode env (minus p e) n h near = first_number (number_in (evaluate mode env (minus p e))) n _ h near
own_number mode env (absolute p e) n h near = first_number (number_in (evaluate mode env (absolute p e))) n _ h near
own_number mode env (to_int p e) n h near = first_number (number_in (evaluate mode env (to_int p e))) n _ h near
own_number mode env (factorial p e) n h near = first_number (number_in (evaluate mode env (factorial p e))) n _ h near
own_number mode env (flatten p m) n h near = first_number (number_in (evaluate mode env (flatten p m))) n _ h near
own_number mode env (chain p terms) n h near = first_number (number_in (evaluate mode env (chain p terms))) n _ h near
own_number mode env (binary p op a b) n h near = first_number (number_in (evaluate mode env (binary p op a b))) n _ h near
own_number mode env (compare p op a b) n h near = first_number (number_in (evaluate mode env (compare p op a b))) n _ h near
own_number mode env (lex p op a b) n h near = first_number (number_in (evaluate mode env (lex p op a b))) n _ h near
own_number mode env (in_domain p e d) n h near = first_number (number_in (evaluate mode env (in_domain p e d))) n _ h near
own_number mode env (in_set p e m) n h near = first_number (number_in (evaluate mode env (in_set p e m))) n _ h near
own_number mode env (all_of p parts) n h near = first_number (number_in (evaluate mode env (all_of p parts))) n _ h near
own_number mode env (any_of p parts) n h near = first_number (number_in (evaluate mode env (any_of p parts))) n _ h near
own_number mode env (quantified p op [] d e) n h near = own_number mode env e n (quantified_none mode env p op d e n h) near
own_number mode env (quantified p op (name ∷ names) d e) n h near = first_number (number_in (evaluate mode env (quantified p op (name ∷ names) d e))) n _ h near
own_number mode env (literal p parts d) n h near = first_number (number_in (evaluate mode env (literal p parts d))) n _ h near
own_number mode env (comprehension p e gens conditions d) n h near = first_number (number_in (evaluate mode env (comprehension p e gens conditions d))) n _ h near
own_number mode env (read p m indices) n h near = first_number (number_in (evaluate mode env (read p m indices))) n _ h near
own_number mode env (folded p FoldOp.Product m) n h near = product_number (number_in (evaluate mode env (folded p FoldOp.Product m))) n _ _ h near
own_number mode env (folded p FoldOp.Sum m) n h near = first_number (number_in (evaluate mode env (folded p FoldOp.Sum m))) n _ h near
own_number mode env (folded p FoldOp.And m) n h near = first_number (number_in (evaluate mode env (folded p FoldOp.And m))) n _ h near
own_number mode env (folded p FoldOp.Or m) n h near = first_number (number_in (evaluate mode env (folded p FoldOp.Or m))) n _ h near
own_number mode env (folded p FoldOp.Min m) n h near = first_number (number_in (evaluate mode env (folded p FoldOp.Min m))) n _ h near
own_number mode env (folded p FoldOp.Max m) n h near = first_number (number_in (evaluate mode env (folded p FoldOp.Max m))) n _ h near
own_number mode env (all_different p m) n h near = first_number (number_in (evaluate mode env (all_different p m))) n _ h near
own_number mode env (gcc p m values counts) n h near = first_number (number_in (evaluate mode env (gcc p m values counts))) n _ h near
own_number mode env (at_least p m counts values) n h near = first_number (number_in (evaluate mode env (at_least p m counts values))) n _ h near
own_number mode env (at_most p m counts values) n h near = first_number (number_in (evaluate mode env (at_most p m counts values))) n _ h near
own_number mode env (table p row rows) n h near = first_number (number_in (evaluate mode env (table p row rows))) n _ h near

own_small : (mode : Mode) (env : Env) (e : ExprTree) (n : ℤ) → number_in (evaluate mode env e) ≡ Some n → AreNear mode (met mode env e) → IsWithinNumbers n
own_small mode env e n h near = near_number n (own_number mode env e n h near)

end_small : (mode : Mode) (env : Env) (a : End) (n : ℤ) → end_value mode env a ≡ Some n → AreNear mode (met_end mode env a) → IsWithinNumbers n
unfolding end_value met_end
end_small mode env no_end n h near = no_some h
end_small mode env (end_at e) n h near = own_small mode env e n h near

-- ---- the numbers of domains

either : (a b : Bool) {P : Type 0} → (a || b) ≡ true → (a ≡ true → P) → (b ≡ true → P) → P
either true b h one other = one refl
either false b h one other = other h

same_small : (x y : ℤ) → int_eq x y ≡ true → IsWithinNumbers y → IsWithinNumbers x
same_small x y e h = let same : y ≡ x = grind arith in subst IsWithinNumbers same h

none_small : AreSmall []
unfolding has_number
none_small x h = absurd cc

put_small : (n : ℤ) (ns : List ℤ) → IsWithinNumbers n → AreSmall ns → AreSmall (put_in n ns)
put_small n ns one all x h =
    either (int_eq x n) (has_number ns x) (sym (put_in-has x n ns) ∙ h) (λ e. same_small x n e one) (all x)

united_small : (xs ys : List ℤ) → AreSmall xs → AreSmall ys → AreSmall (united xs ys)
united_small xs ys one other x h = either (has_number xs x) (has_number ys x) (sym (united-has x xs ys) ∙ h) (one x) (other x)

between_small : (a b : ℤ) → IsWithinNumbers a → IsWithinNumbers b → AreSmall (between a b)
between_small a b low high x h = ends (sym (between-has x a b) ∙ h)
  where
    ends : (int_le a x && int_le x b) ≡ true → IsWithinNumbers x
    ends both = (grind (arith, ints), grind (arith, ints))

set_small : (op : SetOp) (xs ys : List ℤ) → AreSmall xs → AreSmall ys → AreSmall (set_values op xs ys)
unfolding set_has
set_small op xs ys one other x h = go op (has_number xs x) (has_number ys x) (sym (set_values-has op xs ys x) ∙ h) (one x) (other x)
  where
    go : (op : SetOp) (a b : Bool) → set_has op a b ≡ true → (a ≡ true → IsWithinNumbers x) → (b ≡ true → IsWithinNumbers x) → IsWithinNumbers x
    go SetOp.Union a b h one other = either a b h one other
    go SetOp.Intersect true b h one other = one refl
    go SetOp.Intersect false b h one other = absurd cc
    go SetOp.Minus true b h one other = one refl
    go SetOp.Minus false b h one other = absurd cc

truths_small : AreSmall truth_values
unfolding has_number
truths_small x h =
    either (int_eq x (pos 0)) (int_eq x (pos 1) || false) h (λ e. same_small x (pos 0) e (grind (arith, ints), grind (arith, ints)))
    (λ k. either (int_eq x (pos 1)) false k (λ e. same_small x (pos 1) e (grind (arith, ints), grind (arith, ints))) (λ f. absurd cc))

range_small : (mode : Mode) (env : Env) (rs : Ranges) (values : List ℤ) → range_values mode env rs ≡ Some values → AreNear mode (met_ranges mode env rs) → AreSmall values
unfolding range_values map_both met_ranges
range_small mode env no_ranges values e near = subst AreSmall (some_is e) none_small
range_small mode env (one_and first rs) values e near =
    let parts : _ = near_parts mode (met mode env first) (met_ranges mode env rs) near in
    go (number_in (evaluate mode env first)) (range_values mode env rs) (λ n h. own_small mode env first n h parts.0) (λ vs h. range_small mode env rs vs h parts.1) refl refl e
  where
    go : (n : Option ℤ) (ns : Option (List ℤ)) → ((k : ℤ) → number_in (evaluate mode env first) ≡ Some k → IsWithinNumbers k) → ((vs : List ℤ) → range_values mode env rs ≡ Some vs → AreSmall vs)
        → number_in (evaluate mode env first) ≡ n → range_values mode env rs ≡ ns → map_both put_in n ns ≡ Some values → AreSmall values
    go None ns one rest p q e = no_some e
    go (Some n) None one rest p q e = no_some e
    go (Some n) (Some ns) one rest p q e = subst AreSmall (some_is e) (put_small n ns (one n p) (rest ns q))
range_small mode env (span_and a b rs) values e near =
    let parts : _ = near_parts mode (met_end mode env a ++ met_end mode env b) (met_ranges mode env rs) near in
    let ends : _ = near_parts mode (met_end mode env a) (met_end mode env b) parts.0 in
    go (end_value mode env a) (end_value mode env b) (range_values mode env rs) (λ n h. end_small mode env a n h ends.0) (λ n h. end_small mode env b n h ends.1)
    (λ vs h. range_small mode env rs vs h parts.1) refl refl refl e
  where
    go : (u v : Option ℤ) (ns : Option (List ℤ)) → ((k : ℤ) → end_value mode env a ≡ Some k → IsWithinNumbers k) → ((k : ℤ) → end_value mode env b ≡ Some k → IsWithinNumbers k)
        → ((vs : List ℤ) → range_values mode env rs ≡ Some vs → AreSmall vs)
        → end_value mode env a ≡ u → end_value mode env b ≡ v → range_values mode env rs ≡ ns → map_both united (map_both between u v) ns ≡ Some values → AreSmall values
    go None v ns low high rest p q r e = no_some e
    go (Some u) None ns low high rest p q r e = no_some e
    go (Some u) (Some v) None low high rest p q r e = no_some e
    go (Some u) (Some v) (Some ns) low high rest p q r e = subst AreSmall (some_is e) (united_small (between u v) ns (between_small u v (low u p) (high v q)) (rest ns r))

-- ---- what names stand for

-- the numbers of a domain's name are small
unfoldable pub SmallBound : Option Bound → Type 0
SmallBound (Some (has_domain s is values)) = AreSmall values
SmallBound _ = Unit {0}

abbrev SmallEnv : Env → Type 0
SmallEnv env = (name : Name) → SmallBound (env name)

named_small : (o : Option Bound) (values : List ℤ) → SmallBound o → numbers_bound o ≡ Some values → AreSmall values
unfolding SmallBound numbers_bound
named_small None values h e = no_some e
named_small (Some (has_value t v)) values h e = no_some e
named_small (Some (has_cells s is vs)) values h e = no_some e
named_small (Some (has_domain s is vs)) values h e = subst AreSmall (some_is e) h

scalar_small : (o : Option Bound) (values : List ℤ) → SmallBound o → domain_bound o ≡ Some values → AreSmall values
unfolding SmallBound domain_bound
scalar_small None values h e = no_some e
scalar_small (Some (has_value t v)) values h e = no_some e
scalar_small (Some (has_cells s is vs)) values h e = no_some e
scalar_small (Some (has_domain s [] vs)) values h e = subst AreSmall (some_is e) h
scalar_small (Some (has_domain s (i ∷ is) vs)) values h e = no_some e

domain_small : (mode : Mode) (env : Env) → SmallEnv env → (d : DomainTree) (values : List ℤ) → domain_values mode env d ≡ Some values → AreNear mode (met_domain mode env d) → AreSmall values
unfolding domain_values map_both met_domain
domain_small mode env k (bool p) values e near = subst AreSmall (some_is e) truths_small
domain_small mode env k (int p) values e near = no_some e
domain_small mode env k (ranges p rs) values e near = range_small mode env rs values e near
domain_small mode env k (named_domain p name) values e near = scalar_small (env name) values (k name) e
domain_small mode env k (group_domain p d) values e near = domain_small mode env k d values e near
domain_small mode env k (set_domain p op c d) values e near =
    let parts : _ = near_parts mode (met_domain mode env c) (met_domain mode env d) near in
    go (domain_values mode env c) (domain_values mode env d) (λ vs h. domain_small mode env k c vs h parts.0) (λ vs h. domain_small mode env k d vs h parts.1) refl refl e
  where
    go : (xs ys : Option (List ℤ)) → ((vs : List ℤ) → domain_values mode env c ≡ Some vs → AreSmall vs) → ((vs : List ℤ) → domain_values mode env d ≡ Some vs → AreSmall vs)
        → domain_values mode env c ≡ xs → domain_values mode env d ≡ ys → map_both (set_values op) xs ys ≡ Some values → AreSmall values
    go None ys one other p q e = no_some e
    go (Some xs) None one other p q e = no_some e
    go (Some xs) (Some ys) one other p q e = subst AreSmall (some_is e) (set_small op xs ys (one xs p) (other ys q))
domain_small mode env k (matrix_domain p ds d) values e near = no_some e

elements_small : (mode : Mode) (env : Env) → SmallEnv env → (d : DomainTree) (values : List ℤ) → element_values mode env d ≡ Some values → AreNear mode (met_domain mode env d) → AreSmall values
unfolding element_values met_domain
elements_small mode env k (bool p) values e near = domain_small mode env k (bool p) values e near
elements_small mode env k (int p) values e near = domain_small mode env k (int p) values e near
elements_small mode env k (ranges p rs) values e near = domain_small mode env k (ranges p rs) values e near
elements_small mode env k (named_domain p name) values e near = named_small (env name) values (k name) e
elements_small mode env k (group_domain p d) values e near = elements_small mode env k d values e near
elements_small mode env k (set_domain p op c d) values e near = domain_small mode env k (set_domain p op c d) values e near
elements_small mode env k (matrix_domain p ds d) values e near =
    elements_small mode env k d values e (near_parts mode (met_domains mode env ds) (met_domain mode env d) near).1

-- ---- limits that are kept

unless_none : {A : Type 0} (rs : List Refusal) (answer : Result A (List Refusal)) (x : A) → unless_any rs answer ≡ Ok x → rs ≡ []
unfolding unless_any
unless_none [] answer x h = refl
unless_none (r ∷ rs) answer x h = absurd cc

near_within : (mode : Mode) (ms : List Met) → limits_met mode ms ≡ [] → AreNear mode ms
unfolding limits_met limits_of_values
near_within mode ms h = go (list_any is_too_far (flat_map (numbers_at mode) ms)) _ refl h
  where
    go : (far : Bool) (sizes : List Limit) → list_any is_too_far (flat_map (numbers_at mode) ms) ≡ far
        → map over_limit (sizes ++ (if far then Limit.Reach ∷ [] else [])) ≡ [] → list_any is_too_far (flat_map (numbers_at mode) ms) ≡ false
    go false sizes p h = p
    go true [] p h = absurd cc
    go true (l ∷ ls) p h = absurd cc

-- ---- statements

ok_same : {A B : Type 0} {y z : A} → ◌≡◌ {A = Result A B} (Ok y) (Ok z) → y ≡ z
ok_same q = cc

put_small_bound : (name : Name) (b : Bound) (env : Env) → SmallBound (Some b) → SmallEnv env → SmallEnv (put name b env)
put_small_bound name b env one k other = go (bytes_eq other name)
  where
    go : (same : Bool) → SmallBound (if same then Some b else env other)
    go true = one
    go false = k other

value_small : (name : Name) (t : ValueType) (v : ValueTree) (env : Env) → SmallEnv env → SmallEnv (put name (has_value t v) env)
unfolding SmallBound
value_small name t v env k = put_small_bound name (has_value t v) env tt k

names_small : (params : Env) (shape : Shape) (xs : List (Name × Place)) (env next : Env) → SmallEnv env → bind_names params shape xs env ≡ Ok next → SmallEnv next
unfolding bind_names
names_small params shape [] env next k h = subst SmallEnv (ok_same h) k
names_small params shape (x ∷ xs) env next k h =
    let b : _ = both_ok _ (λ e. bind_names params shape xs e) next (sym (next_name params shape x xs env) ∙ h) in
    let p : _ = named_put params shape x.0 env b.0 b.1 in
    names_small params shape xs b.0 next (subst SmallEnv p.4 (value_small x.0 (shape_type shape.scalar shape.indices) p.2 env k)) b.2

groups_small : (mode : Mode) (p : Place) (params : Env) (gs : List Group) (env next : Env) → SmallEnv env → bind_givens mode p params gs env ≡ Ok next → SmallEnv next
unfolding bind_givens
groups_small mode p params [] env next k h = subst SmallEnv (ok_same h) k
groups_small mode p params (g ∷ gs) env next k h =
    let b : _ = both_ok (group_said mode p params g env) (λ x. bind_givens mode p params gs x) next (sym (next_group mode p params g gs env) ∙ h) in
    let s : _ = group_parts mode p params g env b.0 b.1 in
    groups_small mode p params gs b.0 next (names_small params s.0 g.names env b.0 k s.2) b.2

-- the values of each decision variable are small
abbrev SmallFinds : List Find → Type 0
SmallFinds fs = All (λ (f : Find). AreSmall f.values) fs

group_small : (shape : Shape) (values : List ℤ) → AreSmall values → (xs : List (Name × Place)) → SmallFinds (group_finds shape values xs)
unfolding group_finds
group_small shape values h [] = All-nil (λ (f : Find). AreSmall f.values)
group_small shape values h (x ∷ xs) =
    All-cons (λ (f : Find). AreSmall f.values) (record { name = x.0; scalar = shape.scalar; indices = shape.indices; values = values }) (group_finds shape values xs) h (group_small shape values h xs)

finds_small : (mode : Mode) (env : Env) → SmallEnv env → (gs : List Group) (fs : List Find) → AreNear mode (met_groups mode env gs) → bound_finds mode env gs ≡ Some fs → SmallFinds fs
unfolding bound_finds met_groups on_both
finds_small mode env k [] fs near e = subst SmallFinds (some_is e) (All-nil (λ (f : Find). AreSmall f.values))
finds_small mode env k (g ∷ gs) fs near e =
    let parts : _ = near_parts mode (met_domain mode env g.domain) (met_groups mode env gs) near in
    let s : _ = then_is (λ (shape : Shape). on_both shape.values (bound_finds mode env gs) (λ values rest. Some (group_finds shape values g.names ++ rest))) (shape_of mode env g.domain) fs e in
    go s.0 s.0.values (bound_finds mode env gs) (λ vs h. elements_small mode env k g.domain vs ((shape_parts mode env g.domain s.0 s.1).3 ∙ h) parts.0)
    (λ rest h. finds_small mode env k gs rest parts.1 h) refl refl s.2
  where
    go : (shape : Shape) (v : Option (List ℤ)) (o : Option (List Find)) → ((vs : List ℤ) → shape.values ≡ Some vs → AreSmall vs) → ((rest : List Find) → bound_finds mode env gs ≡ Some rest → SmallFinds rest)
        → shape.values ≡ v → bound_finds mode env gs ≡ o → on_both v o (λ values rest. Some (group_finds shape values g.names ++ rest)) ≡ Some fs → SmallFinds fs
    go shape None o one others p q e = no_some e
    go shape (Some values) None one others p q e = no_some e
    go shape (Some values) (Some rest) one others p q e =
        subst SmallFinds (some_is e) (All-append (λ (f : Find). AreSmall f.values) (group_finds shape values g.names) rest (group_small shape values (one values p) g.names) (others rest q))

bound_is : (shape : Shape) (b : Bound) → ((vs : List ℤ) → shape.values ≡ Some vs → AreSmall vs) → shape_bound shape ≡ Some b → SmallBound (Some b)
unfolding shape_bound SmallBound
bound_is shape b one q =
    let p : _ = map_is (has_domain shape.scalar shape.indices) shape.values b q in
    subst (λ x. SmallBound (Some x)) p.2 (one p.0 p.1)

named_domain_small : (mode : Mode) (env next : Env) (r : Refusal) (name : Name) (d : DomainTree) → SmallEnv env → named_said mode r env name d ≡ Ok next → SmallEnv next
named_domain_small mode env next r name d k h =
    let near : AreNear mode (met_domain mode env d) = near_within mode (met_domain mode env d) (unless_none (limits_met mode (met_domain mode env d)) _ next h) in
    let b : _ = both_ok (or_refuse r (option_and_then shape_bound (shape_of mode env d))) (λ x. Ok (put name x env)) next (unless_ok (limits_met mode (met_domain mode env d)) _ next h) in
    let s : _ = then_is shape_bound (shape_of mode env d) b.0 (given_is r _ b.0 b.1) in
    subst SmallEnv (ok_same b.2) (put_small_bound name b.0 env (bound_is s.0 b.0 (λ vs q. elements_small mode env k d vs ((shape_parts mode env d s.0 s.1).3 ∙ q) near) s.2) k)

value_bound_small : (mode : Mode) (env : Env) (r : Refusal) (name : Name) (d : Option DomainTree) (e : ExprTree) (v : ValueTree) (b : Bound) → letting_bound mode env r name d e v ≡ Ok b → SmallBound (Some b)
unfolding letting_bound SmallBound
value_bound_small mode env r name None e v b q = subst (λ x. SmallBound (Some x)) (ok_same q) tt
value_bound_small mode env r name (Some d) e v b q =
    let s : _ = both_ok (or_refuse r (shape_of mode env d)) (λ shape. and_next (or_refuse (outside_domain name) (fitted_into shape (type_in env e) v)) (λ fit. Ok (has_value (shape_type shape.scalar shape.indices) fit))) b q in
    let f : _ = both_ok (or_refuse (outside_domain name) (fitted_into s.0 (type_in env e) v)) (λ fit. Ok (has_value (shape_type s.0.scalar s.0.indices) fit)) b s.2 in
    subst (λ x. SmallBound (Some x)) (ok_same f.2) tt

letting_small : (mode : Mode) (text : TextName) (p at : Place) (env next : Env) (name : Name) (d : Option DomainTree) (e : ExprTree) → SmallEnv env → bind_letting mode text env (letting p name at d e) ≡ Ok next → SmallEnv next
unfolding bind_letting
letting_small mode text p at env next name d e k h =
    let a : _ = both_ok (or_refuse (undefined_at text p) (evaluate mode env e)) (λ v. and_next (letting_bound mode env (undefined_at text p) name d e v) (λ b. Ok (put name b env))) next
    (unless_ok (limits_met mode (met_stated mode env d ++ met mode env e)) _ next h) in
    let b : _ = both_ok (letting_bound mode env (undefined_at text p) name d e a.0) (λ b. Ok (put name b env)) next a.2 in
    subst SmallEnv (ok_same b.2) (put_small_bound name b.0 env (value_bound_small mode env (undefined_at text p) name d e a.0 b.0 b.1) k)

-- an instance whose decision variables have small values, as have those that its domains' names would give
pub record SmallInstance (i : Instance) : Type 0 where
  pub names : SmallEnv i.env
  pub finds : SmallFinds i.finds

statement_small : (mode : Mode) (params : Env) (at next : Progress) (s : StatementTree) → SmallInstance at.instance → bind_statement mode params at s ≡ Ok next → SmallInstance next.instance
unfolding bind_statement now_with in_env with_finds with_clauses with_goal
statement_small mode params at next (given p groups) k e =
    let b : _ = both_ok (bind_givens mode p params groups at.instance.env) (λ env. Ok (now_with at (in_env at.instance env))) next e in
    subst (λ (x : Progress). SmallInstance x.instance) (ok_same b.2) (record { names = groups_small mode p params groups at.instance.env b.0 k.names b.1; finds = k.finds })
statement_small mode params at next (decided p groups) k e =
    let b : _ = both_ok (or_refuse (undefined_at model_text p) (bound_finds mode at.instance.env groups)) (λ fs. Ok (now_with at (with_finds at.instance fs))) next
    (unless_ok (limits_met mode (met_groups mode at.instance.env groups)) _ next e) in
    let near : AreNear mode (met_groups mode at.instance.env groups) = near_within mode (met_groups mode at.instance.env groups) (unless_none (limits_met mode (met_groups mode at.instance.env groups)) _ next e) in
    let more : SmallFinds b.0 = finds_small mode at.instance.env k.names groups b.0 near (given_is (undefined_at model_text p) _ b.0 b.1) in
    subst (λ (x : Progress). SmallInstance x.instance) (ok_same b.2) (record { names = k.names; finds = All-append (λ (f : Find). AreSmall f.values) at.instance.finds b.0 k.finds more })
statement_small mode params at next (letting p name q d x) k e =
    let b : _ = both_ok (bind_letting mode model_text at.instance.env (letting p name q d x)) (λ env. Ok (now_with at (in_env at.instance env))) next e in
    subst (λ (y : Progress). SmallInstance y.instance) (ok_same b.2) (record { names = letting_small mode model_text p q at.instance.env b.0 name d x k.names b.1; finds = k.finds })
statement_small mode params at next (domain_letting p name q d) k e =
    let b : _ = both_ok (bind_letting mode model_text at.instance.env (domain_letting p name q d)) (λ env. Ok (now_with at (in_env at.instance env))) next e in
    subst (λ (y : Progress). SmallInstance y.instance) (ok_same b.2)
    (record { names = named_domain_small mode at.instance.env b.0 (undefined_at model_text p) name d k.names (sym (named_at mode model_text p q at.instance.env name d) ∙ b.1); finds = k.finds })
statement_small mode params at next (requirements p es) k e =
    subst (λ (y : Progress). SmallInstance y.instance)
    (ok_same (unless_ok (first_false mode at.instance.env at.next_where es) _ next (unless_ok (limits_met mode (met_in mode at.instance.env es)) _ next e))) made
  where
    made : SmallInstance at.instance
    made = k
statement_small mode params at next (constraints p es) k e = subst (λ (y : Progress). SmallInstance y.instance) (ok_same e) (record { names = k.names; finds = k.finds })
statement_small mode params at next (objective p sense x) k e = subst (λ (y : Progress). SmallInstance y.instance) (ok_same e) (record { names = k.names; finds = k.finds })
statement_small mode params at next (branching p names) k e = subst (λ (y : Progress). SmallInstance y.instance) (ok_same e) (record { names = k.names; finds = k.finds })
statement_small mode params at next (heuristic p name) k e = subst (λ (y : Progress). SmallInstance y.instance) (ok_same e) (record { names = k.names; finds = k.finds })

statements_small : (mode : Mode) (params : Env) (ss : TextTree) (at next : Progress) → SmallInstance at.instance → bind_statements mode params at ss ≡ Ok next → SmallInstance next.instance
unfolding bind_statements
statements_small mode params [] at next k h = subst (λ (y : Progress). SmallInstance y.instance) (ok_same h) k
statements_small mode params (s ∷ ss) at next k h =
    let b : _ = both_ok (bind_statement mode params at s) (λ x. bind_statements mode params x ss) next h in
    statements_small mode params ss b.0 next (statement_small mode params at b.0 s k b.1) b.2

nothing_small : SmallInstance nothing_bound.instance
unfolding SmallBound
nothing_small = record { names = λ name. tt; finds = All-nil (λ (f : Find). AreSmall f.values) }

first_has : (x : ℤ) (xs : List ℤ) → has_number (x ∷ xs) x ≡ true
unfolding has_number
first_has x xs = let same : int_eq x x ≡ true = grind (arith, ints) in ap (λ b. b || list_any (λ y. int_eq x y) xs) same

later_has : (x y : ℤ) (xs : List ℤ) → has_number xs y ≡ true → has_number (x ∷ xs) y ≡ true
unfolding has_number
later_has x y xs h = go (int_eq y x)
  where
    go : (b : Bool) → (b || list_any (λ z. int_eq y z) xs) ≡ true
    go true = refl
    go false = h

all_small : (xs : List ℤ) → AreSmall xs → All IsWithinNumbers xs
all_small [] h = All-nil IsWithinNumbers
all_small (x ∷ xs) h = All-cons IsWithinNumbers x xs (h x (first_has x xs)) (all_small xs (λ y g. h y (later_has x y xs g)))

all_finds : (fs : List Find) → SmallFinds fs → All (λ (f : Find). All IsWithinNumbers f.values) fs
all_finds [] h = All-nil (λ (f : Find). All IsWithinNumbers f.values)
all_finds (f ∷ fs) h =
    All-cons (λ (f : Find). All IsWithinNumbers f.values) f fs (all_small f.values (All-head (λ (f : Find). AreSmall f.values) f fs h)) (all_finds fs (All-tail (λ (f : Find). AreSmall f.values) f fs h))

-- the values of the decision variables that binding gives are small
pub bound_small : (mode : Mode) (model params : TextTree) (i : Instance) → bind mode model params ≡ Ok i → All (λ (f : Find). All IsWithinNumbers f.values) i.finds
bound_small mode model params i h =
    let a : _ = both_ok (bind_params mode parameter_text nothing_known (lettings_of params)) (λ known. and_next (bind_statements mode known nothing_bound model) (λ at. Ok at.instance)) i (sym (bind_is mode model params) ∙ h) in
    let b : _ = both_ok (bind_statements mode a.0 nothing_bound model) (λ at. Ok at.instance) i a.2 in
    let k : SmallInstance b.0.instance = statements_small mode a.0 model nothing_bound b.0 nothing_small b.1 in
    all_finds i.finds (subst (λ (x : Instance). SmallFinds x.finds) (ok_same b.2) k.finds)

-- the same of an answer
pub answer_small : {V : Type 0} (view : V → Instance) (answer : Result V BindError) (mode : Mode) (model params : TextTree) → BindsTo view answer (bind mode model params)
    → IfOk answer (λ v. All (λ (f : Find). All IsWithinNumbers f.values) (view v).finds)
answer_small view (Ok v) mode model params h = bound_small mode model params (view v) h
answer_small view (Err e) mode model params h = tt
