-- What is bound is what the texts make.
use Rattle.std.specs.Prelude.{◌≡◌, ℕ, ◌+◌, Bool, true, false, ◌&&◌, List, [], ◌∷◌, ◌++◌, length, Some, None, Ok, Err, Option, Result, option_map, option_and_then, option_to_list, if◌then◌else◌, is_some}
use Rattle.std.specs.List.{All, list_all}
use Rattle.std.proofs.Common.{◌⊎◌, ap, inl, inr, map, sym, ◌∙◌, refl, subst}
use Rattle.std.proofs.lemmas.List.Elements.{All-cons, All-nil}
use Rattle.ep_base.specs.declared.names.Name.{Name}
use Rattle.ep_base.specs.declared.operators.Limit.{Limit}
use Rattle.ep_base.specs.declared.places.Place.{Place}
use Rattle.ep_tree.specs.Binding.{Instance, Progress, Refusal, Shape, TextName, and_next, bind, bind_givens, bind_letting, bind_names, bind_params, bind_statement, bind_statements, bound_finds, first_false, first_missing, fitted_into, given_bound, in_env, letting_bound, limits_met, met_groups, met_in, met_stated, missing_parameter, model_text, nothing_bound, now_with, or_refuse, over_limit, outside_domain, parameter, parameter_text, shape_bound, shape_of, undefined_at, unless_any, where_false, with_clauses, with_finds, with_goal}
use Rattle.ep_tree.specs.Environments.{Bound, Env, has_value, shape_type}
use Rattle.ep_tree.specs.Evaluation.{evaluate, first_untrue, is_true_in, type_in}
use Rattle.ep_tree.specs.Faults.{lettings_of}
use Rattle.ep_tree.specs.Limits.{limits_of_values}
use Rattle.ep_tree.specs.Measures.{Met, met_domain}
use Rattle.ep_tree.specs.Names.{nothing_known, put}
use Rattle.ep_tree.specs.StatementSpelling.{is_letting}
use Rattle.ep_tree.specs.Statements.{Group, StatementTree, TextTree, branching, constraints, decided, domain_letting, given, heuristic, letting, objective, requirements}
use Rattle.ep_tree.specs.Trees.{DomainTree, ExprTree}
use Rattle.ep_tree.specs.Values.{ValueTree}
use Rattle.ep_tree.specs.declared.values.Mode.{Mode}
use Rattle.ep_tree.specs.declared.values.ValueType.{ValueType}
use Rattle.ep_promise.specs.Made.{IsOverLimit, fitted_bound, groups_given, instance_after, instance_after_all, known_after, known_after_all, letting_value, made_instance, names_given}

-- What binding comes to is what is made; where it refuses for anything but limits, nothing is made.
unfoldable pub Gives : {A : Type 0} → Result A (List Refusal) → Option A → Type 0
Gives (Ok x) made = made ≡ Some x
Gives (Err rs) made = (made ≡ None) ⊎ All IsOverLimit rs

-- ---- results

value_given : {A : Type 0} (r : Refusal) (o : Option A) → Gives (or_refuse r o) o
unfolding Gives or_refuse
value_given r None = inl refl
value_given r (Some x) = refl

given_after_limits : {A : Type 0} (rs : List Refusal) (bound : Result A (List Refusal)) (made : Option A)
    → All IsOverLimit rs → Gives bound made → Gives (unless_any rs bound) made
unfolding Gives unless_any
given_after_limits [] bound made limits h = h
given_after_limits (r ∷ rs) bound made limits h = inr limits

given_unless : {A : Type 0} (rs : List Refusal) (bound : Result A (List Refusal)) (made : Option A)
    → ((r : Refusal) (more : List Refusal) → rs ≡ r ∷ more → made ≡ None) → Gives bound made → Gives (unless_any rs bound) made
unfolding Gives unless_any
given_unless [] bound made none h = h
given_unless (r ∷ rs) bound made none h = inl (none r rs refl)

given_next : {A B : Type 0} (bound : Result A (List Refusal)) (made : Option A) (next : A → Result B (List Refusal)) (more : A → Option B)
    → Gives bound made → ((x : A) → Gives (next x) (more x)) → Gives (and_next bound next) (option_and_then more made)
unfolding Gives and_next
given_next (Err rs) made next more (inl none) each = inl (ap (option_and_then more) none)
given_next (Err rs) made next more (inr limits) each = inr limits
given_next (Ok x) made next more h each = subst (λ o. Gives (next x) (option_and_then more o)) (sym h) (each x)

-- the same where what follows is sure
given_map : {A B : Type 0} (bound : Result A (List Refusal)) (made : Option A) (f : A → B)
    → Gives bound made → Gives (and_next bound (λ x. Ok (f x))) (option_map f made)
unfolding Gives and_next
given_map (Err rs) made f (inl none) = inl (ap (option_map f) none)
given_map (Err rs) made f (inr limits) = inr limits
given_map (Ok x) made f h = ap (option_map f) h

limits_only : (mode : Mode) (ms : List Met) → All IsOverLimit (limits_met mode ms)
unfolding limits_met
limits_only mode ms = go (limits_of_values mode 0 ms)
  where
    go : (limits : List Limit) → All IsOverLimit (map over_limit limits)
    go [] = All-nil IsOverLimit
    go (l ∷ ls) = All-cons IsOverLimit (over_limit l) (map over_limit ls) (l, refl) (go ls)

given_within : {A : Type 0} (mode : Mode) (ms : List Met) (bound : Result A (List Refusal)) (made : Option A)
    → Gives bound made → Gives (unless_any (limits_met mode ms) bound) made
given_within mode ms bound made h = given_after_limits (limits_met mode ms) bound made (limits_only mode ms) h

-- ---- lettings

letting_made : (mode : Mode) (env : Env) (r : Refusal) (name : Name) (d : Option DomainTree) (e : ExprTree) (v : ValueTree)
    → evaluate mode env e ≡ Some v → Gives (letting_bound mode env r name d e v) (letting_value mode env d e)
unfolding Gives letting_bound letting_value
letting_made mode env r name None e v is = ap (option_map (has_value (type_in env e))) is
letting_made mode env r name (Some d) e v is =
    subst (λ o. Gives (letting_bound mode env r name (Some d) e v) (option_and_then (λ w. option_and_then (λ shape. fitted_bound shape (type_in env e) w) (shape_of mode env d)) o)) (sym is)
    (given_next (or_refuse r (shape_of mode env d)) (shape_of mode env d) _ (λ shape. fitted_bound shape (type_in env e) v) (value_given r _)
    (λ shape. given_map (or_refuse (outside_domain name) (fitted_into shape (type_in env e) v)) (fitted_into shape (type_in env e) v) (has_value (shape_type shape.scalar shape.indices)) (value_given _ _)))

no_letting : (mode : Mode) (env : Env) (d : Option DomainTree) (e : ExprTree) → evaluate mode env e ≡ None → letting_value mode env d e ≡ None
unfolding letting_value
no_letting mode env None e is = ap (option_map (has_value (type_in env e))) is
no_letting mode env (Some d) e is =
    ap (option_and_then (λ v. option_and_then (λ shape. fitted_bound shape (type_in env e) v) (shape_of mode env d))) is

letting_put : (mode : Mode) (env : Env) (r : Refusal) (name : Name) (d : Option DomainTree) (e : ExprTree) (o : Option ValueTree)
    → evaluate mode env e ≡ o
    → Gives (and_next (or_refuse r o) (λ v. and_next (letting_bound mode env r name d e v) (λ b. Ok (put name b env)))) (option_map (λ b. put name b env) (letting_value mode env d e))
unfolding Gives or_refuse and_next
letting_put mode env r name d e None is = inl (ap (option_map (λ b. put name b env)) (no_letting mode env d e is))
letting_put mode env r name d e (Some v) is =
    given_map (letting_bound mode env r name d e v) (letting_value mode env d e) (λ b. put name b env) (letting_made mode env r name d e v is)

known_made : (mode : Mode) (text : TextName) (env : Env) (s : StatementTree) → Gives (bind_letting mode text env s) (known_after mode env s)
unfolding Gives bind_letting known_after
known_made mode text env (letting p name at d e) =
    given_within mode (met_stated mode env d ++ _) _ _ (letting_put mode env (undefined_at text p) name d e (evaluate mode env e) refl)
known_made mode text env (domain_letting p name at d) =
    given_within mode (met_domain mode env d) _ _
    (given_map (or_refuse (undefined_at text p) (option_and_then shape_bound (shape_of mode env d))) (option_and_then shape_bound (shape_of mode env d)) (λ b. put name b env) (value_given _ _))
known_made mode text env (given p gs) = refl
known_made mode text env (decided p gs) = refl
known_made mode text env (requirements p es) = refl
known_made mode text env (constraints p es) = refl
known_made mode text env (objective p sense e) = refl
known_made mode text env (branching p names) = refl
known_made mode text env (heuristic p name) = refl

all_known : (mode : Mode) (text : TextName) (env : Env) (statements : TextTree) → Gives (bind_params mode text env (lettings_of statements)) (known_after_all mode env statements)
unfolding Gives bind_params known_after_all is_letting known_after
all_known mode text env [] = refl
all_known mode text env (letting p name at d e ∷ rest) =
    given_next (bind_letting mode text env (letting p name at d e)) (known_after mode env (letting p name at d e)) _ _ (known_made mode text env (letting p name at d e)) (λ next. all_known mode text next rest)
all_known mode text env (domain_letting p name at d ∷ rest) =
    given_next (bind_letting mode text env (domain_letting p name at d)) (known_after mode env (domain_letting p name at d)) _ _ (known_made mode text env (domain_letting p name at d)) (λ next. all_known mode text next rest)
all_known mode text env (given p gs ∷ rest) = all_known mode text env rest
all_known mode text env (decided p gs ∷ rest) = all_known mode text env rest
all_known mode text env (requirements p es ∷ rest) = all_known mode text env rest
all_known mode text env (constraints p es ∷ rest) = all_known mode text env rest
all_known mode text env (objective p sense e ∷ rest) = all_known mode text env rest
all_known mode text env (branching p names ∷ rest) = all_known mode text env rest
all_known mode text env (heuristic p name ∷ rest) = all_known mode text env rest

-- ---- parameters

given_made : (shape : Shape) (name : Name) (params : Env)
    → Gives (given_bound shape name (parameter (params name))) (option_and_then (λ entry. fitted_bound shape entry.0 entry.1) (parameter (params name)))
unfolding Gives given_bound
given_made shape name params = go (parameter (params name))
  where
    go : (o : Option (ValueType × ValueTree)) → Gives (given_bound shape name o) (option_and_then (λ entry. fitted_bound shape entry.0 entry.1) o)
    go None = inl refl
    go (Some entry) =
        given_map (or_refuse (outside_domain name) (fitted_into shape entry.0 entry.1)) (fitted_into shape entry.0 entry.1) (has_value (shape_type shape.scalar shape.indices)) (value_given _ _)

then_then : {A B C : Type 0} (f : A → Option B) (g : B → Option C) (o : Option A)
    → option_and_then g (option_and_then f o) ≡ option_and_then (λ x. option_and_then g (f x)) o
then_then f g None = refl
then_then f g (Some x) = refl

names_made : (params : Env) (shape : Shape) (names : List (Name × Place)) (env : Env) → Gives (bind_names params shape names env) (names_given params shape names env)
unfolding Gives bind_names names_given
names_made params shape [] env = refl
names_made params shape (name ∷ names) env =
    subst (Gives _) (then_then (λ entry. fitted_bound shape entry.0 entry.1) (λ b. names_given params shape names (put name.0 b env)) (parameter (params name.0)))
    (given_next (given_bound shape name.0 (parameter (params name.0))) _ _ (λ b. names_given params shape names (put name.0 b env)) (given_made shape name.0 params)
    (λ b. names_made params shape names (put name.0 b env)))

missing_none : (params : Env) (shape : Shape) (names : List (Name × Place)) (env : Env) (r : Refusal) (more : List Refusal)
    → first_missing params names ≡ r ∷ more → names_given params shape names env ≡ None
unfolding first_missing names_given
missing_none params shape [] env r more is = absurd cc
missing_none params shape (name ∷ names) env r more is = go (parameter (params name.0)) refl (λ b. missing_none params shape names (put name.0 b env) r more)
  where
    later : (o : Option Bound) → ((b : Bound) → names_given params shape names (put name.0 b env) ≡ None)
        → option_and_then (λ b. names_given params shape names (put name.0 b env)) o ≡ None
    later None rest = refl
    later (Some b) rest = rest b

    go : (o : Option (ValueType × ValueTree)) → parameter (params name.0) ≡ o
        → ((b : Bound) → first_missing params names ≡ r ∷ more → names_given params shape names (put name.0 b env) ≡ None)
        → names_given params shape (name ∷ names) env ≡ None
    go None told rest = ap (option_and_then (λ entry. option_and_then (λ b. names_given params shape names (put name.0 b env)) (fitted_bound shape entry.0 entry.1))) told
    go (Some entry) told rest =
        let left : first_missing params names ≡ r ∷ more =
        ap (λ o. if is_some o then first_missing params names else missing_parameter name.0 ∷ []) (sym told) ∙ is in
        ap (option_and_then (λ entry. option_and_then (λ b. names_given params shape names (put name.0 b env)) (fitted_bound shape entry.0 entry.1))) told
        ∙ later (fitted_bound shape entry.0 entry.1) (λ b. rest b left)

groups_made : (mode : Mode) (p : Place) (params : Env) (groups : List Group) (env : Env) → Gives (bind_givens mode p params groups env) (groups_given mode params groups env)
unfolding Gives bind_givens groups_given
groups_made mode p params [] env = refl
groups_made mode p params (g ∷ groups) env =
    given_within mode (met_domain mode env g.domain) _ _
    (given_next (or_refuse (undefined_at model_text p) (shape_of mode env g.domain)) (shape_of mode env g.domain) _
    (λ shape. option_and_then (groups_given mode params groups) (names_given params shape g.names env)) (value_given _ _)
    (λ shape. given_unless (first_missing params g.names) _ _ (λ r more is. ap (option_and_then (groups_given mode params groups)) (missing_none params shape g.names env r more is))
    (given_next (bind_names params shape g.names env) (names_given params shape g.names env) _ (groups_given mode params groups) (names_made params shape g.names env)
    (λ next. groups_made mode p params groups next))))

-- ---- statements

-- the instance of the progress that binding comes to
unfoldable pub instance_bound : Result Progress (List Refusal) → Result Instance (List Refusal)
instance_bound (Ok at) = Ok at.instance
instance_bound (Err rs) = Err rs

-- the instance of the progress that binding comes to is what is made; where it refuses for anything but limits, nothing is made
abbrev pub Comes : Result Progress (List Refusal) → Option Instance → Type 0
Comes bound made = Gives (instance_bound bound) made

comes_map : {A : Type 0} (bound : Result A (List Refusal)) (made : Option A) (f : A → Progress)
    → Gives bound made → Comes (and_next bound (λ x. Ok (f x))) (option_map (λ x. (f x).instance) made)
unfolding Gives and_next instance_bound
comes_map (Err rs) made f (inl none) = inl (ap (option_map (λ x. (f x).instance)) none)
comes_map (Err rs) made f (inr limits) = inr limits
comes_map (Ok x) made f h = ap (option_map (λ x. (f x).instance)) h

comes_within : (mode : Mode) (ms : List Met) (bound : Result Progress (List Refusal)) (made : Option Instance)
    → Comes bound made → Comes (unless_any (limits_met mode ms) bound) made
unfolding Gives unless_any instance_bound
comes_within mode ms bound made h = go (limits_met mode ms) (limits_only mode ms)
  where
    go : (rs : List Refusal) → All IsOverLimit rs → Comes (unless_any rs bound) made
    go [] limits = h
    go (r ∷ rs) limits = inr limits

no_false : (mode : Mode) (env : Env) (n : ℕ) (es : List ExprTree) → first_untrue mode env n es ≡ None → list_all (is_true_in mode env) es ≡ true
unfolding first_untrue
no_false mode env n [] h = refl
no_false mode env n (e ∷ es) h = go (is_true_in mode env e) refl (no_false mode env (n + 1) es)
  where
    go : (b : Bool) → is_true_in mode env e ≡ b → (first_untrue mode env (n + 1) es ≡ None → list_all (is_true_in mode env) es ≡ true)
        → list_all (is_true_in mode env) (e ∷ es) ≡ true
    go true is rest =
        ap (λ b. b && list_all (is_true_in mode env) es) is
        ∙ rest (ap (λ b. if b then first_untrue mode env (n + 1) es else Some n) (sym is) ∙ h)
    go false is rest =
        let wrong : Some n ≡ None = ap (λ b. if b then first_untrue mode env (n + 1) es else Some n) (sym is) ∙ h in
        absurd cc

some_false : (mode : Mode) (env : Env) (n m : ℕ) (es : List ExprTree) → first_untrue mode env n es ≡ Some m → list_all (is_true_in mode env) es ≡ false
unfolding first_untrue
some_false mode env n m [] h = absurd cc
some_false mode env n m (e ∷ es) h = go (is_true_in mode env e) refl (some_false mode env (n + 1) m es)
  where
    go : (b : Bool) → is_true_in mode env e ≡ b → (first_untrue mode env (n + 1) es ≡ Some m → list_all (is_true_in mode env) es ≡ false)
        → list_all (is_true_in mode env) (e ∷ es) ≡ false
    go true is rest =
        ap (λ b. b && list_all (is_true_in mode env) es) is
        ∙ rest (ap (λ b. if b then first_untrue mode env (n + 1) es else Some n) (sym is) ∙ h)
    go false is rest = ap (λ b. b && list_all (is_true_in mode env) es) is

requirements_made : (mode : Mode) (at : Progress) (es : List ExprTree) (o : Option ℕ) → first_untrue mode at.instance.env at.next_where es ≡ o
    → Comes (unless_any (option_to_list (option_map where_false o)) (Ok (record at { next_where = at.next_where + length es })))
    (if list_all (is_true_in mode at.instance.env) es then Some at.instance else None)
unfolding Gives unless_any instance_bound
requirements_made mode at es (Some n) h = inl (ap (λ b. if b then Some at.instance else None) (some_false mode at.instance.env at.next_where n es h))
requirements_made mode at es None h = ap (λ b. if b then Some at.instance else None) (no_false mode at.instance.env at.next_where es h)

statement_made : (mode : Mode) (params : Env) (at : Progress) (s : StatementTree) → Comes (bind_statement mode params at s) (instance_after mode params at.instance s)
unfolding Gives instance_bound bind_statement instance_after first_false in_env with_finds with_clauses with_goal now_with
statement_made mode params at (given p groups) =
    comes_map (bind_givens mode p params groups at.instance.env) (groups_given mode params groups at.instance.env) (λ env. now_with at (in_env at.instance env)) (groups_made mode p params groups at.instance.env)
statement_made mode params at (decided p groups) =
    comes_within mode (met_groups mode at.instance.env groups) _ _
    (comes_map (or_refuse (undefined_at model_text p) (bound_finds mode at.instance.env groups)) (bound_finds mode at.instance.env groups) (λ fs. now_with at (with_finds at.instance fs)) (value_given _ _))
statement_made mode params at (letting p name q d e) =
    comes_map (bind_letting mode model_text at.instance.env (letting p name q d e)) (known_after mode at.instance.env (letting p name q d e)) (λ env. now_with at (in_env at.instance env)) (known_made mode model_text at.instance.env (letting p name q d e))
statement_made mode params at (domain_letting p name q d) =
    comes_map (bind_letting mode model_text at.instance.env (domain_letting p name q d)) (known_after mode at.instance.env (domain_letting p name q d)) (λ env. now_with at (in_env at.instance env)) (known_made mode model_text at.instance.env (domain_letting p name q d))
statement_made mode params at (requirements p es) =
    comes_within mode (met_in mode at.instance.env es) _ _
    (requirements_made mode at es (first_untrue mode at.instance.env at.next_where es) refl)
statement_made mode params at (constraints p es) = refl
statement_made mode params at (objective p sense e) = refl
statement_made mode params at (branching p names) = refl
statement_made mode params at (heuristic p name) = refl

statements_made : (mode : Mode) (params : Env) (at : Progress) (statements : TextTree) → Comes (bind_statements mode params at statements) (instance_after_all mode params at.instance statements)
unfolding Gives instance_bound bind_statements instance_after_all and_next
statements_made mode params at [] = refl
statements_made mode params at (s ∷ statements) =
    go (bind_statement mode params at s) (instance_after mode params at.instance s) (statement_made mode params at s) (λ next. statements_made mode params next statements)
  where
    go : (bound : Result Progress (List Refusal)) (made : Option Instance) → Comes bound made
        → ((next : Progress) → Comes (bind_statements mode params next statements) (instance_after_all mode params next.instance statements))
        → Comes (and_next bound (λ next. bind_statements mode params next statements)) (option_and_then (λ next. instance_after_all mode params next statements) made)
    go (Err rs) made (inl none) rest = inl (ap (option_and_then (λ i. instance_after_all mode params i statements)) none)
    go (Err rs) made (inr limits) rest = inr limits
    go (Ok next) made h rest =
        subst (λ o. Comes (bind_statements mode params next statements) (option_and_then (λ i. instance_after_all mode params i statements) o)) (sym h) (rest next)

instance_made : (mode : Mode) (model params : TextTree) → Gives (bind mode model params) (made_instance mode model params)
unfolding Gives instance_bound and_next bind made_instance
instance_made mode model params =
    given_next (bind_params mode parameter_text nothing_known (lettings_of params)) (known_after_all mode nothing_known params) _ _ (all_known mode parameter_text nothing_known params)
    (λ known. go (bind_statements mode known nothing_bound model) _ (statements_made mode known nothing_bound model))
  where
    go : (bound : Result Progress (List Refusal)) (made : Option Instance) → Comes bound made → Gives (and_next bound (λ at. Ok at.instance)) made
    go (Err rs) made h = h
    go (Ok at) made h = h

-- ---- what the two answers of binding say

ok_made : {A : Type 0} (bound : Result A (List Refusal)) (made : Option A) → Gives bound made → (x : A) → bound ≡ Ok x → made ≡ Some x
unfolding Gives
ok_made (Ok y) made h x is = h ∙ cc
ok_made (Err rs) made h x is = absurd cc

none_made : {A : Type 0} (bound : Result A (List Refusal)) (made : Option A) → Gives bound made → (rs : List Refusal) → bound ≡ Err rs → (made ≡ None) ⊎ All IsOverLimit rs
unfolding Gives
none_made (Ok y) made h rs is = absurd cc
none_made (Err qs) made h rs is = let same : qs ≡ rs = cc in subst (λ ts. (made ≡ None) ⊎ All IsOverLimit ts) same h

pub known_as_bound : (mode : Mode) (text : TextName) (statements : TextTree) (known : Env) → bind_params mode text nothing_known (lettings_of statements) ≡ Ok known → known_after_all mode nothing_known statements ≡ Some known
known_as_bound mode text statements = ok_made _ _ (all_known mode text nothing_known statements)

pub unknown_as_refused : (mode : Mode) (text : TextName) (statements : TextTree) (rs : List Refusal) → bind_params mode text nothing_known (lettings_of statements) ≡ Err rs
    → (known_after_all mode nothing_known statements ≡ None) ⊎ All IsOverLimit rs
unknown_as_refused mode text statements = none_made _ _ (all_known mode text nothing_known statements)

pub made_as_bound : (mode : Mode) (model params : TextTree) (i : Instance) → bind mode model params ≡ Ok i → made_instance mode model params ≡ Some i
made_as_bound mode model params = ok_made _ _ (instance_made mode model params)

pub none_as_refused : (mode : Mode) (model params : TextTree) (rs : List Refusal) → bind mode model params ≡ Err rs → (made_instance mode model params ≡ None) ⊎ All IsOverLimit rs
none_as_refused mode model params = none_made _ _ (instance_made mode model params)
