-- An instance stays closed while statements are bound.
use Rattle.std.proofs.Common.{◌≡◌, ◌∙◌, Bool, true, false, List, [], ◌∷◌, ◌++◌, Option, Some, None, option_map, refl, sym, ap, subst, map, bytes_eq, if◌then◌else◌, All, IsTrue}
use Rattle.std.specs.Prelude.{flat_map, option_to_list}
use Rattle.std.specs.List.{AllByRecursion, IsDistinct, list_all}
use Rattle.std.proofs.Math.Path.{fun_ext}
use Rattle.std.proofs.lemmas.List.Elements.{All-cons, All-head, All-nil, All-push, All-tail}
use Rattle.std.proofs.lemmas.Slice.Eq.{bytes_eq-Decides}
use Rattle.ep_base.specs.declared.names.Name.{Name}
use Rattle.ep_base.specs.declared.operators.Sense.{Sense}
use Rattle.ep_tree_laws.proofs.Deciding.{expression_kept, left_none, right_none}
use Rattle.ep_tree_laws.specs.Deciding.{IsKept, LacksDecisions, NamesAreKept, without_decision}
use Rattle.ep_tree.proofs.TypedEvaluation.{context_put, put_typed}
use Rattle.ep_tree.specs.Binding.{Find, Instance, in_env, with_clauses, with_finds, with_goal}
use Rattle.ep_tree.specs.Closed.{IsClosed, clause_env, instance_faults}
use Rattle.ep_tree.specs.Environments.{Bound, Env, context_of, has_cells, has_domain, has_value, meaning_in, shape_type}
use Rattle.ep_tree.specs.Faults.{Fault, clause_faults, faults, goal_faults, type_fault}
use Rattle.ep_tree.specs.Names.{put, put_all}
use Rattle.ep_tree.specs.Reach.{decisions_in, is_decision}
use Rattle.ep_tree.specs.Solutions.{cells_bound}
use Rattle.ep_tree.specs.Trees.{ExprTree, place_of}
use Rattle.ep_tree.specs.TypedValues.{IsTypedBound, is_number_of}
use Rattle.ep_tree.specs.Types.{Context, Meaning, a_domain, a_value, from_one, gives, is_boolean, is_integer, judge}

-- A context is that of the clauses of an instance, which is closed.
pub record Ready (c : Context) (i : Instance) : Type 0 where
  pub seen : c ≡ context_of (clause_env i)
  pub closed : IsClosed i

same_name : (a b : Name) → bytes_eq a b ≡ true → a ≡ b
same_name a b h = (bytes_eq-Decides a b).0 h

name_same : (a b : Name) → a ≡ b → bytes_eq a b ≡ true
name_same a b h = (bytes_eq-Decides a b).1 h

other_way : (a b : Name) → bytes_eq a b ≡ false → bytes_eq b a ≡ false
other_way a b h = go (bytes_eq b a) refl
  where
    go : (x : Bool) → bytes_eq b a ≡ x → bytes_eq b a ≡ false
    go false p = p
    go true p = let w : bytes_eq a b ≡ true = name_same a b (sym (same_name b a p)) in let z : true ≡ false = sym w ∙ h in absurd cc

-- the cells of decision variables over an environment
abbrev over_env : List Find → Env → Env
over_env fs env = put_all (cells_bound fs) env

abbrev cells_for : Find → Bound
cells_for f = has_cells f.scalar f.indices f.values

-- ---- names that nothing stands for

apart_first : (f : Find) (fs : List Find) (env : Env) (name : Name) → over_env (f ∷ fs) env name ≡ None → (bytes_eq name f.name ≡ false) × (over_env fs env name ≡ None)
unfolding put_all cells_bound
apart_first f fs env name h = go (bytes_eq name f.name) h refl
  where
    go : (x : Bool) → (if x then Some (cells_for f) else over_env fs env name) ≡ None → bytes_eq name f.name ≡ x → (bytes_eq name f.name ≡ false) × (over_env fs env name ≡ None)
    go true q p = absurd cc
    go false q p = (p, q)

env_none : (fs : List Find) (env : Env) (name : Name) → over_env fs env name ≡ None → env name ≡ None
unfolding put_all cells_bound
env_none [] env name h = h
env_none (f ∷ fs) env name h = env_none fs env name (apart_first f fs env name h).1

commute : (fs : List Find) (env : Env) (name : Name) (b : Bound) → over_env fs env name ≡ None → (other : Name) → over_env fs (put name b env) other ≡ put name b (over_env fs env) other
unfolding put_all cells_bound
commute [] env name b h other = refl
commute (f ∷ fs) env name b h other =
    swap (apart_first f fs env name h).0 (commute fs env name b (apart_first f fs env name h).1 other) (bytes_eq other f.name) (bytes_eq other name) refl refl
  where
    swap : bytes_eq name f.name ≡ false → over_env fs (put name b env) other ≡ put name b (over_env fs env) other
        → (y z : Bool) → bytes_eq other f.name ≡ y → bytes_eq other name ≡ z
        → (if y then Some (cells_for f) else over_env fs (put name b env) other) ≡ (if z then Some b else (if y then Some (cells_for f) else over_env fs env other))
    swap apart inner true true p q =
        let w : bytes_eq name f.name ≡ true = ap (λ n. bytes_eq n f.name) (sym (same_name other name q)) ∙ p in
        let z : true ≡ false = sym w ∙ apart in
        absurd cc
    swap apart inner true false p q = refl
    swap apart inner false z p q = inner ∙ ap (λ w. if w then Some b else over_env fs env other) q

over_last : (fs : List Find) (f : Find) (env : Env) → over_env (fs ++ f ∷ []) env ≡ over_env fs (put f.name (cells_for f) env)
unfolding put_all cells_bound
over_last [] f env = refl
over_last (g ∷ fs) f env = ap (put g.name (cells_for g)) (over_last fs f env)

still_apart : (fs : List Find) (env : Env) (name : Name) (b : Bound) → over_env fs env name ≡ None → All (λ f. env f.name ≡ None) fs → All (λ f. put name b env f.name ≡ None) fs
still_apart [] env name b h a = All-nil (λ f. put name b env f.name ≡ None)
still_apart (f ∷ fs) env name b h a =
    let q : _ = apart_first f fs env name h in
    All-cons (λ g. put name b env g.name ≡ None) f fs
    (ap (λ w. if w then Some b else env f.name) (other_way name f.name q.0) ∙ All-head (λ g. env g.name ≡ None) f fs a)
    (still_apart fs env name b q.1 (All-tail (λ g. env g.name ≡ None) f fs a))

abbrev names_of : List Find → List Name
names_of fs = map (λ f. f.name) fs

apart_last : (x : Name) (fs : List Find) (f : Find) → AllByRecursion (λ y. bytes_eq x y ≡ false) (names_of fs) → bytes_eq x f.name ≡ false → AllByRecursion (λ y. bytes_eq x y ≡ false) (names_of (fs ++ f ∷ []))
apart_last x [] f a h = (h, tt)
apart_last x (g ∷ fs) f a h = (a.0, apart_last x fs f a.1 h)

distinct_last : (fs : List Find) (f : Find) (env : Env) → over_env fs env f.name ≡ None → IsDistinct bytes_eq (names_of fs) → IsDistinct bytes_eq (names_of (fs ++ f ∷ []))
unfolding IsDistinct
distinct_last [] f env h d = (tt, tt)
distinct_last (g ∷ fs) f env h d =
    let q : _ = apart_first g fs env f.name h in
    (apart_last g.name fs f d.0 (other_way f.name g.name q.0), distinct_last fs f env q.1 d.1)

-- ---- faults of clauses in a longer context

both_none : {A : Type 0} (xs ys : List A) → xs ≡ [] → ys ≡ [] → xs ++ ys ≡ []
both_none xs ys p q = ap (λ zs. zs ++ ys) p ∙ q

kept_itself : (m : Option Meaning) → IsKept true true m m
unfolding IsKept
kept_itself None = tt
kept_itself (Some (a_domain t)) = refl
kept_itself (Some (a_value t false)) = refl
kept_itself (Some (a_value t true)) = (true, refl, refl)

kept_new : (o : Option Meaning) (other : Option Meaning) → o ≡ None → IsKept true true o other
unfolding IsKept
kept_new None other h = tt
kept_new (Some m) other h = absurd cc

pub longer : (c : Context) (name : Name) (m : Meaning) → c name ≡ None → NamesAreKept true true c (put name m c)
longer c name m h other = go (bytes_eq other name) refl
  where
    go : (x : Bool) → bytes_eq other name ≡ x → IsKept true true (c other) (if x then Some m else c other)
    go true p = kept_new (c other) (Some m) (ap c (same_name other name p) ∙ h)
    go false p = kept_itself (c other)

clauses_kept : (c c' : Context) → NamesAreKept true true c c' → (es : List ExprTree) → clause_faults c true es ≡ [] → clause_faults c' true es ≡ []
unfolding clause_faults
clauses_kept c c' k [] h = refl
clauses_kept c c' k (e ∷ es) h =
    let rule : _ = λ j. type_fault (place_of e) (from_one j (λ t. gives t (is_boolean t))) in
    let first : _ = left_none (rule (judge c e) ++ faults c true e) (clause_faults c true es) h in
    let q : _ = expression_kept c c' true true k e (right_none (rule (judge c e)) (faults c true e) first) in
    both_none (rule (judge c' e) ++ faults c' true e) (clause_faults c' true es)
    (both_none (rule (judge c' e)) (faults c' true e) (ap rule q.0 ∙ left_none (rule (judge c e)) (faults c true e) first) q.1)
    (clauses_kept c c' k es (right_none (rule (judge c e) ++ faults c true e) (clause_faults c true es) h))

goal_kept : (c c' : Context) → NamesAreKept true true c c' → (e : ExprTree) → goal_faults c e ≡ [] → goal_faults c' e ≡ []
unfolding goal_faults
goal_kept c c' k e h =
    let rule : _ = λ j. type_fault (place_of e) (from_one j (λ t. gives t (is_integer t))) in
    let q : _ = expression_kept c c' true true k e (right_none (rule (judge c e)) (faults c true e) h) in
    both_none (rule (judge c' e)) (faults c' true e) (ap rule q.0 ∙ left_none (rule (judge c e)) (faults c true e) h) q.1

abbrev goals_in : Context → Option (Sense × ExprTree) → List Fault
goals_in c goal = flat_map (λ g. goal_faults c g.1) (option_to_list goal)

goals_kept : (c c' : Context) → NamesAreKept true true c c' → (g : Option (Sense × ExprTree)) → goals_in c g ≡ [] → goals_in c' g ≡ []
goals_kept c c' k None h = refl
goals_kept c c' k (Some g) h = both_none (goal_faults c' g.1) [] (goal_kept c c' k g.1 (left_none (goal_faults c g.1) [] h)) refl

all_kept : (c c' : Context) → NamesAreKept true true c c' → (es : List ExprTree) (g : Option (Sense × ExprTree))
    → clause_faults c true es ++ goals_in c g ≡ [] → clause_faults c' true es ++ goals_in c' g ≡ []
all_kept c c' k es g h =
    both_none (clause_faults c' true es) (goals_in c' g)
    (clauses_kept c c' k es (left_none (clause_faults c true es) (goals_in c g) h))
    (goals_kept c c' k g (right_none (clause_faults c true es) (goals_in c g) h))

-- ---- one name more

meaningless : (o : Option Bound) → option_map meaning_in o ≡ None → o ≡ None
meaningless None h = refl
meaningless (Some b) h = absurd cc

unknown : (c : Context) (i : Instance) (name : Name) → Ready c i → c name ≡ None → clause_env i name ≡ None
unfolding context_of
unknown c i name r h = meaningless (clause_env i name) (sym (ap (λ (k : Context). k name) r.seen) ∙ h)

put_decided : (env : Env) (name : Name) (b : Bound) → is_decision (Some b) ≡ false → ((n : Name) → decisions_in env n ≡ false) → (n : Name) → decisions_in (put name b env) n ≡ false
put_decided env name b h d n = go (bytes_eq n name)
  where
    go : (x : Bool) → is_decision (if x then Some b else env n) ≡ false
    go true = h
    go false = d n

-- a name that stands for a value or a domain
pub put_ready : (c : Context) (i : Instance) (name : Name) (b : Bound) → Ready c i → c name ≡ None → is_decision (Some b) ≡ false → IsTypedBound (Some b)
    → Ready (put name (meaning_in b) c) (in_env i (put name b i.env))
unfolding in_env instance_faults
put_ready c i name b r h d t =
    let none : over_env i.finds i.env name ≡ None = unknown c i name r h in
    let seen : put name (meaning_in b) c ≡ context_of (over_env i.finds (put name b i.env)) =
    ap (put name (meaning_in b)) r.seen
    ∙ sym (context_put (over_env i.finds i.env) name b)
    ∙ ap context_of (fun_ext (λ other. sym (commute i.finds i.env name b none other))) in
    record {
      seen = seen;
      closed = record {
        distinct = r.closed.distinct;
        apart = still_apart i.finds i.env name b none r.closed.apart;
        values = r.closed.values;
        decided = put_decided i.env name b d r.closed.decided;
        of_types = put_typed i.env name b r.closed.of_types t;
        faultless =
            subst (λ k. clause_faults k true i.clauses ++ goals_in k i.goal ≡ []) seen
            (all_kept c (put name (meaning_in b) c) (longer c name (meaning_in b) h) i.clauses i.goal
            (subst (λ k. clause_faults k true i.clauses ++ goals_in k i.goal ≡ []) (sym r.seen) r.closed.faultless));
      };
    }

-- a decision variable more
pub find_ready : (c : Context) (i : Instance) (f : Find) → Ready c i → c f.name ≡ None → IsTrue (list_all (is_number_of f.scalar) f.values)
    → Ready (put f.name (a_value (Some (shape_type f.scalar f.indices)) true) c) (with_finds i (f ∷ []))
unfolding with_finds instance_faults meaning_in
find_ready c i f r h t =
    let none : over_env i.finds i.env f.name ≡ None = unknown c i f.name r h in
    let seen : put f.name (meaning_in (cells_for f)) c ≡ context_of (over_env (i.finds ++ f ∷ []) i.env) =
    ap (put f.name (meaning_in (cells_for f))) r.seen
    ∙ sym (context_put (over_env i.finds i.env) f.name (cells_for f))
    ∙ ap context_of (fun_ext (λ other. sym (commute i.finds i.env f.name (cells_for f) none other)) ∙ sym (over_last i.finds f i.env)) in
    record {
      seen = seen;
      closed = record {
        distinct = distinct_last i.finds f i.env none r.closed.distinct;
        apart = All-push (λ g. i.env g.name ≡ None) i.finds f r.closed.apart (env_none i.finds i.env f.name none);
        values = All-push (λ g. IsTrue (list_all (is_number_of g.scalar) g.values)) i.finds f r.closed.values t;
        decided = r.closed.decided;
        of_types = r.closed.of_types;
        faultless =
            subst (λ k. clause_faults k true i.clauses ++ goals_in k i.goal ≡ []) seen
            (all_kept c (put f.name (meaning_in (cells_for f)) c) (longer c f.name (meaning_in (cells_for f)) h) i.clauses i.goal
            (subst (λ k. clause_faults k true i.clauses ++ goals_in k i.goal ≡ []) (sym r.seen) r.closed.faultless));
      };
    }

-- ---- what the context says without decision variables

lacks_one : (fs : List Find) (env : Env) (name : Name) → All (λ f. env f.name ≡ None) fs → decisions_in env name ≡ false
    → option_map meaning_in (env name) ≡ without_decision (option_map meaning_in (over_env fs env name))
unfolding put_all cells_bound meaning_in without_decision is_decision
lacks_one [] env name a d = go (env name) d
  where
    go : (o : Option Bound) → is_decision o ≡ false → option_map meaning_in o ≡ without_decision (option_map meaning_in o)
    go None d = refl
    go (Some (has_value t v)) d = refl
    go (Some (has_domain s is vs)) d = refl
    go (Some (has_cells s is vs)) d = absurd cc
lacks_one (f ∷ fs) env name a d = go (lacks_one fs env name (All-tail (λ g. env g.name ≡ None) f fs a) d) (bytes_eq name f.name) refl
  where
    go : option_map meaning_in (env name) ≡ without_decision (option_map meaning_in (over_env fs env name))
        → (x : Bool) → bytes_eq name f.name ≡ x → option_map meaning_in (env name) ≡ without_decision (option_map meaning_in (if x then Some (cells_for f) else over_env fs env name))
    go inner true p = ap (option_map meaning_in) (ap env (same_name name f.name p) ∙ All-head (λ g. env g.name ≡ None) f fs a)
    go inner false p = inner

pub ready_lacks : (c : Context) (i : Instance) → Ready c i → LacksDecisions c (context_of i.env)
unfolding context_of
ready_lacks c i r name =
    lacks_one i.finds i.env name r.closed.apart (r.closed.decided name) ∙ ap without_decision (sym (ap (λ (k : Context). k name) r.seen))

-- ---- clauses and objectives

clauses_joined : (c : Context) (es fs : List ExprTree) → clause_faults c true es ≡ [] → clause_faults c true fs ≡ [] → clause_faults c true (es ++ fs) ≡ []
unfolding clause_faults
clauses_joined c [] fs h k = k
clauses_joined c (e ∷ es) fs h k =
    let own : _ = type_fault (place_of e) (from_one (judge c e) (λ t. gives t (is_boolean t))) ++ faults c true e in
    both_none own (clause_faults c true (es ++ fs)) (left_none own (clause_faults c true es) h) (clauses_joined c es fs (right_none own (clause_faults c true es) h) k)

pub clauses_ready : (c : Context) (i : Instance) (es : List ExprTree) → Ready c i → clause_faults c true es ≡ [] → Ready c (with_clauses i es)
unfolding with_clauses instance_faults
clauses_ready c i es r h =
    let k : Context = context_of (clause_env i) in
    let own : clause_faults k true es ≡ [] = subst (λ x. clause_faults x true es ≡ []) r.seen h in
    record {
      seen = r.seen;
      closed = record {
        distinct = r.closed.distinct;
        apart = r.closed.apart;
        values = r.closed.values;
        decided = r.closed.decided;
        of_types = r.closed.of_types;
        faultless =
            both_none (clause_faults k true (i.clauses ++ es)) (goals_in k i.goal)
            (clauses_joined k i.clauses es (left_none (clause_faults k true i.clauses) (goals_in k i.goal) r.closed.faultless) own)
            (right_none (clause_faults k true i.clauses) (goals_in k i.goal) r.closed.faultless);
      };
    }

pub goal_ready : (c : Context) (i : Instance) (sense : Sense) (e : ExprTree) → Ready c i → goal_faults c e ≡ [] → Ready c (with_goal i sense e)
unfolding with_goal instance_faults
goal_ready c i sense e r h =
    let k : Context = context_of (clause_env i) in
    let own : goal_faults k e ≡ [] = subst (λ x. goal_faults x e ≡ []) r.seen h in
    record {
      seen = r.seen;
      closed = record {
        distinct = r.closed.distinct;
        apart = r.closed.apart;
        values = r.closed.values;
        decided = r.closed.decided;
        of_types = r.closed.of_types;
        faultless =
            both_none (clause_faults k true i.clauses) (goals_in k (Some (sense, e)))
            (left_none (clause_faults k true i.clauses) (goals_in k i.goal) r.closed.faultless)
            (both_none (goal_faults k e) [] own refl);
      };
    }
