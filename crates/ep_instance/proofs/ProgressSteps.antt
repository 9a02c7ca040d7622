-- Statements of a model, one by one.
use Rattle.std.proofs.Common.{Bool, List, None, Option, Some, Vec, [], ap, arith, bytes_eq, false, if◌then◌else◌, length, map, refl, subst, sym, true, ◌++◌, ◌+◌, ◌∙◌, ◌∷◌, ◌≡◌}
use Rattle.std.specs.Prelude.{Result, Ok, Err, is_none}
use Rattle.ep_base.specs.declared.names.Name.{Name}
use Rattle.ep_base.specs.declared.operators.Sense.{Sense}
use Rattle.ep_base.specs.declared.places.Place.{Place}
use Rattle.ep_tree_laws.proofs.Deciding.{domain_kept, lacking, left_none, right_none}
use Rattle.ep_tree_laws.specs.Deciding.{LacksDecisions, without_decision}
use Rattle.ep_tree.specs.Binding.{Instance, Progress, Refusal, and_next, bind, bind_givens, bind_params, bind_letting, bind_statement, bind_statements, in_env, limits_met, met_groups, met_in, model_text, now_with, nothing_bound, unless_any, with_clauses, with_finds, with_goal, parameter_text, bound_finds, first_false, or_refuse, undefined_at}
use Rattle.ep_tree.specs.Environments.{Env, context_of}
use Rattle.ep_tree.specs.Faults.{Fault, after_group, after_statement, declaration_faults, declare, domain_faults, faults_after, group_faults, group_meaning, lettings_of, params_faults, redeclared, statement_faults, text_faults, unless}
use Rattle.ep_tree.specs.Names.{nothing_known, put}
use Rattle.ep_tree.specs.Statements.{Group, StatementTree, TextTree, branching, constraints, decided, domain_letting, given, heuristic, letting, objective, requirements}
use Rattle.ep_tree.specs.Trees.{DomainTree, ExprTree}
use Rattle.ep_tree.specs.Types.{Context, Meaning, a_value, judge_domain, type_from}
use Rattle.std.specs.declared.alloc.Global.{Global}
use Rattle.ep_tree.specs.Views.{expr_tree, group_of, model_tree, params_tree, statement_kind_tree, statement_tree}
use Rattle.ep_tree.specs.declared.statements.Declared.{Declared}
use Rattle.ep_tree.specs.declared.statements.Model.{Model}
use Rattle.ep_tree.specs.declared.statements.Params.{Params}
use Rattle.ep_tree.specs.declared.statements.Statement.{Statement}
use Rattle.ep_tree.specs.declared.statements.StatementKind.TheVariants.{Given, Find as FindStatement, Where, SuchThat, Objective as ObjectiveStatement, Branching, Heuristic}
use Rattle.ep_tree.specs.declared.syntax.Expr.{Expr}
use Rattle.ep_tree.specs.declared.values.Mode.{Mode}
use Rattle.ep_instance_parts.proofs.Answering.{refuses_first}
use Rattle.ep_instance_parts.specs.Instances.{find_of}
use Rattle.ep_instance_parts.specs.Refusals.{BindsTo}
use Rattle.ep_instance_parts.specs.Steps.{conditions_said}
use Rattle.ep_instance_parts.specs.declared.errors.BindError.{BindError}
use Rattle.ep_instance_parts.specs.declared.instances.Find.{Find as KeptFind}
use Rattle.ep_instance.specs.Steps.{IsFaultless, finds_said}
use Rattle.ep_instance.proofs.ParamSteps.{nothing_ready}
use Rattle.ep_instance.proofs.ReadySteps.{Ready, ready_lacks}
use Rattle.ep_instance.proofs.StatementReady.{first_undeclared, statement_ready}

-- ---- groups of parameters in the context of an environment

put_lacks : (c k : Context) (name : Name) (t : _) → LacksDecisions c k → LacksDecisions (put name (a_value t false) c) (put name (a_value t false) k)
unfolding without_decision
put_lacks c k name t h other = go (bytes_eq other name)
  where
    go : (x : Bool) → (if x then Some (a_value t false) else k other) ≡ without_decision (if x then Some (a_value t false) else c other)
    go true = refl
    go false = h other

lacks_none : (c k : Context) (name : Name) → LacksDecisions c k → c name ≡ None → k name ≡ None
unfolding without_decision
lacks_none c k name h e = h name ∙ ap without_decision e

unless_new : (o : Option Meaning) (fault : Fault) (fs : List Fault) → o ≡ None → fs ≡ [] → unless (is_none o) fault ++ fs ≡ []
unfolding unless
unless_new o fault fs e h = ap (λ x. unless (is_none x) fault ++ fs) e ∙ h

declared_kept : (c k : Context) (t : _) → LacksDecisions c k → (xs : List (Name × Place)) → declaration_faults (a_value t false) c xs ≡ []
    → (declaration_faults (a_value t false) k xs ≡ []) × LacksDecisions (declare (a_value t false) c xs) (declare (a_value t false) k xs)
unfolding declaration_faults declare
declared_kept c k t h [] none = (refl, h)
declared_kept c k t h (x ∷ xs) none =
    let u : _ = first_undeclared (a_value t false) c x xs none in
    let rest : _ = declared_kept (put x.0 (a_value t false) c) (put x.0 (a_value t false) k) t (put_lacks c k x.0 t h) xs u.1 in
    (unless_new (k x.0) (redeclared x.1 x.0) (declaration_faults (a_value t false) (put x.0 (a_value t false) k) xs) (lacks_none c k x.0 h u.0) rest.0, rest.1)

pub groups_kept : (c k : Context) → LacksDecisions c k → (gs : List Group) → group_faults c false true gs ≡ [] → group_faults k false true gs ≡ []
unfolding group_faults after_group group_meaning
groups_kept c k h [] none = refl
groups_kept c k h (g ∷ gs) none =
    let own : List Fault = declaration_faults (group_meaning c false g) c g.names in
    let here : _ = left_none (domain_faults c true g.domain ++ own) (group_faults (after_group c false g) false true gs) none in
    let d : _ = domain_kept c k (lacking c k h) true g.domain (left_none (domain_faults c true g.domain) own here) in
    let same : group_meaning c false g ≡ group_meaning k false g = meant d.0 in
    let n : _ = declared_kept c k (type_from (judge_domain c g.domain)) h g.names (meant_faults (right_none (domain_faults c true g.domain) own here)) in
    let rest : _ = groups_kept (after_group c false g) (declare (group_meaning c false g) k g.names) (meant_lacks n.1) gs (right_none (domain_faults c true g.domain ++ own) (group_faults (after_group c false g) false true gs) none) in
    all_none d.1 (subst (λ m. declaration_faults m k g.names ≡ []) same (meant_back n.0)) (subst (λ m. group_faults (declare m k g.names) false true gs ≡ []) same rest)
  where
    meant : judge_domain k g.domain ≡ judge_domain c g.domain → group_meaning c false g ≡ group_meaning k false g
    meant e = ap (λ j. a_value (type_from j) false) (sym e)

    meant_faults : declaration_faults (group_meaning c false g) c g.names ≡ [] → declaration_faults (a_value (type_from (judge_domain c g.domain)) false) c g.names ≡ []
    meant_faults e = e

    meant_back : declaration_faults (a_value (type_from (judge_domain c g.domain)) false) k g.names ≡ [] → declaration_faults (group_meaning c false g) k g.names ≡ []
    meant_back e = e

    meant_lacks : LacksDecisions (declare (a_value (type_from (judge_domain c g.domain)) false) c g.names) (declare (a_value (type_from (judge_domain c g.domain)) false) k g.names)
        → LacksDecisions (after_group c false g) (declare (group_meaning c false g) k g.names)
    meant_lacks l = l

    all_none : {xs ys zs : List Fault} → xs ≡ [] → ys ≡ [] → zs ≡ [] → (xs ++ ys) ++ zs ≡ []
    all_none {xs} {ys} {zs} p q r = ap (λ us. (us ++ ys) ++ zs) p ∙ ap (λ us. us ++ zs) q ∙ r

pub given_faultless : (env : Env) (p : Place) (gs : List Group) → IsFaultless env (given p gs) → group_faults (context_of env) false true gs ≡ []
unfolding statement_faults
given_faultless env p gs h = groups_kept h.context (context_of env) h.lacks gs h.faultless

-- ---- answers, with what they make of the whole

pub answers_next : {V A B : Type 0} (view : V → A) (f : A → B) (answer : Result V BindError) (whole : Result B (List Refusal)) (one : Result A (List Refusal))
    → whole ≡ and_next one (λ x. Ok (f x)) → BindsTo view answer one → BindsTo (λ v. f (view v)) answer whole
unfolding and_next
answers_next view f (Ok x) whole one w h = w ∙ ap (λ o. and_next o (λ x. Ok (f x))) h
answers_next view f (Err e) whole one w h = refuses_first e whole one (λ x. Ok (f x)) w h

pub given_step : (mode : Mode) (params : Env) (at : Progress) (p : Place) (gs : List Group)
    → bind_statement mode params at (given p gs) ≡ and_next (bind_givens mode p params gs at.instance.env) (λ env. Ok (now_with at (in_env at.instance env)))
unfolding bind_statement
given_step mode params at p gs = refl

pub finds_step : (mode : Mode) (params : Env) (at : Progress) (p : Place) (gs : List Group)
    → bind_statement mode params at (decided p gs) ≡ and_next (finds_said mode p at.instance.env gs) (λ fs. Ok (now_with at (with_finds at.instance fs)))
unfolding bind_statement unless_any and_next
finds_step mode params at p gs = go (limits_met mode (met_groups mode at.instance.env gs))
  where
    go : (rs : List Refusal)
        → unless_any rs (and_next (or_refuse (undefined_at model_text p) (bound_finds mode at.instance.env gs)) (λ fs. Ok (now_with at (with_finds at.instance fs))))
        ≡ and_next (unless_any rs (or_refuse (undefined_at model_text p) (bound_finds mode at.instance.env gs))) (λ fs. Ok (now_with at (with_finds at.instance fs)))
    go [] = refl
    go (r ∷ rs) = refl

pub letting_step : (mode : Mode) (params : Env) (at : Progress) (p q : Place) (name : Name) (d : Option DomainTree) (e : ExprTree)
    → bind_statement mode params at (letting p name q d e) ≡ and_next (bind_letting mode model_text at.instance.env (letting p name q d e)) (λ env. Ok (now_with at (in_env at.instance env)))
unfolding bind_statement
letting_step mode params at p q name d e = refl

pub naming_step : (mode : Mode) (params : Env) (at : Progress) (p q : Place) (name : Name) (d : DomainTree)
    → bind_statement mode params at (domain_letting p name q d) ≡ and_next (bind_letting mode model_text at.instance.env (domain_letting p name q d)) (λ env. Ok (now_with at (in_env at.instance env)))
unfolding bind_statement
naming_step mode params at p q name d = refl

pub where_step : (mode : Mode) (params : Env) (at : Progress) (p : Place) (es : List ExprTree)
    → bind_statement mode params at (requirements p es) ≡ and_next (conditions_said mode at.instance.env at.next_where es) (λ n. Ok (record at { next_where = n }))
unfolding bind_statement unless_any and_next
where_step mode params at p es = go (limits_met mode (met_in mode at.instance.env es)) (first_false mode at.instance.env at.next_where es)
  where
    go : (rs ss : List Refusal) → unless_any rs (unless_any ss (Ok (record at { next_where = at.next_where + length es })))
        ≡ and_next (unless_any rs (unless_any ss (Ok (at.next_where + length es)))) (λ n. Ok (record at { next_where = n }))
    go [] [] = refl
    go [] (s ∷ ss) = refl
    go (r ∷ rs) ss = refl

-- ---- the loop

pub next_statement : (mode : Mode) (params : Env) (at : Progress) (s : StatementTree) (ss : TextTree)
    → bind_statements mode params at (s ∷ ss) ≡ and_next (bind_statement mode params at s) (λ next. bind_statements mode params next ss)
unfolding bind_statements
next_statement mode params at s ss = refl

pub no_statement : (mode : Mode) (params : Env) (at : Progress) → bind_statements mode params at [] ≡ Ok at
unfolding bind_statements
no_statement mode params at = refl

-- what is left behind some statements
pub record Remains (i : Instance) (ss : TextTree) : Type 0 where
  pub context : Context
  pub ready : Ready context i
  pub faultless : faults_after context ss ≡ []

pub remains_begin : (ss : TextTree) → text_faults ss ≡ [] → Remains nothing_bound.instance ss
unfolding text_faults
remains_begin ss h = record { context = nothing_known; ready = nothing_ready; faultless = h }

pub remains_faultless : (i : Instance) (s : StatementTree) (ss : TextTree) → Remains i (s ∷ ss) → IsFaultless i.env s
unfolding faults_after
remains_faultless i s ss h = record {
  context = h.context;
  lacks = ready_lacks h.context i h.ready;
  faultless = left_none (statement_faults h.context s) (faults_after (after_statement h.context s) ss) h.faultless;
}

pub remains_next : (mode : Mode) (params : Env) (at next : Progress) (s : StatementTree) (ss : TextTree) → Remains at.instance (s ∷ ss) → bind_statement mode params at s ≡ Ok next → Remains next.instance ss
unfolding faults_after
remains_next mode params at next s ss h e = record {
  context = after_statement h.context s;
  ready =
      statement_ready mode params h.context at next s h.ready
      (left_none (statement_faults h.context s) (faults_after (after_statement h.context s) ss) h.faultless) e;
  faultless = right_none (statement_faults h.context s) (faults_after (after_statement h.context s) ss) h.faultless;
}

-- ---- statements as the code has them

pub given_tree : (s : Statement) (gs : Vec Declared Global) (slice : List Declared) → s.kind ≡ Given gs → slice ≡ gs.items → statement_tree s ≡ given s.place (map group_of slice)
unfolding statement_kind_tree
given_tree s gs slice h e = ap (statement_kind_tree s.place) h ∙ ap (λ xs. given s.place (map group_of xs)) (sym e)

pub finds_tree : (s : Statement) (gs : Vec Declared Global) (slice : List Declared) → s.kind ≡ FindStatement gs → slice ≡ gs.items → statement_tree s ≡ decided s.place (map group_of slice)
unfolding statement_kind_tree
finds_tree s gs slice h e = ap (statement_kind_tree s.place) h ∙ ap (λ xs. decided s.place (map group_of xs)) (sym e)

pub where_tree : (s : Statement) (es : Vec Expr Global) (slice : List Expr) → s.kind ≡ Where es → slice ≡ es.items → statement_tree s ≡ requirements s.place (map expr_tree slice)
unfolding statement_kind_tree
where_tree s es slice h e = ap (statement_kind_tree s.place) h ∙ ap (λ xs. requirements s.place (map expr_tree xs)) (sym e)

pub clauses_tree : (s : Statement) (es : Vec Expr Global) → s.kind ≡ SuchThat es → statement_tree s ≡ constraints s.place (map expr_tree es.items)
unfolding statement_kind_tree
clauses_tree s es h = ap (statement_kind_tree s.place) h

pub goal_tree : (s : Statement) (sense : Sense) (e : Expr) → s.kind ≡ ObjectiveStatement sense e → statement_tree s ≡ objective s.place sense (expr_tree e)
unfolding statement_kind_tree
goal_tree s sense e h = ap (statement_kind_tree s.place) h

pub branching_tree : (s : Statement) (names : Vec (Name × Place) Global) → s.kind ≡ Branching names → statement_tree s ≡ branching s.place names.items
unfolding statement_kind_tree
branching_tree s names h = ap (statement_kind_tree s.place) h

pub heuristic_tree : (s : Statement) (name : Name) → s.kind ≡ Heuristic name → statement_tree s ≡ heuristic s.place name
unfolding statement_kind_tree
heuristic_tree s name h = ap (statement_kind_tree s.place) h

pub clauses_step : (mode : Mode) (params : Env) (at : Progress) (p : Place) (es : List ExprTree) → bind_statement mode params at (constraints p es) ≡ Ok (now_with at (with_clauses at.instance es))
unfolding bind_statement
clauses_step mode params at p es = refl

pub goal_step : (mode : Mode) (params : Env) (at : Progress) (p : Place) (sense : Sense) (e : ExprTree) → bind_statement mode params at (objective p sense e) ≡ Ok (now_with at (with_goal at.instance sense e))
unfolding bind_statement
goal_step mode params at p sense e = refl

pub branching_step : (mode : Mode) (params : Env) (at : Progress) (p : Place) (names : List (Name × Place)) → bind_statement mode params at (branching p names) ≡ Ok at
unfolding bind_statement
branching_step mode params at p names = refl

pub heuristic_step : (mode : Mode) (params : Env) (at : Progress) (p : Place) (name : Name) → bind_statement mode params at (heuristic p name) ≡ Ok at
unfolding bind_statement
heuristic_step mode params at p name = refl

-- ---- texts that were checked

pub params_given : (p : Params) (slice : List Statement) (text : TextTree) → params_tree p ≡ text → slice ≡ p.statements.items → map statement_tree slice ≡ text
unfolding params_tree
params_given p slice text h e = ap (map statement_tree) e ∙ h

pub params_faultless : (text : TextTree) → params_faults text ≡ [] → text_faults (lettings_of text) ≡ []
unfolding params_faults
params_faultless text h = h

pub model_given : (m : Model) (text : TextTree) → model_tree m ≡ text → map statement_tree m.statements.items ≡ text
unfolding model_tree
model_given m text h = h

pub bind_is : (mode : Mode) (model params : TextTree)
    → bind mode model params
    ≡ and_next (bind_params mode parameter_text nothing_known (lettings_of params)) (λ known. and_next (bind_statements mode known nothing_bound model) (λ at. Ok at.instance))
unfolding bind
bind_is mode model params = refl

-- where binding begins
pub begins : (fs : List KeptFind) (es : List Expr) (env : Env) → fs ≡ [] → es ≡ [] → env ≡ nothing_known
    → ◌≡◌ {A = Progress} (record { instance = record { finds = map find_of fs; clauses = map expr_tree es; goal = None; env = env }; next_where = 1 }) nothing_bound
begins fs es env f e n =
    ap (λ xs. record { instance = record { finds = map find_of xs; clauses = map expr_tree es; goal = None; env = env }; next_where = 1 }) f
    ∙ ap (λ xs. record { instance = record { finds = []; clauses = map expr_tree xs; goal = None; env = env }; next_where = 1 }) e
    ∙ ap (λ k. record { instance = record { finds = []; clauses = []; goal = None; env = k }; next_where = 1 }) n

pub nothing_left : {A : Type 0} (xs : List A) → length xs ≡ 0 → xs ≡ []
nothing_left [] h = refl
nothing_left (x ∷ xs) h = absurd (omega (arith, h))
