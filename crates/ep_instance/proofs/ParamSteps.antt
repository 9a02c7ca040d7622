-- Lettings of a text, one by one.
use Rattle.std.proofs.Common.{◌≡◌, ◌∙◌, true, false, List, [], ◌∷◌, ◌++◌, Option, Some, None, option_map, refl, ap, subst, filter, if◌then◌else◌}
use Rattle.std.specs.Prelude.{Err, IsTrue, Ok, Result}
use Rattle.std.specs.List.{IsDistinct, list_all}
use Rattle.std.proofs.lemmas.List.Elements.{All-nil}
use Rattle.ep_base.specs.declared.names.Name.{Name}
use Rattle.ep_base.specs.declared.places.Place.{Place}
use Rattle.ep_tree_laws.proofs.Deciding.{domain_kept, expression_kept, lacking, left_none, right_none}
use Rattle.ep_tree.specs.Binding.{Find, Instance, Refusal, Shape, TextName, and_next, bind_letting, bind_params, in_env, letting_bound, limits_met, met_stated, or_refuse, outside_domain, shape_of, undefined_at, unless_any, fitted_into}
use Rattle.ep_tree.specs.Closed.{instance_faults}
use Rattle.ep_tree.specs.Environments.{Env, context_of, has_value, shape_type}
use Rattle.ep_tree.specs.Evaluation.{evaluate, type_in}
use Rattle.ep_tree.specs.Faults.{after_statement, clause_faults, declaration_faults, domain_faults, domain_meaning, faults, faults_after, letting_meaning, stated_faults, statement_faults, text_faults}
use Rattle.ep_tree.specs.Measures.{met, met_domain}
use Rattle.ep_tree.specs.Names.{nothing_known, put, put_all}
use Rattle.ep_tree.specs.Reach.{is_decision}
use Rattle.ep_tree.specs.Solutions.{cells_bound}
use Rattle.ep_tree.specs.StatementSpelling.{is_letting}
use Rattle.ep_tree.specs.Statements.{StatementTree, TextTree, branching, constraints, decided, domain_letting, given, heuristic, letting, objective, requirements}
use Rattle.ep_tree.specs.Trees.{DomainTree, ExprTree}
use Rattle.ep_tree.specs.TypedValues.{IsTypedBound, is_number_of}
use Rattle.ep_tree.specs.Types.{Context}
use Rattle.ep_tree.specs.Values.{ValueTree}
use Rattle.ep_tree.specs.Views.{domain_tree, expr_tree, statement_kind_tree, statement_tree}
use Rattle.ep_tree.specs.declared.statements.Statement.{Statement}
use Rattle.ep_tree.specs.declared.statements.StatementKind.TheVariants.{Letting, LettingDomain}
use Rattle.ep_tree.specs.declared.syntax.Domain.{Domain}
use Rattle.ep_tree.specs.declared.syntax.Expr.{Expr}
use Rattle.ep_tree.specs.declared.values.Mode.{Mode}
use Rattle.ep_instance_parts.specs.Steps.{fitted_said}
use Rattle.ep_instance.specs.Steps.{IsFaultless, named_said, plain_said, stated_said, value_said}
use Rattle.ep_instance.proofs.ReadySteps.{Ready, ready_lacks}
use Rattle.ep_instance.proofs.StatementReady.{domain_letting_ready, letting_ready}

-- an instance of nothing but an environment
abbrev pub bare : Env → Instance
bare env = record { finds = []; clauses = []; goal = None; env = env }

pub nothing_ready : Ready nothing_known (bare nothing_known)
unfolding context_of put_all cells_bound instance_faults clause_faults IsDistinct is_decision IsTypedBound
nothing_ready = record {
  seen = refl;
  closed = record {
    distinct = tt;
    apart = All-nil (λ (f : Find). nothing_known f.name ≡ None);
    values = All-nil (λ (f : Find). IsTrue (list_all (is_number_of f.scalar) f.values));
    decided = λ name. refl;
    of_types = λ name. tt;
    faultless = refl;
  };
}

-- ---- one letting

-- a faultless letting has no fault in the context of the environment
pub value_faultless : (env : Env) (p at : Place) (name : Name) (d : Option DomainTree) (e : ExprTree) → IsFaultless env (letting p name at d e)
    → (stated_faults (context_of env) d ≡ []) × (faults (context_of env) false e ≡ [])
unfolding statement_faults stated_faults
value_faultless env p at name d e h =
    let kept : _ = lacking h.context (context_of env) h.lacks in
    let both : _ = left_none (stated_faults h.context d ++ faults h.context false e) (declaration_faults (letting_meaning h.context d e) h.context ((name, at) ∷ [])) h.faultless in (
      stated d (left_none (stated_faults h.context d) (faults h.context false e) both),
      (expression_kept h.context (context_of env) false false kept e (right_none (stated_faults h.context d) (faults h.context false e) both)).1,
    )
  where
    stated : (d : Option DomainTree) → stated_faults h.context d ≡ [] → stated_faults (context_of env) d ≡ []
    stated None q = refl
    stated (Some d) q = (domain_kept h.context (context_of env) (lacking h.context (context_of env) h.lacks) false d q).1

pub domain_faultless : (env : Env) (p at : Place) (name : Name) (d : DomainTree) → IsFaultless env (domain_letting p name at d) → domain_faults (context_of env) false d ≡ []
unfolding statement_faults
domain_faultless env p at name d h =
    (domain_kept h.context (context_of env) (lacking h.context (context_of env) h.lacks) false d
    (left_none (domain_faults h.context false d) (declaration_faults (domain_meaning h.context d) h.context ((name, at) ∷ [])) h.faultless)).1

pub stated_some : (c : Context) (o : Option DomainTree) (d : DomainTree) → o ≡ Some d → stated_faults c o ≡ [] → domain_faults c false d ≡ []
unfolding stated_faults
stated_some c o d e h = subst (λ x. stated_faults c x ≡ []) e h

-- a letting that states no domain, and one that does
pub value_plain : (mode : Mode) (text : TextName) (p : Place) (env : Env) (name : Name) (d : Option DomainTree) (e : ExprTree) → d ≡ None
    → value_said mode text p env name d e ≡ plain_said mode (undefined_at text p) env name e
unfolding bind_letting met_stated and_next letting_bound
value_plain mode text p env name d e h =
    ap (λ x. value_said mode text p env name x e) h
    ∙ ap (unless_any (limits_met mode (met mode env e))) (go (or_refuse (undefined_at text p) (evaluate mode env e)))
  where
    go : (r : Result ValueTree (List Refusal))
        → and_next r (λ v. and_next (letting_bound mode env (undefined_at text p) name None e v) (λ b. Ok (put name b env))) ≡ and_next r (λ v. Ok (put name (has_value (type_in env e) v) env))
    go (Ok v) = refl
    go (Err rs) = refl

pub value_stated : (mode : Mode) (text : TextName) (p : Place) (env : Env) (name : Name) (o : Option DomainTree) (d : DomainTree) (e : ExprTree) → o ≡ Some d
    → value_said mode text p env name o e ≡ stated_said mode (undefined_at text p) env name d e
unfolding bind_letting met_stated and_next letting_bound
value_stated mode text p env name o d e h =
    ap (λ x. value_said mode text p env name x e) h
    ∙ ap (unless_any (limits_met mode (met_domain mode env d ++ met mode env e))) (go (or_refuse (undefined_at text p) (evaluate mode env e)) (or_refuse (undefined_at text p) (shape_of mode env d)) refl)
  where
    fits : (shape : Shape) (r : Result ValueTree (List Refusal))
        → and_next (and_next r (λ fit. Ok (has_value (shape_type shape.scalar shape.indices) fit))) (λ b. Ok (put name b env))
        ≡ and_next r (λ fit. Ok (put name (has_value (shape_type shape.scalar shape.indices) fit) env))
    fits shape (Ok fit) = refl
    fits shape (Err rs) = refl

    shaped : (v : ValueTree) (s : Result Shape (List Refusal))
        → and_next (and_next s (λ shape. and_next (or_refuse (outside_domain name) (fitted_into shape (type_in env e) v)) (λ fit. Ok (has_value (shape_type shape.scalar shape.indices) fit)))) (λ b. Ok (put name b env))
        ≡ and_next s (λ shape. fitted_said shape name (type_in env e) v env)
    shaped v (Ok shape) = fits shape (or_refuse (outside_domain name) (fitted_into shape (type_in env e) v))
    shaped v (Err rs) = refl

    go : (r : Result ValueTree (List Refusal)) (s : Result Shape (List Refusal)) → or_refuse (undefined_at text p) (shape_of mode env d) ≡ s
        → and_next r (λ v. and_next (letting_bound mode env (undefined_at text p) name (Some d) e v) (λ b. Ok (put name b env)))
        ≡ and_next r (λ v. and_next (or_refuse (undefined_at text p) (shape_of mode env d)) (λ shape. fitted_said shape name (type_in env e) v env))
    go (Ok v) s q = shaped v (or_refuse (undefined_at text p) (shape_of mode env d))
    go (Err rs) s q = refl

-- the place of a letting's name says nothing
pub value_at : (mode : Mode) (text : TextName) (p at : Place) (env : Env) (name : Name) (d : Option DomainTree) (e : ExprTree)
    → bind_letting mode text env (letting p name at d e) ≡ value_said mode text p env name d e
unfolding bind_letting
value_at mode text p at env name d e = refl

pub named_at : (mode : Mode) (text : TextName) (p at : Place) (env : Env) (name : Name) (d : DomainTree) → bind_letting mode text env (domain_letting p name at d) ≡ named_said mode (undefined_at text p) env name d
unfolding bind_letting
named_at mode text p at env name d = refl

-- ---- texts

abbrev lettings : TextTree → TextTree
lettings ss = filter is_letting ss

pub next_letting : (mode : Mode) (text : TextName) (env : Env) (s : StatementTree) (ss : TextTree)
    → bind_params mode text env (lettings (s ∷ ss)) ≡ and_next (bind_letting mode text env s) (λ next. bind_params mode text next (lettings ss))
unfolding bind_params bind_letting is_letting and_next
next_letting mode text env (letting p name at d e) ss = refl
next_letting mode text env (domain_letting p name at d) ss = refl
next_letting mode text env (given p gs) ss = refl
next_letting mode text env (decided p gs) ss = refl
next_letting mode text env (requirements p es) ss = refl
next_letting mode text env (constraints p es) ss = refl
next_letting mode text env (objective p sense e) ss = refl
next_letting mode text env (branching p names) ss = refl
next_letting mode text env (heuristic p name) ss = refl

pub no_letting : (mode : Mode) (text : TextName) (env : Env) → bind_params mode text env (lettings []) ≡ Ok env
unfolding bind_params
no_letting mode text env = refl

kept_letting : (c : Context) (s : StatementTree) (ss : TextTree) → faults_after c (lettings (s ∷ ss)) ≡ [] → is_letting s ≡ true
    → (statement_faults c s ≡ []) × (faults_after (after_statement c s) (lettings ss) ≡ [])
unfolding faults_after
kept_letting c s ss h l =
    let k : faults_after c (s ∷ lettings ss) ≡ [] = subst (λ b. faults_after c (if b then s ∷ lettings ss else lettings ss) ≡ []) l h in
    (left_none (statement_faults c s) (faults_after (after_statement c s) (lettings ss)) k, right_none (statement_faults c s) (faults_after (after_statement c s) (lettings ss)) k)

other_statement : (c : Context) (s : StatementTree) (ss : TextTree) → faults_after c (lettings (s ∷ ss)) ≡ [] → is_letting s ≡ false → faults_after c (lettings ss) ≡ []
other_statement c s ss h l = subst (λ b. faults_after c (if b then s ∷ lettings ss else lettings ss) ≡ []) l h

-- a letting has no fault
pub letting_faultless : (env : Env) (s : StatementTree) (ss : TextTree) → Ready (context_of env) (bare env) → faults_after (context_of env) (lettings (s ∷ ss)) ≡ [] → is_letting s ≡ true → IsFaultless env s
letting_faultless env s ss r h l = record {
  context = context_of env;
  lacks = ready_lacks (context_of env) (bare env) r;
  faultless = (kept_letting (context_of env) s ss h l).0;
}

-- what is left behind a statement
pub record Left (env : Env) (ss : TextTree) : Type 0 where
  pub ready : Ready (context_of env) (bare env)
  pub faultless : faults_after (context_of env) (lettings ss) ≡ []

ok_is : {A B : Type 0} {y z : A} → ◌≡◌ {A = Result A B} (Ok y) (Ok z) → y ≡ z
ok_is q = cc

behind : (c : Context) (env : Env) (ss : TextTree) → Ready c (bare env) → faults_after c (lettings ss) ≡ [] → Left env ss
unfolding put_all cells_bound
behind c env ss r h =
    let same : c ≡ context_of env = seen r in
    record { ready = subst (λ k. Ready k (bare env)) same r; faultless = subst (λ k. faults_after k (lettings ss) ≡ []) same h }
  where
    seen : Ready c (bare env) → c ≡ context_of env
    seen q = q.seen

same_left : (env next : Env) (s : StatementTree) (ss : TextTree) → Left env (s ∷ ss) → is_letting s ≡ false → ◌≡◌ {A = Result Env (List Refusal)} (Ok env) (Ok next) → Left next ss
same_left env next s ss h l e = subst (λ x. Left x ss) (ok_is e) (record { ready = h.ready; faultless = other_statement (context_of env) s ss h.faultless l })

pub letting_left : (mode : Mode) (text : TextName) (env next : Env) (s : StatementTree) (ss : TextTree) → Left env (s ∷ ss) → bind_letting mode text env s ≡ Ok next → Left next ss
unfolding is_letting in_env bind_letting
letting_left mode text env next (letting p name at d x) ss h e =
    let k : _ = kept_letting (context_of env) (letting p name at d x) ss h.faultless (is_one p at name d x) in
    behind (after_statement (context_of env) (letting p name at d x)) next ss (own _ (letting_ready mode text (context_of env) (bare env) p at name d x next h.ready k.0 e)) k.1
  where
    is_one : (p at : Place) (name : Name) (d : Option DomainTree) (x : ExprTree) → is_letting (letting p name at d x) ≡ true
    is_one p at name d x = refl

    own : (c : Context) → Ready c (in_env (bare env) next) → Ready c (bare next)
    own c r = r
letting_left mode text env next (domain_letting p name at d) ss h e =
    let k : _ = kept_letting (context_of env) (domain_letting p name at d) ss h.faultless (is_one p at name d) in
    behind (after_statement (context_of env) (domain_letting p name at d)) next ss (own _ (domain_letting_ready mode text (context_of env) (bare env) p at name d next h.ready k.0 e)) k.1
  where
    is_one : (p at : Place) (name : Name) (d : DomainTree) → is_letting (domain_letting p name at d) ≡ true
    is_one p at name d = refl

    own : (c : Context) → Ready c (in_env (bare env) next) → Ready c (bare next)
    own c r = r
letting_left mode text env next (given p gs) ss h e = go h e
  where
    go : Left env (given p gs ∷ ss) → bind_letting mode text env (given p gs) ≡ Ok next → Left next ss
    go h e = same_left env next (given p gs) ss h refl e
letting_left mode text env next (decided p gs) ss h e = go h e
  where
    go : Left env (decided p gs ∷ ss) → bind_letting mode text env (decided p gs) ≡ Ok next → Left next ss
    go h e = same_left env next (decided p gs) ss h refl e
letting_left mode text env next (requirements p es) ss h e = go h e
  where
    go : Left env (requirements p es ∷ ss) → bind_letting mode text env (requirements p es) ≡ Ok next → Left next ss
    go h e = same_left env next (requirements p es) ss h refl e
letting_left mode text env next (constraints p es) ss h e = go h e
  where
    go : Left env (constraints p es ∷ ss) → bind_letting mode text env (constraints p es) ≡ Ok next → Left next ss
    go h e = same_left env next (constraints p es) ss h refl e
letting_left mode text env next (objective p sense x) ss h e = go h e
  where
    go : Left env (objective p sense x ∷ ss) → bind_letting mode text env (objective p sense x) ≡ Ok next → Left next ss
    go h e = same_left env next (objective p sense x) ss h refl e
letting_left mode text env next (branching p names) ss h e = go h e
  where
    go : Left env (branching p names ∷ ss) → bind_letting mode text env (branching p names) ≡ Ok next → Left next ss
    go h e = same_left env next (branching p names) ss h refl e
letting_left mode text env next (heuristic p name) ss h e = go h e
  where
    go : Left env (heuristic p name ∷ ss) → bind_letting mode text env (heuristic p name) ≡ Ok next → Left next ss
    go h e = same_left env next (heuristic p name) ss h refl e

pub left_begin : (ss : TextTree) → text_faults (filter is_letting ss) ≡ [] → Left nothing_known ss
unfolding text_faults context_of
left_begin ss h = record { ready = nothing_ready; faultless = h }

-- ---- statements as the code has them

pub value_is_letting : (p : Place) (name : Name) (at : Place) (d : Option DomainTree) (e : ExprTree) → is_letting (letting p name at d e) ≡ true
unfolding is_letting
value_is_letting p name at d e = refl

pub domain_is_letting : (p : Place) (name : Name) (at : Place) (d : DomainTree) → is_letting (domain_letting p name at d) ≡ true
unfolding is_letting
domain_is_letting p name at d = refl

pub letting_tree : (s : Statement) (name : Name) (at : Place) (d : Option Domain) (e : Expr) → s.kind ≡ Letting name at d e → statement_tree s ≡ letting s.place name at (option_map domain_tree d) (expr_tree e)
unfolding statement_kind_tree
letting_tree s name at d e h = ap (statement_kind_tree s.place) h

pub named_tree : (s : Statement) (name : Name) (at : Place) (d : Domain) → s.kind ≡ LettingDomain name at d → statement_tree s ≡ domain_letting s.place name at (domain_tree d)
unfolding statement_kind_tree
named_tree s name at d h = ap (statement_kind_tree s.place) h

pub other_letting : (mode : Mode) (text : TextName) (env : Env) (s : StatementTree) → is_letting s ≡ false → bind_letting mode text env s ≡ Ok env
unfolding is_letting bind_letting
other_letting mode text env (letting p name at d e) h = absurd cc
other_letting mode text env (domain_letting p name at d) h = absurd cc
other_letting mode text env (given p gs) h = refl
other_letting mode text env (decided p gs) h = refl
other_letting mode text env (requirements p es) h = refl
other_letting mode text env (constraints p es) h = refl
other_letting mode text env (objective p sense e) h = refl
other_letting mode text env (branching p names) h = refl
other_letting mode text env (heuristic p name) h = refl
