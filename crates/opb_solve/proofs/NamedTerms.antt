-- Each term's variable is one of the problem's.
use Rattle.std.proofs.Common.{ℕ, List, [], ◌∷◌, ◌++◌, map, subst}
use Rattle.std.specs.List.{All, Contains, flat_map}
use Rattle.std.proofs.lemmas.List.Concat.{flat_map-cons}
use Rattle.std.proofs.lemmas.List.Elements.{All-cons, All-contains_itself, All-head, All-nil, All-tail, All-weaker}
use Rattle.opb_text.specs.declared.content.OpbTerm.{OpbTerm}
use Rattle.opb_text.specs.Contents.{OpbConstraint, OpbContent, all_terms, named_variables, objective_terms}
use Rattle.opb_text.specs.Sums.{AreNamed, AreNamedRows}
use Rattle.opb_text.specs.Weights.{AreVariablesOf}

all_unmap : {X Y : Type 0} (P : Y → Type 0) (f : X → Y) (xs : List X) → All P (map f xs) → All (λ x. P (f x)) xs
all_unmap P f [] all = All-nil (λ x. P (f x))
all_unmap P f (x ∷ xs) all = All-cons (λ y. P (f y)) x xs (All-head P (f x) (map f xs) all) (all_unmap P f xs (All-tail P (f x) (map f xs) all))

all_left : {X : Type 0} (P : X → Type 0) (xs ys : List X) → All P (xs ++ ys) → All P xs
all_left P [] ys all = All-nil P
all_left P (x ∷ xs) ys all = All-cons P x xs (All-head P x (xs ++ ys) all) (all_left P xs ys (All-tail P x (xs ++ ys) all))

all_right : {X : Type 0} (P : X → Type 0) (xs ys : List X) → All P (xs ++ ys) → All P ys
all_right P [] ys all = all
all_right P (x ∷ xs) ys all = all_right P xs ys (All-tail P x (xs ++ ys) all)

all_flat : {X Y : Type 0} (P : Y → Type 0) (f : X → List Y) (xs : List X) → All P (flat_map f xs) → All (λ x. All P (f x)) xs
all_flat P f [] all = All-nil (λ x. All P (f x))
all_flat P f (x ∷ xs) all =
    let whole = subst (λ ys. All P ys) (flat_map-cons f x xs) all in
    All-cons (λ y. All P (f y)) x xs (all_left P (f x) (flat_map f xs) whole) (all_flat P f xs (all_right P (f x) (flat_map f xs) whole))

named_terms : (content : OpbContent) (vars : List ℕ) → AreVariablesOf content vars → AreNamed vars (all_terms content)
named_terms content vars are =
    all_unmap (Contains vars) (λ (t : OpbTerm). t.var) (all_terms content)
    (All-weaker (Contains (named_variables content)) (Contains vars) (λ v there. (are.same v).1 there) (named_variables content) (All-contains_itself (named_variables content)))

pub named_goal : (content : OpbContent) (vars : List ℕ) → AreVariablesOf content vars → AreNamed vars (objective_terms content)
named_goal content vars are =
    all_left (λ (t : OpbTerm). Contains vars t.var) (objective_terms content) (flat_map (λ (row : OpbConstraint). row.terms) content.rows) (named_terms content vars are)

pub named_rows : (content : OpbContent) (vars : List ℕ) → AreVariablesOf content vars → AreNamedRows vars content.rows
named_rows content vars are =
    all_flat (λ (t : OpbTerm). Contains vars t.var) (λ (row : OpbConstraint). row.terms) content.rows
    (all_right (λ (t : OpbTerm). Contains vars t.var) (objective_terms content) (flat_map (λ (row : OpbConstraint). row.terms) content.rows) (named_terms content vars are))
