-- The parts of a linear constraint.
use Rattle.std.proofs.Common.{◌≡◌, ℕ, ◌<◌, ℤ, List, [], ◌∷◌, map, Option, None, Some, subst}
use Rattle.std.specs.List.{All}
use Rattle.std.proofs.lemmas.List.Elements.{All-cons, All-head, All-nil, All-tail}
use Rattle.ep_base.specs.declared.operators.CompareOp.{CompareOp}
use Rattle.ep_flat.specs.Cons.{FlatKind, con_variables, kind_variables, linear}
use Rattle.ep_flat.specs.Flats.{NamesBelow}

all_from_map : (P : ℕ → Type 0) (ps : List (ℤ × ℕ)) → All P (map (λ (p : ℤ × ℕ). p.1) ps) → All (λ (p : ℤ × ℕ). P p.1) ps
all_from_map P [] h = All-nil (λ (p : ℤ × ℕ). P p.1)
all_from_map P (p ∷ ps) h = All-cons (λ (q : ℤ × ℕ). P q.1) p ps (All-head P p.1 (map (λ (q : ℤ × ℕ). q.1) ps) h) (all_from_map P ps (All-tail P p.1 (map (λ (q : ℤ × ℕ). q.1) ps) h))

kind_named : (n : ℕ) (truth : Option ℕ) (kind : FlatKind) → NamesBelow n (record { truth = truth; kind = kind }) → All (λ x. x < n) (kind_variables kind)
unfolding con_variables
kind_named n None kind names = names
kind_named n (Some t) kind names = All-tail (λ x. x < n) t (kind_variables kind) names

-- each variable of its parts is one of so many
pub linear_named : (n : ℕ) (truth : Option ℕ) (kind : FlatKind) (parts : List (ℤ × ℕ)) (op : CompareOp) (number : ℤ) → kind ≡ linear parts op number → NamesBelow n (record { truth = truth; kind = kind }) → All (λ (p : ℤ × ℕ). p.1 < n) parts
unfolding kind_variables
linear_named n truth kind parts op number is names = all_from_map (λ x. x < n) parts (subst (λ (k : FlatKind). All (λ x. x < n) (kind_variables k)) is (kind_named n truth kind names))
