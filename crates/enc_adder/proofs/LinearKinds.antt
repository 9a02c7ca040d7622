-- The kind of a linear constraint.
use Rattle.std.proofs.Common.{◌≡◌, ◌∙◌, ℕ, ◌<◌, ℤ, List, [], ◌∷◌, length, map, sym, ap, subst}
use Rattle.std.specs.List.{All}
use Rattle.std.proofs.lemmas.List.Elements.{All-cons, All-head, All-nil, All-tail}
use Rattle.ep_base.specs.Numbers.{compare_holds}
use Rattle.ep_base.specs.Reads.{weighted_sum}
use Rattle.ep_base.specs.declared.operators.CompareOp.{CompareOp}
use Rattle.ep_flat.specs.Cons.{FlatKind, kind_holds, kind_variables, linear, number_at}
use Rattle.enc_atoms.specs.Steps.{AreOf}
use Rattle.enc_var.specs.Decoding.{VariableLiterals}
use Rattle.enc_adder.specs.Parts.{sum_of_parts}

all_from_map : (P : ℕ → Type 0) (ps : List (ℤ × ℕ)) → All P (map (λ (p : ℤ × ℕ). p.1) ps) → All (λ (p : ℤ × ℕ). P p.1) ps
all_from_map P [] h = All-nil (λ (p : ℤ × ℕ). P p.1)
all_from_map P (p ∷ ps) h = All-cons (λ (q : ℤ × ℕ). P q.1) p ps (All-head P p.1 (map (λ (q : ℤ × ℕ). q.1) ps) h) (all_from_map P ps (All-tail P p.1 (map (λ (q : ℤ × ℕ). q.1) ps) h))

pub linear_named : (L : List VariableLiterals) (kind : FlatKind) (parts ps : List (ℤ × ℕ)) (op : CompareOp) (number : ℤ) → kind ≡ linear parts op number → ps ≡ parts → AreOf L (kind_variables kind) → All (λ (p : ℤ × ℕ). p.1 < length L) ps
unfolding kind_variables
linear_named L kind parts ps op number is same names =
    subst (All (λ (p : ℤ × ℕ). p.1 < length L)) (sym same) (all_from_map (λ x. x < length L) parts (subst (λ (k : FlatKind). AreOf L (kind_variables k)) is names))

pub linear_says : (values : List ℤ) (kind : FlatKind) (parts ps : List (ℤ × ℕ)) (op : CompareOp) (number m : ℤ) → kind ≡ linear parts op number → ps ≡ parts → m ≡ number → kind_holds values kind ≡ compare_holds op (sum_of_parts values ps) m
unfolding kind_holds sum_of_parts
linear_says values kind parts ps op number m is same equal =
    ap (kind_holds values) is ∙ ap (λ (qs : List (ℤ × ℕ)). compare_holds op (weighted_sum (map (λ p. (p.0, number_at values p.1)) qs)) number) (sym same)
    ∙ ap (λ n. compare_holds op (weighted_sum (map (λ p. (p.0, number_at values p.1)) ps)) n) (sym equal)
