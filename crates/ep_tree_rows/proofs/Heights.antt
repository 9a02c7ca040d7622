-- Heights, computed by the checker.
use Rattle.std.specs.Prelude.{◌≡◌, ℕ, zero, suc, false, [], ◌∷◌, option_map, ◌==◌, refl}
use Rattle.ep_base.specs.declared.places.Place.{Place}
use Rattle.ep_tree.proofs.Opened.{the_language}
use Rattle.ep_tree.specs.Heights.{domain_height, height}
use Rattle.ep_tree.specs.Reading.{MOST_HEIGHT}
use Rattle.ep_tree.specs.Trees.{ExprTree, negation, truth}
use Rattle.ep_tree_rows.proofs.Texts.{domain_in, expr_in, the_readers, wrong_rows}

-- texts of expressions, each with its height
heights : wrong_rows (λ m n. m == n) (λ text. option_map height (expr_in text)) 0 (
    ("7", 1)
    ∷ ("true", 1)
    ∷ ("x", 1)
    ∷ ("(x)", 2)
    ∷ ("!!!false", 4)
    ∷ ("-x", 2)
    ∷ ("|x|", 2)
    ∷ ("a + b + c", 2)
    ∷ ("a - (b - c)", 4)
    ∷ ("a * b * c", 3)
    ∷ ("true -> false -> false", 3)
    ∷ ("a < b + 1", 3)
    ∷ ("x in int(1..3)", 3)
    ∷ ("x in toSet(m)", 2)
    ∷ ("x in D", 2)
    ∷ ("forAll i, j, k : int(1..3) . true", 3)
    ∷ ("[]", 1)
    ∷ ("[1]", 2)
    ∷ ("[[1]]", 3)
    ∷ ("[; int(1..2)]", 3)
    ∷ ("[i | i : int(1..2), j : D]", 3)
    ∷ ("[i | i : D, i < 2]", 3)
    ∷ ("M[.., ..]", 2)
    ∷ ("M[i, j]", 2)
    ∷ ("M[i][..][j]", 3)
    ∷ ("gcc(x, [1], y)", 3)
    ∷ ("x in bool", 2)
    ∷ ("x in int", 2)
    ∷ ("x in (D)", 3)
    ∷ ("x in int(5)", 3)
    ∷ []) ≡ []
unfolding the_language the_readers
heights = refl

-- texts of domains, each with its height
domain_heights : wrong_rows (λ m n. m == n) (λ text. option_map domain_height (domain_in text)) 0 (
    ("int(..)", 1)
    ∷ ("int(.., ..)", 1)
    ∷ ("int(..5)", 2)
    ∷ ("matrix indexed by [bool, int(1)] of D", 3)
    ∷ ("matrix indexed by [D] of matrix indexed by [D] of D", 2)
    ∷ ("bool union bool union bool", 3)
    ∷ ("(bool)", 2)
    ∷ []) ≡ []
unfolding the_language the_readers
domain_heights = refl

-- a place, which heights don't depend on
abbrev p : Place
p = record { line = 1; column = 1 }

-- so many `!` and then `false`
abbrev negations : ℕ → ExprTree
negations zero = truth p false
negations (suc n) = negation p (negations n)

-- 255 of them are as high as a tree may be, and 256 are too high
negations_within : height (negations 255) ≡ MOST_HEIGHT
unfolding the_language
negations_within = refl

negations_beyond : height (negations 256) ≡ 257
unfolding the_language
negations_beyond = refl
