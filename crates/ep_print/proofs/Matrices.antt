-- The texts of index domains and of matrices, empty ones and others.
use Rattle.std.proofs.Common.{◌≡◌, ◌==◌, true, false, List, [], ◌∷◌, ◌++◌, ℤ, length, map, codes, refl, ap, arith}
use Rattle.std.proofs.lemmas.Bool.{eqb-true, true≢false}
use Rattle.ep_tree.specs.Values.{matrix}
use Rattle.ep_tree.specs.Views.{value_tree, values_from}
use Rattle.ep_tree.specs.declared.values.Scalar.{Scalar}
use Rattle.ep_tree.specs.declared.values.Value.{Value}
use Rattle.ep_print.specs.Putting.{continued}
use Rattle.ep_print.specs.Values.{index_domain_text, run_text, runs_of, scalar_value_text, scalar_value_texts}
use Rattle.ep_print.proofs.Puts.{joined-continued}

pub no_indices : (ns : List ℤ) → (length ns == 0) ≡ true → index_domain_text ns ≡ codes "int(1..0)"
unfolding index_domain_text
no_indices [] e = refl
no_indices (n ∷ ns) e = let none = eqb-true _ _ e in absurd (omega arith)

pub some_indices : (ns : List ℤ) → (length ns == 0) ≡ false → index_domain_text ns ≡ codes "int(" ++ (continued (codes ", ") false (map run_text (runs_of ns)) ++ codes ")")
unfolding index_domain_text
some_indices [] e = absurd (true≢false e)
some_indices (n ∷ ns) e = ap (λ t. codes "int(" ++ (t ++ codes ")")) (joined-continued (codes ", ") (map run_text (runs_of (n ∷ ns))))

pub no_parts : (s : Scalar) (ns : List ℤ) (parts : List Value) → (length parts == 0) ≡ true → scalar_value_text s (matrix ns (values_from parts)) ≡ codes "[; int(1..0)]"
unfolding scalar_value_text values_from
no_parts s ns [] e = refl
no_parts s ns (v ∷ vs) e = let none = eqb-true _ _ e in absurd (omega arith)

pub some_parts : (s : Scalar) (ns : List ℤ) (parts : List Value) → (length parts == 0) ≡ false
    → scalar_value_text s (matrix ns (values_from parts)) ≡ codes "[" ++ (continued (codes ", ") false (scalar_value_texts s (values_from parts)) ++ (codes "; " ++ (index_domain_text ns ++ codes "]")))
unfolding scalar_value_text values_from
some_parts s ns [] e = absurd (true≢false e)
some_parts s ns (v ∷ vs) e = ap (λ t. codes "[" ++ (t ++ (codes "; " ++ (index_domain_text ns ++ codes "]")))) (joined-continued (codes ", ") (scalar_value_text s (value_tree v) ∷ scalar_value_texts s (values_from vs)))
