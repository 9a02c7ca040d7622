-- Values of domains, computed by the checker.
use Rattle.std.specs.Prelude.{◌≡◌, ℤ, List, [], ◌∷◌, pos, negsuc, Option, Some, None, codes, option_map, refl}
use Prim.Native.String.{String}
use Rattle.ep_base.specs.Numbers.{same_numbers}
use Rattle.ep_tree.proofs.Opened.{the_language}
use Rattle.ep_tree.specs.Environments.{Env, has_domain, has_value}
use Rattle.ep_tree.specs.Evaluation.{domain_values}
use Rattle.ep_tree.specs.Names.{nothing_known, put_all}
use Rattle.ep_tree.specs.Values.{single}
use Rattle.ep_tree.specs.declared.values.Mode.{Mode}
use Rattle.ep_tree.specs.declared.values.Scalar.{Scalar}
use Rattle.ep_tree.specs.declared.values.ValueType.{ValueType}
use Rattle.ep_tree_rows.proofs.Texts.{domain_in, same_option, the_readers, wrong_rows}

-- D has 1 to 3, and n is 2
abbrev names : Env
names = put_all (
    (codes "D", has_domain Scalar.Int [] (pos 1 ∷ pos 2 ∷ pos 3 ∷ []))
    ∷ (codes "n", has_value ValueType.Int (single (pos 2))) ∷ []) nothing_known

-- the numbers of a domain
abbrev numbers : String → Option (Option (List ℤ))
numbers text = option_map (domain_values Mode.Relational names) (domain_in text)

-- texts, each with its numbers, if it has any
domains : wrong_rows (same_option same_numbers) numbers 0 (
    ("bool", Some (pos 0 ∷ pos 1 ∷ []))
    ∷ ("int(1..5, 8)", Some (pos 1 ∷ pos 2 ∷ pos 3 ∷ pos 4 ∷ pos 5 ∷ pos 8 ∷ []))
    ∷ ("int(5..1)", Some [])
    ∷ ("int(3, 1, 2..3)", Some (pos 1 ∷ pos 2 ∷ pos 3 ∷ []))
    ∷ ("int(-2..1)", Some (negsuc 1 ∷ negsuc 0 ∷ pos 0 ∷ pos 1 ∷ []))
    ∷ ("int(1..3) union int(3..5)", Some (pos 1 ∷ pos 2 ∷ pos 3 ∷ pos 4 ∷ pos 5 ∷ []))
    ∷ ("int(1..3) intersect int(3..5)", Some (pos 3 ∷ []))
    ∷ ("int(1..5) - int(2..3)", Some (pos 1 ∷ pos 4 ∷ pos 5 ∷ []))
    ∷ ("int(1..9) - int(2..8) union int(5)", Some (pos 1 ∷ pos 5 ∷ pos 9 ∷ []))
    ∷ ("(int(1..2))", Some (pos 1 ∷ pos 2 ∷ []))
    ∷ ("D", Some (pos 1 ∷ pos 2 ∷ pos 3 ∷ []))
    ∷ ("int(1..1/0)", None)
    ∷ ("int(1..2) union int(1/0)", None)
    ∷ ("int(1..n)", Some (pos 1 ∷ pos 2 ∷ []))
    ∷ ("bool - int(0)", Some (pos 1 ∷ []))
    ∷ []) ≡ []
unfolding the_language the_readers
domains = refl
