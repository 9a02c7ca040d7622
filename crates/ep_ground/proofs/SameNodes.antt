-- Two nodes of the code are equal exactly where, without where their lists lie in memory, they are one.
use Rattle.std.proofs.Common.{◌≡◌, ℕ, ℤ, Bool, true, false, ◌&&◌, nat_eq, List, refl, sym, ap, subst, ◌∙◌}
use Rattle.std.specs.Bool.{Decides}
use Rattle.std.specs.Cmp.{first_so, second_so}
use Rattle.std.specs.Cmp.Lexicographic.{pointwise, pointwise_decides}
use Rattle.std.specs.Ordering.{int_eq}
use Rattle.std.proofs.lemmas.Bool.{false≢true}
use Rattle.std.proofs.lemmas.Bool.Decides.{Decides-and, Decides-eqb, Decides-int_eq, Decides-like}
use Rattle.ep_base.specs.declared.operators.CompareOp.{CompareOp}
use Rattle.ep_base.specs.declared.operators.CompareOp.TheVariants as comparisons
use Rattle.ep_base.specs.declared.operators.LexOp.{LexOp}
use Rattle.ep_base.specs.declared.operators.LexOp.TheVariants as orders
use Rattle.ep_base.specs.contracts.operators.CompareOpPartialEq.TheImpl as comparison_eq
use Rattle.ep_base.specs.contracts.operators.LexOpPartialEq.TheImpl as order_eq
use Rattle.ep_ground.specs.declared.nodes.Node.{Node}
use Rattle.ep_ground.specs.declared.nodes.Node.TheVariants as code
use Rattle.ep_ground.specs.contracts.nodes.NodePartialEq.TheImpl as node_eq
use Rattle.ep_ground.specs.NodeViews.{plain_node}
use Rattle.ep_ground.specs.Nodes.{GroundNode, constant, undefined, cell, sum, product, quotient, remainder, power, absolute, least, greatest, pick, whole, safe_quotient, safe_remainder, safe_pick, compare, lex, member, negation, all_of, any_of, same_truth, all_different, counts, at_least, at_most, table}

abbrev same_terms : List ℕ → List ℕ → Bool
same_terms = pointwise nat_eq

abbrev same_list : List ℤ → List ℤ → Bool
same_list = pointwise int_eq

abbrev same_keys : List (List ℤ) → List (List ℤ) → Bool
same_keys = pointwise (pointwise int_eq)

abbrev same_parts : List (ℤ × ℕ) → List (ℤ × ℕ) → Bool
same_parts = pointwise (λ p q. int_eq p.0 q.0 && nat_eq p.1 q.1)

abbrev same_comparison : CompareOp → CompareOp → Bool
same_comparison a b = comparison_eq.ghosts.eq a b

abbrev same_order : LexOp → LexOp → Bool
same_order a b = order_eq.ghosts.eq a b

abbrev pub same_node : Node → Node → Bool
same_node a b = node_eq.ghosts.eq a b

terms_decide : (xs ys : List ℕ) → Decides (same_terms xs ys) (xs ≡ ys)
terms_decide = pointwise_decides Decides-eqb

list_decides : (xs ys : List ℤ) → Decides (same_list xs ys) (xs ≡ ys)
list_decides = pointwise_decides Decides-int_eq

keys_decide : (xs ys : List (List ℤ)) → Decides (same_keys xs ys) (xs ≡ ys)
keys_decide = pointwise_decides list_decides

part_decides : (p q : ℤ × ℕ) → Decides (int_eq p.0 q.0 && nat_eq p.1 q.1) (p ≡ q)
part_decides p q =
    Decides-like (int_eq p.0 q.0 && nat_eq p.1 q.1) (λ h i. (h.0 i, h.1 i)) (λ e. (ap (λ r. r.0) e, ap (λ r. r.1) e))
    (Decides-and (int_eq p.0 q.0) (nat_eq p.1 q.1) (Decides-int_eq p.0 q.0) (Decides-eqb p.1 q.1))

parts_decide : (xs ys : List (ℤ × ℕ)) → Decides (same_parts xs ys) (xs ≡ ys)
parts_decide = pointwise_decides part_decides

comparison_sound : (a b : CompareOp) → same_comparison a b ≡ true → a ≡ b
comparison_sound comparisons.Equal comparisons.Equal e = refl
comparison_sound comparisons.NotEqual comparisons.NotEqual e = refl
comparison_sound comparisons.Less comparisons.Less e = refl
comparison_sound comparisons.AtMost comparisons.AtMost e = refl
comparison_sound comparisons.Greater comparisons.Greater e = refl
comparison_sound comparisons.AtLeast comparisons.AtLeast e = refl
comparison_sound a b e = absurd (false≢true e)

comparison_self : (a : CompareOp) → same_comparison a a ≡ true
comparison_self comparisons.Equal = refl
comparison_self comparisons.NotEqual = refl
comparison_self comparisons.Less = refl
comparison_self comparisons.AtMost = refl
comparison_self comparisons.Greater = refl
comparison_self comparisons.AtLeast = refl

comparison_decides : (a b : CompareOp) → Decides (same_comparison a b) (a ≡ b)
comparison_decides a b = (comparison_sound a b, λ e. subst (λ c. same_comparison a c ≡ true) e (comparison_self a))

order_sound : (a b : LexOp) → same_order a b ≡ true → a ≡ b
order_sound orders.Less orders.Less e = refl
order_sound orders.AtMost orders.AtMost e = refl
order_sound orders.Greater orders.Greater e = refl
order_sound orders.AtLeast orders.AtLeast e = refl
order_sound a b e = absurd (false≢true e)

order_self : (a : LexOp) → same_order a a ≡ true
order_self orders.Less = refl
order_self orders.AtMost = refl
order_self orders.Greater = refl
order_self orders.AtLeast = refl

order_decides : (a b : LexOp) → Decides (same_order a b) (a ≡ b)
order_decides a b = (order_sound a b, λ e. subst (λ c. same_order a c ≡ true) e (order_self a))

-- whether two nodes are one
same_plain : GroundNode → GroundNode → Bool
same_plain (constant a0) (constant b0) = int_eq a0 b0
same_plain undefined undefined = true
same_plain (cell a0) (cell b0) = nat_eq a0 b0
same_plain (sum a0 a1) (sum b0 b1) = int_eq a0 b0 && same_parts a1 b1
same_plain (product a0 a1) (product b0 b1) = nat_eq a0 b0 && nat_eq a1 b1
same_plain (quotient a0 a1) (quotient b0 b1) = nat_eq a0 b0 && nat_eq a1 b1
same_plain (remainder a0 a1) (remainder b0 b1) = nat_eq a0 b0 && nat_eq a1 b1
same_plain (power a0 a1) (power b0 b1) = nat_eq a0 b0 && nat_eq a1 b1
same_plain (absolute a0) (absolute b0) = nat_eq a0 b0
same_plain (least a0) (least b0) = same_terms a0 b0
same_plain (greatest a0) (greatest b0) = same_terms a0 b0
same_plain (pick a0 a1 a2) (pick b0 b1 b2) = same_terms a0 b0 && (same_keys a1 b1 && same_terms a2 b2)
same_plain (whole a0 a1) (whole b0 b1) = nat_eq a0 b0 && same_terms a1 b1
same_plain (safe_quotient a0 a1) (safe_quotient b0 b1) = nat_eq a0 b0 && nat_eq a1 b1
same_plain (safe_remainder a0 a1) (safe_remainder b0 b1) = nat_eq a0 b0 && nat_eq a1 b1
same_plain (safe_pick a0 a1 a2) (safe_pick b0 b1 b2) = same_terms a0 b0 && (same_keys a1 b1 && same_terms a2 b2)
same_plain (compare a0 a1 a2) (compare b0 b1 b2) = same_comparison a0 b0 && (nat_eq a1 b1 && nat_eq a2 b2)
same_plain (lex a0 a1 a2) (lex b0 b1 b2) = same_order a0 b0 && (same_terms a1 b1 && same_terms a2 b2)
same_plain (member a0 a1) (member b0 b1) = nat_eq a0 b0 && same_list a1 b1
same_plain (negation a0) (negation b0) = nat_eq a0 b0
same_plain (all_of a0) (all_of b0) = same_terms a0 b0
same_plain (any_of a0) (any_of b0) = same_terms a0 b0
same_plain (same_truth a0 a1) (same_truth b0 b1) = nat_eq a0 b0 && nat_eq a1 b1
same_plain (all_different a0) (all_different b0) = same_terms a0 b0
same_plain (counts a0 a1 a2) (counts b0 b1 b2) = same_terms a0 b0 && (same_list a1 b1 && same_terms a2 b2)
same_plain (at_least a0 a1 a2) (at_least b0 b1 b2) = same_terms a0 b0 && (same_list a1 b1 && same_list a2 b2)
same_plain (at_most a0 a1 a2) (at_most b0 b1 b2) = same_terms a0 b0 && (same_list a1 b1 && same_list a2 b2)
same_plain (table a0 a1) (table b0 b1) = same_terms a0 b0 && same_keys a1 b1
same_plain a b = false

same_as_plain : (a b : Node) → same_node a b ≡ same_plain (plain_node a) (plain_node b)
unfolding same_plain
same_as_plain (code.Const a0) (code.Const b0) = refl
same_as_plain code.Undefined code.Undefined = refl
same_as_plain (code.Cell a0) (code.Cell b0) = refl
same_as_plain (code.Add a0 a1) (code.Add b0 b1) = refl
same_as_plain (code.Mul a0 a1) (code.Mul b0 b1) = refl
same_as_plain (code.Div a0 a1) (code.Div b0 b1) = refl
same_as_plain (code.Mod a0 a1) (code.Mod b0 b1) = refl
same_as_plain (code.Pow a0 a1) (code.Pow b0 b1) = refl
same_as_plain (code.Abs a0) (code.Abs b0) = refl
same_as_plain (code.Min a0) (code.Min b0) = refl
same_as_plain (code.Max a0) (code.Max b0) = refl
same_as_plain (code.Pick a0 a1 a2) (code.Pick b0 b1 b2) = refl
same_as_plain (code.Whole a0 a1) (code.Whole b0 b1) = refl
same_as_plain (code.SafeDiv a0 a1) (code.SafeDiv b0 b1) = refl
same_as_plain (code.SafeMod a0 a1) (code.SafeMod b0 b1) = refl
same_as_plain (code.SafePick a0 a1 a2) (code.SafePick b0 b1 b2) = refl
same_as_plain (code.Compare a0 a1 a2) (code.Compare b0 b1 b2) = refl
same_as_plain (code.Lex a0 a1 a2) (code.Lex b0 b1 b2) = refl
same_as_plain (code.Member a0 a1) (code.Member b0 b1) = refl
same_as_plain (code.Not a0) (code.Not b0) = refl
same_as_plain (code.And a0) (code.And b0) = refl
same_as_plain (code.Or a0) (code.Or b0) = refl
same_as_plain (code.Iff a0 a1) (code.Iff b0 b1) = refl
same_as_plain (code.AllDiff a0) (code.AllDiff b0) = refl
same_as_plain (code.Gcc a0 a1 a2) (code.Gcc b0 b1 b2) = refl
same_as_plain (code.AtLeast a0 a1 a2) (code.AtLeast b0 b1 b2) = refl
same_as_plain (code.AtMost a0 a1 a2) (code.AtMost b0 b1 b2) = refl
same_as_plain (code.Table a0 a1) (code.Table b0 b1) = refl
same_as_plain a b = refl

plain_sound : (a b : GroundNode) → same_plain a b ≡ true → a ≡ b
unfolding same_plain
plain_sound (constant a0) (constant b0) e = ap constant ((Decides-int_eq a0 b0).0 e)
plain_sound undefined undefined e = refl
plain_sound (cell a0) (cell b0) e = ap cell ((Decides-eqb a0 b0).0 e)
plain_sound (sum a0 a1) (sum b0 b1) e = λ i. sum ((Decides-int_eq a0 b0).0 (first_so (int_eq a0 b0) (same_parts a1 b1) e) i) ((parts_decide a1 b1).0 (second_so (int_eq a0 b0) (same_parts a1 b1) e) i)
plain_sound (product a0 a1) (product b0 b1) e = λ i. product ((Decides-eqb a0 b0).0 (first_so (nat_eq a0 b0) (nat_eq a1 b1) e) i) ((Decides-eqb a1 b1).0 (second_so (nat_eq a0 b0) (nat_eq a1 b1) e) i)
plain_sound (quotient a0 a1) (quotient b0 b1) e = λ i. quotient ((Decides-eqb a0 b0).0 (first_so (nat_eq a0 b0) (nat_eq a1 b1) e) i) ((Decides-eqb a1 b1).0 (second_so (nat_eq a0 b0) (nat_eq a1 b1) e) i)
plain_sound (remainder a0 a1) (remainder b0 b1) e = λ i. remainder ((Decides-eqb a0 b0).0 (first_so (nat_eq a0 b0) (nat_eq a1 b1) e) i) ((Decides-eqb a1 b1).0 (second_so (nat_eq a0 b0) (nat_eq a1 b1) e) i)
plain_sound (power a0 a1) (power b0 b1) e = λ i. power ((Decides-eqb a0 b0).0 (first_so (nat_eq a0 b0) (nat_eq a1 b1) e) i) ((Decides-eqb a1 b1).0 (second_so (nat_eq a0 b0) (nat_eq a1 b1) e) i)
plain_sound (absolute a0) (absolute b0) e = ap absolute ((Decides-eqb a0 b0).0 e)
plain_sound (least a0) (least b0) e = ap least ((terms_decide a0 b0).0 e)
plain_sound (greatest a0) (greatest b0) e = ap greatest ((terms_decide a0 b0).0 e)
plain_sound (pick a0 a1 a2) (pick b0 b1 b2) e =
    let back = second_so (same_terms a0 b0) ((same_keys a1 b1) && (same_terms a2 b2)) e in
    λ i. pick ((terms_decide a0 b0).0 (first_so (same_terms a0 b0) ((same_keys a1 b1) && (same_terms a2 b2)) e) i) ((keys_decide a1 b1).0 (first_so (same_keys a1 b1) (same_terms a2 b2) back) i) ((terms_decide a2 b2).0 (second_so (same_keys a1 b1) (same_terms a2 b2) back) i)
plain_sound (whole a0 a1) (whole b0 b1) e = λ i. whole ((Decides-eqb a0 b0).0 (first_so (nat_eq a0 b0) (same_terms a1 b1) e) i) ((terms_decide a1 b1).0 (second_so (nat_eq a0 b0) (same_terms a1 b1) e) i)
plain_sound (safe_quotient a0 a1) (safe_quotient b0 b1) e = λ i. safe_quotient ((Decides-eqb a0 b0).0 (first_so (nat_eq a0 b0) (nat_eq a1 b1) e) i) ((Decides-eqb a1 b1).0 (second_so (nat_eq a0 b0) (nat_eq a1 b1) e) i)
plain_sound (safe_remainder a0 a1) (safe_remainder b0 b1) e = λ i. safe_remainder ((Decides-eqb a0 b0).0 (first_so (nat_eq a0 b0) (nat_eq a1 b1) e) i) ((Decides-eqb a1 b1).0 (second_so (nat_eq a0 b0) (nat_eq a1 b1) e) i)
plain_sound (safe_pick a0 a1 a2) (safe_pick b0 b1 b2) e =
    let back = second_so (same_terms a0 b0) ((same_keys a1 b1) && (same_terms a2 b2)) e in
    λ i. safe_pick ((terms_decide a0 b0).0 (first_so (same_terms a0 b0) ((same_keys a1 b1) && (same_terms a2 b2)) e) i) ((keys_decide a1 b1).0 (first_so (same_keys a1 b1) (same_terms a2 b2) back) i) ((terms_decide a2 b2).0 (second_so (same_keys a1 b1) (same_terms a2 b2) back) i)
plain_sound (compare a0 a1 a2) (compare b0 b1 b2) e =
    let back = second_so (same_comparison a0 b0) ((nat_eq a1 b1) && (nat_eq a2 b2)) e in
    λ i. compare ((comparison_decides a0 b0).0 (first_so (same_comparison a0 b0) ((nat_eq a1 b1) && (nat_eq a2 b2)) e) i) ((Decides-eqb a1 b1).0 (first_so (nat_eq a1 b1) (nat_eq a2 b2) back) i) ((Decides-eqb a2 b2).0 (second_so (nat_eq a1 b1) (nat_eq a2 b2) back) i)
plain_sound (lex a0 a1 a2) (lex b0 b1 b2) e =
    let back = second_so (same_order a0 b0) ((same_terms a1 b1) && (same_terms a2 b2)) e in
    λ i. lex ((order_decides a0 b0).0 (first_so (same_order a0 b0) ((same_terms a1 b1) && (same_terms a2 b2)) e) i) ((terms_decide a1 b1).0 (first_so (same_terms a1 b1) (same_terms a2 b2) back) i) ((terms_decide a2 b2).0 (second_so (same_terms a1 b1) (same_terms a2 b2) back) i)
plain_sound (member a0 a1) (member b0 b1) e = λ i. member ((Decides-eqb a0 b0).0 (first_so (nat_eq a0 b0) (same_list a1 b1) e) i) ((list_decides a1 b1).0 (second_so (nat_eq a0 b0) (same_list a1 b1) e) i)
plain_sound (negation a0) (negation b0) e = ap negation ((Decides-eqb a0 b0).0 e)
plain_sound (all_of a0) (all_of b0) e = ap all_of ((terms_decide a0 b0).0 e)
plain_sound (any_of a0) (any_of b0) e = ap any_of ((terms_decide a0 b0).0 e)
plain_sound (same_truth a0 a1) (same_truth b0 b1) e = λ i. same_truth ((Decides-eqb a0 b0).0 (first_so (nat_eq a0 b0) (nat_eq a1 b1) e) i) ((Decides-eqb a1 b1).0 (second_so (nat_eq a0 b0) (nat_eq a1 b1) e) i)
plain_sound (all_different a0) (all_different b0) e = ap all_different ((terms_decide a0 b0).0 e)
plain_sound (counts a0 a1 a2) (counts b0 b1 b2) e =
    let back = second_so (same_terms a0 b0) ((same_list a1 b1) && (same_terms a2 b2)) e in
    λ i. counts ((terms_decide a0 b0).0 (first_so (same_terms a0 b0) ((same_list a1 b1) && (same_terms a2 b2)) e) i) ((list_decides a1 b1).0 (first_so (same_list a1 b1) (same_terms a2 b2) back) i) ((terms_decide a2 b2).0 (second_so (same_list a1 b1) (same_terms a2 b2) back) i)
plain_sound (at_least a0 a1 a2) (at_least b0 b1 b2) e =
    let back = second_so (same_terms a0 b0) ((same_list a1 b1) && (same_list a2 b2)) e in
    λ i. at_least ((terms_decide a0 b0).0 (first_so (same_terms a0 b0) ((same_list a1 b1) && (same_list a2 b2)) e) i) ((list_decides a1 b1).0 (first_so (same_list a1 b1) (same_list a2 b2) back) i) ((list_decides a2 b2).0 (second_so (same_list a1 b1) (same_list a2 b2) back) i)
plain_sound (at_most a0 a1 a2) (at_most b0 b1 b2) e =
    let back = second_so (same_terms a0 b0) ((same_list a1 b1) && (same_list a2 b2)) e in
    λ i. at_most ((terms_decide a0 b0).0 (first_so (same_terms a0 b0) ((same_list a1 b1) && (same_list a2 b2)) e) i) ((list_decides a1 b1).0 (first_so (same_list a1 b1) (same_list a2 b2) back) i) ((list_decides a2 b2).0 (second_so (same_list a1 b1) (same_list a2 b2) back) i)
plain_sound (table a0 a1) (table b0 b1) e = λ i. table ((terms_decide a0 b0).0 (first_so (same_terms a0 b0) (same_keys a1 b1) e) i) ((keys_decide a1 b1).0 (second_so (same_terms a0 b0) (same_keys a1 b1) e) i)
plain_sound a b e = absurd (false≢true e)

plain_self : (a : GroundNode) → same_plain a a ≡ true
unfolding same_plain
plain_self (constant a0) = λ i. (Decides-int_eq a0 a0).1 refl i
plain_self undefined = refl
plain_self (cell a0) = λ i. (Decides-eqb a0 a0).1 refl i
plain_self (sum a0 a1) = λ i. (Decides-int_eq a0 a0).1 refl i && (parts_decide a1 a1).1 refl i
plain_self (product a0 a1) = λ i. (Decides-eqb a0 a0).1 refl i && (Decides-eqb a1 a1).1 refl i
plain_self (quotient a0 a1) = λ i. (Decides-eqb a0 a0).1 refl i && (Decides-eqb a1 a1).1 refl i
plain_self (remainder a0 a1) = λ i. (Decides-eqb a0 a0).1 refl i && (Decides-eqb a1 a1).1 refl i
plain_self (power a0 a1) = λ i. (Decides-eqb a0 a0).1 refl i && (Decides-eqb a1 a1).1 refl i
plain_self (absolute a0) = λ i. (Decides-eqb a0 a0).1 refl i
plain_self (least a0) = λ i. (terms_decide a0 a0).1 refl i
plain_self (greatest a0) = λ i. (terms_decide a0 a0).1 refl i
plain_self (pick a0 a1 a2) = λ i. (terms_decide a0 a0).1 refl i && ((keys_decide a1 a1).1 refl i && (terms_decide a2 a2).1 refl i)
plain_self (whole a0 a1) = λ i. (Decides-eqb a0 a0).1 refl i && (terms_decide a1 a1).1 refl i
plain_self (safe_quotient a0 a1) = λ i. (Decides-eqb a0 a0).1 refl i && (Decides-eqb a1 a1).1 refl i
plain_self (safe_remainder a0 a1) = λ i. (Decides-eqb a0 a0).1 refl i && (Decides-eqb a1 a1).1 refl i
plain_self (safe_pick a0 a1 a2) = λ i. (terms_decide a0 a0).1 refl i && ((keys_decide a1 a1).1 refl i && (terms_decide a2 a2).1 refl i)
plain_self (compare a0 a1 a2) = λ i. (comparison_decides a0 a0).1 refl i && ((Decides-eqb a1 a1).1 refl i && (Decides-eqb a2 a2).1 refl i)
plain_self (lex a0 a1 a2) = λ i. (order_decides a0 a0).1 refl i && ((terms_decide a1 a1).1 refl i && (terms_decide a2 a2).1 refl i)
plain_self (member a0 a1) = λ i. (Decides-eqb a0 a0).1 refl i && (list_decides a1 a1).1 refl i
plain_self (negation a0) = λ i. (Decides-eqb a0 a0).1 refl i
plain_self (all_of a0) = λ i. (terms_decide a0 a0).1 refl i
plain_self (any_of a0) = λ i. (terms_decide a0 a0).1 refl i
plain_self (same_truth a0 a1) = λ i. (Decides-eqb a0 a0).1 refl i && (Decides-eqb a1 a1).1 refl i
plain_self (all_different a0) = λ i. (terms_decide a0 a0).1 refl i
plain_self (counts a0 a1 a2) = λ i. (terms_decide a0 a0).1 refl i && ((list_decides a1 a1).1 refl i && (terms_decide a2 a2).1 refl i)
plain_self (at_least a0 a1 a2) = λ i. (terms_decide a0 a0).1 refl i && ((list_decides a1 a1).1 refl i && (list_decides a2 a2).1 refl i)
plain_self (at_most a0 a1 a2) = λ i. (terms_decide a0 a0).1 refl i && ((list_decides a1 a1).1 refl i && (list_decides a2 a2).1 refl i)
plain_self (table a0 a1) = λ i. (terms_decide a0 a0).1 refl i && (keys_decide a1 a1).1 refl i

-- the code's test of equality decides whether two nodes are one
pub nodes_decide : (a b : Node) → Decides (same_node a b) (plain_node a ≡ plain_node b)
nodes_decide a b = (
  λ e. plain_sound (plain_node a) (plain_node b) (sym (same_as_plain a b) ∙ e),
  λ e. same_as_plain a b ∙ subst (λ c. same_plain (plain_node a) c ≡ true) e (plain_self (plain_node a)),
)
