use Rattle.ep_eval.proofs.Words.{◌≡◌, ◌+◌, ℕ, ℤ, List, pos, drop, get_or, sym, ap, subst, ◌∙◌, w64, to_z, of_z, rules, int_eq, to_z-of_z, at_drop_all, at_drop_more, has_number}
use Rattle.ep_eval.proofs.ListLaws.{has_found, has_none, has_step}
use Rattle.ep_eval.proofs.orders.has_number.Goals as goal

pub loop-part-preserved : goal.loop-part-preserved
loop-part-preserved c =
    let all : List ℤ = c.args.parts.now in
    let k : ℕ = c.loop-part.part-index in
    let n : ℤ = c.args.number in
    let x : ℤ = get_or all k (pos 0) in
    let own : to_z w64 (of_z w64 n) ≡ n = to_z-of_z w64 n (search rules) in
    let word : to_z w64 (of_z w64 x) ≡ x = to_z-of_z w64 x (search rules) in
    let so_far : has_number all n ≡ has_number (drop k all) n = subst (λ m. has_number all m ≡ has_number (drop k all) m) own c.loop-part.invariant in
    subst (λ m. has_number all m ≡ has_number (drop (k + 1) all) m) (sym own)
    (so_far ∙ at_drop_more (λ l. has_number l n) all k (pos 0) c.loop-part-test.true
    ∙ has_step n x (drop (k + 1) all)
    (ap (λ m. int_eq m x) (sym own) ∙ ap (int_eq (to_z w64 (of_z w64 n))) (sym word) ∙ sym c.are_equal.ensures ∙ c.if-are_equal.false))

pub returns-then-are_equal : goal.returns-then-are_equal
returns-then-are_equal c =
    let all : List ℤ = c.args.parts.now in
    let k : ℕ = c.loop-part.part-index in
    let n : ℤ = c.args.number in
    let x : ℤ = get_or all k (pos 0) in
    let own : to_z w64 (of_z w64 n) ≡ n = to_z-of_z w64 n (search rules) in
    let word : to_z w64 (of_z w64 x) ≡ x = to_z-of_z w64 x (search rules) in
    let so_far : has_number all n ≡ has_number (drop k all) n = subst (λ m. has_number all m ≡ has_number (drop k all) m) own c.loop-part.invariant in
    sym (so_far ∙ at_drop_more (λ l. has_number l n) all k (pos 0) c.loop-part-test.true
    ∙ has_found n x (drop (k + 1) all)
    (ap (λ m. int_eq m x) (sym own) ∙ ap (int_eq (to_z w64 (of_z w64 n))) (sym word) ∙ sym c.are_equal.ensures ∙ c.if-are_equal.true))

pub returns : goal.returns
returns c =
    let all : List ℤ = c.args.parts.now in
    let k : ℕ = c.loop-part.part-index in
    let n : ℤ = c.args.number in
    let own : to_z w64 (of_z w64 n) ≡ n = to_z-of_z w64 n (search rules) in
    let so_far : has_number all n ≡ has_number (drop k all) n = subst (λ m. has_number all m ≡ has_number (drop k all) m) own c.loop-part.invariant in
    sym (so_far ∙ at_drop_all (λ l. has_number l n) all k c.loop-part-test.false ∙ has_none n)
