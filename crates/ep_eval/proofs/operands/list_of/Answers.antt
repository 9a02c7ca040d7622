use Rattle.ep_eval.proofs.Words.{◌≡◌, ◌∷◌, ◌++◌, [], ◌+◌, pos, ℕ, ℤ, List, take, length, get_or, sym, ap, ◌∙◌, w64, to_z, of_z, arith, rules, map, ints, to_z-of_z, map-append, take_all, take_more, value_tree-matrix, value_tree-number, as_parts, list_value, matrix, single, value_tree, Number, counting, counting_more}
use Rattle.ep_eval.proofs.Lists.{values_from-map}
use Rattle.ep_eval.proofs.operands.list_of.Goals as goal

pub loop-i-init : goal.loop-i-init
unfolding counting
loop-i-init c = record { indices = c.in_ok-indices.ensures.items; parts = ap (map value_tree) c.in_ok-numbers.ensures.items }

pub loop-i-preserved : goal.loop-i-preserved
loop-i-preserved c =
    let xs : List ℤ = c.args.parts.now in
    let i : ℕ = c.loop-i.i in
    let x : ℤ = get_or xs i (pos 0) in
    let word : to_z w64 (of_z w64 x) ≡ x = to_z-of_z w64 x (search rules) in
    record {
      indices =
          c.in_ok-push.ensures.items ∙ ap (λ m. c.loop-i.indices.items ++ m ∷ []) (omega (arith, ints))
          ∙ ap (λ l. l ++ pos (i + 1) ∷ []) c.loop-i.invariant.indices ∙ sym (counting_more i);
      parts =
          ap (map value_tree) c.in_ok-push-2.ensures.items ∙ map-append value_tree c.loop-i.numbers.items (Number (to_z w64 (of_z w64 x)) ∷ [])
          ∙ ap (λ l. l ++ value_tree (Number (to_z w64 (of_z w64 x))) ∷ []) c.loop-i.invariant.parts
          ∙ ap (λ v. map single (take i xs) ++ v ∷ []) (value_tree-number (to_z w64 (of_z w64 x)) ∙ ap (λ n. single n) word)
          ∙ sym (ap (map (λ n. single n)) (take_more xs i (pos 0) c.loop-i-test.true) ∙ map-append (λ n. single n) (take i xs) (x ∷ []));
    }

pub returns : goal.returns
unfolding list_value
returns c =
    let xs : List ℤ = c.args.parts.now in
    let i : ℕ = c.loop-i.i in
    let end = c.loop-i.auto.i-end in
    let last = c.loop-i-test.false in
    value_tree-matrix c.loop-i.indices c.loop-i.numbers ∙ ap (matrix c.loop-i.indices.items) (values_from-map c.loop-i.numbers.items)
    ∙ ap (λ is. matrix is (as_parts (map value_tree c.loop-i.numbers.items))) (c.loop-i.invariant.indices ∙ ap (counting (pos 1)) (omega (arith, end, last)))
    ∙ ap (λ l. matrix (counting (pos 1) (length xs)) (as_parts l)) (c.loop-i.invariant.parts ∙ ap (map (λ n. single n)) (take_all i xs last))
