use Rattle.ep_eval.proofs.Words.{◌≡◌, ◌+◌, ◌<◌, ◌∷◌, [], ℕ, ℤ, List, pos, drop, length, get_or, sym, ap, ◌∙◌, w64, to_z, of_z, arith, rules, to_z-of_z, at_drop_all, at_drop_more, length-drop, compare_holds, counts_hold, times_in, CompareOp}
use Rattle.ep_eval.proofs.ListLaws.{counts_fail, counts_lengths, counts_none, counts_step}
use Rattle.ep_eval.proofs.counts.counts_hold.Goals as goal

both_go_on : (op : CompareOp) (parts xs ys : List ℤ) (i : ℕ) → i < length xs → i < length ys → counts_hold op parts xs ys ≡ counts_hold op parts (drop i xs) (drop i ys)
    → counts_hold op parts xs ys ≡ counts_hold op parts (get_or xs i (pos 0) ∷ drop (i + 1) xs) (get_or ys i (pos 0) ∷ drop (i + 1) ys)
both_go_on op parts xs ys i h k so_far =
    so_far ∙ at_drop_more (λ l. counts_hold op parts l (drop i ys)) xs i (pos 0) h
    ∙ at_drop_more (counts_hold op parts (get_or xs i (pos 0) ∷ drop (i + 1) xs)) ys i (pos 0) k

pub returns-then-values-counts : goal.returns-then-values-counts
returns-then-values-counts c = sym (counts_lengths c.args.op c.args.parts.now c.args.values.now c.args.counts.now c.if-values-counts.true)

pub loop-i-preserved : goal.loop-i-preserved
loop-i-preserved c =
    let op : CompareOp = c.args.op in
    let parts : List ℤ = c.args.parts.now in
    let xs : List ℤ = c.args.values.now in
    let ys : List ℤ = c.args.counts.now in
    let i : ℕ = c.loop-i.i in
    let x : ℤ = get_or xs i (pos 0) in
    let y : ℤ = get_or ys i (pos 0) in
    let word : to_z w64 (of_z w64 x) ≡ x = to_z-of_z w64 x (search rules) in
    let other : to_z w64 (of_z w64 y) ≡ y = to_z-of_z w64 y (search rules) in
    let t : ℤ = c.times.result in
    let counted : to_z w64 (of_z w64 t) ≡ t = to_z-of_z w64 t (search rules) in
    both_go_on op parts xs ys i c.loop-i-test.true (omega (arith, c.loop-i-test.true, c.if-values-counts.false)) c.loop-i.invariant
    ∙ counts_step op parts (drop (i + 1) xs) (drop (i + 1) ys) x y
    (ap (λ n. compare_holds op (times_in parts n) y) (sym word) ∙ ap (λ n. compare_holds op n y) (sym c.times.ensures ∙ sym counted)
    ∙ ap (compare_holds op (to_z w64 (of_z w64 t))) (sym other) ∙ sym c.holds.ensures ∙ c.if-not-holds.false)

pub returns-then-not-holds : goal.returns-then-not-holds
returns-then-not-holds c =
    let op : CompareOp = c.args.op in
    let parts : List ℤ = c.args.parts.now in
    let xs : List ℤ = c.args.values.now in
    let ys : List ℤ = c.args.counts.now in
    let i : ℕ = c.loop-i.i in
    let x : ℤ = get_or xs i (pos 0) in
    let y : ℤ = get_or ys i (pos 0) in
    let word : to_z w64 (of_z w64 x) ≡ x = to_z-of_z w64 x (search rules) in
    let other : to_z w64 (of_z w64 y) ≡ y = to_z-of_z w64 y (search rules) in
    let t : ℤ = c.times.result in
    let counted : to_z w64 (of_z w64 t) ≡ t = to_z-of_z w64 t (search rules) in
    sym (both_go_on op parts xs ys i c.loop-i-test.true (omega (arith, c.loop-i-test.true, c.if-values-counts.false)) c.loop-i.invariant
    ∙ counts_fail op parts (drop (i + 1) xs) (drop (i + 1) ys) x y
    (ap (λ n. compare_holds op (times_in parts n) y) (sym word) ∙ ap (λ n. compare_holds op n y) (sym c.times.ensures ∙ sym counted)
    ∙ ap (compare_holds op (to_z w64 (of_z w64 t))) (sym other) ∙ sym c.holds.ensures ∙ c.if-not-holds.true)
    (let l = length-drop (i + 1) xs in let m = length-drop (i + 1) ys in omega (arith, l, m, c.if-values-counts.false)))

pub returns : goal.returns
returns c =
    let op : CompareOp = c.args.op in
    let parts : List ℤ = c.args.parts.now in
    let xs : List ℤ = c.args.values.now in
    let ys : List ℤ = c.args.counts.now in
    let i : ℕ = c.loop-i.i in
    sym (c.loop-i.invariant ∙ at_drop_all (λ l. counts_hold op parts l (drop i ys)) xs i c.loop-i-test.false
    ∙ at_drop_all (counts_hold op parts []) ys i (omega (arith, c.loop-i-test.false, c.if-values-counts.false)) ∙ counts_none op parts)
