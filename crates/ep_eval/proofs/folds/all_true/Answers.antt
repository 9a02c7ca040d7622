use Rattle.ep_eval.proofs.Words.{◌≡◌, ◌+◌, ℕ, ℤ, List, pos, drop, get_or, sym, ap, ◌∙◌, w64, to_z, of_z, rules, to_z-of_z, at_drop_all, at_drop_more, all_one, is_one}
use Rattle.ep_eval.proofs.ListLaws.{all_fails, all_none, all_step}
use Rattle.ep_eval.proofs.folds.all_true.Goals as goal

pub loop-part-preserved : goal.loop-part-preserved
loop-part-preserved c =
    let all : List ℤ = c.args.parts.now in
    let k : ℕ = c.loop-part.part-index in
    let x : ℤ = get_or all k (pos 0) in
    let word : to_z w64 (of_z w64 x) ≡ x = to_z-of_z w64 x (search rules) in
    let so_far : all_one all ≡ all_one (drop k all) = c.loop-part.invariant in
    so_far ∙ at_drop_more all_one all k (pos 0) c.loop-part-test.true
    ∙ all_step x (drop (k + 1) all) (ap is_one (sym word) ∙ sym c.is_true.ensures ∙ c.if-not-is_true.false)

pub returns-then-not-is_true : goal.returns-then-not-is_true
returns-then-not-is_true c =
    let all : List ℤ = c.args.parts.now in
    let k : ℕ = c.loop-part.part-index in
    let x : ℤ = get_or all k (pos 0) in
    let word : to_z w64 (of_z w64 x) ≡ x = to_z-of_z w64 x (search rules) in
    let so_far : all_one all ≡ all_one (drop k all) = c.loop-part.invariant in
    sym (so_far ∙ at_drop_more all_one all k (pos 0) c.loop-part-test.true
    ∙ all_fails x (drop (k + 1) all) (ap is_one (sym word) ∙ sym c.is_true.ensures ∙ c.if-not-is_true.true))

pub returns : goal.returns
returns c =
    let all : List ℤ = c.args.parts.now in
    let k : ℕ = c.loop-part.part-index in
    let so_far : all_one all ≡ all_one (drop k all) = c.loop-part.invariant in
    sym (so_far ∙ at_drop_all all_one all k c.loop-part-test.false ∙ all_none)
