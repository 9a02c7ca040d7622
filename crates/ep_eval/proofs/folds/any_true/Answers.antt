use Rattle.ep_eval.proofs.Words.{◌≡◌, ◌+◌, ℕ, ℤ, List, pos, drop, get_or, sym, ap, ◌∙◌, w64, to_z, of_z, rules, to_z-of_z, at_drop_all, at_drop_more, any_one, is_one}
use Rattle.ep_eval.proofs.ListLaws.{any_found, any_none, any_step}
use Rattle.ep_eval.proofs.folds.any_true.Goals as goal

pub loop-part-preserved : goal.loop-part-preserved
loop-part-preserved c =
    let all : List ℤ = c.args.parts.now in
    let k : ℕ = c.loop-part.part-index in
    let x : ℤ = get_or all k (pos 0) in
    let word : to_z w64 (of_z w64 x) ≡ x = to_z-of_z w64 x (search rules) in
    let so_far : any_one all ≡ any_one (drop k all) = c.loop-part.invariant in
    so_far ∙ at_drop_more any_one all k (pos 0) c.loop-part-test.true
    ∙ any_step x (drop (k + 1) all) (ap is_one (sym word) ∙ sym c.is_true.ensures ∙ c.if-is_true.false)

pub returns-then-is_true : goal.returns-then-is_true
returns-then-is_true c =
    let all : List ℤ = c.args.parts.now in
    let k : ℕ = c.loop-part.part-index in
    let x : ℤ = get_or all k (pos 0) in
    let word : to_z w64 (of_z w64 x) ≡ x = to_z-of_z w64 x (search rules) in
    let so_far : any_one all ≡ any_one (drop k all) = c.loop-part.invariant in
    sym (so_far ∙ at_drop_more any_one all k (pos 0) c.loop-part-test.true
    ∙ any_found x (drop (k + 1) all) (ap is_one (sym word) ∙ sym c.is_true.ensures ∙ c.if-is_true.true))

pub returns : goal.returns
returns c =
    let all : List ℤ = c.args.parts.now in
    let k : ℕ = c.loop-part.part-index in
    let so_far : any_one all ≡ any_one (drop k all) = c.loop-part.invariant in
    sym (so_far ∙ at_drop_all any_one all k c.loop-part-test.false ∙ any_none)
