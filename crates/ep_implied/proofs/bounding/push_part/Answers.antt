use Rattle.std.proofs.Common.{◌≡◌, ◌∙◌, List, [], ◌∷◌, ◌++◌, ℤ, ℕ, pos, sym, ap, subst, to_z}
use Rattle.std.proofs.lemmas.Int.{to_z-of_z}
use Rattle.std.specs.Int.{w64}
use Rattle.ep_implied.specs.Sums.{TakesIn}
use Rattle.ep_implied.proofs.SumSteps.{took_none, took_one}
use Rattle.ep_implied.proofs.bounding.push_part.Goals as goal

pub returns-then-coefficient-eq0 : goal.returns-then-coefficient-eq0
returns-then-coefficient-eq0 c =
    let none : c.args.coefficient ≡ pos 0 = sym (to_z-of_z w64 c.args.coefficient c.ranges.coefficient) ∙ ap (to_z w64) c.if-coefficient-eq0.true in
    took_none c.args.var c.args.parts.now.items c.args.coefficient none

pub returns : goal.returns
returns c =
    let short = to_z-of_z w64 c.args.coefficient c.ranges.coefficient in
    subst (λ (ps : List (ℤ × ℕ)). TakesIn (c.args.coefficient, c.args.var) c.args.parts.now.items ps)
    (sym (c.in_ok-push.ensures.items ∙ ap (λ (n : ℤ). c.args.parts.now.items ++ (n, c.args.var) ∷ []) short)) (took_one c.args.parts.now.items (c.args.coefficient, c.args.var))
