use Rattle.ep_unroll.proofs.Words.{◌≡◌, ◌∷◌, ◌++◌, [], ℤ, List, pos, ap, ◌∙◌, w64, to_z, of_z, rules, to_z-of_z, Run, counted_set}
use Rattle.ep_unroll.proofs.literals.first_numbers.Goals as goal

-- a run from 1 on
abbrev from_one : ℤ → Run
from_one last = record { lo = pos 1; hi = last }

pub returns : goal.returns
returns c =
    let last : to_z w64 (of_z w64 c.in-Ok.last) ≡ pos c.args.count = to_z-of_z w64 c.in-Ok.last (search rules) ∙ c.in-Ok.ensures.1 in
    let parts : c.push.new.self.items ≡ from_one (pos c.args.count) ∷ [] =
    c.in_ok-push.ensures.items
    ∙ ap (λ (l : List Run). l ++ from_one (to_z w64 (of_z w64 c.in-Ok.last)) ∷ []) c.new-parts.ensures.items
    ∙ ap (λ (z : ℤ). from_one z ∷ []) last in
    counted_set c.in_ok-set.set c.push.new.self.items c.args.count parts c.in_ok-set.ensures.ascending c.in_ok-set.ensures.numbers
