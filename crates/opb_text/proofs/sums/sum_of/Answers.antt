use Rattle.std.proofs.Common.{rules, List, ℕ, ℤ, w64, subst, sym}
use Rattle.std.proofs.lemmas.Int.{to_z-of_z}
use Rattle.opb_text.specs.Sums.{PartsComeTo, IsSumOf}
use Rattle.opb_text.proofs.SumLaws.{sum_joined}
use Rattle.opb_text.proofs.sums.sum_of.Goals as goal

pub returns : goal.returns
returns c =
    let constant = to_z-of_z w64 c.in_ok-sum.sum.constant (search rules) in
    let comes = subst (λ (ps : List (ℤ × ℕ)). PartsComeTo ps c.in_ok-parts.parts.items) c.deref.ensures.value c.in_ok-parts.ensures in
    subst (IsSumOf c.args.vars.now c.args.terms.now c.in_ok-parts.parts.items) (sym constant)
    (sum_joined c.args.vars.now c.args.terms.now c.in_ok-sum.sum.parts.items c.sort_unstable_by_key.new.self.items c.in_ok-parts.parts.items c.in_ok-sum.sum.constant c.in_ok-sum.ensures c.sort_unstable_by_key.ensures.permutation comes)
