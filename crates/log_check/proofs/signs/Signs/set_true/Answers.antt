use Rattle.std.proofs.Common.{◌≡◌, ℕ, cond, eqb, List, [], ◌∷◌, ◌++◌, true, sym, ap, ◌∙◌}
use Rattle.cnf_core.specs.Literal.{Literal, negation, code_of, is_among}
use Rattle.log_check.specs.Table.{has}
use Rattle.log_check.proofs.Trues.{more_falses}
use Rattle.log_check.proofs.signs.Signs.set_true.Goals as goal

pub invariant_of-self-then-not-is_false : goal.invariant_of-self-then-not-is_false
invariant_of-self-then-not-is_false c =
    let items : c.push_reserved.new.self.items ≡ c.self.inside.trues.items ++ c.args.lit ∷ [] = c.push_reserved.ensures.items ∙ ap (λ (xs : List Literal). xs ++ c.args.lit ∷ []) c.reserve.ensures.items in
    λ q. more_falses (has c.self.inside.falses) (has c.put.new.self) c.self.inside.trues.items c.args.lit c.self.invariant
    (λ n. c.in_ok-put.ensures.ok n ∙ ap (λ (m : ℕ). cond (eqb m n) true (has c.self.inside.falses n)) (c.code.ensures ∙ ap (λ (l : Literal). code_of l) c.negated-negated.ensures)) q
    ∙ ap (λ (xs : List Literal). is_among xs (negation q)) (sym items)
