use Rattle.std.proofs.Common.{◌≡◌, OnOk, ◌∷◌, ◌++◌, [], List, ap, ◌∙◌, subst}
use Rattle.cnf_core.specs.Literal.{Literal, HaveSameLiterals}
use Rattle.sat_split.proofs.Units.{unit_is, with_given}
use Rattle.sat_split.proofs.logs.give_unit.Goals as goal

pub returns : goal.returns
returns c =
    subst (λ (clause : List Literal). OnOk c.given.result (c.given.new.self ≡ with_given c.args.log.now clause))
    (unit_is c.in_ok-new.field-0 c.args.lit c.in_ok-new.ensures.ordered
    (subst (HaveSameLiterals c.in_ok-new.field-0) (c.in_ok-push.ensures.items ∙ ap (λ (ls : List Literal). ls ++ c.args.lit ∷ []) c.new-literals.ensures.items) c.in_ok-new.ensures.same))
    c.given.ensures.ok
