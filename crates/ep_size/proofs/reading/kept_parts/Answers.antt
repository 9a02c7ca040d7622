use Rattle.ep_size.proofs.Words.{◌↔◌, IsTrue, subst, ap, sym, ◌∙◌, arith, w64, ints, to_z-of_z, if◌then◌else◌}
use Rattle.std.specs.Prelude.{Contains}
use Rattle.ep_size.proofs.ReadSteps.{decided_kept, every_kept, stated_kept, unstated_kept}
use Rattle.ep_size.proofs.reading.kept_parts.Goals as goal

pub returns-then-has : goal.returns-then-has
returns-then-has c =
    ap (λ b. if b then 1 else 0) (sym c.if-has.true)
    ∙ stated_kept c.args.index c.in-Stated.number c.in-Some.stated c.args.domain.now c.has.result c.in-Stated.is c.in-Some.is
    (subst (λ n. IsTrue c.has.result ↔ Contains c.args.domain.now n) (to_z-of_z w64 c.in-Some.stated (omega (arith, ints))) c.has.ensures)

pub returns-else-has : goal.returns-else-has
returns-else-has c =
    ap (λ b. if b then 1 else 0) (sym c.if-has.false)
    ∙ stated_kept c.args.index c.in-Stated.number c.in-Some.stated c.args.domain.now c.has.result c.in-Stated.is c.in-Some.is
    (subst (λ n. IsTrue c.has.result ↔ Contains c.args.domain.now n) (to_z-of_z w64 c.in-Some.stated (omega (arith, ints))) c.has.ensures)

pub returns-in-None : goal.returns-in-None
returns-in-None c = unstated_kept c.args.index c.in-Stated.number c.args.domain.now c.in-Stated.is c.in-None.is

pub returns-in-Every : goal.returns-in-Every
returns-in-Every c = every_kept c.args.index c.args.domain.now c.set_length.result c.in-Every.is c.set_length.ensures

pub returns-in-Decided : goal.returns-in-Decided
returns-in-Decided c =
    decided_kept c.args.index c.in-Decided.field-0 c.args.domain.now c.set_length-in-Decided.result c.in-Decided.is c.set_length-in-Decided.ensures
