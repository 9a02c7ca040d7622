use Rattle.ep_size.proofs.Words.{◌↔◌, IsTrue, subst, ap, sym, ◌∙◌, arith, w64, ints, to_z-of_z, has_is, measured_of, names_one, Stated}
use Rattle.std.specs.Prelude.{Contains}
use Rattle.ep_size.proofs.slices.names_one.Goals as goal

pub returns-in-Some : goal.returns-in-Some
unfolding names_one measured_of
returns-in-Some c =
    let d = c.args.domain.now in
    let told = subst (λ n. IsTrue c.has.result ↔ Contains d n) (to_z-of_z w64 c.in-Some.stated (omega (arith, ints))) c.has.ensures in
    has_is c.has.result d c.in-Some.stated (λ t. told.0 t) (λ t. told.1 t)
    ∙ ap (λ i. names_one (measured_of i) d) (sym (c.in-Stated.is ∙ ap Stated c.in-Some.is))

pub returns-in-None : goal.returns-in-None
unfolding names_one measured_of
returns-in-None c = ap (λ i. names_one (measured_of i) c.args.domain.now) (sym (c.in-Stated.is ∙ ap Stated c.in-None.is))
