use Rattle.ep_size.proofs.Words.{subst, sym, arith, w64, ints, to_z-of_z, ◌∷◌, ◌↔◌, IfSome, IsTrue, measured_of, LeavesDomains}
use Rattle.std.specs.Prelude.{Contains}
use Rattle.ep_size.proofs.SliceSteps.{every_leaves, has_told, kept_some, stated_leaves}
use Rattle.ep_size.proofs.slices.domains_with.Goals as goal

pub returns-then-has : goal.returns-then-has
returns-then-has c inner is same kept =
    let d = c.args.domain.now in
    kept_some c.args.left _ _ kept
    (λ l h. stated_leaves c.args.index c.in-Stated.number c.in-Some.stated is d inner l.now c.in-Stated.is c.in-Some.is
    (has_told c.has.result d c.in-Some.stated (subst (λ n. IsTrue c.has.result ↔ Contains d n) (to_z-of_z w64 c.in-Some.stated (omega (arith, ints))) c.has.ensures) c.if-has.true) h)

pub returns-in-Some-left : goal.returns-in-Some-left
returns-in-Some-left c inner is same kept =
    let d = c.args.domain.now in
    kept_some c.first_alone.result _ _ (c.first_alone.ensures d inner same)
    (λ l e. subst (λ x. LeavesDomains (measured_of c.args.index ∷ is) (d ∷ inner) x) (sym e)
    (every_leaves c.args.index is d inner c.in-Some-left.behind.now c.in-Every.is (subst (λ o. IfSome o (λ l. LeavesDomains is inner l.now)) c.in-Some-left.is kept)))
