use Rattle.std.proofs.Common.{rules, ℤ, ℕ, List, IsTrue, sym, ap, subst}
use Rattle.std.proofs.lemmas.Int.{to_z-of_z}
use Rattle.std.specs.Int.{w64}
use Rattle.ep_base.specs.Numbers.{compare_holds}
use Rattle.ep_flat.specs.FlatViews.{plain_con, plain_kind}
use Rattle.ep_implied.specs.Sums.{parts_sum}
use Rattle.ep_implied.proofs.SumSteps.{says_compared}
use Rattle.ep_implied.proofs.sums.add_times.Goals as goal

pub returns-in-Linear : goal.returns-in-Linear
returns-in-Linear c = λ is values holds low.
    let said = says_compared values (plain_con c.args.con.now) c.in-Linear.parts.items c.in-Linear.op c.in-Linear.number c.in-None.is (ap plain_kind c.in-Linear.is) holds in
    let parts = subst (λ (ps : List (ℤ × ℕ)). IsTrue (compare_holds c.in-Linear.op (parts_sum ps values) c.in-Linear.number)) (sym c.deref.ensures.value) said in
    let number = subst (λ (n : ℤ). IsTrue (compare_holds c.in-Linear.op (parts_sum c.deref.result.now values) n)) (sym (to_z-of_z w64 c.in-Linear.number (search rules))) parts in
    c.add_compared.ensures is values number low
