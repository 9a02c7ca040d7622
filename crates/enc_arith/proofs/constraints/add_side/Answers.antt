use Rattle.std.proofs.Common.{ℕ, ℤ, Bool, [], List, IsTrue, sym, subst}
use Rattle.std.specs.Prelude.{Option}
use Rattle.ep_flat.specs.Cons.{is_value, number_at, numbers_of_vars}
use Rattle.enc_atoms.specs.Atoms.{Adds}
use Rattle.enc_arith.specs.Extremes.{extreme_of}
use Rattle.enc_arith.specs.Saying.{says}
use Rattle.enc_arith.proofs.Whether.{adds_alone}
use Rattle.enc_arith.proofs.constraints.add_side.Goals as goal

pub returns-in_ok-add_whether_extreme-in-Some : goal.returns-in_ok-add_whether_extreme-in-Some
returns-in_ok-add_whether_extreme-in-Some c =
    let b : List ℤ → Bool = λ values. is_value (extreme_of c.args.side (numbers_of_vars values c.args.parts.now)) (number_at values c.args.target.result) in
    subst (λ (o : Option ℕ). Adds c.args.layout.now c.args.f.now c.args.layout.now c.add_whether_extreme.new.f (λ values. IsTrue (says values [] o (b values)))) (sym c.in-Some.is) c.in_ok-add_whether_extreme-in-Some.ensures

pub returns-in_ok-add_extreme-in-None : goal.returns-in_ok-add_extreme-in-None
returns-in_ok-add_extreme-in-None c =
    let b : List ℤ → Bool = λ values. is_value (extreme_of c.args.side (numbers_of_vars values c.args.parts.now)) (number_at values c.args.target.result) in
    adds_alone _ _ _ c.args.target.truth b c.requires.ready c.in-None.is c.in_ok-add_extreme-in-None.ensures
