use Rattle.std.proofs.Common.{ℤ, pos, List, refl, sym, ap}
use Rattle.std.specs.Prelude.{None}
use Rattle.ep_flat.specs.Cons.{number_at}
use Rattle.enc_arith.specs.Elements.{number_of_first}
use Rattle.enc_arith.specs.Functions.{function_value}
use Rattle.enc_arith.proofs.Cases.{adds_same}
use Rattle.enc_arith.proofs.elements.add_other.Goals as goal

pub returns-in_ok-add_function-in-Some : goal.returns-in_ok-add_function-in-Some
unfolding function_value number_of_first
returns-in_ok-add_function-in-Some c =
    let v : List ℤ → ℤ = λ values. number_of_first values None c.args.other in
    let w : List ℤ → ℤ = λ values. number_at values c.in-Some.x in
    adds_same _ _ _ c.args.when.now c.args.when.now _ _ v w c.requires.ready refl (λ values. sym (ap (number_of_first values None) c.in-Some.is)) c.in_ok-add_function-in-Some.ensures

pub returns-in_ok-add_number-in-None : goal.returns-in_ok-add_number-in-None
unfolding number_of_first
returns-in_ok-add_number-in-None c =
    let v : List ℤ → ℤ = λ values. number_of_first values None c.args.other in
    let w : List ℤ → ℤ = λ values. pos 0 in
    adds_same _ _ _ c.args.when.now c.args.when.now _ _ v w c.requires.ready refl (λ values. sym (ap (number_of_first values None) c.in-None.is)) c.in_ok-add_number-in-None.ensures
