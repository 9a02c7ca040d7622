use Rattle.std.proofs.Common.{◌≡◌, ℤ, [], ◌∷◌, List, ap, ◌∙◌, w64, to_z, of_z, rules}
use Rattle.std.proofs.lemmas.Int.{to_z-of_z}
use Rattle.ep_flat.specs.Cons.{number_at}
use Rattle.enc_arith.specs.Functions.{function_value}
use Rattle.enc_arith.specs.Operations.{result_of}
use Rattle.enc_arith.specs.Saying.{or_is_not}
use Rattle.enc_arith.proofs.Cases.{adds_same, is_not_atom}
use Rattle.enc_arith.proofs.operations.add_given.Goals as goal

pub returns : goal.returns
returns c =
    let word : to_z w64 (of_z w64 c.args.number) ≡ c.args.number = to_z-of_z w64 c.args.number (search rules) in
    let v : List ℤ → ℤ = λ values. result_of c.args.operation c.args.number (number_at values c.args.y) in
    let w : List ℤ → ℤ = λ values. function_value c.given.result (number_at values c.args.y) in
    adds_same _ _ _ (or_is_not [] c.args.x c.args.number) _ _ _ v w c.requires.ready (ap (λ a. a ∷ []) (c.is_not.ensures ∙ ap (is_not_atom c.args.x) word))
    (λ values. c.given.ensures (number_at values c.args.y) ∙ ap (λ n. result_of c.args.operation n (number_at values c.args.y)) word)
    c.in_ok-add_function.ensures
