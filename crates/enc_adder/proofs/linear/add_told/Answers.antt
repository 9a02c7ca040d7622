use Rattle.std.proofs.Common.{◌≡◌, ◌∙◌, ℤ, [], ◌∷◌, ap, w64, arith}
use Rattle.std.proofs.lemmas.Int.{ints, to_z-of_z}
use Rattle.std.proofs.lemmas.Result.{on_ok_weaker}
use Rattle.enc_atoms.specs.Steps.{is, is_not}
use Rattle.enc_adder.proofs.Telling.{told_plain, told_truth}
use Rattle.enc_adder.proofs.linear.add_told.Goals as goal

pub returns-in_default : goal.returns-in_default
returns-in_default c =
    let x = c.args.told.0 in
    let v : ℤ = c.args.told.1 in
    let holds : c.is.result ≡ is x v = c.is.ensures ∙ ap (is x) (to_z-of_z w64 v (omega (arith, ints))) in
    on_ok_weaker c.add_clause.result
    (told_plain c.args.layout.now c.args.f.now c.add_clause.new.f c.args.truth x v (c.is.result ∷ []) c.requires.ready.is_layout c.in_default.is (ap (λ a. a ∷ []) holds))
    c.add_clause.ensures

pub returns : goal.returns
returns c =
    let x = c.args.told.0 in
    let v : ℤ = c.args.told.1 in
    let holds : c.is.result ≡ is x v = c.is.ensures ∙ ap (is x) (to_z-of_z w64 v (omega (arith, ints))) in
    let fails : c.is_not.result ≡ is_not x v = c.is_not.ensures ∙ ap (is_not x) (to_z-of_z w64 v (omega (arith, ints))) in
    on_ok_weaker c.add_guarded-2.result
    (told_truth c.args.layout.now c.args.f.now c.add_decided.new.f c.add_guarded.new.f c.add_guarded-2.new.f c.args.truth c.in-Some.t x v (c.is_not-2.result ∷ []) (c.is_not-3.result ∷ []) (c.is.result ∷ []) (c.is_not.result ∷ []) c.requires.ready.is_layout c.in-Some.is
    (ap (λ a. a ∷ []) c.is_not-2.ensures) (ap (λ a. a ∷ []) c.is_not-3.ensures) (ap (λ a. a ∷ []) holds) (ap (λ a. a ∷ []) fails) c.in_ok-add_decided.ensures c.in_ok-add_guarded.ensures)
    c.add_guarded-2.ensures
