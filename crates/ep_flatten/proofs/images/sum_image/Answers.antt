use Rattle.std.proofs.Common.{◌≡◌, ◌∷◌, ◌∙◌, ℕ, ℤ, List, [], ap, arith, length, of_z, rules, subst, sym, to_z, w64}
use Rattle.std.proofs.lemmas.Int.{to_z-of_z}
use Rattle.std.proofs.lemmas.List.{nil_from_length}
use Rattle.ep_ground.specs.Nodes as nodes
use Rattle.ep_numbers.specs.Spans.{interval_of}
use Rattle.ep_flatten.specs.Forms.{own}
use Rattle.ep_flatten.specs.Images.{HasResult, HoldsImage, IsDomainImage, domain_at, operation_result}
use Rattle.ep_flatten.specs.declared.images.Operation.TheVariants as one
use Rattle.ep_flatten.proofs.Adding.{if_ok_then}
use Rattle.ep_flatten.proofs.ImageSteps.{hull_holds, scaled_holds}
use Rattle.ep_flatten.proofs.images.sum_image.Goals as goal

pub returns-in_default : goal.returns-in_default
returns-in_default c =
    if_ok_then c.domain_of.result c.domain_of.ensures
    (λ set h. hull_holds c.args.vars.now c.args.places.now (nodes.sum c.args.number c.args.parts.now) own (interval_of c.args.span) set c.requires h)

pub returns-then-others-gt0 : goal.returns-then-others-gt0
returns-then-others-gt0 c =
    if_ok_then c.domain_of-then-others-gt0.result c.domain_of-then-others-gt0.ensures
    (λ set h. hull_holds c.args.vars.now c.args.places.now (nodes.sum c.args.number c.args.parts.now) own (interval_of c.args.span) set c.requires h)

pub returns : goal.returns
returns c =
    let vars = c.args.vars.now in
    let places = c.args.places.now in
    let span = interval_of c.args.span in
    let part : ℤ × ℕ = c.in-Some.part.now in
    let others : List (ℤ × ℕ) = c.in-Some.others.now in
    let none : others ≡ [] = nil_from_length others (grind (arith, c.if-others-gt0.false)) in
    let whole : c.args.parts.now ≡ part ∷ [] = c.in-Some.ensures.cases.0 ∙ ap (λ (l : List (ℤ × ℕ)). part ∷ l) none in
    let coefficient : to_z w64 (of_z w64 part.0) ≡ part.0 = to_z-of_z w64 part.0 (search rules) in
    let number : to_z w64 (of_z w64 c.args.number) ≡ c.args.number = to_z-of_z w64 c.args.number (search rules) in
    if_ok_then c.one_image.result c.one_image.ensures
    (λ set image. subst (λ (ps : List (ℤ × ℕ)). HoldsImage vars places (nodes.sum c.args.number ps) own span set) (sym whole)
    (scaled_holds vars places c.args.number part.0 part.1 span set c.requires
    (subst (λ (m : ℤ). IsDomainImage span (HasResult span (operation_result (one.Scaled part.0 m))) (domain_at vars places part.1) set) number
    (subst (λ (k : ℤ). IsDomainImage span (HasResult span (operation_result (one.Scaled k (to_z w64 (of_z w64 c.args.number))))) (domain_at vars places part.1) set) coefficient image))))
