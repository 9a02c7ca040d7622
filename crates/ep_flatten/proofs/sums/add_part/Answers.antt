use Rattle.std.proofs.Common.{rules, refl, ◌∙◌, ◌≡◌, ◌<◌, ◌∷◌, ◌++◌, [], length, slice_index_or, w64, to_z, of_z}
use Rattle.std.specs.Prelude.{◌+ℤ◌}
use Rattle.std.proofs.lemmas.Int.{to_z-of_z}
use Rattle.ep_base.specs.Reads.{IsWithinNumbers}
use Rattle.ep_flatten.proofs.SumLaws.{takes_merged, takes_pushed}
use Rattle.ep_flatten.proofs.sums.add_part.Goals as goal

pub returns-in-Some-clause-parts : goal.returns-in-Some-clause-parts
returns-in-Some-clause-parts c =
    let ps = c.args.sum.now.parts.items in
    let i = c.place_in-place.result in
    let p = c.index-part.result.now in
    let s = to_z w64 (of_z w64 c.in-Some.both) in
    let below : i < length ps = search rules in
    let is : p ≡ slice_index_or ps i p = c.index-part.ensures in
    let same : p.1 ≡ c.args.term = search (rules, c.place_in-place.ensures) in
    let part : to_z w64 (of_z w64 p.0) ≡ p.0 = to_z-of_z w64 p.0 (search rules) in
    let fits : s ≡ c.in-Some.both = to_z-of_z w64 c.in-Some.both (search rules) in
    let coefficient : to_z w64 (of_z w64 c.args.coefficient) ≡ c.args.coefficient = to_z-of_z w64 c.args.coefficient c.ranges.coefficient in
    let sum : s ≡ (p.0 +ℤ c.args.coefficient) = fits ∙ c.in-Some.ensures.value ∙ (λ j. part j +ℤ coefficient j) in
    let within : IsWithinNumbers s = search (rules, c.in-Some.ensures.small) in
    takes_merged ps _ i p c.args.coefficient s c.args.term below is same sum within refl

pub returns-clause-parts : goal.returns-clause-parts
returns-clause-parts c =
    let ps = c.args.sum.now.parts.items in
    let pushed : c.push.new.self.items ≡ ps ++ (c.args.coefficient, c.args.term) ∷ [] = search rules in
    takes_pushed ps c.push.new.self.items c.args.coefficient c.args.term pushed
