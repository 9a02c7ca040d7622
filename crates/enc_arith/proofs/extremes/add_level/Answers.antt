use Rattle.std.proofs.Common.{◌≡◌, ap, ◌∙◌, w64, to_z, of_z, rules}
use Rattle.std.proofs.lemmas.Int.{to_z-of_z}
use Rattle.ep_base.specs.Numbers.{compare_holds, contrary_comparison}
use Rattle.ep_flat.specs.Cons.{number_at}
use Rattle.enc_arith.specs.Extremes.{reached_of, within_of}
use Rattle.enc_arith.proofs.Levels.{adds_level}
use Rattle.enc_arith.proofs.extremes.add_level.Goals as goal

pub returns : goal.returns
returns c =
    let word : to_z w64 (of_z w64 c.args.number) ≡ c.args.number = to_z-of_z w64 c.args.number (search rules) in
    adds_level _ _ _ _ c.args.side c.args.xs.now c.args.r c.args.number _ _ c.compared-beyond.result c.compared-short.result c.within-within.result c.reached-reached.result c.requires.ready
    c.within-within.ensures c.reached-reached.ensures word word
    (λ values. c.compared-beyond.ensures.means values
    ∙ ap (λ o. compare_holds o (number_at values c.args.r) (to_z w64 (of_z w64 c.args.number))) (c.contrary-past.ensures ∙ ap contrary_comparison c.within-within.ensures)
    ∙ ap (compare_holds (contrary_comparison (within_of c.args.side)) (number_at values c.args.r)) word)
    (λ values. c.compared-short.ensures.means values
    ∙ ap (λ o. compare_holds o (number_at values c.args.r) (to_z w64 (of_z w64 c.args.number))) (c.contrary-before.ensures ∙ ap contrary_comparison c.reached-reached.ensures)
    ∙ ap (compare_holds (contrary_comparison (reached_of c.args.side)) (number_at values c.args.r)) word)
    c.in_ok-add_each.ensures c.in_ok-add_some.ensures
