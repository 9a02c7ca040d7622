use Rattle.ep_eval.proofs.Words.{ap, ◌∙◌, ◌+◌, sym, subst, option_map, map_both, together, seen_held, signed, true, ◌+ℤ◌}
use Rattle.ep_eval.proofs.Instances.{more_number, more_truth, small_is_total, small_total_is, truths_are_small}
use Rattle.ep_eval.proofs.gathering.with_seen.Goals as goal

pub returns-in-Truths : goal.returns-in-Truths
returns-in-Truths c most b h = (
  more_truth c.in-Truths.every c.in-Truths.truth c.together.result (seen_held c.args.seen.now) c.args.gathered c.in-Truths.is
      (c.together.ensures ∙ ap (map_both (together c.in-Truths.every) c.in-Truths.truth) c.truth_seen.ensures),
  truths_are_small (most + 9223372036854775808) c.in-Truths.every c.together.result,
)

pub returns-in-Total : goal.returns-in-Total
returns-in-Total c most b h =
    let next = c.with_term.ensures most b (small_total_is most c.in-Total.total c.args.gathered c.in-Total.is h) in (
      more_number c.in-Total.total c.with_term.result (seen_held c.args.seen.now) c.args.gathered c.in-Total.is
          (next.0 ∙ ap (λ n. map_both ◌+ℤ◌ c.in-Total.total (option_map (signed true) n)) c.number_of.ensures),
      small_is_total (most + 9223372036854775808) c.with_term.result next.1,
    )
