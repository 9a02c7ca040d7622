use Rattle.std.proofs.Common.{◌++◌, ap, ◌∙◌, w64}
use Rattle.std.specs.Fmt.{signed_decimal}
use Rattle.std.proofs.lemmas.Int.{to_z-of_z}
use Rattle.ep_print.proofs.Appends.{three}
use Rattle.ep_print.proofs.answers.push_goal.Goals as goal

pub returns : goal.returns
returns c = three _ _ _ _ _ _ _ c.in_ok-extend_from_slice.ensures.items
    (c.in_ok-push_whole.ensures ∙ ap (λ z. c.extend_from_slice.new.self.items ++ signed_decimal z) (to_z-of_z w64 c.args.goal c.ranges.goal))
    c.in_ok-push_found.ensures
