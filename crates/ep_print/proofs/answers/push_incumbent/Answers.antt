use Rattle.std.proofs.Common.{◌++◌, codes, ap, ◌∙◌, w64}
use Rattle.std.specs.Fmt.{signed_decimal}
use Rattle.std.proofs.lemmas.Int.{to_z-of_z}
use Rattle.ep_tree.specs.Views.{assigned}
use Rattle.ep_print.specs.Answers.{letting_texts}
use Rattle.ep_print.proofs.Appends.{two}
use Rattle.ep_print.proofs.answers.push_incumbent.Goals as goal

pub returns : goal.returns
returns c = two _ _ _ _ _ c.in_ok-push_unknown.ensures
    (c.in_ok-push_goal.ensures ∙ ap (λ z. c.push_unknown.new.text.items ++ (codes "$ incumbent " ++ (signed_decimal z ++ (codes "\n" ++ letting_texts (assigned c.args.found.now))))) (to_z-of_z w64 c.args.goal c.ranges.goal))
