use Rattle.std.proofs.Common.{rules, w64, [], ◌∷◌, ◌++◌, ◌∙◌, List, ap}
use Rattle.std.proofs.lemmas.Int.{to_z-of_z}
use Rattle.ep_base.specs.declared.run_lists.Run.{Run}
use Rattle.opb_text.proofs.FlatLaws.{both_ok, span_of}
use Rattle.opb_text.proofs.flat.span.Goals as goal

pub returns-clause-has : goal.returns-clause-has
returns-clause-has c =
    both_ok c.new.result c.new.ensures.numbers c.new.ensures.numbers
    (λ set numbers again. span_of c.args.lo c.args.hi c.run_of.result c.push.new.self.items set (c.run_of.ensures.low ∙ to_z-of_z w64 c.args.lo (search rules)) (c.run_of.ensures.high ∙ to_z-of_z w64 c.args.hi (search rules)) (c.in_ok-push.ensures.items ∙ ap (λ (rs : List Run). rs ++ c.run_of.result ∷ []) c.new-runs.ensures.items) numbers)
