use Rattle.std.proofs.Common.{ap, ap₂, not, sym, ◌∙◌, ◌&&◌}
use Rattle.std.specs.Prelude.{◌||◌}
use Rattle.ep_tree.specs.Faults.{has_open_range}
use Rattle.ep_types_rules.proofs.RuleSteps.{open_span}
use Rattle.ep_types_rules.proofs.rules.lacks_end.Goals as goal

pub returns : goal.returns
returns c =
    λ rs. open_span c.args.low.now c.args.high.now rs
    ∙ ap (λ b. not b || has_open_range rs) (sym (c.both.ensures ∙ ap₂ (λ a b. a && b) c.is_some.ensures c.is_some-2.ensures))
