use Rattle.std.proofs.Common.{ap, ◌∙◌}
use Rattle.ep_tree.specs.Faults.{has_open_range}
use Rattle.ep_tree.specs.Views.{with_range}
use Rattle.ep_tree.proofs.ViewLemmas.{with_range-one, with_range-span}
use Rattle.ep_types_rules.proofs.rules.is_open.Goals as goal

pub returns-in-One : goal.returns-in-One
unfolding has_open_range
returns-in-One c = λ rs. ap (λ r. has_open_range (with_range r rs)) c.in-One.is ∙ ap has_open_range (with_range-one _ rs)

pub returns-in-Span : goal.returns-in-Span
returns-in-Span c = λ rs. ap (λ r. has_open_range (with_range r rs)) c.in-Span.is ∙ ap has_open_range (with_range-span _ _ rs) ∙ c.lacks_end.ensures rs
