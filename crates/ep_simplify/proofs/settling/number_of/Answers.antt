use Rattle.std.proofs.Common.{ap, of_z, w64, ◌∙◌}
use Rattle.ep_numbers.specs.Spans.{interval_of}
use Rattle.ep_simplify.proofs.Untold.{none_isnt, only_ends}
use Rattle.ep_simplify.proofs.settling.number_of.Goals as goal

pub returns-in_default-clause-untold : goal.returns-in_default-clause-untold
returns-in_default-clause-untold c none h were own n e = none_isnt c.reach_in.result c.in_default.is (c.reach_in.ensures.told h were own)

pub returns-clause-untold : goal.returns-clause-untold
returns-clause-untold c none h were own n e = c.if-span.false (ap (of_z w64) (only_ends (interval_of c.in-Some.span) n (c.in-Some.ensures.reach h ∙ e)))
