use Rattle.std.proofs.Common.{ap, ◌∙◌}
use Rattle.std.specs.Cmp.Lexicographic.{pointwise}
use Rattle.std.specs.Ordering.{int_eq}
use Rattle.ep_simplify.proofs.Picking.{pointwise_same}
use Rattle.ep_simplify.proofs.settling.has_numbers.Goals as goal

pub returns : goal.returns
returns c = c.eq.ensures ∙ ap (λ ks. pointwise int_eq ks c.args.numbers.now) c.numbers.ensures ∙ pointwise_same c.args.key.now c.args.numbers.now
