use Rattle.ep_parse_expr.proofs.Called.{all_lie}
use Rattle.ep_parse_model_tests.proofs.reaches.reach.Goals as goal

pub new-cursor-requires : goal.new-cursor-requires
new-cursor-requires c = record { lies = rw c.deref.ensures.value (all_lie _ _ c.in-Ok.ensures.tokens) }
