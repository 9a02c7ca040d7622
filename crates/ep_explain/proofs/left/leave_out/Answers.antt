use Rattle.std.proofs.Common.{not, refl}
use Rattle.ep_explain.specs.Narrowing.{is_in_block}
use Rattle.ep_explain.proofs.Leaving.{narrowed_filtered}
use Rattle.ep_explain.proofs.left.leave_out.Goals as goal

pub returns : goal.returns
returns c = λ mode i before none. narrowed_filtered mode i (λ n. not (is_in_block c.args.block.now n)) c.args.narrowed _ before none c.in_ok-left.ensures refl
