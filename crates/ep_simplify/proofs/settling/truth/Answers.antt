use Rattle.std.proofs.Common.{Bool, subst, sym}
use Rattle.ep_base.specs.Numbers.{of_bool}
use Rattle.ep_ground.specs.Nodes.{constant}
use Rattle.ep_simplify.specs.Settling.{IsTaken}
use Rattle.ep_simplify.proofs.settling.truth.Goals as goal

pub returns-then-known : goal.returns-then-known
unfolding of_bool
returns-then-known c =
    subst (λ (b : Bool). IsTaken c.args.cells.now c.args.news.now (constant (of_bool b)) c.number.new.news c.in_ok-alone.alone) (sym c.if-known.true) c.in_ok-alone.ensures

pub returns : goal.returns
unfolding of_bool
returns c =
    subst (λ (b : Bool). IsTaken c.args.cells.now c.args.news.now (constant (of_bool b)) c.number-2.new.news c.in_ok-alone-2.alone) (sym c.if-known.false) c.in_ok-alone-2.ensures
