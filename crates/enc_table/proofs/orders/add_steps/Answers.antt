use Rattle.std.proofs.Common.{◌≡◌, ℕ, ◌+◌, ◌<◌, subst, get_or, arith}
use Rattle.enc_atoms.specs.Atoms.{Adds}
use Rattle.enc_atoms.proofs.Guards.{adds_below_more, adds_below_none}
use Rattle.enc_table.specs.Orders.{IsStep}
use Rattle.enc_table.proofs.orders.add_steps.Goals as goal

pub loop-k-init : goal.loop-k-init
loop-k-init c = adds_below_none c.args.layout.now c.args.f.now (λ values j. IsStep (get_or c.args.links.now j 0) (get_or c.args.xs.now j 0) (get_or c.args.ys.now j 0) (get_or c.args.links.now (j + 1) 0) values) c.requires.ready.is_layout c.requires.ready.from_new

pub add_step-requires-clause-link : goal.add_step-requires-clause-link
add_step-requires-clause-link c = c.requires.links c.loop-k.k 0 (omega arith)

pub add_step-requires-clause-x : goal.add_step-requires-clause-x
add_step-requires-clause-x c = c.requires.xs c.loop-k.k 0 (omega arith)

pub add_step-requires-clause-y : goal.add_step-requires-clause-y
add_step-requires-clause-y c = c.requires.ys c.loop-k.k 0 (omega arith)

pub add_step-requires-clause-next : goal.add_step-requires-clause-next
add_step-requires-clause-next c = c.requires.links (c.loop-k.k + 1) 0 (omega arith)

pub loop-k-preserved : goal.loop-k-preserved
loop-k-preserved c =
    adds_below_more c.args.layout.now c.args.f.now c.loop-k.f c.args.layout.now c.add_step.new.f (λ values j. IsStep (get_or c.args.links.now j 0) (get_or c.args.xs.now j 0) (get_or c.args.ys.now j 0) (get_or c.args.links.now (j + 1) 0) values) c.loop-k.k c.requires.ready.is_layout c.loop-k.invariant c.in_ok-add_step.ensures

pub returns : goal.returns
returns c =
    let all : c.loop-k.k ≡ c.args.count = omega arith in
    subst (λ m. Adds c.args.layout.now c.args.f.now c.args.layout.now c.loop-k.f (λ values. (j : ℕ) → j < m → IsStep (get_or c.args.links.now j 0) (get_or c.args.xs.now j 0) (get_or c.args.ys.now j 0) (get_or c.args.links.now (j + 1) 0) values)) all c.loop-k.invariant
