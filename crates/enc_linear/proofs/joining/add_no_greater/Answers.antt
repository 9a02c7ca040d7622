use Rattle.enc_linear.specs.Bounds.{StaysWithin, needs_no_greater}
use Rattle.enc_linear.proofs.Summing.{not_needed}
use Rattle.enc_linear.proofs.joining.add_no_greater.Goals as goal

pub returns-then-not-needs_no_greater : goal.returns-then-not-needs_no_greater
returns-then-not-needs_no_greater c =
    not_needed c.args.layout.now c.args.f.now (needs_no_greater c.args.c) (StaysWithin c.args.clip.low c.args.first.now c.args.second.now c.args.sum.now) c.requires.is_layout c.requires.from_new (λ h. cc)
