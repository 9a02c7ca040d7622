use Rattle.enc_linear.specs.Bounds.{Reaches, needs_no_less}
use Rattle.enc_linear.proofs.Summing.{not_needed}
use Rattle.enc_linear.proofs.joining.add_no_less.Goals as goal

pub returns-then-not-needs_no_less : goal.returns-then-not-needs_no_less
returns-then-not-needs_no_less c =
    not_needed c.args.layout.now c.args.f.now (needs_no_less c.args.c) (Reaches c.args.clip.high c.args.first.now c.args.second.now c.args.sum.now) c.requires.is_layout c.requires.from_new (λ h. cc)
