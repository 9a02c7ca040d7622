use Rattle.std.proofs.Common.{◌∙◌, length}
use Rattle.enc_atoms.proofs.NewTruths.{length_later, next_number, no_number, no_truths, one_more_truth}
use Rattle.enc_atoms.proofs.truths.new_truths.Goals as goal

pub loop-made-init : goal.loop-made-init
loop-made-init c = record {
  numbers = c.new-truths.ensures.items ∙ no_number (length c.args.layout.now);
  new = no_truths c.args.layout.now c.args.f.now c.requires;
}

pub loop-made-preserved : goal.loop-made-preserved
loop-made-preserved c =
    let so_far = c.loop-made.invariant.new in
    record {
      numbers =
          c.in_ok-push.ensures.items
          ∙ next_number c.loop-made.truths.items c.in_ok-truth.truth (length c.args.layout.now) c.loop-made._made c.loop-made.invariant.numbers
          (c.in_ok-truth.ensures.number ∙ length_later c.args.layout.now c.args.f.now c.loop-made.layout c.loop-made.f c.loop-made._made so_far);
      new = one_more_truth c.args.layout.now c.args.f.now c.loop-made.layout c.loop-made.f c.new_var.new.self c.new_var.new.f _ c.loop-made._made so_far c.in_ok-domain.ensures c.in_ok-truth.ensures.entry c.in_ok-truth.ensures.goes_on c.in_ok-truth.ensures.choice;
    }
