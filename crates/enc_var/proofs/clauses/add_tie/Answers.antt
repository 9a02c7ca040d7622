use Rattle.enc_var.proofs.Saying.{tie_said}
use Rattle.enc_var.proofs.clauses.add_tie.Goals as goal

pub returns : goal.returns
returns c =
    tie_said c.args.f.now c.add_two.new.f c.add_two-2.new.f c.add_two-3.new.f c.add_three.new.f c.args.low c.args.high c.args.is
    c.new.result c.new-2.result c.new-3.result c.new-4.result c.new-5.result c.new-6.result c.new-7.result c.new-8.result c.new-9.result
    c.new.ensures c.new-2.ensures c.new-3.ensures c.new-4.ensures c.new-5.ensures c.new-6.ensures c.new-7.ensures c.new-8.ensures c.new-9.ensures
    c.in_ok-add_two.ensures c.in_ok-add_two-2.ensures c.in_ok-add_two-3.ensures c.in_ok-add_three.ensures
