use Rattle.std.proofs.Common.{subst, sym, take, ◌+◌}
use Rattle.std.specs.List.{AllZip}
use Rattle.std.proofs.lemmas.List.Elements.{all_zip_more}
use Rattle.enc_linear.specs.Terms.{IsMirror}
use Rattle.enc_linear.proofs.linear.mirrors_of.Goals as goal

pub loop-term-preserved : goal.loop-term-preserved
loop-term-preserved c =
    subst (AllZip IsMirror (take (c.loop-term.term-index + 1) c.args.terms.now)) (sym c.in_ok-push.ensures.items)
    (all_zip_more IsMirror c.args.terms.now c.loop-term.mirrors.items c.loop-term.term-index c.term-item.result c.in_ok-twin.twin c.loop-term-test.true c.term-item.is c.loop-term.invariant c.in_ok-twin.ensures)
