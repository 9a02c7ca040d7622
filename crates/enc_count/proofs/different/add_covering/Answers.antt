use Rattle.std.proofs.Common.{refl, arith}
use Rattle.std.proofs.lemmas.Result.{on_ok_weaker}
use Rattle.enc_count.proofs.Differing.{covers_few, covers_more}
use Rattle.enc_count.proofs.different.add_covering.Goals as goal

pub returns-then-numbers-vars : goal.returns-then-numbers-vars
returns-then-numbers-vars c =
    on_ok_weaker c.add_guarded.result
    (covers_few c.args.layout.now c.args.f.now c.add_guarded.new.f c.args.guard.now _ c.args.vars.now c.args.numbers.now c.requires.ready.is_layout (omega arith) refl)
    c.add_guarded.ensures

pub returns : goal.returns
returns c = covers_more c.args.layout.now c.args.f.now c.args.guard.now c.args.vars.now c.args.numbers.now c.requires.ready.is_layout c.requires.ready.from_new (λ few. omega arith) (λ many. omega arith)
