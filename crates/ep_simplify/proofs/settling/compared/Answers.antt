use Rattle.std.proofs.Common.{◌∙◌, sym}
use Rattle.ep_simplify.proofs.Forms.{itself_says}
use Rattle.ep_simplify.proofs.settling.compared.Goals as goal

pub returns-then-number-clause-says : goal.returns-then-number-clause-says
returns-then-number-clause-says c = λ cells h. itself_says cells c.args.news.now c.args.op c.args.a c.args.b c.holds.result c.requires.a c.requires.b (sym c.number.ensures ∙ c.if-number.true ∙ c.number-2.ensures) c.holds.ensures h
