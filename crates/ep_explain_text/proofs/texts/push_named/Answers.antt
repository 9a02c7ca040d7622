use Rattle.ep_explain_text.proofs.Typed.{clause_at}
use Rattle.ep_explain_text.proofs.texts.push_named.Goals as goal

pub push_without-requires : goal.push_without-requires
push_without-requires c = clause_at c.args.named.now c.loop-one.one-index c.one-item.result c.loop-one-test.true c.one-item.is c.requires
