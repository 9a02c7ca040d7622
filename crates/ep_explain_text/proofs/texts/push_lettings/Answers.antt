use Rattle.ep_explain_text.proofs.Typed.{entry_at}
use Rattle.ep_explain_text.proofs.texts.push_lettings.Goals as goal

pub push_letting-requires : goal.push_letting-requires
push_letting-requires c = entry_at c.args.entries.now c.loop-entry.entry-index c.entry-item.result c.loop-entry-test.true c.entry-item.is c.requires
