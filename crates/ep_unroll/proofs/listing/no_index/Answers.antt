use Rattle.ep_unroll.proofs.IndexLists.{no_lists}
use Rattle.ep_unroll.proofs.listing.no_index.Goals as goal

pub returns : goal.returns
returns c = no_lists c.new-keys.result.items c.push.new.self.items c.new-2.result c.new.result.items c.new-keys.ensures.items c.new-2.ensures c.new.ensures.items c.in_ok-push.ensures.items
