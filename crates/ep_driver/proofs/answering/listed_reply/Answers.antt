use Rattle.ep_instance_parts.specs.Instances.{plain_instance, instance_mode}
use Rattle.ep_print.specs.Listings.{listing_tree}
use Rattle.ep_driver.proofs.Tasks.{list-ends, listed}
use Rattle.ep_driver.proofs.answering.listed_reply.Goals as goal

pub returns-clause-answers : goal.returns-clause-answers
unfolding listing_tree
returns-clause-answers c =
    listed (instance_mode c.args.instance.now) (plain_instance c.args.instance.now) c.args.most c.args.conflicts c.listing_status.result c.in_ok-text.text.items c.enumerate.new.log (listing_tree c.in_ok-listing.listing)
    c.in_ok-listing.ensures.lists c.listing_status.ensures c.in_ok-text.ensures.text

pub returns-clause-ends : goal.returns-clause-ends
unfolding listing_tree
returns-clause-ends c =
    list-ends (instance_mode c.args.instance.now) (plain_instance c.args.instance.now) c.args.conflicts c.args.most c.enumerate.new.log (listing_tree c.in_ok-listing.listing) c.listing_status.result
    c.listing_status.ensures c.in_ok-listing.ensures.lists
