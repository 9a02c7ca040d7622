use Rattle.ep_simplify.proofs.Joining.{empty_left, one_below, one_left, one_more_left, several_left}
use Rattle.ep_simplify.proofs.settling.left_of.Goals as goal

pub returns-in-empty : goal.returns-in-empty
returns-in-empty c = λ cells h. empty_left cells c.args.news.now c.args.parts.now c.in-empty.len_below

pub returns-then-is_truth : goal.returns-then-is_truth
returns-then-is_truth c = λ cells h. one_left cells c.args.news.now c.args.parts.now c.part-item.result c.in-len1.len_at_least c.in-len1.len_below c.part-item.is (c.is_truth.ensures.sound c.if-is_truth.true cells h)

pub returns-else-is_truth : goal.returns-else-is_truth
returns-else-is_truth c = λ cells h. one_more_left cells c.args.news.now c.args.parts.now c.part-item.result c.in-len1.len_at_least c.part-item.is (λ near. c.is_truth.ensures.complete c.if-is_truth.false (one_below c.args.news.now.arena c.args.parts.now c.part-item.result c.in-len1.len_at_least c.part-item.is c.requires) near cells h)

pub returns-in_default : goal.returns-in_default
returns-in_default c = λ cells h. several_left cells c.args.news.now c.args.parts.now c.in_default.len_at_least
