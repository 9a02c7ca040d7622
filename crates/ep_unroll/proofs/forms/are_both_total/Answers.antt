use Rattle.ep_unroll.proofs.forms.are_both_total.Goals as goal

pub returns-then-is_total : goal.returns-then-is_total
returns-then-is_total c h numbers few = (c.is_total.ensures c.if-is_total.true numbers few, c.is_total-then-is_total.ensures h numbers few)
