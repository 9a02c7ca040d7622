use Rattle.ep_size.proofs.WidthSteps.{product_told}
use Rattle.ep_size.proofs.widths.capped_product.Goals as goal

pub returns-clause-value : goal.returns-clause-value
returns-clause-value c a b h k =
    product_told a b c.args.one c.args.other c.told.result c.told-2.result c.product.result h k c.told.ensures c.told-2.ensures c.product.ensures
