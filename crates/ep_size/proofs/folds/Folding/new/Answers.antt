use Rattle.ep_size.proofs.Words.{[], refl, subst, sym, Folds, greater, lesser, Sum, Product, Truth, Least, Greatest}
use Rattle.ep_size.proofs.folds.Folding.new.Goals as goal

pub returns-in-Sum : goal.returns-in-Sum
unfolding Folds
returns-in-Sum c = subst (λ o. Folds (Sum c.new.result) o []) (sym c.in-Sum.is) c.new.ensures

pub returns-in-Product : goal.returns-in-Product
unfolding Folds
returns-in-Product c = subst (λ o. Folds (Product c.new-in-Product.result) o []) (sym c.in-Product.is) c.new-in-Product.ensures

pub returns-in-And : goal.returns-in-And
unfolding Folds
returns-in-And c = subst (λ o. Folds (Truth 0) o []) (sym c.in-And.is) refl

pub returns-in-Or : goal.returns-in-Or
unfolding Folds
returns-in-Or c = subst (λ o. Folds (Truth 0) o []) (sym c.in-Or.is) refl

pub returns-in-Min : goal.returns-in-Min
unfolding Folds
returns-in-Min c = subst (λ o. Folds (Least c.new-in-Min.result) o []) (sym c.in-Min.is) (c.new-in-Min.ensures lesser)

pub returns-in-Max : goal.returns-in-Max
unfolding Folds
returns-in-Max c = subst (λ o. Folds (Greatest c.new-in-Max.result) o []) (sym c.in-Max.is) (c.new-in-Max.ensures greater)
