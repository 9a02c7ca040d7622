-- The place of an expression of the code's trees is that of its node.
use Rattle.std.proofs.Common.{◌≡◌, refl}
use Rattle.ep_base.specs.declared.places.Place.{Place}
use Rattle.ep_tree.specs.Trees.{place_of}
use Rattle.ep_tree.specs.declared.syntax.Kind.{Kind, Number, Truth, Named as NamedExpr, Group' as GroupExpr', Not', Neg', Abs', ToInt', Factorial', Flatten', Add', Binary', Compare', Lex', InDomain', InSet', And', Or', Quant', Literal', Comprehension', Read', Fold', AllDiff', Gcc', AtLeast', AtMost', Table'}
use Rattle.ep_tree.specs.Views.{kind_tree}

pub place_of_tree : (p : Place) (k : Kind) → place_of (kind_tree p k) ≡ p
unfolding kind_tree place_of
place_of_tree p (Number n) = refl
place_of_tree p (Truth b) = refl
place_of_tree p (NamedExpr name) = refl
place_of_tree p (GroupExpr' _ q e) = refl
place_of_tree p (Not' _ q e) = refl
place_of_tree p (Neg' _ q e) = refl
place_of_tree p (Abs' _ q e) = refl
place_of_tree p (ToInt' _ q e) = refl
place_of_tree p (Factorial' _ q e) = refl
place_of_tree p (Flatten' _ q m) = refl
place_of_tree p (Add' _ parts) = refl
place_of_tree p (Binary' op _ q a _ r b) = refl
place_of_tree p (Compare' op _ q a _ r b) = refl
place_of_tree p (Lex' op _ q a _ r b) = refl
place_of_tree p (InDomain' _ q e _ r d) = refl
place_of_tree p (InSet' _ q e _ r m) = refl
place_of_tree p (And' _ parts) = refl
place_of_tree p (Or' _ parts) = refl
place_of_tree p (Quant' op names _ q d _ r e) = refl
place_of_tree p (Literal' _ parts d) = refl
place_of_tree p (Comprehension' _ q e _ gens _ conditions d) = refl
place_of_tree p (Read' _ q m _ indices) = refl
place_of_tree p (Fold' op _ q m) = refl
place_of_tree p (AllDiff' _ q m) = refl
place_of_tree p (Gcc' _ q m _ r values _ s counts) = refl
place_of_tree p (AtLeast' _ q m _ r counts _ s values) = refl
place_of_tree p (AtMost' _ q m _ r counts _ s values) = refl
place_of_tree p (Table' _ q row _ r rows) = refl
