-- What is known of a node that was made.
use Rattle.std.specs.Prelude.{◌≡◌, ℕ, Bool, true, false, refl}
use Rattle.std.proofs.Common.{ap, sym, subst, ◌∙◌}
use Rattle.ep_base.specs.declared.places.Place.{Place}
use Rattle.ep_parse_parts.specs.Founds.{Shows, ShowsDomain, told}
use Rattle.ep_parse_parts.specs.declared.found.FoundDomain.{FoundDomain}
use Rattle.ep_parse_parts.specs.OperatorReaders.{takes_group}
use Rattle.ep_parse_parts.specs.declared.found.Found.{Found}
use Rattle.ep_tree.specs.Heights.{domain_height, height}
use Rattle.ep_tree.specs.Spelling.{binary_level, ends_open, is_called, own_level, rank, takes_own_group}
use Rattle.ep_tree.specs.Trees.{DomainTree, ExprTree, binary, place_of, place_of_domain}
use Rattle.ep_tree.specs.declared.syntax.DomainKind.{DomainKind, Bool as BoolDomain, Int as IntDomain, Ranges', Named as NamedDomain, Group' as GroupDomain', Set', Matrix'}
use Rattle.ep_tree.specs.Views.{domain_kind_tree, kind_tree}
use Rattle.ep_tree.specs.declared.syntax.BinaryOp.{BinaryOp}
use Rattle.ep_tree.specs.declared.syntax.Kind.{Kind, Number, Truth, Named as NamedExpr, Group' as GroupExpr', Not', Neg', Abs', ToInt', Factorial', Flatten', Add', Binary', Compare', Lex', InDomain', InSet', And', Or', Quant', Literal', Comprehension', Read', Fold', AllDiff', Gcc', AtLeast', AtMost', Table'}

pub shows_node : (f : Found) (p : Place) (k : Kind) (h : ℕ) (o g : Bool) (tree : ExprTree)
    → f ≡ record { expr = record { place = p; kind = k }; height = h; ends_open = o; takes_group = g }
    → kind_tree p k ≡ tree → h ≡ told (height tree) → o ≡ ends_open tree → g ≡ takes_group tree → Shows f tree
shows_node f p k h o g tree made is high ends group =
    subst (λ x. Shows x tree) (sym made) (record { is = is; height = high; ends = ends; group = group })

-- a node stands at its place
pub place_of_kind : (p : Place) (k : Kind) → place_of (kind_tree p k) ≡ p
unfolding place_of kind_tree
place_of_kind p (Number n) = refl
place_of_kind p (Truth b) = refl
place_of_kind p (NamedExpr name) = refl
place_of_kind p (GroupExpr' _ q e) = refl
place_of_kind p (Not' _ q e) = refl
place_of_kind p (Neg' _ q e) = refl
place_of_kind p (Abs' _ q e) = refl
place_of_kind p (ToInt' _ q e) = refl
place_of_kind p (Factorial' _ q e) = refl
place_of_kind p (Flatten' _ q m) = refl
place_of_kind p (Add' _ parts) = refl
place_of_kind p (Binary' op _ q a _ r b) = refl
place_of_kind p (Compare' op _ q a _ r b) = refl
place_of_kind p (Lex' op _ q a _ r b) = refl
place_of_kind p (InDomain' _ q e _ r d) = refl
place_of_kind p (InSet' _ q e _ r m) = refl
place_of_kind p (And' _ parts) = refl
place_of_kind p (Or' _ parts) = refl
place_of_kind p (Quant' op names _ q d _ r e) = refl
place_of_kind p (Literal' _ parts d) = refl
place_of_kind p (Comprehension' _ q e _ gens _ conditions d) = refl
place_of_kind p (Read' _ q m _ indices) = refl
place_of_kind p (Fold' op _ q m) = refl
place_of_kind p (AllDiff' _ q m) = refl
place_of_kind p (Gcc' _ q m _ r values _ s counts) = refl
place_of_kind p (AtLeast' _ q m _ r counts _ s values) = refl
place_of_kind p (AtMost' _ q m _ r counts _ s values) = refl
place_of_kind p (Table' _ q row _ r rows) = refl

-- what stands between two parts isn't called
pub joined_ends : (p : Place) (op : BinaryOp) (a b : ExprTree) → is_called op ≡ false → ends_open b ≡ ends_open (binary p op a b)
unfolding ends_open is_called
joined_ends p BinaryOp.Mul a b e = refl
joined_ends p BinaryOp.Div a b e = refl
joined_ends p BinaryOp.Mod a b e = refl
joined_ends p BinaryOp.Pow a b e = refl
joined_ends p BinaryOp.Min a b e = absurd cc
joined_ends p BinaryOp.Max a b e = absurd cc
joined_ends p BinaryOp.Implies a b e = refl
joined_ends p BinaryOp.Iff a b e = refl

pub joined_group : (p : Place) (op : BinaryOp) (a b : ExprTree) → is_called op ≡ false → false ≡ takes_group (binary p op a b)
unfolding takes_group is_called rank own_level takes_own_group binary_level
joined_group p BinaryOp.Mul a b e = refl
joined_group p BinaryOp.Div a b e = refl
joined_group p BinaryOp.Mod a b e = refl
joined_group p BinaryOp.Pow a b e = refl
joined_group p BinaryOp.Min a b e = absurd cc
joined_group p BinaryOp.Max a b e = absurd cc
joined_group p BinaryOp.Implies a b e = refl
joined_group p BinaryOp.Iff a b e = refl

-- ---- domains

pub shows_domain : (f : FoundDomain) (p : Place) (k : DomainKind) (h : ℕ) (tree : DomainTree)
    → f ≡ record { domain = record { place = p; kind = k }; height = h } → domain_kind_tree p k ≡ tree → h ≡ told (domain_height tree) → ShowsDomain f tree
shows_domain f p k h tree made is high = subst (λ x. ShowsDomain x tree) (sym made) (record { is = is; height = high })

pub place_of_domain_kind : (p : Place) (k : DomainKind) → place_of_domain (domain_kind_tree p k) ≡ p
unfolding place_of_domain domain_kind_tree
place_of_domain_kind p BoolDomain = refl
place_of_domain_kind p IntDomain = refl
place_of_domain_kind p (Ranges' _ rs) = refl
place_of_domain_kind p (NamedDomain name) = refl
place_of_domain_kind p (GroupDomain' _ q d) = refl
place_of_domain_kind p (Set' op _ q c _ r d) = refl
place_of_domain_kind p (Matrix' _ ds _ q d) = refl
