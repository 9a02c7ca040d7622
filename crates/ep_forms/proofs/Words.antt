-- The words of other modules that the proofs of this crate name.
pub use Rattle.ep_base.specs.declared.names.Name.{Name}
unfoldable pub use Rattle.ep_forms.specs.Forms.{form_tree, index_at, truths_node}
pub use Rattle.ep_forms.specs.Ranks.{generators_depth, listing_depth}
unfoldable pub use Rattle.ep_forms.specs.Ranks.{IsBelow, end_depth, greater, index_depth}
pub use Rattle.ep_forms.specs.declared.forms.Listing.{Listing}
pub use Rattle.ep_tree.proofs.ViewLemmas.{kind_tree-all_of, kind_tree-any_of, kind_tree-chain, kind_tree-comprehension, kind_tree-literal, kind_tree-read}
unfoldable pub use Rattle.ep_tree.proofs.ViewLemmas.{index_of}
pub use Rattle.ep_tree.specs.Trees.{all_of, any_of, chain, comprehension, literal, read}
pub use Rattle.ep_tree.specs.Views.{expr_tree, expr_trees, generators_of, indices_of, kind_tree, terms_of}
pub use Rattle.ep_tree.specs.declared.syntax.Domain.{Domain, size-Domain}
pub use Rattle.ep_tree.specs.declared.syntax.DomainKind.TheViews.{sized-Comprehension, sized-Literal, sized-Quant, sized-Read}
pub use Rattle.ep_tree.specs.declared.syntax.Expr.{Expr, size-Expr, size_is-Expr}
pub use Rattle.ep_tree.specs.declared.syntax.Generator.{Generator, size-Generator, size_is-Generator}
pub use Rattle.ep_tree.specs.declared.syntax.Kind.{Comprehension, Literal, Quant, Read, size-Kind}
pub use Rattle.ep_tree.specs.declared.syntax.QuantOp.{QuantOp}
pub use Rattle.std.proofs.Common.{Bool, List, ap, arith, false, length, refl, subst, sym, true, ℕ, ◌<◌, ◌∙◌, ◌∷◌, ◌≡◌, ◌≤◌}
pub use Rattle.std.specs.Prelude.{None, Option, Some, if◌then◌else◌, nat_le}
pub use Rattle.std.specs.declared.boxed.Box.{Box}
pub use denote.Param.Weighed.{most}
