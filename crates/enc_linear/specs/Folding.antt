-- How terms of a sum give way to new ones.
use Rattle.std.specs.Prelude.{◌≡◌, IsTrue, List, length, take}
use Rattle.std.specs.List.{All}
use Rattle.cnf_core.specs.Formula.{Cnf}
use Rattle.enc_atoms.specs.Atoms.{Adds}
use Rattle.enc_linear.specs.Bounds.{Compares}
use Rattle.enc_linear.specs.Terms.{IsTermOf}
use Rattle.enc_linear.specs.declared.comparison.Comparison.{Comparison}
use Rattle.enc_linear.specs.declared.terms.Term.{Term}
use Rattle.enc_var.specs.Decoding.{VariableLiterals}
use Rattle.enc_var.specs.Layouts.{IsLayoutOf}

-- Terms of a sum gave way to others, while a formula and its layout went on, so that whatever adds the comparison of the
-- later sum adds that of the earlier one.
pub record GiveWay (c : Comparison) (layout : List VariableLiterals) (f : Cnf) (terms : List Term) (later : List VariableLiterals) (g : Cnf) (others : List Term) : Type 0 where
  pub from_new : IsTrue g.from_new
  pub is_layout : IsLayoutOf later g
  pub earlier : take (length layout) later ≡ layout
  pub of_layout : All (IsTermOf later g) others
  pub leads : (last : List VariableLiterals) (h : Cnf) → Adds later g last h (Compares c others) → Adds layout f last h (Compares c terms)
