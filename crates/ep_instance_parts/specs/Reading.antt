-- What is read of domains, with the nodes that are met counted.
use Rattle.std.specs.Prelude.{◌≡◌, ℕ, ℤ, Bool, [], Option, Some, Result, Ok, Err, option_map}
use Rattle.ep_base.specs.Numbers.{has_number}
use Rattle.ep_base.specs.Options.{map_both}
use Rattle.ep_eval.specs.Outcomes.{IsCause}
use Rattle.ep_eval.specs.declared.errors.EvalError.{EvalError}
use Rattle.ep_tree.specs.Binding as defined
use Rattle.ep_tree.specs.Binding.{element_values, elements_pass, index_domains, indices_bound, numbers_bound}
use Rattle.ep_tree.specs.Environments.{Bound, Env, shape_type}
use Rattle.ep_tree.specs.Evaluation.{domain_values}
use Rattle.ep_tree.specs.Limits.{limits_of_values}
use Rattle.ep_tree.specs.Measures.{met_domain}
use Rattle.ep_tree.specs.Trees.{DomainTree}
use Rattle.ep_tree.specs.TypedValues.{IsOf}
use Rattle.ep_tree.specs.Values.{ValueTree}
use Rattle.ep_tree.specs.Domains.{set_has}
use Rattle.ep_tree.specs.declared.syntax.SetOp.{SetOp}
use Rattle.ep_tree.specs.declared.values.Mode.{Mode}
use Rattle.ep_tree.specs.declared.values.ValueType.{ValueType}
use Rattle.ep_instance_parts.specs.Counted.{IsCounted}
use Rattle.ep_instance_parts.specs.Elements.{PassesAs}
use Rattle.ep_instance_parts.specs.Tests.{Answers64, element_test}
use Rattle.ep_instance_parts.specs.declared.elements.Elements.{Elements}
use Rattle.ep_instance_parts.specs.declared.listed.Listed.{Listed}
use Rattle.ep_instance_parts.specs.declared.opened.Opened.{Opened}
use Rattle.ep_instance_parts.specs.declared.shapes.Shape.{Shape}

-- a domain's name lists its index domains and its numbers; another name lists none
pub record NamesListed (bound : Option Bound) (kept : Listed) : Type 0 where
  pub indices : option_map (λ v. v.items) kept.indices ≡ indices_bound bound
  pub values : kept.values ≡ numbers_bound bound

-- a domain lists its index domains and its numbers, and so many nodes are met by its end
pub record IsReadListed (mode : Mode) (env : Env) (before : ℕ) (d : DomainTree) (kept : Listed) (after : ℕ) : Type 0 where
  pub indices : option_map (λ v. v.items) kept.indices ≡ index_domains mode env d
  pub values : kept.values ≡ element_values mode env d
  pub counted : IsCounted mode before (met_domain mode env d) after

-- a domain is read as it is, or passes a limit
abbrev pub ReadsListed : Mode → Env → ℕ → DomainTree → Result (Listed × ℕ) EvalError → Type 0
ReadsListed mode env before d (Ok r) = IsReadListed mode env before d r.0 r.1
ReadsListed mode env before d (Err e) = IsCause (limits_of_values mode before (met_domain mode env d)) e

-- a domain of scalars lists its numbers alone
pub record IsScalars (mode : Mode) (env : Env) (before : ℕ) (d : DomainTree) (kept : Listed) (after : ℕ) : Type 0 where
  pub indices : option_map (λ v. v.items) kept.indices ≡ Some []
  pub values : kept.values ≡ domain_values mode env d
  pub counted : IsCounted mode before (met_domain mode env d) after

abbrev pub ReadsScalars : Mode → Env → ℕ → DomainTree → Result (Listed × ℕ) EvalError → Type 0
ReadsScalars mode env before d (Ok r) = IsScalars mode env before d r.0 r.1
ReadsScalars mode env before d (Err e) = IsCause (limits_of_values mode before (met_domain mode env d)) e

-- which numbers the elements of a domain's name may be
abbrev pub passes_bound : Option Bound → Option (ℤ → Bool)
passes_bound bound = option_map has_number (numbers_bound bound)

-- a domain's name has its index domains, and its elements may be its numbers
pub record NamesOpened (bound : Option Bound) (kept : Opened) : Type 0 where
  pub indices : option_map (λ v. v.items) kept.indices ≡ indices_bound bound
  pub elements : (n : ℤ) → option_map (λ e. element_test e n) kept.elements ≡ option_map (λ passes. passes n) (passes_bound bound)

-- elements that an operation of sets makes of others, and none where one isn't there
pub record Joins (op : SetOp) (one other made : Option Elements) : Type 0 where
  pub same : (n : ℤ)
      → option_map (λ e. element_test e n) made
      ≡ map_both (set_has op) (option_map (λ e. element_test e n) one) (option_map (λ e. element_test e n) other)

-- a domain has its index domains, and its elements may be its numbers; so many nodes are met by its end
pub record IsOpened (mode : Mode) (env : Env) (before : ℕ) (d : DomainTree) (kept : Opened) (after : ℕ) : Type 0 where
  pub indices : option_map (λ v. v.items) kept.indices ≡ index_domains mode env d
  pub elements : Answers64 element_test kept.elements (elements_pass mode env d)
  pub counted : IsCounted mode before (met_domain mode env d) after

-- a domain is read as it is, or passes a limit
abbrev pub ReadsOpened : Mode → Env → ℕ → DomainTree → Result (Opened × ℕ) EvalError → Type 0
ReadsOpened mode env before d (Ok r) = IsOpened mode env before d r.0 r.1
ReadsOpened mode env before d (Err e) = IsCause (limits_of_values mode before (met_domain mode env d)) e

-- a domain is kept as it is bound
pub record IsShape (shape : defined.Shape) (kept : Shape) : Type 0 where
  pub scalar : kept.scalar ≡ shape.scalar
  pub indices : kept.indices.items ≡ shape.indices
  pub passes : PassesAs kept.elements shape.passes

-- what is fitted into a domain is of its type
abbrev pub FitsAreTyped : defined.Shape → Type 0
FitsAreTyped shape =
    (own : ValueType) (v fit : ValueTree) → defined.fitted_into shape own v ≡ Some fit
    → IsOf (shape_type shape.scalar shape.indices) fit

-- a domain that is kept is that of some bound domain, and what is fitted into that is of its type
pub record IsTypedShape (kept : Shape) : Type 0 where
  pub shape : defined.Shape
  pub same : IsShape shape kept
  pub typed : FitsAreTyped shape
