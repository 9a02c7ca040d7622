-- Steps of binding domains, and names that are fitted into them.
use Rattle.std.proofs.Common.{◌≡◌, ◌∙◌, ◌^◌, ℤ, pos, neg_ℤ, ◌≤ℤ◌, ◌<ℤ◌, Bool, List, [], ◌∷◌, Option, Some, None, option_map, refl, sym, ap, arith}
use Rattle.std.specs.Prelude.{Result, Ok, Err}
use Rattle.std.proofs.lemmas.Int.{ints}
use Rattle.ep_base.specs.declared.names.Name.{Name}
use Rattle.ep_tree.specs.Binding.{Refusal, Shape, and_next, element_values, elements_pass, fitted_into, index_domains, or_refuse, outside_domain, shape_of}
use Rattle.ep_tree.specs.Environments.{Env, has_value, scalar_in, shape_type}
use Rattle.ep_base.specs.Options.{on_both}
use Rattle.ep_tree.specs.Names.{put}
use Rattle.ep_tree.specs.Trees.{DomainTree}
use Rattle.ep_tree.specs.Types.{scalar_of}
use Rattle.ep_tree.specs.Values.{ValueTree, fitted}
use Rattle.ep_tree.specs.Views.{value_tree}
use Rattle.ep_tree.specs.declared.values.Mode.{Mode}
use Rattle.ep_tree.specs.declared.values.Scalar.{Scalar}
use Rattle.ep_tree.specs.declared.values.Value.{Value}
use Rattle.ep_tree.specs.declared.values.ValueType.{ValueType}
use Rattle.ep_instance_parts.specs.Elements.{PassesAs, element_passes}
use Rattle.ep_instance_parts.specs.Reading.{IsShape}
use Rattle.ep_instance_parts.specs.Steps.{StepsTo, fitted_said}
use Rattle.ep_instance_parts.specs.Tests.{Answers64, element_test}
use Rattle.ep_instance_parts.specs.declared.elements.Elements.{Elements}
use Rattle.ep_instance_parts.specs.declared.errors.BindError.{BindError}
use Rattle.ep_instance_parts.specs.declared.shapes.Shape.{Shape as KeptShape}
use Rattle.ep_instance_parts.proofs.Answering.{refuses_same}

pub refused_none : {A : Type 0} (r : Refusal) (o : Option A) → o ≡ None → or_refuse r o ≡ Err (r ∷ [])
unfolding or_refuse
refused_none r o e = ap (or_refuse r) e

pub given_some : {A : Type 0} (r : Refusal) (o : Option A) (x : A) → o ≡ Some x → or_refuse r o ≡ Ok x
unfolding or_refuse
given_some r o x e = ap (or_refuse r) e

pub given_is : {A : Type 0} (r : Refusal) (o : Option A) (x : A) → or_refuse r o ≡ Ok x → o ≡ Some x
unfolding or_refuse
given_is r None x e = absurd cc
given_is r (Some y) x e = cc

pub no_first : {A B C : Type 0} (f : A → B → Option C) (a : Option A) (b : Option B) → a ≡ None → on_both a b f ≡ None
unfolding on_both
no_first f a b e = ap (λ o. on_both o b f) e

no_second : {A B C : Type 0} (f : A → B → Option C) (a : Option A) (b : Option B) → b ≡ None → on_both a b f ≡ None
unfolding on_both
no_second f None b e = refl
no_second f (Some x) b e = ap (λ o. on_both (Some x) o f) e

pub both_some : {A B C : Type 0} (f : A → B → Option C) (a : Option A) (b : Option B) (x : A) (y : B) → a ≡ Some x → b ≡ Some y → on_both a b f ≡ f x y
unfolding on_both
both_some f a b x y e h = ap (λ o. on_both o b f) e ∙ ap (λ o. on_both (Some x) o f) h

pub unshaped_indices : (mode : Mode) (env : Env) (d : DomainTree) (r : Refusal) → None ≡ index_domains mode env d → or_refuse r (shape_of mode env d) ≡ Err (r ∷ [])
unfolding shape_of
unshaped_indices mode env d r h = refused_none r _ (no_first _ (index_domains mode env d) (elements_pass mode env d) (sym h))

answer_none : (o : Option (ℤ → Bool)) → ◌≡◌ {A = Option Bool} None (option_map (λ (f : ℤ → Bool). f (pos 0)) o) → o ≡ None
answer_none None h = refl
answer_none (Some f) h = absurd cc

pub answer_some : (o : Option (ℤ → Bool)) (b : Bool) → Some b ≡ option_map (λ (f : ℤ → Bool). f (pos 0)) o → (f : ℤ → Bool) × (o ≡ Some f)
answer_some None b h = absurd cc
answer_some (Some f) b h = (f, refl)

some_test : (a b : Bool) → Some a ≡ Some b → a ≡ b
some_test a b h = cc

pub unshaped_elements : (mode : Mode) (env : Env) (d : DomainTree) (r : Refusal) (kept : Option Elements) → kept ≡ None → Answers64 element_test kept (elements_pass mode env d)
    → or_refuse r (shape_of mode env d) ≡ Err (r ∷ [])
unfolding shape_of
unshaped_elements mode env d r kept e h =
    let none : elements_pass mode env d ≡ None =
    answer_none (elements_pass mode env d) (sym (ap (option_map (λ k. element_test k (pos 0))) e) ∙ h.same (pos 0) (omega (arith, ints)) (omega (arith, ints))) in
    refused_none r _ (no_second _ (index_domains mode env d) (elements_pass mode env d) none)

-- a domain that is defined is kept
pub shaped : (mode : Mode) (env : Env) (d : DomainTree) (r : Refusal) (is : List (List ℤ)) (elements : Option Elements) (kept : KeptShape)
    → Some is ≡ index_domains mode env d → elements ≡ Some kept.elements → Answers64 element_test elements (elements_pass mode env d)
    → kept.scalar ≡ scalar_in env d → kept.indices.items ≡ is
    → (shape : Shape) × (or_refuse r (shape_of mode env d) ≡ Ok shape) × IsShape shape kept
unfolding shape_of
shaped mode env d r is elements kept i e h s k =
    let at : (n : ℤ) → neg_ℤ (pos (2 ^ 63)) ≤ℤ n → n <ℤ pos (2 ^ 63) → Some (element_passes kept.elements n) ≡ option_map (λ (f : ℤ → Bool). f n) (elements_pass mode env d) =
    λ n low high. sym (ap (option_map (λ x. element_test x n)) e) ∙ h.same n low high in
    let f : _ = answer_some (elements_pass mode env d) (element_passes kept.elements (pos 0)) (at (pos 0) (omega (arith, ints)) (omega (arith, ints))) in
    let shape : Shape = record { scalar = scalar_in env d; indices = is; passes = f.0; values = element_values mode env d } in (
      shape,
      given_some r _ shape (both_some _ (index_domains mode env d) (elements_pass mode env d) is f.0 (sym i) f.1),
      record {
        scalar = s;
        indices = k;
        passes = record { same = λ n low high. some_test (element_passes kept.elements n) (f.0 n) (at n low high ∙ ap (option_map (λ (t : ℤ → Bool). t n)) f.1) };
      },
    )

-- an answer by a relation to one thing answers what it is
pub related_same : {V A : Type 0} (R : A → V → Type 0) (answer : Result V BindError) (whole one : Result A (List Refusal)) → whole ≡ one
    → StepsTo R answer one → StepsTo R answer whole
related_same R (Ok x) whole one w h = (h.0, w ∙ h.1, h.2)
related_same R (Err e) whole one w h = refuses_same e whole one w h

pub fit_is : (shape : Shape) (kept : KeptShape) (own : ValueType) (v : ValueTree) (fit : Option Value) → IsShape shape kept
    → ((passes : ℤ → Bool) → PassesAs kept.elements passes → option_map value_tree fit ≡ fitted (scalar_of own) kept.scalar passes kept.indices.items v)
    → option_map value_tree fit ≡ fitted_into shape own v
unfolding fitted_into
fit_is shape kept own v fit same h =
    h shape.passes same.passes
    ∙ ap (λ s. fitted (scalar_of own) s shape.passes kept.indices.items v) same.scalar
    ∙ ap (λ is. fitted (scalar_of own) shape.scalar shape.passes is v) same.indices

pub fitted_none : (shape : Shape) (name : Name) (t : ValueType) (v : ValueTree) (env : Env) → fitted_into shape t v ≡ None → fitted_said shape name t v env ≡ Err (outside_domain name ∷ [])
unfolding and_next or_refuse
fitted_none shape name t v env e =
    ap (λ o. and_next (or_refuse (outside_domain name) o) (λ fit. Ok (put name (has_value (shape_type shape.scalar shape.indices) fit) env))) e

pub fitted_some : (shape : Shape) (name : Name) (t : ValueType) (v fit : ValueTree) (env : Env) → fitted_into shape t v ≡ Some fit
    → fitted_said shape name t v env ≡ Ok (put name (has_value (shape_type shape.scalar shape.indices) fit) env)
unfolding and_next or_refuse
fitted_some shape name t v fit env e =
    ap (λ o. and_next (or_refuse (outside_domain name) o) (λ fit. Ok (put name (has_value (shape_type shape.scalar shape.indices) fit) env))) e

-- the type of what is kept is that of the shape
pub kept_type : (shape : Shape) (kept : KeptShape) → IsShape shape kept → shape_type kept.scalar kept.indices.items ≡ shape_type shape.scalar shape.indices
kept_type shape kept same = ap (λ s. shape_type s kept.indices.items) same.scalar ∙ ap (shape_type shape.scalar) same.indices

-- the same, where the index domains and the own scalar came by calls
pub fit_now : (shape : Shape) (kept : KeptShape) (own : ValueType) (v : ValueTree) (fit : Option Value) (is : List (List ℤ)) (s : Scalar) → IsShape shape kept
    → is ≡ kept.indices.items → s ≡ scalar_of own
    → ((passes : ℤ → Bool) → PassesAs kept.elements passes → option_map value_tree fit ≡ fitted s kept.scalar passes is v)
    → option_map value_tree fit ≡ fitted_into shape own v
fit_now shape kept own v fit is s same i e h =
    fit_is shape kept own v fit same
    (λ passes p. h passes p ∙ ap (λ x. fitted x kept.scalar passes is v) e ∙ ap (λ x. fitted (scalar_of own) kept.scalar passes x v) i)
