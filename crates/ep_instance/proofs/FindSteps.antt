-- Domains with lists of their numbers, and decision variables group by group.
use Rattle.std.proofs.Common.{◌≡◌, ◌∙◌, ℕ, ℤ, pos, Bool, List, [], ◌∷◌, ◌++◌, Option, Some, None, option_map, refl, sym, ap, map, append_assoc, take, get_or, length, ◌<◌, ◌+◌, arith}
use Rattle.std.specs.Prelude.{option_and_then, Ok, Err}
use Rattle.std.proofs.lemmas.List.{append-nil, map-append, take_more}
use Rattle.ep_base.specs.Numbers.{has_number}
use Rattle.ep_base.specs.Options.{map_both, on_both}
use Rattle.ep_base.specs.declared.names.Name.{Name}
use Rattle.ep_base.specs.declared.places.Place.{Place}
use Rattle.ep_eval.specs.Outcomes.{IsCause}
use Rattle.ep_eval.specs.declared.errors.EvalError.{EvalError}
use Rattle.ep_tree_laws.proofs.Shapes.{shape_parts}
use Rattle.ep_tree.proofs.ClosedDomains.{elements_pass-values}
use Rattle.ep_tree.specs.Binding.{Find, Shape, bound_finds, element_values, elements_pass, group_finds, index_domains, met_groups, model_text, numbers_bound, or_refuse, shape_of, undefined_at}
use Rattle.ep_tree.specs.Environments.{Env, scalar_in, shape_type}
use Rattle.ep_tree.specs.Limits.{limits_of_values}
use Rattle.ep_tree.specs.Measures.{Met, met_domain}
use Rattle.ep_tree.specs.Statements.{Group}
use Rattle.ep_tree.specs.Trees.{DomainTree, bool, group_domain, int, matrix_domain, named_domain, ranges, set_domain}
use Rattle.ep_tree.specs.Views.{domain_tree, group_of}
use Rattle.ep_tree.specs.declared.statements.Declared.{Declared}
use Rattle.ep_tree.specs.declared.values.Mode.{Mode}
use Rattle.ep_instance_parts.proofs.Answering.{no_limit}
use Rattle.ep_instance_parts.proofs.LimitSteps.{cause_along, cause_first, cause_next, counted_along, counted_none, counted_on}
use Rattle.ep_instance_parts.proofs.ShapeSteps.{answer_some, both_some, given_some, no_first, refused_none}
use Rattle.ep_instance_parts.specs.Counted.{IsCounted}
use Rattle.ep_instance_parts.specs.Instances.{find_of}
use Rattle.ep_instance_parts.specs.Reading.{IsReadListed}
use Rattle.ep_instance_parts.specs.declared.instances.Find.{Find as KeptFind}
use Rattle.ep_instance_parts.specs.declared.listed.Listed.{Listed}
use Rattle.ep_instance.specs.Finding.{IsListedShape, kept_find, kept_finds}
use Rattle.ep_tree.specs.Types.{of_scalar, scalar_of}
use Rattle.ep_tree.specs.declared.values.Scalar.{Scalar}
use Rattle.ep_tree.specs.declared.values.ValueType.{ValueType}
use Rattle.ep_instance.specs.Steps.{finds_of, finds_said}
use Rattle.ep_instance.specs.declared.lettings.ListedShape.{ListedShape}

-- ---- domains

some_passes : (o : Option (ℤ → Bool)) (b : Bool) → option_map (λ (f : ℤ → Bool). f (pos 0)) o ≡ Some b → (f : ℤ → Bool) × (o ≡ Some f)
some_passes o b h = answer_some o b (sym h)

named_pass : (o : Option (List ℤ)) (values : List ℤ) → o ≡ Some values → (f : ℤ → Bool) × (option_map has_number o ≡ Some f)
named_pass o values e = (has_number values, ap (option_map has_number) e)

-- a domain that lists its numbers says which numbers pass
pub values_pass : (mode : Mode) (env : Env) (d : DomainTree) (values : List ℤ) → element_values mode env d ≡ Some values → (f : ℤ → Bool) × (elements_pass mode env d ≡ Some f)
unfolding element_values elements_pass
values_pass mode env (bool p) values e = some_passes (elements_pass mode env (bool p)) _ (elements_pass-values mode env (pos 0) (bool p) values e)
values_pass mode env (int p) values e = some_passes (elements_pass mode env (int p)) _ (elements_pass-values mode env (pos 0) (int p) values e)
values_pass mode env (ranges p rs) values e = some_passes (elements_pass mode env (ranges p rs)) _ (elements_pass-values mode env (pos 0) (ranges p rs) values e)
values_pass mode env (set_domain p op c d) values e = some_passes (elements_pass mode env (set_domain p op c d)) _ (elements_pass-values mode env (pos 0) (set_domain p op c d) values e)
values_pass mode env (named_domain p name) values e = go e
  where
    go : numbers_bound (env name) ≡ Some values → (f : ℤ → Bool) × (elements_pass mode env (named_domain p name) ≡ Some f)
    go q = named_pass (numbers_bound (env name)) values q
values_pass mode env (group_domain p d) values e = go (values_pass mode env d values e)
  where
    go : (f : ℤ → Bool) × (elements_pass mode env d ≡ Some f) → (f : ℤ → Bool) × (elements_pass mode env (group_domain p d) ≡ Some f)
    go q = q
values_pass mode env (matrix_domain p ds d) values e = go (values_pass mode env d values e)
  where
    go : (f : ℤ → Bool) × (elements_pass mode env d ≡ Some f) → (f : ℤ → Bool) × (elements_pass mode env (matrix_domain p ds d) ≡ Some f)
    go q = q

pub listed_shape : (mode : Mode) (env : Env) (before after : ℕ) (d : DomainTree) (read : Listed) (kept : ListedShape) → IsReadListed mode env before d read after
    → option_map (λ v. v.items) read.indices ≡ Some kept.indices.items → read.values ≡ Some kept.values → kept.scalar ≡ scalar_in env d → IsListedShape (shape_of mode env d) (Some kept)
unfolding shape_of
listed_shape mode env before after d read kept h i v s =
    let values : element_values mode env d ≡ Some kept.values = sym h.values ∙ v in
    let f : _ = values_pass mode env d kept.values values in
    let shape : Shape = record { scalar = scalar_in env d; indices = kept.indices.items; passes = f.0; values = element_values mode env d } in
    (shape, both_some _ (index_domains mode env d) (elements_pass mode env d) kept.indices.items f.0 (sym h.indices ∙ i) f.1, s, refl, values)

pub unlisted_indices : (mode : Mode) (env : Env) (before after : ℕ) (d : DomainTree) (read : Listed) → IsReadListed mode env before d read after → option_map (λ v. v.items) read.indices ≡ None
    → IsListedShape (shape_of mode env d) None
unfolding shape_of
unlisted_indices mode env before after d read h i =
    ap (option_and_then (λ (s : Shape). s.values)) (no_first _ (index_domains mode env d) (elements_pass mode env d) (sym h.indices ∙ i))

pub unlisted_values : (mode : Mode) (env : Env) (before after : ℕ) (d : DomainTree) (read : Listed) → IsReadListed mode env before d read after → read.values ≡ None
    → IsListedShape (shape_of mode env d) None
unlisted_values mode env before after d read h v = go (shape_of mode env d) refl
  where
    go : (o : Option Shape) → shape_of mode env d ≡ o → option_and_then (λ (s : Shape). s.values) o ≡ None
    go None e = refl
    go (Some shape) e = sym (shape_parts mode env d shape e).3 ∙ sym h.values ∙ v

-- ---- groups

-- the decision variables of a group by what is kept of its domain
group_kept : (o : Option Shape) (kept : Option ListedShape) (names : List (Name × Place)) → IsListedShape o kept
    → option_and_then (λ shape. option_map (λ values. group_finds shape values names) shape.values) o ≡ option_map (λ k. kept_finds k names) kept
unfolding group_finds
group_kept o (Some kept) names h =
    ap (option_and_then (λ (shape : Shape). option_map (λ values. group_finds shape values names) shape.values)) h.1
    ∙ ap (option_map (λ values. group_finds h.0 values names)) h.4
    ∙ ap (λ s. Some (map (λ (name : Name × Place). record { name = name.0; scalar = s; indices = h.0.indices; values = kept.values }) names)) (sym h.2)
    ∙ ap (λ is. Some (map (λ (name : Name × Place). record { name = name.0; scalar = kept.scalar; indices = is; values = kept.values }) names)) (sym h.3)
group_kept None None names h = refl
group_kept (Some shape) None names h = ap (option_map (λ values. group_finds shape values names)) h

group_and_rest : (o : Option Shape) (rest : Option (List Find)) (names : List (Name × Place))
    → option_and_then (λ shape. on_both shape.values rest (λ values fs. Some (group_finds shape values names ++ fs))) o
    ≡ map_both (λ xs ys. xs ++ ys) (option_and_then (λ shape. option_map (λ values. group_finds shape values names) shape.values) o) rest
unfolding on_both map_both
group_and_rest None rest names = refl
group_and_rest (Some shape) rest names = go shape.values rest
  where
    go : (v : Option (List ℤ)) (rest : Option (List Find)) → on_both v rest (λ values fs. Some (group_finds shape values names ++ fs))
        ≡ map_both (λ xs ys. xs ++ ys) (option_map (λ values. group_finds shape values names) v) rest
    go None rest = refl
    go (Some values) None = refl
    go (Some values) (Some fs) = refl

bound_finds-cons : (mode : Mode) (env : Env) (g : Group) (gs : List Group) → bound_finds mode env (g ∷ gs) ≡ map_both (λ xs ys. xs ++ ys) (finds_of mode env g) (bound_finds mode env gs)
unfolding bound_finds
bound_finds-cons mode env g gs = group_and_rest (shape_of mode env g.domain) (bound_finds mode env gs) g.names

-- The nodes that are counted so far, and what the decision variables so far and the groups that are left give together.
pub record FindsSoFar (mode : Mode) (env : Env) (all left : List Group) (finds : Option (List Find)) (count : ℕ) : Type 0 where
  pub done : List Met
  pub cut : met_groups mode env all ≡ done ++ met_groups mode env left
  pub counted : IsCounted mode 0 done count
  pub same : bound_finds mode env all ≡ map_both (λ xs ys. xs ++ ys) finds (bound_finds mode env left)

append_none : (o : Option (List Find)) → o ≡ map_both (λ xs ys. xs ++ ys) (Some []) o
unfolding map_both
append_none None = refl
append_none (Some xs) = refl

pub finds_begin : (mode : Mode) (env : Env) (all : List Group) → FindsSoFar mode env all all (Some []) 0
finds_begin mode env all = record { done = []; cut = refl; counted = counted_none mode 0 (omega arith); same = append_none (bound_finds mode env all) }

met_groups-cons : (mode : Mode) (env : Env) (g : Group) (gs : List Group) → met_groups mode env (g ∷ gs) ≡ met_domain mode env g.domain ++ met_groups mode env gs
unfolding met_groups
met_groups-cons mode env g gs = refl

regroup : (a b c : Option (List Find)) → map_both (λ xs ys. xs ++ ys) a (map_both (λ xs ys. xs ++ ys) b c) ≡ map_both (λ xs ys. xs ++ ys) (map_both (λ xs ys. xs ++ ys) a b) c
unfolding map_both
regroup None b c = refl
regroup (Some x) None c = refl
regroup (Some x) (Some y) None = refl
regroup (Some x) (Some y) (Some z) = ap Some (sym (append_assoc x y z))

-- one group more
pub finds_more : (mode : Mode) (env : Env) (count after : ℕ) (all : List Group) (g : Group) (left : List Group) (finds more : Option (List Find)) (kept : Option ListedShape)
    → FindsSoFar mode env all (g ∷ left) finds count → IsCounted mode count (met_domain mode env g.domain) after → IsListedShape (shape_of mode env g.domain) kept
    → more ≡ map_both (λ xs ys. xs ++ ys) finds (option_map (λ k. kept_finds k g.names) kept) → FindsSoFar mode env all left more after
finds_more mode env count after all g left finds more kept h counted k is = record {
  done = h.done ++ met_domain mode env g.domain;
  cut = h.cut ∙ ap (λ ms. h.done ++ ms) (met_groups-cons mode env g left) ∙ sym (append_assoc h.done (met_domain mode env g.domain) (met_groups mode env left));
  counted = counted_on mode 0 count after h.done (met_domain mode env g.domain) h.counted counted;
  same =
      h.same
      ∙ ap (map_both (λ xs ys. xs ++ ys) finds) (bound_finds-cons mode env g left)
      ∙ regroup finds (finds_of mode env g) (bound_finds mode env left)
      ∙ ap (λ o. map_both (λ xs ys. xs ++ ys) (map_both (λ xs ys. xs ++ ys) finds o) (bound_finds mode env left)) (group_kept (shape_of mode env g.domain) kept g.names k)
      ∙ ap (λ o. map_both (λ xs ys. xs ++ ys) o (bound_finds mode env left)) (sym is);
}

-- a domain that passes a limit
pub finds_cause : (mode : Mode) (env : Env) (count : ℕ) (all : List Group) (g : Group) (left : List Group) (finds : Option (List Find)) (e : EvalError)
    → FindsSoFar mode env all (g ∷ left) finds count → IsCause (limits_of_values mode count (met_domain mode env g.domain)) e → IsCause (limits_of_values mode 0 (met_groups mode env all)) e
finds_cause mode env count all g left finds e h cause =
    cause_along mode 0 (h.done ++ (met_domain mode env g.domain ++ met_groups mode env left)) (met_groups mode env all) e
    (sym (h.cut ∙ ap (λ ms. h.done ++ ms) (met_groups-cons mode env g left)))
    (cause_next mode 0 count h.done (met_domain mode env g.domain ++ met_groups mode env left) e h.counted
    (cause_first mode count (met_domain mode env g.domain) (met_groups mode env left) e cause))

append_last : (o : Option (List Find)) → map_both (λ xs ys. xs ++ ys) o (Some []) ≡ o
unfolding map_both
append_last None = refl
append_last (Some xs) = ap Some (append-nil xs)

finds_end : (mode : Mode) (env : Env) (count : ℕ) (all : List Group) (finds : Option (List Find)) → FindsSoFar mode env all [] finds count
    → (limits_of_values mode 0 (met_groups mode env all) ≡ []) × (bound_finds mode env all ≡ finds)
unfolding met_groups bound_finds
finds_end mode env count all finds h =
    ((counted_along mode 0 count h.done (met_groups mode env all) (sym (h.cut ∙ append-nil h.done)) h.counted).within, h.same ∙ append_last finds)

-- all groups
pub finds_given : (mode : Mode) (env : Env) (p : Place) (count : ℕ) (all : List Group) (finds : Option (List Find)) (fs : List Find) → FindsSoFar mode env all [] finds count → finds ≡ Some fs
    → finds_said mode p env all ≡ Ok fs
finds_given mode env p count all finds fs h e =
    let q : _ = finds_end mode env count all finds h in
    no_limit mode (met_groups mode env all) (or_refuse (undefined_at model_text p) (bound_finds mode env all)) q.0
    ∙ given_some (undefined_at model_text p) (bound_finds mode env all) fs (q.1 ∙ e)

pub finds_undefined : (mode : Mode) (env : Env) (p : Place) (count : ℕ) (all : List Group) (finds : Option (List Find)) → FindsSoFar mode env all [] finds count → finds ≡ None
    → finds_said mode p env all ≡ Err (undefined_at model_text p ∷ [])
finds_undefined mode env p count all finds h e =
    let q : _ = finds_end mode env count all finds h in
    no_limit mode (met_groups mode env all) (or_refuse (undefined_at model_text p) (bound_finds mode env all)) q.0
    ∙ refused_none (undefined_at model_text p) (bound_finds mode env all) (q.1 ∙ e)

-- ---- one decision variable

shape_scalar : (s : Scalar) (is : List (List ℤ)) → scalar_of (shape_type s is) ≡ s
unfolding scalar_of of_scalar shape_type
shape_scalar Scalar.Bool [] = refl
shape_scalar Scalar.Int [] = refl
shape_scalar s (i ∷ is) = refl

pub find_shaped : (s : Scalar) (is : List (List ℤ)) (ty : ValueType) → ty ≡ shape_type s is → ty ≡ shape_type (scalar_of ty) is
find_shaped s is ty e = e ∙ ap (λ x. shape_type x is) (sym (ap scalar_of e ∙ shape_scalar s is))

pub find_is : (n : Name) (ty : ValueType) (is : List (List ℤ)) (vs : List ℤ) (kept : ListedShape) (name : Name) → n ≡ name → ty ≡ shape_type kept.scalar kept.indices.items
    → is ≡ kept.indices.items → vs ≡ kept.values
    → ◌≡◌ {A = Find} (record { name = n; scalar = scalar_of ty; indices = is; values = vs }) (kept_find kept name)
find_is n ty is vs kept name h t i v =
    ap (λ x. record { name = x; scalar = scalar_of ty; indices = is; values = vs }) h
    ∙ ap (λ s. record { name = name; scalar = s; indices = is; values = vs }) (ap scalar_of t ∙ shape_scalar kept.scalar kept.indices.items)
    ∙ ap (λ x. record { name = name; scalar = kept.scalar; indices = x; values = vs }) i
    ∙ ap (λ x. record { name = name; scalar = kept.scalar; indices = kept.indices.items; values = x }) v

-- ---- groups as the code has them

pub finds_more_of : (mode : Mode) (env : Env) (count after : ℕ) (all : List Group) (g : Declared) (left : List Group) (finds more : Option (List Find)) (kept : Option ListedShape) (names : List (Name × Place))
    → names ≡ g.names.items
    → FindsSoFar mode env all (group_of g ∷ left) finds count → IsCounted mode count (met_domain mode env (domain_tree g.domain)) after → IsListedShape (shape_of mode env (domain_tree g.domain)) kept
    → more ≡ map_both (λ xs ys. xs ++ ys) finds (option_map (λ k. kept_finds k names) kept) → FindsSoFar mode env all left more after
unfolding group_of
finds_more_of mode env count after all g left finds more kept names n h c k is =
    finds_more mode env count after all (group_of g) left finds more kept h c k (is ∙ ap (λ xs. map_both (λ xs ys. xs ++ ys) finds (option_map (λ k. kept_finds k xs) kept)) n)

pub finds_cause_of : (mode : Mode) (env : Env) (count : ℕ) (all : List Group) (g : Declared) (left : List Group) (finds : Option (List Find)) (e : EvalError)
    → FindsSoFar mode env all (group_of g ∷ left) finds count → IsCause (limits_of_values mode count (met_domain mode env (domain_tree g.domain))) e → IsCause (limits_of_values mode 0 (met_groups mode env all)) e
unfolding group_of
finds_cause_of mode env count all g left finds e h cause = finds_cause mode env count all (group_of g) left finds e h cause

pub one_find : (kept : ListedShape) (names : List (Name × Place)) (k : ℕ) (x : Name × Place) (start now more : List KeptFind) (f : KeptFind) → k < length names → x ≡ get_or names k x
    → map find_of now ≡ map find_of start ++ kept_finds kept (take k names) → find_of f ≡ kept_find kept x.0 → more ≡ now ++ f ∷ []
    → map find_of more ≡ map find_of start ++ kept_finds kept (take (k + 1) names)
one_find kept names k x start now more f lt at h e is =
    ap (map find_of) is
    ∙ map-append find_of now (f ∷ [])
    ∙ ap (λ xs. xs ++ find_of f ∷ []) h
    ∙ ap (λ y. (map find_of start ++ kept_finds kept (take k names)) ++ y ∷ []) (e ∙ ap (λ (n : Name × Place). kept_find kept n.0) at)
    ∙ append_assoc (map find_of start) (kept_finds kept (take k names)) (kept_find kept (get_or names k x).0 ∷ [])
    ∙ ap (λ xs. map find_of start ++ xs)
    (sym (map-append (λ (n : Name × Place). kept_find kept n.0) (take k names) (get_or names k x ∷ [])) ∙ ap (kept_finds kept) (sym (take_more names k x lt)))

-- ---- decision variables that are joined

pub no_finds : (a b : Option (List Find)) → a ≡ None → None ≡ map_both (λ xs ys. xs ++ ys) a b
unfolding map_both
no_finds a b e = sym (ap (λ o. map_both (λ xs ys. xs ++ ys) o b) e)

pub no_group_finds : (a b : Option (List Find)) → b ≡ None → None ≡ map_both (λ xs ys. xs ++ ys) a b
unfolding map_both
no_group_finds None b e = refl
no_group_finds (Some x) b e = sym (ap (λ o. map_both (λ xs ys. xs ++ ys) (Some x) o) e)

pub joined_finds : (a b : Option (List Find)) (xs ys all : List Find) → a ≡ Some xs → b ≡ Some ys → all ≡ xs ++ ys → Some all ≡ map_both (λ xs ys. xs ++ ys) a b
unfolding map_both
joined_finds a b xs ys all h k e =
    ap Some e ∙ sym (ap (λ o. map_both (λ us vs. us ++ vs) o b) h ∙ ap (λ o. map_both (λ us vs. us ++ vs) (Some xs) o) k)
