-- Limits over nodes that are met one part after another.
use Rattle.std.proofs.Common.{◌≡◌, ◌∙◌, ℕ, ◌+◌, ◌≤◌, Bool, true, false, ◌||◌, List, [], ◌∷◌, ◌++◌, refl, sym, ap, subst, arith, length-append, ℤ, inl, inr, nat_lt, if◌then◌else◌}
use Rattle.std.specs.List.{Contains, flat_map, list_any}
use Rattle.std.specs.Prelude.{Option, Ok}
use Rattle.std.proofs.lemmas.List.Elements.{Contains-append_cases, Contains-append_left, Contains-append_right}
use Rattle.std.proofs.lemmas.Bool.Decides.{nat_tests}
use Rattle.std.proofs.lemmas.Grind.{flat_map-append}
use Rattle.std.proofs.lemmas.List.Folds.{list_any-append}
use Rattle.ep_base.specs.Reads.{is_too_far}
use Rattle.ep_base.specs.declared.operators.Limit.{Limit}
use Rattle.ep_tree.specs.Environments.{Env}
use Rattle.ep_tree.specs.Evaluation.{domain_values, evaluate}
use Rattle.ep_tree.specs.Limits.{counted_domain, counted_value, limits_of_values, numbers_at, within}
use Rattle.ep_tree.specs.Measures.{Met, met, met_domain, size_of}
use Rattle.ep_tree.specs.Trees.{DomainTree, ExprTree}
use Rattle.ep_tree.specs.Values.{ValueTree}
use Rattle.ep_tree.specs.declared.values.Mode.{Mode}
use Rattle.ep_eval.specs.declared.errors.EvalError.{EvalError}
use Rattle.ep_eval.specs.declared.errors.EvalError.TheVariants as error
use Rattle.ep_eval.specs.Outcomes.{IsCause}
use Rattle.ep_instance_parts.specs.Counted.{IsCounted}

-- the limits that are passed, by whether each is
unfoldable size_if : Bool → List Limit
size_if s = if s then Limit.Size ∷ [] else []

unfoldable reach_if : Bool → List Limit
reach_if r = if r then Limit.Reach ∷ [] else []

unfoldable pick : Bool → Bool → List Limit
pick s r = size_if s ++ reach_if r

abbrev is_large : ℕ → List Met → Bool
is_large before ms = nat_lt 5000000 (before + size_of ms)

abbrev has_far : Mode → List Met → Bool
has_far mode ms = list_any is_too_far (flat_map (numbers_at mode) ms)

limits_are : (mode : Mode) (before : ℕ) (ms : List Met) → limits_of_values mode before ms ≡ pick (is_large before ms) (has_far mode ms)
unfolding limits_of_values pick size_if reach_if
limits_are mode before ms = refl

pick_none : (s r : Bool) → pick s r ≡ [] → (s ≡ false) × (r ≡ false)
unfolding pick size_if reach_if
pick_none true r e = absurd cc
pick_none false true e = absurd cc
pick_none false false e = (refl, refl)

size_more : (s t : Bool) → (s ≡ true → t ≡ true) → (l : Limit) → Contains (size_if s) l → Contains (size_if t) l
unfolding size_if
size_more true true f l h = h
size_more true false f l h = let w : false ≡ true = f refl in absurd cc
size_more false t f l h = absurd (omega (arith, h.1))

reach_more : (s t : Bool) → (s ≡ true → t ≡ true) → (l : Limit) → Contains (reach_if s) l → Contains (reach_if t) l
unfolding reach_if
reach_more true true f l h = h
reach_more true false f l h = let w : false ≡ true = f refl in absurd cc
reach_more false t f l h = absurd (omega (arith, h.1))

pick_more : (s r t q : Bool) → (s ≡ true → t ≡ true) → (r ≡ true → q ≡ true) → (l : Limit) → Contains (pick s r) l → Contains (pick t q) l
unfolding pick
pick_more s r t q f g l h =
    elim (Contains-append_cases (size_if s) (reach_if r) l h) as (λ _. Contains (size_if t ++ reach_if q) l) [
      | inl w ↦ Contains-append_left (size_if t) (reach_if q) l (size_more s t f l w)
      | inr w ↦ Contains-append_right (size_if t) (reach_if q) l (reach_more r q g l w)
    ]

cause_more : (s r t q : Bool) → (s ≡ true → t ≡ true) → (r ≡ true → q ≡ true) → (e : EvalError) → IsCause (pick s r) e → IsCause (pick t q) e
cause_more s r t q f g (error.Limit l) h = pick_more s r t q f g l h
cause_more s r t q f g error.Memory h = tt

far-append : (mode : Mode) (ms ns : List Met) → has_far mode (ms ++ ns) ≡ (has_far mode ms || has_far mode ns)
far-append mode ms ns =
    ap (list_any is_too_far) (flat_map-append (numbers_at mode) ms ns)
    ∙ list_any-append is_too_far (flat_map (numbers_at mode) ms) (flat_map (numbers_at mode) ns)

or_right : (b c : Bool) → c ≡ true → (b || c) ≡ true
or_right true c e = refl
or_right false c e = e

or_left : (b c : Bool) → b ≡ true → (b || c) ≡ true
or_left true c e = refl
or_left false c e = absurd cc

size-along : (before after : ℕ) (ms ns : List Met) → after ≡ before + size_of ms → after + size_of ns ≡ before + size_of (ms ++ ns)
size-along before after ms ns e = omega (arith, length-append ms ns, e)

lt_more : (m n k : ℕ) → n ≡ m + k → nat_lt 5000000 m ≡ true → nat_lt 5000000 n ≡ true
lt_more m n k e h = grind (arith, nat_tests, e, h)

-- the same nodes pass the same limits
pub cause_along : (mode : Mode) (before : ℕ) (ms ns : List Met) (e : EvalError) → ms ≡ ns
    → IsCause (limits_of_values mode before ms) e → IsCause (limits_of_values mode before ns) e
cause_along mode before ms ns e same h = subst (λ xs. IsCause (limits_of_values mode before xs) e) same h

pub counted_along : (mode : Mode) (before after : ℕ) (ms ns : List Met) → ms ≡ ns → IsCounted mode before ms after → IsCounted mode before ns after
counted_along mode before after ms ns same h = subst (λ xs. IsCounted mode before xs after) same h

-- what the first part passes, both pass
pub cause_first : (mode : Mode) (before : ℕ) (ms ns : List Met) (e : EvalError)
    → IsCause (limits_of_values mode before ms) e → IsCause (limits_of_values mode before (ms ++ ns)) e
cause_first mode before ms ns e h =
    subst (λ ls. IsCause ls e) (sym (limits_are mode before (ms ++ ns)))
    (cause_more (is_large before ms) (has_far mode ms) (is_large before (ms ++ ns)) (has_far mode (ms ++ ns))
    (lt_more (before + size_of ms) (before + size_of (ms ++ ns)) (size_of ns) (omega (arith, length-append ms ns)))
    (λ far. far-append mode ms ns ∙ or_left (has_far mode ms) (has_far mode ns) far)
    e (subst (λ ls. IsCause ls e) (limits_are mode before ms) h))

-- what the second part passes behind the first, both pass
pub cause_next : (mode : Mode) (before after : ℕ) (ms ns : List Met) (e : EvalError) → IsCounted mode before ms after
    → IsCause (limits_of_values mode after ns) e → IsCause (limits_of_values mode before (ms ++ ns)) e
cause_next mode before after ms ns e counted h =
    subst (λ ls. IsCause ls e) (sym (limits_are mode before (ms ++ ns)))
    (cause_more (is_large after ns) (has_far mode ns) (is_large before (ms ++ ns)) (has_far mode (ms ++ ns))
    (λ large. sym (ap (nat_lt 5000000) (size-along before after ms ns counted.counted)) ∙ large)
    (λ far. far-append mode ms ns ∙ or_right (has_far mode ms) (has_far mode ns) far)
    e (subst (λ ls. IsCause ls e) (limits_are mode after ns) h))

-- two parts that pass no limit
pub counted_on : (mode : Mode) (before after last : ℕ) (ms ns : List Met) → IsCounted mode before ms after → IsCounted mode after ns last
    → IsCounted mode before (ms ++ ns) last
unfolding pick size_if reach_if
counted_on mode before after last ms ns one next =
    let first = pick_none (is_large before ms) (has_far mode ms) (sym (limits_are mode before ms) ∙ one.within) in
    let second = pick_none (is_large after ns) (has_far mode ns) (sym (limits_are mode after ns) ∙ next.within) in
    let size : is_large before (ms ++ ns) ≡ false = sym (ap (nat_lt 5000000) (size-along before after ms ns one.counted)) ∙ second.0 in
    let far : has_far mode (ms ++ ns) ≡ false = far-append mode ms ns ∙ ap (λ b. b || has_far mode ns) first.1 ∙ second.1 in
    record {
      within = limits_are mode before (ms ++ ns) ∙ ap (λ s. pick s (has_far mode (ms ++ ns))) size ∙ ap (pick false) far;
      counted = next.counted ∙ size-along before after ms ns one.counted;
    }

lt_small : (n : ℕ) → n ≤ 5000000 → nat_lt 5000000 n ≡ false
lt_small n h = grind (arith, nat_tests, h)

le_small : (n : ℕ) → nat_lt 5000000 n ≡ false → n ≤ 5000000
le_small n h = grind (arith, nat_tests, h)

-- no node at all
pub counted_none : (mode : Mode) (before : ℕ) → before ≤ 5000000 → IsCounted mode before [] before
unfolding pick size_if reach_if
counted_none mode before h = record {
  within = limits_are mode before [] ∙ ap (λ s. pick s false) (lt_small (before + 0) (omega (arith, h)));
  counted = omega arith;
}

-- where no limit is passed, so many are within the limit
pub counted_small : (mode : Mode) (before after : ℕ) (ms : List Met) → IsCounted mode before ms after → after ≤ 5000000
counted_small mode before after ms h =
    let size = (pick_none (is_large before ms) (has_far mode ms) (sym (limits_are mode before ms) ∙ h.within)).0 in
    let small : before + size_of ms ≤ 5000000 = le_small (before + size_of ms) size in
    omega (arith, small, h.counted)

within_ok : {A : Type 0} (ls : List Limit) (x y : A) → within ls x ≡ Ok y → (ls ≡ []) × (x ≡ y)
unfolding within
within_ok [] x y e = (refl, cc)
within_ok (l ∷ ls) x y e = absurd cc

-- what a counted value says
pub value_counted : (mode : Mode) (before after : ℕ) (env : Env) (e : ExprTree) (v : Option ValueTree) → counted_value mode before env e ≡ Ok (v, after)
    → IsCounted mode before (met mode env e) after × (v ≡ evaluate mode env e)
unfolding counted_value
value_counted mode before after env e v h =
    let w = within_ok (limits_of_values mode before (met mode env e)) (evaluate mode env e, before + size_of (met mode env e)) (v, after) h in
    (record { within = w.0; counted = sym (ap (λ p. p.1) w.1) }, sym (ap (λ p. p.0) w.1))

-- what a counted domain says
pub domain_counted : (mode : Mode) (before after : ℕ) (env : Env) (d : DomainTree) (v : Option (List ℤ)) → counted_domain mode before env d ≡ Ok (v, after)
    → IsCounted mode before (met_domain mode env d) after × (v ≡ domain_values mode env d)
unfolding counted_domain
domain_counted mode before after env d v h =
    let w = within_ok (limits_of_values mode before (met_domain mode env d)) (domain_values mode env d, before + size_of (met_domain mode env d)) (v, after) h in
    (record { within = w.0; counted = sym (ap (λ p. p.1) w.1) }, sym (ap (λ p. p.0) w.1))
