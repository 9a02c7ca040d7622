-- A simplified ground asks for no more additions.
use Rattle.std.proofs.Common.{◌≡◌, ℕ, suc, ◌+◌, ◌<◌, ◌≤◌, ◌⊎◌, inl, inr, List, [], ◌∷◌, length, Some, refl, sym, ap, subst, ◌∙◌, arith, slice_get}
use Rattle.std.specs.Prelude.{slice_index_or, sum_by}
use Rattle.std.specs.List.{AllPairs, Contains}
use Rattle.std.proofs.lemmas.List.Elements.{Contains-append_right}
use Rattle.std.proofs.lemmas.List.Sums.{sum_by-cons}
use Rattle.std.proofs.lemmas.Option.{slice_get-get_or}
use Rattle.ep_defined.proofs.Parts.{none_there, of_cons}
use Rattle.ep_ground.specs.Grounds.{AsksForAdditions, GroundState, additions, additions_in}
use Rattle.ep_ground.specs.Nodes.{GroundNode, undefined}
use Rattle.ep_simplify.proofs.Simplified.{IsAllSimplified, comes_reached}
use Rattle.ep_simplify.specs.Standing.{standing_at}

-- a list without one of its elements
record Without (g : ℕ → ℕ) (ts : List ℕ) (t : ℕ) : Type 0 where
  rest : List ℕ
  sum : sum_by g ts ≡ g t + sum_by g rest
  others : (s : ℕ) → Contains ts s → (s ≡ t) ⊎ Contains rest s

without : (g : ℕ → ℕ) (ts : List ℕ) (t : ℕ) → Contains ts t → Without g ts t
without g [] t found = none_there t found
without g (x ∷ xs) t found = elim (of_cons x xs t found) as (λ _. Without g (x ∷ xs) t) [
  | inl same ↦ record {
    rest = xs;
    sum = sum_by-cons g x xs ∙ ap (λ u. g u + sum_by g xs) same;
    others = λ s h. elim (of_cons x xs s h) as (λ _. (s ≡ t) ⊎ Contains xs s) [
      | inl e ↦ inl (sym e ∙ same)
      | inr more ↦ inr more
    ];
  }
  | inr more ↦ further (without g xs t more)
]
  where
    further : Without g xs t → Without g (x ∷ xs) t
    further w = record {
      rest = x ∷ w.rest;
      sum = omega (arith, sum_by-cons g x xs, w.sum, sum_by-cons g x w.rest);
      others = λ s h. elim (of_cons x xs s h) as (λ _. (s ≡ t) ⊎ Contains (x ∷ w.rest) s) [
        | inl e ↦ inr (0, omega arith, e)
        | inr there ↦ elim (w.others s there) as (λ _. (s ≡ t) ⊎ Contains (x ∷ w.rest) s) [
          | inl e ↦ inl e
          | inr inside ↦ inr (Contains-append_right (x ∷ []) w.rest s inside)
        ]
      ];
    }

-- an element that a number comes of
pub record Source (f g m : ℕ → ℕ) (ts : List ℕ) (u : ℕ) : Type 0 where
  pub from : ℕ
  pub there : Contains ts from
  pub is : m from ≡ u
  pub less : f u ≤ g from

pairs_tail : (u : ℕ) (us : List ℕ) → AllPairs (λ t later. t < later) (u ∷ us) → AllPairs (λ t later. t < later) us
pairs_tail u us h = λ i j d less below. h (suc i) (suc j) d (omega (arith, less)) (omega (arith, below))

head_less : (u : ℕ) (us : List ℕ) → AllPairs (λ t later. t < later) (u ∷ us) → (s : ℕ) → Contains us s → u < s
head_less u us h s found = subst (λ x. u < x) found.2 (h 0 (suc found.0) s (omega arith) (omega (arith, found.1)))

-- numbers that come each of another element have no greater sum
pub sums_less : (f g m : ℕ → ℕ) (us ts : List ℕ) → AllPairs (λ t later. t < later) us → ((u : ℕ) → Contains us u → Source f g m ts u) → sum_by f us ≤ sum_by g ts
sums_less f g m [] ts distinct source = omega arith
sums_less f g m (u ∷ us) ts distinct source =
    let first = source u (0, omega arith, refl) in
    let w = without g ts first.from first.there in
    let rest = sums_less f g m us w.rest (pairs_tail u us distinct) (λ s found. moved w first.is s found (source s (Contains-append_right (u ∷ []) us s found))) in
    omega (arith, sum_by-cons f u us, first.less, w.sum, rest)
  where
    differs : (s : ℕ) → Contains us s → s ≡ u → ⊥
    differs s found same = let less = head_less u us distinct s found in omega (arith, less, same)

    moved : {t : ℕ} → (w : Without g ts t) → m t ≡ u → (s : ℕ) → Contains us s → Source f g m ts s → Source f g m w.rest s
    moved {t} w is s found source = record {
      from = source.from;
      there = elim (w.others source.from source.there) as (λ _. Contains w.rest source.from) [
        | inl e ↦ absurd (differs s found (sym source.is ∙ ap m e ∙ is))
        | inr inside ↦ inside
      ];
      is = source.is;
      less = source.less;
    }

-- what a term asks for
asked_at : (nodes : List GroundNode) (t : ℕ) → t < length nodes → slice_get nodes t ≡ Some (slice_index_or nodes t undefined)
asked_at nodes t below = slice_get-get_or nodes t undefined below

pub fewer_additions : (g new : GroundState) (images : List ℕ) → IsAllSimplified g new images → (more fewer : ℕ) → AsksForAdditions g more → AsksForAdditions new fewer → fewer ≤ more
unfolding additions
fewer_additions g new images h more fewer old_asks new_asks =
    let less = sums_less (λ u. additions_in (slice_get new.nodes u)) (λ t. additions_in (slice_get g.nodes t)) (standing_at images) new_asks.terms old_asks.terms new_asks.are_reached.ascending
    (λ u found.
    let c = comes_reached g new images h u ((new_asks.are_reached.reached u).0 found) in
    record {
      from = c.comes.old;
      there = (old_asks.are_reached.reached c.comes.old).1 c.reached_old;
      is = c.comes.is;
      less = subst (λ o. additions_in o ≤ additions_in (slice_get g.nodes c.comes.old)) (sym (asked_at new.nodes u c.stands.there))
          (subst (λ o. additions_in (Some (slice_index_or new.nodes u undefined)) ≤ additions_in o) (sym (asked_at g.nodes c.comes.old (subst (λ n. c.comes.old < n) h.many c.comes.below))) c.comes.asks.additions);
    }) in
    omega (arith, less, old_asks.number, new_asks.number)
