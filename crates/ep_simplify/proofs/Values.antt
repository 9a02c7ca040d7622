-- Values of all terms, where no node is partial.
use Rattle.std.proofs.Common.{◌≡◌, ℕ, zero, suc, ◌<◌, ◌⊎◌, inl, inr, ℤ, pos, List, [], ◌∷◌, length, Option, Some, None, refl, sym, ap, subst, ◌∙◌, arith, slice_get}
use Rattle.std.specs.Prelude.{unwrap_or, slice_index_or}
use Rattle.std.specs.List.{All, AllZip, Contains}
use Rattle.std.proofs.lemmas.List.Elements.{All-contains, All-get_or}
use Rattle.std.proofs.lemmas.Option.{slice_get-get_or, slice_get_within}
use Rattle.ep_base.specs.Intervals.{LiesIn}
use Rattle.ep_defined.proofs.Parts.{has_value, there}
use Rattle.ep_defined.specs.Growing.{IsSafeOver}
use Rattle.ep_ground.proofs.SameParts.{node_same}
use Rattle.ep_ground.proofs.TermLaws.{value_is}
use Rattle.ep_ground.specs.Bounds.{term_reach}
use Rattle.ep_ground.specs.Grounds.{AreCellValues, StandsOver}
use Rattle.ep_ground.specs.Nodes.{GroundNode, undefined, parts_of}
use Rattle.ep_ground.specs.Terms.{PartsStandBefore, node_value, term_value}
use Rattle.ep_ground.specs.declared.cells.Cell.{Cell}
use Rattle.ep_reach.proofs.Lies.{term_lies}

pub zip_length : {A B : Type 0} (R : A → B → Type 0) (xs : List A) (ys : List B) → AllZip R xs ys → length ys ≡ length xs
zip_length R [] [] h = refl
zip_length R [] (y ∷ ys) h = absurd h
zip_length R (x ∷ xs) [] h = absurd h
zip_length R (x ∷ xs) (y ∷ ys) h = ap suc (zip_length R xs ys h.1)

-- the number of a term
abbrev pub number_under : List GroundNode → List ℤ → ℕ → ℤ
number_under nodes values t = unwrap_or (term_value nodes values t) (pos 0)

-- the number is the value of each of these terms
abbrev pub HaveNumbers : List GroundNode → List ℤ → ℕ → Type 0
HaveNumbers nodes values k = (t : ℕ) → t < k → term_value nodes values t ≡ Some (number_under nodes values t)

some_number : (o : Option ℤ) (x : ℤ) → o ≡ Some x → o ≡ Some (unwrap_or o (pos 0))
some_number None x e = absurd cc
some_number (Some y) x e = refl

-- what a node has over terms with numbers
pub over_numbers : (nodes : List GroundNode) (values : List ℤ) (k : ℕ) → HaveNumbers nodes values k → (node : GroundNode) → ((p : ℕ) → Contains (parts_of node) p → p < k) → node_value values (term_value nodes values) node ≡ node_value values (there (number_under nodes values)) node
over_numbers nodes values k have node below = node_same values (term_value nodes values) (there (number_under nodes values)) node (λ p found. have p (below p found))

pub less_or_last : (t k : ℕ) → t < suc k → (t < k) ⊎ (t ≡ k)
less_or_last zero zero h = inr refl
less_or_last zero (suc k) h = inl (omega arith)
less_or_last (suc t) zero h = absurd (omega (arith, h))
less_or_last (suc t) (suc k) h = elim (less_or_last t k (omega (arith, h))) as (λ _. (suc t < suc k) ⊎ (suc t ≡ suc k)) [
  | inl l ↦ inl (omega (arith, l))
  | inr e ↦ inr (ap suc e)
]

pub numbers_to : (cells : ℕ) (nodes : List GroundNode) (values : List ℤ) → PartsStandBefore nodes → All (IsSafeOver cells) nodes → length values ≡ cells → (k : ℕ) → (k < suc (length nodes)) → HaveNumbers nodes values k
numbers_to cells nodes values before safe many zero h t l = absurd (omega (arith, l))
numbers_to cells nodes values before safe many (suc k) h t l =
    let have = numbers_to cells nodes values before safe many k (omega (arith, h)) in
    elim (less_or_last t k l) as (λ _. term_value nodes values t ≡ Some (number_under nodes values t)) [
      | inl less ↦ have t less
      | inr same ↦ subst (λ u. term_value nodes values u ≡ Some (number_under nodes values u)) (sym same) (last have)
    ]
  where
    node : GroundNode
    node = slice_index_or nodes k undefined

    at : slice_get nodes k ≡ Some node
    at = slice_get-get_or nodes k undefined (omega (arith, h))

    fits : IsSafeOver cells node
    fits = All-get_or (IsSafeOver cells) nodes k undefined (omega (arith, h)) safe

    last : HaveNumbers nodes values k → term_value nodes values k ≡ Some (number_under nodes values k)
    last have =
        let one = has_value values (number_under nodes values) node fits.whole (subst (λ n. StandsOver n node) (sym many) fits.stands) in
        some_number (term_value nodes values k) one.0
        (value_is nodes values before k node at
        ∙ over_numbers nodes values k have node (λ p found. All-contains (λ q. q < k) (parts_of node) p (before k node at) found)
        ∙ one.1)

-- Numbers of all terms under values of the cells: each is the value of its term and lies in its reach, and it is what its
-- node has over those of its parts.
pub record Numbered (cells : List Cell) (nodes : List GroundNode) (values : List ℤ) : Type 0 where
  pub have : HaveNumbers nodes values (length nodes)
  pub lie : (t : ℕ) → t < length nodes → LiesIn (number_under nodes values t) (term_reach nodes cells t)
  pub is : (t : ℕ) (node : GroundNode) → slice_get nodes t ≡ Some node → node_value values (there (number_under nodes values)) node ≡ Some (number_under nodes values t)

pub numbered : (cells : List Cell) (nodes : List GroundNode) (values : List ℤ) → PartsStandBefore nodes → All (IsSafeOver (length cells)) nodes → AreCellValues cells values → Numbered cells nodes values
numbered cells nodes values before safe are = record {
  have = have;
  lie = λ t below. term_lies nodes cells values are t (number_under nodes values t) (have t below);
  is = λ t node at.
      sym (over_numbers nodes values (length nodes) have node (λ p found. let l = All-contains (λ q. q < t) (parts_of node) p (before t node at) found in let m = slice_get_within nodes t node at in omega (arith, l, m)))
      ∙ sym (value_is nodes values before t node at) ∙ have t (slice_get_within nodes t node at);
}
  where
    have : HaveNumbers nodes values (length nodes)
    have = numbers_to (length cells) nodes values before safe (zip_length (λ (one : Cell) (value : ℤ). Contains one.values value) cells values are) (length nodes) (omega arith)
