-- Reads of what was unrolled: what is found under the numbers of terms, and the terms that say so.
use Rattle.std.specs.Prelude.{◌≡◌, ℕ, ◌<◌, ◌≤◌, List, [], ◌∷◌, map, ℤ, Some, None, Option, IsSome, option_and_then, option_map, length, if◌then◌else◌}
use Rattle.std.specs.List.{All}
use Rattle.std.specs.Ordering.{int_eq}
use Rattle.ep_base.specs.Numbers.{is_one}
use Rattle.ep_base.specs.Reads.{all_there}
use Rattle.ep_ground.specs.Nodes.{GroundNode}
use Rattle.ep_ground.specs.Terms.{term_value, truth}
use Rattle.ep_tree.specs.Values.{ValueTree, all_defined, as_parts, matrix}
use Rattle.ep_unroll.specs.Growing.{Grows}
use Rattle.ep_unroll.specs.PartLists.{worths}
use Rattle.ep_unroll.specs.Picks.{look_up}
use Rattle.ep_unroll.specs.declared.unrolled.Unrolled.{Unrolled}

-- the value of a matrix with these indices and parts
abbrev pub parts_worth : List ℤ → List GroundNode → List ℤ → List Unrolled → Option ValueTree
parts_worth own nodes numbers xs = option_map (λ vs. matrix own (as_parts vs)) (all_defined (worths nodes numbers xs))

-- the part with an index, where there is one
unfoldable pub part_with : List ℤ → List Unrolled → ℤ → Option Unrolled
part_with [] xs i = None
part_with (j ∷ js) [] i = None
part_with (j ∷ js) (x ∷ xs) i = if int_eq i j then Some x else part_with js xs i

-- the numbers of terms, where each has one
abbrev pub numbers_of_terms : List GroundNode → List ℤ → List ℕ → Option (List ℤ)
numbers_of_terms nodes numbers ts = all_there (map (term_value nodes numbers) ts)

-- the number that is found under indices among others with keys, where all of these are there
unfoldable pub found_among : List (List ℤ) → Option (List ℤ) → Option (List ℤ) → Option ℤ
found_among keys xs js = option_and_then (λ ys. option_and_then (look_up keys ys) js) xs

-- a number, where some others are there
unfoldable pub only_where : Option (List ℤ) → Option ℤ → Option ℤ
only_where others x = option_and_then (λ ys. x) others

-- A term has the number that is found under the numbers of other terms.
pub record IsFound (old new : List GroundNode) (keys : List (List ℤ)) (ts us : List ℕ) (t : ℕ) : Type 0 where
  pub grows : Grows old new
  pub known : t < length new
  pub value : (numbers : List ℤ) → term_value new numbers t ≡ found_among keys (numbers_of_terms old numbers ts) (numbers_of_terms old numbers us)

-- A term has another one's number, where some terms have numbers too.
pub record IsWhole (old new : List GroundNode) (others : List ℕ) (a t : ℕ) : Type 0 where
  pub grows : Grows old new
  pub known : t < length new
  pub value : (numbers : List ℤ) → term_value new numbers t ≡ only_where (numbers_of_terms old numbers others) (term_value old numbers a)

-- the number that is found under the numbers of other terms, where some more have numbers too
abbrev pub chosen_among : List GroundNode → List ℤ → List (List ℤ) → List ℕ → List ℕ → List ℕ → Option ℤ
chosen_among nodes numbers keys ts us others =
    only_where (numbers_of_terms nodes numbers others) (found_among keys (numbers_of_terms nodes numbers ts) (numbers_of_terms nodes numbers us))

-- A term has that number.
pub record IsChosen (old new : List GroundNode) (keys : List (List ℤ)) (ts us others : List ℕ) (t : ℕ) : Type 0 where
  pub grows : Grows old new
  pub known : t < length new
  pub value : (numbers : List ℤ) → term_value new numbers t ≡ chosen_among old numbers keys ts us others

-- A term is 1 where that number is, and else 0, wherever so many cells have numbers.
pub record IsTruth (old new : List GroundNode) (count : ℕ) (keys : List (List ℤ)) (ts us others : List ℕ) (t : ℕ) : Type 0 where
  pub grows : Grows old new
  pub known : t < length new
  pub value : (numbers : List ℤ) → count ≤ length numbers → term_value new numbers t ≡ truth (option_map is_one (chosen_among old numbers keys ts us others))

-- A term is alone, and its key has no index.
pub record IsAlone (keys : List (List ℤ)) (ts : List ℕ) (t : ℕ) : Type 0 where
  pub later : List (List ℤ)
  pub key : keys ≡ [] ∷ later
  pub term : ts ≡ t ∷ []

-- There are indices, all terms have numbers wherever so many cells have, and no other term has to.
pub record CanBeSafe (nodes : List GroundNode) (count : ℕ) (ts us others : List ℕ) : Type 0 where
  pub some : 0 < length us
  pub none : others ≡ []
  pub terms : (numbers : List ℤ) → count ≤ length numbers → All (λ t. IsSome (term_value nodes numbers t)) ts
  pub indices : (numbers : List ℤ) → count ≤ length numbers → All (λ t. IsSome (term_value nodes numbers t)) us
