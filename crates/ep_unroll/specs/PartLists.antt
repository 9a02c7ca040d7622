-- Lists of parts that were unrolled, and the terms of their scalars.
use Rattle.std.specs.Prelude.{◌≡◌, ℕ, ◌<◌, List, [], ◌∷◌, ◌++◌, map, ℤ, Option, Some, None, length, option_and_then, option_map}
use Rattle.std.specs.List.{All}
use Rattle.std.specs.declared.alloc.Global.{Global}
use Rattle.std.specs.declared.vec.Vec.{Vec}
use Rattle.ep_base.specs.Options.{map_both}
use Rattle.ep_base.specs.Reads.{all_there}
use Rattle.ep_ground.specs.Nodes.{GroundNode}
use Rattle.ep_ground.specs.Terms.{term_value}
use Rattle.ep_tree.specs.Environments.{Env}
use Rattle.ep_tree.specs.Evaluation.{values_of}
use Rattle.ep_tree.specs.Trees.{ExprTrees}
use Rattle.ep_tree.specs.Values.{ValueTree, all_defined}
use Rattle.ep_unroll.specs.Growing.{Grows}
use Rattle.ep_unroll.specs.Meanings.{AreTerms, worth}
use Rattle.ep_unroll.specs.Readings.{Numbering, Reading}
use Rattle.ep_unroll.specs.declared.unrolled.Unrolled.{Unrolled}

-- each term of some parts has a node
unfoldable pub HaveTerms : ℕ → List Unrolled → Type 0
HaveTerms count [] = Unit {0}
HaveTerms count (x ∷ xs) = AreTerms count x × HaveTerms count xs

-- the values of some parts
abbrev pub worths : List GroundNode → List ℤ → List Unrolled → List (Option ValueTree)
worths nodes numbers xs = map (worth nodes numbers) xs

-- Terms have scalars, whatever numbers the cells have, and where there are none one of them has no value.
pub record HaveScalars (old new : List GroundNode) (scalars : List ℤ → Option (List ℤ)) (ts : List ℕ) : Type 0 where
  pub grows : Grows old new
  pub known : All (λ t. t < length new) ts
  pub values : (numbers : List ℤ) → all_there (map (term_value new numbers) ts) ≡ scalars numbers

-- Parts have the values of expressions, one for each, whatever values decision variables have.
pub record ArePartsOf (n : Numbering) (cells : Env) (old new : List GroundNode) (es : ExprTrees) (xs : List Unrolled) : Type 0 where
  pub grows : Grows old new
  pub known : HaveTerms (length new) xs
  pub values : (r : Reading n cells) → worths new r.numbers xs ≡ values_of n.mode r.values es

-- the parts that there are
abbrev pub parts_in : Option (Vec Unrolled Global) → Option (List Unrolled)
parts_in parts = option_map (λ v. v.items) parts

-- each term of parts has a node, where there are parts
unfoldable pub MayHaveTerms : ℕ → Option (List Unrolled) → Type 0
MayHaveTerms count None = Unit {0}
MayHaveTerms count (Some xs) = HaveTerms count xs

-- the values of parts, where there are parts and each has a value
unfoldable pub listed_worths : List GroundNode → List ℤ → Option (List Unrolled) → Option (List ValueTree)
listed_worths nodes numbers parts = option_and_then (λ xs. all_defined (worths nodes numbers xs)) parts

-- Parts with others behind them: these have values, whatever values decision variables have, and where they have none
-- there are no parts, or one of them has no value.
pub record ListsTerms (n : Numbering) (cells : Env) (old new : List GroundNode) (before after : Option (List Unrolled)) (own : Env → Option (List ValueTree)) : Type 0 where
  pub grows : Grows old new
  pub known : MayHaveTerms (length old) before → MayHaveTerms (length new) after
  pub values : MayHaveTerms (length old) before → (r : Reading n cells)
      → listed_worths new r.numbers after ≡ map_both ◌++◌ (listed_worths old r.numbers before) (own r.values)
