-- Sums whose parts are cut, turn by turn.
use Rattle.std.proofs.Common.{◌≡◌, ℕ, ◌+◌, ◌<◌, ◌≤◌, ℤ, pos, List, Global, Vec, length, refl, sym, subst, arith}
use Rattle.ep_base.specs.Intervals.{Interval}
use Rattle.ep_defined.specs.Growing.{IsSafeOver}
use Rattle.ep_ground.specs.Grounds.{StandsOver}
use Rattle.ep_ground.specs.Nodes.{sum, is_partial}
use Rattle.ep_ground.specs.NodeViews.{plain_node}
use Rattle.ep_ground.specs.declared.cells.Cell.{Cell}
use Rattle.ep_ground.specs.declared.nodes.Node.{Node}
use Rattle.ep_ground.specs.declared.nodes.Node.TheVariants as code
use Rattle.ep_share.proofs.Parts.{pair_stands, stands_through}
use Rattle.ep_share.proofs.Splitting.{Joins, joined_at, joined_length}
use Rattle.ep_share.proofs.TwoParts.{pair_few, pair_forms, pair_parts}
use Rattle.ep_share.specs.Cutting.{AreFarBefore, ArePartsOf, ArePlacesOfNear, AreTwoPlaces, CanBeTaken, IsCut, IsMade, IsTaken, StandsForParts, addend_at, pair_of, told_reach, with_pair}
use Rattle.ep_share.specs.declared.making.Making.{Making}
use Rattle.ep_share.specs.declared.pairs.Places.{Places}

-- what is left of the parts of a sum after some turns
pub record IsLeft (cells : List Cell) (old : Making) (parts : List (ℤ × ℕ)) (made : Making) (left : List (ℤ × ℕ)) (turns : ℕ) : Type 0 where
  pub is_made : IsMade cells made
  pub stands : StandsForParts cells old.arena parts made.arena left
  pub short : length left + turns ≤ 8

-- a pair can be taken in
pub pair_can : (cells : List Cell) (made : Making) (p q : ℤ × ℕ) → p.1 < length made.arena → q.1 < length made.arena → CanBeTaken cells made (pair_of p q)
unfolding is_partial StandsOver
pair_can cells made p q one other = record {
  parts = pair_parts (λ t. t < length made.arena) p q one other;
  safe = pair_forms (IsSafeOver (length cells)) p q (record { whole = refl; stands = tt }) (record { whole = refl; stands = tt });
  few = omega (arith, pair_few p q);
}

-- a part at a place is one of these nodes
pub part_there : (nodes : ℕ) (parts : List (ℤ × ℕ)) (k : ℕ) → k < length parts → ArePartsOf nodes parts → (addend_at parts k).1 < nodes
part_there nodes parts k below h = h k (pos 0, 0) below

-- one turn more
pub left_more : (cells : List Cell) (old made new : Making) (parts left later : List (ℤ × ℕ)) (turns term : ℕ) (at : Places) → IsLeft cells old parts made left turns → AreTwoPlaces left at → ArePlacesOfNear (told_reach made.spans.items) left at
    → IsTaken cells made (pair_of (addend_at left at.first) (addend_at left at.second)) new term → later ≡ with_pair left at term → IsLeft cells old parts new later (turns + 1)
left_more cells old made new parts left later turns term at h two near taken is =
    let joins = subst (λ xs. Joins left (addend_at left at.first) (addend_at left at.second) xs (pos 1, term)) (sym is) (joined_at left at.first at.second (pos 1, term) (pos 0, 0) two.ascend two.within) in
    record {
      is_made = taken.made;
      stands = stands_through cells old.arena made.arena new.arena parts left later h.stands
          (pair_stands cells made new left later (addend_at left at.first) (addend_at left at.second) term (record { made = h.is_made; taken = taken; joins = joins; near = near; there = h.stands.there }));
      short = omega (arith, h.short, joined_length left (addend_at left at.first) (addend_at left at.second) later (pos 1, term) joins);
    }

-- no parts at all are far from each other
pub none_left : (reach : ℕ → Interval) (left : List (ℤ × ℕ)) → length left ≤ 0 → AreFarBefore reach left (length left)
none_left reach left none = λ i j p q less below at_i at_j near. omega (arith, none, below)

-- ---- nodes that are no sums

-- only sums are the code's sums
only_sums : (node : Node) (number : ℤ) (parts : List (ℤ × ℕ)) → plain_node node ≡ sum number parts → (c : ℤ) × (summands : Vec (ℤ × ℕ) Global) × (node ≡ code.Add c summands)
only_sums (code.Const n) number parts e = absurd cc
only_sums code.Undefined number parts e = absurd cc
only_sums (code.Cell k) number parts e = absurd cc
only_sums (code.Add c summands) number parts e = (c, summands, refl)
only_sums (code.Mul a b) number parts e = absurd cc
only_sums (code.Div a b) number parts e = absurd cc
only_sums (code.Mod a b) number parts e = absurd cc
only_sums (code.Pow a n) number parts e = absurd cc
only_sums (code.Abs a) number parts e = absurd cc
only_sums (code.Min ts) number parts e = absurd cc
only_sums (code.Max ts) number parts e = absurd cc
only_sums (code.Pick ts keys indices) number parts e = absurd cc
only_sums (code.Whole a ts) number parts e = absurd cc
only_sums (code.SafeDiv a b) number parts e = absurd cc
only_sums (code.SafeMod a b) number parts e = absurd cc
only_sums (code.SafePick ts keys indices) number parts e = absurd cc
only_sums (code.Compare op a b) number parts e = absurd cc
only_sums (code.Lex op ts us) number parts e = absurd cc
only_sums (code.Member a ns) number parts e = absurd cc
only_sums (code.Not a) number parts e = absurd cc
only_sums (code.And ts) number parts e = absurd cc
only_sums (code.Or ts) number parts e = absurd cc
only_sums (code.Iff a b) number parts e = absurd cc
only_sums (code.AllDiff ts) number parts e = absurd cc
only_sums (code.Gcc ts ns us) number parts e = absurd cc
only_sums (code.AtLeast ts cs ns) number parts e = absurd cc
only_sums (code.AtMost ts cs ns) number parts e = absurd cc
only_sums (code.Table ts rows) number parts e = absurd cc

-- a node that is no sum is cut
pub other_cut : (reach : ℕ → Interval) (node : Node) → ((c : ℤ) (summands : Vec (ℤ × ℕ) Global) → node ≡ code.Add c summands → ⊥) → IsCut reach (plain_node node)
other_cut reach node none = λ number parts is few p q two near.
    let made = only_sums node number parts is in
    absurd (none made.0 made.1 made.2)
