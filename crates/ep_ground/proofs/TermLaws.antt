-- Where the parts of each node stand before it, a term has the value and the reach of its node over those of its parts, and
-- more nodes behind a term change neither.
use Rattle.std.proofs.Common.{◌≡◌, ℕ, ◌<◌, ℤ, pos, List, ◌++◌, length, Option, Some, None, ◌∙◌, arith, slice_get}
use Rattle.std.proofs.lemmas.List.Elements.{All-contains}
use Rattle.std.proofs.lemmas.Option.{slice_get_within}
use Rattle.ep_base.specs.Intervals.{Interval, only}
use Rattle.ep_ground.proofs.Grown.{made-at, grown-before, grown-more}
use Rattle.ep_ground.proofs.SameParts.{node_same, reach_same}
use Rattle.ep_ground.specs.Bounds.{node_reach, reach_at, term_reach}
use Rattle.ep_ground.specs.Nodes.{GroundNode, parts_of}
use Rattle.ep_ground.specs.Terms.{PartsStandBefore, node_value, term_value, value_at, values_from}
use Rattle.ep_ground.specs.declared.cells.Cell.{Cell}

-- the value of a term is that of its node
pub value_is : (nodes : List GroundNode) (values : List ℤ) → PartsStandBefore nodes → (t : ℕ) (node : GroundNode) → slice_get nodes t ≡ Some node → term_value nodes values t ≡ node_value values (term_value nodes values) node
unfolding term_value value_at values_from
value_is nodes values before t node is =
    let step = λ (done : List (Option ℤ)) (n : GroundNode). node_value values (value_at done) n in
    made-at step nodes t node None is
    ∙ node_same values _ (term_value nodes values) node
    (λ p found. grown-before step nodes t p None (let h = slice_get_within nodes t node is in omega arith) (All-contains (λ part. part < t) (parts_of node) p (before t node is) found))

-- and its reach is that of its node
pub reach_is : (nodes : List GroundNode) (cells : List Cell) → PartsStandBefore nodes → (t : ℕ) (node : GroundNode) → slice_get nodes t ≡ Some node → term_reach nodes cells t ≡ node_reach cells (term_reach nodes cells) node
unfolding term_reach reach_at
reach_is nodes cells before t node is =
    let step = λ (done : List Interval) (n : GroundNode). node_reach cells (reach_at done) n in
    made-at step nodes t node (only (pos 0)) is
    ∙ reach_same cells _ (term_reach nodes cells) node
    (λ p found. grown-before step nodes t p (only (pos 0)) (let h = slice_get_within nodes t node is in omega arith) (All-contains (λ part. part < t) (parts_of node) p (before t node is) found))

-- more nodes leave the value of a term as it is
pub value_more : (nodes more : List GroundNode) (values : List ℤ) (t : ℕ) → t < length nodes → term_value (nodes ++ more) values t ≡ term_value nodes values t
unfolding term_value value_at values_from
value_more nodes more values t below = grown-more (λ (done : List (Option ℤ)) (n : GroundNode). node_value values (value_at done) n) nodes more t None below

-- and its reach
pub reach_more : (nodes more : List GroundNode) (cells : List Cell) (t : ℕ) → t < length nodes → term_reach (nodes ++ more) cells t ≡ term_reach nodes cells t
unfolding term_reach reach_at
reach_more nodes more cells t below = grown-more (λ (done : List Interval) (n : GroundNode). node_reach cells (reach_at done) n) nodes more t (only (pos 0)) below
