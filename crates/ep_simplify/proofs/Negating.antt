-- What stands for negations.
use Rattle.std.proofs.Common.{◌≡◌, not, ℕ, ◌<◌, Bool, false, ℤ, List, [], ◌∷◌, length, Option, Some, None, refl, sym, ap, subst, ◌∙◌, arith}
use Rattle.std.specs.Prelude.{IsSome, slice_index_or}
use Rattle.std.specs.List.{All}
use Rattle.std.proofs.lemmas.List.Elements.{All-get_or, All-head, All-weaker}
use Rattle.std.proofs.lemmas.Option.{get_or_from_slice_get, same_Some, slice_get_within}
use Rattle.ep_base.specs.Intervals.{truth_interval}
use Rattle.ep_base.specs.Numbers.{contrary_comparison, is_one, of_bool}
use Rattle.ep_base.specs.Reads.{same_bool}
use Rattle.ep_base.specs.declared.operators.CompareOp.{CompareOp}
use Rattle.ep_defined.specs.Growing.{IsNodeAt}
use Rattle.ep_ground.specs.Bounds.{node_reach, term_reach}
use Rattle.ep_ground.specs.Grounds.{itself, by_part, additions_in}
use Rattle.ep_ground.specs.Nodes.{GroundNode, constant, compare, negation, coefficients_of, parts_of}
use Rattle.ep_ground.specs.declared.cells.Cell.{Cell}
use Rattle.ep_reach.specs.Narrowing.{IsNarrower}
use Rattle.ep_simplify.proofs.Forms.{alone, contrary_value, double_value, negation_says, number_is}
use Rattle.ep_simplify.proofs.Taking.{asks_nothing, own_settles, settled_as, truth_part, truth_settles}
use Rattle.ep_simplify.proofs.Untold.{negation_untold}
use Rattle.ep_simplify.specs.Decided.{IsOfTruths, IsOpen, lone_number}
use Rattle.ep_simplify.specs.Settling.{IsNews, IsSettled, IsTaken, IsUntold, Replaces, negated_of}
use Rattle.ep_simplify.specs.declared.news.News.{News}
use Rattle.ep_simplify.specs.declared.settling.Negated.TheVariants as negated

-- ---- what a negated term is

pub was_number : (node : GroundNode) (n : ℤ) → negated_of node ≡ negated.Number n → node ≡ constant n
unfolding negated_of
was_number (constant m) n e = ap constant (inside e)
  where
    inside : negated.Number m ≡ negated.Number n → m ≡ n
    inside f = cc
was_number node n e = absurd cc

pub was_comparison : (node : GroundNode) (op : CompareOp) (x y : ℕ) → negated_of node ≡ negated.Compare op x y → node ≡ compare op x y
unfolding negated_of
was_comparison (compare o a b) op x y e = cc
was_comparison node op x y e = absurd cc

pub was_negation : (node : GroundNode) (x : ℕ) → negated_of node ≡ negated.Not x → node ≡ negation x
unfolding negated_of
was_negation (negation a) x e = cc
was_negation node x e = absurd cc

number_other : (n : ℤ) → negated_of (constant n) ≡ negated.Other → ⊥
unfolding negated_of
number_other n e = cc

comparison_other : (op : CompareOp) (x y : ℕ) → negated_of (compare op x y) ≡ negated.Other → ⊥
unfolding negated_of
comparison_other op x y e = cc

number_not : (n : ℤ) (x : ℕ) → constant n ≡ negation x → ⊥
number_not n x e = cc

comparison_not : (op : CompareOp) (a b x : ℕ) → compare op a b ≡ negation x → ⊥
comparison_not op a b x e = cc

-- a negation of a node that is neither a number nor a comparison is left undecided
open_negation : (nodes : List GroundNode) (a : ℕ) (node : GroundNode) → IsNodeAt nodes a node → ((n : ℤ) → constant n ≡ node → ⊥) → ((op : CompareOp) (x y : ℕ) → compare op x y ≡ node → ⊥) → IsOpen nodes (negation a)
unfolding IsOpen
open_negation nodes a node at h g = (by (lone_number nodes a) refl, λ found. g found.0 found.1 found.2 (same_Some (compare found.0 found.1 found.2) node (sym found.3 ∙ at)))
  where
    by : (o : Option ℤ) → lone_number nodes a ≡ o → IsSome o → ⊥
    by None e some = absurd cc
    by (Some n) e some = h n (same_Some (constant n) node (sym (number_is nodes a n e) ∙ at))

pub open_other : (nodes : List GroundNode) (a : ℕ) (node : GroundNode) → IsNodeAt nodes a node → negated_of node ≡ negated.Other → IsOpen nodes (negation a)
open_other nodes a node at other =
    open_negation nodes a node at (λ n same. number_other n (ap negated_of same ∙ other)) (λ op x y same. comparison_other op x y (ap negated_of same ∙ other))

pub open_double : (nodes : List GroundNode) (a inner : ℕ) → IsNodeAt nodes a (negation inner) → IsOpen nodes (negation a)
open_double nodes a inner at =
    open_negation nodes a (negation inner) at (λ n same. number_not n inner same) (λ op x y same. comparison_not op x y inner same)

-- ---- negations of numbers

pub number_negated : (cells : List Cell) (old new : News) (a : ℕ) (n : ℤ) (known : Bool) (term : ℕ) → IsNews cells old → a < length old.arena → IsNodeAt old.arena a (constant n) → known ≡ same_bool false (is_one n) → IsTaken cells old (constant (of_bool known)) new term → IsSettled cells old (negation a) new term
unfolding node_reach same_bool
number_negated cells old new a n known term h below at is t =
    truth_settles cells old new (negation a) known term h refl
    (negation_says cells old a known below (λ values m. ap (λ x. not (is_one x)) (alone cells old values m a n at) ∙ sym is) h) t

-- ---- negations of comparisons

-- the parts of a node stand among the terms
pub below_at : (cells : List Cell) (news : News) (a : ℕ) (node : GroundNode) → IsNews cells news → IsNodeAt news.arena a node → All (λ p. p < length news.arena) (parts_of node)
below_at cells news a node h at =
    All-weaker (λ p. p < a) (λ p. p < length news.arena) (λ p less. let there = slice_get_within news.arena a node at in omega (arith, less, there)) (parts_of node) (h.before a node at)

-- what is undecided stays so for the contrary comparison
pub open_contrary : (cells : List Cell) (news : News) (a : ℕ) (op other : CompareOp) (x y : ℕ) → IsNews cells news → IsNodeAt news.arena a (compare op x y) → IsOpen news.arena (compare other x y)
unfolding IsOpen
open_contrary cells news a op other x y h at =
    let there = slice_get_within news.arena a (compare op x y) at in
    let one : IsOpen news.arena (slice_index_or news.arena a (compare op x y)) = All-get_or (IsOpen news.arena) news.arena a (compare op x y) there h.undecided in
    subst (IsOpen news.arena) (get_or_from_slice_get news.arena a (compare op x y) (compare op x y) at) one

pub contrary_replaces : (cells : List Cell) (news : News) (op : CompareOp) (a x y : ℕ) → IsNews cells news → a < length news.arena → IsNodeAt news.arena a (compare op x y) → Replaces cells news.arena (negation a) (compare (contrary_comparison op) x y)
unfolding node_reach parts_of coefficients_of additions_in
contrary_replaces cells news op a x y h la at = record {
  value = contrary_value cells news op a x y h la at (below_at cells news a (compare op x y) h at);
  reach = λ i n. n;
  parts = λ p found. record {
    part = a;
    is_part = (0, omega arith, refl);
    leads = by_part a p p (compare op x y) at found (itself p);
  };
  asks = asks_nothing (negation a) (compare (contrary_comparison op) x y) refl refl;
}

pub comparison_negated : (cells : List Cell) (old new : News) (op contrary : CompareOp) (a x y : ℕ) (term : ℕ) → IsNews cells old → a < length old.arena → IsNodeAt old.arena a (compare op x y) → contrary ≡ contrary_comparison op → IsTaken cells old (compare contrary x y) new term → IsSettled cells old (negation a) new term
unfolding parts_of
comparison_negated cells old new op contrary a x y term h la at is t =
    settled_as cells old new (negation a) (compare (contrary_comparison op) x y) term (contrary_replaces cells old op a x y h la at)
    (own_settles cells old new (compare (contrary_comparison op) x y) term h (below_at cells old a (compare op x y) h at) (subst (λ o. IsTaken cells old (compare o x y) new term) is t))

-- ---- negations of negations

pub negation_negated : (cells : List Cell) (old : News) (a inner : ℕ) → IsNews cells old → a < length old.arena → IsNodeAt old.arena a (negation inner) → IsNarrower (term_reach old.arena cells inner) truth_interval → IsSettled cells old (negation a) old inner
unfolding node_reach parts_of
negation_negated cells old a inner h la at narrow =
    let below : inner < length old.arena = All-head (λ p. p < length old.arena) inner [] (below_at cells old a (negation inner) h at) in
    truth_part cells old (negation a) inner h below
    (record {
      part = a;
      is_part = (0, omega arith, refl);
      leads = by_part a inner inner (negation inner) at (0, omega arith, refl) (itself inner);
    }) refl narrow (double_value cells old a inner h la below at narrow)

pub first_below : (nodes : List GroundNode) (a : ℕ) → All (λ p. p < length nodes) (a ∷ []) → a < length nodes
first_below nodes a h = All-head (λ p. p < length nodes) a [] h

negation_other : (x : ℕ) → negated_of (negation x) ≡ negated.Other → ⊥
unfolding negated_of
negation_other x e = cc

-- what isn't a negation isn't one of a truth value
pub other_untold : (cells : List Cell) (nodes : List GroundNode) (a : ℕ) (node : GroundNode) → IsNodeAt nodes a node → negated_of node ≡ negated.Other → IsUntold cells nodes (negation a)
other_untold cells nodes a node at other = negation_untold cells nodes a (λ x is truths. negation_other x (ap negated_of (same_Some (negation x) node (sym is ∙ at)) ∙ other))

pub double_untold : (cells : List Cell) (nodes : List GroundNode) (a inner : ℕ) → IsNodeAt nodes a (negation inner) → (IsOfTruths (term_reach nodes cells inner) → ⊥) → IsUntold cells nodes (negation a)
double_untold cells nodes a inner at none = negation_untold cells nodes a (λ x is truths. none (subst (λ t. IsOfTruths (term_reach nodes cells t)) (same_inner x inner (same_Some (negation x) (negation inner) (sym is ∙ at))) truths))
  where
    same_inner : (x y : ℕ) → negation x ≡ negation y → x ≡ y
    same_inner x y e = cc
