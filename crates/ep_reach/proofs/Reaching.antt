-- Reaches of the nodes of a ground, one node after another.
use Rattle.std.proofs.Common.{◌≡◌, ℕ, zero, suc, ◌+◌, ◌<◌, ◌≤◌, ℤ, pos, ◌≤ℤ◌, List, [], ◌∷◌, ◌++◌, length, get_or, take, true, Some, None, refl, sym, ap, subst, ◌∙◌, arith}
use Rattle.std.specs.Prelude.{Option, IfSome, fold, is_some, map, neg_ℤ, slice_get, slice_index_or}
use Rattle.std.specs.Int.{int_max, int_min}
use Rattle.std.specs.List.{All}
use Rattle.std.proofs.lemmas.Bool.{false≢true}
use Rattle.std.proofs.lemmas.Int.{ints}
use Rattle.std.proofs.lemmas.List.{map-append, map_more, take_all}
use Rattle.std.proofs.lemmas.List.Elements.{All-cons, All-head, All-nil, All-push, All-tail}
use Rattle.std.proofs.lemmas.List.Sums.{fold_push}
use Rattle.ep_base.specs.Intervals.{Interval, IsWithinReach, from_to, greatest_or_zero, least_or_zero, only, spanned}
use Rattle.ep_base.specs.Numbers.{greatest_of, least_of}
use Rattle.ep_base.specs.Reads.{IsWithinNumbers}
use Rattle.ep_ground.specs.Bounds.{IsBounded, node_reach, reach_at, term_reach}
use Rattle.ep_ground.specs.Grounds.{GroundState}
use Rattle.ep_ground.specs.Nodes.{GroundNode, undefined, coefficients_of}
use Rattle.ep_ground.specs.declared.cells.Cell.{Cell}
use Rattle.ep_numbers.specs.Spans.{interval_of, intervals_of}
use Rattle.ep_numbers.specs.declared.spans.Span.{Span}
use Rattle.ep_reach.proofs.Nodes.{all_got, all_whole, take_got}

-- what holds of an answer that is there
pub if_there : {A : Type 0} {P : Type 0} {Q : A → Type 0} (o : Option A) → IfSome o Q → ((a : A) → Q a → P) → is_some o ≡ true → P
if_there None q f h = absurd (false≢true h)
if_there (Some a) q f h = f a q

pub if_there_both : {A : Type 0} {P : Type 0} {Q R : A → Type 0} (o : Option A) → IfSome o Q → IfSome o R → ((a : A) → Q a → R a → P) → is_some o ≡ true → P
if_there_both None q r f h = absurd (false≢true h)
if_there_both (Some a) q r f h = f a q r

pub if_some_so : {A : Type 0} {P Q : A → Type 0} (o : Option A) → IfSome o P → ((a : A) → P a → Q a) → IfSome o Q
if_some_so None p f = p
if_some_so (Some a) p f = f a p

-- what a list of images says of a place
pub at_map : {A B : Type 0} (f : A → B) (xs : List A) (k : ℕ) (x d : A) (e : B) → k < length xs → x ≡ get_or xs k d → f x ≡ slice_index_or (map f xs) k e
at_map f [] k x d e h same = absurd (omega (arith, h))
at_map f (y ∷ ys) zero x d e h same = ap f same
at_map f (y ∷ ys) (suc k) x d e h same = at_map f ys k x d e (omega (arith, h)) same

pub beyond : {A : Type 0} (xs : List A) (k : ℕ) (d : A) → length xs ≤ k → d ≡ slice_index_or xs k d
beyond [] k d h = refl
beyond (x ∷ xs) zero d h = absurd (omega (arith, h))
beyond (x ∷ xs) (suc k) d h = beyond xs k d (omega (arith, h))

pub map_long : {A B : Type 0} (f : A → B) (xs : List A) → length (map f xs) ≡ length xs
map_long f [] = refl
map_long f (x ∷ xs) = ap suc (map_long f xs)

-- ---- the first nodes

pub all_mapped : {A B : Type 0} (P : B → Type 0) (f : A → B) (xs : List A) (k : ℕ) (x d : A) → k < length xs → x ≡ get_or xs k d → All P (map f (take k xs)) → P (f x) → All P (map f (take (k + 1) xs))
all_mapped P f xs k x d h same done p =
    subst (All P) (sym (map_more f xs k d h ∙ ap (λ y. map f (take k xs) ++ f y ∷ []) (sym same))) (All-push P (map f (take k xs)) (f x) done p)

pub all_mapped_whole : {A B : Type 0} (P : B → Type 0) (f : A → B) (xs : List A) (k : ℕ) → length xs ≤ k → All P (map f (take k xs)) → All P (map f xs)
all_mapped_whole P f xs k h done = subst (λ ys. All P (map f ys)) (take_all k xs h) done

-- the reaches of the first nodes are kept and near, and the coefficients of these nodes are near
pub record Bounded (nodes : List GroundNode) (cells : List Cell) (k : ℕ) (reaches : List Interval) : Type 0 where
  pub same : reaches ≡ fold (λ before node. before ++ node_reach cells (reach_at before) node ∷ []) [] (take k nodes)
  pub near : All IsWithinReach reaches
  pub coefficients : All (λ node. All IsWithinNumbers (coefficients_of node)) (take k nodes)

pub bounded_none : (nodes : List GroundNode) (cells : List Cell) (reaches : List Interval) → reaches ≡ [] → Bounded nodes cells 0 reaches
bounded_none nodes cells reaches e = record {
  same = e;
  near = subst (All IsWithinReach) (sym e) (All-nil IsWithinReach);
  coefficients = All-nil (λ node. All IsWithinNumbers (coefficients_of node));
}

pub bounded_more : (nodes : List GroundNode) (cells : List Cell) (k : ℕ) (reaches after : List Interval) (node : GroundNode) (i : Interval) → slice_get nodes k ≡ Some node
    → i ≡ node_reach cells (reach_at reaches) node → IsWithinReach i → All IsWithinNumbers (coefficients_of node) → after ≡ reaches ++ i ∷ []
    → Bounded nodes cells k reaches → Bounded nodes cells (k + 1) after
bounded_more nodes cells k reaches after node i got is near coefficients pushed was =
    let step : List Interval → GroundNode → List Interval = λ before n. before ++ node_reach cells (reach_at before) n ∷ [] in
    record {
      same =
          pushed ∙ ap (λ j. reaches ++ j ∷ []) is ∙ ap (λ rs. step rs node) was.same
          ∙ sym (ap (fold step []) (take_got nodes k node got) ∙ fold_push step [] (take k nodes) node);
      near = subst (All IsWithinReach) (sym pushed) (All-push IsWithinReach reaches i was.near near);
      coefficients = all_got (λ n. All IsWithinNumbers (coefficients_of n)) nodes k node got was.coefficients coefficients;
    }

pub near_at : (is : List Interval) (t : ℕ) → All IsWithinReach is → IsWithinReach (slice_index_or is t (only (pos 0)))
near_at [] t h = record { low = (omega (arith, ints), omega (arith, ints)); high = (omega (arith, ints), omega (arith, ints)) }
near_at (i ∷ is) zero h = All-head IsWithinReach i is h
near_at (i ∷ is) (suc t) h = near_at is t (All-tail IsWithinReach i is h)

coefficients_at : (nodes : List GroundNode) (t : ℕ) → All (λ node. All IsWithinNumbers (coefficients_of node)) nodes → All IsWithinNumbers (coefficients_of (slice_index_or nodes t undefined))
unfolding coefficients_of
coefficients_at [] t h = All-nil IsWithinNumbers
coefficients_at (n ∷ nodes) zero h = All-head (λ node. All IsWithinNumbers (coefficients_of node)) n nodes h
coefficients_at (n ∷ nodes) (suc t) h = coefficients_at nodes t (All-tail (λ node. All IsWithinNumbers (coefficients_of node)) n nodes h)

pub bounded_all : (g : GroundState) (k : ℕ) (reaches : List Interval) → length g.nodes ≤ k → All (λ one. All IsWithinNumbers one.values) g.cells
    → Bounded g.nodes g.cells k reaches → IsBounded g
unfolding term_reach reach_at
bounded_all g k reaches h cells was =
    let step : List Interval → GroundNode → List Interval = λ before n. before ++ node_reach g.cells (reach_at before) n ∷ [] in
    let whole : reaches ≡ fold step [] g.nodes = was.same ∙ ap (fold step []) (take_all k g.nodes h) in
    record {
      cells = cells;
      reaches = λ t _. subst (λ rs. IsWithinReach (slice_index_or rs t (only (pos 0)))) whole (near_at reaches t was.near);
      coefficients = λ t _. coefficients_at g.nodes t (all_whole (λ n. All IsWithinNumbers (coefficients_of n)) g.nodes k h was.coefficients);
    }

-- the intervals that are kept once one more is pushed
pub pushed_intervals : (spans after : List Span) (span : Span) → after ≡ spans ++ span ∷ [] → intervals_of after ≡ intervals_of spans ++ interval_of span ∷ []
pushed_intervals spans after span e = ap intervals_of e ∙ map-append interval_of spans (span ∷ [])

pub spanned_nothing : only (pos 0) ≡ spanned []
unfolding spanned least_or_zero greatest_or_zero least_of greatest_of
spanned_nothing = refl
