-- A ground with what stands for the clauses and the objective of another keeps what that keeps.
use Rattle.std.proofs.Common.{◌≡◌, ℕ, ◌<◌, ◌≤◌, false, ℤ, pos, List, [], ◌∷◌, ◌++◌, length, Option, Some, None, refl, sym, ap, subst, ◌∙◌, arith, slice_get}
use Rattle.std.specs.Prelude.{IsSome, MatchOption, get_or, map, option_and_then, option_map, option_to_list, slice_index_or}
use Rattle.std.specs.List.{All, Contains}
use Rattle.std.proofs.lemmas.List.{map-append}
use Rattle.std.proofs.lemmas.List.Elements.{All-cons, All-contains, All-head, All-nil, All-tail, All-weaker, Contains-append_left, Contains-append_right, Contains-get_or}
use Rattle.std.proofs.lemmas.Option.{slice_get-get_or}
use Rattle.ep_base.specs.Intervals.{IsWithinReach}
use Rattle.ep_base.specs.Reads.{IsWithinNumbers}
use Rattle.ep_base.specs.declared.operators.Sense.{Sense}
use Rattle.ep_defined.proofs.Listing.{All-left, All-right}
use Rattle.ep_defined.specs.Growing.{IsSafeOver}
use Rattle.ep_ground.proofs.TermLaws.{reach_is}
use Rattle.ep_ground.specs.Bounds.{IsBounded, term_reach}
use Rattle.ep_ground.specs.Grounds.{AreCellValues, GroundState, HasNoPartialNode, HasObjective, IsTermReached, IsWellFormed, KeepsSolutions, LeadsTo, StandsOver, ground_objective, itself, named_terms}
use Rattle.ep_ground.specs.Nodes.{is_partial, undefined}
use Rattle.ep_ground.specs.Terms.{PartsStandBefore, term_value}
use Rattle.ep_ground.specs.declared.cells.Cell.{Cell}
use Rattle.ep_reach.proofs.Narrower.{narrower_near}
use Rattle.ep_reach.proofs.Nodes.{all_at}
use Rattle.ep_simplify.proofs.Images.{of_map}
use Rattle.ep_simplify.specs.Decided.{AreFolded, AreUntold, IsOpen, IsUntoldBy}
use Rattle.ep_simplify.specs.Settling.{AreNear, IsNews, IsUntold}
use Rattle.ep_simplify.specs.declared.news.News.{News}
use Rattle.ep_simplify.specs.Standing.{ComesOf, IsSimplified, Stand, StandsInFor, goal_image, standing_at}

-- what is known of a ground whose terms have images with the same values
pub record IsKept (g new : GroundState) (images : List ℕ) : Type 0 where
  pub there : (t : ℕ) → t < length images → standing_at images t < length new.nodes
  pub value : (t : ℕ) → t < length images → (values : List ℤ) → AreCellValues g.cells values → term_value new.nodes values (standing_at images t) ≡ term_value g.nodes values t
  pub many : length images ≡ length g.nodes
  pub simplified : IsSimplified g new images
  pub well_formed : IsWellFormed g
  pub safe : All (IsSafeOver (length g.cells)) new.nodes

-- the same of images that reach no farther
pub record IsAllSimplified (g new : GroundState) (images : List ℕ) : Type 0 where
  pub stand : Stand g.cells g.nodes new.nodes images
  pub many : length images ≡ length g.nodes
  pub simplified : IsSimplified g new images
  pub well_formed : IsWellFormed g
  pub safe : All (IsSafeOver (length g.cells)) new.nodes

pub is_kept : (g new : GroundState) (images : List ℕ) → IsAllSimplified g new images → IsKept g new images
is_kept g new images h = record {
  there = λ t below. (h.stand.each t below).there;
  value = λ t below. (h.stand.each t below).value;
  many = h.many;
  simplified = h.simplified;
  well_formed = h.well_formed;
  safe = h.safe;
}

-- the terms that a ground names are places of images
pub named_below : (g : GroundState) (images : List ℕ) → length images ≡ length g.nodes → IsWellFormed g → All (λ t. t < length images) (named_terms g)
named_below g images many h = subst (λ n. All (λ t. t < n) (named_terms g)) (sym many) h.terms

pub each_named : (g new : GroundState) (images : List ℕ) → IsKept g new images → (t : ℕ) → Contains (named_terms g) t → t < length images
each_named g new images h t found = All-contains (λ u. u < length images) (named_terms g) t (named_below g images h.many h.well_formed) found

-- what holds of all images holds of the terms over them
all_of_map : (P : ℕ → Type 0) (f : ℕ → ℕ) (ts : List ℕ) → All P (map f ts) → All (λ t. P (f t)) ts
all_of_map P f [] h = All-nil (λ t. P (f t))
all_of_map P f (t ∷ ts) h = All-cons (λ u. P (f u)) t ts (All-head P (f t) (map f ts) h) (all_of_map P f ts (All-tail P (f t) (map f ts) h))

all_to_map : (P : ℕ → Type 0) (f : ℕ → ℕ) (ts : List ℕ) → All (λ t. P (f t)) ts → All P (map f ts)
all_to_map P f [] h = All-nil P
all_to_map P f (t ∷ ts) h = All-cons P (f t) (map f ts) (All-head (λ u. P (f u)) t ts h) (all_to_map P f ts (All-tail (λ u. P (f u)) t ts h))

abbrev goals_of : Option (Sense × ℕ) → List ℕ
goals_of o = option_to_list (option_map (λ goal. goal.1) o)

goals_over : (images : List ℕ) (o : Option (Sense × ℕ)) → goals_of (goal_image images o) ≡ map (standing_at images) (goals_of o)
unfolding goal_image
goals_over images None = refl
goals_over images (Some goal) = refl

-- the terms that the new ground names are the images of those that the old one does
pub new_named : (g new : GroundState) (images : List ℕ) → IsSimplified g new images → named_terms new ≡ map (standing_at images) (named_terms g)
unfolding named_terms
new_named g new images h =
    (λ i. h.clauses i ++ goals_of (h.objective i))
    ∙ ap (λ ts. map (standing_at images) g.clauses ++ ts) (goals_over images g.objective)
    ∙ sym (map-append (standing_at images) g.clauses (goals_of g.objective))

senses_same : (images : List ℕ) (o : Option (Sense × ℕ)) → option_map (λ (goal : Sense × ℕ). goal.0) (goal_image images o) ≡ option_map (λ (goal : Sense × ℕ). goal.0) o
unfolding goal_image
senses_same images None = refl
senses_same images (Some goal) = refl

goal_same : (v w : ℕ → Option ℤ) (images : List ℕ) (o : Option (Sense × ℕ)) → ((t : ℕ) → Contains (goals_of o) t → w (standing_at images t) ≡ v t) → option_and_then (λ (goal : Sense × ℕ). w goal.1) (goal_image images o) ≡ option_and_then (λ (goal : Sense × ℕ). v goal.1) o
unfolding goal_image
goal_same v w images None same = refl
goal_same v w images (Some goal) same = same goal.1 (0, omega arith, refl)

goal_on : (v w : ℕ → Option ℤ) (images : List ℕ) (o : Option (Sense × ℕ)) → ((t : ℕ) → Contains (goals_of o) t → w (standing_at images t) ≡ v t) → MatchOption {T = Sense × ℕ} o (Unit {0}) (λ goal. IsSome (v goal.1)) → MatchOption {T = Sense × ℕ} (goal_image images o) (Unit {0}) (λ goal. IsSome (w goal.1))
unfolding goal_image
goal_on v w images None same h = tt
goal_on v w images (Some goal) same h = subst IsSome (sym (same goal.1 (0, omega arith, refl))) h

goal_back : (v w : ℕ → Option ℤ) (images : List ℕ) (o : Option (Sense × ℕ)) → ((t : ℕ) → Contains (goals_of o) t → w (standing_at images t) ≡ v t) → MatchOption {T = Sense × ℕ} (goal_image images o) (Unit {0}) (λ goal. IsSome (w goal.1)) → MatchOption {T = Sense × ℕ} o (Unit {0}) (λ goal. IsSome (v goal.1))
unfolding goal_image
goal_back v w images None same h = tt
goal_back v w images (Some goal) same h = subst IsSome (same goal.1 (0, omega arith, refl)) h

-- a term is 1
abbrev IsOneBy : (ℕ → Option ℤ) → ℕ → Type 0
IsOneBy w t = w t ≡ Some (pos 1)

pub keeps : (g new : GroundState) (images : List ℕ) → IsKept g new images → KeepsSolutions g new
unfolding named_terms HasObjective ground_objective
keeps g new images h = record {
  cells = h.simplified.cells;
  same = λ values. (
    λ kept.
        let cells = subst (λ cs. AreCellValues cs values) h.simplified.cells kept.cells in
        let clauses = all_of_map (IsOneBy (w values)) (standing_at images) g.clauses (subst (All (IsOneBy (w values))) h.simplified.clauses kept.clauses) in
        record {
          cells = cells;
          clauses = λ k d below. sym (clause_same values cells k d below) ∙ clauses k d below;
          objective = goal_back (v values) (w values) images g.objective (goal_stands values cells) (subst (λ (o : Option (Sense × ℕ)). MatchOption {T = Sense × ℕ} o (Unit {0}) (λ goal. IsSome (w values goal.1))) h.simplified.objective kept.objective);
        },
    λ kept. record {
      cells = subst (λ cs. AreCellValues cs values) (sym h.simplified.cells) kept.cells;
      clauses = subst (All (IsOneBy (w values))) (sym h.simplified.clauses)
          (all_to_map (IsOneBy (w values)) (standing_at images) g.clauses (λ k d below. clause_same values kept.cells k d below ∙ kept.clauses k d below));
      objective = subst (λ (o : Option (Sense × ℕ)). MatchOption {T = Sense × ℕ} o (Unit {0}) (λ goal. IsSome (w values goal.1))) (sym h.simplified.objective) (goal_on (v values) (w values) images g.objective (goal_stands values kept.cells) kept.objective);
    },
  );
  senses = ap (option_map (λ (goal : Sense × ℕ). goal.0)) h.simplified.objective ∙ senses_same images g.objective;
  objective = λ values kept. ap (option_and_then (λ (goal : Sense × ℕ). w values goal.1)) h.simplified.objective ∙ goal_same (v values) (w values) images g.objective (goal_stands values kept.cells);
}
  where
    v : List ℤ → ℕ → Option ℤ
    v values = term_value g.nodes values

    w : List ℤ → ℕ → Option ℤ
    w values = term_value new.nodes values

    same_at : (values : List ℤ) → AreCellValues g.cells values → (t : ℕ) → Contains (named_terms g) t → w values (standing_at images t) ≡ v values t
    same_at values cells t found = h.value t (each_named g new images h t found) values cells

    clause_same : (values : List ℤ) → AreCellValues g.cells values → (k d : ℕ) → k < length g.clauses → w values (standing_at images (get_or g.clauses k d)) ≡ v values (get_or g.clauses k d)
    clause_same values cells k d below = same_at values cells (get_or g.clauses k d) (Contains-append_left g.clauses (goals_of g.objective) (get_or g.clauses k d) (Contains-get_or g.clauses k d below))

    goal_stands : (values : List ℤ) → AreCellValues g.cells values → (t : ℕ) → Contains (goals_of g.objective) t → w values (standing_at images t) ≡ v values t
    goal_stands values cells t found = same_at values cells t (Contains-append_right g.clauses (goals_of g.objective) t found)

pub well_formed_after : (g new : GroundState) (images : List ℕ) → IsKept g new images → IsWellFormed new
well_formed_after g new images h = record {
  terms = subst (All (λ t. t < length new.nodes)) (sym (new_named g new images h.simplified))
      (all_to_map (λ t. t < length new.nodes) (standing_at images) (named_terms g) (λ k d below. h.there (get_or (named_terms g) k d) (each_named g new images h (get_or (named_terms g) k d) (Contains-get_or (named_terms g) k d below))));
  nodes = subst (λ cs. All (StandsOver (length cs)) new.nodes) (sym h.simplified.cells) (All-weaker (IsSafeOver (length g.cells)) (StandsOver (length g.cells)) (λ node safe. safe.stands) new.nodes h.safe);
}

pub none_partial : (g new : GroundState) (images : List ℕ) → IsKept g new images → HasNoPartialNode new
none_partial g new images h = All-weaker (IsSafeOver (length g.cells)) (λ node. is_partial node ≡ false) (λ node safe. safe.whole) new.nodes h.safe

-- each term that the new ground reaches comes of one that the old one does
pub record ComesReached (g new : GroundState) (images : List ℕ) (u : ℕ) : Type 0 where
  pub old : ℕ
  pub reached : IsTermReached g old
  pub comes : ComesOf g.nodes new.nodes images old u
  pub stands : StandsInFor g.cells g.nodes new.nodes comes.old u
  pub reached_old : IsTermReached g comes.old

pub comes_reached : (g new : GroundState) (images : List ℕ) → IsAllSimplified g new images → (u : ℕ) → IsTermReached new u → ComesReached g new images u
comes_reached g new images h u r =
    let p = of_map (standing_at images) (named_terms g) r.from (subst (λ ts. Contains ts r.from) (new_named g new images h.simplified) r.named) in
    let comes = h.stand.back p.0 (each_named g new images (is_kept g new images h) p.0 p.1) u (subst (λ k. LeadsTo new.nodes k u) (sym p.2) r.leads) in
    record {
      old = p.0;
      reached = record { from = p.0; named = p.1; leads = itself p.0 };
      comes = comes;
      stands = subst (StandsInFor g.cells g.nodes new.nodes comes.old) comes.is (h.stand.each comes.old comes.below);
      reached_old = record { from = p.0; named = p.1; leads = comes.leads };
    }

pub bounded_after : (g new : GroundState) (images : List ℕ) → IsAllSimplified g new images → IsBounded g → IsBounded new
bounded_after g new images h bounded = record {
  cells = subst (All (λ one. All IsWithinNumbers one.values)) (sym h.simplified.cells) bounded.cells;
  reaches = λ u r.
      let c = comes_reached g new images h u r in
      subst (λ cs. IsWithinReach (term_reach new.nodes cs u)) (sym h.simplified.cells)
      (narrower_near (term_reach new.nodes g.cells u) (term_reach g.nodes g.cells c.comes.old) c.stands.reach (bounded.reaches c.comes.old c.reached_old));
  coefficients = λ u r. let c = comes_reached g new images h u r in c.comes.asks.coefficients (bounded.coefficients c.comes.old c.reached_old);
}

pub all_simplified : (g new : GroundState) (images : List ℕ) (news : News) → new.nodes ≡ news.arena → Stand g.cells g.nodes news.arena images → length images ≡ length g.nodes → IsSimplified g new images → IsWellFormed g → IsNews g.cells news → IsAllSimplified g new images
all_simplified g new images news same stand many simplified well_formed is_news = record {
  stand = subst (λ ns. Stand g.cells g.nodes ns images) (sym same) stand;
  many = many;
  simplified = simplified;
  well_formed = well_formed;
  safe = subst (All (IsSafeOver (length g.cells))) (sym same) is_news.safe;
}

pub few_nodes : (g new : GroundState) (images : List ℕ) → IsAllSimplified g new images → length new.nodes ≤ length g.nodes
few_nodes g new images h = omega (arith, h.stand.few, h.many)

pub all_undecided : (new : GroundState) (cells : List Cell) (news : News) → new.nodes ≡ news.arena → IsNews cells news → All (IsOpen new.nodes) new.nodes
all_undecided new cells news same h = subst (λ ns. All (IsOpen ns) ns) (sym same) h.undecided

-- how far terms reach tells nothing about the new nodes
pub all_untold : (g new : GroundState) (news : News) (images : List ℕ) → new.nodes ≡ news.arena → IsSimplified g new images → IsNews g.cells news → AreNear news → All (IsUntold new.cells new.nodes) new.nodes
all_untold g new news images same s h near =
    subst (λ cs. All (IsUntold cs new.nodes) new.nodes) (sym s.cells) (subst (λ ns. All (IsUntold g.cells ns) ns) (sym same) (h.untold near))

pub none_told : (new : GroundState) → All (IsUntold new.cells new.nodes) new.nodes → AreUntold new
none_told new h = All-weaker (IsUntold new.cells new.nodes) (IsUntoldBy new.nodes (term_reach new.nodes new.cells)) (λ node told. told.untold) new.nodes h

pub all_folded : (new : GroundState) → PartsStandBefore new.nodes → All (IsUntold new.cells new.nodes) new.nodes → AreFolded new
all_folded new before h t n below reach =
    let node = slice_index_or new.nodes t undefined in
    let at : slice_get new.nodes t ≡ Some node = slice_get-get_or new.nodes t undefined below in
    at ∙ ap (λ m. Some m) ((all_at (IsUntold new.cells new.nodes) new.nodes t node at h).folded n (sym (reach_is new.nodes new.cells before t node at) ∙ reach))

-- the terms of the clauses, and that of the objective
pub clauses_below : (n : ℕ) (g : GroundState) → All (λ t. t < n) (named_terms g) → All (λ t. t < n) g.clauses
unfolding named_terms
clauses_below n g h = All-left (λ t. t < n) g.clauses (goals_of g.objective) h

pub goals_below : (n : ℕ) (g : GroundState) → All (λ t. t < n) (named_terms g) → All (λ t. t < n) (option_to_list (option_map (λ goal. goal.1) g.objective))
unfolding named_terms
goals_below n g h = All-right (λ t. t < n) g.clauses (goals_of g.objective) h
