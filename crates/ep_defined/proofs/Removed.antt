-- The new ground keeps the solutions of the old one.
use Rattle.std.proofs.Common.{◌≡◌, ℕ, ◌<◌, ℤ, false, List, [], ◌∷◌, ◌++◌, length, Option, Some, None, refl, sym, ap, subst, ◌∙◌, arith, get_or}
use Rattle.std.specs.Prelude.{IfSome, IsSome, MatchOption, option_and_then, option_map, option_to_list}
use Rattle.std.specs.List.{All, AllZip, Contains, flat_map}
use Rattle.std.proofs.lemmas.List.Elements.{All-append, All-cons, All-contains, All-nil, All-weaker, Contains-append_left, Contains-append_right, Contains-get_or}
use Rattle.ep_base.specs.Reads.{IsWithinNumbers}
use Rattle.ep_base.specs.declared.operators.Sense.{Sense}
use Rattle.ep_defined.specs.Growing.{IsSafeOver}
use Rattle.ep_defined.specs.Images.{image_at, total_at}
use Rattle.ep_defined.specs.Translations.{IsBoundedBelow, IsRemoved, StandsForTerm, Translated, Translates, clause_terms, objective_guards, objective_total}
use Rattle.ep_defined.specs.declared.images.Image.{Image}
use Rattle.ep_defined.proofs.Listing.{All-left, All-right}
use Rattle.ep_defined.proofs.Removing.{IsOneUnder, all_joined, all_parts, clause_holds, clause_says, objective_holds, objective_same, objective_says}
use Rattle.ep_ground.specs.Bounds.{IsBounded}
use Rattle.ep_ground.specs.Grounds.{AreCellValues, GroundState, HasNoPartialNode, HasObjective, IsTermReached, IsWellFormed, KeepsSolutions, StandsOver, ground_objective, named_terms}
use Rattle.ep_ground.specs.Nodes.{is_partial}
use Rattle.ep_ground.specs.Terms.{term_value}
use Rattle.ep_ground.specs.declared.cells.Cell.{Cell}

zip_length : {A B : Type 0} (R : A → B → Type 0) (xs : List A) (ys : List B) → AllZip R xs ys → length ys ≡ length xs
zip_length R [] [] h = refl
zip_length R [] (y ∷ ys) h = absurd h
zip_length R (x ∷ xs) [] h = absurd h
zip_length R (x ∷ xs) (y ∷ ys) h = ap (λ n. ℕ.suc n) (zip_length R xs ys h.1)

-- what holds of what stands for each named term holds of all new named terms
option_all : (P : ℕ → Type 0) (o : Option ℕ) → IfSome o P → All P (option_to_list o)
option_all P None h = All-nil P
option_all P (Some g) h = All-cons P g [] h (All-nil P)

new_named : (P : ℕ → Type 0) (images : List Image) (clauses : List ℕ) (o : Option (Sense × ℕ)) → ((t : ℕ) → Contains (clauses ++ option_to_list (option_map (λ goal. goal.1) o)) t → P (image_at images t).total × IfSome (image_at images t).guard P)
    → All P ((flat_map (λ t. clause_terms (image_at images t)) clauses ++ objective_guards images o) ++ option_to_list (option_map (λ goal. goal.1) (objective_total images o)))
new_named P images clauses o each =
    All-append P (flat_map (λ t. clause_terms (image_at images t)) clauses ++ objective_guards images o) (option_to_list (option_map (λ goal. goal.1) (objective_total images o)))
    (All-append P (flat_map (λ t. clause_terms (image_at images t)) clauses) (objective_guards images o)
    (all_joined P images clauses (λ k d below.
    let t = get_or clauses k d in
    let h = each t (Contains-append_left clauses (option_to_list (option_map (λ goal. goal.1) o)) t (Contains-get_or clauses k d below)) in
    All-cons P (image_at images t).total (option_to_list (image_at images t).guard) h.0 (option_all P (image_at images t).guard h.1)))
    (guards o (λ t found. each t (Contains-append_right clauses (option_to_list (option_map (λ goal. goal.1) o)) t found))))
    (totals o (λ t found. each t (Contains-append_right clauses (option_to_list (option_map (λ goal. goal.1) o)) t found)))
  where
    guards : (q : Option (Sense × ℕ)) → ((t : ℕ) → Contains (option_to_list (option_map (λ goal. goal.1) q)) t → P (image_at images t).total × IfSome (image_at images t).guard P) → All P (objective_guards images q)
    guards None h = All-nil P
    guards (Some goal) h = option_all P (image_at images goal.1).guard (h goal.1 (0, omega arith, refl)).1

    totals : (q : Option (Sense × ℕ)) → ((t : ℕ) → Contains (option_to_list (option_map (λ goal. goal.1) q)) t → P (image_at images t).total × IfSome (image_at images t).guard P) → All P (option_to_list (option_map (λ goal. goal.1) (objective_total images q)))
    totals None h = All-nil P
    totals (Some goal) h = All-cons P (total_at images goal.1) [] (h goal.1 (0, omega arith, refl)).0 (All-nil P)

-- objectives
objective_back : (v w : ℕ → Option ℤ) (images : List Image) (o : Option (Sense × ℕ)) → ((t : ℕ) → Contains (option_to_list (option_map (λ goal. goal.1) o)) t → StandsForTerm w (v t) (image_at images t)) → All (IsOneUnder w) (objective_guards images o) → MatchOption o (Unit {0}) (λ goal. IsSome (v goal.1))
objective_back v w images None each all = tt
objective_back v w images (Some goal) each all = objective_says w (v goal.1) (image_at images goal.1) (each goal.1 (0, omega arith, refl)) all

objective_on : (v w : ℕ → Option ℤ) (images : List Image) (o : Option (Sense × ℕ)) → ((t : ℕ) → Contains (option_to_list (option_map (λ goal. goal.1) o)) t → StandsForTerm w (v t) (image_at images t)) → MatchOption o (Unit {0}) (λ goal. IsSome (v goal.1)) → All (IsOneUnder w) (objective_guards images o)
objective_on v w images None each h = All-nil (IsOneUnder w)
objective_on v w images (Some goal) each h = objective_holds w (v goal.1) (image_at images goal.1) (each goal.1 (0, omega arith, refl)) h

total_there : (w : ℕ → Option ℤ) (old : Option ℤ) (image : Image) → StandsForTerm w old image → IsSome (w image.total)
total_there w old image s = subst IsSome (sym s.total) refl

objective_there : (v w : ℕ → Option ℤ) (images : List Image) (o : Option (Sense × ℕ)) → ((t : ℕ) → Contains (option_to_list (option_map (λ goal. goal.1) o)) t → StandsForTerm w (v t) (image_at images t)) → MatchOption (objective_total images o) (Unit {0}) (λ goal. IsSome (w goal.1))
objective_there v w images None each = tt
objective_there v w images (Some goal) each = total_there w (v goal.1) (image_at images goal.1) (each goal.1 (0, omega arith, refl))

objective_is : (v w : ℕ → Option ℤ) (images : List Image) (o : Option (Sense × ℕ)) → ((t : ℕ) → Contains (option_to_list (option_map (λ goal. goal.1) o)) t → StandsForTerm w (v t) (image_at images t)) → MatchOption o (Unit {0}) (λ goal. IsSome (v goal.1)) → option_and_then (λ goal. w goal.1) (objective_total images o) ≡ option_and_then (λ goal. v goal.1) o
objective_is v w images None each h = refl
objective_is v w images (Some goal) each h = objective_same w (v goal.1) (image_at images goal.1) (each goal.1 (0, omega arith, refl)) h

senses_same : (images : List Image) (o : Option (Sense × ℕ)) → option_map (λ goal. goal.0) (objective_total images o) ≡ option_map (λ goal. goal.0) o
senses_same images None = refl
senses_same images (Some goal) = refl

-- what is known of a ground whose terms have images
pub record IsAllTranslated (g new : GroundState) (images : List Image) : Type 0 where
  pub nought : ℕ
  pub stand : Translates g.cells g.nodes new.nodes nought images
  pub many : length images ≡ length g.nodes
  pub removed : IsRemoved g new images
  pub well_formed : IsWellFormed g

each_named : (g new : GroundState) (images : List Image) → IsAllTranslated g new images → (t : ℕ) → Contains (named_terms g) t → Translated g.cells g.nodes new.nodes t (image_at images t)
each_named g new images h t found =
    h.stand.each t (subst (λ n. t < n) (sym h.many) (All-contains (λ u. u < length g.nodes) (named_terms g) t h.well_formed.terms found))

pub keeps : (g new : GroundState) (images : List Image) → IsAllTranslated g new images → KeepsSolutions g new
unfolding named_terms HasObjective ground_objective
keeps g new images h = record {
  cells = h.removed.cells;
  same = λ values. (
    λ kept.
        let cells = subst (λ cs. AreCellValues cs values) h.removed.cells kept.cells in
        let each = stands values cells in
        let clauses = subst (All (IsOneUnder (w values))) h.removed.clauses kept.clauses in
        let parts = all_parts (IsOneUnder (w values)) images g.clauses (All-left (IsOneUnder (w values)) (flat_map (λ t. clause_terms (image_at images t)) g.clauses) (objective_guards images g.objective) clauses) in
        record {
          cells = cells;
          clauses = λ k d below.
              let t = get_or g.clauses k d in
              clause_says (w values) (v values t) (image_at images t) (each t (Contains-append_left g.clauses goals t (Contains-get_or g.clauses k d below))) (parts k d below);
          objective = objective_back (v values) (w values) images g.objective (λ t found. each t (Contains-append_right g.clauses goals t found))
              (All-right (IsOneUnder (w values)) (flat_map (λ t. clause_terms (image_at images t)) g.clauses) (objective_guards images g.objective) clauses);
        },
    λ kept.
        let each = stands values kept.cells in
        record {
          cells = subst (λ cs. AreCellValues cs values) (sym h.removed.cells) kept.cells;
          clauses = subst (All (IsOneUnder (w values))) (sym h.removed.clauses)
              (All-append (IsOneUnder (w values)) (flat_map (λ t. clause_terms (image_at images t)) g.clauses) (objective_guards images g.objective)
              (all_joined (IsOneUnder (w values)) images g.clauses (λ k d below.
              let t = get_or g.clauses k d in
              clause_holds (w values) (v values t) (image_at images t) (each t (Contains-append_left g.clauses goals t (Contains-get_or g.clauses k d below))) (kept.clauses k d below)))
              (objective_on (v values) (w values) images g.objective (λ t found. each t (Contains-append_right g.clauses goals t found)) kept.objective));
          objective = subst (λ o. MatchOption o (Unit {0}) (λ goal. IsSome (w values goal.1))) (sym h.removed.objective)
              (objective_there (v values) (w values) images g.objective (λ t found. each t (Contains-append_right g.clauses goals t found)));
        },
  );
  senses = ap (option_map (λ goal. goal.0)) h.removed.objective ∙ senses_same images g.objective;
  objective = λ values kept.
      let each = stands values kept.cells in
      ap (option_and_then (λ goal. w values goal.1)) h.removed.objective
      ∙ objective_is (v values) (w values) images g.objective (λ t found. each t (Contains-append_right g.clauses goals t found)) kept.objective;
}
  where
    goals : List ℕ
    goals = option_to_list (option_map (λ goal. goal.1) g.objective)

    v : List ℤ → ℕ → Option ℤ
    v values = term_value g.nodes values

    w : List ℤ → ℕ → Option ℤ
    w values = term_value new.nodes values

    stands : (values : List ℤ) → AreCellValues g.cells values → (t : ℕ) → Contains (named_terms g) t → StandsForTerm (term_value new.nodes values) (term_value g.nodes values t) (image_at images t)
    stands values cells t found = (each_named g new images h t found).stands values (zip_length (λ (one : Cell) (value : ℤ). Contains one.values value) g.cells values cells)

pub well_formed_after : (g new : GroundState) (images : List Image) → IsAllTranslated g new images → IsWellFormed new
unfolding named_terms
well_formed_after g new images h = record {
  terms = subst (λ cs. All (λ t. t < length new.nodes) (cs ++ option_to_list (option_map (λ goal. goal.1) new.objective))) (sym h.removed.clauses)
      (subst (λ o. All (λ t. t < length new.nodes) ((flat_map (λ t. clause_terms (image_at images t)) g.clauses ++ objective_guards images g.objective) ++ option_to_list (option_map (λ goal. goal.1) o))) (sym h.removed.objective)
      (new_named (λ t. t < length new.nodes) images g.clauses g.objective (λ t found. let there = (each_named g new images h t found).there in (there.total, there.guard))));
  nodes = subst (λ cs. All (StandsOver (length cs)) new.nodes) (sym h.removed.cells) (All-weaker (IsSafeOver (length g.cells)) (StandsOver (length g.cells)) (λ node safe. safe.stands) new.nodes h.stand.safe);
}

pub none_partial : (g new : GroundState) (images : List Image) → IsAllTranslated g new images → HasNoPartialNode new
none_partial g new images h = All-weaker (IsSafeOver (length g.cells)) (λ node. is_partial node ≡ false) (λ node safe. safe.whole) new.nodes h.stand.safe

pub bounded_after : (g new : GroundState) (images : List Image) → IsAllTranslated g new images → IsBounded g → IsBounded new
unfolding named_terms
bounded_after g new images h bounded =
    let below = λ (t : ℕ) (found : Contains (named_terms g) t). (each_named g new images h t found).bounded
    (λ u leads. let reached : IsTermReached g u = record { from = t; named = found; leads = leads } in (bounded.reaches u reached, bounded.coefficients u reached)) in
    let named = subst (λ cs. All (IsBoundedBelow new.nodes new.cells) (cs ++ option_to_list (option_map (λ goal. goal.1) new.objective))) (sym h.removed.clauses)
    (subst (λ o. All (IsBoundedBelow new.nodes new.cells) ((flat_map (λ t. clause_terms (image_at images t)) g.clauses ++ objective_guards images g.objective) ++ option_to_list (option_map (λ goal. goal.1) o))) (sym h.removed.objective)
    (subst (λ cs. All (IsBoundedBelow new.nodes cs) ((flat_map (λ t. clause_terms (image_at images t)) g.clauses ++ objective_guards images g.objective) ++ option_to_list (option_map (λ goal. goal.1) (objective_total images g.objective)))) (sym h.removed.cells)
    (new_named (IsBoundedBelow new.nodes g.cells) images g.clauses g.objective below))) in
    record {
      cells = subst (All (λ one. All IsWithinNumbers one.values)) (sym h.removed.cells) bounded.cells;
      reaches = λ t reached. (All-contains (IsBoundedBelow new.nodes new.cells) (named_terms new) reached.from named reached.named t reached.leads).0;
      coefficients = λ t reached. (All-contains (IsBoundedBelow new.nodes new.cells) (named_terms new) reached.from named reached.named t reached.leads).1;
    }
