-- The stages' promises compose.
use Rattle.std.proofs.Common.{◌≡◌, ℕ, ◌<◌, ◌≤◌, ℤ, pos, Bool, List, [], ◌∷◌, zero, suc, length, take, Option, Some, None, refl, sym, ap, subst, ◌∙◌, arith, slice_index_or}
use Rattle.std.specs.Prelude.{map, option_map, MatchOption}
use Rattle.std.specs.List.{All}
use Rattle.std.proofs.lemmas.List.Elements.{All-head, All-tail, All-weaker}
use Rattle.cnf_core.specs.Clauses.{Satisfies}
use Rattle.cnf_core.specs.Formula.{Cnf}
use Rattle.ep_base.specs.declared.operators.Sense.{Sense}
use Rattle.ep_flat.specs.Cons.{number_at, numbers_of_vars}
use Rattle.ep_flat.specs.Flats.{FlatState, MapState, MapsCells, cell_numbers, objective_number}
use Rattle.ep_flatten.specs.Flattening.{IsMetBy, StandsFor}
use Rattle.ep_ground.specs.Grounds.{GroundState, IsGroundSolution, KeepsSolutions, ground_objective}
use Rattle.enc_var.specs.Decoding.{VariableLiterals}
use Rattle.enc_var.specs.Formulas.{IsFormulaOf}
use Rattle.enc_var.specs.Layouts.{AreGiven, IsEncoding, decoded_cells, decoded_values}

-- what stands among the first elements stands at the same place among all
pub taken_at : {X : Type 0} (count : ℕ) (xs : List X) (k : ℕ) (d : X) → k < count → slice_index_or (take count xs) k d ≡ slice_index_or xs k d
taken_at zero xs k d below = absurd (omega (arith, below))
taken_at (suc count) [] k d below = refl
taken_at (suc count) (x ∷ xs) zero d below = refl
taken_at (suc count) (x ∷ xs) (suc k) d below = taken_at count xs k d (omega (arith, below))

pub taken_number : (count : ℕ) (values : List ℤ) (k : ℕ) → k < count → number_at (take count values) k ≡ number_at values k
unfolding number_at
taken_number count values k below = taken_at count values k (pos 0) below

map_same : {X Y : Type 0} (f g : X → Y) (P : X → Type 0) (xs : List X) → All P xs → ((x : X) → P x → f x ≡ g x) → map f xs ≡ map g xs
map_same f g P [] all same = refl
map_same f g P (x ∷ xs) all same =
    ap (λ y. y ∷ map f xs) (same x (All-head P x xs all)) ∙ ap (λ ys. g x ∷ ys) (map_same f g P xs (All-tail P x xs all) same)

-- cells whose variables are among the first ones have the numbers that these say
pub taken_cells : (count : ℕ) (m : MapState) (values : List ℤ) → All (λ x. x < count) m.cells → cell_numbers m (take count values) ≡ cell_numbers m values
unfolding numbers_of_vars
taken_cells count m values below =
    map_same (number_at (take count values)) (number_at values) (λ x. x < count) m.cells below (λ x low. taken_number count values x low)

taken_goal : (count : ℕ) (goal : Option (Sense × ℕ)) (values : List ℤ) → MatchOption goal (Unit {0}) (λ one. one.1 < count) → option_map (λ one. number_at (take count values) one.1) goal ≡ option_map (λ one. number_at values one.1) goal
taken_goal count None values below = refl
taken_goal count (Some one) values below = ap (λ n. Some n) (taken_number count values one.1 below)

-- and so has the objective
pub taken_objective : (count : ℕ) (m : MapState) (values : List ℤ) → MatchOption m.objective (Unit {0}) (λ one. one.1 < count) → objective_number m (take count values) ≡ objective_number m values
unfolding objective_number
taken_objective count m values below = taken_goal count m.objective values below

-- the first variables of a layout are those of the flat problem, so that what a map names there it names in the layout
maps_in_layout : (values vars domains : List (List ℤ)) (m : MapState) → take (length vars) domains ≡ vars → MapsCells values vars m → MapsCells values domains m
maps_in_layout values vars domains m first h = record {
  cells = record {
    there = All-weaker (λ x. x < length vars) (λ x. x < length domains) (λ x low. omega (arith, low, long)) m.cells h.cells.there;
    domains =
        sym (map_same (λ x. slice_index_or vars x []) (λ x. slice_index_or domains x []) (λ x. x < length vars) m.cells h.cells.there
        (λ x low. ap (λ xs. slice_index_or xs x []) (sym first) ∙ taken_at (length vars) domains x [] low)) ∙ h.cells.domains;
  };
  objective = goal_below m.objective h.objective;
}
  where
    taken_long : {X : Type 0} (n : ℕ) (xs : List X) → length (take n xs) ≤ length xs
    taken_long zero xs = omega arith
    taken_long (suc n) [] = omega arith
    taken_long (suc n) (x ∷ xs) = omega (arith, taken_long n xs)

    long : length vars ≤ length domains
    long = subst (λ n. n ≤ length domains) (ap length first) (taken_long (length vars) domains)

    goal_below : (goal : Option (Sense × ℕ)) → MatchOption goal (Unit {0}) (λ one. one.1 < length vars) → MatchOption goal (Unit {0}) (λ one. one.1 < length domains)
    goal_below None low = tt
    goal_below (Some one) low = omega (arith, low, long)

-- A ground that keeps what another keeps, a flat problem that stands for it, and its encoding: the formula stands for the
-- first ground.
pub stages_compose : (old new : GroundState) (flat : FlatState) (m : MapState) (layout : List VariableLiterals) (f : Cnf) → KeepsSolutions old new → StandsFor new flat m → IsEncoding flat layout f → IsFormulaOf old layout m f
stages_compose old new flat m layout f keeps stands encodes = record {
  from_new = encodes.from_new;
  is_layout = encodes.is_layout;
  is_map = record {
    maps = subst (λ values. MapsCells values (map (λ e. e.domain) layout) m) (ap (λ cs. map (λ one. one.values) cs) keeps.cells)
        (maps_in_layout (map (λ one. one.values) new.cells) flat.vars (map (λ e. e.domain) layout) m encodes.domains stands.is_map.maps);
    senses = stands.is_map.senses ∙ keeps.senses;
  };
  consistent = encodes.consistent;
  sound = λ s met. (keeps.same (decoded_cells layout m s)).0 (kept s met);
  complete = λ cells solution. given_by cells solution (stands.extends cells ((keeps.same cells).1 solution));
  objective = driven;
}
  where
    count : ℕ
    count = length flat.vars

    kept : (s : ℕ → Bool) → Satisfies s f.clauses → IsGroundSolution new (decoded_cells layout m s)
    kept s met =
        subst (IsGroundSolution new) (taken_cells count m (decoded_values layout s) stands.is_map.maps.cells.there)
        (stands.restricts (take count (decoded_values layout s)) (encodes.sound s met))

    driven : (s : ℕ → Bool) → Satisfies s f.clauses → objective_number m (decoded_values layout s) ≡ ground_objective old (decoded_cells layout m s)
    driven s met =
        sym (taken_objective count m (decoded_values layout s) stands.is_map.maps.objective)
        ∙ stands.objective (take count (decoded_values layout s)) (encodes.sound s met)
        ∙ ap (λ cells. ground_objective new cells) (taken_cells count m (decoded_values layout s) stands.is_map.maps.cells.there)
        ∙ keeps.objective (decoded_cells layout m s) ((keeps.same (decoded_cells layout m s)).0 (kept s met))

    given_by : (cells : List ℤ) → IsGroundSolution old cells → IsMetBy flat m cells → AreGiven layout m f.clauses cells
    given_by cells solution by =
        let found = encodes.complete by.values by.meets in
        let same : decoded_cells layout m found.assignment ≡ cells =
        sym (taken_cells count m (decoded_values layout found.assignment) stands.is_map.maps.cells.there)
        ∙ ap (λ values. cell_numbers m values) found.values_are ∙ by.gives in
        record {
          assignment = found.assignment;
          satisfies = found.satisfies;
          gives = same;
        }

-- what keeps the solutions of a ground that keeps those of another keeps these
pub keeps_through : (first second third : GroundState) → KeepsSolutions first second → KeepsSolutions second third → KeepsSolutions first third
keeps_through first second third h g = record {
  cells = g.cells ∙ h.cells;
  same = λ values. (
    λ kept. (h.same values).0 ((g.same values).0 kept),
    λ kept. (g.same values).1 ((h.same values).1 kept),
  );
  senses = g.senses ∙ h.senses;
  objective = λ values kept. g.objective values ((h.same values).1 kept) ∙ h.objective values kept;
}
