-- What cubes left as an answer over numbers of the cells, and the base of its log.
use Rattle.std.proofs.Common.{◌≡◌, ℕ, ℤ, Bool, true, List, [], ◌∷◌, ◌++◌, length, refl, ap, ◌∙◌, sym, subst, arith, length-append, append_assoc, take, Some, None}
use Rattle.std.specs.Prelude.{All, map}
use Rattle.std.proofs.Math.Seq.{take-append_seam}
use Rattle.std.proofs.lemmas.List.{length-map}
use Rattle.cnf_core.specs.Formula.{Cnf}
use Rattle.cnf_core.specs.Literal.{Literal}
use Rattle.cnf_core.specs.Events.{LogEvent, given, is_given, HasBase}
use Rattle.ep_flat.specs.Cons.{numbers_of_vars}
use Rattle.ep_flat.specs.Flats.{MapState}
use Rattle.enc_var.specs.Decoding.{VariableLiterals}
use Rattle.enc_var.specs.Layouts.{decoded_values}
use Rattle.sat_split.specs.Cubes.{AreCubeVariables, all_given, cube_literals, unit_of}
use Rattle.sat_cubes.specs.Answers.{is_variable_true, IsSatIn, IsUnsat, IsSpentIn}
use Rattle.std.proofs.lemmas.List.Elements.{All-nil, All-cons}
use Rattle.ep_answer.specs.Answered.{FoundCells, solution, optimum, no_solution, unknown}
use Rattle.ep_cubes.specs.Divided.{IsFoundBy, IsRightByCubes}

module _ (layout : List VariableLiterals) (m : MapState) (f : Cnf) (most budget : ℕ) (vars : List ℕ) (are : AreCubeVariables most f.clauses vars) (events : List LogEvent) where
  pub found_sat : (cube : ℕ) (values : List Bool) (cells : List ℤ) → IsSatIn f vars cube budget values events → cells ≡ numbers_of_vars (decoded_values layout (is_variable_true values)) m.cells → IsFoundBy layout m f most budget events (solution cells)
  unfolding IsRightByCubes
  found_sat cube values cells sat is = record {
    vars = vars;
    are = are;
    right = record {
      cube = cube;
      is_cube = sat.is_cube;
      assignment = is_variable_true values;
      satisfies = sat.satisfies;
      lies_in = sat.lies_in;
      gives = sym is;
      none_below = sat.none_below;
      refuted_within = sat.refuted_within;
      joined = sat.joined;
    };
  }

  pub found_none : IsUnsat f vars budget events → IsFoundBy layout m f most budget events no_solution
  unfolding IsRightByCubes
  found_none none = record { vars = vars; are = are; right = none }

  pub found_spent : (cube : ℕ) → IsSpentIn f vars cube budget events → IsFoundBy layout m f most budget events (unknown None)
  unfolding IsRightByCubes
  found_spent cube spent = record { vars = vars; are = are; right = record { cube = cube; spent = spent } }

all_are_given : (clauses : List (List Literal)) → All (λ e. is_given e ≡ true) (all_given clauses)
all_are_given [] = All-nil (λ e. is_given e ≡ true)
all_are_given (clause ∷ clauses) = All-cons (λ e. is_given e ≡ true) (given clause) (all_given clauses) refl (all_are_given clauses)

-- a log that begins with clauses as givens may have them as its base
based : (clauses : List (List Literal)) (rest : List LogEvent) → HasBase (all_given clauses ++ rest) (length clauses)
based clauses rest = record {
  there = omega (arith, length-append (all_given clauses) rest, length-map clauses given);
  givens = subst (All (λ e. is_given e ≡ true)) (sym seam) (all_are_given clauses);
}
  where
    seam : take (length clauses) (all_given clauses ++ rest) ≡ all_given clauses
    seam = ap (λ (n : ℕ). take n (all_given clauses ++ rest)) (sym (length-map clauses given)) ∙ take-append_seam (all_given clauses) rest

pub base_of : (layout : List VariableLiterals) (m : MapState) (f : Cnf) (most budget : ℕ) (events : List LogEvent) (found : FoundCells) → IsFoundBy layout m f most budget events found → HasBase events (length f.clauses)
unfolding IsRightByCubes
base_of layout m f most budget events found by = right found by.vars by.right
  where
    right : (found : FoundCells) (vars : List ℕ) → IsRightByCubes layout m f vars budget events found → HasBase events (length f.clauses)
    right (solution cells) vars is = subst (λ (es : List LogEvent). HasBase es (length f.clauses)) (sym is.joined.events_are) (based f.clauses is.joined.steps)
    right (optimum number cells) vars is = absurd is
    right no_solution vars is = subst (λ (es : List LogEvent). HasBase es (length f.clauses)) (sym is.joined.events_are) (based f.clauses is.joined.steps)
    right (unknown None) vars is =
        subst (λ (es : List LogEvent). HasBase es (length f.clauses))
        (sym (is.spent.events_are ∙ append_assoc (all_given f.clauses) (all_given (map unit_of (cube_literals is.cube vars))) is.spent.steps))
        (based f.clauses (all_given (map unit_of (cube_literals is.cube vars)) ++ is.spent.steps))
    right (unknown (Some best)) vars is = absurd is
