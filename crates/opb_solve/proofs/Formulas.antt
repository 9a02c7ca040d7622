-- The formula of the flat problem that stands for a pseudo-Boolean one.
use Rattle.std.proofs.Common.{◌≡◌, ℕ, zero, suc, ◌+◌, ◌<◌, ◌≤◌, ℤ, pos, Bool, List, [], ◌∷◌, ◌++◌, length, map, take, drop, get_or, Option, Some, None, refl, sym, ap, subst, ◌∙◌, arith, slice_index_or}
use Rattle.std.specs.Prelude.{MatchOption, option_map}
use Rattle.std.specs.List.{All, AllZip, Contains, range_with_len}
use Rattle.std.proofs.lemmas.List.{get_or-map, length-map, take-append-drop}
use Rattle.std.proofs.lemmas.List.FromFn.{fill_by_all, get_or-range_with_len, length-range_with_len}
use Rattle.std.proofs.Math.Seq.{take-append_seam}
use Rattle.cnf_core.specs.Clauses.{Satisfies}
use Rattle.cnf_core.specs.Formula.{Cnf}
use Rattle.enc_var.specs.Decoding.{VariableLiterals}
use Rattle.enc_var.specs.Layouts.{AreGiven, IsEncoding, decoded_cells, decoded_values}
use Rattle.ep_base.specs.declared.operators.Sense.{Sense}
use Rattle.ep_flat.specs.Cons.{number_at, numbers_of_vars}
use Rattle.ep_flat.specs.Flats.{FlatState, MapState, MapsCells, Meets, objective_number}
use Rattle.opb_solve.proofs.Agreeing.{long_numbers_in, numbers_fit, same_solution, truths_again}
use Rattle.opb_solve.proofs.SameVariables.{same_variables}
use Rattle.opb_solve.specs.Meant.{AreSolved, IsMapTo, IsOpbFormula, numbers_in}
use Rattle.opb_text.specs.Contents.{OpbContent}
use Rattle.opb_text.specs.Flats.{HasValueOf, StandsFor, truth_domains, truth_numbers, truths_of}
use Rattle.opb_text.specs.Solutions.{IsOpbSolution, terms_total}
use Rattle.opb_text.specs.Weights.{AreVariablesOf}
use Rattle.opb_text.specs.declared.content.OpbTerm.{OpbTerm}

-- ---- the first numbers

taken_at : {X : Type 0} (count : ℕ) (xs : List X) (k : ℕ) (d : X) → k < count → get_or (take count xs) k d ≡ get_or xs k d
taken_at zero xs k d below = absurd (omega (arith, below))
taken_at (suc count) [] k d below = refl
taken_at (suc count) (x ∷ xs) zero d below = refl
taken_at (suc count) (x ∷ xs) (suc k) d below = taken_at count xs k d (omega (arith, below))

taken_long : {X : Type 0} (n : ℕ) (xs : List X) → n ≤ length xs → length (take n xs) ≡ n
taken_long zero xs low = refl
taken_long (suc n) [] low = absurd (omega (arith, low))
taken_long (suc n) (x ∷ xs) low = ap suc (taken_long n xs (omega (arith, low)))

long_taken : {X : Type 0} (n : ℕ) (xs : List X) → length (take n xs) ≤ length xs
long_taken zero xs = omega arith
long_taken (suc n) [] = omega arith
long_taken (suc n) (x ∷ xs) = omega (arith, long_taken n xs)

taken_twice : {X : Type 0} (n m : ℕ) (xs : List X) → n ≤ m → take n (take m xs) ≡ take n xs
taken_twice zero m xs low = refl
taken_twice (suc n) zero xs low = absurd (omega (arith, low))
taken_twice (suc n) (suc m) [] low = refl
taken_twice (suc n) (suc m) (x ∷ xs) low = ap (λ ys. x ∷ ys) (taken_twice n m xs (omega (arith, low)))

-- what stands at the first places are the first elements
first_places : {X : Type 0} (xs : List X) (n : ℕ) (d : X) → n ≤ length xs → map (λ k. get_or xs k d) (range_with_len 0 n) ≡ take n xs
first_places xs n d low = sym (fill_by_all (λ k. get_or xs k d) (take n xs) n d (taken_long n xs low) (λ k below. taken_at n xs k d below))

pub first_numbers : (values : List ℤ) (n : ℕ) → n ≤ length values → numbers_of_vars values (range_with_len 0 n) ≡ take n values
unfolding numbers_of_vars number_at
first_numbers values n low = first_places values n (pos 0) low

number_taken : (n : ℕ) (values : List ℤ) (x : ℕ) → x < n → number_at (take n values) x ≡ number_at values x
unfolding number_at
number_taken n values x below = taken_at n values x (pos 0) below

zip_taken : (n : ℕ) (domains : List (List ℤ)) (values : List ℤ) → AllZip Contains domains values → AllZip Contains (take n domains) (take n values)
zip_taken zero domains values zip = tt
zip_taken (suc n) [] [] zip = tt
zip_taken (suc n) [] (v ∷ values) zip = absurd zip
zip_taken (suc n) (d ∷ domains) [] zip = absurd zip
zip_taken (suc n) (d ∷ domains) (v ∷ values) zip = (zip.0, zip_taken n domains values zip.1)

zip_long : (domains : List (List ℤ)) (values : List ℤ) → AllZip Contains domains values → length values ≡ length domains
zip_long [] [] zip = refl
zip_long [] (v ∷ values) zip = absurd zip
zip_long (d ∷ domains) [] zip = absurd zip
zip_long (d ∷ domains) (v ∷ values) zip = ap suc (zip_long domains values zip.1)

-- ---- the parts of the promise

-- what is put together: the flat problem, its formula with the layout, and the map
record Parts (content : OpbContent) (vars : List ℕ) (flat : FlatState) (layout : List VariableLiterals) (f : Cnf) (goal : Option ℕ) (m : MapState) : Type 0 where
  pub stands : StandsFor content flat goal
  pub first : take (length vars) flat.vars ≡ truth_domains vars
  pub few : length vars ≤ length flat.vars
  pub encodes : IsEncoding flat layout f
  pub mapped : IsMapTo (length vars) goal m

long_domains : (vars : List ℕ) → length (truth_domains vars) ≡ length vars
long_domains vars = length-map vars (λ (x : ℕ). truth_numbers)

few_of : (vars : List ℕ) (domains : List (List ℤ)) → take (length vars) domains ≡ truth_domains vars → length vars ≤ length domains
few_of vars domains first =
    let taken : length (take (length vars) domains) ≡ length vars = ap length first ∙ long_domains vars in
    let most = long_taken (length vars) domains in
    omega (arith, taken, most)

-- numbers that an assignment gives the flat problem, and those of the variables among them
record Decoded (content : OpbContent) (vars : List ℕ) (flat : FlatState) (layout : List VariableLiterals) (m : MapState) (s : ℕ → Bool) : Type 0 where
  pub values : List ℤ
  pub more : List ℤ
  pub meets : Meets flat (values ++ more)
  pub long : length values ≡ length vars
  pub fit : AllZip Contains (truth_domains vars) values
  pub cells : decoded_cells layout m s ≡ values
  pub numbers : (x : ℕ) → x < length flat.vars → number_at (decoded_values layout s) x ≡ number_at (values ++ more) x

decoded_by : (content : OpbContent) (vars : List ℕ) (flat : FlatState) (layout : List VariableLiterals) (f : Cnf) (goal : Option ℕ) (m : MapState) (s : ℕ → Bool)
    → Parts content vars flat layout f goal m → Satisfies s f.clauses → Decoded content vars flat layout m s
decoded_by content vars flat layout f goal m s parts met =
    let all : List ℤ = decoded_values layout s in
    let n : ℕ = length vars in
    let most : ℕ = length flat.vars in
    let own : List ℤ = take most all in
    let meets : Meets flat own = parts.encodes.sound s met in
    let long_own : length own ≡ most = zip_long flat.vars own meets.domains in
    let long_all : most ≤ length all = let b = long_taken most all in omega (arith, b, long_own) in
    let whole : take n own ++ drop n own ≡ own = take-append-drop n own in
    let first : take n own ≡ take n all = taken_twice n most all parts.few in
    record {
      values = take n own;
      more = drop n own;
      meets = subst (Meets flat) (sym whole) meets;
      long = taken_long n own (let b = parts.few in omega (arith, b, long_own));
      fit = subst (λ (ds : List (List ℤ)). AllZip Contains ds (take n own)) parts.first (zip_taken n flat.vars own meets.domains);
      cells = ap (numbers_of_vars all) parts.mapped.cells ∙ first_numbers all n (let b = parts.few in omega (arith, b, long_all)) ∙ sym first;
      numbers = λ x below. sym (number_taken most all x below) ∙ ap (λ (vs : List ℤ). number_at vs x) (sym whole);
    }

-- the number of the objective's variable
driven : (objective : Option (List OpbTerm)) (goal : Option ℕ) (flat : FlatState) (vars : List ℕ) (all values more : List ℤ)
    → MatchOption objective (goal ≡ None) (λ terms. (x : ℕ) × (goal ≡ Some x) × HasValueOf terms vars flat x) → length values ≡ length vars → Meets flat (values ++ more)
    → ((x : ℕ) → x < length flat.vars → number_at all x ≡ number_at (values ++ more) x)
    → option_map (λ (one : Sense × ℕ). number_at all one.1) (option_map (λ x. (Sense.Minimising, x)) goal) ≡ option_map (λ terms. terms_total (truths_of vars values) terms) objective
driven None goal flat vars all values more none long meets same =
    ap (λ (o : Option ℕ). option_map (λ (one : Sense × ℕ). number_at all one.1) (option_map (λ x. (Sense.Minimising, x)) o)) none
driven (Some terms) goal flat vars all values more some long meets same =
    ap (λ (o : Option ℕ). option_map (λ (one : Sense × ℕ). number_at all one.1) (option_map (λ x. (Sense.Minimising, x)) o)) some.1
    ∙ ap (λ (n : ℤ). Some n) (same some.0 some.2.there ∙ some.2.value values more long meets)

solved : (content : OpbContent) (vars : List ℕ) (flat : FlatState) (layout : List VariableLiterals) (f : Cnf) (goal : Option ℕ) (m : MapState) (s : ℕ → Bool)
    → (parts : Parts content vars flat layout f goal m) → parts.stands.vars ≡ vars → Satisfies s f.clauses → AreSolved content vars (decoded_cells layout m s) (objective_number m (decoded_values layout s))
unfolding objective_number
solved content vars flat layout f goal m s parts same met =
    let d = decoded_by content vars flat layout f goal m s parts met in
    let objective = subst (λ (vs : List ℕ). MatchOption content.objective (goal ≡ None) (λ terms. (x : ℕ) × (goal ≡ Some x) × HasValueOf terms vs flat x)) same parts.stands.objective in
    let solution : IsOpbSolution content (truths_of vars d.values) =
    subst (λ (vs : List ℕ). IsOpbSolution content (truths_of vs d.values)) same
    ((parts.stands.solutions d.values (subst (λ (vs : List ℕ). AllZip Contains (truth_domains vs) d.values) (sym same) d.fit)).0 (d.more, d.meets)) in
    subst (λ (numbers : List ℤ). AreSolved content vars numbers (objective_number m (decoded_values layout s))) (sym d.cells) (record {
      fit = d.fit;
      solution = solution;
      valued =
          ap (option_map (λ (one : Sense × ℕ). number_at (decoded_values layout s) one.1)) parts.mapped.objective
          ∙ driven content.objective goal flat vars (decoded_values layout s) d.values d.more objective d.long d.meets d.numbers;
    })

given : (content : OpbContent) (vars : List ℕ) (flat : FlatState) (layout : List VariableLiterals) (f : Cnf) (goal : Option ℕ) (m : MapState) (truths : ℕ → Bool)
    → (parts : Parts content vars flat layout f goal m) → parts.stands.vars ≡ vars → IsOpbSolution content truths → AreGiven layout m f.clauses (numbers_in vars truths)
given content vars flat layout f goal m truths parts same s =
    let numbers : List ℤ = numbers_in vars truths in
    let n : ℕ = length vars in
    let most : ℕ = length flat.vars in
    let are : AreVariablesOf content vars = subst (AreVariablesOf content) same parts.stands.variables in
    let own : IsOpbSolution content (truths_of vars numbers) = same_solution content vars truths (truths_of vars numbers) are (λ var there. sym (truths_again vars truths var there)) s in
    let found = (parts.stands.solutions numbers (subst (λ (vs : List ℕ). AllZip Contains (truth_domains vs) numbers) (sym same) (numbers_fit vars truths))).1
    (subst (λ (vs : List ℕ). IsOpbSolution content (truths_of vs numbers)) (sym same) own) in
    let decoded = parts.encodes.complete (numbers ++ found.0) found.1 in
    let all : List ℤ = decoded_values layout decoded.assignment in
    let long_own : length (numbers ++ found.0) ≡ most = zip_long flat.vars (numbers ++ found.0) found.1.domains in
    let long_all : most ≤ length all = let b = long_taken most all in let l = ap length decoded.values_are in omega (arith, b, l, long_own) in
    record {
      assignment = decoded.assignment;
      satisfies = decoded.satisfies;
      gives =
          ap (numbers_of_vars all) parts.mapped.cells ∙ first_numbers all n (let b = parts.few in omega (arith, b, long_all))
          ∙ sym (taken_twice n most all parts.few) ∙ ap (take n) decoded.values_are
          ∙ ap (λ (k : ℕ). take k (numbers ++ found.0)) (sym (long_numbers_in vars truths)) ∙ take-append_seam numbers found.0;
    }

-- ---- the map

below_all : (n most : ℕ) → n ≤ most → All (λ x. x < most) (range_with_len 0 n)
below_all n most low = λ k d inside.
    let there : k < n = let l = length-range_with_len 0 n in omega (arith, inside, l) in
    let is = get_or-range_with_len 0 n k d there in
    omega (arith, is, there, low)

objective_below : (objective : Option (List OpbTerm)) (goal : Option ℕ) (flat : FlatState) (vars : List ℕ) (most : ℕ)
    → MatchOption objective (goal ≡ None) (λ terms. (x : ℕ) × (goal ≡ Some x) × HasValueOf terms vars flat x) → length flat.vars ≤ most
    → MatchOption (option_map (λ x. (Sense.Minimising, x)) goal) (Unit {0}) (λ (one : Sense × ℕ). one.1 < most)
objective_below None goal flat vars most none low =
    subst (λ (o : Option ℕ). MatchOption (option_map (λ x. (Sense.Minimising, x)) o) (Unit {0}) (λ (one : Sense × ℕ). one.1 < most)) (sym none) tt
objective_below (Some terms) goal flat vars most some low =
    subst (λ (o : Option ℕ). MatchOption (option_map (λ x. (Sense.Minimising, x)) o) (Unit {0}) (λ (one : Sense × ℕ). one.1 < most)) (sym some.1)
    (let there = some.2.there in omega (arith, there, low))

senses_are : (objective : Option (List OpbTerm)) (goal : Option ℕ) (flat : FlatState) (vars : List ℕ)
    → MatchOption objective (goal ≡ None) (λ terms. (x : ℕ) × (goal ≡ Some x) × HasValueOf terms vars flat x)
    → option_map (λ (one : Sense × ℕ). one.0) (option_map (λ x. (Sense.Minimising, x)) goal) ≡ option_map (λ terms. Sense.Minimising) objective
senses_are None goal flat vars none = ap (λ (o : Option ℕ). option_map (λ (one : Sense × ℕ). one.0) (option_map (λ x. (Sense.Minimising, x)) o)) none
senses_are (Some terms) goal flat vars some = ap (λ (o : Option ℕ). option_map (λ (one : Sense × ℕ). one.0) (option_map (λ x. (Sense.Minimising, x)) o)) some.1

maps_cells : (content : OpbContent) (vars : List ℕ) (flat : FlatState) (layout : List VariableLiterals) (f : Cnf) (goal : Option ℕ) (m : MapState)
    → Parts content vars flat layout f goal m → MapsCells (truth_domains vars) (map (λ e. e.domain) layout) m
maps_cells content vars flat layout f goal m parts =
    let domains : List (List ℤ) = map (λ e. e.domain) layout in
    let n : ℕ = length vars in
    let most : ℕ = length flat.vars in
    let long : most ≤ length domains = let b = long_taken most domains in let l = ap length parts.encodes.domains in omega (arith, b, l) in
    let low : n ≤ length domains = let b = parts.few in omega (arith, b, long) in
    record {
      cells = record {
        there = subst (All (λ x. x < length domains)) (sym parts.mapped.cells) (below_all n (length domains) low);
        domains =
            ap (map (λ x. slice_index_or domains x [])) parts.mapped.cells ∙ first_places domains n [] low
            ∙ sym (taken_twice n most domains parts.few) ∙ ap (take n) parts.encodes.domains ∙ parts.first;
      };
      objective = subst (λ (o : Option (Sense × ℕ)). MatchOption o (Unit {0}) (λ one. one.1 < length domains)) (sym parts.mapped.objective)
          (objective_below content.objective goal flat parts.stands.vars (length domains) parts.stands.objective long);
    }

-- the domains of the first flat variables
pub first_domains : (content : OpbContent) (vars : List ℕ) (flat : FlatState) (goal : Option ℕ) → AreVariablesOf content vars → StandsFor content flat goal → take (length vars) flat.vars ≡ truth_domains vars
first_domains content vars flat goal are stands =
    subst (λ (vs : List ℕ). take (length vs) flat.vars ≡ truth_domains vs) (same_variables content stands.vars vars stands.variables are) stands.first

-- each of them is that of a truth value
pub domain_there : (vars : List ℕ) (domains : List (List ℤ)) (k : ℕ) (d : List ℤ) → take (length vars) domains ≡ truth_domains vars → k < length vars → get_or domains k d ≡ truth_numbers
domain_there vars domains k d first low = sym (taken_at (length vars) domains k d low) ∙ ap (λ (ds : List (List ℤ)). get_or ds k d) first ∙ get_or-map (λ (x : ℕ). truth_numbers) vars k 0 d low

-- the places below a number, and one more
range_last : (a n j : ℕ) → a + n ≡ j → range_with_len a (suc n) ≡ range_with_len a n ++ j ∷ []
range_last a zero j e = let same : a ≡ j = omega (arith, e) in ap (λ (k : ℕ). k ∷ []) same
range_last a (suc n) j e = ap (λ (ks : List ℕ). a ∷ ks) (range_last (a + 1) n j (omega (arith, e)))

pub range_more : (n : ℕ) → range_with_len 0 n ++ n ∷ [] ≡ range_with_len 0 (n + 1)
range_more n = let on : n + 1 ≡ suc n = omega arith in sym (ap (range_with_len 0) on ∙ range_last 0 n n (omega arith))

-- ---- the whole

pub formula_is : (content : OpbContent) (vars : List ℕ) (flat : FlatState) (layout : List VariableLiterals) (f : Cnf) (goal : Option ℕ) (m : MapState)
    → AreVariablesOf content vars → StandsFor content flat goal → IsEncoding flat layout f → IsMapTo (length vars) goal m → IsOpbFormula content vars layout m f
formula_is content vars flat layout f goal m are stands encodes mapped =
    let same : stands.vars ≡ vars = same_variables content stands.vars vars stands.variables are in
    let first : take (length vars) flat.vars ≡ truth_domains vars = first_domains content vars flat goal are stands in
    let parts : Parts content vars flat layout f goal m = record { stands = stands; first = first; few = few_of vars flat.vars first; encodes = encodes; mapped = mapped } in
    record {
      is_layout = encodes.is_layout;
      maps = maps_cells content vars flat layout f goal m parts;
      places = mapped.cells;
      senses = ap (option_map (λ (one : Sense × ℕ). one.0)) mapped.objective ∙ senses_are content.objective goal flat stands.vars stands.objective;
      consistent = encodes.consistent;
      sound = λ s met. solved content vars flat layout f goal m s parts same met;
      complete = λ truths s. given content vars flat layout f goal m truths parts same s;
    }
