-- What is built for all terms, with the clauses, stands for the ground.
use Rattle.std.specs.Prelude.{◌≡◌, ℕ, suc, ◌+◌, ◌≤◌, ◌<◌, Bool, true, false, List, [], ◌∷◌, ◌++◌, length, map, ℤ, pos, Option, Some, None, MatchOption, IsSome, IsTrue, option_map, option_and_then, option_to_list, slice_index_or, nat_lt, refl}
use Rattle.std.proofs.Common.{ap, arith, get_or, subst, sym, take, ◌∙◌}
use Rattle.std.specs.List.{All, AllZip, Contains}
use Rattle.std.proofs.lemmas.List.{get_or-map, get_or_append_left, get_or_at, get_or_default, length-map, length-take-le, length_push, map_more, same_lists}
use Rattle.std.proofs.lemmas.List.Elements.{All-append, All-from_get_or, All-head, All-map, All-nil}
use Rattle.ep_base.specs.Reads.{IsWithinNumbers}
use Rattle.ep_base.specs.declared.operators.Sense.{Sense}
use Rattle.ep_flat.specs.Cons.{FlatCon, con_holds, number_at, numbers_of_vars}
use Rattle.ep_flat.specs.Flats.{FlatState, HasSmallCoefficients, MapState, Meets, NamesBelow, objective_number}
use Rattle.ep_flatten.specs.Building.{AreMarks, Built, HasTops, IsBuilt, IsMarked, flat_of, goal_terms}
use Rattle.ep_flatten.specs.Flattening.{IsMetBy, StandsFor}
use Rattle.ep_flatten.specs.Forms.{TermForm}
use Rattle.ep_flatten.specs.Saying.{variable_at}
use Rattle.ep_flatten.proofs.Growing.{cells_of}
use Rattle.ep_flatten.proofs.Unrolled.{all_left, all_right}
use Rattle.ep_ground.specs.Bounds.{IsBounded}
use Rattle.ep_ground.specs.Grounds.{AreCellValues, GroundState, HasObjective, IsGroundSolution, IsWellFormed, ground_objective, named_terms}
use Rattle.ep_ground.specs.Terms.{term_value}
use Rattle.ep_ground.specs.declared.cells.Cell.{Cell}

both_all : {P Q R : ℕ → Type 0} (xs : List ℕ) → ((x : ℕ) → P x → Q x → R x) → All P xs → All Q xs → All R xs
both_all xs f h k = λ i d l. f (slice_index_or xs i d) (h i d l) (k i d l)

-- what is known of a named term
record IsNamed (g : GroundState) (b : Built) (t : ℕ) : Type 0 where
  within : variable_at b.places t < length b.vars
  tells : (values : List ℤ) → Meets (flat_of b) values → term_value g.nodes (numbers_of_vars values b.cells) t ≡ Some (number_at values (variable_at b.places t))

named : (g : GroundState) (forms : List TermForm) (asserted marks : List Bool) (b : Built) → IsBuilt g marks (length g.nodes) b → AreMarks g forms asserted marks → IsWellFormed g → All (IsNamed g b) (goal_terms g)
unfolding named_terms goal_terms
named g forms asserted marks b h are formed =
    let goals = option_to_list (option_map (λ goal. goal.1) g.objective) in
    both_all {P = IsMarked marks} {Q = λ t. t < length g.nodes} {R = IsNamed g b} goals
    (λ t m l. record { within = h.within t l m; tells = λ values meets. h.tells values meets t l m }) are.goal (all_right (λ t. t < length g.nodes) g.clauses goals formed.terms)

named_goal : (g : GroundState) (b : Built) → All (IsNamed g b) (goal_terms g) → MatchOption g.objective (Unit {0}) (λ goal. IsNamed g b goal.1)
unfolding goal_terms
named_goal g b h = by g.objective h
  where
    by : (o : Option (Sense × ℕ)) → All (IsNamed g b) (option_to_list (option_map (λ goal. goal.1) o)) → MatchOption o (Unit {0}) (λ goal. IsNamed g b goal.1)
    by None k = tt
    by (Some goal) k = All-head (IsNamed g b) goal.1 [] k

abbrev goal_of : List ℕ → Option (Sense × ℕ) → Option (Sense × ℕ)
goal_of places o = option_map (λ goal. (goal.0, variable_at places goal.1)) o

goal_within : (g : GroundState) (b : Built) (o : Option (Sense × ℕ)) → MatchOption o (Unit {0}) (λ goal. IsNamed g b goal.1) → MatchOption (goal_of b.places o) (Unit {0}) (λ goal. goal.1 < length b.vars)
goal_within g b None h = tt
goal_within g b (Some goal) h = h.within

goal_sense : (places : List ℕ) (o : Option (Sense × ℕ)) → option_map (λ goal. goal.0) (goal_of places o) ≡ option_map (λ goal. goal.0) o
goal_sense places None = refl
goal_sense places (Some goal) = refl

goal_number : (g : GroundState) (b : Built) (values : List ℤ) (o : Option (Sense × ℕ)) → Meets (flat_of b) values → MatchOption o (Unit {0}) (λ goal. IsNamed g b goal.1)
    → option_map (λ goal. number_at values goal.1) (goal_of b.places o) ≡ option_and_then (λ goal. term_value g.nodes (numbers_of_vars values b.cells) goal.1) o
goal_number g b values None meets h = refl
goal_number g b values (Some goal) meets h = sym (h.tells values meets)

goal_there : (g : GroundState) (b : Built) (values : List ℤ) (o : Option (Sense × ℕ)) → Meets (flat_of b) values → MatchOption o (Unit {0}) (λ goal. IsNamed g b goal.1)
    → MatchOption o (Unit {0}) (λ goal. IsSome (term_value g.nodes (numbers_of_vars values b.cells) goal.1))
goal_there g b values None meets h = tt
goal_there g b values (Some goal) meets h = subst IsSome (sym (h.tells values meets)) refl

-- the flat problem with the constraints of the terms that have to be true
abbrev whole_flat : Built → List FlatCon → FlatState
whole_flat b tops = record { vars = b.vars; cons = b.cons ++ tops }

abbrev map_of : GroundState → Built → MapState
map_of g b = record { cells = b.cells; objective = goal_of b.places g.objective }

meets_part : (b : Built) (tops : List FlatCon) (values : List ℤ) → Meets (whole_flat b tops) values → Meets (flat_of b) values
meets_part b tops values h = record { domains = h.domains; cons = all_left (λ con. IsTrue (con_holds values con)) b.cons tops h.cons }

values_extend : (g : GroundState) (forms : List TermForm) (asserted marks : List Bool) (b : Built) (tops : List FlatCon) → IsBuilt g marks (length g.nodes) b → AreMarks g forms asserted marks → HasTops g asserted b (length g.nodes) tops
    → (cells : List ℤ) → IsGroundSolution g cells → IsMetBy (whole_flat b tops) (map_of g b) cells
values_extend g forms asserted marks b tops h are top cells s =
    let old = h.extends cells s.cells in
    record {
      values = old.values;
      meets = record {
        domains = old.meets.domains;
        cons = All-append (λ con. IsTrue (con_holds old.values con)) b.cons tops old.meets.cons
            (top.back old.values old.meets (λ t m. ap (λ xs. term_value g.nodes xs t) old.gives ∙ are.forced t m cells s.clauses));
      };
      gives = old.gives;
    }

values_restrict : (g : GroundState) (forms : List TermForm) (asserted marks : List Bool) (b : Built) (tops : List FlatCon) → IsBuilt g marks (length g.nodes) b → AreMarks g forms asserted marks → IsWellFormed g → HasTops g asserted b (length g.nodes) tops
    → All (IsNamed g b) (goal_terms g) → (values : List ℤ) → Meets (whole_flat b tops) values → IsGroundSolution g (numbers_of_vars values b.cells)
unfolding HasObjective named_terms
values_restrict g forms asserted marks b tops h are formed top known values meets =
    let part = meets_part b tops values meets in
    let goals = option_to_list (option_map (λ goal. goal.1) g.objective) in
    record {
      cells = cells_of g.cells b.cells b.vars values meets.domains h.cells h.domains;
      clauses = both_all {P = IsMarked asserted} {Q = λ t. t < length g.nodes} {R = λ t. term_value g.nodes (numbers_of_vars values b.cells) t ≡ Some (pos 1)} g.clauses
          (λ t m l. top.forth values part (all_right (λ con. IsTrue (con_holds values con)) b.cons tops meets.cons) t l m)
          are.clauses (all_left (λ t. t < length g.nodes) g.clauses goals formed.terms);
      objective = goal_there g b values g.objective part (named_goal g b known);
    }

stands_whole : (g : GroundState) (forms : List TermForm) (asserted marks : List Bool) (b : Built) (tops : List FlatCon) → IsBuilt g marks (length g.nodes) b → AreMarks g forms asserted marks → IsWellFormed g → HasTops g asserted b (length g.nodes) tops
    → StandsFor g (whole_flat b tops) (map_of g b)
unfolding objective_number ground_objective
stands_whole g forms asserted marks b tops h are formed top =
    let known = named g forms asserted marks b h are formed in
    record {
      is_sound = record {
        names = All-append (NamesBelow (length b.vars)) b.cons tops h.sound.names top.names;
        numbers = h.sound.numbers;
        coefficients = All-append HasSmallCoefficients b.cons tops h.sound.coefficients top.small;
      };
      is_map = record {
        maps = record { cells = record { there = h.cells; domains = h.domains }; objective = goal_within g b g.objective (named_goal g b known) };
        senses = goal_sense b.places g.objective;
      };
      extends = values_extend g forms asserted marks b tops h are top;
      restricts = values_restrict g forms asserted marks b tops h are formed top known;
      objective = λ values meets. goal_number g b values g.objective (meets_part b tops values meets) (named_goal g b known);
    }

-- the same, where the constraints and the map are known to be these
pub stands : (g : GroundState) (forms : List TermForm) (asserted marks : List Bool) (b : Built) (tops cons : List FlatCon) (goal : Option (Sense × ℕ)) → IsBuilt g marks (length g.nodes) b → AreMarks g forms asserted marks → IsWellFormed g
    → HasTops g asserted b (length g.nodes) tops → cons ≡ b.cons ++ tops → goal ≡ option_map (λ goal. (goal.0, variable_at b.places goal.1)) g.objective
    → StandsFor g (record { vars = b.vars; cons = cons }) (record { cells = b.cells; objective = goal })
stands g forms asserted marks b tops cons goal h are formed top e f =
    subst (λ cs. StandsFor g (record { vars = b.vars; cons = cs }) (record { cells = b.cells; objective = goal })) (sym e)
    (subst (λ o. StandsFor g (whole_flat b tops) (record { cells = b.cells; objective = o })) (sym f) (stands_whole g forms asserted marks b tops h are formed top))

-- ---- the beginning

-- the first numbers
abbrev pub Counting : List ℕ → ℕ → Type 0
Counting at n = (length at ≡ n) × ((k : ℕ) → k < n → get_or at k 0 ≡ k)

pub counting_none : Counting [] 0
counting_none = (refl, λ k l. absurd (omega (arith, l)))

less_or_end : {P : Type 0} (k n : ℕ) → k < n + 1 → (k < n → P) → (n ≡ k → P) → P
less_or_end {P} k n l f e = by (nat_lt k n) refl
  where
    by : (b : Bool) → nat_lt k n ≡ b → P
    by true g = f (grind (arith, g))
    by false g = e (grind (arith, g, l))

at_place : (at : List ℕ) (n k : ℕ) → Counting at n → k < n + 1 → get_or (at ++ n ∷ []) k 0 ≡ k
at_place at n k h l =
    less_or_end k n l (λ m. get_or_append_left at (n ∷ []) 0 k (subst (λ j. k < j) (sym h.0) m) ∙ h.1 k m)
    (λ e. get_or_at at n [] 0 k (h.0 ∙ e) ∙ e)

pub counting_more : (at new : List ℕ) (n m : ℕ) → Counting at n → m ≡ n → new ≡ at ++ m ∷ [] → Counting new (n + 1)
counting_more at new n m h same e =
    let f : new ≡ at ++ n ∷ [] = e ∙ ap (λ j. at ++ j ∷ []) same in
    (ap length f ∙ length_push at n ∙ ap (λ j. j + 1) h.0, λ k l. ap (λ xs. get_or xs k 0) f ∙ at_place at n k h l)

-- what the first numbers give of a list is the list
counted : {X : Type 0} (xs : List X) (d : X) (at : List ℕ) → Counting at (length xs) → map (λ k. get_or xs k d) at ≡ xs
counted xs d at h =
    same_lists (map (λ k. get_or xs k d) at) xs (length-map at (λ k. get_or xs k d) ∙ h.0)
    (λ k e l.
    let below : k < length at = subst (λ n. k < n) (length-map at (λ k. get_or xs k d)) l in
    let inside : k < length xs = subst (λ n. k < n) h.0 below in
    get_or-map {X = ℕ} (λ j. get_or xs j d) at k 0 e below ∙ ap (λ j. get_or xs j d) (h.1 k inside) ∙ get_or_default xs k d e inside)

counted_below : (n : ℕ) (at : List ℕ) → Counting at n → All (λ x. x < n) at
counted_below n at h = All-from_get_or (λ x. x < n) at 0 (λ i l. let m : i < n = subst (λ j. i < j) h.0 l in subst (λ x. x < n) (sym (h.1 i m)) m)

cell_length : (cells : List Cell) (xs : List ℤ) → AreCellValues cells xs → length xs ≡ length cells
cell_length [] [] h = refl
cell_length [] (x ∷ xs) h = absurd h
cell_length (one ∷ cells) [] h = absurd h
cell_length (one ∷ cells) (x ∷ xs) h = ap suc (cell_length cells xs h.1)

cell_domains : (cells : List Cell) (xs : List ℤ) → AreCellValues cells xs → AllZip Contains (map (λ one. one.values) cells) xs
cell_domains [] [] h = tt
cell_domains [] (x ∷ xs) h = absurd h
cell_domains (one ∷ cells) [] h = absurd h
cell_domains (one ∷ cells) (x ∷ xs) h = (h.0, cell_domains cells xs h.1)

-- the cells' variables alone
pub begins : (g : GroundState) (marks : List Bool) (vars : List (List ℤ)) (at : List ℕ) → vars ≡ map (λ one. one.values) g.cells → Counting at (length g.cells) → IsBounded g
    → IsBuilt g marks 0 (record { vars = vars; cons = []; places = []; spans = []; cells = at })
unfolding numbers_of_vars number_at
begins g marks vars at e h bounded =
    let long : length vars ≡ length g.cells = ap length e ∙ length-map g.cells (λ one. one.values) in
    let count : Counting at (length vars) = subst (Counting at) (sym long) h in
    record {
      places = refl;
      spans = refl;
      sound = record {
        names = All-nil (NamesBelow (length vars));
        numbers = subst (λ ds. All (λ domain. All IsWithinNumbers domain) ds) (sym e) (All-map (λ domain. All IsWithinNumbers domain) (λ one. one.values) g.cells bounded.cells);
        coefficients = All-nil HasSmallCoefficients;
      };
      cells = counted_below (length vars) at count;
      domains = counted vars [] at count ∙ e;
      within = λ t l _. absurd (omega (arith, l));
      extends = λ xs are. record {
        values = xs;
        meets = record { domains = subst (λ ds. AllZip Contains ds xs) (sym e) (cell_domains g.cells xs are); cons = All-nil (λ con. IsTrue (con_holds xs con)) };
        gives = counted xs (pos 0) at (subst (Counting at) (sym (cell_length g.cells xs are)) h);
      };
      tells = λ values meets t l _. absurd (omega (arith, l));
      ends = λ xs are t l _ n _. absurd (omega (arith, l));
    }

-- one more cell
pub cells_more : (cells : List Cell) (vars new : List (List ℤ)) (k : ℕ) (one : Cell) (domain : List ℤ) → k < length cells → one ≡ get_or cells k one → vars ≡ map (λ c. c.values) (take k cells) → domain ≡ one.values → new ≡ vars ++ domain ∷ [] → new ≡ map (λ c. c.values) (take (k + 1) cells)
cells_more cells vars new k one domain l is was same e =
    e ∙ ap (λ ds. ds ++ domain ∷ []) was ∙ ap (λ d. map (λ c. c.values) (take k cells) ++ d ∷ []) same
    ∙ ap (λ c. map (λ c. c.values) (take k cells) ++ c.values ∷ []) is ∙ sym (map_more (λ c. c.values) cells k one l)

pub cells_count : (cells : List Cell) (vars : List (List ℤ)) (k : ℕ) → k ≤ length cells → vars ≡ map (λ c. c.values) (take k cells) → length vars ≡ k
cells_count cells vars k l e = ap length e ∙ length-map (take k cells) (λ c. c.values) ∙ length-take-le k cells l
