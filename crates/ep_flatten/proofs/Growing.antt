-- What is built stands for one term more.
use Rattle.std.specs.Prelude.{◌≡◌, ℕ, zero, suc, ◌+◌, ◌<◌, Bool, true, false, ◌&&◌, if◌then◌else◌, List, [], ◌∷◌, ◌++◌, length, map, fold, ℤ, pos, ◌≤ℤ◌, Option, Some, None, slice_get, slice_index_or, nat_lt, IsTrue, refl}
use Rattle.std.proofs.Common.{ap, arith, subst, sym, ◌∙◌}
use Rattle.std.proofs.lemmas.Int.{ints}
use Rattle.std.specs.List.{All, AllZip, Contains}
use Rattle.std.specs.Ordering.{int_eq}
use Rattle.std.proofs.lemmas.Bool.{false≢true}
use Rattle.std.proofs.lemmas.Bool.Decides.{Decides-int_eq}
use Rattle.std.proofs.lemmas.List.{get_or_append_left, get_or_at, length-append, length_push}
use Rattle.std.proofs.lemmas.List.Elements.{All-append, All-nil, All-cons, All-head, All-push, All-weaker, Contains-get_or}
use Rattle.std.proofs.lemmas.Option.{get_or_from_slice_get}
use Rattle.ep_base.proofs.Small.{no_some, some_is}
use Rattle.ep_base.specs.Intervals.{Interval, LiesIn, only, IsWithinReach}
use Rattle.ep_base.specs.Reads.{IsWithinNumbers}
use Rattle.ep_flat.specs.Cons.{FlatCon, con_holds, number_at, numbers_of_vars}
use Rattle.ep_flat.specs.Flats.{FlatState, HasSmallCoefficients, IsSoundFlat, Meets, NamesBelow}
use Rattle.ep_ground.specs.Nodes.{GroundNode, constant, cell, coefficients_of, parts_of, undefined}
use Rattle.ep_ground.specs.Terms.{node_value, term_value}
use Rattle.ep_ground.specs.Bounds.{IsBounded, node_reach, reach_at, term_reach}
use Rattle.ep_ground.specs.Grounds.{AreCellValues, GroundState, IsTermReached}
use Rattle.ep_ground.specs.declared.cells.Cell.{Cell}
use Rattle.ep_flatten.specs.Forms.{AreNumbersOf, TermForm, form_parts, form_value}
use Rattle.ep_flatten.specs.Images.{HaveNumbersOf, HoldsImage, domain_at}
use Rattle.ep_flatten.specs.Saying.{SaysForm, variable_at, value_under}
use Rattle.ep_flatten.proofs.FormLaws.{form_lies, form_same}
use Rattle.ep_flatten.specs.Building.{Built, Covers, CoversForm, Extends, HasAll, IsBuilt, IsMarked, IsTermOf, flat_of, span_at}
use Rattle.ep_flatten.proofs.Frames.{at_end, cons_back, cons_stay, domains_more, domains_split, earlier, names_more, numbers_agree}
use Rattle.ep_reach.proofs.Lies.{Lie, node_lies, term_lies}
use Rattle.ep_flatten.proofs.Unrolled.{all_left, all_right, unrolled}

-- ---- lists

map_at : {A B : Type 0} (f : A → B) (xs : List A) (k : ℕ) (d : A) (e : B) → k < length xs → slice_index_or (map f xs) k e ≡ f (slice_index_or xs k d)
map_at f [] k d e h = absurd (omega (arith, h))
map_at f (x ∷ xs) zero d e h = refl
map_at f (x ∷ xs) (suc k) d e h = map_at f xs k d e (omega (arith, h))

-- the number of a variable is of its domain
contained : (vars : List (List ℤ)) (values : List ℤ) (x : ℕ) → AllZip Contains vars values → x < length vars → Contains (slice_index_or vars x []) (number_at values x)
unfolding number_at
contained [] values x h l = absurd (omega (arith, l))
contained (d ∷ vars) [] x h l = absurd h
contained (d ∷ vars) (v ∷ values) zero h l = h.0
contained (d ∷ vars) (v ∷ values) (suc x) h l = contained vars values x h.1 (omega (arith, l))

-- the cells' numbers are of their domains
pub cells_of : (cells : List Cell) (at : List ℕ) (vars : List (List ℤ)) (values : List ℤ) → AllZip Contains vars values → All (λ x. x < length vars) at
    → map (λ x. slice_index_or vars x []) at ≡ map (λ one. one.values) cells → AreCellValues cells (numbers_of_vars values at)
unfolding numbers_of_vars
cells_of [] [] vars values h k e = tt
cells_of [] (x ∷ at) vars values h k e = absurd cc
cells_of (one ∷ cells) [] vars values h k e = absurd cc
cells_of (one ∷ cells) (x ∷ at) vars values h k e =
    let same : slice_index_or vars x [] ≡ one.values = cc in
    let more : map (λ x. slice_index_or vars x []) at ≡ map (λ one. one.values) cells = cc in (
      subst (λ d. Contains d (number_at values x)) same (contained vars values x h (All-head (λ x. x < length vars) x at k)),
      cells_of cells at vars values h (λ k' d l. k (suc k') d (omega (arith, l))) more,
    )

-- domains of variables that are there stay
domains_stay : (vars more : List (List ℤ)) (at : List ℕ) → All (λ x. x < length vars) at → map (λ x. slice_index_or (vars ++ more) x []) at ≡ map (λ x. slice_index_or vars x []) at
domains_stay vars more [] h = refl
domains_stay vars more (x ∷ at) h =
    ap (λ d. d ∷ map (λ x. slice_index_or (vars ++ more) x []) at) (get_or_append_left vars more [] x (All-head (λ x. x < length vars) x at h))
    ∙ ap (λ ds. slice_index_or vars x [] ∷ ds) (domains_stay vars more at (λ k d l. h (suc k) d (omega (arith, l))))

-- ---- one term more

is_end : (t u : ℕ) → u < t + 1 → nat_lt u t ≡ false → t ≡ u
is_end t u l e = grind (arith, e)

-- what holds of the terms before one and of that one
one_more : (P : ℕ → Type 0) (t : ℕ) → ((u : ℕ) → u < t → P u) → P t → (u : ℕ) → u < t + 1 → P u
one_more P t h k u l = by (nat_lt u t) refl
  where
    by : (b : Bool) → nat_lt u t ≡ b → P u
    by true e = h u (grind (arith, e))
    by false e = subst P (is_end t u l e) k

-- the numbers that meet what is built later meet what was built before, with the same numbers of the variables that were there
record GoesBack (b : Built) (values : List ℤ) : Type 0 where
  front : List ℤ
  meets : Meets (flat_of b) front
  same : (x : ℕ) → x < length b.vars → number_at values x ≡ number_at front x

-- what is known of the new term
record Here (g : GroundState) (t : ℕ) (flat : FlatState) (cells : List ℕ) (place : ℕ) (span : Interval) : Type 0 where
  within : place < length flat.vars
  tells : (values : List ℤ) → Meets flat values → term_value g.nodes (numbers_of_vars values cells) t ≡ Some (number_at values place)
  ends : (xs : List ℤ) → AreCellValues g.cells xs → (n : ℤ) → term_value g.nodes xs t ≡ Some n → LiesIn n span

abbrev pub later : Built → List (List ℤ) → List FlatCon → ℕ → Interval → Built
later b more cons place span = record { vars = b.vars ++ more; cons = cons; places = b.places ++ place ∷ []; spans = b.spans ++ span ∷ []; cells = b.cells }

wider : (p : ℕ) (vars more : List (List ℤ)) → p < length vars → p < length (vars ++ more)
wider p vars more l = omega (arith, l, length-append vars more)

further : (g : GroundState) (marks : List Bool) (t : ℕ) (b : Built) (more : List (List ℤ)) (cons : List FlatCon) (place : ℕ) (span : Interval) → IsBuilt g marks t b
    → IsSoundFlat (record { vars = b.vars ++ more; cons = cons })
    → ((xs : List ℤ) → AreCellValues g.cells xs → Extends (record { vars = b.vars ++ more; cons = cons }) b.cells xs)
    → ((values : List ℤ) → Meets (record { vars = b.vars ++ more; cons = cons }) values → GoesBack b values)
    → (IsMarked marks t → Here g t (record { vars = b.vars ++ more; cons = cons }) b.cells place span)
    → IsBuilt g marks (t + 1) (later b more cons place span)
further g marks t b more cons place span h sound extends back here =
    let old_place : (u : ℕ) → u < t → variable_at (b.places ++ place ∷ []) u ≡ variable_at b.places u =
    λ u l. get_or_append_left b.places (place ∷ []) 0 u (subst (λ m. u < m) (sym h.places) l) in
    let new_place : variable_at (b.places ++ place ∷ []) t ≡ place = get_or_at b.places place [] 0 t h.places in
    let old_span : (u : ℕ) → u < t → span_at (b.spans ++ span ∷ []) u ≡ span_at b.spans u =
    λ u l. get_or_append_left b.spans (span ∷ []) (only (pos 0)) u (subst (λ m. u < m) (sym h.spans) l) in
    let new_span : span_at (b.spans ++ span ∷ []) t ≡ span = get_or_at b.spans span [] (only (pos 0)) t h.spans in
    record {
      places = length_push b.places place ∙ ap (λ n. n + 1) h.places;
      spans = length_push b.spans span ∙ ap (λ n. n + 1) h.spans;
      sound = sound;
      cells = All-weaker (λ x. x < length b.vars) (λ x. x < length (b.vars ++ more)) (λ x l. omega (arith, l, length-append b.vars more)) b.cells h.cells;
      domains = domains_stay b.vars more b.cells h.cells ∙ h.domains;
      within = one_more (λ u. IsMarked marks u → variable_at (b.places ++ place ∷ []) u < length (b.vars ++ more)) t
          (λ u l m. subst (λ p. p < length (b.vars ++ more)) (sym (old_place u l)) (wider (variable_at b.places u) b.vars more (h.within u l m)))
          (λ m. subst (λ p. p < length (b.vars ++ more)) (sym new_place) (here m).within);
      extends = extends;
      tells = λ values meets. one_more (λ u. IsMarked marks u → term_value g.nodes (numbers_of_vars values b.cells) u ≡ Some (number_at values (variable_at (b.places ++ place ∷ []) u))) t
          (λ u l m.
          let was = back values meets in
          ap (λ xs. term_value g.nodes xs u) (numbers_agree values was.front b.cells (All-weaker (λ x. x < length b.vars) (λ x. number_at values x ≡ number_at was.front x) was.same b.cells h.cells))
          ∙ h.tells was.front was.meets u l m
          ∙ ap (λ n. Some n) (sym (ap (number_at values) (old_place u l) ∙ was.same (variable_at b.places u) (h.within u l m))))
          (λ m. (here m).tells values meets ∙ ap (λ p. Some (number_at values p)) (sym new_place));
      ends = λ xs are. one_more (λ u. IsMarked marks u → (n : ℤ) → term_value g.nodes xs u ≡ Some n → LiesIn n (span_at (b.spans ++ span ∷ []) u)) t
          (λ u l m n e. subst (λ i. LiesIn n i) (sym (old_span u l)) (h.ends xs are u l m n e))
          (λ m n e. subst (λ i. LiesIn n i) (sym new_span) ((here m).ends xs are n e));
    }

append_none : {X : Type 0} (xs : List X) → xs ++ [] ≡ xs
append_none [] = refl
append_none (x ∷ xs) = ap (λ ys. x ∷ ys) (append_none xs)

-- ---- a term without a variable of its own

abbrev pub without : Built → ℕ → Interval → Built
without b place span = record { vars = b.vars; cons = b.cons; places = b.places ++ place ∷ []; spans = b.spans ++ span ∷ []; cells = b.cells }

reusing : (g : GroundState) (marks : List Bool) (t : ℕ) (b : Built) (place : ℕ) (span : Interval) → IsBuilt g marks t b
    → (IsMarked marks t → Here g t (flat_of b) b.cells place span) → IsBuilt g marks (t + 1) (without b place span)
reusing g marks t b place span h here =
    let same : b.vars ++ [] ≡ b.vars = append_none b.vars in
    subst (λ vars. IsBuilt g marks (t + 1) (record { vars = vars; cons = b.cons; places = b.places ++ place ∷ []; spans = b.spans ++ span ∷ []; cells = b.cells })) same
    (further g marks t b [] b.cons place span h
    (subst (λ vars. IsSoundFlat (record { vars = vars; cons = b.cons })) (sym same) h.sound)
    (λ xs are. subst (λ vars. Extends (record { vars = vars; cons = b.cons }) b.cells xs) (sym same) (h.extends xs are))
    (λ values meets. record { front = values; meets = subst (λ vars. Meets (record { vars = vars; cons = b.cons }) values) same meets; same = λ x l. refl })
    (λ m. subst (λ vars. Here g t (record { vars = vars; cons = b.cons }) b.cells place span) (sym same) (here m)))

-- a term that isn't marked
pub skipped : (g : GroundState) (marks : List Bool) (t : ℕ) (b : Built) (place : ℕ) (span : Interval) → IsBuilt g marks t b → slice_index_or marks t false ≡ false → IsBuilt g marks (t + 1) (without b place span)
skipped g marks t b place span h none = reusing g marks t b place span h (λ m. absurd (false≢true (sym none ∙ m)))

-- ---- what is known of a node's term

-- the values of the marked terms before one
masked : List Bool → ℕ → (ℕ → Option ℤ) → ℕ → Option ℤ
masked marks t value u = if nat_lt u t && slice_index_or marks u false then value u else None

masked_there : (marks : List Bool) (t : ℕ) (value : ℕ → Option ℤ) (u : ℕ) → u < t → IsMarked marks u → masked marks t value u ≡ value u
unfolding masked
masked_there marks t value u l m =
    let below : nat_lt u t ≡ true = grind (arith, l) in
    ap (λ b. if b && slice_index_or marks u false then value u else None) below ∙ ap (λ b. if true && b then value u else None) m

masked_lies : (g : GroundState) (marks : List Bool) (t : ℕ) (b : Built) → IsBuilt g marks t b → (xs : List ℤ) → AreCellValues g.cells xs → Lie (masked marks t (term_value g.nodes xs)) (span_at b.spans)
unfolding masked
masked_lies g marks t b h xs are u n e = by (nat_lt u t) refl (slice_index_or marks u false) refl e
  where
    by : (p : Bool) → nat_lt u t ≡ p → (q : Bool) → slice_index_or marks u false ≡ q → (if p && q then term_value g.nodes xs u else None) ≡ Some n → LiesIn n (span_at b.spans u)
    by true i true j f = h.ends xs are u (grind (arith, i)) j n f
    by true i false j f = no_some f
    by false i q j f = no_some f

both_parts : {P Q : ℕ → Type 0} {R : ℕ → Type 0} (xs : List ℕ) → ((x : ℕ) → P x → Q x → R x) → All P xs → All Q xs → All R xs
both_parts xs f h k = λ i d l. f (slice_index_or xs i d) (h i d l) (k i d l)

up : (a b c : ℤ) → a ≤ℤ b → b ≤ℤ c → a ≤ℤ c
up a b c h k = omega (arith, ints, h, k)

within_reach : (i : Interval) (n : ℤ) → IsWithinReach i → LiesIn n i → IsWithinNumbers n
within_reach i n h l =
    let low = h.low.0 in let high = h.high.1 in
    (up _ i.low n low l.0, up n i.high _ l.1 high)

-- the parts of a marked term's form have the numbers of their variables
told_parts : (g : GroundState) (marks : List Bool) (t : ℕ) (b : Built) (node : GroundNode) (form : TermForm) → IsBuilt g marks t b → IsTermOf g marks t node form
    → (front : List ℤ) → Meets (flat_of b) front → AreNumbersOf (term_value g.nodes (numbers_of_vars front b.cells)) (λ p. number_at front (variable_at b.places p)) (form_parts node form)
told_parts g marks t b node form h at front meets =
    both_parts {P = λ p. p < t} {Q = IsMarked marks} {R = λ p. term_value g.nodes (numbers_of_vars front b.cells) p ≡ Some (number_at front (variable_at b.places p))} (form_parts node form) (h.tells front meets) at.is.before at.marked

-- the value of a term lies in what covers its form's reach
term_ends : (g : GroundState) (marks : List Bool) (t : ℕ) (b : Built) (node : GroundNode) (form : TermForm) (span : Interval) → IsBuilt g marks t b → IsTermOf g marks t node form → IsBounded g → CoversForm g.cells b.spans node form span
    → (xs : List ℤ) → AreCellValues g.cells xs → (n : ℤ) → term_value g.nodes xs t ≡ Some n → LiesIn n span
term_ends g marks t b node form span h at bounded covers xs are n e =
    let value = term_value g.nodes xs in
    let old = h.extends xs are in
    let numbers : ℕ → ℤ = λ p. number_at old.values (variable_at b.places p) in
    let have : AreNumbersOf value numbers (form_parts node form) = subst (λ ys. AreNumbersOf (term_value g.nodes ys) numbers (form_parts node form)) old.gives (told_parts g marks t b node form h at old.values old.meets) in
    let of_form : form_value xs (λ p. Some (numbers p)) node form ≡ Some n = sym (at.is.value xs numbers have) ∙ e in
    let same : form_value xs (masked marks t value) node form ≡ form_value xs value node form =
    form_same xs (masked marks t value) value node form (both_parts {P = λ p. p < t} {Q = IsMarked marks} {R = λ p. masked marks t value p ≡ value p} (form_parts node form) (masked_there marks t value) at.is.before at.marked) in
    covers.holds n
    (form_lies g.cells xs (masked marks t value) (span_at b.spans) are (masked_lies g marks t b h xs are) node form n (same ∙ form_same xs value (λ p. Some (numbers p)) node form have ∙ of_form))
    (within_reach (term_reach g.nodes g.cells t) n (bounded.reaches t at.reached) (term_lies g.nodes g.cells xs are t n e))

-- the value of a term is that of its form, where the parts have the values of their variables
term_told : (g : GroundState) (marks : List Bool) (t : ℕ) (b : Built) (node : GroundNode) (form : TermForm) → IsBuilt g marks t b → IsTermOf g marks t node form
    → (front : List ℤ) → Meets (flat_of b) front → term_value g.nodes (numbers_of_vars front b.cells) t ≡ form_value (numbers_of_vars front b.cells) (value_under front b.places) node form
unfolding value_under
term_told g marks t b node form h at front meets = at.is.value (numbers_of_vars front b.cells) (λ p. number_at front (variable_at b.places p)) (told_parts g marks t b node form h at front meets)

length_map : {A B : Type 0} (xs : List A) (f : A → B) → length (map f xs) ≡ length xs
length_map [] f = refl
length_map (x ∷ xs) f = ap suc (length_map xs f)

cell_there : (values : List ℤ) (cells : List ℕ) (k : ℕ) → k < length cells → slice_get (numbers_of_vars values cells) k ≡ Some (number_at values (slice_index_or cells k 0))
unfolding numbers_of_vars
cell_there values [] k h = absurd (omega (arith, h))
cell_there values (x ∷ cells) zero h = refl
cell_there values (x ∷ cells) (suc k) h = cell_there values cells k (omega (arith, h))

-- a cell has its variable
pub with_cell : (g : GroundState) (marks : List Bool) (t : ℕ) (b : Built) (k : ℕ) (form : TermForm) (span : Interval) → IsBuilt g marks t b → IsTermOf g marks t (cell k) form → IsBounded g → Covers g.cells b.spans (cell k) span → k < length g.cells
    → IsBuilt g marks (t + 1) (without b (slice_index_or b.cells k 0) span)
unfolding node_value parts_of
with_cell g marks t b k form span h at bounded covers l =
    let none : All (λ p. p < t) (parts_of (cell k)) = All-nil (λ p. p < t) in
    let many : length b.cells ≡ length g.cells = sym (length_map b.cells (λ x. slice_index_or b.vars x [])) ∙ ap length h.domains ∙ length_map g.cells (λ one. one.values) in
    let here : k < length b.cells = subst (λ n. k < n) (sym many) l in
    reusing g marks t b (slice_index_or b.cells k 0) span h (λ _. record {
      within = h.cells k 0 here;
      tells = λ values meets. unrolled (numbers_of_vars values b.cells) g.nodes t (cell k) at.got none ∙ cell_there values b.cells k here;
      ends = λ xs are n e.
          covers.holds n
          (node_lies g.cells xs (masked marks t (term_value g.nodes xs)) (span_at b.spans) are (masked_lies g marks t b h xs are) (cell k) n (sym (unrolled xs g.nodes t (cell k) at.got none) ∙ e))
          (within_reach (term_reach g.nodes g.cells t) n (bounded.reaches t at.reached) (term_lies g.nodes g.cells xs are t n e));
    })

-- ---- a term with a variable of its own

zip_length : (vars : List (List ℤ)) (values : List ℤ) → AllZip Contains vars values → length values ≡ length vars
zip_length [] [] h = refl
zip_length [] (v ∷ values) h = absurd h
zip_length (d ∷ vars) [] h = absurd h
zip_length (d ∷ vars) (v ∷ values) h = ap suc (zip_length vars values h.1)

abbrev Hold : List ℤ → List FlatCon → Type 0
Hold values cons = All (λ con. IsTrue (con_holds values con)) cons

abbrev longer : Built → List ℤ → List FlatCon → FlatState
longer b d more = record { vars = b.vars ++ d ∷ []; cons = b.cons ++ more }

-- numbers of one variable more
record IsLonger (b : Built) (d : List ℤ) (more : List FlatCon) (values : List ℤ) : Type 0 where
  front : List ℤ
  last : ℤ
  is : values ≡ front ++ last ∷ []
  meets : Meets (flat_of b) front
  long : length front ≡ length b.vars
  has : Contains d last
  holds : Hold (front ++ last ∷ []) more

split : (b : Built) (d : List ℤ) (more : List FlatCon) (values : List ℤ) → All (NamesBelow (length b.vars)) b.cons → Meets (longer b d more) values → IsLonger b d more values
split b d more values names h =
    let s = domains_split b.vars d values h.domains in
    let long : length s.front ≡ length b.vars = zip_length b.vars s.front s.domains in
    let holds : Hold (s.front ++ s.last ∷ []) (b.cons ++ more) = subst (λ vs. Hold vs (b.cons ++ more)) s.is h.cons in
    record {
      front = s.front;
      last = s.last;
      is = s.is;
      meets = record {
        domains = s.domains;
        cons = cons_back s.front s.last b.cons (subst (λ m. All (NamesBelow m) b.cons) (sym long) names) (all_left (λ con. IsTrue (con_holds (s.front ++ s.last ∷ []) con)) b.cons more holds);
      };
      long = long;
      has = s.has;
      holds = all_right (λ con. IsTrue (con_holds (s.front ++ s.last ∷ []) con)) b.cons more holds;
    }

joined : (b : Built) (d : List ℤ) (more : List FlatCon) (front : List ℤ) (n : ℤ) → All (NamesBelow (length b.vars)) b.cons → Meets (flat_of b) front → Contains d n → Hold (front ++ n ∷ []) more → Meets (longer b d more) (front ++ n ∷ [])
joined b d more front n names h has holds = record {
  domains = domains_more b.vars front d n h.domains has;
  cons = All-append (λ con. IsTrue (con_holds (front ++ n ∷ []) con)) b.cons more
      (cons_stay front n b.cons (subst (λ m. All (NamesBelow m) b.cons) (sym (zip_length b.vars front h.domains)) names) h.cons) holds;
}

-- what the new variable's domain and constraints say: that it has this value
record Determines (b : Built) (d : List ℤ) (more : List FlatCon) (value : List ℤ → ℤ) : Type 0 where
  forth : (front : List ℤ) → Meets (flat_of b) front → Contains d (value front) × Hold (front ++ value front ∷ []) more
  back : (front : List ℤ) (n : ℤ) → Meets (flat_of b) front → Contains d n → Hold (front ++ n ∷ []) more → n ≡ value front

grown : (g : GroundState) (marks : List Bool) (t : ℕ) (b : Built) (d : List ℤ) (more : List FlatCon) (span : Interval) (value : List ℤ → ℤ) → IsBuilt g marks t b
    → IsSoundFlat (longer b d more) → Determines b d more value
    → ((front : List ℤ) → Meets (flat_of b) front → term_value g.nodes (numbers_of_vars front b.cells) t ≡ Some (value front))
    → ((xs : List ℤ) → AreCellValues g.cells xs → (n : ℤ) → term_value g.nodes xs t ≡ Some n → LiesIn n span)
    → IsBuilt g marks (t + 1) (later b (d ∷ []) (b.cons ++ more) (length b.vars) span)
grown g marks t b d more span value h sound is told ends =
    let names = h.sound.names in
    let cells_stay : (front : List ℤ) (n : ℤ) → length front ≡ length b.vars → numbers_of_vars (front ++ n ∷ []) b.cells ≡ numbers_of_vars front b.cells =
    λ front n long. numbers_agree (front ++ n ∷ []) front b.cells (All-weaker (λ x. x < length b.vars) (λ x. number_at (front ++ n ∷ []) x ≡ number_at front x)
    (λ x l. earlier front n x (subst (λ m. x < m) (sym long) l)) b.cells h.cells) in
    further g marks t b (d ∷ []) (b.cons ++ more) (length b.vars) span h sound
    (λ xs are.
    let old = h.extends xs are in
    let given = is.forth old.values old.meets in
    record {
      values = old.values ++ value old.values ∷ [];
      meets = joined b d more old.values (value old.values) names old.meets given.0 given.1;
      gives = cells_stay old.values (value old.values) (zip_length b.vars old.values old.meets.domains) ∙ old.gives;
    })
    (λ values meets.
    let s = split b d more values names meets in
    record { front = s.front; meets = s.meets; same = λ x l. ap (λ vs. number_at vs x) s.is ∙ earlier s.front s.last x (subst (λ m. x < m) (sym s.long) l) })
    (λ _. record {
      within = omega (arith, length_push b.vars d);
      tells = λ values meets.
          let s = split b d more values names meets in
          ap (λ vs. term_value g.nodes (numbers_of_vars vs b.cells) t) s.is
          ∙ ap (λ xs. term_value g.nodes xs t) (cells_stay s.front s.last s.long)
          ∙ told s.front s.meets
          ∙ ap (λ n. Some n) (sym (ap (λ vs. number_at vs (length b.vars)) s.is ∙ at_end s.front s.last (length b.vars) s.long ∙ is.back s.front s.last s.meets s.has s.holds));
      ends = ends;
    })

small_domain : (d : List ℤ) (span : Interval) → IsWithinReach span → HasAll d span → All IsWithinNumbers d
small_domain d span small has = λ k e l. within_reach span (slice_index_or d k e) small ((has (slice_index_or d k e)).0 (Contains-get_or d k e l))

sound_further : (b : Built) (d : List ℤ) (more : List FlatCon) → IsSoundFlat (flat_of b) → All IsWithinNumbers d → All (NamesBelow (length b.vars + 1)) more → All HasSmallCoefficients more → IsSoundFlat (longer b d more)
sound_further b d more h small names coefficients = record {
  names = subst (λ m. All (NamesBelow m) (b.cons ++ more)) (sym (length_push b.vars d)) (All-append (NamesBelow (length b.vars + 1)) b.cons more (names_more (length b.vars) b.cons h.names) names);
  numbers = All-push (λ domain. All IsWithinNumbers domain) b.vars d h.numbers small;
  coefficients = All-append HasSmallCoefficients b.cons more h.coefficients coefficients;
}

alone : (P : FlatCon → Type 0) (con : FlatCon) → P con → All P (con ∷ [])
alone P con h = All-cons P con [] h (All-nil P)

-- the variables of terms have numbers of their domains
numbers_there : (vars : List (List ℤ)) (places : List ℕ) (front : List ℤ) → AllZip Contains vars front → (ts : List ℕ) → All (λ p. variable_at places p < length vars) ts
    → HaveNumbersOf vars places (value_under front places) ts
unfolding value_under
numbers_there vars places front h ts placed =
    All-weaker (λ p. variable_at places p < length vars) (λ t. (n : ℤ) → value_under front places t ≡ Some n → Contains (domain_at vars places t) n)
    (λ t l n e. subst (Contains (domain_at vars places t)) (some_is e) (contained vars front (variable_at places t) h l)) ts placed

-- an operation has a variable of its own, and its constraint
pub with_operation : (g : GroundState) (marks : List Bool) (t : ℕ) (b : Built) (node : GroundNode) (form : TermForm) (con : FlatCon) (d : List ℤ) (span : Interval)
    → IsBuilt g marks t b → IsTermOf g marks t node form → IsBounded g → CoversForm g.cells b.spans node form span → SaysForm b.places node form (length b.vars) con → HoldsImage b.vars b.places node form span d
    → IsBuilt g marks (t + 1) (later b (d ∷ []) (b.cons ++ con ∷ []) (length b.vars) span)
unfolding value_under
with_operation g marks t b node form con d span h at bounded covers says has =
    let r = length b.vars in
    let placed : All (λ p. variable_at b.places p < r) (form_parts node form) =
    both_parts {P = λ p. p < t} {Q = IsMarked marks} {R = λ p. variable_at b.places p < r} (form_parts node form) h.within at.is.before at.marked in
    let same_value : (front : List ℤ) (n : ℤ) → length front ≡ r → says.value (front ++ n ∷ []) ≡ says.value front =
    λ front n long. some_is (
    sym (says.gives [] (front ++ n ∷ []))
    ∙ form_same [] (value_under (front ++ n ∷ []) b.places) (value_under front b.places) node form
    (All-weaker (λ p. variable_at b.places p < r) (λ p. value_under (front ++ n ∷ []) b.places p ≡ value_under front b.places p)
    (λ p l. ap (λ m. Some m) (earlier front n (variable_at b.places p) (subst (λ m. variable_at b.places p < m) (sym long) l))) (form_parts node form) placed)
    ∙ says.gives [] front) in
    let told : (front : List ℤ) → Meets (flat_of b) front → term_value g.nodes (numbers_of_vars front b.cells) t ≡ Some (says.value front) =
    λ front meets. term_told g marks t b node form h at front meets ∙ says.gives (numbers_of_vars front b.cells) front in
    let ends = term_ends g marks t b node form span h at bounded covers in
    let holds_is : (front : List ℤ) (n : ℤ) → length front ≡ r → con_holds (front ++ n ∷ []) con ≡ int_eq n (says.value front) =
    λ front n long. says.says (front ++ n ∷ []) ∙ ap (λ m. int_eq m (says.value (front ++ n ∷ []))) (at_end front n r long) ∙ ap (int_eq n) (same_value front n long) in
    grown g marks t b d (con ∷ []) span says.value h
    (sound_further b d (con ∷ []) h.sound has.small
    (alone (NamesBelow (r + 1)) con (says.names (r + 1) (omega arith) (All-weaker (λ p. variable_at b.places p < r) (λ p. variable_at b.places p < r + 1) (λ p l. omega (arith, l)) (form_parts node form) placed)))
    (alone HasSmallCoefficients con (says.coefficients (at.is.coefficients (subst (λ n. All IsWithinNumbers (coefficients_of n)) (get_or_from_slice_get g.nodes t node undefined at.got) (bounded.coefficients t at.reached))))))
    (record {
      forth = λ front meets.
          let long = zip_length b.vars front meets.domains in (
            has.holds (numbers_of_vars front b.cells) (value_under front b.places) (numbers_there b.vars b.places front meets.domains (form_parts node form) placed) (says.value front)
                (says.gives (numbers_of_vars front b.cells) front)
                (ends (numbers_of_vars front b.cells) (cells_of g.cells b.cells b.vars front meets.domains h.cells h.domains) (says.value front) (told front meets)),
            alone (λ c. IsTrue (con_holds (front ++ says.value front ∷ []) c)) con
                ((holds_is front (says.value front) long ∙ (Decides-int_eq (says.value front) (says.value front)).1 refl)),
          );
      back = λ front n meets _ holds.
          let long = zip_length b.vars front meets.domains in
          (Decides-int_eq n (says.value front)).0 (sym (holds_is front n long) ∙ (All-head (λ c. IsTrue (con_holds (front ++ n ∷ []) c)) con [] holds));
    })
    told ends

-- ---- a number

reach_stays : (cells : List Cell) (nodes : List GroundNode) (reaches : List Interval) (p : ℕ) → p < length reaches
    → reach_at (fold (λ before node. before ++ node_reach cells (reach_at before) node ∷ []) reaches nodes) p ≡ reach_at reaches p
unfolding reach_at
reach_stays cells [] reaches p h = refl
reach_stays cells (node ∷ nodes) reaches p h =
    reach_stays cells nodes (reaches ++ node_reach cells (reach_at reaches) node ∷ []) p (omega (arith, h, length_push reaches (node_reach cells (reach_at reaches) node)))
    ∙ get_or_append_left reaches (node_reach cells (reach_at reaches) node ∷ []) (only (pos 0)) p h

next_place : (m n k : ℕ) → n ≡ m + 1 → n + k ≡ m + suc k
next_place m n k e = omega (arith, e)

plus_none : (n : ℕ) → n + 0 ≡ n
plus_none n = omega arith

number_reach : (cells : List Cell) (nodes : List GroundNode) (reaches : List Interval) (k : ℕ) (c : ℤ) → slice_get nodes k ≡ Some (constant c)
    → reach_at (fold (λ before node. before ++ node_reach cells (reach_at before) node ∷ []) reaches nodes) (length reaches + k) ≡ only c
unfolding reach_at node_reach
number_reach cells [] reaches k c e = absurd cc
number_reach cells (node ∷ nodes) reaches zero c e =
    let longer = reaches ++ node_reach cells (reach_at reaches) node ∷ [] in
    ap (reach_at (fold (λ before node. before ++ node_reach cells (reach_at before) node ∷ []) longer nodes)) (plus_none (length reaches))
    ∙ reach_stays cells nodes longer (length reaches) (omega (arith, length_push reaches (node_reach cells (reach_at reaches) node)))
    ∙ get_or_at reaches (node_reach cells (reach_at reaches) node) [] (only (pos 0)) (length reaches) refl
    ∙ ap (node_reach cells (reach_at reaches)) (some_is e)
number_reach cells (node ∷ nodes) reaches (suc k) c e =
    let longer = reaches ++ node_reach cells (reach_at reaches) node ∷ [] in
    ap (reach_at (fold (λ before node. before ++ node_reach cells (reach_at before) node ∷ []) longer nodes)) (sym (next_place (length reaches) (length longer) k (length_push reaches (node_reach cells (reach_at reaches) node))))
    ∙ number_reach cells nodes longer k c e

zero_first : (n : ℕ) → n ≡ 0 + n
zero_first n = omega arith

number_small : (g : GroundState) (t : ℕ) (c : ℤ) → slice_get g.nodes t ≡ Some (constant c) → IsTermReached g t → IsBounded g → IsWithinReach (only c)
unfolding term_reach
number_small g t c e reached bounded =
    subst IsWithinReach (ap (reach_at (fold (λ before node. before ++ node_reach g.cells (reach_at before) node ∷ []) [] g.nodes)) (zero_first t) ∙ number_reach g.cells g.nodes [] t c e) (bounded.reaches t reached)

same_ends : (n c : ℤ) → c ≤ℤ n → n ≤ℤ c → n ≡ c
same_ends n c h k = omega (arith, ints, h, k)

no_more : (xs : List FlatCon) → xs ++ [] ≡ xs
no_more xs = append_none xs

-- a number has a variable with one value
pub with_number : (g : GroundState) (marks : List Bool) (t : ℕ) (b : Built) (c : ℤ) (form : TermForm) (d : List ℤ)
    → IsBuilt g marks t b → IsTermOf g marks t (constant c) form → IsBounded g → HasAll d (only c)
    → IsBuilt g marks (t + 1) (later b (d ∷ []) b.cons (length b.vars) (only c))
unfolding node_value parts_of
with_number g marks t b c form d h at bounded has =
    let none : All (λ p. p < t) (parts_of (constant c)) = All-nil (λ p. p < t) in
    let small = number_small g t c at.got at.reached bounded in
    let here : LiesIn c (only c) = (omega (arith, ints), omega (arith, ints)) in
    subst (λ cons. IsBuilt g marks (t + 1) (later b (d ∷ []) cons (length b.vars) (only c))) (no_more b.cons)
    (grown g marks t b d [] (only c) (λ _. c) h
    (sound_further b d [] h.sound (small_domain d (only c) small has) (All-nil (NamesBelow (length b.vars + 1))) (All-nil HasSmallCoefficients))
    (record {
      forth = λ front meets. ((has c).1 here, All-nil (λ con. IsTrue (con_holds (front ++ c ∷ []) con)));
      back = λ front n meets in_domain _. let l = (has n).0 in_domain in same_ends n c l.0 l.1;
    })
    (λ front meets. unrolled (numbers_of_vars front b.cells) g.nodes t (constant c) at.got none)
    (λ xs are n e. subst (λ m. LiesIn m (only c)) (some_is (sym (unrolled xs g.nodes t (constant c) at.got none) ∙ e)) here))
