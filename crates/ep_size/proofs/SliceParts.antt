-- Slices of cells whose index domains don't stand one after another, part by part.
use Rattle.ep_size.proofs.Words.{◌≡◌, ℕ, true, false, ℤ, List, [], ◌∷◌, ◌++◌, map, refl, sym, ap, subst, ◌∙◌, append-nil, Option, Some, None, IfErr, IfOk, Err, Ok, Result, if◌then◌else◌, option_and_then, option_map, unwrap_or, list_all, list_any, map-append, has_number, Place, extent-read, Env, type_in, decided_weight, number_reach, reaches_at, read_weight, ExprTree, Indices, read, is_matrix, Grid, Index, all_defined, any_index, as_parts, at_index, filled, listed_values, matrix, read_value, Mode, ValueType, Finishes, keeps_all, measured_of, TellsExtent, IsMatrixNode, IsPart, LeavesDomains, PartOf, is_told, names_one, SizeError, Memory, Matrix, Indexed}
use Rattle.std.specs.declared.alloc.Global.{Global}
use Rattle.std.specs.declared.vec.Vec.{Vec}
use Rattle.ep_tree.specs.Reach.{Extent as ExtentTree, MeasuredIndex, Span, decided_index, decisions_in, extent, fixed_index, holds_decision, is_decided_index, measured, measured_list, no_extent, plain_index, read_extent, reads_cell, slice_extent, span_of, whole_index}
use Rattle.ep_size.proofs.FormSteps.{measured_decided, own_weight}
use Rattle.ep_size.proofs.ListNodes.{listed_matrix, lists_finish, memory_stops}
use Rattle.ep_size.proofs.ReadForms.{left_of}
use Rattle.ep_size.proofs.ReadSteps.{part_of_same}
use Rattle.ep_size.proofs.SliceSteps.{cells_listed, matrix_read, no_weight}
use Rattle.ep_size.specs.Extents.{grid_of, plain_span as known_span}
use Rattle.ep_size.specs.declared.extents.Extent.{Extent}
use Rattle.ep_size.specs.declared.extents.Extent.TheVariants.{Cells}
use Rattle.ep_size.specs.declared.extents.Span.{Span as OneSpan}

-- ---- indices that have values

-- the plain indices
pub record Told (ms : List MeasuredIndex) : Type 0 where
  pub plain : List Index
  pub is : all_defined (map plain_index ms) ≡ Some plain

pub all_told : (ms : List MeasuredIndex) → list_all is_told ms ≡ true → Told ms
unfolding all_defined plain_index is_told
all_told [] h = record { plain = []; is = refl }
all_told (fixed_index None ∷ ms) h = absurd cc
all_told (fixed_index (Some n) ∷ ms) h =
    let rest = all_told ms h in record { plain = at_index n ∷ rest.plain; is = ap (option_map (λ js. at_index n ∷ js)) rest.is }
all_told (whole_index ∷ ms) h =
    let rest = all_told ms h in record { plain = any_index ∷ rest.plain; is = ap (option_map (λ js. any_index ∷ js)) rest.is }
all_told (decided_index s ∷ ms) h = absurd cc

not_told : (ms : List MeasuredIndex) → list_all is_told ms ≡ false → list_any is_decided_index ms ≡ false → all_defined (map plain_index ms) ≡ None
unfolding all_defined plain_index is_told is_decided_index
not_told [] h k = absurd cc
not_told (fixed_index None ∷ ms) h k = refl
not_told (fixed_index (Some n) ∷ ms) h k = ap (option_map (λ js. at_index n ∷ js)) (not_told ms h k)
not_told (whole_index ∷ ms) h k = ap (option_map (λ js. any_index ∷ js)) (not_told ms h k)
not_told (decided_index s ∷ ms) h k = absurd cc

-- ---- what is read of cells

same_plain : (a b : List Index) (o : Option (List Index)) → o ≡ Some a → o ≡ Some b → a ≡ b
same_plain a b o h k = ap (λ x. unwrap_or x []) (sym h ∙ k)

-- all of them
pub kept_part : (ms : List MeasuredIndex) (s : OneSpan) (ds : _) (lists : List (List ℤ)) → grid_of (Cells s ds) ≡ filled (known_span s) lists → LeavesDomains ms lists lists
    → (js : List Index) → all_defined (map plain_index ms) ≡ Some js → IsPart (Some (Cells s ds)) (read_value js (filled (known_span s) lists))
unfolding IsPart
kept_part ms s ds lists same h js told = record {
  grid = filled (known_span s) lists;
  is = ap (λ l. read_value l (filled (known_span s) lists)) (same_plain js h.plain _ told h.told) ∙ h.reads (known_span s);
  listed = cells_listed s ds lists same;
}

-- an index that is stated, and then the others
stated_below : (ms : List MeasuredIndex) (k : ℤ) (d : List ℤ) (ds : List (List ℤ)) (s : Span) (o : Option Extent) → has_number d k ≡ true
    → ((js : List Index) → all_defined (map plain_index ms) ≡ Some js → IsPart o (read_value js (filled s ds)))
    → (js : List Index) → all_defined (map plain_index (fixed_index (Some k) ∷ ms)) ≡ Some js → IsPart o (read_value js (filled s (d ∷ ds)))
unfolding all_defined plain_index read_value filled
stated_below ms k d ds s o has h js told = by (all_defined (map plain_index ms)) refl told
  where
    by : (q : Option (List Index)) → all_defined (map plain_index ms) ≡ q → option_map (λ l. at_index k ∷ l) q ≡ Some js → IsPart o (read_value js (filled s (d ∷ ds)))
    by None e t = absurd cc
    by (Some rest) e t =
        subst (λ l. IsPart o (read_value l (filled s (d ∷ ds)))) (ap (λ x. unwrap_or x []) t)
        (subst (IsPart o)
        (sym (ap (option_and_then (read_value rest)) (part_of_same (filled s ds) d k ∙ ap (λ b. if b then Some (filled s ds) else None) has))) (h rest e))

stated_gone : (ms : List MeasuredIndex) (k : ℤ) (d : List ℤ) (ds : List (List ℤ)) (s : Span) → has_number d k ≡ false
    → (js : List Index) → all_defined (map plain_index (fixed_index (Some k) ∷ ms)) ≡ Some js → read_value js (filled s (d ∷ ds)) ≡ None
unfolding all_defined plain_index read_value filled
stated_gone ms k d ds s has js told = by (all_defined (map plain_index ms)) told
  where
    by : (q : Option (List Index)) → option_map (λ l. at_index k ∷ l) q ≡ Some js → read_value js (filled s (d ∷ ds)) ≡ None
    by None t = absurd cc
    by (Some rest) t =
        ap (λ l. read_value l (filled s (d ∷ ds))) (sym (ap (λ x. unwrap_or x []) t))
        ∙ ap (option_and_then (read_value rest)) (part_of_same (filled s ds) d k ∙ ap (λ b. if b then Some (filled s ds) else None) has)

-- `..`, and then the others
every_below : (ms : List MeasuredIndex) (d : List ℤ) (ds : List (List ℤ)) (s : Span) (o : Option Extent)
    → ((js : List Index) → all_defined (map plain_index ms) ≡ Some js → IsPart o (read_value (any_index ∷ js) (filled s (d ∷ ds))))
    → (js : List Index) → all_defined (map plain_index (whole_index ∷ ms)) ≡ Some js → IsPart o (read_value js (filled s (d ∷ ds)))
unfolding all_defined plain_index
every_below ms d ds s o h js told = by (all_defined (map plain_index ms)) refl told
  where
    by : (q : Option (List Index)) → all_defined (map plain_index ms) ≡ q → option_map (λ l. any_index ∷ l) q ≡ Some js → IsPart o (read_value js (filled s (d ∷ ds)))
    by None e t = absurd cc
    by (Some rest) e t = subst (λ l. IsPart o (read_value l (filled s (d ∷ ds)))) (ap (λ x. unwrap_or x []) t) (h rest e)

-- ---- in the code's words

-- what is read by these indices of cells over these domains
abbrev pub Reads : List Indexed → List (List ℤ) → OneSpan → Option Extent → Type 0
Reads indices domains s o = (js : List Index) → all_defined (map plain_index (map measured_of indices)) ≡ Some js → IsPart o (read_value js (filled (known_span s) domains))

-- what is read of each part
abbrev pub ReadsEach : List Indexed → List (List ℤ) → List ℤ → OneSpan → Option Extent → Type 0
ReadsEach rest inner d s o =
    (js : List Index) → all_defined (map plain_index (map measured_of rest)) ≡ Some js → IsPart o (read_value (any_index ∷ js) (filled (known_span s) (d ∷ inner)))

cut_reads : (all rest : List Indexed) (i : Indexed) (domains inner : List (List ℤ)) (d : List ℤ) (s : OneSpan) (o : Option Extent) → all ≡ i ∷ rest → domains ≡ d ∷ inner
    → ((js : List Index) → all_defined (map plain_index (measured_of i ∷ map measured_of rest)) ≡ Some js → IsPart o (read_value js (filled (known_span s) (d ∷ inner))))
    → Reads all domains s o
cut_reads all rest i domains inner d s o cut part h =
    subst (λ l. Reads l domains s o) (sym cut)
    (subst (λ l. (js : List Index) → all_defined (map plain_index (measured_of i ∷ map measured_of rest)) ≡ Some js → IsPart o (read_value js (filled (known_span s) l))) (sym part) h)

every_or_never : (m : MeasuredIndex) (ms : List MeasuredIndex) (d : List ℤ) (ds : List (List ℤ)) (s : Span) (o : Option Extent) → keeps_all m ≡ true
    → ((js : List Index) → all_defined (map plain_index ms) ≡ Some js → IsPart o (read_value (any_index ∷ js) (filled s (d ∷ ds))))
    → (js : List Index) → all_defined (map plain_index (m ∷ ms)) ≡ Some js → IsPart o (read_value js (filled s (d ∷ ds)))
unfolding keeps_all all_defined plain_index
every_or_never (fixed_index n) ms d ds s o k h js told = absurd cc
every_or_never whole_index ms d ds s o k h js told = every_below ms d ds s o h js told
every_or_never (decided_index r) ms d ds s o k h js told = absurd cc

pub every_reads : (all rest : List Indexed) (i : Indexed) (domains inner : List (List ℤ)) (d : List ℤ) (s : OneSpan) (o : Option Extent) → all ≡ i ∷ rest → domains ≡ d ∷ inner
    → keeps_all (measured_of i) ≡ true → ReadsEach rest inner d s o → Reads all domains s o
every_reads all rest i domains inner d s o cut part k h =
    cut_reads all rest i domains inner d s o cut part (every_or_never (measured_of i) (map measured_of rest) d inner (known_span s) o k h)

one_or_never : (m : MeasuredIndex) (ms : List MeasuredIndex) (d : List ℤ) (ds : List (List ℤ)) (s : Span) (o : Option Extent) → names_one m d ≡ true
    → ((js : List Index) → all_defined (map plain_index ms) ≡ Some js → IsPart o (read_value js (filled s ds)))
    → (js : List Index) → all_defined (map plain_index (m ∷ ms)) ≡ Some js → IsPart o (read_value js (filled s (d ∷ ds)))
unfolding names_one
one_or_never (fixed_index None) ms d ds s o k h js told = absurd cc
one_or_never (fixed_index (Some n)) ms d ds s o k h js told = stated_below ms n d ds s o k h js told
one_or_never whole_index ms d ds s o k h js told = absurd cc
one_or_never (decided_index r) ms d ds s o k h js told = absurd cc

pub one_reads : (all rest : List Indexed) (i : Indexed) (domains inner : List (List ℤ)) (d : List ℤ) (s : OneSpan) (o : Option Extent) → all ≡ i ∷ rest → domains ≡ d ∷ inner
    → names_one (measured_of i) d ≡ true → Reads rest inner s o → Reads all domains s o
one_reads all rest i domains inner d s o cut part k h =
    cut_reads all rest i domains inner d s o cut part (one_or_never (measured_of i) (map measured_of rest) d inner (known_span s) o k h)

none_or_never : (m : MeasuredIndex) (ms : List MeasuredIndex) (d : List ℤ) (ds : List (List ℤ)) (s : Span) → keeps_all m ≡ false → names_one m d ≡ false
    → (js : List Index) → all_defined (map plain_index (m ∷ ms)) ≡ Some js → read_value js (filled s (d ∷ ds)) ≡ None
unfolding keeps_all names_one all_defined plain_index
none_or_never (fixed_index None) ms d ds s k n js told = absurd cc
none_or_never (fixed_index (Some i)) ms d ds s k n js told = stated_gone ms i d ds s n js told
none_or_never whole_index ms d ds s k n js told = absurd cc
none_or_never (decided_index r) ms d ds s k n js told = absurd cc

pub none_reads : (all rest : List Indexed) (i : Indexed) (domains inner : List (List ℤ)) (d : List ℤ) (s : OneSpan) → all ≡ i ∷ rest → domains ≡ d ∷ inner
    → keeps_all (measured_of i) ≡ false → names_one (measured_of i) d ≡ false → Reads all domains s None
unfolding IsPart
none_reads all rest i domains inner d s cut part k n =
    cut_reads all rest i domains inner d s None cut part (none_or_never (measured_of i) (map measured_of rest) d inner (known_span s) k n)

-- ---- one part after another

defined_step : {A : Type 0} (x : A) (xs : List (Option A)) (ys : List A) (o : Option A) (y : A)
    → ((zs : List A) → all_defined xs ≡ Some zs → all_defined (xs ++ o ∷ []) ≡ Some (zs ++ y ∷ []))
    → (q : Option (List A)) → all_defined xs ≡ q → option_map (λ zs. x ∷ zs) q ≡ Some ys → option_map (λ zs. x ∷ zs) (all_defined (xs ++ o ∷ [])) ≡ Some (ys ++ y ∷ [])
defined_step x xs ys o y next None e t = absurd cc
defined_step x xs ys o y next (Some zs) e t = ap (option_map (λ l. x ∷ l)) (next zs e) ∙ ap (λ l. Some (l ++ y ∷ [])) (ap (λ p. unwrap_or p ys) t)

pub defined_more : {A : Type 0} (xs : List (Option A)) (ys : List A) (o : Option A) (y : A) → all_defined xs ≡ Some ys → o ≡ Some y → all_defined (xs ++ o ∷ []) ≡ Some (ys ++ y ∷ [])
unfolding all_defined
defined_more [] ys o y h k = ap (λ x. all_defined (x ∷ [])) k ∙ ap (λ l. Some (l ++ y ∷ [])) (ap (λ x. unwrap_or x ys) h)
defined_more (None ∷ xs) ys o y h k = absurd cc
defined_more (Some x ∷ xs) ys o y h k = defined_step x xs ys o y (λ zs e. defined_more xs zs o y e k) (all_defined xs) refl h

pub defined_none : {A : Type 0} (xs : List (Option A)) (o : Option A) (rest : List (Option A)) → o ≡ None → all_defined (xs ++ o ∷ rest) ≡ None
unfolding all_defined
defined_none [] o rest h = ap (λ x. all_defined (x ∷ rest)) h
defined_none (None ∷ xs) o rest h = refl
defined_none (Some x ∷ xs) o rest h = ap (option_map (λ zs. x ∷ zs)) (defined_none xs o rest h)

-- some parts are read, and others are left
pub record EachSoFar (rest : List Indexed) (inner : List (List ℤ)) (d : List ℤ) (s : OneSpan) (done left : List ℤ) (parts : List Extent) : Type 0 where
  pub cut : d ≡ done ++ left
  pub reads : (js : List Index) → all_defined (map plain_index (map measured_of rest)) ≡ Some js
      → all_defined (map (λ i. read_value js (filled (known_span s) inner)) done) ≡ Some (map grid_of parts)

pub each_begins : (rest : List Indexed) (inner : List (List ℤ)) (d : List ℤ) (s : OneSpan) (done left : List ℤ) (parts : List Extent) → left ≡ d → done ≡ [] → parts ≡ []
    → EachSoFar rest inner d s done left parts
unfolding all_defined
each_begins rest inner d s done left parts same none empty = record {
  cut = sym same ∙ ap (λ l. l ++ left) (sym none);
  reads = λ js told.
      ap (λ l. all_defined (map (λ i. read_value js (filled (known_span s) inner)) l)) none ∙ ap (λ l. Some (map grid_of l)) (sym empty);
}

pub append_again : {A : Type 0} (xs : List A) (x : A) (ys : List A) → xs ++ x ∷ ys ≡ (xs ++ x ∷ []) ++ ys
append_again [] x ys = refl
append_again (y ∷ xs) x ys = ap (λ zs. y ∷ zs) (append_again xs x ys)

pub part_grid : (x : Extent) (o : Option ExtentTree) → PartOf x o → o ≡ Some (grid_of x)
part_grid x o h = h.is ∙ ap Some (sym h.listed.grid)

pub each_more : (rest : List Indexed) (inner : List (List ℤ)) (d : List ℤ) (s : OneSpan) (done next left behind : List ℤ) (parts more : List Extent) (n : ℤ) (x : Extent) (o : Option Extent)
    → EachSoFar rest inner d s done left parts → left ≡ n ∷ behind → Reads rest inner s o → o ≡ Some x → more ≡ parts ++ x ∷ [] → next ≡ done ++ n ∷ []
    → EachSoFar rest inner d s next behind more
unfolding IsPart
each_more rest inner d s done next left behind parts more n x o h cut part is pushed longer = record {
  cut = h.cut ∙ ap (λ l. done ++ l) cut ∙ append_again done n behind ∙ ap (λ l. l ++ behind) (sym longer);
  reads = λ js told.
      let f : ℤ → Option ExtentTree = λ i. read_value js (filled (known_span s) inner) in
      ap (λ l. all_defined (map f l)) longer ∙ ap all_defined (map-append f done (n ∷ []))
      ∙ defined_more (map f done) (map grid_of parts) (f n) (grid_of x) (h.reads js told) (part_grid x (f n) (subst (λ q. IsPart q (f n)) is (part js told)))
      ∙ ap Some (sym (ap (map grid_of) pushed ∙ map-append grid_of parts (x ∷ [])));
}

listed_same : (f : Grid Span → Option (Grid Span)) (g : Grid Span) (d : List ℤ) → map f (listed_values (as_parts (map (λ i. g) d))) ≡ map (λ i. f g) d
unfolding listed_values as_parts
listed_same f g [] = refl
listed_same f g (i ∷ d) = ap (λ l. f g ∷ l) (listed_same f g d)

every_read : (js : List Index) (s : Span) (d : List ℤ) (inner : List (List ℤ))
    → read_value (any_index ∷ js) (filled s (d ∷ inner)) ≡ option_map (λ vs. matrix d (as_parts vs)) (all_defined (map (λ i. read_value js (filled s inner)) d))
unfolding read_value filled
every_read js s d inner = ap (λ l. option_map (λ vs. matrix d (as_parts vs)) (all_defined l)) (listed_same (read_value js) (filled s inner) d)

-- all parts are read
pub each_all : (rest : List Indexed) (inner : List (List ℤ)) (d : List ℤ) (s : OneSpan) (left : List ℤ) (numbers : Vec ℤ Global) (parts : Vec Extent Global)
    → EachSoFar rest inner d s numbers.items left parts.items → left ≡ [] → ReadsEach rest inner d s (Some (Matrix numbers parts))
unfolding IsPart
each_all rest inner d s left numbers parts h none js told =
    let whole : numbers.items ≡ d = sym (h.cut ∙ ap (λ l. numbers.items ++ l) none ∙ append-nil numbers.items) in
    record {
      grid = matrix numbers.items (as_parts (map grid_of parts.items));
      is =
          every_read js (known_span s) d inner
          ∙ ap (λ l. option_map (λ vs. matrix d (as_parts vs)) (all_defined (map (λ i. read_value js (filled (known_span s) inner)) l))) (sym whole)
          ∙ ap (option_map (λ vs. matrix d (as_parts vs))) (h.reads js told) ∙ ap (λ l. Some (matrix l (as_parts (map grid_of parts.items)))) (sym whole);
      listed = listed_matrix numbers parts;
    }

-- one has no value
pub each_none : (rest : List Indexed) (inner : List (List ℤ)) (d : List ℤ) (s : OneSpan) (done left behind : List ℤ) (parts : List Extent) (n : ℤ) (o : Option Extent)
    → EachSoFar rest inner d s done left parts → left ≡ n ∷ behind → Reads rest inner s o → o ≡ None → ReadsEach rest inner d s None
unfolding IsPart
each_none rest inner d s done left behind parts n o h cut part is js told =
    let f : ℤ → Option ExtentTree = λ i. read_value js (filled (known_span s) inner) in
    every_read js (known_span s) d inner
    ∙ ap (option_map (λ vs. matrix d (as_parts vs)))
    (ap (λ l. all_defined (map f l)) (h.cut ∙ ap (λ l. done ++ l) cut) ∙ ap all_defined (map-append f done (n ∷ behind))
    ∙ defined_none (map f done) (f n) (map f behind) (subst (λ q. IsPart q (f n)) is (part js told)))

-- ---- the slice

pub slice_told : (ms : List MeasuredIndex) (x : ExtentTree) (js : List Index) → all_defined (map plain_index ms) ≡ Some js → slice_extent ms x ≡ unwrap_or (read_value js x) no_extent
unfolding slice_extent
slice_told ms x js told = ap (λ o. unwrap_or (option_and_then (λ l. read_value l x) o) no_extent) told

-- without a value it has no part
pub slice_untold : (ms : List MeasuredIndex) (x : ExtentTree) → list_all is_told ms ≡ false → list_any is_decided_index ms ≡ false → slice_extent ms x ≡ no_extent
unfolding slice_extent
slice_untold ms x h k = ap (λ o. unwrap_or (option_and_then (λ l. read_value l x) o) no_extent) (not_told ms h k)

pub slice_read : (indices : List Indexed) (domains : List (List ℤ)) (s : OneSpan) (o : Option Extent) (x : Extent) → list_all is_told (map measured_of indices) ≡ true
    → Reads indices domains s o → o ≡ Some x → TellsExtent x (slice_extent (map measured_of indices) (filled (known_span s) domains))
unfolding IsPart
slice_read indices domains s o x told h is =
    let plain = all_told (map measured_of indices) told in
    let part : PartOf x (read_value plain.plain (filled (known_span s) domains)) = subst (λ q. IsPart q (read_value plain.plain (filled (known_span s) domains))) is (h plain.plain plain.is) in
    subst (TellsExtent x)
    (sym (slice_told (map measured_of indices) (filled (known_span s) domains) plain.plain plain.is ∙ ap (λ q. unwrap_or q no_extent) part.is)) part.listed

pub slice_none : (indices : List Indexed) (domains : List (List ℤ)) (s : OneSpan) (o : Option Extent) → list_all is_told (map measured_of indices) ≡ true
    → Reads indices domains s o → o ≡ None → slice_extent (map measured_of indices) (filled (known_span s) domains) ≡ no_extent
unfolding IsPart
slice_none indices domains s o told h is =
    let plain = all_told (map measured_of indices) told in
    slice_told (map measured_of indices) (filled (known_span s) domains) plain.plain plain.is
    ∙ ap (λ q. unwrap_or q no_extent) (subst (λ q. IsPart q (read_value plain.plain (filled (known_span s) domains))) is (h plain.plain plain.is))

-- a read that leaves a matrix
pub sliced_node : (mode : Mode) (env : Env) (p : Place) (m : ExprTree) (is : Indices) (ms : List MeasuredIndex) (t : ValueType) (x g : ExtentTree)
    → holds_decision (decisions_in env) (read p m is) ≡ true → ms ≡ measured_list mode env is → t ≡ type_in env (read p m is) → is_matrix t ≡ true
    → list_any is_decided_index ms ≡ false → extent mode env m ≡ x → slice_extent ms x ≡ g → number_reach g ≡ []
    → IsMatrixNode mode env (read p m is) g
unfolding reaches_at decided_weight
sliced_node mode env p m is ms t x g holds told typed matrix_typed plain known slice none =
    let e : ExprTree = read p m is in
    let own : ExtentTree = extent mode env m in
    record {
      plain = refl;
      none = none;
      value =
          extent-read mode env p m is ∙ ap (λ l. measured mode env e (read_extent (type_in env e) (reads_cell env m l) l own)) (sym told)
          ∙ ap (λ u. measured mode env e (read_extent u (reads_cell env m ms) ms own)) (sym typed)
          ∙ ap (measured mode env e) (matrix_read t (reads_cell env m ms) ms own matrix_typed) ∙ measured_decided mode env e (slice_extent ms own) holds
          ∙ ap (slice_extent ms) known ∙ slice;
      holds = holds;
      weight = own_weight mode env e 0 holds
          (ap (λ l. read_weight l (span_of (extent mode env e)) (left_of l own)) (sym told)
          ∙ no_weight ms (span_of (extent mode env e)) (left_of ms own) plain);
    }

-- a slice that is made is what is known of the read
pub apart_finishes : (mode : Mode) (env : Env) (p : Place) (m : ExprTree) (is : Indices) (ms : List MeasuredIndex) (t : ValueType) (x : ExtentTree) (totals : ℕ) (r : Result Extent SizeError)
    → holds_decision (decisions_in env) (read p m is) ≡ true → ms ≡ measured_list mode env is → t ≡ type_in env (read p m is) → is_matrix t ≡ true
    → list_any is_decided_index ms ≡ false → extent mode env m ≡ x
    → IfOk r (λ y. TellsExtent y (slice_extent ms x)) → IfOk r (λ y. number_reach (grid_of y) ≡ []) → IfErr r (λ e. e ≡ Memory)
    → Finishes mode env (read p m is) totals totals r
apart_finishes mode env p m is ms t x totals (Ok y) holds told typed matrix_typed plain known listed none memory =
    lists_finish mode env (read p m is) (slice_extent ms x) totals (Ok y)
    (sliced_node mode env p m is ms t x (slice_extent ms x) holds told typed matrix_typed plain known refl (ap number_reach (sym listed.grid) ∙ none)) (listed, tt)
apart_finishes mode env p m is ms t x totals (Err e) holds told typed matrix_typed plain known listed none memory =
    memory_stops mode env (read p m is) totals e memory
