-- What indices leave of a matrix whose parts are known one by one.
use Rattle.ep_size.proofs.Words.{◌≡◌, true, ℤ, List, [], ◌∷◌, ◌++◌, map, refl, sym, ap, subst, ◌∙◌, append-nil, append_assoc, Option, Some, None, option_and_then, option_map, unwrap_or, list_all, map-append, no_some, some_is, Index, all_defined, any_index, as_parts, at_index, listed_values, map_grid, map_grids, matrix, part_at, read_value, single, value_and, value_tree, values_from, Value, fixed_grid, grid_of, grids_from, TellsExtent, IsPart, ReadsGrid, is_told, Matrix}
use Rattle.std.specs.declared.alloc.Global.{Global}
use Rattle.std.specs.declared.vec.Vec.{Vec}
use Rattle.ep_tree.specs.Reach.{Extent as ExtentTree, MeasuredIndex, Span, decided_index, fixed_index, fixed_span, no_extent, plain_index, slice_extent, whole_index}
use Rattle.ep_size.proofs.ExtentViews.{grid_of-matrix}
use Rattle.ep_size.proofs.KnownParts.{listed_known}
use Rattle.ep_size.proofs.ListNodes.{grids_from-map}
use Rattle.ep_size.proofs.SliceParts.{all_told, defined_more, defined_none, part_grid, slice_told}
use Rattle.ep_size.specs.declared.extents.Extent.{Extent}

-- ---- parts once more

-- the grids of copies, and of the parts that are left
abbrev pub CopiedSoFar : List Extent → List Extent → List Extent → Type 0
CopiedSoFar all left ys = map grid_of ys ++ map grid_of left ≡ map grid_of all

pub copied_begin : (all ys : List Extent) → ys ≡ [] → CopiedSoFar all all ys
copied_begin all ys none = ap (λ l. map grid_of l ++ map grid_of all) none

pub copied_more : (all left behind ys more : List Extent) (x y : Extent) → CopiedSoFar all left ys → left ≡ x ∷ behind → more ≡ ys ++ y ∷ [] → grid_of y ≡ grid_of x → CopiedSoFar all behind more
copied_more all left behind ys more x y so cut put same =
    ap (λ l. map grid_of l ++ map grid_of behind) put ∙ ap (λ l. l ++ map grid_of behind) (map-append grid_of ys (y ∷ []))
    ∙ append_assoc (map grid_of ys) (grid_of y ∷ []) (map grid_of behind)
    ∙ ap (λ g. map grid_of ys ++ g ∷ map grid_of behind) same
    ∙ ap (λ l. map grid_of ys ++ map grid_of l) (sym cut) ∙ so

pub copied_done : (is : Vec ℤ Global) (xs : Vec Extent Global) (left : List Extent) (js : Vec ℤ Global) (ys : Vec Extent Global) → CopiedSoFar xs.items left ys.items → left ≡ [] → js.items ≡ is.items
    → grid_of (Matrix js ys) ≡ grid_of (Matrix is xs)
copied_done is xs left js ys so none same =
    grid_of-matrix js ys ∙ ap (λ l. matrix l (grids_from ys.items)) same
    ∙ ap (matrix is.items)
    (grids_from-map ys.items ∙ ap as_parts (sym (append-nil (map grid_of ys.items)) ∙ ap (λ l. map grid_of ys.items ++ map grid_of l) (sym none) ∙ so) ∙ sym (grids_from-map xs.items))
    ∙ sym (grid_of-matrix is xs)

-- ---- the parts of a value

abbrev pub fixed_grids : List Value → List ExtentTree
fixed_grids vs = map (λ v. fixed_grid (value_tree v)) vs

-- the grids of parts of a value, and of those that are left
abbrev pub OpenedSoFar : List Value → List Value → List Extent → Type 0
OpenedSoFar all left ys = map grid_of ys ++ fixed_grids left ≡ fixed_grids all

pub opened_begin : (all : List Value) (ys : List Extent) → ys ≡ [] → OpenedSoFar all all ys
opened_begin all ys none = ap (λ l. map grid_of l ++ fixed_grids all) none

pub opened_more : (all left behind : List Value) (ys more : List Extent) (x : Value) (y : Extent) → OpenedSoFar all left ys → left ≡ x ∷ behind → more ≡ ys ++ y ∷ [] → grid_of y ≡ fixed_grid (value_tree x)
    → OpenedSoFar all behind more
opened_more all left behind ys more x y so cut put same =
    ap (λ l. map grid_of l ++ fixed_grids behind) put ∙ ap (λ l. l ++ fixed_grids behind) (map-append grid_of ys (y ∷ []))
    ∙ append_assoc (map grid_of ys) (grid_of y ∷ []) (fixed_grids behind)
    ∙ ap (λ g. map grid_of ys ++ g ∷ fixed_grids behind) same
    ∙ ap (λ l. map grid_of ys ++ fixed_grids l) (sym cut) ∙ so

grids_fixed : (vs : List Value) → map_grids (λ n. fixed_span (Some n)) (values_from vs) ≡ as_parts (fixed_grids vs)
unfolding map_grids values_from as_parts
grids_fixed [] = refl
grids_fixed (v ∷ vs) = ap (λ gs. value_and (fixed_grid (value_tree v)) gs) (grids_fixed vs)

pub opened_done : (own : List ℤ) (all left : List Value) (js : Vec ℤ Global) (ys : Vec Extent Global) → OpenedSoFar all left ys.items → left ≡ [] → js.items ≡ own
    → grid_of (Matrix js ys) ≡ fixed_grid (matrix own (values_from all))
unfolding map_grid
opened_done own all left js ys so none same =
    grid_of-matrix js ys ∙ ap (λ l. matrix l (grids_from ys.items)) same
    ∙ ap (matrix own)
    (grids_from-map ys.items ∙ ap as_parts (sym (append-nil (map grid_of ys.items)) ∙ ap (λ l. map grid_of ys.items ++ fixed_grids l) (sym none) ∙ so) ∙ sym (grids_fixed all))

-- ---- indices

plain_rest : (i : Index) (o : Option (List Index)) (js : List Index) → option_map (λ l. i ∷ l) o ≡ Some js → (rest : List Index) × (o ≡ Some rest) × (i ∷ rest ≡ js)
plain_rest i None js h = no_some h
plain_rest i (Some rest) js h = (rest, refl, some_is h)

-- all parts are read
pub whole_read : (ms : List MeasuredIndex) (x : ExtentTree) (part : Option Extent) → ((js : List Index) → all_defined (map plain_index ms) ≡ Some js → read_value (any_index ∷ js) x ≡ option_map grid_of part)
    → ReadsGrid (whole_index ∷ ms) x part
unfolding plain_index all_defined
whole_read ms x part h js told =
    let p = plain_rest any_index (all_defined (map plain_index ms)) js told in
    ap (λ l. read_value l x) (sym p.2) ∙ h p.0 p.1

-- the part with an index
pub stated_read : (ms : List MeasuredIndex) (n : ℤ) (own : List ℤ) (xs : List Extent) (x : Extent) (part : Option Extent) → part_at own (grids_from xs) n ≡ Some (grid_of x) → ReadsGrid ms (grid_of x) part
    → ReadsGrid (fixed_index (Some n) ∷ ms) (matrix own (grids_from xs)) part
unfolding plain_index all_defined read_value
stated_read ms n own xs x part is h js told =
    let p = plain_rest (at_index n) (all_defined (map plain_index ms)) js told in
    ap (λ l. read_value l (matrix own (grids_from xs))) (sym p.2) ∙ ap (option_and_then (read_value p.0)) is ∙ h p.0 p.1

pub stated_nowhere : (ms : List MeasuredIndex) (n : ℤ) (own : List ℤ) (xs : List Extent) → part_at own (grids_from xs) n ≡ None → ReadsGrid (fixed_index (Some n) ∷ ms) (matrix own (grids_from xs)) None
unfolding plain_index all_defined read_value
stated_nowhere ms n own xs none js told =
    let p = plain_rest (at_index n) (all_defined (map plain_index ms)) js told in
    ap (λ l. read_value l (matrix own (grids_from xs))) (sym p.2) ∙ ap (option_and_then (read_value p.0)) none

-- no index is left
pub nothing_read : (x : ExtentTree) (y : Extent) → grid_of y ≡ x → ReadsGrid [] x (Some y)
unfolding all_defined read_value
nothing_read x y same js told = ap (λ l. read_value l x) (sym (some_is told)) ∙ ap Some (sym same)

-- what is told of cells
pub part_read : (part : Option Extent) (o : Option ExtentTree) → IsPart part o → o ≡ option_map grid_of part
unfolding IsPart
part_read None o h = h
part_read (Some x) o h = part_grid x o h

-- ---- a matrix without parts, and a number

pub none_read_stated : (n : Option ℤ) (ms : List MeasuredIndex) → ReadsGrid (fixed_index n ∷ ms) no_extent None
unfolding plain_index all_defined read_value part_at
none_read_stated None ms js told = no_some told
none_read_stated (Some n) ms js told =
    let p = plain_rest (at_index n) (all_defined (map plain_index ms)) js told in
    ap (λ l. read_value l no_extent) (sym p.2)

pub none_read_whole : (ms : List MeasuredIndex) (x : Extent) → grid_of x ≡ no_extent → ReadsGrid (whole_index ∷ ms) no_extent (Some x)
unfolding read_value all_defined listed_values as_parts
none_read_whole ms x same = whole_read ms no_extent (Some x) (λ js told. ap Some (sym same))

pub none_read_decided : (s : Span) (ms : List MeasuredIndex) → ReadsGrid (decided_index s ∷ ms) no_extent None
unfolding plain_index all_defined
none_read_decided s ms js told = no_some told

-- an index leaves nothing of a number
pub number_read : (i : MeasuredIndex) (ms : List MeasuredIndex) (s : Span) → ReadsGrid (i ∷ ms) (single s) None
unfolding plain_index all_defined read_value
number_read (fixed_index None) ms s js told = no_some told
number_read (fixed_index (Some n)) ms s js told =
    let p = plain_rest (at_index n) (all_defined (map plain_index ms)) js told in
    ap (λ l. read_value l (single s)) (sym p.2)
number_read whole_index ms s js told =
    let p = plain_rest any_index (all_defined (map plain_index ms)) js told in
    ap (λ l. read_value l (single s)) (sym p.2)
number_read (decided_index t) ms s js told = no_some told

-- ---- each part

-- What indices leave of the parts that were passed, where others are left.
pub record LeftSoFar (ms : List MeasuredIndex) (all left ys : List Extent) : Type 0 where
  pub passed : List Extent
  pub cut : all ≡ passed ++ left
  pub reads : (js : List Index) → all_defined (map plain_index ms) ≡ Some js → all_defined (map (λ x. read_value js (grid_of x)) passed) ≡ Some (map grid_of ys)

pub left_begin : (ms : List MeasuredIndex) (all ys : List Extent) → ys ≡ [] → LeftSoFar ms all all ys
unfolding all_defined
left_begin ms all ys none = record { passed = []; cut = refl; reads = λ js told. ap (λ l. Some (map grid_of l)) (sym none) }

pub left_more : (ms : List MeasuredIndex) (all left behind ys more : List Extent) (x y : Extent) (o : Option Extent) → LeftSoFar ms all left ys → left ≡ x ∷ behind → more ≡ ys ++ y ∷ [] → o ≡ Some y
    → ReadsGrid ms (grid_of x) o → LeftSoFar ms all behind more
left_more ms all left behind ys more x y o so cut put is h = record {
  passed = so.passed ++ x ∷ [];
  cut = so.cut ∙ ap (λ l. so.passed ++ l) cut ∙ sym (append_assoc so.passed (x ∷ []) behind);
  reads = λ js told.
      let f : Extent → Option ExtentTree = λ z. read_value js (grid_of z) in
      ap all_defined (map-append f so.passed (x ∷ []))
      ∙ defined_more (map f so.passed) (map grid_of ys) (f x) (grid_of y) (so.reads js told) (h js told ∙ ap (option_map grid_of) is)
      ∙ ap Some (sym (ap (map grid_of) put ∙ map-append grid_of ys (y ∷ [])));
}

each_read : (js : List Index) (own : List ℤ) (xs : List Extent)
    → read_value (any_index ∷ js) (matrix own (grids_from xs)) ≡ option_map (λ vs. matrix own (as_parts vs)) (all_defined (map (λ x. read_value js (grid_of x)) xs))
unfolding read_value
each_read js own xs = ap (λ l. option_map (λ vs. matrix own (as_parts vs)) (all_defined l)) (ap (map (read_value js)) (listed_known xs) ∙ mapped xs)
  where
    mapped : (ys : List Extent) → map (read_value js) (map grid_of ys) ≡ map (λ x. read_value js (grid_of x)) ys
    mapped [] = refl
    mapped (y ∷ ys) = ap (λ l. read_value js (grid_of y) ∷ l) (mapped ys)

pub left_done : (ms : List MeasuredIndex) (own : List ℤ) (all left : List Extent) (js : Vec ℤ Global) (ys : Vec Extent Global) → LeftSoFar ms all left ys.items → left ≡ [] → js.items ≡ own
    → ReadsGrid (whole_index ∷ ms) (matrix own (grids_from all)) (Some (Matrix js ys))
left_done ms own all left js ys so none same =
    whole_read ms (matrix own (grids_from all)) (Some (Matrix js ys))
    (λ is told.
    let whole : all ≡ so.passed = so.cut ∙ ap (λ l. so.passed ++ l) none ∙ append-nil so.passed in
    each_read is own all
    ∙ ap (option_map (λ vs. matrix own (as_parts vs))) (ap (λ l. all_defined (map (λ x. read_value is (grid_of x)) l)) whole ∙ so.reads is told)
    ∙ ap Some (sym (grid_of-matrix js ys ∙ ap (λ l. matrix l (grids_from ys.items)) same ∙ ap (matrix own) (grids_from-map ys.items))))

pub left_none : (ms : List MeasuredIndex) (own : List ℤ) (all left behind ys : List Extent) (x : Extent) (o : Option Extent) → LeftSoFar ms all left ys → left ≡ x ∷ behind → o ≡ None
    → ReadsGrid ms (grid_of x) o → ReadsGrid (whole_index ∷ ms) (matrix own (grids_from all)) None
left_none ms own all left behind ys x o so cut is h =
    whole_read ms (matrix own (grids_from all)) None
    (λ js told.
    let f : Extent → Option ExtentTree = λ z. read_value js (grid_of z) in
    each_read js own all
    ∙ ap (option_map (λ vs. matrix own (as_parts vs)))
    (ap (λ l. all_defined (map f l)) (so.cut ∙ ap (λ l. so.passed ++ l) cut) ∙ ap all_defined (map-append f so.passed (x ∷ behind))
    ∙ defined_none (map f so.passed) (f x) (map f behind) (h js told ∙ ap (option_map grid_of) is)))

-- ---- the slice

pub parts_slice : (ms : List MeasuredIndex) (g : ExtentTree) (o : Option Extent) (x y : Extent) → list_all is_told ms ≡ true → ReadsGrid ms g o → o ≡ Some x → TellsExtent y (grid_of x) → TellsExtent y (slice_extent ms g)
parts_slice ms g o x y told h is listed =
    let plain = all_told ms told in
    subst (TellsExtent y) (sym (slice_told ms g plain.plain plain.is ∙ ap (λ q. unwrap_or q no_extent) (h plain.plain plain.is ∙ ap (option_map grid_of) is))) listed

pub parts_gone : (ms : List MeasuredIndex) (g : ExtentTree) (o : Option Extent) → list_all is_told ms ≡ true → ReadsGrid ms g o → o ≡ None → slice_extent ms g ≡ no_extent
parts_gone ms g o told h is =
    let plain = all_told ms told in
    slice_told ms g plain.plain plain.is ∙ ap (λ q. unwrap_or q no_extent) (h plain.plain plain.is ∙ ap (option_map grid_of) is)
