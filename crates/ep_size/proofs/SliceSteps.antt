-- Slices of cells that are alike.
use Rattle.ep_size.proofs.Words.{◌≡◌, ◌+◌, ◌*◌, length, Bool, true, false, List, [], ◌∷◌, ℤ, map, refl, sym, ap, subst, ◌∙◌, Option, Some, None, if◌then◌else◌, option_map, option_and_then, sum_by, unwrap_or, ◌↔◌, IsTrue, IfSome, list_any, width, has_number, Place, has_is, extent-read, Env, type_in, decided_weight, index_width, number_reach, reaches_at, read_weight, ExprTree, Indices, read, is_integer, is_matrix, Grid, all_defined, any_index, as_parts, at_index, filled, listed_values, matrix, read_value, Mode, ValueType, measured_of, TellsExtent, IsMatrixNode, Indexed, Stated, Every, LeavesDomains}
use Rattle.std.specs.Prelude.{Contains}
use Rattle.ep_tree.specs.Reach.{Extent as ExtentTree, MeasuredIndex, Span, decisions_in, extent, fixed_index, holds_decision, is_decided_index, measured, measured_list, no_extent, plain_index, read_extent, reads_cell, slice_extent, span_of, whole_index}
use Rattle.ep_size.proofs.FormSteps.{measured_decided, own_weight}
use Rattle.ep_size.proofs.ReadForms.{left_of}
use Rattle.ep_size.proofs.ReadSteps.{part_of_same}
use Rattle.ep_size.specs.Extents.{IsKnownExtent, TellsValue, grid_of, plain_span as known_span}
use Rattle.ep_size.specs.declared.extents.Extent.{Extent}
use Rattle.ep_size.specs.declared.extents.Extent.TheVariants.{Cells}
use Rattle.ep_size.specs.declared.extents.Span.{Span as OneSpan}

-- without an index all domains are left
pub leaves_all : (ds : List (List ℤ)) → LeavesDomains [] ds ds
unfolding all_defined read_value
leaves_all ds = record { plain = []; told = refl; reads = λ s. refl }

-- an index that is stated takes its domain away
pub leaves_below : (k : ℤ) (is : List MeasuredIndex) (d : List ℤ) (ds ls : List (List ℤ)) → has_number d k ≡ true → LeavesDomains is ds ls
    → LeavesDomains (fixed_index (Some k) ∷ is) (d ∷ ds) ls
unfolding all_defined plain_index read_value filled
leaves_below k is d ds ls has h = record {
  plain = at_index k ∷ h.plain;
  told = ap (option_map (λ js. at_index k ∷ js)) h.told;
  reads = λ s.
      ap (option_and_then (read_value h.plain)) (part_of_same (filled s ds) d k ∙ ap (λ b. if b then Some (filled s ds) else None) has) ∙ h.reads s;
}

read_each : (f : Grid Span → Option (Grid Span)) (g h : Grid Span) (d : List ℤ) → f g ≡ Some h
    → all_defined (map f (listed_values (as_parts (map (λ i. g) d)))) ≡ Some (map (λ i. h) d)
unfolding all_defined listed_values as_parts
read_each f g h [] e = refl
read_each f g h (i ∷ d) e =
    ap (λ o. all_defined (o ∷ map f (listed_values (as_parts (map (λ j. g) d))))) e ∙ ap (option_map (λ ys. h ∷ ys)) (read_each f g h d e)

-- `..` keeps its domain
pub leaves_more : (is : List MeasuredIndex) (d : List ℤ) (ds ls : List (List ℤ)) → LeavesDomains is ds ls → LeavesDomains (whole_index ∷ is) (d ∷ ds) (d ∷ ls)
unfolding all_defined plain_index read_value filled
leaves_more is d ds ls h = record {
  plain = any_index ∷ h.plain;
  told = ap (option_map (λ js. any_index ∷ js)) h.told;
  reads = λ s. ap (option_map (λ vs. matrix d (as_parts vs))) (read_each (read_value h.plain) (filled s ds) (filled s ls) d (h.reads s));
}

-- the slice of cells
pub slice_is : (is : List MeasuredIndex) (s : Span) (ds ls : List (List ℤ)) → LeavesDomains is ds ls → slice_extent is (filled s ds) ≡ filled s ls
unfolding slice_extent
slice_is is s ds ls h =
    ap (λ o. unwrap_or (option_and_then (λ js. read_value js (filled s ds)) o) no_extent) h.told ∙ ap (λ o. unwrap_or o no_extent) (h.reads s)

pub matrix_read : (t : ValueType) (b : Bool) (ms : List MeasuredIndex) (x : ExtentTree) → is_matrix t ≡ true → read_extent t b ms x ≡ slice_extent ms x
unfolding read_extent is_matrix is_integer
matrix_read ValueType.Bool b ms x h = absurd cc
matrix_read ValueType.Int b ms x h = absurd cc
matrix_read (ValueType.Matrix dims s) b ms x h = refl
matrix_read ValueType.Empty b ms x h = refl

-- without a decided index a read weighs nothing
pub no_weight : (ms : List MeasuredIndex) (w : Span) (left : List Span) → list_any is_decided_index ms ≡ false → read_weight ms w left ≡ 0
unfolding read_weight
no_weight ms w left h = ap (λ b. if b then length left * (width w.reach + sum_by index_width ms) else 0) h

-- a read that leaves cells
pub slice_node : (mode : Mode) (env : Env) (p : Place) (m : ExprTree) (is : Indices) (ms : List MeasuredIndex) (t : ValueType) (s : Span) (ds ls : List (List ℤ)) (d : List ℤ) (inner : List (List ℤ))
    → holds_decision (decisions_in env) (read p m is) ≡ true → ms ≡ measured_list mode env is → t ≡ type_in env (read p m is) → is_matrix t ≡ true
    → list_any is_decided_index ms ≡ false → extent mode env m ≡ filled s ds → LeavesDomains ms ds ls → ls ≡ d ∷ inner
    → IsMatrixNode mode env (read p m is) (filled s ls)
unfolding reaches_at decided_weight number_reach filled
slice_node mode env p m is ms t s ds ls d inner holds told typed matrix_typed plain known left some =
    let e : ExprTree = read p m is in
    let x : ExtentTree = extent mode env m in
    record {
      plain = refl;
      none = ap (λ l. number_reach (filled s l)) some;
      value =
          extent-read mode env p m is ∙ ap (λ l. measured mode env e (read_extent (type_in env e) (reads_cell env m l) l x)) (sym told)
          ∙ ap (λ u. measured mode env e (read_extent u (reads_cell env m ms) ms x)) (sym typed)
          ∙ ap (measured mode env e) (matrix_read t (reads_cell env m ms) ms x matrix_typed) ∙ measured_decided mode env e (slice_extent ms x) holds
          ∙ ap (slice_extent ms) known ∙ slice_is ms s ds ls left;
      holds = holds;
      weight = own_weight mode env e 0 holds
          (ap (λ l. read_weight l (span_of (extent mode env e)) (left_of l x)) (sym told)
          ∙ no_weight ms (span_of (extent mode env e)) (left_of ms x) plain);
    }

-- ---- what is known of cells

pub cells_listed : (s : OneSpan) (ds : _) (lists : List (List ℤ)) → grid_of (Cells s ds) ≡ filled (known_span s) lists → TellsExtent (Cells s ds) (filled (known_span s) lists)
unfolding TellsValue
cells_listed s ds lists same = record { grid = same; tells = λ mode env e h. h }

pub cells_are : (mode : Mode) (env : Env) (m : ExprTree) (x : Extent) (s : OneSpan) (ds : _) (lists : List (List ℤ)) → x ≡ Cells s ds → grid_of (Cells s ds) ≡ filled (known_span s) lists
    → IsKnownExtent mode env m x → extent mode env m ≡ filled (known_span s) lists
cells_are mode env m x s ds lists is same known = known.extent ∙ ap grid_of is ∙ same

-- ---- one index

pub stated_leaves : (index : Indexed) (stated : Option ℤ) (k : ℤ) (is : List MeasuredIndex) (d : List ℤ) (ds ls : List (List ℤ)) → index ≡ Stated stated → stated ≡ Some k
    → has_number d k ≡ true → LeavesDomains is ds ls → LeavesDomains (measured_of index ∷ is) (d ∷ ds) ls
unfolding measured_of
stated_leaves index stated k is d ds ls same told has h =
    subst (λ i. LeavesDomains (measured_of i ∷ is) (d ∷ ds) ls) (sym (same ∙ ap Stated told)) (leaves_below k is d ds ls has h)

pub every_leaves : (index : Indexed) (is : List MeasuredIndex) (d : List ℤ) (ds ls : List (List ℤ)) → index ≡ Every → LeavesDomains is ds ls
    → LeavesDomains (measured_of index ∷ is) (d ∷ ds) (d ∷ ls)
unfolding measured_of
every_leaves index is d ds ls same h = subst (λ i. LeavesDomains (measured_of i ∷ is) (d ∷ ds) (d ∷ ls)) (sym same) (leaves_more is d ds ls h)

-- no index is left
pub nothing_leaves : (all : List Indexed) (ds : List (List ℤ)) → all ≡ [] → LeavesDomains (map measured_of all) ds ds
nothing_leaves all ds none = subst (λ l. LeavesDomains (map measured_of l) ds ds) (sym none) (leaves_all ds)

-- one index before others
pub cut_leaves : (all rest : List Indexed) (index : Indexed) (domains inner ls : List (List ℤ)) (domain : List ℤ) → all ≡ index ∷ rest → domains ≡ domain ∷ inner
    → LeavesDomains (measured_of index ∷ map measured_of rest) (domain ∷ inner) ls → LeavesDomains (map measured_of all) domains ls
cut_leaves all rest index domains inner ls domain cut part h =
    subst (λ l. LeavesDomains (map measured_of l) domains ls) (sym cut) (subst (λ l. LeavesDomains (measured_of index ∷ map measured_of rest) l ls) (sym part) h)

-- ---- in the code's words

pub kept_some : {A : Type 0} (o : Option A) (P Q : A → Type 0) → IfSome o P → ((x : A) → P x → Q x) → IfSome o Q
kept_some None P Q h f = h
kept_some (Some x) P Q h f = f x h

pub has_told : (b : Bool) (d : List ℤ) (n : ℤ) → (IsTrue b ↔ Contains d n) → b ≡ true → has_number d n ≡ true
has_told b d n h is = sym (has_is b d n (λ t. h.0 t) (λ t. h.1 t)) ∙ is
