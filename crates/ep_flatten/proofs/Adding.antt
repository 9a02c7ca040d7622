-- What the code adds for a term.
use Rattle.std.specs.Prelude.{false, ◌≡◌, ℕ, zero, suc, ◌+◌, ◌<◌, Bool, true, List, [], ◌∷◌, ◌++◌, length, map, ℤ, Some, slice_get, slice_index_or, refl}
use Rattle.std.proofs.Common.{ap, arith, subst, sym, ◌∙◌}
use Rattle.std.proofs.lemmas.Bool.{false≢true}
use Rattle.std.proofs.lemmas.Int.{ints}
use Rattle.std.specs.Prelude.{IfOk, OnOk, Ok, Err, Result}
use Rattle.std.proofs.lemmas.List.{map_push}
use Rattle.std.specs.List.{All, Any, Contains}
use Rattle.std.proofs.lemmas.Option.{slice_get_within, get_or_from_slice_get}
use Rattle.ep_base.specs.Intervals.{Interval, IsWithinReach, LiesIn, from_to, spanned, truth_interval}
use Rattle.ep_base.specs.Runs.{IsIn}
use Rattle.ep_base.specs.declared.run_lists.Run.{Run}
use Rattle.ep_base.specs.declared.operators.CompareOp.{CompareOp}
use Rattle.ep_flat.specs.Cons.{FlatCon}
use Rattle.ep_flat.specs.FlatViews.{plain_con}
use Rattle.ep_flat.specs.declared.flats.Con.{Con}
use Rattle.ep_numbers.specs.Spans.{interval_of}
use Rattle.ep_flatten.specs.Building.{AreMarks, Built, Covers, CoversForm, form_reach, HasAll, HasSmall, IsBuilt, IsMarked, IsTermOf, is_truth_node, span_at}
use Rattle.ep_base.specs.Reads.{IsWithinNumbers}
use Rattle.ep_flatten.specs.Forms.{form_coefficients, HaveForms, TermForm, form_at, own, summed, compared}
use Rattle.ep_flatten.specs.Saying.{HasParts}
use Rattle.ep_flatten.proofs.FormLaws.{form_there}
use Rattle.ep_numbers.specs.declared.spans.Span.{Span}
use Rattle.ep_flatten.proofs.Growing.{with_cell, without}
use Rattle.ep_ground.specs.Bounds.{IsBounded, node_reach}
use Rattle.ep_ground.specs.Grounds.{HasNoPartialNode, GroundState, IsWellFormed, StandsOver}
use Rattle.ep_ground.specs.Nodes.{GroundNode, is_partial, coefficients_of, constant, undefined, cell, sum, product, quotient, remainder, power, absolute, least, greatest, pick, whole, safe_quotient, safe_remainder, safe_pick}
use Rattle.ep_ground.specs.declared.cells.Cell.{Cell}

truth_within : IsWithinReach truth_interval
truth_within = record { low = (omega (arith, ints), omega (arith, ints)); high = (omega (arith, ints), omega (arith, ints)) }

pub covers_truth : (node : GroundNode) (cells : List Cell) (spans : List Interval) → node_reach cells (span_at spans) node ≡ truth_interval → Covers cells spans node truth_interval
covers_truth node cells spans e = record { small = truth_within; holds = λ n l _. subst (LiesIn n) e l }

-- the numbers of one run are those of its interval
pub one_run : (low high : ℤ) (runs : List Run) (domain : List ℤ) → runs ≡ record { lo = low; hi = high } ∷ [] → ((n : ℤ) → (Contains domain n → Any (IsIn n) runs) × (Any (IsIn n) runs → Contains domain n)) → HasAll domain (from_to low high)
one_run low high runs domain e h = λ n. (λ found. inside n (subst (Any (IsIn n)) e ((h n).0 found)), λ l. (h n).1 (subst (Any (IsIn n)) (sym e) (0, record { lo = low; hi = high }, omega arith, refl, l)))
  where
    inside : (n : ℤ) → Any (IsIn n) (record { lo = low; hi = high } ∷ []) → LiesIn n (from_to low high)
    inside n (zero, run, below, is, l) = subst (IsIn n) (sym is) l
    inside n (suc k, run, below, is, l) = absurd (omega (arith, below))

abbrev built : List (List ℤ) → List FlatCon → List ℕ → List Interval → List ℕ → Built
built vars cons places spans cells = record { vars = vars; cons = cons; places = places; spans = spans; cells = cells }

-- parts that are equal make equal wholes
pub as_built : (g : GroundState) (marks : List Bool) (t : ℕ) (vars vars' : List (List ℤ)) (cons cons' : List FlatCon) (places places' : List ℕ) (spans spans' : List Interval) (cells cells' : List ℕ)
    → vars ≡ vars' → cons ≡ cons' → places ≡ places' → spans ≡ spans' → cells ≡ cells' → IsBuilt g marks t (built vars' cons' places' spans' cells') → IsBuilt g marks t (built vars cons places spans cells)
as_built g marks t vars vars' cons cons' places places' spans spans' cells cells' a b c d e h =
    let same : built vars cons places spans cells ≡ built vars' cons' places' spans' cells' = λ i. built (a i) (b i) (c i) (d i) (e i) in
    subst (IsBuilt g marks t) (sym same) h

pub cons_pushed : (cons new : List Con) (con : Con) → new ≡ cons ++ con ∷ [] → map plain_con new ≡ map plain_con cons ++ plain_con con ∷ []
cons_pushed cons new con e = ap (map plain_con) e ∙ map_push plain_con cons con

pub spans_pushed : (spans new : List Span) (span : Span) → new ≡ spans ++ span ∷ [] → map interval_of new ≡ map interval_of spans ++ interval_of span ∷ []
spans_pushed spans new span e = ap (map interval_of) e ∙ map_push interval_of spans span

-- parts of a node that stands in a ground
pub has_parts : (n : ℕ) (node : GroundNode) → StandsOver n node → HasParts node
unfolding HasParts StandsOver
has_parts n (least ts) h = h
has_parts n (greatest ts) h = h
has_parts n node h = tt

pub stands_over : (g : GroundState) (t : ℕ) (node : GroundNode) → IsWellFormed g → slice_get g.nodes t ≡ Some node → StandsOver (length g.cells) node
stands_over g t node h got = subst (StandsOver (length g.cells)) (get_or_from_slice_get g.nodes t node node got) (h.nodes t node (slice_get_within g.nodes t node got))

-- what is known of a marked term, of its node and of its form
pub term_of : (g : GroundState) (forms : List TermForm) (asserted marks : List Bool) (t : ℕ) (node : GroundNode) → AreMarks g forms asserted marks → HaveForms g.nodes (length g.nodes) forms → IsWellFormed g → IsMarked marks t → slice_get g.nodes t ≡ Some node → IsTermOf g marks t node (form_at forms t)
term_of g forms asserted marks t node are have h m got = record {
  got = got;
  is = form_there g.nodes forms t node have got (slice_get_within g.nodes t node got);
  marked = are.closed t node got m;
  reached = are.reached t m;
  stands = stands_over g t node h got;
}

truth_reach : (node : GroundNode) (cells : List Cell) (spans : List Interval) → is_truth_node node ≡ true → node_reach cells (span_at spans) node ≡ truth_interval
unfolding is_truth_node node_reach
truth_reach (constant n) cells spans e = absurd (false≢true e)
truth_reach undefined cells spans e = absurd (false≢true e)
truth_reach (cell k) cells spans e = absurd (false≢true e)
truth_reach (sum c parts) cells spans e = absurd (false≢true e)
truth_reach (product a b) cells spans e = absurd (false≢true e)
truth_reach (quotient a b) cells spans e = absurd (false≢true e)
truth_reach (remainder a b) cells spans e = absurd (false≢true e)
truth_reach (power a n) cells spans e = absurd (false≢true e)
truth_reach (absolute a) cells spans e = absurd (false≢true e)
truth_reach (least ts) cells spans e = absurd (false≢true e)
truth_reach (greatest ts) cells spans e = absurd (false≢true e)
truth_reach (pick ts keys indices) cells spans e = absurd (false≢true e)
truth_reach (whole a ts) cells spans e = absurd (false≢true e)
truth_reach (safe_quotient a b) cells spans e = absurd (false≢true e)
truth_reach (safe_remainder a b) cells spans e = absurd (false≢true e)
truth_reach (safe_pick ts keys indices) cells spans e = absurd (false≢true e)
truth_reach node cells spans e = refl

pub covers_node : (node : GroundNode) → is_truth_node node ≡ true → (cells : List Cell) (spans : List Interval) → Covers cells spans node truth_interval
covers_node node e cells spans = covers_truth node cells spans (truth_reach node cells spans e)

pub on_ok_five : {A E : Type 0} {P Q R S T U : Type 0} (r : Result A E) → OnOk r P → OnOk r Q → OnOk r R → OnOk r S → OnOk r T → (P → Q → R → S → T → U) → OnOk r U
on_ok_five (Ok a) p q r s t f = f p q r s t
on_ok_five (Err e) p q r s t f = tt

pub on_ok_then : {A E : Type 0} {P Q : Type 0} (r : Result A E) → OnOk r P → (P → Q) → OnOk r Q
on_ok_then (Ok a) p f = f p
on_ok_then (Err e) p f = tt

pub if_ok_then : {A E : Type 0} {P Q : A → Type 0} (r : Result A E) → IfOk r P → ((a : A) → P a → Q a) → IfOk r Q
if_ok_then (Ok a) p f = f a p
if_ok_then (Err e) p f = tt

at_map : {A B : Type 0} (f : A → B) (xs : List A) (k : ℕ) (d : A) (e : B) → k < length xs → slice_index_or (map f xs) k e ≡ f (slice_index_or xs k d)
at_map f [] k d e h = absurd (omega (arith, h))
at_map f (x ∷ xs) zero d e h = refl
at_map f (x ∷ xs) (suc k) d e h = at_map f xs k d e (omega (arith, h))

-- a cell's variable for a term, with the interval of its domain
pub cell_advances : (old : Built) (k variable : ℕ) (form : TermForm) (span : Interval) (g : GroundState) (marks : List Bool) (t : ℕ) → variable ≡ slice_index_or old.cells k 0 → k < length old.cells
    → IsWithinReach span → HasSmall (spanned (slice_index_or old.vars variable [])) span → IsBuilt g marks t old → IsTermOf g marks t (cell k) form → IsBounded g
    → IsBuilt g marks (t + 1) (without old variable span)
unfolding StandsOver node_reach
cell_advances old k variable form span g marks t e below small holds built at bounded =
    let domain : slice_index_or old.vars variable [] ≡ slice_index_or (map (λ one. one.values) g.cells) k [] =
    ap (λ x. slice_index_or old.vars x []) e ∙ sym (at_map (λ x. slice_index_or old.vars x []) old.cells k 0 [] below) ∙ ap (λ ds. slice_index_or ds k []) built.domains in
    let covers : Covers g.cells old.spans (cell k) span = record { small = small; holds = subst (λ d. HasSmall (spanned d) span) domain holds } in
    subst (λ v. IsBuilt g marks (t + 1) (without old v span)) (sym e) (with_cell g marks t old k form span built at bounded covers at.stands)

-- an interval of a term by its form
pub covers_own : (node : GroundNode) (cells : List Cell) (spans : List Interval) (i : Interval) → Covers cells spans node i → CoversForm cells spans node own i
unfolding form_reach
covers_own node cells spans i h = record { small = h.small; holds = h.holds }

pub covers_summed : (node : GroundNode) (c : ℤ) (parts : List (ℤ × ℕ)) (cells : List Cell) (spans : List Interval) (i : Interval) → Covers cells spans (sum c parts) i → CoversForm cells spans node (summed c parts) i
unfolding form_reach
covers_summed node c parts cells spans i h = record { small = h.small; holds = h.holds }

pub covers_compared : (node : GroundNode) (op : CompareOp) (parts : List (ℤ × ℕ)) (c : ℤ) (cells : List Cell) (spans : List Interval) → CoversForm cells spans node (compared op parts c) truth_interval
unfolding form_reach
covers_compared node op parts c cells spans = record { small = truth_within; holds = λ n l _. l }

-- what is known of a marked term's node, for its constraint
length_map : {A B : Type 0} (xs : List A) (f : A → B) → length (map f xs) ≡ length xs
length_map [] f = refl
length_map (x ∷ xs) f = ap suc (length_map xs f)

pub stands_built : (g : GroundState) (marks : List Bool) (t : ℕ) (b : Built) (node : GroundNode) → IsBuilt g marks t b → StandsOver (length g.cells) node → StandsOver (length b.cells) node
stands_built g marks t b node h s =
    let many : length b.cells ≡ length g.cells = sym (length_map b.cells (λ x. slice_index_or b.vars x [])) ∙ ap length h.domains ∙ length_map g.cells (λ one. one.values) in
    subst (λ n. StandsOver n node) (sym many) s

pub total_there : (g : GroundState) (t : ℕ) (node : GroundNode) → HasNoPartialNode g → slice_get g.nodes t ≡ Some node → is_partial node ≡ false
total_there g t node h got = subst (λ n. is_partial n ≡ false) (get_or_from_slice_get g.nodes t node node got) (h t node (slice_get_within g.nodes t node got))

pub small_there : (g : GroundState) (marks : List Bool) (t : ℕ) (node : GroundNode) (form : TermForm) → IsTermOf g marks t node form → IsBounded g → All IsWithinNumbers (form_coefficients node form)
small_there g marks t node form at bounded =
    at.is.coefficients (subst (λ n. All IsWithinNumbers (coefficients_of n)) (get_or_from_slice_get g.nodes t node undefined at.got) (bounded.coefficients t at.reached))
