-- How far sums reach, and what they cost, as they are added up.
use Rattle.std.proofs.Common.{rules, vec_len, Vec, Global, ◌≡◌, ℕ, ◌+◌, ◌*◌, ◌<◌, ◌≤◌, min, List, [], ◌∷◌, ◌++◌, map, length, take, get_or, refl, sym, ap, subst, ◌∙◌, arith}
use Rattle.std.specs.Prelude.{All, unsigned_abs, sum_by}
use Rattle.std.proofs.lemmas.List.{take_more, length-map, get_or-map}
use Rattle.std.proofs.lemmas.List.Elements.{All-map}
use Rattle.std.proofs.lemmas.List.Folds.{fold-map}
use Rattle.std.proofs.lemmas.List.Sums.{sum_by_push}
use Rattle.opb_text.specs.declared.content.OpbTerm.{OpbTerm}
use Rattle.opb_text.specs.declared.content.OpbRow.{OpbRow}
use Rattle.opb_text.specs.Contents.{OpbConstraint, OpbContent}
use Rattle.opb_text.specs.Views.{plain_row}
use Rattle.opb_text.specs.Weights.{AreVariablesOf, Weighs, factors_reach, row_reach, terms_cost, sums_cost, most_reach, most_weight}

-- one more in a sum
pub sum_by_step : {X : Type 0} (f : X → ℕ) (xs : List X) (i : ℕ) (x : X) → i < length xs → x ≡ get_or xs i x → sum_by f (take (i + 1) xs) ≡ sum_by f (take i xs) + f x
sum_by_step f xs i x lt is =
    ap (sum_by f) (take_more xs i x lt ∙ ap (λ y. take i xs ++ y ∷ []) (sym is)) ∙ sum_by_push f (take i xs) x

pub size_step : (terms : List OpbTerm) (i : ℕ) (d : OpbTerm) (size more : ℕ) → i < length terms → size ≡ factors_reach (take i terms) → more ≡ unsigned_abs (get_or terms i d).factor
    → size + more ≡ factors_reach (take (i + 1) terms)
size_step terms i d size more lt e f =
    let step = ap factors_reach (take_more terms i d lt) ∙ sum_by_push (λ (u : OpbTerm). unsigned_abs u.factor) (take i terms) (get_or terms i d) in
    omega (arith, step, e, f)

-- ---- reach

abbrev Near : OpbConstraint → Type 0
Near row = row_reach row ≤ most_reach

pub near_rows : (rows : List OpbRow) → All (λ row. Near (plain_row row)) rows → All Near (map plain_row rows)
near_rows rows all = All-map Near plain_row rows all

pub near_row : (rows : List OpbRow) (i : ℕ) (row : OpbRow) → All Near (map plain_row rows) → i < length rows → row ≡ get_or rows i row → Near (plain_row row)
near_row rows i row all lt is =
    let long : length (map plain_row rows) ≡ length rows = length-map rows plain_row in
    let there : get_or (map plain_row rows) i (plain_row row) ≡ plain_row row = get_or-map plain_row rows i row (plain_row row) lt ∙ ap plain_row (sym is) in
    subst Near there (all i (plain_row row) (omega (arith, long, lt)))

-- ---- weight

pub rows_cost : (rows : List OpbRow) → sum_by (λ row. terms_cost row.terms) (map plain_row rows) ≡ sum_by (λ row. terms_cost row.terms.items) rows
rows_cost rows = fold-map (λ (a : ℕ) (row : OpbConstraint). a + terms_cost row.terms) plain_row 0 rows

pub weight_step : (rows : List OpbRow) (i : ℕ) (row : OpbRow) (base cost old new more : ℕ) → i < length rows → row ≡ get_or rows i row
    → old ≡ min (base + (cost + sum_by (λ r. terms_cost r.terms.items) (take i rows))) (most_weight + 1) → new ≡ min (old + more) (most_weight + 1) → more ≡ terms_cost row.terms.items
    → new ≡ min (base + (cost + sum_by (λ r. terms_cost r.terms.items) (take (i + 1) rows))) (most_weight + 1)
weight_step rows i row base cost old new more lt is e f g =
    let step = sum_by_step (λ (r : OpbRow). terms_cost r.terms.items) rows i row lt is in
    omega (arith, step, e, f, g)

pub counted : (v : Vec ℕ Global) → vec_len v ≡ length v.items
counted v = search rules

-- a weight that isn't cut off
pub weighs : (content : OpbContent) (vars : List ℕ) (count weight : ℕ) → AreVariablesOf content vars → count ≡ length vars → weight ≡ min (2 * count + sums_cost content) (most_weight + 1) → weight ≤ most_weight → Weighs content weight
weighs content vars count weight are long e le = record {
  vars = vars;
  variables = are;
  is = omega (arith, long, e, le);
}

pub weighs_more : (content : OpbContent) (vars : List ℕ) (count weight : ℕ) → AreVariablesOf content vars → count ≡ length vars → weight ≡ min (2 * count + sums_cost content) (most_weight + 1) → most_weight < weight
    → (n : ℕ) × Weighs content n × (most_weight < n)
weighs_more content vars count weight are long e more =
    (2 * length vars + sums_cost content, record { vars = vars; variables = are; is = refl }, omega (arith, long, e, more))
