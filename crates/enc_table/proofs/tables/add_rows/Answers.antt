use Rattle.std.proofs.Common.{◌≡◌, ℕ, ◌<◌, ◌∙◌, pos, [], ◌∷◌, length, ap, subst, get_or, arith}
use Rattle.std.proofs.lemmas.List.{get_or_read}
use Rattle.enc_atoms.specs.Atoms.{Adds}
use Rattle.enc_atoms.proofs.Guards.{adds_below_more, adds_below_none}
use Rattle.enc_table.proofs.RowLemmas.{fits_at, guard_of, row_where}
use Rattle.enc_table.specs.Rows.{IsRowWhere}
use Rattle.enc_table.proofs.tables.add_rows.Goals as goal

pub loop-k-init : goal.loop-k-init
loop-k-init c = adds_below_none c.args.layout.now c.args.f.now (λ values j. IsRowWhere (get_or c.args.truths.now j 0) c.args.vars.now (get_or c.args.rows.now j []) values) c.requires.ready.is_layout c.requires.ready.from_new

pub add_row-requires-clause-guard : goal.add_row-requires-clause-guard
add_row-requires-clause-guard c = guard_of c.args.layout.now (get_or c.args.truths.now c.loop-k.k 0) (pos 1) c.is_not.result c.is_not.ensures (c.requires.truths c.loop-k.k 0 (omega arith))

pub add_row-requires-clause-fits : goal.add_row-requires-clause-fits
add_row-requires-clause-fits c =
    ap length (c.numbers-row.ensures ∙ get_or_read c.args.rows.now c.loop-k.k c.index-rows-k.result c.loop-k-test.true c.index-rows-k.is [])
    ∙ fits_at c.args.rows.now (length c.args.vars.now) c.loop-k.k [] c.loop-k-test.true c.requires.fit

pub loop-k-preserved : goal.loop-k-preserved
loop-k-preserved c =
    let L = c.args.layout.now in
    let k = c.loop-k.k in
    adds_below_more L c.args.f.now c.loop-k.f L c.add_row.new.f (λ values j. IsRowWhere (get_or c.args.truths.now j 0) c.args.vars.now (get_or c.args.rows.now j []) values) k c.requires.ready.is_layout c.loop-k.invariant
    (row_where L c.loop-k.f c.add_row.new.f (c.is_not.result ∷ []) (get_or c.args.truths.now k 0) c.args.vars.now c.numbers-row.result.now (get_or c.args.rows.now k []) c.loop-k.invariant.goes_on.is_layout
    (ap (λ a. a ∷ []) c.is_not.ensures)
    (c.numbers-row.ensures ∙ get_or_read c.args.rows.now k c.index-rows-k.result c.loop-k-test.true c.index-rows-k.is [])
    c.in_ok-add_row.ensures)

pub returns : goal.returns
returns c =
    let all : c.loop-k.k ≡ length c.args.rows.now = omega arith in
    subst (λ m. Adds c.args.layout.now c.args.f.now c.args.layout.now c.loop-k.f (λ values. (j : ℕ) → j < m → IsRowWhere (get_or c.args.truths.now j 0) c.args.vars.now (get_or c.args.rows.now j []) values)) all c.loop-k.invariant
