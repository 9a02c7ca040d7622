use Rattle.std.proofs.Common.{◌≡◌, ◌∙◌, ℤ, List, [], false, length, ap, subst, get_or, arith}
use Rattle.std.proofs.lemmas.List.{get_or_read}
use Rattle.ep_base.specs.Numbers.{same_numbers}
use Rattle.ep_flat.specs.Cons.{numbers_of_vars}
use Rattle.enc_atoms.specs.Atoms.{Adds}
use Rattle.enc_atoms.proofs.Guards.{adds_below_more, adds_below_none}
use Rattle.enc_atoms.specs.Steps.{Unless}
use Rattle.enc_table.proofs.RowLemmas.{fits_at, none_whole}
use Rattle.enc_table.proofs.tables.add_no_row.Goals as goal

pub loop-k-init : goal.loop-k-init
loop-k-init c = adds_below_none c.args.layout.now c.args.f.now (λ values j. Unless c.args.guard.now (λ vs. same_numbers (get_or c.args.rows.now j []) (numbers_of_vars vs c.args.vars.now) ≡ false) values) c.requires.ready.is_layout c.requires.ready.from_new

pub add_other_row-requires-clause-fits : goal.add_other_row-requires-clause-fits
add_other_row-requires-clause-fits c =
    ap length (c.numbers-row.ensures ∙ get_or_read c.args.rows.now c.loop-k.k c.index-rows-k.result c.loop-k-test.true c.index-rows-k.is [])
    ∙ fits_at c.args.rows.now (length c.args.vars.now) c.loop-k.k [] c.loop-k-test.true c.requires.fit

pub loop-k-preserved : goal.loop-k-preserved
loop-k-preserved c =
    let L = c.args.layout.now in
    let k = c.loop-k.k in
    adds_below_more L c.args.f.now c.loop-k.f L c.add_other_row.new.f (λ values j. Unless c.args.guard.now (λ vs. same_numbers (get_or c.args.rows.now j []) (numbers_of_vars vs c.args.vars.now) ≡ false) values) k c.requires.ready.is_layout c.loop-k.invariant
    (subst (λ (row : List ℤ). Adds L c.loop-k.f L c.add_other_row.new.f (Unless c.args.guard.now (λ vs. same_numbers row (numbers_of_vars vs c.args.vars.now) ≡ false)))
    (c.numbers-row.ensures ∙ get_or_read c.args.rows.now k c.index-rows-k.result c.loop-k-test.true c.index-rows-k.is [])
    c.in_ok-add_other_row.ensures)

pub returns : goal.returns
returns c =
    let all : c.loop-k.k ≡ length c.args.rows.now = omega arith in
    none_whole c.args.layout.now c.args.f.now c.loop-k.f c.args.guard.now c.args.vars.now c.args.rows.now c.loop-k.k c.requires.ready.is_layout all c.loop-k.invariant
