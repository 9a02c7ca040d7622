use Rattle.std.proofs.Common.{false, unwrap_or}
use Rattle.std.specs.List.{list_any}
use Rattle.std.proofs.lemmas.Result.{on_ok_weaker}
use Rattle.ep_base.specs.Numbers.{is_row_of, same_numbers}
use Rattle.ep_flat.specs.Cons.{numbers_of_vars}
use Rattle.enc_table.proofs.RowLemmas.{row_of_fit, row_of_none, said_like}
use Rattle.enc_table.proofs.tables.encode_table.Goals as goal

pub returns-then-all_fit : goal.returns-then-all_fit
returns-then-all_fit c =
    on_ok_weaker c.encode_rows.result
    (said_like c.args.layout.now c.args.f.now c.encode_rows.new.layout c.encode_rows.new.f c.args.truth (λ values. list_any (λ row. same_numbers row (numbers_of_vars values c.args.vars.now)) c.args.rows.now) (λ values. unwrap_or (is_row_of c.args.rows.now (numbers_of_vars values c.args.vars.now)) false) c.requires.ready.is_layout
    (λ values. row_of_fit c.args.rows.now values c.args.vars.now c.all_fit.result c.all_fit.ensures c.if-all_fit.true))
    c.encode_rows.ensures

pub returns-else-all_fit : goal.returns-else-all_fit
returns-else-all_fit c =
    on_ok_weaker c.add_never.result
    (said_like c.args.layout.now c.args.f.now c.args.layout.now c.add_never.new.f c.args.truth (λ values. false) (λ values. unwrap_or (is_row_of c.args.rows.now (numbers_of_vars values c.args.vars.now)) false) c.requires.ready.is_layout
    (λ values. row_of_none c.args.rows.now values c.args.vars.now c.all_fit.result c.all_fit.ensures c.if-all_fit.false))
    c.add_never.ensures
