use Rattle.std.proofs.Common.{[], ◌∷◌, ap}
use Rattle.std.specs.List.{list_any}
use Rattle.std.proofs.lemmas.Result.{on_ok_weaker}
use Rattle.ep_base.specs.Numbers.{same_numbers}
use Rattle.ep_flat.specs.Cons.{numbers_of_vars}
use Rattle.enc_table.proofs.RowLemmas.{decided_other}
use Rattle.enc_table.proofs.tables.encode_truth.Goals as goal

pub returns : goal.returns
returns c =
    on_ok_weaker c.add_some_row.result
    (decided_other c.args.layout.now c.args.f.now c.add_decided.new.f c.add_no_row.new.f c.add_some_row.new.layout c.add_some_row.new.f c.args.truth (c.is_not.result ∷ []) (c.is_not-2.result ∷ []) (λ values. list_any (λ row. same_numbers row (numbers_of_vars values c.args.vars.now)) c.args.rows.now) c.requires.ready.is_layout
    (ap (λ a. a ∷ []) c.is_not.ensures) (ap (λ a. a ∷ []) c.is_not-2.ensures) c.in_ok-add_decided.ensures c.in_ok-add_no_row.ensures)
    c.add_some_row.ensures
