use Rattle.std.proofs.Common.{refl}
use Rattle.std.specs.List.{list_any}
use Rattle.std.proofs.lemmas.Result.{on_ok_weaker}
use Rattle.ep_base.specs.Numbers.{same_numbers}
use Rattle.ep_flat.specs.Cons.{numbers_of_vars}
use Rattle.enc_atoms.proofs.Naming.{adds_plain, adds_some}
use Rattle.enc_table.proofs.tables.encode_rows.Goals as goal

pub returns-in-None : goal.returns-in-None
returns-in-None c =
    on_ok_weaker c.add_some_row.result
    (adds_plain c.args.layout.now c.args.f.now c.add_some_row.new.layout c.add_some_row.new.f c.args.truth _ (λ values. list_any (λ row. same_numbers row (numbers_of_vars values c.args.vars.now)) c.args.rows.now) c.requires.ready.is_layout c.in-None.is refl)
    c.add_some_row.ensures

pub returns-in-Some : goal.returns-in-Some
returns-in-Some c =
    on_ok_weaker c.encode_truth.result
    (adds_some c.args.layout.now c.args.f.now c.encode_truth.new.layout c.encode_truth.new.f c.args.truth c.in-Some.truth (λ values. list_any (λ row. same_numbers row (numbers_of_vars values c.args.vars.now)) c.args.rows.now) c.in-Some.is)
    c.encode_truth.ensures
