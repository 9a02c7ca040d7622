use Rattle.std.proofs.Common.{◌≡◌, ◌∙◌, sym, subst}
use Rattle.opb_solve.proofs.Names.{name_is_cell}
use Rattle.opb_solve.proofs.posing.cell_of.Goals as goal
use Rattle.opb_solve.specs.Logged.{variable_name}
use Rattle.sat_text.specs.NoteGrammar.{IsCell}

pub returns : goal.returns
returns c =
    let named : c.in_ok-name.name ≡ variable_name c.args.var = c.in_ok-name.ensures.copied ∙ c.as_str.ensures.value ∙ c.in_ok-text.ensures.ok in
    record {
      name = named;
      indices = c.new-3.ensures ∙ c.new-2.ensures.items;
      values = c.requires;
      readable = subst IsCell (sym named) (name_is_cell c.args.var c.ranges.var.fits);
    }
