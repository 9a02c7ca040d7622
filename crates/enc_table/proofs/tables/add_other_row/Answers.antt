use Rattle.std.proofs.Common.{◌∙◌, List, subst, sym}
use Rattle.std.proofs.lemmas.Result.{on_ok_weaker}
use Rattle.enc_atoms.specs.declared.atoms.Atom.{Atom}
use Rattle.enc_atoms.specs.Steps.{AreAtomsOf}
use Rattle.enc_table.proofs.RowLemmas.{others_clause, others_within}
use Rattle.enc_table.proofs.tables.add_other_row.Goals as goal

pub add_guarded-requires-clause-names : goal.add_guarded-requires-clause-names
add_guarded-requires-clause-names c = subst (λ (those : List Atom). AreAtomsOf c.args.layout.now those) (sym (c.deref.ensures.value ∙ c.in_ok-atoms.ensures)) (others_within c.args.layout.now c.args.vars.now c.args.row.now c.requires.within)

pub returns : goal.returns
returns c =
    on_ok_weaker c.add_guarded.result
    (others_clause c.args.layout.now c.args.f.now c.add_guarded.new.f c.args.guard.now c.deref.result.now c.args.vars.now c.args.row.now c.requires.ready.is_layout c.requires.fits (c.deref.ensures.value ∙ c.in_ok-atoms.ensures))
    c.add_guarded.ensures
