use Rattle.std.proofs.Common.{◌∙◌, [], ◌∷◌, ap}
use Rattle.std.proofs.lemmas.Result.{on_ok_weaker}
use Rattle.enc_atoms.proofs.Naming.{atoms_of}
use Rattle.enc_count.proofs.Counting.{untold_whole}
use Rattle.enc_count.proofs.counts.add_some_untold.Goals as goal

pub add_guarded-requires-clause-names : goal.add_guarded-requires-clause-names
add_guarded-requires-clause-names c = atoms_of c.args.layout.now c.args.told.now _ c.deref.result.now (c.deref.ensures.value ∙ c.in_ok-atoms.ensures) c.requires.told

pub returns : goal.returns
returns c =
    on_ok_weaker c.add_guarded.result
    (untold_whole c.args.layout.now c.args.f.now c.add_guarded.new.f (c.is_not.result ∷ []) c.deref.result.now c.args.truth c.args.told.now c.requires.ready.is_layout (ap (λ a. a ∷ []) c.is_not.ensures) (c.deref.ensures.value ∙ c.in_ok-atoms.ensures))
    c.add_guarded.ensures
