use Rattle.std.proofs.Common.{◌<◌, length, sym, subst, w64, rules}
use Rattle.std.proofs.lemmas.Int.{to_z-of_z}
use Rattle.std.specs.List.{All}
use Rattle.enc_atoms.specs.declared.atoms.Atom.{Atom}
use Rattle.enc_arith.proofs.Levels.{adds_gathered}
use Rattle.enc_arith.proofs.extremes.add_some.Goals as goal

pub add_clause-requires : goal.add_clause-requires
add_clause-requires c = record {
  from_new = c.requires.ready.from_new;
  is_layout = c.requires.ready.is_layout;
  names = subst (All (λ (a : Atom). a.var < length c.args.layout.now)) (sym c.as_slice.ensures.value) (c.in_ok-atoms.ensures.names (length c.args.layout.now) c.requires.names c.requires.there);
}

pub returns : goal.returns
returns c =
    adds_gathered _ _ _ c.args.when.now c.as_slice.result.now c.in_ok-atoms.atoms.items c.args.op c.args.xs.now c.args.number _ c.requires.ready c.as_slice.ensures.value (to_z-of_z w64 c.args.number (search rules))
    c.in_ok-atoms.ensures.means c.in_ok-add_clause.ensures
