use Rattle.std.proofs.Common.{w64, rules}
use Rattle.std.proofs.lemmas.Int.{to_z-of_z}
use Rattle.enc_arith.proofs.Levels.{adds_compared}
use Rattle.enc_arith.proofs.extremes.add_compared.Goals as goal

pub returns : goal.returns
returns c =
    adds_compared _ _ _ _ c.compared.result _ _ _ _ c.requires.ready (to_z-of_z w64 c.args.number (search rules)) c.compared.ensures.means c.in_ok-add_more.ensures
