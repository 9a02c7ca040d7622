use Rattle.std.proofs.Common.{w64, rules}
use Rattle.std.proofs.lemmas.Int.{to_z-of_z}
use Rattle.enc_arith.proofs.Cases.{adds_number, adds_whether}
use Rattle.enc_arith.proofs.telling.add_number.Goals as goal

pub returns-in_ok-add_more-in-Some-2 : goal.returns-in_ok-add_more-in-Some-2
returns-in_ok-add_more-in-Some-2 c =
    adds_whether _ _ _ _ _ _ _ c.in-Some.truth _ _ c.is_not.result c.is.result c.is-in-Some.result c.is-in-Some-2.result c.requires.ready c.in-Some.is (to_z-of_z w64 c.args.number (search rules))
    c.is_not.ensures c.is.ensures c.is-in-Some.ensures c.is-in-Some-2.ensures c.in_ok-add_more-in-Some.ensures c.in_ok-add_more-in-Some-2.ensures

pub returns-in_ok-add_more-in-None : goal.returns-in_ok-add_more-in-None
returns-in_ok-add_more-in-None c =
    adds_number _ _ _ _ _ _ _ _ c.is-in-None.result c.requires.ready c.in-None.is (to_z-of_z w64 c.args.number (search rules)) c.is-in-None.ensures c.in_ok-add_more-in-None.ensures
