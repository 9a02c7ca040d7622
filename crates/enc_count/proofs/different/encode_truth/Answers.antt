use Rattle.std.proofs.Common.{[], ◌∷◌, ap}
use Rattle.std.proofs.lemmas.Result.{on_ok_weaker}
use Rattle.ep_base.specs.Numbers.{are_different}
use Rattle.ep_flat.specs.Cons.{numbers_of_vars}
use Rattle.enc_atoms.proofs.Guards.{adds_decided}
use Rattle.enc_count.proofs.different.encode_truth.Goals as goal

pub returns : goal.returns
returns c =
    on_ok_weaker c.add_some_equal.result
    (adds_decided c.args.layout.now c.args.f.now c.add_decided.new.f c.add_different.new.f c.add_some_equal.new.layout c.add_some_equal.new.f c.args.truth (c.is_not.result ∷ []) (c.is_not-2.result ∷ []) (λ values. are_different (numbers_of_vars values c.args.vars.now)) c.requires.ready.is_layout
    (ap (λ a. a ∷ []) c.is_not.ensures) (ap (λ a. a ∷ []) c.is_not-2.ensures) c.in_ok-add_decided.ensures c.in_ok-add_different.ensures)
    c.add_some_equal.ensures
