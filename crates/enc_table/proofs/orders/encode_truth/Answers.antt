use Rattle.std.proofs.Common.{[], ◌∷◌, ap, pos, refl}
use Rattle.std.proofs.lemmas.Result.{on_ok_weaker}
use Rattle.enc_table.proofs.Links.{atoms_later, of_later, order_decided}
use Rattle.enc_table.proofs.RowLemmas.{guard_of}
use Rattle.enc_table.proofs.orders.encode_truth.Goals as goal

pub add_before-requires-clause-guard : goal.add_before-requires-clause-guard
add_before-requires-clause-guard c = guard_of c.args.layout.now c.args.truth (pos 1) c.is_not.result c.is_not.ensures c.requires.truth

pub add_before-requires-2-clause-guard : goal.add_before-requires-2-clause-guard
add_before-requires-2-clause-guard c = atoms_later c.args.layout.now c.add_decided.new.f c.add_before.new.layout c.add_before.new.f c.args.truth (pos 0) (c.is_not-2.result ∷ []) c.in_ok-add_before.ensures.goes_on (ap (λ a. a ∷ []) c.is_not-2.ensures) c.requires.truth

pub add_before-requires-2-clause-xs : goal.add_before-requires-2-clause-xs
add_before-requires-2-clause-xs c = of_later c.args.layout.now c.add_decided.new.f c.add_before.new.layout c.add_before.new.f c.args.ys.now c.in_ok-add_before.ensures.goes_on c.requires.ys

pub add_before-requires-2-clause-ys : goal.add_before-requires-2-clause-ys
add_before-requires-2-clause-ys c = of_later c.args.layout.now c.add_decided.new.f c.add_before.new.layout c.add_before.new.f c.args.xs.now c.in_ok-add_before.ensures.goes_on c.requires.xs

pub returns : goal.returns
returns c =
    on_ok_weaker c.add_before-2.result
    (order_decided c.args.layout.now c.args.f.now c.add_decided.new.f c.add_before.new.layout c.add_before.new.f c.add_before-2.new.layout c.add_before-2.new.f c.args.truth (c.is_not.result ∷ []) (c.is_not-2.result ∷ []) c.args.strict _ c.args.xs.now c.args.ys.now c.requires.ready.is_layout c.requires.truth c.requires.xs c.requires.ys
    (ap (λ a. a ∷ []) c.is_not.ensures) (ap (λ a. a ∷ []) c.is_not-2.ensures) refl c.in_ok-add_decided.ensures c.in_ok-add_before.ensures)
    c.add_before-2.ensures
