use Rattle.std.proofs.Common.{rules, refl, ◌≡◌, ◌∷◌, [], pos, negsuc, w64, to_z, of_z}
use Rattle.std.specs.Prelude.{neg_ℤ}
use Rattle.ep_ground.specs.Nodes as nodes
use Rattle.ep_ground.specs.Nodes.{GroundNode}
use Rattle.ep_flatten.specs.FormViews.{plain_forms, plain_sum}
use Rattle.ep_flatten.specs.Sums.{SumState}
use Rattle.ep_flatten.proofs.SumLaws.{gathers_more, gathers_none}
use Rattle.ep_flatten.proofs.FormLaws.{next_compare, next_own}
use Rattle.ep_flatten.proofs.forms.difference_form.Goals as goal

pub returns-in_default : goal.returns-in_default
returns-in_default c = next_own (plain_forms c.args.forms.now) (nodes.compare c.args.op c.args.one c.args.other)

pub returns : goal.returns
returns c =
    let start : SumState = record { number = pos 0; parts = c.new.result.items } in
    let one = plain_sum c.join.new.sum in
    let both = plain_sum c.join-2.new.sum in
    let bound : to_z w64 (of_z w64 c.in-Some.number) ≡ neg_ℤ both.number = search (rules, c.in-Some.ensures) in
    next_compare (plain_forms c.args.forms.now) c.args.op c.args.one c.args.other both (to_z w64 (of_z w64 c.in-Some.number)) bound
    (λ nodes have.
    gathers_more nodes (pos 0) ((pos 1, c.args.one) ∷ []) (negsuc 0) c.args.other one both
    (gathers_more nodes (pos 0) [] (pos 1) c.args.one start one (gathers_none nodes (pos 0) start refl c.new.ensures.items) (c.in_ok-join.ensures nodes have))
    (c.in_ok-join-2.ensures nodes have))
