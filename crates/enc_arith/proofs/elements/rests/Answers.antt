use Rattle.std.proofs.Common.{map, refl, ap, ◌∙◌}
use Rattle.enc_arith.specs.Elements.{rests_after}
use Rattle.enc_arith.specs.Entries.{plain_entry}
use Rattle.enc_arith.proofs.Entries.{rest_kept, rest_pushed}
use Rattle.enc_arith.proofs.elements.rests.Goals as goal
use Rattle.enc_arith.proofs.elements.rests.Goals.{in-Some+in_ok-push, in_default}

pub loop-one-init : goal.loop-one-init
unfolding rests_after
loop-one-init c = ap (map plain_entry) c.new-left.ensures.items

pub loop-one-preserved : goal.loop-one-preserved
loop-one-preserved c =
    elim c.match-rest_of.branch [
      | in-Some+in_ok-push w ↦ ap (λ v. map plain_entry v.items) w.left-is
          ∙ rest_pushed plain_entry _ _ c.args.entries.now c.loop-one.one-index _ c.loop-one.left.items _ c.rest_of.result w.in-Some.rest c.loop-one-test.true refl c.loop-one.invariant w.in-Some.is c.rest_of.ensures w.in_ok-push.ensures.items
      | in_default w ↦ ap (λ v. map plain_entry v.items) w.left-is
          ∙ rest_kept plain_entry _ _ c.args.entries.now c.loop-one.one-index _ c.loop-one.left.items c.rest_of.result c.loop-one-test.true refl c.loop-one.invariant w.in_default.is c.rest_of.ensures
    ]
