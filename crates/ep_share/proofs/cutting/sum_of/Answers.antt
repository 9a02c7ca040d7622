use Rattle.std.proofs.Common.{◌≡◌, ◌∙◌, ℤ, of_z, rules, subst, sym, to_z, w64}
use Rattle.std.proofs.lemmas.Int.{to_z-of_z}
use Rattle.ep_ground.specs.Nodes.{sum}
use Rattle.ep_share.proofs.Settled.{lone_settles, sum_can, taken_settles}
use Rattle.ep_share.proofs.TwoParts.{far_cut}
use Rattle.ep_share.specs.Standing.{IsSettled}
use Rattle.ep_share.proofs.cutting.sum_of.Goals as goal

pub returns-in-Some : goal.returns-in-Some
returns-in-Some c =
    let number : to_z w64 (of_z w64 c.args.number) ≡ c.args.number = to_z-of_z w64 c.args.number (search rules) in
    lone_settles c.args.cells.now c.args.made.now c.args.number c.args.parts.items c.in-Some.term c.requires.made (sym number ∙ c.in-Some.ensures.number) (sym c.deref.ensures.value ∙ c.in-Some.ensures.part) c.requires.parts

pub take-requires-clause-node : goal.take-requires-clause-node
take-requires-clause-node c = sum_can c.args.cells.now c.args.made.now (to_z w64 (of_z w64 c.args.number)) c.args.parts.items c.requires.small c.requires.parts

pub take-requires-clause-cut : goal.take-requires-clause-cut
take-requires-clause-cut c = far_cut _ (to_z w64 (of_z w64 c.args.number)) c.args.parts.items c.requires.far

pub returns : goal.returns
returns c =
    let number : to_z w64 (of_z w64 c.args.number) ≡ c.args.number = to_z-of_z w64 c.args.number (search rules) in
    subst (λ (n : ℤ). IsSettled c.args.cells.now 1 c.args.made.now (sum n c.args.parts.items) c.take.new.made c.in_ok-term.term) number
    (taken_settles c.args.cells.now c.args.made.now c.take.new.made (sum (to_z w64 (of_z w64 c.args.number)) c.args.parts.items) c.in_ok-term.term c.requires.made
    (sum_can c.args.cells.now c.args.made.now (to_z w64 (of_z w64 c.args.number)) c.args.parts.items c.requires.small c.requires.parts).parts c.in_ok-term.ensures)
