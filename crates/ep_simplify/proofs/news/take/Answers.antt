use Rattle.std.proofs.Common.{◌∙◌, refl, sym}
use Rattle.ep_ground.specs.NodeViews.{plain_node}
use Rattle.ep_simplify.proofs.Taking.{taken_noted, taken_same}
use Rattle.ep_simplify.proofs.news.take.Goals as goal

pub returns-then-len-before : goal.returns-then-len-before
returns-then-len-before c =
    taken_same c.args.cells.now c.args.news.now _ (plain_node c.args.node) c.in_ok-term.term c.requires.news c.len.ensures.arena.before c.requires.parts c.requires.safe c.requires.undecided
    c.in_ok-term.ensures.term c.in_ok-term.ensures.arena (sym c.len.ensures.value ∙ c.if-len-before.true ∙ c.len-before.ensures.value) refl refl

pub returns : goal.returns
returns c =
    taken_noted c.args.cells.now c.args.news.now _ c.note.new.news (plain_node c.args.node) c.in_ok-term.term c.reach_in-reach.result c.requires.news c.len.ensures.arena.before c.requires.parts c.requires.safe c.requires.undecided c.requires.untold
    c.in_ok-term.ensures.term c.in_ok-term.ensures.arena (λ same. c.if-len-before.false (c.len.ensures.value ∙ same ∙ sym c.len-before.ensures.value)) refl refl c.reach_in-reach.ensures.near c.reach_in-reach.ensures.reach c.reach_in-reach.ensures.within c.reach_in-reach.ensures.coefficients c.reach_in-reach.ensures.told c.in_ok-note.ensures
