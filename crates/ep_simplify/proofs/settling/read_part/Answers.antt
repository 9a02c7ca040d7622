use Rattle.std.proofs.Common.{◌∙◌, ℕ, ℤ, List, subst, sym}
use Rattle.ep_simplify.specs.Settling.{Picks}
use Rattle.ep_simplify.proofs.Picking.{pick_of_none, pick_settles}
use Rattle.ep_simplify.proofs.settling.read_part.Goals as goal

pub returns-in-Some : goal.returns-in-Some
returns-in-Some c =
    pick_settles c.args.cells.now c.args.news.now c.args.parts.items c.args.keys.items c.args.indices.now c.args.numbers.now c.in-Some.part c.requires.news c.requires.parts c.requires.indices c.requires.numbers
    (subst (λ (ts : List ℕ). Picks ts c.args.keys.items c.args.numbers.now c.in-Some.part) c.deref.ensures.value
    (subst (λ (ks : List (List ℤ)). Picks c.deref.result.now ks c.args.numbers.now c.in-Some.part) c.deref-2.ensures.value c.in-Some.ensures.picks))

pub returns : goal.returns
returns c =
    pick_of_none c.args.cells.now c.args.news.now c.number.new.news c.args.parts.items c.args.keys.items c.args.indices.now c.in_ok-nothing.nothing c.requires.news c.requires.indices
    (sym c.deref.ensures.value ∙ c.picked_part.ensures.none c.in_default.is) c.in_ok-nothing.ensures
