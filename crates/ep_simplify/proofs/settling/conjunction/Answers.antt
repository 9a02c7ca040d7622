use Rattle.std.proofs.Common.{◌<◌, ◌∙◌, ℕ, ap, false, length, refl, subst, sym}
use Rattle.std.specs.List.{All, Any}
use Rattle.ep_ground.specs.Grounds.{StandsOver}
use Rattle.ep_ground.specs.Nodes.{is_partial, parts_of}
use Rattle.ep_simplify.proofs.Joining.{and_of_false, and_of_left, and_of_none, and_of_one, and_untold, left_more, left_nothing, left_truth, rest_below, rest_open}
use Rattle.ep_simplify.specs.Decided.{IsNumber, IsOpen}
use Rattle.ep_simplify.specs.Settling.{IsTruthNumber, open_parts}
use Rattle.ep_simplify.proofs.settling.conjunction.Goals as goal

pub has_said-requires : goal.has_said-requires
has_said-requires c = subst (All (λ (t : ℕ). t < length c.args.news.now.arena)) (sym c.deref.ensures.value) c.requires.parts

pub open_parts-requires : goal.open_parts-requires
open_parts-requires c = subst (All (λ (t : ℕ). t < length c.args.news.now.arena)) (sym c.deref-2.ensures.value) c.requires.parts

pub left_of-requires : goal.left_of-requires
left_of-requires c =
    let nodes = c.args.news.now.arena in
    let same = c.in_ok-rest.ensures ∙ ap (open_parts nodes) c.deref-2.ensures.value in
    subst (All (λ (t : ℕ). t < length nodes)) (sym c.deref-3.ensures.value) (subst (All (λ (t : ℕ). t < length nodes)) (sym same) (rest_below nodes c.args.parts.items c.requires.parts))

pub take-requires : goal.take-requires
unfolding parts_of is_partial StandsOver IsOpen
take-requires c =
    let nodes = c.args.news.now.arena in
    let same = c.in_ok-rest.ensures ∙ ap (open_parts nodes) c.deref-2.ensures.value in
    let more = left_more c.args.cells.now c.args.news.now c.in_ok-rest.rest.items c.deref-3.result.now c.left_of.result c.deref-3.ensures.value c.in-More.is (c.left_of.ensures c.args.cells.now c.requires.news) in
    record {
      news = c.requires.news;
      room = c.requires.room;
      parts = subst (All (λ (t : ℕ). t < length nodes)) (sym same) (rest_below nodes c.args.parts.items c.requires.parts);
      safe = record { whole = refl; stands = tt };
      undecided = (more.0, subst (All (λ (t : ℕ). IsNumber nodes t → ⊥)) (sym same) (rest_open nodes c.args.parts.items));
      untold = λ were own. and_untold c.args.cells.now c.args.news.now c.in_ok-rest.rest.items more.1 were;
    }

pub returns-then-has_said : goal.returns-then-has_said
returns-then-has_said c =
    and_of_false c.args.cells.now c.args.news.now c.truth.new.news c.args.parts.items c.in_ok-outcome.outcome c.requires.news c.requires.parts
    (subst (Any (IsTruthNumber c.args.news.now.arena false)) c.deref.ensures.value (c.has_said.ensures.found c.if-has_said.true)) c.in_ok-outcome.ensures

pub returns-in-Nothing : goal.returns-in-Nothing
returns-in-Nothing c =
    and_of_none c.args.cells.now c.args.news.now c.truth-in-Nothing.new.news c.args.parts.items c.in_ok-rest.rest.items c.in_ok-outcome-in-Nothing.outcome c.requires.news c.requires.parts
    (subst (All (λ (t : ℕ). IsTruthNumber c.args.news.now.arena false t → ⊥)) c.deref.ensures.value (c.has_said.ensures.none c.if-has_said.false))
    (c.in_ok-rest.ensures ∙ ap (open_parts c.args.news.now.arena) c.deref-2.ensures.value)
    (left_nothing c.args.cells.now c.args.news.now c.in_ok-rest.rest.items c.deref-3.result.now c.left_of.result c.deref-3.ensures.value c.in-Nothing.is (c.left_of.ensures c.args.cells.now c.requires.news)) c.in_ok-outcome-in-Nothing.ensures

pub returns-in-Truth : goal.returns-in-Truth
returns-in-Truth c =
    and_of_one c.args.cells.now c.args.news.now c.args.parts.items c.in_ok-rest.rest.items c.in-Truth.part c.requires.news c.requires.parts
    (subst (All (λ (t : ℕ). IsTruthNumber c.args.news.now.arena false t → ⊥)) c.deref.ensures.value (c.has_said.ensures.none c.if-has_said.false))
    (c.in_ok-rest.ensures ∙ ap (open_parts c.args.news.now.arena) c.deref-2.ensures.value)
    (left_truth c.args.cells.now c.args.news.now c.in_ok-rest.rest.items c.deref-3.result.now c.left_of.result c.in-Truth.part c.deref-3.ensures.value c.in-Truth.is (c.left_of.ensures c.args.cells.now c.requires.news))

pub returns : goal.returns
returns c =
    and_of_left c.args.cells.now c.args.news.now c.take.new.news c.args.parts.items c.in_ok-rest.rest.items c.in_ok-own-in-More.own c.requires.news c.requires.parts
    (subst (All (λ (t : ℕ). IsTruthNumber c.args.news.now.arena false t → ⊥)) c.deref.ensures.value (c.has_said.ensures.none c.if-has_said.false))
    (c.in_ok-rest.ensures ∙ ap (open_parts c.args.news.now.arena) c.deref-2.ensures.value) c.in_ok-own-in-More.ensures
