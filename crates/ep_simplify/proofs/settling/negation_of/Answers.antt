use Rattle.std.proofs.Common.{Some, ap, false, refl, rules, sym, w64, ◌∙◌}
use Rattle.std.proofs.lemmas.Int.{to_z-of_z}
use Rattle.ep_base.specs.Numbers.{is_one}
use Rattle.ep_base.specs.Reads.{same_bool}
use Rattle.ep_defined.specs.Growing.{IsNodeAt}
use Rattle.ep_ground.specs.Grounds.{StandsOver}
use Rattle.ep_ground.specs.NodeViews.{plain_node}
use Rattle.ep_ground.specs.Nodes.{compare, is_partial, negation, parts_of}
use Rattle.ep_simplify.proofs.Negating.{below_at, comparison_negated, first_below, number_negated, open_contrary, open_other, other_untold, was_comparison, was_negation, was_number}
use Rattle.ep_simplify.proofs.Taking.{own_settles}
use Rattle.ep_simplify.proofs.Untold.{contrary_untold}
use Rattle.ep_simplify.proofs.settling.negation_of.Goals as goal

pub node-requires : goal.node-requires
node-requires c = first_below c.args.news.now.arena c.args.a c.requires.parts

pub take-requires : goal.take-requires
unfolding parts_of is_partial StandsOver
take-requires c =
    let op = c.in-Compare.op in
    let x = c.in-Compare.x in
    let y = c.in-Compare.y in
    let at : IsNodeAt c.args.news.now.arena c.args.a (compare op x y) =
    c.node.ensures.node ∙ ap (λ n. Some n) (was_comparison (plain_node c.node.result.now) op x y (sym c.negated_form.ensures ∙ c.in-Compare.is)) in
    record {
      news = c.requires.news;
      room = c.requires.room;
      parts = below_at c.args.cells.now c.args.news.now c.args.a (compare op x y) c.requires.news at;
      safe = record { whole = refl; stands = tt };
      undecided = open_contrary c.args.cells.now c.args.news.now c.args.a op c.contrary.result x y c.requires.news at;
      untold = λ were own. contrary_untold c.args.cells.now c.args.news.now op c.contrary.result c.args.a x y c.requires.news at c.contrary.ensures were;
    }

pub double_negation-requires : goal.double_negation-requires
double_negation-requires c = record {
  news = c.requires.news;
  room = c.requires.room;
  parts = c.requires.parts;
  inner = c.node.ensures.node ∙ ap (λ n. Some n) (was_negation (plain_node c.node.result.now) c.in-Not.inner (sym c.negated_form.ensures ∙ c.in-Not.is));
}

pub take-requires-in-Other : goal.take-requires-in-Other
unfolding parts_of is_partial StandsOver
take-requires-in-Other c = record {
  news = c.requires.news;
  room = c.requires.room;
  parts = c.requires.parts;
  safe = record { whole = refl; stands = tt };
  undecided = open_other c.args.news.now.arena c.args.a (plain_node c.node.result.now) c.node.ensures.node (sym c.negated_form.ensures ∙ c.in-Other.is);
  untold = λ were own. other_untold c.args.cells.now c.args.news.now.arena c.args.a (plain_node c.node.result.now) c.node.ensures.node (sym c.negated_form.ensures ∙ c.in-Other.is);
}

pub returns-in_ok-outcome-in-Number : goal.returns-in_ok-outcome-in-Number
returns-in_ok-outcome-in-Number c =
    number_negated c.args.cells.now c.args.news.now c.truth.new.news c.args.a c.in-Number.x c.is_said.result c.in_ok-outcome-in-Number.outcome c.requires.news (first_below c.args.news.now.arena c.args.a c.requires.parts)
    (c.node.ensures.node ∙ ap (λ n. Some n) (was_number (plain_node c.node.result.now) c.in-Number.x (sym c.negated_form.ensures ∙ c.in-Number.is)))
    (c.is_said.ensures ∙ ap (λ n. same_bool false (is_one n)) (to_z-of_z w64 c.in-Number.x (search rules))) c.in_ok-outcome-in-Number.ensures

pub returns-in_ok-contrary-in-Compare : goal.returns-in_ok-contrary-in-Compare
returns-in_ok-contrary-in-Compare c =
    comparison_negated c.args.cells.now c.args.news.now c.take.new.news c.in-Compare.op c.contrary.result c.args.a c.in-Compare.x c.in-Compare.y c.in_ok-contrary-in-Compare.contrary c.requires.news (first_below c.args.news.now.arena c.args.a c.requires.parts)
    (c.node.ensures.node ∙ ap (λ n. Some n) (was_comparison (plain_node c.node.result.now) c.in-Compare.op c.in-Compare.x c.in-Compare.y (sym c.negated_form.ensures ∙ c.in-Compare.is))) c.contrary.ensures c.in_ok-contrary-in-Compare.ensures

pub returns-in_ok-own-in-Other : goal.returns-in_ok-own-in-Other
unfolding parts_of
returns-in_ok-own-in-Other c = own_settles c.args.cells.now c.args.news.now c.take-in-Other.new.news (negation c.args.a) c.in_ok-own-in-Other.own c.requires.news c.requires.parts c.in_ok-own-in-Other.ensures
