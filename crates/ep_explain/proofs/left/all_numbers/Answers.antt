use Rattle.std.proofs.Common.{◌≡◌, ◌∙◌, ap, sym, refl, length, arith}
use Rattle.std.specs.Prelude.{map}
use Rattle.std.proofs.lemmas.List.{length-map}
use Rattle.ep_instance_parts.specs.Instances.{plain_instance}
use Rattle.ep_tree.specs.Views.{expr_tree}
use Rattle.ep_explain.proofs.Numbers.{first_are, first_begun, first_turn, first_whole}
use Rattle.ep_explain.proofs.left.all_numbers.Goals as goal

pub loop-place-init : goal.loop-place-init
loop-place-init c = first_begun _ c.in_ok-numbers.ensures.items

pub loop-place-preserved : goal.loop-place-preserved
loop-place-preserved c = c.in_ok-push.ensures.items ∙ first_turn c.loop-place.numbers.items c.loop-place.place _ refl c.loop-place.invariant

pub returns-clause-numbers : goal.returns-clause-numbers
returns-clause-numbers c =
    let long : length (map expr_tree c.clauses-count.result.now) ≡ length c.clauses-count.result.now = length-map c.clauses-count.result.now expr_tree in
    let all : c.loop-place.place ≡ length c.clauses-count.result.now = omega arith in
    first_are (plain_instance c.args.instance.now) c.loop-place.place c.loop-place.numbers.items (all ∙ sym long ∙ ap length c.clauses-count.ensures) c.loop-place.invariant

pub returns-clause-whole : goal.returns-clause-whole
returns-clause-whole c =
    let long : length (map expr_tree c.clauses-count.result.now) ≡ length c.clauses-count.result.now = length-map c.clauses-count.result.now expr_tree in
    let all : c.loop-place.place ≡ length c.clauses-count.result.now = omega arith in
    first_whole (plain_instance c.args.instance.now) c.loop-place.place c.loop-place.numbers.items (all ∙ sym long ∙ ap length c.clauses-count.ensures) c.loop-place.invariant
