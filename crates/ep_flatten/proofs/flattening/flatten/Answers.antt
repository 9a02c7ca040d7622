use Rattle.std.proofs.Common.{ap, subst, ◌∙◌, ◌≡◌, ℕ, List, ◌++◌}
use Rattle.std.specs.Prelude.{map, option_map}
use Rattle.std.proofs.lemmas.List.{map-append}
use Rattle.ep_flat.specs.FlatViews.{plain_con}
use Rattle.ep_ground.specs.GroundViews.{plain_ground}
use Rattle.ep_base.specs.declared.operators.Sense.{Sense}
use Rattle.ep_flatten.specs.FormViews.{plain_forms}
use Rattle.ep_flatten.specs.declared.forms.Form.{Form}
use Rattle.ep_flatten.specs.Building.{AreMarks, plain_built}
use Rattle.ep_flatten.specs.Saying.{variable_at}
use Rattle.ep_flatten.proofs.Standing.{stands}
use Rattle.ep_flatten.proofs.flattening.flatten.Goals as goal

pub returns : goal.returns
returns c =
    let g = plain_ground c.args.g.now in
    let made = c.in_ok-made.made in
    let marks = c.in_ok-marks.marks in
    let forms = c.in_ok-forms.forms in
    let tops = c.in_ok-tops.tops in
    let cons : map plain_con c.append.new.self.items ≡ map plain_con made.cons.items ++ map plain_con tops.items =
    ap (map plain_con) c.in_ok-append.ensures.items ∙ map-append plain_con made.cons.items tops.items in
    let goal_is : c.placed_goal-objective.result ≡ option_map (λ goal. (goal.0, variable_at made.places.items goal.1)) g.objective =
    c.placed_goal-objective.ensures
    ∙ ap (λ (ps : List ℕ). option_map {U = Sense × ℕ} (λ (goal : Sense × ℕ). (goal.0, variable_at ps goal.1)) g.objective) c.deref-4.ensures.value in
    let marked : AreMarks g (plain_forms forms.items) marks.asserted.items marks.marked.items = subst (λ (fs : List Form). AreMarks g (plain_forms fs) marks.asserted.items marks.marked.items) c.deref.ensures.value c.in_ok-marks.ensures in
    stands g (plain_forms forms.items) marks.asserted.items marks.marked.items (plain_built made) (map plain_con tops.items) (map plain_con c.append.new.self.items) c.placed_goal-objective.result
    c.in_ok-made.ensures marked c.requires.well_formed c.in_ok-tops.ensures cons goal_is
