use Rattle.std.proofs.Common.{◌≡◌, ◌∙◌, List, Result, Ok, Err, IfOk, map, ap, subst, sym}
use Rattle.ep_answer.specs.AnswerViews.{plain_answer}
use Rattle.ep_cubes.specs.Divided.{AnswersByCubes}
use Rattle.ep_flat.specs.Flats.{MapsCells}
use Rattle.ep_flat.specs.FlatViews.{plain_map}
use Rattle.ep_ground.specs.declared.cells.Cell.{Cell}
use Rattle.ep_instance_parts.specs.Instances.{find_of, goal_of, instance_mode, plain_instance}
use Rattle.ep_print.specs.Answers.{HasTypedValues, answer_tree}
use Rattle.ep_solve.specs.Logged.{IsLogged}
use Rattle.ep_solve.specs.Reading.{answer_from}
use Rattle.ep_solve.specs.Right.{IsRight}
use Rattle.ep_tree.specs.Binding.{Instance}
use Rattle.ep_tree.specs.declared.values.Mode.{Mode}
use Rattle.ep_divided.specs.Divided.{IsLoggedAsDivided}
use Rattle.ep_divided.proofs.Showing.{AreSolvedFor, divided-logged, divided-new, divided-right, divided-typed, divided-valid, stated, undivided-logged, unstated}
use Rattle.ep_divided.proofs.dividing.solve_in_cubes.Given.{Over}
use Rattle.ep_divided.proofs.dividing.solve_in_cubes.Goals as goal
use Rattle.ep_divided.proofs.dividing.solve_in_cubes.Goals.{After-drop-encoded-7}

-- what holds of a value where another fact does
where-ok : {A E : Type 0} (r : Result A E) (P Q : A → Type 0) → IfOk r P → ((x : A) → P x → Q x) → IfOk r Q
where-ok (Ok x) P Q h more = more x h
where-ok (Err e) P Q h more = tt

pub find_in_cubes-requires-clause-maps : goal.find_in_cubes-requires-clause-maps
find_in_cubes-requires-clause-maps g c = λ κs lives.
    let encoded = c.in_ok-encoded.encoded in
    subst (λ (cs : List Cell). MapsCells (map (λ one. one.values) cs) (map (λ e. e.domain) encoded.layout) (plain_map encoded.map))
    (sym (c.deref.ensures.value ∙ c.in_ok-encoded.ensures.cells)) c.in_ok-encoded.ensures.stands.maps

pub returns-then-is_some-clause-logged : goal.returns-then-is_some-clause-logged
returns-then-is_some-clause-logged g c =
    let mode : Mode = instance_mode c.args.instance.now in
    let i : Instance = plain_instance c.args.instance.now in
    where-ok c.solve.result (λ answer. IsLogged mode i c.args.budget c.solve.new.log (answer_tree answer))
    (λ answer. IsLoggedAsDivided mode i c.args.cubes c.args.budget c.solve.new.log (answer_tree answer)) c.solve.ensures.logged
    (λ answer logged. undivided-logged mode i c.args.cubes c.args.budget c.solve.new.log (answer_tree answer)
    (stated (λ o. goal_of o.now) c.objective.result i.goal c.objective.ensures (sym c.is_some.ensures ∙ c.if-is_some.true)) logged)

-- the cubes of the instance's formula are solved
solved : (g : Over) (c : After-drop-encoded-7 g) → AreSolvedFor (instance_mode c.args.instance.now) (plain_instance c.args.instance.now) c.args.cubes c.args.budget
solved g c =
    let encoded = c.in_ok-encoded.encoded in
    record {
      closed = c.requires.closed;
      unstated = unstated (λ o. goal_of o.now) c.objective.result (plain_instance c.args.instance.now).goal c.objective.ensures (sym c.is_some.ensures ∙ c.if-is_some.false);
      layout = encoded.layout;
      variables = plain_map encoded.map;
      formula = encoded.formula;
      stands = c.in_ok-encoded.ensures.stands;
      log = c.in_ok-found.made;
      found = plain_answer c.in_ok-found.found;
      answers =
          subst (λ (cs : List Cell). AnswersByCubes encoded.layout cs (plain_map encoded.map) encoded.formula c.args.cubes c.args.budget c.in_ok-found.made (plain_answer c.in_ok-found.found))
          (c.deref.ensures.value ∙ c.in_ok-encoded.ensures.cells) c.in_ok-found.ensures;
    }

pub returns-clause-right : goal.returns-clause-right
unfolding solved
returns-clause-right g c =
    let mode : Mode = instance_mode c.args.instance.now in
    let i : Instance = plain_instance c.args.instance.now in
    where-ok c.read_back.result
    (λ answer. answer_tree answer ≡ answer_from (map find_of c.finds.result.now) c.args.budget (plain_answer c.in_ok-found.found))
    (λ answer. IsRight mode i c.args.budget (answer_tree answer)) c.read_back.ensures (λ answer same.
    divided-right mode i c.args.cubes c.args.budget (solved g c) (answer_tree answer)
    (same ∙ ap (λ fs. answer_from fs c.args.budget (plain_answer c.in_ok-found.found)) c.finds.ensures))

pub returns-clause-typed : goal.returns-clause-typed
unfolding solved
returns-clause-typed g c =
    let mode : Mode = instance_mode c.args.instance.now in
    let i : Instance = plain_instance c.args.instance.now in
    where-ok c.read_back.result
    (λ answer. answer_tree answer ≡ answer_from (map find_of c.finds.result.now) c.args.budget (plain_answer c.in_ok-found.found))
    (λ answer. HasTypedValues (answer_tree answer)) c.read_back.ensures (λ answer same.
    divided-typed mode i c.args.cubes c.args.budget (solved g c) (answer_tree answer)
    (same ∙ ap (λ fs. answer_from fs c.args.budget (plain_answer c.in_ok-found.found)) c.finds.ensures))

pub returns-clause-logged : goal.returns-clause-logged
unfolding solved
returns-clause-logged g c =
    let mode : Mode = instance_mode c.args.instance.now in
    let i : Instance = plain_instance c.args.instance.now in
    where-ok c.read_back.result
    (λ answer. answer_tree answer ≡ answer_from (map find_of c.finds.result.now) c.args.budget (plain_answer c.in_ok-found.found))
    (λ answer. IsLoggedAsDivided mode i c.args.cubes c.args.budget c.in_ok-found.made (answer_tree answer)) c.read_back.ensures (λ answer same.
    divided-logged mode i c.args.cubes c.args.budget (solved g c) (answer_tree answer)
    (same ∙ ap (λ fs. answer_from fs c.args.budget (plain_answer c.in_ok-found.found)) c.finds.ensures))

pub returns-clause-valid : goal.returns-clause-valid
unfolding solved
returns-clause-valid g c = divided-valid (instance_mode c.args.instance.now) (plain_instance c.args.instance.now) c.args.cubes c.args.budget (solved g c)

pub returns-clause-new : goal.returns-clause-new
unfolding solved
returns-clause-new g c = divided-new (instance_mode c.args.instance.now) (plain_instance c.args.instance.now) c.args.cubes c.args.budget (solved g c)
