use Rattle.std.proofs.Common.{◌≡◌, ◌∙◌, List, Result, Ok, Err, IfOk, map, ap, subst, sym}
use Rattle.cnf_core.specs.Events.{LogState}
use Rattle.ep_answer.specs.AnswerViews.{plain_answer, plain_problem}
use Rattle.ep_flat.specs.Flats.{StandForCells}
use Rattle.ep_flat.specs.FlatViews.{plain_map}
use Rattle.ep_ground.specs.declared.cells.Cell.{Cell}
use Rattle.ep_instance_parts.specs.Instances.{find_of, plain_instance, instance_mode}
use Rattle.ep_print.specs.Answers.{HasTypedValues, answer_tree}
use Rattle.ep_solve.specs.Reading.{answer_from}
use Rattle.ep_solve.specs.Logged.{IsLogged}
use Rattle.ep_solve.specs.Right.{IsRight}
use Rattle.ep_tree.specs.Binding.{Instance}
use Rattle.ep_tree.specs.declared.values.Mode.{Mode}
use Rattle.sat_search.specs.Logs.{IsSound}
use Rattle.ep_solve.proofs.Showing.{found-logged}
use Rattle.ep_solve.proofs.Solved.{SearchedFor, found-right, found-typed, posed-can-search}
use Rattle.ep_solve.proofs.solving.solve.Goals as goal

-- what holds of a value where another fact does
where-ok : {A E : Type 0} (r : Result A E) (P Q : A → Type 0) → IfOk r P → ((x : A) → P x → Q x) → IfOk r Q
where-ok (Ok x) P Q h more = more x h
where-ok (Err e) P Q h more = tt

pub posed-requires-clause-maps : goal.posed-requires-clause-maps
posed-requires-clause-maps c =
    let encoded = c.in_ok-encoded.encoded in
    subst (λ (cs : List Cell). StandForCells (map (λ one. one.values) cs) (map (λ e. e.domain) encoded.layout) (plain_map encoded.map).cells)
    (sym c.in_ok-encoded.ensures.cells) c.in_ok-encoded.ensures.stands.maps.cells

pub search-requires : goal.search-requires
search-requires c =
    let mode : Mode = instance_mode c.args.instance.now in
    let i : Instance = plain_instance c.args.instance.now in
    posed-can-search mode i (plain_problem c.in_ok-problem.problem) c.posed.new.log (c.in_ok-problem.ensures.poses mode i c.in_ok-encoded.ensures.stands c.in_ok-encoded.ensures.cells)

pub returns-clause-right : goal.returns-clause-right
returns-clause-right c =
    let mode : Mode = instance_mode c.args.instance.now in
    let i : Instance = plain_instance c.args.instance.now in
    let searched : SearchedFor mode i = record {
      closed = c.requires.closed;
      p = plain_problem c.in_ok-problem.problem;
      old = c.posed.new.log;
      new = c.search.new.log;
      poses = c.in_ok-problem.ensures.poses mode i c.in_ok-encoded.ensures.stands c.in_ok-encoded.ensures.cells;
      front = c.in_ok-found.ensures.front;
      base = c.in_ok-found.ensures.base;
    } in
    where-ok c.read_back.result
    (λ answer. answer_tree answer ≡ answer_from (map find_of c.finds.result.now) c.args.budget (plain_answer c.in_ok-found.found))
    (λ answer. IsRight mode i c.args.budget (answer_tree answer)) c.read_back.ensures (λ answer same.
    found-right mode i c.args.budget (plain_answer c.in_ok-found.found) (answer_tree answer) searched c.in_ok-found.ensures.answers.right
    (same ∙ ap (λ fs. answer_from fs c.args.budget (plain_answer c.in_ok-found.found)) c.finds.ensures))

pub returns-clause-typed : goal.returns-clause-typed
returns-clause-typed c =
    let mode : Mode = instance_mode c.args.instance.now in
    let i : Instance = plain_instance c.args.instance.now in
    let searched : SearchedFor mode i = record {
      closed = c.requires.closed;
      p = plain_problem c.in_ok-problem.problem;
      old = c.posed.new.log;
      new = c.search.new.log;
      poses = c.in_ok-problem.ensures.poses mode i c.in_ok-encoded.ensures.stands c.in_ok-encoded.ensures.cells;
      front = c.in_ok-found.ensures.front;
      base = c.in_ok-found.ensures.base;
    } in
    where-ok c.read_back.result
    (λ answer. answer_tree answer ≡ answer_from (map find_of c.finds.result.now) c.args.budget (plain_answer c.in_ok-found.found))
    (λ answer. HasTypedValues (answer_tree answer)) c.read_back.ensures (λ answer same.
    found-typed mode i c.args.budget (plain_answer c.in_ok-found.found) (answer_tree answer) searched c.in_ok-found.ensures.answers.right
    (same ∙ ap (λ fs. answer_from fs c.args.budget (plain_answer c.in_ok-found.found)) c.finds.ensures))

pub returns-clause-logged : goal.returns-clause-logged
returns-clause-logged c =
    let mode : Mode = instance_mode c.args.instance.now in
    let i : Instance = plain_instance c.args.instance.now in
    let searched : SearchedFor mode i = record {
      closed = c.requires.closed;
      p = plain_problem c.in_ok-problem.problem;
      old = c.posed.new.log;
      new = c.search.new.log;
      poses = c.in_ok-problem.ensures.poses mode i c.in_ok-encoded.ensures.stands c.in_ok-encoded.ensures.cells;
      front = c.in_ok-found.ensures.front;
      base = c.in_ok-found.ensures.base;
    } in
    where-ok c.read_back.result
    (λ answer. answer_tree answer ≡ answer_from (map find_of c.finds.result.now) c.args.budget (plain_answer c.in_ok-found.found))
    (λ answer. IsLogged mode i c.args.budget c.search.new.log (answer_tree answer)) c.read_back.ensures (λ answer same.
    found-logged mode i c.args.budget (plain_answer c.in_ok-found.found) (answer_tree answer) searched c.in_ok-found.ensures.notes c.in_ok-found.ensures.adds c.in_ok-found.ensures.answers
    (same ∙ ap (λ fs. answer_from fs c.args.budget (plain_answer c.in_ok-found.found)) c.finds.ensures))

pub returns-in_err-encoded-clause-sound : goal.returns-in_err-encoded-clause-sound
returns-in_err-encoded-clause-sound c =
    subst (λ (log : LogState). IsSound log.events) (sym c.requires.empty) (record { valid = tt; new = tt; effective = tt })
