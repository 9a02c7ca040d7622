use Rattle.std.proofs.Common.{◌≡◌, ◌∙◌, ℤ, List, Result, Ok, Err, IfOk, map, ap, subst, sym}
use Rattle.cnf_core.specs.Events.{LogState}
use Rattle.ep_answer.specs.AnswerViews.{plain_end, plain_problem}
use Rattle.ep_flat.specs.Flats.{StandForCells}
use Rattle.ep_flat.specs.FlatViews.{plain_map}
use Rattle.ep_ground.specs.declared.cells.Cell.{Cell}
use Rattle.ep_instance_parts.specs.Instances.{find_of, plain_instance, instance_mode}
use Rattle.ep_print.specs.Listings.{listing_tree}
use Rattle.ep_solve.specs.Listed.{Lists}
use Rattle.ep_solve.specs.Reading.{listing_from}
use Rattle.ep_tree.specs.Binding.{Instance}
use Rattle.ep_tree.specs.declared.values.Mode.{Mode}
use Rattle.sat_search.specs.Logs.{IsSound}
use Rattle.ep_solve.proofs.ListingRight.{lists-right}
use Rattle.ep_solve.proofs.Solved.{SearchedFor, posed-can-search}
use Rattle.ep_solve.proofs.enumerating.enumerate.Goals as goal

-- what holds of a value where another fact does
where-ok : {A E : Type 0} (r : Result A E) (P Q : A → Type 0) → IfOk r P → ((x : A) → P x → Q x) → IfOk r Q
where-ok (Ok x) P Q h more = more x h
where-ok (Err e) P Q h more = tt

pub posed-requires-clause-maps : goal.posed-requires-clause-maps
posed-requires-clause-maps c =
    let encoded = c.in_ok-encoded.encoded in
    subst (λ (cs : List Cell). StandForCells (map (λ one. one.values) cs) (map (λ e. e.domain) encoded.layout) (plain_map encoded.map).cells)
    (sym c.in_ok-encoded.ensures.cells) c.in_ok-encoded.ensures.stands.maps.cells

pub enumerate-requires : goal.enumerate-requires
enumerate-requires c =
    let mode : Mode = instance_mode c.args.instance.now in
    let i : Instance = plain_instance c.args.instance.now in
    posed-can-search mode i (plain_problem c.in_ok-problem.problem) c.posed.new.log (c.in_ok-problem.ensures.poses mode i c.in_ok-encoded.ensures.stands c.in_ok-encoded.ensures.cells)

pub returns-clause-lists : goal.returns-clause-lists
returns-clause-lists c =
    let mode : Mode = instance_mode c.args.instance.now in
    let i : Instance = plain_instance c.args.instance.now in
    let found : List (List ℤ) = map (λ cells. cells.items) c.in_ok-found.found.found.items in
    let searched : SearchedFor mode i = record {
      closed = c.requires.closed;
      p = plain_problem c.in_ok-problem.problem;
      old = c.posed.new.log;
      new = c.enumerate.new.log;
      poses = c.in_ok-problem.ensures.poses mode i c.in_ok-encoded.ensures.stands c.in_ok-encoded.ensures.cells;
      front = c.in_ok-found.ensures.front;
      base = c.in_ok-found.ensures.base;
    } in
    where-ok c.listing_from.result
    (λ listing. listing_tree listing ≡ listing_from (map find_of c.finds.result.now) c.args.budget found (plain_end c.in_ok-found.found.end))
    (λ listing. Lists mode i c.args.budget c.args.most c.enumerate.new.log (listing_tree listing)) c.listing_from.ensures (λ listing same.
    lists-right mode i c.args.budget c.args.most found (plain_end c.in_ok-found.found.end) (listing_tree listing) searched c.in_ok-found.ensures.notes c.in_ok-found.ensures.lists
    (same ∙ ap (λ fs. listing_from fs c.args.budget found (plain_end c.in_ok-found.found.end)) c.finds.ensures))

pub returns-in_err-encoded-clause-sound : goal.returns-in_err-encoded-clause-sound
returns-in_err-encoded-clause-sound c =
    subst (λ (log : LogState). IsSound log.events) (sym c.requires.empty) (record { valid = tt; new = tt; effective = tt })
