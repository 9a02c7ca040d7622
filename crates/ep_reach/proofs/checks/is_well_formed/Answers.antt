use Rattle.std.proofs.Common.{rules, ◌≡◌, ◌<◌, ℕ, List, ◌++◌, true, length, subst, sym, ◌∙◌}
use Rattle.std.specs.Prelude.{option_map, option_to_list}
use Rattle.std.specs.List.{All}
use Rattle.std.proofs.lemmas.List.Elements.{All-append}
use Rattle.ep_ground.specs.GroundViews.{plain_ground}
use Rattle.ep_ground.specs.Grounds.{StandsOver, named_terms}
use Rattle.ep_reach.proofs.Nodes.{all_first, all_second}
use Rattle.ep_reach.proofs.checks.is_well_formed.Goals as goal
use Rattle.ep_reach.proofs.checks.is_well_formed.Goals.{then-not-clauses-via-then-not-clauses, then-not-clauses-via-else-not-clauses+then-not-objective}

pub returns-clause-sound : goal.returns-clause-sound
unfolding named_terms
returns-clause-sound c h =
    let g = plain_ground c.args.ground.now in
    let long : c.len.result ≡ length g.cells = search rules in
    let goal_terms : List ℕ = option_to_list (option_map (λ x. x.1) g.objective) in
    record {
      terms =
          subst (λ (n : ℕ). All (λ t. t < n) (named_terms g)) c.len-nodes.ensures.value
          (All-append (λ t. t < c.len-nodes.result) g.clauses goal_terms
          (subst (λ (ts : List ℕ). All (λ t. t < c.len-nodes.result) ts) c.deref.ensures.value (c.are_terms-clauses.ensures.sound c.if-not-clauses.false))
          (c.is_goal-objective.ensures.sound c.if-not-objective.false));
      nodes = subst (λ (n : ℕ). All (StandsOver n) g.nodes) long (c.all_stand_over-stand.ensures.sound h);
    }

pub returns-then-not-clauses-clause-complete : goal.returns-then-not-clauses-clause-complete
unfolding named_terms
returns-then-not-clauses-clause-complete c w =
    let g = plain_ground c.args.ground.now in
    let goal_terms : List ℕ = option_to_list (option_map (λ x. x.1) g.objective) in
    let below : All (λ t. t < c.len-nodes.result) (g.clauses ++ goal_terms) = subst (λ (n : ℕ). All (λ t. t < n) (g.clauses ++ goal_terms)) (sym c.len-nodes.ensures.value) w.terms in
    let clauses : c.are_terms-clauses.result ≡ true =
    c.are_terms-clauses.ensures.complete
    (subst (λ (ts : List ℕ). All (λ t. t < c.len-nodes.result) ts) (sym c.deref.ensures.value) (all_first (λ t. t < c.len-nodes.result) g.clauses goal_terms below)) in
    let objective : c.is_goal-objective.result ≡ true = c.is_goal-objective.ensures.complete (all_second (λ t. t < c.len-nodes.result) g.clauses goal_terms below) in
    elim c.then-not-clauses.branch [
      | then-not-clauses-via-then-not-clauses u ↦ sym u.if-not-clauses.true ∙ clauses
      | then-not-clauses-via-else-not-clauses+then-not-objective u ↦ sym u.if-not-objective.true ∙ objective
    ]
