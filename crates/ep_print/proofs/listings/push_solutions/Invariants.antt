use Rattle.std.proofs.Common.{◌≡◌, ◌+◌, ◌++◌, drop, map}
use Rattle.ep_tree.specs.Views.{assigned}
use Rattle.ep_print.specs.Listings.{solution_texts}
use Rattle.ep_print.proofs.listings.push_solutions.Given as goal

abbrev pub invariant-loop-solution : goal.invariant-loop-solution
invariant-loop-solution l = record {
  counted : l.number ≡ l.solution-index + 1;
  so_far : l.text.items ++ solution_texts l.number (map assigned (drop l.solution-index l.found)) ≡ l.initial.text.items ++ solution_texts 1 (map assigned l.found);
}
