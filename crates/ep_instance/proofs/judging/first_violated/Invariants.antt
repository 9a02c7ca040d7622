use Rattle.std.proofs.Common.{◌≡◌, ◌+◌, drop, map}
use Rattle.ep_eval.specs.Known.{env_of}
use Rattle.ep_tree.specs.Evaluation.{first_untrue}
use Rattle.ep_tree.specs.Views.{expr_tree}
use Rattle.ep_instance.proofs.judging.first_violated.Given as goal

abbrev pub invariant-loop-clause : goal.invariant-loop-clause
invariant-loop-clause l =
    (first_untrue l.env.mode (env_of l.env) 1 (map expr_tree l.clauses) ≡ first_untrue l.env.mode (env_of l.env) l.number (map expr_tree (drop l.clause-index l.clauses)))
    × (l.number ≡ l.clause-index + 1)
