use Rattle.std.proofs.Common.{refl}
use Rattle.ep_instance_parts.specs.Instances.{instance_mode, plain_instance}
use Rattle.ep_explain.specs.Tried.{was_spent}
use Rattle.ep_explain.proofs.Solving.{empty_right, found_right, never_optimum, spent_right}
use Rattle.ep_explain.proofs.searches.SearchesTries.attempt.Goals as goal

pub returns-in-Solution : goal.returns-in-Solution
unfolding was_spent
returns-in-Solution c = record {
  right = found_right (instance_mode c.args.instance.now) (plain_instance c.args.instance.now) c.args.self.now.conflicts c.solve.new.log c.in_ok-answer.answer c.in-Solution.a c.in-Solution.is
      c.in_ok-answer.ensures.right c.in_ok-answer.ensures.typed;
  spent = refl;
  shown = (_, c.in_ok-answer.ensures.logged);
  budget = refl;
  sound = c.in_ok-answer.ensures.sound;
}

pub returns-in-NoSolution : goal.returns-in-NoSolution
unfolding was_spent
returns-in-NoSolution c = record {
  right = empty_right (instance_mode c.args.instance.now) (plain_instance c.args.instance.now) c.args.self.now.conflicts c.solve.new.log c.in_ok-answer.answer c.in-NoSolution.is
      c.in_ok-answer.ensures.right;
  spent = refl;
  shown = (_, c.in_ok-answer.ensures.logged);
  budget = refl;
  sound = c.in_ok-answer.ensures.sound;
}

pub returns-in-Unknown : goal.returns-in-Unknown
unfolding was_spent
returns-in-Unknown c = record {
  right = spent_right (instance_mode c.args.instance.now) (plain_instance c.args.instance.now) c.args.self.now.conflicts c.in-Unknown.conflicts c.solve.new.log c.in_ok-answer.answer
      c.in-Unknown.incumbent c.requires.plain c.in-Unknown.is c.in_ok-answer.ensures.right c.in_ok-answer.ensures.logged;
  spent = refl;
  shown = (_, c.in_ok-answer.ensures.logged);
  budget = refl;
  sound = c.in_ok-answer.ensures.sound;
}

pub unreachable-requires : goal.unreachable-requires
unreachable-requires c =
    never_optimum (instance_mode c.args.instance.now) (plain_instance c.args.instance.now) c.args.self.now.conflicts c.in_ok-answer.answer _ _ c.requires.plain c.in-Optimum.is c.in_ok-answer.ensures.right
