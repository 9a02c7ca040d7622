use Rattle.std.proofs.Common.{ap, ◌∙◌}
use Rattle.ep_eval.specs.Known.{env_of}
use Rattle.ep_instance_parts.specs.Instances.{plain_instance}
use Rattle.ep_instance.proofs.JudgingSteps.{agree_same}
use Rattle.ep_instance.proofs.judging.Judge.new.Goals as goal

pub returns : goal.returns
returns c =
    record {
      in_mode = c.in_ok-env.ensures.mode ∙ ap (λ e. e.mode) c.env.ensures;
      elsewhere = agree_same (plain_instance c.args.instance.now).finds _ _ (c.in_ok-env.ensures.known ∙ ap env_of c.env.ensures);
    }
