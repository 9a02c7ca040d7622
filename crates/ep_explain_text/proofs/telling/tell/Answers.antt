use Rattle.std.proofs.Common.{◌∙◌, sym, subst}
use Rattle.cnf_core.specs.Events.{LogState}
use Rattle.ep_instance_parts.specs.Instances.{instance_mode, plain_instance}
use Rattle.sat_search.specs.Logs.{IsSound}
use Rattle.ep_explain_text.proofs.Sayings.{begins_sound, told_logged, told_right, typed_parts}
use Rattle.ep_explain_text.proofs.telling.tell.Goals as goal

pub print_explanation-requires : goal.print_explanation-requires
print_explanation-requires c = record {
  typed = typed_parts (instance_mode c.args.instance.now) (plain_instance c.args.instance.now) _ _ c.in_ok-said.said c.in_ok-said.ensures.right;
}

pub returns : goal.returns
returns c = record {
  told = record {
    said = c.in_ok-said.said;
    right = told_right (instance_mode c.args.instance.now) (plain_instance c.args.instance.now) _ c.args.conflicts _ c.into_log.result c.in_ok-said.said
        (c.in_ok-said.ensures.budget ∙ c.new-searches.ensures.budget) c.into_log.ensures c.in_ok-said.ensures.right;
    logged = told_logged (instance_mode c.args.instance.now) (plain_instance c.args.instance.now) _ c.args.conflicts _ c.into_log.result
        (c.in_ok-said.ensures.budget ∙ c.new-searches.ensures.budget) c.into_log.ensures c.in_ok-said.ensures.shown;
    ends = c.leaves_open-is_open.ensures;
    text_is = c.in_ok-text.ensures.text;
  };
  sound = λ _. subst (λ (l : LogState). IsSound l.events) (sym c.into_log.ensures)
      (c.in_ok-said.ensures.sound (begins_sound c.new-searches.result.log c.new-searches.ensures.empty));
}
