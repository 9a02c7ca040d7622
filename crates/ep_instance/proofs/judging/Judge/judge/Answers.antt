use Rattle.std.proofs.Common.{◌∙◌, All, IsTrue, ap, map, subst, sym}
use Rattle.std.specs.List.{list_all}
use Rattle.ep_eval.specs.Known.{env_of}
use Rattle.ep_tree.specs.TypedValues.{is_number_of}
use Rattle.ep_tree.specs.Views.{assigned, named_value}
use Rattle.ep_instance_parts.specs.Instances.{plain_instance, instance_mode}
use Rattle.ep_instance.specs.Assigning.{HasFit}
use Rattle.ep_instance.proofs.AssigningSteps.{all_fit}
use Rattle.ep_instance.proofs.JudgingSteps.{agree_again, judged_after, passes_after, under_given}
use Rattle.ep_instance.proofs.judging.Judge.judge.Goals as goal

pub set_finds-requires : goal.set_finds-requires
set_finds-requires c =
    record {
      values = subst (λ fs. All (λ f. IsTrue (list_all (is_number_of f.scalar) f.values)) fs) (sym c.finds.ensures) c.requires.closed.values;
      fits = subst (λ fs. All (HasFit (map named_value c.deref.result.now)) fs) (sym c.finds.ensures)
          (subst (λ a. All (HasFit a) (plain_instance c.args.instance.now).finds) (sym (ap (map named_value) c.deref.ensures.value)) (all_fit (plain_instance c.args.instance.now).finds (assigned c.args.a.now) c.requires.fits.0 c.requires.fits.1.values));
    }

pub returns-in_err-set_finds-clause-own : goal.returns-in_err-set_finds-clause-own
returns-in_err-set_finds-clause-own c =
    let i = plain_instance c.args.instance.now in
    record {
      in_mode = c.set_finds.ensures.mode ∙ c.requires.own.in_mode;
      elsewhere = agree_again _ i.finds (env_of c.set_finds.new.env) (env_of c.args.self.now.env) i.env c.finds.ensures c.set_finds.ensures.elsewhere c.requires.own.elsewhere;
    }

pub returns-clause-own : goal.returns-clause-own
returns-clause-own c =
    let i = plain_instance c.args.instance.now in
    record {
      in_mode = c.set_finds.ensures.mode ∙ c.requires.own.in_mode;
      elsewhere = agree_again _ i.finds (env_of c.set_finds.new.env) (env_of c.args.self.now.env) i.env c.finds.ensures c.set_finds.ensures.elsewhere c.requires.own.elsewhere;
    }

pub returns-clause-judgement : goal.returns-clause-judgement
returns-clause-judgement c =
    let i = plain_instance c.args.instance.now in
    judged_after (instance_mode c.args.instance.now) _ i (assigned c.args.a.now) (env_of c.args.self.now.env) (env_of c.set_finds.new.env) c.judged_in.result (c.set_finds.ensures.mode ∙ c.requires.own.in_mode)
    (under_given _ _ _ _ _ _ c.finds.ensures (ap (map named_value) c.deref.ensures.value) c.in_ok-set_finds.ensures.known) c.requires.own.elsewhere c.judged_in.ensures

pub judged_in-requires : goal.judged_in-requires
judged_in-requires c =
    let i = plain_instance c.args.instance.now in
    passes_after (instance_mode c.args.instance.now) _ i (assigned c.args.a.now) (env_of c.args.self.now.env) (env_of c.set_finds.new.env) (c.set_finds.ensures.mode ∙ c.requires.own.in_mode)
    c.requires.closed c.requires.small c.requires.fits
    (under_given _ _ _ _ _ _ c.finds.ensures (ap (map named_value) c.deref.ensures.value) c.in_ok-set_finds.ensures.known) c.requires.own.elsewhere
