use Rattle.std.proofs.Common.{ap, option_map}
use Rattle.ep_eval.specs.Known.{env_of}
use Rattle.ep_tree.specs.Environments.{context_of}
use Rattle.ep_tree.specs.Views.{domain_tree, expr_tree}
use Rattle.ep_instance_parts.proofs.Answering.{answers_same}
use Rattle.ep_instance_parts.specs.Refusals.{text_name}
use Rattle.ep_instance.proofs.ParamSteps.{stated_some, value_plain, value_stated}
use Rattle.ep_instance.proofs.lettings.bind_value.Goals as goal

pub returns-in-None-clause-known : goal.returns-in-None-clause-known
returns-in-None-clause-known c =
    answers_same _ c.bind_plain.result _ _
    (value_plain c.args.env.now.mode (text_name c.args.text) c.args.place (env_of c.args.env.now) c.args.name.now _ (expr_tree c.args.e.now) (ap (option_map domain_tree) c.in-None.is))
    c.bind_plain.ensures.known

pub bind_plain-requires : goal.bind_plain-requires
bind_plain-requires c = record { faultless = c.requires.value }

pub bind_stated-requires : goal.bind_stated-requires
bind_stated-requires c = record { faultless = stated_some (context_of (env_of c.args.env.now)) _ _ (ap (option_map domain_tree) c.in-Some.is) c.requires.stated }

pub returns-in-Some-clause-known : goal.returns-in-Some-clause-known
returns-in-Some-clause-known c =
    answers_same _ c.bind_stated.result _ _
    (value_stated c.args.env.now.mode (text_name c.args.text) c.args.place (env_of c.args.env.now) c.args.name.now _ _ (expr_tree c.args.e.now) (ap (option_map domain_tree) c.in-Some.is))
    c.bind_stated.ensures.known
