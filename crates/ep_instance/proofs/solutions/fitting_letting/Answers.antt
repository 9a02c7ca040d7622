use Rattle.std.proofs.Common.{◌∙◌, ap, sym, option_map}
use Rattle.ep_eval.specs.Bounds.{entry_bound}
use Rattle.ep_eval.specs.Known.{env_of}
use Rattle.ep_tree.specs.Views.{value_tree}
use Rattle.ep_instance_parts.specs.Instances.{find_of}
use Rattle.ep_instance.proofs.BindSteps.{parameter_missing, parameter_there}
use Rattle.ep_instance.proofs.ShapingSteps.{letting_entry, letting_missing, letting_outside}
use Rattle.ep_instance.proofs.solutions.fitting_letting.Goals as goal

pub returns-in_default : goal.returns-in_default
returns-in_default c =
    let known = env_of c.args.known.now in
    let f = find_of c.args.find.now in
    sym (letting_missing known f (parameter_missing (known f.name) (ap (option_map (λ e. entry_bound e.now)) (sym c.in_default.is) ∙ c.entry.ensures.bound)))

pub returns-in_default-fit : goal.returns-in_default-fit
returns-in_default-fit c =
    let known = env_of c.args.known.now in
    let f = find_of c.args.find.now in
    sym
    (letting_outside known f _ _ (parameter_there (known f.name) _ _ (ap (option_map (λ e. entry_bound e.now)) (sym c.in-Some.is) ∙ c.entry.ensures.bound))
    (sym c.in_ok-fit.ensures ∙ ap (option_map value_tree) c.in_default-fit.is))

pub returns : goal.returns
returns c =
    let known = env_of c.args.known.now in
    let f = find_of c.args.find.now in
    letting_entry known f _ c.args.find.now.ty _ (value_tree c.in-Some-fit.value) _ (c.in_ok-name.ensures.copied ∙ c.text.ensures.text) c.args.find.now.shaped
    (parameter_there (known f.name) _ _ (ap (option_map (λ e. entry_bound e.now)) (sym c.in-Some.is) ∙ c.entry.ensures.bound))
    (sym c.in_ok-fit.ensures ∙ ap (option_map value_tree) c.in-Some-fit.is)
