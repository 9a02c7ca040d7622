use Rattle.std.proofs.Common.{◌∙◌, ap, sym, map, option_map}
use Rattle.ep_eval.specs.Known.{env_of}
use Rattle.ep_tree.specs.Views.{named_value, value_tree}
use Rattle.ep_instance_parts.specs.Instances.{find_of}
use Rattle.ep_instance.proofs.AssigningSteps.{at_error, entry_there, find_given, find_set, find_typed, fit_there}
use Rattle.ep_instance.proofs.values.set_find.Goals as goal

pub set-requires : goal.set-requires
set-requires c =
    record {
      typed =
          find_typed c.args.find.now.ty _ c.args.find.now.values c.args.find.now.indices.items _ (value_tree c.in-Some-fit.value) c.args.find.now.shaped c.requires.values
          (sym c.in_ok-fit.ensures ∙ ap (option_map value_tree) c.in-Some-fit.is);
    }

pub returns-clause-known : goal.returns-clause-known
returns-clause-known c =
    let f = find_of c.args.find.now in
    let given = sym c.entry_named.ensures ∙ ap (option_map (λ e. named_value e.now)) c.in-Some.is in
    let fits = sym c.in_ok-fit.ensures ∙ ap (option_map value_tree) c.in-Some-fit.is in
    find_set f (map named_value c.args.entries.now) c.args.find.now.ty (value_tree c.in-Some-fit.value) _ (env_of c.args.env.now) _ c.args.find.now.shaped
    (c.in_ok-name.ensures.copied ∙ c.text.ensures.text) (find_given f _ _ _ given fits) c.in_ok-set.ensures.known

pub returns-in_err-set-clause-unchanged : goal.returns-in_err-set-clause-unchanged
returns-in_err-set-clause-unchanged c = at_error _ c.from_residual-in_err-set.result c.in_err-set.ensures.unchanged

pub unreachable-requires : goal.unreachable-requires
unreachable-requires c =
    entry_there (λ e. named_value e.now) c.entry_named.result (find_of c.args.find.now) (map named_value c.args.entries.now) c.entry_named.ensures c.requires.fits c.in_default.not-Some

pub unreachable-requires-in_default-fit : goal.unreachable-requires-in_default-fit
unreachable-requires-in_default-fit c =
    let f = find_of c.args.find.now in
    let given = sym c.entry_named.ensures ∙ ap (option_map (λ e. named_value e.now)) c.in-Some.is in
    fit_there f _ _ c.in_ok-fit.fit given c.in_ok-fit.ensures c.requires.fits c.in_default-fit.not-Some
