use Rattle.std.proofs.Common.{ap, sym, refl, ◌∙◌, option_map}
use Rattle.ep_eval.specs.Known.{env_of}
use Rattle.ep_tree.specs.Binding.{undefined_at}
use Rattle.ep_tree.specs.Views.{domain_tree}
use Rattle.ep_instance_parts.specs.Refusals.{text_name}
use Rattle.ep_instance_parts.proofs.Answering.{refuses_undefined}
use Rattle.ep_instance_parts.proofs.ShapeSteps.{shaped, unshaped_elements, unshaped_indices}
use Rattle.ep_instance_parts.proofs.shapes.shape_from.Goals as goal

pub returns-in_default : goal.returns-in_default
returns-in_default c =
    refuses_undefined c.args.text c.args.place _
    (unshaped_indices c.args.env.now.mode (env_of c.args.env.now) (domain_tree c.args.d.now) _ (sym (ap (option_map (λ v. v.items)) c.in_default.is) ∙ c.requires.indices))

pub returns-in_default-elements : goal.returns-in_default-elements
returns-in_default-elements c =
    refuses_undefined c.args.text c.args.place _
    (unshaped_elements c.args.env.now.mode (env_of c.args.env.now) (domain_tree c.args.d.now) _ _ c.in_default-elements.is c.requires.elements)

pub returns : goal.returns
returns c =
    shaped c.args.env.now.mode (env_of c.args.env.now) (domain_tree c.args.d.now) (undefined_at (text_name c.args.text) c.args.place) _ _ _
    (sym (ap (option_map (λ v. v.items)) c.in-Some.is) ∙ c.requires.indices) c.in-Some-elements.is c.requires.elements c.in_ok-scalar.ensures refl
