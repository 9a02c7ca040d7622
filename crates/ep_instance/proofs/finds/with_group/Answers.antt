use Rattle.std.proofs.Common.{ap, map, option_map}
use Rattle.ep_instance_parts.specs.Instances.{find_of}
use Rattle.ep_instance.specs.Finding.{kept_finds}
use Rattle.ep_instance.proofs.FindSteps.{joined_finds, no_finds, no_group_finds}
use Rattle.ep_instance.proofs.finds.with_group.Goals as goal

pub returns-in_default : goal.returns-in_default
returns-in_default c = no_finds _ _ (ap (option_map (λ v. map find_of v.items)) c.in_default.is)

pub returns-in_default-shape : goal.returns-in_default-shape
returns-in_default-shape c = no_group_finds _ _ (ap (option_map (λ s. kept_finds s c.args.names.now)) c.in_default-shape.is)

pub returns : goal.returns
returns c =
    joined_finds _ _ _ _ _ (ap (option_map (λ v. map find_of v.items)) c.in-Some.is) (ap (option_map (λ s. kept_finds s c.args.names.now)) c.in-Some-shape.is)
    c.in_ok-add_finds.ensures
