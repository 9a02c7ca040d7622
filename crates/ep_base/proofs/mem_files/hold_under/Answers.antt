use Rattle.std.proofs.Common.{ap, ◌∙◌}
use Rattle.std.specs.FinMap.{insert}
use Rattle.ep_base.specs.MemoryDevices.{contents}
use Rattle.ep_base.proofs.Contents.{contents-insert}
use Rattle.ep_base.proofs.mem_files.hold_under.Goals as goal

pub returns-clause-held : goal.returns-clause-held
returns-clause-held c =
    contents-insert _ c.args.files.now c.insert.new.self c.in_ok-value.value c.in_ok-insert.ensures.updates
    ∙ ap (λ n. insert (contents c.args.files.now.entries) n c.in_ok-value.value.items) c.in_ok-key.ensures.ok
    ∙ ap (insert (contents c.args.files.now.entries) c.args.name.now) c.in_ok-value.ensures.items
