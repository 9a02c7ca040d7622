use Rattle.std.proofs.Common.{◌∙◌}
use Rattle.opb_text.specs.Views.{plain_opb}
use Rattle.opb_text.proofs.NamedOnce.{from_sort_and_dedup, variables_are}
use Rattle.opb_text.proofs.variables.opb_vars.Goals as goal

pub returns : goal.returns
returns c =
    variables_are (plain_opb c.args.opb.now) c.in_ok-vars.vars.items c.dedup.new.self.items c.in_ok-from_slice.field-0.items
    (from_sort_and_dedup c.in_ok-vars.vars.items c.sort_unstable.new.self.items c.dedup.new.self.items c.sort_unstable.ensures.permutation c.sort_unstable.ensures.sorted c.dedup.ensures.filtered)
    c.in_ok-vars.ensures (c.in_ok-from_slice.ensures.items ∙ c.as_slice.ensures.value)
