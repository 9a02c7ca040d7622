use Rattle.std.proofs.Common.{◌∙◌, ap, sym, slice_get}
use Rattle.std.specs.Prelude.{option_and_then}
use Rattle.ep_simplify.proofs.settling.part_at.Goals as goal

pub returns-in-Some : goal.returns-in-Some
returns-in-Some c = c.part_of.ensures ∙ sym (ap (option_and_then (slice_get c.args.parts.now)) (sym c.place_of.ensures ∙ c.in-Some.is))

pub returns-in-None : goal.returns-in-None
returns-in-None c = sym (ap (option_and_then (slice_get c.args.parts.now)) (sym c.place_of.ensures ∙ c.in-None.is))
