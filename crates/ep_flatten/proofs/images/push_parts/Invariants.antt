use Rattle.std.proofs.Common.{take}
use Rattle.ep_flatten.specs.Images.{Collects, HasNumbers}
use Rattle.ep_numbers.specs.Spans.{interval_of}
use Rattle.ep_flatten.proofs.images.push_parts.Given as goal

abbrev pub invariant-loop-part : goal.invariant-loop-part
invariant-loop-part l = Collects (interval_of l.span) (HasNumbers (interval_of l.span) l.vars l.places) (take l.part-index l.parts) l.fn.results.items l.results.items
