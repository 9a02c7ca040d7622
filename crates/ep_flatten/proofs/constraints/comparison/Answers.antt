use Rattle.std.proofs.Common.{sym, subst, ℕ, ℤ, List, w64, to_z, of_z}
use Rattle.std.proofs.lemmas.Int.{to_z-of_z}
use Rattle.ep_flat.specs.Cons as flat
use Rattle.ep_flatten.specs.Forms.{compared}
use Rattle.ep_flatten.specs.Tops.{TellsForm}
use Rattle.ep_flatten.proofs.Sayings.{placed_parts, tells_compared}
use Rattle.ep_flatten.proofs.constraints.comparison.Goals as goal

pub returns : goal.returns
returns c = λ node.
    subst (λ (x : List (ℤ × ℕ)). TellsForm c.args.places.now node (compared c.args.op c.args.parts.now c.args.number) (flat.linear x c.args.op (to_z w64 (of_z w64 c.args.number)))) (sym c.in_ok-placed.ensures)
    (subst (λ (m : ℤ). TellsForm c.args.places.now node (compared c.args.op c.args.parts.now c.args.number) (flat.linear (placed_parts c.args.places.now c.args.parts.now) c.args.op m)) (sym (to_z-of_z w64 c.args.number c.ranges.number))
    (tells_compared c.args.places.now node c.args.op c.args.parts.now c.args.number))
