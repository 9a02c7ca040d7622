use Rattle.std.proofs.Common.{IsTrue, map, subst}
use Rattle.std.specs.List.{All}
use Rattle.enc_all.proofs.Encoding.{can_take, encodes}
use Rattle.enc_all.proofs.whole.encode.Goals as goal
use Rattle.enc_all.specs.Whole.{HasVariables}
use Rattle.enc_atoms.specs.Atoms.{Adds}
use Rattle.enc_var.specs.Layouts.{CanTake}
use Rattle.ep_flat.specs.Cons.{con_holds}
use Rattle.ep_flat.specs.FlatViews.{plain_con, plain_flat}
use Rattle.std.proofs.Common.{sym}

pub add_constraints-requires-clause-can_take : goal.add_constraints-requires-clause-can_take
add_constraints-requires-clause-can_take c =
    subst (λ cons. All (CanTake c.add_variables.new.layout c.add_variables.new.f) (map plain_con cons)) (sym c.deref-2.ensures.value)
    (can_take (plain_flat c.args.flat.now) c.add_variables.new.layout c.add_variables.new.f c.requires
    (subst (λ domains. HasVariables domains c.add_variables.new.layout c.add_variables.new.f) c.deref.ensures.value c.in_ok-add_variables.ensures))

pub returns : goal.returns
returns c =
    encodes (plain_flat c.args.flat.now) c.add_variables.new.layout c.add_variables.new.f c.add_constraints.new.layout c.add_constraints.new.f
    (subst (λ domains. HasVariables domains c.add_variables.new.layout c.add_variables.new.f) c.deref.ensures.value c.in_ok-add_variables.ensures)
    (subst (λ cons. Adds c.add_variables.new.layout c.add_variables.new.f c.add_constraints.new.layout c.add_constraints.new.f (λ values. All (λ con. IsTrue (con_holds values con)) (map plain_con cons)))
    c.deref-2.ensures.value c.in_ok-add_constraints.ensures)
