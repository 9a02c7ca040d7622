use Rattle.ep_size.proofs.Words.{◌≡◌, subst, sym, ◌∙◌, map, flat_map, IfOk, IfSome, parts_left, of_scalar, scalars_of, grid_of, Hulls, measured_of}
use Rattle.ep_size.proofs.reads.read_node.Goals as goal

pub returns-in-Ok : goal.returns-in-Ok
returns-in-Ok c mode env p m is holds known told typed named =
    let ms = map measured_of c.args.indices.now in
    c.scalar_node.ensures mode env p m is holds told
    (subst (λ o. IfSome o (λ s. of_scalar s ≡ c.args.ty)) c.in-Some.is c.scalar_in.ensures ∙ typed) named
    (subst (λ x. Hulls c.in-Ok.left (flat_map scalars_of (parts_left ms x))) (sym known.extent)
    (subst (λ r. IfOk r (λ l. Hulls l (flat_map scalars_of (parts_left ms (grid_of c.args.known.now))))) c.in-Ok.is c.left_of.ensures.left))

pub returns-in-None : goal.returns-in-None
returns-in-None c mode env p m is holds known told typed named = c.slice_node.ensures mode env p m is c.args.total.now holds known told typed
