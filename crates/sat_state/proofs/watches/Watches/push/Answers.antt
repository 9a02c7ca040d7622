use Rattle.std.proofs.Common.{◌∷◌, [], ◌++◌, length-append, arith}
use Rattle.sat_state.proofs.Listing.{listed_push}
use Rattle.sat_state.proofs.Walking.{length_seen}
use Rattle.sat_state.proofs.watches.Watches.push.Goals as goal

pub invariant_of-self : goal.invariant_of-self
invariant_of-self c =
    let a = c.self.inside in
    let size = length_seen a c.args.self.now c.self.view_is in
    record {
      listed = rw (c.push_reserved-2.ensures.items, c.push_reserved.ensures.items)
          (listed_push (a.names.items ++ 0 ∷ []) a.lists.items
          (listed_push a.names.items a.lists.items c.self.invariant.listed (omega (arith, size, c.requires.fits)))
          (omega (arith, size, c.requires.fits, length-append a.names.items (0 ∷ []))));
      walk = λ some. absurd (omega (arith, some));
    }
