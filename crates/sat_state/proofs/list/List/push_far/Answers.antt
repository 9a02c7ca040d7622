use Rattle.std.proofs.Common.{true, length, refl, subst}
use Rattle.sat_state.specs.Listed.{Listed, IsWithout}
use Rattle.sat_state.specs.ListInside.{seen_list}
use Rattle.sat_state.proofs.Filled.{with_far}
use Rattle.sat_state.proofs.list.List.push_far.Goals as goal

pub returns-clause-rest : goal.returns-clause-rest
returns-clause-rest c =
    let a = c.self.inside in
    let new : Listed = record { watches = c.push_reserved.new.self.items; nears = a.nears; room = a.room } in
    subst (λ (l : Listed). IsWithout new l (length l.watches) true) c.self.view_is (with_far (seen_list a) new c.args.watch c.push_reserved.ensures.items refl)
