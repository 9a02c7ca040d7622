use Rattle.std.proofs.Common.{ℕ, ◌-◌, ◌<◌, ◌∙◌, false, get_or, refl, sym, ap, subst, arith}
use Rattle.sat_state.specs.Listed.{Listed, IsWithout}
use Rattle.sat_state.specs.ListInside.{seen_list}
use Rattle.sat_state.proofs.Filled.{without_near}
use Rattle.sat_state.proofs.list.List.remove_near.Goals as goal

pub returns-clause-rest : goal.returns-clause-rest
returns-clause-rest c =
    let a = c.self.inside in
    let new : Listed = record { watches = c.swap_remove.new.self.items; nears = a.nears - 1; room = a.room } in
    let near = subst (λ (l : Listed). c.args.place < l.nears) (sym c.self.view_is) c.requires in
    subst (λ (l : Listed). IsWithout l new c.args.place false) c.self.view_is
    (without_near (seen_list a) new c.swap.new.self.items c.args.place c.self.invariant.nears near (sym c.swap.new.self.ok.0 ∙ c.swap.ensures.len ∙ a.watches.ok.0)
    (omega (arith, c.swap_remove.ensures.len, c.swap_remove.new.self.ok.0, c.swap.new.self.ok.0)) refl c.swap.ensures.by_index
    (λ d lt. c.swap_remove.ensures.by_index.0 d (omega (arith, lt, c.swap.new.self.ok.0)) ∙ ap (λ (n : ℕ). get_or c.swap.new.self.items (n - 1) d) c.swap.new.self.ok.0)
    (λ k d ne lt. c.swap_remove.ensures.by_index.1 k d ne (omega (arith, lt, c.swap.new.self.ok.0))))
