use Rattle.std.proofs.Common.{ℕ, ◌≤◌, ◌<◌, ◌-◌, ◌∙◌, true, length, get_or, refl, sym, ap, subst, arith}
use Rattle.sat_state.specs.Listed.{Listed, IsWithout}
use Rattle.sat_state.specs.ListInside.{seen_list}
use Rattle.sat_state.proofs.Filled.{without_far}
use Rattle.sat_state.proofs.list.List.remove_far.Goals as goal

pub returns-clause-rest : goal.returns-clause-rest
returns-clause-rest c =
    let a = c.self.inside in
    let new : Listed = record { watches = c.swap_remove.new.self.items; nears = a.nears; room = a.room } in
    let far = subst (λ (l : Listed). l.nears ≤ c.args.place) (sym c.self.view_is) c.requires.far in
    let there = subst (λ (l : Listed). c.args.place < length l.watches) (sym c.self.view_is) c.requires.there in
    subst (λ (l : Listed). IsWithout l new c.args.place true) c.self.view_is
    (without_far (seen_list a) new c.args.place far there (omega (arith, c.swap_remove.ensures.len, c.swap_remove.new.self.ok.0, a.watches.ok.0)) refl
    (λ d lt. c.swap_remove.ensures.by_index.0 d (omega (arith, lt, a.watches.ok.0)) ∙ ap (λ (n : ℕ). get_or a.watches.items (n - 1) d) a.watches.ok.0)
    (λ k d ne lt. c.swap_remove.ensures.by_index.1 k d ne (omega (arith, lt, a.watches.ok.0))))
