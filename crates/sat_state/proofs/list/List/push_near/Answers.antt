use Rattle.std.proofs.Common.{ℕ, ◌+◌, ◌∷◌, [], ◌++◌, List, false, length, refl, sym, ap, subst, ◌∙◌}
use Rattle.std.proofs.lemmas.List.{length_push}
use Rattle.std.specs.List.{SwappedAt}
use Rattle.sat_state.specs.Watched.{Watched}
use Rattle.sat_state.specs.Listed.{Listed, IsWithout}
use Rattle.sat_state.specs.ListInside.{seen_list}
use Rattle.sat_state.proofs.Filled.{with_near}
use Rattle.sat_state.proofs.list.List.push_near.Goals as goal

pub returns-clause-rest : goal.returns-clause-rest
returns-clause-rest c =
    let a = c.self.inside in
    let new : Listed = record { watches = c.swap.new.self.items; nears = a.nears + 1; room = a.room } in
    let swapped : SwappedAt (a.watches.items ++ c.args.watch ∷ []) c.swap.new.self.items a.nears (length a.watches.items)
    = subst (λ (ws : List Watched). SwappedAt ws c.swap.new.self.items a.nears (length a.watches.items)) c.push_reserved.ensures.items
    (subst (λ (n : ℕ). SwappedAt c.push_reserved.new.self.items c.swap.new.self.items a.nears n) (c.len-last.ensures ∙ a.watches.ok.0) c.swap.ensures.by_index) in
    subst (λ (l : Listed). IsWithout new l l.nears false) c.self.view_is
    (with_near (seen_list a) new c.args.watch c.self.invariant.nears (sym c.swap.new.self.ok.0 ∙ c.swap.ensures.len ∙ c.push_reserved.new.self.ok.0 ∙ ap length c.push_reserved.ensures.items ∙ length_push a.watches.items c.args.watch) refl swapped)
