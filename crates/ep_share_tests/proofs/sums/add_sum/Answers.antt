use Rattle.std.proofs.Common.{◌<◌, ℕ, ℤ, List, length, subst}
use Rattle.std.specs.List.{All}
use Rattle.std.proofs.lemmas.List.Elements.{All-map}
use Rattle.ep_ground.specs.Nodes.{parts_of}
use Rattle.ep_share_tests.proofs.sums.add_sum.Goals as goal

pub intern-requires : goal.intern-requires
unfolding parts_of
intern-requires c =
    All-map (λ (t : ℕ). t < length c.args.arena.now) (λ (p : ℤ × ℕ). p.1) c.loop-letter.parts.items
    (subst (λ (ps : List (ℤ × ℕ)). All (λ (p : ℤ × ℕ). p.1 < length c.args.arena.now) ps) c.deref.ensures.value (c.are_there.ensures c.if-not-are_there.false))
