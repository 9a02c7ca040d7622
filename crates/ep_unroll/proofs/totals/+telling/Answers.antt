use Rattle.ep_unroll.proofs.Words.{ℕ, ◌<◌, sym, subst, arith, length, List, map, IsSome, All, get_or-map, length-map, plain_node, node_value, term_value}
use Rattle.ep_ground.specs.Nodes.{parts_of}
use Rattle.ep_unroll.proofs.NodeValues.{node_value_at}
use Rattle.ep_unroll.proofs.TotalSteps.{absolute_total, greatest_total, least_total, power_total, product_total, quotient_total, remainder_total, sum_total}
use Rattle.ep_unroll.proofs.totals.+telling.Goals as goal

-- the parts of a list of weighed parts
parts_there : {A : Type 0} (P : ℕ → Type 0) (xs : List (A × ℕ)) → All P (map (λ p. p.1) xs) → All (λ part. P part.1) xs
parts_there P xs all k d less =
    subst P (get_or-map (λ p. p.1) xs k d d.1 less) (all k d.1 (let same = length-map xs (λ p. p.1) in omega (arith, same, less)))

pub is_total_to-returns-then-is_total_node : goal.is_total_to-returns-then-is_total_node
is_total_to-returns-then-is_total_node t c h numbers few =
    subst IsSome
    (sym (node_value_at c.args.arena.now c.len-size.ensures.arena c.args.term (plain_node c.node-node.result.now) c.node-node.ensures.node numbers))
    (c.is_total_node.ensures c.if-is_total_node.true numbers (term_value c.args.arena.now numbers) few)

pub is_total_to-returns : goal.is_total_to-returns
is_total_to-returns t c h numbers few =
    subst IsSome
    (sym (node_value_at c.args.arena.now c.len-size.ensures.arena c.args.term (plain_node c.node-node.result.now) c.node-node.ensures.node numbers))
    (c.is_whole_to.ensures h numbers few)

pub is_total_to-is_whole_to-requires : goal.is_total_to-is_whole_to-requires
is_total_to-is_whole_to-requires t c = ((let some : 0 < c.args.depth = grind (arith, c.if-depth-eq0.false) in omega (arith, c.decreases, some)), λ k d less. let p = c.node-node.ensures.parts k d less in omega (arith, p, c.requires))

pub is_whole_to-are_weighed_total_to-requires : goal.is_whole_to-are_weighed_total_to-requires
unfolding parts_of
is_whole_to-are_weighed_total_to-requires t c = (omega (arith, c.decreases), subst (λ xs. All (λ part. part.1 < length c.args.arena.now) xs) (sym c.deref.ensures.value) (parts_there (λ p. p < length c.args.arena.now) c.in-Add.parts.items (subst (λ n. All (λ p. p < length c.args.arena.now) (parts_of (plain_node n))) c.in-Add.is c.requires)))

pub is_whole_to-is_total_to-requires : goal.is_whole_to-is_total_to-requires
unfolding parts_of
is_whole_to-is_total_to-requires t c = (omega (arith, c.decreases), (subst (λ n. All (λ p. p < length c.args.arena.now) (parts_of (plain_node n))) c.in-Mul.is c.requires) 0 0 (omega arith))

pub is_whole_to-is_total_to-requires-then-is_total_to : goal.is_whole_to-is_total_to-requires-then-is_total_to
unfolding parts_of
is_whole_to-is_total_to-requires-then-is_total_to t c = (omega (arith, c.decreases), (subst (λ n. All (λ p. p < length c.args.arena.now) (parts_of (plain_node n))) c.in-Mul.is c.requires) 1 0 (omega arith))

pub is_whole_to-is_divisor-requires : goal.is_whole_to-is_divisor-requires
unfolding parts_of
is_whole_to-is_divisor-requires t c = (subst (λ n. All (λ p. p < length c.args.arena.now) (parts_of (plain_node n))) c.in-Div.is c.requires) 1 0 (omega arith)

pub is_whole_to-is_total_to-requires-then-is_divisor : goal.is_whole_to-is_total_to-requires-then-is_divisor
unfolding parts_of
is_whole_to-is_total_to-requires-then-is_divisor t c = (omega (arith, c.decreases), (subst (λ n. All (λ p. p < length c.args.arena.now) (parts_of (plain_node n))) c.in-Div.is c.requires) 0 0 (omega arith))

pub is_whole_to-is_divisor-requires-in-Mod : goal.is_whole_to-is_divisor-requires-in-Mod
unfolding parts_of
is_whole_to-is_divisor-requires-in-Mod t c = (subst (λ n. All (λ p. p < length c.args.arena.now) (parts_of (plain_node n))) c.in-Mod.is c.requires) 1 0 (omega arith)

pub is_whole_to-is_total_to-requires-then-is_divisor-2 : goal.is_whole_to-is_total_to-requires-then-is_divisor-2
unfolding parts_of
is_whole_to-is_total_to-requires-then-is_divisor-2 t c = (omega (arith, c.decreases), (subst (λ n. All (λ p. p < length c.args.arena.now) (parts_of (plain_node n))) c.in-Mod.is c.requires) 0 0 (omega arith))

pub is_whole_to-is_total_to-requires-in-Pow : goal.is_whole_to-is_total_to-requires-in-Pow
unfolding parts_of
is_whole_to-is_total_to-requires-in-Pow t c = (omega (arith, c.decreases), (subst (λ n. All (λ p. p < length c.args.arena.now) (parts_of (plain_node n))) c.in-Pow.is c.requires) 0 0 (omega arith))

pub is_whole_to-is_total_to-requires-in-Abs : goal.is_whole_to-is_total_to-requires-in-Abs
unfolding parts_of
is_whole_to-is_total_to-requires-in-Abs t c = (omega (arith, c.decreases), (subst (λ n. All (λ p. p < length c.args.arena.now) (parts_of (plain_node n))) c.in-Abs.is c.requires) 0 0 (omega arith))

pub is_whole_to-are_total_to-requires : goal.is_whole_to-are_total_to-requires
unfolding parts_of
is_whole_to-are_total_to-requires t c = (omega (arith, c.decreases), subst (λ xs. All (λ p. p < length c.args.arena.now) xs) (sym c.deref-then-len-gt0.ensures.value) (subst (λ n. All (λ p. p < length c.args.arena.now) (parts_of (plain_node n))) c.in-Min.is c.requires))

pub is_whole_to-are_total_to-requires-then-len-gt0-2 : goal.is_whole_to-are_total_to-requires-then-len-gt0-2
unfolding parts_of
is_whole_to-are_total_to-requires-then-len-gt0-2 t c = (omega (arith, c.decreases), subst (λ xs. All (λ p. p < length c.args.arena.now) xs) (sym c.deref-then-len-gt0-2.ensures.value) (subst (λ n. All (λ p. p < length c.args.arena.now) (parts_of (plain_node n))) c.in-Max.is c.requires))

pub is_whole_to-returns-in-Add : goal.is_whole_to-returns-in-Add
is_whole_to-returns-in-Add t c h numbers few =
    subst (λ n. IsSome (node_value numbers (term_value c.args.arena.now numbers) (plain_node n))) (sym c.in-Add.is)
    (sum_total numbers (term_value c.args.arena.now numbers) _ _ (subst (λ xs. All (λ part. IsSome (term_value c.args.arena.now numbers part.1)) xs) c.deref.ensures.value (c.are_weighed_total_to.ensures h numbers few)))

pub is_whole_to-returns-then-is_total_to : goal.is_whole_to-returns-then-is_total_to
is_whole_to-returns-then-is_total_to t c h numbers few =
    subst (λ n. IsSome (node_value numbers (term_value c.args.arena.now numbers) (plain_node n))) (sym c.in-Mul.is)
    (product_total numbers (term_value c.args.arena.now numbers) _ _ (c.is_total_to.ensures c.if-is_total_to.true numbers few) (c.is_total_to-then-is_total_to.ensures h numbers few))

pub is_whole_to-returns-then-is_divisor : goal.is_whole_to-returns-then-is_divisor
is_whole_to-returns-then-is_divisor t c h numbers few =
    subst (λ n. IsSome (node_value numbers (term_value c.args.arena.now numbers) (plain_node n))) (sym c.in-Div.is)
    (let k = c.is_divisor.ensures c.if-is_divisor.true in quotient_total numbers (term_value c.args.arena.now numbers) _ _ k.0 k.1 (c.is_total_to-then-is_divisor.ensures h numbers few) (k.2 numbers))

pub is_whole_to-returns-then-is_divisor-2 : goal.is_whole_to-returns-then-is_divisor-2
is_whole_to-returns-then-is_divisor-2 t c h numbers few =
    subst (λ n. IsSome (node_value numbers (term_value c.args.arena.now numbers) (plain_node n))) (sym c.in-Mod.is)
    (let k = c.is_divisor-in-Mod.ensures c.if-is_divisor-2.true in remainder_total numbers (term_value c.args.arena.now numbers) _ _ k.0 k.1 (c.is_total_to-then-is_divisor-2.ensures h numbers few) (k.2 numbers))

pub is_whole_to-returns-in-Pow : goal.is_whole_to-returns-in-Pow
is_whole_to-returns-in-Pow t c h numbers few =
    subst (λ n. IsSome (node_value numbers (term_value c.args.arena.now numbers) (plain_node n))) (sym c.in-Pow.is)
    (power_total numbers (term_value c.args.arena.now numbers) _ _ (c.is_total_to-in-Pow.ensures h numbers few))

pub is_whole_to-returns-in-Abs : goal.is_whole_to-returns-in-Abs
is_whole_to-returns-in-Abs t c h numbers few =
    subst (λ n. IsSome (node_value numbers (term_value c.args.arena.now numbers) (plain_node n))) (sym c.in-Abs.is)
    (absolute_total numbers (term_value c.args.arena.now numbers) _ (c.is_total_to-in-Abs.ensures h numbers few))

pub is_whole_to-returns-then-len-gt0 : goal.is_whole_to-returns-then-len-gt0
is_whole_to-returns-then-len-gt0 t c h numbers few =
    subst (λ n. IsSome (node_value numbers (term_value c.args.arena.now numbers) (plain_node n))) (sym c.in-Min.is)
    (least_total numbers (term_value c.args.arena.now numbers) _ (grind (arith, c.if-len-gt0.true)) (subst (λ xs. All (λ p. IsSome (term_value c.args.arena.now numbers p)) xs) c.deref-then-len-gt0.ensures.value (c.are_total_to.ensures h numbers few)))

pub is_whole_to-returns-then-len-gt0-2 : goal.is_whole_to-returns-then-len-gt0-2
is_whole_to-returns-then-len-gt0-2 t c h numbers few =
    subst (λ n. IsSome (node_value numbers (term_value c.args.arena.now numbers) (plain_node n))) (sym c.in-Max.is)
    (greatest_total numbers (term_value c.args.arena.now numbers) _ (grind (arith, c.if-len-gt0-2.true)) (subst (λ xs. All (λ p. IsSome (term_value c.args.arena.now numbers p)) xs) c.deref-then-len-gt0-2.ensures.value (c.are_total_to-then-len-gt0-2.ensures h numbers few)))
