use Rattle.ep_size.proofs.Words.{refl, subst, ◌≡◌, IfOk, type_in, expr_tree, env_in}
use Rattle.ep_size.proofs.GroupSteps.{same_group, truth_group}
use Rattle.ep_size.proofs.groups.group_node.Goals as goal

pub returns-then-is_truth : goal.returns-then-is_truth
returns-then-is_truth c mode p holds known =
    let env = env_in c.args.scope in
    let e = expr_tree c.args.part.now in
    c.truth_node.ensures mode env _ 0 refl
    (truth_group mode env p e c.in-Ok.ty holds (subst (λ r. IfOk r (λ t. t ≡ type_in env e)) c.in-Ok.is c.type_within.ensures)
    (c.is_truth.ensures.truth c.if-is_truth.true))

pub returns-in-Ok : goal.returns-in-Ok
returns-in-Ok c mode p holds known =
    let env = env_in c.args.scope in
    let e = expr_tree c.args.part.now in
    c.light_node.ensures mode env _
    (same_group mode env p e c.in-Ok.ty _ holds (subst (λ r. IfOk r (λ t. t ≡ type_in env e)) c.in-Ok.is c.type_within.ensures)
    (c.is_truth.ensures.other c.if-is_truth.false) known)
