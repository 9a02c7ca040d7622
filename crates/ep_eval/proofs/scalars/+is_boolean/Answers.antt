use Rattle.ep_eval.proofs.Words.{◌≡◌, ◌&&◌, ap, sym, ◌∙◌, domain_kind_tree-bool, domain_kind_tree-group, domain_kind_tree-int, domain_kind_tree-matrix, domain_kind_tree-named, domain_kind_tree-ranges, domain_kind_tree-set, context_of, bool, group_domain, int, matrix_domain, named_domain, ranges, set_domain, is_boolean, judge_domain, domain_kind_tree, domain_tree, domains_of, ranges_of, is_of_booleans, env_in}
use Rattle.ep_eval.proofs.ScalarSteps.{booleans-both, booleans-group, booleans-matrix, booleans-ranges}
use Rattle.ep_eval.proofs.scalars.+is_boolean.Goals as goal

pub returns-in-Bool : goal.returns-in-Bool
unfolding is_of_booleans judge_domain is_boolean
returns-in-Bool t c =
    let p = c.args.d.now.place in
    let tree : domain_tree c.args.d.now ≡ bool p = ap (domain_kind_tree p) c.in-Bool.is ∙ domain_kind_tree-bool p in
    sym (ap (λ d. is_of_booleans (judge_domain (context_of (env_in c.args.scope)) d)) tree)

pub returns-in-Int : goal.returns-in-Int
unfolding is_of_booleans judge_domain is_boolean
returns-in-Int t c =
    let p = c.args.d.now.place in
    let tree : domain_tree c.args.d.now ≡ int p = ap (domain_kind_tree p) c.in-Int.is ∙ domain_kind_tree-int p in
    sym (ap (λ d. is_of_booleans (judge_domain (context_of (env_in c.args.scope)) d)) tree)

pub returns-in-Ranges : goal.returns-in-Ranges
returns-in-Ranges t c =
    let p = c.args.d.now.place in
    let k = context_of (env_in c.args.scope) in
    let rs = ranges_of c.in-Ranges.field-0.items in
    let tree : domain_tree c.args.d.now ≡ ranges p rs = ap (domain_kind_tree p) c.in-Ranges.is ∙ domain_kind_tree-ranges p c.in-Ranges.field-0 in
    booleans-ranges k p rs ∙ sym (ap (λ d. is_of_booleans (judge_domain k d)) tree)

pub returns-in-Named : goal.returns-in-Named
unfolding judge_domain
returns-in-Named t c =
    let p = c.args.d.now.place in
    let k = context_of (env_in c.args.scope) in
    let tree : domain_tree c.args.d.now ≡ named_domain p c.in-Named.name = ap (domain_kind_tree p) c.in-Named.is ∙ domain_kind_tree-named p c.in-Named.name in
    c.names_booleans.ensures ∙ sym (ap (λ d. is_of_booleans (judge_domain k d)) tree)

pub returns-in-Group : goal.returns-in-Group
unfolding judge_domain
returns-in-Group t c =
    let p = c.args.d.now.place in
    let k = context_of (env_in c.args.scope) in
    let inner = domain_tree c.deref.result.now in
    let tree : domain_tree c.args.d.now ≡ group_domain p inner =
    ap (domain_kind_tree p) c.in-Group.is ∙ domain_kind_tree-group p c.in-Group.inner ∙ ap (λ x. group_domain p (domain_tree x)) (sym c.deref.ensures) in
    c.is_boolean.ensures ∙ booleans-group (judge_domain k inner) ∙ sym (ap (λ d. is_of_booleans (judge_domain k d)) tree)

pub returns-then-is_boolean : goal.returns-then-is_boolean
unfolding judge_domain
returns-then-is_boolean t c =
    let p = c.args.d.now.place in
    let k = context_of (env_in c.args.scope) in
    let left = domain_tree c.deref-in-Set.result.now in
    let right = domain_tree c.deref-then-is_boolean.result.now in
    let op = c.in-Set.field-0 in
    let tree : domain_tree c.args.d.now ≡ set_domain p op left right =
    ap (domain_kind_tree p) c.in-Set.is ∙ domain_kind_tree-set p op c.in-Set.left c.in-Set.right
    ∙ ap (λ x. set_domain p op (domain_tree x) (domain_tree c.in-Set.right.value)) (sym c.deref-in-Set.ensures)
    ∙ ap (λ x. set_domain p op left (domain_tree x)) (sym c.deref-then-is_boolean.ensures) in
    c.is_boolean-then-is_boolean.ensures
    ∙ sym (ap (λ b. b && is_of_booleans (judge_domain k right)) (sym c.is_boolean-in-Set.ensures ∙ c.if-is_boolean.true))
    ∙ booleans-both (judge_domain k left) (judge_domain k right) ∙ sym (ap (λ d. is_of_booleans (judge_domain k d)) tree)

pub returns-else-is_boolean : goal.returns-else-is_boolean
unfolding judge_domain
returns-else-is_boolean t c =
    let p = c.args.d.now.place in
    let k = context_of (env_in c.args.scope) in
    let left = domain_tree c.deref-in-Set.result.now in
    let right = domain_tree c.in-Set.right.value in
    let op = c.in-Set.field-0 in
    let tree : domain_tree c.args.d.now ≡ set_domain p op left right =
    ap (domain_kind_tree p) c.in-Set.is ∙ domain_kind_tree-set p op c.in-Set.left c.in-Set.right
    ∙ ap (λ x. set_domain p op (domain_tree x) right) (sym c.deref-in-Set.ensures) in
    c.if-is_boolean.false
    ∙ sym (ap (λ b. b && is_of_booleans (judge_domain k right)) (sym c.is_boolean-in-Set.ensures ∙ c.if-is_boolean.false))
    ∙ booleans-both (judge_domain k left) (judge_domain k right) ∙ sym (ap (λ d. is_of_booleans (judge_domain k d)) tree)

pub returns-in-Matrix : goal.returns-in-Matrix
returns-in-Matrix t c =
    let p = c.args.d.now.place in
    let k = context_of (env_in c.args.scope) in
    let ds = domains_of c.in-Matrix.field-0.items in
    let d = domain_tree c.in-Matrix.field-1.value in
    let tree : domain_tree c.args.d.now ≡ matrix_domain p ds d =
    ap (domain_kind_tree p) c.in-Matrix.is ∙ domain_kind_tree-matrix p c.in-Matrix.field-0 c.in-Matrix.field-1 in
    booleans-matrix k p ds d ∙ sym (ap (λ x. is_of_booleans (judge_domain k x)) tree)
