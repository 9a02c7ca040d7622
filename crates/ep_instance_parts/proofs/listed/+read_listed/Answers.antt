use Rattle.std.proofs.Common.{◌≡◌, ◌≤◌, ◌<◌, ◌+◌, length, ap, arith, refl, sym, subst, ◌∙◌}
use Rattle.std.proofs.lemmas.Result.{err_from_is_err_and}
use Rattle.ep_tree.proofs.ViewLemmas.{domain_kind_tree-bool, domain_kind_tree-group, domain_kind_tree-int, domain_kind_tree-matrix, domain_kind_tree-named, domain_kind_tree-ranges, domain_kind_tree-set}
use Rattle.ep_eval.proofs.Countings.{size_refuses}
use Rattle.ep_eval.specs.Known.{env_of}
use Rattle.ep_eval.specs.Outcomes.{IsCause}
use Rattle.ep_tree.specs.Limits.{limits_of_values}
use Rattle.ep_tree.specs.Measures.{met_domain}
use Rattle.ep_tree.specs.Trees.{bool, group_domain, int, matrix_domain, named_domain, ranges, set_domain}
use Rattle.ep_tree.specs.Views.{domain_kind_tree, domain_tree, domains_of, ranges_of}
use Rattle.ep_instance_parts.specs.Reading.{IsReadListed, ReadsListed, ReadsScalars}
use Rattle.ep_instance_parts.proofs.ListedSteps.{group_cause, listed_group, listed_matrix, listed_named, matrix_cause_first, matrix_cause_next, reads_bool, reads_int, reads_ranges, reads_set}
use Rattle.ep_instance_parts.proofs.listed.+read_listed.Goals as goal

pub returns-then-before-gt-MOST_SIZE : goal.returns-then-before-gt-MOST_SIZE
returns-then-before-gt-MOST_SIZE t c =
    let ms = met_domain c.args.env.now.mode (env_of c.args.env.now) (domain_tree c.args.d.now) in
    let most : 5000000 < c.args.before + length ms = grind (arith, c.if-before-gt-MOST_SIZE.true) in
    size_refuses c.args.env.now.mode c.args.before ms most

pub read_indices-requires : goal.read_indices-requires
read_indices-requires t c = grind (arith, c.if-before-gt-MOST_SIZE.false)

pub returns-in-Bool : goal.returns-in-Bool
returns-in-Bool t c =
    let mode = c.args.env.now.mode in
    let env = env_of c.args.env.now in
    let p = c.args.d.now.place in
    let tree : domain_tree c.args.d.now ≡ bool p =
    ap (domain_kind_tree p) c.in-Bool.is ∙ domain_kind_tree-bool p in
    subst (λ e. ReadsListed mode env c.args.before e c.listed_scalars.result) (sym tree)
    (reads_bool mode env c.args.before p c.listed_scalars.result (subst (λ e. ReadsScalars mode env c.args.before e c.listed_scalars.result) tree c.listed_scalars.ensures))

pub returns-in-Int : goal.returns-in-Int
returns-in-Int t c =
    let mode = c.args.env.now.mode in
    let env = env_of c.args.env.now in
    let p = c.args.d.now.place in
    let tree : domain_tree c.args.d.now ≡ int p =
    ap (domain_kind_tree p) c.in-Int.is ∙ domain_kind_tree-int p in
    subst (λ e. ReadsListed mode env c.args.before e c.listed_scalars-in-Int.result) (sym tree)
    (reads_int mode env c.args.before p c.listed_scalars-in-Int.result (subst (λ e. ReadsScalars mode env c.args.before e c.listed_scalars-in-Int.result) tree c.listed_scalars-in-Int.ensures))

pub returns-in-Ranges : goal.returns-in-Ranges
returns-in-Ranges t c =
    let mode = c.args.env.now.mode in
    let env = env_of c.args.env.now in
    let p = c.args.d.now.place in
    let tree : domain_tree c.args.d.now ≡ ranges p (ranges_of c.in-Ranges.field-0.items) =
    ap (domain_kind_tree p) c.in-Ranges.is ∙ domain_kind_tree-ranges p c.in-Ranges.field-0 in
    subst (λ e. ReadsListed mode env c.args.before e c.listed_scalars-in-Ranges.result) (sym tree)
    (reads_ranges mode env c.args.before p (ranges_of c.in-Ranges.field-0.items) c.listed_scalars-in-Ranges.result (subst (λ e. ReadsScalars mode env c.args.before e c.listed_scalars-in-Ranges.result) tree c.listed_scalars-in-Ranges.ensures))

pub returns-in-Set : goal.returns-in-Set
returns-in-Set t c =
    let mode = c.args.env.now.mode in
    let env = env_of c.args.env.now in
    let p = c.args.d.now.place in
    let tree : domain_tree c.args.d.now ≡ set_domain p c.in-Set.field-0 (domain_tree c.in-Set.field-1.value) (domain_tree c.in-Set.field-2.value) =
    ap (domain_kind_tree p) c.in-Set.is ∙ domain_kind_tree-set p c.in-Set.field-0 c.in-Set.field-1 c.in-Set.field-2 in
    subst (λ e. ReadsListed mode env c.args.before e c.listed_scalars-in-Set.result) (sym tree)
    (reads_set mode env c.args.before p c.in-Set.field-0 (domain_tree c.in-Set.field-1.value) (domain_tree c.in-Set.field-2.value) c.listed_scalars-in-Set.result (subst (λ e. ReadsScalars mode env c.args.before e c.listed_scalars-in-Set.result) tree c.listed_scalars-in-Set.ensures))

pub returns-in_ok-kept-in-Named : goal.returns-in_ok-kept-in-Named
returns-in_ok-kept-in-Named t c =
    let mode = c.args.env.now.mode in
    let env = env_of c.args.env.now in
    let p = c.args.d.now.place in
    let tree : domain_tree c.args.d.now ≡ named_domain p c.in-Named.name =
    ap (domain_kind_tree p) c.in-Named.is ∙ domain_kind_tree-named p c.in-Named.name in
    let small : c.args.before ≤ 5000000 = grind (arith, c.if-before-gt-MOST_SIZE.false) in
    subst (λ e. IsReadListed mode env c.args.before e c.in_ok-kept-in-Named.kept c.args.before) (sym tree)
    (listed_named mode env c.args.before p c.in-Named.name c.in_ok-kept-in-Named.kept small c.in_ok-kept-in-Named.ensures)

pub returns-in_ok-kept-in-Group : goal.returns-in_ok-kept-in-Group
returns-in_ok-kept-in-Group t c =
    let mode = c.args.env.now.mode in
    let env = env_of c.args.env.now in
    let p = c.args.d.now.place in
    let tree : domain_tree c.args.d.now ≡ group_domain p (domain_tree c.deref.result.now) =
    ap (domain_kind_tree p) c.in-Group.is ∙ domain_kind_tree-group p c.in-Group.inner ∙ ap (λ x. group_domain p (domain_tree x)) (sym c.deref.ensures) in
    subst (λ e. IsReadListed mode env c.args.before e c.in_ok-kept-in-Group.kept c.in_ok-kept-in-Group.after) (sym tree)
    (listed_group mode env c.args.before p (domain_tree c.deref.result.now) _ _ c.in_ok-kept-in-Group.ensures)

pub returns-in_err-kept-in-Group : goal.returns-in_err-kept-in-Group
returns-in_err-kept-in-Group t c =
    let mode = c.args.env.now.mode in
    let env = env_of c.args.env.now in
    let p = c.args.d.now.place in
    let tree : domain_tree c.args.d.now ≡ group_domain p (domain_tree c.deref.result.now) =
    ap (domain_kind_tree p) c.in-Group.is ∙ domain_kind_tree-group p c.in-Group.inner ∙ ap (λ x. group_domain p (domain_tree x)) (sym c.deref.ensures) in
    let q = err_from_is_err_and c.from_residual-in_err-kept-in-Group.result c.from_residual-in_err-kept-in-Group.ensures.1 in
    rw (q.1, q.2)
    (subst (λ e. IsCause (limits_of_values mode c.args.before (met_domain mode env e)) c.in_err-kept-in-Group.field-0.0) (sym tree)
    (group_cause mode env c.args.before p (domain_tree c.deref.result.now) _ c.in_err-kept-in-Group.ensures))

pub returns-in_ok-indices-in-Matrix : goal.returns-in_ok-indices-in-Matrix
returns-in_ok-indices-in-Matrix t c =
    let mode = c.args.env.now.mode in
    let env = env_of c.args.env.now in
    let p = c.args.d.now.place in
    let tree : domain_tree c.args.d.now ≡ matrix_domain p (domains_of c.deref-in-Matrix.result.now) (domain_tree c.deref-in-Matrix-2.result.now) =
    ap (domain_kind_tree p) c.in-Matrix.is ∙ domain_kind_tree-matrix p c.in-Matrix.own c.in-Matrix.inner
    ∙ ap (λ l. matrix_domain p (domains_of l) (domain_tree c.in-Matrix.inner.value)) (sym c.deref-in-Matrix.ensures.value)
    ∙ ap (λ x. matrix_domain p (domains_of c.deref-in-Matrix.result.now) (domain_tree x)) (sym c.deref-in-Matrix-2.ensures) in
    subst (λ e. IsReadListed mode env c.args.before e (record { indices = c.in_ok-indices-in-Matrix.indices; values = c.in_ok-kept-in-Matrix.kept.values }) c.in_ok-kept-in-Matrix.after) (sym tree)
    (listed_matrix mode env c.args.before c.in_ok-sets-in-Matrix.count c.in_ok-kept-in-Matrix.after p (domains_of c.deref-in-Matrix.result.now) (domain_tree c.deref-in-Matrix-2.result.now) _ c.in_ok-kept-in-Matrix.kept (record { indices = c.in_ok-indices-in-Matrix.indices; values = c.in_ok-kept-in-Matrix.kept.values })
    c.in_ok-sets-in-Matrix.ensures.indices c.in_ok-sets-in-Matrix.ensures.counted c.in_ok-kept-in-Matrix.ensures c.in_ok-indices-in-Matrix.ensures refl)

pub returns-in_err-sets-in-Matrix : goal.returns-in_err-sets-in-Matrix
returns-in_err-sets-in-Matrix t c =
    let mode = c.args.env.now.mode in
    let env = env_of c.args.env.now in
    let p = c.args.d.now.place in
    let tree : domain_tree c.args.d.now ≡ matrix_domain p (domains_of c.deref-in-Matrix.result.now) (domain_tree c.in-Matrix.inner.value) =
    ap (domain_kind_tree p) c.in-Matrix.is ∙ domain_kind_tree-matrix p c.in-Matrix.own c.in-Matrix.inner
    ∙ ap (λ l. matrix_domain p (domains_of l) (domain_tree c.in-Matrix.inner.value)) (sym c.deref-in-Matrix.ensures.value) in
    let q = err_from_is_err_and c.from_residual-in_err-sets-in-Matrix.result c.from_residual-in_err-sets-in-Matrix.ensures.1 in
    rw (q.1, q.2)
    (subst (λ e. IsCause (limits_of_values mode c.args.before (met_domain mode env e)) c.in_err-sets-in-Matrix.field-0.0) (sym tree)
    (matrix_cause_first mode env c.args.before p (domains_of c.deref-in-Matrix.result.now) (domain_tree c.in-Matrix.inner.value) _ c.in_err-sets-in-Matrix.ensures.cause))

pub returns-in_err-kept-in-Matrix : goal.returns-in_err-kept-in-Matrix
returns-in_err-kept-in-Matrix t c =
    let mode = c.args.env.now.mode in
    let env = env_of c.args.env.now in
    let p = c.args.d.now.place in
    let tree : domain_tree c.args.d.now ≡ matrix_domain p (domains_of c.deref-in-Matrix.result.now) (domain_tree c.deref-in-Matrix-2.result.now) =
    ap (domain_kind_tree p) c.in-Matrix.is ∙ domain_kind_tree-matrix p c.in-Matrix.own c.in-Matrix.inner
    ∙ ap (λ l. matrix_domain p (domains_of l) (domain_tree c.in-Matrix.inner.value)) (sym c.deref-in-Matrix.ensures.value)
    ∙ ap (λ x. matrix_domain p (domains_of c.deref-in-Matrix.result.now) (domain_tree x)) (sym c.deref-in-Matrix-2.ensures) in
    let q = err_from_is_err_and c.from_residual-in_err-kept-in-Matrix.result c.from_residual-in_err-kept-in-Matrix.ensures.1 in
    rw (q.1, q.2)
    (subst (λ e. IsCause (limits_of_values mode c.args.before (met_domain mode env e)) c.in_err-kept-in-Matrix.field-0.0) (sym tree)
    (matrix_cause_next mode env c.args.before c.in_ok-sets-in-Matrix.count p (domains_of c.deref-in-Matrix.result.now) (domain_tree c.deref-in-Matrix-2.result.now) _ c.in_ok-sets-in-Matrix.ensures.counted c.in_err-kept-in-Matrix.ensures))
