use Rattle.ep_forms.proofs.Words.{◌≡◌, ◌<◌, ℕ, List, length, ap, sym, subst, arith, ◌∙◌, kind_tree-all_of, kind_tree-any_of, kind_tree-chain, kind_tree-comprehension, kind_tree-literal, kind_tree-read, all_of, any_of, chain, comprehension, literal, read, expr_tree, expr_trees, generators_of, indices_of, kind_tree, terms_of, size-Domain, size-Expr, size-Kind, form_tree, index_at, truths_node, Listing, IsBelow, end_depth, generators_depth, greater, index_depth, most}
use Rattle.ep_forms.proofs.Depths.{index_is, of_comprehension, of_index, of_indices, of_matrix, of_own_index, of_parts, of_quantifier}
use Rattle.ep_forms.proofs.forms.form_of.Goals as goal

pub returns-in-And-clause-tree : goal.returns-in-And-clause-tree
unfolding form_tree truths_node
returns-in-And-clause-tree c p =
    ap (λ es. all_of p (expr_trees es)) c.deref-in-And.ensures.value ∙ sym (ap (kind_tree p) c.in-And.is ∙ kind_tree-all_of p c.in-And.parts)

pub returns-in-Or-clause-tree : goal.returns-in-Or-clause-tree
unfolding form_tree truths_node
returns-in-Or-clause-tree c p =
    ap (λ es. any_of p (expr_trees es)) c.deref-in-Or.ensures.value ∙ sym (ap (kind_tree p) c.in-Or.is ∙ kind_tree-any_of p c.in-Or.parts)

pub returns-in-Add-clause-tree : goal.returns-in-Add-clause-tree
unfolding form_tree
returns-in-Add-clause-tree c p =
    ap (λ ts. chain p (terms_of ts)) c.deref-in-Add.ensures.value ∙ sym (ap (kind_tree p) c.in-Add.is ∙ kind_tree-chain p c.in-Add.terms)

pub returns-in-Literal-clause-tree : goal.returns-in-Literal-clause-tree
unfolding form_tree
returns-in-Literal-clause-tree c p =
    ap (λ es. literal p (expr_trees es) (index_at c.in-Literal.domain)) c.deref-in-Literal.ensures.value
    ∙ ap (literal p (expr_trees c.in-Literal.parts.items)) (sym (index_is c.in-Literal.domain))
    ∙ sym (ap (kind_tree p) c.in-Literal.is ∙ kind_tree-literal p c.in-Literal.parts c.in-Literal.domain)

pub returns-in-Comprehension-clause-tree : goal.returns-in-Comprehension-clause-tree
unfolding form_tree
returns-in-Comprehension-clause-tree c p =
    ap (λ e. comprehension p (expr_tree e) (generators_of c.deref-in-Comprehension-3.result.now) (expr_trees c.deref-in-Comprehension-2.result.now) (index_at c.in-Comprehension.domain)) c.deref-in-Comprehension.ensures
    ∙ ap (λ gens. comprehension p (expr_tree c.in-Comprehension.body.value) (generators_of gens) (expr_trees c.deref-in-Comprehension-2.result.now) (index_at c.in-Comprehension.domain)) c.deref-in-Comprehension-3.ensures.value
    ∙ ap (λ es. comprehension p (expr_tree c.in-Comprehension.body.value) (generators_of c.in-Comprehension.generators.items) (expr_trees es) (index_at c.in-Comprehension.domain)) c.deref-in-Comprehension-2.ensures.value
    ∙ ap (comprehension p (expr_tree c.in-Comprehension.body.value) (generators_of c.in-Comprehension.generators.items) (expr_trees c.in-Comprehension.conditions.items)) (sym (index_is c.in-Comprehension.domain))
    ∙ sym (ap (kind_tree p) c.in-Comprehension.is ∙ kind_tree-comprehension p c.in-Comprehension.body c.in-Comprehension.generators c.in-Comprehension.conditions c.in-Comprehension.domain)

pub returns-in-Read-clause-tree : goal.returns-in-Read-clause-tree
unfolding form_tree
returns-in-Read-clause-tree c p =
    ap (λ e. read p (expr_tree e) (indices_of c.deref-in-Read-2.result.now)) c.deref-in-Read.ensures
    ∙ ap (λ is. read p (expr_tree c.in-Read.matrix.value) (indices_of is)) c.deref-in-Read-2.ensures.value
    ∙ sym (ap (kind_tree p) c.in-Read.is ∙ kind_tree-read p c.in-Read.matrix c.in-Read.indices)

pub returns-in-Quant-clause-below : goal.returns-in-Quant-clause-below
unfolding IsBelow
returns-in-Quant-clause-below c = (
  subst (λ k. greater (size-Domain c.deref-in-Quant.result.now) (size-Expr c.deref-in-Quant-2.result.now) < size-Kind k) (sym c.in-Quant.is)
      (of_quantifier c.in-Quant.op c.in-Quant.names c.in-Quant.domain c.in-Quant.body _ _ c.deref-in-Quant.ensures c.deref-in-Quant-2.ensures),
  omega (arith, c.deref-in-Quant-3.ensures.len),
)

pub returns-in-Literal-clause-below : goal.returns-in-Literal-clause-below
unfolding IsBelow
returns-in-Literal-clause-below c =
    subst (λ k. (most size-Expr c.deref-in-Literal.result.now < size-Kind k) × (index_depth c.in-Literal.domain < size-Kind k)) (sym c.in-Literal.is)
    (of_parts c.in-Literal.parts c.in-Literal.domain _ c.deref-in-Literal.ensures.value, of_index c.in-Literal.parts c.in-Literal.domain)

pub returns-in-Comprehension-clause-below : goal.returns-in-Comprehension-clause-below
unfolding IsBelow
returns-in-Comprehension-clause-below c =
    let d = c.in-Comprehension.domain in
    let l : Listing = record { body = c.deref-in-Comprehension.result; conditions = c.deref-in-Comprehension-2.result } in
    subst (λ k. ((generators_depth l c.deref-in-Comprehension-3.result.now < size-Kind k) × (length c.deref-in-Comprehension-3.result.now < 18446744073709551616)) × (index_depth d < size-Kind k))
    (sym c.in-Comprehension.is) (
      (
        of_comprehension c.in-Comprehension.body c.in-Comprehension.generators c.in-Comprehension.conditions d l _
            c.deref-in-Comprehension.ensures c.deref-in-Comprehension-2.ensures.value c.deref-in-Comprehension-3.ensures.value,
        omega (arith, c.deref-in-Comprehension-3.ensures.len),
      ),
      of_own_index c.in-Comprehension.body c.in-Comprehension.generators c.in-Comprehension.conditions d,
    )

pub returns-in-Read-clause-below : goal.returns-in-Read-clause-below
unfolding IsBelow
returns-in-Read-clause-below c =
    subst (λ k. (size-Expr c.deref-in-Read.result.now < size-Kind k) × (most end_depth c.deref-in-Read-2.result.now < size-Kind k)) (sym c.in-Read.is)
    (of_matrix c.in-Read.matrix c.in-Read.indices _ c.deref-in-Read.ensures, of_indices c.in-Read.matrix c.in-Read.indices _ c.deref-in-Read-2.ensures.value)
