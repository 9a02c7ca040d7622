use Rattle.ep_size.proofs.Words.{◌≡◌, ◌&&◌, ap, sym, ◌∙◌, ◌+◌, refl, drop, and-true, kind_tree-all_of, kind_tree-any_of, kind_tree-chain, kind_tree-comprehension, kind_tree-in_domain, kind_tree-literal, kind_tree-named, kind_tree-number, kind_tree-quantified, kind_tree-read, kind_tree-truth, kind_tree-absolute, kind_tree-all_different, kind_tree-at_least, kind_tree-at_most, kind_tree-binary, kind_tree-compare, kind_tree-factorial, kind_tree-flatten, kind_tree-folded, kind_tree-gcc, kind_tree-group, kind_tree-in_set, kind_tree-lex, kind_tree-minus, kind_tree-negation, kind_tree-table, kind_tree-to_int, domain_kind_tree-bool, domain_kind_tree-group, domain_kind_tree-int, domain_kind_tree-matrix, domain_kind_tree-named, domain_kind_tree-ranges, domain_kind_tree-set, with_range-one, with_range-span, decisions_in, generator_names, hiding, holds_decision, domain_kind_tree, domain_tree, domains_of, end_of, expr_tree, expr_trees, generators_of, indices_of, kind_tree, ranges_of, terms_of, index_is, index_at, alone, no_ranges, env_in, are_free, are_free_domains, are_free_generators, are_free_ranges, is_free, is_free_domain, is_free_end, is_free_index, both, standing_of, standing_of_all, standing_of_indices, standing_of_terms, hidden_without}
use Rattle.ep_tree.proofs.ViewLemmas.{index_of}
use Rattle.ep_size.proofs.LookSteps.{and_more, domains_all, domains_more, generators_all, generators_more, goes_on, indices_all, indices_more, indices_whole, same_standing, parts_all, parts_more, ranges_all, ranges_more, terms_all, terms_more}
use Rattle.ep_size.proofs.standing.+looking.Goals as goal

pub standing_in-returns-in-Group : goal.standing_in-returns-in-Group
unfolding holds_decision is_free
standing_in-returns-in-Group t c =
    let d = hidden_without (decisions_in (env_in c.args.scope)) c.args.hidden.now in
    c.standing_in.ensures ∙ ap (λ x. standing_of d (expr_tree x)) c.deref.ensures
    ∙ sym (ap (standing_of d) (ap (kind_tree c.args.e.now.place) c.in-Group.is ∙ kind_tree-group c.args.e.now.place c.in-Group.part))

pub standing_in-returns-in-Not : goal.standing_in-returns-in-Not
unfolding holds_decision is_free
standing_in-returns-in-Not t c =
    let d = hidden_without (decisions_in (env_in c.args.scope)) c.args.hidden.now in
    c.standing_in-in-Not.ensures ∙ ap (λ x. standing_of d (expr_tree x)) c.deref-in-Not.ensures
    ∙ sym (ap (standing_of d) (ap (kind_tree c.args.e.now.place) c.in-Not.is ∙ kind_tree-negation c.args.e.now.place c.in-Not.part))

pub standing_in-returns-in-Neg : goal.standing_in-returns-in-Neg
unfolding holds_decision is_free
standing_in-returns-in-Neg t c =
    let d = hidden_without (decisions_in (env_in c.args.scope)) c.args.hidden.now in
    c.standing_in-in-Neg.ensures ∙ ap (λ x. standing_of d (expr_tree x)) c.deref-in-Neg.ensures
    ∙ sym (ap (standing_of d) (ap (kind_tree c.args.e.now.place) c.in-Neg.is ∙ kind_tree-minus c.args.e.now.place c.in-Neg.part))

pub standing_in-returns-in-Abs : goal.standing_in-returns-in-Abs
unfolding holds_decision is_free
standing_in-returns-in-Abs t c =
    let d = hidden_without (decisions_in (env_in c.args.scope)) c.args.hidden.now in
    c.standing_in-in-Abs.ensures ∙ ap (λ x. standing_of d (expr_tree x)) c.deref-in-Abs.ensures
    ∙ sym (ap (standing_of d) (ap (kind_tree c.args.e.now.place) c.in-Abs.is ∙ kind_tree-absolute c.args.e.now.place c.in-Abs.part))

pub standing_in-returns-in-ToInt : goal.standing_in-returns-in-ToInt
unfolding holds_decision is_free
standing_in-returns-in-ToInt t c =
    let d = hidden_without (decisions_in (env_in c.args.scope)) c.args.hidden.now in
    c.standing_in-in-ToInt.ensures ∙ ap (λ x. standing_of d (expr_tree x)) c.deref-in-ToInt.ensures
    ∙ sym (ap (standing_of d) (ap (kind_tree c.args.e.now.place) c.in-ToInt.is ∙ kind_tree-to_int c.args.e.now.place c.in-ToInt.part))

pub standing_in-returns-in-Factorial : goal.standing_in-returns-in-Factorial
unfolding holds_decision is_free
standing_in-returns-in-Factorial t c =
    let d = hidden_without (decisions_in (env_in c.args.scope)) c.args.hidden.now in
    c.standing_in-in-Factorial.ensures ∙ ap (λ x. standing_of d (expr_tree x)) c.deref-in-Factorial.ensures
    ∙ sym (ap (standing_of d) (ap (kind_tree c.args.e.now.place) c.in-Factorial.is ∙ kind_tree-factorial c.args.e.now.place c.in-Factorial.part))

pub standing_in-returns-in-Flatten : goal.standing_in-returns-in-Flatten
unfolding holds_decision is_free
standing_in-returns-in-Flatten t c =
    let d = hidden_without (decisions_in (env_in c.args.scope)) c.args.hidden.now in
    c.standing_in-in-Flatten.ensures ∙ ap (λ x. standing_of d (expr_tree x)) c.deref-in-Flatten.ensures
    ∙ sym (ap (standing_of d) (ap (kind_tree c.args.e.now.place) c.in-Flatten.is ∙ kind_tree-flatten c.args.e.now.place c.in-Flatten.part))

pub standing_in-returns-in-Fold : goal.standing_in-returns-in-Fold
unfolding holds_decision is_free
standing_in-returns-in-Fold t c =
    let d = hidden_without (decisions_in (env_in c.args.scope)) c.args.hidden.now in
    c.standing_in-in-Fold.ensures ∙ ap (λ x. standing_of d (expr_tree x)) c.deref-in-Fold.ensures
    ∙ sym (ap (standing_of d) (ap (kind_tree c.args.e.now.place) c.in-Fold.is ∙ kind_tree-folded c.args.e.now.place c.in-Fold.field-0 c.in-Fold.part))

pub standing_in-returns-in-AllDiff : goal.standing_in-returns-in-AllDiff
unfolding holds_decision is_free
standing_in-returns-in-AllDiff t c =
    let d = hidden_without (decisions_in (env_in c.args.scope)) c.args.hidden.now in
    c.standing_in-in-AllDiff.ensures ∙ ap (λ x. standing_of d (expr_tree x)) c.deref-in-AllDiff.ensures
    ∙ sym (ap (standing_of d) (ap (kind_tree c.args.e.now.place) c.in-AllDiff.is ∙ kind_tree-all_different c.args.e.now.place c.in-AllDiff.part))

pub standing_in-returns-in-Binary : goal.standing_in-returns-in-Binary
unfolding holds_decision is_free
standing_in-returns-in-Binary t c =
    let d = hidden_without (decisions_in (env_in c.args.scope)) c.args.hidden.now in
    c.together.ensures
    ∙ ap (λ a. both a c.standing_in-in-Binary-2.result) (c.standing_in-in-Binary.ensures ∙ ap (λ x. standing_of d (expr_tree x)) c.deref-in-Binary.ensures)
    ∙ ap (both (standing_of d (expr_tree c.in-Binary.one.value))) (c.standing_in-in-Binary-2.ensures ∙ ap (λ x. standing_of d (expr_tree x)) c.deref-in-Binary-2.ensures)
    ∙ sym (ap (standing_of d) (ap (kind_tree c.args.e.now.place) c.in-Binary.is ∙ kind_tree-binary c.args.e.now.place c.in-Binary.field-0 c.in-Binary.one c.in-Binary.other))

pub standing_in-returns-in-Compare : goal.standing_in-returns-in-Compare
unfolding holds_decision is_free
standing_in-returns-in-Compare t c =
    let d = hidden_without (decisions_in (env_in c.args.scope)) c.args.hidden.now in
    c.together-in-Compare.ensures
    ∙ ap (λ a. both a c.standing_in-in-Compare-2.result) (c.standing_in-in-Compare.ensures ∙ ap (λ x. standing_of d (expr_tree x)) c.deref-in-Compare.ensures)
    ∙ ap (both (standing_of d (expr_tree c.in-Compare.one.value))) (c.standing_in-in-Compare-2.ensures ∙ ap (λ x. standing_of d (expr_tree x)) c.deref-in-Compare-2.ensures)
    ∙ sym (ap (standing_of d) (ap (kind_tree c.args.e.now.place) c.in-Compare.is ∙ kind_tree-compare c.args.e.now.place c.in-Compare.field-0 c.in-Compare.one c.in-Compare.other))

pub standing_in-returns-in-Lex : goal.standing_in-returns-in-Lex
unfolding holds_decision is_free
standing_in-returns-in-Lex t c =
    let d = hidden_without (decisions_in (env_in c.args.scope)) c.args.hidden.now in
    c.together-in-Lex.ensures
    ∙ ap (λ a. both a c.standing_in-in-Lex-2.result) (c.standing_in-in-Lex.ensures ∙ ap (λ x. standing_of d (expr_tree x)) c.deref-in-Lex.ensures)
    ∙ ap (both (standing_of d (expr_tree c.in-Lex.one.value))) (c.standing_in-in-Lex-2.ensures ∙ ap (λ x. standing_of d (expr_tree x)) c.deref-in-Lex-2.ensures)
    ∙ sym (ap (standing_of d) (ap (kind_tree c.args.e.now.place) c.in-Lex.is ∙ kind_tree-lex c.args.e.now.place c.in-Lex.field-0 c.in-Lex.one c.in-Lex.other))

pub standing_in-returns-in-InSet : goal.standing_in-returns-in-InSet
unfolding holds_decision is_free
standing_in-returns-in-InSet t c =
    let d = hidden_without (decisions_in (env_in c.args.scope)) c.args.hidden.now in
    c.together-in-InSet.ensures
    ∙ ap (λ a. both a c.standing_in-in-InSet-2.result) (c.standing_in-in-InSet.ensures ∙ ap (λ x. standing_of d (expr_tree x)) c.deref-in-InSet.ensures)
    ∙ ap (both (standing_of d (expr_tree c.in-InSet.one.value))) (c.standing_in-in-InSet-2.ensures ∙ ap (λ x. standing_of d (expr_tree x)) c.deref-in-InSet-2.ensures)
    ∙ sym (ap (standing_of d) (ap (kind_tree c.args.e.now.place) c.in-InSet.is ∙ kind_tree-in_set c.args.e.now.place c.in-InSet.one c.in-InSet.other))

pub standing_in-returns-in-Table : goal.standing_in-returns-in-Table
unfolding holds_decision is_free
standing_in-returns-in-Table t c =
    let d = hidden_without (decisions_in (env_in c.args.scope)) c.args.hidden.now in
    c.together-in-Table.ensures
    ∙ ap (λ a. both a c.standing_in-in-Table-2.result) (c.standing_in-in-Table.ensures ∙ ap (λ x. standing_of d (expr_tree x)) c.deref-in-Table.ensures)
    ∙ ap (both (standing_of d (expr_tree c.in-Table.one.value))) (c.standing_in-in-Table-2.ensures ∙ ap (λ x. standing_of d (expr_tree x)) c.deref-in-Table-2.ensures)
    ∙ sym (ap (standing_of d) (ap (kind_tree c.args.e.now.place) c.in-Table.is ∙ kind_tree-table c.args.e.now.place c.in-Table.one c.in-Table.other))

pub standing_in-returns-in-Gcc : goal.standing_in-returns-in-Gcc
unfolding holds_decision is_free
standing_in-returns-in-Gcc t c =
    let d = hidden_without (decisions_in (env_in c.args.scope)) c.args.hidden.now in
    c.together-in-Gcc.ensures
    ∙ ap (λ a. both a c.standing_in-in-Gcc-3.result)
    (c.together-front.ensures
    ∙ ap (λ a. both a c.standing_in-in-Gcc-2.result) (c.standing_in-in-Gcc.ensures ∙ ap (λ x. standing_of d (expr_tree x)) c.deref-in-Gcc.ensures)
    ∙ ap (both (standing_of d (expr_tree c.in-Gcc.one.value))) (c.standing_in-in-Gcc-2.ensures ∙ ap (λ x. standing_of d (expr_tree x)) c.deref-in-Gcc-2.ensures))
    ∙ ap (both (both (standing_of d (expr_tree c.in-Gcc.one.value)) (standing_of d (expr_tree c.in-Gcc.other.value)))) (c.standing_in-in-Gcc-3.ensures ∙ ap (λ x. standing_of d (expr_tree x)) c.deref-in-Gcc-3.ensures)
    ∙ sym (ap (standing_of d) (ap (kind_tree c.args.e.now.place) c.in-Gcc.is ∙ kind_tree-gcc c.args.e.now.place c.in-Gcc.one c.in-Gcc.other c.in-Gcc.third))

pub standing_in-returns-in-AtLeast : goal.standing_in-returns-in-AtLeast
unfolding holds_decision is_free
standing_in-returns-in-AtLeast t c =
    let d = hidden_without (decisions_in (env_in c.args.scope)) c.args.hidden.now in
    c.together-in-AtLeast.ensures
    ∙ ap (λ a. both a c.standing_in-in-AtLeast-3.result)
    (c.together-front-in-AtLeast.ensures
    ∙ ap (λ a. both a c.standing_in-in-AtLeast-2.result) (c.standing_in-in-AtLeast.ensures ∙ ap (λ x. standing_of d (expr_tree x)) c.deref-in-AtLeast.ensures)
    ∙ ap (both (standing_of d (expr_tree c.in-AtLeast.one.value))) (c.standing_in-in-AtLeast-2.ensures ∙ ap (λ x. standing_of d (expr_tree x)) c.deref-in-AtLeast-2.ensures))
    ∙ ap (both (both (standing_of d (expr_tree c.in-AtLeast.one.value)) (standing_of d (expr_tree c.in-AtLeast.other.value)))) (c.standing_in-in-AtLeast-3.ensures ∙ ap (λ x. standing_of d (expr_tree x)) c.deref-in-AtLeast-3.ensures)
    ∙ sym (ap (standing_of d) (ap (kind_tree c.args.e.now.place) c.in-AtLeast.is ∙ kind_tree-at_least c.args.e.now.place c.in-AtLeast.one c.in-AtLeast.other c.in-AtLeast.third))

pub standing_in-returns-in-AtMost : goal.standing_in-returns-in-AtMost
unfolding holds_decision is_free
standing_in-returns-in-AtMost t c =
    let d = hidden_without (decisions_in (env_in c.args.scope)) c.args.hidden.now in
    c.together-in-AtMost.ensures
    ∙ ap (λ a. both a c.standing_in-in-AtMost-3.result)
    (c.together-front-in-AtMost.ensures
    ∙ ap (λ a. both a c.standing_in-in-AtMost-2.result) (c.standing_in-in-AtMost.ensures ∙ ap (λ x. standing_of d (expr_tree x)) c.deref-in-AtMost.ensures)
    ∙ ap (both (standing_of d (expr_tree c.in-AtMost.one.value))) (c.standing_in-in-AtMost-2.ensures ∙ ap (λ x. standing_of d (expr_tree x)) c.deref-in-AtMost-2.ensures))
    ∙ ap (both (both (standing_of d (expr_tree c.in-AtMost.one.value)) (standing_of d (expr_tree c.in-AtMost.other.value)))) (c.standing_in-in-AtMost-3.ensures ∙ ap (λ x. standing_of d (expr_tree x)) c.deref-in-AtMost-3.ensures)
    ∙ sym (ap (standing_of d) (ap (kind_tree c.args.e.now.place) c.in-AtMost.is ∙ kind_tree-at_most c.args.e.now.place c.in-AtMost.one c.in-AtMost.other c.in-AtMost.third))

pub of_all-loop-part-init : goal.of_all-loop-part-init
of_all-loop-part-init t c = refl

pub of_all-loop-part-preserved : goal.of_all-loop-part-preserved
of_all-loop-part-preserved t c =
    let f = hidden_without (decisions_in (env_in c.args.scope)) c.args.hidden.now in
    goes_on c.loop-part.all c.standing_in.result _ _ _ c.together-all.result c.together-all.ensures
    (parts_more f c.args.parts.now c.loop-part.part-index c.part-item.result _ c.loop-part-test.true c.part-item.is
    ∙ ap (λ s. both s (standing_of_all f (expr_trees (drop (c.loop-part.part-index + 1) c.args.parts.now)))) (sym c.standing_in.ensures))
    c.loop-part.invariant

pub of_all-returns : goal.of_all-returns
of_all-returns t c =
    let f = hidden_without (decisions_in (env_in c.args.scope)) c.args.hidden.now in
    sym (parts_all f c.args.parts.now c.loop-part.part-index c.loop-part.all c.loop-part-test.false) ∙ c.loop-part.invariant

pub of_terms-loop-term-init : goal.of_terms-loop-term-init
of_terms-loop-term-init t c = refl

pub of_terms-loop-term-preserved : goal.of_terms-loop-term-preserved
of_terms-loop-term-preserved t c =
    let f = hidden_without (decisions_in (env_in c.args.scope)) c.args.hidden.now in
    goes_on c.loop-term.all c.standing_in.result _ _ _ c.together-all.result c.together-all.ensures
    (terms_more f c.args.terms.now c.loop-term.term-index c.term-item.result _ c.loop-term-test.true c.term-item.is
    ∙ ap (λ s. both s (standing_of_terms f (terms_of (drop (c.loop-term.term-index + 1) c.args.terms.now)))) (sym c.standing_in.ensures))
    c.loop-term.invariant

pub of_terms-returns : goal.of_terms-returns
of_terms-returns t c =
    let f = hidden_without (decisions_in (env_in c.args.scope)) c.args.hidden.now in
    sym (terms_all f c.args.terms.now c.loop-term.term-index c.loop-term.all c.loop-term-test.false) ∙ c.loop-term.invariant

pub of_indices-loop-index-init : goal.of_indices-loop-index-init
of_indices-loop-index-init t c = refl

pub of_indices-loop-index-preserved : goal.of_indices-loop-index-preserved
of_indices-loop-index-preserved t c =
    let f = hidden_without (decisions_in (env_in c.args.scope)) c.args.hidden.now in
    goes_on c.loop-index.all c.standing_in.result _ _ _ c.together-all.result c.together-all.ensures
    (indices_more f c.args.indices.now c.loop-index.index-index c.in-Some.e _ c.loop-index-test.true (sym c.in-Some.is ∙ c.index-item.is)
    ∙ ap (λ s. both s (standing_of_indices f (indices_of (drop (c.loop-index.index-index + 1) c.args.indices.now)))) (sym c.standing_in.ensures))
    c.loop-index.invariant

pub of_indices-loop-index-preserved-in-None : goal.of_indices-loop-index-preserved-in-None
of_indices-loop-index-preserved-in-None t c =
    let f = hidden_without (decisions_in (env_in c.args.scope)) c.args.hidden.now in
    indices_whole f c.args.indices.now c.loop-index.index-index _ c.loop-index.all _ c.loop-index-test.true (sym c.in-None.is ∙ c.index-item.is) c.loop-index.invariant

pub of_indices-returns : goal.of_indices-returns
of_indices-returns t c =
    let f = hidden_without (decisions_in (env_in c.args.scope)) c.args.hidden.now in
    sym (indices_all f c.args.indices.now c.loop-index.index-index c.loop-index.all c.loop-index-test.false) ∙ c.loop-index.invariant

pub standing_in-returns-in-Number : goal.standing_in-returns-in-Number
unfolding holds_decision is_free
standing_in-returns-in-Number t c =
    let d = hidden_without (decisions_in (env_in c.args.scope)) c.args.hidden.now in
    sym (ap (standing_of d) (ap (kind_tree c.args.e.now.place) c.in-Number.is ∙ kind_tree-number c.args.e.now.place c.in-Number.field-0))

pub standing_in-returns-in-Truth : goal.standing_in-returns-in-Truth
unfolding holds_decision is_free
standing_in-returns-in-Truth t c =
    let d = hidden_without (decisions_in (env_in c.args.scope)) c.args.hidden.now in
    sym (ap (standing_of d) (ap (kind_tree c.args.e.now.place) c.in-Truth.is ∙ kind_tree-truth c.args.e.now.place c.in-Truth.field-0))

pub standing_in-returns-in-Named : goal.standing_in-returns-in-Named
unfolding holds_decision is_free
standing_in-returns-in-Named t c =
    let d = hidden_without (decisions_in (env_in c.args.scope)) c.args.hidden.now in
    same_standing c.of_name.result _ _ c.of_name.ensures.decided c.of_name.ensures.free
    ∙ sym (ap (standing_of d) (ap (kind_tree c.args.e.now.place) c.in-Named.is ∙ kind_tree-named c.args.e.now.place c.in-Named.name))

pub standing_in-returns-in-Add : goal.standing_in-returns-in-Add
unfolding holds_decision is_free
standing_in-returns-in-Add t c =
    let d = hidden_without (decisions_in (env_in c.args.scope)) c.args.hidden.now in
    c.of_terms.ensures ∙ ap (λ ts. standing_of_terms d (terms_of ts)) c.deref-in-Add.ensures.value
    ∙ sym (ap (standing_of d) (ap (kind_tree c.args.e.now.place) c.in-Add.is ∙ kind_tree-chain c.args.e.now.place c.in-Add.terms))

pub standing_in-returns-in-And : goal.standing_in-returns-in-And
unfolding holds_decision is_free
standing_in-returns-in-And t c =
    let d = hidden_without (decisions_in (env_in c.args.scope)) c.args.hidden.now in
    c.of_all.ensures ∙ ap (λ es. standing_of_all d (expr_trees es)) c.deref-in-And.ensures.value
    ∙ sym (ap (standing_of d) (ap (kind_tree c.args.e.now.place) c.in-And.is ∙ kind_tree-all_of c.args.e.now.place c.in-And.parts))

pub standing_in-returns-in-Or : goal.standing_in-returns-in-Or
unfolding holds_decision is_free
standing_in-returns-in-Or t c =
    let d = hidden_without (decisions_in (env_in c.args.scope)) c.args.hidden.now in
    c.of_all-in-Or.ensures ∙ ap (λ es. standing_of_all d (expr_trees es)) c.deref-in-Or.ensures.value
    ∙ sym (ap (standing_of d) (ap (kind_tree c.args.e.now.place) c.in-Or.is ∙ kind_tree-any_of c.args.e.now.place c.in-Or.parts))

pub standing_in-returns-in-Read : goal.standing_in-returns-in-Read
unfolding holds_decision is_free
standing_in-returns-in-Read t c =
    let d = hidden_without (decisions_in (env_in c.args.scope)) c.args.hidden.now in
    c.together-in-Read.ensures
    ∙ ap (λ a. both a c.of_indices.result) (c.standing_in-in-Read.ensures ∙ ap (λ x. standing_of d (expr_tree x)) c.deref-in-Read.ensures)
    ∙ ap (both (standing_of d (expr_tree c.in-Read.matrix.value))) (c.of_indices.ensures ∙ ap (λ is. standing_of_indices d (indices_of is)) c.deref-in-Read-2.ensures.value)
    ∙ sym (ap (standing_of d) (ap (kind_tree c.args.e.now.place) c.in-Read.is ∙ kind_tree-read c.args.e.now.place c.in-Read.matrix c.in-Read.indices))

pub standing_in-returns-in-InDomain : goal.standing_in-returns-in-InDomain
unfolding holds_decision is_free
standing_in-returns-in-InDomain t c =
    let d = hidden_without (decisions_in (env_in c.args.scope)) c.args.hidden.now in
    same_standing c.with_free.result _ _
    (c.with_free.ensures.decided ∙ ap (λ s. s.decided) (c.standing_in-own.ensures ∙ ap (λ x. standing_of d (expr_tree x)) c.deref-in-InDomain.ensures))
    (c.with_free.ensures.free
    ∙ ap (λ s. s.free && c.is_free_domain.result) (c.standing_in-own.ensures ∙ ap (λ x. standing_of d (expr_tree x)) c.deref-in-InDomain.ensures)
    ∙ ap (λ b. is_free d (expr_tree c.in-InDomain.part.value) && b) (c.is_free_domain.ensures ∙ ap (λ x. is_free_domain d (domain_tree x)) c.deref-in-InDomain-2.ensures))
    ∙ sym (ap (standing_of d) (ap (kind_tree c.args.e.now.place) c.in-InDomain.is ∙ kind_tree-in_domain c.args.e.now.place c.in-InDomain.part c.in-InDomain.domain))

pub standing_in-returns-in-Quant : goal.standing_in-returns-in-Quant
unfolding holds_decision is_free hidden_without
standing_in-returns-in-Quant t c =
    let d = hidden_without (decisions_in (env_in c.args.scope)) c.args.hidden.now in
    let body : c.standing_in-in-Quant.result ≡ standing_of (hiding c.in-Quant.names.items d) (expr_tree c.in-Quant.body.value) =
    c.standing_in-in-Quant.ensures
    ∙ ap (λ ns. standing_of (hiding ns d) (expr_tree c.deref-in-Quant-3.result.now)) c.deref-in-Quant-2.ensures.value
    ∙ ap (λ x. standing_of (hiding c.in-Quant.names.items d) (expr_tree x)) c.deref-in-Quant-3.ensures in
    same_standing c.behind.result _ _
    (c.behind.ensures.decided ∙ ap (λ s. s.decided) body)
    (c.behind.ensures.free
    ∙ ap (λ b. b && c.standing_in-in-Quant.result.free) (c.is_free_domain-free.ensures ∙ ap (λ x. is_free_domain d (domain_tree x)) c.deref-in-Quant.ensures)
    ∙ ap (λ s. is_free_domain d (domain_tree c.in-Quant.domain.value) && s.free) body)
    ∙ sym (ap (standing_of d) (ap (kind_tree c.args.e.now.place) c.in-Quant.is ∙ kind_tree-quantified c.args.e.now.place c.in-Quant.field-0 c.in-Quant.names c.in-Quant.domain c.in-Quant.body))

pub standing_in-returns-in-Literal : goal.standing_in-returns-in-Literal
unfolding holds_decision is_free
standing_in-returns-in-Literal t c =
    let d = hidden_without (decisions_in (env_in c.args.scope)) c.args.hidden.now in
    same_standing c.with_free-in-Literal.result _ _
    (c.with_free-in-Literal.ensures.decided ∙ ap (λ s. s.decided) (c.of_all-own.ensures ∙ ap (λ es. standing_of_all d (expr_trees es)) c.deref-in-Literal.ensures.value))
    (c.with_free-in-Literal.ensures.free
    ∙ ap (λ s. s.free && c.is_free_index.result) (c.of_all-own.ensures ∙ ap (λ es. standing_of_all d (expr_trees es)) c.deref-in-Literal.ensures.value)
    ∙ ap (λ b. are_free d (expr_trees c.in-Literal.parts.items) && b) (c.is_free_index.ensures ∙ sym (ap (is_free_index d) (index_is c.in-Literal.domain))))
    ∙ sym (ap (standing_of d) (ap (kind_tree c.args.e.now.place) c.in-Literal.is ∙ kind_tree-literal c.args.e.now.place c.in-Literal.parts c.in-Literal.domain))

pub standing_in-returns-in-Comprehension : goal.standing_in-returns-in-Comprehension
unfolding holds_decision is_free hidden_without
standing_in-returns-in-Comprehension t c =
    let d = hidden_without (decisions_in (env_in c.args.scope)) c.args.hidden.now in
    let gs = c.in-Comprehension.generators.items in
    let hid = hiding (generator_names (generators_of gs)) d in
    let tests : c.of_all-tests.result ≡ standing_of_all hid (expr_trees c.in-Comprehension.conditions.items) =
    c.of_all-tests.ensures
    ∙ ap (λ l. standing_of_all (hiding (generator_names (generators_of l)) d) (expr_trees c.deref-in-Comprehension-3.result.now)) c.deref-in-Comprehension.ensures.value
    ∙ ap (λ l. standing_of_all hid (expr_trees l)) c.deref-in-Comprehension-3.ensures.value in
    let body : c.standing_in-body.result ≡ standing_of hid (expr_tree c.in-Comprehension.part.value) =
    c.standing_in-body.ensures
    ∙ ap (λ l. standing_of (hiding (generator_names (generators_of l)) d) (expr_tree c.deref-in-Comprehension-4.result.now)) c.deref-in-Comprehension.ensures.value
    ∙ ap (λ x. standing_of hid (expr_tree x)) c.deref-in-Comprehension-4.ensures in
    let front : c.are_both-front.result ≡ (are_free_generators d (generators_of gs) && are_free hid (expr_trees c.in-Comprehension.conditions.items)) =
    c.are_both-front.ensures
    ∙ ap (λ b. b && c.of_all-tests.result.free) (c.are_free_generators-domains.ensures ∙ ap (λ l. are_free_generators d (generators_of l)) c.deref-in-Comprehension-2.ensures.value)
    ∙ ap (λ s. are_free_generators d (generators_of gs) && s.free) tests in
    let listed : c.with_free-listed.result.free ≡ (is_free hid (expr_tree c.in-Comprehension.part.value) && is_free_index d (index_of c.in-Comprehension.domain)) =
    c.with_free-listed.ensures.free ∙ ap (λ s. s.free && c.is_free_index-index.result) body
    ∙ ap (λ b. is_free hid (expr_tree c.in-Comprehension.part.value) && b) (c.is_free_index-index.ensures ∙ sym (ap (is_free_index d) (index_is c.in-Comprehension.domain))) in
    same_standing c.behind-in-Comprehension.result _ _
    (c.behind-in-Comprehension.ensures.decided ∙ c.with_free-listed.ensures.decided ∙ ap (λ s. s.decided) body)
    (c.behind-in-Comprehension.ensures.free ∙ ap (λ b. b && c.with_free-listed.result.free) front
    ∙ ap (λ b. are_free_generators d (generators_of gs) && are_free hid (expr_trees c.in-Comprehension.conditions.items) && b) listed)
    ∙ sym (ap (standing_of d) (ap (kind_tree c.args.e.now.place) c.in-Comprehension.is
    ∙ kind_tree-comprehension c.args.e.now.place c.in-Comprehension.part c.in-Comprehension.generators c.in-Comprehension.conditions c.in-Comprehension.domain))

pub is_free_domain-returns-in-Bool : goal.is_free_domain-returns-in-Bool
unfolding is_free_domain
is_free_domain-returns-in-Bool t c =
    let d = hidden_without (decisions_in (env_in c.args.scope)) c.args.hidden.now in
    sym (ap (is_free_domain d) (ap (domain_kind_tree c.args.d.now.place) c.in-Bool.is ∙ domain_kind_tree-bool c.args.d.now.place))

pub is_free_domain-returns-in-Int : goal.is_free_domain-returns-in-Int
unfolding is_free_domain
is_free_domain-returns-in-Int t c =
    let d = hidden_without (decisions_in (env_in c.args.scope)) c.args.hidden.now in
    sym (ap (is_free_domain d) (ap (domain_kind_tree c.args.d.now.place) c.in-Int.is ∙ domain_kind_tree-int c.args.d.now.place))

pub is_free_domain-returns-in-Named : goal.is_free_domain-returns-in-Named
unfolding is_free_domain
is_free_domain-returns-in-Named t c =
    let d = hidden_without (decisions_in (env_in c.args.scope)) c.args.hidden.now in
    sym (ap (is_free_domain d) (ap (domain_kind_tree c.args.d.now.place) c.in-Named.is ∙ domain_kind_tree-named c.args.d.now.place c.in-Named.field-0))

pub is_free_domain-returns-in-Ranges : goal.is_free_domain-returns-in-Ranges
unfolding is_free_domain
is_free_domain-returns-in-Ranges t c =
    let d = hidden_without (decisions_in (env_in c.args.scope)) c.args.hidden.now in
    c.are_free_ranges.ensures ∙ ap (λ rs. are_free_ranges d (ranges_of rs)) c.deref.ensures.value
    ∙ sym (ap (is_free_domain d) (ap (domain_kind_tree c.args.d.now.place) c.in-Ranges.is ∙ domain_kind_tree-ranges c.args.d.now.place c.in-Ranges.ranges))

pub is_free_domain-returns-in-Group : goal.is_free_domain-returns-in-Group
unfolding is_free_domain
is_free_domain-returns-in-Group t c =
    let d = hidden_without (decisions_in (env_in c.args.scope)) c.args.hidden.now in
    c.is_free_domain.ensures ∙ ap (λ x. is_free_domain d (domain_tree x)) c.deref-in-Group.ensures
    ∙ sym (ap (is_free_domain d) (ap (domain_kind_tree c.args.d.now.place) c.in-Group.is ∙ domain_kind_tree-group c.args.d.now.place c.in-Group.inner))

pub is_free_domain-returns-in-Set : goal.is_free_domain-returns-in-Set
unfolding is_free_domain
is_free_domain-returns-in-Set t c =
    let d = hidden_without (decisions_in (env_in c.args.scope)) c.args.hidden.now in
    c.are_both.ensures
    ∙ ap (λ b. b && c.is_free_domain-in-Set-2.result) (c.is_free_domain-in-Set.ensures ∙ ap (λ x. is_free_domain d (domain_tree x)) c.deref-in-Set.ensures)
    ∙ ap (λ b. is_free_domain d (domain_tree c.in-Set.one.value) && b) (c.is_free_domain-in-Set-2.ensures ∙ ap (λ x. is_free_domain d (domain_tree x)) c.deref-in-Set-2.ensures)
    ∙ sym (ap (is_free_domain d) (ap (domain_kind_tree c.args.d.now.place) c.in-Set.is ∙ domain_kind_tree-set c.args.d.now.place c.in-Set.field-0 c.in-Set.one c.in-Set.other))

pub is_free_domain-returns-in-Matrix : goal.is_free_domain-returns-in-Matrix
unfolding is_free_domain
is_free_domain-returns-in-Matrix t c =
    let d = hidden_without (decisions_in (env_in c.args.scope)) c.args.hidden.now in
    c.are_both-in-Matrix.ensures
    ∙ ap (λ b. b && c.is_free_domain-in-Matrix.result) (c.are_free_domains.ensures ∙ ap (λ xs. are_free_domains d (domains_of xs)) c.deref-in-Matrix.ensures.value)
    ∙ ap (λ b. are_free_domains d (domains_of c.in-Matrix.indices.items) && b) (c.is_free_domain-in-Matrix.ensures ∙ ap (λ x. is_free_domain d (domain_tree x)) c.deref-in-Matrix-2.ensures)
    ∙ sym (ap (is_free_domain d) (ap (domain_kind_tree c.args.d.now.place) c.in-Matrix.is ∙ domain_kind_tree-matrix c.args.d.now.place c.in-Matrix.indices c.in-Matrix.element))

pub is_free_end-returns-in-Some : goal.is_free_end-returns-in-Some
unfolding is_free_end end_of
is_free_end-returns-in-Some t c =
    let d = hidden_without (decisions_in (env_in c.args.scope)) c.args.hidden.now in
    ap (λ s. s.free) c.standing_in.ensures ∙ sym (ap (λ o. is_free_end d (end_of o)) c.in-Some.is)

pub is_free_end-returns-in-None : goal.is_free_end-returns-in-None
unfolding is_free_end end_of
is_free_end-returns-in-None t c =
    let d = hidden_without (decisions_in (env_in c.args.scope)) c.args.hidden.now in
    sym (ap (λ o. is_free_end d (end_of o)) c.in-None.is)

pub is_free_range-returns-in-One : goal.is_free_range-returns-in-One
unfolding are_free_ranges
is_free_range-returns-in-One t c =
    let d = hidden_without (decisions_in (env_in c.args.scope)) c.args.hidden.now in
    ap (λ s. s.free) c.standing_in.ensures ∙ sym (and-true _) ∙ sym (ap (are_free_ranges d) (with_range-one c.in-One.e no_ranges))
    ∙ sym (ap (λ r. are_free_ranges d (alone r)) c.in-One.is)

pub is_free_range-returns-in-Span : goal.is_free_range-returns-in-Span
unfolding are_free_ranges
is_free_range-returns-in-Span t c =
    let d = hidden_without (decisions_in (env_in c.args.scope)) c.args.hidden.now in
    c.are_both.ensures ∙ ap (λ b. b && c.is_free_end-in-Span.result) c.is_free_end.ensures
    ∙ ap (λ b. is_free_end d (end_of c.in-Span.low) && b) c.is_free_end-in-Span.ensures ∙ sym (and-true _)
    ∙ sym (ap (are_free_ranges d) (with_range-span c.in-Span.low c.in-Span.high no_ranges))
    ∙ sym (ap (λ r. are_free_ranges d (alone r)) c.in-Span.is)

pub are_free_ranges-loop-range-init : goal.are_free_ranges-loop-range-init
are_free_ranges-loop-range-init t c =
    refl

pub are_free_ranges-loop-range-preserved : goal.are_free_ranges-loop-range-preserved
are_free_ranges-loop-range-preserved t c =
    let d = hidden_without (decisions_in (env_in c.args.scope)) c.args.hidden.now in
    and_more c.loop-range.all c.is_free_range.result _ _ _ c.are_both-all.result c.are_both-all.ensures
    (ranges_more d c.args.ranges.now c.loop-range.range-index c.range-item.result _ c.is_free_range.result c.loop-range-test.true c.range-item.is c.is_free_range.ensures)
    c.loop-range.invariant

pub are_free_ranges-returns : goal.are_free_ranges-returns
are_free_ranges-returns t c =
    let d = hidden_without (decisions_in (env_in c.args.scope)) c.args.hidden.now in
    sym (ranges_all d c.args.ranges.now c.loop-range.range-index c.loop-range.all c.loop-range-test.false) ∙ c.loop-range.invariant

pub are_free_domains-loop-domain-init : goal.are_free_domains-loop-domain-init
are_free_domains-loop-domain-init t c =
    refl

pub are_free_domains-loop-domain-preserved : goal.are_free_domains-loop-domain-preserved
are_free_domains-loop-domain-preserved t c =
    let d = hidden_without (decisions_in (env_in c.args.scope)) c.args.hidden.now in
    and_more c.loop-domain.all c.is_free_domain.result _ _ _ c.are_both-all.result c.are_both-all.ensures
    (domains_more d c.args.domains.now c.loop-domain.domain-index c.domain-item.result _ c.is_free_domain.result c.loop-domain-test.true c.domain-item.is c.is_free_domain.ensures)
    c.loop-domain.invariant

pub are_free_domains-returns : goal.are_free_domains-returns
are_free_domains-returns t c =
    let d = hidden_without (decisions_in (env_in c.args.scope)) c.args.hidden.now in
    sym (domains_all d c.args.domains.now c.loop-domain.domain-index c.loop-domain.all c.loop-domain-test.false) ∙ c.loop-domain.invariant

pub is_free_index-returns-in-Some : goal.is_free_index-returns-in-Some
unfolding is_free_index index_at
is_free_index-returns-in-Some t c =
    let d = hidden_without (decisions_in (env_in c.args.scope)) c.args.hidden.now in
    c.is_free_domain.ensures ∙ ap (λ x. is_free_domain d (domain_tree x)) c.deref.ensures ∙ sym (ap (λ o. is_free_index d (index_at o)) c.in-Some.is)

pub is_free_index-returns-in-None : goal.is_free_index-returns-in-None
unfolding is_free_index index_at
is_free_index-returns-in-None t c =
    let d = hidden_without (decisions_in (env_in c.args.scope)) c.args.hidden.now in
    sym (ap (λ o. is_free_index d (index_at o)) c.in-None.is)

pub are_free_generators-loop-generator-init : goal.are_free_generators-loop-generator-init
are_free_generators-loop-generator-init t c =
    refl

pub are_free_generators-loop-generator-preserved : goal.are_free_generators-loop-generator-preserved
are_free_generators-loop-generator-preserved t c =
    let d = hidden_without (decisions_in (env_in c.args.scope)) c.args.hidden.now in
    and_more c.loop-generator.all c.is_free_domain.result _ _ _ c.are_both-all.result c.are_both-all.ensures
    (generators_more d c.args.generators.now c.loop-generator.generator-index c.generator-item.result _ c.is_free_domain.result c.loop-generator-test.true c.generator-item.is c.is_free_domain.ensures)
    c.loop-generator.invariant

pub are_free_generators-returns : goal.are_free_generators-returns
are_free_generators-returns t c =
    let d = hidden_without (decisions_in (env_in c.args.scope)) c.args.hidden.now in
    sym (generators_all d c.args.generators.now c.loop-generator.generator-index c.loop-generator.all c.loop-generator-test.false) ∙ c.loop-generator.invariant
