use Rattle.ep_eval.proofs.Words.{◌≡◌, ◌+◌, ◌-◌, ◌&&◌, ◌∷◌, [], ◌++◌, None, arith, ℕ, Bool, List, Option, Some, drop, length, ap, sym, subst, ◌∙◌, option_map, drop_all, drop_more, map_both, judge-named, judge_domain-bool, judge_domain-int, judge_domain-named_domain, kind_tree-absolute, kind_tree-all_different, kind_tree-all_of, kind_tree-any_of, kind_tree-at_least, kind_tree-at_most, kind_tree-binary, kind_tree-chain, kind_tree-compare, kind_tree-factorial, kind_tree-flatten, kind_tree-folded, kind_tree-gcc, kind_tree-group, kind_tree-in_set, kind_tree-lex, kind_tree-minus, kind_tree-named, kind_tree-negation, kind_tree-number, kind_tree-read, kind_tree-table, kind_tree-to_int, kind_tree-truth, kind_tree-in_domain, kind_tree-literal, domain_kind_tree-bool, domain_kind_tree-group, domain_kind_tree-int, domain_kind_tree-matrix, domain_kind_tree-named, domain_kind_tree-ranges, domain_kind_tree-set, env_in, AreNamesTyped, context_in, inside_names, readings, with_typed, context_of, Generator, Name, absolute, all_different, at_least, at_most, binary, compare, factorial, folded, gcc, in_set, lex, literal, minus, negation, table, to_int, all_typed, inside_all, judge_all, judge_domains, judge_generators, judge_indices, judge_ranges, judge_terms, slice_count, type_from, domain_kind_tree, domain_tree, domains_of, expr_tree, expr_trees, generators_of, indices_of, kind_tree, ranges_of, terms_of, Domain, Expr, Range, ValueType, all_pass, domain_type_at, flattened, fold_part, join_part, list_of, matrix_over, name_scalar, passes, read_of, set_of_both, type_at, type_if, index_at, Wanted}
use Rattle.ep_eval.proofs.TypedNames.{Read, comprehension_none, comprehension_told, generators_ended, generators_fail, generators_inside, generators_pass, generators_passed, names_ended, names_fail, names_inside, names_pass, names_passed, quantifier_none, quantifier_told, read_as}
use Rattle.ep_eval.proofs.DomainTypes.{at-group_domain, at-in_domain, at-literal, at-matrix_domain, at-ranges, at-set_domain, domains_none, domains_one, index_is, index_scalar-none, index_scalar-some, joined_types, range_one, range_span, ranges_none, ranges_one, types_begin, types_end, types_more}
use Rattle.ep_eval.proofs.ReadSteps.{given}
use Rattle.ep_eval.proofs.JudgingForms.{at-absolute, at-all_different, at-all_of, at-any_of, at-at_least, at-at_most, at-binary, at-chain, at-compare, at-factorial, at-flatten, at-folded, at-gcc, at-group, at-in_set, at-lex, at-minus, at-negation, at-number, at-read, at-table, at-to_int, at-truth, both_pass, count_form, first_all, index_every, index_stated, indices_none, indices_one, one_form, parts_none, parts_one, pass_ends, pass_more, terms_none, terms_one, two_form}
use Rattle.ep_eval.proofs.judging.+judging.Goals as goal

pub type_of-returns-in-Number : goal.type_of-returns-in-Number
type_of-returns-in-Number t c =
    let k = context_in c.args.within in
    let p = c.args.e.now.place in
    let kind = c.args.e.now.kind in
    at-number k p c.in-Number.field-0 ∙ sym (ap (λ x. type_at k (kind_tree p x)) c.in-Number.is ∙ ap (type_at k) (kind_tree-number p c.in-Number.field-0))

pub type_of-returns-in-Truth : goal.type_of-returns-in-Truth
type_of-returns-in-Truth t c =
    let k = context_in c.args.within in
    let p = c.args.e.now.place in
    let kind = c.args.e.now.kind in
    at-truth k p c.in-Truth.field-0 ∙ sym (ap (λ x. type_at k (kind_tree p x)) c.in-Truth.is ∙ ap (type_at k) (kind_tree-truth p c.in-Truth.field-0))

pub type_of-returns-in-Named : goal.type_of-returns-in-Named
type_of-returns-in-Named t c =
    let k = context_in c.args.within in
    let p = c.args.e.now.place in
    let kind = c.args.e.now.kind in
    c.name_within.ensures ∙ sym (ap (λ x. type_at k (kind_tree p x)) c.in-Named.is ∙ ap (type_at k) (kind_tree-named p c.in-Named.name) ∙ ap type_from (judge-named k p c.in-Named.name))

pub type_of-returns-in-Group : goal.type_of-returns-in-Group
type_of-returns-in-Group t c =
    let k = context_in c.args.within in
    let p = c.args.e.now.place in
    let kind = c.args.e.now.kind in
    given c.type_of.result _ _ c.type_of.ensures
    (λ ty h. h ∙ ap (λ x. type_at k (expr_tree x)) c.deref.ensures ∙ sym (at-group k p (expr_tree c.in-Group.part.value))
    ∙ sym (ap (λ x. type_at k (kind_tree p x)) c.in-Group.is ∙ ap (type_at k) (kind_tree-group p c.in-Group.part)))

pub fits-returns : goal.fits-returns
fits-returns t c =
    c.passing.ensures ∙ ap (option_map (passes c.args.wanted)) c.in_ok-ty.ensures

pub with_one_part-returns-in_ok-holds-in-Not : goal.with_one_part-returns-in_ok-holds-in-Not
with_one_part-returns-in_ok-holds-in-Not t c =
    let k = context_in c.args.within in
    let p = c.args.e.now.place in
    let kind = c.args.e.now.kind in
    one_form k p kind negation c.in-Not.part.value c.deref.result.now ValueType.Bool Wanted.Boolean c.in_ok-holds-in-Not.holds c.type_if.result
    (λ q. ap (kind_tree q) c.in-Not.is ∙ kind_tree-negation q c.in-Not.part) c.deref.ensures (at-negation k) c.in_ok-holds-in-Not.ensures c.type_if.ensures

pub with_one_part-returns-in_ok-holds-in-Neg : goal.with_one_part-returns-in_ok-holds-in-Neg
with_one_part-returns-in_ok-holds-in-Neg t c =
    let k = context_in c.args.within in
    let p = c.args.e.now.place in
    let kind = c.args.e.now.kind in
    one_form k p kind minus c.in-Neg.part.value c.deref-in-Neg.result.now ValueType.Int Wanted.Integer c.in_ok-holds-in-Neg.holds c.type_if-in-Neg.result
    (λ q. ap (kind_tree q) c.in-Neg.is ∙ kind_tree-minus q c.in-Neg.part) c.deref-in-Neg.ensures (at-minus k) c.in_ok-holds-in-Neg.ensures c.type_if-in-Neg.ensures

pub with_one_part-returns-in_ok-holds-in-Abs : goal.with_one_part-returns-in_ok-holds-in-Abs
with_one_part-returns-in_ok-holds-in-Abs t c =
    let k = context_in c.args.within in
    let p = c.args.e.now.place in
    let kind = c.args.e.now.kind in
    one_form k p kind absolute c.in-Abs.part.value c.deref-in-Abs.result.now ValueType.Int Wanted.Integer c.in_ok-holds-in-Abs.holds c.type_if-in-Abs.result
    (λ q. ap (kind_tree q) c.in-Abs.is ∙ kind_tree-absolute q c.in-Abs.part) c.deref-in-Abs.ensures (at-absolute k) c.in_ok-holds-in-Abs.ensures c.type_if-in-Abs.ensures

pub with_one_part-returns-in_ok-holds-in-ToInt : goal.with_one_part-returns-in_ok-holds-in-ToInt
with_one_part-returns-in_ok-holds-in-ToInt t c =
    let k = context_in c.args.within in
    let p = c.args.e.now.place in
    let kind = c.args.e.now.kind in
    one_form k p kind to_int c.in-ToInt.part.value c.deref-in-ToInt.result.now ValueType.Int Wanted.Boolean c.in_ok-holds-in-ToInt.holds c.type_if-in-ToInt.result
    (λ q. ap (kind_tree q) c.in-ToInt.is ∙ kind_tree-to_int q c.in-ToInt.part) c.deref-in-ToInt.ensures (at-to_int k) c.in_ok-holds-in-ToInt.ensures c.type_if-in-ToInt.ensures

pub with_one_part-returns-in_ok-holds-in-Factorial : goal.with_one_part-returns-in_ok-holds-in-Factorial
with_one_part-returns-in_ok-holds-in-Factorial t c =
    let k = context_in c.args.within in
    let p = c.args.e.now.place in
    let kind = c.args.e.now.kind in
    one_form k p kind factorial c.in-Factorial.part.value c.deref-in-Factorial.result.now ValueType.Int Wanted.Integer c.in_ok-holds-in-Factorial.holds c.type_if-in-Factorial.result
    (λ q. ap (kind_tree q) c.in-Factorial.is ∙ kind_tree-factorial q c.in-Factorial.part) c.deref-in-Factorial.ensures (at-factorial k) c.in_ok-holds-in-Factorial.ensures c.type_if-in-Factorial.ensures

pub with_one_part-returns-in_ok-holds-in-AllDiff : goal.with_one_part-returns-in_ok-holds-in-AllDiff
with_one_part-returns-in_ok-holds-in-AllDiff t c =
    let k = context_in c.args.within in
    let p = c.args.e.now.place in
    let kind = c.args.e.now.kind in
    one_form k p kind all_different c.in-AllDiff.part.value c.deref-in-AllDiff.result.now ValueType.Bool Wanted.Matrix c.in_ok-holds-in-AllDiff.holds c.type_if-in-AllDiff.result
    (λ q. ap (kind_tree q) c.in-AllDiff.is ∙ kind_tree-all_different q c.in-AllDiff.part) c.deref-in-AllDiff.ensures (at-all_different k) c.in_ok-holds-in-AllDiff.ensures c.type_if-in-AllDiff.ensures

pub with_one_part-returns-in_ok-holds-in-Fold : goal.with_one_part-returns-in_ok-holds-in-Fold
with_one_part-returns-in_ok-holds-in-Fold t c =
    let k = context_in c.args.within in
    let p = c.args.e.now.place in
    let kind = c.args.e.now.kind in
    let op = c.in-Fold.op in
    one_form k p kind (λ q. folded q op) c.in-Fold.part.value c.deref-in-Fold.result.now c.fold_type.result c.fold_part.result c.in_ok-holds-in-Fold.holds c.type_if-in-Fold.result
    (λ q. ap (kind_tree q) c.in-Fold.is ∙ kind_tree-folded q op c.in-Fold.part) c.deref-in-Fold.ensures
    (λ q e. at-folded k op q e ∙ ap (λ x. type_if x (option_map (passes (fold_part op)) (type_at k e))) (sym c.fold_type.ensures)
    ∙ ap (λ w. type_if c.fold_type.result (option_map (passes w) (type_at k e))) (sym c.fold_part.ensures))
    c.in_ok-holds-in-Fold.ensures c.type_if-in-Fold.ensures

pub with_one_part-returns-in_ok-ty-in-Flatten : goal.with_one_part-returns-in_ok-ty-in-Flatten
with_one_part-returns-in_ok-ty-in-Flatten t c =
    let k = context_in c.args.within in
    let p = c.args.e.now.place in
    let kind = c.args.e.now.kind in
    c.flattened.ensures ∙ ap flattened (c.in_ok-ty-in-Flatten.ensures ∙ ap (λ x. type_at k (expr_tree x)) c.deref-in-Flatten.ensures) ∙ sym (at-flatten k p (expr_tree c.in-Flatten.part.value))
    ∙ sym (ap (λ x. type_at k (kind_tree p x)) c.in-Flatten.is ∙ ap (type_at k) (kind_tree-flatten p c.in-Flatten.part))

pub with_two_parts-returns-in_ok-other-in-Binary : goal.with_two_parts-returns-in_ok-other-in-Binary
with_two_parts-returns-in_ok-other-in-Binary t c =
    let k = context_in c.args.within in
    let p = c.args.e.now.place in
    let kind = c.args.e.now.kind in
    let op = c.in-Binary.op in
    two_form k p kind (λ q. binary q op) c.in-Binary.left.value c.in-Binary.right.value c.deref.result.now c.deref-in-Binary.result.now c.join_type.result c.join_part.result c.join_part-in-Binary.result
    c.in_ok-one-in-Binary.one c.in_ok-other-in-Binary.other c.both.result c.type_if.result
    (λ q. ap (kind_tree q) c.in-Binary.is ∙ kind_tree-binary q op c.in-Binary.left c.in-Binary.right) c.deref.ensures c.deref-in-Binary.ensures
    (λ q e f. at-binary k op q e f ∙ ap (λ x. type_if x (both_pass (join_part op) (join_part op) (type_at k e) (type_at k f))) (sym c.join_type.ensures)
    ∙ ap (λ v. type_if c.join_type.result (both_pass v (join_part op) (type_at k e) (type_at k f))) (sym c.join_part.ensures)
    ∙ ap (λ w. type_if c.join_type.result (both_pass c.join_part.result w (type_at k e) (type_at k f))) (sym c.join_part-in-Binary.ensures))
    c.in_ok-one-in-Binary.ensures c.in_ok-other-in-Binary.ensures c.both.ensures c.type_if.ensures

pub with_two_parts-returns-in_ok-other-in-Compare : goal.with_two_parts-returns-in_ok-other-in-Compare
with_two_parts-returns-in_ok-other-in-Compare t c =
    let k = context_in c.args.within in
    let p = c.args.e.now.place in
    let kind = c.args.e.now.kind in
    let op = c.in-Compare.field-0 in
    two_form k p kind (λ q. compare q op) c.in-Compare.left.value c.in-Compare.right.value c.deref-in-Compare.result.now c.deref-in-Compare-2.result.now ValueType.Bool Wanted.Integer Wanted.Integer
    c.in_ok-one-in-Compare.one c.in_ok-other-in-Compare.other c.both-in-Compare.result c.type_if-in-Compare.result
    (λ q. ap (kind_tree q) c.in-Compare.is ∙ kind_tree-compare q op c.in-Compare.left c.in-Compare.right) c.deref-in-Compare.ensures c.deref-in-Compare-2.ensures (at-compare k op)
    c.in_ok-one-in-Compare.ensures c.in_ok-other-in-Compare.ensures c.both-in-Compare.ensures c.type_if-in-Compare.ensures

pub with_two_parts-returns-in_ok-other-in-Lex : goal.with_two_parts-returns-in_ok-other-in-Lex
with_two_parts-returns-in_ok-other-in-Lex t c =
    let k = context_in c.args.within in
    let p = c.args.e.now.place in
    let kind = c.args.e.now.kind in
    let op = c.in-Lex.field-0 in
    two_form k p kind (λ q. lex q op) c.in-Lex.left.value c.in-Lex.right.value c.deref-in-Lex.result.now c.deref-in-Lex-2.result.now ValueType.Bool Wanted.List Wanted.List
    c.in_ok-one-in-Lex.one c.in_ok-other-in-Lex.other c.both-in-Lex.result c.type_if-in-Lex.result
    (λ q. ap (kind_tree q) c.in-Lex.is ∙ kind_tree-lex q op c.in-Lex.left c.in-Lex.right) c.deref-in-Lex.ensures c.deref-in-Lex-2.ensures (at-lex k op)
    c.in_ok-one-in-Lex.ensures c.in_ok-other-in-Lex.ensures c.both-in-Lex.ensures c.type_if-in-Lex.ensures

pub with_two_parts-returns-in_ok-other-in-InSet : goal.with_two_parts-returns-in_ok-other-in-InSet
with_two_parts-returns-in_ok-other-in-InSet t c =
    let k = context_in c.args.within in
    let p = c.args.e.now.place in
    let kind = c.args.e.now.kind in
    two_form k p kind in_set c.in-InSet.part.value c.in-InSet.set.value c.deref-in-InSet.result.now c.deref-in-InSet-2.result.now ValueType.Bool Wanted.Integer Wanted.Matrix
    c.in_ok-one-in-InSet.one c.in_ok-other-in-InSet.other c.both-in-InSet.result c.type_if-in-InSet.result
    (λ q. ap (kind_tree q) c.in-InSet.is ∙ kind_tree-in_set q c.in-InSet.part c.in-InSet.set) c.deref-in-InSet.ensures c.deref-in-InSet-2.ensures (at-in_set k)
    c.in_ok-one-in-InSet.ensures c.in_ok-other-in-InSet.ensures c.both-in-InSet.ensures c.type_if-in-InSet.ensures

pub with_two_parts-returns-in_ok-other-in-Table : goal.with_two_parts-returns-in_ok-other-in-Table
with_two_parts-returns-in_ok-other-in-Table t c =
    let k = context_in c.args.within in
    let p = c.args.e.now.place in
    let kind = c.args.e.now.kind in
    two_form k p kind table c.in-Table.row.value c.in-Table.rows.value c.deref-in-Table.result.now c.deref-in-Table-2.result.now ValueType.Bool Wanted.List Wanted.Rows
    c.in_ok-one-in-Table.one c.in_ok-other-in-Table.other c.both-in-Table.result c.type_if-in-Table.result
    (λ q. ap (kind_tree q) c.in-Table.is ∙ kind_tree-table q c.in-Table.row c.in-Table.rows) c.deref-in-Table.ensures c.deref-in-Table-2.ensures (at-table k)
    c.in_ok-one-in-Table.ensures c.in_ok-other-in-Table.ensures c.both-in-Table.ensures c.type_if-in-Table.ensures

pub with_three_parts-returns-in_ok-third-in-Gcc : goal.with_three_parts-returns-in_ok-third-in-Gcc
with_three_parts-returns-in_ok-third-in-Gcc t c =
    let k = context_in c.args.within in
    let p = c.args.e.now.place in
    let kind = c.args.e.now.kind in
    count_form k p kind gcc c.in-Gcc.part.value c.in-Gcc.values.value c.in-Gcc.counts.value c.deref.result.now c.deref-in-Gcc.result.now c.deref-in-Gcc-2.result.now
    c.in_ok-one-in-Gcc.one c.in_ok-other-in-Gcc.other c.in_ok-third-in-Gcc.third c.both.result c.both-in-Gcc.result c.type_if.result
    (λ q. ap (kind_tree q) c.in-Gcc.is ∙ kind_tree-gcc q c.in-Gcc.part c.in-Gcc.values c.in-Gcc.counts) c.deref.ensures c.deref-in-Gcc.ensures c.deref-in-Gcc-2.ensures (at-gcc k)
    c.in_ok-one-in-Gcc.ensures c.in_ok-other-in-Gcc.ensures c.in_ok-third-in-Gcc.ensures c.both.ensures c.both-in-Gcc.ensures c.type_if.ensures

pub with_three_parts-returns-in_ok-third-in-AtLeast : goal.with_three_parts-returns-in_ok-third-in-AtLeast
with_three_parts-returns-in_ok-third-in-AtLeast t c =
    let k = context_in c.args.within in
    let p = c.args.e.now.place in
    let kind = c.args.e.now.kind in
    count_form k p kind at_least c.in-AtLeast.part.value c.in-AtLeast.counts.value c.in-AtLeast.values.value c.deref-in-AtLeast.result.now c.deref-in-AtLeast-2.result.now c.deref-in-AtLeast-3.result.now
    c.in_ok-one-in-AtLeast.one c.in_ok-other-in-AtLeast.other c.in_ok-third-in-AtLeast.third c.both-in-AtLeast.result c.both-in-AtLeast-2.result c.type_if-in-AtLeast.result
    (λ q. ap (kind_tree q) c.in-AtLeast.is ∙ kind_tree-at_least q c.in-AtLeast.part c.in-AtLeast.counts c.in-AtLeast.values) c.deref-in-AtLeast.ensures c.deref-in-AtLeast-2.ensures c.deref-in-AtLeast-3.ensures (at-at_least k)
    c.in_ok-one-in-AtLeast.ensures c.in_ok-other-in-AtLeast.ensures c.in_ok-third-in-AtLeast.ensures c.both-in-AtLeast.ensures c.both-in-AtLeast-2.ensures c.type_if-in-AtLeast.ensures

pub with_three_parts-returns-in_ok-third-in-AtMost : goal.with_three_parts-returns-in_ok-third-in-AtMost
with_three_parts-returns-in_ok-third-in-AtMost t c =
    let k = context_in c.args.within in
    let p = c.args.e.now.place in
    let kind = c.args.e.now.kind in
    count_form k p kind at_most c.in-AtMost.part.value c.in-AtMost.counts.value c.in-AtMost.values.value c.deref-in-AtMost.result.now c.deref-in-AtMost-2.result.now c.deref-in-AtMost-3.result.now
    c.in_ok-one-in-AtMost.one c.in_ok-other-in-AtMost.other c.in_ok-third-in-AtMost.third c.both-in-AtMost.result c.both-in-AtMost-2.result c.type_if-in-AtMost.result
    (λ q. ap (kind_tree q) c.in-AtMost.is ∙ kind_tree-at_most q c.in-AtMost.part c.in-AtMost.counts c.in-AtMost.values) c.deref-in-AtMost.ensures c.deref-in-AtMost-2.ensures c.deref-in-AtMost-3.ensures (at-at_most k)
    c.in_ok-one-in-AtMost.ensures c.in_ok-other-in-AtMost.ensures c.in_ok-third-in-AtMost.ensures c.both-in-AtMost.ensures c.both-in-AtMost-2.ensures c.type_if-in-AtMost.ensures

pub with_parts-returns-in_ok-holds-in-Add : goal.with_parts-returns-in_ok-holds-in-Add
with_parts-returns-in_ok-holds-in-Add t c =
    let k = context_in c.args.within in
    let p = c.args.e.now.place in
    let kind = c.args.e.now.kind in
    c.type_if.ensures ∙ ap (type_if ValueType.Int) (c.in_ok-holds-in-Add.ensures ∙ ap (λ l. all_pass Wanted.Integer (judge_terms k (terms_of l))) c.deref.ensures.value)
    ∙ sym (at-chain k p (terms_of c.in-Add.terms.items)) ∙ sym (ap (λ x. type_at k (kind_tree p x)) c.in-Add.is ∙ ap (type_at k) (kind_tree-chain p c.in-Add.terms))

pub with_parts-returns-in_ok-holds-in-And : goal.with_parts-returns-in_ok-holds-in-And
with_parts-returns-in_ok-holds-in-And t c =
    let k = context_in c.args.within in
    let p = c.args.e.now.place in
    let kind = c.args.e.now.kind in
    c.type_if-in-And.ensures ∙ ap (type_if ValueType.Bool) (c.in_ok-holds-in-And.ensures ∙ ap (λ l. all_pass Wanted.Boolean (judge_all k (expr_trees l))) c.deref-in-And.ensures.value)
    ∙ sym (at-all_of k p (expr_trees c.in-And.parts.items)) ∙ sym (ap (λ x. type_at k (kind_tree p x)) c.in-And.is ∙ ap (type_at k) (kind_tree-all_of p c.in-And.parts))

pub with_parts-returns-in_ok-holds-in-Or : goal.with_parts-returns-in_ok-holds-in-Or
with_parts-returns-in_ok-holds-in-Or t c =
    let k = context_in c.args.within in
    let p = c.args.e.now.place in
    let kind = c.args.e.now.kind in
    c.type_if-in-Or.ensures ∙ ap (type_if ValueType.Bool) (c.in_ok-holds-in-Or.ensures ∙ ap (λ l. all_pass Wanted.Boolean (judge_all k (expr_trees l))) c.deref-in-Or.ensures.value)
    ∙ sym (at-any_of k p (expr_trees c.in-Or.parts.items)) ∙ sym (ap (λ x. type_at k (kind_tree p x)) c.in-Or.is ∙ ap (type_at k) (kind_tree-any_of p c.in-Or.parts))

pub with_parts-returns-in_ok-integer-in-Read : goal.with_parts-returns-in_ok-integer-in-Read
with_parts-returns-in_ok-integer-in-Read t c =
    let k = context_in c.args.within in
    let p = c.args.e.now.place in
    let kind = c.args.e.now.kind in
    let is = c.in-Read.indices.items in
    let m = expr_tree c.in-Read.matrix.value in
    let ty = c.in_ok-ty-in-Read.ty in
    let integer = c.in_ok-integer-in-Read.integer in
    c.read_by.ensures
    ∙ ap (λ l. read_of ty integer (length l - slice_count (indices_of l)) (slice_count (indices_of l))) c.deref-in-Read-3.ensures.value
    ∙ ap (λ o. read_of o integer (length is - slice_count (indices_of is)) (slice_count (indices_of is))) (c.in_ok-ty-in-Read.ensures ∙ ap (λ x. type_at k (expr_tree x)) c.deref-in-Read.ensures)
    ∙ ap (λ o. read_of (type_at k m) o (length is - slice_count (indices_of is)) (slice_count (indices_of is)))
    (c.in_ok-integer-in-Read.ensures ∙ ap (λ l. all_pass Wanted.Integer (judge_indices k (indices_of l))) c.deref-in-Read-2.ensures.value)
    ∙ sym (at-read k p m is) ∙ sym (ap (λ x. type_at k (kind_tree p x)) c.in-Read.is ∙ ap (type_at k) (kind_tree-read p c.in-Read.matrix c.in-Read.indices))

pub index_fits-returns-in_ok-holds-in-Some : goal.index_fits-returns-in_ok-holds-in-Some
index_fits-returns-in_ok-holds-in-Some t c =
    c.in_ok-holds-in-Some.ensures ∙ index_stated (context_in c.args.within) c.args.index.now c.in-Some.e c.in-Some.is

pub index_fits-returns-in-None : goal.index_fits-returns-in-None
index_fits-returns-in-None t c =
    index_every (context_in c.args.within) c.args.index.now c.in-None.is

pub parts_fit-loop-part-init : goal.parts_fit-loop-part-init
parts_fit-loop-part-init t c =
    let k = context_in c.args.within in
    first_all (all_pass Wanted.Boolean (judge_all k (expr_trees c.args.parts.now)))

pub parts_fit-loop-part-preserved : goal.parts_fit-loop-part-preserved
parts_fit-loop-part-preserved t c =
    let k = context_in c.args.within in
    let all : List (Expr) = c.args.parts.now in
    let i : ℕ = c.loop-part.part-index in
    let item : Expr = c.part-item.result in
    let cut : drop i all ≡ item ∷ drop (i + 1) all =
    drop_more all i item c.loop-part-test.true ∙ ap (λ r. r ∷ drop (i + 1) all) (sym c.part-item.is) in
    pass_more (all_pass Wanted.Boolean (judge_all k (expr_trees all))) c.loop-part.holds c.in_ok-one.one c.both-holds.result (all_pass Wanted.Boolean (judge_all k (expr_trees (drop i all)))) (all_pass Wanted.Boolean (judge_all k (expr_trees (drop (i + 1) all))))
    c.loop-part.invariant
    (ap (λ l. all_pass Wanted.Boolean (judge_all k (expr_trees l))) cut ∙ parts_one k item (drop (i + 1) all)
    ∙ ap (λ o. map_both (λ a b. a && b) o (all_pass Wanted.Boolean (judge_all k (expr_trees (drop (i + 1) all))))) (sym c.in_ok-one.ensures))
    c.both-holds.ensures

pub parts_fit-returns : goal.parts_fit-returns
parts_fit-returns t c =
    let k = context_in c.args.within in
    pass_ends (all_pass Wanted.Boolean (judge_all k (expr_trees c.args.parts.now))) c.loop-part.holds _ c.loop-part.invariant
    (parts_none k _ (drop_all c.loop-part.part-index c.args.parts.now c.loop-part-test.false))

pub terms_fit-loop-term-init : goal.terms_fit-loop-term-init
terms_fit-loop-term-init t c =
    let k = context_in c.args.within in
    first_all (all_pass Wanted.Integer (judge_terms k (terms_of c.args.terms.now)))

pub terms_fit-loop-term-preserved : goal.terms_fit-loop-term-preserved
terms_fit-loop-term-preserved t c =
    let k = context_in c.args.within in
    let all : List (Bool × Expr) = c.args.terms.now in
    let i : ℕ = c.loop-term.term-index in
    let item : Bool × Expr = c.term-item.result in
    let cut : drop i all ≡ item ∷ drop (i + 1) all =
    drop_more all i item c.loop-term-test.true ∙ ap (λ r. r ∷ drop (i + 1) all) (sym c.term-item.is) in
    pass_more (all_pass Wanted.Integer (judge_terms k (terms_of all))) c.loop-term.holds c.in_ok-one.one c.both-holds.result (all_pass Wanted.Integer (judge_terms k (terms_of (drop i all)))) (all_pass Wanted.Integer (judge_terms k (terms_of (drop (i + 1) all))))
    c.loop-term.invariant
    (ap (λ l. all_pass Wanted.Integer (judge_terms k (terms_of l))) cut ∙ terms_one k item (drop (i + 1) all)
    ∙ ap (λ o. map_both (λ a b. a && b) o (all_pass Wanted.Integer (judge_terms k (terms_of (drop (i + 1) all))))) (sym c.in_ok-one.ensures))
    c.both-holds.ensures

pub terms_fit-returns : goal.terms_fit-returns
terms_fit-returns t c =
    let k = context_in c.args.within in
    pass_ends (all_pass Wanted.Integer (judge_terms k (terms_of c.args.terms.now))) c.loop-term.holds _ c.loop-term.invariant
    (terms_none k _ (drop_all c.loop-term.term-index c.args.terms.now c.loop-term-test.false))

pub indices_fit-loop-index-init : goal.indices_fit-loop-index-init
indices_fit-loop-index-init t c =
    let k = context_in c.args.within in
    first_all (all_pass Wanted.Integer (judge_indices k (indices_of c.args.indices.now)))

pub indices_fit-loop-index-preserved-in-None : goal.indices_fit-loop-index-preserved-in-None
indices_fit-loop-index-preserved-in-None t c =
    let k = context_in c.args.within in
    let all : List (Option Expr) = c.args.indices.now in
    let i : ℕ = c.loop-index.index-index in
    let item : Option Expr = c.index-item.result in
    let rest = all_pass Wanted.Integer (judge_indices k (indices_of (drop (i + 1) all))) in
    let cut : drop i all ≡ item ∷ drop (i + 1) all =
    drop_more all i item c.loop-index-test.true ∙ ap (λ r. r ∷ drop (i + 1) all) (sym c.index-item.is) in
    c.loop-index.invariant
    ∙ ap (map_both (λ a b. a && b) c.loop-index.holds)
    (ap (λ l. all_pass Wanted.Integer (judge_indices k (indices_of l))) cut ∙ indices_one k item (drop (i + 1) all)
    ∙ ap (λ o. map_both (λ a b. a && b) o rest) (sym (index_every k item c.in-None.is)) ∙ sym (first_all rest))

pub indices_fit-loop-index-preserved : goal.indices_fit-loop-index-preserved
indices_fit-loop-index-preserved t c =
    let k = context_in c.args.within in
    let all : List (Option Expr) = c.args.indices.now in
    let i : ℕ = c.loop-index.index-index in
    let item : Option Expr = c.index-item.result in
    let cut : drop i all ≡ item ∷ drop (i + 1) all =
    drop_more all i item c.loop-index-test.true ∙ ap (λ r. r ∷ drop (i + 1) all) (sym c.index-item.is) in
    pass_more (all_pass Wanted.Integer (judge_indices k (indices_of all))) c.loop-index.holds c.in_ok-one-in-Some.one c.both-holds.result (all_pass Wanted.Integer (judge_indices k (indices_of (drop i all)))) (all_pass Wanted.Integer (judge_indices k (indices_of (drop (i + 1) all))))
    c.loop-index.invariant
    (ap (λ l. all_pass Wanted.Integer (judge_indices k (indices_of l))) cut ∙ indices_one k item (drop (i + 1) all)
    ∙ ap (λ o. map_both (λ a b. a && b) o (all_pass Wanted.Integer (judge_indices k (indices_of (drop (i + 1) all)))))
    (sym (index_stated k item c.in-Some.e c.in-Some.is) ∙ sym c.in_ok-one-in-Some.ensures))
    c.both-holds.ensures

pub indices_fit-returns : goal.indices_fit-returns
indices_fit-returns t c =
    let k = context_in c.args.within in
    pass_ends (all_pass Wanted.Integer (judge_indices k (indices_of c.args.indices.now))) c.loop-index.holds _ c.loop-index.invariant
    (indices_none k _ (drop_all c.loop-index.index-index c.args.indices.now c.loop-index-test.false))

pub with_two_parts-returns-in_ok-other-in-InDomain : goal.with_two_parts-returns-in_ok-other-in-InDomain
with_two_parts-returns-in_ok-other-in-InDomain t c =
    let k = context_in c.args.within in
    let p = c.args.e.now.place in
    let kind = c.args.e.now.kind in
    let e = expr_tree c.in-InDomain.part.value in
    let d = domain_tree c.in-InDomain.domain.value in
    c.type_if-in-InDomain.ensures
    ∙ ap (type_if ValueType.Bool)
    (c.both-in-InDomain.ensures
    ∙ ap (λ o. map_both (λ a b. a && b) o c.in_ok-other-in-InDomain.other) (c.in_ok-one-in-InDomain.ensures ∙ ap (λ x. option_map (passes Wanted.Integer) (type_at k (expr_tree x))) c.deref-in-InDomain.ensures)
    ∙ ap (map_both (λ a b. a && b) (option_map (passes Wanted.Integer) (type_at k e))) (c.in_ok-other-in-InDomain.ensures ∙ ap (λ x. option_map (passes Wanted.Integer) (domain_type_at k (domain_tree x))) c.deref-in-InDomain-2.ensures))
    ∙ sym (at-in_domain k p e d) ∙ sym (ap (λ x. type_at k (kind_tree p x)) c.in-InDomain.is ∙ ap (type_at k) (kind_tree-in_domain p c.in-InDomain.part c.in-InDomain.domain))

pub with_parts-returns-in_ok-scalar-in-Literal : goal.with_parts-returns-in_ok-scalar-in-Literal
with_parts-returns-in_ok-scalar-in-Literal t c =
    let k = context_in c.args.within in
    let p = c.args.e.now.place in
    let kind = c.args.e.now.kind in
    let ps = expr_trees c.in-Literal.parts.items in
    let d = index_at c.in-Literal.domain in
    let types = c.in_ok-types-in-Literal.types in
    given c.list_of.result _ _ c.list_of.ensures
    (λ ty h. h
    ∙ ap (λ o. list_of o c.in_ok-scalar-in-Literal.scalar) (c.in_ok-types-in-Literal.ensures ∙ ap (λ l. all_typed (judge_all k (expr_trees l))) c.deref-in-Literal.ensures.value)
    ∙ ap (list_of (all_typed (judge_all k ps))) c.in_ok-scalar-in-Literal.ensures
    ∙ sym (at-literal k p ps d)
    ∙ sym (ap (λ x. type_at k (kind_tree p x)) c.in-Literal.is ∙ ap (type_at k) (kind_tree-literal p c.in-Literal.parts c.in-Literal.domain ∙ ap (literal p ps) (index_is c.in-Literal.domain))))

pub types_of-loop-part-init : goal.types_of-loop-part-init
types_of-loop-part-init t c =
    let k = context_in c.args.within in
    let whole = all_typed (judge_all k (expr_trees c.args.parts.now)) in
    subst (λ (l : List ValueType). whole ≡ joined_types (Some l) whole) (sym c.new.ensures.items) (types_begin whole)

pub types_of-loop-part-preserved : goal.types_of-loop-part-preserved
types_of-loop-part-preserved t c =
    let k = context_in c.args.within in
    let all : List Expr = c.args.parts.now in
    let i : ℕ = c.loop-part.part-index in
    let part : Expr = c.part-item.result in
    let cut : drop i all ≡ part ∷ drop (i + 1) all =
    drop_more all i part c.loop-part-test.true ∙ ap (λ r. r ∷ drop (i + 1) all) (sym c.part-item.is) in
    types_more k (all_typed (judge_all k (expr_trees all))) (option_map (λ v. v.items) c.loop-part.types) (option_map (λ v. v.items) c.in_ok-types.types) (drop i all) part (drop (i + 1) all) c.in_ok-ty.ty
    c.loop-part.invariant cut c.in_ok-ty.ensures c.in_ok-types.ensures

pub types_of-returns : goal.types_of-returns
types_of-returns t c =
    let k = context_in c.args.within in
    types_end k (all_typed (judge_all k (expr_trees c.args.parts.now))) (option_map (λ v. v.items) c.loop-part.types) _ c.loop-part.invariant
    (drop_all c.loop-part.part-index c.args.parts.now c.loop-part-test.false)

pub domain_type-returns-in-Bool : goal.domain_type-returns-in-Bool
unfolding type_from
domain_type-returns-in-Bool t c =
    let k = context_in c.args.within in
    let p = c.args.d.now.place in
    sym (ap (λ x. domain_type_at k (domain_kind_tree p x)) c.in-Bool.is ∙ ap (domain_type_at k) (domain_kind_tree-bool p) ∙ ap type_from (judge_domain-bool k p))

pub domain_type-returns-in-Int : goal.domain_type-returns-in-Int
unfolding type_from
domain_type-returns-in-Int t c =
    let k = context_in c.args.within in
    let p = c.args.d.now.place in
    sym (ap (λ x. domain_type_at k (domain_kind_tree p x)) c.in-Int.is ∙ ap (domain_type_at k) (domain_kind_tree-int p) ∙ ap type_from (judge_domain-int k p))

pub domain_type-returns-in_ok-holds-in-Ranges : goal.domain_type-returns-in_ok-holds-in-Ranges
domain_type-returns-in_ok-holds-in-Ranges t c =
    let k = context_in c.args.within in
    let p = c.args.d.now.place in
    c.type_if.ensures ∙ ap (type_if ValueType.Int) (c.in_ok-holds-in-Ranges.ensures ∙ ap (λ l. all_pass Wanted.Integer (judge_ranges k (ranges_of l))) c.deref.ensures.value)
    ∙ sym (at-ranges k p (ranges_of c.in-Ranges.ranges.items)) ∙ sym (ap (λ x. domain_type_at k (domain_kind_tree p x)) c.in-Ranges.is ∙ ap (domain_type_at k) (domain_kind_tree-ranges p c.in-Ranges.ranges))

pub domain_type-returns-in-Named : goal.domain_type-returns-in-Named
domain_type-returns-in-Named t c =
    let k = context_in c.args.within in
    let p = c.args.d.now.place in
    c.domain_within.ensures ∙ sym (ap (λ x. domain_type_at k (domain_kind_tree p x)) c.in-Named.is ∙ ap (domain_type_at k) (domain_kind_tree-named p c.in-Named.name) ∙ ap type_from (judge_domain-named_domain k p c.in-Named.name))

pub domain_type-returns-in_ok-ty-in-Group : goal.domain_type-returns-in_ok-ty-in-Group
domain_type-returns-in_ok-ty-in-Group t c =
    let k = context_in c.args.within in
    let p = c.args.d.now.place in
    c.in_ok-ty-in-Group.ensures ∙ ap (λ x. domain_type_at k (domain_tree x)) c.deref-in-Group.ensures ∙ sym (at-group_domain k p (domain_tree c.in-Group.inner.value))
    ∙ sym (ap (λ x. domain_type_at k (domain_kind_tree p x)) c.in-Group.is ∙ ap (domain_type_at k) (domain_kind_tree-group p c.in-Group.inner))

pub domain_type-returns-in_ok-other-in-Set : goal.domain_type-returns-in_ok-other-in-Set
domain_type-returns-in_ok-other-in-Set t c =
    let k = context_in c.args.within in
    let p = c.args.d.now.place in
    let op = c.in-Set.field-0 in
    let left = domain_tree c.in-Set.left.value in
    let right = domain_tree c.in-Set.right.value in
    c.set_of_both.ensures
    ∙ ap (λ o. set_of_both o c.in_ok-other-in-Set.other) (c.in_ok-one-in-Set.ensures ∙ ap (λ x. domain_type_at k (domain_tree x)) c.deref-in-Set.ensures)
    ∙ ap (set_of_both (domain_type_at k left)) (c.in_ok-other-in-Set.ensures ∙ ap (λ x. domain_type_at k (domain_tree x)) c.deref-in-Set-2.ensures)
    ∙ sym (at-set_domain k p op left right) ∙ sym (ap (λ x. domain_type_at k (domain_kind_tree p x)) c.in-Set.is ∙ ap (domain_type_at k) (domain_kind_tree-set p op c.in-Set.left c.in-Set.right))

pub domain_type-returns-in_ok-scalar-in-Matrix : goal.domain_type-returns-in_ok-scalar-in-Matrix
domain_type-returns-in_ok-scalar-in-Matrix t c =
    let k = context_in c.args.within in
    let p = c.args.d.now.place in
    let ds = c.in-Matrix.indices.items in
    let inner = domain_tree c.in-Matrix.elements.value in
    let own = domain_type_at k inner in
    let scalar = all_pass Wanted.Integer (judge_domains k (domains_of ds)) in
    let many : c.len.result ≡ length ds = omega (arith, c.len.ensures, c.in-Matrix.indices.ok.0) in
    given c.matrix_over.result _ _ c.matrix_over.ensures
    (λ ty h. h
    ∙ ap (λ o. matrix_over o c.in_ok-scalar-in-Matrix.scalar c.len.result) (c.in_ok-element-in-Matrix.ensures ∙ ap (λ x. domain_type_at k (domain_tree x)) c.deref-in-Matrix.ensures)
    ∙ ap (λ o. matrix_over own o c.len.result) (c.in_ok-scalar-in-Matrix.ensures ∙ ap (λ l. all_pass Wanted.Integer (judge_domains k (domains_of l))) c.deref-in-Matrix-2.ensures.value)
    ∙ ap (matrix_over own scalar) many
    ∙ sym (at-matrix_domain k p ds inner) ∙ sym (ap (λ x. domain_type_at k (domain_kind_tree p x)) c.in-Matrix.is ∙ ap (domain_type_at k) (domain_kind_tree-matrix p c.in-Matrix.indices c.in-Matrix.elements)))

pub domain_fits-returns : goal.domain_fits-returns
domain_fits-returns t c =
    c.passing.ensures ∙ ap (option_map (passes Wanted.Integer)) c.in_ok-ty.ensures

pub domains_fit-loop-domain-init : goal.domains_fit-loop-domain-init
domains_fit-loop-domain-init t c =
    let k = context_in c.args.within in
    first_all (all_pass Wanted.Integer (judge_domains k (domains_of c.args.domains.now)))

pub domains_fit-loop-domain-preserved : goal.domains_fit-loop-domain-preserved
domains_fit-loop-domain-preserved t c =
    let k = context_in c.args.within in
    let all : List Domain = c.args.domains.now in
    let i : ℕ = c.loop-domain.domain-index in
    let item : Domain = c.domain-item.result in
    let cut : drop i all ≡ item ∷ drop (i + 1) all =
    drop_more all i item c.loop-domain-test.true ∙ ap (λ r. r ∷ drop (i + 1) all) (sym c.domain-item.is) in
    pass_more (all_pass Wanted.Integer (judge_domains k (domains_of all))) c.loop-domain.holds c.in_ok-one.one c.both-holds.result (all_pass Wanted.Integer (judge_domains k (domains_of (drop i all)))) (all_pass Wanted.Integer (judge_domains k (domains_of (drop (i + 1) all))))
    c.loop-domain.invariant
    (ap (λ l. all_pass Wanted.Integer (judge_domains k (domains_of l))) cut ∙ domains_one k item (drop (i + 1) all)
    ∙ ap (λ o. map_both (λ a b. a && b) o (all_pass Wanted.Integer (judge_domains k (domains_of (drop (i + 1) all))))) (sym c.in_ok-one.ensures))
    c.both-holds.ensures

pub domains_fit-returns : goal.domains_fit-returns
domains_fit-returns t c =
    let k = context_in c.args.within in
    pass_ends (all_pass Wanted.Integer (judge_domains k (domains_of c.args.domains.now))) c.loop-domain.holds _ c.loop-domain.invariant
    (domains_none k _ (drop_all c.loop-domain.domain-index c.args.domains.now c.loop-domain-test.false))

pub ranges_fit-loop-range-init : goal.ranges_fit-loop-range-init
ranges_fit-loop-range-init t c =
    let k = context_in c.args.within in
    first_all (all_pass Wanted.Integer (judge_ranges k (ranges_of c.args.ranges.now)))

pub ranges_fit-loop-range-preserved : goal.ranges_fit-loop-range-preserved
ranges_fit-loop-range-preserved t c =
    let k = context_in c.args.within in
    let all : List Range = c.args.ranges.now in
    let i : ℕ = c.loop-range.range-index in
    let item : Range = c.range-item.result in
    let cut : drop i all ≡ item ∷ drop (i + 1) all =
    drop_more all i item c.loop-range-test.true ∙ ap (λ r. r ∷ drop (i + 1) all) (sym c.range-item.is) in
    pass_more (all_pass Wanted.Integer (judge_ranges k (ranges_of all))) c.loop-range.holds c.in_ok-one.one c.both-holds.result (all_pass Wanted.Integer (judge_ranges k (ranges_of (drop i all)))) (all_pass Wanted.Integer (judge_ranges k (ranges_of (drop (i + 1) all))))
    c.loop-range.invariant
    (ap (λ l. all_pass Wanted.Integer (judge_ranges k (ranges_of l))) cut ∙ ranges_one k item (drop (i + 1) all)
    ∙ ap (λ o. map_both (λ a b. a && b) o (all_pass Wanted.Integer (judge_ranges k (ranges_of (drop (i + 1) all))))) (sym c.in_ok-one.ensures))
    c.both-holds.ensures

pub ranges_fit-returns : goal.ranges_fit-returns
ranges_fit-returns t c =
    let k = context_in c.args.within in
    pass_ends (all_pass Wanted.Integer (judge_ranges k (ranges_of c.args.ranges.now))) c.loop-range.holds _ c.loop-range.invariant
    (ranges_none k _ (drop_all c.loop-range.range-index c.args.ranges.now c.loop-range-test.false))

pub index_scalar-returns-in_ok-holds-in-Some : goal.index_scalar-returns-in_ok-holds-in-Some
index_scalar-returns-in_ok-holds-in-Some t c =
    let k = context_in c.args.within in
    c.in_ok-holds-in-Some.ensures ∙ ap (λ d. option_map (passes Wanted.Integer) (domain_type_at k (domain_tree d))) c.deref.ensures ∙ index_scalar-some k c.args.domain.now c.in-Some.stated c.in-Some.is

pub index_scalar-returns-in-None : goal.index_scalar-returns-in-None
index_scalar-returns-in-None t c =
    index_scalar-none (context_in c.args.within) c.args.domain.now c.in-None.is

pub range_fits-returns-in_ok-holds-in-One : goal.range_fits-returns-in_ok-holds-in-One
range_fits-returns-in_ok-holds-in-One t c =
    c.in_ok-holds-in-One.ensures ∙ range_one (context_in c.args.within) c.args.range.now c.in-One.e c.in-One.is

pub range_fits-returns-in_ok-last-in-Span : goal.range_fits-returns-in_ok-last-in-Span
range_fits-returns-in_ok-last-in-Span t c =
    let k = context_in c.args.within in
    c.both.ensures ∙ ap (λ o. map_both (λ x y. x && y) o c.in_ok-last-in-Span.last) c.in_ok-first-in-Span.ensures
    ∙ ap (map_both (λ x y. x && y) (all_pass Wanted.Integer (judge_indices k (indices_of (c.in-Span.low ∷ []))))) c.in_ok-last-in-Span.ensures
    ∙ range_span k c.args.range.now c.in-Span.low c.in-Span.high c.in-Span.is

pub names_typed-loop-name-init : goal.names_typed-loop-name-init
names_typed-loop-name-init t c =
    let outer = context_of (env_in c.args.within.scope) in
    let names = c.args.names.now in
    let d = domain_tree c.args.domain.now in (
      ap (λ ts. all_pass Wanted.Integer (readings (with_typed ts outer) names d)) (sym c.in_ok-typed.ensures),
      ap (λ ts. inside_names (with_typed ts outer) names d) (sym c.in_ok-typed.ensures),
    )

pub names_typed-loop-name-preserved : goal.names_typed-loop-name-preserved
names_typed-loop-name-preserved t c =
    let outer = context_of (env_in c.args.within.scope) in
    let all : List Name = c.args.names.now in
    let i : ℕ = c.loop-name.name-index in
    let name : Name = c.name-item.result in
    let d = domain_tree c.args.domain.now in
    let k = with_typed c.loop-name.typed.items outer in
    let cut : drop i all ≡ name ∷ drop (i + 1) all =
    drop_more all i name c.loop-name-test.true ∙ ap (λ r. r ∷ drop (i + 1) all) (sym c.name-item.is) in
    let scalar : name_scalar (domain_type_at k d) ≡ Some c.in-Some.scalar =
    ap (λ ts. name_scalar (domain_type_at (with_typed ts outer) d)) (sym c.deref.ensures.value) ∙ ap name_scalar (sym c.in_ok-ty.ensures) ∙ sym c.name_scalar.ensures ∙ c.in-Some.is in (
      names_pass (all_pass Wanted.Integer (readings (context_in c.args.within) all d)) k (with_typed c.in_ok-typed-2.typed.items outer) (drop i all) name (drop (i + 1) all) d c.in-Some.scalar
          c.loop-name.invariant.0 cut scalar (c.in_ok-typed-2.ensures outer),
      names_inside (inside_names (context_in c.args.within) all d) k (with_typed c.in_ok-typed-2.typed.items outer) (drop i all) name (drop (i + 1) all) d c.in-Some.scalar
          c.loop-name.invariant.1 cut scalar (c.in_ok-typed-2.ensures outer),
    )

pub names_typed-returns-in_default : goal.names_typed-returns-in_default
unfolding AreNamesTyped
names_typed-returns-in_default t c =
    let outer = context_of (env_in c.args.within.scope) in
    let all : List Name = c.args.names.now in
    let i : ℕ = c.loop-name.name-index in
    let name : Name = c.name-item.result in
    let d = domain_tree c.args.domain.now in
    let k = with_typed c.loop-name.typed.items outer in
    let cut : drop i all ≡ name ∷ drop (i + 1) all =
    drop_more all i name c.loop-name-test.true ∙ ap (λ r. r ∷ drop (i + 1) all) (sym c.name-item.is) in
    names_fail (all_pass Wanted.Integer (readings (context_in c.args.within) all d)) k (drop i all) name (drop (i + 1) all) d
    c.loop-name.invariant.0 cut
    (ap (λ ts. name_scalar (domain_type_at (with_typed ts outer) d)) (sym c.deref.ensures.value) ∙ ap name_scalar (sym c.in_ok-ty.ensures) ∙ sym c.name_scalar.ensures ∙ c.in_default.is)

pub names_typed-returns : goal.names_typed-returns
unfolding AreNamesTyped
names_typed-returns t c =
    let outer = context_of (env_in c.args.within.scope) in
    let all : List Name = c.args.names.now in
    let d = domain_tree c.args.domain.now in
    let k = with_typed c.loop-name.typed.items outer in
    let none = drop_all c.loop-name.name-index all c.loop-name-test.false in (
      names_passed (all_pass Wanted.Integer (readings (context_in c.args.within) all d)) k _ d c.loop-name.invariant.0 none,
      names_ended (inside_names (context_in c.args.within) all d) k _ d c.loop-name.invariant.1 none,
    )

pub generators_typed-loop-generator-init : goal.generators_typed-loop-generator-init
generators_typed-loop-generator-init t c =
    let outer = context_of (env_in c.args.within.scope) in
    let gens = generators_of c.args.generators.now in (
      ap (λ ts. all_pass Wanted.Integer (judge_generators (with_typed ts outer) gens)) (sym c.in_ok-typed.ensures),
      ap (λ ts. inside_all gens (with_typed ts outer)) (sym c.in_ok-typed.ensures),
    )

pub generators_typed-loop-generator-preserved : goal.generators_typed-loop-generator-preserved
generators_typed-loop-generator-preserved t c =
    let outer = context_of (env_in c.args.within.scope) in
    let all : List Generator = c.args.generators.now in
    let i : ℕ = c.loop-generator.generator-index in
    let g : Generator = c.generator-item.result in
    let k = with_typed c.loop-generator.typed.items outer in
    let cut : drop i all ≡ g ∷ drop (i + 1) all =
    drop_more all i g c.loop-generator-test.true ∙ ap (λ r. r ∷ drop (i + 1) all) (sym c.generator-item.is) in
    let told : Read (Some c.in-Some.more.items) outer k g =
    read_as c.in_ok-read.read (Some c.in-Some.more) outer c.deref.result.now c.loop-generator.typed.items c.deref-in-loop-generator.result.now g c.deref.ensures.value c.deref-in-loop-generator.ensures.value c.in-Some.is c.in_ok-read.ensures in (
      generators_pass (all_pass Wanted.Integer (judge_generators (context_in c.args.within) (generators_of all))) outer k (drop i all) g (drop (i + 1) all) c.in-Some.more.items
          c.loop-generator.invariant.0 cut told,
      generators_inside (inside_all (generators_of all) (context_in c.args.within)) outer k (drop i all) g (drop (i + 1) all) c.in-Some.more.items
          c.loop-generator.invariant.1 cut told,
    )

pub generators_typed-returns-in_default : goal.generators_typed-returns-in_default
unfolding AreNamesTyped
generators_typed-returns-in_default t c =
    let outer = context_of (env_in c.args.within.scope) in
    let all : List Generator = c.args.generators.now in
    let i : ℕ = c.loop-generator.generator-index in
    let g : Generator = c.generator-item.result in
    let k = with_typed c.loop-generator.typed.items outer in
    let cut : drop i all ≡ g ∷ drop (i + 1) all =
    drop_more all i g c.loop-generator-test.true ∙ ap (λ r. r ∷ drop (i + 1) all) (sym c.generator-item.is) in
    generators_fail (all_pass Wanted.Integer (judge_generators (context_in c.args.within) (generators_of all))) outer k (drop i all) g (drop (i + 1) all)
    c.loop-generator.invariant.0 cut
    (read_as c.in_ok-read.read None outer c.deref.result.now c.loop-generator.typed.items c.deref-in-loop-generator.result.now g c.deref.ensures.value c.deref-in-loop-generator.ensures.value c.in_default.is c.in_ok-read.ensures)

pub generators_typed-returns : goal.generators_typed-returns
unfolding AreNamesTyped
generators_typed-returns t c =
    let outer = context_of (env_in c.args.within.scope) in
    let all : List Generator = c.args.generators.now in
    let k = with_typed c.loop-generator.typed.items outer in
    let none = drop_all c.loop-generator.generator-index all c.loop-generator-test.false in (
      generators_passed (all_pass Wanted.Integer (judge_generators (context_in c.args.within) (generators_of all))) k _ c.loop-generator.invariant.0 none,
      generators_ended (inside_all (generators_of all) (context_in c.args.within)) k _ c.loop-generator.invariant.1 none,
    )

pub quantifier-returns-in_default-read : goal.quantifier-returns-in_default-read
quantifier-returns-in_default-read t c =
    let k = context_in c.args.within in
    let outer = context_of (env_in c.args.within.scope) in
    let ns = c.deref.result.now in
    let d = domain_tree c.deref-in-Quant.result.now in
    quantifier_none k outer c.args.e.now.place c.args.e.now.kind c.in-Quant.op c.in-Quant.names c.in-Quant.domain c.in-Quant.body ns c.deref-in-Quant.result.now
    c.in-Quant.is c.deref.ensures.value c.deref-in-Quant.ensures
    (subst (λ o. AreNamesTyped (option_map (λ v. v.items) o) outer (all_pass Wanted.Integer (readings k ns d)) (inside_names k ns d)) c.in_default-read.is c.in_ok-read-in-Quant.ensures)

pub quantifier-returns-in_ok-holds-in-Quant : goal.quantifier-returns-in_ok-holds-in-Quant
quantifier-returns-in_ok-holds-in-Quant t c =
    let k = context_in c.args.within in
    let outer = context_of (env_in c.args.within.scope) in
    let ns = c.deref.result.now in
    let d = domain_tree c.deref-in-Quant.result.now in
    quantifier_told k outer c.args.e.now.place c.args.e.now.kind c.in-Quant.op c.in-Quant.names c.in-Quant.domain c.in-Quant.body c.in-Some.typed.items c.deref-in-Quant-2.result.now
    ns c.deref-in-Quant.result.now c.deref-in-Quant-3.result.now c.quantified_part.result c.quantified_type.result c.in_ok-holds-in-Quant.holds c.type_if.result
    c.in-Quant.is c.deref.ensures.value c.deref-in-Quant.ensures c.deref-in-Quant-3.ensures
    (subst (λ o. AreNamesTyped (option_map (λ v. v.items) o) outer (all_pass Wanted.Integer (readings k ns d)) (inside_names k ns d)) c.in-Some.is c.in_ok-read-in-Quant.ensures)
    c.quantified_part.ensures c.quantified_type.ensures c.deref-in-Quant-2.ensures.value c.in_ok-holds-in-Quant.ensures c.type_if.ensures

pub comprehension-returns-in_default-read : goal.comprehension-returns-in_default-read
comprehension-returns-in_default-read t c =
    let k = context_in c.args.within in
    let outer = context_of (env_in c.args.within.scope) in
    let gs = c.deref.result.now in
    comprehension_none k outer c.args.e.now.place c.args.e.now.kind c.in-Comprehension.body c.in-Comprehension.generators c.in-Comprehension.conditions c.in-Comprehension.domain gs
    c.in-Comprehension.is c.deref.ensures.value
    (subst (λ o. AreNamesTyped (option_map (λ v. v.items) o) outer (all_pass Wanted.Integer (judge_generators k (generators_of gs))) (inside_all (generators_of gs) k)) c.in_default-read.is c.in_ok-read-in-Comprehension.ensures)

pub comprehension-returns-in_ok-types-in-Comprehension : goal.comprehension-returns-in_ok-types-in-Comprehension
comprehension-returns-in_ok-types-in-Comprehension t c =
    let k = context_in c.args.within in
    let outer = context_of (env_in c.args.within.scope) in
    let gs = c.deref.result.now in
    given c.list_of.result _ _ c.list_of.ensures
    (λ ty h.
    comprehension_told k outer c.args.e.now.place c.args.e.now.kind c.in-Comprehension.body c.in-Comprehension.generators c.in-Comprehension.conditions c.in-Comprehension.domain
    c.in-Some.typed.items c.deref-in-Comprehension.result.now gs c.deref-in-Comprehension-2.result.now c.deref-in-Comprehension-3.result.now
    c.in_ok-index-in-Comprehension.index c.in_ok-truths-in-Comprehension.truths c.both.result c.in_ok-ty-in-Comprehension.ty (option_map (λ v. v.items) c.in_ok-types-in-Comprehension.types) ty
    c.in-Comprehension.is c.deref.ensures.value c.deref-in-Comprehension-2.ensures.value c.deref-in-Comprehension-3.ensures
    (subst (λ o. AreNamesTyped (option_map (λ v. v.items) o) outer (all_pass Wanted.Integer (judge_generators k (generators_of gs))) (inside_all (generators_of gs) k)) c.in-Some.is c.in_ok-read-in-Comprehension.ensures)
    c.in_ok-index-in-Comprehension.ensures c.deref-in-Comprehension.ensures.value c.in_ok-truths-in-Comprehension.ensures c.in_ok-ty-in-Comprehension.ensures
    (c.in_ok-types-in-Comprehension.ensures ∙ ap (λ l. map_both (λ all one. all ++ one ∷ []) (Some l) c.in_ok-ty-in-Comprehension.ty) c.new.ensures.items)
    c.both.ensures h)
