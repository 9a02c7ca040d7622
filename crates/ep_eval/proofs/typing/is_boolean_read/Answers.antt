use Rattle.ep_eval.proofs.Words.{◌-◌, ap, sym, ◌∙◌, length, unwrap_or, context_of, type_in, is_boolean, judge_indices, slice_count, expr_tree, indices_of, ValueType, all_pass, read_of, type_at, env_in, with_typed, Wanted}
use Rattle.ep_eval.proofs.JudgingForms.{at-read}
use Rattle.ep_eval.proofs.typing.is_boolean_read.Goals as goal

pub returns : goal.returns
unfolding type_in with_typed
returns c p =
    let k = context_of (env_in c.args.scope) in
    let m = expr_tree c.args.matrix.now in
    let is = c.args.indices.now in
    let stated = length is - slice_count (indices_of is) in
    let slices = slice_count (indices_of is) in
    let none = c.deref.ensures.value ∙ c.new-none.ensures.items in
    c.is_boolean_type.ensures
    ∙ ap (λ o. is_boolean (unwrap_or o ValueType.Int))
    (c.read_by-own.ensures
    ∙ ap (λ o. read_of o c.in_ok-integer.integer stated slices) (c.in_ok-ty.ensures ∙ ap (λ ts. type_at (with_typed ts k) m) none)
    ∙ ap (λ o. read_of (type_at k m) o stated slices) (c.in_ok-integer.ensures ∙ ap (λ ts. all_pass Wanted.Integer (judge_indices (with_typed ts k) (indices_of is))) none)
    ∙ sym (at-read k p m is))
