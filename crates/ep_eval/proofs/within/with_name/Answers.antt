use Rattle.ep_eval.proofs.Words.{ap, ◌∙◌, Some, false, put, a_value, of_scalar, with_typed}
use Rattle.ep_eval.proofs.TypedNames.{typed_behind}
use Rattle.ep_eval.proofs.within.with_name.Goals as goal

pub returns : goal.returns
returns c k =
    ap (λ ts. with_typed ts k) c.in_ok-push.ensures.items ∙ typed_behind c.args.typed.items _ k
    ∙ ap (λ n. put n (a_value (Some (of_scalar c.args.scalar)) false) (with_typed c.args.typed.items k)) (c.in_ok-name.ensures.copied ∙ c.text.ensures.text)
