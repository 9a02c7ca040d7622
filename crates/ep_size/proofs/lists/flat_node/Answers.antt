use Rattle.ep_size.proofs.Words.{ap, ◌∙◌, map, err_from_is_err_and, flatten, plain_span}
use Rattle.ep_size.proofs.ListNodes.{flatten_node, lists_finish, memory_stops}
use Rattle.ep_size.proofs.lists.flat_node.Goals as goal

pub returns : goal.returns
returns c mode env p e t holds known =
    lists_finish mode env (flatten p e) _ t c.list_of.result
    (flatten_node mode env p e c.args.known.now (map plain_span c.deref.result.now) holds known
    (ap (map plain_span) c.deref.ensures.value ∙ c.in_ok-spans.ensures.scalars)) c.list_of.ensures

pub returns-in_err-spans : goal.returns-in_err-spans
returns-in_err-spans c mode env p e t holds known =
    let q = err_from_is_err_and c.from_residual.result c.from_residual.ensures.1 in
    rw (q.1, q.2) (memory_stops mode env (flatten p e) t c.in_err-spans.field-0.0 c.in_err-spans.ensures.memory)
