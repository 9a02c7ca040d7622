use Rattle.ep_size.proofs.Words.{sym, ◌∙◌, kind_tree}
use Rattle.ep_size.proofs.ReadSteps.{name_cells, no_name}
use Rattle.ep_size.proofs.reading.names_cells.Goals as goal

pub returns-then-is_name_kind : goal.returns-then-is_name_kind
returns-then-is_name_kind c mode env p known =
    name_cells env (kind_tree p c.args.kind.now) c.is_decided_extent.result (sym (c.is_name_kind.ensures p) ∙ c.if-is_name_kind.true)
    (c.is_decided_extent.ensures mode env (kind_tree p c.args.kind.now) known)

pub returns : goal.returns
returns c mode env p known = no_name env (kind_tree p c.args.kind.now) (sym (c.is_name_kind.ensures p) ∙ c.if-is_name_kind.false)
