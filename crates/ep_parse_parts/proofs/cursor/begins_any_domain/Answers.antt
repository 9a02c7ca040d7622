use Rattle.std.proofs.Common.{sym, ◌∙◌}
use Rattle.ep_parse_parts.proofs.DomainLooks.{matrix_begins, part_begins}
use Rattle.ep_parse_parts.proofs.cursor.begins_any_domain.Goals as goal

pub returns-then-begins_domain : goal.returns-then-begins_domain
returns-then-begins_domain c = part_begins c.args.word.now (sym c.begins_domain.ensures ∙ c.if-begins_domain.true)

pub returns : goal.returns
returns c = matrix_begins c.args.word.now _ (sym c.begins_domain.ensures ∙ c.if-begins_domain.false) c.begins_matrix.ensures
