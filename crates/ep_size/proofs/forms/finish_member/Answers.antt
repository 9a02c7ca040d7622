use Rattle.ep_size.proofs.Words.{ap, ◌∙◌, width, in_domain, grid_of, capped}
use Rattle.ep_tree.specs.Reach as defined
use Rattle.ep_size.proofs.FormSteps.{in_domain_number, one_width}
use Rattle.ep_size.proofs.forms.finish_member.Goals as goal

pub returns : goal.returns
returns c mode env p e d holds known =
    c.truth_node.ensures mode env (in_domain p e d) _
    (c.told_count.ensures ∙ ap capped (c.width.ensures ∙ ap (λ s. width s.reach) c.number_span-span.ensures ∙ one_width (defined.span_of (grid_of c.args.known.now))))
    (in_domain_number mode env p d e (grid_of c.args.known.now) holds known.extent)
