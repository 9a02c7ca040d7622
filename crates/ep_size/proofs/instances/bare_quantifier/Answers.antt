use Rattle.ep_size.proofs.Words.{ap, sym, ◌∙◌, span_of, single, TellsValue, grid_of}
use Rattle.ep_size.proofs.instances.bare_quantifier.Goals as goal

pub returns : goal.returns
unfolding grid_of TellsValue
returns c mode env e f known is held = record {
  extent = is ∙ ap (λ x. single (span_of x)) known.extent ∙ ap single (sym c.number_span.ensures);
  value = held;
}
