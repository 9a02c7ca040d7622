use Rattle.ep_size.proofs.Words.{ap, sym, ◌∙◌, None, if◌then◌else◌, extent_fixed, type_in, fixed_extent, fixed_span, no_extent, is_integer, single, TellsValue, grid_of}
use Rattle.ep_size.proofs.extending.without_value.Goals as goal

pub returns-in-Bool : goal.returns-in-Bool
unfolding fixed_extent grid_of TellsValue is_integer
returns-in-Bool c mode env e typed h v = record {
  extent =
      extent_fixed mode env e h ∙ ap (fixed_extent (type_in env e)) v
      ∙ ap (λ t. if is_integer t then single (fixed_span None) else no_extent) (sym typed ∙ c.in-Bool.is);
  value = (h, v);
}

pub returns-in-Int : goal.returns-in-Int
unfolding fixed_extent grid_of TellsValue is_integer
returns-in-Int c mode env e typed h v = record {
  extent =
      extent_fixed mode env e h ∙ ap (fixed_extent (type_in env e)) v
      ∙ ap (λ t. if is_integer t then single (fixed_span None) else no_extent) (sym typed ∙ c.in-Int.is);
  value = (h, v);
}

pub returns-in-Matrix : goal.returns-in-Matrix
unfolding fixed_extent grid_of TellsValue is_integer
returns-in-Matrix c mode env e typed h v = record {
  extent =
      extent_fixed mode env e h ∙ ap (fixed_extent (type_in env e)) v
      ∙ ap (λ t. if is_integer t then single (fixed_span None) else no_extent) (sym typed ∙ c.in-Matrix.is);
  value = (h, v);
}

pub returns-in-Empty : goal.returns-in-Empty
unfolding fixed_extent grid_of TellsValue is_integer
returns-in-Empty c mode env e typed h v = record {
  extent =
      extent_fixed mode env e h ∙ ap (fixed_extent (type_in env e)) v
      ∙ ap (λ t. if is_integer t then single (fixed_span None) else no_extent) (sym typed ∙ c.in-Empty.is);
  value = (h, v);
}
