-- Each number gives an instance.
use Rattle.std.proofs.Common.{ℕ, List, map, ℤ, Ok, ap, ◌∙◌}
use Rattle.std.proofs.lemmas.Bool.{leb-true}
use Rattle.ep_tree.specs.Binding.{and_next, bind, bind_statements, nothing_bound}
use Rattle.ep_tree.specs.Names.{nothing_known}
use Rattle.ep_tree.specs.declared.values.Mode.{Mode}
use Rattle.ep_print_laws.specs.Answered.{SpellsLettings, letting_of}
use Rattle.ep_gen.specs.Hints.{order_of, square_rows}
use Rattle.ep_gen.specs.Texts.{generated_params, params_of}
use Rattle.ep_gen_laws.specs.Instances.{EachNumberGivesInstance}
use Rattle.ep_gen_laws.proofs.Faultless.{model_faultless}
use Rattle.ep_gen_laws.proofs.Fitting.{RowsPass}
use Rattle.ep_gen_laws.proofs.Limits.{bound_within}
use Rattle.ep_gen_laws.proofs.ModelText.{model_is_read}
use Rattle.ep_gen_laws.proofs.ModelTree.{model_tree}
use Rattle.ep_gen_laws.proofs.Orders.{order_computed}
use Rattle.ep_gen_laws.proofs.ParamsKnown.{ParamsBind, params_bind}
use Rattle.ep_gen_laws.proofs.ParamsSize.{params_low, params_short}
use Rattle.ep_gen_laws.proofs.ParamsText.{params_spelled}
use Rattle.ep_gen_laws.proofs.Passing.{hints_count, hints_pass, up_to}

pub number_gives_instance : EachNumberGivesInstance
unfolding bind and_next
number_gives_instance number =
    let n : ℕ = order_of number in
    let rows : List (List ℤ) = square_rows number n in
    let computed = order_computed number in
    let low = computed.small.low in
    let pass : RowsPass (up_to n) n rows = hints_pass number n computed.fitting.some in
    let count = hints_count number n in
    let m = model_is_read in
    let s : SpellsLettings (map letting_of (params_of number)) (generated_params number) = params_spelled number low pass in
    let p : ParamsBind n rows s.tree = params_bind n rows s.tree low (leb-true _ 4 (computed.few_bounds nothing_known)) count pass s.same in
    let b = bound_within number m.at p.known (record { order = p.order; hints = p.hints }) in
    record {
      model = model_tree m.at;
      params = s.tree;
      model_is_read = m.reads;
      params_are_read = record { within = params_short n rows low (leb-true _ 20 computed.few_bytes) count pass; tokens = s.spelled.tokens; found = s.spelled.found; reads = record { spelled = s.spelled.spelled; low = params_low n rows s.tree s.same } };
      model_is_faultless = model_faultless m.at;
      params_are_faultless = p.faultless;
      instance = b.progress.instance;
      bound =
          ap (λ r. and_next r (λ known. and_next (bind_statements Mode.Relational known nothing_bound (model_tree m.at)) (λ at. Ok at.instance))) p.bound
          ∙ ap (λ r. and_next r (λ at. Ok at.instance)) b.bound;
      within = b.within;
    }
