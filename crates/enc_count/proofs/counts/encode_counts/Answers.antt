use Rattle.std.proofs.Common.{◌∙◌, List, option_to_list, subst, sym, arith}
use Rattle.std.specs.List.{All}
use Rattle.std.proofs.lemmas.Result.{on_ok_weaker}
use Rattle.ep_base.specs.declared.operators.CompareOp.TheVariants as Op
use Rattle.enc_count.proofs.Counting.{vars_fit, vars_never, vars_said}
use Rattle.enc_count.specs.Counts.{AreFit}
use Rattle.enc_count.specs.declared.counts.Wanted.{Wanted}
use Rattle.enc_count.proofs.counts.encode_counts.Goals as goal

pub encode_wanted-requires-clause-wanted : goal.encode_wanted-requires-clause-wanted
encode_wanted-requires-clause-wanted c =
    subst (λ (ws : List Wanted). All (λ (one : Wanted). AreFit c.args.layout.now (option_to_list one.var)) ws) (sym (c.deref.ensures.value ∙ c.in_ok-wanted.ensures)) (vars_fit c.args.layout.now c.args.numbers.now c.args.counts.now c.requires.counts)

pub returns-then-numbers-counts : goal.returns-then-numbers-counts
returns-then-numbers-counts c =
    on_ok_weaker c.add_never.result
    (vars_never c.args.layout.now c.args.f.now c.add_never.new.f c.args.truth Op.Equal c.args.vars.now c.args.numbers.now c.args.counts.now c.requires.ready.is_layout (λ e. omega (arith, e)))
    c.add_never.ensures

pub returns : goal.returns
returns c =
    on_ok_weaker c.encode_wanted.result
    (vars_said c.args.layout.now c.args.f.now c.encode_wanted.new.layout c.encode_wanted.new.f c.args.truth Op.Equal c.args.vars.now c.args.numbers.now c.args.counts.now c.deref.result.now c.requires.ready.is_layout (omega arith) (c.deref.ensures.value ∙ c.in_ok-wanted.ensures))
    c.encode_wanted.ensures
