use Rattle.std.proofs.Common.{◌≡◌, ◌∙◌, ◌<◌, ◌≤◌, ℕ, ℤ, List, IsTrue, ap, get_or, length, pos, sym, subst, w64, to_z, of_z, rules, arith}
use Rattle.std.proofs.lemmas.Int.{to_z-of_z}
use Rattle.std.proofs.lemmas.List.{get_or_default}
use Rattle.ep_base.specs.Runs.{IsAscending}
use Rattle.ep_flat.specs.Cons.{is_value, number_at}
use Rattle.enc_atoms.specs.Atoms.{Adds}
use Rattle.enc_var.specs.Layouts.{literals_at}
use Rattle.enc_arith.specs.Finding.{FindsIn}
use Rattle.enc_arith.specs.Functions.{function_value}
use Rattle.enc_arith.specs.Running.{StandsFrom}
use Rattle.enc_arith.specs.Saying.{says}
use Rattle.enc_arith.proofs.Running.{says_all, says_none, says_run}
use Rattle.enc_arith.proofs.runs.add_function.Goals as goal

pub runs-init : goal.runs-init
runs-init c = says_none c.args.layout.now c.args.f.now c.args.when.now c.args.y c.args.target.truth c.args.target.result (function_value c.args.function) c.in_ok-numbers.numbers.items c.requires.ready

pub found_in-found-requires : goal.found_in-found-requires
found_in-found-requires c = record { there = c.requires.there.there; numbers = c.requires.there.numbers }

pub run_end-end-requires : goal.run_end-end-requires
run_end-end-requires c =
    let ns : List ℤ = c.in_ok-numbers.numbers.items in
    let D : List ℤ = (literals_at c.args.layout.now c.args.target.result).domain in
    let n : ℤ = c.index.result.now in
    let low : c.runs.start < length ns = omega (arith, c.runs-test.true) in
    let word : to_z w64 (of_z w64 n) ≡ get_or ns c.runs.start (pos 0) = to_z-of_z w64 n (search rules) ∙ (c.index.ensures ∙ get_or_default ns c.runs.start n (pos 0) low) in
    let long : length c.deref.result.now ≡ length ns = ap length c.deref.ensures.value in
    record {
      there = c.requires.there.there;
      small = c.requires.there.numbers;
      start = omega (arith, long, c.runs-test.true);
      found = subst (λ (ms : List ℤ). FindsIn D c.found_in-found.result (function_value c.args.function (get_or ms c.runs.start (pos 0)))) (sym c.deref.ensures.value)
          (subst (λ (m : ℤ). FindsIn D c.found_in-found.result (function_value c.args.function m)) word c.found_in-found.ensures);
    }

pub add_run-requires : goal.add_run-requires
add_run-requires c =
    let long : length c.deref.result.now ≡ length c.in_ok-numbers.numbers.items = ap length c.deref.ensures.value in
    let far : length c.deref-in-runs.result.now ≡ length c.in_ok-numbers.numbers.items = ap length c.deref-in-runs.ensures.value in
    record {
      ready = record { from_new = c.runs.invariant.goes_on.from_new; is_layout = c.runs.invariant.goes_on.is_layout };
      names = c.requires.names;
      there = c.requires.there;
      argument = c.requires.argument;
      numbers = c.deref-in-runs.ensures.value ∙ c.in_ok-numbers.ensures ∙ c.domain-domain.ensures;
      ascending = subst IsAscending (sym (c.deref-in-runs.ensures.value ∙ c.in_ok-numbers.ensures)) c.runs_ascend.ensures;
      run = c.run_end-end.ensures.above;
      within = omega (arith, long, far, c.run_end-end.ensures.within);
    }

pub runs-preserved : goal.runs-preserved
runs-preserved c =
    let ns : List ℤ = c.in_ok-numbers.numbers.items in
    let r : ℕ = c.args.target.result in
    let D : List ℤ = (literals_at c.args.layout.now r).domain in
    let start : ℕ = c.runs.start in
    let end : ℕ = c.run_end-end.result in
    let long : length c.deref.result.now ≡ length ns = ap length c.deref.ensures.value in
    says_run c.args.layout.now c.args.f.now c.runs.f c.add_run.new.f c.args.when.now c.args.y c.args.target.truth r (function_value c.args.function) ns start end c.found_in-found.result c.requires.ready c.requires.there.there
    c.run_end-end.ensures.above (omega (arith, long, c.run_end-end.ensures.within))
    (subst (λ (ms : List ℤ). (k : ℕ) → start ≤ k → k < end → FindsIn D c.found_in-found.result (function_value c.args.function (get_or ms k (pos 0)))) c.deref.ensures.value c.run_end-end.ensures.same)
    c.runs.invariant
    (subst (λ (ms : List ℤ). Adds c.args.layout.now c.runs.f c.args.layout.now c.add_run.new.f (λ values. StandsFrom ms start end (number_at values c.args.y) → IsTrue (says values c.args.when.now c.args.target.truth (is_value c.found_in-found.result (number_at values r))))) c.deref-in-runs.ensures.value c.in_ok-add_run.ensures)

pub returns : goal.returns
returns c =
    says_all c.args.layout.now c.args.f.now c.runs.f c.args.when.now c.args.y c.args.target.truth c.args.target.result (function_value c.args.function) c.in_ok-numbers.numbers.items c.runs.start c.requires.ready c.requires.argument
    (c.in_ok-numbers.ensures ∙ c.domain-domain.ensures) (omega (arith, c.runs-test.false)) c.runs.invariant
