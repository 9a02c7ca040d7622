use Rattle.std.proofs.Common.{◌≡◌, ◌<◌, ◌≤◌, ◌+◌, ◌∙◌, ℕ, List, [], ap, length, refl, sym, arith}
use Rattle.std.specs.Prelude.{count_by}
use Rattle.std.proofs.lemmas.List.{take_all}
use Rattle.std.proofs.lemmas.List.Sums.{count_by_more_no, count_by_more_yes}
use Rattle.cnf_core.specs.Events.{LogEvent, given, is_given}
use Rattle.sat_text.proofs.EventIds.{count_small}
use Rattle.sat_text.proofs.writing.count_givens.Goals as goal

pub loop-place-preserved-in-Some : goal.loop-place-preserved-in-Some
loop-place-preserved-in-Some c =
    let events = c.args.events.now in
    let below : c.loop-place.place < length events = omega (arith, c.loop-place-test.true, c.len-place-end.ensures.value) in
    record {
      count = c.loop-place.invariant.count ∙ sym (count_by_more_no is_given events c.loop-place.place (given []) below (ap (λ (e : LogEvent). is_given e) c.in-Some.ensures.step));
      few = omega (arith, c.loop-place.invariant.few);
    }

pub loop-place-preserved : goal.loop-place-preserved
loop-place-preserved c =
    let events = c.args.events.now in
    let below : c.loop-place.place < length events = omega (arith, c.loop-place-test.true, c.len-place-end.ensures.value) in
    record {
      count = ap (λ (n : ℕ). n + 1) c.loop-place.invariant.count ∙ sym (count_by_more_yes is_given events c.loop-place.place (given []) below (ap (λ (e : LogEvent). is_given e) (c.in-None.ensures.given refl)));
      few = omega (arith, c.loop-place.invariant.few);
    }

pub returns-clause-value : goal.returns-clause-value
returns-clause-value c =
    let events = c.args.events.now in
    let all : length events ≤ c.loop-place.place = omega (arith, c.loop-place-test.false, c.len-place-end.ensures.value) in
    c.loop-place.invariant.count ∙ ap (λ (es : List LogEvent). count_by is_given es) (take_all c.loop-place.place events all)

pub returns-clause-few : goal.returns-clause-few
returns-clause-few c =
    let events = c.args.events.now in
    let all : length events ≤ c.loop-place.place = omega (arith, c.loop-place-test.false, c.len-place-end.ensures.value) in
    let is : c.loop-place.count ≡ count_by is_given events = c.loop-place.invariant.count ∙ ap (λ (es : List LogEvent). count_by is_given es) (take_all c.loop-place.place events all) in
    omega (arith, is, count_small events, c.len-place-end.ensures.value, c.len-place-end.ensures.few)
