use Rattle.std.proofs.Common.{◌+◌, ◌≤◌, ℕ, Bool, ℤ, pos, List, length, drop, get_or, ap, ◌∙◌, sym, w64, arith, rules}
use Rattle.std.proofs.lemmas.Int.{to_z-of_z}
use Rattle.std.proofs.lemmas.List.{at_drop_more, at_drop_all}
use Rattle.enc_var.specs.Decoding.{VariableLiterals, eq_of, known_holds}
use Rattle.enc_var.specs.Layouts.{literals_at}
use Rattle.sat_cubes.specs.Answers.{is_variable_true}
use Rattle.ep_answer.proofs.Deciding.{number_is}
use Rattle.ep_cubes.proofs.Told.{first_told, told_all, told_here, told_later, told_nowhere}
use Rattle.ep_cubes.proofs.reading.number_of.Goals as goal

pub loop-number-init : goal.loop-number-init
loop-number-init c =
    let s : ℕ → Bool = is_variable_true c.args.values.now in
    let e : VariableLiterals = literals_at c.args.layout.now c.args.var in
    ap (first_told s e) (c.deref-number-items.ensures.value ∙ c.in_ok-domain.ensures ∙ c.domain.ensures) ∙ told_all s e

pub returns-then-holds : goal.returns-then-holds
returns-then-holds c =
    let s : ℕ → Bool = is_variable_true c.args.values.now in
    let e : VariableLiterals = literals_at c.args.layout.now c.args.var in
    let items : List ℤ = c.deref-number-items.result.now in
    let k : ℕ = c.loop-number.number-index in
    let x : ℤ = get_or items k (pos 0) in
    to_z-of_z w64 x (search rules)
    ∙ sym (told_here s e x (drop (k + 1) items) (sym (c.if-holds.ensures ∙ ap (known_holds s) (c.eq.ensures ∙ ap (eq_of e) (to_z-of_z w64 x (search rules))))))
    ∙ sym (at_drop_more (first_told s e) items k (pos 0) c.loop-number-test.true)
    ∙ c.loop-number.invariant
    ∙ sym (number_is c.args.layout.now s c.args.var c.requires)

pub loop-number-preserved : goal.loop-number-preserved
loop-number-preserved c =
    let s : ℕ → Bool = is_variable_true c.args.values.now in
    let e : VariableLiterals = literals_at c.args.layout.now c.args.var in
    let items : List ℤ = c.deref-number-items.result.now in
    let k : ℕ = c.loop-number.number-index in
    let x : ℤ = get_or items k (pos 0) in
    sym (at_drop_more (first_told s e) items k (pos 0) c.loop-number-test.true
    ∙ told_later s e x (drop (k + 1) items) (sym (c.if-holds.ensures ∙ ap (known_holds s) (c.eq.ensures ∙ ap (eq_of e) (to_z-of_z w64 x (search rules))))))
    ∙ c.loop-number.invariant

pub returns : goal.returns
returns c =
    let s : ℕ → Bool = is_variable_true c.args.values.now in
    let e : VariableLiterals = literals_at c.args.layout.now c.args.var in
    let items : List ℤ = c.deref-number-items.result.now in
    let k : ℕ = c.loop-number.number-index in
    let past : length items ≤ k = omega (arith, c.loop-number-test.false) in
    sym (told_nowhere s e)
    ∙ sym (at_drop_all (first_told s e) items k past)
    ∙ c.loop-number.invariant
    ∙ sym (number_is c.args.layout.now s c.args.var c.requires)
