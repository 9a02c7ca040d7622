use Rattle.std.proofs.Common.{◌≡◌, ◌⊎◌, inl, inr, ◌≤◌, ◌+◌, Bool, true, false, nat_le, ℕ, pos, List, [], ◌∷◌, ◌++◌, length, take, refl, sym, ap, ◌∙◌, arith, rules, min, of_z, to_z, w64}
use Rattle.std.proofs.lemmas.Bool.Decides.{nat_tests}
use Rattle.std.proofs.lemmas.Int.{to_z-of_z}
use Rattle.std.proofs.lemmas.List.{length-append}
use Rattle.std.proofs.lemmas.Slice.Zip.{zip_end, zip_turn}
use Rattle.std.specs.Iterator.Adapters.{zip_first, zip_second}
use Rattle.std.specs.Slice.Iter.{iter_rest}
use Rattle.ep_base.specs.Numbers.{is_one}
use Rattle.opb_answer.specs.declared.answers.OpbValue.{OpbValue}
use Rattle.opb_solve.proofs.Agreeing.{values_more, values_taken}
use Rattle.opb_solve.proofs.solving.values_from.Goals as goal
use Rattle.opb_solve.specs.Meant.{values_from}

pub loop-var-init : goal.loop-var-init
unfolding values_from
loop-var-init c = c.new-values.ensures.items

-- the lesser one of two lengths is one of them
one_ends : (a b n : ℕ) → n ≡ min a b → (a ≤ n) ⊎ (b ≤ n)
one_ends a b n is = by (nat_le a b) refl
  where
    by : (t : Bool) → nat_le a b ≡ t → (a ≤ n) ⊎ (b ≤ n)
    by true e = inl (let low : a ≤ b = grind (arith, nat_tests) in omega (arith, is, low))
    by false e = inr (let low : b ≤ a = grind (arith, nat_tests) in omega (arith, is, low))

pub returns : goal.returns
returns c =
    let first : iter_rest (zip_first c.into_iter-var-iterator.result) ≡ c.args.vars.now = search rules in
    let second : iter_rest (zip_second c.into_iter-var-iterator.result) ≡ c.args.numbers.now = search rules in
    let ended = zip_end c.args.vars.now c.args.numbers.now c.loop-var.yielded c.into_iter-var-iterator.result c.loop-var.var-iterator c.next.new.self c.next.result first second c.loop-var.yielded_by c.in-None.is c.next.ensures.steps in
    c.loop-var.invariant ∙ values_taken c.args.vars.now c.args.numbers.now (length c.loop-var.yielded) (one_ends (length c.args.vars.now) (length c.args.numbers.now) (length c.loop-var.yielded) ended)

pub loop-var-preserved : goal.loop-var-preserved
loop-var-preserved c =
    let first : iter_rest (zip_first c.into_iter-var-iterator.result) ≡ c.args.vars.now = search rules in
    let second : iter_rest (zip_second c.into_iter-var-iterator.result) ≡ c.args.numbers.now = search rules in
    let n : ℕ = length c.loop-var.yielded in
    let turn = zip_turn c.args.vars.now c.args.numbers.now c.loop-var.yielded c.into_iter-var-iterator.result c.loop-var.var-iterator c.next.new.self c.next.result first second c.loop-var.yielded_by
    (c.in-Some.var, c.in-Some.number) c.in-Some.is c.next.ensures.steps in
    let own : OpbValue = record { var = c.in-Some.var.now; holds = is_one c.in-Some.number.now } in
    let long : length (c.loop-var.yielded ++ (c.in-Some.var, c.in-Some.number) ∷ []) ≡ n + 1 = length-append c.loop-var.yielded ((c.in-Some.var, c.in-Some.number) ∷ []) in
    let said : Bool → OpbValue = λ holds. record { var = c.in-Some.var.now; holds = holds } in
    let plain : to_z w64 (of_z w64 c.in-Some.number.now) ≡ c.in-Some.number.now = to_z-of_z w64 c.in-Some.number.now (search rules) in
    c.in_ok-push.ensures.items ∙ ap (λ (b : Bool). c.loop-var.values.items ++ said b ∷ []) (c.is_true.ensures ∙ ap is_one plain) ∙ ap (λ (vs : List OpbValue). vs ++ own ∷ []) c.loop-var.invariant
    ∙ values_more c.args.vars.now c.args.numbers.now n c.in-Some.var.now c.in-Some.number.now turn.0 turn.1 (turn.2 0) (turn.3 (pos 0))
    ∙ ap (λ (k : ℕ). values_from (take k c.args.vars.now) c.args.numbers.now) (sym long)
