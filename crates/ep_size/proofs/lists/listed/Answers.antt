use Rattle.ep_size.proofs.Words.{◌≡◌, ◌∷◌, ◌++◌, [], ℤ, List, length, ap, sym, subst, ◌∙◌, append_assoc, arith, w64, to_z, of_z, rules, to_z-of_z, just_enough, too_few, too_many, IsWalkBehind, before_rest, numbers_left}
use Rattle.ep_size.proofs.lists.listed.Goals as goal

pub loop-number-smaller : goal.loop-number-smaller
unfolding before_rest
loop-number-smaller c =
    let cut : numbers_left c.loop-number.walk ≡ c.in-Some.number ∷ numbers_left c.in-Some.behind = c.next_number.ensures.numbers ∙ ap before_rest c.in-Some.is in
    let longer = ap length cut in
    omega (arith, longer)

pub returns-then-len-count-clause-numbers : goal.returns-then-len-count-clause-numbers
unfolding before_rest
returns-then-len-count-clause-numbers c =
    let cut : numbers_left c.loop-number.walk ≡ c.in-Some.number ∷ numbers_left c.in-Some.behind = c.next_number.ensures.numbers ∙ ap before_rest c.in-Some.is in
    too_many c.args.set.now c.loop-number.numbers.items (numbers_left c.loop-number.walk) c.in-Some.number (numbers_left c.in-Some.behind) c.args.count
    c.loop-number.invariant.1 cut (grind (arith, c.if-len-count.true, c.len.ensures))

pub loop-number-preserved : goal.loop-number-preserved
unfolding before_rest IsWalkBehind
loop-number-preserved c =
    let n : ℤ = c.in-Some.number in
    let old : List ℤ = c.loop-number.numbers.items in
    let rest : List ℤ = numbers_left c.in-Some.behind in
    let cut : numbers_left c.loop-number.walk ≡ n ∷ rest = c.next_number.ensures.numbers ∙ ap before_rest c.in-Some.is in
    let word : to_z w64 (of_z w64 n) ≡ n = to_z-of_z w64 n (search rules) in
    let more : c.push.new.self.items ≡ old ++ n ∷ [] = c.in_ok-push.ensures.items ∙ ap (λ m. old ++ m ∷ []) word in
    let longer = ap length more in (
      subst IsWalkBehind c.in-Some.is c.next_number.ensures.walk,
      c.loop-number.invariant.1 ∙ ap (λ l. old ++ l) cut ∙ sym (append_assoc old (n ∷ []) rest) ∙ ap (λ l. l ++ rest) (sym more),
      grind (arith, more, c.if-len-count.false, c.len.ensures),
    )

pub returns-then-len-count-2-clause-numbers : goal.returns-then-len-count-2-clause-numbers
unfolding before_rest
returns-then-len-count-2-clause-numbers c =
    too_few c.args.set.now c.loop-number.numbers.items (numbers_left c.loop-number.walk) c.args.count
    c.loop-number.invariant.1 (c.next_number.ensures.numbers ∙ ap before_rest c.in_default.is) c.loop-number.invariant.2
    (λ e. grind (arith, e, c.if-len-count-2.true, c.len-2.ensures))

pub returns-clause-numbers : goal.returns-clause-numbers
unfolding before_rest
returns-clause-numbers c =
    just_enough c.args.set.now c.loop-number.numbers.items (numbers_left c.loop-number.walk) c.args.count
    c.loop-number.invariant.1 (c.next_number.ensures.numbers ∙ ap before_rest c.in_default.is)
    (grind (arith, c.loop-number.invariant.2, c.if-len-count-2.false, c.len-2.ensures))
