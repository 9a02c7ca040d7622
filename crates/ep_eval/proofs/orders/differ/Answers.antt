use Rattle.ep_eval.proofs.Words.{◌≡◌, ◌+◌, ◌∷◌, ◌++◌, [], ℕ, ℤ, List, Bool, pos, true, false, take, drop, get_or, refl, sym, ap, ◌∙◌, w64, to_z, of_z, rules, not, ◌&&◌, cond, int_eq, to_z-of_z, take-append-drop, take_more, are_different, has_number}
use Rattle.ep_eval.proofs.ListLaws.{different_fails, different_more, different_none, has_more}
use Rattle.ep_eval.proofs.orders.differ.Goals as goal

pub loop-part-init : goal.loop-part-init
unfolding has_number
loop-part-init c = record { distinct = different_none; has = λ q. ap (λ l. has_number l q) c.new-before.ensures.empty }

told : (b : Bool) → true ≡ not b → b ≡ false
told true h = absurd cc
told false h = refl

found : (b : Bool) → false ≡ not b → b ≡ true
found true h = refl
found false h = absurd cc

pub loop-part-preserved : goal.loop-part-preserved
unfolding has_number
loop-part-preserved c =
    let all : List ℤ = c.args.parts.now in
    let k : ℕ = c.loop-part.part-index in
    let x : ℤ = get_or all k (pos 0) in
    let word : to_z w64 (of_z w64 x) ≡ x = to_z-of_z w64 x (search rules) in
    let more : take (k + 1) all ≡ take k all ++ x ∷ [] = take_more all k (pos 0) c.loop-part-test.true in
    let new : has_number c.loop-part.before.keys x ≡ false =
    ap (has_number c.loop-part.before.keys) (sym word) ∙ told _ (sym c.if-not-branch.false ∙ c.in_ok-insert.ensures.added) in
    record {
      distinct =
          ap are_different more ∙ different_more (take k all) x
          ∙ ap (λ b. b && not (has_number (take k all) x)) c.loop-part.invariant.distinct
          ∙ ap not (sym (c.loop-part.invariant.has x) ∙ new);
      has = λ q.
          c.in_ok-insert.ensures.updates.0 q ∙ ap (λ y. cond (int_eq y q) true (has_number c.loop-part.before.keys q)) word
          ∙ ap (cond (int_eq x q) true) (c.loop-part.invariant.has q)
          ∙ sym (ap (λ l. has_number l q) more ∙ has_more (take k all) x q);
    }

pub returns-then-not-branch : goal.returns-then-not-branch
unfolding has_number
returns-then-not-branch c =
    let all : List ℤ = c.args.parts.now in
    let k : ℕ = c.loop-part.part-index in
    let x : ℤ = get_or all k (pos 0) in
    let word : to_z w64 (of_z w64 x) ≡ x = to_z-of_z w64 x (search rules) in
    let more : take (k + 1) all ≡ take k all ++ x ∷ [] = take_more all k (pos 0) c.loop-part-test.true in
    let old : has_number c.loop-part.before.keys x ≡ true =
    ap (has_number c.loop-part.before.keys) (sym word) ∙ found _ (sym c.if-not-branch.true ∙ c.in_ok-insert.ensures.added) in
    sym (ap are_different (sym (take-append-drop (k + 1) all))
    ∙ different_fails (take (k + 1) all) (drop (k + 1) all)
    (ap are_different more ∙ different_more (take k all) x
    ∙ ap (λ b. b && not (has_number (take k all) x)) c.loop-part.invariant.distinct
    ∙ ap not (sym (c.loop-part.invariant.has x) ∙ old)))
