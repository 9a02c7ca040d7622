use Rattle.ep_unroll.proofs.Words.{ℤ, List, length, take, ◌≤◌, IsSome, All, term_value}
use Rattle.ep_unroll.proofs.choices.are_total.Given as goal

abbrev pub invariant-loop-term : goal.invariant-loop-term
invariant-loop-term l = (numbers : List ℤ) → l.count ≤ length numbers → All (λ t. IsSome (term_value l.arena numbers t)) (take l.term-index l.terms)
