-- Worked values of the words on runs, computed by the checker.
use Rattle.std.proofs.Common.{◌≡◌, ℤ, pos, negsuc, ◌+ℤ◌, ◌<ℤ◌, [], ◌∷◌, refl, arith, lit<}
use Rattle.std.proofs.lemmas.Int.{ints}
use Rattle.ep_base.specs.declared.run_lists.Run.{Run}
use Rattle.ep_base.specs.Runs.{counting, numbers_in, numbers, AreApart}

abbrev run : ℤ → ℤ → Run
run lo hi = record { lo = lo; hi = hi }

three : numbers_in (run (negsuc 0) (pos 1)) ≡ negsuc 0 ∷ pos 0 ∷ pos 1 ∷ []
unfolding numbers_in counting
three = refl

one : numbers_in (run (pos 5) (pos 5)) ≡ pos 5 ∷ []
unfolding numbers_in counting
one = refl

none : numbers_in (run (pos 5) (pos 4)) ≡ []
unfolding numbers_in counting
none = refl

none_far : numbers_in (run (pos 5) (negsuc 8)) ≡ []
unfolding numbers_in counting
none_far = refl

two_runs : numbers (run (negsuc 2) (negsuc 1) ∷ run (pos 4) (pos 4) ∷ []) ≡ negsuc 2 ∷ negsuc 1 ∷ pos 4 ∷ []
unfolding numbers numbers_in counting
two_runs = refl

-- runs that touch aren't apart
touching : AreApart (run (pos 1) (pos 3) ∷ run (pos 4) (pos 4) ∷ []) → ⊥
touching h = let gap : (pos 3 +ℤ pos 1) <ℤ pos 4 = h.gaps 0 1 (run (pos 0) (pos 0)) (lit< tt) (lit< tt) in absurd (omega (arith, ints, gap))
