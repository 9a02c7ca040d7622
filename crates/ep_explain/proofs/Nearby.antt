-- Assignments around those that settle a clause.
use Rattle.std.proofs.Common.{◌≡◌, ℕ, zero, suc, ◌+◌, ◌<◌, List, [], ◌∷◌, length, take, get_or, refl, sym, ap, ◌∙◌, subst, arith}
use Rattle.std.specs.Prelude.{ℤ, None, Option, Some}
use Rattle.std.specs.List.{All, AllZip}
use Rattle.ep_answer.specs.Answered as cells
use Rattle.ep_ground.specs.Grounds.{AreCellValues}
use Rattle.ep_instance.specs.Judgements.{judgement_of}
use Rattle.ep_instance.specs.declared.judging.Judgement.{Judgement as Said}
use Rattle.ep_instance.specs.declared.judging.Judgement.TheVariants.{Solution as SaidSolution}
use Rattle.ep_print.specs.Answers.{AnswerTree, answer_tree, solution, unknown_tree}
use Rattle.ep_print.specs.declared.answers.Answer.{Answer}
use Rattle.ep_print.specs.declared.answers.Answer.TheVariants.{NoSolution, Optimum, Solution, Unknown}
use Rattle.ep_restrict.specs.Restricted.{restricted}
use Rattle.ep_solve.specs.Reading.{ReadsAs, answer_from, assignment_from}
use Rattle.ep_tree.specs.Binding.{Find, Instance}
use Rattle.ep_tree.specs.Solutions.{Assigned, Fits, Found, judgement}
use Rattle.ep_tree.specs.Views.{assigned}
use Rattle.ep_tree.specs.declared.values.Assignment.{Assignment}
use Rattle.ep_tree.specs.declared.values.Mode.{Mode}
use Rattle.ep_explain.proofs.Judged.{rest_solved}
use Rattle.ep_explain.proofs.Making.{to_solution}
use Rattle.ep_explain.specs.Explained.{IsWrittenSolution}
use Rattle.ep_explain.specs.Narrowing.{IsPlaced, IsTrueAt}

-- ---- what makes all clauses but one true

pub alone : (mode : Mode) (i : Instance) (keep : List ℕ) (a : Assigned) (j : Said) (x : Option ℤ) → IsPlaced i a → j ≡ SaidSolution x
    → ((found : Found) → Fits i a found → judgement_of j ≡ judgement mode (restricted i keep) found) → IsWrittenSolution mode (restricted i keep) a
alone mode i keep a j x placed is said =
    let held : All (IsTrueAt mode i placed.found) keep =
    rest_solved mode mode i (restricted i keep) keep placed.found x refl refl (ap judgement_of (sym is) ∙ said placed.found placed.fits) in
    record {
      solves = to_solution mode i keep a (record { found = placed.found; fits = placed.fits; holds = held });
      written = placed.written;
      typed = placed.typed;
    }

-- ---- cells and their values

-- one more of two lists
zip_next : {A B : Type 0} (R : A → B → Type 0) (xs : List A) (ys : List B) (k : ℕ) (d : A) (e : B) → k < length xs → length xs ≡ length ys
    → AllZip R (take k xs) (take k ys) → R (get_or xs k d) (get_or ys k e) → AllZip R (take (suc k) xs) (take (suc k) ys)
zip_next R [] ys k d e within long before own = absurd (omega (arith, within))
zip_next R (x ∷ xs) [] k d e within long before own = absurd (omega (arith, long))
zip_next R (x ∷ xs) (y ∷ ys) zero d e within long before own = (own, tt)
zip_next R (x ∷ xs) (y ∷ ys) (suc k) d e within long before own =
    (before.0, zip_next R xs ys k d e (omega (arith, within)) (omega (arith, long)) before.1 own)

pub zip_more : {A B : Type 0} (R : A → B → Type 0) (xs : List A) (ys : List B) (k : ℕ) (d : A) (e : B) → k < length xs → length xs ≡ length ys
    → AllZip R (take k xs) (take k ys) → R (get_or xs k d) (get_or ys k e) → AllZip R (take (k + 1) xs) (take (k + 1) ys)
zip_more R xs ys k d e within long before own =
    let next : suc k ≡ k + 1 = omega arith in
    subst (λ n. AllZip R (take n xs) (take n ys)) next (zip_next R xs ys k d e within long before own)

-- ---- numbers that are read back

from_solution : (fs : List Find) (numbers : List ℤ) (t : AnswerTree) → t ≡ answer_from fs 0 (cells.solution numbers) → t ≡ solution (assignment_from fs numbers)
unfolding answer_from
from_solution fs numbers t is = is

pub no_optimum_read : (fs : List Find) (numbers : List ℤ) (answer : Answer) (value : ℤ) (a : Assignment) → answer ≡ Optimum value a
    → answer_tree answer ≡ answer_from fs 0 (cells.solution numbers) → ⊥
unfolding answer_tree answer_from
no_optimum_read fs numbers answer value a is same = (let bad = ap answer_tree (sym is) ∙ same in absurd cc)

pub not_none_read : (fs : List Find) (numbers : List ℤ) (answer : Answer) → answer ≡ NoSolution
    → answer_tree answer ≡ answer_from fs 0 (cells.solution numbers) → ⊥
unfolding answer_tree answer_from
not_none_read fs numbers answer is same = (let bad = ap answer_tree (sym is) ∙ same in absurd cc)

unknown_is_none : (t : AnswerTree) (conflicts : ℕ) (o : Option (ℤ × Assignment)) → unknown_tree conflicts o ≡ t → (a : Assigned) → t ≡ solution a → ⊥
unfolding unknown_tree
unknown_is_none t conflicts None is a same = (let bad = is ∙ same in absurd cc)
unknown_is_none t conflicts (Some best) is a same = (let bad = is ∙ same in absurd cc)

pub not_unknown_read : (fs : List Find) (numbers : List ℤ) (answer : Answer) (conflicts : ℕ) (o : Option (ℤ × Assignment)) → answer ≡ Unknown conflicts o
    → answer_tree answer ≡ answer_from fs 0 (cells.solution numbers) → ⊥
unfolding answer_tree answer_from
not_unknown_read fs numbers answer conflicts o is same = unknown_is_none (answer_tree answer) conflicts o (ap answer_tree (sym is)) (assignment_from fs numbers) same

read_solution : (fs : List Find) (numbers : List ℤ) (answer : Answer) (a : Assignment) → answer ≡ Solution a
    → answer_tree answer ≡ answer_from fs 0 (cells.solution numbers) → assigned a ≡ assignment_from fs numbers
unfolding answer_tree answer_from
read_solution fs numbers answer a is same = (let e = ap answer_tree (sym is) ∙ same in cc)

pub placed : (i : Instance) (fs : List Find) (numbers : List ℤ) (answer : Answer) (a : Assignment) → fs ≡ i.finds → ReadsAs i numbers → answer ≡ Solution a
    → answer_tree answer ≡ answer_from fs 0 (cells.solution numbers) → IsPlaced i (assigned a)
placed i fs numbers answer a finds reads is same =
    let e : assigned a ≡ assignment_from i.finds numbers = read_solution fs numbers answer a is same ∙ ap (λ l. assignment_from l numbers) finds in
    subst (IsPlaced i) (sym e) (record { found = _; fits = reads.fits; written = reads.fits.values; typed = reads.typed })
