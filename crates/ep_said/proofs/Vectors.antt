-- Worked examples of what is said of judgements, of verdicts and of the texts of a number, computed by the checker.
use Rattle.std.proofs.Common.{◌≡◌, [], negsuc, codes, Some, None, refl}
use Rattle.std.specs.Fmt.{digits}
use Rattle.ep_gen.specs.Hints.{order_of}
use Rattle.ep_print.specs.Answers.{no_solution, optimum, solution, unknown, unknown_with}
use Rattle.ep_tree.specs.Solutions.{a_solution, goal_undefined, violates}
use Rattle.log_check.specs.declared.Verdict.TheVariants.{BadStep, NoEmptyClause, Verified}
use Rattle.ep_said.specs.Judgements.{judgement_text}
use Rattle.ep_said.specs.Summaries.{found_line, summary_text}
use Rattle.ep_said.specs.Verdicts.{verdict_text}

-- ---- an assignment

solution-says : judgement_text (a_solution None) ≡ codes "$ solution\n"
unfolding judgement_text
solution-says = refl

objective-says : judgement_text (a_solution (Some (negsuc 2))) ≡ codes "$ solution objective -3\n"
unfolding digits judgement_text
objective-says = refl

violated-says : judgement_text (violates 12) ≡ codes "$ violated 12\n"
unfolding digits judgement_text
violated-says = refl

undefined-says : judgement_text goal_undefined ≡ codes "$ objective undefined\n"
unfolding judgement_text
undefined-says = refl

-- ---- a proof

verified-says : verdict_text Verified ≡ codes "$ verified\n"
unfolding verdict_text
verified-says = refl

bad-step-says : verdict_text (BadStep 12) ≡ codes "$ bad step 12\n"
unfolding digits verdict_text
bad-step-says = refl

unfinished-says : verdict_text NoEmptyClause ≡ codes "$ no empty clause\n"
unfolding verdict_text
unfinished-says = refl

-- ---- the texts of a number

solution-is-summed : summary_text 0 (solution []) ≡ codes "$ generated 0\n$ order 16\n$ solution\n"
unfolding digits found_line order_of summary_text
solution-is-summed = refl

none-is-summed : summary_text 24 no_solution ≡ codes "$ generated 24\n$ order 20\n$ no solution\n"
unfolding digits found_line order_of summary_text
none-is-summed = refl

optimum-is-summed : summary_text 1 (optimum (negsuc 2) []) ≡ codes "$ generated 1\n$ order 17\n$ optimum -3\n"
unfolding digits found_line order_of summary_text
optimum-is-summed = refl

unknown-is-summed : summary_text 7 (unknown 12) ≡ codes "$ generated 7\n$ order 18\n$ unknown 12 conflicts\n"
unfolding digits found_line order_of summary_text
unknown-is-summed = refl

incumbent-is-left-out : summary_text 7 (unknown_with 12 (negsuc 2) []) ≡ codes "$ generated 7\n$ order 18\n$ unknown 12 conflicts\n"
unfolding digits found_line order_of summary_text
incumbent-is-left-out = refl
