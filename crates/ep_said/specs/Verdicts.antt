-- The texts of verdicts on proofs.
use Rattle.std.specs.Prelude.{ℕ, List, ◌++◌, codes}
use Rattle.std.specs.Fmt.{decimal}
use Rattle.log_check.specs.declared.Verdict.{Verdict}
use Rattle.log_check.specs.declared.Verdict.TheVariants.{BadStep, NoEmptyClause, Verified}

-- what is said of a proof
unfoldable pub verdict_text : Verdict → List ℕ
verdict_text Verified = codes "$ verified\n"
verdict_text (BadStep line) = codes "$ bad step " ++ (decimal line ++ codes "\n")
verdict_text NoEmptyClause = codes "$ no empty clause\n"
