-- Reading the text of a formula line by line.
use Rattle.std.proofs.Common.{◌≡◌, ℕ, ◌+◌, true, false, List, [], ◌∷◌, Result, Ok, Err, IfOk, MatchResult, refl, sym, ap, ◌∙◌}
use Rattle.cnf_core.specs.Literal.{Literal}
use Rattle.cnf_core.specs.Formula.{Cnf}
use Rattle.sat_text.specs.declared.faults.Stop.{Stop}
use Rattle.sat_text.specs.declared.faults.Stop.TheVariants.{Memory, At, Ends}
use Rattle.sat_text.specs.declared.header.HeaderLine.{HeaderLine}
use Rattle.sat_text.specs.Words.{words, says_nothing}
use Rattle.sat_text.specs.Cnf.{CnfContent, with_vars, behind_header, formula_from, header_of, StopsLine, NamesLine, plain_formula}

pub formula_quiet : (last number : ℕ) (rest later : List (List ℕ)) (line : List ℕ) → rest ≡ line ∷ later → says_nothing line ≡ true → formula_from last number rest ≡ formula_from last (number + 1) later
unfolding formula_from
formula_quiet last number rest later line cut e = ap (formula_from last number) cut ∙ rw e refl

pub formula_header : (last number : ℕ) (rest later : List (List ℕ)) (line : List ℕ) (h : HeaderLine) → rest ≡ line ∷ later → says_nothing line ≡ false → h ≡ header_of (words line) → formula_from last number rest ≡ behind_header last number h later
unfolding formula_from
formula_header last number rest later line h cut e is = ap (formula_from last number) cut ∙ rw (e, is) refl

pub formula_ends : (last number : ℕ) (rest : List (List ℕ)) → rest ≡ [] → formula_from last number rest ≡ Err last
unfolding formula_from
formula_ends last number rest none = ap (formula_from last number) none

pub names_stop : (last : ℕ) (stop : Stop) (line : ℕ) (answer : Result CnfContent ℕ) → NamesLine last stop line → answer ≡ Err line → StopsLine last stop answer
names_stop last Memory line answer n e = tt
names_stop last (At number) line answer n e = e ∙ ap (λ (k : ℕ). Err k) n
names_stop last Ends line answer n e = e ∙ ap (λ (k : ℕ). Err k) n

pub formula_good : (last vars : ℕ) (r : Result Cnf Stop) (read : Result (List (List Literal)) ℕ) (answer : Result CnfContent ℕ) → IfOk r (λ f. f.vars ≡ vars) → MatchResult r (λ f. read ≡ Ok f.clauses) (λ stop. StopsLine last stop read)
    → answer ≡ with_vars vars read → MatchResult r (λ f. answer ≡ Ok (plain_formula f)) (λ stop. StopsLine last stop answer)
formula_good last vars (Ok f) read answer v m e = e ∙ ap (with_vars vars) m ∙ ap (λ (n : ℕ). Ok (record { vars = n; clauses = f.clauses })) (sym v)
formula_good last vars (Err Memory) read answer v m e = tt
formula_good last vars (Err (At line)) read answer v m e = e ∙ ap (with_vars vars) m
formula_good last vars (Err Ends) read answer v m e = e ∙ ap (with_vars vars) m
