use Rattle.std.proofs.Common.{◌≡◌, ◌∙◌, ℤ, List, subst, sym, w64, to_z, of_z, rules}
use Rattle.std.specs.List.{Contains}
use Rattle.std.proofs.lemmas.Bool.{false≢true}
use Rattle.std.proofs.lemmas.Int.{to_z-of_z}
use Rattle.std.specs.Prelude.{None, Option}
use Rattle.enc_var.specs.Layouts.{literals_at}
use Rattle.enc_arith.specs.Finding.{FindsIn}
use Rattle.enc_arith.specs.Functions.{function_value}
use Rattle.enc_arith.proofs.Running.{found_there, none_there, not_there}
use Rattle.enc_arith.proofs.runs.found_in.Goals as goal

pub returns-then-has : goal.returns-then-has
returns-then-has c =
    let D : List ℤ = (literals_at c.args.layout.now c.args.var).domain in
    let word : to_z w64 (of_z w64 c.args.number) ≡ c.args.number = to_z-of_z w64 c.args.number (search rules) in
    subst (λ (o : Option ℤ). FindsIn D o (function_value c.args.function c.args.number)) c.in-Some.is
    (subst (λ (n : ℤ). FindsIn D c.at-found.result (function_value c.args.function n)) word (found_there D c.at-found.result _ c.requires.numbers c.at-found.ensures))

pub returns-else-has : goal.returns-else-has
returns-else-has c =
    let D : List ℤ = (literals_at c.args.layout.now c.args.var).domain in
    let word : to_z w64 (of_z w64 c.args.number) ≡ c.args.number = to_z-of_z w64 c.args.number (search rules) in
    let value : to_z w64 (of_z w64 c.in-Some.value) ≡ c.in-Some.value = to_z-of_z w64 c.in-Some.value (search rules) in
    subst (λ (n : ℤ). FindsIn D None (function_value c.args.function n)) word
    (not_there D c.at-found.result c.in-Some.value _ c.requires.numbers c.at-found.ensures c.in-Some.is
    (λ among. false≢true (sym c.if-has.false ∙ c.has.ensures.1 (subst (λ (ns : List ℤ). Contains ns (to_z w64 (of_z w64 c.in-Some.value))) (sym c.domain.ensures) (subst (Contains D) (sym value) among)))))

pub returns-in-None : goal.returns-in-None
returns-in-None c =
    let D : List ℤ = (literals_at c.args.layout.now c.args.var).domain in
    let word : to_z w64 (of_z w64 c.args.number) ≡ c.args.number = to_z-of_z w64 c.args.number (search rules) in
    subst (λ (n : ℤ). FindsIn D None (function_value c.args.function n)) word (none_there D c.at-found.result _ c.requires.numbers c.at-found.ensures c.in-None.is)
