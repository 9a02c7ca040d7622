use Rattle.std.proofs.Common.{◌≡◌, ◌+◌, ◌-◌, ◌≤◌, ◌++◌, ◌∷◌, List, Option, [], get_or, subst, arith, ◌∙◌, ap, refl, inr, true}
use Rattle.std.specs.Option.{option_map_or}
use Rattle.cnf_core.specs.Literal.{Literal, negation}
use Rattle.sat_state.specs.Trail.{literals}
use Rattle.sat_search.specs.declared.learning.Cut.{Cut}
use Rattle.sat_search.specs.Analysis.{IsTraced, is_marked, IsCut, count_marked}
use Rattle.sat_search.proofs.Tracing.{traced_keep, traced_down, last_kept}
use Rattle.sat_search.proofs.Counting.{count_taken, count_below}
use Rattle.sat_search.proofs.learning.keep.Goals as goal

pub keep_below-requires-clause-traced : goal.keep_below-requires-clause-traced
keep_below-requires-clause-traced c =
    let clauses = c.args.state.now.clauses in
    let lits = literals c.args.state.now.trail in
    let l = c.index-trail-at.result in
    let at = c.in-Some.at in
    let cut : IsCut clauses lits c.args.analysis.now.marks at.place at.decision = c.requires.cut at c.in-Some.is in
    let is : l ≡ get_or lits at.place l = c.index-trail-at.is ∙ ap (λ (ls : List Literal). get_or ls at.place l) c.trail.ensures.value in
    let marked : is_marked c.args.analysis.now.marks l.var ≡ true = ap (λ (x : Literal). is_marked c.args.analysis.now.marks x.var) is ∙ cut.marked l in
    let traced : IsTraced clauses lits c.args.analysis.now.marks [] c.args.hints.now.items (at.place + 1) =
    subst (λ (o : Option Cut). IsTraced clauses lits c.args.analysis.now.marks [] c.args.hints.now.items (option_map_or (λ (k : Cut). k.place + 1) o 0)) c.in-Some.is c.requires.traced in
    let kept : IsTraced clauses lits c.args.analysis.now.marks ([] ++ negation l ∷ []) c.args.hints.now.items at.place =
    traced_keep clauses lits c.args.analysis.now.marks [] c.args.hints.now.items at.place l cut.there is marked traced in
    let more : at.place ≡ at.decision + (at.place - at.decision) = omega (arith, cut.order) in
    rw (c.in_ok-push-in-Some.ensures.items, c.new-lits.ensures.items, c.lit.ensures, c.negated.ensures)
    (traced_down clauses lits c.args.analysis.now.marks ([] ++ negation l ∷ []) c.args.hints.now.items at.decision (at.place - at.decision) (omega (arith, cut.order, cut.there))
    (λ k d low high. cut.alone k d low (omega (arith, more, high)))
    (subst (IsTraced clauses lits c.args.analysis.now.marks ([] ++ negation l ∷ []) c.args.hints.now.items) more kept))

pub returns-in_ok-keep_below-in-Some-clause-last : goal.returns-in_ok-keep_below-in-Some-clause-last
returns-in_ok-keep_below-in-Some-clause-last c =
    let clauses = c.args.state.now.clauses in
    let lits = literals c.args.state.now.trail in
    let l = c.index-trail-at.result in
    let at = c.in-Some.at in
    let cut : IsCut clauses lits c.args.analysis.now.marks at.place at.decision = c.requires.cut at c.in-Some.is in
    let is : l ≡ get_or lits at.place l = c.index-trail-at.is ∙ ap (λ (ls : List Literal). get_or ls at.place l) c.trail.ensures.value in
    let one : c.push.new.self.items ≡ negation l ∷ [] = rw (c.in_ok-push-in-Some.ensures.items, c.new-lits.ensures.items, c.lit.ensures, c.negated.ensures) refl in
    inr (last_kept clauses lits c.args.analysis.now.marks at.place at.decision l c.push.new.self.items c.keep_below.new.lits.items cut is one c.in_ok-keep_below-in-Some.ensures.keeps)

pub keep_below-requires-clause-counted : goal.keep_below-requires-clause-counted
keep_below-requires-clause-counted c =
    let lits = literals c.args.state.now.trail in
    let marks = c.args.analysis.now.marks in
    let pending = c.args.analysis.now.met in
    let l = c.index-trail-at.result in
    let at = c.in-Some.at in
    let cut : IsCut c.args.state.now.clauses lits marks at.place at.decision = c.requires.cut at c.in-Some.is in
    let is : l ≡ get_or lits at.place l = c.index-trail-at.is ∙ ap (λ (ls : List Literal). get_or ls at.place l) c.trail.ensures.value in
    let marked : is_marked marks l.var ≡ true = ap (λ (x : Literal). is_marked marks x.var) is ∙ cut.marked l in
    let taken : count_marked lits marks at.place + 1 ≤ pending = count_taken lits marks at.place pending l cut.there is marked
    (subst (λ (o : Option Cut). count_marked lits marks (option_map_or (λ (k : Cut). k.place + 1) o 0) ≤ pending) c.in-Some.is c.requires.counted) in
    count_below lits marks at.decision at.place c.pass.new.self cut.order (omega (arith, cut.there)) (omega (arith, taken, c.pass.ensures))
