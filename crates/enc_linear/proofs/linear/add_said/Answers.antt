use Rattle.std.proofs.Common.{subst, sym, ap, ◌∙◌, arith}
use Rattle.std.specs.List.{AllZip}
use Rattle.std.proofs.lemmas.Int.{ints}
use Rattle.enc_linear.specs.Terms.{IsMirror, total}
use Rattle.enc_linear.proofs.Arising.{terms_later}
use Rattle.enc_linear.proofs.Totals.{mirrors_of_layout, mirrors_opposite, said_one, said_two}
use Rattle.enc_linear.proofs.linear.add_said.Goals as goal
use Rattle.ep_base.proofs.Contraries.{contrary_holds}
use Rattle.ep_base.specs.Numbers.{compare_holds}

pub add_compared-requires-clause-mirrors : goal.add_compared-requires-clause-mirrors
add_compared-requires-clause-mirrors c = mirrors_of_layout c.args.layout.now c.args.f.now c.args.terms.now c.deref.result.now c.requires.terms (subst (AllZip IsMirror c.args.terms.now) (sym c.deref.ensures.value) c.in_ok-mirrors.ensures)

pub add_compared-requires-clause-opposite : goal.add_compared-requires-clause-opposite
add_compared-requires-clause-opposite c = mirrors_opposite c.args.terms.now c.deref.result.now (subst (AllZip IsMirror c.args.terms.now) (sym c.deref.ensures.value) c.in_ok-mirrors.ensures)

pub add_compared-requires-2-clause-terms : goal.add_compared-requires-2-clause-terms
add_compared-requires-2-clause-terms c = terms_later c.args.layout.now c.args.f.now c.args.layout.now c.add_truth.new.f c.args.terms.now c.in_ok-add_truth.ensures.goes_on c.requires.terms

pub add_compared-requires-2-clause-mirrors : goal.add_compared-requires-2-clause-mirrors
add_compared-requires-2-clause-mirrors c = mirrors_of_layout c.args.layout.now c.add_truth.new.f c.args.terms.now c.deref-2.result.now (terms_later c.args.layout.now c.args.f.now c.args.layout.now c.add_truth.new.f c.args.terms.now c.in_ok-add_truth.ensures.goes_on c.requires.terms) (subst (AllZip IsMirror c.args.terms.now) (sym c.deref-2.ensures.value) c.in_ok-mirrors.ensures)

pub add_compared-requires-2-clause-opposite : goal.add_compared-requires-2-clause-opposite
add_compared-requires-2-clause-opposite c = mirrors_opposite c.args.terms.now c.deref-2.result.now (subst (AllZip IsMirror c.args.terms.now) (sym c.deref-2.ensures.value) c.in_ok-mirrors.ensures)

pub add_compared-requires-3-clause-terms : goal.add_compared-requires-3-clause-terms
add_compared-requires-3-clause-terms c =
    terms_later c.args.layout.now c.add_truth.new.f c.args.layout.now c.add_compared-2.new.f c.args.terms.now c.in_ok-add_compared.ensures.goes_on (terms_later c.args.layout.now c.args.f.now c.args.layout.now c.add_truth.new.f c.args.terms.now c.in_ok-add_truth.ensures.goes_on c.requires.terms)

pub add_compared-requires-3-clause-mirrors : goal.add_compared-requires-3-clause-mirrors
add_compared-requires-3-clause-mirrors c = mirrors_of_layout c.args.layout.now c.add_compared-2.new.f c.args.terms.now c.deref-3.result.now (terms_later c.args.layout.now c.add_truth.new.f c.args.layout.now c.add_compared-2.new.f c.args.terms.now c.in_ok-add_compared.ensures.goes_on (terms_later c.args.layout.now c.args.f.now c.args.layout.now c.add_truth.new.f c.args.terms.now c.in_ok-add_truth.ensures.goes_on c.requires.terms)) (subst (AllZip IsMirror c.args.terms.now) (sym c.deref-3.ensures.value) c.in_ok-mirrors.ensures)

pub add_compared-requires-3-clause-opposite : goal.add_compared-requires-3-clause-opposite
add_compared-requires-3-clause-opposite c = mirrors_opposite c.args.terms.now c.deref-3.result.now (subst (AllZip IsMirror c.args.terms.now) (sym c.deref-3.ensures.value) c.in_ok-mirrors.ensures)

pub returns-in_default : goal.returns-in_default
returns-in_default c =
    said_one c.add_compared.result c.args.layout.now c.args.f.now c.add_compared.new.f c.args.truth c.args.op (λ values. total values c.args.terms.now) _ c.args.number c.requires.is_layout c.add_compared.ensures c.in_default.is (omega (arith, ints))

pub returns : goal.returns
returns c =
    said_two c.add_compared-3.result c.args.layout.now c.args.f.now c.add_truth.new.f c.add_compared-2.new.f c.add_compared-3.new.f c.in-Some.t c.args.truth c.is_not.result c.is.result c.args.op c.contrary-against.result
    (λ values. total values c.args.terms.now) _ _ c.args.number c.requires.is_layout c.in_ok-add_truth.ensures c.in_ok-add_compared.ensures c.add_compared-3.ensures c.in-Some.is c.is_not.ensures c.is.ensures
    (omega (arith, ints)) (omega (arith, ints)) (λ x y. ap (λ o. compare_holds o x y) c.contrary-against.ensures ∙ contrary_holds c.args.op x y)
