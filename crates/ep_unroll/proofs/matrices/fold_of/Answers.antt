use Rattle.ep_unroll.proofs.Words.{length, subst, sym, ◌<◌, All, mode_in, folded, IsTermOf}
use Rattle.ep_ground.specs.Nodes.{parts_of}
use Rattle.ep_unroll.proofs.FormValues.{asked_of, if_ok}
use Rattle.ep_unroll.proofs.MatrixSteps.{every_term, greatest_is, least_is, some_term}
use Rattle.ep_unroll.proofs.ProductSteps.{product_is}
use Rattle.ep_unroll.proofs.ScalarSteps.{scalars_are}
use Rattle.ep_unroll.proofs.matrices.fold_of.Goals as goal

pub sum_of_all-requires : goal.sum_of_all-requires
sum_of_all-requires c = c.requires

pub scalar_terms-requires : goal.scalar_terms-requires
scalar_terms-requires c = c.requires

pub returns-in-Sum : goal.returns-in-Sum
returns-in-Sum c n cells nodes p e mode count h =
    if_ok c.sum_of_all.result _ _ (λ t own. subst (λ op. IsTermOf n cells nodes c.sum_of_all.new.arena (folded p op e) t) (sym c.in-Sum.is) own) (c.sum_of_all.ensures n cells nodes p e h)

pub product_of_all-requires : goal.product_of_all-requires
product_of_all-requires c = c.in_ok-terms-in-Product.ensures.known

pub returns-in_ok-terms-in-Product : goal.returns-in_ok-terms-in-Product
returns-in_ok-terms-in-Product c n cells nodes p e mode count h =
    let mid = c.scalar_terms.new.arena in
    let new = c.product_of_all.new.arena in
    let ts = c.in_ok-terms-in-Product.terms.items in
    if_ok c.product_of_all.result _ _
    (λ t own. subst (λ op. IsTermOf n cells nodes new (folded p op e) t) (sym c.in-Product.is)
    (product_is n cells nodes mid new p e ts t (scalars_are n cells nodes c.args.arena.now mid e c.args.known.now ts h c.in_ok-terms-in-Product.ensures) own)) c.product_of_all.ensures

pub judged-requires : goal.judged-requires
unfolding parts_of
judged-requires c = record {
  node = c.in_ok-terms-in-And.ensures.known;
  others = c.in_ok-needed-in-And.ensures.known;
}

pub needed_parts-requires : goal.needed_parts-requires
needed_parts-requires c =
    subst (All (λ t. t < length c.scalar_terms-in-And.new.arena)) (sym c.deref.ensures.value)
    c.in_ok-terms-in-And.ensures.known

pub returns-in_ok-needed-in-And : goal.returns-in_ok-needed-in-And
returns-in_ok-needed-in-And c n cells nodes p e mode count h =
    let mid = c.scalar_terms-in-And.new.arena in
    let new = c.judged.new.arena in
    let ts = c.in_ok-terms-in-And.terms.items in
    let us = c.in_ok-needed-in-And.needed.items in
    if_ok c.judged.result _ _
    (λ t j. subst (λ op. IsTermOf n cells nodes new (folded p op e) t) (sym c.in-And.is)
    (every_term n cells nodes mid new p e ts us t (scalars_are n cells nodes c.args.arena.now mid e c.args.known.now ts h c.in_ok-terms-in-And.ensures)
    (asked_of n mid c.args.count (mode_in c.args.scope) c.deref.result.now ts us c.deref.ensures.value mode count c.in_ok-needed-in-And.ensures) j)) c.judged.ensures

pub judged-requires-in-Or : goal.judged-requires-in-Or
unfolding parts_of
judged-requires-in-Or c = record {
  node = c.in_ok-terms-in-Or.ensures.known;
  others = c.in_ok-needed-in-Or.ensures.known;
}

pub needed_parts-requires-in-Or : goal.needed_parts-requires-in-Or
needed_parts-requires-in-Or c =
    subst (All (λ t. t < length c.scalar_terms-in-Or.new.arena)) (sym c.deref-in-Or.ensures.value)
    c.in_ok-terms-in-Or.ensures.known

pub returns-in_ok-needed-in-Or : goal.returns-in_ok-needed-in-Or
returns-in_ok-needed-in-Or c n cells nodes p e mode count h =
    let mid = c.scalar_terms-in-Or.new.arena in
    let new = c.judged-in-Or.new.arena in
    let ts = c.in_ok-terms-in-Or.terms.items in
    let us = c.in_ok-needed-in-Or.needed.items in
    if_ok c.judged-in-Or.result _ _
    (λ t j. subst (λ op. IsTermOf n cells nodes new (folded p op e) t) (sym c.in-Or.is)
    (some_term n cells nodes mid new p e ts us t (scalars_are n cells nodes c.args.arena.now mid e c.args.known.now ts h c.in_ok-terms-in-Or.ensures)
    (asked_of n mid c.args.count (mode_in c.args.scope) c.deref-in-Or.result.now ts us c.deref-in-Or.ensures.value mode count c.in_ok-needed-in-Or.ensures) j)) c.judged-in-Or.ensures

pub least_of_all-requires : goal.least_of_all-requires
least_of_all-requires c = c.in_ok-terms-in-Min.ensures.known

pub returns-in_ok-terms-in-Min : goal.returns-in_ok-terms-in-Min
returns-in_ok-terms-in-Min c n cells nodes p e mode count h =
    let mid = c.scalar_terms-in-Min.new.arena in
    let new = c.least_of_all.new.arena in
    let ts = c.in_ok-terms-in-Min.terms.items in
    if_ok c.least_of_all.result _ _
    (λ t own. subst (λ op. IsTermOf n cells nodes new (folded p op e) t) (sym c.in-Min.is)
    (least_is n cells nodes mid new p e ts t (scalars_are n cells nodes c.args.arena.now mid e c.args.known.now ts h c.in_ok-terms-in-Min.ensures) own)) c.least_of_all.ensures

pub greatest_of_all-requires : goal.greatest_of_all-requires
greatest_of_all-requires c = c.in_ok-terms-in-Max.ensures.known

pub returns-in_ok-terms-in-Max : goal.returns-in_ok-terms-in-Max
returns-in_ok-terms-in-Max c n cells nodes p e mode count h =
    let mid = c.scalar_terms-in-Max.new.arena in
    let new = c.greatest_of_all.new.arena in
    let ts = c.in_ok-terms-in-Max.terms.items in
    if_ok c.greatest_of_all.result _ _
    (λ t own. subst (λ op. IsTermOf n cells nodes new (folded p op e) t) (sym c.in-Max.is)
    (greatest_is n cells nodes mid new p e ts t (scalars_are n cells nodes c.args.arena.now mid e c.args.known.now ts h c.in_ok-terms-in-Max.ensures) own)) c.greatest_of_all.ensures
