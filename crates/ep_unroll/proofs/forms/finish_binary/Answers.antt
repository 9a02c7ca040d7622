use Rattle.ep_unroll.proofs.Words.{sym, subst, ◌∷◌, [], length, ◌<◌, All, mode_in, greatest, least, binary, Puts, IsTermOf}
use Rattle.ep_ground.specs.Nodes.{parts_of}
use Rattle.ep_unroll.proofs.FormSteps.{two_known}
use Rattle.ep_unroll.proofs.FormValues.{asked, greatest_term, if_ok, iff_term, least_term, product_term, quotient_term, remainder_term}
use Rattle.ep_unroll.proofs.forms.finish_binary.Goals as goal

pub put-requires : goal.put-requires
unfolding parts_of
put-requires c = two_known c.args.one c.args.other (length c.args.arena.now) c.requires.one c.requires.other

pub put-requires-in-Div : goal.put-requires-in-Div
unfolding parts_of
put-requires-in-Div c = two_known c.args.one c.args.other (length c.args.arena.now) c.requires.one c.requires.other

pub put-requires-in-Mod : goal.put-requires-in-Mod
unfolding parts_of
put-requires-in-Mod c = two_known c.args.one c.args.other (length c.args.arena.now) c.requires.one c.requires.other

pub returns-in-Mul : goal.returns-in-Mul
returns-in-Mul c n cells nodes p e f mode count h k =
    if_ok c.put.result _ _
    (λ t put. subst (λ op. IsTermOf n cells nodes c.put.new.arena (binary p op e f) t) (sym c.in-Mul.is)
    (product_term n cells nodes c.args.arena.now c.put.new.arena p e f c.args.one c.args.other t h k put)) c.put.ensures

pub returns-in-Div : goal.returns-in-Div
returns-in-Div c n cells nodes p e f mode count h k =
    if_ok c.put-in-Div.result _ _
    (λ t put. subst (λ op. IsTermOf n cells nodes c.put-in-Div.new.arena (binary p op e f) t) (sym c.in-Div.is)
    (quotient_term n cells nodes c.args.arena.now c.put-in-Div.new.arena p e f c.args.one c.args.other t h k put)) c.put-in-Div.ensures

pub returns-in-Mod : goal.returns-in-Mod
returns-in-Mod c n cells nodes p e f mode count h k =
    if_ok c.put-in-Mod.result _ _
    (λ t put. subst (λ op. IsTermOf n cells nodes c.put-in-Mod.new.arena (binary p op e f) t) (sym c.in-Mod.is)
    (remainder_term n cells nodes c.args.arena.now c.put-in-Mod.new.arena p e f c.args.one c.args.other t h k put)) c.put-in-Mod.ensures

pub returns-in-Iff : goal.returns-in-Iff
returns-in-Iff c n cells nodes p e f mode count h k =
    let old = c.args.arena.now in
    if_ok c.comparison.result _ _
    (λ t one. subst (λ op. IsTermOf n cells nodes c.comparison.new.arena (binary p op e f) t) (sym c.in-Iff.is)
    (iff_term n cells nodes old c.comparison.new.arena p e f c.args.one c.args.other t one.others h k
    (asked n old c.args.count (mode_in c.args.scope) (c.args.one ∷ c.args.other ∷ []) one.others mode count one.needed) one.judged)) c.comparison.ensures

pub put-requires-in-Min : goal.put-requires-in-Min
unfolding parts_of
put-requires-in-Min c =
    subst (All (λ part. part < length c.args.arena.now)) (sym c.in_ok-parts-in-Min.ensures)
    (two_known c.args.one c.args.other (length c.args.arena.now) c.requires.one c.requires.other)

pub returns-in_ok-parts-in-Min : goal.returns-in_ok-parts-in-Min
returns-in_ok-parts-in-Min c n cells nodes p e f mode count h k =
    if_ok c.put-in-Min.result _ _
    (λ t put. subst (λ op. IsTermOf n cells nodes c.put-in-Min.new.arena (binary p op e f) t) (sym c.in-Min.is)
    (least_term n cells nodes c.args.arena.now c.put-in-Min.new.arena p e f c.args.one c.args.other t h k
    (subst (λ ts. Puts c.args.arena.now c.put-in-Min.new.arena (least ts) t) c.in_ok-parts-in-Min.ensures put))) c.put-in-Min.ensures

pub put-requires-in-Max : goal.put-requires-in-Max
unfolding parts_of
put-requires-in-Max c =
    subst (All (λ part. part < length c.args.arena.now)) (sym c.in_ok-parts-in-Max.ensures)
    (two_known c.args.one c.args.other (length c.args.arena.now) c.requires.one c.requires.other)

pub returns-in_ok-parts-in-Max : goal.returns-in_ok-parts-in-Max
returns-in_ok-parts-in-Max c n cells nodes p e f mode count h k =
    if_ok c.put-in-Max.result _ _
    (λ t put. subst (λ op. IsTermOf n cells nodes c.put-in-Max.new.arena (binary p op e f) t) (sym c.in-Max.is)
    (greatest_term n cells nodes c.args.arena.now c.put-in-Max.new.arena p e f c.args.one c.args.other t h k
    (subst (λ ts. Puts c.args.arena.now c.put-in-Max.new.arena (greatest ts) t) c.in_ok-parts-in-Max.ensures put))) c.put-in-Max.ensures

pub returns-in-Implies : goal.returns-in-Implies
returns-in-Implies c n cells nodes p e f mode count h k =
    if_ok c.implication.result _ _ (λ t done. subst (λ op. IsTermOf n cells nodes c.implication.new.arena (binary p op e f) t) (sym c.in-Implies.is) done)
    (c.implication.ensures n cells nodes p e f mode count h k)

pub returns-in-Pow : goal.returns-in-Pow
returns-in-Pow c n cells nodes p e f mode count h k =
    if_ok c.power_term.result _ _ (λ t done. subst (λ op. IsTermOf n cells nodes c.power_term.new.arena (binary p op e f) t) (sym c.in-Pow.is) done)
    (c.power_term.ensures n cells nodes p e f h k)
