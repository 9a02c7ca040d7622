use Rattle.std.proofs.Common.{ℕ, ◌++◌, ◌∷◌, [], List, Vec, Global, get_or, take, ap, ◌∙◌, sym, subst}
use Rattle.std.proofs.lemmas.List.{take_more}
use Rattle.sat_join.specs.Joins.{ArePlaces, IsPlace}
use Rattle.sat_join.proofs.Hinted.{places_none, places_some}
use Rattle.sat_join.proofs.places.places_of.Goals as goal
use Rattle.sat_join.proofs.places.places_of.Goals.{in-Some+in_ok-push, in_default}

pub loop-hint-preserved : goal.loop-hint-preserved
loop-hint-preserved c =
    let givens = c.args.givens.now in
    let literals = c.args.literals.now in
    let first = c.args.first in
    let hints = c.args.hints.now in
    let i = c.loop-hint.hint-index in
    let h = get_or hints i 0 in
    let places = c.loop-hint.places.items in
    subst (λ (hs : List ℕ). ArePlaces givens literals first hs c.match-place_of.places.items) (sym (take_more hints i 0 c.loop-hint-test.true))
    (elim c.match-place_of.branch [
      | in-Some+in_ok-push w ↦ subst (ArePlaces givens literals first (take i hints ++ h ∷ [])) (sym (ap (λ (v : Vec ℕ Global). v.items) w.places-is ∙ w.in_ok-push.ensures.items))
          (places_some givens literals first (take i hints) places h w.in-Some.place c.loop-hint.invariant (subst (IsPlace givens literals first h) w.in-Some.is c.place_of.ensures))
      | in_default w ↦ subst (ArePlaces givens literals first (take i hints ++ h ∷ [])) (sym (ap (λ (v : Vec ℕ Global). v.items) w.places-is))
          (places_none givens literals first (take i hints) places h c.loop-hint.invariant (subst (IsPlace givens literals first h) w.in_default.is c.place_of.ensures))
    ])
