-- What an outcome that is well came of.
use Rattle.std.proofs.Common.{◌≡◌, ◌∙◌, List, [], ◌∷◌, Ok, Err, Result, refl, sym, ap}
use Rattle.ep_print.specs.declared.refusals.Refusal.{Refusal}
use Rattle.ep_tree.specs.Binding.{Instance, Refusal as BindRefusal, bind}
use Rattle.ep_tree.specs.Statements.{TextTree}
use Rattle.ep_tree.specs.declared.values.Mode.{Mode}
use Rattle.ep_driver.specs.Outcomes.{Outcome, and_then, as_outcome, bound_outcome, instance_of, unless_refused}

pub ok_is : {A E : Type 0} {x y : A} → ◌≡◌ {A = Result A E} (Ok x) (Ok y) → x ≡ y
ok_is e = cc

pub never_refused : {A E B : Type 0} {x : A} {e : E} → ◌≡◌ {A = Result A E} (Ok x) (Err e) → B
never_refused e = absurd cc

pub unless_ok : {A : Type 0} (rs : List Refusal) (outcome : Outcome A) (x : A) → unless_refused rs outcome ≡ Ok x → outcome ≡ Ok x
unfolding unless_refused
unless_ok [] outcome x e = e
unless_ok (r ∷ rs) outcome x e = never_refused (sym e)

pub then_ok : {A B : Type 0} (outcome : Outcome A) (next : A → Outcome B) (y : B) → and_then outcome next ≡ Ok y → (x : A) × (outcome ≡ Ok x) × (next x ≡ Ok y)
unfolding and_then
then_ok (Ok x) next y e = (x, refl, e)
then_ok (Err rs) next y e = never_refused (sym e)

pub as_ok : {A : Type 0} (bound : Result A (List BindRefusal)) (x : A) → as_outcome bound ≡ Ok x → bound ≡ Ok x
unfolding as_outcome
as_ok (Ok y) x e = ap Ok (ok_is e)
as_ok (Err rs) x e = never_refused (sym e)

-- an instance was bound
pub bound_ok : (mode : Mode) (m p : TextTree) (i : Instance) → instance_of mode m p ≡ Ok i → bind mode m p ≡ Ok i
unfolding instance_of
bound_ok mode m p i e =
    let bound : _ = then_ok (bound_outcome mode m p) _ i e in
    as_ok (bind mode m p) i (bound.1 ∙ unless_ok _ (Ok bound.0) i bound.2)
