-- A function of two parts, where each is defined.
use Rattle.ep_eval.proofs.Words.{◌≡◌, ap, ◌∙◌, Option, Some, None, map_both}

pub both_some : {A B C : Type 0} (f : A → B → C) (a : Option A) (b : Option B) (x : A) (y : B) → a ≡ Some x → b ≡ Some y → map_both f a b ≡ Some (f x y)
unfolding map_both
both_some f a b x y p q = ap (λ o. map_both f o b) p ∙ ap (map_both f (Some x)) q

pub first_none : {A B C : Type 0} (f : A → B → C) (a : Option A) (b : Option B) → a ≡ None → map_both f a b ≡ None
unfolding map_both
first_none f a b p = ap (λ o. map_both f o b) p

pub second_none : {A B C : Type 0} (f : A → B → C) (a : Option A) (b : Option B) (x : A) → a ≡ Some x → b ≡ None → map_both f a b ≡ None
unfolding map_both
second_none f a b x p q = ap (λ o. map_both f o b) p ∙ ap (map_both f (Some x)) q
