-- Functions of parts that may have no value.
use Rattle.ep_eval.proofs.Words.{◌≡◌, ap, ◌∙◌, Option, Some, None, on_both, on_three}

pub on_some : {A B C : Type 0} (a : Option A) (b : Option B) (f : A → B → Option C) (x : A) (y : B) → a ≡ Some x → b ≡ Some y → on_both a b f ≡ f x y
unfolding on_both
on_some a b f x y p q = ap (λ o. on_both o b f) p ∙ ap (λ o. on_both (Some x) o f) q

pub on_first_none : {A B C : Type 0} (a : Option A) (b : Option B) (f : A → B → Option C) → a ≡ None → on_both a b f ≡ None
unfolding on_both
on_first_none a b f p = ap (λ o. on_both o b f) p

pub on_second_none : {A B C : Type 0} (a : Option A) (b : Option B) (f : A → B → Option C) (x : A) → a ≡ Some x → b ≡ None → on_both a b f ≡ None
unfolding on_both
on_second_none a b f x p q = ap (λ o. on_both o b f) p ∙ ap (λ o. on_both (Some x) o f) q

pub three_some : {A B C D : Type 0} (a : Option A) (b : Option B) (c : Option C) (f : A → B → C → Option D) (x : A) → a ≡ Some x → on_three a b c f ≡ on_both b c (f x)
unfolding on_three
three_some a b c f x p = ap (λ o. on_three o b c f) p

pub three_none : {A B C D : Type 0} (a : Option A) (b : Option B) (c : Option C) (f : A → B → C → Option D) → a ≡ None → on_three a b c f ≡ None
unfolding on_three
three_none a b c f p = ap (λ o. on_three o b c f) p
