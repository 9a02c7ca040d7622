-- What functions of several parts give, where each of these is defined.
use Rattle.std.specs.Prelude.{Option, option_and_then, option_map}

-- a function of two parts, where each is defined
unfoldable pub map_both : {A B C : Type 0} → (A → B → C) → Option A → Option B → Option C
map_both f a b = option_and_then (λ x. option_map (f x) b) a

-- what a function gives of two parts, where each is defined; the function may have no value there
unfoldable pub on_both : {A B C : Type 0} → Option A → Option B → (A → B → Option C) → Option C
on_both a b f = option_and_then (λ x. option_and_then (f x) b) a

-- the same of three parts
unfoldable pub on_three : {A B C D : Type 0} → Option A → Option B → Option C → (A → B → C → Option D) → Option D
on_three a b c f = option_and_then (λ x. on_both b c (f x)) a
