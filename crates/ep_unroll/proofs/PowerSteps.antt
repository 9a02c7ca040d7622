-- Powers of terms.
use Rattle.ep_unroll.proofs.Words.{◌≡◌, ℕ, ◌<ℤ◌, ℤ, pos, negsuc, List, Some, None, refl, sym, ap, ◌∙◌, arith, Option, option_and_then, option_map, ints, nth_power, on_both, Place, GroundNode, node_value, term_value, evaluate-binary, Env, binary_number, binary_value, evaluate, joins_truths, number_in, ExprTree, binary, single, BinaryOp, Mode, Puts, IsNumberOf, IsTermOf, IsPower, Numbering}
use Rattle.ep_base.specs.Numbers as numbers
use Rattle.ep_ground.specs.Nodes as node
use Rattle.ep_unroll.proofs.FormValues.{grows_on}

-- ---- a term to the power of an exponent

no_power : (e : ℤ) → e <ℤ pos 0 → (o : Option ℤ) → None ≡ option_and_then (λ x. numbers.power x e) o
unfolding numbers.power
no_power e less None = refl
no_power (pos n) less (Some x) = absurd (omega (arith, ints, less))
no_power (negsuc n) less (Some x) = refl

pub power_below : (old new : List GroundNode) (a t : ℕ) (e : ℤ) → e <ℤ pos 0 → Puts old new node.undefined t → IsPower old new a e t
unfolding node_value
power_below old new a t e less put = record { grows = put.grows; known = put.known; value = λ ns. put.value ns ∙ no_power e less (term_value old ns a) }

power_is : (n : ℕ) (o : Option ℤ) → option_map (λ x. nth_power x n) o ≡ option_and_then (λ x. numbers.power x (pos n)) o
unfolding numbers.power
power_is n None = refl
power_is n (Some x) = refl

pub power_put : (old new : List GroundNode) (a n t : ℕ) (e : ℤ) → pos n ≡ e → Puts old new (node.power a n) t → ((ns : List ℤ) → term_value new ns a ≡ term_value old ns a) → IsPower old new a e t
unfolding node_value
power_put old new a n t e is put kept = record {
  grows = put.grows;
  known = put.known;
  value = λ ns.
      put.value ns ∙ ap (option_map (λ x. nth_power x n)) (kept ns) ∙ power_is n (term_value old ns a)
      ∙ ap (λ k. option_and_then (λ x. numbers.power x k) (term_value old ns a)) is;
}

-- ---- `**`

power_value : (mode : Mode) (o : Option ℤ) (e : ℤ) → binary_value mode BinaryOp.Pow o (Some e) ≡ option_map single (option_and_then (λ x. numbers.power x e) o)
unfolding binary_value binary_number joins_truths on_both
power_value mode None e = refl
power_value mode (Some x) e = refl

power_without : (mode : Mode) (o : Option ℤ) → binary_value mode BinaryOp.Pow o None ≡ option_map single None
unfolding binary_value binary_number joins_truths on_both
power_without mode None = refl
power_without mode (Some x) = refl

pub power_term : (n : Numbering) (cells : Env) (nodes mid new : List GroundNode) (p : Place) (e f : ExprTree) (a b t : ℕ) (k : ℤ)
    → IsNumberOf n cells nodes mid e a → IsNumberOf n cells nodes mid f b → ((ns : List ℤ) → term_value mid ns b ≡ Some k) → IsPower mid new a k t
    → IsTermOf n cells nodes new (binary p BinaryOp.Pow e f) t
power_term n cells nodes mid new p e f a b t k h h' always has = record {
  grows = grows_on nodes mid new h.grows has.grows;
  known = has.known;
  value = λ r.
      evaluate-binary n.mode r.values p BinaryOp.Pow e f
      ∙ ap (binary_value n.mode BinaryOp.Pow (number_in (evaluate n.mode r.values e))) (sym (h'.number r) ∙ always r.numbers)
      ∙ power_value n.mode (number_in (evaluate n.mode r.values e)) k
      ∙ ap (λ o. option_map single (option_and_then (λ x. numbers.power x k) o)) (sym (h.number r))
      ∙ ap (option_map single) (sym (has.value r.numbers));
}

pub power_undefined : (n : Numbering) (cells : Env) (nodes mid new : List GroundNode) (p : Place) (e f : ExprTree) (b t : ℕ)
    → IsNumberOf n cells nodes mid f b → ((ns : List ℤ) → term_value mid ns b ≡ None) → Puts mid new node.undefined t → IsTermOf n cells nodes new (binary p BinaryOp.Pow e f) t
unfolding node_value
power_undefined n cells nodes mid new p e f b t h never put = record {
  grows = grows_on nodes mid new h.grows put.grows;
  known = put.known;
  value = λ r.
      evaluate-binary n.mode r.values p BinaryOp.Pow e f
      ∙ ap (binary_value n.mode BinaryOp.Pow (number_in (evaluate n.mode r.values e))) (sym (h.number r) ∙ never r.numbers)
      ∙ power_without n.mode (number_in (evaluate n.mode r.values e))
      ∙ ap (option_map single) (sym (put.value r.numbers));
}
