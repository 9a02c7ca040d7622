-- Values of their types, at a place of a list.
use Rattle.std.proofs.Common.{◌≡◌, ℕ, zero, suc, ◌<◌, List, [], ◌∷◌, length, get_or, sym, subst, arith}
use Rattle.std.specs.Prelude.{map}
use Rattle.std.specs.List.{All}
use Rattle.std.proofs.lemmas.List.Elements.{All-head, All-tail}
use Rattle.ep_explain.specs.Tried.{named_clause}
use Rattle.ep_explain.specs.declared.explaining.Dropped.{Dropped}
use Rattle.ep_print.specs.Answers.{AreTyped}
use Rattle.ep_tree.specs.TypedValues.{IsOf}
use Rattle.ep_tree.specs.Views.{named_value, value_tree}
use Rattle.ep_tree.specs.declared.values.Entry.{Entry}

pub entry_at : (entries : List Entry) (k : ℕ) (e : Entry) → k < length entries → e ≡ get_or entries k e → AreTyped (map named_value entries) → IsOf e.ty (value_tree e.value)
entry_at [] k e within is typed = absurd (omega (arith, within))
entry_at (x ∷ xs) zero e within is typed =
    subst (λ (y : Entry). IsOf y.ty (value_tree y.value)) (sym is) (All-head (λ g. IsOf g.ty g.value) (named_value x) (map named_value xs) typed)
entry_at (x ∷ xs) (suc k) e within is typed =
    entry_at xs k e (omega (arith, within)) is (All-tail (λ g. IsOf g.ty g.value) (named_value x) (map named_value xs) typed)

pub clause_at : (named : List Dropped) (k : ℕ) (one : Dropped) → k < length named → one ≡ get_or named k one → All (λ one. AreTyped one.1) (map named_clause named)
    → AreTyped (map named_value one.without.entries.items)
clause_at [] k one within is typed = absurd (omega (arith, within))
clause_at (x ∷ xs) zero one within is typed =
    subst (λ (y : Dropped). AreTyped (map named_value y.without.entries.items)) (sym is) (All-head (λ one. AreTyped one.1) (named_clause x) (map named_clause xs) typed)
clause_at (x ∷ xs) (suc k) one within is typed =
    clause_at xs k one (omega (arith, within)) is (All-tail (λ one. AreTyped one.1) (named_clause x) (map named_clause xs) typed)
