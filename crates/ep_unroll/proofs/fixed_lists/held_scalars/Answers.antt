use Rattle.ep_unroll.proofs.Words.{◌≡◌, ◌∷◌, ◌++◌, [], ℤ, sym, ap, subst, ◌∙◌, w64, to_z, of_z, rules, IfOk, to_z-of_z, scalars_of, scalars_single, held_value}
use Rattle.ep_unroll.proofs.fixed_lists.held_scalars.Goals as goal

pub returns-in_ok-push-in-Number : goal.returns-in_ok-push-in-Number
unfolding held_value
returns-in_ok-push-in-Number c =
    let n : ℤ = c.in-Number.number in
    let word : to_z w64 (of_z w64 n) ≡ n = to_z-of_z w64 n (search rules) in
    c.in_ok-push-in-Number.ensures.items ∙ ap (λ l. l ++ to_z w64 (of_z w64 n) ∷ []) c.new-parts.ensures.items
    ∙ ap (λ m. m ∷ []) word ∙ sym (scalars_single n) ∙ ap (λ v. scalars_of (held_value v)) (sym c.in-Number.is)

pub returns-in-Lent : goal.returns-in-Lent
unfolding held_value
returns-in-Lent c = subst (λ v. IfOk c.plain_scalars.result (λ parts. parts.items ≡ scalars_of (held_value v))) (sym c.in-Lent.is) c.plain_scalars.ensures

pub returns-in-Made : goal.returns-in-Made
unfolding held_value
returns-in-Made c = subst (λ v. IfOk c.plain_scalars-in-Made.result (λ parts. parts.items ≡ scalars_of (held_value v))) (sym c.in-Made.is) c.plain_scalars-in-Made.ensures
