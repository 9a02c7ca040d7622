use Rattle.std.proofs.Common.{◌≡◌, ℕ, ◌||◌, ℤ, [], ◌∷◌, List, ap, ◌∙◌, w64, to_z, of_z, rules}
use Rattle.std.proofs.lemmas.Int.{to_z-of_z}
use Rattle.ep_flat.specs.Cons.{numbers_of_vars}
use Rattle.enc_atoms.specs.Atoms.{clause_holds}
use Rattle.enc_atoms.specs.declared.atoms.Atom.{Atom}
use Rattle.enc_arith.specs.Extremes.{any_compares, within_of}
use Rattle.enc_arith.proofs.Cases.{is_not_atom}
use Rattle.enc_arith.proofs.Whether.{adds_is_extreme}
use Rattle.enc_arith.proofs.extremes.add_whether.Goals as goal
use Rattle.ep_base.specs.Numbers.{contrary_comparison}

pub returns : goal.returns
returns c =
    let w : ℤ = c.args.number in
    let r : ℕ = c.args.r in
    let t : ℕ = c.args.truth in
    let xs : List ℕ = c.args.xs.now in
    let word : to_z w64 (of_z w64 w) ≡ w = to_z-of_z w64 w (search rules) in
    adds_is_extreme _ _ _ _ _ c.args.side xs r t w (to_z w64 (of_z w64 w)) (c.is_not.result ∷ c.is.result ∷ []) (c.is_not-2.result ∷ c.is-2.result ∷ []) c.as_slice.result.now
    c.within-within.result c.reached-reached.result c.contrary-before.result c.requires.ready word
    (ap (λ (a : Atom). a ∷ c.is.result ∷ []) (c.is_not.ensures ∙ ap (is_not_atom r) word) ∙ ap (λ (a : Atom). is_not_atom r w ∷ a ∷ []) c.is.ensures)
    (ap (λ (a : Atom). a ∷ c.is-2.result ∷ []) (c.is_not-2.ensures ∙ ap (is_not_atom r) word) ∙ ap (λ (a : Atom). is_not_atom r w ∷ a ∷ []) c.is-2.ensures)
    c.within-within.ensures c.reached-reached.ensures (c.contrary-before.ensures ∙ ap contrary_comparison c.reached-reached.ensures)
    (λ values. ap (clause_holds values) c.as_slice.ensures.value ∙ c.in_ok-beyond.ensures.means values
    ∙ ap (λ o. clause_holds values (c.is_not-2.result ∷ c.is-2.result ∷ []) || any_compares o (numbers_of_vars values xs) (to_z w64 (of_z w64 w))) (c.contrary-past.ensures ∙ ap contrary_comparison c.within-within.ensures)
    ∙ ap (λ n. clause_holds values (c.is_not-2.result ∷ c.is-2.result ∷ []) || any_compares (contrary_comparison (within_of c.args.side)) (numbers_of_vars values xs) n) word)
    c.in_ok-add_each.ensures c.in_ok-add_some.ensures c.in_ok-add_each-2.ensures
