use Rattle.ep_unroll.proofs.Words.{ap, sym, subst, ◌∷◌, length, ◌<◌, pos, [], ◌≡◌, ◌∙◌, List, refl, map, ℤ, ℕ, All, sum, Puts}
use Rattle.ep_ground.specs.Nodes.{parts_of}
use Rattle.ep_unroll.proofs.FormValues.{if_ok}
use Rattle.ep_unroll.proofs.quantifiers.sum_term.Goals as goal

terms_again : (ts : List ℕ) → map {A = ℤ × ℕ} (λ p. p.1) (map {B = ℤ × ℕ} (λ t. (pos 1, t)) ts) ≡ ts
terms_again [] = refl
terms_again (t ∷ ts) = ap (λ xs. t ∷ xs) (terms_again ts)

pub put-requires : goal.put-requires
unfolding parts_of
put-requires c =
    subst (All (λ part. part < length c.args.arena.now))
    (sym (ap (map {A = ℤ × ℕ} (λ p. p.1)) (c.in_ok-parts.ensures ∙ ap (map {B = ℤ × ℕ} (λ t. (pos 1, t))) c.deref.ensures.value) ∙ terms_again c.args.terms.items)) c.requires

pub returns : goal.returns
returns c =
    if_ok c.put.result _ _
    (λ t put. subst (λ ps. Puts c.args.arena.now c.put.new.arena (sum (pos 0) ps) t) (c.in_ok-parts.ensures ∙ ap (map {B = ℤ × ℕ} (λ u. (pos 1, u))) c.deref.ensures.value) put) c.put.ensures
