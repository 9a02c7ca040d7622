use Rattle.std.proofs.Common.{◌∙◌, pos, [], ◌∷◌, ap}
use Rattle.std.proofs.lemmas.Result.{on_ok_weaker}
use Rattle.ep_flat.specs.Cons.{number_at}
use Rattle.enc_atoms.proofs.Guards.{clause_says}
use Rattle.enc_atoms.proofs.Meanings.{decided_says}
use Rattle.enc_atoms.specs.Steps.{IsTruth, is}
use Rattle.enc_atoms.proofs.pairs.add_decided.Goals as goal

pub returns : goal.returns
returns c =
    let t = c.args.truth in
    on_ok_weaker c.add_clause.result
    (clause_says c.args.layout.now c.args.f.now c.add_clause.new.f (c.is.result ∷ c.is-2.result ∷ []) (is t (pos 0) ∷ is t (pos 1) ∷ []) (λ values. IsTruth (number_at values t)) c.requires.ready.is_layout
    (ap (λ a. a ∷ c.is-2.result ∷ []) c.is.ensures ∙ ap (λ a. is t (pos 0) ∷ a ∷ []) c.is-2.ensures)
    (λ values. decided_says values t))
    c.add_clause.ensures
