use Rattle.std.proofs.Common.{◌∙◌, ℕ, Option, [], ap, sym}
use Rattle.std.proofs.lemmas.Result.{IfOk-weaker}
use Rattle.enc_count.specs.Counts.{counted_parts}
use Rattle.enc_count.proofs.counts.minus.Goals as goal

pub returns-in-None : goal.returns-in-None
unfolding counted_parts
returns-in-None c = c.new.ensures.items ∙ sym (ap (λ (v : Option ℕ). counted_parts v []) c.in-None.is)

pub returns-in-Some : goal.returns-in-Some
returns-in-Some c =
    IfOk-weaker c.minus_one.result _ _
    (λ parts h. h ∙ sym (ap (λ (v : Option ℕ). counted_parts v []) c.in-Some.is)) c.minus_one.ensures
