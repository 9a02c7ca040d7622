use Rattle.std.proofs.Common.{◌≡◌, ◌↔◌, ℕ, ℤ, Bool, subst, w64, to_z, of_z, rules}
use Rattle.std.proofs.lemmas.Int.{to_z-of_z}
use Rattle.std.specs.Prelude.{IsTrue}
use Rattle.ep_base.specs.Senses.{better_number}
use Rattle.enc_var.specs.Decoding.{Means, decoded, known_holds}
use Rattle.enc_var.specs.Layouts.{literals_at}
use Rattle.ep_answer.proofs.Deciding.{not_always}
use Rattle.ep_answer.proofs.improving.better_clause.Goals as goal

pub clause_of-requires : goal.clause_of-requires
clause_of-requires c =
    let e = literals_at c.args.layout.now c.args.var in
    let best : to_z w64 (of_z w64 c.args.best) ≡ c.args.best = to_z-of_z w64 c.args.best (search rules) in
    not_always e c.args.sense c.args.best c.better.result c.requires.reached
    (subst (λ (n : ℤ). (s : ℕ → Bool) → Means s e → IsTrue (known_holds s c.better.result) ↔ IsTrue (better_number c.args.sense (decoded s e) n)) best c.better.ensures)
