use Rattle.ep_unroll.proofs.Words.{refl, env_in, mode_in, numbering_of, AreTerms, worth, Cells}
use Rattle.ep_unroll.proofs.PartSteps.{stands_means}
use Rattle.ep_unroll.proofs.named.named_cells.Goals as goal

pub returns : goal.returns
unfolding worth AreTerms
returns c nodes p =
    let block = c.in_ok-block.block in
    stands_means (numbering_of (mode_in c.args.scope) c.args.table.now) (env_in c.args.scope) nodes p c.args.name.now block.first block.domains.now (Cells block.first block.domains) c.in_ok-block.ensures (λ numbers. refl) tt
