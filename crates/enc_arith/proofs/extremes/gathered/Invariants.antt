use Rattle.std.proofs.Common.{◌≡◌, ◌<◌, ◌||◌, ℕ, ℤ, List, take}
use Rattle.std.specs.List.{All}
use Rattle.ep_flat.specs.Cons.{numbers_of_vars}
use Rattle.enc_atoms.specs.Atoms.{clause_holds}
use Rattle.enc_arith.specs.Extremes.{any_compares}
use Rattle.enc_arith.proofs.extremes.gathered.Given as goal

abbrev pub invariant-loop-x : goal.invariant-loop-x
invariant-loop-x l = record {
  means : (values : List ℤ) → clause_holds values l.atoms.items ≡ (clause_holds values l.when || any_compares l.op (numbers_of_vars values (take l.x-index l.xs)) l.number);
  names : (count : ℕ) → All (λ atom. atom.var < count) l.when → All (λ x. x < count) l.xs → All (λ atom. atom.var < count) l.atoms.items;
}
