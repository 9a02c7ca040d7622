use Rattle.std.proofs.Common.{◌-◌, ℤ, pos, length, sym, subst, w64, to_z, of_z, rules}
use Rattle.std.proofs.lemmas.Int.{to_z-of_z}
use Rattle.std.specs.Prelude.{slice_index_or}
use Rattle.ep_base.specs.Runs.{numbers}
use Rattle.ep_base.specs.declared.run_lists.Run.{Run}
use Rattle.ep_answer.specs.Searches.{AreWithin}
use Rattle.ep_answer.proofs.Deciding.{none_within, within_ends, zero_is, zero_isnt}
use Rattle.ep_answer.proofs.decoding.hull.Goals as goal

pub returns-then-is_empty : goal.returns-then-is_empty
returns-then-is_empty c = λ v found. absurd (none_within c.args.runs.now (zero_is (length c.args.runs.now) c.if-is_empty.ensures) v found)

pub returns : goal.returns
returns c =
    let runs = c.args.runs.now in
    let none : Run = record { lo = pos 0; hi = pos 0 } in
    let lo : ℤ = (slice_index_or runs 0 none).lo in
    let hi : ℤ = (slice_index_or runs (length runs - 1) none).hi in
    subst (λ (n : ℤ). AreWithin (numbers runs) (record { lo = n; hi = to_z w64 (of_z w64 hi) })) (sym (to_z-of_z w64 lo (search rules)))
    (subst (λ (n : ℤ). AreWithin (numbers runs) (record { lo = lo; hi = n })) (sym (to_z-of_z w64 hi (search rules)))
    (within_ends runs none c.requires (zero_isnt (length runs) c.if-is_empty.ensures)))
