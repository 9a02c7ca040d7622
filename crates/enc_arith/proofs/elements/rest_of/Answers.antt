use Rattle.std.proofs.Common.{◌≡◌, ◌-◌, ℤ, pos, List, length, take, drop, get_or, sym, ap, ◌∙◌, w64, to_z, of_z, rules}
use Rattle.std.proofs.lemmas.Int.{to_z-of_z}
use Rattle.enc_arith.proofs.Entries.{is_equal, not_equal, rest_found, rest_other, rest_short, rest_taken}
use Rattle.enc_arith.proofs.elements.rest_of.Goals as goal

pub returns-in_default : goal.returns-in_default
returns-in_default c = rest_short c.args.number c.args.one.key.now c.args.one.part c.in_default.len_below

pub returns-then-first-number : goal.returns-then-first-number
returns-then-first-number c =
    let key : List ℤ = c.args.one.key.now in
    let first : ℤ = get_or key 0 (pos 0) in
    let same : first ≡ c.args.number = sym (to_z-of_z w64 first (search rules)) ∙ ap (to_z w64) c.if-first-number.true ∙ to_z-of_z w64 c.args.number (search rules) in
    rest_found c.args.number key (take (length key - 1) (drop 1 key)) c.args.one.part c.in-len1-up.len_at_least (is_equal first c.args.number same) (rest_taken key)

pub returns : goal.returns
returns c =
    let first : ℤ = get_or c.args.one.key.now 0 (pos 0) in
    rest_other c.args.number c.args.one.key.now c.args.one.part (not_equal first c.args.number (λ e. c.if-first-number.false (ap (of_z w64) e)))
