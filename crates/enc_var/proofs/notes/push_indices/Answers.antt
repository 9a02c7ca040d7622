use Rattle.std.proofs.Common.{rules, ◌≡◌, ℤ, pos, get_or, w64, to_z, of_z}
use Rattle.enc_var.proofs.Noting.{brackets_of, no_brackets}
use Rattle.enc_var.proofs.notes.push_indices.Goals as goal

pub returns-in_default : goal.returns-in_default
returns-in_default c = no_brackets c.args.text.now.items c.args.indices.now c.in_default.len_below

pub returns : goal.returns
returns c =
    let first : ℤ = get_or c.args.indices.now 0 (pos 0) in
    let fits : to_z w64 (of_z w64 first) ≡ first = search rules in
    brackets_of c.args.text.now.items _ _ _ _ (to_z w64 (of_z w64 first)) c.args.indices.now c.in-len1-up.len_at_least fits c.in_ok-push.ensures.items c.in_ok-push_number.ensures c.in_ok-push_more.ensures c.in_ok-push-2.ensures.items
