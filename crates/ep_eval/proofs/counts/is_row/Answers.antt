use Rattle.ep_eval.proofs.Words.{◌≡◌, ◌+◌, ◌∷◌, ℕ, ℤ, List, drop, length, sym, ap, ◌∙◌, rules, vec_len, map, option_map, ◌||◌, drop_all, drop_more, is_row_of, same_numbers}
use Rattle.std.proofs.Common.{Vec, Global}
use Rattle.ep_eval.proofs.ListLaws.{row_begins, row_fails, row_none, row_step}
use Rattle.ep_eval.proofs.counts.is_row.Goals as goal

counted : (v : Vec ℤ Global) → vec_len v ≡ length v.items
counted v = search rules

sized : (v : Vec ℤ Global) (xs : List ℤ) (n : ℕ) → n ≡ vec_len v → n ≡ length xs → length v.items ≡ length xs
sized v xs n h k = sym (counted v) ∙ sym h ∙ k

pub loop-row-init : goal.loop-row-init
loop-row-init c = row_begins (is_row_of (map (λ v. v.items) c.args.rows.now) c.args.parts.now)

pub loop-row-preserved : goal.loop-row-preserved
loop-row-preserved c =
    let all : List (Vec ℤ Global) = c.args.rows.now in
    let k : ℕ = c.loop-row.row-index in
    let xs : List ℤ = c.args.parts.now in
    let row : Vec ℤ Global = c.row-item.result in
    let rest : List (List ℤ) = map (λ v. v.items) (drop (k + 1) all) in
    let cut : drop k all ≡ row ∷ drop (k + 1) all =
    drop_more all k row c.loop-row-test.true ∙ ap (λ r. r ∷ drop (k + 1) all) (sym c.row-item.is) in
    c.loop-row.invariant ∙ ap (λ l. option_map (λ b. c.loop-row.found || b) (is_row_of (map (λ v. v.items) l) xs)) cut
    ∙ row_step row.items rest xs c.loop-row.found (sized row xs c.len.result c.len.ensures c.if-len-parts.false)
    ∙ ap (λ f. option_map (λ b. f || b) (is_row_of rest xs))
    (ap (λ l. c.loop-row.found || same_numbers l xs) (sym c.deref.ensures.value) ∙ sym c.is_found-found.ensures)

pub returns-then-len-parts : goal.returns-then-len-parts
returns-then-len-parts c =
    let all : List (Vec ℤ Global) = c.args.rows.now in
    let k : ℕ = c.loop-row.row-index in
    let xs : List ℤ = c.args.parts.now in
    let row : Vec ℤ Global = c.row-item.result in
    let rest : List (List ℤ) = map (λ v. v.items) (drop (k + 1) all) in
    let cut : drop k all ≡ row ∷ drop (k + 1) all =
    drop_more all k row c.loop-row-test.true ∙ ap (λ r. r ∷ drop (k + 1) all) (sym c.row-item.is) in
    sym (c.loop-row.invariant ∙ ap (λ l. option_map (λ b. c.loop-row.found || b) (is_row_of (map (λ v. v.items) l) xs)) cut
    ∙ row_fails row.items rest xs c.loop-row.found (λ e. c.if-len-parts.true (c.len.ensures ∙ counted row ∙ e)))

pub returns : goal.returns
returns c =
    let all : List (Vec ℤ Global) = c.args.rows.now in
    let k : ℕ = c.loop-row.row-index in
    let xs : List ℤ = c.args.parts.now in
    sym (c.loop-row.invariant ∙ ap (λ l. option_map (λ b. c.loop-row.found || b) (is_row_of (map (λ v. v.items) l) xs)) (drop_all k all c.loop-row-test.false)
    ∙ row_none xs c.loop-row.found)
