use Rattle.std.proofs.Common.{◌≡◌, ℕ, ◌+◌, ◌-◌, ◌<◌, ◌≤◌, ◌^◌, List, [], ◌∷◌, ◌++◌, min, map, length, sym, ap, subst, ◌∙◌, arith, vec_capacity}
use Rattle.cnf_core.specs.Literal.{Literal}
use Rattle.sat_state.specs.Rowed.{Rowed}
use Rattle.sat_state.specs.RowsInside.{literals_of_row}
use Rattle.sat_state.specs.declared.rows.Row.{Row}
use Rattle.sat_state.proofs.RowsKept.{fits_end, rows_push}
use Rattle.sat_state.proofs.rows.Rows.push.Goals as goal

pub overflow_cast-start : goal.overflow_cast-start
overflow_cast-start c = omega (arith, c.len-start.ensures, c.self.inside.lits.ok.0, c.self.invariant.few)

pub overflow_cast-end : goal.overflow_cast-end
overflow_cast-end c =
    let count = length c.args.lits.now in
    let start = length c.self.inside.lits.items in
    let room = vec_capacity c.self.inside.lits - start in
    let spare : count ≤ min room (2 ^ 32 - 1 - start) = subst (λ (n : ℕ). count ≤ n) (sym (ap (λ (r : Rowed). r.spare) c.self.view_is)) c.requires.spare in
    let end : start + count < 2 ^ 32 = fits_end start count room c.self.invariant.few spare in
    omega (arith, c.len-start.ensures, c.self.inside.lits.ok.0, end)

pub returns : goal.returns
returns c =
    let literals = c.self.inside.lits.items in
    let others = c.args.lits.now in
    let rows = c.self.inside.rows.items in
    let start : c.len-start.result ≡ length literals = c.len-start.ensures ∙ c.self.inside.lits.ok.0 in
    let all : c.append.new.kept.items ≡ literals ++ others
    = c.append.ensures.items in
    ap (λ (ls : List Literal). map (literals_of_row ls) c.push_reserved.new.self.items) all
    ∙ ap (λ (rs : List Row). map (literals_of_row (literals ++ others)) rs) c.push_reserved.ensures.items
    ∙ rows_push literals others rows _ start (ap (λ (n : ℕ). n + length others) start) c.self.invariant.inside
    ∙ ap (λ (r : Rowed). r.lists ++ others ∷ []) c.self.view_is
