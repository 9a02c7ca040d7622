use Rattle.std.proofs.Common.{ℕ, Bool, true, List, map, set, eqb, refl, ap, ◌∙◌}
use Rattle.std.proofs.lemmas.Bool.{eq-eqb}
use Rattle.std.proofs.lemmas.List.{map-set}
use Rattle.sat_search.proofs.marks.Marks.mark.Goals as goal

pub returns-then-place-len : goal.returns-then-place-len
returns-then-place-len c =
    let a = c.self.inside in
    let test = λ (s : ℕ). eqb s a.stamp in
    map-set test a.stamps.items c.args.var a.stamp
    ∙ ap (λ (b : Bool). set (map test a.stamps.items) c.args.var b) (eq-eqb a.stamp a.stamp refl)
    ∙ ap (λ (marks : List Bool). set marks c.args.var true) c.self.view_is
