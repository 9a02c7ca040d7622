use Rattle.std.proofs.Common.{◌≡◌, ℕ, ◌-◌, ◌<◌, ℤ, Bool, IsTrue, pos, [], ◌∷◌, ◌++◌, List, length, map, take, drop, get_or, refl, sym, ap, subst, ◌∙◌, w64, to_z, of_z, rules, arith}
use Rattle.std.proofs.lemmas.Int.{to_z-of_z}
use Rattle.std.specs.Prelude.{MatchOption, None, Option}
use Rattle.std.specs.List.{All}
use Rattle.std.specs.Ordering.{int_eq}
use Rattle.std.proofs.lemmas.Bool.Decides.{nat_tests}
use Rattle.std.proofs.lemmas.List.Elements.{All-drop, All-get_or, All-push}
use Rattle.ep_base.specs.Runs.{IsAscending}
use Rattle.ep_flat.specs.Cons.{number_at}
use Rattle.enc_atoms.specs.declared.atoms.Atom.{Atom}
use Rattle.enc_arith.specs.Elements.{element_value, number_of_first, rests_after}
use Rattle.enc_arith.specs.Entries.{HaveParts, plain_entry}
use Rattle.enc_arith.specs.Saying.{IsReady, or_is_not, says}
use Rattle.enc_arith.proofs.Cases.{adds_same}
use Rattle.enc_arith.proofs.Reading.{adds_key, adds_read, adds_unread, read_key, read_none, read_run}
use Rattle.enc_arith.proofs.Entries.{element_after, element_last, element_none, first_index, no_entry, no_index, part_there, rest_taken, rests_there}
use Rattle.enc_arith.proofs.elements.+add_element.Goals as goal

pub add_part-requires-clause-part : goal.add_part-requires-clause-part
add_part-requires-clause-part t c =
    subst (λ (o : Option ℕ). MatchOption o (Unit {0}) (λ x. x < length c.args.layout.now)) (sym c.whole-part.ensures) (part_there (length c.args.layout.now) (map plain_entry c.args.entries.now) [] c.requires.parts)

pub returns-in_default : goal.returns-in_default
returns-in_default t c =
    let E : List (List ℤ × ℕ) = map plain_entry c.args.entries.now in
    let v : List ℤ → ℤ = λ values. element_value values E c.args.other c.args.indices.now in
    let w : List ℤ → ℤ = λ values. number_of_first values c.whole-part.result c.args.other in
    adds_same _ _ _ c.args.when.now c.args.when.now _ _ v w c.requires.ready refl
    (λ values. element_last values E c.whole-part.result c.args.other c.args.indices.now (no_index c.args.indices.now c.in_default.len_below) c.whole-part.ensures) c.in_ok-add_part.ensures

pub returns-then-is_empty : goal.returns-then-is_empty
returns-then-is_empty t c =
    let E : List (List ℤ × ℕ) = map plain_entry c.args.entries.now in
    let none : length c.args.entries.now ≡ 0 = grind (arith, nat_tests, c.is_empty.ensures, c.if-is_empty.true) in
    let v : List ℤ → ℤ = λ values. element_value values E c.args.other c.args.indices.now in
    let w : List ℤ → ℤ = λ values. number_of_first values None c.args.other in
    adds_same _ _ _ c.args.when.now c.args.when.now _ _ v w c.requires.ready refl
    (λ values. element_none values E c.args.other c.args.indices.now (no_entry plain_entry c.args.entries.now none)) c.in_ok-add_other.ensures

pub loop-number-init : goal.loop-number-init
loop-number-init t c =
    let xs : List ℕ = c.args.indices.now in
    let later : List ℕ = take (length xs - 1) (drop 1 xs) in
    let x : ℕ = get_or xs 0 0 in
    let E : List (List ℤ × ℕ) = map plain_entry c.args.entries.now in
    let r : ℕ = c.args.target.result in
    let other : Option ℕ = c.args.other in
    let O : List ℤ → Bool = λ vs. int_eq (number_at vs r) (number_of_first vs None other) in
    let P : List ℤ → ℤ → Bool = λ vs n. int_eq (number_at vs r) (element_value vs (rests_after n E) other later) in
    let ns : List ℤ = c.as_slice-number-items.result.now in (
      adds_unread c.args.layout.now c.args.f.now x (λ values. IsTrue (says values c.args.when.now c.args.target.truth (P values (number_at values x)))) c.requires.ready,
      read_none E ns,
    )

pub loop-number-preserved-then-is_empty-2 : goal.loop-number-preserved-then-is_empty-2
loop-number-preserved-then-is_empty-2 t c =
    let xs : List ℕ = c.args.indices.now in
    let later : List ℕ = take (length xs - 1) (drop 1 xs) in
    let x : ℕ = get_or xs 0 0 in
    let E : List (List ℤ × ℕ) = map plain_entry c.args.entries.now in
    let r : ℕ = c.args.target.result in
    let other : Option ℕ = c.args.other in
    let O : List ℤ → Bool = λ vs. int_eq (number_at vs r) (number_of_first vs None other) in
    let P : List ℤ → ℤ → Bool = λ vs n. int_eq (number_at vs r) (element_value vs (rests_after n E) other later) in
    let ns : List ℤ = c.as_slice-number-items.result.now in
    let items : ns ≡ c.domain-domain.result.now = c.as_slice-number-items.ensures.value ∙ c.in_ok-numbers.ensures in
    let ascending : IsAscending ns = subst IsAscending (sym items) c.runs_ascend.ensures in
    let n : ℤ = get_or ns c.loop-number.number-index (pos 0) in
    let N : ℤ = to_z w64 (of_z w64 n) in
    let word : N ≡ n = to_z-of_z w64 n (search rules) in
    let none : rests_after N E ≡ [] = sym c.in_ok-left.ensures ∙ no_entry plain_entry c.in_ok-left.left.items (grind (arith, nat_tests, c.is_empty-in-loop-number.ensures, c.if-is_empty-2.true)) in
    (c.loop-number.invariant.0, read_run E ns c.loop-number.number-index c.loop-number.above c.loop-number.last N ascending c.loop-number-test.true word none c.loop-number.invariant.1)

pub add_run-requires : goal.add_run-requires
add_run-requires t c = record {
  ready = record { from_new = c.loop-number.invariant.0.goes_on.from_new; is_layout = c.loop-number.invariant.0.goes_on.is_layout };
  names = c.requires.names;
  there = c.requires.there;
  other = c.requires.other;
  index = All-get_or (λ (x : ℕ). x < length c.args.layout.now) c.args.indices.now 0 0 c.in-len1-up.len_at_least c.requires.indices;
}

pub add_element-requires : goal.add_element-requires
add_element-requires t c =
    let xs : List ℕ = c.args.indices.now in
    let later : List ℕ = take (length xs - 1) (drop 1 xs) in
    let count : ℕ = length c.args.layout.now in
    let cut : xs ≡ get_or xs 0 0 ∷ later = first_index xs later 0 c.in-len1-up.len_at_least (rest_taken xs) in
    let long : length xs ≡ length (get_or xs 0 0 ∷ later) = ap length cut in
    let low : get_or xs 0 0 < count = All-get_or (λ (x : ℕ). x < count) xs 0 0 c.in-len1-up.len_at_least c.requires.indices in
    let n : ℤ = get_or c.as_slice-number-items.result.now c.loop-number.number-index (pos 0) in (
      omega (arith, long, c.decreases),
      (
        record { from_new = c.in_ok-add_run.ensures.goes_on.from_new; is_layout = c.in_ok-add_run.ensures.goes_on.is_layout },
        (
          subst (All (λ (a : Atom). a.var < count)) (sym (c.as_slice.ensures.value ∙ c.in_ok-push.ensures.items ∙ ap (λ (es : List Atom). es ++ c.is_not.result ∷ []) c.in_ok-atoms.ensures.items))
              (All-push (λ (a : Atom). a.var < count) c.args.when.now c.is_not.result c.requires.names (subst (λ (a : Atom). a.var < count) (sym c.is_not.ensures) low)),
          (
            c.requires.there,
            (
              subst (HaveParts count) (sym (ap (map plain_entry) c.as_slice-in-loop-number.ensures.value ∙ c.in_ok-left.ensures)) (rests_there count _ (map plain_entry c.args.entries.now) c.requires.parts),
              (
                c.requires.other,
                subst (All (λ (x : ℕ). x < count)) (sym (rest_taken xs)) (All-drop (λ (x : ℕ). x < count) 1 xs c.requires.indices),
              ),
            ),
          ),
        ),
      ),
    )

pub loop-number-preserved : goal.loop-number-preserved
loop-number-preserved t c =
    let xs : List ℕ = c.args.indices.now in
    let later : List ℕ = take (length xs - 1) (drop 1 xs) in
    let x : ℕ = get_or xs 0 0 in
    let E : List (List ℤ × ℕ) = map plain_entry c.args.entries.now in
    let r : ℕ = c.args.target.result in
    let other : Option ℕ = c.args.other in
    let O : List ℤ → Bool = λ vs. int_eq (number_at vs r) (number_of_first vs None other) in
    let P : List ℤ → ℤ → Bool = λ vs n. int_eq (number_at vs r) (element_value vs (rests_after n E) other later) in
    let ns : List ℤ = c.as_slice-number-items.result.now in
    let items : ns ≡ c.domain-domain.result.now = c.as_slice-number-items.ensures.value ∙ c.in_ok-numbers.ensures in
    let ascending : IsAscending ns = subst IsAscending (sym items) c.runs_ascend.ensures in
    let n : ℤ = get_or ns c.loop-number.number-index (pos 0) in
    let N : ℤ = to_z w64 (of_z w64 n) in
    let word : N ≡ n = to_z-of_z w64 n (search rules) in
    let count : ℕ = length c.args.layout.now in
    let low : x < count = All-get_or (λ (x : ℕ). x < count) xs 0 0 c.in-len1-up.len_at_least c.requires.indices in
    let ready : IsReady c.args.layout.now c.add_run.new.f = record { from_new = c.in_ok-add_run.ensures.goes_on.from_new; is_layout = c.in_ok-add_run.ensures.goes_on.is_layout } in
    let atoms : c.as_slice.result.now ≡ or_is_not c.args.when.now x N =
    c.as_slice.ensures.value ∙ c.in_ok-push.ensures.items ∙ ap (λ (es : List Atom). es ++ c.is_not.result ∷ []) c.in_ok-atoms.ensures.items
    ∙ ap (λ (a : Atom). c.args.when.now ++ a ∷ []) c.is_not.ensures in
    let v : List ℤ → ℤ = λ values. element_value values (rests_after N E) other later in
    let w : List ℤ → ℤ = λ values. element_value values (map plain_entry c.as_slice-in-loop-number.result.now) other later in
    let left : map plain_entry c.as_slice-in-loop-number.result.now ≡ rests_after N E = ap (map plain_entry) c.as_slice-in-loop-number.ensures.value ∙ c.in_ok-left.ensures in (
      adds_key c.args.layout.now c.args.f.now c.loop-number.f c.add_run.new.f c.add_element.new.f c.args.when.now x c.args.target.truth O P E ns c.loop-number.number-index c.loop-number.above c.loop-number.last N c.requires.ready low
          (items ∙ c.domain-domain.ensures) ascending c.loop-number-test.true word c.loop-number.invariant.1 (λ values m none. ap (int_eq (number_at values r)) (element_none values (rests_after m E) other later none))
          c.loop-number.invariant.0 c.in_ok-add_run.ensures
          (adds_same c.args.layout.now c.add_run.new.f c.add_element.new.f (or_is_not c.args.when.now x N) c.as_slice.result.now c.args.target.truth r v w ready atoms
          (λ values. ap (λ es. element_value values es other later) left) c.in_ok-add_element.ensures),
      read_key E ns c.loop-number.number-index N ascending c.loop-number-test.true word,
    )

pub returns : goal.returns
returns t c =
    let xs : List ℕ = c.args.indices.now in
    let later : List ℕ = take (length xs - 1) (drop 1 xs) in
    let x : ℕ = get_or xs 0 0 in
    let E : List (List ℤ × ℕ) = map plain_entry c.args.entries.now in
    let r : ℕ = c.args.target.result in
    let other : Option ℕ = c.args.other in
    let O : List ℤ → Bool = λ vs. int_eq (number_at vs r) (number_of_first vs None other) in
    let P : List ℤ → ℤ → Bool = λ vs n. int_eq (number_at vs r) (element_value vs (rests_after n E) other later) in
    let ns : List ℤ = c.as_slice-number-items.result.now in
    let items : ns ≡ c.domain-domain.result.now = c.as_slice-number-items.ensures.value ∙ c.in_ok-numbers.ensures in
    let ascending : IsAscending ns = subst IsAscending (sym items) c.runs_ascend.ensures in
    let count : ℕ = length c.args.layout.now in
    let low : x < count = All-get_or (λ (x : ℕ). x < count) xs 0 0 c.in-len1-up.len_at_least c.requires.indices in
    let cut : xs ≡ x ∷ later = first_index xs later 0 c.in-len1-up.len_at_least (rest_taken xs) in
    let v : List ℤ → ℤ = λ values. element_value values E other xs in
    let w : List ℤ → ℤ = λ values. element_value values (rests_after (number_at values x) E) other later in
    adds_same c.args.layout.now c.args.f.now c.add_run-2.new.f c.args.when.now c.args.when.now c.args.target.truth r v w c.requires.ready refl
    (λ values. element_after values E other x later xs cut)
    (adds_read c.args.layout.now c.args.f.now c.loop-number.f c.add_run-2.new.f c.args.when.now x c.args.target.truth O P E ns c.loop-number.number-index c.loop-number.above c.loop-number.last c.requires.ready low
    (items ∙ c.domain-domain.ensures) c.loop-number-test.false c.loop-number.invariant.1 (λ values m none. ap (int_eq (number_at values r)) (element_none values (rests_after m E) other later none))
    c.loop-number.invariant.0 c.in_ok-add_run-2.ensures)
