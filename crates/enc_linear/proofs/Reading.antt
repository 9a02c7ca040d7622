-- What atoms say of the number of a source: of a variable, and of a ladder.
use Rattle.std.proofs.Common.{◌≡◌, ◌≢◌, ◌⊎◌, inl, inr, ◌↔◌, ℕ, ◌+◌, ◌<◌, ◌≤◌, ℤ, pos, negsuc, ◌-ℤ◌, ◌<ℤ◌, ◌≤ℤ◌, int_lt, false, IsTrue, List, [], ◌∷◌, ◌++◌, get_or, refl, sym, ap, subst, ◌∙◌, arith}
use Rattle.std.specs.Prelude.{nat_abs}
use Rattle.std.proofs.lemmas.Int.{by_lt_z, ints}
use Rattle.ep_flat.specs.Cons.{number_at}
use Rattle.enc_atoms.specs.Atoms.{atom_holds, clause_holds, test_holds}
use Rattle.enc_atoms.specs.declared.atoms.Atom.{Atom}
use Rattle.enc_atoms.specs.declared.atoms.Test.{Test}
use Rattle.enc_linear.proofs.Heights.{at_height, height_low, length_rungs, none_more, rung_at}
use Rattle.enc_linear.proofs.Saying.{names_more, says_other, with_these}
use Rattle.enc_linear.specs.declared.sources.Ladder.{Ladder}
use Rattle.enc_linear.specs.declared.sources.Source.{Source}
use Rattle.enc_linear.specs.declared.sources.Source.TheVariants as source
use Rattle.enc_linear.specs.Sources.{AreGuardsOrOther, IsLadder, IsSourceBelow, IsWhole, SaysAbove, SaysAtMost, source_number, rungs_of}
use Rattle.enc_var.proofs.Counts.{is_at_most, is_below}

abbrev pub an_atom : ℕ → Test → ℤ → Atom
an_atom x test v = record { var = x; test = test; value = v }

tests_at_most : (v x : ℤ) → IsTrue (test_holds Test.AtMost v x) ↔ (x ≤ℤ v)
unfolding test_holds
tests_at_most v x = (λ h. omega (arith, ints, h), λ h. is_at_most x v h)

tests_above : (v x : ℤ) → IsTrue (test_holds Test.Above v x) ↔ (v <ℤ x)
unfolding test_holds
tests_above v x = (λ h. omega (arith, ints, h), λ h. is_below v x h)

-- such an atom holds exactly where the number is at most that
pub said_at_most : (from : Source) (most : ℤ) (atom : Atom) (values : List ℤ) (n : ℕ) → SaysAtMost from most atom → IsSourceBelow n from → IsWhole values from → IsTrue (atom_holds values atom) ↔ (source_number values from ≤ℤ most)
unfolding atom_holds
said_at_most from most atom values n says low whole =
    let t = says.tells values n low whole in
    let x : ℤ = number_at values atom.var in
    let a = tests_at_most atom.value x in (
      λ h. t.0 (a.0 (subst (λ (test : Test). IsTrue (test_holds test atom.value x)) says.test h)),
      λ h. subst (λ (test : Test). IsTrue (test_holds test atom.value x)) (sym says.test) (a.1 (t.1 h)),
    )

-- of a variable
pub variable_at_most : (x : ℕ) (most v : ℤ) (atom : Atom) → atom ≡ an_atom x Test.AtMost v → v ≡ most → SaysAtMost (source.Variable x) most atom
unfolding source_number
variable_at_most x most v atom made is =
    subst (λ (a : Atom). SaysAtMost (source.Variable x) most a) (sym made) (record {
      test = refl;
      names = λ n low. low;
      tells = λ values n low whole. (λ h. omega (arith, ints, h, is), λ h. omega (arith, ints, h, is));
    })

-- of a ladder: never, always, and by one of its variables
pub never_so_low : (ladder : Ladder) (most v : ℤ) (atom : Atom) → atom ≡ an_atom ladder.first Test.AtMost v → v <ℤ pos 0 → most <ℤ pos 0 → SaysAtMost (source.Ladder ladder) most atom
unfolding source_number
never_so_low ladder most v atom made negative low =
    subst (λ (a : Atom). SaysAtMost (source.Ladder ladder) most a) (sym made) (record {
      test = refl;
      names = λ n below. let many = below.0 in let within = below.1 in omega (arith, many, within);
      tells = λ values n below whole. (λ h. absurd (first_truth values whole below.0 h), λ h. absurd (omega (arith, ints, h, low)));
    })
  where
    first_truth : (values : List ℤ) → IsLadder (rungs_of values ladder) → 0 < ladder.rungs → number_at values ladder.first ≤ℤ v → ⊥
    first_truth values whole many h =
        let at = rung_at values ladder 0 many in
        let same = ap (number_at values) (none_more ladder.first) in
        elim (whole.truths 0 (pos 0) (omega (arith, many, length_rungs values ladder))) as (λ _. ⊥) [
          | inl none ↦ let is : number_at values (ladder.first + 0) ≡ pos 0 = sym at ∙ none in let x : number_at values ladder.first ≡ number_at values (ladder.first + 0) = same in omega (arith, ints, is, x, h, negative)
          | inr one ↦ let is : number_at values (ladder.first + 0) ≡ pos 1 = sym at ∙ one in let x : number_at values ladder.first ≡ number_at values (ladder.first + 0) = same in omega (arith, ints, is, x, h, negative)
        ]

pub always_so_low : (ladder : Ladder) (most v : ℤ) (place : ℕ) (atom : Atom) → atom ≡ an_atom ladder.first Test.AtMost v → pos 1 ≤ℤ v → most ≡ pos place → ladder.rungs ≤ place → SaysAtMost (source.Ladder ladder) most atom
unfolding source_number
always_so_low ladder most v place atom made one_or_more is far =
    subst (λ (a : Atom). SaysAtMost (source.Ladder ladder) most a) (sym made) (record {
      test = refl;
      names = λ n below. let many = below.0 in let within = below.1 in omega (arith, many, within);
      tells = λ values n below whole. (
        λ h. let low = height_low (rungs_of values ladder) in omega (arith, ints, low, length_rungs values ladder, is, far),
        λ h. first_truth values whole below.0,
      );
    })
  where
    first_truth : (values : List ℤ) → IsLadder (rungs_of values ladder) → 0 < ladder.rungs → number_at values ladder.first ≤ℤ v
    first_truth values whole many =
        let at = rung_at values ladder 0 many in
        let same = ap (number_at values) (none_more ladder.first) in
        elim (whole.truths 0 (pos 0) (omega (arith, many, length_rungs values ladder))) as (λ _. number_at values ladder.first ≤ℤ v) [
          | inl none ↦ let is : number_at values (ladder.first + 0) ≡ pos 0 = sym at ∙ none in let x : number_at values ladder.first ≡ number_at values (ladder.first + 0) = same in omega (arith, ints, is, x, one_or_more)
          | inr one ↦ let is : number_at values (ladder.first + 0) ≡ pos 1 = sym at ∙ one in let x : number_at values ladder.first ≡ number_at values (ladder.first + 0) = same in omega (arith, ints, is, x, one_or_more)
        ]

pub rung_so_low : (ladder : Ladder) (most v : ℤ) (place x : ℕ) (atom : Atom) → atom ≡ an_atom x Test.AtMost v → x ≡ ladder.first + place → v ≡ pos 0 → most ≡ pos place → place < ladder.rungs → SaysAtMost (source.Ladder ladder) most atom
unfolding source_number
rung_so_low ladder most v place x atom made at none is near =
    subst (λ (a : Atom). SaysAtMost (source.Ladder ladder) most a) (sym made) (record {
      test = refl;
      names = λ n below. let within = below.1 in omega (arith, within, at, near);
      tells = λ values n below whole.
          let h = at_height (rungs_of values ladder) whole place (omega (arith, near, length_rungs values ladder)) in
          let rung : get_or (rungs_of values ladder) place (pos 0) ≡ number_at values x = rung_at values ladder place near ∙ ap (number_at values) (sym at) in (
            λ low. let high = h.0 (omega (arith, ints, low, rung, none)) in omega (arith, ints, high, is),
            λ low. let small = h.1 (omega (arith, ints, low, is)) in omega (arith, ints, small, rung, none),
          );
    })

-- a number that isn't negative is its own distance from 0
pub natural_is : (n m : ℤ) → m ≡ n → int_lt m (pos 0) ≡ false → n ≡ pos (nat_abs m)
natural_is n (pos k) e h = sym e
natural_is n (negsuc k) e h = absurd (cc h)

-- "above" from "at most"
pub above_said : (from : Source) (number m : ℤ) (within atom : Atom) (x : ℕ) (v : ℤ) → SaysAtMost from m within → atom ≡ an_atom x Test.Above v → x ≡ within.var → v ≡ within.value → m ≡ number → SaysAbove from number atom
unfolding atom_holds
above_said from number m within atom x v says made of_var at same =
    subst (λ (a : Atom). SaysAbove from number a) (sym made) (record {
      names = λ n low. let l = says.names n low in omega (arith, l, of_var);
      tells = λ values n low whole.
          let t = says.tells values n low whole in
          let a = tests_above v (number_at values x) in
          let here : number_at values x ≡ number_at values within.var = ap (number_at values) of_var in (
            λ h. let high = a.0 h in
                by_lt_z number (source_number values from) (λ lt. lt) (λ ge. let low = t.1 (omega (arith, ints, ge, same)) in absurd (omega (arith, ints, low, high, here, at))),
            λ h. a.1 (by_lt_z v (number_at values x) (λ lt. lt) (λ ge. let low = t.0 (omega (arith, ints, ge, here, at)) in absurd (omega (arith, ints, low, h, same)))),
          );
    })

-- guards with another number of a variable
pub variable_other : (x : ℕ) (number v : ℤ) (guards atoms : List Atom) (atom : Atom) → atoms ≡ guards ++ atom ∷ [] → atom ≡ an_atom x Test.IsNot v → v ≡ number → AreGuardsOrOther (source.Variable x) number guards atoms
unfolding source_number
variable_other x number v guards atoms atom all made is =
    let fits : atoms ≡ guards ++ an_atom x Test.IsNot number ∷ [] = all ∙ ap (λ a. guards ++ a ∷ []) (made ∙ ap (an_atom x Test.IsNot) is) in
    record {
      names = λ n low names. names_more n guards atoms (an_atom x Test.IsNot number) names low fits;
      tells = λ values n low whole.
          let cases = with_these values guards atoms (an_atom x Test.IsNot number) fits in
          let other = says_other values x number in (
            λ h. elim (cases.0 h) as (λ _. IsTrue (clause_holds values guards) ⊎ (number_at values x ≢ number)) [ inl g ↦ inl g | inr a ↦ inr (other.0 a) ],
            λ h. cases.1 (elim h as (λ _. IsTrue (clause_holds values guards) ⊎ IsTrue (atom_holds values (an_atom x Test.IsNot number))) [ inl g ↦ inl g | inr o ↦ inr (other.1 o) ]),
          );
    }

-- and of a ladder
pub height_other : (ladder : Ladder) (number under m : ℤ) (guards middle mid atoms : List Atom) (fewer more : Atom) → SaysAtMost (source.Ladder ladder) under fewer → under ≡ number -ℤ pos 1 → middle ≡ guards ++ fewer ∷ [] → mid ≡ middle
    → SaysAbove (source.Ladder ladder) m more → m ≡ number → atoms ≡ mid ++ more ∷ [] → AreGuardsOrOther (source.Ladder ladder) number guards atoms
height_other ladder number under m guards middle mid atoms fewer more less is first same above at second = record {
  names = λ n low names. names_more n mid atoms more (names_more n guards mid fewer names (less.names n low) (same ∙ first)) (above.names n low) second;
  tells = λ values n low whole.
      let one = with_these values guards mid fewer (same ∙ first) in
      let two = with_these values mid atoms more second in
      let below = said_at_most (source.Ladder ladder) under fewer values n less low whole in
      let beyond = above.tells values n low whole in
      let x : ℤ = source_number values (source.Ladder ladder) in (
        λ h. elim (two.0 h) as (λ _. IsTrue (clause_holds values guards) ⊎ (x ≢ number)) [
          | inl c ↦ elim (one.0 c) as (λ _. IsTrue (clause_holds values guards) ⊎ (x ≢ number)) [ inl g ↦ inl g | inr a ↦ let l = below.0 a in inr (λ e. omega (arith, ints, l, e, is)) ]
          | inr a ↦ let l = beyond.0 a in inr (λ e. omega (arith, ints, l, e, at))
        ],
        λ h. two.1 (elim h as (λ _. IsTrue (clause_holds values mid) ⊎ IsTrue (atom_holds values more)) [
          | inl g ↦ inl (one.1 (inl g))
          | inr other ↦ by_lt_z x number (λ lt. inl (one.1 (inr (below.1 (omega (arith, ints, lt, is)))))) (λ ge. by_lt_z number x (λ gt. inr (beyond.1 (omega (arith, ints, gt, at)))) (λ le. absurd (other (omega (arith, ints, ge, le)))))
        ]),
      );
}
