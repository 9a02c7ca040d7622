-- The text of an answer gives an instance its assignment back.
use Rattle.std.proofs.Common.{◌≡◌, ℕ, suc, ◌^◌, true, false, List, [], ◌∷◌, map, ℤ, pos, negsuc, ◌≤ℤ◌, Ok, refl, sym, subst, ◌∙◌, arith}
use Rattle.std.specs.Prelude.{IsTrue, int_lt, nat_lt}
use Rattle.std.specs.List.{AllByRecursion, list_all}
use Rattle.std.proofs.lemmas.Bool.{and_from, and_parts}
use Rattle.std.proofs.lemmas.Bool.Decides.{nat_tests}
use Rattle.std.proofs.lemmas.Int.{ints}
use Rattle.std.proofs.lemmas.List.Elements.{All-from_recursion, recursion_from_All}
use Rattle.ep_base.specs.Numbers.{absolute_of}
use Rattle.ep_base.specs.TokenTexts.{is_name, is_word}
use Rattle.ep_base.specs.Reads.{MOST_NUMBER, is_too_far}
use Rattle.ep_base.specs.declared.names.Name.{Name}
use Rattle.ep_tree.specs.Binding.{Find, Instance, bind}
use Rattle.ep_tree.specs.Closed.{IsClosed}
use Rattle.ep_tree.specs.Solutions.{Assigned, IsWritten, found_of}
use Rattle.ep_tree.specs.Statements.{TextTree}
use Rattle.ep_tree.specs.Texts.{IsSpellable}
use Rattle.ep_tree.specs.Values.{ValueTree, ValueTrees, matrix, no_values, single, value_and}
use Rattle.ep_tree.specs.declared.values.Mode.{Mode}
use Rattle.ep_print.specs.Answers.{AnswerTree, answer_text}
use Rattle.ep_print_laws.specs.Answered.{CanBeWritten, are_short_values, has_few_digits, is_short_value, values_in}
use Rattle.ep_print_laws.specs.GivenBack.{CanBeRead, HasName, TextGivesBack, are_near_values, is_near, is_near_value}
use Rattle.ep_print_laws.proofs.Answered.{answer_spelled}
use Rattle.ep_print_laws.proofs.BoundNames.{bound_named}
use Rattle.ep_print_laws.proofs.NearDomains.{bound_near}
use Rattle.ep_print_laws.proofs.Restored.{names_of}
use Rattle.ep_print_laws.proofs.Standing.{near_number}
use Rattle.ep_print_laws.proofs.Written.{assignment_given_back, found_names, names_written, written_readable}

-- ---- what is near is short

few_digits : (n : ℕ) → int_lt MOST_NUMBER (pos n) ≡ false → nat_lt n (10 ^ 18) ≡ true
few_digits n h = let most : pos n ≤ℤ MOST_NUMBER = grind (arith, ints) in grind (arith, nat_tests, ints)

near_short : (n : ℤ) → is_near n ≡ true → has_few_digits n ≡ true
unfolding has_few_digits is_too_far absolute_of
near_short (pos n) h = few_digits n (near_number (pos n) h)
near_short (negsuc n) h = few_digits (suc n) (near_number (negsuc n) h)

numbers_short : (ns : List ℤ) → list_all is_near ns ≡ true → list_all has_few_digits ns ≡ true
numbers_short [] h = refl
numbers_short (n ∷ ns) h = let parts = and_parts (is_near n) (list_all is_near ns) h in and_from _ _ (near_short n parts.0) (numbers_short ns parts.1)

mutual
  unfolding is_near_value is_short_value

  value_short : (v : ValueTree) → is_near_value v ≡ true → is_short_value v ≡ true
  value_short (single n) h = near_short n h
  value_short (matrix indices vs) h =
      let parts = and_parts (list_all is_near indices) (are_near_values vs) h in and_from _ _ (numbers_short indices parts.0) (values_short vs parts.1)

  values_short : (vs : ValueTrees) → are_near_values vs ≡ true → are_short_values vs ≡ true
  values_short no_values h = refl
  values_short (value_and v vs) h =
      let parts = and_parts (is_near_value v) (are_near_values vs) h in and_from _ _ (value_short v parts.0) (values_short vs parts.1)

-- ---- what can be written

-- a name of the language
abbrev IsNamed : Name → Type 0
IsNamed name = IsTrue (is_name name) × (is_word name ≡ false)

finds_named : (fs : List Find) → AllByRecursion HasName fs → AllByRecursion IsNamed (map (λ f. f.name) fs)
finds_named [] h = tt
finds_named (f ∷ fs) h = ((h.0.name, h.0.no_word), finds_named fs h.1)

all_written : (a : Assigned) → AllByRecursion IsNamed (names_of a) → AllByRecursion CanBeRead a → AllByRecursion CanBeWritten a
all_written [] named can = tt
all_written (g ∷ a) named can =
    (record { name = named.0.0; no_word = named.0.1; short = value_short g.value can.0.near }, all_written a named.1 can.1)

pub text_given_back : (mode : Mode) (model params : TextTree) (i : Instance) → IsSpellable model → bind mode model params ≡ Ok i → IsClosed i
    → (answer : AnswerTree) → IsWritten i (values_in answer) → TextGivesBack mode i (values_in answer) (answer_text answer)
text_given_back mode model params i spellable bound closed answer written =
    let a = values_in answer in
    let near = bound_near mode model params i bound in
    let r = written_readable i a closed near written in
    let names : map (λ f. f.name) i.finds ≡ names_of a = sym (sym (names_written a) ∙ found_names i.finds a (found_of a) written) in
    let named = subst (AllByRecursion IsNamed) names (finds_named i.finds (recursion_from_All HasName i.finds (bound_named mode model params i spellable bound))) in
    let s = answer_spelled answer (All-from_recursion CanBeWritten a (all_written a named (recursion_from_All CanBeRead a r.can))) in
    record {
      tree = s.tree;
      spelled = s.spelled;
      gives = assignment_given_back mode i closed near a written s.tree s.same;
      within = λ short low. record { within = short; tokens = s.spelled.tokens; found = s.spelled.found; reads = record { spelled = s.spelled.spelled; low = low } };
    }
