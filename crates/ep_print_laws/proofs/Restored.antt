-- What an instance is given by the lettings of printed values: the values that were printed.
use Rattle.std.proofs.Common.{◌≡◌, Bool, true, false, not, ◌||◌, List, [], ◌∷◌, ◌++◌, map, Option, Some, None, refl, sym, ap, ap₂, subst, ◌∙◌, bytes_eq}
use Rattle.std.specs.Prelude.{Ok, Result, if◌then◌else◌, is_some, option_and_then, option_map, option_to_list}
use Rattle.std.specs.List.{All, AllByRecursion, IsDistinct, list_any}
use Rattle.std.proofs.lemmas.Bool.{cond-false, cond-true, or_left, or_right}
use Rattle.std.proofs.lemmas.List.Elements.{All-from_recursion, recursion_from_All}
use Rattle.std.proofs.lemmas.List.Sorted.{All-permutation, IsPermutation-sym}
use Rattle.std.proofs.lemmas.Map.Keys.{IsDistinct-IsPermutation}
use Rattle.std.proofs.lemmas.Slice.Eq.{bytes_eq-Decides}
use Rattle.ep_base.proofs.Small.{some_is, then_is}
use Rattle.ep_base.specs.Numbers.{has_number}
use Rattle.ep_base.specs.declared.names.Name.{Name}
use Rattle.ep_tree.proofs.TypedParts.{both_is, truths_differ}
use Rattle.ep_tree.specs.Binding.{Find, Instance, Refusal, and_next, bind_params, parameter, solution_text}
use Rattle.ep_tree.specs.Closed.{IsClosed}
use Rattle.ep_tree.specs.Environments.{Env, has_value}
use Rattle.ep_tree.specs.Faults.{faults_after, params_faults, text_faults}
use Rattle.ep_tree.specs.Names.{nothing_known}
use Rattle.ep_tree.specs.Placeless.{placeless_statement}
use Rattle.ep_tree.specs.SolutionTexts.{fits, fitting_letting, is_find, letting_names, read_solution, shaped, shaped_by, strangers, with_lettings, without_letting}
use Rattle.ep_tree.specs.Solutions.{Assigned, Fits, Found, NamedValue, find_type, fitted_find, found_of, found_values, named_in}
use Rattle.ep_tree.specs.Statements.{TextTree}
use Rattle.ep_tree.specs.Types.{Meaning, scalar_of}
use Rattle.ep_tree.specs.Values.{ValueTree}
use Rattle.ep_tree.specs.declared.values.Mode.{Mode}
use Rattle.ep_tree.specs.declared.values.ValueType.{ValueType}
use Rattle.ep_print_laws.specs.Answered.{letting_of}
use Rattle.ep_print_laws.specs.GivenBack.{CanBeRead, GivesBack, is_large}
use Rattle.ep_print_laws.proofs.Lettings.{AllStand, CanStand, IsKnownAs, LettingsFor, all_are_lettings, bounds_of, lettings_bind, lettings_faultless, lettings_known, lettings_stand, names_let, put_each, same_name, too_large}
use Rattle.ep_print_laws.proofs.Shapes.{fit_of_own, fit_shape}

-- the names of values
abbrev pub names_of : Assigned → List Name
names_of a = map (λ g. g.name) a

-- ---- names

-- each of some values is what an assignment gives its name
abbrev AreNamed : Assigned → Assigned → Type 0
AreNamed whole [] = Unit {0}
AreNamed whole (g ∷ a) = (named_in whole g.name ≡ Some g) × AreNamed whole a

named_behind : (x : NamedValue) (whole a : Assigned) → AllByRecursion (λ name. bytes_eq x.name name ≡ false) (names_of a) → AreNamed whole a → AreNamed (x ∷ whole) a
unfolding named_in
named_behind x whole [] apart h = tt
named_behind x whole (g ∷ a) apart h = (cond-false (bytes_eq x.name g.name) _ _ apart.0 ∙ h.0, named_behind x whole a apart.1 h.1)

all_named : (a : Assigned) → IsDistinct bytes_eq (names_of a) → AreNamed a a
unfolding named_in IsDistinct
all_named [] apart = tt
all_named (g ∷ a) apart =
    (cond-true (bytes_eq g.name g.name) _ _ ((bytes_eq-Decides g.name g.name).1 refl), named_behind g a a apart.0 (all_named a apart.1))

-- each decision variable is found among them
finds_found : (whole fs : List Find) → ((name : Name) → is_find fs name ≡ true → is_find whole name ≡ true) → AllByRecursion (λ name. is_find whole name ≡ true) (map (λ f. f.name) fs)
unfolding is_find
finds_found whole [] keep = tt
finds_found whole (f ∷ fs) keep =
    (keep f.name (or_left _ _ ((bytes_eq-Decides f.name f.name).1 refl)), finds_found whole fs (λ name h. keep name (or_right _ _ h)))

-- each of some names is that of a decision variable
abbrev AreFinds : List Find → List Name → Type 0
AreFinds fs names = AllByRecursion (λ name. is_find fs name ≡ true) names

no_strangers : (fs : List Find) (names : List Name) → AreFinds fs names → strangers fs names ≡ []
unfolding strangers
no_strangers fs [] h = refl
no_strangers fs (name ∷ names) h = cond-false (not (is_find fs name)) _ _ (ap not h.0) ∙ no_strangers fs names h.1

-- ---- decision variables

-- a decision variable of a name, with the value that an assignment gives it
record HasFind (a : Assigned) (name : Name) : Type 0 where
  find : Find
  fit : ValueTree
  named : find.name ≡ name
  fits_it : option_and_then (fitted_find find) (named_in a find.name) ≡ Some fit

find_next : (a : Assigned) (name : Name) (f : Find) (v : ValueTree) (fs : List Find) (here : Bool) → bytes_eq f.name name ≡ here → (here || is_find fs name) ≡ true
    → option_and_then (fitted_find f) (named_in a f.name) ≡ Some v → (is_find fs name ≡ true → HasFind a name) → HasFind a name
find_next a name f v fs true h e fit later = record { find = f; fit = v; named = (bytes_eq-Decides f.name name).0 h; fits_it = fit }
find_next a name f v fs false h e fit later = later e

has_find : (fs : List Find) (a : Assigned) (found : Found) → found_values fs a ≡ Some found → (name : Name) → is_find fs name ≡ true → HasFind a name
unfolding found_values is_find
has_find [] a found e name h = truths_differ h
has_find (f ∷ fs) a found e name h =
    let q : _ = both_is (option_and_then (fitted_find f) (named_in a f.name)) (found_values fs a) (λ v rest. Some ((f.name, has_value (find_type f) v) ∷ rest)) found e in
    find_next a name f q.0 fs (bytes_eq f.name name) refl h q.2 (λ k. has_find fs a q.1 q.3 name k)

-- a value whose name is a decision variable's has the shape of its domain
value_can : (whole : Assigned) (g : NamedValue) → CanBeRead g → named_in whole g.name ≡ Some g → HasFind whole g.name → CanStand g
unfolding fitted_find
value_can whole g can named h =
    let f = h.find in
    let there : option_and_then (fitted_find f) (named_in whole g.name) ≡ Some h.fit = ap (λ n. option_and_then (fitted_find f) (named_in whole n)) (sym h.named) ∙ h.fits_it in
    let fit : fitted_find f g ≡ Some h.fit = ap (option_and_then (fitted_find f)) (sym named) ∙ there in
    record { can = can; indices = f.indices; shape = fit_shape (scalar_of g.ty) f.scalar (has_number f.values) f.indices g.value h.fit fit }

values_can : (fs : List Find) (whole a : Assigned) (found : Found) → found_values fs whole ≡ Some found → AllByRecursion CanBeRead a → AreNamed whole a → AreFinds fs (names_of a) → AllStand a
values_can fs whole [] found e can named are = tt
values_can fs whole (g ∷ a) found e can named are =
    (value_can whole g can.0 named.0 (has_find fs whole found e g.name are.0), values_can fs whole a found e can.1 named.1 are.1)

-- ---- what the decision variables are given

letting_fits : (known : Env) (f : Find) (g : NamedValue) (v : ValueTree) → IsKnownAs known f.name g → fitted_find f g ≡ Some v → fitting_letting known f ≡ Some (record { name = f.name; ty = find_type f; value = v })
unfolding fitting_letting fitted_find parameter
letting_fits known f g v is fit =
    let G : ValueTree → NamedValue = λ x. record { name = f.name; ty = find_type f; value = x } in
    let F : ValueType × ValueTree → Option NamedValue = λ entry. option_map G (fitted_find f (record { name = f.name; ty = entry.0; value = entry.1 })) in
    ap (λ b. option_and_then F (parameter b)) is.is
    ∙ ap (option_map G) (fit_of_own (scalar_of g.ty) f.scalar is.ty (has_number f.values) f.indices g.value v is.own fit)

-- decision variables are given these values
record AreGiven (fs : List Find) (known : Env) (found : Found) : Type 0 where
  read : Assigned
  same : found_of read ≡ found
  none_lacks : without_letting known fs ≡ []
  all_have : with_lettings known fs ≡ read

given_more : (f : Find) (v : ValueTree) (fs : List Find) (known : Env) (found : Found) → fitting_letting known f ≡ Some (record { name = f.name; ty = find_type f; value = v }) → AreGiven fs known found → AreGiven (f ∷ fs) known ((f.name, has_value (find_type f) v) ∷ found)
unfolding without_letting with_lettings
given_more f v fs known found fit h =
    let g : NamedValue = record { name = f.name; ty = find_type f; value = v } in
    record {
      read = g ∷ h.read;
      same = ap (λ ns. (f.name, has_value (find_type f) v) ∷ ns) h.same;
      none_lacks = ap (λ o. (if is_some o then [] else f.name ∷ []) ++ without_letting known fs) fit ∙ h.none_lacks;
      all_have = ap (λ o. option_to_list o ++ with_lettings known fs) fit ∙ ap (λ gs. g ∷ gs) h.all_have;
    }

finds_given : (fs : List Find) (a : Assigned) (found : Found) (known : Env) → found_values fs a ≡ Some found → ((name : Name) (g : NamedValue) → named_in a name ≡ Some g → IsKnownAs known name g) → AreGiven fs known found
unfolding found_values without_letting with_lettings
finds_given [] a found known e is = record { read = []; same = some_is e; none_lacks = refl; all_have = refl }
finds_given (f ∷ fs) a found known e is =
    let q : _ = both_is (option_and_then (fitted_find f) (named_in a f.name)) (found_values fs a) (λ v rest. Some ((f.name, has_value (find_type f) v) ∷ rest)) found e in
    let g : _ = then_is (fitted_find f) (named_in a f.name) q.0 q.2 in
    subst (AreGiven (f ∷ fs) known) (some_is q.4)
    (given_more f q.0 fs known q.1 (letting_fits known f g.0 q.0 (is f.name g.0 g.1) g.2) (finds_given fs a q.1 known q.3 is))

-- ---- the whole

shaped_whole : (fs : List Find) (known : Env) (text : TextTree) (found : Found) → (h : AreGiven fs known found) → strangers fs (letting_names text) ≡ [] → shaped_by fs known text ≡ fits h.read
unfolding shaped_by shaped
shaped_whole fs known text found h none = ap₂ (λ xs a. shaped xs a) (ap₂ (λ xs ys. xs ++ ys) h.none_lacks none) h.all_have

read_next : {A B : Type 0} (large : Bool) (x : A) (next : A → Result B (List Refusal)) (y : B) → next x ≡ Ok y → and_next (if large then too_large else Ok x) next ≡ (if large then too_large else Ok y)
unfolding and_next
read_next true x next y h = refl
read_next false x next y h = h

none_known : (names : List Name) → AllByRecursion (λ name. ◌≡◌ {A = Option Meaning} (nothing_known name) None) names
none_known [] = tt
none_known (name ∷ names) = (refl, none_known names)

values_given : (mode : Mode) (i : Instance) (a : Assigned) (found : Found) (text : TextTree) → found_values i.finds a ≡ Some found → IsDistinct bytes_eq (names_of a) → AreFinds i.finds (names_of a) → LettingsFor a text → GivesBack mode i a found text
unfolding params_faults text_faults read_solution
values_given mode i a found text e apart are l =
    let known : Env = put_each (bounds_of a text l) nothing_known in
    let given = finds_given i.finds a found known e (lettings_known a text l nothing_known apart) in
    let none : strangers i.finds (letting_names text) ≡ [] = ap (strangers i.finds) (names_let a text l) ∙ no_strangers i.finds (names_of a) are in
    record {
      faultless = ap (faults_after nothing_known) (all_are_lettings a text l) ∙ lettings_faultless a text nothing_known l apart (none_known (names_of a));
      read = given.read;
      same = given.same;
      answer =
          ap (λ ss. and_next (bind_params mode solution_text nothing_known ss) (λ known. Ok (shaped_by i.finds known text))) (all_are_lettings a text l)
          ∙ ap (λ r. and_next r (λ known. Ok (shaped_by i.finds known text))) (lettings_bind mode solution_text a text nothing_known l)
          ∙ read_next (list_any (is_large mode) a) known (λ known. Ok (shaped_by i.finds known text)) (fits given.read) (ap Ok (shaped_whole i.finds known text found given none));
    }

pub values_given_back : (mode : Mode) (i : Instance) → IsClosed i → (a : Assigned) (found : Found) → Fits i a found → All CanBeRead a → (text : TextTree) → map placeless_statement text ≡ map placeless_statement (map letting_of a) → GivesBack mode i a found text
values_given_back mode i closed a found h can text same =
    let back = IsPermutation-sym (names_of a) (map (λ f. f.name) i.finds) h.same_names in
    let apart : IsDistinct bytes_eq (names_of a) = IsDistinct-IsPermutation bytes_eq same_name (map (λ f. f.name) i.finds) (names_of a) back closed.distinct in
    let known : All (λ name. is_find i.finds name ≡ true) (map (λ f. f.name) i.finds) =
    All-from_recursion (λ name. is_find i.finds name ≡ true) (map (λ f. f.name) i.finds) (finds_found i.finds i.finds (λ name k. k)) in
    let are : AreFinds i.finds (names_of a) =
    recursion_from_All (λ name. is_find i.finds name ≡ true) (names_of a) (All-permutation (λ name. is_find i.finds name ≡ true) (map (λ f. f.name) i.finds) (names_of a) back known) in
    let stand = values_can i.finds a a found h.values (recursion_from_All CanBeRead a can) (all_named a apart) are in
    values_given mode i a found text h.values apart are (lettings_stand a text stand same)
