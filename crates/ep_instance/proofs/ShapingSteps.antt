-- Reading a solution text: the decision variables one by one, the lettings one by one, and that what is read fits.
use Rattle.std.proofs.Common.{◌≡◌, ◌∙◌, ℕ, zero, suc, ℤ, Bool, true, false, ◌||◌, List, [], ◌∷◌, ◌++◌, map, drop, Option, Some, None, option_map, refl, sym, ap, subst, arith, append_assoc, if◌then◌else◌, bytes_eq}
use Rattle.std.specs.Prelude.{Contains, IsPermutation, Ok, Result, is_some, option_and_then, option_to_list}
use Rattle.std.specs.List.{AllByRecursion, IsDistinct, list_any}
use Rattle.std.proofs.lemmas.List.{append-nil}
use Rattle.std.proofs.lemmas.List.Elements.{Contains-append_left, Contains-append_right}
use Rattle.std.proofs.lemmas.List.Sorted.{IsPermutation-refl}
use Rattle.std.proofs.lemmas.Slice.Eq.{bytes_eq-Decides}
use Rattle.ep_base.specs.Numbers.{has_number}
use Rattle.ep_base.specs.Options.{on_both}
use Rattle.ep_base.specs.declared.names.Name.{Name}
use Rattle.ep_tree.proofs.TypedParts.{map_is, then_is, truths_differ}
use Rattle.ep_tree.specs.Binding.{Find, Instance, Refusal, and_next, bind_params, parameter, solution_text}
use Rattle.ep_tree.specs.Closed.{IsClosed}
use Rattle.ep_tree.specs.Environments.{Env, has_value, shape_type}
use Rattle.ep_tree.specs.SolutionTexts.{fits, fitting_letting, is_find, letting_names, read_solution, shaped, shaped_by, strangers, with_lettings, without_letting, wrong_shape}
use Rattle.ep_tree.specs.SolutionTexts as defined
use Rattle.ep_tree.specs.Faults.{lettings_of}
use Rattle.ep_tree.specs.Names.{nothing_known}
use Rattle.ep_tree.specs.Solutions.{Assigned, Found, NamedValue, find_type, fitted_find, found_values, named_in}
use Rattle.ep_tree.specs.Statements.{StatementTree, TextTree, branching, constraints, decided, domain_letting, given, heuristic, letting, objective, requirements}
use Rattle.ep_tree.specs.Types.{of_scalar, scalar_of}
use Rattle.ep_tree.specs.Values.{ValueTree, fitted}
use Rattle.ep_tree.specs.Views.{assigned}
use Rattle.ep_tree.specs.declared.values.Mode.{Mode}
use Rattle.ep_tree.specs.declared.values.Scalar.{Scalar}
use Rattle.ep_tree.specs.declared.values.ValueType.{ValueType}
use Rattle.ep_instance_parts.specs.Instances.{find_of}
use Rattle.ep_instance_parts.specs.declared.errors.BindError.{BindError}
use Rattle.ep_instance_parts.specs.declared.instances.Find.{Find as KeptFind}
use Rattle.ep_instance.specs.Judgements.{FitsIfShaped, ShapeAnswers}
use Rattle.ep_instance.specs.Shaping.{GivesEntries, letting_name}
use Rattle.ep_instance.specs.declared.judging.Shaped.{Shaped}
use Rattle.ep_instance.specs.declared.judging.Shaped.TheVariants as code
use Rattle.ep_reach_laws.proofs.Found.{fits_again}

-- ---- one decision variable

pub letting_fits : (known : Env) (f : Find) (t : ValueType) (v w : ValueTree) → parameter (known f.name) ≡ Some (t, v) → fitted (scalar_of t) f.scalar (has_number f.values) f.indices v ≡ Some w
    → fitting_letting known f ≡ Some (record { name = f.name; ty = find_type f; value = w })
unfolding fitting_letting fitted_find
letting_fits known f t v w p h =
    let G : ValueTree → NamedValue = λ x. record { name = f.name; ty = find_type f; value = x } in
    let F : ValueType × ValueTree → Option NamedValue = λ entry. option_map G (fitted_find f (record { name = f.name; ty = entry.0; value = entry.1 })) in
    ap (option_and_then F) p ∙ ap (option_map G) h

pub letting_entry : (known : Env) (f : Find) (t ty : ValueType) (v w : ValueTree) (name : Name) → name ≡ f.name → ty ≡ find_type f → parameter (known f.name) ≡ Some (t, v)
    → fitted (scalar_of t) f.scalar (has_number f.values) f.indices v ≡ Some w
    → ◌≡◌ {A = Option NamedValue} (Some (record { name = name; ty = ty; value = w })) (fitting_letting known f)
letting_entry known f t ty v w name n k p h =
    let G : Name → ValueType → Option NamedValue = λ x y. Some (record { name = x; ty = y; value = w }) in
    ap (λ x. G x ty) n ∙ ap (G f.name) k ∙ sym (letting_fits known f t v w p h)

pub letting_outside : (known : Env) (f : Find) (t : ValueType) (v : ValueTree) → parameter (known f.name) ≡ Some (t, v) → fitted (scalar_of t) f.scalar (has_number f.values) f.indices v ≡ None
    → fitting_letting known f ≡ None
unfolding fitting_letting fitted_find
letting_outside known f t v p h =
    let G : ValueTree → NamedValue = λ x. record { name = f.name; ty = find_type f; value = x } in
    let F : ValueType × ValueTree → Option NamedValue = λ entry. option_map G (fitted_find f (record { name = f.name; ty = entry.0; value = entry.1 })) in
    ap (option_and_then F) p ∙ ap (option_map G) h

pub letting_missing : (known : Env) (f : Find) → parameter (known f.name) ≡ None → fitting_letting known f ≡ None
unfolding fitting_letting
letting_missing known f p =
    let G : ValueTree → NamedValue = λ x. record { name = f.name; ty = find_type f; value = x } in
    let F : ValueType × ValueTree → Option NamedValue = λ entry. option_map G (fitted_find f (record { name = f.name; ty = entry.0; value = entry.1 })) in
    ap (option_and_then F) p

-- ---- all decision variables

-- The values so far are those of the decision variables before, none of which lacks one.
pub record EntriesSoFar (known : Env) (all left : List Find) (done : Assigned) : Type 0 where
  pub values : with_lettings known all ≡ done ++ with_lettings known left
  pub lacking : without_letting known all ≡ without_letting known left

pub entries_begin : (known : Env) (all : List Find) (done : Assigned) → done ≡ [] → EntriesSoFar known all all done
entries_begin known all done e = record { values = ap (λ xs. xs ++ with_lettings known all) (sym e); lacking = refl }

with_first : (known : Env) (f : Find) (fs : List Find) (g : NamedValue) → fitting_letting known f ≡ Some g → with_lettings known (f ∷ fs) ≡ g ∷ with_lettings known fs
unfolding with_lettings
with_first known f fs g h = ap (λ o. option_to_list o ++ with_lettings known fs) h

lacks_later : (known : Env) (f : Find) (fs : List Find) (g : NamedValue) → fitting_letting known f ≡ Some g → without_letting known (f ∷ fs) ≡ without_letting known fs
unfolding without_letting
lacks_later known f fs g h = ap (λ o. (if is_some o then [] else f.name ∷ []) ++ without_letting known fs) h

lacks_first : (known : Env) (f : Find) (fs : List Find) → fitting_letting known f ≡ None → without_letting known (f ∷ fs) ≡ f.name ∷ without_letting known fs
unfolding without_letting
lacks_first known f fs h = ap (λ o. (if is_some o then [] else f.name ∷ []) ++ without_letting known fs) h

pub entries_more : (known : Env) (all : List Find) (f : Find) (left : List Find) (done : Assigned) (g : NamedValue) → EntriesSoFar known all (f ∷ left) done → fitting_letting known f ≡ Some g
    → EntriesSoFar known all left (done ++ g ∷ [])
entries_more known all f left done g h e = record {
  values = h.values ∙ ap (λ xs. done ++ xs) (with_first known f left g e) ∙ sym (append_assoc done (g ∷ []) (with_lettings known left));
  lacking = h.lacking ∙ lacks_later known f left g e;
}

first_of_names : (names others : List Name) (n name : Name) → names ≡ n ∷ others → name ≡ n → Contains names name
first_of_names names others n name e is = subst (λ ns. Contains ns name) (sym e) (subst (λ x. Contains (n ∷ others) x) (sym is) (0, omega arith, refl))

pub entries_missing : (known : Env) (all : List Find) (f : Find) (left : List Find) (done : Assigned) (name : Name) → EntriesSoFar known all (f ∷ left) done → fitting_letting known f ≡ None → name ≡ f.name
    → Contains (without_letting known all) name
entries_missing known all f left done name h e is =
    first_of_names (without_letting known all) (without_letting known left) f.name name (h.lacking ∙ lacks_first known f left e) is

pub entries_end : (known : Env) (all : List Find) (done : Assigned) → EntriesSoFar known all [] done → (without_letting known all ≡ []) × (with_lettings known all ≡ done)
unfolding with_lettings without_letting
entries_end known all done h = (h.lacking, h.values ∙ append-nil done)

-- ---- lettings that are no decision variable

pub find_here : (f : Find) (fs : List Find) (name : Name) → bytes_eq f.name name ≡ true → is_find (f ∷ fs) name ≡ true
unfolding is_find
find_here f fs name h = ap (λ b. b || list_any (λ f. bytes_eq f.name name) fs) h

pub find_later : (f : Find) (fs : List Find) (name : Name) → bytes_eq f.name name ≡ false → is_find (f ∷ fs) name ≡ is_find fs name
unfolding is_find
find_later f fs name h = ap (λ b. b || list_any (λ f. bytes_eq f.name name) fs) h

pub find_nowhere : (name : Name) → is_find [] name ≡ false
unfolding is_find
find_nowhere name = refl

-- a name that is none of some decision variables is not the first of them, and none of the others
pub none_of : (f : Find) (fs : List Find) (name : Name) → is_find (f ∷ fs) name ≡ false → (bytes_eq f.name name ≡ false) × (is_find fs name ≡ false)
unfolding is_find
none_of f fs name h = go (bytes_eq f.name name) refl
  where
    go : (b : Bool) → bytes_eq f.name name ≡ b → (bytes_eq f.name name ≡ false) × (is_find fs name ≡ false)
    go true e = truths_differ (sym h ∙ find_here f fs name e)
    go false e = (e, sym (find_later f fs name e) ∙ h)

pub none_dropped : (finds : List KeptFind) (k : ℕ) (name : Name) → is_find (map find_of finds) name ≡ false → is_find (map find_of (drop k finds)) name ≡ false
none_dropped finds zero name h = h
none_dropped [] (suc k) name h = h
none_dropped (f ∷ fs) (suc k) name h = none_dropped fs k name (none_of (find_of f) (map find_of fs) name h).1

names_next : (s : StatementTree) (ss : TextTree) → letting_names (s ∷ ss) ≡ option_to_list (letting_name s) ++ letting_names ss
unfolding letting_name letting_names
names_next (given p gs) ss = refl
names_next (decided p gs) ss = refl
names_next (letting p name q d e) ss = refl
names_next (domain_letting p name q d) ss = refl
names_next (requirements p es) ss = refl
names_next (constraints p es) ss = refl
names_next (objective p sense e) ss = refl
names_next (branching p names) ss = refl
names_next (heuristic p name) ss = refl

known_name : (fs : List Find) (n : Name) (ns : List Name) → is_find fs n ≡ true → strangers fs (n ∷ ns) ≡ strangers fs ns
unfolding strangers
known_name fs n ns h = rw h refl

strange_name : (fs : List Find) (n : Name) (ns : List Name) → is_find fs n ≡ false → strangers fs (n ∷ ns) ≡ n ∷ strangers fs ns
unfolding strangers
strange_name fs n ns h = rw h refl

no_names : (fs : List Find) → strangers fs [] ≡ []
unfolding strangers
no_names fs = refl

-- a statement that is no letting, one of a decision variable, and any other
pub strange_none : (fs : List Find) (o : Option Name) → o ≡ None → [] ≡ strangers fs (option_to_list o)
strange_none fs o h = sym (ap (λ x. strangers fs (option_to_list x)) h ∙ no_names fs)

pub strange_find : (fs : List Find) (o : Option Name) (n : Name) → o ≡ Some n → is_find fs n ≡ true → [] ≡ strangers fs (option_to_list o)
strange_find fs o n h is = sym (ap (λ x. strangers fs (option_to_list x)) h ∙ known_name fs n [] is ∙ no_names fs)

pub strange_other : (fs : List Find) (o : Option Name) (n : Name) → o ≡ Some n → is_find fs n ≡ false → n ∷ [] ≡ strangers fs (option_to_list o)
strange_other fs o n h is = sym (ap (λ x. strangers fs (option_to_list x)) h ∙ strange_name fs n [] is ∙ ap (λ ns. n ∷ ns) (no_names fs))

joined_names : (fs : List Find) (o : Option Name) (ns : List Name) → strangers fs (option_to_list o ++ ns) ≡ strangers fs (option_to_list o) ++ strangers fs ns
joined_names fs None ns = ap (λ xs. xs ++ strangers fs ns) (sym (no_names fs))
joined_names fs (Some n) ns = go (is_find fs n) refl
  where
    go : (b : Bool) → is_find fs n ≡ b → strangers fs (n ∷ ns) ≡ strangers fs (n ∷ []) ++ strangers fs ns
    go true h = known_name fs n ns h ∙ ap (λ xs. xs ++ strangers fs ns) (sym (known_name fs n [] h ∙ no_names fs))
    go false h = strange_name fs n ns h ∙ ap (λ xs. xs ++ strangers fs ns) (sym (strange_name fs n [] h ∙ ap (λ xs. n ∷ xs) (no_names fs)))

-- the strange names from a statement on
pub next_strange : (fs : List Find) (s : StatementTree) (ss : TextTree) (here : List Name) → here ≡ strangers fs (option_to_list (letting_name s))
    → strangers fs (letting_names (s ∷ ss)) ≡ here ++ strangers fs (letting_names ss)
next_strange fs s ss here h =
    ap (strangers fs) (names_next s ss) ∙ joined_names fs (letting_name s) (letting_names ss) ∙ ap (λ xs. xs ++ strangers fs (letting_names ss)) (sym h)

pub stranger_first : (names others : List Name) (n name : Name) → names ≡ n ∷ others → name ≡ n → Contains names name
stranger_first names others n name e is = first_of_names names others n name e is

pub no_stranger : (fs : List Find) → strangers fs (letting_names []) ≡ []
unfolding strangers letting_names
no_stranger fs = refl

-- ---- the whole text

wrong_names : (names : List Name) (a : Assigned) (name : Name) → Contains names name → shaped names a ≡ wrong_shape names
unfolding shaped
wrong_names [] a name h = absurd (omega (arith, h.1))
wrong_names (n ∷ ns) a name h = refl

pub shape_given : (known : Env) (fs : List Find) (text : TextTree) (answer : Shaped) → GivesEntries known fs answer → strangers fs (letting_names text) ≡ []
    → ShapeAnswers (Ok answer) (Ok (shaped_by fs known text))
unfolding shaped_by shaped
shape_given known fs text (code.Fits a) h none =
    ap (λ names. Ok (shaped (names ++ strangers fs (letting_names text)) (with_lettings known fs))) h.0
    ∙ ap (λ names. Ok (shaped names (with_lettings known fs))) none
    ∙ ap (λ x. Ok (fits x)) h.1
shape_given known fs text (code.WrongShape name) h none =
    let names : List Name = without_letting known fs ++ strangers fs (letting_names text) in
    let there : Contains names name = Contains-append_left (without_letting known fs) (strangers fs (letting_names text)) name h in
    (names, ap Ok (wrong_names names (with_lettings known fs) name there), there)

pub shape_strange : (known : Env) (fs : List Find) (text : TextTree) (name : Name) → Contains (strangers fs (letting_names text)) name
    → ShapeAnswers (Ok (code.WrongShape name)) (Ok (shaped_by fs known text))
unfolding shaped_by
shape_strange known fs text name h =
    let names : List Name = without_letting known fs ++ strangers fs (letting_names text) in
    let there : Contains names name = Contains-append_right (without_letting known fs) (strangers fs (letting_names text)) name h in
    (names, ap Ok (wrong_names names (with_lettings known fs) name there), there)

pub read_text : (mode m : Mode) (i : Instance) (text t : TextTree) → m ≡ mode → t ≡ text
    → read_solution mode i text ≡ and_next (bind_params m solution_text nothing_known (lettings_of t)) (λ known. Ok (shaped_by i.finds known text))
unfolding read_solution
read_text mode m i text t e same =
    ap (λ x. and_next (bind_params x solution_text nothing_known (lettings_of text)) (λ known. Ok (shaped_by i.finds known text))) (sym e)
    ∙ ap (λ x. and_next (bind_params m solution_text nothing_known (lettings_of x)) (λ known. Ok (shaped_by i.finds known text))) (sym same)

-- an answer to one thing answers what it is
pub shape_same : (answer : Result Shaped BindError) (whole one : Result defined.Shaped (List Refusal)) → whole ≡ one → ShapeAnswers answer one → ShapeAnswers answer whole
shape_same answer whole one w h = subst (ShapeAnswers answer) (sym w) h

-- ---- what is read fits

skip_first : (fs : List Find) (g : NamedValue) (a : Assigned) → AllByRecursion (λ name. bytes_eq g.name name ≡ false) (map (λ f. f.name) fs) → found_values fs (g ∷ a) ≡ found_values fs a
unfolding found_values named_in
skip_first [] g a h = refl
skip_first (f ∷ fs) g a h =
    ap (λ b. on_both (option_and_then (fitted_find f) (if b then Some g else named_in a f.name)) (found_values fs (g ∷ a)) (λ v rest. Some ((f.name, has_value (find_type f) v) ∷ rest))) h.0
    ∙ ap (λ others. on_both (option_and_then (fitted_find f) (named_in a f.name)) others (λ v rest. Some ((f.name, has_value (find_type f) v) ∷ rest))) (skip_first fs g a h.1)

found_first : (f : Find) (fs : List Find) (a : Assigned) (v : ValueTree) (found : Found)
    → AllByRecursion (λ name. bytes_eq f.name name ≡ false) (map (λ g. g.name) fs)
    → fitted_find f (record { name = f.name; ty = find_type f; value = v }) ≡ Some v
    → found_values fs a ≡ Some found
    → found_values (f ∷ fs) (record { name = f.name; ty = find_type f; value = v } ∷ a) ≡ Some ((f.name, has_value (find_type f) v) ∷ found)
unfolding found_values named_in on_both
found_first f fs a v found apart good rest =
    let g : NamedValue = record { name = f.name; ty = find_type f; value = v } in
    let F : ValueTree → Found → Option Found = λ v rest. Some ((f.name, has_value (find_type f) v) ∷ rest) in
    ap (λ b. on_both (option_and_then (fitted_find f) (if b then Some g else named_in a f.name)) (found_values fs (g ∷ a)) F) ((bytes_eq-Decides f.name f.name).1 refl)
    ∙ ap (λ o. on_both o (found_values fs (g ∷ a)) F) good
    ∙ ap (λ o. on_both (Some v) o F) (skip_first fs g a apart ∙ rest)

-- a decision variable with a letting that fits has a value that fits again
pub record HasValue (known : Env) (f : Find) : Type 0 where
  pub value : ValueTree
  pub reads : fitting_letting known f ≡ Some (record { name = f.name; ty = find_type f; value = value })
  pub again : fitted_find f (record { name = f.name; ty = find_type f; value = value }) ≡ Some value

shape_scalar : (s : Scalar) (is : List (List ℤ)) → scalar_of (shape_type s is) ≡ s
unfolding scalar_of of_scalar shape_type
shape_scalar Scalar.Bool [] = refl
shape_scalar Scalar.Int [] = refl
shape_scalar s (i ∷ is) = refl

value_again : (f : Find) (t : ValueType) (v w : ValueTree) → fitted_find f (record { name = f.name; ty = t; value = v }) ≡ Some w → fitted_find f (record { name = f.name; ty = find_type f; value = w }) ≡ Some w
unfolding fitted_find
value_again f t v w h =
    ap (λ s. fitted s f.scalar (has_number f.values) f.indices w) (shape_scalar f.scalar f.indices)
    ∙ fits_again (scalar_of t) f.scalar (has_number f.values) f.indices v w h

has_letting : (known : Env) (f : Find) (g : NamedValue) → fitting_letting known f ≡ Some g → HasValue known f
unfolding fitting_letting
has_letting known f g h =
    let G : ValueTree → NamedValue = λ x. record { name = f.name; ty = find_type f; value = x } in
    let F : ValueType × ValueTree → Option NamedValue = λ entry. option_map G (fitted_find f (record { name = f.name; ty = entry.0; value = entry.1 })) in
    let p : _ = then_is F (parameter (known f.name)) g h in
    let q : _ = map_is G (fitted_find f (record { name = f.name; ty = p.0.0; value = p.0.1 })) g p.2 in
    record { value = q.0; reads = h ∙ ap Some (sym q.2); again = value_again f p.0.0 p.0.1 q.0 q.1 }

-- decision variables have values that fit, with their names in their order
abbrev FitsAll : Env → List Find → Type 0
FitsAll known fs =
    (found : Found)
    × (found_values fs (with_lettings known fs) ≡ Some found)
    × (map (λ (g : NamedValue). g.name) (with_lettings known fs) ≡ map (λ (f : Find). f.name) fs)

fits_next : (known : Env) (f : Find) (fs : List Find) → AllByRecursion (λ name. bytes_eq f.name name ≡ false) (map (λ g. g.name) fs) → without_letting known (f ∷ fs) ≡ []
    → (without_letting known fs ≡ [] → FitsAll known fs) → FitsAll known (f ∷ fs)
fits_next known f fs apart none rest = go (fitting_letting known f) refl
  where
    go : (o : Option NamedValue) → fitting_letting known f ≡ o → FitsAll known (f ∷ fs)
    go None h = let e : [] ≡ f.name ∷ without_letting known fs = sym none ∙ lacks_first known f fs h in absurd cc
    go (Some g) h =
        let one : HasValue known f = has_letting known f g h in
        let v : NamedValue = record { name = f.name; ty = find_type f; value = one.value } in
        let r : FitsAll known fs = rest (sym (lacks_later known f fs g h) ∙ none) in
        let w : with_lettings known (f ∷ fs) ≡ v ∷ with_lettings known fs = with_first known f fs v one.reads in (
          (f.name, has_value (find_type f) one.value) ∷ r.0,
          ap (found_values (f ∷ fs)) w ∙ found_first f fs (with_lettings known fs) one.value r.0 apart one.again r.1,
          ap (map (λ (g : NamedValue). g.name)) w ∙ ap (λ ns. f.name ∷ ns) r.2,
        )

fits_all : (known : Env) (fs : List Find) → IsDistinct bytes_eq (map (λ f. f.name) fs) → without_letting known fs ≡ [] → FitsAll known fs
unfolding IsDistinct found_values with_lettings
fits_all known [] apart none = ([], refl, refl)
fits_all known (f ∷ fs) apart none = fits_next known f fs apart.0 none (fits_all known fs apart.1)

-- what is read fits
pub shape_fits : (i : Instance) (known : Env) (answer : Shaped) → IsClosed i → GivesEntries known i.finds answer → FitsIfShaped i answer
shape_fits i known (code.Fits a) closed h =
    let r : FitsAll known i.finds = fits_all known i.finds closed.distinct h.0 in
    let names : map (λ (g : NamedValue). g.name) (assigned a) ≡ map (λ (f : Find). f.name) i.finds = ap (map (λ (g : NamedValue). g.name)) (sym h.1) ∙ r.2 in (
      r.0,
      record {
        same_names = subst (λ ns. IsPermutation (map (λ (g : NamedValue). g.name) (assigned a)) ns) names (IsPermutation-refl (map (λ (g : NamedValue). g.name) (assigned a)));
        values = ap (found_values i.finds) (sym h.1) ∙ r.1;
      },
    )
shape_fits i known (code.WrongShape name) closed h = tt
