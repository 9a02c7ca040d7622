-- Steps of the proofs on rules and names.
use Rattle.std.specs.Prelude.{◌≡◌, ℕ, Bool, true, false, List, [], ◌∷◌, ◌++◌, if◌then◌else◌, bytes_eq, Some, None, Ok, Err, Option, option_map, length, take, ◌≤◌, ◌<◌, ◌+◌, ◌-◌, refl}
use Rattle.std.proofs.Common.{ap, arith, sym, ◌∙◌}
use Rattle.std.proofs.lemmas.List.{take_more}
use Rattle.std.specs.Prelude.{slice_index_or}
use Rattle.std.specs.Borrow.{Bor}
use Rattle.std.specs.Map.{lookup}
use Rattle.ep_base.specs.declared.names.Name.{Name}
use Rattle.ep_base.specs.declared.places.Place.{Place}
use Rattle.ep_tree.specs.Faults.{Fault, ill_typed, unknown_name, wrong_category}
use Rattle.ep_tree.specs.Names.{put}
use Rattle.ep_tree.specs.Types as types
use Rattle.ep_tree.specs.Types.{Context}
use Rattle.ep_tree.specs.declared.values.ValueType.{ValueType}
use Rattle.ep_types_rules.proofs.Said.{wrong_category_says}
use Rattle.ep_types_rules.specs.Concluding.{Checked}
use Rattle.ep_types_rules.specs.Named.{IsUnknown, fault_of}
use Rattle.ep_types_rules.specs.declared.errors.StaticError.{StaticError}
use Rattle.ep_types_rules.specs.declared.errors.StaticError.TheVariants.{WrongCategory}
use Rattle.ep_types.specs.Checking.{check_domain_name, check_name, check_value}
use Rattle.ep_types.specs.Meanings.{behind_names, known_by, meaning_of}
use Rattle.ep_types.specs.declared.names.Meaning.{Meaning}
use Rattle.ep_types.specs.declared.names.Meaning.TheVariants.{Domain, Value}

-- ---- names

pub behind_more : (es : List (Bor (List ℕ) × Meaning)) (e : Bor (List ℕ) × Meaning) (c : Context) → behind_names (es ++ e ∷ []) c ≡ put e.0.now (meaning_of e.1) (behind_names es c)
unfolding behind_names
behind_more [] e c = refl
behind_more (x ∷ es) e c = behind_more es e (put x.0.now (meaning_of x.1) c)

-- a name as an expression, by what it stands for
pub named_none : (d : Bool) (p : Place) (name : Name) (m : Option types.Meaning) → m ≡ None → check_name d p name m ≡ Err (unknown_name p name)
unfolding check_name
named_none d p name m e = rw e refl

pub named_domain : (d : Bool) (p : Place) (name : Name) (m : Option types.Meaning) (t : ValueType) → m ≡ Some (meaning_of (Domain t)) → check_name d p name m ≡ Err (ill_typed p)
unfolding check_name meaning_of
named_domain d p name m t e = rw e refl

pub named_value : (d : Bool) (p : Place) (name : Name) (m : Option types.Meaning) (t : ValueType) (b : Bool) → m ≡ Some (meaning_of (Value t b)) → check_name d p name m ≡ check_value d p t b
unfolding check_name meaning_of
named_value d p name m t b e = rw e refl

pub may_not : (d : Bool) (p : Place) (t : ValueType) (b : Bool) → b ≡ true → d ≡ false → check_value d p t b ≡ Err (wrong_category p)
unfolding check_value
may_not d p t b e h = rw (e, h) refl

pub may_always : (d : Bool) (p : Place) (t : ValueType) (b : Bool) → b ≡ false → check_value d p t b ≡ Ok t
unfolding check_value
may_always true p t b e = rw e refl
may_always false p t b e = rw e refl

pub may_here : (d : Bool) (p : Place) (t : ValueType) (b : Bool) → d ≡ true → check_value d p t b ≡ Ok t
unfolding check_value
may_here d p t true h = rw h refl
may_here d p t false h = refl

pub wrong_category_is : {A : Type 0} (p : Place) (check : Checked A) → check ≡ Err (wrong_category p) → (fault : Fault) → fault_of (WrongCategory p) ≡ Some fault → check ≡ Err fault
wrong_category_is p check e fault s = e ∙ wrong_category_says p fault s

-- a name as a domain
pub domain_none : (p : Place) (name : Name) (m : Option types.Meaning) → m ≡ None → check_domain_name p name m ≡ Err (unknown_name p name)
unfolding check_domain_name
domain_none p name m e = rw e refl

pub domain_value : (p : Place) (name : Name) (m : Option types.Meaning) (t : ValueType) (b : Bool) → m ≡ Some (meaning_of (Value t b)) → check_domain_name p name m ≡ Err (ill_typed p)
unfolding check_domain_name meaning_of
domain_value p name m t b e = rw e refl

pub domain_domain : (p : Place) (name : Name) (m : Option types.Meaning) (t : ValueType) → m ≡ Some (meaning_of (Domain t)) → check_domain_name p name m ≡ Ok t
unfolding check_domain_name meaning_of
domain_domain p name m t e = rw e refl

pub unknown_is : {A : Type 0} (p : Place) (name : Name) (error : StaticError) (check : Checked A) → IsUnknown p name error → check ≡ Err (unknown_name p name)
    → (fault : Fault) → fault_of error ≡ Some fault → check ≡ Err fault
unknown_is p name error check u e fault s = e ∙ ap Err (u fault s)

-- ---- names that are sought from the last on

abbrev Entry : Type 0
Entry = Bor (List ℕ) × Meaning

-- what is known behind one more name
pub behind_at : (es : List Entry) (k : ℕ) (d : Entry) (name : Name) (c : Context) → 0 < k → k ≤ length es
    → behind_names (take k es) c name ≡ put (slice_index_or es (k - 1) d).0.now (meaning_of (slice_index_or es (k - 1) d).1) (behind_names (take (k - 1) es) c) name
behind_at es k d name c h g =
    let at : (k - 1) + 1 ≡ k = omega (arith, h) in
    let here : take k es ≡ take (k - 1) es ++ slice_index_or es (k - 1) d ∷ [] =
    ap (λ n. take n es) (sym at) ∙ take_more es (k - 1) d (omega (arith, h, g)) in
    ap (λ xs. behind_names xs c name) here ∙ ap (λ f. f name) (behind_more (take (k - 1) es) (slice_index_or es (k - 1) d) c)

pub behind_other : (es : List Entry) (k : ℕ) (d : Entry) (name : Name) (c : Context) → 0 < k → k ≤ length es
    → bytes_eq name (slice_index_or es (k - 1) d).0.now ≡ false → behind_names (take k es) c name ≡ behind_names (take (k - 1) es) c name
behind_other es k d name c h g other = behind_at es k d name c h g ∙ rw other refl

pub behind_this : (es : List Entry) (k : ℕ) (d : Entry) (name : Name) (c : Context) → 0 < k → k ≤ length es
    → bytes_eq name (slice_index_or es (k - 1) d).0.now ≡ true → behind_names (take k es) c name ≡ Some (meaning_of (slice_index_or es (k - 1) d).1)
behind_this es k d name c h g same = behind_at es k d name c h g ∙ rw same refl

pub behind_nothing : (es : List Entry) (k : ℕ) (name : Name) (c : Context) → k ≡ 0 → behind_names (take k es) c name ≡ c name
unfolding behind_names
behind_nothing es k name c e = rw e refl

-- a table without a name twice is looked up by its first entry
pub lookup_known : (test : Bor (List ℕ) → Bool) (name : Name) → ((key : Bor (List ℕ)) → test key ≡ bytes_eq name key.now) → (es : List Entry)
    → option_map meaning_of (lookup test es) ≡ known_by es name
unfolding known_by
lookup_known test name is [] = refl
lookup_known test name is (e ∷ es) = rw (is e.0) (go (bytes_eq name e.0.now) (lookup_known test name is es))
  where
    go : (b : Bool) → option_map meaning_of (lookup test es) ≡ known_by es name
        → option_map meaning_of (if b then Some e.1 else lookup test es) ≡ (if b then Some (meaning_of e.1) else known_by es name)
    go true h = refl
    go false h = h
