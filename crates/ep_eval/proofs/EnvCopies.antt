-- An environment that is copied name by name.
use Rattle.ep_eval.proofs.Words.{◌≡◌, ◌⊎◌, ℕ, ◌+◌, ◌≤◌, Bool, true, false, List, [], ◌∷◌, ◌++◌, length, take, refl, sym, ap, ◌∙◌, inl, inr, subst, cond, Some, None, option_map, bytes_eq, slice_get, if◌then◌else◌, lookup, take_all, take_more, get_or_from_slice_get, slice_get_within, bytes_eq-Decides, no_some, Name, Env, nothing_known, put, bound_of}
use Rattle.ep_eval.specs.declared.environments.Meaning.{Meaning}
use Rattle.ep_eval.proofs.KnownNames.{entries_env}

-- a name that isn't among some entries
abbrev pub IsAbsent : Name → List (Name × Meaning) → Type 0
IsAbsent q es = lookup (bytes_eq q) es ≡ None

-- each name stands for what it stands for in the whole, or it stands for nothing and none of these entries has it
abbrev pub IsCopied : Env → Env → List (Name × Meaning) → Type 0
IsCopied whole copy es = (q : Name) → (copy q ≡ whole q) ⊎ ((copy q ≡ None) × IsAbsent q es)

-- what isn't among entries isn't behind one with another name
absent_behind : (q k : Name) (m : Meaning) (es : List (Name × Meaning)) → IsAbsent q es → bytes_eq q k ≡ false → IsAbsent q (es ++ (k, m) ∷ [])
absent_behind q k m [] none other = ap (λ c. cond c (Some m) None) other
absent_behind q k m (e ∷ es) none other = by (bytes_eq q e.0) none (λ rest. absent_behind q k m es rest other)
  where
    by : (b : Bool) → cond b (Some e.1) (lookup (bytes_eq q) es) ≡ None → (IsAbsent q es → IsAbsent q (es ++ (k, m) ∷ []))
        → cond b (Some e.1) (lookup (bytes_eq q) (es ++ (k, m) ∷ [])) ≡ None
    by true none behind = no_some (sym none)
    by false none behind = behind none

pub none_copied : (whole copy : Env) (es : List (Name × Meaning)) → copy ≡ nothing_known → IsCopied whole copy (take 0 es)
none_copied whole copy es h q = inr (ap (λ (env : Env). env q) h, refl)

-- one entry more
copied_behind :
    (whole copy : Env) (k : Name) (m : Meaning) (es : List (Name × Meaning)) → IsCopied whole copy es → whole k ≡ Some (bound_of m)
    → IsCopied whole (put k (bound_of m) copy) (es ++ (k, m) ∷ [])
copied_behind whole copy k m es before same q = by (bytes_eq q k) refl
  where
    other : bytes_eq q k ≡ false → (copy q ≡ whole q) ⊎ ((copy q ≡ None) × IsAbsent q es)
        → (copy q ≡ whole q) ⊎ ((copy q ≡ None) × IsAbsent q (es ++ (k, m) ∷ []))
    other h (inl e) = inl e
    other h (inr (none, absent)) = inr (none, absent_behind q k m es absent h)

    by : (b : Bool) → bytes_eq q k ≡ b
        → ((if b then Some (bound_of m) else copy q) ≡ whole q) ⊎ (((if b then Some (bound_of m) else copy q) ≡ None) × IsAbsent q (es ++ (k, m) ∷ []))
    by true h = inl (sym same ∙ ap whole (sym ((bytes_eq-Decides q k).0 h)))
    by false h = other h (before q)

pub one_copied :
    (whole copy new : Env) (k : Name) (m : Meaning) (es : List (Name × Meaning)) (i : ℕ)
    → IsCopied whole copy (take i es) → slice_get es i ≡ Some (k, m) → whole k ≡ Some (bound_of m) → new ≡ put k (bound_of m) copy
    → IsCopied whole new (take (i + 1) es)
one_copied whole copy new k m es i before at same put_in =
    let front : take (i + 1) es ≡ take i es ++ (k, m) ∷ [] =
    take_more es i (k, m) (slice_get_within es i (k, m) at)
    ∙ ap (λ (e : Name × Meaning). take i es ++ e ∷ []) (get_or_from_slice_get es i (k, m) (k, m) at) in
    subst (λ (env : Env). IsCopied whole env (take (i + 1) es)) (sym put_in)
    (subst (λ (l : List (Name × Meaning)). IsCopied whole (put k (bound_of m) copy) l) (sym front)
    (copied_behind whole copy k m (take i es) before same))

-- after all entries the copy is the same environment
pub all_copied : (copy : Env) (es : List (Name × Meaning)) (i : ℕ) → length es ≤ i → IsCopied (entries_env es) copy (take i es) → copy ≡ entries_env es
all_copied copy es i past copied = λ j q. at q j
  where
    by : (q : Name) → (copy q ≡ entries_env es q) ⊎ ((copy q ≡ None) × IsAbsent q (take i es)) → copy q ≡ entries_env es q
    by q (inl e) = e
    by q (inr (none, absent)) =
        none ∙ ap (option_map bound_of) (sym (ap (lookup (bytes_eq q)) (sym (take_all i es past)) ∙ absent))

    at : (q : Name) → copy q ≡ entries_env es q
    at q = by q (copied q)
