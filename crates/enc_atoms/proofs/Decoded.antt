-- The numbers that assignments give variables: they depend on the literals alone, are of the domains, and those of an
-- earlier layout are the first ones of a later layout.
use Rattle.std.proofs.Common.{◌≡◌, ℕ, zero, suc, ◌<◌, ℤ, Bool, List, [], ◌∷◌, ◌++◌, length, map, take, refl, sym, ap, subst, ◌∙◌, arith, pos}
use Rattle.std.specs.List.{All, Contains}
use Rattle.std.proofs.lemmas.List.{get_or-take, get_or_append_left, get_or_push, length-map, map-append, take-map}
use Rattle.std.proofs.lemmas.List.Elements.{All-head, All-tail, filter_agree}
use Rattle.cnf_core.specs.Clauses.{AgreeUpTo}
use Rattle.ep_base.specs.Reads.{first_or_zero, same_bool}
use Rattle.enc_var.specs.Decoding.{HasLiteralsUpTo, IsKnownUpTo, Means, VariableLiterals, decoded, eq_of, known_holds, literal_holds}
use Rattle.enc_var.specs.Layouts.{decoded_values, literals_at}
use Rattle.enc_var.specs.declared.known.Known.{Known}
use Rattle.enc_var.specs.declared.known.Known.TheVariants as known
use Rattle.ep_flat.specs.Cons.{number_at}
use Rattle.enc_atoms.specs.Atoms.{AreOfDomains}

-- what is known is so under both of two assignments that agree on the literal's variable
pub known_along : (most : ℕ) (s t : ℕ → Bool) (k : Known) → AgreeUpTo most s t → IsKnownUpTo most k → known_holds s k ≡ known_holds t k
unfolding known_holds IsKnownUpTo literal_holds
known_along most s t known.True agree h = refl
known_along most s t known.False agree h = refl
known_along most s t (known.Is l) agree h = ap (λ b. same_bool b l.positive) (agree l.var h.0.0 h.1)

-- a variable has one number under both of two assignments that agree on its literals
pub decoded_along : (most : ℕ) (s t : ℕ → Bool) (e : VariableLiterals) → AgreeUpTo most s t → HasLiteralsUpTo most e → decoded s e ≡ decoded t e
unfolding decoded
decoded_along most s t e agree h =
    ap first_or_zero (filter_agree (λ v. known_holds s (eq_of e v)) (λ v. known_holds t (eq_of e v)) (λ v. known_along most s t (eq_of e v) agree (h.equal v)) e.domain)

pub values_along : (most : ℕ) (s t : ℕ → Bool) (layout : List VariableLiterals) → AgreeUpTo most s t → All (HasLiteralsUpTo most) layout → decoded_values layout s ≡ decoded_values layout t
unfolding decoded_values
values_along most s t [] agree h = refl
values_along most s t (e ∷ layout) agree h =
    ap (λ v. v ∷ map (decoded s) layout) (decoded_along most s t e agree (All-head (HasLiteralsUpTo most) e layout h))
    ∙ ap (λ vs. decoded t e ∷ vs) (values_along most s t layout agree (All-tail (HasLiteralsUpTo most) e layout h))

pub length_values : (layout : List VariableLiterals) (s : ℕ → Bool) → length (decoded_values layout s) ≡ length layout
unfolding decoded_values
length_values layout s = length-map layout (decoded s)

-- the numbers of an earlier layout are the first ones of a later layout's
pub values_front : (layout later : List VariableLiterals) (s : ℕ → Bool) → take (length layout) later ≡ layout → take (length layout) (decoded_values later s) ≡ decoded_values layout s
unfolding decoded_values
values_front layout later s earlier = take-map (decoded s) (length layout) later ∙ ap (map (decoded s)) earlier

-- the numbers with one more variable
pub values_push : (layout : List VariableLiterals) (e : VariableLiterals) (s : ℕ → Bool) → decoded_values (layout ++ e ∷ []) s ≡ decoded_values layout s ++ decoded s e ∷ []
unfolding decoded_values
values_push layout e s = map-append (decoded s) layout (e ∷ [])

-- where the literals mean what they say, the numbers are of the domains
pub values_among : (layout : List VariableLiterals) (s : ℕ → Bool) → All (Means s) layout → AreOfDomains layout (decoded_values layout s)
unfolding decoded_values
values_among [] s h = tt
values_among (e ∷ layout) s h = ((All-head (Means s) e layout h).among, values_among layout s (All-tail (Means s) e layout h))

-- numbers of domains: as many as variables, and each of its variable's domain
pub length_among : (layout : List VariableLiterals) (values : List ℤ) → AreOfDomains layout values → length values ≡ length layout
length_among [] [] h = refl
length_among [] (v ∷ values) h = absurd h
length_among (e ∷ layout) [] h = absurd h
length_among (e ∷ layout) (v ∷ values) h = ap suc (length_among layout values h.1)

pub number_among : (layout : List VariableLiterals) (values : List ℤ) (x : ℕ) → AreOfDomains layout values → x < length layout → Contains (literals_at layout x).domain (number_at values x)
unfolding number_at
number_among [] values x h low = absurd (omega (arith, low))
number_among (e ∷ layout) [] x h low = absurd h
number_among (e ∷ layout) (v ∷ values) zero h low = h.0
number_among (e ∷ layout) (v ∷ values) (suc x) h low = number_among layout values x h.1 (omega (arith, low))

-- one more number, of the domain of one more variable
pub among_push : (layout : List VariableLiterals) (e : VariableLiterals) (values : List ℤ) (v : ℤ) → AreOfDomains layout values → Contains e.domain v → AreOfDomains (layout ++ e ∷ []) (values ++ v ∷ [])
among_push [] e [] v h found = (found, tt)
among_push [] e (w ∷ values) v h found = absurd h
among_push (d ∷ layout) e [] v h found = absurd h
among_push (d ∷ layout) e (w ∷ values) v h found = (h.0, among_push layout e values v h.1 found)

-- the first numbers are of the first domains
pub among_front : (layout later : List VariableLiterals) (values : List ℤ) → take (length layout) later ≡ layout → AreOfDomains later values → AreOfDomains layout (take (length layout) values)
among_front layout later values earlier h = subst (λ es. AreOfDomains es (take (length layout) values)) earlier (front (length layout) later values h)
  where
    front : (n : ℕ) (es : List VariableLiterals) (vs : List ℤ) → AreOfDomains es vs → AreOfDomains (take n es) (take n vs)
    front zero es vs h = tt
    front (suc n) [] [] h = tt
    front (suc n) [] (v ∷ vs) h = absurd h
    front (suc n) (e ∷ es) [] h = absurd h
    front (suc n) (e ∷ es) (v ∷ vs) h = (h.0, front n es vs h.1)

-- the number of a variable among the first ones
pub number_front : (values : List ℤ) (n x : ℕ) → x < n → number_at (take n values) x ≡ number_at values x
unfolding number_at
number_front values n x low = get_or-take n values x (pos 0) low

-- the numbers of the variables before a new one, and of the new one
pub number_before : (values : List ℤ) (v : ℤ) (x : ℕ) → x < length values → number_at (values ++ v ∷ []) x ≡ number_at values x
unfolding number_at
number_before values v x low = get_or_append_left values (v ∷ []) (pos 0) x low

pub number_last : (values : List ℤ) (v : ℤ) (x : ℕ) → x ≡ length values → number_at (values ++ v ∷ []) x ≡ v
unfolding number_at
number_last values v x is = get_or_push values v (pos 0) x (sym is)
