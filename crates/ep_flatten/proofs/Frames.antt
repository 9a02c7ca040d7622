-- One variable more changes nothing of the constraints on the others.
use Rattle.std.specs.Prelude.{◌≡◌, ℕ, ◌+◌, ◌<◌, Bool, false, ◌&&◌, ◌||◌, List, [], ◌∷◌, ◌++◌, length, map, ℤ, pos, ◌*ℤ◌, Option, Some, None, option_to_list, unwrap_or, slice_index_or, IsTrue, refl}
use Rattle.std.proofs.Common.{ap, arith, subst, sym, ◌∙◌}
use Rattle.std.specs.List.{All, AllZip, Contains, list_all, list_any}
use Rattle.std.specs.Ordering.{int_eq}
use Rattle.std.proofs.lemmas.List.{get_or_append_left, get_or_at}
use Rattle.std.proofs.lemmas.List.Elements.{All-head, All-tail, All-weaker}
use Rattle.ep_base.specs.Numbers.{absolute_of, are_different, compare_holds, counts_hold, greatest_of, has_number, is_one, is_row_of, least_of, lex_holds, nth_power, of_bool}
use Rattle.ep_base.specs.Reads.{safe_picked, safe_quotient, safe_remainder, same_bool, weighted_sum}
use Rattle.ep_base.specs.declared.operators.CompareOp.{CompareOp}
use Rattle.ep_flat.specs.Cons.{FlatKind, FlatCon, clause, all_of, same_truth, linear, member, product, quotient, remainder, power, absolute, least, greatest, element, all_different, counts, at_least, at_most, table, lex, con_holds, con_variables, is_as_said, is_value, kind_holds, kind_variables, number_at, numbers_of_vars}
use Rattle.ep_flat.specs.Flats.{NamesBelow}
use Rattle.ep_flatten.proofs.Unrolled.{all_left, all_right, map_same}

-- both give these variables the same numbers
abbrev pub Agree : List ℤ → List ℤ → List ℕ → Type 0
Agree u v xs = All (λ x. number_at u x ≡ number_at v x) xs

pub numbers_agree : (u v : List ℤ) (xs : List ℕ) → Agree u v xs → numbers_of_vars u xs ≡ numbers_of_vars v xs
unfolding numbers_of_vars
numbers_agree u v xs h = map_same (number_at u) (number_at v) xs h

first : (u v : List ℤ) (x : ℕ) (xs : List ℕ) → Agree u v (x ∷ xs) → number_at u x ≡ number_at v x
first u v x xs h = All-head (λ x. number_at u x ≡ number_at v x) x xs h

rest : (u v : List ℤ) (x : ℕ) (xs : List ℕ) → Agree u v (x ∷ xs) → Agree u v xs
rest u v x xs h = All-tail (λ x. number_at u x ≡ number_at v x) x xs h

clause_agrees : (u v : List ℤ) (parts : List (Bool × ℕ)) → Agree u v (map (λ p. p.1) parts)
    → list_any (λ p. same_bool (is_one (number_at u p.1)) p.0) parts ≡ list_any (λ p. same_bool (is_one (number_at v p.1)) p.0) parts
clause_agrees u v [] h = refl
clause_agrees u v (p ∷ parts) h =
    ap (λ n. same_bool (is_one n) p.0 || list_any (λ p. same_bool (is_one (number_at u p.1)) p.0) parts) (first u v p.1 (map (λ p. p.1) parts) h)
    ∙ ap (λ b. same_bool (is_one (number_at v p.1)) p.0 || b) (clause_agrees u v parts (rest u v p.1 (map (λ p. p.1) parts) h))

all_agrees : (u v : List ℤ) (xs : List ℕ) → Agree u v xs → list_all (λ x. is_one (number_at u x)) xs ≡ list_all (λ x. is_one (number_at v x)) xs
all_agrees u v [] h = refl
all_agrees u v (x ∷ xs) h =
    ap (λ n. is_one n && list_all (λ x. is_one (number_at u x)) xs) (first u v x xs h)
    ∙ ap (λ b. is_one (number_at v x) && b) (all_agrees u v xs (rest u v x xs h))

parts_agree : (u v : List ℤ) (parts : List (ℤ × ℕ)) → Agree u v (map (λ p. p.1) parts)
    → map {B = ℤ × ℤ} (λ p. (p.0, number_at u p.1)) parts ≡ map {B = ℤ × ℤ} (λ p. (p.0, number_at v p.1)) parts
parts_agree u v [] h = refl
parts_agree u v (p ∷ parts) h =
    ap (λ n. (p.0, n) ∷ map {B = ℤ × ℤ} (λ p. (p.0, number_at u p.1)) parts) (first u v p.1 (map (λ p. p.1) parts) h)
    ∙ ap (λ ps. (p.0, number_at v p.1) ∷ ps) (parts_agree u v parts (rest u v p.1 (map (λ p. p.1) parts) h))

two_agree : {A : Type 0} (f : ℤ → ℤ → A) (u v : List ℤ) (x y : ℕ) (xs : List ℕ) → Agree u v (x ∷ y ∷ xs) → f (number_at u x) (number_at u y) ≡ f (number_at v x) (number_at v y)
two_agree f u v x y xs h = ap (λ n. f n (number_at u y)) (first u v x (y ∷ xs) h) ∙ ap (λ n. f (number_at v x) n) (first u v y xs (rest u v x (y ∷ xs) h))

three_agree : {A : Type 0} (f : ℤ → ℤ → ℤ → A) (u v : List ℤ) (x y z : ℕ) → Agree u v (x ∷ y ∷ z ∷ []) → f (number_at u x) (number_at u y) (number_at u z) ≡ f (number_at v x) (number_at v y) (number_at v z)
three_agree f u v x y z h = ap (λ n. f n (number_at u y) (number_at u z)) (first u v x (y ∷ z ∷ []) h) ∙ two_agree (f (number_at v x)) u v y z [] (rest u v x (y ∷ z ∷ []) h)

list_agrees : {A : Type 0} (f : ℤ → List ℤ → A) (u v : List ℤ) (r : ℕ) (xs : List ℕ) → Agree u v (r ∷ xs) → f (number_at u r) (numbers_of_vars u xs) ≡ f (number_at v r) (numbers_of_vars v xs)
list_agrees f u v r xs h = ap (λ n. f n (numbers_of_vars u xs)) (first u v r xs h) ∙ ap (f (number_at v r)) (numbers_agree u v xs (rest u v r xs h))

lists_agree : {A : Type 0} (f : List ℤ → List ℤ → A) (u v : List ℤ) (xs ys : List ℕ) → Agree u v (xs ++ ys) → f (numbers_of_vars u xs) (numbers_of_vars u ys) ≡ f (numbers_of_vars v xs) (numbers_of_vars v ys)
lists_agree f u v xs ys h =
    ap (λ ns. f ns (numbers_of_vars u ys)) (numbers_agree u v xs (all_left (λ x. number_at u x ≡ number_at v x) xs ys h))
    ∙ ap (λ ns. f (numbers_of_vars v xs) ns) (numbers_agree u v ys (all_right (λ x. number_at u x ≡ number_at v x) xs ys h))

pub kind_agrees : (u v : List ℤ) (kind : FlatKind) → Agree u v (kind_variables kind) → kind_holds u kind ≡ kind_holds v kind
unfolding kind_holds kind_variables
kind_agrees u v (clause parts) h = clause_agrees u v parts h
kind_agrees u v (all_of xs) h = all_agrees u v xs h
kind_agrees u v (same_truth x y) h = two_agree (λ m n. same_bool (is_one m) (is_one n)) u v x y [] h
kind_agrees u v (linear parts op c) h = ap (λ ps. compare_holds op (weighted_sum ps) c) (parts_agree u v parts h)
kind_agrees u v (member x ns) h = ap (has_number ns) (first u v x [] h)
kind_agrees u v (product r x y) h = three_agree (λ n a b. int_eq n (a *ℤ b)) u v r x y h
kind_agrees u v (quotient r x y) h = three_agree (λ n a b. int_eq n (safe_quotient a b)) u v r x y h
kind_agrees u v (remainder r x y) h = three_agree (λ n a b. int_eq n (safe_remainder a b)) u v r x y h
kind_agrees u v (power r x n) h = two_agree (λ m a. int_eq m (nth_power a n)) u v r x [] h
kind_agrees u v (absolute r x) h = two_agree (λ m a. int_eq m (absolute_of a)) u v r x [] h
kind_agrees u v (least r xs) h = list_agrees (λ n ns. is_value (least_of ns) n) u v r xs h
kind_agrees u v (greatest r xs) h = list_agrees (λ n ns. is_value (greatest_of ns) n) u v r xs h
kind_agrees u v (element r xs keys indices) h =
    ap (λ n. int_eq n (safe_picked (numbers_of_vars u xs) keys (numbers_of_vars u indices))) (first u v r (xs ++ indices) h)
    ∙ lists_agree (λ ms ns. int_eq (number_at v r) (safe_picked ms keys ns)) u v xs indices (rest u v r (xs ++ indices) h)
kind_agrees u v (all_different xs) h = ap are_different (numbers_agree u v xs h)
kind_agrees u v (counts xs ns cs) h = lists_agree (λ ms ks. unwrap_or (counts_hold CompareOp.Equal ms ns ks) false) u v xs cs h
kind_agrees u v (at_least xs cs ns) h = ap (λ ms. unwrap_or (counts_hold CompareOp.AtLeast ms ns cs) false) (numbers_agree u v xs h)
kind_agrees u v (at_most xs cs ns) h = ap (λ ms. unwrap_or (counts_hold CompareOp.AtMost ms ns cs) false) (numbers_agree u v xs h)
kind_agrees u v (table xs rows) h = ap (λ ms. unwrap_or (is_row_of rows ms) false) (numbers_agree u v xs h)
kind_agrees u v (lex op xs ys) h = lists_agree (lex_holds op) u v xs ys h

said_agrees : (u v : List ℤ) (truth : Option ℕ) (b : Bool) → Agree u v (option_to_list truth) → is_as_said u truth b ≡ is_as_said v truth b
unfolding is_as_said
said_agrees u v None b k = refl
said_agrees u v (Some t) b k = ap (λ n. int_eq n (of_bool b)) (first u v t [] k)

-- a constraint holds or not by the numbers of its variables alone
pub con_agrees : (u v : List ℤ) (con : FlatCon) → Agree u v (con_variables con) → con_holds u con ≡ con_holds v con
unfolding con_holds con_variables
con_agrees u v con h =
    ap (is_as_said u con.truth) (kind_agrees u v con.kind (all_right (λ x. number_at u x ≡ number_at v x) (option_to_list con.truth) (kind_variables con.kind) h))
    ∙ said_agrees u v con.truth (kind_holds v con.kind) (all_left (λ x. number_at u x ≡ number_at v x) (option_to_list con.truth) (kind_variables con.kind) h)

-- numbers of the variables, and one more at the end
pub earlier : (values : List ℤ) (n : ℤ) (x : ℕ) → x < length values → number_at (values ++ n ∷ []) x ≡ number_at values x
unfolding number_at
earlier values n x h = get_or_append_left values (n ∷ []) (pos 0) x h

pub at_end : (values : List ℤ) (n : ℤ) (r : ℕ) → length values ≡ r → number_at (values ++ n ∷ []) r ≡ n
unfolding number_at
at_end values n r h = get_or_at values n [] (pos 0) r h

pub con_stays : (values : List ℤ) (n : ℤ) (con : FlatCon) → NamesBelow (length values) con → con_holds (values ++ n ∷ []) con ≡ con_holds values con
con_stays values n con h =
    con_agrees (values ++ n ∷ []) values con (All-weaker (λ x. x < length values) (λ x. number_at (values ++ n ∷ []) x ≡ number_at values x) (earlier values n) (con_variables con) h)

pub cons_stay : (values : List ℤ) (n : ℤ) (cons : List FlatCon) → All (NamesBelow (length values)) cons → All (λ con. IsTrue (con_holds values con)) cons → All (λ con. IsTrue (con_holds (values ++ n ∷ []) con)) cons
cons_stay values n cons names h = λ k d l. subst IsTrue (sym (con_stays values n (slice_index_or cons k d) (names k d l))) (h k d l)

pub cons_back : (values : List ℤ) (n : ℤ) (cons : List FlatCon) → All (NamesBelow (length values)) cons → All (λ con. IsTrue (con_holds (values ++ n ∷ []) con)) cons → All (λ con. IsTrue (con_holds values con)) cons
cons_back values n cons names h = λ k d l. subst IsTrue (con_stays values n (slice_index_or cons k d) (names k d l)) (h k d l)

pub names_more : (m : ℕ) (cons : List FlatCon) → All (NamesBelow m) cons → All (NamesBelow (m + 1)) cons
names_more m cons h = All-weaker (NamesBelow m) (NamesBelow (m + 1)) (λ con k. All-weaker (λ x. x < m) (λ x. x < m + 1) (λ x l. omega (arith, l)) (con_variables con) k) cons h

-- numbers of one more domain, and of the domains without it
pub domains_more : (vars : List (List ℤ)) (values : List ℤ) (d : List ℤ) (n : ℤ) → AllZip Contains vars values → Contains d n → AllZip Contains (vars ++ d ∷ []) (values ++ n ∷ [])
domains_more [] [] d n h k = (k, tt)
domains_more [] (v ∷ values) d n h k = absurd h
domains_more (var ∷ vars) [] d n h k = absurd h
domains_more (var ∷ vars) (v ∷ values) d n h k = (h.0, domains_more vars values d n h.1 k)

-- numbers of domains of which the last is this
pub record EndsIn (vars : List (List ℤ)) (d : List ℤ) (values : List ℤ) : Type 0 where
  pub front : List ℤ
  pub last : ℤ
  pub is : values ≡ front ++ last ∷ []
  pub domains : AllZip Contains vars front
  pub has : Contains d last

pub domains_split : (vars : List (List ℤ)) (d values : List ℤ) → AllZip Contains (vars ++ d ∷ []) values → EndsIn vars d values
domains_split [] d [] h = absurd h
domains_split [] d (n ∷ []) h = record { front = []; last = n; is = refl; domains = tt; has = h.0 }
domains_split [] d (n ∷ m ∷ values) h = absurd h.1
domains_split (var ∷ vars) d [] h = absurd h
domains_split (var ∷ vars) d (v ∷ values) h =
    let s = domains_split vars d values h.1 in
    record { front = v ∷ s.front; last = s.last; is = ap (λ ns. v ∷ ns) s.is; domains = (h.0, s.domains); has = s.has }
