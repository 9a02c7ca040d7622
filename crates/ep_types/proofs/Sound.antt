-- Checking finds a fault that stands, and a type only where none stands.
use Rattle.std.specs.Prelude.{bytes_eq, is_none, is_some, unwrap_or, ◌≡◌, Bool, true, false, not, ◌&&◌, ◌||◌, List, [], ◌∷◌, ◌++◌, map, Some, None, Ok, Err, Contains, Option, flat_map, if◌then◌else◌, option_map, refl}
use Rattle.std.proofs.Common.{ap, subst, sym, ◌∙◌}
use Rattle.std.proofs.lemmas.List.{append_assoc}
use Rattle.std.proofs.lemmas.List.Elements.{Contains-append_left, Contains-append_right, Contains-push}
use Rattle.std.specs.List.{list_all}
use Rattle.ep_base.specs.declared.names.Name.{Name}
use Rattle.ep_base.specs.declared.places.Place.{Place}
use Rattle.ep_tree.specs.Faults.{Fault, after_group, after_groups, after_statement, branching_faults, clause_faults, declaration_faults, declare, domain_faults, domain_meaning, faults_after, goal_faults, group_faults, group_meaning, letting_meaning, redeclared, stated_faults, statement_faults, domain_name_faults, end_faults, entry_count, faults, faults_of_all, faults_of_domains, faults_of_generators, faults_of_indices, faults_of_ranges, faults_of_terms, has_open_range, ill_typed, index_faults, is_power, leaves_matrix, name_faults, open_domain, type_fault, unknown_name, unless, wrong_category}
use Rattle.ep_tree.specs.Names.{put}
use Rattle.ep_tree.specs.Statements.{Group, StatementTree, TextTree, branching, constraints, decided, domain_letting, given, heuristic, letting, objective, requirements}
use Rattle.ep_tree.specs.Trees.{place_of, DomainTree, Domains, End, ExprTree, ExprTrees, Generators, IndexDomain, Indices, Ranges, Terms, absolute, all_different, all_of, any_of, at_least, at_most, binary, bool, chain, compare, comprehension, domain_and, end_at, every_and, factorial, flatten, folded, gcc, generator_and, group, group_domain, in_domain, in_set, index_and, int, lex, literal, matrix_domain, minus, named, named_domain, negation, no_domains, no_end, no_generators, no_indices, no_ranges, no_terms, no_trees, number, one_and, over, quantified, ranges, read, set_domain, span_and, table, term_and, to_int, tree_and, truth, unstated}
use Rattle.ep_tree.specs.Types.{Context, Judged, Meaning, a_domain, a_value, all_typed, are_lists, binary_type, both_scalars, comprehension_type, folded_type, from_all, from_many, from_one, from_three, from_two, gives, has_dimensions, indexed_type, inside, inside_all, is_boolean, is_integer, is_matrix, judge, judge_all, judge_domain, judge_domains, judge_end, judge_generators, judge_index, judge_indices, judge_ranges, judge_terms, list_of_matrices, list_type, matrix_type, mistyped, named_domain_type, named_type, of_scalar, quantified_name, quantified_type, read_type, reading_contexts, scalar_of, slice_count, stated_dimensions, type_from, typed, untyped}
use Rattle.ep_tree.specs.declared.syntax.BinaryOp.{BinaryOp}
use Rattle.ep_tree.specs.declared.syntax.FoldOp.{FoldOp}
use Rattle.ep_tree.specs.declared.syntax.QuantOp.{QuantOp}
use Rattle.ep_tree.specs.declared.values.ValueType.{ValueType}
use Rattle.ep_types_rules.specs.Concluding.{Checked, conclude, quantified_over, unless_fault, ◌>>=◌}
use Rattle.ep_types.specs.Checking.{check, check_all, check_domain, check_domain_name, check_domains, check_end, check_generators, check_index, check_indices, check_name, check_ranges, check_branching, check_clause, check_value, check_clauses, check_declared, check_goal, check_groups, check_readings, check_stated, check_statement, check_terms, check_text}

-- what a check says is right of these faults: none stands, and something holds of what is checked; or the fault stands
abbrev pub Sound : {A : Type 0} → List Fault → (A → Type 0) → Checked A → Type 0
Sound fs P (Ok x) = (fs ≡ []) × P x
Sound fs P (Err fault) = Contains fs fault

-- a judgement that doesn't say that a part has no type
abbrev pub Settled : Judged → Type 0
Settled (typed t) = Unit {0}
Settled mistyped = Unit {0}
Settled untyped = ⊥

no_more : (xs ys : List Fault) → xs ≡ [] → ys ≡ [] → xs ++ ys ≡ []
no_more xs ys p q = rw (p, q) refl

-- the first of some faults stands
first_stands : (fault : Fault) (others : List Fault) → Contains (fault ∷ others) fault
first_stands fault others = Contains-append_left (fault ∷ []) others fault (Contains-push [] fault)

-- ---- one check after another

-- a check, and another that sees what it gives
pub after : {A B : Type 0} (fs gs : List Fault) (P : A → Type 0) (Q : B → Type 0) (one : Checked A) (next : A → Checked B)
    → Sound fs P one → ((x : A) → P x → Sound gs Q (next x)) → Sound (fs ++ gs) Q (one >>= next)
after fs gs P Q (Err fault) next h g = Contains-append_left fs gs fault h
after {A} {B} fs gs P Q (Ok x) next h g = go (next x) (g x h.1)
  where
    go : (y : Checked B) → Sound gs Q y → Sound (fs ++ gs) Q y
    go (Ok y) s = (no_more fs gs h.0 s.0, s.1)
    go (Err fault) s = Contains-append_right fs gs fault s

-- the same, where what is concluded doesn't need more faults
pub then_says : {A B : Type 0} (fs : List Fault) (P : A → Type 0) (Q : B → Type 0) (one : Checked A) (f : A → B)
    → Sound fs P one → ((x : A) → P x → Q (f x)) → Sound fs Q (one >>= λ x. Ok (f x))
then_says fs P Q (Err fault) f h g = h
then_says fs P Q (Ok x) f h g = (h.0, g x h.1)

-- faults in front of which another list stands
pub behind : {B : Type 0} (fs gs : List Fault) (Q : B → Type 0) (y : Checked B) → fs ≡ [] → Sound gs Q y → Sound (fs ++ gs) Q y
behind fs gs Q (Ok y) e s = (no_more fs gs e s.0, s.1)
behind fs gs Q (Err fault) e s = Contains-append_right fs gs fault s

-- the conclusion at a node
pub concluded : (p : Place) (judged rule : Judged) → judged ≡ rule → Settled rule
    → Sound (type_fault p judged) (λ t. judged ≡ typed t) (conclude p rule)
unfolding type_fault
concluded p judged rule e s = subst (λ j. Sound (type_fault p j) (λ t. j ≡ typed t) (conclude p rule)) (sym e) (go rule s)
  where
    go : (j : Judged) → Settled j → Sound (type_fault p j) (λ t. j ≡ typed t) (conclude p j)
    go (typed t) s = (refl, refl)
    go mistyped s = first_stands (ill_typed p) []
    go untyped s = absurd s

append-none : (xs : List Fault) → xs ++ [] ≡ xs
append-none [] = refl
append-none (x ∷ xs) = ap (λ ys. x ∷ ys) (append-none xs)

-- a part without faults between others
passed : {B : Type 0} (fs gs hs : List Fault) (Q : B → Type 0) (y : Checked B) → gs ≡ [] → Sound (fs ++ hs) Q y → Sound ((fs ++ gs) ++ hs) Q y
passed fs gs hs Q y e s =
    let P : List Fault → Type 0 = λ xs. Sound (xs ++ hs) Q y in
    let same : fs ++ gs ≡ fs = ap (λ xs. fs ++ xs) e ∙ append-none fs in
    subst P (sym same) s

-- ---- nodes by the checks of their parts

pub node : {A : Type 0} (p : Place) (judged : Judged) (fs : List Fault) (P : A → Type 0) (one : Checked A) (rule : A → Judged)
    → Sound fs P one → ((x : A) → P x → (judged ≡ rule x) × Settled (rule x))
    → Sound (type_fault p judged ++ fs) (λ t. judged ≡ typed t) (one >>= λ x. conclude p (rule x))
node p judged fs P (Err fault) rule h g = Contains-append_right (type_fault p judged) fs fault h
node p judged fs P (Ok x) rule h g =
    let r : (judged ≡ rule x) × Settled (rule x) = g x h.1 in
    go (conclude p (rule x)) (concluded p judged (rule x) r.0 r.1)
  where
    go : (y : Checked ValueType) → Sound (type_fault p judged) (λ t. judged ≡ typed t) y → Sound (type_fault p judged ++ fs) (λ t. judged ≡ typed t) y
    go (Ok t) s = (no_more (type_fault p judged) fs s.0 h.0, s.1)
    go (Err fault) s = Contains-append_left (type_fault p judged) fs fault s

pub node_two : {A B : Type 0} (p : Place) (judged : Judged) (fs gs : List Fault) (P : A → Type 0) (Q : B → Type 0)
    (one : Checked A) (next : A → Checked B) (rule : A → B → Judged)
    → Sound fs P one → ((x : A) → P x → Sound gs Q (next x))
    → ((x : A) (y : B) → P x → Q y → (judged ≡ rule x y) × Settled (rule x y))
    → Sound (type_fault p judged ++ fs ++ gs) (λ t. judged ≡ typed t) (one >>= λ x. next x >>= λ y. conclude p (rule x y))
node_two p judged fs gs P Q (Err fault) next rule h k g =
    Contains-append_left (type_fault p judged ++ fs) gs fault (Contains-append_right (type_fault p judged) fs fault h)
node_two p judged fs gs P Q (Ok x) next rule h k g =
    passed (type_fault p judged) fs gs (λ t. judged ≡ typed t) _ h.0
    (node p judged gs Q (next x) (rule x) (k x h.1) (λ y q. g x y h.1 q))

pub node_three : {A B C : Type 0} (p : Place) (judged : Judged) (fs gs hs : List Fault) (P : A → Type 0) (Q : B → Type 0) (R : C → Type 0)
    (one : Checked A) (next : A → Checked B) (last : A → B → Checked C) (rule : A → B → C → Judged)
    → Sound fs P one → ((x : A) → P x → Sound gs Q (next x)) → ((x : A) (y : B) → P x → Q y → Sound hs R (last x y))
    → ((x : A) (y : B) (z : C) → P x → Q y → R z → (judged ≡ rule x y z) × Settled (rule x y z))
    → Sound (type_fault p judged ++ fs ++ gs ++ hs) (λ t. judged ≡ typed t)
    (one >>= λ x. next x >>= λ y. last x y >>= λ z. conclude p (rule x y z))
node_three p judged fs gs hs P Q R (Err fault) next last rule h k l g =
    let tf : List Fault = type_fault p judged in
    Contains-append_left (tf ++ fs ++ gs) hs fault (Contains-append_left (tf ++ fs) gs fault (Contains-append_right tf fs fault h))
node_three p judged fs gs hs P Q R (Ok x) next last rule h k l g =
    let tf : List Fault = type_fault p judged in
    let S : List Fault → Type 0 = λ xs. Sound (xs ++ gs ++ hs) (λ t. judged ≡ typed t) (next x >>= λ y. last x y >>= λ z. conclude p (rule x y z)) in
    let same : tf ++ fs ≡ tf = ap (λ xs. tf ++ xs) h.0 ∙ append-none tf in
    subst S (sym same)
    (node_two p judged gs hs Q R (next x) (last x) (rule x) (k x h.1) (λ y q. l x y h.1 q) (λ y z q r. g x y z h.1 q r))

pub node_four : {A B C D : Type 0} (p : Place) (judged : Judged) (fs gs hs ks : List Fault) (P : A → Type 0) (Q : B → Type 0) (R : C → Type 0) (S : D → Type 0)
    (one : Checked A) (next : A → Checked B) (third : A → B → Checked C) (last : A → B → C → Checked D) (rule : A → B → C → D → Judged)
    → Sound fs P one → ((x : A) → P x → Sound gs Q (next x)) → ((x : A) (y : B) → P x → Q y → Sound hs R (third x y))
    → ((x : A) (y : B) (z : C) → P x → Q y → R z → Sound ks S (last x y z))
    → ((x : A) (y : B) (z : C) (w : D) → P x → Q y → R z → S w → (judged ≡ rule x y z w) × Settled (rule x y z w))
    → Sound (type_fault p judged ++ fs ++ gs ++ hs ++ ks) (λ t. judged ≡ typed t)
    (one >>= λ x. next x >>= λ y. third x y >>= λ z. last x y z >>= λ w. conclude p (rule x y z w))
node_four p judged fs gs hs ks P Q R S (Err fault) next third last rule h k l m g =
    let tf : List Fault = type_fault p judged in
    Contains-append_left (tf ++ fs ++ gs ++ hs) ks fault
    (Contains-append_left (tf ++ fs ++ gs) hs fault (Contains-append_left (tf ++ fs) gs fault (Contains-append_right tf fs fault h)))
node_four p judged fs gs hs ks P Q R S (Ok x) next third last rule h k l m g =
    let tf : List Fault = type_fault p judged in
    let T : List Fault → Type 0 = λ xs. Sound (xs ++ gs ++ hs ++ ks) (λ t. judged ≡ typed t) (next x >>= λ y. third x y >>= λ z. last x y z >>= λ w. conclude p (rule x y z w)) in
    let same : tf ++ fs ≡ tf = ap (λ xs. tf ++ xs) h.0 ∙ append-none tf in
    subst T (sym same)
    (node_three p judged gs hs ks Q R S (next x) (third x) (last x) (rule x) (k x h.1) (λ y q. l x y h.1 q) (λ y z q r. m x y z h.1 q r)
    (λ y z w q r s. g x y z w h.1 q r s))

-- ---- judgements by those of parts

one_is : (j : Judged) (rule : ValueType → Judged) (t : ValueType) → j ≡ typed t → from_one j rule ≡ rule t
unfolding from_one
one_is j rule t h = rw h refl

two_is : (i j : Judged) (rule : ValueType → ValueType → Judged) (s t : ValueType) → i ≡ typed s → j ≡ typed t → from_two i j rule ≡ rule s t
unfolding from_two from_one
two_is i j rule s t h k = rw (h, k) refl

three_is : (i j k : Judged) (rule : ValueType → ValueType → ValueType → Judged) (s t u : ValueType) → i ≡ typed s → j ≡ typed t → k ≡ typed u → from_three i j k rule ≡ rule s t u
unfolding from_three from_two from_one
three_is i j k rule s t u a b c = rw (a, b, c) refl

many_is : (js : List Judged) (rule : List ValueType → Judged) (ts : List ValueType) → all_typed js ≡ Some ts → from_many js rule ≡ rule ts
unfolding from_many from_all
many_is js rule ts h = rw h refl

typed_more : (j : Judged) (t : ValueType) (js : List Judged) (ts : List ValueType) → j ≡ typed t → all_typed js ≡ Some ts → all_typed (j ∷ js) ≡ Some (t ∷ ts)
unfolding all_typed
typed_more j t js ts h k = rw (h, k) refl

typed_append : (is js : List Judged) (ts us : List ValueType) → all_typed is ≡ Some ts → all_typed js ≡ Some us → all_typed (is ++ js) ≡ Some (ts ++ us)
unfolding all_typed
typed_append [] js ts us h k = let e : [] ≡ ts = cc in subst (λ xs. all_typed js ≡ Some (xs ++ us)) e k
typed_append (typed i ∷ is) js ts us h k = first (all_typed is) refl (λ xs e. typed_append is js xs us e k) h
  where
    first : (o : Option (List ValueType)) → all_typed is ≡ o → ((xs : List ValueType) → all_typed is ≡ Some xs → all_typed (is ++ js) ≡ Some (xs ++ us))
        → option_map (λ xs. i ∷ xs) o ≡ Some ts → option_map (λ xs. i ∷ xs) (all_typed (is ++ js)) ≡ Some (ts ++ us)
    first None e more q = absurd cc
    first (Some xs) e more q =
        let same : i ∷ xs ≡ ts = cc in
        subst (λ zs. option_map (λ xs. i ∷ xs) (all_typed (is ++ js)) ≡ Some (zs ++ us)) same (rw (more xs e) refl)
typed_append (mistyped ∷ is) js ts us h k = absurd cc
typed_append (untyped ∷ is) js ts us h k = absurd cc

settled_gives : (t : ValueType) (b : Bool) → Settled (gives t b)
unfolding gives
settled_gives t true = tt
settled_gives t false = tt

settled_over : (b : Bool) (j : Judged) → Settled j → Settled (quantified_over b j)
settled_over true j s = s
settled_over false j s = tt

settled_binary : (op : BinaryOp) (s t : ValueType) → Settled (binary_type op s t)
unfolding binary_type
settled_binary BinaryOp.Implies s t = settled_gives _ _
settled_binary BinaryOp.Iff s t = settled_gives _ _
settled_binary BinaryOp.Mul s t = settled_gives _ _
settled_binary BinaryOp.Div s t = settled_gives _ _
settled_binary BinaryOp.Mod s t = settled_gives _ _
settled_binary BinaryOp.Pow s t = settled_gives _ _
settled_binary BinaryOp.Min s t = settled_gives _ _
settled_binary BinaryOp.Max s t = settled_gives _ _

settled_folded : (op : FoldOp) (t : ValueType) → Settled (folded_type op t)
unfolding folded_type
settled_folded FoldOp.Sum t = settled_gives _ _
settled_folded FoldOp.Product t = settled_gives _ _
settled_folded FoldOp.And t = settled_gives _ _
settled_folded FoldOp.Or t = settled_gives _ _
settled_folded FoldOp.Min t = settled_gives _ _
settled_folded FoldOp.Max t = settled_gives _ _

settled_matrix : (ts : List ValueType) (t : ValueType) → Settled (matrix_type ts t)
unfolding matrix_type
settled_matrix ts ValueType.Bool = settled_gives _ _
settled_matrix ts ValueType.Int = settled_gives _ _
settled_matrix ts (ValueType.Matrix dims s) = settled_gives _ _
settled_matrix ts ValueType.Empty = settled_gives _ _

settled_read : (t : ValueType) (ts : List ValueType) (n : _) → Settled (read_type t ts n)
unfolding read_type
settled_read ValueType.Bool ts n = tt
settled_read ValueType.Int ts n = tt
settled_read (ValueType.Matrix dims s) ts n = settled_gives _ _
settled_read ValueType.Empty ts n = tt

settled_matrices : (ts : List ValueType) (o : Option _) → Settled (list_of_matrices ts o)
unfolding list_of_matrices
settled_matrices ts None = tt
settled_matrices ts (Some dims) = settled_gives _ _

either_settled : (a : Bool) (i j : Judged) → Settled i → Settled j → Settled (if a then i else j)
either_settled true i j s t = s
either_settled false i j s t = t

settled_list : (ts : List ValueType) → Settled (list_type ts)
unfolding list_type
settled_list [] = tt
settled_list (t ∷ ts) =
    either_settled (list_all is_integer (t ∷ ts)) _ _ tt
    (either_settled (list_all is_matrix (t ∷ ts)) _ _ (settled_matrices (t ∷ ts) (stated_dimensions (t ∷ ts))) tt)

settled_quantified : (op : QuantOp) (ts : List ValueType) (t : ValueType) → Settled (quantified_type op ts t)
unfolding quantified_type
settled_quantified QuantOp.ForAll ts t = settled_gives _ _
settled_quantified QuantOp.Exists ts t = settled_gives _ _
settled_quantified QuantOp.Sum ts t = settled_gives _ _

-- a quantifier by whether its domains are scalar
over_gives : (r : ValueType) (b c : Bool) → gives r (b && c) ≡ quantified_over b (gives r (true && c))
unfolding gives
over_gives r true c = refl
over_gives r false c = refl

quantified_by : (op : QuantOp) (ds : List ValueType) (t : ValueType) → quantified_type op ds t ≡ quantified_over (list_all is_integer ds) (quantified_type op [] t)
unfolding quantified_type
quantified_by QuantOp.ForAll ds t = over_gives ValueType.Bool (list_all is_integer ds) (is_boolean t)
quantified_by QuantOp.Exists ds t = over_gives ValueType.Bool (list_all is_integer ds) (is_boolean t)
quantified_by QuantOp.Sum ds t = over_gives ValueType.Int (list_all is_integer ds) (is_integer t)

indexed_by : (ds : List ValueType) (list : Judged) (b : Bool) → list_all is_integer ds ≡ b → indexed_type ds list ≡ quantified_over b list
unfolding indexed_type
indexed_by ds list true h = rw h refl
indexed_by ds list false h = rw h refl

-- ---- names

-- what a name stands for has a type
abbrev pub HasType : Option Meaning → Type 0
HasType None = Unit {0}
HasType (Some (a_value None b)) = ⊥
HasType (Some (a_value (Some t) b)) = Unit {0}
HasType (Some (a_domain None)) = ⊥
HasType (Some (a_domain (Some t))) = Unit {0}

abbrev pub AreTyped : Context → Type 0
AreTyped c = (name : Name) → HasType (c name)

pub put_typed : (c : Context) (name : Name) (m : Meaning) → AreTyped c → HasType (Some m) → AreTyped (put name m c)
put_typed c name m k h other =
    elim (bytes_eq other name) as (λ b. HasType (if b then Some m else c other)) [ true ↦ h | false ↦ k other ]

pub quantified_typed : (t : ValueType) → HasType (Some (quantified_name (typed t)))
unfolding quantified_name
quantified_typed t = tt

name_sound : (d : Bool) (p : Place) (name : Name) (m : Option Meaning) → HasType m → Sound (name_faults d p name m) (λ t. named_type m ≡ typed t) (check_name d p name m)
unfolding name_faults named_type check_name check_value unless
name_sound d p name None h = first_stands (unknown_name p name) []
name_sound d p name (Some (a_domain t)) h = first_stands (ill_typed p) []
name_sound d p name (Some (a_value None b)) h = absurd h
name_sound d p name (Some (a_value (Some t) false)) h = (refl, refl)
name_sound true p name (Some (a_value (Some t) true)) h = (refl, refl)
name_sound false p name (Some (a_value (Some t) true)) h = first_stands (wrong_category p) []

domain_name_sound : (p : Place) (name : Name) (m : Option Meaning) → HasType m → Sound (domain_name_faults p name m) (λ t. named_domain_type m ≡ typed t) (check_domain_name p name m)
unfolding domain_name_faults named_domain_type check_domain_name
domain_name_sound p name None h = first_stands (unknown_name p name) []
domain_name_sound p name (Some (a_value t false)) h = first_stands (ill_typed p) []
domain_name_sound p name (Some (a_value t true)) h = first_stands (ill_typed p) (wrong_category p ∷ [])
domain_name_sound p name (Some (a_domain None)) h = absurd h
domain_name_sound p name (Some (a_domain (Some t))) h = (refl, refl)

-- ---- domains that are read once for each name

-- what is known of a domain in each context of typed names
abbrev DomainSound : DomainTree → Type 0
DomainSound dom =
    (c : Context) → AreTyped c → Sound (domain_faults c false dom) (λ t. judge_domain c dom ≡ typed t) (check_domain c false dom)

-- what the readings of a domain give: whether each is scalar, and the context behind the names
record Readings (names : List Name) (dom : DomainTree) (c : Context) (r : Bool × Context) : Type 0 where
  types : List ValueType
  judged : all_typed (map (λ x. judge_domain x dom) (reading_contexts names (λ x. judge_domain x dom) c)) ≡ Some types
  scalar : list_all is_integer types ≡ r.0
  context : inside names (λ x. judge_domain x dom) c ≡ r.1
  typed_names : AreTyped r.1

readings_sound : (dom : DomainTree) → DomainSound dom → (names : List Name) (c : Context) → AreTyped c
    → Sound (flat_map (λ x. domain_faults x false dom) (reading_contexts names (λ x. judge_domain x dom) c)) (Readings names dom c)
    (check_readings names (λ x. check_domain x false dom) c)
unfolding check_readings reading_contexts inside all_typed
readings_sound dom h [] c k = (refl, record { types = []; judged = refl; scalar = refl; context = refl; typed_names = k })
readings_sound dom h (name ∷ names) c k =
    let D : Context → Judged = λ x. judge_domain x dom in
    let inner : Context = put name (quantified_name (D c)) c in
    let rest : List Fault = flat_map (λ x. domain_faults x false dom) (reading_contexts names D inner) in
    after (domain_faults c false dom) rest (λ t. D c ≡ typed t) (Readings (name ∷ names) dom c) (check_domain c false dom) _
    (h c k)
    (λ t e.
    let known : Context = put name (quantified_name (typed t)) c in
    let same : known ≡ inner = ap (λ j. put name (quantified_name j) c) (sym e) in
    let others : Sound (flat_map (λ x. domain_faults x false dom) (reading_contexts names D known)) (Readings names dom known) (check_readings names (λ x. check_domain x false dom) known) =
    readings_sound dom h names known (put_typed c name (quantified_name (typed t)) k (quantified_typed t)) in
    let P : Context → Type 0 = λ x. Sound (flat_map (λ y. domain_faults y false dom) (reading_contexts names D x)) (Readings names dom x) (check_readings names (λ y. check_domain y false dom) known) in
    then_says rest (Readings names dom inner) (Readings (name ∷ names) dom c) (check_readings names (λ x. check_domain x false dom) known)
    (λ r. (is_integer t && r.0, r.1))
    (subst P same others)
    (λ r g. record {
      types = t ∷ g.types;
      judged = typed_more (D c) t _ g.types e g.judged;
      scalar = ap (λ b. is_integer t && b) g.scalar;
      context = g.context;
      typed_names = g.typed_names;
    }))

-- ---- parts

grouped : (fs : List Fault) (j : Judged) (y : Checked ValueType) → Sound fs (λ t. j ≡ typed t) y → Sound fs (λ t. from_one j (λ u. typed u) ≡ typed t) y
grouped fs j (Ok t) h = (h.0, one_is j (λ u. typed u) t h.1)
grouped fs j (Err fault) h = h

behind_context : (one other : Context) → one ≡ other → (d : Bool) (e : ExprTree)
    → Sound (faults other d e) (λ t. judge other e ≡ typed t) (check other d e)
    → Sound (faults one d e) (λ t. judge one e ≡ typed t) (check other d e)
behind_context one other same d e h =
    let P : Context → Type 0 = λ x. Sound (faults x d e) (λ t. judge x e ≡ typed t) (check other d e) in subst P (sym same) h

behind_all : (one other : Context) → one ≡ other → (d : Bool) (es : ExprTrees)
    → Sound (faults_of_all other d es) (λ ts. all_typed (judge_all other es) ≡ Some ts) (check_all other d es)
    → Sound (faults_of_all one d es) (λ ts. all_typed (judge_all one es) ≡ Some ts) (check_all other d es)
behind_all one other same d es h =
    let P : Context → Type 0 = λ x. Sound (faults_of_all x d es) (λ ts. all_typed (judge_all x es) ≡ Some ts) (check_all other d es) in subst P (sym same) h

none_typed : all_typed [] ≡ Some []
unfolding all_typed
none_typed = refl

alone : (b : Bool) → (b && true) ≡ b
alone true = refl
alone false = refl

and_again : (a b c : Bool) → (a && (b && c)) ≡ ((a && b) && c)
and_again true b c = refl
and_again false b c = refl

all_both : (xs ys : List ValueType) → list_all is_integer (xs ++ ys) ≡ (list_all is_integer xs && list_all is_integer ys)
all_both [] ys = refl
all_both (x ∷ xs) ys = ap (λ b. is_integer x && b) (all_both xs ys) ∙ and_again (is_integer x) (list_all is_integer xs) (list_all is_integer ys)

-- one more part in front of others
more_sound : (fs gs : List Fault) (j : Judged) (js : List Judged) (one : Checked ValueType) (others : Checked (List ValueType))
    → Sound fs (λ t. j ≡ typed t) one → Sound gs (λ ts. all_typed js ≡ Some ts) others
    → Sound (fs ++ gs) (λ ts. all_typed (j ∷ js) ≡ Some ts) (one >>= λ t. others >>= λ ts. Ok (t ∷ ts))
more_sound fs gs j js one others h g =
    after fs gs (λ t. j ≡ typed t) (λ ts. all_typed (j ∷ js) ≡ Some ts) one (λ t. others >>= λ ts. Ok (t ∷ ts)) h
    (λ t e. then_says gs (λ ts. all_typed js ≡ Some ts) (λ ts. all_typed (j ∷ js) ≡ Some ts) others (λ ts. t ∷ ts) g (λ ts f. typed_more j t js ts e f))

-- whether the domain of a list's indices is scalar
abbrev IndexIs : Context → IndexDomain → Bool → Type 0
IndexIs c dom scalar = (ds : List ValueType) × (all_typed (judge_index c dom) ≡ Some ds) × (list_all is_integer ds ≡ scalar)

-- what generators give: whether their domains are scalar, and the context behind them
record Generated (gens : Generators) (c : Context) (r : Bool × Context) : Type 0 where
  types : List ValueType
  judged : all_typed (judge_generators c gens) ≡ Some types
  scalar : list_all is_integer types ≡ r.0
  context : inside_all gens c ≡ r.1
  typed_names : AreTyped r.1

-- the bounds of ranges: whether each is an integer
abbrev BoundsAre : Context → Ranges → List ValueType → Type 0
BoundsAre c rs ts = (us : List ValueType) × (all_typed (judge_ranges c rs) ≡ Some us) × (list_all is_integer us ≡ list_all is_integer ts)

-- an end: whether it is an integer
abbrev EndIs : Context → End → ValueType → Type 0
EndIs c x t = (us : List ValueType) × (all_typed (judge_end c x) ≡ Some us) × (list_all is_integer us ≡ is_integer t)

comprehension_by : (index domains truths : List ValueType) (t : ValueType) (a b : Bool) → list_all is_integer index ≡ a → list_all is_integer domains ≡ b
    → comprehension_type index domains truths t ≡ quantified_over (a && b && list_all is_boolean truths) (list_type (t ∷ []))
unfolding comprehension_type
comprehension_by index domains truths t a b p q =
    go (list_all is_boolean truths) (indexed_by (index ++ domains) (list_type (t ∷ [])) (a && b) (all_both index domains ∙ rw (p, q) refl))
  where
    turned : (c : Bool) → (c && true) ≡ c
    turned c = alone c

    go : (c : Bool) → indexed_type (index ++ domains) (list_type (t ∷ [])) ≡ quantified_over (a && b) (list_type (t ∷ []))
        → (if c then indexed_type (index ++ domains) (list_type (t ∷ [])) else mistyped) ≡ quantified_over (a && b && c) (list_type (t ∷ []))
    go true e = e ∙ ap (λ x. quantified_over x (list_type (t ∷ []))) (sym (alone (a && b)))
    go false e = ap (λ x. quantified_over x (list_type (t ∷ []))) (sym (never (a && b)))
      where
        never : (x : Bool) → (x && false) ≡ false
        never true = refl
        never false = refl

int_is_integer : true ≡ is_integer ValueType.Int
unfolding is_integer
int_is_integer = refl

end_alone : (fs : List Fault) (j : Judged) (y : Checked ValueType) → Sound fs (λ t. j ≡ typed t) y
    → Sound fs (λ t. (us : List ValueType) × (all_typed (j ∷ []) ≡ Some us) × (list_all is_integer us ≡ is_integer t)) y
end_alone fs j (Ok t) h = (h.0, (t ∷ [], typed_more j t [] [] h.1 none_typed, alone (is_integer t)))
end_alone fs j (Err fault) h = h

-- two ends in front of other ranges
span_sound : (fs gs hs : List Fault) (js ks rs : List Judged) (a b : Checked ValueType) (others : Checked (List ValueType))
    → Sound fs (λ t. (us : List ValueType) × (all_typed js ≡ Some us) × (list_all is_integer us ≡ is_integer t)) a
    → Sound gs (λ t. (us : List ValueType) × (all_typed ks ≡ Some us) × (list_all is_integer us ≡ is_integer t)) b
    → Sound hs (λ ts. (us : List ValueType) × (all_typed rs ≡ Some us) × (list_all is_integer us ≡ list_all is_integer ts)) others
    → Sound (fs ++ gs ++ hs) (λ ts. (us : List ValueType) × (all_typed (js ++ ks ++ rs) ≡ Some us) × (list_all is_integer us ≡ list_all is_integer ts))
    (a >>= λ x. b >>= λ y. others >>= λ ts. Ok (x ∷ y ∷ ts))
span_sound fs gs hs js ks rs (Err fault) b others h g l = Contains-append_left (fs ++ gs) hs fault (Contains-append_left fs gs fault h)
span_sound fs gs hs js ks rs (Ok x) (Err fault) others h g l = Contains-append_left (fs ++ gs) hs fault (Contains-append_right fs gs fault g)
span_sound fs gs hs js ks rs (Ok x) (Ok y) (Err fault) h g l = Contains-append_right (fs ++ gs) hs fault l
span_sound fs gs hs js ks rs (Ok x) (Ok y) (Ok ts) h g l =
    let u : List ValueType = h.1.0 in
    let v : List ValueType = g.1.0 in
    let w : List ValueType = l.1.0 in (
      no_more (fs ++ gs) hs (no_more fs gs h.0 g.0) l.0,
      (
        u ++ v ++ w,
        typed_append (js ++ ks) rs (u ++ v) w (typed_append js ks u v h.1.1 g.1.1) l.1.1,
        all_both (u ++ v) w ∙ ap (λ z. z && list_all is_integer w) (all_both u v) ∙ rw (h.1.2, g.1.2, l.1.2) (sym (and_again (is_integer x) (is_integer y) (list_all is_integer ts))),
      ),
    )

-- ranges, whose ends may be open or may not
ranges_node : (p : Place) (o : Bool) (rs : Ranges) (judged : Judged) (c : Context)
    → Sound (faults_of_ranges c rs) (BoundsAre c rs) (check_ranges c rs)
    → judged ≡ from_many (judge_ranges c rs) (λ ts. gives ValueType.Int (list_all is_integer ts))
    → Sound (unless (o || not (has_open_range rs)) (open_domain p) ++ type_fault p judged ++ faults_of_ranges c rs) (λ t. judged ≡ typed t)
    (unless_fault (o || not (has_open_range rs)) (open_domain p) >>= λ _. check_ranges c rs >>= λ ts. conclude p (gives ValueType.Int (list_all is_integer ts)))
unfolding unless
ranges_node p o rs judged c h e = go (o || not (has_open_range rs))
  where
    rule : List ValueType → Judged
    rule ts = gives ValueType.Int (list_all is_integer ts)

    inner : Sound (type_fault p judged ++ faults_of_ranges c rs) (λ t. judged ≡ typed t) (check_ranges c rs >>= λ ts. conclude p (rule ts))
    inner =
        node p judged (faults_of_ranges c rs) (BoundsAre c rs) (check_ranges c rs) rule h
        (λ ts b. (e ∙ many_is (judge_ranges c rs) rule b.0 b.1 ∙ ap (λ x. gives ValueType.Int x) b.2, settled_gives _ _))

    go : (b : Bool) → Sound (unless b (open_domain p) ++ type_fault p judged ++ faults_of_ranges c rs) (λ t. judged ≡ typed t)
        (unless_fault b (open_domain p) >>= λ _. check_ranges c rs >>= λ ts. conclude p (rule ts))
    go true = inner
    go false = Contains-append_left (open_domain p ∷ type_fault p judged) (faults_of_ranges c rs) (open_domain p) (first_stands (open_domain p) (type_fault p judged))

-- ---- all forms

mutual
  unfolding check faults judge check_domain domain_faults judge_domain check_all faults_of_all judge_all check_terms faults_of_terms judge_terms check_indices faults_of_indices judge_indices check_ranges faults_of_ranges judge_ranges check_end end_faults judge_end check_domains faults_of_domains judge_domains check_index index_faults judge_index check_generators faults_of_generators judge_generators inside_all unless

  -- an expression
  pub check_sound : (c : Context) → AreTyped c → (d : Bool) (e : ExprTree) → Sound (faults c d e) (λ t. judge c e ≡ typed t) (check c d e)
  check_sound c k d (number p n) = (refl, refl)
  check_sound c k d (truth p b) = (refl, refl)
  check_sound c k d (named p name) = name_sound d p name (c name) (k name)
  check_sound c k d (group p e) = grouped (faults c d e) (judge c e) (check c d e) (check_sound c k d e)
  check_sound c k d (negation p e) =
      node p _ _ (λ t. judge c e ≡ typed t) _ (λ t. gives ValueType.Bool (is_boolean t)) (check_sound c k d e)
      (λ t h. (one_is (judge c e) (λ t. gives ValueType.Bool (is_boolean t)) t h, settled_gives _ _))
  check_sound c k d (minus p e) =
      node p _ _ (λ t. judge c e ≡ typed t) _ (λ t. gives ValueType.Int (is_integer t)) (check_sound c k d e)
      (λ t h. (one_is (judge c e) (λ t. gives ValueType.Int (is_integer t)) t h, settled_gives _ _))
  check_sound c k d (absolute p e) =
      node p _ _ (λ t. judge c e ≡ typed t) _ (λ t. gives ValueType.Int (is_integer t)) (check_sound c k d e)
      (λ t h. (one_is (judge c e) (λ t. gives ValueType.Int (is_integer t)) t h, settled_gives _ _))
  check_sound c k d (to_int p e) =
      node p _ _ (λ t. judge c e ≡ typed t) _ (λ t. gives ValueType.Int (is_boolean t)) (check_sound c k d e)
      (λ t h. (one_is (judge c e) (λ t. gives ValueType.Int (is_boolean t)) t h, settled_gives _ _))
  check_sound c k d (factorial p e) =
      node p _ _ (λ t. judge c e ≡ typed t) _ (λ t. gives ValueType.Int (is_integer t)) (check_sound c k false e)
      (λ t h. (one_is (judge c e) (λ t. gives ValueType.Int (is_integer t)) t h, settled_gives _ _))
  check_sound c k d (flatten p m) =
      node p _ _ (λ t. judge c m ≡ typed t) _ (λ t. gives (ValueType.Matrix 1 (scalar_of t)) (is_matrix t)) (check_sound c k d m)
      (λ t h. (one_is (judge c m) (λ t. gives (ValueType.Matrix 1 (scalar_of t)) (is_matrix t)) t h, settled_gives _ _))
  check_sound c k d (chain p terms) =
      node p _ _ (λ ts. all_typed (judge_terms c terms) ≡ Some ts) _ (λ ts. gives ValueType.Int (list_all is_integer ts)) (terms_sound c k d terms)
      (λ ts h. (many_is (judge_terms c terms) (λ ts. gives ValueType.Int (list_all is_integer ts)) ts h, settled_gives _ _))
  check_sound c k d (binary p op a b) =
      node_two p _ _ _ (λ s. judge c a ≡ typed s) (λ t. judge c b ≡ typed t) _ _ (binary_type op)
      (check_sound c k d a) (λ s h. check_sound c k (d && not (is_power op)) b)
      (λ s t h g. (two_is (judge c a) (judge c b) (binary_type op) s t h g, settled_binary op s t))
  check_sound c k d (compare p op a b) =
      node_two p _ _ _ (λ s. judge c a ≡ typed s) (λ t. judge c b ≡ typed t) _ _ (λ s t. gives ValueType.Bool (is_integer s && is_integer t))
      (check_sound c k d a) (λ s h. check_sound c k d b)
      (λ s t h g. (two_is (judge c a) (judge c b) (λ s t. gives ValueType.Bool (is_integer s && is_integer t)) s t h g, settled_gives _ _))
  check_sound c k d (lex p op a b) =
      node_two p _ _ _ (λ s. judge c a ≡ typed s) (λ t. judge c b ≡ typed t) _ _ (λ s t. gives ValueType.Bool (are_lists s t))
      (check_sound c k d a) (λ s h. check_sound c k d b)
      (λ s t h g. (two_is (judge c a) (judge c b) (λ s t. gives ValueType.Bool (are_lists s t)) s t h g, settled_gives _ _))
  check_sound c k d (in_domain p e dom) =
      node_two p _ _ _ (λ s. judge c e ≡ typed s) (λ t. judge_domain c dom ≡ typed t) _ _ (λ s t. gives ValueType.Bool (is_integer s && is_integer t))
      (check_sound c k d e) (λ s h. domain_sound c k false dom)
      (λ s t h g. (two_is (judge c e) (judge_domain c dom) (λ s t. gives ValueType.Bool (is_integer s && is_integer t)) s t h g, settled_gives _ _))
  check_sound c k d (in_set p e m) =
      node_two p _ _ _ (λ s. judge c e ≡ typed s) (λ t. judge c m ≡ typed t) _ _ (λ s t. gives ValueType.Bool (is_integer s && is_matrix t))
      (check_sound c k d e) (λ s h. check_sound c k d m)
      (λ s t h g. (two_is (judge c e) (judge c m) (λ s t. gives ValueType.Bool (is_integer s && is_matrix t)) s t h g, settled_gives _ _))
  check_sound c k d (all_of p parts) =
      node p _ _ (λ ts. all_typed (judge_all c parts) ≡ Some ts) _ (λ ts. gives ValueType.Bool (list_all is_boolean ts)) (all_sound c k d parts)
      (λ ts h. (many_is (judge_all c parts) (λ ts. gives ValueType.Bool (list_all is_boolean ts)) ts h, settled_gives _ _))
  check_sound c k d (any_of p parts) =
      node p _ _ (λ ts. all_typed (judge_all c parts) ≡ Some ts) _ (λ ts. gives ValueType.Bool (list_all is_boolean ts)) (all_sound c k d parts)
      (λ ts h. (many_is (judge_all c parts) (λ ts. gives ValueType.Bool (list_all is_boolean ts)) ts h, settled_gives _ _))
  check_sound c k d (quantified p op names dom e) =
      let D : Context → Judged = λ x. judge_domain x dom in
      node_two p _ _ _ (Readings names dom c) (λ t. judge (inside names D c) e ≡ typed t) _ _ (λ r t. quantified_over r.0 (quantified_type op [] t))
      (readings_sound dom (λ x l. domain_sound x l false dom) names c k)
      (λ r g. behind_context (inside names D c) r.1 g.context d e (check_sound r.1 g.typed_names d e))
      (λ r t g h. (
        many_is _ (λ ds. from_one (judge (inside names D c) e) (quantified_type op ds)) g.types g.judged
            ∙ one_is (judge (inside names D c) e) (quantified_type op g.types) t h
            ∙ quantified_by op g.types t ∙ ap (λ b. quantified_over b (quantified_type op [] t)) g.scalar,
        settled_over r.0 _ (settled_quantified op [] t),
      ))
  check_sound c k d (literal p parts dom) =
      node_two p _ _ _ (λ ts. all_typed (judge_all c parts) ≡ Some ts) (IndexIs c dom) _ _ (λ ts scalar. quantified_over scalar (list_type ts))
      (all_sound c k d parts) (λ ts h. index_sound c k dom)
      (λ ts scalar h g. (
        many_is (judge_index c dom) (λ ds. from_many (judge_all c parts) (λ ts. indexed_type ds (list_type ts))) g.0 g.1
            ∙ many_is (judge_all c parts) (λ ts. indexed_type g.0 (list_type ts)) ts h ∙ indexed_by g.0 (list_type ts) scalar g.2,
        settled_over scalar _ (settled_list ts),
      ))
  check_sound c k d (comprehension p e gens conditions dom) =
      let inner : Context = inside_all gens c in
      node_four p _ _ _ _ _ (IndexIs c dom) (Generated gens c) (λ ts. all_typed (judge_all inner conditions) ≡ Some ts) (λ t. judge inner e ≡ typed t) _ _ _ _
      (λ index r truths t. quantified_over (index && r.0 && list_all is_boolean truths) (list_type (t ∷ [])))
      (index_sound c k dom) (λ index h. generators_sound c k gens)
      (λ index r h g. behind_all inner r.1 g.context false conditions (all_sound r.1 g.typed_names false conditions))
      (λ index r truths h g l. behind_context inner r.1 g.context d e (check_sound r.1 g.typed_names d e))
      (λ index r truths t h g l m. (
        many_is (judge_index c dom) _ h.0 h.1 ∙ many_is (judge_generators c gens) _ g.types g.judged ∙ many_is (judge_all inner conditions) _ truths l
            ∙ one_is (judge inner e) (comprehension_type h.0 g.types truths) t m
            ∙ comprehension_by h.0 g.types truths t index r.0 h.2 g.scalar,
        settled_over _ _ (settled_list (t ∷ [])),
      ))
  check_sound c k d (read p m indices) =
      let n : _ = entry_count indices in
      let w : _ = slice_count indices in
      let may : Judged → Bool = λ j. d && not (leaves_matrix j n w) in
      node_two p _ _ _ (λ t. judge c m ≡ typed t) (λ ts. all_typed (judge_indices c indices) ≡ Some ts) _ _ (λ t ts. read_type t ts w)
      (check_sound c k d m)
      (λ t h.
      let P : Judged → Type 0 = λ j. Sound (faults_of_indices c (may j) indices) (λ ts. all_typed (judge_indices c indices) ≡ Some ts) (check_indices c (may (typed t)) indices) in
      subst P (sym h) (indices_sound c k (may (typed t)) indices))
      (λ t ts h g. (
        one_is (judge c m) (λ t. from_many (judge_indices c indices) (λ ts. read_type t ts w)) t h ∙ many_is (judge_indices c indices) (λ ts. read_type t ts w) ts g,
        settled_read t ts w,
      ))
  check_sound c k d (folded p op m) =
      node p _ _ (λ t. judge c m ≡ typed t) _ (folded_type op) (check_sound c k d m)
      (λ t h. (one_is (judge c m) (folded_type op) t h, settled_folded op t))
  check_sound c k d (all_different p m) =
      node p _ _ (λ t. judge c m ≡ typed t) _ (λ t. gives ValueType.Bool (is_matrix t)) (check_sound c k d m)
      (λ t h. (one_is (judge c m) (λ t. gives ValueType.Bool (is_matrix t)) t h, settled_gives _ _))
  check_sound c k d (gcc p m values counts) =
      node_three p _ _ _ _ (λ s. judge c m ≡ typed s) (λ t. judge c values ≡ typed t) (λ u. judge c counts ≡ typed u) _ _ _ (λ s t u. gives ValueType.Bool (is_matrix s && are_lists t u))
      (check_sound c k d m) (λ s h. check_sound c k false values) (λ s t h g. check_sound c k d counts)
      (λ s t u h g l. (three_is (judge c m) (judge c values) (judge c counts) (λ s t u. gives ValueType.Bool (is_matrix s && are_lists t u)) s t u h g l, settled_gives _ _))
  check_sound c k d (at_least p m counts values) =
      node_three p _ _ _ _ (λ s. judge c m ≡ typed s) (λ t. judge c counts ≡ typed t) (λ u. judge c values ≡ typed u) _ _ _ (λ s t u. gives ValueType.Bool (is_matrix s && are_lists t u))
      (check_sound c k d m) (λ s h. check_sound c k false counts) (λ s t h g. check_sound c k false values)
      (λ s t u h g l. (three_is (judge c m) (judge c counts) (judge c values) (λ s t u. gives ValueType.Bool (is_matrix s && are_lists t u)) s t u h g l, settled_gives _ _))
  check_sound c k d (at_most p m counts values) =
      node_three p _ _ _ _ (λ s. judge c m ≡ typed s) (λ t. judge c counts ≡ typed t) (λ u. judge c values ≡ typed u) _ _ _ (λ s t u. gives ValueType.Bool (is_matrix s && are_lists t u))
      (check_sound c k d m) (λ s h. check_sound c k false counts) (λ s t h g. check_sound c k false values)
      (λ s t u h g l. (three_is (judge c m) (judge c counts) (judge c values) (λ s t u. gives ValueType.Bool (is_matrix s && are_lists t u)) s t u h g l, settled_gives _ _))
  check_sound c k d (table p row rows) =
      node_two p _ _ _ (λ s. judge c row ≡ typed s) (λ t. judge c rows ≡ typed t) _ _ (λ s t. gives ValueType.Bool (has_dimensions 1 s && has_dimensions 2 t))
      (check_sound c k d row) (λ s h. check_sound c k false rows)
      (λ s t h g. (two_is (judge c row) (judge c rows) (λ s t. gives ValueType.Bool (has_dimensions 1 s && has_dimensions 2 t)) s t h g, settled_gives _ _))

  -- a domain
  pub domain_sound : (c : Context) → AreTyped c → (may_open : Bool) (dom : DomainTree)
      → Sound (domain_faults c may_open dom) (λ t. judge_domain c dom ≡ typed t) (check_domain c may_open dom)
  domain_sound c k o (bool p) = (refl, refl)
  domain_sound c k true (int p) = (refl, refl)
  domain_sound c k false (int p) = first_stands (open_domain p) []
  domain_sound c k o (ranges p rs) = ranges_node p o rs (judge_domain c (ranges p rs)) c (ranges_sound c k rs) refl
  domain_sound c k o (named_domain p name) = domain_name_sound p name (c name) (k name)
  domain_sound c k o (group_domain p dom) =
      grouped (domain_faults c o dom) (judge_domain c dom) (check_domain c o dom) (domain_sound c k o dom)
  domain_sound c k o (set_domain p op a b) =
      node_two p _ _ _ (λ s. judge_domain c a ≡ typed s) (λ t. judge_domain c b ≡ typed t) _ _
      (λ s t. gives (of_scalar (both_scalars (scalar_of s) (scalar_of t))) (is_integer s && is_integer t))
      (domain_sound c k o a) (λ s h. domain_sound c k o b)
      (λ s t h g. (two_is (judge_domain c a) (judge_domain c b) (λ s t. gives (of_scalar (both_scalars (scalar_of s) (scalar_of t))) (is_integer s && is_integer t)) s t h g, settled_gives _ _))
  domain_sound c k o (matrix_domain p ds dom) =
      node_two p _ _ _ (λ ts. all_typed (judge_domains c ds) ≡ Some ts) (λ t. judge_domain c dom ≡ typed t) _ _ (λ ts t. matrix_type ts t)
      (domains_sound c k ds) (λ ts h. domain_sound c k o dom)
      (λ ts t h g. (
        one_is (judge_domain c dom) (λ t. from_many (judge_domains c ds) (λ ts. matrix_type ts t)) t g ∙ many_is (judge_domains c ds) (λ ts. matrix_type ts t) ts h,
        settled_matrix ts t,
      ))

  -- some expressions
  pub all_sound : (c : Context) → AreTyped c → (d : Bool) (es : ExprTrees) → Sound (faults_of_all c d es) (λ ts. all_typed (judge_all c es) ≡ Some ts) (check_all c d es)
  all_sound c k d no_trees = (refl, none_typed)
  all_sound c k d (tree_and e es) = more_sound _ _ _ _ _ _ (check_sound c k d e) (all_sound c k d es)

  -- the terms of a chain
  terms_sound : (c : Context) → AreTyped c → (d : Bool) (es : Terms) → Sound (faults_of_terms c d es) (λ ts. all_typed (judge_terms c es) ≡ Some ts) (check_terms c d es)
  terms_sound c k d no_terms = (refl, none_typed)
  terms_sound c k d (term_and b e es) = more_sound _ _ _ _ _ _ (check_sound c k d e) (terms_sound c k d es)

  -- the indices of a read
  indices_sound : (c : Context) → AreTyped c → (d : Bool) (is : Indices) → Sound (faults_of_indices c d is) (λ ts. all_typed (judge_indices c is) ≡ Some ts) (check_indices c d is)
  indices_sound c k d no_indices = (refl, none_typed)
  indices_sound c k d (every_and is) = indices_sound c k d is
  indices_sound c k d (index_and e is) = more_sound _ _ _ _ _ _ (check_sound c k d e) (indices_sound c k d is)

  -- index domains
  domains_sound : (c : Context) → AreTyped c → (ds : Domains) → Sound (faults_of_domains c ds) (λ ts. all_typed (judge_domains c ds) ≡ Some ts) (check_domains c ds)
  domains_sound c k no_domains = (refl, none_typed)
  domains_sound c k (domain_and dom ds) = more_sound _ _ _ _ _ _ (domain_sound c k false dom) (domains_sound c k ds)

  -- the domain of a list's indices
  index_sound : (c : Context) → AreTyped c → (dom : IndexDomain) → Sound (index_faults c dom) (IndexIs c dom) (check_index c dom)
  index_sound c k unstated = (refl, ([], none_typed, refl))
  index_sound c k (over dom) =
      then_says (domain_faults c false dom) (λ t. judge_domain c dom ≡ typed t) (IndexIs c (over dom)) (check_domain c false dom) is_integer
      (domain_sound c k false dom) (λ t h. (t ∷ [], typed_more (judge_domain c dom) t [] [] h none_typed, alone (is_integer t)))

  -- generators
  generators_sound : (c : Context) → AreTyped c → (gens : Generators) → Sound (faults_of_generators c gens) (Generated gens c) (check_generators c gens)
  generators_sound c k no_generators = (refl, record { types = []; judged = none_typed; scalar = refl; context = refl; typed_names = k })
  generators_sound c k (generator_and names dom gens) =
      let D : Context → Judged = λ x. judge_domain x dom in
      let inner : Context = inside names D c in
      after _ (faults_of_generators inner gens) (Readings names dom c) (Generated (generator_and names dom gens) c) _ _
      (readings_sound dom (λ x l. domain_sound x l false dom) names c k)
      (λ r g.
      let P : Context → Type 0 = λ x. Sound (faults_of_generators x gens) (Generated gens x) (check_generators r.1 gens) in
      then_says (faults_of_generators inner gens) (Generated gens inner) (Generated (generator_and names dom gens) c) (check_generators r.1 gens)
      (λ b. (r.0 && b.0, b.1))
      (subst P (sym g.context) (generators_sound r.1 g.typed_names gens))
      (λ b l. record {
        types = g.types ++ l.types;
        judged = typed_append _ _ g.types l.types g.judged l.judged;
        scalar = all_both g.types l.types ∙ rw (g.scalar, l.scalar) refl;
        context = l.context;
        typed_names = l.typed_names;
      }))

  -- the bounds of ranges
  ranges_sound : (c : Context) → AreTyped c → (rs : Ranges) → Sound (faults_of_ranges c rs) (BoundsAre c rs) (check_ranges c rs)
  ranges_sound c k no_ranges = (refl, ([], none_typed, refl))
  ranges_sound c k (one_and e rs) =
      after (faults c false e) (faults_of_ranges c rs) (λ t. judge c e ≡ typed t) (BoundsAre c (one_and e rs)) _ _ (check_sound c k false e)
      (λ t h. then_says (faults_of_ranges c rs) (BoundsAre c rs) (BoundsAre c (one_and e rs)) (check_ranges c rs) (λ ts. t ∷ ts) (ranges_sound c k rs)
      (λ ts g. (t ∷ g.0, typed_more (judge c e) t _ g.0 h g.1, ap (λ b. is_integer t && b) g.2)))
  ranges_sound c k (span_and a b rs) =
      span_sound (end_faults c a) (end_faults c b) (faults_of_ranges c rs) (judge_end c a) (judge_end c b) (judge_ranges c rs) (check_end c a) (check_end c b) (check_ranges c rs)
      (end_sound c k a) (end_sound c k b) (ranges_sound c k rs)

  -- an end of a range
  end_sound : (c : Context) → AreTyped c → (x : End) → Sound (end_faults c x) (EndIs c x) (check_end c x)
  end_sound c k no_end = (refl, ([], none_typed, int_is_integer))
  end_sound c k (end_at e) = end_alone (faults c false e) (judge c e) (check c false e) (check_sound c k false e)

-- ---- statements

unless_sound : (b : Bool) (fault : Fault) → Sound (unless b fault) (λ _. b ≡ true) (unless_fault b fault)
unfolding unless
unless_sound true fault = (refl, refl)
unless_sound false fault = first_stands fault []

forget : {A : Type 0} (fs : List Fault) (P : A → Type 0) (y : Checked A) → Sound fs P y → Sound fs (λ _. Unit {0}) y
forget fs P (Ok x) h = (h.0, tt)
forget fs P (Err fault) h = h

kept : {A : Type 0} (fs : List Fault) (c : Context) → AreTyped c → (y : Checked A) → Sound fs (λ _. Unit {0}) y
    → Sound fs (λ r. (c ≡ r) × AreTyped r) (y >>= λ _. Ok c)
kept fs c k (Ok x) h = (h.0, (refl, k))
kept fs c k (Err fault) h = h

stated_letting : (A B C : List Fault) (Q : Context → Type 0) (one two : Checked ValueType) (next : ValueType → Checked Context) (P R : ValueType → Type 0)
    → Sound A P one → Sound B R two → ((t : ValueType) → P t → Sound C Q (next t))
    → Sound (A ++ B ++ C) Q ((one >>= λ t. Ok (Some t)) >>= λ stated. two >>= λ t. next (unwrap_or stated t))
stated_letting A B C Q (Err fault) two next P R h g l = Contains-append_left (A ++ B) C fault (Contains-append_left A B fault h)
stated_letting A B C Q (Ok t) (Err fault) next P R h g l = Contains-append_left (A ++ B) C fault (Contains-append_right A B fault g)
stated_letting A B C Q (Ok t) (Ok u) next P R h g l = behind (A ++ B) C Q (next t) (no_more A B h.0 g.0) (l t h.1)

-- names that are declared, and the context behind them
declared_sound : (m : Meaning) → HasType (Some m) → (c : Context) → AreTyped c → (names : List (Name × Place))
    → Sound (declaration_faults m c names) (λ r. (declare m c names ≡ r) × AreTyped r) (check_declared m c names)
unfolding declaration_faults check_declared declare
declared_sound m h c k [] = (refl, (refl, k))
declared_sound m h c k (name ∷ names) =
    after _ _ (λ _. is_none (c name.0) ≡ true) (λ r. (declare m c (name ∷ names) ≡ r) × AreTyped r) _ _
    (unless_sound (is_none (c name.0)) (redeclared name.1 name.0))
    (λ _ _. declared_sound m h (put name.0 m c) (put_typed c name.0 m k h) names)

groups_sound : (d o : Bool) (c : Context) → AreTyped c → (groups : List Group)
    → Sound (group_faults c d o groups) (λ r. (after_groups c d groups ≡ r) × AreTyped r) (check_groups d o c groups)
unfolding group_faults check_groups after_groups after_group group_meaning type_from
groups_sound d o c k [] = (refl, (refl, k))
groups_sound d o c k (g ∷ groups) =
    let m : Meaning = group_meaning c d g in
    let inner : Context = after_group c d g in
    let A : List Fault = domain_faults c o g.domain in
    let B : List Fault = declaration_faults m c g.names in
    let C : List Fault = group_faults inner d o groups in
    let Q : Context → Type 0 = λ r. (after_groups inner d groups ≡ r) × AreTyped r in
    let next : ValueType → Checked Context = λ t. check_declared (a_value (Some t) d) c g.names >>= λ r. check_groups d o r groups in
    let whole : Sound (A ++ (B ++ C)) Q (check_domain c o g.domain >>= next) =
    after A (B ++ C) (λ t. judge_domain c g.domain ≡ typed t) Q (check_domain c o g.domain) next (domain_sound c k o g.domain)
    (λ t e.
    let n : Meaning = a_value (Some t) d in
    let same : m ≡ n = rw e refl in
    let P : Meaning → Type 0 = λ x. Sound (declaration_faults x c g.names) (λ r. (declare x c g.names ≡ r) × AreTyped r) (check_declared n c g.names) in
    after B C (λ r. (inner ≡ r) × AreTyped r) Q (check_declared n c g.names) (λ r. check_groups d o r groups)
    (subst P (sym same) (declared_sound n tt c k g.names))
    (λ r h.
    let R : Context → Type 0 = λ x. Sound (group_faults x d o groups) (λ z. (after_groups x d groups ≡ z) × AreTyped z) (check_groups d o r groups) in
    subst R (sym h.0) (groups_sound d o r h.1 groups))) in
    let S : List Fault → Type 0 = λ xs. Sound xs Q (check_domain c o g.domain >>= next) in
    subst S (sym (append_assoc A B C)) whole

clause_sound : (c : Context) → AreTyped c → (d : Bool) (e : ExprTree)
    → Sound (type_fault (place_of e) (from_one (judge c e) (λ t. gives t (is_boolean t))) ++ faults c d e) (λ _. Unit {0}) (check_clause c d e)
unfolding check_clause
clause_sound c k d e =
    forget _ _ _ (node (place_of e) _ _ (λ t. judge c e ≡ typed t) _ (λ t. gives t (is_boolean t)) (check_sound c k d e)
    (λ t h. (one_is (judge c e) (λ t. gives t (is_boolean t)) t h, settled_gives _ _)))

clauses_sound : (c : Context) → AreTyped c → (d : Bool) (es : List ExprTree) → Sound (clause_faults c d es) (λ _. Unit {0}) (check_clauses c d es)
unfolding clause_faults check_clauses
clauses_sound c k d [] = (refl, tt)
clauses_sound c k d (e ∷ es) = after _ _ (λ _. Unit {0}) (λ _. Unit {0}) _ _ (clause_sound c k d e) (λ _ _. clauses_sound c k d es)

goal_sound : (c : Context) → AreTyped c → (e : ExprTree) → Sound (goal_faults c e) (λ _. Unit {0}) (check_goal c e)
unfolding goal_faults check_goal
goal_sound c k e =
    forget _ _ _ (node (place_of e) _ _ (λ t. judge c e ≡ typed t) _ (λ t. gives t (is_integer t)) (check_sound c k true e)
    (λ t h. (one_is (judge c e) (λ t. gives t (is_integer t)) t h, settled_gives _ _)))

branching_sound : (c : Context) (names : List (Name × Place)) → Sound (branching_faults c names) (λ _. Unit {0}) (check_branching c names)
unfolding branching_faults check_branching
branching_sound c [] = (refl, tt)
branching_sound c (name ∷ names) =
    after _ _ (λ _. is_some (c name.0) ≡ true) (λ _. Unit {0}) _ _ (unless_sound (is_some (c name.0)) (unknown_name name.1 name.0)) (λ _ _. branching_sound c names)

-- a statement, and the context behind it
statement_sound : (c : Context) → AreTyped c → (s : StatementTree)
    → Sound (statement_faults c s) (λ r. (after_statement c s ≡ r) × AreTyped r) (check_statement c s)
unfolding statement_faults after_statement check_statement declare letting_meaning domain_meaning stated_faults check_stated type_from
statement_sound c k (given p groups) = groups_sound false true c k groups
statement_sound c k (decided p groups) = groups_sound true false c k groups
statement_sound c k (letting p name at None e) =
    let fs : List Fault = faults c false e in
    after fs _ (λ t. judge c e ≡ typed t) _ (check c false e) _ (check_sound c k false e)
    (λ t h.
    let n : Meaning = a_value (Some t) false in
    let same : letting_meaning c None e ≡ n = rw h refl in
    let P : Meaning → Type 0 = λ x. Sound (declaration_faults x c ((name, at) ∷ [])) (λ r. (declare x c ((name, at) ∷ []) ≡ r) × AreTyped r) (check_declared n c ((name, at) ∷ [])) in
    subst P (sym same) (declared_sound n tt c k ((name, at) ∷ [])))
statement_sound c k (letting p name at (Some d) e) =
    let A : List Fault = domain_faults c false d in
    let B : List Fault = faults c false e in
    let m : Meaning = letting_meaning c (Some d) e in
    let C : List Fault = declaration_faults m c ((name, at) ∷ []) in
    let Q : Context → Type 0 = λ r. (declare m c ((name, at) ∷ []) ≡ r) × AreTyped r in
    stated_letting A B C Q (check_domain c false d) (check c false e) (λ t. check_declared (a_value (Some t) false) c ((name, at) ∷ []))
    (λ t. judge_domain c d ≡ typed t) (λ t. judge c e ≡ typed t) (domain_sound c k false d) (check_sound c k false e)
    (λ t h.
    let n : Meaning = a_value (Some t) false in
    let same : m ≡ n = rw h refl in
    let P : Meaning → Type 0 = λ x. Sound (declaration_faults x c ((name, at) ∷ [])) (λ r. (declare x c ((name, at) ∷ []) ≡ r) × AreTyped r) (check_declared n c ((name, at) ∷ [])) in
    subst P (sym same) (declared_sound n tt c k ((name, at) ∷ [])))
statement_sound c k (domain_letting p name at d) =
    after (domain_faults c false d) _ (λ t. judge_domain c d ≡ typed t) _ (check_domain c false d) _ (domain_sound c k false d)
    (λ t h.
    let n : Meaning = a_domain (Some t) in
    let same : domain_meaning c d ≡ n = rw h refl in
    let P : Meaning → Type 0 = λ x. Sound (declaration_faults x c ((name, at) ∷ [])) (λ r. (declare x c ((name, at) ∷ []) ≡ r) × AreTyped r) (check_declared n c ((name, at) ∷ [])) in
    subst P (sym same) (declared_sound n tt c k ((name, at) ∷ [])))
statement_sound c k (requirements p es) = kept _ c k _ (clauses_sound c k false es)
statement_sound c k (constraints p es) = kept _ c k _ (clauses_sound c k true es)
statement_sound c k (objective p sense e) = kept _ c k _ (goal_sound c k e)
statement_sound c k (branching p names) = kept _ c k _ (branching_sound c names)
statement_sound c k (heuristic p name) = (refl, (refl, k))

-- A text: the first fault of checking stands in it, and where there is none, none stands.
pub text_sound : (c : Context) → AreTyped c → (statements : TextTree) → Sound (faults_after c statements) (λ _. Unit {0}) (check_text c statements)
unfolding faults_after check_text
text_sound c k [] = (refl, tt)
text_sound c k (s ∷ statements) =
    after (statement_faults c s) (faults_after (after_statement c s) statements) (λ r. (after_statement c s ≡ r) × AreTyped r) (λ _. Unit {0}) (check_statement c s) (λ r. check_text r statements)
    (statement_sound c k s)
    (λ r h.
    let R : Context → Type 0 = λ x. Sound (faults_after x statements) (λ _. Unit {0}) (check_text r statements) in
    subst R (sym h.0) (text_sound r h.1 statements))
