-- What is checked where some names are known is checked where more are.
use Rattle.std.specs.Prelude.{◌≡◌, Bool, false, not, ◌&&◌, ◌||◌, List, [], ◌∷◌, Some, None, Ok, Err, IfSome, OnSome, Option, bytes_eq, if◌then◌else◌, refl, true}
use Rattle.std.proofs.Common.{ap, subst, sym, ◌∙◌}
use Rattle.std.proofs.lemmas.Slice.Eq.{bytes_eq-Decides}
use Rattle.std.specs.List.{list_all}
use Rattle.ep_base.specs.declared.names.Name.{Name}
use Rattle.ep_base.specs.declared.places.Place.{Place}
use Rattle.ep_tree.specs.Faults.{entry_count, has_open_range, is_power, leaves_matrix, open_domain}
use Rattle.ep_tree.specs.Names.{put}
use Rattle.ep_tree.specs.Trees.{DomainTree, Domains, End, ExprTree, ExprTrees, Generators, IndexDomain, Indices, Ranges, Terms, absolute, all_different, all_of, any_of, at_least, at_most, binary, bool, chain, compare, comprehension, domain_and, end_at, every_and, factorial, flatten, folded, gcc, generator_and, group, group_domain, in_domain, in_set, index_and, int, lex, literal, matrix_domain, minus, named, named_domain, negation, no_domains, no_end, no_generators, no_indices, no_ranges, no_terms, no_trees, number, one_and, over, quantified, ranges, read, set_domain, span_and, table, term_and, to_int, tree_and, truth, unstated}
use Rattle.ep_tree.specs.Types.{Context, Meaning, is_boolean, is_integer, list_type, quantified_name, quantified_type, slice_count, typed}
use Rattle.ep_tree.specs.declared.values.ValueType.{ValueType}
use Rattle.ep_types_rules.specs.Concluding.{Checked, conclude, quantified_over, unless_fault, ◌>>=◌}
use Rattle.ep_types.specs.Again.{Keeps}
use Rattle.ep_types.specs.Checking.{check, check_all, check_domain, check_domain_name, check_domains, check_end, check_generators, check_index, check_indices, check_name, check_ranges, check_readings, check_terms}

-- names that stand for something stand for the same
abbrev pub Grows : Context → Context → Type 0
Grows c k = (name : Name) (m : Meaning) → c name ≡ Some m → k name ≡ Some m

-- what a check gives, another gives too
abbrev pub Gives : {A : Type 0} → Checked A → Checked A → Type 0
Gives (Ok x) other = other ≡ Ok x
Gives (Err fault) other = Unit {0}

gives_same : {A : Type 0} (one : Checked A) → Gives one one
gives_same (Ok x) = refl
gives_same (Err fault) = tt

then_gives : {A B : Type 0} (one other : Checked A) (next behind : A → Checked B) → Gives one other → ((x : A) → Gives (next x) (behind x)) → Gives (one >>= next) (other >>= behind)
then_gives {A} (Ok x) other next behind h g = let P : Checked A → Type 0 = λ o. Gives (next x) (o >>= behind) in subst P (sym h) (g x)
then_gives (Err fault) other next behind h g = tt

node_gives : {A B : Type 0} (one other : Checked A) (rule : A → Checked B) → Gives one other → Gives (one >>= rule) (other >>= rule)
node_gives one other rule h = then_gives one other rule rule h (λ x. gives_same (rule x))

-- ---- names

put_grows : (c k : Context) (name : Name) (m : Meaning) → Grows c k → Grows (put name m c) (put name m k)
put_grows c k name m g other x =
    elim (bytes_eq other name) as (λ b. (if b then Some m else c other) ≡ Some x → (if b then Some m else k other) ≡ Some x) [ true ↦ λ e. e | false ↦ g other x ]

name_gives : (d : Bool) (p : Place) (name : Name) (one other : Option Meaning) → ((m : Meaning) → one ≡ Some m → other ≡ Some m) → Gives (check_name d p name one) (check_name d p name other)
unfolding check_name
name_gives d p name None other h = tt
name_gives d p name (Some m) other h =
    let P : Option Meaning → Type 0 = λ o. Gives (check_name d p name (Some m)) (check_name d p name o) in
    subst P (sym (h m refl)) (gives_same (check_name d p name (Some m)))

domain_name_gives : (p : Place) (name : Name) (one other : Option Meaning) → ((m : Meaning) → one ≡ Some m → other ≡ Some m) → Gives (check_domain_name p name one) (check_domain_name p name other)
unfolding check_domain_name
domain_name_gives p name None other h = tt
domain_name_gives p name (Some m) other h =
    let P : Option Meaning → Type 0 = λ o. Gives (check_domain_name p name (Some m)) (check_domain_name p name o) in
    subst P (sym (h m refl)) (gives_same (check_domain_name p name (Some m)))

-- ---- names that hide others

-- what readings give, others give too, and behind them more names are known
abbrev Behind : Checked (Bool × Context) → Checked (Bool × Context) → Type 0
Behind (Ok x) other = (k : Context) × (other ≡ Ok (x.0, k)) × Grows x.1 k
Behind (Err fault) other = Unit {0}

then_behind : {A : Type 0} (one other : Checked A) (next behind : A → Checked (Bool × Context)) → Gives one other → ((x : A) → Behind (next x) (behind x)) → Behind (one >>= next) (other >>= behind)
then_behind {A} (Ok x) other next behind h g = let P : Checked A → Type 0 = λ o. Behind (next x) (o >>= behind) in subst P (sym h) (g x)
then_behind (Err fault) other next behind h g = tt

more_behind : (b : Bool) (one other : Checked (Bool × Context)) → Behind one other → Behind (one >>= λ o. Ok (b && o.0, o.1)) (other >>= λ o. Ok (b && o.0, o.1))
more_behind b (Ok x) other h = (h.0, ap (λ o. o >>= λ y. Ok (b && y.0, y.1)) h.1, h.2)
more_behind b (Err fault) other h = tt

gives_behind : {B : Type 0} (one other : Checked (Bool × Context)) (next : Bool → Context → Checked B) → Behind one other
    → ((b : Bool) (c k : Context) → Grows c k → Gives (next b c) (next b k)) → Gives (one >>= λ r. next r.0 r.1) (other >>= λ r. next r.0 r.1)
gives_behind (Ok x) other next h g =
    let P : Checked (Bool × Context) → Type 0 = λ o. Gives (next x.0 x.1) (o >>= λ r. next r.0 r.1) in subst P (sym h.1) (g x.0 x.1 h.0 h.2)
gives_behind (Err fault) other next h g = tt

behind_behind : (one other : Checked (Bool × Context)) (next : Bool → Context → Checked (Bool × Context)) → Behind one other
    → ((b : Bool) (c k : Context) → Grows c k → Behind (next b c) (next b k)) → Behind (one >>= λ r. next r.0 r.1) (other >>= λ r. next r.0 r.1)
behind_behind (Ok x) other next h g =
    let P : Checked (Bool × Context) → Type 0 = λ o. Behind (next x.0 x.1) (o >>= λ r. next r.0 r.1) in subst P (sym h.1) (g x.0 x.1 h.0 h.2)
behind_behind (Err fault) other next h g = tt

readings_give : (f : Context → Checked ValueType) → ((c k : Context) → Grows c k → Gives (f c) (f k)) → (names : List Name) (c k : Context) → Grows c k
    → Behind (check_readings names f c) (check_readings names f k)
unfolding check_readings
readings_give f h [] c k g = (k, refl, g)
readings_give f h (name ∷ names) c k g =
    then_behind (f c) (f k) _ _ (h c k g)
    (λ t. more_behind (is_integer t) _ _
    (readings_give f h names (put name (quantified_name (typed t)) c) (put name (quantified_name (typed t)) k) (put_grows c k name (quantified_name (typed t)) g)))

-- ---- all forms

mutual
  unfolding check check_domain check_all check_terms check_indices check_ranges check_end check_domains check_index check_generators

  pub check_gives : (e : ExprTree) (c k : Context) → Grows c k → (d : Bool) → Gives (check c d e) (check k d e)
  check_gives (number p n) c k g d = refl
  check_gives (truth p b) c k g d = refl
  check_gives (named p name) c k g d = name_gives d p name (c name) (k name) (g name)
  check_gives (group p e) c k g d = check_gives e c k g d
  check_gives (negation p e) c k g d = node_gives _ _ _ (check_gives e c k g d)
  check_gives (minus p e) c k g d = node_gives _ _ _ (check_gives e c k g d)
  check_gives (absolute p e) c k g d = node_gives _ _ _ (check_gives e c k g d)
  check_gives (to_int p e) c k g d = node_gives _ _ _ (check_gives e c k g d)
  check_gives (factorial p e) c k g d = node_gives _ _ _ (check_gives e c k g false)
  check_gives (flatten p m) c k g d = node_gives _ _ _ (check_gives m c k g d)
  check_gives (chain p terms) c k g d = node_gives _ _ _ (terms_give terms c k g d)
  check_gives (binary p op a b) c k g d = then_gives _ _ _ _ (check_gives a c k g d) (λ s. node_gives _ _ _ (check_gives b c k g (d && not (is_power op))))
  check_gives (compare p op a b) c k g d = then_gives _ _ _ _ (check_gives a c k g d) (λ s. node_gives _ _ _ (check_gives b c k g d))
  check_gives (lex p op a b) c k g d = then_gives _ _ _ _ (check_gives a c k g d) (λ s. node_gives _ _ _ (check_gives b c k g d))
  check_gives (in_domain p e dom) c k g d = then_gives _ _ _ _ (check_gives e c k g d) (λ s. node_gives _ _ _ (domain_gives dom c k g false))
  check_gives (in_set p e m) c k g d = then_gives _ _ _ _ (check_gives e c k g d) (λ s. node_gives _ _ _ (check_gives m c k g d))
  check_gives (all_of p parts) c k g d = node_gives _ _ _ (all_give parts c k g d)
  check_gives (any_of p parts) c k g d = node_gives _ _ _ (all_give parts c k g d)
  check_gives (quantified p op names dom e) c k g d =
      gives_behind _ _ (λ b x. check x d e >>= λ t. conclude p (quantified_over b (quantified_type op [] t)))
      (readings_give (λ x. check_domain x false dom) (λ x y h. domain_gives dom x y h false) names c k g)
      (λ b x y h. node_gives _ _ _ (check_gives e x y h d))
  check_gives (literal p parts dom) c k g d = then_gives _ _ _ _ (all_give parts c k g d) (λ ts. node_gives _ _ _ (index_gives dom c k g))
  check_gives (comprehension p e gens conditions dom) c k g d =
      then_gives _ _ _ _ (index_gives dom c k g)
      (λ index. gives_behind _ _ (λ b x. check_all x false conditions >>= λ truths. check x d e >>= λ t. conclude p (quantified_over (index && b && list_all is_boolean truths) (list_type (t ∷ []))))
      (generators_give gens c k g)
      (λ b x y h. then_gives _ _ _ _ (all_give conditions x y h false) (λ truths. node_gives _ _ _ (check_gives e x y h d))))
  check_gives (read p m indices) c k g d =
      then_gives _ _ _ _ (check_gives m c k g d)
      (λ t. node_gives _ _ _ (indices_give indices c k g (d && not (leaves_matrix (typed t) (entry_count indices) (slice_count indices)))))
  check_gives (folded p op m) c k g d = node_gives _ _ _ (check_gives m c k g d)
  check_gives (all_different p m) c k g d = node_gives _ _ _ (check_gives m c k g d)
  check_gives (gcc p m values counts) c k g d =
      then_gives _ _ _ _ (check_gives m c k g d) (λ s. then_gives _ _ _ _ (check_gives values c k g false) (λ t. node_gives _ _ _ (check_gives counts c k g d)))
  check_gives (at_least p m counts values) c k g d =
      then_gives _ _ _ _ (check_gives m c k g d) (λ s. then_gives _ _ _ _ (check_gives counts c k g false) (λ t. node_gives _ _ _ (check_gives values c k g false)))
  check_gives (at_most p m counts values) c k g d =
      then_gives _ _ _ _ (check_gives m c k g d) (λ s. then_gives _ _ _ _ (check_gives counts c k g false) (λ t. node_gives _ _ _ (check_gives values c k g false)))
  check_gives (table p row rows) c k g d = then_gives _ _ _ _ (check_gives row c k g d) (λ s. node_gives _ _ _ (check_gives rows c k g false))

  pub domain_gives : (dom : DomainTree) (c k : Context) → Grows c k → (o : Bool) → Gives (check_domain c o dom) (check_domain k o dom)
  domain_gives (bool p) c k g o = refl
  domain_gives (int p) c k g o = gives_same (unless_fault o (open_domain p) >>= λ _. Ok ValueType.Int)
  domain_gives (ranges p rs) c k g o =
      then_gives _ _ _ _ (gives_same (unless_fault (o || not (has_open_range rs)) (open_domain p))) (λ u. node_gives _ _ _ (ranges_give rs c k g))
  domain_gives (named_domain p name) c k g o = domain_name_gives p name (c name) (k name) (g name)
  domain_gives (group_domain p dom) c k g o = domain_gives dom c k g o
  domain_gives (set_domain p op a b) c k g o = then_gives _ _ _ _ (domain_gives a c k g o) (λ s. node_gives _ _ _ (domain_gives b c k g o))
  domain_gives (matrix_domain p ds dom) c k g o = then_gives _ _ _ _ (domains_give ds c k g) (λ ts. node_gives _ _ _ (domain_gives dom c k g o))

  all_give : (es : ExprTrees) (c k : Context) → Grows c k → (d : Bool) → Gives (check_all c d es) (check_all k d es)
  all_give no_trees c k g d = refl
  all_give (tree_and e es) c k g d = then_gives _ _ _ _ (check_gives e c k g d) (λ t. node_gives _ _ _ (all_give es c k g d))

  terms_give : (es : Terms) (c k : Context) → Grows c k → (d : Bool) → Gives (check_terms c d es) (check_terms k d es)
  terms_give no_terms c k g d = refl
  terms_give (term_and b e es) c k g d = then_gives _ _ _ _ (check_gives e c k g d) (λ t. node_gives _ _ _ (terms_give es c k g d))

  indices_give : (es : Indices) (c k : Context) → Grows c k → (d : Bool) → Gives (check_indices c d es) (check_indices k d es)
  indices_give no_indices c k g d = refl
  indices_give (every_and es) c k g d = indices_give es c k g d
  indices_give (index_and e es) c k g d = then_gives _ _ _ _ (check_gives e c k g d) (λ t. node_gives _ _ _ (indices_give es c k g d))

  ranges_give : (rs : Ranges) (c k : Context) → Grows c k → Gives (check_ranges c rs) (check_ranges k rs)
  ranges_give no_ranges c k g = refl
  ranges_give (one_and e rs) c k g = then_gives _ _ _ _ (check_gives e c k g false) (λ t. node_gives _ _ _ (ranges_give rs c k g))
  ranges_give (span_and a b rs) c k g =
      then_gives _ _ _ _ (end_gives a c k g) (λ x. then_gives _ _ _ _ (end_gives b c k g) (λ y. node_gives _ _ _ (ranges_give rs c k g)))

  end_gives : (a : End) (c k : Context) → Grows c k → Gives (check_end c a) (check_end k a)
  end_gives no_end c k g = refl
  end_gives (end_at e) c k g = check_gives e c k g false

  domains_give : (ds : Domains) (c k : Context) → Grows c k → Gives (check_domains c ds) (check_domains k ds)
  domains_give no_domains c k g = refl
  domains_give (domain_and dom ds) c k g = then_gives _ _ _ _ (domain_gives dom c k g false) (λ t. node_gives _ _ _ (domains_give ds c k g))

  index_gives : (dom : IndexDomain) (c k : Context) → Grows c k → Gives (check_index c dom) (check_index k dom)
  index_gives unstated c k g = refl
  index_gives (over dom) c k g = node_gives _ _ _ (domain_gives dom c k g false)

  generators_give : (gens : Generators) (c k : Context) → Grows c k → Behind (check_generators c gens) (check_generators k gens)
  generators_give no_generators c k g = (k, refl, g)
  generators_give (generator_and names dom gens) c k g =
      behind_behind _ _ (λ b x. check_generators x gens >>= λ behind. Ok (b && behind.0, behind.1))
      (readings_give (λ x. check_domain x false dom) (λ x y h. domain_gives dom x y h false) names c k g)
      (λ b x y h. more_behind b _ _ (generators_give gens x y h))

-- ---- a domain that is read again

keeps_grows : (c : Context) (name : Name) (m : Meaning) → Keeps c name m → Grows c (put name m c)
keeps_grows c name m h other x e = go (bytes_eq other name) refl
  where
    go : (b : Bool) → bytes_eq other name ≡ b → (if b then Some m else c other) ≡ Some x
    go true p = let same : other ≡ name = (bytes_eq-Decides other name).0 p in ap Some (sym (h x (ap c (sym same) ∙ e)))
    go false p = e

pub read_again : (c : Context) (name : Name) (m : Meaning) → Keeps c name m → (dom : DomainTree) (t : ValueType) → check_domain c false dom ≡ Ok t → check_domain (put name m c) false dom ≡ Ok t
read_again c name m h dom t e =
    let P : Checked ValueType → Type 0 = λ r. Gives r (check_domain (put name m c) false dom) in
    subst P e (domain_gives dom c (put name m c) (keeps_grows c name m h) false)

-- what is known of a domain behind a name that keeps what it stood for
pub known_again : (c k : Context) (name : Name) (m : Meaning) (dom : DomainTree) (t : ValueType) (again : Option ValueType) → check_domain c false dom ≡ Ok t
    → IfSome again (λ u. u ≡ t) → OnSome again (Keeps c name m) → k ≡ put name m c → IfSome again (λ u. check_domain k false dom ≡ Ok u)
known_again c k name m dom t None e same keeps put' = tt
known_again c k name m dom t (Some u) e same keeps put' =
    let P : Context → Type 0 = λ z. check_domain z false dom ≡ Ok u in
    subst P (sym put') (read_again c name m keeps dom t e ∙ ap Ok (sym same))
