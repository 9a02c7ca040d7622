-- The terms of chains of sums and of quantifiers.
use Rattle.ep_unroll.proofs.Words.{◌≡◌, ℕ, suc, ◌<◌, Bool, ℤ, pos, List, [], ◌∷◌, length, Some, None, refl, sym, ap, ◌∙◌, arith, Option, is_some, map, ◌*ℤ◌, ◌+ℤ◌, option_map, option_and_then, All, ints, all_one, any_one, sum_of, on_both, all_there, weighted_sum, Name, Place, GroundNode, evaluate-chain, Env, all_numbers, all_true, any_true, domain_values, evaluate, number_in, number_value, quantified_value, truth_in, undefined_truth, Terms, chain, ValueTree, all_defined, single, domain_tree, expr_tree, QuantOp, Mode, quantified_by, instance_value, quantified_tree, Quantifier, Grows, Puts, AreInstancesOf, IsTermOf, ArePartial, HasNumber, Numbering, Reading, AreSigned, IsJudged, needed_in}
use Rattle.ep_ground.specs.Nodes as node
use Rattle.ep_ground.specs.Terms as ground
use Rattle.ep_ground.specs.Terms.{node_value, term_value, weighed, truth as ground_truth}
use Rattle.ep_unroll.proofs.FormValues.{grows_on, grown_value, there_defined, truth_told, untold_is}
use Rattle.ep_unroll.proofs.MeaningSteps.{grows_none}
use Rattle.ep_unroll.proofs.TruthSteps.{list_there, told_both}

-- a sum is the sum of its parts, each multiplied by its coefficient
pub weighed_sum : (value : ℕ → Option ℤ) (ps : List (ℤ × ℕ))
    → option_map weighted_sum (weighed value ps) ≡ option_map sum_of (all_there (map (λ part. option_map (λ x. part.0 *ℤ x) (value part.1)) ps))
unfolding weighed weighted_sum all_there sum_of on_both
weighed_sum value [] = refl
weighed_sum value (part ∷ ps) = go (value part.1) (weighed value ps) (all_there (map (λ q. option_map (λ x. q.0 *ℤ x) (value q.1)) ps)) (weighed_sum value ps)
  where
    inner : (x : ℤ) (rest : Option (List (ℤ × ℤ))) (others : Option (List ℤ)) → option_map weighted_sum rest ≡ option_map sum_of others
        → option_map weighted_sum (option_and_then (λ r. Some ((part.0, x) ∷ r)) rest) ≡ option_map sum_of (option_map (λ ns. (part.0 *ℤ x) ∷ ns) others)
    inner x None None h = refl
    inner x None (Some ns) h = absurd cc
    inner x (Some ps') None h = absurd cc
    inner x (Some ps') (Some ns) h = ap (option_map (λ s. (part.0 *ℤ x) +ℤ s)) h

    go : (o : Option ℤ) (rest : Option (List (ℤ × ℤ))) (others : Option (List ℤ)) → option_map weighted_sum rest ≡ option_map sum_of others
        → option_map weighted_sum (on_both o rest (λ x r. Some ((part.0, x) ∷ r)))
        ≡ option_map sum_of (option_and_then (λ n. option_map (λ ns. n ∷ ns) others) (option_map (λ x. part.0 *ℤ x) o))
    go None rest others h = refl
    go (Some x) rest others h = inner x rest others h

from_zero : (o : Option (List (ℤ × ℤ))) → option_map (λ ps. pos 0 +ℤ weighted_sum ps) o ≡ option_map weighted_sum o
from_zero None = refl
from_zero (Some ps) = ap Some (zero_and (weighted_sum ps))
  where
    zero_and : (s : ℤ) → pos 0 +ℤ s ≡ s
    zero_and s = omega (arith, ints)

-- what a sum's node is worth
pub sum_value : (numbers : List ℤ) (value : ℕ → Option ℤ) (ps : List (ℤ × ℕ))
    → node_value numbers value (node.sum (pos 0) ps) ≡ option_map sum_of (all_defined (map (λ part. option_map (λ x. part.0 *ℤ x) (value part.1)) ps))
unfolding node_value
sum_value numbers value ps =
    from_zero (weighed value ps) ∙ weighed_sum value ps
    ∙ ap (option_map sum_of) (there_defined (map (λ part. option_map (λ x. part.0 *ℤ x) (value part.1)) ps))

parts_grown : (mid new : List GroundNode) (numbers : List ℤ) (ps : List (ℤ × ℕ)) → Grows mid new → All (λ part. part.1 < length mid) ps
    → map (λ part. option_map (λ x. part.0 *ℤ x) (term_value new numbers part.1)) ps ≡ map (λ part. option_map (λ x. part.0 *ℤ x) (term_value mid numbers part.1)) ps
parts_grown mid new numbers [] g known = refl
parts_grown mid new numbers (part ∷ ps) g known =
    ap (λ o. option_map (λ x. part.0 *ℤ x) o ∷ map (λ q. option_map (λ x. q.0 *ℤ x) (term_value new numbers q.1)) ps)
    (grown_value mid new numbers part.1 g (known 0 part (omega arith)))
    ∙ ap (λ ys. option_map (λ x. part.0 *ℤ x) (term_value mid numbers part.1) ∷ ys)
    (parts_grown mid new numbers ps g (λ k d less. known (suc k) d (omega (arith, less))))

pub chain_is : (n : Numbering) (cells : Env) (nodes mid new : List GroundNode) (p : Place) (terms : Terms) (ps : List (ℤ × ℕ)) (t : ℕ)
    → AreSigned n cells nodes mid terms ps → Puts mid new (node.sum (pos 0) ps) t → IsTermOf n cells nodes new (chain p terms) t
chain_is n cells nodes mid new p terms ps t h put = record {
  grows = grows_on nodes mid new h.grows put.grows;
  known = put.known;
  value = λ r.
      evaluate-chain n.mode r.values p terms
      ∙ ap (λ os. number_value (option_map sum_of (all_defined os))) (sym (parts_grown mid new r.numbers ps put.grows h.known ∙ h.numbers r))
      ∙ ap (option_map single) (sym (put.value r.numbers ∙ sum_value r.numbers (term_value new r.numbers) ps));
}

-- ---- quantifiers

-- the numbers of the instances, with more nodes
instances_grown : (mid new : List GroundNode) (numbers : List ℤ) (ts : List ℕ) → Grows mid new → All (λ t. t < length mid) ts
    → map (term_value new numbers) ts ≡ map (term_value mid numbers) ts
instances_grown mid new numbers [] g known = refl
instances_grown mid new numbers (t ∷ ts) g known =
    ap (λ x. x ∷ map (term_value new numbers) ts) (grown_value mid new numbers t g (known 0 t (omega arith)))
    ∙ ap (λ xs. term_value mid numbers t ∷ xs) (instances_grown mid new numbers ts g (λ k d less. known (suc k) d (omega (arith, less))))

maps_twice : {A B C : Type 0} (f : B → C) (g : A → B) (xs : List A) → map f (map g xs) ≡ map (λ x. f (g x)) xs
maps_twice f g [] = refl
maps_twice f g (x ∷ xs) = ap (λ ys. f (g x) ∷ ys) (maps_twice f g xs)

-- the value of a quantifier by those of its instances
by_instances : (mode : Mode) (env : Env) (p : Place) (q : Quantifier) (name : Name) (rest : List Name) (o : Option (List ℤ)) → domain_values mode env (domain_tree q.domain.now) ≡ o
    → evaluate mode env (quantified_tree p q (name ∷ rest)) ≡ quantified_value mode q.op (option_map (map (instance_value mode env p q name rest)) o)
by_instances mode env p q name rest o h =
    quantified_by mode env p q.op name rest (domain_tree q.domain.now) (expr_tree q.body.now) ∙ ap (λ x. quantified_value mode q.op (option_map (map (instance_value mode env p q name rest)) x)) h

-- what the instances of a quantifier make of its node
quantified_is : (n : Numbering) (cells : Env) (nodes mid new : List GroundNode) (p : Place) (q : Quantifier) (op : QuantOp) (name : Name) (rest : List Name) (ns : List ℤ) (ts : List ℕ) (t : ℕ) (own : GroundNode)
    (whole : List (Option ℤ) → Option ℤ)
    → q.op ≡ op → ((vs : List (Option ValueTree)) → quantified_value n.mode op (Some vs) ≡ option_map single (whole (map number_in vs)))
    → ((numbers : List ℤ) (value : ℕ → Option ℤ) → node_value numbers value own ≡ whole (map value ts))
    → ((r : Reading n cells) → domain_values n.mode r.values (domain_tree q.domain.now) ≡ Some ns)
    → AreInstancesOf n cells nodes mid p q name rest ns ts → Puts mid new own t → IsTermOf n cells nodes new (quantified_tree p q (name ∷ rest)) t
quantified_is n cells nodes mid new p q op name rest ns ts t own whole is one other domain h put = record {
  grows = grows_on nodes mid new h.grows put.grows;
  known = put.known;
  value = λ r.
      by_instances n.mode r.values p q name rest (Some ns) (domain r)
      ∙ ap (λ o. quantified_value n.mode o (Some (map (instance_value n.mode r.values p q name rest) ns))) is
      ∙ one (map (instance_value n.mode r.values p q name rest) ns)
      ∙ ap (λ os. option_map single (whole os))
      (maps_twice number_in (instance_value n.mode r.values p q name rest) ns
      ∙ sym (instances_grown mid new r.numbers ts put.grows h.known ∙ h.numbers r))
      ∙ ap (option_map single) (sym (put.value r.numbers ∙ other r.numbers (term_value new r.numbers)));
}

-- what the instances of a quantifier make of its truth value
quantified_truth : (n : Numbering) (cells : Env) (nodes mid new : List GroundNode) (p : Place) (q : Quantifier) (op : QuantOp) (name : Name) (rest : List Name) (ns : List ℤ) (ts us : List ℕ) (t : ℕ) (own : GroundNode)
    (k : List ℤ → Bool)
    → q.op ≡ op → ((vs : List (Option ValueTree)) → quantified_value n.mode op (Some vs) ≡ truth_in n.mode (option_map k (all_numbers vs)))
    → ((numbers : List ℤ) (value : ℕ → Option ℤ) → node_value numbers value own ≡ ground_truth (option_map k (all_there (map value ts))))
    → ((r : Reading n cells) → domain_values n.mode r.values (domain_tree q.domain.now) ≡ Some ns)
    → AreInstancesOf n cells nodes mid p q name rest ns ts → ArePartial mid n.count (needed_in n.mode ts) us → IsJudged mid new own us t
    → IsTermOf n cells nodes new (quantified_tree p q (name ∷ rest)) t
quantified_truth n cells nodes mid new p q op name rest ns ts us t own k is one other domain h needed j =
    truth_told n cells nodes mid new (quantified_tree p q (name ∷ rest)) ts us t own (λ r. option_map k (all_numbers (instances r))) h.grows needed j
    (λ r. by_instances n.mode r.values p q name rest (Some ns) (domain r)
    ∙ ap (λ o. quantified_value n.mode o (Some (instances r))) is ∙ one (instances r))
    (λ r. told_both n.mode (option_map k (all_numbers (instances r))) (term_value j.between r.numbers j.own)
    (j.puts.value r.numbers ∙ other r.numbers (term_value j.between r.numbers)
    ∙ ap (λ os. ground_truth (option_map k (all_there os))) (instances_grown mid j.between r.numbers ts j.puts.grows h.known)
    ∙ ap (λ o. ground_truth (option_map k o)) (numbers_there r)))
    (λ r. ap is_some (numbers_there r) ∙ list_there k (all_numbers (instances r)))
  where
    instances : (r : Reading n cells) → List (Option ValueTree)
    instances r = map (instance_value n.mode r.values p q name rest) ns

    numbers_there : (r : Reading n cells) → all_there (map (term_value mid r.numbers) ts) ≡ all_numbers (instances r)
    numbers_there r =
        ap all_there (h.numbers r ∙ sym (maps_twice number_in (instance_value n.mode r.values p q name rest) ns)) ∙ there_defined (map number_in (instances r))

pub for_all_is : (n : Numbering) (cells : Env) (nodes mid new : List GroundNode) (p : Place) (q : Quantifier) (name : Name) (rest : List Name) (ns : List ℤ) (ts us : List ℕ) (t : ℕ)
    → q.op ≡ QuantOp.ForAll → ((r : Reading n cells) → domain_values n.mode r.values (domain_tree q.domain.now) ≡ Some ns)
    → AreInstancesOf n cells nodes mid p q name rest ns ts → ArePartial mid n.count (needed_in n.mode ts) us → IsJudged mid new (node.all_of ts) us t
    → IsTermOf n cells nodes new (quantified_tree p q (name ∷ rest)) t
unfolding node_value ground.term_values_of quantified_value all_true
for_all_is n cells nodes mid new p q name rest ns ts us t is domain =
    quantified_truth n cells nodes mid new p q QuantOp.ForAll name rest ns ts us t (node.all_of ts) all_one is (λ vs. refl) (λ numbers value. refl) domain

pub exists_is : (n : Numbering) (cells : Env) (nodes mid new : List GroundNode) (p : Place) (q : Quantifier) (name : Name) (rest : List Name) (ns : List ℤ) (ts us : List ℕ) (t : ℕ)
    → q.op ≡ QuantOp.Exists → ((r : Reading n cells) → domain_values n.mode r.values (domain_tree q.domain.now) ≡ Some ns)
    → AreInstancesOf n cells nodes mid p q name rest ns ts → ArePartial mid n.count (needed_in n.mode ts) us → IsJudged mid new (node.any_of ts) us t
    → IsTermOf n cells nodes new (quantified_tree p q (name ∷ rest)) t
unfolding node_value ground.term_values_of quantified_value any_true
exists_is n cells nodes mid new p q name rest ns ts us t is domain =
    quantified_truth n cells nodes mid new p q QuantOp.Exists name rest ns ts us t (node.any_of ts) any_one is (λ vs. refl) (λ numbers value. refl) domain

pub ones_same : (value : ℕ → Option ℤ) (ts : List ℕ)
    → map (λ part. option_map (λ x. part.0 *ℤ x) (value part.1)) (map {B = ℤ × ℕ} (λ t. (pos 1, t)) ts) ≡ map value ts
ones_same value [] = refl
ones_same value (t ∷ ts) =
    ap (λ o. o ∷ map (λ part. option_map (λ x. part.0 *ℤ x) (value part.1)) (map {B = ℤ × ℕ} (λ u. (pos 1, u)) ts)) (once (value t))
    ∙ ap (λ os. value t ∷ os) (ones_same value ts)
  where
    one_times : (x : ℤ) → pos 1 *ℤ x ≡ x
    one_times x = omega (arith, ints)

    once : (o : Option ℤ) → option_map (λ x. pos 1 *ℤ x) o ≡ o
    once None = refl
    once (Some x) = ap Some (one_times x)

pub total_is : (n : Numbering) (cells : Env) (nodes mid new : List GroundNode) (p : Place) (q : Quantifier) (name : Name) (rest : List Name) (ns : List ℤ) (ts : List ℕ) (t : ℕ)
    → q.op ≡ QuantOp.Sum → ((r : Reading n cells) → domain_values n.mode r.values (domain_tree q.domain.now) ≡ Some ns)
    → AreInstancesOf n cells nodes mid p q name rest ns ts → Puts mid new (node.sum (pos 0) (map {B = ℤ × ℕ} (λ u. (pos 1, u)) ts)) t
    → IsTermOf n cells nodes new (quantified_tree p q (name ∷ rest)) t
unfolding quantified_value
total_is n cells nodes mid new p q name rest ns ts t is =
    quantified_is n cells nodes mid new p q QuantOp.Sum name rest ns ts t (node.sum (pos 0) (map {B = ℤ × ℕ} (λ u. (pos 1, u)) ts)) (λ os. option_map sum_of (all_defined os)) is
    (λ vs. refl)
    (λ numbers value. sum_value numbers value (map {B = ℤ × ℕ} (λ u. (pos 1, u)) ts) ∙ ap (λ os. option_map sum_of (all_defined os)) (ones_same value ts))

-- a quantifier over a domain that is undefined
pub nothing_is : (n : Numbering) (cells : Env) (old new : List GroundNode) (p : Place) (q : Quantifier) (op : QuantOp) (name : Name) (rest : List Name) (t : ℕ) (own : GroundNode) (o : Option ℤ)
    → q.op ≡ op → quantified_value n.mode op None ≡ option_map single o → ((numbers : List ℤ) (value : ℕ → Option ℤ) → node_value numbers value own ≡ o)
    → ((r : Reading n cells) → domain_values n.mode r.values (domain_tree q.domain.now) ≡ None)
    → Puts old new own t → IsTermOf n cells old new (quantified_tree p q (name ∷ rest)) t
nothing_is n cells old new p q op name rest t own o is one other domain put = record {
  grows = put.grows;
  known = put.known;
  value = λ r.
      by_instances n.mode r.values p q name rest None (domain r)
      ∙ ap (λ k. quantified_value n.mode k None) is ∙ one
      ∙ ap (option_map single) (sym (put.value r.numbers ∙ other r.numbers (term_value new r.numbers)));
}

-- and a truth value over one
pub nothing_told : (n : Numbering) (cells : Env) (old new : List GroundNode) (p : Place) (q : Quantifier) (op : QuantOp) (name : Name) (rest : List Name) (mode : Mode) (t : ℕ)
    → q.op ≡ op → n.mode ≡ mode → quantified_value n.mode op None ≡ truth_in n.mode None
    → ((r : Reading n cells) → domain_values n.mode r.values (domain_tree q.domain.now) ≡ None)
    → HasNumber old new (λ numbers. number_in (undefined_truth mode)) t → IsTermOf n cells old new (quantified_tree p q (name ∷ rest)) t
nothing_told n cells old new p q op name rest mode t is same one domain =
    untold_is n cells old old new (quantified_tree p q (name ∷ rest)) mode t same (grows_none old old refl)
    (λ r. by_instances n.mode r.values p q name rest None (domain r)
    ∙ ap (λ k. quantified_value n.mode k None) is ∙ one)
