-- Index domains, read one by one.
use Rattle.std.proofs.Common.{◌≡◌, ◌∙◌, ◌≤◌, ℕ, ℤ, List, [], ◌∷◌, ◌++◌, Option, Some, None, refl, sym, ap, append_assoc}
use Rattle.std.proofs.lemmas.List.{append-nil}
use Rattle.ep_base.specs.Options.{map_both, on_both}
use Rattle.ep_eval.specs.Outcomes.{IsCause}
use Rattle.ep_eval.specs.declared.errors.EvalError.{EvalError}
use Rattle.ep_tree.specs.Binding.{listed_domains}
use Rattle.ep_tree.specs.Environments.{Env}
use Rattle.ep_tree.specs.Evaluation.{domain_values}
use Rattle.ep_tree.specs.Limits.{limits_of_values}
use Rattle.ep_tree.specs.Measures.{Met, met, met_domain, met_domains}
use Rattle.ep_tree.specs.Views.{domain_tree, domains_of}
use Rattle.ep_tree.specs.declared.syntax.Domain.{Domain}
use Rattle.ep_tree.specs.declared.values.Mode.{Mode}
use Rattle.ep_instance_parts.specs.Counted.{IsCounted}
use Rattle.ep_instance_parts.proofs.LimitSteps.{cause_along, cause_first, cause_next, counted_along, counted_none, counted_on}

-- The nodes that are counted so far, and what the sets so far and the domains that are left give together.
pub record IndicesSoFar (mode : Mode) (env : Env) (before : ℕ) (all left : List Domain) (sets : Option (List (List ℤ))) (count : ℕ) : Type 0 where
  pub done : List Met
  pub cut : met_domains mode env (domains_of all) ≡ done ++ met_domains mode env (domains_of left)
  pub counted : IsCounted mode before done count
  pub same : listed_domains mode env (domains_of all) ≡ map_both (λ xs ys. xs ++ ys) sets (listed_domains mode env (domains_of left))

append_none : (o : Option (List (List ℤ))) → o ≡ map_both (λ xs ys. xs ++ ys) (Some []) o
unfolding map_both
append_none None = refl
append_none (Some xs) = refl

pub indices_begin : (mode : Mode) (env : Env) (before : ℕ) (all : List Domain) → before ≤ 5000000 → IndicesSoFar mode env before all all (Some []) before
indices_begin mode env before all small = record {
  done = [];
  cut = refl;
  counted = counted_none mode before small;
  same = append_none (listed_domains mode env (domains_of all));
}

met_domains-cons : (mode : Mode) (env : Env) (d : Domain) (left : List Domain)
    → met_domains mode env (domains_of (d ∷ left)) ≡ met_domain mode env (domain_tree d) ++ met_domains mode env (domains_of left)
unfolding met domains_of
met_domains-cons mode env d left = refl

first_of_both : (v : Option (List ℤ)) (o : Option (List (List ℤ))) → on_both v o (λ xs rest. Some (xs ∷ rest)) ≡ map_both (λ xs rest. xs ∷ rest) v o
unfolding on_both map_both
first_of_both None o = refl
first_of_both (Some xs) None = refl
first_of_both (Some xs) (Some rest) = refl

listed_domains-cons : (mode : Mode) (env : Env) (d : Domain) (left : List Domain)
    → listed_domains mode env (domains_of (d ∷ left))
    ≡ map_both (λ xs rest. xs ∷ rest) (domain_values mode env (domain_tree d)) (listed_domains mode env (domains_of left))
unfolding listed_domains domains_of
listed_domains-cons mode env d left = first_of_both (domain_values mode env (domain_tree d)) (listed_domains mode env (domains_of left))

sets_regroup : (s : Option (List (List ℤ))) (v : Option (List ℤ)) (o : Option (List (List ℤ)))
    → map_both (λ xs ys. xs ++ ys) s (map_both (λ xs rest. xs ∷ rest) v o)
    ≡ map_both (λ xs ys. xs ++ ys) (map_both (λ all one. all ++ one ∷ []) s v) o
unfolding map_both
sets_regroup None v o = refl
sets_regroup (Some xs) None o = refl
sets_regroup (Some xs) (Some v) None = refl
sets_regroup (Some xs) (Some v) (Some rest) = ap Some (sym (append_assoc xs (v ∷ []) rest))

-- one domain more
pub indices_more : (mode : Mode) (env : Env) (before count after : ℕ) (all : List Domain) (d : Domain) (left : List Domain)
    → (sets more : Option (List (List ℤ))) (set : Option (List ℤ))
    → IndicesSoFar mode env before all (d ∷ left) sets count
    → IsCounted mode count (met_domain mode env (domain_tree d)) after → set ≡ domain_values mode env (domain_tree d)
    → more ≡ map_both (λ xs one. xs ++ one ∷ []) sets set
    → IndicesSoFar mode env before all left more after
indices_more mode env before count after all d left sets more set h counted here is = record {
  done = h.done ++ met_domain mode env (domain_tree d);
  cut = h.cut ∙ ap (λ ms. h.done ++ ms) (met_domains-cons mode env d left)
      ∙ sym (append_assoc h.done (met_domain mode env (domain_tree d)) (met_domains mode env (domains_of left)));
  counted = counted_on mode before count after h.done (met_domain mode env (domain_tree d)) h.counted counted;
  same =
      h.same
      ∙ ap (map_both (λ xs ys. xs ++ ys) sets) (listed_domains-cons mode env d left)
      ∙ sets_regroup sets (domain_values mode env (domain_tree d)) (listed_domains mode env (domains_of left))
      ∙ ap (λ o. map_both (λ xs ys. xs ++ ys) (map_both (λ xs one. xs ++ one ∷ []) sets o) (listed_domains mode env (domains_of left))) (sym here)
      ∙ ap (λ o. map_both (λ xs ys. xs ++ ys) o (listed_domains mode env (domains_of left))) (sym is);
}

-- a domain that passes a limit
pub indices_cause : (mode : Mode) (env : Env) (before count : ℕ) (all : List Domain) (d : Domain) (left : List Domain)
    → (sets : Option (List (List ℤ))) (e : EvalError)
    → IndicesSoFar mode env before all (d ∷ left) sets count → IsCause (limits_of_values mode count (met_domain mode env (domain_tree d))) e
    → IsCause (limits_of_values mode before (met_domains mode env (domains_of all))) e
indices_cause mode env before count all d left sets e h cause =
    cause_along mode before (h.done ++ (met_domain mode env (domain_tree d) ++ met_domains mode env (domains_of left))) (met_domains mode env (domains_of all)) e
    (sym (h.cut ∙ ap (λ ms. h.done ++ ms) (met_domains-cons mode env d left)))
    (cause_next mode before count h.done (met_domain mode env (domain_tree d) ++ met_domains mode env (domains_of left)) e h.counted
    (cause_first mode count (met_domain mode env (domain_tree d)) (met_domains mode env (domains_of left)) e cause))

append_last : (o : Option (List (List ℤ))) → map_both (λ xs ys. xs ++ ys) o (Some []) ≡ o
unfolding map_both
append_last None = refl
append_last (Some xs) = ap Some (append-nil xs)

-- all domains
pub indices_counted : (mode : Mode) (env : Env) (before count : ℕ) (all : List Domain) (sets : Option (List (List ℤ)))
    → IndicesSoFar mode env before all [] sets count → IsCounted mode before (met_domains mode env (domains_of all)) count
unfolding met domains_of
indices_counted mode env before count all sets h =
    counted_along mode before count h.done (met_domains mode env (domains_of all)) (sym (h.cut ∙ append-nil h.done)) h.counted

pub indices_listed : (mode : Mode) (env : Env) (before count : ℕ) (all : List Domain) (sets : Option (List (List ℤ)))
    → IndicesSoFar mode env before all [] sets count → sets ≡ listed_domains mode env (domains_of all)
unfolding listed_domains domains_of
indices_listed mode env before count all sets h = sym (h.same ∙ append_last sets)
