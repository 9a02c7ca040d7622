-- What stands for a node has its value, and its guard tells whether it has one.
use Rattle.std.proofs.Common.{◌≡◌, ℕ, ℤ, Bool, true, false, ◌&&◌, inl, inr, List, [], ◌∷◌, ◌++◌, Option, Some, None, refl, sym, ap, subst, ◌∙◌, arith}
use Rattle.std.specs.Prelude.{map, option_map, option_and_then, option_to_list}
use Rattle.std.specs.Cmp.{first_so, second_so}
use Rattle.std.specs.List.{AllZip, Contains}
use Rattle.std.proofs.lemmas.Bool.{false≢true}
use Rattle.std.proofs.lemmas.List.Elements.{Contains-append_right}
use Rattle.ep_base.specs.Numbers.{all_one, is_one, of_bool}
use Rattle.ep_base.specs.Reads.{all_there}
use Rattle.ep_defined.specs.Growing.{IsNodeAt}
use Rattle.ep_defined.specs.Images.{IsConjunction, guards_in, image_at, total_at}
use Rattle.ep_defined.specs.Translations.{IsTruth, StandsForTerm, only_if}
use Rattle.ep_defined.specs.declared.images.Image.{Image}
use Rattle.ep_defined.proofs.Parts.{none_there, of_cons}
use Rattle.ep_ground.specs.Nodes.{GroundNode, all_of}
use Rattle.ep_ground.specs.Terms.{node_value, truth, term_values_of}

-- whether all of some are true
abbrev pub all_true : List Bool → Bool
all_true [] = true
all_true (b ∷ bs) = b && all_true bs

pub all_true-push : (bs : List Bool) (b : Bool) → all_true (bs ++ b ∷ []) ≡ (all_true bs && b)
all_true-push [] true = refl
all_true-push [] false = refl
all_true-push (true ∷ bs) b = all_true-push bs b
all_true-push (false ∷ bs) b = refl

-- terms with these truth values
abbrev pub Truths : (ℕ → Option ℤ) → List ℕ → List Bool → Type 0
Truths w gs bs = AllZip (λ g b. w g ≡ Some (of_bool b)) gs bs

pub truths-push : (w : ℕ → Option ℤ) (gs : List ℕ) (bs : List Bool) (g : ℕ) (b : Bool) → Truths w gs bs → w g ≡ Some (of_bool b) → Truths w (gs ++ g ∷ []) (bs ++ b ∷ [])
truths-push w [] [] g b h e = (e, tt)
truths-push w [] (c ∷ bs) g b h e = absurd h
truths-push w (x ∷ gs) [] g b h e = absurd h
truths-push w (x ∷ gs) (c ∷ bs) g b h e = (h.0, truths-push w gs bs g b h.1 e)

truths_values : (w : ℕ → Option ℤ) (gs : List ℕ) (bs : List Bool) → Truths w gs bs → term_values_of w gs ≡ Some (map of_bool bs)
unfolding term_values_of all_there
truths_values w [] [] h = refl
truths_values w [] (c ∷ bs) h = absurd h
truths_values w (x ∷ gs) [] h = absurd h
truths_values w (x ∷ gs) (c ∷ bs) h = λ i. option_and_then (λ n. option_map (λ ns. n ∷ ns) (truths_values w gs bs h.1 i)) (h.0 i)

one_of_bool : (b : Bool) → is_one (of_bool b) ≡ b
unfolding is_one of_bool
one_of_bool true = refl
one_of_bool false = refl

all_one_true : (bs : List Bool) → all_one (map of_bool bs) ≡ all_true bs
unfolding all_one
all_one_true [] = refl
all_one_true (b ∷ bs) = λ i. one_of_bool b i && all_one_true bs i

-- each node's value is that of its term
abbrev pub Follows : List GroundNode → List ℤ → (ℕ → Option ℤ) → Type 0
Follows nodes values w = (t : ℕ) (node : GroundNode) → IsNodeAt nodes t node → w t ≡ node_value values w node

pub conjoined : (nodes : List GroundNode) (values : List ℤ) (w : ℕ → Option ℤ) → Follows nodes values w → (gs : List ℕ) (bs : List Bool) (r : Option ℕ) → Truths w gs bs → IsConjunction nodes gs r → IsTruth w r (all_true bs)
unfolding IsConjunction node_value truth
conjoined nodes values w follows [] [] None h is = refl
conjoined nodes values w follows [] (b ∷ bs) None h is = absurd h
conjoined nodes values w follows [] bs (Some t) h is = absurd is
conjoined nodes values w follows (g ∷ []) [] r h is = absurd h
conjoined nodes values w follows (g ∷ []) (b ∷ []) None h is = absurd is
conjoined nodes values w follows (g ∷ []) (b ∷ []) (Some t) h is = ap w is ∙ h.0 ∙ ap (λ c. Some (of_bool c)) (sym (all_true-push [] b))
conjoined nodes values w follows (g ∷ []) (b ∷ c ∷ bs) r h is = absurd h.1
conjoined nodes values w follows (g ∷ k ∷ gs) bs None h is = absurd is
conjoined nodes values w follows (g ∷ k ∷ gs) bs (Some t) h is =
    follows t (all_of (g ∷ k ∷ gs)) is
    ∙ ap (λ o. truth (option_map all_one o)) (truths_values w (g ∷ k ∷ gs) bs h)
    ∙ ap (λ b. truth (Some b)) (all_one_true bs)

-- what the guards of some terms say together
pub record Gathered (v w : ℕ → Option ℤ) (images : List Image) (ts : List ℕ) : Type 0 where
  pub bs : List Bool
  pub truths : Truths w (guards_in images ts) bs
  pub all : all_true bs ≡ true → (p : ℕ) → Contains ts p → v p ≡ w (total_at images p)
  pub some : all_true bs ≡ false → (p : ℕ) × Contains ts p × (v p ≡ None)

-- one guard more, or none
record Longer (w : ℕ → Option ℤ) (o : Option ℕ) (b : Bool) (gs : List ℕ) (bs : List Bool) : Type 0 where
  cs : List Bool
  truths : Truths w (option_to_list o ++ gs) cs
  is : all_true cs ≡ (b && all_true bs)

longer : (w : ℕ → Option ℤ) (o : Option ℕ) (b : Bool) (gs : List ℕ) (bs : List Bool) → IsTruth w o b → Truths w gs bs → Longer w o b gs bs
longer w None b gs bs e h = record { cs = bs; truths = h; is = ap (λ c. c && all_true bs) (sym e) }
longer w (Some g) b gs bs e h = record { cs = b ∷ bs; truths = (e, h); is = refl }

there_is : (old : Option ℤ) (w : ℕ → Option ℤ) (image : Image) (h : StandsForTerm w old image) → h.has ≡ true → old ≡ w image.total
there_is old w image h e = h.is ∙ ap (λ b. only_if b h.number) e ∙ sym h.total

pub gathered : (v w : ℕ → Option ℤ) (images : List Image) (ts : List ℕ) → ((p : ℕ) → Contains ts p → StandsForTerm w (v p) (image_at images p)) → Gathered v w images ts
gathered v w images [] each = record { bs = []; truths = tt; all = λ _ p found. none_there p found; some = λ e. absurd (false≢true (sym e)) }
gathered v w images (t ∷ ts) each =
    let h = each t (0, omega arith, refl) in
    let rest = gathered v w images ts (λ p found. each p (Contains-append_right (t ∷ []) ts p found)) in
    let more = longer w (image_at images t).guard h.has (guards_in images ts) rest.bs h.guard rest.truths in
    record {
      bs = more.cs;
      truths = more.truths;
      all = λ e p found. elim (of_cons t ts p found) as (λ _. v p ≡ w (total_at images p)) [
        | inl s ↦ subst (λ q. v q ≡ w (total_at images q)) s (there_is (v t) w (image_at images t) h (first_so h.has (all_true rest.bs) (sym more.is ∙ e)))
        | inr s ↦ rest.all (second_so h.has (all_true rest.bs) (sym more.is ∙ e)) p s
      ];
      some = λ e. by h.has refl rest (sym more.is ∙ e);
    }
  where
    by : (b : Bool) → (each t (0, omega arith, refl)).has ≡ b → (rest : Gathered v w images ts) → (b && all_true rest.bs) ≡ false → (p : ℕ) × Contains (t ∷ ts) p × (v p ≡ None)
    by true s rest e = let found = rest.some e in (found.0, Contains-append_right (t ∷ []) ts found.0 found.1, found.2)
    by false s rest e =
        let h = each t (0, omega arith, refl) in
        (t, (0, omega arith, refl), h.is ∙ ap (λ b. only_if b h.number) s)
