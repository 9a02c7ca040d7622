-- What stands for a node of each kind.
use Rattle.std.proofs.Common.{◌≡◌, ℕ, suc, ℤ, pos, Bool, true, false, not, ◌&&◌, List, [], ◌∷◌, ◌++◌, length, Option, Some, None, refl, sym, ap, subst, ◌∙◌, arith}
use Rattle.std.specs.Prelude.{map, option_and_then, unwrap_or}
use Rattle.std.specs.List.{Contains}
use Rattle.std.proofs.lemmas.List.Elements.{Contains-append_right}
use Rattle.ep_base.specs.Numbers.{all_one, is_one, of_bool}
use Rattle.ep_base.specs.Reads.{all_there}
use Rattle.ep_defined.specs.Growing.{IsNodeAt}
use Rattle.ep_defined.specs.Images.{IsNumberImage, IsTruthImage, IsTestedImage, guards_in, image_at, image_kind, made_safe, over_totals, total_at}
use Rattle.ep_defined.specs.Translations.{IsTruth, StandsForTerm, only_if}
use Rattle.ep_defined.specs.declared.images.Image.{Image}
use Rattle.ep_defined.specs.declared.kinds.Kind.{Kind}
use Rattle.ep_defined.proofs.Parts.{absent, has_value, lacking, there, truth_value}
use Rattle.ep_ground.proofs.SameParts.{node_as, node_same}
use Rattle.ep_ground.specs.Grounds.{StandsOver}
use Rattle.ep_ground.specs.Nodes.{GroundNode, constant, undefined, cell, sum, product, quotient, remainder, power, absolute, least, greatest, pick, whole, safe_quotient, safe_remainder, safe_pick, compare, lex, member, negation, all_of, any_of, same_truth, all_different, counts, at_least, at_most, table, parts_of, is_partial}
use Rattle.ep_ground.specs.Terms.{node_value, truth}
use Rattle.std.specs.Ordering.{int_eq}
use Rattle.std.proofs.lemmas.Bool.Decides.{Decides-int_eq}
use Rattle.ep_base.specs.Numbers as numbers
use Rattle.ep_base.specs.Numbers.{compare_holds, same_numbers, is_row_of}
use Rattle.ep_base.specs.Reads as reads
use Rattle.ep_base.specs.Reads.{picked, safe_picked}
use Rattle.ep_base.specs.declared.operators.CompareOp.{CompareOp}
use Rattle.ep_defined.specs.Images.{IsDivisorTest, IsKeyTest, IsNothingImage, IsWholeImage, IsImageBy}
use Rattle.ep_defined.proofs.Parts.{values_there}
use Rattle.ep_defined.proofs.KeyTests.{key_there, keys_tested, picked_if}
use Rattle.std.proofs.lemmas.List.{length-map}
use Rattle.ep_base.specs.Options.{on_both}
use Rattle.ep_defined.proofs.Standing.{Follows, Gathered, all_true, all_true-push, conjoined, gathered, truths-push}

-- a node that isn't partial is its own safe form
own_safe : (node : GroundNode) → is_partial node ≡ false → made_safe node ≡ node
unfolding made_safe is_partial
own_safe (constant n) e = refl
own_safe undefined e = refl
own_safe (cell k) e = refl
own_safe (sum c parts) e = refl
own_safe (product a b) e = refl
own_safe (quotient a b) e = absurd (cc)
own_safe (remainder a b) e = absurd (cc)
own_safe (power a n) e = refl
own_safe (absolute a) e = refl
own_safe (least ts) e = refl
own_safe (greatest ts) e = refl
own_safe (pick ts keys indices) e = absurd (cc)
own_safe (whole a ts) e = absurd (cc)
own_safe (safe_quotient a b) e = refl
own_safe (safe_remainder a b) e = refl
own_safe (safe_pick ts keys indices) e = refl
own_safe (compare op a b) e = refl
own_safe (lex op ts us) e = refl
own_safe (member a ns) e = refl
own_safe (negation a) e = refl
own_safe (all_of ts) e = refl
own_safe (any_of ts) e = refl
own_safe (same_truth a b) e = refl
own_safe (all_different ts) e = refl
own_safe (counts ts ns us) e = refl
own_safe (at_least ts cs ns) e = refl
own_safe (at_most ts cs ns) e = refl
own_safe (table ts rows) e = refl

pub number_whole : (node : GroundNode) → image_kind node ≡ Kind.Number → is_partial node ≡ false
unfolding image_kind is_partial
number_whole (constant n) e = refl
number_whole undefined e = absurd (cc)
number_whole (cell k) e = refl
number_whole (sum c parts) e = refl
number_whole (product a b) e = refl
number_whole (quotient a b) e = absurd (cc)
number_whole (remainder a b) e = absurd (cc)
number_whole (power a n) e = refl
number_whole (absolute a) e = refl
number_whole (least ts) e = refl
number_whole (greatest ts) e = refl
number_whole (pick ts keys indices) e = absurd (cc)
number_whole (whole a ts) e = absurd (cc)
number_whole (safe_quotient a b) e = refl
number_whole (safe_remainder a b) e = refl
number_whole (safe_pick ts keys indices) e = refl
number_whole (compare op a b) e = absurd (cc)
number_whole (lex op ts us) e = absurd (cc)
number_whole (member a ns) e = absurd (cc)
number_whole (negation a) e = absurd (cc)
number_whole (all_of ts) e = absurd (cc)
number_whole (any_of ts) e = absurd (cc)
number_whole (same_truth a b) e = absurd (cc)
number_whole (all_different ts) e = absurd (cc)
number_whole (counts ts ns us) e = absurd (cc)
number_whole (at_least ts cs ns) e = absurd (cc)
number_whole (at_most ts cs ns) e = absurd (cc)
number_whole (table ts rows) e = absurd (cc)

pub truth_whole : (node : GroundNode) → image_kind node ≡ Kind.Truth → is_partial node ≡ false
unfolding image_kind is_partial
truth_whole (constant n) e = absurd (cc)
truth_whole undefined e = absurd (cc)
truth_whole (cell k) e = absurd (cc)
truth_whole (sum c parts) e = absurd (cc)
truth_whole (product a b) e = absurd (cc)
truth_whole (quotient a b) e = absurd (cc)
truth_whole (remainder a b) e = absurd (cc)
truth_whole (power a n) e = absurd (cc)
truth_whole (absolute a) e = absurd (cc)
truth_whole (least ts) e = absurd (cc)
truth_whole (greatest ts) e = absurd (cc)
truth_whole (pick ts keys indices) e = absurd (cc)
truth_whole (whole a ts) e = absurd (cc)
truth_whole (safe_quotient a b) e = absurd (cc)
truth_whole (safe_remainder a b) e = absurd (cc)
truth_whole (safe_pick ts keys indices) e = absurd (cc)
truth_whole (compare op a b) e = refl
truth_whole (lex op ts us) e = refl
truth_whole (member a ns) e = refl
truth_whole (negation a) e = refl
truth_whole (all_of ts) e = refl
truth_whole (any_of ts) e = refl
truth_whole (same_truth a b) e = refl
truth_whole (all_different ts) e = refl
truth_whole (counts ts ns us) e = refl
truth_whole (at_least ts cs ns) e = refl
truth_whole (at_most ts cs ns) e = refl
truth_whole (table ts rows) e = refl

-- the safe form is never partial, but for what has no value at all
pub safe_whole : (node : GroundNode) → (node ≡ undefined → ⊥) → (image_kind node ≡ Kind.Whole → ⊥) → is_partial (made_safe node) ≡ false
unfolding image_kind is_partial made_safe
safe_whole (constant n) e f = refl
safe_whole undefined e f = absurd (e refl)
safe_whole (cell k) e f = refl
safe_whole (sum c parts) e f = refl
safe_whole (product a b) e f = refl
safe_whole (quotient a b) e f = refl
safe_whole (remainder a b) e f = refl
safe_whole (power a n) e f = refl
safe_whole (absolute a) e f = refl
safe_whole (least ts) e f = refl
safe_whole (greatest ts) e f = refl
safe_whole (pick ts keys indices) e f = refl
safe_whole (whole a ts) e f = absurd (f refl)
safe_whole (safe_quotient a b) e f = refl
safe_whole (safe_remainder a b) e f = refl
safe_whole (safe_pick ts keys indices) e f = refl
safe_whole (compare op a b) e f = refl
safe_whole (lex op ts us) e f = refl
safe_whole (member a ns) e f = refl
safe_whole (negation a) e f = refl
safe_whole (all_of ts) e f = refl
safe_whole (any_of ts) e f = refl
safe_whole (same_truth a b) e f = refl
safe_whole (all_different ts) e f = refl
safe_whole (counts ts ns us) e f = refl
safe_whole (at_least ts cs ns) e f = refl
safe_whole (at_most ts cs ns) e f = refl
safe_whole (table ts rows) e f = refl

pub safe_stands : (cells : ℕ) (node : GroundNode) → StandsOver cells node → StandsOver cells (made_safe node)
unfolding made_safe StandsOver
safe_stands cells (constant n) h = h
safe_stands cells undefined h = h
safe_stands cells (cell k) h = h
safe_stands cells (sum c parts) h = h
safe_stands cells (product a b) h = h
safe_stands cells (quotient a b) h = tt
safe_stands cells (remainder a b) h = tt
safe_stands cells (power a n) h = h
safe_stands cells (absolute a) h = h
safe_stands cells (least ts) h = h
safe_stands cells (greatest ts) h = h
safe_stands cells (pick ts keys indices) h = tt
safe_stands cells (whole a ts) h = h
safe_stands cells (safe_quotient a b) h = h
safe_stands cells (safe_remainder a b) h = h
safe_stands cells (safe_pick ts keys indices) h = h
safe_stands cells (compare op a b) h = h
safe_stands cells (lex op ts us) h = h
safe_stands cells (member a ns) h = h
safe_stands cells (negation a) h = h
safe_stands cells (all_of ts) h = h
safe_stands cells (any_of ts) h = h
safe_stands cells (same_truth a b) h = h
safe_stands cells (all_different ts) h = h
safe_stands cells (counts ts ns us) h = h
safe_stands cells (at_least ts cs ns) h = h
safe_stands cells (at_most ts cs ns) h = h
safe_stands cells (table ts rows) h = h

pub safe_parts : (node : GroundNode) → parts_of (made_safe node) ≡ parts_of node
unfolding made_safe parts_of
safe_parts (constant n) = refl
safe_parts undefined = refl
safe_parts (cell k) = refl
safe_parts (sum c parts) = refl
safe_parts (product a b) = refl
safe_parts (quotient a b) = refl
safe_parts (remainder a b) = refl
safe_parts (power a n) = refl
safe_parts (absolute a) = refl
safe_parts (least ts) = refl
safe_parts (greatest ts) = refl
safe_parts (pick ts keys indices) = refl
safe_parts (whole a ts) = refl
safe_parts (safe_quotient a b) = refl
safe_parts (safe_remainder a b) = refl
safe_parts (safe_pick ts keys indices) = refl
safe_parts (compare op a b) = refl
safe_parts (lex op ts us) = refl
safe_parts (member a ns) = refl
safe_parts (negation a) = refl
safe_parts (all_of ts) = refl
safe_parts (any_of ts) = refl
safe_parts (same_truth a b) = refl
safe_parts (all_different ts) = refl
safe_parts (counts ts ns us) = refl
safe_parts (at_least ts cs ns) = refl
safe_parts (at_most ts cs ns) = refl
safe_parts (table ts rows) = refl

-- a node over the terms of images, of which each stands for a part
pub record Over (nodes : List GroundNode) (values : List ℤ) (v w : ℕ → Option ℤ) (images : List Image) (node : GroundNode) : Type 0 where
  pub follows : Follows nodes values w
  pub each : (p : ℕ) → Contains (parts_of node) p → StandsForTerm w (v p) (image_at images p)
  pub stands : StandsOver (length values) node

-- the number of a part
abbrev pub number_at : (ℕ → Option ℤ) → List Image → ℕ → ℤ
number_at w images t = unwrap_or (w (total_at images t)) (pos 0)

part_there : (w : ℕ → Option ℤ) (old : Option ℤ) (image : Image) → StandsForTerm w old image → w image.total ≡ Some (unwrap_or (w image.total) (pos 0))
part_there w old image h = h.total ∙ sym (ap (λ o. Some (unwrap_or o (pos 0))) h.total)

pub total_is : (nodes : List GroundNode) (values : List ℤ) (v w : ℕ → Option ℤ) (images : List Image) (node : GroundNode) → Over nodes values v w images node → (k : ℕ) → IsNodeAt nodes k (over_totals images node) → w k ≡ node_value values (there (number_at w images)) (made_safe node)
total_is nodes values v w images node h k is =
    h.follows k (over_totals images node) is
    ∙ sym (node_as values (there (number_at w images)) w (total_at images) (made_safe node)
    (λ p found. sym (part_there w (v p) (image_at images p) (h.each p (subst (λ ts. Contains ts p) (safe_parts node) found)))))

all_is : (nodes : List GroundNode) (values : List ℤ) (v w : ℕ → Option ℤ) (images : List Image) (node : GroundNode) → (h : Over nodes values v w images node) → (g : Gathered v w images (parts_of node)) → all_true g.bs ≡ true → node_value values v node ≡ node_value values (there (number_at w images)) node
all_is nodes values v w images node h g e =
    node_same values v (there (number_at w images)) node (λ p found. g.all e p found ∙ part_there w (v p) (image_at images p) (h.each p found))

some_is : (nodes : List GroundNode) (values : List ℤ) (v w : ℕ → Option ℤ) (images : List Image) (node : GroundNode) → (g : Gathered v w images (parts_of node)) → all_true g.bs ≡ false → node_value values v node ≡ absent (image_kind node)
some_is nodes values v w images node g e = let found = g.some e in lacking values v node found.0 found.1 found.2

pub number_stands : (nodes : List GroundNode) (values : List ℤ) (v w : ℕ → Option ℤ) (images : List Image) (node : GroundNode) (image : Image) → image_kind node ≡ Kind.Number → Over nodes values v w images node → IsNumberImage nodes images node image → StandsForTerm w (node_value values v node) image
number_stands nodes values v w images node image kind h is =
    let g = gathered v w images (parts_of node) h.each in
    let whole = number_whole node kind in
    let y = has_value values (number_at w images) node whole h.stands in
    record {
      number = y.0;
      has = all_true g.bs;
      total = total_is nodes values v w images node h image.total is.total ∙ ap (node_value values (there (number_at w images))) (own_safe node whole) ∙ y.1;
      guard = conjoined nodes values w h.follows (guards_in images (parts_of node)) g.bs image.guard g.truths is.guard;
      is = by y.0 y.1 g (all_true g.bs) refl;
    }
  where
    by : (y : ℤ) → node_value values (there (number_at w images)) node ≡ Some y → (g : Gathered v w images (parts_of node)) (b : Bool) → all_true g.bs ≡ b → node_value values v node ≡ only_if b y
    by y e g true s = all_is nodes values v w images node h g s ∙ e
    by y e g false s = some_is nodes values v w images node g s ∙ ap absent kind

pub truth_stands : (nodes : List GroundNode) (values : List ℤ) (v w : ℕ → Option ℤ) (images : List Image) (node : GroundNode) (image : Image) → image_kind node ≡ Kind.Truth → Over nodes values v w images node → IsTruthImage nodes images node image → StandsForTerm w (node_value values v node) image
unfolding of_bool
truth_stands nodes values v w images node image kind h is =
    let g = gathered v w images (parts_of node) h.each in
    let y = truth_value values (there (number_at w images)) node kind in
    let plain = total_is nodes values v w images node h is.plain is.is ∙ ap (node_value values (there (number_at w images))) (own_safe node (truth_whole node kind)) ∙ y.1 in
    record {
      number = of_bool (all_true (g.bs ++ y.0 ∷ []));
      has = true;
      total = conjoined nodes values w h.follows (guards_in images (parts_of node) ++ is.plain ∷ []) (g.bs ++ y.0 ∷ []) (Some image.total) (truths-push w (guards_in images (parts_of node)) g.bs is.plain y.0 g.truths plain) is.total;
      guard = subst (λ o. IsTruth w o true) (sym is.guard) refl;
      is = by y.0 y.1 g (all_true g.bs) refl ∙ ap (λ b. Some (of_bool b)) (sym (all_true-push g.bs y.0));
    }
  where
    by : (y : Bool) → node_value values (there (number_at w images)) node ≡ Some (of_bool y) → (g : Gathered v w images (parts_of node)) (b : Bool) → all_true g.bs ≡ b → node_value values v node ≡ Some (of_bool (all_true g.bs && y))
    by y e g true s = all_is nodes values v w images node h g s ∙ e ∙ ap (λ b. Some (of_bool (b && y))) (sym s)
    by y e g false s = some_is nodes values v w images node g s ∙ ap absent kind ∙ ap (λ b. Some (of_bool (b && y))) (sym s)

-- a node that is there where its parts are and a test of its own is 1
pub tested_stands : (nodes : List GroundNode) (values : List ℤ) (v w : ℕ → Option ℤ) (images : List Image) (node : GroundNode) (Test : ℕ → Type 0) (image : Image) → absent (image_kind node) ≡ None → Over nodes values v w images node
    → (y : ℤ) → node_value values (there (number_at w images)) (made_safe node) ≡ Some y → (b : Bool) → ((own : ℕ) → Test own → w own ≡ Some (of_bool b)) → node_value values (there (number_at w images)) node ≡ only_if b y
    → IsTestedImage nodes images node Test image → StandsForTerm w (node_value values v node) image
tested_stands nodes values v w images node Test image kind h y safe b test plain is =
    let g = gathered v w images (parts_of node) h.each in
    record {
      number = y;
      has = b && all_true g.bs;
      total = total_is nodes values v w images node h image.total is.total ∙ safe;
      guard = conjoined nodes values w h.follows (is.own ∷ guards_in images (parts_of node)) (b ∷ g.bs) image.guard (test is.own is.test, g.truths) is.guard;
      is = by g (all_true g.bs) refl b plain;
    }
  where
    by : (g : Gathered v w images (parts_of node)) (c : Bool) → all_true g.bs ≡ c → (a : Bool) → node_value values (there (number_at w images)) node ≡ only_if a y → node_value values v node ≡ only_if (a && all_true g.bs) y
    by g true s true e = all_is nodes values v w images node h g s ∙ e ∙ ap (λ c. only_if c y) (sym s)
    by g true s false e = all_is nodes values v w images node h g s ∙ e
    by g false s true e = some_is nodes values v w images node g s ∙ kind ∙ ap (λ c. only_if c y) (sym s)
    by g false s false e = some_is nodes values v w images node g s ∙ kind

not_nought : ℤ → Bool
not_nought y = not (int_eq y (pos 0))

not_same : (x y : ℤ) → (x ≡ y → ⊥) → int_eq x y ≡ false
not_same x y other = by (int_eq x y) refl
  where
    by : (b : Bool) → int_eq x y ≡ b → int_eq x y ≡ false
    by true s = absurd (other ((Decides-int_eq x y).0 s))
    by false s = s

quotient_if : (x y : ℤ) → numbers.quotient x y ≡ only_if (not_nought y) (reads.safe_quotient x y)
unfolding numbers.quotient reads.safe_quotient not_nought
quotient_if x (ℤ.pos ℕ.zero) = refl
quotient_if x (ℤ.pos (ℕ.suc y)) = sym (ap (λ b. only_if (not b) (reads.safe_quotient x (pos (suc y)))) (not_same (pos (suc y)) (pos 0) (λ e. cc)))
quotient_if x (ℤ.negsuc y) = refl

remainder_if : (x y : ℤ) → numbers.remainder x y ≡ only_if (not_nought y) (reads.safe_remainder x y)
unfolding numbers.quotient numbers.remainder reads.safe_remainder not_nought
remainder_if x (ℤ.pos ℕ.zero) = refl
remainder_if x (ℤ.pos (ℕ.suc y)) = sym (ap (λ b. only_if (not b) (reads.safe_remainder x (pos (suc y)))) (not_same (pos (suc y)) (pos 0) (λ e. cc)))
remainder_if x (ℤ.negsuc y) = refl

divisor_tested : (nodes : List GroundNode) (values : List ℤ) (w : ℕ → Option ℤ) → Follows nodes values w → (nought b : ℕ) (y : ℤ) → w nought ≡ Some (pos 0) → w b ≡ Some y → (own : ℕ) → IsNodeAt nodes own (compare CompareOp.NotEqual b nought) → w own ≡ Some (of_bool (not_nought y))
unfolding node_value truth on_both compare_holds not_nought
divisor_tested nodes values w follows nought b y nil_is there_is own is =
    follows own (compare CompareOp.NotEqual b nought) is
    ∙ (λ i. truth (on_both (there_is i) (nil_is i) (λ x z. Some (compare_holds CompareOp.NotEqual x z))))

pub division_stands : (nodes : List GroundNode) (values : List ℤ) (v w : ℕ → Option ℤ) (images : List Image) (nought : ℕ) (node : GroundNode) (image : Image) → image_kind node ≡ Kind.Division → w nought ≡ Some (pos 0) → Over nodes values v w images node → IsTestedImage nodes images node (IsDivisorTest nodes nought images node) image → StandsForTerm w (node_value values v node) image
unfolding image_kind node_value parts_of made_safe IsDivisorTest on_both
division_stands nodes values v w images nought (constant n) image kind nil_is h is = absurd (cc)
division_stands nodes values v w images nought undefined image kind nil_is h is = absurd (cc)
division_stands nodes values v w images nought (cell k) image kind nil_is h is = absurd (cc)
division_stands nodes values v w images nought (sum c parts) image kind nil_is h is = absurd (cc)
division_stands nodes values v w images nought (product a b) image kind nil_is h is = absurd (cc)
division_stands nodes values v w images nought (quotient a b) image kind nil_is h is =
    let x = number_at w images a in
    let y = number_at w images b in
    let divisor = part_there w (v b) (image_at images b) (h.each b (1, omega arith, refl)) in
    tested_stands nodes values v w images (quotient a b) (IsDivisorTest nodes nought images (quotient a b)) image refl h (reads.safe_quotient x y) refl (not_nought y)
    (divisor_tested nodes values w h.follows nought (total_at images b) y nil_is divisor) (quotient_if x y) is
division_stands nodes values v w images nought (remainder a b) image kind nil_is h is =
    let x = number_at w images a in
    let y = number_at w images b in
    let divisor = part_there w (v b) (image_at images b) (h.each b (1, omega arith, refl)) in
    tested_stands nodes values v w images (remainder a b) (IsDivisorTest nodes nought images (remainder a b)) image refl h (reads.safe_remainder x y) refl (not_nought y)
    (divisor_tested nodes values w h.follows nought (total_at images b) y nil_is divisor) (remainder_if x y) is
division_stands nodes values v w images nought (power a n) image kind nil_is h is = absurd (cc)
division_stands nodes values v w images nought (absolute a) image kind nil_is h is = absurd (cc)
division_stands nodes values v w images nought (least ts) image kind nil_is h is = absurd (cc)
division_stands nodes values v w images nought (greatest ts) image kind nil_is h is = absurd (cc)
division_stands nodes values v w images nought (pick ts keys indices) image kind nil_is h is = absurd (cc)
division_stands nodes values v w images nought (whole a ts) image kind nil_is h is = absurd (cc)
division_stands nodes values v w images nought (safe_quotient a b) image kind nil_is h is = absurd (cc)
division_stands nodes values v w images nought (safe_remainder a b) image kind nil_is h is = absurd (cc)
division_stands nodes values v w images nought (safe_pick ts keys indices) image kind nil_is h is = absurd (cc)
division_stands nodes values v w images nought (compare op a b) image kind nil_is h is = absurd (cc)
division_stands nodes values v w images nought (lex op ts us) image kind nil_is h is = absurd (cc)
division_stands nodes values v w images nought (member a ns) image kind nil_is h is = absurd (cc)
division_stands nodes values v w images nought (negation a) image kind nil_is h is = absurd (cc)
division_stands nodes values v w images nought (all_of ts) image kind nil_is h is = absurd (cc)
division_stands nodes values v w images nought (any_of ts) image kind nil_is h is = absurd (cc)
division_stands nodes values v w images nought (same_truth a b) image kind nil_is h is = absurd (cc)
division_stands nodes values v w images nought (all_different ts) image kind nil_is h is = absurd (cc)
division_stands nodes values v w images nought (counts ts ns us) image kind nil_is h is = absurd (cc)
division_stands nodes values v w images nought (at_least ts cs ns) image kind nil_is h is = absurd (cc)
division_stands nodes values v w images nought (at_most ts cs ns) image kind nil_is h is = absurd (cc)
division_stands nodes values v w images nought (table ts rows) image kind nil_is h is = absurd (cc)

pub pick_stands : (nodes : List GroundNode) (values : List ℤ) (v w : ℕ → Option ℤ) (images : List Image) (node : GroundNode) (image : Image) → image_kind node ≡ Kind.Pick → Over nodes values v w images node → IsTestedImage nodes images node (IsKeyTest nodes images node) image → StandsForTerm w (node_value values v node) image
unfolding image_kind node_value parts_of made_safe IsKeyTest on_both
pick_stands nodes values v w images (constant n) image kind h is = absurd (cc)
pick_stands nodes values v w images undefined image kind h is = absurd (cc)
pick_stands nodes values v w images (cell k) image kind h is = absurd (cc)
pick_stands nodes values v w images (sum c parts) image kind h is = absurd (cc)
pick_stands nodes values v w images (product a b) image kind h is = absurd (cc)
pick_stands nodes values v w images (quotient a b) image kind h is = absurd (cc)
pick_stands nodes values v w images (remainder a b) image kind h is = absurd (cc)
pick_stands nodes values v w images (power a n) image kind h is = absurd (cc)
pick_stands nodes values v w images (absolute a) image kind h is = absurd (cc)
pick_stands nodes values v w images (least ts) image kind h is = absurd (cc)
pick_stands nodes values v w images (greatest ts) image kind h is = absurd (cc)
pick_stands nodes values v w images (pick ts keys indices) image kind h is =
    let n = number_at w images in
    let xs = map n ts in
    let is_at = map n indices in
    let agrees = λ (p : ℕ) (found : Contains indices p). part_there w (v p) (image_at images p) (h.each p (Contains-append_right ts indices p found)) in
    tested_stands nodes values v w images (pick ts keys indices) (IsKeyTest nodes images (pick ts keys indices)) image refl h (safe_picked xs keys is_at)
    (λ i. option_and_then (λ ys. option_and_then (λ zs. Some (safe_picked ys keys zs)) (values_there n indices i)) (values_there n ts i))
    (key_there (length ts) keys is_at)
    (λ own test. keys_tested nodes values w h.follows n (total_at images) (length ts) keys indices (λ p found. sym (agrees p found)) own test)
    ((λ i. option_and_then (λ ys. option_and_then (picked ys keys) (values_there n indices i)) (values_there n ts i)) ∙ picked_if xs keys is_at ∙ ap (λ m. only_if (key_there m keys is_at) (safe_picked xs keys is_at)) (length-map ts n)) is
pick_stands nodes values v w images (whole a ts) image kind h is = absurd (cc)
pick_stands nodes values v w images (safe_quotient a b) image kind h is = absurd (cc)
pick_stands nodes values v w images (safe_remainder a b) image kind h is = absurd (cc)
pick_stands nodes values v w images (safe_pick ts keys indices) image kind h is = absurd (cc)
pick_stands nodes values v w images (compare op a b) image kind h is = absurd (cc)
pick_stands nodes values v w images (lex op ts us) image kind h is = absurd (cc)
pick_stands nodes values v w images (member a ns) image kind h is = absurd (cc)
pick_stands nodes values v w images (negation a) image kind h is = absurd (cc)
pick_stands nodes values v w images (all_of ts) image kind h is = absurd (cc)
pick_stands nodes values v w images (any_of ts) image kind h is = absurd (cc)
pick_stands nodes values v w images (same_truth a b) image kind h is = absurd (cc)
pick_stands nodes values v w images (all_different ts) image kind h is = absurd (cc)
pick_stands nodes values v w images (counts ts ns us) image kind h is = absurd (cc)
pick_stands nodes values v w images (at_least ts cs ns) image kind h is = absurd (cc)
pick_stands nodes values v w images (at_most ts cs ns) image kind h is = absurd (cc)
pick_stands nodes values v w images (table ts rows) image kind h is = absurd (cc)

pub whole_stands : (nodes : List GroundNode) (values : List ℤ) (v w : ℕ → Option ℤ) (images : List Image) (node : GroundNode) (image : Image) → image_kind node ≡ Kind.Whole → Over nodes values v w images node → IsWholeImage nodes images node image → StandsForTerm w (node_value values v node) image
unfolding image_kind node_value parts_of IsWholeImage on_both
whole_stands nodes values v w images (constant n) image kind h is = absurd (cc)
whole_stands nodes values v w images undefined image kind h is = absurd (cc)
whole_stands nodes values v w images (cell k) image kind h is = absurd (cc)
whole_stands nodes values v w images (sum c parts) image kind h is = absurd (cc)
whole_stands nodes values v w images (product a b) image kind h is = absurd (cc)
whole_stands nodes values v w images (quotient a b) image kind h is = absurd (cc)
whole_stands nodes values v w images (remainder a b) image kind h is = absurd (cc)
whole_stands nodes values v w images (power a n) image kind h is = absurd (cc)
whole_stands nodes values v w images (absolute a) image kind h is = absurd (cc)
whole_stands nodes values v w images (least ts) image kind h is = absurd (cc)
whole_stands nodes values v w images (greatest ts) image kind h is = absurd (cc)
whole_stands nodes values v w images (pick ts keys indices) image kind h is = absurd (cc)
whole_stands nodes values v w images (whole a ts) image kind h is =
    let g = gathered v w images (a ∷ ts) h.each in
    let x = number_at w images a in
    let first = part_there w (v a) (image_at images a) (h.each a (0, omega arith, refl)) in
    record {
      number = x;
      has = all_true g.bs;
      total = ap w is.0 ∙ first;
      guard = conjoined nodes values w h.follows (guards_in images (a ∷ ts)) g.bs image.guard g.truths is.1;
      is = by g (all_true g.bs) refl;
    }
  where
    by : (g : Gathered v w images (a ∷ ts)) (b : Bool) → all_true g.bs ≡ b → node_value values v (whole a ts) ≡ only_if b (number_at w images a)
    by g true s = all_is nodes values v w images (whole a ts) h g s ∙ ap (λ o. option_and_then (λ (xs : List ℤ). Some (number_at w images a)) o) (values_there (number_at w images) ts)
    by g false s = some_is nodes values v w images (whole a ts) g s
whole_stands nodes values v w images (safe_quotient a b) image kind h is = absurd (cc)
whole_stands nodes values v w images (safe_remainder a b) image kind h is = absurd (cc)
whole_stands nodes values v w images (safe_pick ts keys indices) image kind h is = absurd (cc)
whole_stands nodes values v w images (compare op a b) image kind h is = absurd (cc)
whole_stands nodes values v w images (lex op ts us) image kind h is = absurd (cc)
whole_stands nodes values v w images (member a ns) image kind h is = absurd (cc)
whole_stands nodes values v w images (negation a) image kind h is = absurd (cc)
whole_stands nodes values v w images (all_of ts) image kind h is = absurd (cc)
whole_stands nodes values v w images (any_of ts) image kind h is = absurd (cc)
whole_stands nodes values v w images (same_truth a b) image kind h is = absurd (cc)
whole_stands nodes values v w images (all_different ts) image kind h is = absurd (cc)
whole_stands nodes values v w images (counts ts ns us) image kind h is = absurd (cc)
whole_stands nodes values v w images (at_least ts cs ns) image kind h is = absurd (cc)
whole_stands nodes values v w images (at_most ts cs ns) image kind h is = absurd (cc)
whole_stands nodes values v w images (table ts rows) image kind h is = absurd (cc)

nothing_stands : (values : List ℤ) (v w : ℕ → Option ℤ) (nought : ℕ) (node : GroundNode) (image : Image) → image_kind node ≡ Kind.Nothing → w nought ≡ Some (pos 0) → IsNothingImage nought image → StandsForTerm w (node_value values v node) image
unfolding image_kind node_value of_bool
nothing_stands values v w nought (constant n) image kind nil_is is = absurd (cc)
nothing_stands values v w nought undefined image kind nil_is is = record {
  number = pos 0;
  has = false;
  total = ap w is.total ∙ nil_is;
  guard = subst (λ o. IsTruth w o false) (sym is.guard) nil_is;
  is = refl;
}
nothing_stands values v w nought (cell k) image kind nil_is is = absurd (cc)
nothing_stands values v w nought (sum c parts) image kind nil_is is = absurd (cc)
nothing_stands values v w nought (product a b) image kind nil_is is = absurd (cc)
nothing_stands values v w nought (quotient a b) image kind nil_is is = absurd (cc)
nothing_stands values v w nought (remainder a b) image kind nil_is is = absurd (cc)
nothing_stands values v w nought (power a n) image kind nil_is is = absurd (cc)
nothing_stands values v w nought (absolute a) image kind nil_is is = absurd (cc)
nothing_stands values v w nought (least ts) image kind nil_is is = absurd (cc)
nothing_stands values v w nought (greatest ts) image kind nil_is is = absurd (cc)
nothing_stands values v w nought (pick ts keys indices) image kind nil_is is = absurd (cc)
nothing_stands values v w nought (whole a ts) image kind nil_is is = absurd (cc)
nothing_stands values v w nought (safe_quotient a b) image kind nil_is is = absurd (cc)
nothing_stands values v w nought (safe_remainder a b) image kind nil_is is = absurd (cc)
nothing_stands values v w nought (safe_pick ts keys indices) image kind nil_is is = absurd (cc)
nothing_stands values v w nought (compare op a b) image kind nil_is is = absurd (cc)
nothing_stands values v w nought (lex op ts us) image kind nil_is is = absurd (cc)
nothing_stands values v w nought (member a ns) image kind nil_is is = absurd (cc)
nothing_stands values v w nought (negation a) image kind nil_is is = absurd (cc)
nothing_stands values v w nought (all_of ts) image kind nil_is is = absurd (cc)
nothing_stands values v w nought (any_of ts) image kind nil_is is = absurd (cc)
nothing_stands values v w nought (same_truth a b) image kind nil_is is = absurd (cc)
nothing_stands values v w nought (all_different ts) image kind nil_is is = absurd (cc)
nothing_stands values v w nought (counts ts ns us) image kind nil_is is = absurd (cc)
nothing_stands values v w nought (at_least ts cs ns) image kind nil_is is = absurd (cc)
nothing_stands values v w nought (at_most ts cs ns) image kind nil_is is = absurd (cc)
nothing_stands values v w nought (table ts rows) image kind nil_is is = absurd (cc)

-- what stands for a node of a kind has its value
pub stands_by : (kind : Kind) (nodes : List GroundNode) (values : List ℤ) (v w : ℕ → Option ℤ) (images : List Image) (nought : ℕ) (node : GroundNode) (image : Image) → image_kind node ≡ kind → w nought ≡ Some (pos 0) → Over nodes values v w images node → IsImageBy kind nodes nought images node image → StandsForTerm w (node_value values v node) image
unfolding IsImageBy
stands_by Kind.Nothing nodes values v w images nought node image kind nil_is h is = nothing_stands values v w nought node image kind nil_is is
stands_by Kind.Number nodes values v w images nought node image kind nil_is h is = number_stands nodes values v w images node image kind h is
stands_by Kind.Truth nodes values v w images nought node image kind nil_is h is = truth_stands nodes values v w images node image kind h is
stands_by Kind.Division nodes values v w images nought node image kind nil_is h is = division_stands nodes values v w images nought node image kind nil_is h is
stands_by Kind.Pick nodes values v w images nought node image kind nil_is h is = pick_stands nodes values v w images node image kind h is
stands_by Kind.Whole nodes values v w images nought node image kind nil_is h is = whole_stands nodes values v w images node image kind h is
