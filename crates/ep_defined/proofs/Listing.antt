-- Loops that gather lists.
use Rattle.std.proofs.Common.{◌≡◌, ℕ, ◌+◌, ◌<◌, ◌==◌, cond, Bool, true, false, ℤ, List, [], ◌∷◌, ◌++◌, length, refl, sym, ap, subst, ◌∙◌, arith, get_or, map, take}
use Rattle.std.specs.Prelude.{filter, option_to_list}
use Rattle.std.proofs.lemmas.Bool.Decides.{Decides-eqb}
use Rattle.std.specs.List.{All}
use Rattle.std.proofs.lemmas.List.{append_assoc, flat_map_more, get_or_append_left, get_or-append-add, length-append, length-map, map-append, take_more}
use Rattle.std.proofs.lemmas.List.Elements.{All-get_or, All-tail, filter-append}
use Rattle.ep_defined.specs.Images.{guards_in, image_at}
use Rattle.ep_defined.specs.declared.images.Image.{Image}
use Rattle.ep_ground.specs.NodeViews.{plain_node}
use Rattle.ep_ground.specs.Nodes.{parts_of}
use Rattle.ep_ground.specs.declared.nodes.Node.{Node}

-- one more element is put behind what is made of those before it
pub pushed_map : {X Y : Type 0} (f : X → Y) (xs : List X) (i : ℕ) (x : X) (ys zs : List Y) → zs ≡ ys ++ f x ∷ [] → ys ≡ map f (take i xs) → i < length xs → x ≡ get_or xs i x → zs ≡ map f (take (i + 1) xs)
pushed_map f xs i x ys zs push before below at =
    push ∙ ap (λ ws. ws ++ f x ∷ []) before ∙ ap (λ y. map f (take i xs) ++ f y ∷ []) at
    ∙ sym (ap (map f) (take_more xs i x below) ∙ map-append f (take i xs) (get_or xs i x ∷ []))

pub pushed : {X : Type 0} (xs : List X) (i : ℕ) (x : X) (ys zs : List X) → zs ≡ ys ++ x ∷ [] → ys ≡ take i xs → i < length xs → x ≡ get_or xs i x → zs ≡ take (i + 1) xs
pushed xs i x ys zs push before below at =
    push ∙ ap (λ ws. ws ++ x ∷ []) before ∙ ap (λ y. take i xs ++ y ∷ []) at ∙ sym (take_more xs i x below)

-- the guard of one more term
pub guarded : (images : List Image) (ts : List ℕ) (t : ℕ) (bs cs ds : List ℕ) → ds ≡ cs ++ option_to_list (image_at images t).guard → cs ≡ bs ++ guards_in images ts → ds ≡ bs ++ guards_in images (ts ++ t ∷ [])
guarded images ts t bs cs ds push before =
    push ∙ ap (λ ws. ws ++ option_to_list (image_at images t).guard) before
    ∙ flat_map_more (λ (u : ℕ). option_to_list (image_at images u).guard) bs ts t

pub guarded_turn : (images : List Image) (ts : List ℕ) (i t : ℕ) (bs cs ds : List ℕ) → ds ≡ cs ++ option_to_list (image_at images t).guard → cs ≡ bs ++ guards_in images (take i ts) → i < length ts → t ≡ get_or ts i t → ds ≡ bs ++ guards_in images (take (i + 1) ts)
guarded_turn images ts i t bs cs ds push before below at =
    guarded images (take i ts) t bs cs ds push before
    ∙ ap (λ us. bs ++ guards_in images us) (ap (λ u. take i ts ++ u ∷ []) at ∙ sym (take_more ts i t below))

pub guarded_part : (images : List Image) (ps : List (ℤ × ℕ)) (i : ℕ) (p : ℤ × ℕ) (bs cs ds : List ℕ) → ds ≡ cs ++ option_to_list (image_at images p.1).guard → cs ≡ bs ++ guards_in images (map (λ (q : ℤ × ℕ). q.1) (take i ps)) → i < length ps → p ≡ get_or ps i p → ds ≡ bs ++ guards_in images (map (λ (q : ℤ × ℕ). q.1) (take (i + 1) ps))
guarded_part images ps i p bs cs ds push before below at =
    guarded images (map (λ (q : ℤ × ℕ). q.1) (take i ps)) p.1 bs cs ds push before
    ∙ ap (λ us. bs ++ guards_in images us) (sym (ap (map (λ (q : ℤ × ℕ). q.1)) (take_more ps i p below ∙ ap (λ q. take i ps ++ q ∷ []) (sym at)) ∙ map-append (λ (q : ℤ × ℕ). q.1) (take i ps) (p ∷ [])))

map_get : (qs : List (ℤ × ℕ)) (k : ℕ) (d : ℤ × ℕ) → get_or (map (λ (q : ℤ × ℕ). q.1) qs) k d.1 ≡ (get_or qs k d).1
map_get [] k d = refl
map_get (q ∷ qs) ℕ.zero d = refl
map_get (q ∷ qs) (ℕ.suc k) d = map_get qs k d

-- what holds of all second parts holds of one
pub second_holds : (P : ℕ → Type 0) (ps : List (ℤ × ℕ)) (i : ℕ) (p : ℤ × ℕ) → All P (map (λ (q : ℤ × ℕ). q.1) ps) → i < length ps → p ≡ get_or ps i p → P p.1
second_holds P ps i p all below at = subst (λ (q : ℤ × ℕ). P q.1) (sym at) (one ps i p all below)
  where
    one : (qs : List (ℤ × ℕ)) (k : ℕ) (d : ℤ × ℕ) → All P (map (λ (q : ℤ × ℕ). q.1) qs) → k < length qs → P (get_or qs k d).1
    one qs k d h l = subst P (map_get qs k d) (All-get_or P (map (λ (q : ℤ × ℕ). q.1) qs) k d.1 (subst (λ n. k < n) (sym (length-map qs (λ (q : ℤ × ℕ). q.1))) l) h)

pub All-left : {X : Type 0} (P : X → Type 0) (xs ys : List X) → All P (xs ++ ys) → All P xs
All-left P xs ys h = λ k d l. subst P (get_or_append_left xs ys d k l) (h k d (omega (arith, length-append xs ys)))

pub All-right : {X : Type 0} (P : X → Type 0) (xs ys : List X) → All P (xs ++ ys) → All P ys
All-right P xs ys h = λ k d l. subst P (get_or-append-add xs ys k d) (h (length xs + k) d (omega (arith, length-append xs ys)))

pub guards_of_both : (images : List Image) (ts us : List ℕ) → guards_in images (ts ++ us) ≡ guards_in images ts ++ guards_in images us
guards_of_both images [] us = refl
guards_of_both images (t ∷ ts) us =
    ap (λ gs. option_to_list (image_at images t).guard ++ gs) (guards_of_both images ts us)
    ∙ sym (append_assoc (option_to_list (image_at images t).guard) (guards_in images ts) (guards_in images us))

-- terms below a number
pub first_below : (n a : ℕ) (ts : List ℕ) → All (λ t. t < n) (a ∷ ts) → a < n
first_below n a ts h = h 0 0 (omega arith)

pub second_below : (n a b : ℕ) (ts : List ℕ) → All (λ t. t < n) (a ∷ b ∷ ts) → b < n
second_below n a b ts h = h 1 0 (omega arith)

pub rest_below : (n a : ℕ) (ts : List ℕ) → All (λ t. t < n) (a ∷ ts) → All (λ t. t < n) ts
rest_below n a ts h = All-tail (λ t. t < n) a ts h

pub left_below : (n : ℕ) (ts us : List ℕ) → All (λ t. t < n) (ts ++ us) → All (λ t. t < n) ts
left_below n ts us h = All-left (λ t. t < n) ts us h

pub right_below : (n : ℕ) (ts us : List ℕ) → All (λ t. t < n) (ts ++ us) → All (λ t. t < n) us
right_below n ts us h = All-right (λ t. t < n) ts us h

pub read_below : (n : ℕ) (ts us : List ℕ) → us ≡ ts → All (λ t. t < n) ts → All (λ t. t < n) us
read_below n ts us e h = subst (All (λ t. t < n)) (sym e) h

-- the parts of a node that was matched
pub parts_below : (n : ℕ) (a b : Node) → a ≡ b → All (λ t. t < n) (parts_of (plain_node a)) → All (λ t. t < n) (parts_of (plain_node b))
parts_below n a b e h = subst (λ c. All (λ t. t < n) (parts_of (plain_node c))) e h

pub whole_below : (n a : ℕ) (ts us : List ℕ) → us ≡ ts → All (λ t. t < n) (a ∷ ts) → All (λ t. t < n) (a ∷ us)
whole_below n a ts us e h = subst (λ vs. All (λ t. t < n) (a ∷ vs)) (sym e) h

pub kept_one : (k : List ℤ) (m n : ℕ) → n ≡ length k → n ≡ m → filter (λ key. length key == m) (k ∷ []) ≡ k ∷ []
kept_one k m n is e = ap (λ b. cond b (k ∷ []) []) ((Decides-eqb (length k) m).1 (sym is ∙ e))

pub dropped_one : (k : List ℤ) (m n : ℕ) → n ≡ length k → (n ≡ m → ⊥) → filter (λ key. length key == m) (k ∷ []) ≡ []
dropped_one k m n is other = by (length k == m) refl
  where
    by : (b : Bool) → (length k == m) ≡ b → cond (length k == m) (k ∷ []) [] ≡ []
    by true s = absurd (other (is ∙ (Decides-eqb (length k) m).0 s))
    by false s = ap (λ b. cond b (k ∷ []) []) s

pub filtered_turn : (p : List ℤ → Bool) (ks : List (List ℤ)) (i : ℕ) (k : List ℤ) (cs ds : List (List ℤ)) → ds ≡ cs ++ filter p (k ∷ []) → cs ≡ filter p (take i ks) → i < length ks → k ≡ get_or ks i k → ds ≡ filter p (take (i + 1) ks)
filtered_turn p ks i k cs ds push before below at =
    push ∙ ap (λ xs. xs ++ filter p (k ∷ [])) before ∙ sym (filter-append p (take i ks) (k ∷ []))
    ∙ ap (λ x. filter p (take i ks ++ x ∷ [])) at ∙ ap (filter p) (sym (take_more ks i k below))
