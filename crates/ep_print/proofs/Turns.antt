-- Turns of loops that put out one item after another.
use Rattle.std.proofs.Common.{◌≡◌, ℕ, suc, ◌+◌, ◌<◌, ◌≤◌, Bool, true, List, [], ◌∷◌, ◌++◌, length, drop, get_or, refl, sym, ap, ◌∙◌, append_assoc, add-one, map}
use Rattle.std.proofs.Math.Seq.{drop-cons}
use Rattle.std.proofs.Math.ListN.{drop_of_length-le}
use Rattle.std.proofs.lemmas.List.{append-nil, drop_all, drop_more}
use Rattle.std.specs.Borrow.{Bor}
use Rattle.ep_print.specs.Putting.{between_if, continued, words_spaced}
use Rattle.ep_print.specs.Words.{Words}
use Rattle.ep_print.proofs.Appends.{three}
use Rattle.ep_print.proofs.Puts.{puts_both, spaced-nil}

-- the items that are left: the next one and the others
pub next_is : {A : Type 0} (xs : List A) (i : ℕ) (x : A) → i < length xs → x ≡ get_or xs i x → drop i xs ≡ x ∷ drop (i + 1) xs
next_is xs i x lt e = rw add-one (drop-cons xs i x lt ∙ ap (λ y. y ∷ drop (suc i) xs) (sym e))

-- the words of items, item by item
pub record Listed {X : Type 0} (words_of : List X → List Words) (item_words : X → Words) : Type 0 where
  pub none : words_of [] ≡ []
  pub more : (x : X) (xs : List X) → words_of (x ∷ xs) ≡ item_words x ∷ words_of xs

-- one more list of words, with what stands between
step : (b : Words) (started : Bool) (x : Words) (xs : List Words) (t0 t1 t2 goal : List ℕ) → t1 ≡ t0 ++ words_spaced (between_if started b) → t2 ≡ t1 ++ words_spaced x → t0 ++ words_spaced (continued b started (x ∷ xs)) ≡ goal → t2 ++ words_spaced (continued b true xs) ≡ goal
unfolding continued
step b started x xs t0 t1 t2 goal first second so_far =
    let both = puts_both t0 t1 t2 (between_if started b) x first second in
    let all = puts_both t0 t2 (t2 ++ words_spaced (continued b true xs)) (between_if started b ++ x) (continued b true xs) both refl in
    all ∙ ap (λ w. t0 ++ words_spaced w) (append_assoc (between_if started b) x (continued b true xs)) ∙ so_far

-- an item is put out
pub turn : {X : Type 0} (words_of : List X → List Words) (item_words : X → Words) (listed : Listed words_of item_words) (b : Words) (started : Bool) (xs : List X) (i : ℕ) (x : X) (t0 t1 t2 goal : List ℕ) → i < length xs → x ≡ get_or xs i x
    → t1 ≡ t0 ++ words_spaced (between_if started b) → t2 ≡ t1 ++ words_spaced (item_words x)
    → t0 ++ words_spaced (continued b started (words_of (drop i xs))) ≡ goal → t2 ++ words_spaced (continued b true (words_of (drop (i + 1) xs))) ≡ goal
turn words_of item_words listed b started xs i x t0 t1 t2 goal lt is first second so_far =
    step b started (item_words x) (words_of (drop (i + 1) xs)) t0 t1 t2 goal first second
    (ap (λ ws. t0 ++ words_spaced (continued b started ws)) (sym (ap words_of (next_is xs i x lt is) ∙ listed.more x (drop (i + 1) xs))) ∙ so_far)

-- all items are put out
pub turns_end : {X : Type 0} (words_of : List X → List Words) (item_words : X → Words) (listed : Listed words_of item_words) (b : Words) (started : Bool) (xs : List X) (i : ℕ) (t goal : List ℕ) → length xs ≤ i
    → t ++ words_spaced (continued b started (words_of (drop i xs))) ≡ goal → t ≡ goal
unfolding continued
turns_end words_of item_words listed b started xs i t goal le so_far =
    let left = ap words_of (drop_of_length-le xs le) ∙ listed.none in
    sym (ap (λ ws. t ++ words_spaced (continued b started ws)) left ∙ ap (λ s. t ++ s) spaced-nil ∙ append-nil t) ∙ so_far

-- ---- the same of texts

text_step : (b : List ℕ) (started : Bool) (x : List ℕ) (xs : List (List ℕ)) (t0 t1 t2 goal : List ℕ) → t1 ≡ t0 ++ between_if started b → t2 ≡ t1 ++ x → t0 ++ continued b started (x ∷ xs) ≡ goal → t2 ++ continued b true xs ≡ goal
unfolding continued
text_step b started x xs t0 t1 t2 goal first second so_far =
    three t0 (between_if started b) x (continued b true xs) t1 t2 (t2 ++ continued b true xs) first second refl ∙ so_far

pub record TextsListed {X : Type 0} (texts_of : List X → List (List ℕ)) (item_text : X → List ℕ) : Type 0 where
  pub none : texts_of [] ≡ []
  pub more : (x : X) (xs : List X) → texts_of (x ∷ xs) ≡ item_text x ∷ texts_of xs

pub text_turn : {X : Type 0} (texts_of : List X → List (List ℕ)) (item_text : X → List ℕ) (listed : TextsListed texts_of item_text) (b : List ℕ) (started : Bool) (xs : List X) (i : ℕ) (x : X) (t0 t1 t2 goal : List ℕ) → i < length xs → x ≡ get_or xs i x
    → t1 ≡ t0 ++ between_if started b → t2 ≡ t1 ++ item_text x
    → t0 ++ continued b started (texts_of (drop i xs)) ≡ goal → t2 ++ continued b true (texts_of (drop (i + 1) xs)) ≡ goal
text_turn texts_of item_text listed b started xs i x t0 t1 t2 goal lt is first second so_far =
    text_step b started (item_text x) (texts_of (drop (i + 1) xs)) t0 t1 t2 goal first second
    (ap (λ ts. t0 ++ continued b started ts) (sym (ap texts_of (next_is xs i x lt is) ∙ listed.more x (drop (i + 1) xs))) ∙ so_far)

pub text_turns_end : {X : Type 0} (texts_of : List X → List (List ℕ)) (item_text : X → List ℕ) (listed : TextsListed texts_of item_text) (b : List ℕ) (started : Bool) (xs : List X) (i : ℕ) (t goal : List ℕ) → length xs ≤ i
    → t ++ continued b started (texts_of (drop i xs)) ≡ goal → t ≡ goal
unfolding continued
text_turns_end texts_of item_text listed b started xs i t goal le so_far =
    let left = ap texts_of (drop_of_length-le xs le) ∙ listed.none in
    sym (ap (λ ts. t ++ continued b started ts) left ∙ append-nil t) ∙ so_far

-- a step and the end of a loop over what is left of a list
pub text_more : (b : List ℕ) (started : Bool) (x : List ℕ) (xs all : List (List ℕ)) (t0 t1 t2 goal : List ℕ) → all ≡ x ∷ xs → t1 ≡ t0 ++ between_if started b → t2 ≡ t1 ++ x → t0 ++ continued b started all ≡ goal → t2 ++ continued b true xs ≡ goal
text_more b started x xs all t0 t1 t2 goal is first second so_far =
    text_step b started x xs t0 t1 t2 goal first second (ap (λ ts. t0 ++ continued b started ts) (sym is) ∙ so_far)

pub text_end : (b : List ℕ) (started : Bool) (all : List (List ℕ)) (t goal : List ℕ) → all ≡ [] → t ++ continued b started all ≡ goal → t ≡ goal
unfolding continued
text_end b started all t goal is so_far = sym (ap (λ ts. t ++ continued b started ts) is ∙ append-nil t) ∙ so_far

-- ---- words without anything between them

pub words_turn : (ws : List (Bor (List ℕ))) (i : ℕ) (d : Bor (List ℕ)) (t0 t1 goal : List ℕ) → i < length ws → t1 ≡ t0 ++ words_spaced ((get_or ws i d).now ∷ [])
    → t0 ++ words_spaced (map (λ w. w.now) (drop i ws)) ≡ goal → t1 ++ words_spaced (map (λ w. w.now) (drop (i + 1) ws)) ≡ goal
words_turn ws i d t0 t1 goal lt first so_far =
    let rest = map (λ w. w.now) (drop (i + 1) ws) in
    puts_both t0 t1 (t1 ++ words_spaced rest) ((get_or ws i d).now ∷ []) rest first refl
    ∙ ap (λ xs. t0 ++ words_spaced (map (λ w. w.now) xs)) (sym (drop_more ws i d lt)) ∙ so_far

pub words_end : (ws : List (Bor (List ℕ))) (i : ℕ) (t goal : List ℕ) → length ws ≤ i → t ++ words_spaced (map (λ w. w.now) (drop i ws)) ≡ goal → t ≡ goal
words_end ws i t goal le so_far =
    sym (ap (λ xs. t ++ words_spaced (map (λ w. w.now) xs)) (drop_all i ws le) ∙ ap (λ s. t ++ s) spaced-nil ∙ append-nil t) ∙ so_far
