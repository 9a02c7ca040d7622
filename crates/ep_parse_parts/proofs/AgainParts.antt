-- Chains of parts with a word between any two are read again.
use Rattle.std.specs.Prelude.{◌≡◌, ℕ, zero, suc, ◌+◌, ◌≤◌, max, Bool, true, false, not, ◌&&◌, nat_le, nat_lt, List, [], ◌∷◌, ◌++◌, length, Option, Some, None, codes, refl}
use Rattle.std.proofs.Common.{ap, arith, sym, subst, ◌∙◌, length-append, append_assoc}
use Rattle.std.proofs.Math.Nat.{le-max_left, le-max_right}
use Rattle.ep_base.specs.declared.places.Place.{Place}
use Prim.Native.String.{String}
use Rattle.ep_tree.specs.Heights.{height, highest}
use Rattle.ep_tree.specs.Phrases.{Lexeme, StartsAt, a_word, ◌followed_by◌}
use Rattle.ep_tree.specs.Spelling.{ClosedBefore, Level, Spells, SpellsMoreParts, SpellsNode, SpellsParts, ends_open, has_trees, own_level, rank, trees_end_open, unaries}
use Rattle.ep_tree.specs.Trees.{ExprTree, ExprTrees, no_trees, place_of, tree_and}
use Rattle.ep_parse_parts.specs.OperandReaders.{Lower, as_trees, if_low, is_there}
use Rattle.ep_parse_parts.specs.OperatorReaders.{only_word, part_from, parts_behind, parts_from, with_operator}
use Rattle.ep_parse_parts.specs.Readers.{Reader, going_on, if_some, kept, more_from, next_in, others_from, took, ◌and_then◌}
use Rattle.ep_parse_parts.proofs.Again.{AreComplete, Ends, EndsBefore, NoImplications, behind_word_cut, below_again, lexeme, same_place, word_again}

-- expressions as a list
abbrev pub listed : ExprTrees → List ExprTree
listed no_trees = []
listed (tree_and e es) = e ∷ listed es

pub as_listed : (es : ExprTrees) → as_trees (listed es) ≡ es
unfolding as_trees
as_listed no_trees = refl
as_listed (tree_and e es) = ap (λ x. tree_and e x) (as_listed es)

and_false : (b : Bool) → (b && false) ≡ false
and_false true = refl
and_false false = refl

not_both : (b : Bool) → not (true && b) ≡ true → b ≡ true → ⊥
not_both true e k = cc
not_both false e k = cc

module _ (less : ℕ) (low : Lower) (good : AreComplete less low) (w : String) (level : Level) (ranked : nat_le (rank level) (rank unaries) ≡ true)
    (found : (p : Place) (ls : List Lexeme) → next_in (only_word (codes w)) (lexeme p (a_word (codes w)) ∷ ls) ≡ Some true)
    (word_ends : (p : Place) (ls : List Lexeme) → Ends level (lexeme p (a_word (codes w)) ∷ ls)) where
  -- what stands behind the last part, which may end in a bare quantifier or not
  pub record Behind (open_last : Bool) (tail : List Lexeme) : Type 0 where
    pub ends : Ends level tail
    pub none : next_in (only_word (codes w)) tail ≡ None
    pub open_ends : open_last ≡ true → NoImplications tail

  abbrev goes_on : ExprTree → List Lexeme → Option (List Lexeme)
  goes_on = with_operator (only_word (codes w))

  abbrev item : ExprTree → Reader ExprTree
  item last = part_from low (codes w) level

  none_on : (last : ExprTree) (tail : List Lexeme) → next_in (only_word (codes w)) tail ≡ None → goes_on last tail ≡ None
  none_on last tail none = ap (λ (o : Option Bool). kept (not (ends_open last) && is_there o) tail) none ∙ ap (λ b. kept b tail) (and_false (not (ends_open last)))

  ends_here : (last : ExprTree) (n : ℕ) (tail : List Lexeme) → next_in (only_word (codes w)) tail ≡ None → more_from goes_on item n last tail ≡ took [] tail
  unfolding more_from
  ends_here last zero tail none = refl
  ends_here last (suc n) tail none =
      ap (λ o. going_on o tail (λ next. item last next and_then λ x rest. more_from goes_on item n x rest and_then λ xs end. took (x ∷ xs) end)) (none_on last tail none)

  some_on : (last : ExprTree) (p : Place) (ls : List Lexeme) → not (ends_open last) ≡ true → goes_on last (lexeme p (a_word (codes w)) ∷ ls) ≡ Some (lexeme p (a_word (codes w)) ∷ ls)
  some_on last p ls closed =
      let all = lexeme p (a_word (codes w)) ∷ ls in
      ap (λ (o : Option Bool). kept (not (ends_open last) && is_there o) all) (found p ls) ∙ ap (λ b. kept (b && true) all) closed

  part_again : (p : Place) (e : ExprTree) (front rest : List Lexeme) → Spells level e front → height e ≤ less → EndsBefore level e rest
      → part_from low (codes w) level (lexeme p (a_word (codes w)) ∷ (front ++ rest)) ≡ took e rest
  unfolding part_from
  part_again p e front rest h small ends =
      ap (λ r. r and_then λ _ x. low.expr level x) (word_again (codes w) p (front ++ rest)) ∙ good.expr level ranked e front rest h small ends

  goes_further : (n : ℕ) (last e : ExprTree) (es : List ExprTree) (all mid tail : List Lexeme) → goes_on last all ≡ Some all → part_from low (codes w) level all ≡ took e mid
      → more_from goes_on item n e mid ≡ took es tail → more_from goes_on item (suc n) last all ≡ took (e ∷ es) tail
  unfolding more_from
  goes_further n last e es all mid tail on first others =
      ap (λ o. going_on o all (λ next. item last next and_then λ x rest. more_from goes_on item n x rest and_then λ xs end. took (x ∷ xs) end)) on
      ∙ ap (λ r. r and_then λ x rest. more_from goes_on item n x rest and_then λ xs end. took (x ∷ xs) end) first
      ∙ ap (λ r. r and_then λ xs end. took (e ∷ xs) end) others

  -- whether what stands last ends in a bare quantifier
  abbrev pub open_at : ExprTrees → ExprTree → Bool
  open_at no_trees last = ends_open last
  open_at (tree_and e es) last = trees_end_open (tree_and e es)

  open_on : (e last : ExprTree) (es : ExprTrees) → open_at (tree_and e es) last ≡ open_at es e
  unfolding ends_open has_trees
  open_on e last no_trees = refl
  open_on e last (tree_and f fs) = refl

  -- an expression ends before further parts and what stands behind them
  ends_before : (e : ExprTree) (es : ExprTrees) (front tail : List Lexeme) → SpellsMoreParts w level es front → not (has_trees es && ends_open e) ≡ true → Behind (open_at es e) tail
      → EndsBefore level e (front ++ tail)
  unfolding SpellsNode has_trees
  ends_before e no_trees front tail h closed b = subst (λ f. EndsBefore level e (f ++ tail)) (sym h) (record { ends = b.ends; open_ends = b.open_ends })
  ends_before e (tree_and f fs) front tail h closed b =
      let c = behind_word_cut (codes w) (ClosedBefore (has_trees fs) f (Spells level f) followed_by SpellsMoreParts w level fs) front h in
      subst (λ x. EndsBefore level e (x ++ tail)) (sym c.parts) (record { ends = word_ends c.place (c.rest ++ tail); open_ends = λ o. absurd (not_both (ends_open e) closed o) })

  -- Further parts are read again.
  pub more_again : (es : ExprTrees) (n : ℕ) (last : ExprTree) (front tail : List Lexeme) → length front ≤ n → SpellsMoreParts w level es front → highest es ≤ less
      → not (has_trees es && ends_open last) ≡ true → Behind (open_at es last) tail → more_from goes_on item n last (front ++ tail) ≡ took (listed es) tail
  unfolding SpellsNode has_trees height
  more_again no_trees n last front tail room h small closed b = subst (λ f. more_from goes_on item n last (f ++ tail) ≡ took [] tail) (sym h) (ends_here last n tail b.none)
  more_again (tree_and e es) zero last front tail room h small closed b =
      let c = behind_word_cut (codes w) (ClosedBefore (has_trees es) e (Spells level e) followed_by SpellsMoreParts w level es) front h in
      let long : length front ≡ suc (length c.rest) = ap length c.parts in
      absurd (omega (arith, room, long))
  more_again (tree_and e es) (suc n) last front tail room h small closed b =
      let c = behind_word_cut (codes w) (ClosedBefore (has_trees es) e (Spells level e) followed_by SpellsMoreParts w level es) front h in
      let f = c.spelled.0 in
      let g = c.spelled.1 in
      let long : length front ≡ suc (length c.rest) = ap length c.parts in
      let cut : length c.rest ≡ length (f ++ g) = ap length c.spelled.2 in
      let all = lexeme c.place (a_word (codes w)) ∷ (f ++ (g ++ tail)) in
      let regrouped : front ++ tail ≡ all = ap (λ x. x ++ tail) c.parts ∙ ap (λ x. lexeme c.place (a_word (codes w)) ∷ x) (ap (λ x. x ++ tail) c.spelled.2 ∙ append_assoc f g tail) in
      let behind : Behind (open_at es e) tail = subst (λ x. Behind x tail) (open_on e last es) b in
      let low_e : height e ≤ less = omega (arith, small, le-max_left (height e) (highest es)) in
      let low_es : highest es ≤ less = omega (arith, small, le-max_right (height e) (highest es)) in
      ap (more_from goes_on item (suc n) last) regrouped
      ∙ goes_further n last e (listed es) all (g ++ tail) tail (some_on last c.place (f ++ (g ++ tail)) closed)
      (part_again c.place e f (g ++ tail) c.spelled.3.1 low_e (ends_before e es g tail c.spelled.4 c.spelled.3.0 behind))
      (more_again es n e g tail (omega (arith, room, long, cut, length-append f g)) c.spelled.4 low_es c.spelled.3.0 behind)

  -- ---- whole chains

  -- what is needed of a level whose chains are one node with many parts
  pub record IsPartsLevel (own : Level) (make : Place → ExprTrees → ExprTree) : Type 0 where
    pub only : (l : Level) → nat_le (rank own) (rank l) ≡ true → nat_le (rank level) (rank l) ≡ false → l ≡ own
    pub makes : (e : ExprTree) → own_level e ≡ own → (p : Place) × (es : ExprTrees) × (e ≡ make p es)
    pub node : (p : Place) (es : ExprTrees) (front : List Lexeme) → SpellsNode (make p es) front → SpellsParts w level es front
    pub high : (p : Place) (es : ExprTrees) → height (make p es) ≡ 1 + highest es
    pub opens : (p : Place) (es : ExprTrees) → ends_open (make p es) ≡ trees_end_open es
    pub at : (p : Place) (es : ExprTrees) → place_of (make p es) ≡ p
    pub loosen : (ls : List Lexeme) → Ends own ls → Ends level ls
    pub none : (ls : List Lexeme) → Ends own ls → next_in (only_word (codes w)) ls ≡ None

  module _ (own : Level) (make : Place → ExprTrees → ExprTree) (is : IsPartsLevel own make) (tight : Reader ExprTree)
      (tight_again : (e : ExprTree) (front rest : List Lexeme) → Spells level e front → height e ≤ suc less → EndsBefore level e rest → tight (front ++ rest) ≡ took e rest) where
    abbrev chain_on : ExprTree → Reader ExprTree
    chain_on = parts_behind (suc less) low (codes w) level make

    stays : (e : ExprTree) (rest : List Lexeme) → next_in (only_word (codes w)) rest ≡ None → chain_on e rest ≡ took e rest
    unfolding parts_behind
    stays e rest none = ap (λ o. if_some o (if_low (nat_lt (height e) (suc less)) (parts_from low (codes w) level make e)) (took e rest)) (none_on e rest none)

    goes : (first e : ExprTree) (es : List ExprTree) (all mid tail : List Lexeme) → goes_on first all ≡ Some all → nat_lt (height first) (suc less) ≡ true
        → part_from low (codes w) level all ≡ took e mid → more_from goes_on item (length mid) e mid ≡ took es tail → chain_on first all ≡ took (make (place_of first) (as_trees (first ∷ e ∷ es))) tail
    unfolding parts_behind parts_from
    goes first e es all mid tail on small one others =
        ap (λ o. if_some o (if_low (nat_lt (height first) (suc less)) (parts_from low (codes w) level make first)) (took first all)) on
        ∙ ap (λ b. if_low b (parts_from low (codes w) level make first) all) small
        ∙ ap (λ r. r and_then λ x rest. others_from goes_on item x rest and_then λ xs end. took (make (place_of first) (as_trees (first ∷ x ∷ xs))) end) one
        ∙ ap (λ r. r and_then λ xs end. took (make (place_of first) (as_trees (first ∷ e ∷ xs))) end) others

    parts_again : (p : Place) (es : ExprTrees) (front rest : List Lexeme) → StartsAt p front → SpellsParts w level es front → 1 + highest es ≤ suc less → Ends own rest → (trees_end_open es ≡ true → NoImplications rest)
        → (tight (front ++ rest) and_then chain_on) ≡ took (make p es) rest
    unfolding SpellsNode has_trees height ends_open as_trees
    parts_again p no_trees front rest starts h high ends open_ends = absurd h
    parts_again p (tree_and first no_trees) front rest starts h high ends open_ends = let wrong : false ≡ true = h.0 in absurd cc
    parts_again p (tree_and first (tree_and e es)) front rest starts h high ends open_ends =
        let f = h.1.0 in
        let c = behind_word_cut (codes w) (ClosedBefore (has_trees es) e (Spells level e) followed_by SpellsMoreParts w level es) h.1.1 h.1.4 in
        let g = c.spelled.0 in
        let k = c.spelled.1 in
        let all = lexeme c.place (a_word (codes w)) ∷ (g ++ (k ++ rest)) in
        let regrouped : front ++ rest ≡ f ++ all =
        ap (λ x. x ++ rest) h.1.2 ∙ append_assoc f h.1.1 rest ∙ ap (λ x. f ++ (x ++ rest)) c.parts
        ∙ ap (λ x. f ++ (lexeme c.place (a_word (codes w)) ∷ x)) (ap (λ x. x ++ rest) c.spelled.2 ∙ append_assoc g k rest) in
        let closed : not (ends_open first) ≡ true = h.1.3.0 in
        let low_first : height first ≤ less = omega (arith, high, le-max_left (height first) (max (height e) (highest es))) in
        let low_others : max (height e) (highest es) ≤ less = omega (arith, high, le-max_right (height first) (max (height e) (highest es))) in
        let low_e : height e ≤ less = omega (arith, low_others, le-max_left (height e) (highest es)) in
        let low_es : highest es ≤ less = omega (arith, low_others, le-max_right (height e) (highest es)) in
        let behind : Behind (open_at es e) rest = record { ends = is.loosen rest ends; none = is.none rest ends; open_ends = λ o. open_ends (open_on e first es ∙ o) } in
        let started : place_of first ≡ p = same_place p (place_of first) f h.1.1 h.1.3.1.1.0 (subst (λ x. StartsAt p x) h.1.2 starts) in
        let one : tight (f ++ all) ≡ took first all =
        tight_again first f all h.1.3.1 (omega (arith, low_first)) (record { ends = word_ends c.place (g ++ (k ++ rest)); open_ends = λ o. absurd (not_both (ends_open first) closed o) }) in
        ap (λ x. tight x and_then chain_on) regrouped
        ∙ ap (λ r. r and_then chain_on) one
        ∙ goes first e (listed es) all (k ++ rest) rest (some_on first c.place (g ++ (k ++ rest)) closed) (below_again (height first) less low_first)
        (part_again c.place e g (k ++ rest) c.spelled.3.1 low_e (ends_before e es k rest c.spelled.4 c.spelled.3.0 behind))
        (more_again es (length (k ++ rest)) e k rest (omega (arith, length-append k rest)) c.spelled.4 low_es c.spelled.3.0 behind)
        ∙ ap (λ x. took (make (place_of first) (tree_and first (tree_and e x))) rest) (as_listed es)
        ∙ ap (λ x. took (make x (tree_and first (tree_and e es))) rest) started

    by_level : (e : ExprTree) (front rest : List Lexeme) → Spells own e front → height e ≤ suc less → EndsBefore own e rest → (b : Bool) → nat_le (rank level) (rank (own_level e)) ≡ b
        → (tight (front ++ rest) and_then chain_on) ≡ took e rest
    by_level e front rest h high ends true k =
        ap (λ r. r and_then chain_on) (tight_again e front rest (k, h.1) high (record { ends = is.loosen rest ends.ends; open_ends = ends.open_ends })) ∙ stays e rest (is.none rest ends.ends)
    by_level e front rest h high ends false k =
        let m = is.makes e (is.only (own_level e) h.0 k) in
        let spelled = subst (λ x. Spells own x front) m.2 h in
        subst (λ x. (tight (front ++ rest) and_then chain_on) ≡ took x rest) (sym m.2)
        (parts_again m.0 m.1 front rest (subst (λ q. StartsAt q front) (is.at m.0 m.1) spelled.1.0) (is.node m.0 m.1 front spelled.1.1)
        (subst (λ n. n ≤ suc less) (is.high m.0 m.1) (subst (λ x. height x ≤ suc less) m.2 high)) ends.ends
        (λ o. ends.open_ends (ap ends_open m.2 ∙ is.opens m.0 m.1 ∙ o)))

    -- A chain of parts is read again, or what is tighter.
    pub parts_chain_again : (e : ExprTree) (front rest : List Lexeme) → Spells own e front → height e ≤ suc less → EndsBefore own e rest → (tight (front ++ rest) and_then chain_on) ≡ took e rest
    parts_chain_again e front rest h high ends = by_level e front rest h high ends (nat_le (rank level) (rank (own_level e))) refl
