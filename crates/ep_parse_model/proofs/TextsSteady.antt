-- The readers of statements stop at a token for what stands before it and for that token alone.
--
-- Here the second list goes on behind the cut, or both end there: where a text ends behind a statement it is whole, whatever
-- else might follow.
use Rattle.std.specs.Prelude.{◌≡◌, ℕ, zero, suc, ℤ, pos, ◌≤◌, ◌<◌, ◌⊎◌, Bool, true, false, List, [], ◌∷◌, ◌++◌, length, Option, Some, None, codes, refl}
use Rattle.std.proofs.Common.{ap, arith, inl, inr, sym, subst, ◌∙◌, length-append}
use Rattle.ep_base.specs.declared.names.Name.{Name}
use Rattle.ep_base.specs.declared.places.Place.{Place}
use Rattle.ep_parse_model.specs.declared.openings.Allowed.{Allowed}
use Rattle.ep_parse_model.specs.declared.openings.Opening.{Opening}
use Rattle.ep_parse_parts.specs.DomainReaders.{place_next}
use Rattle.ep_parse_parts.specs.OperandReaders.{Lower, expression_next}
use Rattle.ep_parse_parts.specs.Readers.{Reader, behind, either_reader, if_some, says_word, meant_by, next_in, number_from, says, took, word_from, wrong, ◌and_then◌}
use Rattle.ep_parse_parts.specs.Sayings.{says_number}
use Rattle.ep_parse_parts.proofs.SoundParts.{AreSound}
use Rattle.ep_parse_expr.proofs.Steady.{Cut, Cuts, Decides, Look, Steady, at_end, before_cut, behind_cut, decided, decided_within, gone, head, inside, left_by, look, name_steady, neither, next_word_steady, steady_after, steady_then, took_steady, word_steady, wrong_steady}
use Rattle.ep_parse_expr.proofs.SteadyLists.{gone_steady, less_room, room}
use Rattle.ep_parse_expr.proofs.SteadyParts.{AreSteady, commas_steady, domain_made_steady, made_steady}
use Rattle.ep_parse_model.proofs.Shrinking.{statement_shrinks_by}
use Rattle.ep_parse_model.specs.TextReaders.{allowed_behind, allowed_statement_from, allows, be_from, bracket_names_from, branching_from, expressions_from, expressions_within, group_from, groups_from, let_from, letting_from, line_from, model_from, params_from, placed_name_from, placed_name_in, placed_names_from, stated_from, statement_behind, statement_words, statements_from, statements_within, value_from}
use Rattle.ep_tree.specs.Phrases.{Lexeme, Saying, a_name, a_number, a_word}
use Rattle.ep_tree.specs.Spelling.{domains, implications}
use Rattle.ep_tree.specs.Statements.{StatementTree, branching, constraints, decided as finding, domain_letting, given, heuristic, letting, objective, requirements}
use Rattle.ep_tree.specs.Trees.{DomainTree, ExprTree}

-- the second list goes on with the same token, or both end
pub data Going (c : Cut) : Type 0 where
  goes : (t : Lexeme) (a b : List Lexeme) → c.one ≡ t ∷ a → c.two ≡ t ∷ b → Going c
  ends_too : c.one ≡ [] → c.two ≡ [] → Going c

module _ (c : Cut) where
  -- ---- names, numbers and words

  placed_decides : (l : Lexeme) (s : Saying) (rest rest2 : List Lexeme) → Cuts c rest rest2
      → Decides c (length rest) (placed_name_in l s rest) (placed_name_in l s rest2) (wrong (l ∷ rest)) (wrong (l ∷ rest2)) (l ∷ rest) (l ∷ rest2)
  unfolding placed_name_in
  placed_decides l (a_name x) rest rest2 s = inside (took_steady c (x, l.place) rest rest2 s)
  placed_decides l (a_number n) rest rest2 s = neither refl refl
  placed_decides l (a_word w) rest rest2 s = neither refl refl

  placed_steady : (ls ls2 : List Lexeme) → Cuts c ls ls2 → Steady c (length ls) (placed_name_from ls) (placed_name_from ls2)
  unfolding placed_name_from
  placed_steady ls ls2 s =
      decided c placed_name_from placed_name_from (λ z. wrong z) (λ z. wrong z) refl refl (λ l rest rest2 t. placed_decides l l.saying rest rest2 t) ls ls2 s (wrong_steady c ls ls2 s)

  placed_names_steady : (ls ls2 : List Lexeme) → Cuts c ls ls2 → Steady c (length ls) (placed_names_from ls) (placed_names_from ls2)
  unfolding placed_names_from
  placed_names_steady ls ls2 s =
      steady_then c (length ls) (placed_name_from ls) (placed_name_from ls2) _ _ (placed_steady ls ls2 s)
      (λ x rest rest2 le t. commas_steady c (λ last. placed_name_from) (λ last. placed_name_from) (λ last. placed_steady) (λ xs end. took (x ∷ xs) end) (λ xs end. took (x ∷ xs) end) (λ xs. took_steady c (x ∷ xs)) x rest rest2 t)

  number_decides : (b : Bool) (l : Lexeme) (rest rest2 : List Lexeme) → Cuts c rest rest2
      → Decides c (length rest) (either_reader b (λ all. took l.place rest) (λ all. wrong all) (l ∷ rest)) (either_reader b (λ all. took l.place rest2) (λ all. wrong all) (l ∷ rest2)) (wrong (l ∷ rest)) (wrong (l ∷ rest2)) (l ∷ rest) (l ∷ rest2)
  number_decides true l rest rest2 s = inside (took_steady c l.place rest rest2 s)
  number_decides false l rest rest2 s = neither refl refl

  number_steady : (n : ℤ) (ls ls2 : List Lexeme) → Cuts c ls ls2 → Steady c (length ls) (number_from n ls) (number_from n ls2)
  unfolding number_from
  number_steady n ls ls2 s =
      decided c (number_from n) (number_from n) (λ z. wrong z) (λ z. wrong z) refl refl (λ l rest rest2 t. number_decides (says_number n l.saying) l rest rest2 t) ls ls2 s (wrong_steady c ls ls2 s)

  line_steady : (ls ls2 : List Lexeme) → Cuts c ls ls2 → Steady c (length ls) (line_from ls) (line_from ls2)
  unfolding line_from
  line_steady ls ls2 s =
      steady_then c (length ls) _ _ _ _ (word_steady c (codes "language") ls ls2 s)
      (λ _ a a2 le t. steady_then c (length a) _ _ _ _ (word_steady c (codes "ESSENCE'") a a2 t)
      (λ _ b b2 le u. steady_then c (length b) _ _ _ _ (number_steady (pos 1) b b2 u)
      (λ _ d d2 le v. steady_then c (length d) _ _ _ _ (word_steady c (codes ".") d d2 v)
      (λ _ e e2 le w. number_steady (pos 0) e e2 w))))

  be_decides : (b : Bool) (l : Lexeme) (rest rest2 : List Lexeme) → says_word (codes "be") l.saying ≡ b → Cuts c rest rest2
      → Decides c (length rest) (either_reader b (word_from (codes "be")) (word_from (codes "=")) (l ∷ rest)) (either_reader b (word_from (codes "be")) (word_from (codes "=")) (l ∷ rest2))
      (word_from (codes "=") (l ∷ rest)) (word_from (codes "=") (l ∷ rest2)) (l ∷ rest) (l ∷ rest2)
  unfolding word_from
  be_decides true l rest rest2 e s =
      inside (subst (λ z. Steady c (length rest) (either_reader z (λ all. took l.place rest) (λ all. wrong all) (l ∷ rest)) (either_reader z (λ all. took l.place rest2) (λ all. wrong all) (l ∷ rest2))) (sym e) (took_steady c l.place rest rest2 s))
  be_decides false l rest rest2 e s = neither refl refl

  be_steady : (ls ls2 : List Lexeme) → Cuts c ls ls2 → Steady c (length ls) (be_from ls) (be_from ls2)
  unfolding be_from says
  be_steady ls ls2 s =
      decided c be_from be_from (word_from (codes "=")) (word_from (codes "=")) refl refl (λ l rest rest2 t. be_decides (says_word (codes "be") l.saying) l rest rest2 refl t) ls ls2 s (word_steady c (codes "=") ls ls2 s)

  module _ (less : ℕ) (low low2 : Lower) (good : AreSteady c less low low2) where
    -- ---- groups and lettings

    group_steady : (ls ls2 : List Lexeme) → Cuts c ls ls2 → Steady c (length ls) (group_from low ls) (group_from low2 ls2)
    unfolding group_from
    group_steady ls ls2 s =
        steady_then c (length ls) (placed_names_from ls) (placed_names_from ls2) _ _ (placed_names_steady ls ls2 s)
        (λ names a a2 le t. steady_then c (length a) (word_from (codes ":") a) (word_from (codes ":") a2) _ _ (word_steady c (codes ":") a a2 t)
        (λ q b b2 le u. domain_made_steady c less low low2 good domains (λ d. record { names = names; domain = d }) b b2 u))

    groups_steady : (ls ls2 : List Lexeme) → Cuts c ls ls2 → Steady c (length ls) (groups_from low ls) (groups_from low2 ls2)
    unfolding groups_from
    groups_steady ls ls2 s =
        steady_then c (length ls) (group_from low ls) (group_from low2 ls2) _ _ (group_steady ls ls2 s)
        (λ g rest rest2 le t. commas_steady c (λ last. group_from low) (λ last. group_from low2) (λ last. group_steady) (λ gs end. took (g ∷ gs) end) (λ gs end. took (g ∷ gs) end) (λ gs. took_steady c (g ∷ gs)) g rest rest2 t)

    stated_steady : (ls ls2 : List Lexeme) → Cuts c ls ls2 → Steady c (length ls) (stated_from low ls) (stated_from low2 ls2)
    unfolding stated_from
    stated_steady ls ls2 s =
        next_word_steady c (codes ":") (λ z. low.domain domains z and_then λ d rest. took (Some d) rest) (λ z. low2.domain domains z and_then λ d rest. took (Some d) rest) (λ z. took None z) (λ z. took None z)
        (λ z z2 u. domain_made_steady c less low low2 good domains Some z z2 u) ls ls2 s (took_steady c None ls ls2 s)

    value_steady : (p : Place) (x : Name × Place) (d : Option DomainTree) (ls ls2 : List Lexeme) → Cuts c ls ls2 → Steady c (length ls) (value_from low p x d ls) (value_from low2 p x d ls2)
    unfolding value_from
    value_steady p x d ls ls2 s = made_steady c less low low2 good implications (letting p x.0 x.1 d) ls ls2 s

    let_steady : (p : Place) (x : Name × Place) (d : Option DomainTree) (ls ls2 : List Lexeme) → Cuts c ls ls2 → Steady c (length ls) (let_from low p x d ls) (let_from low2 p x d ls2)
    unfolding let_from
    let_steady p x (Some d) ls ls2 s = value_steady p x (Some d) ls ls2 s
    let_steady p x None ls ls2 s =
        next_word_steady c (codes "domain") (λ z. low.domain domains z and_then λ d rest. took (domain_letting p x.0 x.1 d) rest) (λ z. low2.domain domains z and_then λ d rest. took (domain_letting p x.0 x.1 d) rest)
        (value_from low p x None) (value_from low2 p x None) (λ z z2 u. domain_made_steady c less low low2 good domains (domain_letting p x.0 x.1) z z2 u) ls ls2 s (value_steady p x None ls ls2 s)

    letting_steady : (p : Place) (ls ls2 : List Lexeme) → Cuts c ls ls2 → Steady c (length ls) (letting_from low p ls) (letting_from low2 p ls2)
    unfolding letting_from
    letting_steady p ls ls2 s =
        steady_then c (length ls) _ _ _ _ (placed_steady ls ls2 s)
        (λ x a a2 le t. steady_then c (length a) _ _ _ _ (stated_steady a a2 t)
        (λ d b b2 le u. steady_then c (length b) _ _ _ _ (be_steady b b2 u) (λ _ e e2 le v. let_steady p x d e e2 v)))

-- ---- a list that goes on

-- what is read behind an expression, with so many steps
abbrev Behind_expr : Lower → ℕ → ExprTree → Reader (List ExprTree)
Behind_expr l m e ls = either_reader (says (codes ",") ls) (λ next. expressions_within l m (behind next) and_then λ es end. took (e ∷ es) end) (λ next. took (e ∷ []) next) ls

-- a turn of reading expressions, where this is whether one begins
abbrev Turn : Bool → Lower → ℕ → Reader (List ExprTree)
Turn b l m ls = either_reader b (λ all. l.expr implications all and_then Behind_expr l m) (λ all. took [] all) ls

nothing_left : (low : Lower) → length (left_by (expressions_within low zero [])) ≤ 0
unfolding expressions_within
nothing_left low = omega arith

-- what is seen of two lists
data Seen (c : Cut) (ls ls2 : List Lexeme) : Type 0 where
  past : length ls < length c.one → Seen c ls ls2
  first : (l : Lexeme) (rest rest2 : List Lexeme) → ls ≡ l ∷ rest → ls2 ≡ l ∷ rest2 → Cuts c rest rest2 → Seen c ls ls2
  none : ls ≡ [] → ls2 ≡ [] → Seen c ls ls2

module _ (c : Cut) (going : Going c) where
  seen : (ls ls2 : List Lexeme) → Cuts c ls ls2 → Seen c ls ls2
  seen ls ls2 s = go (look c ls ls2 s)
    where
      clash : (t : Lexeme) (b : List Lexeme) → c.two ≡ t ∷ b → ls ≡ c.one → ls2 ≡ [] → Cuts c ls ls2 → ⊥
      clash t b two e e2 (behind_cut p) = let same : length ls ≡ length c.one = ap length e in omega (arith, p, same)
      clash t b two e e2 (before_cut front k k2) =
          let empty : length (front ++ c.two) ≡ 0 = ap length (sym k2 ∙ e2) in
          let some : length c.two ≡ suc (length b) = ap length two in
          omega (arith, empty, some, length-append front c.two)

      at_last : Going c → ls ≡ c.one → ls2 ≡ [] → Seen c ls ls2
      at_last (goes t a b one two) e e2 = absurd (clash t b two e e2 s)
      at_last (ends_too one two) e e2 = none (e ∙ one) e2

      go : Look c ls ls2 → Seen c ls ls2
      go (gone p) = past p
      go (head l rest rest2 e e2 t) = first l rest rest2 e e2 t
      go (at_end inexact e e2) = at_last going e e2

  -- two readers that look at the first token
  by_first : {A : Type 0} (f f2 : Reader A) → length (left_by (f [])) ≤ 0 → (Cuts c [] [] → Steady c 0 (f []) (f2 []))
      → ((l : Lexeme) (rest rest2 : List Lexeme) → Cuts c rest rest2 → Cuts c (l ∷ rest) (l ∷ rest2) → Steady c (length (l ∷ rest)) (f (l ∷ rest)) (f2 (l ∷ rest2)))
      → (ls ls2 : List Lexeme) → Cuts c ls ls2 → Steady c (length ls) (f ls) (f2 ls2)
  by_first f f2 short empty h ls ls2 s = go ls (seen ls ls2 s) s
    where
      go : (z : List Lexeme) → Seen c z ls2 → Cuts c z ls2 → Steady c (length z) (f z) (f2 ls2)
      go [] (past p) s = gone_steady c 0 (f []) (f2 ls2) short p
      go (l ∷ rest) (past p) s =
          let st = h l rest [] (behind_cut (omega (arith, p))) (behind_cut p) in gone_steady c (length (l ∷ rest)) (f (l ∷ rest)) (f2 ls2) st.short p
      go z (first l rest rest2 e e2 t) s =
          subst (λ y. Steady c (length y) (f y) (f2 ls2)) (sym e) (subst (λ y. Steady c (length (l ∷ rest)) (f (l ∷ rest)) (f2 y)) (sym e2)
          (h l rest rest2 t (subst (λ y. Cuts c y (l ∷ rest2)) e (subst (λ y. Cuts c z y) e2 s))))
      go z (none e e2) s =
          subst (λ y. Steady c (length y) (f y) (f2 ls2)) (sym e) (subst (λ y. Steady c 0 (f []) (f2 y)) (sym e2) (empty (subst (λ y. Cuts c y []) e (subst (λ y. Cuts c z y) e2 s))))

  bracket_names_steady : (ls ls2 : List Lexeme) → Cuts c ls ls2 → Steady c (length ls) (bracket_names_from ls) (bracket_names_from ls2)
  unfolding bracket_names_from says placed_names_from placed_name_from
  bracket_names_steady ls ls2 s =
      by_first bracket_names_from bracket_names_from (omega arith) (λ u. wrong_steady c [] [] u) (λ l rest rest2 t u. both (says_word (codes "]") l.saying) l rest rest2 u) ls ls2 s
    where
      both : (b : Bool) (l : Lexeme) (rest rest2 : List Lexeme) → Cuts c (l ∷ rest) (l ∷ rest2)
          → Steady c (length (l ∷ rest)) (either_reader b (λ all. took [] all) placed_names_from (l ∷ rest)) (either_reader b (λ all. took [] all) placed_names_from (l ∷ rest2))
      both true l rest rest2 u = took_steady c [] (l ∷ rest) (l ∷ rest2) u
      both false l rest rest2 u = placed_names_steady c (l ∷ rest) (l ∷ rest2) u

  branching_steady : (p : Place) (ls ls2 : List Lexeme) → Cuts c ls ls2 → Steady c (length ls) (branching_from p ls) (branching_from p ls2)
  unfolding branching_from
  branching_steady p ls ls2 s =
      steady_then c (length ls) _ _ _ _ (word_steady c (codes "on") ls ls2 s)
      (λ _ a a2 le t. steady_then c (length a) _ _ _ _ (word_steady c (codes "[") a a2 t)
      (λ _ b b2 le u. steady_then c (length b) _ _ _ _ (bracket_names_steady b b2 u)
      (λ names d d2 le v. steady_then c (length d) _ _ _ _ (word_steady c (codes "]") d d2 v) (λ _ e e2 le w. took_steady c (branching p names) e e2 w))))

  module _ (less : ℕ) (low low2 : Lower) (good : AreSteady c less low low2) where
    -- ---- expressions

    module _ (n k : ℕ) (ih : (ls ls2 : List Lexeme) → length ls ≤ n → length ls2 ≤ k → Cuts c ls ls2 → Steady c (length ls) (expressions_within low n ls) (expressions_within low2 k ls2)) where
      comma_decides : (e : ExprTree) (b : Bool) (l : Lexeme) (rest rest2 : List Lexeme) → length rest < suc n → length rest2 < suc k → Cuts c rest rest2
          → Decides c (length rest) (either_reader b (λ next. expressions_within low n (behind next) and_then λ es end. took (e ∷ es) end) (λ next. took (e ∷ []) next) (l ∷ rest))
          (either_reader b (λ next. expressions_within low2 k (behind next) and_then λ es end. took (e ∷ es) end) (λ next. took (e ∷ []) next) (l ∷ rest2)) (took (e ∷ []) (l ∷ rest)) (took (e ∷ []) (l ∷ rest2)) (l ∷ rest) (l ∷ rest2)
      comma_decides e true l rest rest2 lt lt2 t =
          inside (steady_then c (length rest) (expressions_within low n rest) (expressions_within low2 k rest2) _ _ (ih rest rest2 (omega (arith, lt)) (omega (arith, lt2)) t) (λ es z z2 le u. took_steady c (e ∷ es) z z2 u))
      comma_decides e false l rest rest2 lt lt2 t = neither refl refl

      behind_room : (e : ExprTree) (r r2 : List Lexeme) → length r ≤ suc n → length r2 ≤ suc k → Cuts c r r2 → Steady c (length r) (Behind_expr low n e r) (Behind_expr low2 k e r2)
      unfolding says
      behind_room e r r2 few few2 s =
          decided_within c (suc n) (suc k) (omega arith) (Behind_expr low n e) (Behind_expr low2 k e) (λ z. took (e ∷ []) z) (λ z. took (e ∷ []) z) refl refl
          (λ l rest rest2 lt lt2 t. comma_decides e (says_word (codes ",") l.saying) l rest rest2 lt lt2 t) r r2 few few2 s (took_steady c (e ∷ []) r r2 s)

      behind_steady : (e : ExprTree) (ls ls2 r r2 : List Lexeme) → Cuts c ls ls2 → length ls ≤ suc n → length ls2 ≤ suc k → length r ≤ length ls → Cuts c r r2 → Steady c (length r) (Behind_expr low n e r) (Behind_expr low2 k e r2)
      behind_steady e ls ls2 r r2 s few few2 le u = by (room c (suc k) ls ls2 r r2 s u le few2)
        where
          short : length r ≤ suc n
          short = omega (arith, le, few)

          by : ((length r2 ≤ suc k) ⊎ (length r < length c.one)) → Steady c (length r) (Behind_expr low n e r) (Behind_expr low2 k e r2)
          by (inl room2) = behind_room e r r2 short room2 u
          by (inr p) = let st = behind_room e r [] short (omega arith) (behind_cut p) in gone_steady c (length r) (Behind_expr low n e r) (Behind_expr low2 k e r2) st.short p

      turn_steady : (b : Bool) (ls ls2 : List Lexeme) → length ls ≤ suc n → length ls2 ≤ suc k → Cuts c ls ls2 → Steady c (length ls) (Turn b low n ls) (Turn b low2 k ls2)
      turn_steady true ls ls2 few few2 s =
          steady_then c (length ls) (low.expr implications ls) (low2.expr implications ls2) (Behind_expr low n) (Behind_expr low2 k) (good.expr implications ls ls2 s)
          (λ e r r2 le u. behind_steady e ls ls2 r r2 s few few2 le u)
      turn_steady false ls ls2 few few2 s = took_steady c [] ls ls2 s

      -- a turn of reading expressions
      exprs_turn : (b : Bool) (ls ls2 : List Lexeme) → expression_next ls ≡ b → expression_next ls2 ≡ b → length ls ≤ suc n → length ls2 ≤ suc k → Cuts c ls ls2
          → Steady c (length ls) (expressions_within low (suc n) ls) (expressions_within low2 (suc k) ls2)
      unfolding expressions_within
      exprs_turn b ls ls2 e e2 few few2 s =
          subst (λ z. Steady c (length ls) (Turn z low n ls) (Turn (expression_next ls2) low2 k ls2)) (sym e) (subst (λ z. Steady c (length ls) (Turn b low n ls) (Turn z low2 k ls2)) (sym e2) (turn_steady b ls ls2 few few2 s))

    same_next : (l : Lexeme) (rest rest2 : List Lexeme) → expression_next (l ∷ rest2) ≡ expression_next (l ∷ rest)
    unfolding expression_next
    same_next l rest rest2 = refl

    no_exprs_so : (n : ℕ) (l : Lower) → expressions_within l n [] ≡ took [] []
    unfolding expressions_within expression_next
    no_exprs_so zero l = refl
    no_exprs_so (suc n) l = refl

    no_exprs : (n m : ℕ) (ls ls2 : List Lexeme) → ls ≡ [] → ls2 ≡ [] → Cuts c ls ls2 → Steady c (length ls) (expressions_within low n ls) (expressions_within low2 m ls2)
    no_exprs n m ls ls2 e e2 s =
        subst (λ z. Steady c (length ls) z (expressions_within low2 m ls2)) (sym (ap (expressions_within low n) e ∙ no_exprs_so n low ∙ ap (took []) (sym e)))
        (subst (λ z. Steady c (length ls) (took [] ls) z) (sym (ap (expressions_within low2 m) e2 ∙ no_exprs_so m low2 ∙ ap (took []) (sym e2))) (took_steady c [] ls ls2 s))

    exprs_steady : (n m : ℕ) (ls ls2 : List Lexeme) → length ls ≤ n → length ls2 ≤ m → Cuts c ls ls2 → Steady c (length ls) (expressions_within low n ls) (expressions_within low2 m ls2)
    exprs_steady zero m ls ls2 few few2 s = at_zero ls (seen ls ls2 s) few s
      where
        at_zero : (z : List Lexeme) → Seen c z ls2 → length z ≤ 0 → Cuts c z ls2 → Steady c (length z) (expressions_within low zero z) (expressions_within low2 m ls2)
        at_zero [] (past p) few s = gone_steady c 0 (expressions_within low zero []) (expressions_within low2 m ls2) (nothing_left low) p
        at_zero (l ∷ rest) (past p) few s = absurd (omega (arith, few))
        at_zero z (first l rest rest2 e e2 t) few s = let long : length z ≡ suc (length rest) = ap length e in absurd (omega (arith, few, long))
        at_zero z (none e e2) few s = no_exprs zero m z ls2 e e2 s
    exprs_steady (suc n) m ls ls2 few few2 s = go m few2 (exprs_steady n) (seen ls ls2 s)
      where
        go : (m : ℕ) → length ls2 ≤ m → ((k : ℕ) (z z2 : List Lexeme) → length z ≤ n → length z2 ≤ k → Cuts c z z2 → Steady c (length z) (expressions_within low n z) (expressions_within low2 k z2)) → Seen c ls ls2
            → Steady c (length ls) (expressions_within low (suc n) ls) (expressions_within low2 m ls2)
        go m few2 ih (past p) =
            let st = exprs_turn n n (ih n) (expression_next ls) ls ls refl refl few few (behind_cut p) in gone_steady c (length ls) (expressions_within low (suc n) ls) (expressions_within low2 m ls2) st.short p
        go m few2 ih (none e e2) = no_exprs (suc n) m ls ls2 e e2 s
        go zero few2 ih (first l rest rest2 e e2 t) = let long : length ls2 ≡ suc (length rest2) = ap length e2 in absurd (omega (arith, few2, long))
        go (suc k) few2 ih (first l rest rest2 e e2 t) =
            exprs_turn n k (ih k) (expression_next ls) ls ls2 refl (ap expression_next e2 ∙ same_next l rest rest2 ∙ sym (ap expression_next e)) few few2 s

    expressions_steady : (ls ls2 : List Lexeme) → Cuts c ls ls2 → Steady c (length ls) (expressions_from low ls) (expressions_from low2 ls2)
    expressions_steady ls ls2 s = exprs_steady (length ls) (length ls2) ls ls2 (omega arith) (omega arith) s

    -- ---- statements

    behind_word_steady : (p : Place) (what : Opening) (ls ls2 : List Lexeme) → Cuts c ls ls2 → Steady c (length ls) (statement_behind low p what ls) (statement_behind low2 p what ls2)
    unfolding statement_behind
    behind_word_steady p Opening.Given ls ls2 s = steady_then c (length ls) _ _ _ _ (groups_steady c less low low2 good ls ls2 s) (λ gs z z2 le u. took_steady c (given p gs) z z2 u)
    behind_word_steady p Opening.Find ls ls2 s = steady_then c (length ls) _ _ _ _ (groups_steady c less low low2 good ls ls2 s) (λ gs z z2 le u. took_steady c (finding p gs) z z2 u)
    behind_word_steady p Opening.Letting ls ls2 s = letting_steady c less low low2 good p ls ls2 s
    behind_word_steady p Opening.Where ls ls2 s = steady_then c (length ls) _ _ _ _ (expressions_steady ls ls2 s) (λ es z z2 le u. took_steady c (requirements p es) z z2 u)
    behind_word_steady p Opening.SuchThat ls ls2 s =
        steady_then c (length ls) _ _ _ _ (word_steady c (codes "that") ls ls2 s)
        (λ _ a a2 le t. steady_then c (length a) _ _ _ _ (expressions_steady a a2 t) (λ es z z2 le u. took_steady c (constraints p es) z z2 u))
    behind_word_steady p (Opening.Objective sense) ls ls2 s = made_steady c less low low2 good implications (objective p sense) ls ls2 s
    behind_word_steady p Opening.Branching ls ls2 s = branching_steady p ls ls2 s
    behind_word_steady p Opening.Heuristic ls ls2 s = steady_then c (length ls) _ _ _ _ (name_steady c ls ls2 s) (λ x z z2 le u. took_steady c (heuristic p x) z z2 u)

    -- what a word begins, where it may come
    abbrev Opened : Lower → Allowed → Option Opening → Reader StatementTree
    Opened l allowed o ls = if_some o (λ what. either_reader (allows allowed what) (λ all. statement_behind l (place_next all) what (behind all)) (λ all. wrong all) ls) (wrong ls)

    may_decides : (b : Bool) (what : Opening) (l : Lexeme) (rest rest2 : List Lexeme) → Cuts c rest rest2
        → Decides c (length rest) (either_reader b (λ all. statement_behind low (place_next all) what (behind all)) (λ all. wrong all) (l ∷ rest)) (either_reader b (λ all. statement_behind low2 (place_next all) what (behind all)) (λ all. wrong all) (l ∷ rest2))
        (wrong (l ∷ rest)) (wrong (l ∷ rest2)) (l ∷ rest) (l ∷ rest2)
    may_decides true what l rest rest2 t = inside (behind_word_steady l.place what rest rest2 t)
    may_decides false what l rest rest2 t = neither refl refl

    opened_decides : (allowed : Allowed) (o : Option Opening) (l : Lexeme) (rest rest2 : List Lexeme) → Cuts c rest rest2
        → Decides c (length rest) (Opened low allowed o (l ∷ rest)) (Opened low2 allowed o (l ∷ rest2)) (wrong (l ∷ rest)) (wrong (l ∷ rest2)) (l ∷ rest) (l ∷ rest2)
    opened_decides allowed None l rest rest2 t = neither refl refl
    opened_decides allowed (Some what) l rest rest2 t = may_decides (allows allowed what) what l rest rest2 t

    allowed_steady : (allowed : Allowed) (ls ls2 : List Lexeme) → Cuts c ls ls2 → Steady c (length ls) (allowed_statement_from low allowed ls) (allowed_statement_from low2 allowed ls2)
    unfolding allowed_statement_from next_in
    allowed_steady allowed ls ls2 s =
        decided c (allowed_statement_from low allowed) (allowed_statement_from low2 allowed) (λ z. wrong z) (λ z. wrong z) refl refl
        (λ l rest rest2 t. opened_decides allowed (meant_by statement_words l.saying) l rest rest2 t) ls ls2 s (wrong_steady c ls ls2 s)

    module _ (sound : AreSound less low) where
      nothing_taken : (m : ℕ) (allowed : Allowed) → length (left_by (statements_within low m allowed [])) ≤ 0
      unfolding statements_within
      nothing_taken zero allowed = omega arith
      nothing_taken (suc m) allowed = omega arith

      statements_turn : (n k : ℕ) → ((allowed : Allowed) (m : ℕ) (ls ls2 : List Lexeme) → length ls ≤ n → length ls2 ≤ m → Cuts c ls ls2 → Steady c (length ls) (statements_within low n allowed ls) (statements_within low2 m allowed ls2))
          → (allowed : Allowed) (l : Lexeme) (rest rest2 : List Lexeme) → length rest ≤ n → length rest2 ≤ k → Cuts c (l ∷ rest) (l ∷ rest2)
          → Steady c (length (l ∷ rest)) (statements_within low (suc n) allowed (l ∷ rest)) (statements_within low2 (suc k) allowed (l ∷ rest2))
      unfolding statements_within
      statements_turn n k ih allowed l rest rest2 few few2 u =
          steady_after c (length (l ∷ rest)) (allowed_statement_from low allowed (l ∷ rest)) (allowed_statement_from low2 allowed (l ∷ rest2)) _ _ (allowed_steady allowed (l ∷ rest) (l ∷ rest2) u)
          (λ s r r2 is le t. others s r r2 (statement_shrinks_by less low sound allowed l rest r s is) t)
        where
          others : (s : StatementTree) (r r2 : List Lexeme) → length r ≤ length rest → Cuts c r r2
              → Steady c (length r) (statements_within low n (allowed_behind s allowed) r and_then λ ss end. took (s ∷ ss) end) (statements_within low2 k (allowed_behind s allowed) r2 and_then λ ss end. took (s ∷ ss) end)
          others s r r2 le t =
              steady_then c (length r) (statements_within low n (allowed_behind s allowed) r) (statements_within low2 k (allowed_behind s allowed) r2) _ _ (by (less_room c k (l ∷ rest) (l ∷ rest2) r r2 u t (omega (arith, le)) (omega (arith, few2))))
              (λ ss z z2 _ v. took_steady c (s ∷ ss) z z2 v)
            where
              by : ((length r2 ≤ k) ⊎ (length r < length c.one)) → Steady c (length r) (statements_within low n (allowed_behind s allowed) r) (statements_within low2 k (allowed_behind s allowed) r2)
              by (inl room2) = ih (allowed_behind s allowed) k r r2 (omega (arith, le, few)) room2 t
              by (inr p) =
                  let st = ih (allowed_behind s allowed) k r [] (omega (arith, le, few)) (omega arith) (behind_cut p) in
                  gone_steady c (length r) (statements_within low n (allowed_behind s allowed) r) (statements_within low2 k (allowed_behind s allowed) r2) st.short p

      no_statement_so : (n : ℕ) (l : Lower) (allowed : Allowed) → statements_within l n allowed [] ≡ took [] []
      unfolding statements_within
      no_statement_so zero l allowed = refl
      no_statement_so (suc n) l allowed = refl

      no_statements : (n m : ℕ) (allowed : Allowed) (ls ls2 : List Lexeme) → ls ≡ [] → ls2 ≡ [] → Cuts c ls ls2 → Steady c (length ls) (statements_within low n allowed ls) (statements_within low2 m allowed ls2)
      no_statements n m allowed ls ls2 e e2 s =
          subst (λ z. Steady c (length ls) z (statements_within low2 m allowed ls2)) (sym (ap (statements_within low n allowed) e ∙ no_statement_so n low allowed ∙ ap (took []) (sym e)))
          (subst (λ z. Steady c (length ls) (took [] ls) z) (sym (ap (statements_within low2 m allowed) e2 ∙ no_statement_so m low2 allowed ∙ ap (took []) (sym e2))) (took_steady c [] ls ls2 s))

      statements_so : (n : ℕ) (allowed : Allowed) (m : ℕ) (ls ls2 : List Lexeme) → length ls ≤ n → length ls2 ≤ m → Cuts c ls ls2 → Steady c (length ls) (statements_within low n allowed ls) (statements_within low2 m allowed ls2)
      statements_so zero allowed m ls ls2 few few2 s = at_zero ls (seen ls ls2 s) few s
        where
          at_zero : (z : List Lexeme) → Seen c z ls2 → length z ≤ 0 → Cuts c z ls2 → Steady c (length z) (statements_within low zero allowed z) (statements_within low2 m allowed ls2)
          at_zero [] (past p) few s = gone_steady c 0 (statements_within low zero allowed []) (statements_within low2 m allowed ls2) (nothing_taken zero allowed) p
          at_zero (l ∷ rest) (past p) few s = absurd (omega (arith, few))
          at_zero z (first l rest rest2 e e2 t) few s = let long : length z ≡ suc (length rest) = ap length e in absurd (omega (arith, few, long))
          at_zero z (none e e2) few s = no_statements zero m allowed z ls2 e e2 s
      statements_so (suc n) allowed m ls ls2 few few2 s = go ls m few few2 (statements_so n) (seen ls ls2 s) s
        where
          go : (z : List Lexeme) (m : ℕ) → length z ≤ suc n → length ls2 ≤ m
              → ((allowed : Allowed) (m : ℕ) (ls ls2 : List Lexeme) → length ls ≤ n → length ls2 ≤ m → Cuts c ls ls2 → Steady c (length ls) (statements_within low n allowed ls) (statements_within low2 m allowed ls2))
              → Seen c z ls2 → Cuts c z ls2 → Steady c (length z) (statements_within low (suc n) allowed z) (statements_within low2 m allowed ls2)
          go [] m few few2 ih (past p) s = gone_steady c 0 (statements_within low (suc n) allowed []) (statements_within low2 m allowed ls2) (nothing_taken (suc n) allowed) p
          go (l ∷ rest) m few few2 ih (past p) s =
              let st = statements_turn n 0 ih allowed l rest [] (omega (arith, few)) (omega arith) (behind_cut p) in
              gone_steady c (length (l ∷ rest)) (statements_within low (suc n) allowed (l ∷ rest)) (statements_within low2 m allowed ls2) st.short p
          go z m few few2 ih (none e e2) s = no_statements (suc n) m allowed z ls2 e e2 s
          go z zero few few2 ih (first l rest rest2 e e2 t) s = let long : length ls2 ≡ suc (length rest2) = ap length e2 in absurd (omega (arith, few2, long))
          go z (suc k) few few2 ih (first l rest rest2 e e2 t) s =
              let long : length z ≡ suc (length rest) = ap length e in
              let long2 : length ls2 ≡ suc (length rest2) = ap length e2 in
              subst (λ y. Steady c (length y) (statements_within low (suc n) allowed y) (statements_within low2 (suc k) allowed ls2)) (sym e)
              (subst (λ y. Steady c (length (l ∷ rest)) (statements_within low (suc n) allowed (l ∷ rest)) (statements_within low2 (suc k) allowed y)) (sym e2)
              (statements_turn n k ih allowed l rest rest2 (omega (arith, few, long)) (omega (arith, few2, long2)) (subst (λ y. Cuts c y (l ∷ rest2)) e (subst (λ y. Cuts c z y) e2 s))))

      statements_steady : (allowed : Allowed) (ls ls2 : List Lexeme) → Cuts c ls ls2 → Steady c (length ls) (statements_from low allowed ls) (statements_from low2 allowed ls2)
      statements_steady allowed ls ls2 s = statements_so (length ls) allowed (length ls2) ls ls2 (omega arith) (omega arith) s

      -- ---- whole texts

      pub model_steady : (ls ls2 : List Lexeme) → Cuts c ls ls2 → Steady c (length ls) (model_from low ls) (model_from low2 ls2)
      unfolding model_from
      model_steady ls ls2 s = steady_then c (length ls) (line_from ls) (line_from ls2) _ _ (line_steady c ls ls2 s) (λ _ r r2 le u. statements_steady Allowed.All r r2 u)

      pub params_steady : (ls ls2 : List Lexeme) → Cuts c ls ls2 → Steady c (length ls) (params_from low ls) (params_from low2 ls2)
      unfolding params_from says
      params_steady ls ls2 s =
          by_first (params_from low) (params_from low2) (nothing_taken 0 Allowed.Lettings) (λ u. no_statements 0 0 Allowed.Lettings [] [] refl refl u) (λ l rest rest2 t u. both (says_word (codes "language") l.saying) l rest rest2 u) ls ls2 s
        where
          both : (b : Bool) (l : Lexeme) (rest rest2 : List Lexeme) → Cuts c (l ∷ rest) (l ∷ rest2)
              → Steady c (length (l ∷ rest)) (either_reader b (λ all. line_from all and_then λ _ rest. statements_from low Allowed.Lettings rest) (statements_from low Allowed.Lettings) (l ∷ rest))
              (either_reader b (λ all. line_from all and_then λ _ rest. statements_from low2 Allowed.Lettings rest) (statements_from low2 Allowed.Lettings) (l ∷ rest2))
          both true l rest rest2 u = steady_then c (length (l ∷ rest)) (line_from (l ∷ rest)) (line_from (l ∷ rest2)) _ _ (line_steady c (l ∷ rest) (l ∷ rest2) u) (λ _ r r2 le v. statements_steady Allowed.Lettings r r2 v)
          both false l rest rest2 u = statements_steady Allowed.Lettings (l ∷ rest) (l ∷ rest2) u
