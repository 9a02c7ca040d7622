-- Whether a generator or a condition follows is seen by looking along names: where two lists differ in that behind the
-- cut, the names are read as far as behind it.
use Rattle.std.specs.Prelude.{◌≡◌, ℕ, zero, suc, ◌≤◌, ◌<◌, Bool, true, false, ◌&&◌, List, [], ◌∷◌, ◌++◌, length, codes, refl}
use Rattle.std.proofs.Common.{ap, arith, sym, subst, ◌∙◌}
use Rattle.ep_base.specs.declared.names.Name.{Name}
use Rattle.ep_tree.specs.Heights.{height}
use Rattle.ep_tree.specs.Phrases.{Lexeme, Saying, a_name, a_number, a_word}
use Rattle.ep_tree.specs.Spelling.{SpellsNode, implications, set_operations, own_level, rank}
use Rattle.ep_tree.specs.Trees.{ExprTree, named, place_of, truth}
use Rattle.ep_parse_parts.specs.OperandReaders.{Generator, Lower, another_generator, colon_comes, colon_or, conditions_from, generator_from, says_name}
use Rattle.ep_parse_parts.specs.Readers.{Read, Reader, behind_comma, either_reader, going_on, kept, says_word, more_from, name_from, name_in, names_from, others_from, says, took, high, word_from, wrong, ◌and_then◌}
use Rattle.ep_parse_parts.proofs.Again.{AreComplete, NoImplications}
use Rattle.ep_parse_parts.proofs.AgainLists.{comma_ends}
use Rattle.ep_parse_parts.proofs.Holding.{is_word-sound}
use Rattle.ep_parse_expr.proofs.Steady.{Cut, Cuts, Same, Look, Steady, at_end, before_cut, behind_cut, behind_too, ended, going, gone, head, left_by, look, steady_then, took_steady, name_steady, word_steady}
use Rattle.ep_parse_expr.proofs.SteadyLists.{Turns, both_end, both_go, ends_alone, goes_alone, grouped, others_steady}
use Rattle.ep_parse_expr.proofs.SteadyParts.{AreSteady, commas_steady, domain_made_steady, generator_steady, more_commas_steady}

-- what a look-ahead behind a name sees
data SeesName (l : Lexeme) (rest : List Lexeme) : Type 0 where
  a_colon : says_word (codes ":") l.saying ≡ true → colon_comes false (l ∷ rest) ≡ true → SeesName l rest
  a_comma : says_word (codes ":") l.saying ≡ false → says_word (codes ",") l.saying ≡ true → colon_comes false (l ∷ rest) ≡ colon_comes true rest → SeesName l rest
  another : says_word (codes ":") l.saying ≡ false → says_word (codes ",") l.saying ≡ false → colon_comes false (l ∷ rest) ≡ false → SeesName l rest

sees : (l : Lexeme) (rest : List Lexeme) → SeesName l rest
unfolding colon_comes
sees l rest = go (says_word (codes ":") l.saying) (says_word (codes ",") l.saying) refl refl
  where
    go : (a b : Bool) → says_word (codes ":") l.saying ≡ a → says_word (codes ",") l.saying ≡ b → SeesName l rest
    go true b e k = a_colon e (ap (λ z. colon_or z (says_word (codes ",") l.saying) (colon_comes true rest)) e)
    go false true e k = a_comma e k (ap (λ z. colon_or z (says_word (codes ",") l.saying) (colon_comes true rest)) e ∙ ap (λ z. colon_or false z (colon_comes true rest)) k)
    go false false e k = another e k (ap (λ z. colon_or z (says_word (codes ",") l.saying) (colon_comes true rest)) e ∙ ap (λ z. colon_or false z (colon_comes true rest)) k)

-- what it sees at a name
data SeesFirst (l : Lexeme) (rest : List Lexeme) : Type 0 where
  the_name : (x : Name) → l.saying ≡ a_name x → colon_comes true (l ∷ rest) ≡ colon_comes false rest → SeesFirst l rest
  no_name : says_name l.saying ≡ false → colon_comes true (l ∷ rest) ≡ false → SeesFirst l rest

sees_first : (l : Lexeme) (rest : List Lexeme) → SeesFirst l rest
unfolding colon_comes
sees_first l rest = go l.saying refl
  where
    go : (s : Saying) → l.saying ≡ s → SeesFirst l rest
    go (a_name x) e = the_name x e (ap (λ z. says_name z && colon_comes false rest) e)
    go (a_number n) e = no_name (ap says_name e) (ap (λ z. says_name z && colon_comes false rest) e)
    go (a_word w) e = no_name (ap says_name e) (ap (λ z. says_name z && colon_comes false rest) e)

none_comes : (b : Bool) → colon_comes b [] ≡ false
unfolding colon_comes
none_comes true = refl
none_comes false = refl

clash : {b : Bool} → b ≡ true → b ≡ false → ⊥
clash e k = let no : true ≡ false = sym e ∙ k in cc

no_comma : (l : Lexeme) → says_word (codes ":") l.saying ≡ true → says_word (codes ",") l.saying ≡ false
no_comma l e = ap (λ z. says_word (codes ",") z) (is_word-sound (codes ":") l.saying e)

comma_goes : {A : Type 0} (last : A) (l : Lexeme) (rest : List Lexeme) (b : Bool) → says_word (codes ",") l.saying ≡ b → behind_comma last (l ∷ rest) ≡ kept b rest
unfolding says
comma_goes last l rest b e = ap (λ z. kept z rest) e

name_taken : (l : Lexeme) (x : Name) (rest : List Lexeme) → l.saying ≡ a_name x → name_from (l ∷ rest) ≡ took x rest
unfolding name_from name_in
name_taken l x rest e = ap (λ z. name_in l z rest) e

module _ (c : Cut) where
  abbrev Past : List Lexeme → Type 0
  Past ls = length ls < length c.one

  -- the first token behind the cut
  first_behind : (b : Bool) → colon_comes b c.one ≡ true → (t : Lexeme) × (rest : List Lexeme) × (c.one ≡ t ∷ rest)
  first_behind b e = go c.one refl
    where
      go : (z : List Lexeme) → c.one ≡ z → (t : Lexeme) × (rest : List Lexeme) × (c.one ≡ t ∷ rest)
      go [] k = absurd (clash e (ap (colon_comes b) k ∙ none_comes b))
      go (t ∷ rest) k = (t, rest, k)

  -- the same token stands in both
  first_of_both : (b : Bool) → colon_comes b c.two ≡ true → (t : Lexeme) × (rest : List Lexeme) × (other : List Lexeme) × (c.one ≡ t ∷ rest) × (c.two ≡ t ∷ other)
  first_of_both b e = go c.same
    where
      go : Same c.exact c.one c.two → (t : Lexeme) × (rest : List Lexeme) × (other : List Lexeme) × (c.one ≡ t ∷ rest) × (c.two ≡ t ∷ other)
      go (going t rest other k k2) = (t, rest, other, k, k2)
      go (ended inexact k2) = absurd (clash e (ap (colon_comes b) k2 ∙ none_comes b))

  abbrev Names : Name → Reader Name
  Names last = name_from

  -- a list of names, and what is read behind it
  module _ {B : Type 0} where
    abbrev Short : (List Name → Reader B) → (List Name → Reader B) → Type 0
    Short k k2 = (xs : List Name) (ls ls2 : List Lexeme) → Cuts c ls ls2 → Steady c (length ls) (k xs ls) (k2 xs ls2)

    abbrev AtColon : (List Name → Reader B) → Type 0
    AtColon k = (xs : List Name) (l : Lexeme) (ls : List Lexeme) → says_word (codes ":") l.saying ≡ true → length ls < length c.one → length (left_by (k xs (l ∷ ls))) ≤ length ls

    more_names : (n : ℕ) (k k2 : List Name → Reader B) → Short k k2 → (x : Name) (ls : List Lexeme) → length ls ≤ n → Past ls → length (left_by (more_from behind_comma Names n x ls and_then k)) ≤ length ls
    more_names n k k2 short x ls few p = let st = more_commas_steady c Names Names (λ last. name_steady c) k k2 short n 0 x ls [] few (omega arith) (behind_cut p) in st.short

    -- another name behind a comma
    behind_a_comma : (n : ℕ) (k : List Name → Reader B) (x : Name) (u : Lexeme) (ls : List Lexeme) → says_word (codes ",") u.saying ≡ true
        → (more_from behind_comma Names (suc n) x (u ∷ ls) and_then k) ≡ (name_from ls and_then λ y r. more_from behind_comma Names n y r and_then λ xs. k (y ∷ xs))
    unfolding more_from
    behind_a_comma n k x u ls e =
        ap (λ o. going_on o (u ∷ ls) (λ next. name_from next and_then λ y r. more_from behind_comma Names n y r and_then λ xs end. took (y ∷ xs) end) and_then k) (comma_goes x u ls true e)
        ∙ by_cases (name_from ls)
      where
        by_cases : (r : Read Name) → ((r and_then λ y r. more_from behind_comma Names n y r and_then λ xs end. took (y ∷ xs) end) and_then k) ≡ (r and_then λ y r. more_from behind_comma Names n y r and_then λ xs. k (y ∷ xs))
        by_cases (took y rest) = grouped (more_from behind_comma Names n y rest) (λ xs end. took (y ∷ xs) end) k
        by_cases (wrong rest) = refl
        by_cases (high rest) = refl

    no_comma_ends : (n : ℕ) (k : List Name → Reader B) (x : Name) (u : Lexeme) (ls : List Lexeme) → says_word (codes ",") u.saying ≡ false
        → (more_from behind_comma Names (suc n) x (u ∷ ls) and_then k) ≡ k [] (u ∷ ls)
    unfolding more_from
    no_comma_ends n k x u ls e =
        ap (λ o. going_on o (u ∷ ls) (λ next. name_from next and_then λ y r. more_from behind_comma Names n y r and_then λ xs end. took (y ∷ xs) end) and_then k) (comma_goes x u ls false e)

    -- names behind a comma that is behind the cut
    names_past : (n : ℕ) (k k2 : List Name → Reader B) → Short k k2 → (ls : List Lexeme) → length ls ≤ n → Past ls
        → length (left_by (name_from ls and_then λ y r. more_from behind_comma Names n y r and_then λ xs. k (y ∷ xs))) < length c.one
    names_past n k k2 short ls few p =
        let st = steady_then c (length ls) (name_from ls) (name_from []) (λ y r. more_from behind_comma Names n y r and_then λ xs. k (y ∷ xs)) (λ y r. more_from behind_comma Names n y r and_then λ xs. k2 (y ∷ xs)) (name_steady c ls [] (behind_cut p))
        (λ y r r2 le s. record { short = more_names n (λ xs. k (y ∷ xs)) (λ xs. k2 (y ∷ xs)) (λ xs. short (y ∷ xs)) y r (omega (arith, le, few)) (omega (arith, le, p)); stops = behind_too (let le2 = more_names n (λ xs. k (y ∷ xs)) (λ xs. k2 (y ∷ xs)) (λ xs. short (y ∷ xs)) y r (omega (arith, le, few)) (omega (arith, le, p)) in omega (arith, le, le2, p)) }) in
        omega (arith, st.short, p)

    -- what is left of the names behind one
    abbrev Further : ℕ → (List Name → Reader B) → List Lexeme → Type 0
    Further n k front = (y : Name) → colon_comes false (front ++ c.one) ≡ true → colon_comes false (front ++ c.two) ≡ false → length (left_by (more_from behind_comma Names n y (front ++ c.one) and_then λ xs. k (y ∷ xs))) < length c.one

    -- Names before a colon that only the first list has.
    names_to_colon : (n : ℕ) (k k2 : List Name → Reader B) → Short k k2 → AtColon k → (x : Name) (front : List Lexeme) → length (front ++ c.one) ≤ n
        → colon_comes false (front ++ c.one) ≡ true → colon_comes false (front ++ c.two) ≡ false → length (left_by (more_from behind_comma Names n x (front ++ c.one) and_then k)) < length c.one
    names_to_colon zero k k2 short at x front few one two = absurd (clash one (ap (colon_comes false) (empty (front ++ c.one) few) ∙ none_comes false))
      where
        empty : (z : List Lexeme) → length z ≤ 0 → z ≡ []
        empty [] h = refl
        empty (l ∷ ls) h = absurd (omega (arith, h))
    names_to_colon (suc n) k k2 short at x [] few one two =
        let f = first_behind false one in
        let t = f.0 in
        let rest = f.1 in
        let long : length c.one ≡ suc (length rest) = ap length f.2 in
        subst (λ z. length (left_by (more_from behind_comma Names (suc n) x z and_then k)) < length c.one) (sym f.2) (go t rest (omega (arith, long)) (omega (arith, few, long)) (subst (λ z. colon_comes false z ≡ true) f.2 one) (sees t rest))
      where
        go : (t : Lexeme) (rest : List Lexeme) → length rest < length c.one → length rest ≤ n → colon_comes false (t ∷ rest) ≡ true → SeesName t rest → length (left_by (more_from behind_comma Names (suc n) x (t ∷ rest) and_then k)) < length c.one
        go t rest p few e (a_colon is _) = subst (λ z. length (left_by z) < length c.one) (sym (no_comma_ends n k x t rest (no_comma t is))) (let le = at [] t rest is p in omega (arith, le, p))
        go t rest p few e (a_comma _ is _) = subst (λ z. length (left_by z) < length c.one) (sym (behind_a_comma n k x t rest is)) (names_past n k k2 short rest few p)
        go t rest p few e (another _ _ none) = absurd (clash e none)
    names_to_colon (suc n) k k2 short at x (u ∷ []) few one two = go (sees u c.one) (sees u c.two)
      where
        past_name : colon_comes true c.one ≡ true → says_word (codes ",") u.saying ≡ true → length (left_by (more_from behind_comma Names (suc n) x (u ∷ c.one) and_then k)) < length c.one
        past_name e is =
            let f = first_behind true e in
            let t = f.0 in
            let rest = f.1 in
            let long : length c.one ≡ suc (length rest) = ap length f.2 in
            subst (λ z. length (left_by z) < length c.one) (sym (behind_a_comma n k x u c.one is))
            (subst (λ z. length (left_by (name_from z and_then λ y r. more_from behind_comma Names n y r and_then λ xs. k (y ∷ xs))) < length c.one) (sym f.2)
            (taken t rest (omega (arith, long)) (omega (arith, few, long)) (subst (λ z. colon_comes true z ≡ true) f.2 e) (sees_first t rest)))
          where
            taken : (t : Lexeme) (rest : List Lexeme) → length rest < length c.one → length rest ≤ n → colon_comes true (t ∷ rest) ≡ true → SeesFirst t rest
                → length (left_by (name_from (t ∷ rest) and_then λ y r. more_from behind_comma Names n y r and_then λ xs. k (y ∷ xs))) < length c.one
            taken t rest p few e (the_name y is _) =
                subst (λ z. length (left_by (z and_then λ y r. more_from behind_comma Names n y r and_then λ xs. k (y ∷ xs))) < length c.one) (sym (name_taken t y rest is))
                (let le = more_names n (λ xs. k (y ∷ xs)) (λ xs. k2 (y ∷ xs)) (λ xs. short (y ∷ xs)) y rest few p in omega (arith, le, p))
            taken t rest p few e (no_name other none) = absurd (clash e none)

        go : SeesName u c.one → SeesName u c.two → length (left_by (more_from behind_comma Names (suc n) x (u ∷ c.one) and_then k)) < length c.one
        go (a_comma _ is e) s = past_name (sym e ∙ one) is
        go (a_colon is e) (a_colon is2 e2) = absurd (clash e2 two)
        go (a_colon is e) (a_comma is2 _ e2) = absurd (clash is is2)
        go (a_colon is e) (another is2 _ e2) = absurd (clash is is2)
        go (another _ _ none) s = absurd (clash one none)
    names_to_colon (suc n) k k2 short at x (u ∷ v ∷ front) few one two = go (sees u (v ∷ front ++ c.one)) (sees u (v ∷ front ++ c.two)) (λ y e e2. names_to_colon n (λ xs. k (y ∷ xs)) (λ xs. k2 (y ∷ xs)) (λ xs. short (y ∷ xs)) (λ xs. at (y ∷ xs)) y front (omega (arith, few)) e e2)
      where
        taken : SeesFirst v (front ++ c.one) → SeesFirst v (front ++ c.two) → colon_comes true (v ∷ front ++ c.one) ≡ true → colon_comes true (v ∷ front ++ c.two) ≡ false → Further n k front
            → length (left_by (name_from (v ∷ front ++ c.one) and_then λ y r. more_from behind_comma Names n y r and_then λ xs. k (y ∷ xs))) < length c.one
        taken (the_name y is e) (the_name z _ e2) a b on =
            subst (λ z. length (left_by (z and_then λ y r. more_from behind_comma Names n y r and_then λ xs. k (y ∷ xs))) < length c.one) (sym (name_taken v y (front ++ c.one) is)) (on y (sym e ∙ a) (sym e2 ∙ b))
        taken (the_name y is e) (no_name other none) a b on = absurd (clash (ap says_name is) other)
        taken (no_name other none) s a b on = absurd (clash a none)

        go : SeesName u (v ∷ front ++ c.one) → SeesName u (v ∷ front ++ c.two) → Further n k front → length (left_by (more_from behind_comma Names (suc n) x (u ∷ v ∷ front ++ c.one) and_then k)) < length c.one
        go (a_comma _ is e) (a_comma _ _ e2) on = subst (λ z. length (left_by z) < length c.one) (sym (behind_a_comma n k x u (v ∷ front ++ c.one) is)) (taken (sees_first v (front ++ c.one)) (sees_first v (front ++ c.two)) (sym e ∙ one) (sym e2 ∙ two) on)
        go (a_comma k _ e) (a_colon k2 e2) on = absurd (clash k2 k)
        go (a_comma _ k e) (another _ k2 e2) on = absurd (clash k k2)
        go (a_colon is e) (a_colon is2 e2) on = absurd (clash e2 two)
        go (a_colon is e) (a_comma is2 _ e2) on = absurd (clash is is2)
        go (a_colon is e) (another is2 _ e2) on = absurd (clash is is2)
        go (another _ _ none) s on = absurd (clash one none)

  module _ (less : ℕ) (low low2 : Lower) (complete : AreComplete less low) (good : AreSteady c less low low2) where
    abbrev Conditions : Lower → ExprTree → Reader ExprTree
    Conditions lower last = lower.expr implications

    name_again : 1 ≤ less → (v w : Lexeme) (ws : List Lexeme) (x : Name) → v.saying ≡ a_name x → says_word (codes ",") w.saying ≡ true → low.expr implications (v ∷ w ∷ ws) ≡ took (named v.place x) (w ∷ ws)
    unfolding SpellsNode own_level rank place_of height
    name_again some v w ws x is comma =
        let ends : NoImplications (w ∷ ws) = subst (λ (s : Saying). NoImplications (record { place = w.place; saying = s } ∷ ws)) (sym (is_word-sound (codes ",") w.saying comma)) (comma_ends w.place ws) in
        complete.expr implications refl (named v.place x) (v ∷ []) (w ∷ ws) (refl, (refl, (v.place, ap (λ (s : Saying). record { place = v.place; saying = s } ∷ []) is))) some (record { ends = ends; open_ends = λ _. ends })

    first_named : 1 ≤ less → (t : Lexeme) (rest : List Lexeme) (x : Name) → t.saying ≡ a_name x → length (left_by (low.expr implications (t ∷ rest))) ≤ length rest
    first_named some t rest x is = subst (λ (s : Saying). length (left_by (low.expr implications (record { place = t.place; saying = s } ∷ rest))) ≤ length rest) (sym is) (good.named t.place x rest some)

    -- a comma comes where the look-ahead goes on
    comma_next : (front : List Lexeme) → colon_comes false (front ++ c.one) ≡ false → colon_comes false (front ++ c.two) ≡ true → (w : Lexeme) × (ws : List Lexeme) × (front ++ c.one ≡ w ∷ ws) × (says_word (codes ",") w.saying ≡ true)
    comma_next [] one two =
        let f = first_of_both false two in
        go f.0 f.1 f.2 f.3 (subst (λ z. colon_comes false z ≡ false) f.3 one) (subst (λ z. colon_comes false z ≡ true) f.4 two) (sees f.0 f.1) (sees f.0 f.2)
      where
        go : (t : Lexeme) (rest other : List Lexeme) → c.one ≡ t ∷ rest → colon_comes false (t ∷ rest) ≡ false → colon_comes false (t ∷ other) ≡ true → SeesName t rest → SeesName t other → (w : Lexeme) × (ws : List Lexeme) × (c.one ≡ w ∷ ws) × (says_word (codes ",") w.saying ≡ true)
        go t rest other is a b (a_comma _ k _) s = (t, rest, is, k)
        go t rest other is a b (a_colon _ e) s = absurd (clash e a)
        go t rest other is a b (another _ _ _) (another _ _ e) = absurd (clash b e)
        go t rest other is a b (another k _ _) (a_colon k2 _) = absurd (clash k2 k)
        go t rest other is a b (another _ k _) (a_comma _ k2 _) = absurd (clash k2 k)
    comma_next (w ∷ ws) one two = go (sees w (ws ++ c.one)) (sees w (ws ++ c.two))
      where
        go : SeesName w (ws ++ c.one) → SeesName w (ws ++ c.two) → (u : Lexeme) × (us : List Lexeme) × (w ∷ ws ++ c.one ≡ u ∷ us) × (says_word (codes ",") u.saying ≡ true)
        go (a_comma _ k _) s = (w, ws ++ c.one, refl, k)
        go (a_colon _ e) s = absurd (clash e one)
        go (another _ _ _) (another _ _ e) = absurd (clash two e)
        go (another k _ _) (a_colon k2 _) = absurd (clash k2 k)
        go (another _ k _) (a_comma _ k2 _) = absurd (clash k2 k)

    module _ {B : Type 0} where
      abbrev Alike : (List ExprTree → Reader B) → (List ExprTree → Reader B) → Type 0
      Alike k k2 = (xs : List ExprTree) (ls ls2 : List Lexeme) → Cuts c ls ls2 → Steady c (length ls) (k xs ls) (k2 xs ls2)

      more_conditions : (n : ℕ) (k k2 : List ExprTree → Reader B) → Alike k k2 → (x : ExprTree) (ls : List Lexeme) → length ls ≤ n → Past ls → length (left_by (more_from behind_comma (Conditions low) n x ls and_then k)) ≤ length ls
      more_conditions n k k2 alike x ls few p = let st = more_commas_steady c (Conditions low) (Conditions low2) (λ last. good.expr implications) k k2 alike n 0 x ls [] few (omega arith) (behind_cut p) in st.short

      abbrev Onwards : ℕ → (List ExprTree → Reader B) → ExprTree → Reader B
      Onwards n k y r = more_from behind_comma (Conditions low) n y r and_then λ xs. k (y ∷ xs)

      another_condition : (n : ℕ) (k : List ExprTree → Reader B) (x : ExprTree) (u : Lexeme) (ls : List Lexeme) → says_word (codes ",") u.saying ≡ true
          → (more_from behind_comma (Conditions low) (suc n) x (u ∷ ls) and_then k) ≡ (low.expr implications ls and_then Onwards n k)
      unfolding more_from
      another_condition n k x u ls e =
          ap (λ o. going_on o (u ∷ ls) (λ next. low.expr implications next and_then λ y r. more_from behind_comma (Conditions low) n y r and_then λ xs end. took (y ∷ xs) end) and_then k) (comma_goes x u ls true e)
          ∙ by_cases (low.expr implications ls)
        where
          by_cases : (r : Read ExprTree) → ((r and_then λ y r. more_from behind_comma (Conditions low) n y r and_then λ xs end. took (y ∷ xs) end) and_then k) ≡ (r and_then Onwards n k)
          by_cases (took y rest) = grouped (more_from behind_comma (Conditions low) n y rest) (λ xs end. took (y ∷ xs) end) k
          by_cases (wrong rest) = refl
          by_cases (high rest) = refl

      -- an expression that leaves little, and what is read behind it
      onwards_past : (n : ℕ) (k k2 : List ExprTree → Reader B) → Alike k k2 → (r : Read ExprTree) (m : ℕ) → length (left_by r) ≤ m → m ≤ n → m < length c.one → length (left_by (r and_then Onwards n k)) < length c.one
      onwards_past n k k2 alike (took y rest) m le few p =
          let more = more_conditions n (λ xs. k (y ∷ xs)) (λ xs. k2 (y ∷ xs)) (λ xs. alike (y ∷ xs)) y rest (omega (arith, le, few)) (omega (arith, le, p)) in omega (arith, more, le, p)
      onwards_past n k k2 alike (wrong rest) m le few p = omega (arith, le, p)
      onwards_past n k k2 alike (high rest) m le few p = omega (arith, le, p)

      abbrev Further2 : ℕ → (List ExprTree → Reader B) → List Lexeme → Type 0
      Further2 n k front = (y : ExprTree) → colon_comes false (front ++ c.one) ≡ false → colon_comes false (front ++ c.two) ≡ true → length (left_by (more_from behind_comma (Conditions low) n y (front ++ c.one) and_then λ xs. k (y ∷ xs))) < length c.one

      -- Conditions before a colon that only the second list has.
      conditions_to_colon : 1 ≤ less → (n : ℕ) (k k2 : List ExprTree → Reader B) → Alike k k2 → (x : ExprTree) (front : List Lexeme) → length (front ++ c.one) ≤ n
          → colon_comes false (front ++ c.one) ≡ false → colon_comes false (front ++ c.two) ≡ true → length (left_by (more_from behind_comma (Conditions low) n x (front ++ c.one) and_then k)) < length c.one
      conditions_to_colon some zero k k2 alike x front few one two =
          let w = comma_next front one two in
          let long : length (front ++ c.one) ≡ suc (length w.1) = ap length w.2 in
          absurd (omega (arith, few, long))
      conditions_to_colon some (suc n) k k2 alike x [] few one two =
          let w = comma_next [] one two in
          let long : length c.one ≡ suc (length w.1) = ap length w.2 in
          subst (λ z. length (left_by (more_from behind_comma (Conditions low) (suc n) x z and_then k)) < length c.one) (sym w.2)
          (subst (λ z. length (left_by z) < length c.one) (sym (another_condition n k x w.0 w.1 w.3))
          (let st = good.expr implications w.1 [] (behind_cut (omega (arith, long))) in onwards_past n k k2 alike (low.expr implications w.1) (length w.1) st.short (omega (arith, few, long)) (omega (arith, long))))
      conditions_to_colon some (suc n) k k2 alike x (u ∷ []) few one two =
          let w = comma_next (u ∷ []) one two in go (sees u c.one) (sees u c.two)
        where
          past_name : says_word (codes ",") u.saying ≡ true → colon_comes true c.two ≡ true → length (left_by (more_from behind_comma (Conditions low) (suc n) x (u ∷ c.one) and_then k)) < length c.one
          past_name is two_so =
              let f = first_of_both true two_so in
              let long : length c.one ≡ suc (length f.1) = ap length f.3 in
              subst (λ z. length (left_by z) < length c.one) (sym (another_condition n k x u c.one is))
              (subst (λ z. length (left_by (low.expr implications z and_then Onwards n k)) < length c.one) (sym f.3)
              (taken f.0 f.1 f.2 (omega (arith, long)) (omega (arith, few, long)) (subst (λ z. colon_comes true z ≡ true) f.4 two_so) (sees_first f.0 f.2)))
            where
              taken : (t : Lexeme) (rest other : List Lexeme) → length rest < length c.one → length rest ≤ n → colon_comes true (t ∷ other) ≡ true → SeesFirst t other → length (left_by (low.expr implications (t ∷ rest) and_then Onwards n k)) < length c.one
              taken t rest other p few e (the_name y is _) = onwards_past n k k2 alike (low.expr implications (t ∷ rest)) (length rest) (first_named some t rest y is) few p
              taken t rest other p few e (no_name _ none) = absurd (clash e none)

          go : SeesName u c.one → SeesName u c.two → length (left_by (more_from behind_comma (Conditions low) (suc n) x (u ∷ c.one) and_then k)) < length c.one
          go (a_colon _ e) s = absurd (clash e one)
          go s (another _ _ none) = absurd (clash two none)
          go s (a_comma _ is e) = past_name is (sym e ∙ two)
          go (a_comma is _ _) (a_colon is2 _) = absurd (clash is2 is)
          go (another is _ _) (a_colon is2 _) = absurd (clash is2 is)
      conditions_to_colon some (suc n) k k2 alike x (u ∷ v ∷ front) few one two =
          go (sees u (v ∷ front ++ c.one)) (sees u (v ∷ front ++ c.two)) (λ y e e2. conditions_to_colon some n (λ xs. k (y ∷ xs)) (λ xs. k2 (y ∷ xs)) (λ xs. alike (y ∷ xs)) y front (omega (arith, few)) e e2)
        where
          taken : SeesFirst v (front ++ c.one) → SeesFirst v (front ++ c.two) → colon_comes true (v ∷ front ++ c.one) ≡ false → colon_comes true (v ∷ front ++ c.two) ≡ true → Further2 n k front
              → length (left_by (low.expr implications (v ∷ front ++ c.one) and_then Onwards n k)) < length c.one
          taken (the_name y is e) (the_name z _ e2) a b on =
              let w = comma_next front (sym e ∙ a) (sym e2 ∙ b) in
              let again : low.expr implications (v ∷ front ++ c.one) ≡ took (named v.place y) (front ++ c.one) =
              subst (λ z. low.expr implications (v ∷ z) ≡ took (named v.place y) z) (sym w.2) (name_again some v w.0 w.1 y is w.3) in
              subst (λ z. length (left_by (z and_then Onwards n k)) < length c.one) (sym again) (on (named v.place y) (sym e ∙ a) (sym e2 ∙ b))
          taken (the_name y is e) (no_name other none) a b on = absurd (clash b none)
          taken (no_name other none) (the_name y is e) a b on = absurd (clash (ap says_name is) other)
          taken (no_name other none) (no_name other2 none2) a b on = absurd (clash b none2)

          go : SeesName u (v ∷ front ++ c.one) → SeesName u (v ∷ front ++ c.two) → Further2 n k front → length (left_by (more_from behind_comma (Conditions low) (suc n) x (u ∷ v ∷ front ++ c.one) and_then k)) < length c.one
          go (a_colon _ e) s on = absurd (clash e one)
          go (a_comma _ is e) (a_comma _ _ e2) on = subst (λ z. length (left_by z) < length c.one) (sym (another_condition n k x u (v ∷ front ++ c.one) is)) (taken (sees_first v (front ++ c.one)) (sees_first v (front ++ c.two)) (sym e ∙ one) (sym e2 ∙ two) on)
          go (a_comma is _ _) (a_colon is2 _) on = absurd (clash is2 is)
          go (a_comma _ is _) (another _ is2 _) on = absurd (clash is is2)
          go (another _ is _) (a_comma _ is2 _) on = absurd (clash is2 is)
          go (another is _ _) (a_colon is2 _) on = absurd (clash is2 is)
          go (another _ _ _) (another _ _ none) on = absurd (clash two none)

    generator_by_name : (x : Name) (t : Lexeme) (r : List Lexeme) → t.saying ≡ a_name x
        → generator_from low (t ∷ r) ≡ (more_from behind_comma Names (length r) x r and_then λ xs rest. word_from (codes ":") rest and_then λ _ next. low.domain set_operations next and_then λ d end. took (x ∷ xs, d) end)
    unfolding generator_from names_from
    generator_by_name x t r is =
        ap (λ z. (z and_then λ y rest. others_from behind_comma (λ last. name_from) y rest and_then λ xs end. took (y ∷ xs) end) and_then λ names rest. word_from (codes ":") rest and_then λ _ next. low.domain set_operations next and_then λ d end. took (names, d) end) (name_taken t x r is)
        ∙ grouped (more_from behind_comma Names (length r) x r) (λ xs end. took (x ∷ xs) end) (λ names rest. word_from (codes ":") rest and_then λ _ next. low.domain set_operations next and_then λ d end. took (names, d) end)

    -- ---- generators

    ended_so : {A : Type 0} (r : Read A) → r ≡ (r and_then λ x rest. took x rest)
    ended_so (took x rest) = refl
    ended_so (wrong rest) = refl
    ended_so (high rest) = refl

    conditions_steady : (ls ls2 : List Lexeme) → Cuts c ls ls2 → Steady c (length ls) (conditions_from low ls) (conditions_from low2 ls2)
    unfolding conditions_from
    conditions_steady ls ls2 s =
        subst (λ z. Steady c (length ls) z (conditions_from low2 ls2)) (sym (ended_so (conditions_from low ls)))
        (subst (λ z. Steady c (length ls) (conditions_from low ls and_then λ x rest. took x rest) z) (sym (ended_so (conditions_from low2 ls2)))
        (commas_steady c (Conditions low) (Conditions low2) (λ last. good.expr implications) (λ x rest. took x rest) (λ x rest. took x rest) (λ xs. took_steady c xs) (truth (record { line = 0; column = 0 }) true) ls ls2 s))

    -- conditions are read as far as behind the cut
    abbrev ConditionsPast : List Lexeme → Type 0
    ConditionsPast ls = length (left_by (conditions_from low ls)) < length c.one

    comma_sees : (u : Lexeme) (rest : List Lexeme) → says_word (codes ",") u.saying ≡ true → colon_comes false (u ∷ rest) ≡ colon_comes true rest
    comma_sees u rest is = go (sees u rest)
      where
        go : SeesName u rest → colon_comes false (u ∷ rest) ≡ colon_comes true rest
        go (a_comma _ _ e) = e
        go (a_colon k _) = absurd (clash is (no_comma u k))
        go (another _ k _) = absurd (clash is k)

    conditions_past : 1 ≤ less → (u : Lexeme) (rest rest2 : List Lexeme) → says_word (codes ",") u.saying ≡ true → Cuts c rest rest2 → colon_comes true rest ≡ false → colon_comes true rest2 ≡ true → ConditionsPast (u ∷ rest)
    unfolding conditions_from
    conditions_past some u rest rest2 is (behind_cut p) a b =
        let first = truth (record { line = 0; column = 0 }) true in
        let ends : List ExprTree → Reader (List ExprTree) = λ x rest. took x rest in
        subst (λ z. length (left_by z) < length c.one) (sym (ended_so (conditions_from low (u ∷ rest))))
        (subst (λ z. length (left_by z) < length c.one) (sym (another_condition (length rest) ends first u rest is))
        (let st = good.expr implications rest [] (behind_cut p) in onwards_past (length rest) ends ends (λ xs. took_steady c xs) (low.expr implications rest) (length rest) st.short (omega arith) p))
    conditions_past some u rest rest2 is (before_cut front e e2) a b =
        let first = truth (record { line = 0; column = 0 }) true in
        let ends : List ExprTree → Reader (List ExprTree) = λ x rest. took x rest in
        subst (λ z. length (left_by (conditions_from low (u ∷ z))) < length c.one) (sym e)
        (subst (λ z. length (left_by z) < length c.one) (sym (ended_so (conditions_from low (u ∷ front ++ c.one))))
        (conditions_to_colon some (length (u ∷ front ++ c.one)) ends ends (λ xs. took_steady c xs) first (u ∷ front) (omega arith)
        (comma_sees u (front ++ c.one) is ∙ subst (λ z. colon_comes true z ≡ false) e a) (comma_sees u (front ++ c.two) is ∙ subst (λ z. colon_comes true z ≡ true) e2 b)))

    -- what stands behind the names of a generator
    abbrev BehindNames : Lower → List Name → Reader Generator
    BehindNames lower names rest = word_from (codes ":") rest and_then λ _ next. lower.domain set_operations next and_then λ d end. took (names, d) end

    behind_names_steady : (names : List Name) (ls ls2 : List Lexeme) → Cuts c ls ls2 → Steady c (length ls) (BehindNames low names ls) (BehindNames low2 names ls2)
    behind_names_steady names ls ls2 s =
        steady_then c (length ls) (word_from (codes ":") ls) (word_from (codes ":") ls2) _ _ (word_steady c (codes ":") ls ls2 s)
        (λ q b b2 le t. domain_made_steady c less low low2 good set_operations (λ d. (names, d)) b b2 t)

    behind_colon : (names : List Name) (l : Lexeme) (ls : List Lexeme) → says_word (codes ":") l.saying ≡ true → Past ls → length (left_by (BehindNames low names (l ∷ ls))) ≤ length ls
    unfolding word_from
    behind_colon names l ls is p =
        subst (λ z. length (left_by {A = Generator} (either_reader z (λ all. took l.place ls) (λ all. wrong all) (l ∷ ls) and_then λ _ next. low.domain set_operations next and_then λ d end. took (names, d) end)) ≤ length ls) (sym is)
        (let st = domain_made_steady c less low low2 good set_operations (λ d. (names, d)) ls [] (behind_cut p) in st.short)

    generators_past : (rest rest2 : List Lexeme) → Cuts c rest rest2 → colon_comes true rest ≡ true → colon_comes true rest2 ≡ false → length (left_by (generator_from low rest)) < length c.one
    generators_past rest rest2 (behind_cut p) a b = let st = generator_steady c less low low2 good rest [] (behind_cut p) in omega (arith, st.short, p)
    generators_past rest rest2 (before_cut front e e2) a b =
        subst (λ z. length (left_by (generator_from low z)) < length c.one) (sym e) (go front (subst (λ z. colon_comes true z ≡ true) e a) (subst (λ z. colon_comes true z ≡ false) e2 b))
      where
        named_generator : (x : Name) (t : Lexeme) (r : List Lexeme) → t.saying ≡ a_name x → generator_from low (t ∷ r) ≡ (more_from behind_comma Names (length r) x r and_then λ xs. BehindNames low (x ∷ xs))
        named_generator x t r is = generator_by_name x t r is

        go : (front : List Lexeme) → colon_comes true (front ++ c.one) ≡ true → colon_comes true (front ++ c.two) ≡ false → length (left_by (generator_from low (front ++ c.one))) < length c.one
        go [] one two =
            let f = first_behind true one in
            let long : length c.one ≡ suc (length f.1) = ap length f.2 in
            subst (λ z. length (left_by (generator_from low z)) < length c.one) (sym f.2) (first f.0 f.1 (omega (arith, long)) (subst (λ z. colon_comes true z ≡ true) f.2 one) (sees_first f.0 f.1))
          where
            first : (t : Lexeme) (r : List Lexeme) → length r < length c.one → colon_comes true (t ∷ r) ≡ true → SeesFirst t r → length (left_by (generator_from low (t ∷ r))) < length c.one
            first t r p one (no_name _ none) = absurd (clash one none)
            first t r p one (the_name x is _) =
                subst (λ z. length (left_by z) < length c.one) (sym (named_generator x t r is))
                (let le = more_names (length r) (λ xs. BehindNames low (x ∷ xs)) (λ xs. BehindNames low2 (x ∷ xs)) (λ xs. behind_names_steady (x ∷ xs)) x r (omega arith) p in omega (arith, le, p))
        go (v ∷ f) one two = next (sees_first v (f ++ c.one)) (sees_first v (f ++ c.two))
          where
            next : SeesFirst v (f ++ c.one) → SeesFirst v (f ++ c.two) → length (left_by (generator_from low (v ∷ f ++ c.one))) < length c.one
            next (no_name _ none) s = absurd (clash one none)
            next (the_name x is _) (no_name other _) = absurd (clash (ap says_name is) other)
            next (the_name x is k) (the_name y _ k2) =
                subst (λ z. length (left_by z) < length c.one) (sym (named_generator x v (f ++ c.one) is))
                (names_to_colon (length (f ++ c.one)) (λ xs. BehindNames low (x ∷ xs)) (λ xs. BehindNames low2 (x ∷ xs)) (λ xs. behind_names_steady (x ∷ xs)) (λ xs. behind_colon (x ∷ xs)) x f (omega arith) (sym k ∙ one) (sym k2 ∙ two))

    generator_turn : 1 ≤ less → (last : Generator) (ls ls2 : List Lexeme) → Cuts c ls ls2 → Turns c another_generator (λ last. generator_from low) (λ last. generator_from low2) ConditionsPast last ls ls2
    unfolding another_generator says
    generator_turn some last ls ls2 s = go (look c ls ls2 s)
      where
        decided_by : (l : Lexeme) (rest : List Lexeme) (a b : Bool) → says_word (codes ",") l.saying ≡ a → colon_comes true rest ≡ b → another_generator last (l ∷ rest) ≡ kept (a && b) rest
        decided_by l rest a b e k = ap (λ z. kept (z && colon_comes true rest) rest) e ∙ ap (λ z. kept (a && z) rest) k

        few_conditions : (z : List Lexeme) → Past z → ConditionsPast z
        few_conditions z p = let st = conditions_steady z [] (behind_cut p) in omega (arith, st.short, p)

        behind_it : (z z2 : List Lexeme) → Past z → Turns c another_generator (λ last. generator_from low) (λ last. generator_from low2) ConditionsPast last z z2
        behind_it [] z2 p = ends_alone refl (few_conditions [] p)
        behind_it (l ∷ rest) z2 p = by (says_word (codes ",") l.saying) (colon_comes true rest) refl refl
          where
            by : (a b : Bool) → says_word (codes ",") l.saying ≡ a → colon_comes true rest ≡ b → Turns c another_generator (λ last. generator_from low) (λ last. generator_from low2) ConditionsPast last (l ∷ rest) z2
            by true true e k = let st = generator_steady c less low low2 good rest [] (behind_cut (omega (arith, p))) in goes_alone rest (decided_by l rest true true e k) (omega (arith, st.short, p)) (omega (arith, st.short))
            by true false e k = ends_alone (decided_by l rest true false e k) (few_conditions (l ∷ rest) p)
            by false b e k = ends_alone (decided_by l rest false b e k) (few_conditions (l ∷ rest) p)

        at_its_end : (z : List Lexeme) → z ≡ c.one → Turns c another_generator (λ last. generator_from low) (λ last. generator_from low2) ConditionsPast last z []
        at_its_end [] e = both_end refl refl
        at_its_end (l ∷ rest) e = let long : suc (length rest) ≡ length c.one = ap length e in by long (says_word (codes ",") l.saying) (colon_comes true rest) refl refl
          where
            by : suc (length rest) ≡ length c.one → (a b : Bool) → says_word (codes ",") l.saying ≡ a → colon_comes true rest ≡ b → Turns c another_generator (λ last. generator_from low) (λ last. generator_from low2) ConditionsPast last (l ∷ rest) []
            by long true true e k = let st = generator_steady c less low low2 good rest [] (behind_cut (omega (arith, long))) in goes_alone rest (decided_by l rest true true e k) (omega (arith, st.short, long)) (omega (arith, st.short))
            by long true false e k = both_end (decided_by l rest true false e k) refl
            by long false b e k = both_end (decided_by l rest false b e k) refl

        before_it : (l : Lexeme) (rest rest2 : List Lexeme) → Cuts c rest rest2 → (a b b2 : Bool) → says_word (codes ",") l.saying ≡ a → colon_comes true rest ≡ b → colon_comes true rest2 ≡ b2
            → Turns c another_generator (λ last. generator_from low) (λ last. generator_from low2) ConditionsPast last (l ∷ rest) (l ∷ rest2)
        before_it l rest rest2 t false b b2 e k k2 = both_end (decided_by l rest false b e k) (decided_by l rest2 false b2 e k2)
        before_it l rest rest2 t true true true e k k2 = both_go (length rest) rest rest2 (decided_by l rest true true e k) (decided_by l rest2 true true e k2) refl (generator_steady c less low low2 good rest rest2 t)
        before_it l rest rest2 t true false false e k k2 = both_end (decided_by l rest true false e k) (decided_by l rest2 true false e k2)
        before_it l rest rest2 t true true false e k k2 =
            let st = generator_steady c less low low2 good rest rest2 t in goes_alone rest (decided_by l rest true true e k) (generators_past rest rest2 t k k2) (omega (arith, st.short))
        before_it l rest rest2 t true false true e k k2 = ends_alone (decided_by l rest true false e k) (conditions_past some l rest rest2 e t k k2)

        go : Look c ls ls2 → Turns c another_generator (λ last. generator_from low) (λ last. generator_from low2) ConditionsPast last ls ls2
        go (gone p) = behind_it ls ls2 p
        go (head l rest rest2 e e2 t) =
            subst (λ z. Turns c another_generator (λ last. generator_from low) (λ last. generator_from low2) ConditionsPast last z ls2) (sym e)
            (subst (λ z. Turns c another_generator (λ last. generator_from low) (λ last. generator_from low2) ConditionsPast last (l ∷ rest) z) (sym e2)
            (before_it l rest rest2 t (says_word (codes ",") l.saying) (colon_comes true rest) (colon_comes true rest2) refl refl refl))
        go (at_end inexact e e2) = subst (λ z. Turns c another_generator (λ last. generator_from low) (λ last. generator_from low2) ConditionsPast last ls z) (sym e2) (at_its_end ls e)

    -- generators, conditions and what is read behind them
    pub generators_steady : {B : Type 0} → 1 ≤ less → (k k2 : List Generator → List ExprTree → Reader B)
        → ((gens : List Generator) (conditions : List ExprTree) (ls ls2 : List Lexeme) → Cuts c ls ls2 → Steady c (length ls) (k gens conditions ls) (k2 gens conditions ls2))
        → (g : Generator) (ls ls2 : List Lexeme) → Cuts c ls ls2
        → Steady c (length ls) (others_from another_generator (λ last. generator_from low) g ls and_then λ gens next. conditions_from low next and_then k gens)
        (others_from another_generator (λ last. generator_from low2) g ls2 and_then λ gens next. conditions_from low2 next and_then k2 gens)
    unfolding another_generator says
    generators_steady {B} some k k2 after g ls ls2 s =
        others_steady c B another_generator (λ last. generator_from low) (λ last. generator_from low2) ConditionsPast (λ x. refl) (generator_turn some)
        (λ gens next. conditions_from low next and_then k gens) (λ gens next. conditions_from low2 next and_then k2 gens)
        (λ gens z z2 u. steady_then c (length z) (conditions_from low z) (conditions_from low2 z2) (k gens) (k2 gens) (conditions_steady z z2 u) (λ conditions r r2 le t. after gens conditions r r2 t))
        (λ gens z p. ends_past gens z p) g ls ls2 s
      where
        ends_past : (gens : List Generator) (z : List Lexeme) → ConditionsPast z → length (left_by (conditions_from low z and_then k gens)) < length c.one
        ends_past gens z p =
            let st = steady_then c (length (left_by (conditions_from low z))) (conditions_from low z) (wrong []) (k gens) (k2 gens) (record { short = omega arith; stops = behind_too p }) (λ conditions r r2 le t. after gens conditions r r2 t) in
            omega (arith, st.short, p)
