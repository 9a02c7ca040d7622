-- The readers of operands refuse a token where those before it can be completed.
use Rattle.std.specs.Prelude.{◌≡◌, ℕ, ◌≤◌, Bool, true, false, List, [], ◌∷◌, ◌++◌, Option, Some, None, codes, refl}
use Rattle.std.proofs.Common.{ap, append-nil, arith, inl, inr, sym, subst, ◌∙◌}
use Rattle.ep_base.specs.declared.places.Place.{Place}
use Rattle.ep_tree.specs.Phrases.{Is, Lexeme, Saying, StartsAt, a_name, a_number, a_word}
use Rattle.ep_tree.specs.Spelling.{SpellsNode, binary_level, binary_word, domain_rank, fold_word, implications, is_called, own_level, quantifier_word, rank, set_operations, truth_word, unaries}
use Rattle.ep_tree.specs.Trees.{ExprTree, absolute, folded, group, literal, minus, named, negation, no_trees, number, place_of, quantified, truth}
use Rattle.ep_tree.specs.Heights.{height}
use Rattle.ep_tree.specs.declared.syntax.BinaryOp.{BinaryOp}
use Rattle.ep_tree.specs.declared.syntax.FoldOp.{FoldOp}
use Rattle.ep_tree.specs.declared.syntax.QuantOp.{QuantOp}
use Rattle.ep_parse_parts.specs.OperandReaders.{Lower, Opening, ThreeParts, a_bar, a_bracket, a_greatest, a_group, a_least, a_minus, a_negation, a_quantifier, a_sum, a_table, a_truth, and_part, folded_by, begun_from, bracket_from, call_from, call_of_three_from, call_of_two_from, closed_by, comprehension_from, expression_next, if_low, is_there, literal_from, of_one, of_three, one_part, open_from, opened_from, openings, operand_from, opens, quantifier_from, sum_from, table_from}
use Rattle.ep_parse_parts.specs.Readers.{Read, behind, looked_up, says, took, ◌and_then◌}
use Rattle.ep_parse_parts.proofs.AgainOperands.{some_expr}
use Rattle.ep_parse_expr.proofs.Completing.{ADomain, AnExpr, Filled, Opens, Refuses, Shape, Word, domain_filled, expr_filled, next_then, refuses_as, refuses_behind, refuses_chosen, refuses_low, refuses_made, refuses_took, refuses_wrong, then_filled, word_filled, word_then, ◌then◌}
use Rattle.ep_parse_expr.proofs.CompletingOperands.{BehindFirst, Bracketed, Enclosed, Has, ListEnd, OfComprehension, OfList, OneCall, OneOrTwo, OneOrTwoCall, Operand, Quantified, SumOf, ThreeCall, TwoCall, TwoMore, bar_node, behind_first_filled, bracket_node, bracketed_filled, domain_has, expr_has, group_node, list_end_has, minus_node, negation_node, one_call_node, one_or_two_node, quantifier_node, table_node, then_has, three_call_node, word_has}
use Rattle.ep_parse_expr.proofs.CompletingParts.{AGenerator, AnIndexDomain, AreOpen, MoreExprs, MoreGenerators, SomeNames, closed_refuses, conditions_then, domain_then, expr_then, exprs_filled, exprs_then, index_domain_filled, generator_then, generators_then, list_end_refuses, names_filled, names_then, no_generator, token_opens}
use Rattle.ep_parse_parts.proofs.Holding.{looked_up-sound, says_sound, takes_token}
use Rattle.ep_parse_parts.proofs.SoundOpened.{are_openings, opening_word}
use Rattle.ep_parse_parts.proofs.SoundParts.{AreSound}

-- ---- what a word opens, as a phrase behind it

abbrev Opened : ℕ → Opening → Shape
Opened less (a_truth v) b front = front ≡ []
Opened less a_bracket b front = Bracketed less b front
Opened less a_group b front = Enclosed less (codes ")") b front
Opened less a_bar b front = Enclosed less (codes "|") b front
Opened less a_negation b front = AnExpr unaries less b front
Opened less a_minus b front = AnExpr unaries less b front
Opened less (a_quantifier op) b front = Quantified less b front
Opened less a_sum b front = SumOf less b front
Opened less (of_one what) b front = OneCall less b front
Opened less a_least b front = OneOrTwoCall less b front
Opened less a_greatest b front = OneOrTwoCall less b front
Opened less a_table b front = TwoCall less b front
Opened less (of_three what) b front = ThreeCall less b front

truth_node : (less : ℕ) (v b : Bool) (front : List Lexeme) → (Word (codes (truth_word v)) then Opened less (a_truth v)) b front → Operand less b front
unfolding SpellsNode own_level rank place_of height
truth_node less v b front h =
    let alone : front ≡ h.0 = h.2 ∙ ap (λ z. h.0 ++ z) h.4 ∙ append-nil h.0 in
    (truth h.3.0 v, (λ _. omega arith), (refl, (subst (λ z. StartsAt h.3.0 z) (sym (alone ∙ h.3.1)) refl, (h.3.0, alone ∙ h.3.1))))

sum_node : (less : ℕ) (b : Bool) (front : List Lexeme) → (Word (codes "sum") then SumOf less) b front → Operand less b front
unfolding fold_word quantifier_word
sum_node less b front h = go h.4
  where
    go : SumOf less b h.1 → Operand less b front
    go (inl k) = one_call_node less (folded_by FoldOp.Sum) b front (h.0, h.1, h.2, h.3, k)
    go (inr k) = quantifier_node less QuantOp.Sum b front (h.0, h.1, h.2, h.3, k)

opened_is : (less : ℕ) (what : Opening) (b : Bool) (front : List Lexeme) → (Word (opening_word what) then Opened less what) b front → Operand less b front
unfolding fold_word binary_word is_called binary_level
opened_is less (a_truth v) b front h = truth_node less v b front h
opened_is less a_bracket b front h = bracket_node less b front h
opened_is less a_group b front h = group_node less b front h
opened_is less a_bar b front h = bar_node less b front h
opened_is less a_negation b front h = negation_node less b front h
opened_is less a_minus b front h = minus_node less b front h
opened_is less (a_quantifier op) b front h = quantifier_node less op b front h
opened_is less a_sum b front h = sum_node less b front h
opened_is less (of_one what) b front h = one_call_node less what b front h
opened_is less a_least b front h = one_or_two_node less FoldOp.Min BinaryOp.Min (codes "min") refl refl refl refl b front h
opened_is less a_greatest b front h = one_or_two_node less FoldOp.Max BinaryOp.Max (codes "max") refl refl refl refl b front h
opened_is less a_table b front h = table_node less b front h
opened_is less (of_three what) b front h = three_call_node less what b front h

-- there is such a phrase
opened_has : (less : ℕ) (what : Opening) (b : Bool) → (b ≡ true → 1 ≤ less) → Has (Opened less what) b
unfolding rank domain_rank
opened_has less what b some = go what
  where
    e : Has (AnExpr implications less) b
    e = expr_has implications less b refl some

    closed : (w : List ℕ) → Has (Enclosed less w) b
    closed w = then_has (AnExpr implications less) (Word w) b e (word_has w b)

    call : Has (OneCall less) b
    call = then_has (Word (codes "(")) (Enclosed less (codes ")")) b (word_has (codes "(") b) (closed (codes ")"))

    second : Has (TwoMore less) b
    second = then_has (Word (codes ",")) (Enclosed less (codes ")")) b (word_has (codes ",") b) (closed (codes ")"))

    two : Has (TwoCall less) b
    two = then_has (Word (codes "(")) (AnExpr implications less then TwoMore less) b (word_has (codes "(") b) (then_has (AnExpr implications less) (TwoMore less) b e second)

    go : (what : Opening) → Has (Opened less what) b
    go (a_truth v) = ([], refl)
    go a_bracket = let x = list_end_has less b in (x.0, inl x.1)
    go a_group = closed (codes ")")
    go a_bar = closed (codes "|")
    go a_negation = expr_has unaries less b refl some
    go a_minus = expr_has unaries less b refl some
    go (a_quantifier op) =
        let n = names_filled.some b in
        then_has SomeNames (Word (codes ":") then ADomain set_operations less then Word (codes ".") then AnExpr implications less) b n
        (then_has (Word (codes ":")) (ADomain set_operations less then Word (codes ".") then AnExpr implications less) b (word_has (codes ":") b)
        (then_has (ADomain set_operations less) (Word (codes ".") then AnExpr implications less) b (domain_has set_operations less b refl some) (then_has (Word (codes ".")) (AnExpr implications less) b (word_has (codes ".") b) e)))
    go a_sum = (call.0, inl call.1)
    go (of_one what) = call
    go a_least = let w = word_has (codes ")") b in then_has (Word (codes "(")) (AnExpr implications less then OneOrTwo less) b (word_has (codes "(") b) (then_has (AnExpr implications less) (OneOrTwo less) b e (w.0, inl w.1))
    go a_greatest = let w = word_has (codes ")") b in then_has (Word (codes "(")) (AnExpr implications less then OneOrTwo less) b (word_has (codes "(") b) (then_has (AnExpr implications less) (OneOrTwo less) b e (w.0, inl w.1))
    go a_table = two
    go (of_three what) =
        then_has (Word (codes "(")) (AnExpr implications less then Word (codes ",") then AnExpr implications less then TwoMore less) b (word_has (codes "(") b)
        (then_has (AnExpr implications less) (Word (codes ",") then AnExpr implications less then TwoMore less) b e (then_has (Word (codes ",")) (AnExpr implications less then TwoMore less) b (word_has (codes ",") b) (then_has (AnExpr implications less) (TwoMore less) b e second)))

module _ (less : ℕ) (low : Lower) (sound : AreSound less low) (good : AreOpen less low) where
  -- ---- square brackets, for any height

  some_less : (e : ExprTree) (ls rest : List Lexeme) → low.expr implications ls ≡ took e rest → 1 ≤ less
  unfolding rank
  some_less e ls rest is = let h = (sound.expr implications refl ls).holds e rest is in omega (arith, some_expr e, h.low)

  comprehension_refuses : 1 ≤ less → (t : Bool) → (t ≡ true → 1 ≤ less) → (p : Place) (e : ExprTree) (ls : List Lexeme) → Refuses (OfComprehension less) ls (comprehension_from t low p e ls)
  unfolding comprehension_from
  comprehension_refuses some t enough p e ls =
      let ending = then_filled (AnIndexDomain less) (Word (codes "]")) (index_domain_filled less) (word_filled (codes "]")) in
      let conditions = then_filled (MoreExprs less) (ListEnd less) (exprs_filled less) ending in
      let generators = then_filled (MoreGenerators less) (MoreExprs less then ListEnd less) (record { some = λ b. ([], no_generator less b) }) conditions in
      generator_then less low sound good some (MoreGenerators less then MoreExprs less then ListEnd less) ls _ generators
      (λ g rest. generators_then less low sound good some (MoreExprs less then ListEnd less) _ conditions
      (λ gens z. conditions_then less low sound good some (ListEnd less) z _ ending
      (λ es end. list_end_refuses less low sound good t enough _ end)) g rest)

  literal_refuses : 1 ≤ less → (t : Bool) → (t ≡ true → 1 ≤ less) → (p : Place) (e : ExprTree) (ls : List Lexeme) → Refuses (OfList less) ls (literal_from t low p e ls)
  unfolding literal_from
  literal_refuses some t enough p e ls =
      exprs_then less low sound good some (ListEnd less) _ (then_filled (AnIndexDomain less) (Word (codes "]")) (index_domain_filled less) (word_filled (codes "]"))) (λ es end. list_end_refuses less low sound good t enough _ end) e ls

  comprehension_filled : 1 ≤ less → Filled (OfComprehension less)
  unfolding domain_rank
  comprehension_filled some =
      let ending = then_filled (AnIndexDomain less) (Word (codes "]")) (index_domain_filled less) (word_filled (codes "]")) in
      let conditions = then_filled (MoreExprs less) (ListEnd less) (exprs_filled less) ending in
      let generators = then_filled (MoreGenerators less) (MoreExprs less then ListEnd less) (record { some = λ b. ([], no_generator less b) }) conditions in
      let over_it = then_filled (Word (codes ":")) (ADomain set_operations less) (word_filled (codes ":")) (domain_filled set_operations less refl some) in
      then_filled (AGenerator less) (MoreGenerators less then MoreExprs less then ListEnd less) (then_filled SomeNames (Word (codes ":") then ADomain set_operations less) names_filled over_it) generators

  bracket_refuses : (t : Bool) → (t ≡ true → 1 ≤ less) → (p : Place) (ls : List Lexeme) → Refuses (Bracketed less) ls (bracket_from t low p ls)
  unfolding bracket_from
  bracket_refuses t enough p ls =
      refuses_chosen (Bracketed less) (expression_next ls) _ _ ls
      (λ _. refuses_as (AnExpr implications less then BehindFirst less) (Bracketed less) ls _ (λ b front h. inr h)
      (expr_then less low sound good (BehindFirst less) ls _ (behind_first_filled less)
      (λ e rest is. let some = some_less e ls rest is in
      refuses_chosen (BehindFirst less) (says (codes "|") rest) _ _ rest
      (λ bar. next_then (codes "|") (OfComprehension less) (BehindFirst less) rest _ (says_sound (codes "|") rest bar) (comprehension_filled some) (λ b front h. inr h) (comprehension_refuses some t enough p e (behind rest)))
      (λ _. refuses_as (OfList less) (BehindFirst less) rest _ (λ b front h. inl h) (literal_refuses some t enough p e rest)))))
      (λ _. refuses_as (ListEnd less) (Bracketed less) ls _ (λ b front h. inl h) (list_end_refuses less low sound good t enough (literal p no_trees) ls))

  module _ (some : 1 ≤ less) where
    filled : (what : Opening) → Filled (Opened less what)
    filled what = record { some = λ b. opened_has less what b (λ _. some) }

    expr_there : Filled (AnExpr implications less)
    unfolding rank
    expr_there = expr_filled implications less refl some

    enclosed_filled : (w : List ℕ) → Filled (Enclosed less w)
    enclosed_filled w = then_filled (AnExpr implications less) (Word w) expr_there (word_filled w)

    enclosed_refuses : (w : List ℕ) (make : ExprTree → ExprTree) (ls : List Lexeme) → Refuses (Enclosed less w) ls (low.expr implications ls and_then λ e. closed_by w (make e))
    enclosed_refuses w make ls = expr_then less low sound good (Word w) ls _ (word_filled w) (λ e rest _. closed_refuses w (make e) rest)

    pub call_refuses : (make : ExprTree → ExprTree) (ls : List Lexeme) → Refuses (OneCall less) ls (call_from low make ls)
    unfolding call_from
    call_refuses make ls = word_then (codes "(") (Enclosed less (codes ")")) ls _ (enclosed_filled (codes ")")) (λ p rest. enclosed_refuses (codes ")") make rest)

    second_refuses : (make : ExprTree → ExprTree) (ls : List Lexeme) → Refuses (TwoMore less) ls (and_part low (λ b. closed_by (codes ")") (make b)) ls)
    second_refuses make ls = word_then (codes ",") (Enclosed less (codes ")")) ls _ (enclosed_filled (codes ")")) (λ p rest. enclosed_refuses (codes ")") make rest)

    second_filled : Filled (TwoMore less)
    second_filled = then_filled (Word (codes ",")) (Enclosed less (codes ")")) (word_filled (codes ",")) (enclosed_filled (codes ")"))

    one_or_two_filled : Filled (OneOrTwo less)
    one_or_two_filled = record { some = λ b. let w = word_has (codes ")") b in (w.0, inl w.1) }

    call_of_two_refuses : (one : FoldOp) (two : BinaryOp) (p : Place) (ls : List Lexeme) → Refuses (OneOrTwoCall less) ls (call_of_two_from low one two p ls)
    unfolding call_of_two_from
    call_of_two_refuses one two p ls =
        word_then (codes "(") (AnExpr implications less then OneOrTwo less) ls _ (then_filled (AnExpr implications less) (OneOrTwo less) expr_there one_or_two_filled)
        (λ q rest. expr_then less low sound good (OneOrTwo less) rest _ one_or_two_filled
        (λ a z _. refuses_chosen (OneOrTwo less) (says (codes ",") z) _ _ z
        (λ _. refuses_as (TwoMore less) (OneOrTwo less) z _ (λ b front h. inr h) (second_refuses _ z)) (λ _. refuses_as (Word (codes ")")) (OneOrTwo less) z _ (λ b front h. inl h) (closed_refuses (codes ")") (folded p one a) z))))

    table_refuses : (p : Place) (ls : List Lexeme) → Refuses (TwoCall less) ls (table_from low p ls)
    unfolding table_from
    table_refuses p ls =
        word_then (codes "(") (AnExpr implications less then TwoMore less) ls _ (then_filled (AnExpr implications less) (TwoMore less) expr_there second_filled)
        (λ q rest. expr_then less low sound good (TwoMore less) rest _ second_filled (λ a z _. second_refuses _ z))

    three_refuses : (what : ThreeParts) (p : Place) (ls : List Lexeme) → Refuses (ThreeCall less) ls (call_of_three_from low what p ls)
    unfolding call_of_three_from
    three_refuses what p ls =
        let two = then_filled (AnExpr implications less) (TwoMore less) expr_there second_filled in
        let next = then_filled (Word (codes ",")) (AnExpr implications less then TwoMore less) (word_filled (codes ",")) two in
        word_then (codes "(") (AnExpr implications less then Word (codes ",") then AnExpr implications less then TwoMore less) ls _ (then_filled (AnExpr implications less) (Word (codes ",") then AnExpr implications less then TwoMore less) expr_there next)
        (λ q rest. expr_then less low sound good (Word (codes ",") then AnExpr implications less then TwoMore less) rest _ next
        (λ a z _. word_then (codes ",") (AnExpr implications less then TwoMore less) z _ two
        (λ q y. expr_then less low sound good (TwoMore less) y _ second_filled (λ b x _. second_refuses _ x))))

    quantifier_refuses : (op : QuantOp) (p : Place) (ls : List Lexeme) → Refuses (Quantified less) ls (quantifier_from low op p ls)
    unfolding quantifier_from domain_rank rank
    quantifier_refuses op p ls =
        let body = then_filled (Word (codes ".")) (AnExpr implications less) (word_filled (codes ".")) expr_there in
        let over_it = then_filled (ADomain set_operations less) (Word (codes ".") then AnExpr implications less) (domain_filled set_operations less refl some) body in
        names_then (Word (codes ":") then ADomain set_operations less then Word (codes ".") then AnExpr implications less) ls _ (then_filled (Word (codes ":")) (ADomain set_operations less then Word (codes ".") then AnExpr implications less) (word_filled (codes ":")) over_it)
        (λ xs rest. word_then (codes ":") (ADomain set_operations less then Word (codes ".") then AnExpr implications less) rest _ over_it
        (λ q z. domain_then less low sound good (Word (codes ".") then AnExpr implications less) z _ body
        (λ d y. word_then (codes ".") (AnExpr implications less) y _ expr_there
        (λ q x. refuses_made (AnExpr implications less) x (low.expr implications x) (λ e. quantified p op xs d e) (good.expr implications refl x)))))

    opened_refuses : (p : Place) (what : Opening) (ls : List Lexeme) → Refuses (Opened less what) ls (opened_from low p what ls)
    unfolding opened_from sum_from rank
    opened_refuses p (a_truth v) ls = refuses_took (Opened less (a_truth v)) ls ls (truth p v)
    opened_refuses p a_bracket ls = bracket_refuses true (λ _. some) p ls
    opened_refuses p a_group ls = enclosed_refuses (codes ")") (group p) ls
    opened_refuses p a_bar ls = enclosed_refuses (codes "|") (absolute p) ls
    opened_refuses p a_negation ls = refuses_made (AnExpr unaries less) ls (low.expr unaries ls) (negation p) (good.expr unaries refl ls)
    opened_refuses p a_minus ls = refuses_made (AnExpr unaries less) ls (low.expr unaries ls) (minus p) (good.expr unaries refl ls)
    opened_refuses p (a_quantifier op) ls = quantifier_refuses op p ls
    opened_refuses p a_sum ls =
        refuses_chosen (SumOf less) (says (codes "(") ls) _ _ ls (λ _. refuses_as (OneCall less) (SumOf less) ls _ (λ b front h. inl h) (call_refuses (folded p FoldOp.Sum) ls))
        (λ _. refuses_as (Quantified less) (SumOf less) ls _ (λ b front h. inr h) (quantifier_refuses QuantOp.Sum p ls))
    opened_refuses p (of_one what) ls = call_refuses (one_part what p) ls
    opened_refuses p a_least ls = call_of_two_refuses FoldOp.Min BinaryOp.Min p ls
    opened_refuses p a_greatest ls = call_of_two_refuses FoldOp.Max BinaryOp.Max p ls
    opened_refuses p a_table ls = table_refuses p ls
    opened_refuses p (of_three what) ls = three_refuses what p ls

  -- ---- what a token begins

  -- behind the word that opens it
  behind_opening : {A : Type 0} (what : Opening) (l : Lexeme) (ls : List Lexeme) (r : Read A) → l.saying ≡ a_word (opening_word what) → Filled (Opened less what) → Refuses (Opened less what) ls r → Refuses (Operand less) (l ∷ ls) r
  behind_opening what l ls r said there h =
      refuses_behind (Is (a_word (opening_word what))) (Opened less what) (Operand less) (l ∷ ls) ls r (takes_token l ls (a_word (opening_word what)) said)
      (λ b front back p q. opened_is less what b (front ++ back) (front, back, refl, p, q)) there h

  -- a word that opens what has a part begins something, however high
  opens_higher : (what : Opening) (l : Lexeme) → l.saying ≡ a_word (opening_word what) → Opens (Operand less false) (l ∷ [])
  opens_higher what l said = token_opens (opening_word what) (Opened less what) (Operand less) l said (opened_is less what) (opened_has less what false (λ e. absurd cc))

  opened_low : (t : Bool) → (t ≡ true → 1 ≤ less) → (what : Opening) (l : Lexeme) (ls : List Lexeme) → l.saying ≡ a_word (opening_word what) → Refuses (Operand less) (l ∷ ls) (if_low t (λ _. opened_from low l.place what ls) (l ∷ ls))
  opened_low t enough what l ls said =
      refuses_low (Operand less) t (λ _. opened_from low l.place what ls) l ls (opens_higher what l said) (λ e. let some = enough e in behind_opening what l ls _ said (filled some what) (opened_refuses some l.place what ls))

  open_refuses : (t : Bool) → (t ≡ true → 1 ≤ less) → (o : Option Opening) (l : Lexeme) (ls : List Lexeme) → ((what : Opening) → o ≡ Some what → l.saying ≡ a_word (opening_word what)) → Refuses (Operand less) (l ∷ ls) (open_from t low l.place o ls (l ∷ ls))
  unfolding open_from
  open_refuses t enough None l ls said = refuses_wrong (Operand less) (l ∷ ls)
  open_refuses t enough (Some (a_truth v)) l ls said = refuses_took (Operand less) (l ∷ ls) ls (truth l.place v)
  open_refuses t enough (Some a_bracket) l ls said = behind_opening a_bracket l ls _ (said a_bracket refl) (bracketed_filled less) (bracket_refuses t enough l.place ls)
  open_refuses t enough (Some a_group) l ls said = opened_low t enough a_group l ls (said a_group refl)
  open_refuses t enough (Some a_bar) l ls said = opened_low t enough a_bar l ls (said a_bar refl)
  open_refuses t enough (Some a_negation) l ls said = opened_low t enough a_negation l ls (said a_negation refl)
  open_refuses t enough (Some a_minus) l ls said = opened_low t enough a_minus l ls (said a_minus refl)
  open_refuses t enough (Some (a_quantifier op)) l ls said = opened_low t enough (a_quantifier op) l ls (said (a_quantifier op) refl)
  open_refuses t enough (Some a_sum) l ls said = opened_low t enough a_sum l ls (said a_sum refl)
  open_refuses t enough (Some (of_one what)) l ls said = opened_low t enough (of_one what) l ls (said (of_one what) refl)
  open_refuses t enough (Some a_least) l ls said = opened_low t enough a_least l ls (said a_least refl)
  open_refuses t enough (Some a_greatest) l ls said = opened_low t enough a_greatest l ls (said a_greatest refl)
  open_refuses t enough (Some a_table) l ls said = opened_low t enough a_table l ls (said a_table refl)
  open_refuses t enough (Some (of_three what)) l ls said = opened_low t enough (of_three what) l ls (said (of_three what) refl)

  begun_refuses : (t : Bool) → (t ≡ true → 1 ≤ less) → (s : Saying) (l : Lexeme) (ls : List Lexeme) → l.saying ≡ s → Refuses (Operand less) (l ∷ ls) (begun_from t low l.place s ls (l ∷ ls))
  unfolding begun_from
  begun_refuses t enough (a_name x) l ls said = refuses_took (Operand less) (l ∷ ls) ls (named l.place x)
  begun_refuses t enough (a_number n) l ls said = refuses_took (Operand less) (l ∷ ls) ls (number l.place n)
  begun_refuses t enough (a_word w) l ls said = open_refuses t enough (looked_up openings w) l ls (λ what e. said ∙ ap a_word (looked_up-sound opening_word openings are_openings w what e))

  pub operand_refuses : (t : Bool) → (t ≡ true → 1 ≤ less) → (ls : List Lexeme) → Refuses (Operand less) ls (operand_from t low ls)
  unfolding operand_from
  operand_refuses t enough [] = refuses_wrong (Operand less) []
  operand_refuses t enough (l ∷ ls) = begun_refuses t enough l.saying l ls refl

-- Every token that begins an expression does so for some expression, however high.
pub begins_higher : (less : ℕ) (l : Lexeme) → opens l.saying ≡ true → Opens (Operand less false) (l ∷ [])
unfolding SpellsNode own_level rank place_of height
begins_higher less l o = go l.saying refl o
  where
    by : (w : List ℕ) (r : Option Opening) → looked_up openings w ≡ r → l.saying ≡ a_word w → is_there r ≡ true → Opens (Operand less false) (l ∷ [])
    by w None e said there = let no : false ≡ true = there in absurd cc
    by w (Some what) e said there = opens_any what (said ∙ ap a_word (looked_up-sound opening_word openings are_openings w what e))
      where
        opens_any : (what : Opening) → l.saying ≡ a_word (opening_word what) → Opens (Operand less false) (l ∷ [])
        opens_any what said = token_opens (opening_word what) (Opened less what) (Operand less) l said (opened_is less what) (opened_has less what false (λ e. absurd cc))

    go : (s : Saying) → l.saying ≡ s → opens s ≡ true → Opens (Operand less false) (l ∷ [])
    go (a_name x) e o = ([], (named l.place x, (λ k. absurd cc), (refl, (refl, (l.place, ap (λ (s : Saying). record { place = l.place; saying = s } ∷ []) e)))))
    go (a_number n) e o = ([], (number l.place n, (λ k. absurd cc), (refl, (refl, (l.place, ap (λ (s : Saying). record { place = l.place; saying = s } ∷ []) e)))))
    go (a_word w) e o = by w (looked_up openings w) refl e o
