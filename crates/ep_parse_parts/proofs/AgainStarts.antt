-- How the tokens of an expression start, and what a reader that looks ahead sees of them.
use Rattle.std.specs.Prelude.{◌≡◌, ℕ, Bool, true, false, ◌&&◌, List, [], ◌∷◌, ◌++◌, bytes_eq, codes, refl}
use Rattle.std.proofs.Common.{ap, subst, ◌∙◌}
use Rattle.std.proofs.lemmas.Slice.Eq.{bytes_eq-Decides}
use Rattle.ep_base.specs.declared.names.Name.{Name}
use Rattle.ep_base.specs.declared.operators.CompareOp.{CompareOp}
use Rattle.ep_base.specs.declared.operators.LexOp.{LexOp}
use Rattle.ep_base.specs.declared.places.Place.{Place}
use Rattle.ep_tree.proofs.Opened.{the_language}
use Rattle.ep_tree.specs.Phrases.{Is, Lexeme, Phrase, Saying, a_name, a_number, a_word, ◌followed_by◌}
use Rattle.ep_tree.specs.Spelling.{SpellsNode, compare_word, fold_word, lex_word, quantifier_word, sign_word}
use Rattle.ep_tree.specs.Trees.{ExprTree, absolute, all_different, all_of, any_of, at_least, at_most, binary, chain, compare, comprehension, factorial, flatten, folded, gcc, group, in_domain, in_set, lex, literal, minus, named, negation, no_terms, no_trees, number, quantified, read, table, term_and, to_int, tree_and, truth}
use Rattle.ep_tree.specs.declared.syntax.BinaryOp.{BinaryOp}
use Rattle.ep_tree.specs.declared.syntax.FoldOp.{FoldOp}
use Rattle.ep_tree.specs.declared.syntax.QuantOp.{QuantOp}
use Rattle.ep_parse_parts.specs.OperandReaders.{colon_comes, colon_or, expression_next, says_name, is_there, openings, opens}
use Rattle.ep_parse_parts.specs.Readers.{says_word, looked_up, says}
use Rattle.ep_parse_parts.proofs.Again.{around_cut, behind_word_cut, lexeme}

-- A name alone, or a token that opens an expression and is no name, or a name before what is neither a colon nor a comma.
pub data Start (front : List Lexeme) : Type 0 where
  alone : (p : Place) (x : Name) → front ≡ lexeme p (a_name x) ∷ [] → Start front
  opened : (t : Lexeme) (ts : List Lexeme) → front ≡ t ∷ ts → opens t.saying ≡ true → says_name t.saying ≡ false → Start front
  before : (p : Place) (x : Name) (u : Lexeme) (us : List Lexeme) → front ≡ lexeme p (a_name x) ∷ u ∷ us → says_word (codes ":") u.saying ≡ false → says_word (codes ",") u.saying ≡ false → Start front

-- ---- how an expression starts

by_word : (w : List ℕ) (P : Phrase) (front : List Lexeme) → is_there (looked_up openings w) ≡ true → (Is (a_word w) followed_by P) front → Start front
by_word w P front opening h = let c = behind_word_cut w P front h in opened (lexeme c.place (a_word w)) c.rest c.parts opening refl

extended : (f back front : List Lexeme) (t : Lexeme) → front ≡ f ++ t ∷ back → says_word (codes ":") t.saying ≡ false → says_word (codes ",") t.saying ≡ false → Start f → Start front
extended f back front t e colon comma (alone p x k) = before p x t back (e ∙ ap (λ y. y ++ t ∷ back) k) colon comma
extended f back front t e colon comma (opened u us k o n) = opened u (us ++ t ∷ back) (e ∙ ap (λ y. y ++ t ∷ back) k) o n
extended f back front t e colon comma (before p x u us k a b) = before p x u (us ++ t ∷ back) (e ∙ ap (λ y. y ++ t ∷ back) k) a b

-- the word of an operator, which is neither a colon nor a comma
abbrev IsOperator : List ℕ → Type 0
IsOperator w = (bytes_eq w (codes ":") ≡ false) × (bytes_eq w (codes ",") ≡ false)

by_part : (A P : Phrase) (w : List ℕ) (front : List Lexeme) → IsOperator w → ((f : List Lexeme) → A f → Start f) → (A followed_by Is (a_word w) followed_by P) front → Start front
by_part A P w front op start h =
    let c = around_cut A w P front h in extended c.front c.back front (lexeme c.place (a_word w)) c.parts op.0 op.1 (start c.front c.first)

compare_operator : (op : CompareOp) → IsOperator (codes (compare_word op))
unfolding compare_word
compare_operator CompareOp.Equal = (refl, refl)
compare_operator CompareOp.NotEqual = (refl, refl)
compare_operator CompareOp.Less = (refl, refl)
compare_operator CompareOp.AtMost = (refl, refl)
compare_operator CompareOp.Greater = (refl, refl)
compare_operator CompareOp.AtLeast = (refl, refl)

lex_operator : (op : LexOp) → IsOperator (codes (lex_word op))
unfolding lex_word
lex_operator LexOp.Less = (refl, refl)
lex_operator LexOp.AtMost = (refl, refl)
lex_operator LexOp.Greater = (refl, refl)
lex_operator LexOp.AtLeast = (refl, refl)

sign_operator : (plus : Bool) → IsOperator (codes (sign_word plus))
unfolding sign_word
sign_operator true = (refl, refl)
sign_operator false = (refl, refl)

fold_opens : (op : FoldOp) → is_there (looked_up openings (codes (fold_word op))) ≡ true
unfolding looked_up fold_word
fold_opens FoldOp.Sum = refl
fold_opens FoldOp.Product = refl
fold_opens FoldOp.And = refl
fold_opens FoldOp.Or = refl
fold_opens FoldOp.Min = refl
fold_opens FoldOp.Max = refl

quantifier_opens : (op : QuantOp) → is_there (looked_up openings (codes (quantifier_word op))) ≡ true
unfolding looked_up quantifier_word
quantifier_opens QuantOp.ForAll = refl
quantifier_opens QuantOp.Exists = refl
quantifier_opens QuantOp.Sum = refl

lone : (plus : Bool) → (plus && false) ≡ true → ⊥
lone true e = let wrong : false ≡ true = e in absurd cc
lone false e = let wrong : false ≡ true = e in absurd cc

-- each expression starts so
pub starts : (e : ExprTree) (front : List Lexeme) → SpellsNode e front → Start front
unfolding the_language looked_up
starts (number p n) front h = opened (lexeme h.0 (a_number n)) [] h.1 refl refl
starts (truth p true) front h = opened (lexeme h.0 (a_word (codes "true"))) [] h.1 refl refl
starts (truth p false) front h = opened (lexeme h.0 (a_word (codes "false"))) [] h.1 refl refl
starts (named p x) front h = alone h.0 x h.1
starts (group p e) front h = by_word (codes "(") _ front refl h
starts (negation p e) front h = by_word (codes "!") _ front refl h
starts (minus p e) front h = by_word (codes "-") _ front refl h
starts (absolute p e) front h = by_word (codes "|") _ front refl h
starts (to_int p e) front h = by_word (codes "toInt") _ front refl h
starts (factorial p e) front h = by_word (codes "factorial") _ front refl h
starts (flatten p e) front h = by_word (codes "flatten") _ front refl h
starts (chain p no_terms) front h = absurd h
starts (chain p (term_and plus a no_terms)) front h = absurd (lone plus h.0)
starts (chain p (term_and plus a (term_and sign b terms))) front h = by_part _ _ (codes (sign_word sign)) front (sign_operator sign) (λ f g. starts a f g.1.1.1) h.1
starts (binary p BinaryOp.Mul a b) front h = by_part _ _ (codes "*") front (refl, refl) (λ f g. starts a f g.1.1.1) h
starts (binary p BinaryOp.Div a b) front h = by_part _ _ (codes "/") front (refl, refl) (λ f g. starts a f g.1.1.1) h
starts (binary p BinaryOp.Mod a b) front h = by_part _ _ (codes "%") front (refl, refl) (λ f g. starts a f g.1.1.1) h
starts (binary p BinaryOp.Pow a b) front h = by_part _ _ (codes "**") front (refl, refl) (λ f g. starts a f g.1.1.1) h
starts (binary p BinaryOp.Min a b) front h = by_word (codes "min") _ front refl h
starts (binary p BinaryOp.Max a b) front h = by_word (codes "max") _ front refl h
starts (binary p BinaryOp.Implies a b) front h = by_part _ _ (codes "->") front (refl, refl) (λ f g. starts a f g.1.1.1) h
starts (binary p BinaryOp.Iff a b) front h = by_part _ _ (codes "<->") front (refl, refl) (λ f g. starts a f g.1.1.1) h
starts (compare p op a b) front h = by_part _ _ (codes (compare_word op)) front (compare_operator op) (λ f g. starts a f g.1.1.1) h
starts (lex p op a b) front h = by_part _ _ (codes (lex_word op)) front (lex_operator op) (λ f g. starts a f g.1.1.1) h
starts (in_domain p a d) front h = by_part _ _ (codes "in") front (refl, refl) (λ f g. starts a f g.1.1.1) h
starts (in_set p a m) front h = by_part _ _ (codes "in") front (refl, refl) (λ f g. starts a f g.1.1.1) h
starts (all_of p no_trees) front h = absurd h
starts (all_of p (tree_and a no_trees)) front h = let wrong : false ≡ true = h.0 in absurd cc
starts (all_of p (tree_and a (tree_and b es))) front h = by_part _ _ (codes "/\\") front (refl, refl) (λ f g. starts a f g.1.1.1) h.1
starts (any_of p no_trees) front h = absurd h
starts (any_of p (tree_and a no_trees)) front h = let wrong : false ≡ true = h.0 in absurd cc
starts (any_of p (tree_and a (tree_and b es))) front h = by_part _ _ (codes "\\/") front (refl, refl) (λ f g. starts a f g.1.1.1) h.1
starts (quantified p op names d e) front h = by_word (codes (quantifier_word op)) _ front (quantifier_opens op) h
starts (literal p parts d) front h = by_word (codes "[") _ front refl h
starts (comprehension p e gens conditions d) front h = by_word (codes "[") _ front refl h
starts (read p m indices) front h = by_part _ _ (codes "[") front (refl, refl) (λ f g. starts m f g.1.1.1) h
starts (folded p op m) front h = by_word (codes (fold_word op)) _ front (fold_opens op) h
starts (all_different p m) front h = by_word (codes "allDiff") _ front refl h
starts (gcc p m values counts) front h = by_word (codes "gcc") _ front refl h
starts (at_least p m counts values) front h = by_word (codes "atleast") _ front refl h
starts (at_most p m counts values) front h = by_word (codes "atmost") _ front refl h
starts (table p row rows) front h = by_word (codes "table") _ front refl h

-- ---- what is seen of it

-- an expression is next
pub expression_seen : (front rest : List Lexeme) → Start front → expression_next (front ++ rest) ≡ true
unfolding expression_next
expression_seen front rest (alone p x k) = ap (λ y. expression_next (y ++ rest)) k
expression_seen front rest (opened t ts k o n) = ap (λ y. expression_next (y ++ rest)) k ∙ o
expression_seen front rest (before p x u us k a b) = ap (λ y. expression_next (y ++ rest)) k

no_opening : (w : List ℕ) (s : Saying) → is_there (looked_up openings w) ≡ false → opens s ≡ true → says_word w s ≡ false
no_opening w (a_name x) none o = refl
no_opening w (a_number n) none o = refl
no_opening w (a_word v) none o = go (bytes_eq v w) refl
  where
    go : (b : Bool) → bytes_eq v w ≡ b → b ≡ false
    go false k = refl
    go true k =
        let same : v ≡ w = (bytes_eq-Decides v w).0 k in
        let no : is_there (looked_up openings w) ≡ true = subst (λ x. is_there (looked_up openings x) ≡ true) same o in
        absurd cc

-- a word that opens no expression isn't next
pub word_unseen : (w : List ℕ) (front rest : List Lexeme) → is_there (looked_up openings w) ≡ false → Start front → says w (front ++ rest) ≡ false
unfolding says
word_unseen w front rest none (alone p x k) = ap (λ y. says w (y ++ rest)) k
word_unseen w front rest none (opened t ts k o n) = ap (λ y. says w (y ++ rest)) k ∙ no_opening w t.saying none o
word_unseen w front rest none (before p x u us k a b) = ap (λ y. says w (y ++ rest)) k

-- no colon comes behind names, unless it does behind the expression
pub colon_unseen : (front rest : List Lexeme) → Start front → colon_comes false rest ≡ false → colon_comes true (front ++ rest) ≡ false
unfolding colon_comes
colon_unseen front rest (alone p x k) none = ap (λ y. colon_comes true (y ++ rest)) k ∙ none
colon_unseen front rest (opened t ts k o n) none = ap (λ y. colon_comes true (y ++ rest)) k ∙ ap (λ b. b && colon_comes false (ts ++ rest)) n
colon_unseen front rest (before p x u us k a b) none =
    ap (λ y. colon_comes true (y ++ rest)) k
    ∙ ap (λ c. colon_or c (says_word (codes ",") u.saying) (colon_comes true (us ++ rest))) a
    ∙ ap (λ c. colon_or false c (colon_comes true (us ++ rest))) b
