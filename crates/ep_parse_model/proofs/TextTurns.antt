-- Loops over expressions with commas and over statements.
use Rattle.std.specs.Prelude.{◌≡◌, ℕ, zero, suc, ◌≤◌, ◌<◌, Bool, true, false, List, [], ◌∷◌, ◌++◌, length, codes, refl}
use Rattle.std.proofs.Common.{ap, append-nil, arith, sym, ◌∙◌}
use Rattle.ep_parse_parts.proofs.NameTurns.{continued}
use Rattle.ep_parse_parts.specs.Cursors.{StopsReading, none_left, passing}
use Rattle.ep_parse_parts.specs.declared.cursor.Stop.{Stop}
use Rattle.ep_parse_parts.specs.OperandReaders.{expression_next}
use Rattle.ep_parse_parts.specs.Readers.{Read, Reader, behind, either_reader, high, says, took, wrong, ◌and_then◌}
use Rattle.ep_parse_model.proofs.CommaTurns.{one_more, passed, stops_all, stops_so}
use Rattle.ep_parse_model.proofs.Shrinking.{behind_short, expr_shrinks, statement_shrinks}
use Rattle.ep_parse_model.specs.TextReaders.{allowed_behind, allowed_statement_from, expressions_from, expressions_within, full, statements_from, statements_within}
use Rattle.ep_parse_model.specs.declared.openings.Allowed.{Allowed}
use Rattle.ep_tree.specs.Phrases.{Lexeme}
use Rattle.ep_tree.specs.Spelling.{implications}
use Rattle.ep_tree.specs.Statements.{StatementTree, TextTree}
use Rattle.ep_tree.specs.Trees.{ExprTree}

-- ---- expressions

-- what is read behind an expression, where others are read so
abbrev behind_expr : Reader (List ExprTree) → ExprTree → Reader (List ExprTree)
behind_expr others e rest =
    either_reader (says (codes ",") rest) (λ next. others (behind next) and_then λ es end. took (e ∷ es) end) (λ next. took (e ∷ []) next) rest

-- a turn of reading expressions, where others are read so
abbrev expr_turn : Reader (List ExprTree) → Reader (List ExprTree)
expr_turn others ls = either_reader (expression_next ls) (λ all. full.expr implications all and_then behind_expr others) (λ all. took [] all) ls

same_behind : (F G : Reader (List ExprTree)) (b : Bool) (e : ExprTree) (rest : List Lexeme) → F (behind rest) ≡ G (behind rest)
    → either_reader b (λ next. F (behind next) and_then λ es end. took (e ∷ es) end) (λ next. took (e ∷ []) next) rest
    ≡ either_reader b (λ next. G (behind next) and_then λ es end. took (e ∷ es) end) (λ next. took (e ∷ []) next) rest
same_behind F G true e rest agree = ap (λ r. r and_then λ es end. took (e ∷ es) end) agree
same_behind F G false e rest agree = refl

same_read : (F G : Reader (List ExprTree)) (r : Read ExprTree) → ((e : ExprTree) (rest : List Lexeme) → r ≡ took e rest → F (behind rest) ≡ G (behind rest))
    → (r and_then behind_expr F) ≡ (r and_then behind_expr G)
same_read F G (took e rest) agree = same_behind F G (says (codes ",") rest) e rest (agree e rest refl)
same_read F G (wrong ls) agree = refl
same_read F G (high ls) agree = refl

same_chosen : (F G : Reader (List ExprTree)) (b : Bool) (ls : List Lexeme) → (full.expr implications ls and_then behind_expr F) ≡ (full.expr implications ls and_then behind_expr G)
    → either_reader b (λ all. full.expr implications all and_then behind_expr F) (λ all. took [] all) ls ≡ either_reader b (λ all. full.expr implications all and_then behind_expr G) (λ all. took [] all) ls
same_chosen F G true ls agree = agree
same_chosen F G false ls agree = refl

same_turn : (F G : Reader (List ExprTree)) (ls : List Lexeme) → ((e : ExprTree) (rest : List Lexeme) → full.expr implications ls ≡ took e rest → F (behind rest) ≡ G (behind rest))
    → expr_turn F ls ≡ expr_turn G ls
same_turn F G ls agree = same_chosen F G (expression_next ls) ls (same_read F G (full.expr implications ls) agree)

enough_exprs : (n m : ℕ) (ls : List Lexeme) → length ls ≤ n → length ls ≤ m → expressions_within full n ls ≡ expressions_within full m ls
unfolding expressions_within expression_next
enough_exprs zero zero ls h k = refl
enough_exprs zero (suc m) [] h k = refl
enough_exprs zero (suc m) (l ∷ ls) h k = absurd (omega (arith, h))
enough_exprs (suc n) zero [] h k = refl
enough_exprs (suc n) zero (l ∷ ls) h k = absurd (omega (arith, k))
enough_exprs (suc n) (suc m) ls h k =
    same_turn (expressions_within full n) (expressions_within full m) ls
    (λ e rest r. let s = expr_shrinks ls rest e r in let t = behind_short rest in enough_exprs n m (behind rest) (omega (arith, s, t, h)) (omega (arith, s, t, k)))

-- expressions are a turn and then expressions again
exprs_turn : (ls : List Lexeme) → expressions_from full ls ≡ expr_turn (expressions_from full) ls
unfolding expressions_within
exprs_turn ls =
    enough_exprs (length ls) (suc (length ls)) ls (omega arith) (omega arith)
    ∙ same_turn (expressions_within full (length ls)) (expressions_from full) ls
    (λ e rest r. let s = expr_shrinks ls rest e r in let t = behind_short rest in enough_exprs (length ls) (length (behind rest)) (behind rest) (omega (arith, s, t)) (omega arith))

module _ (items : List ExprTree) (cursor start : List Lexeme) (inv : continued items (expressions_from full cursor) ≡ expressions_from full start) where
  -- no expression comes: these are the expressions
  pub exprs_end : expression_next cursor ≡ false → expressions_from full start ≡ took items cursor
  exprs_end none =
      sym inv
      ∙ ap (λ r. continued items r)
      (exprs_turn cursor ∙ ap (λ b. either_reader b (λ all. full.expr implications all and_then behind_expr (expressions_from full)) (λ all. took [] all) cursor) none)
      ∙ ap (λ xs. took xs cursor) (append-nil items)

  seen : expression_next cursor ≡ true → continued items (full.expr implications cursor and_then behind_expr (expressions_from full)) ≡ expressions_from full start
  seen some =
      sym (ap (λ r. continued items r)
      (exprs_turn cursor ∙ ap (λ b. either_reader b (λ all. full.expr implications all and_then behind_expr (expressions_from full)) (λ all. took [] all) cursor) some))
      ∙ inv

  pub exprs_fail : (new : List Lexeme) (e : Stop) → expression_next cursor ≡ true → StopsReading e new (full.expr implications cursor) → StopsReading e new (expressions_from full start)
  exprs_fail new e some k =
      stops_so e new _ (expressions_from full start) (seen some)
      (stops_all e new (full.expr implications cursor and_then behind_expr (expressions_from full)) (λ ys end. took (items ++ ys) end)
      (stops_all e new (full.expr implications cursor) (behind_expr (expressions_from full)) k))

  with_expr : (mid : List Lexeme) (e : ExprTree) (comma : Bool) → expression_next cursor ≡ true → full.expr implications cursor ≡ took e mid → says (codes ",") mid ≡ comma
      → expressions_from full start ≡ continued items (either_reader comma (λ next. expressions_from full (behind next) and_then λ es end. took (e ∷ es) end) (λ next. took (e ∷ []) next) mid)
  with_expr mid e comma some first is =
      sym (seen some)
      ∙ ap (λ r. continued items (r and_then behind_expr (expressions_from full))) first
      ∙ ap (λ b. continued items (either_reader b (λ next. expressions_from full (behind next) and_then λ es end. took (e ∷ es) end) (λ next. took (e ∷ []) next) mid)) is

  -- no comma comes: this is the last
  pub exprs_last : (mid new : List Lexeme) (e : ExprTree) → expression_next cursor ≡ true → full.expr implications cursor ≡ took e mid → (false, new) ≡ passing (codes ",") mid
      → expressions_from full start ≡ took (items ++ e ∷ []) new
  exprs_last mid new e some first pass =
      let p = passed false new mid pass in
      with_expr mid e false some first p.0 ∙ ap (λ ls. took (items ++ e ∷ []) ls) (sym p.1)

  -- a comma comes: others may follow
  pub exprs_go : (mid new : List Lexeme) (e : ExprTree) → expression_next cursor ≡ true → full.expr implications cursor ≡ took e mid → (true, new) ≡ passing (codes ",") mid
      → continued (items ++ e ∷ []) (expressions_from full new) ≡ expressions_from full start
  exprs_go mid new e some first pass =
      let p = passed true new mid pass in
      sym (with_expr mid e true some first p.0 ∙ one_more items e (expressions_from full (behind mid)) ∙ ap (λ ls. continued (items ++ e ∷ []) (expressions_from full ls)) (sym p.1))

pub exprs_smaller : (cursor mid new : List Lexeme) (e : ExprTree) → full.expr implications cursor ≡ took e mid → (true, new) ≡ passing (codes ",") mid → length new < length cursor
exprs_smaller cursor mid new e first pass =
    let p = passed true new mid pass in
    let is : length new ≡ length (behind mid) = ap length p.1 in
    omega (arith, is, behind_short mid, expr_shrinks cursor mid e first)

-- ---- statements

-- statements behind one, where others are read so
abbrev behind_statement : (Allowed → Reader TextTree) → Allowed → StatementTree → Reader TextTree
behind_statement others allowed s rest = others (allowed_behind s allowed) rest and_then λ ss end. took (s ∷ ss) end

same_statements : (F G : Allowed → Reader TextTree) (allowed : Allowed) (r : Read StatementTree)
    → ((s : StatementTree) (rest : List Lexeme) → r ≡ took s rest → F (allowed_behind s allowed) rest ≡ G (allowed_behind s allowed) rest)
    → (r and_then behind_statement F allowed) ≡ (r and_then behind_statement G allowed)
same_statements F G allowed (took s rest) agree = ap (λ r. r and_then λ ss end. took (s ∷ ss) end) (agree s rest refl)
same_statements F G allowed (wrong ls) agree = refl
same_statements F G allowed (high ls) agree = refl

enough_statements : (n m : ℕ) (allowed : Allowed) (ls : List Lexeme) → length ls ≤ n → length ls ≤ m → statements_within full n allowed ls ≡ statements_within full m allowed ls
unfolding statements_within
enough_statements zero zero allowed ls h k = refl
enough_statements zero (suc m) allowed [] h k = refl
enough_statements zero (suc m) allowed (l ∷ ls) h k = absurd (omega (arith, h))
enough_statements (suc n) zero allowed [] h k = refl
enough_statements (suc n) zero allowed (l ∷ ls) h k = absurd (omega (arith, k))
enough_statements (suc n) (suc m) allowed [] h k = refl
enough_statements (suc n) (suc m) allowed (l ∷ ls) h k =
    same_statements (statements_within full n) (statements_within full m) allowed (allowed_statement_from full allowed (l ∷ ls))
    (λ s rest r. let t = statement_shrinks allowed l ls rest s r in enough_statements n m (allowed_behind s allowed) rest (omega (arith, t, h)) (omega (arith, t, k)))

-- statements are a statement and then statements again
statements_turn : (allowed : Allowed) (l : Lexeme) (ls : List Lexeme)
    → statements_from full allowed (l ∷ ls) ≡ (allowed_statement_from full allowed (l ∷ ls) and_then behind_statement (statements_from full) allowed)
unfolding statements_within
statements_turn allowed l ls =
    same_statements (statements_within full (length ls)) (statements_from full) allowed (allowed_statement_from full allowed (l ∷ ls))
    (λ s rest r. let t = statement_shrinks allowed l ls rest s r in enough_statements (length ls) (length rest) (allowed_behind s allowed) rest (omega (arith, t)) (omega arith))

-- no token is left: these are the statements
pub statements_end : (items : TextTree) (allowed : Allowed) (cursor : List Lexeme) (all : Read TextTree) → continued items (statements_from full allowed cursor) ≡ all → none_left cursor ≡ true
    → all ≡ took items cursor
unfolding statements_within
statements_end items allowed [] all inv none = sym inv ∙ ap (λ xs. took xs []) (append-nil items)
statements_end items allowed (l ∷ ls) all inv none = let wrong_way : false ≡ true = none in absurd cc

turned : (items : TextTree) (allowed : Allowed) (cursor : List Lexeme) (all : Read TextTree) → continued items (statements_from full allowed cursor) ≡ all → none_left cursor ≡ false
    → continued items (allowed_statement_from full allowed cursor and_then behind_statement (statements_from full) allowed) ≡ all
turned items allowed [] all inv some = let wrong_way : true ≡ false = some in absurd cc
turned items allowed (l ∷ ls) all inv some = sym (ap (λ r. continued items r) (statements_turn allowed l ls)) ∙ inv

pub statements_fail : (items : TextTree) (allowed : Allowed) (cursor new : List Lexeme) (all : Read TextTree) (e : Stop) → continued items (statements_from full allowed cursor) ≡ all → none_left cursor ≡ false
    → StopsReading e new (allowed_statement_from full allowed cursor) → StopsReading e new all
statements_fail items allowed cursor new all e inv some k =
    stops_so e new _ all (turned items allowed cursor all inv some)
    (stops_all e new (allowed_statement_from full allowed cursor and_then behind_statement (statements_from full) allowed) (λ ys end. took (items ++ ys) end)
    (stops_all e new (allowed_statement_from full allowed cursor) (behind_statement (statements_from full) allowed) k))

-- a statement was read: others may follow
pub statements_go : (items : TextTree) (allowed next : Allowed) (cursor new : List Lexeme) (all : Read TextTree) (s : StatementTree) → continued items (statements_from full allowed cursor) ≡ all → none_left cursor ≡ false
    → allowed_statement_from full allowed cursor ≡ took s new → next ≡ allowed_behind s allowed → continued (items ++ s ∷ []) (statements_from full next new) ≡ all
statements_go items allowed next cursor new all s inv some first is =
    sym (sym (turned items allowed cursor all inv some)
    ∙ ap (λ r. continued items (r and_then behind_statement (statements_from full) allowed)) first
    ∙ one_more items s (statements_from full (allowed_behind s allowed) new)
    ∙ ap (λ a. continued (items ++ s ∷ []) (statements_from full a new)) (sym is))

pub statements_smaller : (allowed : Allowed) (cursor new : List Lexeme) (s : StatementTree) → none_left cursor ≡ false → allowed_statement_from full allowed cursor ≡ took s new → length new < length cursor
statements_smaller allowed [] new s some first = let wrong_way : true ≡ false = some in absurd cc
statements_smaller allowed (l ∷ ls) new s some first = let t = statement_shrinks allowed l ls new s first in omega (arith, t)
