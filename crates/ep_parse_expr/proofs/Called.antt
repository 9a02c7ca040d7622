-- What the calls answer that read with a cursor from a token on.
use Rattle.std.specs.Prelude.{◌≡◌, ◌+◌, ◌-◌, ◌≤◌, ◌<◌, ℕ, zero, suc, true, false, List, [], ◌∷◌, drop, get_or, length, take, Result, Ok, Err, refl}
use Rattle.std.specs.List.{AllByRecursion}
use Rattle.std.proofs.Common.{ap, append-nil, arith, length-drop, sym, subst, ◌∙◌}
use Rattle.ep_base.proofs.TokenKinds.{name_is_ascii, text_of_name}
use Rattle.ep_base.proofs.TokenLaws.{token_of}
use Rattle.ep_base.specs.Tokens.{token_text, tokens_of}
use Rattle.ep_base.specs.declared.tokens.Token.{Token}
use Rattle.ep_parse_expr.proofs.Calling.{domain_answer, expr_answer}
use Rattle.ep_parse_parts.proofs.Finding.{finds_gives, finds_gives_domain}
use Rattle.ep_parse_expr.proofs.Steady.{Cut, before_cut, ended, left_by}
use Rattle.ep_parse_expr.proofs.SteadyAll.{all_steady}
use Rattle.ep_parse_expr.proofs.SteadyOperators.{Higher}
use Rattle.ep_parse_expr.specs.Answers.{AnswersDomain, AnswersExpr}
use Rattle.ep_parse_parts.specs.Cursors.{LieIn, LiesIn}
use Rattle.ep_parse_expr.specs.Faults.{error_at}
use Rattle.ep_parse_parts.specs.Founds.{Finds, FindsDomain}
use Rattle.ep_parse_parts.specs.Readers.{Read, high, took, wrong}
use Rattle.ep_parse_parts.specs.TreeReaders.{expr_from, some_domain_from}
use Rattle.ep_parse_parts.specs.declared.cursor.Stop.{Stop}
use Rattle.ep_parse_parts.specs.declared.cursor.Stop.TheVariants.{Memory, TooHigh, Wrong}
use Rattle.ep_parse_parts.specs.declared.found.Found.{Found}
use Rattle.ep_parse_parts.specs.declared.found.FoundDomain.{FoundDomain}
use Rattle.ep_tree.specs.Phrases.{Lexeme, lexemes_of}
use Rattle.ep_tree.specs.Spelling.{domains, implications}
use Rattle.ep_tree.specs.Trees.{DomainTree, ExprTree}

-- ---- the tokens lie in the text

all_from_index : (P : Token → Type 0) (tokens : List Token) → ((i : ℕ) (d : Token) → i < length tokens → P (get_or tokens i d)) → AllByRecursion P tokens
all_from_index P [] h = tt
all_from_index P (t ∷ ts) h = (h 0 t (omega arith), all_from_index P ts (λ i d lt. h (suc i) d (omega arith)))

pub all_lie : (text : List ℕ) (tokens : List Token) → tokens_of text ≡ Ok tokens → LieIn text tokens
all_lie text tokens e =
    all_from_index (LiesIn text) tokens
    (λ i d lt.
    let is = token_of text tokens i d e lt in
    record {
      ordered = omega (arith, is.some);
      within = is.within;
      ascii = λ named. name_is_ascii (token_text text (get_or tokens i d)) (text_of_name (token_text text (get_or tokens i d)) (sym is.kind ∙ named)).1;
    })

behind_lie : (text : List ℕ) (from : ℕ) (tokens : List Token) → LieIn text tokens → LieIn text (drop from tokens)
behind_lie text zero tokens h = h
behind_lie text (suc from) [] h = tt
behind_lie text (suc from) (t ∷ ts) h = behind_lie text from ts h.1

whole_taken : (tokens : List Token) → take (length tokens) tokens ≡ tokens
whole_taken [] = refl
whole_taken (t ∷ ts) = ap (λ xs. t ∷ xs) (whole_taken ts)

-- the tokens from one on, as the code cuts them
pub cut_from : (from : ℕ) (tokens : List Token) → take (length tokens - from) (drop from tokens) ≡ drop from tokens
cut_from from tokens = ap (λ n. take n (drop from tokens)) (sym (length-drop from tokens)) ∙ whole_taken (drop from tokens)

-- the tokens from one on lie in the text
pub lie_from : (text : List ℕ) (from : ℕ) (tokens : List Token) → tokens_of text ≡ Ok tokens → LieIn text (take (length tokens - from) (drop from tokens))
lie_from text from tokens e = subst (λ ts. LieIn text ts) (sym (cut_from from tokens)) (behind_lie text from tokens (all_lie text tokens e))

-- ---- what is left is no longer

abbrev nowhere : Cut
nowhere = record { exact = false; one = []; two = []; same = ended refl refl }

alike : (most : ℕ) → Higher nowhere most most
alike most = record { le = omega arith; alike = λ _. refl }

pub expr_left : (most : ℕ) (ls : List Lexeme) → length (left_by (expr_from most implications ls)) ≤ length ls
expr_left most ls =
    let h = all_steady nowhere most most (alike most) in
    let st = h.expr implications ls ls (before_cut ls (sym (append-nil ls)) (sym (append-nil ls))) in st.short

pub domain_left : (most : ℕ) (ls : List Lexeme) → length (left_by (some_domain_from most domains ls)) ≤ length ls
domain_left most ls =
    let h = all_steady nowhere most most (alike most) in
    let st = h.domain domains ls ls (before_cut ls (sym (append-nil ls)) (sym (append-nil ls))) in st.short

as_many : (text : List ℕ) (tokens : List Token) → length (lexemes_of text tokens) ≡ length tokens
unfolding lexemes_of
as_many text [] = refl
as_many text (t ∷ tokens) = ap suc (as_many text tokens)

counted : {A : Type 0} (text : List ℕ) (from number : ℕ) (tokens : List Token) (left : List Lexeme) (r q : Read A) → number ≡ length tokens - length left → length (left_by r) ≤ length (lexemes_of text (drop from tokens)) → r ≡ q → left_by q ≡ left
    → number + length left ≡ length tokens
counted text from number tokens left r q n short e l =
    let same : length (left_by r) ≡ length left = ap (λ k. length (left_by k)) e ∙ ap length l in
    let many = as_many text (drop from tokens) in
    let cut : length (drop from tokens) ≡ length tokens - from = length-drop from tokens in
    omega (arith, n, short, same, many, cut)

module _ (most from number : ℕ) (text : List ℕ) (tokens : List Token) (left : List Lexeme) (within : from ≤ length tokens) (count : number ≡ length tokens - length left) where
  abbrev expr_read : Read ExprTree
  expr_read = expr_from most implications (lexemes_of text (drop from tokens))

  abbrev domain_read : Read DomainTree
  domain_read = some_domain_from most domains (lexemes_of text (drop from tokens))

  -- an expression that was found
  pub expr_found : (found : Found) → Finds (Ok found) left expr_read → AnswersExpr most from (lexemes_of text tokens) (Ok (found.expr, number))
  expr_found found f =
      expr_answer most from number text tokens left within (counted text from number tokens left expr_read _ count (expr_left most (lexemes_of text (drop from tokens))) f.0 refl) (Ok found.expr) f.0

  -- an expression that was refused
  pub expr_refused : (e : Stop) → Finds (Err e) left expr_read → AnswersExpr most from (lexemes_of text tokens) (Err (error_at number e))
  expr_refused Wrong f =
      expr_answer most from number text tokens left within (counted text from number tokens left expr_read _ count (expr_left most (lexemes_of text (drop from tokens))) f refl) (Err Wrong) f
  expr_refused TooHigh f =
      expr_answer most from number text tokens left within (counted text from number tokens left expr_read _ count (expr_left most (lexemes_of text (drop from tokens))) f refl) (Err TooHigh) f
  expr_refused Memory f = tt

  -- the same of domains
  pub domain_found : (found : FoundDomain) → FindsDomain (Ok found) left domain_read → AnswersDomain most from (lexemes_of text tokens) (Ok (found.domain, number))
  domain_found found f =
      domain_answer most from number text tokens left within (counted text from number tokens left domain_read _ count (domain_left most (lexemes_of text (drop from tokens))) f.0 refl) (Ok found.domain) f.0

  pub domain_refused : (e : Stop) → FindsDomain (Err e) left domain_read → AnswersDomain most from (lexemes_of text tokens) (Err (error_at number e))
  domain_refused Wrong f =
      domain_answer most from number text tokens left within (counted text from number tokens left domain_read _ count (domain_left most (lexemes_of text (drop from tokens))) f refl) (Err Wrong) f
  domain_refused TooHigh f =
      domain_answer most from number text tokens left within (counted text from number tokens left domain_read _ count (domain_left most (lexemes_of text (drop from tokens))) f refl) (Err TooHigh) f
  domain_refused Memory f = tt
