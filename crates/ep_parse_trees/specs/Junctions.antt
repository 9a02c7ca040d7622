-- Chains with one word between any two parts, and chains of sums: the parts behind the first, and what was read of them.
use Rattle.std.specs.Prelude.{◌≡◌, ℕ, Bool, not, ◌&&◌, List, [], ◌∷◌, ◌++◌, Result, Ok, Err, map}
use Rattle.ep_parse_parts.specs.Cursors.{StopsReading}
use Rattle.ep_parse_parts.specs.Gathered.{PartsCount, TermsCount}
use Rattle.ep_parse_parts.specs.OperandReaders.{Lower, is_there}
use Rattle.ep_parse_parts.specs.OperatorReaders.{Term, only_word, part_from, sign_words, term_from, with_operator}
use Rattle.ep_parse_parts.specs.Readers.{Read, Reader, next_in, others_from, says, took}
use Rattle.ep_parse_parts.specs.declared.cursor.Stop.{Stop}
use Rattle.ep_parse_parts.specs.declared.parts.Parts.{Parts}
use Rattle.ep_parse_parts.specs.declared.parts.Terms.{Terms}
use Rattle.ep_tree.specs.Phrases.{Lexeme}
use Rattle.ep_tree.specs.Spelling.{Level, ends_open}
use Rattle.ep_tree.specs.Trees.{ExprTree}
use Rattle.ep_tree.specs.Views.{expr_tree}
use Rattle.ep_tree.specs.declared.syntax.Expr.{Expr}

-- the trees of expressions
abbrev pub trees_of : List Expr → List ExprTree
trees_of es = map (λ (e : Expr). expr_tree e) es

-- whether a chain's word comes behind a part, and the part may be followed
abbrev pub goes_on : Bool → List ℕ → List Lexeme → Bool
goes_on open_last bytes ls = not open_last && says bytes ls

-- the parts behind a part, each with the chain's word before it
unfoldable pub more_parts : Lower → List ℕ → Level → ExprTree → Reader (List ExprTree)
more_parts low bytes level first ls = others_from (with_operator (only_word bytes)) (λ last. part_from low bytes level) first ls

-- One more part stands behind those that were there, and it is what a reader gives.
pub record PartAdded (old new : Parts) (left : List Lexeme) (read : Read ExprTree) : Type 0 where
  pub one : ExprTree
  pub is : read ≡ took one left
  pub together : trees_of new.items.items ≡ trees_of old.items.items ++ one ∷ []
  pub ends : new.ends_open ≡ ends_open one
  pub counted : PartsCount new

abbrev pub AddsPart : {X : Type 0} → Result X Stop → Parts → Parts → List Lexeme → Read ExprTree → Type 0
AddsPart (Ok x) old new left read = PartAdded old new left read
AddsPart (Err e) old new left read = StopsReading e left read

-- These are a first part, and then all that a reader gives.
pub record PartsGiven (first : ExprTree) (parts : Parts) (left : List Lexeme) (read : Read (List ExprTree)) : Type 0 where
  pub more : List ExprTree
  pub is : read ≡ took more left
  pub together : trees_of parts.items.items ≡ first ∷ more
  pub counted : PartsCount parts

abbrev pub GivesParts : Result Parts Stop → ExprTree → List Lexeme → Read (List ExprTree) → Type 0
GivesParts (Ok parts) first left read = PartsGiven first parts left read
GivesParts (Err e) first left read = StopsReading e left read

-- ---- chains of sums

-- a term as it is read
abbrev pub term_read : Bool × Expr → Term
term_read t = (t.0, expr_tree t.1)

-- whether a sign comes behind a part, and the part may be followed
abbrev pub sign_comes : Bool → List Lexeme → Bool
sign_comes open_last ls = not open_last && is_there (next_in sign_words ls)

-- the terms behind a term, each with its sign
unfoldable pub more_terms : Lower → Term → Reader (List Term)
more_terms low first ls = others_from (λ (last : Term). with_operator sign_words last.1) (λ last. term_from low) first ls

-- One more term stands behind those that were there, and it is what a reader gives.
pub record TermAdded (old new : Terms) (left : List Lexeme) (read : Read Term) : Type 0 where
  pub one : Term
  pub is : read ≡ took one left
  pub together : map term_read new.items.items ≡ map term_read old.items.items ++ one ∷ []
  pub ends : new.ends_open ≡ ends_open one.1
  pub counted : TermsCount new

abbrev pub AddsTerm : {X : Type 0} → Result X Stop → Terms → Terms → List Lexeme → Read Term → Type 0
AddsTerm (Ok x) old new left read = TermAdded old new left read
AddsTerm (Err e) old new left read = StopsReading e left read

-- These are a first term, and then all that a reader gives.
pub record TermsGiven (first : Term) (terms : Terms) (left : List Lexeme) (read : Read (List Term)) : Type 0 where
  pub more : List Term
  pub is : read ≡ took more left
  pub together : map term_read terms.items.items ≡ first ∷ more
  pub counted : TermsCount terms

abbrev pub GivesTerms : Result Terms Stop → Term → List Lexeme → Read (List Term) → Type 0
GivesTerms (Ok terms) first left read = TermsGiven first terms left read
GivesTerms (Err e) first left read = StopsReading e left read
