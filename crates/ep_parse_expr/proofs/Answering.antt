-- What readers of lists give is what the calls answer: a tree as far as one goes on, a fault of syntax, or one of height.
use Rattle.std.specs.Prelude.{◌≡◌, ℕ, suc, ◌+◌, ◌≤◌, ◌<◌, ◌⊎◌, Bool, true, List, [], ◌∷◌, ◌++◌, length, take, drop, Result, Ok, Err, refl}
use Rattle.std.proofs.Common.{ap, append-nil, append_assoc, arith, inl, inr, sym, subst, ◌∙◌, length-append}
use Rattle.std.proofs.Math.Seq.{take-append-add, take-append_seam}
use Rattle.std.proofs.lemmas.List.{length-take-le, take-append-drop}
use Rattle.ep_tree.specs.Heights.{domain_height, height}
use Rattle.ep_tree.specs.Phrases.{Lexeme, Phrase}
use Rattle.ep_tree.specs.Reading.{Begins, DomainFault, DomainTooHigh, ExprFault, ExprTooHigh, FromToken, IsSyntaxFault, IsTooHigh, Low, Reads, ReadsDomain, ReadsExpr}
use Rattle.ep_tree.specs.Spelling.{DomainLevel, Level, Spells, SpellsDomain, domains, domain_rank, implications, own_domain_level, own_level, rank}
use Rattle.ep_tree.specs.Trees.{DomainTree, ExprTree}
use Rattle.ep_tree.specs.Views.{domain_tree, expr_tree}
use Rattle.ep_tree.specs.declared.syntax.Domain.{Domain}
use Rattle.ep_tree.specs.declared.syntax.Expr.{Expr}
use Rattle.ep_parse_expr.specs.Answers.{AnswersDomain, AnswersExpr}
use Rattle.ep_parse_parts.specs.Readers.{Read, Reader, high, took, wrong}
use Rattle.ep_parse_parts.specs.TreeReaders.{expr_from, some_domain_from}
use Rattle.ep_parse_expr.specs.declared.errors.ParseError.{ParseError}
use Rattle.ep_parse_expr.specs.declared.errors.ParseError.TheVariants.{Memory, Syntax, TooHigh}
use Rattle.ep_parse_parts.proofs.AgainAll.{domain_again, whole_again, zero_least}
use Rattle.ep_parse_expr.proofs.Completing.{Half, Refuses}
use Rattle.ep_parse_expr.proofs.CompletingAll.{all_open}
use Rattle.ep_parse_parts.proofs.Sound.{domain_sound, expr_sound}
use Rattle.ep_parse_expr.proofs.Steady.{Cut, Cuts, Steady, StopsSo, behind_too, high_alone, high_both, took_both, wrong_both}
use Rattle.ep_parse_expr.proofs.SteadyAll.{all_steady}
use Rattle.ep_parse_expr.proofs.SteadyOperators.{Higher}
use Rattle.ep_parse_expr.proofs.Stopping.{compared, cut_off, high_ends, higher_by, stops_at, took_ends, wrong_ends, wrong_incomplete}

-- the tokens of a tree, which may not be higher than so much where it is limited
abbrev pub ATree : {A : Type 0} → (A → Phrase) → (A → ℕ) → ℕ → Bool → Phrase
ATree {A} spells height_of most b front = (tree : A) × (b ≡ true → height_of tree ≤ most) × spells tree front

-- the first tokens spell a tree that isn't higher than so much
pub record Front {A : Type 0} (spells : A → Phrase) (height_of : A → ℕ) (most : ℕ) (ls : List Lexeme) (x : A) (rest : List Lexeme) : Type 0 where
  pub front : List Lexeme
  pub parts : ls ≡ front ++ rest
  pub spelled : spells x front
  pub low : height_of x ≤ most

module _ {A : Type 0} (spells : A → Phrase) (height_of : A → ℕ) (reader : ℕ → Reader A)
    (complete : (most : ℕ) (tree : A) (ls : List Lexeme) → spells tree ls → height_of tree ≤ most → reader most ls ≡ took tree [])
    (steady : (c : Cut) (most most2 : ℕ) → Higher c most most2 → (ls ls2 : List Lexeme) → Cuts c ls ls2 → Steady c (length ls) (reader most ls) (reader most2 ls2))
    (sound : (most : ℕ) (ls : List Lexeme) (x : A) (rest : List Lexeme) → reader most ls ≡ took x rest → Front spells height_of most ls x rest)
    (refuses : (most : ℕ) (ls : List Lexeme) → Refuses (ATree spells height_of most) ls (reader most ls)) where
  -- the place of the tokens that are left
  record At (ls rest : List Lexeme) (says : ℕ → Type 0) : Type 0 where
    count : ℕ
    counted : length ls ≡ count + length rest
    is : says count

  counts : (ls front rest : List Lexeme) → ls ≡ front ++ rest → length ls ≡ length front + length rest
  counts ls front rest e = ap length e ∙ length-append front rest

  low_begins : (most : ℕ) (front : List Lexeme) → Half (ATree spells height_of most) front → 0 < length front → Begins (Low height_of most spells) front
  low_begins most front (inl e) some = let none : length front ≡ 0 = ap length e in absurd (omega (arith, some, none))
  low_begins most front (inr o) some = (o.1.0, o.0, (o.1.1 refl, o.1.2))

  any_begins : (most : ℕ) (front : List Lexeme) → Begins (Low height_of most spells) front → Begins spells front
  any_begins most front b = (b.0, b.1, b.2.1)

  reads_it : (most : ℕ) (ls : List Lexeme) (x : A) (rest : List Lexeme) → reader most ls ≡ took x rest → At ls rest (λ count. Reads spells height_of most ls count x)
  reads_it most ls x rest e =
      let f = sound most ls x rest e in
      let here : reader most (f.front ++ rest) ≡ took x rest = subst (λ z. reader most z ≡ took x rest) f.parts e in
      record {
        count = length f.front;
        counted = counts ls f.front rest f.parts;
        is = subst (λ z. Reads spells height_of most z (length f.front) x) (sym f.parts) (record {
          stops = stops_at (Begins spells) f.front rest (λ _. (x, [], subst (spells x) (sym (append-nil f.front)) f.spelled))
              (λ t a k b. took_ends spells height_of reader complete steady most f.front a t x (subst (λ z. reader most (f.front ++ z) ≡ took x z) k here) b);
          spelled = subst (spells x) (sym (take-append_seam f.front rest)) f.spelled;
          low = f.low;
        });
      }

  is_fault : (most : ℕ) (ls rest : List Lexeme) → reader most ls ≡ wrong rest → At ls rest (λ count. IsSyntaxFault spells height_of most ls count)
  is_fault most ls rest e =
      let h = refuses most ls in
      let w = h.wrong_at rest e in
      let here : reader most (w.front ++ rest) ≡ wrong rest = subst (λ z. reader most z ≡ wrong rest) w.parts e in
      let at : (t : Lexeme) (a : List Lexeme) → rest ≡ t ∷ a → Begins spells (w.front ++ t ∷ []) → ⊥ =
      λ t a k b. wrong_ends spells height_of reader complete steady most w.front a t (subst (λ z. reader most (w.front ++ z) ≡ wrong z) k here) b in
      record {
        count = length w.front;
        counted = counts ls w.front rest w.parts;
        is = subst (λ z. IsSyntaxFault spells height_of most z (length w.front)) (sym w.parts) (record {
          stops = stops_at (Begins (Low height_of most spells)) w.front rest (low_begins most w.front w.half) (λ t a k b. at t a k (any_begins most (w.front ++ t ∷ []) b));
          no_higher = stops_at (Begins spells) w.front rest (λ some. any_begins most w.front (low_begins most w.front w.half some)) at;
          incomplete = λ tree s. wrong_incomplete spells height_of reader complete steady most w.front rest here tree (subst (spells tree) (take-append_seam w.front rest) s);
        });
      }

  is_too_high : (most : ℕ) (ls rest : List Lexeme) → reader most ls ≡ high rest → At ls rest (λ count. IsTooHigh spells height_of most ls count)
  is_too_high most ls rest e =
      let h = refuses most ls in
      let w = h.high_at rest e in
      let parts : ls ≡ w.front ++ rest = w.parts ∙ ap (λ z. w.front ++ z) (sym w.left) in
      let here : reader most (w.front ++ rest) ≡ high rest = subst (λ z. reader most z ≡ high rest) parts e in
      let long : length rest ≡ suc (length w.after) = ap length w.left in
      record {
        count = length w.front;
        counted = counts ls w.front rest parts;
        is = subst (λ z. IsTooHigh spells height_of most z (length w.front)) (sym parts) (record {
          stops = stops_at (Begins (Low height_of most spells)) w.front rest (low_begins most w.front w.half)
              (λ t a k b. high_ends spells height_of reader complete steady most w.front a t (subst (λ z. reader most (w.front ++ z) ≡ high z) k here) b);
          inside = omega (arith, length-append w.front rest, long);
          higher = (w.higher.1.0, w.higher.0, subst (λ z. spells w.higher.1.0 (z ++ w.higher.0)) (sym (one_more w.front rest w.token w.after w.left)) w.higher.1.2);
        });
      }
    where
      one_more : (front rest : List Lexeme) (t : Lexeme) (a : List Lexeme) → rest ≡ t ∷ a → take (suc (length front)) (front ++ rest) ≡ front ++ t ∷ []
      one_more front rest t a k =
          let one : suc (length front) ≡ length front + 1 = omega arith in
          ap (λ n. take n (front ++ rest)) one ∙ ap (λ z. take (length front + 1) (front ++ z)) k ∙ take-append-add front (t ∷ a) 1

  -- A tree that a front spells is no higher than one that goes on from it.
  pub front_no_higher : (one other : A) (front more : List Lexeme) → spells one front → spells other (front ++ more) → height_of one ≤ height_of other
  unfolding cut_off
  front_no_higher one other front more s k = go (reader most front) refl
    where
      most : ℕ
      most = height_of other

      whole : reader (most + height_of one) (front ++ []) ≡ took one []
      whole = complete (most + height_of one) one (front ++ []) (subst (spells one) (sym (append-nil front)) s) (omega arith)

      both : StopsSo (cut_off spells height_of reader complete steady []) (reader most (front ++ [])) (reader (most + height_of one) (front ++ []))
      both = compared spells height_of reader complete steady (cut_off spells height_of reader complete steady []) most (most + height_of one) (higher_by spells height_of reader complete steady (cut_off spells height_of reader complete steady []) refl most (height_of one)) front

      found : A → Read A → A
      found d (took x ls) = x
      found d (wrong ls) = d
      found d (high ls) = d

      by : StopsSo (cut_off spells height_of reader complete steady []) (reader most (front ++ [])) (reader (most + height_of one) (front ++ [])) → height_of one ≤ most
      by (behind_too p) = absurd (omega (arith, p))
      by (took_both x f e e2) =
          let same : one ≡ x = ap (found one) (sym whole ∙ e2) in
          let h = sound most (front ++ []) x (f ++ []) e in
          subst (λ z. height_of z ≤ most) (sym same) h.low
      by (wrong_both f e e2) = let no : took one [] ≡ wrong (f ++ []) = sym whole ∙ e2 in absurd cc
      by (high_both f e e2) = let no : took one [] ≡ high (f ++ []) = sym whole ∙ e2 in absurd cc
      by (high_alone z e inexact) =
          let h = refuses most (front ++ []) in
          let w = h.high_at z e in
          let parts : front ≡ w.front ++ w.token ∷ w.after = sym (append-nil front) ∙ w.parts in
          let here : reader most (w.front ++ w.token ∷ w.after) ≡ high (w.token ∷ w.after) = subst (λ y. reader most y ≡ high (w.token ∷ w.after)) w.parts (e ∙ ap (λ y. high y) w.left) in
          absurd (high_ends spells height_of reader complete steady most w.front w.after w.token here
          (other, w.after ++ more, (omega arith, subst (spells other) (ap (λ y. y ++ more) parts ∙ append_assoc w.front (w.token ∷ w.after) more ∙ sym (append_assoc w.front (w.token ∷ []) (w.after ++ more))) k)))

      go : (r : Read A) → reader most front ≡ r → height_of one ≤ most
      go r e = by both

  -- ---- from a token on

  -- Some tokens are left from a number on.
  pub record Leaves (tokens : List Lexeme) (number : ℕ) (is : List Lexeme → Type 0) : Type 0 where
    pub left : List Lexeme
    pub counted : number + length left ≡ length tokens
    pub leaves : is left

  from_token : (says : List Lexeme → ℕ → Type 0) (from : ℕ) (tokens left : List Lexeme) (number : ℕ) → from ≤ length tokens → number + length left ≡ length tokens → At (drop from tokens) left (says (drop from tokens)) → FromToken says from tokens number
  from_token says from tokens left number within counted at =
      let whole : length (take from tokens ++ drop from tokens) ≡ length tokens = ap length (take-append-drop from tokens) in
      let first = length-take-le from tokens within in
      (at.count, (let there = at.counted in omega (arith, counted, whole, first, there, length-append (take from tokens) (drop from tokens))), at.is)

  pub reads_from : (most from : ℕ) (tokens : List Lexeme) (x : A) (number : ℕ) → from ≤ length tokens → Leaves tokens number (λ left. reader most (drop from tokens) ≡ took x left)
      → FromToken (λ these count. Reads spells height_of most these count x) from tokens number
  reads_from most from tokens x number within l = from_token (λ these count. Reads spells height_of most these count x) from tokens l.left number within l.counted (reads_it most (drop from tokens) x l.left l.leaves)

  pub fault_from : (most from : ℕ) (tokens : List Lexeme) (number : ℕ) → from ≤ length tokens → Leaves tokens number (λ left. reader most (drop from tokens) ≡ wrong left) → FromToken (IsSyntaxFault spells height_of most) from tokens number
  fault_from most from tokens number within l = from_token (IsSyntaxFault spells height_of most) from tokens l.left number within l.counted (is_fault most (drop from tokens) l.left l.leaves)

  pub too_high_from : (most from : ℕ) (tokens : List Lexeme) (number : ℕ) → from ≤ length tokens → Leaves tokens number (λ left. reader most (drop from tokens) ≡ high left) → FromToken (IsTooHigh spells height_of most) from tokens number
  too_high_from most from tokens number within l = from_token (IsTooHigh spells height_of most) from tokens l.left number within l.counted (is_too_high most (drop from tokens) l.left l.leaves)

-- ---- expressions and domains

abbrev pub expr_reader : ℕ → Reader ExprTree
expr_reader most = expr_from most implications

abbrev pub domain_reader : ℕ → Reader DomainTree
domain_reader most = some_domain_from most domains

expr_steady : (c : Cut) (most most2 : ℕ) → Higher c most most2 → (ls ls2 : List Lexeme) → Cuts c ls ls2 → Steady c (length ls) (expr_reader most ls) (expr_reader most2 ls2)
expr_steady c most most2 higher ls ls2 s = let h = all_steady c most most2 higher in h.expr implications ls ls2 s

domain_steady : (c : Cut) (most most2 : ℕ) → Higher c most most2 → (ls ls2 : List Lexeme) → Cuts c ls ls2 → Steady c (length ls) (domain_reader most ls) (domain_reader most2 ls2)
domain_steady c most most2 higher ls ls2 s = let h = all_steady c most most2 higher in h.domain domains ls ls2 s

expr_front : (most : ℕ) (ls : List Lexeme) (x : ExprTree) (rest : List Lexeme) → expr_reader most ls ≡ took x rest → Front (Spells implications) height most ls x rest
unfolding rank
expr_front most ls x rest e = let h = expr_sound most implications refl ls in let i = h.holds x rest e in record { front = i.front; parts = i.parts; spelled = i.spelled; low = i.low }

domain_front : (most : ℕ) (ls : List Lexeme) (x : DomainTree) (rest : List Lexeme) → domain_reader most ls ≡ took x rest → Front (SpellsDomain domains) domain_height most ls x rest
domain_front most ls x rest e = let h = domain_sound most domains ls in let i = h.holds x rest e in record { front = i.front; parts = i.parts; spelled = i.spelled; low = i.low }

expr_refuses : (most : ℕ) (ls : List Lexeme) → Refuses (ATree (Spells implications) height most) ls (expr_reader most ls)
unfolding rank
expr_refuses most ls = let h = all_open most in h.expr implications refl ls

domain_refuses : (most : ℕ) (ls : List Lexeme) → Refuses (ATree (SpellsDomain domains) domain_height most) ls (domain_reader most ls)
domain_refuses most ls = let h = all_open most in h.domain domains ls

-- Some tokens are left from a number on.
pub record LeavesFrom (tokens : List Lexeme) (number : ℕ) (is : List Lexeme → Type 0) : Type 0 where
  pub left : List Lexeme
  pub counted : number + length left ≡ length tokens
  pub leaves : is left

-- The result of a call is what the reader of expressions gives from a token on; want of memory says nothing.
abbrev pub GivesExpr : ℕ → ℕ → List Lexeme → Result (Expr × ℕ) ParseError → Type 0
GivesExpr most from tokens (Ok found) = LeavesFrom tokens found.1 (λ left. expr_from most implications (drop from tokens) ≡ took (expr_tree found.0) left)
GivesExpr most from tokens (Err (Syntax number)) = LeavesFrom tokens number (λ left. expr_from most implications (drop from tokens) ≡ wrong left)
GivesExpr most from tokens (Err (TooHigh number)) = LeavesFrom tokens number (λ left. expr_from most implications (drop from tokens) ≡ high left)
GivesExpr most from tokens (Err Memory) = Unit {0}

-- and of domains
abbrev pub GivesDomain : ℕ → ℕ → List Lexeme → Result (Domain × ℕ) ParseError → Type 0
GivesDomain most from tokens (Ok found) = LeavesFrom tokens found.1 (λ left. some_domain_from most domains (drop from tokens) ≡ took (domain_tree found.0) left)
GivesDomain most from tokens (Err (Syntax number)) = LeavesFrom tokens number (λ left. some_domain_from most domains (drop from tokens) ≡ wrong left)
GivesDomain most from tokens (Err (TooHigh number)) = LeavesFrom tokens number (λ left. some_domain_from most domains (drop from tokens) ≡ high left)
GivesDomain most from tokens (Err Memory) = Unit {0}

-- What the reader of expressions gives is what a call answers.
pub answers_expr : (most from : ℕ) (tokens : List Lexeme) (result : Result (Expr × ℕ) ParseError) → from ≤ length tokens → GivesExpr most from tokens result → AnswersExpr most from tokens result
answers_expr most from tokens (Ok found) within g =
    reads_from (Spells implications) height expr_reader whole_again expr_steady expr_front expr_refuses most from tokens (expr_tree found.0) found.1 within (record { left = g.left; counted = g.counted; leaves = g.leaves })
answers_expr most from tokens (Err (Syntax number)) within g =
    fault_from (Spells implications) height expr_reader whole_again expr_steady expr_front expr_refuses most from tokens number within (record { left = g.left; counted = g.counted; leaves = g.leaves })
answers_expr most from tokens (Err (TooHigh number)) within g =
    too_high_from (Spells implications) height expr_reader whole_again expr_steady expr_front expr_refuses most from tokens number within (record { left = g.left; counted = g.counted; leaves = g.leaves })
answers_expr most from tokens (Err Memory) within g = tt

-- What the reader of domains gives is what a call answers.
pub answers_domain : (most from : ℕ) (tokens : List Lexeme) (result : Result (Domain × ℕ) ParseError) → from ≤ length tokens → GivesDomain most from tokens result → AnswersDomain most from tokens result
answers_domain most from tokens (Ok found) within g =
    reads_from (SpellsDomain domains) domain_height domain_reader domain_again domain_steady domain_front domain_refuses most from tokens (domain_tree found.0) found.1 within (record { left = g.left; counted = g.counted; leaves = g.leaves })
answers_domain most from tokens (Err (Syntax number)) within g =
    fault_from (SpellsDomain domains) domain_height domain_reader domain_again domain_steady domain_front domain_refuses most from tokens number within (record { left = g.left; counted = g.counted; leaves = g.leaves })
answers_domain most from tokens (Err (TooHigh number)) within g =
    too_high_from (SpellsDomain domains) domain_height domain_reader domain_again domain_steady domain_front domain_refuses most from tokens number within (record { left = g.left; counted = g.counted; leaves = g.leaves })
answers_domain most from tokens (Err Memory) within g = tt

-- ---- laws

-- An expression that a front spells is no higher than one that goes on from it.
pub front_expr : (level : Level) (one other : ExprTree) (front more : List Lexeme) → Spells level one front → Spells level other (front ++ more) → height one ≤ height other
unfolding rank
front_expr level one other front more s k =
    front_no_higher (Spells implications) height expr_reader whole_again expr_steady expr_front expr_refuses one other front more (zero_least (rank (own_level one)), s.1) (zero_least (rank (own_level other)), k.1)

-- the same of domains
pub front_domain : (level : DomainLevel) (one other : DomainTree) (front more : List Lexeme) → SpellsDomain level one front → SpellsDomain level other (front ++ more) → domain_height one ≤ domain_height other
unfolding domain_rank
front_domain level one other front more s k =
    front_no_higher (SpellsDomain domains) domain_height domain_reader domain_again domain_steady domain_front domain_refuses one other front more (zero_least (domain_rank (own_domain_level one)), s.1) (zero_least (domain_rank (own_domain_level other)), k.1)

-- Tokens are an expression as far as one goes on, or a token is a fault of syntax, or one of height.
pub outcome_expr : (most from : ℕ) (tokens : List Lexeme) → ((e : ExprTree) × (number : ℕ) × ReadsExpr most from tokens e number) ⊎ (((number : ℕ) × ExprFault most from tokens number) ⊎ ((number : ℕ) × ExprTooHigh most from tokens number))
outcome_expr most from tokens = go (expr_from most implications (drop from tokens)) refl
  where
    go : (r : Read ExprTree) → expr_from most implications (drop from tokens) ≡ r → ((e : ExprTree) × (number : ℕ) × ReadsExpr most from tokens e number) ⊎ (((number : ℕ) × ExprFault most from tokens number) ⊎ ((number : ℕ) × ExprTooHigh most from tokens number))
    go (took x rest) e = let h = reads_it (Spells implications) height expr_reader whole_again expr_steady expr_front expr_refuses most (drop from tokens) x rest e in inl (x, from + h.count, (h.count, refl, h.is))
    go (wrong rest) e = let h = is_fault (Spells implications) height expr_reader whole_again expr_steady expr_front expr_refuses most (drop from tokens) rest e in inr (inl (from + h.count, (h.count, refl, h.is)))
    go (high rest) e = let h = is_too_high (Spells implications) height expr_reader whole_again expr_steady expr_front expr_refuses most (drop from tokens) rest e in inr (inr (from + h.count, (h.count, refl, h.is)))

-- the same of domains
pub outcome_domain : (most from : ℕ) (tokens : List Lexeme) → ((d : DomainTree) × (number : ℕ) × ReadsDomain most from tokens d number) ⊎ (((number : ℕ) × DomainFault most from tokens number) ⊎ ((number : ℕ) × DomainTooHigh most from tokens number))
outcome_domain most from tokens = go (some_domain_from most domains (drop from tokens)) refl
  where
    go : (r : Read DomainTree) → some_domain_from most domains (drop from tokens) ≡ r → ((d : DomainTree) × (number : ℕ) × ReadsDomain most from tokens d number) ⊎ (((number : ℕ) × DomainFault most from tokens number) ⊎ ((number : ℕ) × DomainTooHigh most from tokens number))
    go (took x rest) e = let h = reads_it (SpellsDomain domains) domain_height domain_reader domain_again domain_steady domain_front domain_refuses most (drop from tokens) x rest e in inl (x, from + h.count, (h.count, refl, h.is))
    go (wrong rest) e = let h = is_fault (SpellsDomain domains) domain_height domain_reader domain_again domain_steady domain_front domain_refuses most (drop from tokens) rest e in inr (inl (from + h.count, (h.count, refl, h.is)))
    go (high rest) e = let h = is_too_high (SpellsDomain domains) domain_height domain_reader domain_again domain_steady domain_front domain_refuses most (drop from tokens) rest e in inr (inr (from + h.count, (h.count, refl, h.is)))

-- the same of a whole list
pub list_outcome_expr : (most : ℕ) (ls : List Lexeme) → ((e : ExprTree) × (count : ℕ) × Reads (Spells implications) height most ls count e) ⊎ (((count : ℕ) × IsSyntaxFault (Spells implications) height most ls count) ⊎ ((count : ℕ) × IsTooHigh (Spells implications) height most ls count))
list_outcome_expr most ls = go (outcome_expr most 0 ls)
  where
    go : ((e : ExprTree) × (number : ℕ) × ReadsExpr most 0 ls e number) ⊎ (((number : ℕ) × ExprFault most 0 ls number) ⊎ ((number : ℕ) × ExprTooHigh most 0 ls number))
        → ((e : ExprTree) × (count : ℕ) × Reads (Spells implications) height most ls count e) ⊎ (((count : ℕ) × IsSyntaxFault (Spells implications) height most ls count) ⊎ ((count : ℕ) × IsTooHigh (Spells implications) height most ls count))
    go (inl r) = inl (r.0, r.2.0, r.2.2)
    go (inr (inl f)) = inr (inl (f.1.0, f.1.2))
    go (inr (inr h)) = inr (inr (h.1.0, h.1.2))

pub list_outcome_domain : (most : ℕ) (ls : List Lexeme) → ((d : DomainTree) × (count : ℕ) × Reads (SpellsDomain domains) domain_height most ls count d) ⊎ (((count : ℕ) × IsSyntaxFault (SpellsDomain domains) domain_height most ls count) ⊎ ((count : ℕ) × IsTooHigh (SpellsDomain domains) domain_height most ls count))
list_outcome_domain most ls = go (outcome_domain most 0 ls)
  where
    go : ((d : DomainTree) × (number : ℕ) × ReadsDomain most 0 ls d number) ⊎ (((number : ℕ) × DomainFault most 0 ls number) ⊎ ((number : ℕ) × DomainTooHigh most 0 ls number))
        → ((d : DomainTree) × (count : ℕ) × Reads (SpellsDomain domains) domain_height most ls count d) ⊎ (((count : ℕ) × IsSyntaxFault (SpellsDomain domains) domain_height most ls count) ⊎ ((count : ℕ) × IsTooHigh (SpellsDomain domains) domain_height most ls count))
    go (inl r) = inl (r.0, r.2.0, r.2.2)
    go (inr (inl f)) = inr (inl (f.1.0, f.1.2))
    go (inr (inr h)) = inr (inr (h.1.0, h.1.2))
