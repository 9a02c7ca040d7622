-- Parts, words, names and the ends of lists are read again, with what follows them.
use Rattle.std.specs.Prelude.{◌≡◌, ℕ, zero, suc, ◌≤◌, Bool, true, false, nat_lt, List, [], ◌∷◌, ◌++◌, length, codes, refl}
use Rattle.std.proofs.Common.{ap, arith, sym, subst, ◌∙◌, length-append, append_assoc}
use Rattle.std.proofs.lemmas.Bool.Decides.{nat_tests}
use Rattle.ep_base.specs.declared.names.Name.{Name}
use Rattle.ep_base.specs.declared.places.Place.{Place}
use Rattle.ep_tree.specs.Heights.{domain_height, height, index_height}
use Rattle.ep_tree.specs.Phrases.{Is, Lexeme, Names, Phrase, a_name, a_word, ◌followed_by◌}
use Rattle.ep_tree.specs.Spelling.{Spells, SpellsDomain, SpellsIndexDomain, SpellsMore, SpellsNode, implications, rank, set_operations}
use Rattle.ep_tree.specs.Trees.{DomainTree, ExprTree, ExprTrees, IndexDomain, bool, group_domain, int, matrix_domain, named_domain, no_trees, over, ranges, set_domain, tree_and, unstated}
use Rattle.ep_parse_parts.specs.OperandReaders.{Lower, closed_by, colon_comes, index_domain_from, list_end}
use Rattle.ep_parse_parts.specs.Readers.{Reader, behind_comma, looked_up, more_from, name_from, name_in, names_from, next_in, says, took, word_from, ◌and_then◌}
use Rattle.ep_parse_parts.proofs.Again.{AreComplete, DomainEnds, NoImplications, behind_word_cut, lexeme, word_again}

-- whatever tokens say this, with others behind them, a reader takes as this
abbrev pub Again : {A : Type 0} → Phrase → Reader A → A → List Lexeme → Type 0
Again phrase reader x rest = (front : List Lexeme) → phrase front → reader (front ++ rest) ≡ took x rest

-- whatever tokens say this, with others behind them, end an expression that stands before them
abbrev pub EndsExpr : Phrase → List Lexeme → Type 0
EndsExpr phrase rest = (front : List Lexeme) → phrase front → NoImplications (front ++ rest)

-- the same of a domain
abbrev pub EndsDomain : Phrase → List Lexeme → Type 0
EndsDomain phrase rest = (front : List Lexeme) → phrase front → DomainEnds (front ++ rest)

-- ---- words that end what stands before them

-- no expression goes on with this word, and no domain
pub record Closes (w : List ℕ) : Type 0 where
  pub expr : (p : Place) (ls : List Lexeme) → NoImplications (lexeme p (a_word w) ∷ ls)
  pub domain : (p : Place) (ls : List Lexeme) → DomainEnds (lexeme p (a_word w) ∷ ls)

pub comma_closes : Closes (codes ",")
unfolding next_in looked_up says
comma_closes =
    record { expr = λ p ls. record { tighter = record { tighter = record { tighter = record { tighter = record { tighter = record { tighter = record { tighter = record { bracket = refl }; none = refl }; none = refl }; none = refl }; none = refl; no_set = refl; no_group = refl }; none = refl }; none = refl }; none = refl }; domain = λ p ls. record { none = refl; no_group = refl } }

pub group_closes : Closes (codes ")")
unfolding next_in looked_up says
group_closes =
    record { expr = λ p ls. record { tighter = record { tighter = record { tighter = record { tighter = record { tighter = record { tighter = record { tighter = record { bracket = refl }; none = refl }; none = refl }; none = refl }; none = refl; no_set = refl; no_group = refl }; none = refl }; none = refl }; none = refl }; domain = λ p ls. record { none = refl; no_group = refl } }

pub bar_closes : Closes (codes "|")
unfolding next_in looked_up says
bar_closes =
    record { expr = λ p ls. record { tighter = record { tighter = record { tighter = record { tighter = record { tighter = record { tighter = record { tighter = record { bracket = refl }; none = refl }; none = refl }; none = refl }; none = refl; no_set = refl; no_group = refl }; none = refl }; none = refl }; none = refl }; domain = λ p ls. record { none = refl; no_group = refl } }

pub semicolon_closes : Closes (codes ";")
unfolding next_in looked_up says
semicolon_closes =
    record { expr = λ p ls. record { tighter = record { tighter = record { tighter = record { tighter = record { tighter = record { tighter = record { tighter = record { bracket = refl }; none = refl }; none = refl }; none = refl }; none = refl; no_set = refl; no_group = refl }; none = refl }; none = refl }; none = refl }; domain = λ p ls. record { none = refl; no_group = refl } }

pub bracket_closes : Closes (codes "]")
unfolding next_in looked_up says
bracket_closes =
    record { expr = λ p ls. record { tighter = record { tighter = record { tighter = record { tighter = record { tighter = record { tighter = record { tighter = record { bracket = refl }; none = refl }; none = refl }; none = refl }; none = refl; no_set = refl; no_group = refl }; none = refl }; none = refl }; none = refl }; domain = λ p ls. record { none = refl; no_group = refl } }

pub dot_closes : Closes (codes ".")
unfolding next_in looked_up says
dot_closes =
    record { expr = λ p ls. record { tighter = record { tighter = record { tighter = record { tighter = record { tighter = record { tighter = record { tighter = record { bracket = refl }; none = refl }; none = refl }; none = refl }; none = refl; no_set = refl; no_group = refl }; none = refl }; none = refl }; none = refl }; domain = λ p ls. record { none = refl; no_group = refl } }

pub span_closes : Closes (codes "..")
unfolding next_in looked_up says
span_closes =
    record { expr = λ p ls. record { tighter = record { tighter = record { tighter = record { tighter = record { tighter = record { tighter = record { tighter = record { bracket = refl }; none = refl }; none = refl }; none = refl }; none = refl; no_set = refl; no_group = refl }; none = refl }; none = refl }; none = refl }; domain = λ p ls. record { none = refl; no_group = refl } }

pub word_ends : (w : List ℕ) (P : Phrase) (rest : List Lexeme) → Closes w → EndsExpr (Is (a_word w) followed_by P) rest
word_ends w P rest closes front h =
    let c = behind_word_cut w P front h in subst (λ x. NoImplications (x ++ rest)) (sym c.parts) (closes.expr c.place (c.rest ++ rest))

pub last_ends : (w : List ℕ) (rest : List Lexeme) → Closes w → EndsExpr (Is (a_word w)) rest
last_ends w rest closes front h = subst (λ x. NoImplications (x ++ rest)) (sym h.1) (closes.expr h.0 rest)

pub word_ends_domain : (w : List ℕ) (P : Phrase) (rest : List Lexeme) → Closes w → EndsDomain (Is (a_word w) followed_by P) rest
word_ends_domain w P rest closes front h =
    let c = behind_word_cut w P front h in subst (λ x. DomainEnds (x ++ rest)) (sym c.parts) (closes.domain c.place (c.rest ++ rest))

pub last_ends_domain : (w : List ℕ) (rest : List Lexeme) → Closes w → EndsDomain (Is (a_word w)) rest
last_ends_domain w rest closes front h = subst (λ x. DomainEnds (x ++ rest)) (sym h.1) (closes.domain h.0 rest)

-- ---- words

pub word_then : {B : Type 0} (w : List ℕ) (P : Phrase) (k : Place → Reader B) (b : B) (rest : List Lexeme) → ((p : Place) → Again P (k p) b rest)
    → Again (Is (a_word w) followed_by P) (λ ls. word_from w ls and_then k) b rest
word_then w P k b rest on front h =
    let c = behind_word_cut w P front h in
    ap (λ x. word_from w (x ++ rest) and_then k) c.parts ∙ ap (λ r. r and_then k) (word_again w c.place (c.rest ++ rest)) ∙ on c.place c.rest c.spelled

-- a word that closes a node
pub closed_again : (w : List ℕ) (e : ExprTree) (rest : List Lexeme) → Again (Is (a_word w)) (closed_by w e) e rest
closed_again w e rest front h =
    ap (λ x. word_from w (x ++ rest) and_then λ _ end. took e end) h.1 ∙ ap (λ r. r and_then λ _ end. took e end) (word_again w h.0 rest)

-- ---- names

-- names that begin with this one, cut behind it, are read again, and a colon behind them is seen
pub record NamesCut (x : Name) (xs : List Name) (front : List Lexeme) : Type 0 where
  pub place : Place
  pub rest : List Lexeme
  pub parts : front ≡ lexeme place (a_name x) ∷ rest
  pub more : (n : ℕ) (last : Name) (tail : List Lexeme) → length rest ≤ n → says (codes ",") tail ≡ false → more_from behind_comma (λ _. name_from) n last (rest ++ tail) ≡ took xs tail
  pub colon : (tail : List Lexeme) → colon_comes false tail ≡ true → colon_comes false (rest ++ tail) ≡ true

no_more_names : (n : ℕ) (last : Name) (tail : List Lexeme) → says (codes ",") tail ≡ false → more_from behind_comma (λ _. name_from) n last tail ≡ took [] tail
unfolding more_from
no_more_names zero last tail none = refl
no_more_names (suc n) last tail none = rw none refl

one_more_name : (n : ℕ) (last y : Name) (ys : List Name) (p q : Place) (mid tail : List Lexeme) → more_from behind_comma (λ _. name_from) n y mid ≡ took ys tail
    → more_from behind_comma (λ _. name_from) (suc n) last (lexeme p (a_word (codes ",")) ∷ lexeme q (a_name y) ∷ mid) ≡ took (y ∷ ys) tail
unfolding more_from says name_from name_in
one_more_name n last y ys p q mid tail others = ap (λ r. r and_then λ zs end. took (y ∷ zs) end) others

pub names_cut : (x : Name) (xs : List Name) (front : List Lexeme) → Names (x ∷ xs) front → NamesCut x xs front
unfolding Names colon_comes
names_cut x [] front h =
    record { place = h.0; rest = []; parts = h.1; more = λ n last tail room none. no_more_names n last tail none; colon = λ tail comes. comes }
names_cut x (y ∷ ys) front h =
    let c = behind_word_cut (codes ",") (Names (y ∷ ys)) h.1 h.4 in
    let k = names_cut y ys c.rest c.spelled in
    record {
      place = h.3.0;
      rest = lexeme c.place (a_word (codes ",")) ∷ c.rest;
      parts = h.2 ∙ ap (λ z. z ++ h.1) h.3.1 ∙ ap (λ z. lexeme h.3.0 (a_name x) ∷ z) c.parts;
      more = λ n last tail room none. further c.place c.rest k n last tail room none;
      colon = λ tail comes. ap (λ z. colon_comes false (lexeme c.place (a_word (codes ",")) ∷ (z ++ tail))) k.parts ∙ k.colon tail comes;
    }
  where
    further : (p : Place) (others : List Lexeme) → NamesCut y ys others → (n : ℕ) (last : Name) (tail : List Lexeme) → suc (length others) ≤ n → says (codes ",") tail ≡ false
        → more_from behind_comma (λ _. name_from) n last (lexeme p (a_word (codes ",")) ∷ (others ++ tail)) ≡ took (y ∷ ys) tail
    further p others k zero last tail room none = absurd (omega (arith, room))
    further p others k (suc n) last tail room none =
        let long : length others ≡ suc (length k.rest) = ap length k.parts in
        ap (λ z. more_from behind_comma (λ _. name_from) (suc n) last (lexeme p (a_word (codes ",")) ∷ (z ++ tail))) k.parts
        ∙ one_more_name n last y ys p k.place (k.rest ++ tail) tail (k.more n y tail (omega (arith, room, long)) none)

pub names_again : (xs : List Name) (rest : List Lexeme) → says (codes ",") rest ≡ false → Again (Names xs) names_from xs rest
unfolding Names names_from name_from name_in
names_again [] rest none front h = absurd h
names_again (x ∷ xs) rest none front h =
    let k = names_cut x xs front h in
    ap (λ z. names_from (z ++ rest)) k.parts
    ∙ ap (λ r. r and_then λ ys end. took (x ∷ ys) end) (k.more (length (k.rest ++ rest)) x rest (omega (arith, length-append k.rest rest)) none)

pub names_then : {B : Type 0} (xs : List Name) (P : Phrase) (k : List Name → Reader B) (b : B) (rest : List Lexeme)
    → ((f : List Lexeme) → P f → says (codes ",") (f ++ rest) ≡ false) → Again P (k xs) b rest → Again (Names xs followed_by P) (λ ls. names_from ls and_then k) b rest
names_then xs P k b rest none on front h =
    ap (λ x. names_from x and_then k) (ap (λ x. x ++ rest) h.2 ∙ append_assoc h.0 h.1 rest)
    ∙ ap (λ r. r and_then k) (names_again xs (h.1 ++ rest) (none h.1 h.4) h.0 h.3) ∙ on h.1 h.4

-- a colon behind names is seen
pub names_colon : (xs : List Name) (front tail : List Lexeme) → Names xs front → colon_comes false tail ≡ true → colon_comes true (front ++ tail) ≡ true
unfolding Names colon_comes
names_colon [] front tail h comes = absurd h
names_colon (x ∷ xs) front tail h comes =
    let k = names_cut x xs front h in ap (λ z. colon_comes true (z ++ tail)) k.parts ∙ k.colon tail comes

-- ---- heights

pub some_domain : (d : DomainTree) → 1 ≤ domain_height d
unfolding domain_height
some_domain (bool p) = omega arith
some_domain (int p) = omega arith
some_domain (ranges p rs) = omega arith
some_domain (named_domain p x) = omega arith
some_domain (group_domain p d) = omega arith
some_domain (set_domain p op c d) = omega arith
some_domain (matrix_domain p ds d) = omega arith

pub enough : (n less : ℕ) → 1 ≤ n → n ≤ less → nat_lt 1 (suc less) ≡ true
enough n less h k = let m : 1 ≤ less = omega (arith, h, k) in grind (arith, nat_tests)

-- ---- the end of a list

-- the domain of a list's indices, and its bracket
abbrev pub Tail : IndexDomain → Phrase
Tail d = SpellsIndexDomain d followed_by Is (a_word (codes "]"))

-- what is so of all that begins with a semicolon or a closing bracket is so of the end of a list
pub tail_is : (Q : List Lexeme → Type 0) → ((p : Place) (ls : List Lexeme) → Q (lexeme p (a_word (codes ";")) ∷ ls)) → ((p : Place) (ls : List Lexeme) → Q (lexeme p (a_word (codes "]")) ∷ ls))
    → (d : IndexDomain) (rest front : List Lexeme) → Tail d front → Q (front ++ rest)
unfolding SpellsNode
tail_is Q semicolon bracket unstated rest front h =
    subst (λ x. Q (x ++ rest)) (sym (h.2 ∙ ap (λ x. x ++ h.1) h.3 ∙ h.4.1)) (bracket h.4.0 rest)
tail_is Q semicolon bracket (over d) rest front h =
    let c = behind_word_cut (codes ";") (SpellsDomain set_operations d) h.0 h.3 in
    subst (λ x. Q (x ++ rest)) (sym (h.2 ∙ ap (λ x. x ++ h.1) c.parts)) (semicolon c.place ((c.rest ++ h.1) ++ rest))

-- the same of the end of a list with further items
pub more_is : (Q : List Lexeme → Type 0) → ((p : Place) (ls : List Lexeme) → Q (lexeme p (a_word (codes ",")) ∷ ls)) → ((p : Place) (ls : List Lexeme) → Q (lexeme p (a_word (codes ";")) ∷ ls))
    → ((p : Place) (ls : List Lexeme) → Q (lexeme p (a_word (codes "]")) ∷ ls)) → (es : ExprTrees) (d : IndexDomain) (rest front : List Lexeme) → (SpellsMore es followed_by Tail d) front → Q (front ++ rest)
unfolding SpellsNode
more_is Q comma semicolon bracket no_trees d rest front h =
    subst (λ x. Q (x ++ rest)) (sym (h.2 ∙ ap (λ x. x ++ h.1) h.3)) (tail_is Q semicolon bracket d rest h.1 h.4)
more_is Q comma semicolon bracket (tree_and e es) d rest front h =
    let c = behind_word_cut (codes ",") (Spells implications e followed_by SpellsMore es) h.0 h.3 in
    subst (λ x. Q (x ++ rest)) (sym (h.2 ∙ ap (λ x. x ++ h.1) c.parts)) (comma c.place ((c.rest ++ h.1) ++ rest))

-- ---- parts

module _ (less : ℕ) (low : Lower) (good : AreComplete less low) where
  pub expr_then : {B : Type 0} (e : ExprTree) (P : Phrase) (k : ExprTree → Reader B) (b : B) (rest : List Lexeme) → height e ≤ less → EndsExpr P rest → Again P (k e) b rest
      → Again (Spells implications e followed_by P) (λ ls. low.expr implications ls and_then k) b rest
  unfolding rank
  expr_then e P k b rest small ends on front h =
      let after = ends h.1 h.4 in
      ap (λ x. low.expr implications x and_then k) (ap (λ x. x ++ rest) h.2 ∙ append_assoc h.0 h.1 rest)
      ∙ ap (λ r. r and_then k) (good.expr implications refl e h.0 (h.1 ++ rest) h.3 small (record { ends = after; open_ends = λ _. after }))
      ∙ on h.1 h.4

  pub domain_then : {B : Type 0} (d : DomainTree) (P : Phrase) (k : DomainTree → Reader B) (b : B) (rest : List Lexeme) → domain_height d ≤ less → EndsDomain P rest → Again P (k d) b rest
      → Again (SpellsDomain set_operations d followed_by P) (λ ls. low.domain set_operations ls and_then k) b rest
  domain_then d P k b rest small ends on front h =
      ap (λ x. low.domain set_operations x and_then k) (ap (λ x. x ++ rest) h.2 ∙ append_assoc h.0 h.1 rest)
      ∙ ap (λ r. r and_then k) (good.domain set_operations d h.0 (h.1 ++ rest) h.3 small (ends h.1 h.4))
      ∙ on h.1 h.4

  ends_over : (make : IndexDomain → ExprTree) (d : DomainTree) (low_enough : Bool) (p q : Place) (f rest : List Lexeme) → low_enough ≡ true
      → low.domain set_operations (f ++ lexeme q (a_word (codes "]")) ∷ rest) ≡ took d (lexeme q (a_word (codes "]")) ∷ rest)
      → list_end low_enough low make (lexeme p (a_word (codes ";")) ∷ (f ++ lexeme q (a_word (codes "]")) ∷ rest)) ≡ took (make (over d)) rest
  unfolding index_domain_from says word_from
  ends_over make d low_enough p q f rest enough_here again = rw (enough_here, again) refl

  pub list_end_again : (make : IndexDomain → ExprTree) (d : IndexDomain) (low_enough : Bool) (rest : List Lexeme) → index_height d ≤ less → (1 ≤ less → low_enough ≡ true)
      → Again (Tail d) (list_end low_enough low make) (make d) rest
  unfolding SpellsNode index_domain_from says word_from height
  list_end_again make unstated low_enough rest small enough_for front h =
      ap (λ x. list_end low_enough low make (x ++ rest)) (h.2 ∙ ap (λ x. x ++ h.1) h.3 ∙ h.4.1)
  list_end_again make (over d) low_enough rest small enough_for front h =
      let c = behind_word_cut (codes ";") (SpellsDomain set_operations d) h.0 h.3 in
      let last = lexeme h.4.0 (a_word (codes "]")) in
      let cut : front ++ rest ≡ lexeme c.place (a_word (codes ";")) ∷ (c.rest ++ last ∷ rest) =
      ap (λ x. x ++ rest) h.2 ∙ append_assoc h.0 h.1 rest ∙ ap (λ x. x ++ (h.1 ++ rest)) c.parts
      ∙ ap (λ x. lexeme c.place (a_word (codes ";")) ∷ (c.rest ++ (x ++ rest))) h.4.1 in
      ap (list_end low_enough low make) cut
      ∙ ends_over make d low_enough c.place h.4.0 c.rest rest (enough_for (omega (arith, some_domain d, small)))
      (good.domain set_operations d c.rest (last ∷ rest) c.spelled small (bracket_closes.domain h.4.0 rest))
