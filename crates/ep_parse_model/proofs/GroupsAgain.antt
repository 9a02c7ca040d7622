-- Names with places, groups and lists of expressions are read again.
use Rattle.std.specs.Prelude.{◌≡◌, ℕ, zero, suc, ◌+◌, ◌≤◌, max, true, false, List, [], ◌∷◌, ◌++◌, length, codes, refl}
use Rattle.std.proofs.Common.{ap, arith, inl, inr, sym, subst, ◌∙◌, length-append, append-nil, append_assoc}
use Rattle.std.proofs.Math.Nat.{le-max_left, le-max_right}
use Rattle.ep_base.specs.declared.names.Name.{Name}
use Rattle.ep_base.specs.declared.places.Place.{Place}
use Rattle.ep_parse_parts.specs.OperandReaders.{Lower, expression_next}
use Rattle.ep_parse_parts.specs.Readers.{Reader, behind_comma, more_from, others_from, says, took, word_from, ◌and_then◌}
use Rattle.ep_parse_parts.proofs.Again.{AreComplete, DomainEnds, NoImplications, behind_word_cut, lexeme}
use Rattle.ep_parse_parts.proofs.AgainPhrases.{Again, comma_closes, word_then}
use Rattle.ep_parse_parts.proofs.AgainStarts.{expression_seen, starts}
use Rattle.ep_parse_model.specs.TextReaders.{expressions_from, expressions_within, group_from, groups_from, placed_name_from, placed_name_in, placed_names_from}
use Rattle.ep_tree.specs.Heights.{domain_height, height}
use Rattle.ep_tree.specs.Phrases.{From, Is, Lexeme, PlacedNames, Says, Silence, StartsAt, a_name, a_word, ◌or_else◌}
use Rattle.ep_tree.specs.Spelling.{Spells, SpellsDomain, domains, implications, rank}
use Rattle.ep_tree.specs.StatementSpelling.{SpellsExpressions, SpellsGroup, SpellsGroups}
use Rattle.ep_tree.specs.Statements.{Group, highest_group, highest_of}
use Rattle.ep_tree.specs.Trees.{ExprTree}

abbrev comma : Place → Lexeme
comma p = lexeme p (a_word (codes ","))

-- what stands behind a statement: nothing by which it would go on
pub record After (ls : List Lexeme) : Type 0 where
  pub ends : NoImplications ls
  pub domain : DomainEnds ls
  pub no_comma : says (codes ",") ls ≡ false
  pub no_expr : expression_next ls ≡ false

-- ---- names with places

pub placed_alone : (x : Name) (p : Place) (f : List Lexeme) → From p (Is (a_name x)) f → f ≡ lexeme p (a_name x) ∷ []
placed_alone x p f h = h.1.1 ∙ ap (λ q. lexeme q (a_name x) ∷ []) (subst (λ y. StartsAt p y) h.1.1 h.0)

-- names that begin with this one, cut behind it, are read again
pub record PlacedCut (x : Name × Place) (xs : List (Name × Place)) (front : List Lexeme) : Type 0 where
  pub rest : List Lexeme
  pub parts : front ≡ lexeme x.1 (a_name x.0) ∷ rest
  pub more : (n : ℕ) (last : Name × Place) (tail : List Lexeme) → length rest ≤ n → says (codes ",") tail ≡ false → more_from behind_comma (λ _. placed_name_from) n last (rest ++ tail) ≡ took xs tail

no_more_names : (n : ℕ) (last : Name × Place) (tail : List Lexeme) → says (codes ",") tail ≡ false → more_from behind_comma (λ _. placed_name_from) n last tail ≡ took [] tail
unfolding more_from
no_more_names zero last tail none = refl
no_more_names (suc n) last tail none = rw none refl

one_more_name : (n : ℕ) (last y : Name × Place) (ys : List (Name × Place)) (p : Place) (mid tail : List Lexeme) → more_from behind_comma (λ _. placed_name_from) n y mid ≡ took ys tail
    → more_from behind_comma (λ _. placed_name_from) (suc n) last (comma p ∷ lexeme y.1 (a_name y.0) ∷ mid) ≡ took (y ∷ ys) tail
unfolding more_from says placed_name_from placed_name_in
one_more_name n last y ys p mid tail others = ap (λ r. r and_then λ zs end. took (y ∷ zs) end) others

pub placed_cut : (x : Name × Place) (xs : List (Name × Place)) (front : List Lexeme) → PlacedNames (x ∷ xs) front → PlacedCut x xs front
unfolding PlacedNames
placed_cut x [] front h = record { rest = []; parts = placed_alone x.0 x.1 front h; more = λ n last tail room none. no_more_names n last tail none }
placed_cut x (y ∷ ys) front h =
    let c = behind_word_cut (codes ",") (PlacedNames (y ∷ ys)) h.1 h.4 in
    let k = placed_cut y ys c.rest c.spelled in
    record {
      rest = comma c.place ∷ c.rest;
      parts = h.2 ∙ ap (λ z. z ++ h.1) (placed_alone x.0 x.1 h.0 h.3) ∙ ap (λ z. lexeme x.1 (a_name x.0) ∷ z) c.parts;
      more = λ n last tail room none. further c.place c.rest k n last tail room none;
    }
  where
    further : (p : Place) (others : List Lexeme) → PlacedCut y ys others → (n : ℕ) (last : Name × Place) (tail : List Lexeme) → suc (length others) ≤ n → says (codes ",") tail ≡ false
        → more_from behind_comma (λ _. placed_name_from) n last (comma p ∷ (others ++ tail)) ≡ took (y ∷ ys) tail
    further p others k zero last tail room none = absurd (omega (arith, room))
    further p others k (suc n) last tail room none =
        let long : length others ≡ suc (length k.rest) = ap length k.parts in
        ap (λ z. more_from behind_comma (λ _. placed_name_from) (suc n) last (comma p ∷ (z ++ tail))) k.parts
        ∙ one_more_name n last y ys p (k.rest ++ tail) tail (k.more n y tail (omega (arith, room, long)) none)

pub placed_names_again : (xs : List (Name × Place)) (rest : List Lexeme) → says (codes ",") rest ≡ false → Again (PlacedNames xs) placed_names_from xs rest
unfolding PlacedNames placed_names_from placed_name_from placed_name_in
placed_names_again [] rest none front h = absurd h
placed_names_again (x ∷ xs) rest none front h =
    let k = placed_cut x xs front h in
    ap (λ z. placed_names_from (z ++ rest)) k.parts
    ∙ ap (λ r. r and_then λ ys end. took (x ∷ ys) end) (k.more (length (k.rest ++ rest)) x rest (omega (arith, length-append k.rest rest)) none)

-- an expression has a token
some_room : (e : ExprTree) (f rest : List Lexeme) → Spells implications e f → length (f ++ rest) ≤ 0 → ⊥
some_room e [] rest h none = absurd h.1.0
some_room e (l ∷ ls) rest h none = absurd (omega (arith, none))

module _ (less : ℕ) (low : Lower) (good : AreComplete less low) where
  -- ---- groups

  pub group_again : (g : Group) (rest : List Lexeme) → domain_height g.domain ≤ less → DomainEnds rest → Again (SpellsGroup g) (group_from low) g rest
  unfolding group_from says
  group_again g rest small ends front h =
      let c = behind_word_cut (codes ":") (SpellsDomain domains g.domain) h.1 h.4 in
      let no_comma : says (codes ",") (h.1 ++ rest) ≡ false = ap (λ x. says (codes ",") (x ++ rest)) c.parts in
      ap (group_from low) (ap (λ x. x ++ rest) h.2 ∙ append_assoc h.0 h.1 rest)
      ∙ ap (λ r. r and_then λ names next. word_from (codes ":") next and_then λ _ end. low.domain domains end and_then λ d after. took (record { names = names; domain = d }) after)
      (placed_names_again g.names (h.1 ++ rest) no_comma h.0 h.3)
      ∙ word_then (codes ":") (SpellsDomain domains g.domain) (λ _ end. low.domain domains end and_then λ d after. took (record { names = g.names; domain = d }) after) g rest
      (λ _ f k. ap (λ r. r and_then λ d after. took (record { names = g.names; domain = d }) after) (good.domain domains g.domain f rest k small ends)) h.1 h.4

  abbrev item : Group → Reader Group
  item last = group_from low

  groups_end : (n : ℕ) (last : Group) (tail : List Lexeme) → says (codes ",") tail ≡ false → more_from behind_comma item n last tail ≡ took [] tail
  unfolding more_from
  groups_end zero last tail none = refl
  groups_end (suc n) last tail none = rw none refl

  groups_go : (n : ℕ) (last g : Group) (gs : List Group) (p : Place) (next mid tail : List Lexeme) → group_from low next ≡ took g mid
      → more_from behind_comma item n g mid ≡ took gs tail → more_from behind_comma item (suc n) last (comma p ∷ next) ≡ took (g ∷ gs) tail
  unfolding more_from says
  groups_go n last g gs p next mid tail first others = rw (first, others) refl

  -- groups that begin with this one, cut behind it, are read again
  record GroupsCut (g : Group) (gs : List Group) (front : List Lexeme) : Type 0 where
    f : List Lexeme
    r : List Lexeme
    parts : front ≡ f ++ r
    first : SpellsGroup g f
    ends : (tail : List Lexeme) → DomainEnds tail → DomainEnds (r ++ tail)
    more : (n : ℕ) (last : Group) (tail : List Lexeme) → length r ≤ n → highest_group gs ≤ less → After tail → more_from behind_comma item n last (r ++ tail) ≡ took gs tail

  groups_cut : (g : Group) (gs : List Group) (front : List Lexeme) → SpellsGroups (g ∷ gs) front → GroupsCut g gs front
  unfolding SpellsGroups highest_group
  groups_cut g [] front h = record {
    f = front;
    r = [];
    parts = sym (append-nil front);
    first = h;
    ends = λ tail ends. ends;
    more = λ n last tail room small after. groups_end n last tail after.no_comma;
  }
  groups_cut g (y ∷ ys) front h =
      let c = behind_word_cut (codes ",") (SpellsGroups (y ∷ ys)) h.1 h.4 in
      let k = groups_cut y ys c.rest c.spelled in
      record {
        f = h.0;
        r = comma c.place ∷ c.rest;
        parts = h.2 ∙ ap (λ z. h.0 ++ z) c.parts;
        first = h.3;
        ends = λ tail ends. comma_closes.domain c.place (c.rest ++ tail);
        more = λ n last tail room small after. further c.place c.rest k n last tail room small after;
      }
    where
      further : (p : Place) (others : List Lexeme) → GroupsCut y ys others → (n : ℕ) (last : Group) (tail : List Lexeme) → suc (length others) ≤ n → max (domain_height y.domain) (highest_group ys) ≤ less → After tail
          → more_from behind_comma item n last (comma p ∷ (others ++ tail)) ≡ took (y ∷ ys) tail
      further p others k zero last tail room small after = absurd (omega (arith, room))
      further p others k (suc n) last tail room small after =
          let long : length others ≡ length (k.f ++ k.r) = ap length k.parts in
          let low_y : domain_height y.domain ≤ less = omega (arith, small, le-max_left (domain_height y.domain) (highest_group ys)) in
          let low_ys : highest_group ys ≤ less = omega (arith, small, le-max_right (domain_height y.domain) (highest_group ys)) in
          ap (λ z. more_from behind_comma item (suc n) last (comma p ∷ z)) (ap (λ z. z ++ tail) k.parts ∙ append_assoc k.f k.r tail)
          ∙ groups_go n last y ys p (k.f ++ (k.r ++ tail)) (k.r ++ tail) tail (group_again y (k.r ++ tail) low_y (k.ends tail after.domain) k.f k.first)
          (k.more n y tail (omega (arith, room, long, length-append k.f k.r)) low_ys after)

  pub groups_again : (gs : List Group) (rest : List Lexeme) → highest_group gs ≤ less → After rest → Again (SpellsGroups gs) (groups_from low) gs rest
  unfolding groups_from SpellsGroups highest_group
  groups_again [] rest small after front h = absurd h
  groups_again (g ∷ gs) rest small after front h =
      let k = groups_cut g gs front h in
      ap (groups_from low) (ap (λ x. x ++ rest) k.parts ∙ append_assoc k.f k.r rest)
      ∙ ap (λ x. x and_then λ y next. others_from behind_comma item y next and_then λ ys end. took (y ∷ ys) end)
      (group_again g (k.r ++ rest) (omega (arith, small, le-max_left (domain_height g.domain) (highest_group gs))) (k.ends rest after.domain) k.f k.first)
      ∙ ap (λ x. x and_then λ ys end. took (g ∷ ys) end)
      (k.more (length (k.r ++ rest)) g rest (omega (arith, length-append k.r rest)) (omega (arith, small, le-max_right (domain_height g.domain) (highest_group gs))) after)

  -- ---- expressions

  one_again : (e : ExprTree) (f rest : List Lexeme) → Spells implications e f → height e ≤ less → NoImplications rest → low.expr implications (f ++ rest) ≡ took e rest
  unfolding rank
  one_again e f rest h small ends = good.expr implications refl e f rest h small (record { ends = ends; open_ends = λ _. ends })

  none_again : (n : ℕ) (rest : List Lexeme) → expression_next rest ≡ false → expressions_within low n rest ≡ took [] rest
  unfolding expressions_within
  none_again zero rest none = refl
  none_again (suc n) rest none = rw none refl

  -- one expression, with no comma behind it
  last_again : (n : ℕ) (e : ExprTree) (all mid : List Lexeme) → expression_next all ≡ true → low.expr implications all ≡ took e mid → says (codes ",") mid ≡ false
      → expressions_within low (suc n) all ≡ took (e ∷ []) mid
  unfolding expressions_within
  last_again n e all mid seen first none = rw (seen, first, none) refl

  -- one expression, with a comma behind it
  more_again : (n : ℕ) (e : ExprTree) (es : List ExprTree) (all next tail : List Lexeme) (p : Place) → expression_next all ≡ true → low.expr implications all ≡ took e (comma p ∷ next)
      → expressions_within low n next ≡ took es tail → expressions_within low (suc n) all ≡ took (e ∷ es) tail
  unfolding expressions_within says
  more_again n e es all next tail p seen first others = rw (seen, first, others) refl

  seen_in : (e : ExprTree) (f rest : List Lexeme) → Spells implications e f → expression_next (f ++ rest) ≡ true
  seen_in e f rest h = expression_seen f rest (starts e f h.1.1)

  pub exprs_again : (es : List ExprTree) (n : ℕ) (front rest : List Lexeme) → SpellsExpressions es front → length (front ++ rest) ≤ n → highest_of es ≤ less → After rest
      → expressions_within low n (front ++ rest) ≡ took es rest
  unfolding SpellsExpressions highest_of
  exprs_again [] n front rest h room small after = ap (λ x. expressions_within low n (x ++ rest)) h ∙ none_again n rest after.no_expr
  exprs_again (e ∷ []) zero front rest h room small after =
      absurd (some_room e h.0 (h.1 ++ rest) h.3 (subst (λ x. length x ≤ 0) (ap (λ x. x ++ rest) h.2 ∙ append_assoc h.0 h.1 rest) room))
  exprs_again (e ∷ []) (suc n) front rest h room small after = ap (expressions_within low (suc n)) (ap (λ x. x ++ rest) h.2 ∙ append_assoc h.0 h.1 rest) ∙ go h.4
    where
      low_e : height e ≤ less
      low_e = omega (arith, small, le-max_left (height e) 0)

      go : (Silence or_else Says ",") h.1 → expressions_within low (suc n) (h.0 ++ (h.1 ++ rest)) ≡ took (e ∷ []) rest
      go (inl k) =
          ap (λ x. expressions_within low (suc n) (h.0 ++ (x ++ rest))) k
          ∙ last_again n e (h.0 ++ rest) rest (seen_in e h.0 rest h.3) (one_again e h.0 rest h.3 low_e after.ends) after.no_comma
      go (inr k) =
          ap (λ x. expressions_within low (suc n) (h.0 ++ (x ++ rest))) k.1
          ∙ more_again n e [] (h.0 ++ comma k.0 ∷ rest) rest rest k.0 (seen_in e h.0 (comma k.0 ∷ rest) h.3)
          (one_again e h.0 (comma k.0 ∷ rest) h.3 low_e (comma_closes.expr k.0 rest)) (none_again n rest after.no_expr)
  exprs_again (e ∷ y ∷ ys) zero front rest h room small after =
      absurd (some_room e h.0 (h.1 ++ rest) h.3 (subst (λ x. length x ≤ 0) (ap (λ x. x ++ rest) h.2 ∙ append_assoc h.0 h.1 rest) room))
  exprs_again (e ∷ y ∷ ys) (suc n) front rest h room small after =
      let c = behind_word_cut (codes ",") (SpellsExpressions (y ∷ ys)) h.1 h.4 in
      let back = comma c.place ∷ (c.rest ++ rest) in
      let cut : front ++ rest ≡ h.0 ++ back = ap (λ x. x ++ rest) h.2 ∙ append_assoc h.0 h.1 rest ∙ ap (λ x. h.0 ++ (x ++ rest)) c.parts in
      let low_e : height e ≤ less = omega (arith, small, le-max_left (height e) (highest_of (y ∷ ys))) in
      let low_es : highest_of (y ∷ ys) ≤ less = omega (arith, small, le-max_right (height e) (highest_of (y ∷ ys))) in
      let long : length (front ++ rest) ≡ length h.0 + suc (length (c.rest ++ rest)) = ap length cut ∙ length-append h.0 back in
      ap (expressions_within low (suc n)) cut
      ∙ more_again n e (y ∷ ys) (h.0 ++ back) (c.rest ++ rest) rest c.place (seen_in e h.0 back h.3) (one_again e h.0 back h.3 low_e (comma_closes.expr c.place (c.rest ++ rest)))
      (exprs_again (y ∷ ys) n c.rest rest c.spelled (omega (arith, room, long)) low_es after)

  pub expressions_again : (es : List ExprTree) (rest : List Lexeme) → highest_of es ≤ less → After rest → Again (SpellsExpressions es) (expressions_from low) es rest
  expressions_again es rest small after front h = exprs_again es (length (front ++ rest)) front rest h (omega arith) small after
