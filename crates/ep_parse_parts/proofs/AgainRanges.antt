-- Ranges are read again.
use Rattle.std.specs.Prelude.{◌≡◌, ℕ, zero, suc, ◌≤◌, max, false, List, [], ◌∷◌, ◌++◌, length, codes, refl}
use Rattle.std.proofs.Common.{ap, arith, sym, subst, ◌∙◌, length-append, append_assoc}
use Rattle.std.proofs.Math.Nat.{le-max_left, le-max_right}
use Rattle.ep_base.specs.declared.places.Place.{Place}
use Rattle.ep_tree.specs.Heights.{end_height, height, highest_range}
use Rattle.ep_tree.specs.Phrases.{Lexeme, Phrase, Says, a_word, ◌followed_by◌}
use Rattle.ep_tree.specs.Spelling.{Spells, SpellsEnd, SpellsMoreRanges, SpellsNode, SpellsRanges, implications, rank}
use Rattle.ep_tree.specs.Trees.{End, ExprTree, Ranges, end_at, no_end, no_ranges, one_and, ranges, span_and}
use Rattle.ep_parse_parts.specs.DomainReaders.{RangeRead, as_ranges, end_from, of_number, of_span, range_from, ranges_from}
use Rattle.ep_parse_parts.specs.OperandReaders.{Lower, expression_next}
use Rattle.ep_parse_parts.specs.Readers.{Reader, behind, behind_comma, either_reader, looked_up, more_from, others_from, says, took, word_from, ◌and_then◌}
use Rattle.ep_parse_parts.proofs.Again.{AreComplete, NoImplications, behind_word_cut, lexeme}
use Rattle.ep_parse_parts.proofs.AgainPhrases.{Again, comma_closes, group_closes, span_closes}
use Rattle.ep_parse_parts.proofs.AgainStarts.{expression_seen, starts, word_unseen}

-- ranges as a list
abbrev pub listed_ranges : Ranges → List RangeRead
listed_ranges no_ranges = []
listed_ranges (one_and e rs) = of_number e ∷ listed_ranges rs
listed_ranges (span_and a b rs) = of_span a b ∷ listed_ranges rs

as_listed_ranges : (rs : Ranges) → as_ranges (listed_ranges rs) ≡ rs
unfolding as_ranges
as_listed_ranges no_ranges = refl
as_listed_ranges (one_and e rs) = ap (one_and e) (as_listed_ranges rs)
as_listed_ranges (span_and a b rs) = ap (span_and a b) (as_listed_ranges rs)

-- one range
abbrev OneRange : RangeRead → Phrase
OneRange (of_number e) = Spells implications e
OneRange (of_span a b) = SpellsEnd a followed_by Says ".." followed_by SpellsEnd b

abbrev range_height : RangeRead → ℕ
range_height (of_number e) = height e
range_height (of_span a b) = max (end_height a) (end_height b)

-- what stands behind a range: neither an expression nor a `..`, and nothing by which an expression would go on
record BehindRange (rest : List Lexeme) : Type 0 where
  ends : NoImplications rest
  no_expr : expression_next rest ≡ false
  no_span : says (codes "..") rest ≡ false

comma_behind : (p : Place) (ls : List Lexeme) → BehindRange (lexeme p (a_word (codes ",")) ∷ ls)
unfolding expression_next looked_up says
comma_behind p ls = record { ends = comma_closes.expr p ls; no_expr = refl; no_span = refl }

group_behind : (p : Place) (ls : List Lexeme) → BehindRange (lexeme p (a_word (codes ")")) ∷ ls)
unfolding expression_next looked_up says
group_behind p ls = record { ends = group_closes.expr p ls; no_expr = refl; no_span = refl }

-- a span and what stands behind it
span_cut : (a b : End) (M : Phrase) (f : List Lexeme) → (SpellsEnd a followed_by Says ".." followed_by SpellsEnd b followed_by M) f → (OneRange (of_span a b) followed_by M) f
span_cut a b M f h =
    let u = h.0 in
    let w = h.4.0 in
    let x = h.4.4.0 in
    let m = h.4.4.1 in (
      u ++ (w ++ x),
      m,
      h.2 ∙ ap (λ y. u ++ y) (h.4.2 ∙ ap (λ y. w ++ y) h.4.4.2 ∙ sym (append_assoc w x m)) ∙ sym (append_assoc u (w ++ x) m),
      (u, w ++ x, refl, h.3, (w, x, refl, h.4.3, h.4.4.3)),
      h.4.4.4,
    )

module _ (less : ℕ) (low : Lower) (good : AreComplete less low) where
  end_again : (first b : End) (rest : List Lexeme) → end_height b ≤ less → BehindRange rest → Again (SpellsEnd b) (end_from low first) (of_span first b) rest
  unfolding end_from SpellsNode height rank
  end_again first no_end rest small b front h = subst (λ x. end_from low first (x ++ rest) ≡ took (of_span first no_end) rest) (sym h) (rw (b.no_expr) refl)
  end_again first (end_at e) rest small b front h =
      rw (expression_seen front rest (starts e front h.1.1), good.expr implications refl e front rest h small (record { ends = b.ends; open_ends = λ _. b.ends })) refl

  -- what is read behind the first expression of a range
  abbrev range_on : ExprTree → Reader RangeRead
  range_on e rest = either_reader (says (codes "..") rest) (λ next. end_from low (end_at e) (behind next)) (λ next. took (of_number e) next) rest

  with_first : (e : ExprTree) (r : RangeRead) (f rest end : List Lexeme) → Spells implications e f → height e ≤ less → NoImplications rest → range_on e rest ≡ took r end → range_from low (f ++ rest) ≡ took r end
  unfolding range_from rank looked_up
  with_first e r f rest end h small ends on =
      rw (word_unseen (codes "..") f rest refl (starts e f h.1.1), good.expr implications refl e f rest h small (record { ends = ends; open_ends = λ _. ends })) on

  behind_span : (e : ExprTree) (p : Place) (ls : List Lexeme) → range_on e (lexeme p (a_word (codes "..")) ∷ ls) ≡ end_from low (end_at e) ls
  unfolding says
  behind_span e p ls = refl

  without_first : (p : Place) (ls : List Lexeme) → range_from low (lexeme p (a_word (codes "..")) ∷ ls) ≡ end_from low no_end ls
  unfolding range_from says
  without_first p ls = refl

  range_again : (r : RangeRead) (rest : List Lexeme) → range_height r ≤ less → BehindRange rest → Again (OneRange r) (range_from low) r rest
  unfolding SpellsNode height
  range_again (of_number e) rest small b front h =
      with_first e (of_number e) front rest rest h small b.ends (ap (λ x. either_reader x (λ next. end_from low (end_at e) (behind next)) (λ next. took (of_number e) next) rest) b.no_span)
  range_again (of_span no_end last) rest small b front h =
      let c = behind_word_cut (codes "..") (SpellsEnd last) h.1 h.4 in
      let low_last : end_height last ≤ less = omega (arith, small, le-max_right 0 (end_height last)) in
      ap (λ x. range_from low (x ++ rest)) (h.2 ∙ ap (λ x. x ++ h.1) h.3 ∙ c.parts)
      ∙ without_first c.place (c.rest ++ rest) ∙ end_again no_end last rest low_last b c.rest c.spelled
  range_again (of_span (end_at e) last) rest small b front h =
      let c = behind_word_cut (codes "..") (SpellsEnd last) h.1 h.4 in
      let low_e : height e ≤ less = omega (arith, small, le-max_left (height e) (end_height last)) in
      let low_last : end_height last ≤ less = omega (arith, small, le-max_right (height e) (end_height last)) in
      let next = lexeme c.place (a_word (codes "..")) ∷ (c.rest ++ rest) in
      let cut : front ++ rest ≡ h.0 ++ next = ap (λ x. x ++ rest) h.2 ∙ append_assoc h.0 h.1 rest ∙ ap (λ x. h.0 ++ (x ++ rest)) c.parts in
      ap (range_from low) cut
      ∙ with_first e (of_span (end_at e) last) h.0 next rest h.3 low_e (span_closes.expr c.place (c.rest ++ rest)) (behind_span e c.place (c.rest ++ rest) ∙ end_again (end_at e) last rest low_last b c.rest c.spelled)

  -- ---- ranges

  abbrev item : RangeRead → Reader RangeRead
  item last = range_from low

  ranges_end : (n : ℕ) (last : RangeRead) (q : Place) (rest : List Lexeme) → more_from behind_comma item n last (lexeme q (a_word (codes ")")) ∷ rest) ≡ took [] (lexeme q (a_word (codes ")")) ∷ rest)
  unfolding more_from says
  ranges_end zero last q rest = refl
  ranges_end (suc n) last q rest = refl

  ranges_go : (n : ℕ) (last r : RangeRead) (rs : List RangeRead) (p : Place) (next mid tail : List Lexeme) → range_from low next ≡ took r mid
      → more_from behind_comma item n r mid ≡ took rs tail → more_from behind_comma item (suc n) last (lexeme p (a_word (codes ",")) ∷ next) ≡ took (r ∷ rs) tail
  unfolding more_from says
  ranges_go n last r rs p next mid tail first others = rw (first, others) refl

  ranges_behind : (rs : Ranges) (front : List Lexeme) (q : Place) (rest : List Lexeme) → SpellsMoreRanges rs front → BehindRange (front ++ lexeme q (a_word (codes ")")) ∷ rest)
  unfolding SpellsNode
  ranges_behind no_ranges front q rest h = subst (λ x. BehindRange (x ++ lexeme q (a_word (codes ")")) ∷ rest)) (sym h) (group_behind q rest)
  ranges_behind (one_and e rs) front q rest h =
      let c = behind_word_cut (codes ",") _ front h in subst (λ x. BehindRange (x ++ lexeme q (a_word (codes ")")) ∷ rest)) (sym c.parts) (comma_behind c.place (c.rest ++ lexeme q (a_word (codes ")")) ∷ rest))
  ranges_behind (span_and a b rs) front q rest h =
      let c = behind_word_cut (codes ",") _ front h in subst (λ x. BehindRange (x ++ lexeme q (a_word (codes ")")) ∷ rest)) (sym c.parts) (comma_behind c.place (c.rest ++ lexeme q (a_word (codes ")")) ∷ rest))

  abbrev AllAgain : Ranges → Type 0
  AllAgain rs = (n : ℕ) (last : RangeRead) (front : List Lexeme) (q : Place) (rest : List Lexeme) → length front ≤ n → SpellsMoreRanges rs front → highest_range rs ≤ less
      → more_from behind_comma item n last (front ++ lexeme q (a_word (codes ")")) ∷ rest) ≡ took (listed_ranges rs) (lexeme q (a_word (codes ")")) ∷ rest)

  -- further ranges, where they begin with this one
  ranges_step : (r : RangeRead) (rs : Ranges) → AllAgain rs → (n : ℕ) (last : RangeRead) (front : List Lexeme) (q : Place) (rest : List Lexeme) → length front ≤ n
      → (Says "," followed_by OneRange r followed_by SpellsMoreRanges rs) front → range_height r ≤ less → highest_range rs ≤ less
      → more_from behind_comma item n last (front ++ lexeme q (a_word (codes ")")) ∷ rest) ≡ took (r ∷ listed_ranges rs) (lexeme q (a_word (codes ")")) ∷ rest)
  ranges_step r rs others zero last front q rest room h small smalls =
      let c = behind_word_cut (codes ",") (OneRange r followed_by SpellsMoreRanges rs) front h in
      let long : length front ≡ suc (length c.rest) = ap length c.parts in
      absurd (omega (arith, room, long))
  ranges_step r rs others (suc n) last front q rest room h small smalls =
      let c = behind_word_cut (codes ",") (OneRange r followed_by SpellsMoreRanges rs) front h in
      let f = c.spelled.0 in
      let g = c.spelled.1 in
      let tail = lexeme q (a_word (codes ")")) ∷ rest in
      let long : length front ≡ suc (length c.rest) = ap length c.parts in
      let cut : length c.rest ≡ length (f ++ g) = ap length c.spelled.2 in
      let regroup : front ++ tail ≡ lexeme c.place (a_word (codes ",")) ∷ (f ++ (g ++ tail)) =
      ap (λ x. x ++ tail) c.parts ∙ ap (λ x. lexeme c.place (a_word (codes ",")) ∷ x) (ap (λ x. x ++ tail) c.spelled.2 ∙ append_assoc f g tail) in
      ap (more_from behind_comma item (suc n) last) regroup
      ∙ ranges_go n last r (listed_ranges rs) c.place (f ++ (g ++ tail)) (g ++ tail) tail (range_again r (g ++ tail) small (ranges_behind rs g q rest c.spelled.4) f c.spelled.3)
      (others n r g q rest (omega (arith, room, long, cut, length-append f g)) c.spelled.4 smalls)

  more_ranges_again : (rs : Ranges) → AllAgain rs
  unfolding SpellsNode height
  more_ranges_again no_ranges n last front q rest room h small =
      subst (λ x. more_from behind_comma item n last (x ++ lexeme q (a_word (codes ")")) ∷ rest) ≡ took [] (lexeme q (a_word (codes ")")) ∷ rest)) (sym h) (ranges_end n last q rest)
  more_ranges_again (one_and e rs) n last front q rest room h small =
      ranges_step (of_number e) rs (more_ranges_again rs) n last front q rest room h (omega (arith, small, le-max_left (height e) (highest_range rs))) (omega (arith, small, le-max_right (height e) (highest_range rs)))
  more_ranges_again (span_and a b rs) n last front q rest room h small =
      ranges_step (of_span a b) rs (more_ranges_again rs) n last front q rest room (h.0, h.1, h.2, h.3, span_cut a b (SpellsMoreRanges rs) h.1 h.4)
      (omega (arith, small, le-max_left (max (end_height a) (end_height b)) (highest_range rs))) (omega (arith, small, le-max_right (max (end_height a) (end_height b)) (highest_range rs)))

  -- the ranges of a domain, where they begin with this one
  ranges_from_again : (p : Place) (r : RangeRead) (rs : Ranges) (rest : List Lexeme) → range_height r ≤ less → highest_range rs ≤ less
      → Again ((OneRange r followed_by SpellsMoreRanges rs) followed_by Says ")") (ranges_from low p) (ranges p (as_ranges (r ∷ listed_ranges rs))) rest
  unfolding ranges_from word_from
  ranges_from_again p r rs rest small smalls front h =
      let f = h.3.0 in
      let g = h.3.1 in
      let q = h.4.0 in
      let tail = lexeme q (a_word (codes ")")) ∷ rest in
      let cut : front ++ rest ≡ f ++ (g ++ tail) =
      ap (λ x. x ++ rest) h.2 ∙ append_assoc h.0 h.1 rest ∙ ap (λ x. h.0 ++ (x ++ rest)) h.4.1 ∙ ap (λ x. x ++ tail) h.3.2 ∙ append_assoc f g tail in
      ap (ranges_from low p) cut
      ∙ ap (λ x. x and_then λ y next. others_from behind_comma item y next and_then λ ys end. word_from (codes ")") end and_then λ _ after. took (ranges p (as_ranges (y ∷ ys))) after)
      (range_again r (g ++ tail) small (ranges_behind rs g q rest h.3.4) f h.3.3)
      ∙ ap (λ x. x and_then λ ys end. word_from (codes ")") end and_then λ _ after. took (ranges p (as_ranges (r ∷ ys))) after)
      (more_ranges_again rs (length (g ++ tail)) r g q rest (omega (arith, length-append g tail)) h.3.4 smalls)

  pub ranges_again : (p : Place) (rs : Ranges) (rest : List Lexeme) → highest_range rs ≤ less → Again (SpellsRanges rs followed_by Says ")") (ranges_from low p) (ranges p rs) rest
  unfolding SpellsNode height as_ranges
  ranges_again p no_ranges rest small front h = absurd h.3
  ranges_again p (one_and e rs) rest small front h =
      ranges_from_again p (of_number e) rs rest (omega (arith, small, le-max_left (height e) (highest_range rs))) (omega (arith, small, le-max_right (height e) (highest_range rs))) front h
      ∙ ap (λ x. took (ranges p (one_and e x)) rest) (as_listed_ranges rs)
  ranges_again p (span_and a b rs) rest small front h =
      ranges_from_again p (of_span a b) rs rest (omega (arith, small, le-max_left (max (end_height a) (end_height b)) (highest_range rs))) (omega (arith, small, le-max_right (max (end_height a) (end_height b)) (highest_range rs)))
      front (h.0, h.1, h.2, span_cut a b (SpellsMoreRanges rs) h.0 h.3, h.4)
      ∙ ap (λ x. took (ranges p (span_and a b x)) rest) (as_listed_ranges rs)
