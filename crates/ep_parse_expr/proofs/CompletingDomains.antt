-- The readers of domains refuse a token where those before it can be completed.
use Rattle.std.specs.Prelude.{◌≡◌, ℕ, suc, ◌+◌, ◌≤◌, ◌⊎◌, max, Bool, true, false, ◌&&◌, ◌||◌, List, [], ◌∷◌, ◌++◌, length, nat_le, nat_lt, Option, Some, None, codes, refl}
use Rattle.std.proofs.Common.{ap, append-nil, append_assoc, arith, inl, inr, sym, subst, ◌∙◌}
use Rattle.std.proofs.Math.Nat.{max-le}
use Rattle.std.proofs.lemmas.Bool.{and_parts}
use Rattle.std.proofs.lemmas.Bool.Decides.{nat_tests}
use Rattle.ep_base.specs.declared.places.Place.{Place}
use Rattle.ep_tree.specs.Heights.{domain_height, end_height, height, highest_domain, highest_range}
use Rattle.ep_tree.specs.Phrases.{Is, Lexeme, Phrase, Says, Saying, StartsAt, a_name, a_number, a_word, ◌followed_by◌}
use Rattle.ep_tree.specs.Spelling.{BetweenDomains, DomainLevel, MatrixTail, Spells, SpellsDomain, SpellsDomainNode, SpellsEnd, SpellsMoreIndexDomains, SpellsMoreRanges, SpellsRanges, domain_rank, domains, implications, own_domain_level, rank, set_operations, set_parts}
use Rattle.ep_tree.specs.Trees.{DomainTree, Domains, End, Ranges, bool, domain_and, end_at, group_domain, int, matrix_domain, named_domain, no_domains, no_end, no_ranges, one_and, place_of_domain, ranges, set_domain, span_and}
use Rattle.ep_tree.specs.declared.syntax.SetOp.{SetOp}
use Rattle.ep_parse_parts.specs.DomainReaders.{DomainOpening, RangeRead, a_bool, a_domain_group, an_int, another_index_domain, another_operation, any_domain_from, as_domains, as_ranges, domain_at_level, domain_begun_from, domain_open_from, domain_openings, domain_part_from, end_from, index_domain_behind, matrix_follows, matrix_from, matrix_head_from, of_number, of_span, operations_from, range_from, ranges_from, set_words}
use Rattle.ep_parse_parts.specs.OperandReaders.{Lower, expression_next, if_low}
use Rattle.ep_parse_parts.specs.Readers.{Read, behind, behind_comma, says_word, looked_up, next_in, says, took, word_from, ◌and_then◌}
use Rattle.ep_parse_parts.proofs.Again.{behind_word_cut}
use Rattle.ep_parse_parts.proofs.AgainPhrases.{some_domain}
use Rattle.ep_parse_expr.proofs.Completing.{ADomain, AnExpr, Filled, ItemSo, Lifts, Refuses, Shape, Word, domain_filled, grown_refuses, next_then, others_then, refuses_as, refuses_behind, refuses_chosen, refuses_low, refuses_made, refuses_then, refuses_took, refuses_wrong, then_filled, word_filled, word_refuses, word_then, ◌then◌}
use Rattle.ep_parse_expr.proofs.CompletingOperands.{Has, domain_has, then_has, word_has}
use Rattle.ep_parse_expr.proofs.CompletingOperators.{entry_next, operator_there}
use Rattle.ep_parse_expr.proofs.CompletingParts.{AreOpen, domain_then, expr_then, sep_then, token_opens}
use Rattle.ep_parse_expr.proofs.CompletingReads.{refuses_higher, refuses_step}
use Rattle.ep_parse_parts.proofs.Holding.{Holds, Takes, holds_as, is_word-sound, looked_up-sound, regrouped, says_sound, starts_front, takes_then, takes_token}
use Rattle.ep_parse_parts.proofs.Sound.{IsRange, SpellsRange, are_domain_openings, are_operations, domain_part_sound, domain_word, head_sound, index_behind_sound, operation_step, range_high, range_sound, set_bytes}
use Rattle.ep_parse_parts.proofs.SoundParts.{AreSound, IsDomain, comma_sound, kept-sound, looser_domain}

-- a domain that begins with a word
domain_node : (level : DomainLevel) (most : ℕ) (w : List ℕ) (b : Bool) (front : List Lexeme) (Ph : Phrase) → (Is (a_word w) followed_by Ph) front → (make : Place → DomainTree) → ((p : Place) → place_of_domain (make p) ≡ p)
    → ((p : Place) → nat_le (domain_rank level) (domain_rank (own_domain_level (make p))) ≡ true) → (b ≡ true → (p : Place) → domain_height (make p) ≤ most) → ((p : Place) → SpellsDomainNode (make p) front) → ADomain level most b front
domain_node level most w b front Ph h make at own low node =
    let c = behind_word_cut w Ph front h in
    let here : StartsAt c.place front = subst (StartsAt c.place) (sym c.parts) refl in
    (make c.place, (λ e. low e c.place), (own c.place, (subst (λ q. StartsAt q front) (sym (at c.place)) here, node c.place)))

up : (less n : ℕ) → n ≤ less → 1 + n ≤ suc less
up less n h = omega (arith, h)

below : (m n : ℕ) → nat_lt m (suc n) ≡ true → m ≤ n
below m n e = grind (arith, nat_tests)

-- a range before others
abbrev with_range : RangeRead → Ranges → Ranges
with_range (of_number e) rs = one_and e rs
with_range (of_span a b) rs = span_and a b rs

span_before : (a b : End) (rs : Ranges) (front : List Lexeme) → ((SpellsEnd a followed_by Says ".." followed_by SpellsEnd b) followed_by SpellsMoreRanges rs) front → (SpellsEnd a followed_by Says ".." followed_by SpellsEnd b followed_by SpellsMoreRanges rs) front
span_before a b rs front h =
    let k = regrouped (SpellsEnd a) (Says ".." followed_by SpellsEnd b) (SpellsMoreRanges rs) front h in
    (k.0, k.1, k.2, k.3, regrouped (Says "..") (SpellsEnd b) (SpellsMoreRanges rs) k.1 k.4)

ranges_are : (r : RangeRead) (rs : Ranges) (front : List Lexeme) → (SpellsRange r followed_by SpellsMoreRanges rs) front → SpellsRanges (with_range r rs) front
unfolding SpellsDomainNode
ranges_are (of_number e) rs front h = h
ranges_are (of_span a b) rs front h = span_before a b rs front h

more_ranges_are : (r : RangeRead) (rs : Ranges) (front : List Lexeme) → (Says "," followed_by SpellsRange r followed_by SpellsMoreRanges rs) front → SpellsMoreRanges (with_range r rs) front
unfolding SpellsDomainNode
more_ranges_are (of_number e) rs front h = h
more_ranges_are (of_span a b) rs front h = (h.0, h.1, h.2, h.3, span_before a b rs h.1 h.4)

ranges_high : (less : ℕ) (r : RangeRead) (rs : Ranges) → range_high r ≤ less → highest_range rs ≤ less → highest_range (with_range r rs) ≤ less
unfolding height
ranges_high less (of_number e) rs h k = max-le h k
ranges_high less (of_span a b) rs h k = max-le h k

module _ (less : ℕ) where
  abbrev pub AnEnd : Shape
  AnEnd b front = (e : End) × (b ≡ true → end_height e ≤ less) × SpellsEnd e front

  abbrev pub MaybeSpan : Shape
  MaybeSpan b front = (front ≡ []) ⊎ (Word (codes "..") then AnEnd) b front

  abbrev pub ARange : Shape
  ARange b front = (r : RangeRead) × (b ≡ true → range_high r ≤ less) × SpellsRange r front

  abbrev pub MoreRanges : Shape
  MoreRanges b front = (rs : Ranges) × (b ≡ true → highest_range rs ≤ less) × SpellsMoreRanges rs front

  abbrev pub InRanges : Shape
  InRanges = ARange then MoreRanges then Word (codes ")")

  abbrev pub IntRest : Shape
  IntRest b front = (front ≡ []) ⊎ (Word (codes "(") then InRanges) b front

  abbrev pub InGroup : Shape
  InGroup = ADomain set_operations less then Word (codes ")")

  no_end_here : (b : Bool) → AnEnd b []
  unfolding SpellsDomainNode height
  no_end_here b = (no_end, (λ _. omega arith), refl)

  an_end : (b : Bool) (front : List Lexeme) → AnExpr implications less b front → AnEnd b front
  unfolding SpellsDomainNode height
  an_end b front h = (end_at h.0, h.1, h.2)

  open_span : (b : Bool) (front : List Lexeme) → (Word (codes "..") then AnEnd) b front → ARange b front
  unfolding SpellsDomainNode height
  open_span b front h = (of_span no_end h.4.0, (λ e. max-le (omega arith) (h.4.1 e)), ([], front, refl, refl, (h.0, h.1, h.2, h.3, h.4.2)))

  from_number : (b : Bool) (front : List Lexeme) → (AnExpr implications less then MaybeSpan) b front → ARange b front
  unfolding SpellsDomainNode height
  from_number b front h = go h.4
    where
      go : MaybeSpan b h.1 → ARange b front
      go (inl e) = (of_number h.3.0, h.3.1, subst (Spells implications h.3.0) (sym (h.2 ∙ ap (λ z. h.0 ++ z) e ∙ append-nil h.0)) h.3.2)
      go (inr k) = (of_span (end_at h.3.0) k.4.0, (λ e. max-le (h.3.1 e) (k.4.1 e)), (h.0, h.1, h.2, h.3.2, (k.0, k.1, k.2, k.3, k.4.2)))

  no_more_ranges : (b : Bool) → MoreRanges b []
  unfolding SpellsDomainNode height
  no_more_ranges b = (no_ranges, (λ _. omega arith), refl)

  another_range : (b : Bool) (front : List Lexeme) → (Says "," followed_by ARange b followed_by MoreRanges b) front → MoreRanges b front
  another_range b front h = let k = h.4 in (with_range k.3.0 k.4.0, (λ e. ranges_high less k.3.0 k.4.0 (k.3.1 e) (k.4.1 e)), more_ranges_are k.3.0 k.4.0 front (h.0, h.1, h.2, h.3, (k.0, k.1, k.2, k.3.2, k.4.2)))

  range_lifts : Lifts ARange
  range_lifts front h = (h.0, (λ e. absurd cc), h.2)

  more_ranges_lift : Lifts MoreRanges
  more_ranges_lift front h = (h.0, (λ e. absurd cc), h.2)

  end_filled : Filled AnEnd
  end_filled = record { some = λ b. ([], no_end_here b) }

  range_has : (b : Bool) → Has ARange b
  range_has b = let x = then_has (Word (codes "..")) AnEnd b (word_has (codes "..") b) ([], no_end_here b) in (x.0, open_span b x.0 x.1)

  range_filled : Filled ARange
  range_filled = record { some = range_has }

  in_ranges_has : (b : Bool) → Has InRanges b
  in_ranges_has b = then_has ARange (MoreRanges then Word (codes ")")) b (range_has b) (then_has MoreRanges (Word (codes ")")) b ([], no_more_ranges b) (word_has (codes ")") b))

  pub int_node : (level : DomainLevel) → nat_le (domain_rank level) (domain_rank set_parts) ≡ true → (b : Bool) (front : List Lexeme) → (Word (codes "int") then IntRest) b front → ADomain level (suc less) b front
  unfolding SpellsDomainNode own_domain_level domain_rank place_of_domain height
  int_node level ranked b front h = go h.4
    where
      go : IntRest b h.1 → ADomain level (suc less) b front
      go (inl e) =
          let alone : front ≡ h.0 = h.2 ∙ ap (λ z. h.0 ++ z) e ∙ append-nil h.0 in
          domain_node level (suc less) (codes "int") b front (IntRest b) h (λ p. int p) (λ p. refl) (λ p. ranked) (λ k p. omega arith) (λ p. (h.3.0, alone ∙ h.3.1))
      go (inr k) =
          let m = k.4 in
          let n = m.4 in
          domain_node level (suc less) (codes "int") b front (IntRest b) h (λ p. ranges p (with_range m.3.0 n.3.0)) (λ p. refl) (λ p. ranked) (λ e p. up less (highest_range (with_range m.3.0 n.3.0)) (ranges_high less m.3.0 n.3.0 (m.3.1 e) (n.3.1 e)))
          (λ p. (h.0, h.1, h.2, h.3, (k.0, k.1, k.2, k.3, (m.0 ++ n.0, n.1, m.2 ∙ ap (λ z. m.0 ++ z) n.2 ∙ sym (append_assoc m.0 n.0 n.1), ranges_are m.3.0 n.3.0 (m.0 ++ n.0) (m.0, n.0, refl, m.3.2, n.3.2), n.4))))

  pub group_node : (level : DomainLevel) → nat_le (domain_rank level) (domain_rank set_parts) ≡ true → (b : Bool) (front : List Lexeme) → (Word (codes "(") then InGroup) b front → ADomain level (suc less) b front
  unfolding SpellsDomainNode own_domain_level domain_rank place_of_domain height
  group_node level ranked b front h =
      let k = h.4 in
      domain_node level (suc less) (codes "(") b front (InGroup b) h (λ p. group_domain p k.3.0) (λ p. refl) (λ p. ranked) (λ e p. up less (domain_height k.3.0) (k.3.1 e)) (λ p. (h.0, h.1, h.2, h.3, (k.0, k.1, k.2, k.3.2, k.4)))

  -- ---- operations of sets

  operation_node : (op : SetOp) (left : DomainTree) (b : Bool) → (b ≡ true → domain_height left ≤ less) → (front back : List Lexeme) → SpellsDomain set_operations left front → (Word (set_bytes op) then ADomain set_parts less) b back
      → ADomain set_operations (suc less) b (front ++ back)
  unfolding SpellsDomainNode own_domain_level domain_rank place_of_domain height
  operation_node op left b small front back s h =
      let k = h.4 in (
        set_domain (place_of_domain left) op left k.0,
        (λ e. let high : max (domain_height left) (domain_height k.0) ≤ less = max-le (small e) (k.1 e) in omega (arith, high)),
        (refl, (starts_front (place_of_domain left) front back s.1.0, (front, back, refl, s, (h.0, h.1, h.2, h.3, k.2)))),
      )

  -- ---- matrix domains

  abbrev pub Head : Shape
  Head = Word (codes "indexed") then Word (codes "by") then Word (codes "[")

  abbrev pub MoreDomains : Shape
  MoreDomains b front = (ds : Domains) × (b ≡ true → highest_domain ds ≤ less) × SpellsMoreIndexDomains ds front

  abbrev pub OfElements : Shape
  OfElements = Word (codes "]") then Word (codes "of") then ADomain set_operations less

  abbrev pub InMatrix : Shape
  InMatrix = Head then ADomain set_operations less then MoreDomains then OfElements

  no_more_domains : (last : DomainTree) (b : Bool) → MoreDomains b []
  unfolding SpellsDomainNode height
  no_more_domains last b = (no_domains, (λ _. omega arith), refl)

  more_domains_lift : Lifts MoreDomains
  more_domains_lift front h = (h.0, (λ e. absurd cc), h.2)

  a_further_domain : (b : Bool) (front back : List Lexeme) → (BetweenDomains followed_by ADomain set_operations less b) front → MoreDomains b back → MoreDomains b (front ++ back)
  unfolding SpellsDomainNode height
  a_further_domain b front back h m =
      (domain_and h.4.0 m.0, (λ e. max-le (h.4.1 e) (m.1 e)), (h.0, h.1 ++ back, ap (λ z. z ++ back) h.2 ∙ append_assoc h.0 h.1 back, h.3, (h.1, back, refl, h.4.2, m.2)))

  one_further : (b : Bool) (front : List Lexeme) → (BetweenDomains followed_by ADomain set_operations less b) front → MoreDomains b front
  one_further b front h = subst (λ z. MoreDomains b z) (append-nil front) (a_further_domain b front [] h (no_more_domains h.4.0 b))

  pub matrix_node : (b : Bool) (front : List Lexeme) → (Word (codes "matrix") then InMatrix) b front → ADomain domains (suc less) b front
  unfolding SpellsDomainNode own_domain_level domain_rank place_of_domain height
  matrix_node b front h =
      let k = h.4 in
      let d = k.4 in
      let m = d.4 in
      let e = m.4 in
      let f = e.4 in
      domain_node domains (suc less) (codes "matrix") b front (InMatrix b) h (λ p. matrix_domain p (domain_and d.3.0 m.3.0) f.4.0) (λ p. refl) (λ p. refl)
      (λ x p. up less (max (max (domain_height d.3.0) (highest_domain m.3.0)) (domain_height f.4.0)) (max-le (max-le (d.3.1 x) (m.3.1 x)) (f.4.1 x)))
      (λ p. (
        h.0 ++ k.0,
        k.1,
        h.2 ∙ ap (λ z. h.0 ++ z) k.2 ∙ sym (append_assoc h.0 k.0 k.1),
        (h.0, k.0, refl, h.3, k.3),
        (
          d.0 ++ m.0,
          m.1,
          d.2 ∙ ap (λ z. d.0 ++ z) m.2 ∙ sym (append_assoc d.0 m.0 m.1),
          (d.0, m.0, refl, d.3.2, m.3.2),
          (e.0 ++ f.0, f.1, e.2 ∙ ap (λ z. e.0 ++ z) f.2 ∙ sym (append_assoc e.0 f.0 f.1), (e.0, f.0, refl, e.3, f.3), f.4.2),
        ),
      ))

  pub in_matrix_has : (b : Bool) → (b ≡ true → 1 ≤ less) → Has InMatrix b
  unfolding domain_rank
  in_matrix_has b some =
      let d = domain_has set_operations less b refl some in
      then_has Head (ADomain set_operations less then MoreDomains then OfElements) b (then_has (Word (codes "indexed")) (Word (codes "by") then Word (codes "[")) b (word_has (codes "indexed") b) (then_has (Word (codes "by")) (Word (codes "[")) b (word_has (codes "by") b) (word_has (codes "[") b)))
      (then_has (ADomain set_operations less) (MoreDomains then OfElements) b d (then_has MoreDomains OfElements b ([], no_more_domains d.1.0 b)
      (then_has (Word (codes "]")) (Word (codes "of") then ADomain set_operations less) b (word_has (codes "]") b) (then_has (Word (codes "of")) (ADomain set_operations less) b (word_has (codes "of") b) d))))

module _ (less : ℕ) (low : Lower) (sound : AreSound less low) (good : AreOpen less low) where
  end_refuses : (first : End) (ls : List Lexeme) → Refuses (AnEnd less) ls (end_from low first ls)
  unfolding end_from rank
  end_refuses first ls =
      refuses_chosen (AnEnd less) (expression_next ls) _ _ ls
      (λ _. refuses_as (AnExpr implications less) (AnEnd less) ls _ (an_end less) (refuses_made (AnExpr implications less) ls (low.expr implications ls) (λ e. of_span first (end_at e)) (good.expr implications refl ls)))
      (λ _. refuses_took (AnEnd less) ls ls (of_span first no_end))

  range_refuses : (ls : List Lexeme) → Refuses (ARange less) ls (range_from low ls)
  unfolding range_from
  range_refuses ls =
      refuses_chosen (ARange less) (says (codes "..") ls) _ _ ls
      (λ e. next_then (codes "..") (AnEnd less) (ARange less) ls _ (says_sound (codes "..") ls e) (end_filled less) (open_span less) (end_refuses no_end (behind ls)))
      (λ _. refuses_as (AnExpr implications less then MaybeSpan less) (ARange less) ls _ (from_number less)
      (expr_then less low sound good (MaybeSpan less) ls _ (record { some = λ b. ([], inl refl) })
      (λ e rest _. refuses_chosen (MaybeSpan less) (says (codes "..") rest) _ _ rest
      (λ d. next_then (codes "..") (AnEnd less) (MaybeSpan less) rest _ (says_sound (codes "..") rest d) (end_filled less) (λ b front h. inr h) (end_refuses (end_at e) (behind rest)))
      (λ _. refuses_took (MaybeSpan less) rest rest (of_number e)))))

  range_taken : (ls : List Lexeme) → Holds (λ r rest. Takes (ARange less true) ls rest) (range_from low ls)
  range_taken ls = holds_as (IsRange less low sound ls) (λ r rest. Takes (ARange less true) ls rest) (range_from low ls) (range_sound less low sound ls) (λ r rest h. record { front = h.0.front; parts = h.0.parts; spelled = (r, (λ _. h.1), h.0.spelled) })

  ranges_refuse : (p : Place) (ls : List Lexeme) → Refuses (InRanges less) ls (ranges_from low p ls)
  unfolding ranges_from
  ranges_refuse p ls =
      refuses_then (ARange less) (MoreRanges less then Word (codes ")")) ls (range_from low ls) _ (range_refuses ls) (range_taken ls) (range_lifts less) (then_filled (MoreRanges less) (Word (codes ")")) (record { some = λ b. ([], no_more_ranges less b) }) (word_filled (codes ")")))
      (λ r rest _. sep_then behind_comma (λ last. range_from low) (Says ",") (ARange less) (MoreRanges less) comma_sound (no_more_ranges less) (another_range less) (range_lifts less) (range_filled less) (λ last. range_refuses) (λ last. range_taken)
      (Word (codes ")")) _ (more_ranges_lift less) (word_filled (codes ")")) (λ rs next. refuses_made (Word (codes ")")) next (word_from (codes ")") next) (λ q. ranges p (as_ranges (r ∷ rs))) (word_refuses (codes ")") next)) r rest)

  -- ---- domains without operations

  abbrev PartDomain : Shape
  PartDomain = ADomain set_parts (suc less)

  group_refuses : (p : Place) (ls : List Lexeme) → Refuses (InGroup less) ls (low.domain set_operations ls and_then λ d next. word_from (codes ")") next and_then λ _ end. took (group_domain p d) end)
  group_refuses p ls = domain_then less low sound good (Word (codes ")")) ls _ (word_filled (codes ")")) (λ d next. refuses_made (Word (codes ")")) next (word_from (codes ")") next) (λ q. group_domain p d) (word_refuses (codes ")") next))

  open_refuses : (t : Bool) → (t ≡ true → 1 ≤ less) → (o : Option DomainOpening) (l : Lexeme) (ls : List Lexeme) → ((what : DomainOpening) → o ≡ Some what → l.saying ≡ a_word (domain_word what)) → Refuses PartDomain (l ∷ ls) (domain_open_from t low l.place o ls (l ∷ ls))
  unfolding domain_open_from domain_rank
  open_refuses t enough None l ls said = refuses_wrong PartDomain (l ∷ ls)
  open_refuses t enough (Some a_bool) l ls said = refuses_took PartDomain (l ∷ ls) ls (bool l.place)
  open_refuses t enough (Some an_int) l ls said =
      refuses_behind (Is (a_word (codes "int"))) (IntRest less) PartDomain (l ∷ ls) ls _ (takes_token l ls (a_word (codes "int")) (said an_int refl)) (λ b front back p k. int_node less set_parts refl b (front ++ back) (front, back, refl, p, k)) (record { some = λ b. ([], inl refl) })
      (refuses_chosen (IntRest less) (says (codes "(") ls) _ _ ls
      (λ e. next_then (codes "(") (InRanges less) (IntRest less) ls _ (says_sound (codes "(") ls e) (record { some = in_ranges_has less }) (λ b front h. inr h) (ranges_refuse l.place (behind ls)))
      (λ _. refuses_took (IntRest less) ls ls (int l.place)))
  open_refuses t enough (Some a_domain_group) l ls said =
      refuses_low PartDomain t _ l ls
      (token_opens (codes "(") (InGroup less) PartDomain l (said a_domain_group refl) (group_node less set_parts refl) (then_has (ADomain set_operations less) (Word (codes ")")) false (domain_has set_operations less false refl (λ e. absurd cc)) (word_has (codes ")") false)))
      (λ e. refuses_behind (Is (a_word (codes "("))) (InGroup less) PartDomain (l ∷ ls) ls _ (takes_token l ls (a_word (codes "(")) (said a_domain_group refl)) (λ b front back p k. group_node less set_parts refl b (front ++ back) (front, back, refl, p, k))
      (then_filled (ADomain set_operations less) (Word (codes ")")) (domain_filled set_operations less refl (enough e)) (word_filled (codes ")"))) (group_refuses l.place ls))

  begun_refuses : (t : Bool) → (t ≡ true → 1 ≤ less) → (s : Saying) (l : Lexeme) (ls : List Lexeme) → l.saying ≡ s → Refuses PartDomain (l ∷ ls) (domain_begun_from t low l.place s ls (l ∷ ls))
  unfolding domain_begun_from
  begun_refuses t enough (a_name x) l ls said = refuses_took PartDomain (l ∷ ls) ls (named_domain l.place x)
  begun_refuses t enough (a_number n) l ls said = refuses_wrong PartDomain (l ∷ ls)
  begun_refuses t enough (a_word w) l ls said = open_refuses t enough (looked_up domain_openings w) l ls (λ what e. said ∙ ap a_word (looked_up-sound domain_word domain_openings are_domain_openings w what e))

  part_refuses : (t : Bool) → (t ≡ true → 1 ≤ less) → (ls : List Lexeme) → Refuses PartDomain ls (domain_part_from t low ls)
  unfolding domain_part_from
  part_refuses t enough [] = refuses_wrong PartDomain []
  part_refuses t enough (l ∷ ls) = begun_refuses t enough l.saying l ls refl

  test_enough : nat_lt 1 (suc less) ≡ true → 1 ≤ less
  test_enough e = grind (arith, nat_tests)

  -- ---- operations

  le_on : (a b c : ℕ) → nat_le a b ≡ true → nat_le b c ≡ true → nat_le a c ≡ true
  le_on a b c h k = grind (arith, nat_tests)

  looser_shape : (asked given : DomainLevel) → nat_le (domain_rank asked) (domain_rank given) ≡ true → (b : Bool) (front : List Lexeme) → ADomain given (suc less) b front → ADomain asked (suc less) b front
  looser_shape asked given le b front h = (h.0, h.1, (le_on (domain_rank asked) (domain_rank given) (domain_rank (own_domain_level h.0)) le h.2.0, h.2.1))

  abbrev Operations : Shape
  Operations = ADomain set_operations (suc less)

  operation_refused : (ls : List Lexeme) (left : DomainTree) (from : List Lexeme) (r : Read DomainTree) → IsDomain set_operations (suc less) ls left from → another_operation (suc less) low left from ≡ Some r → Refuses Operations ls r
  unfolding another_operation domain_rank
  operation_refused ls left from r q e =
      let o = operator_there true (next_in set_words from) _ r e in
      let op = o.0 in
      let n = entry_next set_bytes set_words are_operations from op o.2 in
      subst (λ z. Refuses Operations ls z) (sym o.3) (subst (λ z. Refuses Operations ls (if_low (nat_lt (domain_height left) (suc less)) (λ all. low.domain set_parts (behind all) and_then λ d rest. took (set_domain (place_of_domain left) op left d) rest) z)) (sym n.2)
      (go op n.0 n.1 (q.parts ∙ ap (λ z. q.front ++ z) n.2) n.3 (nat_lt (domain_height left) (suc less)) refl))
    where
      go : (op : SetOp) (l : Lexeme) (rest : List Lexeme) → ls ≡ q.front ++ l ∷ rest → l.saying ≡ a_word (set_bytes op) → (t : Bool) → nat_lt (domain_height left) (suc less) ≡ t
          → Refuses Operations ls (if_low t (λ all. low.domain set_parts (behind all) and_then λ d rest. took (set_domain (place_of_domain left) op left d) rest) (l ∷ rest))
      go op l rest parts said true lt =
          let small = below (domain_height left) less lt in
          let some : 1 ≤ less = omega (arith, some_domain left, small) in
          let there = domain_filled set_parts less refl some in
          refuses_behind (SpellsDomain set_operations left) (Word (set_bytes op) then ADomain set_parts less) Operations ls (l ∷ rest) _ (record { front = q.front; parts = parts; spelled = q.spelled }) (λ b front back s k. operation_node less op left b (λ _. small) front back s k)
          (then_filled (Word (set_bytes op)) (ADomain set_parts less) (word_filled (set_bytes op)) there)
          (refuses_behind (Is (a_word (set_bytes op))) (ADomain set_parts less) (Word (set_bytes op) then ADomain set_parts less) (l ∷ rest) rest _ (takes_token l rest (a_word (set_bytes op)) said) (λ b front back p k. (front, back, refl, p, k)) there
          (refuses_made (ADomain set_parts less) rest (low.domain set_parts rest) (λ d. set_domain (place_of_domain left) op left d) (good.domain set_parts rest)))
      go op l rest parts said false lt =
          let token = token_opens (set_bytes op) (ADomain set_parts less) (Word (set_bytes op) then ADomain set_parts less) l said (λ b front h. h) (domain_has set_parts less false refl (λ k. absurd cc)) in
          refuses_higher Operations ls q.front l rest parts (left, (λ _. q.low), q.spelled)
          (token.0, subst (Operations false) (sym (append_assoc q.front (l ∷ []) token.0)) (operation_node less op left false (λ k. absurd cc) q.front ((l ∷ []) ++ token.0) q.spelled token.1))

  operations_refuse : (ls : List Lexeme) → Refuses Operations ls (operations_from (suc less) low ls)
  unfolding operations_from domain_rank
  operations_refuse ls =
      refuses_step Operations ls (domain_part_from (nat_lt 1 (suc less)) low ls) _ (refuses_as PartDomain Operations ls _ (looser_shape set_operations set_parts refl) (part_refuses (nat_lt 1 (suc less)) test_enough ls))
      (λ d rest e. let h = domain_part_sound less low sound (nat_lt 1 (suc less)) ls in
      grown_refuses (another_operation (suc less) low) (IsDomain set_operations (suc less) ls) Operations ls (operation_step less low sound ls) (λ x z r q k. operation_refused ls x z r q k) (length rest) d rest
      (looser_domain set_operations set_parts (suc less) ls d rest refl (h.holds d rest e)))

  -- ---- matrix domains

  head_refuses : (ls : List Lexeme) → Refuses (Head less) ls (matrix_head_from ls)
  unfolding matrix_head_from
  head_refuses ls =
      word_then (codes "indexed") (Word (codes "by") then Word (codes "[")) ls _ (then_filled (Word (codes "by")) (Word (codes "[")) (word_filled (codes "by")) (word_filled (codes "[")))
      (λ p a. word_then (codes "by") (Word (codes "[")) a _ (word_filled (codes "[")) (λ q z. word_refuses (codes "[") z))

  -- a matrix domain begins behind two words
  abbrev Joint : Phrase
  Joint = MatrixTail followed_by Says "matrix"

  joint_taken : (ls : List Lexeme) → matrix_follows ls ≡ true → Takes Joint ls (behind (behind (behind ls)))
  unfolding matrix_follows
  joint_taken ls f =
      let one = and_parts (says (codes "]") ls) (says (codes "of") (behind ls) && says (codes "matrix") (behind (behind ls))) f in
      let two = and_parts (says (codes "of") (behind ls)) (says (codes "matrix") (behind (behind ls))) one.1 in
      takes_then MatrixTail (Says "matrix") ls (behind (behind ls)) (behind (behind (behind ls)))
      (takes_then (Says "]") (Says "of") ls (behind ls) (behind (behind ls)) (says_sound (codes "]") ls one.0) (says_sound (codes "of") (behind ls) two.0)) (says_sound (codes "matrix") (behind (behind ls)) two.1)

  by_comma : (b : Bool) (front : List Lexeme) → (Word (codes ",") then ADomain set_operations less) b front → MoreDomains less b front
  by_comma b front h = one_further less b front (h.0, h.1, h.2, inl h.3, h.4)

  by_matrix : (b : Bool) (front back : List Lexeme) → Joint front → (Head less then ADomain set_operations less) b back → MoreDomains less b (front ++ back)
  by_matrix b front back j h =
      one_further less b (front ++ back) (
        front ++ h.0,
        h.1,
        ap (λ z. front ++ z) h.2 ∙ sym (append_assoc front h.0 h.1),
        inr (j.0, j.1 ++ h.0, ap (λ z. z ++ h.0) j.2 ∙ append_assoc j.0 j.1 h.0, j.3, (j.1, h.0, refl, j.4, h.3)),
        h.4,
      )

  head_filled : Filled (Head less)
  head_filled = then_filled (Word (codes "indexed")) (Word (codes "by") then Word (codes "[")) (word_filled (codes "indexed")) (then_filled (Word (codes "by")) (Word (codes "[")) (word_filled (codes "by")) (word_filled (codes "[")))

  index_refuses : 1 ≤ less → (ls : List Lexeme) → (says (codes ",") ls || matrix_follows ls) ≡ true → Refuses (MoreDomains less) ls (index_domain_behind low ls)
  unfolding index_domain_behind domain_rank
  index_refuses some ls goes =
      let there = domain_filled set_operations less refl some in
      refuses_chosen (MoreDomains less) (says (codes ",") ls) _ _ ls
      (λ e. next_then (codes ",") (ADomain set_operations less) (MoreDomains less) ls _ (says_sound (codes ",") ls e) there by_comma (good.domain set_operations (behind ls)))
      (λ e. refuses_behind Joint (Head less then ADomain set_operations less) (MoreDomains less) ls (behind (behind (behind ls))) _ (joint_taken ls (ap (λ b. b || matrix_follows ls) (sym e) ∙ goes)) by_matrix
      (then_filled (Head less) (ADomain set_operations less) head_filled there)
      (refuses_then (Head less) (ADomain set_operations less) (behind (behind (behind ls))) (matrix_head_from (behind (behind (behind ls)))) _ (head_refuses (behind (behind (behind ls)))) (head_sound less low sound (behind (behind (behind ls)))) (λ front h. h) there
      (λ p rest _. good.domain set_operations rest)))

  index_items : 1 ≤ less → (last : DomainTree) (ls next : List Lexeme) → another_index_domain last ls ≡ Some next → ItemSo another_index_domain (λ last. index_domain_behind low) (λ _. MoreDomains less) (no_more_domains less) last ls (index_domain_behind low next)
  unfolding another_index_domain
  index_items some last ls next e =
      let k = kept-sound (says (codes ",") ls || matrix_follows ls) ls next e in
      let goes : (says (codes ",") next || matrix_follows next) ≡ true = subst (λ z. (says (codes ",") z || matrix_follows z) ≡ true) (sym k.1) k.0 in
      record {
        takes = λ x rest d. let h = index_behind_sound less low sound next goes in let t = h.holds x rest d in
            record {
              front = t.0.front;
              parts = sym k.1 ∙ t.0.parts;
              leads = λ b back l. let s = t.0.spelled in a_further_domain less b t.0.front back (s.0, s.1, s.2, s.3, (x, (λ _. t.1), s.4)) l;
            };
        refuses = subst (λ z. Refuses (MoreDomains less) ls (index_domain_behind low z)) (sym k.1) (index_refuses some ls k.0);
      }

  matrix_refuses : 1 ≤ less → (p : Place) (ls : List Lexeme) → Refuses (InMatrix less) ls (matrix_from low p ls)
  unfolding matrix_from domain_rank
  matrix_refuses some p ls =
      let there = domain_filled set_operations less refl some in
      let of_it = then_filled (Word (codes "of")) (ADomain set_operations less) (word_filled (codes "of")) there in
      let elements = then_filled (Word (codes "]")) (Word (codes "of") then ADomain set_operations less) (word_filled (codes "]")) of_it in
      let more = then_filled (MoreDomains less) (OfElements less) (record { some = λ b. ([], no_more_domains less (bool p) b) }) elements in
      refuses_then (Head less) (ADomain set_operations less then MoreDomains less then OfElements less) ls (matrix_head_from ls) _ (head_refuses ls) (head_sound less low sound ls) (λ front h. h) (then_filled (ADomain set_operations less) (MoreDomains less then OfElements less) there more)
      (λ q a _. domain_then less low sound good (MoreDomains less then OfElements less) a _ more
      (λ d z. others_then another_index_domain (λ last. index_domain_behind low) (λ _. MoreDomains less) (no_more_domains less) (index_items some) (OfElements less) _ (λ _. more_domains_lift less) elements
      (λ ds end. word_then (codes "]") (Word (codes "of") then ADomain set_operations less) end _ of_it
      (λ q y. word_then (codes "of") (ADomain set_operations less) y _ there
      (λ q x. refuses_made (ADomain set_operations less) x (low.domain set_operations x) (λ element. matrix_domain p (as_domains (d ∷ ds)) element) (good.domain set_operations x)))) d z))

  any_refuses : (ls : List Lexeme) → Refuses (ADomain domains (suc less)) ls (any_domain_from (suc less) low ls)
  unfolding any_domain_from says domain_rank
  any_refuses [] = refuses_as Operations (ADomain domains (suc less)) [] _ (looser_shape domains set_operations refl) (operations_refuse [])
  any_refuses (l ∷ ls) =
      refuses_chosen (ADomain domains (suc less)) (says_word (codes "matrix") l.saying) _ _ (l ∷ ls)
      (λ e. let said = is_word-sound (codes "matrix") l.saying e in
      refuses_low (ADomain domains (suc less)) (nat_lt 1 (suc less)) _ l ls (token_opens (codes "matrix") (InMatrix less) (ADomain domains (suc less)) l said (matrix_node less) (in_matrix_has less false (λ k. absurd cc)))
      (λ lt. let some = test_enough lt in
      refuses_behind (Is (a_word (codes "matrix"))) (InMatrix less) (ADomain domains (suc less)) (l ∷ ls) ls _ (takes_token l ls (a_word (codes "matrix")) said) (λ b front back p k. matrix_node less b (front ++ back) (front, back, refl, p, k))
      (record { some = λ b. in_matrix_has less b (λ _. some) }) (matrix_refuses some l.place ls)))
      (λ _. refuses_as Operations (ADomain domains (suc less)) (l ∷ ls) _ (looser_shape domains set_operations refl) (operations_refuse (l ∷ ls)))

  pub domain_level_refuses : (level : DomainLevel) (ls : List Lexeme) → Refuses (ADomain level (suc less)) ls (domain_at_level (suc less) low level ls)
  unfolding domain_at_level
  domain_level_refuses domains ls = any_refuses ls
  domain_level_refuses set_operations ls = operations_refuse ls
  domain_level_refuses set_parts ls = part_refuses (nat_lt 1 (suc less)) test_enough ls
