-- What is taken is spelled, and isn't higher than it may be.
use Rattle.std.specs.Prelude.{◌≡◌, ℕ, zero, suc, ◌≤◌, max, Bool, true, false, ◌&&◌, ◌||◌, nat_le, nat_lt, List, [], ◌∷◌, length, Option, Some, None, codes, refl}
use Rattle.std.proofs.Common.{ap, arith, sym, subst, ◌∙◌, inl, inr}
use Rattle.std.proofs.Math.Nat.{max-le}
use Rattle.std.proofs.lemmas.Bool.{and_parts}
use Rattle.std.proofs.lemmas.Bool.Decides.{nat_tests}
use Rattle.ep_base.specs.declared.places.Place.{Place}
use Rattle.ep_tree.specs.Heights.{domain_height, end_height, height, highest_domain, highest_range}
use Rattle.ep_tree.specs.Phrases.{Lexeme, Phrase, Says, Saying, Silence, a_name, a_number, a_word, ◌followed_by◌}
use Rattle.ep_tree.specs.Spelling.{BetweenDomains, DomainLevel, Level, MatrixHead, MatrixTail, Spells, SpellsDomain, SpellsDomainNode, SpellsEnd, SpellsIndexDomains, SpellsMoreIndexDomains, SpellsMoreRanges, SpellsRanges, comparisons, conjunctions, disjunctions, domain_rank, domains, implications, own_domain_level, powers, primaries, products, rank, reads, set_operations, set_parts, set_word, sums, unaries}
use Rattle.ep_tree.specs.Trees.{DomainTree, Domains, End, bool, domain_and, end_at, group_domain, int, matrix_domain, named_domain, no_end, place_of_domain, ranges, set_domain}
use Rattle.ep_tree.specs.declared.syntax.SetOp.{SetOp}
use Rattle.ep_parse_parts.specs.DomainReaders.{DomainOpening, RangeRead, a_bool, a_domain_group, an_int, another_index_domain, another_operation, any_domain_from, as_domains, as_ranges, domain_at_level, domain_begun_from, domain_open_from, domain_openings, domain_part_from, end_from, index_domain_behind, matrix_follows, matrix_from, matrix_head_from, of_number, of_span, operations_from, range_from, ranges_from, set_words}
use Rattle.ep_parse_parts.specs.OperandReaders.{Lower, domain_next, expression_next, none_low}
use Rattle.ep_parse_parts.specs.OperatorReaders.{at_level}
use Rattle.ep_parse_parts.specs.Readers.{behind, behind_comma, says_word, looked_up, next_in, others_from, says, word_from}
use Rattle.ep_parse_parts.specs.TreeReaders.{expr_from, some_domain_from}
use Rattle.ep_parse_parts.proofs.Holding.{AreWordsOf, Holds, HoldsIf, Takes, behind_three, behind_two, grown_sound, holds_as, holds_chosen, holds_high, holds_low, holds_then, holds_took, holds_wrong, is_word-sound, looked_up-sound, more_sound, next_in-sound, operated_sound, says_sound, takes_as, takes_nothing, takes_then, ungrouped, word_sound}
use Rattle.ep_parse_parts.proofs.SoundLists.{whole}
use Rattle.ep_parse_parts.proofs.SoundOperators.{chain_sound, comparison_sound, conjunction_sound, disjunction_sound, implication_sound, power_sound, product_sound}
use Rattle.ep_parse_parts.proofs.SoundParts.{AreSound, IsDomain, IsExpr, comma_sound, domain_alone, domain_begun_by, domain_opened_by, kept-sound, looser_domain, takes_domain, takes_expr}
use Rattle.ep_parse_parts.proofs.SoundReads.{unary_sound}

below : (m n : ℕ) → nat_lt m (suc n) ≡ true → m ≤ n
below m n e = grind (arith, nat_tests)

-- ---- the words of domains

abbrev pub domain_word : DomainOpening → List ℕ
domain_word a_bool = codes "bool"
domain_word an_int = codes "int"
domain_word a_domain_group = codes "("

pub are_domain_openings : AreWordsOf domain_word domain_openings
are_domain_openings = (refl, (refl, (refl, tt)))

abbrev pub set_bytes : SetOp → List ℕ
set_bytes op = codes (set_word op)

pub are_operations : AreWordsOf set_bytes set_words
unfolding set_word
are_operations = (refl, (refl, (refl, tt)))

-- ---- ranges

-- a range
abbrev pub SpellsRange : RangeRead → Phrase
SpellsRange (of_number e) = Spells implications e
SpellsRange (of_span a b) = SpellsEnd a followed_by Says ".." followed_by SpellsEnd b

abbrev pub range_high : RangeRead → ℕ
range_high (of_number e) = height e
range_high (of_span a b) = max (end_height a) (end_height b)

ranges_made : (r : RangeRead) (rs : List RangeRead) (from mid end : List Lexeme) → Takes (SpellsRange r) from mid → Takes (SpellsMoreRanges (as_ranges rs)) mid end → Takes (SpellsRanges (as_ranges (r ∷ rs))) from end
unfolding SpellsDomainNode as_ranges
ranges_made (of_number e) rs from mid end s t = takes_then (Spells implications e) (SpellsMoreRanges (as_ranges rs)) from mid end s t
ranges_made (of_span a b) rs from mid end s t = regroup from mid end s t
  where
    regroup : (from mid end : List Lexeme) → Takes (SpellsEnd a followed_by Says ".." followed_by SpellsEnd b) from mid → Takes (SpellsMoreRanges (as_ranges rs)) mid end
        → Takes (SpellsEnd a followed_by Says ".." followed_by SpellsEnd b followed_by SpellsMoreRanges (as_ranges rs)) from end
    regroup from mid end s t = behind_three (SpellsEnd a) (Says "..") (SpellsEnd b) (SpellsMoreRanges (as_ranges rs)) from mid end s t

more_ranges_made : (r : RangeRead) (rs : List RangeRead) (from next mid end : List Lexeme) → Takes (Says ",") from next → Takes (SpellsRange r) next mid → Takes (SpellsMoreRanges (as_ranges rs)) mid end
    → Takes (SpellsMoreRanges (as_ranges (r ∷ rs))) from end
unfolding SpellsDomainNode as_ranges
more_ranges_made (of_number e) rs from next mid end c s t =
    takes_then (Says ",") (Spells implications e followed_by SpellsMoreRanges (as_ranges rs)) from next end c (takes_then (Spells implications e) (SpellsMoreRanges (as_ranges rs)) next mid end s t)
more_ranges_made (of_span a b) rs from next mid end c s t =
    takes_then (Says ",") (SpellsEnd a followed_by Says ".." followed_by SpellsEnd b followed_by SpellsMoreRanges (as_ranges rs)) from next end c
    (behind_three (SpellsEnd a) (Says "..") (SpellsEnd b) (SpellsMoreRanges (as_ranges rs)) next mid end s t)

ranges_high : (less : ℕ) (r : RangeRead) (rs : List RangeRead) → range_high r ≤ less → highest_range (as_ranges rs) ≤ less → highest_range (as_ranges (r ∷ rs)) ≤ less
unfolding height as_ranges
ranges_high less (of_number e) rs h k = max-le h k
ranges_high less (of_span a b) rs h k = max-le h k

module _ (less : ℕ) (low : Lower) (good : AreSound less low) where
  abbrev pub IsRange : List Lexeme → RangeRead → List Lexeme → Type 0
  IsRange ls r rest = Takes (SpellsRange r) ls rest × (range_high r ≤ less)

  end_sound : (ls : List Lexeme) (first : End) (from : List Lexeme) → Takes (SpellsEnd first) ls from → end_height first ≤ less → says (codes "..") from ≡ true
      → Holds (IsRange ls) (end_from low first (behind from))
  unfolding end_from SpellsDomainNode height
  end_sound ls first from f small dots =
      holds_chosen (IsRange ls) (expression_next (behind from)) _ _ (behind from)
      (λ _. holds_then (IsExpr implications less (behind from)) (IsRange ls) (low.expr implications (behind from)) _ (whole less low good (behind from))
      (λ e rest h. holds_took (IsRange ls) (of_span first (end_at e)) rest (
        takes_then (SpellsEnd first) (Says ".." followed_by Spells implications e) ls from rest f
            (takes_then (Says "..") (Spells implications e) from (behind from) rest (says_sound (codes "..") from dots) (takes_expr implications less (behind from) e rest h)),
        max-le small h.low,
      )))
      (λ _. holds_took (IsRange ls) (of_span first no_end) (behind from) (
        takes_then (SpellsEnd first) (Says ".." followed_by Silence) ls from (behind from) f
            (takes_then (Says "..") Silence from (behind from) (behind from) (says_sound (codes "..") from dots) (takes_nothing (behind from))),
        max-le small (omega arith),
      ))

  pub range_sound : (ls : List Lexeme) → Holds (IsRange ls) (range_from low ls)
  unfolding range_from SpellsDomainNode height
  range_sound ls =
      holds_chosen (IsRange ls) (says (codes "..") ls) _ _ ls
      (λ dots. end_sound ls no_end ls (takes_nothing ls) (omega arith) dots)
      (λ _. holds_then (IsExpr implications less ls) (IsRange ls) (low.expr implications ls) _ (whole less low good ls)
      (λ e rest h. holds_chosen (IsRange ls) (says (codes "..") rest) _ _ rest
      (λ dots. end_sound ls (end_at e) rest (takes_expr implications less ls e rest h) h.low dots)
      (λ _. holds_took (IsRange ls) (of_number e) rest (takes_expr implications less ls e rest h, h.low))))

  AreRanges : List Lexeme → List RangeRead → List Lexeme → Type 0
  AreRanges from rs end = Takes (SpellsMoreRanges (as_ranges rs)) from end × (highest_range (as_ranges rs) ≤ less)

  more_ranges_sound : (r : RangeRead) (ls : List Lexeme) → Holds (AreRanges ls) (others_from behind_comma (λ last. range_from low) r ls)
  unfolding AreRanges as_ranges SpellsDomainNode height
  more_ranges_sound r ls =
      more_sound behind_comma (λ last. range_from low) (λ last. AreRanges) (λ last from. (takes_nothing from, omega arith))
      (λ last from next c. holds_as (IsRange next) _ (range_from low next) (range_sound next)
      (λ x mid h xs end m. (more_ranges_made x xs from next mid end (comma_sound last from next c) h.0 m.0, ranges_high less x xs h.1 m.1)))
      (length ls) r ls

  -- ---- domains that a token begins

  module _ (l : Lexeme) (ls : List Lexeme) where
    abbrev IsPartDomain : DomainTree → List Lexeme → Type 0
    IsPartDomain d rest = IsDomain set_parts (suc less) (l ∷ ls) d rest

    ranges_sound : l.saying ≡ a_word (codes "int") → says (codes "(") ls ≡ true → Holds IsPartDomain (ranges_from low l.place (behind ls))
    unfolding ranges_from AreRanges SpellsDomainNode own_domain_level domain_rank place_of_domain height
    ranges_sound said bracket =
        let from = behind ls in
        holds_then (IsRange from) IsPartDomain (range_from low from) _ (range_sound from)
        (λ r rest h. holds_then (AreRanges rest) IsPartDomain (others_from behind_comma (λ last. range_from low) r rest) _ (more_ranges_sound r rest)
        (λ rs next m. holds_then (λ p end. Takes (Says ")") next end) IsPartDomain (word_from (codes ")") next) _ (word_sound (codes ")") next)
        (λ p end t. holds_took IsPartDomain (ranges l.place (as_ranges (r ∷ rs))) end
        (domain_opened_by set_parts (suc less) l ls end (ranges l.place (as_ranges (r ∷ rs))) (codes "int") (Says "(" followed_by SpellsRanges (as_ranges (r ∷ rs)) followed_by Says ")") said refl (λ front x. x) refl
        (takes_then (Says "(") (SpellsRanges (as_ranges (r ∷ rs)) followed_by Says ")") ls from end (says_sound (codes "(") ls bracket)
        (takes_then (SpellsRanges (as_ranges (r ∷ rs))) (Says ")") from next end (ranges_made r rs from rest next h.0 m.0) t))
        (let high = ranges_high less r rs h.1 m.1 in omega (arith, high))))))

    domain_open_sound : (b : Bool) (o : Option DomainOpening) → ((what : DomainOpening) → o ≡ Some what → l.saying ≡ a_word (domain_word what)) → Holds IsPartDomain (domain_open_from b low l.place o ls (l ∷ ls))
    unfolding domain_open_from SpellsDomainNode own_domain_level domain_rank place_of_domain height
    domain_open_sound b None k = holds_wrong IsPartDomain (l ∷ ls)
    domain_open_sound b (Some a_bool) k =
        holds_took IsPartDomain (bool l.place) ls (domain_alone set_parts (suc less) l ls (bool l.place) (a_word (codes "bool")) (k a_bool refl) refl (λ front x. x) refl (omega arith))
    domain_open_sound b (Some an_int) k =
        holds_chosen IsPartDomain (says (codes "(") ls) _ _ ls (λ e. ranges_sound (k an_int refl) e)
        (λ _. holds_took IsPartDomain (int l.place) ls (domain_alone set_parts (suc less) l ls (int l.place) (a_word (codes "int")) (k an_int refl) refl (λ front x. x) refl (omega arith)))
    domain_open_sound b (Some a_domain_group) k =
        holds_low IsPartDomain b _ (l ∷ ls)
        (λ _. holds_then (IsDomain set_operations less ls) IsPartDomain (low.domain set_operations ls) _ (good.domain set_operations ls)
        (λ d next h. holds_then (λ p end. Takes (Says ")") next end) IsPartDomain (word_from (codes ")") next) _ (word_sound (codes ")") next)
        (λ p end t. holds_took IsPartDomain (group_domain l.place d) end
        (domain_opened_by set_parts (suc less) l ls end (group_domain l.place d) (codes "(") (SpellsDomain set_operations d followed_by Says ")") (k a_domain_group refl) refl (λ front x. x) refl
        (takes_then (SpellsDomain set_operations d) (Says ")") ls next end (takes_domain set_operations less ls d next h) t)
        (let high = h.low in omega (arith, high))))))

    domain_begun_sound : (b : Bool) (s : Saying) → l.saying ≡ s → Holds IsPartDomain (domain_begun_from b low l.place s ls (l ∷ ls))
    unfolding domain_begun_from SpellsDomainNode own_domain_level domain_rank place_of_domain height
    domain_begun_sound b (a_name x) said =
        holds_took IsPartDomain (named_domain l.place x) ls (domain_alone set_parts (suc less) l ls (named_domain l.place x) (a_name x) said refl (λ front y. y) refl (omega arith))
    domain_begun_sound b (a_number n) said = holds_wrong IsPartDomain (l ∷ ls)
    domain_begun_sound b (a_word w) said = domain_open_sound b (looked_up domain_openings w) (λ what e. said ∙ ap a_word (looked_up-sound domain_word domain_openings are_domain_openings w what e))

  pub domain_part_sound : (b : Bool) (ls : List Lexeme) → Holds (IsDomain set_parts (suc less) ls) (domain_part_from b low ls)
  unfolding domain_part_from
  domain_part_sound b [] = holds_wrong (IsDomain set_parts (suc less) []) []
  domain_part_sound b (l ∷ ls) = domain_begun_sound l ls b l.saying refl

  -- ---- operations of sets

  pub operation_step : (ls : List Lexeme) (left : DomainTree) (from : List Lexeme) → IsDomain set_operations (suc less) ls left from
      → HoldsIf (IsDomain set_operations (suc less) ls) (another_operation (suc less) low left from)
  unfolding another_operation SpellsDomainNode own_domain_level domain_rank place_of_domain height
  operation_step ls left from q =
      let Q : DomainTree → List Lexeme → Type 0 = IsDomain set_operations (suc less) ls in
      operated_sound Q true (next_in set_words from) _
      (λ op _ e. holds_low Q (nat_lt (domain_height left) (suc less)) _ from
      (λ lt. holds_then (IsDomain set_parts less (behind from)) Q (low.domain set_parts (behind from)) _ (good.domain set_parts (behind from))
      (λ d end h. holds_took Q (set_domain (place_of_domain left) op left d) end
      (domain_begun_by set_operations set_operations (suc less) (suc less) ls from end left (set_domain (place_of_domain left) op left d) (Says (set_word op) followed_by SpellsDomain set_parts d) refl q
      (takes_then (Says (set_word op)) (SpellsDomain set_parts d) from (behind from) end (next_in-sound set_bytes set_words are_operations from op e) (takes_domain set_parts less (behind from) d end h))
      (λ front k. k) refl
      (let high : max (domain_height left) (domain_height d) ≤ less = max-le (below (domain_height left) less lt) h.low in omega (arith, high))))))

  pub operations_sound : (ls : List Lexeme) → Holds (IsDomain set_operations (suc less) ls) (operations_from (suc less) low ls)
  unfolding operations_from domain_rank
  operations_sound ls =
      holds_then (IsDomain set_parts (suc less) ls) (IsDomain set_operations (suc less) ls) (domain_part_from (nat_lt 1 (suc less)) low ls) _ (domain_part_sound (nat_lt 1 (suc less)) ls)
      (λ d rest h. grown_sound (another_operation (suc less) low) (IsDomain set_operations (suc less) ls) (operation_step ls) (length rest) d rest (looser_domain set_operations set_parts (suc less) ls d rest refl h))

  -- ---- matrix domains

  -- what stands in the head of a matrix domain behind its first word
  abbrev pub HeadRest : Phrase
  HeadRest = Says "indexed" followed_by Says "by" followed_by Says "["

  pub head_sound : (ls : List Lexeme) → Holds (λ p rest. Takes HeadRest ls rest) (matrix_head_from ls)
  unfolding matrix_head_from
  head_sound ls =
      let Q : Place → List Lexeme → Type 0 = λ p rest. Takes HeadRest ls rest in
      holds_then (λ p by. Takes (Says "indexed") ls by) Q (word_from (codes "indexed") ls) _ (word_sound (codes "indexed") ls)
      (λ p by one. holds_then (λ p bracket. Takes (Says "by") by bracket) Q (word_from (codes "by") by) _ (word_sound (codes "by") by)
      (λ p bracket two. holds_as (λ p rest. Takes (Says "[") bracket rest) Q (word_from (codes "[") bracket) (word_sound (codes "[") bracket)
      (λ p rest three. takes_then (Says "indexed") (Says "by" followed_by Says "[") ls by rest one (takes_then (Says "by") (Says "[") by bracket rest two three))))

  abbrev pub IsIndexDomain : List Lexeme → DomainTree → List Lexeme → Type 0
  IsIndexDomain ls d rest = Takes (BetweenDomains followed_by SpellsDomain set_operations d) ls rest × (domain_height d ≤ less)

  pub index_behind_sound : (ls : List Lexeme) → (says (codes ",") ls || matrix_follows ls) ≡ true → Holds (IsIndexDomain ls) (index_domain_behind low ls)
  unfolding index_domain_behind matrix_follows
  index_behind_sound ls goes =
      holds_chosen (IsIndexDomain ls) (says (codes ",") ls) _ _ ls
      (λ e. holds_as (IsDomain set_operations less (behind ls)) (IsIndexDomain ls) (low.domain set_operations (behind ls)) (good.domain set_operations (behind ls))
      (λ d rest h. (takes_then BetweenDomains (SpellsDomain set_operations d) ls (behind ls) rest (takes_as (Says ",") BetweenDomains ls (behind ls) (λ front x. inl x) (says_sound (codes ",") ls e)) (takes_domain set_operations less (behind ls) d rest h), h.low)))
      (λ e. holds_then (λ p rest. Takes HeadRest (behind (behind (behind ls))) rest) (IsIndexDomain ls) (matrix_head_from (behind (behind (behind ls)))) _ (head_sound (behind (behind (behind ls))))
      (λ p first head. holds_as (IsDomain set_operations less first) (IsIndexDomain ls) (low.domain set_operations first) (good.domain set_operations first)
      (λ d rest h. (takes_then BetweenDomains (SpellsDomain set_operations d) ls first rest (takes_as (MatrixTail followed_by MatrixHead) BetweenDomains ls first (λ front x. inr x) (joint ls first (follows e) head)) (takes_domain set_operations less first d rest h), h.low))))
    where
      follows : says (codes ",") ls ≡ false → matrix_follows ls ≡ true
      follows e = ap (λ b. b || matrix_follows ls) (sym e) ∙ goes

      joint : (from first : List Lexeme) → matrix_follows from ≡ true → Takes HeadRest (behind (behind (behind from))) first → Takes (MatrixTail followed_by MatrixHead) from first
      joint from first f head =
          let one = and_parts (says (codes "]") from) (says (codes "of") (behind from) && says (codes "matrix") (behind (behind from))) f in
          let two = and_parts (says (codes "of") (behind from)) (says (codes "matrix") (behind (behind from))) one.1 in
          takes_then MatrixTail MatrixHead from (behind (behind from)) first
          (takes_then (Says "]") (Says "of") from (behind from) (behind (behind from)) (says_sound (codes "]") from one.0) (says_sound (codes "of") (behind from) two.0))
          (takes_then (Says "matrix") HeadRest (behind (behind from)) (behind (behind (behind from))) first (says_sound (codes "matrix") (behind (behind from)) two.1) head)

  AreIndexDomains : List Lexeme → List DomainTree → List Lexeme → Type 0
  AreIndexDomains from ds end = Takes (SpellsMoreIndexDomains (as_domains ds)) from end × (highest_domain (as_domains ds) ≤ less)

  index_domains_sound : (d : DomainTree) (ls : List Lexeme) → Holds (AreIndexDomains ls) (others_from another_index_domain (λ last. index_domain_behind low) d ls)
  unfolding AreIndexDomains as_domains SpellsDomainNode height another_index_domain
  index_domains_sound d ls =
      more_sound another_index_domain (λ last. index_domain_behind low) (λ last. AreIndexDomains) (λ last from. (takes_nothing from, omega arith))
      (λ last from next c.
      let k = kept-sound (says (codes ",") from || matrix_follows from) from next c in
      holds_as (IsIndexDomain next) _ (index_domain_behind low next) (index_behind_sound next (subst (λ z. (says (codes ",") z || matrix_follows z) ≡ true) (sym k.1) k.0))
      (λ x mid h xs end m. (
        subst (λ z. Takes (BetweenDomains followed_by SpellsDomain set_operations x followed_by SpellsMoreIndexDomains (as_domains xs)) z end) k.1
            (behind_two BetweenDomains (SpellsDomain set_operations x) (SpellsMoreIndexDomains (as_domains xs)) next mid end h.0 m.0),
        max-le h.1 m.1,
      )))
      (length ls) d ls

  matrix_sound : (l : Lexeme) (ls : List Lexeme) → l.saying ≡ a_word (codes "matrix") → Holds (IsDomain domains (suc less) (l ∷ ls)) (matrix_from low l.place ls)
  unfolding matrix_from AreIndexDomains SpellsDomainNode own_domain_level domain_rank place_of_domain height as_domains
  matrix_sound l ls said =
      let Q : DomainTree → List Lexeme → Type 0 = IsDomain domains (suc less) (l ∷ ls) in
      holds_then (λ p first. Takes HeadRest ls first) Q (matrix_head_from ls) _ (head_sound ls)
      (λ p first head. holds_then (IsDomain set_operations less first) Q (low.domain set_operations first) _ (good.domain set_operations first)
      (λ d rest h. holds_then (AreIndexDomains rest) Q (others_from another_index_domain (λ last. index_domain_behind low) d rest) _ (index_domains_sound d rest)
      (λ ds end m. holds_then (λ p of_word. Takes (Says "]") end of_word) Q (word_from (codes "]") end) _ (word_sound (codes "]") end)
      (λ p of_word one. holds_then (λ p elements. Takes (Says "of") of_word elements) Q (word_from (codes "of") of_word) _ (word_sound (codes "of") of_word)
      (λ p elements two. holds_then (IsDomain set_operations less elements) Q (low.domain set_operations elements) _ (good.domain set_operations elements)
      (λ element after k. holds_took Q (matrix_domain l.place (as_domains (d ∷ ds)) element) after
      (matrix_made d (as_domains ds) element first rest end of_word elements after head h m one two k)))))))
    where
      matrix_made : (d : DomainTree) (ds : Domains) (element : DomainTree) (first rest end of_word elements after : List Lexeme) → Takes HeadRest ls first → IsDomain set_operations less first d rest
          → (Takes (SpellsMoreIndexDomains ds) rest end × (highest_domain ds ≤ less)) → Takes (Says "]") end of_word → Takes (Says "of") of_word elements → IsDomain set_operations less elements element after
          → IsDomain domains (suc less) (l ∷ ls) (matrix_domain l.place (domain_and d ds) element) after
      matrix_made d ds element first rest end of_word elements after head h m one two k =
          let index = domain_and d ds in
          let inner : Takes (SpellsIndexDomains index followed_by MatrixTail followed_by SpellsDomain set_operations element) first after =
          takes_then (SpellsIndexDomains index) (MatrixTail followed_by SpellsDomain set_operations element) first end after
          (takes_then (SpellsDomain set_operations d) (SpellsMoreIndexDomains ds) first rest end (takes_domain set_operations less first d rest h) m.0)
          (takes_then MatrixTail (SpellsDomain set_operations element) end elements after (takes_then (Says "]") (Says "of") end of_word elements one two) (takes_domain set_operations less elements element after k)) in
          domain_opened_by domains (suc less) l ls after (matrix_domain l.place index element) (codes "matrix") (HeadRest followed_by SpellsIndexDomains index followed_by MatrixTail followed_by SpellsDomain set_operations element) said refl
          (λ front x. ungrouped (Says "matrix") HeadRest (SpellsIndexDomains index followed_by MatrixTail followed_by SpellsDomain set_operations element) front x) refl
          (takes_then HeadRest (SpellsIndexDomains index followed_by MatrixTail followed_by SpellsDomain set_operations element) ls first after head inner)
          (let high : max (max (domain_height d) (highest_domain ds)) (domain_height element) ≤ less = max-le (max-le h.low m.1) k.low in omega (arith, high))

  any_domain_sound : (ls : List Lexeme) → Holds (IsDomain domains (suc less) ls) (any_domain_from (suc less) low ls)
  unfolding any_domain_from says domain_rank
  any_domain_sound [] = holds_as (IsDomain set_operations (suc less) []) (IsDomain domains (suc less) []) (operations_from (suc less) low []) (operations_sound []) (λ d rest h. looser_domain domains set_operations (suc less) [] d rest refl h)
  any_domain_sound (l ∷ ls) =
      holds_chosen (IsDomain domains (suc less) (l ∷ ls)) (says_word (codes "matrix") l.saying) _ _ (l ∷ ls)
      (λ e. holds_low (IsDomain domains (suc less) (l ∷ ls)) (nat_lt 1 (suc less)) _ (l ∷ ls) (λ _. matrix_sound l ls (is_word-sound (codes "matrix") l.saying e)))
      (λ _. holds_as (IsDomain set_operations (suc less) (l ∷ ls)) (IsDomain domains (suc less) (l ∷ ls)) (operations_from (suc less) low (l ∷ ls)) (operations_sound (l ∷ ls)) (λ d rest h. looser_domain domains set_operations (suc less) (l ∷ ls) d rest refl h))

  -- ---- levels

  at_level_sound : (level : Level) → nat_le (rank level) (rank unaries) ≡ true → (ls : List Lexeme) → Holds (IsExpr level (suc less) ls) (at_level (suc less) low level ls)
  unfolding at_level rank
  at_level_sound implications ok ls = implication_sound less low good ls
  at_level_sound disjunctions ok ls = disjunction_sound less low good ls
  at_level_sound conjunctions ok ls = conjunction_sound less low good ls
  at_level_sound comparisons ok ls = comparison_sound less low good ls
  at_level_sound sums ok ls = chain_sound less low good ls
  at_level_sound products ok ls = product_sound less low good ls
  at_level_sound powers ok ls = power_sound less low good ls
  at_level_sound unaries ok ls = unary_sound less low good ls
  at_level_sound reads ok ls = let wrong_level : false ≡ true = ok in absurd cc
  at_level_sound primaries ok ls = let wrong_level : false ≡ true = ok in absurd cc

  domain_at_level_sound : (level : DomainLevel) (ls : List Lexeme) → Holds (IsDomain level (suc less) ls) (domain_at_level (suc less) low level ls)
  unfolding domain_at_level
  domain_at_level_sound domains ls = any_domain_sound ls
  domain_at_level_sound set_operations ls = operations_sound ls
  domain_at_level_sound set_parts ls = domain_part_sound (nat_lt 1 (suc less)) ls

-- ---- all of it

none_sound : {A : Type 0} (Q : A → List Lexeme → Type 0) (b : Bool) (ls : List Lexeme) → Holds Q (none_low b ls)
none_sound Q true ls = holds_high Q ls
none_sound Q false ls = holds_wrong Q ls

-- Each expression and domain that is taken is spelled by the tokens that are taken, and isn't higher than it may be.
mutual
  unfolding expr_from

  pub expr_sound : (most : ℕ) (level : Level) → nat_le (rank level) (rank unaries) ≡ true → (ls : List Lexeme) → Holds (IsExpr level most ls) (expr_from most level ls)
  expr_sound zero level ok ls = none_sound (IsExpr level zero ls) (expression_next ls) ls
  expr_sound (suc less) level ok ls =
      at_level_sound less (record { expr = expr_from less; domain = some_domain_from less }) (record { expr = expr_sound less; domain = domain_sound less }) level ok ls

  pub domain_sound : (most : ℕ) (level : DomainLevel) (ls : List Lexeme) → Holds (IsDomain level most ls) (some_domain_from most level ls)
  domain_sound zero level ls = none_sound (IsDomain level zero ls) (domain_next level ls) ls
  domain_sound (suc less) level ls =
      domain_at_level_sound less (record { expr = expr_from less; domain = some_domain_from less }) (record { expr = expr_sound less; domain = domain_sound less }) level ls
