-- Domains are read again.
use Rattle.std.specs.Prelude.{◌≡◌, ℕ, zero, suc, ◌≤◌, Bool, true, false, nat_le, nat_lt, List, [], ◌∷◌, ◌++◌, length, Option, Some, None, codes, refl}
use Rattle.std.proofs.Common.{ap, arith, inl, inr, sym, subst, ◌∙◌, length-append, append_assoc}
use Rattle.std.proofs.Math.Nat.{le-max_left, le-max_right}
use Rattle.ep_base.specs.declared.places.Place.{Place}
use Rattle.ep_tree.specs.Heights.{domain_height, highest_domain}
use Rattle.ep_tree.specs.Phrases.{Lexeme, Phrase, Says, StartsAt, a_word, ◌followed_by◌}
use Rattle.ep_tree.specs.Spelling.{BetweenDomains, MatrixHead, MatrixTail, SpellsDomain, SpellsDomainNode, SpellsIndexDomains, SpellsMoreIndexDomains, SpellsRanges, domain_rank, domains, own_domain_level, set_operations, set_parts, set_word}
use Rattle.ep_tree.specs.Trees.{DomainTree, Domains, bool, domain_and, group_domain, int, matrix_domain, named_domain, no_domains, place_of_domain, ranges, set_domain}
use Rattle.ep_tree.specs.declared.syntax.SetOp.{SetOp}
use Rattle.ep_parse_parts.specs.DomainReaders.{another_index_domain, another_operation, any_domain_from, as_domains, domain_begun_from, domain_open_from, domain_part_from, index_domain_behind, matrix_follows, matrix_from, matrix_head_from, operations_from, place_next, ranges_from, set_words}
use Rattle.ep_parse_parts.specs.OperandReaders.{Lower, if_low}
use Rattle.ep_parse_parts.specs.Readers.{Read, Reader, behind, either_reader, grown, looked_up, more_from, next_in, others_from, says, took, word_from, ◌and_then◌}
use Rattle.ep_parse_parts.proofs.Again.{AreComplete, DomainEnds, GrownTo, around_cut, around_rest, behind_word_cut, below_again, grown_end, grown_more, grown_start, lexeme, same_place}
use Rattle.ep_parse_parts.proofs.AgainPhrases.{Again, bracket_closes, comma_closes, domain_then, enough, group_closes, last_ends_domain, some_domain}
use Rattle.ep_parse_parts.proofs.AgainRanges.{ranges_again}
use Rattle.ep_parse_parts.proofs.Holding.{regrouped}

-- ---- how a domain starts

-- no domain without index domains starts with `matrix`
pub no_matrix : (d : DomainTree) (front rest : List Lexeme) → nat_le (domain_rank set_operations) (domain_rank (own_domain_level d)) ≡ true → SpellsDomainNode d front → says (codes "matrix") (front ++ rest) ≡ false
unfolding SpellsDomainNode says domain_rank own_domain_level
no_matrix (bool p) front rest up h = ap (λ x. says (codes "matrix") (x ++ rest)) h.1
no_matrix (int p) front rest up h = ap (λ x. says (codes "matrix") (x ++ rest)) h.1
no_matrix (ranges p rs) front rest up h = ap (λ x. says (codes "matrix") (x ++ rest)) (h.2 ∙ ap (λ x. x ++ h.1) h.3.1)
no_matrix (named_domain p x) front rest up h = ap (λ y. says (codes "matrix") (y ++ rest)) h.1
no_matrix (group_domain p d) front rest up h = ap (λ x. says (codes "matrix") (x ++ rest)) (h.2 ∙ ap (λ x. x ++ h.1) h.3.1)
no_matrix (set_domain p op c d) front rest up h =
    ap (says (codes "matrix")) (ap (λ x. x ++ rest) h.2 ∙ append_assoc h.0 h.1 rest) ∙ no_matrix c h.0 (h.1 ++ rest) h.3.0 h.3.1.1
no_matrix (matrix_domain p ds d) front rest up h = let wrong : false ≡ true = up in absurd cc

set_found : (op : SetOp) (p : Place) (ls : List Lexeme) → next_in set_words (lexeme p (a_word (codes (set_word op))) ∷ ls) ≡ Some op
unfolding next_in looked_up set_word
set_found SetOp.Union p ls = refl
set_found SetOp.Intersect p ls = refl
set_found SetOp.Minus p ls = refl

set_no_group : (op : SetOp) (p : Place) (ls : List Lexeme) → says (codes "(") (lexeme p (a_word (codes (set_word op))) ∷ ls) ≡ false
unfolding says set_word
set_no_group SetOp.Union p ls = refl
set_no_group SetOp.Intersect p ls = refl
set_no_group SetOp.Minus p ls = refl

-- domains as a list
abbrev pub listed_domains : Domains → List DomainTree
listed_domains no_domains = []
listed_domains (domain_and d ds) = d ∷ listed_domains ds

as_listed_domains : (ds : Domains) → as_domains (listed_domains ds) ≡ ds
unfolding as_domains
as_listed_domains no_domains = refl
as_listed_domains (domain_and d ds) = ap (domain_and d) (as_listed_domains ds)

module _ (less : ℕ) (low : Lower) (good : AreComplete less low) where
  abbrev low_enough : Bool
  low_enough = nat_lt 1 (suc less)

  -- ---- domains without operations

  group_again : (p : Place) (d : DomainTree) (rest : List Lexeme) → domain_height d ≤ less
      → Again (SpellsDomain set_operations d followed_by Says ")") (λ ls. low.domain set_operations ls and_then λ x next. word_from (codes ")") next and_then λ _ end. took (group_domain p x) end) (group_domain p d) rest
  unfolding word_from
  group_again p d rest small =
      domain_then less low good d (Says ")") (λ x next. word_from (codes ")") next and_then λ _ end. took (group_domain p x) end) (group_domain p d) rest small (last_ends_domain (codes ")") rest group_closes)
      (λ f h. ap (λ x. word_from (codes ")") (x ++ rest) and_then λ _ end. took (group_domain p d) end) h.1)

  pub part_again : (d : DomainTree) (front rest : List Lexeme) → nat_le (domain_rank set_parts) (domain_rank (own_domain_level d)) ≡ true → StartsAt (place_of_domain d) front → SpellsDomainNode d front
      → domain_height d ≤ suc less → says (codes "(") rest ≡ false → domain_part_from low_enough low (front ++ rest) ≡ took d rest
  unfolding SpellsDomainNode domain_rank own_domain_level place_of_domain domain_height domain_part_from domain_begun_from domain_open_from looked_up says
  part_again (bool p) front rest up at h high none =
      let here : h.0 ≡ p = subst (λ x. StartsAt p x) h.1 at in
      ap (λ x. domain_part_from low_enough low (x ++ rest)) h.1 ∙ ap (λ q. took (bool q) rest) here
  part_again (int p) front rest up at h high none =
      let here : h.0 ≡ p = subst (λ x. StartsAt p x) h.1 at in
      ap (λ x. domain_part_from low_enough low (x ++ rest)) h.1 ∙ ap (λ b. either_reader b (λ next. ranges_from low h.0 (behind next)) (λ next. took (int h.0) next) rest) none ∙ ap (λ q. took (int q) rest) here
  part_again (ranges p rs) front rest up at h high none =
      let c = behind_word_cut (codes "int") (Says "(" followed_by SpellsRanges rs followed_by Says ")") front h in
      let d = behind_word_cut (codes "(") (SpellsRanges rs followed_by Says ")") c.rest c.spelled in
      let here : c.place ≡ p = subst (λ x. StartsAt p x) c.parts at in
      ap (λ x. domain_part_from low_enough low (x ++ rest)) (c.parts ∙ ap (λ x. lexeme c.place (a_word (codes "int")) ∷ x) d.parts)
      ∙ ap (λ q. ranges_from low q (d.rest ++ rest)) here
      ∙ ranges_again less low good p rs rest (omega (arith, high)) d.rest d.spelled
  part_again (named_domain p x) front rest up at h high none =
      let here : h.0 ≡ p = subst (λ y. StartsAt p y) h.1 at in
      ap (λ y. domain_part_from low_enough low (y ++ rest)) h.1 ∙ ap (λ q. took (named_domain q x) rest) here
  part_again (group_domain p d) front rest up at h high none =
      let c = behind_word_cut (codes "(") (SpellsDomain set_operations d followed_by Says ")") front h in
      let here : c.place ≡ p = subst (λ x. StartsAt p x) c.parts at in
      let small : domain_height d ≤ less = omega (arith, high) in
      let all = lexeme c.place (a_word (codes "(")) ∷ (c.rest ++ rest) in
      let some : 1 ≤ less = omega (arith, some_domain d, small) in
      ap (λ x. domain_part_from low_enough low (x ++ rest)) c.parts
      ∙ ap (λ b. if_low b (λ _. low.domain set_operations (c.rest ++ rest) and_then λ x next. word_from (codes ")") next and_then λ _ end. took (group_domain c.place x) end) all) (enough less less some (omega arith))
      ∙ ap (λ q. low.domain set_operations (c.rest ++ rest) and_then λ x next. word_from (codes ")") next and_then λ _ end. took (group_domain q x) end) here
      ∙ group_again p d rest small c.rest c.spelled
  part_again (set_domain p op c d) front rest up at h high none = let wrong : false ≡ true = up in absurd cc
  part_again (matrix_domain p ds d) front rest up at h high none = let wrong : false ≡ true = up in absurd cc

  -- ---- operations

  abbrev step : DomainTree → List Lexeme → Option (Read DomainTree)
  step = another_operation (suc less) low

  abbrev part : Reader DomainTree
  part = domain_part_from low_enough low

  abbrev Grown : DomainTree → List Lexeme → List Lexeme → Type 0
  Grown d front tail = GrownTo step (part (front ++ tail) and_then grown step) d tail

  one_step : (p : Place) (op : SetOp) (c d : DomainTree) (q : Place) (back tail : List Lexeme) → domain_height c ≤ less → place_of_domain c ≡ p
      → low.domain set_parts (back ++ tail) ≡ took d tail → step c (lexeme q (a_word (codes (set_word op))) ∷ (back ++ tail)) ≡ Some (took (set_domain p op c d) tail)
  unfolding another_operation
  one_step p op c d q back tail small at again = rw (set_found op q (back ++ tail), below_again (domain_height c) less small, again, at) refl

  grown_any : (d : DomainTree) (front tail : List Lexeme) → nat_le (domain_rank set_operations) (domain_rank (own_domain_level d)) ≡ true → StartsAt (place_of_domain d) front → SpellsDomainNode d front
      → domain_height d ≤ suc less → says (codes "(") tail ≡ false → Grown d front tail
  unfolding SpellsDomainNode domain_rank own_domain_level place_of_domain domain_height
  grown_any (set_domain p op c d) front tail up at h high ends =
      let k = around_cut (SpellsDomain set_operations c) (codes (set_word op)) (SpellsDomain set_parts d) front h in
      let word = lexeme k.place (a_word (codes (set_word op))) in
      let more = word ∷ (k.back ++ tail) in
      let cut_rest : front ++ tail ≡ k.front ++ more = around_rest k.front k.back tail front word k.parts in
      let here : place_of_domain c ≡ p = same_place p (place_of_domain c) k.front (word ∷ k.back) k.first.1.0 (subst (λ x. StartsAt p x) k.parts at) in
      let low_c : domain_height c ≤ less = omega (arith, high, le-max_left (domain_height c) (domain_height d)) in
      let low_d : domain_height d ≤ less = omega (arith, high, le-max_right (domain_height c) (domain_height d)) in
      let grew : Grown c k.front more = grown_any c k.front more k.first.0 k.first.1.0 k.first.1.1 (omega (arith, low_c)) (set_no_group op k.place (k.back ++ tail)) in
      let again : low.domain set_parts (k.back ++ tail) ≡ took d tail = good.domain set_parts d k.back tail k.second low_d ends in
      subst (λ x. GrownTo step (part x and_then grown step) (set_domain p op c d) tail) (sym cut_rest)
      (grown_more step (part (k.front ++ more) and_then grown step) c (set_domain p op c d) more tail grew (one_step p op c d k.place k.back tail low_c here again) (omega (arith, length-append k.back tail)))
  grown_any (bool p) front tail up at h high ends = grown_start step (part (front ++ tail)) (bool p) tail (part_again (bool p) front tail refl at h high ends)
  grown_any (int p) front tail up at h high ends = grown_start step (part (front ++ tail)) (int p) tail (part_again (int p) front tail refl at h high ends)
  grown_any (ranges p rs) front tail up at h high ends = grown_start step (part (front ++ tail)) (ranges p rs) tail (part_again (ranges p rs) front tail refl at h high ends)
  grown_any (named_domain p x) front tail up at h high ends = grown_start step (part (front ++ tail)) (named_domain p x) tail (part_again (named_domain p x) front tail refl at h high ends)
  grown_any (group_domain p d) front tail up at h high ends = grown_start step (part (front ++ tail)) (group_domain p d) tail (part_again (group_domain p d) front tail refl at h high ends)
  grown_any (matrix_domain p ds d) front tail up at h high ends = let wrong : false ≡ true = up in absurd cc

  step_none : (d : DomainTree) (ls : List Lexeme) → next_in set_words ls ≡ None → step d ls ≡ None
  unfolding another_operation
  step_none d ls none = rw none refl

  -- domains with operations are read again
  pub operations_again : (d : DomainTree) (front rest : List Lexeme) → SpellsDomain set_operations d front → domain_height d ≤ suc less → DomainEnds rest → operations_from (suc less) low (front ++ rest) ≡ took d rest
  unfolding operations_from
  operations_again d front rest h high ends =
      grown_end step (part (front ++ rest) and_then grown step) d rest (grown_any d front rest h.0 h.1.0 h.1.1 high ends.no_group) (step_none d rest ends.none)

  -- ---- matrix domains

  -- what stands behind the word `matrix`, up to the index domains
  abbrev Head : Phrase
  Head = Says "indexed" followed_by Says "by" followed_by Says "["

  head_again : (front rest : List Lexeme) → Head front → (q : Place) × (matrix_head_from (front ++ rest) ≡ took q rest)
  unfolding matrix_head_from word_from
  head_again front rest h =
      let c = behind_word_cut (codes "indexed") (Says "by" followed_by Says "[") front h in
      let d = behind_word_cut (codes "by") (Says "[") c.rest c.spelled in
      (d.spelled.0, ap (λ x. matrix_head_from (x ++ rest)) (c.parts ∙ ap (λ x. lexeme c.place (a_word (codes "indexed")) ∷ x) (d.parts ∙ ap (λ x. lexeme d.place (a_word (codes "by")) ∷ x) d.spelled.1)))

  -- the end of one matrix domain's index domains and the beginning of another's
  record Joined (f : List Lexeme) : Type 0 where
    first : Place
    second : Place
    third : Place
    rest : List Lexeme
    parts : f ≡ lexeme first (a_word (codes "]")) ∷ lexeme second (a_word (codes "of")) ∷ lexeme third (a_word (codes "matrix")) ∷ rest
    head : Head rest

  joined : (f : List Lexeme) → (MatrixTail followed_by MatrixHead) f → Joined f
  joined f h =
      let c = behind_word_cut (codes "]") (Says "of") h.0 h.3 in
      let d = behind_word_cut (codes "matrix") Head h.1 h.4 in
      record {
        first = c.place;
        second = c.spelled.0;
        third = d.place;
        rest = d.rest;
        parts = h.2 ∙ ap (λ x. x ++ h.1) (c.parts ∙ ap (λ x. lexeme c.place (a_word (codes "]")) ∷ x) c.spelled.1)
            ∙ ap (λ x. lexeme c.place (a_word (codes "]")) ∷ lexeme c.spelled.0 (a_word (codes "of")) ∷ x) d.parts;
        head = d.spelled;
      }

  between_on : (last : DomainTree) (f next : List Lexeme) → BetweenDomains f → another_index_domain last (f ++ next) ≡ Some (f ++ next)
  unfolding another_index_domain matrix_follows says
  between_on last f next (inl h) = subst (λ x. another_index_domain last (x ++ next) ≡ Some (x ++ next)) (sym h.1) refl
  between_on last f next (inr h) = subst (λ x. another_index_domain last (x ++ next) ≡ Some (x ++ next)) (sym (joined f h).parts) refl

  head_then : (d : DomainTree) (f next mid : List Lexeme) → Head f → low.domain set_operations next ≡ took d mid → (matrix_head_from (f ++ next) and_then λ _ rest. low.domain set_operations rest) ≡ took d mid
  head_then d f next mid h again = ap (λ r. r and_then λ _ rest. low.domain set_operations rest) (head_again f next h).1 ∙ again

  between_reads : (d : DomainTree) (f next mid : List Lexeme) → BetweenDomains f → low.domain set_operations next ≡ took d mid → index_domain_behind low (f ++ next) ≡ took d mid
  unfolding index_domain_behind says
  between_reads d f next mid (inl h) again = ap (λ x. index_domain_behind low (x ++ next)) h.1 ∙ again
  between_reads d f next mid (inr h) again =
      let j = joined f h in ap (λ x. index_domain_behind low (x ++ next)) j.parts ∙ head_then d j.rest next mid j.head again

  between_ends : (f next : List Lexeme) → BetweenDomains f → DomainEnds (f ++ next)
  between_ends f next (inl h) = subst (λ x. DomainEnds (x ++ next)) (sym h.1) (comma_closes.domain h.0 next)
  between_ends f next (inr h) =
      let j = joined f h in
      subst (λ x. DomainEnds (x ++ next)) (sym j.parts) (bracket_closes.domain j.first (lexeme j.second (a_word (codes "of")) ∷ lexeme j.third (a_word (codes "matrix")) ∷ (j.rest ++ next)))

  between_some : (f : List Lexeme) → BetweenDomains f → 1 ≤ length f
  between_some f (inl h) = let long : length f ≡ 1 = ap length h.1 in omega (arith, long)
  between_some f (inr h) = let j = joined f h in let long : length f ≡ suc (suc (suc (length j.rest))) = ap length j.parts in omega (arith, long)

  abbrev item : DomainTree → Reader DomainTree
  item last = index_domain_behind low

  domains_go : (n : ℕ) (last d : DomainTree) (ds : List DomainTree) (all mid tail : List Lexeme) → another_index_domain last all ≡ Some all → index_domain_behind low all ≡ took d mid
      → more_from another_index_domain item n d mid ≡ took ds tail → more_from another_index_domain item (suc n) last all ≡ took (d ∷ ds) tail
  unfolding more_from
  domains_go n last d ds all mid tail on first others = rw (on, first, others) refl

  -- what stands behind index domains
  abbrev closing : Place → Place → List Lexeme → List Lexeme
  closing q r ls = lexeme q (a_word (codes "]")) ∷ lexeme r (a_word (codes "of")) ∷ ls

  domains_end : (n : ℕ) (last : DomainTree) (q r : Place) (ls : List Lexeme) → says (codes "matrix") ls ≡ false → more_from another_index_domain item n last (closing q r ls) ≡ took [] (closing q r ls)
  unfolding more_from another_index_domain matrix_follows says
  domains_end zero last q r ls none = refl
  domains_end (suc n) last q r ls none = rw none refl

  more_ends : (ds : Domains) (front : List Lexeme) (q r : Place) (ls : List Lexeme) → SpellsMoreIndexDomains ds front → DomainEnds (front ++ closing q r ls)
  unfolding SpellsDomainNode
  more_ends no_domains front q r ls h = subst (λ x. DomainEnds (x ++ closing q r ls)) (sym h) (bracket_closes.domain q (lexeme r (a_word (codes "of")) ∷ ls))
  more_ends (domain_and d ds) front q r ls h =
      subst DomainEnds (sym (ap (λ x. x ++ closing q r ls) h.2 ∙ append_assoc h.0 h.1 (closing q r ls))) (between_ends h.0 (h.1 ++ closing q r ls) h.3)

  more_again : (ds : Domains) (n : ℕ) (last : DomainTree) (front : List Lexeme) (q r : Place) (ls : List Lexeme) → length front ≤ n → SpellsMoreIndexDomains ds front → highest_domain ds ≤ less
      → says (codes "matrix") ls ≡ false → more_from another_index_domain item n last (front ++ closing q r ls) ≡ took (listed_domains ds) (closing q r ls)
  unfolding SpellsDomainNode domain_height
  more_again no_domains n last front q r ls room h small none =
      subst (λ x. more_from another_index_domain item n last (x ++ closing q r ls) ≡ took [] (closing q r ls)) (sym h) (domains_end n last q r ls none)
  more_again (domain_and d ds) zero last front q r ls room h small none =
      let long : length front ≡ length (h.0 ++ h.1) = ap length h.2 in
      absurd (omega (arith, room, long, length-append h.0 h.1, between_some h.0 h.3))
  more_again (domain_and d ds) (suc n) last front q r ls room h small none =
      let f = h.4.0 in
      let g = h.4.1 in
      let tail = closing q r ls in
      let long : length front ≡ length (h.0 ++ h.1) = ap length h.2 in
      let cut : length h.1 ≡ length (f ++ g) = ap length h.4.2 in
      let next = f ++ (g ++ tail) in
      let regroup : front ++ tail ≡ h.0 ++ next =
      ap (λ x. x ++ tail) h.2 ∙ append_assoc h.0 h.1 tail ∙ ap (λ x. h.0 ++ x) (ap (λ x. x ++ tail) h.4.2 ∙ append_assoc f g tail) in
      let low_d : domain_height d ≤ less = omega (arith, small, le-max_left (domain_height d) (highest_domain ds)) in
      let low_ds : highest_domain ds ≤ less = omega (arith, small, le-max_right (domain_height d) (highest_domain ds)) in
      let again : low.domain set_operations next ≡ took d (g ++ tail) = good.domain set_operations d f (g ++ tail) h.4.3 low_d (more_ends ds g q r ls h.4.4) in
      ap (more_from another_index_domain item (suc n) last) regroup
      ∙ domains_go n last d (listed_domains ds) (h.0 ++ next) (g ++ tail) tail (between_on last h.0 next h.3) (between_reads d h.0 next (g ++ tail) h.3 again)
      (more_again ds n d g q r ls (omega (arith, room, long, length-append h.0 h.1, between_some h.0 h.3, cut, length-append f g)) h.4.4 low_ds none)

  matrix_again : (p : Place) (ds : Domains) (d : DomainTree) (rest : List Lexeme) → highest_domain ds ≤ less → domain_height d ≤ less → DomainEnds rest
      → Again (Head followed_by SpellsIndexDomains ds followed_by MatrixTail followed_by SpellsDomain set_operations d) (matrix_from low p) (matrix_domain p ds d) rest
  unfolding matrix_from SpellsDomainNode domain_height as_domains word_from
  matrix_again p no_domains d rest small low_d ends front h = absurd h.4.3
  matrix_again p (domain_and x ds) d rest small low_d ends front h =
      let f = h.4.3.0 in
      let g = h.4.3.1 in
      let t = behind_word_cut (codes "]") (Says "of") h.4.4.0 h.4.4.3 in
      let y = h.4.4.1 in
      let q = t.place in
      let r = t.spelled.0 in
      let tail = closing q r (y ++ rest) in
      let end : h.4.1 ++ rest ≡ tail =
      ap (λ z. z ++ rest) (h.4.4.2 ∙ ap (λ z. z ++ y) (t.parts ∙ ap (λ z. lexeme q (a_word (codes "]")) ∷ z) t.spelled.1)) in
      let inner : h.1 ++ rest ≡ f ++ (g ++ tail) =
      ap (λ z. z ++ rest) h.4.2 ∙ append_assoc h.4.0 h.4.1 rest ∙ ap (λ z. h.4.0 ++ z) end ∙ ap (λ z. z ++ tail) h.4.3.2 ∙ append_assoc f g tail in
      let cut : front ++ rest ≡ h.0 ++ (f ++ (g ++ tail)) = ap (λ z. z ++ rest) h.2 ∙ append_assoc h.0 h.1 rest ∙ ap (λ z. h.0 ++ z) inner in
      let low_x : domain_height x ≤ less = omega (arith, small, le-max_left (domain_height x) (highest_domain ds)) in
      let low_ds : highest_domain ds ≤ less = omega (arith, small, le-max_right (domain_height x) (highest_domain ds)) in
      let none : says (codes "matrix") (y ++ rest) ≡ false = no_matrix d y rest h.4.4.4.0 h.4.4.4.1.1 in
      ap (matrix_from low p) cut
      ∙ ap (λ z. z and_then λ _ first. low.domain set_operations first and_then λ a next. others_from another_index_domain item a next and_then λ others end. word_from (codes "]") end and_then λ _ of_word. word_from (codes "of") of_word and_then λ _ elements. low.domain set_operations elements and_then λ element after. took (matrix_domain p (as_domains (a ∷ others)) element) after)
      (head_again h.0 (f ++ (g ++ tail)) h.3).1
      ∙ ap (λ z. z and_then λ a next. others_from another_index_domain item a next and_then λ others end. word_from (codes "]") end and_then λ _ of_word. word_from (codes "of") of_word and_then λ _ elements. low.domain set_operations elements and_then λ element after. took (matrix_domain p (as_domains (a ∷ others)) element) after)
      (good.domain set_operations x f (g ++ tail) h.4.3.3 low_x (more_ends ds g q r (y ++ rest) h.4.3.4))
      ∙ ap (λ z. z and_then λ others end. word_from (codes "]") end and_then λ _ of_word. word_from (codes "of") of_word and_then λ _ elements. low.domain set_operations elements and_then λ element after. took (matrix_domain p (as_domains (x ∷ others)) element) after)
      (more_again ds (length (g ++ tail)) x g q r (y ++ rest) (omega (arith, length-append g tail)) h.4.3.4 low_ds none)
      ∙ ap (λ z. z and_then λ element after. took (matrix_domain p (as_domains (x ∷ listed_domains ds)) element) after)
      (good.domain set_operations d y rest h.4.4.4 low_d ends)
      ∙ ap (λ z. took (matrix_domain p (domain_and x z) d) rest) (as_listed_domains ds)

  -- ---- any domain

  without_matrix : (d : DomainTree) (front rest : List Lexeme) → nat_le (domain_rank set_operations) (domain_rank (own_domain_level d)) ≡ true → SpellsDomain domains d front → domain_height d ≤ suc less → DomainEnds rest
      → any_domain_from (suc less) low (front ++ rest) ≡ took d rest
  unfolding any_domain_from
  without_matrix d front rest up h high ends =
      ap (λ b. either_reader b (if_low (nat_lt 1 (suc less)) (λ all. matrix_from low (place_next all) (behind all))) (operations_from (suc less) low) (front ++ rest)) (no_matrix d front rest up h.1.1)
      ∙ operations_again d front rest (up, h.1) high ends

  -- any domain is read again
  pub any_domain_again : (d : DomainTree) (front rest : List Lexeme) → SpellsDomain domains d front → domain_height d ≤ suc less → DomainEnds rest → any_domain_from (suc less) low (front ++ rest) ≡ took d rest
  unfolding SpellsDomainNode domain_rank own_domain_level place_of_domain domain_height any_domain_from says
  any_domain_again (matrix_domain p ds d) front rest h high ends =
      let tail : Phrase = SpellsIndexDomains ds followed_by MatrixTail followed_by SpellsDomain set_operations d in
      let c = behind_word_cut (codes "matrix") (Head followed_by tail) front (regrouped (Says "matrix") Head tail front h.1.1) in
      let here : c.place ≡ p = subst (λ x. StartsAt p x) c.parts h.1.0 in
      let low_ds : highest_domain ds ≤ less = omega (arith, high, le-max_left (highest_domain ds) (domain_height d)) in
      let low_d : domain_height d ≤ less = omega (arith, high, le-max_right (highest_domain ds) (domain_height d)) in
      let some : 1 ≤ less = omega (arith, some_domain d, low_d) in
      let all = lexeme c.place (a_word (codes "matrix")) ∷ (c.rest ++ rest) in
      ap (λ x. any_domain_from (suc less) low (x ++ rest)) c.parts
      ∙ ap (λ b. if_low b (λ z. matrix_from low (place_next z) (behind z)) all) (enough less less some (omega arith))
      ∙ ap (λ q. matrix_from low q (c.rest ++ rest)) here
      ∙ matrix_again p ds d rest low_ds low_d ends c.rest c.spelled
  any_domain_again (bool p) front rest h high ends = without_matrix (bool p) front rest refl h high ends
  any_domain_again (int p) front rest h high ends = without_matrix (int p) front rest refl h high ends
  any_domain_again (ranges p rs) front rest h high ends = without_matrix (ranges p rs) front rest refl h high ends
  any_domain_again (named_domain p x) front rest h high ends = without_matrix (named_domain p x) front rest refl h high ends
  any_domain_again (group_domain p d) front rest h high ends = without_matrix (group_domain p d) front rest refl h high ends
  any_domain_again (set_domain p op c d) front rest h high ends = without_matrix (set_domain p op c d) front rest refl h high ends
