-- Expressions and domains are spelled again by their words.
use Rattle.std.proofs.Common.{◌≡◌, Bool, true, ◌&&◌, List, [], ◌∷◌, ◌++◌, codes, refl, sym, ap, ap₂, subst, ◌∙◌, inl, append_assoc}
use Prim.Native.String.{String}
use Rattle.ep_tree.specs.Phrases.{Lexeme, Says, ◌followed_by◌}
use Rattle.ep_tree.specs.Placeless.{placeless, placeless_domain, placeless_domains, placeless_end, placeless_generators, placeless_index, placeless_indices, placeless_ranges, placeless_terms, placeless_trees, somewhere}
use Rattle.ep_tree.specs.Spelling.{BetweenDomains, BetweenIndices, ClosedBefore, Level, MatrixHead, MatrixTail, Spells, SpellsChain, SpellsDomain, SpellsDomainNode, SpellsEnd, SpellsIndexDomain, SpellsIndexDomains, SpellsIndices, SpellsLastIndices, SpellsList, SpellsMore, SpellsMoreGenerators, SpellsMoreIndexDomains, SpellsMoreIndices, SpellsMoreParts, SpellsMoreRanges, SpellsNode, SpellsParts, SpellsRanges, SpellsTerms, binary_level, binary_word, compare_word, comparisons, conjunctions, domains, fold_word, has_terms, has_trees, implications, is_called, lex_word, products, quantifier_word, reads, set_operations, set_parts, set_word, sign_word, sums, takes_own_group, tighter, truth_word, unaries}
use Rattle.ep_tree.specs.Trees.{DomainTree, Domains, End, ExprTree, ExprTrees, Generators, IndexDomain, Indices, Ranges, Terms, absolute, all_different, all_of, any_of, at_least, at_most, binary, bool, chain, compare, comprehension, domain_and, end_at, every_and, factorial, flatten, folded, gcc, generator_and, group, group_domain, in_domain, in_set, index_and, int, lex, literal, matrix_domain, minus, named, named_domain, negation, no_domains, no_end, no_generators, no_indices, no_ranges, no_terms, no_trees, number, one_and, over, place_of, place_of_domain, quantified, ranges, read, set_domain, span_and, table, term_and, to_int, tree_and, truth, unstated}
use Rattle.ep_tree.specs.declared.syntax.BinaryOp.{BinaryOp}
use Rattle.ep_print.specs.Joining.{with_between}
use Rattle.ep_print.specs.Words.{Words, all_domain_words, all_words, binary_words, chain_words, domain_words, end_words, expr_words, generator_words, index_domain_words, index_words, name_words, parted, range_words, term_words, word}
use Rattle.ep_print_laws.proofs.Clearing.{has_terms_cleared, has_trees_cleared, own_group_cleared}
use Rattle.ep_print_laws.proofs.Literals as literals
use Rattle.ep_print_laws.proofs.Literals.{binary_literal, compare_literal, fold_literal, lex_literal, quantifier_literal, set_literal, sign_literal, truth_literal}
use Rattle.ep_print_laws.proofs.Pieces.{Built, BuiltDomain, again_names, at_level, behind, behind-append, binary_again, call1, call2, call3, closed, closed_before, domain_at_level, domain_node, has_words, infix_again, joined_behind, kept, node}
use Rattle.ep_print_laws.proofs.Respelled.{Again, IsLiteral, Twin, again_as, again_name, again_none, again_nothing, again_number, again_then, again_when, again_word, again_words, always, respelled_as, respelled_word}

-- ---- something is written of each

words_first : (v w : Words) → has_words v ≡ true → has_words (v ++ w) ≡ true
words_first [] w e = absurd cc
words_first (x ∷ v) w e = refl

mutual
  unfolding SpellsNode expr_words binary_words with_between is_called

  some_words : (e : ExprTree) (tokens : List Lexeme) → SpellsNode e tokens → has_words (expr_words e) ≡ true
  some_words (number q n) tokens h = refl
  some_words (truth q b) tokens h = refl
  some_words (named q x) tokens h = refl
  some_words (group q e) tokens h = refl
  some_words (negation q e) tokens h = refl
  some_words (minus q e) tokens h = refl
  some_words (absolute q e) tokens h = refl
  some_words (to_int q e) tokens h = refl
  some_words (factorial q e) tokens h = refl
  some_words (flatten q e) tokens h = refl
  some_words (chain q terms) tokens h = some_chain terms tokens h
  some_words (binary q BinaryOp.Mul a b) tokens h = words_first (expr_words a) _ (some_words a h.0 h.3.1.1.1)
  some_words (binary q BinaryOp.Div a b) tokens h = words_first (expr_words a) _ (some_words a h.0 h.3.1.1.1)
  some_words (binary q BinaryOp.Mod a b) tokens h = words_first (expr_words a) _ (some_words a h.0 h.3.1.1.1)
  some_words (binary q BinaryOp.Pow a b) tokens h = words_first (expr_words a) _ (some_words a h.0 h.3.1.1.1)
  some_words (binary q BinaryOp.Min a b) tokens h = refl
  some_words (binary q BinaryOp.Max a b) tokens h = refl
  some_words (binary q BinaryOp.Implies a b) tokens h = words_first (expr_words a) _ (some_words a h.0 h.3.1.1.1)
  some_words (binary q BinaryOp.Iff a b) tokens h = words_first (expr_words a) _ (some_words a h.0 h.3.1.1.1)
  some_words (compare q op a b) tokens h = words_first (expr_words a) _ (some_words a h.0 h.3.1.1.1)
  some_words (lex q op a b) tokens h = words_first (expr_words a) _ (some_words a h.0 h.3.1.1.1)
  some_words (in_domain q a d) tokens h = words_first (expr_words a) _ (some_words a h.0 h.3.1.1.1)
  some_words (in_set q a m) tokens h = words_first (expr_words a) _ (some_words a h.0 h.3.1.1.1)
  some_words (all_of q parts) tokens h = some_parts "/\\" comparisons parts tokens h
  some_words (any_of q parts) tokens h = some_parts "\\/" conjunctions parts tokens h
  some_words (quantified q op names d e) tokens h = refl
  some_words (literal q parts d) tokens h = refl
  some_words (comprehension q e gens conditions d) tokens h = refl
  some_words (read q m _) tokens h = words_first (expr_words m) _ (some_words m h.0 h.3.1.1.1)
  some_words (folded q op m) tokens h = refl
  some_words (all_different q m) tokens h = refl
  some_words (gcc q a b c) tokens h = refl
  some_words (at_least q a b c) tokens h = refl
  some_words (at_most q a b c) tokens h = refl
  some_words (table q a b) tokens h = refl

  some_chain : (terms : Terms) (tokens : List Lexeme) → SpellsChain terms tokens → has_words (chain_words terms) ≡ true
  some_chain no_terms tokens h = absurd h
  some_chain (term_and plus e terms) tokens h = words_first (expr_words e) _ (some_words e h.1.0 h.1.3.1.1.1)

  some_parts : (w : String) (level : Level) (parts : ExprTrees) (tokens : List Lexeme) → SpellsParts w level parts tokens → has_words (with_between (word w) (all_words parts)) ≡ true
  some_parts w level no_trees tokens h = absurd h
  some_parts w level (tree_and e no_trees) tokens h = some_words e h.1.0 h.1.3.1.1.1
  some_parts w level (tree_and e (tree_and f es)) tokens h = words_first (expr_words e) _ (some_words e h.1.0 h.1.3.1.1.1)

some_domain_words : (d : DomainTree) (tokens : List Lexeme) → SpellsDomainNode d tokens → has_words (domain_words d) ≡ true
unfolding SpellsNode expr_words
some_domain_words (bool q) tokens h = refl
some_domain_words (int q) tokens h = refl
some_domain_words (ranges q rs) tokens h = refl
some_domain_words (named_domain q x) tokens h = refl
some_domain_words (group_domain q d) tokens h = refl
some_domain_words (set_domain q op c d) tokens h = words_first (domain_words c) _ (some_domain_words c h.0 h.3.1.1)
some_domain_words (matrix_domain q ds d) tokens h = refl

-- ---- expressions and domains where a level is asked for

abbrev at : (asked : Level) (e : ExprTree) → Again (SpellsNode e) (Built e) (expr_words e) → Again (Spells asked e) (λ (x : Twin placeless e). Spells asked x.tree) (expr_words e)
at asked e a = at_level asked e (some_words e) a

abbrev whole : (e : ExprTree) → Again (SpellsNode e) (Built e) (expr_words e) → Again (Spells implications e) (λ (x : Twin placeless e). Spells implications x.tree) (expr_words e)
whole e a = at_level implications e (some_words e) a

abbrev of_numbers : (d : DomainTree) → Again (SpellsDomainNode d) (BuiltDomain d) (domain_words d) → Again (SpellsDomain set_operations d) (λ (x : Twin placeless_domain d). SpellsDomain set_operations x.tree) (domain_words d)
of_numbers d a = domain_at_level set_operations d (some_domain_words d) a

between_indices : Again BetweenIndices (λ (u : Unit {0}). BetweenIndices) (word ",")
between_indices = always (respelled_as (respelled_word "," literals.comma) (λ u. u) (λ u ts h. inl h))

between_domains : Again BetweenDomains (λ (u : Unit {0}). BetweenDomains) (word ",")
between_domains = always (respelled_as (respelled_word "," literals.comma) (λ u. u) (λ u ts h. inl h))

matrix_head : Again MatrixHead (λ (u : Unit {0}). MatrixHead) (codes "matrix" ∷ codes "indexed" ∷ codes "by" ∷ codes "[" ∷ [])
matrix_head =
    again_as (again_then (again_word "matrix" literals.matrix) (again_then (again_word "indexed" literals.indexed) (again_then (again_word "by" literals.by) (again_word "[" literals.open_square)))) (λ x. tt) (λ x ts h. h)

matrix_tail : Again MatrixTail (λ (u : Unit {0}). MatrixTail) (codes "]" ∷ codes "of" ∷ [])
matrix_tail = again_as (again_then (again_word "]" literals.close_square) (again_word "of" literals.of_word)) (λ x. tt) (λ x ts h. h)

-- the words of a comprehension behind its bar
comprehension_words : (names d : Words) (gens conditions : List Words) (rest : Words) → (names ++ (word ":" ++ (d ++ behind (word ",") gens))) ++ (behind (word ",") conditions ++ rest) ≡ parted "," (((names ++ (word ":" ++ d)) ∷ gens) ++ conditions) ++ rest
comprehension_words names d gens conditions rest =
    let g = behind (word ",") gens in
    let c = behind (word ",") conditions in
    let first = names ++ (word ":" ++ d) in
    sym (append_assoc (names ++ (word ":" ++ (d ++ g))) c rest)
    ∙ ap (λ t. (t ++ c) ++ rest) (sym (append_assoc names (word ":" ++ d) g))
    ∙ ap (λ t. t ++ rest) (append_assoc first g c ∙ ap (λ t. first ++ t) (behind-append (word ",") gens conditions) ∙ joined_behind (word ",") first (gens ++ conditions))

-- the words of a generator behind which others come
generator_behind : (names d rest : Words) → names ++ (word ":" ++ (d ++ rest)) ≡ (names ++ (word ":" ++ d)) ++ rest
generator_behind names d rest = sym (append_assoc names (word ":" ++ d) rest)

-- the words of a range behind which others come
spanned : (a b : End) (rs : Ranges) → end_words a ++ (word ".." ++ (end_words b ++ behind (word ",") (range_words rs))) ≡ (end_words a ++ (word ".." ++ end_words b)) ++ behind (word ",") (range_words rs)
spanned a b rs = sym (append_assoc (end_words a) (word ".." ++ end_words b) (behind (word ",") (range_words rs)))

mutual
  unfolding SpellsNode expr_words placeless place_of place_of_domain with_between

  pub expr_again : (e : ExprTree) → Again (SpellsNode e) (Built e) (expr_words e)
  expr_again (number q n) = node (number q n) (again_number n) (λ u p. number p n) (λ u p. refl) (λ u p. refl) (λ u p ts h. h)
  expr_again (truth q b) = node (truth q b) (again_word (truth_word b) (truth_literal b)) (λ u p. truth p b) (λ u p. refl) (λ u p. refl) (λ u p ts h. h)
  expr_again (named q x) = node (named q x) (again_name x) (λ u p. named p x) (λ u p. refl) (λ u p. refl) (λ u p ts h. h)
  expr_again (group q e) =
      node (group q e) (again_then (again_word "(" literals.open_round) (again_then (whole e (expr_again e)) (again_word ")" literals.close_round)))
      (λ x p. group p x.1.0.tree) (λ x p. ap (group somewhere) x.1.0.same) (λ x p. refl) (λ x p ts h. h)
  expr_again (negation q e) =
      node (negation q e) (again_then (again_word "!" literals.bang) (at unaries e (expr_again e)))
      (λ x p. negation p x.1.tree) (λ x p. ap (negation somewhere) x.1.same) (λ x p. refl) (λ x p ts h. h)
  expr_again (minus q e) =
      node (minus q e) (again_then (again_word "-" literals.dash) (at unaries e (expr_again e)))
      (λ x p. minus p x.1.tree) (λ x p. ap (minus somewhere) x.1.same) (λ x p. refl) (λ x p ts h. h)
  expr_again (absolute q e) =
      node (absolute q e) (again_then (again_word "|" literals.bar) (again_then (whole e (expr_again e)) (again_word "|" literals.bar)))
      (λ x p. absolute p x.1.0.tree) (λ x p. ap (absolute somewhere) x.1.0.same) (λ x p. refl) (λ x p ts h. h)
  expr_again (to_int q e) =
      node (to_int q e) (call1 "toInt" literals.to_int (whole e (expr_again e)))
      (λ x p. to_int p x.tree) (λ x p. ap (to_int somewhere) x.same) (λ x p. refl) (λ x p ts h. h)
  expr_again (factorial q e) =
      node (factorial q e) (call1 "factorial" literals.factorial (whole e (expr_again e)))
      (λ x p. factorial p x.tree) (λ x p. ap (factorial somewhere) x.same) (λ x p. refl) (λ x p ts h. h)
  expr_again (flatten q m) =
      node (flatten q m) (call1 "flatten" literals.flatten (whole m (expr_again m)))
      (λ x p. flatten p x.tree) (λ x p. ap (flatten somewhere) x.same) (λ x p. refl) (λ x p ts h. h)
  expr_again (chain q terms) =
      node (chain q terms) (chain_again terms) (λ x p. chain p x.tree) (λ x p. ap (chain somewhere) x.same) (λ x p. refl) (λ x p ts h. h)
  expr_again (binary q op a b) =
      node (binary q op a b)
      (binary_again (is_called op) (binary_word op) (binary_literal op) (whole a (expr_again a)) (whole b (expr_again b)) (closed a (at (binary_level op) a (expr_again a))) (at (tighter (binary_level op)) b (expr_again b)))
      (λ x p. binary p op x.0.tree x.1.tree) (λ x p. ap₂ (binary somewhere op) x.0.same x.1.same) (λ x p. refl) (λ x p ts h. h)
  expr_again (compare q op a b) =
      node (compare q op a b) (infix_again (compare_word op) (compare_literal op) (closed a (at sums a (expr_again a))) (at sums b (expr_again b)))
      (λ x p. compare p op x.0.tree x.1.tree) (λ x p. ap₂ (compare somewhere op) x.0.same x.1.same) (λ x p. refl) (λ x p ts h. h)
  expr_again (lex q op a b) =
      node (lex q op a b) (infix_again (lex_word op) (lex_literal op) (closed a (at sums a (expr_again a))) (at sums b (expr_again b)))
      (λ x p. lex p op x.0.tree x.1.tree) (λ x p. ap₂ (lex somewhere op) x.0.same x.1.same) (λ x p. refl) (λ x p ts h. h)
  expr_again (in_domain q e d) =
      node (in_domain q e d) (infix_again "in" literals.in_word (closed e (at sums e (expr_again e))) (of_numbers d (domain_again d)))
      (λ x p. in_domain p x.0.tree x.1.tree) (λ x p. ap₂ (in_domain somewhere) x.0.same x.1.same) (λ x p. refl) (λ x p ts h. h)
  expr_again (in_set q e m) =
      node (in_set q e m) (infix_again "in" literals.in_word (closed e (at sums e (expr_again e))) (call1 "toSet" literals.to_set (whole m (expr_again m))))
      (λ x p. in_set p x.0.tree x.1.tree) (λ x p. ap₂ (in_set somewhere) x.0.same x.1.same) (λ x p. refl) (λ x p ts h. h)
  expr_again (all_of q parts) =
      node (all_of q parts) (parts_again "/\\" literals.both comparisons parts) (λ x p. all_of p x.tree) (λ x p. ap (all_of somewhere) x.same) (λ x p. refl) (λ x p ts h. h)
  expr_again (any_of q parts) =
      node (any_of q parts) (parts_again "\\/" literals.either conjunctions parts) (λ x p. any_of p x.tree) (λ x p. ap (any_of somewhere) x.same) (λ x p. refl) (λ x p ts h. h)
  expr_again (quantified q op names d e) =
      node (quantified q op names d e)
      (again_then (again_word (quantifier_word op) (quantifier_literal op)) (again_then (again_names names) (again_then (again_word ":" literals.colon)
      (again_then (of_numbers d (domain_again d)) (again_then (again_word "." literals.dot) (whole e (expr_again e)))))))
      (λ x p. quantified p op names x.1.1.1.0.tree x.1.1.1.1.1.tree) (λ x p. ap₂ (quantified somewhere op names) x.1.1.1.0.same x.1.1.1.1.1.same) (λ x p. refl) (λ x p ts h. h)
  expr_again (literal q parts d) =
      node (literal q parts d)
      (again_then (again_word "[" literals.open_square) (again_then (list_again parts) (again_then (index_domain_again d) (again_word "]" literals.close_square))))
      (λ x p. literal p x.1.0.tree x.1.1.0.tree) (λ x p. ap₂ (literal somewhere) x.1.0.same x.1.1.0.same) (λ x p. refl) (λ x p ts h. h)
  expr_again (comprehension q e no_generators conditions d) = record { again = λ tokens said h. absurd h.4.4.4.3 }
  expr_again (comprehension q e (generator_and names g gens) conditions d) =
      node (comprehension q e (generator_and names g gens) conditions d)
      (again_words (ap (λ ws. codes "[" ∷ (expr_words e ++ (codes "|" ∷ ws))) (comprehension_words (name_words names) (domain_words g) (generator_words gens) (all_words conditions) (index_domain_words d ++ word "]")))
      (again_then (again_word "[" literals.open_square) (again_then (whole e (expr_again e)) (again_then (again_word "|" literals.bar)
      (again_then (again_then (again_names names) (again_then (again_word ":" literals.colon) (again_then (of_numbers g (domain_again g)) (more_generators_again gens))))
      (again_then (more_again conditions) (again_then (index_domain_again d) (again_word "]" literals.close_square))))))))
      (λ x p. comprehension p x.1.0.tree (generator_and names x.1.1.1.0.1.1.0.tree x.1.1.1.0.1.1.1.tree) x.1.1.1.1.0.tree x.1.1.1.1.1.0.tree)
      (λ x p.
      ap₂ (λ a gs. comprehension somewhere a gs (placeless_trees x.1.1.1.1.0.tree) (placeless_index x.1.1.1.1.1.0.tree)) x.1.0.same (ap₂ (generator_and names) x.1.1.1.0.1.1.0.same x.1.1.1.0.1.1.1.same)
      ∙ ap₂ (comprehension somewhere (placeless e) (generator_and names (placeless_domain g) (placeless_generators gens))) x.1.1.1.1.0.same x.1.1.1.1.1.0.same)
      (λ x p. refl) (λ x p ts h. h)
  expr_again (read q m indices) =
      node (read q m indices)
      (again_then (again_when (takes_own_group m) (at reads m (expr_again m)) (λ y. takes_own_group y.tree) (λ y. kept placeless takes_own_group own_group_cleared m y))
      (again_then (again_word "[" literals.open_square) (again_then (indices_again indices) (again_word "]" literals.close_square))))
      (λ x p. read p x.0.tree x.1.1.0.tree) (λ x p. ap₂ (read somewhere) x.0.same x.1.1.0.same) (λ x p. refl) (λ x p ts h. h)
  expr_again (folded q op m) =
      node (folded q op m) (call1 (fold_word op) (fold_literal op) (whole m (expr_again m)))
      (λ x p. folded p op x.tree) (λ x p. ap (folded somewhere op) x.same) (λ x p. refl) (λ x p ts h. h)
  expr_again (all_different q m) =
      node (all_different q m) (call1 "allDiff" literals.all_different (whole m (expr_again m)))
      (λ x p. all_different p x.tree) (λ x p. ap (all_different somewhere) x.same) (λ x p. refl) (λ x p ts h. h)
  expr_again (gcc q a b c) =
      node (gcc q a b c) (call3 "gcc" literals.gcc (whole a (expr_again a)) (whole b (expr_again b)) (whole c (expr_again c)))
      (λ x p. gcc p x.0.tree x.1.0.tree x.1.1.tree)
      (λ x p. ap₂ (λ u v. gcc somewhere u v (placeless x.1.1.tree)) x.0.same x.1.0.same ∙ ap (gcc somewhere (placeless a) (placeless b)) x.1.1.same) (λ x p. refl) (λ x p ts h. h)
  expr_again (at_least q a b c) =
      node (at_least q a b c) (call3 "atleast" literals.at_least (whole a (expr_again a)) (whole b (expr_again b)) (whole c (expr_again c)))
      (λ x p. at_least p x.0.tree x.1.0.tree x.1.1.tree)
      (λ x p. ap₂ (λ u v. at_least somewhere u v (placeless x.1.1.tree)) x.0.same x.1.0.same ∙ ap (at_least somewhere (placeless a) (placeless b)) x.1.1.same) (λ x p. refl) (λ x p ts h. h)
  expr_again (at_most q a b c) =
      node (at_most q a b c) (call3 "atmost" literals.at_most (whole a (expr_again a)) (whole b (expr_again b)) (whole c (expr_again c)))
      (λ x p. at_most p x.0.tree x.1.0.tree x.1.1.tree)
      (λ x p. ap₂ (λ u v. at_most somewhere u v (placeless x.1.1.tree)) x.0.same x.1.0.same ∙ ap (at_most somewhere (placeless a) (placeless b)) x.1.1.same) (λ x p. refl) (λ x p ts h. h)
  expr_again (table q a b) =
      node (table q a b) (call2 "table" literals.table (whole a (expr_again a)) (whole b (expr_again b)))
      (λ x p. table p x.0.tree x.1.tree) (λ x p. ap₂ (table somewhere) x.0.same x.1.same) (λ x p. refl) (λ x p ts h. h)

  pub domain_again : (d : DomainTree) → Again (SpellsDomainNode d) (BuiltDomain d) (domain_words d)
  domain_again (bool q) = domain_node (bool q) (again_word "bool" literals.bool) (λ u p. bool p) (λ u p. refl) (λ u p. refl) (λ u p ts h. h)
  domain_again (int q) = domain_node (int q) (again_word "int" literals.int) (λ u p. int p) (λ u p. refl) (λ u p. refl) (λ u p ts h. h)
  domain_again (ranges q rs) =
      domain_node (ranges q rs)
      (again_then (again_word "int" literals.int) (again_then (again_word "(" literals.open_round) (again_then (ranges_again rs) (again_word ")" literals.close_round))))
      (λ x p. ranges p x.1.1.0.tree) (λ x p. ap (ranges somewhere) x.1.1.0.same) (λ x p. refl) (λ x p ts h. h)
  domain_again (named_domain q x) = domain_node (named_domain q x) (again_name x) (λ u p. named_domain p x) (λ u p. refl) (λ u p. refl) (λ u p ts h. h)
  domain_again (group_domain q d) =
      domain_node (group_domain q d) (again_then (again_word "(" literals.open_round) (again_then (of_numbers d (domain_again d)) (again_word ")" literals.close_round)))
      (λ x p. group_domain p x.1.0.tree) (λ x p. ap (group_domain somewhere) x.1.0.same) (λ x p. refl) (λ x p ts h. h)
  domain_again (set_domain q op c d) =
      domain_node (set_domain q op c d) (infix_again (set_word op) (set_literal op) (of_numbers c (domain_again c)) (domain_at_level set_parts d (some_domain_words d) (domain_again d)))
      (λ x p. set_domain p op x.0.tree x.1.tree) (λ x p. ap₂ (set_domain somewhere op) x.0.same x.1.same) (λ x p. refl) (λ x p ts h. h)
  domain_again (matrix_domain q ds d) =
      domain_node (matrix_domain q ds d) (again_then matrix_head (again_then (index_domains_again ds) (again_then matrix_tail (of_numbers d (domain_again d)))))
      (λ x p. matrix_domain p x.1.0.tree x.1.1.1.tree) (λ x p. ap₂ (matrix_domain somewhere) x.1.0.same x.1.1.1.same) (λ x p. refl) (λ x p ts h. h)

  chain_again : (terms : Terms) → Again (SpellsChain terms) (λ (x : Twin placeless_terms terms). SpellsChain x.tree) (chain_words terms)
  chain_again no_terms = again_nothing
  chain_again (term_and plus e terms) =
      again_as
      (again_when (plus && has_terms terms) (again_then (closed e (at products e (expr_again e))) (terms_again terms))
      (λ x. plus && has_terms x.1.tree) (λ x. ap (λ b. plus && b) (kept placeless_terms has_terms has_terms_cleared terms x.1)))
      (λ x. record { tree = term_and plus x.0.tree x.1.tree; same = ap₂ (term_and plus) x.0.same x.1.same }) (λ x ts h. h)

  terms_again : (terms : Terms) → Again (SpellsTerms terms) (λ (x : Twin placeless_terms terms). SpellsTerms x.tree) (term_words terms)
  terms_again no_terms = again_as again_none (λ u. record { tree = no_terms; same = refl }) (λ u ts h. h)
  terms_again (term_and plus e terms) =
      again_as
      (again_then (again_word (sign_word plus) (sign_literal plus)) (again_then (closed_before (has_terms terms) e (at products e (expr_again e))) (terms_again terms)))
      (λ x. record { tree = term_and plus x.1.0.tree x.1.1.tree; same = ap₂ (term_and plus) x.1.0.same x.1.1.same })
      (λ x ts h.
      subst (λ (b : Bool). (Says (sign_word plus) followed_by ClosedBefore b x.1.0.tree (Spells products x.1.0.tree) followed_by SpellsTerms x.1.1.tree) ts)
      (sym (kept placeless_terms has_terms has_terms_cleared terms x.1.1)) h)

  parts_again : (w : String) → IsLiteral w → (level : Level) (es : ExprTrees) → Again (SpellsParts w level es) (λ (x : Twin placeless_trees es). SpellsParts w level x.tree) (with_between (word w) (all_words es))
  parts_again w is level no_trees = again_nothing
  parts_again w is level (tree_and e es) =
      again_words (joined_behind (word w) (expr_words e) (all_words es))
      (again_as
      (again_when (has_trees es) (again_then (closed e (at level e (expr_again e))) (more_parts_again w is level es))
      (λ x. has_trees x.1.tree) (λ x. kept placeless_trees has_trees has_trees_cleared es x.1))
      (λ x. record { tree = tree_and x.0.tree x.1.tree; same = ap₂ tree_and x.0.same x.1.same }) (λ x ts h. h))

  more_parts_again : (w : String) → IsLiteral w → (level : Level) (es : ExprTrees) → Again (SpellsMoreParts w level es) (λ (x : Twin placeless_trees es). SpellsMoreParts w level x.tree) (behind (word w) (all_words es))
  more_parts_again w is level no_trees = again_as again_none (λ u. record { tree = no_trees; same = refl }) (λ u ts h. h)
  more_parts_again w is level (tree_and e es) =
      again_as
      (again_then (again_word w is) (again_then (closed_before (has_trees es) e (at level e (expr_again e))) (more_parts_again w is level es)))
      (λ x. record { tree = tree_and x.1.0.tree x.1.1.tree; same = ap₂ tree_and x.1.0.same x.1.1.same })
      (λ x ts h.
      subst (λ (b : Bool). (Says w followed_by ClosedBefore b x.1.0.tree (Spells level x.1.0.tree) followed_by SpellsMoreParts w level x.1.1.tree) ts)
      (sym (kept placeless_trees has_trees has_trees_cleared es x.1.1)) h)

  list_again : (es : ExprTrees) → Again (SpellsList es) (λ (x : Twin placeless_trees es). SpellsList x.tree) (parted "," (all_words es))
  list_again no_trees = again_as again_none (λ u. record { tree = no_trees; same = refl }) (λ u ts h. h)
  list_again (tree_and e es) =
      again_words (joined_behind (word ",") (expr_words e) (all_words es))
      (again_as (again_then (whole e (expr_again e)) (more_again es))
      (λ x. record { tree = tree_and x.0.tree x.1.tree; same = ap₂ tree_and x.0.same x.1.same }) (λ x ts h. h))

  more_again : (es : ExprTrees) → Again (SpellsMore es) (λ (x : Twin placeless_trees es). SpellsMore x.tree) (behind (word ",") (all_words es))
  more_again no_trees = again_as again_none (λ u. record { tree = no_trees; same = refl }) (λ u ts h. h)
  more_again (tree_and e es) =
      again_as (again_then (again_word "," literals.comma) (again_then (whole e (expr_again e)) (more_again es)))
      (λ x. record { tree = tree_and x.1.0.tree x.1.1.tree; same = ap₂ tree_and x.1.0.same x.1.1.same }) (λ x ts h. h)

  index_domain_again : (d : IndexDomain) → Again (SpellsIndexDomain d) (λ (x : Twin placeless_index d). SpellsIndexDomain x.tree) (index_domain_words d)
  index_domain_again unstated = again_as again_none (λ u. record { tree = unstated; same = refl }) (λ u ts h. h)
  index_domain_again (over d) =
      again_as (again_then (again_word ";" literals.semicolon) (of_numbers d (domain_again d)))
      (λ x. record { tree = over x.1.tree; same = ap over x.1.same }) (λ x ts h. h)

  more_generators_again : (gens : Generators) → Again (SpellsMoreGenerators gens) (λ (x : Twin placeless_generators gens). SpellsMoreGenerators x.tree) (behind (word ",") (generator_words gens))
  more_generators_again no_generators = again_as again_none (λ u. record { tree = no_generators; same = refl }) (λ u ts h. h)
  more_generators_again (generator_and names d gens) =
      again_words (ap (λ ws. codes "," ∷ ws) (generator_behind (name_words names) (domain_words d) (behind (word ",") (generator_words gens))))
      (again_as (again_then (again_word "," literals.comma) (again_then (again_names names) (again_then (again_word ":" literals.colon) (again_then (of_numbers d (domain_again d)) (more_generators_again gens)))))
      (λ x. record { tree = generator_and names x.1.1.1.0.tree x.1.1.1.1.tree; same = ap₂ (generator_and names) x.1.1.1.0.same x.1.1.1.1.same }) (λ x ts h. h))

  indices_again : (indices : Indices) → Again (SpellsIndices indices) (λ (x : Twin placeless_indices indices). SpellsIndices x.tree) (parted "," (index_words indices))
  indices_again no_indices = again_nothing
  indices_again (every_and indices) =
      again_words (joined_behind (word ",") (word "..") (index_words indices))
      (again_as (again_then (again_word ".." literals.dots) (last_indices_again indices))
      (λ x. record { tree = every_and x.1.tree; same = ap every_and x.1.same }) (λ x ts h. h))
  indices_again (index_and e indices) =
      again_words (joined_behind (word ",") (expr_words e) (index_words indices))
      (again_as (again_then (whole e (expr_again e)) (more_indices_again indices))
      (λ x. record { tree = index_and x.0.tree x.1.tree; same = ap₂ index_and x.0.same x.1.same }) (λ x ts h. h))

  more_indices_again : (indices : Indices) → Again (SpellsMoreIndices indices) (λ (x : Twin placeless_indices indices). SpellsMoreIndices x.tree) (behind (word ",") (index_words indices))
  more_indices_again no_indices = again_as again_none (λ u. record { tree = no_indices; same = refl }) (λ u ts h. h)
  more_indices_again (every_and indices) =
      again_as (again_then between_indices (again_then (again_word ".." literals.dots) (last_indices_again indices)))
      (λ x. record { tree = every_and x.1.1.tree; same = ap every_and x.1.1.same }) (λ x ts h. h)
  more_indices_again (index_and e indices) =
      again_as (again_then between_indices (again_then (whole e (expr_again e)) (more_indices_again indices)))
      (λ x. record { tree = index_and x.1.0.tree x.1.1.tree; same = ap₂ index_and x.1.0.same x.1.1.same }) (λ x ts h. h)

  last_indices_again : (indices : Indices) → Again (SpellsLastIndices indices) (λ (x : Twin placeless_indices indices). SpellsLastIndices x.tree) (behind (word ",") (index_words indices))
  last_indices_again no_indices = again_as again_none (λ u. record { tree = no_indices; same = refl }) (λ u ts h. h)
  last_indices_again (every_and indices) =
      again_as (again_then (again_word "," literals.comma) (again_then (again_word ".." literals.dots) (last_indices_again indices)))
      (λ x. record { tree = every_and x.1.1.tree; same = ap every_and x.1.1.same }) (λ x ts h. h)
  last_indices_again (index_and e indices) =
      again_as (again_then (again_word "," literals.comma) (again_then (whole e (expr_again e)) (last_indices_again indices)))
      (λ x. record { tree = index_and x.1.0.tree x.1.1.tree; same = ap₂ index_and x.1.0.same x.1.1.same }) (λ x ts h. h)

  ranges_again : (rs : Ranges) → Again (SpellsRanges rs) (λ (x : Twin placeless_ranges rs). SpellsRanges x.tree) (parted "," (range_words rs))
  ranges_again no_ranges = again_nothing
  ranges_again (one_and e rs) =
      again_words (joined_behind (word ",") (expr_words e) (range_words rs))
      (again_as (again_then (whole e (expr_again e)) (more_ranges_again rs))
      (λ x. record { tree = one_and x.0.tree x.1.tree; same = ap₂ one_and x.0.same x.1.same }) (λ x ts h. h))
  ranges_again (span_and a b rs) =
      again_words (spanned a b rs ∙ joined_behind (word ",") (end_words a ++ (word ".." ++ end_words b)) (range_words rs))
      (again_as (again_then (end_again a) (again_then (again_word ".." literals.dots) (again_then (end_again b) (more_ranges_again rs))))
      (λ x. record { tree = span_and x.0.tree x.1.1.0.tree x.1.1.1.tree; same = ap₂ (λ u v. span_and u v (placeless_ranges x.1.1.1.tree)) x.0.same x.1.1.0.same ∙ ap (span_and (placeless_end a) (placeless_end b)) x.1.1.1.same }) (λ x ts h. h))

  more_ranges_again : (rs : Ranges) → Again (SpellsMoreRanges rs) (λ (x : Twin placeless_ranges rs). SpellsMoreRanges x.tree) (behind (word ",") (range_words rs))
  more_ranges_again no_ranges = again_as again_none (λ u. record { tree = no_ranges; same = refl }) (λ u ts h. h)
  more_ranges_again (one_and e rs) =
      again_as (again_then (again_word "," literals.comma) (again_then (whole e (expr_again e)) (more_ranges_again rs)))
      (λ x. record { tree = one_and x.1.0.tree x.1.1.tree; same = ap₂ one_and x.1.0.same x.1.1.same }) (λ x ts h. h)
  more_ranges_again (span_and a b rs) =
      again_words (ap (λ ws. codes "," ∷ ws) (spanned a b rs))
      (again_as (again_then (again_word "," literals.comma) (again_then (end_again a) (again_then (again_word ".." literals.dots) (again_then (end_again b) (more_ranges_again rs)))))
      (λ x. record { tree = span_and x.1.0.tree x.1.1.1.0.tree x.1.1.1.1.tree; same = ap₂ (λ u v. span_and u v (placeless_ranges x.1.1.1.1.tree)) x.1.0.same x.1.1.1.0.same ∙ ap (span_and (placeless_end a) (placeless_end b)) x.1.1.1.1.same }) (λ x ts h. h))

  end_again : (end : End) → Again (SpellsEnd end) (λ (x : Twin placeless_end end). SpellsEnd x.tree) (end_words end)
  end_again no_end = again_as again_none (λ u. record { tree = no_end; same = refl }) (λ u ts h. h)
  end_again (end_at e) = again_as (whole e (expr_again e)) (λ x. record { tree = end_at x.tree; same = ap end_at x.same }) (λ x ts h. h)

  index_domains_again : (ds : Domains) → Again (SpellsIndexDomains ds) (λ (x : Twin placeless_domains ds). SpellsIndexDomains x.tree) (parted "," (all_domain_words ds))
  index_domains_again no_domains = again_nothing
  index_domains_again (domain_and d ds) =
      again_words (joined_behind (word ",") (domain_words d) (all_domain_words ds))
      (again_as (again_then (of_numbers d (domain_again d)) (more_index_domains_again ds))
      (λ x. record { tree = domain_and x.0.tree x.1.tree; same = ap₂ domain_and x.0.same x.1.same }) (λ x ts h. h))

  more_index_domains_again : (ds : Domains) → Again (SpellsMoreIndexDomains ds) (λ (x : Twin placeless_domains ds). SpellsMoreIndexDomains x.tree) (behind (word ",") (all_domain_words ds))
  more_index_domains_again no_domains = again_as again_none (λ u. record { tree = no_domains; same = refl }) (λ u ts h. h)
  more_index_domains_again (domain_and d ds) =
      again_as (again_then between_domains (again_then (of_numbers d (domain_again d)) (more_index_domains_again ds)))
      (λ x. record { tree = domain_and x.1.0.tree x.1.1.tree; same = ap₂ domain_and x.1.0.same x.1.1.same }) (λ x ts h. h)

-- ---- whole expressions and domains

pub expr_whole : (e : ExprTree) → Again (Spells implications e) (λ (x : Twin placeless e). Spells implications x.tree) (expr_words e)
expr_whole e = whole e (expr_again e)

pub domain_whole : (d : DomainTree) → Again (SpellsDomain domains d) (λ (x : Twin placeless_domain d). SpellsDomain domains x.tree) (domain_words d)
domain_whole d = domain_at_level domains d (some_domain_words d) (domain_again d)
