-- What is put out for each kind of statement, and where its line ends.
use Rattle.std.proofs.Common.{◌≡◌, ℕ, ◌-◌, List, [], ◌∷◌, ◌++◌, codes, length, map, take, refl, sym, ap, ◌∙◌, append_assoc, arith, length-append, Option, Some, None, false}
use Rattle.std.specs.Option.{option_map}
use Rattle.std.specs.declared.alloc.Global.{Global}
use Rattle.std.specs.declared.vec.Vec.{Vec}
use Rattle.std.proofs.Math.Seq.{take-append_seam}
use Rattle.ep_base.specs.declared.names.Name.{Name}
use Rattle.ep_base.specs.declared.operators.Sense.{Sense}
use Rattle.ep_base.specs.declared.places.Place.{Place}
use Rattle.ep_tree.specs.Statements.{StatementTree, branching, constraints, decided, domain_letting, given, heuristic, letting, objective, requirements}
use Rattle.ep_tree.specs.Views.{domain_tree, expr_tree, group_of, statement_kind_tree}
use Rattle.ep_tree.specs.declared.statements.Declared.{Declared}
use Rattle.ep_tree.specs.declared.statements.StatementKind.{StatementKind}
use Rattle.ep_tree.specs.declared.statements.StatementKind.TheVariants.{Branching, Find, Given, Heuristic, Letting, LettingDomain, Objective, SuchThat, Where}
use Rattle.ep_tree.specs.declared.syntax.Domain.{Domain}
use Rattle.ep_tree.specs.declared.syntax.Expr.{Expr}
use Rattle.ep_print.specs.Joining.{with_between}
use Rattle.ep_print.specs.Models.{statement_text}
use Rattle.ep_print.specs.Putting.{continued, words_spaced}
use Rattle.ep_print.specs.Words.{Words, domain_words, expr_words, group_words, words_of_placed, sense_word, stated_words, statement_words}
use Rattle.ep_print.proofs.Puts.{joined-continued}
use Rattle.ep_print.proofs.Turns.{Listed}

-- ---- lists

pub clauses_listed : Listed (λ (es : List Expr). map expr_words (map expr_tree es)) (λ (e : Expr). expr_words (expr_tree e))
clauses_listed = record { none = refl; more = λ x xs. refl }

pub groups_listed : Listed (λ (ds : List Declared). map group_words (map group_of ds)) (λ (d : Declared). words_of_placed d.names.items ++ (codes ":" ∷ domain_words (domain_tree d.domain)))
unfolding group_words group_of
groups_listed = record { none = refl; more = λ x xs. refl }

pub stated_some : (d : Option Domain) (x : Domain) → d ≡ Some x → (codes ":" ∷ []) ++ domain_words (domain_tree x) ≡ stated_words (option_map domain_tree d)
unfolding stated_words
stated_some d x is = ap (λ (o : Option Domain). stated_words (option_map domain_tree o)) (sym is)

pub stated_none : (d : Option Domain) → d ≡ None → [] ≡ stated_words (option_map domain_tree d)
unfolding stated_words
stated_none d is = ap (λ (o : Option Domain). stated_words (option_map domain_tree o)) (sym is)

-- ---- the words of each kind, in pieces

module _ (p : Place) (k : StatementKind) where
  pub given_pieces : (groups : Vec Declared Global) → k ≡ Given groups → codes "given" ∷ continued (codes "," ∷ []) false (map group_words (map group_of groups.items)) ≡ statement_words (statement_kind_tree p k)
  unfolding statement_words statement_kind_tree
  given_pieces groups is =
      ap (λ ws. codes "given" ∷ ws) (sym (joined-continued (codes "," ∷ []) (map group_words (map group_of groups.items)))) ∙ ap (λ kind. statement_words (statement_kind_tree p kind)) (sym is)

  pub find_pieces : (groups : Vec Declared Global) → k ≡ Find groups → codes "find" ∷ continued (codes "," ∷ []) false (map group_words (map group_of groups.items)) ≡ statement_words (statement_kind_tree p k)
  unfolding statement_words statement_kind_tree
  find_pieces groups is =
      ap (λ ws. codes "find" ∷ ws) (sym (joined-continued (codes "," ∷ []) (map group_words (map group_of groups.items)))) ∙ ap (λ kind. statement_words (statement_kind_tree p kind)) (sym is)

  pub letting_pieces : (name : Name) (at : Place) (d : Option Domain) (e : Expr) (w : List ℕ) → k ≡ Letting name at d e → w ≡ name
      → (((codes "letting" ∷ w ∷ []) ++ stated_words (option_map domain_tree d)) ++ codes "be" ∷ []) ++ expr_words (expr_tree e) ≡ statement_words (statement_kind_tree p k)
  unfolding statement_words statement_kind_tree
  letting_pieces name at d e w is same =
      let stated = stated_words (option_map domain_tree d) in
      ap (λ ws. codes "letting" ∷ w ∷ ws) (append_assoc stated (codes "be" ∷ []) (expr_words (expr_tree e)))
      ∙ ap (λ v. codes "letting" ∷ v ∷ (stated ++ (codes "be" ∷ expr_words (expr_tree e)))) same
      ∙ ap (λ kind. statement_words (statement_kind_tree p kind)) (sym is)

  pub domain_letting_pieces : (name : Name) (at : Place) (d : Domain) (w : List ℕ) → k ≡ LettingDomain name at d → w ≡ name
      → (codes "letting" ∷ w ∷ codes "be" ∷ codes "domain" ∷ []) ++ domain_words (domain_tree d) ≡ statement_words (statement_kind_tree p k)
  unfolding statement_words statement_kind_tree
  domain_letting_pieces name at d w is same =
      ap (λ v. codes "letting" ∷ v ∷ codes "be" ∷ codes "domain" ∷ domain_words (domain_tree d)) same
      ∙ ap (λ kind. statement_words (statement_kind_tree p kind)) (sym is)

  pub where_pieces : (es : Vec Expr Global) → k ≡ Where es → (codes "where" ∷ []) ++ continued (codes "," ∷ []) false (map expr_words (map expr_tree es.items)) ≡ statement_words (statement_kind_tree p k)
  unfolding statement_words statement_kind_tree
  where_pieces es is =
      ap (λ ws. codes "where" ∷ ws) (sym (joined-continued (codes "," ∷ []) (map expr_words (map expr_tree es.items)))) ∙ ap (λ kind. statement_words (statement_kind_tree p kind)) (sym is)

  pub such_that_pieces : (es : Vec Expr Global) → k ≡ SuchThat es → (codes "such" ∷ codes "that" ∷ []) ++ continued (codes "," ∷ []) false (map expr_words (map expr_tree es.items)) ≡ statement_words (statement_kind_tree p k)
  unfolding statement_words statement_kind_tree
  such_that_pieces es is =
      ap (λ ws. codes "such" ∷ codes "that" ∷ ws) (sym (joined-continued (codes "," ∷ []) (map expr_words (map expr_tree es.items)))) ∙ ap (λ kind. statement_words (statement_kind_tree p kind)) (sym is)

  pub objective_pieces : (sense : Sense) (e : Expr) (w : List ℕ) → k ≡ Objective sense e → w ≡ codes (sense_word sense) → (w ∷ []) ++ expr_words (expr_tree e) ≡ statement_words (statement_kind_tree p k)
  unfolding statement_words statement_kind_tree
  objective_pieces sense e w is word =
      ap (λ v. v ∷ expr_words (expr_tree e)) word ∙ ap (λ kind. statement_words (statement_kind_tree p kind)) (sym is)

  pub branching_pieces : (names : Vec (Name × Place) Global) → k ≡ Branching names → ((codes "branching" ∷ codes "on" ∷ codes "[" ∷ []) ++ words_of_placed names.items) ++ codes "]" ∷ [] ≡ statement_words (statement_kind_tree p k)
  unfolding statement_words statement_kind_tree
  branching_pieces names is = ap (λ kind. statement_words (statement_kind_tree p kind)) (sym is)

  pub heuristic_pieces : (name : Name) (w : List ℕ) → k ≡ Heuristic name → w ≡ name → codes "heuristic" ∷ w ∷ [] ≡ statement_words (statement_kind_tree p k)
  unfolding statement_words statement_kind_tree
  heuristic_pieces name w is same =
      ap (λ v. codes "heuristic" ∷ v ∷ []) same ∙ ap (λ kind. statement_words (statement_kind_tree p kind)) (sym is)

-- ---- the end of a line

spaces_between : (w : List ℕ) (ws : Words) → words_spaced (w ∷ ws) ≡ with_between (codes " ") (w ∷ ws) ++ codes " "
unfolding words_spaced with_between
spaces_between w [] = append_assoc w (codes " ") []
spaces_between w (v ∷ vs) =
    append_assoc w (codes " ") (words_spaced (v ∷ vs)) ∙ ap (λ t. w ++ (32 ∷ t)) (spaces_between v vs)
    ∙ sym (append_assoc w (codes " " ++ with_between (codes " ") (v ∷ vs)) (codes " "))

last_dropped : (text : List ℕ) → take (length (text ++ codes " ") - 1) (text ++ codes " ") ≡ text
last_dropped text =
    let long = length-append text (codes " ") in
    let same : length (text ++ codes " ") - 1 ≡ length text = omega (arith, long) in
    ap (λ n. take n (text ++ codes " ")) same ∙ take-append_seam text (codes " ")

-- some first word
record Begun (words : Words) : Type 0 where
  first : List ℕ
  others : Words
  is : words ≡ first ∷ others

begun : (s : StatementTree) → Begun (statement_words s)
unfolding statement_words
begun (given p groups) = record { first = _; others = _; is = refl }
begun (decided p groups) = record { first = _; others = _; is = refl }
begun (letting p name at d e) = record { first = _; others = _; is = refl }
begun (domain_letting p name at d) = record { first = _; others = _; is = refl }
begun (requirements p es) = record { first = _; others = _; is = refl }
begun (constraints p es) = record { first = _; others = _; is = refl }
begun (objective p sense e) = record { first = _; others = _; is = refl }
begun (branching p names) = record { first = _; others = _; is = refl }
begun (heuristic p name) = record { first = _; others = _; is = refl }

-- A line end takes the place of the last space.
pub line_ended : (s : StatementTree) (old one both : List ℕ) → one ≡ old ++ words_spaced (statement_words s) → both ≡ take (length one - 1) one ++ codes "\n" → both ≡ old ++ statement_text s
unfolding statement_text
line_ended s old one both first second =
    let b = begun s in
    let line = with_between (codes " ") (statement_words s) in
    let spread : one ≡ (old ++ line) ++ codes " " =
    first ∙ ap (λ ws. old ++ words_spaced ws) b.is ∙ ap (λ t. old ++ t) (spaces_between b.first b.others)
    ∙ ap (λ ws. old ++ (with_between (codes " ") ws ++ codes " ")) (sym b.is) ∙ sym (append_assoc old line (codes " ")) in
    second ∙ ap (λ t. take (length t - 1) t ++ codes "\n") spread ∙ ap (λ t. t ++ codes "\n") (last_dropped (old ++ line)) ∙ append_assoc old line (codes "\n")
