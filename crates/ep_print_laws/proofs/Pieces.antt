-- Pieces of spelling that several forms share: levels, calls, lists of words.
use Rattle.std.proofs.Common.{◌≡◌, Bool, true, false, not, ◌&&◌, List, [], ◌∷◌, ◌++◌, codes, refl, sym, ap, subst, ◌∙◌, append_assoc}
use Prim.Native.String.{String}
use Rattle.ep_base.specs.declared.names.Name.{Name}
use Rattle.ep_base.specs.declared.places.Place.{Place}
use Rattle.ep_tree.specs.Phrases.{Choice, Lexeme, Names, Phrase, StartsAt}
use Rattle.ep_tree.specs.Placeless.{placeless, placeless_domain}
use Rattle.ep_tree.specs.Spelling.{At, Call1, Call2, Call3, Closed, ClosedBefore, DomainAt, DomainLevel, Infix, Level, SpellsDomainNode, SpellsNode, domain_rank, ends_open, own_domain_level, own_level, rank}
use Rattle.std.specs.Prelude.{nat_le}
use Rattle.std.proofs.lemmas.List.{append-nil}
use Rattle.ep_tree.specs.Trees.{DomainTree, ExprTree, place_of, place_of_domain}
use Rattle.ep_print.specs.Joining.{with_between}
use Rattle.ep_print.specs.Words.{Words, binary_words, call_words, domain_words, expr_words, name_words, parted, word}
use Rattle.ep_print_laws.proofs.Clearing.{domain_level_cleared, ends_cleared, level_cleared}
use Rattle.ep_print_laws.proofs.Literals.{close_round, comma, open_round}
use Rattle.ep_print_laws.proofs.Respelled.{Again, IsLiteral, Respelled, Twin, again_as, again_name, again_nothing, again_then, again_when, again_word, again_words, respelled_as}
use Rattle.ep_print_laws.proofs.Scanned.{sayings, word_sayings}

-- ---- a tree whose first token may stand anywhere

-- an expression like another, at any place
pub record Node (e : ExprTree) : Type 0 where
  pub build : Place → ExprTree
  pub same : (p : Place) → placeless (build p) ≡ placeless e
  pub placed : (p : Place) → place_of (build p) ≡ p

-- tokens spell it by the rule of its outermost form
abbrev pub Built : (e : ExprTree) → Node e → Phrase
Built e n ts = (p : Place) → SpellsNode (n.build p) ts

-- the same of a domain
pub record DomainNode (d : DomainTree) : Type 0 where
  pub build : Place → DomainTree
  pub same : (p : Place) → placeless_domain (build p) ≡ placeless_domain d
  pub placed : (p : Place) → place_of_domain (build p) ≡ p

abbrev pub BuiltDomain : (d : DomainTree) → DomainNode d → Phrase
BuiltDomain d n ts = (p : Place) → SpellsDomainNode (n.build p) ts

-- a form is spelled, whatever its parts are
pub respelled_node : {X : Type 0} {Q : X → Phrase} {ws : Words} (e : ExprTree) → Respelled Q ws → (f : X → Place → ExprTree) → ((x : X) (p : Place) → placeless (f x p) ≡ placeless e) → ((x : X) (p : Place) → place_of (f x p) ≡ p)
    → ((x : X) (p : Place) (ts : List Lexeme) → Q x ts → SpellsNode (f x p) ts) → Respelled (Built e) ws
respelled_node e r f same placed goes = respelled_as r (λ x. record { build = f x; same = same x; placed = placed x }) (λ x ts q p. goes x p ts q)

pub node : {P : Phrase} {X : Type 0} {Q : X → Phrase} {ws : Words} (e : ExprTree) → Again P Q ws → (f : X → Place → ExprTree) → ((x : X) (p : Place) → placeless (f x p) ≡ placeless e) → ((x : X) (p : Place) → place_of (f x p) ≡ p)
    → ((x : X) (p : Place) (ts : List Lexeme) → Q x ts → SpellsNode (f x p) ts) → Again P (Built e) ws
node e a f same placed goes = record { again = λ tokens said h. respelled_node e (a.again tokens said h) f same placed goes }

-- the same of a domain
pub respelled_domain_node : {X : Type 0} {Q : X → Phrase} {ws : Words} (d : DomainTree) → Respelled Q ws → (f : X → Place → DomainTree) → ((x : X) (p : Place) → placeless_domain (f x p) ≡ placeless_domain d) → ((x : X) (p : Place) → place_of_domain (f x p) ≡ p)
    → ((x : X) (p : Place) (ts : List Lexeme) → Q x ts → SpellsDomainNode (f x p) ts) → Respelled (BuiltDomain d) ws
respelled_domain_node d r f same placed goes = respelled_as r (λ x. record { build = f x; same = same x; placed = placed x }) (λ x ts q p. goes x p ts q)

pub domain_node : {P : Phrase} {X : Type 0} {Q : X → Phrase} {ws : Words} (d : DomainTree) → Again P Q ws → (f : X → Place → DomainTree) → ((x : X) (p : Place) → placeless_domain (f x p) ≡ placeless_domain d) → ((x : X) (p : Place) → place_of_domain (f x p) ≡ p)
    → ((x : X) (p : Place) (ts : List Lexeme) → Q x ts → SpellsDomainNode (f x p) ts) → Again P (BuiltDomain d) ws
domain_node d a f same placed goes = record { again = λ tokens said h. respelled_domain_node d (a.again tokens said h) f same placed goes }

-- ---- levels

-- what is kept by clearing is kept by twins
pub kept : {T : Type 0} {A : Type 0} (clear : T → T) (f : T → A) → ((t : T) → f (clear t) ≡ f t) → (t : T) (x : Twin clear t) → f x.tree ≡ f t
kept clear f keeps t x = sym (keeps x.tree) ∙ ap f x.same ∙ keeps t

-- whether there are words
abbrev pub has_words : Words → Bool
has_words [] = false
has_words (w ∷ ws) = true

-- tokens that say some words have a first one
first_token : (P : List Lexeme → Type 0) (ws : Words) (ts : List Lexeme) → has_words ws ≡ true → sayings ts ≡ word_sayings ws → ((t : Lexeme) (us : List Lexeme) → ts ≡ t ∷ us → P ts) → P ts
first_token P [] ts some e goes = absurd cc
first_token P (w ∷ ws) [] some e goes = absurd cc
first_token P (w ∷ ws) (t ∷ us) some e goes = goes t us refl

starts : (p : Place) (t : Lexeme) (us ts : List Lexeme) → ts ≡ t ∷ us → p ≡ t.place → StartsAt p ts
starts p t us ts e at = subst (StartsAt p) (sym e) (sym at)

-- an expression is spelled where a level is asked for
pub respelled_at : (asked : Level) (e : ExprTree) → has_words (expr_words e) ≡ true → nat_le (rank asked) (rank (own_level e)) ≡ true → Respelled (Built e) (expr_words e)
    → Respelled (λ (x : Twin placeless e). At asked x.tree (SpellsNode x.tree)) (expr_words e)
respelled_at asked e first tight r = record {
  written = r.written;
  said = λ ts is.
      let n = r.said ts is in
      first_token (λ us. (x : Twin placeless e) × At asked x.tree (SpellsNode x.tree) us) (expr_words e) ts first is (made n.0 ts n.1);
}
  where
    made : (n : Node e) (ts : List Lexeme) → Built e n ts → (t : Lexeme) (us : List Lexeme) → ts ≡ t ∷ us → (x : Twin placeless e) × At asked x.tree (SpellsNode x.tree) ts
    made n ts b t us is =
        let x : Twin placeless e = record { tree = n.build t.place; same = n.same t.place } in
        (x, (ap (λ l. nat_le (rank asked) (rank l)) (kept placeless own_level level_cleared e x) ∙ tight, (starts _ t us ts is (n.placed t.place), b t.place)))

pub at_level : (asked : Level) (e : ExprTree) → ((tokens : List Lexeme) → SpellsNode e tokens → has_words (expr_words e) ≡ true) → Again (SpellsNode e) (Built e) (expr_words e)
    → Again (At asked e (SpellsNode e)) (λ (x : Twin placeless e). At asked x.tree (SpellsNode x.tree)) (expr_words e)
at_level asked e some a = record { again = λ tokens said h. respelled_at asked e (some tokens h.1.1) h.0 (a.again tokens said h.1.1) }

-- the same of a domain
pub respelled_domain_at : (asked : DomainLevel) (d : DomainTree) → has_words (domain_words d) ≡ true → nat_le (domain_rank asked) (domain_rank (own_domain_level d)) ≡ true → Respelled (BuiltDomain d) (domain_words d)
    → Respelled (λ (x : Twin placeless_domain d). DomainAt asked x.tree (SpellsDomainNode x.tree)) (domain_words d)
respelled_domain_at asked d first tight r = record {
  written = r.written;
  said = λ ts is.
      let n = r.said ts is in
      first_token (λ us. (x : Twin placeless_domain d) × DomainAt asked x.tree (SpellsDomainNode x.tree) us) (domain_words d) ts first is (made n.0 ts n.1);
}
  where
    made : (n : DomainNode d) (ts : List Lexeme) → BuiltDomain d n ts → (t : Lexeme) (us : List Lexeme) → ts ≡ t ∷ us → (x : Twin placeless_domain d) × DomainAt asked x.tree (SpellsDomainNode x.tree) ts
    made n ts b t us is =
        let x : Twin placeless_domain d = record { tree = n.build t.place; same = n.same t.place } in
        (x, (ap (λ l. nat_le (domain_rank asked) (domain_rank l)) (kept placeless_domain own_domain_level domain_level_cleared d x) ∙ tight, (starts _ t us ts is (n.placed t.place), b t.place)))

pub domain_at_level : (asked : DomainLevel) (d : DomainTree) → ((tokens : List Lexeme) → SpellsDomainNode d tokens → has_words (domain_words d) ≡ true) → Again (SpellsDomainNode d) (BuiltDomain d) (domain_words d)
    → Again (DomainAt asked d (SpellsDomainNode d)) (λ (x : Twin placeless_domain d). DomainAt asked x.tree (SpellsDomainNode x.tree)) (domain_words d)
domain_at_level asked d some a = record { again = λ tokens said h. respelled_domain_at asked d (some tokens h.1.1) h.0 (a.again tokens said h.1.1) }

-- ---- operands that an operator follows

pub closed : {P : Phrase} {ws : Words} (e : ExprTree) {Q : Twin placeless e → Phrase} → Again P Q ws → Again (Closed e P) (λ (x : Twin placeless e). Closed x.tree (Q x)) ws
closed e a = again_when (not (ends_open e)) a (λ x. not (ends_open x.tree)) (λ x. ap not (kept placeless ends_open ends_cleared e x))

pub closed_before : {P : Phrase} {ws : Words} (others : Bool) (e : ExprTree) {Q : Twin placeless e → Phrase} → Again P Q ws → Again (ClosedBefore others e P) (λ (x : Twin placeless e). ClosedBefore others x.tree (Q x)) ws
closed_before others e a =
    again_when (not (others && ends_open e)) a (λ x. not (others && ends_open x.tree)) (λ x. ap (λ b. not (others && b)) (kept placeless ends_open ends_cleared e x))

-- ---- calls and operators

pub call1 : {P : Phrase} {X : Type 0} {Q : X → Phrase} {ws : Words} (w : String) → IsLiteral w → Again P Q ws → Again (Call1 w P) (λ (x : X). Call1 w (Q x)) (call_words w (ws ∷ []))
unfolding with_between
call1 w is a =
    again_as (again_then (again_word w is) (again_then (again_word "(" open_round) (again_then a (again_word ")" close_round)))) (λ x. x.1.1.0) (λ x ts h. h)

two_parts : (v w : Words) → v ++ (word "," ++ (w ++ word ")")) ≡ parted "," (v ∷ w ∷ []) ++ word ")"
unfolding with_between
two_parts v w = sym (append_assoc v (word "," ++ w) (word ")"))

three_parts : (u v w : Words) → u ++ (word "," ++ (v ++ (word "," ++ (w ++ word ")")))) ≡ parted "," (u ∷ v ∷ w ∷ []) ++ word ")"
unfolding with_between
three_parts u v w =
    ap (λ t. u ++ (codes "," ∷ t)) (sym (append_assoc v (word "," ++ w) (word ")"))) ∙ sym (append_assoc u (word "," ++ (v ++ (word "," ++ w))) (word ")"))

pub call2 : {P P' : Phrase} {X Y : Type 0} {Q : X → Phrase} {R : Y → Phrase} {v w : Words} (t : String) → IsLiteral t → Again P Q v → Again P' R w
    → Again (Call2 t P P') (λ (x : X × Y). Call2 t (Q x.0) (R x.1)) (call_words t (v ∷ w ∷ []))
call2 {v = v} {w = w} t is a b =
    again_words (ap (λ ws. codes t ∷ codes "(" ∷ ws) (two_parts v w))
    (again_as (again_then (again_word t is) (again_then (again_word "(" open_round) (again_then a (again_then (again_word "," comma) (again_then b (again_word ")" close_round))))))
    (λ x. (x.1.1.0, x.1.1.1.1.0)) (λ x ts h. h))

pub call3 : {P P' P'' : Phrase} {X Y Z : Type 0} {Q : X → Phrase} {R : Y → Phrase} {S : Z → Phrase} {u v w : Words} (t : String) → IsLiteral t → Again P Q u → Again P' R v → Again P'' S w
    → Again (Call3 t P P' P'') (λ (x : X × (Y × Z)). Call3 t (Q x.0) (R x.1.0) (S x.1.1)) (call_words t (u ∷ v ∷ w ∷ []))
call3 {u = u} {v = v} {w = w} t is a b c =
    again_words (ap (λ ws. codes t ∷ codes "(" ∷ ws) (three_parts u v w))
    (again_as
    (again_then (again_word t is) (again_then (again_word "(" open_round)
    (again_then a (again_then (again_word "," comma) (again_then b (again_then (again_word "," comma) (again_then c (again_word ")" close_round))))))))
    (λ x. (x.1.1.0, (x.1.1.1.1.0, x.1.1.1.1.1.1.0))) (λ x ts h. h))

pub infix_again : {P P' : Phrase} {X Y : Type 0} {Q : X → Phrase} {R : Y → Phrase} {v w : Words} (t : String) → IsLiteral t → Again P Q v → Again P' R w
    → Again (Infix t P P') (λ (x : X × Y). Infix t (Q x.0) (R x.1)) (v ++ (word t ++ w))
infix_again t is a b = again_as (again_then a (again_then (again_word t is) b)) (λ x. (x.0, x.1.1)) (λ x ts h. h)

-- two parts in brackets behind a name, or with an operator between them
pub binary_again : {P P' R R' : Phrase} {X Y : Type 0} {Q Q' : X → Phrase} {S S' : Y → Phrase} {v w : Words} (called : Bool) (t : String) → IsLiteral t → Again P Q v → Again P' S w → Again R Q' v → Again R' S' w
    → Again (Choice called (Call2 t P P') (Infix t R R')) (λ (x : X × Y). Choice called (Call2 t (Q x.0) (S x.1)) (Infix t (Q' x.0) (S' x.1))) (binary_words called t v w)
unfolding binary_words
binary_again true t is a b c d = call2 t is a b
binary_again false t is a b c d = infix_again t is c d

-- ---- lists of words

-- lists with another before each
abbrev pub behind : {A : Type 0} → List A → List (List A) → List A
behind between [] = []
behind between (x ∷ xs) = between ++ (x ++ behind between xs)

pub joined_behind : {A : Type 0} (between x : List A) (xs : List (List A)) → x ++ behind between xs ≡ with_between between (x ∷ xs)
unfolding with_between
joined_behind between x [] = append-nil x
joined_behind between x (y ∷ xs) = ap (λ t. x ++ (between ++ t)) (joined_behind between y xs)

pub behind-append : {A : Type 0} (between : List A) (xs ys : List (List A)) → behind between xs ++ behind between ys ≡ behind between (xs ++ ys)
behind-append between [] ys = refl
behind-append between (x ∷ xs) ys =
    append_assoc between (x ++ behind between xs) (behind between ys) ∙ ap (λ t. between ++ t) (append_assoc x (behind between xs) (behind between ys))
    ∙ ap (λ t. between ++ (x ++ t)) (behind-append between xs ys)

pub again_names : (xs : List Name) → Again (Names xs) (λ (u : Unit {0}). Names xs) (name_words xs)
unfolding Names with_between
again_names [] = again_nothing
again_names (x ∷ []) = again_name x
again_names (x ∷ y ∷ xs) = again_as (again_then (again_name x) (again_then (again_word "," comma) (again_names (y ∷ xs)))) (λ u. tt) (λ u ts h. h)
