-- Each form of expression, settled behind its parts.
use Rattle.ep_eval.proofs.Words.{◌≡◌, Bool, List, [], ◌∷◌, ◌++◌, ℤ, ℕ, length, refl, sym, ap, subst, ◌∙◌, Option, Some, None, option_map, has_number, sum_of, map_both, on_both, Name, Place, counts_node, one_node, truths_node, two_node, CountOp, OneOp, TwoOp, evaluate-chain, evaluate-read, Env, domain_values, evaluate, index_list, index_values, number_in, number_value, read_result, term_values, truth_in, type_in, values_of, numbers_at, Met, a_node, met, met_all, met_domain, met_index, met_indices, met_terms, DomainTree, ExprTree, ExprTrees, IndexDomain, Indices, Terms, chain, in_domain, literal, named, number, read, truth, Index, ValueTree, all_defined, read_value, with_indices, expr_trees, Expr, Mode, of_all, seen_held, IsWorth, SettlesWorth, Told, count_value, one_numbers, one_value, own_number, two_value, Held, Meter, Worth, Seen}
use Rattle.ep_eval.proofs.LiteralForms.{literal_is}
use Rattle.ep_eval.proofs.MeterSteps.{joins, node_told, told_as, told_none, told_then}
use Rattle.ep_eval.proofs.WorthSteps.{evaluate-counts, evaluate-one, evaluate-truths, evaluate-two, met-counts, met-one, met-truths, met-two, numbers-counts, numbers-one, numbers-truths, numbers-two, worth_seen}

-- a node whose only number is its value, with its value
plain_told : (mode : Mode) (env : Env) (e : ExprTree) (a b c : Meter) (ms : List Met) (made seen : Option Held)
    → met mode env e ≡ a_node env e ∷ ms → numbers_at mode (a_node env e) ≡ own_number (evaluate mode env e)
    → Told mode a b ms (evaluate mode env e ≡ seen_held made) → SettlesWorth b c (Seen made) seen → Told mode a c (met mode env e) (evaluate mode env e ≡ seen_held seen)
plain_told mode env e a b c ms made seen cut own told settles =
    node_told mode a b c _ (a_node env e) ms _ (evaluate mode env e) (Seen made) seen cut own told (λ is. worth_seen (evaluate mode env e) made (sym is)) settles

-- an expression by another tree of it
pub at_tree : (mode : Mode) (env : Env) (a b : Meter) (x y : ExprTree) (v : Option ValueTree) → x ≡ y → Told mode a b (met mode env x) (evaluate mode env x ≡ v)
    → Told mode a b (met mode env y) (evaluate mode env y ≡ v)
at_tree mode env a b x y v same h = subst (λ e. Told mode a b (met mode env e) (evaluate mode env e ≡ v)) same h

-- without parts
pub number_told : (mode : Mode) (env : Env) (p : Place) (n : ℤ) (a c : Meter) (made seen : Option Held)
    → evaluate mode env (number p n) ≡ seen_held made → SettlesWorth a c (Seen made) seen → Told mode a c (met mode env (number p n)) (evaluate mode env (number p n) ≡ seen_held seen)
unfolding met numbers_at
number_told mode env p n a c made seen is settles = plain_told mode env (number p n) a a c [] made seen refl refl (told_none (joins mode) a is) settles

pub truth_told : (mode : Mode) (env : Env) (p : Place) (b : Bool) (a c : Meter) (made seen : Option Held)
    → evaluate mode env (truth p b) ≡ seen_held made → SettlesWorth a c (Seen made) seen → Told mode a c (met mode env (truth p b)) (evaluate mode env (truth p b) ≡ seen_held seen)
unfolding met numbers_at
truth_told mode env p b a c made seen is settles = plain_told mode env (truth p b) a a c [] made seen refl refl (told_none (joins mode) a is) settles

pub named_told : (mode : Mode) (env : Env) (p : Place) (name : Name) (a c : Meter) (made seen : Option Held)
    → evaluate mode env (named p name) ≡ seen_held made → SettlesWorth a c (Seen made) seen → Told mode a c (met mode env (named p name)) (evaluate mode env (named p name) ≡ seen_held seen)
unfolding met numbers_at
named_told mode env p name a c made seen is settles = plain_told mode env (named p name) a a c [] made seen refl refl (told_none (joins mode) a is) settles

-- one part
pub one_told : (mode own : Mode) (env : Env) (p : Place) (op : OneOp) (e : ExprTree) (a b c : Meter) (s : Option Held) (w : Worth) (seen : Option Held)
    → Told mode a b (met mode env e) (evaluate mode env e ≡ seen_held s) → own ≡ mode
    → IsWorth (one_numbers own op (seen_held s)) (one_value own op (seen_held s)) w → SettlesWorth b c w seen
    → Told mode a c (met mode env (one_node p op e)) (evaluate mode env (one_node p op e) ≡ seen_held seen)
one_told mode own env p op e a b c s w seen part same given settles =
    let mine : IsWorth (one_numbers mode op (seen_held s)) (one_value mode op (seen_held s)) w =
    subst (λ m. IsWorth (one_numbers m op (seen_held s)) (one_value m op (seen_held s)) w) same given in
    node_told mode a b c _ (a_node env (one_node p op e)) _ (one_numbers mode op (evaluate mode env e)) (evaluate mode env (one_node p op e)) w seen
    (met-one mode env p op e) (numbers-one mode env p op e) part
    (λ is. subst (λ v. IsWorth (one_numbers mode op (evaluate mode env e)) v w) (sym (evaluate-one mode env p op e))
    (subst (λ v. IsWorth (one_numbers mode op v) (one_value mode op v) w) (sym is) mine))
    settles

-- two parts
pub two_told : (mode own : Mode) (env : Env) (p : Place) (op : TwoOp) (e f : ExprTree) (a b c d : Meter) (s t : Option Held) (w : Worth) (seen : Option Held)
    → Told mode a b (met mode env e) (evaluate mode env e ≡ seen_held s) → Told mode b c (met mode env f) (evaluate mode env f ≡ seen_held t) → own ≡ mode
    → IsWorth (own_number (two_value own op (seen_held s) (seen_held t))) (two_value own op (seen_held s) (seen_held t)) w → SettlesWorth c d w seen
    → Told mode a d (met mode env (two_node p op e f)) (evaluate mode env (two_node p op e f) ≡ seen_held seen)
two_told mode own env p op e f a b c d s t w seen first second same given settles =
    node_told mode a c d _ (a_node env (two_node p op e f)) _ (own_number (evaluate mode env (two_node p op e f))) (evaluate mode env (two_node p op e f)) w seen
    (met-two mode env p op e f) (numbers-two mode env p op e f)
    (told_then (joins mode) a b c _ _ first second
    (λ is also. evaluate-two mode env p op e f ∙ ap (λ v. two_value mode op v (evaluate mode env f)) is ∙ ap (two_value mode op (seen_held s)) also
    ∙ ap (λ m. two_value m op (seen_held s) (seen_held t)) (sym same)))
    (λ is. subst (λ v. IsWorth (own_number v) v w) (sym is) given)
    settles

-- a matrix and two lists
pub counts_told : (mode own : Mode) (env : Env) (p : Place) (op : CountOp) (e f g : ExprTree) (a b c d h : Meter) (s t u : Option Held) (w : Worth) (seen : Option Held)
    → Told mode a b (met mode env e) (evaluate mode env e ≡ seen_held s) → Told mode b c (met mode env f) (evaluate mode env f ≡ seen_held t)
    → Told mode c d (met mode env g) (evaluate mode env g ≡ seen_held u) → own ≡ mode
    → IsWorth (own_number (count_value own op (seen_held s) (seen_held t) (seen_held u))) (count_value own op (seen_held s) (seen_held t) (seen_held u)) w → SettlesWorth d h w seen
    → Told mode a h (met mode env (counts_node p op e f g)) (evaluate mode env (counts_node p op e f g) ≡ seen_held seen)
counts_told mode own env p op e f g a b c d h s t u w seen first second third same given settles =
    let two : Told mode a c (met mode env e ++ met mode env f) ((evaluate mode env e ≡ seen_held s) × (evaluate mode env f ≡ seen_held t)) =
    told_then (joins mode) a b c _ _ first second (λ is also. (is, also)) in
    node_told mode a d h _ (a_node env (counts_node p op e f g)) _ (own_number (evaluate mode env (counts_node p op e f g))) (evaluate mode env (counts_node p op e f g)) w seen
    (met-counts mode env p op e f g) (numbers-counts mode env p op e f g)
    (told_then (joins mode) a c d _ _ two third
    (λ both last. evaluate-counts mode env p op e f g
    ∙ ap (λ v. count_value mode op v (evaluate mode env f) (evaluate mode env g)) both.0 ∙ ap (λ v. count_value mode op (seen_held s) v (evaluate mode env g)) both.1
    ∙ ap (count_value mode op (seen_held s) (seen_held t)) last ∙ ap (λ m. count_value m op (seen_held s) (seen_held t) (seen_held u)) (sym same)))
    (λ is. subst (λ v. IsWorth (own_number v) v w) (sym is) given)
    settles

-- a chain of truths
pub truths_told : (mode own : Mode) (env : Env) (p : Place) (every : Bool) (parts : ExprTrees) (a b c : Meter) (holds : Option Bool) (made seen : Option Held)
    → Told mode a b (met_all mode env parts) (holds ≡ of_all every (values_of mode env parts)) → own ≡ mode → seen_held made ≡ truth_in own holds → SettlesWorth b c (Seen made) seen
    → Told mode a c (met mode env (truths_node p every parts)) (evaluate mode env (truths_node p every parts) ≡ seen_held seen)
truths_told mode own env p every parts a b c holds made seen told same given settles =
    plain_told mode env (truths_node p every parts) a b c _ made seen (met-truths mode env p every parts) (numbers-truths mode env p every parts)
    (told_as a b _ told
    (λ is. evaluate-truths mode env p every parts ∙ ap (truth_in mode) (sym is) ∙ ap (λ m. truth_in m holds) (sym same) ∙ sym given))
    settles

-- a chain of sums
pub chain_told : (mode : Mode) (env : Env) (p : Place) (terms : Terms) (a b c : Meter) (total : Option ℤ) (w : Worth) (seen : Option Held)
    → Told mode a b (met_terms mode env terms) (total ≡ option_map sum_of (all_defined (term_values mode env terms)))
    → IsWorth (own_number (number_value total)) (number_value total) w → SettlesWorth b c w seen
    → Told mode a c (met mode env (chain p terms)) (evaluate mode env (chain p terms) ≡ seen_held seen)
unfolding met numbers_at
chain_told mode env p terms a b c total w seen told given settles =
    node_told mode a b c _ (a_node env (chain p terms)) _ (own_number (evaluate mode env (chain p terms))) (evaluate mode env (chain p terms)) w seen refl refl told
    (λ is. subst (λ v. IsWorth (own_number v) v w) (sym (evaluate-chain mode env p terms ∙ ap number_value (sym is))) given)
    settles

within_is : (mode : Mode) (env : Env) (p : Place) (e : ExprTree) (d : DomainTree)
    → evaluate mode env (in_domain p e d) ≡ truth_in mode (map_both has_number (domain_values mode env d) (number_in (evaluate mode env e)))
unfolding evaluate
within_is mode env p e d = refl

-- membership of a domain
pub within_told : (mode own : Mode) (env : Env) (p : Place) (e : ExprTree) (d : DomainTree) (a b c f : Meter) (s : Option Held) (numbers : Option (List ℤ)) (made seen : Option Held)
    → Told mode a b (met mode env e) (evaluate mode env e ≡ seen_held s) → Told mode b c (met_domain mode env d) (numbers ≡ domain_values mode env d) → own ≡ mode
    → seen_held made ≡ truth_in own (map_both has_number numbers (number_in (seen_held s))) → SettlesWorth c f (Seen made) seen
    → Told mode a f (met mode env (in_domain p e d)) (evaluate mode env (in_domain p e d) ≡ seen_held seen)
unfolding met numbers_at
within_told mode own env p e d a b c f s numbers made seen part domain same given settles =
    plain_told mode env (in_domain p e d) a c f _ made seen refl refl
    (told_then (joins mode) a b c _ _ part domain
    (λ is set. within_is mode env p e d
    ∙ ap (λ ns. truth_in mode (map_both has_number ns (number_in (evaluate mode env e)))) (sym set) ∙ ap (λ v. truth_in mode (map_both has_number numbers (number_in v))) is
    ∙ ap (λ m. truth_in m (map_both has_number numbers (number_in (seen_held s)))) (sym same) ∙ sym given))
    settles

-- a list in brackets
pub literal_told : (mode : Mode) (env : Env) (p : Place) (parts : List Expr) (d : IndexDomain) (a b c f : Meter) (values : Option (List ValueTree)) (set : Option (List ℤ)) (count : ℕ) (made seen : Option Held)
    → Told mode a b (met_all mode env (expr_trees parts)) (values ≡ all_defined (values_of mode env (expr_trees parts))) → count ≡ length parts
    → Told mode b c (met_index mode env d) (set ≡ index_values mode env d count) → seen_held made ≡ on_both set values with_indices → SettlesWorth c f (Seen made) seen
    → Told mode a f (met mode env (literal p (expr_trees parts) d)) (evaluate mode env (literal p (expr_trees parts) d) ≡ seen_held seen)
unfolding met numbers_at
literal_told mode env p parts d a b c f values set count made seen told many index whole settles =
    plain_told mode env (literal p (expr_trees parts) d) a c f _ made seen refl refl
    (told_then (joins mode) a b c _ _ told index (λ is own. literal_is mode env p parts d set values count many own is ∙ sym whole))
    settles

-- a read
pub read_told : (mode : Mode) (env : Env) (p : Place) (m : ExprTree) (indices : Indices) (a b c f : Meter) (s : Option Held) (is : Option (List Index)) (found : Option ValueTree) (made seen : Option Held)
    → Told mode a b (met mode env m) (evaluate mode env m ≡ seen_held s) → Told mode b c (met_indices mode env indices) (is ≡ index_list mode env indices)
    → found ≡ on_both is (seen_held s) read_value → seen_held made ≡ read_result mode (type_in env (read p m indices)) found → SettlesWorth c f (Seen made) seen
    → Told mode a f (met mode env (read p m indices)) (evaluate mode env (read p m indices) ≡ seen_held seen)
unfolding met numbers_at
read_told mode env p m indices a b c f s is found made seen matrix listed told given settles =
    plain_told mode env (read p m indices) a c f _ made seen refl refl
    (told_then (joins mode) a b c _ _ matrix listed
    (λ one other. evaluate-read mode env p m indices
    ∙ ap (λ i. read_result mode (type_in env (read p m indices)) (on_both i (evaluate mode env m) read_value)) (sym other)
    ∙ ap (λ v. read_result mode (type_in env (read p m indices)) (on_both is v read_value)) one
    ∙ ap (read_result mode (type_in env (read p m indices))) (sym told) ∙ sym given))
    settles
