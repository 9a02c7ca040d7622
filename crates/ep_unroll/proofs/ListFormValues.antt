-- Forms whose parts are lists, by what their nodes are worth.
use Rattle.ep_unroll.proofs.Words.{◌≡◌, ℕ, Bool, true, false, ℤ, List, ◌++◌, length, Some, None, refl, sym, ap, ◌∙◌, Option, is_some, map, option_and_then, ◌==◌, list_all, map-append, counts_hold, is_row_of, lex_holds, on_both, on_three, all_there, CompareOp, LexOp, Place, GroundNode, node_value, term_value, evaluate-at_least, evaluate-at_most, evaluate-gcc, evaluate-lex, evaluate-table, Env, evaluate, number_in, rows_in, scalars_in, truth_in, undefined_truth, ExprTree, at_least, at_most, gcc, lex, table, Mode, Grows, IsTermOf, ArePartial, HasNumber, Numbering, Reading, AreScalarsOf, IsJudged, needed_in}
use Rattle.ep_ground.specs.Nodes as node
use Rattle.ep_ground.specs.Terms as ground
use Rattle.ep_ground.specs.Terms.{truth}
use Rattle.ep_unroll.proofs.FormValues.{both_same, truth_told, untold_is}
use Rattle.ep_unroll.proofs.MatrixSteps.{one_list, values_kept}
use Rattle.ep_unroll.proofs.TruthSteps.{counts_told, counts_untold, length_mapped, lists_there, row_told, row_untold, there_length, told_both}

-- a truth value by the scalars of two lists
two_lists : (n : Numbering) (cells : Env) (nodes mid new : List GroundNode) (e e' tree : ExprTree) (ts us qs : List ℕ) (t : ℕ) (own : GroundNode) (k : List ℤ → List ℤ → Option Bool)
    → ((r : Reading n cells) → evaluate n.mode r.values tree ≡ truth_in n.mode (on_both (scalars_in (evaluate n.mode r.values e)) (scalars_in (evaluate n.mode r.values e')) k))
    → ((numbers : List ℤ) (value : ℕ → Option ℤ) → node_value numbers value own ≡ truth (on_both (all_there (map value ts)) (all_there (map value us)) k))
    → ((ws bs : List ℤ) → length bs ≡ length us → is_some (k ws bs) ≡ true)
    → AreScalarsOf n cells nodes mid e ts → AreScalarsOf n cells nodes mid e' us → ArePartial mid n.count (needed_in n.mode (ts ++ us)) qs → IsJudged mid new own qs t
    → IsTermOf n cells nodes new tree t
unfolding on_both
two_lists n cells nodes mid new e e' tree ts us qs t own k one other there h h' needed j =
    truth_told n cells nodes mid new tree (ts ++ us) qs t own (λ r. on_both (scalars_in (evaluate n.mode r.values e)) (scalars_in (evaluate n.mode r.values e')) k) h.grows needed j one
    (λ r. told_both n.mode (on_both (scalars_in (evaluate n.mode r.values e)) (scalars_in (evaluate n.mode r.values e')) k) (term_value j.between r.numbers j.own)
    (j.puts.value r.numbers ∙ other r.numbers (term_value j.between r.numbers)
    ∙ ap (λ o. truth (on_both o (all_there (map (term_value j.between r.numbers) us)) k)) (ap all_there (values_kept mid j.between r.numbers ts j.puts.grows h.known) ∙ h.scalars r)
    ∙ ap (λ o. truth (on_both (scalars_in (evaluate n.mode r.values e)) o k)) (ap all_there (values_kept mid j.between r.numbers us j.puts.grows h'.known) ∙ h'.scalars r)))
    (λ r. ap (λ os. is_some (all_there os)) (map-append (term_value mid r.numbers) ts us)
    ∙ lists_there k (map (term_value mid r.numbers) ts) (map (term_value mid r.numbers) us)
    (λ ws bs is is'. there ws bs (there_length (map (term_value mid r.numbers) us) bs is' ∙ length_mapped (term_value mid r.numbers) us))
    ∙ ap (λ o. is_some (on_both o (all_there (map (term_value mid r.numbers) us)) k)) (h.scalars r)
    ∙ ap (λ o. is_some (on_both (scalars_in (evaluate n.mode r.values e)) o k)) (h'.scalars r))

pub lex_is : (n : Numbering) (cells : Env) (nodes mid new : List GroundNode) (p : Place) (op : LexOp) (e f : ExprTree) (ts us qs : List ℕ) (t : ℕ)
    → AreScalarsOf n cells nodes mid e ts → AreScalarsOf n cells nodes mid f us → ArePartial mid n.count (needed_in n.mode (ts ++ us)) qs → IsJudged mid new (node.lex op ts us) qs t
    → IsTermOf n cells nodes new (lex p op e f) t
unfolding node_value ground.term_values_of
lex_is n cells nodes mid new p op e f ts us qs t =
    two_lists n cells nodes mid new e f (lex p op e f) ts us qs t (node.lex op ts us) (λ xs ys. Some (lex_holds op xs ys))
    (λ r. evaluate-lex n.mode r.values p op e f
    ∙ ap (truth_in n.mode) (both_same (lex_holds op) (scalars_in (evaluate n.mode r.values e)) (scalars_in (evaluate n.mode r.values f))))
    (λ numbers value. refl) (λ ws bs long. refl)

-- ---- rows

rows_first : (rows : List (List ℤ)) (o : Option (List ℤ)) → on_both (Some rows) o is_row_of ≡ option_and_then (is_row_of rows) o
unfolding on_both
rows_first rows o = refl

rows_told : (rows : List (List ℤ)) (k : ℕ) → list_all (λ row. length row == k) rows ≡ true
    → (o : Option (List ℤ)) → ((xs : List ℤ) → o ≡ Some xs → length xs ≡ k) → is_some o ≡ is_some (option_and_then (is_row_of rows) o)
rows_told rows k all None long = refl
rows_told rows k all (Some xs) long = sym (row_told rows xs k (long xs refl) all)

rows_untold : (rows : List (List ℤ)) (k : ℕ) → list_all (λ row. length row == k) rows ≡ false
    → (o : Option (List ℤ)) → ((xs : List ℤ) → o ≡ Some xs → length xs ≡ k) → option_and_then (is_row_of rows) o ≡ None
rows_untold rows k all None long = refl
rows_untold rows k all (Some xs) long = row_untold rows xs k (long xs refl) all

-- each row is as long as the list
pub table_is : (n : Numbering) (cells : Env) (nodes mid new : List GroundNode) (p : Place) (e f : ExprTree) (ts us : List ℕ) (rows : List (List ℤ)) (t : ℕ)
    → AreScalarsOf n cells nodes mid e ts → ((r : Reading n cells) → rows_in (evaluate n.mode r.values f) ≡ Some rows) → list_all (λ row. length row == length ts) rows ≡ true
    → ArePartial mid n.count (needed_in n.mode ts) us → IsJudged mid new (node.table ts rows) us t → IsTermOf n cells nodes new (table p e f) t
unfolding node_value ground.term_values_of
table_is n cells nodes mid new p e f ts us rows t h fixed all =
    one_list n cells nodes mid new e (table p e f) ts us t (node.table ts rows) (λ o. option_and_then (is_row_of rows) o)
    (λ r. evaluate-table n.mode r.values p e f
    ∙ ap (λ o. truth_in n.mode (on_both o (scalars_in (evaluate n.mode r.values e)) is_row_of)) (fixed r)
    ∙ ap (truth_in n.mode) (rows_first rows (scalars_in (evaluate n.mode r.values e))))
    (λ numbers value. refl) (rows_told rows (length ts) all) h

-- one isn't
pub table_untold : (n : Numbering) (cells : Env) (nodes mid new : List GroundNode) (p : Place) (e f : ExprTree) (ts : List ℕ) (rows : List (List ℤ)) (mode : Mode) (t : ℕ) → n.mode ≡ mode
    → AreScalarsOf n cells nodes mid e ts → ((r : Reading n cells) → rows_in (evaluate n.mode r.values f) ≡ Some rows) → list_all (λ row. length row == length ts) rows ≡ false
    → HasNumber mid new (λ numbers. number_in (undefined_truth mode)) t → IsTermOf n cells nodes new (table p e f) t
table_untold n cells nodes mid new p e f ts rows mode t is h fixed all =
    untold_is n cells nodes mid new (table p e f) mode t is h.grows
    (λ r. evaluate-table n.mode r.values p e f
    ∙ ap (λ o. truth_in n.mode (on_both o (scalars_in (evaluate n.mode r.values e)) is_row_of)) (fixed r)
    ∙ ap (truth_in n.mode)
    (rows_first rows (scalars_in (evaluate n.mode r.values e))
    ∙ ap (option_and_then (is_row_of rows)) (sym (h.scalars r))
    ∙ rows_untold rows (length ts) all (all_there (map (term_value mid r.numbers) ts))
    (λ xs there. there_length (map (term_value mid r.numbers) ts) xs there ∙ length_mapped (term_value mid r.numbers) ts)))

pub no_table : (n : Numbering) (cells : Env) (nodes mid new : List GroundNode) (p : Place) (e f : ExprTree) (mode : Mode) (t : ℕ) → n.mode ≡ mode → Grows nodes mid
    → ((r : Reading n cells) → rows_in (evaluate n.mode r.values f) ≡ None) → HasNumber mid new (λ numbers. number_in (undefined_truth mode)) t → IsTermOf n cells nodes new (table p e f) t
unfolding on_both
no_table n cells nodes mid new p e f mode t is g none =
    untold_is n cells nodes mid new (table p e f) mode t is g
    (λ r. evaluate-table n.mode r.values p e f ∙ ap (λ o. truth_in n.mode (on_both o (scalars_in (evaluate n.mode r.values e)) is_row_of)) (none r))

-- ---- counts

middle : (op : CompareOp) (ns : List ℤ) (a c : Option (List ℤ)) → on_three a (Some ns) c (counts_hold op) ≡ on_both a c (λ xs cs. counts_hold op xs ns cs)
unfolding on_three on_both
middle op ns None c = refl
middle op ns (Some xs) c = refl

no_middle : (op : CompareOp) (a c : Option (List ℤ)) → on_three a None c (counts_hold op) ≡ None
unfolding on_three on_both
no_middle op None c = refl
no_middle op (Some xs) c = refl

no_last : (op : CompareOp) (a b : Option (List ℤ)) → on_three a b None (counts_hold op) ≡ None
unfolding on_three on_both
no_last op None b = refl
no_last op (Some xs) None = refl
no_last op (Some xs) (Some ys) = refl

-- there are as many numbers as counts
pub counts_are : (n : Numbering) (cells : Env) (nodes mid new : List GroundNode) (p : Place) (e f g : ExprTree) (ts us qs : List ℕ) (ns : List ℤ) (t : ℕ)
    → AreScalarsOf n cells nodes mid e ts → ((r : Reading n cells) → scalars_in (evaluate n.mode r.values f) ≡ Some ns) → length ns ≡ length us → AreScalarsOf n cells nodes mid g us
    → ArePartial mid n.count (needed_in n.mode (ts ++ us)) qs → IsJudged mid new (node.counts ts ns us) qs t → IsTermOf n cells nodes new (gcc p e f g) t
unfolding node_value ground.term_values_of
counts_are n cells nodes mid new p e f g ts us qs ns t h fixed many h' =
    two_lists n cells nodes mid new e g (gcc p e f g) ts us qs t (node.counts ts ns us) (λ xs cs. counts_hold CompareOp.Equal xs ns cs)
    (λ r. evaluate-gcc n.mode r.values p e f g
    ∙ ap (λ o. truth_in n.mode (on_three (scalars_in (evaluate n.mode r.values e)) o (scalars_in (evaluate n.mode r.values g)) (counts_hold CompareOp.Equal))) (fixed r)
    ∙ ap (truth_in n.mode) (middle CompareOp.Equal ns (scalars_in (evaluate n.mode r.values e)) (scalars_in (evaluate n.mode r.values g))))
    (λ numbers value. refl) (λ ws bs long. counts_told CompareOp.Equal ws ns bs (many ∙ sym long)) h h'

others_differ : (op : CompareOp) (ns : List ℤ) (k : ℕ) → (length ns ≡ k → ⊥) → (a c : Option (List ℤ)) → ((cs : List ℤ) → c ≡ Some cs → length cs ≡ k)
    → on_three a (Some ns) c (counts_hold op) ≡ None
unfolding on_three on_both
others_differ op ns k differ None c long = refl
others_differ op ns k differ (Some xs) None long = refl
others_differ op ns k differ (Some xs) (Some cs) long = counts_untold op xs ns cs (λ e. differ (e ∙ long cs refl))

-- there aren't
pub counts_differ : (n : Numbering) (cells : Env) (nodes mid new : List GroundNode) (p : Place) (e f g : ExprTree) (us : List ℕ) (ns : List ℤ) (mode : Mode) (t : ℕ) → n.mode ≡ mode
    → ((r : Reading n cells) → scalars_in (evaluate n.mode r.values f) ≡ Some ns) → (length ns ≡ length us → ⊥) → AreScalarsOf n cells nodes mid g us
    → HasNumber mid new (λ numbers. number_in (undefined_truth mode)) t → IsTermOf n cells nodes new (gcc p e f g) t
counts_differ n cells nodes mid new p e f g us ns mode t is fixed differ h =
    untold_is n cells nodes mid new (gcc p e f g) mode t is h.grows
    (λ r. evaluate-gcc n.mode r.values p e f g
    ∙ ap (λ o. truth_in n.mode (on_three (scalars_in (evaluate n.mode r.values e)) o (scalars_in (evaluate n.mode r.values g)) (counts_hold CompareOp.Equal))) (fixed r)
    ∙ ap (λ o. truth_in n.mode (on_three (scalars_in (evaluate n.mode r.values e)) (Some ns) o (counts_hold CompareOp.Equal))) (sym (h.scalars r))
    ∙ ap (truth_in n.mode) (others_differ CompareOp.Equal ns (length us) differ (scalars_in (evaluate n.mode r.values e)) (all_there (map (term_value mid r.numbers) us))
    (λ cs there. there_length (map (term_value mid r.numbers) us) cs there ∙ length_mapped (term_value mid r.numbers) us)))

pub no_counts : (n : Numbering) (cells : Env) (nodes mid new : List GroundNode) (p : Place) (e f g : ExprTree) (mode : Mode) (t : ℕ) → n.mode ≡ mode → Grows nodes mid
    → ((r : Reading n cells) → scalars_in (evaluate n.mode r.values f) ≡ None) → HasNumber mid new (λ numbers. number_in (undefined_truth mode)) t → IsTermOf n cells nodes new (gcc p e f g) t
no_counts n cells nodes mid new p e f g mode t is grows none =
    untold_is n cells nodes mid new (gcc p e f g) mode t is grows
    (λ r. evaluate-gcc n.mode r.values p e f g
    ∙ ap (λ o. truth_in n.mode (on_three (scalars_in (evaluate n.mode r.values e)) o (scalars_in (evaluate n.mode r.values g)) (counts_hold CompareOp.Equal))) (none r)
    ∙ ap (truth_in n.mode) (no_middle CompareOp.Equal (scalars_in (evaluate n.mode r.values e)) (scalars_in (evaluate n.mode r.values g))))

counts_all : (op : CompareOp) (ns cs : List ℤ) → length ns ≡ length cs → (o : Option (List ℤ)) → is_some o ≡ is_some (option_and_then (λ xs. counts_hold op xs ns cs) o)
counts_all op ns cs many None = refl
counts_all op ns cs many (Some xs) = sym (counts_told op xs ns cs many)

counts_none : (op : CompareOp) (ns cs : List ℤ) → (length ns ≡ length cs → ⊥) → (o : Option (List ℤ)) → option_and_then (λ xs. counts_hold op xs ns cs) o ≡ None
counts_none op ns cs differ None = refl
counts_none op ns cs differ (Some xs) = counts_untold op xs ns cs differ

counts_first : (op : CompareOp) (cs ns : List ℤ) (a : Option (List ℤ)) → on_three a (Some ns) (Some cs) (counts_hold op) ≡ option_and_then (λ xs. counts_hold op xs ns cs) a
unfolding on_three on_both
counts_first op cs ns None = refl
counts_first op cs ns (Some xs) = refl

-- ---- at least so often

at_least_value : (n : Numbering) (cells : Env) (p : Place) (e f g : ExprTree) (cs ns : List ℤ)
    → ((r : Reading n cells) → scalars_in (evaluate n.mode r.values f) ≡ Some cs) → ((r : Reading n cells) → scalars_in (evaluate n.mode r.values g) ≡ Some ns)
    → (r : Reading n cells) → evaluate n.mode r.values (at_least p e f g) ≡ truth_in n.mode (option_and_then (λ xs. counts_hold CompareOp.AtLeast xs ns cs) (scalars_in (evaluate n.mode r.values e)))
at_least_value n cells p e f g cs ns counts values r =
    evaluate-at_least n.mode r.values p e f g
    ∙ ap (λ o. truth_in n.mode (on_three (scalars_in (evaluate n.mode r.values e)) o (scalars_in (evaluate n.mode r.values f)) (counts_hold CompareOp.AtLeast))) (values r)
    ∙ ap (λ o. truth_in n.mode (on_three (scalars_in (evaluate n.mode r.values e)) (Some ns) o (counts_hold CompareOp.AtLeast))) (counts r)
    ∙ ap (truth_in n.mode) (counts_first CompareOp.AtLeast cs ns (scalars_in (evaluate n.mode r.values e)))

pub at_least_is : (n : Numbering) (cells : Env) (nodes mid new : List GroundNode) (p : Place) (e f g : ExprTree) (ts us : List ℕ) (cs ns : List ℤ) (t : ℕ)
    → AreScalarsOf n cells nodes mid e ts → ((r : Reading n cells) → scalars_in (evaluate n.mode r.values f) ≡ Some cs) → ((r : Reading n cells) → scalars_in (evaluate n.mode r.values g) ≡ Some ns)
    → length ns ≡ length cs → ArePartial mid n.count (needed_in n.mode ts) us → IsJudged mid new (node.at_least ts cs ns) us t → IsTermOf n cells nodes new (at_least p e f g) t
unfolding node_value ground.term_values_of
at_least_is n cells nodes mid new p e f g ts us cs ns t h counts values many =
    one_list n cells nodes mid new e (at_least p e f g) ts us t (node.at_least ts cs ns) (λ o. option_and_then (λ xs. counts_hold CompareOp.AtLeast xs ns cs) o)
    (at_least_value n cells p e f g cs ns counts values) (λ numbers value. refl) (λ o long. counts_all CompareOp.AtLeast ns cs many o) h

pub at_least_differ : (n : Numbering) (cells : Env) (nodes mid new : List GroundNode) (p : Place) (e f g : ExprTree) (cs ns : List ℤ) (mode : Mode) (t : ℕ) → n.mode ≡ mode → Grows nodes mid
    → ((r : Reading n cells) → scalars_in (evaluate n.mode r.values f) ≡ Some cs) → ((r : Reading n cells) → scalars_in (evaluate n.mode r.values g) ≡ Some ns)
    → (length ns ≡ length cs → ⊥) → HasNumber mid new (λ numbers. number_in (undefined_truth mode)) t → IsTermOf n cells nodes new (at_least p e f g) t
at_least_differ n cells nodes mid new p e f g cs ns mode t is grows counts values differ =
    untold_is n cells nodes mid new (at_least p e f g) mode t is grows
    (λ r. at_least_value n cells p e f g cs ns counts values r ∙ ap (truth_in n.mode) (counts_none CompareOp.AtLeast ns cs differ (scalars_in (evaluate n.mode r.values e))))

pub at_least_no_counts : (n : Numbering) (cells : Env) (nodes mid new : List GroundNode) (p : Place) (e f g : ExprTree) (mode : Mode) (t : ℕ) → n.mode ≡ mode → Grows nodes mid
    → ((r : Reading n cells) → scalars_in (evaluate n.mode r.values f) ≡ None) → HasNumber mid new (λ numbers. number_in (undefined_truth mode)) t → IsTermOf n cells nodes new (at_least p e f g) t
at_least_no_counts n cells nodes mid new p e f g mode t is grows none =
    untold_is n cells nodes mid new (at_least p e f g) mode t is grows
    (λ r. evaluate-at_least n.mode r.values p e f g
    ∙ ap (λ o. truth_in n.mode (on_three (scalars_in (evaluate n.mode r.values e)) (scalars_in (evaluate n.mode r.values g)) o (counts_hold CompareOp.AtLeast))) (none r)
    ∙ ap (truth_in n.mode) (no_last CompareOp.AtLeast (scalars_in (evaluate n.mode r.values e)) (scalars_in (evaluate n.mode r.values g))))

pub at_least_no_values : (n : Numbering) (cells : Env) (nodes mid new : List GroundNode) (p : Place) (e f g : ExprTree) (mode : Mode) (t : ℕ) → n.mode ≡ mode → Grows nodes mid
    → ((r : Reading n cells) → scalars_in (evaluate n.mode r.values g) ≡ None) → HasNumber mid new (λ numbers. number_in (undefined_truth mode)) t → IsTermOf n cells nodes new (at_least p e f g) t
at_least_no_values n cells nodes mid new p e f g mode t is grows none =
    untold_is n cells nodes mid new (at_least p e f g) mode t is grows
    (λ r. evaluate-at_least n.mode r.values p e f g
    ∙ ap (λ o. truth_in n.mode (on_three (scalars_in (evaluate n.mode r.values e)) o (scalars_in (evaluate n.mode r.values f)) (counts_hold CompareOp.AtLeast))) (none r)
    ∙ ap (truth_in n.mode) (no_middle CompareOp.AtLeast (scalars_in (evaluate n.mode r.values e)) (scalars_in (evaluate n.mode r.values f))))

-- ---- at most so often

at_most_value : (n : Numbering) (cells : Env) (p : Place) (e f g : ExprTree) (cs ns : List ℤ)
    → ((r : Reading n cells) → scalars_in (evaluate n.mode r.values f) ≡ Some cs) → ((r : Reading n cells) → scalars_in (evaluate n.mode r.values g) ≡ Some ns)
    → (r : Reading n cells) → evaluate n.mode r.values (at_most p e f g) ≡ truth_in n.mode (option_and_then (λ xs. counts_hold CompareOp.AtMost xs ns cs) (scalars_in (evaluate n.mode r.values e)))
at_most_value n cells p e f g cs ns counts values r =
    evaluate-at_most n.mode r.values p e f g
    ∙ ap (λ o. truth_in n.mode (on_three (scalars_in (evaluate n.mode r.values e)) o (scalars_in (evaluate n.mode r.values f)) (counts_hold CompareOp.AtMost))) (values r)
    ∙ ap (λ o. truth_in n.mode (on_three (scalars_in (evaluate n.mode r.values e)) (Some ns) o (counts_hold CompareOp.AtMost))) (counts r)
    ∙ ap (truth_in n.mode) (counts_first CompareOp.AtMost cs ns (scalars_in (evaluate n.mode r.values e)))

pub at_most_is : (n : Numbering) (cells : Env) (nodes mid new : List GroundNode) (p : Place) (e f g : ExprTree) (ts us : List ℕ) (cs ns : List ℤ) (t : ℕ)
    → AreScalarsOf n cells nodes mid e ts → ((r : Reading n cells) → scalars_in (evaluate n.mode r.values f) ≡ Some cs) → ((r : Reading n cells) → scalars_in (evaluate n.mode r.values g) ≡ Some ns)
    → length ns ≡ length cs → ArePartial mid n.count (needed_in n.mode ts) us → IsJudged mid new (node.at_most ts cs ns) us t → IsTermOf n cells nodes new (at_most p e f g) t
unfolding node_value ground.term_values_of
at_most_is n cells nodes mid new p e f g ts us cs ns t h counts values many =
    one_list n cells nodes mid new e (at_most p e f g) ts us t (node.at_most ts cs ns) (λ o. option_and_then (λ xs. counts_hold CompareOp.AtMost xs ns cs) o)
    (at_most_value n cells p e f g cs ns counts values) (λ numbers value. refl) (λ o long. counts_all CompareOp.AtMost ns cs many o) h

pub at_most_differ : (n : Numbering) (cells : Env) (nodes mid new : List GroundNode) (p : Place) (e f g : ExprTree) (cs ns : List ℤ) (mode : Mode) (t : ℕ) → n.mode ≡ mode → Grows nodes mid
    → ((r : Reading n cells) → scalars_in (evaluate n.mode r.values f) ≡ Some cs) → ((r : Reading n cells) → scalars_in (evaluate n.mode r.values g) ≡ Some ns)
    → (length ns ≡ length cs → ⊥) → HasNumber mid new (λ numbers. number_in (undefined_truth mode)) t → IsTermOf n cells nodes new (at_most p e f g) t
at_most_differ n cells nodes mid new p e f g cs ns mode t is grows counts values differ =
    untold_is n cells nodes mid new (at_most p e f g) mode t is grows
    (λ r. at_most_value n cells p e f g cs ns counts values r ∙ ap (truth_in n.mode) (counts_none CompareOp.AtMost ns cs differ (scalars_in (evaluate n.mode r.values e))))

pub at_most_no_counts : (n : Numbering) (cells : Env) (nodes mid new : List GroundNode) (p : Place) (e f g : ExprTree) (mode : Mode) (t : ℕ) → n.mode ≡ mode → Grows nodes mid
    → ((r : Reading n cells) → scalars_in (evaluate n.mode r.values f) ≡ None) → HasNumber mid new (λ numbers. number_in (undefined_truth mode)) t → IsTermOf n cells nodes new (at_most p e f g) t
at_most_no_counts n cells nodes mid new p e f g mode t is grows none =
    untold_is n cells nodes mid new (at_most p e f g) mode t is grows
    (λ r. evaluate-at_most n.mode r.values p e f g
    ∙ ap (λ o. truth_in n.mode (on_three (scalars_in (evaluate n.mode r.values e)) (scalars_in (evaluate n.mode r.values g)) o (counts_hold CompareOp.AtMost))) (none r)
    ∙ ap (truth_in n.mode) (no_last CompareOp.AtMost (scalars_in (evaluate n.mode r.values e)) (scalars_in (evaluate n.mode r.values g))))

pub at_most_no_values : (n : Numbering) (cells : Env) (nodes mid new : List GroundNode) (p : Place) (e f g : ExprTree) (mode : Mode) (t : ℕ) → n.mode ≡ mode → Grows nodes mid
    → ((r : Reading n cells) → scalars_in (evaluate n.mode r.values g) ≡ None) → HasNumber mid new (λ numbers. number_in (undefined_truth mode)) t → IsTermOf n cells nodes new (at_most p e f g) t
at_most_no_values n cells nodes mid new p e f g mode t is grows none =
    untold_is n cells nodes mid new (at_most p e f g) mode t is grows
    (λ r. evaluate-at_most n.mode r.values p e f g
    ∙ ap (λ o. truth_in n.mode (on_three (scalars_in (evaluate n.mode r.values e)) o (scalars_in (evaluate n.mode r.values f)) (counts_hold CompareOp.AtMost))) (none r)
    ∙ ap (truth_in n.mode) (no_middle CompareOp.AtMost (scalars_in (evaluate n.mode r.values e)) (scalars_in (evaluate n.mode r.values f))))
