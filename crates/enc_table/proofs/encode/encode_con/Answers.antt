use Rattle.std.proofs.Common.{◌≡◌, ℕ, ◌∙◌, ◌++◌, ℤ, List, false, unwrap_or, subst, sym, ap}
use Rattle.std.proofs.lemmas.Result.{on_ok_weaker}
use Rattle.ep_base.specs.Numbers.{is_row_of, lex_holds}
use Rattle.ep_flat.specs.Cons.{kind_holds, kind_variables, numbers_of_vars}
use Rattle.ep_flat.specs.FlatViews.{plain_con, plain_kind}
use Rattle.enc_atoms.proofs.Naming.{keeps_con, kind_named, truth_named}
use Rattle.enc_atoms.specs.Steps.{AreOf}
use Rattle.enc_table.proofs.Links.{both_of}
use Rattle.enc_table.proofs.OtherKinds.{other_kind}
use Rattle.enc_table.proofs.encode.encode_con.Goals as goal

pub encode_table-requires-clause-truth : goal.encode_table-requires-clause-truth
encode_table-requires-clause-truth c = truth_named c.args.layout.now c.args.con.now.truth (plain_kind c.args.con.now.kind) c.requires.can_take.names

pub encode_table-requires-clause-within : goal.encode_table-requires-clause-within
unfolding kind_variables
encode_table-requires-clause-within c =
    subst (λ (xs : List ℕ). AreOf c.args.layout.now xs) (ap kind_variables (ap plain_kind c.in-Table.is) ∙ sym c.deref.ensures.value) (kind_named c.args.layout.now c.args.con.now.truth (plain_kind c.args.con.now.kind) c.requires.can_take.names)

pub returns-in-Table : goal.returns-in-Table
unfolding kind_holds
returns-in-Table c =
    let vars : List ℕ = c.deref.result.now in
    let rows : List (List ℤ) = c.deref-in-Table.result.now in
    let says : (values : List ℤ) → kind_holds values (plain_kind c.args.con.now.kind) ≡ unwrap_or (is_row_of rows (numbers_of_vars values vars)) false =
    λ values. ap (kind_holds values) (ap plain_kind c.in-Table.is) ∙ ap (λ xs. unwrap_or (is_row_of c.in-Table.rows.items (numbers_of_vars values xs)) false) (sym c.deref.ensures.value) ∙ ap (λ rs. unwrap_or (is_row_of rs (numbers_of_vars values vars)) false) (sym c.deref-in-Table.ensures.value) in
    record {
      goes_on = on_ok_weaker c.encode_table.result (λ adds. adds.goes_on) c.encode_table.ensures;
      keeps = on_ok_weaker c.encode_table.result
          (keeps_con c.args.layout.now c.args.f.now c.encode_table.new.layout c.encode_table.new.f (plain_con c.args.con.now) (λ values. unwrap_or (is_row_of rows (numbers_of_vars values vars)) false) says)
          c.encode_table.ensures;
    }

pub encode_lex-requires-clause-truth : goal.encode_lex-requires-clause-truth
encode_lex-requires-clause-truth c = truth_named c.args.layout.now c.args.con.now.truth (plain_kind c.args.con.now.kind) c.requires.can_take.names

pub encode_lex-requires-clause-xs : goal.encode_lex-requires-clause-xs
unfolding kind_variables
encode_lex-requires-clause-xs c =
    let all : AreOf c.args.layout.now (c.in-Lex.xs.items ++ c.in-Lex.ys.items) =
    subst (λ (xs : List ℕ). AreOf c.args.layout.now xs) (ap kind_variables (ap plain_kind c.in-Lex.is)) (kind_named c.args.layout.now c.args.con.now.truth (plain_kind c.args.con.now.kind) c.requires.can_take.names) in
    subst (λ (xs : List ℕ). AreOf c.args.layout.now xs) (sym c.deref-in-Lex.ensures.value) (both_of c.args.layout.now c.in-Lex.xs.items c.in-Lex.ys.items all).0

pub encode_lex-requires-clause-ys : goal.encode_lex-requires-clause-ys
unfolding kind_variables
encode_lex-requires-clause-ys c =
    let all : AreOf c.args.layout.now (c.in-Lex.xs.items ++ c.in-Lex.ys.items) =
    subst (λ (xs : List ℕ). AreOf c.args.layout.now xs) (ap kind_variables (ap plain_kind c.in-Lex.is)) (kind_named c.args.layout.now c.args.con.now.truth (plain_kind c.args.con.now.kind) c.requires.can_take.names) in
    subst (λ (xs : List ℕ). AreOf c.args.layout.now xs) (sym c.deref-in-Lex-2.ensures.value) (both_of c.args.layout.now c.in-Lex.xs.items c.in-Lex.ys.items all).1

pub returns-in-Lex : goal.returns-in-Lex
unfolding kind_holds
returns-in-Lex c =
    let op = c.in-Lex.op in
    let xs : List ℕ = c.deref-in-Lex.result.now in
    let ys : List ℕ = c.deref-in-Lex-2.result.now in
    let says : (values : List ℤ) → kind_holds values (plain_kind c.args.con.now.kind) ≡ lex_holds op (numbers_of_vars values xs) (numbers_of_vars values ys) =
    λ values. ap (kind_holds values) (ap plain_kind c.in-Lex.is)
    ∙ ap (λ zs. lex_holds op (numbers_of_vars values zs) (numbers_of_vars values c.in-Lex.ys.items)) (sym c.deref-in-Lex.ensures.value)
    ∙ ap (λ zs. lex_holds op (numbers_of_vars values xs) (numbers_of_vars values zs)) (sym c.deref-in-Lex-2.ensures.value) in
    record {
      goes_on = on_ok_weaker c.encode_lex.result (λ adds. adds.goes_on) c.encode_lex.ensures;
      keeps = on_ok_weaker c.encode_lex.result
          (keeps_con c.args.layout.now c.args.f.now c.encode_lex.new.layout c.encode_lex.new.f (plain_con c.args.con.now) (λ values. lex_holds op (numbers_of_vars values xs) (numbers_of_vars values ys)) says)
          c.encode_lex.ensures;
    }

pub unreachable-requires : goal.unreachable-requires
unreachable-requires c = other_kind c.args.con.now.kind c.requires.family c.in_default.not-Table c.in_default.not-Lex
