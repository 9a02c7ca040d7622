use Rattle.std.proofs.Common.{◌∙◌, ◌<◌, ◌++◌, ap, arith, length, map, option_to_list, subst, sym, IsTrue}
use Rattle.std.specs.List.{All}
use Rattle.std.proofs.lemmas.Int.{ints}
use Rattle.std.proofs.lemmas.Result.{on_ok_weaker}
use Rattle.enc_all.proofs.families.encode_con.Goals as goal
use Rattle.enc_atoms.specs.Atoms.{Adds}
use Rattle.ep_flat.specs.Cons.{all_of, clause, con_holds, con_variables, family_of, is_as_said, kind_holds, kind_variables, linear}
use Rattle.ep_flat.specs.FlatViews.{plain_kind}

pub encode_clause-requires-clause-names : goal.encode_clause-requires-clause-names
unfolding con_variables kind_variables
encode_clause-requires-clause-names c =
    subst (λ ps. All (λ x. x < length c.args.layout.now) (option_to_list c.args.con.now.truth ++ map (λ p. p.1) ps)) (sym c.deref.ensures.value)
    (subst (λ k. All (λ x. x < length c.args.layout.now) (option_to_list c.args.con.now.truth ++ kind_variables (plain_kind k))) c.in-Clause.is c.requires.names)

pub encode_all-requires-clause-names : goal.encode_all-requires-clause-names
unfolding con_variables kind_variables
encode_all-requires-clause-names c =
    subst (λ xs. All (λ x. x < length c.args.layout.now) (option_to_list c.args.con.now.truth ++ xs)) (sym c.deref-in-All.ensures.value)
    (subst (λ k. All (λ x. x < length c.args.layout.now) (option_to_list c.args.con.now.truth ++ kind_variables (plain_kind k))) c.in-All.is c.requires.names)

pub encode_same-requires-clause-names : goal.encode_same-requires-clause-names
unfolding con_variables kind_variables
encode_same-requires-clause-names c =
    subst (λ k. All (λ x. x < length c.args.layout.now) (option_to_list c.args.con.now.truth ++ kind_variables (plain_kind k))) c.in-Same.is c.requires.names

pub returns-in-Clause : goal.returns-in-Clause
unfolding con_holds
returns-in-Clause c =
    on_ok_weaker c.encode_clause.result
    (λ h. subst (λ k. Adds c.args.layout.now c.args.f.now c.args.layout.now c.encode_clause.new.f (λ values. IsTrue (is_as_said values c.args.con.now.truth (kind_holds values k))))
    (ap clause c.deref.ensures.value ∙ sym (ap plain_kind c.in-Clause.is)) h) c.encode_clause.ensures

pub returns-in-All : goal.returns-in-All
unfolding con_holds
returns-in-All c =
    on_ok_weaker c.encode_all.result
    (λ h. subst (λ k. Adds c.args.layout.now c.args.f.now c.args.layout.now c.encode_all.new.f (λ values. IsTrue (is_as_said values c.args.con.now.truth (kind_holds values k))))
    (ap all_of c.deref-in-All.ensures.value ∙ sym (ap plain_kind c.in-All.is)) h) c.encode_all.ensures

pub returns-in-Same : goal.returns-in-Same
unfolding con_holds
returns-in-Same c =
    on_ok_weaker c.encode_same.result
    (λ h. subst (λ k. Adds c.args.layout.now c.args.f.now c.args.layout.now c.encode_same.new.f (λ values. IsTrue (is_as_said values c.args.con.now.truth (kind_holds values k))))
    (sym (ap plain_kind c.in-Same.is)) h) c.encode_same.ensures

pub encode_linear-requires-clause-linear : goal.encode_linear-requires-clause-linear
encode_linear-requires-clause-linear c =
    ap plain_kind c.in-Linear.is ∙ ap (λ ps. linear ps c.in-Linear.op c.in-Linear.number) (sym c.deref-in-Linear.ensures.value) ∙ ap (linear c.deref-in-Linear.result.now c.in-Linear.op) (omega (arith, ints))

pub encode_con-requires-clause-family : goal.encode_con-requires-clause-family
unfolding family_of
encode_con-requires-clause-family c = ap (λ k. family_of (plain_kind k)) c.in-Member.is

pub encode_con-requires-in-Product-clause-family : goal.encode_con-requires-in-Product-clause-family
unfolding family_of
encode_con-requires-in-Product-clause-family c = ap (λ k. family_of (plain_kind k)) c.in-Product.is

pub encode_con-requires-in-Quotient-clause-family : goal.encode_con-requires-in-Quotient-clause-family
unfolding family_of
encode_con-requires-in-Quotient-clause-family c = ap (λ k. family_of (plain_kind k)) c.in-Quotient.is

pub encode_con-requires-in-Remainder-clause-family : goal.encode_con-requires-in-Remainder-clause-family
unfolding family_of
encode_con-requires-in-Remainder-clause-family c = ap (λ k. family_of (plain_kind k)) c.in-Remainder.is

pub encode_con-requires-in-Power-clause-family : goal.encode_con-requires-in-Power-clause-family
unfolding family_of
encode_con-requires-in-Power-clause-family c = ap (λ k. family_of (plain_kind k)) c.in-Power.is

pub encode_con-requires-in-Absolute-clause-family : goal.encode_con-requires-in-Absolute-clause-family
unfolding family_of
encode_con-requires-in-Absolute-clause-family c = ap (λ k. family_of (plain_kind k)) c.in-Absolute.is

pub encode_con-requires-in-Least-clause-family : goal.encode_con-requires-in-Least-clause-family
unfolding family_of
encode_con-requires-in-Least-clause-family c = ap (λ k. family_of (plain_kind k)) c.in-Least.is

pub encode_con-requires-in-Greatest-clause-family : goal.encode_con-requires-in-Greatest-clause-family
unfolding family_of
encode_con-requires-in-Greatest-clause-family c = ap (λ k. family_of (plain_kind k)) c.in-Greatest.is

pub encode_con-requires-in-Element-clause-family : goal.encode_con-requires-in-Element-clause-family
unfolding family_of
encode_con-requires-in-Element-clause-family c = ap (λ k. family_of (plain_kind k)) c.in-Element.is

pub encode_con-requires-in-AllDiff-clause-family : goal.encode_con-requires-in-AllDiff-clause-family
unfolding family_of
encode_con-requires-in-AllDiff-clause-family c = ap (λ k. family_of (plain_kind k)) c.in-AllDiff.is

pub encode_con-requires-in-Gcc-clause-family : goal.encode_con-requires-in-Gcc-clause-family
unfolding family_of
encode_con-requires-in-Gcc-clause-family c = ap (λ k. family_of (plain_kind k)) c.in-Gcc.is

pub encode_con-requires-in-AtLeast-clause-family : goal.encode_con-requires-in-AtLeast-clause-family
unfolding family_of
encode_con-requires-in-AtLeast-clause-family c = ap (λ k. family_of (plain_kind k)) c.in-AtLeast.is

pub encode_con-requires-in-AtMost-clause-family : goal.encode_con-requires-in-AtMost-clause-family
unfolding family_of
encode_con-requires-in-AtMost-clause-family c = ap (λ k. family_of (plain_kind k)) c.in-AtMost.is

pub encode_con-requires-in-Table-clause-family : goal.encode_con-requires-in-Table-clause-family
unfolding family_of
encode_con-requires-in-Table-clause-family c = ap (λ k. family_of (plain_kind k)) c.in-Table.is

pub encode_con-requires-in-Lex-clause-family : goal.encode_con-requires-in-Lex-clause-family
unfolding family_of
encode_con-requires-in-Lex-clause-family c = ap (λ k. family_of (plain_kind k)) c.in-Lex.is
