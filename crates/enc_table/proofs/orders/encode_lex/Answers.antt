use Rattle.std.proofs.Common.{true, false}
use Rattle.std.proofs.lemmas.Result.{on_ok_weaker}
use Rattle.ep_base.specs.Numbers.{lex_holds}
use Rattle.ep_flat.specs.Cons.{numbers_of_vars}
use Rattle.enc_table.proofs.Links.{at_least_is, at_most_is, greater_is, less_is}
use Rattle.enc_table.proofs.RowLemmas.{said_like}
use Rattle.enc_table.specs.Orders.{is_before}
use Rattle.enc_table.proofs.orders.encode_lex.Goals as goal

pub returns-in-Less : goal.returns-in-Less
returns-in-Less c =
    on_ok_weaker c.encode_before.result
    (said_like c.args.layout.now c.args.f.now c.encode_before.new.layout c.encode_before.new.f c.args.truth (λ values. is_before true (numbers_of_vars values c.args.xs.now) (numbers_of_vars values c.args.ys.now)) (λ values. lex_holds c.args.op (numbers_of_vars values c.args.xs.now) (numbers_of_vars values c.args.ys.now)) c.requires.ready.is_layout
    (λ values. less_is c.args.op (numbers_of_vars values c.args.xs.now) (numbers_of_vars values c.args.ys.now) c.in-Less.is))
    c.encode_before.ensures

pub returns-in-AtMost : goal.returns-in-AtMost
returns-in-AtMost c =
    on_ok_weaker c.encode_before-in-AtMost.result
    (said_like c.args.layout.now c.args.f.now c.encode_before-in-AtMost.new.layout c.encode_before-in-AtMost.new.f c.args.truth (λ values. is_before false (numbers_of_vars values c.args.xs.now) (numbers_of_vars values c.args.ys.now)) (λ values. lex_holds c.args.op (numbers_of_vars values c.args.xs.now) (numbers_of_vars values c.args.ys.now)) c.requires.ready.is_layout
    (λ values. at_most_is c.args.op (numbers_of_vars values c.args.xs.now) (numbers_of_vars values c.args.ys.now) c.in-AtMost.is))
    c.encode_before-in-AtMost.ensures

pub returns-in-Greater : goal.returns-in-Greater
returns-in-Greater c =
    on_ok_weaker c.encode_before-in-Greater.result
    (said_like c.args.layout.now c.args.f.now c.encode_before-in-Greater.new.layout c.encode_before-in-Greater.new.f c.args.truth (λ values. is_before true (numbers_of_vars values c.args.ys.now) (numbers_of_vars values c.args.xs.now)) (λ values. lex_holds c.args.op (numbers_of_vars values c.args.xs.now) (numbers_of_vars values c.args.ys.now)) c.requires.ready.is_layout
    (λ values. greater_is c.args.op (numbers_of_vars values c.args.xs.now) (numbers_of_vars values c.args.ys.now) c.in-Greater.is))
    c.encode_before-in-Greater.ensures

pub returns-in-AtLeast : goal.returns-in-AtLeast
returns-in-AtLeast c =
    on_ok_weaker c.encode_before-in-AtLeast.result
    (said_like c.args.layout.now c.args.f.now c.encode_before-in-AtLeast.new.layout c.encode_before-in-AtLeast.new.f c.args.truth (λ values. is_before false (numbers_of_vars values c.args.ys.now) (numbers_of_vars values c.args.xs.now)) (λ values. lex_holds c.args.op (numbers_of_vars values c.args.xs.now) (numbers_of_vars values c.args.ys.now)) c.requires.ready.is_layout
    (λ values. at_least_is c.args.op (numbers_of_vars values c.args.xs.now) (numbers_of_vars values c.args.ys.now) c.in-AtLeast.is))
    c.encode_before-in-AtLeast.ensures
