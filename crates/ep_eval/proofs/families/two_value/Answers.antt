use Rattle.ep_eval.proofs.Words.{sym, subst, seen_held, IsWorth, own_number, two_value, Seen}
use Rattle.ep_eval.proofs.WorthSteps.{worth_gives, worth_seen}
use Rattle.ep_eval.proofs.families.two_value.Goals as goal

pub returns-in-Compare : goal.returns-in-Compare
unfolding two_value
returns-in-Compare c =
    subst (λ o. IsWorth (own_number (two_value c.args.mode o (seen_held c.args.first.now) (seen_held c.args.second.now))) (two_value c.args.mode o (seen_held c.args.first.now) (seen_held c.args.second.now)) (Seen c.comparison.result)) (sym c.in-Compare.is) (worth_seen _ c.comparison.result c.comparison.ensures)

pub returns-in_ok-worth-in-Binary : goal.returns-in_ok-worth-in-Binary
unfolding two_value
returns-in_ok-worth-in-Binary c =
    subst (λ o. IsWorth (own_number (two_value c.args.mode o (seen_held c.args.first.now) (seen_held c.args.second.now))) (two_value c.args.mode o (seen_held c.args.first.now) (seen_held c.args.second.now)) c.in_ok-worth-in-Binary.worth) (sym c.in-Binary.is)
    (worth_gives _ _ _ c.binary.ensures c.in_ok-worth-in-Binary.ensures)

pub returns-in_ok-worth-in-Lex : goal.returns-in_ok-worth-in-Lex
unfolding two_value
returns-in_ok-worth-in-Lex c =
    subst (λ o. IsWorth (own_number (two_value c.args.mode o (seen_held c.args.first.now) (seen_held c.args.second.now))) (two_value c.args.mode o (seen_held c.args.first.now) (seen_held c.args.second.now)) c.in_ok-worth-in-Lex.worth) (sym c.in-Lex.is)
    (worth_gives _ _ _ c.lex_comparison.ensures c.in_ok-worth-in-Lex.ensures)

pub returns-in_ok-worth-in-InSet : goal.returns-in_ok-worth-in-InSet
unfolding two_value
returns-in_ok-worth-in-InSet c =
    subst (λ o. IsWorth (own_number (two_value c.args.mode o (seen_held c.args.first.now) (seen_held c.args.second.now))) (two_value c.args.mode o (seen_held c.args.first.now) (seen_held c.args.second.now)) c.in_ok-worth-in-InSet.worth) (sym c.in-InSet.is)
    (worth_gives _ _ _ c.membership.ensures c.in_ok-worth-in-InSet.ensures)

pub returns-in_ok-worth-in-Table : goal.returns-in_ok-worth-in-Table
unfolding two_value
returns-in_ok-worth-in-Table c =
    subst (λ o. IsWorth (own_number (two_value c.args.mode o (seen_held c.args.first.now) (seen_held c.args.second.now))) (two_value c.args.mode o (seen_held c.args.first.now) (seen_held c.args.second.now)) c.in_ok-worth-in-Table.worth) (sym c.in-Table.is)
    (worth_gives _ _ _ c.look_up_row.ensures c.in_ok-worth-in-Table.ensures)
