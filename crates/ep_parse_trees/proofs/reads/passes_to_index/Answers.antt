use Rattle.ep_parse_below.proofs.ListLoops.{by_comma, by_every, by_group, by_none, stays_so}
use Rattle.ep_parse_trees.proofs.reads.passes_to_index.Goals as goal

pub returns-then-passes : goal.returns-then-passes
returns-then-passes c = record { went = by_comma _ _ _ c.if-passes.ensures.passed; stays = λ e. absurd cc }

pub returns-then-has_every : goal.returns-then-has_every
returns-then-has_every c =
    record {
      went = by_every _ _ _ c.if-has_every.true c.if-passes.ensures.passed;
      stays = λ e. stays_so _ _ c.if-passes.ensures.passed;
    }

pub returns-then-not-group_follows : goal.returns-then-not-group_follows
returns-then-not-group_follows c =
    record {
      went = by_none _ _ _ c.if-has_every.false c.if-passes.ensures.passed c.if-not-group_follows.ensures.follows;
      stays = λ e. stays_so _ _ c.if-passes.ensures.passed;
    }

pub returns : goal.returns
returns c =
    record {
      went = by_group _ _ _ _ _ c.if-has_every.false c.if-passes.ensures.passed c.if-not-group_follows.ensures.follows c.pass.ensures.passed c.pass-2.ensures.passed;
      stays = λ e. absurd cc;
    }
