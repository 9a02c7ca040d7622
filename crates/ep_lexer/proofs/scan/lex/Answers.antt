use Rattle.std.proofs.Common.{◌+◌, ◌∙◌, sym, ap, subst, arith, is_ok, drop, false}
use Rattle.std.proofs.ResultArms.{chosen}
use Rattle.std.proofs.lemmas.Result.{err_from_is_err_and}
use Rattle.ep_base.specs.Tokens.{gap_len}
use Rattle.ep_lexer.specs.declared.cursor.Cursor.{Cursor}
use Rattle.ep_base.proofs.TokenLaws.{token_is, tokens_lie_in_order}
use Rattle.ep_lexer.specs.Cursor.{IsAt}
use Rattle.ep_lexer.proofs.PlaceSteps.{place_start, place_small}
use Rattle.ep_lexer.proofs.Run.{with_front, tokens_at, run_starts, run_goes_on, run_ends, fault_of_run}
use Rattle.ep_lexer.proofs.TokenEnds.{at_token_end}
use Rattle.ep_lexer.proofs.scan.lex.Goals as goal

pub skip_gap-cursor-requires : goal.skip_gap-cursor-requires
skip_gap-cursor-requires c = subst (IsAt c.args.text.now) (sym c.start.ensures) (record { within = omega arith; place = sym (place_start c.args.text.now) })

pub loop-cursor-init : goal.loop-cursor-init
loop-cursor-init c =
    let text = c.args.text.now in
    record {
      at = c.skip_gap-cursor.ensures.place;
      told = ap (λ front. with_front front (tokens_at text c.skip_gap-cursor.result.offset)) c.new-tokens.ensures.items
          ∙ run_starts text c.skip_gap-cursor.result.offset (c.skip_gap-cursor.ensures.offset ∙ ap (λ (s : Cursor). s.offset + gap_len false (drop s.offset text)) c.start.ensures);
    }

pub returns-in_err-token-clause-fault : goal.returns-in_err-token-clause-fault
returns-in_err-token-clause-fault c =
    let p = err_from_is_err_and c.from_residual.result c.from_residual.ensures.1 in
    rw (p.1, p.2) (fault_of_run c.args.text.now c.loop-cursor.cursor.offset c.loop-cursor.tokens.items _ _ c.loop-cursor.invariant.told c.in_err-token.ensures.fault)

pub overflow_sub-token : goal.overflow_sub-token
overflow_sub-token c = let is = token_is c.args.text.now _ _ c.in_ok-token.ensures.found in omega (arith, is.some)

pub after-requires-clause-fits : goal.after-requires-clause-fits
after-requires-clause-fits c = let is = token_is c.args.text.now _ _ c.in_ok-token.ensures.found in omega (arith, is.from, is.to, is.within)

pub after-requires-clause-column : goal.after-requires-clause-column
after-requires-clause-column c =
    let small = place_small c.args.text.now c.loop-cursor.cursor.offset c.loop-cursor.invariant.at.within in
    let same = ap (λ p. p.column) c.loop-cursor.invariant.at.place in
    omega (arith, small.1)

pub skip_gap-cursor-requires-in-loop-cursor : goal.skip_gap-cursor-requires-in-loop-cursor
skip_gap-cursor-requires-in-loop-cursor c = (at_token_end c.args.text.now c.loop-cursor.cursor c.after.result c.in_ok-token.token c.loop-cursor.invariant.at c.in_ok-token.ensures.found c.after.ensures).0

pub loop-cursor-smaller : goal.loop-cursor-smaller
loop-cursor-smaller c =
    let ends = at_token_end c.args.text.now c.loop-cursor.cursor c.after.result c.in_ok-token.token c.loop-cursor.invariant.at c.in_ok-token.ensures.found c.after.ensures in
    let is = token_is c.args.text.now _ _ c.in_ok-token.ensures.found in
    omega (arith, ends.1, is.from, is.some, c.skip_gap-cursor-in-loop-cursor.ensures.offset)

pub loop-cursor-preserved : goal.loop-cursor-preserved
loop-cursor-preserved c =
    let text = c.args.text.now in
    let pushed = chosen _ _ _ _ c.push.ensures.items (ap is_ok c.in_ok-push.was) in
    let next = c.skip_gap-cursor-in-loop-cursor.result.offset in
    let ends = (at_token_end text c.loop-cursor.cursor c.after.result c.in_ok-token.token c.loop-cursor.invariant.at c.in_ok-token.ensures.found c.after.ensures).1 in
    record {
      at = c.skip_gap-cursor-in-loop-cursor.ensures.place;
      told = ap (λ front. with_front front (tokens_at text next)) pushed
          ∙ run_goes_on text c.loop-cursor.cursor.offset next c.loop-cursor.tokens.items c.in_ok-token.token _ c.in_ok-token.ensures.found (c.skip_gap-cursor-in-loop-cursor.ensures.offset ∙ ap (λ i. i + gap_len false (drop i text)) ends) c.loop-cursor.invariant.told;
    }

pub returns-clause-tokens : goal.returns-clause-tokens
returns-clause-tokens c = run_ends c.args.text.now c.loop-cursor.cursor.offset c.loop-cursor.tokens.items _ c.loop-cursor-test.false c.loop-cursor.invariant.told

pub returns-clause-order : goal.returns-clause-order
returns-clause-order c =
    tokens_lie_in_order c.args.text.now c.loop-cursor.tokens.items (run_ends c.args.text.now c.loop-cursor.cursor.offset c.loop-cursor.tokens.items _ c.loop-cursor-test.false c.loop-cursor.invariant.told)
