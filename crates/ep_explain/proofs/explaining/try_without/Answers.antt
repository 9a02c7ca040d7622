use Rattle.std.proofs.Common.{◌≡◌, ◌∙◌, ap, sym, not, subst}
use Rattle.std.specs.Prelude.{filter}
use Rattle.ep_instance_parts.specs.Instances.{instance_mode, plain_instance}
use Rattle.ep_restrict.specs.Restricted.{AreClauseNumbers, restricted}
use Rattle.ep_tree.specs.Views.{assigned}
use Rattle.ep_explain.specs.Explained.{HasNoSolution, IsWrittenSolution}
use Rattle.ep_explain.specs.Narrowing.{is_in_block, left_numbers}
use Rattle.ep_explain.proofs.Asking.{empty_none, empty_unspent, found_shown, found_unspent, spent_at, spent_spent}
use Rattle.ep_explain.proofs.Leaving.{fits_found, numbers_filtered, seen_found}
use Rattle.ep_explain.proofs.explaining.try_without.Goals as goal

pub attempt_at-requires : goal.attempt_at-requires
attempt_at-requires g c =
    let i = plain_instance c.args.instance.now in
    let mode = instance_mode c.args.instance.now in
    let others : c.deref-2.result.now ≡ filter (λ n. not (is_in_block c.args.block.now n)) (left_numbers c.args.narrowed.left.items) =
    c.deref-2.ensures.value ∙ c.in_ok-inside.ensures.outside ∙ ap (λ ls. filter (λ n. not (is_in_block c.args.block.now n)) (left_numbers ls)) c.deref.ensures.value in
    record {
      closed = c.requires.closed;
      within = c.requires.within;
      values = c.requires.values;
      numbers = subst (AreClauseNumbers i) (sym others)
          (numbers_filtered i (λ n. not (is_in_block c.args.block.now n)) (left_numbers c.args.narrowed.left.items) c.requires.narrowed.left.numbers);
    }

pub violated_by-requires : goal.violated_by-requires
violated_by-requires g c =
    let i = plain_instance c.args.instance.now in
    let mode = instance_mode c.args.instance.now in
    let own : c.deref-in-Found.result.now ≡ filter (is_in_block c.args.block.now) (left_numbers c.args.narrowed.left.items) =
    c.deref-in-Found.ensures.value ∙ c.in_ok-inside.ensures.inside ∙ ap (λ ls. filter (is_in_block c.args.block.now) (left_numbers ls)) c.deref.ensures.value in
    let shown : IsWrittenSolution mode (restricted i c.deref-2.result.now) (assigned c.in-Found.assignment) =
    found_shown mode (restricted i c.deref-2.result.now) _ _ _ _ c.in-Found.is c.in_ok-tried.ensures.right in
    record {
      closed = c.requires.closed;
      within = c.requires.within;
      numbers = subst (AreClauseNumbers i) (sym own) (numbers_filtered i (is_in_block c.args.block.now) (left_numbers c.args.narrowed.left.items) c.requires.narrowed.left.numbers);
      fits = fits_found mode i c.deref-2.result.now (assigned c.in-Found.assignment) shown;
    }

pub returns-in-Found : goal.returns-in-Found
returns-in-Found g c =
    let i = plain_instance c.args.instance.now in
    let mode = instance_mode c.args.instance.now in
    let others : c.deref-2.result.now ≡ filter (λ n. not (is_in_block c.args.block.now n)) (left_numbers c.args.narrowed.left.items) =
    c.deref-2.ensures.value ∙ c.in_ok-inside.ensures.outside ∙ ap (λ ls. filter (λ n. not (is_in_block c.args.block.now n)) (left_numbers ls)) c.deref.ensures.value in
    let own : c.deref-in-Found.result.now ≡ filter (is_in_block c.args.block.now) (left_numbers c.args.narrowed.left.items) =
    c.deref-in-Found.ensures.value ∙ c.in_ok-inside.ensures.inside ∙ ap (λ ls. filter (is_in_block c.args.block.now) (left_numbers ls)) c.deref.ensures.value in
    let shown : IsWrittenSolution mode (restricted i c.deref-2.result.now) (assigned c.in-Found.assignment) =
    found_shown mode (restricted i c.deref-2.result.now) _ _ _ _ c.in-Found.is c.in_ok-tried.ensures.right in
    let are : AreClauseNumbers i c.deref-2.result.now = subst (AreClauseNumbers i) (sym others)
    (numbers_filtered i (λ n. not (is_in_block c.args.block.now n)) (left_numbers c.args.narrowed.left.items) c.requires.narrowed.left.numbers) in
    record {
      narrowed = c.in_ok-after-in-Found.ensures.narrowed mode i (c.in_ok-more-in-Found.ensures mode i c.requires.narrowed
          (seen_found mode i (is_in_block c.args.block.now) c.deref-in-Found.result.now c.deref-2.result.now (left_numbers c.args.narrowed.left.items)
          (record { assignment = c.in-Found.assignment; violated = c.in_ok-violated-in-Found.violated }) own others shown c.in_ok-violated-in-Found.ensures));
      right = tt;
      spent = found_unspent _ _ _ c.in_ok-tried.ensures.spent c.in-Found.is;
      shown = (c.deref-2.result.now, are, c.in_ok-tried.ensures.shown);
      budget = c.in_ok-tried.ensures.budget;
      sound = c.in_ok-tried.ensures.sound;
    }

pub returns-in-Empty : goal.returns-in-Empty
returns-in-Empty g c =
    let i = plain_instance c.args.instance.now in
    let mode = instance_mode c.args.instance.now in
    let others : c.deref-2.result.now ≡ filter (λ n. not (is_in_block c.args.block.now n)) (left_numbers c.args.narrowed.left.items) =
    c.deref-2.ensures.value ∙ c.in_ok-inside.ensures.outside ∙ ap (λ ls. filter (λ n. not (is_in_block c.args.block.now n)) (left_numbers ls)) c.deref.ensures.value in
    let none : HasNoSolution mode (restricted i c.deref-2.result.now) = empty_none mode (restricted i c.deref-2.result.now) _ _ _ c.in-Empty.is c.in_ok-tried.ensures.right in
    let are : AreClauseNumbers i c.deref-2.result.now = subst (AreClauseNumbers i) (sym others)
    (numbers_filtered i (λ n. not (is_in_block c.args.block.now n)) (left_numbers c.args.narrowed.left.items) c.requires.narrowed.left.numbers) in
    record {
      narrowed = c.in_ok-after-in-Empty.ensures.narrowed mode i (c.in_ok-fewer-in-Empty.ensures mode i c.requires.narrowed
          (subst (λ ns. HasNoSolution mode (restricted i ns)) others none));
      right = tt;
      spent = empty_unspent _ _ c.in_ok-tried.ensures.spent c.in-Empty.is;
      shown = (c.deref-2.result.now, are, c.in_ok-tried.ensures.shown);
      budget = c.in_ok-tried.ensures.budget;
      sound = c.in_ok-tried.ensures.sound;
    }

pub returns : goal.returns
returns g c =
    let i = plain_instance c.args.instance.now in
    let mode = instance_mode c.args.instance.now in
    let others : c.deref-2.result.now ≡ filter (λ n. not (is_in_block c.args.block.now n)) (left_numbers c.args.narrowed.left.items) =
    c.deref-2.ensures.value ∙ c.in_ok-inside.ensures.outside ∙ ap (λ ls. filter (λ n. not (is_in_block c.args.block.now n)) (left_numbers ls)) c.deref.ensures.value in
    let are : AreClauseNumbers i c.deref-2.result.now = subst (AreClauseNumbers i) (sym others)
    (numbers_filtered i (λ n. not (is_in_block c.args.block.now n)) (left_numbers c.args.narrowed.left.items) c.requires.narrowed.left.numbers) in
    record {
      narrowed = c.requires.narrowed;
      right = spent_at mode i c.deref-2.result.now c.in_ok-inside.outside.items _ _ _ c.deref-2.ensures.value are c.in-Spent.is c.in_ok-tried.ensures.right;
      spent = spent_spent _ _ c.in_ok-tried.ensures.spent c.in-Spent.is;
      shown = (c.deref-2.result.now, are, c.in_ok-tried.ensures.shown);
      budget = c.in_ok-tried.ensures.budget;
      sound = c.in_ok-tried.ensures.sound;
    }
