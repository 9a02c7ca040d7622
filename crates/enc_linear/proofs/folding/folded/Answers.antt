use Rattle.std.proofs.Common.{List, subst}
use Rattle.std.specs.List.Sorted.{IsPermutation}
use Rattle.std.proofs.lemmas.List.Sorted.{All-permutation, IsPermutation-refl}
use Rattle.enc_linear.specs.Bounds.{HasBounds}
use Rattle.enc_linear.specs.Terms.{IsTermOf}
use Rattle.enc_linear.specs.declared.terms.Term.{Term}
use Rattle.enc_linear.proofs.Clipping.{bounds_permuted}
use Rattle.enc_linear.proofs.Folds.{gives_moved, gives_then}
use Rattle.enc_linear.proofs.folding.folded.Goals as goal

pub group-requires-clause-terms : goal.group-requires-clause-terms
group-requires-clause-terms c =
    All-permutation (IsTermOf c.args.layout.now c.args.f.now) c.args.terms.items c.in_ok-terms.terms.items (subst (λ (ts : List Term). IsPermutation ts c.in_ok-terms.terms.items) c.from_vec.ensures.items c.in_ok-terms.ensures) c.requires.terms

pub group-requires-clause-bounds : goal.group-requires-clause-bounds
group-requires-clause-bounds c =
    bounds_permuted c.in_ok-bounds.bounds c.args.terms.items c.in_ok-terms.terms.items (subst (λ (ts : List Term). IsPermutation ts c.in_ok-terms.terms.items) c.from_vec.ensures.items c.in_ok-terms.ensures)
    (subst (HasBounds c.in_ok-bounds.bounds) c.deref.ensures.value c.in_ok-bounds.ensures)

pub fold-requires-clause-terms : goal.fold-requires-clause-terms
fold-requires-clause-terms c = All-permutation (IsTermOf c.group.new.layout c.group.new.f) c.group.new.sum.terms.items c.in_ok-terms-2.terms.items c.in_ok-terms-2.ensures c.in_ok-group.ensures.gives_way.of_layout

pub fold-requires-clause-bounds : goal.fold-requires-clause-bounds
fold-requires-clause-bounds c = bounds_permuted c.group.new.sum.bounds c.group.new.sum.terms.items c.in_ok-terms-2.terms.items c.in_ok-terms-2.ensures c.in_ok-group.ensures.bounds

pub returns : goal.returns
returns c =
    let sorted = c.in_ok-terms.terms.items in
    let grouped = c.group.new.sum.terms.items in
    let again = c.in_ok-terms-2.terms.items in
    let ends = c.fold.new.sum.terms.items in
    let few = c.sort_by_key.new.self.items in
    let one = subst (λ (ts : List Term). IsPermutation ts sorted) c.from_vec.ensures.items c.in_ok-terms.ensures in
    let last = subst (λ (ts : List Term). IsPermutation ts few) c.into_vec-few.ensures.items c.in_ok-sort_by_key.ensures.permutation in
    gives_then c.args.c c.args.layout.now c.args.f.now c.args.terms.items c.group.new.layout c.group.new.f again c.fold.new.layout c.fold.new.f few
    (gives_moved c.args.c c.args.layout.now c.args.f.now sorted c.args.terms.items c.group.new.layout c.group.new.f grouped again c.requires.is_layout one c.in_ok-terms-2.ensures c.in_ok-group.ensures.gives_way)
    (gives_moved c.args.c c.group.new.layout c.group.new.f again again c.fold.new.layout c.fold.new.f ends few c.in_ok-group.ensures.gives_way.is_layout (IsPermutation-refl again) last c.in_ok-fold.ensures)
