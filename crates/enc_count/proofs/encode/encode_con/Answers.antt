use Rattle.std.proofs.Common.{◌≡◌, ℕ, ◌∙◌, ◌++◌, ℤ, List, false, unwrap_or, subst, sym, ap}
use Rattle.std.proofs.lemmas.Result.{on_ok_weaker}
use Rattle.ep_base.specs.Numbers.{are_different, counts_hold}
use Rattle.ep_base.specs.declared.operators.CompareOp.TheVariants as Op
use Rattle.ep_flat.specs.Cons.{kind_holds, kind_variables, numbers_of_vars}
use Rattle.ep_flat.specs.FlatViews.{plain_con, plain_kind}
use Rattle.enc_atoms.proofs.Naming.{keeps_con, kind_named, truth_named}
use Rattle.enc_atoms.specs.Steps.{AreOf}
use Rattle.enc_count.proofs.Counting.{both_fit, kind_fit}
use Rattle.enc_count.specs.Counts.{AreFit}
use Rattle.enc_count.proofs.OtherKinds.{other_kind}
use Rattle.enc_count.proofs.encode.encode_con.Goals as goal

pub encode_different-requires-clause-truth : goal.encode_different-requires-clause-truth
encode_different-requires-clause-truth c = truth_named c.args.layout.now c.args.con.now.truth (plain_kind c.args.con.now.kind) c.requires.can_take.names

pub encode_different-requires-clause-within : goal.encode_different-requires-clause-within
unfolding kind_variables
encode_different-requires-clause-within c =
    subst (λ (xs : List ℕ). AreOf c.args.layout.now xs) (ap kind_variables (ap plain_kind c.in-AllDiff.is) ∙ sym c.deref.ensures.value) (kind_named c.args.layout.now c.args.con.now.truth (plain_kind c.args.con.now.kind) c.requires.can_take.names)

pub returns-in-AllDiff : goal.returns-in-AllDiff
unfolding kind_holds
returns-in-AllDiff c =
    let vars : List ℕ = c.deref.result.now in
    let says : (values : List ℤ) → kind_holds values (plain_kind c.args.con.now.kind) ≡ are_different (numbers_of_vars values vars) =
    λ values. ap (kind_holds values) (ap plain_kind c.in-AllDiff.is) ∙ ap (λ xs. are_different (numbers_of_vars values xs)) (sym c.deref.ensures.value) in
    record {
      goes_on = on_ok_weaker c.encode_different.result (λ adds. adds.goes_on) c.encode_different.ensures;
      keeps = on_ok_weaker c.encode_different.result
          (keeps_con c.args.layout.now c.args.f.now c.encode_different.new.layout c.encode_different.new.f (plain_con c.args.con.now) (λ values. are_different (numbers_of_vars values vars)) says)
          c.encode_different.ensures;
    }

pub encode_counts-requires-clause-truth : goal.encode_counts-requires-clause-truth
encode_counts-requires-clause-truth c = truth_named c.args.layout.now c.args.con.now.truth (plain_kind c.args.con.now.kind) c.requires.can_take.names

pub encode_counts-requires-clause-vars : goal.encode_counts-requires-clause-vars
unfolding kind_variables
encode_counts-requires-clause-vars c =
    let fit : AreFit c.args.layout.now (c.in-Gcc.vars.items ++ c.in-Gcc.counts.items) =
    subst (λ (xs : List ℕ). AreFit c.args.layout.now xs) (ap kind_variables (ap plain_kind c.in-Gcc.is)) (kind_fit c.args.layout.now c.args.f.now (plain_con c.args.con.now) c.requires.can_take) in
    subst (λ (xs : List ℕ). AreOf c.args.layout.now xs) (sym c.deref-in-Gcc.ensures.value) (both_fit c.args.layout.now c.in-Gcc.vars.items c.in-Gcc.counts.items fit).0.there

pub encode_counts-requires-clause-counts : goal.encode_counts-requires-clause-counts
unfolding kind_variables
encode_counts-requires-clause-counts c =
    let fit : AreFit c.args.layout.now (c.in-Gcc.vars.items ++ c.in-Gcc.counts.items) =
    subst (λ (xs : List ℕ). AreFit c.args.layout.now xs) (ap kind_variables (ap plain_kind c.in-Gcc.is)) (kind_fit c.args.layout.now c.args.f.now (plain_con c.args.con.now) c.requires.can_take) in
    subst (λ (xs : List ℕ). AreFit c.args.layout.now xs) (sym c.deref-in-Gcc-3.ensures.value) (both_fit c.args.layout.now c.in-Gcc.vars.items c.in-Gcc.counts.items fit).1

pub returns-in-Gcc : goal.returns-in-Gcc
unfolding kind_holds
returns-in-Gcc c =
    let vars : List ℕ = c.deref-in-Gcc.result.now in
    let numbers : List ℤ = c.deref-in-Gcc-2.result.now in
    let counts : List ℕ = c.deref-in-Gcc-3.result.now in
    let says : (values : List ℤ) → kind_holds values (plain_kind c.args.con.now.kind) ≡ unwrap_or (counts_hold Op.Equal (numbers_of_vars values vars) numbers (numbers_of_vars values counts)) false =
    λ values. ap (kind_holds values) (ap plain_kind c.in-Gcc.is)
    ∙ ap (λ xs. unwrap_or (counts_hold Op.Equal (numbers_of_vars values xs) c.in-Gcc.numbers.items (numbers_of_vars values c.in-Gcc.counts.items)) false) (sym c.deref-in-Gcc.ensures.value)
    ∙ ap (λ ns. unwrap_or (counts_hold Op.Equal (numbers_of_vars values vars) ns (numbers_of_vars values c.in-Gcc.counts.items)) false) (sym c.deref-in-Gcc-2.ensures.value)
    ∙ ap (λ cs. unwrap_or (counts_hold Op.Equal (numbers_of_vars values vars) numbers (numbers_of_vars values cs)) false) (sym c.deref-in-Gcc-3.ensures.value) in
    record {
      goes_on = on_ok_weaker c.encode_counts.result (λ adds. adds.goes_on) c.encode_counts.ensures;
      keeps = on_ok_weaker c.encode_counts.result
          (keeps_con c.args.layout.now c.args.f.now c.encode_counts.new.layout c.encode_counts.new.f (plain_con c.args.con.now) (λ values. unwrap_or (counts_hold Op.Equal (numbers_of_vars values vars) numbers (numbers_of_vars values counts)) false) says)
          c.encode_counts.ensures;
    }

pub encode_bounds-requires-clause-truth : goal.encode_bounds-requires-clause-truth
encode_bounds-requires-clause-truth c = truth_named c.args.layout.now c.args.con.now.truth (plain_kind c.args.con.now.kind) c.requires.can_take.names

pub encode_bounds-requires-clause-vars : goal.encode_bounds-requires-clause-vars
unfolding kind_variables
encode_bounds-requires-clause-vars c =
    subst (λ (xs : List ℕ). AreOf c.args.layout.now xs) (ap kind_variables (ap plain_kind c.in-AtLeast.is) ∙ sym c.deref-in-AtLeast.ensures.value) (kind_named c.args.layout.now c.args.con.now.truth (plain_kind c.args.con.now.kind) c.requires.can_take.names)

pub returns-in-AtLeast : goal.returns-in-AtLeast
unfolding kind_holds
returns-in-AtLeast c =
    let vars : List ℕ = c.deref-in-AtLeast.result.now in
    let numbers : List ℤ = c.deref-in-AtLeast-2.result.now in
    let counts : List ℤ = c.deref-in-AtLeast-3.result.now in
    let says : (values : List ℤ) → kind_holds values (plain_kind c.args.con.now.kind) ≡ unwrap_or (counts_hold Op.AtLeast (numbers_of_vars values vars) numbers counts) false =
    λ values. ap (kind_holds values) (ap plain_kind c.in-AtLeast.is)
    ∙ ap (λ xs. unwrap_or (counts_hold Op.AtLeast (numbers_of_vars values xs) c.in-AtLeast.numbers.items c.in-AtLeast.counts.items) false) (sym c.deref-in-AtLeast.ensures.value)
    ∙ ap (λ ns. unwrap_or (counts_hold Op.AtLeast (numbers_of_vars values vars) ns c.in-AtLeast.counts.items) false) (sym c.deref-in-AtLeast-2.ensures.value)
    ∙ ap (λ cs. unwrap_or (counts_hold Op.AtLeast (numbers_of_vars values vars) numbers cs) false) (sym c.deref-in-AtLeast-3.ensures.value) in
    record {
      goes_on = on_ok_weaker c.encode_bounds.result (λ adds. adds.goes_on) c.encode_bounds.ensures;
      keeps = on_ok_weaker c.encode_bounds.result
          (keeps_con c.args.layout.now c.args.f.now c.encode_bounds.new.layout c.encode_bounds.new.f (plain_con c.args.con.now) (λ values. unwrap_or (counts_hold Op.AtLeast (numbers_of_vars values vars) numbers counts) false) says)
          c.encode_bounds.ensures;
    }

pub encode_bounds-requires-in-AtMost-clause-truth : goal.encode_bounds-requires-in-AtMost-clause-truth
encode_bounds-requires-in-AtMost-clause-truth c = truth_named c.args.layout.now c.args.con.now.truth (plain_kind c.args.con.now.kind) c.requires.can_take.names

pub encode_bounds-requires-in-AtMost-clause-vars : goal.encode_bounds-requires-in-AtMost-clause-vars
unfolding kind_variables
encode_bounds-requires-in-AtMost-clause-vars c =
    subst (λ (xs : List ℕ). AreOf c.args.layout.now xs) (ap kind_variables (ap plain_kind c.in-AtMost.is) ∙ sym c.deref-in-AtMost.ensures.value) (kind_named c.args.layout.now c.args.con.now.truth (plain_kind c.args.con.now.kind) c.requires.can_take.names)

pub returns-in-AtMost : goal.returns-in-AtMost
unfolding kind_holds
returns-in-AtMost c =
    let vars : List ℕ = c.deref-in-AtMost.result.now in
    let numbers : List ℤ = c.deref-in-AtMost-2.result.now in
    let counts : List ℤ = c.deref-in-AtMost-3.result.now in
    let says : (values : List ℤ) → kind_holds values (plain_kind c.args.con.now.kind) ≡ unwrap_or (counts_hold Op.AtMost (numbers_of_vars values vars) numbers counts) false =
    λ values. ap (kind_holds values) (ap plain_kind c.in-AtMost.is)
    ∙ ap (λ xs. unwrap_or (counts_hold Op.AtMost (numbers_of_vars values xs) c.in-AtMost.numbers.items c.in-AtMost.counts.items) false) (sym c.deref-in-AtMost.ensures.value)
    ∙ ap (λ ns. unwrap_or (counts_hold Op.AtMost (numbers_of_vars values vars) ns c.in-AtMost.counts.items) false) (sym c.deref-in-AtMost-2.ensures.value)
    ∙ ap (λ cs. unwrap_or (counts_hold Op.AtMost (numbers_of_vars values vars) numbers cs) false) (sym c.deref-in-AtMost-3.ensures.value) in
    record {
      goes_on = on_ok_weaker c.encode_bounds-in-AtMost.result (λ adds. adds.goes_on) c.encode_bounds-in-AtMost.ensures;
      keeps = on_ok_weaker c.encode_bounds-in-AtMost.result
          (keeps_con c.args.layout.now c.args.f.now c.encode_bounds-in-AtMost.new.layout c.encode_bounds-in-AtMost.new.f (plain_con c.args.con.now) (λ values. unwrap_or (counts_hold Op.AtMost (numbers_of_vars values vars) numbers counts) false) says)
          c.encode_bounds-in-AtMost.ensures;
    }

pub unreachable-requires : goal.unreachable-requires
unreachable-requires c = other_kind c.args.con.now.kind c.requires.family c.in_default.not-AllDiff c.in_default.not-Gcc c.in_default.not-AtLeast c.in_default.not-AtMost
