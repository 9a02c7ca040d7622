use Rattle.std.proofs.Common.{true, false, IsTrue, [], ◌∷◌}
use Rattle.enc_atoms.proofs.Adding.{adds_both}
use Rattle.ep_base.specs.Numbers.{has_number}
use Rattle.ep_flat.specs.Cons.{is_as_said, number_at}
use Rattle.enc_linear.proofs.Saying.{said_always, said_by}
use Rattle.enc_linear.proofs.Turns.{relabelled, then_both}
use Rattle.enc_linear.specs.Guards.{IsMember, IsTruthValue, Unless}
use Rattle.enc_linear.proofs.member.add_member.Goals as goal

pub returns-in_default : goal.returns-in_default
returns-in_default c =
    relabelled c.add_membership.result c.args.layout.now c.args.f.now c.args.layout.now c.add_membership.new.f
    (Unless [] (IsMember c.args.var c.args.numbers.now true)) (λ values. IsTrue (is_as_said values c.args.truth (has_number c.args.numbers.now (number_at values c.args.var)))) c.requires.is_layout
    (λ values among. said_always values c.args.truth (has_number c.args.numbers.now (number_at values c.args.var)) c.in_default.is) c.add_membership.ensures

pub returns : goal.returns
returns c =
    let t = c.in-Some.t in
    let L = c.args.layout.now in
    let inside = Unless (c.is_not.result ∷ []) (IsMember c.args.var c.args.numbers.now true) in
    then_both c.add_membership-3.result L c.args.f.now c.add_membership-2.new.f c.add_membership-3.new.f
    (λ values. IsTruthValue t values × inside values) (Unless (c.is.result ∷ []) (IsMember c.args.var c.args.numbers.now false))
    (λ values. IsTrue (is_as_said values c.args.truth (has_number c.args.numbers.now (number_at values c.args.var)))) c.requires.is_layout
    (adds_both L c.args.f.now c.add_truth.new.f L c.add_membership-2.new.f (IsTruthValue t) inside c.requires.is_layout c.in_ok-add_truth.ensures c.in_ok-add_membership.ensures)
    (λ values among. said_by values c.args.truth t (has_number c.args.numbers.now (number_at values c.args.var)) c.is_not.result c.is.result c.in-Some.is c.is_not.ensures c.is.ensures)
    c.add_membership-3.ensures
