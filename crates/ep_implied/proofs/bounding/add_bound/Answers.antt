use Rattle.std.proofs.Common.{◌≡◌, ◌∙◌, List, [], ◌∷◌, map, ap, sym, subst, arith}
use Rattle.std.proofs.lemmas.List.{append-nil, map-append}
use Rattle.ep_flat.specs.Cons.{FlatCon}
use Rattle.ep_flat.specs.Flats.{IsSoundFlat}
use Rattle.ep_flat.specs.FlatViews.{plain_con, plain_flat}
use Rattle.ep_flat.specs.declared.flats.Con.{Con}
use Rattle.ep_implied.specs.Follows.{FollowsFrom, MeansTheSame}
use Rattle.ep_implied.proofs.Following.{if_some, itself, on_err, same_with, sound_with, with_cons}
use Rattle.ep_implied.proofs.bounding.add_bound.Goals as goal

pub returns-in_default-clause-same : goal.returns-in_default-clause-same
returns-in_default-clause-same c = itself (plain_flat c.args.flat.now)

pub returns-in_default-clause-more : goal.returns-in_default-clause-more
returns-in_default-clause-more c = record { more = []; cons = sym (append-nil (plain_flat c.args.flat.now).cons); one = omega arith }

pub returns-clause-more : goal.returns-clause-more
returns-clause-more c = record {
  more = plain_con c.in-Some.con ∷ [];
  cons = ap (map plain_con) c.in_ok-push.ensures.items ∙ map-append plain_con c.args.flat.now.cons.items (c.in-Some.con ∷ []);
  one = omega arith;
}

pub returns-in_err-push-clause-err : goal.returns-in_err-push-clause-err
returns-in_err-push-clause-err c =
    on_err c.from_residual-in_err-push.result (plain_flat (record { vars = c.args.flat.now.vars; cons = c.push.new.self }) ≡ plain_flat c.args.flat.now)
    (ap (λ (cs : List Con). with_cons c.args.flat.now.vars.items (map plain_con cs)) c.in_err-push.ensures.items)

pub returns-clause-same : goal.returns-clause-same
returns-clause-same c =
    let flat = plain_flat c.args.flat.now in
    let from = if_some (λ (con : Con). FollowsFrom flat (plain_con con)) c.in_ok-con.field-0 c.in-Some.con c.in-Some.is c.in_ok-con.ensures in
    subst (λ (cs : List FlatCon). MeansTheSame flat (record { vars = flat.vars; cons = cs })) (sym (ap (map plain_con) c.in_ok-push.ensures.items ∙ map-append plain_con c.args.flat.now.cons.items (c.in-Some.con ∷ [])))
    (same_with flat (plain_con c.in-Some.con) from)

pub returns-clause-sound : goal.returns-clause-sound
returns-clause-sound c =
    let flat = plain_flat c.args.flat.now in
    let from = if_some (λ (con : Con). FollowsFrom flat (plain_con con)) c.in_ok-con.field-0 c.in-Some.con c.in-Some.is c.in_ok-con.ensures in
    subst (λ (cs : List FlatCon). IsSoundFlat (record { vars = flat.vars; cons = cs })) (sym (ap (map plain_con) c.in_ok-push.ensures.items ∙ map-append plain_con c.args.flat.now.cons.items (c.in-Some.con ∷ [])))
    (sound_with flat (plain_con c.in-Some.con) from c.requires)
