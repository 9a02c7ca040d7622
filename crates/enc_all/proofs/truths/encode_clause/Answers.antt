use Rattle.std.proofs.Common.{◌<◌, length, map}
use Rattle.std.proofs.lemmas.Result.{on_ok_weaker}
use Rattle.enc_all.proofs.Telling.{clause_told, clause_untold, names_of_parts, names_rest}
use Rattle.enc_all.proofs.truths.encode_clause.Goals as goal

pub add_parts-requires-clause-names : goal.add_parts-requires-clause-names
add_parts-requires-clause-names c =
    names_of_parts (λ x. x < length c.args.layout.now) c.args.parts.now (names_rest (λ x. x < length c.args.layout.now) c.args.truth (map (λ p. p.1) c.args.parts.now) c.requires.names)

pub add_equal-requires-clause-names : goal.add_equal-requires-clause-names
add_equal-requires-clause-names c =
    names_of_parts (λ x. x < length c.args.layout.now) c.args.parts.now (names_rest (λ x. x < length c.args.layout.now) c.args.truth (map (λ p. p.1) c.args.parts.now) c.requires.names)

pub returns-in-None : goal.returns-in-None
returns-in-None c = on_ok_weaker c.add_parts.result (λ h. clause_untold c.args.layout.now c.args.f.now c.add_parts.new.f c.args.truth c.args.parts.now c.requires.is_layout c.in-None.is h) c.add_parts.ensures

pub returns-in_ok-add_truth-in-Some : goal.returns-in_ok-add_truth-in-Some
returns-in_ok-add_truth-in-Some c =
    on_ok_weaker c.add_equal.result
    (λ h. clause_told c.args.layout.now c.args.f.now c.add_truth.new.f c.add_equal.new.f c.args.truth c.in-Some.t c.args.parts.now c.requires.is_layout c.in-Some.is c.in_ok-add_truth-in-Some.ensures h) c.add_equal.ensures
