use Rattle.std.proofs.lemmas.Result.{err_from_is_err_and}
use Rattle.ep_eval.specs.Known.{env_of}
use Rattle.ep_tree.specs.Binding.{model_text, or_refuse, shape_of, undefined_at}
use Rattle.ep_tree.specs.Measures.{met_domain}
use Rattle.ep_tree.specs.Views.{domain_tree}
use Rattle.ep_instance_parts.specs.Reading.{IsShape}
use Rattle.ep_instance_parts.proofs.Answering.{limit_refuses, no_limit}
use Rattle.ep_instance_parts.proofs.ShapeSteps.{related_same}
use Rattle.ep_instance_parts.proofs.shapes.given_shape.Goals as goal

pub returns-in_err-read : goal.returns-in_err-read
returns-in_err-read c =
    let p = err_from_is_err_and c.from_residual.result c.from_residual.ensures.1 in
    rw (p.1, p.2) (limit_refuses c.args.env.now.mode (met_domain c.args.env.now.mode (env_of c.args.env.now) (domain_tree c.args.d.now)) _ _ c.in_err-read.ensures)

pub shape_from-requires : goal.shape_from-requires
shape_from-requires c = record { indices = c.in_ok-read.ensures.indices; elements = c.in_ok-read.ensures.elements }

pub returns : goal.returns
returns c =
    let mode = c.args.env.now.mode in
    let env = env_of c.args.env.now in
    let d = domain_tree c.args.d.now in
    related_same IsShape c.shape_from.result _ _
    (no_limit mode (met_domain mode env d) (or_refuse (undefined_at model_text c.args.place) (shape_of mode env d)) c.in_ok-read.ensures.counted.within) c.shape_from.ensures
