use Rattle.ep_unroll.proofs.Words.{ap, ◌∙◌, kind_tree-named, read, indices_of, kind_tree}
use Rattle.ep_unroll.proofs.reads.read_of.Goals as goal

pub returns : goal.returns
returns c nodes p tree =
    let q = c.args.matrix.now.place in
    c.read_named.ensures nodes p q (tree ∙ ap (λ m. read p m (indices_of c.args.indices.now)) (ap (kind_tree q) c.in-Named.is ∙ kind_tree-named q c.in-Named.name))

pub unreachable-requires : goal.unreachable-requires
unreachable-requires c = c.in_default.not-Named c.requires.name.0 c.requires.name.1
