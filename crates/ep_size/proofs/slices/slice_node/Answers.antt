use Rattle.ep_size.proofs.Words.{Ok, map, refl, subst, sym, ◌∙◌, IfSome, read, filled, grid_of, plain_span, measured_of, LeavesDomains}
use Rattle.ep_size.proofs.ListNodes.{if_ok, lists_finish}
use Rattle.ep_size.proofs.SliceParts.{apart_finishes}
use Rattle.ep_size.proofs.SliceSteps.{cells_are, cells_listed, slice_node}
use Rattle.ep_size.specs.declared.extents.Extent.TheVariants.{Cells}
use Rattle.ep_size.proofs.slices.slice_node.Goals as goal

pub returns-in-Some-split_first : goal.returns-in-Some-split_first
unfolding grid_of
returns-in-Some-split_first c mode env p m is t holds known told typed =
    let ms = map measured_of c.args.indices.now in
    let s = c.in-Cells.span in
    let ds = c.in-Cells.domains in
    let left = c.in-Some.left in
    lists_finish mode env (read p m is) (filled (plain_span s) left.now) t (Ok (Cells s left))
    (slice_node mode env p m is ms c.args.ty (plain_span s) ds.now left.now _ _ holds told typed
    (sym c.is_matrix_type-of_matrix.ensures ∙ c.if-not-of_matrix.false)
    (sym c.one_decided-decided.ensures ∙ c.if-decided.false) (cells_are mode env m c.args.known.now s ds ds.now c.in-Cells.is refl known)
    (subst (λ o. IfSome o (λ l. LeavesDomains ms ds.now l.now)) c.in-Some.is c.domains_left.ensures) c.in-Some-split_first.ensures.cases.0)
    (cells_listed s left left.now refl, tt)

pub returns-in-None : goal.returns-in-None
unfolding grid_of
returns-in-None c mode env p m is t holds known told typed =
    let ms = map measured_of c.args.indices.now in
    let s = c.in-Cells.span in
    let ds = c.in-Cells.domains in
    let plain = sym c.one_decided-decided.ensures ∙ c.if-decided.false in
    apart_finishes mode env p m is ms c.args.ty (filled (plain_span s) ds.now) t c.cells_apart.result holds told typed
    (sym c.is_matrix_type-of_matrix.ensures ∙ c.if-not-of_matrix.false) plain
    (cells_are mode env m c.args.known.now s ds ds.now c.in-Cells.is refl known)
    (if_ok c.cells_apart.result _ _ c.cells_apart.ensures.listed (λ x h. h plain)) c.cells_apart.ensures.none c.cells_apart.ensures.memory

pub returns-in-Matrix : goal.returns-in-Matrix
returns-in-Matrix c mode env p m is t holds known told typed =
    let ms = map measured_of c.args.indices.now in
    let plain = sym c.one_decided-decided.ensures ∙ c.if-decided.false in
    apart_finishes mode env p m is ms c.args.ty (grid_of c.args.known.now) t c.parts_apart.result holds told typed
    (sym c.is_matrix_type-of_matrix.ensures ∙ c.if-not-of_matrix.false) plain known.extent
    (if_ok c.parts_apart.result _ _ c.parts_apart.ensures.listed (λ x h. h plain)) c.parts_apart.ensures.none c.parts_apart.ensures.memory
