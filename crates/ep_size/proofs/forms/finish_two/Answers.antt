use Rattle.ep_size.proofs.Words.{◌∷◌, [], Ok, ap, length, subst, ◌∙◌, two_node, evaluate, number_in, binary_weight, widths, binary_span, decisions_in, extent, holds_decision, span_of, binary, compare, in_set, lex, table, rows_of, grid_of, Gives, capped}
use Rattle.ep_size.proofs.FormSteps.{binary_number, compare_number}
use Rattle.ep_size.proofs.NodeSteps.{finished_at}
use Rattle.ep_size.proofs.MatrixSteps.{in_set_number, lex_number, table_number}
use Rattle.ep_size.specs.Extents as own
use Rattle.ep_size.proofs.forms.finish_two.Goals as goal

pub returns-in-Compare : goal.returns-in-Compare
unfolding two_node
returns-in-Compare c mode env p e f holds known told =
    let x = grid_of c.args.one.now in
    let y = grid_of c.args.other.now in
    let op = c.in-Compare.field-0 in
    finished_at mode env _ _ c.args.total.now c.truth_node.new.total (Ok c.truth_node.result) (ap (λ o. two_node p o e f) c.in-Compare.is) holds (λ held.
    c.truth_node.ensures mode env (compare p op e f) (widths (span_of x ∷ span_of y ∷ []))
    (c.widths_of_two.ensures ∙ ap (λ s. capped (widths (s ∷ own.plain_span c.number_span-second.result ∷ []))) c.number_span-first.ensures
    ∙ ap (λ s. capped (widths (span_of x ∷ s ∷ []))) c.number_span-second.ensures)
    (compare_number mode env p op e f x y held known.extent told.extent))

pub returns-in-Binary : goal.returns-in-Binary
unfolding two_node
returns-in-Binary c mode env p e f holds known told =
    let x = grid_of c.args.one.now in
    let y = grid_of c.args.other.now in
    let op = c.in-Binary.operator in
    let n = number_in (evaluate mode env f) in
    finished_at mode env _ _ _ _ _ (ap (λ o. two_node p o e f) c.in-Binary.is) holds (λ held.
    c.number_node.ensures mode env (binary p op e f) (binary_weight op (span_of x) (span_of y)) (binary_span op (span_of x) (span_of y) n)
    (c.binary_weight.ensures ∙ ap (λ s. capped (binary_weight op s (own.plain_span c.number_span-second.result))) c.number_span-first.ensures
    ∙ ap (λ s. capped (binary_weight op (span_of x) s)) c.number_span-second.ensures)
    (subst (λ s. Gives c.binary_span.result (binary_span op (span_of x) s n)) c.number_span-second.ensures
    (subst (λ s. Gives c.binary_span.result (binary_span op s (own.plain_span c.number_span-second.result) n)) c.number_span-first.ensures
    (c.binary_span.ensures n (holds_decision (decisions_in env) f) (span_of (extent mode env f)) (c.index_with-exponent.ensures mode env f told))))
    (binary_number mode env p op e f x y held known.extent told.extent))

pub returns-in-Lex : goal.returns-in-Lex
unfolding two_node
returns-in-Lex c mode env p e f holds known told =
    let op = c.in-Lex.field-0 in
    finished_at mode env _ _ _ _ _ (ap (λ o. two_node p o e f) c.in-Lex.is) holds (λ held.
    c.finish_lex.ensures mode env (lex p op e f) (lex_number mode env p op e f (grid_of c.args.one.now) (grid_of c.args.other.now) held known.extent told.extent))

pub returns-in-InSet : goal.returns-in-InSet
unfolding two_node
returns-in-InSet c mode env p e f holds known told =
    finished_at mode env _ _ _ _ _ (ap (λ o. two_node p o e f) c.in-InSet.is) holds (λ held.
    c.finish_set.ensures mode env (in_set p e f) (in_set_number mode env p e f (grid_of c.args.one.now) (grid_of c.args.other.now) held known.extent told.extent))

pub returns-in-Table : goal.returns-in-Table
unfolding two_node
returns-in-Table c mode env p e f holds known told =
    finished_at mode env _ _ _ _ _ (ap (λ o. two_node p o e f) c.in-Table.is) holds (λ held.
    c.finish_table.ensures mode env (table p e f) (length (rows_of (grid_of c.args.other.now))) c.row_count.ensures
    (table_number mode env p e f (grid_of c.args.one.now) (grid_of c.args.other.now) held known.extent told.extent))
