-- The formula of a ground that speaks for an instance stands for the instance.
use Rattle.std.proofs.Common.{ℤ, List, map, sym, ap, subst, ◌∙◌}
use Rattle.std.specs.List.{AllZip, Contains}
use Rattle.cnf_core.specs.Formula.{Cnf}
use Rattle.enc_var.specs.Decoding.{VariableLiterals}
use Rattle.enc_var.specs.Formulas.{IsFormulaOf}
use Rattle.enc_var.specs.Layouts.{decoded_cells}
use Rattle.ep_flat.specs.Flats.{MapState, MapsCells}
use Rattle.ep_ground.specs.Grounds.{GroundState, IsGroundSolution, ground_objective}
use Rattle.ep_ground.specs.declared.cells.Cell.{Cell}
use Rattle.ep_tree.specs.Binding.{Instance}
use Rattle.ep_tree.specs.Closed.{IsClosed}
use Rattle.ep_tree.specs.Solutions.{Assigned, found_of}
use Rattle.ep_tree.specs.declared.values.Mode.{Mode}
use Rattle.ep_unroll.specs.Cells.{found_numbers}
use Rattle.ep_solve.specs.Formulas.{IsFormulaFor, Solves}
use Rattle.ep_solve.specs.Reading.{ReadsAs, assignment_from}
use Rattle.ep_solve.proofs.Cells.{numbers-read}
use Rattle.ep_solve.proofs.Judged.{SpeaksFor, ground-solves, solution-grounded}

-- numbers of the cells that a ground keeps are a solution of the instance
kept-solves : (mode : Mode) (i : Instance) (g : GroundState) → IsClosed i → SpeaksFor mode i g → (cells : List ℤ) → IsGroundSolution g cells → Solves mode i cells (ground_objective g cells)
kept-solves mode i g closed speaks cells kept =
    let P : List Cell → Type 0 = λ xs. AllZip (λ one value. Contains one.values value) xs cells in
    let reads : ReadsAs i cells = numbers-read i cells closed (subst P speaks.cells kept.cells) in
    let a : Assigned = assignment_from i.finds cells in
    let Q : List ℤ → Type 0 = IsGroundSolution g in
    let judged = ground-solves mode i g speaks a (found_of a) reads.fits (subst Q (sym reads.numbers_are) kept) in
    record {
      assigned = a;
      solves = record { found = found_of a; fits = reads.fits; holds = judged.0; measured = judged.1 };
      numbers_are = reads.numbers_are;
      valued = sym (speaks.objective.numbers a (found_of a) reads.fits) ∙ ap (ground_objective g) reads.numbers_are;
    }

pub formula-stands : (mode : Mode) (i : Instance) (g : GroundState) (layout : List VariableLiterals) (m : MapState) (f : Cnf) → IsClosed i → SpeaksFor mode i g → IsFormulaOf g layout m f → IsFormulaFor mode i layout m f
formula-stands mode i g layout m f closed speaks h = record {
  is_layout = h.is_layout;
  maps = subst (λ cs. MapsCells (map (λ one. one.values) cs) (map (λ e. e.domain) layout) m) speaks.cells h.is_map.maps;
  senses = h.is_map.senses ∙ speaks.objective.senses;
  consistent = h.consistent;
  sound = λ s met.
      subst (Solves mode i (decoded_cells layout m s)) (sym (h.objective s met)) (kept-solves mode i g closed speaks (decoded_cells layout m s) (h.sound s met));
  complete = λ a s. h.complete (found_numbers s.found) (solution-grounded mode i g speaks a s.found s.fits s.holds s.measured);
}
