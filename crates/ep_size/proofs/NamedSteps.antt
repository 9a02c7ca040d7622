-- A name that stands for a decision variable.
use Rattle.ep_size.proofs.Words.{◌≡◌, ℕ, [], ◌∷◌, List, ℤ, true, false, refl, sym, ap, ◌∙◌, Some, Err, arith, Interval, farthest_end, is_too_far, Name, Place, extent-named, holds_decision-named, Env, has_cells, a_node, decided_weight, number_reach, reaches_at, weight_at, cell_span, decisions_in, extent, holds_decision, is_decision, named_extent, named, filled, Mode, Scalar, TellsValue, grid_of, plain_span, Finished, Finishes, IsNumberNode, Keeps, SizeError}
use Rattle.ep_size.proofs.FormSteps.{measured_decided, own_weight}
use Rattle.ep_size.proofs.Measurings.{near_nothing}
use Rattle.ep_size.proofs.NodeSteps.{err_gives, number_finished, number_refused}
use Rattle.ep_size.specs.declared.extents.Extent.{Extent}
use Rattle.ep_size.specs.declared.extents.Extent.TheVariants.{Number}
use Rattle.ep_size.specs.declared.extents.Span.{Span}

pub named_holds : (env : Env) (name : Name) (p : Place) (s : Scalar) (is : List (List ℤ)) (values : List ℤ) → env name ≡ Some (has_cells s is values)
    → holds_decision (decisions_in env) (named p name) ≡ true
unfolding is_decision
named_holds env name p s is values h = holds_decision-named (decisions_in env) p name ∙ ap is_decision h

named_is : (mode : Mode) (env : Env) (name : Name) (p : Place) (s : Scalar) (is : List (List ℤ)) (values : List ℤ) → env name ≡ Some (has_cells s is values)
    → extent mode env (named p name) ≡ filled (cell_span s values) is
unfolding named_extent
named_is mode env name p s is values h =
    extent-named mode env p name ∙ measured_decided mode env (named p name) (named_extent (env name)) (named_holds env name p s is values h) ∙ ap named_extent h

named_weight : (mode : Mode) (env : Env) (name : Name) (p : Place) → holds_decision (decisions_in env) (named p name) ≡ true
    → weight_at mode (a_node env (named p name)) ≡ 0
unfolding decided_weight
named_weight mode env name p h = own_weight mode env (named p name) 0 h refl

-- a matrix of cells
pub cells_finished : (mode : Mode) (env : Env) (name : Name) (p : Place) (t : ℕ) (s : Scalar) (i : List ℤ) (is : List (List ℤ)) (values : List ℤ) (x : Extent) (own : Span)
    → env name ≡ Some (has_cells s (i ∷ is) values) → plain_span own ≡ cell_span s values → grid_of x ≡ filled (plain_span own) (i ∷ is)
    → (holds_decision (decisions_in env) (named p name) ≡ true → TellsValue mode env (named p name) x)
    → Finished mode env (named p name) t t x
unfolding reaches_at number_reach filled
cells_finished mode env name p t s i is values x own h same grid tells =
    let held = named_holds env name p s (i ∷ is) values h in
    record {
      near = near_nothing mode (a_node env (named p name)) (ap number_reach (named_is mode env name p s (i ∷ is) values h));
      known = record {
        extent = named_is mode env name p s (i ∷ is) values h ∙ ap (λ c. filled c (i ∷ is)) (sym same) ∙ sym grid;
        value = tells held;
      };
      added = let none = named_weight mode env name p held in omega (arith, none);
    }

-- a cell alone
pub cell_number : (mode : Mode) (env : Env) (name : Name) (p : Place) (s : Scalar) (values : List ℤ) → env name ≡ Some (has_cells s [] values)
    → IsNumberNode mode env (named p name) 0 (cell_span s values)
unfolding reaches_at filled
cell_number mode env name p s values h =
    let held = named_holds env name p s [] values h in
    record { plain = refl; value = named_is mode env name p s [] values h; holds = held; weight = named_weight mode env name p held }

pub cell_finished : (mode : Mode) (env : Env) (name : Name) (p : Place) (t : ℕ) (s : Scalar) (values : List ℤ) (own : Span) (i : Interval)
    → env name ≡ Some (has_cells s [] values) → plain_span own ≡ cell_span s values → i ≡ (plain_span own).reach → is_too_far (farthest_end i) ≡ false
    → Finished mode env (named p name) t t (Number own)
cell_finished mode env name p t s values own i h same reach near =
    number_finished mode env (named p name) 0 (cell_span s values) t t own (cell_number mode env name p s values h) same
    (ap (λ j. is_too_far (farthest_end j)) (sym (reach ∙ ap (λ c. c.reach) same)) ∙ near) (omega arith)

pub cell_refused : (mode : Mode) (env : Env) (name : Name) (p : Place) (t : ℕ) (s : Scalar) (values : List ℤ) (own : Span) (i : Interval) (error : SizeError)
    → env name ≡ Some (has_cells s [] values) → plain_span own ≡ cell_span s values → i ≡ (plain_span own).reach → Keeps i (Err error)
    → Finishes mode env (named p name) t t (Err error)
cell_refused mode env name p t s values own i error h same reach keeps =
    number_refused mode env (named p name) 0 (cell_span s values) t t error (cell_number mode env name p s values h)
    (err_gives (cell_span s values) i error (sym (reach ∙ ap (λ c. c.reach) same)) keeps)
