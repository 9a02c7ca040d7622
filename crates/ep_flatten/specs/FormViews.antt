-- The code's forms and sums of terms, without where their lists lie in memory.
use Rattle.std.specs.Prelude.{List, map}
use Rattle.ep_flatten.specs.Forms.{TermForm, own, summed, compared}
use Rattle.ep_flatten.specs.Sums.{SumState}
use Rattle.ep_flatten.specs.declared.forms.Form.{Form}
use Rattle.ep_flatten.specs.declared.forms.Form.TheVariants as code
use Rattle.ep_flatten.specs.declared.sums.TermSum.{TermSum}

-- a form with a plain list in place of the vector
abbrev pub plain_form : Form → TermForm
plain_form code.Own = own
plain_form (code.Sum c parts) = summed c parts.items
plain_form (code.Compare op parts c) = compared op parts.items c

-- forms with plain lists in place of the vectors, in order
abbrev pub plain_forms : List Form → List TermForm
plain_forms forms = map plain_form forms

-- a sum with a plain list in place of the vector
abbrev pub plain_sum : TermSum → SumState
plain_sum s = record { number = s.number; parts = s.parts.items }
