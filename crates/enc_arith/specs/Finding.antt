-- What is found of a number.
use Rattle.std.specs.Prelude.{◌≡◌, ℤ, List, Option}
use Rattle.std.specs.List.{Contains}
use Rattle.std.specs.Ordering.{int_eq}
use Rattle.ep_base.specs.Reads.{IsWithinNumbers}
use Rattle.ep_flat.specs.Cons.{is_value}

-- of the numbers that variables may have, what is found is exactly this one
pub record Finds (found : Option ℤ) (number : ℤ) : Type 0 where
  pub same : (n : ℤ) → IsWithinNumbers n → is_value found n ≡ int_eq n number

-- of the numbers of a list, what is found is exactly this one
pub record FindsIn (domain : List ℤ) (found : Option ℤ) (number : ℤ) : Type 0 where
  pub same : (n : ℤ) → Contains domain n → is_value found n ≡ int_eq n number
