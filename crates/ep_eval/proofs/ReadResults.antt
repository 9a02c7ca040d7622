-- What a read gives where it finds something, and where it doesn't.
use Rattle.ep_eval.proofs.Words.{◌≡◌, Some, None, pos, refl, if◌then◌else◌, read_result, is_boolean, ValueTree, single, Mode, ValueType}

pub read_found : (mode : Mode) (t : ValueType) (v : ValueTree) → Some v ≡ read_result mode t (Some v)
unfolding read_result
read_found Mode.Strict t v = refl
read_found Mode.Relational ValueType.Bool v = refl
read_found Mode.Relational ValueType.Int v = refl
read_found Mode.Relational (ValueType.Matrix k s) v = refl
read_found Mode.Relational ValueType.Empty v = refl

pub read_strict : (t : ValueType) → None ≡ read_result Mode.Strict t None
unfolding read_result
read_strict t = refl

pub read_relational : (t : ValueType) → (if is_boolean t then Some (single (pos 0)) else None) ≡ read_result Mode.Relational t None
unfolding read_result is_boolean
read_relational ValueType.Bool = refl
read_relational ValueType.Int = refl
read_relational (ValueType.Matrix k s) = refl
read_relational ValueType.Empty = refl
