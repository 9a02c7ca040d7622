-- Texts that grow piece by piece.
use Rattle.std.proofs.Common.{◌≡◌, ℕ, List, ◌++◌, ap, ◌∙◌, append_assoc}

pub two : (old a b t1 t2 : List ℕ) → t1 ≡ old ++ a → t2 ≡ t1 ++ b → t2 ≡ old ++ (a ++ b)
two old a b t1 t2 one both = both ∙ ap (λ t. t ++ b) one ∙ append_assoc old a b

pub three : (old a b c t1 t2 t3 : List ℕ) → t1 ≡ old ++ a → t2 ≡ t1 ++ b → t3 ≡ t2 ++ c → t3 ≡ old ++ (a ++ (b ++ c))
three old a b c t1 t2 t3 one both all = two old a (b ++ c) t1 t3 one (two t1 b c t2 t3 both all)

pub four : (old a b c d t1 t2 t3 t4 : List ℕ) → t1 ≡ old ++ a → t2 ≡ t1 ++ b → t3 ≡ t2 ++ c → t4 ≡ t3 ++ d → t4 ≡ old ++ (a ++ (b ++ (c ++ d)))
four old a b c d t1 t2 t3 t4 p q r s = two old a (b ++ (c ++ d)) t1 t4 p (three t1 b c d t2 t3 t4 q r s)

pub five : (old a b c d e t1 t2 t3 t4 t5 : List ℕ) → t1 ≡ old ++ a → t2 ≡ t1 ++ b → t3 ≡ t2 ++ c → t4 ≡ t3 ++ d → t5 ≡ t4 ++ e → t5 ≡ old ++ (a ++ (b ++ (c ++ (d ++ e))))
five old a b c d e t1 t2 t3 t4 t5 p q r s t = two old a (b ++ (c ++ (d ++ e))) t1 t5 p (four t1 b c d e t2 t3 t4 t5 q r s t)
