-- Names that hide what others stood for, and show it again.
use Rattle.std.specs.Prelude.{◌≡◌, ℕ, [], ◌++◌, length, take, vec_len}
use Rattle.std.proofs.Common.{arith, ap, sym, ◌∙◌, append_assoc}
use Rattle.std.proofs.lemmas.List.{append-nil, take_at}
use Rattle.ep_types.specs.Hiding.{Hides}
use Rattle.ep_types.specs.Meanings.{IsSame, behind_names, names_context, known_by}
use Rattle.ep_types.specs.declared.names.Names.{Names}

pub hides_none : (old new : Names) → IsSame old new → Hides old new
hides_none old new h = record { extra = []; inner = h.inner ∙ sym (append-nil old.inner.items); declared = h.declared }

pub hides_after : (old mid new : Names) → Hides old mid → Hides mid new → Hides old new
hides_after old mid new a b = record {
  extra = a.extra ++ b.extra;
  inner = b.inner ∙ ap (λ es. es ++ b.extra) a.inner ∙ append_assoc old.inner.items a.extra b.extra;
  declared = b.declared ∙ a.declared;
}

-- names stand for what they did once the others are let go
pub shown : (old mid new : Names) (depth : ℕ) → Hides old mid → depth ≡ length old.inner.items → new.inner.items ≡ take depth mid.inner.items → new.declared ≡ mid.declared → IsSame old new
unfolding names_context
shown old mid new depth h d i t =
    let inner : new.inner.items ≡ old.inner.items = i ∙ ap (take depth) h.inner ∙ take_at old.inner.items h.extra depth (sym d) in
    let same : new.declared ≡ old.declared = t ∙ h.declared in
    record {
      inner = inner;
      declared = same;
      context = ap (λ es. behind_names es (known_by new.declared.now.entries)) inner ∙ ap (λ m. behind_names old.inner.items (known_by m.now.entries)) same;
    }

-- how many names hide others
pub counted : (names : Names) → vec_len names.inner ≡ length names.inner.items
counted names = omega (arith, names.inner.ok.0)
