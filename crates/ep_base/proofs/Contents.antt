-- A table of texts and buffers, seen as a finite map.
use Rattle.std.proofs.Common.{◌≡◌, ℕ, List, [], ◌∷◌, map, Bool, true, false, cond, Option, Some, option_map, String, Vec, refl, sym, ap, ◌∙◌}
use Rattle.std.specs.FinMap.{get, insert, find, get-from_entries, get-insert, same_map, slice_cmp-IsAntisymmetric, nat_cmp-IsAntisymmetric}
use Rattle.std.specs.Ordering.{nat_cmp, is_eq}
use Rattle.std.specs.Cmp.Lexicographic.{slice_cmp, nat_list_cmp_total, nat_list_eq_equiv}
use Rattle.std.specs.String.{string_bytes, string_cmp}
use Rattle.std.specs.Str.{bytes_eq}
use Rattle.std.specs.BTreeMap.{BTreeMap, is_at, get_by_text, UpdatesBy}
use Rattle.std.specs.Map.{lookup}
use Rattle.std.proofs.lemmas.Map.Text.{is_eq-slice_cmp, btree_map_updates_text}
use Rattle.ep_base.specs.MemoryDevices.{Contents, contents}
use Rattle.ep_base.specs.Outside.{with_bytes}
use mathlib.Core.Path.{fun_ext}

option_map-cond : {X Z : Type 0} (f : X → Z) (b : Bool) (x : X) (o : Option X) → option_map f (cond b (Some x) o) ≡ cond b (Some (f x)) (option_map f o)
option_map-cond f true x o = refl
option_map-cond f false x o = refl

-- what the map that a table stands for has under a name is what the table finds there
find-texts : {Y Z : Type 0} (q : List ℕ) (es : List (String Y × Vec ℕ Z)) → find (slice_cmp nat_cmp) q (map (λ e. (string_bytes e.0, e.1.items)) es) ≡ option_map (λ v. v.items) (lookup (is_at (λ k. slice_cmp nat_cmp q (string_bytes k))) es)
find-texts q [] = refl
find-texts q (e ∷ es) =
    ap (cond (is_eq (slice_cmp nat_cmp q (string_bytes e.0))) (Some e.1.items)) (find-texts q es)
    ∙ sym (option_map-cond (λ v. v.items) (is_eq (slice_cmp nat_cmp q (string_bytes e.0))) e.1 (lookup (is_at (λ k. slice_cmp nat_cmp q (string_bytes k))) es))

pub get-contents : {Y Z : Type 0} (q : List ℕ) (m : BTreeMap (String Y) (Vec ℕ Z)) → get (contents m.entries) q ≡ option_map (λ v. v.items) (get_by_text m q)
get-contents q m = get-from_entries nat_list_cmp_total _ q ∙ find-texts q m.entries

-- a table in which one text was set stands for the map with that name set
pub contents-insert : {Y Z : Type 0} (k : List ℕ) (m n : BTreeMap (String Y) (Vec ℕ Z)) (v : Vec ℕ Z) → UpdatesBy string_cmp (λ x. slice_cmp nat_cmp k (string_bytes x)) m n (Some v) → contents n.entries ≡ insert (contents m.entries) k v.items
contents-insert k m n v h =
    same_map nat_list_cmp_total (slice_cmp-IsAntisymmetric nat_cmp-IsAntisymmetric) _ _ (λ q.
    get-contents q n
    ∙ ap (option_map (λ x. x.items)) (btree_map_updates_text k m n (Some v) h q)
    ∙ option_map-cond (λ x. x.items) (bytes_eq k q) v (get_by_text m q)
    ∙ ap (cond (bytes_eq k q) (Some v.items)) (sym (get-contents q m))
    ∙ ap (λ b. cond b (Some v.items) (get (contents m.entries) q)) (nat_list_eq_equiv.symm k q ∙ sym (is_eq-slice_cmp q k))
    ∙ sym (get-insert nat_list_cmp_total (contents m.entries) k v.items q))

-- what a map with one name set has under each name
pub get-after_insert : (files : Contents) (name bytes : List ℕ) → get (insert files name bytes) ≡ with_bytes name bytes (get files)
get-after_insert files name bytes =
    fun_ext (λ asked. get-insert nat_list_cmp_total files name bytes asked ∙ ap (λ b. cond b (Some bytes) (get files asked)) (is_eq-slice_cmp asked name))
