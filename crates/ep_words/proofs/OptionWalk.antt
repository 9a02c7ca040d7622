-- One word of `clap`'s walk.
use Rattle.std.proofs.Common.{◌≡◌, ℕ, true, false, List, [], ◌∷◌, Option, Some, None, refl, ap, ap₂, ◌∙◌}
use Rattle.std.proofs.lemmas.Slice.Eq.{bytes_eq-Decides}
use Rattle.ep_base.specs.TokenTexts.{is_one_of}
use Rattle.clap.specs.Lexer.{name_and_value}
use Rattle.clap.specs.Kinds.{Kinds, or_else}
use Rattle.clap.specs.Walk.{Held, Row, Rule, Step, Text, Waiting, Walk, after_flag, after_step, idle, long_met, long_word, next, option, positional, reacted, settled, settled_rows, used, walked, word_met, arg_by_long}
use Rattle.clap.specs.Faults.{long_fault, settle_fault, step_fault, turn_fault, use_fault, word_fault}
use Rattle.clap.specs.declared.error.kind.ErrorKind.TheVariants.{UnknownArgument}
use Rattle.ep_words.specs.Settings.{option_word}
use Rattle.ep_words.proofs.OptionRules.{built_shape, id_known, long_known, long_unknown, no_place, set_rule, set_rules}
use Rattle.ep_words.proofs.OptionWords.{IsPlain}

-- ---- where the walk stands

abbrev pub Pending : Type 0
Pending = Option (Text × List Text)

abbrev pub held : List Row → Pending → Held
held rows pending = record { rows = rows; pending = pending; skip = 0 }

abbrev pub stands : List Row → Pending → Waiting → Walk
stands rows pending waiting = record { held = held rows pending; waiting = waiting; position = 1; is_trailing = false; stopped = None }

-- no positional is waited for
abbrev pub IsOptionsOnly : Waiting → Type 0
IsOptionsOnly idle = Unit {0}
IsOptionsOnly (option name) = Unit {0}
IsOptionsOnly positional = ⊥

-- ---- a word that begins with `--` and goes on

met_long : (rules : List Rule) (waiting : Waiting) (h : Held) (first : ℕ) (rest : Text) → IsOptionsOnly waiting
    → word_met rules [] false waiting 1 (option_word (first ∷ rest)) h ≡ long_word rules waiting (option_word (first ∷ rest)) (name_and_value (first ∷ rest)).0 (name_and_value (first ∷ rest)).1 h
met_long rules idle h first rest only = refl
met_long rules (option name) h first rest only = refl
met_long rules positional h first rest only = elim only [ ]

fault_long : (names : List Text) (waiting : Waiting) (h : Held) (first : ℕ) (rest : Text) → IsOptionsOnly waiting
    → word_fault (built_shape names) [] false waiting (option_word (first ∷ rest)) h ≡ long_fault (set_rules names) false (arg_by_long (set_rules names) (name_and_value (first ∷ rest)).0) (name_and_value (first ∷ rest)).1 h
fault_long names idle h first rest only = refl
fault_long names (option name) h first rest only = refl
fault_long names positional h first rest only = elim only [ ]

abbrev met_by : List Rule → Waiting → Text → Option Rule → Option Text → Held → Held × Step
met_by rules waiting word rule given h = after_flag rules waiting word (long_met rules rule given h).0 (long_met rules rule given h).1

-- what stands behind a step
stepped : (rules : List Rule) (rows : List Row) (pending : Pending) (waiting : Waiting) (word : Text) (after : Held × Step)
    → word_met rules [] false waiting 1 word (held rows pending) ≡ after → walked rules [] (stands rows pending waiting) word ≡ after_step rules word (stands rows pending waiting) after.0 after.1
unfolding walked
stepped rules rows pending waiting word after met = ap (λ (p : Held × Step). after_step rules word (stands rows pending waiting) p.0 p.1) met

turned : (names : List Text) (rows : List Row) (pending : Pending) (waiting : Waiting) (word : Text) (fault : Kinds) (after : Held × Step)
    → word_fault (built_shape names) [] false waiting word (held rows pending) ≡ fault → word_met (set_rules names) [] false waiting 1 word (held rows pending) ≡ after
    → turn_fault (built_shape names) [] (stands rows pending waiting) word ≡ or_else fault (step_fault (built_shape names) 1 after.0 after.1)
turned names rows pending waiting word fault after fails met = ap₂ (λ (k : Kinds) (p : Held × Step). or_else k (step_fault (built_shape names) 1 p.0 p.1)) fails met

or_none : (kinds : Kinds) → or_else kinds [] ≡ kinds
or_none [] = refl
or_none (kind ∷ kinds) = refl

-- the name, the value behind the `=` if there is one, and which word this is
module _ (names : List Text) (first : ℕ) (rest name : Text) where
  abbrev rules : List Rule
  rules = set_rules names

  abbrev word : Text
  word = option_word (first ∷ rest)

  -- ---- a value is given

  met_given : (value : Text) → name_and_value (first ∷ rest) ≡ (name, Some value) → is_one_of names name ≡ true → (waiting : Waiting) (h : Held) → IsOptionsOnly waiting
      → word_met rules [] false waiting 1 word h ≡ (reacted rules (set_rule name) (value ∷ []) h, next idle)
  met_given value parts known waiting h only =
      met_long rules waiting h first rest only
      ∙ ap (λ (p : Text × Option Text). long_word rules waiting word p.0 p.1 h) parts
      ∙ ap (λ rule. met_by rules waiting word rule (Some value) h) (long_known names name known)

  fault_given : (value : Text) → name_and_value (first ∷ rest) ≡ (name, Some value) → is_one_of names name ≡ true → (waiting : Waiting) (h : Held) → IsOptionsOnly waiting
      → word_fault (built_shape names) [] false waiting word h ≡ or_else (settle_fault rules false h) (use_fault false (set_rule name) (value ∷ []) (settled rules h).rows)
  fault_given value parts known waiting h only =
      fault_long names waiting h first rest only
      ∙ ap (λ (p : Text × Option Text). long_fault rules false (arg_by_long rules p.0) p.1 h) parts
      ∙ ap (λ rule. long_fault rules false rule (Some value) h) (long_known names name known)

  pub given_walks : (value : Text) → name_and_value (first ∷ rest) ≡ (name, Some value) → is_one_of names name ≡ true → (rows : List Row) (pending : Pending) (waiting : Waiting) → IsOptionsOnly waiting
      → walked rules [] (stands rows pending waiting) word ≡ stands (used (set_rule name) (value ∷ []) (settled_rows rules pending rows)) None idle
  given_walks value parts known rows pending waiting only = stepped rules rows pending waiting word _ (met_given value parts known waiting (held rows pending) only)

  pub given_turns : (value : Text) → name_and_value (first ∷ rest) ≡ (name, Some value) → is_one_of names name ≡ true → (rows : List Row) (pending : Pending) (waiting : Waiting) → IsOptionsOnly waiting
      → turn_fault (built_shape names) [] (stands rows pending waiting) word ≡ or_else (settle_fault rules false (held rows pending)) (use_fault false (set_rule name) (value ∷ []) (settled_rows rules pending rows))
  given_turns value parts known rows pending waiting only =
      turned names rows pending waiting word _ _ (fault_given value parts known waiting (held rows pending) only) (met_given value parts known waiting (held rows pending) only)
      ∙ or_none _

  -- ---- no value is given

  met_alone : name_and_value (first ∷ rest) ≡ (name, None) → is_one_of names name ≡ true → (waiting : Waiting) (h : Held) → IsOptionsOnly waiting
      → word_met rules [] false waiting 1 word h ≡ (record (settled rules h) { pending = Some (name, []) }, next (option name))
  met_alone parts known waiting h only =
      met_long rules waiting h first rest only
      ∙ ap (λ (p : Text × Option Text). long_word rules waiting word p.0 p.1 h) parts
      ∙ ap (λ rule. met_by rules waiting word rule None h) (long_known names name known)

  fault_alone : name_and_value (first ∷ rest) ≡ (name, None) → is_one_of names name ≡ true → (waiting : Waiting) (h : Held) → IsOptionsOnly waiting
      → word_fault (built_shape names) [] false waiting word h ≡ settle_fault rules false h
  fault_alone parts known waiting h only =
      fault_long names waiting h first rest only
      ∙ ap (λ (p : Text × Option Text). long_fault rules false (arg_by_long rules p.0) p.1 h) parts
      ∙ ap (λ rule. long_fault rules false rule None h) (long_known names name known)

  pub alone_walks : name_and_value (first ∷ rest) ≡ (name, None) → is_one_of names name ≡ true → (rows : List Row) (pending : Pending) (waiting : Waiting) → IsOptionsOnly waiting
      → walked rules [] (stands rows pending waiting) word ≡ stands (settled_rows rules pending rows) (Some (name, [])) (option name)
  alone_walks parts known rows pending waiting only = stepped rules rows pending waiting word _ (met_alone parts known waiting (held rows pending) only)

  pub alone_turns : name_and_value (first ∷ rest) ≡ (name, None) → is_one_of names name ≡ true → (rows : List Row) (pending : Pending) (waiting : Waiting) → IsOptionsOnly waiting
      → turn_fault (built_shape names) [] (stands rows pending waiting) word ≡ settle_fault rules false (held rows pending)
  alone_turns parts known rows pending waiting only =
      turned names rows pending waiting word _ _ (fault_alone parts known waiting (held rows pending) only) (met_alone parts known waiting (held rows pending) only)
      ∙ or_none _

  -- ---- no option has the name

  pub unknown_turns : (given : Option Text) → name_and_value (first ∷ rest) ≡ (name, given) → is_one_of names name ≡ false → (rows : List Row) (pending : Pending) (waiting : Waiting) → IsOptionsOnly waiting
      → turn_fault (built_shape names) [] (stands rows pending waiting) word ≡ UnknownArgument ∷ []
  unknown_turns given parts unknown rows pending waiting only =
      let fails : word_fault (built_shape names) [] false waiting word (held rows pending) ≡ UnknownArgument ∷ [] =
      fault_long names waiting (held rows pending) first rest only
      ∙ ap (λ (p : Text × Option Text). long_fault rules false (arg_by_long rules p.0) p.1 (held rows pending)) parts
      ∙ ap (λ rule. long_fault rules false rule given (held rows pending)) (long_unknown names name unknown) in
      turned names rows pending waiting word _ _ fails refl

-- ---- a word that doesn't begin with `-`

module _ (names : List Text) (word : Text) (plain : IsPlain word) where
  -- where no value is waited for
  pub stray_turns : (rows : List Row) (pending : Pending) → turn_fault (built_shape names) [] (stands rows pending idle) word ≡ UnknownArgument ∷ []
  stray_turns rows pending = rw (plain.alone, plain.long, plain.short, no_place names 1) refl

  -- where a value is waited for
  pub value_walks : (rows : List Row) (name : Text) → is_one_of names name ≡ true
      → walked (set_rules names) [] (stands rows (Some (name, [])) (option name)) word ≡ stands rows (Some (name, word ∷ [])) idle
  unfolding walked
  value_walks rows name known = rw (plain.alone, plain.long, plain.short, id_known names name known) (rw ((bytes_eq-Decides name name).1 refl) refl)

  pub value_turns : (rows : List Row) (name : Text) → turn_fault (built_shape names) [] (stands rows (Some (name, [])) (option name)) word ≡ []
  value_turns rows name = rw (plain.alone, plain.long, plain.short) refl
