-- Loops over parts: what is checked so far, and then the rest, is the whole.
use Rattle.std.proofs.Common.{◌≡◌, ℕ, ◌+◌, ◌<◌, ◌≤◌, Bool, true, false, ◌&&◌, List, [], ◌∷◌, ◌++◌, length, drop, get_or, Some, Ok, Err, refl, sym, ap, ◌∙◌, append_assoc, subst}
use Rattle.std.proofs.Math.ListN.{drop_of_length-le}
use Rattle.std.proofs.lemmas.List.{append-nil}
use Rattle.ep_tree.specs.Faults.{Fault}
use Rattle.ep_tree.specs.Types.{Context}
use Rattle.ep_types_rules.proofs.RuleSteps.{next_is}
use Rattle.ep_types_rules.proofs.Said.{memory_says}
use Rattle.ep_types_rules.specs.Concluding.{Checked, ◌>>=◌}
use Rattle.ep_types_rules.specs.Named.{fault_of}
use Rattle.ep_types_rules.specs.declared.errors.StaticError.{StaticError}
use Rattle.ep_types_rules.specs.declared.errors.StaticError.TheVariants.{Memory}

-- what an error says of a check
abbrev pub Blames : {A : Type 0} → StaticError → Checked A → Type 0
Blames e check = (fault : Fault) → fault_of e ≡ Some fault → check ≡ Err fault

-- the whole is what is done, and then the rest
pub record Goes {A : Type 0} (whole : Checked (List A)) (done : List A) (rest : Checked (List A)) : Type 0 where
  pub is : whole ≡ (rest >>= λ xs. Ok (done ++ xs))

pub nothing_done : {A : Type 0} (whole : Checked (List A)) → Goes whole [] whole
nothing_done (Ok xs) = record { is = refl }
nothing_done (Err f) = record { is = refl }

pub one_done : {A : Type 0} (whole : Checked (List A)) (done : List A) (rest others : Checked (List A)) (one : Checked A) (x : A)
    → Goes whole done rest → rest ≡ (one >>= λ y. others >>= λ ys. Ok (y ∷ ys)) → one ≡ Ok x → Goes whole (done ++ x ∷ []) others
one_done {A} whole done rest others one x goes is e = record { is = goes.is ∙ ap (λ r. r >>= λ xs. Ok (done ++ xs)) (is ∙ ap (λ o. o >>= λ y. others >>= λ ys. Ok (y ∷ ys)) e) ∙ go others }
  where
    go : (others : Checked (List A)) → ((others >>= λ ys. Ok (x ∷ ys)) >>= λ xs. Ok (done ++ xs)) ≡ (others >>= λ xs. Ok ((done ++ x ∷ []) ++ xs))
    go (Ok ys) = ap Ok (sym (append_assoc done (x ∷ []) ys))
    go (Err f) = refl

-- what is next isn't checked
pub none_done : {A : Type 0} (whole : Checked (List A)) (done : List A) (rest others : Checked (List A)) → Goes whole done rest → rest ≡ others → Goes whole done others
none_done whole done rest others goes is = record { is = goes.is ∙ ap (λ r. r >>= λ xs. Ok (done ++ xs)) is }

-- the next check fails
pub fails : {A B : Type 0} (e : StaticError) (whole : Checked (List A)) (done : List A) (rest : Checked (List A)) (one : Checked B) (next : B → Checked (List A))
    → Goes whole done rest → rest ≡ (one >>= next) → Blames e one → Blames e whole
fails e whole done rest one next goes is h fault s = goes.is ∙ ap (λ r. r >>= λ xs. Ok (done ++ xs)) (is ∙ ap (λ o. o >>= next) (h fault s))

pub all_done : {A : Type 0} (whole : Checked (List A)) (done : List A) (rest : Checked (List A)) → Goes whole done rest → rest ≡ Ok [] → whole ≡ Ok done
all_done whole done rest goes is = goes.is ∙ ap (λ r. r >>= λ xs. Ok (done ++ xs)) is ∙ ap Ok (append-nil done)

-- ---- checks one after another

pub then_is : {A B : Type 0} (whole : Checked B) (one : Checked A) (next : A → Checked B) (x : A) → whole ≡ (one >>= next) → one ≡ Ok x → whole ≡ next x
then_is whole one next x w e = w ∙ ap (λ o. o >>= next) e

pub blames_first : {A B : Type 0} (e : StaticError) (whole : Checked B) (one : Checked A) (next : A → Checked B) → whole ≡ (one >>= next) → Blames e one → Blames e whole
blames_first e whole one next w h fault s = w ∙ ap (λ o. o >>= next) (h fault s)

pub blames_same : {A : Type 0} (e : StaticError) (whole one : Checked A) → whole ≡ one → Blames e one → Blames e whole
blames_same e whole one w h fault s = w ∙ h fault s

-- a check in the same context
pub ok_at : {A : Type 0} (f : Context → Checked A) (c d : Context) (x : A) → d ≡ c → f d ≡ Ok x → f c ≡ Ok x
ok_at f c d x e h = ap f (sym e) ∙ h

pub blames_at : {A : Type 0} (f : Context → Checked A) (c d : Context) (e : StaticError) → d ≡ c → Blames e (f d) → Blames e (f c)
blames_at f c d e same h fault s = ap f (sym same) ∙ h fault s

pub blames_memory : {A : Type 0} (e : StaticError) (check : Checked A) → e ≡ Memory → Blames e check
blames_memory e check is = let P : StaticError → Type 0 = λ x. Blames x check in subst P (sym is) (memory_says check)

-- ---- loops over a list

-- a list is checked item by item
pub record Walks {X A : Type 0} (walk : List X → Checked (List A)) (one : X → Checked A) : Type 0 where
  pub none : walk [] ≡ Ok []
  pub more : (x : X) (xs : List X) → walk (x ∷ xs) ≡ (one x >>= λ y. walk xs >>= λ ys. Ok (y ∷ ys))

module _ {X A : Type 0} (walk : List X → Checked (List A)) (one : X → Checked A) (walks : Walks walk one) (whole : Checked (List A)) (done : List A) (xs : List X) (i : ℕ) where
  pub walked : (x : X) (y : A) (new : List A) → Goes whole done (walk (drop i xs)) → i < length xs → x ≡ get_or xs i x → one x ≡ Ok y → new ≡ done ++ y ∷ [] → Goes whole new (walk (drop (i + 1) xs))
  walked x y new goes lt e h n =
      let P : List A → Type 0 = λ l. Goes whole l (walk (drop (i + 1) xs)) in
      subst P (sym n) (one_done whole done _ _ (one x) y goes (ap walk (next_is xs i x lt e) ∙ walks.more x (drop (i + 1) xs)) h)

  pub walk_fails : (x : X) (e : StaticError) → Goes whole done (walk (drop i xs)) → i < length xs → x ≡ get_or xs i x → Blames e (one x) → Blames e whole
  walk_fails x e goes lt is h = fails e whole done _ (one x) _ goes (ap walk (next_is xs i x lt is) ∙ walks.more x (drop (i + 1) xs)) h

  pub walk_ends : Goes whole done (walk (drop i xs)) → length xs ≤ i → whole ≡ Ok done
  walk_ends goes le = all_done whole done _ goes (ap walk (drop_of_length-le xs le) ∙ walks.none)

-- ---- readings, of which all are to be scalar

-- whether readings before and others are scalar, and the context behind them
abbrev pub behind_all : Bool → Bool × Context → Checked (Bool × Context)
behind_all b others = Ok (b && others.0, others.1)

-- the whole is whether those so far are scalar, and then the rest
pub record Reads (whole : Checked (Bool × Context)) (so_far : Bool) (rest : Checked (Bool × Context)) : Type 0 where
  pub is : whole ≡ (rest >>= behind_all so_far)

pub nothing_read : (whole : Checked (Bool × Context)) → Reads whole true whole
nothing_read (Ok x) = record { is = refl }
nothing_read (Err f) = record { is = refl }

pub and_assoc : (a b c : Bool) → (a && (b && c)) ≡ ((a && b) && c)
and_assoc true b c = refl
and_assoc false b c = refl

pub and_true : (a : Bool) → (a && true) ≡ a
and_true true = refl
and_true false = refl

behind_both : (a b new : Bool) → new ≡ (a && b) → (r : Checked (Bool × Context)) → ((r >>= behind_all b) >>= behind_all a) ≡ (r >>= behind_all new)
behind_both a b new n (Ok o) = let P : Bool → Checked (Bool × Context) = λ x. Ok (x, o.1) in ap P (and_assoc a b o.0 ∙ ap (λ x. x && o.0) (sym n))
behind_both a b new n (Err f) = refl

pub one_read : {A : Type 0} (whole : Checked (Bool × Context)) (so_far new : Bool) (rest : Checked (Bool × Context)) (one : Checked A) (fits : A → Bool) (next : A → Checked (Bool × Context)) (x : A)
    → Reads whole so_far rest → rest ≡ (one >>= λ y. next y >>= behind_all (fits y)) → one ≡ Ok x → new ≡ (so_far && fits x) → Reads whole new (next x)
one_read whole so_far new rest one fits next x reads is e n =
    record { is = reads.is ∙ ap (λ r. r >>= behind_all so_far) (is ∙ ap (λ o. o >>= λ y. next y >>= behind_all (fits y)) e) ∙ behind_both so_far (fits x) new n (next x) }

pub read_fails : {A : Type 0} (e : StaticError) (whole : Checked (Bool × Context)) (so_far : Bool) (rest : Checked (Bool × Context)) (one : Checked A) (next : A → Checked (Bool × Context))
    → Reads whole so_far rest → rest ≡ (one >>= next) → Blames e one → Blames e whole
read_fails e whole so_far rest one next reads is h fault s =
    reads.is ∙ ap (λ r. r >>= behind_all so_far) (is ∙ ap (λ o. o >>= next) (h fault s))

pub all_read : (whole : Checked (Bool × Context)) (so_far : Bool) (rest : Checked (Bool × Context)) (c : Context) → Reads whole so_far rest → rest ≡ Ok (true, c) → whole ≡ Ok (so_far, c)
all_read whole so_far rest c reads is =
    let P : Bool → Checked (Bool × Context) = λ x. Ok (x, c) in reads.is ∙ ap (λ r. r >>= behind_all so_far) is ∙ ap P (and_true so_far)
