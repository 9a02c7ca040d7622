-- Whatever a text is read as that spells a solution text: it is that one, or the text is too long or too high.
use Rattle.std.proofs.Common.{◌≡◌, ℕ, suc, ◌<◌, ◌≤◌, Bool, true, false, List, [], length, take, None, refl, sym, ap, ap₂, subst, ◌∙◌, arith}
use Rattle.std.specs.Prelude.{Ok, Err, Result, nat_lt}
use Rattle.std.proofs.lemmas.Bool.Decides.{nat_tests}
use Rattle.std.proofs.lemmas.List.{append-nil, take_all}
use Rattle.ep_base.proofs.Small.{some_is}
use Rattle.ep_base.specs.Tokens.{BadByte, LongNumber, TokenFault, tokens_of}
use Rattle.ep_base.specs.declared.places.Place.{Place}
use Rattle.ep_base.specs.declared.tokens.Token.{Token}
use Rattle.ep_tree.proofs.FirstFault.{Begins-fewer}
use Rattle.ep_tree.specs.Binding.{Instance}
use Rattle.ep_tree.specs.Phrases.{Lexeme, lexemes_of}
use Rattle.ep_tree.specs.Reading.{Begins, IsTextFault, MOST_HEIGHT}
use Rattle.ep_tree.specs.Solutions.{Assigned, Found, a_solution, goal_value, has_goal_value, judged_by, judgement, violated}
use Rattle.ep_tree.specs.StatementSpelling.{SpellsParams}
use Rattle.ep_tree.specs.Statements.{TextTree}
use Rattle.ep_tree.specs.Texts.{AnswersParams, HasSyntaxFault, HasTokenFault, IsReadAs, SpellsText, TextAnswer, bad_byte, long_number, read_as, syntax_fault, too_high, too_long}
use Rattle.ep_tree.specs.declared.values.Mode.{Mode}
use Rattle.ep_print.specs.Answers.{answer_text}
use Rattle.ep_print_laws.specs.Answered.{values_in}
use Rattle.ep_print_laws.specs.GivenBack.{AnswerTextIsReadAgain, GivesItselfBack, TextGivesBack}
use Rattle.ep_print_laws.specs.ReadBack.{AnswerIsReadBack, IsReadBack, SolutionIsJudgedOne}

-- some tokens spell one parameter text at most
abbrev pub SpellsOne : Type 0
SpellsOne = (tree other : TextTree) (tokens : List Lexeme) → SpellsParams tree tokens → SpellsParams other tokens → tree ≡ other

same_tokens : (text : List ℕ) (one other : List Token) → tokens_of text ≡ Ok one → tokens_of text ≡ Ok other → one ≡ other
same_tokens text one other h k = ap (λ r. or_one r) (sym h ∙ k)
  where
    or_one : Result (List Token) TokenFault → List Token
    or_one (Ok tokens) = tokens
    or_one (Err fault) = one

no_token_fault : (text : List ℕ) (tree : TextTree) (fault : TokenFault) → SpellsText SpellsParams tree text → HasTokenFault text fault → ⊥
no_token_fault text tree fault h k = let wrong : ◌≡◌ {A = Result (List Token) TokenFault} (Ok h.tokens) (Err fault) = sym h.found ∙ k.found in absurd cc

-- where tokens spell a text, each front of them begins one
begins_all : (ls : List Lexeme) (tree : TextTree) (n : ℕ) → SpellsParams tree ls → n < length ls → Begins SpellsParams (take (suc n) ls)
begins_all ls tree n h lt =
    Begins-fewer SpellsParams ls (suc n) (length ls) (omega (arith, lt))
    (tree, [], subst (SpellsParams tree) (sym (append-nil (take (length ls) ls) ∙ take_all (length ls) ls (omega arith))) h)

no_text_fault : (ls : List Lexeme) (tree : TextTree) (n : ℕ) → SpellsParams tree ls → IsTextFault SpellsParams MOST_HEIGHT ls n → ⊥
no_text_fault ls tree n spelled f = go (nat_lt n (length ls)) refl
  where
    go : (b : Bool) → nat_lt n (length ls) ≡ b → ⊥
    go true e = let lt : n < length ls = grind (arith, nat_tests) in f.no_higher.after lt (begins_all ls tree n spelled lt)
    go false e = let ge : length ls ≤ n = grind (arith, nat_tests) in f.incomplete (omega (arith, ge, f.stops.within)) tree spelled

no_syntax_fault : (text : List ℕ) (tree : TextTree) (place : Place) → SpellsText SpellsParams tree text → HasSyntaxFault SpellsParams text place → ⊥
no_syntax_fault text tree place h k =
    no_text_fault (lexemes_of text h.tokens) tree k.number h.spelled
    (subst (λ ts. IsTextFault SpellsParams MOST_HEIGHT (lexemes_of text ts) k.number) (sym (same_tokens text h.tokens k.tokens h.found k.found)) k.fault)

same_text : SpellsOne → (text : List ℕ) (tree other : TextTree) → SpellsText SpellsParams tree text → IsReadAs SpellsParams text other → tree ≡ other
same_text one text tree other h k =
    one tree other (lexemes_of text h.tokens) h.spelled
    (subst (λ ts. SpellsParams other (lexemes_of text ts)) (sym (same_tokens text h.tokens k.tokens h.found k.found)) k.reads.spelled)

said_back : SpellsOne → (mode : Mode) (i : Instance) (a : Assigned) (text : List ℕ) → TextGivesBack mode i a text → (said : TextAnswer) → AnswersParams text said → IsReadBack mode i a said
said_back one mode i a text h (read_as other) k = subst (GivesItselfBack mode i a) (same_text one text h.tree other h.spelled k) h.gives
said_back one mode i a text h too_long k = tt
said_back one mode i a text h (too_high place) k = tt
said_back one mode i a text h (bad_byte place) k = no_token_fault text h.tree (BadByte place) h.spelled k
said_back one mode i a text h (long_number place) k = no_token_fault text h.tree (LongNumber place) h.spelled k
said_back one mode i a text h (syntax_fault place) k = no_syntax_fault text h.tree place h.spelled k

pub reread : SpellsOne → AnswerTextIsReadAgain → AnswerIsReadBack
reread one again mode model params i spellable bound closed answer written said is =
    said_back one mode i (values_in answer) (answer_text answer) (again mode model params i spellable bound closed answer written) said is

-- ---- judging

judged_one : (mode : Mode) (i : Instance) (found : Found) → violated mode i found ≡ None → has_goal_value mode i found ≡ true → judgement mode i found ≡ a_solution (goal_value mode i found)
unfolding judgement judged_by
judged_one mode i found holds measured = ap₂ (λ n b. judged_by n b (goal_value mode i found)) holds measured

pub solution_judged : SolutionIsJudgedOne
solution_judged mode i a h found fit =
    let same : h.found ≡ found = some_is (sym h.fits.values ∙ fit.values) in
    subst (λ (f : Found). judgement mode i f ≡ a_solution (goal_value mode i f)) same (judged_one mode i h.found h.holds h.measured)
