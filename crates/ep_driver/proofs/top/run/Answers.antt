use Rattle.std.proofs.Common.{◌≡◌, ◌∙◌, ℕ, List, Err, inl, inr, ap, subst}
use Rattle.ep_base.specs.Outside.{Rose, TookPart, with_more}
use Rattle.ep_driver.specs.Outputs.{HasOutput}
use Rattle.ep_driver.specs.Puts.{TookOnWant}
use Rattle.ep_driver.proofs.Budgets.{below-said, unforced-said}
use Rattle.ep_driver.proofs.Certified.{ends-verified}
use Rattle.ep_driver.proofs.Files.{formula-stands, generated-stands, log-stands}
use Rattle.ep_driver.proofs.Kept.{promise-stands}
use Rattle.ep_driver.proofs.Once.{ShownOnce, TextsAreOnce, answers-said, judged-on-want, judged-said, refuses-said, shown-once, unlogged-on-want, unlogged-said, unwritten-on-want, unwritten-said, want-once}
use Rattle.ep_driver.proofs.Promises.{may-be-put, never-memory, usage-said, want-others, when-answered, when-failed, when-kept, when-not-held, when-others, when-refused, when-refuted, when-unknown, when-unlogged, when-usage, when-written, why-device}
use Rattle.ep_driver.proofs.Saying.{case-of, run-effective, run-new, run-valid}
use Rattle.ep_driver.proofs.top.run.Goals as goal

pub returns-in-Ok-put_all-clause-promised : goal.returns-in-Ok-put_all-clause-promised
returns-in-Ok-put_all-clause-promised g c =
    let words = c.args.words.now in
    let told = g.F.Files.held c.args.files.now in
    let after = g.F.Files.held c.reply_to.new.files in
    let rose = Rose (g.F.Files.faults c.args.files.now) (g.F.Files.faults c.reply_to.new.files) in
    let status = c.in-Ok.reply.status in
    let text = c.in-Ok.reply.text.items in
    let log = c.reply_to.new.log in
    let case = case-of words told after rose status text log c.in-Ok.ensures.says in
    let Took : List ℕ → Type 0 = λ x. g.K.Sink.taken c.put_all.new.sink ≡ with_more x (g.K.Sink.taken c.args.out.now) in
    let took = subst Took c.deref.ensures.value c.in-Ok-put_all.ensures.all in
    λ h. promise-stands words told status log Took (λ t. HasOutput words t log told after)
    (when-answered words told after rose status text log Took case took (elim h [ inl e ↦ inl e | inr e ↦ inr (inl e) ])) h

pub returns-in-Ok-put_all-clause-answered : goal.returns-in-Ok-put_all-clause-answered
returns-in-Ok-put_all-clause-answered g c =
    let words = c.args.words.now in
    let told = g.F.Files.held c.args.files.now in
    let after = g.F.Files.held c.reply_to.new.files in
    let rose = Rose (g.F.Files.faults c.args.files.now) (g.F.Files.faults c.reply_to.new.files) in
    let status = c.in-Ok.reply.status in
    let text = c.in-Ok.reply.text.items in
    let log = c.reply_to.new.log in
    let case = case-of words told after rose status text log c.in-Ok.ensures.says in
    let Took : List ℕ → Type 0 = λ x. g.K.Sink.taken c.put_all.new.sink ≡ with_more x (g.K.Sink.taken c.args.out.now) in
    let took = subst Took c.deref.ensures.value c.in-Ok-put_all.ensures.all in
    λ h. when-answered words told after rose status text log Took case took h

pub returns-in-Ok-put_all-clause-refuted : goal.returns-in-Ok-put_all-clause-refuted
returns-in-Ok-put_all-clause-refuted g c =
    let words = c.args.words.now in
    let told = g.F.Files.held c.args.files.now in
    let after = g.F.Files.held c.reply_to.new.files in
    let rose = Rose (g.F.Files.faults c.args.files.now) (g.F.Files.faults c.reply_to.new.files) in
    let status = c.in-Ok.reply.status in
    let text = c.in-Ok.reply.text.items in
    let log = c.reply_to.new.log in
    let case = case-of words told after rose status text log c.in-Ok.ensures.says in
    λ h. when-refuted words told after rose status text log case h

pub returns-in-Ok-put_all-clause-refused : goal.returns-in-Ok-put_all-clause-refused
returns-in-Ok-put_all-clause-refused g c =
    let words = c.args.words.now in
    let told = g.F.Files.held c.args.files.now in
    let after = g.F.Files.held c.reply_to.new.files in
    let rose = Rose (g.F.Files.faults c.args.files.now) (g.F.Files.faults c.reply_to.new.files) in
    let status = c.in-Ok.reply.status in
    let text = c.in-Ok.reply.text.items in
    let log = c.reply_to.new.log in
    let case = case-of words told after rose status text log c.in-Ok.ensures.says in
    let Took : List ℕ → Type 0 = λ x. g.K.Sink.taken c.put_all.new.sink ≡ with_more x (g.K.Sink.taken c.args.out.now) in
    let took = subst Took c.deref.ensures.value c.in-Ok-put_all.ensures.all in
    λ h. when-refused words told after rose status text log Took case took h

pub returns-in-Ok-put_all-clause-usage : goal.returns-in-Ok-put_all-clause-usage
returns-in-Ok-put_all-clause-usage g c =
    let words = c.args.words.now in
    let told = g.F.Files.held c.args.files.now in
    let after = g.F.Files.held c.reply_to.new.files in
    let rose = Rose (g.F.Files.faults c.args.files.now) (g.F.Files.faults c.reply_to.new.files) in
    let status = c.in-Ok.reply.status in
    let text = c.in-Ok.reply.text.items in
    let log = c.reply_to.new.log in
    let case = case-of words told after rose status text log c.in-Ok.ensures.says in
    λ h. (when-usage words told after rose status text log case h).0

pub returns-in-Ok-put_all-clause-usage_line : goal.returns-in-Ok-put_all-clause-usage_line
returns-in-Ok-put_all-clause-usage_line g c =
    let words = c.args.words.now in
    let told = g.F.Files.held c.args.files.now in
    let after = g.F.Files.held c.reply_to.new.files in
    let rose = Rose (g.F.Files.faults c.args.files.now) (g.F.Files.faults c.reply_to.new.files) in
    let status = c.in-Ok.reply.status in
    let text = c.in-Ok.reply.text.items in
    let log = c.reply_to.new.log in
    let case = case-of words told after rose status text log c.in-Ok.ensures.says in
    let Took : List ℕ → Type 0 = λ x. g.K.Sink.taken c.put_all.new.sink ≡ with_more x (g.K.Sink.taken c.args.out.now) in
    let took = subst Took c.deref.ensures.value c.in-Ok-put_all.ensures.all in
    λ h. subst Took (when-usage words told after rose status text log case h).1 took

pub returns-in-Ok-put_all-clause-device : goal.returns-in-Ok-put_all-clause-device
returns-in-Ok-put_all-clause-device g c =
    let words = c.args.words.now in
    let told = g.F.Files.held c.args.files.now in
    let after = g.F.Files.held c.reply_to.new.files in
    let rose = Rose (g.F.Files.faults c.args.files.now) (g.F.Files.faults c.reply_to.new.files) in
    let status = c.in-Ok.reply.status in
    let text = c.in-Ok.reply.text.items in
    let log = c.reply_to.new.log in
    let case = case-of words told after rose status text log c.in-Ok.ensures.says in
    λ h. why-device words told after rose _ status text log case h

pub returns-in-Ok-put_all-clause-not_held : goal.returns-in-Ok-put_all-clause-not_held
returns-in-Ok-put_all-clause-not_held g c =
    let words = c.args.words.now in
    let told = g.F.Files.held c.args.files.now in
    let after = g.F.Files.held c.reply_to.new.files in
    let rose = Rose (g.F.Files.faults c.args.files.now) (g.F.Files.faults c.reply_to.new.files) in
    let status = c.in-Ok.reply.status in
    let text = c.in-Ok.reply.text.items in
    let log = c.reply_to.new.log in
    let case = case-of words told after rose status text log c.in-Ok.ensures.says in
    let Took : List ℕ → Type 0 = λ x. g.K.Sink.taken c.put_all.new.sink ≡ with_more x (g.K.Sink.taken c.args.out.now) in
    let took = subst Took c.deref.ensures.value c.in-Ok-put_all.ensures.all in
    λ h calm _. when-not-held words told after rose status text log Took case took h calm

pub returns-in-Ok-put_all-clause-failed : goal.returns-in-Ok-put_all-clause-failed
returns-in-Ok-put_all-clause-failed g c =
    let words = c.args.words.now in
    let told = g.F.Files.held c.args.files.now in
    let after = g.F.Files.held c.reply_to.new.files in
    let rose = Rose (g.F.Files.faults c.args.files.now) (g.F.Files.faults c.reply_to.new.files) in
    let status = c.in-Ok.reply.status in
    let text = c.in-Ok.reply.text.items in
    let log = c.reply_to.new.log in
    let case = case-of words told after rose status text log c.in-Ok.ensures.says in
    let Took : List ℕ → Type 0 = λ x. g.K.Sink.taken c.put_all.new.sink ≡ with_more x (g.K.Sink.taken c.args.out.now) in
    let took = subst Took c.deref.ensures.value c.in-Ok-put_all.ensures.all in
    λ h. inl (when-failed words told after rose status text log Took case took h)

pub returns-in-Ok-put_all-clause-unknown : goal.returns-in-Ok-put_all-clause-unknown
returns-in-Ok-put_all-clause-unknown g c =
    let words = c.args.words.now in
    let told = g.F.Files.held c.args.files.now in
    let after = g.F.Files.held c.reply_to.new.files in
    let rose = Rose (g.F.Files.faults c.args.files.now) (g.F.Files.faults c.reply_to.new.files) in
    let status = c.in-Ok.reply.status in
    let text = c.in-Ok.reply.text.items in
    let log = c.reply_to.new.log in
    let case = case-of words told after rose status text log c.in-Ok.ensures.says in
    λ h. let it = when-unknown words told after rose status text log case h in (it.0, it.1, it.2, it.3, it.4)

pub returns-in-Ok-put_all-clause-few : goal.returns-in-Ok-put_all-clause-few
returns-in-Ok-put_all-clause-few g c =
    let words = c.args.words.now in
    let told = g.F.Files.held c.args.files.now in
    let after = g.F.Files.held c.reply_to.new.files in
    let rose = Rose (g.F.Files.faults c.args.files.now) (g.F.Files.faults c.reply_to.new.files) in
    let status = c.in-Ok.reply.status in
    let text = c.in-Ok.reply.text.items in
    let log = c.reply_to.new.log in
    let case = case-of words told after rose status text log c.in-Ok.ensures.says in
    λ h. below-said c.new_steps_are_few.ensures words log (want-once c.one_job_for_words.ensures words)
    (when-unknown words told after rose status text log case h)

pub returns-in-Ok-put_all-clause-unforced : goal.returns-in-Ok-put_all-clause-unforced
returns-in-Ok-put_all-clause-unforced g c =
    let words = c.args.words.now in
    let told = g.F.Files.held c.args.files.now in
    let after = g.F.Files.held c.reply_to.new.files in
    let rose = Rose (g.F.Files.faults c.args.files.now) (g.F.Files.faults c.reply_to.new.files) in
    let status = c.in-Ok.reply.status in
    let text = c.in-Ok.reply.text.items in
    let log = c.reply_to.new.log in
    let case = case-of words told after rose status text log c.in-Ok.ensures.says in
    λ h. unforced-said c.no_step_is_effective_after_a_conflict.ensures words log
    (when-unknown words told after rose status text log case h)

pub returns-in-Ok-put_all-clause-usage_refused : goal.returns-in-Ok-put_all-clause-usage_refused
returns-in-Ok-put_all-clause-usage_refused g c =
    let words = c.args.words.now in
    let told = g.F.Files.held c.args.files.now in
    let after = g.F.Files.held c.reply_to.new.files in
    let rose = Rose (g.F.Files.faults c.args.files.now) (g.F.Files.faults c.reply_to.new.files) in
    let status = c.in-Ok.reply.status in
    let text = c.in-Ok.reply.text.items in
    let log = c.reply_to.new.log in
    let case = case-of words told after rose status text log c.in-Ok.ensures.says in
    λ none _. usage-said words told after rose status text log case none

pub returns-in-Ok-put_all-clause-wanting : goal.returns-in-Ok-put_all-clause-wanting
returns-in-Ok-put_all-clause-wanting g c =
    let words = c.args.words.now in
    let told = g.F.Files.held c.args.files.now in
    let after = g.F.Files.held c.reply_to.new.files in
    let rose = Rose (g.F.Files.faults c.args.files.now) (g.F.Files.faults c.reply_to.new.files) in
    let status = c.in-Ok.reply.status in
    let text = c.in-Ok.reply.text.items in
    let log = c.reply_to.new.log in
    let case = case-of words told after rose status text log c.in-Ok.ensures.says in
    let Want : Type 0 = TookOnWant words told after rose log (g.K.Sink.taken c.args.out.now) (g.K.Sink.taken c.put_all.new.sink) in
    λ h. absurd {A = Want} (never-memory words told after rose status text log case h)

pub returns-in-Ok-put_all-clause-refuses : goal.returns-in-Ok-put_all-clause-refuses
returns-in-Ok-put_all-clause-refuses g c =
    let words = c.args.words.now in
    let told = g.F.Files.held c.args.files.now in
    let after = g.F.Files.held c.reply_to.new.files in
    let rose = Rose (g.F.Files.faults c.args.files.now) (g.F.Files.faults c.reply_to.new.files) in
    let status = c.in-Ok.reply.status in
    let text = c.in-Ok.reply.text.items in
    let log = c.reply_to.new.log in
    let case = case-of words told after rose status text log c.in-Ok.ensures.says in
    let texts : TextsAreOnce = record {
      model = c.texts_have_one_answer.ensures.models;
      params = c.texts_have_one_answer.ensures.params;
      solution = c.texts_have_one_answer.ensures.params;
      formula = c.cnf_texts_have_one_meaning.ensures.one;
      proof = c.log_texts_have_one_meaning.ensures.one;
      opb = c.opb_texts_come_to_one_thing.ensures.once;
    } in
    let once : ShownOnce words = shown-once c.one_job_for_words.ensures texts words in
    λ calm _. refuses-said words told after rose status text log once case calm

pub returns-in-Ok-put_all-clause-answers : goal.returns-in-Ok-put_all-clause-answers
returns-in-Ok-put_all-clause-answers g c =
    let words = c.args.words.now in
    let told = g.F.Files.held c.args.files.now in
    let after = g.F.Files.held c.reply_to.new.files in
    let rose = Rose (g.F.Files.faults c.args.files.now) (g.F.Files.faults c.reply_to.new.files) in
    let status = c.in-Ok.reply.status in
    let text = c.in-Ok.reply.text.items in
    let log = c.reply_to.new.log in
    let case = case-of words told after rose status text log c.in-Ok.ensures.says in
    let texts : TextsAreOnce = record {
      model = c.texts_have_one_answer.ensures.models;
      params = c.texts_have_one_answer.ensures.params;
      solution = c.texts_have_one_answer.ensures.params;
      formula = c.cnf_texts_have_one_meaning.ensures.one;
      proof = c.log_texts_have_one_meaning.ensures.one;
      opb = c.opb_texts_come_to_one_thing.ensures.once;
    } in
    let once : ShownOnce words = shown-once c.one_job_for_words.ensures texts words in
    λ calm _. answers-said words told after rose status text log once case calm

pub returns-in-Err-Failed-clause-failed : goal.returns-in-Err-Failed-clause-failed
returns-in-Err-Failed-clause-failed g c =
    let words = c.args.words.now in
    let told = g.F.Files.held c.args.files.now in
    let after = g.F.Files.held c.reply_to.new.files in
    let rose = Rose (g.F.Files.faults c.args.files.now) (g.F.Files.faults c.reply_to.new.files) in
    let status = c.in-Ok.reply.status in
    let text = c.in-Ok.reply.text.items in
    let log = c.reply_to.new.log in
    let case = case-of words told after rose status text log c.in-Ok.ensures.says in
    let Part : List ℕ → Type 0 = λ x. TookPart x (g.K.Sink.taken c.args.out.now) (g.K.Sink.taken c.put_all.new.sink) in
    λ h. inr (
      c.put_all.ensures.failed (c.in-Err-Failed.is ∙ ap Err c.in-Err-Failed.field-0-is),
      text,
      may-be-put words told after rose status text log case,
      subst Part c.deref.ensures.value c.in-Err-Failed.ensures.part,
    )

pub returns-clause-wanting : goal.returns-clause-wanting
returns-clause-wanting g c =
    let words = c.args.words.now in
    let told = g.F.Files.held c.args.files.now in
    let after = g.F.Files.held c.reply_to.new.files in
    let rose = Rose (g.F.Files.faults c.args.files.now) (g.F.Files.faults c.reply_to.new.files) in
    let status = c.in-Ok.reply.status in
    let text = c.in-Ok.reply.text.items in
    let log = c.reply_to.new.log in
    let case = case-of words told after rose status text log c.in-Ok.ensures.says in
    let Part : List ℕ → Type 0 = λ x. TookPart x (g.K.Sink.taken c.args.out.now) (g.K.Sink.taken c.put_all.new.sink) in
    λ h. inr (text, may-be-put words told after rose status text log case, subst Part c.deref.ensures.value c.in-Err-Memory.ensures.part)

pub returns-in-Ok-put_all-clause-refused_unlogged : goal.returns-in-Ok-put_all-clause-refused_unlogged
returns-in-Ok-put_all-clause-refused_unlogged g c =
    let words = c.args.words.now in
    let told = g.F.Files.held c.args.files.now in
    let after = g.F.Files.held c.reply_to.new.files in
    let rose = Rose (g.F.Files.faults c.args.files.now) (g.F.Files.faults c.reply_to.new.files) in
    let status = c.in-Ok.reply.status in
    let text = c.in-Ok.reply.text.items in
    let log = c.reply_to.new.log in
    let case = case-of words told after rose status text log c.in-Ok.ensures.says in
    let texts : TextsAreOnce = record {
      model = c.texts_have_one_answer.ensures.models;
      params = c.texts_have_one_answer.ensures.params;
      solution = c.texts_have_one_answer.ensures.params;
      formula = c.cnf_texts_have_one_meaning.ensures.one;
      proof = c.log_texts_have_one_meaning.ensures.one;
      opb = c.opb_texts_come_to_one_thing.ensures.once;
    } in
    let once : ShownOnce words = shown-once c.one_job_for_words.ensures texts words in
    unlogged-said words told after rose status text log once case

pub returns-in-Err-Failed-clause-refused_unlogged : goal.returns-in-Err-Failed-clause-refused_unlogged
returns-in-Err-Failed-clause-refused_unlogged g c =
    let words = c.args.words.now in
    let told = g.F.Files.held c.args.files.now in
    let after = g.F.Files.held c.reply_to.new.files in
    let rose = Rose (g.F.Files.faults c.args.files.now) (g.F.Files.faults c.reply_to.new.files) in
    let status = c.in-Ok.reply.status in
    let text = c.in-Ok.reply.text.items in
    let log = c.reply_to.new.log in
    let case = case-of words told after rose status text log c.in-Ok.ensures.says in
    let texts : TextsAreOnce = record {
      model = c.texts_have_one_answer.ensures.models;
      params = c.texts_have_one_answer.ensures.params;
      solution = c.texts_have_one_answer.ensures.params;
      formula = c.cnf_texts_have_one_meaning.ensures.one;
      proof = c.log_texts_have_one_meaning.ensures.one;
      opb = c.opb_texts_come_to_one_thing.ensures.once;
    } in
    let once : ShownOnce words = shown-once c.one_job_for_words.ensures texts words in
    unlogged-said words told after rose status text log once case

pub returns-in-Ok-put_all-clause-unlogged : goal.returns-in-Ok-put_all-clause-unlogged
returns-in-Ok-put_all-clause-unlogged g c =
    let words = c.args.words.now in
    let told = g.F.Files.held c.args.files.now in
    let after = g.F.Files.held c.reply_to.new.files in
    let rose = Rose (g.F.Files.faults c.args.files.now) (g.F.Files.faults c.reply_to.new.files) in
    let status = c.in-Ok.reply.status in
    let text = c.in-Ok.reply.text.items in
    let log = c.reply_to.new.log in
    let case = case-of words told after rose status text log c.in-Ok.ensures.says in
    λ h. when-unlogged words told after rose status text log case h

pub returns-in_default-clause-others : goal.returns-in_default-clause-others
returns-in_default-clause-others g c =
    let words = c.args.words.now in
    let told = g.F.Files.held c.args.files.now in
    let after = g.F.Files.held c.reply_to.new.files in
    let rose = Rose (g.F.Files.faults c.args.files.now) (g.F.Files.faults c.reply_to.new.files) in
    want-others words told after rose c.reply_to.new.log c.in_default.ensures.wants

pub returns-in-Ok-put_all-clause-others : goal.returns-in-Ok-put_all-clause-others
returns-in-Ok-put_all-clause-others g c =
    let words = c.args.words.now in
    let told = g.F.Files.held c.args.files.now in
    let after = g.F.Files.held c.reply_to.new.files in
    let rose = Rose (g.F.Files.faults c.args.files.now) (g.F.Files.faults c.reply_to.new.files) in
    let status = c.in-Ok.reply.status in
    let text = c.in-Ok.reply.text.items in
    let log = c.reply_to.new.log in
    let case = case-of words told after rose status text log c.in-Ok.ensures.says in
    when-others words told after rose status text log case

pub returns-in-Err-Failed-clause-others : goal.returns-in-Err-Failed-clause-others
returns-in-Err-Failed-clause-others g c =
    let words = c.args.words.now in
    let told = g.F.Files.held c.args.files.now in
    let after = g.F.Files.held c.reply_to.new.files in
    let rose = Rose (g.F.Files.faults c.args.files.now) (g.F.Files.faults c.reply_to.new.files) in
    let status = c.in-Ok.reply.status in
    let text = c.in-Ok.reply.text.items in
    let log = c.reply_to.new.log in
    let case = case-of words told after rose status text log c.in-Ok.ensures.says in
    when-others words told after rose status text log case

pub returns-clause-others : goal.returns-clause-others
returns-clause-others g c =
    let words = c.args.words.now in
    let told = g.F.Files.held c.args.files.now in
    let after = g.F.Files.held c.reply_to.new.files in
    let rose = Rose (g.F.Files.faults c.args.files.now) (g.F.Files.faults c.reply_to.new.files) in
    let status = c.in-Ok.reply.status in
    let text = c.in-Ok.reply.text.items in
    let log = c.reply_to.new.log in
    let case = case-of words told after rose status text log c.in-Ok.ensures.says in
    when-others words told after rose status text log case

pub returns-in-Ok-put_all-clause-unwritten : goal.returns-in-Ok-put_all-clause-unwritten
returns-in-Ok-put_all-clause-unwritten g c =
    let words = c.args.words.now in
    let told = g.F.Files.held c.args.files.now in
    let after = g.F.Files.held c.reply_to.new.files in
    let rose = Rose (g.F.Files.faults c.args.files.now) (g.F.Files.faults c.reply_to.new.files) in
    let status = c.in-Ok.reply.status in
    let text = c.in-Ok.reply.text.items in
    let log = c.reply_to.new.log in
    let case = case-of words told after rose status text log c.in-Ok.ensures.says in
    λ h. when-kept words told after rose status text log case h

pub returns-in_default-clause-refused_unwritten : goal.returns-in_default-clause-refused_unwritten
returns-in_default-clause-refused_unwritten g c =
    let words = c.args.words.now in
    let told = g.F.Files.held c.args.files.now in
    let after = g.F.Files.held c.reply_to.new.files in
    let rose = Rose (g.F.Files.faults c.args.files.now) (g.F.Files.faults c.reply_to.new.files) in
    let texts : TextsAreOnce = record {
      model = c.texts_have_one_answer.ensures.models;
      params = c.texts_have_one_answer.ensures.params;
      solution = c.texts_have_one_answer.ensures.params;
      formula = c.cnf_texts_have_one_meaning.ensures.one;
      proof = c.log_texts_have_one_meaning.ensures.one;
      opb = c.opb_texts_come_to_one_thing.ensures.once;
    } in
    let once : ShownOnce words = shown-once c.one_job_for_words.ensures texts words in
    unwritten-on-want words told after rose c.reply_to.new.log once c.in_default.ensures.wants

pub returns-in-Ok-put_all-clause-refused_unwritten : goal.returns-in-Ok-put_all-clause-refused_unwritten
returns-in-Ok-put_all-clause-refused_unwritten g c =
    let words = c.args.words.now in
    let told = g.F.Files.held c.args.files.now in
    let after = g.F.Files.held c.reply_to.new.files in
    let rose = Rose (g.F.Files.faults c.args.files.now) (g.F.Files.faults c.reply_to.new.files) in
    let status = c.in-Ok.reply.status in
    let text = c.in-Ok.reply.text.items in
    let log = c.reply_to.new.log in
    let case = case-of words told after rose status text log c.in-Ok.ensures.says in
    let texts : TextsAreOnce = record {
      model = c.texts_have_one_answer.ensures.models;
      params = c.texts_have_one_answer.ensures.params;
      solution = c.texts_have_one_answer.ensures.params;
      formula = c.cnf_texts_have_one_meaning.ensures.one;
      proof = c.log_texts_have_one_meaning.ensures.one;
      opb = c.opb_texts_come_to_one_thing.ensures.once;
    } in
    let once : ShownOnce words = shown-once c.one_job_for_words.ensures texts words in
    unwritten-said words told after rose status text log once case

pub returns-in-Err-Failed-clause-refused_unwritten : goal.returns-in-Err-Failed-clause-refused_unwritten
returns-in-Err-Failed-clause-refused_unwritten g c =
    let words = c.args.words.now in
    let told = g.F.Files.held c.args.files.now in
    let after = g.F.Files.held c.reply_to.new.files in
    let rose = Rose (g.F.Files.faults c.args.files.now) (g.F.Files.faults c.reply_to.new.files) in
    let status = c.in-Ok.reply.status in
    let text = c.in-Ok.reply.text.items in
    let log = c.reply_to.new.log in
    let case = case-of words told after rose status text log c.in-Ok.ensures.says in
    let texts : TextsAreOnce = record {
      model = c.texts_have_one_answer.ensures.models;
      params = c.texts_have_one_answer.ensures.params;
      solution = c.texts_have_one_answer.ensures.params;
      formula = c.cnf_texts_have_one_meaning.ensures.one;
      proof = c.log_texts_have_one_meaning.ensures.one;
      opb = c.opb_texts_come_to_one_thing.ensures.once;
    } in
    let once : ShownOnce words = shown-once c.one_job_for_words.ensures texts words in
    unwritten-said words told after rose status text log once case

pub returns-clause-refused_unwritten : goal.returns-clause-refused_unwritten
returns-clause-refused_unwritten g c =
    let words = c.args.words.now in
    let told = g.F.Files.held c.args.files.now in
    let after = g.F.Files.held c.reply_to.new.files in
    let rose = Rose (g.F.Files.faults c.args.files.now) (g.F.Files.faults c.reply_to.new.files) in
    let status = c.in-Ok.reply.status in
    let text = c.in-Ok.reply.text.items in
    let log = c.reply_to.new.log in
    let case = case-of words told after rose status text log c.in-Ok.ensures.says in
    let texts : TextsAreOnce = record {
      model = c.texts_have_one_answer.ensures.models;
      params = c.texts_have_one_answer.ensures.params;
      solution = c.texts_have_one_answer.ensures.params;
      formula = c.cnf_texts_have_one_meaning.ensures.one;
      proof = c.log_texts_have_one_meaning.ensures.one;
      opb = c.opb_texts_come_to_one_thing.ensures.once;
    } in
    let once : ShownOnce words = shown-once c.one_job_for_words.ensures texts words in
    unwritten-said words told after rose status text log once case

pub returns-in_default-clause-refused_unlogged : goal.returns-in_default-clause-refused_unlogged
returns-in_default-clause-refused_unlogged g c =
    let words = c.args.words.now in
    let told = g.F.Files.held c.args.files.now in
    let texts : TextsAreOnce = record {
      model = c.texts_have_one_answer.ensures.models;
      params = c.texts_have_one_answer.ensures.params;
      solution = c.texts_have_one_answer.ensures.params;
      formula = c.cnf_texts_have_one_meaning.ensures.one;
      proof = c.log_texts_have_one_meaning.ensures.one;
      opb = c.opb_texts_come_to_one_thing.ensures.once;
    } in
    let once : ShownOnce words = shown-once c.one_job_for_words.ensures texts words in
    unlogged-on-want words told c.reply_to.new.log once c.in_default.ensures.asked

pub returns-clause-refused_unlogged : goal.returns-clause-refused_unlogged
returns-clause-refused_unlogged g c =
    let words = c.args.words.now in
    let told = g.F.Files.held c.args.files.now in
    let after = g.F.Files.held c.reply_to.new.files in
    let rose = Rose (g.F.Files.faults c.args.files.now) (g.F.Files.faults c.reply_to.new.files) in
    let status = c.in-Ok.reply.status in
    let text = c.in-Ok.reply.text.items in
    let log = c.reply_to.new.log in
    let case = case-of words told after rose status text log c.in-Ok.ensures.says in
    let texts : TextsAreOnce = record {
      model = c.texts_have_one_answer.ensures.models;
      params = c.texts_have_one_answer.ensures.params;
      solution = c.texts_have_one_answer.ensures.params;
      formula = c.cnf_texts_have_one_meaning.ensures.one;
      proof = c.log_texts_have_one_meaning.ensures.one;
      opb = c.opb_texts_come_to_one_thing.ensures.once;
    } in
    let once : ShownOnce words = shown-once c.one_job_for_words.ensures texts words in
    unlogged-said words told after rose status text log once case

pub returns-in_default-clause-judged_unlogged : goal.returns-in_default-clause-judged_unlogged
returns-in_default-clause-judged_unlogged g c =
    let words = c.args.words.now in
    let told = g.F.Files.held c.args.files.now in
    judged-on-want words told c.reply_to.new.log (want-once c.one_job_for_words.ensures words) c.in_default.ensures.asked

pub returns-in-Ok-put_all-clause-judged_unlogged : goal.returns-in-Ok-put_all-clause-judged_unlogged
returns-in-Ok-put_all-clause-judged_unlogged g c =
    let words = c.args.words.now in
    let told = g.F.Files.held c.args.files.now in
    let after = g.F.Files.held c.reply_to.new.files in
    let rose = Rose (g.F.Files.faults c.args.files.now) (g.F.Files.faults c.reply_to.new.files) in
    let status = c.in-Ok.reply.status in
    let text = c.in-Ok.reply.text.items in
    let log = c.reply_to.new.log in
    let case = case-of words told after rose status text log c.in-Ok.ensures.says in
    judged-said words told after rose status text log (want-once c.one_job_for_words.ensures words) case

pub returns-in-Err-Failed-clause-judged_unlogged : goal.returns-in-Err-Failed-clause-judged_unlogged
returns-in-Err-Failed-clause-judged_unlogged g c =
    let words = c.args.words.now in
    let told = g.F.Files.held c.args.files.now in
    let after = g.F.Files.held c.reply_to.new.files in
    let rose = Rose (g.F.Files.faults c.args.files.now) (g.F.Files.faults c.reply_to.new.files) in
    let status = c.in-Ok.reply.status in
    let text = c.in-Ok.reply.text.items in
    let log = c.reply_to.new.log in
    let case = case-of words told after rose status text log c.in-Ok.ensures.says in
    judged-said words told after rose status text log (want-once c.one_job_for_words.ensures words) case

pub returns-clause-judged_unlogged : goal.returns-clause-judged_unlogged
returns-clause-judged_unlogged g c =
    let words = c.args.words.now in
    let told = g.F.Files.held c.args.files.now in
    let after = g.F.Files.held c.reply_to.new.files in
    let rose = Rose (g.F.Files.faults c.args.files.now) (g.F.Files.faults c.reply_to.new.files) in
    let status = c.in-Ok.reply.status in
    let text = c.in-Ok.reply.text.items in
    let log = c.reply_to.new.log in
    let case = case-of words told after rose status text log c.in-Ok.ensures.says in
    judged-said words told after rose status text log (want-once c.one_job_for_words.ensures words) case

pub returns-in_default-clause-wanting : goal.returns-in_default-clause-wanting
returns-in_default-clause-wanting g c = λ h. inl (c.in_default.ensures.wants, c.put_memory.ensures.taken)

pub returns-in_default-clause-accepted : goal.returns-in_default-clause-accepted
returns-in_default-clause-accepted g c = c.valid_logs_are_accepted.ensures.no_bad c.reply_to.new.log.events (run-valid c.args.words.now c.reply_to.new.log.events c.reply_to.ensures.sound)

pub returns-in_default-clause-verified : goal.returns-in_default-clause-verified
returns-in_default-clause-verified g c = λ ends. ends-verified c.valid_logs_are_accepted.ensures.closed c.reply_to.new.log.events (run-valid c.args.words.now c.reply_to.new.log.events c.reply_to.ensures.sound) ends

pub returns-in-Ok-put_all-clause-accepted : goal.returns-in-Ok-put_all-clause-accepted
returns-in-Ok-put_all-clause-accepted g c = c.valid_logs_are_accepted.ensures.no_bad c.reply_to.new.log.events (run-valid c.args.words.now c.reply_to.new.log.events c.reply_to.ensures.sound)

pub returns-in-Ok-put_all-clause-verified : goal.returns-in-Ok-put_all-clause-verified
returns-in-Ok-put_all-clause-verified g c = λ ends. ends-verified c.valid_logs_are_accepted.ensures.closed c.reply_to.new.log.events (run-valid c.args.words.now c.reply_to.new.log.events c.reply_to.ensures.sound) ends

pub returns-in-Err-Failed-clause-accepted : goal.returns-in-Err-Failed-clause-accepted
returns-in-Err-Failed-clause-accepted g c = c.valid_logs_are_accepted.ensures.no_bad c.reply_to.new.log.events (run-valid c.args.words.now c.reply_to.new.log.events c.reply_to.ensures.sound)

pub returns-in-Err-Failed-clause-verified : goal.returns-in-Err-Failed-clause-verified
returns-in-Err-Failed-clause-verified g c = λ ends. ends-verified c.valid_logs_are_accepted.ensures.closed c.reply_to.new.log.events (run-valid c.args.words.now c.reply_to.new.log.events c.reply_to.ensures.sound) ends

pub returns-clause-accepted : goal.returns-clause-accepted
returns-clause-accepted g c = c.valid_logs_are_accepted.ensures.no_bad c.reply_to.new.log.events (run-valid c.args.words.now c.reply_to.new.log.events c.reply_to.ensures.sound)

pub returns-clause-verified : goal.returns-clause-verified
returns-clause-verified g c = λ ends. ends-verified c.valid_logs_are_accepted.ensures.closed c.reply_to.new.log.events (run-valid c.args.words.now c.reply_to.new.log.events c.reply_to.ensures.sound) ends

pub returns-in-Ok-put_all-clause-formula_file : goal.returns-in-Ok-put_all-clause-formula_file
returns-in-Ok-put_all-clause-formula_file g c =
    let words = c.args.words.now in
    let told = g.F.Files.held c.args.files.now in
    let after = g.F.Files.held c.reply_to.new.files in
    let rose = Rose (g.F.Files.faults c.args.files.now) (g.F.Files.faults c.reply_to.new.files) in
    let status = c.in-Ok.reply.status in
    let text = c.in-Ok.reply.text.items in
    let log = c.reply_to.new.log in
    let case = case-of words told after rose status text log c.in-Ok.ensures.says in
    λ h. formula-stands words text log told after (want-once c.one_job_for_words.ensures words) (when-written words told after rose status text log case h)

pub returns-in-Ok-put_all-clause-log_file : goal.returns-in-Ok-put_all-clause-log_file
returns-in-Ok-put_all-clause-log_file g c =
    let words = c.args.words.now in
    let told = g.F.Files.held c.args.files.now in
    let after = g.F.Files.held c.reply_to.new.files in
    let rose = Rose (g.F.Files.faults c.args.files.now) (g.F.Files.faults c.reply_to.new.files) in
    let status = c.in-Ok.reply.status in
    let text = c.in-Ok.reply.text.items in
    let log = c.reply_to.new.log in
    let case = case-of words told after rose status text log c.in-Ok.ensures.says in
    λ h. log-stands words text log told after (want-once c.one_job_for_words.ensures words) (when-written words told after rose status text log case h)

pub returns-in-Ok-put_all-clause-generated : goal.returns-in-Ok-put_all-clause-generated
returns-in-Ok-put_all-clause-generated g c =
    let words = c.args.words.now in
    let told = g.F.Files.held c.args.files.now in
    let after = g.F.Files.held c.reply_to.new.files in
    let rose = Rose (g.F.Files.faults c.args.files.now) (g.F.Files.faults c.reply_to.new.files) in
    let status = c.in-Ok.reply.status in
    let text = c.in-Ok.reply.text.items in
    let log = c.reply_to.new.log in
    let case = case-of words told after rose status text log c.in-Ok.ensures.says in
    let Took : List ℕ → Type 0 = λ x. g.K.Sink.taken c.put_all.new.sink ≡ with_more x (g.K.Sink.taken c.args.out.now) in
    let took = subst Took c.deref.ensures.value c.in-Ok-put_all.ensures.all in
    λ h number conflicts eprime param want.
    generated-stands words told after status text log Took number conflicts eprime param (want-once c.one_job_for_words.ensures words) want (c.in-Ok.ensures.generated h number conflicts eprime param want)
    (when-written words told after rose status text log case h) took

pub returns-in_default-clause-valid : goal.returns-in_default-clause-valid
returns-in_default-clause-valid g c = run-valid c.args.words.now c.reply_to.new.log.events c.reply_to.ensures.sound

pub returns-in_default-clause-new : goal.returns-in_default-clause-new
returns-in_default-clause-new g c = run-new c.args.words.now c.reply_to.new.log.events c.reply_to.ensures.sound

pub returns-in_default-clause-sound : goal.returns-in_default-clause-sound
returns-in_default-clause-sound g c = λ h.
    elim h [ inl none ↦ run-effective c.args.words.now c.reply_to.new.log.events c.reply_to.ensures.sound none | inr e ↦ absurd cc ]

pub returns-in-Ok-put_all-clause-valid : goal.returns-in-Ok-put_all-clause-valid
returns-in-Ok-put_all-clause-valid g c = run-valid c.args.words.now c.reply_to.new.log.events c.reply_to.ensures.sound

pub returns-in-Ok-put_all-clause-new : goal.returns-in-Ok-put_all-clause-new
returns-in-Ok-put_all-clause-new g c = run-new c.args.words.now c.reply_to.new.log.events c.reply_to.ensures.sound

pub returns-in-Err-Failed-clause-valid : goal.returns-in-Err-Failed-clause-valid
returns-in-Err-Failed-clause-valid g c = run-valid c.args.words.now c.reply_to.new.log.events c.reply_to.ensures.sound

pub returns-in-Err-Failed-clause-new : goal.returns-in-Err-Failed-clause-new
returns-in-Err-Failed-clause-new g c = run-new c.args.words.now c.reply_to.new.log.events c.reply_to.ensures.sound

pub returns-in-Err-Failed-clause-sound : goal.returns-in-Err-Failed-clause-sound
returns-in-Err-Failed-clause-sound g c = λ h.
    elim h [ inl none ↦ run-effective c.args.words.now c.reply_to.new.log.events c.reply_to.ensures.sound none | inr e ↦ absurd cc ]

pub returns-clause-valid : goal.returns-clause-valid
returns-clause-valid g c = run-valid c.args.words.now c.reply_to.new.log.events c.reply_to.ensures.sound

pub returns-clause-new : goal.returns-clause-new
returns-clause-new g c = run-new c.args.words.now c.reply_to.new.log.events c.reply_to.ensures.sound

pub returns-clause-sound : goal.returns-clause-sound
returns-clause-sound g c = λ h.
    elim h [ inl none ↦ run-effective c.args.words.now c.reply_to.new.log.events c.reply_to.ensures.sound none | inr e ↦ absurd cc ]

pub returns-in-Ok-put_all-clause-sound : goal.returns-in-Ok-put_all-clause-sound
returns-in-Ok-put_all-clause-sound g c =
    let words = c.args.words.now in
    let told = g.F.Files.held c.args.files.now in
    let after = g.F.Files.held c.reply_to.new.files in
    let rose = Rose (g.F.Files.faults c.args.files.now) (g.F.Files.faults c.reply_to.new.files) in
    let status = c.in-Ok.reply.status in
    let text = c.in-Ok.reply.text.items in
    let log = c.reply_to.new.log in
    let case = case-of words told after rose status text log c.in-Ok.ensures.says in
    λ h. elim h [ inl none ↦ run-effective words log.events c.reply_to.ensures.sound none | inr u ↦ (when-unknown words told after rose status text log case u).5 ]
