use Rattle.std.proofs.Common.{◌≡◌, ◌++◌, ap, ◌∙◌}
use Rattle.ep_print.proofs.Appends.{five}
use Rattle.ep_print.specs.Answers.{letting_text}
use Rattle.ep_explain_text.proofs.texts.push_letting.Goals as goal

pub returns : goal.returns
unfolding letting_text
returns c =
    let name : c.as_bytes.result.now ≡ c.args.entry.now.name = c.as_bytes.ensures.value ∙ c.text.ensures.text in
    five _ _ _ _ _ _ _ _ _ _ _ c.in_ok-extend_from_slice.ensures.items
    (c.in_ok-extend_from_slice-2.ensures.items ∙ ap (λ n. c.extend_from_slice.new.self.items ++ n) name)
    c.in_ok-extend_from_slice-3.ensures.items (c.in_ok-extend_from_slice-4.ensures.items ∙ ap (λ v. c.extend_from_slice-3.new.self.items ++ v) (c.deref.ensures.value ∙ c.in_ok-value.ensures.text))
    c.in_ok-extend_from_slice-5.ensures.items
