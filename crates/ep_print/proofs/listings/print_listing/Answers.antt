use Rattle.std.proofs.Common.{◌≡◌, ◌++◌, ◌∙◌, ℕ, List, map, ap}
use Rattle.ep_tree.specs.Solutions.{Assigned}
use Rattle.ep_tree.specs.Views.{assigned}
use Rattle.ep_print.specs.Answers.{language_line}
use Rattle.ep_print.specs.Listings.{end_text, end_tree, listing_text, listing_tree, solution_texts}
use Rattle.ep_print.proofs.Appends.{two}
use Rattle.ep_print.proofs.listings.print_listing.Goals as goal

pub returns : goal.returns
unfolding listing_text listing_tree
returns c =
    let found : List Assigned = map assigned c.args.listing.now.found.items in
    let solutions : List ℕ = solution_texts 1 found in
    let begun : List ℕ = c.in_ok-text.text.items in
    let listed : List ℕ = c.push_solutions.new.text.items in
    let one : listed ≡ language_line ++ solutions =
    c.in_ok-push_solutions.ensures ∙ ap (λ fs. begun ++ solution_texts 1 (map assigned fs)) c.deref.ensures.value ∙ ap (λ t. t ++ solutions) c.in_ok-text.ensures.items in
    let both : c.push_end.new.text.items ≡ listed ++ end_text found (end_tree c.args.listing.now.end) =
    c.in_ok-push_end.ensures ∙ ap (λ fs. listed ++ end_text (map assigned fs) (end_tree c.args.listing.now.end)) c.deref-2.ensures.value in
    record { text = two language_line solutions (end_text found (end_tree c.args.listing.now.end)) listed c.push_end.new.text.items one both }
