use Rattle.std.proofs.Common.{◌≡◌, ◌<◌, ◌*◌, ◌/◌, ◌∙◌, length, ap, arith}
use Rattle.std.proofs.lemmas.Bool.{eqb-true}
use Rattle.sat_state.specs.Listed.{Listed}
use Rattle.sat_state.specs.Watching.{listed_at}
use Rattle.sat_state.proofs.Listing.{list_read}
use Rattle.sat_state.proofs.Walking.{lists_seen, none_far}
use Rattle.sat_state.proofs.watches.Watches.has_no_far.Goals as goal

pub returns : goal.returns
returns c = λ yes entry lt same.
    let a = c.self.inside in
    let now = c.args.self.now in
    let code = c.code-code.result in
    let known : code < length a.lists.items = omega (arith, c.requires.known, c.code-code.ensures.value, lists_seen a now c.self.view_is) in
    let nears : c.nears.result ≡ (listed_at a.lists.items code).nears = c.nears.ensures.value ∙ ap (λ (l : Listed). l.nears) (list_read a.lists.items code c.index.result.now known c.index.ensures) in
    let all : c.nears.result ≡ length (listed_at a.lists.items code).watches
    = eqb-true c.nears.result c.len.result yes ∙ c.len.ensures ∙ ap (λ (l : Listed). length l.watches) (list_read a.lists.items code c.index-2.result.now known c.index-2.ensures) in
    none_far a now c.self.view_is c.self.invariant code (2 * code) c.nears.result (let half : (2 * code) / 2 ≡ code = omega arith in half) c.args.lit c.code-code.ensures.value c.code-code.ensures.some nears all entry lt same
