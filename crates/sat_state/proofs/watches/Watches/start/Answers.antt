use Rattle.std.proofs.Common.{◌≡◌, ◌<◌, ◌∙◌, length, ap, arith}
use Rattle.sat_state.specs.Listed.{Listed}
use Rattle.sat_state.specs.Watching.{listed_at}
use Rattle.sat_state.proofs.Listing.{list_read}
use Rattle.sat_state.proofs.Walking.{half_name, lists_seen, started_far, started_near}
use Rattle.sat_state.proofs.watches.Watches.start.Goals as goal

pub returns-then-far-clause-all : goal.returns-then-far-clause-all
returns-then-far-clause-all c = λ entry lt same far.
    let a = c.self.inside in
    let now = c.args.self.now in
    let code = c.code-code.result in
    let known : code < length a.lists.items = omega (arith, c.requires.known, c.code-code.ensures.value, lists_seen a now c.self.view_is) in
    let read : c.index.result.now ≡ listed_at a.lists.items code = list_read a.lists.items code c.index.result.now known c.index.ensures in
    let again : c.index-2.result.now ≡ listed_at a.lists.items code = list_read a.lists.items code c.index-2.result.now known c.index-2.ensures in
    started_far a now c.self.view_is c.self.invariant code c.name-self-inside.result c.nears-nears.result (half_name c.name-self-inside.result code c.args.far c.name-self-inside.ensures) c.args.lit c.code-code.ensures.value
    c.code-code.ensures.some (c.nears-nears.ensures.value ∙ ap (λ (l : Listed). l.nears) read) c.len-len.result (c.len-len.ensures ∙ ap (λ (l : Listed). length l.watches) again) entry lt same (far ∙ c.if-far.true)

pub returns-else-far-clause-all : goal.returns-else-far-clause-all
returns-else-far-clause-all c = λ entry lt same far.
    let a = c.self.inside in
    let now = c.args.self.now in
    let code = c.code-code.result in
    let known : code < length a.lists.items = omega (arith, c.requires.known, c.code-code.ensures.value, lists_seen a now c.self.view_is) in
    let read : c.index.result.now ≡ listed_at a.lists.items code = list_read a.lists.items code c.index.result.now known c.index.ensures in
    started_near a now c.self.view_is c.self.invariant code c.name-self-inside.result c.nears-nears.result (half_name c.name-self-inside.result code c.args.far c.name-self-inside.ensures) c.args.lit c.code-code.ensures.value
    c.code-code.ensures.some (c.nears-nears.ensures.value ∙ ap (λ (l : Listed). l.nears) read) entry lt same (far ∙ c.if-far.false)
