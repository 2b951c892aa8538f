use Rattle.std.proofs.Common.{◌≡◌, ◌+◌, Some, None, sym, ap, ◌∙◌}
use mathlib.Core.Bool.{true≢false}
use Rattle.news_types.specs.declared.query.Ready.TheVariants.{Now}
use Rattle.news_types.proofs.Members.{some_is, none_some}
use Rattle.publish_queue.specs.Choice.{first_among}
use Rattle.publish_queue.specs.Ready.{next_by}
use Rattle.publish_queue.proofs.AllFeeds.{feed_at}
use Rattle.publish_queue.proofs.Choosing.{ready_some, ready_none, ready_there, goes_on}
use Rattle.publish_queue.proofs.queue.Queue.first_ready.Goals as goal

pub returns-in_err-turn : goal.returns-in_err-turn
returns-in_err-turn c known keeps =
    let none : first_among c.args.names.now c.args.moment c.args.self.now.feeds.turns.turns.items ≡ None = sym (rw c.deref.ensures.value at c.in_err-turn.ensures) in
    c.from_residual.ensures ∙ sym (ready_none c.args.self.now known keeps c.args.names.now c.args.moment none)

pub returns-in_err-at : goal.returns-in_err-at
returns-in_err-at c known keeps =
    let first : first_among c.args.names.now c.args.moment c.args.self.now.feeds.turns.turns.items ≡ Some c.in_ok-turn.turn = sym (rw c.deref.ensures.value at c.in_ok-turn.ensures) in
    absurd (true≢false (sym (ready_there c.args.self.now known keeps c.args.names.now c.args.moment c.in_ok-turn.turn first) ∙ c.in_err-at.ensures.found))

pub returns-in_err-k : goal.returns-in_err-k
returns-in_err-k c known keeps =
    let t = c.in_ok-turn.turn in
    let f = c.index.result.now in
    let first : first_among c.args.names.now c.args.moment c.args.self.now.feeds.turns.turns.items ≡ Some t = sym (rw c.deref.ensures.value at c.in_ok-turn.ensures) in
    let ready = ready_some c.args.self.now known keeps c.args.names.now c.args.moment t first in
    let feed = feed_at known c.args.self.now.feeds c.in_ok-at.at t.name f c.in_ok-at.ensures.found c.index.ensures keeps.feeds in
    let next : next_by f ≡ Some (known.acked t.name + 1) = goes_on known t.name f t.moment feed.0 feed.1 ready.1 in
    absurd (none_some (known.acked t.name + 1) (c.in_err-k.ensures ∙ next))

pub returns : goal.returns
returns c known keeps =
    let t = c.in_ok-turn.turn in
    let f = c.index.result.now in
    let first : first_among c.args.names.now c.args.moment c.args.self.now.feeds.turns.turns.items ≡ Some t = sym (rw c.deref.ensures.value at c.in_ok-turn.ensures) in
    let ready = ready_some c.args.self.now known keeps c.args.names.now c.args.moment t first in
    let feed = feed_at known c.args.self.now.feeds c.in_ok-at.at t.name f c.in_ok-at.ensures.found c.index.ensures keeps.feeds in
    let next : next_by f ≡ Some (known.acked t.name + 1) = goes_on known t.name f t.moment feed.0 feed.1 ready.1 in
    ap (λ k. Some (Now t.name k)) (some_is c.in_ok-k.k (known.acked t.name + 1) (c.in_ok-k.ensures ∙ next)) ∙ sym ready.0
