use Rattle.std.proofs.Common.{ℕ, ◌∷◌, ap, ◌∙◌, subst, arith}
use Rattle.news_types.specs.Due.{taken_back}
use Rattle.news_types.specs.Publications.{standing}
use Rattle.publish_queue.specs.Keeps.{facts}
use Rattle.publish_queue.specs.Withdrawn.{AreOfItem, AreWithin}
use Rattle.story_tables.proofs.Carried.{alike}
use Rattle.story_tables.proofs.feeds.take_back.Goals as goal

pub returns : goal.returns
returns c h g keeps does later at =
    let m = c.args.moment in
    let are : AreOfItem m does.p.item c.args.numbers.now (standing h) = subst (λ (n : ℕ). AreOfItem n does.p.item c.args.numbers.now (standing h)) at does.are in
    let within : AreWithin m c.args.numbers.now c.args.spans.now (standing h) = subst (λ (n : ℕ). AreWithin n c.args.numbers.now c.args.spans.now (standing h)) at does.within in
    alike _ _ (facts g) does.subscribed (does.stands ∙ ap (λ (n : ℕ). does.p ∷ taken_back n does.p.item (standing h)) at) does.sent.receipts does.sent.attempts does.sent.last
    (c.add.ensures.keeps _ does.p
    (c.take_back.ensures.keeps _ does.p.item (c.advance.ensures.keeps _ keeps later) are within)
    (omega arith) does.is_number (does.is_release ∙ at) does.is_due_to does.fair does.known)

pub add-requires-clause-room : goal.add-requires-clause-room
add-requires-clause-room c = c.take_back.ensures.room _ _ _ (c.advance.ensures.room _ _ _ c.requires.room)
