use Rattle.std.proofs.Common.{◌≡◌, Option, sym, ap, ◌∙◌, arith}
use Rattle.std.specs.Option.{option_map, option_copied}
use Rattle.news_types.specs.History.{Asked, last, number_of}
use Rattle.news_types.specs.Denial.{turn_denial, is_repeat}
use Rattle.news_types.proofs.Limits.{last_numbers_within}
use Rattle.newsroom.specs.Callers.{asked_of, reply_of}
use Rattle.newsroom.proofs.Deciding.{turned, repeated, denied, accepted, legal_next}
use Rattle.newsroom.proofs.Allowed.{operands}
use Rattle.newsroom.proofs.newsroom.Newsroom.prepare_request.Goals as goal

pub turn_denied-requires : goal.turn_denied-requires
turn_denied-requires c =
    let h = c.requires.stands.0 in
    let stands = c.requires.stands.1.0 in
    let number = ap number_of (stands.callers.asked c.args.caller.now) in
    rw c.get-last.ensures.value (omega (arith, number, last_numbers_within h c.args.caller.now stands.legal, c.requires.stands.1.1))

pub returns-in-Some-clause-outcome : goal.returns-in-Some-clause-outcome
returns-in-Some-clause-outcome c h stands =
    let before : option_map asked_of (option_copied c.get-last.result) ≡ last h c.args.caller.now = ap (option_map asked_of) c.get-last.ensures.value ∙ stands.callers.asked c.args.caller.now in
    turned h c.args.caller.now c.args.number c.args.command.now c.args.moment c.in-Some.denial
    (sym (ap (λ (o : Option Asked). turn_denial o c.args.number c.args.command.now) before) ∙ sym c.turn_denied.ensures ∙ c.in-Some.is)

pub returns-then-repeats-clause-outcome : goal.returns-then-repeats-clause-outcome
returns-then-repeats-clause-outcome c h stands =
    let before : option_map asked_of (option_copied c.get-last.result) ≡ last h c.args.caller.now = ap (option_map asked_of) c.get-last.ensures.value ∙ stands.callers.asked c.args.caller.now in
    repeated h c.args.caller.now c.args.number c.args.command.now c.args.moment c.replied.result
    (sym (ap (λ (o : Option Asked). turn_denial o c.args.number c.args.command.now) before) ∙ sym c.turn_denied.ensures ∙ c.in_default.is)
    (sym (ap (λ (o : Option Asked). is_repeat o c.args.number c.args.command.now) before) ∙ sym c.repeats.ensures ∙ c.if-repeats.true)
    (sym (stands.callers.replied c.args.caller.now) ∙ sym (ap reply_of c.get-last.ensures.value) ∙ sym c.replied.ensures)

pub returns-in-Some-command_denied-clause-outcome : goal.returns-in-Some-command_denied-clause-outcome
returns-in-Some-command_denied-clause-outcome c h stands =
    let before : option_map asked_of (option_copied c.get-last.result) ≡ last h c.args.caller.now = ap (option_map asked_of) c.get-last.ensures.value ∙ stands.callers.asked c.args.caller.now in
    denied h c.args.caller.now c.args.number c.args.command.now c.args.moment c.in-Some-command_denied.denial
    (sym (ap (λ (o : Option Asked). turn_denial o c.args.number c.args.command.now) before) ∙ sym c.turn_denied.ensures ∙ c.in_default.is)
    (sym (ap (λ (o : Option Asked). is_repeat o c.args.number c.args.command.now) before) ∙ sym c.repeats.ensures ∙ c.if-repeats.false)
    (sym (c.command_denied.ensures h stands) ∙ c.in-Some-command_denied.is)

pub returns-in-Ok-clause-outcome : goal.returns-in-Ok-clause-outcome
returns-in-Ok-clause-outcome c h stands =
    let before : option_map asked_of (option_copied c.get-last.result) ≡ last h c.args.caller.now = ap (option_map asked_of) c.get-last.ensures.value ∙ stands.callers.asked c.args.caller.now in
    accepted h c.args.caller.now c.args.number c.args.command.now c.args.moment
    (sym (ap (λ (o : Option Asked). turn_denial o c.args.number c.args.command.now) before) ∙ sym c.turn_denied.ensures ∙ c.in_default.is)
    (sym (ap (λ (o : Option Asked). is_repeat o c.args.number c.args.command.now) before) ∙ sym c.repeats.ensures ∙ c.if-repeats.false)
    (sym (c.command_denied.ensures h stands) ∙ c.in_default-command_denied.is)

pub returns-in-Some-clause-stays : goal.returns-in-Some-clause-stays
returns-in-Some-clause-stays c h stands = stands

pub returns-then-repeats-clause-stays : goal.returns-then-repeats-clause-stays
returns-then-repeats-clause-stays c h stands = stands

pub returns-in-Some-command_denied-clause-stays : goal.returns-in-Some-command_denied-clause-stays
returns-in-Some-command_denied-clause-stays c h stands = stands

pub take_memory-requires-clause-stands : goal.take_memory-requires-clause-stands
take_memory-requires-clause-stands c = c.requires.stands

pub returns-in-Ok-clause-stays : goal.returns-in-Ok-clause-stays
returns-in-Ok-clause-stays c = c.take_memory.ensures.stays

pub returns-in-Ok-clause-change : goal.returns-in-Ok-clause-change
returns-in-Ok-clause-change c h stands later =
    let before : option_map asked_of (option_copied c.get-last.result) ≡ last h c.args.caller.now = ap (option_map asked_of) c.get-last.ensures.value ∙ stands.callers.asked c.args.caller.now in
    record {
      act = c.in-Ok.ensures.change h stands (legal_next h c.args.caller.now c.args.number c.args.command.now c.args.moment stands.legal later
          (sym (ap (λ (o : Option Asked). turn_denial o c.args.number c.args.command.now) before) ∙ sym c.turn_denied.ensures ∙ c.in_default.is)
          (sym (ap (λ (o : Option Asked). is_repeat o c.args.number c.args.command.now) before) ∙ sym c.repeats.ensures ∙ c.if-repeats.false)
          (sym (c.command_denied.ensures h stands) ∙ c.in_default-command_denied.is));
    }

pub take_memory-requires-clause-operands : goal.take_memory-requires-clause-operands
take_memory-requires-clause-operands c =
    let h = c.requires.stands.0 in
    operands h c.args.caller.now c.args.command.now c.args.moment (sym (c.command_denied.ensures h c.requires.stands.1.0) ∙ c.in_default-command_denied.is)
