-- What is answered where nothing hinders it.
use Rattle.std.proofs.Common.{◌≡◌, inl, inr, ℕ, ◌+◌, cond, List, [], ◌∷◌, length, Option, Some, None, refl, sym, ap, ◌∙◌, arith}
use Rattle.news_types.specs.declared.entry.Entry.{Entry}
use Rattle.news_types.specs.declared.entry.Act.TheVariants.{Halt}
use Rattle.news_types.specs.History.{moment_at}
use Rattle.news_types.specs.Calls as call
use Rattle.news_types.specs.Calls.{follow, ticked, job, Replied}
use Rattle.news_types.specs.Outcome.{entry_of}
use Rattle.feed_frames.specs.Writer.{the_writer}
use Rattle.news_room.specs.Log.{size_of, sizes}
use Rattle.news_room.specs.Beside.{Beside}
use Rattle.news_room.specs.Stands.{LIMIT, LAST, limit_for}
use Rattle.news_room.specs.Steps.{entries, Refused}
use Rattle.news_room.specs.Claims.{claim_entries}
use Rattle.news_room.specs.Complete.{HasPlace, HavePlace, OutcomesComplete, ReceiptsComplete, TicksComplete, HaltsComplete, ClaimsComplete}
use Rattle.news_room.specs.declared.answers.Handled.{Handled}
use Rattle.news_room.specs.declared.answers.Kept as kept
use Rattle.news_room.specs.declared.answers.Ticked as ticks
use Rattle.news_room.specs.declared.claim.Claimed as claims
use Rattle.news_room.proofs.Steps.{sizes_more}
use Rattle.news_room.proofs.Events.{alone, none_refused}
use Rattle.news_room.proofs.ClaimEvents.{job_said}

-- an entry that has place is not refused
has_place : (n : Beside) (limit : ℕ) (o : Option Entry) (more : List Entry) (size count : ℕ) → Refused n limit (entries o) more size count → HasPlace n limit o → ⊥
has_place n limit None more size count f place = none_refused n limit more size count f
has_place n limit (Some e) more size count f place =
    let one = alone e f.next more f.rest f.is in
    let none : sizes more ≡ 0 = ap sizes one.0 in
    let same : size_of f.next ≡ size_of e = ap size_of one.1 in
    omega (arith, place, none, same, f.grown, f.past)

pub outcomes_complete : OutcomesComplete
outcomes_complete n more o (Handled.Done reply) step free = inl (ap (λ x. Replied x) (sym step.0))
outcomes_complete n more o (Handled.Repeat reply) step free = inl (ap (λ x. Replied x) (sym step.0))
outcomes_complete n more o (Handled.Denied denial) step free = inl (ap (λ x. Replied x) (sym step.0))
outcomes_complete n more o Handled.Fault step free = absurd (free.calm step.rose)
outcomes_complete n more o (Handled.Full size count) step free = absurd (has_place n (limit_for (entries o.more)) o.more more size count step free.place)
outcomes_complete n more o Handled.Memory step free = inr refl

pub receipts_complete : ReceiptsComplete
receipts_complete n more o (kept.Kept.Done reply) step free = ap (λ x. Replied x) (sym step.0)
receipts_complete n more o (kept.Kept.Denied denial) step free = ap (λ x. Replied x) (sym step.0)
receipts_complete n more o kept.Kept.Fault step free = absurd (free.calm step.rose)
receipts_complete n more o (kept.Kept.Full size count) step free = absurd (has_place n LIMIT o.more more size count step free.place)

pub ticks_complete : TicksComplete
ticks_complete n b now more (ticks.Ticked.Kept place) step free =
    ap (λ x. ticks.Ticked.Kept x) step.1 ∙ sym (ap (λ w. cond w (ticks.Ticked.Kept (length b.list + 1)) ticks.Ticked.Still) step.0)
ticks_complete n b now more ticks.Ticked.Still step free = sym (ap (λ w. cond w (ticks.Ticked.Kept (length b.list + 1)) ticks.Ticked.Still) step.0)
ticks_complete n b now more ticks.Ticked.Fault step free = absurd (free.calm step.rose)
ticks_complete n b now more (ticks.Ticked.Full size count) step free = absurd (has_place n LIMIT (follow b.list call.Ticked (moment_at b.list now)) more size count step free.place)

pub halts_complete : HaltsComplete
halts_complete n b now more (ticks.Ticked.Kept place) step free = ap (λ x. ticks.Ticked.Kept x) step.0
halts_complete n b now more ticks.Ticked.Still step free = absurd step
halts_complete n b now more ticks.Ticked.Fault step free = absurd (free.calm step.rose)
halts_complete n b now more (ticks.Ticked.Full size count) step free = absurd (has_place n LAST (Some (entry_of (moment_at b.list now) Halt)) more size count step free.place)

-- nor one of some that have place
have_place : (n : Beside) (limit : ℕ) (should more : List Entry) (size count : ℕ) → Refused n limit should more size count → HavePlace n limit should → ⊥
have_place n limit [] more size count f place = none_refused n limit more size count f
have_place n limit (e ∷ es) more size count f place =
    let all : sizes (e ∷ es) ≡ sizes more + sizes (f.next ∷ f.rest) = ap sizes f.is ∙ sizes_more more (f.next ∷ f.rest) in
    omega (arith, place, all, f.grown, f.past)

pub claims_complete : ClaimsComplete
claims_complete n b now names more (claims.Claimed.Job s k bytes front) step free = inl (job_said (the_writer b.store) (ticked b.list (moment_at b.list now)) names (moment_at b.list now) s k bytes front step.0 step.1 step.2)
claims_complete n b now names more (claims.Claimed.Idle next) step free = inl (ap (job (the_writer b.store) (ticked b.list (moment_at b.list now))) step.0)
claims_complete n b now names more claims.Claimed.Fault step free = absurd (free.calm step.rose)
claims_complete n b now names more (claims.Claimed.Full size count) step free = absurd (have_place n LIMIT (claim_entries b.list names (moment_at b.list now)) more size count step free.place)
claims_complete n b now names more claims.Claimed.Memory step free = inr refl
