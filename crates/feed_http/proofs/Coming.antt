-- How much of an outcome came, by what the room answered.
use Rattle.std.proofs.Common.{◌≡◌, inl, inr, ℕ, List, [], ◌++◌, Ok, Err, refl, sym, ap, ◌∙◌, subst, append-nil}
use Rattle.std.specs.Prelude.{Result, IfOk}
use Rattle.news_types.specs.declared.entry.Entry.{Entry}
use Rattle.news_types.specs.declared.query.Answer.{Answer as Told}
use Rattle.news_types.specs.declared.Memory.{Memory as NoMemory}
use Rattle.news_types.specs.Outcome.{Outcome}
use Rattle.news_types.specs.Outcome as outcome
use Rattle.news_types.specs.Calls.{Memory}
use Rattle.news_io.specs.Keeper.{KeeperMeaning}
use Rattle.news_room.specs.Beside.{Beside}
use Rattle.news_room.specs.Stands.{LIMIT, limit_for, numbers}
use Rattle.news_room.specs.Said.{said, said_kept, said_told}
use Rattle.news_room.specs.Steps.{Whole, Within, Given, Refused, Failed, Answers, Receives, entries}
use Rattle.news_room.specs.declared.answers.Handled.{Handled}
use Rattle.news_room.specs.declared.answers.Kept as kept
use Rattle.news_room.specs.declared.room.Room.{Room}
use Rattle.news_room.proofs.Steps.{nothing_given, none_kept}
use Rattle.desk_routes.specs.declared.response.Response.{Response}
use Rattle.desk_routes.specs.declared.response.Notice.TheVariants as notice
use Rattle.desk_routes.specs.Responses.{answered_response, answer_response, notice_response}
use Rattle.feed_http.specs.Outcome.{HttpOutcome, unasked}
use Rattle.feed_http.specs.Turn.{IsToldAs, IsTold, Comes, whole, full, failed, starved}
use Rattle.feed_http.proofs.Outcomes.{replied}

-- there was no memory, and all of its entries are kept
pub all_kept : (n : Beside) (o : HttpOutcome) (more : List Entry) (response : Response) → response ≡ notice_response notice.NoMemory → Given n (limit_for o.adds) o.adds more → Comes n o more response
all_kept n o more response none given =
    starved [] none (sym (append-nil more ∙ given.whole.is)) (subst (λ (should : List Entry). Given n (limit_for o.adds) should more) (sym given.whole.is) given)

-- or none of them
pub none_of : (n : Beside) (o : HttpOutcome) (more : List Entry) (response : Response) → response ≡ notice_response notice.NoMemory → Whole n [] more → Comes n o more response
none_of n o more response none kept =
    starved o.adds none (sym (ap (λ (l : List Entry). l ++ o.adds) kept.is))
    (record { whole = record { is = refl; calm = kept.calm; grown = kept.grown }; within = subst (Within n (limit_for o.adds)) (sym kept.is) tt })

-- a response with its entries, all of which are kept
pub told_whole : (n : Beside) (o : HttpOutcome) (more : List Entry) (response : Response) → IsToldAs o.response response → Given n (limit_for o.adds) o.adds more → Comes n o more response
told_whole n o more response (inl is) given = whole is given
told_whole n o more response (inr none) given = all_kept n o more response none given

pub no_memory : (response : Response) → IsTold Memory response → response ≡ notice_response notice.NoMemory
no_memory response (inl is) = is
no_memory response (inr is) = is

told_replied : (n : Beside) (more : List Entry) (o : Outcome outcome.Answered) (a : outcome.Answered) (response : Response) → o.answer ≡ a → IsToldAs (answered_response a) response → Given n (limit_for (entries o.more)) (entries o.more) more → Comes n (replied o) more response
told_replied n more o a response is told given = told_whole n (replied o) more response (subst (λ (x : outcome.Answered). IsToldAs (answered_response x) response) (sym is) told) given

pub comes_answered : (n : Beside) (more : List Entry) (o : Outcome outcome.Answered) (answered : Handled) (response : Response) → Answers n more o answered → IsTold (said answered) response → Comes n (replied o) more response
comes_answered n more o (Handled.Done reply) response step told = told_replied n more o (outcome.Done reply) response step.0 told step.1
comes_answered n more o (Handled.Repeat reply) response step told = told_replied n more o (outcome.Repeat reply) response step.0 told step.1
comes_answered n more o (Handled.Denied denial) response step told = told_replied n more o (outcome.Denied denial) response step.0 told step.1
comes_answered n more o Handled.Fault response step told = failed told step
comes_answered n more o (Handled.Full size count) response step told = full size count told step
comes_answered n more o Handled.Memory response step told = none_of n (replied o) more response (no_memory response told) step

pub comes_received : (n : Beside) (more : List Entry) (o : Outcome outcome.Answered) (answered : kept.Kept) (response : Response) → limit_for (entries o.more) ≡ LIMIT → Receives n more o answered → IsTold (said_kept answered) response → Comes n (replied o) more response
comes_received n more o (kept.Kept.Done reply) response same step told =
    told_replied n more o (outcome.Done reply) response step.0 told (subst (λ (l : ℕ). Given n l (entries o.more) more) (sym same) step.1)
comes_received n more o (kept.Kept.Denied denial) response same step told =
    told_replied n more o (outcome.Denied denial) response step.0 told (subst (λ (l : ℕ). Given n l (entries o.more) more) (sym same) step.1)
comes_received n more o kept.Kept.Fault response same step told = failed told (subst (λ (l : ℕ). Failed n l (entries o.more) more) (sym same) step)
comes_received n more o (kept.Kept.Full size count) response same step told = full size count told (subst (λ (l : ℕ). Refused n l (entries o.more) more size count) (sym same) step)

-- the answer to a question, behind a tick that kept all that follows
pub comes_heard : (n : Beside) (wanted : HttpOutcome) (more : List Entry) (found : Result Told NoMemory) (response : Response) → IfOk found (λ told. answer_response told ≡ wanted.response) → IsTold (said_told found) response → Given n (limit_for wanted.adds) wanted.adds more → Comes n wanted more response
comes_heard n wanted more (Ok told) response is heard given = told_whole n wanted more response (subst (λ (r : Response). IsToldAs r response) is heard) given
comes_heard n wanted more (Err why) response is heard given = all_kept n wanted more response (no_memory response heard) given

-- ---- nothing is asked of the room

module _ {K : Type 0} (keeper : KeeperMeaning K) (room : Room K) where
  pub comes_unasked : (wanted response : Response) → IsToldAs wanted response → Comes (numbers keeper room room) (unasked wanted) [] response
  comes_unasked wanted response told = told_whole (numbers keeper room room) (unasked wanted) [] response told (nothing_given (numbers keeper room room) LIMIT [] refl refl refl)

  pub comes_starved : (o : HttpOutcome) (response : Response) → response ≡ notice_response notice.NoMemory → Comes (numbers keeper room room) o [] response
  comes_starved o response is = none_of (numbers keeper room room) o [] response is (none_kept (numbers keeper room room) refl refl)
