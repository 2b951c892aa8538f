-- The turn of what is asked, by whether its caller has the right.
use Rattle.std.proofs.Common.{◌≡◌, inl, inr, ℕ, Bool, true, false, cond, List, [], sym, ap, ◌∙◌, subst}
use Rattle.news_types.specs.declared.entry.Entry.{Entry}
use Rattle.news_types.specs.declared.query.Query.{Query}
use Rattle.news_types.specs.declared.query.Answer.{Answer as Told}
use Rattle.news_types.specs.Names.{Bytes}
use Rattle.news_types.specs.History.{History, moment_at}
use Rattle.news_types.specs.Answers.{query_answer}
use Rattle.news_types.specs.Books.{Book}
use Rattle.news_io.specs.Keeper.{KeeperMeaning}
use Rattle.news_room.specs.Stands.{Stands}
use Rattle.news_room.specs.declared.room.Room.{Room}
use Rattle.desk_routes.specs.declared.ask.Asking.{Asking}
use Rattle.desk_routes.specs.declared.response.Response.{Response}
use Rattle.desk_routes.specs.declared.response.Notice.TheVariants as notice
use Rattle.desk_routes.specs.declared.rights.Right.{Right}
use Rattle.desk_routes.specs.declared.rights.Gate.TheVariants.{Asks}
use Rattle.desk_routes.specs.Rights.{right_of, may_ask, allows, Guards}
use Rattle.desk_routes.specs.Responses.{notice_response}
use Rattle.feed_http.specs.Outcome.{HttpOutcome, ask_outcome, asking_outcome, unasked}
use Rattle.feed_http.specs.Turn.{AskingEvents, HttpTurn, AskTurn, AskingTurn}
use Rattle.feed_http.proofs.Outcomes.{judged}
use Rattle.feed_http.proofs.Coming.{comes_unasked, comes_starved}
use Rattle.feed_http.proofs.Calling.{still, still_turn}

-- what the answer to the gate's question says of the right
pub asked_right : (h : History) (caller : Bytes) (right wanted : Right) (frame : Bytes → ℕ → Bytes) (question : Query) (told : Told) (allowed : Bool) → allowed ≡ allows told → told ≡ query_answer frame h question → Guards (Asks question) caller right → right ≡ wanted
    → allowed ≡ may_ask h caller wanted
asked_right h caller right wanted frame question told allowed is heard guards same = is ∙ ap allows heard ∙ guards frame h ∙ ap (λ (r : Right). may_ask h caller r) same

module _ {K : Type 0} (keeper : KeeperMeaning K) where
  -- the outcome, by whether the caller may ask
  by_right : (old new : Room K) (b : Book) (more : List Entry) (a : Asking) (now : ℕ) (response : Response) (may : Bool) → may_ask b.list a.caller (right_of a.ask) ≡ may
      → HttpTurn keeper old new b more (cond may (ask_outcome b.store b.list a.ask (moment_at b.list now)) (unasked (notice_response notice.Forbidden))) response (AskingEvents keeper old new b more a now response) → AskingTurn keeper old new b more a now response
  by_right old new b more a now response may is t =
      subst (λ (o : HttpOutcome). HttpTurn keeper old new b more o response (AskingEvents keeper old new b more a now response)) (sym (judged b.store b.list a (moment_at b.list now)))
      (subst (λ (allowed : Bool). HttpTurn keeper old new b more (cond allowed (ask_outcome b.store b.list a.ask (moment_at b.list now)) (unasked (notice_response notice.Forbidden))) response (AskingEvents keeper old new b more a now response)) (sym is) t)

  -- the caller has the right
  pub allowed_turn : (old new : Room K) (b : Book) (more : List Entry) (a : Asking) (now : ℕ) (response : Response) → may_ask b.list a.caller (right_of a.ask) ≡ true → AskTurn keeper old new b more a.ask now response → AskingTurn keeper old new b more a now response
  allowed_turn old new b more a now response may t = by_right old new b more a now response true may (record { stands = t.stands; came = t.came; events = inr t.events; told = t.told })

  -- it has not
  pub forbidden_turn : (room : Room K) (b : Book) (a : Asking) (now : ℕ) (response : Response) → Stands keeper room b → may_ask b.list a.caller (right_of a.ask) ≡ false → response ≡ notice_response notice.Forbidden → AskingTurn keeper room room b [] a now response
  forbidden_turn room b a now response stands may is =
      by_right room room b [] a now response false may
      (still_turn keeper room b (unasked (notice_response notice.Forbidden)) response (AskingEvents keeper room room b [] a now response) stands (comes_unasked keeper room (notice_response notice.Forbidden) response (inl is)) (inl (still keeper room)))

  -- there was no memory to know it
  pub unknown_turn : (room : Room K) (b : Book) (a : Asking) (now : ℕ) (response : Response) → Stands keeper room b → response ≡ notice_response notice.NoMemory → AskingTurn keeper room room b [] a now response
  unknown_turn room b a now response stands is =
      still_turn keeper room b (asking_outcome b.store b.list a (moment_at b.list now)) response (AskingEvents keeper room room b [] a now response) stands
      (comes_starved keeper room (asking_outcome b.store b.list a (moment_at b.list now)) response is) (inl (still keeper room))
