-- What a crash may leave, by what the response tells of it.
use Rattle.std.proofs.Common.{◌≡◌, inl, Bool, true, false, List, refl, sym, ap, subst}
use Rattle.std.proofs.lemmas.Bool.{false≢true}
use Rattle.news_types.specs.declared.entry.Entry.{Entry}
use Rattle.news_types.specs.Books.{Book}
use Rattle.news_types.specs.Calls.{Answer, Replied, Kept, Still, Job, Idle, Tells, Full, Fault, Memory}
use Rattle.news_io.specs.Keeper.{KeeperMeaning}
use Rattle.news_room.specs.Said.{is_failure}
use Rattle.news_room.specs.Steps.{ToldStep}
use Rattle.news_room.specs.declared.room.Room.{Room}
use Rattle.desk_routes.specs.declared.response.Response.{Response}
use Rattle.feed_http.specs.Turn.{IsTold, tells_failure}

-- a failure is told as one
pub failure_told : (a : Answer) (response : Response) → IsTold a response → is_failure a ≡ true → tells_failure response ≡ true
failure_told Fault response is failed = ap tells_failure is
failure_told (Replied answered) response is failed = absurd (false≢true failed)
failure_told (Kept n) response is failed = absurd (false≢true failed)
failure_told Still response is failed = absurd (false≢true failed)
failure_told (Job s k frame n) response is failed = absurd (false≢true failed)
failure_told (Idle next) response is failed = absurd (false≢true failed)
failure_told (Tells told) response is failed = absurd (false≢true failed)
failure_told Full response is failed = absurd (false≢true failed)
failure_told Memory response is failed = absurd (false≢true failed)

module _ {K : Type 0} (keeper : KeeperMeaning K) (old new : Room K) (b : Book) (should more : List Entry) where
  -- nothing was tried, whatever is told
  pub told_any : (f : Bool) → ToldStep keeper old new b should more false → ToldStep keeper old new b should more f
  told_any true told = record { crash = told.crash; doubt = λ x d. inl (told.doubt x d) }
  told_any false told = told

  -- what was tried is told
  pub told_as : (was tells : Bool) → (was ≡ true → tells ≡ true) → ToldStep keeper old new b should more was → ToldStep keeper old new b should more tells
  told_as false tells so told = told_any tells told
  told_as true tells so told = subst (λ (f : Bool). ToldStep keeper old new b should more f) (sym (so refl)) told

  pub told_by : (a : Answer) (response : Response) → IsTold a response → ToldStep keeper old new b should more (is_failure a) → ToldStep keeper old new b should more (tells_failure response)
  told_by a response is told = told_as (is_failure a) (tells_failure response) (failure_told a response is) told
