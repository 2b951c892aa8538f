-- What the decision on a request is, by what was prepared for it.
use Rattle.std.proofs.Common.{◌≡◌, ℕ, Bool, List, [], ◌∷◌, None, sym, ap}
use Rattle.news_types.specs.declared.entry.Entry.{Entry}
use Rattle.news_types.specs.declared.entry.Act.{Act}
use Rattle.news_types.specs.declared.entry.Act.TheVariants.{Request, Ingest}
use Rattle.news_types.specs.History.{History}
use Rattle.news_types.specs.Books.{Book}
use Rattle.news_types.specs.Outcome.{Outcome, kept}
use Rattle.news_types.specs.Outcome as outcome
use Rattle.newsroom.specs.Changes.{Prepares, Decides}
use Rattle.newsroom.specs.declared.change.Prepared.{Prepared}
use Rattle.news_room.specs.Stands.{limit_for, numbers}
use Rattle.news_room.specs.Steps.{Answers, Given, entries, by_act, outcome_of, KeepStep, After}
use Rattle.news_room.specs.declared.answers.Handled.{Handled}
use Rattle.news_room.specs.declared.room.Room.{Room}
use Rattle.news_room.proofs.Steps.{kept_answers, none_given}
use Rattle.news_room.proofs.Going.{after_should}
use Rattle.news_io.specs.Keeper.{KeeperMeaning}

-- a decision, whatever the act
pub decides : (h : History) (m : ℕ) (act : Act) (p : Prepared) → Prepares h m act p → Decides (by_act h m act) (kept h m act) p
decides h m (Request caller number command) p is = is
decides h m (Ingest name come) p is = is
decides h m _ p is = absurd is

module _ {K : Type 0} (keeper : KeeperMeaning K) where
  -- what was kept is what is decided
  pub decided_kept : (r r' : Room K) (b : Book) (e : Entry) (more : List Entry) (failed : Bool) (answered : Handled) → by_act b.list e.moment e.act ≡ kept b.list e.moment e.act
      → After keeper r r' b (e ∷ []) more failed (KeepStep (numbers keeper r r') b e more answered) → After keeper r r' b (entries (outcome_of b.list e).more) more failed (Answers (numbers keeper r r') more (outcome_of b.list e) answered)
  decided_kept r r' b e more failed answered is a =
      after_should keeper r r' b (e ∷ []) (entries (outcome_of b.list e).more) more failed (KeepStep (numbers keeper r r') b e more answered) (Answers (numbers keeper r r') more (outcome_of b.list e) answered)
      (sym (ap (λ (o : Outcome outcome.Answered). entries o.more) is)) a (kept_answers (numbers keeper r r') b e.moment e.act more (outcome_of b.list e) answered is a.did)

  -- what keeps no entry
  pub decided_as : (r r' : Room K) (b : Book) (e : Entry) (a : outcome.Answered) → r'.keeper ≡ r.keeper → outcome_of b.list e ≡ record { answer = a; more = None }
      → ((outcome_of b.list e).answer ≡ a) × Given (numbers keeper r r') (limit_for (entries (outcome_of b.list e).more)) (entries (outcome_of b.list e).more) []
  decided_as r r' b e a same is = (
    ap (λ (o : Outcome outcome.Answered). o.answer) is,
    none_given (numbers keeper r r') (outcome_of b.list e) (ap (λ (o : Outcome outcome.Answered). o.more) is) (ap keeper.faults same) (ap keeper.used same),
  )
