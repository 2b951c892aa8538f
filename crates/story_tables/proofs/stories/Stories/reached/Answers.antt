use Rattle.std.proofs.Common.{◌≡◌, ℕ, List, sym, ap, ◌∙◌, ◌⊎◌, inl, inr}
use Rattle.std.specs.Prelude.{Result, Ok, Err, IfOk}
use Rattle.news_types.specs.declared.words.Kind.{Kind}
use Rattle.news_types.specs.declared.words.Kind.TheVariants as kind
use Rattle.news_types.specs.declared.query.Due.{Due}
use Rattle.news_types.specs.Names.{Bytes, is_in}
use Rattle.news_types.specs.History.{History}
use Rattle.news_types.specs.Due.{Pub, had_by, given_by}
use Rattle.news_types.specs.Publications.{standing}
use Rattle.publish_queue.specs.Many.{names_in}
use Rattle.publications.specs.Keeps.{is_given}
use Rattle.publications.proofs.Following.{named_given}
use Rattle.story_tables.specs.declared.stories.Stories.{Stories}
use Rattle.story_tables.specs.Keeps.{KeepsStories}
use Rattle.story_tables.specs.Issued.{is_reached}
use Rattle.story_tables.proofs.stories.Stories.reached.Goals as goal

taken_reached : (k : Kind) (st : List Pub) (i m : ℕ) (s : Bytes) → (k ≡ kind.Kill) ⊎ (k ≡ kind.Recall) → is_reached st k i m s ≡ had_by m st i s
taken_reached k st i m s (inl is) = ap (λ (x : Kind). is_reached st x i m s) is
taken_reached k st i m s (inr is) = ap (λ (x : Kind). is_reached st x i m s) is

reached_by : {E : Type 0} (r : Result (List Bytes) E) (m i : ℕ) (k : Kind) (soonest : List Due) (t : Stories) → (k ≡ kind.Kill) ⊎ (k ≡ kind.Recall) → IfOk r (λ names. names ≡ names_in (given_by m soonest))
    → ((h : History) → KeepsStories t h → (s : Bytes) → is_given m s soonest ≡ had_by m (standing h) i s) → IfOk r (λ names. (h : History) → KeepsStories t h → (s : Bytes) → is_in s names ≡ is_reached (standing h) k i m s)
reached_by (Ok names) m i k soonest t is given had = λ h keeps s. ap (is_in s) given ∙ named_given m s soonest ∙ had h keeps s ∙ sym (taken_reached k (standing h) i m s is)
reached_by (Err e) m i k soonest t is given had = tt

pub returns-in-Kill : goal.returns-in-Kill
returns-in-Kill c =
    let issue = c.args.issue.now in
    reached_by c.names_by.result issue.release issue.item issue.kind c.soonest-soonest.result.now c.args.self.now c.in-Kill.is c.names_by.ensures
    (λ h keeps s. c.soonest-soonest.ensures.given _ _ keeps.publications issue.release s)
