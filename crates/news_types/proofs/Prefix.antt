-- A feed goes on from the feed before.
use Rattle.std.proofs.Common.{◌≡◌, ℕ, ◌≤◌, Bool, true, false, cond, Option, Some, None, List, [], ◌∷◌, ◌++◌, length, refl, sym, ap, ◌∙◌, arith, append_assoc, append-nil}
use Rattle.std.specs.List.{filter}
use mathlib.Core.Bool.{true≢false}
use Rattle.news_types.specs.declared.entry.Act.{Act}
use Rattle.news_types.specs.declared.entry.Act.TheVariants.{Request, Ingest}
use Rattle.news_types.specs.declared.command.Command.{Command}
use Rattle.news_types.specs.declared.command.Command.TheVariants.{Flash, Publish, Correct, Kill, Recall, Deschedule}
use Rattle.news_types.specs.declared.words.State.{State}
use Rattle.news_types.specs.declared.words.State.TheVariants.{Scheduled, Published}
use Rattle.news_types.specs.declared.story.Incoming.{Incoming}
use Rattle.news_types.specs.Names.{Bytes}
use Rattle.news_types.specs.History.{History, moment}
use Rattle.news_types.specs.Due.{Pub, is_first_of, standing_first, is_released, release_to}
use Rattle.news_types.specs.Items.{Item, Made, Effect, NewAt, state_at, effect_by}
use Rattle.news_types.specs.Publications.{Issue, made, standing, item, issued_by, issued_by_command, issued_by_effect, pubs_of_issue, pubs_of_item, pub_of, kept_by}
use Rattle.news_types.specs.Feeds.{Dispatch, dispatch, inserted, is_out, is_waiting, due_to, feed_of, feed}
use Rattle.news_types.specs.Legal.{IsLegal, Follows}
use Rattle.news_types.specs.Members.{Each}
use Rattle.news_types.proofs.Feeds.{AllTo, put_filtered, rises_due_to, place_end, out_later, out_is_to}
use Rattle.news_types.proofs.Dues.{IsFair, release_from, new_are_fair, standing_are_fair}
use Rattle.news_types.proofs.Withdrawn.{FirstsWait, feed_more, withdrawn_feed, taken_back_feed}
use Rattle.news_types.proofs.Firsts.{Fit, firsts, from_none}
use Rattle.news_types.proofs.Legal.{fits_of, descheduled}
use Rattle.news_types.specs.FeedLaws.{BeginsWith, FeedsOnlyGrow}

-- time alone
later : (ps : List Pub) (m n : ℕ) (s : Bytes) → m ≤ n → BeginsWith (feed_of ps n s) (feed_of ps m s)
later ps m n s le = (filter (is_out n) (filter (is_waiting m) (due_to s ps)), out_later m n (due_to s ps) le (rises_due_to s ps))

all_to_more : (a b : ℕ) (l : List Dispatch) → a ≤ b → AllTo a l → AllTo b l
all_to_more a b [] le all = tt
all_to_more a b (q ∷ qs) le all = (omega (arith, all.0), all_to_more a b qs le all.1)

-- a publication that is released at the moment or later
put_more : (p : Pub) (o : Option ℕ) (n : ℕ) (ds : List Dispatch) → ((r : ℕ) → o ≡ Some r → n ≤ r) → AllTo n ds → BeginsWith (put_filtered (is_out n) p o ds) ds
put_more p None n ds from to = ([], sym (append-nil ds))
put_more p (Some r) n ds from to = by (is_out n (dispatch p r))
  where
    by : (b : Bool) → BeginsWith (cond b (inserted (dispatch p r) ds) ds) ds
    by true = (dispatch p r ∷ [], place_end (dispatch p r) ds (all_to_more n r ds (from r refl) to))
    by false = ([], sym (append-nil ds))

one_more : (p : Pub) (ps : List Pub) (n : ℕ) (s : Bytes) → IsFair p → n ≤ p.release → BeginsWith (feed_of (p ∷ ps) n s) (feed_of ps n s)
one_more p ps n s fair le =
    let more = put_more p (release_to s p.due) n (feed_of ps n s) (λ r is. let own = release_from p.release s p.due r fair.from is in omega (arith, own, le)) (out_is_to n (due_to s ps)) in
    (more.0, feed_more n s p ps ∙ more.1)

go_on : (a b c : List Dispatch) → BeginsWith b a → BeginsWith c b → BeginsWith c a
go_on a b c first second = (first.0 ++ second.0, second.1 ∙ rw first.1 (append_assoc a first.0 second.0))

-- ---- what is published comes no earlier than its entry

NotBefore : ℕ → Option Issue → Type 0
NotBefore m None = Unit {0}
NotBefore m (Some issue) = m ≤ issue.release

command_not_before : (w : Made) (m : ℕ) (caller : Bytes) (command : Command) → NotBefore m (issued_by_command w m caller command)
unfolding NotBefore
command_not_before w m caller (Flash story targets) = omega arith
command_not_before w m caller (Publish i session schedule embargo targets) = omega arith
command_not_before w m caller (Correct i session story) = omega arith
command_not_before w m caller (Kill i session note) = omega arith
command_not_before w m caller (Recall i session note) = omega arith
command_not_before w m caller _ = tt

effect_not_before : (w : Made) (m : ℕ) (name : Bytes) (come : Incoming) (effect : Effect) → NotBefore m (issued_by_effect w m name come effect)
unfolding NotBefore
effect_not_before w m name come (NewAt inserted true) = omega arith
effect_not_before w m name come _ = tt

not_before : (h : History) (w : Made) (m : ℕ) (act : Act) → NotBefore m (issued_by h w m act)
unfolding NotBefore
not_before h w m (Request caller number command) = command_not_before w m caller command
not_before h w m (Ingest name come) = effect_not_before w m name come (effect_by h w name come m)
not_before h w m _ = tt

item_more : (h : History) (w : Made) (m : ℕ) (s : Bytes) (ps : List Pub) (issue : Issue) (o : Option Item) → Each IsFair (pubs_of_item h w issue o) → m ≤ issue.release
    → BeginsWith (feed_of (pubs_of_item h w issue o ++ ps) m s) (feed_of ps m s)
item_more h w m s ps issue None fair le = ([], sym (append-nil (feed_of ps m s)))
item_more h w m s ps issue (Some it) fair le = one_more (pub_of h w issue it) ps m s fair.0 le

issue_more : (h : History) (w : Made) (m : ℕ) (s : Bytes) (ps : List Pub) (o : Option Issue) → Each IsFair (pubs_of_issue h w o) → NotBefore m o
    → BeginsWith (feed_of (pubs_of_issue h w o ++ ps) m s) (feed_of ps m s)
unfolding NotBefore
issue_more h w m s ps None fair le = ([], sym (append-nil (feed_of ps m s)))
issue_more h w m s ps (Some issue) fair le = item_more h w m s ps issue issue.after fair le

-- ---- what is withdrawn waits

published_apart : (b : Bool) → b ≡ true → cond b Published Scheduled ≡ Scheduled → b ≡ false
published_apart true is e = cc
published_apart false is e = refl

released_not : (m : ℕ) (o : Option Pub) (from : State) → state_at m o from ≡ Scheduled → is_released m o ≡ false
released_not m o Scheduled e = by (is_released m o) refl
  where
    by : (b : Bool) → is_released m o ≡ b → is_released m o ≡ false
    by false is = is
    by true is = published_apart (is_released m o) is e
released_not m o _ e = cc

all_none : (i m : ℕ) (ps : List Pub) → firsts i ps ≡ [] → FirstsWait i m ps
all_none i m [] none = tt
all_none i m (p ∷ ps) none = by (is_first_of i p) refl none (all_none i m ps)
  where
    by : (b : Bool) → is_first_of i p ≡ b → cond b (p ∷ firsts i ps) (firsts i ps) ≡ [] → (firsts i ps ≡ [] → FirstsWait i m ps) → FirstsWait i m (p ∷ ps)
    by true e none rest = cc
    by false e none rest = (λ yes. absurd (true≢false (sym yes ∙ e)), rest none)

too_few : (p : Pub) (fs : List Pub) → length (p ∷ fs) ≤ 1 → fs ≡ []
too_few p [] one = refl
too_few p (q ∷ fs) one = absurd (two one)
  where
    two : length (p ∷ q ∷ fs) ≤ 1 → ⊥
    two one = omega (arith, one)

-- of one first publication at most, which is not released
waits : (i m : ℕ) (ps : List Pub) → length (firsts i ps) ≤ 1 → is_released m (standing_first i ps) ≡ false → FirstsWait i m ps
waits i m [] one early = tt
waits i m (p ∷ ps) one early = by (is_first_of i p) refl one early (waits i m ps)
  where
    by : (b : Bool) → is_first_of i p ≡ b → length (cond b (p ∷ firsts i ps) (firsts i ps)) ≤ 1 → is_released m (cond b (Some p) (standing_first i ps)) ≡ false
        → (length (firsts i ps) ≤ 1 → is_released m (standing_first i ps) ≡ false → FirstsWait i m ps) → FirstsWait i m (p ∷ ps)
    by true e one early rest = (λ yes. early, all_none i m ps (too_few p (firsts i ps) one))
    by false e one early rest = (λ yes. absurd (true≢false (sym yes ∙ e)), rest one early)

few_of : (fs : List Pub) (o : Option Item) → Fit fs o → length fs ≤ 1
few_of fs None fit = rw fit (omega arith)
few_of fs (Some it) fit = fit.0

-- what an act withdraws is in no feed
kept_feed : (h : History) (m : ℕ) (s : Bytes) (act : Act) → IsLegal h → Follows h act m → feed_of (kept_by m act (standing h)) m s ≡ feed_of (standing h) m s
kept_feed h m s (Request caller number (Kill i session note)) legal follows = taken_back_feed i m s (standing h) (standing_are_fair h)
kept_feed h m s (Request caller number (Recall i session note)) legal follows = taken_back_feed i m s (standing h) (standing_are_fair h)
kept_feed h m s (Request caller number (Deschedule i)) legal follows = withdrawn_feed i m s (standing h) (standing_are_fair h) (by (item h i) refl)
  where
    by : (o : Option Item) → item h i ≡ o → FirstsWait i m (standing h)
    by None is = all_none i m (standing h) (from_none (firsts i (standing h)) (item h i) is (fits_of h legal i))
    by (Some it) is = waits i m (standing h) (few_of (firsts i (standing h)) (item h i) (fits_of h legal i))
        (released_not m (standing_first i (standing h)) it.state (descheduled h caller number i m it follows.1 is))
kept_feed h m s _ legal follows = refl

pub feeds_grow : FeedsOnlyGrow
feeds_grow [] h s legal = ([], sym (append-nil (feed h s)))
feeds_grow (e ∷ more) h s legal =
    let g : History = more ++ h in
    let kept : List Pub = kept_by e.moment e.act (standing g) in
    let new = issue_more g (made g) e.moment s kept (issued_by g (made g) e.moment e.act) (new_are_fair g (made g) e.moment e.act) (not_before g (made g) e.moment e.act) in
    go_on (feed h s) (feed g s) (feed (e ∷ g) s) (feeds_grow more h s legal.0)
    (go_on (feed g s) (feed_of (standing g) e.moment s) (feed (e ∷ g) s) (later (standing g) (moment g) e.moment s legal.1)
    (new.0, new.1 ∙ ap (λ l. l ++ new.0) (kept_feed g e.moment s e.act legal.0 legal.2)))
