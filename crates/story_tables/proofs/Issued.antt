-- What a command that publishes an item that is there does.
use Rattle.std.proofs.Common.{Global, ◌≡◌, ℕ, ◌+◌, ◌≤◌, ◌==◌, ◌&&◌, ◌||◌, Bool, true, false, cond, List, [], ◌∷◌, ◌++◌, length, Option, Some, None, is_some, refl, sym, ap, ◌∙◌, subst, arith}
use Rattle.std.specs.Prelude.{Vec, Result, Ok, Err, IfOk}
use Rattle.std.specs.List.{filter}
use Rattle.std.specs.Option.{option_map}
use Rattle.std.proofs.lemmas.Bool.{false≢true, eq-eqb}
use mathlib.Core.Bool.{true≢false}
use Rattle.news_types.specs.declared.entry.Act.TheVariants.{Request}
use Rattle.news_types.specs.declared.entry.Reply.{Reply}
use Rattle.news_types.specs.declared.command.Command.{Command}
use Rattle.news_types.specs.declared.command.Command.TheVariants.{Flash, Publish, Correct, Kill, Recall}
use Rattle.news_types.specs.declared.words.State.{State}
use Rattle.news_types.specs.declared.words.State.TheVariants.{Scheduled, Published, Corrected}
use Rattle.news_types.specs.declared.words.Kind.{Kind}
use Rattle.news_types.specs.declared.words.Kind.TheVariants as kind
use Rattle.news_types.specs.declared.story.Story.{Story}
use Rattle.news_types.specs.declared.query.Due.{Due}
use Rattle.news_types.specs.Names.{Bytes, same, is_in}
use Rattle.news_types.specs.Members.{Each}
use Rattle.news_types.specs.History.{History, moment}
use Rattle.news_types.specs.Products.{subscribers, is_subscriber, permitted, lag}
use Rattle.news_types.specs.Legal.{IsLegal}
use Rattle.news_types.specs.Due.{Pub, is_first, is_first_of, takes_back, standing_first, release_to, is_due, is_by, had, had_by, latest, taken_back, lagged, is_due_by, release_for, due_names, due_list}
use Rattle.news_types.specs.Items.{Item, version_after, item_after, changed_by, at_moment, state_at, made_by, named_item}
use Rattle.news_types.specs.Publications.{Issue, made, item, pubs, standing, issued_by_command, pub_of, pubs_of_item, pubs_of_issue, kept_by_command, first_issue, later_issue, first_targets, release_at, noted}
use Rattle.news_types.specs.Outcome.{reply_to, with_issue, entry_of, item_of_command}
use Rattle.news_types.proofs.Members.{some_is, none_some, mapped, same_is}
use Rattle.news_types.proofs.Dues as dues
use Rattle.news_types.proofs.Dues.{new_are_fair, listed_due, lagged_behind}
use Rattle.news_types.proofs.Subscribed.{listed_is, new_are_known, IsToKnown, standing_are_known}
use Rattle.news_types.proofs.Releases.{new_releases}
use Rattle.news_types.proofs.Legal.{rows_hold, RowsHold, none≢some}
use Rattle.publish_queue.specs.Order.{Differ}
use Rattle.publish_queue.specs.Many.{names_in}
use Rattle.publish_queue.specs.Keeps.{IsFair}
use Rattle.publish_queue.specs.Rows.{is_among}
use Rattle.publish_queue.specs.Withdrawn.{AreOfItem}
use Rattle.publish_queue.proofs.Withdrawal.{are_of_item}
use Rattle.item_table.specs.Asked.{story_of}
use Rattle.publications.specs.Numbers.{numbers_of}
use Rattle.publications.specs.declared.table.Published.{Published as Row}
use Rattle.publications.specs.declared.table.OfItem.{OfItem}
use Rattle.publications.specs.Keeps.{Tells, shown, shown_first}
use Rattle.publications.specs.Steps.{Publishes}
use Rattle.publications.specs.Later.{Corrects, TakesBack}
use Rattle.story_tables.specs.declared.feeds.FeedStep.{FeedStep}
use Rattle.story_tables.specs.declared.feeds.FeedStep.TheVariants as step
use Rattle.story_tables.specs.declared.stories.Stories.{Stories}
use Rattle.story_tables.specs.Keeps.{KeepsStories}
use Rattle.item_commands.specs.Given.{story_given}
use Rattle.story_tables.specs.Feeds.{FeedsFor, SameDelivery}
use Rattle.story_tables.specs.Issued.{issues, issue_of, issued_of, left_by_kind, IsTold, given_by_kind, IsStepOf}
use Rattle.story_tables.specs.Publishing.{IsDueTo}
use Rattle.story_tables.specs.declared.issue.Issue as declared_issue
use Rattle.story_tables.proofs.Backed.{is_out, out_at, is_out_item, backed_of}
use Rattle.story_tables.proofs.FirstTime.{nothing_before}
use Rattle.story_tables.proofs.Leaving.{leaves_of}
use Rattle.story_tables.proofs.Numbered.{numbers_are}
use Rattle.story_tables.proofs.Publishing.{first_told, first_with}
use Rattle.story_tables.proofs.Spanned.{are_within, have_item}

-- ---- to whom it is due

in_filter : (s : Bytes) (t : Bytes → Bool) (names : List Bytes) → is_in s (filter t names) ≡ (is_in s names && t s)
in_filter s t [] = refl
in_filter s t (x ∷ names) = by (t x) (same s x) refl refl (in_filter s t names)
  where
    by : (b c : Bool) → t x ≡ b → same s x ≡ c → is_in s (filter t names) ≡ (is_in s names && t s) → is_in s (cond b (x ∷ filter t names) (filter t names)) ≡ ((c || is_in s names) && t s)
    by true true is alike rest = let at : t s ≡ true = ap t (same_is s x alike) ∙ is in rw (alike, at) refl
    by true false is other rest = rw other rest
    by false true is alike rest = let at : t s ≡ false = ap t (same_is s x alike) ∙ is in rest ∙ no (is_in s names) (t s) at
      where
        no : (a b : Bool) → b ≡ false → (a && b) ≡ b
        no true b e = refl
        no false b e = sym e
    by false false is other rest = rest

module _ (h : History) (i m : ℕ) (s : Bytes) where
  had_known : (ps : List Pub) → Each (IsToKnown h) ps → had ps i s ≡ true → is_subscriber h s ≡ true
  had_known [] known some = absurd (true≢false (sym some))
  had_known (p ∷ ps) known some = by (p.item == i) (is_due s p) refl some (had_known ps known.1)
    where
      by : (b c : Bool) → is_due s p ≡ c → ((b && c) || had ps i s) ≡ true → (had ps i s ≡ true → is_subscriber h s ≡ true) → is_subscriber h s ≡ true
      by true true is some rest = known.0 s is
      by true false is some rest = rest some
      by false c is some rest = rest some

  had_before : (ps : List Pub) → had_by m ps i s ≡ true → had ps i s ≡ true
  had_before [] some = some
  had_before (p ∷ ps) some = by (p.item == i) (release_to s p.due) some (had_before ps)
    where
      by : (b : Bool) (o : Option ℕ) → ((b && is_by m o) || had_by m ps i s) ≡ true → (had_by m ps i s ≡ true → had ps i s ≡ true) → ((b && is_some o) || had ps i s) ≡ true
      by true None some rest = rest some
      by true (Some r) some rest = refl
      by false o some rest = rest some

-- the release of a publication for a subscriber
due_of : (h : History) (ps : List Pub) (k : Kind) (i : ℕ) (story : Story) (release : ℕ) (targets : List Bytes) (s : Bytes)
    → release_to s (due_list h ps k i story release targets) ≡ cond (is_in s (subscribers h) && is_due_by h ps k i story release targets s) (Some (release_for h ps k i release s)) None
due_of h ps k i story release targets s =
    listed_due (release_for h ps k i release) s (due_names h ps k i story release targets)
    ∙ ap (λ b. cond b (Some (release_for h ps k i release s)) None) (in_filter s (is_due_by h ps k i story release targets) (subscribers h))

some_of : (a b c : Bool) (r : ℕ) → a ≡ true → c ≡ true → is_some (cond (a && (b || c)) (Some r) None) ≡ true
some_of true true c r one two = refl
some_of true false true r one two = refl
some_of true false false r one two = two
some_of false b c r one two = absurd (false≢true one)

only_some : (b : Bool) (l r : ℕ) → cond b (Some l) None ≡ Some r → l ≡ r
only_some true l r is = some_is l r is
only_some false l r is = absurd (none_some r is)

-- only a subscriber had something
had_alone : (h : History) (i m : ℕ) (s : Bytes) → cond (is_in s (subscribers h) && had_by m (standing h) i s) (Some m) None ≡ cond (had_by m (standing h) i s) (Some m) None
had_alone h i m s = by (is_in s (subscribers h)) (had_by m (standing h) i s) refl refl
  where
    by : (a b : Bool) → is_in s (subscribers h) ≡ a → had_by m (standing h) i s ≡ b → cond (a && b) (Some m) None ≡ cond b (Some m) None
    by true b one two = refl
    by false false one two = refl
    by false true one two = absurd (false≢true (sym one ∙ listed_is h s ∙ had_known h i m s (standing h) (standing_are_known h) (had_before h i m s (standing h) two)))

-- ---- what is published

module _ (h : History) (m number : ℕ) (caller : Bytes) where
  abbrev pub behind : Command → History
  behind command = entry_of m (Request caller number command) ∷ h

-- what a command does that publishes `it` of an item
pub record Does (h : History) (m number : ℕ) (caller : Bytes) (command : Command) (what : Issue) (it : Item) : Type 0 where
  pub item_is : what.item ≡ named_item command
  pub old : made_by command ≡ None
  pub given : story_given command ≡ given_by_kind what.kind (noted what.note it.story)
  pub subscribed : subscribers (behind h m number caller command) ≡ subscribers h
  pub sent : SameDelivery h (behind h m number caller command)
  pub kept : kept_by_command m command (standing h) ≡ left_by_kind what.kind (pub_of h (made h) what it) (standing h)
  pub at : takes_back what.kind ≡ true → what.release ≡ m
  pub replied : item_of_command h command ≡ named_item command
  pub told : (due : List Due) → Differ (names_in due) → IsDueTo due h (standing h) what.kind what.item (noted what.note it.story) what.release what.targets → IsTold what.kind (pub_of h (made h) what it) due (standing h)

-- ---- where a first publication stands

out_correct : (i release : ℕ) (session : Bytes) (story : Story) (from : State) → RowsHold (Correct i session story) release from → is_out from ≡ true
out_correct i release session story Published rows = refl
out_correct i release session story Corrected rows = refl
out_correct i release session story Scheduled rows = absurd (none≢some _ (sym rows.1))
out_correct i release session story _ rows = absurd (true≢false (sym rows.0))

out_kill : (i release : ℕ) (session note : Bytes) (from : State) → RowsHold (Kill i session note) release from → is_out from ≡ true
out_kill i release session note Published rows = refl
out_kill i release session note Corrected rows = refl
out_kill i release session note Scheduled rows = absurd (none≢some _ (sym rows.1))
out_kill i release session note _ rows = absurd (true≢false (sym rows.0))

out_recall : (i release : ℕ) (session note : Bytes) (from : State) → RowsHold (Recall i session note) release from → is_out from ≡ true
out_recall i release session note Published rows = refl
out_recall i release session note Corrected rows = refl
out_recall i release session note Scheduled rows = absurd (none≢some _ (sym rows.1))
out_recall i release session note _ rows = absurd (true≢false (sym rows.0))

first_there : (h : History) (m i : ℕ) (it : Item) → IsLegal h → item h i ≡ Some it → is_out (state_at m (standing_first i (standing h)) it.state) ≡ true → is_some (standing_first i (standing h)) ≡ true
first_there h m i it legal there out = out_at m (standing_first i (standing h)) it.state out (λ was. backed_of h legal i (ap is_out_item there ∙ was))

-- ---- what each command does

module _ (h : History) (m number i : ℕ) (caller session : Bytes) where
  -- the item before the command
  item_before : (command : Command) (it : Item) → item_after (made h) m caller command ≡ Some it → (was : Item) × (item h (named_item command) ≡ Some was) × (changed_by caller command (at_moment m (standing_first (named_item command) (standing h)) was) ≡ it)
  item_before command it is = mapped (λ (x : Item). changed_by caller command (at_moment m (standing_first (named_item command) (standing h)) x)) (item h (named_item command)) it is

  module _ (schedule embargo : Option ℕ) (targets : List Bytes) where
    abbrev as_publish : Issue
    as_publish = first_issue i (item_after (made h) m caller (Publish i session schedule embargo targets)) (release_at m schedule embargo) targets

    publish_does : (it : Item) → IsLegal (behind h m number caller (Publish i session schedule embargo targets)) → Does h m number caller (Publish i session schedule embargo targets) as_publish it
    publish_does it legal = record {
      item_is = refl;
      old = refl;
      given = refl;
      subscribed = refl;
      sent = record { receipts = λ s. refl; attempts = λ s. refl; last = λ s. refl };
      kept = refl;
      at = λ taken. absurd (false≢true taken);
      replied = refl;
      told = λ due differ are. first_told (pub_of h (made h) as_publish it) (standing h) due differ are (nothing_before h m number i caller session schedule embargo targets legal);
    }

  module _ (story : Story) where
    abbrev as_correct : Issue
    as_correct = later_issue kind.Correct (made h) i (item_after (made h) m caller (Correct i session story)) m None

    abbrev correct_pub : Item → Pub
    correct_pub it = pub_of h (made h) as_correct it

    correct_behind : (it : Item) → item_after (made h) m caller (Correct i session story) ≡ Some it → IsLegal (behind h m number caller (Correct i session story)) → is_some (standing_first i (standing h)) ≡ true
    correct_behind it is legal = let was = item_before (Correct i session story) it is in first_there h m i was.0 legal.0 was.1 (out_correct i _ session story _ (rows_hold h caller number (Correct i session story) m was.0 legal.2.1 was.1))

    correct_to : (it : Item) (s : Bytes) → release_to s (correct_pub it).due ≡ cond (is_in s (subscribers h) && (permitted h it.story as_correct.targets s || had (standing h) i s)) (Some (lagged m (lag h s) (latest (standing h) i s))) None
    correct_to it s = due_of h (standing h) kind.Correct i it.story m as_correct.targets s

    correct_told : (it : Item) → is_some (standing_first i (standing h)) ≡ true → (due : List Due) → Differ (names_in due) → ((s : Bytes) → release_to s due ≡ release_to s (correct_pub it).due) → Corrects (correct_pub it) due (standing h)
    correct_told it there due differ are = record {
      goes = record { kind = refl; behind = there; due_to = are };
      reaches = λ s some. ap is_some (correct_to it s) ∙ some_of (is_in s (subscribers h)) (permitted h it.story as_correct.targets s) (had (standing h) i s) (lagged m (lag h s) (latest (standing h) i s)) (listed_is h s ∙ had_known h i m s (standing h) (standing_are_known h) some) some;
      late = λ s r at.
          let behind_it = lagged_behind m (lag h s) (latest (standing h) i s) in
          let is_it : lagged m (lag h s) (latest (standing h) i s) ≡ r = only_some (is_in s (subscribers h) && (permitted h it.story as_correct.targets s || had (standing h) i s)) _ r (sym (correct_to it s) ∙ at) in
          omega (arith, behind_it, is_it);
    }

    correct_does : (it : Item) → item_after (made h) m caller (Correct i session story) ≡ Some it → IsLegal (behind h m number caller (Correct i session story)) → Does h m number caller (Correct i session story) as_correct it
    correct_does it is legal = record {
      item_is = refl;
      old = refl;
      given = let was = item_before (Correct i session story) it is in ap (λ (x : Item). Some x.story) was.2;
      subscribed = refl;
      sent = record { receipts = λ s. refl; attempts = λ s. refl; last = λ s. refl };
      kept = refl;
      at = λ taken. absurd (false≢true taken);
      replied = refl;
      told = correct_told it (correct_behind it is legal);
    }

  module _ (note : Bytes) where
    abbrev as_kill : Issue
    as_kill = later_issue kind.Kill (made h) i (item_after (made h) m caller (Kill i session note)) m (Some note)

    abbrev kill_pub : Item → Pub
    kill_pub it = pub_of h (made h) as_kill it

    kill_behind : (it : Item) → item_after (made h) m caller (Kill i session note) ≡ Some it → IsLegal (behind h m number caller (Kill i session note)) → is_some (standing_first i (standing h)) ≡ true
    kill_behind it is legal = let was = item_before (Kill i session note) it is in first_there h m i was.0 legal.0 was.1 (out_kill i _ session note _ (rows_hold h caller number (Kill i session note) m was.0 legal.2.1 was.1))

    kill_told : (it : Item) → is_some (standing_first i (standing h)) ≡ true → (due : List Due) → Differ (names_in due) → ((s : Bytes) → release_to s due ≡ release_to s (kill_pub it).due) → TakesBack (kill_pub it) due (standing h)
    kill_told it there due differ are = record {
      goes = record { kind = refl; behind = there; due_to = are };
      reaches = λ s. due_of h (standing h) kind.Kill i (kill_pub it).story m as_kill.targets s ∙ had_alone h i m s;
      leaves = leaves_of h m i;
    }

    kill_does : (it : Item) → item_after (made h) m caller (Kill i session note) ≡ Some it → IsLegal (behind h m number caller (Kill i session note)) → Does h m number caller (Kill i session note) as_kill it
    kill_does it is legal = record {
      item_is = refl;
      old = refl;
      given = refl;
      subscribed = refl;
      sent = record { receipts = λ s. refl; attempts = λ s. refl; last = λ s. refl };
      kept = refl;
      at = λ taken. refl;
      replied = refl;
      told = kill_told it (kill_behind it is legal);
    }

    abbrev as_recall : Issue
    as_recall = later_issue kind.Recall (made h) i (item_after (made h) m caller (Recall i session note)) m (Some note)

    abbrev recall_pub : Item → Pub
    recall_pub it = pub_of h (made h) as_recall it

    recall_behind : (it : Item) → item_after (made h) m caller (Recall i session note) ≡ Some it → IsLegal (behind h m number caller (Recall i session note)) → is_some (standing_first i (standing h)) ≡ true
    recall_behind it is legal = let was = item_before (Recall i session note) it is in first_there h m i was.0 legal.0 was.1 (out_recall i _ session note _ (rows_hold h caller number (Recall i session note) m was.0 legal.2.1 was.1))

    recall_told : (it : Item) → is_some (standing_first i (standing h)) ≡ true → (due : List Due) → Differ (names_in due) → ((s : Bytes) → release_to s due ≡ release_to s (recall_pub it).due) → TakesBack (recall_pub it) due (standing h)
    recall_told it there due differ are = record {
      goes = record { kind = refl; behind = there; due_to = are };
      reaches = λ s. due_of h (standing h) kind.Recall i (recall_pub it).story m as_recall.targets s ∙ had_alone h i m s;
      leaves = leaves_of h m i;
    }

    recall_does : (it : Item) → item_after (made h) m caller (Recall i session note) ≡ Some it → IsLegal (behind h m number caller (Recall i session note)) → Does h m number caller (Recall i session note) as_recall it
    recall_does it is legal = record {
      item_is = refl;
      old = refl;
      given = refl;
      subscribed = refl;
      sent = record { receipts = λ s. refl; attempts = λ s. refl; last = λ s. refl };
      kept = refl;
      at = λ taken. refl;
      replied = refl;
      told = recall_told it (recall_behind it is legal);
    }

-- the issue that a command makes
module _ (h : History) (m number : ℕ) (caller : Bytes) where
  pub does_of : (command : Command) (what : Issue) (it : Item) → issues command ≡ true → issued_by_command (made h) m caller command ≡ Some what → what.after ≡ Some it → IsLegal (behind h m number caller command) → Does h m number caller command what it
  does_of (Publish i session schedule embargo targets) what it does is there legal =
      subst (λ (x : Issue). Does h m number caller (Publish i session schedule embargo targets) x it) (some_is (as_publish h m number i caller session schedule embargo targets) what is)
      (publish_does h m number i caller session schedule embargo targets it legal)
  does_of (Correct i session story) what it does is there legal =
      let made_it = some_is (as_correct h m number i caller session story) what is in
      subst (λ (x : Issue). Does h m number caller (Correct i session story) x it) made_it (correct_does h m number i caller session story it (ap (λ (x : Issue). x.after) made_it ∙ there) legal)
  does_of (Kill i session note) what it does is there legal =
      let made_it = some_is (as_kill h m number i caller session note) what is in
      subst (λ (x : Issue). Does h m number caller (Kill i session note) x it) made_it (kill_does h m number i caller session note it (ap (λ (x : Issue). x.after) made_it ∙ there) legal)
  does_of (Recall i session note) what it does is there legal =
      let made_it = some_is (as_recall h m number i caller session note) what is in
      subst (λ (x : Issue). Does h m number caller (Recall i session note) x it) made_it (recall_does h m number i caller session note it (ap (λ (x : Issue). x.after) made_it ∙ there) legal)
  does_of _ what it does is there legal = absurd (false≢true does)

-- what is told of an issue
pub issue_is : (o : Option Issue) (x : declared_issue.Issue) → Some x ≡ issued_of o → (what : Issue) × (it : Item) × (o ≡ Some what) × (what.after ≡ Some it) × (x ≡ issue_of what it)
issue_is None x is = absurd (none_some x (sym is))
issue_is (Some what) x is = let found = mapped (issue_of what) what.after x (sym is) in (what, found.0, refl, found.1, sym found.2)

-- ---- what is left

stays_left : (k : Kind) (p : Pub) (st : List Pub) → takes_back k ≡ false → left_by_kind k p st ≡ st
stays_left kind.First p st is = refl
stays_left kind.Correct p st is = refl
stays_left kind.Kill p st is = absurd (true≢false is)
stays_left kind.Recall p st is = absurd (true≢false is)

taken_left : (k : Kind) (p : Pub) (st : List Pub) → takes_back k ≡ true → left_by_kind k p st ≡ taken_back p.release p.item st
taken_left kind.First p st is = absurd (false≢true is)
taken_left kind.Correct p st is = absurd (false≢true is)
taken_left kind.Kill p st is = refl
taken_left kind.Recall p st is = refl

-- ---- the parts of the change

module _ (h : History) (m number : ℕ) (caller : Bytes) (command : Command) (what : Issue) (it : Item) (is : issued_by_command (made h) m caller command ≡ Some what) (there : what.after ≡ Some it)
    (does : Does h m number caller command what it) (legal : IsLegal (behind h m number caller command)) where
  abbrev pub told : Pub
  told = pub_of h (made h) what it

  new : pubs_of_issue h (made h) (issued_by_command (made h) m caller command) ≡ told ∷ []
  new = ap (pubs_of_issue h (made h)) is ∙ ap (pubs_of_item h (made h) what) there

  pub issued_pubs : pubs (behind h m number caller command) ≡ told ∷ pubs h
  issued_pubs = ap (λ l. l ++ pubs h) new

  pub issued_standing : standing (behind h m number caller command) ≡ told ∷ left_by_kind what.kind told (standing h)
  issued_standing = ap (λ l. l ++ kept_by_command m command (standing h)) new ∙ ap (λ l. told ∷ l) does.kept

  only : (P : Pub → Type 0) → Each P (pubs_of_issue h (made h) (issued_by_command (made h) m caller command)) → P told
  only P all = (subst (Each P) new all).0

  told_fair : IsFair told
  told_fair = let known_fair = only dues.IsFair (new_are_fair h (made h) m (Request caller number command)) in record { agree = known_fair.agree; from = known_fair.from }

  told_known : (s : Bytes) → is_due s told ≡ true → is_in s (subscribers h) ≡ true
  told_known s to = listed_is h s ∙ only (IsToKnown h) (new_are_known (entry_of m (Request caller number command)) h) s to

  told_later : moment h ≤ told.release
  told_later = let from = only (λ (p : Pub). m ≤ p.release) (new_releases (entry_of m (Request caller number command)) h) in omega (arith, from, legal.1)

  pub issued_feeds : (step_is : FeedStep) (n : ℕ) (due : Vec Due Global) → IsStepOf step_is what.kind what.item (pubs h) (standing h) n what.release due → n ≡ told.number → ((s : Bytes) → release_to s due.items ≡ release_to s told.due)
      → FeedsFor step_is h (behind h m number caller command)
  issued_feeds (step.Publish n r d) k due step_of number_is are = record {
    subscribed = does.subscribed;
    sent = does.sent;
    p = told;
    stands = issued_standing ∙ ap (λ l. told ∷ l) (stays_left what.kind told (standing h) step_of.0);
    is_number = sym (step_of.1 ∙ number_is);
    is_release = sym step_of.2;
    is_due_to = λ s. sym (are s) ∙ ap (λ (v : Vec Due Global). release_to s v.items) (sym step_of.3);
    later = let from = told_later in omega (arith, from, step_of.2);
    fair = told_fair;
    known = told_known;
  }
  issued_feeds (step.TakeBack ns spans n d) k due step_of number_is are =
      let at = does.at step_of.0 in
      record {
        subscribed = does.subscribed;
        sent = does.sent;
        p = told;
        stands = issued_standing ∙ ap (λ l. told ∷ l) (taken_left what.kind told (standing h) step_of.0 ∙ ap (λ r. taken_back r what.item (standing h)) at);
        are = subst (λ l. AreOfItem m what.item l (standing h)) (sym step_of.1) (are_of_item m what.item (numbers_of what.item (pubs h)) (standing h) (numbers_are h what.item));
        within = are_within m what.item ns.items spans.items (standing h) (have_item what.item ns.items (standing h) (subst (λ l. Each (λ (p : Pub). is_among p.number l ≡ (p.item == what.item)) (standing h)) (sym step_of.1) (numbers_are h what.item))) step_of.2;
        is_number = sym (step_of.3 ∙ number_is);
        is_release = at;
        is_due_to = λ s. sym (are s) ∙ ap (λ (v : Vec Due Global). release_to s v.items) (sym step_of.4);
        fair = told_fair;
        known = told_known;
      }
  issued_feeds _ k due step_of number_is are = absurd step_of

  abbrev reply_at : ℕ → ℕ → ℕ → ℕ → Reply
  reply_at l j n r = record { entry = l + 1; item = j; publication = n; release = r }

  pub issued_reply : (l n : ℕ) (x : declared_issue.Issue) → l ≡ length h → n ≡ length (pubs h) + 1 → x ≡ issue_of what it → reply_at l x.item n x.release ≡ reply_to h m (Request caller number command)
  issued_reply l n x counted number_is same =
      (λ j. reply_at (counted j) ((same j).item) (number_is j) ((same j).release))
      ∙ ap (λ (j : ℕ). reply_at (length h) j (length (pubs h) + 1) what.release) (does.item_is ∙ sym does.replied)
      ∙ sym (ap (λ o. with_issue o h (item_of_command h command)) is)

-- ---- the step of the feeds

pub step_for : (s : FeedStep) (h : History) (x : declared_issue.Issue) (what : Issue) (it : Item) (n : ℕ) (due : Vec Due Global) → x ≡ issue_of what it → IsStepOf s x.kind x.item (pubs h) (standing h) n x.release due
    → IsStepOf s what.kind what.item (pubs h) (standing h) n what.release due
step_for s h x what it n due same given = subst (λ (y : declared_issue.Issue). IsStepOf s y.kind y.item (pubs h) (standing h) n y.release due) same given

-- ---- the step of the publications

self_item : (i : ℕ) → (i == i) ≡ true
self_item i = eq-eqb i i refl

-- a first publication
pub first_leads : (p : Pub) (row : Row) (of : OfItem) (due : List Due) (ps st : List Pub) → p.kind ≡ kind.First → row ≡ shown p → of.release ≡ row.release → of.targets ≡ p.targets → of.number ≡ p.number
    → of.soonest.items ≡ due → of.newest.items ≡ due → Tells due due (p ∷ st) p.item → Publishes of.number row of ps st (p ∷ ps) (p ∷ st)
first_leads p row of due ps st first row_is release_is targets_is number_is soonest_is newest_is tells =
    let at : of.release ≡ p.release = release_is ∙ ap (λ (r : Row). r.release) row_is in
    let is : is_first_of p.item p ≡ true = ap (λ (k : Kind). is_first k && (p.item == p.item)) first ∙ self_item p.item in
    record {
      p = p;
      taken = None;
      is_number = number_is;
      all = refl;
      stands = refl;
      shows = row_is;
      first = (λ j. Some (first_with (number_is j) (at j) (targets_is j))) ∙ sym (ap (λ (b : Bool). option_map shown_first (cond b (Some p) (standing_first p.item st))) is);
      due = subst (λ (l : List Due). Tells of.soonest.items l (p ∷ st) p.item) (sym newest_is) (subst (λ (l : List Due). Tells l due (p ∷ st) p.item) (sym soonest_is) tells);
    }

-- ---- what is issued

-- an arm of the issue of a command
arm : {E : Type 0} (r : Result (Option declared_issue.Issue) E) (t : Stories) (m i : ℕ) (command : Command) (f : History → Option declared_issue.Issue) → IfOk r (λ issue. (h : History) → KeepsStories t h → i ≡ named_item command → issue ≡ f h) → i ≡ named_item command
    → ((h : History) (caller : Bytes) → f h ≡ issued_of (issued_by_command (made h) m caller command)) → IfOk r (λ issue. (h : History) (caller : Bytes) → KeepsStories t h → made_by command ≡ None → issue ≡ issued_of (issued_by_command (made h) m caller command))
arm (Ok x) t m i command f given is same = λ h caller keeps old. given h keeps is ∙ same h caller
arm (Err e) t m i command f given is same = tt

pub issued_arm : {E : Type 0} (r : Result (Option declared_issue.Issue) E) (t : Stories) (m i : ℕ) (command known : Command) (f : Command → History → Option declared_issue.Issue) → command ≡ known
    → IfOk r (λ issue. (h : History) → KeepsStories t h → i ≡ named_item command → issue ≡ f command h) → i ≡ named_item known
    → ((h : History) (caller : Bytes) → f known h ≡ issued_of (issued_by_command (made h) m caller known)) → IfOk r (λ issue. (h : History) (caller : Bytes) → KeepsStories t h → made_by command ≡ None → issue ≡ issued_of (issued_by_command (made h) m caller command))
issued_arm r t m i command known f is given item_is same =
    subst (λ (x : Command). IfOk r (λ issue. (h : History) (caller : Bytes) → KeepsStories t h → made_by x ≡ None → issue ≡ issued_of (issued_by_command (made h) m caller x))) (sym is)
    (arm r t m i known (f known) (subst (λ (x : Command). IfOk r (λ issue. (h : History) → KeepsStories t h → i ≡ named_item x → issue ≡ f x h)) is given) item_is same)

-- what is published of an item that a command names, with that story
module _ (command : Command) (k : Kind) (release : ℕ) where
  abbrev pub shown_with : ℕ → List Bytes → (Item → Story) → Item → declared_issue.Issue
  shown_with i targets story it = record { item = i; version = version_after command it.version; kind = k; release = release; targets = targets; story = story it }

  pub shown_same : (h : History) (i n : ℕ) (t u : List Bytes) (f g : Item → Story) (x : Option declared_issue.Issue) → i ≡ n → u ≡ t → ((it : Item) → item h i ≡ Some it → g it ≡ f it)
      → x ≡ option_map (shown_with n u g) (item h n) → x ≡ option_map (shown_with i t f) (item h i)
  shown_same h i n t u f g x same targets stories is =
      is ∙ ap (λ (l : ℕ). option_map (shown_with l u g) (item h l)) (sym same) ∙ by (item h i) refl
    where
      by : (o : Option Item) → item h i ≡ o → option_map (shown_with i u g) o ≡ option_map (shown_with i t f) o
      by None e = refl
      by (Some it) e = let story : g it ≡ f it = stories it e in λ j. Some (record { item = i; version = version_after command it.version; kind = k; release = release; targets = targets j; story = story j })

-- the story of which this is told
pub story_told : (h : History) (i : ℕ) (told : Story) (it : Item) → Some told ≡ option_map story_of (item h i) → item h i ≡ Some it → told ≡ it.story
story_told h i told it told_is there = some_is told it.story (told_is ∙ ap (option_map story_of) there)

module _ (i : ℕ) (version : ℕ → ℕ) (k : Kind) (release : ℕ) (targets : List Bytes) where
  abbrev pub shown_as : (Item → Story) → Item → declared_issue.Issue
  shown_as story it = record { item = i; version = version it.version; kind = k; release = release; targets = targets; story = story it }

twice : (f : Item → declared_issue.Issue) (g : Item → declared_issue.Issue) (change : Item → Item) (o : Option Item) → ((it : Item) → f it ≡ g (change it)) → option_map f o ≡ option_map g (option_map change o)
twice f g change None same = refl
twice f g change (Some it) same = ap Some (same it)

module _ (h : History) (m i : ℕ) (caller session : Bytes) where
  abbrev change_by : Command → Item → Item
  change_by command x = changed_by caller command (at_moment m (standing_first i (standing h)) x)

  pub publish_issued : (schedule embargo : Option ℕ) (targets : List Bytes) (release : ℕ) → release ≡ release_at m schedule embargo
      → option_map (shown_as i (λ v. v) kind.First release targets (λ it. it.story)) (item h i) ≡ issued_of (issued_by_command (made h) m caller (Publish i session schedule embargo targets))
  publish_issued schedule embargo targets release is =
      twice (shown_as i (λ v. v) kind.First release targets (λ it. it.story)) (issue_of (first_issue i (item_after (made h) m caller (Publish i session schedule embargo targets)) (release_at m schedule embargo) targets))
      (change_by (Publish i session schedule embargo targets)) (item h i) (λ it j. shown_as i (λ v. v) kind.First (is j) targets (λ x. x.story) it)

  pub correct_issued : (story : Story) → option_map (shown_as i (λ v. v + 1) kind.Correct m (first_targets (made h) i) (λ it. story)) (item h i) ≡ issued_of (issued_by_command (made h) m caller (Correct i session story))
  correct_issued story =
      twice (shown_as i (λ v. v + 1) kind.Correct m (first_targets (made h) i) (λ it. story)) (issue_of (later_issue kind.Correct (made h) i (item_after (made h) m caller (Correct i session story)) m None))
      (change_by (Correct i session story)) (item h i) (λ it. refl)

  pub kill_issued : (note : Bytes) → option_map (shown_as i (λ v. v + 1) kind.Kill m (first_targets (made h) i) (λ it. noted (Some note) it.story)) (item h i) ≡ issued_of (issued_by_command (made h) m caller (Kill i session note))
  kill_issued note =
      twice (shown_as i (λ v. v + 1) kind.Kill m (first_targets (made h) i) (λ it. noted (Some note) it.story)) (issue_of (later_issue kind.Kill (made h) i (item_after (made h) m caller (Kill i session note)) m (Some note)))
      (change_by (Kill i session note)) (item h i) (λ it. refl)

  pub recall_issued : (note : Bytes) → option_map (shown_as i (λ v. v + 1) kind.Recall m (first_targets (made h) i) (λ it. noted (Some note) it.story)) (item h i) ≡ issued_of (issued_by_command (made h) m caller (Recall i session note))
  recall_issued note =
      twice (shown_as i (λ v. v + 1) kind.Recall m (first_targets (made h) i) (λ it. noted (Some note) it.story)) (issue_of (later_issue kind.Recall (made h) i (item_after (made h) m caller (Recall i session note)) m (Some note)))
      (change_by (Recall i session note)) (item h i) (λ it. refl)

-- a command that publishes nothing of an item that is there
pub nothing_issued : (h : History) (m : ℕ) (caller : Bytes) (command : Command) → made_by command ≡ None → issues command ≡ false → None ≡ issued_of (issued_by_command (made h) m caller command)
nothing_issued h m caller (Publish i session schedule embargo targets) old none = absurd (true≢false none)
nothing_issued h m caller (Correct i session story) old none = absurd (true≢false none)
nothing_issued h m caller (Kill i session note) old none = absurd (true≢false none)
nothing_issued h m caller (Recall i session note) old none = absurd (true≢false none)
nothing_issued h m caller (Flash story targets) old none = absurd (none_some _ (sym old))
nothing_issued h m caller _ old none = refl
