-- Who is a subscriber: it is there from the command that adds it on, and those to whom something is due are there.
use Rattle.std.proofs.Common.{◌≡◌, ◌==◌, ℕ, Bool, true, false, not, ◌||◌, cond, Option, Some, None, List, [], ◌∷◌, refl, sym, ap, ◌∙◌}
use Rattle.std.specs.Prelude.{is_some, unwrap_or}
use mathlib.Core.Bool.{true≢false}
use Rattle.std.specs.List.{filter}
use Rattle.std.specs.Option.{option_map}
use Rattle.news_types.specs.declared.entry.Entry.{Entry}
use Rattle.news_types.specs.declared.entry.Act.{Act}
use Rattle.news_types.specs.declared.entry.Act.TheVariants.{Request}
use Rattle.news_types.specs.declared.command.Command.{Command}
use Rattle.news_types.specs.declared.command.Command.TheVariants.{AddSubscriber, SetSubscriber}
use Rattle.news_types.specs.declared.denial.Denial.TheVariants.{NameTaken}
use Rattle.news_types.specs.Names.{Bytes, same, is_in}
use Rattle.news_types.specs.History.{History, last, by_command}
use Rattle.news_types.specs.Products.{Subscriber, subscriber, subscriber_after, is_subscriber, subscribers, subscribers_after}
use Rattle.news_types.specs.Due.{Pub, release_to, is_due, given_by, left_behind, release_for, due_names}
use Rattle.news_types.specs.Items.{Item, Made}
use Rattle.news_types.specs.Publications.{Issue, made, standing, issued_by, pub_of, pubs_of_item, pubs_of_issue, kept_by}
use Rattle.news_types.specs.Feeds.{Dispatch, feed, waiting}
use Rattle.news_types.specs.Frames.{format_of, format}
use Rattle.news_types.specs.Denial.{unless, turn_denial, reasons, command_denial, denial, is_taken}
use Rattle.news_types.specs.Legal.{IsLegal, Follows}
use Rattle.news_types.specs.Members.{Each}
use Rattle.news_types.proofs.Members.{same_is, same_self, each_map, each_append}
use Rattle.news_types.proofs.Legal.{second_no, holds_unless, none_of}
use Rattle.news_types.proofs.Bounds.{new_pubs}
use Rattle.news_types.proofs.Numbering.{GoesOver, each_feed, each_waiting}
use Rattle.news_types.proofs.Dues.{listed_due, given_had, each_kept}

-- ---- names

pub same_turned : (a b : Bytes) → same a b ≡ same b a
same_turned a b = by (same a b) (same b a) refl refl
  where
    by : (x y : Bool) → same a b ≡ x → same b a ≡ y → x ≡ y
    by true true one two = refl
    by false false one two = refl
    by true false one two = absurd (true≢false (sym (ap (λ (c : Bytes). same c a) (sym (same_is a b one)) ∙ same_self a) ∙ two))
    by false true one two = absurd (true≢false (sym (ap (λ (c : Bytes). same c b) (sym (same_is b a two)) ∙ same_self b) ∙ one))

-- ---- a subscriber stays

there_map : {A B : Type 0} (f : A → B) (o : Option A) → is_some (option_map f o) ≡ is_some o
there_map f None = refl
there_map f (Some x) = refl

same_for_both : (b : Bool) (x : Bool) → cond b x x ≡ x
same_for_both true x = refl
same_for_both false x = refl

set_there : (b : Bool) (f : Subscriber → Subscriber) (before : Option Subscriber) → is_some (cond b (option_map f before) before) ≡ is_some before
set_there true f before = there_map f before
set_there false f before = refl

-- the list of names and the facts by name tell of the same subscribers
listed_step : (act : Act) (s : Bytes) (names : List Bytes) (before : Option Subscriber) → is_in s names ≡ is_some before
    → is_in s (by_command subscribers_after act names) ≡ is_some (by_command (subscriber_after s) act before)
listed_step (Request caller number (AddSubscriber t f products lag)) s names before is =
    rw (same_turned s t) (elim (same t s) as (λ b. (b || is_in s names) ≡ is_some (cond b (Some (record { format = f; active = true; products = products; off = []; lag = lag })) before)) [ true ↦ refl | false ↦ is ])
listed_step (Request caller number (SetSubscriber t active products off lag)) s names before is =
    is ∙ sym (set_there (same t s) (λ (x : Subscriber). record x { active = active; products = products; off = off; lag = unwrap_or lag x.lag }) before)
listed_step (Request caller number command) s names before is = is
listed_step _ s names before is = is

pub listed_is : (h : History) (s : Bytes) → is_in s (subscribers h) ≡ is_subscriber h s
listed_is [] s = refl
listed_is (e ∷ h) s = listed_step e.act s (subscribers h) (subscriber h s) (listed_is h s)

stays_step : (act : Act) (s : Bytes) (before : Option Subscriber) → is_some before ≡ true → is_some (by_command (subscriber_after s) act before) ≡ true
stays_step (Request caller number (AddSubscriber t f products lag)) s before there =
    elim (same t s) as (λ b. is_some (cond b (Some (record { format = f; active = true; products = products; off = []; lag = lag })) before) ≡ true) [ true ↦ refl | false ↦ there ]
stays_step (Request caller number (SetSubscriber t active products off lag)) s before there = set_there (same t s) _ before ∙ there
stays_step (Request caller number command) s before there = there
stays_step _ s before there = there

pub subscriber_stays : (e : Entry) (h : History) (s : Bytes) → is_subscriber h s ≡ true → is_subscriber (e ∷ h) s ≡ true
subscriber_stays e h s there = stays_step e.act s (subscriber h s) there

-- who is not there was not there before
pub absent_before : (e : Entry) (h : History) (s : Bytes) → is_subscriber (e ∷ h) s ≡ false → is_subscriber h s ≡ false
absent_before e h s absent = by (is_subscriber h s) refl
  where
    by : (b : Bool) → is_subscriber h s ≡ b → b ≡ false
    by false there = refl
    by true there = absurd (true≢false (sym (subscriber_stays e h s there) ∙ absent))

-- ---- its format never changes

not_true : (b : Bool) → not b ≡ true → b ≡ false
not_true true h = absurd (true≢false (sym h))
not_true false h = refl

-- a name that is added is new
taken_row : (h : History) (caller : Bytes) (number : ℕ) (command : Command) (m : ℕ) → denial h caller number command m ≡ None → unless (not (is_taken h command)) NameTaken ≡ None
taken_row h caller number command m undenied =
    (none_of (reasons h caller command m) (second_no (turn_denial (last h caller) number command) (command_denial h caller command m) undenied)).1.1.1.0

pub not_taken : (h : History) (caller : Bytes) (number : ℕ) (command : Command) (m : ℕ) → denial h caller number command m ≡ None → is_taken h command ≡ false
not_taken h caller number command m undenied = not_true _ (holds_unless _ _ (taken_row h caller number command m undenied))

set_format : (who : Option Subscriber) (active : Bool) (products off : List Bytes) (lag : Option ℕ)
    → format_of (option_map (λ (s : Subscriber). record s { active = active; products = products; off = off; lag = unwrap_or lag s.lag }) who) ≡ format_of who
set_format None active products off lag = refl
set_format (Some who) active products off lag = refl

format_step : (h : History) (act : Act) (m : ℕ) (s : Bytes) → Follows h act m → is_subscriber h s ≡ true → format_of (by_command (subscriber_after s) act (subscriber h s)) ≡ format_of (subscriber h s)
format_step h (Request caller number (AddSubscriber t f products lag)) m s follows here =
    let new : is_subscriber h t ≡ false = not_taken h caller number (AddSubscriber t f products lag) m follows.1 in
    elim (same t s) as (λ b. same t s ≡ b → format_of (cond b (Some (record { format = f; active = true; products = products; off = []; lag = lag })) (subscriber h s)) ≡ format_of (subscriber h s)) [
      | true ↦ λ alike. absurd (true≢false (sym here ∙ ap (is_subscriber h) (sym (same_is t s alike)) ∙ new))
      | false ↦ λ other. refl
    ] refl
format_step h (Request caller number (SetSubscriber t active products off lag)) m s follows here =
    elim (same t s) as (λ b. format_of (cond b (option_map (λ (x : Subscriber). record x { active = active; products = products; off = off; lag = unwrap_or lag x.lag }) (subscriber h s)) (subscriber h s)) ≡ format_of (subscriber h s)) [
      | true ↦ set_format (subscriber h s) active products off lag
      | false ↦ refl
    ]
format_step h (Request caller number command) m s follows here = refl
format_step h _ m s follows here = refl

pub format_stays : (e : Entry) (h : History) (s : Bytes) → IsLegal (e ∷ h) → is_subscriber h s ≡ true → format (e ∷ h) s ≡ format h s
format_stays e h s legal here = format_step h e.act e.moment s legal.2 here

-- ---- who is due is a subscriber

or_right : (a b : Bool) → b ≡ true → (a || b) ≡ true
or_right true b h = refl
or_right false b h = h

in_filter : (s : Bytes) (t : Bytes → Bool) (names : List Bytes) → is_in s (filter t names) ≡ true → is_in s names ≡ true
in_filter s t [] listed = listed
in_filter s t (x ∷ names) listed = by (t x) (same s x) listed (in_filter s t names)
  where
    by : (b c : Bool) → is_in s (cond b (x ∷ filter t names) (filter t names)) ≡ true → (is_in s (filter t names) ≡ true → is_in s names ≡ true) → (same s x || is_in s names) ≡ true
    by true c found rest = or_same (same s x) (is_in s (filter t names)) (is_in s names) found rest
      where
        or_same : (a y z : Bool) → (a || y) ≡ true → (y ≡ true → z ≡ true) → (a || z) ≡ true
        or_same true y z one two = refl
        or_same false y z one two = two one
    by false c found rest = or_right (same s x) (is_in s names) (rest found)

-- those to whom it is due are subscribers
abbrev pub IsToKnown : History → Pub → Type 0
IsToKnown h p = (t : Bytes) → is_due t p ≡ true → is_subscriber h t ≡ true

known_more : (e : Entry) (h : History) (p : Pub) → IsToKnown h p → IsToKnown (e ∷ h) p
known_more e h p known t due = subscriber_stays e h t (known t due)

some_if : (b : Bool) (r : ℕ) → is_some (cond b (Some r) None) ≡ true → b ≡ true
some_if true r there = refl
some_if false r there = there

known_item : (h : History) (w : Made) (issue : Issue) (o : Option Item) → Each (IsToKnown h) (pubs_of_item h w issue o)
known_item h w issue None = tt
known_item h w issue (Some it) =
    let f : Bytes → ℕ = release_for h w.standing issue.kind issue.item issue.release in
    let names : List Bytes = due_names h w.standing issue.kind issue.item (pub_of h w issue it).story issue.release issue.targets in
    (λ t due. sym (listed_is h t) ∙ in_filter t _ (subscribers h) (some_if (is_in t names) (f t) (sym (ap is_some (listed_due f t names)) ∙ due)), tt)

known_issue : (h : History) (w : Made) (o : Option Issue) → Each (IsToKnown h) (pubs_of_issue h w o)
known_issue h w None = tt
known_issue h w (Some issue) = known_item h w issue issue.after

-- what an entry publishes is due to those that were there before it
pub new_are_known : (e : Entry) (h : History) → Each (IsToKnown h) (new_pubs e h)
new_are_known e h = known_issue h (made h) (issued_by h (made h) e.moment e.act)

known_left : (h : History) (m i : ℕ) (p : Pub) → IsToKnown h p → IsToKnown h (left_behind m i p)
known_left h m i p known t due = known t (was (p.item == i) due)
  where
    was : (b : Bool) → is_some (release_to t (cond b (given_by m p.due) p.due)) ≡ true → is_some (release_to t p.due) ≡ true
    was true there = given_had _ t p.due there
    was false there = there

pub standing_are_known : (h : History) → Each (IsToKnown h) (standing h)
standing_are_known [] = tt
standing_are_known (e ∷ h) =
    each_append (IsToKnown (e ∷ h)) (new_pubs e h) (kept_by e.moment e.act (standing h))
    (each_map (IsToKnown h) (IsToKnown (e ∷ h)) (new_pubs e h) (known_more e h) (new_are_known e h))
    (each_map (IsToKnown h) (IsToKnown (e ∷ h)) (kept_by e.moment e.act (standing h)) (known_more e h) (each_kept (IsToKnown h) (known_left h) e.moment e.act (standing h) (standing_are_known h)))

-- ---- who has something in a feed is a subscriber

-- who has a dispatch is a subscriber
abbrev pub IsForKnown : History → Bytes → Dispatch → Type 0
IsForKnown h s d = is_subscriber h s ≡ true

for_known : (h : History) (s : Bytes) → GoesOver (IsToKnown h) s (IsForKnown h s)
for_known h s p r known is = known s (ap is_some is)

none_of_absent : (h : History) (s : Bytes) (ds : List Dispatch) → Each (IsForKnown h s) ds → is_subscriber h s ≡ false → ds ≡ []
none_of_absent h s [] known absent = refl
none_of_absent h s (d ∷ ds) known absent = absurd (true≢false (sym known.0 ∙ absent))

pub feed_is_known : (h : History) (s : Bytes) → Each (IsForKnown h s) (feed h s)
feed_is_known h s = each_feed (IsToKnown h) (IsForKnown h s) h s (for_known h s) (standing_are_known h)

pub absent_feed : (h : History) (s : Bytes) → is_subscriber h s ≡ false → feed h s ≡ []
absent_feed h s absent = none_of_absent h s (feed h s) (feed_is_known h s) absent

pub absent_waiting : (h : History) (s : Bytes) → is_subscriber h s ≡ false → waiting h s ≡ []
absent_waiting h s absent = none_of_absent h s (waiting h s) (each_waiting (IsToKnown h) (IsForKnown h s) h s (for_known h s) (standing_are_known h)) absent
