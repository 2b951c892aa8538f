-- The first reason, by the sort of a command.
use Rattle.std.proofs.Common.{◌≡◌, ℕ, Bool, true, false, ◌&&◌, cond, List, [], ◌∷◌, ◌++◌, Option, Some, None, is_some, refl, sym, ap, ◌∙◌}
use Rattle.std.specs.List.{filter, list_all}
use Rattle.std.specs.Option.{option_map}
use Rattle.std.proofs.lemmas.Bool.{false≢true}
use Rattle.news_types.specs.declared.command.Command.{Command}
use Rattle.news_types.specs.declared.command.Command.TheVariants as command
use Rattle.news_types.specs.declared.denial.Denial.{Denial}
use Rattle.news_types.specs.declared.denial.Denial.TheVariants.{UnknownUser, NoPrivilege, UnknownThing, NotPaused}
use Rattle.news_types.specs.declared.words.Thing.{Thing}
use Rattle.news_types.specs.declared.words.Thing.TheVariants as thing
use Rattle.news_types.specs.declared.words.State.{State}
use Rattle.news_types.specs.declared.story.Story.{Story}
use Rattle.news_types.specs.Names.{Bytes, is_in}
use Rattle.news_types.specs.History.{History}
use Rattle.news_types.specs.Users.{is_user, may}
use Rattle.news_types.specs.Desks.{is_desk, is_stage}
use Rattle.news_types.specs.Products.{subscribers, is_subscriber}
use Rattle.news_types.specs.Due.{standing_first, release_of}
use Rattle.news_types.specs.Items.{Item, named_item, state_at}
use Rattle.news_types.specs.Publications.{item, standing, state}
use Rattle.news_types.specs.Delivery.{is_paused}
use Rattle.news_types.specs.Denial.{unless, or_else, absent, absent_of, absent_item, absent_in_place, first_missing, privilege_of, member_denial, desk_of, state_denial, lock_denial, lock_rule, release_denial, times_denial, item_denial, items_full, pubs_full, command_denial}
use Rattle.news_types.proofs.Subscribed.{listed_is}
use Rattle.news_types.proofs.Members.{none_some, some_is}
use Rattle.desk_rules.specs.Asked.{is_of_desks, caller_denial, may_denial, work_denial, knows_denial}
use Rattle.content_filters.specs.Reasons.{denial_by}
use Rattle.item_commands.specs.declared.sort.Sort.{Sort}
use Rattle.item_commands.specs.declared.sort.Sort.TheVariants as sort
use Rattle.item_commands.specs.Sorts.{sort_of}
use Rattle.newsroom.specs.Reasons.{rest_denial, resume_by, is_rule_sort}

pub or_assoc : (a b c : Option Denial) → or_else (or_else a b) c ≡ or_else a (or_else b c)
or_assoc None b c = refl
or_assoc (Some d) b c = refl

pub or_none : (a : Option Denial) → or_else a None ≡ a
or_none None = refl
or_none (Some d) = refl

-- the reason that holds is the first
pub stop_here : (a b : Option Denial) (d : Denial) → a ≡ Some d → Some d ≡ or_else a b
stop_here a b d is = ap (λ (o : Option Denial). or_else o b) (sym is)

-- where it does not hold the next is asked
pub go_on : (a b : Option Denial) → a ≡ None → b ≡ or_else a b
go_on a b is = ap (λ (o : Option Denial). or_else o b) (sym is)

pub whole : (h : History) (caller : Bytes) (command : Command) (m : ℕ) → or_else (caller_denial h caller command) (rest_denial h caller command m) ≡ command_denial h caller command m
whole h caller command m = or_assoc (unless (is_user h caller) UnknownUser) (unless (may h caller (privilege_of command)) (NoPrivilege (privilege_of command))) (rest_denial h caller command m)

-- ---- tables that commands alone change

pub rule_rest : (h : History) (caller : Bytes) (c : Command) (m : ℕ) → is_rule_sort (sort_of c) ≡ true → denial_by h c ≡ rest_denial h caller c m
rule_rest h caller (command.Resume subscriber) m is = absurd (false≢true is)
rule_rest h caller command.Stop m is = absurd (false≢true is)
rule_rest h caller (command.Create desk story) m is = absurd (false≢true is)
rule_rest h caller (command.Flash story targets) m is = absurd (false≢true is)
rule_rest h caller (command.Lock i session) m is = absurd (false≢true is)
rule_rest h caller (command.Unlock i session) m is = absurd (false≢true is)
rule_rest h caller (command.BreakLock i) m is = absurd (false≢true is)
rule_rest h caller (command.Edit i session story) m is = absurd (false≢true is)
rule_rest h caller (command.MoveTo i desk stage) m is = absurd (false≢true is)
rule_rest h caller (command.Spike i) m is = absurd (false≢true is)
rule_rest h caller (command.Unspike i desk) m is = absurd (false≢true is)
rule_rest h caller (command.Fetch i desk) m is = absurd (false≢true is)
rule_rest h caller (command.Publish i session schedule embargo targets) m is = absurd (false≢true is)
rule_rest h caller (command.Correct i session story) m is = absurd (false≢true is)
rule_rest h caller (command.Kill i session note) m is = absurd (false≢true is)
rule_rest h caller (command.Recall i session note) m is = absurd (false≢true is)
rule_rest h caller (command.Deschedule i) m is = absurd (false≢true is)
rule_rest h caller _ m is = refl

pub rule_sort : (s t : Sort) (c : Command) → s ≡ sort_of c → s ≡ t → is_rule_sort t ≡ true → is_rule_sort (sort_of c) ≡ true
rule_sort s t c is to rule = ap is_rule_sort (sym is ∙ to) ∙ rule

-- ---- a stop

pub stop_rest : (h : History) (caller : Bytes) (c : Command) (m : ℕ) → sort_of c ≡ sort.Stops → None ≡ rest_denial h caller c m
stop_rest h caller command.Stop m is = refl
stop_rest h caller _ m is = let no : ⊥ = cc in absurd no

-- ---- a feed that is pushed again

resume_is : (a p : Bool) → resume_by (cond a (Some p) None) ≡ or_else (first_missing (absent a thing.Subscriber)) (or_else (unless p NotPaused) None)
resume_is true true = refl
resume_is true false = refl
resume_is false p = refl

pub resume_rest : (h : History) (caller subscriber : Bytes) (m : ℕ) (o : Option Bool) → o ≡ cond (is_in subscriber (subscribers h)) (Some (is_paused h subscriber)) None → resume_by o ≡ rest_denial h caller (command.Resume subscriber) m
resume_rest h caller subscriber m o is =
    ap resume_by (is ∙ ap (λ (b : Bool). cond b (Some (is_paused h subscriber)) None) (listed_is h subscriber))
    ∙ resume_is (is_subscriber h subscriber) (is_paused h subscriber)

pub no_resume : (h : History) (caller : Bytes) (c : Command) (m : ℕ) → sort_of c ≡ sort.Resumes → ((subscriber : Bytes) → c ≡ command.Resume subscriber → ⊥) → None ≡ rest_denial h caller c m
no_resume h caller (command.Resume subscriber) m is other = absurd (other subscriber refl)
no_resume h caller _ m is other = let no : ⊥ = cc in absurd no

-- ---- an item that is made

make_is : (a : Bool) (member limit caller : Option Denial) → caller ≡ None
    → or_else (or_else (first_missing (filter is_of_desks (absent a thing.Desk))) None) (or_else (or_else caller (or_else member None)) limit)
    ≡ or_else (first_missing (absent a thing.Desk)) (or_else member (or_else limit None))
make_is true member limit caller none = rw (none, or_none member, or_none limit) refl
make_is false member limit caller none = refl

pub make_rest : (h : History) (caller : Bytes) (c : Command) (m : ℕ) → sort_of c ≡ sort.Makes → caller_denial h caller c ≡ None
    → or_else (knows_denial h c) (or_else (may_denial h caller c None) (items_full h)) ≡ rest_denial h caller c m
make_rest h caller (command.Create desk story) m is none = make_is (is_desk h desk) (member_denial h caller (Some desk)) (items_full h) (caller_denial h caller (command.Create desk story)) none
make_rest h caller _ m is none = let no : ⊥ = cc in absurd no

-- ---- a flash

first_absent : (p : Bytes → Bool) (what : Thing) (names : List Bytes) → first_missing (absent_of p what names) ≡ cond (list_all p names) None (Some (UnknownThing what))
first_absent p what [] = refl
first_absent p what (name ∷ names) =
    elim (p name) as (λ b. first_missing (absent b what ++ absent_of p what names) ≡ cond (b && list_all p names) None (Some (UnknownThing what))) [
      | true ↦ first_absent p what names
      | false ↦ refl
    ]

pub flash_rest : (h : History) (caller : Bytes) (story : Story) (targets : List Bytes) (m : ℕ)
    → or_else (cond (list_all (is_subscriber h) targets) None (Some (UnknownThing thing.Subscriber))) (or_else (items_full h) (pubs_full h)) ≡ rest_denial h caller (command.Flash story targets) m
flash_rest h caller story targets m =
    rw (← first_absent (is_subscriber h) thing.Subscriber targets) (ap (or_else (first_missing (absent_of (is_subscriber h) thing.Subscriber targets))) (sym (or_none (or_else (items_full h) (pubs_full h)))))

pub no_flash : (h : History) (caller : Bytes) (c : Command) (m : ℕ) → sort_of c ≡ sort.Flashes → ((story : Story) (targets : List Bytes) → c ≡ command.Flash story targets → ⊥) → None ≡ rest_denial h caller c m
no_flash h caller (command.Flash story targets) m is other = absurd (other story targets refl)
no_flash h caller _ m is other = let no : ⊥ = cc in absurd no

-- ---- an item that is worked on

four : (caller member state lock release : Option Denial) → caller ≡ None → release ≡ None → or_else caller (or_else member (or_else state lock)) ≡ or_else member (or_else (or_else state (or_else lock release)) None)
four caller member state lock release none out = rw (none, out, or_none lock, or_none (or_else state lock)) refl

module _ (h : History) (caller : Bytes) (c : Command) (release : ℕ) (f : Item → State) (why : Option Denial) (none : why ≡ None) where
  -- what is asked of an item that is there
  asked : (desk : Option Bytes) (x : Item) (from : State) → f x ≡ from → release_denial c from release ≡ None
      → or_else why (or_else (member_denial h caller desk) (work_denial caller c (Some x) (Some from)))
      ≡ or_else (member_denial h caller desk) (or_else (item_denial caller c release (Some x) (Some (f x))) None)
  asked desk x from is out = rw is (four why (member_denial h caller desk) (state_denial c from) (lock_denial caller (lock_rule c) x.holder) (release_denial c from release) none out)

  -- a command on an item that names nothing else
  alone : (o : Option Item) (from : State) → option_map f o ≡ Some from → release_denial c from release ≡ None
      → or_else (or_else (first_missing (filter is_of_desks (absent (is_some o) thing.Item))) None) (or_else why (or_else (member_denial h caller (desk_of o)) (work_denial caller c o (Some from))))
      ≡ or_else (first_missing (absent (is_some o) thing.Item)) (or_else (member_denial h caller (desk_of o)) (or_else (item_denial caller c release o (option_map f o)) None))
  alone None from is out = absurd (none_some from is)
  alone (Some x) from is out = asked (desk_of (Some x)) x from (some_is (f x) from is) out

  -- one that names a place too
  beside : (desk : Option Item → Option Bytes) (rest : List Thing) (o : Option Item) (from : State) → filter is_of_desks rest ≡ rest → option_map f o ≡ Some from → release_denial c from release ≡ None
      → or_else (or_else (first_missing (filter is_of_desks (absent (is_some o) thing.Item ++ rest))) None) (or_else why (or_else (member_denial h caller (desk o)) (work_denial caller c o (Some from))))
      ≡ or_else (first_missing (absent (is_some o) thing.Item ++ rest)) (or_else (member_denial h caller (desk o)) (or_else (item_denial caller c release o (option_map f o)) None))
  beside desk rest None from own is out = absurd (none_some from is)
  beside desk rest (Some x) from own is out =
      rw (own, or_none (first_missing rest)) (ap (or_else (first_missing rest)) (asked (desk (Some x)) x from (some_is (f x) from is) out))

one_desk : (a : Bool) → filter is_of_desks (absent a thing.Desk) ≡ absent a thing.Desk
one_desk true = refl
one_desk false = refl

place_own : (a b : Bool) → filter is_of_desks (absent a thing.Desk ++ absent b thing.Stage) ≡ absent a thing.Desk ++ absent b thing.Stage
place_own true true = refl
place_own true false = refl
place_own false true = refl
place_own false false = refl

-- an item that is not there
gone : (f : Item → State) (o : Option Item) (rest : Option Denial) → option_map f o ≡ None → Some (UnknownThing thing.Item) ≡ or_else (first_missing (absent (is_some o) thing.Item)) rest
gone f None rest is = refl
gone f (Some x) rest is = absurd (none_some (f x) (sym is))

gone_with : (f : Item → State) (o : Option Item) (things : List Thing) (rest : Option Denial) → option_map f o ≡ None → Some (UnknownThing thing.Item) ≡ or_else (first_missing (absent (is_some o) thing.Item ++ things)) rest
gone_with f None things rest is = refl
gone_with f (Some x) things rest is = absurd (none_some (f x) (sym is))

-- what is asked of an item that is there, and what comes behind it
five : (why member state lock release tail : Option Denial) → why ≡ None → or_else (or_else why (or_else member (or_else state lock))) (or_else release tail) ≡ or_else member (or_else (or_else state (or_else lock release)) tail)
five why member state lock release tail none =
    rw none (or_assoc member (or_else state lock) (or_else release tail) ∙ ap (or_else member) (or_assoc state lock (or_else release tail) ∙ sym (or_assoc state (or_else lock release) tail ∙ ap (or_else state) (or_assoc lock release tail))))

module _ (h : History) (caller : Bytes) (c : Command) (release : ℕ) (f : Item → State) (why : Option Denial) (none : why ≡ None) where
  pub tailed : (things : List Thing) (tail : Option Denial) (o : Option Item) (from : State) → option_map f o ≡ Some from → things ≡ absent (is_some o) thing.Item
      → or_else (or_else why (or_else (member_denial h caller (desk_of o)) (work_denial caller c o (Some from)))) (or_else (release_denial c from release) tail)
      ≡ or_else (first_missing things) (or_else (member_denial h caller (desk_of o)) (or_else (item_denial caller c release o (option_map f o)) tail))
  tailed things tail None from is all = absurd (none_some from is)
  tailed things tail (Some x) from is all =
      let e : f x ≡ from = some_is (f x) from is in
      rw (all, e) (five why (member_denial h caller (desk_of (Some x))) (state_denial c from) (lock_denial caller (lock_rule c) x.holder) (release_denial c from release) tail none)

  pub tailed_with : (things : List Thing) (tail : Option Denial) (o : Option Item) (from : State) → option_map f o ≡ Some from → release_denial c from release ≡ None
      → or_else (first_missing things) (or_else (or_else why (or_else (member_denial h caller (desk_of o)) (work_denial caller c o (Some from)))) tail)
      ≡ or_else (first_missing (absent (is_some o) thing.Item ++ things)) (or_else (member_denial h caller (desk_of o)) (or_else (item_denial caller c release o (option_map f o)) tail))
  tailed_with things tail None from is out = absurd (none_some from is)
  tailed_with things tail (Some x) from is out =
      let e : f x ≡ from = some_is (f x) from is in
      rw e (ap (or_else (first_missing things)) (ap (or_else (or_else why (or_else (member_denial h caller (desk_of (Some x))) (or_else (state_denial c from) (lock_denial caller (lock_rule c) x.holder))))) (ap (λ (o : Option Denial). or_else o tail) (sym out))
      ∙ five why (member_denial h caller (desk_of (Some x))) (state_denial c from) (lock_denial caller (lock_rule c) x.holder) (release_denial c from release) tail none))

module _ (h : History) (caller : Bytes) (m : ℕ) where
  abbrev state_in : ℕ → Item → State
  state_in i it = state_at m (standing_first i (standing h)) it.state

  pub work_gone : (c : Command) → sort_of c ≡ sort.Works → state h (named_item c) m ≡ None → Some (UnknownThing thing.Item) ≡ rest_denial h caller c m
  work_gone (command.Lock i session) is none = gone (state_in i) (item h i) _ none
  work_gone (command.Unlock i session) is none = gone (state_in i) (item h i) _ none
  work_gone (command.BreakLock i) is none = gone (state_in i) (item h i) _ none
  work_gone (command.Edit i session story) is none = gone (state_in i) (item h i) _ none
  work_gone (command.Spike i) is none = gone (state_in i) (item h i) _ none
  work_gone (command.MoveTo i desk stage) is none = gone_with (state_in i) (item h i) (absent_in_place h desk stage) _ none
  work_gone (command.Unspike i desk) is none = gone_with (state_in i) (item h i) (absent (is_desk h desk) thing.Desk) _ none
  work_gone (command.Fetch i desk) is none = gone_with (state_in i) (item h i) (absent (is_desk h desk) thing.Desk) _ none
  work_gone _ is none = let no : ⊥ = cc in absurd no

  pub work_rest : (c : Command) (from : State) → sort_of c ≡ sort.Works → caller_denial h caller c ≡ None → state h (named_item c) m ≡ Some from
      → or_else (knows_denial h c) (may_denial h caller c (Some from)) ≡ rest_denial h caller c m
  work_rest (command.Lock i session) from is none there = alone h caller (command.Lock i session) (release_of (standing_first i (standing h))) (state_in i) _ none (item h i) from there refl
  work_rest (command.Unlock i session) from is none there = alone h caller (command.Unlock i session) (release_of (standing_first i (standing h))) (state_in i) _ none (item h i) from there refl
  work_rest (command.BreakLock i) from is none there = alone h caller (command.BreakLock i) (release_of (standing_first i (standing h))) (state_in i) _ none (item h i) from there refl
  work_rest (command.Edit i session story) from is none there = alone h caller (command.Edit i session story) (release_of (standing_first i (standing h))) (state_in i) _ none (item h i) from there refl
  work_rest (command.Spike i) from is none there = alone h caller (command.Spike i) (release_of (standing_first i (standing h))) (state_in i) _ none (item h i) from there refl
  work_rest (command.MoveTo i desk stage) from is none there =
      beside h caller (command.MoveTo i desk stage) (release_of (standing_first i (standing h))) (state_in i) _ none desk_of (absent_in_place h desk stage) (item h i) from (place_own (is_desk h desk) (is_stage h desk stage)) there refl
  work_rest (command.Unspike i desk) from is none there =
      beside h caller (command.Unspike i desk) (release_of (standing_first i (standing h))) (state_in i) _ none (λ o. Some desk) (absent (is_desk h desk) thing.Desk) (item h i) from (one_desk (is_desk h desk)) there refl
  work_rest (command.Fetch i desk) from is none there =
      beside h caller (command.Fetch i desk) (release_of (standing_first i (standing h))) (state_in i) _ none (λ o. Some desk) (absent (is_desk h desk) thing.Desk) (item h i) from (one_desk (is_desk h desk)) there refl
  work_rest _ from is none there = let no : ⊥ = cc in absurd no

  abbrev release_in : ℕ → ℕ
  release_in i = release_of (standing_first i (standing h))

  pub follow_gone : (c : Command) → sort_of c ≡ sort.Follows → state h (named_item c) m ≡ None → Some (UnknownThing thing.Item) ≡ rest_denial h caller c m
  follow_gone (command.Correct i session story) is none = gone (state_in i) (item h i) _ none
  follow_gone (command.Kill i session note) is none = gone (state_in i) (item h i) _ none
  follow_gone (command.Recall i session note) is none = gone (state_in i) (item h i) _ none
  follow_gone _ is none = let no : ⊥ = cc in absurd no

  pub follow_rest : (c : Command) (from : State) → sort_of c ≡ sort.Follows → caller_denial h caller c ≡ None → state h (named_item c) m ≡ Some from
      → or_else (may_denial h caller c (Some from)) (or_else (release_denial c from (release_in (named_item c))) (pubs_full h)) ≡ rest_denial h caller c m
  follow_rest (command.Correct i session story) from is none there = ap (λ (o : Option Denial). or_else (may_denial h caller (command.Correct i session story) (Some from)) (or_else (release_denial (command.Correct i session story) from (release_in i)) o)) (sym (or_none (pubs_full h)))
      ∙ tailed h caller (command.Correct i session story) (release_in i) (state_in i) _ none (absent_item h i) (or_else (pubs_full h) None) (item h i) from there refl
  follow_rest (command.Kill i session note) from is none there = ap (λ (o : Option Denial). or_else (may_denial h caller (command.Kill i session note) (Some from)) (or_else (release_denial (command.Kill i session note) from (release_in i)) o)) (sym (or_none (pubs_full h)))
      ∙ tailed h caller (command.Kill i session note) (release_in i) (state_in i) _ none (absent_item h i) (or_else (pubs_full h) None) (item h i) from there refl
  follow_rest (command.Recall i session note) from is none there = ap (λ (o : Option Denial). or_else (may_denial h caller (command.Recall i session note) (Some from)) (or_else (release_denial (command.Recall i session note) from (release_in i)) o)) (sym (or_none (pubs_full h)))
      ∙ tailed h caller (command.Recall i session note) (release_in i) (state_in i) _ none (absent_item h i) (or_else (pubs_full h) None) (item h i) from there refl
  follow_rest _ from is none there = let no : ⊥ = cc in absurd no

  pub withdraw_gone : (c : Command) → sort_of c ≡ sort.Withdraws → state h (named_item c) m ≡ None → Some (UnknownThing thing.Item) ≡ rest_denial h caller c m
  withdraw_gone (command.Deschedule i) is none = gone (state_in i) (item h i) _ none
  withdraw_gone _ is none = let no : ⊥ = cc in absurd no

  pub withdraw_rest : (c : Command) (from : State) → sort_of c ≡ sort.Withdraws → caller_denial h caller c ≡ None → state h (named_item c) m ≡ Some from
      → or_else (may_denial h caller c (Some from)) (release_denial c from (release_in (named_item c))) ≡ rest_denial h caller c m
  withdraw_rest (command.Deschedule i) from is none there = ap (or_else (may_denial h caller (command.Deschedule i) (Some from))) (sym (or_none (release_denial (command.Deschedule i) from (release_in i))))
      ∙ tailed h caller (command.Deschedule i) (release_in i) (state_in i) _ none (absent_item h i) None (item h i) from there refl
  withdraw_rest _ from is none there = let no : ⊥ = cc in absurd no

  module _ (i : ℕ) (session : Bytes) (schedule embargo : Option ℕ) (targets : List Bytes) where
    abbrev publishing : Command
    publishing = command.Publish i session schedule embargo targets

    pub publish_gone : state h i m ≡ None → Some (UnknownThing thing.Item) ≡ rest_denial h caller publishing m
    publish_gone none = gone_with (state_in i) (item h i) (absent_of (is_subscriber h) thing.Subscriber targets) _ none

    pub publish_rest : (from : State) → caller_denial h caller publishing ≡ None → state h i m ≡ Some from
        → or_else (cond (list_all (is_subscriber h) targets) None (Some (UnknownThing thing.Subscriber))) (or_else (may_denial h caller publishing (Some from)) (or_else (times_denial m schedule embargo) (pubs_full h))) ≡ rest_denial h caller publishing m
    publish_rest from none there =
        ap (λ (o : Option Denial). or_else o (or_else (may_denial h caller publishing (Some from)) (or_else (times_denial m schedule embargo) (pubs_full h)))) (sym (first_absent (is_subscriber h) thing.Subscriber targets))
        ∙ ap (λ (o : Option Denial). or_else (first_missing (absent_of (is_subscriber h) thing.Subscriber targets)) (or_else (may_denial h caller publishing (Some from)) (or_else (times_denial m schedule embargo) o))) (sym (or_none (pubs_full h)))
        ∙ tailed_with h caller publishing (release_in i) (state_in i) _ none (absent_of (is_subscriber h) thing.Subscriber targets) (or_else (times_denial m schedule embargo) (or_else (pubs_full h) None)) (item h i) from there refl

pub no_publish : (h : History) (caller : Bytes) (c : Command) (m : ℕ) → sort_of c ≡ sort.Publishes
    → ((i : ℕ) (session : Bytes) (schedule embargo : Option ℕ) (targets : List Bytes) → c ≡ command.Publish i session schedule embargo targets → ⊥) → None ≡ rest_denial h caller c m
no_publish h caller (command.Publish i session schedule embargo targets) m is other = absurd (other i session schedule embargo targets refl)
no_publish h caller _ m is other = let no : ⊥ = cc in absurd no
