-- How many there are of each thing behind so many entries, whether the list is legal or not.
use Rattle.std.proofs.Common.{◌≡◌, ℕ, zero, suc, ◌+◌, ◌-◌, ◌≤◌, ◌==◌, Bool, true, false, cond, not, Option, Some, None, List, [], ◌∷◌, ◌++◌, length, refl, ap, arith}
use Rattle.std.specs.Prelude.{slice_get, nat_lt}
use Rattle.std.specs.List.{filter}
use Rattle.std.specs.Option.{option_map}
use Rattle.std.proofs.lemmas.List.{length-append, length-map}
use Rattle.news_types.specs.declared.entry.Entry.{Entry}
use Rattle.news_types.specs.declared.entry.Act.{Act}
use Rattle.news_types.specs.declared.entry.Act.TheVariants.{Ingest, Request}
use Rattle.news_types.specs.declared.command.Command.{Command}
use Rattle.news_types.specs.declared.command.Command.TheVariants.{AddUser, AddDesk, AddStage, AddCondition, AddFilter, SetFilter, SetBlock, AddProduct, AddSubscriber, AddScheme, AddProvider, Create, Flash, Edit, Publish, Correct, Kill, Recall, Deschedule}
use Rattle.news_types.specs.declared.story.Incoming.{Incoming}
use Rattle.news_types.specs.Names.{Bytes, same}
use Rattle.news_types.specs.History.{History, moment, by_command, fact_of}
use Rattle.news_types.specs.Users.{users_added, user_count}
use Rattle.news_types.specs.Desks.{desks_added, desk_count, stages_added, stage_count}
use Rattle.news_types.specs.Conditions.{conditions_added, condition_count}
use Rattle.news_types.specs.Filters.{Filter, filters, filters_after, changed as changed_filter}
use Rattle.news_types.specs.Products.{products_added, product_count, subscribers, subscribers_after}
use Rattle.news_types.specs.Routing.{schemes_added, scheme_count, providers_added, provider_count}
use Rattle.news_types.specs.Due.{Pub, is_first_of, standing_first, release_to}
use Rattle.news_types.specs.Items.{Item, Made, Effect, New, NewAt, Replaces, Cancels, Settled, item_numbered, changed, changed_at, changed_by, at_moment, named_item, item_after, version_after, items_by, items_by_command, items_by_effect, replaced_by, effect_by}
use Rattle.news_types.specs.Publications.{Issue, issued_by, issued_by_command, issued_by_effect, pubs_of_item, pubs_of_issue, kept_by, made, item, item_count, pubs, standing}
use Rattle.news_types.specs.States.{moved}
use Rattle.news_types.specs.declared.words.Action.TheVariants as action
use Rattle.news_types.specs.Feeds.{Dispatch, dispatch, inserted, put, is_out, is_waiting, due_to, feed, waiting}
use Rattle.news_types.specs.Members.{Each}
use Rattle.news_types.proofs.Members.{each_map, each_append, each_get}
use Rattle.news_types.proofs.Firsts.{taken_back_length}

-- ---- things that commands add

added_by_act : (added : Command → ℕ) → ((command : Command) → added command ≤ 1) → (act : Act) (count first entries : ℕ) → count ≤ first + entries
    → by_command (λ command count. count + added command) act count ≤ first + suc entries
added_by_act added one (Request caller number command) count first entries le = let few = one command in omega (arith, le, few)
added_by_act added one _ count first entries le = omega (arith, le)

-- a count that each command raises by 1 at most
pub count_within : (added : Command → ℕ) → ((command : Command) → added command ≤ 1) → (first : ℕ) (h : History)
    → fact_of first (λ command count. count + added command) h ≤ first + length h
count_within added one first [] = omega arith
count_within added one first (e ∷ h) =
    added_by_act added one e.act (fact_of first (λ command count. count + added command) h) first (length h) (count_within added one first h)

users_one : (command : Command) → users_added command ≤ 1
users_one (AddUser user privileges) = omega arith
users_one _ = omega arith

desks_one : (command : Command) → desks_added command ≤ 1
desks_one (AddDesk desk) = omega arith
desks_one _ = omega arith

stages_one : (name : Bytes) (command : Command) → stages_added name command ≤ 1
stages_one name (AddStage desk stage) = elim (same desk name) as (λ b. cond b 1 0 ≤ 1) [ true ↦ omega arith | false ↦ omega arith ]
stages_one name _ = omega arith

conditions_one : (command : Command) → conditions_added command ≤ 1
conditions_one (AddCondition condition field op values) = omega arith
conditions_one _ = omega arith

products_one : (command : Command) → products_added command ≤ 1
products_one (AddProduct product how filter) = omega arith
products_one _ = omega arith

schemes_one : (command : Command) → schemes_added command ≤ 1
schemes_one (AddScheme scheme rules) = omega arith
schemes_one _ = omega arith

providers_one : (command : Command) → providers_added command ≤ 1
providers_one (AddProvider provider scheme) = omega arith
providers_one _ = omega arith

pub users_within : (h : History) → user_count h ≤ 1 + length h
users_within h = count_within users_added users_one 1 h

pub desks_within : (h : History) → desk_count h ≤ length h
desks_within h = let le = count_within desks_added desks_one 0 h in omega (arith, le)

pub stages_within : (h : History) (desk : Bytes) → stage_count h desk ≤ 2 + length h
stages_within h desk = count_within (stages_added desk) (stages_one desk) 2 h

pub conditions_within : (h : History) → condition_count h ≤ length h
conditions_within h = let le = count_within conditions_added conditions_one 0 h in omega (arith, le)

pub products_within : (h : History) → product_count h ≤ 1 + length h
products_within h = count_within products_added products_one 1 h

pub schemes_within : (h : History) → scheme_count h ≤ length h
schemes_within h = let le = count_within schemes_added schemes_one 0 h in omega (arith, le)

pub providers_within : (h : History) → provider_count h ≤ length h
providers_within h = let le = count_within providers_added providers_one 0 h in omega (arith, le)

-- lists of filters and of subscribers

filters_by_command : (command : Command) (fs : List Filter) → length (filters_after command fs) ≤ suc (length fs)
filters_by_command (AddFilter filter statements) fs = omega arith
filters_by_command (SetFilter filter statements) fs = let same_length = length-map fs (changed_filter filter (λ f. record f { statements = statements })) in omega (arith, same_length)
filters_by_command (SetBlock filter on) fs = let same_length = length-map fs (changed_filter filter (λ f. record f { blocks = on })) in omega (arith, same_length)
filters_by_command _ fs = omega arith

filters_by_act : (act : Act) (fs : List Filter) (n : ℕ) → length fs ≤ n → length (by_command filters_after act fs) ≤ suc n
filters_by_act (Request caller number command) fs n le = let one = filters_by_command command fs in omega (arith, one, le)
filters_by_act _ fs n le = omega (arith, le)

pub filters_within : (h : History) → length (filters h) ≤ length h
filters_within [] = omega arith
filters_within (e ∷ h) = filters_by_act e.act (filters h) (length h) (filters_within h)

subscribers_by_command : (command : Command) (names : List Bytes) → length (subscribers_after command names) ≤ suc (length names)
subscribers_by_command (AddSubscriber subscriber format products lag) names = omega arith
subscribers_by_command _ names = omega arith

subscribers_by_act : (act : Act) (names : List Bytes) (n : ℕ) → length names ≤ n → length (by_command subscribers_after act names) ≤ suc n
subscribers_by_act (Request caller number command) names n le = let one = subscribers_by_command command names in omega (arith, one, le)
subscribers_by_act _ names n le = omega (arith, le)

pub subscribers_within : (h : History) → length (subscribers h) ≤ length h
subscribers_within [] = omega arith
subscribers_within (e ∷ h) = subscribers_by_act e.act (subscribers h) (length h) (subscribers_within h)

-- ---- items

changed_at_length : (i : ℕ) (f : Item → Item) (items : List Item) → length (changed_at i f items) ≡ length items
changed_at_length i f [] = refl
changed_at_length zero f (it ∷ items) = refl
changed_at_length (suc i) f (it ∷ items) = ap suc (changed_at_length i f items)

pub changed_length : (i : ℕ) (f : Item → Item) (items : List Item) → length (changed i f items) ≡ length items
changed_length i f items = elim (i == 0) as (λ b. length (cond b items (changed_at (i - 1) f items)) ≡ length items) [ true ↦ refl | false ↦ changed_at_length (i - 1) f items ]

pub pushed_length : {A : Type 0} (xs : List A) (x : A) → length (xs ++ x ∷ []) ≡ suc (length xs)
pushed_length [] x = refl
pushed_length (y ∷ xs) x = ap suc (pushed_length xs x)

-- one item more at most, and never one less
abbrev pub OneMore : ℕ → ℕ → Type 0
OneMore before after = (before ≤ after) × (after ≤ suc before)

pushed_more : (items : List Item) (it : Item) → OneMore (length items) (length (items ++ it ∷ []))
pushed_more items it = let one = pushed_length items it in (omega (arith, one), omega (arith, one))

changed_more : (i : ℕ) (f : Item → Item) (items : List Item) → OneMore (length items) (length (changed i f items))
changed_more i f items = let all = changed_length i f items in (omega (arith, all), omega (arith, all))

pub command_items : (w : Made) (m : ℕ) (caller : Bytes) (command : Command) → OneMore (length w.items) (length (items_by_command w m caller command))
command_items w m caller (Create desk story) = pushed_more w.items _
command_items w m caller (Flash story targets) = pushed_more w.items _
command_items w m caller command =
    changed_more (named_item command) (λ it. changed_by caller command (at_moment m (standing_first (named_item command) w.standing) it)) w.items

pub effect_items : (w : Made) (name : Bytes) (come : Incoming) (effect : Effect) → OneMore (length w.items) (length (items_by_effect w name come effect))
effect_items w name come New = pushed_more w.items _
effect_items w name come (NewAt inserted published) = pushed_more w.items _
effect_items w name come (Replaces i) = changed_more i (replaced_by name come) w.items
effect_items w name come (Cancels i) = changed_more i (λ it. record it { state = moved action.Cancel it.state }) w.items
effect_items w name come (Settled i) = (omega arith, omega arith)

pub act_items : (h : History) (w : Made) (m : ℕ) (act : Act) → OneMore (length w.items) (length (items_by h w m act))
act_items h w m (Request caller number command) = command_items w m caller command
act_items h w m (Ingest name come) = effect_items w name come (effect_by h w name come m)
act_items h w m _ = (omega arith, omega arith)

-- an entry makes one item at most, and none goes
pub items_grow : (e : Entry) (h : History) → OneMore (item_count h) (item_count (e ∷ h))
items_grow e h = act_items h (made h) e.moment e.act

pub items_within : (h : History) → item_count h ≤ length h
items_within [] = omega arith
items_within (e ∷ h) = next (item_count h) (item_count (e ∷ h)) (length h) (items_grow e h).1 (items_within h)
  where
    next : (before after n : ℕ) → after ≤ suc before → before ≤ n → after ≤ suc n
    next before after n one le = omega (arith, one, le)

-- ---- publications

-- what an entry publishes
abbrev pub new_pubs : Entry → History → List Pub
new_pubs e h = pubs_of_issue h (made h) (issued_by h (made h) e.moment e.act)

pub new_pub_item : (h : History) (w : Made) (issue : Issue) (o : Option Item) → length (pubs_of_item h w issue o) ≤ 1
new_pub_item h w issue None = omega arith
new_pub_item h w issue (Some it) = omega arith

pub new_pub_issue : (h : History) (w : Made) (o : Option Issue) → length (pubs_of_issue h w o) ≤ 1
new_pub_issue h w None = omega arith
new_pub_issue h w (Some issue) = new_pub_item h w issue issue.after

-- an entry publishes once at most
pub new_pubs_few : (e : Entry) (h : History) → length (new_pubs e h) ≤ 1
new_pubs_few e h = new_pub_issue h (made h) (issued_by h (made h) e.moment e.act)

pub pubs_grow : (e : Entry) (h : History) → OneMore (length (pubs h)) (length (pubs (e ∷ h)))
pubs_grow e h = more (new_pubs e h) (pubs h) (new_pubs_few e h)
  where
    more : (new old : List Pub) → length new ≤ 1 → OneMore (length old) (length (new ++ old))
    more new old few = let both = length-append new old in (omega (arith, both), omega (arith, both, few))

pub pubs_within : (h : History) → length (pubs h) ≤ length h
pubs_within [] = omega arith
pubs_within (e ∷ h) = next (length (pubs h)) (length (pubs (e ∷ h))) (length h) (pubs_grow e h).1 (pubs_within h)
  where
    next : (before after n : ℕ) → after ≤ suc before → before ≤ n → after ≤ suc n
    next before after n one le = omega (arith, one, le)

pub filter_length : {A : Type 0} (t : A → Bool) (xs : List A) → length (filter t xs) ≤ length xs
filter_length t [] = omega arith
filter_length t (x ∷ xs) = by (t x) (filter_length t xs)
  where
    by : (b : Bool) → length (filter t xs) ≤ length xs → length (cond b (x ∷ filter t xs) (filter t xs)) ≤ suc (length xs)
    by true le = omega (arith, le)
    by false le = omega (arith, le)

pub kept_length : (m : ℕ) (act : Act) (ps : List Pub) → length (kept_by m act ps) ≤ length ps
kept_length m (Request caller number (Deschedule i)) ps = filter_length (λ p. not (is_first_of i p)) ps
kept_length m (Request caller number (Kill i session note)) ps = let same_length = taken_back_length m i ps in omega (arith, same_length)
kept_length m (Request caller number (Recall i session note)) ps = let same_length = taken_back_length m i ps in omega (arith, same_length)
kept_length m (Request caller number command) ps = omega arith
kept_length m _ ps = omega arith

pub standing_within_pubs : (h : History) → length (standing h) ≤ length (pubs h)
standing_within_pubs [] = omega arith
standing_within_pubs (e ∷ h) = both (new_pubs e h) (kept_by e.moment e.act (standing h)) (standing h) (pubs h) (kept_length e.moment e.act (standing h)) (standing_within_pubs h)
  where
    both : (new kept stands all : List Pub) → length kept ≤ length stands → length stands ≤ length all → length (new ++ kept) ≤ length (new ++ all)
    both new kept stands all less le = let a = length-append new kept in let b = length-append new all in omega (arith, a, b, less, le)

pub standing_within : (h : History) → length (standing h) ≤ length h
standing_within h = let a = standing_within_pubs h in let b = pubs_within h in omega (arith, a, b)

-- ---- feeds

place_length : (d : Dispatch) (ds : List Dispatch) → length (inserted d ds) ≡ suc (length ds)
place_length d [] = refl
place_length d (e ∷ es) =
    elim (nat_lt d.release e.release) as (λ b. length (cond b (d ∷ e ∷ es) (e ∷ inserted d es)) ≡ suc (suc (length es))) [ true ↦ refl | false ↦ ap suc (place_length d es) ]

put_length : (p : Pub) (o : Option ℕ) (ds : List Dispatch) → length (put p o ds) ≤ suc (length ds)
put_length p None ds = omega arith
put_length p (Some release) ds = let long = place_length (dispatch p release) ds in omega (arith, long)

pub due_to_length : (s : Bytes) (ps : List Pub) → length (due_to s ps) ≤ length ps
due_to_length s [] = omega arith
due_to_length s (p ∷ ps) = let one = put_length p (release_to s p.due) (due_to s ps) in let rest = due_to_length s ps in omega (arith, one, rest)

-- a feed has no more entries than there are publications that stand
pub feed_within : (h : History) (s : Bytes) → length (feed h s) ≤ length (standing h)
feed_within h s =
    let out = filter_length (is_out (moment h)) (due_to s (standing h)) in
    let due = due_to_length s (standing h) in
    omega (arith, out, due)

pub waiting_within : (h : History) (s : Bytes) → length (waiting h s) ≤ length (standing h)
waiting_within h s =
    let out = filter_length (is_waiting (moment h)) (due_to s (standing h)) in
    let due = due_to_length s (standing h) in
    omega (arith, out, due)

-- ---- versions

-- from 1 to so many
abbrev pub VersionTo : ℕ → Item → Type 0
VersionTo n it = (1 ≤ it.version) × (it.version ≤ n)

-- it holds of the item, if there is one
abbrev pub OfItem : (Item → Type 0) → Option Item → Type 0
OfItem P None = Unit {0}
OfItem P (Some it) = P it

each_changed_at : (P Q : Item → Type 0) (i : ℕ) (f : Item → Item) (items : List Item) → ((it : Item) → P it → Q it) → ((it : Item) → P it → Q (f it))
    → Each P items → Each Q (changed_at i f items)
each_changed_at P Q i f [] kept more all = tt
each_changed_at P Q zero f (it ∷ items) kept more all = (more it all.0, each_map P Q items kept all.1)
each_changed_at P Q (suc i) f (it ∷ items) kept more all = (kept it all.0, each_changed_at P Q i f items kept more all.1)

-- one item of a list is changed
pub each_changed : (P Q : Item → Type 0) (i : ℕ) (f : Item → Item) (items : List Item) → ((it : Item) → P it → Q it) → ((it : Item) → P it → Q (f it))
    → Each P items → Each Q (changed i f items)
each_changed P Q i f items kept more all =
    elim (i == 0) as (λ b. Each Q (cond b items (changed_at (i - 1) f items))) [
      | true ↦ each_map P Q items kept all
      | false ↦ each_changed_at P Q (i - 1) f items kept more all
    ]

of_get : (P : Item → Type 0) (items : List Item) (o : Option Item) (i : ℕ) → slice_get items i ≡ o → Each P items → OfItem P o
of_get P items None i is all = tt
of_get P items (Some it) i is all = each_get P items i it all is

-- item i of a list
pub of_numbered : (P : Item → Type 0) (items : List Item) (i : ℕ) → Each P items → OfItem P (item_numbered items i)
of_numbered P items i all =
    elim (i == 0) as (λ b. OfItem P (cond b None (slice_get items (i - 1)))) [ true ↦ tt | false ↦ of_get P items (slice_get items (i - 1)) (i - 1) refl all ]

of_mapped : (P Q : Item → Type 0) (f : Item → Item) (o : Option Item) → ((it : Item) → P it → Q (f it)) → OfItem P o → OfItem Q (option_map f o)
of_mapped P Q f None more of = tt
of_mapped P Q f (Some it) more of = more it of

-- a command raises a version by 1 at most
abbrev pub NextVersion : ℕ → ℕ → Type 0
NextVersion before after = (before ≤ after) × (after ≤ suc before)

pub next_version : (command : Command) (n : ℕ) → NextVersion n (version_after command n)
next_version (Edit i session story) n = (omega arith, omega arith)
next_version (Correct i session story) n = (omega arith, omega arith)
next_version (Kill i session note) n = (omega arith, omega arith)
next_version (Recall i session note) n = (omega arith, omega arith)
next_version _ n = (omega arith, omega arith)

version_kept : (n : ℕ) (it : Item) → VersionTo n it → VersionTo (suc n) it
version_kept n it to = (to.0, omega (arith, to.1))

version_changed : (n : ℕ) (m : ℕ) (first : Option Pub) (caller : Bytes) (command : Command) (it : Item) → VersionTo n it → VersionTo (suc n) (changed_by caller command (at_moment m first it))
version_changed n m first caller command it to = let next = next_version command it.version in (omega (arith, next.0, to.0), omega (arith, next.1, to.1))

version_one : (n : ℕ) (items : List Item) (it : Item) → it.version ≡ 1 → Each (VersionTo n) items → Each (VersionTo (suc n)) (items ++ it ∷ [])
version_one n items it is all =
    each_append (VersionTo (suc n)) items (it ∷ []) (each_map (VersionTo n) (VersionTo (suc n)) items (version_kept n) all) ((omega (arith, is), omega (arith, is)), tt)

command_versions : (w : Made) (n m : ℕ) (caller : Bytes) (command : Command) → Each (VersionTo n) w.items → Each (VersionTo (suc n)) (items_by_command w m caller command)
command_versions w n m caller (Create desk story) all = version_one n w.items _ refl all
command_versions w n m caller (Flash story targets) all = version_one n w.items _ refl all
command_versions w n m caller command all =
    each_changed (VersionTo n) (VersionTo (suc n)) (named_item command) (λ it. changed_by caller command (at_moment m (standing_first (named_item command) w.standing) it)) w.items
    (version_kept n) (version_changed n m (standing_first (named_item command) w.standing) caller command) all

effect_versions : (w : Made) (n : ℕ) (name : Bytes) (come : Incoming) (effect : Effect) → Each (VersionTo n) w.items → Each (VersionTo (suc n)) (items_by_effect w name come effect)
effect_versions w n name come New all = version_one n w.items _ refl all
effect_versions w n name come (NewAt inserted published) all = version_one n w.items _ refl all
effect_versions w n name come (Replaces i) all =
    each_changed (VersionTo n) (VersionTo (suc n)) i (replaced_by name come) w.items (version_kept n) (λ it to. (omega (arith, to.0), omega (arith, to.1))) all
effect_versions w n name come (Cancels i) all =
    each_changed (VersionTo n) (VersionTo (suc n)) i (λ it. record it { state = moved action.Cancel it.state }) w.items (version_kept n) (version_kept n) all
effect_versions w n name come (Settled i) all = each_map (VersionTo n) (VersionTo (suc n)) w.items (version_kept n) all

act_versions : (h : History) (w : Made) (n m : ℕ) (act : Act) → Each (VersionTo n) w.items → Each (VersionTo (suc n)) (items_by h w m act)
act_versions h w n m (Request caller number command) all = command_versions w n m caller command all
act_versions h w n m (Ingest name come) all = effect_versions w n name come (effect_by h w name come m) all
act_versions h w n m _ all = each_map (VersionTo n) (VersionTo (suc n)) w.items (version_kept n) all

-- the version of each item is at least 1 and at most the number of entries
pub versions_within : (h : History) → Each (VersionTo (length h)) ((made h).items)
versions_within [] = tt
versions_within (e ∷ h) = act_versions h (made h) (length h) e.moment e.act (versions_within h)

pub version_within : (h : History) (i : ℕ) → OfItem (VersionTo (length h)) (item h i)
version_within h i = of_numbered (VersionTo (length h)) ((made h).items) i (versions_within h)

-- the same of the versions that were published

abbrev pub PubVersionTo : ℕ → Pub → Type 0
PubVersionTo n p = (1 ≤ p.version) × (p.version ≤ n)

abbrev OfIssue : ℕ → Option Issue → Type 0
OfIssue n None = Unit {0}
OfIssue n (Some issue) = OfItem (VersionTo n) issue.after

behind_version : (w : Made) (n m : ℕ) (caller : Bytes) (command : Command) → Each (VersionTo n) w.items → OfItem (VersionTo (suc n)) (item_after w m caller command)
behind_version w n m caller command all =
    of_mapped (VersionTo n) (VersionTo (suc n)) (λ it. changed_by caller command (at_moment m (standing_first (named_item command) w.standing) it)) (item_numbered w.items (named_item command))
    (version_changed n m (standing_first (named_item command) w.standing) caller command) (of_numbered (VersionTo n) w.items (named_item command) all)

command_issue : (w : Made) (n m : ℕ) (caller : Bytes) (command : Command) → Each (VersionTo n) w.items → OfIssue (suc n) (issued_by_command w m caller command)
command_issue w n m caller (Flash story targets) all = (omega arith, omega arith)
command_issue w n m caller (Publish i session schedule embargo targets) all = behind_version w n m caller (Publish i session schedule embargo targets) all
command_issue w n m caller (Correct i session story) all = behind_version w n m caller (Correct i session story) all
command_issue w n m caller (Kill i session note) all = behind_version w n m caller (Kill i session note) all
command_issue w n m caller (Recall i session note) all = behind_version w n m caller (Recall i session note) all
command_issue w n m caller _ all = tt

effect_issue : (w : Made) (n m : ℕ) (name : Bytes) (come : Incoming) (effect : Effect) → OfIssue (suc n) (issued_by_effect w m name come effect)
effect_issue w n m name come (NewAt inserted true) = (omega arith, omega arith)
effect_issue w n m name come _ = tt

act_issue : (h : History) (w : Made) (n m : ℕ) (act : Act) → Each (VersionTo n) w.items → OfIssue (suc n) (issued_by h w m act)
act_issue h w n m (Request caller number command) all = command_issue w n m caller command all
act_issue h w n m (Ingest name come) all = effect_issue w n m name come (effect_by h w name come m)
act_issue h w n m _ all = tt

item_version : (h : History) (w : Made) (n : ℕ) (issue : Issue) (o : Option Item) → OfItem (VersionTo n) o → Each (PubVersionTo n) (pubs_of_item h w issue o)
item_version h w n issue None of = tt
item_version h w n issue (Some it) of = (of, tt)

issue_version : (h : History) (w : Made) (n : ℕ) (o : Option Issue) → OfIssue n o → Each (PubVersionTo n) (pubs_of_issue h w o)
issue_version h w n None of = tt
issue_version h w n (Some issue) of = item_version h w n issue issue.after of

pub pub_versions_within : (h : History) → Each (PubVersionTo (length h)) (pubs h)
pub_versions_within [] = tt
pub_versions_within (e ∷ h) =
    each_append (PubVersionTo (suc (length h))) (new_pubs e h) (pubs h)
    (issue_version h (made h) (suc (length h)) (issued_by h (made h) e.moment e.act) (act_issue h (made h) (length h) e.moment e.act (versions_within h)))
    (each_map (PubVersionTo (length h)) (PubVersionTo (suc (length h))) (pubs h) (λ p to. (to.0, omega (arith, to.1))) (pub_versions_within h))
