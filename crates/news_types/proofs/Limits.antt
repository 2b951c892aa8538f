-- What no legal list exceeds: the limits of the tables, and the numbers of requests.
use Rattle.std.proofs.Common.{◌≡◌, ℕ, suc, ◌+◌, ◌<◌, ◌≤◌, Bool, true, false, cond, Option, Some, None, List, [], ◌∷◌, ◌++◌, length, refl, ap, arith}
use Rattle.std.specs.Prelude.{nat_lt}
use Rattle.std.proofs.lemmas.Bool.{ltb-true}
use Rattle.std.proofs.lemmas.List.{length-append}
use Rattle.news_types.specs.declared.entry.Act.{Act}
use Rattle.news_types.specs.declared.entry.Act.TheVariants.{Ingest, Request}
use Rattle.news_types.specs.declared.command.Command.{Command}
use Rattle.news_types.specs.declared.command.Command.TheVariants.{AddUser, AddDesk, AddStage, AddCondition, AddFilter, SetFilter, SetBlock, AddProduct, AddSubscriber, AddScheme, AddProvider, Create, Flash, Publish, Correct, Kill, Recall}
use Rattle.news_types.specs.declared.words.Thing.{Thing}
use Rattle.news_types.specs.declared.words.Thing.TheVariants as thing
use Rattle.news_types.specs.declared.words.Action.TheVariants as action
use Rattle.news_types.specs.States.{moved}
use Rattle.news_types.specs.declared.story.Incoming.{Incoming}
use Rattle.news_types.specs.declared.denial.Denial.TheVariants.{Limit}
use Rattle.news_types.specs.Names.{Bytes, same}
use Rattle.news_types.specs.History.{History, last, last_number, last_after, number_of, by_command, fact_of}
use Rattle.news_types.specs.Users.{users_added, user_count}
use Rattle.news_types.specs.Desks.{desks_added, desk_count, stages_added, stage_count}
use Rattle.news_types.specs.Conditions.{conditions_added, condition_count}
use Rattle.news_types.specs.Filters.{filters, filters_after, changed as changed_filter}
use Rattle.news_types.specs.Products.{products_added, product_count, subscribers, subscribers_after}
use Rattle.news_types.specs.Routing.{schemes_added, scheme_count, providers_added, provider_count}
use Rattle.news_types.specs.Due.{standing_first}
use Rattle.news_types.specs.Items.{Item, Made, Effect, New, NewAt, Replaces, Cancels, Settled, changed_by, at_moment, replaced_by, changed, named_item, items_by, items_by_command, items_by_effect}
use Rattle.news_types.specs.Publications.{Issue, issued_by, issued_by_command, issued_by_effect, effect, pubs_of_issue, made, item_count, pubs, standing}
use Rattle.news_types.specs.Denial.{turn_denial, command_denial, denial, reasons, limit_of, full, limit_denial, items_full, pubs_full, new_item_denial}
use Rattle.news_types.specs.Legal.{IsLegal, Follows}
use Rattle.news_types.proofs.Members.{same_is}
use Rattle.news_types.proofs.Legal.{first_no, second_no, holds_unless, none_of}
use Rattle.news_types.proofs.Bounds.{pushed_length, changed_length, new_pub_issue}
use Rattle.std.proofs.lemmas.List.{length-map}

-- ---- what a request that is not denied tells of the tables

pub limit_row : (h : History) (caller : Bytes) (number : ℕ) (command : Command) (m : ℕ) → denial h caller number command m ≡ None → limit_denial h command ≡ None
limit_row h caller number command m undenied =
    (none_of (reasons h caller command m) (second_no (turn_denial (last h caller) number command) (command_denial h caller command m) undenied)).1.1.1.1.1.1.1.1.1.1.0

-- there is room in a table
pub room : (what : Thing) (count : ℕ) → full what count ≡ None → count < limit_of what
room what count e = ltb-true count (limit_of what) (holds_unless (nat_lt count (limit_of what)) (Limit what (limit_of what)) e)

-- ---- counts that commands raise

module _ (added : Command → ℕ) (first most : ℕ) (few : first ≤ most)
    (step : (h : History) (command : Command) → limit_denial h command ≡ None → fact_of first (λ command count. count + added command) h ≤ most
    → fact_of first (λ command count. count + added command) h + added command ≤ most) where
  count_by : (h : History) (act : Act) (m : ℕ) → Follows h act m → fact_of first (λ command count. count + added command) h ≤ most
      → by_command (λ command count. count + added command) act (fact_of first (λ command count. count + added command) h) ≤ most
  count_by h (Request caller number command) m follows le = step h command (limit_row h caller number command m follows.1) le
  count_by h _ m follows le = le

  pub count_limited : (h : History) → IsLegal h → fact_of first (λ command count. count + added command) h ≤ most
  count_limited [] legal = few
  count_limited (e ∷ h) legal = count_by h e.act e.moment legal.2 (count_limited h legal.0)

users_step : (h : History) (command : Command) → limit_denial h command ≡ None → user_count h ≤ 4096 → user_count h + users_added command ≤ 4096
users_step h (AddUser user privileges) e le = let lt = room thing.User (user_count h) e in omega (arith, lt)
users_step h _ e le = omega (arith, le)

pub users_limited : (h : History) → IsLegal h → user_count h ≤ 4096
users_limited h legal = count_limited users_added 1 4096 (omega arith) users_step h legal

desks_step : (h : History) (command : Command) → limit_denial h command ≡ None → desk_count h ≤ 256 → desk_count h + desks_added command ≤ 256
desks_step h (AddDesk desk) e le = let lt = room thing.Desk (desk_count h) e in omega (arith, lt)
desks_step h _ e le = omega (arith, le)

pub desks_limited : (h : History) → IsLegal h → desk_count h ≤ 256
desks_limited h legal = count_limited desks_added 0 256 (omega arith) desks_step h legal

stages_step : (name : Bytes) (h : History) (command : Command) → limit_denial h command ≡ None → stage_count h name ≤ 64 → stage_count h name + stages_added name command ≤ 64
stages_step name h (AddStage desk stage) e le = by (same desk name) refl
  where
    by : (b : Bool) → same desk name ≡ b → stage_count h name + cond b 1 0 ≤ 64
    by false other = omega (arith, le)
    by true alike =
        let lt = room thing.Stage (stage_count h desk) e in
        let counts : stage_count h desk ≡ stage_count h name = ap (stage_count h) (same_is desk name alike) in
        omega (arith, lt, counts)
stages_step name h _ e le = omega (arith, le)

pub stages_limited : (h : History) (desk : Bytes) → IsLegal h → stage_count h desk ≤ 64
stages_limited h desk legal = count_limited (stages_added desk) 2 64 (omega arith) (stages_step desk) h legal

conditions_step : (h : History) (command : Command) → limit_denial h command ≡ None → condition_count h ≤ 4096 → condition_count h + conditions_added command ≤ 4096
conditions_step h (AddCondition condition field op values) e le = let lt = room thing.Condition (condition_count h) e in omega (arith, lt)
conditions_step h _ e le = omega (arith, le)

pub conditions_limited : (h : History) → IsLegal h → condition_count h ≤ 4096
conditions_limited h legal = count_limited conditions_added 0 4096 (omega arith) conditions_step h legal

products_step : (h : History) (command : Command) → limit_denial h command ≡ None → product_count h ≤ 1024 → product_count h + products_added command ≤ 1024
products_step h (AddProduct product how filter) e le = let lt = room thing.Product (product_count h) e in omega (arith, lt)
products_step h _ e le = omega (arith, le)

pub products_limited : (h : History) → IsLegal h → product_count h ≤ 1024
products_limited h legal = count_limited products_added 1 1024 (omega arith) products_step h legal

schemes_step : (h : History) (command : Command) → limit_denial h command ≡ None → scheme_count h ≤ 64 → scheme_count h + schemes_added command ≤ 64
schemes_step h (AddScheme scheme rules) e le = let lt = room thing.Scheme (scheme_count h) e in omega (arith, lt)
schemes_step h _ e le = omega (arith, le)

pub schemes_limited : (h : History) → IsLegal h → scheme_count h ≤ 64
schemes_limited h legal = count_limited schemes_added 0 64 (omega arith) schemes_step h legal

providers_step : (h : History) (command : Command) → limit_denial h command ≡ None → provider_count h ≤ 256 → provider_count h + providers_added command ≤ 256
providers_step h (AddProvider provider scheme) e le = let lt = room thing.Provider (provider_count h) e in omega (arith, lt)
providers_step h _ e le = omega (arith, le)

pub providers_limited : (h : History) → IsLegal h → provider_count h ≤ 256
providers_limited h legal = count_limited providers_added 0 256 (omega arith) providers_step h legal

-- ---- lists that commands make longer

filters_step : (h : History) (command : Command) → limit_denial h command ≡ None → length (filters h) ≤ 1024 → length (filters_after command (filters h)) ≤ 1024
filters_step h (AddFilter filter statements) e le = let lt = room thing.Filter (length (filters h)) e in omega (arith, lt)
filters_step h (SetFilter filter statements) e le = let all = length-map (filters h) (changed_filter filter (λ f. record f { statements = statements })) in omega (arith, all, le)
filters_step h (SetBlock filter on) e le = let all = length-map (filters h) (changed_filter filter (λ f. record f { blocks = on })) in omega (arith, all, le)
filters_step h _ e le = le

filters_by : (h : History) (act : Act) (m : ℕ) → Follows h act m → length (filters h) ≤ 1024 → length (by_command filters_after act (filters h)) ≤ 1024
filters_by h (Request caller number command) m follows le = filters_step h command (limit_row h caller number command m follows.1) le
filters_by h _ m follows le = le

pub filters_limited : (h : History) → IsLegal h → length (filters h) ≤ 1024
filters_limited [] legal = omega arith
filters_limited (e ∷ h) legal = filters_by h e.act e.moment legal.2 (filters_limited h legal.0)

subscribers_step : (h : History) (command : Command) → limit_denial h command ≡ None → length (subscribers h) ≤ 256 → length (subscribers_after command (subscribers h)) ≤ 256
subscribers_step h (AddSubscriber subscriber format products lag) e le = let lt = room thing.Subscriber (length (subscribers h)) e in omega (arith, lt)
subscribers_step h _ e le = le

subscribers_by : (h : History) (act : Act) (m : ℕ) → Follows h act m → length (subscribers h) ≤ 256 → length (by_command subscribers_after act (subscribers h)) ≤ 256
subscribers_by h (Request caller number command) m follows le = subscribers_step h command (limit_row h caller number command m follows.1) le
subscribers_by h _ m follows le = le

pub subscribers_limited : (h : History) → IsLegal h → length (subscribers h) ≤ 256
subscribers_limited [] legal = omega arith
subscribers_limited (e ∷ h) legal = subscribers_by h e.act e.moment legal.2 (subscribers_limited h legal.0)

-- ---- items

one_item : (items : List Item) (it : Item) → length items < 262144 → length (items ++ it ∷ []) ≤ 262144
one_item items it lt = let one = pushed_length items it in omega (arith, lt, one)

same_items : (i : ℕ) (f : Item → Item) (items : List Item) → length items ≤ 262144 → length (changed i f items) ≤ 262144
same_items i f items le = let all = changed_length i f items in omega (arith, all, le)

items_step : (h : History) (m : ℕ) (caller : Bytes) (command : Command) → limit_denial h command ≡ None → item_count h ≤ 262144 → length (items_by_command (made h) m caller command) ≤ 262144
items_step h m caller (Create desk story) e le = one_item ((made h).items) _ (room thing.Item (item_count h) e)
items_step h m caller (Flash story targets) e le = one_item ((made h).items) _ (room thing.Item (item_count h) (first_no (items_full h) (pubs_full h) e))
items_step h m caller command e le =
    same_items (named_item command) (λ it. changed_by caller command (at_moment m (standing_first (named_item command) (standing h)) it)) ((made h).items) le

items_effect : (h : History) (name : Bytes) (come : Incoming) (given : Effect) → new_item_denial h given ≡ None → item_count h ≤ 262144 → length (items_by_effect (made h) name come given) ≤ 262144
items_effect h name come New e le = one_item ((made h).items) _ (room thing.Item (item_count h) e)
items_effect h name come (NewAt place true) e le = one_item ((made h).items) _ (room thing.Item (item_count h) (first_no (items_full h) (pubs_full h) e))
items_effect h name come (NewAt place false) e le = one_item ((made h).items) _ (room thing.Item (item_count h) e)
items_effect h name come (Replaces i) e le = same_items i (replaced_by name come) ((made h).items) le
items_effect h name come (Cancels i) e le = same_items i (λ it. record it { state = moved action.Cancel it.state }) ((made h).items) le
items_effect h name come (Settled i) e le = le

items_by_act : (h : History) (act : Act) (m : ℕ) → Follows h act m → item_count h ≤ 262144 → length (items_by h (made h) m act) ≤ 262144
items_by_act h (Request caller number command) m follows le = items_step h m caller command (limit_row h caller number command m follows.1) le
items_by_act h (Ingest name come) m follows le = items_effect h name come (effect h name come m) (second_no _ (new_item_denial h (effect h name come m)) follows.1) le
items_by_act h _ m follows le = le

pub items_limited : (h : History) → IsLegal h → item_count h ≤ 262144
items_limited [] legal = omega arith
items_limited (e ∷ h) legal = items_by_act h e.act e.moment legal.2 (items_limited h legal.0)

-- ---- publications

one_more : (h : History) (w : Made) (issue : Option Issue) → length w.pubs < 262144 → length (pubs_of_issue h w issue ++ w.pubs) ≤ 262144
one_more h w issue lt = let both = length-append (pubs_of_issue h w issue) w.pubs in let few = new_pub_issue h w issue in omega (arith, both, few, lt)

pubs_step : (h : History) (m : ℕ) (caller : Bytes) (command : Command) → limit_denial h command ≡ None → length (pubs h) ≤ 262144
    → length (pubs_of_issue h (made h) (issued_by_command (made h) m caller command) ++ pubs h) ≤ 262144
pubs_step h m caller (Flash story targets) e le = one_more h (made h) (issued_by_command (made h) m caller (Flash story targets)) (room thing.Publication (length (pubs h)) (second_no (items_full h) (pubs_full h) e))
pubs_step h m caller (Publish i session schedule embargo targets) e le =
    one_more h (made h) (issued_by_command (made h) m caller (Publish i session schedule embargo targets)) (room thing.Publication (length (pubs h)) e)
pubs_step h m caller (Correct i session story) e le = one_more h (made h) (issued_by_command (made h) m caller (Correct i session story)) (room thing.Publication (length (pubs h)) e)
pubs_step h m caller (Kill i session note) e le = one_more h (made h) (issued_by_command (made h) m caller (Kill i session note)) (room thing.Publication (length (pubs h)) e)
pubs_step h m caller (Recall i session note) e le = one_more h (made h) (issued_by_command (made h) m caller (Recall i session note)) (room thing.Publication (length (pubs h)) e)
pubs_step h m caller _ e le = le

pubs_effect : (h : History) (m : ℕ) (name : Bytes) (come : Incoming) (given : Effect) → new_item_denial h given ≡ None → length (pubs h) ≤ 262144
    → length (pubs_of_issue h (made h) (issued_by_effect (made h) m name come given) ++ pubs h) ≤ 262144
pubs_effect h m name come (NewAt place true) e le =
    one_more h (made h) (issued_by_effect (made h) m name come (NewAt place true)) (room thing.Publication (length (pubs h)) (second_no (items_full h) (pubs_full h) e))
pubs_effect h m name come _ e le = le

pubs_by : (h : History) (act : Act) (m : ℕ) → Follows h act m → length (pubs h) ≤ 262144 → length (pubs_of_issue h (made h) (issued_by h (made h) m act) ++ pubs h) ≤ 262144
pubs_by h (Request caller number command) m follows le = pubs_step h m caller command (limit_row h caller number command m follows.1) le
pubs_by h (Ingest name come) m follows le = pubs_effect h m name come (effect h name come m) (second_no _ (new_item_denial h (effect h name come m)) follows.1) le
pubs_by h _ m follows le = le

pub pubs_limited : (h : History) → IsLegal h → length (pubs h) ≤ 262144
pubs_limited [] legal = omega arith
pubs_limited (e ∷ h) legal = pubs_by h e.act e.moment legal.2 (pubs_limited h legal.0)

-- ---- the numbers of requests

last_by : (h : History) (act : Act) (m : ℕ) (name : Bytes) → Follows h act m → ((caller : Bytes) → last_number h caller ≤ length h)
    → number_of (last_after act name (last h name)) ≤ suc (length h)
last_by h (Request caller number command) m name follows le = by (same caller name)
  where
    by : (b : Bool) → number_of (cond b (Some (record { number = number; command = command })) (last h name)) ≤ suc (length h)
    by true = let before = le caller in omega (arith, follows.0, before)
    by false = let before = le name in omega (arith, before)
last_by h _ m name follows le = let before = le name in omega (arith, before)

pub last_numbers_within : (h : History) (name : Bytes) → IsLegal h → last_number h name ≤ length h
last_numbers_within [] name legal = omega arith
last_numbers_within (e ∷ h) name legal = last_by h e.act e.moment name legal.2 (λ caller. last_numbers_within h caller legal.0)
