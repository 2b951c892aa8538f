-- What each entry changes of the facts, and what it leaves as it was. Nearly all of it holds by computing.
use Rattle.std.proofs.Common.{◌≡◌, ℕ, ◌+◌, max, true, false, ◌&&◌, cond, Option, Some, None, List, [], ◌∷◌, ◌++◌, length, refl, ap, arith}
use Rattle.std.specs.Prelude.{◌≢◌, nat_lt, if◌then◌else◌}
use Rattle.std.specs.Option.{option_map}
use Rattle.news_types.specs.declared.entry.Act.{Act}
use Rattle.news_types.specs.declared.entry.Act.TheVariants.{Advance, Attempt, Receipt, Halt, Ingest, Request}
use Rattle.news_types.specs.declared.command.Command.{Command}
use Rattle.news_types.specs.declared.command.Command.TheVariants.{AddUser, SetUser, AddDesk, AddStage, SetMember, AddCondition, AddFilter, SetFilter, SetBlock, AddProduct, SetProduct, AddSubscriber, SetSubscriber, AddScheme, AddProvider, Create, Flash, Lock, Unlock, BreakLock, Edit, MoveTo, Spike, Unspike, Fetch, Publish, Correct, Kill, Recall, Deschedule}
use Rattle.news_types.specs.declared.words.Kind.TheVariants as kind
use Rattle.news_types.specs.declared.words.State.TheVariants.{Draft}
use Rattle.news_types.specs.declared.words.Action.TheVariants as action
use Rattle.news_types.specs.declared.story.Story.{Story}
use Rattle.news_types.specs.declared.story.Incoming.{Incoming}
use Rattle.news_types.specs.declared.rules.Place.{Place}
use Rattle.news_types.specs.Names.{Bytes, same}
use Rattle.news_types.specs.History.{History, moment, last, last_number, number_of, last_stop, is_stop_command}
use Rattle.news_types.specs.Users.{privileges, privileges_after, users_added, user_count}
use Rattle.news_types.specs.Desks.{is_desk, desk_after, is_stage, is_member, member_after, desks_added, desk_count, stages_added, stage_count}
use Rattle.news_types.specs.Conditions.{condition, condition_after, conditions_added, condition_count}
use Rattle.news_types.specs.Filters.{filters, filters_after}
use Rattle.news_types.specs.Products.{product, product_after, products_added, product_count, subscriber, subscriber_after, subscribers, subscribers_after}
use Rattle.news_types.specs.Routing.{scheme, scheme_after, schemes_added, scheme_count, provider, provider_after, providers_added, provider_count}
use Rattle.news_types.specs.States.{moved}
use Rattle.news_types.specs.Due.{standing_first, withdrawn, taken_back}
use Rattle.news_types.specs.Items.{Item, Effect, New, NewAt, Replaces, Cancels, changed, changed_by, at_moment, fresh, made_by, named_item, item_after, items_by_command, items_by_effect, new_item, routed_item, replaced_by}
use Rattle.news_types.specs.Publications.{Issue, made, first_issue, later_issue, release_at, issued_by_command, issued_by_effect, pub_of, pubs_of_issue, kept_by_command, item, item_count, pubs, standing, effect}
use Rattle.news_types.specs.Feeds.{feed, feed_of, waiting, waiting_of}
use Rattle.news_types.specs.Delivery.{acked, tries, tries_after_command, tried}
use Rattle.news_types.specs.Outcome.{entry_of, last_reply, reply_to}
use Rattle.news_types.proofs.Firsts.{numbered_hit, numbered_miss, numbered_new, numbered_old}

-- ---- the tables of users, desks, conditions, filters, products, subscribers, schemes and providers

-- every such fact is the same
pub record SameTables (g h : History) : Type 0 where
  pub users : (name : Bytes) → privileges g name ≡ privileges h name
  pub user_number : user_count g ≡ user_count h
  pub desks : (name : Bytes) → is_desk g name ≡ is_desk h name
  pub desk_number : desk_count g ≡ desk_count h
  pub stages : (desk stage : Bytes) → is_stage g desk stage ≡ is_stage h desk stage
  pub stage_number : (desk : Bytes) → stage_count g desk ≡ stage_count h desk
  pub members : (desk user : Bytes) → is_member g desk user ≡ is_member h desk user
  pub conditions : (name : Bytes) → condition g name ≡ condition h name
  pub condition_number : condition_count g ≡ condition_count h
  pub filter_list : filters g ≡ filters h
  pub products : (name : Bytes) → product g name ≡ product h name
  pub product_number : product_count g ≡ product_count h
  pub subscribed : (name : Bytes) → subscriber g name ≡ subscriber h name
  pub subscriber_list : subscribers g ≡ subscribers h
  pub schemes : (name : Bytes) → scheme g name ≡ scheme h name
  pub scheme_number : scheme_count g ≡ scheme_count h
  pub providers : (name : Bytes) → provider g name ≡ provider h name
  pub provider_number : provider_count g ≡ provider_count h

abbrev pub IsNoRequest : Act → Type 0
IsNoRequest (Request caller number command) = ⊥
IsNoRequest _ = Unit {0}

-- no table is changed but by a request
pub other_tables : (h : History) (m : ℕ) (act : Act) → IsNoRequest act → SameTables (entry_of m act ∷ h) h
other_tables h m (Request caller number command) other = absurd other
other_tables h m _ other = record {
  users = λ name. refl;
  user_number = refl;
  desks = λ name. refl;
  desk_number = refl;
  stages = λ desk stage. refl;
  stage_number = λ desk. refl;
  members = λ desk user. refl;
  conditions = λ name. refl;
  condition_number = refl;
  filter_list = refl;
  products = λ name. refl;
  product_number = refl;
  subscribed = λ name. refl;
  subscriber_list = refl;
  schemes = λ name. refl;
  scheme_number = refl;
  providers = λ name. refl;
  provider_number = refl;
}

-- a count to which nothing is added
none_more : (n : ℕ) → n + 0 ≡ n
none_more n = omega arith

-- a command that changes no table: one of an item, a resume or a stop
abbrev pub IsOfNoTable : Command → Type 0
IsOfNoTable (AddUser user given) = ⊥
IsOfNoTable (SetUser user given) = ⊥
IsOfNoTable (AddDesk desk) = ⊥
IsOfNoTable (AddStage desk stage) = ⊥
IsOfNoTable (SetMember desk user member) = ⊥
IsOfNoTable (AddCondition name field op values) = ⊥
IsOfNoTable (AddFilter filter statements) = ⊥
IsOfNoTable (SetFilter filter statements) = ⊥
IsOfNoTable (SetBlock filter on) = ⊥
IsOfNoTable (AddProduct name how filter) = ⊥
IsOfNoTable (SetProduct name how filter) = ⊥
IsOfNoTable (AddSubscriber name format products lag) = ⊥
IsOfNoTable (SetSubscriber name active products off lag) = ⊥
IsOfNoTable (AddScheme name rules) = ⊥
IsOfNoTable (AddProvider name given) = ⊥
IsOfNoTable _ = Unit {0}

-- a command that changes no item and publishes nothing
abbrev pub IsOfNoItem : Command → Type 0
IsOfNoItem (Create desk story) = ⊥
IsOfNoItem (Flash story targets) = ⊥
IsOfNoItem (Lock i session) = ⊥
IsOfNoItem (Unlock i session) = ⊥
IsOfNoItem (BreakLock i) = ⊥
IsOfNoItem (Edit i session story) = ⊥
IsOfNoItem (MoveTo i desk stage) = ⊥
IsOfNoItem (Spike i) = ⊥
IsOfNoItem (Unspike i desk) = ⊥
IsOfNoItem (Fetch i desk) = ⊥
IsOfNoItem (Publish i session schedule embargo targets) = ⊥
IsOfNoItem (Correct i session story) = ⊥
IsOfNoItem (Kill i session note) = ⊥
IsOfNoItem (Recall i session note) = ⊥
IsOfNoItem (Deschedule i) = ⊥
IsOfNoItem _ = Unit {0}

-- a command that publishes and withdraws nothing
abbrev pub IsSilent : Command → Type 0
IsSilent (Flash story targets) = ⊥
IsSilent (Publish i session schedule embargo targets) = ⊥
IsSilent (Correct i session story) = ⊥
IsSilent (Kill i session note) = ⊥
IsSilent (Recall i session note) = ⊥
IsSilent (Deschedule i) = ⊥
IsSilent _ = Unit {0}

-- ---- a request

module _ (h : History) (m number : ℕ) (caller : Bytes) where
  -- the list behind the request
  abbrev pub requested : Command → History
  requested command = entry_of m (Request caller number command) ∷ h

  pub requested_moment : (command : Command) → moment (requested command) ≡ m
  requested_moment command = refl

  pub requested_length : (command : Command) → length (requested command) ≡ length h + 1
  requested_length command = omega arith

  pub requested_last : (command : Command) (name : Bytes) → last (requested command) name ≡ (if same caller name then Some (record { number = number; command = command }) else last h name)
  requested_last command name = refl

  pub requested_number : (command : Command) (name : Bytes) → last_number (requested command) name ≡ (if same caller name then number else last_number h name)
  requested_number command name = elim (same caller name) as (λ b. number_of (cond b (Some (record { number = number; command = command })) (last h name)) ≡ cond b number (number_of (last h name))) [ true ↦ refl | false ↦ refl ]

  pub requested_reply : (command : Command) (name : Bytes)
      → last_reply (requested command) name ≡ (if same caller name then reply_to h m (Request caller number command) else last_reply h name)
  requested_reply command name = refl

  pub requested_stop : (command : Command) → last_stop (requested command) ≡ (if is_stop_command command then length h + 1 else last_stop h)
  requested_stop command = refl

  -- the tables
  pub requested_user : (command : Command) (name : Bytes) → privileges (requested command) name ≡ privileges_after name command (privileges h name)
  requested_user command name = refl

  pub requested_users : (command : Command) → user_count (requested command) ≡ user_count h + users_added command
  requested_users command = refl

  pub requested_desk : (command : Command) (name : Bytes) → is_desk (requested command) name ≡ desk_after name command (is_desk h name)
  requested_desk command name = refl

  pub requested_desks : (command : Command) → desk_count (requested command) ≡ desk_count h + desks_added command
  requested_desks command = refl

  pub requested_stages : (command : Command) (desk : Bytes) → stage_count (requested command) desk ≡ stage_count h desk + stages_added desk command
  requested_stages command desk = refl

  pub requested_member : (command : Command) (desk user : Bytes) → is_member (requested command) desk user ≡ member_after desk user command (is_member h desk user)
  requested_member command desk user = refl

  pub requested_condition : (command : Command) (name : Bytes) → condition (requested command) name ≡ condition_after name command (condition h name)
  requested_condition command name = refl

  pub requested_conditions : (command : Command) → condition_count (requested command) ≡ condition_count h + conditions_added command
  requested_conditions command = refl

  pub requested_filters : (command : Command) → filters (requested command) ≡ filters_after command (filters h)
  requested_filters command = refl

  pub requested_product : (command : Command) (name : Bytes) → product (requested command) name ≡ product_after name command (product h name)
  requested_product command name = refl

  pub requested_products : (command : Command) → product_count (requested command) ≡ product_count h + products_added command
  requested_products command = refl

  pub requested_subscriber : (command : Command) (name : Bytes) → subscriber (requested command) name ≡ subscriber_after name command (subscriber h name)
  requested_subscriber command name = refl

  pub requested_subscribers : (command : Command) → subscribers (requested command) ≡ subscribers_after command (subscribers h)
  requested_subscribers command = refl

  pub requested_scheme : (command : Command) (name : Bytes) → scheme (requested command) name ≡ scheme_after name command (scheme h name)
  requested_scheme command name = refl

  pub requested_schemes : (command : Command) → scheme_count (requested command) ≡ scheme_count h + schemes_added command
  requested_schemes command = refl

  pub requested_provider : (command : Command) (name : Bytes) → provider (requested command) name ≡ provider_after name command (provider h name)
  requested_provider command name = refl

  pub requested_providers : (command : Command) → provider_count (requested command) ≡ provider_count h + providers_added command
  requested_providers command = refl

  -- a command of an item, a resume or a stop leaves every table
  pub item_tables : (command : Command) → IsOfNoTable command → SameTables (requested command) h
  item_tables (AddUser user given) of = absurd of
  item_tables (SetUser user given) of = absurd of
  item_tables (AddDesk desk) of = absurd of
  item_tables (AddStage desk stage) of = absurd of
  item_tables (SetMember desk user member) of = absurd of
  item_tables (AddCondition name field op values) of = absurd of
  item_tables (AddFilter filter statements) of = absurd of
  item_tables (SetFilter filter statements) of = absurd of
  item_tables (SetBlock filter on) of = absurd of
  item_tables (AddProduct name how filter) of = absurd of
  item_tables (SetProduct name how filter) of = absurd of
  item_tables (AddSubscriber name format products lag) of = absurd of
  item_tables (SetSubscriber name active products off lag) of = absurd of
  item_tables (AddScheme name rules) of = absurd of
  item_tables (AddProvider name given) of = absurd of
  item_tables _ of = record {
    users = λ name. refl;
    user_number = none_more _;
    desks = λ name. refl;
    desk_number = none_more _;
    stages = λ desk stage. refl;
    stage_number = λ desk. none_more _;
    members = λ desk user. refl;
    conditions = λ name. refl;
    condition_number = none_more _;
    filter_list = refl;
    products = λ name. refl;
    product_number = none_more _;
    subscribed = λ name. refl;
    subscriber_list = refl;
    schemes = λ name. refl;
    scheme_number = none_more _;
    providers = λ name. refl;
    provider_number = none_more _;
  }

  -- items and publications
  pub requested_items : (command : Command) → (made (requested command)).items ≡ items_by_command (made h) m caller command
  requested_items command = refl

  pub requested_pubs : (command : Command) → pubs (requested command) ≡ pubs_of_issue h (made h) (issued_by_command (made h) m caller command) ++ pubs h
  requested_pubs command = refl

  pub requested_standing : (command : Command)
      → standing (requested command) ≡ pubs_of_issue h (made h) (issued_by_command (made h) m caller command) ++ kept_by_command m command (standing h)
  requested_standing command = refl

  -- a command of a table, a resume or a stop leaves every item and publication
  pub table_made : (command : Command) → IsOfNoItem command → made (requested command) ≡ made h
  table_made (Create desk story) of = absurd of
  table_made (Flash story targets) of = absurd of
  table_made (Lock i session) of = absurd of
  table_made (Unlock i session) of = absurd of
  table_made (BreakLock i) of = absurd of
  table_made (Edit i session story) of = absurd of
  table_made (MoveTo i desk stage) of = absurd of
  table_made (Spike i) of = absurd of
  table_made (Unspike i desk) of = absurd of
  table_made (Fetch i desk) of = absurd of
  table_made (Publish i session schedule embargo targets) of = absurd of
  table_made (Correct i session story) of = absurd of
  table_made (Kill i session note) of = absurd of
  table_made (Recall i session note) of = absurd of
  table_made (Deschedule i) of = absurd of
  table_made _ of = refl

  -- the publications stay where nothing is published or withdrawn
  pub silent_pubs : (command : Command) → IsSilent command → (pubs (requested command) ≡ pubs h) × (standing (requested command) ≡ standing h)
  silent_pubs (Flash story targets) silent = absurd silent
  silent_pubs (Publish i session schedule embargo targets) silent = absurd silent
  silent_pubs (Correct i session story) silent = absurd silent
  silent_pubs (Kill i session note) silent = absurd silent
  silent_pubs (Recall i session note) silent = absurd silent
  silent_pubs (Deschedule i) silent = absurd silent
  silent_pubs _ silent = (refl, refl)

  pub descheduled_pubs : (i : ℕ) → (pubs (requested (Deschedule i)) ≡ pubs h) × (standing (requested (Deschedule i)) ≡ withdrawn i (standing h))
  descheduled_pubs i = (refl, refl)

  -- the item that a command names, as it is at the moment and behind the command
  abbrev pub after : Command → Item → Item
  after command it = changed_by caller command (at_moment m (standing_first (named_item command) (standing h)) it)

  pub behind_there : (command : Command) (it : Item) → item h (named_item command) ≡ Some it → item_after (made h) m caller command ≡ Some (after command it)
  behind_there command it there = ap (option_map (after command)) there

  -- an item that a command names is changed, and no other
  pub item_named : (command : Command) → made_by command ≡ None → item (requested command) (named_item command) ≡ option_map (after command) (item h (named_item command))
  item_named command old = rw old (numbered_hit (named_item command) (after command) ((made h).items))

  pub item_other : (command : Command) (j : ℕ) → made_by command ≡ None → (named_item command ≢ j) → item (requested command) j ≡ item h j
  item_other command j old other = rw old (numbered_miss (named_item command) j (after command) ((made h).items) other)

  pub count_named : (command : Command) → made_by command ≡ None → (made (requested command)).items ≡ changed (named_item command) (after command) ((made h).items)
  count_named command old = rw old refl

  -- a new item stands behind all others
  pub items_created : (command : Command) (it : Item) → made_by command ≡ Some it → (made (requested command)).items ≡ (made h).items ++ it ∷ []
  items_created command it new = rw new refl

  pub item_created : (command : Command) (it : Item) → made_by command ≡ Some it → item (requested command) (item_count h + 1) ≡ Some it
  item_created command it new = rw new (numbered_new it ((made h).items))

  pub item_before : (command : Command) (it : Item) (j : ℕ) → made_by command ≡ Some it → (item_count h + 1 ≢ j) → item (requested command) j ≡ item h j
  item_before command it j new other = rw new (numbered_old j it ((made h).items) other)

  -- what is published of an item that is there
  pub published_pubs : (command : Command) (issue : Issue) (it : Item) → issued_by_command (made h) m caller command ≡ Some issue → issue.after ≡ Some it
      → (pubs (requested command) ≡ pub_of h (made h) issue it ∷ pubs h) × (standing (requested command) ≡ pub_of h (made h) issue it ∷ kept_by_command m command (standing h))
  published_pubs command issue it issued there = rw issued (rw there (refl, refl))

  pub flash_pubs : (story : Story) (targets : List Bytes) → let it : Item = fresh (moved action.Publish Draft) story None None in
      let issue : Issue = first_issue (item_count h + 1) (Some it) m targets in
      (pubs (requested (Flash story targets)) ≡ pub_of h (made h) issue it ∷ pubs h) × (standing (requested (Flash story targets)) ≡ pub_of h (made h) issue it ∷ standing h)
  flash_pubs story targets = (refl, refl)

  module _ (i : ℕ) (session : Bytes) (it : Item) (there : item h i ≡ Some it) where
    pub publish_pubs : (schedule embargo : Option ℕ) (targets : List Bytes) → let command : Command = Publish i session schedule embargo targets in
        let issue : Issue = first_issue i (Some (after command it)) (release_at m schedule embargo) targets in
        (pubs (requested command) ≡ pub_of h (made h) issue (after command it) ∷ pubs h) × (standing (requested command) ≡ pub_of h (made h) issue (after command it) ∷ standing h)
    publish_pubs schedule embargo targets = rw there (refl, refl)

    pub correct_pubs : (story : Story) → let command : Command = Correct i session story in let issue : Issue = later_issue kind.Correct (made h) i (Some (after command it)) m None in
        (pubs (requested command) ≡ pub_of h (made h) issue (after command it) ∷ pubs h) × (standing (requested command) ≡ pub_of h (made h) issue (after command it) ∷ standing h)
    correct_pubs story = rw there (refl, refl)

    pub kill_pubs : (note : Bytes) → let command : Command = Kill i session note in let issue : Issue = later_issue kind.Kill (made h) i (Some (after command it)) m (Some note) in
        (pubs (requested command) ≡ pub_of h (made h) issue (after command it) ∷ pubs h) × (standing (requested command) ≡ pub_of h (made h) issue (after command it) ∷ taken_back m i (standing h))
    kill_pubs note = rw there (refl, refl)

    pub recall_pubs : (note : Bytes) → let command : Command = Recall i session note in let issue : Issue = later_issue kind.Recall (made h) i (Some (after command it)) m (Some note) in
        (pubs (requested command) ≡ pub_of h (made h) issue (after command it) ∷ pubs h) × (standing (requested command) ≡ pub_of h (made h) issue (after command it) ∷ taken_back m i (standing h))
    recall_pubs note = rw there (refl, refl)

  -- attempts and receipts
  pub requested_acked : (command : Command) (s : Bytes) → acked (requested command) s ≡ acked h s
  requested_acked command s = refl

  pub requested_tries : (command : Command) (s : Bytes) → tries (requested command) s ≡ tries_after_command s command (tries h s)
  requested_tries command s = refl

  pub requested_tried : (command : Command) (s : Bytes) → tried (requested command) s ≡ tried h s
  requested_tried command s = refl

-- ---- an ingest, by its effect

module _ (h : History) (m : ℕ) (name : Bytes) (come : Incoming) where
  abbrev pub ingested : History
  ingested = entry_of m (Ingest name come) ∷ h

  pub ingested_tables : SameTables ingested h
  ingested_tables = other_tables h m (Ingest name come) tt

  pub ingested_last : (user : Bytes) → (last ingested user ≡ last h user) × (last_reply ingested user ≡ last_reply h user)
  ingested_last user = (refl, refl)

  pub ingested_delivery : (s : Bytes) → (acked ingested s ≡ acked h s) × (tries ingested s ≡ tries h s) × (tried ingested s ≡ tried h s)
  ingested_delivery s = (refl, refl, refl)

  pub ingested_items : (given : Effect) → effect h name come m ≡ given → (made ingested).items ≡ items_by_effect (made h) name come given
  ingested_items given is = ap (items_by_effect (made h) name come) is

  pub ingested_pubs : (given : Effect) → effect h name come m ≡ given
      → (pubs ingested ≡ pubs_of_issue h (made h) (issued_by_effect (made h) m name come given) ++ pubs h)
      × (standing ingested ≡ pubs_of_issue h (made h) (issued_by_effect (made h) m name come given) ++ standing h)
  ingested_pubs given is = rw is (refl, refl)

  -- an item without a place
  pub ingested_new : effect h name come m ≡ New → ((made ingested).items ≡ (made h).items ++ new_item name come ∷ []) × (pubs ingested ≡ pubs h) × (standing ingested ≡ standing h)
  ingested_new is = rw is (refl, refl, refl)

  -- an item at a place
  pub ingested_at : (place : Place) → effect h name come m ≡ NewAt place false
      → ((made ingested).items ≡ (made h).items ++ routed_item name come place false ∷ []) × (pubs ingested ≡ pubs h) × (standing ingested ≡ standing h)
  ingested_at place is = rw is (refl, refl, refl)

  -- one that is published at once
  pub ingested_out : (place : Place) → effect h name come m ≡ NewAt place true → let it : Item = routed_item name come place true in
      let issue : Issue = first_issue (item_count h + 1) (Some it) (max m come.embargo) [] in
      ((made ingested).items ≡ (made h).items ++ it ∷ []) × (pubs ingested ≡ pub_of h (made h) issue it ∷ pubs h) × (standing ingested ≡ pub_of h (made h) issue it ∷ standing h)
  ingested_out place is = rw is (refl, refl, refl)

  -- a known item whose story is replaced, or that is cancelled
  pub ingested_replaces : (i : ℕ) → effect h name come m ≡ Replaces i
      → ((made ingested).items ≡ changed i (replaced_by name come) ((made h).items)) × (pubs ingested ≡ pubs h) × (standing ingested ≡ standing h)
  ingested_replaces i is = rw is (refl, refl, refl)

  pub ingested_cancels : (i : ℕ) → effect h name come m ≡ Cancels i
      → ((made ingested).items ≡ changed i (λ (it : Item). record it { state = moved action.Cancel it.state }) ((made h).items)) × (pubs ingested ≡ pubs h) × (standing ingested ≡ standing h)
  ingested_cancels i is = rw is (refl, refl, refl)

-- ---- the acts of the server itself

-- neither a request nor an ingest
abbrev pub IsOwn : Act → Type 0
IsOwn (Request caller number command) = ⊥
IsOwn (Ingest name come) = ⊥
IsOwn _ = Unit {0}

module _ (h : History) (m : ℕ) where
  pub own_made : (act : Act) → IsOwn act → made (entry_of m act ∷ h) ≡ made h
  own_made (Request caller number command) own = absurd own
  own_made (Ingest name come) own = absurd own
  own_made _ own = refl

  pub own_tables : (act : Act) → IsOwn act → SameTables (entry_of m act ∷ h) h
  own_tables (Request caller number command) own = absurd own
  own_tables (Ingest name come) own = absurd own
  own_tables act own = other_tables h m act tt

  pub own_last : (act : Act) (user : Bytes) → IsOwn act → (last (entry_of m act ∷ h) user ≡ last h user) × (last_reply (entry_of m act ∷ h) user ≡ last_reply h user)
  own_last (Request caller number command) user own = absurd own
  own_last (Ingest name come) user own = absurd own
  own_last _ user own = (refl, refl)

  pub own_feed : (act : Act) (s : Bytes) → IsOwn act → (feed (entry_of m act ∷ h) s ≡ feed_of (standing h) m s) × (waiting (entry_of m act ∷ h) s ≡ waiting_of (standing h) m s)
  own_feed (Request caller number command) s own = absurd own
  own_feed (Ingest name come) s own = absurd own
  own_feed _ s own = (refl, refl)

  pub advanced_delivery : (s : Bytes) → let g : History = entry_of m Advance ∷ h in (acked g s ≡ acked h s) × (tries g s ≡ tries h s) × (tried g s ≡ tried h s)
  advanced_delivery s = (refl, refl, refl)

  pub halted_delivery : (s : Bytes) → let g : History = entry_of m Halt ∷ h in (acked g s ≡ acked h s) × (tries g s ≡ tries h s) × (tried g s ≡ tried h s)
  halted_delivery s = (refl, refl, refl)

  pub attempted_delivery : (t : Bytes) (k : ℕ) (s : Bytes) → let g : History = entry_of m (Attempt t k) ∷ h in
      (acked g s ≡ acked h s) × (tries g s ≡ (if same t s then tries h s + 1 else tries h s)) × (tried g s ≡ (if same t s then m else tried h s))
  attempted_delivery t k s = (refl, refl, refl)

  pub received_delivery : (t : Bytes) (n : ℕ) (s : Bytes) → let g : History = entry_of m (Receipt t n) ∷ h in
      (acked g s ≡ (if same t s then max n (acked h s) else acked h s)) × (tries g s ≡ (if same t s && nat_lt (acked h s) n then 0 else tries h s)) × (tried g s ≡ tried h s)
  received_delivery t n s = (refl, refl, refl)

  pub own_stop : (last_stop (entry_of m Halt ∷ h) ≡ length h + 1) × (last_stop (entry_of m Advance ∷ h) ≡ last_stop h)
  own_stop = (refl, refl)
