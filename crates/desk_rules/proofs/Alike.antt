-- What a request or an ingest makes of the facts of a list.
use Rattle.std.proofs.Common.{◌≡◌, ℕ, ◌-◌, zero, suc, ◌==◌, Bool, true, false, ◌&&◌, ◌||◌, cond, List, [], ◌∷◌, ◌++◌, map, Option, Some, None, refl, sym, ap, subst, ◌∙◌, add-zero}
use Rattle.std.proofs.lemmas.List.{map-append}
use Rattle.news_types.specs.declared.entry.Entry.{Entry}
use Rattle.news_types.specs.declared.entry.Act.{Act}
use Rattle.news_types.specs.declared.entry.Act.TheVariants.{Advance, Attempt, Receipt, Halt, Ingest, Request}
use Rattle.news_types.specs.declared.command.Command.{Command}
use Rattle.news_types.specs.declared.command.Command.TheVariants.{AddUser, SetUser, AddDesk, AddStage, SetMember, Create, Flash, Lock, Unlock, BreakLock, Edit, MoveTo, Spike, Unspike, Fetch, Publish, Correct, Kill, Recall, Deschedule}
use Rattle.news_types.specs.declared.rules.Place.{Place}
use Rattle.news_types.specs.declared.story.Incoming.{Incoming}
use Rattle.news_types.specs.Names.{Bytes, same}
use Rattle.news_types.specs.History.{History}
use Rattle.news_types.specs.Desks.{incoming, working}
use Rattle.news_types.specs.Due.{standing_first}
use Rattle.news_types.specs.Items.{Item, Effect, New, NewAt, Replaces, Cancels, Settled, changed_by, at_moment, named_item, placed}
use Rattle.news_types.specs.Publications.{made, effect}
use Rattle.news_types.specs.Items as items
use Rattle.news_types.proofs.Changes.{requested, IsOwn, IsNoRequest}
use Rattle.desk_rules.specs.declared.table.Desks.{Desks}
use Rattle.desk_rules.specs.Spots.{Spot, changed_at, changed}
use Rattle.desk_rules.specs.Facts.{Facts, spot_of, facts}
use Rattle.desk_rules.specs.Keeps.{Keeps}
use Rattle.desk_rules.specs.Steps.{step_of, leads, make_at, new_spot}

-- ---- facts that are alike

pub record AreAlike (f g : Facts) : Type 0 where
  pub privileges : (name : Bytes) → f.privileges name ≡ g.privileges name
  pub users : f.users ≡ g.users
  pub is_desk : (name : Bytes) → f.is_desk name ≡ g.is_desk name
  pub desks : f.desks ≡ g.desks
  pub is_added : (desk stage : Bytes) → f.is_added desk stage ≡ g.is_added desk stage
  pub stages : (desk : Bytes) → f.stages desk ≡ g.stages desk
  pub is_member : (desk user : Bytes) → f.is_member desk user ≡ g.is_member desk user
  pub spots : f.spots ≡ g.spots

pub kept_alike : (t : Desks) (f g : Facts) → AreAlike f g → Keeps t f → Keeps t g
kept_alike t f g alike keeps = record {
  users = λ name. keeps.users name ∙ alike.privileges name;
  user_count = keeps.user_count ∙ alike.users;
  desks = λ name. keeps.desks name ∙ ap (λ b. cond b (Some (f.stages name)) None) (alike.is_desk name) ∙ ap (λ n. cond (g.is_desk name) (Some n) None) (alike.stages name);
  desk_count = keeps.desk_count ∙ alike.desks;
  stages = λ desk stage.
      keeps.stages desk stage
      ∙ ap (λ b. b && (same stage incoming || same stage working || f.is_added desk stage)) (alike.is_desk desk)
      ∙ ap (λ b. g.is_desk desk && (same stage incoming || same stage working || b)) (alike.is_added desk stage);
  placed = keeps.placed;
  members = λ desk user. keeps.members desk user ∙ alike.is_member desk user;
  seats = rw (← alike.spots) keeps.seats;
  others = λ desk none.
      let rest = keeps.others desk (alike.is_desk desk ∙ none) in
      record { none_added = λ stage. sym (alike.is_added desk stage) ∙ rest.none_added stage; two = sym (alike.stages desk) ∙ rest.two };
}

-- ---- items

spots_at : (k : ℕ) (f : Item → Item) (g : Spot → Spot) (xs : List Item) → ((it : Item) → spot_of (f it) ≡ g (spot_of it)) → map spot_of (items.changed_at k f xs) ≡ changed_at k g (map spot_of xs)
spots_at k f g [] alike = refl
spots_at zero f g (it ∷ xs) alike = rw (alike it) refl
spots_at (suc k) f g (it ∷ xs) alike = ap (λ spots. spot_of it ∷ spots) (spots_at k f g xs alike)

pub spots_changed : (i : ℕ) (f : Item → Item) (g : Spot → Spot) (xs : List Item) → ((it : Item) → spot_of (f it) ≡ g (spot_of it)) → map spot_of (items.changed i f xs) ≡ changed i g (map spot_of xs)
spots_changed i f g xs alike =
    elim (i == 0) as (λ b. map spot_of (cond b xs (items.changed_at (i - 1) f xs)) ≡ cond b (map spot_of xs) (changed_at (i - 1) g (map spot_of xs))) [
      | true ↦ refl
      | false ↦ spots_at (i - 1) f g xs alike
    ]

kept_at : (k : ℕ) (f : Item → Item) (xs : List Item) → ((it : Item) → spot_of (f it) ≡ spot_of it) → map spot_of (items.changed_at k f xs) ≡ map spot_of xs
kept_at k f [] alike = refl
kept_at zero f (it ∷ xs) alike = rw (alike it) refl
kept_at (suc k) f (it ∷ xs) alike = ap (λ spots. spot_of it ∷ spots) (kept_at k f xs alike)

pub spots_kept : (i : ℕ) (f : Item → Item) (xs : List Item) → ((it : Item) → spot_of (f it) ≡ spot_of it) → map spot_of (items.changed i f xs) ≡ map spot_of xs
spots_kept i f xs alike =
    elim (i == 0) as (λ b. map spot_of (cond b xs (items.changed_at (i - 1) f xs)) ≡ map spot_of xs) [
      | true ↦ refl
      | false ↦ kept_at (i - 1) f xs alike
    ]

-- ---- a request

-- the command changes no user, no desk, no stage and no member
abbrev pub IsOfItems : Command → Type 0
IsOfItems (AddUser user privileges) = ⊥
IsOfItems (SetUser user privileges) = ⊥
IsOfItems (AddDesk desk) = ⊥
IsOfItems (AddStage desk stage) = ⊥
IsOfItems (SetMember desk user member) = ⊥
IsOfItems _ = Unit {0}

module _ (h : History) (m number : ℕ) (caller : Bytes) where
  abbrev after : Command → History
  after command = requested h m number caller command

  -- only the items may be others
  items_alone : (command : Command) (spots : List Spot) → IsOfItems command → spots ≡ map spot_of ((made (after command)).items) → AreAlike (record (facts h) { spots = spots }) (facts (after command))
  items_alone (AddUser user privileges) spots of is = absurd of
  items_alone (SetUser user privileges) spots of is = absurd of
  items_alone (AddDesk desk) spots of is = absurd of
  items_alone (AddStage desk stage) spots of is = absurd of
  items_alone (SetMember desk user member) spots of is = absurd of
  items_alone _ spots of is = record {
    privileges = λ name. refl;
    users = sym (add-zero _);
    is_desk = λ name. refl;
    desks = sym (add-zero _);
    is_added = λ desk stage. refl;
    stages = λ desk. sym (add-zero _);
    is_member = λ desk user. refl;
    spots = is;
  }

  -- the named item is changed
  changing : (command : Command) (g : Spot → Spot) → IsOfItems command → (made (after command)).items ≡ items.changed (named_item command) (λ it. changed_by caller command (at_moment m (standing_first (named_item command) ((made h).standing)) it)) ((made h).items)
      → ((it : Item) → spot_of (changed_by caller command it) ≡ g (spot_of it))
      → AreAlike (record (facts h) { spots = changed (named_item command) g (map spot_of ((made h).items)) }) (facts (after command))
  changing command g of is alike =
      let i : ℕ = named_item command in
      let f : Item → Item = λ it. changed_by caller command (at_moment m (standing_first i ((made h).standing)) it) in
      items_alone command (changed i g (map spot_of ((made h).items))) of
      (sym (ap (map spot_of) is ∙ spots_changed i f g ((made h).items) (λ it. alike (at_moment m (standing_first i ((made h).standing)) it))))

  keeping : (command : Command) → IsOfItems command → (made (after command)).items ≡ items.changed (named_item command) (λ it. changed_by caller command (at_moment m (standing_first (named_item command) ((made h).standing)) it)) ((made h).items)
      → ((it : Item) → spot_of (changed_by caller command it) ≡ spot_of it)
      → AreAlike (facts h) (facts (after command))
  keeping command of is alike =
      let i : ℕ = named_item command in
      let f : Item → Item = λ it. changed_by caller command (at_moment m (standing_first i ((made h).standing)) it) in
      items_alone command (map spot_of ((made h).items)) of
      (sym (ap (map spot_of) is ∙ spots_kept i f ((made h).items) (λ it. alike (at_moment m (standing_first i ((made h).standing)) it))))

  making : (command : Command) (it : Item) → IsOfItems command → (made (after command)).items ≡ (made h).items ++ it ∷ []
      → AreAlike (record (facts h) { spots = map spot_of ((made h).items) ++ spot_of it ∷ [] }) (facts (after command))
  making command it of is =
      items_alone command (map spot_of ((made h).items) ++ spot_of it ∷ []) of (sym (ap (map spot_of) is ∙ map-append spot_of ((made h).items) (it ∷ [])))

  requested_alike : (command : Command) → AreAlike (leads (step_of caller command) (facts h)) (facts (after command))
  requested_alike (AddUser user given) = record {
    privileges = λ name. refl;
    users = refl;
    is_desk = λ name. refl;
    desks = sym (add-zero _);
    is_added = λ desk stage. refl;
    stages = λ desk. sym (add-zero _);
    is_member = λ desk user. refl;
    spots = refl;
  }
  requested_alike (SetUser user given) = record {
    privileges = λ name. refl;
    users = sym (add-zero _);
    is_desk = λ name. refl;
    desks = sym (add-zero _);
    is_added = λ desk stage. refl;
    stages = λ desk. sym (add-zero _);
    is_member = λ desk user. refl;
    spots = refl;
  }
  requested_alike (AddDesk desk) = record {
    privileges = λ name. refl;
    users = sym (add-zero _);
    is_desk = λ name. refl;
    desks = refl;
    is_added = λ desk stage. refl;
    stages = λ desk. sym (add-zero _);
    is_member = λ desk user. refl;
    spots = refl;
  }
  requested_alike (AddStage desk stage) = record {
    privileges = λ name. refl;
    users = sym (add-zero _);
    is_desk = λ name. refl;
    desks = sym (add-zero _);
    is_added = λ desk stage. refl;
    stages = λ desk. refl;
    is_member = λ desk user. refl;
    spots = refl;
  }
  requested_alike (SetMember desk user member) = record {
    privileges = λ name. refl;
    users = sym (add-zero _);
    is_desk = λ name. refl;
    desks = sym (add-zero _);
    is_added = λ desk stage. refl;
    stages = λ desk. sym (add-zero _);
    is_member = λ desk user. refl;
    spots = refl;
  }
  requested_alike (Create desk story) = making (Create desk story) _ tt refl
  requested_alike (Flash story targets) = making (Flash story targets) _ tt refl
  requested_alike (MoveTo i desk stage) = changing (MoveTo i desk stage) _ tt refl (λ it. refl)
  requested_alike (Unspike i desk) = changing (Unspike i desk) _ tt refl (λ it. refl)
  requested_alike (Fetch i desk) = changing (Fetch i desk) _ tt refl (λ it. refl)
  requested_alike (Lock i session) = changing (Lock i session) _ tt refl (λ it. refl)
  requested_alike (Unlock i session) = changing (Unlock i session) _ tt refl (λ it. refl)
  requested_alike (BreakLock i) = changing (BreakLock i) _ tt refl (λ it. refl)
  requested_alike (Publish i session schedule embargo targets) = changing (Publish i session schedule embargo targets) _ tt refl (λ it. refl)
  requested_alike (Correct i session story) = changing (Correct i session story) _ tt refl (λ it. refl)
  requested_alike (Kill i session note) = changing (Kill i session note) _ tt refl (λ it. refl)
  requested_alike (Recall i session note) = changing (Recall i session note) _ tt refl (λ it. refl)
  requested_alike (Edit i session story) = keeping (Edit i session story) tt refl (λ it. refl)
  requested_alike (Spike i) = keeping (Spike i) tt refl (λ it. refl)
  requested_alike (Deschedule i) = keeping (Deschedule i) tt refl (λ it. refl)
  requested_alike other = items_alone other (map spot_of ((made h).items)) tt refl

pub request_alike : (h : History) (e : Entry) (caller : Bytes) (number : ℕ) (command : Command) → e.act ≡ Request caller number command → AreAlike (leads (step_of caller command) (facts h)) (facts (e ∷ h))
request_alike h e caller number command is =
    subst (λ (act : Act). AreAlike (leads (step_of caller command) (facts h)) (facts (record { moment = e.moment; act = act } ∷ h))) (sym is) (requested_alike h e.moment number caller command)

-- ---- the other acts

module _ (h : History) (e : Entry) where
  -- an act changes no user, no desk, no stage and no member, where it is no request
  others_alone : (act : Act) (spots : List Spot) → IsNoRequest act → spots ≡ map spot_of ((made (record { moment = e.moment; act = act } ∷ h)).items)
      → AreAlike (record (facts h) { spots = spots }) (facts (record { moment = e.moment; act = act } ∷ h))
  others_alone (Request caller number command) spots other is = absurd other
  others_alone _ spots other is = record {
    privileges = λ name. refl;
    users = refl;
    is_desk = λ name. refl;
    desks = refl;
    is_added = λ desk stage. refl;
    stages = λ desk. refl;
    is_member = λ desk user. refl;
    spots = is;
  }

  abbrev here : Act → History
  here act = record { moment = e.moment; act = act } ∷ h

  spots_behind : (name : Bytes) (come : Incoming) (place : Option Place) (published : Bool) → effect h name come e.moment ≡ placed place published
      → map spot_of ((made h).items) ++ new_spot place ∷ [] ≡ map spot_of ((made (here (Ingest name come))).items)
  spots_behind name come None published is = sym (ap (λ given. map spot_of (items.items_by_effect (made h) name come given)) is ∙ map-append spot_of ((made h).items) _)
  spots_behind name come (Some place) published is = sym (ap (λ given. map spot_of (items.items_by_effect (made h) name come given)) is ∙ map-append spot_of ((made h).items) _)

  -- an ingest that makes an item
  pub ingest_alike : (name : Bytes) (come : Incoming) (place : Option Place) (published : Bool) → e.act ≡ Ingest name come → effect h name come e.moment ≡ placed place published
      → AreAlike (leads (make_at place) (facts h)) (facts (e ∷ h))
  ingest_alike name come place published is does =
      subst (λ (act : Act). AreAlike (leads (make_at place) (facts h)) (facts (here act))) (sym is) (made_alike place does)
    where
      made_alike : (o : Option Place) → effect h name come e.moment ≡ placed o published → AreAlike (leads (make_at o) (facts h)) (facts (here (Ingest name come)))
      made_alike None does = others_alone (Ingest name come) (map spot_of ((made h).items) ++ new_spot None ∷ []) tt (spots_behind name come None published does)
      made_alike (Some at) does = others_alone (Ingest name come) (map spot_of ((made h).items) ++ new_spot (Some at) ∷ []) tt (spots_behind name come (Some at) published does)

  -- the effect makes no item
  abbrev pub MakesNone : Effect → Type 0
  MakesNone New = ⊥
  MakesNone (NewAt place published) = ⊥
  MakesNone _ = Unit {0}

  spots_same : (name : Bytes) (come : Incoming) (given : Effect) → MakesNone given → map spot_of ((made h).items) ≡ map spot_of (items.items_by_effect (made h) name come given)
  spots_same name come New none = absurd none
  spots_same name come (NewAt place published) none = absurd none
  spots_same name come (Replaces i) none = sym (spots_kept i (items.replaced_by name come) ((made h).items) (λ it. refl))
  spots_same name come (Cancels i) none = sym (spots_kept i _ ((made h).items) (λ it. refl))
  spots_same name come (Settled i) none = refl

  -- an ingest that makes none
  pub known_alike : (name : Bytes) (come : Incoming) → e.act ≡ Ingest name come → MakesNone (effect h name come e.moment) → AreAlike (facts h) (facts (e ∷ h))
  known_alike name come is none =
      subst (λ (act : Act). AreAlike (facts h) (facts (here act))) (sym is)
      (others_alone (Ingest name come) (map spot_of ((made h).items)) tt (spots_same name come (effect h name come e.moment) none))

  -- the acts of the server itself
  own_of : (act : Act) → IsOwn act → AreAlike (facts h) (facts (here act))
  own_of (Request caller number command) own = absurd own
  own_of (Ingest name come) own = absurd own
  own_of Advance own = others_alone Advance (map spot_of ((made h).items)) tt refl
  own_of (Attempt subscriber k) own = others_alone (Attempt subscriber k) (map spot_of ((made h).items)) tt refl
  own_of (Receipt subscriber n) own = others_alone (Receipt subscriber n) (map spot_of ((made h).items)) tt refl
  own_of Halt own = others_alone Halt (map spot_of ((made h).items)) tt refl

  pub own_alike : IsOwn e.act → AreAlike (facts h) (facts (e ∷ h))
  own_alike own = own_of e.act own
