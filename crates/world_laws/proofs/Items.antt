-- What an entry does to the items of a legal list.
use Rattle.std.proofs.Common.{◌≡◌, ◌==◌, ℕ, zero, suc, ◌+◌, ◌-◌, ◌<◌, ◌≤◌, ◌⊎◌, inl, inr, Bool, true, false, not, ◌&&◌, ◌||◌, cond, Option, Some, None, List, [], ◌∷◌, ◌++◌, refl, sym, ap, ◌∙◌, subst, arith}
use Rattle.std.specs.Prelude.{slice_get, is_some, unwrap_or}
use Rattle.std.specs.Option.{option_map}
use Rattle.std.proofs.lemmas.Bool.Decides.{Decides-eqb}
use mathlib.Core.Bool.{true≢false}
use Rattle.news_types.specs.declared.entry.Act.{Act}
use Rattle.news_types.specs.declared.entry.Act.TheVariants.{Ingest, Request}
use Rattle.news_types.specs.declared.command.Command.{Command}
use Rattle.news_types.specs.declared.command.Command.TheVariants.{Create, Flash, Edit, Correct, Kill, Recall}
use Rattle.news_types.specs.declared.rules.Place.{Place}
use Rattle.news_types.specs.declared.rules.RouteAction.{RouteAction}
use Rattle.news_types.specs.declared.words.PubStatus.{PubStatus}
use Rattle.news_types.specs.declared.words.PubStatus.TheVariants.{Usable, Withheld, Canceled}
use Rattle.news_types.specs.declared.words.Action.TheVariants as action
use Rattle.news_types.specs.declared.story.Story.{Story}
use Rattle.news_types.specs.declared.story.Incoming.{Incoming}
use Rattle.news_types.specs.Names.{Bytes, same}
use Rattle.news_types.specs.History.{History}
use Rattle.news_types.specs.Routing.{provider, routed_from, first_fetch, publishes}
use Rattle.news_types.specs.States.{moved}
use Rattle.news_types.specs.Due.{standing_first}
use Rattle.news_types.specs.Items.{Origin, Item, Made, item_numbered, changed, at_moment, made_by, named_item, version_after, story_after, changed_by, with_made, items_by_command, Effect, New, NewAt, Replaces, Cancels, Settled, is_from, known_from, known, is_open, is_newer, effect_on, placed, effect_of_new, effect_by, new_item, routed_item, replaced_by, items_by_effect, items_by}
use Rattle.news_types.specs.Publications.{made, item}
use Rattle.news_types.specs.Denial.{first_missing, missing}
use Rattle.news_types.specs.Legal.{Follows, keeps_entry}
use Rattle.news_types.proofs.Members.{same_is}
use Rattle.news_types.proofs.Legal.{missing_row, item_there}
use Rattle.world_laws.specs.Facts.{is_ingest_of, has_come, makes_an_item, items_made, makes, came_from, is_canceled, adds_version, gives_story, story_of}

-- ---- tests

no_false : {A : Type 0} (b : Bool) → b ≡ true → b ≡ false → A
no_false b one two = absurd (true≢false (sym one ∙ two))

pub is_number : (i j : ℕ) → (i == j) ≡ true → i ≡ j
is_number i j = (Decides-eqb i j).0

pub number_is : (i j : ℕ) → i ≡ j → (i == j) ≡ true
number_is i j = (Decides-eqb i j).1

pub not_number : (i j : ℕ) → (i == j) ≡ false → i ≡ j → ⊥
not_number i j other alike = true≢false (sym (number_is i j alike) ∙ other)

and_split : (a b : Bool) → (a && b) ≡ true → (a ≡ true) × (b ≡ true)
and_split true true e = (refl, refl)
and_split true false e = absurd (true≢false (sym e))
and_split false b e = absurd (true≢false (sym e))

pub and_true : (b : Bool) → (b && true) ≡ b
and_true true = refl
and_true false = refl

pub or_right : (a b : Bool) → b ≡ true → (a || b) ≡ true
or_right true b is = refl
or_right false b is = is

pub and_false : (b : Bool) → (b && false) ≡ false
and_false true = refl
and_false false = refl

or_false : (b : Bool) → (b || false) ≡ b
or_false true = refl
or_false false = refl

pub is_false : (b : Bool) → (b ≡ true → ⊥) → b ≡ false
is_false true never = absurd (never refl)
is_false false never = refl

-- ---- origins

-- the item, if there is one, has that origin
abbrev pub is_of : Bytes → Bytes → Option Item → Bool
is_of p d None = false
is_of p d (Some it) = is_from p d it.origin

-- no item has it where the known number is 0
none_known : (n : ℕ) (p d : Bytes) (items : List Item) (j : ℕ) → 0 < n → known_from n p d items ≡ 0 → is_of p d (slice_get items j) ≡ false
none_known n p d [] j some is = refl
none_known n p d (it ∷ items) zero some is =
    elim (is_from p d it.origin) as (λ b. cond b n (known_from (n + 1) p d items) ≡ 0 → b ≡ false) [
      | true ↦ λ e. absurd (omega (arith, e, some))
      | false ↦ λ e. refl
    ] is
none_known n p d (it ∷ items) (suc j) some is =
    elim (is_from p d it.origin) as (λ b. cond b n (known_from (n + 1) p d items) ≡ 0 → is_of p d (slice_get items j) ≡ false) [
      | true ↦ λ e. absurd (omega (arith, e, some))
      | false ↦ λ e. none_known (n + 1) p d items j (omega arith) e
    ] is

-- else the item of that number has it
one_known : (n : ℕ) (p d : Bytes) (items : List Item) (k : ℕ) → known_from n p d items ≡ k → (k ≡ 0 → ⊥) → (n ≤ k) × (is_of p d (slice_get items (k - n)) ≡ true)
one_known n p d [] k is some = absurd (some (sym is))
one_known n p d (it ∷ items) k is some =
    elim (is_from p d it.origin) as (λ b. is_from p d it.origin ≡ b → cond b n (known_from (n + 1) p d items) ≡ k → (n ≤ k) × (is_of p d (slice_get (it ∷ items) (k - n)) ≡ true)) [
      | true ↦ λ found e. let here : k - n ≡ 0 = omega (arith, e) in (omega (arith, e), rw here found)
      | false ↦ λ other e.
          let rest = one_known (n + 1) p d items k e some in
          let later : k - n ≡ suc (k - (n + 1)) = omega (arith, rest.0) in
          (omega (arith, rest.0), rw later rest.1)
    ] refl is

pub of_none : (p d : Bytes) (items : List Item) (i : ℕ) → known p d items ≡ 0 → is_of p d (item_numbered items i) ≡ false
of_none p d items i is = elim (i == 0) as (λ b. is_of p d (cond b None (slice_get items (i - 1))) ≡ false) [ true ↦ refl | false ↦ none_known 1 p d items (i - 1) (omega arith) is ]

of_known : (p d : Bytes) (items : List Item) (k : ℕ) → known p d items ≡ k → (k ≡ 0 → ⊥) → is_of p d (item_numbered items k) ≡ true
of_known p d items k is some =
    let other : (k == 0) ≡ false = is_false (k == 0) (λ e. some (is_number k 0 e)) in
    rw other (one_known 1 p d items k is some).1

of_some : (p d : Bytes) (o : Option Item) → is_of p d o ≡ true → is_some o ≡ true
of_some p d None e = e
of_some p d (Some it) e = refl

-- ---- what an entry does to the items

-- it makes one
pub record MakesOne (h : History) (act : Act) (items new : List Item) : Type 0 where
  pub is_making : makes_an_item act h ≡ true
  pub item : Item
  pub is : new ≡ items ++ item ∷ []
  pub version : item.version ≡ 1
  pub story : story_of act ≡ Some item.story
  pub origin : (p d : Bytes) → is_from p d item.origin ≡ is_ingest_of p d act
  pub first : (p d : Bytes) → is_ingest_of p d act ≡ true → has_come p d h ≡ false
  pub adds : (i : ℕ) → adds_version i act h ≡ false
  pub gives : (i : ℕ) → gives_story i act h ≡ makes i act h

-- or it changes one, and maybe none
pub record ChangesOne (h : History) (act : Act) (items new : List Item) : Type 0 where
  pub is_making : makes_an_item act h ≡ false
  pub which : ℕ
  pub change : Item → Item
  pub is : new ≡ changed which change items
  pub raises : Bool
  pub version : (it : Item) → (change it).version ≡ cond raises (it.version + 1) it.version
  pub adds : (i : ℕ) → adds_version i act h ≡ (raises && i == which)
  pub given : Option Story
  pub story : (it : Item) → (change it).story ≡ unwrap_or given it.story
  pub gives : (i : ℕ) → gives_story i act h ≡ (is_some given && i == which)
  pub tells : is_some given ≡ true → story_of act ≡ given
  pub origin : (it : Item) → item_numbered items which ≡ Some it → (p d : Bytes) → is_from p d (change it).origin ≡ is_from p d it.origin
  pub known : (p d : Bytes) → is_ingest_of p d act ≡ true → (i : ℕ) × (came_from p d i h ≡ true)
  pub there : (raises || is_some given) ≡ true → is_some (item_numbered items which) ≡ true

abbrev pub Step : History → Act → List Item → List Item → Type 0
Step h act items new = MakesOne h act items new ⊎ ChangesOne h act items new

-- ---- commands

module _ (h : History) (m : ℕ) (caller : Bytes) (number : ℕ) where
  -- a command that makes none: so many versions more, and maybe a story
  changes : (command : Command) (raises : Bool) (given : Option Story) → made_by command ≡ None → makes_an_item (Request caller number command) h ≡ false
      → ((n : ℕ) → version_after command n ≡ cond raises (n + 1) n) → ((i : ℕ) → adds_version i (Request caller number command) h ≡ (raises && i == named_item command))
      → ((s : Story) → story_after command s ≡ unwrap_or given s) → ((i : ℕ) → gives_story i (Request caller number command) h ≡ (is_some given && i == named_item command))
      → (is_some given ≡ true → story_of (Request caller number command) ≡ given) → ((raises || is_some given) ≡ true → is_some (item_numbered (made h).items (named_item command)) ≡ true)
      → Step h (Request caller number command) (made h).items (items_by_command (made h) m caller command)
  changes command raises given none making versions adds stories gives tells there = inr (record {
    is_making = making;
    which = named_item command;
    change = λ it. changed_by caller command (at_moment m (standing_first (named_item command) (made h).standing) it);
    is = ap (λ (o : Option Item). with_made o (changed (named_item command) (λ it. changed_by caller command (at_moment m (standing_first (named_item command) (made h).standing) it)) (made h).items) (made h).items) none;
    raises = raises;
    version = λ it. versions it.version;
    adds = adds;
    given = given;
    story = λ it. stories it.story;
    gives = gives;
    tells = tells;
    origin = λ it is p d. refl;
    known = λ p d is. absurd (true≢false (sym is));
    there = there;
  })

  command_step : (command : Command) → (first_missing (missing h command) ≡ None) → Step h (Request caller number command) (made h).items (items_by_command (made h) m caller command)
  command_step (Create desk story) none = inl (record { is_making = refl; item = _; is = refl; version = refl; story = refl; origin = λ p d. refl; first = λ p d is. absurd (true≢false (sym is)); adds = λ i. refl; gives = λ i. or_false (i == items_made h + 1) })
  command_step (Flash story targets) none = inl (record { is_making = refl; item = _; is = refl; version = refl; story = refl; origin = λ p d. refl; first = λ p d is. absurd (true≢false (sym is)); adds = λ i. refl; gives = λ i. or_false (i == items_made h + 1) })
  command_step (Edit i session story) none =
      changes (Edit i session story) true (Some story) refl refl (λ n. refl) (λ k. refl) (λ s. refl) (λ k. refl) (λ y. refl) (λ y. item_there (item h i) none)
  command_step (Correct i session story) none =
      changes (Correct i session story) true (Some story) refl refl (λ n. refl) (λ k. refl) (λ s. refl) (λ k. refl) (λ y. refl) (λ y. item_there (item h i) none)
  command_step (Kill i session note) none =
      changes (Kill i session note) true None refl refl (λ n. refl) (λ k. refl) (λ s. refl) (λ k. refl) (λ y. absurd (true≢false (sym y))) (λ y. item_there (item h i) none)
  command_step (Recall i session note) none =
      changes (Recall i session note) true None refl refl (λ n. refl) (λ k. refl) (λ s. refl) (λ k. refl) (λ y. absurd (true≢false (sym y))) (λ y. item_there (item h i) none)
  command_step command none = changes command false None refl refl (λ n. refl) (λ k. refl) (λ s. refl) (λ k. refl) (λ y. absurd (true≢false (sym y))) (λ y. absurd (true≢false (sym y)))

-- ---- ingests

-- what an ingest with this effect says of the known number of its identity
abbrev Fitting : ℕ → PubStatus → Effect → Type 0
Fitting k status New = k ≡ 0
Fitting k status (NewAt place published) = k ≡ 0
Fitting k status (Replaces i) = (k ≡ i) × (i ≡ 0 → ⊥) × (is_canceled status ≡ false)
Fitting k status (Cancels i) = (k ≡ i) × (i ≡ 0 → ⊥) × (is_canceled status ≡ true)
Fitting k status (Settled i) = Unit {0}

new_fits : (k : ℕ) (status : PubStatus) (actions : List RouteAction) → k ≡ 0 → Fitting k status (effect_of_new status actions)
new_fits k Usable actions is = by (first_fetch actions) (publishes actions)
  where
    by : (o : Option Place) (published : Bool) → Fitting k Usable (placed o published)
    by None published = is
    by (Some place) published = is
new_fits k Withheld actions is = is
new_fits k Canceled actions is = tt

known_fits : (k : ℕ) (status : PubStatus) (come : Incoming) (o : Option Item) → (k ≡ 0 → ⊥) → Fitting k status (effect_on status come k o)
known_fits k status come None some = by status
  where
    by : (status : PubStatus) → Fitting k status (effect_on status come k None)
    by Usable = tt
    by Withheld = tt
    by Canceled = tt
known_fits k Usable come (Some it) some = elim (is_open it && is_newer come it) as (λ b. Fitting k Usable (cond b (Replaces k) (Settled k))) [ true ↦ (refl, some, refl) | false ↦ tt ]
known_fits k Withheld come (Some it) some = elim (is_open it && is_newer come it) as (λ b. Fitting k Withheld (cond b (Replaces k) (Settled k))) [ true ↦ (refl, some, refl) | false ↦ tt ]
known_fits k Canceled come (Some it) some = elim (is_open it) as (λ b. Fitting k Canceled (cond b (Cancels k) (Settled k))) [ true ↦ (refl, some, refl) | false ↦ tt ]

effect_fits : (h : History) (w : Made) (name : Bytes) (come : Incoming) (m : ℕ) → Fitting (known name come.identity w.items) come.status (effect_by h w name come m)
effect_fits h w name come m =
    let k : ℕ = known name come.identity w.items in
    elim (k == 0) as (λ b. (k == 0) ≡ b → Fitting k come.status
    (cond b (effect_of_new come.status (routed_from h (provider h name) come.story m)) (effect_on come.status come k (option_map (at_moment m (standing_first k w.standing)) (item_numbered w.items k))))) [
      | true ↦ λ is. new_fits k come.status _ (is_number k 0 is)
      | false ↦ λ other. known_fits k come.status come _ (not_number k 0 other)
    ] refl

-- what is known of where the items of a list came from
pub record Origins (h : History) : Type 0 where
  pub origin : (p d : Bytes) (i : ℕ) → is_of p d (item h i) ≡ came_from p d i h
  pub come : (p d : Bytes) → has_come p d h ≡ true → (i : ℕ) × (came_from p d i h ≡ true)
  pub one : (p d : Bytes) (i j : ℕ) → came_from p d i h ≡ true → came_from p d j h ≡ true → i ≡ j

-- who came from there has come
pub has_of : (p d : Bytes) (i : ℕ) (h : History) → came_from p d i h ≡ true → has_come p d h ≡ true
has_of p d i [] is = is
has_of p d i (e ∷ h) is =
    elim (makes i e.act h) as (λ b. cond b (is_ingest_of p d e.act) (came_from p d i h) ≡ true → (is_ingest_of p d e.act || has_come p d h) ≡ true) [
      | true ↦ λ new. ap (λ (b : Bool). b || has_come p d h) new
      | false ↦ λ old. or_right (is_ingest_of p d e.act) (has_come p d h) (has_of p d i h old)
    ] is

-- an ingest of the same provider and identity
same_ingest : (name : Bytes) (come : Incoming) (p d : Bytes) → is_ingest_of p d (Ingest name come) ≡ true → (name ≡ p) × (come.identity ≡ d)
same_ingest name come p d is = let both = and_split (same name p) (same come.identity d) is in (same_is name p both.0, same_is come.identity d both.1)

module _ (h : History) (m : ℕ) (name : Bytes) (come : Incoming) (origins : Origins h) where
  -- none came where none is known
  none_came : known name come.identity (made h).items ≡ 0 → has_come name come.identity h ≡ false
  none_came is = is_false (has_come name come.identity h) (λ has.
      let one = origins.come name come.identity has in
      true≢false (sym one.1 ∙ sym (origins.origin name come.identity one.0) ∙ of_none name come.identity (made h).items one.0 is))

  absent : has_come name come.identity h ≡ false → (i : ℕ) → came_from name come.identity i h ≡ false
  absent none i = is_false (came_from name come.identity i h) (λ came. true≢false (sym (has_of name come.identity i h came) ∙ none))

  makes_new : (x : Item) → known name come.identity (made h).items ≡ 0 → x.version ≡ 1 → come.story ≡ x.story → ((p d : Bytes) → is_from p d x.origin ≡ is_ingest_of p d (Ingest name come)) → Step h (Ingest name come) (made h).items ((made h).items ++ x ∷ [])
  makes_new x is version story origin =
      let none = none_came is in
      inl (record {
        is_making = ap not none;
        item = x;
        is = refl;
        version = version;
        story = ap Some story;
        origin = origin;
        first = λ p d same. let names = same_ingest name come p d same in subst (λ (t : Bytes). has_come t d h ≡ false) names.0 (subst (λ (u : Bytes). has_come name u h ≡ false) names.1 none);
        adds = λ i. rw (absent none i) (and_false (not (is_canceled come.status)));
        gives = λ i. rw (absent none i, and_false (not (is_canceled come.status))) (or_false (makes i (Ingest name come) h));
      })

  -- the item of the known number came, and no other
  module _ (k : ℕ) (is : known name come.identity (made h).items ≡ k) (some : k ≡ 0 → ⊥) where
    of_k : is_of name come.identity (item h k) ≡ true
    of_k = of_known name come.identity (made h).items k is some

    came : came_from name come.identity k h ≡ true
    came = sym (origins.origin name come.identity k) ∙ of_k

    came_is : (i : ℕ) → came_from name come.identity i h ≡ (i == k)
    came_is i = elim (i == k) as (λ b. (i == k) ≡ b → came_from name come.identity i h ≡ b) [
      | true ↦ λ same. ap (λ (j : ℕ). came_from name come.identity j h) (is_number i k same) ∙ came
      | false ↦ λ other. is_false (came_from name come.identity i h) (λ also. not_number i k other (origins.one name come.identity i k also came))
    ] refl

    no_making : makes_an_item (Ingest name come) h ≡ false
    no_making = ap not (has_of name come.identity k h came)

    known_k : (p d : Bytes) → is_ingest_of p d (Ingest name come) ≡ true → (i : ℕ) × (came_from p d i h ≡ true)
    known_k p d same =
        let names = same_ingest name come p d same in
        (k, subst (λ (t : Bytes). came_from t d k h ≡ true) names.0 (subst (λ (u : Bytes). came_from name u k h ≡ true) names.1 came))

    replaces_k : is_canceled come.status ≡ false → Step h (Ingest name come) (made h).items (changed k (replaced_by name come) (made h).items)
    replaces_k usable = inr (record {
      is_making = no_making;
      which = k;
      change = replaced_by name come;
      is = refl;
      raises = true;
      version = λ it. refl;
      adds = λ i. rw usable (came_is i);
      given = Some come.story;
      story = λ it. refl;
      gives = λ i. rw (no_making, usable) (came_is i);
      tells = λ y. refl;
      origin = λ it there p d. same_origin it.origin p d (sym (ap (is_of name come.identity) there) ∙ of_k);
      known = known_k;
      there = λ y. of_some name come.identity (item h k) of_k;
    })
      where
        same_origin : (o : Option Origin) (p d : Bytes) → is_from name come.identity o ≡ true → is_ingest_of p d (Ingest name come) ≡ is_from p d o
        same_origin None p d from = absurd (true≢false (sym from))
        same_origin (Some o) p d from =
            let both = and_split (same o.provider name) (same o.identity come.identity) from in
            let one : name ≡ o.provider = sym (same_is o.provider name both.0) in
            let two : come.identity ≡ o.identity = sym (same_is o.identity come.identity both.1) in
            ap (λ (t : Bytes). same t p && same come.identity d) one ∙ ap (λ (u : Bytes). same o.provider p && same u d) two

    cancels_k : is_canceled come.status ≡ true → Step h (Ingest name come) (made h).items (items_by_effect (made h) name come (Cancels k))
    cancels_k gone = inr (record {
      is_making = no_making;
      which = k;
      change = λ it. record it { state = moved action.Cancel it.state };
      is = refl;
      raises = false;
      version = λ it. refl;
      adds = λ i. rw gone refl;
      given = None;
      story = λ it. refl;
      gives = λ i. rw (no_making, gone) refl;
      tells = λ y. absurd (true≢false (sym y));
      origin = λ it there p d. refl;
      known = known_k;
      there = λ y. absurd (true≢false (sym y));
    })

  effect_step : (effect : Effect) → Fitting (known name come.identity (made h).items) come.status effect → keeps_entry effect ≡ true → Step h (Ingest name come) (made h).items (items_by_effect (made h) name come effect)
  effect_step New is kept = makes_new (new_item name come) is refl refl (λ p d. refl)
  effect_step (NewAt place published) is kept = makes_new (routed_item name come place published) is refl refl (λ p d. refl)
  effect_step (Replaces k) is kept = replaces_k k is.0 is.1 is.2
  effect_step (Cancels k) is kept = cancels_k k is.0 is.1 is.2
  effect_step (Settled i) is kept = absurd (true≢false (sym kept))

-- ---- every act

pub act_step : (h : History) (m : ℕ) (act : Act) → Origins h → Follows h act m → Step h act (made h).items (items_by h (made h) m act)
act_step h m (Request caller number command) origins follows = command_step h m caller number command (missing_row h caller number command m follows.1)
act_step h m (Ingest name come) origins follows = effect_step h m name come origins (effect_by h (made h) name come m) (effect_fits h (made h) name come m) follows.0
act_step h m act origins follows = inr (record {
  is_making = refl;
  which = 0;
  change = λ it. it;
  is = refl;
  raises = false;
  version = λ it. refl;
  adds = λ i. refl;
  given = None;
  story = λ it. refl;
  gives = λ i. refl;
  tells = λ y. absurd (true≢false (sym y));
  origin = λ it there p d. refl;
  known = λ p d is. absurd (true≢false (sym is));
  there = λ y. absurd (true≢false (sym y));
})
