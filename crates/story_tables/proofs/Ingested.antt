-- What ingests do.
use Rattle.std.proofs.Common.{◌≡◌, ℕ, zero, suc, ◌+◌, ◌==◌, ◌&&◌, Bool, true, false, not, cond, Option, Some, None, List, [], ◌∷◌, ◌++◌, length, refl, sym, ap, ◌∙◌, subst, arith}
use Rattle.std.specs.Prelude.{nat_le, is_some, is_none}
use Rattle.std.specs.Option.{option_map}
use Rattle.std.proofs.lemmas.Bool.{false≢true}
use Rattle.std.proofs.lemmas.Bool.Decides.{nat_tests}
use Rattle.news_types.specs.declared.entry.Act.TheVariants.{Ingest}
use Rattle.news_types.specs.declared.story.Incoming.{Incoming}
use Rattle.news_types.specs.declared.story.Story.{Story}
use Rattle.news_types.specs.declared.words.State.{State}
use Rattle.news_types.specs.declared.words.PubStatus.{PubStatus}
use Rattle.news_types.specs.declared.words.PubStatus.TheVariants.{Usable, Withheld, Canceled}
use Rattle.news_types.specs.declared.words.Action.TheVariants as action
use Rattle.news_types.specs.declared.rules.Place.{Place}
use Rattle.news_types.specs.declared.rules.RouteAction.{RouteAction}
use Rattle.news_types.specs.declared.query.Holder.{Holder}
use Rattle.news_types.specs.Names.{Bytes, same}
use Rattle.news_types.specs.History.{History}
use Rattle.news_types.specs.States.{moved}
use Rattle.news_types.specs.Routing.{provider, routed_from, first_fetch, publishes}
use Rattle.news_types.specs.Due.{Pub, standing_first}
use Rattle.news_types.specs.Items.{Item, Origin, Effect, New, NewAt, Replaces, Cancels, Settled, fresh, item_numbered, known, is_from, is_untouched, is_open, is_newer, same_story, at_moment, state_at, created_of, effect_on, effect_of_new, placed, origin_of, replaced_by, items_by_effect}
use Rattle.news_types.specs.Publications.{Issue, issued_by_effect, pubs_of_issue, pubs, made, standing, effect}
use Rattle.news_types.specs.Outcome.{entry_of, reply_to, with_issue, item_of_effect}
use Rattle.news_types.specs.declared.entry.Reply.{Reply}
use Rattle.publications.specs.declared.change.PublicationChange.{PublicationChange}
use Rattle.publications.specs.declared.change.Step.TheVariants as pub_step
use Rattle.publications.specs.Steps.{IsFor as IsForPublications, Leads as LeadsPublications}
use Rattle.story_tables.specs.Feeds.{FeedsFor}
use Rattle.story_tables.specs.declared.feeds.FeedStep.TheVariants as feed_step
use Rattle.story_tables.specs.declared.ingest.Effect as told_effect
use Rattle.news_types.proofs.Members.{same_is, some_is}
use Rattle.item_table.specs.declared.change.ItemChange.{ItemChange}
use Rattle.item_table.specs.declared.change.Step.TheVariants as step
use Rattle.item_table.specs.declared.row.Setting.{Setting}
use Rattle.item_table.specs.declared.table.ItemFacts.{ItemFacts}
use Rattle.item_table.specs.Asked.{facts_of}
use Rattle.item_table.specs.Identities.{identity_of}
use Rattle.item_table.specs.Rows.{row_of, set_to, new_row}
use Rattle.item_table.specs.Steps.{Leads, Sets}
use Rattle.item_table.proofs.Known.{found}
use Rattle.story_tables.specs.declared.ingest.Effect.TheVariants as told
use Rattle.story_tables.specs.Ingests.{effect_of, on_known, is_held, IsForIngest, IsUnpublished}
use Rattle.story_tables.proofs.Silent.{past}

-- ---- what comes in for an item that is known

on_known_is : (status : PubStatus) (come : Incoming) (i : ℕ) (it : Item) → effect_of (on_known status i (is_open it) (is_newer come it)) ≡ effect_on status come i (Some it)
on_known_is Canceled come i it = elim (is_open it) as (λ b. effect_of (cond b (told.Cancels i) (told.Settled i)) ≡ cond b (Cancels i) (Settled i)) [ true ↦ refl | false ↦ refl ]
on_known_is Usable come i it = elim (is_open it && is_newer come it) as (λ b. effect_of (cond b (told.Replaces i) (told.Settled i)) ≡ cond b (Replaces i) (Settled i)) [ true ↦ refl | false ↦ refl ]
on_known_is Withheld come i it = elim (is_open it && is_newer come it) as (λ b. effect_of (cond b (told.Replaces i) (told.Settled i)) ≡ cond b (Replaces i) (Settled i)) [ true ↦ refl | false ↦ refl ]

not_held : (o : Option Holder) → not (is_some o) ≡ is_none o
not_held None = refl
not_held (Some x) = refl

pub effect_told : (come : Incoming) (i m : ℕ) (first : Option Pub) (o : Option Item) (it : Item) (f : ItemFacts) (story : Story) (from : State) (held free newer : Bool)
    → o ≡ Some it → facts_of it ≡ f → story ≡ it.story → held ≡ is_held o → from ≡ state_at m first f.state
    → free ≡ (is_untouched from && not held) → newer ≡ (nat_le f.created come.created && not (same_story come.story story))
    → effect_of (on_known come.status i free newer) ≡ effect_on come.status come i (option_map (at_moment m first) o)
effect_told come i m first o it f story from held free newer there same story_is held_is from_is free_is newer_is =
    let now : Item = at_moment m first it in
    let state : from ≡ now.state = from_is ∙ ap (λ (g : ItemFacts). state_at m first g.state) (sym same) in
    let is_held_so : not held ≡ is_none it.holder = ap not (held_is ∙ ap is_held there) ∙ not_held it.holder in
    let one : free ≡ is_open now = free_is ∙ (λ j. is_untouched (state j) && is_held_so j) in
    let created : f.created ≡ created_of it.origin = ap (λ (g : ItemFacts). g.created) (sym same) in
    let two : newer ≡ is_newer come now = newer_is ∙ (λ j. nat_le (created j) come.created && not (same_story come.story (story_is j))) in
    (λ j. effect_of (on_known come.status i (one j) (two j))) ∙ on_known_is come.status come i now ∙ sym (ap (λ (x : Option Item). effect_on come.status come i (option_map (at_moment m first) x)) there)

pub effect_untold : (come : Incoming) (i m : ℕ) (first : Option Pub) (o : Option Item) → o ≡ None → Settled 0 ≡ effect_on come.status come i (option_map (at_moment m first) o)
effect_untold come i m first o none = sym (ap (λ (x : Option Item). effect_on come.status come i (option_map (at_moment m first) x)) none)

-- ---- which effects are of a new item, and which of a known one

abbrev IsFresh : Effect → Type 0
IsFresh (Replaces i) = ⊥
IsFresh (Cancels i) = ⊥
IsFresh _ = Unit {0}

abbrev IsOfItem : ℕ → Effect → Type 0
IsOfItem i New = ⊥
IsOfItem i (NewAt place published) = ⊥
IsOfItem i (Replaces k) = k ≡ i
IsOfItem i (Cancels k) = k ≡ i
IsOfItem i (Settled k) = Unit {0}

abbrev pub MakesOne : Effect → Type 0
MakesOne New = Unit {0}
MakesOne (NewAt place published) = Unit {0}
MakesOne _ = ⊥

placed_fresh : (place : Option Place) (published : Bool) → IsFresh (placed place published)
placed_fresh None published = tt
placed_fresh (Some place) published = tt

new_fresh : (status : PubStatus) (actions : List RouteAction) → IsFresh (effect_of_new status actions)
new_fresh Usable actions = placed_fresh (first_fetch actions) (publishes actions)
new_fresh Withheld actions = tt
new_fresh Canceled actions = tt

on_item : (status : PubStatus) (come : Incoming) (i : ℕ) (o : Option Item) → IsOfItem i (effect_on status come i o)
on_item status come i None = tt
on_item Canceled come i (Some it) = elim (is_open it) as (λ b. IsOfItem i (cond b (Cancels i) (Settled i))) [ true ↦ refl | false ↦ tt ]
on_item Usable come i (Some it) = elim (is_open it && is_newer come it) as (λ b. IsOfItem i (cond b (Replaces i) (Settled i))) [ true ↦ refl | false ↦ tt ]
on_item Withheld come i (Some it) = elim (is_open it && is_newer come it) as (λ b. IsOfItem i (cond b (Replaces i) (Settled i))) [ true ↦ refl | false ↦ tt ]

never_both : (i : ℕ) (e : Effect) → IsOfItem i e → MakesOne e → ⊥
never_both i New of one = of
never_both i (NewAt place published) of one = of
never_both i (Replaces k) of one = one
never_both i (Cancels k) of one = one
never_both i (Settled k) of one = one

not_zero : (k : ℕ) → (suc k == 0) ≡ false
not_zero k = grind (arith, nat_tests)

module _ (n : ℕ) (fresh_one known_one : Effect) (is_fresh : IsFresh fresh_one) (of : IsOfItem n known_one) where
  makes_one : MakesOne (cond (n == 0) fresh_one known_one) → n ≡ 0
  makes_one one = by n refl
    where
      by : (k : ℕ) → n ≡ k → n ≡ 0
      by zero e = e
      by (suc k) e =
          let no : (n == 0) ≡ false = ap (λ j. j == 0) e ∙ not_zero k in
          absurd (never_both n known_one of (subst (λ b. MakesOne (cond b fresh_one known_one)) no one))

  replaces : (i : ℕ) → cond (n == 0) fresh_one known_one ≡ Replaces i → (i ≡ n) × (n ≡ 0 → ⊥)
  replaces i is = by n refl
    where
      by : (k : ℕ) → n ≡ k → (i ≡ n) × (n ≡ 0 → ⊥)
      by zero e =
          let yes : (n == 0) ≡ true = ap (λ j. j == 0) e in
          absurd (subst IsFresh (sym (ap (λ b. cond b fresh_one known_one) yes) ∙ is) is_fresh)
      by (suc k) e =
          let no : (n == 0) ≡ false = ap (λ j. j == 0) e ∙ not_zero k in
          (subst (IsOfItem n) (sym (ap (λ b. cond b fresh_one known_one) no) ∙ is) of, λ none. omega (arith, none, e))

both_true : (a b : Bool) → (a && b) ≡ true → (a ≡ true) × (b ≡ true)
both_true true b is = (refl, is)
both_true false b is = absurd (false≢true is)

called_same : (name identity p t : Bytes) (created : ℕ) (o : Option Origin) → is_from name identity o ≡ true → is_from p t (Some (record { provider = name; identity = identity; created = created })) ≡ is_from p t o
called_same name identity p t created None is = absurd (false≢true is)
called_same name identity p t created (Some origin) is =
    let parts = both_true (same origin.provider name) (same origin.identity identity) is in
    let one : name ≡ origin.provider = sym (same_is origin.provider name parts.0) in
    let two : identity ≡ origin.identity = sym (same_is origin.identity identity parts.1) in
    λ j. same (one j) p && same (two j) t

module _ (h : History) (m : ℕ) (name : Bytes) (come : Incoming) where
  abbrev number : ℕ
  number = known name come.identity ((made h).items)

  abbrev fresh_one : Effect
  fresh_one = effect_of_new come.status (routed_from h (provider h name) come.story m)

  abbrev known_one : Effect
  known_one = effect_on come.status come number (option_map (at_moment m (standing_first number ((made h).standing))) (item_numbered ((made h).items) number))

  unknown : MakesOne (effect h name come m) → number ≡ 0
  unknown one = makes_one number fresh_one known_one (new_fresh come.status (routed_from h (provider h name) come.story m)) (on_item come.status come number _) one

  replaces_known : (i : ℕ) → effect h name come m ≡ Replaces i → (i ≡ number) × (number ≡ 0 → ⊥)
  replaces_known i is = replaces number fresh_one known_one (new_fresh come.status (routed_from h (provider h name) come.story m)) (on_item come.status come number _) i is

  abbrev before : List Item
  before = (made h).items

  abbrev after : List Item
  after = (made (entry_of m (Ingest name come) ∷ h)).items

  pub item_made : (change : ItemChange) (state : State) (place : Option Place) → change.step ≡ step.Make (new_row state come.story come.created) (Some (identity_of name come.identity)) → MakesOne (effect h name come m)
      → after ≡ before ++ fresh state come.story place (Some (origin_of name come)) ∷ [] → IsForIngest change h m name come
  item_made change state place is one behind =
      record {
        leads = subst (λ s. Leads s before after) (sym is) (record {
          it = fresh state come.story place (Some (origin_of name come));
          behind = behind;
          row = refl;
          called = (λ p t. refl, unknown one);
        });
      }

  pub item_kept : (change : ItemChange) → change.step ≡ step.Nothing → after ≡ before → IsForIngest change h m name come
  item_kept change is same_items = record { leads = subst (λ s. Leads s before after) (sym is) same_items }

  pub item_replaced : (change : ItemChange) (i : ℕ) (it : Item) (f : ItemFacts) (story : Story) → effect h name come m ≡ Replaces i → item_numbered before i ≡ Some it → facts_of it ≡ f → story ≡ come.story
      → change.step ≡ step.Set i (record { state = f.state; version = f.version + 1; story = Some story; created = Some come.created }) → IsForIngest change h m name come
  item_replaced change i it f story does there facts_are story_is is =
      let to : Setting = record { state = it.state; version = it.version + 1; story = Some come.story; created = Some come.created } in
      let known_is = replaces_known i does in
      let source = found name come.identity before known_is.1 in
      let set : change.step ≡ step.Set i to = is ∙ (λ j. step.Set i (record { state = (sym facts_are j).state; version = (sym facts_are j).version + 1; story = Some (story_is j); created = Some come.created })) in
      let sets : Sets i (set_to to) before after = record {
        change = replaced_by name come;
        behind = ap (items_by_effect (made h) name come) does;
        row = λ x at. subst (λ (y : Item). row_of (replaced_by name come y) ≡ set_to to (row_of y)) (some_is it x (sym there ∙ at)) refl;
        called = λ x at p t.
            let e : source.0 ≡ x = some_is source.0 x (sym source.1 ∙ ap (item_numbered before) (sym known_is.0) ∙ at) in
            called_same name come.identity p t come.created x.origin (ap (λ (y : Item). is_from name come.identity y.origin) (sym e) ∙ source.2);
      } in
      record { leads = subst (λ s. Leads s before after) (sym set) sets }

  pub replaced_absent : (i : ℕ) → effect h name come m ≡ Replaces i → item_numbered before i ≡ None → after ≡ before
  replaced_absent i does none = ap (items_by_effect (made h) name come) does ∙ past i (replaced_by name come) before none

  pub item_canceled : (change : ItemChange) (i : ℕ) (it : Item) (f : ItemFacts) (state : State) → effect h name come m ≡ Cancels i → item_numbered before i ≡ Some it → facts_of it ≡ f → state ≡ moved action.Cancel f.state
      → change.step ≡ step.Set i (record { state = state; version = f.version; story = None; created = None }) → IsForIngest change h m name come
  item_canceled change i it f state does there facts_are state_is is =
      let to : Setting = record { state = moved action.Cancel it.state; version = it.version; story = None; created = None } in
      let state_so : state ≡ moved action.Cancel it.state = state_is ∙ ap (λ (g : ItemFacts). moved action.Cancel g.state) (sym facts_are) in
      let set : change.step ≡ step.Set i to = is ∙ (λ j. step.Set i (record { state = state_so j; version = (sym facts_are j).version; story = None; created = None })) in
      let sets : Sets i (set_to to) before after = record {
        change = λ (x : Item). record x { state = moved action.Cancel x.state };
        behind = ap (items_by_effect (made h) name come) does;
        row = λ x at. subst (λ (y : Item). row_of (record y { state = moved action.Cancel y.state }) ≡ set_to to (row_of y)) (some_is it x (sym there ∙ at)) refl;
        called = λ x at p t. refl;
      } in
      record { leads = subst (λ s. Leads s before after) (sym set) sets }

  pub canceled_absent : (i : ℕ) → effect h name come m ≡ Cancels i → item_numbered before i ≡ None → after ≡ before
  canceled_absent i does none = ap (items_by_effect (made h) name come) does ∙ past i (λ (x : Item). record x { state = moved action.Cancel x.state }) before none

-- ---- an ingest that publishes nothing

module _ (h : History) (m : ℕ) (name : Bytes) (come : Incoming) where
  unissued : (e : told_effect.Effect) → IsUnpublished e → issued_by_effect (made h) m name come (effect_of e) ≡ None
  unissued told.New plain = refl
  unissued (told.NewAt place true) plain = absurd plain
  unissued (told.NewAt place false) plain = refl
  unissued (told.Replaces i) plain = refl
  unissued (told.Cancels i) plain = refl
  unissued (told.Settled i) plain = refl

  pub none_issued : (e : told_effect.Effect) → effect h name come m ≡ effect_of e → IsUnpublished e → issued_by_effect (made h) m name come (effect h name come m) ≡ None
  none_issued e does plain = ap (issued_by_effect (made h) m name come) does ∙ unissued e plain

  abbrev reply_at : ℕ → ℕ → Reply
  reply_at l i = record { entry = l + 1; item = i; publication = 0; release = 0 }

  pub ingest_reply : (e : told_effect.Effect) (l i : ℕ) → effect h name come m ≡ effect_of e → IsUnpublished e → l ≡ length h → i ≡ item_of_effect h (effect_of e) → reply_at l i ≡ reply_to h m (Ingest name come)
  ingest_reply e l i does plain counted item_is =
      let two : i ≡ item_of_effect h (effect h name come m) = item_is ∙ ap (item_of_effect h) (sym does) in
      (λ j. reply_at (counted j) (two j)) ∙ sym (ap (λ (o : Option Issue). with_issue o h (item_of_effect h (effect h name come m))) (none_issued e does plain))

  abbrev behind : History
  behind = entry_of m (Ingest name come) ∷ h

  pub ingest_publications : (e : told_effect.Effect) (change : PublicationChange) → effect h name come m ≡ effect_of e → IsUnpublished e → change.step ≡ pub_step.Nothing → IsForPublications change (pubs h) (standing h) (pubs behind) (standing behind)
  ingest_publications e change does plain is =
      let none = none_issued e does plain in
      record {
        leads = subst (λ s. LeadsPublications s (pubs h) (standing h) (pubs behind) (standing behind)) (sym is) (record {
          all = ap (λ (o : Option Issue). pubs_of_issue h (made h) o ++ pubs h) none;
          stands = ap (λ (o : Option Issue). pubs_of_issue h (made h) o ++ standing h) none;
        });
      }

  pub ingest_feeds : (e : told_effect.Effect) → effect h name come m ≡ effect_of e → IsUnpublished e → FeedsFor feed_step.Nothing h behind
  ingest_feeds e does plain = record {
    subscribed = refl;
    stands = ap (λ (o : Option Issue). pubs_of_issue h (made h) o ++ standing h) (none_issued e does plain);
    sent = record { receipts = λ s. refl; attempts = λ s. refl; last = λ s. refl };
  }
