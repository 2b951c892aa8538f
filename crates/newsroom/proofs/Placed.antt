-- The places to which rules route are there.
use Rattle.std.proofs.Common.{◌≡◌, ℕ, ◌==◌, Bool, true, false, ◌&&◌, ◌||◌, cond, List, [], ◌∷◌, ◌++◌, Option, Some, None, refl, sym}
use Rattle.std.specs.Prelude.{flat_map}
use Rattle.std.specs.Option.{option_map}
use Rattle.std.proofs.lemmas.Bool.{false≢true}
use Rattle.news_types.specs.declared.entry.Entry.{Entry}
use Rattle.news_types.specs.declared.entry.Act.{Act}
use Rattle.news_types.specs.declared.entry.Act.TheVariants.{Request}
use Rattle.news_types.specs.declared.command.Command.TheVariants.{AddDesk, AddStage, AddScheme}
use Rattle.news_types.specs.declared.denial.Denial.TheVariants.{UnknownThing}
use Rattle.news_types.specs.declared.rules.Place.{Place}
use Rattle.news_types.specs.declared.rules.Rule.{Rule}
use Rattle.news_types.specs.declared.rules.RouteAction.{RouteAction}
use Rattle.news_types.specs.declared.rules.RouteAction.TheVariants.{Publish, Exit}
use Rattle.news_types.specs.declared.story.Story.{Story}
use Rattle.news_types.specs.declared.story.Incoming.{Incoming}
use Rattle.news_types.specs.declared.words.PubStatus.{PubStatus}
use Rattle.news_types.specs.declared.words.PubStatus.TheVariants.{Usable, Withheld, Canceled}
use Rattle.news_types.specs.declared.words.Thing.{Thing}
use Rattle.news_types.specs.declared.words.Thing.TheVariants as thing
use Rattle.news_types.specs.Names.{Bytes, same}
use Rattle.news_types.specs.History.{History, by_command, fact_of}
use Rattle.news_types.specs.Desks.{is_desk, is_stage, desk_after, stage_after, incoming, working}
use Rattle.news_types.specs.Routing.{Provider, provider, scheme, scheme_after, fetch_of, asked_by, routed_by, routed_if_there, routed_by_scheme, routed_from, applies, first_fetch, publishes}
use Rattle.news_types.specs.Due.{standing_first}
use Rattle.news_types.specs.Items.{Item, Effect, known, at_moment, is_open, is_newer, placed, effect_on, effect_of_new, Cancels, Replaces, Settled}
use Rattle.news_types.specs.Publications.{item, made, standing, effect}
use Rattle.news_types.specs.Denial.{absent, absent_in_fetch, absent_in_rule, absent_if_given, first_missing}
use Rattle.news_types.specs.Filters.{is_filter}
use Rattle.news_types.specs.Legal.{IsLegal, Follows}
use Rattle.news_types.specs.Members.{Each}
use Rattle.news_types.proofs.Members.{none_some, each_map}
use Rattle.news_types.proofs.Legal.{missing_row}
use Rattle.desk_rules.specs.Facts.{Facts, facts}
use Rattle.desk_rules.specs.Steps.{IsThere, IsThereIfGiven}
use Rattle.newsroom.specs.Ingests.{IsThereIfMade}

-- ---- desks and stages stay

or_true : (b : Bool) → (b || true) ≡ true
or_true true = refl
or_true false = refl

desk_stays : (act : Act) (desk : Bytes) (before : Bool) → before ≡ true → by_command (desk_after desk) act before ≡ true
desk_stays (Request caller number (AddDesk added)) desk before there = rw there (or_true (same added desk))
desk_stays (Request caller number command) desk before there = there
desk_stays _ desk before there = there

stage_stays : (act : Act) (desk stage : Bytes) (before : Bool) → before ≡ true → by_command (stage_after desk stage) act before ≡ true
stage_stays (Request caller number (AddStage on added)) desk stage before there = rw there (or_true (same on desk && same added stage))
stage_stays (Request caller number command) desk stage before there = there
stage_stays _ desk stage before there = there

both_stay : (d e a b s t : Bool) → (d ≡ true → e ≡ true) → (s ≡ true → t ≡ true) → (d && (a || b || s)) ≡ true → (e && (a || b || t)) ≡ true
both_stay false e a b s t one two there = absurd (false≢true there)
both_stay true e true b s t one two there = rw (one refl) refl
both_stay true e false true s t one two there = rw (one refl) refl
both_stay true e false false s t one two there = rw (one refl, two there) refl

place_stays : (e : Entry) (h : History) (place : Place) → IsThere (facts h) place → IsThere (facts (e ∷ h)) place
place_stays e h place there =
    both_stay (is_desk h place.desk) (is_desk (e ∷ h) place.desk) (same place.stage incoming) (same place.stage working)
    (fact_of false (stage_after place.desk place.stage) h) (fact_of false (stage_after place.desk place.stage) (e ∷ h))
    (desk_stays e.act place.desk (is_desk h place.desk)) (stage_stays e.act place.desk place.stage (fact_of false (stage_after place.desk place.stage) h)) there

-- ---- the rules of a scheme name places that are there

abbrev FetchesThere : Facts → Rule → Type 0
FetchesThere f rule = IsThereIfGiven f rule.fetch

abbrev AreThere : Facts → Option (List Rule) → Type 0
AreThere f None = Unit {0}
AreThere f (Some rules) = Each (FetchesThere f) rules

first_part : (xs ys : List Thing) → first_missing (xs ++ ys) ≡ None → first_missing xs ≡ None
first_part [] ys none = refl
first_part (x ∷ xs) ys none = none

last_part : (xs ys : List Thing) → first_missing (xs ++ ys) ≡ None → first_missing ys ≡ None
last_part [] ys none = none
last_part (x ∷ xs) ys none = absurd (none_some (UnknownThing x) (sym none))

there_by : (b : Bool) (what : Thing) → first_missing (absent b what) ≡ None → b ≡ true
there_by true what none = refl
there_by false what none = absurd (none_some (UnknownThing what) (sym none))

fetch_there : (h : History) (o : Option Place) → first_missing (absent_in_fetch h o) ≡ None → IsThereIfGiven (facts h) o
fetch_there h None none = tt
fetch_there h (Some place) none = there_by (is_stage h place.desk place.stage) thing.Stage (last_part (absent (is_desk h place.desk) thing.Desk) (absent (is_stage h place.desk place.stage) thing.Stage) none)

rules_there : (h : History) (rules : List Rule) → first_missing (flat_map (absent_in_rule h) rules) ≡ None → Each (FetchesThere (facts h)) rules
rules_there h [] none = tt
rules_there h (rule ∷ rules) none = (
  fetch_there h rule.fetch (last_part (absent_if_given (is_filter h) thing.Filter rule.filter) (absent_in_fetch h rule.fetch) (first_part (absent_in_rule h rule) (flat_map (absent_in_rule h) rules) none)),
  rules_there h rules (last_part (absent_in_rule h rule) (flat_map (absent_in_rule h) rules) none),
)

given_stay : (f g : Facts) → ((place : Place) → IsThere f place → IsThere g place) → (o : Option Place) → IsThereIfGiven f o → IsThereIfGiven g o
given_stay f g stays None there = tt
given_stay f g stays (Some place) there = stays place there

all_stay : (f g : Facts) → ((place : Place) → IsThere f place → IsThere g place) → (o : Option (List Rule)) → AreThere f o → AreThere g o
all_stay f g stays None there = tt
all_stay f g stays (Some rules) there = each_map (FetchesThere f) (FetchesThere g) rules (λ rule. given_stay f g stays rule.fetch) there

scheme_step : (h : History) (g : Facts) → ((place : Place) → IsThere (facts h) place → IsThere g place) → (act : Act) (m : ℕ) → Follows h act m → (name : Bytes) (before : Option (List Rule))
    → AreThere g before → AreThere g (by_command (scheme_after name) act before)
scheme_step h g stays (Request caller number (AddScheme added rules)) m follows name before there =
    let new : AreThere g (Some rules) = all_stay (facts h) g stays (Some rules) (rules_there h rules (missing_row h caller number (AddScheme added rules) m follows.1)) in
    elim (same added name) as (λ b. AreThere g (cond b (Some rules) before)) [ true ↦ new | false ↦ there ]
scheme_step h g stays (Request caller number command) m follows name before there = there
scheme_step h g stays _ m follows name before there = there

schemes_there : (h : History) → IsLegal h → (name : Bytes) → AreThere (facts h) (scheme h name)
schemes_there [] legal name = tt
schemes_there (e ∷ h) legal name =
    scheme_step h (facts (e ∷ h)) (place_stays e h) e.act e.moment legal.2 name (scheme h name) (all_stay (facts h) (facts (e ∷ h)) (place_stays e h) (scheme h name) (schemes_there h legal.0 name))

-- ---- so what comes in is routed to places that are there

asked_there : (f : Facts) (o : Option Place) (p e : Bool) (rest : List RouteAction) → IsThereIfGiven f o → IsThereIfGiven f (first_fetch rest)
    → IsThereIfGiven f (first_fetch ((fetch_of o ++ cond p (Publish ∷ []) [] ++ cond e (Exit ∷ []) []) ++ rest))
asked_there f (Some place) p e rest there next = there
asked_there f None true true rest there next = next
asked_there f None true false rest there next = next
asked_there f None false true rest there next = next
asked_there f None false false rest there next = next

last_there : (f : Facts) (e : Bool) (rest : List RouteAction) → IsThereIfGiven f (first_fetch rest) → IsThereIfGiven f (first_fetch (cond e [] rest))
last_there f true rest next = tt
last_there f false rest next = next

routed_there : (f : Facts) (applies : Rule → Bool) (rules : List Rule) → Each (FetchesThere f) rules → IsThereIfGiven f (first_fetch (routed_by applies rules))
routed_there f applies [] there = tt
routed_there f applies (rule ∷ rules) there =
    let next : IsThereIfGiven f (first_fetch (routed_by applies rules)) = routed_there f applies rules there.1 in
    let here : IsThereIfGiven f (first_fetch (asked_by rule ++ cond rule.exit [] (routed_by applies rules))) =
    asked_there f rule.fetch rule.publish rule.exit (cond rule.exit [] (routed_by applies rules)) there.0 (last_there f rule.exit (routed_by applies rules) next) in
    elim (applies rule) as (λ b. IsThereIfGiven f (first_fetch (cond b (asked_by rule ++ cond rule.exit [] (routed_by applies rules)) (routed_by applies rules)))) [ true ↦ here | false ↦ next ]

module _ (h : History) (legal : IsLegal h) (story : Story) (m : ℕ) where
  by_rules : (o : Option (List Rule)) → AreThere (facts h) o → IsThereIfGiven (facts h) (first_fetch (routed_if_there h o story m))
  by_rules None there = tt
  by_rules (Some rules) there = routed_there (facts h) (applies h story m) rules there

  by_scheme : (o : Option Bytes) → IsThereIfGiven (facts h) (first_fetch (routed_by_scheme h o story m))
  by_scheme None = tt
  by_scheme (Some name) = by_rules (scheme h name) (schemes_there h legal name)

  by_provider : (p : Option Provider) → IsThereIfGiven (facts h) (first_fetch (routed_from h p story m))
  by_provider None = tt
  by_provider (Some p) = by_scheme p.scheme

-- ---- and an ingest makes an item at such a place

made_there : (h : History) (o : Option Place) (published : Bool) → IsThereIfGiven (facts h) o → IsThereIfMade h (placed o published)
made_there h None published there = tt
made_there h (Some place) published there = there

new_there : (h : History) (status : PubStatus) (actions : List RouteAction) → IsThereIfGiven (facts h) (first_fetch actions) → IsThereIfMade h (effect_of_new status actions)
new_there h Usable actions there = made_there h (first_fetch actions) (publishes actions) there
new_there h Withheld actions there = tt
new_there h Canceled actions there = tt

set_there : (h : History) (b : Bool) (i : ℕ) (one : Effect) → IsThereIfMade h one → IsThereIfMade h (cond b one (Settled i))
set_there h true i one there = there
set_there h false i one there = tt

known_there : (h : History) (status : PubStatus) (come : Incoming) (i : ℕ) (o : Option Item) → IsThereIfMade h (effect_on status come i o)
known_there h status come i None = tt
known_there h Canceled come i (Some it) = set_there h (is_open it) i (Cancels i) tt
known_there h Usable come i (Some it) = set_there h (is_open it && is_newer come it) i (Replaces i) tt
known_there h Withheld come i (Some it) = set_there h (is_open it && is_newer come it) i (Replaces i) tt

pub effect_there : (h : History) → IsLegal h → (name : Bytes) (come : Incoming) (m : ℕ) → IsThereIfMade h (effect h name come m)
effect_there h legal name come m =
    let i : ℕ = known name come.identity ((made h).items) in
    let new : Effect = effect_of_new come.status (routed_from h (provider h name) come.story m) in
    let old : Effect = effect_on come.status come i (option_map (at_moment m (standing_first i (standing h))) (item h i)) in
    elim (i == 0) as (λ b. IsThereIfMade h (cond b new old)) [
      | true ↦ new_there h come.status (routed_from h (provider h name) come.story m) (by_provider h legal come.story m (provider h name))
      | false ↦ known_there h come.status come i (option_map (at_moment m (standing_first i (standing h))) (item h i))
    ]
