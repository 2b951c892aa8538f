-- What the items of a legal list are by all of its entries.
use Rattle.std.proofs.Common.{◌≡◌, ◌==◌, ℕ, ◌+◌, ◌-◌, inl, inr, Bool, true, false, ◌&&◌, ◌||◌, cond, Option, Some, None, List, [], ◌∷◌, ◌++◌, length, refl, sym, ap, ◌∙◌, subst, arith}
use Rattle.std.specs.Prelude.{slice_get, is_some, unwrap_or}
use Rattle.std.specs.Option.{option_map}
use mathlib.Core.Bool.{true≢false}
use Rattle.news_types.specs.declared.entry.Entry.{Entry}
use Rattle.news_types.specs.declared.story.Story.{Story}
use Rattle.news_types.specs.Names.{Bytes, same}
use Rattle.news_types.specs.History.{History}
use Rattle.news_types.specs.Items.{Item, item_numbered, changed, is_from}
use Rattle.news_types.specs.Publications.{made, item}
use Rattle.news_types.specs.Legal.{IsLegal}
use Rattle.news_types.proofs.Firsts.{numbered_hit, numbered_miss, numbered_new, numbered_old, numbered_past}
use Rattle.news_types.proofs.Bounds.{changed_length, pushed_length}
use Rattle.world_laws.specs.Facts.{is_ingest_of, has_come, items_made, makes, came_from, versions_added, story_of, newest_story, ItemsAreCounted, VersionsAreCounted, StoriesAreNewest}
use Rattle.world_laws.proofs.Items.{is_number, number_is, not_number, and_true, or_right, and_false, is_false, is_of, of_none, MakesOne, ChangesOne, Step, Origins, has_of, act_step}

abbrev VersionIs : Option Item → ℕ → Type 0
VersionIs None n = n ≡ 0
VersionIs (Some it) n = it.version ≡ 1 + n

abbrev story_in : Option Item → Option Story
story_in o = option_map (λ (it : Item). it.story) o

record ItemsAre (h : History) : Type 0 where
  pub count : length (made h).items ≡ items_made h
  pub origins : Origins h
  pub versions : (i : ℕ) → VersionIs (item h i) (versions_added i h)
  pub stories : (i : ℕ) → story_in (item h i) ≡ newest_story i h

-- an entry that makes an item
module _ (e : Entry) (h : History) (are : ItemsAre h) (one : MakesOne h e.act (made h).items (made (e ∷ h)).items) where
  at : (i : ℕ) → makes i e.act h ≡ (i == items_made h + 1)
  at i = ap (λ (b : Bool). b && i == items_made h + 1) one.is_making

  -- the item of the next number is the new one, and the others are as before
  new_at : item (e ∷ h) (items_made h + 1) ≡ Some one.item
  new_at = ap (λ (l : List Item). item_numbered l (items_made h + 1)) one.is ∙ ap (λ (n : ℕ). item_numbered ((made h).items ++ one.item ∷ []) (n + 1)) (sym are.count) ∙ numbered_new one.item (made h).items

  none_at : item h (items_made h + 1) ≡ None
  none_at = ap (λ (n : ℕ). item h (n + 1)) (sym are.count) ∙ numbered_past (made h).items

  old_at : (i : ℕ) → (i == items_made h + 1) ≡ false → item (e ∷ h) i ≡ item h i
  old_at i other =
      ap (λ (l : List Item). item_numbered l i) one.is
      ∙ numbered_old i one.item (made h).items (λ same. not_number i (items_made h + 1) other (sym (sym (ap (λ (n : ℕ). n + 1) are.count) ∙ same)))

  made_count : length (made (e ∷ h)).items ≡ items_made (e ∷ h)
  made_count = ap length one.is ∙ pushed_length (made h).items one.item ∙ rw one.is_making (let few = are.count in omega (arith, few))

  made_origin : (p d : Bytes) (i : ℕ) → is_of p d (item (e ∷ h) i) ≡ came_from p d i (e ∷ h)
  made_origin p d i =
      elim (i == items_made h + 1) as (λ b. (i == items_made h + 1) ≡ b → is_of p d (item (e ∷ h) i) ≡ came_from p d i (e ∷ h)) [
        | true ↦ λ here. rw (at i, here) (ap (λ (j : ℕ). is_of p d (item (e ∷ h) j)) (is_number i (items_made h + 1) here) ∙ ap (is_of p d) new_at ∙ one.origin p d)
        | false ↦ λ other. rw (at i, other) (ap (is_of p d) (old_at i other) ∙ are.origins.origin p d i)
      ] refl

  made_versions : (i : ℕ) → VersionIs (item (e ∷ h) i) (versions_added i (e ∷ h))
  made_versions i =
      rw (one.adds i)
      (elim (i == items_made h + 1) as (λ b. (i == items_made h + 1) ≡ b → VersionIs (item (e ∷ h) i) (versions_added i h)) [
        | true ↦ λ here.
            let same = is_number i (items_made h + 1) here in
            let none : versions_added i h ≡ 0 = subst (λ (o : Option Item). VersionIs o (versions_added i h)) (ap (item h) same ∙ none_at) (are.versions i) in
            subst (λ (o : Option Item). VersionIs o (versions_added i h)) (sym (ap (item (e ∷ h)) same ∙ new_at)) (omega (arith, one.version, none))
        | false ↦ λ other. subst (λ (o : Option Item). VersionIs o (versions_added i h)) (sym (old_at i other)) (are.versions i)
      ] refl)

  made_stories : (i : ℕ) → story_in (item (e ∷ h) i) ≡ newest_story i (e ∷ h)
  made_stories i =
      elim (i == items_made h + 1) as (λ b. (i == items_made h + 1) ≡ b → story_in (item (e ∷ h) i) ≡ newest_story i (e ∷ h)) [
        | true ↦ λ here. rw (one.gives i, at i, here) (ap (λ (j : ℕ). story_in (item (e ∷ h) j)) (is_number i (items_made h + 1) here) ∙ ap story_in new_at ∙ sym one.story)
        | false ↦ λ other. rw (one.gives i, at i, other) (ap story_in (old_at i other) ∙ are.stories i)
      ] refl

  -- who came before is not the new item
  not_new : (p d : Bytes) (i : ℕ) → came_from p d i h ≡ true → (i == items_made h + 1) ≡ false
  not_new p d i came = is_false (i == items_made h + 1) (λ here.
      true≢false (sym came ∙ sym (are.origins.origin p d i) ∙ ap (is_of p d) (ap (item h) (is_number i (items_made h + 1) here) ∙ none_at)))

  made_come : (p d : Bytes) → has_come p d (e ∷ h) ≡ true → (i : ℕ) × (came_from p d i (e ∷ h) ≡ true)
  made_come p d has =
      elim (is_ingest_of p d e.act) as (λ b. is_ingest_of p d e.act ≡ b → (b || has_come p d h) ≡ true → (i : ℕ) × (came_from p d i (e ∷ h) ≡ true)) [
        | true ↦ λ new y. (items_made h + 1, rw (at (items_made h + 1), number_is (items_made h + 1) (items_made h + 1) refl) new)
        | false ↦ λ other y. let old = are.origins.come p d y in (old.0, rw (at old.0, not_new p d old.0 old.1) old.1)
      ] refl has

  made_one : (p d : Bytes) (i j : ℕ) → came_from p d i (e ∷ h) ≡ true → came_from p d j (e ∷ h) ≡ true → i ≡ j
  made_one p d i j first second = by (i == items_made h + 1) (j == items_made h + 1) refl refl (rw (at i) at first) (rw (at j) at second)
    where
      clash : (k : ℕ) → is_ingest_of p d e.act ≡ true → came_from p d k h ≡ true → i ≡ j
      clash k new old = absurd (true≢false (sym (has_of p d k h old) ∙ one.first p d new))

      by : (b c : Bool) → (i == items_made h + 1) ≡ b → (j == items_made h + 1) ≡ c → cond b (is_ingest_of p d e.act) (came_from p d i h) ≡ true → cond c (is_ingest_of p d e.act) (came_from p d j h) ≡ true → i ≡ j
      by true true here there x y = is_number i (items_made h + 1) here ∙ sym (is_number j (items_made h + 1) there)
      by true false here there x y = clash j x y
      by false true here there x y = clash i y x
      by false false here there x y = are.origins.one p d i j x y

  made_items : ItemsAre (e ∷ h)
  made_items = record { count = made_count; origins = record { origin = made_origin; come = made_come; one = made_one }; versions = made_versions; stories = made_stories }

-- an entry that changes an item
version_by : (o : Option Item) (raises : Bool) (change : Item → Item) (n : ℕ) → ((it : Item) → (change it).version ≡ cond raises (it.version + 1) it.version) → (raises ≡ true → is_some o ≡ true)
    → VersionIs o n → VersionIs (option_map change o) (cond raises (n + 1) n)
version_by None true change n is there old = absurd (true≢false (sym (there refl)))
version_by None false change n is there old = old
version_by (Some it) true change n is there old = let new = is it in omega (arith, new, old)
version_by (Some it) false change n is there old = let new = is it in omega (arith, new, old)

story_by : (o : Option Item) (given : Option Story) (change : Item → Item) (rest : Option Story) → ((it : Item) → (change it).story ≡ unwrap_or given it.story) → (is_some given ≡ true → is_some o ≡ true)
    → story_in o ≡ rest → story_in (option_map change o) ≡ cond (is_some given) given rest
story_by None (Some s) change rest is there old = absurd (true≢false (sym (there refl)))
story_by None None change rest is there old = old
story_by (Some it) (Some s) change rest is there old = ap Some (is it)
story_by (Some it) None change rest is there old = ap Some (is it) ∙ old

module _ (e : Entry) (h : History) (are : ItemsAre h) (one : ChangesOne h e.act (made h).items (made (e ∷ h)).items) where
  hit_at : (i : ℕ) → i ≡ one.which → item (e ∷ h) i ≡ option_map one.change (item h i)
  hit_at i same =
      ap (λ (l : List Item). item_numbered l i) one.is ∙ ap (λ (j : ℕ). item_numbered (changed one.which one.change (made h).items) j) same ∙ numbered_hit one.which one.change (made h).items
      ∙ ap (λ (j : ℕ). option_map one.change (item h j)) (sym same)

  miss_at : (i : ℕ) → (i == one.which) ≡ false → item (e ∷ h) i ≡ item h i
  miss_at i other = ap (λ (l : List Item). item_numbered l i) one.is ∙ numbered_miss one.which i one.change (made h).items (λ same. not_number i one.which other (sym same))

  came_at : (p d : Bytes) (i : ℕ) → came_from p d i (e ∷ h) ≡ came_from p d i h
  came_at p d i = rw one.is_making refl

  changed_count : length (made (e ∷ h)).items ≡ items_made (e ∷ h)
  changed_count = ap length one.is ∙ changed_length one.which one.change (made h).items ∙ rw one.is_making are.count

  changed_origin : (p d : Bytes) (i : ℕ) → is_of p d (item (e ∷ h) i) ≡ came_from p d i (e ∷ h)
  changed_origin p d i =
      elim (i == one.which) as (λ b. (i == one.which) ≡ b → is_of p d (item (e ∷ h) i) ≡ came_from p d i h) [
        | true ↦ λ here. let same = is_number i one.which here in ap (is_of p d) (hit_at i same) ∙ kept (item h i) (λ it there. one.origin it (sym (ap (item h) same) ∙ there)) ∙ are.origins.origin p d i
        | false ↦ λ other. ap (is_of p d) (miss_at i other) ∙ are.origins.origin p d i
      ] refl ∙ sym (came_at p d i)
    where
      kept : (o : Option Item) → ((it : Item) → o ≡ Some it → (p d : Bytes) → is_from p d (one.change it).origin ≡ is_from p d it.origin) → is_of p d (option_map one.change o) ≡ is_of p d o
      kept None is = refl
      kept (Some it) is = is it refl p d

  changed_come : (p d : Bytes) → has_come p d (e ∷ h) ≡ true → (i : ℕ) × (came_from p d i (e ∷ h) ≡ true)
  changed_come p d has =
      let old : (i : ℕ) × (came_from p d i h ≡ true) =
      elim (is_ingest_of p d e.act) as (λ b. is_ingest_of p d e.act ≡ b → (b || has_come p d h) ≡ true → (i : ℕ) × (came_from p d i h ≡ true)) [
        | true ↦ λ new y. one.known p d new
        | false ↦ λ other y. are.origins.come p d y
      ] refl has in
      (old.0, came_at p d old.0 ∙ old.1)

  changed_one : (p d : Bytes) (i j : ℕ) → came_from p d i (e ∷ h) ≡ true → came_from p d j (e ∷ h) ≡ true → i ≡ j
  changed_one p d i j first second = are.origins.one p d i j (sym (came_at p d i) ∙ first) (sym (came_at p d j) ∙ second)

  there_at : (i : ℕ) → i ≡ one.which → (one.raises || is_some one.given) ≡ true → is_some (item h i) ≡ true
  there_at i same some = ap (λ (j : ℕ). is_some (item h j)) same ∙ one.there some

  changed_versions : (i : ℕ) → VersionIs (item (e ∷ h) i) (versions_added i (e ∷ h))
  changed_versions i =
      rw (one.adds i)
      (elim (i == one.which) as (λ b. (i == one.which) ≡ b → VersionIs (item (e ∷ h) i) (cond (one.raises && b) (versions_added i h + 1) (versions_added i h))) [
        | true ↦ λ here.
            let same = is_number i one.which here in
            subst (λ (o : Option Item). VersionIs o (cond (one.raises && true) (versions_added i h + 1) (versions_added i h))) (sym (hit_at i same))
            (subst (λ (b : Bool). VersionIs (option_map one.change (item h i)) (cond b (versions_added i h + 1) (versions_added i h))) (sym (and_true one.raises))
            (version_by (item h i) one.raises one.change (versions_added i h) one.version (λ some. there_at i same (ap (λ (b : Bool). b || is_some one.given) some)) (are.versions i)))
        | false ↦ λ other.
            subst (λ (o : Option Item). VersionIs o (cond (one.raises && false) (versions_added i h + 1) (versions_added i h))) (sym (miss_at i other))
            (subst (λ (b : Bool). VersionIs (item h i) (cond b (versions_added i h + 1) (versions_added i h))) (sym (and_false one.raises)) (are.versions i))
      ] refl)

  changed_stories : (i : ℕ) → story_in (item (e ∷ h) i) ≡ newest_story i (e ∷ h)
  changed_stories i =
      rw (one.gives i)
      (elim (i == one.which) as (λ b. (i == one.which) ≡ b → story_in (item (e ∷ h) i) ≡ cond (is_some one.given && b) (story_of e.act) (newest_story i h)) [
        | true ↦ λ here.
            let same = is_number i one.which here in
            ap story_in (hit_at i same)
            ∙ story_by (item h i) one.given one.change (newest_story i h) one.story (λ some. there_at i same (or_right one.raises (is_some one.given) some)) (are.stories i)
            ∙ told (is_some one.given) refl
        | false ↦ λ other. ap story_in (miss_at i other) ∙ are.stories i ∙ ap (λ (b : Bool). cond b (story_of e.act) (newest_story i h)) (sym (and_false (is_some one.given)))
      ] refl)
    where
      told : (b : Bool) → is_some one.given ≡ b → cond b one.given (newest_story i h) ≡ cond (b && true) (story_of e.act) (newest_story i h)
      told true some = sym (one.tells some)
      told false none = refl

  changed_items : ItemsAre (e ∷ h)
  changed_items = record { count = changed_count; origins = record { origin = changed_origin; come = changed_come; one = changed_one }; versions = changed_versions; stories = changed_stories }

items_are : (h : History) → IsLegal h → ItemsAre h
items_are [] legal = record {
  count = refl;
  origins = record { origin = λ p d i. of_none p d [] i refl; come = λ p d is. absurd (true≢false (sym is)); one = λ p d i j is. absurd (true≢false (sym is)) };
  versions = λ i. none_at_all i;
  stories = λ i. ap story_in (no_item i);
}
  where
    no_item : (i : ℕ) → item [] i ≡ None
    no_item i = elim (i == 0) as (λ b. cond {A = Option Item} b None (slice_get [] (i - 1)) ≡ None) [ true ↦ refl | false ↦ refl ]

    none_at_all : (i : ℕ) → VersionIs (item [] i) 0
    none_at_all i = subst (λ (o : Option Item). VersionIs o 0) (sym (no_item i)) refl
items_are (e ∷ h) legal = let before = items_are h legal.0 in by before (act_step h e.moment e.act before.origins legal.2)
  where
    by : ItemsAre h → Step h e.act (made h).items (made (e ∷ h)).items → ItemsAre (e ∷ h)
    by before (inl one) = made_items e h before one
    by before (inr one) = changed_items e h before one

pub items_are_counted : ItemsAreCounted
items_are_counted h legal = (items_are h legal).count

pub versions_are_counted : VersionsAreCounted
versions_are_counted h legal i it is = subst (λ (o : Option Item). VersionIs o (versions_added i h)) is ((items_are h legal).versions i)

pub stories_are_newest : StoriesAreNewest
stories_are_newest h legal = (items_are h legal).stories
