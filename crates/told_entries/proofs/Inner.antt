-- Stories, and the objects that stand in the lists of commands, are read back.
use Rattle.std.specs.Prelude.{◌≡◌, ℕ, suc, ◌≤◌, List, [], ◌∷◌, length, true, ◌&&◌, nat_le, Option, Some, None, Result, Ok}
use Rattle.std.specs.List.{AllByRecursion}
use Rattle.std.proofs.Common.{refl, ap, ◌∙◌, arith, le-leb}
use Rattle.std.proofs.lemmas.Bool.{cond-true}
use Rattle.serde_json.specs.Data as json
use Rattle.serde_json.specs.Data.{Data, Items, no_items, item, Members}
use Rattle.news_types.specs.declared.story.Story.{Story}
use Rattle.news_types.specs.declared.rules.Statement.{Statement}
use Rattle.news_types.specs.declared.rules.Place.{Place}
use Rattle.news_types.specs.declared.rules.Rule.{Rule}
use Rattle.news_types.specs.Conditions.{media_word}
use Rattle.news_types.specs.Fits.{FitsStory}
use Rattle.news_types.specs.FitsCommands.{FitsStatement, FitsRule}
use Rattle.entry_codec.specs.Formed.{IsFormedStatement, IsFormedPlace, IsFormedRule}
use Rattle.byte_formats.specs.Spelling.{IsOption}
use Rattle.desk_lines.specs.declared.property.LineProperty.{LineProperty}
use Rattle.desk_lines.specs.declared.property.LineProperty.TheVariants as the
use Rattle.desk_lines.specs.Properties.{property_word}
use Rattle.desk_lines.specs.Reading.{Says, then_read, or_bad, given_object, unless_null, read_each, each_given, count, all_objects}
use Rattle.desk_lines.specs.Forms.{among, text, name, whole, list, bits}
use Rattle.desk_lines.specs.Words.{media_words, day_bits}
use Rattle.desk_lines.specs.Objects.{story, statement, place, rule}
use Rattle.told_objects.specs.Members.{objects}
use Rattle.told_entries.specs.Members.{strings, bit_words, text_or_null, inner_or_null}
use Rattle.told_entries.specs.Objects.{story_members, statement_members, place_members, rule_members}
use Rattle.told_entries.proofs.Forms.{whole_back, text_back, name_back, given_name_back, names_back, days_back}
use Rattle.told_entries.proofs.Worded.{media_back}

-- one more property is read
pub then_ok : {A B : Type 0} (p : LineProperty) (found : Option A) (a : A) (next : A → Result B LineProperty) (b : B)
    → found ≡ Some a → next a ≡ Ok b → then_read (or_bad p found) next ≡ Ok b
then_ok p found a next b is rest = ap (λ o. then_read (or_bad p o) next) is ∙ rest

pub story_back : (s : Story) → FitsStory s → story (json.object (story_members s)) ≡ Ok s
unfolding story story_members property_word
story_back s fits =
    then_ok the.Kind (among media_words (media_word s.kind)) s.kind _ s (media_back s.kind)
    (then_ok the.Urgency (whole 9 (json.number (json.unsigned s.urgency))) s.urgency _ s (whole_back 9 s.urgency fits.urgency)
    (then_ok the.Slugline (text 500 (json.string s.slugline)) s.slugline _ s (text_back 500 s.slugline fits.slugline)
    (then_ok the.Headline (text 500 (json.string s.headline)) s.headline _ s (text_back 500 s.headline fits.headline)
    (then_ok the.Byline (text 500 (json.string s.byline)) s.byline _ s (text_back 500 s.byline fits.byline)
    (then_ok the.Language (text 35 (json.string s.language)) s.language _ s (text_back 35 s.language fits.language)
    (then_ok the.Category (text 3 (json.string s.category)) s.category _ s (text_back 3 s.category fits.category)
    (then_ok the.Body (text 524288 (json.string s.body)) s.body _ s (text_back 524288 s.body fits.body)
    (then_ok the.Copyright (text 500 (json.string s.copyright)) s.copyright _ s (text_back 500 s.copyright fits.copyright) refl))))))))

pub statement_back : (s : Statement) → FitsStatement s → IsFormedStatement s → statement (json.object (statement_members s)) ≡ Ok s
unfolding statement statement_members property_word
statement_back s fits formed =
    then_ok the.Conditions (list 16 name (json.array (strings s.conditions))) s.conditions _ s (names_back 16 s.conditions fits.conditions formed.conditions)
    (then_ok the.Filters (list 8 name (json.array (strings s.filters))) s.filters _ s (names_back 8 s.filters fits.filters formed.filters) refl)

pub place_back : (p : Place) → IsFormedPlace p → place (json.object (place_members p)) ≡ Ok p
unfolding place place_members property_word
place_back p formed =
    then_ok the.Desk (name (json.string p.desk)) p.desk _ p (name_back p.desk formed.desk)
    (then_ok the.Stage (name (json.string p.stage)) p.stage _ p (name_back p.stage formed.stage) refl)

fetch_back : (given : Option Place) → IsOption IsFormedPlace given → given_object the.Fetch place (Some (inner_or_null place_members given)) ≡ Ok given
fetch_back None formed = refl
fetch_back (Some p) formed = ap (λ r. then_read r (λ a. Ok (Some a))) (place_back p formed)

pub then_given : {A B : Type 0} (found : Result A LineProperty) (a : A) (next : A → Result B LineProperty) (b : B)
    → found ≡ Ok a → next a ≡ Ok b → then_read found next ≡ Ok b
then_given found a next b is rest = ap (λ r. then_read r next) is ∙ rest

pub rule_back : (r : Rule) → FitsRule r → IsFormedRule r → rule (json.object (rule_members r)) ≡ Ok r
unfolding rule rule_members property_word
rule_back r fits formed =
    then_given (or_bad the.Filter (unless_null name (text_or_null r.filter))) r.filter _ r (ap (or_bad the.Filter) (given_name_back r.filter formed.filter))
    (then_ok the.Days (bits day_bits (json.array (strings (bit_words day_bits r.days)))) r.days _ r (days_back r.days fits.days)
    (then_ok the.From (whole 4294967295 (json.number (json.unsigned r.from))) r.from _ r (whole_back 4294967295 r.from (omega (arith, formed.from)))
    (then_ok the.To (whole 4294967295 (json.number (json.unsigned r.to))) r.to _ r (whole_back 4294967295 r.to (omega (arith, formed.to)))
    (then_ok the.Zone (text 64 (json.string r.zone)) r.zone _ r (text_back 64 r.zone fits.zone)
    (then_given (given_object the.Fetch place (Some (inner_or_null place_members r.fetch))) r.fetch _ r (fetch_back r.fetch formed.fetch) refl)))))

-- ---- lists of objects

module _ {A : Type 0} (says : Says A) (members_of : A → Members) where
  count_objects : (xs : List A) → count (objects members_of xs) ≡ length xs
  count_objects [] = refl
  count_objects (x ∷ xs) = ap suc (count_objects xs)

  are_objects : (xs : List A) → all_objects (objects members_of xs) ≡ true
  are_objects [] = refl
  are_objects (x ∷ xs) = are_objects xs

  each_back : (xs : List A) → AllByRecursion (λ x. says (json.object (members_of x)) ≡ Ok x) xs → read_each says (objects members_of xs) ≡ Ok xs
  each_back [] h = refl
  each_back (x ∷ xs) h = rw (h.0, each_back xs h.1) refl

  pub objects_back : (p : LineProperty) (limit : ℕ) (xs : List A) → length xs ≤ limit → AllByRecursion (λ x. says (json.object (members_of x)) ≡ Ok x) xs
      → each_given p limit says (Some (json.array (objects members_of xs))) ≡ Ok xs
  objects_back p limit xs few h =
      let fits : (nat_le (count (objects members_of xs)) limit && all_objects (objects members_of xs)) ≡ true =
      rw (count_objects xs, le-leb (length xs) limit few) (are_objects xs) in
      cond-true _ _ _ fits ∙ each_back xs h
