-- What is written is read again.
use Rattle.std.specs.Prelude.{◌≡◌, ℕ, List, [], ◌∷◌, Bool, true, false, cond, ◌==◌, nat_le, nat_lt, min, max, zero, suc, codes, decimal, Option, Some, None, is_some, option_and_then, Result, Ok, Err, IfOk}
use Rattle.std.proofs.Common.{arith, ◌<◌, ◌≤◌, length, refl, sym, ap, ◌∙◌}
use Rattle.std.proofs.lemmas.Bool.{true≢false, le-leb, le-ltb}
use Rattle.std.proofs.Math.Dec.{eqb-suc-zero}
use Rattle.std.proofs.lemmas.Slice.Eq.{bytes_eq-Decides}
use Rattle.std.specs.Str.{bytes_eq}
use Rattle.std.specs.Ordering.{nat_cmp, match_ordering}
use Rattle.std.specs.Cmp.Lexicographic.{slice_cmp}
use Rattle.std.specs.declared.cmp.Ordering.{Ordering}
use Rattle.std.specs.declared.cmp.Ordering.TheVariants.{Less, Equal, Greater}
use Rattle.serde_json.specs.Data.{Data, unsigned, number, string, object, Members, no_members, member, put, depth, members_depth}
use Rattle.serde_json.specs.Find.{get_member, get}
use Rattle.serde_json.proofs.Views.{get_member-put, get_member-put_other}
use Rattle.news_types.specs.declared.query.Publication.{Publication}
use Rattle.news_types.specs.declared.words.Media.{Media}
use Rattle.news_types.specs.declared.words.Media.TheVariants.{Text, Audio, Video, Picture, Graphic, Composite}
use Rattle.news_types.specs.declared.words.Kind.{Kind}
use Rattle.news_types.specs.declared.words.Kind.TheVariants.{First, Correct, Kill, Recall}
use Rattle.news_types.specs.Names.{Bytes}
use Rattle.news_types.specs.Conditions.{media_word}
use Rattle.release_rules.specs.Civil.{last_moment}
use Rattle.release_rules.specs.Reader.{moment_of}
use Rattle.release_rules.specs.Writer.{moment_text}
use Rattle.news_types.specs.Fits.{FitsStory}
use Rattle.ninjs_text.specs.declared.fault.Property.{Property}
use Rattle.ninjs_text.specs.declared.fault.Property.TheVariants as property_is
use Rattle.ninjs_text.specs.declared.fault.NinjsFault.{NinjsFault}
use Rattle.ninjs_text.specs.declared.reading.Body.{Body}
use Rattle.ninjs_text.specs.Reading.{then_read, json_of}
use Rattle.ninjs_text.specs.Words.{media_of, status_of, status_word}
use Rattle.ninjs_text.specs.Properties.{property, property_name, unless_null, word_of, short_text_of, moment_of_data, urgency_of}
use Rattle.ninjs_text.specs.Item.{uri_in, or_empty, lines, story, item, ninjs}
use Rattle.ninjs_text.specs.Writing.{put_text, put_filled, put_urgency, put_version, body_key, members}
use Rattle.ninjs_text.specs.Told.{told, told_status}

-- ---- members as a list of keys, each with its value if it has one

abbrev Pairs : Type 0
Pairs = List (List ℕ × Option Data)

abbrev put_some : List ℕ → Option Data → Members → Members
put_some k None ms = ms
put_some k (Some d) ms = put k d ms

abbrev built : Pairs → Members
built [] = no_members
built (p ∷ ps) = put_some p.0 p.1 (built ps)

abbrev or_else : Option Data → Option Data → Option Data
or_else None rest = rest
or_else (Some d) rest = Some d

abbrev found : List ℕ → Pairs → Option Data
found q [] = None
found q (p ∷ ps) = cond (bytes_eq q p.0) (or_else p.1 (found q ps)) (found q ps)

get_put : (q k : List ℕ) (v : Option Data) (ms : Members) (same : Bool) → bytes_eq q k ≡ same → get_member q (put_some k v ms) ≡ cond same (or_else v (get_member q ms)) (get_member q ms)
get_put q k None ms true e = refl
get_put q k None ms false e = refl
get_put q k (Some d) ms true e =
    ap (λ key. get_member key (put k d ms)) ((bytes_eq-Decides q k).0 e) ∙ get_member-put k d ms
get_put q k (Some d) ms false e = get_member-put_other q k d ms (λ is. true≢false (sym ((bytes_eq-Decides q k).1 is) ∙ e))

get_built : (q : List ℕ) (ps : Pairs) → get_member q (built ps) ≡ found q ps
get_built q [] = refl
get_built q (p ∷ ps) = get_put q p.0 p.1 (built ps) (bytes_eq q p.0) refl ∙ ap (λ rest. cond (bytes_eq q p.0) (or_else p.1 rest) rest) (get_built q ps)

-- ---- the members of an item

abbrev filled : List ℕ → Option Data
filled b = cond (length b == 0) None (Some (string b))

abbrev level : ℕ → Option Data
level n = cond (n == 0) None (Some (number (unsigned n)))

abbrev if_html : Bool → List ℕ → Option Data
if_html html b = cond html (Some (string b)) None

abbrev if_text : Bool → List ℕ → Option Data
if_text html b = cond html None (Some (string b))

abbrev pairs : Publication → Bytes → Pairs
pairs p named =
    (codes "versioncreated", Some (string (moment_text p.release))) ∷
    (codes "version", Some (string (decimal p.version))) ∷
    (codes "uri", Some (string named)) ∷
    (codes "urgency", level p.story.urgency) ∷
    (codes "type", Some (string (media_word p.story.kind))) ∷
    (codes "slugline", filled p.story.slugline) ∷
    (codes "pubstatus", Some (string (status_word p.kind))) ∷
    (codes "language", filled p.story.language) ∷
    (codes "headline", filled p.story.headline) ∷
    (codes "copyrightholder", filled p.story.copyright) ∷
    (codes "byline", filled p.story.byline) ∷
    (codes "body_html", if_html p.story.html p.story.body) ∷
    (codes "body_text", if_text p.story.html p.story.body) ∷ []

cond_put : (b : Bool) (k : List ℕ) (d : Data) (ms : Members) → cond b ms (put k d ms) ≡ put_some k (cond b None (Some d)) ms
cond_put true k d ms = refl
cond_put false k d ms = refl

body_built : (html : Bool) (b : List ℕ) → put_text (body_key html) b no_members ≡ built ((codes "body_html", if_html html b) ∷ (codes "body_text", if_text html b) ∷ [])
body_built true b = refl
body_built false b = refl

members_built : (p : Publication) (named : Bytes) → members p named ≡ built (pairs p named)
members_built p named =
    let byline = ap (put_filled (codes "byline") p.story.byline) (body_built p.story.html p.story.body) ∙ cond_put (length p.story.byline == 0) (codes "byline") (string p.story.byline) _ in
    let copyright = ap (put_filled (codes "copyrightholder") p.story.copyright) byline ∙ cond_put (length p.story.copyright == 0) (codes "copyrightholder") (string p.story.copyright) _ in
    let headline = ap (put_filled (codes "headline") p.story.headline) copyright ∙ cond_put (length p.story.headline == 0) (codes "headline") (string p.story.headline) _ in
    let language = ap (put_filled (codes "language") p.story.language) headline ∙ cond_put (length p.story.language == 0) (codes "language") (string p.story.language) _ in
    let status = ap (put_text (codes "pubstatus") (status_word p.kind)) language in
    let slugline = ap (put_filled (codes "slugline") p.story.slugline) status ∙ cond_put (length p.story.slugline == 0) (codes "slugline") (string p.story.slugline) _ in
    let media = ap (put_text (codes "type") (media_word p.story.kind)) slugline in
    let urgent = ap (put_urgency p.story.urgency) media ∙ cond_put (p.story.urgency == 0) (codes "urgency") (number (unsigned p.story.urgency)) _ in
    ap (λ ms. put_text (codes "versioncreated") (moment_text p.release) (put_version p.version (put_text (codes "uri") named ms))) urgent

get_item : (q : List ℕ) (p : Publication) (named : Bytes) → get q (object (members p named)) ≡ found q (pairs p named)
get_item q p named = ap (get_member q) (members_built p named) ∙ get_built q (pairs p named)

-- ---- each property

then_ok : {A B : Type 0} (r : Result A NinjsFault) (a : A) (next : A → Result B NinjsFault) (b : Result B NinjsFault) → r ≡ Ok a → next a ≡ b → then_read r next ≡ b
then_ok r a next b e f = ap (λ x. then_read x next) e ∙ f

is_short : (n limit : ℕ) → n ≤ limit → nat_le n limit ≡ true
is_short n limit h = le-leb n limit h

abbrev text_by : ℕ → Property → Option Data → Result Bytes NinjsFault
text_by limit p o = then_read (short_text_of limit p o) or_empty

abbrev uri_by : Option Data → Result Bytes NinjsFault
uri_by o = then_read (short_text_of 256 property_is.Uri o) uri_in

abbrev body_as : Property → Bool → Option Data → Result Body NinjsFault
body_as p html o = then_read (text_by 524288 p o) (λ bytes. Ok (record { text = bytes; html = html }))

abbrev body_by : Option Data → Option Data → Result Body NinjsFault
body_by plain html = cond (is_some plain) (body_as property_is.BodyText false plain) (body_as property_is.BodyHtml (is_some html) html)

read_text : (limit : ℕ) (p : Property) (b : List ℕ) → length b ≤ limit → text_by limit p (Some (string b)) ≡ Ok b
read_text limit p b short = rw (is_short (length b) limit short) refl

read_filled : (limit : ℕ) (p : Property) (b : List ℕ) → length b ≤ limit → text_by limit p (option_and_then unless_null (or_else (filled b) None)) ≡ Ok b
read_filled limit p [] short = refl
read_filled limit p (x ∷ b) short = rw (eqb-suc-zero (length b)) (read_text limit p (x ∷ b) short)

read_uri : (b : List ℕ) → 0 < length b → length b ≤ 256 → uri_by (Some (string b)) ≡ Ok b
read_uri [] some short = absurd (omega arith)
read_uri (x ∷ b) some short = rw (is_short (length (x ∷ b)) 256 short, eqb-suc-zero (length b)) refl

read_level : (n : ℕ) → n ≤ 9 → urgency_of (option_and_then unless_null (or_else (level n) None)) ≡ Ok n
read_level n few = by_number n few
  where
    by_number : (n : ℕ) → n ≤ 9 → urgency_of (option_and_then unless_null (or_else (level n) None)) ≡ Ok n
    by_number zero few = refl
    by_number (suc n) few = rw (eqb-suc-zero n, is_short (suc n) 9 few) refl

read_media : (media : Media) → media_of (media_word media) ≡ media
read_media Text = refl
read_media Audio = refl
read_media Video = refl
read_media Picture = refl
read_media Graphic = refl
read_media Composite = refl

read_status : (kind : Kind) → status_of (status_word kind) ≡ told_status kind
read_status First = refl
read_status Correct = refl
read_status Kill = refl
read_status Recall = refl

read_moment : (p : Property) (m : ℕ) → moment_of (moment_text m) ≡ Some (min m last_moment) → moment_of_data p (Some (string (moment_text m))) ≡ Ok (min m last_moment)
read_moment p m e = rw e refl

read_body : (html : Bool) (b : List ℕ) → length b ≤ 524288
    → body_by (option_and_then unless_null (or_else (if_text html b) None)) (option_and_then unless_null (or_else (if_html html b) None)) ≡ Ok (record { text = b; html = html })
read_body true b short = rw (is_short (length b) 524288 short) refl
read_body false b short = rw (is_short (length b) 524288 short) refl

-- the value of a property of the item that is written
at : (p : Publication) (named : Bytes) (key : Property) → property key (object (members p named)) ≡ option_and_then unless_null (found (property_name key) (pairs p named))
at p named key = ap (option_and_then unless_null) (get_item (property_name key) p named)

lines_told : (p : Publication) (named : Bytes) → FitsStory p.story
    → lines (object (members p named)) ≡ Ok (record { headline = p.story.headline; byline = p.story.byline; slugline = p.story.slugline; language = p.story.language; copyright = p.story.copyright })
lines_told p named fits =
    then_ok _ p.story.headline _ _ (ap (text_by 500 property_is.Headline) (at p named property_is.Headline) ∙ read_filled 500 property_is.Headline p.story.headline fits.headline) (
    then_ok _ p.story.byline _ _ (ap (text_by 500 property_is.Byline) (at p named property_is.Byline) ∙ read_filled 500 property_is.Byline p.story.byline fits.byline) (
    then_ok _ p.story.slugline _ _ (ap (text_by 500 property_is.Slugline) (at p named property_is.Slugline) ∙ read_filled 500 property_is.Slugline p.story.slugline fits.slugline) (
    then_ok _ p.story.language _ _ (ap (text_by 35 property_is.Language) (at p named property_is.Language) ∙ read_filled 35 property_is.Language p.story.language fits.language) (
    then_ok _ p.story.copyright _ _ (ap (text_by 500 property_is.CopyrightHolder) (at p named property_is.CopyrightHolder) ∙ read_filled 500 property_is.CopyrightHolder p.story.copyright fits.copyright) refl))))

story_told : (p : Publication) (named : Bytes) → FitsStory p.story
    → story (media_of (media_word p.story.kind)) (object (members p named)) ≡ Ok (told p named).story
story_told p named fits =
    then_ok _ p.story.urgency _ _ (ap urgency_of (at p named property_is.Urgency) ∙ read_level p.story.urgency fits.urgency) (
    then_ok _ _ _ _ (lines_told p named fits) (
    then_ok _ (record { text = p.story.body; html = p.story.html }) _ _ ((λ i. body_by (at p named property_is.BodyText i) (at p named property_is.BodyHtml i)) ∙ read_body p.story.html p.story.body fits.body) (
    λ i. Ok (record (told p named).story { kind = read_media p.story.kind i }))))

-- the item that is written is the publication that is told
pub item_told : (p : Publication) (named : Bytes) → FitsStory p.story → 0 < length named → length named ≤ 256
    → moment_of (moment_text p.release) ≡ Some (min p.release last_moment) → item (object (members p named)) ≡ Ok (told p named)
item_told p named fits some short moment =
    then_ok _ named _ _ (ap uri_by (at p named property_is.Uri) ∙ read_uri named some short) (
    then_ok _ (media_word p.story.kind) _ _ (ap (word_of property_is.MediaType) (at p named property_is.MediaType)) (
    then_ok _ (status_word p.kind) _ _ (ap (word_of property_is.PubStatus) (at p named property_is.PubStatus)) (
    then_ok _ (min p.release last_moment) _ _ (ap (moment_of_data property_is.VersionCreated) (at p named property_is.VersionCreated) ∙ read_moment property_is.VersionCreated p.release moment) (
    then_ok {A = ℕ} _ 0 _ _ (ap (moment_of_data property_is.Embargoed) (at p named property_is.Embargoed)) (
    then_ok _ (told p named).story _ _ (story_told p named fits) (
    λ i. Ok (record (told p named) { status = read_status p.kind i })))))))

-- ---- how deep it nests

chosen_flat : (o : Ordering) (x y z : Members) → members_depth x ≡ 0 → members_depth y ≡ 0 → members_depth z ≡ 0 → members_depth (match_ordering o x y z) ≡ 0
chosen_flat Less x y z a b c = a
chosen_flat Equal x y z a b c = b
chosen_flat Greater x y z a b c = c

both_flat : (m n : ℕ) → m ≡ 0 → n ≡ 0 → max m n ≡ 0
both_flat m n e f = omega arith

parts_flat : (m n : ℕ) → max m n ≡ 0 → (m ≡ 0) × (n ≡ 0)
parts_flat m n e = (omega arith, omega arith)

put_flat : (k : List ℕ) (d : Data) (ms : Members) → depth d ≡ 0 → members_depth ms ≡ 0 → members_depth (put k d ms) ≡ 0
put_flat k d no_members flat none = both_flat (depth d) 0 flat refl
put_flat k d (member l e ms) flat none =
    let parts = parts_flat (depth e) (members_depth ms) none in
    chosen_flat (slice_cmp nat_cmp k l) _ _ _
    (both_flat (depth d) _ flat none)
    (both_flat (depth d) (members_depth ms) flat parts.1)
    (both_flat (depth e) (members_depth (put k d ms)) parts.0 (put_flat k d ms flat parts.1))

abbrev IsFlat : Option Data → Type 0
IsFlat None = Unit {0}
IsFlat (Some d) = depth d ≡ 0

abbrev AreFlat : Pairs → Type 0
AreFlat [] = Unit {0}
AreFlat (p ∷ ps) = IsFlat p.1 × AreFlat ps

some_flat : (k : List ℕ) (v : Option Data) (ms : Members) → IsFlat v → members_depth ms ≡ 0 → members_depth (put_some k v ms) ≡ 0
some_flat k None ms flat none = none
some_flat k (Some d) ms flat none = put_flat k d ms flat none

built_flat : (ps : Pairs) → AreFlat ps → members_depth (built ps) ≡ 0
built_flat [] flat = refl
built_flat (p ∷ ps) flat = some_flat p.0 p.1 (built ps) flat.0 (built_flat ps flat.1)

cond_flat : (b : Bool) (d : Data) → depth d ≡ 0 → IsFlat (cond b None (Some d))
cond_flat true d flat = cc
cond_flat false d flat = flat

html_flat : (html : Bool) (b : List ℕ) → IsFlat (if_html html b)
html_flat true b = refl
html_flat false b = cc

pub item_flat : (p : Publication) (named : Bytes) → depth (object (members p named)) ≡ 1
item_flat p named =
    let text = λ (b : List ℕ). cond_flat (length b == 0) (string b) refl in
    ap (λ ms. depth (object ms)) (members_built p named)
    ∙ ap suc (built_flat (pairs p named) (refl, (refl, (refl, (cond_flat (p.story.urgency == 0) (number (unsigned p.story.urgency)) refl, (refl, (text p.story.slugline, (refl, (text p.story.language, (text p.story.headline, (text p.story.copyright, (text p.story.byline, (html_flat p.story.html p.story.body, (cond_flat p.story.html (string p.story.body) refl, cc))))))))))))))

-- ---- the bytes

pub bytes_told : (p : Publication) (named bytes : List ℕ) → FitsStory p.story → 0 < length named → length named ≤ 256
    → moment_of (moment_text p.release) ≡ Some (min p.release last_moment) → length bytes ≤ 4_194_240 → json_of bytes ≡ Some (object (members p named)) → ninjs bytes ≡ Ok (told p named)
bytes_told p named bytes fits some short moment few json =
    rw (not_more (length bytes) few, json) (item_told p named fits some short moment)
  where
    not_more : (n : ℕ) → n ≤ 4_194_240 → nat_lt 4_194_304 n ≡ false
    not_more n h = le-ltb 4_194_304 n (omega arith)

pub with_both : {X Y : Type 0} (r : Result X Y) (P Q R : X → Type 0) → ((x : X) → P x → Q x → R x) → IfOk r P → IfOk r Q → IfOk r R
with_both (Ok x) P Q R f p q = f x p q
with_both (Err y) P Q R f p q = cc
