-- How long a written item is.
use Rattle.std.specs.Prelude.{◌≡◌, ℕ, List, [], ◌∷◌, ◌++◌, Bool, true, false, cond, ◌==◌, nat_lt, decimal, codes}
use Rattle.std.specs.Ordering.{nat_cmp, match_ordering}
use Rattle.std.specs.Cmp.Lexicographic.{slice_cmp}
use Rattle.std.specs.declared.cmp.Ordering.{Ordering}
use Rattle.std.specs.declared.cmp.Ordering.TheVariants.{Less, Equal, Greater}
use Rattle.std.proofs.Common.{arith, ◌+◌, ◌*◌, ◌<◌, ◌≤◌, ◌^◌, length, refl}
use Rattle.std.proofs.lemmas.Fmt.{length-decimal-le}
use Rattle.std.proofs.lemmas.List.{length-append}
use Rattle.json.specs.Print.{escape_byte, escape_letter, escape, quoted}
use Rattle.serde_json.specs.Data.{Data, unsigned, number, string, Members, no_members, member, put}
use Rattle.serde_json.specs.Written.{compact_text, members_text}
use Rattle.news_types.specs.declared.query.Publication.{Publication}
use Rattle.news_types.specs.declared.words.Media.{Media}
use Rattle.news_types.specs.declared.words.Media.TheVariants.{Text, Audio, Video, Picture, Graphic, Composite}
use Rattle.news_types.specs.declared.words.Kind.{Kind}
use Rattle.news_types.specs.declared.words.Kind.TheVariants.{First, Correct, Kill, Recall}
use Rattle.news_types.specs.Names.{Bytes}
use Rattle.news_types.specs.Conditions.{media_word}
use Rattle.release_rules.specs.Writer.{moment_text}
use Rattle.news_types.specs.Fits.{FitsStory}
use Rattle.ninjs_text.specs.Words.{status_word}
use Rattle.ninjs_text.specs.Writing.{put_text, put_filled, put_urgency, put_version, body_key, members, item_bytes}

-- ---- texts in quotes

cond_most : (b : Bool) (xs ys : List ℕ) (n : ℕ) → length xs ≤ n → length ys ≤ n → length (cond b xs ys) ≤ n
cond_most true xs ys n x y = x
cond_most false xs ys n x y = y

byte_most : (x : ℕ) → length (escape_byte x) ≤ 6
unfolding escape_byte
byte_most x = cond_most (nat_lt 0 (escape_letter x)) _ _ 6 (omega arith) (cond_most (nat_lt x 32) _ _ 6 (omega arith) (omega arith))

escape_most : (s : List ℕ) → length (escape s) ≤ 6 * length s
escape_most [] = omega arith
escape_most (x ∷ s) = omega (arith, length-append (escape_byte x) (escape s), byte_most x, escape_most s)

quoted_most : (s : List ℕ) → length (quoted s) ≤ 6 * length s + 2
quoted_most s = omega (arith, length-append (escape s) (34 ∷ []), escape_most s)

-- ---- members

-- their length behind another member
abbrev size : Members → ℕ
size ms = length (members_text true ms)

-- that of one, with its comma
abbrev room : List ℕ → Data → ℕ
room k d = length (quoted k) + length (compact_text d) + 2

size_member : (k : List ℕ) (d : Data) (ms : Members) → size (member k d ms) ≤ room k d + size ms
size_member k d ms =
    omega (arith, length-append (quoted k) (58 ∷ (compact_text d ++ members_text true ms)), length-append (compact_text d) (members_text true ms))

above_member : (k : List ℕ) (d : Data) (ms : Members) → room k d + size ms ≤ size (member k d ms)
above_member k d ms =
    omega (arith, length-append (quoted k) (58 ∷ (compact_text d ++ members_text true ms)), length-append (compact_text d) (members_text true ms))

first_member : (ms : Members) → length (members_text false ms) ≤ size ms
first_member no_members = omega arith
first_member (member k d ms) = omega arith

chosen : (o : Ordering) (x y z : Members) (n : ℕ) → size x ≤ n → size y ≤ n → size z ≤ n → size (match_ordering o x y z) ≤ n
chosen Less x y z n a b c = a
chosen Equal x y z n a b c = b
chosen Greater x y z n a b c = c

size_put : (k : List ℕ) (d : Data) (ms : Members) → size (put k d ms) ≤ room k d + size ms
size_put k d no_members = size_member k d no_members
size_put k d (member l e ms) =
    chosen (slice_cmp nat_cmp k l) _ _ _ (room k d + size (member l e ms))
    (size_member k d (member l e ms))
    (omega (arith, size_member l d ms, above_member l e ms))
    (omega (arith, size_member l e (put k d ms), size_put k d ms, above_member l e ms))

-- ---- the members of an item

text_most : (k b : List ℕ) (ms : Members) → size (put_text k b ms) ≤ 6 * length k + 6 * length b + 6 + size ms
text_most k b ms = omega (arith, size_put k (string b) ms, quoted_most k, quoted_most b)

filled_most : (k b : List ℕ) (ms : Members) → size (put_filled k b ms) ≤ 6 * length k + 6 * length b + 6 + size ms
filled_most k b ms = by_length (length b == 0)
  where
    by_length : (empty : Bool) → size (cond empty ms (put_text k b ms)) ≤ 6 * length k + 6 * length b + 6 + size ms
    by_length true = omega arith
    by_length false = text_most k b ms

urgency_most : (n : ℕ) (ms : Members) → n ≤ 9 → size (put_urgency n ms) ≤ 100 + size ms
urgency_most n ms few = by_number (n == 0)
  where
    by_number : (none : Bool) → size (cond none ms (put (codes "urgency") (number (unsigned n)) ms)) ≤ 100 + size ms
    by_number true = omega arith
    by_number false = omega (arith, size_put (codes "urgency") (number (unsigned n)) ms, quoted_most (codes "urgency"), length-decimal-le 1 n (omega arith) (omega arith) (omega arith))

version_most : (n : ℕ) (ms : Members) → n < 2 ^ 32 → size (put_version n ms) ≤ 200 + size ms
version_most n ms below =
    omega (arith, text_most (codes "version") (decimal n) ms, length-decimal-le 10 n (omega arith) (omega arith) (omega arith))

media_most : (media : Media) → length (media_word media) ≤ 9
media_most Text = omega arith
media_most Audio = omega arith
media_most Video = omega arith
media_most Picture = omega arith
media_most Graphic = omega arith
media_most Composite = omega arith

status_most : (kind : Kind) → length (status_word kind) ≤ 8
status_most First = omega arith
status_most Correct = omega arith
status_most Kill = omega arith
status_most Recall = omega arith

key_most : (html : Bool) → length (body_key html) ≤ 9
key_most true = omega arith
key_most false = omega arith

moment_size : (m : ℕ) → length (moment_text m) ≡ 20
moment_size m = refl

pub members_most : (p : Publication) (uri : Bytes) → FitsStory p.story → length uri ≤ 256 → p.version < 2 ^ 32 → size (members p uri) ≤ 3_200_000
members_most p uri fits short below =
    let body = put_text (body_key p.story.html) p.story.body no_members in
    let byline = put_filled (codes "byline") p.story.byline body in
    let copyright = put_filled (codes "copyrightholder") p.story.copyright byline in
    let headline = put_filled (codes "headline") p.story.headline copyright in
    let language = put_filled (codes "language") p.story.language headline in
    let status = put_text (codes "pubstatus") (status_word p.kind) language in
    let slugline = put_filled (codes "slugline") p.story.slugline status in
    let media = put_text (codes "type") (media_word p.story.kind) slugline in
    let urgency = put_urgency p.story.urgency media in
    let named = put_text (codes "uri") uri urgency in
    let version = put_version p.version named in
    let front : size byline ≤ 6 * 524288 + 3200 = omega (arith, text_most (body_key p.story.html) p.story.body no_members, key_most p.story.html, fits.body, filled_most (codes "byline") p.story.byline body, fits.byline) in
    let middle : size slugline ≤ 6 * 524288 + 14000 = omega (
      arith,
      front,
      filled_most (codes "copyrightholder") p.story.copyright byline,
      fits.copyright,
      filled_most (codes "headline") p.story.headline copyright,
      fits.headline,
      filled_most (codes "language") p.story.language headline,
      fits.language,
      text_most (codes "pubstatus") (status_word p.kind) language,
      status_most p.kind,
      filled_most (codes "slugline") p.story.slugline status,
      fits.slugline,
    ) in
    omega (
      arith,
      middle,
      text_most (codes "type") (media_word p.story.kind) slugline,
      media_most p.story.kind,
      urgency_most p.story.urgency media fits.urgency,
      text_most (codes "uri") uri urgency,
      short,
      version_most p.version named below,
      text_most (codes "versioncreated") (moment_text p.release) version,
      moment_size p.release,
    )

-- an item of a story within the limits leaves room for a frame
pub item_most : (p : Publication) (uri : Bytes) → FitsStory p.story → length uri ≤ 256 → p.version < 2 ^ 32 → length (item_bytes p uri) ≤ 4_194_240
item_most p uri fits short below = omega (arith, first_member (members p uri), members_most p uri fits short below)
