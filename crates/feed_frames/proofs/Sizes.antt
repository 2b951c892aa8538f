-- How long frames are.
use Rattle.std.specs.Prelude.{IsTrue}
use Rattle.std.proofs.Common.{◌≡◌, ℕ, zero, suc, ◌+◌, ◌<◌, ◌≤◌, ◌^◌, ◌&&◌, nat_lt, nat_le, List, [], ◌∷◌, ◌++◌, length, codes, decimal, Option, Some, None, arith}
use Rattle.std.specs.List.{list_all}
use Rattle.std.proofs.lemmas.Bool.{leb-true, and_parts}
use Rattle.std.proofs.lemmas.Fmt.{length-decimal-le}
use Rattle.std.proofs.lemmas.List.{length-append}
use Rattle.uuid.specs.Text.{by_index, hyphenated_text, lower, urn_prefix, urn_text}
use Rattle.news_types.specs.declared.words.Format.{Format}
use Rattle.news_types.specs.declared.words.Format.TheVariants.{Ninjs, Text7901}
use Rattle.news_types.specs.Names.{Bytes, is_name, is_name_byte}
use Rattle.news_types.specs.Feeds.{Dispatch}
use Rattle.news_types.specs.Frames.{frame_bytes}
use Rattle.ninjs_text.proofs.Sizes.{item_most}
use Rattle.text7901.proofs.Messages.{written_most}
use Rattle.feed_frames.specs.Writer.{item_identifier, item_uri, the_writer}
use Rattle.feed_frames.specs.Sizes.{FitsDispatch, FramesAreShort}

-- ---- payloads

by_index_length : {X : Type 0} (n : ℕ) (f : ℕ → X) → length (by_index n f) ≡ n
unfolding by_index
by_index_length zero f = omega arith
by_index_length (suc n) f = omega (arith, length-append (by_index n f) (f n ∷ []), by_index_length n f)

urn_length : (letter : ℕ) (bytes : Bytes) → length (urn_text letter bytes) ≡ 45
urn_length letter bytes =
    let digits : length (hyphenated_text letter bytes) ≡ 36 = by_index_length 36 _ in
    omega (arith, length-append urn_prefix (hyphenated_text letter bytes), digits)

uri_most : (store : Bytes) (item : ℕ) → length (item_uri store item) ≤ 256
uri_most store item = omega (arith, urn_length lower (item_identifier store item))

payload_most : (store : Bytes) (format : Option Format) (d : Dispatch) → FitsDispatch d → length (the_writer store format d.shown) ≤ 4_194_240
payload_most store None d fits = omega arith
payload_most store (Some Ninjs) d fits = item_most d.shown (item_uri store d.shown.item) fits.story (uri_most store d.shown.item) fits.version
payload_most store (Some Text7901) d fits = written_most d.shown fits.story fits.number

-- ---- frames

name_most : (s : Bytes) → IsTrue (is_name s) → length s ≤ 32
name_most s named =
    let sizes = (and_parts (nat_lt 0 (length s) && nat_le (length s) 32) (list_all is_name_byte s) named).0 in
    leb-true (length s) 32 (and_parts (nat_lt 0 (length s)) (nat_le (length s) 32) sizes).1

joined_length : (a b c d : List ℕ) → length (codes "FRAME " ++ (a ++ (32 ∷ [] ++ (b ++ (32 ∷ [] ++ (c ++ (10 ∷ [] ++ d))))))) ≡ 9 + length a + length b + length c + length d
joined_length a b c d = simp (length-append {A = ℕ}) (omega arith)

frame_most : (s payload : Bytes) (k : ℕ) → IsTrue (is_name s) → k < 2 ^ 32 → length payload ≤ 4_194_240 → length (frame_bytes (record { to = s; k = k; payload = payload })) ≤ 4_194_304
frame_most s payload k named place few =
    omega (
      arith,
      joined_length s (decimal k) (decimal (length payload)) payload,
      name_most s named,
      length-decimal-le 10 k (omega arith) (omega arith) (omega arith),
      length-decimal-le 7 (length payload) (omega arith) (omega arith) (omega arith),
    )

pub frames_are_short : FramesAreShort
frames_are_short store format s k d named place fits =
    let few = payload_most store format d fits in
    record { payload = few; frame = frame_most s (the_writer store format d.shown) k named place few }
