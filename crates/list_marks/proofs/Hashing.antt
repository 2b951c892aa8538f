-- The payloads of the first records are those of the first entries, and none is too long.
use Rattle.std.proofs.Common.{◌≡◌, ℕ, ◌<◌, ◌+◌, List, [], ◌∷◌, ◌++◌, length, take, map, get_or, sym, ap, subst, ◌∙◌, arith}
use Rattle.std.specs.Prelude.{All}
use Rattle.std.specs.List.{flat_map}
use Rattle.std.proofs.lemmas.List.{take-map, length-map, take_more, map-append, append-nil}
use Rattle.std.proofs.lemmas.List.Elements.{All-nil, All-cons, All-head, All-tail, All-push, All-take}
use Rattle.std.proofs.lemmas.Grind.{flat_map-append}
use Rattle.sha2.specs.Sha256.{sha256}
use Rattle.news_types.specs.Names.{Bytes}
use Rattle.news_types.specs.History.{History}
use Rattle.news_types.specs.Doubt.{payloads}
use Rattle.news_types.specs.Members.{Each}
use Rattle.news_io.specs.declared.record.Record.{Record}
use Rattle.byte_formats.specs.Spelling.{text}
use Rattle.entry_codec.specs.Spelling.{entry_bytes}
use Rattle.entry_codec.specs.Formed.{IsEntry}
use Rattle.entry_codec.proofs.Lengths.{entry_len}
use Rattle.news_room.specs.Log.{OpensTo}
use Rattle.news_room.specs.Opening.{bytes_of}
use Rattle.news_room.proofs.Lists.{counted}
use Rattle.list_marks.specs.Digest.{hashed}

-- as many as the list has entries
pub as_many : (records : List Record) (h : History) → OpensTo (map bytes_of records) h → length records ≡ length h
as_many records h opens = sym (length-map records bytes_of) ∙ ap length opens.is ∙ counted h

pub hashed_of : (records : List Record) (n : ℕ) (h : History) → OpensTo (map bytes_of records) h → sha256 (flat_map text (map bytes_of (take n records))) ≡ sha256 (hashed n h)
hashed_of records n h opens = ap (λ (l : List Bytes). sha256 (flat_map text l)) (sym (take-map bytes_of n records) ∙ ap (take n) opens.is)

-- ---- one more record

pub hashed_more : (records : List Record) (i : ℕ) (r : Record) → i < length records → r ≡ get_or records i r
    → flat_map text (map bytes_of (take i records)) ++ text r.bytes ≡ flat_map text (map bytes_of (take (i + 1) records))
hashed_more records i r lt is =
    let before : List Bytes = map bytes_of (take i records) in
    let more : take (i + 1) records ≡ take i records ++ r ∷ [] = take_more records i r lt ∙ ap (λ (x : Record). take i records ++ x ∷ []) (sym is) in
    let all : map bytes_of (take (i + 1) records) ≡ before ++ r.bytes ∷ [] = ap (map bytes_of) more ∙ map-append bytes_of (take i records) (r ∷ []) in
    ap (λ (l : Bytes). flat_map text before ++ l) (sym (append-nil (text r.bytes))) ∙ sym (flat_map-append text before (r.bytes ∷ [])) ∙ ap (flat_map text) (sym all)

-- ---- lengths of four bytes

abbrev IsShort : Bytes → Type 0
IsShort bytes = length bytes < 4294967296

abbrev pub HasShort : Record → Type 0
HasShort r = length r.bytes < 4294967296

short_payloads : (h : History) → Each IsEntry h → All IsShort (payloads entry_bytes h)
short_payloads [] formed = All-nil IsShort
short_payloads (e ∷ h) formed = All-push IsShort (payloads entry_bytes h) (entry_bytes e) (short_payloads h formed.1) (omega (arith, entry_len e formed.0))

short_of : (records : List Record) → All IsShort (map bytes_of records) → All HasShort records
short_of [] all = All-nil HasShort
short_of (r ∷ records) all = All-cons HasShort r records (All-head IsShort r.bytes (map bytes_of records) all) (short_of records (All-tail IsShort r.bytes (map bytes_of records) all))

pub short_first : (records : List Record) (n : ℕ) (h : History) → OpensTo (map bytes_of records) h → All HasShort (take n records)
short_first records n h opens = All-take HasShort n records (short_of records (subst (All IsShort) (sym opens.is) (short_payloads h opens.kept.formed)))
