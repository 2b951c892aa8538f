-- Entries that are given as their bytes.
use Rattle.std.proofs.Common.{◌≡◌, ◌<◌, ◌≤◌, ◌+◌, ◌^◌, ℕ, Bool, true, false, List, [], ◌∷◌, ◌++◌, map, length, drop, get_or, Result, Ok, cond, refl, sym, ap, subst, ◌∙◌, arith, ◌⊎◌, inl, inr, append-nil, append_assoc}
use Rattle.std.specs.Prelude.{All}
use Rattle.std.specs.Int.{w32, w64}
use Rattle.std.specs.List.{AllByRecursion}
use Rattle.std.proofs.lemmas.List.{get_or-map, map-append}
use Rattle.std.proofs.lemmas.List.Elements.{All-map, All-weaker, recursion_from_All}
use Rattle.news_types.specs.Names.{Bytes}
use Rattle.news_types.specs.declared.entry.Act.{Act}
use Rattle.news_types.specs.declared.entry.Act.TheVariants.{Advance, Attempt, Receipt, Halt, Ingest, Request}
use Rattle.news_types.specs.declared.entry.Entry.{Entry}
use Rattle.byte_formats.specs.declared.stop.Stopped.{Stopped}
use Rattle.byte_formats.specs.declared.stop.Stopped.TheVariants as stopped
use Rattle.byte_formats.specs.Spelling.{IsName, name, u32, u64, is_empty}
use Rattle.byte_formats.specs.Format.{byte_at, whole_at}
use Rattle.byte_formats.specs.Fields.{name_at}
use Rattle.byte_formats.specs.Gives.{Fails, IsFault, all_of}
use Rattle.byte_formats.proofs.Laws.{ok_is}
use Rattle.byte_formats.proofs.Numbers.{wide32, wide64, whole_lawful}
use Rattle.byte_formats.proofs.Fields.{ranged_lawful}
use Rattle.byte_formats.proofs.Names.{name_lawful}
use Rattle.byte_formats.proofs.Whole.{all_again}
use Rattle.entry_codec.specs.Spelling.{act, entry_bytes, act_tag, without_tag}
use Rattle.entry_codec.specs.Commands.{entry}
use Rattle.entry_codec.specs.Formed.{IsFormedAct, IsEntry}
use Rattle.entry_codec.proofs.Lengths.{entry_len}
use Rattle.entry_codec.proofs.EntryLaws.{entry_lawful}
use Rattle.entry_segments.specs.declared.told.Told.TheVariants as told
use Rattle.entry_segments.specs.Told.{Tells}
use Rattle.entry_segments.specs.Spelled.{read_entry, entry_in, entries_in, IsPayload}
use Rattle.entry_segments.proofs.Fitting.{act_is, at_entry}
use Rattle.entry_segments.proofs.Fronts.{tells_advance, tells_halt, tells_attempt, tells_receipt, tells_ingest, tells_request}

-- ---- lists of payloads

pub entries_are : (ps : List Bytes) → All IsPayload ps → All IsEntry (entries_in ps)
entries_are ps each = All-map IsEntry entry_in ps (All-weaker IsPayload (λ p. IsEntry (entry_in p)) (λ p h. h.is_entry) ps each)

pub payloads_are : (ps : List Bytes) → All IsPayload ps → map entry_bytes (entries_in ps) ≡ ps
payloads_are ps each = by ps (recursion_from_All IsPayload ps each)
  where
    by : (qs : List Bytes) → AllByRecursion IsPayload qs → map entry_bytes (entries_in qs) ≡ qs
    by [] h = refl
    by (q ∷ qs) h = ap (λ (b : Bytes). b ∷ map entry_bytes (entries_in qs)) (sym h.0.are) ∙ ap (λ (l : List Bytes). q ∷ l) (by qs h.1)

pub entry_is : (p : Bytes) (e : Entry) → all_of entry p ≡ Ok e → entry_in p ≡ e
unfolding entry_in
entry_is p e read = ap read_entry read

pub read_again : (p : Bytes) (e : Entry) → IsEntry e → p ≡ entry_bytes e → all_of entry p ≡ Ok e
read_again p e is are = ap (all_of entry) are ∙ all_again entry IsEntry entry_lawful e is

pub is_payload : (p : Bytes) (e : Entry) → all_of entry p ≡ Ok e → IsEntry e → p ≡ entry_bytes e → IsPayload p
is_payload p e read is are = let same = entry_is p e read in record { is_entry = subst IsEntry (sym same) is; are = are ∙ ap entry_bytes (sym same) }

-- the payload of an entry's record
pub spelled_entry : (p : Bytes) (e : Entry) → IsEntry e → p ≡ entry_bytes e → IsPayload p × (entry_in p ≡ e)
spelled_entry p e is are = let read = read_again p e is are in (is_payload p e read is are, entry_is p e read)

-- entries that are spelled in order, one more of them
pub one_more_entry : (es : List Entry) (i : ℕ) (e : Entry) (ps : List Bytes) (p : Bytes) → i < length es → e ≡ get_or es i e → entry_in p ≡ e → entries_in ps ++ drop i es ≡ es → entries_in (ps ++ p ∷ []) ++ drop (i + 1) es ≡ es
one_more_entry es i e ps p lt is same so_far =
    ap (λ (l : List Entry). l ++ drop (i + 1) es) (map-append entry_in ps (p ∷ []))
    ∙ append_assoc (entries_in ps) (entry_in p ∷ []) (drop (i + 1) es)
    ∙ ap (λ (z : Entry). entries_in ps ++ z ∷ drop (i + 1) es) same
    ∙ ap (λ (l : List Entry). entries_in ps ++ l) (sym (at_entry es i e lt is))
    ∙ so_far

pub entry_at : (ps : List Bytes) (i : ℕ) (p : Bytes) → i < length ps → p ≡ get_or ps i p → entry_in p ≡ get_or (entries_in ps) i (entry_in p)
entry_at ps i p lt is = ap entry_in is ∙ sym (get_or-map entry_in ps i p (entry_in p) lt)

-- ---- reading one

reads : {A : Type 0} (r : Result (A × List ℕ) ℕ) (x : A × List ℕ) → r ≡ Ok x → (s : Stopped) → Fails s r → IsFault s → ⊥
reads r x ok stopped.Memory fails fault = fault
reads r x ok (stopped.Left left) fails fault = absurd (let e = sym ok ∙ fails in cc e)

module _ (p : Bytes) (is : IsPayload p) where
  moment_again : whole_at w64 p ≡ Ok ((entry_in p).moment, act (entry_in p).act)
  moment_again = ap (whole_at w64) is.are ∙ (whole_lawful w64 (2 ^ 64) wide64).again (entry_in p).moment (act (entry_in p).act) (omega (arith, is.is_entry.fits.moment))

  pub moment_read : (n : ℕ) (rest : List ℕ) → whole_at w64 p ≡ Ok (n, rest) → (n ≡ (entry_in p).moment) × (rest ≡ act (entry_in p).act)
  moment_read n rest e = let x = ok_is (n, rest) ((entry_in p).moment, act (entry_in p).act) (sym e ∙ moment_again) in (ap (λ q. q.0) x, ap (λ q. q.1) x)

  pub moment_stops : (s : Stopped) → Fails s (whole_at w64 p) → IsFault s → ⊥
  moment_stops s = reads (whole_at w64 p) ((entry_in p).moment, act (entry_in p).act) moment_again s

ingest_within : (b : Bool) → (5 ≤ cond b 5 7) × (cond b 5 7 ≤ 7)
ingest_within true = (omega arith, omega arith)
ingest_within false = (omega arith, omega arith)

tag_range : (a : Act) → (1 ≤ act_tag a) × (act_tag a ≤ 7)
tag_range Advance = (omega arith, omega arith)
tag_range (Attempt _ _) = (omega arith, omega arith)
tag_range (Receipt _ _) = (omega arith, omega arith)
tag_range Halt = (omega arith, omega arith)
tag_range (Ingest _ brought) = let t = ingest_within (is_empty brought.story.copyright) in (omega (arith, t.0), t.1)
tag_range (Request _ _ _) = (omega arith, omega arith)

module _ (a : Act) (input : List ℕ) (is : input ≡ act a) where
  tag_again : byte_at 1 7 input ≡ Ok (act_tag a, without_tag (act a))
  tag_again = ap (byte_at 1 7) (is ∙ act_is a) ∙ (ranged_lawful 1 7 (omega arith)).again (act_tag a) (without_tag (act a)) (tag_range a)

  pub tag_read : (tag : ℕ) (rest : List ℕ) → byte_at 1 7 input ≡ Ok (tag, rest) → (tag ≡ act_tag a) × (rest ≡ without_tag (act a))
  tag_read tag rest e = let x = ok_is (tag, rest) (act_tag a, without_tag (act a)) (sym e ∙ tag_again) in (ap (λ q. q.0) x, ap (λ q. q.1) x)

  pub tag_stops : (s : Stopped) → Fails s (byte_at 1 7 input) → IsFault s → ⊥
  tag_stops s = reads (byte_at 1 7 input) (act_tag a, without_tag (act a)) tag_again s

-- ---- what stands behind the tag

pub tells_nothing : (a : Act) (tag : ℕ) → (tag ≡ 1) ⊎ (tag ≡ 4) → tag ≡ act_tag a → Tells told.Nothing a
tells_nothing Advance tag one is = tells_advance
tells_nothing (Attempt _ _) tag one is = absurd (elim one [ inl e ↦ omega (arith, e, is) | inr e ↦ omega (arith, e, is) ])
tells_nothing (Receipt _ _) tag one is = absurd (elim one [ inl e ↦ omega (arith, e, is) | inr e ↦ omega (arith, e, is) ])
tells_nothing Halt tag one is = tells_halt
tells_nothing (Ingest _ brought) tag one is = let t = ingest_within (is_empty brought.story.copyright) in absurd (elim one [ inl e ↦ omega (arith, e, is, t.0) | inr e ↦ omega (arith, e, is, t.0) ])
tells_nothing (Request _ _ _) tag one is = absurd (elim one [ inl e ↦ omega (arith, e, is) | inr e ↦ omega (arith, e, is) ])

pub tells_box : (a : Act) (tag len : ℕ) → (tag ≡ 1 → ⊥) → (tag ≡ 2 → ⊥) → (tag ≡ 3 → ⊥) → (tag ≡ 4 → ⊥) → tag ≡ act_tag a → len ≡ length (without_tag (act a)) → Tells (told.Boxed len) a
tells_box Advance tag len no1 no2 no3 no4 is long = absurd (no1 is)
tells_box (Attempt _ _) tag len no1 no2 no3 no4 is long = absurd (no2 is)
tells_box (Receipt _ _) tag len no1 no2 no3 no4 is long = absurd (no3 is)
tells_box Halt tag len no1 no2 no3 no4 is long = absurd (no4 is)
tells_box (Ingest provider brought) tag len no1 no2 no3 no4 is long = subst (λ (n : ℕ). Tells (told.Boxed n) (Ingest provider brought)) (sym long) (tells_ingest provider brought)
tells_box (Request caller number asked) tag len no1 no2 no3 no4 is long = subst (λ (n : ℕ). Tells (told.Boxed n) (Request caller number asked)) (sym long) (tells_request caller number asked)

record Counts (a : Act) : Type 0 where
  subscriber : Bytes
  count : ℕ
  named : IsName subscriber
  small : count < 2 ^ 32
  bytes : without_tag (act a) ≡ name subscriber ++ u32 count
  tells : Tells (told.Counted subscriber count) a

counts : (a : Act) (tag : ℕ) → (tag ≡ 2) ⊎ (tag ≡ 3) → tag ≡ act_tag a → IsFormedAct a → Counts a
counts Advance tag one is formed = absurd (elim one [ inl e ↦ omega (arith, e, is) | inr e ↦ omega (arith, e, is) ])
counts (Attempt s k) tag one is formed = record { subscriber = s; count = k; named = formed.0; small = formed.1; bytes = refl; tells = tells_attempt s k }
counts (Receipt s k) tag one is formed = record { subscriber = s; count = k; named = formed.0; small = formed.1; bytes = refl; tells = tells_receipt s k }
counts Halt tag one is formed = absurd (elim one [ inl e ↦ omega (arith, e, is) | inr e ↦ omega (arith, e, is) ])
counts (Ingest _ brought) tag one is formed = let t = ingest_within (is_empty brought.story.copyright) in absurd (elim one [ inl e ↦ omega (arith, e, is, t.0) | inr e ↦ omega (arith, e, is, t.0) ])
counts (Request _ _ _) tag one is formed = absurd (elim one [ inl e ↦ omega (arith, e, is) | inr e ↦ omega (arith, e, is) ])

module _ (a : Act) (tag : ℕ) (one : (tag ≡ 2) ⊎ (tag ≡ 3)) (is : tag ≡ act_tag a) (formed : IsFormedAct a) (input : List ℕ) (input_is : input ≡ without_tag (act a)) where
  c : Counts a
  c = counts a tag one is formed

  name_again : name_at input ≡ Ok (c.subscriber, u32 c.count)
  name_again = ap name_at (input_is ∙ c.bytes) ∙ name_lawful.again c.subscriber (u32 c.count) c.named

  pub name_stops : (s : Stopped) → Fails s (name_at input) → IsFault s → ⊥
  name_stops s = reads (name_at input) (c.subscriber, u32 c.count) name_again s

  module _ (n : Bytes) (rest : List ℕ) (named : name_at input ≡ Ok (n, rest)) where
    name_is : (n ≡ c.subscriber) × (rest ≡ u32 c.count)
    name_is = let x = ok_is (n, rest) (c.subscriber, u32 c.count) (sym named ∙ name_again) in (ap (λ q. q.0) x, ap (λ q. q.1) x)

    count_again : whole_at w32 rest ≡ Ok (c.count, [])
    count_again = ap (whole_at w32) (name_is.1 ∙ sym (append-nil (u32 c.count))) ∙ (whole_lawful w32 (2 ^ 32) wide32).again c.count [] c.small

    pub count_stops : (s : Stopped) → Fails s (whole_at w32 rest) → IsFault s → ⊥
    count_stops s = reads (whole_at w32 rest) (c.count, []) count_again s

    pub tells_counted : (k : ℕ) (after : List ℕ) → whole_at w32 rest ≡ Ok (k, after) → Tells (told.Counted n k) a
    tells_counted k after counted =
        let x = ok_is (k, after) (c.count, []) (sym counted ∙ count_again) in
        let count_is : k ≡ c.count = ap (λ q. q.0) x in
        subst (λ (z : Bytes). Tells (told.Counted z k) a) (sym name_is.0) (subst (λ (z : ℕ). Tells (told.Counted c.subscriber z) a) (sym count_is) c.tells)

-- ---- where its parts stand

module _ (p : Bytes) (is : IsPayload p) where
  parts_are : p ≡ u64 (entry_in p).moment ++ act_tag (entry_in p).act ∷ without_tag (act (entry_in p).act)
  parts_are = is.are ∙ ap (λ z. u64 (entry_in p).moment ++ z) (act_is (entry_in p).act)

  pub payload_long : length p ≡ 9 + length (without_tag (act (entry_in p).act))
  payload_long = omega (arith, ap length parts_are)

  pub payload_tag : (d : ℕ) → get_or p 8 d ≡ act_tag (entry_in p).act
  payload_tag d = ap (λ z. get_or z 8 d) parts_are

  pub payload_rest : drop 9 p ≡ without_tag (act (entry_in p).act)
  payload_rest = ap (drop 9) parts_are

  pub rest_short : length (without_tag (act (entry_in p).act)) < 2 ^ 32
  rest_short = omega (arith, payload_long, ap length is.are, entry_len (entry_in p) is.is_entry)
