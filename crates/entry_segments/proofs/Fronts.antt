-- A front of entries that grows by one entry after the other.
use Rattle.std.proofs.Common.{◌≡◌, ℕ, zero, suc, ◌<◌, ◌≤◌, ◌+◌, ◌-◌, ◌/◌, Bool, true, false, List, [], ◌∷◌, ◌++◌, length, get_or, take, drop, refl, sym, ap, subst, ◌∙◌, arith, inl, inr, length-append, Option, Some, None}
use Rattle.std.specs.declared.cmp.Ordering.TheVariants.{Less, Equal, Greater}
use Rattle.std.specs.Ordering.{nat_cmp}
use Rattle.std.specs.Cmp.Lexicographic.{slice_cmp}
use Rattle.std.specs.List.{AllWithin, insert}
use Rattle.std.proofs.lemmas.Bool.{cases_eq}
use Rattle.std.proofs.lemmas.List.Edits.{length-insert}
use Rattle.news_types.specs.Names.{Bytes}
use Rattle.news_types.specs.declared.entry.Act.TheVariants.{Advance, Attempt, Receipt, Halt, Ingest, Request}
use Rattle.news_types.specs.declared.entry.Entry.{Entry}
use Rattle.news_types.specs.declared.story.Incoming.{Incoming}
use Rattle.news_types.specs.declared.command.Command.{Command}
use Rattle.byte_formats.specs.Spelling.{byte}
use Rattle.byte_formats.specs.Varint.{groups, top, varint_bytes}
use Rattle.byte_formats.proofs.Varints.{groups_small, groups_big, top_suc, top_zero}
use Rattle.entry_codec.specs.Spelling.{act, act_tag, without_tag}
use Rattle.entry_codec.specs.Formed.{IsEntry}
use Rattle.entry_segments.specs.Segment.{with_name, with_names_of, names_from, names_of, packed_fields, packed, InTime}
use Rattle.news_types.specs.Names.{AreInOrder}
use Rattle.entry_segments.specs.Packing.{names_size, has_room, fitting}
use Rattle.entry_segments.specs.declared.told.Told.{Told}
use Rattle.entry_segments.specs.declared.told.Told.TheVariants as told
use Rattle.entry_segments.specs.declared.front.Front.{Front}
use Rattle.entry_segments.specs.Told.{told_size, told_names, Tells, Admits, IsFront, size_with, names_with, IsWith}
use Rattle.entry_segments.proofs.NameOrder.{put_ascends, put_at, put_same}
use Rattle.entry_segments.proofs.Fitting.{fields_short, size_more, room_from, fitting_goes, fitting_stops, fitting_end, in_time_at, not_first}

-- ---- what is told

pub tells_advance : Tells told.Nothing Advance
tells_advance = record { fields = λ ns. refl; names = λ ns. refl; size = refl }

pub tells_halt : Tells told.Nothing Halt
tells_halt = record { fields = λ ns. refl; names = λ ns. refl; size = refl }

pub tells_attempt : (s : Bytes) (k : ℕ) → Tells (told.Counted s k) (Attempt s k)
tells_attempt s k = record { fields = λ ns. refl; names = λ ns. refl; size = omega arith }

pub tells_receipt : (s : Bytes) (k : ℕ) → Tells (told.Counted s k) (Receipt s k)
tells_receipt s k = record { fields = λ ns. refl; names = λ ns. refl; size = omega arith }

pub tells_ingest : (provider : Bytes) (brought : Incoming) → Tells (told.Boxed (length (without_tag (act (Ingest provider brought))))) (Ingest provider brought)
tells_ingest provider brought = record { fields = λ ns. refl; names = λ ns. refl; size = omega arith }

pub tells_request : (caller : Bytes) (number : ℕ) (asked : Command) → Tells (told.Boxed (length (without_tag (act (Request caller number asked))))) (Request caller number asked)
tells_request caller number asked = record { fields = λ ns. refl; names = λ ns. refl; size = omega arith }

told_packed : (t : Told) (before : ℕ) (e : Entry) → Tells t e.act → length (packed [] before e) ≡ length (varint_bytes (e.moment - before)) + 1 + told_size t
told_packed t before e h = omega (arith, h.size, length-append (varint_bytes (e.moment - before)) (byte (act_tag e.act) ++ packed_fields [] e.act))

pub told_short : (t : Told) (e : Entry) → Tells t e.act → IsEntry e → told_size t ≤ 2097084
told_short t e h is = omega (arith, h.size, fields_short e is)

pub names_told : (t : Told) (ns : List Bytes) → AreInOrder ns → AreInOrder (told_names t ns)
names_told told.Nothing ns up = up
names_told (told.Counted s k) ns up = put_ascends s ns up
names_told (told.Boxed len) ns up = up

-- ---- numbers

pub groups_len_small : (n more : ℕ) → n < 128 → 1 ≡ length (groups more n)
groups_len_small n more lt = sym (ap length (groups_small more n lt))

pub groups_len_big : (n more len : ℕ) → 128 ≤ n → ((m : ℕ) → n / 128 < top m → len ≡ length (groups m (n / 128))) → n < top more → 1 + len ≡ length (groups more n)
groups_len_big n zero len ge rest lt = absurd (omega (arith, ge, top_zero, lt))
groups_len_big n (suc more) len ge rest lt =
    let e = rest more (omega (arith, top_suc more, lt)) in
    let h = ap length (groups_big more n ge) in
    omega (arith, e, h)

-- ---- one more entry

pub with_entry : (old new : Front) (e : Entry) (t : Told) (size named : ℕ) → Tells t e.act → size ≡ old.size + length (varint_bytes (e.moment - old.moment)) + 1 + told_size t
    → Admits size (told_names t old.names.items) old.names.items new.names.items (Some named) → new.taken ≡ old.taken + 1 → new.size ≡ size → new.moment ≡ e.moment → IsWith old new e
with_entry old new e t size named h s admits taken is moment =
    let grown : size ≡ size_with old e = omega (arith, s, told_packed t old.moment e h) in
    record {
      room = ap (λ (z : ℕ). has_room z (names_with old e)) (sym grown) ∙ ap (has_room size) (h.names old.names.items) ∙ admits.0;
      taken = taken;
      size = is ∙ grown;
      names = admits.1 ∙ sym (h.names old.names.items);
      moment = moment;
    }

pub no_room : (old : Front) (e : Entry) (t : Told) (size : ℕ) (new : List Bytes) → Tells t e.act → size ≡ old.size + length (varint_bytes (e.moment - old.moment)) + 1 + told_size t
    → Admits size (told_names t old.names.items) old.names.items new None → has_room (size_with old e) (names_with old e) ≡ false
no_room old e t size new h s admits =
    let grown : size ≡ size_with old e = omega (arith, s, told_packed t old.moment e h) in
    ap (λ (z : ℕ). has_room z (names_with old e)) (sym grown) ∙ ap (has_room size) (h.names old.names.items) ∙ admits.0

-- its size with what is told of an entry
pub size_is : (old : Front) (t : Told) (e : Entry) (moment more told size : ℕ) → size ≡ old.size + more + 1 + told → more ≡ length (varint_bytes (moment - old.moment)) → told ≡ told_size t → e.moment ≡ moment
    → size ≡ old.size + length (varint_bytes (e.moment - old.moment)) + 1 + told_size t
size_is old t e moment more told size sum more_is told_is same = let h = ap (λ (m : ℕ). length (varint_bytes (m - old.moment))) same in omega (arith, sum, more_is, told_is, h)

pub front_same : (old new : Front) → IsFront old → new.names.items ≡ old.names.items → new.named ≡ old.named → new.size ≡ old.size → IsFront new
front_same old new h names named size = record {
  up = subst AreInOrder (sym names) h.up;
  few = omega (arith, ap length names, h.few);
  named = named ∙ h.named ∙ ap names_size (sym names);
  small = omega (arith, named, size, h.small);
}

pub front_more : (new : Front) (t : Told) (old more : List Bytes) (size named : ℕ) → AreInOrder old → Admits size (told_names t old) old more (Some named) → new.names.items ≡ more → new.named ≡ named → new.size ≡ size → IsFront new
front_more new t old more size named up admits names named_is all =
    let room = room_from size (told_names t old) admits.0 in
    let is : new.names.items ≡ told_names t old = names ∙ admits.1 in
    record {
      up = subst AreInOrder (sym is) (names_told t old up);
      few = omega (arith, ap length is, room.1);
      named = named_is ∙ admits.2 ∙ ap names_size (sym is);
      small = omega (arith, all, named_is, admits.2, room.0);
    }

-- ---- the entries that went in

-- This many of the entries went in, one after the other.
pub record Took (f : Front) (i : ℕ) (es : List Entry) : Type 0 where
  pub front : IsFront f
  pub taken : f.taken ≡ i
  pub names : f.names.items ≡ names_of (take i es)
  pub rest : i + fitting f.size f.names.items f.moment (drop i es) ≡ fitting 14 [] 0 es
  pub in_time : InTime f.moment (drop i es)
  pub first_size : i ≡ 0 → f.size ≡ 14
  pub first_names : i ≡ 0 → f.names.items ≡ []
  pub first_moment : i ≡ 0 → f.moment ≡ 0

pub took_none : (f : Front) (es : List Entry) → InTime 0 es → IsFront f → f.taken ≡ 0 → f.names.items ≡ [] → f.size ≡ 14 → f.moment ≡ 0 → Took f 0 es
took_none f es in_time front taken names size moment = record {
  front = front;
  taken = taken;
  names = names;
  rest = rw (size, names, moment) (omega arith);
  in_time = subst (λ (m : ℕ). InTime m es) (sym moment) in_time;
  first_size = λ e. size;
  first_names = λ e. names;
  first_moment = λ e. moment;
}

names_more : (es : List Entry) (i : ℕ) (e : Entry) (ns : List Bytes) → i < length es → e ≡ get_or es i e → names_from ns (take (i + 1) es) ≡ with_names_of e.act (names_from ns (take i es))
names_more [] i e ns lt is = absurd (omega (arith, lt))
names_more (x ∷ es) zero e ns lt is = ap (λ (z : Entry). with_names_of z.act ns) (sym is)
names_more (x ∷ es) (suc i) e ns lt is = ap (λ (k : ℕ). names_from ns (take k (x ∷ es))) (after i) ∙ names_more es i e (with_names_of x.act ns) (omega (arith, lt)) is
  where
    after : (n : ℕ) → suc n + 1 ≡ suc (n + 1)
    after n = omega arith

pub took_more : (old new : Front) (i : ℕ) (es : List Entry) (e : Entry) → Took old i es → i < length es → e ≡ get_or es i e → IsWith old new e → IsFront new → Took new (i + 1) es
took_more old new i es e t lt is w front = record {
  front = front;
  taken = w.taken ∙ ap (λ (k : ℕ). k + 1) t.taken;
  names = w.names ∙ ap (with_names_of e.act) t.names ∙ sym (names_more es i e [] lt is);
  rest =
      ap (λ (m : ℕ). (i + 1) + fitting new.size new.names.items m (drop (i + 1) es)) w.moment
      ∙ fitting_goes es i e old.size new.size old.names.items new.names.items old.moment (fitting 14 [] 0 es) lt is w.size w.names (ap (λ (z : ℕ). has_room z new.names.items) w.size ∙ ap (has_room (size_with old e)) w.names ∙ w.room) t.rest;
  in_time = subst (λ (m : ℕ). InTime m (drop (i + 1) es)) (sym w.moment) (in_time_at es i e old.moment lt is t.in_time).1;
  first_size = λ h. absurd (omega (arith, h));
  first_names = λ h. absurd (omega (arith, h));
  first_moment = λ h. absurd (omega (arith, h));
}

pub took_all : (f : Front) (i : ℕ) (es : List Entry) → Took f i es → length es ≤ i → i ≤ length es → f.taken ≡ fitting 14 [] 0 es
took_all f i es t le ge = let all = fitting_end es i f.size f.moment (fitting 14 [] 0 es) f.names.items le ge t.rest in omega (arith, all, t.taken, le, ge)

pub took_most : (f : Front) (i : ℕ) (es : List Entry) (e : Entry) → Took f i es → i < length es → e ≡ get_or es i e → has_room (size_with f e) (names_with f e) ≡ false → f.taken ≡ fitting 14 [] 0 es
took_most f i es e t lt is full = t.taken ∙ fitting_stops es i e f.size (size_with f e) f.names.items (names_with f e) f.moment (fitting 14 [] 0 es) lt is refl refl full t.rest

pub took_some : (f : Front) (i : ℕ) (es : List Entry) (e : Entry) → Took f i es → IsEntry e → has_room (size_with f e) (names_with f e) ≡ false → 0 < f.taken
took_some f i es e t h full =
    elim (cases_eq i 0) [
      | inl zero_is ↦
          let s : size_with f e ≡ 14 + length (packed [] 0 e) = ap (λ (z : ℕ). z + length (packed [] f.moment e)) (t.first_size zero_is) ∙ ap (λ (m : ℕ). 14 + length (packed [] m e)) (t.first_moment zero_is) in
          absurd (not_first e (size_with f e) (names_with f e) h s (ap (with_names_of e.act) (t.first_names zero_is)) full)
      | inr other ↦ omega (arith, other, t.taken)
    ]

pub took_names : (f : Front) (i : ℕ) (es : List Entry) → Took f i es → f.names.items ≡ names_of (take f.taken es)
took_names f i es t = t.names ∙ ap (λ (n : ℕ). names_of (take n es)) (sym t.taken)

-- ---- one more name

pub admits_same : (size : ℕ) (n : Bytes) (ns : List Bytes) (i : ℕ) (r : Option ℕ) → AreInOrder ns → i < length ns → slice_cmp nat_cmp (get_or ns i []) n ≡ Equal → Admits size ns ns ns r → Admits size (with_name n ns) ns ns r
admits_same size n ns i r up lt e h = subst (λ (z : List Bytes). Admits size z ns ns r) (put_same n ns i up lt e) h

module _ (size named : ℕ) (n : Bytes) (ns : List Bytes) (i len : ℕ) (within : i ≤ length ns) (below : AllWithin (λ m. slice_cmp nat_cmp m n ≡ Less) ns 0 i) (above : AllWithin (λ m. slice_cmp nat_cmp m n ≡ Greater) ns i (length ns)) (named_is : named ≡ names_size ns)
    (len_is : len ≡ length n) where
  more_named : named + 1 + len ≡ names_size (with_name n ns)
  more_named = let h = size_more n ns i within below above in omega (arith, h, named_is, len_is)

  more_names : length ns + 1 ≡ length (with_name n ns)
  more_names = let h = ap length (put_at n ns i within below above) in omega (arith, h, length-insert ns i n within)

  pub admits_none : (b : Bool) → ((names : List Bytes) → named + 1 + len ≡ names_size names → length ns + 1 ≡ length names → b ≡ has_room size names) → b ≡ false → Admits size (with_name n ns) ns ns None
  admits_none b room is = (sym (room (with_name n ns) more_named more_names) ∙ is, refl)

  pub admits_more : (b : Bool) (new : List Bytes) → ((names : List Bytes) → named + 1 + len ≡ names_size names → length ns + 1 ≡ length names → b ≡ has_room size names) → b ≡ true → new ≡ insert ns i n → Admits size (with_name n ns) ns new (Some (named + 1 + len))
  admits_more b new room is put = (sym (room (with_name n ns) more_named more_names) ∙ is, put ∙ put_at n ns i within below above, more_named)
