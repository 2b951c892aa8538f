-- The records of a text are those that it is read as.
use Rattle.std.proofs.Common.{◌≡◌, ◌⊎◌, inl, inr, ◌==◌, ℕ, zero, suc, ◌<◌, ◌≤◌, Bool, true, false, cond, Option, Some, None, List, [], ◌∷◌, ◌++◌, length, refl, sym, ap, subst, ◌∙◌, arith, add-one}
use mathlib.Core.Bool.{true≢false}
use Rattle.csv.specs.Machine.{Read, is_end, step, in_field, start_field, start_record, after_end, ends_with, ends_at_end, fields_after, field_after, next_record}
use Rattle.csv.specs.Reading.{ExplainsRead, default_config, is_flexible, stops_reader, strip_bom, records_from, records_next, Reached}
use Rattle.csv.specs.declared.error.ErrorKind.{ErrorKind}
use Rattle.csv.specs.declared.error.ErrorKind.TheVariants as kind
use Rattle.csv.specs.declared.reader.Reader.{Reader}
use Rattle.csv.specs.declared.parser.State.{State}
use Rattle.csv.specs.declared.parser.State.TheVariants as st
use Rattle.csv.specs.declared.parser.Action.{Action}
use Rattle.csv.specs.declared.parser.Action.TheVariants as act
use Rattle.csv.specs.declared.parser.Terminator.TheVariants as term
use Rattle.subscriber_import.specs.Laws.{RowsAreRecords}

-- a state between two records
abbrev IsBetween : State → Type 0
IsBetween s = (s ≡ st.StartRecord) ⊎ (s ≡ st.AfterCr)

-- what ends a record leaves such a state
abbrev EndsBetween : State × Action → Type 0
EndsBetween t = is_end t.1 ≡ true → IsBetween t.0

after_between : (b : Bool) → IsBetween (cond b st.AfterCr st.StartRecord)
after_between true = inr refl
after_between false = inl refl

field_ends : (c : ℕ) → EndsBetween (in_field default_config c)
field_ends c = by (c == 44) (ends_with term.CRLF c)
  where
    by : (a b : Bool) → EndsBetween (cond a (st.StartField, act.EndField) (cond b (after_end term.CRLF c, act.EndRecord) (st.InField, act.Copy)))
    by true b is = absurd (true≢false (sym is))
    by false true is = after_between (c == 13)
    by false false is = absurd (true≢false (sym is))

start_field_ends : (c : ℕ) → EndsBetween (start_field default_config c)
start_field_ends c = by (c == 34)
  where
    by : (b : Bool) → EndsBetween (cond b (st.InQuoted, act.Skip) (in_field default_config c))
    by true is = absurd (true≢false (sym is))
    by false is = field_ends c is

start_record_ends : (c : ℕ) → EndsBetween (start_record default_config c)
start_record_ends c = by (ends_with term.CRLF c)
  where
    by : (b : Bool) → EndsBetween (cond b (st.StartRecord, act.Skip) (start_field default_config c))
    by true is = absurd (true≢false (sym is))
    by false is = start_field_ends c is

step_ends : (s : State) (c : ℕ) → EndsBetween (step default_config s c)
step_ends st.StartRecord c = start_record_ends c
step_ends st.StartField c = start_field_ends c
step_ends st.InField c = field_ends c
step_ends st.InQuoted c = by (c == 34)
  where
    by : (b : Bool) → EndsBetween (cond b (st.AfterQuote, act.Skip) (st.InQuoted, act.Copy))
    by true is = absurd (true≢false (sym is))
    by false is = absurd (true≢false (sym is))
step_ends st.InEscape c = λ is. absurd (true≢false (sym is))
step_ends st.AfterQuote c = by (c == 34)
  where
    by : (b : Bool) → EndsBetween (cond b (st.InQuoted, act.Copy) (in_field default_config c))
    by true is = absurd (true≢false (sym is))
    by false is = field_ends c is
step_ends st.InComment c = by (c == 10)
  where
    by : (b : Bool) → EndsBetween (cond b (st.StartRecord, act.Skip) (st.InComment, act.Skip))
    by true is = absurd (true≢false (sym is))
    by false is = absurd (true≢false (sym is))
step_ends st.AfterCr c = by (c == 10)
  where
    by : (b : Bool) → EndsBetween (cond b (st.StartRecord, act.Skip) (start_record default_config c))
    by true is = absurd (true≢false (sym is))
    by false is = start_record_ends c is

-- a record that was read leaves such a state, and fewer bytes where there were some
pub record Shortens (xs : List ℕ) (p : Read) : Type 0 where
  pub between : IsBetween p.1
  pub most : length p.2 ≤ length xs
  pub less : 0 < length xs → length p.2 < length xs

some_of : {A : Type 0} (x y : A) → Some x ≡ Some y → x ≡ y
some_of x y same = cc

shortens : (s : State) (fields : List (List ℕ)) (field xs : List ℕ) (p : Read) → next_record default_config s fields field xs ≡ Some p → Shortens xs p
unfolding next_record
shortens s fields field [] p is = by (ends_at_end s) is
  where
    by : (b : Bool) → cond b (Some (fields ++ (field ∷ []), st.StartRecord, [])) None ≡ Some p → Shortens [] p
    by true is = subst (Shortens []) (some_of (fields ++ (field ∷ []), st.StartRecord, []) p is) (record { between = inl refl; most = omega arith; less = λ some. absurd (omega (arith, some)) })
    by false is = absurd (cc (is))
shortens s fields field (c ∷ rest) p is =
    by (is_end (step default_config s c).1) refl is (λ found. shortens (step default_config s c).0 (fields_after (step default_config s c).1 fields field) (field_after (step default_config s c).1 c field) rest p found)
  where
    by : (b : Bool) → is_end (step default_config s c).1 ≡ b
        → cond b (Some (fields_after (step default_config s c).1 fields field, (step default_config s c).0, rest)) (next_record default_config (step default_config s c).0 (fields_after (step default_config s c).1 fields field) (field_after (step default_config s c).1 c field) rest) ≡ Some p
        → (next_record default_config (step default_config s c).0 (fields_after (step default_config s c).1 fields field) (field_after (step default_config s c).1 c field) rest ≡ Some p → Shortens rest p)
        → Shortens (c ∷ rest) p
    by true ends is later =
        subst (Shortens (c ∷ rest)) (some_of (fields_after (step default_config s c).1 fields field, (step default_config s c).0, rest) p is)
        (record { between = step_ends s c ends; most = omega arith; less = λ some. omega arith })
    by false goes is later =
        let behind = later is in
        record { between = behind.between; most = omega (arith, behind.most); less = λ some. omega (arith, behind.most) }

-- none is left of no bytes between two records
none_left : (s : State) → IsBetween s → next_record default_config s [] [] [] ≡ None
unfolding next_record
none_left s (inl is) = ap (λ (t : State). cond (ends_at_end t) (Some ([] ++ ([] ∷ []), st.StartRecord, [])) None) is
none_left s (inr is) = ap (λ (t : State). cond (ends_at_end t) (Some ([] ++ ([] ∷ []), st.StartRecord, [])) None) is

none_some : (p : Read) → None ≡ Some p → ⊥
none_some p same = cc

some_bytes : (s : State) (xs : List ℕ) (p : Read) → IsBetween s → next_record default_config s [] [] xs ≡ Some p → 0 < length xs
some_bytes s [] p between is = absurd (none_some p (sym (none_left s between) ∙ is))
some_bytes s (c ∷ rest) p between is = omega arith

abbrev Rows : Type 0
Rows = List (List (List ℕ))

read_on : (n : ℕ) (s s2 : State) (xs ys : List ℕ) (rows : Rows) → IsBetween s → length xs < n → Reached default_config s xs rows s2 ys → next_record default_config s2 [] [] ys ≡ None
    → records_from default_config n s xs ≡ rows
unfolding records_from Reached
read_on zero s s2 xs ys rows between few reached ends = absurd (omega (arith, few))
read_on (suc n) s s2 xs ys [] between few reached ends =
    ap (records_next (records_from default_config n)) (ap (λ (t : State × List ℕ). next_record default_config t.0 [] [] t.1) (λ i. (reached.0 i, reached.1 i)) ∙ ends)
read_on (suc n) s s2 xs ys (r ∷ rs) between few reached ends =
    let p : Read = reached.0 in
    let short = shortens s [] [] xs p reached.1 in
    let less = short.less (some_bytes s xs p between reached.1) in
    ap (records_next (records_from default_config n)) reached.1
    ∙ ap (λ (row : List (List ℕ)). row ∷ records_from default_config n p.1 p.2) (sym reached.2)
    ∙ ap (λ (rest : Rows). r ∷ rest) (read_on n p.1 s2 p.2 ys rs short.between (omega (arith, less, few)) reached.3 ends)

pub rows_are_records : RowsAreRecords
rows_are_records table rows are =
    let text : List ℕ = strip_bom table in
    ap (λ (n : ℕ). records_from default_config n st.StartRecord text) (add-one (length text))
    ∙ read_on (suc (length text)) st.StartRecord are.0 text are.1 rows (inl refl) (omega arith) are.2 are.3

-- ---- why a reader fails

-- one that takes records of any length, and as bytes, fails by the reader underneath or for want of memory
pub stops : {R : Type 0} (rem : R → Option (List ℕ)) (old new : Reader R) (k : ErrorKind) → is_flexible old ≡ true → ExplainsRead rem old new false k → stops_reader k ≡ true
stops rem old new (kind.Io e) flexible why = refl
stops rem old new kind.OutOfMemory flexible why = refl
stops rem old new (kind.UnequalLengths pos expected len) flexible why = absurd (true≢false (sym flexible ∙ why.0))
stops rem old new (kind.Utf8 pos err) flexible why = absurd (true≢false (sym why.0))
stops rem old new (kind.Serialize err) flexible why = absurd why
stops rem old new (kind.Deserialize pos err) flexible why = absurd why
