-- The text of a package is read as its members.
use Rattle.std.proofs.Common.{◌≡◌, ◌≤◌, ◌<◌, ℕ, zero, suc, ◌+◌, ◌-◌, ◌*◌, take, append-nil, Bool, true, false, ◌&&◌, cond, List, [], ◌∷◌, ◌++◌, length, Option, Some, None, Result, Ok, Err, refl, sym, ap, subst, ◌∙◌, arith, append_assoc, length-append}
use Rattle.std.specs.Prelude.{codes, decimal, option_and_then, ⊤, IsTrue, nat_lt, nat_le}
use Rattle.std.specs.List.{flat_map}
use Rattle.std.proofs.lemmas.Bool.{and_parts}
use Rattle.std.proofs.lemmas.Fmt.{length-decimal-le}
use Rattle.std.proofs.lemmas.List.{take_all}
use Rattle.std.proofs.lemmas.Bool.Decides.{nat_tests}
use mathlib.Core.Bool.{true≢false}
use Rattle.news_types.specs.Names.{Bytes}
use Rattle.news_types.specs.Members.{Each}
use Rattle.byte_formats.specs.Format.{pair}
use Rattle.byte_formats.specs.Until.{word, numeral, literal, literal_at}
use Rattle.byte_formats.specs.Gives.{Fails, IsFault}
use Rattle.byte_formats.specs.declared.stop.Stopped.{Stopped}
use Rattle.byte_formats.specs.declared.stop.Stopped.TheVariants as stopped
use Rattle.byte_formats.specs.Lawful.{IsBytes, Lawful}
use Rattle.byte_formats.specs.Spelling.{IsName}
use Rattle.byte_formats.proofs.Laws.{via, IsBytes-behind}
use Rattle.byte_formats.proofs.Fields.{pair_lawful}
use Rattle.byte_formats.proofs.Words.{word_lawful, literal_lawful}
use Rattle.byte_formats.proofs.Names.{name_parts}
use Rattle.byte_formats.proofs.Numerals.{numeral_lawful}
use Rattle.news_types.specs.declared.story.Story.{Story}
use Rattle.news_types.specs.Fits.{FitsStory}
use Rattle.package_members.specs.declared.member.Member.{Member}
use Rattle.package_members.specs.Members.{make_package, are_items, are_apart}
use Rattle.package_rules.specs.Composed.{with_body, IsComposed}
use Rattle.package_rules.specs.Text.{member_line, head_line, package_text, IsMember, IsTextOf, member_fields, member_from, member_at, member, behind, put_first, members_at, lines_of, only_package, package_of, PackagesAreReadAgain}

-- ---- one line

line_is : (t n : List ℕ) → t ++ 32 ∷ (n ++ 10 ∷ []) ≡ (t ++ 32 ∷ []) ++ (n ++ 10 ∷ [])
line_is t n = simp append_assoc

abbrev AreFields : Bytes × ℕ → Type 0
AreFields x = IsName x.0 × ((1 ≤ x.1) × (x.1 ≤ 4294967295))

fields_lawful : Lawful member_fields AreFields
fields_lawful =
    pair_lawful word IsName (numeral 10 1 4294967295) (λ n. (1 ≤ n) × (n ≤ 4294967295)) word_lawful
    (numeral_lawful 10 1 4294967295 (omega arith) (omega arith) (omega arith) (omega arith))

pub member_lawful : Lawful member IsMember
unfolding member_at
member_lawful =
    via member_fields AreFields member IsMember member_from fields_lawful (λ bytes. refl)
    (λ a p. (record { role = p.0; first = p.1.0; last = p.1.1 }, line_is a.0 (decimal a.1)))
    (λ m q. ((m.role, m.item), (q.role, (q.first, q.last)), refl))

head_bytes : IsBytes head_line
head_bytes = (omega arith, (omega arith, (omega arith, (omega arith, (omega arith, (omega arith, (omega arith, (omega arith, tt))))))))

head_lawful : Lawful (literal head_line) (λ _. Unit {0})
head_lawful = literal_lawful head_line head_bytes

-- ---- the lines up to the end

abbrev on : ℕ → Member → Bytes → Option (List Member)
on n m rest = put_first m (members_at rest n)

pub one_line : (bytes : Bytes) (n : ℕ) → (bytes ≡ [] → ⊥) → members_at bytes (suc n) ≡ behind (member_at bytes) (on n)
unfolding members_at
one_line [] n some = absurd (some refl)
one_line (b ∷ bytes) n some = refl

pub no_line : (n : ℕ) → members_at [] n ≡ Some []
unfolding members_at
no_line n = refl

pub too_many : (bytes : Bytes) → (bytes ≡ [] → ⊥) → members_at bytes 0 ≡ None
unfolding members_at
too_many [] some = absurd (some refl)
too_many (b ∷ bytes) some = refl

line_there : (m : Member) (rest : Bytes) → member_line m ++ rest ≡ [] → ⊥
line_there m rest none =
    let long = length-append (member_line m) rest in
    let inner = length-append m.role (32 ∷ (decimal m.item ++ 10 ∷ [])) in
    omega (arith, ap length none, long, inner)

pub lines_again : (ms : List Member) (n : ℕ) → Each IsMember ms → length ms ≤ n → members_at (flat_map member_line ms) n ≡ Some ms
lines_again [] n each few = no_line n
lines_again (m ∷ ms) zero each few = absurd (omega (arith, few))
lines_again (m ∷ ms) (suc n) each few =
    one_line (member_line m ++ flat_map member_line ms) n (line_there m (flat_map member_line ms))
    ∙ ap (λ (r : Result (Member × Bytes) ℕ). behind r (on n)) (member_lawful.again m (flat_map member_line ms) each.0)
    ∙ ap (put_first m) (lines_again ms n each.1 (omega (arith, few)))

some_of : {A : Type 0} (x y : A) → Some x ≡ Some y → x ≡ y
some_of x y same = cc

first_of : (m : Member) (o : Option (List Member)) (ms : List Member) → put_first m o ≡ Some ms → (rest : List Member) × (o ≡ Some rest) × (ms ≡ m ∷ rest)
first_of m None ms is = absurd (cc (is))
first_of m (Some rest) ms is = (rest, refl, sym (some_of (m ∷ rest) ms is))

abbrev AreLines : List Member → Bytes → Type 0
AreLines ms bytes = Each IsMember ms × (bytes ≡ flat_map member_line ms)

cons_there : (b : ℕ) (bytes : Bytes) → b ∷ bytes ≡ [] → ⊥
cons_there b bytes none = absurd (cc (none))

pub lines_take : (n : ℕ) (bytes : Bytes) (ms : List Member) → IsBytes bytes → members_at bytes n ≡ Some ms → AreLines ms bytes
lines_take n [] ms ib is = subst (λ (l : List Member). AreLines l []) (some_of [] ms (sym (no_line n) ∙ is)) (tt, refl)
lines_take zero (b ∷ bytes) ms ib is = absurd (none_some (sym (too_many (b ∷ bytes) (cons_there b bytes)) ∙ is))
  where
    none_some : None ≡ Some ms → ⊥
    none_some same = cc
lines_take (suc n) (b ∷ bytes) ms ib is = by (member_at (b ∷ bytes)) refl (sym (one_line (b ∷ bytes) n (cons_there b bytes)) ∙ is) (λ left found are read. lines_take n left found are read)
  where
    by : (r : Result (Member × Bytes) ℕ) → member_at (b ∷ bytes) ≡ r → behind r (on n) ≡ Some ms
        → ((left : Bytes) (found : List Member) → IsBytes left → members_at left n ≡ Some found → AreLines found left) → AreLines ms (b ∷ bytes)
    by (Err left) read is others = absurd (cc (is))
    by (Ok x) read is others =
        let taken = member_lawful.takes (b ∷ bytes) x.0 x.1 ib read in
        let parts = first_of x.0 (members_at x.1 n) ms is in
        let behind_bytes = IsBytes-behind (member_line x.0) x.1 (subst IsBytes taken.1 ib) in
        let rest = others x.1 parts.0 behind_bytes parts.1 in
        subst (λ (l : List Member). AreLines l (b ∷ bytes)) (sym parts.2) ((taken.0, rest.0), taken.1 ∙ ap (λ (l : Bytes). member_line x.0 ++ l) rest.1)

-- ---- the whole text

few_members : (ms : List Member) → make_package ms ≡ true → length ms ≤ 64
few_members ms make =
    let some : Bool = nat_lt 0 (length ms) in
    let few : Bool = nat_le (length ms) 64 in
    let one = and_parts (some && few && are_items ms) (are_apart ms) make in
    let two = and_parts (some && few) (are_items ms) one.0 in
    let three = and_parts some few two.0 in
    grind (arith, nat_tests, three.1)

abbrev from_head : Result (⊤ × Bytes) ℕ → Option (List Member)
from_head r = behind r (λ u rest. members_at rest 64)

passes : (ms : List Member) → make_package ms ≡ true → only_package ms ≡ Some ms
passes ms make = ap (λ (b : Bool). cond b (Some ms) None) make

pub text_again : (ms : List Member) (bytes : Bytes) → IsTextOf ms bytes → package_of bytes ≡ Some ms
text_again ms bytes is =
    let read : lines_of bytes ≡ Some ms =
    ap lines_of is.text ∙ ap from_head (head_lawful.again tt (flat_map member_line ms) tt) ∙ lines_again ms 64 is.each (few_members ms is.make) in
    ap (option_and_then only_package) read ∙ passes ms is.make

only_passed : (ms found : List Member) → only_package ms ≡ Some found → (make_package found ≡ true) × (ms ≡ found)
only_passed ms found is = by (make_package ms) refl is
  where
    by : (b : Bool) → make_package ms ≡ b → cond b (Some ms) None ≡ Some found → (make_package found ≡ true) × (ms ≡ found)
    by true make is = let same = some_of ms found is in (ap make_package (sym same) ∙ make, same)
    by false make is = absurd (cc (is))

pub text_takes : (bytes : Bytes) (ms : List Member) → IsBytes bytes → package_of bytes ≡ Some ms → IsTextOf ms bytes
text_takes bytes ms ib is = by (literal_at head_line bytes) refl is
  where
    inside : (rest : Bytes) → bytes ≡ head_line ++ rest → (o : Option (List Member)) → members_at rest 64 ≡ o → option_and_then only_package o ≡ Some ms → IsTextOf ms bytes
    inside rest front None read is = absurd (cc (is))
    inside rest front (Some found) read is =
        let passed = only_passed found ms is in
        let lines = lines_take 64 rest ms (IsBytes-behind head_line rest (subst IsBytes front ib)) (read ∙ ap Some passed.1) in
        record { each = lines.0; make = passed.0; text = front ∙ ap (λ (l : Bytes). head_line ++ l) lines.1 }

    by : (r : Result (⊤ × Bytes) ℕ) → literal_at head_line bytes ≡ r → option_and_then only_package (from_head r) ≡ Some ms → IsTextOf ms bytes
    by (Err left) read is = absurd (cc (is))
    by (Ok x) read is = inside x.1 (head_lawful.takes bytes x.0 x.1 ib read).1 (members_at x.1 64) refl is

none_of : (bytes : Bytes) (o : Option (List Member)) → ((ms : List Member) → o ≡ Some ms → ⊥) → o ≡ None
none_of bytes None other = refl
none_of bytes (Some ms) other = absurd (other ms refl)

pub read_again : PackagesAreReadAgain
read_again = record {
  again = text_again;
  others = λ bytes ib other. none_of bytes (package_of bytes) (λ ms is. other ms (text_takes bytes ms ib is));
}

-- ---- the lines that are still to be read

-- these members, and then those that are read
abbrev pub put_all : List Member → Option (List Member) → Option (List Member)
put_all xs None = None
put_all xs (Some ys) = Some (xs ++ ys)

-- so many were read, and the rest of the bytes has the others
abbrev pub ReadSoFar : List Member → Bytes → Bytes → Type 0
ReadSoFar xs bytes all = (length xs ≤ 64) × (put_all xs (members_at bytes (64 - length xs)) ≡ members_at all 64)

put_none : (o : Option (List Member)) → put_all [] o ≡ o
put_none None = refl
put_none (Some ys) = refl

pub none_read : (all : Bytes) → ReadSoFar [] all all
none_read all = (omega arith, put_none (members_at all 64))

put_one : (xs : List Member) (m : Member) (o : Option (List Member)) → put_all xs (put_first m o) ≡ put_all (xs ++ m ∷ []) o
put_one xs m None = refl
put_one xs m (Some ys) = ap Some (sym (append_assoc xs (m ∷ []) ys))

some_bytes : (bytes : Bytes) → 0 < length bytes → bytes ≡ [] → ⊥
some_bytes bytes some none = omega (arith, some, ap length none)

-- with one member more
pub one_read : (xs : List Member) (bytes all : Bytes) (m : Member) (rest : Bytes) → 0 < length bytes → length xs < 64 → member_at bytes ≡ Ok (m, rest) → ReadSoFar xs bytes all → ReadSoFar (xs ++ m ∷ []) rest all
one_read xs bytes all m rest some few read so_far =
    let n : ℕ = 64 - (length xs + 1) in
    let long : length (xs ++ m ∷ []) ≡ length xs + 1 = omega (arith, length-append xs (m ∷ [])) in
    let before : 64 - length xs ≡ suc n = omega (arith, few) in
    let step : members_at bytes (64 - length xs) ≡ put_first m (members_at rest n) =
    ap (members_at bytes) before ∙ one_line bytes n (some_bytes bytes some) ∙ ap (λ (r : Result (Member × Bytes) ℕ). behind r (on n)) read in (
      omega (arith, long, few),
      ap (λ (k : ℕ). put_all (xs ++ m ∷ []) (members_at rest (64 - k))) long ∙ sym (put_one xs m (members_at rest n)) ∙ sym (ap (put_all xs) step) ∙ so_far.1,
    )

-- all lines were read
pub all_read : (xs : List Member) (bytes all : Bytes) → length bytes ≤ 0 → ReadSoFar xs bytes all → Some xs ≡ members_at all 64
all_read xs [] all none so_far = ap Some (sym (append-nil xs)) ∙ sym (ap (put_all xs) (no_line (64 - length xs))) ∙ so_far.1
all_read xs (b ∷ bytes) all none so_far = absurd (omega (arith, none))

-- there are too many
pub none_more : (xs : List Member) (bytes all : Bytes) → 0 < length bytes → length xs ≡ 64 → ReadSoFar xs bytes all → None ≡ members_at all 64
none_more xs bytes all some full so_far =
    let left : 64 - length xs ≡ 0 = omega (arith, full) in
    sym (ap (λ (k : ℕ). put_all xs (members_at bytes k)) left ∙ ap (put_all xs) (too_many bytes (some_bytes bytes some))) ∙ so_far.1

-- a line is no member's
pub bad_line : (xs : List Member) (bytes all : Bytes) (left : ℕ) → 0 < length bytes → length xs < 64 → member_at bytes ≡ Err left → ReadSoFar xs bytes all → None ≡ members_at all 64
bad_line xs bytes all left some few read so_far =
    let n : ℕ = 64 - (length xs + 1) in
    let before : 64 - length xs ≡ suc n = omega (arith, few) in
    sym (ap (put_all xs) (ap (members_at bytes) before ∙ one_line bytes n (some_bytes bytes some) ∙ ap (λ (r : Result (Member × Bytes) ℕ). behind r (on n)) read)) ∙ so_far.1

pub fails_at : {A : Type 0} (e : Stopped) (read : Result A ℕ) → IsFault e → Fails e read → (left : ℕ) × (read ≡ Err left)
fails_at stopped.Memory read calm fails = absurd calm
fails_at (stopped.Left left) read calm fails = (left, fails)

-- ---- the text as it is written

abbrev pub IsForm : Member → Type 0
IsForm m = IsName m.role × (m.item ≤ 4294967295)

-- the text of these members, of which each is of its form
abbrev pub AreWritten : Bytes → List Member → Type 0
AreWritten text members = Each IsForm members × (text ≡ package_text members)

each_member : (ms : List Member) → Each IsForm ms → are_items ms ≡ true → Each IsMember ms
each_member [] each items = tt
each_member (m ∷ ms) each items =
    let parts = and_parts (nat_lt 0 m.item) (are_items ms) items in
    (record { role = each.0.0; first = grind (arith, nat_tests, parts.0); last = each.0.1 }, each_member ms each.1 parts.1)

of_items : (ms : List Member) → make_package ms ≡ true → are_items ms ≡ true
of_items ms make = (and_parts _ (are_items ms) (and_parts _ (are_apart ms) make).0).1

-- all members were written
pub written : (ms : List Member) (k : ℕ) (text bytes : Bytes) → IsTrue (make_package ms) → length ms ≤ k → AreWritten text (take k ms) → bytes ≡ text → IsTextOf ms bytes
written ms k text bytes make all so_far same =
    let now : AreWritten text ms = subst (AreWritten text) (take_all k ms all) so_far in
    record { each = each_member ms now.0 (of_items ms make); make = make; text = same ∙ now.1 }

-- ---- what `read_package` answers

pub read_found : (bytes : Bytes) (ms : List Member) → IsBytes bytes → Some ms ≡ lines_of bytes → make_package ms ≡ true → IsTextOf ms bytes
read_found bytes ms ib lines make = text_takes bytes ms ib (ap (option_and_then only_package) (sym lines) ∙ passes ms make)

pub read_only : (bytes : Bytes) (o : Option (List Member)) → o ≡ package_of bytes → (ms : List Member) → IsTextOf ms bytes → o ≡ Some ms
read_only bytes o is ms text = is ∙ text_again ms bytes text

-- there are no lines of members, or no package can be made of these
pub no_package : (bytes : Bytes) (o : Option (List Member)) → o ≡ lines_of bytes → option_and_then only_package o ≡ None → (ms : List Member) → IsTextOf ms bytes → None ≡ Some ms
no_package bytes o is none ms text = sym none ∙ ap (option_and_then only_package) is ∙ text_again ms bytes text

pub makes_none : (ms : List Member) → make_package ms ≡ false → only_package ms ≡ None
makes_none ms none = ap (λ (b : Bool). cond b (Some ms) None) none

pub some_package : (bytes : Bytes) (ms : List Member) → Some ms ≡ lines_of bytes → make_package ms ≡ true → Some ms ≡ package_of bytes
some_package bytes ms lines make = sym (passes ms make) ∙ ap (option_and_then only_package) lines

-- ---- how long it is

line_short : (m : Member) → IsMember m → length (member_line m) ≤ 44
line_short m is =
    let whole = length-append m.role (32 ∷ (decimal m.item ++ 10 ∷ [])) in
    let digits = length-append (decimal m.item) (10 ∷ []) in
    let few = length-decimal-le 10 m.item (omega arith) (omega (arith, is.last)) (omega (arith, is.last)) in
    let name = name_parts m.role is.role in
    omega (arith, whole, digits, few, name.1)

lines_short : (ms : List Member) → Each IsMember ms → length (flat_map member_line ms) ≤ 44 * length ms
lines_short [] each = omega arith
lines_short (m ∷ ms) each =
    omega (arith, length-append (member_line m) (flat_map member_line ms), line_short m each.0, lines_short ms each.1)

pub text_short : (ms : List Member) (bytes : Bytes) → IsTextOf ms bytes → length bytes ≤ 2824
text_short ms bytes is =
    let long : length bytes ≡ length (package_text ms) = ap length is.text in
    omega (arith, long, length-append head_line (flat_map member_line ms), lines_short ms is.each, few_members ms is.make)

pub composed_fits : (story made : Story) (given members : List Member) (body : Bytes) → FitsStory story → IsTextOf given body → made ≡ with_body story body → members ≡ given
    → IsComposed (record { story = made; members = members })
composed_fits story made given members body fits is made_is members_are = record {
  make = subst (λ (ms : List Member). make_package ms ≡ true) (sym members_are) is.make;
  fits = subst FitsStory (sym made_is) (record {
    urgency = fits.urgency;
    slugline = fits.slugline;
    headline = fits.headline;
    byline = fits.byline;
    language = fits.language;
    category = fits.category;
    body = (let short = text_short given body is in omega (arith, short));
    copyright = fits.copyright;
  });
}
