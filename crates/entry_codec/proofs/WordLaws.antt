-- The laws of words, moments and privileges.
use Rattle.std.proofs.Common.{◌≡◌, ℕ, zero, suc, ◌<◌, ◌≤◌, ◌^◌, List, [], ◌∷◌, Result, Ok, Err, refl, ap, arith}
use Rattle.std.specs.Int.{w16, w64}
use Rattle.news_types.specs.declared.words.Media.{Media}
use Rattle.news_types.specs.declared.words.Media.TheVariants as media
use Rattle.news_types.specs.declared.words.PubStatus.{PubStatus}
use Rattle.news_types.specs.declared.words.PubStatus.TheVariants as status
use Rattle.news_types.specs.declared.words.Field.{Field}
use Rattle.news_types.specs.declared.words.Field.TheVariants as field
use Rattle.news_types.specs.declared.words.Op.{Op}
use Rattle.news_types.specs.declared.words.Op.TheVariants as op
use Rattle.news_types.specs.declared.words.How.{How}
use Rattle.news_types.specs.declared.words.How.TheVariants as how
use Rattle.news_types.specs.declared.words.Format.{Format as FeedFormat}
use Rattle.news_types.specs.declared.words.Format.TheVariants as format
use Rattle.news_types.specs.declared.words.Privileges.{Privileges}
use Rattle.byte_formats.specs.Format.{Format, ◌>>=◌, ranged, upto}
use Rattle.byte_formats.proofs.Laws.{Lawful, via}
use Rattle.byte_formats.proofs.Fields.{ranged_lawful}
use Rattle.byte_formats.proofs.Numbers.{wide16, wide64, upto_lawful}
use Rattle.entry_codec.specs.Spelling.{media_number, status_number, field_number, op_number, how_number, format_number}
use Rattle.news_types.specs.Fits.{IsMoment}
use Rattle.entry_codec.specs.Reading as reading
use Rattle.entry_codec.specs.Reading.{worded, media_by, status_by, field_by, op_by, how_by, format_by, kind_at, status_at, field_at, op_at, how_at, feed_format_at, privileges_at}

abbrev pub Any : {A : Type 0} → A → Type 0
Any x = Unit {0}

pub read_again : {A : Type 0} (r : Result (A × List ℕ) ℕ) → r ≡ (r >>= λ x. Ok (x.0, x.1))
read_again (Ok x) = refl
read_again (Err e) = refl

-- the same format, whose values are told otherwise
pub retold : {A : Type 0} (F : Format A) (P Q : A → Type 0) → Lawful F P → ((x : A) → P x → Q x) → ((x : A) → Q x → P x) → Lawful F Q
retold F P Q law to back = via F P F Q (λ x. x) law (λ bytes. read_again (F.read bytes)) (λ x p. (to x p, refl)) (λ x q. (x, back x q, refl))

-- a word that a number has, and that has the number
worded_lawful : {A : Type 0} (most : ℕ) (by : ℕ → A) (number : A → ℕ) → ((n : ℕ) → n ≤ most → number (by n) ≡ n) → ((w : A) → (number w ≤ most) × (by (number w) ≡ w)) → Lawful (worded most by number) Any
worded_lawful most by number numbers words =
    via (ranged 0 most) (λ b. (0 ≤ b) × (b ≤ most)) (worded most by number) Any by (ranged_lawful 0 most (omega arith)) (λ bytes. refl)
    (λ n h. (tt, ap (λ (k : ℕ). k ∷ []) (numbers n h.1))) (λ w u. (number w, (omega arith, (words w).0), (words w).1))

media_numbers : (n : ℕ) → n ≤ 5 → media_number (media_by n) ≡ n
media_numbers zero h = refl
media_numbers (suc zero) h = refl
media_numbers (suc (suc zero)) h = refl
media_numbers (suc (suc (suc zero))) h = refl
media_numbers (suc (suc (suc (suc zero)))) h = refl
media_numbers (suc (suc (suc (suc (suc n))))) h = omega arith

media_words : (w : Media) → (media_number w ≤ 5) × (media_by (media_number w) ≡ w)
media_words media.Text = (omega arith, refl)
media_words media.Audio = (omega arith, refl)
media_words media.Video = (omega arith, refl)
media_words media.Picture = (omega arith, refl)
media_words media.Graphic = (omega arith, refl)
media_words media.Composite = (omega arith, refl)

pub kind_lawful : Lawful reading.kind Any
unfolding kind_at
kind_lawful = worded_lawful 5 media_by media_number media_numbers media_words

status_numbers : (n : ℕ) → n ≤ 2 → status_number (status_by n) ≡ n
status_numbers zero h = refl
status_numbers (suc zero) h = refl
status_numbers (suc (suc n)) h = omega arith

status_words : (w : PubStatus) → (status_number w ≤ 2) × (status_by (status_number w) ≡ w)
status_words status.Usable = (omega arith, refl)
status_words status.Withheld = (omega arith, refl)
status_words status.Canceled = (omega arith, refl)

pub status_lawful : Lawful reading.status Any
unfolding status_at
status_lawful = worded_lawful 2 status_by status_number status_numbers status_words

field_numbers : (n : ℕ) → n ≤ 7 → field_number (field_by n) ≡ n
field_numbers zero h = refl
field_numbers (suc zero) h = refl
field_numbers (suc (suc zero)) h = refl
field_numbers (suc (suc (suc zero))) h = refl
field_numbers (suc (suc (suc (suc zero)))) h = refl
field_numbers (suc (suc (suc (suc (suc zero))))) h = refl
field_numbers (suc (suc (suc (suc (suc (suc zero)))))) h = refl
field_numbers (suc (suc (suc (suc (suc (suc (suc n))))))) h = omega arith

field_words : (w : Field) → (field_number w ≤ 7) × (field_by (field_number w) ≡ w)
field_words field.Slugline = (omega arith, refl)
field_words field.Headline = (omega arith, refl)
field_words field.Byline = (omega arith, refl)
field_words field.Language = (omega arith, refl)
field_words field.Category = (omega arith, refl)
field_words field.Body = (omega arith, refl)
field_words field.Urgency = (omega arith, refl)
field_words field.Kind = (omega arith, refl)

pub field_lawful : Lawful reading.field Any
unfolding field_at
field_lawful = worded_lawful 7 field_by field_number field_numbers field_words

op_numbers : (n : ℕ) → n ≤ 11 → op_number (op_by n) ≡ n
op_numbers zero h = refl
op_numbers (suc zero) h = refl
op_numbers (suc (suc zero)) h = refl
op_numbers (suc (suc (suc zero))) h = refl
op_numbers (suc (suc (suc (suc zero)))) h = refl
op_numbers (suc (suc (suc (suc (suc zero))))) h = refl
op_numbers (suc (suc (suc (suc (suc (suc zero)))))) h = refl
op_numbers (suc (suc (suc (suc (suc (suc (suc zero))))))) h = refl
op_numbers (suc (suc (suc (suc (suc (suc (suc (suc zero)))))))) h = refl
op_numbers (suc (suc (suc (suc (suc (suc (suc (suc (suc zero))))))))) h = refl
op_numbers (suc (suc (suc (suc (suc (suc (suc (suc (suc (suc zero)))))))))) h = refl
op_numbers (suc (suc (suc (suc (suc (suc (suc (suc (suc (suc (suc n))))))))))) h = omega arith

op_words : (w : Op) → (op_number w ≤ 11) × (op_by (op_number w) ≡ w)
op_words op.Eq = (omega arith, refl)
op_words op.Ne = (omega arith, refl)
op_words op.Within = (omega arith, refl)
op_words op.Nin = (omega arith, refl)
op_words op.Like = (omega arith, refl)
op_words op.NotLike = (omega arith, refl)
op_words op.StartsWith = (omega arith, refl)
op_words op.EndsWith = (omega arith, refl)
op_words op.Lt = (omega arith, refl)
op_words op.Lte = (omega arith, refl)
op_words op.Gt = (omega arith, refl)
op_words op.Gte = (omega arith, refl)

pub op_lawful : Lawful reading.op Any
unfolding op_at
op_lawful = worded_lawful 11 op_by op_number op_numbers op_words

how_numbers : (n : ℕ) → n ≤ 1 → how_number (how_by n) ≡ n
how_numbers zero h = refl
how_numbers (suc n) h = omega arith

how_words : (w : How) → (how_number w ≤ 1) × (how_by (how_number w) ≡ w)
how_words how.Permitting = (omega arith, refl)
how_words how.Blocking = (omega arith, refl)

pub how_lawful : Lawful reading.how Any
unfolding how_at
how_lawful = worded_lawful 1 how_by how_number how_numbers how_words

format_numbers : (n : ℕ) → n ≤ 1 → format_number (format_by n) ≡ n
format_numbers zero h = refl
format_numbers (suc n) h = omega arith

format_words : (w : FeedFormat) → (format_number w ≤ 1) × (format_by (format_number w) ≡ w)
format_words format.Ninjs = (omega arith, refl)
format_words format.Text7901 = (omega arith, refl)

pub feed_format_lawful : Lawful reading.feed_format Any
unfolding feed_format_at
feed_format_lawful = worded_lawful 1 format_by format_number format_numbers format_words

-- ---- moments and privileges

pub moment_lawful : Lawful reading.moment IsMoment
moment_lawful = retold reading.moment (λ n. n ≤ 253402300799) IsMoment (upto_lawful w64 (2 ^ 64) 253402300799 wide64 (omega arith)) (λ n h. omega arith) (λ n h. omega arith)

abbrev pub TenBits : Privileges → Type 0
TenBits p = p.bits < 1024

pub privileges_lawful : Lawful reading.privileges TenBits
unfolding privileges_at
privileges_lawful =
    via (upto w16 1023) (λ n. n ≤ 1023) reading.privileges TenBits (λ n. record { bits = n }) (upto_lawful w16 (2 ^ 16) 1023 wide16 (omega arith)) (λ bytes. refl)
    (λ n h. (omega arith, refl)) (λ p h. (p.bits, omega arith, refl))
