-- A text is read exactly as the moment that it is a text of, and a moment comes back from its own text.
use Rattle.std.specs.Prelude.{◌≡◌, ◌↔◌, ℕ, ℤ, pos, ◌≤◌, ◌-ℤ◌, ◌≤ℤ◌, ◌++◌, ◌||◌, nat_lt, int_lt, true, false, if◌then◌else◌, unsigned_abs, min, List, [], length, take, drop, Option, Some, None, option_and_then}
use Rattle.std.proofs.Common.{arith, refl, sym, ap, ◌∙◌}
use Rattle.std.proofs.lemmas.Bool.Decides.{nat_tests}
use Rattle.std.proofs.lemmas.Int.{ints}
use Rattle.std.proofs.lemmas.List.{take-append-drop}
use Rattle.jiff_core.proofs.SignedLemmas.{signed_arith, one_part}
use Rattle.release_rules.specs.Civil.{seconds_of, last_moment}
use Rattle.release_rules.specs.Texts.{Written, Utc, IsWritten, written_text, fraction_text, offset_text, offset_of, IsTextOf}
use Rattle.release_rules.specs.Reader.{clock_seconds_of, behind_fraction, offset_at, in_range, moment_at, moment_of}
use Rattle.release_rules.specs.Writer.{civil_at, moment_text}
use Rattle.release_rules.proofs.Digits.{behind_fraction-text, behind_fraction-some}
use Rattle.release_rules.proofs.Offsets.{offset_at-text, behind_fraction-offset, prefix_len-offset, offset_at-some}
use Rattle.release_rules.proofs.Clocks.{clock_seconds_of-text, clock_seconds_of-some}
use Rattle.release_rules.proofs.Days.{civil_at-is, civil_at-seconds}

pub in_range-moment_of : (text rest : List ℕ) (seconds offset : ℤ) → 19 ≤ length text
    → clock_seconds_of (take 19 text) ≡ Some seconds → behind_fraction (drop 19 text) ≡ Some rest → offset_at rest ≡ Some offset
    → in_range (seconds -ℤ offset) ≡ moment_of text
in_range-moment_of text rest seconds offset long clock zone at =
    let there : nat_lt (length text) 19 ≡ false = grind (arith, nat_tests) in
    rw (there, clock, zone, at) refl

in_range-pos : (moment : ℕ) → moment ≤ last_moment → in_range (pos moment) ≡ Some moment
in_range-pos moment le =
    let low : int_lt (pos moment) (pos 0) ≡ false = grind (arith, ints) in
    let high : int_lt (pos last_moment) (pos moment) ≡ false = grind (arith, ints) in
    rw (low, high) refl

in_range-some : (z : ℤ) (moment : ℕ) → in_range z ≡ Some moment → (z ≡ pos moment) × (moment ≤ last_moment)
in_range-some z moment e =
    elim (int_lt z (pos 0) || int_lt (pos last_moment) z) as (λ x. (int_lt z (pos 0) || int_lt (pos last_moment) z) ≡ x → (if x then None else Some (unsigned_abs z)) ≡ Some moment → (z ≡ pos moment) × (moment ≤ last_moment)) [
      | true ↦ λ out s. cc
      | false ↦ λ within s.
          let bounds : (pos 0 ≤ℤ z) × (z ≤ℤ pos last_moment) = (grind (arith, ints), grind (arith, ints)) in
          let value : unsigned_abs z ≡ moment = cc in
          (omega (arith, signed_arith, value, bounds, one_part z), omega (arith, signed_arith, value, bounds, one_part z))
    ] refl e

-- ---- what is a text of a moment is read as it

written_read : (w : Written) (moment : ℕ) → IsWritten w → moment ≤ last_moment → seconds_of w.clock -ℤ offset_of w.offset ≡ pos moment → moment_of (written_text w) ≡ Some moment
written_read w moment is le value =
    let long : 19 ≤ length (written_text w) = omega arith in
    let zone = behind_fraction-text w.fraction (offset_text w.offset) is.fraction (prefix_len-offset w.offset) (behind_fraction-offset w.offset) in
    let read = in_range-moment_of (written_text w) (offset_text w.offset) (seconds_of w.clock) (offset_of w.offset) long (clock_seconds_of-text w.clock is.clock) zone (offset_at-text w.offset is.offset) in
    sym read ∙ ap in_range value ∙ in_range-pos moment le

pub text_read : (text : List ℕ) (moment : ℕ) → IsTextOf text moment → moment_of text ≡ Some moment
text_read text moment is = ap moment_of is.spelled ∙ written_read is.parts moment is.form is.in_range is.value

-- ---- what is read as a moment is a text of it

parts_read : (text rest : List ℕ) (clock offset : ℤ) (moment : ℕ) → clock_seconds_of (take 19 text) ≡ Some clock → behind_fraction (drop 19 text) ≡ Some rest → offset_at rest ≡ Some offset → in_range (clock -ℤ offset) ≡ Some moment → IsTextOf text moment
parts_read text rest clock offset moment first zone last within =
    let c = clock_seconds_of-some (take 19 text) clock first in
    let f = behind_fraction-some (drop 19 text) rest zone in
    let o = offset_at-some rest offset last in
    let value = in_range-some (clock -ℤ offset) moment within in
    record {
      parts = record { clock = c.clock; fraction = f.digits; offset = o.offset };
      form = record { clock = c.form; fraction = f.form; offset = o.form };
      spelled = sym (take-append-drop 19 text) ∙ (λ i. c.spelled i ++ (f.spelled ∙ ap (λ (t : List ℕ). fraction_text f.digits ++ t) o.spelled) i);
      value = (λ i. c.value i -ℤ o.value i) ∙ value.0;
      in_range = value.1;
    }

pub read_text : (text : List ℕ) (moment : ℕ) → moment_of text ≡ Some moment → IsTextOf text moment
read_text text moment e =
    elim (nat_lt (length text) 19) as (λ x. (if x then None else moment_at (clock_seconds_of (take 19 text)) (option_and_then offset_at (behind_fraction (drop 19 text)))) ≡ Some moment → IsTextOf text moment) [
      | true ↦ λ s. cc
      | false ↦ λ s. elim (clock_seconds_of (take 19 text)) as (λ x. clock_seconds_of (take 19 text) ≡ x → moment_at x (option_and_then offset_at (behind_fraction (drop 19 text))) ≡ Some moment → IsTextOf text moment) [
        | Some clock ↦ λ first t. elim (behind_fraction (drop 19 text)) as (λ x. behind_fraction (drop 19 text) ≡ x → moment_at (Some clock) (option_and_then offset_at x) ≡ Some moment → IsTextOf text moment) [
          | Some rest ↦ λ zone u. elim (offset_at rest) as (λ x. offset_at rest ≡ x → moment_at (Some clock) x ≡ Some moment → IsTextOf text moment) [
            | Some offset ↦ λ last v. parts_read text rest clock offset moment first zone last v
            | None ↦ λ last v. cc
          ] refl u
          | None ↦ λ zone u. cc
        ] refl t
        | None ↦ λ first t. cc
      ] refl s
    ] e

pub reads_as : (text : List ℕ) (read : Option ℕ) → read ≡ moment_of text → (moment : ℕ) → (read ≡ Some moment) ↔ IsTextOf text moment
reads_as text read value moment = (λ e. read_text text moment (sym value ∙ e), λ is. value ∙ text_read text moment is)

-- ---- the text that is written

pub moment_text-is : (moment : ℕ) → IsTextOf (moment_text moment) (min moment last_moment)
moment_text-is moment =
    let kept = min moment last_moment in
    let le : kept ≤ last_moment = omega arith in
    record {
      parts = record { clock = civil_at kept; fraction = []; offset = Utc };
      form = record { clock = civil_at-is kept le; fraction = record { decimal = refl; few = omega arith }; offset = tt };
      spelled = refl;
      value = omega (arith, signed_arith, civil_at-seconds kept le);
      in_range = le;
    }
