-- The rule's text says what the rule does.
use Rattle.std.specs.Prelude.{◌≡◌, ◌↔◌, ℕ, ℤ, Bool, true, false, List, Option, Some, None, option_map, cond, Result, Ok, Err, IsOk, IfOk, IsSome, is_some, ◌||◌}
use Rattle.std.specs.Result.{result_ok}
use Rattle.std.proofs.Common.{refl, sym, ap, ◌∙◌}
use Rattle.std.proofs.lemmas.Bool.{false≢true}
use Rattle.std.proofs.lemmas.Option.{none-some}
use Rattle.jiff.specs.Placed.{IsPosixZone}
use Rattle.jiff.specs.ZoneView.{plain_zone}
use Rattle.jiff.specs.declared.tz.timezone.TimeZone.{TimeZone as Zone}
use Rattle.jiff_core.specs.declared.error.Error.{Error}
use Rattle.jiff_tz.specs.PosixReader.{read_whole}
use Rattle.jiff_tz.specs.PosixText.{TzText}
use Rattle.jiff_tz.specs.Zone.{offset_at}
use Rattle.jiff_tz.specs.declared.timezone.TimeZone.{TimeZone as PlainZone}
use Rattle.jiff_tz.specs.declared.timezone.TimeZone.TheVariants.{UTC, Unknown, Fixed, Posix, Tzif}
use Rattle.jiff_tz.specs.PosixRule as PosixRule
use Rattle.jiff_tz.specs.PosixRule.{utc_window, rule_nanos, in_window, match_some}
use Rattle.jiff_tz.specs.PosixText.{tz_view, dst_view}
use Rattle.jiff_tz.specs.Year.{year_of_nanos}
use Rattle.jiff_tz.specs.declared.posix.TimeZone.{TimeZone}
use Rattle.jiff_tz.specs.declared.posix.Dst.{Dst}
use Rattle.jiff_core.specs.declared.Offset.{Offset}
use Rattle.news_types.specs.Clock.{rule_offset, rule_offset_by, window, or_rule}

pub window-view : (d : Dst) (y : ℤ) (std : Offset) → window (dst_view d) y std.seconds ≡ utc_window d y std
unfolding utc_window rule_nanos
window-view d y std = refl

by_view : (std : Offset) (dst : Option Dst) (n : ℤ) → rule_offset_by std.seconds (option_map dst_view dst) n ≡ (match_some (PosixRule.dst_at_by std dst n) std (λ d. d.offset)).seconds
by_view std None n = refl
by_view std (Some d) n = rw (window-view d (year_of_nanos n) std) (picked (in_window (utc_window d (year_of_nanos n) std) n))
  where
    picked : (b : Bool) → cond b d.offset.seconds std.seconds ≡ (match_some (cond b (Some d) None) std (λ d. d.offset)).seconds
    picked true = refl
    picked false = refl

pub rule_offset-view : (tz : TimeZone) (n : ℤ) → rule_offset (tz_view tz) n ≡ (PosixRule.offset_at tz n).seconds
rule_offset-view tz n = by_view tz.std_offset tz.dst n

-- ---- a zone that was read from its text

by_zone : (text : List ℕ) (zone : PlainZone) (n : ℤ) → IsPosixZone text zone → Some (offset_at zone n) ≡ option_map (λ tz. rule_offset tz n) (read_whole text)
unfolding offset_at
by_zone text UTC n h = absurd h
by_zone text Unknown n h = absurd h
by_zone text (Fixed o) n h = absurd h
by_zone text (Posix rule) n h = sym (ap (option_map (λ tz. rule_offset tz n)) h ∙ ap (λ z. Some z) (rule_offset-view rule n))
by_zone text (Tzif z) n h = absurd h

refused : (rule : Option TzText) (n : ℤ) → (IsSome rule → ⊥) → None ≡ option_map (λ tz. rule_offset tz n) rule
refused None n h = refl
refused (Some tz) n h = absurd (h refl)

pub posix_offset : (r : Result Zone Error) (text : List ℕ) (n : ℤ) → (IsOk r ↔ IsSome (read_whole text)) → IfOk r (λ tz. IsPosixZone text (plain_zone tz))
    → option_map (λ zone. offset_at (plain_zone zone) n) (result_ok r) ≡ option_map (λ tz. rule_offset tz n) (read_whole text)
posix_offset (Ok zone) text n ok is = by_zone text (plain_zone zone) n is
posix_offset (Err e) text n ok is = refused (read_whole text) n (λ s. false≢true (ok.1 s))

-- a zone is there where its offset is
some_rule : {A B : Type 0} (o : Option A) (rule : Option B) (f : A → ℤ) (g : B → ℤ) → option_map f o ≡ option_map g rule → is_some o ≡ is_some rule
some_rule None None f g e = refl
some_rule (Some a) (Some b) f g e = refl
some_rule None (Some b) f g e = absurd (none-some _ e)
some_rule (Some a) None f g e = absurd (none-some _ (sym e))

pub zone_there : {A : Type 0} (o : Option A) (fixed : Option ℤ) (rule : Option TzText) (n : ℤ) (f : A → ℤ) → option_map f o ≡ or_rule fixed rule n → is_some o ≡ (is_some fixed || is_some rule)
zone_there (Some a) (Some s) rule n f e = refl
zone_there None (Some s) rule n f e = absurd (none-some _ e)
zone_there o None rule n f e = some_rule o rule f (λ tz. rule_offset tz n) e
