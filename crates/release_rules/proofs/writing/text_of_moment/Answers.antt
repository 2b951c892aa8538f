use Rattle.std.proofs.Common.{◌≡◌, arith, ap, sym, ◌∙◌, ◌∷◌, [], ◌++◌, ◌≤◌, ◌/◌, ◌%◌, get_or, subst, List}
use Rattle.std.specs.Prelude.{ℕ, pos, min, codes}
use Rattle.jiff_core.specs.DateTime.{civil_seconds}
use Rattle.jiff_core.proofs.SignedLemmas.{signed_arith}
use Rattle.jiff_core.proofs.DateTimeLemmas.{civil_nanos-parts, time_nanos_bound, civil_nanos-civil_seconds}
use Rattle.release_rules.specs.Civil.{Civil, last_moment}
use Rattle.release_rules.specs.Writer.{civil_at}
use Rattle.release_rules.specs.Texts.{civil_text, two, IsTextOf}
use Rattle.release_rules.proofs.Civils.{parts_of, civil_parts, civil_value}
use Rattle.release_rules.proofs.Days.{civil_at-is, civil_at-seconds, seconds_of-injective}
use Rattle.release_rules.proofs.Readings.{moment_text-is, text_read}
use Rattle.release_rules.proofs.writing.text_of_moment.Goals as goal

-- the digits that pairs of them hold
spelled : (y1 y2 m d h mi s : List ℕ) (a b e f g j k : ℕ) → y1 ≡ two a → y2 ≡ two b → m ≡ two e → d ≡ two f → h ≡ two g → mi ≡ two j → s ≡ two k
    → get_or y1 0 0 ∷ get_or y1 1 0 ∷ get_or y2 0 0 ∷ get_or y2 1 0 ∷ 45 ∷ get_or m 0 0 ∷ get_or m 1 0 ∷ 45 ∷ get_or d 0 0 ∷ get_or d 1 0
    ∷ 84 ∷ get_or h 0 0 ∷ get_or h 1 0 ∷ 58 ∷ get_or mi 0 0 ∷ get_or mi 1 0 ∷ 58 ∷ get_or s 0 0 ∷ get_or s 1 0 ∷ 90 ∷ []
    ≡ two a ++ two b ++ codes "-" ++ two e ++ codes "-" ++ two f ++ codes "T" ++ two g ++ codes ":" ++ two j ++ codes ":" ++ two k ++ codes "Z"
spelled y1 y2 m d h mi s a b e f g j k e1 e2 e3 e4 e5 e6 e7 =
    λ i. get_or (e1 i) 0 0 ∷ get_or (e1 i) 1 0 ∷ get_or (e2 i) 0 0 ∷ get_or (e2 i) 1 0 ∷ 45 ∷ get_or (e3 i) 0 0 ∷ get_or (e3 i) 1 0 ∷ 45 ∷ get_or (e4 i) 0 0 ∷ get_or (e4 i) 1 0
    ∷ 84 ∷ get_or (e5 i) 0 0 ∷ get_or (e5 i) 1 0 ∷ 58 ∷ get_or (e6 i) 0 0 ∷ get_or (e6 i) 1 0 ∷ 58 ∷ get_or (e7 i) 0 0 ∷ get_or (e7 i) 1 0 ∷ 90 ∷ []

pub year_number-year-requires : goal.year_number-year-requires
year_number-year-requires c =
    omega (arith, signed_arith, civil_nanos-parts c.civil_at-shown.result, time_nanos_bound c.civil_at-shown.result.time, c.civil_at-shown.ensures)

pub returns-clause-value : goal.returns-clause-value
returns-clause-value c =
    let dt = c.civil_at-shown.result in
    let y = c.year_number-year.result in
    let is = c.year_number-year.ensures.value in
    let kept = min c.args.moment last_moment in
    let le : kept ≤ last_moment = omega arith in
    let seconds : civil_seconds dt ≡ pos kept = omega (arith, signed_arith, civil_nanos-civil_seconds dt, c.civil_at-shown.ensures) in
    let same : parts_of dt y is ≡ civil_at kept = seconds_of-injective (parts_of dt y is) (civil_at kept) (civil_parts dt y is) (civil_at-is kept le) (sym (civil_value dt y is) ∙ seconds ∙ sym (civil_at-seconds kept le)) in
    let written = spelled c.digits_of.result c.digits_of-2.result c.digits_of-3.result c.digits_of-4.result c.digits_of-5.result c.digits_of-6.result c.digits_of-7.result
    (y / 100) (y % 100) dt.date.month dt.date.day dt.time.hour dt.time.minute dt.time.second
    c.digits_of.ensures c.digits_of-2.ensures c.digits_of-3.ensures c.digits_of-4.ensures c.digits_of-5.ensures c.digits_of-6.ensures c.digits_of-7.ensures in
    written ∙ ap (λ (shown : Civil). civil_text shown ++ codes "Z") same

pub returns-clause-names : goal.returns-clause-names
returns-clause-names c =
    subst (λ (text : List ℕ). IsTextOf text (min c.args.moment last_moment)) (sym (returns-clause-value c)) (moment_text-is c.args.moment)

pub returns-clause-reads_back : goal.returns-clause-reads_back
returns-clause-reads_back c = text_read _ _ (returns-clause-names c)
