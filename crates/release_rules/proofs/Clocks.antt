-- The texts of a date and a time are exactly those that are read.
use Rattle.std.specs.Prelude.{◌≡◌, ℕ, ℤ, ◌+◌, ◌*◌, ◌/◌, ◌%◌, ◌≤◌, true, false, ◌==◌, ◌&&◌, if◌then◌else◌, List, [], ◌∷◌, ◌++◌, take, drop, codes, Option, Some, None}
use Rattle.std.proofs.Common.{arith, refl, sym, ap, ◌∙◌, subst}
use Rattle.std.proofs.lemmas.Bool.Decides.{nat_tests}
use Rattle.std.proofs.lemmas.List.{take-append-drop}
use Rattle.news_types.specs.Clock.{pair_number}
use Rattle.release_rules.specs.Civil.{Civil, civil, IsCivil, is_civil, seconds_of}
use Rattle.release_rules.specs.Texts.{two, civil_text}
use Rattle.release_rules.specs.Reader.{three, year_at, date_at, time_at, clock_at, seconds_at, clock_seconds_of}
use Rattle.release_rules.proofs.Civils.{IsCivil-test, seconds_at-some}
use Rattle.release_rules.proofs.Digits.{pair_number-two, pair_number-some, ArePair}

month_days : (c : Civil) → IsCivil c → c.day ≤ 31
month_days c is = grind (arith, is.day)

-- a civil date and time is read from its text
pub clock_seconds_of-text : (c : Civil) → IsCivil c → clock_seconds_of (civil_text c) ≡ Some (seconds_of c)
clock_seconds_of-text c is =
    let century = pair_number-two (c.year / 100) (omega (arith, is.year)) in
    let years = pair_number-two (c.year % 100) (omega arith) in
    let month = pair_number-two c.month (omega (arith, is.month)) in
    let day = pair_number-two c.day (omega (arith, month_days c is)) in
    let hour = pair_number-two c.hour (omega (arith, is.hour)) in
    let minute = pair_number-two c.minute (omega (arith, is.minute)) in
    let second = pair_number-two c.second (omega (arith, is.second)) in
    let year : c.year / 100 * 100 + c.year % 100 ≡ c.year = omega arith in
    rw (century, years, month, day, hour, minute, second, year) (sym (seconds_at-some c is))

-- ---- and back

three-some : (a b c : Option ℕ) (x y z : ℕ) → three a b c ≡ Some (x, y, z) → (a ≡ Some x) × (b ≡ Some y) × (c ≡ Some z)
three-some (Some a) (Some b) (Some c) x y z e =
    let same : (let t : ℕ × ℕ × ℕ = (a, b, c) in t) ≡ (x, y, z) = cc in
    (ap (λ (t : ℕ × ℕ × ℕ). Some t.0) same, ap (λ (t : ℕ × ℕ × ℕ). Some t.1) same, ap (λ (t : ℕ × ℕ × ℕ). Some t.2) same)
three-some None b c x y z e = cc
three-some (Some a) None c x y z e = cc
three-some (Some a) (Some b) None x y z e = cc

-- four digits of a year
record AreYear (a b c d y : ℕ) : Type 0 where
  pub below : y ≤ 9999
  pub century : ArePair a b (y / 100)
  pub years : ArePair c d (y % 100)

year_at-some : (a b c d y : ℕ) → year_at (pair_number a b) (pair_number c d) ≡ Some y → AreYear a b c d y
year_at-some a b c d y e =
    elim (pair_number a b) as (λ x. pair_number a b ≡ x → year_at x (pair_number c d) ≡ Some y → AreYear a b c d y) [
      | Some century ↦ λ first s. elim (pair_number c d) as (λ x. pair_number c d ≡ x → year_at (Some century) x ≡ Some y → AreYear a b c d y) [
        | Some years ↦ λ last t.
            let high = pair_number-some a b century first in
            let low = pair_number-some c d years last in
            let is : century * 100 + years ≡ y = cc in
            let same_century : century ≡ y / 100 = omega (arith, low.below) in
            let same_years : years ≡ y % 100 = omega (arith, low.below) in
            record { below = omega (arith, high.below, low.below); century = subst (λ (n : ℕ). ArePair a b n) same_century high; years = subst (λ (n : ℕ). ArePair c d n) same_years low }
        | None ↦ λ last t. cc
      ] refl s
      | None ↦ λ first s. cc
    ] refl e

abbrev pub date_text : ℕ → ℕ → ℕ → List ℕ
date_text y m d = two (y / 100) ++ two (y % 100) ++ codes "-" ++ two m ++ codes "-" ++ two d

abbrev pub time_text : ℕ → ℕ → ℕ → List ℕ
time_text h m s = codes "T" ++ two h ++ codes ":" ++ two m ++ codes ":" ++ two s

date_at-some : (text : List ℕ) (y m d : ℕ) → date_at text ≡ Some (y, m, d) → text ≡ date_text y m d
date_at-some [] y m d e = cc
date_at-some (a1 ∷ []) y m d e = cc
date_at-some (a1 ∷ a2 ∷ []) y m d e = cc
date_at-some (a1 ∷ a2 ∷ a3 ∷ []) y m d e = cc
date_at-some (a1 ∷ a2 ∷ a3 ∷ a4 ∷ []) y m d e = cc
date_at-some (a1 ∷ a2 ∷ a3 ∷ a4 ∷ a5 ∷ []) y m d e = cc
date_at-some (a1 ∷ a2 ∷ a3 ∷ a4 ∷ a5 ∷ a6 ∷ []) y m d e = cc
date_at-some (a1 ∷ a2 ∷ a3 ∷ a4 ∷ a5 ∷ a6 ∷ a7 ∷ []) y m d e = cc
date_at-some (a1 ∷ a2 ∷ a3 ∷ a4 ∷ a5 ∷ a6 ∷ a7 ∷ a8 ∷ []) y m d e = cc
date_at-some (a1 ∷ a2 ∷ a3 ∷ a4 ∷ a5 ∷ a6 ∷ a7 ∷ a8 ∷ a9 ∷ []) y m d e = cc
date_at-some (y1 ∷ y2 ∷ y3 ∷ y4 ∷ a ∷ m1 ∷ m2 ∷ b ∷ d1 ∷ d2 ∷ []) y m d e =
    let fields = three (year_at (pair_number y1 y2) (pair_number y3 y4)) (pair_number m1 m2) (pair_number d1 d2) in
    elim (a == 45 && b == 45) as (λ x. (a == 45 && b == 45) ≡ x → (if x then fields else None) ≡ Some (y, m, d) → y1 ∷ y2 ∷ y3 ∷ y4 ∷ a ∷ m1 ∷ m2 ∷ b ∷ d1 ∷ d2 ∷ [] ≡ date_text y m d) [
      | true ↦ λ marks s.
          let parts = three-some (year_at (pair_number y1 y2) (pair_number y3 y4)) (pair_number m1 m2) (pair_number d1 d2) y m d s in
          let year = year_at-some y1 y2 y3 y4 y parts.0 in
          let month = pair_number-some m1 m2 m parts.1 in
          let day = pair_number-some d1 d2 d parts.2 in
          let first : a ≡ 45 = grind (arith, nat_tests) in
          let second : b ≡ 45 = grind (arith, nat_tests) in
          λ i. year.century.tens i ∷ year.century.ones i ∷ year.years.tens i ∷ year.years.ones i ∷ first i ∷ month.tens i ∷ month.ones i ∷ second i ∷ day.tens i ∷ day.ones i ∷ []
      | false ↦ λ marks s. cc
    ] refl e
date_at-some (a1 ∷ a2 ∷ a3 ∷ a4 ∷ a5 ∷ a6 ∷ a7 ∷ a8 ∷ a9 ∷ a10 ∷ a11 ∷ text) y m d e = cc

time_at-some : (text : List ℕ) (h m s : ℕ) → time_at text ≡ Some (h, m, s) → text ≡ time_text h m s
time_at-some [] h m s e = cc
time_at-some (a1 ∷ []) h m s e = cc
time_at-some (a1 ∷ a2 ∷ []) h m s e = cc
time_at-some (a1 ∷ a2 ∷ a3 ∷ []) h m s e = cc
time_at-some (a1 ∷ a2 ∷ a3 ∷ a4 ∷ []) h m s e = cc
time_at-some (a1 ∷ a2 ∷ a3 ∷ a4 ∷ a5 ∷ []) h m s e = cc
time_at-some (a1 ∷ a2 ∷ a3 ∷ a4 ∷ a5 ∷ a6 ∷ []) h m s e = cc
time_at-some (a1 ∷ a2 ∷ a3 ∷ a4 ∷ a5 ∷ a6 ∷ a7 ∷ []) h m s e = cc
time_at-some (a1 ∷ a2 ∷ a3 ∷ a4 ∷ a5 ∷ a6 ∷ a7 ∷ a8 ∷ []) h m s e = cc
time_at-some (t ∷ h1 ∷ h2 ∷ a ∷ m1 ∷ m2 ∷ b ∷ s1 ∷ s2 ∷ []) h m s e =
    let fields = three (pair_number h1 h2) (pair_number m1 m2) (pair_number s1 s2) in
    elim (t == 84 && a == 58 && b == 58) as (λ x. (t == 84 && a == 58 && b == 58) ≡ x → (if x then fields else None) ≡ Some (h, m, s) → t ∷ h1 ∷ h2 ∷ a ∷ m1 ∷ m2 ∷ b ∷ s1 ∷ s2 ∷ [] ≡ time_text h m s) [
      | true ↦ λ marks f.
          let parts = three-some (pair_number h1 h2) (pair_number m1 m2) (pair_number s1 s2) h m s f in
          let hour = pair_number-some h1 h2 h parts.0 in
          let minute = pair_number-some m1 m2 m parts.1 in
          let second = pair_number-some s1 s2 s parts.2 in
          let mark : t ≡ 84 = grind (arith, nat_tests) in
          let first : a ≡ 58 = grind (arith, nat_tests) in
          let last : b ≡ 58 = grind (arith, nat_tests) in
          λ i. mark i ∷ hour.tens i ∷ hour.ones i ∷ first i ∷ minute.tens i ∷ minute.ones i ∷ last i ∷ second.tens i ∷ second.ones i ∷ []
      | false ↦ λ marks f. cc
    ] refl e
time_at-some (a1 ∷ a2 ∷ a3 ∷ a4 ∷ a5 ∷ a6 ∷ a7 ∷ a8 ∷ a9 ∷ a10 ∷ text) h m s e = cc

-- the text is one of a date and a time at these seconds
pub record IsClockText (text : List ℕ) (z : ℤ) : Type 0 where
  pub clock : Civil
  pub form : IsCivil clock
  pub spelled : text ≡ civil_text clock
  pub value : seconds_of clock ≡ z

seconds_at-value : (c : Civil) (z : ℤ) → seconds_at c ≡ Some z → IsCivil c × (seconds_of c ≡ z)
seconds_at-value c z e =
    elim (is_civil c) as (λ x. is_civil c ≡ x → (if x then Some (seconds_of c) else None) ≡ Some z → IsCivil c × (seconds_of c ≡ z)) [
      | true ↦ λ is s. (IsCivil-test c is, cc)
      | false ↦ λ isnt s. cc
    ] refl e

pub clock_seconds_of-some : (text : List ℕ) (z : ℤ) → clock_seconds_of text ≡ Some z → IsClockText text z
clock_seconds_of-some text z e =
    elim (date_at (take 10 text)) as (λ x. date_at (take 10 text) ≡ x → clock_at x (time_at (drop 10 text)) ≡ Some z → IsClockText text z) [
      | Some (y, m, d) ↦ λ date s. elim (time_at (drop 10 text)) as (λ x. time_at (drop 10 text) ≡ x → clock_at (Some (y, m, d)) x ≡ Some z → IsClockText text z) [
        | Some (h, mi, se) ↦ λ time t.
            let front = date_at-some (take 10 text) y m d date in
            let back = time_at-some (drop 10 text) h mi se time in
            let is = seconds_at-value (civil y m d h mi se) z t in
            record { clock = civil y m d h mi se; form = is.0; value = is.1; spelled = sym (take-append-drop 10 text) ∙ (λ i. front i ++ back i) }
        | None ↦ λ time t. cc
      ] refl s
      | None ↦ λ date s. cc
    ] refl e
