-- Each wrong standby breaks the law: the events that show it are computed.
use Rattle.std.proofs.Common.{◌≡◌, ℕ, ◌+◌, ◌≤◌, Some, None, List, [], ◌∷◌, ◌++◌, length, refl, ap, ◌∙◌, arith, length-append}
use Rattle.news_types.specs.declared.entry.Entry.{Entry}
use Rattle.news_types.specs.declared.entry.Act.TheVariants.{Halt}
use Rattle.news_types.specs.History.{History}
use Rattle.news_types.specs.Legal.{IsLegal}
use Rattle.news_types.specs.Calls.{IsKept, IsFailed}
use Rattle.standby_laws.specs.Following.{Event, Grows, Ships, RecordComes, Restarts}
use Rattle.standby_laws.specs.Law.{FollowingHolds}
use Rattle.standby_laws.specs.WrongStandbys.{skips_a_record, takes_a_record_twice, answers_before_it_keeps, doubts_what_it_kept, loses_at_a_stop}

abbrev one_of_one : List Event
one_of_one = Grows (record { moment = 0; act = Halt }) ∷ Ships 1 ∷ []

legal_one : IsLegal (record { moment = 0; act = Halt } ∷ [])
legal_one = (tt, omega arith, tt)

-- the moment of the first entry
first_moment : History → ℕ
first_moment [] = 0
first_moment (e ∷ []) = e.moment
first_moment (e ∷ f ∷ h) = first_moment (f ∷ h)

first_is : (more : History) (e : Entry) → first_moment (more ++ e ∷ []) ≡ e.moment
unfolding first_moment
first_is [] e = refl
first_is (x ∷ []) e = refl
first_is (x ∷ y ∷ more) e = first_is (y ∷ more) e

too_long : (more front h : History) → h ≡ more ++ front → length h + 1 ≤ length front → ⊥
too_long more front h is long = omega (arith, long, ap length is, length-append more front)

pub skips : FollowingHolds skips_a_record → ⊥
unfolding first_moment
skips law =
    let two : List Event = Grows (record { moment = 0; act = Halt }) ∷ Grows (record { moment = 1; act = Halt }) ∷ Ships 2 ∷ RecordComes 0 IsKept ∷ [] in
    let prefix = (law two (legal_one, ((legal_one, omega arith, tt), (tt, (tt, tt))))).now.prefix in
    let zero_is_one : 0 ≡ 1 = ap first_moment prefix.1 ∙ first_is prefix.0 (record { moment = 1; act = Halt }) in
    omega (arith, zero_is_one)

pub twice : FollowingHolds takes_a_record_twice → ⊥
twice law =
    let prefix = (law (one_of_one ++ RecordComes 0 IsKept ∷ RecordComes 0 IsKept ∷ []) (legal_one, (tt, (tt, (tt, tt))))).now.prefix in
    too_long prefix.0 (record { moment = 0; act = Halt } ∷ record { moment = 0; act = Halt } ∷ []) (record { moment = 0; act = Halt } ∷ []) prefix.1 (omega arith)

pub early : FollowingHolds answers_before_it_keeps → ⊥
early law =
    let few : 1 ≤ 0 = (law (one_of_one ++ RecordComes 0 IsFailed ∷ []) (legal_one, (tt, (tt, tt)))).now.kept.0 in
    omega (arith, few)

pub doubts : FollowingHolds doubts_what_it_kept → ⊥
doubts law =
    let prefix = ((law (one_of_one ++ RecordComes 0 IsKept ∷ []) (legal_one, (tt, (tt, tt)))).stopped (Some 0)).prefix in
    too_long prefix.0 (record { moment = 0; act = Halt } ∷ record { moment = 0; act = Halt } ∷ []) (record { moment = 0; act = Halt } ∷ []) prefix.1 (omega arith)

pub loses : FollowingHolds loses_at_a_stop → ⊥
loses law =
    let few : 1 ≤ 0 = (law (one_of_one ++ RecordComes 0 IsKept ∷ Restarts None ∷ []) (legal_one, (tt, (tt, (tt, tt))))).now.kept.0 in
    omega (arith, few)
