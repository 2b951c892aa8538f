-- What holds of a primary and its standby whatever happens.
use Rattle.std.proofs.Common.{◌≡◌, ℕ, ◌+◌, ◌≤◌, Bool, true, false, cond, Option, Some, None, List, [], ◌∷◌, length, refl, sym, subst, arith}
use Rattle.std.specs.Prelude.{nat_le, nat_lt, slice_get}
use Rattle.std.proofs.lemmas.Bool.Decides.{nat_tests}
use Rattle.news_types.specs.declared.entry.Entry.{Entry}
use Rattle.news_types.specs.History.{History}
use Rattle.news_types.specs.Legal.{IsLegal}
use Rattle.news_types.specs.Members.{Each}
use Rattle.news_types.specs.Calls.{Fate, IsKept, IsFull, IsFailed, IsStarved, entry_at}
use Rattle.news_types.specs.Server.{Server}
use Rattle.news_types.proofs.Members.{none_some, each_map, each_get}
use Rattle.standby_laws.specs.Standby.{SentRecord, Reaction, Known, Ahead, Next, reaction, reacted, taken, is_answered, restarted}
use Rattle.standby_laws.specs.Following.{Following, Event, Grows, Ships, RecordComes, Restarts, opening, ship, told, record_comes, one_of, happens, May, MayAll, run_by, after}
use Rattle.standby_laws.specs.Law.{IsPrefix, Follows, FollowingHolds}
use Rattle.standby_laws.proofs.Lists.{entry_stays, grows, behind, front_legal}

-- the entry of this number is in the list
abbrev pub IsOf : History → SentRecord → Type 0
IsOf h r = entry_at h r.number ≡ Some r.entry

-- the entry is the one behind so many
abbrev pub IsNext : History → ℕ → Entry → Type 0
IsNext h count e = entry_at h (count + 1) ≡ Some e

abbrev Has : ℕ → ℕ → Type 0
Has count c = c ≤ count

-- the standby's list is a front of the primary's, what is in doubt is the entry behind it, and it has as many as was said
pub record Fits (h : History) (kepts : List ℕ) (s : Server) : Type 0 where
  pub prefix : IsPrefix s.list h
  pub doubt : Each (IsNext h (length s.list)) s.doubt
  pub kept : Each (Has (length s.list)) kepts

pub record Stands (w : Following) : Type 0 where
  pub legal : IsLegal w.primary
  pub records : Each (IsOf w.primary) w.records
  pub standby : Fits w.primary w.kepts w.standby

-- ---- the standby

nothing_in_doubt : (h : History) (kepts : List ℕ) (s : Server) → Fits h kepts s → Fits h kepts (record { list = s.list; doubt = [] })
nothing_in_doubt h kepts s f = record { prefix = f.prefix; doubt = tt; kept = f.kept }

-- the next entry is kept, or is found behind a stop
one_more : (h : History) (kepts : List ℕ) (s : Server) (e : Entry) → Fits h kepts s → IsNext h (length s.list) e → Fits h kepts (record { list = e ∷ s.list; doubt = [] })
one_more h kepts s e f next = record {
  prefix =
      subst (IsPrefix (e ∷ s.list)) (sym f.prefix.1)
      (behind f.prefix.0 s.list e (subst (λ (g : History). entry_at g (length s.list + 1) ≡ Some e) f.prefix.1 next));
  doubt = tt;
  kept = each_map (Has (length s.list)) (Has (length (e ∷ s.list))) kepts (λ c le. omega (arith, le)) f.kept;
}

put_fits : (h : History) (kepts : List ℕ) (s : Server) (e : Entry) (fate : Fate) → Fits h kepts s → IsNext h (length s.list) e → Fits h kepts (reacted s e fate Next)
put_fits h kepts s e IsKept f next = one_more h kepts s e f next
put_fits h kepts s e IsFull f next = f
put_fits h kepts s e IsFailed f next = record { prefix = f.prefix; doubt = (next, f.doubt); kept = f.kept }
put_fits h kepts s e IsStarved f next = f

-- the next record has the next number
next_number : (count n : ℕ) → reaction count n ≡ Next → n ≡ count + 1
next_number count n is =
    elim (nat_le n count) as (λ b. nat_le n count ≡ b → cond b Known (cond (nat_lt (count + 1) n) Ahead Next) ≡ Next → n ≡ count + 1) [
      | true ↦ λ low other. absurd (known_not other)
      | false ↦ λ high.
          elim (nat_lt (count + 1) n) as (λ b. nat_lt (count + 1) n ≡ b → cond b Ahead Next ≡ Next → n ≡ count + 1) [
            | true ↦ λ past other. absurd (ahead_not other)
            | false ↦ λ near same. grind (arith, nat_tests)
          ] refl
    ] refl is
  where
    known_not : Known ≡ Next → ⊥
    known_not e = cc

    ahead_not : Ahead ≡ Next → ⊥
    ahead_not e = cc

reacted_fits : (h : History) (kepts : List ℕ) (s : Server) (r : SentRecord) (fate : Fate) (t : Reaction) → reaction (length s.list) r.number ≡ t → IsOf h r → Fits h kepts s → Fits h kepts (reacted s r.entry fate t)
reacted_fits h kepts s r fate Known is there f = f
reacted_fits h kepts s r fate Ahead is there f = f
reacted_fits h kepts s r fate Next is there f =
    put_fits h kepts s r.entry fate f (subst (λ (n : ℕ). entry_at h n ≡ Some r.entry) (next_number (length s.list) r.number is) there)

restarted_fits : (h : History) (kepts : List ℕ) (s : Server) (found : Option Entry) → ((e : Entry) → found ≡ Some e → IsNext h (length s.list) e) → Fits h kepts s → Fits h kepts (restarted s found)
restarted_fits h kepts s None next f = nothing_in_doubt h kepts s f
restarted_fits h kepts s (Some e) next f = one_more h kepts s e f (next e refl)

found_next : (h : History) (count : ℕ) (doubt : List Entry) (which : Option ℕ) → Each (IsNext h count) doubt → (e : Entry) → one_of doubt which ≡ Some e → IsNext h count e
found_next h count doubt None all e is = absurd (none_some e is)
found_next h count doubt (Some i) all e is = each_get (IsNext h count) doubt i e all is

pub stops_fit : (w : Following) → Stands w → (which : Option ℕ) → Fits w.primary w.kepts (restarted w.standby (one_of w.standby.doubt which))
stops_fit w st which =
    restarted_fits w.primary w.kepts w.standby (one_of w.standby.doubt which)
    (found_next w.primary (length w.standby.list) w.standby.doubt which st.standby.doubt) st.standby

-- ---- the primary

grown : (w : Following) (e : Entry) → IsLegal (e ∷ w.primary) → Stands w → Stands (happens w (Grows e))
grown w e legal st = record {
  legal = legal;
  records = each_map (IsOf w.primary) (IsOf (e ∷ w.primary)) w.records (λ r is. entry_stays e w.primary r.number r.entry is) st.records;
  standby = record {
    prefix = grows e w.standby.list w.primary st.standby.prefix;
    doubt =
        each_map (IsNext w.primary (length w.standby.list)) (IsNext (e ∷ w.primary) (length w.standby.list)) w.standby.doubt
        (λ x is. entry_stays e w.primary (length w.standby.list + 1) x is) st.standby.doubt;
    kept = st.standby.kept;
  };
}

shipped : (w : Following) (n : ℕ) (entry : Option Entry) → entry_at w.primary n ≡ entry → Stands w → Stands (ship n entry w)
shipped w n None is st = st
shipped w n (Some e) is st = record { legal = st.legal; records = (is, st.records); standby = st.standby }

-- ---- what lies between them

told_stands : (b : Bool) (w : Following) → Stands w → Stands (told b w)
told_stands true w st = record {
  legal = st.legal;
  records = st.records;
  standby = record { prefix = st.standby.prefix; doubt = st.standby.doubt; kept = (omega arith, st.standby.kept) };
}
told_stands false w st = st

came : (w : Following) (fate : Fate) (found : Option SentRecord) → ((r : SentRecord) → found ≡ Some r → IsOf w.primary r) → Stands w → Stands (record_comes w fate found)
came w fate None there st = st
came w fate (Some r) there st =
    told_stands (is_answered fate (reaction (length w.standby.list) r.number)) (record w { standby = taken w.standby r fate })
    (record { legal = st.legal; records = st.records; standby = reacted_fits w.primary w.kepts w.standby r fate (reaction (length w.standby.list) r.number) refl (there r refl) st.standby })

-- ---- all events

pub happens_stands : (w : Following) (event : Event) → May w event → Stands w → Stands (happens w event)
happens_stands w (Grows e) may st = grown w e may st
happens_stands w (Ships n) may st = shipped w n (entry_at w.primary n) refl st
happens_stands w (RecordComes which fate) may st =
    came w fate (slice_get w.records which) (λ r is. each_get (IsOf w.primary) w.records which r st.records is) st
happens_stands w (Restarts which) may st = record { legal = st.legal; records = st.records; standby = stops_fit w st which }

pub run_stands : (events : List Event) (w : Following) → MayAll happens events w → Stands w → Stands (run_by happens events w)
run_stands [] w may st = st
run_stands (event ∷ events) w may st = run_stands events (happens w event) may.1 (happens_stands w event may.0 st)

pub opening_stands : Stands opening
opening_stands = record { legal = tt; records = tt; standby = record { prefix = ([], refl); doubt = tt; kept = tt } }

-- ---- the law

follows : (h : History) (kepts : List ℕ) (s : Server) → IsLegal h → Fits h kepts s → Follows h kepts s.list
follows h kepts s legal f = record { prefix = f.prefix; kept = f.kept; legal = front_legal f.prefix.0 s.list (subst IsLegal f.prefix.1 legal) }

pub following_holds : FollowingHolds happens
following_holds events may =
    let st = run_stands events opening may opening_stands in
    let w : Following = after happens events in
    record {
      now = follows w.primary w.kepts w.standby st.legal st.standby;
      follow =
          each_map (IsNext w.primary (length w.standby.list)) (λ (e : Entry). IsLegal (e ∷ w.standby.list)) w.standby.doubt
          (λ e next. (follows w.primary w.kepts (record { list = e ∷ w.standby.list; doubt = [] }) st.legal (one_more w.primary w.kepts w.standby e st.standby next)).legal) st.standby.doubt;
      stopped = λ which. follows w.primary w.kepts (restarted w.standby (one_of w.standby.doubt which)) st.legal (stops_fit w st which);
    }
