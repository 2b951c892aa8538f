-- What a run over record lines leaves in the two files.
use Rattle.std.proofs.Common.{◌≡◌, ◌⊎◌, inl, inr, ℕ, true, List, [], ◌∷◌, ◌++◌, Option, Some, refl, sym, ◌∙◌, ap, subst, arith, append-nil}
use Rattle.std.specs.Prelude.{Result, Ok, Err}
use Rattle.news_types.specs.declared.entry.Entry.{Entry}
use Rattle.news_types.specs.Names.{Bytes}
use Rattle.news_types.specs.Members.{Each}
use Rattle.news_types.specs.Doubt.{IsAmong}
use Rattle.news_io.specs.Disk.{DiskMeaning}
use Rattle.news_io.specs.Keeper.{KeeperMeaning}
use Rattle.news_io.specs.Sink.{SinkMeaning}
use Rattle.news_io.specs.Source.{SourceMeaning}
use Rattle.news_pair.specs.Keeper.{pair_of}
use Rattle.news_pair.specs.Law.{finds_one}
use Rattle.news_pair.specs.Pair.{PairOpens, PairFinds}
use Rattle.news_pair.specs.Stands.{log_disk, side_disk, Pairs}
use Rattle.news_pair.specs.declared.pair.Pair.{Pair}
use Rattle.news_pair.proofs.Finding.{pair_found, outcome_pairs}
use Rattle.entry_codec.specs.Spelling.{entry_bytes}
use Rattle.entry_codec.specs.Formed.{IsEntry}
use Rattle.run_status.specs.Status.{number_of}
use Rattle.room_standby.specs.Holds.{IsOfEntry}
use Rattle.room_standby.specs.declared.standby.Standby.{Standby}
use Rattle.frame_run.specs.Status.{status_of}
use Rattle.frame_run.specs.declared.ending.Ending.{Ending}
use Rattle.frame_run.specs.declared.ending.Ending.TheVariants as end
use Rattle.record_lines.specs.Spelling.{Numbered}
use Rattle.store_files.specs.Files.{Files, MayBe, LeftSince, OpenAlike}
use Rattle.store_files.proofs.Holding.{calls_shut}
use Rattle.standby_files.specs.Answers.{Copied, holding, behind_all, Stands, Kept, AnsweredAll, AnsweredSome, NextIs}
use Rattle.standby_files.specs.Answers as run
use Rattle.standby_files.specs.Opening.{OpenTo, IsOpenStandby}
use Rattle.standby_files.specs.Run.{IsEnd}
use Rattle.standby_files.specs.StandIn.{LONGEST_INPUT}
use Rattle.standby_files.specs.Status.{IsRun}
use Rattle.standby_files.specs.StoreLeft.{IsLeft, Between, InDoubt, MayBeMade, StoreLeft}
use Rattle.standby_files.proofs.Steps.{told_list}

-- ---- the payloads behind a run

module _ {K O : Type 0} (keeper : KeeperMeaning K) (sink : SinkMeaning O) (most : ℕ) (old new : Standby K) (o o' : O) (b : Copied) (read more : Bytes) where
  -- what the standby has kept
  end_kept : (r : Result (Unit {0}) Ending) → IsEnd keeper sink most old new o o' b read more r → (held : List Bytes) × Kept keeper old new b held
  end_kept (Ok u) d = (behind_all b.held d.2.0, d.2.2.kept)
  end_kept (Err end.Read) d = (behind_all b.held d.1.0, d.1.2.kept)
  end_kept (Err end.TooLong) d = (behind_all b.held d.1.0, d.1.2.kept)
  end_kept (Err (end.BadFrame at)) d = (behind_all b.held d.0, d.2.kept)
  end_kept (Err end.Write) d = (d.3.now, d.3.kept)
  end_kept (Err end.Store) d = (d.3.now, d.3.kept)
  end_kept (Err end.Full) d = (d.3.now, d.3.kept)
  end_kept (Err end.Memory) d = (d.3.now, d.3.kept)

  -- a payload is in doubt only where the log ended the run
  module _ (told : b.told ≡ true) (none : (x : Bytes) → keeper.doubts old.keeper x → ⊥) where
    all_calm : (records : List Numbered) → AnsweredAll keeper sink old new o o' b records → (x : Bytes) → keeper.doubts new.keeper x → ⊥
    all_calm records a x d = none x (a.calm told x d).1

    next_calm : (held : List Bytes) (rest : Bytes) (why : Ending) (now : List Bytes) (said : Bytes) (used : ℕ) → (why ≡ end.Store → ⊥)
        → NextIs held rest why now said used (λ x. (now ≡ b.held) × keeper.doubts old.keeper x) (λ x. (b.told ≡ true) × keeper.doubts new.keeper x) → (x : Bytes) → keeper.doubts new.keeper x → ⊥
    next_calm held rest why now said used other (inl n) x d = none x (n.calm x (told, d)).1
    next_calm held rest why now said used other (inr f) x d = elim (f.1.doubt x (told, d)) [ inl was ↦ none x was.1 | inr tried ↦ other tried.0 ]

    some_calm : (records : List Numbered) (rest : Bytes) (why : Ending) → (why ≡ end.Store → ⊥) → AnsweredSome keeper sink old new o o' b records rest why → (x : Bytes) → keeper.doubts new.keeper x → ⊥
    some_calm records rest why other a = next_calm (behind_all b.held records) rest why a.now a.said (keeper.used new.keeper) other a.next

    end_calm : (r : Result (Unit {0}) Ending) → (r ≡ Err end.Store → ⊥) → IsEnd keeper sink most old new o o' b read more r → (x : Bytes) → keeper.doubts new.keeper x → ⊥
    end_calm (Ok u) other d = all_calm d.2.0 d.2.2
    end_calm (Err end.Read) other d = all_calm d.1.0 d.1.2
    end_calm (Err end.TooLong) other d = all_calm d.1.0 d.1.2
    end_calm (Err (end.BadFrame at)) other d = all_calm d.0 d.2
    end_calm (Err end.Write) other d = some_calm d.0 d.1 end.Write (λ is. absurd (cc is)) d.3
    end_calm (Err end.Store) other d = absurd (other refl)
    end_calm (Err end.Full) other d = some_calm d.0 d.1 end.Full (λ is. absurd (cc is)) d.3
    end_calm (Err end.Memory) other d = some_calm d.0 d.1 end.Memory (λ is. absurd (cc is)) d.3

-- a payload among those of entries
among : (doubt : List Entry) (x : Bytes) → Each IsEntry doubt → IsAmong entry_bytes doubt x → IsOfEntry x
among [] x each is = absurd is
among (e ∷ doubt) x each (inl is) = (e, each.0, is)
among (e ∷ doubt) x each (inr is) = among doubt x each.1 is

-- ---- from lists that were found to bytes

module _ {D : Type 0} (disk : DiskMeaning D) (store : Bytes) (log side : D) (s s' : Standby (Pair D)) (opening : IsOpenStandby disk store log side s) (told : disk.tells log) (told' : disk.tells side) where
  abbrev held : List Bytes
  held = opening.held

  abbrev start : Copied
  start = record { told = true; held = held }

  first_stands : Stands (pair_of disk) s start
  first_stands = opening.stands true (λ is. (told, told'))

  none_before : (x : Bytes) → (pair_of disk).doubts s.keeper x → ⊥
  none_before x d = calls_shut s.keeper.log.ajar opening.quiet d.is_ajar

  module _ (list : List Bytes) (k : Kept (pair_of disk) s s' start list) where
    same_label : (pair_of disk).label s'.keeper ≡ store
    same_label = k.label ∙ opening.label

    now_told : (pair_of disk).tells s'.keeper × ((pair_of disk).list s'.keeper ≡ list)
    now_told = told_list (pair_of disk) s' (holding list start) k.stands refl

    pairs : Pairs disk s'.keeper list
    pairs = subst (λ (l : List Bytes). Pairs disk s'.keeper l) now_told.1 now_told.0

    abbrev Tried : Bytes → Type 0
    Tried x = InDoubt disk s' x

    tried : (x : Bytes) → (pair_of disk).doubts s'.keeper x → Tried x
    tried x d =
        let h = k.stands.holds in
        let keeps = h.kept refl in
        (among k.stands.server.doubt x h.doubtful (keeps.doubts x d), d)

    opens_so : (both : Files) (l : List Bytes) → PairOpens s'.keeper.store both.0 both.1 l → OpenTo store both l
    opens_so both l o = subst (λ (t : Bytes). PairOpens t both.0 both.1 l) same_label o

    left_now : (both : Files) → MayBe disk (log_disk s'.keeper) (side_disk s'.keeper) both → IsLeft store list Tried both
    left_now both may = elim (outcome_pairs disk s'.keeper list pairs both.0 both.1 may.0 may.1) [
      | inl same ↦ inl (opens_so both list same)
      | inr more ↦ inr (more.0, tried more.0 more.1, opens_so both (list ++ more.0 ∷ []) more.2)
    ]

    -- ---- at a moment of the run

    bare : (found : Option (List Bytes)) → (pair_of disk).left_since s.keeper ((pair_of disk).moment s.keeper) found → found ≡ Some held
    bare found left =
        let now = told_list (pair_of disk) s start first_stands refl in
        elim ((pair_of disk).leaves_now s.keeper found now.0 left) [
          | inl all ↦ all ∙ ap (λ (l : List Bytes). Some l) now.1
          | inr one ↦ absurd (none_before one.0 one.1)
        ]

    found_so : (both : Files) (found : Option (List Bytes)) (l : List Bytes) → PairFinds s'.keeper.store both.0 both.1 found → found ≡ Some l → OpenTo store both l
    found_so both found l finds is = opens_so both l (subst (PairFinds s'.keeper.store both.0 both.1) is finds)

    held_between : (both : Files) → OpenTo store both held → Between store held list Tried both
    held_between both o = record { part = held; beyond = ([], sym (append-nil held)); within = k.more; left = inl o }

    found_between : (both : Files) (found : Option (List Bytes)) → PairFinds s'.keeper.store both.0 both.1 found → run.Between held list ((pair_of disk).doubts s.keeper) ((pair_of disk).doubts s'.keeper) found → Between store held list Tried both
    found_between both found finds b = record {
      part = b.part;
      beyond = b.beyond;
      within = b.within;
      left = elim b.left [
        | inl all ↦ inl (found_so both found b.part finds all)
        | inr one ↦ elim one.1 [
          | inl first ↦ absurd (none_before one.0 first.1)
          | inr last ↦ inr (one.0, (last.0, tried one.0 last.1), found_so both found (b.part ++ one.0 ∷ []) finds one.2)
        ]
      ];
    }

    since_opened : (both : Files) → LeftSince disk (log_disk s'.keeper) (side_disk s'.keeper) (disk.moment (log_disk s.keeper)) both → Between store held list Tried both
    since_opened both left =
        let f = pair_found s'.keeper.store both.0 both.1 in
        let at : (pair_of disk).left_since s'.keeper (disk.moment (log_disk s.keeper)) f.0 = (both.0, left.0, (both.1, left.1, f.1)) in
        elim ((k.time refl).nothing_else (disk.moment (log_disk s.keeper)) f.0 (omega arith) at) [
          | inl was ↦ held_between both (found_so both f.0 held f.1 (bare f.0 was))
          | inr between ↦ found_between both f.0 f.1 between
        ]

    -- files beside which the log was left before they were opened
    before_opened : (both : Files) (found : Option (List Bytes)) → PairFinds store both.0 both.1 found → (c t : List ℕ) → disk.may_leave (side_disk s.keeper) t → PairFinds store c t found → disk.left_since (log_disk s.keeper) (disk.moment log) c
        → Between store held list Tried both ⊎ ((before : Files) × MayBeMade disk store log side before × OpenAlike store before both)
    before_opened both found finds c t left was since = let time = opening.crash told told' in elim (time.each c since) [
      | inl may ↦ inr ((c, t), (inl may, (opening.still told').crash t left), (found, was, finds))
      | inr now ↦ elim now [
        | inl making ↦ inr ((c, t), (inr making, (opening.still told').crash t left), (found, was, finds))
        | inr again ↦
            let is = finds_one store c t held found (again held (opening.gives told told') t left) was in
            inl (held_between both (subst (PairFinds store both.0 both.1) is finds))
      ]
    ]

    since_begun : (both : Files) → LeftSince disk (log_disk s'.keeper) (side_disk s'.keeper) (disk.moment log) both
        → Between store held list Tried both ⊎ ((before : Files) × MayBeMade disk store log side before × OpenAlike store before both)
    since_begun both left =
        let f = pair_found s'.keeper.store both.0 both.1 in
        let at : (pair_of disk).left_since s'.keeper (disk.moment log) f.0 = (both.0, left.0, (both.1, left.1, f.1)) in
        let time = opening.crash told told' in
        elim ((k.time refl).nothing_else (disk.moment log) f.0 time.later at) [
          | inl old ↦
              before_opened both f.0 (subst (λ (t : Bytes). PairFinds t both.0 both.1 f.0) same_label f.1) old.0 old.2.0 old.2.1 (subst (λ (t : Bytes). PairFinds t old.0 old.2.0 f.0) opening.label old.2.2) old.1
          | inr between ↦ inl (found_between both f.0 f.1 between)
        ]

    kept_left : (status : ℕ) → ((status ≡ 6 → ⊥) → (x : Bytes) → (pair_of disk).doubts s'.keeper x → ⊥) → StoreLeft disk store log side s s' held status
    kept_left status calm = record {
      list = list;
      more = k.more;
      stands = k.stands;
      label = same_label;
      now = left_now;
      sure = λ other x d. calm other x d.1;
      since_opened = since_opened;
      since_begun = since_begun;
    }

  -- behind a run
  pub run_left : {S O : Type 0} (source : SourceMeaning S) (sink : SinkMeaning O) (i i' : S) (o o' : O) (status : ℕ)
      → IsRun (pair_of disk) source sink LONGEST_INPUT i i' s s' o o' (record { told = true; held = opening.held }) status → StoreLeft disk store log side s s' opening.held status
  run_left source sink i i' o o' status a =
      let k = end_kept (pair_of disk) sink LONGEST_INPUT s s' o a.mid start a.ran.read a.ran.more a.result a.ran.did in
      kept_left k.0 k.1 status (λ other. end_calm (pair_of disk) sink LONGEST_INPUT s s' o a.mid start a.ran.read a.ran.more refl none_before a.result
      (λ is. other (a.status_is ∙ ap (λ x. number_of (status_of x)) is)) a.ran.did)
