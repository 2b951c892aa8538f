-- What `stand-in` did, by what was said of it before.
use Rattle.std.proofs.Common.{◌≡◌, ◌⊎◌, inl, inr, ℕ, ◌+◌, ◌<◌, ◌≤◌, Bool, true, false, List, [], ◌∷◌, ◌++◌, length, Option, Some, None, refl, sym, ap, ◌∙◌, subst, arith}
use Rattle.std.specs.Prelude.{Result, Ok, Err}
use Rattle.std.proofs.lemmas.List.{append-nil}
use Rattle.news_types.specs.Names.{Bytes}
use Rattle.news_types.specs.Members.{Each}
use Rattle.news_io.specs.Keeper.{KeeperMeaning}
use Rattle.news_io.specs.Outside.{Meanings, Outside, Files, FilesTell, read, store_faults}
use Rattle.news_io.specs.Sink.{AreFirst, SinkMeaning}
use Rattle.news_journal.specs.Log.{records}
use Rattle.news_pair.specs.Keeper.{pair_of}
use Rattle.news_pair.specs.Stands.{log_disk, side_disk}
use Rattle.news_pair.specs.declared.pair.Pair.{Pair}
use Rattle.frame_run.specs.Answers as frame_answers
use Rattle.frame_run.specs.Status as frames
use Rattle.frame_run.specs.declared.ending.Ending.{Ending}
use Rattle.frame_run.specs.declared.ending.Ending.TheVariants as end
use Rattle.record_lines.specs.Spelling.{Numbered, kept_bytes}
use Rattle.standby_laws.specs.Standby.{Reaction, Known, Ahead, Next, reaction}
use Rattle.room_standby.specs.Holds.{IsOfEntry}
use Rattle.room_standby.specs.declared.standby.Standby.{Standby}
use Rattle.run_status.specs.Output.{Wrote, AllPassed, Told}
use Rattle.run_status.specs.Status.{number_of, line_of}
use Rattle.run_status.specs.declared.status.Status.{Status}
use Rattle.standby_files.specs.Answers as run
use Rattle.standby_files.specs.Answers.{behind as old_behind}
use Rattle.standby_files.specs.Opening as opening
use Rattle.standby_files.specs.Run as ran
use Rattle.standby_files.specs.StandIn as old
use Rattle.standby_files.specs.Status.{IsRun, AllEntries}
use Rattle.standby_files.specs.StoreLeft as old_left
use Rattle.standby_files.specs.StoreLeft.{StoreLeft, InDoubt}
use Rattle.store_files.specs.Files as store_files
use Rattle.store_files.specs.Store as files
use Rattle.store_files.specs.Trouble.{status_of as status_for}
use Rattle.store_files.specs.declared.trouble.Trouble.{Trouble}
use Rattle.store_files.specs.declared.trouble.Trouble.TheVariants as trouble
use Rattle.store_files.proofs.Holding.{calls_shut}
use Rattle.program_run.specs.Opens.{AreBytes, OpenAlike}
use Rattle.program_run.specs.Received.{ByLog, Causes, LONGEST_INPUT, status_of}
use Rattle.program_run.specs.Finding.{the_finders}
use Rattle.program_run.specs.StoodIn.{kept_by, behind, behind_all, reply, replies, AreOfEntries, WasTried, held_at, NextIs, IsStrayAt, Answers, IsOtherStore, Cause, Gives, IsLeft, Between, LogMayBe, MayBeMade, GivesStill, NotBegun, FilesLeft, StoodIn, Complete, IsStoodIn}
use Rattle.program_run.specs.Telling.{StoreCounts}
use Rattle.program_run.proofs.Alike.{new_opens, old_opens, alike}
use Rattle.program_run.proofs.Answered.{causes_of}
use Rattle.program_run.proofs.Opening.{holds_so}
use Rattle.program_run.proofs.Refusing.{cause_is, is_wrong}

-- ---- what is held and answered

kept_same : (what : Reaction) (held : List Bytes) (payload : Bytes) → kept_by what held payload ≡ run.kept_by what held payload
kept_same Known held payload = refl
kept_same Ahead held payload = refl
kept_same Next held payload = refl

behind_same : (held : List Bytes) (r : Numbered) → behind held r ≡ old_behind held r
unfolding behind old_behind
behind_same held r = kept_same (reaction (length held) r.number) held r.payload

all_same : (held : List Bytes) (lines : List Numbered) → behind_all held lines ≡ run.behind_all held lines
all_same held [] = refl
all_same held (r ∷ lines) = all_same (behind held r) lines ∙ ap (λ (h : List Bytes). run.behind_all h lines) (behind_same held r)

reply_same : (held : List Bytes) (r : Numbered) → reply held r ≡ run.reply_to held r
reply_same held r = ap (λ (h : List Bytes). kept_bytes (length h)) (behind_same held r)

replies_same : (held : List Bytes) (lines : List Numbered) → replies held lines ≡ run.replies held lines
replies_same held [] = refl
replies_same held (r ∷ lines) =
    ap (λ (h : List Bytes). kept_bytes (length h) ++ replies h lines) (behind_same held r)
    ∙ ap (λ (l : Bytes). run.reply_to held r ++ l) (replies_same (old_behind held r) lines)

by_log : (why : Ending) → ByLog why → frame_answers.ByLog why
by_log end.Store by = tt
by_log end.Full by = tt
by_log end.Read by = absurd by
by_log end.Write by = absurd by
by_log end.Memory by = absurd by
by_log end.TooLong by = absurd by
by_log (end.BadFrame at) by = absurd by

held_same : (why : Ending) (first later : List Bytes) → run.held_at why first later ≡ held_at why first later
held_same end.Write first later = refl
held_same end.Store first later = refl
held_same end.Full first later = refl
held_same end.Read first later = refl
held_same end.Memory first later = refl
held_same end.TooLong first later = refl
held_same (end.BadFrame at) first later = refl

status_same : (result : Result (Unit {0}) Ending) → frames.status_of result ≡ status_of result
status_same (Ok u) = refl
status_same (Err end.Read) = refl
status_same (Err end.Write) = refl
status_same (Err end.Store) = refl
status_same (Err end.Full) = refl
status_same (Err end.Memory) = refl
status_same (Err end.TooLong) = refl
status_same (Err (end.BadFrame at)) = refl

all_entries : (lines : List Numbered) → Each (λ (r : Numbered). IsOfEntry r.payload) lines → AllEntries lines
all_entries [] each = tt
all_entries (r ∷ lines) each = (each.0, all_entries lines each.1)

-- ---- the run

module _ {K O : Type 0} (keeper : KeeperMeaning K) (sink : SinkMeaning O) (old_one new_one : Standby K) (o o' : O) (b : run.Copied) (read_bytes more : Bytes)
    (uses : keeper.used old_one.keeper ≡ 65 + length (records b.held)) (none : (x : Bytes) → keeper.doubts old_one.keeper x → ⊥) where
  -- what it comes to, with what was kept, and what is in doubt
  record Shown (result : Result (Unit {0}) Ending) : Type 0 where
    pub lines : List Numbered
    pub now : List Bytes
    pub said : Bytes
    pub next : Option Numbered
    pub answers : Answers b.held read_bytes more lines now said next result
    pub half : 0 < length said → result ≡ Err end.Write
    pub wrote : Wrote sink o o' (replies b.held lines ++ said)
    pub passed : sink.tells o → AllPassed sink o → AreFirst (sink.taken o ++ replies b.held lines) (sink.passed o')
    pub kept : run.Kept keeper old_one new_one b now
    pub doubt : b.told ≡ true → (x : Bytes) → keeper.doubts new_one.keeper x → WasTried result next x

  -- all that were begun were answered
  module _ (result : Result (Unit {0}) Ending) (lines : List Numbered) (a : run.AnsweredAll keeper sink old_one new_one o o' b lines) where
    abbrev all : List Bytes
    all = behind_all b.held lines

    all_wrote : Wrote sink o o' (replies b.held lines ++ [])
    all_wrote = subst (Wrote sink o o') (sym (append-nil (replies b.held lines) ∙ replies_same b.held lines)) a.wrote

    all_shown : Answers b.held read_bytes more lines all [] None result → Shown result
    all_shown answers = record {
      lines = lines;
      now = all;
      said = [];
      next = None;
      answers = answers;
      half = λ some. absurd (omega (arith, some));
      wrote = all_wrote;
      passed = λ tells before. ([], a.passed tells before ∙ all_wrote.bytes tells ∙ ap (λ (l : Bytes). sink.taken o ++ l) (append-nil (replies b.held lines)) ∙ sym (append-nil (sink.taken o ++ replies b.held lines)));
      kept = subst (run.Kept keeper old_one new_one b) (sym (all_same b.held lines)) a.kept;
      doubt = λ told x d. absurd (none x (a.calm told x d).1);
    }

  -- or the next one was begun
  module _ (lines : List Numbered) (rest : Bytes) (why : Ending) (s : run.AnsweredSome keeper sink old_one new_one o o' b lines rest why) where
    abbrev front : List Bytes
    front = behind_all b.held lines

    abbrev Doubted : Bytes → Type 0
    Doubted x = (s.now ≡ b.held) × keeper.doubts old_one.keeper x

    abbrev Doubts : Bytes → Type 0
    Doubts x = (b.told ≡ true) × keeper.doubts new_one.keeper x

    abbrev NextBegun : Option Numbered → Type 0
    NextBegun next = NextIs front rest why s.now s.said next × (b.told ≡ true → (x : Bytes) → keeper.doubts new_one.keeper x → WasTried (Err why) next x)

    used_now : keeper.used new_one.keeper ≡ 65 + length (records s.now)
    used_now = omega (arith, s.kept.used, uses)

    begun : run.NextIs (run.behind_all b.held lines) rest why s.now s.said (keeper.used new_one.keeper) Doubted Doubts → (next : Option Numbered) × NextBegun next
    begun (inl n) = (None, ((n.list ∙ sym (all_same b.held lines), n.bytes, λ by. n.other (by_log why by)), λ told x d. none x (n.calm x (told, d)).1))
    begun (inr next) = by_line next.0 (subst (λ (h : List Bytes). run.Begun h rest next.0 why s.now s.said (keeper.used new_one.keeper) Doubted Doubts) (sym (all_same b.held lines)) next.1)
      where
        by_line : (r : Numbered) → run.Begun front rest r why s.now s.said (keeper.used new_one.keeper) Doubted Doubts → (next : Option Numbered) × NextBegun next
        by_line r n = (
          Some r,
          (
            record {
              form = n.form;
              first = n.first;
              list = n.list ∙ held_same why front (old_behind front r) ∙ ap (held_at why front) (sym (behind_same front r));
              begun = (n.bytes.0, reply_same front r ∙ n.bytes.1);
              unkept = λ by. let u = n.unkept (by_log why by) in (behind_same front r ∙ u.next, u.entry);
              full = λ full. omega (arith, n.full full, used_now);
            },
            λ told x d. elim (n.doubt x (told, d)) [
              | inl was ↦ absurd (none x was.1)
              | inr tried ↦ (ap (λ (w : Ending). Err w) tried.0, tried.1)
            ],
          ),
        )

    some_shown : ((next : Option Numbered) → NextIs front rest why s.now s.said next → Answers b.held read_bytes more lines s.now s.said next (Err why)) → Shown (Err why)
    some_shown answers =
        let next = begun s.next in
        record {
          lines = lines;
          now = s.now;
          said = s.said;
          next = next.0;
          answers = answers next.0 next.1.0;
          half = λ some. ap (λ (w : Ending). Err w) (s.half some);
          wrote = subst (λ (l : Bytes). Wrote sink o o' (l ++ s.said)) (sym (replies_same b.held lines)) s.wrote;
          passed = λ tells before. subst (λ (l : Bytes). AreFirst (sink.taken o ++ l) (sink.passed o')) (sym (replies_same b.held lines)) (s.passed tells before);
          kept = s.kept;
          doubt = next.1.1;
        }

  stray : (lines : List Numbered) (at : ℕ) → ran.IsStrayAt (run.behind_all b.held lines) (read_bytes ++ more) lines at LONGEST_INPUT → IsStrayAt (read_bytes ++ more) lines (length (behind_all b.held lines)) at
  stray lines at is = subst (λ (h : List Bytes). IsStrayAt (read_bytes ++ more) lines (length h) at) (sym (all_same b.held lines)) is

  shown : (result : Result (Unit {0}) Ending) → ran.IsEnd keeper sink LONGEST_INPUT old_one new_one o o' b read_bytes more result → Shown result
  shown (Ok u) d = all_shown (Ok u) d.2.0 d.2.2 (d.0, d.1, d.2.1, (refl, refl, refl))
  shown (Err end.Read) d = all_shown (Err end.Read) d.1.0 d.1.2 (d.0, d.1.1, (refl, refl, refl))
  shown (Err end.TooLong) d = all_shown (Err end.TooLong) d.1.0 d.1.2 (d.0, d.1.1, (refl, refl, refl))
  shown (Err (end.BadFrame at)) d = all_shown (Err (end.BadFrame at)) d.0 d.2 (stray d.0 at d.1, (refl, refl, refl))
  shown (Err end.Write) d = some_shown d.0 d.1 end.Write d.3 (λ next is. (d.1, d.2, is))
  shown (Err end.Store) d = some_shown d.0 d.1 end.Store d.3 (λ next is. (d.1, d.2, is))
  shown (Err end.Full) d = some_shown d.0 d.1 end.Full d.3 (λ next is. (d.1, d.2, is))
  shown (Err end.Memory) d = some_shown d.0 d.1 end.Memory d.3 (λ next is. (d.1, d.2, is))

-- ---- what the files hold

other_store : (store : Bytes) (log : List ℕ) → opening.IsOtherStore store log → IsOtherStore store log
other_store store log o = record { owner = o.owner; of = o.of; other = o.other }

store_other : (store : Bytes) (log : List ℕ) → IsOtherStore store log → opening.IsOtherStore store log
store_other store log o = record { owner = o.owner; of = o.of; other = o.other }

module _ (store : Bytes) (log side : List ℕ) where
  damage_is : (t : Trouble) → (log ≡ [] → ⊥) × (opening.IsOtherStore store log → ⊥) × files.Cause log side t → (IsOtherStore store log → ⊥)
  damage_is t c other = c.1 (store_other store log other)

  cause_of : (t : Trouble) → opening.Cause store log side t → Cause the_finders store (log, side) (status_for t)
  cause_of trouble.WrongStore (inl other) = inl (other_store store log other)
  cause_of trouble.WrongStore (inr c) = inr c
  cause_of trouble.Store c = tt
  cause_of (trouble.Damaged at found) c = (c.0, damage_is (trouble.Damaged at found) c, cause_is log side (trouble.Damaged at found) c.2)
  cause_of (trouble.DamagedSide at found) c = (c.0, damage_is (trouble.DamagedSide at found) c, cause_is log side (trouble.DamagedSide at found) c.2)
  cause_of trouble.Full c = absurd c.2
  cause_of trouble.Memory c = tt

counts_of : (before now : ℕ) (t : Trouble) → files.TroubleCounts before now t → StoreCounts before now (status_for t)
counts_of before now trouble.WrongStore c = c
counts_of before now trouble.Store c = c
counts_of before now (trouble.Damaged at found) c = c
counts_of before now (trouble.DamagedSide at found) c = c
counts_of before now trouble.Full c = c
counts_of before now trouble.Memory c = c

module _ (store : Bytes) (long : length store ≡ 16) where
  pub new_gives : (both : Files) (held : List Bytes) → AreBytes both → opening.Gives store both.0 both.1 held → Gives store both held
  new_gives both held bytes (inl none) = inl none
  new_gives both held bytes (inr some) = inr (some.0, new_opens store long both some.0 bytes some.1, some.2)

  pub old_gives : (both : Files) (held : List Bytes) → Gives store both held → opening.Gives store both.0 both.1 held
  old_gives both held (inl none) = inl none
  old_gives both held (inr some) = inr (some.0, old_opens store long both some.0 some.1, some.2)

  left_so : (part : List Bytes) (P Q : Bytes → Type 0) → ((x : Bytes) → P x → Q x) → (both : Files) → AreBytes both → old_left.IsLeft store part P both → IsLeft store part Q both
  left_so part P Q more both bytes (inl all) = inl (holds_so store long both.0 both.1 part bytes.1 all)
  left_so part P Q more both bytes (inr one) = inr (one.0, more one.0 one.1, holds_so store long both.0 both.1 (part ++ one.0 ∷ []) bytes.1 one.2)

-- ---- the command

module _ {D S O C L : Type 0} (m : Meanings D S O C L) (before after : Outside D S O C L) (number : ℕ) (store : Bytes) where
  gains : (file : List ℕ) → opening.MayGain m.disk store before.log before.side after.side file → LogMayBe m before after number store file ⊎ GivesStill m before after number store file
  gains file (inl was) = inl (inl was)
  gains file (inr (inl making)) = inl (inr making)
  gains file (inr (inr again)) = inr (λ long held gives side left bytes. holds_so store long file side held bytes.1 (again held (old_gives store long (read m before) held gives) side left))

  not_begun : old.NotBegun m.disk m.source m.sink store before.log after.log before.side after.side before.input after.input before.output after.output number → NotBegun m before after number store the_finders
  not_begun n =
      let r = n.refused in
      record {
        why = status_for n.why;
        cause = λ tell. cause_of store (m.disk.seen before.log) (m.disk.seen before.side) n.why (r.cause tell.log tell.side);
        counts = counts_of (store_faults m before) (store_faults m after) n.why r.count;
        other = λ wrong tell. r.wrong (is_wrong n.why wrong) tell.log tell.side;
        log = λ tell.
            let c = r.crash tell.log tell.side in
            record {
              later = c.later;
              each = λ file left. gains file (c.each file left);
              before = λ t file at left. elim (c.before t file at left) [ inl was ↦ inl was | inr gain ↦ inr (gains file gain) ];
            };
        side = r.still;
        told = record { status_is = n.stopped.status_is; line = n.stopped.line };
        input = n.input_same;
      }

  module _ (s s' : Standby (Pair D)) (o : opening.IsOpenStandby m.disk store before.log before.side s) where
    none_before : (x : Bytes) → (pair_of m.disk).doubts s.keeper x → ⊥
    none_before x d = calls_shut s.keeper.log.ajar o.quiet d.is_ajar

    abbrev first : Bool → run.Copied
    first told = record { told = told; held = o.held }

    abbrev IsItsRun : Bool → Type 0
    IsItsRun told = IsRun (pair_of m.disk) m.source m.sink old.LONGEST_INPUT before.input after.input s s' before.output after.output (first told) number

    of_entries : (r : Standby (Pair D)) (b : run.Copied) → run.Stands (pair_of m.disk) r b → AreOfEntries b.held
    of_entries r b st = record { list = st.server.list; entries = st.holds.records.entries; are = sym st.are }

    list_is : (r : Standby (Pair D)) (held : List Bytes) → run.Stands (pair_of m.disk) r (record { told = true; held = held }) → (pair_of m.disk).list r.keeper ≡ held
    list_is r held st = (st.holds.kept refl).is ∙ st.are

    module _ (told : Bool) (ran : IsItsRun told) where
      what : Shown (pair_of m.disk) m.sink s s' before.output ran.mid (first told) ran.ran.read ran.ran.more o.used none_before ran.result
      what = shown (pair_of m.disk) m.sink s s' before.output ran.mid (first told) ran.ran.read ran.ran.more o.used none_before ran.result ran.ran.did

      abbrev Tried : Bytes → Type 0
      Tried x = WasTried ran.result what.next x

      abbrev LeftAt : D → D → Type 0
      LeftAt log side = (both : Files) → store_files.MayBe m.disk log side both → AreBytes both → IsLeft store what.now Tried both

      abbrev SinceAt : D → D → Type 0
      SinceAt log side = (both : Files) → store_files.LeftSince m.disk log side (m.disk.moment before.log) both → AreBytes both
          → Between store o.held what.now Tried both ⊎ ((was : Files) × MayBeMade m before after number store was × OpenAlike store was both)

    module _ (tell : FilesTell m before) (ran : IsItsRun true) (left : StoreLeft m.disk store before.log before.side s s' o.held number) where
      abbrev now : List Bytes
      now = (what true ran).now

      long : length store ≡ 16
      long = subst (λ (t : Bytes). length t ≡ 16) left.label (left.stands.holds.kept refl).told.head.store_is

      same_now : left.list ≡ now
      same_now = sym (list_is s' left.list left.stands) ∙ list_is s' now (what true ran).kept.stands

      tried : (x : Bytes) → InDoubt m.disk s' x → Tried true ran x
      tried x d = (what true ran).doubt refl x d.1

      between : (both : Files) → AreBytes both → old_left.Between store o.held now (InDoubt m.disk s') both → Between store o.held now (Tried true ran) both
      between both bytes b = record {
        part = b.part;
        beyond = b.beyond;
        within = b.within;
        left = left_so store long b.part (λ x. (b.part ≡ now) × InDoubt m.disk s' x) (λ x. (b.part ≡ now) × Tried true ran x) (λ x d. (d.0, tried x d.1)) both bytes b.left;
      }

      left_now : LeftAt true ran (log_disk s'.keeper) (side_disk s'.keeper)
      left_now both may bytes = left_so store long now (InDoubt m.disk s') (Tried true ran) tried both bytes (subst (λ (l : List Bytes). old_left.IsLeft store l (InDoubt m.disk s') both) same_now (left.now both may))

      since : SinceAt true ran (log_disk s'.keeper) (side_disk s'.keeper)
      since both was bytes = elim (left.since_begun both was) [
        | inl b ↦ inl (between both bytes (subst (λ (l : List Bytes). old_left.Between store o.held l (InDoubt m.disk s') both) same_now b))
        | inr one ↦ inr (one.0, one.1, alike store long one.0 both one.2)
      ]

      later : m.disk.moment before.log ≤ m.disk.moment (log_disk s'.keeper)
      later =
          let opened = (o.crash tell.log tell.side).later in
          let then = ((what true ran).kept.time refl).later in
          omega (arith, opened, then)

      module _ (same : after.log ≡ log_disk s'.keeper) (same_side : after.side ≡ side_disk s'.keeper) where
        at_disks : (P : D → D → Type 0) → P (log_disk s'.keeper) (side_disk s'.keeper) → P after.log after.side
        at_disks P is = subst (λ (d : D). P d after.side) (sym same) (subst (λ (d : D). P (log_disk s'.keeper) d) (sym same_side) is)

        files_left : FilesLeft m before after number store o.held now (Tried true ran)
        files_left = record {
          long = long;
          gives = λ bytes. new_gives store long (read m before) o.held bytes (o.gives tell.log tell.side);
          left = at_disks (LeftAt true ran) left_now;
          later = subst (λ (d : D). m.disk.moment before.log ≤ m.disk.moment d) (sym same) later;
          since = at_disks (SinceAt true ran) since;
        }

    module _ (same : after.log ≡ log_disk s'.keeper) (same_side : after.side ≡ side_disk s'.keeper)
        (left : m.disk.tells before.log → m.disk.tells before.side → StoreLeft m.disk store before.log before.side s s' o.held number) where
      at_files : (told : Bool) (tells : told ≡ true → FilesTell m before) (ran : IsItsRun told) → told ≡ true → FilesLeft m before after number store o.held (what told ran).now (Tried told ran)
      at_files true tells ran is = let tell = tells refl in files_left tell ran (left tell.log tell.side) same same_side
      at_files false tells ran is = absurd (cc is)

      module _ (told : Bool) (tells : told ≡ true → FilesTell m before) (ran : IsItsRun told) where
        abbrev CausesOf : ℕ → ℕ → Type 0
        CausesOf k k' = Causes (m.source.faults before.input) (m.source.faults after.input) k k' (m.sink.faults before.output) (m.sink.faults ran.mid) ran.result

        faults_now : (pair_of m.disk).faults s'.keeper ≡ store_faults m after
        faults_now = sym (ap (λ (d : D). m.disk.faults d + m.disk.faults after.side) same ∙ ap (λ (d : D). m.disk.faults (log_disk s'.keeper) + m.disk.faults d) same_side)

        causes : CausesOf (store_faults m before) (store_faults m after)
        causes =
            let so = causes_of (m.source.faults before.input) (m.source.faults after.input) ((pair_of m.disk).faults s.keeper) ((pair_of m.disk).faults s'.keeper) (m.sink.faults before.output) (m.sink.faults ran.mid) ran.result ran.ends in
            subst (λ (k : ℕ). CausesOf k (store_faults m after)) o.calm (subst (CausesOf ((pair_of m.disk).faults s.keeper)) faults_now so)

        stood_in : StoodIn m before after number store told
        stood_in =
            let shows = what told ran in
            record {
              held = o.held;
              held_are = of_entries s (first told) (o.stands told (λ is. ((tells is).log, (tells is).side)));
              read_bytes = ran.ran.read;
              more = ran.ran.more;
              source_tells = ran.ran.was_read.told;
              was_read = λ t. (ran.ran.was_read.input t, ran.ran.was_read.rest t);
              few = ran.ran.few;
              ended = ran.result;
              lines = shows.lines;
              now = shows.now;
              now_are = of_entries s' (run.holding shows.now (first told)) shows.kept.stands;
              goes_on = shows.kept.more;
              said = shows.said;
              next = shows.next;
              answers = shows.answers;
              mid = ran.mid;
              half = shows.half;
              wrote = shows.wrote;
              passed_first = shows.passed;
              number_is = ran.status_is ∙ ap number_of (status_same ran.result);
              line = subst (λ (t : Status). Told m.sink ran.mid after.output (line_of t)) (status_same ran.result) ran.line;
              passed = ran.passed;
              done = ran.done;
              causes = causes;
              files = λ is. at_files told tells ran is;
            }

  complete : old.HasStoodIn m.disk m.source m.sink store before.log after.log before.side after.side before.input after.input before.output after.output number → Complete m before after number store
  complete h = λ tells few lines are each input output disk. h.complete tells few lines are (all_entries lines each) input output disk

  pub is_stood_in : after.clock ≡ before.clock → after.links ≡ before.links
      → old.IsStandIn m.disk m.source m.sink store before.log after.log before.side after.side before.input after.input before.output after.output number → IsStoodIn m before after number store the_finders
  is_stood_in clock links (inl n) = (clock, links, inl (not_begun n))
  is_stood_in clock links (inr h) = (
    clock,
    links,
    inr ((λ told tells. stood_in h.standby h.after h.opened h.same h.same_side h.left told tells (h.ran told (λ is. ((tells is).log, (tells is).side)))), complete h),
  )
