-- A receiver that a file was opened to, or why there is none.
use Rattle.std.proofs.Common.{◌≡◌, inl, inr, ℕ, ◌+◌, ◌≤◌, Bool, true, false, List, [], ◌∷◌, ◌++◌, length, take, map, Some, refl, sym, ◌∙◌, ap, subst, arith}
use Rattle.std.specs.Prelude.{Result, Ok, Err, IfOk, IfErr, IsTrue}
use Rattle.news_types.specs.Names.{Bytes, is_name}
use Rattle.news_types.specs.Frames.{Frame}
use Rattle.news_io.specs.Disk.{DiskMeaning, LeavesOnly}
use Rattle.news_io.specs.Faults.{Rose}
use Rattle.news_io.specs.Keeper.{Leaves}
use Rattle.news_io.specs.declared.record.Record.{Record}
use Rattle.news_io.proofs.Runs.{elapses_weaker, elapses_then}
use Rattle.news_journal.specs.Calls.{append_calls}
use Rattle.news_journal.specs.Created.{IsInTheMaking}
use Rattle.news_journal.specs.Damage.{damage}
use Rattle.news_journal.specs.Journal.{journal_of}
use Rattle.news_journal.specs.Law.{outcome_opens}
use Rattle.news_journal.specs.Log.{IsHead, header_bytes, records, opened}
use Rattle.news_journal.specs.Opened.{Still, FaultCounts, IsDamage, IsLog, places}
use Rattle.news_journal.specs.Stands.{Doubts, disk_of, head_of, list_of}
use Rattle.news_journal.specs.declared.header.Header.{Header}
use Rattle.news_journal.specs.declared.header.Header.TheVariants as header
use Rattle.news_journal.specs.declared.log.Journal.{Journal}
use Rattle.news_journal.specs.declared.log.OpenFault.{OpenFault}
use Rattle.news_journal.specs.declared.log.OpenFault.TheVariants as file
use Rattle.feed_receiver.specs.Spelling.{frame_bytes}
use Rattle.feed_receiver.specs.Feed.{InOrder, payloads}
use Rattle.feed_receiver.specs.Holds.{OpensTo}
use Rattle.feed_receiver.specs.declared.receiver.Receiver.{Receiver}
use Rattle.receiver_files.specs.Log.{Gives, OpenTo, Cause, RefusalCounts, MayBeMine, AreBad}
use Rattle.receiver_files.specs.Opening.{MayBe, MayBeMade, IsRefused, IsOpenReceiver}
use Rattle.receiver_files.specs.Refusals.{refusal_of_file}
use Rattle.receiver_files.specs.declared.refusal.Refusal.{Refusal}
use Rattle.receiver_files.specs.declared.refusal.Refusal.TheVariants as refusal
use Rattle.receiver_files.proofs.Logs.{sizes_are, placed_payloads, open_to, none_bad, mine_log, not_other}

-- ---- by what was answered

pub if_ok : {A E : Type 0} (P Q : A → Type 0) (r : Result A E) → ((x : A) → P x → Q x) → IfOk r P → IfOk r Q
if_ok P Q (Ok x) f p = f x p
if_ok P Q (Err e) f p = tt

pub if_err : {A E : Type 0} (P Q : E → Type 0) (r : Result A E) → ((e : E) → P e → Q e) → IfErr r P → IfErr r Q
if_err P Q (Ok x) f p = tt
if_err P Q (Err e) f p = f e p

calls_shut : (ajar : Bool) → append_calls ajar ≡ 4 → ajar ≡ true → ⊥
calls_shut false quiet is = absurd (cc is)
calls_shut true quiet is = absurd (omega (arith, quiet))

no_frames : (frames : List Frame) → payloads [] ≡ map frame_bytes frames → frames ≡ []
no_frames [] are = refl
no_frames (f ∷ frames) are = absurd (cc are)

module _ {D : Type 0} (disk : DiskMeaning D) (name : Bytes) (log : D) where
  -- a file that was only read
  pub still_leaves : (now : D) → Still disk log now → LeavesOnly disk log now (MayBeMade disk name log)
  still_leaves now still = record {
    later = still.time.later;
    each = λ c left. elim (still.time.nothing_else (disk.moment log) c (omega arith) left) [ inl was ↦ inl (disk.only_now log c was) | inr may ↦ inl may ];
    before = λ t c le left. elim (still.time.nothing_else t c le left) [ inl was ↦ inl was | inr may ↦ inr (inl may) ];
  }

  -- an empty one that was read, and then made a log, as far as that came
  pub made_leaves : (mid now : D) → disk.seen log ≡ [] → Still disk log mid → LeavesOnly disk mid now (IsInTheMaking (header.Receiver name)) → LeavesOnly disk log now (MayBeMade disk name log)
  made_leaves mid now empty still made =
      let first = still_leaves mid still in
      record {
        later = omega (arith, first.later, made.later);
        each = λ c left. elim (made.before (disk.moment log) c first.later left) [ inl was ↦ first.each c was | inr making ↦ inr (empty, making) ];
        before = λ t c le left. elim (made.before t c (omega (arith, le, first.later)) left) [ inl was ↦ first.before t c le was | inr making ↦ inr (inr (empty, making)) ];
      }

  -- the journal of a file that was opened, and its records
  pub record IsJournal (j : Journal D) (rs : List Record) : Type 0 where
    pub tells : disk.tells log → (journal_of disk).tells j
    pub list : disk.tells log → (journal_of disk).list j ≡ payloads rs
    pub none : (x : Bytes) → (journal_of disk).doubts j x → ⊥
    pub quiet : (journal_of disk).most_calls j ≡ 4
    pub used : (journal_of disk).used j ≡ 65 + length (records (payloads rs))
    pub calm : disk.faults (disk_of j) ≡ disk.faults log
    pub head : disk.tells log → IsHead (header.Receiver name) (head_of j)
    pub gives : disk.tells log → (frames : List Frame) → InOrder name 1 frames → payloads rs ≡ map frame_bytes frames → Gives name (disk.seen log) frames
    pub made : disk.tells log → disk.seen log ≡ [] → disk.seen (disk_of j) ≡ header_bytes (header.Receiver name) ++ 0 ∷ []
    pub still : disk.tells log → (disk.seen log ≡ [] → ⊥) → Still disk log (disk_of j)
    pub crash : disk.tells log → LeavesOnly disk log (disk_of j) (MayBeMade disk name log)

  module _ (form : IsTrue (is_name name)) (j : Journal D) (rs : List Record) (a : IsJournal j rs) (r : Receiver (Journal D)) (o : OpensTo (journal_of disk) j name rs r) where
    in_order : InOrder name 1 o.frames
    in_order = (o.holds false (λ is. absurd (cc is))).order

    keeps : disk.tells log → (file : List ℕ) → MayBe disk (disk_of j) file → OpenTo (head_of j) name file o.frames
    keeps told file may =
        let logs = a.tells told in
        let left : Leaves (list_of disk j) (Doubts disk j (list_of disk j)) (opened (head_of j) file) = outcome_opens disk j (list_of disk j) logs file may in
        elim left [
          | inl all ↦ open_to name (head_of j) form (a.head told) file o.frames in_order (all ∙ ap (λ (l : List Bytes). Some l) (a.list told ∙ o.are))
          | inr one ↦ absurd (a.none one.0 one.1)
        ]

    pub receiver_opens : IsOpenReceiver disk name log r
    receiver_opens = record {
      named = form;
      frames = o.frames;
      gives = λ told. a.gives told o.frames in_order o.are;
      holds = λ told only. o.holds told (λ is. record { told = a.tells (only is); is = a.list (only is); next = λ x d. absurd (a.none x d) });
      quiet = ap (journal_of disk).most_calls o.same ∙ a.quiet;
      used = ap (journal_of disk).used o.same ∙ a.used ∙ ap (λ (l : List Bytes). 65 + length (records l)) o.are ∙ ap (λ (n : ℕ). 65 + n) (sizes_are o.frames);
      calm = ap (journal_of disk).faults o.same ∙ a.calm;
      keeps = subst (λ (k : Journal D). disk.tells log → (file : List ℕ) → MayBe disk (disk_of k) file → OpenTo (head_of k) name file o.frames) (sym o.same) keeps;
      made = λ told empty. ap (λ (k : Journal D). disk.seen (disk_of k)) o.same ∙ a.made told empty;
      still = λ told some. subst (λ (k : Journal D). Still disk log (disk_of k)) (sym o.same) (a.still told some);
      crash = λ told. subst (λ (k : Journal D). LeavesOnly disk log (disk_of k) (MayBeMade disk name log)) (sym o.same) (a.crash told);
    }

  -- ---- a file that does not serve

  pub refused_still : (log' : D) (why : Refusal) → (disk.tells log → Cause name (disk.seen log) why) → RefusalCounts (disk.faults log) (disk.faults log') why → Still disk log log' → IsRefused disk name log log' why
  refused_still log' why cause count still = record { cause = cause; count = count; left = λ told. inl still }

  fault_cause : (f : OpenFault) → MayBeMine name (disk.seen log) → IsDamage (damage (disk.seen log)) f → Cause name (disk.seen log) (refusal_of_file f)
  fault_cause file.DiskFault mine d = tt
  fault_cause (file.Damaged at found) mine d = record { some = mine.some; mine = not_other name (disk.seen log) mine; shown = inl d }
  fault_cause file.Memory mine d = tt

  -- behind calls that only read
  module _ (mid : D) (still : Still disk log mid) (same : disk.faults mid ≡ disk.faults log) where
    fault_counts : (f : OpenFault) (now : ℕ) → FaultCounts (disk.faults mid) now f → RefusalCounts (disk.faults log) now (refusal_of_file f)
    fault_counts file.DiskFault now c = subst (λ (n : ℕ). Rose n now) same (c.fault tt)
    fault_counts (file.Damaged at found) now c = c.calm (λ z. z) ∙ same
    fault_counts file.Memory now c = c.calm (λ z. z) ∙ same

    still_behind : (now : D) → Still disk mid now → Still disk log now
    still_behind now more = record {
      told = λ t. more.told (still.told t);
      seen_same = more.seen_same ∙ still.seen_same;
      crash = λ c h. still.crash c (more.crash c h);
      time = elapses_then _ _ _ _ _ _ _ still.time (elapses_weaker _ _ _ _ _ _ more.time still.crash);
    }

    -- an empty one that was made a log
    pub journal_made : (j : Journal D) → (disk.tells log → disk.seen log ≡ []) → head_of j ≡ header_bytes (header.Receiver name)
        → (disk.tells mid → disk.seen mid ≡ [] → disk.seen (disk_of j) ≡ header_bytes (header.Receiver name) ++ 0 ∷ [])
        → (disk.tells mid → disk.seen mid ≡ [] → (journal_of disk).tells j) → (disk.tells mid → disk.seen mid ≡ [] → (journal_of disk).list j ≡ [])
        → ((x : Bytes) → (journal_of disk).doubts j x → ⊥) → (journal_of disk).most_calls j ≡ 4 → (journal_of disk).used j ≡ 65
        → (disk.tells mid → disk.seen mid ≡ [] → LeavesOnly disk mid (disk_of j) (IsInTheMaking (header.Receiver name))) → disk.faults (disk_of j) ≡ disk.faults mid → IsJournal j []
    journal_made j empty head bytes tells list none quiet used crash calm =
        let here : disk.tells log → disk.seen mid ≡ [] = λ told. still.seen_same ∙ empty told in
        record {
          tells = λ told. tells (still.told told) (here told);
          list = λ told. list (still.told told) (here told);
          none = none;
          quiet = quiet;
          used = used;
          calm = calm ∙ same;
          head = λ told. (2, inr refl, head);
          gives = λ told frames order are. inl (empty told, no_frames frames are);
          made = λ told none. bytes (still.told told) (here told);
          still = λ told some. absurd (some (empty told));
          crash = λ told. made_leaves mid (disk_of j) (empty told) still (crash (still.told told) (here told));
        }

    -- or could not be made one
    pub refused_unmade : (log' : D) (f : OpenFault) (why : Refusal) → (disk.tells log → disk.seen log ≡ []) → why ≡ refusal_of_file f → (disk.tells mid → disk.tells log')
        → (disk.tells mid → disk.seen mid ≡ [] → LeavesOnly disk mid log' (IsInTheMaking (header.Receiver name)))
        → (f ≡ file.DiskFault) × (disk.faults mid ≤ disk.faults log') × Rose (disk.faults mid) (disk.faults log') → IsRefused disk name log log' why
    refused_unmade log' f why empty why_is told crash fault =
        let is : why ≡ refusal.Store = why_is ∙ ap refusal_of_file fault.0 in
        record {
          cause = λ told. subst (Cause name (disk.seen log)) (sym is) tt;
          count = subst (RefusalCounts (disk.faults log) (disk.faults log')) (sym is) (subst (λ (n : ℕ). Rose n (disk.faults log')) same fault.2);
          left = λ tells. inr (record {
            empty = empty tells;
            why_is = is;
            told = told (still.told tells);
            crash = made_leaves mid log' (empty tells) still (crash (still.told tells) (still.seen_same ∙ empty tells));
          });
        }

    -- no record of an empty log is a bad one
    pub refused_none : (log' : D) (why : Refusal) → AreBad name [] why → IsRefused disk name log log' why
    refused_none log' (refusal.Damaged at found) bad = absurd (none_bad name [] [] at tt refl bad.0)
    refused_none log' refusal.WrongStore bad = absurd bad
    refused_none log' refusal.Store bad = absurd bad
    refused_none log' refusal.Memory bad = absurd bad

    module _ (mine : disk.tells log → MayBeMine name (disk.seen log)) where
      -- one that was read
      pub journal_read : (j : Journal D) (h : Header) (rs : List Record) → (disk.tells mid → IsLog h (places rs) (disk.seen mid)) → (disk.tells mid → head_of j ≡ take 64 (disk.seen mid))
          → (disk.tells mid → (journal_of disk).tells j) → (disk.tells mid → (journal_of disk).list j ≡ payloads rs)
          → ((x : Bytes) → (journal_of disk).doubts j x → ⊥) → (journal_of disk).most_calls j ≡ 4 → (journal_of disk).used j ≡ 65 + length (records (payloads rs))
          → (disk.tells mid → Still disk mid (disk_of j)) → disk.faults (disk_of j) ≡ disk.faults mid → IsJournal j rs
      journal_read j h rs log_is head tells list none quiet used more calm =
          let own : disk.tells log → IsLog (header.Receiver name) (places rs) (disk.seen log) =
          λ told. mine_log name (disk.seen log) h (places rs) (mine told) (subst (IsLog h (places rs)) still.seen_same (log_is (still.told told))) in
          record {
            tells = λ told. tells (still.told told);
            list = λ told. list (still.told told);
            none = none;
            quiet = quiet;
            used = used;
            calm = calm ∙ same;
            head = λ told. subst (IsHead (header.Receiver name)) (sym (head (still.told told) ∙ ap (take 64) still.seen_same)) (own told).head;
            gives = λ told frames order are. inr (record { records = places rs; log_is = own told; order = order; are = placed_payloads rs ∙ are });
            made = λ told empty. absurd ((mine told).some empty);
            still = λ told some. still_behind (disk_of j) (more (still.told told));
            crash = λ told. still_leaves (disk_of j) (still_behind (disk_of j) (more (still.told told)));
          }

      -- and is no log
      pub refused_file : (log' : D) (f : OpenFault) (why : Refusal) → why ≡ refusal_of_file f → (disk.tells mid → IsDamage (damage (disk.seen mid)) f) → FaultCounts (disk.faults mid) (disk.faults log') f
          → (disk.tells mid → Still disk mid log') → IsRefused disk name log log' why
      refused_file log' f why is damaged counts more = subst (IsRefused disk name log log') (sym is) (record {
        cause = λ told. fault_cause f (mine told) (subst (λ (l : List ℕ). IsDamage (damage l) f) still.seen_same (damaged (still.told told)));
        count = fault_counts f (disk.faults log') counts;
        left = λ told. inl (still_behind log' (more (still.told told)));
      })

      -- or has a record that is not the feed's
      pub refused_record : (log' : D) (h : Header) (rs : List Record) (why : Refusal) → (disk.tells mid → IsLog h (places rs) (disk.seen mid)) → (disk.tells mid → Still disk mid log') → disk.faults log' ≡ disk.faults mid
          → AreBad name rs why → IsRefused disk name log log' why
      refused_record log' h rs (refusal.Damaged at found) log_is more calm bad = record {
        cause = λ told. record {
          some = (mine told).some;
          mine = not_other name (disk.seen log) (mine told);
          shown = inr (record {
            records = rs;
            log_is = mine_log name (disk.seen log) h (places rs) (mine told) (subst (IsLog h (places rs)) still.seen_same (log_is (still.told told)));
            bad = bad.0;
            found_is = bad.1;
          });
        };
        count = calm ∙ same;
        left = λ told. inl (still_behind log' (more (still.told told)));
      }
      refused_record log' h rs refusal.WrongStore log_is more calm bad = absurd bad
      refused_record log' h rs refusal.Store log_is more calm bad = absurd bad
      refused_record log' h rs refusal.Memory log_is more calm bad = absurd bad
