-- The input is read one piece further.
use Rattle.std.proofs.Common.{◌≡◌, inl, inr, ℕ, ◌+◌, ◌<◌, ◌≤◌, List, [], ◌∷◌, ◌++◌, length, take, drop, Result, Ok, Err, refl, sym, ◌∙◌, ap, subst, arith, append_assoc}
use Rattle.std.proofs.lemmas.List.{append-nil, length-append, length-drop, take_at, take-append-drop, drop-drop}
use Rattle.std.specs.Prelude.{OnOk, IfErr}
use Rattle.news_types.specs.Names.{Bytes}
use Rattle.news_io.specs.Keeper.{KeeperMeaning}
use Rattle.news_io.specs.Source.{SourceMeaning}
use Rattle.news_io.specs.Sink.{AreFirst, SinkMeaning}
use Rattle.news_io.proofs.Pieces.{first_all}
use Rattle.run_status.specs.Output.{Wrote, AllPassed}
use Rattle.run_status.proofs.Tellings.{wrote_none}
use Rattle.line_run.specs.Run.{WasRead}
use Rattle.line_run.proofs.Inputs.{was_read_more}
use Rattle.room_standby.specs.declared.standby.Standby.{Standby}
use Rattle.record_lines.specs.Spelling.{Numbered, record_bytes}
use Rattle.record_lines.specs.Reads.{AreRecord}
use Rattle.frame_run.specs.Input.{IsLookedAt}
use Rattle.frame_run.specs.Answers.{CausedBy}
use Rattle.frame_run.specs.Run.{NotByOutput}
use Rattle.standby_files.specs.Input.{AreRecords, HasBegun, AreAll, IsBadAt, HasNoEntry, IsNoEntryAt}
use Rattle.standby_files.specs.Answers.{Copied, Stands, behind_all, holding, AnsweredAll, AnsweredSome, Answered}
use Rattle.standby_files.specs.Run.{IsEnd, Ran, IsBadHere, IsNoEntryHere, FoundAll, FoundEnd}
use Rattle.frame_run.specs.declared.ending.Ending.{Ending}
use Rattle.frame_run.specs.declared.ending.Ending.TheVariants as end
use Rattle.standby_files.proofs.Inputs.{records_none, records_one, records_then, records_on, bad_at_byte, bad_at_end, begun_none}
use Rattle.standby_files.proofs.Turns.{behind_then, none_yet, all_then, some_then, all_some, none_some, some_on, all_begun, some_begun, some_passed}

-- ---- the records at the front of the bytes at hand

-- so many bytes of them were answered
pub record FrontSoFar {K O : Type 0} (keeper : KeeperMeaning K) (sink : SinkMeaning O) (old new : Standby K) (o o' : O) (b : Copied) (bytes : Bytes) (count : ℕ) : Type 0 where
  pub records : List Numbered
  pub are : AreRecords bytes records (drop count bytes)
  pub done : AnsweredAll keeper sink old new o o' b records

cut_at : (rest : Bytes) (size : ℕ) (f : Numbered) → AreRecord f (take size rest) → rest ≡ record_bytes f ++ drop size rest
cut_at rest size f a = sym (take-append-drop size rest) ∙ ap (λ (l : Bytes). l ++ drop size rest) a.is

module _ {K O : Type 0} (keeper : KeeperMeaning K) (sink : SinkMeaning O) (bytes : Bytes) where
  pub front_starts : (it : Standby K) (o : O) (b : Copied) → Stands keeper it b → FrontSoFar keeper sink it it o o b bytes 0
  front_starts it o b h = record { records = []; are = records_none bytes; done = none_yet keeper sink it o b h }

  pub front_next : (old mid new : Standby K) (o o' o'' : O) (b : Copied) (count size : ℕ) (f : Numbered) → FrontSoFar keeper sink old mid o o' b bytes count → AreRecord f (take size (drop count bytes))
      → ((c : Copied) → Stands keeper mid c → AnsweredAll keeper sink mid new o' o'' c (f ∷ [])) → FrontSoFar keeper sink old new o o'' b bytes (count + size)
  front_next old mid new o o' o'' b count size f so_far a then = record {
    records = so_far.records ++ f ∷ [];
    are = subst (λ (l : Bytes). AreRecords bytes (so_far.records ++ f ∷ []) l) (drop-drop size count bytes)
        (records_then bytes (drop count bytes) (drop size (drop count bytes)) so_far.records (f ∷ []) so_far.are (records_one (drop count bytes) (drop size (drop count bytes)) f a.form (cut_at (drop count bytes) size f a)));
    done = all_then keeper sink old mid new o o' o'' b so_far.records (f ∷ []) so_far.done (then (holding (behind_all b.held so_far.records) b) so_far.done.kept.stands);
  }

  pub front_stops : (old mid new : Standby K) (o o' o'' : O) (b : Copied) (count size : ℕ) (f : Numbered) (why : Ending) → FrontSoFar keeper sink old mid o o' b bytes count → AreRecord f (take size (drop count bytes))
      → ((c : Copied) → Stands keeper mid c → AnsweredSome keeper sink mid new o' o'' c [] (record_bytes f) why)
      → (records : List Numbered) × (rest : Bytes) × AreRecords bytes records rest × AnsweredSome keeper sink old new o o'' b records rest why
  front_stops old mid new o o' o'' b count size f why so_far a then =
      let rest : Bytes = drop count bytes in
      let some : AnsweredSome keeper sink mid new o' o'' (holding (behind_all b.held so_far.records) b) [] (record_bytes f) why = then (holding (behind_all b.held so_far.records) b) so_far.done.kept.stands in
      let on : AnsweredSome keeper sink mid new o' o'' (holding (behind_all b.held so_far.records) b) [] rest why =
      subst (λ (l : Bytes). AnsweredSome keeper sink mid new o' o'' (holding (behind_all b.held so_far.records) b) [] l why) (sym (cut_at rest size f a))
      (some_on keeper sink mid new o' o'' (holding (behind_all b.held so_far.records) b) [] (record_bytes f) (drop size rest) why some) in
      let whole : AnsweredSome keeper sink old new o o'' b (so_far.records ++ []) rest why = some_then keeper sink old mid new o o' o'' b so_far.records [] rest why so_far.done on in
      (so_far.records, rest, so_far.are, subst (λ (l : List Numbered). AnsweredSome keeper sink old new o o'' b l rest why) (append-nil so_far.records) whole)

module _ {K O : Type 0} (keeper : KeeperMeaning K) (sink : SinkMeaning O) (bytes : Bytes) (begun : ℕ) where
  -- so many bytes of them were answered, and then a record line ended it
  pub found_record : (old mid new : Standby K) (o o' o'' : O) (b : Copied) (count size : ℕ) (f : Numbered) (why : Ending) → FrontSoFar keeper sink old mid o o' b bytes count → AreRecord f (take size (drop count bytes))
      → count + size ≤ length bytes → ((c : Copied) → Stands keeper mid c → Answered keeper sink mid new o' o'' c f (begun + count + size) (Err why)) → FoundEnd keeper sink old new o o'' b bytes begun why
  found_record old mid new o o' o'' b count size f end.Read so_far a le then = absurd (then (holding (behind_all b.held so_far.records) b) so_far.done.kept.stands).0
  found_record old mid new o o' o'' b count size f end.TooLong so_far a le then = absurd (then (holding (behind_all b.held so_far.records) b) so_far.done.kept.stands).0
  found_record old mid new o o' o'' b count size f (end.BadFrame at) so_far a le then =
      let rest : Bytes = drop count bytes in
      let x = then (holding (behind_all b.held so_far.records) b) so_far.done.kept.stands in (
        so_far.records,
        rest,
        so_far.are,
        inr (record {
          line = f;
          later = drop size rest;
          are = records_one rest (drop size rest) f a.form (cut_at rest size f a);
          end = begun + count + size;
          ends = omega (arith, le, length-drop size rest, length-drop count bytes);
          bad = x.0;
        }),
        subst (λ (l : List Numbered). AnsweredAll keeper sink old new o o'' b l) (append-nil so_far.records) (all_then keeper sink old mid new o o' o'' b so_far.records [] so_far.done x.1),
      )
  found_record old mid new o o' o'' b count size f end.Write so_far a le then = front_stops keeper sink bytes old mid new o o' o'' b count size f end.Write so_far a (λ c h. (then c h).1)
  found_record old mid new o o' o'' b count size f end.Store so_far a le then = front_stops keeper sink bytes old mid new o o' o'' b count size f end.Store so_far a (λ c h. (then c h).1)
  found_record old mid new o o' o'' b count size f end.Full so_far a le then = front_stops keeper sink bytes old mid new o o' o'' b count size f end.Full so_far a (λ c h. (then c h).1)
  found_record old mid new o o' o'' b count size f end.Memory so_far a le then = front_stops keeper sink bytes old mid new o o' o'' b count size f end.Memory so_far a (λ c h. (then c h).1)

  -- there was no memory for them
  pub found_none : (it : Standby K) (o : O) (b : Copied) → Stands keeper it b → FoundEnd keeper sink it it o o b bytes begun end.Memory
  found_none it o b h = ([], bytes, records_none bytes, none_some keeper sink it o o b bytes end.Memory (λ none. none) h (wrote_none sink o) (λ t. first_all (sink.passed o)))

  -- or for what is left of them
  pub found_all : (old new : Standby K) (o o' : O) (b : Copied) (records : List Numbered) (rest : Bytes) → AreRecords bytes records rest → AnsweredAll keeper sink old new o o' b records → FoundEnd keeper sink old new o o' b bytes begun end.Memory
  found_all old new o o' b records rest a done = (records, rest, a, all_some keeper sink old new o o' b records rest end.Memory (λ none. none) done)

-- the same, said of other words for the bytes
pub found_moved : {K O : Type 0} (keeper : KeeperMeaning K) (sink : SinkMeaning O) (old new : Standby K) (o o' : O) (b : Copied) (bytes bytes' left left' : Bytes) → bytes ≡ bytes' → left ≡ left' → FoundAll keeper sink old new o o' b bytes left
    → FoundAll keeper sink old new o o' b bytes' left'
found_moved keeper sink old new o o' b bytes bytes' left left' is rest f =
    (subst HasBegun rest f.0, (f.1.0, subst (λ (l : Bytes). AreRecords bytes' f.1.0 l) rest (subst (λ (l : Bytes). AreRecords l f.1.0 left) is f.1.1), f.1.2))

-- ---- pieces of the input

-- all whole records of what was read were answered, and this has come of the next
pub record ReadSoFar {K S O : Type 0} (keeper : KeeperMeaning K) (source : SourceMeaning S) (sink : SinkMeaning O) (most : ℕ) (i i' : S) (old new : Standby K) (o o' : O) (b : Copied) (held : Bytes) (left : ℕ) : Type 0 where
  pub read : Bytes
  pub was_read : WasRead source i i' read (source.ahead i')
  pub count : length read + left ≡ most
  pub records : List Numbered
  pub are : AreRecords read records held
  pub begun : HasBegun held
  pub done : AnsweredAll keeper sink old new o o' b records

-- what is left of the first bytes read, and where it begins in the input
pub record Behind {S : Type 0} (source : SourceMeaning S) (i i' i'' : S) (some over : Bytes) (left : ℕ) : Type 0 where
  pub told : source.tells i' → source.tells i''
  pub bytes : source.tells i' → source.ahead i' ≡ (some ++ over) ++ source.ahead i''
  pub few : length (some ++ over) ≤ left + 1
  pub within : length some ≤ left

module _ {K S O : Type 0} (keeper : KeeperMeaning K) (source : SourceMeaning S) (sink : SinkMeaning O) (most : ℕ) where
  pub read_starts : (i : S) (it : Standby K) (o : O) (b : Copied) (held : Bytes) → held ≡ [] → Stands keeper it b → ReadSoFar keeper source sink most i i it it o o b held most
  read_starts i it o b held none h = record {
    read = [];
    was_read = record { told = λ t. t; input = λ t. refl; rest = λ t. refl };
    count = omega arith;
    records = [];
    are = subst (λ (l : Bytes). AreRecords [] [] l) (sym none) (records_none []);
    begun = subst HasBegun (sym none) begun_none;
    done = none_yet keeper sink it o b h;
  }

  pub read_fails : (i i' i'' : S) (old new : Standby K) (o o' : O) (b : Copied) (held : Bytes) (left : ℕ) → ReadSoFar keeper source sink most i i' old new o o' b held left
      → (source.tells i' → source.tells i'') → (source.tells i' → source.ahead i'' ≡ source.ahead i') → Ran keeper source sink most i i'' old new o o' b (Err end.Read)
  read_fails i i' i'' old new o o' b held left p told same = record {
    read = p.read;
    more = source.ahead i';
    was_read = record { told = λ t. told (p.was_read.told t); input = p.was_read.input; rest = λ t. same (p.was_read.told t) };
    few = omega (arith, p.count);
    did = (omega (arith, p.count), (p.records, record { rest = held; are = p.are; begun = p.begun }, p.done));
  }

  -- at the end of the input
  all_read : (i i' i'' : S) (read piece : Bytes) (n : ℕ) → WasRead source i i' read (source.ahead i') → (source.tells i' → source.tells i'') → (source.tells i' → source.ahead i' ≡ take n piece ++ source.ahead i'')
      → (source.tells i' → source.ahead i' ≡ []) → n ≡ 0 → WasRead source i i'' read []
  all_read i i' i'' read piece n w told bytes none zero = record {
    told = λ t. told (w.told t);
    input = λ t. w.input t ∙ ap (λ (l : Bytes). read ++ l) (none (w.told t));
    rest = λ t. ap (λ (k : ℕ). take k piece ++ source.ahead i'') (sym zero) ∙ sym (bytes (w.told t)) ∙ none (w.told t);
  }

  read_ends : (i i' i'' : S) (old new : Standby K) (o o' : O) (b : Copied) (held piece : Bytes) (left n : ℕ) → ReadSoFar keeper source sink most i i' old new o o' b held left
      → (source.tells i' → source.tells i'') → (source.tells i' → source.ahead i' ≡ take n piece ++ source.ahead i'') → (source.tells i' → source.ahead i' ≡ []) → n ≡ 0 → held ≡ []
      → (u : Unit {0}) → Ran keeper source sink most i i'' old new o o' b (Ok u)
  read_ends i i' i'' old new o o' b held piece left n p told bytes none zero empty u = record {
    read = p.read;
    more = [];
    was_read = all_read i i' i'' p.read piece n p.was_read told bytes none zero;
    few = omega (arith, p.count);
    did = (refl, omega (arith, p.count), (p.records, subst (λ (l : Bytes). AreRecords p.read p.records l) empty p.are, p.done));
  }

  -- with the front of a record line
  read_ends_early : (i i' i'' : S) (old new : Standby K) (o o' : O) (b : Copied) (held piece : Bytes) (left n at : ℕ) → ReadSoFar keeper source sink most i i' old new o o' b held left
      → (source.tells i' → source.tells i'') → (source.tells i' → source.ahead i' ≡ take n piece ++ source.ahead i'') → (source.tells i' → source.ahead i' ≡ []) → n ≡ 0 → 0 < length held → at + left ≡ most
      → Ran keeper source sink most i i'' old new o o' b (Err (end.BadFrame at))
  read_ends_early i i' i'' old new o o' b held piece left n at p told bytes none zero some place =
      let here : length p.read ≡ at = omega (arith, p.count, place) in
      record {
        read = p.read;
        more = [];
        was_read = all_read i i' i'' p.read piece n p.was_read told bytes none zero;
        few = omega (arith, p.count);
        did = (
          p.records,
          inl (
            inr (omega (arith, p.count, length-append p.read [])),
            subst (λ (l : Bytes). IsBadAt l p.records at) (sym (append-nil p.read)) (subst (λ (k : ℕ). IsBadAt p.read p.records k) here (bad_at_end p.read held p.records p.are p.begun some)),
          ),
          p.done,
        );
      }

  -- by what is left
  pub read_ended : (i i' i'' : S) (old new : Standby K) (o o' : O) (b : Copied) (held rest piece : Bytes) (left n at : ℕ) (r : Result (Unit {0}) Ending) → ReadSoFar keeper source sink most i i' old new o o' b held left
      → (source.tells i' → source.tells i'') → (source.tells i' → source.ahead i' ≡ take n piece ++ source.ahead i'') → (source.tells i' → source.ahead i' ≡ []) → n ≡ 0 → at + left ≡ most
      → rest ≡ held → OnOk r (rest ≡ []) → IfErr r (λ why. (why ≡ end.BadFrame at) × (0 < length rest)) → Ran keeper source sink most i i'' old new o o' b r
  read_ended i i' i'' old new o o' b held rest piece left n at (Ok u) p told bytes none zero place is ok err =
      read_ends i i' i'' old new o o' b held piece left n p told bytes none zero (sym is ∙ ok) u
  read_ended i i' i'' old new o o' b held rest piece left n at (Err why) p told bytes none zero place is ok err =
      subst (λ (w : Ending). Ran keeper source sink most i i'' old new o o' b (Err w)) (sym err.0)
      (read_ends_early i i' i'' old new o o' b held piece left n at p told bytes none zero (omega (arith, err.1, ap length is)) place)

  module _ (i i' i'' : S) (old mid new : Standby K) (o o' o'' : O) (b : Copied) (held some over : Bytes) (left : ℕ) (p : ReadSoFar keeper source sink most i i' old mid o o' b held left) (w : Behind source i i' i'' some over left) where
    whole : (p.read ++ (some ++ over)) ++ source.ahead i'' ≡ (p.read ++ some) ++ (over ++ source.ahead i'')
    whole = ap (λ (l : Bytes). l ++ source.ahead i'') (sym (append_assoc p.read some over)) ∙ append_assoc (p.read ++ some) over (source.ahead i'')

    was : WasRead source i i'' (p.read ++ (some ++ over)) (source.ahead i'')
    was = was_read_more source i i' i'' p.read (some ++ over) p.was_read w.told w.bytes

    few : length (p.read ++ (some ++ over)) ≤ most + 1
    few = omega (arith, p.count, w.few, length-append p.read (some ++ over))

    -- the records that were answered before, and those of the bytes at hand
    joined : (records : List Numbered) (rest : Bytes) → AreRecords (held ++ some) records rest → AreRecords (p.read ++ some) (p.records ++ records) rest
    joined records rest a = records_then (p.read ++ some) (held ++ some) rest p.records records (records_on p.read held some p.records p.are) a

    abbrev here : Copied
    here = holding (behind_all b.held p.records) b

    pub stopped : (why : Ending) → (records : List Numbered) × (rest : Bytes) × AreRecords (held ++ some) records rest × AnsweredSome keeper sink mid new o' o'' here records rest why
        → (records : List Numbered) × (rest : Bytes) × AreRecords ((p.read ++ (some ++ over)) ++ source.ahead i'') records rest × AnsweredSome keeper sink old new o o'' b records rest why
    stopped why s =
        let tail : Bytes = over ++ source.ahead i'' in (
          p.records ++ s.0,
          s.1 ++ tail,
          subst (λ (l : Bytes). AreRecords l (p.records ++ s.0) (s.1 ++ tail)) (sym whole) (records_on (p.read ++ some) s.1 tail (p.records ++ s.0) (joined s.0 s.1 s.2)),
          some_on keeper sink old new o o'' b (p.records ++ s.0) s.1 tail why (some_then keeper sink old mid new o o' o'' b p.records s.0 s.1 why p.done s.3),
        )

    -- the place of the byte that ended the run
    abbrev Input : Bytes
    Input = (p.read ++ (some ++ over)) ++ source.ahead i''

    strays_bad : (at begun : ℕ) → begun + length held ≡ length p.read → (records : List Numbered) (rest : Bytes) → AreRecords (held ++ some) records rest → IsBadHere (held ++ some) begun rest at
        → IsLookedAt Input at most × IsBadAt Input (p.records ++ records) at
    strays_bad at begun place records rest a bad =
        let tail : Bytes = over ++ source.ahead i'' in
        let is : at + length rest ≡ length (p.read ++ some) + bad.within = omega (arith, bad.place, place, length-append held some, length-append p.read some) in (
          inl (omega (arith, is, bad.byte.within, p.count, w.within, length-append p.read some)),
          subst (λ (l : Bytes). IsBadAt l (p.records ++ records) at) (sym whole) (bad_at_byte (p.read ++ some) tail rest (p.records ++ records) bad.within at (joined records rest a) bad.byte is),
        )

    strays_none : (at begun : ℕ) → begun + length held ≡ length p.read → (records : List Numbered) (rest : Bytes) → AreRecords (held ++ some) records rest
        → IsNoEntryHere (held ++ some) begun rest (length (behind_all (behind_all b.held p.records) records)) at
        → (at ≤ most) × IsNoEntryAt Input (p.records ++ records) (length (behind_all b.held (p.records ++ records))) at
    strays_none at begun place records rest a none =
        let tail : Bytes = over ++ source.ahead i'' in
        let all = records_then (p.read ++ some) rest none.later (p.records ++ records) (none.line ∷ []) (joined records rest a) none.are in
        let before : none.end + length none.later ≡ length (p.read ++ some) = omega (arith, none.ends, place, length-append held some, length-append p.read some) in (
          omega (arith, before, none.bad.place, none.bad.fault.within, p.count, w.within, length-append p.read some),
          record {
            line = none.line;
            rest = none.later ++ tail;
            are = subst (λ (l : Bytes). AreRecords l ((p.records ++ records) ++ none.line ∷ []) (none.later ++ tail)) (sym whole)
                (records_on (p.read ++ some) none.later tail ((p.records ++ records) ++ none.line ∷ []) all);
            end = none.end;
            ends = omega (arith, before, ap length whole, length-append (p.read ++ some) tail, length-append none.later tail);
            bad = subst (λ (l : List Bytes). HasNoEntry (length l) none.line none.end at) (sym (behind_then b.held p.records records)) none.bad;
          },
        )

    -- the bytes at hand ended the run
    pub read_stops : (why : Ending) (begun k k' c c' : ℕ) → begun + length held ≡ length p.read → CausedBy k k' c c' why → FoundEnd keeper sink mid new o' o'' here (held ++ some) begun why
        → Ran keeper source sink most i i'' old new o o'' b (Err why)
    read_stops end.Read begun k k' c c' place cause f = absurd cause
    read_stops end.TooLong begun k k' c c' place cause f = absurd cause
    read_stops (end.BadFrame at) begun k k' c c' place cause f = record {
      read = p.read ++ (some ++ over);
      more = source.ahead i'';
      was_read = was;
      few = few;
      did = (
        p.records ++ f.0,
        elim f.3 [ inl bad ↦ inl (strays_bad at begun place f.0 f.1 f.2 bad) | inr none ↦ inr (strays_none at begun place f.0 f.1 f.2 none) ],
        all_then keeper sink old mid new o o' o'' b p.records f.0 p.done f.4,
      );
    }
    read_stops end.Write begun k k' c c' place cause f = record { read = p.read ++ (some ++ over); more = source.ahead i''; was_read = was; few = few; did = stopped end.Write f }
    read_stops end.Store begun k k' c c' place cause f = record { read = p.read ++ (some ++ over); more = source.ahead i''; was_read = was; few = few; did = stopped end.Store f }
    read_stops end.Full begun k k' c c' place cause f = record { read = p.read ++ (some ++ over); more = source.ahead i''; was_read = was; few = few; did = stopped end.Full f }
    read_stops end.Memory begun k k' c c' place cause f = record { read = p.read ++ (some ++ over); more = source.ahead i''; was_read = was; few = few; did = stopped end.Memory f }

    pub read_too_long : (rest : Bytes) → length some ≡ left → length over ≡ 1 → FoundAll keeper sink mid new o' o'' here (held ++ some) rest → Ran keeper source sink most i i'' old new o o'' b (Err end.TooLong)
    read_too_long rest every one f =
        let front : take most (p.read ++ (some ++ over)) ≡ p.read ++ some =
        ap (λ (l : Bytes). take most l) (sym (append_assoc p.read some over)) ∙ take_at (p.read ++ some) over most (omega (arith, p.count, every, length-append p.read some)) in
        record {
          read = p.read ++ (some ++ over);
          more = source.ahead i'';
          was_read = was;
          few = few;
          did = (
            omega (arith, p.count, every, one, length-append p.read (some ++ over), length-append some over),
            (
              p.records ++ f.1.0,
              subst (λ (l : Bytes). AreAll l (p.records ++ f.1.0)) (sym front) (record { rest = rest; are = joined f.1.0 rest f.1.1; begun = f.0 }),
              all_then keeper sink old mid new o o' o'' b p.records f.1.0 p.done f.1.2,
            ),
          );
        }

  pub read_goes_on : (i i' i'' : S) (old mid new : Standby K) (o o' o'' : O) (b : Copied) (held some held' : Bytes) (left left' : ℕ) → ReadSoFar keeper source sink most i i' old mid o o' b held left
      → (source.tells i' → source.tells i'') → (source.tells i' → source.ahead i' ≡ some ++ source.ahead i'') → length some + left' ≡ left
      → ((c : Copied) → Stands keeper mid c → FoundAll keeper sink mid new o' o'' c (held ++ some) held') → ReadSoFar keeper source sink most i i'' old new o o'' b held' left'
  read_goes_on i i' i'' old mid new o o' o'' b held some held' left left' p told bytes sum then =
      let f = then (holding (behind_all b.held p.records) b) p.done.kept.stands in
      record {
        read = p.read ++ some;
        was_read = was_read_more source i i' i'' p.read some p.was_read told bytes;
        count = omega (arith, p.count, sum, length-append p.read some);
        records = p.records ++ f.1.0;
        are = records_then (p.read ++ some) (held ++ some) held' p.records f.1.0 (records_on p.read held some p.records p.are) f.1.1;
        begun = f.0;
        done = all_then keeper sink old mid new o o' o'' b p.records f.1.0 p.done f.1.2;
      }

  -- nothing was read
  pub ran_nothing : (i : S) (it : Standby K) (o : O) (b : Copied) → Stands keeper it b → Ran keeper source sink most i i it it o o b (Err end.Memory)
  ran_nothing i it o b h = record {
    read = [];
    more = source.ahead i;
    was_read = record { told = λ t. t; input = λ t. refl; rest = λ t. refl };
    few = omega arith;
    did = ([], source.ahead i, records_none (source.ahead i), none_some keeper sink it o o b (source.ahead i) end.Memory (λ none. none) h (wrote_none sink o) (λ t. first_all (sink.passed o)));
  }

  pub ran_unwritten : (i : S) (it : Standby K) (o o' : O) (b : Copied) → Stands keeper it b → Wrote sink o o' [] → (sink.tells o → AreFirst (sink.passed o) (sink.passed o')) → Ran keeper source sink most i i it it o o' b (Err end.Write)
  ran_unwritten i it o o' b h wrote kept = record {
    read = [];
    more = source.ahead i;
    was_read = record { told = λ t. t; input = λ t. refl; rest = λ t. refl };
    few = omega arith;
    did = ([], source.ahead i, records_none (source.ahead i), none_some keeper sink it o o' b (source.ahead i) end.Write (λ none. none) h wrote kept);
  }

-- ---- what was written before passes on first

module _ {K O : Type 0} (keeper : KeeperMeaning K) (sink : SinkMeaning O) (most : ℕ) (old new : Standby K) (o o' o'' : O) (b : Copied) (w : Wrote sink o o' []) (first : sink.tells o → AllPassed sink o') where
  begun_some : (why : Ending) (bytes : Bytes) → (records : List Numbered) × (rest : Bytes) × AreRecords bytes records rest × AnsweredSome keeper sink old new o' o'' b records rest why
      → (records : List Numbered) × (rest : Bytes) × AreRecords bytes records rest × AnsweredSome keeper sink old new o o'' b records rest why
  begun_some why bytes s = (s.0, s.1, s.2, some_begun keeper sink old new o o' o'' b s.0 s.1 why w first s.3)

  end_begun : (read more : Bytes) (r : Result (Unit {0}) Ending) → IsEnd keeper sink most old new o' o'' b read more r → IsEnd keeper sink most old new o o'' b read more r
  end_begun read more (Ok u) d = (d.0, d.1, (d.2.0, d.2.1, all_begun keeper sink old new o o' o'' b d.2.0 w first d.2.2))
  end_begun read more (Err end.Read) d = (d.0, (d.1.0, d.1.1, all_begun keeper sink old new o o' o'' b d.1.0 w first d.1.2))
  end_begun read more (Err end.TooLong) d = (d.0, (d.1.0, d.1.1, all_begun keeper sink old new o o' o'' b d.1.0 w first d.1.2))
  end_begun read more (Err (end.BadFrame at)) d = (d.0, d.1, all_begun keeper sink old new o o' o'' b d.0 w first d.2)
  end_begun read more (Err end.Write) d = begun_some end.Write (read ++ more) d
  end_begun read more (Err end.Store) d = begun_some end.Store (read ++ more) d
  end_begun read more (Err end.Full) d = begun_some end.Full (read ++ more) d
  end_begun read more (Err end.Memory) d = begun_some end.Memory (read ++ more) d

  pub ran_begun : {S : Type 0} (source : SourceMeaning S) (i i' : S) (r : Result (Unit {0}) Ending) → Ran keeper source sink most i i' old new o' o'' b r → Ran keeper source sink most i i' old new o o'' b r
  ran_begun source i i' r ran = record { read = ran.read; more = ran.more; was_read = ran.was_read; few = ran.few; did = end_begun ran.read ran.more r ran.did }

module _ {K O : Type 0} (keeper : KeeperMeaning K) (sink : SinkMeaning O) (most : ℕ) (old new : Standby K) (o o' : O) (b : Copied) where
  end_passed : (read more : Bytes) (r : Result (Unit {0}) Ending) → NotByOutput r → IsEnd keeper sink most old new o o' b read more r → sink.tells o → AllPassed sink o → AllPassed sink o'
  end_passed read more (Ok u) n d = d.2.2.passed
  end_passed read more (Err end.Read) n d = d.1.2.passed
  end_passed read more (Err end.TooLong) n d = d.1.2.passed
  end_passed read more (Err (end.BadFrame at)) n d = d.2.passed
  end_passed read more (Err end.Write) n d = absurd n
  end_passed read more (Err end.Store) n d = some_passed keeper sink old new o o' b d.0 d.1 end.Store (λ is. cc) d.3
  end_passed read more (Err end.Full) n d = some_passed keeper sink old new o o' b d.0 d.1 end.Full (λ is. cc) d.3
  end_passed read more (Err end.Memory) n d = some_passed keeper sink old new o o' b d.0 d.1 end.Memory (λ is. cc) d.3

  pub ran_passed : {S : Type 0} (source : SourceMeaning S) (i i' : S) (r : Result (Unit {0}) Ending) → NotByOutput r → Ran keeper source sink most i i' old new o o' b r → sink.tells o → AllPassed sink o → AllPassed sink o'
  ran_passed source i i' r n ran = end_passed ran.read ran.more r n ran.did
