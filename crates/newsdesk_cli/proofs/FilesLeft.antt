-- What a run over members leaves in the two files of a store.
use Rattle.std.proofs.Common.{◌≡◌, ◌⊎◌, inl, inr, ℕ, Bool, true, false, List, [], ◌∷◌, ◌++◌, take, Option, refl, sym, ◌∙◌, ap, subst, arith, append_assoc}
use Rattle.std.specs.Prelude.{Result, Ok, Err}
use mathlib.Core.Bool.{false≢true}
use Rattle.news_types.specs.Books.{Book, followed_by, onto}
use Rattle.news_types.specs.Names.{Bytes}
use Rattle.news_types.specs.History.{History}
use Rattle.news_types.specs.Doubt.{payloads}
use Rattle.news_types.specs.declared.entry.Entry.{Entry}
use Rattle.entry_codec.specs.Spelling.{entry_bytes}
use Rattle.news_io.specs.Clock.{ClockMeaning}
use Rattle.news_io.specs.Disk.{DiskMeaning}
use Rattle.news_io.specs.Keeper.{KeeperGains, Leaves}
use Rattle.news_io.specs.Left.{IsLeft, Between}
use Rattle.news_io.specs.Sink.{SinkMeaning}
use Rattle.news_io.specs.Source.{SourceMeaning}
use Rattle.line_run.specs.Life.{Meaning, Life, Kept}
use Rattle.line_run.specs.Run.{IsEnd}
use Rattle.line_run.specs.Status.{CrashLeaves, status_of}
use Rattle.run_status.specs.Status.{number_of}
use Rattle.line_run.specs.Turns.{NextIs, AnsweredAll, AnsweredSome, after}
use Rattle.line_run.specs.declared.ending.Ending.{Ending}
use Rattle.line_run.specs.declared.ending.Ending.TheVariants as end
use Rattle.news_pair.specs.Keeper.{pair_of}
use Rattle.news_pair.specs.Pair.{PairOpens, PairFinds}
use Rattle.news_pair.specs.Stands.{log_disk, side_disk}
use Rattle.news_pair.specs.declared.pair.Pair.{Pair}
use Rattle.news_pair.specs.Law.{finds_one}
use Rattle.news_pair.proofs.Finding.{pair_found}
use Rattle.news_room.specs.Log.{IsStored}
use Rattle.news_room.specs.Log as room
use Rattle.news_room.specs.Stands.{Stands, in_doubt}
use Rattle.news_room.specs.Steps.{still, DoubtStep, ToldStep}
use Rattle.news_room.proofs.Crashes.{read_left}
use Rattle.news_room.specs.declared.room.Room.{Room}
use Rattle.news_room.proofs.Lists.{same_list}
use Rattle.store_files.specs.Files.{Files, OpenTo, OpenAlike, MayLeave, MayBe, LeftSince}
use Rattle.store_files.specs.Store.{IsOpenRoom}
use Rattle.store_files.proofs.Holding.{calls_shut, left_now}
use Rattle.room_runs.specs.Members.{MembersAnswered}
use Rattle.room_runs.specs.Wires.{wire_hand}
use Rattle.room_runs.specs.Desk.{Hand, Shelf, book, moment_of}
use Rattle.command_words.specs.declared.words.IngestFormat.{IngestFormat}
use Rattle.newsdesk_cli.specs.FilesLeft.{NoneInDoubt, FilesLeft}
use Rattle.newsdesk_cli.specs.Ingests.{IngestAnswered, answer_of, decided, all}
use Rattle.room_runs.specs.Life.{life}
use Rattle.room_runs.specs.Lines.{LONGEST_INPUT}

-- ---- an entry is in doubt only where the log ended the run

module _ {T C A X : Type 0} (M : Meaning T X) (L : Life T C A) (old new : A) (none : (e : T) → L.doubts old e → ⊥) where
  next_calm : (h : List T) (later : List X) (why : Ending) (part : List T) (said took : List ℕ) (g : List T) → (why ≡ end.Store → ⊥) → NextIs M h later why part said took (λ e. (part ++ h ≡ g) × L.doubts old e) (L.doubts new) → (e : T) → L.doubts new e → ⊥
  next_calm h [] why part said took g other next e d = none e (next.calm e d).1
  next_calm h (line ∷ later) why part said took g other next e d = elim (next.1.doubt e d) [ inl was ↦ none e was.1 | inr tried ↦ other tried.0 ]

module _ {T C A O X : Type 0} (M : Meaning T X) (L : Life T C A) (old new : A) (none : (e : T) → L.doubts old e → ⊥)
    (sink : SinkMeaning O) (decided all : List ℕ → List X) (most : ℕ) (o o' : O) (h : List T) where
  all_calm : (lines : List X) → AnsweredAll M L sink old new o o' h lines → (e : T) → L.doubts new e → ⊥
  all_calm lines a e d = none e (a.calm e d).1

  some_calm : (lines : List X) (why : Ending) → (why ≡ end.Store → ⊥) → AnsweredSome M L sink old new o o' h lines why → (e : T) → L.doubts new e → ⊥
  some_calm lines why other a e d = next_calm M L old new none (after M h a.turns) a.later why a.part a.said a.took h other a.next e d

  end_calm : (read more : List ℕ) (r : Result (Unit {0}) Ending) → (r ≡ Err end.Store → ⊥) → IsEnd M L sink decided all most old new o o' h read more r → (e : T) → L.doubts new e → ⊥
  end_calm read more (Ok u) other did e d = all_calm (all read) did.2 e d
  end_calm read more (Err end.Read) other did e d = all_calm (decided read) did.1 e d
  end_calm read more (Err end.TooLong) other did e d = all_calm (decided (take most read)) did.1 e d
  end_calm read more (Err end.Write) other did e d = some_calm (all (read ++ more)) end.Write (λ is. absurd (cc is)) did e d
  end_calm read more (Err end.Store) other did e d = absurd (other refl)
  end_calm read more (Err end.Full) other did e d = some_calm (all (read ++ more)) end.Full (λ is. absurd (cc is)) did e d
  end_calm read more (Err end.Memory) other did e d = some_calm (all (read ++ more)) end.Memory (λ is. absurd (cc is)) did e d

-- ---- the list behind a run

module _ {T C A O X : Type 0} (M : Meaning T X) (L : Life T C A) (sink : SinkMeaning O) (decided all : List ℕ → List X) (most : ℕ) (old new : A) (o o' : O) (h : List T) (read more : List ℕ) where
  end_kept : (r : Result (Unit {0}) Ending) → IsEnd M L sink decided all most old new o o' h read more r → (g : List T) × Kept L old new h g
  end_kept (Ok u) did = (after M h did.2.turns, did.2.kept)
  end_kept (Err end.Read) did = (after M h did.1.turns, did.1.kept)
  end_kept (Err end.TooLong) did = (after M h did.1.turns, did.1.kept)
  end_kept (Err end.Write) did = (did.part ++ after M h did.turns, did.kept)
  end_kept (Err end.Store) did = (did.part ++ after M h did.turns, did.kept)
  end_kept (Err end.Full) did = (did.part ++ after M h did.turns, did.kept)
  end_kept (Err end.Memory) did = (did.part ++ after M h did.turns, did.kept)

-- ---- from lists that were found to bytes

module _ {D : Type 0} (disk : DiskMeaning D) (p : Pair D) (store : Bytes) (label : p.store ≡ store) where
  -- the list that was found in these files
  opens_found : (files : Files) (found : Option (List Bytes)) → PairFinds p.store files.0 files.1 found → (l : History) → room.Opens found l → OpenTo store files l
  opens_found files found finds l is = record {
    pair = subst (λ (s : Bytes). PairOpens s files.0 files.1 (payloads entry_bytes l)) label (subst (PairFinds p.store files.0 files.1) is.0 finds);
    kept = is.1;
  }

  between_found : (files : Files) (found : Option (List Bytes)) → PairFinds p.store files.0 files.1 found → (h g : History) (P Q P' Q' : Entry → Type 0) → ((e : Entry) → P e → P' e) → ((e : Entry) → Q e → Q' e)
      → Between room.Opens h g P Q found → Between (OpenTo store) h g P' Q' files
  between_found files found finds h g P Q P' Q' first last b = record {
    part = b.part;
    behind = b.behind;
    within = b.within;
    left = elim b.left [
      | inl same ↦ inl (opens_found files found finds b.part same)
      | inr more ↦ inr (more.0, elim more.1 [ inl at_first ↦ inl (at_first.0, first more.0 at_first.1) | inr at_last ↦ inr (at_last.0, last more.0 at_last.1) ], opens_found files found finds (more.0 ∷ b.part) more.2)
    ];
  }

-- ---- a room that has gone on

-- from a room that was opened with this list to the room behind calls on it; the status tells how they ended
pub record Going {D : Type 0} (disk : DiskMeaning D) (r r' : Room (Pair D)) (store : Bytes) (h : History) (status : ℕ) : Type 0 where
  pub list : History
  pub more : (more : History) × (list ≡ more ++ h)
  pub stands : Stands (pair_of disk) r' (record { store = store; told = true; list = list })
  pub gains : KeeperGains (pair_of disk) r.keeper r'.keeper (Between room.Opens h list (in_doubt (pair_of disk) r) (in_doubt (pair_of disk) r'))
  -- only a failed keeper puts an entry in doubt
  pub calm : (status ≡ 6 → ⊥) → ((e : Entry) → in_doubt (pair_of disk) r e → ⊥) → (e : Entry) → in_doubt (pair_of disk) r' e → ⊥

module _ {D : Type 0} (disk : DiskMeaning D) (log side : D) (r r' : Room (Pair D)) (status : ℕ) (opened : IsOpenRoom disk log side r) (tells : disk.tells log) (tells' : disk.tells side)
    (a : Going disk r r' opened.store opened.history status) where
  abbrev store : Bytes
  store = opened.store

  abbrev h : History
  h = opened.history

  abbrev Doubt : Room (Pair D) → Entry → Type 0
  Doubt k = in_doubt (pair_of disk) k

  first_stands : Stands (pair_of disk) r (record { store = store; told = true; list = h })
  first_stands = (opened.holds true (λ is. (tells, tells'))).stands

  none_before : (e : Entry) → Doubt r e → ⊥
  none_before e d = let doubt = d.1 in calls_shut r.keeper.log.ajar opened.quiet doubt.is_ajar

  -- a crash as soon as they were opened leaves the list
  bare : (found : Option (List Bytes)) → (pair_of disk).left_since r.keeper ((pair_of disk).moment r.keeper) found → room.Opens found h
  bare found left =
      let told = first_stands.told refl in
      let leaves : Leaves (payloads entry_bytes h) ((pair_of disk).doubts r.keeper) found = subst (λ (l : List Bytes). Leaves l ((pair_of disk).doubts r.keeper) found) told.list_is ((pair_of disk).leaves_now r.keeper found told.tells_it left) in
      elim (read_left h ((pair_of disk).doubts r.keeper) first_stands.kept told.follow found leaves) [ inl same ↦ same | inr more ↦ absurd (none_before more.0 more.1) ]

  each : (found : Option (List Bytes)) → (pair_of disk).left_since r'.keeper ((pair_of disk).moment r.keeper) found → Between room.Opens h a.list (Doubt r) (Doubt r') found
  each found left = elim (a.gains.nothing_else ((pair_of disk).moment r.keeper) found (omega arith) left) [
    | inl was ↦ record { part = h; behind = ([], refl); within = a.more; left = inl (bare found was) }
    | inr between ↦ between
  ]

  now : (files : Files) → MayBe disk (log_disk r'.keeper) (side_disk r'.keeper) files → IsLeft (OpenTo store) a.list (Doubt r') files
  now files may = elim (left_now disk r'.keeper store a.list (a.stands.told refl) files a.stands.kept may) [
    | inl same ↦ inl same
    | inr more ↦ inr (more.0, (more.1.1.formed.0, more.1.0), more.2)
  ]

  since_opened : (files : Files) → LeftSince disk (log_disk r'.keeper) (side_disk r'.keeper) (disk.moment (log_disk r.keeper)) files → Between (OpenTo store) h a.list NoneInDoubt (Doubt r') files
  since_opened files left =
      let f = pair_found r'.keeper.store files.0 files.1 in
      let at : (pair_of disk).left_since r'.keeper (disk.moment (log_disk r.keeper)) f.0 = (files.0, left.0, (files.1, left.1, f.1)) in
      between_found disk r'.keeper store (a.stands.told refl).label_is files f.0 f.1 h a.list (Doubt r) (Doubt r') NoneInDoubt (Doubt r') none_before (λ e d. d) (each f.0 at)

  -- files beside which the log was left before they were opened
  before_opened : (files : Files) (found : Option (List Bytes)) → PairFinds store files.0 files.1 found → (c s : List ℕ) → disk.may_leave (side_disk r.keeper) s → PairFinds store c s found
      → disk.may_leave log c ⊎ (disk.may_leave log c ⊎ ((s : List ℕ) → disk.may_leave (side_disk r.keeper) s → OpenTo store (c, s) h))
      → Between (OpenTo store) h a.list NoneInDoubt (Doubt r') files ⊎ ((before : Files) × MayLeave disk log side before × OpenAlike store before files)
  before_opened files found finds c s left was (inl may) = inr ((c, s), (may, (opened.still tells').crash s left), (found, was, finds))
  before_opened files found finds c s left was (inr (inl may)) = inr ((c, s), (may, (opened.still tells').crash s left), (found, was, finds))
  before_opened files found finds c s left was (inr (inr opens)) =
      let now = opens s left in
      let is = finds_one store c s (payloads entry_bytes h) found now.pair was in
      inl (record {
        part = h;
        behind = ([], refl);
        within = a.more;
        left = inl (record { pair = subst (PairFinds store files.0 files.1) is finds; kept = now.kept });
      })

  since_begun : (files : Files) → LeftSince disk (log_disk r'.keeper) (side_disk r'.keeper) (disk.moment log) files
      → Between (OpenTo store) h a.list NoneInDoubt (Doubt r') files ⊎ ((before : Files) × MayLeave disk log side before × OpenAlike store before files)
  since_begun files left =
      let f = pair_found r'.keeper.store files.0 files.1 in
      let finds = subst (λ (s : Bytes). PairFinds s files.0 files.1 f.0) (a.stands.told refl).label_is f.1 in
      let at : (pair_of disk).left_since r'.keeper (disk.moment log) f.0 = (files.0, left.0, (files.1, left.1, f.1)) in
      let time = opened.crash tells tells' in
      elim (a.gains.nothing_else (disk.moment log) f.0 time.later at) [
        | inl old ↦
            let label = first_stands.told refl in
            before_opened files f.0 finds old.0 old.2.0 old.2.1 (subst (λ (s : Bytes). PairFinds s old.0 old.2.0 f.0) label.label_is old.2.2)
            (elim (time.nothing_else (disk.moment log) old.0 (omega arith) old.1) [ inl first ↦ inl (disk.only_now log old.0 first) | inr gained ↦ inr gained ])
        | inr between ↦ inl (between_found disk r'.keeper store (a.stands.told refl).label_is files f.0 f.1 h a.list (Doubt r) (Doubt r') NoneInDoubt (Doubt r') none_before (λ e d. d) between)
      ]

  pub going_left : FilesLeft disk log side store r r' h status
  going_left = record {
    list = a.list;
    more = a.more;
    stands = a.stands;
    now = now;
    sure = λ other e d. a.calm other none_before e d;
    since_opened = since_opened;
    since_begun = since_begun;
  }

-- ---- one call on a room

followed_more : (more : List Entry) (h : History) → (newest : History) × (followed_by more h ≡ newest ++ h)
followed_more [] h = ([], refl)
followed_more (e ∷ es) h = let rest = followed_more es (e ∷ h) in (rest.0 ++ e ∷ [], rest.1 ∙ sym (append_assoc rest.0 (e ∷ []) h))

still_none : (D : Bytes → Type 0) (more : List Entry) (payload : Bytes) → still D more payload → D payload
still_none D [] payload d = d
still_none D (e ∷ es) payload d = absurd d

doubt_none : (D D' : Bytes → Type 0) (should more : List Entry) (failed : Bool) → failed ≡ false → DoubtStep D D' should more failed → (payload : Bytes) → D' payload → D payload
doubt_none D D' should more false is step payload d = still_none D more payload (step payload d)
doubt_none D D' should more true is step payload d = absurd (false≢true (sym is))

module _ {D : Type 0} (disk : DiskMeaning D) (log side : D) (r r' : Room (Pair D)) (status : ℕ) (opened : IsOpenRoom disk log side r) (tells : disk.tells log) (tells' : disk.tells side) where
  -- a call that adds these entries; its keeper failed only behind status 6
  pub step_left : (should more : List Entry) (failed : Bool) → ((status ≡ 6 → ⊥) → failed ≡ false)
      → Stands (pair_of disk) r' (onto more (record { store = opened.store; told = true; list = opened.history }))
      → ToldStep (pair_of disk) r r' (record { store = opened.store; told = true; list = opened.history }) should more failed
      → FilesLeft disk log side opened.store r r' opened.history status
  step_left should more failed sure stands told = going_left disk log side r r' status opened tells tells' (record {
    list = followed_by more opened.history;
    more = followed_more more opened.history;
    stands = stands;
    gains = told.crash;
    calm = λ other none e d. none e (d.0, doubt_none ((pair_of disk).doubts r.keeper) ((pair_of disk).doubts r'.keeper) should more failed (sure other) told.doubt (entry_bytes e) d.1);
  })

-- ---- a desk that has gone on

-- from a room to the room behind a run, of this book; the status tells how the run ended
pub record Passage {D C A : Type 0} (disk : DiskMeaning D) (clock : ClockMeaning C) (hand : A → Hand (Pair D) C) (r r' : Room (Pair D)) (b : Book) (status : ℕ) : Type 0 where
  pub shelf : Shelf
  pub same_book : book shelf b.list ≡ b
  pub old : A
  pub new : A
  pub before : (hand old).room.now ≡ r
  pub after : (hand new).room.now ≡ r'
  pub crash : CrashLeaves (life (pair_of disk) clock hand shelf) old new b.list
  pub kept : (g : History) × Kept (life (pair_of disk) clock hand shelf) old new b.list g
  -- only a failed keeper puts an entry in doubt
  pub calm : (status ≡ 6 → ⊥) → ((e : Entry) → (life (pair_of disk) clock hand shelf).doubts old e → ⊥) → (e : Entry) → (life (pair_of disk) clock hand shelf).doubts new e → ⊥

module _ {D C A : Type 0} (disk : DiskMeaning D) (clock : ClockMeaning C) (hand : A → Hand (Pair D) C) (r r' : Room (Pair D)) (store : Bytes) (h : History) (status : ℕ)
    (a : Passage disk clock hand r r' (record { store = store; told = true; list = h }) status) where
  abbrev L : Life Entry (Option (List Bytes)) A
  L = life (pair_of disk) clock hand a.shelf

  abbrev Now : A → Room (Pair D)
  Now d = (hand d).room.now

  abbrev the_list : History
  the_list = a.crash.list

  told : a.shelf.told ≡ true
  told = ap (λ (b : Book). b.told) a.same_book

  stands : Stands (pair_of disk) r' (record { store = store; told = true; list = the_list })
  stands =
      subst (λ (k : Room (Pair D)). Stands (pair_of disk) k (record { store = store; told = true; list = the_list })) a.after
      (subst (λ (b : Book). Stands (pair_of disk) (Now a.new) (record { store = b.store; told = b.told; list = the_list })) a.same_book a.crash.stands.room_stands)

  -- both lists behind it are one
  one_list : a.kept.0 ≡ the_list
  one_list =
      let mine = a.kept.1.list.room_stands in
      let other = a.crash.stands.room_stands in
      same_list a.kept.0 the_list mine.kept.formed other.kept.formed (sym (mine.told told).list_is ∙ (other.told told).list_is)

  -- ---- the same of the rooms

  doubt_of : (d : A) (k : Room (Pair D)) → Now d ≡ k → (e : Entry) → L.doubts d e → in_doubt (pair_of disk) k e
  doubt_of d k same e it = subst (λ (x : Room (Pair D)). in_doubt (pair_of disk) x e) same it.1

  doubt_from : (d : A) (k : Room (Pair D)) → Now d ≡ k → (e : Entry) → in_doubt (pair_of disk) k e → L.doubts d e
  doubt_from d k same e it = (told, subst (λ (x : Room (Pair D)). in_doubt (pair_of disk) x e) (sym same) it)

  moment_is : (d : A) (k : Room (Pair D)) → Now d ≡ k → L.moment d ≡ (pair_of disk).moment k.keeper
  moment_is d k same = ap (λ (t : Bool). moment_of t ((pair_of disk).moment (Now d).keeper)) told ∙ ap (λ (x : Room (Pair D)). (pair_of disk).moment x.keeper) same

  left_of : (d : A) (k : Room (Pair D)) → Now d ≡ k → (t : ℕ) (found : Option (List Bytes)) → L.left_since d t found → (pair_of disk).left_since k.keeper t found
  left_of d k same t found left = subst (λ (x : Room (Pair D)). (pair_of disk).left_since x.keeper t found) same left.1

  left_from : (d : A) (k : Room (Pair D)) → Now d ≡ k → (t : ℕ) (found : Option (List Bytes)) → (pair_of disk).left_since k.keeper t found → L.left_since d t found
  left_from d k same t found left = (told, subst (λ (x : Room (Pair D)). (pair_of disk).left_since x.keeper t found) (sym same) left)

  between_of : (found : Option (List Bytes)) → Between room.Opens h a.kept.0 (L.doubts a.old) (L.doubts a.new) found → Between room.Opens h the_list (in_doubt (pair_of disk) r) (in_doubt (pair_of disk) r') found
  between_of found b = subst (λ (g : History). Between room.Opens h g (in_doubt (pair_of disk) r) (in_doubt (pair_of disk) r') found) one_list (record {
    part = b.part;
    behind = b.behind;
    within = b.within;
    left = elim b.left [
      | inl same ↦ inl same
      | inr more ↦ inr (more.0, elim more.1 [ inl at_first ↦ inl (at_first.0, doubt_of a.old r a.before more.0 at_first.1) | inr at_last ↦ inr (at_last.0, doubt_of a.new r' a.after more.0 at_last.1) ], more.2)
    ];
  })

  pub passage_goes : Going disk r r' store h status
  passage_goes = record {
    list = the_list;
    more = a.crash.more;
    stands = stands;
    gains = record {
      later = omega (arith, a.kept.1.time.later, moment_is a.old r a.before, moment_is a.new r' a.after);
      nothing_else = λ t found le left. elim (a.kept.1.time.nothing_else t found (omega (arith, le, moment_is a.old r a.before)) (left_from a.new r' a.after t found left)) [
        | inl was ↦ inl (left_of a.old r a.before t found was)
        | inr between ↦ inr (between_of found between)
      ];
      keeps = λ t found le left. left_of a.new r' a.after t found (a.kept.1.time.keeps t found (omega (arith, le, moment_is a.old r a.before)) (left_from a.old r a.before t found left));
    };
    calm = λ other none e d. a.calm other (λ x it. none x (doubt_of a.old r a.before x it)) e (doubt_from a.new r' a.after e d);
  }

-- ---- a run over members

module _ {D C S O A X : Type 0} (disk : DiskMeaning D) (clock : ClockMeaning C) (source : SourceMeaning S) (sink : SinkMeaning O)
    (hand : A → Hand (Pair D) C) (M : ℕ → Meaning Entry X) (decided all : List ℕ → List X)
    (log side : D) (r r' : Room (Pair D)) (c c' : C) (i i' : S) (o o' : O) (status : ℕ) (opened : IsOpenRoom disk log side r) (tells : disk.tells log) (tells' : disk.tells side)
    (a : MembersAnswered (pair_of disk) clock source sink hand M decided all r r' c c' i i' o o' (record { store = opened.store; told = true; list = opened.history }) 65 status) where
  not_store : (status ≡ 6 → ⊥) → (a.run.result ≡ Err end.Store → ⊥)
  not_store other is = other (a.run.status_is ∙ ap (λ r. number_of (status_of r)) is)

  pub files_left : FilesLeft disk log side opened.store r r' opened.history status
  files_left = going_left disk log side r r' status opened tells tells' (passage_goes disk clock hand r r' opened.store opened.history status (record {
    shelf = a.shelf;
    same_book = a.same_book;
    old = a.old;
    new = a.new;
    before = a.before.room_is;
    after = a.after.room_is;
    crash = a.crash;
    kept = end_kept (M 65) (life (pair_of disk) clock hand a.shelf) sink decided all LONGEST_INPUT a.old a.new o a.run.mid opened.history a.run.ran.read a.run.ran.more a.run.result a.run.ran.did;
    calm = λ other none. end_calm (M 65) (life (pair_of disk) clock hand a.shelf) a.old a.new none sink decided all LONGEST_INPUT o a.run.mid opened.history a.run.ran.read a.run.ran.more a.run.result (not_store other) a.run.ran.did;
  }))

-- ---- by the format of what comes in

module _ {D C S O : Type 0} (disk : DiskMeaning D) (clock : ClockMeaning C) (source : SourceMeaning S) (sink : SinkMeaning O)
    (log side : D) (r r' : Room (Pair D)) (c c' : C) (i i' : S) (o o' : O) (status : ℕ) (opened : IsOpenRoom disk log side r) (tells : disk.tells log) (tells' : disk.tells side) (provider : Bytes) where
  pub ingest_left : (format : IngestFormat) → IngestAnswered (pair_of disk) clock source sink provider format r r' c c' i i' o o' (record { store = opened.store; told = true; list = opened.history }) 65 status
      → FilesLeft disk log side opened.store r r' opened.history status
  ingest_left format a = files_left disk clock source sink wire_hand (answer_of format provider) (decided format) (all format) log side r r' c c' i i' o o' status opened tells tells' a
