-- The lines and stories of an input have been answered in each world that has the list of the files.
use Rattle.std.proofs.Common.{◌≡◌, ◌⊎◌, inl, inr, ℕ, Bool, true, List, Option, sym, ap, ◌∙◌, subst}
use Rattle.news_types.specs.Books.{Book}
use Rattle.news_types.specs.Names.{Bytes}
use Rattle.news_types.specs.declared.entry.Entry.{Entry}
use Rattle.command_words.specs.declared.words.IngestFormat.{IngestFormat}
use Rattle.command_words.specs.declared.words.IngestFormat.TheVariants.{Wire, Item, AgencyWire, AgencyItems}
use Rattle.news_types.specs.History.{History}
use Rattle.news_io.specs.Outside.{Meanings, Outside, store_faults}
use Rattle.line_run.specs.Life.{Meaning, Life, Took}
use Rattle.news_pair.specs.Keeper.{pair_of}
use Rattle.news_pair.specs.declared.pair.Pair.{Pair}
use Rattle.news_room.specs.Stands.{Stands, in_doubt}
use Rattle.news_room.specs.declared.room.Room.{Room}
use Rattle.store_files.proofs.Holding.{calls_shut}
use Rattle.room_runs.specs.Desk.{Hand, line_hand}
use Rattle.room_runs.specs.Life.{life}
use Rattle.room_runs.specs.Lines.{of_line}
use Rattle.room_runs.specs.Members.{MembersAnswered}
use Rattle.room_runs.specs.Wires.{wire_hand}
use Rattle.newsdesk_cli.specs.Command.{HasAnswered, IsBatch, IsIngest}
use Rattle.newsdesk_cli.specs.Ingests.{answer_of}
use Rattle.program_run.specs.Inputs.{line_input, ingest_kind}
use Rattle.program_run.specs.Left.{AnyWriter, GoesOn}
use Rattle.program_run.specs.Members.{Input, Reads, InputAnswered, AnswersAll}
use Rattle.program_run.specs.Refused.{NotOpened}
use Rattle.program_run.specs.Finding.{the_finders}
use Rattle.program_run.proofs.Answering.{list_of_run, run_stands, run_answers}
use Rattle.program_run.proofs.Counting.{faults_last}
use Rattle.program_run.proofs.Going.{Doubted, Went, goes_on}
use Rattle.program_run.proofs.Lines.{line_means}
use Rattle.program_run.proofs.Means.{Means}
use Rattle.program_run.proofs.Refusing.{not_opened}
use Rattle.program_run.proofs.Stories.{wire_means, item_means, message_means, told_means}

module _ {D S O C L A X : Type 0} (m : Meanings D S O C L) (before after : Outside D S O C L) (status : ℕ) (hand : A → Hand (Pair D) C) (M : ℕ → Meaning Entry X) (input : Input X) (means : Means (M 65) input) where
  -- the old clause, of the machine that answers this input
  abbrev pub WasAnswered : Type 0
  WasAnswered = HasAnswered m.disk m.clock m.source m.sink before.log after.log before.side after.side before.input after.input before.output after.output before.clock after.clock status
      (λ room room' b. MembersAnswered (pair_of m.disk) m.clock m.source m.sink hand M input.decided input.all room room' before.clock after.clock before.input after.input before.output after.output b 65 status)

  module _ (did : WasAnswered) (told : Bool) (tells : told ≡ true → m.disk.tells before.log × m.disk.tells before.side) where
    abbrev here : Book
    here = record { store = did.went.opened.store; told = told; list = did.went.opened.history }

    abbrev a : MembersAnswered (pair_of m.disk) m.clock m.source m.sink hand M input.decided input.all did.went.room did.went.after before.clock after.clock before.input after.input before.output after.output here 65 status
    a = did.answered told tells

    abbrev lives : Life Entry (Option (List Bytes)) A
    lives = life (pair_of m.disk) m.clock hand a.shelf

    abbrev Faults : A → ℕ
    Faults d = (pair_of m.disk).faults (hand d).room.now.keeper

    abbrev Clock : A → C
    Clock d = (hand d).clock.now

    shelf_told : a.shelf.told ≡ told
    shelf_told = ap (λ (b : Book). b.told) a.same_book

    -- a pair that was opened has nothing in doubt
    none_before : (e : Entry) → lives.doubts a.old e → ⊥
    none_before e d =
        let now = subst (λ (k : Room (Pair D)). in_doubt (pair_of m.disk) k e) a.before.room_is d.1 in
        let doubt = now.1 in
        calls_shut did.went.room.keeper.log.ajar did.went.opened.quiet doubt.is_ajar

    doubts_now : (e : Entry) → Doubted m before after status did.went told e → lives.doubts a.new e
    doubts_now e d = (shelf_told ∙ d.0, subst (λ (k : Room (Pair D)). in_doubt (pair_of m.disk) k e) (sym a.after.room_is) d.1)

    reads : (rs : List ℕ) → Took lives a.old a.new rs → Reads m.clock before.clock after.clock rs
    reads rs t =
        subst (λ (x : C). Reads m.clock x after.clock rs) a.before.clock_is (subst (λ (x : C). Reads m.clock (Clock a.old) x rs) a.after.clock_is (record { told = t.told; gave = t.gave }))

    fails_before : Faults a.old ≡ store_faults m before
    fails_before = ap (λ (k : Room (Pair D)). (pair_of m.disk).faults k.keeper) a.before.room_is ∙ did.went.opened.calm

    fails_after : Faults a.new ≡ store_faults m after
    fails_after = ap (λ (k : Room (Pair D)). (pair_of m.disk).faults k.keeper) a.after.room_is ∙ faults_last m before after status did.went

    abbrev now : History
    now = list_of_run (M 65) input means m before after lives Faults a.old a.new did.went.opened.history status a.run reads none_before fails_before fails_after

    stands_now : Stands (pair_of m.disk) did.went.after (record { store = did.went.opened.store; told = told; list = now })
    stands_now =
        let stands = run_stands (M 65) input means m before after lives Faults a.old a.new did.went.opened.history status a.run reads none_before fails_before fails_after in
        subst (λ (k : Room (Pair D)). Stands (pair_of m.disk) k (record { store = did.went.opened.store; told = told; list = now })) a.after.room_is
        (subst (λ (b : Book). Stands (pair_of m.disk) (hand a.new).room.now (record { store = b.store; told = b.told; list = now })) a.same_book stands.room_stands)

    pub members_went : Went m before after status did.went AnyWriter (λ write w events. InputAnswered input m before after write w status events) told
    members_went = record {
      now = now;
      stands = stands_now;
      happened = λ write any w is.
          let c = run_answers (M 65) input means m before after lives Faults a.old a.new did.went.opened.history status a.run reads none_before fails_before fails_after write w is in
          (c.events, c.did, record { lead = c.lead; doubt = λ e d. c.doubt e (doubts_now e d) });
    }

  -- the input was answered from the list of the files on
  pub input_goes_on : WasAnswered → GoesOn m before after status (λ write w events. InputAnswered input m before after write w status events) × AnswersAll m before after status
  input_goes_on did = (
    goes_on m before after status did.went (λ write w events. InputAnswered input m before after write w status events) (λ told tells. members_went did told tells),
    did.complete,
  )

-- ---- by what the words do

module _ {D S O C L : Type 0} (m : Meanings D S O C L) (before after : Outside D S O C L) (status : ℕ) (links : after.links ≡ before.links) where
  -- an input is answered, where the files serve
  abbrev pub AnswersInput : {X : Type 0} → Input X → Type 0
  AnswersInput input = NotOpened the_finders m before after status ⊎ (GoesOn m before after status (λ write w events. InputAnswered input m before after write w status events) × AnswersAll m before after status)

  pub batch_answers : IsBatch m.disk m.clock m.source m.sink before.log after.log before.side after.side before.input after.input before.output after.output before.clock after.clock status → AnswersInput line_input
  batch_answers (inl not) = inl (not_opened m before after status not.why not.input_same not.clock_same links)
  batch_answers (inr did) = inr (input_goes_on m before after status line_hand of_line line_input line_means did)

  pub ingest_answers : (format : IngestFormat) (provider : Bytes)
      → IsIngest m.disk m.clock m.source m.sink before.log after.log before.side after.side before.input after.input before.output after.output before.clock after.clock status format provider
      → AnswersInput (ingest_kind format provider).input
  ingest_answers format provider (inl not) = inl (not_opened m before after status not.why not.input_same not.clock_same links)
  ingest_answers Wire provider (inr did) = inr (input_goes_on m before after status wire_hand (answer_of Wire provider) (ingest_kind Wire provider).input (wire_means provider) did)
  ingest_answers Item provider (inr did) = inr (input_goes_on m before after status wire_hand (answer_of Item provider) (ingest_kind Item provider).input (item_means provider) did)
  ingest_answers AgencyWire provider (inr did) = inr (input_goes_on m before after status wire_hand (answer_of AgencyWire provider) (ingest_kind AgencyWire provider).input (message_means provider) did)
  ingest_answers AgencyItems provider (inr did) = inr (input_goes_on m before after status wire_hand (answer_of AgencyItems provider) (ingest_kind AgencyItems provider).input (told_means provider) did)
