-- What a call on a room is to a run over members.
use Rattle.std.proofs.Common.{◌≡◌, ◌⊎◌, inl, inr, ⊎_elim, ℕ, ◌+◌, ◌<◌, ◌≤◌, Bool, true, false, List, [], ◌∷◌, ◌++◌, length, length-append, append-nil, Option, Some, None, Ok, Err, refl, sym, ap, ◌∙◌, subst, arith}
use Rattle.std.specs.Prelude.{nat_lt, Result, Vec}
use Rattle.std.specs.declared.alloc.Global.{Global}
use Rattle.std.proofs.lemmas.Bool.Decides.{nat_tests}
use mathlib.Core.Bool.{false≢true}
use Rattle.news_types.specs.declared.entry.Entry.{Entry}
use Rattle.news_types.specs.Names.{Bytes}
use Rattle.news_io.proofs.Runs.{elapses_same, elapses_weaker}
use Rattle.news_room.proofs.Lists.{same_entry}
use Rattle.news_types.specs.History.{History}
use Rattle.news_types.specs.Books.{followed_by, onto}
use Rattle.news_types.specs.Outcome as newsroom
use Rattle.news_io.specs.Clock.{Gave, ClockMeaning}
use Rattle.news_io.specs.Left.{Between}
use Rattle.news_io.specs.Moments.{Elapses}
use Rattle.line_run.specs.Life.{Outcome, Meaning, Life, Took, Kept}
use Rattle.line_run.specs.Step.{KeeperStopped, IsAnswered, IsStopped, IsStep, StepCounts}
use Rattle.line_run.specs.declared.answering.Stopped.{Stopped}
use Rattle.line_run.specs.declared.answering.Stopped.TheVariants as stopped
use Rattle.desk_lines.specs.declared.property.LineProperty.{LineProperty}
use Rattle.desk_answers.specs.Answers.{bad_bytes}
use Rattle.entry_codec.specs.Spelling.{entry_bytes}
use Rattle.agency_runs.specs.Members.{told_once}
use Rattle.wire_run.specs.Members as wire
use Rattle.news_room.specs.declared.room.Room.{Room}
use Rattle.news_room.specs.Log.{sizes, size_of, Opens}
use Rattle.news_room.specs.Beside.{Beside}
use Rattle.news_room.specs.Stands.{Stands, LIMIT, limit_of, limit_for, numbers, in_doubt}
use Rattle.news_room.specs.Steps.{Whole, Given, Failed, Refused, Within, Answers, Receives, entries, ToldStep, still, is_fault, is_kept_fault, DoubtsKept, DoubtStep, CrashLeaves}
use Rattle.news_room.specs.declared.answers.Handled.{Handled}
use Rattle.news_room.specs.declared.answers.Kept.{Kept as ReceiptAnswer}
use Rattle.news_room.specs.declared.answers.Kept.TheVariants as kept
use Rattle.room_runs.specs.Lines.{passes, adding, bad, of_outcome, answered_bytes}
use Rattle.room_runs.specs.Texts.{IsText, IsAnswerText, IsReceiptText}
use Rattle.room_runs.specs.Desk.{Hand, Shelf, StandsAt, book, moment_of}
use Rattle.room_runs.specs.Life.{life}
use Rattle.news_io.specs.Keeper.{KeeperMeaning}

-- ---- lists

pub entries_behind : (o : Option Entry) (h : History) → followed_by (entries o) h ≡ entries o ++ h
entries_behind None h = refl
entries_behind (Some e) h = refl

-- before the one entry that should follow there is none
none_before : (o : Option Entry) (more rest : List Entry) (next : Entry) → entries o ≡ more ++ next ∷ rest → more ≡ []
none_before o [] rest next is = refl
none_before None (e ∷ more) rest next is = absurd (omega (arith, ap length is, length-append (e ∷ more) (next ∷ rest)))
none_before (Some f) (e ∷ more) rest next is = absurd (omega (arith, ap length is, length-append (e ∷ more) (next ∷ rest)))

sizes_more : (o : Option Entry) (h : History) → sizes (entries o ++ h) ≡ sizes (entries o) + sizes h
sizes_more None h = omega arith
sizes_more (Some e) h = omega arith

lt_false : (limit count : ℕ) → count ≤ limit → nat_lt limit count ≡ false
lt_false limit count low = grind (arith, nat_tests, low)

lt_true : (limit count : ℕ) → limit < count → nat_lt limit count ≡ true
lt_true limit count high = grind (arith, nat_tests, high)

fits_within : (n : Beside) (before : ℕ) (h : History) (next : Option Entry) (more : List Entry) → more ≡ entries next → Within n (limit_for (entries next)) more → n.used ≡ before + sizes h → n.later_used ≡ n.used + sizes more → passes before h (entries next) ≡ false
fits_within n before h None more is within uses grown = refl
fits_within n before h (Some e) more is within uses grown =
    let le : n.later_used ≤ limit_of e.act = subst (λ (l : List Entry). Within n (limit_of e.act) l) is within in
    let sum : n.later_used ≡ n.used + sizes (e ∷ []) = subst (λ (l : List Entry). n.later_used ≡ n.used + sizes l) is grown in
    lt_false (limit_of e.act) (before + sizes (e ∷ h)) (omega (arith, uses, sum, le))

passes_past : (before used : ℕ) (h : History) (next : Entry) (rest : List Entry) → used ≡ before + sizes h → limit_of next.act < used + size_of next → passes before h (next ∷ rest) ≡ true
passes_past before used h next rest is past = lt_true (limit_of next.act) (before + sizes (next ∷ h)) (omega (arith, is, past))

-- the entry that should follow, where one does
one_next : (o : Option Entry) (more rest : List Entry) (next : Entry) → entries o ≡ more ++ next ∷ rest → entries o ≡ next ∷ []
one_next (Some f) [] [] next is = is
one_next (Some f) [] (e ∷ rest) next is = absurd (omega (arith, ap length is))
one_next (Some f) (e ∷ more) rest next is = absurd (omega (arith, ap length is, length-append (e ∷ more) (next ∷ rest)))
one_next None more rest next is = absurd (omega (arith, ap length is, length-append more (next ∷ rest)))

-- a doubt that is still there, where nothing was kept
still_none : (D : Bytes → Type 0) (more : List Entry) (payload : Bytes) → still D more payload → (more ≡ []) × D payload
still_none D [] payload d = (refl, d)
still_none D (e ∷ es) payload d = absurd d

memory≢full : (why : Stopped) → why ≡ stopped.Memory → why ≡ stopped.Full → ⊥
memory≢full why memory full = cc

memory_by_keeper : (why : Stopped) → why ≡ stopped.Memory → KeeperStopped why → ⊥
memory_by_keeper why memory by_keeper = subst KeeperStopped memory by_keeper

no_sizes : (more : List Entry) (h : History) → more ≡ [] → sizes h ≡ sizes more + sizes h
no_sizes more h none = let zero : sizes more ≡ 0 = ap sizes none in omega (arith, zero)

-- ---- moments of a keeper that may tell nothing

time_of : {F : Type 0} (told : Bool) (m m' : ℕ) (P P' : ℕ → F → Type 0) (Q : F → Type 0) → (told ≡ true → Elapses m m' P P' Q)
    → Elapses (moment_of told m) (moment_of told m') (λ t found. (told ≡ true) × P t found) (λ t found. (told ≡ true) × P' t found) Q
time_of true m m' P P' Q time =
    let e = time refl in
    record {
      later = e.later;
      nothing_else = λ t found le since. elim (e.nothing_else t found le since.1) [ inl past ↦ inl (refl, past) | inr new ↦ inr new ];
      keeps = λ t found le past. (refl, e.keeps t found le past.1);
    }
time_of false m m' P P' Q time = record {
  later = omega arith;
  nothing_else = λ t found le since. absurd (false≢true since.0);
  keeps = λ t found le past. absurd (false≢true past.0);
}

-- a list between, by a keeper that tells it
between_told : (told : Type 0) (h g g' : History) (D D' : Entry → Type 0) (opened : Option (List Bytes)) → told → g ≡ g' → Between Opens h g D D' opened → Between Opens h g' (λ e. told × D e) (λ e. told × D' e) opened
between_told told h g g' D D' opened t same b = record {
  part = b.part;
  behind = b.behind;
  within = (b.within.0, sym same ∙ b.within.1);
  left = elim b.left [
    | inl is ↦ inl is
    | inr one ↦ inr (one.0, ⊎_elim (λ was. inl (was.0, (t, was.1))) (λ now. inr (now.0 ∙ same, (t, now.1))) one.1, one.2)
  ];
}

-- ---- a call on the room

module _ {K C X A : Type 0} (hand : A → Hand K C) (keeper : KeeperMeaning K) (clock : ClockMeaning C) (s : Shelf) (M : Meaning Entry X) (d d' : A) (h : History) (x : X) where
  abbrev L : Life Entry (Option (List Bytes)) A
  L = life keeper clock hand s

  -- the clock gave these readings, and is the same clock
  pub record Ticked (readings : List ℕ) : Type 0 where
    pub same_provider : (hand d').provider ≡ (hand d).provider
    pub same_room : (hand d').room.ghost_name ≡ (hand d).room.ghost_name
    pub same : (hand d').clock.ghost_name ≡ (hand d).clock.ghost_name
    pub told : clock.tells (hand d).clock.now → clock.tells (hand d').clock.now
    pub gave : clock.tells (hand d).clock.now → Gave (clock.ahead (hand d).clock.now) readings (clock.ahead (hand d').clock.now)

  -- the list goes on by these entries, the newest first, and each moment leaves something between
  goes_on : (more added : List Entry) (readings : List ℕ) → followed_by more h ≡ added ++ h → sizes (added ++ h) ≡ sizes more + sizes h → StandsAt keeper s (hand d) h
      → Stands keeper (hand d').room.now (onto more (book s h)) → keeper.used (hand d').room.now.keeper ≡ keeper.used (hand d).room.now.keeper + sizes more → (s.told ≡ true → CrashLeaves keeper (hand d).room.now (hand d').room.now (book s h) more)
      → Ticked readings → Kept L d d' h (added ++ h)
  goes_on more added readings same sum stands room grown crash ticked = record {
    list = record {
      room_stands = subst (λ (l : History). Stands keeper (hand d').room.now (book s l)) same room;
      uses = omega (arith, stands.uses, grown, sum);
      same_provider = ticked.same_provider ∙ stands.same_provider;
      same_room = ticked.same_room ∙ stands.same_room;
      same_clock = ticked.same ∙ stands.same_clock;
    };
    time = time_of s.told (keeper.moment (hand d).room.now.keeper) (keeper.moment (hand d').room.now.keeper) (keeper.left_since (hand d).room.now.keeper) (keeper.left_since (hand d').room.now.keeper) (Between Opens h (added ++ h) (L.doubts d) (L.doubts d'))
        (λ t. elapses_weaker _ _ _ _ (Between Opens h (followed_by more h) (in_doubt keeper (hand d).room.now) (in_doubt keeper (hand d').room.now)) (Between Opens h (added ++ h) (L.doubts d) (L.doubts d')) (crash t)
        (λ opened b. between_told (s.told ≡ true) h (followed_by more h) (added ++ h) (in_doubt keeper (hand d).room.now) (in_doubt keeper (hand d').room.now) opened t same b));
  }

  -- what is in doubt was so before, and nothing was kept
  calm_of : (more : List Entry) → (s.told ≡ true → DoubtsKept (keeper.doubts (hand d).room.now.keeper) (keeper.doubts (hand d').room.now.keeper) more) → (e : Entry) → L.doubts d' e → (more ≡ []) × L.doubts d e
  calm_of more doubt e p = let still_there = still_none (keeper.doubts (hand d).room.now.keeper) more (entry_bytes e) (doubt p.0 (entry_bytes e) p.1.1) in (still_there.0, (p.0, (p.1.0, still_there.1)))

  -- an outcome that was kept, with this text
  pub answered_step : (now : ℕ) (bytes : Bytes) (next : Option Entry) (more : List Entry) (text : Bytes) → M h x now ≡ adding s.before h now bytes (entries next) → StandsAt keeper s (hand d) h
      → Stands keeper (hand d').room.now (onto more (book s h)) → Given (numbers keeper (hand d).room.now (hand d').room.now) (limit_for (entries next)) (entries next) more
      → (s.told ≡ true → CrashLeaves keeper (hand d).room.now (hand d').room.now (book s h) more) → (s.told ≡ true → DoubtsKept (keeper.doubts (hand d).room.now.keeper) (keeper.doubts (hand d').room.now.keeper) more)
      → Ticked (now ∷ []) → text ≡ bytes → IsAnswered M L d d' h x text
  answered_step now bytes next more text means stands room given crash doubt ticked is =
      let same : followed_by more h ≡ entries next ++ h = ap (λ (l : List Entry). followed_by l h) given.whole.is ∙ entries_behind next h in
      let sum : sizes (entries next ++ h) ≡ sizes more + sizes h = sizes_more next h ∙ ap (λ (l : List Entry). sizes l + sizes h) (sym given.whole.is) in
      record {
        at = now;
        text_is = is ∙ sym (ap (λ (o : Outcome Entry). o.text) means);
        fits = ap (λ (o : Outcome Entry). o.passes) means ∙ fits_within (numbers keeper (hand d).room.now (hand d').room.now) s.before h next more given.whole.is given.within stands.uses given.whole.grown;
        kept = subst (λ (o : Outcome Entry). Kept L d d' h (o.adds ++ h)) (sym means) (goes_on more (entries next) (now ∷ []) same sum stands room given.whole.grown crash ticked);
        calm = λ e p. let was = calm_of more doubt e p in (ap (λ (o : Outcome Entry). o.adds) means ∙ sym given.whole.is ∙ was.0, was.1);
        clock = subst (λ (o : Outcome Entry). Took L d d' o.took) (sym means) (record { told = ticked.told; gave = ticked.gave });
      }

  -- an outcome that was kept, as a text or with no memory for one
  pub text_step : (now : ℕ) (bytes : Bytes) (next : Option Entry) (more : List Entry) (r : Result (Vec ℕ Global) Stopped) → M h x now ≡ adding s.before h now bytes (entries next) → StandsAt keeper s (hand d) h
      → Stands keeper (hand d').room.now (onto more (book s h)) → Given (numbers keeper (hand d).room.now (hand d').room.now) (limit_for (entries next)) (entries next) more
      → (s.told ≡ true → CrashLeaves keeper (hand d).room.now (hand d').room.now (book s h) more) → (s.told ≡ true → DoubtsKept (keeper.doubts (hand d).room.now.keeper) (keeper.doubts (hand d').room.now.keeper) more)
      → Ticked (now ∷ []) → IsText bytes r → IsStep M L d d' h x r
  text_step now bytes next more (Ok text) means stands room given crash doubt ticked is = answered_step now bytes next more text.items means stands room given crash doubt ticked is
  text_step now bytes next more (Err why) means stands room given crash doubt ticked is =
      let same : followed_by more h ≡ entries next ++ h = ap (λ (l : List Entry). followed_by l h) given.whole.is ∙ entries_behind next h in
      let sum : sizes (entries next ++ h) ≡ sizes more + sizes h = sizes_more next h ∙ ap (λ (l : List Entry). sizes l + sizes h) (sym given.whole.is) in
      record {
        at = now;
        part = entries next;
        first = ([], ap (λ (o : Outcome Entry). o.adds) means);
        unkept = λ by_keeper. absurd (memory_by_keeper why is by_keeper);
        full = λ full. absurd (memory≢full why is full);
        kept = goes_on more (entries next) (now ∷ []) same sum stands room given.whole.grown crash ticked;
        doubt = λ e p. let was = calm_of more doubt e p in inl (sym given.whole.is ∙ was.0, was.1);
        took = now ∷ [];
        some = inr (sym (ap (λ (o : Outcome Entry). o.took) means));
        clock = record { told = ticked.told; gave = ticked.gave };
      }

  -- nothing was kept, and there is no answer
  pub stop_step : (now : ℕ) (bytes : Bytes) (next : Option Entry) (more : List Entry) (why : Stopped) → M h x now ≡ adding s.before h now bytes (entries next) → more ≡ [] → StandsAt keeper s (hand d) h
      → Stands keeper (hand d').room.now (onto more (book s h)) → keeper.used (hand d').room.now.keeper ≡ keeper.used (hand d).room.now.keeper + sizes more
      → (s.told ≡ true → CrashLeaves keeper (hand d).room.now (hand d').room.now (book s h) more) → (why ≡ stopped.Full → passes s.before h (entries next) ≡ true) → (KeeperStopped why → (e : Entry) × (entries next ≡ e ∷ []))
      → ((e : Entry) → L.doubts d' e → L.doubts d e ⊎ ((why ≡ stopped.Fault) × (entries next ≡ e ∷ [])))
      → Ticked (now ∷ []) → IsStopped M L d d' h x why
  stop_step now bytes next more why means none stands room grown crash past unkept doubt ticked =
      let adds : (M h x now).adds ≡ entries next = ap (λ (o : Outcome Entry). o.adds) means in
      record {
        at = now;
        part = [];
        first = (entries next, adds ∙ sym (append-nil (entries next)));
        unkept = λ by_keeper. let left = unkept by_keeper in (left.0, ([], adds ∙ left.1));
        full = λ full. ap (λ (o : Outcome Entry). o.passes) means ∙ past full;
        kept = goes_on more [] (now ∷ []) (ap (λ (l : List Entry). followed_by l h) none) (no_sizes more h none) stands room grown crash ticked;
        doubt = λ e p. ⊎_elim (λ was. inl (refl, was)) (λ tried. inr (tried.0, ([], adds ∙ tried.1))) (doubt e p);
        took = now ∷ [];
        some = inr (sym (ap (λ (o : Outcome Entry). o.took) means));
        clock = record { told = ticked.told; gave = ticked.gave };
      }

-- ---- a member that needs no call

module _ {K C X A : Type 0} (hand : A → Hand K C) (keeper : KeeperMeaning K) (clock : ClockMeaning C) (s : Shelf) (M : Meaning Entry X) (d : A) (h : History) (x : X) where
  abbrev B : Life Entry (Option (List Bytes)) A
  B = life keeper clock hand s

  stays : StandsAt keeper s (hand d) h → Kept B d d h h
  stays stands = record {
    list = stands;
    time = time_of s.told (keeper.moment (hand d).room.now.keeper) (keeper.moment (hand d).room.now.keeper) (keeper.left_since (hand d).room.now.keeper) (keeper.left_since (hand d).room.now.keeper) (Between Opens h h (B.doubts d) (B.doubts d))
        (λ t. elapses_same _ _ _);
  }

  -- there was no memory for an answer
  pub starved_step : StandsAt keeper s (hand d) h → IsStep M B d d h x (Err stopped.Memory)
  starved_step stands = record {
    at = 0;
    part = [];
    first = ((M h x 0).adds, sym (append-nil (M h x 0).adds));
    unkept = λ by_keeper. absurd by_keeper;
    full = λ full. absurd (memory≢full stopped.Memory refl full);
    kept = stays stands;
    doubt = λ e p. inl (refl, p);
    took = [];
    some = inl refl;
    clock = record { told = λ t. t; gave = λ t k. refl };
  }

  -- it is answered, or there was no memory for the answer
  pub bad_step : (p : LineProperty) (r : Result (Vec ℕ Global) Stopped) → M h x 0 ≡ bad p → StandsAt keeper s (hand d) h → IsText (bad_bytes p) r → IsStep M B d d h x r
  bad_step p (Ok text) means stands is = record {
    at = 0;
    text_is = is ∙ sym (ap (λ (o : Outcome Entry). o.text) means);
    fits = ap (λ (o : Outcome Entry). o.passes) means;
    kept = subst (λ (o : Outcome Entry). Kept B d d h (o.adds ++ h)) (sym means) (stays stands);
    calm = λ e p. (ap (λ (o : Outcome Entry). o.adds) means, p);
    clock = subst (λ (o : Outcome Entry). Took B d d o.took) (sym means) (record { told = λ t. t; gave = λ t k. refl });
  }
  bad_step p (Err why) means stands is = subst (λ (w : Stopped). IsStep M B d d h x (Err w)) (sym is) (starved_step stands)

-- ---- a member that is only told, behind a reading of the clock

module _ {K C X A : Type 0} (hand : A → Hand K C) (keeper : KeeperMeaning K) (clock : ClockMeaning C) (s : Shelf) (M : Meaning Entry X) (d d' : A) (h : History) (x : X) (now : ℕ) (room_is : (hand d').room.now ≡ (hand d).room.now) where
  abbrev R : Life Entry (Option (List Bytes)) A
  R = life keeper clock hand s

  abbrev Read : Type 0
  Read = Ticked hand keeper clock s M d d' h x (now ∷ [])

  waits : StandsAt keeper s (hand d) h → Read → Kept R d d' h h
  waits stands ticked = record {
    list = record {
      room_stands = subst (λ (r : Room K). Stands keeper r (book s h)) (sym room_is) stands.room_stands;
      uses = subst (λ (r : Room K). keeper.used r.keeper ≡ s.before + sizes h) (sym room_is) stands.uses;
      same_provider = ticked.same_provider ∙ stands.same_provider;
      same_room = ticked.same_room ∙ stands.same_room;
      same_clock = ticked.same ∙ stands.same_clock;
    };
    time = subst (λ (r : Room K). Elapses (R.moment d) (moment_of s.told (keeper.moment r.keeper)) (R.left_since d) (λ t opened. (s.told ≡ true) × keeper.left_since r.keeper t opened) (Between Opens h h (R.doubts d) (λ e. (s.told ≡ true) × in_doubt keeper r e)))
        (sym room_is)
        (time_of s.told (keeper.moment (hand d).room.now.keeper) (keeper.moment (hand d).room.now.keeper) (keeper.left_since (hand d).room.now.keeper) (keeper.left_since (hand d).room.now.keeper) (Between Opens h h (R.doubts d) (R.doubts d))
        (λ t. elapses_same _ _ _));
  }

  doubt_of : (e : Entry) → R.doubts d' e → R.doubts d e
  doubt_of e p = (p.0, subst (λ (r : Room K). in_doubt keeper r e) room_is p.1)

  -- there was no memory for an answer
  pub starved_behind : (why : Stopped) → why ≡ stopped.Memory → (M h x now).took ≡ now ∷ [] → StandsAt keeper s (hand d) h → Read → IsStep M R d d' h x (Err why)
  starved_behind why memory took stands ticked = record {
    at = now;
    part = [];
    first = ((M h x now).adds, sym (append-nil (M h x now).adds));
    unkept = λ by_keeper. absurd (memory_by_keeper why memory by_keeper);
    full = λ full. absurd (memory≢full why memory full);
    kept = waits stands ticked;
    doubt = λ e p. inl (refl, doubt_of e p);
    took = now ∷ [];
    some = inr (sym took);
    clock = record { told = ticked.told; gave = ticked.gave };
  }

  -- it is told, or there was no memory to tell it
  pub told_step : (text : Bytes) (r : Result (Vec ℕ Global) Stopped) → M h x now ≡ told_once now text → StandsAt keeper s (hand d) h → Read → wire.IsText text r → IsStep M R d d' h x r
  told_step text (Ok told) means stands ticked is = record {
    at = now;
    text_is = is ∙ sym (ap (λ (o : Outcome Entry). o.text) means);
    fits = ap (λ (o : Outcome Entry). o.passes) means;
    kept = subst (λ (o : Outcome Entry). Kept R d d' h (o.adds ++ h)) (sym means) (waits stands ticked);
    calm = λ e p. (ap (λ (o : Outcome Entry). o.adds) means, doubt_of e p);
    clock = subst (λ (o : Outcome Entry). Took R d d' o.took) (sym means) (record { told = ticked.told; gave = ticked.gave });
  }
  told_step text (Err why) means stands ticked is = starved_behind why is (ap (λ (o : Outcome Entry). o.took) means) stands ticked

-- ---- counts of faults

pub text_counts : (before now : ℕ) (bytes : Bytes) (r : Result (Vec ℕ Global) Stopped) → now ≡ before → IsText bytes r → StepCounts before now r
text_counts before now bytes (Ok text) calm is = calm
text_counts before now bytes (Err why) calm is = subst (λ (w : Stopped). StepCounts before now (Err w)) (sym is) calm

-- what a room answers to a request, a receipt or a tick, with no answer of the list behind a failure
module _ (n : Beside) (more : List Entry) where
  pub request_counts : (answered : Handled) (o : newsroom.Outcome newsroom.Answered) (r : Result (Vec ℕ Global) Stopped) → Answers n more o answered → IsAnswerText answered r → StepCounts n.faults n.later_faults r
  request_counts (Handled.Done reply) o r step text = text_counts n.faults n.later_faults _ r step.1.whole.calm text
  request_counts (Handled.Repeat reply) o r step text = text_counts n.faults n.later_faults _ r step.1.whole.calm text
  request_counts (Handled.Denied denial) o r step text = text_counts n.faults n.later_faults _ r step.1.whole.calm text
  request_counts Handled.Fault o r step text = subst (λ (x : Result (Vec ℕ Global) Stopped). StepCounts n.faults n.later_faults x) (sym text) step.rose
  request_counts (Handled.Full size count) o r step text = subst (λ (x : Result (Vec ℕ Global) Stopped). StepCounts n.faults n.later_faults x) (sym text) step.calm
  request_counts Handled.Memory o r step text = subst (λ (x : Result (Vec ℕ Global) Stopped). StepCounts n.faults n.later_faults x) (sym text) step.calm

  pub receipt_counts : (answered : ReceiptAnswer) (o : newsroom.Outcome newsroom.Answered) (r : Result (Vec ℕ Global) Stopped) → Receives n more o answered → IsReceiptText answered r → StepCounts n.faults n.later_faults r
  receipt_counts (kept.Done reply) o r step text = text_counts n.faults n.later_faults _ r step.1.whole.calm text
  receipt_counts (kept.Denied denial) o r step text = text_counts n.faults n.later_faults _ r step.1.whole.calm text
  receipt_counts kept.Fault o r step text = subst (λ (x : Result (Vec ℕ Global) Stopped). StepCounts n.faults n.later_faults x) (sym text) step.rose
  receipt_counts (kept.Full size count) o r step text = subst (λ (x : Result (Vec ℕ Global) Stopped). StepCounts n.faults n.later_faults x) (sym text) step.calm

-- ---- a call that adds one entry or none

fault≢full : stopped.Fault ≡ stopped.Full → ⊥
fault≢full is = cc

module _ {K C X A : Type 0} (hand : A → Hand K C) (keeper : KeeperMeaning K) (clock : ClockMeaning C) (s : Shelf) (M : Meaning Entry X) (d d' : A) (h : History) (now : ℕ) (said : X) (bytes : Bytes) (next : Option Entry)
    (means : M h said now ≡ adding s.before h now bytes (entries next)) where
  -- what the room did
  pub record Called (more : List Entry) (failed : Bool) : Type 0 where
    pub stands : StandsAt keeper s (hand d) h
    pub room : Stands keeper (hand d').room.now (onto more (book s h))
    pub told : s.told ≡ true → ToldStep keeper (hand d).room.now (hand d').room.now (book s h) (entries next) more failed
    pub ticked : Ticked hand keeper clock s M d d' h said (now ∷ [])

  abbrev Step : Result (Vec ℕ Global) Stopped → Type 0
  Step r = IsStep M (life keeper clock hand s) d d' h said r

  abbrev n : Beside
  n = numbers keeper (hand d).room.now (hand d').room.now

  -- nothing more is in doubt
  calm_by : (more : List Entry) (why : Stopped) → (s.told ≡ true → DoubtsKept (keeper.doubts (hand d).room.now.keeper) (keeper.doubts (hand d').room.now.keeper) more)
      → (e : Entry) → (life keeper clock hand s).doubts d' e → (life keeper clock hand s).doubts d e ⊎ ((why ≡ stopped.Fault) × (entries next ≡ e ∷ []))
  calm_by more why doubt e p = inl (calm_of hand keeper clock s M d d' h said more doubt e p).1

  -- the entry that was tried may be in doubt too
  tried_by : (more : List Entry) → (s.told ≡ true → DoubtStep (keeper.doubts (hand d).room.now.keeper) (keeper.doubts (hand d').room.now.keeper) (entries next) more true)
      → (e : Entry) → (life keeper clock hand s).doubts d' e → (life keeper clock hand s).doubts d e ⊎ ((stopped.Fault ≡ stopped.Fault) × (entries next ≡ e ∷ []))
  tried_by more doubt e p = elim (doubt p.0 (entry_bytes e) p.1.1) [
    | inl old ↦ inl (p.0, (p.1.0, (still_none (keeper.doubts (hand d).room.now.keeper) more (entry_bytes e) old).1))
    | inr tried ↦ inr (refl, one_next next more tried.1 tried.0 tried.2 ∙ ap (λ (x : Entry). x ∷ []) (sym (same_entry e tried.0 p.1.0 tried.3 tried.4)))
  ]

  -- it was done, and is told, or there is no memory to tell it
  pub given_step : (more : List Entry) (r : Result (Vec ℕ Global) Stopped) → Called more false → Given n (limit_for (entries next)) (entries next) more → IsText bytes r → Step r
  given_step more r did given text =
      text_step hand keeper clock s M d d' h said now bytes next more r means did.stands did.room given (λ t. (did.told t).crash) (λ t. (did.told t).doubt) did.ticked text

  pub given_answered : (more : List Entry) → Called more false → Given n (limit_for (entries next)) (entries next) more → IsAnswered M (life keeper clock hand s) d d' h said bytes
  given_answered more did given =
      answered_step hand keeper clock s M d d' h said now bytes next more bytes means did.stands did.room given (λ t. (did.told t).crash) (λ t. (did.told t).doubt) did.ticked refl

  stopped_by : (more : List Entry) (failed : Bool) (why : Stopped) → Called more failed → more ≡ [] → keeper.used (hand d').room.now.keeper ≡ keeper.used (hand d).room.now.keeper + sizes more
      → (why ≡ stopped.Full → passes s.before h (entries next) ≡ true) → (KeeperStopped why → (e : Entry) × (entries next ≡ e ∷ []))
      → ((e : Entry) → (life keeper clock hand s).doubts d' e → (life keeper clock hand s).doubts d e ⊎ ((why ≡ stopped.Fault) × (entries next ≡ e ∷ []))) → Step (Err why)
  stopped_by more failed why did none grown past unkept doubt =
      stop_step hand keeper clock s M d d' h said now bytes next more why means none did.stands did.room grown (λ t. (did.told t).crash) past unkept doubt did.ticked

  -- the keeper failed at its entry
  pub failed_step : (more : List Entry) → Called more true → Failed n (limit_for (entries next)) (entries next) more → Step (Err stopped.Fault)
  failed_step more did failed =
      stopped_by more true stopped.Fault did (none_before next more failed.rest failed.next failed.is) failed.grown (λ full. absurd (fault≢full full))
      (λ by_keeper. (failed.next, one_next next more failed.rest failed.next failed.is)) (tried_by more (λ t. (did.told t).doubt))

  -- its entry would pass the limit
  pub refused_step : (more : List Entry) (size count : ℕ) → Called more false → Refused n (limit_for (entries next)) (entries next) more size count → Step (Err stopped.Full)
  refused_step more size count did refused =
      let none : more ≡ [] = none_before next more refused.rest refused.next refused.is in
      let all : entries next ≡ refused.next ∷ refused.rest = refused.is ∙ ap (λ (l : List Entry). l ++ refused.next ∷ refused.rest) none in
      let same : keeper.used (hand d').room.now.keeper ≡ keeper.used (hand d).room.now.keeper = refused.grown ∙ ap (λ (l : List Entry). keeper.used (hand d).room.now.keeper + sizes l) none ∙ omega arith in
      let limit : limit_for (entries next) ≡ limit_of refused.next.act = ap limit_for all in
      let past : limit_of refused.next.act < keeper.used (hand d).room.now.keeper + size_of refused.next = omega (arith, refused.past, same, limit) in
      stopped_by more false stopped.Full did none refused.grown
      (λ full. ap (passes s.before h) all ∙ passes_past s.before (keeper.used (hand d).room.now.keeper) h refused.next refused.rest did.stands.uses past)
      (λ by_keeper. (refused.next, one_next next more refused.rest refused.next refused.is)) (calm_by more stopped.Full (λ t. (did.told t).doubt))

  -- there was no memory for it
  pub starved_call : (more : List Entry) → Called more false → Whole n [] more → Step (Err stopped.Memory)
  starved_call more did whole =
      stopped_by more false stopped.Memory did whole.is whole.grown (λ full. absurd (memory≢full stopped.Memory refl full)) (λ by_keeper. absurd by_keeper) (calm_by more stopped.Memory (λ t. (did.told t).doubt))

-- ---- an outcome, by what the room answered

module _ {K C X A : Type 0} (hand : A → Hand K C) (keeper : KeeperMeaning K) (clock : ClockMeaning C) (s : Shelf) (M : Meaning Entry X) (d d' : A) (h : History) (now : ℕ) (said : X) (o : newsroom.Outcome newsroom.Answered)
    (means : M h said now ≡ of_outcome s.before h now o) where
  abbrev pub Did : List Entry → Bool → Type 0
  Did more failed = Called hand keeper clock s M d d' h now said (answered_bytes o.answer) o.more means more failed

  done_step : (more : List Entry) (failed : Bool) (answer : newsroom.Answered) (r : Result (Vec ℕ Global) Stopped) → failed ≡ false → (o.answer ≡ answer) × Given (numbers keeper (hand d).room.now (hand d').room.now) (limit_for (entries o.more)) (entries o.more) more
      → Did more failed → IsText (answered_bytes answer) r → IsStep M (life keeper clock hand s) d d' h said r
  done_step more failed answer r calm step did text =
      given_step hand keeper clock s M d d' h now said (answered_bytes o.answer) o.more means more r (subst (λ (f : Bool). Did more f) calm did) step.1 (subst (λ (x : newsroom.Answered). IsText (answered_bytes x) r) (sym step.0) text)

  -- to a request, or to a story that comes in
  pub handled_step : (more : List Entry) (answered : Handled) (r : Result (Vec ℕ Global) Stopped) → Answers (numbers keeper (hand d).room.now (hand d').room.now) more o answered
      → Did more (is_fault answered) → IsAnswerText answered r → IsStep M (life keeper clock hand s) d d' h said r
  handled_step more (Handled.Done reply) r step did text = done_step more false (newsroom.Done reply) r refl step did text
  handled_step more (Handled.Repeat reply) r step did text = done_step more false (newsroom.Repeat reply) r refl step did text
  handled_step more (Handled.Denied denial) r step did text = done_step more false (newsroom.Denied denial) r refl step did text
  handled_step more Handled.Fault r step did text =
      subst (λ (x : Result (Vec ℕ Global) Stopped). IsStep M (life keeper clock hand s) d d' h said x) (sym text)
      (failed_step hand keeper clock s M d d' h now said (answered_bytes o.answer) o.more means more did step)
  handled_step more (Handled.Full size count) r step did text =
      subst (λ (x : Result (Vec ℕ Global) Stopped). IsStep M (life keeper clock hand s) d d' h said x) (sym text)
      (refused_step hand keeper clock s M d d' h now said (answered_bytes o.answer) o.more means more size count did step)
  handled_step more Handled.Memory r step did text =
      subst (λ (x : Result (Vec ℕ Global) Stopped). IsStep M (life keeper clock hand s) d d' h said x) (sym text)
      (starved_call hand keeper clock s M d d' h now said (answered_bytes o.answer) o.more means more did step)

  -- to a receipt
  pub received_step : (more : List Entry) (answered : ReceiptAnswer) (r : Result (Vec ℕ Global) Stopped) → limit_for (entries o.more) ≡ LIMIT → Receives (numbers keeper (hand d).room.now (hand d').room.now) more o answered
      → Did more (is_kept_fault answered) → IsReceiptText answered r → IsStep M (life keeper clock hand s) d d' h said r
  received_step more (kept.Done reply) r same step did text =
      done_step more false (newsroom.Done reply) r refl (step.0, subst (λ (l : ℕ). Given (numbers keeper (hand d).room.now (hand d').room.now) l (entries o.more) more) (sym same) step.1) did text
  received_step more (kept.Denied denial) r same step did text =
      done_step more false (newsroom.Denied denial) r refl (step.0, subst (λ (l : ℕ). Given (numbers keeper (hand d).room.now (hand d').room.now) l (entries o.more) more) (sym same) step.1) did text
  received_step more kept.Fault r same step did text =
      subst (λ (x : Result (Vec ℕ Global) Stopped). IsStep M (life keeper clock hand s) d d' h said x) (sym text)
      (failed_step hand keeper clock s M d d' h now said (answered_bytes o.answer) o.more means more did (subst (λ (l : ℕ). Failed (numbers keeper (hand d).room.now (hand d').room.now) l (entries o.more) more) (sym same) step))
  received_step more (kept.Full size count) r same step did text =
      subst (λ (x : Result (Vec ℕ Global) Stopped). IsStep M (life keeper clock hand s) d d' h said x) (sym text)
      (refused_step hand keeper clock s M d d' h now said (answered_bytes o.answer) o.more means more size count did (subst (λ (l : ℕ). Refused (numbers keeper (hand d).room.now (hand d').room.now) l (entries o.more) more size count) (sym same) step))
