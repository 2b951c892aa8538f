-- The input is read one piece further.
use Rattle.std.proofs.Common.{◌≡◌, ◌<◌, ◌≤◌, ⊎_elim, ℕ, ◌+◌, List, [], ◌++◌, length, take, drop, Result, Ok, Err, refl, sym, ◌∙◌, ap, subst, arith, append_assoc}
use Rattle.std.proofs.lemmas.Bool.{cases_lt}
use Rattle.std.proofs.lemmas.List.{append-nil, nil_from_length, take-append-drop, length-drop, take_at, take-take, length-append, length-take}
use Rattle.line_run.specs.Life.{Meaning, Life}
use Rattle.line_run.specs.Members.{Adds, AddsLast, ComeFirst}
use Rattle.run_status.specs.Output.{Wrote, AllPassed}
use Rattle.line_run.specs.Turns.{texts, ByLog, AnsweredAll, AnsweredSome, Causes}
use Rattle.line_run.specs.Run.{WasRead, IsEnd, NotByOutput, Ran, ReadSoFar, ReadAll}
use Rattle.line_run.specs.declared.ending.Ending.{Ending}
use Rattle.line_run.specs.declared.ending.Ending.TheVariants as end
use Rattle.run_status.proofs.Tellings.{wrote_none}
use Rattle.line_run.proofs.Runs.{none_yet, all_then, some_then, none_some, some_of, wrote_then}
use Rattle.news_io.specs.Source.{SourceMeaning}
use Rattle.news_io.specs.Sink.{AreFirst, SinkMeaning}
use Rattle.news_io.proofs.Pieces.{first_all}

pub flushed : {O : Type 0} (sink : SinkMeaning O) (o o' : O) → (sink.tells o → sink.tells o') → (sink.tells o → sink.taken o' ≡ sink.taken o) → Wrote sink o o' []
flushed sink o o' told same = record { told = told; bytes = λ t. same t ∙ sym (append-nil (sink.taken o)) }

pub not_output : (why : Ending) → NotByOutput (Err why) → why ≡ end.Write → ⊥
not_output why other is = subst (λ (w : Ending). NotByOutput (Err w)) is other

by_half : (n : ℕ) → (0 < n → ⊥) → n ≡ 0
by_half n none = ⊎_elim (λ lt. absurd (none lt)) (λ le. omega (arith, le)) (cases_lt 0 n)

pub two_parts : (left count : ℕ) (piece : List ℕ) → left ≤ count → take left piece ++ drop left (take count piece) ≡ take count piece
two_parts left count piece le = ap (λ (l : List ℕ). l ++ drop left (take count piece)) (sym (take-take left count piece le)) ∙ take-append-drop left (take count piece)

pub one_over : (left count : ℕ) (piece : List ℕ) → left < count → count ≤ left + 1 → count ≤ length piece → length (drop left (take count piece)) ≡ 1
one_over left count piece lt few within = omega (arith, lt, few, within, length-drop left (take count piece), length-take count piece)

pub was_read_more : {S : Type 0} (source : SourceMeaning S) (i i' i'' : S) (read some : List ℕ) → WasRead source i i' read (source.ahead i') → (source.tells i' → source.tells i'') → (source.tells i' → source.ahead i' ≡ some ++ source.ahead i'')
    → WasRead source i i'' (read ++ some) (source.ahead i'')
was_read_more source i i' i'' read some w told bytes = record {
  told = λ t. told (w.told t);
  input = λ t. w.input t ∙ ap (λ (l : List ℕ). read ++ l) (bytes (w.told t)) ∙ sym (append_assoc read some (source.ahead i''));
  rest = λ t. refl;
}

module _ {T C A O X : Type 0} (M : Meaning T X) (L : Life T C A) (sink : SinkMeaning O) where
  -- what was written before passed on first
  all_begun : (old new : A) (o o' o'' : O) (h : List T) (xs : List X) → Wrote sink o o' [] → (sink.tells o → AllPassed sink o → AllPassed sink o') → AnsweredAll M L sink old new o' o'' h xs → AnsweredAll M L sink old new o o'' h xs
  all_begun old new o o' o'' h xs w first a = record {
    turns = a.turns;
    asked_is = a.asked_is;
    fit = a.fit;
    kept = a.kept;
    calm = a.calm;
    clock = a.clock;
    wrote = wrote_then sink o o' o'' [] _ w a.wrote;
    passed = λ t all. a.passed (w.told t) (first t all);
  }

  some_begun : (old new : A) (o o' o'' : O) (h : List T) (xs : List X) (why : Ending) → Wrote sink o o' [] → (sink.tells o → AllPassed sink o → AllPassed sink o') → AnsweredSome M L sink old new o' o'' h xs why
      → AnsweredSome M L sink old new o o'' h xs why
  some_begun old new o o' o'' h xs why w first a = record {
    turns = a.turns;
    later = a.later;
    asked_is = a.asked_is;
    fit = a.fit;
    part = a.part;
    said = a.said;
    took = a.took;
    next = a.next;
    half = a.half;
    kept = a.kept;
    clock = a.clock;
    wrote = wrote_then sink o o' o'' [] _ w a.wrote;
    passed = λ t all. subst (λ (l : List ℕ). AreFirst (l ++ texts M h a.turns) (sink.passed o'')) (w.bytes t ∙ append-nil (sink.taken o)) (a.passed (w.told t) (first t all));
  }

  pub end_begun : (decided all : List ℕ → List X) (most : ℕ) (old new : A) (o o' o'' : O) (h : List T) (read more : List ℕ) (r : Result (Unit {0}) Ending) → Wrote sink o o' [] → (sink.tells o → AllPassed sink o → AllPassed sink o')
      → IsEnd M L sink decided all most old new o' o'' h read more r → IsEnd M L sink decided all most old new o o'' h read more r
  end_begun decided all most old new o o' o'' h read more (Ok u) w first d = (d.0, d.1, all_begun old new o o' o'' h _ w first d.2)
  end_begun decided all most old new o o' o'' h read more (Err end.Read) w first d = (d.0, all_begun old new o o' o'' h _ w first d.1)
  end_begun decided all most old new o o' o'' h read more (Err end.TooLong) w first d = (d.0, all_begun old new o o' o'' h _ w first d.1)
  end_begun decided all most old new o o' o'' h read more (Err end.Write) w first d = some_begun old new o o' o'' h _ end.Write w first d
  end_begun decided all most old new o o' o'' h read more (Err end.Store) w first d = some_begun old new o o' o'' h _ end.Store w first d
  end_begun decided all most old new o o' o'' h read more (Err end.Full) w first d = some_begun old new o o' o'' h _ end.Full w first d
  end_begun decided all most old new o o' o'' h read more (Err end.Memory) w first d = some_begun old new o o' o'' h _ end.Memory w first d

  -- unless the output ended it, all answers are whole and have passed on
  pub some_passed : (old new : A) (o o' : O) (h : List T) (xs : List X) (why : Ending) → (why ≡ end.Write → ⊥) → AnsweredSome M L sink old new o o' h xs why → sink.tells o → AllPassed sink o → AllPassed sink o'
  some_passed old new o o' h xs why not_output a t all =
      let first : AreFirst (sink.taken o ++ texts M h a.turns) (sink.passed o') = a.passed t all in
      let order : AreFirst (sink.passed o') (sink.taken o') = sink.in_order o' (a.wrote.told t) in
      let none : length a.said ≡ 0 = by_half (length a.said) (λ lt. not_output (a.half lt)) in
      let rest : length order.0 ≡ 0 = omega (
        arith,
        none,
        ap length (a.wrote.bytes t),
        ap length first.1,
        ap length order.1,
        length-append (sink.taken o) (texts M h a.turns ++ a.said),
        length-append (texts M h a.turns) a.said,
        length-append (sink.taken o ++ texts M h a.turns) first.0,
        length-append (sink.taken o) (texts M h a.turns),
        length-append (sink.passed o') order.0,
      ) in
      sym (order.1 ∙ ap (λ (l : List ℕ). sink.passed o' ++ l) (nil_from_length order.0 rest) ∙ append-nil (sink.passed o'))

  pub end_passed : (decided all : List ℕ → List X) (most : ℕ) (old new : A) (o o' : O) (h : List T) (read more : List ℕ) (r : Result (Unit {0}) Ending) → NotByOutput r
      → IsEnd M L sink decided all most old new o o' h read more r → sink.tells o → AllPassed sink o → AllPassed sink o'
  end_passed decided all most old new o o' h read more (Ok u) n d = d.2.passed
  end_passed decided all most old new o o' h read more (Err end.Read) n d = d.1.passed
  end_passed decided all most old new o o' h read more (Err end.TooLong) n d = d.1.passed
  end_passed decided all most old new o o' h read more (Err end.Write) n d = absurd n
  end_passed decided all most old new o o' h read more (Err end.Store) n d = some_passed old new o o' h _ end.Store (λ is. cc) d
  end_passed decided all most old new o o' h read more (Err end.Full) n d = some_passed old new o o' h _ end.Full (λ is. cc) d
  end_passed decided all most old new o o' h read more (Err end.Memory) n d = some_passed old new o o' h _ end.Memory (λ is. cc) d

  pub some_end : (decided all : List ℕ → List X) (most : ℕ) (old new : A) (o o' : O) (h : List T) (read more : List ℕ) (m m' c c' : ℕ) (why : Ending) → Causes m m' c c' (Err why)
      → AnsweredSome M L sink old new o o' h (all (read ++ more)) why → IsEnd M L sink decided all most old new o o' h read more (Err why)
  some_end decided all most old new o o' h read more m m' c c' end.Read none s = absurd none
  some_end decided all most old new o o' h read more m m' c c' end.TooLong none s = absurd none
  some_end decided all most old new o o' h read more m m' c c' end.Write cause s = s
  some_end decided all most old new o o' h read more m m' c c' end.Store cause s = s
  some_end decided all most old new o o' h read more m m' c c' end.Full cause s = s
  some_end decided all most old new o o' h read more m m' c c' end.Memory cause s = s

module _ {T C S A O X : Type 0} (M : Meaning T X) (L : Life T C A) (source : SourceMeaning S) (sink : SinkMeaning O) (decided all : List ℕ → List X) (most : ℕ) where
  pub read_starts : (agrees : List ℕ → Type 0) (i : S) (it : A) (o : O) (h : List T) → L.stands it h → decided [] ≡ [] → agrees [] → ReadSoFar M L source sink decided most agrees i i it it o o h most
  read_starts agrees i it o h stands none is = record {
    read = [];
    was_read = record { told = λ t. t; input = λ t. refl; rest = λ t. refl };
    count = omega arith;
    reader = is;
    done = subst (λ (l : List X). AnsweredAll M L sink it it o o h l) (sym none) (none_yet M L sink it o h stands);
  }

  pub read_fails : (agrees : List ℕ → Type 0) (i i' i'' : S) (old new : A) (o o' : O) (h : List T) (left : ℕ) → ReadSoFar M L source sink decided most agrees i i' old new o o' h left
      → (source.tells i' → source.tells i'') → (source.tells i' → source.ahead i'' ≡ source.ahead i') → Ran M L source sink decided all most i i'' old new o o' h (Err end.Read)
  read_fails agrees i i' i'' old new o o' h left p told same = record {
    read = p.read;
    more = source.ahead i';
    few = omega (arith, p.count);
    was_read = record { told = λ t. told (p.was_read.told t); input = p.was_read.input; rest = λ t. same (p.was_read.told t) };
    did = (omega (arith, p.count), p.done);
  }

  pub read_ends : (agrees : List ℕ → Type 0) (i i' i'' : S) (old new : A) (o o' : O) (h : List T) (piece : List ℕ) (left n : ℕ) → ReadSoFar M L source sink decided most agrees i i' old new o o' h left
      → (source.tells i' → source.tells i'') → (source.tells i' → source.ahead i' ≡ take n piece ++ source.ahead i'') → (source.tells i' → source.ahead i' ≡ []) → n ≡ 0 → ReadAll M L source sink decided most agrees i i'' old new o o' h
  read_ends agrees i i' i'' old new o o' h piece left n p told bytes none zero = record {
    read = p.read;
    few = omega (arith, p.count);
    reader = p.reader;
    done = p.done;
    was_read = record {
      told = λ t. told (p.was_read.told t);
      input = λ t. p.was_read.input t ∙ ap (λ (l : List ℕ). p.read ++ l) (none (p.was_read.told t));
      rest = λ t. ap (λ (k : ℕ). take k piece ++ source.ahead i'') (sym zero) ∙ sym (bytes (p.was_read.told t)) ∙ none (p.was_read.told t);
    };
  }

  pub read_goes_on : (agrees agrees' : List ℕ → Type 0) (i i' i'' : S) (old mid new : A) (o o' o'' : O) (h : List T) (some : List ℕ) (left left' : ℕ) → ReadSoFar M L source sink decided most agrees i i' old mid o o' h left
      → (source.tells i' → source.tells i'') → (source.tells i' → source.ahead i' ≡ some ++ source.ahead i'') → length some + left' ≡ left
      → ((read : List ℕ) → agrees read → agrees' (read ++ some))
      → Adds decided agrees some (λ ys. (g : List T) → L.stands mid g → AnsweredAll M L sink mid new o' o'' g ys)
      → ReadSoFar M L source sink decided most agrees' i i'' old new o o'' h left'
  read_goes_on agrees agrees' i i' i'' old mid new o o' o'' h some left left' p told bytes sum goes adds =
      let more : (ys : List X) × (decided (p.read ++ some) ≡ decided p.read ++ ys) × ((g : List T) → L.stands mid g → AnsweredAll M L sink mid new o' o'' g ys) = adds p.read p.reader in
      record {
        read = p.read ++ some;
        was_read = was_read_more source i i' i'' p.read some p.was_read told bytes;
        count = omega (arith, p.count, sum, length-append p.read some);
        reader = goes p.read p.reader;
        done = subst (λ (l : List X). AnsweredAll M L sink old new o o'' h l) (sym more.1) (all_then M L sink old mid new o o' o'' h (decided p.read) more.0 p.done more.2);
      }

  -- a member of the piece ended the run; behind the part that was looked at there may be more
  pub read_stops : ComeFirst decided all → (agrees : List ℕ → Type 0) (i i' i'' : S) (old mid new : A) (o o' o'' : O) (h : List T) (some over : List ℕ) (left m m' c c' : ℕ) (why : Ending)
      → ReadSoFar M L source sink decided most agrees i i' old mid o o' h left
      → (source.tells i' → source.tells i'') → (source.tells i' → source.ahead i' ≡ (some ++ over) ++ source.ahead i'') → length (some ++ over) ≤ left + 1 → Causes m m' c c' (Err why)
      → Adds decided agrees some (λ ys. (g : List T) → L.stands mid g → AnsweredSome M L sink mid new o' o'' g ys why)
      → Ran M L source sink decided all most i i'' old new o o'' h (Err why)
  read_stops first agrees i i' i'' old mid new o o' o'' h some over left m m' c c' why p told bytes few cause adds =
      let more : (ys : List X) × (decided (p.read ++ some) ≡ decided p.read ++ ys) × ((g : List T) → L.stands mid g → AnsweredSome M L sink mid new o' o'' g ys why) = adds p.read p.reader in
      let tail : List ℕ = over ++ source.ahead i'' in
      let rest : (ys : List X) × (all ((p.read ++ some) ++ tail) ≡ decided (p.read ++ some) ++ ys) = first (p.read ++ some) tail in
      let whole : (p.read ++ (some ++ over)) ++ source.ahead i'' ≡ (p.read ++ some) ++ tail =
      ap (λ (l : List ℕ). l ++ source.ahead i'') (sym (append_assoc p.read some over)) ∙ append_assoc (p.read ++ some) over (source.ahead i'') in
      record {
        read = p.read ++ (some ++ over);
        more = source.ahead i'';
        was_read = was_read_more source i i' i'' p.read (some ++ over) p.was_read told bytes;
        few = omega (arith, p.count, few, length-append p.read (some ++ over));
        did = some_end M L sink decided all most old new o o'' h _ _ m m' c c' why cause
            (subst (λ (l : List X). AnsweredSome M L sink old new o o'' h l why)
            (ap (λ (l : List X). l ++ rest.0) (sym more.1) ∙ sym rest.1 ∙ ap all (sym whole))
            (some_of M L sink old new o o'' h (decided p.read ++ more.0) rest.0 why
            (some_then M L sink old mid new o o' o'' h (decided p.read) more.0 why p.done more.2)));
      }

  pub read_too_long : (agrees : List ℕ → Type 0) (i i' i'' : S) (old mid new : A) (o o' o'' : O) (h : List T) (some over : List ℕ) (left : ℕ) → ReadSoFar M L source sink decided most agrees i i' old mid o o' h left
      → (source.tells i' → source.tells i'') → (source.tells i' → source.ahead i' ≡ (some ++ over) ++ source.ahead i'') → length some ≡ left → length over ≡ 1
      → Adds decided agrees some (λ ys. (g : List T) → L.stands mid g → AnsweredAll M L sink mid new o' o'' g ys)
      → Ran M L source sink decided all most i i'' old new o o'' h (Err end.TooLong)
  read_too_long agrees i i' i'' old mid new o o' o'' h some over left p told bytes every one adds =
      let more : (ys : List X) × (decided (p.read ++ some) ≡ decided p.read ++ ys) × ((g : List T) → L.stands mid g → AnsweredAll M L sink mid new o' o'' g ys) = adds p.read p.reader in
      let front : take most (p.read ++ (some ++ over)) ≡ p.read ++ some =
      ap (λ (l : List ℕ). take most l) (sym (append_assoc p.read some over)) ∙ take_at (p.read ++ some) over most (omega (arith, p.count, every, length-append p.read some)) in
      record {
        read = p.read ++ (some ++ over);
        more = source.ahead i'';
        was_read = was_read_more source i i' i'' p.read (some ++ over) p.was_read told bytes;
        few = omega (arith, p.count, every, one, length-append p.read (some ++ over), length-append some over);
        did = (
          omega (arith, p.count, every, one, length-append p.read (some ++ over), length-append some over),
          subst (λ (l : List X). AnsweredAll M L sink old new o o'' h l) (sym more.1 ∙ ap decided (sym front))
              (all_then M L sink old mid new o o' o'' h (decided p.read) more.0 p.done more.2),
        );
      }

  -- what the end of the input decides
  pub last_members : (agrees : List ℕ → Type 0) (i i' : S) (old mid new : A) (o o' o'' : O) (h : List T) → ReadAll M L source sink decided most agrees i i' old mid o o' h
      → AddsLast decided all agrees (λ ys. (g : List T) → L.stands mid g → AnsweredAll M L sink mid new o' o'' g ys)
      → Ran M L source sink decided all most i i' old new o o'' h (Ok tt)
  last_members agrees i i' old mid new o o' o'' h p adds =
      let more : (ys : List X) × (all p.read ≡ decided p.read ++ ys) × ((g : List T) → L.stands mid g → AnsweredAll M L sink mid new o' o'' g ys) = adds p.read p.reader in
      record {
        read = p.read;
        more = [];
        was_read = p.was_read;
        few = omega (arith, p.few);
        did = (refl, p.few, subst (λ (l : List X). AnsweredAll M L sink old new o o'' h l) (sym more.1) (all_then M L sink old mid new o o' o'' h (decided p.read) more.0 p.done more.2));
      }

  pub last_stops : (agrees : List ℕ → Type 0) (i i' : S) (old mid new : A) (o o' o'' : O) (h : List T) (m m' c c' : ℕ) (why : Ending) → ReadAll M L source sink decided most agrees i i' old mid o o' h
      → Causes m m' c c' (Err why)
      → AddsLast decided all agrees (λ ys. (g : List T) → L.stands mid g → AnsweredSome M L sink mid new o' o'' g ys why)
      → Ran M L source sink decided all most i i' old new o o'' h (Err why)
  last_stops agrees i i' old mid new o o' o'' h m m' c c' why p cause adds =
      let more : (ys : List X) × (all p.read ≡ decided p.read ++ ys) × ((g : List T) → L.stands mid g → AnsweredSome M L sink mid new o' o'' g ys why) = adds p.read p.reader in
      record {
        read = p.read;
        more = [];
        was_read = p.was_read;
        few = omega (arith, p.few);
        did = some_end M L sink decided all most old new o o'' h p.read [] m m' c c' why cause
            (subst (λ (l : List X). AnsweredSome M L sink old new o o'' h l why) (sym more.1 ∙ ap all (sym (append-nil p.read)))
            (some_then M L sink old mid new o o' o'' h (decided p.read) more.0 why p.done more.2));
      }

  -- nothing was read, and the output may have passed on what it held back
  nothing_read : (i : S) (it : A) (o o' : O) (h : List T) (why : Ending) → (ByLog why → ⊥) → L.stands it h → Wrote sink o o' [] → (sink.tells o → AreFirst (sink.passed o) (sink.passed o'))
      → AnsweredSome M L sink it it o o' h (all (source.ahead i)) why
  nothing_read i it o o' h why not_log stands wrote kept = some_of M L sink it it o o' h [] (all (source.ahead i)) why (none_some M L sink it o o' h why not_log stands wrote kept)

  pub ran_nothing : (i : S) (it : A) (o : O) (h : List T) → L.stands it h → Ran M L source sink decided all most i i it it o o h (Err end.Memory)
  ran_nothing i it o h stands = record {
    read = [];
    more = source.ahead i;
    few = omega arith;
    was_read = record { told = λ t. t; input = λ t. refl; rest = λ t. refl };
    did = nothing_read i it o o h end.Memory (λ none. none) stands (wrote_none sink o) (λ t. first_all (sink.passed o));
  }

  pub ran_unwritten : (i : S) (it : A) (o o' : O) (h : List T) → L.stands it h → Wrote sink o o' [] → (sink.tells o → AreFirst (sink.passed o) (sink.passed o')) → Ran M L source sink decided all most i i it it o o' h (Err end.Write)
  ran_unwritten i it o o' h stands wrote kept = record {
    read = [];
    more = source.ahead i;
    few = omega arith;
    was_read = record { told = λ t. t; input = λ t. refl; rest = λ t. refl };
    did = nothing_read i it o o' h end.Write (λ none. none) stands wrote kept;
  }

  pub ran_begun : (i i' : S) (old new : A) (o o' o'' : O) (h : List T) (r : Result (Unit {0}) Ending) → Wrote sink o o' [] → (sink.tells o → AllPassed sink o')
      → Ran M L source sink decided all most i i' old new o' o'' h r → Ran M L source sink decided all most i i' old new o o'' h r
  ran_begun i i' old new o o' o'' h r w first ran = record {
    read = ran.read;
    more = ran.more;
    was_read = ran.was_read;
    few = ran.few;
    did = end_begun M L sink decided all most old new o o' o'' h ran.read ran.more r w (λ t all. first t) ran.did;
  }
