-- How a room goes through the records of a table.
use Rattle.std.proofs.Common.{◌≡◌, inl, inr, ◌<◌, ℕ, ◌+◌, take, drop, get_or, length, map, Bool, true, false, cond, List, [], ◌∷◌, ◌++◌, Option, Some, None, Result, Ok, Err, refl, sym, ap, subst, ◌∙◌, arith, append_assoc, append-nil}
use Rattle.std.proofs.lemmas.List.{at_drop_more, take-append-drop, take_more, map-append}
use Rattle.news_types.specs.declared.entry.Entry.{Entry}
use Rattle.news_types.specs.declared.entry.Act.TheVariants.{Request}
use Rattle.news_types.specs.declared.entry.Reply.{Reply}
use Rattle.news_types.specs.declared.denial.Denial.{Denial}
use Rattle.news_types.specs.declared.denial.Denial.TheVariants.{OutOfTurn}
use Rattle.news_types.specs.declared.command.Command.{Command}
use Rattle.news_types.specs.declared.command.Command.TheVariants.{Stop as StopCommand}
use Rattle.news_types.specs.declared.query.Answer.{Answer}
use Rattle.news_types.specs.declared.query.Answer.TheVariants as answer
use Rattle.news_types.specs.declared.query.FeedRow.{FeedRow}
use Rattle.news_types.specs.declared.query.Query.TheVariants as query
use Rattle.news_types.specs.declared.words.Thing.TheVariants as thing
use Rattle.news_types.specs.Names.{Bytes}
use Rattle.news_types.specs.History.{History, moment_at, last, last_number}
use Rattle.news_types.specs.Books.{Book, onto, followed_by}
use Rattle.news_types.specs.Products.{is_subscriber}
use Rattle.news_types.specs.Answers.{query_answer, feed_answer}
use Rattle.news_types.specs.Denial.{turn_denial, is_repeat, command_denial}
use Rattle.news_types.specs.Outcome.{Outcome, Answered, Done, Repeat, Denied, request, request_at, refused, kept, kept_unless, last_reply}
use Rattle.news_types.specs.Calls.{Requested}
use Rattle.news_io.specs.Keeper.{KeeperMeaning}
use Rattle.news_room.specs.Beside.{Beside, beside}
use Rattle.news_room.specs.Log.{sizes}
use Rattle.news_room.specs.Stands.{Stands, LIMIT, limit_for, numbers}
use Rattle.news_room.specs.Said.{said, is_failure}
use Rattle.news_room.specs.Steps.{Whole, Given, Failed, Refused, Within, Answers, RequestStep, After, entries}
use Rattle.news_room.specs.Events.{Happens}
use Rattle.news_room.specs.declared.answers.Handled.{Handled}
use Rattle.news_room.specs.declared.room.Room.{Room}
use Rattle.news_room.proofs.Steps.{none_kept, nothing_given, given_given, given_failed, given_refused, failed_longer, refused_longer}
use Rattle.news_room.proofs.Appends.{after_none}
use Rattle.news_room.proofs.Going.{after_as, after_should, after_longer, after_then}
use Rattle.subscriber_import.specs.declared.line.Line.{Line}
use Rattle.subscriber_import.specs.declared.import.Imported.{Imported}
use Rattle.subscriber_import.specs.declared.rows.Stop.{Stop}
use Rattle.subscriber_import.specs.Fields.{Wanted, wanted_of, command_of}
use Rattle.subscriber_import.specs.Table.{Row}
use Rattle.subscriber_import.specs.Import.{asked, added_by, told_as, line_by, imported, lines, added, behind}
use Rattle.subscriber_import.specs.Steps.{next_of, RowStep, line_of, expected_of, expected_in, NumberStep, HasStopped, ImportStep, HasNoHead, Imports, stopped_by, is_stop_fault, is_import_fault}
use Rattle.subscriber_import.proofs.Imports.{added_is_imported}

-- ---- whether a subscriber is there

pub is_known : (h : History) (s subscriber : Bytes) (count : ℕ) (rows : List FeedRow) (frames : Bytes → ℕ → Bytes) (after : ℕ) → answer.Feed subscriber count rows ≡ query_answer frames h (query.Feed s after) → true ≡ is_subscriber h s
is_known h s subscriber count rows frames after is = by (is_subscriber h s) is
  where
    by : (b : Bool) → answer.Feed subscriber count rows ≡ cond b (feed_answer h s after) (answer.Unknown thing.Subscriber) → true ≡ b
    by true is = refl
    by false is = absurd (cc (is))

pub is_unknown : (h : History) (s : Bytes) (told : Answer) (frames : Bytes → ℕ → Bytes) (after : ℕ) → ((subscriber : Bytes) (count : ℕ) (rows : List FeedRow) → told ≡ answer.Feed subscriber count rows → ⊥)
    → told ≡ query_answer frames h (query.Feed s after) → false ≡ is_subscriber h s
is_unknown h s told frames after never is = by (is_subscriber h s) is
  where
    by : (b : Bool) → told ≡ cond b (feed_answer h s after) (answer.Unknown thing.Subscriber) → false ≡ b
    by true is = absurd (never _ _ _ is)
    by false is = refl

-- ---- the next number

zero_denied : (h : History) (caller : Bytes) (m : ℕ) → request_at h caller 0 StopCommand m ≡ refused (OutOfTurn (last_number h caller + 1))
zero_denied h caller m = refl

denial_is : (c d : Denial) → Denied c ≡ Denied d → c ≡ d
denial_is c d same = cc

some_number : (a b : ℕ) → Some (Some a) ≡ Some (Some b) → b ≡ a
some_number a b same = cc

none_kept_of : (n : Beside) (more : List Entry) → Given n LIMIT [] more → Whole n [] []
none_kept_of n more given = record { is = refl; calm = given.whole.calm; grown = given.whole.grown ∙ ap (λ (l : List Entry). n.used + sizes l) given.whole.is }

whole_none : (n : Beside) (more : List Entry) → Whole n [] more → Whole n [] []
whole_none n more whole = record { is = refl; calm = whole.calm; grown = whole.grown ∙ ap (λ (l : List Entry). n.used + sizes l) whole.is }

none_cons : (e : Entry) (xs ys : List Entry) → [] ≡ xs ++ e ∷ ys → ⊥
none_cons e [] ys is = cc
none_cons e (x ∷ xs) ys is = cc

module _ {K : Type 0} (keeper : KeeperMeaning K) where
  -- nothing was kept, and the call has not failed
  after_nothing : (old new : Room K) (b : Book) (more : List Entry) (S T : Type 0) → After keeper old new b [] more false S → more ≡ [] → T → After keeper old new b [] [] false T
  after_nothing old new b more S T a none step = subst (λ (m : List Entry). After keeper old new b [] m false T) none (after_as keeper old new b [] more false S T a step)

  -- what such an answer says of the next number
  module _ (old new : Room K) (b : Book) (more : List Entry) (caller : Bytes) (now : ℕ) where
    abbrev Zero : Handled → Type 0
    Zero handled = Happens keeper old new b more (Requested caller 0 StopCommand) now (said handled) (RequestStep (numbers keeper old new) b now caller 0 StopCommand more handled)

    counted : (number : Option ℕ) (denial : Denial) → Zero (Handled.Denied denial) → expected_of denial ≡ Some number → After keeper old new b [] [] false (NumberStep (numbers keeper old new) b.list caller number)
    counted number denial h is =
        by number (ap expected_of (denial_is (OutOfTurn (last_number b.list caller + 1)) denial h.step.0) ∙ is)
      where
        by : (number : Option ℕ) → expected_of (OutOfTurn (last_number b.list caller + 1)) ≡ Some number → After keeper old new b [] [] false (NumberStep (numbers keeper old new) b.list caller number)
        by None is = absurd (cc (is))
        by (Some n) is =
            after_nothing old new b more (RequestStep (numbers keeper old new) b now caller 0 StopCommand more (Handled.Denied denial)) (NumberStep (numbers keeper old new) b.list caller (Some n))
            (record { stands = h.stands; did = h.step; told = h.told }) h.step.1.whole.is (some_number (last_number b.list caller + 1) n is, none_kept_of (numbers keeper old new) more h.step.1)

    starved : (number : Option ℕ) → Zero Handled.Memory → Some None ≡ Some number → After keeper old new b [] [] false (NumberStep (numbers keeper old new) b.list caller number)
    starved (Some n) h is = absurd (cc (is))
    starved None h is =
        after_nothing old new b more (RequestStep (numbers keeper old new) b now caller 0 StopCommand more Handled.Memory) (NumberStep (numbers keeper old new) b.list caller None)
        (record { stands = h.stands; did = h.step; told = h.told }) h.step.is (whole_none (numbers keeper old new) more h.step)

    pub number_after : (number : Option ℕ) (handled : Handled) → Zero handled → expected_in handled ≡ Some number → After keeper old new b [] [] false (NumberStep (numbers keeper old new) b.list caller number)
    number_after number (Handled.Denied denial) h is = counted number denial h is
    number_after number Handled.Memory h is = starved number h is
    number_after number (Handled.Done reply) h is = absurd (cc (is))
    number_after number (Handled.Repeat reply) h is = absurd (cc (is))
    number_after number Handled.Fault h is = absurd (cc (is))
    number_after number (Handled.Full size count) h is = absurd (cc (is))

    -- there is one
    pub number_there : (handled : Handled) → Zero handled → expected_in handled ≡ None → ⊥
    number_there (Handled.Denied denial) h is = no_number (sym (ap expected_of (denial_is (OutOfTurn (last_number b.list caller + 1)) denial h.step.0))) is
      where
        no_number : expected_of denial ≡ Some (Some (last_number b.list caller + 1)) → expected_of denial ≡ None → ⊥
        no_number some none = cc
    number_there Handled.Memory h is = cc (is)
    number_there (Handled.Done reply) h is = cc (h.step.0)
    number_there (Handled.Repeat reply) h is = cc (h.step.0)
    number_there Handled.Fault h is = none_cons h.step.next more h.step.rest h.step.is
    number_there (Handled.Full size count) h is = none_cons h.step.next more h.step.rest h.step.is

  -- ---- one request

  -- nothing was asked of the room
  pub quiet : (r : Room K) (b : Book) (should : List Entry) (T : Type 0) → Stands keeper r b → T → After keeper r r b should [] false T
  quiet r b should T stands step = after_none keeper r r b should T refl stands refl stands.machine_for step

  pub bad_row : (r : Room K) (b : Book) (caller : Bytes) (now : ℕ) (wanted : Option Wanted) → Stands keeper r b → None ≡ wanted
      → After keeper r r b (next_of b.list caller now wanted) [] false (RowStep (numbers keeper r r) b.list caller now wanted [] (Ok Line.Bad))
  bad_row r b caller now wanted stands is =
      subst (λ (o : Option Wanted). After keeper r r b (next_of b.list caller now o) [] false (RowStep (numbers keeper r r) b.list caller now o [] (Ok Line.Bad))) is
      (quiet r b [] (RowStep (numbers keeper r r) b.list caller now None [] (Ok Line.Bad)) stands (refl, nothing_given (numbers keeper r r) LIMIT [] refl refl refl))

  pub there_row : (r : Room K) (b : Book) (caller : Bytes) (now : ℕ) (w : Wanted) → Stands keeper r b → true ≡ is_subscriber b.list w.subscriber
      → After keeper r r b (next_of b.list caller now (Some w)) [] false (RowStep (numbers keeper r r) b.list caller now (Some w) [] (Ok Line.There))
  there_row r b caller now w stands there =
      let o = (asked b.list caller now w).more in
      let told = told_as (asked b.list caller now w).answer in
      quiet r b (next_of b.list caller now (Some w)) (RowStep (numbers keeper r r) b.list caller now (Some w) [] (Ok Line.There)) stands
      (ap (λ (t : Bool). cond t Line.There told) there, nothing_given (numbers keeper r r) LIMIT (next_of b.list caller now (Some w)) (ap (λ (t : Bool). entries (cond t None o)) (sym there)) refl refl)

  pub no_memory : (r : Room K) (b : Book) (caller : Bytes) (now : ℕ) (wanted : Option Wanted) → Stands keeper r b
      → After keeper r r b (next_of b.list caller now wanted) [] false (RowStep (numbers keeper r r) b.list caller now wanted [] (Err Stop.Memory))
  no_memory r b caller now wanted stands = quiet r b (next_of b.list caller now wanted) (RowStep (numbers keeper r r) b.list caller now wanted [] (Err Stop.Memory)) stands (none_kept (numbers keeper r r) refl refl)

given_of : (n : Beside) (limit : ℕ) → Whole n [] [] → Given n limit [] []
given_of n limit whole = record { whole = whole; within = tt }

whole_then : (f u g v k w : ℕ) (more : List Entry) → Whole (beside f u g v) [] [] → Whole (beside g v k w) [] more → Whole (beside f u k w) [] more
whole_then f u g v k w more one two = record { is = two.is; calm = two.calm ∙ one.calm; grown = omega (arith, one.grown, two.grown) }

-- what was answered, behind a call that kept nothing
answers_then : (f u g v k w : ℕ) (more : List Entry) (o : Outcome Answered) (handled : Handled) → Whole (beside f u g v) [] [] → Answers (beside g v k w) more o handled → Answers (beside f u k w) more o handled
answers_then f u g v k w more o (Handled.Done reply) one two =
    let limit : ℕ = limit_for (entries o.more) in (two.0, given_given f u g v k w limit [] (entries o.more) [] more (given_of (beside f u g v) limit one) two.1)
answers_then f u g v k w more o (Handled.Repeat reply) one two =
    let limit : ℕ = limit_for (entries o.more) in (two.0, given_given f u g v k w limit [] (entries o.more) [] more (given_of (beside f u g v) limit one) two.1)
answers_then f u g v k w more o (Handled.Denied denial) one two =
    let limit : ℕ = limit_for (entries o.more) in (two.0, given_given f u g v k w limit [] (entries o.more) [] more (given_of (beside f u g v) limit one) two.1)
answers_then f u g v k w more o Handled.Fault one two =
    let limit : ℕ = limit_for (entries o.more) in given_failed f u g v k w limit [] (entries o.more) [] more (given_of (beside f u g v) limit one) two
answers_then f u g v k w more o (Handled.Full size count) one two =
    let limit : ℕ = limit_for (entries o.more) in given_refused f u g v k w limit [] (entries o.more) [] more size count (given_of (beside f u g v) limit one) two
answers_then f u g v k w more o Handled.Memory one two = whole_then f u g v k w more one two

-- what follows such a request is no stop and no halt
kept_limit : (d : Option Denial) (o : Outcome Answered) → limit_for (entries o.more) ≡ LIMIT → limit_for (entries (kept_unless d o).more) ≡ LIMIT
kept_limit None o is = is
kept_limit (Some reason) o is = refl

repeat_limit : (b : Bool) (reply : Reply) (o : Outcome Answered) → limit_for (entries o.more) ≡ LIMIT → limit_for (entries (cond b (record { answer = Repeat reply; more = None }) o).more) ≡ LIMIT
repeat_limit true reply o is = refl
repeat_limit false reply o is = is

asked_limit : (h : History) (caller : Bytes) (now : ℕ) (w : Wanted) → limit_for (entries (asked h caller now w).more) ≡ LIMIT
asked_limit h caller now w =
    let number : ℕ = last_number h caller + 1 in
    let command : Command = command_of w in
    let m : ℕ = moment_at h now in
    let all : Outcome Answered = kept h m (Request caller number command) in
    let judged : Outcome Answered = kept_unless (command_denial h caller command m) all in
    let again : Outcome Answered = record { answer = Repeat (last_reply h caller); more = None } in
    kept_limit (turn_denial (last h caller) number command) (cond (is_repeat (last h caller) number command) again judged)
    (repeat_limit (is_repeat (last h caller) number command) (last_reply h caller) judged (kept_limit (command_denial h caller command m) all refl))

-- of a subscriber that is not there
module _ (n : Beside) (h : History) (caller : Bytes) (now : ℕ) (w : Wanted) (more : List Entry) (new : is_subscriber h w.subscriber ≡ false) where
  next_is : entries (asked h caller now w).more ≡ next_of h caller now (Some w)
  next_is = ap (λ (b : Bool). entries (cond b None (asked h caller now w).more)) (sym new)

  line_is : (a : Answered) → (asked h caller now w).answer ≡ a → told_as a ≡ line_by h caller now (Some w)
  line_is a is = ap told_as (sym is) ∙ ap (λ (b : Bool). cond b Line.There (told_as (asked h caller now w).answer)) (sym new)

  limit_is : limit_for (entries (asked h caller now w).more) ≡ LIMIT
  limit_is = asked_limit h caller now w

  given_is : Given n (limit_for (entries (asked h caller now w).more)) (entries (asked h caller now w).more) more → Given n LIMIT (next_of h caller now (Some w)) more
  given_is given = subst (λ (l : List Entry). Given n LIMIT l more) next_is (subst (λ (k : ℕ). Given n k (entries (asked h caller now w).more) more) limit_is given)

  asked_line : (handled : Handled) → Answers n more (asked h caller now w) handled → RowStep n h caller now (Some w) more (line_of handled)
  asked_line (Handled.Done reply) step = (line_is (Done reply) step.0, given_is step.1)
  asked_line (Handled.Repeat reply) step = (line_is (Repeat reply) step.0, given_is step.1)
  asked_line (Handled.Denied denial) step = (line_is (Denied denial) step.0, given_is step.1)
  asked_line Handled.Fault step = subst (λ (l : List Entry). Failed n LIMIT l more) next_is (subst (λ (k : ℕ). Failed n k (entries (asked h caller now w).more) more) limit_is step)
  asked_line (Handled.Full size count) step =
      subst (λ (l : List Entry). Refused n LIMIT l more size count) next_is (subst (λ (k : ℕ). Refused n k (entries (asked h caller now w).more) more size count) limit_is step)
  asked_line Handled.Memory step = step

fault_same : (handled : Handled) → is_failure (said handled) ≡ is_stop_fault (line_of handled)
fault_same (Handled.Done reply) = refl
fault_same (Handled.Repeat reply) = refl
fault_same (Handled.Denied denial) = refl
fault_same Handled.Fault = refl
fault_same (Handled.Full size count) = refl
fault_same Handled.Memory = refl

module _ {K : Type 0} (keeper : KeeperMeaning K) where
  pub asked_told : (old mid new : Room K) (b : Book) (caller : Bytes) (now number : ℕ) (w : Wanted) (more : List Entry) (handled : Handled) → is_subscriber b.list w.subscriber ≡ false
      → After keeper old mid b [] [] false (NumberStep (numbers keeper old mid) b.list caller (Some number))
      → Happens keeper mid new b more (Requested caller number (command_of w)) now (said handled) (RequestStep (numbers keeper mid new) b now caller number (command_of w) more handled)
      → After keeper old new b (next_of b.list caller now (Some w)) more (is_stop_fault (line_of handled)) (RowStep (numbers keeper old new) b.list caller now (Some w) more (line_of handled))
  asked_told old mid new b caller now number w more handled new_one one two =
      let h : History = b.list in
      let m : ℕ = moment_at h now in
      let S : Type 0 = NumberStep (numbers keeper old mid) h caller (Some number) in
      let U : Type 0 = RequestStep (numbers keeper mid new) b now caller number (command_of w) more handled in
      let T : Type 0 = RowStep (numbers keeper old new) h caller now (Some w) more (line_of handled) in
      let said_number : request h caller number (command_of w) now ≡ asked h caller now w = ap (λ (k : ℕ). request h caller k (command_of w) now) one.did.0 in
      let answers = subst (λ (o : Outcome Answered). Answers (numbers keeper mid new) more o handled) said_number two.step in
      let step : T =
      asked_line (numbers keeper old new) h caller now w more new_one handled
      (answers_then (keeper.faults old.keeper) (keeper.used old.keeper) (keeper.faults mid.keeper) (keeper.used mid.keeper) (keeper.faults new.keeper) (keeper.used new.keeper) more (asked h caller now w) handled one.did.1 answers) in
      let a : After keeper mid new b (entries (request h caller number (command_of w) now).more) more (is_failure (said handled)) U = record { stands = two.stands; did = two.step; told = two.told } in
      let both = after_then keeper old mid new b [] (entries (request h caller number (command_of w) now).more) [] more (is_failure (said handled)) S U T refl one a step in
      let should : entries (request h caller number (command_of w) now).more ≡ next_of h caller now (Some w) =
      ap (λ (o : Outcome Answered). entries o.more) said_number ∙ next_is (numbers keeper old new) h caller now w more new_one in
      subst (λ (f : Bool). After keeper old new b (next_of h caller now (Some w)) more f T) (fault_same handled)
      (after_should keeper old new b (entries (request h caller number (command_of w) now).more) (next_of h caller now (Some w)) more (is_failure (said handled)) T T should both step)

  -- there was no memory for the number
  pub number_lost : (old new : Room K) (b : Book) (caller : Bytes) (now : ℕ) (wanted : Option Wanted) (S : Type 0) → After keeper old new b [] [] false S → Whole (numbers keeper old new) [] []
      → After keeper old new b (next_of b.list caller now wanted) [] false (RowStep (numbers keeper old new) b.list caller now wanted [] (Err Stop.Memory))
  number_lost old new b caller now wanted S a whole =
      after_longer keeper old new b [] (next_of b.list caller now wanted) [] false S (RowStep (numbers keeper old new) b.list caller now wanted [] (Err Stop.Memory)) a whole

-- ---- some records, and more behind them

pub imported_append : (h : History) (caller : Bytes) (now : ℕ) (xs ys : List Row) → imported h caller now (xs ++ ys) ≡ imported (imported h caller now xs) caller now ys
imported_append h caller now [] ys = refl
imported_append h caller now (x ∷ xs) ys = imported_append (behind h caller now x) caller now xs ys

pub added_append : (h : History) (caller : Bytes) (now : ℕ) (xs ys : List Row) → added h caller now (xs ++ ys) ≡ added h caller now xs ++ added (imported h caller now xs) caller now ys
added_append h caller now [] ys = refl
added_append h caller now (x ∷ xs) ys =
    ap (λ (l : List Entry). entries (added_by h caller now (wanted_of x)) ++ l) (added_append (behind h caller now x) caller now xs ys)
    ∙ sym (append_assoc (entries (added_by h caller now (wanted_of x))) (added (behind h caller now x) caller now xs) (added (imported (behind h caller now x) caller now xs) caller now ys))

pub lines_append : (h : History) (caller : Bytes) (now : ℕ) (xs ys : List Row) → lines h caller now (xs ++ ys) ≡ lines h caller now xs ++ lines (imported h caller now xs) caller now ys
lines_append h caller now [] ys = refl
lines_append h caller now (x ∷ xs) ys = ap (λ (l : List Line). line_by h caller now (wanted_of x) ∷ l) (lines_append (behind h caller now x) caller now xs ys)

added_one : (h : History) (caller : Bytes) (now : ℕ) (row : Row) → added h caller now (row ∷ []) ≡ next_of h caller now (wanted_of row)
added_one h caller now row = append-nil (entries (added_by h caller now (wanted_of row)))

-- of one entry, none before it was kept
none_first : (o : Option Entry) (more : List Entry) (next : Entry) (rest : List Entry) → entries o ≡ more ++ next ∷ rest → more ≡ []
none_first o [] next rest is = refl
none_first None (e ∷ more) next rest is = absurd (cc (is))
none_first (Some x) (e ∷ more) next rest is = absurd (none_cons next more rest (tail_of x e (more ++ next ∷ rest) is))
  where
    tail_of : (x e : Entry) (l : List Entry) → x ∷ [] ≡ e ∷ l → [] ≡ l
    tail_of x e l same = cc

module _ {K : Type 0} (keeper : KeeperMeaning K) (caller : Bytes) (now : ℕ) where
  -- these records were gone through, from one room to another
  pub record Gone (old new : Room K) (b : Book) (rows : List Row) (more : List Entry) (told : List Line) : Type 0 where
    pub after : After keeper old new b (added b.list caller now rows) more false (Given (numbers keeper old new) LIMIT (added b.list caller now rows) more)
    pub told_is : told ≡ lines b.list caller now rows

  pub none_gone : (r : Room K) (b : Book) (told : List Line) → Stands keeper r b → told ≡ [] → Gone r r b [] [] told
  none_gone r b told stands none = record {
    after = quiet keeper r b [] (Given (numbers keeper r r) LIMIT [] []) stands (nothing_given (numbers keeper r r) LIMIT [] refl refl refl);
    told_is = none;
  }

  pub gone_stands : (old new : Room K) (b : Book) (rows : List Row) (more : List Entry) (told : List Line) → Gone old new b rows more told → (d : Book) × Stands keeper new d
  gone_stands old new b rows more told gone = (onto more b, gone.after.stands)

  -- the next record, by the room behind these
  abbrev pub Next : Room K → Room K → Book → List Entry → Row → List Entry → Result Line Stop → Type 0
  Next mid new b more row found r =
      After keeper mid new (onto more b) (next_of (followed_by more b.list) caller now (wanted_of row)) found (is_stop_fault r) (RowStep (numbers keeper mid new) (followed_by more b.list) caller now (wanted_of row) found r)

  module _ (old mid new : Room K) (b : Book) (before : List Row) (more : List Entry) (told : List Line) (gone : Gone old mid b before more told) (row : Row) (found : List Entry) where
    g : History
    g = followed_by more b.list

    g_is : followed_by more b.list ≡ imported b.list caller now before
    g_is = ap (λ (l : List Entry). followed_by l b.list) gone.after.did.whole.is ∙ added_is_imported b.list caller now before

    should_is : added b.list caller now before ++ next_of (followed_by more b.list) caller now (wanted_of row) ≡ added b.list caller now (before ++ row ∷ [])
    should_is =
        ap (λ (h : History). added b.list caller now before ++ next_of h caller now (wanted_of row)) g_is
        ∙ ap (λ (l : List Entry). added b.list caller now before ++ l) (sym (added_one (imported b.list caller now before) caller now row))
        ∙ sym (added_append b.list caller now before (row ∷ []))

    line_told : lines b.list caller now before ++ line_by (followed_by more b.list) caller now (wanted_of row) ∷ [] ≡ lines b.list caller now (before ++ row ∷ [])
    line_told =
        ap (λ (h : History). lines b.list caller now before ++ line_by h caller now (wanted_of row) ∷ []) g_is
        ∙ sym (lines_append b.list caller now before (row ∷ []))

    given_both : Given (numbers keeper mid new) LIMIT (next_of (followed_by more b.list) caller now (wanted_of row)) found → Given (numbers keeper old new) LIMIT (added b.list caller now (before ++ row ∷ [])) (more ++ found)
    given_both given =
        subst (λ (l : List Entry). Given (numbers keeper old new) LIMIT l (more ++ found)) should_is
        (given_given (keeper.faults old.keeper) (keeper.used old.keeper) (keeper.faults mid.keeper) (keeper.used mid.keeper) (keeper.faults new.keeper) (keeper.used new.keeper) LIMIT
        (added b.list caller now before) (next_of (followed_by more b.list) caller now (wanted_of row)) more found gone.after.did given)

    -- both calls
    both : (failed : Bool) (U T : Type 0) → After keeper mid new (onto more b) (next_of (followed_by more b.list) caller now (wanted_of row)) found failed U → T → After keeper old new b (added b.list caller now (before ++ row ∷ [])) (more ++ found) failed T
    both failed U T two step =
        let l : List Entry = added b.list caller now before in
        let k : List Entry = next_of (followed_by more b.list) caller now (wanted_of row) in
        let S : Type 0 = Given (numbers keeper old mid) LIMIT l more in
        after_should keeper old new b (l ++ k) (added b.list caller now (before ++ row ∷ [])) (more ++ found) failed T T should_is
        (after_then keeper old mid new b l k more found failed S U T gone.after.did.whole.is gone.after two step) step

    pub gone_next : (line : Line) → Next mid new b more row found (Ok line) → Gone old new b (before ++ row ∷ []) (more ++ found) (told ++ line ∷ [])
    gone_next line two = record {
      after = both false (RowStep (numbers keeper mid new) (followed_by more b.list) caller now (wanted_of row) found (Ok line)) (Given (numbers keeper old new) LIMIT (added b.list caller now (before ++ row ∷ [])) (more ++ found)) two (given_both two.did.1);
      told_is =
          ap (λ (l : List Line). l ++ line ∷ []) gone.told_is ∙ ap (λ (x : Line). lines b.list caller now before ++ x ∷ []) two.did.0 ∙ line_told;
    }

    -- where all rows are these, the next and others
    module _ (rest : List Row) where
      all_is : (before ++ row ∷ []) ++ rest ≡ before ++ row ∷ rest
      all_is = append_assoc before (row ∷ []) rest

      more_is : added b.list caller now (before ++ row ∷ []) ++ added (imported b.list caller now (before ++ row ∷ [])) caller now rest ≡ added b.list caller now (before ++ row ∷ rest)
      more_is = sym (added_append b.list caller now (before ++ row ∷ []) rest) ∙ ap (added b.list caller now) all_is

      -- nothing of the next was kept
      stopped : found ≡ [] → HasStopped (numbers keeper old new) b.list caller now (before ++ row ∷ rest) (more ++ found)
      stopped none = record {
        before = before;
        rest = row ∷ rest;
        are = refl;
        kept = ap (λ (l : List Entry). more ++ l) none ∙ append-nil more ∙ gone.after.did.whole.is;
      }

      longer : (failed : Bool) (U T : Type 0) → After keeper mid new (onto more b) (next_of (followed_by more b.list) caller now (wanted_of row)) found failed U → T → After keeper old new b (added b.list caller now (before ++ row ∷ rest)) (more ++ found) failed T
      longer failed U T two step =
          let l : List Entry = added b.list caller now (before ++ row ∷ []) in
          let k : List Entry = added (imported b.list caller now (before ++ row ∷ [])) caller now rest in
          after_should keeper old new b (l ++ k) (added b.list caller now (before ++ row ∷ rest)) (more ++ found) failed T T more_is
          (after_longer keeper old new b l k (more ++ found) failed T T (both failed U T two step) step) step

      pub gone_fault : Next mid new b more row found (Err Stop.Fault)
          → After keeper old new b (added b.list caller now (before ++ row ∷ rest)) (more ++ found) true (ImportStep (numbers keeper old new) b.list caller now (before ++ row ∷ rest) (more ++ found) Imported.Fault)
      gone_fault two =
          let k : List Entry = next_of (followed_by more b.list) caller now (wanted_of row) in
          let failed = given_failed (keeper.faults old.keeper) (keeper.used old.keeper) (keeper.faults mid.keeper) (keeper.used mid.keeper) (keeper.faults new.keeper) (keeper.used new.keeper) LIMIT (added b.list caller now before) k more found gone.after.did two.did in
          let all = subst (λ (l : List Entry). Failed (numbers keeper old new) LIMIT l (more ++ found)) should_is failed in
          let step : ImportStep (numbers keeper old new) b.list caller now (before ++ row ∷ rest) (more ++ found) Imported.Fault = (
            stopped (none_first (added_by (followed_by more b.list) caller now (wanted_of row)) found two.did.next two.did.rest two.did.is),
            subst (λ (l : List Entry). Failed (numbers keeper old new) LIMIT l (more ++ found)) more_is
                (failed_longer (numbers keeper old new) LIMIT (added b.list caller now (before ++ row ∷ [])) (added (imported b.list caller now (before ++ row ∷ [])) caller now rest) (more ++ found) all),
          ) in
          longer true (RowStep (numbers keeper mid new) (followed_by more b.list) caller now (wanted_of row) found (Err Stop.Fault)) (ImportStep (numbers keeper old new) b.list caller now (before ++ row ∷ rest) (more ++ found) Imported.Fault) two step

      pub gone_full : (size count : ℕ) → Next mid new b more row found (Err (Stop.Full size count))
          → After keeper old new b (added b.list caller now (before ++ row ∷ rest)) (more ++ found) false (ImportStep (numbers keeper old new) b.list caller now (before ++ row ∷ rest) (more ++ found) (Imported.Full size count))
      gone_full size count two =
          let k : List Entry = next_of (followed_by more b.list) caller now (wanted_of row) in
          let refused_one = given_refused (keeper.faults old.keeper) (keeper.used old.keeper) (keeper.faults mid.keeper) (keeper.used mid.keeper) (keeper.faults new.keeper) (keeper.used new.keeper) LIMIT (added b.list caller now before) k more found size count gone.after.did two.did in
          let all = subst (λ (l : List Entry). Refused (numbers keeper old new) LIMIT l (more ++ found) size count) should_is refused_one in
          let step : ImportStep (numbers keeper old new) b.list caller now (before ++ row ∷ rest) (more ++ found) (Imported.Full size count) = (
            stopped (none_first (added_by (followed_by more b.list) caller now (wanted_of row)) found two.did.next two.did.rest two.did.is),
            subst (λ (l : List Entry). Refused (numbers keeper old new) LIMIT l (more ++ found) size count) more_is
                (refused_longer (numbers keeper old new) LIMIT (added b.list caller now (before ++ row ∷ [])) (added (imported b.list caller now (before ++ row ∷ [])) caller now rest) (more ++ found) size count all),
          ) in
          longer false (RowStep (numbers keeper mid new) (followed_by more b.list) caller now (wanted_of row) found (Err (Stop.Full size count))) (ImportStep (numbers keeper old new) b.list caller now (before ++ row ∷ rest) (more ++ found) (Imported.Full size count)) two step

      pub gone_memory : Next mid new b more row found (Err Stop.Memory)
          → After keeper old new b (added b.list caller now (before ++ row ∷ rest)) (more ++ found) false (ImportStep (numbers keeper old new) b.list caller now (before ++ row ∷ rest) (more ++ found) Imported.Memory)
      unfolding stopped
      gone_memory two =
          let none = two.did.is in
          let given = given_given (keeper.faults old.keeper) (keeper.used old.keeper) (keeper.faults mid.keeper) (keeper.used mid.keeper) (keeper.faults new.keeper) (keeper.used new.keeper) LIMIT (added b.list caller now before) [] more found gone.after.did
          (nothing_kept (numbers keeper mid new) found two.did) in
          let step : ImportStep (numbers keeper old new) b.list caller now (before ++ row ∷ rest) (more ++ found) Imported.Memory = (stopped none, subst (λ (l : List Entry). Given (numbers keeper old new) LIMIT l (more ++ found)) (append-nil (added b.list caller now before)) given) in
          longer false (RowStep (numbers keeper mid new) (followed_by more b.list) caller now (wanted_of row) found (Err Stop.Memory)) (ImportStep (numbers keeper old new) b.list caller now (before ++ row ∷ rest) (more ++ found) Imported.Memory) two step
        where
          nothing_kept : (n : Beside) (found : List Entry) → Whole n [] found → Given n LIMIT [] found
          nothing_kept n found whole = record { whole = whole; within = subst (Within n LIMIT) (sym whole.is) tt }

  -- there was no memory for the line of the last of these
  pub gone_unsaid : (old new : Room K) (b : Book) (before rest : List Row) (more : List Entry) (told : List Line) → Gone old new b before more told
      → After keeper old new b (added b.list caller now (before ++ rest)) more false (ImportStep (numbers keeper old new) b.list caller now (before ++ rest) more Imported.Memory)
  gone_unsaid old new b before rest more told gone =
      let l : List Entry = added b.list caller now before in
      let k : List Entry = added (imported b.list caller now before) caller now rest in
      let T : Type 0 = ImportStep (numbers keeper old new) b.list caller now (before ++ rest) more Imported.Memory in
      let step : T = (record { before = before; rest = rest; are = refl; kept = gone.after.did.whole.is }, gone.after.did) in
      after_should keeper old new b (l ++ k) (added b.list caller now (before ++ rest)) more false T T (sym (added_append b.list caller now before rest))
      (after_longer keeper old new b l k more false (Given (numbers keeper old new) LIMIT l more) T gone.after step) step

  -- all were gone through
  pub gone_all : (old new : Room K) (b : Book) (rows : List Row) (more : List Entry) (told : List Line) → Gone old new b rows more told
      → After keeper old new b (added b.list caller now rows) more false (ImportStep (numbers keeper old new) b.list caller now rows more (Imported.Done told))
  gone_all old new b rows more told gone =
      after_as keeper old new b (added b.list caller now rows) more false (Given (numbers keeper old new) LIMIT (added b.list caller now rows) more)
      (ImportStep (numbers keeper old new) b.list caller now rows more (Imported.Done told)) gone.after (gone.told_is, gone.after.did)

  -- ---- a stop, and the whole table

  pub gone_stopped : (old mid new : Room K) (b : Book) (before : List Row) (more : List Entry) (told : List Line) → Gone old mid b before more told → (row : Row) (found : List Entry) (rest : List Row) (stop : Stop) → Next mid new b more row found (Err stop)
      → After keeper old new b (added b.list caller now (before ++ row ∷ rest)) (more ++ found) (is_import_fault (stopped_by stop)) (ImportStep (numbers keeper old new) b.list caller now (before ++ row ∷ rest) (more ++ found) (stopped_by stop))
  gone_stopped old mid new b before more told gone row found rest Stop.Fault two = gone_fault old mid new b before more told gone row found rest two
  gone_stopped old mid new b before more told gone row found rest (Stop.Full size count) two = gone_full old mid new b before more told gone row found rest size count two
  gone_stopped old mid new b before more told gone row found rest Stop.Memory two = gone_memory old mid new b before more told gone row found rest two

  -- there was no memory for the records
  pub none_imported : (r : Room K) (b : Book) (o : Option (List Row)) → Stands keeper r b → Imports keeper r r b caller now o [] Imported.Memory
  none_imported r b None stands = quiet keeper r b [] (HasNoHead (numbers keeper r r) [] Imported.Memory) stands (record { why = inr refl; none = none_kept (numbers keeper r r) refl refl })
  none_imported r b (Some rows) stands =
      quiet keeper r b (added b.list caller now rows) (ImportStep (numbers keeper r r) b.list caller now rows [] Imported.Memory) stands
      (record { before = []; rest = rows; are = refl; kept = refl }, nothing_given (numbers keeper r r) LIMIT [] refl refl refl)

  pub no_head : (r : Room K) (b : Book) (o : Option (List Row)) → Stands keeper r b → None ≡ o → Imports keeper r r b caller now o [] Imported.BadHead
  no_head r b o stands is =
      subst (λ (p : Option (List Row)). Imports keeper r r b caller now p [] Imported.BadHead) is
      (quiet keeper r b [] (HasNoHead (numbers keeper r r) [] Imported.BadHead) stands (record { why = inl refl; none = none_kept (numbers keeper r r) refl refl }))

-- ---- the records of a list

pub rows_are : {A B : Type 0} (f : A → B) (xs : List A) (i : ℕ) (x : A) → i < length xs → x ≡ get_or xs i x → map f (take i xs) ++ f x ∷ map f (drop (i + 1) xs) ≡ map f xs
rows_are f xs i x within is =
    ap (λ y. map f (take i xs) ++ f y ∷ map f (drop (i + 1) xs)) is
    ∙ sym (map-append f (take i xs) (get_or xs i x ∷ drop (i + 1) xs))
    ∙ ap (λ l. map f (take i xs ++ l)) (sym (at_drop_more (λ l. l) xs i x within))
    ∙ ap (map f) (take-append-drop i xs)

pub rows_next : {A B : Type 0} (f : A → B) (xs : List A) (i : ℕ) (x : A) → i < length xs → x ≡ get_or xs i x → map f (take (i + 1) xs) ≡ map f (take i xs) ++ f x ∷ []
rows_next f xs i x within is = ap (map f) (take_more xs i x within) ∙ map-append f (take i xs) (get_or xs i x ∷ []) ∙ ap (λ y. map f (take i xs) ++ f y ∷ []) (sym is)
