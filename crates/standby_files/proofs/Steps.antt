-- One record line is taken, and its reply written.
use Rattle.std.proofs.Common.{◌≡◌, ◌⊎◌, inl, inr, ℕ, ◌+◌, ◌-◌, ◌<◌, ◌≤◌, true, Bool, List, [], ◌∷◌, ◌++◌, length, take, drop, Result, Ok, Err, refl, sym, ◌∙◌, ap, subst, arith}
use Rattle.std.proofs.lemmas.List.{append-nil, take-append-drop, length-append}
use Rattle.std.specs.Prelude.{Option, Some, min, codes, decimal}
use Rattle.std.specs.Int.{w32, to_be_bytes}
use Rattle.news_types.specs.declared.entry.Entry.{Entry}
use Rattle.news_types.specs.Names.{Bytes}
use Rattle.news_types.specs.Doubt.{DoubtsAfter, payloads}
use Rattle.news_types.specs.Server.{Server, put}
use Rattle.news_io.specs.Keeper.{KeeperMeaning, KeeperGains, BeforeOrAfter}
use Rattle.news_io.specs.Sink.{AreFirst, SinkMeaning}
use Rattle.news_io.proofs.Pieces.{first_all}
use Rattle.news_io.proofs.Runs.{elapses_weaker}
use Rattle.news_journal.specs.Log.{records as log_bytes}
use Rattle.news_journal.specs.Read.{records_push, length-be}
use Rattle.news_room.proofs.Lists.{counted}
use Rattle.run_status.specs.Output.{Wrote, AllPassed}
use Rattle.run_status.proofs.Tellings.{wrote_none, wrote_is}
use Rattle.byte_formats.specs.Faults.{IsFaultAt}
use Rattle.entry_codec.specs.Spelling.{entry_bytes}
use Rattle.entry_codec.specs.Formed.{IsEntry}
use Rattle.byte_formats.specs.Gives.{all_of}
use Rattle.byte_formats.proofs.Laws.{ok_is}
use Rattle.byte_formats.proofs.Whole.{all_again, one_spelling}
use Rattle.record_lines.specs.Formats.{record_line}
use Rattle.record_lines.proofs.Written.{record_lawful}
use Rattle.record_lines.specs.Spelling.{Numbered, record_bytes, IsRecord, kept_bytes}
use Rattle.record_lines.specs.Reads.{AreRecord}
use Rattle.standby_laws.specs.Standby.{Reaction, Known, Ahead, Next, reaction}
use Rattle.room_standby.specs.Holds.{Followed, Holds, IsOfEntry}
use Rattle.room_standby.specs.Takes.{fate_of, IsTried, IsStep, FaultCounts, Uses}
use Rattle.room_standby.specs.declared.standby.Standby.{Standby}
use Rattle.room_standby.specs.declared.standby.Shipped.{Shipped}
use Rattle.room_standby.specs.declared.standby.Shipped.TheVariants as shipped
use Rattle.frame_run.specs.Answers.{CausedBy, ByLog}
use Rattle.frame_run.specs.declared.ending.Ending.{Ending}
use Rattle.frame_run.specs.declared.ending.Ending.TheVariants as end
use Rattle.standby_files.specs.Input.{HasNoEntry}
use Rattle.standby_files.specs.Answers.{outcome, kept_by, behind, reply_to, Copied, holding, Between, Stands, Kept, AnsweredAll, AnsweredSome, Answered, held_at, IsUnkept}

-- bytes are one record line at the most
same_record : (bytes : Bytes) (r s : Numbered) → AreRecord r bytes → AreRecord s bytes → r ≡ s
same_record bytes r s a b = one_spelling record_line IsRecord record_lawful r s a.form b.form (sym a.is ∙ b.is)

-- ---- where the payload of a record line begins

read_as : (bytes : Bytes) (r : Numbered) → AreRecord r bytes → all_of record_line bytes ≡ Ok r
read_as bytes r a = ap (all_of record_line) a.is ∙ all_again record_line IsRecord record_lawful r a.form

same_read : (r s : Numbered) (x : Result Numbered ℕ) → x ≡ Ok r → x ≡ Ok s → r ≡ s
same_read r s x is is' = ok_is r s (sym is ∙ is')

two_more : (w k n p : List ℕ) → length (w ++ (k ++ 32 ∷ (n ++ 10 ∷ p))) ≡ length w + length k + length n + length p + 2
two_more w k n p = simp length-append (omega arith)

-- the payload is the line's end
within_line : (r : Numbered) → length r.payload ≤ length (record_bytes r)
within_line r = omega (arith, two_more (codes "RECORD ") (decimal r.number) (decimal (length r.payload)) r.payload)

pub place_is : (bytes : Bytes) (r : Numbered) (number : ℕ) (payload : Bytes) → AreRecord r bytes → all_of record_line bytes ≡ Ok (record { number = number; payload = payload }) → (place : ℕ) → place ≡ length bytes - length payload
    → place + length r.payload ≡ length bytes
place_is bytes r number payload a read place is =
    let same : r ≡ record { number = number; payload = payload } = same_read r (record { number = number; payload = payload }) (all_of record_line bytes) (read_as bytes r a) read in
    omega (arith, is, within_line r, ap length a.is, ap (λ (x : Numbered). length x.payload) same)

pub no_fault : (bytes : Bytes) (r : Numbered) → AreRecord r bytes → (left : ℕ) → all_of record_line bytes ≡ Err left → ⊥
no_fault bytes r a left read = absurd (cc (sym (read_as bytes r a) ∙ read))

-- ---- what a standby stands for

pub told_list : {K : Type 0} (keeper : KeeperMeaning K) (r : Standby K) (b : Copied) → Stands keeper r b → b.told ≡ true → keeper.tells r.keeper × (keeper.list r.keeper ≡ b.held)
told_list keeper r b s told = let k = s.holds.kept told in (k.told, k.is ∙ s.are)

-- ---- what is had behind a record line

pub behind_next : (held : List Bytes) (r : Numbered) → reaction (length held) r.number ≡ Next → behind held r ≡ held ++ r.payload ∷ []
unfolding behind
behind_next held r is = ap (λ (t : Reaction). kept_by t held r.payload) is

pub behind_known : (held : List Bytes) (r : Numbered) → reaction (length held) r.number ≡ Known → behind held r ≡ held
unfolding behind
behind_known held r is = ap (λ (t : Reaction). kept_by t held r.payload) is

pub behind_ahead : (held : List Bytes) (r : Numbered) → reaction (length held) r.number ≡ Ahead → behind held r ≡ held
unfolding behind
behind_ahead held r is = ap (λ (t : Reaction). kept_by t held r.payload) is

-- a record more in a log
pub more_bytes : (held : List Bytes) (x : Bytes) → length (log_bytes (held ++ x ∷ [])) ≡ length (log_bytes held) + length x + 5
more_bytes held x =
    let frame = to_be_bytes w32 (length x) in
    omega (arith, ap length (records_push held x), length-append (log_bytes held) (1 ∷ frame ++ x), length-append frame x, length-be (length x))

-- ---- a crash in the course of it

between_of : (h g : List Bytes) (D D' : Bytes → Type 0) (before after : List Bytes) (found : Option (List Bytes)) → before ≡ h → after ≡ g → (more : List Bytes) × (g ≡ h ++ more)
    → BeforeOrAfter before D after D' found → Between h g D D' found
between_of h g D D' before after found is_before is_after more (inl left) = record {
  part = h;
  beyond = ([], sym (append-nil h));
  within = more;
  left = elim left [
    | inl all ↦ inl (subst (λ (l : List Bytes). found ≡ Some l) is_before all)
    | inr one ↦ inr (one.0, inl (refl, one.1), subst (λ (l : List Bytes). found ≡ Some (l ++ one.0 ∷ [])) is_before one.2)
  ];
}
between_of h g D D' before after found is_before is_after more (inr left) = record {
  part = g;
  beyond = more;
  within = ([], sym (append-nil g));
  left = elim left [
    | inl all ↦ inl (subst (λ (l : List Bytes). found ≡ Some l) is_after all)
    | inr one ↦ inr (one.0, inr (refl, one.1), subst (λ (l : List Bytes). found ≡ Some (l ++ one.0 ∷ [])) is_after one.2)
  ];
}

-- what a standby says of the line that it was given
pub record Took {K : Type 0} (keeper : KeeperMeaning K) (old new : Standby K) (bytes : Bytes) (answer : Shipped) : Type 0 where
  pub step : (c : Followed) → Holds keeper old c → (after : Followed) × Holds keeper new after × (after.told ≡ c.told) × IsStep c.standby bytes answer after.standby
  pub uses : (r : Numbered) → AreRecord r bytes → Uses (keeper.used old.keeper) (keeper.used new.keeper) (length r.payload) answer
  pub label : keeper.label new.keeper ≡ keeper.label old.keeper
  pub doubts : keeper.tells old.keeper → (r : Numbered) → AreRecord r bytes → DoubtsAfter (keeper.doubts old.keeper) (keeper.doubts new.keeper) r.payload (fate_of answer)
  pub crash : keeper.tells old.keeper → KeeperGains keeper old.keeper new.keeper (BeforeOrAfter (keeper.list old.keeper) (keeper.doubts old.keeper) (keeper.list new.keeper) (keeper.doubts new.keeper))

-- the record line was taken, and is to be answered
pub record Went {K : Type 0} (keeper : KeeperMeaning K) (old new : Standby K) (b : Copied) (r : Numbered) : Type 0 where
  pub kept : Kept keeper old new b (behind b.held r)
  pub calm : b.told ≡ true → (x : Bytes) → keeper.doubts new.keeper x → (behind b.held r ≡ b.held) × keeper.doubts old.keeper x

abbrev ends_by : Ending → Result (Unit {0}) Ending
ends_by why = Err why

same_end : (a b : Ending) → ends_by a ≡ ends_by b → a ≡ b
same_end a b is = cc

least : (m n : ℕ) → m ≤ n → min m n ≡ m
least m n le = omega (arith, le)

module _ {K : Type 0} (keeper : KeeperMeaning K) (old new : Standby K) (b : Copied) (h : Stands keeper old b) (r : Numbered) (bytes : Bytes) (a : AreRecord r bytes) where
  count_is : length b.held ≡ length h.server.list
  count_is = ap length (sym h.are) ∙ counted h.server.list

  -- how it reacts, by what was said of the line, whichever that is called
  reacts : (t : Reaction) (s : Numbered) → AreRecord s bytes → reaction (length h.server.list) s.number ≡ t → reaction (length b.held) r.number ≡ t
  reacts t s of is =
      ap (λ (n : ℕ). reaction n r.number) count_is ∙ ap (λ (x : Numbered). reaction (length h.server.list) x.number) (same_record bytes r s a of) ∙ is

  -- what it stands for, whatever became of the line
  stands_with : (now : List Bytes) (after : Followed) → Holds keeper new after → after.told ≡ b.told → payloads entry_bytes after.standby.list ≡ now → Stands keeper new (holding now b)
  stands_with now after holds told are = record {
    server = after.standby;
    holds = subst (λ (t : Bool). Holds keeper new (record { told = t; standby = after.standby })) told holds;
    are = are;
  }

  stands_on : (after : Followed) → Holds keeper new after → after.told ≡ b.told → after.standby ≡ h.server → Stands keeper new (holding b.held b)
  stands_on after holds told same = stands_with b.held after holds told (ap (λ (s : Server). payloads entry_bytes s.list) same ∙ h.are)

  kept_of : (answer : Shipped) → Took keeper old new bytes answer → (now more : List Bytes) → now ≡ b.held ++ more → Stands keeper new (holding now b)
      → keeper.used new.keeper + length (log_bytes b.held) ≡ keeper.used old.keeper + length (log_bytes now) → Kept keeper old new b now
  kept_of answer t now more is stands used = record {
    stands = stands;
    more = (more, is);
    used = used;
    label = t.label;
    time = λ told. elapses_weaker _ _ _ _ _ (Between b.held now (keeper.doubts old.keeper) (keeper.doubts new.keeper)) (t.crash (told_list keeper old b h told).0)
        (λ found left. between_of b.held now _ _ _ _ found (told_list keeper old b h told).1 (told_list keeper new (holding now b) stands told).1 (more, is) left);
  }

  -- one that is not the next
  went_on : (answer : Shipped) (t : Took keeper old new bytes answer) (after : Followed) → Holds keeper new after → after.told ≡ b.told → after.standby ≡ h.server → behind b.held r ≡ b.held
      → keeper.used new.keeper ≡ keeper.used old.keeper → (keeper.tells old.keeper → (x : Bytes) → keeper.doubts new.keeper x → keeper.doubts old.keeper x) → Went keeper old new b r
  went_on answer t after holds told same stays used doubts = record {
    kept = subst (λ (l : List Bytes). Kept keeper old new b l) (sym stays)
        (kept_of answer t b.held [] (sym (append-nil b.held)) (stands_on after holds told same) (ap (λ (n : ℕ). n + length (log_bytes b.held)) used));
    calm = λ is x d. (stays, doubts (told_list keeper old b h is).0 x d);
  }

  -- the next, which was tried: it is of an entry
  pub record Tried (answer : Shipped) : Type 0 where
    pub after : Followed
    pub holds : Holds keeper new after
    pub told : after.told ≡ b.told
    pub entry : Entry
    pub payload : r.payload ≡ entry_bytes entry
    pub fits : IsOfEntry r.payload
    pub next : behind b.held r ≡ b.held ++ r.payload ∷ []
    pub server : after.standby ≡ put h.server (Some entry) (fate_of answer)

  tried : (answer : Shipped) (after : Followed) → Holds keeper new after → after.told ≡ b.told → IsTried h.server bytes answer after.standby → Tried answer
  tried answer after holds told t =
      let n = t.2 in
      let same : r.payload ≡ entry_bytes t.1 = ap (λ (x : Numbered). x.payload) (same_record bytes r t.0 a n.is.0) ∙ n.payload in
      record {
        after = after;
        holds = holds;
        told = told;
        entry = t.1;
        payload = same;
        fits = (t.1, n.entry, same);
        next = behind_next b.held r (reacts Next t.0 n.is.0 n.is.1);
        server = t.3;
      }

  pub went : (head : ℕ) (answer : Shipped) (u : Unit {0}) → outcome head answer ≡ Ok u → Took keeper old new bytes answer → Went keeper old new b r
  went head (shipped.BadRecord at) u is t = let s = t.step (record { told = b.told; standby = h.server }) h.holds in absurd (s.3.0.none r a.form (sym a.is))
  went head (shipped.Known held) u is t =
      let s = t.step (record { told = b.told; standby = h.server }) h.holds in
      let l = s.3.0.0 in
      went_on (shipped.Known held) t s.0 s.1 s.2 s.3.1 (behind_known b.held r (reacts Known l.0 l.1.0 l.1.1)) (t.uses r a) (λ tells. t.doubts tells r a)
  went head (shipped.Ahead held) u is t =
      let s = t.step (record { told = b.told; standby = h.server }) h.holds in
      let l = s.3.0.0 in
      went_on (shipped.Ahead held) t s.0 s.1 s.2 s.3.1 (behind_ahead b.held r (reacts Ahead l.0 l.1.0 l.1.1)) (t.uses r a) (λ tells. t.doubts tells r a)
  went head (shipped.Accepted n) u is t =
      let s = t.step (record { told = b.told; standby = h.server }) h.holds in
      let y = tried (shipped.Accepted n) s.0 s.1 s.2 s.3.0 in
      let are : payloads entry_bytes y.after.standby.list ≡ b.held ++ r.payload ∷ [] =
      ap (λ (c : Server). payloads entry_bytes c.list) y.server ∙ ap (λ (l : List Bytes). l ++ entry_bytes y.entry ∷ []) h.are ∙ ap (λ (x : Bytes). b.held ++ x ∷ []) (sym y.payload) in
      record {
        kept = subst (λ (l : List Bytes). Kept keeper old new b l) (sym y.next)
            (kept_of (shipped.Accepted n) t (b.held ++ r.payload ∷ []) (r.payload ∷ []) refl (stands_with (b.held ++ r.payload ∷ []) y.after y.holds y.told are)
            (omega (arith, (t.uses r a).0, more_bytes b.held r.payload)));
        calm = λ told x d. absurd (t.doubts (told_list keeper old b h told).0 r a x d);
      }
  went head (shipped.NoEntry at) u is t = absurd cc
  went head shipped.Fault u is t = absurd cc
  went head (shipped.Full size count) u is t = absurd cc
  went head shipped.Memory u is t = absurd cc

  module _ {O : Type 0} (sink : SinkMeaning O) (o o' : O) where
    -- all of its reply was written and has passed on
    pub answered_all : Went keeper old new b r → Wrote sink o o' (reply_to b.held r) → (sink.tells o → AllPassed sink o') → AnsweredAll keeper sink old new o o' b (r ∷ [])
    answered_all w wrote passed = record {
      kept = w.kept;
      calm = w.calm;
      wrote = wrote_is sink o o' _ _ (sym (append-nil (reply_to b.held r))) wrote;
      passed = λ t all. passed t;
    }

    -- what was written before still has passed on
    first_passed : (sink.tells o → AreFirst (sink.passed o) (sink.passed o')) → sink.tells o → AllPassed sink o → AreFirst (sink.taken o ++ []) (sink.passed o')
    first_passed kept t all = subst (λ (l : List ℕ). AreFirst l (sink.passed o')) (all ∙ sym (append-nil (sink.taken o))) (kept t)

    -- the first of its reply
    pub answered_some : Went keeper old new b r → (n : ℕ) → Wrote sink o o' (take n (reply_to b.held r)) → (sink.tells o → AreFirst (sink.passed o) (sink.passed o')) → AnsweredSome keeper sink old new o o' b [] (record_bytes r) end.Write
    answered_some w n wrote passed = record {
      now = behind b.held r;
      said = take n (reply_to b.held r);
      next = inr (
        r,
        record {
          form = a.form;
          first = ([], sym (append-nil (record_bytes r)));
          list = refl;
          bytes = (drop n (reply_to b.held r), sym (take-append-drop n (reply_to b.held r)));
          unkept = λ log. absurd log;
          full = λ is. cc;
          doubt = λ x d. inl (w.calm d.0 x d.1);
        },
      );
      half = λ lt. refl;
      kept = w.kept;
      wrote = wrote;
      passed = first_passed passed;
    }

  module _ {O : Type 0} (sink : SinkMeaning O) (o : O) where
    -- the record is the next one, and is not kept
    stopped_by : (answer : Shipped) (why : Ending) (t : Took keeper old new bytes answer) (after : Followed) → Holds keeper new after → after.told ≡ b.told → payloads entry_bytes after.standby.list ≡ b.held
        → held_at why b.held (behind b.held r) ≡ b.held → keeper.used new.keeper ≡ keeper.used old.keeper
        → (why ≡ end.Full → 1073741824 < keeper.used new.keeper + length r.payload + 5)
        → (keeper.tells old.keeper → (x : Bytes) → keeper.doubts new.keeper x → keeper.doubts old.keeper x ⊎ ((why ≡ end.Store) × (x ≡ r.payload)))
        → (ByLog why → IsUnkept b.held r)
        → AnsweredSome keeper sink old new o o b [] (record_bytes r) why
    stopped_by answer why t after holds told are at used full doubts next = record {
      now = b.held;
      said = [];
      next = inr (
        r,
        record {
          form = a.form;
          first = ([], sym (append-nil (record_bytes r)));
          list = sym at;
          bytes = (reply_to b.held r, refl);
          unkept = next;
          full = full;
          doubt = λ x d. elim (doubts (told_list keeper old b h d.0).0 x d.1) [ inl was ↦ inl (refl, was) | inr now ↦ inr now ];
        },
      );
      half = λ lt. absurd (omega (arith, lt));
      kept = kept_of answer t b.held [] (sym (append-nil b.held)) (stands_with b.held after holds told are) (ap (λ (n : ℕ). n + length (log_bytes b.held)) used);
      wrote = wrote_none sink o;
      passed = first_passed sink o o (λ t. first_all (sink.passed o));
    }

    unkept_by : (answer : Shipped) → Tried answer → IsUnkept b.held r
    unkept_by answer y = record { next = y.next; entry = y.fits }

    pub stopped_fault : Took keeper old new bytes shipped.Fault → AnsweredSome keeper sink old new o o b [] (record_bytes r) end.Store
    stopped_fault t =
        let s = t.step (record { told = b.told; standby = h.server }) h.holds in
        let y = tried shipped.Fault s.0 s.1 s.2 s.3 in
        let are : payloads entry_bytes y.after.standby.list ≡ b.held = ap (λ (c : Server). payloads entry_bytes c.list) y.server ∙ h.are in
        stopped_by shipped.Fault end.Store t y.after y.holds y.told are refl (t.uses r a).0 (λ is. cc)
        (λ tells x d. elim (t.doubts tells r a x d) [ inl was ↦ inl was | inr now ↦ inr (refl, now) ]) (λ log. unkept_by shipped.Fault y)

    pub stopped_full : (size count : ℕ) → Took keeper old new bytes (shipped.Full size count) → AnsweredSome keeper sink old new o o b [] (record_bytes r) end.Full
    stopped_full size count t =
        let s = t.step (record { told = b.told; standby = h.server }) h.holds in
        let y = tried (shipped.Full size count) s.0 s.1 s.2 s.3 in
        let are : payloads entry_bytes y.after.standby.list ≡ b.held = ap (λ (c : Server). payloads entry_bytes c.list) y.server ∙ h.are in
        let u = t.uses r a in
        stopped_by (shipped.Full size count) end.Full t y.after y.holds y.told are refl u.0 (λ is. omega (arith, u.0, u.1))
        (λ tells x d. inl (t.doubts tells r a x d)) (λ log. unkept_by (shipped.Full size count) y)

    pub stopped_memory : Took keeper old new bytes shipped.Memory → AnsweredSome keeper sink old new o o b [] (record_bytes r) end.Memory
    stopped_memory t =
        let s = t.step (record { told = b.told; standby = h.server }) h.holds in
        let are : payloads entry_bytes s.0.standby.list ≡ b.held = ap (λ (c : Server). payloads entry_bytes c.list) s.3.1 ∙ h.are in
        stopped_by shipped.Memory end.Memory t s.0 s.1 s.2 are refl (t.uses r a) (λ is. cc) (λ tells x d. inl (t.doubts tells r a x d)) (λ log. absurd log)

    -- the record is the next one, and its payload is no entry: nothing has changed
    module _ (head place : ℕ) (line : head + length r.payload ≡ place) (small : place < 18446744073709551616) where
      pub without_entry : (at : ℕ) → Took keeper old new bytes (shipped.NoEntry at) → HasNoEntry (length b.held) r place (min (head + at) 18446744073709551615) × AnsweredAll keeper sink old new o o b []
      without_entry at t =
          let s = t.step (record { told = b.told; standby = h.server }) h.holds in
          let l = s.3.0 in
          let same : l.0 ≡ r = same_record bytes l.0 r l.1.0 a in
          let fault = subst (λ (x : Numbered). IsFaultAt entry_bytes IsEntry x.payload at) same l.2 in
          let le : at ≤ length r.payload = fault.within in (
            record {
              next = reacts Next l.0 l.1.0 l.1.1;
              within = at;
              fault = fault;
              place = omega (arith, line, le, least (head + at) 18446744073709551615 (omega (arith, line, small, le)));
            },
            record {
              kept = kept_of (shipped.NoEntry at) t b.held [] (sym (append-nil b.held)) (stands_on s.0 s.1 s.2 s.3.1) (ap (λ (n : ℕ). n + length (log_bytes b.held)) (t.uses r a));
              calm = λ told x d. (refl, t.doubts (told_list keeper old b h told).0 r a x d);
              wrote = wrote_none sink o;
              passed = λ tells all. all;
            },
          )

      -- by what ends the run
      pub stopped : (answer : Shipped) (why : Ending) → outcome head answer ≡ Err why → Took keeper old new bytes answer → Answered keeper sink old new o o b r place (Err why)
      stopped shipped.Fault why is t = subst (λ (w : Ending). Answered keeper sink old new o o b r place (Err w)) (same_end end.Store why is) (tt, stopped_fault t)
      stopped (shipped.Full size count) why is t = subst (λ (w : Ending). Answered keeper sink old new o o b r place (Err w)) (same_end end.Full why is) (tt, stopped_full size count t)
      stopped shipped.Memory why is t = subst (λ (w : Ending). Answered keeper sink old new o o b r place (Err w)) (same_end end.Memory why is) (tt, stopped_memory t)
      stopped (shipped.NoEntry at) why is t =
          subst (λ (w : Ending). Answered keeper sink old new o o b r place (Err w)) (same_end (end.BadFrame (min (head + at) 18446744073709551615)) why is) (without_entry at t)
      stopped (shipped.BadRecord at) why is t = absurd cc
      stopped (shipped.Known held) why is t = absurd cc
      stopped (shipped.Ahead held) why is t = absurd cc
      stopped (shipped.Accepted n) why is t = absurd cc

-- ---- counts of faults

-- of a record line that ends the run
pub stop_causes : (old new head : ℕ) (answer : Shipped) (why : Ending) (o : ℕ) → outcome head answer ≡ Err why → FaultCounts old new answer → CausedBy old new o o why
stop_causes old new head shipped.Fault why o is n = subst (λ (w : Ending). CausedBy old new o o w) (same_end end.Store why is) (n.0, refl)
stop_causes old new head (shipped.Full size count) why o is n = subst (λ (w : Ending). CausedBy old new o o w) (same_end end.Full why is) (n, refl)
stop_causes old new head shipped.Memory why o is n = subst (λ (w : Ending). CausedBy old new o o w) (same_end end.Memory why is) (n, refl)
stop_causes old new head (shipped.NoEntry at) why o is n = subst (λ (w : Ending). CausedBy old new o o w) (same_end (end.BadFrame (min (head + at) 18446744073709551615)) why is) (n, refl)
stop_causes old new head (shipped.BadRecord at) why o is n = absurd cc
stop_causes old new head (shipped.Known held) why o is n = absurd cc
stop_causes old new head (shipped.Ahead held) why o is n = absurd cc
stop_causes old new head (shipped.Accepted k) why o is n = absurd cc

-- and of one that does not
pub calm_counts : (old new head : ℕ) (answer : Shipped) (u : Unit {0}) → outcome head answer ≡ Ok u → FaultCounts old new answer → new ≡ old
calm_counts old new head (shipped.BadRecord at) u is n = n
calm_counts old new head (shipped.Known held) u is n = n
calm_counts old new head (shipped.Ahead held) u is n = n
calm_counts old new head (shipped.Accepted k) u is n = n
calm_counts old new head (shipped.NoEntry at) u is n = absurd cc
calm_counts old new head shipped.Fault u is n = absurd cc
calm_counts old new head (shipped.Full size count) u is n = absurd cc
calm_counts old new head shipped.Memory u is n = absurd cc

-- ---- the reply

-- it says how many payloads there are
pub stands_count : {K : Type 0} (keeper : KeeperMeaning K) (r : Standby K) (b : Copied) → Stands keeper r b → (line : Bytes) → ((c : Followed) → Holds keeper r c → line ≡ kept_bytes (length c.standby.list)) → line ≡ kept_bytes (length b.held)
stands_count keeper r b s line says =
    says (record { told = b.told; standby = s.server }) s.holds ∙ ap kept_bytes (sym (counted s.server.list) ∙ ap length s.are)
