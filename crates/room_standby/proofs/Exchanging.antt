-- What passes over a link in one exchange, and in those behind one another.
use Rattle.std.proofs.Common.{◌≡◌, ◌≤◌, ◌<◌, ◌+◌, ℕ, List, [], ◌∷◌, ◌++◌, length, get_or, Ok, Err, refl, sym, ap, subst, ◌∙◌, arith, append_assoc, append-nil}
use Rattle.std.specs.Prelude.{Result}
use Rattle.std.proofs.lemmas.Option.{slice_get-get_or}
use Rattle.news_types.specs.Names.{Bytes}
use Rattle.news_io.specs.Link.{Passed, Sent, Said, Nothing, LinkMeaning, Goes}
use Rattle.news_io.specs.declared.record.Record.{Record}
use Rattle.record_lines.specs.Spelling.{record_bytes, kept_bytes}
use Rattle.room_standby.specs.declared.outcome.Ship.{Ship}
use Rattle.room_standby.specs.declared.outcome.Ship.TheVariants.{Level, LinkFault, NoKept, Memory}
use Rattle.room_standby.specs.Ships.{payload_of, Rise, behind, next_line, line_behind, lines, replies, passed, Unasked, Unread, Replied, last_lines, last_replies, last_passed, Passes, Ships, Exchanges, IsReply, IsNoKept}

-- the line that is sent is that of the record behind those that are kept
pub line_is : (records : List Record) (i : ℕ) (d : Record) (bytes : Bytes) → i < length records → bytes ≡ (get_or records i d).bytes → record_bytes (record { number = i + 1; payload = bytes }) ≡ line_behind records i
line_is records i d bytes lt same = ap (λ (p : Bytes). record_bytes (record { number = i + 1; payload = p })) (same ∙ sym (ap payload_of (slice_get-get_or records i d lt)))

goes_on : {L : Type 0} (link : LinkMeaning L) (old mid new : L) (first second : List Passed) → Goes link old mid first → Goes link mid new second → Goes link old new (first ++ second)
goes_on link old mid new [] second is rest = subst (λ l. Goes link l new second) is rest
goes_on link old mid new (p ∷ first) second went rest = (went.0, went.1, goes_on link went.0 mid new first second went.2 rest)

module _ {L : Type 0} (link : LinkMeaning L) where
  pub nothing_passed : (l : L) → link.tells l → Passes link l l [] [] []
  nothing_passed l told = record { tells = told; sent_is = sym (append-nil (link.sent l)); said_is = sym (append-nil (link.said l)); goes = refl }

  pub passes_on : (old mid new : L) (sent sent' said said' : List (Bytes × Bytes)) (went went' : List Passed) → Passes link old mid sent said went → Passes link mid new sent' said' went'
      → Passes link old new (sent ++ sent') (said ++ said') (went ++ went')
  passes_on old mid new sent sent' said said' went went' one two = record {
    tells = two.tells;
    sent_is = two.sent_is ∙ ap (λ (l : List (Bytes × Bytes)). l ++ sent') one.sent_is ∙ append_assoc (link.sent old) sent sent';
    said_is = two.said_is ∙ ap (λ (l : List (Bytes × Bytes)). l ++ said') one.said_is ∙ append_assoc (link.said old) said said';
    goes = goes_on link old mid new went went' one.goes two.goes;
  }

  -- a send, and what comes of it
  module _ (old mid : L) (name line : Bytes) (told : link.tells mid) (sent : link.sent mid ≡ link.sent old ++ (name, line) ∷ []) (said : link.said mid ≡ link.said old) (step : link.step old mid (Sent name line)) where
    pub sent_passes : Passes link old mid ((name, line) ∷ []) [] (Sent name line ∷ [])
    sent_passes = record { tells = told; sent_is = sent; said_is = said ∙ sym (append-nil (link.said old)); goes = (mid, step, refl) }

  pub said_passes : (mid new : L) (name reply : Bytes) → link.tells new → link.sent new ≡ link.sent mid → link.said new ≡ link.said mid ++ (name, reply) ∷ [] → link.step mid new (Said name reply)
      → Passes link mid new [] ((name, reply) ∷ []) (Said name reply ∷ [])
  said_passes mid new name reply told sent said step = record { tells = told; sent_is = sent ∙ sym (append-nil (link.sent mid)); said_is = said; goes = (new, step, refl) }

  pub failed_passes : (mid new : L) → link.tells new → link.sent new ≡ link.sent mid → link.said new ≡ link.said mid → link.step mid new Nothing → Passes link mid new [] [] (Nothing ∷ [])
  failed_passes mid new told sent said step = record { tells = told; sent_is = sent ∙ sym (append-nil (link.sent mid)); said_is = said ∙ sym (append-nil (link.said mid)); goes = (new, step, refl) }

  -- ---- one exchange

  module _ (old mid new : L) (records : List Record) (name : Bytes) (from : ℕ) (some : from < length records) (sent : link.tells old → Passes link old mid (next_line records name from ∷ []) [] (Sent name (line_behind records from) ∷ [])) where
    said_on : (reply : Bytes) → (link.tells mid → Passes link mid new [] ((name, reply) ∷ []) (Said name reply ∷ [])) → link.tells old
        → Passes link old new (next_line records name from ∷ []) ((name, reply) ∷ []) (Sent name (line_behind records from) ∷ Said name reply ∷ [])
    said_on reply said told =
        let one = sent told in
        passes_on old mid new (next_line records name from ∷ []) [] [] ((name, reply) ∷ []) (Sent name (line_behind records from) ∷ []) (Said name reply ∷ []) one (said one.tells)

    -- a reply was read
    pub replied : (reply : Bytes) (result : Result ℕ Ship) → (link.tells mid → Passes link mid new [] ((name, reply) ∷ []) (Said name reply ∷ [])) → IsReply (length records) (from + 1) reply result
        → Exchanges link old new records name from result
    replied reply (Ok c) said is =
        (omega (arith, is.0), is.1, λ told. subst (λ (r : Bytes). Passes link old new (next_line records name from ∷ []) ((name, r) ∷ []) (Sent name (line_behind records from) ∷ Said name r ∷ [])) is.2 (said_on reply said told))
    replied reply (Err (NoKept n line)) said is = (Replied reply, (some, is.0, is.1, subst (λ (m : ℕ). IsNoKept (length records) m reply) (sym is.0) is.2), said_on reply said)
    replied reply (Err (Level count)) said is = absurd is
    replied reply (Err (LinkFault n)) said is = absurd is
    replied reply (Err Memory) said is = absurd is

    -- none could be read
    pub unread : (link.tells mid → Passes link mid new [] [] (Nothing ∷ [])) → Exchanges link old new records name from (Err (LinkFault (from + 1)))
    unread failed = (
      Unread,
      (some, refl),
      λ told.
          let one = sent told in
          passes_on old mid new (next_line records name from ∷ []) [] [] [] (Sent name (line_behind records from) ∷ []) (Nothing ∷ []) one (failed one.tells),
    )

  -- ---- exchanges behind one another

  -- so many were kept behind the exchanges so far
  pub record SoFar (old new : L) (records : List Record) (name : Bytes) (kept : ℕ) : Type 0 where
    pub counts : List ℕ
    pub rise : Rise (length records) 0 counts
    pub kept_is : kept ≡ behind 0 counts
    pub passes : link.tells old → Passes link old new (lines records name 0 counts) (replies name counts) (passed records name 0 counts)

  module _ (records : List Record) (name : Bytes) where
    rise_on : (from : ℕ) (counts : List ℕ) (c : ℕ) → Rise (length records) from counts → behind from counts < c → c ≤ length records → Rise (length records) from (counts ++ c ∷ [])
    rise_on from [] c rise lt le = (lt, le, tt)
    rise_on from (d ∷ counts) c rise lt le = (rise.0, rise.1, rise_on d counts c rise.2 lt le)

    behind_on : (from : ℕ) (counts : List ℕ) (c : ℕ) → behind from (counts ++ c ∷ []) ≡ c
    behind_on from [] c = refl
    behind_on from (d ∷ counts) c = behind_on d counts c

    lines_on : (from : ℕ) (counts : List ℕ) (c : ℕ) → lines records name from (counts ++ c ∷ []) ≡ lines records name from counts ++ next_line records name (behind from counts) ∷ []
    lines_on from [] c = refl
    lines_on from (d ∷ counts) c = ap (λ (l : List (Bytes × Bytes)). next_line records name from ∷ l) (lines_on d counts c)

    replies_on : (counts : List ℕ) (c : ℕ) → replies name (counts ++ c ∷ []) ≡ replies name counts ++ (name, kept_bytes c) ∷ []
    replies_on [] c = refl
    replies_on (d ∷ counts) c = ap (λ (l : List (Bytes × Bytes)). (name, kept_bytes d) ∷ l) (replies_on counts c)

    passed_on : (from : ℕ) (counts : List ℕ) (c : ℕ)
        → passed records name from (counts ++ c ∷ []) ≡ passed records name from counts ++ Sent name (line_behind records (behind from counts)) ∷ Said name (kept_bytes c) ∷ []
    passed_on from [] c = refl
    passed_on from (d ∷ counts) c = ap (λ (l : List Passed). Sent name (line_behind records from) ∷ Said name (kept_bytes d) ∷ l) (passed_on d counts c)

    pub nothing_yet : (l : L) → SoFar l l records name 0
    nothing_yet l = record { counts = []; rise = tt; kept_is = refl; passes = λ told. nothing_passed l told }

    pub one_more : (old mid new : L) (kept c : ℕ) → SoFar old mid records name kept → Exchanges link mid new records name kept (Ok c) → SoFar old new records name c
    one_more old mid new kept c so_far e =
        let counts = so_far.counts in
        let here = subst (λ (k : ℕ). Exchanges link mid new records name k (Ok c)) so_far.kept_is e in
        record {
          counts = counts ++ c ∷ [];
          rise = rise_on 0 counts c so_far.rise here.0 here.1;
          kept_is = sym (behind_on 0 counts c);
          passes = λ tells.
              rw (lines_on 0 counts c, replies_on counts c, passed_on 0 counts c)
              (passes_on old mid new (lines records name 0 counts) (next_line records name (behind 0 counts) ∷ []) (replies name counts) ((name, kept_bytes c) ∷ []) (passed records name 0 counts)
              (Sent name (line_behind records (behind 0 counts)) ∷ Said name (kept_bytes c) ∷ []) (so_far.passes tells) (here.2 (so_far.passes tells).tells));
        }

    -- all are kept
    pub level : (old new : L) (kept : ℕ) → SoFar old new records name kept → length records ≤ kept → kept ≤ length records → Ships link old new records name 0 (Level kept)
    level old new kept so_far some few =
        let counts = so_far.counts in
        record {
          counts = counts;
          ending = Unasked;
          rise = so_far.rise;
          ends = (omega (arith, sym so_far.kept_is, some, few), omega (arith, some, few));
          passes = λ told.
              rw (append-nil (lines records name 0 counts), append-nil (replies name counts), append-nil (passed records name 0 counts)) (so_far.passes told);
        }

    -- an exchange ends it
    pub ended : (old mid new : L) (kept : ℕ) (answer : Ship) → SoFar old mid records name kept → Exchanges link mid new records name kept (Err answer) → Ships link old new records name 0 answer
    ended old mid new kept answer so_far e =
        let counts = so_far.counts in
        let here = subst (λ (k : ℕ). Exchanges link mid new records name k (Err answer)) so_far.kept_is e in
        record {
          counts = counts;
          ending = here.0;
          rise = so_far.rise;
          ends = here.1;
          passes = λ tells.
              passes_on old mid new (lines records name 0 counts) (last_lines records name (behind 0 counts) here.0) (replies name counts) (last_replies name here.0) (passed records name 0 counts)
              (last_passed records name (behind 0 counts) here.0) (so_far.passes tells) (here.2 (so_far.passes tells).tells);
        }
