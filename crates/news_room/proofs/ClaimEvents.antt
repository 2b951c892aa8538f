-- A claim is an event of the world.
use Rattle.std.proofs.Common.{◌≡◌, ℕ, ◌+◌, Bool, List, [], ◌++◌, length, Option, Some, None, Err, refl, sym, ap, ◌∙◌, subst}
use Rattle.std.specs.Option.{option_map}
use Rattle.news_types.specs.declared.entry.Entry.{Entry}
use Rattle.news_types.specs.declared.query.Ready.TheVariants.{Now}
use Rattle.news_types.specs.Names.{Bytes}
use Rattle.news_types.specs.History.{History, moment_at}
use Rattle.news_types.specs.Books.{Book, onto}
use Rattle.news_types.proofs.Books.{onto_more}
use Rattle.news_types.specs.Delivery.{choice}
use Rattle.news_types.specs.Frames.{Frame, Writer, format, framed, bytes_of, frame_at, frame_bytes_at}
use Rattle.news_types.specs.Calls.{Ticked, Claimed, Job, Fate, IsKept, IsFull, IsFailed, IsStarved, follow, ticked, job, answer, given}
use Rattle.news_types.specs.Calls as call
use Rattle.news_types.specs.Server.{Server, put, claimed, claimed_at, claim_answer, claim_answer_at}
use Rattle.feed_frames.specs.Writer.{the_writer}
use Rattle.news_io.specs.Keeper.{KeeperMeaning}
use Rattle.news_io.specs.declared.keeper.AppendFault.{AppendFault}
use Rattle.news_io.specs.declared.keeper.AppendFault.TheVariants.{Fault, Full}
use Rattle.news_room.specs.Beside.{Beside}
use Rattle.news_room.specs.Stands.{LIMIT, numbers}
use Rattle.news_room.specs.Steps.{Refused, Failed, ReleaseStep, DoubtStep, entries, tick_entries, After, is_append_fault}
use Rattle.news_room.specs.Events.{Serves}
use Rattle.news_room.specs.Claims.{ClaimAt, ClaimStep, IsSaid, IsClaimEvent, ClaimHappens, attempt_entries, claimed_by, is_claim_fault}
use Rattle.news_room.specs.declared.claim.Claimed as claims
use Rattle.news_room.specs.declared.room.Room.{Room}
use Rattle.news_room.proofs.Chosen.{chosen_entry}
use Rattle.news_room.proofs.Claims.{Ticks, Attempts, behind_tick, claimed_then, not_claimed}
use Rattle.news_room.proofs.Events.{Fares, fails, none_refused, none_failed, given_kept, given_starved, given_full, given_failed, serves_put}

-- ---- how the attempt fared

pub job_said : (write : Writer) (g : History) (names : List Bytes) (m : ℕ) (s : Bytes) (k : ℕ) (bytes : Bytes) (front : ℕ) → choice g names m ≡ Now s k → bytes ≡ frame_bytes_at write g s k → front ≡ length g + 1
    → IsSaid (claims.Claimed.Job s k bytes front) (job write g (choice g names m))
job_said write g names m s k bytes front chosen spelled place =
    let there = chosen_entry g names m s k chosen in
    let frame_is : frame_at write g s k ≡ Some (framed write (format g s) s k there.0) = ap (option_map (framed write (format g s) s k)) there.1 in (
      framed write (format g s) s k there.0,
      spelled ∙ ap (λ (o : Option Frame). bytes_of o) frame_is,
      ap (job write g) chosen ∙ ap (λ (o : Option Frame). Job s k o (length g + 1)) frame_is ∙ ap (λ (x : ℕ). Job s k (Some (framed write (format g s) s k there.0)) x) (sym place),
    )

record Fared (write : Writer) (n : Beside) (g : History) (names : List Bytes) (m : ℕ) (more : List Entry) (c : claims.Claimed) : Type 0 where
  pub fate : Fate
  pub fares : Fares n LIMIT (follow g (Claimed names) m) more fate
  pub fails_is : fails fate ≡ is_claim_fault c
  pub said : IsSaid c (given (follow g (Claimed names) m) fate (job write g (choice g names m)))

fared : (write : Writer) (n : Beside) (g : History) (names : List Bytes) (m : ℕ) (more : List Entry) (c : claims.Claimed) → ClaimAt write n g names m (attempt_entries g names m) [] more c → Fared write n g names m more c
fared write n g names m more (claims.Claimed.Job s k bytes front) step = record {
  fate = IsKept;
  fares = step.3;
  fails_is = refl;
  said = subst (IsSaid (claims.Claimed.Job s k bytes front)) (sym (given_kept (follow g (Claimed names) m) _)) (job_said write g names m s k bytes front step.0 step.1 step.2);
}
fared write n g names m more (claims.Claimed.Idle next) step = record { fate = IsKept; fares = step.1; fails_is = refl; said = given_kept (follow g (Claimed names) m) _ ∙ ap (job write g) step.0 }
fared write n g names m more claims.Claimed.Fault step = record { fate = IsFailed; fares = step; fails_is = refl; said = given_failed n LIMIT (follow g (Claimed names) m) more _ step }
fared write n g names m more (claims.Claimed.Full size count) step = record { fate = IsFull; fares = (size, count, step); fails_is = refl; said = given_full n LIMIT (follow g (Claimed names) m) more size count _ step }
fared write n g names m more claims.Claimed.Memory step = record { fate = IsStarved; fares = step.whole; fails_is = refl; said = given_starved (follow g (Claimed names) m) _ }

-- ---- what the world makes of a claim, by the fates of its tick's entry

kept_server : (c : Server) (names : List Bytes) (m : ℕ) (o : Option Entry) (second : Fate) → claimed_at c names m o IsKept second ≡ put (put c o IsKept) (follow (put c o IsKept).list (Claimed names) m) second
kept_server c names m None second = refl
kept_server c names m (Some e) second = refl

kept_answer : (write : Writer) (h : History) (names : List Bytes) (m : ℕ) (o : Option Entry) (second : Fate) → claim_answer_at write h names m o IsKept second ≡ given (follow (call.more o h) (Claimed names) m) second (answer write h (Claimed names) m)
kept_answer write h names m None second = refl
kept_answer write h names m (Some e) second = refl

failed_server : (n : Beside) (more : List Entry) (c : Server) (names : List Bytes) (m : ℕ) (o : Option Entry) → Failed n LIMIT (entries o) more → claimed_at c names m o IsFailed IsKept ≡ put c o IsFailed
failed_server n more c names m None f = absurd (none_failed n LIMIT more f)
failed_server n more c names m (Some e) f = refl

failed_answer : (write : Writer) (n : Beside) (more : List Entry) (h : History) (names : List Bytes) (m : ℕ) (o : Option Entry) → Failed n LIMIT (entries o) more → claim_answer_at write h names m o IsFailed IsKept ≡ call.Fault
failed_answer write n more h names m None f = absurd (none_failed n LIMIT more f)
failed_answer write n more h names m (Some e) f = refl

full_server : (n : Beside) (more : List Entry) (size count : ℕ) (c : Server) (names : List Bytes) (m : ℕ) (o : Option Entry) → Refused n LIMIT (entries o) more size count → claimed_at c names m o IsFull IsKept ≡ put c o IsFull
full_server n more size count c names m None f = absurd (none_refused n LIMIT more size count f)
full_server n more size count c names m (Some e) f = refl

full_answer : (write : Writer) (n : Beside) (more : List Entry) (size count : ℕ) (h : History) (names : List Bytes) (m : ℕ) (o : Option Entry) → Refused n LIMIT (entries o) more size count → claim_answer_at write h names m o IsFull IsKept ≡ call.Full
full_answer write n more size count h names m None f = absurd (none_refused n LIMIT more size count f)
full_answer write n more size count h names m (Some e) f = refl

-- ---- the event

module _ {K : Type 0} (keeper : KeeperMeaning K) (names : List Bytes) (now : ℕ) where
  -- a claim of a server, by the list of the book
  server_at : (c : Server) (b : Book) (first second : Fate) → c.list ≡ b.list
      → claimed c names now first second ≡ claimed_at c names (moment_at b.list now) (follow b.list Ticked (moment_at b.list now)) first second
  server_at c b first second is = ap (λ (l : History). claimed_at c names (moment_at l now) (follow l Ticked (moment_at l now)) first second) is

  answer_at : (write : Writer) (c : Server) (b : Book) (first second : Fate) → c.list ≡ b.list
      → claim_answer write c names now first second ≡ claim_answer_at write b.list names (moment_at b.list now) (follow b.list Ticked (moment_at b.list now)) first second
  answer_at write c b first second is = ap (λ (l : History). claim_answer_at write l names (moment_at l now) (follow l Ticked (moment_at l now)) first second) is

  -- the tick kept what was due
  both_event : (r s t : Room K) (b : Book) (more more' : List Entry) (c : claims.Claimed) → Ticks keeper r s b (moment_at b.list now) more
      → Attempts keeper s t (onto more b) (ticked b.list (moment_at b.list now)) names (moment_at b.list now) more' c → IsClaimEvent keeper r t b (more ++ more') names now c
  both_event r s t b more more' c one two =
      let write : Writer = the_writer b.store in
      let m : ℕ = moment_at b.list now in
      let o : Option Entry = follow b.list Ticked m in
      let p : Option Entry = follow (ticked b.list m) (Claimed names) m in
      let x = fared write (numbers keeper s t) (ticked b.list m) names m more' c two.did in
      record {
        first = IsKept;
        second = x.fate;
        serves = λ v is.
            let mid : Serves keeper s (onto more b) (put v o IsKept) = serves_put keeper r s b o more LIMIT IsKept one.did (λ told. (one.told told).doubt) v is in
            let last : Serves keeper t (onto more' (onto more b)) (put (put v o IsKept) p x.fate) =
            serves_put keeper s t (onto more b) p more' LIMIT x.fate x.fares
            (λ told. subst (DoubtStep (keeper.doubts s.keeper) (keeper.doubts t.keeper) (entries p) more') (sym x.fails_is) (two.told told).doubt) (put v o IsKept) mid in
            let same : claimed v names now IsKept x.fate ≡ put (put v o IsKept) p x.fate =
            server_at v b IsKept x.fate is.list_is ∙ kept_server v names m o x.fate
            ∙ ap (λ (l : History). put (put v o IsKept) (follow l (Claimed names) m) x.fate) (mid.list_is ∙ behind_tick b.list m more one.did.whole.is) in
            subst (λ (w : Server). Serves keeper t (onto (more ++ more') b) w) (sym same) (subst (λ (d : Book). Serves keeper t d (put (put v o IsKept) p x.fate)) (onto_more more more' b) last);
        answers = λ v is. subst (IsSaid c) (sym (answer_at write v b IsKept x.fate is.list_is ∙ kept_answer write b.list names m o x.fate)) x.said;
      }

  -- or its entry was not kept
  cut_event : (r s : Room K) (b : Book) (more : List Entry) (why : AppendFault)
      → After keeper r s b (tick_entries b.list (moment_at b.list now)) more (is_append_fault {A = Bool} (Err why)) (ReleaseStep (numbers keeper r s) b (moment_at b.list now) more (Err why))
      → IsClaimEvent keeper r s b more names now (claimed_by why)
  cut_event r s b more Fault a =
      let m : ℕ = moment_at b.list now in
      let o : Option Entry = follow b.list Ticked m in
      record {
        first = IsFailed;
        second = IsKept;
        serves = λ v is. subst (λ (w : Server). Serves keeper s (onto more b) w) (sym (server_at v b IsFailed IsKept is.list_is ∙ failed_server (numbers keeper r s) more v names m o a.did))
            (serves_put keeper r s b o more LIMIT IsFailed a.did (λ told. (a.told told).doubt) v is);
        answers = λ v is. answer_at (the_writer b.store) v b IsFailed IsKept is.list_is ∙ failed_answer (the_writer b.store) (numbers keeper r s) more b.list names m o a.did;
      }
  cut_event r s b more (Full size count) a =
      let m : ℕ = moment_at b.list now in
      let o : Option Entry = follow b.list Ticked m in
      record {
        first = IsFull;
        second = IsKept;
        serves = λ v is. subst (λ (w : Server). Serves keeper s (onto more b) w) (sym (server_at v b IsFull IsKept is.list_is ∙ full_server (numbers keeper r s) more size count v names m o a.did))
            (serves_put keeper r s b o more LIMIT IsFull (size, count, a.did) (λ told. (a.told told).doubt) v is);
        answers = λ v is. answer_at (the_writer b.store) v b IsFull IsKept is.list_is ∙ full_answer (the_writer b.store) (numbers keeper r s) more size count b.list names m o a.did;
      }

  -- ---- the claim

  pub happens_then : (r s t : Room K) (b : Book) (more more' : List Entry) (c : claims.Claimed) → Ticks keeper r s b (moment_at b.list now) more
      → Attempts keeper s t (onto more b) (ticked b.list (moment_at b.list now)) names (moment_at b.list now) more' c
      → ClaimHappens keeper r t b (more ++ more') names now c (ClaimStep (numbers keeper r t) b now names (more ++ more') c)
  happens_then r s t b more more' c one two =
      let a = claimed_then keeper r s t b now names more more' c one two in
      record { stands = a.stands; step = a.did; event = both_event r s t b more more' c one two; told = a.told }

  pub happens_cut : (r s : Room K) (b : Book) (more : List Entry) (why : AppendFault)
      → After keeper r s b (tick_entries b.list (moment_at b.list now)) more (is_append_fault {A = Bool} (Err why)) (ReleaseStep (numbers keeper r s) b (moment_at b.list now) more (Err why))
      → ClaimHappens keeper r s b more names now (claimed_by why) (ClaimStep (numbers keeper r s) b now names more (claimed_by why))
  happens_cut r s b more why a =
      let x = not_claimed keeper r s b now names more why a in
      record { stands = x.stands; step = x.did; event = cut_event r s b more why a; told = x.told }
