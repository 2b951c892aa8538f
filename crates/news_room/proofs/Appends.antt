-- What the keeper's append did, for a room that kept a prepared entry.
use Rattle.std.proofs.Common.{◌≡◌, inl, inr, ℕ, ◌+◌, ◌≤◌, true, false, List, [], ◌∷◌, ◌++◌, length, Ok, Err, refl, sym, ap, ◌∙◌, subst, arith}
use Rattle.std.specs.Prelude.{Result, OnOk, OnErr}
use Rattle.news_types.specs.declared.entry.Entry.{Entry}
use Rattle.news_types.specs.declared.entry.Reply.{Reply}
use Rattle.news_types.specs.Names.{Bytes}
use Rattle.news_types.specs.History.{History}
use Rattle.news_types.specs.Books.{Book}
use Rattle.news_types.specs.Outcome.{reply_to}
use Rattle.news_io.specs.Left.{Between}
use Rattle.news_io.proofs.Runs.{elapses_same}
use Rattle.news_io.specs.Moments.{Elapses}
use Rattle.news_io.specs.Keeper.{BeforeOrAfter, payload_of, IsFullExactly, AppendCounts, DoubtsAfter, KeeperMeaning}
use Rattle.news_io.specs.declared.keeper.AppendFault.{AppendFault}
use Rattle.news_io.specs.declared.keeper.AppendFault.TheVariants.{Fault, Full}
use Rattle.entry_codec.specs.Spelling.{entry_bytes}
use Rattle.entry_codec.specs.Formed.{IsEntry}
use Rattle.newsroom.specs.Stands.{StandsFor, store_of}
use Rattle.news_types.specs.Doubt.{payloads}
use Rattle.news_room.specs.Log.{IsStored, Opens}
use Rattle.news_room.specs.Stands.{Stands, Tells, LAST, limit_of, numbers}
use Rattle.news_room.specs.Steps.{ToldStep, PutStep, KeepStep, After, is_append_fault, is_fault}
use Rattle.news_room.specs.declared.answers.Handled.{Handled}
use Rattle.news_room.specs.declared.room.Room.{Room}
use Rattle.news_room.specs.Appends.{IsRecord, Appended, AppendStep, SmallStep}
use Rattle.news_room.proofs.Crashes.{append_leaves}
use Rattle.news_room.proofs.Steps.{none_kept, one_kept, one_failed, one_refused}
use Rattle.news_room.proofs.Limits.{limit_few}
use Rattle.news_room.proofs.Rooms.{stands_more, stands_same}

module _ {K : Type 0} (keeper : KeeperMeaning K) where
  -- what an append leaves is what it leaves
  same_list : {k k' : K} {limit : ℕ} {bytes : Bytes} {r : Result (Unit {0}) AppendFault} {after : List Bytes} → Appended keeper k k' limit bytes r after → Appended keeper k k' limit bytes r (keeper.list k')
  same_list a = record { full = a.full; count = a.count; label = a.label; told = a.told; list_is = λ t. refl; doubt = a.doubt; crash = a.crash }

  -- a crash during it leaves the list, or the list with the entry
  crash_leaves : (k k' : K) (limit : ℕ) (bytes : Bytes) (r : Result (Unit {0}) AppendFault) (store : Bytes) (h : History) (added : List Entry) → IsStored h → IsStored (added ++ h) → Tells keeper k store h → Tells keeper k' store (added ++ h)
      → Appended keeper k k' limit bytes r (keeper.list k') → Elapses (keeper.moment k) (keeper.moment k') (keeper.left_since k) (keeper.left_since k')
      (Between Opens h (added ++ h) (λ e. IsEntry e × keeper.doubts k (entry_bytes e)) (λ e. IsEntry e × keeper.doubts k' (entry_bytes e)))
  crash_leaves k k' limit bytes r store h added kept kept' told told' a =
      append_leaves h added (keeper.moment k) (keeper.moment k') (keeper.left_since k) (keeper.left_since k') (keeper.doubts k) (keeper.doubts k') kept kept' told.follow told'.follow
      (subst (λ (l : List Bytes). Elapses (keeper.moment k) (keeper.moment k') (keeper.left_since k) (keeper.left_since k') (BeforeOrAfter (payloads entry_bytes h) (keeper.doubts k) l (keeper.doubts k'))) told'.list_is
      (subst (λ (l : List Bytes). Elapses (keeper.moment k) (keeper.moment k') (keeper.left_since k) (keeper.left_since k') (BeforeOrAfter l (keeper.doubts k) (keeper.list k') (keeper.doubts k'))) told.list_is (a.crash told.tells_it)))

  -- ---- one entry, within a limit

  pub put_ok : (r r' : Room K) (b : Book) (limit : ℕ) (e : Entry) (bytes : Bytes) → limit ≤ LAST → IsRecord bytes e → IsStored (e ∷ b.list) → Stands keeper r b → store_of r'.machine ≡ store_of r.machine → StandsFor r'.machine (e ∷ b.list)
      → keeper.used r'.keeper ≡ keeper.used r.keeper + length bytes → Appended keeper r.keeper r'.keeper limit bytes (Ok tt) (keeper.list r.keeper ++ payload_of bytes ∷ [])
      → After keeper r r' b (e ∷ []) (e ∷ []) false (PutStep (numbers keeper r r') limit e (e ∷ []) (Ok tt))
  put_ok r r' b limit e bytes few is kept stands store machine grown a =
      let told : b.told ≡ true → Tells keeper r'.keeper b.store (e ∷ b.list) = λ t.
      let k = stands.told t in
      record {
        tells_it = a.told k.tells_it;
        label_is = a.label ∙ k.label_is;
        list_is = a.list_is k.tells_it ∙ ap (λ (l : List Bytes). l ++ payload_of bytes ∷ []) k.list_is ∙ ap (λ (x : Bytes). payloads entry_bytes b.list ++ x ∷ []) is.payload;
        follow = λ x d. absurd (a.doubt k.tells_it x d);
      } in
      record {
        stands = stands_more keeper r r' b e (length bytes) stands store machine kept is.size grown (omega (arith, grown, a.full, few)) told;
        did = record { whole = one_kept (numbers keeper r r') e (length bytes) is.size a.count.fault grown; within = omega (arith, grown, a.full) };
        told = λ t. record { crash = crash_leaves r.keeper r'.keeper limit bytes (Ok tt) b.store b.list (e ∷ []) stands.kept kept (stands.told t) (told t) (same_list a); doubt = λ x d. a.doubt (stands.told t).tells_it x d };
      }

  put_fault : (r r' : Room K) (b : Book) (limit : ℕ) (e : Entry) (bytes : Bytes) → IsRecord bytes e → IsStored (e ∷ b.list) → Stands keeper r b → store_of r'.machine ≡ store_of r.machine → StandsFor r'.machine b.list
      → keeper.used r'.keeper ≡ keeper.used r.keeper → Appended keeper r.keeper r'.keeper limit bytes (Err Fault) (keeper.list r.keeper) → After keeper r r' b (e ∷ []) [] true (PutStep (numbers keeper r r') limit e [] (Err Fault))
  put_fault r r' b limit e bytes is kept stands store machine same a =
      let told : b.told ≡ true → Tells keeper r'.keeper b.store b.list = λ t.
      let k = stands.told t in
      record {
        tells_it = a.told k.tells_it;
        label_is = a.label ∙ k.label_is;
        list_is = a.list_is k.tells_it ∙ k.list_is;
        follow = λ x d. elim (a.doubt k.tells_it x d) [ inl old ↦ k.follow x old | inr tried ↦ (e, tried ∙ is.payload, kept) ];
      } in
      record {
        stands = stands_same keeper r r' b stands store machine same told;
        did = one_failed (numbers keeper r r') limit e (length bytes) is.size a.count.fault same a.full;
        told = λ t. record {
          crash = crash_leaves r.keeper r'.keeper limit bytes (Err Fault) b.store b.list [] stands.kept stands.kept (stands.told t) (told t) (same_list a);
          doubt = λ x d. elim (a.doubt (stands.told t).tells_it x d) [ inl old ↦ inl old | inr tried ↦ inr (e, [], refl, is.entry, tried ∙ is.payload) ];
        };
      }

  put_full : (r r' : Room K) (b : Book) (limit : ℕ) (e : Entry) (bytes : Bytes) (size count : ℕ) → IsRecord bytes e → Stands keeper r b → store_of r'.machine ≡ store_of r.machine → StandsFor r'.machine b.list
      → keeper.used r'.keeper ≡ keeper.used r.keeper → Appended keeper r.keeper r'.keeper limit bytes (Err (Full size count)) (keeper.list r.keeper) → After keeper r r' b (e ∷ []) [] false (PutStep (numbers keeper r r') limit e [] (Err (Full size count)))
  put_full r r' b limit e bytes size count is stands store machine same a =
      let told : b.told ≡ true → Tells keeper r'.keeper b.store b.list = λ t.
      let k = stands.told t in
      record { tells_it = a.told k.tells_it; label_is = a.label ∙ k.label_is; list_is = a.list_is k.tells_it ∙ k.list_is; follow = λ x d. k.follow x (a.doubt k.tells_it x d) } in
      record {
        stands = stands_same keeper r r' b stands store machine same told;
        did = one_refused (numbers keeper r r') limit e (length bytes) size count is.size a.count.fault same a.full.0 a.full.1 (a.full.2 ∙ ap length is.payload);
        told = λ t. record {
          crash = crash_leaves r.keeper r'.keeper limit bytes (Err (Full size count)) b.store b.list [] stands.kept stands.kept (stands.told t) (told t) (same_list a);
          doubt = λ x d. a.doubt (stands.told t).tells_it x d;
        };
      }

  pub put_none : (r r' : Room K) (b : Book) (limit : ℕ) (e : Entry) (why : AppendFault) → SmallStep keeper r.keeper r'.keeper limit e (Err why) → (IsEntry e → IsStored (e ∷ b.list)) → Stands keeper r b
      → store_of r'.machine ≡ store_of r.machine → StandsFor r'.machine b.list → After keeper r r' b (e ∷ []) [] (is_append_fault {A = Unit {0}} (Err why)) (PutStep (numbers keeper r r') limit e [] (Err why))
  put_none r r' b limit e Fault step kept stands store machine = put_fault r r' b limit e step.0 step.1.record_is (kept step.1.record_is.entry) stands store machine step.1.same step.1.did
  put_none r r' b limit e (Full size count) step kept stands store machine = put_full r r' b limit e step.0 size count step.1.record_is stands store machine step.1.same step.1.did

  -- what the keeper's append of a small record tells
  pub small_step : (k k' : K) (limit : ℕ) (e : Entry) (bytes : Bytes) (r : Result (Unit {0}) AppendFault) → IsRecord bytes e → IsFullExactly (keeper.used k) limit bytes r → OnOk r (keeper.used k' ≡ keeper.used k + length bytes) → OnErr r (keeper.used k' ≡ keeper.used k)
      → AppendCounts (keeper.faults k) (keeper.faults k') r → keeper.label k' ≡ keeper.label k → (keeper.tells k → keeper.tells k') → (keeper.tells k → OnOk r (keeper.list k' ≡ keeper.list k ++ payload_of bytes ∷ [])) → (keeper.tells k → OnErr r (keeper.list k' ≡ keeper.list k)) → (keeper.tells k → DoubtsAfter (keeper.doubts k) (keeper.doubts k') (payload_of bytes) r)
      → (keeper.tells k → Elapses (keeper.moment k) (keeper.moment k') (keeper.left_since k) (keeper.left_since k') (BeforeOrAfter (keeper.list k) (keeper.doubts k) (keeper.list k') (keeper.doubts k'))) → SmallStep keeper k k' limit e r
  small_step k k' limit e bytes (Ok u) is full grown same count label told more left doubt crash =
      (bytes, record { record_is = is; grown = grown; did = record { full = full; count = count; label = label; told = told; list_is = more; doubt = doubt; crash = crash } })
  small_step k k' limit e bytes (Err why) is full grown same count label told more left doubt crash =
      (bytes, record { record_is = is; same = same; did = record { full = full; count = count; label = label; told = told; list_is = left; doubt = doubt; crash = crash } })

  -- ---- nothing was asked of the keeper

  pub told_none : (r r' : Room K) (b : Book) (should : List Entry) → r'.keeper ≡ r.keeper → ToldStep keeper r r' b should [] false
  told_none r r' b should same = record {
    crash = subst (λ (k : K). Elapses (keeper.moment r.keeper) (keeper.moment k) (keeper.left_since r.keeper) (keeper.left_since k) (Between Opens b.list b.list (λ e. IsEntry e × keeper.doubts r.keeper (entry_bytes e)) (λ e. IsEntry e × keeper.doubts k (entry_bytes e)))) (sym same)
        (elapses_same (keeper.moment r.keeper) (keeper.left_since r.keeper) (Between Opens b.list b.list (λ e. IsEntry e × keeper.doubts r.keeper (entry_bytes e)) (λ e. IsEntry e × keeper.doubts r.keeper (entry_bytes e))));
    doubt = subst (λ (k : K). (x : Bytes) → keeper.doubts k x → keeper.doubts r.keeper x) (sym same) (λ x d. d);
  }

  pub still_stands : (r r' : Room K) (b : Book) → r'.keeper ≡ r.keeper → Stands keeper r b → store_of r'.machine ≡ store_of r.machine → StandsFor r'.machine b.list → Stands keeper r' b
  still_stands r r' b same stands store machine =
      stands_same keeper r r' b stands store machine (ap keeper.used same) (λ t. subst (λ (k : K). Tells keeper k b.store b.list) (sym same) (stands.told t))

  pub after_none : (r r' : Room K) (b : Book) (should : List Entry) (T : Type 0) → r'.keeper ≡ r.keeper → Stands keeper r b → store_of r'.machine ≡ store_of r.machine → StandsFor r'.machine b.list → T → After keeper r r' b should [] false T
  after_none r r' b should T same stands store machine step = record { stands = still_stands r r' b same stands store machine; did = step; told = λ t. told_none r r' b should same }

  -- ---- what was prepared

  pub kept_ok : (r r' : Room K) (b : Book) (e : Entry) (bytes : Bytes) (reply : Reply) → IsRecord bytes e → IsStored (e ∷ b.list) → Stands keeper r b → store_of r'.machine ≡ store_of r.machine → StandsFor r'.machine (e ∷ b.list)
      → reply ≡ reply_to b.list e.moment e.act → keeper.used r'.keeper ≡ keeper.used r.keeper + length bytes
      → Appended keeper r.keeper r'.keeper (limit_of e.act) bytes (Ok tt) (keeper.list r.keeper ++ payload_of bytes ∷ []) → After keeper r r' b (e ∷ []) (e ∷ []) false (KeepStep (numbers keeper r r') b e (e ∷ []) (Handled.Done reply))
  kept_ok r r' b e bytes reply is kept stands store machine replied grown a =
      let p = put_ok r r' b (limit_of e.act) e bytes (limit_few e.act) is kept stands store machine grown a in
      record { stands = p.stands; did = (replied, p.did); told = p.told }

  pub not_kept : (r r' : Room K) (b : Book) (e : Entry) (answered : Handled) → AppendStep keeper r.keeper r'.keeper e (Err answered) → (IsEntry e → IsStored (e ∷ b.list)) → Stands keeper r b
      → store_of r'.machine ≡ store_of r.machine → StandsFor r'.machine b.list → After keeper r r' b (e ∷ []) [] (is_fault answered) (KeepStep (numbers keeper r r') b e [] answered)
  not_kept r r' b e Handled.Fault step kept stands store machine =
      let p = put_fault r r' b (limit_of e.act) e step.0 step.1.record_is (kept step.1.record_is.entry) stands store machine step.1.same step.1.did in
      record { stands = p.stands; did = p.did; told = p.told }
  not_kept r r' b e (Handled.Full size count) step kept stands store machine =
      let p = put_full r r' b (limit_of e.act) e step.0 size count step.1.record_is stands store machine step.1.same step.1.did in
      record { stands = p.stands; did = p.did; told = p.told }
  not_kept r r' b e Handled.Memory step kept stands store machine = after_none r r' b (e ∷ []) _ step stands store machine (none_kept (numbers keeper r r') (ap keeper.faults step) (ap keeper.used step))
  not_kept r r' b e (Handled.Done reply) step kept stands store machine = absurd step
  not_kept r r' b e (Handled.Repeat reply) step kept stands store machine = absurd step
  not_kept r r' b e (Handled.Denied denial) step kept stands store machine = absurd step
