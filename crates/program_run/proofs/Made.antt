-- What `init` did, by what was said of it before.
use Rattle.std.proofs.Common.{◌≡◌, inl, inr, ℕ, ◌≤◌, List, [], ◌∷◌, ◌++◌, length, Some, refl, sym, ap, ◌∙◌, subst, arith, append-nil, length-append}
use Rattle.std.specs.Prelude.{replicate}
use Rattle.news_types.specs.Names.{Bytes}
use Rattle.news_io.specs.Outside.{Meanings, Outside, FilesTell, Files, MayLeave}
use Rattle.news_journal.specs.Log.{room_head, opened}
use Rattle.news_journal.specs.Read.{opened_closed}
use Rattle.newsdesk_cli.specs.Command as old
use Rattle.program_run.specs.Made.{new_log, IsMade}
use Rattle.program_run.specs.Opens.{OpenTo, edition_of, base_bytes, base_of}
use Rattle.program_run.specs.Telling.{Unread}

-- ---- a new store

head_long : (store : Bytes) → length store ≡ 16 → length (room_head 2 (replicate 6 0) store) ≡ 64
unfolding room_head
head_long store long = omega (arith, long, length-append store (replicate 32 0))

edition_is : (store : Bytes) → edition_of (new_log store) ≡ 2
unfolding room_head
edition_is store = refl

base_is : (store : Bytes) → base_bytes (new_log store) ≡ replicate 6 0
unfolding room_head
base_is store = refl

base_zero : (store : Bytes) → base_of (new_log store) ≡ 0
unfolding room_head base_of
base_zero store = refl

opens_so : (store : Bytes) → length store ≡ 16 → opened (room_head 2 (replicate 6 0) store) (new_log store) ≡ Some []
opens_so store long =
    let h : List ℕ = room_head 2 (replicate 6 0) store in
    ap (λ (l : List ℕ). opened h (l ++ 0 ∷ [])) (sym (append-nil h)) ∙ opened_closed h [] 0 [] tt (omega (arith, head_long store long, ap length (append-nil h))) (omega arith)

log_is : (store : Bytes) → length store ≡ 16 → opened (room_head (edition_of (new_log store)) (base_bytes (new_log store)) store) (new_log store) ≡ Some []
log_is store long =
    ap (λ (e : ℕ). opened (room_head e (base_bytes (new_log store)) store) (new_log store)) (edition_is store)
    ∙ ap (λ (b : List ℕ). opened (room_head 2 b store) (new_log store)) (base_is store)
    ∙ opens_so store long

pub new_opens_empty : (store : Bytes) → length store ≡ 16 → OpenTo store (new_log store, []) []
new_opens_empty store long = record {
  holds = record {
    packed = [];
    side_is = inl (inl (omega arith), refl);
    bare = λ b. base_zero store;
    edition = inr (edition_is store);
    records = [];
    log_is = log_is store long;
    joined = refl;
  };
  stored = record { legal = tt; formed = tt };
}

no_bytes : (l : List ℕ) → length l ≤ 0 → l ≡ []
no_bytes [] le = refl
no_bytes (b ∷ l) le = absurd (omega (arith, le))

-- ---- the command

module _ {D S O C L : Type 0} (m : Meanings D S O C L) (before after : Outside D S O C L) (number : ℕ) (store : Bytes) where
  made_opens : old.IsMade m.disk m.sink store before.log after.log before.side after.side before.output after.output number
      → length store ≡ 16 → FilesTell m before → (files : Files) → MayLeave m after files → OpenTo store files []
  made_opens made long tell files may =
      let log_same : files.0 ≡ new_log store = made.durable tell.log files.0 may.0 in
      let short = m.disk.no_longer before.side files.1 tell.side (made.still_side.crash files.1 may.1) in
      let side_same : files.1 ≡ [] = no_bytes files.1 (omega (arith, short, ap length (made.empty_side tell.side))) in
      let there = subst (λ (c : List ℕ). OpenTo store (c, []) []) (sym log_same) (new_opens_empty store long) in
      subst (λ (s : List ℕ). OpenTo store (files.0, s) []) (sym side_same) there

  pub is_made : Unread before after → old.IsInit m.disk m.sink store before.log after.log before.side after.side before.output after.output number → IsMade m before after number store
  is_made unread (inl t) = (
    unread,
    inl (record {
      cause = λ tell both. t.cause tell.log tell.side (ap (λ (f : Files). f.0) both) (ap (λ (f : Files). f.1) both);
      calm = t.calm;
      log = t.still;
      side = t.still_side;
      told = record { status_is = t.stopped.status_is; line = t.stopped.line };
    }),
  )
  is_made unread (inr (inl u)) = (
    unread,
    inr (inl (record { rose = u.rose; tells = u.told; log = u.crash; side = u.still_side; told = record { status_is = u.stopped.status_is; line = u.stopped.line } })),
  )
  is_made unread (inr (inr made)) = (
    unread,
    inr (inr (record {
      done = made.status_is;
      silent = made.silent;
      empty = made.empty;
      empty_side = made.empty_side;
      bytes = made.bytes;
      calm = made.calm;
      tells = made.told;
      crash = made.crash;
      lasts = made.durable;
      side = made.still_side;
      opens = made_opens made;
    })),
  )
