-- Time alone brings nothing to a feed where nothing that waits is released by then.
use Rattle.std.proofs.Common.{◌≡◌, ℕ, ◌≤◌, Bool, true, false, ◌&&◌, ◌||◌, List, [], ◌∷◌, refl, sym, ap, ◌∙◌, inl, inr, arith}
use Rattle.std.specs.Prelude.{nat_lt, nat_le}
use Rattle.std.specs.List.{filter, list_any}
use Rattle.std.proofs.lemmas.Bool.{cases_lt}
use Rattle.std.proofs.lemmas.Bool.Decides.{nat_tests}
use Rattle.news_types.specs.declared.entry.Act.{Act}
use Rattle.news_types.specs.declared.entry.Act.TheVariants.{Advance, Attempt, Receipt, Halt}
use Rattle.news_types.specs.declared.query.Due.{Due}
use Rattle.news_types.specs.Names.{Bytes}
use Rattle.news_types.specs.History.{History, moment}
use Rattle.news_types.specs.Due.{Pub}
use Rattle.news_types.specs.Publications.{standing}
use Rattle.news_types.specs.Feeds.{Dispatch, dispatch, is_out, is_waiting, due_to, feed_of, waiting_of, feed, waiting}
use Rattle.news_types.specs.Legal.{comes_by, is_coming, some_waits, IsLegal}
use Rattle.news_types.specs.Calls.{ticked}
use Rattle.news_types.specs.Members.{Each}
use Rattle.news_types.proofs.Dues.{each_release}
use Rattle.news_types.proofs.Numbering.{GoesOver, each_due_to}

-- no release lies above r and at most m
abbrev pub IsQuiet : ℕ → ℕ → Dispatch → Type 0
IsQuiet r m d = comes_by r m d.release ≡ false

-- neither the publication's own nor one for those to whom it is due
abbrev pub IsCalm : ℕ → ℕ → Pub → Type 0
IsCalm r m p = is_coming r m p ≡ false

neither : (a b : Bool) → (a || b) ≡ false → (a ≡ false) × (b ≡ false)
neither true b e = cc
neither false b e = (refl, e)

pub none_any : {A : Type 0} (t : A → Bool) (xs : List A) → list_any t xs ≡ false → Each (λ (x : A). t x ≡ false) xs
none_any t [] e = tt
none_any t (x ∷ xs) e = let both = neither (t x) (list_any t xs) e in (both.0, none_any t xs both.1)

calm_quiet : (r m : ℕ) (s : Bytes) → GoesOver (IsCalm r m) s (IsQuiet r m)
calm_quiet r m s p release calm is =
    each_release (λ (n : ℕ). comes_by r m n ≡ false) s p.due release (none_any (λ (d : Due). comes_by r m d.release) p.due (neither (comes_by r m p.release) _ calm).1) is

out_alike : (r m : ℕ) (d : Dispatch) → r ≤ m → IsQuiet r m d → is_out m d ≡ is_out r d
out_alike r m d le quiet =
    elim (cases_lt r d.release) [
      | inl lt ↦
          let waits : nat_lt r d.release ≡ true = grind (arith, nat_tests) in
          let early : nat_le d.release r ≡ false = grind (arith, nat_tests) in
          sym (ap (λ b. b && nat_le d.release m) waits) ∙ quiet ∙ sym early
      | inr out ↦
          let now : nat_le d.release r ≡ true = grind (arith, nat_tests) in
          let later : nat_le d.release m ≡ true = grind (arith, nat_tests) in
          later ∙ sym now
    ]

waiting_alike : (r m : ℕ) (d : Dispatch) → r ≤ m → IsQuiet r m d → is_waiting m d ≡ is_waiting r d
waiting_alike r m d le quiet =
    elim (cases_lt r d.release) [
      | inl lt ↦
          let waits : nat_lt r d.release ≡ true = grind (arith, nat_tests) in
          let early : nat_le d.release m ≡ false = sym (ap (λ b. b && nat_le d.release m) waits) ∙ quiet in
          let still : nat_lt m d.release ≡ true = grind (arith, nat_tests) in
          still ∙ sym waits
      | inr out ↦
          let now : nat_lt r d.release ≡ false = grind (arith, nat_tests) in
          let later : nat_lt m d.release ≡ false = grind (arith, nat_tests) in
          later ∙ sym now
    ]

filter_alike : (t u : Dispatch → Bool) (ds : List Dispatch) → Each (λ (d : Dispatch). t d ≡ u d) ds → filter t ds ≡ filter u ds
filter_alike t u [] all = refl
filter_alike t u (d ∷ ds) all = rw (all.0, filter_alike t u ds all.1) refl

-- publications of which none is released above r and by m
pub quiet_feed : (ps : List Pub) (r m : ℕ) (s : Bytes) → r ≤ m → Each (IsCalm r m) ps → feed_of ps m s ≡ feed_of ps r s
quiet_feed ps r m s le calm =
    filter_alike (is_out m) (is_out r) (due_to s ps)
    (each_due_to (IsCalm r m) (λ (d : Dispatch). is_out m d ≡ is_out r d) s ps (λ p release one is. out_alike r m (dispatch p release) le (calm_quiet r m s p release one is)) calm)

pub quiet_waiting : (ps : List Pub) (r m : ℕ) (s : Bytes) → r ≤ m → Each (IsCalm r m) ps → waiting_of ps m s ≡ waiting_of ps r s
quiet_waiting ps r m s le calm =
    filter_alike (is_waiting m) (is_waiting r) (due_to s ps)
    (each_due_to (IsCalm r m) (λ (d : Dispatch). is_waiting m d ≡ is_waiting r d) s ps (λ p release one is. waiting_alike r m (dispatch p release) le (calm_quiet r m s p release one is)) calm)

-- ---- entries that publish and withdraw nothing

-- where nothing that waits is released by m, the feeds at m are those at the last entry
pub still_feed : (g : History) (m : ℕ) (s : Bytes) → moment g ≤ m → some_waits g m ≡ false → feed_of (standing g) m s ≡ feed g s
still_feed g m s le calm = quiet_feed (standing g) (moment g) m s le (none_any (is_coming (moment g) m) (standing g) calm)

pub still_waiting : (g : History) (m : ℕ) (s : Bytes) → moment g ≤ m → some_waits g m ≡ false → waiting_of (standing g) m s ≡ waiting g s
still_waiting g m s le calm = quiet_waiting (standing g) (moment g) m s le (none_any (is_coming (moment g) m) (standing g) calm)

-- an act that is no request and no ingest
abbrev pub IsPlain : Act → Type 0
IsPlain Advance = Unit {0}
IsPlain (Attempt s k) = Unit {0}
IsPlain (Receipt s n) = Unit {0}
IsPlain Halt = Unit {0}
IsPlain _ = ⊥

plain_standing : (h : History) (m : ℕ) (act : Act) → IsPlain act → standing (record { moment = m; act = act } ∷ h) ≡ standing h
plain_standing h m Advance plain = refl
plain_standing h m (Attempt s k) plain = refl
plain_standing h m (Receipt s n) plain = refl
plain_standing h m Halt plain = refl
plain_standing h m act plain = absurd plain

pub plain_feed : (g : History) (m : ℕ) (act : Act) (s : Bytes) → IsPlain act → moment g ≤ m → some_waits g m ≡ false → feed (record { moment = m; act = act } ∷ g) s ≡ feed g s
plain_feed g m act s plain le calm = ap (λ ps. feed_of ps m s) (plain_standing g m act plain) ∙ still_feed g m s le calm

pub plain_waiting : (g : History) (m : ℕ) (act : Act) (s : Bytes) → IsPlain act → moment g ≤ m → some_waits g m ≡ false → waiting (record { moment = m; act = act } ∷ g) s ≡ waiting g s
plain_waiting g m act s plain le calm = ap (λ ps. waiting_of ps m s) (plain_standing g m act plain) ∙ still_waiting g m s le calm

pub attempt_feed : (g : History) (m : ℕ) (t : Bytes) (k : ℕ) (s : Bytes) → moment g ≤ m → some_waits g m ≡ false → feed (record { moment = m; act = Attempt t k } ∷ g) s ≡ feed g s
attempt_feed g m t k s le calm = still_feed g m s le calm

pub receipt_feed : (g : History) (m : ℕ) (t : Bytes) (n : ℕ) (s : Bytes) → moment g ≤ m → some_waits g m ≡ false → feed (record { moment = m; act = Receipt t n } ∷ g) s ≡ feed g s
receipt_feed g m t n s le calm = still_feed g m s le calm

pub halt_feed : (g : History) (m : ℕ) (s : Bytes) → moment g ≤ m → some_waits g m ≡ false → feed (record { moment = m; act = Halt } ∷ g) s ≡ feed g s
halt_feed g m s le calm = still_feed g m s le calm

-- ---- behind a tick nothing waits that is released by its moment

none_between : (m : ℕ) (r : ℕ) → comes_by m m r ≡ false
none_between m r = apart r
  where
    apart : (r : ℕ) → (nat_lt m r && nat_le r m) ≡ false
    apart r = elim (cases_lt m r) [
      | inl lt ↦ let b : nat_le r m ≡ false = grind (arith, nat_tests) in let a : nat_lt m r ≡ true = grind (arith, nat_tests) in rw (a, b) refl
      | inr le ↦ let a : nat_lt m r ≡ false = grind (arith, nat_tests) in rw a refl
    ]

no_due : (m : ℕ) (due : List Due) → list_any (λ (d : Due). comes_by m m d.release) due ≡ false
no_due m [] = refl
no_due m (d ∷ due) = rw (none_between m d.release, no_due m due) refl

no_pubs : (m : ℕ) (ps : List Pub) → list_any (is_coming m m) ps ≡ false
no_pubs m [] = refl
no_pubs m (p ∷ ps) = rw (none_between m p.release, no_due m p.due, no_pubs m ps) refl

pub ticked_calm : (h : History) (m : ℕ) → some_waits (ticked h m) m ≡ false
ticked_calm h m = by (some_waits h m) refl
  where
    by : (b : Bool) → some_waits h m ≡ b → some_waits (ticked h m) m ≡ false
    by true e = rw e (no_pubs m (standing h))
    by false e = rw e e

pub ticked_moment : (h : History) (m : ℕ) → moment h ≤ m → moment (ticked h m) ≤ m
ticked_moment h m le = by (some_waits h m) refl
  where
    by : (b : Bool) → some_waits h m ≡ b → moment (ticked h m) ≤ m
    by true e = rw e (omega arith)
    by false e = rw e le

pub ticked_legal : (h : History) (m : ℕ) → IsLegal h → moment h ≤ m → IsLegal (ticked h m)
ticked_legal h m legal le = by (some_waits h m) refl
  where
    by : (b : Bool) → some_waits h m ≡ b → IsLegal (ticked h m)
    by true e = rw e (legal, le, e)
    by false e = rw e legal
