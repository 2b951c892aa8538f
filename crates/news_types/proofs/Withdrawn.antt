-- What waits may go: no feed changes.
use Rattle.std.proofs.Common.{◌≡◌, ◌==◌, ℕ, Bool, true, false, cond, not, Option, Some, None, List, [], ◌∷◌, refl, sym, ap, ◌∙◌, arith}
use Rattle.std.specs.Prelude.{nat_le}
use Rattle.std.proofs.lemmas.Bool.Decides.{nat_tests}
use Rattle.news_types.specs.Names.{Bytes}
use Rattle.news_types.specs.Members.{Each}
use Rattle.news_types.specs.Due.{Pub, is_first_of, withdrawn, release_to, is_by, given_by, left_behind, taken_back}
use Rattle.news_types.specs.Feeds.{Dispatch, is_out, due_to, feed_of}
use Rattle.news_types.proofs.Feeds.{put_filtered, filter_put, rises_due_to}
use Rattle.news_types.proofs.Dues.{IsFair, release_from, release_given}

-- each first publication of the item waits at m
abbrev pub FirstsWait : ℕ → ℕ → List Pub → Type 0
FirstsWait i m [] = Unit {0}
FirstsWait i m (p ∷ ps) = (is_first_of i p ≡ true → nat_le p.release m ≡ false) × FirstsWait i m ps

pub feed_more : (m : ℕ) (s : Bytes) (p : Pub) (ps : List Pub) → feed_of (p ∷ ps) m s ≡ put_filtered (is_out m) p (release_to s p.due) (feed_of ps m s)
feed_more m s p ps = filter_put (is_out m) p (release_to s p.due) (due_to s ps) (rises_due_to s ps)

-- one that waits for everybody is in no feed
not_out : (m : ℕ) (s : Bytes) (p : Pub) (o : Option ℕ) (ds : List Dispatch) → IsFair p → nat_le p.release m ≡ false → release_to s p.due ≡ o → put_filtered (is_out m) p o ds ≡ ds
not_out m s p None ds fair late is = refl
not_out m s p (Some r) ds fair late is =
    let from = release_from p.release s p.due r fair.from is in
    let b : nat_le r m ≡ false = grind (arith, nat_tests) in
    rw b refl

pub withdrawn_feed : (i m : ℕ) (s : Bytes) (ps : List Pub) → Each IsFair ps → FirstsWait i m ps → feed_of (withdrawn i ps) m s ≡ feed_of ps m s
withdrawn_feed i m s [] fair wait = refl
withdrawn_feed i m s (p ∷ ps) fair wait = by (is_first_of i p) refl (withdrawn_feed i m s ps fair.1 wait.1)
  where
    by : (b : Bool) → is_first_of i p ≡ b → feed_of (withdrawn i ps) m s ≡ feed_of ps m s → feed_of (cond (not b) (p ∷ withdrawn i ps) (withdrawn i ps)) m s ≡ feed_of (p ∷ ps) m s
    by true e rest = rest ∙ sym (feed_more m s p ps ∙ not_out m s p (release_to s p.due) (feed_of ps m s) fair.0 (wait.0 e) refl)
    by false e rest = feed_more m s p (withdrawn i ps) ∙ rw rest (sym (feed_more m s p ps))

-- those to whom it is released by m have it before and behind a kill at m
given_put : (m : ℕ) (p : Pub) (o : Option ℕ) (ds : List Dispatch) → put_filtered (is_out m) p (cond (is_by m o) o None) ds ≡ put_filtered (is_out m) p o ds
given_put m p None ds = refl
given_put m p (Some r) ds = by (nat_le r m) refl
  where
    by : (b : Bool) → nat_le r m ≡ b → put_filtered (is_out m) p (cond b (Some r) None) ds ≡ put_filtered (is_out m) p (Some r) ds
    by true early = refl
    by false late = rw late refl

left_put : (m i : ℕ) (s : Bytes) (p : Pub) (ds : List Dispatch) → IsFair p → put_filtered (is_out m) (left_behind m i p) (release_to s (left_behind m i p).due) ds ≡ put_filtered (is_out m) p (release_to s p.due) ds
left_put m i s p ds fair =
    elim (p.item == i) as (λ b. put_filtered (is_out m) p (release_to s (cond b (given_by m p.due) p.due)) ds ≡ put_filtered (is_out m) p (release_to s p.due) ds) [
      | true ↦ ap (λ (o : Option ℕ). put_filtered (is_out m) p o ds) (release_given fair.agree.0 m s p.due fair.agree.1) ∙ given_put m p (release_to s p.due) ds
      | false ↦ refl
    ]

pub taken_back_feed : (i m : ℕ) (s : Bytes) (ps : List Pub) → Each IsFair ps → feed_of (taken_back m i ps) m s ≡ feed_of ps m s
taken_back_feed i m s [] fair = refl
taken_back_feed i m s (p ∷ ps) fair =
    feed_more m s (left_behind m i p) (taken_back m i ps) ∙ left_put m i s p (feed_of (taken_back m i ps) m s) fair.0
    ∙ ap (put_filtered (is_out m) p (release_to s p.due)) (taken_back_feed i m s ps fair.1) ∙ sym (feed_more m s p ps)
