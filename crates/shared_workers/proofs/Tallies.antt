-- One round more.
use Rattle.std.proofs.Common.{◌≡◌, ℕ, ◌+◌, List, [], ◌∷◌, ◌++◌, Bool, false, min, ap, sym, subst, ◌∙◌, append_assoc, append-nil, arith}
use Rattle.news_types.specs.Names.{Bytes}
use Rattle.news_io.specs.Clock.{ClockMeaning}
use Rattle.news_io.specs.Link.{LinkMeaning, Passed}
use Rattle.publish_workers.specs.declared.worked.Worked.{Worked}
use Rattle.publish_workers.specs.Links.{Passes, Reads}
use Rattle.shared_workers.specs.declared.tally.Tally.{Tally}
use Rattle.shared_workers.specs.declared.worker.WorkerTurn.{WorkerTurn}
use Rattle.shared_workers.specs.Rounds.{Round, answer_of, is_stopping, deed_readings, deed_frames, deed_replies, deed_passed}
use Rattle.shared_workers.specs.Tallies.{gather, all_readings, all_frames, all_replies, all_passed, finds_stop, GoOn, is_delivered, is_failed, is_answered, one_if, how_many, MOST, Counted}
use Rattle.shared_workers.proofs.Passing.{passes_then, reads_then}

-- what one more adds
pub gather_more : {S A : Type 0} (f : S → List A) (ss : List S) (s : S) → gather f (ss ++ s ∷ []) ≡ gather f ss ++ f s
gather_more f [] s = append-nil (f s)
gather_more f (t ∷ ss) s = ap (λ l. f t ++ l) (gather_more f ss s) ∙ sym (append_assoc (f t) (gather f ss) (f s))

pub go_on_more : (rounds : List Round) (r : Round) → GoOn rounds → finds_stop r ≡ false → GoOn (rounds ++ r ∷ [])
go_on_more [] r g is = (is, tt)
go_on_more (s ∷ rounds) r g is = (g.0, go_on_more rounds r g.1 is)

many_more : (test : Worked → Bool) (rounds : List Round) (r : Round) → how_many test (rounds ++ r ∷ []) ≡ how_many test rounds + one_if (is_answered test (answer_of r.deed))
many_more test [] r = omega arith
many_more test (s ∷ rounds) r = let rest = many_more test rounds r in omega (arith, rest)

pub counted_more : (rounds : List Round) (r : Round) (tally tally' : Tally) → Counted rounds tally → tally'.delivered ≡ min (tally.delivered + one_if (is_answered is_delivered (answer_of r.deed))) MOST
    → tally'.failed ≡ min (tally.failed + one_if (is_answered is_failed (answer_of r.deed))) MOST → Counted (rounds ++ r ∷ []) tally'
counted_more rounds r tally tally' c d f = let m = many_more is_delivered rounds r in let n = many_more is_failed rounds r in record {
  delivered_is = omega (arith, c.delivered_is, d, m);
  failed_is = omega (arith, c.failed_is, f, n);
}

-- what passed over the link in some rounds, and then in one more
pub passes_more : {L : Type 0} (link : LinkMeaning L) (old mid new : L) (rounds : List Round) (r : Round) → Passes link old mid (all_frames rounds) (all_replies rounds) (all_passed rounds)
    → Passes link mid new (deed_frames r.deed) (deed_replies r.deed) (deed_passed r.deed) → Passes link old new (all_frames (rounds ++ r ∷ [])) (all_replies (rounds ++ r ∷ [])) (all_passed (rounds ++ r ∷ []))
passes_more link old mid new rounds r one two =
    subst (λ (l : List (Bytes × Bytes)). Passes link old new l (all_replies (rounds ++ r ∷ [])) (all_passed (rounds ++ r ∷ []))) (sym (gather_more (λ (s : Round). deed_frames s.deed) rounds r))
    (subst (λ (l : List (Bytes × Bytes)). Passes link old new (all_frames rounds ++ deed_frames r.deed) l (all_passed (rounds ++ r ∷ []))) (sym (gather_more (λ (s : Round). deed_replies s.deed) rounds r))
    (subst (λ (l : List Passed). Passes link old new (all_frames rounds ++ deed_frames r.deed) (all_replies rounds ++ deed_replies r.deed) l) (sym (gather_more (λ (s : Round). deed_passed s.deed) rounds r))
    (passes_then link old mid new (all_frames rounds) (deed_frames r.deed) (all_replies rounds) (deed_replies r.deed) (all_passed rounds) (deed_passed r.deed) one two)))

-- what the clock gave in them
pub reads_more : {C : Type 0} (clock : ClockMeaning C) (old mid new : C) (rounds : List Round) (r : Round) → Reads clock old mid (all_readings rounds) → Reads clock mid new (deed_readings r.deed)
    → Reads clock old new (all_readings (rounds ++ r ∷ []))
reads_more clock old mid new rounds r one two =
    subst (λ (l : List ℕ). Reads clock old new l) (sym (gather_more (λ (s : Round). deed_readings s.deed) rounds r)) (reads_then clock old mid new (all_readings rounds) (deed_readings r.deed) one two)

-- and then it rested
pub reads_rested : {C : Type 0} (clock : ClockMeaning C) (old mid new : C) (xs : List ℕ) → Reads clock old mid xs → Reads clock mid new [] → Reads clock old new xs
reads_rested clock old mid new xs one two = subst (λ (l : List ℕ). Reads clock old new l) (append-nil xs) (reads_then clock old mid new xs [] one two)

-- a round that worked found no stop
pub went_on_by : (r : Round) (worked : Worked) → answer_of r.deed ≡ WorkerTurn.Worked worked → finds_stop r ≡ false
went_on_by r worked is = ap is_stopping is
