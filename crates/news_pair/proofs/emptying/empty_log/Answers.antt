use Rattle.std.proofs.Common.{◌≡◌, ◌++◌, ◌∷◌, inl, inr, ℕ, List, refl, arith, ◌∙◌, length-append}
use Rattle.std.proofs.lemmas.Result.{on_ok_weaker}
use Rattle.news_journal.specs.Log.{room_head, records}
use Rattle.news_journal.proofs.Time.{elapses_weaker, elapses_then}
use Rattle.news_pair.specs.Pair.{six}
use Rattle.news_pair.proofs.Journals.{shut_long}
use Rattle.news_pair.proofs.Emptied.{length-room, split_first, first_gate, gate_closed}
use Rattle.news_pair.proofs.emptying.empty_log.Goals as goal

pub returns-in_err-write_through-clause-crash : goal.returns-in_err-write_through-clause-crash
returns-in_err-write_through-clause-crash g c = λ told edition b store x q is_edition b_long store_long fit small shut.
    elapses_weaker _ _ _ _ _ _ (c.write_through.ensures.time told) (first_gate edition b store b_long store_long x q _ _ is_edition fit small shut)

pub returns-clause-seen : goal.returns-clause-seen
returns-clause-seen g c = λ told edition b store x q b_long store_long shut.
    let from = shut.each _ (inl refl) in
    let long = shut_long _ _ _ shut in
    let written = c.in_ok-write_through.ensures.written told (omega (arith, long, length-append (room_head edition b store) (records (x ∷ q)), length-room edition b store b_long store_long)) in
    let is = gate_closed edition b store b_long store_long _ _ _ 1 0 (from.1 ∙ split_first (room_head edition b store) x q shut.gate from.0) written in
    on_ok_weaker {Q = (t : List ℕ) × (g.D.Disk.disk.seen c.write_base.new.disk ≡ room_head edition (six c.args.base) store ++ 0 ∷ t)} _ (λ same. (_, same)) (c.write_base.ensures.seen (c.write_through.ensures.told told) edition b store 0 _ b_long store_long is)

pub returns-clause-crash : goal.returns-clause-crash
returns-clause-crash g c = λ told edition b store x q is_edition b_long store_long fit small shut.
    let from = shut.each _ (inl refl) in
    let long = shut_long _ _ _ shut in
    let written = c.in_ok-write_through.ensures.written told (omega (arith, long, length-append (room_head edition b store) (records (x ∷ q)), length-room edition b store b_long store_long)) in
    let is = gate_closed edition b store b_long store_long _ _ _ 1 0 (from.1 ∙ split_first (room_head edition b store) x q shut.gate from.0) written in
    elapses_then _ _ _ _ _ _ _
    (elapses_weaker _ _ _ _ _ _ (c.write_through.ensures.time told) (first_gate edition b store b_long store_long x q _ _ is_edition fit small shut))
    (elapses_weaker _ _ _ _ _ _ (c.write_base.ensures.crash (c.write_through.ensures.told told) (c.in_ok-write_through.ensures.durable told) edition b store 0 _ is_edition b_long store_long is (λ no. absurd (cc no))) (λ f none. inr none))
