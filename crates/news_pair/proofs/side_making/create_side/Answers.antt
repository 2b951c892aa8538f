use Rattle.std.proofs.Common.{◌≡◌, ◌≤◌, inl, ℕ, List, length, ap, subst, ◌∙◌, arith, rules}
use Rattle.news_io.specs.Disk.{Torn}
use Rattle.news_journal.proofs.Time.{elapses_weaker, elapses_then}
use Rattle.news_pair.proofs.Sides.{first_stays, behind_written, first_torn, first_written}
use Rattle.news_pair.proofs.side_making.create_side.Goals as goal

pub returns-in_err-write_through-clause-crash : goal.returns-in_err-write_through-clause-crash
returns-in_err-write_through-clause-crash g c = λ told only bare.
    let first = c.in_ok-clear_first.ensures.seen told bare in
    let only' = c.in_ok-clear_first.ensures.durable told only in
    elapses_then _ _ _ _ _ _ _
    (elapses_weaker _ _ _ _ _ _ (c.clear_first.ensures.crash told only bare) (λ f b. inl b))
    (elapses_weaker _ _ _ _ _ _ (c.write_through.ensures.time (c.clear_first.ensures.told told))
    (λ f step. inl (first_stays first.0 _ first.1 f first.2 (subst (λ (d : List ℕ). Torn 1 _ d f) (only' step.0 step.1 ∙ first.3) step.2))))

pub returns-in_err-write_through-2-clause-crash : goal.returns-in_err-write_through-2-clause-crash
returns-in_err-write_through-2-clause-crash g c = λ told only bare.
    let first = c.in_ok-clear_first.ensures.seen told bare in
    let only' = c.in_ok-clear_first.ensures.durable told only in
    let told' = c.clear_first.ensures.told told in
    let size : length c.behind_first-behind.result ≡ 64 = search rules in
    let long : 1 ≤ length (g.D.Disk.disk.seen c.clear_first.new.disk) = omega (arith, ap length first.3) in
    let second = behind_written first.0 first.1 _ _ _ first.3 (c.in_ok-write_through.ensures.written told' long) size in
    elapses_then _ _ _ _ _ _ _
    (elapses_weaker _ _ _ _ _ _ (c.clear_first.ensures.crash told only bare) (λ f b. inl b))
    (elapses_then _ _ _ _ _ _ _
    (elapses_weaker _ _ _ _ _ _ (c.write_through.ensures.time told')
    (λ f step. inl (first_stays first.0 _ first.1 f first.2 (subst (λ (d : List ℕ). Torn 1 _ d f) (only' step.0 step.1 ∙ first.3) step.2))))
    (elapses_weaker _ _ _ _ _ _ (c.write_through-2.ensures.time (c.write_through.ensures.told told'))
    (λ f step. first_torn c.args.store.now _ c.behind_first-behind.ensures first.0 _ step.0 f (c.in_ok-write_through.ensures.durable told' step.0 step.1 ∙ second) step.2)))

pub returns-clause-seen : goal.returns-clause-seen
returns-clause-seen g c = λ told bare.
    let first = c.in_ok-clear_first.ensures.seen told bare in
    let told' = c.clear_first.ensures.told told in
    let size : length c.behind_first-behind.result ≡ 64 = search rules in
    let long : 1 ≤ length (g.D.Disk.disk.seen c.clear_first.new.disk) = omega (arith, ap length first.3) in
    let second = behind_written first.0 first.1 _ _ _ first.3 (c.in_ok-write_through.ensures.written told' long) size in
    (_, first_written c.args.store.now _ c.behind_first-behind.ensures first.0 _ _ _ second (c.in_ok-write_through-2.ensures.written (c.write_through.ensures.told told') (omega arith)))

pub returns-clause-crash : goal.returns-clause-crash
returns-clause-crash g c = λ told only bare.
    let first = c.in_ok-clear_first.ensures.seen told bare in
    let only' = c.in_ok-clear_first.ensures.durable told only in
    let told' = c.clear_first.ensures.told told in
    let size : length c.behind_first-behind.result ≡ 64 = search rules in
    let long : 1 ≤ length (g.D.Disk.disk.seen c.clear_first.new.disk) = omega (arith, ap length first.3) in
    let second = behind_written first.0 first.1 _ _ _ first.3 (c.in_ok-write_through.ensures.written told' long) size in
    elapses_then _ _ _ _ _ _ _
    (elapses_weaker _ _ _ _ _ _ (c.clear_first.ensures.crash told only bare) (λ f b. inl b))
    (elapses_then _ _ _ _ _ _ _
    (elapses_weaker _ _ _ _ _ _ (c.write_through.ensures.time told')
    (λ f step. inl (first_stays first.0 _ first.1 f first.2 (subst (λ (d : List ℕ). Torn 1 _ d f) (only' step.0 step.1 ∙ first.3) step.2))))
    (elapses_weaker _ _ _ _ _ _ (c.write_through-2.ensures.time (c.write_through.ensures.told told'))
    (λ f step. first_torn c.args.store.now _ c.behind_first-behind.ensures first.0 _ step.0 f (c.in_ok-write_through.ensures.durable told' step.0 step.1 ∙ second) step.2)))
