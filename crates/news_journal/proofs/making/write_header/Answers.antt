use Rattle.std.proofs.Common.{◌≡◌, inl, inr, ℕ, List, length, refl, ◌∙◌, ap, subst, arith, rules}
use Rattle.std.proofs.lemmas.Result.{on_ok_weaker}
use Rattle.news_io.specs.Disk.{Torn}
use Rattle.news_io.proofs.Runs.{elapses_weaker, elapses_then}
use Rattle.news_journal.proofs.Made.{bare_file, first_crash, second_crash, third_crash, made_first, made_second, made_third, length-header}
use Rattle.news_journal.proofs.making.write_header.Goals as goal

pub returns-in_err-write_through-clause-crash : goal.returns-in_err-write_through-clause-crash
returns-in_err-write_through-clause-crash g c = λ told empty.
    let bare = bare_file g.D.Disk.disk c.args.disk.now told empty in
    let size : length c.behind_first-behind.result ≡ 64 = search rules in
    elapses_weaker _ _ _ _ _ _ (c.write_through.ensures.time told)
    (λ f step. first_crash c.args.header.now _ c.behind_first-behind.ensures.bytes size c.behind_first-behind.ensures.form f (subst (λ (d : List ℕ). Torn 0 1 d f) (bare step.0 (inr step.1)) step.2))

pub returns-in_err-write_through-2-clause-crash : goal.returns-in_err-write_through-2-clause-crash
returns-in_err-write_through-2-clause-crash g c = λ told empty.
    let bare = bare_file g.D.Disk.disk c.args.disk.now told empty in
    let size : length c.behind_first-behind.result ≡ 64 = search rules in
    let one = made_first _ _ (bare _ (inl refl)) (c.in_ok-write_through.ensures.written told (omega arith)) in
    elapses_then _ _ _ _ _ _ _
    (elapses_weaker _ _ _ _ _ _ (c.write_through.ensures.time told)
    (λ f step. first_crash c.args.header.now _ c.behind_first-behind.ensures.bytes size c.behind_first-behind.ensures.form f (subst (λ (d : List ℕ). Torn 0 1 d f) (bare step.0 (inr step.1)) step.2)))
    (elapses_weaker _ _ _ _ _ _ (c.write_through-2.ensures.time (c.write_through.ensures.told told))
    (λ f step. second_crash c.args.header.now _ c.behind_first-behind.ensures.bytes size c.behind_first-behind.ensures.form f _ (subst (λ (d : List ℕ). Torn 1 _ d f) (c.in_ok-write_through.ensures.durable told step.0 step.1 ∙ one) step.2)))

pub returns-clause-seen : goal.returns-clause-seen
returns-clause-seen g c = λ told empty.
    let bare = bare_file g.D.Disk.disk c.args.disk.now told empty in
    let one = made_first _ _ (bare _ (inl refl)) (c.in_ok-write_through.ensures.written told (omega arith)) in
    let told_on = c.write_through.ensures.told told in
    let two = made_second _ _ _ one (c.in_ok-write_through-2.ensures.written told_on (omega (arith, ap length one))) in
    on_ok_weaker c.write_through-3.result (λ holds. made_third _ _ _ two holds ∙ c.behind_first-behind.ensures.bytes) (c.write_through-3.ensures.written (c.write_through-2.ensures.told told_on) (omega arith))

pub returns-clause-crash : goal.returns-clause-crash
returns-clause-crash g c = λ told empty.
    let bare = bare_file g.D.Disk.disk c.args.disk.now told empty in
    let size : length c.behind_first-behind.result ≡ 64 = search rules in
    let one = made_first _ _ (bare _ (inl refl)) (c.in_ok-write_through.ensures.written told (omega arith)) in
    let told_on = c.write_through.ensures.told told in
    let two = made_second _ _ _ one (c.in_ok-write_through-2.ensures.written told_on (omega (arith, ap length one))) in
    elapses_then _ _ _ _ _ _ _
    (elapses_then _ _ _ _ _ _ _
    (elapses_weaker _ _ _ _ _ _ (c.write_through.ensures.time told)
    (λ f step. first_crash c.args.header.now _ c.behind_first-behind.ensures.bytes size c.behind_first-behind.ensures.form f (subst (λ (d : List ℕ). Torn 0 1 d f) (bare step.0 (inr step.1)) step.2)))
    (elapses_weaker _ _ _ _ _ _ (c.write_through-2.ensures.time told_on)
    (λ f step. second_crash c.args.header.now _ c.behind_first-behind.ensures.bytes size c.behind_first-behind.ensures.form f _ (subst (λ (d : List ℕ). Torn 1 _ d f) (c.in_ok-write_through.ensures.durable told step.0 step.1 ∙ one) step.2))))
    (elapses_weaker _ _ _ _ _ _ (c.write_through-3.ensures.time (c.write_through-2.ensures.told told_on))
    (λ f step. third_crash c.args.header.now _ c.behind_first-behind.ensures.bytes size c.behind_first-behind.ensures.form f (subst (λ (d : List ℕ). Torn 0 1 d f) (c.in_ok-write_through-2.ensures.durable told_on step.0 step.1 ∙ two) step.2)))

pub returns-clause-long : goal.returns-clause-long
returns-clause-long g c = let size : length c.behind_first-behind.result ≡ 64 = search rules in length-header c.args.header.now _ c.behind_first-behind.ensures.bytes size c.behind_first-behind.ensures.form
