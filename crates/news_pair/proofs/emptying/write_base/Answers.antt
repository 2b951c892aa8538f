use Rattle.std.proofs.Common.{◌≡◌, ◌≤◌, ◌∷◌, ℕ, List, length, ap, subst, ◌∙◌, arith, length-append}
use Rattle.std.proofs.lemmas.Result.{on_ok_weaker}
use Rattle.news_io.specs.Disk.{Holds, Torn}
use Rattle.news_journal.specs.Log.{room_head}
use Rattle.news_journal.proofs.Time.{elapses_weaker}
use Rattle.news_pair.specs.Law.{length-six}
use Rattle.news_pair.proofs.Emptied.{length-room, base_torn, base_written}
use Rattle.news_pair.proofs.emptying.write_base.Goals as goal

pub returns-clause-seen : goal.returns-clause-seen
returns-clause-seen g c = λ told edition b store gate tail b_long store_long is.
    let long : 65 ≤ length (g.D.Disk.disk.seen c.args.disk.now) = omega (arith, ap length is, length-append (room_head edition b store) (gate ∷ tail), length-room edition b store b_long store_long) in
    on_ok_weaker _ (λ holds. base_written edition b store b_long store_long _ _ tail gate c.args.base is (subst (λ (l : List ℕ). Holds (g.D.Disk.disk.seen c.args.disk.now) 10 l (g.D.Disk.disk.seen c.write_through.new.disk)) c.six_bytes.ensures holds))
    (c.write_through.ensures.written told (omega (arith, long)))

pub returns-clause-crash : goal.returns-clause-crash
returns-clause-crash g c = λ told only edition b store gate tail is_edition b_long store_long is shut.
    let six_long : length c.six_bytes.result ≡ 6 = ap length c.six_bytes.ensures ∙ length-six c.args.base in
    elapses_weaker _ _ _ _ _ _ (c.write_through.ensures.time told)
    (λ f step. base_torn edition b store b_long store_long _ f tail gate is_edition is shut (subst (λ (n : ℕ). Torn 10 n (g.D.Disk.disk.seen c.args.disk.now) f) six_long (subst (λ (d : List ℕ). Torn 10 (length c.six_bytes.result) d f) (only step.0 step.1) step.2)))
