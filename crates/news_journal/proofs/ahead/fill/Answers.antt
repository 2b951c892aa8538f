use Rattle.std.proofs.Common.{◌≡◌, ◌+◌, ℕ, List, drop, sym, ◌∙◌, ap, rules}
use Rattle.std.proofs.lemmas.List.{drop-drop}
use Rattle.news_io.proofs.Runs.{elapses_weaker}
use Rattle.news_journal.proofs.Pieces.{one_more_read, still_then}
use Rattle.news_journal.proofs.ahead.fill.Goals as goal

pub loop-done-preserved : goal.loop-done-preserved
loop-done-preserved g c =
    let inv = c.loop-done.invariant in
    let S = drop c.args.at (g.D.Disk.disk.seen c.args.disk.now) in
    let same : drop (c.args.at + c.loop-done.done) (g.D.Disk.disk.seen c.loop-done.disk) ≡ drop c.loop-done.done S =
    ap (λ (l : List ℕ). drop (c.args.at + c.loop-done.done) l) inv.still.seen_same ∙ sym (drop-drop c.loop-done.done c.args.at (g.D.Disk.disk.seen c.args.disk.now)) in
    record {
      within = search rules;
      still = still_then _ _ _ _ inv.still (record { told = c.read.ensures.told; seen_same = c.read.ensures.seen; crash = c.read.ensures.crash; time = elapses_weaker _ _ _ _ _ _ c.read.ensures.time c.read.ensures.crash });
      bytes = λ told.
          let now = c.in_ok-count.ensures.bytes (inv.still.told told) in
          one_more_read S _ c.loop-done.into _ _ c.loop-done.done c.in_ok-count.count _ same (inv.bytes told).0 now.0 (inv.bytes told).1 now.1;
      calm = c.in_ok-count.ensures.count.calm ∙ inv.calm;
    }
