use Rattle.std.proofs.Common.{◌≡◌, ◌+◌, ℕ, List, drop, sym, ◌∙◌, ap, subst}
use Rattle.std.proofs.lemmas.List.{drop-drop}
use Rattle.news_journal.specs.Window.{Shows}
use Rattle.news_journal.proofs.Looks.{cut_payload, whole_record}
use Rattle.news_journal.proofs.opening.read_record.Goals as goal

pub returns-in_default-2-clause-reads : goal.returns-in_default-2-clause-reads
returns-in_default-2-clause-reads g c = λ told shows n.
    let head = rw c.in-Some.is at (c.in_ok-length.ensures.reads told shows) in
    let seen_same = c.read_head.ensures.still.seen_same in
    let shows_on = subst (Shows c.read_head.new.window) (sym seen_same) (c.in_ok-length.ensures.shows told shows) in
    let less = rw c.in_default-2.is at (c.in_ok-bytes.ensures.reads (c.read_head.ensures.still.told told) shows_on) in
    let same : drop (c.args.gate + 5) (g.D.Disk.disk.seen c.read_head.new.disk) ≡ drop 5 (drop c.args.gate (g.D.Disk.disk.seen c.args.disk.now)) =
    ap (λ (l : List ℕ). drop (c.args.gate + 5) l) seen_same ∙ sym (drop-drop 5 c.args.gate (g.D.Disk.disk.seen c.args.disk.now)) in
    cut_payload n c.args.gate c.in-Some.length _ _ head.0 head.1 same less

pub returns-clause-reads : goal.returns-clause-reads
returns-clause-reads g c = λ told shows.
    let head = rw c.in-Some.is at (c.in_ok-length.ensures.reads told shows) in
    let seen_same = c.read_head.ensures.still.seen_same in
    let shows_on = subst (Shows c.read_head.new.window) (sym seen_same) (c.in_ok-length.ensures.shows told shows) in
    let payload = rw c.in-Some-2.is at (c.in_ok-bytes.ensures.reads (c.read_head.ensures.still.told told) shows_on) in
    let same : drop (c.args.gate + 5) (g.D.Disk.disk.seen c.read_head.new.disk) ≡ drop 5 (drop c.args.gate (g.D.Disk.disk.seen c.args.disk.now)) =
    ap (λ (l : List ℕ). drop (c.args.gate + 5) l) seen_same ∙ sym (drop-drop 5 c.args.gate (g.D.Disk.disk.seen c.args.disk.now)) in
    whole_record c.in-Some.length c.args.gate _ _ _ head.0 (head.1, head.2) same payload
