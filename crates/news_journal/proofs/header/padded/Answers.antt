use Rattle.std.proofs.Common.{rules, ◌≡◌, ◌++◌, length, ap, ℕ, List}
use Rattle.std.proofs.lemmas.List.{drop-replicate}
use Rattle.news_journal.proofs.header.padded.Goals as goal

pub returns-clause-bytes : goal.returns-clause-bytes
returns-clause-bytes c =
    let same : c.copy_from_slice.new.self ≡ c.args.name.now = search rules in
    let size : length c.as_bytes-name.result.now ≡ length c.args.name.now = ap length c.as_bytes-name.ensures.bytes in
    rw (same, size) (ap (λ (zeros : List ℕ). c.args.name.now ++ zeros) (drop-replicate (length c.args.name.now) 32 0))
