use Rattle.std.proofs.Common.{◌∙◌, ◌-◌, ◌≡◌, ◌++◌, ℕ, map, length, ap, arith}
use Rattle.std.specs.Char.{to_ascii_lowercase}
use Rattle.news_types.specs.Names.{Bytes}
use Rattle.archive_query.proofs.Mending.{cut_behind}
use Rattle.archive_query.proofs.near.put_near.Goals as goal

pub returns : goal.returns
returns c =
    let was = c.args.out.now.items in
    let start : c.len-start.result ≡ length was = omega (arith, c.len-start.ensures) in
    let len : c.put_lower.new.out.len ≡ length c.put_lower.new.out.items = omega arith in
    let lower = c.in_ok-put_lower.ensures ∙ ap (λ (t : Bytes). was ++ map to_ascii_lowercase t) c.as_bytes.ensures.value in
    cut_behind was c.args.text.now c.put_lower.new.out.items c.deref_mut.result.now c.mend-rest.new.into c.mend-rest.result.now c.truncate.new.self.items c.len-start.result
    c.put_lower.new.out.len (c.len.result - length c.mend-rest.result.now) c.deref_mut.ensures.value lower start len (ap (λ (n : ℕ). n - length c.mend-rest.result.now) c.len.ensures)
    c.mend-rest.ensures c.truncate.ensures.items
