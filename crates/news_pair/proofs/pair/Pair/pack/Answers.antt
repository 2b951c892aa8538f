use Rattle.std.proofs.Common.{rules, ◌≡◌, ◌∙◌, ap, sym, refl, arith, length, map}
use Rattle.std.proofs.lemmas.List.{drop_all, length-map}
use Rattle.entry_codec.specs.Spelling.{entry_bytes}
use Rattle.entry_segments.specs.Spelled.{entry_in, entries_in}
use Rattle.entry_segments.proofs.Spelled.{entries_are}
use Rattle.news_journal.specs.Calls.{append_calls}
use Rattle.news_pair.proofs.Chains.{stays_then}
use Rattle.news_pair.proofs.Filled.{is_shut, not_full, no_damage, none_listed, none_lacking, all_in_side, fills_none, entries_filled, filled_as, full_as}
use Rattle.news_pair.proofs.pair.Pair.pack.Goals as goal

pub reread-requires : goal.reread-requires
reread-requires g c = record { shut = is_shut c.args.self.log.ajar c.requires.quiet }

pub returns-in-Err-clause-full : goal.returns-in-Err-clause-full
returns-in-Err-clause-full g c = λ h pairs. not_full _ _ _ c.in-Err.failed.2 c.in-Err.ensures.full

pub returns-then-is_empty-clause-count : goal.returns-then-is_empty-clause-count
returns-then-is_empty-clause-count g c = λ h pairs.
    let p = c.in-Ok.read.0 in
    let one = c.in-Ok.ensures.pairs h pairs in
    let none : length c.in-Ok.read.1.items ≡ 0 = search rules in
    (none_lacking g.D.Disk.disk p.log p.side p.store p.base p.packed p.end h one (none_listed (entries_in c.in-Ok.read.1.items) _ (c.in-Ok.ensures.entries h pairs) (length-map c.in-Ok.read.1.items entry_in ∙ none))).0

pub returns-then-is_empty-clause-emptied : goal.returns-then-is_empty-clause-emptied
returns-then-is_empty-clause-emptied g c = λ h pairs.
    let p = c.in-Ok.read.0 in
    let one = c.in-Ok.ensures.pairs h pairs in
    let none : length c.in-Ok.read.1.items ≡ 0 = search rules in
    let nothing = none_listed (entries_in c.in-Ok.read.1.items) _ (c.in-Ok.ensures.entries h pairs) (length-map c.in-Ok.read.1.items entry_in ∙ none) in
    record {
      log = nothing;
      side = sym (none_lacking g.D.Disk.disk p.log p.side p.store p.base p.packed p.end h one nothing).1;
    }

pub returns-then-is_empty-clause-room : goal.returns-then-is_empty-clause-room
returns-then-is_empty-clause-room g c = λ h pairs.
    let p = c.in-Ok.read.0 in
    let one = c.in-Ok.ensures.pairs h pairs in
    let none : length c.in-Ok.read.1.items ≡ 0 = search rules in
    let nothing = none_listed (entries_in c.in-Ok.read.1.items) _ (c.in-Ok.ensures.entries h pairs) (length-map c.in-Ok.read.1.items entry_in ∙ none) in
    let all = (none_lacking g.D.Disk.disk p.log p.side p.store p.base p.packed p.end h one nothing).0 in
    let left = drop_all c.args.self.packed h (omega (arith, all, c.in-Ok.ensures.packed)) in
    entries_filled _ _ _ _ (entries_in c.in-Ok.read.1.items) _ _ refl refl (entries_are c.in-Ok.read.1.items c.in-Ok.ensures.each) (c.in-Ok.ensures.entries h pairs ∙ nothing ∙ sym left) (fills_none _ _ (entries_in c.in-Ok.read.1.items) (length-map c.in-Ok.read.1.items entry_in ∙ none))

pub returns-then-is_empty-clause-quiet : goal.returns-then-is_empty-clause-quiet
returns-then-is_empty-clause-quiet g c = ap append_calls c.in-Ok.ensures.shut

pub returns-in-Ok-packed_with-clause-list : goal.returns-in-Ok-packed_with-clause-list
returns-in-Ok-packed_with-clause-list g c = λ h pairs.
    let r = c.in-Ok.ensures in
    let are = ap (λ ps. map entry_bytes (entries_in ps)) c.deref.ensures.value ∙ r.entries h pairs in
    c.in-Ok-packed_with.ensures.pairs h (r.pairs h pairs) r.shut are

pub returns-in-Ok-packed_with-clause-count : goal.returns-in-Ok-packed_with-clause-count
returns-in-Ok-packed_with-clause-count g c = λ h pairs.
    let r = c.in-Ok.ensures in
    let are = ap (λ ps. map entry_bytes (entries_in ps)) c.deref.ensures.value ∙ r.entries h pairs in
    (c.in-Ok-packed_with.ensures.packed h (r.pairs h pairs) r.shut are).0

pub returns-in-Ok-packed_with-clause-emptied : goal.returns-in-Ok-packed_with-clause-emptied
returns-in-Ok-packed_with-clause-emptied g c = λ h pairs.
    let r = c.in-Ok.ensures in
    let are = ap (λ ps. map entry_bytes (entries_in ps)) c.deref.ensures.value ∙ r.entries h pairs in
    let p = c.in-Ok-packed_with.pair in
    let e = c.in-Ok-packed_with.ensures in
    let n = e.packed h (r.pairs h pairs) r.shut are in
    let all = all_in_side g.D.Disk.disk p.log p.side p.store p.base p.packed p.end h (e.pairs h (r.pairs h pairs) r.shut are) n.1 n.0 in
    record { log = all.0; side = all.1 }

pub returns-in-Ok-packed_with-clause-crash : goal.returns-in-Ok-packed_with-clause-crash
returns-in-Ok-packed_with-clause-crash g c = λ h pairs.
    let r = c.in-Ok.ensures in
    let are = ap (λ ps. map entry_bytes (entries_in ps)) c.deref.ensures.value ∙ r.entries h pairs in
    stays_then g.D.Disk.disk c.args.self.store h c.in-Ok.read.0.store _ _ _ _ _ _ r.store (r.crash h pairs) (c.in-Ok-packed_with.ensures.crash h (r.pairs h pairs) r.shut are)

pub returns-in-Ok-packed_with-clause-room : goal.returns-in-Ok-packed_with-clause-room
returns-in-Ok-packed_with-clause-room g c = λ h pairs.
    let r = c.in-Ok.ensures in
    let are = ap (λ ps. map entry_bytes (entries_in ps)) c.deref.ensures.value ∙ r.entries h pairs in
    filled_as c.args.self.end c.in-Ok.read.0.end c.args.self.packed c.in-Ok.read.0.packed h _ r.end r.packed (c.in-Ok-packed_with.ensures.filled h (r.pairs h pairs) r.shut are)

pub returns-in-Ok-packed_with-clause-quiet : goal.returns-in-Ok-packed_with-clause-quiet
returns-in-Ok-packed_with-clause-quiet g c = ap append_calls (c.in-Ok-packed_with.ensures.shut c.in-Ok.ensures.shut)

pub returns-clause-crash_err : goal.returns-clause-crash_err
returns-clause-crash_err g c = λ h pairs.
    let r = c.in-Ok.ensures in
    let are = ap (λ ps. map entry_bytes (entries_in ps)) c.deref.ensures.value ∙ r.entries h pairs in
    stays_then g.D.Disk.disk c.args.self.store h c.in-Ok.read.0.store _ _ _ _ _ _ r.store (r.crash h pairs) (c.in-Err-packed_with.ensures.crash_err h (r.pairs h pairs) r.shut are)

pub returns-clause-damage : goal.returns-clause-damage
returns-clause-damage g c = λ h pairs. no_damage _ c.in-Err-packed_with.failed.2 c.in-Err-packed_with.ensures.whole

pub returns-clause-full : goal.returns-clause-full
returns-clause-full g c = λ h pairs.
    let r = c.in-Ok.ensures in
    let are = ap (λ ps. map entry_bytes (entries_in ps)) c.deref.ensures.value ∙ r.entries h pairs in
    full_as c.args.self.end c.in-Ok.read.0.end c.args.self.packed c.in-Ok.read.0.packed h c.in-Err-packed_with.failed.2 r.end r.packed (c.in-Err-packed_with.ensures.full h (r.pairs h pairs) r.shut are)
