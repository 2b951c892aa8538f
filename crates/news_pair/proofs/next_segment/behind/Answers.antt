use Rattle.std.proofs.Common.{◌≡◌, ◌∙◌, ◌-◌, ℕ, sym, ap, subst, arith, length, take, drop, List, length-drop}
use Rattle.std.specs.Prelude.{All}
use Rattle.std.proofs.lemmas.List.{take_all, drop_min, drop-map}
use Rattle.std.proofs.lemmas.List.Elements.{All-drop}
use Rattle.news_types.specs.Names.{Bytes}
use Rattle.news_types.specs.declared.entry.Entry.{Entry}
use Rattle.entry_segments.specs.Segment.{InTime}
use Rattle.entry_segments.specs.Spelled.{entry_in, entries_in, IsPayload}
use Rattle.news_pair.proofs.Filled.{in_time_behind}
use Rattle.news_pair.proofs.next_segment.behind.Goals as goal

all : (n : ℕ) (ps : List Bytes) → take (length ps - n) (drop n ps) ≡ drop n ps
all n ps = take_all (length ps - n) (drop n ps) (omega (arith, length-drop n ps))

entries_behind : (n : ℕ) (ps : List Bytes) → entries_in (take (length ps - n) (drop n ps)) ≡ drop n (entries_in ps)
entries_behind n ps = ap (λ (l : List Bytes). entries_in l) (all n ps) ∙ sym (drop-map entry_in n ps)

pub returns-clause-behind : goal.returns-clause-behind
returns-clause-behind c =
    let ps = c.args.payloads.now in
    ap (λ (l : List Bytes). entries_in l) (all c.min.result ps ∙ ap (λ (n : ℕ). drop n ps) c.min.ensures ∙ drop_min c.args.count ps) ∙ sym (drop-map entry_in c.args.count ps)

pub returns-clause-each : goal.returns-clause-each
returns-clause-each c = λ each. subst (All IsPayload) (sym (all c.min.result c.args.payloads.now)) (All-drop IsPayload c.min.result c.args.payloads.now each)

pub returns-clause-in_time : goal.returns-clause-in_time
returns-clause-in_time c = λ in_time. subst (InTime 0) (sym (entries_behind c.min.result c.args.payloads.now)) (in_time_behind c.min.result (entries_in c.args.payloads.now) in_time)
