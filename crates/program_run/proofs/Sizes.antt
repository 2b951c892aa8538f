-- The bytes that a list takes of a log, and the limits, as a room has them.
use Rattle.std.proofs.Common.{◌≡◌, ℕ, ◌+◌, nat_lt, [], ◌∷◌, Option, Some, None, refl, ap, ◌∙◌, arith}
use Rattle.news_types.specs.declared.entry.Act.{Act}
use Rattle.news_types.specs.declared.entry.Act.TheVariants as act
use Rattle.news_types.specs.declared.entry.Entry.{Entry}
use Rattle.news_types.specs.History.{History}
use Rattle.news_room.specs.Log.{sizes}
use Rattle.news_room.specs.Stands as room
use Rattle.news_room.specs.Steps.{entries}
use Rattle.room_runs.specs.Lines.{passes}
use Rattle.program_run.specs.Opens.{size_of}
use Rattle.program_run.specs.Members.{limit_of}
use Rattle.program_run.proofs.Means.{past}

pub size_same : (h : History) → 65 + sizes h ≡ size_of h
size_same [] = refl
size_same (e ∷ h) = let rest : 65 + sizes h ≡ size_of h = size_same h in omega (arith, rest)

pub limit_same : (a : Act) → room.limit_of a ≡ limit_of a
limit_same act.Advance = refl
limit_same (act.Attempt subscriber k) = refl
limit_same (act.Receipt subscriber n) = refl
limit_same act.Halt = refl
limit_same (act.Ingest provider incoming) = refl
limit_same (act.Request caller number command) = refl

pub passes_past : (h : History) (o : Option Entry) → passes 65 h (entries o) ≡ past o h
passes_past h None = refl
passes_past h (Some e) = ap (λ (n : ℕ). nat_lt n (65 + sizes (e ∷ h))) (limit_same e.act) ∙ ap (λ (n : ℕ). nat_lt (limit_of e.act) n) (size_same (e ∷ h))
