-- What the reader's lists say, at their ends.
use Rattle.std.proofs.Common.{◌≡◌, List, [], ◌∷◌, ◌++◌, refl, ap, ◌∙◌}
use Rattle.archive_query.specs.declared.ask.Ask.{Ask}
use Rattle.archive_query.specs.Query.{Query, And, Or}
use Rattle.archive_query.specs.View.{query_of, queries_of}
use Rattle.archive_query.specs.Reading.{Waits, Opened, Negation, Group, AJoint, all_joined, any_joined, put}
use Rattle.archive_query.proofs.Leads.{at, all_joined-last, any_joined-last}

queries-last : (asks : List Ask) (ask : Ask) → queries_of (asks ++ ask ∷ []) ≡ queries_of asks ++ query_of ask ∷ []
queries-last [] ask = refl
queries-last (a ∷ asks) ask = ap (λ (qs : List Query). query_of a ∷ qs) (queries-last asks ask)

pub all_joined_popped : (old new : List Ask) (ask : Ask) (q : Query) → old ≡ new ++ ask ∷ [] → all_joined (queries_of old) q ≡ all_joined (queries_of new) (And (query_of ask) q)
all_joined_popped old new ask q is = ap (λ (asks : List Ask). all_joined (queries_of asks) q) is ∙ (ap (λ (qs : List Query). all_joined qs q) (queries-last new ask) ∙ all_joined-last (queries_of new) (query_of ask) q)

pub any_joined_popped : (old new : List Ask) (ask : Ask) (q : Query) → old ≡ new ++ ask ∷ [] → any_joined (queries_of old) q ≡ any_joined (queries_of new) (Or (query_of ask) q)
any_joined_popped old new ask q is = ap (λ (asks : List Ask). any_joined (queries_of asks) q) is ∙ (ap (λ (qs : List Query). any_joined qs q) (queries-last new ask) ∙ any_joined-last (queries_of new) (query_of ask) q)

-- a unit behind no negation
pub put_still : (levels : List Opened) (waits : Waits) (q : Query) → ((others : List Opened) → levels ≡ Negation ∷ others → ⊥) → put levels waits q ≡ at levels waits (AJoint q)
put_still [] waits q none = refl
put_still (Negation ∷ levels) waits q none = absurd (none levels refl)
put_still (Group outer ∷ levels) waits q none = refl
